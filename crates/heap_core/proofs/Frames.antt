-- A step that leaves the words of a block and of its parts, its thing and what is in progress there leaves its rule.
use Rattle.std.proofs.Common.{◌≡◌, ◌≤◌, ◌<◌, ◌⊎◌, ◌==◌, ◌/◌, ◌%◌, ℕ, zero, suc, ◌+◌, Bool, true, false, cond, List, [], ◌∷◌, length, Option, Some, None, refl, sym, ap, ◌∙◌, subst, inl, inr, ⊎_elim, arith, eq-eqb, ne_eqb}
use Rattle.std.specs.Option.{option_map}
use mathlib.Core.Logic.{dite}
use native.Mathlib.Decide.{ℕ_discrete}
use Rattle.rb_model.specs.declared.value.Id.{Id}
use Rattle.rb_model.specs.Ends.{End as Ending, Value, Raised, Steps, Full, Sink, Memory}
use Rattle.rb_model.specs.Things.{Field, Mutex, Thread, ThreadState}
use Rattle.rb_model.specs.Values.{Value as Val, Nil, False, True, Int, Sym, Str, To}
use Rattle.rb_shared.specs.Lists.{Has, Each}
use Rattle.rb_shared.specs.Step.{ended_thing}
use Rattle.shape_core.specs.declared.edge.Kind.{Kind}
use Rattle.shape_core.specs.declared.edge.Kind.TheVariants.{IntLoc, AnyLoc}
use Rattle.shape_core.specs.Path.{Path}
use Rattle.shape_core.specs.Shape.{Shape}
use Rattle.shared_run.specs.Run.{Sunk, IsThread}
use Rattle.heap_core.specs.Places.{turn_word}
use Rattle.heap_core.specs.declared.line.Line.{Line}
use Rattle.heap_core.specs.Handing.{Handed}
use Rattle.heap_core.specs.Blocks.{Block, ObjectAt, ChunkAt, MutexAt, ThreadAt, TextAt, BoxAt, ShapeAt, LockAt, TheTurn, home_of, id_of, number_of, InFamily, LinkAt}
use Rattle.heap_core.specs.Spelling.{Spells, SpellsAt}
use Rattle.heap_core.specs.View.{Holder, Busy, Idle, Locked, Turned, Ends, busy_at}
use Rattle.heap_core.specs.Moment.{Moment, At, word, thing_at, size_at, is_over, owner_in}
use Rattle.heap_core.specs.Locks.{LockStands}
use Rattle.heap_core.specs.Objects.{ObjectStands, FieldStands, LinksChunk, IsPlace, lock_of, shape_of, chunk_of}
use Rattle.heap_core.specs.Shapes.{ShapeStands, Leads, IsLink}
use Rattle.heap_core.specs.Links.{IsNth, Joins}
use Rattle.heap_core.specs.Mutexes.{MutexStands, owner_of}
use Rattle.heap_core.specs.Threads.{EndIs, TellsEnd, SaysEnd, ThreadStands, state_of, result_of}
use Rattle.heap_core.specs.Turns.{Sinks, LinesTell, IsHanded, HasTurn, HasNone, TurnStands}
use Rattle.heap_core.specs.Rule.{Stands}

-- each of the one list is in the other
abbrev pub Among : List Block → List Block → Type 0
Among bs cs = (b : Block) → Has bs b → Has cs b

-- a thread has ended where it had
abbrev pub SameOver : Moment → Moment → Type 0
SameOver m m' = (t : ℕ) → is_over m' t ≡ is_over m t

-- thread t has ended now, and of any other the same holds as before
abbrev pub EndsNow : Moment → Moment → ℕ → Type 0
EndsNow m m' t = (is_over m' t ≡ true) × ((u : ℕ) → (u ≡ t → ⊥) → is_over m' u ≡ is_over m u)

-- the thing of a block is what the end of a thread makes of it, which is not the thread that the block stands for
abbrev pub FollowsEnd : Moment → Moment → Block → Id → Type 0
FollowsEnd m m' b id = (t : ℕ) × (how : Ending) × (thing_at m' id ≡ option_map (ended_thing t how) (thing_at m id)) × EndsNow m m' t × (number_of b ≡ Some t → ⊥)

-- or it is as it was
abbrev pub Follows : Moment → Moment → Block → Id → Type 0
Follows m m' b id = ((thing_at m' id ≡ thing_at m id) × SameOver m m') ⊎ FollowsEnd m m' b id

-- what is in progress at a place afterwards was in progress there before, at the same live seat of the same thread
abbrev pub WasBusy : Moment → ℕ → ℕ → Holder → Type 0
WasBusy m at j k' = (k : Holder) × At m.holders j k × (k.live ≡ true) × (busy_at at k.doing ≡ busy_at at k'.doing) × (k.view.thread ≡ k'.view.thread)

abbrev pub Stays : Moment → Moment → ℕ → Type 0
Stays m m' at = (j : ℕ) (k' : Holder) → At m'.holders j k' → k'.live ≡ true
    → (busy_at at k'.doing ≡ Idle) ⊎ WasBusy m at j k'

-- What a step elsewhere leaves of the turn: the slot, the lines, that the sink has taken the prints, and who has the turn.
pub record TurnStays (m m' : Moment) : Type 0 where
  pub homes : m'.homes ≡ m.homes
  pub lines : m'.lines ≡ m.lines
  pub sinks : (x : Sunk) → Sinks m x → Sinks m' x
  pub over : SameOver m m'
  pub threads : (t : ℕ) → IsThread m'.run t → IsThread m.run t
  pub keeps : (j : ℕ) (k : Holder) → At m.holders j k → k.live ≡ true → k.view.ended ≡ false → (h : Handed) (out : Bool) → HasTurn k h out
      → (k' : Holder) × At m'.holders j k' × (k'.live ≡ true) × (k'.view.ended ≡ false) × HasTurn k' h out

-- What a step leaves of a block.
pub record Leaves (m m' : Moment) (b : Block) : Type 0 where
  pub words : (i : ℕ) → InFamily m.blocks (home_of b) i → word m' i ≡ word m i
  pub blocks : Among m.blocks m'.blocks
  pub thing : (id : Id) → id_of b ≡ Some id → Follows m m' b id
  pub size : (id : Id) → id_of b ≡ Some id → size_at m' id ≡ size_at m id
  pub threads : (t : ℕ) → IsThread m.run t → IsThread m'.run t
  pub stays : Stays m m' (home_of b)
  pub turn : b ≡ TheTurn → TurnStays m m'

-- ---- values

pub spells_among : (bs cs : List Block) → Among bs cs → (w : ℕ) (v : Val) → Spells bs w v → Spells cs w v
spells_among bs cs all w Nil p = p
spells_among bs cs all w False p = p
spells_among bs cs all w True p = p
spells_among bs cs all w (Int n) (inl p) = inl p
spells_among bs cs all w (Int n) (inr p) = inr (p.0, (p.1.0, all (BoxAt n p.1.0) p.1.1, p.1.2))
spells_among bs cs all w (Sym name) p = p
spells_among bs cs all w (Str bytes) p = (p.0, all (TextAt bytes p.0) p.1, p.2)
spells_among bs cs all w (To r) p = (p.0, all p.0 p.1, p.2, p.3)

pub spells_at_among : (bs cs : List Block) → Among bs cs → (kind : Kind) (w : ℕ) (v : Val) → SpellsAt bs kind w v → SpellsAt cs kind w v
spells_at_among bs cs all IntLoc w v p = p
spells_at_among bs cs all AnyLoc w v p = spells_among bs cs all w v p

-- how a thread ended is told by more blocks as well
pub end_among : (bs cs : List Block) → Among bs cs → (state result : ℕ) (how : Ending) → EndIs bs state result how → EndIs cs state result how
end_among bs cs all state result (Value v) p = (p.0, spells_among bs cs all result v p.1)
end_among bs cs all state result (Raised f at) p = p
end_among bs cs all state result Steps p = p
end_among bs cs all state result (Full used asked) p = p
end_among bs cs all state result Sink p = p
end_among bs cs all state result Memory p = p

pub tells_among : (bs cs : List Block) → Among bs cs → (state result : ℕ) (o : Option Ending) → TellsEnd bs state result o → TellsEnd cs state result o
tells_among bs cs all state result None p = tt
tells_among bs cs all state result (Some how) p = end_among bs cs all state result how p

-- two numbers below which there are the same are one
same_count : (a b : ℕ) → ((n : ℕ) → n < a → n < b) → ((n : ℕ) → n < b → n < a) → a ≡ b
same_count zero zero up down = refl
same_count zero (suc b) up down = absurd (let bad = down b (omega arith) in omega (arith, bad))
same_count (suc a) zero up down = absurd (let bad = up a (omega arith) in omega (arith, bad))
same_count (suc a) (suc b) up down = let hi = up a (omega arith) in let lo = down b (omega arith) in omega (arith, hi, lo)

-- ---- links

pub nth_among : (bs cs : List Block) → Among bs cs → (number at : ℕ) → IsNth bs number at → IsNth cs number at
nth_among bs cs all number at (inl p) = inl p
nth_among bs cs all number at (inr p) = inr (p.0, p.1, all (LinkAt p.0 p.1 at number) p.2)

pub joins_among : (bs cs : List Block) → Among bs cs → (home link to number : ℕ) → Joins bs home link to number → Joins cs home link to number
joins_among bs cs all home link to zero j = let q = j.1 in (j.0, (q.0, q.1, all (ShapeAt q.0 home) q.2, all (ShapeAt q.1 to) q.3, q.4))
joins_among bs cs all home link to (suc n) j = let q = j.2 in (j.0, nth_among bs cs all n home j.1, (q.0, q.1, all (ShapeAt q.0 home) q.2, all (ShapeAt q.1 to) q.3, q.4))

-- the link word is one of the shape at its home
pub joins_home : (bs : List Block) (home link to number : ℕ) → Joins bs home link to number → (shape : Shape) × Has bs (ShapeAt shape home) × (home ≤ link) × (link < home + 7)
joins_home bs home link to zero j = let e = j.0 in (j.1.0, j.1.2, omega (arith, e), omega (arith, e))
joins_home bs home link to (suc n) j = let e = j.0 in (j.2.0, j.2.2, omega (arith, e), omega (arith, e))

-- and a shape is where it leads
pub joins_end : (bs : List Block) (home link to number : ℕ) → Joins bs home link to number → (shape : Shape) × Has bs (ShapeAt shape to)
joins_end bs home link to zero j = (j.1.1, j.1.3)
joins_end bs home link to (suc n) j = (j.2.1, j.2.3)

-- ---- each kind

module _ (m m' : Moment) where
  -- a lock
  idle_locked : Idle ≡ Locked → ⊥
  idle_locked e = cc

  pub lock_frame : (place i : ℕ) → word m' i ≡ word m i → Stays m m' place → LockStands m place i → LockStands m' place i
  lock_frame place i same stays l = (
    l.0,
    λ j k' at live busy. ⊎_elim
        (λ (idle : busy_at place k'.doing ≡ Idle). absurd (idle_locked (sym idle ∙ busy)))
        (λ (p : WasBusy m place j k'). let h = l.1 j p.0 p.1 p.2 (p.3 ∙ busy) in (same ∙ h.0, h.1))
        (stays j k' at live),
  )

  links_chunk : Among m.blocks m'.blocks → (at number w w' : ℕ) → w' ≡ w → LinksChunk m.blocks at number w → LinksChunk m'.blocks at number w'
  links_chunk all at number w w' same (inl e) = inl (same ∙ e)
  links_chunk all at number w w' same (inr h) = inr (subst (λ (x : ℕ). Has m'.blocks (ChunkAt at number x)) (sym same) (all (ChunkAt at number w) h))

  pub is_link_on : Among m.blocks m'.blocks → (home link w w' : ℕ) → w' ≡ w → IsLink m.blocks home link w → IsLink m'.blocks home link w'
  is_link_on all home link w w' same (inl e) = inl (same ∙ e)
  is_link_on all home link w w' same (inr p) = inr (p.0, subst (λ (x : ℕ). Has m'.blocks (LinkAt home link x p.0)) (sym same) (all (LinkAt home link w p.0) p.1))

  -- an object
  module _ (id : Id) (at : ℕ) (here : Has m.blocks (ObjectAt id at)) (l : Leaves m m' (ObjectAt id at)) where
    own : (i : ℕ) → at ≤ i → i < at + 14 → word m' i ≡ word m i
    own i lo hi = l.words i (ObjectAt id at, here, refl, (lo, hi))

    place_on : (number i : ℕ) → IsPlace m.blocks at number i → IsPlace m'.blocks at number i × (word m' i ≡ word m i)
    place_on number i (inl p) = let lt = p.0 in let is = p.1 in (inl p, own i (omega (arith, is)) (omega (arith, is, lt)))
    place_on number i (inr p) =
        let has = p.1.1 in
        let is = p.1.2 in
        let low : number % 8 < 8 = omega arith in (
          inr (p.0, (p.1.0, l.blocks (ChunkAt at (number / 8) p.1.0) has, is)),
          l.words i (ChunkAt at (number / 8) p.1.0, has, refl, (omega (arith, is), omega (arith, is, low))),
        )

    fields_on : (path : Path) (fs : List Field) → Each (FieldStands m at path) fs → Each (FieldStands m' at path) fs
    fields_on path [] s = tt
    fields_on path (f ∷ fs) (s, more) =
        let p = place_on s.0.0 s.2 s.5 in (
          (s.0, s.1, s.2, s.3, s.4, p.0, subst (λ (w : ℕ). SpellsAt m'.blocks s.1 w f.value) (sym p.1) (spells_at_among m.blocks m'.blocks l.blocks s.1 (word m s.2) f.value s.6)),
          fields_on path fs more,
        )

    pub object_frame : ObjectStands m id at → ObjectStands m' id at
    object_frame s = record {
      class = s.class;
      fields = s.fields;
      path = s.path;
      thing = ⊎_elim
          (λ (f : (thing_at m' id ≡ thing_at m id) × SameOver m m'). f.0 ∙ s.thing)
          (λ (f : FollowsEnd m m' (ObjectAt id at) id). f.2 ∙ ap (option_map (ended_thing f.0 f.1)) s.thing)
          (l.thing id refl);
      size = l.size id refl ∙ s.size;
      names = s.names;
      tag = own at (omega arith) (omega arith) ∙ s.tag;
      made_by = own (at + 1) (omega arith) (omega arith) ∙ s.made_by;
      serial = own (at + 2) (omega arith) (omega arith) ∙ s.serial;
      lock = lock_frame at (lock_of at) (own (at + 3) (omega arith) (omega arith)) l.stays s.lock;
      shape = subst (λ (x : ℕ). Has m'.blocks (ShapeAt (record { class = s.class; path = s.path }) x)) (sym (own (at + 4) (omega arith) (omega arith)))
          (l.blocks (ShapeAt (record { class = s.class; path = s.path }) (word m (shape_of at))) s.shape);
      chunk = links_chunk l.blocks at 1 (word m (chunk_of at)) (word m' (chunk_of at)) (own (at + 5) (omega arith) (omega arith)) s.chunk;
      stands = fields_on s.path s.fields s.stands;
    }

  -- a shape
  module _ (shape : Shape) (at : ℕ) (here : Has m.blocks (ShapeAt shape at)) (l : Leaves m m' (ShapeAt shape at)) where
    shape_word : (i : ℕ) → at ≤ i → i < at + 7 → word m' i ≡ word m i
    shape_word i lo hi = l.words i (ShapeAt shape at, here, refl, (lo, hi))

    leads_on : (class : ℕ) (path : Path) → Leads m class path at → Leads m' class path at
    leads_on class [] s = (shape_word (at + 1) (omega arith) (omega arith) ∙ s.0, shape_word (at + 2) (omega arith) (omega arith) ∙ s.1, shape_word (at + 3) (omega arith) (omega arith) ∙ s.2)
    leads_on class (e ∷ path) s = (
      subst (λ (x : ℕ). Has m'.blocks (ShapeAt (record { class = class; path = path }) x)) (sym (shape_word (at + 1) (omega arith) (omega arith)))
          (l.blocks (ShapeAt (record { class = class; path = path }) (word m (at + 1))) s.0),
      shape_word (at + 2) (omega arith) (omega arith) ∙ s.1,
      shape_word (at + 3) (omega arith) (omega arith) ∙ s.2,
    )

    pub shape_frame : ShapeStands m shape at → ShapeStands m' shape at
    shape_frame s = record {
      narrow = s.narrow;
      legal = s.legal;
      tag = shape_word at (omega arith) (omega arith) ∙ s.tag;
      leads = leads_on shape.class shape.path s.leads;
      count = shape_word (at + 4) (omega arith) (omega arith) ∙ s.count;
      child = is_link_on l.blocks at (at + 5) (word m (at + 5)) (word m' (at + 5)) (shape_word (at + 5) (omega arith) (omega arith)) s.child;
      sibling = is_link_on l.blocks at (at + 6) (word m (at + 6)) (word m' (at + 6)) (shape_word (at + 6) (omega arith) (omega arith)) s.sibling;
    }

  -- a mutex
  pub same_owner : SameOver m m' → (n : ℕ) → owner_in m' n ≡ owner_in m n
  same_owner same zero = refl
  same_owner same (suc t) = ap (λ b. cond b None (Some t)) (same t)

  ended_owner : (t : ℕ) (how : Ending) → EndsNow m m' t → (n : ℕ) → ended_thing t how (Mutex (owner_in m n)) ≡ Mutex (owner_in m' n)
  ended_owner t how ends zero = refl
  ended_owner t how ends (suc u) = dite (ℕ_discrete u t) mine other
    where
      freed : (b : Bool) → ended_thing t how (Mutex (cond b None (Some u))) ≡ Mutex (cond b None (cond (u == t) None (Some u)))
      freed true = refl
      freed false = refl

      mine : u ≡ t → ended_thing t how (Mutex (owner_in m (suc u))) ≡ Mutex (owner_in m' (suc u))
      mine is = freed (is_over m u) ∙ ap Mutex (ap (λ b. cond (is_over m u) None (cond b None (Some u))) (eq-eqb u t is) ∙ (both (is_over m u) ∙ sym (ap (λ b. cond b None (Some u)) (ap (is_over m') is ∙ ends.0))))
        where
          both : (b : Bool) → ◌≡◌ {A = Option ℕ} (cond b None None) None
          both true = refl
          both false = refl

      other : (u ≡ t → ⊥) → ended_thing t how (Mutex (owner_in m (suc u))) ≡ Mutex (owner_in m' (suc u))
      other ne = freed (is_over m u) ∙ ap Mutex (ap (λ b. cond (is_over m u) None (cond b None (Some u))) (ne_eqb u t ne) ∙ sym (ap (λ b. cond b None (Some u)) (ends.1 u ne)))

  module _ (id : Id) (at : ℕ) (here : Has m.blocks (MutexAt id at)) (l : Leaves m m' (MutexAt id at)) where
    mutex_word : (i : ℕ) → at ≤ i → i < at + 4 → word m' i ≡ word m i
    mutex_word i lo hi = l.words i (MutexAt id at, here, refl, (lo, hi))

    pub mutex_frame : MutexStands m id at → MutexStands m' id at
    mutex_frame s =
        let owner = mutex_word (at + 3) (omega arith) (omega arith) in record {
          thing = ⊎_elim
              (λ (f : (thing_at m' id ≡ thing_at m id) × SameOver m m'). f.0 ∙ (s.thing ∙ ap (λ o. Some (Mutex o)) (sym (same_owner f.1 (word m (owner_of at))) ∙ ap (owner_in m') (sym owner))))
              (λ (f : FollowsEnd m m' (MutexAt id at) id).
              f.2 ∙ (ap (option_map (ended_thing f.0 f.1)) s.thing ∙ ap Some (ended_owner f.0 f.1 f.3 (word m (owner_of at)) ∙ ap (λ n. Mutex (owner_in m' n)) (sym owner))))
              (l.thing id refl);
          tag = mutex_word at (omega arith) (omega arith) ∙ s.tag;
          made_by = mutex_word (at + 1) (omega arith) (omega arith) ∙ s.made_by;
          serial = mutex_word (at + 2) (omega arith) (omega arith) ∙ s.serial;
          size = l.size id refl ∙ s.size;
          who = λ t is. l.threads t (s.who t (sym owner ∙ is));
        }

  -- a thread
  module _ (id : Id) (number maker at : ℕ) (here : Has m.blocks (ThreadAt id number maker at)) (l : Leaves m m' (ThreadAt id number maker at)) where
    thread_word : (i : ℕ) → at ≤ i → i < at + 8 → word m' i ≡ word m i
    thread_word i lo hi = l.words i (ThreadAt id number maker at, here, refl, (lo, hi))

    -- the end of another leaves it
    not_ended : (t : ℕ) (how : Ending) (s : ThreadState) → s.number ≡ number → (Some number ≡ Some t → ⊥) → ended_thing t how (Thread s) ≡ Thread s
    not_ended t how s is other = ap (λ b. Thread (cond b (record s { end = Some how }) s)) (ne_eqb s.number t (λ e. other (ap Some (sym is ∙ e))))

    said_on : (k w : Holder) (busy : Busy) → k.view.thread ≡ w.view.thread → SaysEnd m number at k busy → SaysEnd m' number at w busy
    said_on k w (Ends state result) same says = λ own. let p = says (same ∙ own) in (thread_word (at + 5) (omega arith) (omega arith) ∙ p.0, thread_word (at + 6) (omega arith) (omega arith) ∙ p.1)
    said_on k w Idle same says = tt
    said_on k w Locked same says = tt
    said_on k w (Turned what out) same says = tt

    pub thread_frame : ThreadStands m id number maker at → ThreadStands m' id number maker at
    thread_frame s = record {
      state = s.state;
      thing = ⊎_elim
          (λ (f : (thing_at m' id ≡ thing_at m id) × SameOver m m'). f.0 ∙ s.thing)
          (λ (f : FollowsEnd m m' (ThreadAt id number maker at) id). f.2 ∙ (ap (option_map (ended_thing f.0 f.1)) s.thing ∙ ap Some (not_ended f.0 f.1 s.state s.number_is f.4)))
          (l.thing id refl);
      number_is = s.number_is;
      maker_is = s.maker_is;
      begun = s.begun;
      within = l.threads number s.within;
      tag = thread_word at (omega arith) (omega arith) ∙ s.tag;
      made_by = thread_word (at + 1) (omega arith) (omega arith) ∙ s.made_by;
      serial = thread_word (at + 2) (omega arith) (omega arith) ∙ s.serial;
      number_word = thread_word (at + 3) (omega arith) (omega arith) ∙ s.number_word;
      maker_word = thread_word (at + 4) (omega arith) (omega arith) ∙ s.maker_word;
      size = l.size id refl ∙ s.size;
      end = subst (λ x. TellsEnd m'.blocks x (word m' (result_of at)) s.state.end) (sym (thread_word (at + 5) (omega arith) (omega arith)))
          (subst (λ x. TellsEnd m'.blocks (word m (state_of at)) x s.state.end) (sym (thread_word (at + 6) (omega arith) (omega arith)))
          (tells_among m.blocks m'.blocks l.blocks (word m (state_of at)) (word m (result_of at)) s.state.end s.end));
      says = λ j w there live. ⊎_elim
          (λ (idle : busy_at at w.doing ≡ Idle). subst (SaysEnd m' number at w) (sym idle) tt)
          (λ (p : WasBusy m at j w). said_on p.0 w (busy_at at w.doing) p.4 (subst (SaysEnd m number at p.0) p.3 (s.says j p.0 p.1 p.2)))
          (l.stays j w there live);
    }

  -- what the table of threads tells stays so
  pub lines_on : (lines : List (Option Line)) → SameOver m m' → ((t : ℕ) → IsThread m.run t → IsThread m'.run t) → ((t : ℕ) → IsThread m'.run t → IsThread m.run t) → LinesTell m.run lines → LinesTell m'.run lines
  lines_on lines over more threads tell = record {
    known = λ l h. more l.number (tell.known l h);
    over = λ l h. tell.over l h ∙ sym (over l.number);
    all = λ t is going. tell.all t (threads t is) (sym (over t) ∙ going);
  }

  -- the turn
  module _ (here : Has m.blocks TheTurn) (l : Leaves m m' TheTurn) where
    same_turn : word m' turn_word ≡ word m turn_word
    same_turn = l.words turn_word (TheTurn, here, refl, (omega arith, omega arith))

    still_handed : (h : Handed) → IsHanded m h → IsHanded m' h
    still_handed h p = (
      p.0 ∙ sym (l.turn refl).lines,
      lines_on h.lines (l.turn refl).over l.threads (l.turn refl).threads p.1,
      (l.turn refl).sinks h.sink p.2,
      sym (same_count (length m.run.refusals) (length m'.run.refusals) l.threads (l.turn refl).threads) ∙ p.3,
    )

    still_none : (j : ℕ) (k' : Holder) → At m'.holders j k' → k'.live ≡ true → ((k : Holder) → At m.holders j k → k.live ≡ true → HasNone k) → HasNone k'
    still_none j k' at live before = ⊎_elim
        (λ (idle : busy_at turn_word k'.doing ≡ Idle). idle)
        (λ (p : WasBusy m turn_word j k'). sym p.3 ∙ before p.0 p.1 p.2)
        (l.stays j k' at live)

    pub turn_frame : TurnStands m → TurnStands m'
    turn_frame (inl f) = inl record {
      word = same_turn ∙ f.word;
      what = f.what;
      home = (l.turn refl).homes ∙ f.home;
      handed = still_handed f.what f.handed;
      nobody = λ j k' at live. still_none j k' at live (f.nobody j);
    }
    turn_frame (inr t) =
        let on = (l.turn refl).keeps t.holder t.who t.there t.live t.going t.what t.out t.has in inr record {
          word = same_turn ∙ t.word;
          holder = t.holder;
          who = on.0;
          there = on.1;
          live = on.2;
          going = on.3;
          what = t.what;
          out = t.out;
          has = on.4;
          home = (l.turn refl).homes ∙ t.home;
          handed = still_handed t.what t.handed;
          others = λ j k' ne at live. still_none j k' at live (λ k. t.others j k ne);
        }

  -- ---- all kinds

  pub stands_frame : (b : Block) → Has m.blocks b → Leaves m m' b → Stands m b → Stands m' b
  stands_frame (ObjectAt id at) here l s = object_frame id at here l s
  stands_frame (ChunkAt object number at) here l s =
      links_chunk l.blocks object (suc number) (word m at) (word m' at) (l.words at (ChunkAt object number at, here, refl, (omega arith, omega arith))) s
  stands_frame (MutexAt id at) here l s = mutex_frame id at here l s
  stands_frame (ThreadAt id number maker at) here l s = thread_frame id number maker at here l s
  stands_frame (TextAt bytes at) here l s = (
    l.words at (TextAt bytes at, here, refl, (omega arith, omega arith)) ∙ s.0,
    l.words (at + 1) (TextAt bytes at, here, refl, (omega arith, omega arith)) ∙ s.1,
    λ k lt. l.words (at + 2 + k) (TextAt bytes at, here, refl, (omega arith, omega (arith, lt))) ∙ s.2 k lt,
  )
  stands_frame (BoxAt n at) here l s = (
    l.words at (BoxAt n at, here, refl, (omega arith, omega arith)) ∙ s.0,
    l.words (at + 1) (BoxAt n at, here, refl, (omega arith, omega arith)) ∙ s.1,
  )
  stands_frame (ShapeAt shape at) here l s = shape_frame shape at here l s
  stands_frame (LockAt at) here l s = lock_frame at at (l.words at (LockAt at, here, refl, (omega arith, omega arith))) l.stays s
  stands_frame TheTurn here l s = turn_frame here l s
  stands_frame (LinkAt home link to number) here l s =
      let at = joins_home m.blocks home link to number s.2 in (
        l.words link (ShapeAt at.0 home, at.1, refl, (at.2, at.3)) ∙ s.0,
        s.1,
        joins_among m.blocks m'.blocks l.blocks home link to number s.2,
      )
