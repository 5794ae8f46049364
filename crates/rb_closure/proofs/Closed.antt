-- A thread names what it holds and what it was told of.
use Rattle.std.proofs.Common.{◌⊎◌, inl, inr, ℕ, List, [], ◌∷◌, ◌++◌, map, refl, subst, sym}
use Rattle.std.specs.List.{flat_map}
use Rattle.std.proofs.lemmas.Grind.{flat_map-append}
use Rattle.rb_model.specs.Values.{Value, To, Reference}
use Rattle.rb_model.specs.Private.{Private, Leaves, nothing_waits, bare}
use Rattle.rb_model.specs.Log.{Log, Entry, fresh, logged}
use Rattle.rb_machine.specs.Scopes.{Script}
use Rattle.rb_machine.specs.Control.{State, On, Cont, Ended}
use Rattle.rb_machine.specs.Call.{globals}
use Rattle.rb_machine.specs.Move.{Ask, replied}
use Rattle.rb_machine.specs.Follows.{At}
use Rattle.rb_machine.specs.Follows as thread
use Rattle.rb_closure.specs.Mentions.{values_in, values_in_control, values_in_cont, values_in_scope, values_in_reply}
use Rattle.rb_closure.specs.Closure.{Each, IfReference, IsHeld, refs_in, Among, item_reference, told_by, told_first, told_refs, Known, ThreadsAreClosed, AsksAreKnown}
use Rattle.rb_closure.proofs.Lists.{both, front, behind, all_of, among_front, among_behind}
use Rattle.rb_closure.proofs.Parts.{Code, code_in_control, code_in_cont, Fits, FitsMethod, FitsClass, GoodState}
use Rattle.rb_closure.proofs.Stores.{bare_holds_none, leaves_from, leaves_or_moves}
use Rattle.rb_closure.proofs.Sound.{Says, rules, next_known, Sound, more_sound, replied_sound, goes_sound, makes_sound, acts_sound}

-- ---- references that were told

-- what holds of each reference among values holds of them
each_known : (P : Reference → Type 0) (vs : List Value) → ((r : Reference) → Among (flat_map refs_in vs) r → P r) → Each (IfReference P) vs
each_known P [] f = tt
each_known P (v ∷ vs) f =
    (first v (λ r a. f r (among_front (refs_in v) (flat_map refs_in vs) r a)), each_known P vs (λ r a. f r (among_behind (refs_in v) (flat_map refs_in vs) r a)))
  where
    first : (v : Value) → ((r : Reference) → Among (refs_in v) r → P r) → IfReference P v
    first (To r) f = f r (inl refl)
    first v f = tt

-- an entry more tells more
among_under : (ts us vs : List Reference) → ((r : Reference) → Among us r → Among vs r) → (r : Reference) → Among (ts ++ us) r → Among (ts ++ vs) r
among_under [] us vs f r a = f r a
among_under (t ∷ ts) us vs f r (inl e) = inl e
among_under (t ∷ ts) us vs f r (inr a) = inr (among_under ts us vs f r a)

entries_more : (es : List Entry) (e : Entry) (r : Reference) → Among (flat_map told_by es) r → Among (flat_map told_by (es ++ e ∷ [])) r
entries_more es e r a = subst (λ ts. Among ts r) (sym (flat_map-append told_by es (e ∷ []))) (among_front (flat_map told_by es) (flat_map told_by (e ∷ [])) r a)

entry_told : (es : List Entry) (e : Entry) (r : Reference) → Among (told_by e) r → Among (flat_map told_by (es ++ e ∷ [])) r
entry_told es e r a =
    subst (λ ts. Among ts r) (sym (flat_map-append told_by es (e ∷ [])))
    (among_behind (flat_map told_by es) (flat_map told_by (e ∷ [])) r (among_front (told_by e) [] r a))

pub told_more : (start : State) (l : Log) (e : Entry) (r : Reference) → Among (told_refs start l) r → Among (told_refs start (logged l e)) r
told_more start l e = among_under (told_first start) (flat_map told_by l.entries) (flat_map told_by (l.entries ++ e ∷ [])) (entries_more l.entries e)

told_now : (start : State) (l : Log) (e : Entry) (r : Reference) → Among (told_by e) r → Among (told_refs start (logged l e)) r
told_now start l e r a = among_behind (told_first start) (flat_map told_by (l.entries ++ e ∷ [])) r (entry_told l.entries e r a)

-- nothing is said of the code
abbrev pub any_code : (S : Script) → Says S
any_code S = record {
  Of = λ c. Unit {0};
  parts = λ n u. all_of (λ (c : Code). Unit {0}) _ (λ c. tt);
  functions = all_of (FitsMethod (λ c. Unit {0})) S.program.functions (λ m. all_of (λ (c : Code). Unit {0}) _ (λ c. tt));
  classes = all_of (FitsClass (λ c. Unit {0})) S.program.classes (λ k. all_of (FitsMethod (λ c. Unit {0})) k.methods (λ m. all_of (λ (c : Code). Unit {0}) _ (λ c. tt)));
}

-- ---- a thread whose start is sound, whatever is said of the code

module _ (S : Script) (C : Says S) (N : ℕ) (start : State) where
  abbrev pub StaysSound : Log → Private → State → Type 0
  StaysSound l h s = Sound S C (told_refs start l) h s

  -- an entry with which things move, and which tells something
  entry_sound : (l : Log) (h h' : Private) (s : State) (vs : List Value) (e : Entry) → Leaves h vs e.moved h' → StaysSound l h s → StaysSound (logged l e) h' (replied s e.reply)
  entry_sound l h h' s vs e moved sound =
      replied_sound S C (told_refs start (logged l e)) h' s e.reply
      (each_known (Known h' (told_refs start (logged l e))) (values_in_reply e.reply) (λ r a. inr (told_now start l e r (among_front (flat_map refs_in (values_in_reply e.reply)) (map item_reference e.moved) r a))))
      (more_sound S C (told_refs start l) (told_refs start (logged l e)) h h' s known (λ id t f. leaves_from id t moved f) sound)
    where
      known : (r : Reference) → Known h (told_refs start l) r → Known h' (told_refs start (logged l e)) r
      known r (inr a) = inr (told_more start l e r a)
      known r (inl p) = by (leaves_or_moves r moved p)
        where
          by : IsHeld h' r ⊎ Among (map item_reference e.moved) r → Known h' (told_refs start (logged l e)) r
          by (inl q) = inl q
          by (inr a) = inr (told_now start l e r (among_behind (flat_map refs_in (values_in_reply e.reply)) (map item_reference e.moved) r a))

  pub sound_from : ((t : ℕ) → StaysSound fresh (bare t) start) → {l : Log} {h : Private} {s : State} → At S N start l h s → StaysSound l h s
  sound_from first (thread.here t) = first t
  sound_from first (thread.goes l h s s' a e) = goes_sound S C (told_refs start l) h s s' e (sound_from first a)
  sound_from first (thread.makes l h s thing a e) = makes_sound S C (told_refs start l) h s thing e (sound_from first a)
  sound_from first (thread.acts l h s r act thing a e f) = acts_sound S C (told_refs start l) h s r act thing e f (sound_from first a)
  sound_from first (thread.asks l h h' s r act moved answer a e f g) = entry_sound l h h' s _ _ g (sound_from first a)
  sound_from first (thread.starts l h h' s body values moved answer a e g) = entry_sound l h h' s _ _ g (sound_from first a)
  sound_from first (thread.prints l h s bytes a e) = entry_sound l h h s [] _ (nothing_waits h) (sound_from first a)

module _ (S : Script) where
  abbrev pub C : Says S
  C = any_code S

  -- ---- values of a state, and parts of it

  module _ (R : Reference → Type 0) (g : Unit {0} → R globals) where
    abbrev FitsCont : Cont → Type 0
    FitsCont c = Fits R (λ c. Unit {0}) (values_in_cont c) (code_in_cont c)

    conts_of : (k : List Cont) → Each (IfReference R) (flat_map values_in_cont k) → Each FitsCont k
    conts_of [] a = tt
    conts_of (c ∷ k) a = (
      (front (IfReference R) (values_in_cont c) (flat_map values_in_cont k) a, all_of (λ (c : Code). Unit {0}) (code_in_cont c) (λ c. tt)),
      conts_of k (behind (IfReference R) (values_in_cont c) (flat_map values_in_cont k) a),
    )

    values_of : (k : List Cont) → Each FitsCont k → Each (IfReference R) (flat_map values_in_cont k)
    values_of [] w = tt
    values_of (c ∷ k) w = both (IfReference R) (values_in_cont c) (flat_map values_in_cont k) w.0.0 (values_of k w.1)

    good_of : (s : State) → Each (IfReference R) (values_in s) → GoodState S (rules S C R g) s
    good_of (On (Ended how) k sc d left) a =
        let later = behind (IfReference R) (values_in_control (Ended how)) (flat_map values_in_cont k ++ values_in_scope sc) a in (
          front (IfReference R) (values_in_control (Ended how)) (flat_map values_in_cont k ++ values_in_scope sc) a,
          conts_of k (front (IfReference R) (flat_map values_in_cont k) (values_in_scope sc) later),
          behind (IfReference R) (flat_map values_in_cont k) (values_in_scope sc) later,
        )
    good_of (On c k sc d left) a =
        let later = behind (IfReference R) (values_in_control c) (flat_map values_in_cont k ++ values_in_scope sc) a in (
          (front (IfReference R) (values_in_control c) (flat_map values_in_cont k ++ values_in_scope sc) a, all_of (λ (c : Code). Unit {0}) (code_in_control c) (λ c. tt)),
          (conts_of k (front (IfReference R) (flat_map values_in_cont k) (values_in_scope sc) later), behind (IfReference R) (flat_map values_in_cont k) (values_in_scope sc) later),
        )

    values_good : (s : State) → GoodState S (rules S C R g) s → Each (IfReference R) (values_in s)
    values_good (On (Ended how) k sc d left) h =
        both (IfReference R) (values_in_control (Ended how)) (flat_map values_in_cont k ++ values_in_scope sc) h.0
        (both (IfReference R) (flat_map values_in_cont k) (values_in_scope sc) (values_of k h.1) h.2)
    values_good (On c k sc d left) h =
        both (IfReference R) (values_in_control c) (flat_map values_in_cont k ++ values_in_scope sc) h.0.0
        (both (IfReference R) (flat_map values_in_cont k) (values_in_scope sc) (values_of k h.1.0) h.1.1)

  -- ---- entries

  module _ (N : ℕ) (start : State) where
    abbrev pub SoundAt : Log → Private → State → Type 0
    SoundAt l h s = Sound S C (told_refs start l) h s

    begins_sound : (t : ℕ) → SoundAt fresh (bare t) start
    begins_sound t = record {
      global = λ c. inr (inl refl);
      state = good_of (Known (bare t) (told_refs start fresh)) (λ c. inr (inl refl)) start
          (each_known (Known (bare t) (told_refs start fresh)) (values_in start) (λ r a. inr (inr (among_front (flat_map refs_in (values_in start)) [] r a))));
      store = λ id thing e. absurd (bare_holds_none t id thing e);
    }

    pub sound_at : {l : Log} {h : Private} {s : State} → At S N start l h s → SoundAt l h s
    sound_at a = sound_from S C N start begins_sound a

pub threads_are_closed : ThreadsAreClosed
threads_are_closed S N start l h s a =
    let sound = sound_at S N start a in
    (values_good S (Known h (told_refs start l)) sound.global s sound.state, sound.store)

pub asks_are_known : AsksAreKnown
asks_are_known S N start l h s r act a e =
    let sound = sound_at S N start a in
    (next_known S (any_code S) (Known h (told_refs start l)) sound.global s (Ask r act) e sound.state).0
