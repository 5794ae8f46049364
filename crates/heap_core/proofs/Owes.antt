-- What a step owes to the law. The law is kept where the rule of each block that the step touches is shown anew, and every other block is left.
use Rattle.std.proofs.Common.{◌≡◌, ◌≤◌, ◌<◌, ◌⊎◌, ℕ, ◌+◌, ◌*◌, Bool, true, false, List, ◌++◌, length, get_or, Option, Some, refl, sym, ap, ◌∙◌, inl, inr, ⊎_elim, [], subst, arith, append-nil}
use Rattle.atomic_table.specs.Table.{State}
use Rattle.rb_model.specs.declared.value.Id.{Id}
use Rattle.rb_shared.specs.History.{History}
use Rattle.rb_shared.specs.Lists.{Has, Each}
use Rattle.rb_shared.proofs.Runs.{has_front}
use Rattle.shape_core.specs.Shape.{Shape, root_of}
use Rattle.shared_run.specs.Closing.{ShowsRun}
use Rattle.shared_run.specs.Run.{Run, IsRun, IsThread, MayStill, refused_at}
use Rattle.shared_run.specs.Run as runs
use Rattle.shared_run.proofs.Events.{has_either}
use Rattle.heap_core.specs.Places.{opening_words, used_word, turn_word, shape_words, thread_words, tree_lock, first_root}
use Rattle.heap_core.specs.Handing.{Plan, Slot, Homes}
use Rattle.heap_core.specs.Blocks.{Block, ObjectAt, ChunkAt, MutexAt, ThreadAt, TextAt, BoxAt, ShapeAt, LockAt, TheTurn, home_of, id_of, HasHome, InFamily, words_of_shapes, LinkAt, IsOfTree, number_of}
use Rattle.heap_core.specs.Charges.{budget, tally_of}
use Rattle.heap_core.specs.Links.{IsNth}
use Rattle.heap_core.specs.View.{Region, Holder, Knows, HasTree, held}
use Rattle.heap_core.specs.Moment.{Moment, At, size_at}
use Rattle.heap_core.specs.Rule.{IsMade, Stands, Apart, Seated, Laid, owned, Below, LiesIn, Kept, moment}
use Rattle.heap_core.proofs.Frames.{Follows, Stays, TurnStays, Leaves, nth_among, stands_frame}

-- a part keeps its home where blocks come
pub home_on : (bs cs : List Block) (b : Block) → HasHome bs b → HasHome (bs ++ cs) b
home_on bs cs (ChunkAt object number at) h = (h.0, has_front bs cs (ObjectAt h.0 object) h.1)
home_on bs cs (ObjectAt id at) h = tt
home_on bs cs (MutexAt id at) h = tt
home_on bs cs (ThreadAt id number maker at) h = tt
home_on bs cs (TextAt bytes at) h = tt
home_on bs cs (BoxAt n at) h = tt
home_on bs cs (ShapeAt shape at) h = tt
home_on bs cs (LockAt at) h = tt
home_on bs cs TheTurn h = tt
home_on bs cs (LinkAt home link to number) h = (h.0, has_front bs cs (ShapeAt h.0 home) h.1)

abbrev pub whole : List ℕ → Homes → List Holder → State Slot Holder
whole ws hs vs = record { words = ws; homes = hs; views = vs }

-- ---- what is owed of the tree of shapes where no block comes

module _ (plan : Plan) (s : State Slot Holder) (r : Kept plan s) (views' : List Holder) where
  pub tree_in : ((j : ℕ) (u : Holder) → At views' j u → u.live ≡ true → HasTree u → (b : Block) → Has r.blocks b → IsOfTree b → Knows u b)
      → (j : ℕ) (u : Holder) → At views' j u → u.live ≡ true → HasTree u → (b : Block) → Has (r.blocks ++ []) b → IsOfTree b → Knows u b
  tree_in all j u a l has b h t = all j u a l has b (subst (λ bs. Has bs b) (append-nil r.blocks) h) t

module _ (plan : Plan) (s : State Slot Holder) (r : Kept plan s) (ws' : List ℕ) (hs' : Homes) (views' : List Holder) where
  -- What is owed where the words and the views are these afterwards.
  pub record Owes : Type 0 where
    -- the run goes on, some blocks come, and some homes have their rule shown anew
    pub run : Run
    pub added : List Block
    pub lines : List (Option ℕ)
    pub mine : ℕ → Bool
    pub is_run : IsRun plan.slots run
    pub knows : (j : ℕ) (k : Holder) → At views' j k → k.live ≡ true → runs.Knows plan.slots run k.view
    pub apart : Apart views'
    pub seated : Seated plan.slots run.store lines views'
    pub laid : Laid ws' views' (r.blocks ++ added)
    -- of every other block the words, the thing and what is in progress are left
    pub words : (i : ℕ) (b : Block) → Has r.blocks b → mine (home_of b) ≡ false → InFamily r.blocks (home_of b) i → get_or ws' i 0 ≡ get_or s.words i 0
    pub things : (id : Id) (b : Block) → Has r.blocks b → mine (home_of b) ≡ false → id_of b ≡ Some id → Follows (moment plan s r.run r.lines r.blocks) (moment plan (whole ws' hs' views') run lines (r.blocks ++ added)) b id
    pub sizes : (id : Id) (b : Block) → Has r.blocks b → mine (home_of b) ≡ false → id_of b ≡ Some id → size_at (moment plan (whole ws' hs' views') run lines (r.blocks ++ added)) id ≡ size_at (moment plan s r.run r.lines r.blocks) id
    pub threads : (t : ℕ) → IsThread r.run t → IsThread run t
    pub stays : (b : Block) → Has r.blocks b → mine (home_of b) ≡ false → Stays (moment plan s r.run r.lines r.blocks) (moment plan (whole ws' hs' views') run lines (r.blocks ++ added)) (home_of b)
    pub turn : mine turn_word ≡ false → TurnStays (moment plan s r.run r.lines r.blocks) (moment plan (whole ws' hs' views') run lines (r.blocks ++ added))
    -- the others stand afterwards, as do those that came
    pub anew : (b : Block) → Has r.blocks b → mine (home_of b) ≡ true → Stands (moment plan (whole ws' hs' views') run lines (r.blocks ++ added)) b
    pub new : (b : Block) → Has added b → Stands (moment plan (whole ws' hs' views') run lines (r.blocks ++ added)) b
    pub one : (id : Id) (b c : Block) → Has added b → Has (r.blocks ++ added) c → id_of b ≡ Some id → id_of c ≡ Some id → b ≡ c
    pub tree : (j : ℕ) (k : Holder) → At views' j k → k.live ≡ true → HasTree k → (b : Block) → Has (r.blocks ++ added) b → IsOfTree b → Knows k b
    pub linked : (shape : Shape) (at : ℕ) → Has added (ShapeAt shape at) → (number : ℕ) × IsNth (r.blocks ++ added) number at
    pub once : (home link to number : ℕ) → Has added (LinkAt home link to number) → (other : ℕ) → IsNth (r.blocks ++ added) other to → number ≡ other
    -- the words that nobody owns grow no fewer, and there is room for a row and a path that come
    pub spare : owned views' + get_or s.words used_word 0 ≤ owned s.views + get_or ws' used_word 0
    pub few : (home link to number : ℕ) → Has added (LinkAt home link to number) → shape_words * number + owned views' ≤ get_or ws' used_word 0
    pub deep : (shape : Shape) (at : ℕ) → Has added (ShapeAt shape at) → shape_words * length shape.path + owned views' ≤ get_or ws' used_word 0
    pub one_thread : (n : ℕ) (b c : Block) → Has added b → Has (r.blocks ++ added) c → number_of b ≡ Some n → number_of c ≡ Some n → b ≡ c
    pub one_shape : (shape : Shape) (at to : ℕ) → Has added (ShapeAt shape at) → Has (r.blocks ++ added) (ShapeAt shape to) → at ≡ to
    pub homes : (b : Block) → Has added b → HasHome (r.blocks ++ added) b
    pub known : (j : ℕ) (k : Holder) (b : Block) → At views' j k → Knows k b → Has (r.blocks ++ added) b
    pub lie : (j : ℕ) (k : Holder) → At views' j k → k.live ≡ true → Each (LiesIn k.blocks) k.view.known
    pub own : (i j : ℕ) (k : Holder) (o : Region) → At views' j k → Has k.own o → i < length o.words → get_or ws' (o.at + i) 0 ≡ get_or o.words i 0
    pub used : get_or ws' used_word 0 + shape_words * length (tally_of plan.slots run.events).shapes ≡ opening_words + budget plan.slots run.events + words_of_shapes (r.blocks ++ added) + owned views'
    -- a thread that is started took its words
    pub begun : opening_words + thread_words * length run.refusals + owned views' ≤ get_or ws' used_word 0 + thread_words
    -- a shape that an entry made stays made, one that was ahead is ahead or made, and so are those that come
    pub made_on : (shape : Shape) → Has (tally_of plan.slots r.run.events).shapes shape → Has (tally_of plan.slots run.events).shapes shape
    pub ahead_on : (shape : Shape) (j : ℕ) (k : Holder) → At s.views j k → k.live ≡ true → Has k.shapes shape → IsMade (tally_of plan.slots run.events).shapes views' shape
    pub made_new : (shape : Shape) (at : ℕ) → Has added (ShapeAt shape at) → IsMade (tally_of plan.slots run.events).shapes views' shape
    pub late : (j : ℕ) (k : Holder) → At views' j k → k.live ≡ true → Each (MayStill plan.slots run k.view.thread) k.late
    pub refused : (t : ℕ) → Each (Below (get_or ws' used_word 0) (length ws')) (refused_at run.refusals t)
    pub spent : (j : ℕ) (k : Holder) → At views' j k → k.live ≡ false → held k ≡ 0
    pub shows : (j : ℕ) (k : Holder) → At views' j k → (h : History) → k.front ≡ Some h → ShowsRun run h

  either_way : (b : Bool) → (b ≡ true) ⊎ (b ≡ false)
  either_way true = inl refl
  either_way false = inr refl

  -- a shape has one number
  one_number : (o : Owes) (number other at : ℕ) → IsNth (r.blocks ++ o.added) number at → IsNth (r.blocks ++ o.added) other at → number ≡ other
  one_number o number other at (inl a) (inl b) = a.0 ∙ sym b.0
  one_number o number other at (inl a) (inr q) = ⊎_elim
      (λ (was : Has r.blocks (LinkAt q.0 q.1 at other)). r.once number other at (inl a) (inr (q.0, q.1, was)))
      (λ (new : Has o.added (LinkAt q.0 q.1 at other)). sym (o.once q.0 q.1 at other new number (inl a)))
      (has_either r.blocks o.added (LinkAt q.0 q.1 at other) q.2)
  one_number o number other at (inr p) (inl b) = ⊎_elim
      (λ (was : Has r.blocks (LinkAt p.0 p.1 at number)). r.once number other at (inr (p.0, p.1, was)) (inl b))
      (λ (new : Has o.added (LinkAt p.0 p.1 at number)). o.once p.0 p.1 at number new other (inl b))
      (has_either r.blocks o.added (LinkAt p.0 p.1 at number) p.2)
  one_number o number other at (inr p) (inr q) = ⊎_elim
      (λ (old : Has r.blocks (LinkAt p.0 p.1 at number)). ⊎_elim
      (λ (was : Has r.blocks (LinkAt q.0 q.1 at other)). r.once number other at (inr (p.0, p.1, old)) (inr (q.0, q.1, was)))
      (λ (new : Has o.added (LinkAt q.0 q.1 at other)). sym (o.once q.0 q.1 at other new number (inr p)))
      (has_either r.blocks o.added (LinkAt q.0 q.1 at other) q.2))
      (λ (new : Has o.added (LinkAt p.0 p.1 at number)). o.once p.0 p.1 at number new other (inr q))
      (has_either r.blocks o.added (LinkAt p.0 p.1 at number) p.2)

  pub owes_kept : Owes → Kept plan (whole ws' hs' views')
  owes_kept o = record {
    run = o.run;
    blocks = r.blocks ++ o.added;
    lines = o.lines;
    is_run = o.is_run;
    knows = o.knows;
    apart = o.apart;
    seated = o.seated;
    laid = o.laid;
    each = λ b has. ⊎_elim
        (λ (old : Has r.blocks b). ⊎_elim
        (λ (mine : o.mine (home_of b) ≡ true). o.anew b old mine)
        (λ (not_mine : o.mine (home_of b) ≡ false). stands_frame m m' b old (left b old not_mine) (r.each b old))
        (either_way (o.mine (home_of b))))
        (λ (new : Has o.added b). o.new b new)
        (has_either r.blocks o.added b has);
    one = λ id b c hb hc ib ic. ⊎_elim
        (λ (old : Has r.blocks b). ⊎_elim
        (λ (also : Has r.blocks c). r.one id b c old also ib ic)
        (λ (new : Has o.added c). sym (o.one id c b new hb ic ib))
        (has_either r.blocks o.added c hc))
        (λ (new : Has o.added b). o.one id b c new hc ib ic)
        (has_either r.blocks o.added b hb);
    one_thread = λ n b c hb hc ib ic. ⊎_elim
        (λ (old : Has r.blocks b). ⊎_elim
        (λ (also : Has r.blocks c). r.one_thread n b c old also ib ic)
        (λ (new : Has o.added c). sym (o.one_thread n c b new hb ic ib))
        (has_either r.blocks o.added c hc))
        (λ (new : Has o.added b). o.one_thread n b c new hc ib ic)
        (has_either r.blocks o.added b hb);
    one_shape = λ shape at to ha ht. ⊎_elim
        (λ (old : Has r.blocks (ShapeAt shape at)). ⊎_elim
        (λ (also : Has r.blocks (ShapeAt shape to)). r.one_shape shape at to old also)
        (λ (new : Has o.added (ShapeAt shape to)). sym (o.one_shape shape to at new ha))
        (has_either r.blocks o.added (ShapeAt shape to) ht))
        (λ (new : Has o.added (ShapeAt shape at)). o.one_shape shape at to new ht)
        (has_either r.blocks o.added (ShapeAt shape at) ha);
    turn = has_front r.blocks o.added TheTurn r.turn;
    lock = has_front r.blocks o.added (LockAt tree_lock) r.lock;
    tree = o.tree;
    root = has_front r.blocks o.added (ShapeAt (root_of 4294967295) first_root) r.root;
    linked = λ shape at has. ⊎_elim
        (λ (old : Has r.blocks (ShapeAt shape at)). let n = r.linked shape at old in (n.0, nth_among r.blocks (r.blocks ++ o.added) (λ c h. has_front r.blocks o.added c h) n.0 at n.1))
        (λ (new : Has o.added (ShapeAt shape at)). o.linked shape at new)
        (has_either r.blocks o.added (ShapeAt shape at) has);
    once = one_number o;
    few = λ number at nth. ⊎_elim
        (λ (first : (number ≡ 0) × (at ≡ first_root)). let old = r.few number at (inl first) in let spare = o.spare in omega (arith, old, spare))
        (λ (p : (home : ℕ) × (link : ℕ) × Has (r.blocks ++ o.added) (LinkAt home link at number)). ⊎_elim
        (λ (was : Has r.blocks (LinkAt p.0 p.1 at number)). let old = r.few number at (inr (p.0, p.1, was)) in let spare = o.spare in omega (arith, old, spare))
        (λ (new : Has o.added (LinkAt p.0 p.1 at number)). o.few p.0 p.1 at number new)
        (has_either r.blocks o.added (LinkAt p.0 p.1 at number) p.2))
        nth;
    deep = λ shape at has. ⊎_elim
        (λ (was : Has r.blocks (ShapeAt shape at)). let old = r.deep shape at was in let spare = o.spare in omega (arith, old, spare))
        (λ (new : Has o.added (ShapeAt shape at)). o.deep shape at new)
        (has_either r.blocks o.added (ShapeAt shape at) has);
    homes = λ b has. ⊎_elim (λ (old : Has r.blocks b). home_on r.blocks o.added b (r.homes b old)) (λ (new : Has o.added b). o.homes b new) (has_either r.blocks o.added b has);
    known = o.known;
    lie = o.lie;
    own = o.own;
    used = o.used;
    begun = o.begun;
    made = λ shape at has. ⊎_elim
        (λ (old : Has r.blocks (ShapeAt shape at)). ⊎_elim
        (λ (was : Has (tally_of plan.slots r.run.events).shapes shape). inl (o.made_on shape was))
        (λ (was : (j : ℕ) × (k : Holder) × At s.views j k × (k.live ≡ true) × Has k.shapes shape). o.ahead_on shape was.0 was.1 was.2 was.3 was.4)
        (r.made shape at old))
        (λ (new : Has o.added (ShapeAt shape at)). o.made_new shape at new)
        (has_either r.blocks o.added (ShapeAt shape at) has);
    late = o.late;
    refused = o.refused;
    spent = o.spent;
    shows = o.shows;
  }
    where
      m : Moment
      m = moment plan s r.run r.lines r.blocks

      m' : Moment
      m' = moment plan (whole ws' hs' views') o.run o.lines (r.blocks ++ o.added)

      left : (b : Block) → Has r.blocks b → o.mine (home_of b) ≡ false → Leaves m m' b
      left b old not_mine = record {
        words = λ i f. o.words i b old not_mine f;
        blocks = λ c h. has_front r.blocks o.added c h;
        thing = λ id is. o.things id b old not_mine is;
        size = λ id is. o.sizes id b old not_mine is;
        threads = o.threads;
        stays = o.stays b old not_mine;
        turn = λ is. o.turn (ap (λ (c : Block). o.mine (home_of c)) (sym is) ∙ not_mine);
      }
