-- Looking at the words of a shape, and making a shape, keep the law.
use Rattle.std.proofs.Common.{◌≡◌, ◌≤◌, ◌<◌, ◌⊎◌, ◌-◌, ℕ, zero, suc, ◌+◌, ◌*◌, true, List, [], ◌∷◌, ◌++◌, length, set, get_or, Some, None, refl, sym, ap, ◌∙◌, subst, inl, inr, ⊎_elim, arith, append-nil, get_or-set_other}
use Rattle.std.proofs.lemmas.List.{set-get_or, get_or-set_same}
use mathlib.Core.Logic.{dite}
use native.Mathlib.Decide.{ℕ_discrete}
use Rattle.atomic_table.specs.Table.{State, keeps}
use Rattle.rb_shared.specs.Lists.{Has}
use Rattle.rb_shared.proofs.Runs.{has_front, has_behind}
use Rattle.shared_run.proofs.Events.{has_either}
use Rattle.shape_core.specs.Path.{Path}
use Rattle.shape_core.specs.Shape.{Shape, root_of}
use Rattle.heap_core.specs.Places.{used_word, first_root, shape_words}
use Rattle.heap_core.specs.Handing.{Plan, Slot}
use Rattle.heap_core.specs.Blocks.{Block, ObjectAt, ChunkAt, MutexAt, ThreadAt, TextAt, BoxAt, ShapeAt, LockAt, TheTurn, LinkAt, place_of, size_of, home_of, id_of, HasHome, Inside}
use Rattle.heap_core.specs.Fixed.{edge_of, places_before}
use Rattle.heap_core.specs.Shapes.{ShapeStands, Leads, IsLink, first_child, next_sibling, parent_of}
use Rattle.heap_core.specs.Links.{IsNth, Joins, LinkStands, IsTree}
use Rattle.heap_core.specs.Growing.{LeadsUp, LeadsOn, LooksShape, shape_block, Growth, MayLink, MayGrow, blocks_of, with_growth, MakesShape}
use Rattle.heap_core.specs.Moment.{Moment, At, word}
use Rattle.heap_core.specs.Rule.{Stands, Kept, moment, owned}
use Rattle.heap_core.specs.Telling.{MayLoad, MayStore}
use Rattle.heap_core.specs.View.{Region, Holder, Idle, InOwn, Knows, busy_at, held, words_in, with_more}
use Rattle.heap_core.proofs.Frames.{Among, is_link_on, nth_among, joins_among, joins_end, stands_frame}
use Rattle.heap_core.proofs.Holders.{each_set, keeps_set}
use Rattle.heap_core.proofs.Learning.{fits_more, blocks_fit}
use Rattle.heap_core.proofs.Owes.{whole}
use Rattle.heap_core.proofs.Rooms.{place_inside}
use Rattle.heap_core.proofs.Seats.{note_same, only_block}
use Rattle.heap_core.proofs.Steps.{PartOf, whole_part, quiet_step}

-- ---- the tree

-- the blocks of the law are a tree
pub tree_is : (plan : Plan) (s : State Slot Holder) (r : Kept plan s) (size : ℕ) → length s.words ≡ size → IsTree size r.blocks
tree_is plan s r size long = record {
  root = r.root;
  linked = r.linked;
  up = λ shape at parent h is. up_of shape.class shape.path at parent (r.each (ShapeAt shape at) h).leads is;
  joins = λ home link to number h. (r.each (LinkAt home link to number) h).2;
  one_end = λ home home' link to to' n n' h g. sym (r.each (LinkAt home link to n) h).0 ∙ (r.each (LinkAt home' link to' n') g).0;
  one_shape = r.one_shape;
  one_at = λ shape other at h g. ap shape_in (r.laid.apart at (ShapeAt shape at) (ShapeAt other at) h g (omega arith, omega arith) (omega arith, omega arith));
  once = r.once;
  few = λ number at nth. let le = r.few number at nth in let top = r.laid.used_in in omega (arith, le, top, long);
  deep = λ shape at h. let le = r.deep shape at h in let top = r.laid.used_in in omega (arith, le, top, long);
  narrow = λ shape at h. (r.each (ShapeAt shape at) h).narrow;
  legal = λ shape at h. (r.each (ShapeAt shape at) h).legal;
}
  where
    some_is : (a b : Shape) → Some a ≡ Some b → a ≡ b
    some_is a b e = cc

    up_of : (class : ℕ) (path : Path) (at : ℕ) (parent : Shape) → Leads (moment plan s r.run r.lines r.blocks) class path at → parent_of (record { class = class; path = path }) ≡ Some parent → (to : ℕ) × Has r.blocks (ShapeAt parent to)
    up_of class [] at parent l is = absurd (let h : None ≡ Some parent = is in cc)
    up_of class (e ∷ path) at parent l is = (get_or s.words (at + 1) 0, subst (λ x. Has r.blocks (ShapeAt x (get_or s.words (at + 1) 0))) (some_is (record { class = class; path = path }) parent is) l.0)

    shape_in : Block → Shape
    shape_in (ShapeAt shape at) = shape
    shape_in b = root_of 0

-- and so are others that are the same
tree_among : (size : ℕ) (bs cs : List Block) → Among bs cs → Among cs bs → IsTree size bs → IsTree size cs
tree_among size bs cs to back t = record {
  root = to (ShapeAt (root_of 4294967295) first_root) t.root;
  linked = λ shape at h. let n = t.linked shape at (back (ShapeAt shape at) h) in (n.0, nth_among bs cs to n.0 at n.1);
  up = λ shape at parent h is. let p = t.up shape at parent (back (ShapeAt shape at) h) is in (p.0, to (ShapeAt parent p.0) p.1);
  joins = λ home link end number h. joins_among bs cs to home link end number (t.joins home link end number (back (LinkAt home link end number) h));
  one_end = λ home home' link end end' n n' h g. t.one_end home home' link end end' n n' (back (LinkAt home link end n) h) (back (LinkAt home' link end' n') g);
  one_shape = λ shape at end h g. t.one_shape shape at end (back (ShapeAt shape at) h) (back (ShapeAt shape end) g);
  one_at = λ shape other at h g. t.one_at shape other at (back (ShapeAt shape at) h) (back (ShapeAt other at) g);
  once = λ number other at nth also. t.once number other at (nth_among cs bs back number at nth) (nth_among cs bs back other at also);
  few = λ number at nth. t.few number at (nth_among cs bs back number at nth);
  deep = λ shape at h. t.deep shape at (back (ShapeAt shape at) h);
  narrow = λ shape at h. t.narrow shape at (back (ShapeAt shape at) h);
  legal = λ shape at h. t.legal shape at (back (ShapeAt shape at) h);
}

-- ---- a word is looked at

module _ (plan : Plan) (s : State Slot Holder) (r : Kept plan s) (id : ℕ) (k : Holder) (seat : At s.views id k) (live : k.live ≡ true) where
  more : Holder
  more = with_more k r.blocks

  knows_all : (c : Block) → Has r.blocks c → Has (k.blocks ++ r.blocks) c
  knows_all c h = has_behind k.blocks r.blocks c h

  all_there : (c : Block) → Has (k.blocks ++ r.blocks) c → Has r.blocks c
  all_there c h = ⊎_elim (λ (was : Has k.blocks c). r.known id k c seat was) (λ x. x) (has_either k.blocks r.blocks c h)

  -- no word changes, and the pass learns all blocks
  learn_step : (b : Block) (i : ℕ) → Has r.blocks b → Inside i b → Kept plan (whole (set s.words i (get_or s.words i 0)) s.homes (set s.views id (with_more k r.blocks)))
  learn_step b i here inside = quiet_step plan s r s.homes id k (with_more k r.blocks) i (get_or s.words i 0) b seat live live refl refl here inside [] record {
    note = note_same k.view k.view refl;
    due = refl;
    late = r.late id k seat live;
    knows_more = λ c h. has_front k.blocks r.blocks c h;
    knows_in = λ c h. subst (λ ds. Has ds c) (sym (append-nil r.blocks)) (all_there c h);
    left = λ o h. whole_part k.own o h;
    single = λ x o p h g. r.laid.single x id k o p seat h g;
    counted = omega arith;
    was_own = λ x c h. absurd h;
    bounded = λ c h. absurd h;
    parted = λ x c d h. absurd h;
    slot = λ off. refl;
    doing = λ x far. refl;
    anew = λ c hc is. stands_frame (moment plan s r.run r.lines r.blocks) then c hc record {
      words = λ x f. ap (λ ws. get_or ws x 0) (set-get_or s.words i 0);
      blocks = λ d h. has_front r.blocks [] d h;
      thing = λ y e. inl (refl, λ t. refl);
      size = λ y e. refl;
      threads = λ t lt. lt;
      stays = each_set (λ j u. u.live ≡ true → (busy_at (home_of c) u.doing ≡ Idle) ⊎ ((y : Holder) × At s.views j y × (y.live ≡ true) × (busy_at (home_of c) y.doing ≡ busy_at (home_of c) u.doing) × (y.view.thread ≡ u.view.thread))) s.views id (with_more k r.blocks)
          (λ _. inr (k, seat, live, refl, refl)) (λ j u _ a l. inr (u, a, l, refl, refl));
      turn = λ e. record {
        homes = refl;
        lines = refl;
        sinks = λ x st. st;
        over = λ t. refl;
        threads = λ t lt. lt;
        keeps = keeps_set s.views id k (with_more k r.blocks) seat live refl (λ g. g);
      };
    } (r.each c hc);
    new = λ c h. absurd h;
    no_thing = λ c h. absurd h;
    tree = λ has c h t. knows_all c h;
    grows = λ c h. absurd h;
    linked = λ shape place h. absurd h;
    once = λ home link to number h. absurd h;
    few = λ home link to number h. absurd h;
    deep = λ shape place h. absurd h;
    shapes_on = λ shape h. h;
    shows = λ h e. r.shows id k seat h e;
    shapes_new = λ shape place h. absurd h;
    homes = λ c h. absurd h;
    one_shape = λ shape place to h. absurd h;
  }
    where
      then : Moment
      then = moment plan (whole (set s.words i (get_or s.words i 0)) s.homes (set s.views id (with_more k r.blocks))) r.run r.lines (r.blocks ++ [])

  -- what a parent word is
  up_is : (class : ℕ) (path : Path) (at : ℕ) → Leads (moment plan s r.run r.lines r.blocks) class path at → LeadsUp (k.blocks ++ r.blocks) (parent_of (record { class = class; path = path })) (get_or s.words (at + 1) 0)
  up_is class [] at l = l.0
  up_is class (e ∷ path) at l = knows_all (ShapeAt (record { class = class; path = path }) (get_or s.words (at + 1) 0)) l.0

  -- what a link word is
  on_is : (home link : ℕ) → IsLink r.blocks home link (get_or s.words link 0) → LeadsOn (k.blocks ++ r.blocks) home link (get_or s.words link 0)
  on_is home link (inl none_there) = inl (none_there, λ from to number h. let l = r.each (LinkAt from link to number) (all_there (LinkAt from link to number) h) in l.1 (sym l.0 ∙ none_there))
  on_is home link (inr p) = inr ((r.each (LinkAt home link (get_or s.words link 0) p.0) p.1).1, (p.0, knows_all (LinkAt home link (get_or s.words link 0) p.0) p.1))

-- what is known of a shape is that of its block
of_shape : (plan : Plan) (s : State Slot Holder) (r : Kept plan s) (id at i : ℕ) (shape : Shape) (k : Holder) (T : Block → Type 0) → At s.views id k → Knows k (ShapeAt shape at) → at ≤ i → i < at + 7 → T (ShapeAt shape at) → (b : Block) → Knows k b → Inside i b → T b
of_shape plan s r id at i shape k T seat known lo hi t b kb ib = subst T (only_block plan s r id i k (ShapeAt shape at) b seat known kb (lo, hi) ib) t

pub looks_shape : (plan : Plan) (count id at i : ℕ) (shape : Shape) (k : Holder) → k.live ≡ true → Knows k (ShapeAt shape at) → at ≤ i → i < at + 7 → MayLoad LooksShape plan count id k i
looks_shape plan count id at i shape k live known lo hi s r size seat small =
    let here = r.known id k (ShapeAt shape at) seat known in
    let rule = r.each (ShapeAt shape at) here in
    let n : ℕ = get_or s.words i 0 in
    let k' : Holder = with_more k r.blocks in (
      k',
      keeps,
      tt,
      learn_step plan s r id k seat live (ShapeAt shape at) i here (lo, hi),
      (
        refl,
        (λ f. fits_more k r.blocks k refl refl refl refl f (blocks_fit plan s r id k seat live)),
        of_shape plan s r id at i shape k (λ b. LooksShape b i 0 0 k n k') seat known lo hi (
          (r.blocks, refl, λ has b t kn. r.tree id k seat live has b (all_there plan s r id k seat live b kn) t),
          tree_among k.size r.blocks (k.blocks ++ r.blocks) (knows_all plan s r id k seat live) (all_there plan s r id k seat live) (tree_is plan s r k.size (sym (r.laid.size id k seat live))),
          (λ is. subst (λ x. LeadsUp (k.blocks ++ r.blocks) (parent_of shape) (get_or s.words x 0)) (sym is) (up_is plan s r id k seat live shape.class shape.path at rule.leads)),
          λ is. ⊎_elim
              (λ (e : i ≡ first_child at). subst (λ x. LeadsOn (k.blocks ++ r.blocks) at x (get_or s.words x 0)) (sym e) (on_is plan s r id k seat live at (first_child at) rule.child))
              (λ (e : i ≡ next_sibling at). subst (λ x. LeadsOn (k.blocks ++ r.blocks) at x (get_or s.words x 0)) (sym e) (on_is plan s r id k seat live at (next_sibling at) rule.sibling))
              is,
        ),
      ),
    )

-- ---- a shape is made

-- what a shape and a link tell
abbrev IsShape : Block → Type 0
IsShape (ShapeAt shape at) = Unit {0}
IsShape b = ⊥

abbrev shape_in : Block → Shape
shape_in (ShapeAt shape at) = shape
shape_in b = root_of 0

abbrev AreLink : Block → Type 0
AreLink (LinkAt home link to number) = Unit {0}
AreLink b = ⊥

abbrev to_in : Block → ℕ
to_in (LinkAt home link to number) = to
to_in b = 0

abbrev number_in : Block → ℕ
number_in (LinkAt home link to number) = number
number_in b = 0

object_not_shape : (x : Rattle.rb_model.specs.declared.value.Id.Id) (at place : ℕ) (shape : Shape) → ObjectAt x at ≡ ShapeAt shape place → ⊥
object_not_shape x at place shape e = cc

-- with the place of a shape as its home there is the shape itself, and there are links from it
family_of : (plan : Plan) (s : State Slot Holder) (r : Kept plan s) (shape : Shape) (at : ℕ) → Has r.blocks (ShapeAt shape at) → (P : Block → Type 0) → P (ShapeAt shape at) → ((link to number : ℕ) → Has r.blocks (LinkAt at link to number) → P (LinkAt at link to number))
    → (c : Block) → Has r.blocks c → home_of c ≡ at → P c
family_of plan s r shape at here P own links (LinkAt home link to number) h is = subst (λ x. P (LinkAt x link to number)) (sym is) (links link to number (subst (λ x. Has r.blocks (LinkAt x link to number)) is h))
family_of plan s r shape at here P own links (ChunkAt object number place) h is =
    let home = r.homes (ChunkAt object number place) h in
    absurd (object_not_shape home.0 object at shape (r.laid.apart at (ObjectAt home.0 object) (ShapeAt shape at) home.1 here (subst (λ y. Inside y (ObjectAt home.0 object)) is (place_inside (ObjectAt home.0 object))) (place_inside (ShapeAt shape at))))
family_of plan s r shape at here P own links (ObjectAt x place) h is = subst P (sym (r.laid.apart at (ObjectAt x place) (ShapeAt shape at) h here (subst (λ y. Inside y (ObjectAt x place)) is (place_inside (ObjectAt x place))) (place_inside (ShapeAt shape at)))) own
family_of plan s r shape at here P own links (MutexAt x place) h is = subst P (sym (r.laid.apart at (MutexAt x place) (ShapeAt shape at) h here (subst (λ y. Inside y (MutexAt x place)) is (place_inside (MutexAt x place))) (place_inside (ShapeAt shape at)))) own
family_of plan s r shape at here P own links (ThreadAt x number maker place) h is = subst P (sym (r.laid.apart at (ThreadAt x number maker place) (ShapeAt shape at) h here (subst (λ y. Inside y (ThreadAt x number maker place)) is (place_inside (ThreadAt x number maker place))) (place_inside (ShapeAt shape at)))) own
family_of plan s r shape at here P own links (TextAt bytes place) h is = subst P (sym (r.laid.apart at (TextAt bytes place) (ShapeAt shape at) h here (subst (λ y. Inside y (TextAt bytes place)) is (place_inside (TextAt bytes place))) (place_inside (ShapeAt shape at)))) own
family_of plan s r shape at here P own links (BoxAt n place) h is = subst P (sym (r.laid.apart at (BoxAt n place) (ShapeAt shape at) h here (subst (λ y. Inside y (BoxAt n place)) is (place_inside (BoxAt n place))) (place_inside (ShapeAt shape at)))) own
family_of plan s r shape at here P own links (ShapeAt other place) h is = subst P (sym (r.laid.apart at (ShapeAt other place) (ShapeAt shape at) h here (subst (λ y. Inside y (ShapeAt other place)) is (place_inside (ShapeAt other place))) (place_inside (ShapeAt shape at)))) own
family_of plan s r shape at here P own links (LockAt place) h is = subst P (sym (r.laid.apart at (LockAt place) (ShapeAt shape at) h here (subst (λ y. Inside y (LockAt place)) is (place_inside (LockAt place))) (place_inside (ShapeAt shape at)))) own
family_of plan s r shape at here P own links TheTurn h is = subst P (sym (r.laid.apart at TheTurn (ShapeAt shape at) h here (subst (λ y. Inside y TheTurn) is (place_inside TheTurn)) (place_inside (ShapeAt shape at)))) own

-- the link word is one of the other shape's
pub link_within : (bs : List Block) (before shape : Shape) (home link number : ℕ) → MayLink bs before shape home link number → (home ≤ link) × (link < home + 7) × ((link ≡ first_child home) ⊎ (link ≡ next_sibling home))
link_within bs before shape home link zero j = let e = j.0 in (omega (arith, e), omega (arith, e), inl e)
link_within bs before shape home link (suc n) j = let e = j.0 in (omega (arith, e), omega (arith, e), inr e)

module _ (plan : Plan) (s : State Slot Holder) (r : Kept plan s) (id : ℕ) (k : Holder) (before : Shape) (parent : ℕ) (g : Growth) (seat : At s.views id k) (live : k.live ≡ true) (c : MayGrow k before parent g) where
  abbrev grown : Holder
  grown = with_growth k g

  abbrev region : Region
  region = record { at = g.to; words = shape_block g.shape parent ++ g.left }

  has_region : Has k.own region
  has_region = subst (λ os. Has os region) (sym c.laid) (inl refl)

  long : length (shape_block g.shape parent ++ g.left) ≡ 7 + length g.left
  long = omega arith

  here : Has r.blocks (ShapeAt before g.home)
  here = r.known id k (ShapeAt before g.home) seat c.home

  within : (g.home ≤ g.link) × (g.link < g.home + 7) × ((g.link ≡ first_child g.home) ⊎ (g.link ≡ next_sibling g.home))
  within = link_within k.blocks before g.shape g.home g.link g.number c.joins

  inside : Inside g.link (ShapeAt before g.home)
  inside = (within.0, within.1)

  -- the link is free
  no_link : (from to number : ℕ) → Has r.blocks (LinkAt from g.link to number) → ⊥
  no_link from to number h = c.ends from to number (r.tree id k seat live c.has (LinkAt from g.link to number) h tt)

  is_free : get_or s.words g.link 0 ≡ 0
  is_free =
      let rule = r.each (ShapeAt before g.home) here in
      let by_rule : IsLink r.blocks g.home g.link (get_or s.words g.link 0) = ⊎_elim
      (λ (e : g.link ≡ first_child g.home). subst (λ x. IsLink r.blocks g.home x (get_or s.words x 0)) (sym e) rule.child)
      (λ (e : g.link ≡ next_sibling g.home). subst (λ x. IsLink r.blocks g.home x (get_or s.words x 0)) (sym e) rule.sibling)
      within.2 in
      ⊎_elim (λ e. e) (λ (p : (number : ℕ) × Has r.blocks (LinkAt g.home g.link (get_or s.words g.link 0) number)). absurd (no_link g.home (get_or s.words g.link 0) p.0 p.1)) by_rule

  link_below : g.link < length s.words
  link_below = let top = (r.laid.blocks_in (ShapeAt before g.home) here).0 in let used = r.laid.used_in in let hi = within.1 in omega (arith, top, used, hi)

  abbrev words' : List ℕ
  words' = set s.words g.link g.to

  abbrev state' : State Slot Holder
  state' = whole words' s.homes (set s.views id grown)

  abbrev then : Moment
  then = moment plan state' r.run r.lines (r.blocks ++ blocks_of g)

  -- the words of the shape stand in the heap
  laid : (i : ℕ) → i < 7 → get_or words' (g.to + i) 0 ≡ get_or (shape_block g.shape parent ++ g.left) i 0
  laid i lt = get_or-set_other s.words g.link (g.to + i) g.to 0 (λ e. r.laid.beside (g.to + i) id k (ShapeAt before g.home) seat here (region, has_region, (omega arith, omega (arith, lt, long))) (subst (λ x. Inside x (ShapeAt before g.home)) (sym e) inside))
      ∙ r.own i id k region seat has_region (omega (arith, lt, long))

  other_word : (i : ℕ) → (i ≡ g.link → ⊥) → get_or words' i 0 ≡ get_or s.words i 0
  other_word i ne = get_or-set_other s.words g.link i g.to 0 ne

  there : Among k.blocks (r.blocks ++ blocks_of g)
  there b h = has_front r.blocks (blocks_of g) b (r.known id k b seat h)

  new_shape : Has (r.blocks ++ blocks_of g) (ShapeAt g.shape g.to)
  new_shape = has_behind r.blocks (blocks_of g) (ShapeAt g.shape g.to) (inl refl)

  new_link : Has (r.blocks ++ blocks_of g) (LinkAt g.home g.link g.to g.number)
  new_link = has_behind r.blocks (blocks_of g) (LinkAt g.home g.link g.to g.number) (inr (inl refl))

  -- the shape that is made stands
  leads_new : (class : ℕ) (path : Path) → LeadsUp k.blocks (parent_of (record { class = class; path = path })) parent → word then (g.to + 1) ≡ parent → word then (g.to + 2) ≡ edge_of path → word then (g.to + 3) ≡ places_before path → Leads then class path g.to
  leads_new class [] up one two three = (one ∙ up, two, three)
  leads_new class (e ∷ path) up one two three = (subst (λ x. Has (r.blocks ++ blocks_of g) (ShapeAt (record { class = class; path = path }) x)) (sym one) (there (ShapeAt (record { class = class; path = path }) parent) up), two, three)

  shape_stands : ShapeStands then g.shape g.to
  shape_stands = record {
    narrow = c.narrow;
    legal = c.legal;
    tag = ap (λ x. get_or words' x 0) (let z : g.to ≡ g.to + 0 = omega arith in z) ∙ laid 0 (omega arith);
    leads = leads_new g.shape.class g.shape.path c.up (laid 1 (omega arith)) (laid 2 (omega arith)) (laid 3 (omega arith));
    count = laid 4 (omega arith);
    child = inl (laid 5 (omega arith));
    sibling = inl (laid 6 (omega arith));
  }

  -- and so does the link to it
  joins_new : (number : ℕ) → MayLink k.blocks before g.shape g.home g.link number → Joins (r.blocks ++ blocks_of g) g.home g.link g.to number
  joins_new zero j = (j.0, (before, g.shape, there (ShapeAt before g.home) c.home, new_shape, j.1))
  joins_new (suc n) j = (j.0, nth_among k.blocks (r.blocks ++ blocks_of g) there n g.home j.1, (before, g.shape, there (ShapeAt before g.home) c.home, new_shape, j.2))

  link_stands : LinkStands then g.home g.link g.to g.number
  link_stands = (
    get_or-set_same s.words g.link g.to 0 link_below,
    (λ e. let low = (r.laid.own_in id k region seat has_region).0 in omega (arith, low, e)),
    joins_new g.number c.joins,
  )

  -- those that were there still do
  shape_again : ShapeStands then before g.home
  shape_again =
      let rule = r.each (ShapeAt before g.home) here in
      let far : (i : ℕ) → i < 5 → get_or words' (g.home + i) 0 ≡ get_or s.words (g.home + i) 0 = λ i lt. other_word (g.home + i) (λ e. far_link i lt e within.2) in record {
        narrow = rule.narrow;
        legal = rule.legal;
        tag = ap (λ x. get_or words' x 0) (let z : g.home ≡ g.home + 0 = omega arith in z) ∙ (far 0 (omega arith) ∙ (ap (λ x. get_or s.words x 0) (let z : g.home + 0 ≡ g.home = omega arith in z) ∙ rule.tag));
        leads = leads_again before.class before.path rule.leads (far 1 (omega arith)) (far 2 (omega arith)) (far 3 (omega arith));
        count = far 4 (omega arith) ∙ rule.count;
        child = link_again (first_child g.home) rule.child;
        sibling = link_again (next_sibling g.home) rule.sibling;
      }
    where
      far_link : (i : ℕ) → i < 5 → g.home + i ≡ g.link → (g.link ≡ first_child g.home) ⊎ (g.link ≡ next_sibling g.home) → ⊥
      far_link i lt e (inl f) = omega (arith, lt, e, f)
      far_link i lt e (inr f) = omega (arith, lt, e, f)

      leads_again : (class : ℕ) (path : Path) → Leads (moment plan s r.run r.lines r.blocks) class path g.home → get_or words' (g.home + 1) 0 ≡ get_or s.words (g.home + 1) 0 → get_or words' (g.home + 2) 0 ≡ get_or s.words (g.home + 2) 0
          → get_or words' (g.home + 3) 0 ≡ get_or s.words (g.home + 3) 0 → Leads then class path g.home
      leads_again class [] l one two three = (one ∙ l.0, two ∙ l.1, three ∙ l.2)
      leads_again class (e ∷ path) l one two three = (
        subst (λ x. Has (r.blocks ++ blocks_of g) (ShapeAt (record { class = class; path = path }) x)) (sym one) (has_front r.blocks (blocks_of g) (ShapeAt (record { class = class; path = path }) (get_or s.words (g.home + 1) 0)) l.0),
        two ∙ l.1,
        three ∙ l.2,
      )

      link_again : (link : ℕ) → IsLink r.blocks g.home link (get_or s.words link 0) → IsLink (r.blocks ++ blocks_of g) g.home link (get_or words' link 0)
      link_again link l = dite (ℕ_discrete link g.link)
          (λ is. inr (g.number, subst (λ x. Has (r.blocks ++ blocks_of g) (LinkAt g.home link x g.number)) (sym (ap (λ x. get_or words' x 0) is ∙ link_stands.0)) (subst (λ x. Has (r.blocks ++ blocks_of g) (LinkAt g.home x g.to g.number)) (sym is) new_link)))
          (λ ne. is_link_on (moment plan s r.run r.lines r.blocks) then (λ b h. has_front r.blocks (blocks_of g) b h) g.home link (get_or s.words link 0) (get_or words' link 0) (other_word link ne) l)

  old_link : (link to number : ℕ) → Has r.blocks (LinkAt g.home link to number) → LinkStands then g.home link to number
  old_link link to number h =
      let rule = r.each (LinkAt g.home link to number) h in (
        other_word link (λ e. no_link g.home to number (subst (λ x. Has r.blocks (LinkAt g.home x to number)) e h)) ∙ rule.0,
        rule.1,
        joins_among r.blocks (r.blocks ++ blocks_of g) (λ b q. has_front r.blocks (blocks_of g) b q) g.home link to number rule.2,
      )

  -- what comes is the shape and the link
  come_each : (P : Block → Type 0) → P (ShapeAt g.shape g.to) → P (LinkAt g.home g.link g.to g.number) → (b : Block) → Has (blocks_of g) b → P b
  come_each P shape link b (inl e) = subst P (sym e) shape
  come_each P shape link b (inr (inl e)) = subst P (sym e) link
  come_each P shape link b (inr (inr h)) = absurd h

  held_less : held k ≡ held grown + 7
  held_less = let own = ap words_in c.laid in omega (arith, own, long)

  -- the row and the path go on from those that were there
  abbrev Room : ℕ → Type 0
  Room number = shape_words * number + owned s.views + held grown ≤ get_or s.words used_word 0 + held k

  none_less : Room 0
  none_less = let old = r.few 0 first_root (inl (refl, refl)) in omega (arith, old, held_less)

  row_room : (number : ℕ) → MayLink k.blocks before g.shape g.home g.link number → Room number
  row_room zero j = none_less
  row_room (suc n) j = let old = r.few n g.home (nth_among k.blocks r.blocks (λ b h. r.known id k b seat h) n g.home j.1) in omega (arith, old, held_less)

  path_room : (class : ℕ) (path : Path) → LeadsUp k.blocks (parent_of (record { class = class; path = path })) parent → Room (length path)
  path_room class [] up = none_less
  path_room class (e ∷ path) up = let old = r.deep (record { class = class; path = path }) parent (r.known id k (ShapeAt (record { class = class; path = path }) parent) seat up) in omega (arith, old, held_less)

  -- no other link leads to it
  only_number : (other : ℕ) → IsNth (r.blocks ++ blocks_of g) other g.to → g.number ≡ other
  only_number other (inl first) = let low = (r.laid.own_in id k region seat has_region).0 in let is = first.1 in absurd (omega (arith, low, is))
  only_number other (inr p) = ⊎_elim
      (λ (was : Has r.blocks (LinkAt p.0 p.1 g.to other)).
      let end = joins_end r.blocks p.0 p.1 g.to other (r.each (LinkAt p.0 p.1 g.to other) was).2 in
      absurd (r.laid.beside g.to id k (ShapeAt end.0 g.to) seat end.1 (region, has_region, (let z : g.to ≤ g.to = omega arith in z, omega (arith, long))) (place_inside (ShapeAt end.0 g.to))))
      (λ (come : Has (blocks_of g) (LinkAt p.0 p.1 g.to other)). sym (come_each (λ b. AreLink b → number_in b ≡ g.number) (λ x. absurd x) (λ _. refl) (LinkAt p.0 p.1 g.to other) come tt))
      (has_either r.blocks (blocks_of g) (LinkAt p.0 p.1 g.to other) p.2)

  grow_step : Kept plan state'
  grow_step = quiet_step plan s r s.homes id k grown g.link g.to (ShapeAt before g.home) seat live live refl refl here inside (blocks_of g) record {
    note = note_same k.view k.view refl;
    due = refl;
    late = r.late id k seat live;
    knows_more = λ b h. has_front k.blocks (blocks_of g) b h;
    knows_in = λ b h. ⊎_elim (λ (was : Has k.blocks b). there b was) (λ (come : Has (blocks_of g) b). has_behind r.blocks (blocks_of g) b come) (has_either k.blocks (blocks_of g) b h);
    left = λ o h. ⊎_elim (λ (is : o ≡ record { at = g.to + 7; words = g.left }). subst (PartOf k.own) (sym is) rest_part) (λ none_else. absurd none_else) h;
    single = λ x o p h q. ⊎_elim (λ (a : o ≡ record { at = g.to + 7; words = g.left }). ⊎_elim (λ (b : p ≡ record { at = g.to + 7; words = g.left }). λ _ _. a ∙ sym b) (λ none_else. absurd none_else) q) (λ none_else. absurd none_else) h;
    counted = held_less;
    was_own = λ x. come_each (λ b. Inside x b → InOwn x k × (InOwn x grown → ⊥))
        (λ i. let lo = i.0 in let hi = i.1 in ((region, has_region, (lo, omega (arith, hi, long))), λ o. ⊎_elim (λ (is : o.0 ≡ record { at = g.to + 7; words = g.left }). let from = subst (λ (p : Region). p.at ≤ x) is o.2.0 in omega (arith, from, hi)) (λ none_else. none_else) o.1))
        (λ i. let lo = i.0 in let hi = i.1 in absurd (omega (arith, lo, hi)));
    bounded = come_each (λ b. place_of b + size_of b ≤ get_or s.words used_word 0)
        (let high = (r.laid.own_in id k region seat has_region).1 in omega (arith, high, long))
        (let top = (r.laid.blocks_in (ShapeAt before g.home) here).0 in let hi = within.1 in omega (arith, top, hi));
    parted = λ x b d hb hd ib id. come_each (λ b. Inside x b → b ≡ d)
        (λ _. come_each (λ d. Inside x d → ShapeAt g.shape g.to ≡ d) (λ _. refl) (λ i. let lo = i.0 in let hi = i.1 in absurd (omega (arith, lo, hi))) d hd id)
        (λ i. let lo = i.0 in let hi = i.1 in absurd (omega (arith, lo, hi))) b hb ib;
    slot = λ off. refl;
    doing = λ x far. refl;
    anew = family_of plan s r before g.home here (Stands then) shape_again old_link;
    new = come_each (Stands then) shape_stands link_stands;
    no_thing = come_each (λ b. id_of b ≡ None) refl refl;
    tree = λ has b h t. has_front k.blocks (blocks_of g) b (r.tree id k seat live has b h t);
    grows = λ b h t. (c.has, has_behind k.blocks (blocks_of g) b h);
    linked = λ shape place h. come_each (λ b. IsShape b → (number : ℕ) × IsNth (r.blocks ++ blocks_of g) number (place_of b)) (λ _. (g.number, inr (g.home, g.link, new_link))) (λ x. absurd x) (ShapeAt shape place) h tt;
    once = λ home link to number h. come_each (λ b. AreLink b → (other : ℕ) → IsNth (r.blocks ++ blocks_of g) other (to_in b) → number_in b ≡ other) (λ x. absurd x) (λ _ other nth. only_number other nth) (LinkAt home link to number) h tt;
    few = λ home link to number h. come_each (λ b. AreLink b → Room (number_in b)) (λ x. absurd x) (λ _. row_room g.number c.joins) (LinkAt home link to number) h tt;
    deep = λ shape place h. come_each (λ b. IsShape b → Room (length (shape_in b).path)) (λ _. path_room g.shape.class g.shape.path c.up) (λ x. absurd x) (ShapeAt shape place) h tt;
    shapes_on = λ shape h. inr h;
    shows = λ h e. r.shows id k seat h e;
    shapes_new = λ shape place h. come_each (λ b. IsShape b → Has grown.shapes (shape_in b)) (λ _. inl refl) (λ x. absurd x) (ShapeAt shape place) h tt;
    homes = come_each (HasHome (r.blocks ++ blocks_of g)) tt (before, there (ShapeAt before g.home) c.home);
    one_shape = λ shape place to h also. come_each (λ b. IsShape b → Has (r.blocks ++ blocks_of g) (ShapeAt (shape_in b) to) → place_of b ≡ to)
        (λ _ q. ⊎_elim
        (λ (old : Has r.blocks (ShapeAt g.shape to)). absurd (c.missing to (r.tree id k seat live c.has (ShapeAt g.shape to) old tt)))
        (λ (come : Has (blocks_of g) (ShapeAt g.shape to)). sym (come_each (λ d. IsShape d → place_of d ≡ g.to) (λ _. refl) (λ x. absurd x) (ShapeAt g.shape to) come tt))
        (has_either r.blocks (blocks_of g) (ShapeAt g.shape to) q))
        (λ x. absurd x) (ShapeAt shape place) h tt also;
  }
    where
      rest_part : PartOf k.own (record { at = g.to + 7; words = g.left })
      rest_part = (region, has_region, (let z : g.to ≤ g.to + 7 = omega arith in z), omega (arith, long), λ x lt. ap (λ y. get_or (shape_block g.shape parent ++ g.left) y 0) (let z : suc (suc (suc (suc (suc (suc (suc x)))))) ≡ g.to + 7 - g.to + x = omega arith in z))

pub makes_shape : (plan : Plan) (count id : ℕ) (k : Holder) (before : Shape) (parent : ℕ) (g : Growth) → k.live ≡ true → MayGrow k before parent g → MayStore MakesShape plan count id k g.link g.to
makes_shape plan count id k before parent g live c s r size seat small =
    let in_own = within plan s r id k before parent g seat live c in (
      with_growth k g,
      keeps,
      tt,
      grow_step plan s r id k before parent g seat live c,
      (
        refl,
        (λ f. record {
          live = f.live;
          size = f.size;
          opening = f.opening;
          own = λ o h. ⊎_elim (λ (is : o ≡ record { at = g.to + 7; words = g.left }). subst (λ (p : Region). p.at + length p.words ≤ k.size) (sym is) (let top = f.own (region plan s r id k before parent g seat live c) (has_region plan s r id k before parent g seat live c) in let l = long plan s r id k before parent g seat live c in omega (arith, top, l))) (λ none_else. absurd none_else) h;
          blocks = λ b h. ⊎_elim (λ (was : Has k.blocks b). f.blocks b was)
              (λ (come : Has (blocks_of g) b). come_each plan s r id k before parent g seat live c (λ b. place_of b + size_of b ≤ k.size)
              (let top = f.own (region plan s r id k before parent g seat live c) (has_region plan s r id k before parent g seat live c) in let l = long plan s r id k before parent g seat live c in omega (arith, top, l))
              (let top = f.blocks (ShapeAt before g.home) c.home in let hi = in_own.1 in omega (arith, top, hi)) b come)
              (has_either k.blocks (blocks_of g) b h);
        }),
        of_shape plan s r id g.home g.link before k (λ b. MakesShape b g.link g.to 0 k g.to (with_growth k g)) seat c.home in_own.0 in_own.1 (g, refl, (before, parent, c), refl),
      ),
    )
