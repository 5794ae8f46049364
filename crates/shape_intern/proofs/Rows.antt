-- Rows of shapes, and what a walk along one shows.
use Rattle.std.proofs.Common.{◌≡◌, ◌≢◌, ◌≤◌, ◌<◌, ◌⊎◌, ◌-◌, ◌==◌, ℕ, zero, suc, ◌+◌, cond, List, [], ◌∷◌, Option, Some, None, refl, sym, ap, ◌∙◌, subst, inl, inr, ⊎_elim, arith, eq-eqb, ne_eqb, lt_of_not-le}
use mathlib.Core.Logic.{dite}
use native.Mathlib.Decide.{ℕ_discrete, dec_le}
use Rattle.rb_shared.specs.Lists.{Has}
use Rattle.shape_core.specs.Shape.{Shape, root_of}
use Rattle.heap_core.specs.Blocks.{Block, ObjectAt, ChunkAt, MutexAt, ThreadAt, TextAt, BoxAt, ShapeAt, LockAt, TheTurn, LinkAt}
use Rattle.heap_core.specs.Growing.{LeadsOn}
use Rattle.heap_core.specs.Links.{IsNth, IsTree}
use Rattle.heap_core.specs.Places.{first_root}
use Rattle.heap_core.specs.Shapes.{parent_of, first_child, next_sibling}
use Rattle.heap_core.proofs.Frames.{Among, nth_among}
use Rattle.shape_intern.specs.Walks.{IsMissing, IsInRow, Ends, IsBegun}

none_is : (shape : Shape) → None ≡ Some shape → ⊥
none_is shape e = cc

some_is : (a b : Shape) → Some a ≡ Some b → a ≡ b
some_is a b e = cc

-- more blocks leave a place in a row
pub in_row_among : (bs cs : List Block) → Among bs cs → (row : Option Shape) (number at : ℕ) → IsInRow bs row number at → IsInRow cs row number at
in_row_among bs cs all row number at p = (nth_among bs cs all number at p.0, (p.1.0, all (ShapeAt p.1.0 at) p.1.1, p.1.2))

module _ (size : ℕ) (bs : List Block) (t : IsTree size bs) where
  -- the shape at a place has the parent that its row says
  pub row_is : (row : Option Shape) (number at : ℕ) (shape : Shape) → IsInRow bs row number at → Has bs (ShapeAt shape at) → parent_of shape ≡ row
  row_is row number at shape p h = ap parent_of (t.one_at shape p.1.0 at h p.1.1) ∙ p.1.2

  -- the first of a row of children is that to which the first link of their parent leads
  first_of : (parent : Shape) (at : ℕ) → IsInRow bs (Some parent) 0 at → (home : ℕ) × Has bs (ShapeAt parent home) × Has bs (LinkAt home (first_child home) at 0)
  first_of parent at (inl first, p) = absurd (none_is parent (ap parent_of (t.one_at (root_of 4294967295) p.0 at (subst (λ x. Has bs (ShapeAt (root_of 4294967295) x)) (sym first.1) t.root) p.1) ∙ p.2))
  first_of parent at (inr n, p) =
      let j = t.joins n.0 n.1 at 0 n.2 in
      let q = j.1 in
      let same : q.0 ≡ parent = some_is q.0 parent (sym q.4 ∙ (ap parent_of (t.one_at q.1 p.0 at q.3 p.1) ∙ p.2)) in
      (n.0, subst (λ x. Has bs (ShapeAt x n.0)) same q.2, subst (λ x. Has bs (LinkAt n.0 x at 0)) j.0 n.2)

  -- the first of the row of roots is the first root
  first_root_of : (at : ℕ) → IsInRow bs None 0 at → at ≡ first_root
  first_root_of at (inl first, p) = first.1
  first_root_of at (inr n, p) =
      let q = (t.joins n.0 n.1 at 0 n.2).1 in
      absurd (none_is q.0 (sym p.2 ∙ (ap parent_of (t.one_at p.0 q.1 at p.1 q.3) ∙ q.4)))

  -- each other has one before it, from which a link leads to it
  before_of : (row : Option Shape) (n at : ℕ) → IsInRow bs row (suc n) at → (home : ℕ) × IsInRow bs row n home × Has bs (LinkAt home (next_sibling home) at (suc n))
  before_of row n at (inl first, p) = absurd (let z = first.0 in omega (arith, z))
  before_of row n at (inr l, p) =
      let j = t.joins l.0 l.1 at (suc n) l.2 in
      let q = j.2 in
      (l.0, (j.1, (q.0, q.2, sym q.4 ∙ (ap parent_of (t.one_at q.1 p.0 at q.3 p.1) ∙ p.2))), subst (λ x. Has bs (LinkAt l.0 x at (suc n))) j.0 l.2)

  -- a row has one shape of a number
  pub one_nth : (row : Option Shape) (n at to : ℕ) → IsInRow bs row n at → IsInRow bs row n to → at ≡ to
  one_nth None zero at to p q = first_root_of at p ∙ sym (first_root_of to q)
  one_nth (Some parent) zero at to p q =
      let a = first_of parent at p in
      let b = first_of parent to q in
      let same : a.0 ≡ b.0 = t.one_shape parent a.0 b.0 a.1 b.1 in
      t.one_end a.0 b.0 (first_child a.0) at to 0 0 a.2 (subst (λ x. Has bs (LinkAt b.0 (first_child x) to 0)) (sym same) b.2)
  one_nth row (suc n) at to p q =
      let a = before_of row n at p in
      let b = before_of row n to q in
      let same : a.0 ≡ b.0 = one_nth row n a.0 b.0 a.1 b.1 in
      t.one_end a.0 b.0 (next_sibling a.0) at to (suc n) (suc n) a.2 (subst (λ x. Has bs (LinkAt b.0 (next_sibling x) to (suc n))) (sym same) b.2)

  -- where a row has none of a number it has none of a higher one
  none_later : (row : Option Shape) (n : ℕ) → ((at : ℕ) → IsInRow bs row n at → ⊥) → (more at : ℕ) → IsInRow bs row (more + n) at → ⊥
  none_later row n gone zero at p = gone at (subst (λ m. IsInRow bs row m at) (let z : zero + n ≡ n = omega arith in z) p)
  none_later row n gone (suc more) at p =
      let b = before_of row (more + n) at (subst (λ m. IsInRow bs row m at) (let z : suc more + n ≡ suc (more + n) = omega arith in z) p) in
      none_later row n gone more b.0 b.1

  -- each of the row below a number is another shape
  abbrev pub Passed : Option Shape → Shape → ℕ → Type 0
  Passed row shape n = (m : ℕ) → m < n → (at : ℕ) × IsInRow bs row m at × ((other : Shape) → Has bs (ShapeAt other at) → other ≡ shape → ⊥)

  -- so a row that ends there has not the shape
  pub gone : (row : Option Shape) (shape : Shape) (n : ℕ) → parent_of shape ≡ row → Passed row shape n → ((at : ℕ) → IsInRow bs row n at → ⊥) → IsMissing bs shape
  gone row shape n of passed ended at h =
      let nth = t.linked shape at h in
      let here : IsInRow bs row nth.0 at = (nth.1, (shape, h, of)) in
      ⊎_elim
      (λ (lt : nth.0 < n). let p = passed nth.0 lt in p.2 shape (subst (λ x. Has bs (ShapeAt shape x)) (one_nth row nth.0 at p.0 here p.1) h) refl)
      (λ (le : n ≤ nth.0). none_later row n ended (nth.0 - n) at (subst (λ m. IsInRow bs row m at) (let z : nth.0 ≡ nth.0 - n + n = omega (arith, le) in z) here))
      (below_or nth.0 n)
    where
      below_or : (a b : ℕ) → (a < b) ⊎ (b ≤ a)
      below_or a b = dite (dec_le b a) (λ le. inr le) (λ no. inl (lt_of_not-le no))

  -- the link behind the n-th leads to the next
  pub next_in : (row : Option Shape) (n at to number : ℕ) → IsInRow bs row n at → Has bs (LinkAt at (next_sibling at) to number) → IsInRow bs row (suc n) to
  next_in row n at to zero p h = absurd (let j = t.joins at (next_sibling at) to 0 h in let e = j.0 in omega (arith, e))
  next_in row n at to (suc m) p h =
      let j = t.joins at (next_sibling at) to (suc m) h in
      let q = j.2 in
      let same : m ≡ n = t.once m n at j.1 p.0 in
      (inr (at, next_sibling at, subst (λ x. Has bs (LinkAt at (next_sibling at) to (suc x))) same h), (q.1, q.3, q.4 ∙ row_is row n at q.0 p q.2))

  -- where no link is behind the n-th, the row ends
  pub none_next : (row : Option Shape) (n at : ℕ) → IsInRow bs row n at → ((from to number : ℕ) → Has bs (LinkAt from (next_sibling at) to number) → ⊥) → (to : ℕ) → IsInRow bs row (suc n) to → ⊥
  none_next row n at p none_there to q =
      let b = before_of row n to q in
      let same : b.0 ≡ at = one_nth row n b.0 at b.1 p in
      none_there b.0 to (suc n) (subst (λ x. Has bs (LinkAt b.0 (next_sibling x) to (suc n))) same b.2)

  -- the row of the children of a shape begins where its first link leads
  pub child_begun : (parent : Shape) (home w : ℕ) → Has bs (ShapeAt parent home) → LeadsOn bs home (first_child home) w → IsBegun bs (Some parent) w (first_child home)
  child_begun parent home w h (inl p) = inr (
    p.0,
    (p.1, (home, parent, 0, h, λ shape is. (refl, is))),
    λ at q. let f = first_of parent at q in let same : f.0 ≡ home = t.one_shape parent f.0 home f.1 h in p.1 f.0 at 0 (subst (λ x. Has bs (LinkAt f.0 (first_child x) at 0)) same f.2),
  )
  child_begun parent home w h (inr p) = inl (p.0, by_number p.1.0 p.1.1)
    where
      by_number : (n : ℕ) → Has bs (LinkAt home (first_child home) w n) → IsInRow bs (Some parent) 0 w
      by_number zero l =
          let q = (t.joins home (first_child home) w 0 l).1 in
          (inr (home, first_child home, l), (q.1, q.3, q.4 ∙ ap Some (t.one_at q.0 parent home q.2 h)))
      by_number (suc n) l = absurd (let e = (t.joins home (first_child home) w (suc n) l).0 in omega (arith, e))

  -- that of the roots begins at the first root
  pub root_begun : (link : ℕ) → IsBegun bs None first_root link
  root_begun link = inl ((λ e. let z : 17 ≡ 0 = e in omega (arith, z)), (inl (refl, refl), (root_of 4294967295, t.root, refl)))

-- ---- a walk

-- The place is in the row and all before it were passed, or the row ended.
abbrev pub Walks : List Block → Option Shape → Shape → (at link : ℕ) → Type 0
Walks bs row shape at link =
    ((at ≢ 0) × ((n : ℕ) × IsInRow bs row n at × ((m : ℕ) → m < n → (x : ℕ) × IsInRow bs row m x × ((other : Shape) → Has bs (ShapeAt other x) → other ≡ shape → ⊥))))
    ⊎ ((at ≡ 0) × IsMissing bs shape × Ends bs row link)

pub walk_begins : (size : ℕ) (bs : List Block) (row : Option Shape) (shape : Shape) (first link : ℕ) → IsTree size bs → parent_of shape ≡ row → IsBegun bs row first link → Walks bs row shape first link
walk_begins size bs row shape first link t of (inl p) = inl (p.0, (0, p.1, λ m lt. absurd (omega (arith, lt))))
walk_begins size bs row shape first link t of (inr p) = inr (p.0, gone size bs t row shape 0 of (λ m lt. absurd (omega (arith, lt))) p.2, p.1)

pub walk_goes : (size : ℕ) (bs cs : List Block) (row : Option Shape) (shape : Shape) (at link w : ℕ) → at ≢ 0 → Among bs cs → IsTree size cs → parent_of shape ≡ row → Walks bs row shape at link
    → ((other : Shape) → Has bs (ShapeAt other at) → parent_of other ≡ row → other ≡ shape → ⊥) → LeadsOn cs at (next_sibling at) w → Walks cs row shape w (next_sibling at)
walk_goes size bs cs row shape at link w some all t of (inr p) not_here leads = absurd (some p.0)
walk_goes size bs cs row shape at link w some all t of (inl p) not_here leads = by_word leads
  where
    n : ℕ
    n = p.1.0

    here : IsInRow cs row p.1.0 at
    here = in_row_among bs cs all row p.1.0 at p.1.1

    passed : (m : ℕ) → m < suc p.1.0 → (x : ℕ) × IsInRow cs row m x × ((other : Shape) → Has cs (ShapeAt other x) → other ≡ shape → ⊥)
    passed m lt = dite (ℕ_discrete m p.1.0)
        (λ is. (
          at,
          subst (λ y. IsInRow cs row y at) (sym is) here,
          λ other h e.
              let q = p.1.1.1 in not_here q.0 q.1 q.2 (t.one_at q.0 other at (all (ShapeAt q.0 at) q.1) h ∙ e),
        ))
        (λ ne. let q = p.1.2 m (omega (arith, lt, ne)) in
        (q.0, in_row_among bs cs all row m q.0 q.1, λ other h is. q.2 q.1.1.0 q.1.1.1 (t.one_at q.1.1.0 other q.0 (all (ShapeAt q.1.1.0 q.0) q.1.1.1) h ∙ is)))

    by_word : LeadsOn cs at (next_sibling at) w → Walks cs row shape w (next_sibling at)
    by_word (inr l) = inl (l.0, (suc p.1.0, next_in size cs t row p.1.0 at w l.1.0 here l.1.1, passed))
    by_word (inl l) = inr (
      l.0,
      gone size cs t row shape (suc p.1.0) of passed (none_next size cs t row p.1.0 at here l.1),
      (l.1, (at, here.1.0, suc p.1.0, here.1.1, λ other is. (refl, here.0, is ∙ sym here.1.2))),
    )

-- ---- that a walk ends

-- the number in its row of the shape to which a link leads, if it leads here
abbrev pub number_by : Block → (at other : ℕ) → ℕ
number_by (LinkAt home link to number) at other = cond (to == at) number other
number_by b at other = other

-- the number of the shape at a place in its row
abbrev pub number_at : List Block → ℕ → ℕ
number_at [] at = 0
number_at (b ∷ bs) at = number_by b at (number_at bs at)

-- how far a walk at this place may still go
abbrev pub left_at : ℕ → List Block → ℕ → ℕ
left_at size bs at = cond (at == 0) 0 (suc (size - number_at bs at))

-- a link among the blocks tells the number, or there is none
abbrev HasNumber : List Block → ℕ → Type 0
HasNumber bs at = ((home : ℕ) × (link : ℕ) × Has bs (LinkAt home link at (number_at bs at))) ⊎ ((number_at bs at ≡ 0) × ((home link number : ℕ) → Has bs (LinkAt home link at number) → ⊥))

module _ (bs : List Block) (at : ℕ) where
  more_number : (b : Block) → number_by b at (number_at bs at) ≡ number_at bs at → ((home link number : ℕ) → LinkAt home link at number ≡ b → ⊥) → HasNumber bs at → HasNumber (b ∷ bs) at
  more_number b same no_link (inl p) = inl (p.0, p.1, subst (λ n. Has (b ∷ bs) (LinkAt p.0 p.1 at n)) (sym same) (inr p.2))
  more_number b same no_link (inr p) = inr (same ∙ p.0, λ home link number h. ⊎_elim (λ e. no_link home link number e) (λ g. p.1 home link number g) h)

  to_is : (a b h l n home link number : ℕ) → LinkAt h l a n ≡ LinkAt home link b number → a ≡ b
  to_is a b h l n home link number e = cc

  number_of_kind : (b : Block) → HasNumber bs at → HasNumber (b ∷ bs) at
  number_of_kind (LinkAt home link to number) q = dite (ℕ_discrete to at)
      (λ is. let same : number_at (LinkAt home link to number ∷ bs) at ≡ number = ap (λ x. cond x number (number_at bs at)) (eq-eqb to at is) in
      inl (home, link, inl (ap (LinkAt home link at) same ∙ ap (λ x. LinkAt home link x number) (sym is))))
      (λ ne. more_number (LinkAt home link to number) (ap (λ x. cond x number (number_at bs at)) (ne_eqb to at ne)) (λ h l n e. ne (sym (to_is at to h l n home link number e))) q)
  number_of_kind (ObjectAt id a) q = more_number (ObjectAt id a) refl (λ h l n e. cc) q
  number_of_kind (ChunkAt object number a) q = more_number (ChunkAt object number a) refl (λ h l n e. cc) q
  number_of_kind (MutexAt id a) q = more_number (MutexAt id a) refl (λ h l n e. cc) q
  number_of_kind (ThreadAt id number maker a) q = more_number (ThreadAt id number maker a) refl (λ h l n e. cc) q
  number_of_kind (TextAt bytes a) q = more_number (TextAt bytes a) refl (λ h l n e. cc) q
  number_of_kind (BoxAt n a) q = more_number (BoxAt n a) refl (λ h l n e. cc) q
  number_of_kind (ShapeAt shape a) q = more_number (ShapeAt shape a) refl (λ h l n e. cc) q
  number_of_kind (LockAt a) q = more_number (LockAt a) refl (λ h l n e. cc) q
  number_of_kind TheTurn q = more_number TheTurn refl (λ h l n e. cc) q

number_found : (bs : List Block) (at : ℕ) → HasNumber bs at
number_found [] at = inr (refl, λ home link number h. h)
number_found (b ∷ bs) at = number_of_kind bs at b (number_found bs at)

number_is : (size : ℕ) (bs : List Block) → IsTree size bs → (number at : ℕ) → IsNth bs number at → number_at bs at ≡ number
number_is size bs t number at nth = by_found nth (number_found bs at)
  where
    by_found : IsNth bs number at → HasNumber bs at → number_at bs at ≡ number
    by_found n (inl p) = t.once (number_at bs at) number at (inr (p.0, p.1, p.2)) n
    by_found (inl first) (inr p) = p.0 ∙ sym first.0
    by_found (inr l) (inr p) = absurd (p.1 l.0 l.1 number l.2)

-- the place is 0, or in the row
abbrev pub IsOn : List Block → Option Shape → ℕ → Type 0
IsOn bs row at = at ≢ 0 → (n : ℕ) × IsInRow bs row n at

pub begun_on : (bs : List Block) (row : Option Shape) (first link : ℕ) → IsBegun bs row first link → IsOn bs row first
begun_on bs row first link (inl p) some = (0, p.1)
begun_on bs row first link (inr p) some = absurd (some p.0)

pub goes_on : (size : ℕ) (cs : List Block) (row : Option Shape) (n at w : ℕ) → IsTree size cs → IsInRow cs row n at → LeadsOn cs at (next_sibling at) w → w ≢ 0 → IsInRow cs row (suc n) w
goes_on size cs row n at w u p (inl l) some = absurd (some l.0)
goes_on size cs row n at w u p (inr l) some = next_in size cs u row n at w l.1.0 p l.1.1

-- each step leaves it less far to go
pub walk_ends : (size : ℕ) (bs cs : List Block) (row : Option Shape) (at w : ℕ) → at ≢ 0 → Among bs cs → IsTree size bs → IsTree size cs → IsOn bs row at → LeadsOn cs at (next_sibling at) w → left_at size cs w < left_at size bs at
walk_ends size bs cs row at w some all t u on leads = dite (ℕ_discrete w 0)
    (λ is. let there : left_at size cs w ≡ 0 = ap (λ x. cond x 0 (suc (size - number_at cs w))) (eq-eqb w 0 is) in omega (arith, here, there))
    (λ ne.
    let p = on some in
    let there : left_at size cs w ≡ suc (size - number_at cs w) = ap (λ x. cond x 0 (suc (size - number_at cs w))) (ne_eqb w 0 ne) in
    let n = number_is size bs t p.0 at p.1.0 in
    let nth = (goes_on size cs row p.0 at w u (in_row_among bs cs all row p.0 at p.1) leads ne).0 in
    let m = number_is size cs u (suc p.0) w nth in
    let few = u.few (suc p.0) w nth in
    omega (arith, here, there, n, m, few))
  where
    here : left_at size bs at ≡ suc (size - number_at bs at)
    here = ap (λ x. cond x 0 (suc (size - number_at bs at))) (ne_eqb at 0 some)
