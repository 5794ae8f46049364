-- The bodies of threads by their numbers: each has a shape, whose threads have greater numbers, so what holds of a shape where it holds of those holds of all.
use Rattle.std.proofs.Common.{◌≡◌, ◌∙◌, refl, ap, sym, subst, ℕ, zero, suc, ◌+◌, ◌-◌, ◌≤◌, ◌<◌, inl, inr, Bool, true, false, List, [], ◌∷◌, ◌++◌, drop, length, Some, None, map, arith}
use Rattle.std.specs.Prelude.{◌==◌, if◌then◌else◌, slice_get}
use Rattle.std.specs.List.{list_all}
use Rattle.std.proofs.lemmas.Bool.{and_parts}
use Rattle.std.proofs.lemmas.Bool.Decides.{nat_tests}
use Rattle.std.proofs.lemmas.List.{drop-drop, drop_all, map-append}
use Rattle.rb_tree.specs.declared.span.Span.{Span}
use Rattle.rb_tree.specs.declared.node.Block.{Block}
use Rattle.rb_checker.specs.declared.event.Event.{Event}
use Rattle.rb_checker.specs.declared.event.Sight.{Sight}
use Rattle.rb_checker.specs.declared.event.Sight.TheVariants as sight
use Rattle.rb_checker.specs.declared.event.Around.TheVariants as around
use Rattle.rb_checker.specs.Events.{event, inside, block_part, bodies_from}
use Rattle.rb_grammar.specs.Faithful.{Each}
use Rattle.rb_grammar.proofs.Each.{each_left, each_right, each_append, each_map}
use Rattle.rb_accepted.specs.Unbuilt.{Found, first_of}
use Rattle.rb_accepted.proofs.Bodies.{bodies_of, body_known}
use Rattle.rb_accepted.proofs.Seen.{Start, start_at, starts_in, numbers_of}
use Rattle.rb_accepted.proofs.Framed.{Shape, nothing, single, both, inner, start, spelled, started, IsPlain, IsRight}
use Rattle.rb_accepted.proofs.Segments.{In}
use Rattle.rb_accepted.proofs.Starting.{starts_both}
use Rattle.rb_accepted.proofs.Coding.{parts_none}

-- ---- lists

-- where nothing is found in all, nothing is in one
pub none_in : {A : Type 0} (f : A → Found) (xs : List A) → first_of (map f xs) ≡ None → (x : A) → In x xs → f x ≡ None
none_in f [] h x i = absurd i
none_in f (y ∷ xs) h x (inl e) = ap f e ∙ (parts_none (f y) (first_of (map f xs)) h).0
none_in f (y ∷ xs) h x (inr i) = none_in f xs (parts_none (f y) (first_of (map f xs)) h).1 x i

-- where all pass a test, one does
pub all_there : {A : Type 0} (f : A → Bool) (xs : List A) → list_all f xs ≡ true → (x : A) → In x xs → f x ≡ true
all_there f [] h x i = absurd i
all_there f (y ∷ xs) h x (inl e) = ap f e ∙ (and_parts (f y) (list_all f xs) h).0
all_there f (y ∷ xs) h x (inr i) = all_there f xs (and_parts (f y) (list_all f xs) h).1 x i

-- what stands first of what is left
pub in_drop : {A : Type 0} (k : ℕ) (xs : List A) (x : A) (rest : List A) → drop k xs ≡ x ∷ rest → In x xs
in_drop zero [] x rest e = absurd (cc)
in_drop (suc k) [] x rest e = absurd (cc)
in_drop zero (y ∷ xs) x rest e = subst (In x) (sym e) (inl refl)
in_drop (suc k) (y ∷ xs) x rest e = inr (in_drop k xs x rest e)

pub get_drop : {A : Type 0} (k : ℕ) (xs : List A) (x : A) (rest : List A) → drop k xs ≡ x ∷ rest → slice_get xs k ≡ Some x
get_drop zero [] x rest e = absurd (cc)
get_drop (suc k) [] x rest e = absurd (cc)
get_drop zero (y ∷ xs) x rest e = ap (λ zs. slice_get zs 0) e
get_drop (suc k) (y ∷ xs) x rest e = get_drop k xs x rest e

pub drop_within : {A : Type 0} (k : ℕ) (xs : List A) (x : A) (rest : List A) → drop k xs ≡ x ∷ rest → k < length xs
drop_within zero [] x rest e = absurd (cc)
drop_within (suc k) [] x rest e = absurd (cc)
drop_within zero (y ∷ xs) x rest e = omega arith
drop_within (suc k) (y ∷ xs) x rest e = let h = drop_within k xs x rest e in omega (arith, h)

-- ---- the bodies from each number on

other_number : (k d : ℕ) → (k + suc d == k) ≡ false
other_number k d = grind (arith, nat_tests)

-- past the last there is none
none_left : (m k : ℕ) (bs : List Block) → drop m bs ≡ [] → bodies_from k bs (k + m) ≡ []
none_left m k [] e = refl
none_left zero k (x ∷ xs) e = absurd (cc)
none_left (suc m) k (x ∷ xs) e =
    let same : k + suc m ≡ (k + 1) + m = omega arith in
    ap (λ t. if t then (block_part (bodies_from (k + 1) xs) x).events else bodies_from (k + 1) xs (k + suc m)) (other_number k m)
    ∙ ap (bodies_from (k + 1) xs) same ∙ none_left m (k + 1) xs e

-- past the last body there is none
pub none_past : (blocks : List Block) (j m : ℕ) → j ≤ m → drop m blocks ≡ [] → bodies_of blocks j m ≡ []
none_past blocks j m l e =
    let same : j + (m - j) ≡ m = omega (arith, l) in
    ap (bodies_of blocks j) (sym same) ∙ none_left (m - j) j (drop j blocks) (drop-drop (m - j) j blocks ∙ ap (λ n. drop n blocks) same ∙ e)

-- a body is the same from each number on that is not above it
pub bodies_agree : (blocks : List Block) (j m : ℕ) → j ≤ m → bodies_of blocks j m ≡ bodies_of blocks 0 m
bodies_agree blocks j m l = by (drop m blocks) refl
  where
    by : (left : List Block) → drop m blocks ≡ left → bodies_of blocks j m ≡ bodies_of blocks 0 m
    by [] e = none_past blocks j m l e ∙ sym (none_past blocks 0 m (omega arith) e)
    by (b ∷ rest) e = body_known blocks j m b rest l e ∙ sym (body_known blocks 0 m b rest (omega arith) e)

-- ---- shapes, by the bodies of their threads

-- a shape has the same events where the bodies of its threads have
pub spelled_alike : (t : Shape) (b c : ℕ → List Event) → Each (λ n. b n ≡ c n) (started t) → spelled b t ≡ spelled c t
spelled_alike nothing b c h = refl
spelled_alike (single s at) b c h = refl
spelled_alike (both x y) b c h =
    ap (λ xs. xs ++ spelled b y) (spelled_alike x b c (each_left (λ n. b n ≡ c n) (started x) (started y) h))
    ∙ ap (λ ys. spelled c x ++ ys) (spelled_alike y b c (each_right (λ n. b n ≡ c n) (started x) (started y) h))
spelled_alike (inner a at x) b c h = ap (inside a at) (spelled_alike x b c h)
spelled_alike (start number at args) b c h =
    ap (λ xs. event (sight.Starts number) at ∷ xs ++ inside around.Thread at (b number)) (spelled_alike args b c h.1)
    ∙ ap (λ ys. event (sight.Starts number) at ∷ spelled c args ++ inside around.Thread at ys) h.0

plain_starts : (s : Sight) (at : Span) → IsPlain s → start_at s at ≡ []
plain_starts (sight.Begins a) at p = absurd p
plain_starts sight.Ends at p = absurd p
plain_starts (sight.Starts body) at p = absurd p
plain_starts other at p = refl

-- the numbers of two parts
numbers_both : (xs ys : List Event) → numbers_of (starts_in (xs ++ ys)) ≡ numbers_of (starts_in xs) ++ numbers_of (starts_in ys)
numbers_both xs ys = ap numbers_of (starts_both xs ys) ∙ map-append (λ (s : Start). s.number) (starts_in xs) (starts_in ys)

-- what holds of the numbers that the events of a shape start, without those of bodies, holds of those that it starts
pub numbers_started : (P : ℕ → Type 0) (t : Shape) → IsRight t → Each P (numbers_of (starts_in (spelled (λ n. []) t))) → Each P (started t)
numbers_started P nothing r h = tt
numbers_started P (single s at) r h = tt
numbers_started P (both x y) r h =
    let g = subst (Each P) (numbers_both (spelled (λ n. []) x) (spelled (λ n. []) y)) h in
    let first = numbers_of (starts_in (spelled (λ n. []) x)) in
    let second = numbers_of (starts_in (spelled (λ n. []) y)) in
    each_append P (started x) (started y) (numbers_started P x r.0 (each_left P first second g)) (numbers_started P y r.1 (each_right P first second g))
numbers_started P (inner a at x) r h =
    numbers_started P x r.1
    (each_left P (numbers_of (starts_in (spelled (λ n. []) x))) [] (subst (Each P) (numbers_both (spelled (λ n. []) x) (event sight.Ends at ∷ [])) h))
numbers_started P (start number at args) r h =
    let rest = numbers_of (starts_in (inside around.Thread at [])) in (
      h.0,
      numbers_started P args r
          (each_left P (numbers_of (starts_in (spelled (λ n. []) args))) rest (subst (Each P) (numbers_both (spelled (λ n. []) args) (inside around.Thread at [])) h.1)),
    )

-- ---- all bodies

module _ (blocks : List Block) where
  -- the shape of the body of a number
  pub record IsShaped (m : ℕ) (b : Block) : Type 0 where
    pub shape : Shape
    pub right : IsRight shape
    pub events : (c : ℕ → List Event) → (block_part c b).events ≡ spelled c shape
    pub above : Each (λ n. m < n) (started shape)

  -- its events, of which the threads are those of all bodies
  pub body_spelled : (m : ℕ) (b : Block) (rest : List Block) → drop m blocks ≡ b ∷ rest → (s : IsShaped m b) → bodies_from 0 blocks m ≡ spelled (bodies_from 0 blocks) s.shape
  body_spelled m b rest e s =
      body_known blocks 0 m b rest (omega arith) e ∙ s.events (bodies_of blocks (suc m))
      ∙ spelled_alike s.shape (bodies_of blocks (suc m)) (bodies_from 0 blocks)
      (each_map (λ n. m < n) (λ n. bodies_of blocks (suc m) n ≡ bodies_from 0 blocks n) (λ n h. bodies_agree blocks (suc m) n h) (started s.shape) s.above)

  -- What holds of no events, and of a shape where it holds of the bodies of its threads, holds of each body.
  pub every_body : (Q : List Event → Type 0) → Q []
      → ((t : Shape) → IsRight t → Each (λ n. Q (bodies_from 0 blocks n)) (started t) → Q (spelled (bodies_from 0 blocks) t))
      → ((m : ℕ) (b : Block) (rest : List Block) → drop m blocks ≡ b ∷ rest → IsShaped m b)
      → (m : ℕ) → Q (bodies_from 0 blocks m)
  every_body Q base step shapes m = within (length blocks) m (omega arith)
    where
      past : (n : ℕ) → drop n blocks ≡ [] → Q (bodies_from 0 blocks n)
      past n e = subst Q (sym (none_past blocks 0 n (omega arith) e)) base

      within : (d n : ℕ) → length blocks ≤ n + d → Q (bodies_from 0 blocks n)
      within zero n l = past n (drop_all n blocks (omega (arith, l)))
      within (suc d) n l = by (drop n blocks) refl (λ k h. within d k (omega (arith, l, h)))
        where
          by : (left : List Block) → drop n blocks ≡ left → ((k : ℕ) → n < k → Q (bodies_from 0 blocks k)) → Q (bodies_from 0 blocks n)
          by [] e rest = past n e
          by (b ∷ more) e rest =
              let s = shapes n b more e in
              subst Q (sym (body_spelled n b more e s))
              (step s.shape s.right (each_map (λ k. n < k) (λ k. Q (bodies_from 0 blocks k)) rest (started s.shape) s.above))
