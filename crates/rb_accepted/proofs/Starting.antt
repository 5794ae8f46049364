-- The threads that texts start: where no two have one number and no two stand at one place, a number says where its thread stands, and a place which thread it is.
use Rattle.std.proofs.Common.{◌≡◌, ◌≢◌, ◌∙◌, refl, ap, sym, subst, ◌⊎◌, inl, inr, ℕ, Bool, true, false, cond, List, [], ◌∷◌, ◌++◌, Some, None, map, arith}
use Rattle.std.specs.Prelude.{◌||◌, ◌==◌, nat_eq}
use Rattle.std.specs.Option.{option_or}
use Rattle.std.specs.List.{flat_map, list_any}
use Rattle.std.proofs.lemmas.Bool.{false≢true}
use Rattle.std.proofs.lemmas.Bool.Decides.{nat_tests}
use Rattle.std.proofs.lemmas.Grind.{flat_map-append}
use Rattle.std.proofs.lemmas.List.{map-append}
use Rattle.rb_tree.specs.declared.span.Span.{Span}
use Rattle.rb_checker.specs.declared.event.Event.{Event}
use Rattle.rb_checker.specs.declared.event.Sight.{Sight}
use Rattle.rb_checker.specs.declared.event.Sight.TheVariants as sight
use Rattle.rb_checker.specs.Around.{Open, behind, placed}
use Rattle.rb_checker.specs.Captured.{started_by, start_in}
use Rattle.rb_grammar.specs.Order.{Distinct}
use Rattle.rb_accepted.proofs.Seen.{Start, start_at, starts_in, numbers_of, places_of}
use Rattle.rb_accepted.proofs.Segments.{In, each_in, Begun, begun_by, begun_in}
use Rattle.rb_accepted.proofs.Seeing.{in_flat, flat_in}

-- ---- lists

-- elements of what is mapped
pub in_map : {A B : Type 0} (f : A → B) (xs : List A) (x : A) → In x xs → In (f x) (map f xs)
in_map f [] x i = absurd i
in_map f (y ∷ xs) x (inl e) = inl (ap f e)
in_map f (y ∷ xs) x (inr i) = inr (in_map f xs x i)

map_in : {A B : Type 0} (f : A → B) (xs : List A) (y : B) → In y (map f xs) → (x : A) × (In x xs × (f x ≡ y))
map_in f [] y i = absurd i
map_in f (x ∷ xs) y (inl e) = (x, (inl refl, sym e))
map_in f (x ∷ xs) y (inr i) = let r = map_in f xs y i in (r.0, (inr r.1.0, r.1.1))

map_twice : {A B C : Type 0} (f : A → B) (g : B → C) (xs : List A) → map g (map f xs) ≡ map (λ x. g (f x)) xs
map_twice f g [] = refl
map_twice f g (x ∷ xs) = ap (λ ys. g (f x) ∷ ys) (map_twice f g xs)

-- of two elements with the same number, where all numbers differ
one_of_number : {A : Type 0} (f : A → ℕ) (xs : List A) (x y : A) → Distinct (map f xs) → In x xs → In y xs → f x ≡ f y → x ≡ y
one_of_number f [] x y d i j e = absurd i
one_of_number f (z ∷ xs) x y d (inl a) (inl b) e = a ∙ sym b
one_of_number f (z ∷ xs) x y d (inl a) (inr j) e = absurd (each_in (λ other. f z ≢ other) (map f xs) (f y) d.0 (in_map f xs y j) (ap f (sym a) ∙ e))
one_of_number f (z ∷ xs) x y d (inr i) (inl b) e = absurd (each_in (λ other. f z ≢ other) (map f xs) (f x) d.0 (in_map f xs x i) (ap f (sym b) ∙ sym e))
one_of_number f (z ∷ xs) x y d (inr i) (inr j) e = one_of_number f xs x y d.1 i j e

-- a number that is found is there
any_number : (n : ℕ) (ms : List ℕ) → list_any (nat_eq n) ms ≡ true → In n ms
any_number n [] h = absurd (false≢true h)
any_number n (m ∷ ms) h = by (nat_eq n m) refl h (any_number n ms)
  where
    same : nat_eq n m ≡ true → n ≡ m
    same e = grind (arith, nat_tests, e)

    by : (b : Bool) → nat_eq n m ≡ b → (b || list_any (nat_eq n) ms) ≡ true → (list_any (nat_eq n) ms ≡ true → In n ms) → (n ≡ m) ⊎ In n ms
    by true e k rest = inl (same e)
    by false e k rest = inr (rest k)

-- ---- the starts among events

abbrev pub as_start : Begun → Start
as_start x = record { number = x.number; place = x.at.from }

one_start : (round : Open) (s : Sight) (at : Span) → map as_start (begun_by round s at) ≡ start_at s at
one_start round (sight.Starts body) at = refl
one_start round other at = refl

-- the starts with what stands round them are the starts
pub starts_same : (round : Open) (es : List Event) → map as_start (begun_in (placed round es)) ≡ starts_in es
starts_same round [] = refl
starts_same round (e ∷ more) =
    map-append as_start (begun_by round e.sight e.at) (begun_in (placed (behind round e.sight e.at) more))
    ∙ ap (λ xs. xs ++ map as_start (begun_in (placed (behind round e.sight e.at) more))) (one_start round e.sight e.at)
    ∙ ap (λ xs. start_at e.sight e.at ++ xs) (starts_same (behind round e.sight e.at) more)

pub starts_both : (xs ys : List Event) → starts_in (xs ++ ys) ≡ starts_in xs ++ starts_in ys
starts_both xs ys = flat_map-append (λ (e : Event). start_at e.sight e.at) xs ys

-- where all numbers differ, a number is started first where it is started
start_is : (es : List Event) (s : Start) → Distinct (numbers_of (starts_in es)) → In s (starts_in es) → start_in s.number es ≡ Some s.place
start_is [] s d i = absurd i
start_is (e ∷ more) s d i = by e.sight e.at d i (start_is more s)
  where
    same : (n : ℕ) → (n == n) ≡ true
    same n = grind (arith, nat_tests)

    apart : (m n : ℕ) → (m ≢ n) → (m == n) ≡ false
    apart m n h = grind (arith, nat_tests, h)

    by : (t : Sight) (at : Span) → Distinct (numbers_of (start_at t at ++ starts_in more)) → In s (start_at t at ++ starts_in more)
        → (Distinct (numbers_of (starts_in more)) → In s (starts_in more) → start_in s.number more ≡ Some s.place)
        → option_or (started_by s.number t at) (start_in s.number more) ≡ Some s.place
    by (sight.Starts body) at d (inl j) rest =
        let number : body ≡ s.number = ap (λ (x : Start). x.number) (sym j) in
        let place : at.from ≡ s.place = ap (λ (x : Start). x.place) (sym j) in
        ap (λ n. option_or (cond (n == s.number) (Some at.from) None) (start_in s.number more)) number
        ∙ ap (λ b. option_or (cond b (Some at.from) None) (start_in s.number more)) (same s.number)
        ∙ ap Some place
    by (sight.Starts body) at d (inr j) rest =
        let other : body ≢ s.number = each_in (λ other. body ≢ other) (numbers_of (starts_in more)) s.number d.0 (in_map (λ (x : Start). x.number) (starts_in more) s j) in
        ap (λ b. option_or (cond b (Some at.from) None) (start_in s.number more)) (apart body s.number other) ∙ rest d.1 j
    by other at d j rest = rest d j

-- ---- the starts in all texts

-- all events of texts
abbrev pub together : List (List Event) → List Event
together texts = flat_map (λ (es : List Event). es) texts

-- a start with its text
abbrev tag : List Event → Begun → List Event × Begun
tag es x = (es, x)

abbrev tagged_in : List Event → List (List Event × Begun)
tagged_in es = map (tag es) (begun_in (placed [] es))

-- each start with its text
abbrev tagged : List (List Event) → List (List Event × Begun)
tagged texts = flat_map tagged_in texts

tagged_same : (texts : List (List Event)) → map (λ (p : List Event × Begun). as_start p.1) (tagged texts) ≡ starts_in (together texts)
tagged_same [] = refl
tagged_same (es ∷ texts) =
    map-append (λ (p : List Event × Begun). as_start p.1) (tagged_in es) (tagged texts)
    ∙ ap (λ xs. xs ++ map (λ (p : List Event × Begun). as_start p.1) (tagged texts))
    (map_twice (tag es) (λ (p : List Event × Begun). as_start p.1) (begun_in (placed [] es)) ∙ starts_same [] es)
    ∙ ap (λ xs. starts_in es ++ xs) (tagged_same texts)
    ∙ sym (starts_both es (together texts))

in_tagged : (texts : List (List Event)) (es : List Event) (x : Begun) → In es texts → In x (begun_in (placed [] es)) → In (es, x) (tagged texts)
in_tagged texts es x i j = in_flat tagged_in texts es (es, x) i (in_map (tag es) (begun_in (placed [] es)) x j)

-- where all places differ, two starts at one place are one, of one text
pub same_start : (texts : List (List Event)) (es ds : List Event) (x y : Begun) → Distinct (places_of (starts_in (together texts)))
    → In es texts → In x (begun_in (placed [] es)) → In ds texts → In y (begun_in (placed [] ds)) → x.at.from ≡ y.at.from → (es ≡ ds) × (x ≡ y)
same_start texts es ds x y d i j k l e =
    let all : Distinct (map (λ (p : List Event × Begun). p.1.at.from) (tagged texts)) =
    subst Distinct
    (ap places_of (sym (tagged_same texts)) ∙ map_twice (λ (p : List Event × Begun). as_start p.1) (λ (s : Start). s.place) (tagged texts)) d in
    let same = one_of_number (λ (p : List Event × Begun). p.1.at.from) (tagged texts) (es, x) (ds, y) all (in_tagged texts es x i j) (in_tagged texts ds y k l) e in
    (ap (λ (p : List Event × Begun). p.0) same, ap (λ (p : List Event × Begun). p.1) same)

-- where all numbers differ, the body of a number is started where it is
pub start_known : (texts : List (List Event)) (es : List Event) (x : Begun) → Distinct (numbers_of (starts_in (together texts)))
    → In es texts → In x (begun_in (placed [] es)) → start_in x.number (together texts) ≡ Some x.at.from
start_known texts es x d i j =
    start_is (together texts) (as_start x) d
    (subst (In (as_start x)) (tagged_same texts) (in_map (λ (p : List Event × Begun). as_start p.1) (tagged texts) (es, x) (in_tagged texts es x i j)))

-- a start of a number, with its text
pub record IsStarted (texts : List (List Event)) (number : ℕ) : Type 0 where
  pub text : List Event
  pub it : Begun
  pub here : In text texts
  pub found : In it (begun_in (placed [] text))
  pub same : it.number ≡ number

of_tagged : (texts : List (List Event)) (number : ℕ) (p : List Event × Begun) → In p (tagged texts) → p.1.number ≡ number → IsStarted texts number
of_tagged texts number p i e =
    let c = flat_in tagged_in texts p i in
    let d = map_in (tag c.0) (begun_in (placed [] c.0)) p c.1.1 in
    record { text = c.0; it = d.0; here = c.1.0; found = d.1.0; same = ap (λ (q : List Event × Begun). q.1.number) d.1.1 ∙ e }

of_start : (texts : List (List Event)) (number : ℕ) (s : Start) → In s (starts_in (together texts)) → s.number ≡ number → IsStarted texts number
of_start texts number s i e =
    let p = map_in (λ (p : List Event × Begun). as_start p.1) (tagged texts) s (subst (In s) (sym (tagged_same texts)) i) in
    of_tagged texts number p.0 p.1.0 (ap (λ (x : Start). x.number) p.1.1 ∙ e)

-- a number that is found among those of starts
pub is_started : (texts : List (List Event)) (number : ℕ) → list_any (nat_eq number) (numbers_of (starts_in (together texts))) ≡ true → IsStarted texts number
is_started texts number h =
    let s = map_in (λ (s : Start). s.number) (starts_in (together texts)) number (any_number number (numbers_of (starts_in (together texts))) h) in
    of_start texts number s.0 s.1.0 s.1.1
