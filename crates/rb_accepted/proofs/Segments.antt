-- What stands where among the events of a text, by their shape: what begins also ends, and each thread that stands round something is started where it stands.
use Rattle.std.proofs.Common.{◌≡◌, ◌∙◌, refl, ap, sym, subst, ◌⊎◌, inl, inr, ℕ, List, [], ◌∷◌, ◌++◌}
use Rattle.std.specs.List.{flat_map}
use Rattle.std.proofs.lemmas.Grind.{flat_map-append}
use Rattle.rb_tree.specs.declared.span.Span.{Span}
use Rattle.rb_tree.specs.declared.span.NameId.{NameId}
use Rattle.rb_checker.specs.declared.event.Event.{Event}
use Rattle.rb_checker.specs.declared.event.Sight.{Sight}
use Rattle.rb_checker.specs.declared.event.Sight.TheVariants as sight
use Rattle.rb_checker.specs.declared.event.Around.{Around as Enclosure}
use Rattle.rb_checker.specs.declared.event.Around.TheVariants as around
use Rattle.rb_checker.specs.Around.{Open, behind, behind_all, placed}
use Rattle.rb_checker.specs.Events.{event, inside}
use Rattle.rb_checker.specs.Locals.{Use}
use Rattle.rb_grammar.specs.Faithful.{Each}
use Rattle.rb_grammar.proofs.Each.{each_left, each_right, each_append}
use Rattle.rb_accepted.proofs.Framed.{Shape, nothing, single, both, inner, start, spelled, started, IsPlain, IsNoThread, IsRight, IsGood, ShapeGood}

-- ---- what is in a list

-- whether something is an element
abbrev pub In : {A : Type 0} → A → List A → Type 0
In x [] = ⊥
In x (y ∷ ys) = (x ≡ y) ⊎ In x ys

pub in_left : {A : Type 0} (x : A) (xs ys : List A) → In x xs → In x (xs ++ ys)
in_left x [] ys i = absurd i
in_left x (y ∷ xs) ys (inl e) = inl e
in_left x (y ∷ xs) ys (inr i) = inr (in_left x xs ys i)

pub in_right : {A : Type 0} (x : A) (xs ys : List A) → In x ys → In x (xs ++ ys)
in_right x [] ys i = i
in_right x (y ∷ xs) ys i = inr (in_right x xs ys i)

pub in_either : {A : Type 0} (x : A) (xs ys : List A) → In x (xs ++ ys) → In x xs ⊎ In x ys
in_either x [] ys i = inr i
in_either x (y ∷ xs) ys (inl e) = inl (inl e)
in_either x (y ∷ xs) ys (inr i) = by (in_either x xs ys i)
  where
    by : In x xs ⊎ In x ys → ((x ≡ y) ⊎ In x xs) ⊎ In x ys
    by (inl j) = inl (inr j)
    by (inr j) = inr j

-- what holds of each element holds of one
pub each_in : {A : Type 0} (P : A → Type 0) (xs : List A) (x : A) → Each P xs → In x xs → P x
each_in P [] x h i = absurd i
each_in P (y ∷ xs) x h (inl e) = subst P (sym e) h.0
each_in P (y ∷ xs) x h (inr i) = each_in P xs x h.1 i

-- ---- what stands round events that are one behind the other

-- what stands round behind events is what stood round before them
abbrev pub Balanced : List Event → Type 0
Balanced es = (round : Open) → behind_all round es ≡ round

behind_all-append : (round : Open) (xs ys : List Event) → behind_all round (xs ++ ys) ≡ behind_all (behind_all round xs) ys
behind_all-append round [] ys = refl
behind_all-append round (x ∷ xs) ys = behind_all-append (behind round x.sight x.at) xs ys

placed-append : (round : Open) (xs ys : List Event) → placed round (xs ++ ys) ≡ placed round xs ++ placed (behind_all round xs) ys
placed-append round [] ys = refl
placed-append round (x ∷ xs) ys = ap (λ z. (round, x) ∷ z) (placed-append (behind round x.sight x.at) xs ys)

pub placed_both : (round : Open) (xs ys : List Event) → Balanced xs → placed round (xs ++ ys) ≡ placed round xs ++ placed round ys
placed_both round xs ys b = placed-append round xs ys ∙ ap (λ r. placed round xs ++ placed r ys) (b round)

pub placed_inside : (round : Open) (a : Enclosure) (at : Span) (es : List Event) → Balanced es
    → placed round (inside a at es) ≡ (round, event (sight.Begins a) at) ∷ placed ((a, at) ∷ round) es ++ ((a, at) ∷ round, event sight.Ends at) ∷ []
placed_inside round a at es b = ap (λ z. (round, event (sight.Begins a) at) ∷ z) (placed_both ((a, at) ∷ round) es (event sight.Ends at ∷ []) b)

balanced_both : (xs ys : List Event) → Balanced xs → Balanced ys → Balanced (xs ++ ys)
balanced_both xs ys b c = λ round. behind_all-append round xs ys ∙ ap (λ r. behind_all r ys) (b round) ∙ c round

balanced_inside : (a : Enclosure) (at : Span) (es : List Event) → Balanced es → Balanced (inside a at es)
balanced_inside a at es b = λ round.
    behind_all-append ((a, at) ∷ round) es (event sight.Ends at ∷ []) ∙ ap (λ r. behind_all r (event sight.Ends at ∷ [])) (b ((a, at) ∷ round))

-- behind a plain event the same stands round
plain_behind : (round : Open) (s : Sight) (at : Span) → IsPlain s → behind round s at ≡ round
plain_behind round (sight.Begins a) at p = absurd p
plain_behind round sight.Ends at p = absurd p
plain_behind round (sight.Starts body) at p = absurd p
plain_behind round other at p = refl

-- ---- the starts of threads

-- the start of a thread, with what stands round it
pub record Begun : Type 0 where
  pub round : Open
  pub number : ℕ
  pub at : Span

-- the starts among events
abbrev pub begun_by : Open → Sight → Span → List Begun
begun_by round (sight.Starts body) at = (record { round = round; number = body; at = at }) ∷ []
begun_by round other at = []

abbrev pub begun_one : Open × Event → List Begun
begun_one p = begun_by p.0 p.1.sight p.1.at

abbrev pub begun_in : List (Open × Event) → List Begun
begun_in ps = flat_map begun_one ps

plain_begun : (round : Open) (s : Sight) (at : Span) → IsPlain s → begun_by round s at ≡ []
plain_begun round (sight.Begins a) at p = absurd p
plain_begun round sight.Ends at p = absurd p
plain_begun round (sight.Starts body) at p = absurd p
plain_begun round other at p = refl

begun_both : (round : Open) (xs ys : List Event) → Balanced xs → begun_in (placed round (xs ++ ys)) ≡ begun_in (placed round xs) ++ begun_in (placed round ys)
begun_both round xs ys b = ap begun_in (placed_both round xs ys b) ∙ flat_map-append begun_one (placed round xs) (placed round ys)

begun_inside : (round : Open) (a : Enclosure) (at : Span) (es : List Event) → Balanced es
    → begun_in (placed round (inside a at es)) ≡ begun_in (placed ((a, at) ∷ round) es) ++ []
begun_inside round a at es b =
    ap begun_in (placed_inside round a at es b) ∙ flat_map-append begun_one (placed ((a, at) ∷ round) es) (((a, at) ∷ round, event sight.Ends at) ∷ [])

-- each thread that stands round is among these starts, with what stands round it
abbrev pub Threaded : List Begun → Open → Type 0
Threaded begun [] = Unit {0}
Threaded begun ((around.Thread, at) ∷ outer) = ((number : ℕ) × In (record { round = outer; number = number; at = at }) begun) × Threaded begun outer
Threaded begun (other ∷ outer) = Threaded begun outer

-- what is no thread changes nothing of the threads that stand round
no_thread : (begun : List Begun) (a : Enclosure) (at : Span) (round : Open) → IsNoThread a → Threaded begun round → Threaded begun ((a, at) ∷ round)
no_thread begun around.Thread at round n t = absurd n
no_thread begun other at round n t = t

-- The events of the bodies of threads are given.
module _ (b : ℕ → List Event) where
  -- what begins in a shape also ends there
  pub balanced_shape : (t : Shape) → IsRight t → Each (λ m. Balanced (b m)) (started t) → Balanced (spelled b t)
  balanced_shape nothing r h = λ round. refl
  balanced_shape (single s at) r h = λ round. plain_behind round s at r
  balanced_shape (both x y) r h =
      balanced_both (spelled b x) (spelled b y) (balanced_shape x r.0 (each_left (λ m. Balanced (b m)) (started x) (started y) h))
      (balanced_shape y r.1 (each_right (λ m. Balanced (b m)) (started x) (started y) h))
  balanced_shape (inner a at x) r h = balanced_inside a at (spelled b x) (balanced_shape x r.1 h)
  balanced_shape (start number at args) r h =
      balanced_both (spelled b args) (inside around.Thread at (b number)) (balanced_shape args r h.1) (balanced_inside around.Thread at (b number) h.0)

  each_balanced : ((m : ℕ) → Balanced (b m)) → (ms : List ℕ) → Each (λ m. Balanced (b m)) ms
  each_balanced c [] = tt
  each_balanced c (m ∷ ms) = (c m, each_balanced c ms)

  pub balanced_of : ((m : ℕ) → Balanced (b m)) → (t : Shape) → IsRight t → Balanced (spelled b t)
  balanced_of c t r = balanced_shape t r (each_balanced c (started t))

  -- ---- each thread round an event of a text is one that is started there

  module _ (begun : List Begun) where
    abbrev Known : Open × Event → Type 0
    Known p = Threaded begun p.0

    -- where each thread that stands round is among the starts, and each start of events is, so is each thread round one of them
    abbrev pub ThreadsHold : List Event → Type 0
    ThreadsHold es = (round : Open) → Threaded begun round → ((x : Begun) → In x (begun_in (placed round es)) → In x begun) → Each (λ (p : Open × Event). Threaded begun p.0) (placed round es)

    threads_both : (xs ys : List Event) → Balanced xs → ThreadsHold xs → ThreadsHold ys → ThreadsHold (xs ++ ys)
    threads_both xs ys c h k = λ round t sub.
        let same = begun_both round xs ys c in
        subst (Each Known) (sym (placed_both round xs ys c))
        (each_append Known (placed round xs) (placed round ys)
        (h round t (λ x i. sub x (subst (In x) (sym same) (in_left x (begun_in (placed round xs)) (begun_in (placed round ys)) i))))
        (k round t (λ x i. sub x (subst (In x) (sym same) (in_right x (begun_in (placed round xs)) (begun_in (placed round ys)) i)))))

    threads_inside : (a : Enclosure) (at : Span) (es : List Event) → Balanced es → ThreadsHold es → (round : Open) → Threaded begun round → Threaded begun ((a, at) ∷ round)
        → ((x : Begun) → In x (begun_in (placed round (inside a at es))) → In x begun) → Each Known (placed round (inside a at es))
    threads_inside a at es c h round t u sub =
        let same = begun_inside round a at es c in
        subst (Each Known) (sym (placed_inside round a at es c)) (
          t,
          each_append Known (placed ((a, at) ∷ round) es) (((a, at) ∷ round, event sight.Ends at) ∷ [])
              (h ((a, at) ∷ round) u (λ x i. sub x (subst (In x) (sym same) (in_left x (begun_in (placed ((a, at) ∷ round) es)) [] i)))) (u, tt),
        )

    pub threads_shape : (t : Shape) → IsRight t → ((m : ℕ) → Balanced (b m)) → Each (λ m. ThreadsHold (b m)) (started t) → ThreadsHold (spelled b t)
    threads_shape nothing r c h = λ round t sub. tt
    threads_shape (single s at) r c h = λ round t sub. (t, tt)
    threads_shape (both x y) r c h =
        threads_both (spelled b x) (spelled b y) (balanced_of c x r.0) (threads_shape x r.0 c (each_left (λ m. ThreadsHold (b m)) (started x) (started y) h))
        (threads_shape y r.1 c (each_right (λ m. ThreadsHold (b m)) (started x) (started y) h))
    threads_shape (inner a at x) r c h = λ round t sub.
        threads_inside a at (spelled b x) (balanced_of c x r.1) (threads_shape x r.1 c h) round t (no_thread begun a at round r.0 t) sub
    threads_shape (start number at args) r c h = λ round t sub.
        let u : Threaded begun ((around.Thread, at) ∷ round) = ((number, sub (record { round = round; number = number; at = at }) (inl refl)), t) in
        let balanced_args = balanced_of c args r in
        let same = begun_both round (spelled b args) (inside around.Thread at (b number)) balanced_args in
        let first = begun_in (placed round (spelled b args)) in
        let second = begun_in (placed round (inside around.Thread at (b number))) in (
          t,
          subst (Each Known) (sym (placed_both round (spelled b args) (inside around.Thread at (b number)) balanced_args))
              (each_append Known (placed round (spelled b args)) (placed round (inside around.Thread at (b number)))
              (threads_shape args r c h.1 round t (λ x i. sub x (inr (subst (In x) (sym same) (in_left x first second i)))))
              (threads_inside around.Thread at (b number) (c number) h.0 round t u (λ x i. sub x (inr (subst (In x) (sym same) (in_right x first second i)))))),
        )

  -- ---- what holds of each event of a text holds of those in the bodies of the threads that it starts

  module _ (P : Open → Event → Type 0) where
    abbrev Holds : Open × Event → Type 0
    Holds p = P p.0 p.1

    -- where something holds of each event, it holds of those in the bodies of the threads that they start
    abbrev pub BodiesHold : List Event → Type 0
    BodiesHold es = (round : Open) → Each (λ (p : Open × Event). P p.0 p.1) (placed round es) → (x : Begun) → In x (begun_in (placed round es))
        → Each (λ (p : Open × Event). P p.0 p.1) (placed ((around.Thread, x.at) ∷ x.round) (b x.number))

    bodies_both : (xs ys : List Event) → Balanced xs → BodiesHold xs → BodiesHold ys → BodiesHold (xs ++ ys)
    bodies_both xs ys c h k = λ round good x i.
        let g = subst (Each Holds) (placed_both round xs ys c) good in
        by round (each_left Holds (placed round xs) (placed round ys) g) (each_right Holds (placed round xs) (placed round ys) g) x
        (in_either x (begun_in (placed round xs)) (begun_in (placed round ys)) (subst (In x) (begun_both round xs ys c) i))
      where
        by : (round : Open) → Each Holds (placed round xs) → Each Holds (placed round ys) → (x : Begun)
            → In x (begun_in (placed round xs)) ⊎ In x (begun_in (placed round ys)) → Each Holds (placed ((around.Thread, x.at) ∷ x.round) (b x.number))
        by round g l x (inl i) = h round g x i
        by round g l x (inr i) = k round l x i

    inside_good : (round : Open) (a : Enclosure) (at : Span) (es : List Event) → Balanced es → Each Holds (placed round (inside a at es)) → Each Holds (placed ((a, at) ∷ round) es)
    inside_good round a at es c good =
        each_left Holds (placed ((a, at) ∷ round) es) (((a, at) ∷ round, event sight.Ends at) ∷ []) (subst (Each Holds) (placed_inside round a at es c) good).1

    bodies_inside : (a : Enclosure) (at : Span) (es : List Event) → Balanced es → BodiesHold es → BodiesHold (inside a at es)
    bodies_inside a at es c h = λ round good x i.
        h ((a, at) ∷ round) (inside_good round a at es c good) x
        (by x (begun_in (placed ((a, at) ∷ round) es)) (in_either x (begun_in (placed ((a, at) ∷ round) es)) [] (subst (In x) (begun_inside round a at es c) i)))
      where
        by : (x : Begun) (xs : List Begun) → In x xs ⊎ ⊥ → In x xs
        by x xs (inl i) = i
        by x xs (inr i) = absurd i

    bodies_start : (number : ℕ) (at : Span) (args : List Event) → Balanced args → Balanced (b number) → BodiesHold args → BodiesHold (b number)
        → BodiesHold (event (sight.Starts number) at ∷ args ++ inside around.Thread at (b number))
    bodies_start number at args c d h k = λ round good x i. by round good x i
      where
        own_body : (round : Open) → Each Holds (placed round (args ++ inside around.Thread at (b number))) → Each Holds (placed ((around.Thread, at) ∷ round) (b number))
        own_body round good =
            inside_good round around.Thread at (b number) d
            (each_right Holds (placed round args) (placed round (inside around.Thread at (b number)))
            (subst (Each Holds) (placed_both round args (inside around.Thread at (b number)) c) good))

        by : (round : Open) → Each Holds (placed round (event (sight.Starts number) at ∷ args ++ inside around.Thread at (b number))) → (x : Begun)
            → In x (begun_in (placed round (event (sight.Starts number) at ∷ args ++ inside around.Thread at (b number))))
            → Each Holds (placed ((around.Thread, x.at) ∷ x.round) (b x.number))
        by round good x (inl e) = subst (λ (y : Begun). Each Holds (placed ((around.Thread, y.at) ∷ y.round) (b y.number))) (sym e) (own_body round good.1)
        by round good x (inr i) =
            bodies_both args (inside around.Thread at (b number)) c h (bodies_inside around.Thread at (b number) d k) round good.1 x i

    pub bodies_shape : (t : Shape) → IsRight t → ((m : ℕ) → Balanced (b m)) → Each (λ m. BodiesHold (b m)) (started t) → BodiesHold (spelled b t)
    bodies_shape nothing r c h = λ round good x i. absurd i
    bodies_shape (single s at) r c h = λ round good x i. absurd (subst (λ (l : List Begun). In x (l ++ [])) (plain_begun round s at r) i)
    bodies_shape (both x y) r c h =
        bodies_both (spelled b x) (spelled b y) (balanced_of c x r.0)
        (bodies_shape x r.0 c (each_left (λ m. BodiesHold (b m)) (started x) (started y) h))
        (bodies_shape y r.1 c (each_right (λ m. BodiesHold (b m)) (started x) (started y) h))
    bodies_shape (inner a at x) r c h = bodies_inside a at (spelled b x) (balanced_of c x r.1) (bodies_shape x r.1 c h)
    bodies_shape (start number at args) r c h = bodies_start number at (spelled b args) (balanced_of c args r) (c number) (bodies_shape args r c h.1) h.0

    -- what holds of each event holds of each part of a shape
    pub good_both : (x y : List Event) (round : Open) → Balanced x → Each (λ (p : Open × Event). P p.0 p.1) (placed round (x ++ y))
        → Each (λ (p : Open × Event). P p.0 p.1) (placed round x) × Each (λ (p : Open × Event). P p.0 p.1) (placed round y)
    good_both x y round c good =
        let g = subst (Each Holds) (placed_both round x y c) good in (each_left Holds (placed round x) (placed round y) g, each_right Holds (placed round x) (placed round y) g)

    pub good_inside : (round : Open) (a : Enclosure) (at : Span) (es : List Event) → Balanced es → Each (λ (p : Open × Event). P p.0 p.1) (placed round (inside a at es))
        → Each (λ (p : Open × Event). P p.0 p.1) (placed ((a, at) ∷ round) es)
    good_inside = inside_good

  -- a shape is good where each event of it is
  pub good_shape : (captured : ℕ → List NameId) (uses : List Use) (own : List NameId) → ((m : ℕ) → Balanced (b m)) → (t : Shape) → IsRight t → (round : Open)
      → Each (λ (p : Open × Event). IsGood captured uses own p.0 p.1.sight) (placed round (spelled b t)) → ShapeGood captured uses own round t
  good_shape captured uses own c nothing r round good = tt
  good_shape captured uses own c (single s at) r round good = good.0
  good_shape captured uses own c (both x y) r round good =
      let g = good_both (λ (round : Open) (e : Event). IsGood captured uses own round e.sight) (spelled b x) (spelled b y) round (balanced_of c x r.0) good in
      (good_shape captured uses own c x r.0 round g.0, good_shape captured uses own c y r.1 round g.1)
  good_shape captured uses own c (inner a at x) r round good =
      good_shape captured uses own c x r.1 ((a, at) ∷ round)
      (good_inside (λ (round : Open) (e : Event). IsGood captured uses own round e.sight) round a at (spelled b x) (balanced_of c x r.1) good)
  good_shape captured uses own c (start number at args) r round good =
      let g = good_both (λ (round : Open) (e : Event). IsGood captured uses own round e.sight) (spelled b args) (inside around.Thread at (b number)) round (balanced_of c args r) good.1 in
      (good.0, good_shape captured uses own c args r round g.0)
