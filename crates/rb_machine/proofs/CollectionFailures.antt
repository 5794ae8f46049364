-- Where the steps are too few for the text of a collection, or the text is too long, it does not come.
use Rattle.std.proofs.Common.{◌≡◌, ◌<◌, ◌≤◌, ◌⊎◌, inl, inr, ℕ, zero, suc, ◌+◌, ◌-◌, Bool, true, false, cond, List, [], ◌∷◌, ◌++◌, Option, Some, None, length, arith, refl, sym, ap, ◌∙◌, subst}
use Rattle.std.specs.Prelude.{nat_lt, nat_le, codes}
use Rattle.std.specs.List.{list_all, flat_map, join_by}
use Rattle.std.proofs.lemmas.Bool.Decides.{nat_tests}
use Rattle.std.proofs.lemmas.List.{length-append, append_assoc}
use Rattle.rb_tree.specs.declared.span.Span.{Span}
use Rattle.rb_model.specs.declared.fault.Fault.TheVariants.{TooDeep, TextTooLong}
use Rattle.rb_model.specs.declared.value.Id.{Id}
use Rattle.rb_model.specs.Values.{Value, Reference}
use Rattle.rb_model.specs.Ends.{Steps}
use Rattle.rb_model.specs.Things.{Thing, Object, Elements, Pairs, Mutex, Thread}
use Rattle.rb_machine.specs.Scopes.{Script, Text, Scope}
use Rattle.rb_machine.specs.Control.{State, On, Cont, Reading, ForText, Form, Inspected, Open, OfArray, OfHash, Coming, Between, OfValue, OfPair, max_depth}
use Rattle.rb_machine.specs.Texts.{max_bytes, inspected}
use Rattle.rb_machine.specs.Drafts.{Copies, joined, inspects}
use Rattle.rb_machine.specs.Call.{ended, raised, going, drafted}
use Rattle.rb_machine.specs.Move.{Go}
use Rattle.rb_machine.specs.Collections.{Part, Single, Again, Whole, inspected_part, one_for_each, dots, pair_text, collection_text, part_text, text_inside, collection_steps, part_steps, steps_inside, collection_fits, part_fits, fits_inside, Looks, arrives, goes, copies, Fails, few_steps, too_long, InspectedFails}
use Rattle.rb_machine.proofs.CollectionTexts.{both_first, both_second, regrouped, regrouped_right, things_of, looks_append, looks_from, draft, drafting, joins, needs_of, inspecting, value_needs, Tells, pair, tells}

-- ---- plain facts

-- a text that is too long is so with more behind it
pub longer : (a b : Text) (m : ℕ) → m < length a → m < length (a ++ b)
longer a b m long = let parts = length-append a b in omega (arith, parts, long)

pub no_fewer : (left : ℕ) → left < 0 → ⊥
no_fewer left few = omega (arith, few)

module _ (S : Script) (holds : Id → Option Thing) (at : Span) where
  pub fails_map : {A B C D : Type 0} (s : State) → (A → C) → (B → D) → Fails S holds at A B s → Fails S holds at C D s
  fails_map s f g (few_steps few way) = few_steps (f few) way
  fails_map s f g (too_long left long way) = too_long left (g long) way

  pub fails_after : {A B : Type 0} (s t : State) → Looks S holds s t → Fails S holds at A B t → Fails S holds at A B s
  fails_after s t way (few_steps few more) = few_steps few (looks_append S holds way more)
  fails_after s t way (too_long left long more) = too_long left long (looks_append S holds way more)

module _ (S : Script) (holds : Id → Option Thing) (at : Span) (k : List Cont) (sc : Scope) (d : ℕ) where
  -- bytes do not join a text
  pub overflows : (form : Form) (coming now : Coming) (bytes more : Text) (begun os : List Open) (left : ℕ) → max_bytes < length (bytes ++ more)
      → going (joined (draft S holds at k sc d form coming bytes begun) more now os) at k sc d left ≡ raised TextTooLong at left
  overflows form coming now bytes more begun os left long =
      let fits : nat_le (length (bytes ++ more)) max_bytes ≡ false = grind (arith, nat_tests, long) in
      ap (λ b. going (cond b (Some (draft S holds at k sc d form now (bytes ++ more) os)) None) at k sc d left) fits

  -- What is told one after the other fails where the first that fails does.
  module _ {X : Type 0} (text : X → Text) (steps : X → ℕ) (fits : X → Bool) (sep close : Text) (among : Text → Text → List X → ℕ → State)
      (overflow : (bytes lead : Text) (left : ℕ) → max_bytes < length (bytes ++ close) → Looks S holds (among bytes lead [] left) (raised TextTooLong at left))
      (exhausted : (bytes lead : Text) (x : X) (xs : List X) → Looks S holds (among bytes lead (x ∷ xs) 0) (ended Steps 0))
      (next : (bytes lead : Text) (x : X) (xs : List X) (left : ℕ) → fits x ≡ true → length (bytes ++ (lead ++ text x)) ≤ max_bytes
      → Looks S holds (among bytes lead (x ∷ xs) (suc (steps x + left))) (among (bytes ++ (lead ++ text x)) sep xs left))
      (next_fails : (bytes lead : Text) (x : X) (xs : List X) (left : ℕ) → fits x ≡ true → length bytes ≤ max_bytes → ((left < steps x) ⊎ (max_bytes < length (bytes ++ (lead ++ text x))))
      → Fails S holds at (left < steps x) (max_bytes < length (bytes ++ (lead ++ text x))) (among bytes lead (x ∷ xs) (suc left))) where
    none_fails : (bytes lead : Text) (left : ℕ) → ((left < 0) ⊎ (max_bytes < length (bytes ++ close))) → Fails S holds at (left < 0) (max_bytes < length (bytes ++ close)) (among bytes lead [] left)
    none_fails bytes lead left (inl few) = absurd (no_fewer left few)
    none_fails bytes lead left (inr long) = too_long left long (overflow bytes lead left long)

    -- how what is left fails
    abbrev Later : List X → Text → Type 0
    Later xs tail = (bytes : Text) (left : ℕ) → length bytes ≤ max_bytes → ((left < one_for_each steps xs) ⊎ (max_bytes < length (bytes ++ (tail ++ close))))
        → Fails S holds at (left < one_for_each steps xs) (max_bytes < length (bytes ++ (tail ++ close))) (among bytes sep xs left)

    module _ (bytes lead : Text) (x : X) (xs : List X) (tail : Text) (fit : fits x ≡ true) (room : length bytes ≤ max_bytes) where
      abbrev part : Text
      part = lead ++ text x

      abbrev Failing : ℕ → Type 0
      Failing left = Fails S holds at (left < one_for_each steps (x ∷ xs)) (max_bytes < length (bytes ++ ((part ++ tail) ++ close))) (among bytes lead (x ∷ xs) left)

      abbrev Failed : ℕ → Type 0
      Failed left = (left < one_for_each steps (x ∷ xs)) ⊎ (max_bytes < length (bytes ++ ((part ++ tail) ++ close)))

      longer_whole : max_bytes < length (bytes ++ part) → max_bytes < length (bytes ++ ((part ++ tail) ++ close))
      longer_whole long = subst (λ b. max_bytes < length b) (regrouped bytes part tail close) (longer (bytes ++ part) (tail ++ close) max_bytes long)

      -- the first fails
      first_fails : (left : ℕ) → ((left < steps x) ⊎ (max_bytes < length (bytes ++ part))) → Failing (suc left)
      first_fails left why =
          fails_map S holds at (among bytes lead (x ∷ xs) (suc left)) (λ few. omega (arith, few)) longer_whole (next_fails bytes lead x xs left fit room why)

      -- the first is told, and a later one fails
      later_why : (left : ℕ) → Failed (suc (steps x + left)) → (left < one_for_each steps xs) ⊎ (max_bytes < length ((bytes ++ part) ++ (tail ++ close)))
      later_why left (inl few) = inl (omega (arith, few))
      later_why left (inr long) = inr (subst (λ b. max_bytes < length b) (sym (regrouped bytes part tail close)) long)

      later_fails : (left : ℕ) → Later xs tail → length (bytes ++ part) ≤ max_bytes → Failed (suc (steps x + left)) → Failing (suc (steps x + left))
      later_fails left later now why =
          fails_after S holds at (among bytes lead (x ∷ xs) (suc (steps x + left))) (among (bytes ++ part) sep xs left) (next bytes lead x xs left fit now)
          (fails_map S holds at (among (bytes ++ part) sep xs left) (λ few. omega (arith, few)) (λ long. subst (λ b. max_bytes < length b) (regrouped bytes part tail close) long)
          (later (bytes ++ part) left now (later_why left why)))

      by_first : (left : ℕ) → Later xs tail → Failed (suc left) → (few long : Bool) → nat_lt left (steps x) ≡ few → nat_lt max_bytes (length (bytes ++ part)) ≡ long → Failing (suc left)
      by_first left later why true long few_is long_is = let few : left < steps x = grind (arith, nat_tests, few_is) in first_fails left (inl few)
      by_first left later why false true few_is long_is = let long : max_bytes < length (bytes ++ part) = grind (arith, nat_tests, long_is) in first_fails left (inr long)
      by_first left later why false false few_is long_is =
          let enough : steps x ≤ left = grind (arith, nat_tests, few_is) in
          let now : length (bytes ++ part) ≤ max_bytes = grind (arith, nat_tests, long_is) in
          let count : suc (steps x + (left - steps x)) ≡ suc left = omega (arith, enough) in
          subst (λ n. Failing n) count (later_fails (left - steps x) later now (subst (λ n. Failed n) (sym count) why))

      one_more_fails : (left : ℕ) → Later xs tail → Failed left → Failing left
      one_more_fails zero later why = few_steps (omega arith) (exhausted bytes lead x xs)
      one_more_fails (suc left) later why = by_first left later why (nat_lt left (steps x)) (nat_lt max_bytes (length (bytes ++ part))) refl refl

    more_fail : (xs : List X) → list_all fits xs ≡ true → Later xs (flat_map (λ x. sep ++ text x) xs)
    more_fail [] fit bytes left room why = none_fails bytes sep left why
    more_fail (x ∷ xs) fit bytes left room why =
        one_more_fails bytes sep x xs (flat_map (λ x. sep ++ text x) xs) (both_first (fits x) (list_all fits xs) fit) room left (more_fail xs (both_second (fits x) (list_all fits xs) fit)) why

    row_fails : (xs : List X) (bytes : Text) (left : ℕ) → list_all fits xs ≡ true → length bytes ≤ max_bytes
        → ((left < one_for_each steps xs) ⊎ (max_bytes < length (bytes ++ (join_by text sep xs ++ close))))
        → Fails S holds at (left < one_for_each steps xs) (max_bytes < length (bytes ++ (join_by text sep xs ++ close))) (among bytes [] xs left)
    row_fails [] bytes left fit room why = none_fails bytes [] left why
    row_fails (x ∷ xs) bytes left fit room why =
        one_more_fails bytes [] x xs (flat_map (λ x. sep ++ text x) xs) (both_first (fits x) (list_all fits xs) fit) room left (more_fail xs (both_second (fits x) (list_all fits xs) fit)) why

  -- values are not told inside these collections, and nothing before them is too long
  abbrev Refuses : (Value → Text) → (Value → ℕ) → (Value → Bool) → List Open → Type 0
  Refuses text steps fits begun = (v : Value) (lead bytes : Text) (left : ℕ) → fits v ≡ true → length bytes ≤ max_bytes
      → ((left < steps v) ⊎ (max_bytes < length (bytes ++ (lead ++ text v))))
      → Fails S holds at (left < steps v) (max_bytes < length (bytes ++ (lead ++ text v))) (drafting S holds at k sc d Inspected (OfValue lead v) bytes begun left)

  abbrev among_elements : Reference → List Open → Text → Text → List Value → ℕ → State
  among_elements thing begun bytes lead vs left = drafting S holds at k sc d Inspected Between bytes (OfArray thing lead vs ∷ begun) left

  abbrev among_pairs : Reference → List Open → Text → Text → List (Value × Value) → ℕ → State
  among_pairs thing begun bytes lead ps left = drafting S holds at k sc d Inspected Between bytes (OfHash thing lead ps ∷ begun) left

  -- what stands before the value of a pair
  abbrev key_text : Text → Value → Text
  key_text lead key = lead ++ inspected S.program key ++ codes "=>"

  module _ (text : Value → Text) (steps : Value → ℕ) (fits : Value → Bool) (thing : Reference) (begun : List Open) where
    elements_fail : ((lead : Text) (vs : List Value) → Tells S holds at k sc d text steps fits (OfArray thing lead vs ∷ begun))
        → ((lead : Text) (vs : List Value) → Refuses text steps fits (OfArray thing lead vs ∷ begun)) → (vs : List Value) (bytes : Text) (left : ℕ) → list_all fits vs ≡ true → length bytes ≤ max_bytes
        → ((left < one_for_each steps vs) ⊎ (max_bytes < length (bytes ++ (join_by text (codes ", ") vs ++ codes "]"))))
        → Fails S holds at (left < one_for_each steps vs) (max_bytes < length (bytes ++ (join_by text (codes ", ") vs ++ codes "]"))) (among_elements thing begun bytes [] vs left)
    elements_fail each refuses =
        row_fails text steps fits (codes ", ") (codes "]") (among_elements thing begun)
        (λ bytes lead left long. goes _ _ _ refl (looks_from S holds _ _ _ (overflows Inspected Between Between bytes (codes "]") (OfArray thing lead [] ∷ begun) begun left long) (arrives _)))
        (λ bytes lead v vs. goes _ _ _ refl (arrives _))
        (λ bytes lead v vs left fit short. goes _ _ _ refl (each (codes ", ") vs v lead bytes left fit short))
        (λ bytes lead v vs left fit room why. fails_after S holds at _ _ (goes _ _ _ refl (arrives _)) (refuses (codes ", ") vs v lead bytes left fit room why))

    pair_fails : (os : List Open) → Refuses text steps fits os → (lead bytes : Text) (p : Value × Value) (left : ℕ) → fits p.1 ≡ true
        → ((left < steps p.1) ⊎ (max_bytes < length (bytes ++ (lead ++ pair_text S holds text p))))
        → Fails S holds at (left < steps p.1) (max_bytes < length (bytes ++ (lead ++ pair_text S holds text p))) (drafting S holds at k sc d Inspected (OfPair lead p.0 p.1) bytes os left)
    pair_fails os refuses lead bytes p left fit why = by (nat_lt max_bytes (length (bytes ++ key_text lead p.0))) refl
      where
        same : (bytes ++ key_text lead p.0) ++ text p.1 ≡ bytes ++ (lead ++ pair_text S holds text p)
        same = ap (λ x. (bytes ++ x) ++ text p.1) (append_assoc lead (inspected S.program p.0) (codes "=>")) ∙ regrouped_right bytes lead (inspected S.program p.0 ++ codes "=>") (text p.1)

        behind : ((left < steps p.1) ⊎ (max_bytes < length (bytes ++ (lead ++ pair_text S holds text p)))) → (left < steps p.1) ⊎ (max_bytes < length ((bytes ++ key_text lead p.0) ++ text p.1))
        behind (inl few) = inl few
        behind (inr long) = inr (subst (λ b. max_bytes < length b) (sym same) long)

        by : (long : Bool) → nat_lt max_bytes (length (bytes ++ key_text lead p.0)) ≡ long
            → Fails S holds at (left < steps p.1) (max_bytes < length (bytes ++ (lead ++ pair_text S holds text p))) (drafting S holds at k sc d Inspected (OfPair lead p.0 p.1) bytes os left)
        by true is =
            let long : max_bytes < length (bytes ++ key_text lead p.0) = grind (arith, nat_tests, is) in
            too_long left (subst (λ b. max_bytes < length b) same (longer (bytes ++ key_text lead p.0) (text p.1) max_bytes long))
            (goes _ _ _ refl (looks_from S holds _ _ _ (overflows Inspected (OfPair lead p.0 p.1) (OfValue [] p.1) bytes (key_text lead p.0) os os left long) (arrives _)))
        by false is =
            let now : length (bytes ++ key_text lead p.0) ≤ max_bytes = grind (arith, nat_tests, is) in
            fails_after S holds at _ _ (goes _ _ _ refl (looks_from S holds _ _ _ (joins S holds at k sc d Inspected (OfPair lead p.0 p.1) (OfValue [] p.1) bytes (key_text lead p.0) os os left now) (arrives _)))
            (fails_map S holds at _ (λ few. few) (λ long. subst (λ b. max_bytes < length b) same long) (refuses p.1 [] (bytes ++ key_text lead p.0) left fit now (behind why)))

    pairs_fail : ((lead : Text) (ps : List (Value × Value)) → Tells S holds at k sc d text steps fits (OfHash thing lead ps ∷ begun))
        → ((lead : Text) (ps : List (Value × Value)) → Refuses text steps fits (OfHash thing lead ps ∷ begun)) → (ps : List (Value × Value)) (bytes : Text) (left : ℕ)
        → list_all (λ (p : Value × Value). fits p.1) ps ≡ true → length bytes ≤ max_bytes
        → ((left < one_for_each (λ (p : Value × Value). steps p.1) ps) ⊎ (max_bytes < length (bytes ++ (join_by (pair_text S holds text) (codes ", ") ps ++ codes "}"))))
        → Fails S holds at (left < one_for_each (λ (p : Value × Value). steps p.1) ps) (max_bytes < length (bytes ++ (join_by (pair_text S holds text) (codes ", ") ps ++ codes "}")))
        (among_pairs thing begun bytes [] ps left)
    pairs_fail each refuses =
        row_fails (pair_text S holds text) (λ (p : Value × Value). steps p.1) (λ (p : Value × Value). fits p.1) (codes ", ") (codes "}") (among_pairs thing begun)
        (λ bytes lead left long. goes _ _ _ refl (looks_from S holds _ _ _ (overflows Inspected Between Between bytes (codes "}") (OfHash thing lead [] ∷ begun) begun left long) (arrives _)))
        (λ bytes lead p ps. goes _ _ _ refl (arrives _))
        (λ bytes lead p ps left fit short. goes _ _ _ refl (pair S holds at k sc d text steps fits thing begun (OfHash thing (codes ", ") ps ∷ begun) (each (codes ", ") ps) lead bytes p left fit short))
        (λ bytes lead p ps left fit room why. fails_after S holds at _ _ (goes _ _ _ refl (arrives _)) (pair_fails (OfHash thing (codes ", ") ps ∷ begun) (refuses (codes ", ") ps) lead bytes p left fit why))

  -- a collection is opened, or the bytes that begin it are too many
  opens_or_fails : {few : Type 0} (lead bytes mark rest : Text) (v : Value) (begun : List Open) (now : Open) (left : ℕ)
      → (length (bytes ++ (lead ++ mark)) ≤ max_bytes → Fails S holds at few (max_bytes < length ((bytes ++ (lead ++ mark)) ++ rest)) (drafting S holds at k sc d Inspected Between (bytes ++ (lead ++ mark)) (now ∷ begun) left))
      → Fails S holds at few (max_bytes < length (bytes ++ (lead ++ (mark ++ rest)))) (going (joined (inspecting S holds at k sc d lead v bytes begun) (lead ++ mark) Between (now ∷ begun)) at k sc d left)
  opens_or_fails {few} lead bytes mark rest v begun now left inner = by (nat_lt max_bytes (length (bytes ++ (lead ++ mark)))) refl
    where
      same : (bytes ++ (lead ++ mark)) ++ rest ≡ bytes ++ (lead ++ (mark ++ rest))
      same = regrouped_right bytes lead mark rest

      by : (long : Bool) → nat_lt max_bytes (length (bytes ++ (lead ++ mark))) ≡ long
          → Fails S holds at few (max_bytes < length (bytes ++ (lead ++ (mark ++ rest)))) (going (joined (inspecting S holds at k sc d lead v bytes begun) (lead ++ mark) Between (now ∷ begun)) at k sc d left)
      by true is =
          let long : max_bytes < length (bytes ++ (lead ++ mark)) = grind (arith, nat_tests, is) in
          too_long left (subst (λ b. max_bytes < length b) same (longer (bytes ++ (lead ++ mark)) rest max_bytes long))
          (looks_from S holds _ _ _ (overflows Inspected (OfValue lead v) Between bytes (lead ++ mark) begun (now ∷ begun) left long) (arrives _))
      by false is =
          let short : length (bytes ++ (lead ++ mark)) ≤ max_bytes = grind (arith, nat_tests, is) in
          fails_after S holds at _ _ (looks_from S holds _ _ _ (joins S holds at k sc d Inspected (OfValue lead v) Between bytes (lead ++ mark) begun (now ∷ begun) left short) (arrives _))
          (fails_map S holds at _ (λ few. few) (λ long. subst (λ b. max_bytes < length b) same long) (inner short))

  abbrev from_mark : (lead bytes mark rest : Text) (few : Type 0) → few ⊎ (max_bytes < length (bytes ++ (lead ++ (mark ++ rest)))) → few ⊎ (max_bytes < length ((bytes ++ (lead ++ mark)) ++ rest))
  from_mark lead bytes mark rest few (inl less) = inl less
  from_mark lead bytes mark rest few (inr long) = inr (subst (λ b. max_bytes < length b) (sym (regrouped_right bytes lead mark rest)) long)

  -- a collection that is read, by what it holds
  module _ (text : Value → Text) (steps : Value → ℕ) (fits : Value → Bool) (thing : Reference) (begun : List Open)
      (arrays : (lead : Text) (vs : List Value) → Tells S holds at k sc d text steps fits (OfArray thing lead vs ∷ begun)) (arrays_fail : (lead : Text) (vs : List Value) → Refuses text steps fits (OfArray thing lead vs ∷ begun))
      (hashes : (lead : Text) (ps : List (Value × Value)) → Tells S holds at k sc d text steps fits (OfHash thing lead ps ∷ begun))
      (hashes_fail : (lead : Text) (ps : List (Value × Value)) → Refuses text steps fits (OfHash thing lead ps ∷ begun)) where
    holds_fails : (lead bytes : Text) (v : Value) (left : ℕ) (what : Option Thing) → holds thing.id ≡ what → collection_fits fits what ≡ true
        → ((left < collection_steps steps what) ⊎ (max_bytes < length (bytes ++ (lead ++ collection_text S holds text what))))
        → Fails S holds at (left < collection_steps steps what) (max_bytes < length (bytes ++ (lead ++ collection_text S holds text what)))
        (On (Reading thing (ForText (inspecting S holds at k sc d lead v bytes begun)) at) k sc d left)
    holds_fails lead bytes v left (Some (Elements vs)) is fit why =
        let inner = join_by text (codes ", ") vs ++ codes "]" in
        fails_after S holds at _ _ (copies _ _ thing (Elements vs) refl is (arrives _))
        (opens_or_fails lead bytes (codes "[") inner v begun (OfArray thing [] vs) left
        (λ now. elements_fail text steps fits thing begun arrays arrays_fail vs (bytes ++ (lead ++ codes "[")) left fit now (from_mark lead bytes (codes "[") inner (left < one_for_each steps vs) why)))
    holds_fails lead bytes v left (Some (Pairs ps)) is fit why =
        let inner = join_by (pair_text S holds text) (codes ", ") ps ++ codes "}" in
        fails_after S holds at _ _ (copies _ _ thing (Pairs ps) refl is (arrives _))
        (opens_or_fails lead bytes (codes "{") inner v begun (OfHash thing [] ps) left
        (λ now. pairs_fail text steps fits thing begun hashes hashes_fail ps (bytes ++ (lead ++ codes "{")) left fit now
        (from_mark lead bytes (codes "{") inner (left < one_for_each (λ (p : Value × Value). steps p.1) ps) why)))
    holds_fails lead bytes v left None is fit why = absurd (cc)
    holds_fails lead bytes v left (Some (Object class fields)) is fit why = absurd (cc)
    holds_fails lead bytes v left (Some (Mutex owner)) is fit why = absurd (cc)
    holds_fails lead bytes v left (Some (Thread state)) is fit why = absurd (cc)

  -- a value is not told by its part, where a collection that is told by what it holds is not
  part_fails : (lead bytes : Text) (v : Value) (begun : List Open) (left : ℕ) (text : Reference → Text) (steps : Reference → ℕ) (fits : Reference → Bool) (part : Part)
      → inspects S.program (inspecting S holds at k sc d lead v bytes begun) lead v ≡ needs_of S holds at k sc d (inspecting S holds at k sc d lead v bytes begun) lead part
      → ((thing : Reference) → fits thing ≡ true → ((left < steps thing) ⊎ (max_bytes < length (bytes ++ (lead ++ text thing))))
      → Fails S holds at (left < steps thing) (max_bytes < length (bytes ++ (lead ++ text thing))) (drafted S (Copies thing (inspecting S holds at k sc d lead v bytes begun)) at k sc d left))
      → part_fits fits part ≡ true → ((left < part_steps steps part) ⊎ (max_bytes < length (bytes ++ (lead ++ part_text S holds text part))))
      → Fails S holds at (left < part_steps steps part) (max_bytes < length (bytes ++ (lead ++ part_text S holds text part))) (drafting S holds at k sc d Inspected (OfValue lead v) bytes begun left)
  part_fails lead bytes v begun left text steps fits (Single w) is whole fit (inl few) = absurd (no_fewer left few)
  part_fails lead bytes v begun left text steps fits (Single w) is whole fit (inr long) =
      too_long left long
      (goes _ _ _ (ap (λ n. Go (drafted S n at k sc d left)) is)
      (looks_from S holds _ _ _ (overflows Inspected (OfValue lead v) Between bytes (lead ++ inspected S.program w) begun begun left long) (arrives _)))
  part_fails lead bytes v begun left text steps fits (Again thing) is whole fit (inl few) = absurd (no_fewer left few)
  part_fails lead bytes v begun left text steps fits (Again thing) is whole fit (inr long) =
      too_long left long
      (goes _ _ _ (ap (λ n. Go (drafted S n at k sc d left)) is)
      (looks_from S holds _ _ _ (overflows Inspected (OfValue lead v) Between bytes (lead ++ dots thing.sort) begun begun left long) (arrives _)))
  part_fails lead bytes v begun left text steps fits (Whole thing) is whole fit why =
      fails_after S holds at _ _ (goes _ _ _ (ap (λ n. Go (drafted S n at k sc d left)) is) (arrives _)) (whole thing fit why)

  -- a value is not told inside the collections that are begun
  refuses : (deep : ℕ) (begun : List Open) → deep + (d + length begun) ≤ max_depth
      → Refuses (text_inside S holds deep (things_of begun)) (steps_inside S holds deep (things_of begun)) (fits_inside S holds deep (things_of begun)) begun
  refuses zero begun room v lead bytes left fit before why =
      part_fails lead bytes v begun left (λ thing. []) (λ thing. 0) (λ thing. false) (inspected_part (things_of begun) v)
      (value_needs S holds at k sc d (inspecting S holds at k sc d lead v bytes begun) lead v refl) (λ thing no why. absurd (cc)) fit why
  refuses (suc deep) begun room v lead bytes left fit before why =
      let below : nat_lt (d + length begun) max_depth ≡ true = grind (arith, nat_tests, room) in
      let inside : deep + (d + suc (length begun)) ≤ max_depth = omega (arith, room) in
      part_fails lead bytes v begun left
      (λ thing. collection_text S holds (text_inside S holds deep (thing ∷ things_of begun)) (holds thing.id))
      (λ thing. collection_steps (steps_inside S holds deep (thing ∷ things_of begun)) (holds thing.id))
      (λ thing. collection_fits (fits_inside S holds deep (thing ∷ things_of begun)) (holds thing.id))
      (inspected_part (things_of begun) v) (value_needs S holds at k sc d (inspecting S holds at k sc d lead v bytes begun) lead v refl)
      (λ thing fit why.
      let reading = On (Reading thing (ForText (inspecting S holds at k sc d lead v bytes begun)) at) k sc d left in
      fails_after S holds at _ _ (looks_from S holds _ _ _ (ap (λ b. cond b reading (raised TooDeep at left)) below) (arrives _))
      (holds_fails (text_inside S holds deep (thing ∷ things_of begun)) (steps_inside S holds deep (thing ∷ things_of begun)) (fits_inside S holds deep (thing ∷ things_of begun)) thing begun
      (λ lead vs. tells S holds at k sc d deep (OfArray thing lead vs ∷ begun) inside) (λ lead vs. refuses deep (OfArray thing lead vs ∷ begun) inside)
      (λ lead ps. tells S holds at k sc d deep (OfHash thing lead ps ∷ begun) inside) (λ lead ps. refuses deep (OfHash thing lead ps ∷ begun) inside) lead bytes v left (holds thing.id) refl fit why))
      fit why

pub inspected_fails : InspectedFails
inspected_fails S holds deep v at k sc d left room fit why =
    let inside : deep + (d + 0) ≤ max_depth = omega (arith, room) in
    let empty : 0 ≤ max_bytes = omega arith in
    refuses S holds at k sc d deep [] inside v [] [] left fit empty why
