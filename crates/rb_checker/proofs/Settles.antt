-- A local is settled where what is noted of its text says so.
use Rattle.std.proofs.Common.{◌≡◌, ℕ, Bool, true, false, cond, List, [], ◌∷◌, ◌++◌, Option, Some, None, refl, sym, ap, ◌∙◌, arith}
use Rattle.std.specs.Prelude.{not, ◌==◌, ◌&&◌, ◌||◌, nat_eq, nat_lt}
use Rattle.std.specs.HashMap as map
use Rattle.std.specs.List.{list_any, filter, flat_map}
use Rattle.std.proofs.lemmas.Bool.{false≢true}
use Rattle.std.proofs.lemmas.Bool.Decides.{nat_tests}
use Rattle.rb_tree.specs.declared.span.Span.{Span}
use Rattle.rb_tree.specs.declared.span.NameId.{NameId}
use Rattle.rb_checker.specs.declared.event.Event.{Event}
use Rattle.rb_checker.specs.declared.event.Around.{Around}
use Rattle.rb_checker.specs.declared.event.Around.TheVariants as around
use Rattle.rb_checker.specs.declared.fault.CheckFault.TheVariants as fault
use Rattle.rb_checker.specs.declared.locals.Local.{Local}
use Rattle.rb_checker.specs.declared.settling.Assignments.{Assignments}
use Rattle.rb_checker.specs.Around.{Open}
use Rattle.rb_checker.specs.Assigned.{IsNoted, assigns_as, behind_start, end_of, has_held}
use Rattle.rb_checker.specs.Locals.{Use, assigns, same_scope, same_local, scopes_of, known_in, uses_from, uses_behind_start}
use Rattle.rb_checker.specs.Settled as spec
use Rattle.rb_checker.specs.Settled.{opens, within, holds, is_empty, assignments_to, locals_in}
use Rattle.rb_checker.specs.Settling as quick
use Rattle.rb_checker.specs.Walked.{Knows}
use Rattle.rb_checker.proofs.Holding.{any_by}
use Rattle.rb_checker.proofs.Knowing.{same_local_swapped}

pub apart : (m n : ℕ) → ¬ (m ≡ n) → (m == n) ≡ false
apart m n h = grind (arith, nat_tests, h)

-- a name stands for no local of another name
pub not_of_name : (known : List Local) (name : NameId) (scopes : List (Option ℕ)) (v : Local) → (name.0 == v.name) ≡ false
    → (elim (known_in known name scopes) [ None ↦ false | Some local ↦ same_local local v ]) ≡ false
not_of_name known name [] v h = refl
not_of_name known name (scope ∷ outer) v h = by (list_any (same_local this) known) (not_of_name known name outer v h)
  where
    this : Local
    this = record { name = name.0; scope = scope }

    by : (there : Bool) → (elim (known_in known name outer) [ None ↦ false | Some local ↦ same_local local v ]) ≡ false
        → (elim (cond there (Some this) (known_in known name outer)) [ None ↦ false | Some local ↦ same_local local v ]) ≡ false
    by true rest = ap (λ b. b && same_scope scope v.scope) h
    by false rest = rest

-- the right side of an assignment to a local, by both definitions
in_value_is : (known : List Local) (v : Local) (round : Open) → quick.in_value_of known v round ≡ spec.in_value_of known v round
in_value_is known v [] = refl
in_value_is known v ((around.Loop, at) ∷ outer) = in_value_is known v outer
in_value_is known v ((around.Block, at) ∷ outer) = in_value_is known v outer
in_value_is known v ((around.Thread, at) ∷ outer) = in_value_is known v outer
in_value_is known v ((around.Value name, at) ∷ outer) =
    ap (λ b. quick.is_value_of known v name outer || b) (in_value_is known v outer) ∙ by (known_in known name (scopes_of outer))
  where
    by_same : (same : Bool) → (same || spec.in_value_of known v outer) ≡ cond same true (spec.in_value_of known v outer)
    by_same true = refl
    by_same false = refl

    by : (o : Option Local) → ((elim o [ None ↦ false | Some local ↦ same_local local v ]) || spec.in_value_of known v outer)
        ≡ (elim o [ None ↦ spec.in_value_of known v outer | Some local ↦ cond (same_local local v) true (spec.in_value_of known v outer) ])
    by None = refl
    by (Some local) = by_same (same_local local v)

-- whether some of what a test keeps pass another
module _ {A : Type 0} (keeps : A → Bool) where
  any-filter : (test : A → Bool) (xs : List A) → list_any test (filter keeps xs) ≡ list_any (λ x. keeps x && test x) xs
  any-filter test [] = refl
  any-filter test (x ∷ xs) = by (keeps x) (any-filter test xs)
    where
      by : (kept : Bool) → list_any test (filter keeps xs) ≡ list_any (λ y. keeps y && test y) xs
          → list_any test (cond kept (x ∷ filter keeps xs) (filter keeps xs)) ≡ ((kept && test x) || list_any (λ y. keeps y && test y) xs)
      by true rest = ap (λ b. test x || b) rest
      by false rest = rest

  any_either : (p q : A → Bool) (xs : List A) → list_any (λ x. keeps x && (p x || q x)) xs ≡ (list_any (λ x. keeps x && p x) xs || list_any (λ x. keeps x && q x) xs)
  any_either p q [] = refl
  any_either p q (x ∷ xs) =
      ap (λ b. (keeps x && (p x || q x)) || b) (any_either p q xs)
      ∙ by (keeps x) (p x) (q x) (list_any (λ y. keeps y && p y) xs) (list_any (λ y. keeps y && q y) xs)
    where
      by : (k a b c d : Bool) → ((k && (a || b)) || (c || d)) ≡ (((k && a) || c) || ((k && b) || d))
      by true true b c d = refl
      by true false true true d = refl
      by true false true false d = refl
      by true false false true d = refl
      by true false false false d = refl
      by false a b c d = refl

  any_none : (xs : List A) → list_any (λ x. keeps x && false) xs ≡ false
  any_none [] = refl
  any_none (x ∷ xs) = ap (λ b. (keeps x && false) || b) (any_none xs) ∙ by (keeps x)
    where
      by : (k : Bool) → ((k && false) || false) ≡ false
      by true = refl
      by false = refl

  -- it does not matter which of two lists is gone through first
  any_swapped : {B : Type 0} (test : A → B → Bool) (xs : List A) (ys : List B)
      → list_any (λ x. keeps x && list_any (test x) ys) xs ≡ list_any (λ y. list_any (λ x. keeps x && test x y) xs) ys
  any_swapped test xs [] = any_none xs
  any_swapped test xs (y ∷ ys) =
      any_either (λ x. test x y) (λ x. list_any (test x) ys) xs ∙ ap (λ b. list_any (λ x. keeps x && test x y) xs || b) (any_swapped test xs ys)

  empty-filter : (xs : List A) → list_any keeps xs ≡ list_any (λ x. true) (filter keeps xs)
  empty-filter [] = refl
  empty-filter (x ∷ xs) = by (keeps x) (empty-filter xs)
    where
      by : (kept : Bool) → list_any keeps xs ≡ list_any (λ y. true) (filter keeps xs)
          → (kept || list_any keeps xs) ≡ list_any (λ y. true) (cond kept (x ∷ filter keeps xs) (filter keeps xs))
      by true rest = refl
      by false rest = rest

empty_is : (us : List Use) → is_empty us ≡ not (list_any (λ (u : Use). true) us)
empty_is [] = refl
empty_is (u ∷ us) = refl

-- whether a use assigns a local, by both definitions
assigns_is : (v : Local) (u : Use) → (assigns u.usage && same_local u.local v) ≡ assigns_as v u
assigns_is v u = ap (λ b. assigns u.usage && b) (same_local_swapped u.local v)

none_assigned : (v : Local) (us : List Use) → is_empty (assignments_to v us) ≡ not (list_any (assigns_as v) us)
none_assigned v us =
    empty_is (assignments_to v us)
    ∙ ap not (sym (empty-filter (λ (u : Use). assigns u.usage && same_local u.local v) us) ∙ any_by (λ (u : Use). assigns u.usage && same_local u.local v) (assigns_as v) us (assigns_is v))

second_false : (x y : Bool) → (x || y) ≡ false → y ≡ false
second_false true y h = absurd (false≢true (sym h))
second_false false y h = h

-- the text of which these are noted
module _ (a : Assignments) (text : List (Open × Event)) (noted : IsNoted a text) where
  abbrev us : List Use
  us = uses_from [] text

  behind_is : (v : Local) (start : ℕ) → is_empty (assignments_to v (uses_behind_start start [] text)) ≡ not (quick.is_assigned_behind a v start)
  behind_is v start = none_assigned v (uses_behind_start start [] text) ∙ ap (λ l. not (list_any (assigns_as v) l)) (noted.starts start) ∙ ap not (by (map.get nat_eq a.starts start))
    where
      by : (o : Option ℕ) → list_any (assigns_as v) (behind_start o us) ≡ (elim o [ None ↦ false | Some before ↦ nat_lt before (end_of a.ends v) ])
      by None = refl
      by (Some before) = noted.ends v before

  held_is : (v : Local) (ys : Open) → list_any (λ (u : Use). list_any (holds u.round) ys) (assignments_to v us) ≡ list_any (has_held a.held v) ys
  held_is v ys =
      any-filter (λ (u : Use). assigns u.usage && same_local u.local v) (λ (u : Use). list_any (holds u.round) ys) us
      ∙ any_by (λ (u : Use). (assigns u.usage && same_local u.local v) && list_any (holds u.round) ys) (λ (u : Use). assigns_as v u && list_any (holds u.round) ys) us
      (λ u. ap (λ b. b && list_any (holds u.round) ys) (assigns_is v u))
      ∙ any_swapped (assigns_as v) (λ (u : Use) (y : Around × Span). holds u.round y) us ys
      ∙ any_by (λ (y : Around × Span). list_any (λ (u : Use). assigns_as v u && holds u.round y) us) (has_held a.held v) ys (λ y. sym (noted.held v y))

  -- what the definition says of one thread
  settled_is : (v : Local) (start : ℕ) (outer : Open)
      → spec.is_settled text v start outer
      ≡ (not (quick.is_assigned_behind a v start) && (not (list_any (has_held a.held v) (within v.scope outer)) && not (quick.in_value_of (locals_in us) v outer)))
  settled_is v start outer =
      ap (λ b. b && (not (list_any (λ (u : Use). list_any (holds u.round) (within v.scope outer)) (assignments_to v us)) && not (spec.in_value_of (locals_in us) v outer))) (behind_is v start)
      ∙ ap (λ b. not (quick.is_assigned_behind a v start) && (not b && not (spec.in_value_of (locals_in us) v outer))) (held_is v (within v.scope outer))
      ∙ ap (λ b. not (quick.is_assigned_behind a v start) && (not (list_any (has_held a.held v) (within v.scope outer)) && not b)) (sym (in_value_is (locals_in us) v outer))

  -- where nothing that stands round holds an assignment, only the starts of threads count
  only_starts : (v : Local) (round : Open) → list_any (has_held a.held v) (within v.scope round) ≡ false → quick.in_value_of (locals_in us) v round ≡ false
      → spec.is_settled_for_all text v round ≡ quick.starts_behind a v round
  only_starts v [] h k = refl
  only_starts v ((around.Loop, at) ∷ outer) h k = only_starts v outer (second_false (has_held a.held v (around.Loop, at)) (list_any (has_held a.held v) (within v.scope outer)) h) k
  only_starts v ((around.Value name, at) ∷ outer) h k =
      only_starts v outer h (second_false (quick.is_value_of (locals_in us) v name outer) (quick.in_value_of (locals_in us) v outer) k)
  only_starts v ((around.Block, at) ∷ outer) h k = by (opens v.scope (around.Block, at)) h (λ e. only_starts v outer e k)
    where
      by : (opened : Bool) → list_any (has_held a.held v) (cond opened [] ((around.Block, at) ∷ within v.scope outer)) ≡ false
          → (list_any (has_held a.held v) (within v.scope outer) ≡ false → spec.is_settled_for_all text v outer ≡ quick.starts_behind a v outer)
          → cond opened true (spec.is_settled_for_all text v outer) ≡ cond opened true (quick.starts_behind a v outer)
      by true h rest = refl
      by false h rest = rest (second_false (has_held a.held v (around.Block, at)) (list_any (has_held a.held v) (within v.scope outer)) h)
  only_starts v ((around.Thread, at) ∷ outer) h k = by (opens v.scope (around.Thread, at)) h (λ e. only_starts v outer e k)
    where
      by_parts : (late all starts : Bool) → all ≡ starts → ((not late && true) && all) ≡ (not late && starts)
      by_parts true all starts e = refl
      by_parts false all starts e = e

      by : (opened : Bool) → list_any (has_held a.held v) (cond opened [] ((around.Thread, at) ∷ within v.scope outer)) ≡ false
          → (list_any (has_held a.held v) (within v.scope outer) ≡ false → spec.is_settled_for_all text v outer ≡ quick.starts_behind a v outer)
          → cond opened true (spec.is_settled text v at.from outer && spec.is_settled_for_all text v outer) ≡ cond opened true (not (quick.is_assigned_behind a v at.from) && quick.starts_behind a v outer)
      by true h rest = refl
      by false h rest =
          let none = second_false (has_held a.held v (around.Thread, at)) (list_any (has_held a.held v) (within v.scope outer)) h in
          ap (λ b. b && spec.is_settled_for_all text v outer)
          (settled_is v at.from outer ∙ ap (λ b. not (quick.is_assigned_behind a v at.from) && (not b && not (quick.in_value_of (locals_in us) v outer))) none
          ∙ ap (λ b. not (quick.is_assigned_behind a v at.from) && (true && not b)) k)
          ∙ by_parts (quick.is_assigned_behind a v at.from) (spec.is_settled_for_all text v outer) (quick.starts_behind a v outer) (rest none)

  -- a local is settled where what is noted says so
  quick_is : (v : Local) (round : Open) → quick.is_settled a (locals_in us) v round ≡ spec.is_settled_for_all text v round
  quick_is v [] = refl
  quick_is v ((around.Loop, at) ∷ outer) = quick_is v outer
  quick_is v ((around.Value name, at) ∷ outer) = quick_is v outer
  quick_is v ((around.Block, at) ∷ outer) = ap (λ b. cond (opens v.scope (around.Block, at)) true b) (quick_is v outer)
  quick_is v ((around.Thread, at) ∷ outer) = by (opens v.scope (around.Thread, at))
    where
      held : Bool
      held = list_any (has_held a.held v) (within v.scope outer)

      value : Bool
      value = quick.in_value_of (locals_in us) v outer

      by_parts : (h k late starts all : Bool) → (h ≡ false → k ≡ false → all ≡ starts) → (not h && (not k && (not late && starts))) ≡ ((not late && (not h && not k)) && all)
      by_parts true k true starts all e = refl
      by_parts true k false starts all e = refl
      by_parts false true true starts all e = refl
      by_parts false true false starts all e = refl
      by_parts false false true starts all e = refl
      by_parts false false false starts all e = sym (e refl refl)

      by : (opened : Bool)
          → cond opened true (not held && (not value && cond opened true (not (quick.is_assigned_behind a v at.from) && quick.starts_behind a v outer)))
          ≡ cond opened true (spec.is_settled text v at.from outer && spec.is_settled_for_all text v outer)
      by true = refl
      by false =
          by_parts held value (quick.is_assigned_behind a v at.from) (quick.starts_behind a v outer) (spec.is_settled_for_all text v outer) (only_starts v outer)
          ∙ ap (λ b. b && spec.is_settled_for_all text v outer) (sym (settled_is v at.from outer))

  -- the noted locals are those of the text
  pub knows_noted : Knows a.known (locals_in us)
  knows_noted = λ v. noted.known v ∙ by us v
    where
      by : (xs : List Use) (v : Local) → list_any (assigns_as v) xs ≡ list_any (same_local v) (locals_in xs)
      by [] v = refl
      by (u ∷ xs) v = by_usage (assigns u.usage) (by xs v)
        where
          by_usage : (given : Bool) → list_any (assigns_as v) xs ≡ list_any (same_local v) (locals_in xs)
              → ((given && same_local v u.local) || list_any (assigns_as v) xs) ≡ list_any (same_local v) (cond given (u.local ∷ []) [] ++ locals_in xs)
          by_usage true rest = ap (λ b. same_local v u.local || b) rest
          by_usage false rest = rest

  -- the faults of uses, by both definitions
  pub unsettled_is : (xs : List Use)
      → flat_map (quick.unsettled_at a (locals_in us)) xs ≡ flat_map (λ (u : Use). cond (spec.is_settled_for_all text u.local u.round) [] (fault.UnsettledCapture u.at ∷ [])) xs
  unsettled_is [] = refl
  unsettled_is (u ∷ xs) =
      ap (λ b. cond b [] (fault.UnsettledCapture u.at ∷ []) ++ flat_map (quick.unsettled_at a (locals_in us)) xs) (quick_is u.local u.round)
      ∙ ap (λ es. cond (spec.is_settled_for_all text u.local u.round) [] (fault.UnsettledCapture u.at ∷ []) ++ es) (unsettled_is xs)
