-- A join by another than the maker leaves the count of threads that wait to be gathered.
use Rattle.std.proofs.Common.{◌≡◌, ℕ, ◌+◌, ◌==◌, ◌||◌, Bool, true, false, not, cond, [], ◌∷◌, ◌++◌, Option, Some, None, refl, sym, ap, ◌∙◌}
use Rattle.std.specs.Prelude.{sum_by}
use Rattle.std.proofs.lemmas.List.{append-nil}
use Rattle.std.proofs.lemmas.List.Sums.{sum_by-append}
use Rattle.rb_model.specs.declared.value.Id.{Id}
use Rattle.rb_model.specs.Values.{same_id}
use Rattle.rb_model.specs.Acts.{Join}
use Rattle.rb_model.specs.Ends.{End as Ending}
use Rattle.rb_model.specs.Things.{Thing, ThreadState, Thread}
use Rattle.rb_model.specs.Private.{Item}
use Rattle.rb_model.specs.Log.{Call, On, Start, Gather, Print, End}
use Rattle.rb_shared.specs.Store.{Store, found, with_thing, thread_in, threads}
use Rattle.rb_shared.specs.Step.{joined_by, gathered_by, store_behind, with_act}
use Rattle.rb_shared.specs.Laws.{IsJoin, OthersFreeNoSlot}

-- how many of one thing are counted
abbrev one : ThreadState → ℕ
one s = cond (not s.gathered) 1 0

abbrev tally : Store → ℕ
tally z = sum_by one (threads z)

first_counted : (x : Item) (xs : Store) → tally (x ∷ xs) ≡ sum_by one (thread_in x.thing) + tally xs
first_counted x xs = sum_by-append one (thread_in x.thing) (threads xs)

some_thing : (x y : Thing) → Some x ≡ Some y → x ≡ y
some_thing x y e = cc

-- a thread in the place of one that counts alike
with_first : (b : Bool) (x : Item) (xs : Store) (id : Id) (o s : ThreadState) → s.gathered ≡ o.gathered → (found xs id ≡ Some (Thread o) → tally (with_thing xs id (Thread s)) ≡ tally xs)
    → cond b (Some x.thing) (found xs id) ≡ Some (Thread o) → tally (cond b (record { id = x.id; thing = Thread s } ∷ xs) (x ∷ with_thing xs id (Thread s))) ≡ tally (x ∷ xs)
with_first true x xs id o s alike more f =
    let is : x.thing ≡ Thread o = some_thing x.thing (Thread o) f in
    let counts : sum_by one (s ∷ []) ≡ sum_by one (thread_in x.thing) = ap (λ g. 0 + cond (not g) 1 0) alike ∙ ap (λ y. sum_by one (thread_in y)) (sym is) in
    first_counted (record { id = x.id; thing = Thread s }) xs ∙ (ap (λ n. n + tally xs) counts ∙ sym (first_counted x xs))
with_first false x xs id o s alike more f =
    first_counted x (with_thing xs id (Thread s)) ∙ (ap (λ n. sum_by one (thread_in x.thing) + n) (more f) ∙ sym (first_counted x xs))

with_counted : (z : Store) (id : Id) (o s : ThreadState) → s.gathered ≡ o.gathered → found z id ≡ Some (Thread o) → tally (with_thing z id (Thread s)) ≡ tally z
with_counted [] id o s alike f = absurd (cc)
with_counted (x ∷ xs) id o s alike f = with_first (same_id x.id id) x xs id o s alike (with_counted xs id o s alike) f

-- another than the maker leaves the mark
joined_alike : (t : ℕ) (s : ThreadState) (end : Option Ending) → (s.maker == t) ≡ false → (joined_by t s end).gathered ≡ s.gathered
joined_alike t s None other = refl
joined_alike t s (Some how) other = by (s.number == t)
  where
    keeps : (b : Bool) → (b || false) ≡ b
    keeps true = refl
    keeps false = refl

    by : (b : Bool) → (cond b s (gathered_by t s)).gathered ≡ s.gathered
    by true = refl
    by false = ap (λ m. s.gathered || m) other ∙ keeps s.gathered

call_counted : (slots : ℕ) (w : Store) (t : ℕ) (c : Call) (id : Id) (s : ThreadState) → IsJoin c id → found w id ≡ Some (Thread s) → (s.maker == t) ≡ false → tally (store_behind slots w t c) ≡ tally w
call_counted slots w t c id s j f other = by c j
  where
    joins : (a : Id) → a ≡ id → tally (with_act t w a (found w a) Join) ≡ tally w
    joins a is =
        let there : found w a ≡ Some (Thread s) = ap (found w) is ∙ f in
        ap (λ o. tally (with_act t w a o Join)) there ∙ with_counted w a s (joined_by t s s.end) (joined_alike t s s.end other) there

    by : (d : Call) → IsJoin d id → tally (store_behind slots w t d) ≡ tally w
    by (On r Join) i = joins r.id i
    by (On r act) i = absurd i
    by (Gather r) i = joins r.id i
    by (Start thing body values) i = absurd i
    by (Print bytes) i = absurd i
    by (End how) i = absurd i

pub others_free_no_slot : OthersFreeNoSlot
others_free_no_slot slots z z' t e id s step j none_moved f other =
    let same : z ++ e.moved ≡ z = ap (λ ms. z ++ ms) none_moved ∙ append-nil z in
    ap tally (step.store_is ∙ ap (λ w. store_behind slots w t e.call) same) ∙ call_counted slots z t e.call id s j f other
