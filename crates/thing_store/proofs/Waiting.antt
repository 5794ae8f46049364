-- What moves keeps nobody waiting who moves it.
use Rattle.std.proofs.Common.{◌≡◌, ℕ, ◌==◌, true, false, List, [], ◌∷◌, ◌++◌, Some, None, refl, ap}
use Rattle.std.specs.Prelude.{not}
use Rattle.std.proofs.lemmas.Bool.{eq-eqb}
use Rattle.rb_model.specs.declared.value.Id.{Id}
use Rattle.rb_model.specs.Values.{same_id}
use Rattle.rb_model.specs.Acts.{Act, Join, Lock}
use Rattle.rb_model.specs.Things.{Thing, Object, Elements, Pairs, Mutex, Thread}
use Rattle.rb_model.specs.Private.{Item}
use Rattle.rb_model.specs.Log.{Call, On, Start, Gather, Print, End}
use Rattle.rb_shared.specs.Lists.{Each}
use Rattle.rb_shared.specs.Asking.{MayMove}
use Rattle.rb_shared.specs.Store.{Store, found}
use Rattle.rb_shared.specs.Step.{waits, waits_on, is_waiting}

not_owned : (t : ℕ) (owner : ℕ) → owner ≡ t → not (owner == t) ≡ false
not_owned t owner e = ap not (eq-eqb owner t e)

-- a thing that may move keeps nobody waiting
stays : (t : ℕ) (thing : Thing) (act : Act) → MayMove t thing → waits_on t thing act ≡ false
stays t (Object class fields) act may = refl
stays t (Elements values) act may = refl
stays t (Pairs pairs) act may = refl
stays t (Mutex None) act may = refl
stays t (Mutex (Some owner)) Lock may = not_owned t owner may
stays t (Mutex (Some owner)) act may = refl
stays t (Thread s) act may = absurd may

module _ (t : ℕ) (id : Id) (act : Act) where
  moved_stay : (ms : List Item) → Each (λ (x : Item). MayMove t x.thing) ms → is_waiting t (found ms id) act ≡ false
  moved_stay [] may = refl
  moved_stay (x ∷ xs) may = (elim (same_id x.id id) as (λ b. same_id x.id id ≡ b → is_waiting t (found (x ∷ xs) id) act ≡ false) [
    | true ↦ λ q. rw q (stays t x.thing act may.0)
    | false ↦ λ q. rw q (moved_stay xs may.1)
  ]) refl

  pub waits_alike : (z : Store) (ms : List Item) → Each (λ (x : Item). MayMove t x.thing) ms → is_waiting t (found (z ++ ms) id) act ≡ is_waiting t (found z id) act
  waits_alike [] ms may = moved_stay ms may
  waits_alike (x ∷ xs) ms may = (elim (same_id x.id id) as (λ b. same_id x.id id ≡ b → is_waiting t (found (x ∷ xs ++ ms) id) act ≡ is_waiting t (found (x ∷ xs) id) act) [
    | true ↦ λ q. rw q refl
    | false ↦ λ q. rw q (waits_alike xs ms may)
  ]) refl

-- whether a call has to wait does not depend on what moves with it
pub waits-moved : (z : Store) (ms : List Item) (t : ℕ) (call : Call) → Each (λ (x : Item). MayMove t x.thing) ms → waits (z ++ ms) t call ≡ waits z t call
waits-moved z ms t (On thing act) may = waits_alike t thing.id act z ms may
waits-moved z ms t (Gather thread) may = waits_alike t thread.id Join z ms may
waits-moved z ms t (Start id body values) may = refl
waits-moved z ms t (Print bytes) may = refl
waits-moved z ms t (End how) may = refl
