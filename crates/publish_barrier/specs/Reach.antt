-- What values reach in a private store, as a list that is gone through while it grows.
use Rattle.std.specs.Prelude.{◌≡◌, ◌+◌, ◌&&◌, ◌||◌, ℕ, Bool, false, not, if◌then◌else◌, List, [], ◌∷◌, ◌++◌, length, map, slice_get, is_some, Some}
use Rattle.rb_model.specs.declared.value.Id.{Id}
use Rattle.rb_model.specs.Private.{Private, Item, held}
use Rattle.rb_model.specs.Things.{Thing, mentioned}
use Rattle.rb_model.specs.Values.{Value as Val, To, same_id}

abbrev pub has : List Id → Id → Bool
has [] id = false
has (x ∷ xs) id = same_id x id || has xs id

-- an id that passes, and is not yet in the list
abbrev pub is_new : (Id → Bool) → List Id → Id → Bool
is_new passes found id = passes id && not (has found id)

-- the ids that values add to a list, each once, in order
abbrev pub news : (Id → Bool) → List Id → List Val → List Id
news passes found [] = []
news passes found (To r ∷ vs) = if is_new passes found r.id then r.id ∷ news passes (found ++ r.id ∷ []) vs else news passes found vs
news passes found (v ∷ vs) = news passes found vs

-- an id of a private thing
abbrev pub is_private : Private → Id → Bool
is_private h id = is_some (held h id)

-- From place i on, each item of the list in turn appends what its thing mentions, is private and is not yet in the list. The list ends
-- where its last item appends nothing.
pub data Spreads (h : Private) : List Id → ℕ → List Id → Type 0 where
  ends : (found : List Id) (i : ℕ) → i ≡ length found → Spreads h found i found
  goes : (found out : List Id) (i : ℕ) (id : Id) (x : Thing) → slice_get found i ≡ Some id → held h id ≡ Some x
      → Spreads h (found ++ news (is_private h) found (mentioned x)) (i + 1) out → Spreads h found i out

-- the ids that values reach
abbrev pub Reaches : Private → List Val → List Id → Type 0
Reaches h vs out = Spreads h (news (is_private h) [] vs) 0 out

abbrev pub item_ids : List Item → List Id
item_ids ms = map (λ (m : Item). m.id) ms
