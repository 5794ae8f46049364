-- The keys of a hash stay different, whatever is put and taken out.
use Rattle.std.proofs.Common.{◌≡◌, Bool, true, false, List, [], ◌∷◌, refl, ap, sym, ◌∙◌}
use Rattle.std.specs.Prelude.{◌||◌}
use Rattle.rb_model.specs.declared.value.Value.{Value as Held}
use Rattle.rb_model.specs.declared.value.Value.TheVariants as held
use Rattle.rb_model.specs.Sameness.{same_equivalence}
use Rattle.rb_model.specs.Values.{Value as Val, Nil, False, True, Int, Sym, Str, To, plain, same}
use Rattle.rb_model.specs.Things.{gathered, gathered_onto, has_key, with_pair, without_key}
use Rattle.local_heap.specs.Limits.{AreKeysOnce}

-- ---- who is the same is so both ways

abbrev held_as : Val → Held
held_as Nil = held.Nil
held_as False = held.False
held_as True = held.True
held_as (Int n) = held.Int n
held_as (Sym name) = held.Sym name
held_as (Str bytes) = held.Str bytes
held_as (To thing) = held.Ref (record { sort = thing.sort; id = thing.id; at = 0 })

plain_held : (v : Val) → plain (held_as v) ≡ v
plain_held Nil = refl
plain_held False = refl
plain_held True = refl
plain_held (Int n) = refl
plain_held (Sym name) = refl
plain_held (Str bytes) = refl
plain_held (To thing) = refl

same_back : (v w : Val) → same v w ≡ same w v
same_back v w =
    ap (λ a. same a w) (sym (plain_held v)) ∙ ap (same (plain (held_as v))) (sym (plain_held w))
    ∙ same_equivalence.symm (held_as v) (held_as w)
    ∙ ap (λ a. same a (plain (held_as v))) (plain_held w) ∙ ap (same w) (plain_held v)

neither : (a b : Bool) → (a || b) ≡ false → (a ≡ false) × (b ≡ false)
neither true b e = absurd (cc)
neither false b e = (refl, e)

both_not : (a b : Bool) → a ≡ false → b ≡ false → (a || b) ≡ false
both_not true b e f = absurd (cc)
both_not false b e f = f

-- ---- a key that is not there

not_put : (k j v : Val) (ps : List (Val × Val)) → has_key k ps ≡ false → same j k ≡ false → has_key k (with_pair j v ps) ≡ false
not_put k j v [] none other = both_not (same j k) false other refl
not_put k j v (p ∷ ps) none other =
    let parts = neither (same p.0 k) (has_key k ps) none in
    (elim (same p.0 j) as (λ b. same p.0 j ≡ b → has_key k (with_pair j v (p ∷ ps)) ≡ false) [
      | true ↦ λ e. rw e none
      | false ↦ λ e. rw e (both_not (same p.0 k) (has_key k (with_pair j v ps)) parts.0 (not_put k j v ps parts.1 other))
    ]) refl

not_taken : (k j : Val) (ps : List (Val × Val)) → has_key k ps ≡ false → has_key k (without_key j ps) ≡ false
not_taken k j [] none = refl
not_taken k j (p ∷ ps) none =
    let parts = neither (same p.0 k) (has_key k ps) none in
    (elim (same p.0 j) as (λ b. same p.0 j ≡ b → has_key k (without_key j (p ∷ ps)) ≡ false) [
      | true ↦ λ e. rw e parts.1
      | false ↦ λ e. rw e (both_not (same p.0 k) (has_key k (without_key j ps)) parts.0 (not_taken k j ps parts.1))
    ]) refl

-- ---- all keys

pub once_with : (j v : Val) (ps : List (Val × Val)) → AreKeysOnce ps → AreKeysOnce (with_pair j v ps)
once_with j v [] once = (refl, tt)
once_with j v (p ∷ ps) once =
    (elim (same p.0 j) as (λ b. same p.0 j ≡ b → AreKeysOnce (with_pair j v (p ∷ ps))) [
      | true ↦ λ e. rw e once
      | false ↦ λ e. rw e (not_put p.0 j v ps once.0 (same_back j p.0 ∙ e), once_with j v ps once.1)
    ]) refl

pub once_without : (j : Val) (ps : List (Val × Val)) → AreKeysOnce ps → AreKeysOnce (without_key j ps)
once_without j [] once = tt
once_without j (p ∷ ps) once =
    (elim (same p.0 j) as (λ b. same p.0 j ≡ b → AreKeysOnce (without_key j (p ∷ ps))) [
      | true ↦ λ e. rw e once.1
      | false ↦ λ e. rw e (not_taken p.0 j ps once.0, once_without j ps once.1)
    ]) refl

once_onto : (ps more : List (Val × Val)) → AreKeysOnce ps → AreKeysOnce (gathered_onto ps more)
once_onto ps [] once = once
once_onto ps (p ∷ more) once = once_onto (with_pair p.0 p.1 ps) more (once_with p.0 p.1 ps once)

-- pairs as a literal gives them
pub once_gathered : (ps : List (Val × Val)) → AreKeysOnce (gathered ps)
once_gathered ps = once_onto [] ps tt
