-- Writes of immediate values to lists, and what is taken out of them, at once.
use Rattle.std.proofs.Common.{◌≡◌, ℕ, ◌<◌, Bool, true, false, List, map, length, Option, Some, None, Ok, Err, OnErr, refl, ap, sym, ◌∙◌, subst, inl, inr}
use Rattle.std.specs.Prelude.{ℤ, IfOk, IfSome, IsSomeAnd, Result, nat_lt, not, ◌&&◌}
use Rattle.std.proofs.lemmas.Bool.{lt-ltb, ltb-true}
use Rattle.std.proofs.lemmas.List.{map_push}
use Rattle.typed_location.specs.declared.flag.Flag.{Flag}
use Rattle.typed_location.specs.declared.flag.Flag.TheVariants as flags
use Rattle.array_strategy.specs.Elements.{Elements as Stored, HasItem, IsFlags, IsRaw, Widens, place_of, pushed}
use Rattle.rb_model.specs.declared.value.Value.{Value as Held}
use Rattle.rb_model.specs.declared.value.Value.TheVariants as held
use Rattle.rb_model.specs.declared.immediate.Immediate.{Immediate}
use Rattle.rb_model.specs.declared.immediate.Immediate.TheVariants as immediate
use Rattle.rb_model.specs.Flags.{flag_in, value_of}
use Rattle.rb_model.specs.Integers.{integer_in}
use Rattle.rb_model.specs.Immediates.{value_told}
use Rattle.rb_model.specs.Values.{Value as Val, plain}
use Rattle.rb_model.specs.Acts.{Act, Push, Put}
use Rattle.rb_model.specs.Things.{Thing, Elements, becomes, has_room, index_of, is_integer}
use Rattle.local_heap.specs.Memory.{at_once, has_element, widens}
use Rattle.local_heap.specs.Contents.{DoesTake, DoesWrite, listed, was_done}
use Rattle.local_heap.proofs.Listing.{as_long, place_is}
use Rattle.local_heap.proofs.Writes.{wider}

-- an integer widens flags, and a flag integers
pub integer_widens : (a : Stored Held) (n : ℤ) → IsFlags value_of a → Widens held.Int integer_in value_of flag_in a (held.Int n)
integer_widens a n are = inr (are, refl)

no_integer_in : (f : Flag) → integer_in (value_of f) ≡ None
no_integer_in flags.Nil = refl
no_integer_in flags.False = refl
no_integer_in flags.True = refl

pub flag_widens : (a : Stored Held) (f : Flag) → IsRaw held.Int a → Widens held.Int integer_in value_of flag_in a (value_of f)
flag_widens a f are = inl (are, no_integer_in f)

-- ---- what is not done need not be done

module _ (a : Stored Held) (v : Held) where
  abbrev vs : List Val
  vs = map plain a.items

  abbrev Wide : Type 0
  Wide = Widens held.Int integer_in value_of flag_in a v

  pub not_put : (i : ℤ) → (HasItem a.items i → Wide) → at_once (listed a) (Put i (plain v)) ≡ false
  not_put i so =
      subst (λ o. (has_element (length vs) o && not (widens vs (plain v))) ≡ false)
      (place_is i (length a.items) ∙ ap (λ n. index_of n i) (sym (as_long a.items)))
      (by (place_of i (length a.items)) so)
    where
      by : (o : Option ℕ) → (IsSomeAnd o (λ j. j < length a.items) → Wide) → (has_element (length vs) o && not (widens vs (plain v))) ≡ false
      by None wide = refl
      by (Some n) wide = within (nat_lt n (length vs)) refl
        where
          within : (b : Bool) → nat_lt n (length vs) ≡ b → (nat_lt n (length vs) && not (widens vs (plain v))) ≡ false
          within false e = rw e refl
          within true e =
              let lt : n < length a.items = ltb-true n (length a.items) (ap (nat_lt n) (sym (as_long a.items)) ∙ e) in
              rw (e, wider a v (wide lt)) refl

  pub not_pushed : (length a.items < 16777216 → Wide) → at_once (listed a) (Push (plain v)) ≡ false
  not_pushed wide = by (has_room (length vs)) refl
    where
      by : (b : Bool) → has_room (length vs) ≡ b → (has_room (length vs) && not (widens vs (plain v))) ≡ false
      by false e = rw e refl
      by true e =
          let lt : length a.items < 16777216 = ltb-true (length a.items) 16777216 (ap has_room (sym (as_long a.items)) ∙ e) in
          rw (e, wider a v (wide lt)) refl

-- what is so of nil and truth values that are told is so of what is told beside integers
pub told_beside : (value : Immediate) (P : Val → Type 0) → ((n : ℤ) → value ≡ immediate.Int n → ⊥) → IfSome (value_told value) (λ v. is_integer v ≡ false → P v) → IfSome (value_told value) P
told_beside immediate.Nil P beside so = so refl
told_beside immediate.False P beside so = so refl
told_beside immediate.True P beside so = so refl
told_beside (immediate.Int n) P beside so = absurd (beside n refl)
told_beside immediate.Other P beside so = tt

-- anything is so of integers that are none
pub told_integer : (o : Option Val) (P : Val → Type 0) → IfSome o (λ v. is_integer v ≡ true) → IfSome o (λ v. is_integer v ≡ false → P v)
told_integer None P are = tt
told_integer (Some v) P are = λ none. absurd (let wrong : true ≡ false = sym are ∙ none in cc)

pub joins_beside : {E : Type 0} (r : Result Bool E) (value : Immediate) (P : Val → Type 0) → ((n : ℤ) → value ≡ immediate.Int n → ⊥)
    → IfOk r (λ d. d ≡ false → IfSome (value_told value) (λ v. is_integer v ≡ false → P v)) → IfOk r (λ d. d ≡ false → IfSome (value_told value) P)
joins_beside (Ok d) value P beside so = λ is. told_beside value P beside (so is)
joins_beside (Err e) value P beside so = tt

-- what is so of each value is so of those that are no integers
none_beside : (o : Option Val) (P : Val → Type 0) → IfSome o P → IfSome o (λ v. is_integer v ≡ false → P v)
none_beside None P so = tt
none_beside (Some v) P so = λ none. so

pub joins_flag : {E : Type 0} (r : Result Bool E) (o : Option Val) (P : Val → Type 0) → IfOk r (λ d. d ≡ false → IfSome o P) → IfOk r (λ d. d ≡ false → IfSome o (λ v. is_integer v ≡ false → P v))
joins_flag (Ok d) o P so = λ is. none_beside o P (so is)
joins_flag (Err e) o P so = tt

-- ---- a value behind the last element

module _ (a a' : Stored Held) (v : Held) (value : Option Val) (told : value ≡ Some (plain v)) where
  joins : length a.items < 16777216 → a' ≡ pushed integer_in a v → DoesWrite true (listed a) Push value (listed a')
  joins room more =
      let has : has_room (length (map plain a.items)) ≡ true = ap has_room (as_long a.items) ∙ lt-ltb (length a.items) 16777216 room in
      rw (told, has) (refl, ap listed more ∙ ap Elements (map_push plain a.items v))

  pub does_join : {E : Type 0} (r : Result Bool E) → IfOk r (λ d. d ≡ true → a' ≡ pushed integer_in a v) → IfOk r (λ d. d ≡ true → length a.items < 16777216)
      → IfOk r (λ d. d ≡ false → a' ≡ a) → OnErr r (a' ≡ a) → DoesWrite (was_done r) (listed a) Push value (listed a')
  does_join (Ok true) more room kept err = joins (room refl) (more refl)
  does_join (Ok false) more room kept err = ap listed (kept refl)
  does_join (Err e) more room kept err = ap listed err

  pub not_joined : {E : Type 0} (r : Result Bool E) (P : Type 0) → (P → Widens held.Int integer_in value_of flag_in a v) → IfOk r (λ d. d ≡ false → length a.items < 16777216 → P)
      → IfOk r (λ d. d ≡ false → IfSome value (λ w. at_once (listed a) (Push w) ≡ false))
  not_joined (Ok d) P wide refused = λ is. rw told (not_pushed a v (λ room. wide (refused is room)))
  not_joined (Err e) P wide refused = tt

-- ---- what is taken out

pub takes : (told : Immediate) (thing now : Thing) (act : Act) → (told ≡ immediate.Other → ⊥) → now ≡ becomes thing act → DoesTake (value_told told) thing act now
takes immediate.Nil thing now act some is = is
takes immediate.False thing now act some is = is
takes immediate.True thing now act some is = is
takes (immediate.Int n) thing now act some is = is
takes immediate.Other thing now act some is = absurd (some refl)

-- ---- from what a cell refuses to what an id has

pub some_each : (o : Option Val) (P Q : Val → Type 0) → ((v : Val) → P v → Q v) → IfSome o P → IfSome o Q
some_each None P Q each so = tt
some_each (Some v) P Q each so = each v so

pub ok_each : {E : Type 0} (r : Result Bool E) (o : Option Val) (P Q : Val → Type 0) → ((v : Val) → P v → Q v) → IfOk r (λ d. d ≡ false → IfSome o P) → IfOk r (λ d. d ≡ false → IfSome o Q)
ok_each (Ok d) o P Q each so = λ is. some_each o P Q each (so is)
ok_each (Err e) o P Q each so = tt
