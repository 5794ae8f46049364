-- What lists do, from the words of their storage to those of things.
use Rattle.std.proofs.Common.{◌≡◌, ℕ, zero, suc, ◌-◌, true, List, [], ◌∷◌, map, length, take, drop, replicate, slice_get, Option, Some, None, refl, ap, sym, ◌∙◌, arith}
use Rattle.std.specs.Prelude.{ℤ, pos, negsuc, IsSomeAnd, nat_lt}
use Rattle.std.specs.List.{remove}
use Rattle.std.specs.Option.{option_map}
use Rattle.std.proofs.lemmas.Grind.{common_steps}
use Rattle.std.proofs.lemmas.Bool.{lt-ltb}
use Rattle.std.proofs.lemmas.List.{append-nil, drop_all, length-map, take-map, drop-map}
use Rattle.std.proofs.lemmas.Option.{slice_get-map}
use Rattle.array_strategy.specs.Elements.{place_of, item_at, without_item}
use Rattle.array_strategy.proofs.Places.{map-replicate}
use Rattle.rb_model.specs.declared.value.Value.{Value as Held}
use Rattle.rb_model.specs.Values.{Value as Val, Reference, plain, or_nil, is_text}
use Rattle.rb_model.specs.declared.immediate.Immediate.{Immediate}
use Rattle.rb_model.specs.Immediates.{list_replied, told, told_reply}
use Rattle.rb_model.specs.Flags.{value_of}
use Rattle.typed_location.specs.declared.flag.Flag.{Flag}
use Rattle.typed_location.specs.declared.flag.Flag.TheVariants as flag
use Rattle.local_heap.specs.Memory.{may_want}
use Rattle.rb_model.specs.Acts.{At, Pop, Shift, DeleteAt}
use Rattle.rb_model.specs.Acts as reply
use Rattle.rb_model.specs.Things.{Elements, becomes, gives, element, index_of, last_place, without_element}

pub place_is : (i : ℤ) (n : ℕ) → place_of i n ≡ index_of n i
place_is (pos k) n = refl
place_is (negsuc k) n = refl

pub no_items : {X : Type 0} (ys : List X) → length ys ≡ 0 → ys ≡ []
no_items [] e = refl
no_items (y ∷ ys) e = absurd (cc)

-- so many times a value, as the definitions know it
pub plain_repeated : (n : ℕ) (value : Held) → map plain (replicate n value) ≡ replicate n (plain value)
plain_repeated n value = map-replicate plain n value

module _ (xs : List Held) where
  abbrev vs : List Val
  vs = map plain xs

  pub as_long : length vs ≡ length xs
  as_long = length-map xs plain

  pub got : (n : ℕ) → or_nil (option_map plain (slice_get xs n)) ≡ element vs (Some n)
  got n = ap or_nil (sym (slice_get-map plain xs n))

  -- the item at an index
  pub at_index : (i : ℤ) → or_nil (option_map plain (item_at xs i)) ≡ element vs (index_of (length vs) i)
  at_index i = by (place_of i (length xs)) refl ∙ ap (element vs) (place_is i (length xs) ∙ ap (λ n. index_of n i) (sym as_long))
    where
      by : (p : Option ℕ) → place_of i (length xs) ≡ p → or_nil (option_map plain (item_at xs i)) ≡ element vs (place_of i (length xs))
      by None e = rw e refl
      by (Some n) e = rw e (got n)

  -- the items without the one at an index
  pub out_of : (i : ℤ) → map plain (without_item xs i) ≡ without_element vs (index_of (length vs) i)
  out_of i = by (place_of i (length xs)) refl ∙ ap (without_element vs) (place_is i (length xs) ∙ ap (λ n. index_of n i) (sym as_long))
    where
      removed : (n : ℕ) → map plain (remove xs n) ≡ without_element vs (Some n)
      removed n = grind (arith, common_steps, take-map, drop-map)

      by : (p : Option ℕ) → place_of i (length xs) ≡ p → map plain (without_item xs i) ≡ without_element vs (place_of i (length xs))
      by None e = rw e refl
      by (Some n) e = rw e (removed n)

  -- what is taken out
  pub deleted : (i : ℤ) (found : Option Held) (value : Held) (ys : List Held) → found ≡ item_at xs i → plain value ≡ or_nil (option_map plain found) → ys ≡ without_item xs i
      → (reply.Value (plain value) ≡ gives (Elements vs) (DeleteAt i)) × (Elements (map plain ys) ≡ becomes (Elements vs) (DeleteAt i))
  deleted i found value ys taken is rest = (
    ap reply.Value (is ∙ ap (λ o. or_nil (option_map plain o)) taken ∙ at_index i),
    ap Elements (ap (map plain) rest ∙ out_of i),
  )

  last_of : (n : ℕ) → length vs ≡ n → element vs (Some (n - 1)) ≡ element vs (last_place n)
  last_of zero e = ap (λ ws. element ws (Some (0 - 1))) (no_items vs e)
  last_of (suc n) e = let some : nat_lt 0 (suc n) ≡ true = lt-ltb 0 (suc n) (omega arith) in rw some refl

  without_last : (n : ℕ) → length vs ≡ n → take (n - 1) vs ≡ without_element vs (last_place n)
  without_last zero e = no_items (take (0 - 1) vs) (grind (arith, common_steps)) ∙ sym (no_items vs e)
  without_last (suc n) e =
      let some : nat_lt 0 (suc n) ≡ true = lt-ltb 0 (suc n) (omega arith) in
      let none : drop (suc (suc n - 1)) vs ≡ [] = drop_all (suc (suc n - 1)) vs (omega (arith, e)) in
      rw (some, none) (sym (append-nil (take (suc n - 1) vs)))

  pub rest_popped : (ys : List Held) → ys ≡ take (length xs - 1) xs → Elements (map plain ys) ≡ becomes (Elements vs) Pop
  rest_popped ys rest = ap Elements (ap (map plain) rest ∙ sym (take-map plain (length xs - 1) xs) ∙ ap (λ n. take (n - 1) vs) (sym as_long) ∙ without_last (length vs) refl)

  pub rest_shifted : (ys : List Held) → ys ≡ drop 1 xs → Elements (map plain ys) ≡ becomes (Elements vs) Shift
  rest_shifted ys rest = ap Elements (ap (map plain) rest ∙ sym (drop-map plain 1 xs))

  pub popped : (found : Option Held) (value : Held) (ys : List Held) → found ≡ slice_get xs (length xs - 1) → plain value ≡ or_nil (option_map plain found) → ys ≡ take (length xs - 1) xs
      → (reply.Value (plain value) ≡ gives (Elements vs) Pop) × (Elements (map plain ys) ≡ becomes (Elements vs) Pop)
  popped found value ys taken is rest = (
    ap reply.Value (is ∙ ap (λ o. or_nil (option_map plain o)) taken ∙ got (length xs - 1) ∙ ap (λ n. element vs (Some (n - 1))) (sym as_long) ∙ last_of (length vs) refl),
    rest_popped ys rest,
  )

  pub shifted : (found : Option Held) (value : Held) (ys : List Held) → found ≡ slice_get xs 0 → plain value ≡ or_nil (option_map plain found) → ys ≡ drop 1 xs
      → (reply.Value (plain value) ≡ gives (Elements vs) Shift) × (Elements (map plain ys) ≡ becomes (Elements vs) Shift)
  shifted found value ys taken is rest = (
    ap reply.Value (is ∙ ap (λ o. or_nil (option_map plain o)) taken ∙ got 0),
    rest_shifted ys rest,
  )

-- ---- a read

found_at : (xs : List Held) (i : ℤ) → IsSomeAnd (item_at xs i) (λ v. is_text (plain v) ≡ true) → is_text (or_nil (option_map plain (item_at xs i))) ≡ true
found_at xs i some = by (item_at xs i) some
  where
    by : (o : Option Held) → IsSomeAnd o (λ v. is_text (plain v) ≡ true) → is_text (or_nil (option_map plain o)) ≡ true
    by None e = absurd e
    by (Some v) e = e

pub reads : (xs : List Held) (i : ℤ) (found : Option Held) (value : Held) → found ≡ item_at xs i → plain value ≡ or_nil (option_map plain found)
    → reply.Value (plain value) ≡ gives (Elements (map plain xs)) (At i)
reads xs i found value taken is = ap reply.Value (is ∙ ap (λ o. or_nil (option_map plain o)) taken ∙ at_index xs i)

pub reads_told : (xs : List Held) (i : ℤ) (found : Option Held) (answer : Immediate) → found ≡ item_at xs i → answer ≡ told (or_nil (option_map plain found))
    → answer ≡ told_reply (gives (Elements (map plain xs)) (At i))
reads_told xs i found answer taken is = is ∙ ap (λ o. told (or_nil (option_map plain o))) taken ∙ ap told (at_index xs i)

-- nil and truth values are no lists
pub no_list : (f : Flag) → None ≡ list_replied (reply.Value (plain (value_of f)))
no_list flag.Nil = refl
no_list flag.False = refl
no_list flag.True = refl

pub reads_list : (xs : List Held) (i : ℤ) (found : Option Held) (answer : Option Reference) → found ≡ item_at xs i → answer ≡ list_replied (reply.Value (or_nil (option_map plain found)))
    → answer ≡ list_replied (gives (Elements (map plain xs)) (At i))
reads_list xs i found answer taken is = is ∙ ap (λ o. list_replied (reply.Value (or_nil (option_map plain o)))) taken ∙ ap (λ v. list_replied (reply.Value v)) (at_index xs i)

pub read_wants : (xs : List Held) (i : ℤ) → IsSomeAnd (item_at xs i) (λ v. is_text (plain v) ≡ true) → may_want (Elements (map plain xs)) (At i) ≡ true
read_wants xs i some = ap is_text (sym (at_index xs i)) ∙ found_at xs i some
