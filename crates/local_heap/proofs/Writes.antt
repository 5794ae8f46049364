-- Writes to lists, from the words of their storage to those of things.
use Rattle.std.proofs.Common.{◌≡◌, ◌≢◌, ℕ, ◌-◌, ◌<◌, ◌≤◌, Bool, true, false, List, [], ◌∷◌, ◌++◌, map, length, replicate, Option, Some, None, Ok, Err, OnOk, OnErr, refl, ap, sym, ◌∙◌, subst, inl, inr, arith}
use Rattle.std.specs.Prelude.{ℤ, All, IsSomeAnd, ◌↔◌, Result, nat_lt, not, slice_set, ◌||◌}
use Rattle.std.specs.List.{list_all}
use Rattle.std.proofs.lemmas.Bool.{le-ltb, lt-ltb, ltb-true, ltb-false}
use Rattle.std.proofs.lemmas.List.{map-set, map_push}
use Rattle.std.proofs.lemmas.List.Elements.{All-tail}
use Rattle.typed_location.specs.declared.flag.Flag.{Flag}
use Rattle.typed_location.specs.declared.flag.Flag.TheVariants as flags
use Rattle.array_strategy.specs.Elements.{Elements as Stored, IsFlagBy, IsIntegerBy, IsSetAt, Widens, place_of, pushed, put_at, unshifted, with_item}
use Rattle.array_strategy.specs.declared.fault.PutFault.{PutFault}
use Rattle.array_strategy.specs.declared.fault.PutFault.TheVariants.{TooSmall, TooLong, Memory}
use Rattle.array_strategy.proofs.Places.{map-filled, with_item-within, with_item-beyond}
use Rattle.rb_model.specs.declared.act.Reply.{Reply as Answered}
use Rattle.rb_model.specs.declared.value.Value.{Value as Held}
use Rattle.rb_model.specs.declared.value.Value.TheVariants as held
use Rattle.rb_model.specs.Flags.{flag_in, value_of}
use Rattle.rb_model.specs.Integers.{integer_in}
use Rattle.rb_model.specs.Values.{Value as Val, Nil, plain}
use Rattle.rb_model.specs.Doing.{said}
use Rattle.rb_model.specs.Acts.{Done, Push, Put, Unshift}
use Rattle.rb_model.specs.Things.{Elements, becomes, gives, has_room, index_of, is_integer, put_reply, put, with_element}
use Rattle.local_heap.specs.Memory.{is_flag, put_wants, widens}
use Rattle.local_heap.specs.Contents.{Does, DoesWrite, Tells, listed}
use Rattle.local_heap.proofs.Listing.{place_is, as_long}

-- ---- one element more

module _ {E : Type 0} (a a' : Stored Held) (v : Held) (done : Result Unit PutFault) (result : Result Answered E)
    (full : (done ≡ Err TooLong) ↔ (length a.items ≡ 16777216)) (room : done ≢ Err TooLong → length a.items < 16777216)
    (cause : done ≢ Err TooSmall) (kept : OnErr done (a' ≡ a)) (tells : Tells done result) where
  abbrev count : ℕ
  count = length (map plain a.items)

  has_more : done ≢ Err TooLong → has_room count ≡ true
  has_more not_full = ap has_room (as_long a.items) ∙ lt-ltb (length a.items) 16777216 (room not_full)

  has_none : done ≡ Err TooLong → has_room count ≡ false
  has_none is = ap has_room (as_long a.items) ∙ le-ltb (length a.items) 16777216 (let e = full.0 is in omega (arith, e))

  pub does_push : OnOk done (a' ≡ pushed integer_in a v) → Does (listed a) (Push (plain v)) result (listed a')
  does_push more = by done result refl tells kept more
    where
      by : (d : Result Unit PutFault) (r : Result Answered E) → done ≡ d → Tells d r → OnErr d (a' ≡ a) → OnOk d (a' ≡ pushed integer_in a v) → Does (listed a) (Push (plain v)) r (listed a')
      by (Ok u) (Ok reply) is t k m = let room_is = has_more (λ e. cc) in rw room_is (t, ap listed m ∙ ap Elements (map_push plain a.items v))
      by (Ok u) (Err e) is t k m = absurd t
      by (Err TooSmall) r is t k m = absurd (cause is)
      by (Err TooLong) (Ok reply) is t k m = rw (has_none is) (t, ap listed k)
      by (Err TooLong) (Err e) is t k m = absurd t
      by (Err Memory) (Ok reply) is t k m = absurd t
      by (Err Memory) (Err e) is t k m = (ap listed k, has_more (λ e. cc))

  pub does_unshift : OnOk done (a' ≡ unshifted integer_in a v) → Does (listed a) (Unshift (plain v)) result (listed a')
  does_unshift more = by done result refl tells kept more
    where
      by : (d : Result Unit PutFault) (r : Result Answered E) → done ≡ d → Tells d r → OnErr d (a' ≡ a) → OnOk d (a' ≡ unshifted integer_in a v) → Does (listed a) (Unshift (plain v)) r (listed a')
      by (Ok u) (Ok reply) is t k m = let room_is = has_more (λ e. cc) in rw room_is (t, ap listed m)
      by (Ok u) (Err e) is t k m = absurd t
      by (Err TooSmall) r is t k m = absurd (cause is)
      by (Err TooLong) (Ok reply) is t k m = rw (has_none is) (t, ap listed k)
      by (Err TooLong) (Err e) is t k m = absurd t
      by (Err Memory) (Ok reply) is t k m = absurd t
      by (Err Memory) (Err e) is t k m = (ap listed k, has_more (λ e. cc))

-- ---- an element at an index

module _ (xs : List Held) (n : ℕ) (v : Held) where
  abbrev vs : List Val
  vs = map plain xs

  within : (b : Bool) → nat_lt n (length vs) ≡ b → map plain (with_item xs n v held.Nil) ≡ with_element vs n (plain v)
  within true is =
      let lt : n < length xs = ltb-true n (length xs) (ap (nat_lt n) (sym (as_long xs)) ∙ is) in
      rw is (ap (map plain) (with_item-within xs n v held.Nil lt) ∙ map-set plain xs n v)
  within false is =
      let le : length xs ≤ n = ltb-false n (length xs) (ap (nat_lt n) (sym (as_long xs)) ∙ is) in
      rw is
      (ap (map plain) (with_item-beyond xs n v held.Nil le)
      ∙ map-filled plain xs (n - length xs) held.Nil v
      ∙ ap (λ k. vs ++ replicate (n - k) Nil ++ plain v ∷ []) (sym (as_long xs)))

  pub put_in : map plain (with_item xs n v held.Nil) ≡ with_element vs n (plain v)
  put_in = within (nat_lt n (length vs)) refl

all_integers : (xs : List Held) → All (IsIntegerBy held.Int) xs → list_all is_integer (map plain xs) ≡ true
all_integers [] all = refl
all_integers (x ∷ xs) all =
    let first = all 0 x (omega arith) in
    let head : is_integer (plain x) ≡ true = ap (λ (w : Held). is_integer (plain w)) first.1 in
    rw head (all_integers xs (All-tail (IsIntegerBy held.Int) x xs all))

flag_is : (f : Flag) → is_flag (plain (value_of f)) ≡ true
flag_is flags.Nil = refl
flag_is flags.False = refl
flag_is flags.True = refl

all_flags : (xs : List Held) → All (IsFlagBy value_of) xs → list_all is_flag (map plain xs) ≡ true
all_flags [] all = refl
all_flags (x ∷ xs) all =
    let first = all 0 x (omega arith) in
    let head : is_flag (plain x) ≡ true = ap (λ (w : Held). is_flag (plain w)) first.1 ∙ flag_is first.0 in
    rw head (all_flags xs (All-tail (IsFlagBy value_of) x xs all))

no_integer : (v : Held) → integer_in v ≡ None → is_integer (plain v) ≡ false
no_integer held.Nil e = refl
no_integer held.False e = refl
no_integer held.True e = refl
no_integer (held.Int n) e = absurd (cc)
no_integer (held.Sym s) e = refl
no_integer (held.Str t) e = refl
no_integer (held.Ref r) e = refl

no_flag : (v : Held) → flag_in v ≡ None → is_flag (plain v) ≡ false
no_flag held.Nil e = absurd (cc)
no_flag held.False e = absurd (cc)
no_flag held.True e = absurd (cc)
no_flag (held.Int n) e = refl
no_flag (held.Sym s) e = refl
no_flag (held.Str t) e = refl
no_flag (held.Ref r) e = refl

or_true : (b : Bool) → (b || true) ≡ true
or_true true = refl
or_true false = refl

-- a write within a list that was refused memory
pub wider : (a : Stored Held) (v : Held) → Widens held.Int integer_in value_of flag_in a v → widens (map plain a.items) (plain v) ≡ true
wider a v (inl (raw, other)) = rw (no_integer v other, all_integers a.items raw.items) refl
wider a v (inr (flags, other)) = rw (no_flag v other, all_flags a.items flags.items) (or_true _)

module _ {E : Type 0} (a a' : Stored Held) (v : Held) (done : Result Unit PutFault) (result : Result Answered E) (p : Option ℕ)
    (done_is : OnOk done (IsSomeAnd p (λ j. a' ≡ put_at integer_in a j v held.Nil)))
    (small : (done ≡ Err TooSmall) ↔ (p ≡ None)) (long : (done ≡ Err TooLong) ↔ IsSomeAnd p (λ j. 16777216 ≤ j))
    (memory : done ≡ Err Memory → IsSomeAnd p (λ j. j < length a.items → Widens held.Int integer_in value_of flag_in a v))
    (kept : OnErr done (a' ≡ a)) (tells : Tells done result) where
  abbrev elements : List Val
  elements = map plain a.items

  -- what is asked for at a place
  abbrev DoesAt : Result Answered E → Option ℕ → Type 0
  DoesAt (Ok reply) place = (said reply ≡ put_reply place) × (listed a' ≡ Elements (put elements place (plain v)))
  DoesAt (Err refused) place = (listed a' ≡ Elements elements) × (put_wants elements place (plain v) ≡ true)

  abbrev Known : Option ℕ → Result Unit PutFault → Result Answered E → Type 0
  Known q d r = (p ≡ q) × (done ≡ d) × Tells d r × OnErr d (a' ≡ a) × OnOk d (IsSomeAnd q (λ j. a' ≡ put_at integer_in a j v held.Nil))

  below : (n : ℕ) → p ≡ Some n → done ≢ Err TooLong → nat_lt n 16777216 ≡ true
  below n at not_long = by (nat_lt n 16777216) refl
    where
      by : (b : Bool) → nat_lt n 16777216 ≡ b → nat_lt n 16777216 ≡ true
      by true e = e
      by false e = absurd (not_long (long.1 (subst (λ q. IsSomeAnd q (λ j. 16777216 ≤ j)) (sym at) (ltb-false n 16777216 e))))

  beyond : (n : ℕ) → p ≡ Some n → done ≡ Err TooLong → nat_lt n 16777216 ≡ false
  beyond n at is = le-ltb n 16777216 (subst (λ q. IsSomeAnd q (λ j. 16777216 ≤ j)) at (long.0 is))

  wants : (n : ℕ) → p ≡ Some n → done ≡ Err Memory → put_wants elements (Some n) (plain v) ≡ true
  wants n at is = rw (below n at (λ e. let z : Err Memory ≡ Err TooLong = sym is ∙ e in cc)) (by (nat_lt n (length elements)) refl)
    where
      by : (b : Bool) → nat_lt n (length elements) ≡ b → (not b || widens elements (plain v)) ≡ true
      by false e = refl
      by true e =
          let lt : n < length a.items = ltb-true n (length a.items) (ap (nat_lt n) (sym (as_long a.items)) ∙ e) in
          wider a v (subst (λ q. IsSomeAnd q (λ j. j < length a.items → Widens held.Int integer_in value_of flag_in a v)) at (memory is) lt)

  by : (q : Option ℕ) (d : Result Unit PutFault) (r : Result Answered E) → Known q d r → DoesAt r q
  by None (Err TooSmall) (Ok reply) k = (k.2, ap listed k.3)
  by None (Ok u) r k = absurd (let z : Ok u ≡ Err TooSmall = sym k.1 ∙ small.1 k.0 in cc)
  by None (Err TooLong) r k = absurd (let z : Err TooLong ≡ Err TooSmall = sym k.1 ∙ small.1 k.0 in cc)
  by None (Err Memory) r k = absurd (let z : Err Memory ≡ Err TooSmall = sym k.1 ∙ small.1 k.0 in cc)
  by (Some n) (Ok u) (Ok reply) k = rw (below n k.0 (λ e. let z : Ok u ≡ Err TooLong = sym k.1 ∙ e in cc)) (k.2, ap listed k.4 ∙ ap Elements (put_in a.items n v))
  by None (Err TooSmall) (Err e) k = absurd k.2
  by (Some n) (Ok u) (Err e) k = absurd k.2
  by (Some n) (Err TooLong) (Err e) k = absurd k.2
  by (Some n) (Err Memory) (Ok reply) k = absurd k.2
  by (Some n) (Err TooSmall) r k = absurd (let z : Some n ≡ None = sym k.0 ∙ small.0 k.1 in cc)
  by (Some n) (Err TooLong) (Ok reply) k = rw (beyond n k.0 k.1) (k.2, ap listed k.3)
  by (Some n) (Err Memory) (Err e) k = (ap listed k.3, wants n k.0 k.1)

  as_asked : (r : Result Answered E) (i : ℤ) → DoesAt r (index_of (length elements) i) → Does (listed a) (Put i (plain v)) r (listed a')
  as_asked (Ok reply) i does = does
  as_asked (Err refused) i does = does

  pub does_put : (i : ℤ) → p ≡ place_of i (length a.items) → Does (listed a) (Put i (plain v)) result (listed a')
  does_put i is =
      let same : p ≡ index_of (length elements) i = is ∙ place_is i (length a.items) ∙ ap (λ n. index_of n i) (sym (as_long a.items)) in
      as_asked result i (subst (λ q. DoesAt result q) same (by p done result (refl, refl, tells, kept, done_is)))

-- ---- an element that gives way to a value in its place

module _ (a a' : Stored Held) (i : ℤ) (v : Held) (few : length a.items ≤ 16777216) where
  abbrev before : List Val
  before = map plain a.items

  sets_element : IsSetAt a.items i v a'.items → (Done ≡ gives (listed a) (Put i (plain v))) × (listed a' ≡ becomes (listed a) (Put i (plain v)))
  sets_element is =
      subst (λ o. (Done ≡ put_reply o) × (listed a' ≡ Elements (put before o (plain v))))
      (place_is i (length a.items) ∙ ap (λ n. index_of n i) (sym (as_long a.items)))
      (by (place_of i (length a.items)) is)
    where
      by : (o : Option ℕ) → IsSomeAnd o (λ j. (j < length a.items) × (a'.items ≡ slice_set a.items j v)) → (Done ≡ put_reply o) × (listed a' ≡ Elements (put before o (plain v)))
      by None e = absurd e
      by (Some n) e =
          let below = e.0 in
          let room : nat_lt n 16777216 ≡ true = lt-ltb n 16777216 (omega (arith, below, few)) in
          let there : nat_lt n (length before) ≡ true = lt-ltb n (length before) (subst (λ k. n < k) (sym (as_long a.items)) below) in
          rw (room, there) (refl, ap (λ ys. Elements (map plain ys)) e.1 ∙ ap Elements (map-set plain a.items n v))

  pub does_set : (done : Bool) (value : Option Val) → value ≡ Some (plain v) → (done ≡ true → IsSetAt a.items i v a'.items) → (done ≡ false → a' ≡ a) → DoesWrite done (listed a) (Put i) value (listed a')
  does_set true value told set kept = rw told (sets_element (set refl))
  does_set false value told set kept = ap listed (kept refl)
