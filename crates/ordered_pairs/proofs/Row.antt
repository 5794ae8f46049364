-- Pairs in a row: where a key stands in it, and what is done there.
use Rattle.std.proofs.Common.{◌≡◌, ℕ, zero, suc, ◌<◌, ◌≤◌, ◌+◌, Bool, true, false, List, [], ◌∷◌, ◌++◌, length, map, take, drop, get_or, Option, Some, None, refl, sym, ap, ◌∙◌, subst, arith, add-one, drop-cons}
use Rattle.std.specs.Prelude.{◌||◌, is_some, IfSome}
use Rattle.std.specs.List.{AllByRecursion, IsDistinct, remove, slice_set}
use Rattle.std.proofs.lemmas.List.{append_assoc, append-nil, drop_all, length-append, length-map, map-append, map_more, take_all}
use Rattle.std.proofs.lemmas.Bool.{ltb-true}
use Rattle.rb_model.specs.Values.{Value as Val, plain, same}
use Rattle.rb_model.specs.declared.value.Value.{Value as Held}
use Rattle.rb_model.specs.Things.{has_key, key_of, value_at, with_pair, without_key, gathered, gathered_onto, may_put}
use Rattle.ordered_pairs.specs.Order.{pair_of}
use Rattle.ordered_pairs.specs.Few.{AreFew, StandsAt}
use Rattle.ordered_pairs.proofs.Ordered.{comes_last}

-- two tests of which none passes
neither : (a b : Bool) → (a || b) ≡ false → (a ≡ false) × (b ≡ false)
neither true b h = absurd (cc)
neither false b h = (refl, h)

no_pass : (a b : Bool) → a ≡ false → b ≡ false → (a || b) ≡ false
no_pass a b e h = rw e h

module _ (key : Val) where
  -- the key is at none of the first pairs, so it is first at this one
  pub stands_here : (n : ℕ) (items : List (Held × Held)) (e : Held × Held) → n < length items → e ≡ get_or items n e
      → has_key key (map pair_of (take n items)) ≡ false → same (plain e.0) key ≡ true → StandsAt key n (map pair_of items)
  stands_here n [] e lt is none h = absurd (omega (arith, lt))
  stands_here zero (x ∷ xs) e lt is none h = subst (λ (y : Held × Held). same (plain y.0) key ≡ true) is h
  stands_here (suc n) (x ∷ xs) e lt is none h =
      let parts = neither (same (plain x.0) key) (has_key key (map pair_of (take n xs))) none in
      (parts.0, stands_here n xs e (omega (arith, lt)) is parts.1 h)

  -- the key is not at the next pair either
  pub passed_more : (n : ℕ) (items : List (Held × Held)) (e : Held × Held) → n < length items → e ≡ get_or items n e
      → has_key key (map pair_of (take n items)) ≡ false → same (plain e.0) key ≡ false → has_key key (map pair_of (take (suc n) items)) ≡ false
  passed_more n [] e lt is none h = absurd (omega (arith, lt))
  passed_more zero (x ∷ xs) e lt is none h = no_pass _ _ (subst (λ (y : Held × Held). same (plain y.0) key ≡ false) is h) refl
  passed_more (suc n) (x ∷ xs) e lt is none h =
      let parts = neither (same (plain x.0) key) (has_key key (map pair_of (take n xs))) none in
      no_pass _ _ parts.0 (passed_more n xs e (omega (arith, lt)) is parts.1 h)

  stands_within : (n : ℕ) (ps : List (Val × Val)) → StandsAt key n ps → n < length ps
  stands_within n [] h = absurd h
  stands_within zero (p ∷ ps) h = omega arith
  stands_within (suc n) (p ∷ ps) h = let within = stands_within n ps h.1 in omega (arith, within)

  pub stands_there : (n : ℕ) (ps : List (Val × Val)) → StandsAt key n ps → has_key key ps ≡ true
  stands_there n [] h = absurd h
  stands_there zero (p ∷ ps) h = rw h refl
  stands_there (suc n) (p ∷ ps) h = rw h.0 (stands_there n ps h.1)

  -- the value, what the row is with another one, and what it is without the pair
  stands_value : (n : ℕ) (items : List (Held × Held)) (e : Held × Held) → StandsAt key n (map pair_of items) → e ≡ get_or items n e → plain e.1 ≡ value_at key (map pair_of items)
  stands_value n [] e h is = absurd h
  stands_value zero (x ∷ xs) e h is = rw h (ap (λ (y : Held × Held). plain y.1) is)
  stands_value (suc n) (x ∷ xs) e h is = rw h.0 (stands_value n xs e h.1 is)

  set_there : (n : ℕ) (items : List (Held × Held)) (e : Held × Held) (v : Held) → StandsAt key n (map pair_of items) → e ≡ get_or items n e
      → map pair_of (slice_set items n (e.0, v)) ≡ with_pair key (plain v) (map pair_of items)
  set_there n [] e v h is = absurd h
  set_there zero (x ∷ xs) e v h is = rw h (ap (λ (y : Held × Held). (plain y.0, plain v) ∷ map pair_of xs) is)
  set_there (suc n) (x ∷ xs) e v h is = rw h.0 (ap (λ ps. pair_of x ∷ ps) (set_there n xs e v h.1 is))

  taken_out : (n : ℕ) (items : List (Held × Held)) → StandsAt key n (map pair_of items) → map pair_of (remove items n) ≡ without_key key (map pair_of items)
  taken_out n [] h = absurd h
  taken_out zero (x ∷ xs) h = rw h refl
  taken_out (suc n) (x ∷ xs) h = rw h.0 (ap (λ ps. pair_of x ∷ ps) (taken_out n xs h.1))

  -- it is at none of all pairs
  pub none_here : (n : ℕ) (items : List (Held × Held)) → length items ≤ n → has_key key (map pair_of (take n items)) ≡ false → has_key key (map pair_of items) ≡ false
  none_here n items le none = ap (λ l. has_key key (map pair_of l)) (sym (take_all n items le)) ∙ none

-- ---- no key stands twice

-- the keys of a row stay those that they are where one has another value
same_keys : (key v : Val) (ps : List (Val × Val)) → has_key key ps ≡ true → map key_of (with_pair key v ps) ≡ map key_of ps
same_keys key v [] h = absurd (cc)
same_keys key v (p ∷ ps) h = (elim (same p.0 key) as (λ t. same p.0 key ≡ t → map key_of (with_pair key v (p ∷ ps)) ≡ map key_of (p ∷ ps)) [
  | true ↦ λ q. rw q refl
  | false ↦ λ q. rw q (ap (λ l. p.0 ∷ l) (same_keys key v ps (rw q at h)))
]) refl

as_many : (key v : Val) (ps : List (Val × Val)) → has_key key ps ≡ true → length (with_pair key v ps) ≡ length ps
as_many key v [] h = absurd (cc)
as_many key v (p ∷ ps) h = (elim (same p.0 key) as (λ t. same p.0 key ≡ t → length (with_pair key v (p ∷ ps)) ≡ length (p ∷ ps)) [
  | true ↦ λ q. rw q refl
  | false ↦ λ q. rw q (ap suc (as_many key v ps (rw q at h)))
]) refl

pub few_put : (key v : Val) (ps : List (Val × Val)) → has_key key ps ≡ true → AreFew ps → AreFew (with_pair key v ps)
few_put key v ps there few = (
  subst (IsDistinct same) (sym (same_keys key v ps there)) few.0,
  subst (λ n. n ≤ 8) (sym (as_many key v ps there)) few.1,
)

-- what differs from all keys differs from all keys of fewer
all_without : (x key : Val) (ps : List (Val × Val)) → AllByRecursion (λ y. same x y ≡ false) (map key_of ps) → AllByRecursion (λ y. same x y ≡ false) (map key_of (without_key key ps))
all_without x key [] all = tt
all_without x key (p ∷ ps) all = (elim (same p.0 key) as (λ t. same p.0 key ≡ t → AllByRecursion (λ y. same x y ≡ false) (map key_of (without_key key (p ∷ ps)))) [
  | true ↦ λ q. rw q all.1
  | false ↦ λ q. rw q (all.0, all_without x key ps all.1)
]) refl

distinct_without : (key : Val) (ps : List (Val × Val)) → IsDistinct same (map key_of ps) → IsDistinct same (map key_of (without_key key ps))
unfolding IsDistinct
distinct_without key [] d = tt
distinct_without key (p ∷ ps) d = (elim (same p.0 key) as (λ t. same p.0 key ≡ t → IsDistinct same (map key_of (without_key key (p ∷ ps)))) [
  | true ↦ λ q. rw q d.1
  | false ↦ λ q. rw q (all_without p.0 key ps d.0, distinct_without key ps d.1)
]) refl

not_more : (key : Val) (ps : List (Val × Val)) → length (without_key key ps) ≤ length ps
not_more key [] = omega arith
not_more key (p ∷ ps) = (elim (same p.0 key) as (λ t. same p.0 key ≡ t → length (without_key key (p ∷ ps)) ≤ length (p ∷ ps)) [
  | true ↦ λ q. rw q (omega arith)
  | false ↦ λ q. rw q (let rest = not_more key ps in omega (arith, rest))
]) refl

pub few_without : (key : Val) (ps : List (Val × Val)) → AreFew ps → AreFew (without_key key ps)
few_without key ps few = (distinct_without key ps few.0, let less = not_more key ps in omega (arith, less, few.1))

all_added : (x key v : Val) (ps : List (Val × Val)) → AllByRecursion (λ y. same x y ≡ false) (map key_of ps) → same x key ≡ false → AllByRecursion (λ y. same x y ≡ false) (map key_of (ps ++ (key, v) ∷ []))
all_added x key v [] all h = (h, tt)
all_added x key v (p ∷ ps) all h = (all.0, all_added x key v ps all.1 h)

distinct_added : (key v : Val) (ps : List (Val × Val)) → has_key key ps ≡ false → IsDistinct same (map key_of ps) → IsDistinct same (map key_of (ps ++ (key, v) ∷ []))
unfolding IsDistinct
distinct_added key v [] none d = (tt, tt)
distinct_added key v (p ∷ ps) none d =
    let parts = neither (same p.0 key) (has_key key ps) none in
    (all_added p.0 key v ps d.0 parts.0, distinct_added key v ps parts.1 d.1)

pub few_added : (key v : Val) (ps : List (Val × Val)) → has_key key ps ≡ false → length ps < 8 → AreFew ps → AreFew (ps ++ (key, v) ∷ [])
few_added key v ps none room few = (
  distinct_added key v ps none few.0,
  let long : length (ps ++ (key, v) ∷ []) ≡ length ps + 1 = length-append ps ((key, v) ∷ []) in omega (arith, long, room),
)

-- the key of the next pair is at none of the pairs before it
pub distinct_more : (n : ℕ) (items : List (Held × Held)) (e : Held × Held) → n < length items → e ≡ get_or items n e
    → IsDistinct same (map key_of (map pair_of (take n items))) → has_key (plain e.0) (map pair_of (take n items)) ≡ false → IsDistinct same (map key_of (map pair_of (take (n + 1) items)))
distinct_more n items e lt is distinct none =
    let more : map pair_of (take (n + 1) items) ≡ map pair_of (take n items) ++ pair_of e ∷ [] =
    map_more pair_of items n e lt ∙ ap (λ x. map pair_of (take n items) ++ pair_of x ∷ []) (sym is) in
    subst (λ ps. IsDistinct same (map key_of ps)) (sym more) (distinct_added (plain e.0) (plain e.1) (map pair_of (take n items)) none distinct)

pub distinct_none : IsDistinct same (map key_of [])
unfolding IsDistinct
distinct_none = tt

pub few_none : AreFew []
unfolding IsDistinct
few_none = (tt, omega arith)

-- where a pair may be put, there are not too many with it
pub put_fits : (key v : Val) (ps : List (Val × Val)) → may_put key ps ≡ true → length ps ≤ 16777216 → length (with_pair key v ps) ≤ 16777216
put_fits key v ps may fits = by (has_key key ps) refl
  where
    by : (t : Bool) → has_key key ps ≡ t → length (with_pair key v ps) ≤ 16777216
    by true there = subst (λ n. n ≤ 16777216) (sym (as_many key v ps there)) fits
    by false none =
        let room : length ps < 16777216 = ltb-true (length ps) 16777216 (rw none at may) in
        let long : length (ps ++ (key, v) ∷ []) ≡ length ps + 1 = length-append ps ((key, v) ∷ []) in
        subst (λ l. length l ≤ 16777216) (sym (comes_last key v ps none)) (omega (arith, long, room))

-- ---- pairs that are put one after the other

-- the key behind others that are distinct from it is not among them
not_before : (qs : List (Val × Val)) (p : Val × Val) (ps : List (Val × Val)) → IsDistinct same (map key_of (qs ++ p ∷ ps)) → has_key p.0 qs ≡ false
unfolding IsDistinct
not_before [] p ps d = refl
not_before (q ∷ qs) p ps d = no_pass _ _ (differs qs d.0) (not_before qs p ps d.1)
  where
    differs : (rs : List (Val × Val)) → AllByRecursion (λ y. same q.0 y ≡ false) (map key_of (rs ++ p ∷ ps)) → same q.0 p.0 ≡ false
    differs [] all = all.0
    differs (r ∷ rs) all = differs rs all.1

distinct_onto : (qs ps : List (Val × Val)) → IsDistinct same (map key_of (qs ++ ps)) → gathered_onto qs ps ≡ qs ++ ps
distinct_onto qs [] d = sym (append-nil qs)
distinct_onto qs (p ∷ ps) d =
    let last : with_pair p.0 p.1 qs ≡ qs ++ p ∷ [] = comes_last p.0 p.1 qs (not_before qs p ps d) in
    let moved : (qs ++ p ∷ []) ++ ps ≡ qs ++ p ∷ ps = append_assoc qs (p ∷ []) ps in
    ap (λ l. gathered_onto l ps) last
    ∙ distinct_onto (qs ++ p ∷ []) ps (subst (λ l. IsDistinct same (map key_of l)) (sym moved) d)
    ∙ moved

-- distinct pairs that are put one after the other are the pairs
pub distinct_gathered : (ps : List (Val × Val)) → IsDistinct same (map key_of ps) → gathered ps ≡ ps
distinct_gathered ps d = distinct_onto [] ps d

-- ---- a row whose pairs are these

module _ (key : Val) (items : List (Held × Held)) (ps : List (Val × Val)) (view : map pair_of items ≡ ps) where
  module _ (n : ℕ) (stands : StandsAt key n ps) where
    at_items : StandsAt key n (map pair_of items)
    at_items = subst (StandsAt key n) (sym view) stands

    pub place_within : (count : ℕ) → count ≡ length items → n < count
    place_within count is =
        let within : n < length (map pair_of items) = stands_within key n (map pair_of items) at_items in
        omega (arith, within, length-map items pair_of, is)

    pub place_value : (e : Held × Held) → e ≡ get_or items n e → plain e.1 ≡ value_at key ps
    place_value e is = stands_value key n items e at_items is ∙ ap (value_at key) view

    pub place_set : (e : Held × Held) (v : Held) → e ≡ get_or items n e → map pair_of (slice_set items n (e.0, v)) ≡ with_pair key (plain v) ps
    place_set e v is = set_there key n items e v at_items is ∙ ap (with_pair key (plain v)) view

    pub place_out : map pair_of (remove items n) ≡ without_key key ps
    place_out = taken_out key n items at_items ∙ ap (without_key key) view

-- no pair is left
pub none_left : {X : Type 0} (ys : List X) → length ys ≡ 0 → ys ≡ []
none_left [] e = refl
none_left (y ∷ ys) e = absurd (cc)

-- a key is there exactly where its place is told
pub has_place_told : (key : Val) (ps : List (Val × Val)) (place : Option ℕ) → IfSome place (λ n. StandsAt key n ps) → (place ≡ None → has_key key ps ≡ false) → is_some place ≡ has_key key ps
has_place_told key ps None there none = sym (none refl)
has_place_told key ps (Some n) there none = sym (stands_there key n ps there)

-- a copy of the pair at a place behind those of the pairs before it
pub copied_more : (n : ℕ) (items copies : List (Held × Held)) (e : Held × Held) (k v : Held) → n < length items → e ≡ get_or items n e → map pair_of copies ≡ map pair_of (take n items)
    → plain k ≡ plain e.0 → plain v ≡ plain e.1 → map pair_of (copies ++ (k, v) ∷ []) ≡ map pair_of (take (n + 1) items)
copied_more n items copies e k v lt is copied ks vs =
    let at : pair_of (k, v) ≡ pair_of e = ap (λ x. (x, plain v)) ks ∙ ap (λ y. (plain e.0, y)) vs in
    map-append pair_of copies ((k, v) ∷ [])
    ∙ ap (λ l. l ++ pair_of (k, v) ∷ []) copied
    ∙ ap (λ p. map pair_of (take n items) ++ p ∷ []) (at ∙ ap pair_of is)
    ∙ sym (map_more pair_of items n e lt)

-- the pair at a place is put behind those before it
pub gathered_more : (n : ℕ) (items : List (Held × Held)) (ps now : List (Val × Val)) (e : Held × Held) (k v : Held) → n < length items → e ≡ get_or items n e
    → gathered_onto ps (map pair_of (drop n items)) ≡ gathered (map pair_of items) → plain k ≡ plain e.0 → plain v ≡ plain e.1 → now ≡ with_pair (plain k) (plain v) ps
    → gathered_onto now (map pair_of (drop (n + 1) items)) ≡ gathered (map pair_of items)
gathered_more n items ps now e k v lt is kept ks vs put =
    let put_at : now ≡ with_pair (plain e.0) (plain e.1) ps = put ∙ ap (λ x. with_pair x (plain v) ps) ks ∙ ap (λ y. with_pair (plain e.0) y ps) vs in
    let left : drop n items ≡ e ∷ drop (suc n) items = drop-cons items n e lt ∙ ap (λ x. x ∷ drop (suc n) items) (sym is) in
    ap (λ m. gathered_onto now (map pair_of (drop m items))) (add-one n)
    ∙ ap (λ l. gathered_onto l (map pair_of (drop (suc n) items))) put_at
    ∙ sym (ap (λ l. gathered_onto ps (map pair_of l)) left)
    ∙ kept

pub gathered_all : (n : ℕ) (items : List (Held × Held)) (ps all : List (Val × Val)) → length items ≤ n → map pair_of items ≡ all → AreFew (map pair_of items)
    → gathered_onto ps (map pair_of (drop n items)) ≡ gathered (map pair_of items) → ps ≡ all
gathered_all n items ps all le view few kept =
    sym (ap (λ l. gathered_onto ps (map pair_of l)) (drop_all n items le)) ∙ kept ∙ distinct_gathered (map pair_of items) few.0 ∙ view
