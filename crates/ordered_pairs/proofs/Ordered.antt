-- What a list of entries, the newest first, says of the pairs in order.
use Rattle.std.proofs.Common.{◌≡◌, ℕ, ◌-◌, ◌<◌, ◌≤◌, Bool, true, false, cond, List, [], ◌∷◌, ◌++◌, length, map, Option, Some, None, Ok, Err, refl, sym, ap, ◌∙◌, arith}
use Rattle.std.specs.Borrow.{Bor}
use Rattle.std.specs.Prelude.{◌||◌, is_some, if◌then◌else◌, IfSome, Result, IsErrAnd}
use Rattle.std.specs.Option.{option_copied, option_map}
use Rattle.std.specs.List.{AllByRecursion, IsDistinct}
use Rattle.std.specs.Map.{keys_of, lookup, lookup_entry, remove_entry, set_value}
use Rattle.lru.specs.LruCache.{LruCache, put_entries}
use Rattle.std.proofs.lemmas.List.{length-append, append-nil, append_assoc, map-append, take_all}
use Rattle.std.proofs.lemmas.Bool.{le-ltb, lt-ltb}
use Rattle.rb_model.specs.Values.{Value as Val, Nil, plain, same, or_nil}
use Rattle.rb_model.specs.declared.value.Value.{Value as Held}
use Rattle.rb_model.specs.Sameness.{same_equivalence}
use Rattle.rb_model.specs.Things.{has_key, value_at, with_pair, without_key, may_put, has_room}
use Rattle.ordered_pairs.specs.declared.pairs.PutFault.{PutFault}
use Rattle.ordered_pairs.specs.declared.pairs.PutFault.TheVariants.{TooLong, Memory}
use Rattle.ordered_pairs.specs.Order.{pair_of, in_order}

-- two keys of the code are one
abbrev pub one : Held → Held → Bool
one a b = same (plain a) (plain b)

turned : (a b : Held) (t : Bool) → one a b ≡ t → one b a ≡ t
turned a b t e = same_equivalence.symm b a ∙ e

-- ---- one pair more behind others

module _ (key : Val) where
  has_behind : (xs : List (Val × Val)) (p : Val × Val) (t : Bool) → same p.0 key ≡ t → has_key key (xs ++ p ∷ []) ≡ (has_key key xs || t)
  has_behind [] p true e = rw e refl
  has_behind [] p false e = rw e refl
  has_behind (x ∷ xs) p t e = (elim (same x.0 key) as (λ b. same x.0 key ≡ b → has_key key (x ∷ xs ++ p ∷ []) ≡ (has_key key (x ∷ xs) || t)) [
    | true ↦ λ h. rw h refl
    | false ↦ λ h. rw h (has_behind xs p t e)
  ]) refl

  -- what is found in these, or else what stands behind them
  abbrev found_or : {X : Type 0} → List (Val × Val) → X → X → X
  found_or xs there other = if has_key key xs then there else other

  value_behind : (xs : List (Val × Val)) (p : Val × Val) → value_at key (xs ++ p ∷ []) ≡ found_or xs (value_at key xs) (if same p.0 key then p.1 else Nil)
  value_behind [] p = refl
  value_behind (x ∷ xs) p =
      (elim (same x.0 key) as (λ b. same x.0 key ≡ b → value_at key (x ∷ xs ++ p ∷ []) ≡ found_or (x ∷ xs) (value_at key (x ∷ xs)) (if same p.0 key then p.1 else Nil)) [
        | true ↦ λ h. rw h refl
        | false ↦ λ h. rw h (value_behind xs p)
      ]) refl

  -- the same pair before either
  before : (x : Val × Val) (b : Bool) (l m : List (Val × Val)) → x ∷ cond b l m ≡ cond b (x ∷ l) (x ∷ m)
  before x true l m = refl
  before x false l m = refl

  abbrev with_last : Val → Val × Val → List (Val × Val)
  with_last v p = if same p.0 key then (p.0, v) ∷ [] else p ∷ (key, v) ∷ []

  with_behind : (v : Val) (xs : List (Val × Val)) (p : Val × Val) → with_pair key v (xs ++ p ∷ []) ≡ found_or xs (with_pair key v xs ++ p ∷ []) (xs ++ with_last v p)
  with_behind v [] p = refl
  with_behind v (x ∷ xs) p =
      (elim (same x.0 key) as (λ b. same x.0 key ≡ b → with_pair key v (x ∷ xs ++ p ∷ []) ≡ found_or (x ∷ xs) (with_pair key v (x ∷ xs) ++ p ∷ []) (x ∷ xs ++ with_last v p)) [
        | true ↦ λ h. rw h refl
        | false ↦ λ h. rw h (ap (λ l. x ∷ l) (with_behind v xs p) ∙ before x (has_key key xs) (with_pair key v xs ++ p ∷ []) (xs ++ with_last v p))
      ]) refl

  abbrev without_last : Val × Val → List (Val × Val)
  without_last p = if same p.0 key then [] else p ∷ []

  without_behind : (xs : List (Val × Val)) (p : Val × Val) → without_key key (xs ++ p ∷ []) ≡ found_or xs (without_key key xs ++ p ∷ []) (xs ++ without_last p)
  without_behind [] p = refl
  without_behind (x ∷ xs) p =
      (elim (same x.0 key) as (λ b. same x.0 key ≡ b → without_key key (x ∷ xs ++ p ∷ []) ≡ found_or (x ∷ xs) (without_key key (x ∷ xs) ++ p ∷ []) (x ∷ xs ++ without_last p)) [
        | true ↦ λ h. rw h refl
        | false ↦ λ h. rw h (ap (λ l. x ∷ l) (without_behind xs p) ∙ before x (has_key key xs) (without_key key xs ++ p ∷ []) (xs ++ without_last p))
      ]) refl

  -- a key that is not there
  pub nothing_out : (xs : List (Val × Val)) → has_key key xs ≡ false → without_key key xs ≡ xs
  nothing_out [] z = refl
  nothing_out (x ∷ xs) z = (elim (same x.0 key) as (λ t. same x.0 key ≡ t → without_key key (x ∷ xs) ≡ x ∷ xs) [
    | true ↦ λ q. absurd (let y = rw q at z in cc)
    | false ↦ λ q. rw q (ap (λ l. x ∷ l) (nothing_out xs (rw q at z)))
  ]) refl

  -- a key that is not there has nil
  pub absent_value : (xs : List (Val × Val)) → has_key key xs ≡ false → value_at key xs ≡ Nil
  absent_value [] z = refl
  absent_value (x ∷ xs) z = (elim (same x.0 key) as (λ t. same x.0 key ≡ t → value_at key (x ∷ xs) ≡ Nil) [
    | true ↦ λ q. absurd (let y = rw q at z in cc)
    | false ↦ λ q. rw q (absent_value xs (rw q at z))
  ]) refl

  pub comes_last : (v : Val) (xs : List (Val × Val)) → has_key key xs ≡ false → with_pair key v xs ≡ xs ++ (key, v) ∷ []
  comes_last v [] z = refl
  comes_last v (x ∷ xs) z = (elim (same x.0 key) as (λ t. same x.0 key ≡ t → with_pair key v (x ∷ xs) ≡ x ∷ xs ++ (key, v) ∷ []) [
    | true ↦ λ q. absurd (let y = rw q at z in cc)
    | false ↦ λ q. rw q (ap (λ l. x ∷ l) (comes_last v xs (rw q at z)))
  ]) refl

-- ---- entries

pub as_long : (es : List (Held × Held)) → length (in_order es) ≡ length es
as_long [] = refl
as_long (e ∷ es) = length-append (in_order es) (pair_of e ∷ []) ∙ (let h = as_long es in omega (arith, h))

module _ (k : Held) where
  either_is : (b c : Bool) → (b || c) ≡ cond c true b
  either_is true true = refl
  either_is true false = refl
  either_is false true = refl
  either_is false false = refl

  chosen : (t : Bool) (v : Held) (o : Option Held) → is_some (cond t (Some v) o) ≡ cond t true (is_some o)
  chosen true v o = refl
  chosen false v o = refl

  -- a key is there exactly where its entry is
  pub is_there : (es : List (Held × Held)) → has_key (plain k) (in_order es) ≡ is_some (lookup (one k) es)
  is_there [] = refl
  is_there (e ∷ es) =
      has_behind (plain k) (in_order es) (pair_of e) (one k e.0) (turned k e.0 (one k e.0) refl)
      ∙ either_is (has_key (plain k) (in_order es)) (one k e.0)
      ∙ ap (cond (one k e.0) true) (is_there es)
      ∙ sym (chosen (one k e.0) e.1 (lookup (one k) es))

  -- no other entry has a key that is one with that of an entry which stands apart
  none_else : (x : Held) (es : List (Held × Held)) → one k x ≡ true → AllByRecursion (λ y. one x y ≡ false) (keys_of es) → lookup (one k) es ≡ None
  none_else x [] h all = refl
  none_else x (e ∷ es) h all = let other : one k e.0 ≡ false = same_equivalence.congr k x e.0 h ∙ all.0 in rw other (none_else x es h all.1)

  absent : (x : Held) (es : List (Held × Held)) → one k x ≡ true → AllByRecursion (λ y. one x y ≡ false) (keys_of es) → has_key (plain k) (in_order es) ≡ false
  absent x es h all = is_there es ∙ ap is_some (none_else x es h all)

  missing : (o : Option Held) → is_some o ≡ false → Nil ≡ or_nil (option_map plain o)
  missing None z = refl
  missing (Some x) z = absurd (cc)

  -- the value of a key
  pub value_is : (es : List (Held × Held)) → IsDistinct one (keys_of es) → value_at (plain k) (in_order es) ≡ or_nil (option_map plain (lookup (one k) es))
  unfolding IsDistinct
  value_is [] d = refl
  value_is (e ∷ es) d = value_behind (plain k) (in_order es) (pair_of e) ∙
      (elim (one k e.0) as (λ b. one k e.0 ≡ b → found_or (plain k) (in_order es) (value_at (plain k) (in_order es)) (if same (plain e.0) (plain k) then plain e.1 else Nil) ≡ or_nil (option_map plain (lookup (one k) (e ∷ es)))) [
        | true ↦ λ h. rw (absent e.0 es h d.0) (rw (turned k e.0 true h) (rw h refl))
        | false ↦ λ h. rw (turned k e.0 false h) (rw h
            ((elim (has_key (plain k) (in_order es)) as (λ c. has_key (plain k) (in_order es) ≡ c → cond (has_key (plain k) (in_order es)) (value_at (plain k) (in_order es)) Nil ≡ or_nil (option_map plain (lookup (one k) es))) [
              | true ↦ λ g. rw g (value_is es d.1)
              | false ↦ λ g. rw g (missing (lookup (one k) es) (sym (is_there es) ∙ g))
            ]) refl))
      ]) refl

  -- without a key
  pub gone : (es : List (Held × Held)) → IsDistinct one (keys_of es) → in_order (remove_entry (one k) es) ≡ without_key (plain k) (in_order es)
  unfolding IsDistinct
  gone [] d = refl
  gone (e ∷ es) d =
      (elim (one k e.0) as (λ b. one k e.0 ≡ b → in_order (remove_entry (one k) (e ∷ es)) ≡ found_or (plain k) (in_order es) (without_key (plain k) (in_order es) ++ pair_of e ∷ []) (in_order es ++ without_last (plain k) (pair_of e))) [
        | true ↦ λ h. rw (absent e.0 es h d.0) (rw (turned k e.0 true h) (rw h (sym (append-nil (in_order es)))))
        | false ↦ λ h. rw h (rw (turned k e.0 false h) (ap (λ l. l ++ pair_of e ∷ []) (gone es d.1) ∙
            ((elim (has_key (plain k) (in_order es)) as (λ c. has_key (plain k) (in_order es) ≡ c → without_key (plain k) (in_order es) ++ pair_of e ∷ [] ≡ cond (has_key (plain k) (in_order es)) (without_key (plain k) (in_order es) ++ pair_of e ∷ []) (in_order es ++ pair_of e ∷ [])) [
              | true ↦ λ g. rw g refl
              | false ↦ λ g. rw g (ap (λ l. l ++ pair_of e ∷ []) (nothing_out (plain k) (in_order es) g))
            ]) refl)))
      ]) refl ∙ sym (without_behind (plain k) (in_order es) (pair_of e))

  -- a key that is there, with another value
  pub replaced : (v : Held) (es : List (Held × Held)) → IsDistinct one (keys_of es) → is_some (lookup (one k) es) ≡ true
      → in_order (set_value (one k) es v) ≡ with_pair (plain k) (plain v) (in_order es)
  unfolding IsDistinct
  replaced v [] d s = absurd (cc)
  replaced v (e ∷ es) d s =
      (elim (one k e.0) as (λ b. one k e.0 ≡ b → in_order (set_value (one k) (e ∷ es) v) ≡ found_or (plain k) (in_order es) (with_pair (plain k) (plain v) (in_order es) ++ pair_of e ∷ []) (in_order es ++ with_last (plain k) (plain v) (pair_of e))) [
        | true ↦ λ h. rw (absent e.0 es h d.0) (rw (turned k e.0 true h) (rw h refl))
        | false ↦ λ h.
            let there : is_some (lookup (one k) es) ≡ true = rw h at s in
            rw h (rw (is_there es ∙ there) (ap (λ l. l ++ pair_of e ∷ []) (replaced v es d.1 there)))
      ]) refl ∙ sym (with_behind (plain k) (plain v) (in_order es) (pair_of e))

module _ (k : Held) (es : List (Held × Held)) (ps : List (Val × Val)) (distinct : IsDistinct one (keys_of es)) (view : in_order es ≡ ps) where
  pub found : (v : Held) → lookup (one k) es ≡ Some v → plain v ≡ value_at (plain k) ps
  found v e = sym (ap (value_at (plain k)) (sym view) ∙ value_is k es distinct ∙ ap (λ o. or_nil (option_map plain o)) e)

  pub unfound : lookup (one k) es ≡ None → Nil ≡ value_at (plain k) ps
  unfound e = sym (ap (value_at (plain k)) (sym view) ∙ value_is k es distinct ∙ ap (λ o. or_nil (option_map plain o)) e)

  pub taken_out : in_order (remove_entry (one k) es) ≡ without_key (plain k) ps
  taken_out = gone k es distinct ∙ ap (without_key (plain k)) view

  pub key_is : (o : Option Held) → lookup (one k) es ≡ o → has_key (plain k) ps ≡ is_some o
  key_is o e = ap (has_key (plain k)) (sym view) ∙ is_there k es ∙ ap is_some e

  -- what is found where it stands
  module _ (result : Option (Bor Held)) (is : option_copied result ≡ lookup (one k) es) where
    pub peeked_there : IfSome result (λ value. has_key (plain k) ps ≡ true)
    peeked_there = by result is
      where
        by : (r : Option (Bor Held)) → option_copied r ≡ lookup (one k) es → IfSome r (λ value. has_key (plain k) ps ≡ true)
        by None e = tt
        by (Some v) e = key_is (Some v.now) (sym e)

    pub peeked_value : IfSome result (λ value. plain value.now ≡ value_at (plain k) ps)
    peeked_value = by result is
      where
        by : (r : Option (Bor Held)) → option_copied r ≡ lookup (one k) es → IfSome r (λ value. plain value.now ≡ value_at (plain k) ps)
        by None e = tt
        by (Some v) e = found v.now (sym e)

    pub peeked_none : result ≡ None → has_key (plain k) ps ≡ false
    peeked_none none = key_is None (sym is ∙ ap option_copied none)

  pub put_over : (v : Held) → is_some (lookup (one k) es) ≡ true → in_order (set_value (one k) es v) ≡ with_pair (plain k) (plain v) ps
  put_over v s = replaced k v es distinct s ∙ ap (with_pair (plain k) (plain v)) view

  pub put_last : (v : Held) → lookup (one k) es ≡ None → in_order ((k, v) ∷ es) ≡ with_pair (plain k) (plain v) ps
  put_last v e = ap (λ l. l ++ pair_of (k, v) ∷ []) view ∙ sym (comes_last (plain k) (plain v) ps (key_is None e))

-- the oldest entry stands last
pub oldest_first : (es : List (Held × Held)) (e : Held × Held) → in_order (es ++ e ∷ []) ≡ pair_of e ∷ in_order es
oldest_first [] e = refl
oldest_first (f ∷ es) e = ap (λ l. l ++ pair_of f ∷ []) (oldest_first es e)

-- the oldest of the entries that are left is copied
pub one_more : (items rest rest' : List (Held × Held)) (k v k' v' : Held) (all : List (Val × Val)) → map pair_of items ++ in_order rest ≡ all → rest ≡ rest' ++ (k, v) ∷ []
    → plain k' ≡ plain k → plain v' ≡ plain v → map pair_of (items ++ (k', v') ∷ []) ++ in_order rest' ≡ all
one_more items rest rest' k v k' v' all kept left ks vs =
    let copied : pair_of (k', v') ≡ pair_of (k, v) = ap (λ x. (x, plain v')) ks ∙ ap (λ y. (plain k, y)) vs in
    ap (λ l. l ++ in_order rest') (map-append pair_of items ((k', v') ∷ []))
    ∙ append_assoc (map pair_of items) (pair_of (k', v') ∷ []) (in_order rest')
    ∙ ap (λ p. map pair_of items ++ p ∷ in_order rest') copied
    ∙ ap (λ l. map pair_of items ++ l) (sym (oldest_first rest' (k, v)))
    ∙ ap (λ l. map pair_of items ++ in_order l) (sym left)
    ∙ kept

-- ---- whether a pair may be put

pub may_there : (key : Val) (ps : List (Val × Val)) → has_key key ps ≡ true → may_put key ps ≡ true
may_there key ps h = rw h refl

pub may_full : (key : Val) (ps : List (Val × Val)) (n : ℕ) → has_key key ps ≡ false → n ≡ length ps → 16777216 ≤ n → may_put key ps ≡ false
may_full key ps n h e le = rw h (sym (ap has_room e) ∙ le-ltb n 16777216 le)

pub may_come : (key : Val) (ps : List (Val × Val)) (n : ℕ) → n ≡ length ps → n < 16777216 → may_put key ps ≡ true
may_come key ps n e lt = either (has_key key ps) (has_room (length ps)) (sym (ap has_room e) ∙ lt-ltb n 16777216 lt)
  where
    either : (a b : Bool) → b ≡ true → (a || b) ≡ true
    either true b h = refl
    either false b h = h

-- an answer is not that there are too many pairs and that memory is wanted
pub not_both : (r : Result Unit PutFault) → r ≡ Err TooLong → IsErrAnd r (λ fault. fault ≡ Memory) → ⊥
not_both (Ok u) e h = cc
not_both (Err TooLong) e h = cc
not_both (Err Memory) e h = cc

no_entry : (k : Held) (es : List (Held × Held)) → lookup (one k) es ≡ None → lookup_entry (one k) es ≡ None
no_entry k [] h = refl
no_entry k (e ∷ es) h = (elim (one k e.0) as (λ t. one k e.0 ≡ t → lookup_entry (one k) (e ∷ es) ≡ None) [
  | true ↦ λ q. absurd (let z = rw q at h in cc)
  | false ↦ λ q. rw q (no_entry k es (rw q at h))
]) refl

-- a new key goes before all entries of a cache without bound
pub put_first : (k v : Held) (c : LruCache Held Held) → lookup (one k) c.entries ≡ None → length c.entries ≤ c.cap - 1 → put_entries one c k v ≡ (k, v) ∷ c.entries
put_first k v c h le = rw (no_entry k c.entries h) (ap (λ l. (k, v) ∷ l) (take_all (c.cap - 1) c.entries le))
