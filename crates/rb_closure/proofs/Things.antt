-- A plain step makes and tells what the thing mentioned, or what the act hands over.
use Rattle.std.proofs.Common.{◌≡◌, ℕ, zero, suc, ◌-◌, ◌==◌, ◌||◌, Bool, true, false, cond, not, List, [], ◌∷◌, ◌++◌, length, map, take, drop, replicate, slice_get, slice_set, Option, Some, None, refl}
use Rattle.std.specs.Prelude.{nat_lt}
use Rattle.rb_tree.specs.declared.span.NameId.{NameId}
use Rattle.rb_model.specs.declared.fault.Fault.TheVariants.{ArrayTooLong, UnlockForeign}
use Rattle.rb_model.specs.Values.{Value, Nil, Reference, same, truth, or_nil}
use Rattle.rb_model.specs.Acts.{Act, GetField, SetField, At, Put, Push, Unshift, Pop, Shift, DeleteAt, KGet, KHas, KPut, KDelete, Clear, Len, Copy, Lock, Unlock, Reply, handed}
use Rattle.rb_model.specs.Acts as reply
use Rattle.rb_model.specs.Things.{Thing, Field, Object, Elements, Pairs, Mutex, Thread, index_of, last_place, element, field, with_field, with_element, put, put_reply, has_room, without_element, value_at, with_pair, gathered, gathered_onto, without_key, may_put, has_key, max_elements, mentioned, is_integer, becomes_by, gives_to}
use Rattle.rb_machine.specs.Follows.{sort_of}
use Rattle.rb_closure.specs.Mentions.{values_in_pairs, values_in_reply}
use Rattle.rb_closure.specs.Closure.{Each, IfReference}
use Rattle.rb_closure.proofs.Lists.{both, each_if}

module _ (R : Reference → Type 0) where
  abbrev pub P : Value → Type 0
  P v = IfReference R v

  pub plain : (b : Bool) → P (truth b)
  plain true = tt
  plain false = tt

  one_of : (b : Bool) (x y : Value) → P x → P y → P (cond b x y)
  one_of true x y p q = p
  one_of false x y p q = q

  -- ---- elements

  pub nils : (n : ℕ) → Each P (replicate n Nil)
  nils zero = tt
  nils (suc n) = (tt, nils n)

  pub take_each : (n : ℕ) (vs : List Value) → Each P vs → Each P (take n vs)
  take_each zero vs p = tt
  take_each (suc n) [] p = tt
  take_each (suc n) (v ∷ vs) (p, ps) = (p, take_each n vs ps)

  pub drop_each : (n : ℕ) (vs : List Value) → Each P vs → Each P (drop n vs)
  drop_each zero vs p = p
  drop_each (suc n) [] p = tt
  drop_each (suc n) (v ∷ vs) (p, ps) = drop_each n vs ps

  set_each : (n : ℕ) (w : Value) (vs : List Value) → P w → Each P vs → Each P (slice_set vs n w)
  set_each n w [] q p = tt
  set_each zero w (v ∷ vs) q (p, ps) = (q, ps)
  set_each (suc n) w (v ∷ vs) q (p, ps) = (p, set_each n w vs q ps)

  got : (n : ℕ) (vs : List Value) → Each P vs → P (or_nil (slice_get vs n))
  got n [] p = tt
  got zero (v ∷ vs) (p, ps) = p
  got (suc n) (v ∷ vs) (p, ps) = got n vs ps

  element_of : (vs : List Value) (i : Option ℕ) → Each P vs → P (element vs i)
  element_of vs None p = tt
  element_of vs (Some n) p = got n vs p

  without_of : (vs : List Value) (i : Option ℕ) → Each P vs → Each P (without_element vs i)
  without_of vs None p = p
  without_of vs (Some n) p = both P (take n vs) (drop (suc n) vs) (take_each n vs p) (drop_each (suc n) vs p)

  with_of : (vs : List Value) (n : ℕ) (v : Value) → P v → Each P vs → Each P (with_element vs n v)
  with_of vs n v q p = each_if P (nat_lt n (length vs)) (slice_set vs n v) (vs ++ replicate (n - length vs) Nil ++ v ∷ []) (set_each n v vs q p)
      (both P (vs ++ replicate (n - length vs) Nil) (v ∷ []) (both P vs (replicate (n - length vs) Nil) p (nils (n - length vs))) (q, tt))

  put_of : (vs : List Value) (i : Option ℕ) (v : Value) → P v → Each P vs → Each P (put vs i v)
  put_of vs None v q p = p
  put_of vs (Some n) v q p = each_if P (nat_lt n max_elements) (with_element vs n v) vs (with_of vs n v q p) p

  -- ---- fields

  abbrev AllFields : List Field → Type 0
  AllFields fs = Each P (map (λ (f : Field). f.value) fs)

  field_of : (name : NameId) (fs : List Field) → AllFields fs → P (field name fs)
  field_of name [] p = tt
  field_of name (f ∷ fs) (p, ps) = one_of (f.name.0 == name.0) f.value (field name fs) p (field_of name fs ps)

  fields_either : (b : Bool) (xs ys : List Field) → AllFields xs → AllFields ys → AllFields (cond b xs ys)
  fields_either true xs ys p q = p
  fields_either false xs ys p q = q

  with_field_of : (name : NameId) (v : Value) (fs : List Field) → P v → AllFields fs → AllFields (with_field name v fs)
  with_field_of name v [] q p = (q, tt)
  with_field_of name v (f ∷ fs) q (p, ps) =
      fields_either (f.name.0 == name.0) (record { name = f.name; value = v; wide = f.wide || not (is_integer v) } ∷ fs) (f ∷ with_field name v fs) (q, ps) (p, with_field_of name v fs q ps)

  -- ---- pairs

  abbrev AllPairs : List (Value × Value) → Type 0
  AllPairs ps = Each P (values_in_pairs ps)

  value_at_of : (k : Value) (ps : List (Value × Value)) → AllPairs ps → P (value_at k ps)
  value_at_of k [] p = tt
  value_at_of k (x ∷ ps) (p, (q, r)) = one_of (same x.0 k) x.1 (value_at k ps) q (value_at_of k ps r)

  pairs_either : (b : Bool) (xs ys : List (Value × Value)) → AllPairs xs → AllPairs ys → AllPairs (cond b xs ys)
  pairs_either true xs ys p q = p
  pairs_either false xs ys p q = q

  with_pair_of : (k v : Value) (ps : List (Value × Value)) → P k → P v → AllPairs ps → AllPairs (with_pair k v ps)
  with_pair_of k v [] pk pv p = (pk, (pv, tt))
  with_pair_of k v (x ∷ ps) pk pv (p, (q, r)) = pairs_either (same x.0 k) ((x.0, v) ∷ ps) (x ∷ with_pair k v ps) (p, (pv, r)) (p, (q, with_pair_of k v ps pk pv r))

  without_key_of : (k : Value) (ps : List (Value × Value)) → AllPairs ps → AllPairs (without_key k ps)
  without_key_of k [] p = tt
  without_key_of k (x ∷ ps) (p, (q, r)) = pairs_either (same x.0 k) ps (x ∷ without_key k ps) r (p, (q, without_key_of k ps r))

  gathered_onto_of : (ps qs : List (Value × Value)) → AllPairs ps → AllPairs qs → AllPairs (gathered_onto ps qs)
  gathered_onto_of ps [] a b = a
  gathered_onto_of ps (q ∷ qs) a (k, (v, b)) = gathered_onto_of (with_pair q.0 q.1 ps) qs (with_pair_of q.0 q.1 ps k v a) b

  pub gathered_of : (ps : List (Value × Value)) → AllPairs ps → AllPairs (gathered ps)
  gathered_of ps a = gathered_onto_of [] ps tt a

  -- ---- what a thing becomes

  pub behind_mentions : (t : ℕ) (thing : Thing) (act : Act) → Each P (mentioned thing) → Each P (handed act) → Each P (mentioned (becomes_by t thing act))
  behind_mentions t (Thread s) act p q = p
  behind_mentions t (Mutex owner) act p q = tt
  behind_mentions t (Object class fields) (SetField name v) p q = with_field_of name v fields q.0 p
  behind_mentions t (Object class fields) act p q = p
  behind_mentions t (Elements vs) (Put i v) p q = put_of vs (index_of (length vs) i) v q.0 p
  behind_mentions t (Elements vs) (Push v) p q = each_if P (has_room (length vs)) (vs ++ v ∷ []) vs (both P vs (v ∷ []) p q) p
  behind_mentions t (Elements vs) (Unshift v) p q = each_if P (has_room (length vs)) (v ∷ vs) vs (q.0, p) p
  behind_mentions t (Elements vs) Pop p q = without_of vs (last_place (length vs)) p
  behind_mentions t (Elements vs) Shift p q = drop_each 1 vs p
  behind_mentions t (Elements vs) (DeleteAt i) p q = without_of vs (index_of (length vs) i) p
  behind_mentions t (Elements vs) Clear p q = tt
  behind_mentions t (Elements vs) act p q = p
  behind_mentions t (Pairs ps) (KPut k v) p q = pairs_either (may_put k ps) (with_pair k v ps) ps (with_pair_of k v ps q.0 q.1.0 p) p
  behind_mentions t (Pairs ps) (KDelete k) p q = without_key_of k ps p
  behind_mentions t (Pairs ps) Clear p q = tt
  behind_mentions t (Pairs ps) act p q = p

  -- ---- what it answers

  put_tells : (i : Option ℕ) → Each P (values_in_reply (put_reply i))
  put_tells None = tt
  put_tells (Some n) = by (nat_lt n max_elements)
    where
      by : (b : Bool) → Each P (values_in_reply (cond b reply.Done (reply.Failed ArrayTooLong)))
      by true = tt
      by false = tt

  grown_tells : (b : Bool) → Each P (values_in_reply (cond b reply.Done (reply.Failed ArrayTooLong)))
  grown_tells true = tt
  grown_tells false = tt

  mutex_tells : (t : ℕ) (owner : Option ℕ) (act : Act) → Each P (values_in_reply (gives_to t (Mutex owner) act))
  mutex_tells t None Lock = tt
  mutex_tells t (Some owner) Lock = tt
  mutex_tells t None Unlock = tt
  mutex_tells t (Some owner) Unlock = by (owner == t)
    where
      by : (b : Bool) → Each P (values_in_reply (cond b reply.Done (reply.Failed UnlockForeign)))
      by true = tt
      by false = tt
  mutex_tells t owner act = tt

  pub reply_tells : (t : ℕ) (thing : Thing) (act : Act) → Each P (mentioned thing) → Each P (values_in_reply (gives_to t thing act))
  reply_tells t (Thread s) act p = tt
  reply_tells t (Mutex owner) act p = mutex_tells t owner act
  reply_tells t (Object class fields) (GetField name) p = (field_of name fields p, tt)
  reply_tells t (Object class fields) act p = tt
  reply_tells t (Elements vs) (At i) p = (element_of vs (index_of (length vs) i) p, tt)
  reply_tells t (Elements vs) (Put i v) p = put_tells (index_of (length vs) i)
  reply_tells t (Elements vs) (Push v) p = grown_tells (has_room (length vs))
  reply_tells t (Elements vs) (Unshift v) p = grown_tells (has_room (length vs))
  reply_tells t (Elements vs) Pop p = (element_of vs (last_place (length vs)) p, tt)
  reply_tells t (Elements vs) Shift p = (element_of vs (Some 0) p, tt)
  reply_tells t (Elements vs) (DeleteAt i) p = (element_of vs (index_of (length vs) i) p, tt)
  reply_tells t (Elements vs) Len p = (tt, tt)
  reply_tells t (Elements vs) Copy p = p
  reply_tells t (Elements vs) act p = tt
  reply_tells t (Pairs ps) (KGet k) p = (value_at_of k ps p, tt)
  reply_tells t (Pairs ps) (KHas k) p = (plain (has_key k ps), tt)
  reply_tells t (Pairs ps) (KPut k v) p = grown_tells (may_put k ps)
  reply_tells t (Pairs ps) (KDelete k) p = (value_at_of k ps p, tt)
  reply_tells t (Pairs ps) Len p = (tt, tt)
  reply_tells t (Pairs ps) Copy p = p
  reply_tells t (Pairs ps) act p = tt

-- ---- its sort

pub sort_stays : (t : ℕ) (thing : Thing) (act : Act) → sort_of (becomes_by t thing act) ≡ sort_of thing
sort_stays t (Mutex owner) act = refl
sort_stays t (Thread s) act = refl
sort_stays t (Object class fields) (SetField name v) = refl
sort_stays t (Object class fields) act = refl
sort_stays t (Elements vs) (Put i v) = refl
sort_stays t (Elements vs) act = refl
sort_stays t (Pairs ps) (KPut k v) = refl
sort_stays t (Pairs ps) act = refl
