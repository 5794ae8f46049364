-- Known references, and those to things that move, name things of the store.
use Rattle.std.proofs.Common.{◌≡◌, ℕ, Bool, true, false, cond, List, [], ◌∷◌, ◌++◌, map, Option, Some, None, is_some, refl, sym, ap, ◌∙◌, inl, inr, true≢false}
use Rattle.std.specs.List.{flat_map}
use Rattle.std.specs.Option.{option_map}
use Rattle.rb_model.specs.declared.act.Act.{Act}
use Rattle.rb_model.specs.declared.act.Act.TheVariants as act
use Rattle.rb_model.specs.declared.act.Reply.{Reply}
use Rattle.rb_model.specs.declared.act.Reply.TheVariants as answered
use Rattle.rb_model.specs.declared.call.Call.{Call as Held}
use Rattle.rb_model.specs.declared.call.Call.TheVariants as held
use Rattle.rb_model.specs.declared.call.End.{End}
use Rattle.rb_model.specs.declared.call.End.TheVariants as end
use Rattle.rb_model.specs.declared.moved.MovedItem.{MovedItem}
use Rattle.rb_model.specs.declared.thing.Field.{Field}
use Rattle.rb_model.specs.declared.thing.Thing.{Thing}
use Rattle.rb_model.specs.declared.thing.Thing.TheVariants as thing
use Rattle.rb_model.specs.declared.value.Id.{Id}
use Rattle.rb_model.specs.declared.value.Ref.{Ref}
use Rattle.rb_model.specs.declared.value.Sort.{Sort}
use Rattle.rb_model.specs.declared.value.Value.{Value}
use Rattle.rb_model.specs.declared.value.Value.TheVariants as value
use Rattle.rb_model.specs.Acts.{handed}
use Rattle.rb_model.specs.Doing.{doing, said, seen, slot, pair}
use Rattle.rb_model.specs.Ends.{over, told}
use Rattle.rb_model.specs.Log.{asked}
use Rattle.rb_model.specs.Moving.{item_of, items_of, ref_of, sort_of_thing, refs_in, refs_in_all, refs_in_pairs, refs_in_end, refs_in_act, refs_in_call, refs_in_reply, refs_in_thing, refs_in_moved}
use Rattle.rb_model.specs.Private.{Item}
use Rattle.rb_model.specs.Things.{mentioned}
use Rattle.rb_model.specs.Values.{Value as Val, To, same_id, plain}
use Rattle.rb_model.specs.Values as val
use Rattle.rb_shared.specs.Asking.{NamesOne, AllDiffer, IsNoneOf, MayMove}
use Rattle.rb_shared.specs.Lists.{Each}
use Rattle.rb_shared.specs.Step.{AreNew, ids_in}
use Rattle.rb_shared.specs.Store.{Store, found, is_there}
use Rattle.rb_shared.proofs.Runs.{each_append, each_front, each_behind, same_is, same_self}
use Rattle.shared_run.specs.Standing.{sort_in, sort_at, NamesHeld, Fits, MentionIn, values_in_call, values_in_reply}

-- ---- values and the references that they hold

module _ (w : Store) where
  abbrev AllNamed : List Ref → Type 0
  AllNamed rs = Each (NamesHeld w) rs

  value_fits : (v : Value) → AllNamed (refs_in v) → Fits w (plain v)
  value_fits value.Nil n = tt
  value_fits value.False n = tt
  value_fits value.True n = tt
  value_fits (value.Int i) n = tt
  value_fits (value.Sym name) n = tt
  value_fits (value.Str bytes) n = tt
  value_fits (value.Ref r) n = n.0

  all_fit : (vs : List Value) → AllNamed (refs_in_all vs) → Each (Fits w) (map plain vs)
  all_fit [] n = tt
  all_fit (v ∷ vs) n = (value_fits v (each_front (NamesHeld w) (refs_in v) (refs_in_all vs) n), all_fit vs (each_behind (NamesHeld w) (refs_in v) (refs_in_all vs) n))

  two_fit : (k v : Value) → AllNamed (refs_in k ++ refs_in v) → Fits w (plain k) × Fits w (plain v)
  two_fit k v n = (value_fits k (each_front (NamesHeld w) (refs_in k) (refs_in v) n), value_fits v (each_behind (NamesHeld w) (refs_in k) (refs_in v) n))

  act_fits : (a : Act) → AllNamed (refs_in_act a) → Each (Fits w) (handed (doing a))
  act_fits (act.GetField name) n = tt
  act_fits (act.SetField name v) n = (value_fits v n, tt)
  act_fits (act.At i) n = tt
  act_fits (act.Put i v) n = (value_fits v n, tt)
  act_fits (act.Push v) n = (value_fits v n, tt)
  act_fits (act.Unshift v) n = (value_fits v n, tt)
  act_fits act.Pop n = tt
  act_fits act.Shift n = tt
  act_fits (act.DeleteAt i) n = tt
  act_fits (act.KGet k) n = (value_fits k n, tt)
  act_fits (act.KHas k) n = (value_fits k n, tt)
  act_fits (act.KPut k v) n = let p = two_fit k v n in (p.0, (p.1, tt))
  act_fits (act.KDelete k) n = (value_fits k n, tt)
  act_fits act.Clear n = tt
  act_fits act.Len n = tt
  act_fits act.Copy n = tt
  act_fits act.Join n = tt
  act_fits act.Lock n = tt
  act_fits act.Unlock n = tt

  end_fits : (e : End) → AllNamed (refs_in_end e) → Each (Fits w) (told (over e))
  end_fits (end.Value v) n = (value_fits v n, tt)
  end_fits (end.Raised f at) n = tt
  end_fits end.Steps n = tt
  end_fits (end.Full used wanted) n = tt
  end_fits end.Sink n = tt
  end_fits end.Memory n = tt

  pub call_fits : (c : Held) → AllNamed (refs_in_call c) → Each (Fits w) (values_in_call (asked c))
  call_fits (held.On r a) n = act_fits a n
  call_fits (held.Start id body values) n = all_fit values.items n
  call_fits (held.Gather r) n = tt
  call_fits (held.Print bytes) n = tt
  call_fits (held.End e) n = end_fits e n

  fields_fit : (fs : List Field) → AllNamed (flat_map (λ (f : Field). refs_in f.value) fs) → Each (Fits w) (map (λ (f : Rattle.rb_model.specs.Things.Field). f.value) (map slot fs))
  fields_fit [] n = tt
  fields_fit (f ∷ fs) n =
      (value_fits f.value (each_front (NamesHeld w) (refs_in f.value) (flat_map (λ (f : Field). refs_in f.value) fs) n), fields_fit fs (each_behind (NamesHeld w) (refs_in f.value) (flat_map (λ (f : Field). refs_in f.value) fs) n))

  pairs_fit : (ps : List (Value × Value)) → AllNamed (refs_in_pairs ps) → Each (Fits w) (flat_map (λ (p : Val × Val). p.0 ∷ p.1 ∷ []) (map pair ps))
  pairs_fit [] n = tt
  pairs_fit (p ∷ ps) n =
      let q = two_fit p.0 p.1 (each_front (NamesHeld w) (refs_in p.0 ++ refs_in p.1) (refs_in_pairs ps) n) in
      (q.0, (q.1, pairs_fit ps (each_behind (NamesHeld w) (refs_in p.0 ++ refs_in p.1) (refs_in_pairs ps) n)))

  thing_fits : (t : ℕ) (x : Thing) → MayMove t (seen x) → AllNamed (refs_in_thing x) → Each (Fits w) (mentioned (seen x))
  thing_fits t (thing.Object class fields) may n = fields_fit fields.items n
  thing_fits t (thing.Elements vs) may n = all_fit vs.items n
  thing_fits t (thing.Pairs ps) may n = pairs_fit ps.items n
  thing_fits t (thing.Mutex owner) may n = tt
  thing_fits t (thing.Thread state) may n = absurd may

  pub moved_fit : (t : ℕ) (ms : List MovedItem) → Each (λ (x : Item). MayMove t x.thing) (items_of ms) → AllNamed (refs_in_moved ms) → MentionIn w (items_of ms)
  moved_fit t [] may n = tt
  moved_fit t (m ∷ ms) (may, mays) n =
      (thing_fits t m.thing may (each_front (NamesHeld w) (refs_in_thing m.thing) (refs_in_moved ms) n), moved_fit t ms mays (each_behind (NamesHeld w) (refs_in_thing m.thing) (refs_in_moved ms) n))

  -- ---- the other way round, for a reply

  value_names : (v : Value) → Fits w (plain v) → AllNamed (refs_in v)
  value_names value.Nil f = tt
  value_names value.False f = tt
  value_names value.True f = tt
  value_names (value.Int i) f = tt
  value_names (value.Sym name) f = tt
  value_names (value.Str bytes) f = tt
  value_names (value.Ref r) f = (f, tt)

  all_name : (vs : List Value) → Each (Fits w) (map plain vs) → AllNamed (refs_in_all vs)
  all_name [] f = tt
  all_name (v ∷ vs) (f, fs) = each_append (NamesHeld w) (refs_in v) (refs_in_all vs) (value_names v f) (all_name vs fs)

  pairs_name : (ps : List (Value × Value)) → Each (Fits w) (flat_map (λ (p : Val × Val). p.0 ∷ p.1 ∷ []) (map pair ps)) → AllNamed (refs_in_pairs ps)
  pairs_name [] f = tt
  pairs_name (p ∷ ps) (f, (g, fs)) =
      each_append (NamesHeld w) (refs_in p.0 ++ refs_in p.1) (refs_in_pairs ps) (each_append (NamesHeld w) (refs_in p.0) (refs_in p.1) (value_names p.0 f) (value_names p.1 g)) (pairs_name ps fs)

  end_names : (e : End) → Each (Fits w) (told (over e)) → AllNamed (refs_in_end e)
  end_names (end.Value v) f = value_names v f.0
  end_names (end.Raised f at) n = tt
  end_names end.Steps f = tt
  end_names (end.Full used wanted) f = tt
  end_names end.Sink f = tt
  end_names end.Memory f = tt

  pub reply_names : (r : Reply) → Each (Fits w) (values_in_reply (said r)) → AllNamed (refs_in_reply r)
  reply_names (answered.Value v) f = value_names v f.0
  reply_names (answered.Elements vs) f = all_name vs.items f
  reply_names (answered.Pairs ps) f = pairs_name ps.items f
  reply_names answered.Done f = tt
  reply_names (answered.Started number r) f = (f.0, tt)
  reply_names (answered.Ended how) f = end_names how f
  reply_names (answered.Failed fault) f = tt

  -- ---- ids

  abbrev There : Id → Type 0
  There id = is_there w id ≡ true

  sort_there : (o : Option Rattle.rb_model.specs.Things.Thing) (s : Sort) → option_map sort_in o ≡ Some s → is_some o ≡ true
  sort_there None s e = absurd (cc)
  sort_there (Some x) s e = refl

  pub names_there : (id : Id) (s : Sort) → sort_at w id ≡ Some s → There id
  names_there id s e = sort_there (found w id) s e

  ids_first : (v : Val) (rest : List Id) → Fits w v → Each There rest → Each There (ids_in v ++ rest)
  ids_first val.Nil rest f more = more
  ids_first val.False rest f more = more
  ids_first val.True rest f more = more
  ids_first (val.Int n) rest f more = more
  ids_first (val.Sym name) rest f more = more
  ids_first (val.Str bytes) rest f more = more
  ids_first (To r) rest f more = (names_there r.id r.sort f, more)

  pub ids_fit : (vs : List Val) → Each (Fits w) vs → Each There (flat_map ids_in vs)
  ids_fit [] f = tt
  ids_fit (v ∷ vs) (f, fs) = ids_first v (flat_map ids_in vs) f (ids_fit vs fs)

  pub moved_ids : (xs : List Item) → MentionIn w xs → Each There (flat_map (λ (x : Item). flat_map ids_in (mentioned x.thing)) xs)
  moved_ids [] f = tt
  moved_ids (x ∷ xs) (f, fs) = each_append There (flat_map ids_in (mentioned x.thing)) (flat_map (λ (x : Item). flat_map ids_in (mentioned x.thing)) xs) (ids_fit (mentioned x.thing) f) (moved_ids xs fs)

-- ---- things that move

abbrev pub ids_of : List MovedItem → List Id
ids_of ms = map (λ (m : MovedItem). m.id) ms

sort_seen : (x : Thing) → sort_in (seen x) ≡ sort_of_thing x
sort_seen (thing.Object class fields) = refl
sort_seen (thing.Elements vs) = refl
sort_seen (thing.Pairs ps) = refl
sort_seen (thing.Mutex owner) = refl
sort_seen (thing.Thread state) = refl

found_past : (z more : Store) (id : Id) → is_there z id ≡ false → found (z ++ more) id ≡ found more id
found_past [] more id e = refl
found_past (x ∷ xs) more id e = by (same_id x.id id) e (found_past xs more id)
  where
    by : (b : Bool) → is_some (cond b (Some x.thing) (found xs id)) ≡ false → (is_there xs id ≡ false → found (xs ++ more) id ≡ found more id) → cond b (Some x.thing) (found (xs ++ more) id) ≡ found more id
    by true e rec = absurd (let h : true ≡ false = e in cc)
    by false e rec = rec e

pub sort_past : (z more : Store) (id : Id) → is_there z id ≡ false → sort_at (z ++ more) id ≡ sort_at more id
sort_past z more id e = ap (option_map sort_in) (found_past z more id e)

flipped : (a b : Id) → same_id b a ≡ false → same_id a b ≡ false
flipped a b e = by (same_id a b) refl
  where
    by : (c : Bool) → same_id a b ≡ c → c ≡ false
    by true s = absurd (true≢false (sym (same_self b a (sym (same_is a b s))) ∙ e))
    by false s = refl

-- none of these has the id
not_among : (ms : List MovedItem) (r : Ref) (id : Id) → IsNoneOf (ids_of ms) id → NamesOne ms r → same_id id r.id ≡ false
not_among [] r id n o = absurd o
not_among (m ∷ ms) r id (n, ns) (inl h) = flipped id r.id (ap (λ i. same_id i id) (sym h.1) ∙ n)
not_among (m ∷ ms) r id (n, ns) (inr o) = not_among ms r id ns o

pub moved_named : (ms : List MovedItem) (r : Ref) → AllDiffer (ids_of ms) → NamesOne ms r → sort_at (items_of ms) r.id ≡ Some r.sort
moved_named [] r d o = absurd o
moved_named (m ∷ ms) r (d, ds) (inl h) =
    ap (λ b. option_map sort_in (cond b (Some (seen m.thing)) (found (items_of ms) r.id))) (same_self m.id r.id h.1) ∙ ap Some (sort_seen m.thing ∙ h.0)
moved_named (m ∷ ms) r (d, ds) (inr o) =
    ap (λ b. option_map sort_in (cond b (Some (seen m.thing)) (found (items_of ms) r.id))) (not_among ms r m.id d o) ∙ moved_named ms r ds o

-- each of them is one that moves
pub names_itself : (ms : List MovedItem) (P : Ref → Type 0) → ((r : Ref) → NamesOne ms r → P r) → Each P (map ref_of ms)
names_itself ms P f = over_all ms f
  where
    over_all : (xs : List MovedItem) → ((r : Ref) → NamesOne xs r → P r) → Each P (map ref_of xs)
    over_all [] g = tt
    over_all (x ∷ xs) g = (g (ref_of x) (inl (refl, refl)), over_all xs (λ r o. g r (inr o)))

-- ---- new ids

-- none of these is in the store, and no two are alike
pub are_new : (z : Store) (ms : List MovedItem) → Each (λ (m : MovedItem). is_there z m.id ≡ false) ms → AllDiffer (ids_of ms) → AreNew z (items_of ms)
are_new z [] n d = tt
are_new z (m ∷ ms) (n, ns) (d, ds) = (n, are_new (z ++ item_of m ∷ []) ms (rest ms ns d) ds)
  where
    rest : (xs : List MovedItem) → Each (λ (x : MovedItem). is_there z x.id ≡ false) xs → IsNoneOf (ids_of xs) m.id → Each (λ (x : MovedItem). is_there (z ++ item_of m ∷ []) x.id ≡ false) xs
    rest [] n o = tt
    rest (x ∷ xs) (n, ns) (o, os) = (ap is_some (found_past z (item_of m ∷ []) x.id n) ∙ ap (λ b. is_some (cond b (Some (seen m.thing)) None)) (flipped m.id x.id o), rest xs ns os)
