-- Of a thing that is not there nothing is counted, and a thread that is to start is not there.
use Rattle.std.proofs.Common.{◌≡◌, ◌^◌, ℕ, suc, ◌+◌, Bool, true, false, cond, List, [], ◌∷◌, ◌++◌, length, map, flat_map, Option, Some, None, is_some, option_map, refl, sym, ap, ◌∙◌, inl, inr, arith}
use Rattle.rb_model.specs.declared.value.Id.{Id}
use Rattle.rb_model.specs.declared.value.Ref.{Ref}
use Rattle.rb_model.specs.declared.value.Sort.{Sort}
use Rattle.rb_model.specs.declared.value.Value.{Value}
use Rattle.rb_model.specs.declared.value.Value.TheVariants as value
use Rattle.rb_model.specs.Acts.{Act, Reply}
use Rattle.rb_model.specs.Log.{Call, On, Start, Gather, Print, End}
use Rattle.rb_model.specs.declared.call.End.{End as EndHeld}
use Rattle.rb_model.specs.declared.call.End.TheVariants as end
use Rattle.rb_model.specs.Ends.{over, told}
use Rattle.rb_model.specs.Moving.{refs_in, refs_in_all, refs_in_end}
use Rattle.rb_model.specs.Private.{Item}
use Rattle.rb_model.specs.Started.{started, thread_id}
use Rattle.rb_model.specs.Things.{Thing}
use Rattle.rb_model.specs.Values.{Value as Val, Nil, False, True, Int, Sym, Str, To, same_id, plain}
use Rattle.rb_shared.specs.History.{Event, Leads, by}
use Rattle.rb_shared.specs.Lists.{Has, Each}
use Rattle.rb_shared.specs.Step.{ids_in, store_behind}
use Rattle.rb_shared.specs.Store.{Store, found, is_there, opening}
use Rattle.rb_shared.proofs.Runs.{each_front, each_behind, each_has, each_more, same_is}
use Rattle.shared_run.specs.Run.{Run, IsRun, ComesFrom}
use Rattle.shared_run.specs.Standing.{NamesHeld, Fits, sort_in}
use Rattle.shared_run.proofs.Behind.{sort_behind}
use Rattle.heap_core.specs.Charges.{Tally, tally_moved, tally_call, tally_entry, tally_on, opening_tally, tally_of, resized, sizes_behind, sized_of, takes_nothing}
use Rattle.heap_core.specs.Sizes.{Size, Sized, size_of_id, with_size, size_behind}
use Rattle.heap_core.proofs.Tallies.{tally_store}
use Rattle.heap_core.proofs.Things.{size_front, sized_none}

not_same : (a b : Id) → (a ≡ b → ⊥) → same_id a b ≡ false
not_same a b ne = by_test (same_id a b) refl
  where
    by_test : (c : Bool) → same_id a b ≡ c → c ≡ false
    by_test true s = absurd (ne (same_is a b s))
    by_test false s = refl

-- none of these has the id
pub not_found : (xs : List Item) (id : Id) → Each (λ (x : Item). x.id ≡ id → ⊥) xs → found xs id ≡ None
not_found [] id d = refl
not_found (x ∷ xs) id (d, ds) = ap (λ b. cond b (Some x.thing) (found xs id)) (not_same x.id id d) ∙ not_found xs id ds

some_none : (thing : Thing) → Some thing ≡ None → ⊥
some_none thing e = cc

pub found_past : (z more : Store) (id : Id) → found z id ≡ None → found (z ++ more) id ≡ found more id
found_past [] more id gone = refl
found_past (x ∷ xs) more id gone = by_test (same_id x.id id) (found_past xs more id) gone
  where
    by_test : (b : Bool) → (found xs id ≡ None → found (xs ++ more) id ≡ found more id) → cond b (Some x.thing) (found xs id) ≡ None → cond b (Some x.thing) (found (xs ++ more) id) ≡ found more id
    by_test true rest gone = absurd (some_none x.thing gone)
    by_test false rest gone = rest gone

-- what is not in the whole is in neither part
found_front : (z more : Store) (id : Id) → found (z ++ more) id ≡ None → found z id ≡ None
found_front [] more id gone = refl
found_front (x ∷ xs) more id gone = by_test (same_id x.id id) (found_front xs more id) gone
  where
    by_test : (b : Bool) → (found (xs ++ more) id ≡ None → found xs id ≡ None) → cond b (Some x.thing) (found (xs ++ more) id) ≡ None → cond b (Some x.thing) (found xs id) ≡ None
    by_test true rest gone = gone
    by_test false rest gone = rest gone

-- no call takes a thing away
found_before : (slots : ℕ) (w : Store) (t : ℕ) (c : Call) (id : Id) → found (store_behind slots w t c) id ≡ None → found w id ≡ None
found_before slots w t c id gone = by_option (found w id) refl
  where
    none_some : (s : Sort) → None ≡ Some s → ⊥
    none_some s e = cc

    by_option : (o : Option Thing) → found w id ≡ o → o ≡ None
    by_option None is = refl
    by_option (Some thing) is = absurd (none_some (sort_in thing) (sym (ap (option_map sort_in) gone) ∙ sort_behind slots w t c id (sort_in thing) (ap (option_map sort_in) is)))

-- ---- sizes

with_none : (xs : List Sized) (a id : Id) (size : Size) → size_of_id xs id ≡ None → size_of_id (with_size xs a size) id ≡ None
with_none [] a id size gone = refl
with_none (x ∷ xs) a id size gone = by_test (same_id x.id a) (same_id x.id id) refl gone (with_none xs a id size)
  where
    size_none : (s : Size) → Some s ≡ None → ⊥
    size_none s e = cc

    by_test : (b c : Bool) → same_id x.id id ≡ c → cond c (Some x.size) (size_of_id xs id) ≡ None → (size_of_id xs id ≡ None → size_of_id (with_size xs a size) id ≡ None)
        → size_of_id (cond b (record { id = x.id; size = size } ∷ xs) (x ∷ with_size xs a size)) id ≡ None
    by_test b true is gone rest = absurd (size_none x.size gone)
    by_test true false is gone rest = ap (λ y. cond y (Some size) (size_of_id xs id)) is ∙ gone
    by_test false false is gone rest = ap (λ y. cond y (Some x.size) (size_of_id (with_size xs a size) id)) is ∙ rest gone

-- of what is not in the store nothing is counted
abbrev Counts : Tally → Type 0
Counts t = (id : Id) → found t.store id ≡ None → size_of_id t.sizes id ≡ None

resized_none : (xs : List Sized) (a id : Id) (thing : Option Thing) (size : Option Size) (act : Act) → size_of_id xs id ≡ None → size_of_id (resized xs a thing size act) id ≡ None
resized_none xs a id (Some thing) (Some size) act gone = with_none xs a id (size_behind thing act size) gone
resized_none xs a id (Some thing) None act gone = gone
resized_none xs a id None size act gone = gone

behind_none : (t : Tally) (c : Call) (id : Id) → size_of_id t.sizes id ≡ None → size_of_id (sizes_behind t c) id ≡ None
behind_none t (On a act) id gone = resized_none t.sizes a.id id (found t.store a.id) (size_of_id t.sizes a.id) act gone
behind_none t (Start a body values) id gone = gone
behind_none t (Gather r) id gone = gone
behind_none t (Print bytes) id gone = gone
behind_none t (End how) id gone = gone

moved_counts : (t : Tally) (ms : List Item) → Counts t → Counts (tally_moved t ms)
moved_counts t ms counts id gone =
    let front = found_front t.store ms id gone in
    size_front t.sizes (sized_of ms) id (sized_none ms id (sym (found_past t.store ms id front) ∙ gone)) ∙ counts id front

call_counts : (slots : ℕ) (made : List Rattle.shape_core.specs.Shape.Shape) (t : Tally) (thread : ℕ) (c : Call) (r : Reply) → Counts t → Counts (tally_call slots made t thread c r)
call_counts slots made t thread c r counts id gone = by_test (takes_nothing c r)
  where
    before : size_of_id t.sizes id ≡ None
    before = counts id (found_before slots t.store thread c id gone)

    by_test : (b : Bool) → size_of_id (cond b t.sizes (sizes_behind t c)) id ≡ None
    by_test true = before
    by_test false = behind_none t c id before

on_counts : (slots : ℕ) (t : Tally) (es : List Event) → Counts t → Counts (tally_on slots t es)
on_counts slots t [] counts = counts
on_counts slots t (e ∷ es) counts =
    on_counts slots (tally_entry slots t e) es (call_counts slots t.shapes (tally_moved t e.entry.moved) e.thread e.entry.call e.entry.reply (moved_counts t e.entry.moved counts))

opening_counts : Counts opening_tally
opening_counts id gone = by_test (same_id Rattle.rb_shared.specs.Store.globals id) gone
  where
    by_test : (b : Bool) → cond b (Some (Rattle.rb_model.specs.Things.Object 4294967295 [])) None ≡ None → cond b (Some (Rattle.heap_core.specs.Sizes.Shaped Rattle.heap_core.specs.Charges.globals_shape)) None ≡ None
    by_test true e = absurd (some_none (Rattle.rb_model.specs.Things.Object 4294967295 []) e)
    by_test false e = refl

pub size_absent : (slots : ℕ) (events : List Event) (z : Store) (id : Id) → Leads slots opening events z → found z id ≡ None → size_of_id (tally_of slots events).sizes id ≡ None
size_absent slots events z id leads gone = on_counts slots opening_tally events opening_counts id (ap (λ y. found y id) (tally_store slots opening_tally opening z events refl leads) ∙ gone)

-- ---- a thread that is to start

start_differs : (events : List Event) (t : ℕ) (id : Id) (x : Item) → id ≡ thread_id t (length (started (by t events))) → ComesFrom events x → x.id ≡ id → ⊥
start_differs events t id x next (inl g) is = let serial : 0 ≡ 2 ^ 63 + suc (length (started (by t events))) = ap (λ (i : Id). i.serial) (sym g ∙ (is ∙ next)) in omega (arith, serial)
start_differs events t id x next (inr (inl m)) is =
    let low = m.0 in let serial : x.id.serial ≡ 2 ^ 63 + suc (length (started (by t events))) = ap (λ (i : Id). i.serial) (is ∙ next) in omega (arith, low, serial)
start_differs events t id x next (inr (inr s)) is =
    let same : thread_id s.0 s.1 ≡ thread_id t (length (started (by t events))) = sym s.2 ∙ (is ∙ next) in
    let thread : s.0 ≡ t = ap (λ (i : Id). i.thread) same in
    let serial : 2 ^ 63 + suc s.1 ≡ 2 ^ 63 + suc (length (started (by t events))) = ap (λ (i : Id). i.serial) same in
    let few = s.3 in let count = ap (λ n. length (started (by n events))) thread in omega (arith, serial, few, count)

pub start_absent : (slots : ℕ) (run : Run) (t : ℕ) (id : Id) → IsRun slots run → id ≡ thread_id t (length (started (by t run.events))) → found run.store id ≡ None
start_absent slots run t id r next = not_found run.store id (each_more (ComesFrom run.events) (λ (x : Item). x.id ≡ id → ⊥) (λ x c. start_differs run.events t id x next c) run.store r.from)

-- ---- the values that it is given

module _ (w : Store) where
  value_fits : (v : Value) → Each (NamesHeld w) (refs_in v) → Fits w (plain v)
  value_fits value.Nil n = tt
  value_fits value.False n = tt
  value_fits value.True n = tt
  value_fits (value.Int i) n = tt
  value_fits (value.Sym name) n = tt
  value_fits (value.Str bytes) n = tt
  value_fits (value.Ref r) n = n.0

  all_fit : (vs : List Value) → Each (NamesHeld w) (refs_in_all vs) → Each (Fits w) (map plain vs)
  all_fit [] n = tt
  all_fit (v ∷ vs) n = (value_fits v (each_front (NamesHeld w) (refs_in v) (refs_in_all vs) n), all_fit vs (each_behind (NamesHeld w) (refs_in v) (refs_in_all vs) n))

  -- values whose references are known name things of the store
  pub known_fit : (known : List Ref) (vs : List Value) → Each (NamesHeld w) known → Each (λ (r : Ref). Has known r) (refs_in_all vs) → Each (Fits w) (map plain vs)
  known_fit known vs named has = all_fit vs (each_more (λ (r : Ref). Has known r) (NamesHeld w) (λ r h. each_has (NamesHeld w) known r named h) (refs_in_all vs) has)

  -- and so does that which an end tells
  pub end_fit : (known : List Ref) (e : EndHeld) → Each (NamesHeld w) known → Each (λ (r : Ref). Has known r) (refs_in_end e) → Each (Fits w) (told (over e))
  end_fit known (end.Value v) named has = (value_fits v (each_more (λ (r : Ref). Has known r) (NamesHeld w) (λ r h. each_has (NamesHeld w) known r named h) (refs_in v) has), tt)
  end_fit known (end.Raised f at) named has = tt
  end_fit known end.Steps named has = tt
  end_fit known (end.Full used wanted) named has = tt
  end_fit known end.Sink named has = tt
  end_fit known end.Memory named has = tt

  sort_there : (o : Option Thing) (s : Sort) → option_map sort_in o ≡ Some s → is_some o ≡ true
  sort_there None s e = absurd (cc)
  sort_there (Some x) s e = refl

  ids_first : (v : Val) (rest : List Id) → Fits w v → Each (λ (i : Id). is_there w i ≡ true) rest → Each (λ (i : Id). is_there w i ≡ true) (ids_in v ++ rest)
  ids_first Nil rest f more = more
  ids_first False rest f more = more
  ids_first True rest f more = more
  ids_first (Int n) rest f more = more
  ids_first (Sym name) rest f more = more
  ids_first (Str bytes) rest f more = more
  ids_first (To r) rest f more = (sort_there (found w r.id) r.sort f, more)

  pub ids_fit : (vs : List Val) → Each (Fits w) vs → Each (λ (i : Id). is_there w i ≡ true) (flat_map ids_in vs)
  ids_fit [] f = tt
  ids_fit (v ∷ vs) (f, fs) = ids_first v (flat_map ids_in vs) f (ids_fit vs fs)
