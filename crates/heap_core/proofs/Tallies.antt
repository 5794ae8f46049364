-- What is counted stays where a read is put in.
use Rattle.std.proofs.Common.{◌≡◌, ◌||◌, ℕ, ◌+◌, Bool, true, false, cond, List, [], ◌∷◌, ◌++◌, Option, Some, None, refl, sym, ap, ◌∙◌, subst, arith, append-nil}
use Rattle.rb_model.specs.declared.value.Id.{Id}
use Rattle.rb_model.specs.declared.fault.Fault.TheVariants.{ThreadLimit}
use Rattle.rb_model.specs.Acts.{Act, Reply, Failed, Started}
use Rattle.rb_model.specs.Things.{Thing}
use Rattle.rb_model.specs.Started.{to_thread}
use Rattle.rb_model.specs.Values.{Value as Val, Reference}
use Rattle.rb_model.specs.Log.{Call, On, Start, Print, End, Entry, plain_entry}
use Rattle.rb_model.specs.Ends.{End as Ending, told}
use Rattle.rb_shared.specs.History.{Event, Leads}
use Rattle.rb_shared.specs.Step.{store_behind}
use Rattle.rb_shared.specs.Store.{Store, found, opening}
use Rattle.shared_run.specs.Run.{Run, MayRead, event_of}
use Rattle.std.specs.List.{list_any}
use Rattle.rb_shared.specs.Lists.{Has}
use Rattle.rb_shared.proofs.Runs.{has_front}
use Rattle.shape_core.specs.Shape.{Shape, same_shape, with_shape}
use Rattle.heap_core.specs.Owning.{bare_entry}
use Rattle.heap_core.specs.Sizes.{Sized, size_of_id}
use Rattle.heap_core.specs.Charges.{blocks_of_all, on_charge, call_charge, resized, with_shapes, shapes_of, shapes_moved, receiver_size, sizes_behind, Tally, is_fault, takes_nothing, tally_moved, tally_call, tally_entry, tally_on, opening_tally, tally_of}

pub tally_append : (slots : ℕ) (t : Tally) (xs ys : List Event) → tally_on slots t (xs ++ ys) ≡ tally_on slots (tally_on slots t xs) ys
tally_append slots t [] ys = refl
tally_append slots t (x ∷ xs) ys = tally_append slots (tally_entry slots t x) xs ys

-- the store that is counted on is the one that the plain steps lead to
pub tally_store : (slots : ℕ) (t : Tally) (z z' : Store) (es : List Event) → t.store ≡ z → Leads slots z es z' → (tally_on slots t es).store ≡ z'
tally_store slots t z z' [] same l = same ∙ sym l
tally_store slots t z z' (e ∷ es) same (y, s, l) =
    tally_store slots (tally_entry slots t e) y z' es (ap (λ x. store_behind slots (x ++ e.entry.moved) e.thread e.entry.call) same ∙ sym s.store_is) l

pub moved_none : (t : Tally) → tally_moved t [] ≡ t
moved_none t i = record {
  words = (let z : t.words + 0 ≡ t.words = omega arith in z) i;
  shapes = t.shapes;
  sizes = append-nil t.sizes i;
  store = append-nil t.store i;
}

-- where a call takes nothing and leaves the store, it leaves the counts
call_none : (slots : ℕ) (made : List Rattle.shape_core.specs.Shape.Shape) (t : Tally) (thread : ℕ) (c : Call) (r : Reply) → takes_nothing c r ≡ true → store_behind slots t.store thread c ≡ t.store → tally_call slots made t thread c r ≡ t
call_none slots made t thread c r takes same i = record {
  words = (ap (λ b. t.words + cond b 0 (Rattle.heap_core.specs.Charges.call_charge made t c)) takes ∙ (let z : t.words + 0 ≡ t.words = omega arith in z)) i;
  shapes = ap (λ b. cond b t.shapes (Rattle.heap_core.specs.Charges.with_shapes t.shapes (Rattle.heap_core.specs.Charges.shapes_of (Rattle.heap_core.specs.Charges.receiver_size c (Rattle.heap_core.specs.Charges.sizes_behind t c))))) takes i;
  sizes = ap (λ b. cond b t.sizes (Rattle.heap_core.specs.Charges.sizes_behind t c)) takes i;
  store = same i;
}

or_true : (b : Bool) → (b || true) ≡ true
or_true true = refl
or_true false = refl

pub tally_read : (slots : ℕ) (run : Run) (t : ℕ) (e : Entry) (front behind : List Event) → MayRead slots run t e front behind → tally_of slots (front ++ event_of t e ∷ behind) ≡ tally_of slots run.events
tally_read slots run t e front behind may =
    let old = tally_of slots front in
    let here : old.store ≡ may.store = tally_store slots opening_tally opening may.store front refl may.leads in
    let moved : tally_moved old e.moved ≡ old = ap (tally_moved old) may.bare ∙ moved_none old in
    let bare : may.store ++ e.moved ≡ may.store = ap (λ ms. may.store ++ ms) may.bare ∙ append-nil may.store in
    let stays : store_behind slots old.store t e.call ≡ old.store = ap (λ z. store_behind slots z t e.call) (here ∙ sym bare) ∙ (sym may.steps.store_is ∙ sym here) in
    let nothing : takes_nothing e.call e.reply ≡ true = ap (λ b. is_fault e.reply || b) may.reads ∙ or_true (is_fault e.reply) in
    let same : tally_entry slots old (event_of t e) ≡ old = ap (λ x. tally_call slots old.shapes x t e.call e.reply) moved ∙ call_none slots old.shapes old t e.call e.reply nothing stays in
    tally_append slots opening_tally front (event_of t e ∷ behind)
    ∙ (ap (λ x. tally_on slots x behind) same ∙ (sym (tally_append slots opening_tally front behind) ∙ ap (tally_of slots) (sym may.split)))

-- ---- shapes that are made stay made

with_one : (made : List Shape) (x y : Shape) → Has made x → Has (with_shape made y) x
with_one made x y h = by_test (list_any (same_shape y) made)
  where
    by_test : (b : Bool) → Has (cond b made (made ++ y ∷ [])) x
    by_test true = h
    by_test false = has_front made (y ∷ []) x h

with_all : (made ys : List Shape) (x : Shape) → Has made x → Has (with_shapes made ys) x
with_all made [] x h = h
with_all made (y ∷ ys) x h = with_all (with_shape made y) ys x (with_one made x y h)

pub made_after : (slots : ℕ) (events : List Event) (t : ℕ) (e : Entry) (x : Shape) → Has (tally_of slots events).shapes x → Has (tally_of slots (events ++ event_of t e ∷ [])).shapes x
made_after slots events t e x h =
    let old = tally_of slots events in
    let moved = with_all old.shapes (shapes_moved e.moved) x h in
    subst (λ (y : Tally). Has y.shapes x) (sym (tally_append slots opening_tally events (event_of t e ∷ []))) (by_test (takes_nothing e.call e.reply) moved)
  where
    by_test : (b : Bool) → Has (tally_moved (tally_of slots events) e.moved).shapes x
        → Has (cond b (tally_moved (tally_of slots events) e.moved).shapes (with_shapes (tally_moved (tally_of slots events) e.moved).shapes (shapes_of (receiver_size e.call (sizes_behind (tally_moved (tally_of slots events) e.moved) e.call))))) x
    by_test true m = m
    by_test false m = with_all (tally_moved (tally_of slots events) e.moved).shapes (shapes_of (receiver_size e.call (sizes_behind (tally_moved (tally_of slots events) e.moved) e.call))) x m

-- ---- a print takes nothing and makes no shape

pub tally_print : (slots : ℕ) (events : List Event) (t step : ℕ) (bytes : List ℕ)
    → ((tally_of slots (events ++ event_of t (plain_entry step (Print bytes)) ∷ [])).words ≡ (tally_of slots events).words)
    × ((tally_of slots (events ++ event_of t (plain_entry step (Print bytes)) ∷ [])).shapes ≡ (tally_of slots events).shapes)
tally_print slots events t step bytes =
    let more = tally_append slots opening_tally events (event_of t (plain_entry step (Print bytes)) ∷ []) in (
      ap (λ (x : Tally). x.words) more ∙ (let z : (tally_of slots events).words + 0 + 0 ≡ (tally_of slots events).words = omega arith in z),
      ap (λ (x : Tally). x.shapes) more,
    )

-- ---- an act on a thing of which nothing is counted takes nothing

charge_none : (made : List Shape) (o : Option Thing) (act : Act) → on_charge made o None act ≡ 0
charge_none made None act = refl
charge_none made (Some thing) act = refl

resized_none : (sizes : List Sized) (id : Id) (o : Option Thing) (act : Act) → resized sizes id o None act ≡ sizes
resized_none sizes id None act = refl
resized_none sizes id (Some thing) act = refl

-- what a call leaves that takes nothing, where no size stands under its thing's id
pub tally_unsized : (slots : ℕ) (events : List Event) (t : ℕ) (e : Entry) (thing : Reference) (act : Act) → e.call ≡ On thing act → e.moved ≡ [] → size_of_id (tally_of slots events).sizes thing.id ≡ None
    → ((tally_of slots (events ++ event_of t e ∷ [])).words ≡ (tally_of slots events).words)
    × ((tally_of slots (events ++ event_of t e ∷ [])).shapes ≡ (tally_of slots events).shapes)
    × ((tally_of slots (events ++ event_of t e ∷ [])).sizes ≡ (tally_of slots events).sizes)
tally_unsized slots events t e thing act is bare none_counted =
    let old : Tally = tally_of slots events in
    let more : tally_of slots (events ++ event_of t e ∷ []) ≡ tally_call slots old.shapes old t (On thing act) e.reply =
    tally_append slots opening_tally events (event_of t e ∷ [])
    ∙ (ap (λ x. tally_call slots old.shapes x t e.call e.reply) (ap (tally_moved old) bare ∙ moved_none old) ∙ ap (λ c. tally_call slots old.shapes old t c e.reply) is) in (
      ap (λ (x : Tally). x.words) more ∙ words (takes_nothing (On thing act) e.reply),
      ap (λ (x : Tally). x.shapes) more ∙ shapes (takes_nothing (On thing act) e.reply),
      ap (λ (x : Tally). x.sizes) more ∙ sizes (takes_nothing (On thing act) e.reply),
    )
  where
    same_sizes : sizes_behind (tally_of slots events) (On thing act) ≡ (tally_of slots events).sizes
    same_sizes = ap (λ o. resized (tally_of slots events).sizes thing.id (found (tally_of slots events).store thing.id) o act) none_counted ∙ resized_none (tally_of slots events).sizes thing.id (found (tally_of slots events).store thing.id) act

    words : (b : Bool) → (tally_of slots events).words + cond b 0 (call_charge (tally_of slots events).shapes (tally_of slots events) (On thing act)) ≡ (tally_of slots events).words
    words true = omega arith
    words false =
        let charge : call_charge (tally_of slots events).shapes (tally_of slots events) (On thing act) ≡ 0 = ap (λ o. on_charge (tally_of slots events).shapes (found (tally_of slots events).store thing.id) o act) none_counted ∙ charge_none (tally_of slots events).shapes (found (tally_of slots events).store thing.id) act in
        omega (arith, charge)

    shapes : (b : Bool) → cond b (tally_of slots events).shapes (with_shapes (tally_of slots events).shapes (shapes_of (receiver_size (On thing act) (sizes_behind (tally_of slots events) (On thing act))))) ≡ (tally_of slots events).shapes
    shapes true = refl
    shapes false = ap (λ l. with_shapes (tally_of slots events).shapes (shapes_of (size_of_id l thing.id))) same_sizes ∙ ap (λ o. with_shapes (tally_of slots events).shapes (shapes_of o)) none_counted

    sizes : (b : Bool) → cond b (tally_of slots events).sizes (sizes_behind (tally_of slots events) (On thing act)) ≡ (tally_of slots events).sizes
    sizes true = refl
    sizes false = same_sizes

-- ---- an end that tells no value takes nothing

pub tally_end : (slots : ℕ) (events : List Event) (t step : ℕ) (how : Ending) → told how ≡ []
    → ((tally_of slots (events ++ event_of t (plain_entry step (End how)) ∷ [])).words ≡ (tally_of slots events).words)
    × ((tally_of slots (events ++ event_of t (plain_entry step (End how)) ∷ [])).shapes ≡ (tally_of slots events).shapes)
tally_end slots events t step how nothing =
    let more = tally_append slots opening_tally events (event_of t (plain_entry step (End how)) ∷ []) in (
      ap (λ (x : Tally). x.words) more ∙ (ap (λ vs. (tally_of slots events).words + 0 + blocks_of_all vs) nothing ∙ (let z : (tally_of slots events).words + 0 + 0 ≡ (tally_of slots events).words = omega arith in z)),
      ap (λ (x : Tally). x.shapes) more,
    )

-- ---- a thread that is started takes its words, and one that can not be takes nothing

pub tally_start : (slots : ℕ) (events : List Event) (t step : ℕ) (id : Id) (body : ℕ) (values : List Val) (n : ℕ)
    → ((tally_of slots (events ++ event_of t (bare_entry step (Start id body values) (Started n (to_thread id))) ∷ [])).words ≡ (tally_of slots events).words + 8)
    × ((tally_of slots (events ++ event_of t (bare_entry step (Start id body values) (Started n (to_thread id))) ∷ [])).shapes ≡ (tally_of slots events).shapes)
    × ((tally_of slots (events ++ event_of t (bare_entry step (Start id body values) (Started n (to_thread id))) ∷ [])).sizes ≡ (tally_of slots events).sizes)
tally_start slots events t step id body values n =
    let more = tally_append slots opening_tally events (event_of t (bare_entry step (Start id body values) (Started n (to_thread id))) ∷ []) in (
      ap (λ (x : Tally). x.words) more ∙ (let z : (tally_of slots events).words + 0 + 8 ≡ (tally_of slots events).words + 8 = omega arith in z),
      ap (λ (x : Tally). x.shapes) more,
      ap (λ (x : Tally). x.sizes) more ∙ append-nil (tally_of slots events).sizes,
    )

pub tally_full : (slots : ℕ) (events : List Event) (t step : ℕ) (id : Id) (body : ℕ) (values : List Val)
    → ((tally_of slots (events ++ event_of t (bare_entry step (Start id body values) (Failed ThreadLimit)) ∷ [])).words ≡ (tally_of slots events).words)
    × ((tally_of slots (events ++ event_of t (bare_entry step (Start id body values) (Failed ThreadLimit)) ∷ [])).shapes ≡ (tally_of slots events).shapes)
tally_full slots events t step id body values =
    let more = tally_append slots opening_tally events (event_of t (bare_entry step (Start id body values) (Failed ThreadLimit)) ∷ []) in (
      ap (λ (x : Tally). x.words) more ∙ (let z : (tally_of slots events).words + 0 + 0 ≡ (tally_of slots events).words = omega arith in z),
      ap (λ (x : Tally). x.shapes) more,
    )

-- ---- an end takes the block of its value

pub tally_told : (slots : ℕ) (events : List Event) (t step : ℕ) (how : Ending)
    → ((tally_of slots (events ++ event_of t (plain_entry step (End how)) ∷ [])).words ≡ (tally_of slots events).words + blocks_of_all (told how))
    × ((tally_of slots (events ++ event_of t (plain_entry step (End how)) ∷ [])).shapes ≡ (tally_of slots events).shapes)
    × ((tally_of slots (events ++ event_of t (plain_entry step (End how)) ∷ [])).sizes ≡ (tally_of slots events).sizes)
tally_told slots events t step how =
    let more = tally_append slots opening_tally events (event_of t (plain_entry step (End how)) ∷ []) in (
      ap (λ (x : Tally). x.words) more ∙ (let z : (tally_of slots events).words + 0 + blocks_of_all (told how) ≡ (tally_of slots events).words + blocks_of_all (told how) = omega arith in z),
      ap (λ (x : Tally). x.shapes) more,
      ap (λ (x : Tally). x.sizes) more ∙ append-nil (tally_of slots events).sizes,
    )
