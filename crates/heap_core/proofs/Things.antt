-- What an entry leaves of the things and sizes that it does not touch.
use Rattle.std.proofs.Common.{◌≡◌, ◌⊎◌, ◌==◌, ◌||◌, ◌+◌, ℕ, Bool, true, false, not, cond, count_by, List, [], ◌∷◌, ◌++◌, map, Option, Some, None, is_some, refl, sym, ap, ◌∙◌, inl, inr, true≢false}
use Rattle.std.specs.Option.{option_map}
use Rattle.std.proofs.lemmas.List.Sums.{sum_by-cons}
use mathlib.Core.Logic.{dite}
use native.Mathlib.Decide.{ℕ_discrete}
use Rattle.rb_model.specs.declared.value.Id.{Id}
use Rattle.rb_model.specs.Acts.{Act, Join}
use Rattle.rb_model.specs.Ends.{End as Ending}
use Rattle.rb_model.specs.Log.{Call, On, Start, Gather, Print, End, Entry, has_end, is_end}
use Rattle.rb_model.specs.Things.{Thing, ThreadState, Object, Elements, Pairs, Mutex, Thread}
use Rattle.rb_model.specs.Values.{same_id}
use Rattle.rb_shared.specs.History.{Event, by}
use Rattle.rb_model.specs.Private.{Item}
use Rattle.rb_shared.specs.Step.{AreNew, store_behind, with_act, ended_item, ended_thing, new_thread}
use Rattle.rb_shared.specs.Store.{Store, found, with_thing, thread_in, threads, ungathered_count, is_full}
use Rattle.rb_shared.specs.Lists.{Has}
use Rattle.rb_shared.proofs.Runs.{found_more, has_behind}
use Rattle.shared_run.specs.Run.{event_of}
use Rattle.shared_run.proofs.Events.{has_either, by_own, by_other, has_end_append, has_end_last}
use Rattle.heap_core.specs.Sizes.{Size, Sized, first_size, size_of_id, with_size}
use Rattle.heap_core.specs.Charges.{sized_first, Tally, tally_moved, tally_entry, tally_on, opening_tally, tally_of, resized, sizes_behind, sized_of, takes_nothing}

-- the call is on this thing
abbrev pub Touches : Call → Id → Type 0
Touches (On thing act) id = same_id thing.id id ≡ true
Touches (Gather thread) id = same_id thread.id id ≡ true
Touches call id = ⊥

either_way : (b : Bool) → (b ≡ true) ⊎ (b ≡ false)
either_way true = inl refl
either_way false = inr refl

not_touched : (b : Bool) → (b ≡ true → ⊥) → b ≡ false
not_touched true no_way = absurd (no_way refl)
not_touched false no_way = refl

-- ---- things

found_else : (z : Store) (a id : Id) (thing : Thing) → same_id a id ≡ false → found (with_thing z a thing) id ≡ found z id
found_else [] a id thing off = refl
found_else (x ∷ xs) a id thing off = by_test (found_else xs a id thing off) (same_id x.id a) refl
  where
    by_test : found (with_thing xs a thing) id ≡ found xs id → (b : Bool) → same_id x.id a ≡ b → found (cond b (record { id = x.id; thing = thing } ∷ xs) (x ∷ with_thing xs a thing)) id ≡ cond (same_id x.id id) (Some x.thing) (found xs id)
    by_test more true is = let far : same_id x.id id ≡ false = ap (λ (y : Id). same_id y id) (Rattle.rb_shared.proofs.Runs.same_is x.id a is) ∙ off in
        ap (λ b. cond b (Some thing) (found xs id)) far ∙ sym (ap (λ b. cond b (Some x.thing) (found xs id)) far)
    by_test more false is = ap (λ (o : Option Thing). cond (same_id x.id id) (Some x.thing) o) more

-- another thing under an id that is there
pub found_here : (z : Store) (id : Id) (old new : Thing) → found z id ≡ Some old → found (with_thing z id new) id ≡ Some new
found_here [] id old new is = absurd (let h : None ≡ Some old = is in cc)
found_here (x ∷ xs) id old new is = by_test (found_here xs id old new) (same_id x.id id) refl
  where
    by_test : (found xs id ≡ Some old → found (with_thing xs id new) id ≡ Some new) → (b : Bool) → same_id x.id id ≡ b → found (cond b (record { id = x.id; thing = new } ∷ xs) (x ∷ with_thing xs id new)) id ≡ Some new
    by_test more true same = ap (λ b. cond b (Some new) (found xs id)) same
    by_test more false same = ap (λ b. cond b (Some x.thing) (found (with_thing xs id new) id)) same ∙ more (sym (ap (λ b. cond b (Some x.thing) (found xs id)) same) ∙ is)

-- a mutex that becomes another is no thread
pub threads_here : (z : Store) (id : Id) (old new : Option ℕ) → found z id ≡ Some (Mutex old) → threads (with_thing z id (Mutex new)) ≡ threads z
threads_here [] id old new is = refl
threads_here (x ∷ xs) id old new is = by_test (threads_here xs id old new) (same_id x.id id) refl
  where
    thing_is : (a b : Thing) → Some a ≡ Some b → a ≡ b
    thing_is a b e = cc

    by_test : (found xs id ≡ Some (Mutex old) → threads (with_thing xs id (Mutex new)) ≡ threads xs) → (b : Bool) → same_id x.id id ≡ b → threads (cond b (record { id = x.id; thing = Mutex new } ∷ xs) (x ∷ with_thing xs id (Mutex new))) ≡ thread_in x.thing ++ threads xs
    by_test more true same = ap (λ y. thread_in y ++ threads xs) (sym (thing_is x.thing (Mutex old) (sym (ap (λ b. cond b (Some x.thing) (found xs id)) same) ∙ is)))
    by_test more false same = ap (λ l. thread_in x.thing ++ l) (more (sym (ap (λ b. cond b (Some x.thing) (found xs id)) same) ∙ is))

-- a thread is there behind the end of another or its own, with its number, and gathered where it was
pub thread_ends : (z : Store) (t : ℕ) (how : Ending) (x : ThreadState) → Has (threads z) x → (y : ThreadState) × Has (threads (map (ended_item t how) z)) y × (y.number ≡ x.number) × (y.gathered ≡ x.gathered)
thread_ends [] t how x h = absurd h
thread_ends (i ∷ z) t how x h = by_thing i.thing (has_either (thread_in i.thing) (threads z) x h) (λ more. thread_ends z t how x more)
  where
    same : (b : Bool) (s : ThreadState) → ((cond b (record s { end = Some how }) s).number ≡ s.number) × ((cond b (record s { end = Some how }) s).gathered ≡ s.gathered)
    same true s = (refl, refl)
    same false s = (refl, refl)

    by_thing : (thing : Thing) → Has (thread_in thing) x ⊎ Has (threads z) x → (Has (threads z) x → (y : ThreadState) × Has (threads (map (ended_item t how) z)) y × (y.number ≡ x.number) × (y.gathered ≡ x.gathered))
        → (y : ThreadState) × Has (thread_in (ended_thing t how thing) ++ threads (map (ended_item t how) z)) y × (y.number ≡ x.number) × (y.gathered ≡ x.gathered)
    by_thing thing (inr more) rest = let p = rest more in (p.0, has_behind (thread_in (ended_thing t how thing)) (threads (map (ended_item t how) z)) p.0 p.1, p.2, p.3)
    by_thing (Thread s) (inl (inl e)) rest = let p = same (s.number == t) s in (cond (s.number == t) (record s { end = Some how }) s, inl refl, p.0 ∙ ap (λ (y : ThreadState). y.number) (sym e), p.1 ∙ ap (λ (y : ThreadState). y.gathered) (sym e))
    by_thing (Thread s) (inl (inr h)) rest = absurd h
    by_thing (Mutex o) (inl h) rest = absurd h
    by_thing (Object c fs) (inl h) rest = absurd h
    by_thing (Elements vs) (inl h) rest = absurd h
    by_thing (Pairs ps) (inl h) rest = absurd h

-- and each that is there then was there before
pub thread_was : (z : Store) (t : ℕ) (how : Ending) (y : ThreadState) → Has (threads (map (ended_item t how) z)) y → (x : ThreadState) × Has (threads z) x × (y.number ≡ x.number) × (y.gathered ≡ x.gathered)
thread_was [] t how y h = absurd h
thread_was (i ∷ z) t how y h = by_thing i.thing (has_either (thread_in (ended_thing t how i.thing)) (threads (map (ended_item t how) z)) y h) (λ more. thread_was z t how y more)
  where
    same : (b : Bool) (s : ThreadState) → ((cond b (record s { end = Some how }) s).number ≡ s.number) × ((cond b (record s { end = Some how }) s).gathered ≡ s.gathered)
    same true s = (refl, refl)
    same false s = (refl, refl)

    by_thing : (thing : Thing) → Has (thread_in (ended_thing t how thing)) y ⊎ Has (threads (map (ended_item t how) z)) y → (Has (threads (map (ended_item t how) z)) y → (x : ThreadState) × Has (threads z) x × (y.number ≡ x.number) × (y.gathered ≡ x.gathered))
        → (x : ThreadState) × Has (thread_in thing ++ threads z) x × (y.number ≡ x.number) × (y.gathered ≡ x.gathered)
    by_thing thing (inr more) rest = let p = rest more in (p.0, has_behind (thread_in thing) (threads z) p.0 p.1, p.2, p.3)
    by_thing (Thread s) (inl (inl e)) rest = let p = same (s.number == t) s in (s, inl refl, ap (λ (x : ThreadState). x.number) e ∙ p.0, ap (λ (x : ThreadState). x.gathered) e ∙ p.1)
    by_thing (Thread s) (inl (inr h)) rest = absurd h
    by_thing (Mutex None) (inl h) rest = absurd h
    by_thing (Mutex (Some o)) (inl h) rest = absurd h
    by_thing (Object c fs) (inl h) rest = absurd h
    by_thing (Elements vs) (inl h) rest = absurd h
    by_thing (Pairs ps) (inl h) rest = absurd h

-- as many are not gathered
pub count_more : (f : ThreadState → Bool) (x : ThreadState) (xs : List ThreadState) → count_by f (x ∷ xs) ≡ cond (f x) 1 0 + count_by f xs
count_more f x xs = sum_by-cons (λ y. cond (f y) 1 0) x xs

pub ungathered_ends : (z : Store) (t : ℕ) (how : Ending) → ungathered_count (map (ended_item t how) z) ≡ ungathered_count z
ungathered_ends [] t how = refl
ungathered_ends (i ∷ z) t how = by_thing i.thing (ungathered_ends z t how)
  where
    left : ThreadState → Bool
    left s = not s.gathered

    same : (b : Bool) (s : ThreadState) → (cond b (record s { end = Some how }) s).gathered ≡ s.gathered
    same true s = refl
    same false s = refl

    by_thing : (thing : Thing) → ungathered_count (map (ended_item t how) z) ≡ ungathered_count z → count_by left (thread_in (ended_thing t how thing) ++ threads (map (ended_item t how) z)) ≡ count_by left (thread_in thing ++ threads z)
    by_thing (Thread s) more =
        let s' : ThreadState = cond (s.number == t) (record s { end = Some how }) s in
        count_more left s' (threads (map (ended_item t how) z)) ∙ (ap (λ b. cond (not b) 1 0 + count_by left (threads (map (ended_item t how) z))) (same (s.number == t) s)
        ∙ (ap (λ n. cond (not s.gathered) 1 0 + n) more ∙ sym (count_more left s (threads z))))
    by_thing (Mutex None) more = more
    by_thing (Mutex (Some o)) more = more
    by_thing (Object c fs) more = more
    by_thing (Elements vs) more = more
    by_thing (Pairs ps) more = more

found_act : (z : Store) (t : ℕ) (a id : Id) (o : Option Thing) (act : Act) → same_id a id ≡ false → found (with_act t z a o act) id ≡ found z id
found_act z t a id None act off = refl
found_act z t a id (Some thing) act off = found_else z a id (Rattle.rb_shared.specs.Step.behind_act t thing act) off

pub found_ended : (z : Store) (t : ℕ) (how : Ending) (id : Id) → found (map (ended_item t how) z) id ≡ option_map (ended_thing t how) (found z id)
found_ended [] t how id = refl
found_ended (x ∷ xs) t how id = by_test (found_ended xs t how id) (same_id x.id id)
  where
    by_test : found (map (ended_item t how) xs) id ≡ option_map (ended_thing t how) (found xs id) → (b : Bool) → cond b (Some (ended_thing t how x.thing)) (found (map (ended_item t how) xs) id) ≡ option_map (ended_thing t how) (cond b (Some x.thing) (found xs id))
    by_test more true = refl
    by_test more false = more

-- behind a call on another thing, or on none, that ends no thread
pub found_behind : (slots : ℕ) (w : Store) (t : ℕ) (c : Call) (id : Id) (thing : Thing) → found w id ≡ Some thing → (Touches c id → ⊥) → is_end c ≡ false → found (store_behind slots w t c) id ≡ Some thing
found_behind slots w t (On r act) id thing is far going = found_act w t r.id id (found w r.id) act (not_touched (same_id r.id id) far) ∙ is
found_behind slots w t (Gather r) id thing is far going = found_act w t r.id id (found w r.id) Join (not_touched (same_id r.id id) far) ∙ is
found_behind slots w t (Start new body values) id thing is far going = by_test (is_full slots w t)
  where
    by_test : (b : Bool) → found (cond b w (w ++ new_thread w t new ∷ [])) id ≡ Some thing
    by_test true = is
    by_test false = found_more w (new_thread w t new ∷ []) id thing is
found_behind slots w t (Print bytes) id thing is far going = is
found_behind slots w t (End how) id thing is far going = absurd (true≢false going)

pub found_at_end : (slots : ℕ) (w : Store) (t : ℕ) (how : Ending) (id : Id) → found (store_behind slots w t (End how)) id ≡ option_map (ended_thing t how) (found w id)
found_at_end slots w t how id = found_ended w t how id

-- ---- who has ended

-- only a thread's own End ends it
pub over_same : (events : List Event) (t : ℕ) (e : Entry) → is_end e.call ≡ false → (u : ℕ) → has_end (by u (events ++ event_of t e ∷ [])) ≡ has_end (by u events)
over_same events t e going u = dite (ℕ_discrete u t)
    (λ is. ap (λ n. has_end (by n (events ++ event_of t e ∷ []))) is
    ∙ (ap has_end (by_own t e events) ∙ (has_end_append (by t events) (e ∷ []) ∙ (ap (λ b. has_end (by t events) || (b || false)) going ∙ (no_more (has_end (by t events)) ∙ ap (λ n. has_end (by n events)) (sym is))))))
    (λ ne. ap has_end (by_other t u e events ne))
  where
    no_more : (b : Bool) → (b || false) ≡ b
    no_more true = refl
    no_more false = refl

pub over_now : (events : List Event) (t : ℕ) (e : Entry) → is_end e.call ≡ true → has_end (by t (events ++ event_of t e ∷ [])) ≡ true
over_now events t e ends = ap has_end (by_own t e events) ∙ has_end_last (by t events) e ends

pub over_other : (events : List Event) (t : ℕ) (e : Entry) (u : ℕ) → (u ≡ t → ⊥) → has_end (by u (events ++ event_of t e ∷ [])) ≡ has_end (by u events)
over_other events t e u ne = ap has_end (by_other t u e events ne)

-- ---- sizes

size_else : (xs : List Sized) (a id : Id) (size : Size) → same_id a id ≡ false → size_of_id (with_size xs a size) id ≡ size_of_id xs id
size_else [] a id size off = refl
size_else (x ∷ xs) a id size off = by_test (size_else xs a id size off) (same_id x.id a) refl
  where
    by_test : size_of_id (with_size xs a size) id ≡ size_of_id xs id → (b : Bool) → same_id x.id a ≡ b → size_of_id (cond b (record { id = x.id; size = size } ∷ xs) (x ∷ with_size xs a size)) id ≡ cond (same_id x.id id) (Some x.size) (size_of_id xs id)
    by_test more true is = let far : same_id x.id id ≡ false = ap (λ (y : Id). same_id y id) (Rattle.rb_shared.proofs.Runs.same_is x.id a is) ∙ off in
        ap (λ b. cond b (Some size) (size_of_id xs id)) far ∙ sym (ap (λ b. cond b (Some x.size) (size_of_id xs id)) far)
    by_test more false is = ap (λ (o : Option Size). cond (same_id x.id id) (Some x.size) o) more

size_resized : (xs : List Sized) (a id : Id) (thing : Option Thing) (size : Option Size) (act : Act) → same_id a id ≡ false → size_of_id (resized xs a thing size act) id ≡ size_of_id xs id
size_resized xs a id (Some thing) (Some size) act off = size_else xs a id (Rattle.heap_core.specs.Sizes.size_behind thing act size) off
size_resized xs a id (Some thing) None act off = refl
size_resized xs a id None size act off = refl

size_behind_call : (t : Tally) (c : Call) (id : Id) → (Touches c id → ⊥) → size_of_id (sizes_behind t c) id ≡ size_of_id t.sizes id
size_behind_call t (On a act) id far = size_resized t.sizes a.id id (found t.store a.id) (size_of_id t.sizes a.id) act (not_touched (same_id a.id id) far)
size_behind_call t (Start a body values) id far = refl
size_behind_call t (Gather r) id far = refl
size_behind_call t (Print bytes) id far = refl
size_behind_call t (End how) id far = refl

size_call : (b : Bool) (t : Tally) (c : Call) (id : Id) → (Touches c id → ⊥) → size_of_id (cond b t.sizes (sizes_behind t c)) id ≡ size_of_id t.sizes id
size_call true t c id far = refl
size_call false t c id far = size_behind_call t c id far

pub tally_snoc : (slots : ℕ) (t : Tally) (events : List Event) (e : Event) → tally_on slots t (events ++ e ∷ []) ≡ tally_entry slots (tally_on slots t events) e
tally_snoc slots t [] e = refl
tally_snoc slots t (x ∷ xs) e = tally_snoc slots (tally_entry slots t x) xs e

-- what moves in is not the thing that was there
new_differs : (z : Store) (ms : List Item) (id : Id) (thing : Thing) → found z id ≡ Some thing → AreNew z ms → found ms id ≡ None
new_differs z [] id thing is fresh = refl
new_differs z (x ∷ xs) id thing is fresh = by_test (new_differs (z ++ x ∷ []) xs id thing (found_more z (x ∷ []) id thing is) fresh.1) (same_id x.id id) refl
  where
    by_test : found xs id ≡ None → (b : Bool) → same_id x.id id ≡ b → cond b (Some x.thing) (found xs id) ≡ None
    by_test more true same = absurd (true≢false (sym (ap is_some (ap (found z) (Rattle.rb_shared.proofs.Runs.same_is x.id id same) ∙ is)) ∙ fresh.0))
    by_test more false same = more

pub sized_none : (ms : List Item) (id : Id) → found ms id ≡ None → size_of_id (sized_of ms) id ≡ None
sized_none [] id gone = refl
sized_none (x ∷ xs) id gone = by_test (same_id x.id id) refl (sized_none xs id) gone
  where
    some_none : (thing : Thing) → Some thing ≡ None → ⊥
    some_none thing e = cc

    by_size : (size : Option Size) → same_id x.id id ≡ false → size_of_id (sized_of xs) id ≡ None → size_of_id (sized_first x size (sized_of xs)) id ≡ None
    by_size None off more = more
    by_size (Some size) off more = ap (λ b. cond b (Some size) (size_of_id (sized_of xs) id)) off ∙ more

    by_test : (b : Bool) → same_id x.id id ≡ b → (found xs id ≡ None → size_of_id (sized_of xs) id ≡ None) → cond (same_id x.id id) (Some x.thing) (found xs id) ≡ None → size_of_id (sized_of (x ∷ xs)) id ≡ None
    by_test true same more gone = absurd (some_none x.thing (sym (ap (λ b. cond b (Some x.thing) (found xs id)) same) ∙ gone))
    by_test false same more gone = by_size (first_size x.thing) same (more (sym (ap (λ b. cond b (Some x.thing) (found xs id)) same) ∙ gone))

pub size_front : (xs ys : List Sized) (id : Id) → size_of_id ys id ≡ None → size_of_id (xs ++ ys) id ≡ size_of_id xs id
size_front [] ys id gone = gone
size_front (x ∷ xs) ys id gone = ap (λ o. cond (same_id x.id id) (Some x.size) o) (size_front xs ys id gone)

-- of a thing that is there and that a call does not touch, the same is counted behind it
pub size_after : (slots : ℕ) (events : List Event) (z : Store) (t : ℕ) (e : Entry) (id : Id) (thing : Thing) → (Touches e.call id → ⊥) → found z id ≡ Some thing → AreNew z e.moved
    → size_of_id (tally_of slots (events ++ event_of t e ∷ [])).sizes id ≡ size_of_id (tally_of slots events).sizes id
size_after slots events z t e id thing far is fresh =
    let old = tally_of slots events in
    ap (λ (x : Tally). size_of_id x.sizes id) (tally_snoc slots opening_tally events (event_of t e))
    ∙ (size_call (takes_nothing e.call e.reply) (tally_moved old e.moved) e.call id far ∙ size_front old.sizes (sized_of e.moved) id (sized_none e.moved id (new_differs z e.moved id thing is fresh)))
