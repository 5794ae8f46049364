-- What is shared is closed behind an entry, where it was before it and the entry names what its thread was told.
use Rattle.std.proofs.Common.{◌≡◌, ◌≤◌, ◌<◌, ◌⊎◌, inl, inr, ℕ, suc, ◌+◌, ◌^◌, Bool, true, false, cond, List, [], ◌∷◌, ◌++◌, length, map, Some, None, refl, sym, ap, ◌∙◌, subst, arith}
use Rattle.std.specs.List.{flat_map}
use Rattle.std.proofs.lemmas.List.{length-append}
use Rattle.rb_model.specs.declared.value.Id.{Id}
use Rattle.rb_model.specs.Values.{Value as Val, Reference, same_id}
use Rattle.rb_model.specs.declared.fault.Fault.TheVariants.{ThreadLimit}
use Rattle.rb_model.specs.Acts.{Started, Failed}
use Rattle.rb_model.specs.Things.{mentioned}
use Rattle.rb_model.specs.Private.{Item}
use Rattle.rb_model.specs.Log.{Start}
use Rattle.rb_model.specs.Outside.{handed_by}
use Rattle.rb_model.specs.Started.{started, started_by, thread_id, to_thread}
use Rattle.rb_shared.specs.Lists.{Has}
use Rattle.rb_shared.specs.Store.{Store, found, threads, is_full}
use Rattle.rb_shared.specs.Step.{Steps, reply_to, store_behind, new_thread}
use Rattle.rb_shared.specs.History.{Event, by}
use Rattle.rb_shared.proofs.Runs.{same_is, has_front, has_behind}
use Rattle.rb_machine.specs.Call.{globals}
use Rattle.rb_closure.specs.Mentions.{values_in_reply}
use Rattle.rb_closure.specs.Closure.{Each, IfReference, Among, refs_in, item_reference, told_by, IsOutside, NamesTold}
use Rattle.rb_closure.proofs.Lists.{both, each_of, among_split}
use Rattle.rb_closure.proofs.Entries.{among_said}
use Rattle.rb_closure.proofs.Sound.{each_more}
use Rattle.run_laws.specs.Laws.{IsShared, HasTold}
use Rattle.run_laws.proofs.Lists.{has_split, has_of_each, each_of_has}
use Rattle.run_laws.proofs.Own.{TakesNext}
use Rattle.run_laws.proofs.Merging.{by_append, by_own, started_append}
use Rattle.run_laws.proofs.Stores.{found_behind, found_here, shared_more, moved_shared, still_shared, Mention, call_mentions, call_tells, call_ids, threads_more, call_threads, one_thread}

-- ---- what is known of each thread behind a front

-- an event starts thread n with these values
pub record StartsWith (n : ℕ) (values : List Val) (e : Event) : Type 0 where
  pub id : Id
  pub body : ℕ
  pub thread : Reference
  pub call : e.entry.call ≡ Start id body values
  pub reply : e.entry.reply ≡ Started n thread

-- an id is below those of threads, or is that of a thread that was started
abbrev pub IsGiven : List Event → Id → Type 0
IsGiven done id = (id.serial ≤ 2 ^ 63) ⊎ ((t count : ℕ) × (id ≡ thread_id t count) × (count < length (started (by t done))))

-- an event moved the thing of an id, which its thread had made
pub record WasMoved (done : List Event) (id : Id) : Type 0 where
  pub event : Event
  pub there : Has done event
  pub whose : event.thread ≡ id.thread
  pub item : Item
  pub moved : Has event.entry.moved item
  pub is : item.id ≡ id

-- each shared thing is that of the global variables, or moved, or is a thread
abbrev pub Came : List Event → Id → Type 0
Came done id = (id ≡ globals.id) ⊎ (WasMoved done id ⊎ ((t count : ℕ) × (id ≡ thread_id t count)))

-- behind a front of the order: what was told, and what threads were started with, is shared; and all that is shared is closed
pub record Closed (done : List Event) (z : Store) : Type 0 where
  pub globals_there : IsShared z globals
  pub things : Mention (IsShared z) z
  pub told : HasTold done z
  pub given : (e : Event) (n : ℕ) (values : List Val) → Has done e → StartsWith n values e → (n ≤ length (threads z)) × Each (IfReference (IsShared z)) values
  pub ids : Each (λ (x : Item). IsGiven done x.id) z
  pub came : Each (λ (x : Item). Came done x.id) z

-- what an event says of its thread, where its entries so far told these references
pub record Fits (refs : List Reference) (done : List Event) (e : Event) : Type 0 where
  pub names : NamesTold refs e.entry
  pub own : Each (λ (x : Item). (x.id.thread ≡ e.thread) × (x.id.serial ≤ 2 ^ 63)) e.entry.moved
  pub next : TakesNext e.thread (by e.thread done) e.entry

-- the references that its thread was told are to shared things
pub record KnownFits (done : List Event) (e : Event) (z : Store) : Type 0 where
  pub refs : List Reference
  pub known : (r : Reference) → Among refs r → IsShared z r
  pub fits : Fits refs done e

-- ---- ids

given_more : (done : List Event) (e : Event) (id : Id) → IsGiven done id → IsGiven (done ++ e ∷ []) id
given_more done e id (inl l) = inl l
given_more done e id (inr (t, count, is, l)) = inr (t, count, is, more)
  where
    more : count < length (started (by t (done ++ e ∷ [])))
    more =
        let a : length (started (by t (done ++ e ∷ []))) ≡ length (started (by t done ++ by t (e ∷ []))) = ap (λ es. length (started es)) (by_append t done (e ∷ [])) in
        let b = ap length (started_append (by t done) (by t (e ∷ []))) in
        let c = length-append (started (by t done)) (started (by t (e ∷ []))) in
        omega (arith, a, b, c, l)

id_serial : (a b : Id) → a ≡ b → a.serial ≡ b.serial
id_serial a b e = ap (λ (i : Id). i.serial) e

-- an id that is given next is none of those that were given
apart_from : (big m n : ℕ) → m ≤ big → m ≡ big + suc n → ⊥
apart_from big m n l e = omega (arith, l, e)

same_count : (big m n : ℕ) → big + suc m ≡ big + suc n → m ≡ n
same_count big m n e = omega (arith, e)

not_given : (done : List Event) (t : ℕ) (id next : Id) → next ≡ thread_id t (length (started (by t done))) → IsGiven done id → same_id id next ≡ false
not_given done t id next is g = by (same_id id next) refl
  where
    same : id ≡ thread_id t (length (started (by t done))) → IsGiven done id → ⊥
    same e (inl l) = apart_from (2 ^ 63) id.serial (length (started (by t done))) l (id_serial id (thread_id t (length (started (by t done)))) e)
    same e (inr (u, count, f, l)) =
        let g : thread_id u count ≡ thread_id t (length (started (by t done))) = sym f ∙ e in
        let whose : u ≡ t = ap (λ (i : Id). i.thread) g in
        let number : count ≡ length (started (by t done)) = same_count (2 ^ 63) count (length (started (by t done))) (ap (λ (i : Id). i.serial) g) in
        let m : count < length (started (by t done)) = subst (λ w. count < length (started (by w done))) whose l in
        omega (arith, number, m)

    by : (b : Bool) → same_id id next ≡ b → b ≡ false
    by true e = absurd (same (same_is id next e ∙ is) g)
    by false e = refl

none_given : (done : List Event) (t : ℕ) (next : Id) (w : Store) → next ≡ thread_id t (length (started (by t done))) → Each (λ (x : Item). IsGiven done x.id) w → found w next ≡ None
none_given done t next [] is a = refl
none_given done t next (x ∷ xs) is (g, a) = ap (λ b. cond b (Some x.thing) (found xs next)) (not_given done t x.id next is g) ∙ none_given done t next xs is a

pub started_is : (m n : ℕ) (r q : Reference) → Started m r ≡ Started n q → m ≡ n
started_is m n r q e = cc

-- ---- one event more

module _ (slots : ℕ) (done : List Event) (z z' : Store) (e : Event) (refs : List Reference) (closed : Closed done z) (known : (r : Reference) → Among refs r → IsShared z r) (fits : Fits refs done e)
    (step : Steps slots z e.thread e.entry z') where
  -- the store when what moves has joined
  abbrev joined : Store
  joined = z ++ e.entry.moved

  outside_shared : (r : Reference) → IsOutside refs e.entry.moved r → IsShared joined r
  outside_shared r (inl a) = shared_more z e.entry.moved r (known r a)
  outside_shared r (inr m) = moved_shared z e.entry.moved step.joins r m

  handed_shared : Each (IfReference (IsShared joined)) (handed_by e.entry.call)
  handed_shared = each_more (IsOutside refs e.entry.moved) (IsShared joined) outside_shared (handed_by e.entry.call) fits.names.1

  joined_things : Mention (IsShared joined) joined
  joined_things = both (λ (x : Item). Each (IfReference (IsShared joined)) (mentioned x.thing)) z e.entry.moved
      (each_of (λ (x : Item). Each (IfReference (IsShared z)) (mentioned x.thing)) (λ (x : Item). Each (IfReference (IsShared joined)) (mentioned x.thing)) z
      (λ x a. each_more (IsShared z) (IsShared joined) (shared_more z e.entry.moved) (mentioned x.thing) a) closed.things)
      (each_of (λ (x : Item). Each (IfReference (IsOutside refs e.entry.moved)) (mentioned x.thing)) (λ (x : Item). Each (IfReference (IsShared joined)) (mentioned x.thing)) e.entry.moved
      (λ x a. each_more (IsOutside refs e.entry.moved) (IsShared joined) outside_shared (mentioned x.thing) a) fits.names.2)

  joined_ids : Each (λ (x : Item). IsGiven done x.id) joined
  joined_ids = both (λ (x : Item). IsGiven done x.id) z e.entry.moved closed.ids
      (each_of (λ (x : Item). (x.id.thread ≡ e.thread) × (x.id.serial ≤ 2 ^ 63)) (λ (x : Item). IsGiven done x.id) e.entry.moved (λ x o. inl o.1) fits.own)

  -- what is shared then is shared behind the call
  behind_shared : (r : Reference) → IsShared joined r → IsShared z' r
  behind_shared r p = subst (λ y. IsShared y r) (sym step.store_is) (still_shared slots joined e.thread e.entry.call r p)

  stays : (r : Reference) → IsShared z r → IsShared z' r
  stays r p = behind_shared r (shared_more z e.entry.moved r p)

  mention_behind : (y : Store) → Mention (IsShared joined) y → Mention (IsShared z') y
  mention_behind y a = each_of (λ (x : Item). Each (IfReference (IsShared joined)) (mentioned x.thing)) (λ (x : Item). Each (IfReference (IsShared z')) (mentioned x.thing)) y
      (λ x b. each_more (IsShared joined) (IsShared z') behind_shared (mentioned x.thing) b) a

  things_behind : Mention (IsShared z') z'
  things_behind = subst (λ y. Mention (IsShared z') y) (sym step.store_is)
      (call_mentions (IsShared z') slots joined e.thread e.entry.call (mention_behind joined joined_things) (each_more (IsShared joined) (IsShared z') behind_shared (handed_by e.entry.call) handed_shared))

  -- ---- a thread that is started

  full_no : (id : Id) (body : ℕ) (values : List Val) → e.entry.call ≡ Start id body values → is_full slots joined e.thread ≡ false → z' ≡ joined ++ new_thread joined e.thread id ∷ []
  full_no id body values c f = step.store_is ∙ (ap (store_behind slots joined e.thread) c ∙ ap (λ b. cond b joined (joined ++ new_thread joined e.thread id ∷ [])) f)

  started_shared : (id : Id) (body : ℕ) (values : List Val) → e.entry.call ≡ Start id body values → is_full slots joined e.thread ≡ false → IsShared z' (to_thread id)
  started_shared id body values c f =
      let new = new_thread joined e.thread id in
      let here : found (joined ++ new ∷ []) id ≡ Some new.thing = found_behind joined (new ∷ []) id (none_given done e.thread id joined (fits.next id body values c) joined_ids) ∙ found_here new [] in
      subst (λ y. IsShared y (to_thread id)) (sym (full_no id body values c f)) (new.thing, here, refl)

  -- ---- what it was told

  reply_shared : Each (IfReference (IsShared z')) (values_in_reply e.entry.reply)
  reply_shared = subst (λ r. Each (IfReference (IsShared z')) (values_in_reply r)) (sym step.reply_is)
      (call_tells (IsShared z') slots joined e.thread e.entry.call (mention_behind joined joined_things) started_shared)

  told_last : (r : Reference) → Among (told_by e.entry) r → IsShared z' r
  told_last r m = by (among_split (flat_map refs_in (values_in_reply e.entry.reply)) (map item_reference e.entry.moved) r m)
    where
      by : Among (flat_map refs_in (values_in_reply e.entry.reply)) r ⊎ Among (map item_reference e.entry.moved) r → IsShared z' r
      by (inl a) = among_said (IsShared z') (values_in_reply e.entry.reply) r reply_shared a
      by (inr a) = behind_shared r (moved_shared z e.entry.moved step.joins r a)

  told_behind : HasTold (done ++ e ∷ []) z'
  told_behind f r h m = by (has_split done (e ∷ []) f h)
    where
      by : Has done f ⊎ Has (e ∷ []) f → IsShared z' r
      by (inl g) = stays r (closed.told f r g m)
      by (inr (inl s)) = told_last r (subst (λ (x : Event). Among (told_by x.entry) r) s m)
      by (inr (inr n)) = absurd n

  -- ---- what threads were started with

  threads_behind : length (threads z) ≤ length (threads z')
  threads_behind =
      let a = threads_more z e.entry.moved in
      let b = call_threads slots joined e.thread e.entry.call in
      let c = ap (λ y. length (threads y)) step.store_is in
      omega (arith, a, b, c)

  given_last : (n : ℕ) (values : List Val) → StartsWith n values e → (n ≤ length (threads z')) × Each (IfReference (IsShared z')) values
  given_last n values s =
      let reply : reply_to slots joined e.thread (Start s.id s.body values) ≡ Started n s.thread = ap (reply_to slots joined e.thread) (sym s.call) ∙ (sym step.reply_is ∙ s.reply) in
      let handed : Each (IfReference (IsShared z')) (handed_by (Start s.id s.body values)) =
      subst (λ c. Each (IfReference (IsShared z')) (handed_by c)) s.call (each_more (IsShared joined) (IsShared z') behind_shared (handed_by e.entry.call) handed_shared) in
      (by (is_full slots joined e.thread) refl reply, handed)
    where
      by : (b : Bool) → is_full slots joined e.thread ≡ b → cond b (Failed ThreadLimit) (Started (suc (length (threads joined))) (to_thread s.id)) ≡ Started n s.thread → n ≤ length (threads z')
      by true f g = absurd (let wrong : Failed ThreadLimit ≡ Started n s.thread = g in cc)
      by false f g =
          let number = started_is (suc (length (threads joined))) n (to_thread s.id) s.thread g in
          let more = one_thread joined e.thread s.id in
          let same = ap (λ y. length (threads y)) (full_no s.id s.body values s.call f) in
          omega (arith, number, more, same)

  given_behind : (f : Event) (n : ℕ) (values : List Val) → Has (done ++ e ∷ []) f → StartsWith n values f → (n ≤ length (threads z')) × Each (IfReference (IsShared z')) values
  given_behind f n values h s = by (has_split done (e ∷ []) f h)
    where
      by : Has done f ⊎ Has (e ∷ []) f → (n ≤ length (threads z')) × Each (IfReference (IsShared z')) values
      by (inl g) =
          let p = closed.given f n values g s in
          let l = p.0 in
          let m = threads_behind in
          (omega (arith, l, m), each_more (IsShared z) (IsShared z') stays values p.1)
      by (inr (inl is)) = given_last n values (subst (StartsWith n values) is s)
      by (inr (inr n)) = absurd n

  -- ---- ids

  -- an event that starts a thread makes one more that its thread started
  one_started : (id : Id) (body : ℕ) (values : List Val) → e.entry.call ≡ Start id body values → is_full slots joined e.thread ≡ false
      → length (started (by e.thread done)) < length (started (by e.thread (done ++ e ∷ [])))
  one_started id body values c f =
      let reply : e.entry.reply ≡ Started (suc (length (threads joined))) (to_thread id) =
      step.reply_is ∙ (ap (reply_to slots joined e.thread) c ∙ ap (λ b. cond b (Failed ThreadLimit) (Started (suc (length (threads joined))) (to_thread id))) f) in
      let last : started (e.entry ∷ []) ≡ (suc (length (threads joined)), to_thread id) ∷ [] = ap (λ k. started_by k e.entry.reply ++ []) c ∙ ap (λ r. started_by (Start id body values) r ++ []) reply in
      let whole : by e.thread (done ++ e ∷ []) ≡ by e.thread done ++ e.entry ∷ [] = by_append e.thread done (e ∷ []) ∙ ap (λ es. by e.thread done ++ es) (by_own e.thread e [] refl) in
      let a = ap (λ es. length (started es)) whole in
      let b = ap length (started_append (by e.thread done) (e.entry ∷ [])) in
      let d = length-append (started (by e.thread done)) (started (e.entry ∷ [])) in
      let n = ap length last in
      omega (arith, a, b, d, n)

  came_more : (id : Id) → Came done id → Came (done ++ e ∷ []) id
  came_more id (inl g) = inl g
  came_more id (inr (inl m)) = inr (inl (record { event = m.event; there = has_front done (e ∷ []) m.event m.there; whose = m.whose; item = m.item; moved = m.moved; is = m.is }))
  came_more id (inr (inr t)) = inr (inr t)

  came_joined : Each (λ (x : Item). Came (done ++ e ∷ []) x.id) joined
  came_joined = both (λ (x : Item). Came (done ++ e ∷ []) x.id) z e.entry.moved
      (each_of (λ (x : Item). Came done x.id) (λ (x : Item). Came (done ++ e ∷ []) x.id) z (λ x c. came_more x.id c) closed.came)
      (each_of_has (λ (x : Item). Came (done ++ e ∷ []) x.id) e.entry.moved (λ x h.
      inr (inl (record { event = e; there = has_behind done (e ∷ []) e (inl refl); whose = sym (has_of_each (λ (x : Item). (x.id.thread ≡ e.thread) × (x.id.serial ≤ 2 ^ 63)) e.entry.moved x fits.own h).0; item = x; moved = h; is = refl }))))

  pub closed_behind : Closed (done ++ e ∷ []) z'
  closed_behind = record {
    globals_there = stays globals closed.globals_there;
    things = things_behind;
    told = told_behind;
    given = given_behind;
    ids = subst (λ y. Each (λ (x : Item). IsGiven (done ++ e ∷ []) x.id) y) (sym step.store_is)
        (call_ids (IsGiven (done ++ e ∷ [])) slots joined e.thread e.entry.call
        (each_of (λ (x : Item). IsGiven done x.id) (λ (x : Item). IsGiven (done ++ e ∷ []) x.id) joined (λ x g. given_more done e x.id g) joined_ids)
        (λ id body values c f. inr (e.thread, length (started (by e.thread done)), fits.next id body values c, one_started id body values c f)));
    came = subst (λ y. Each (λ (x : Item). Came (done ++ e ∷ []) x.id) y) (sym step.store_is)
        (call_ids (Came (done ++ e ∷ [])) slots joined e.thread e.entry.call came_joined
        (λ id body values c f. inr (inr (e.thread, length (started (by e.thread done)), fits.next id body values c))));
  }
