-- Who started which thread, and what generation each is of, behind a call.
use Rattle.std.proofs.Common.{◌≡◌, ◌<◌, ◌+◌, ◌-◌, ◌||◌, ◌==◌, ℕ, zero, suc, Bool, true, false, cond, List, [], ◌∷◌, ◌++◌, length, map, slice_get, unwrap_or, Option, Some, None, refl, sym, ap, ◌∙◌, arith, append-nil, length-append, leb-false}
use Rattle.std.specs.Prelude.{nat_le}
use Rattle.std.proofs.lemmas.List.{map-append, length-map}
use Rattle.std.proofs.lemmas.Grind.{flat_map-append}
use Rattle.rb_model.specs.declared.value.Id.{Id}
use Rattle.rb_model.specs.declared.fault.Fault.TheVariants.{ThreadLimit}
use Rattle.rb_model.specs.Values.{Value, Reference, same_id}
use Rattle.rb_model.specs.Acts.{Act, SetField, Put, Push, Unshift, Pop, Shift, DeleteAt, KPut, KDelete, Clear, Join, Failed, Started}
use Rattle.rb_model.specs.Ends.{End as Ending}
use Rattle.rb_model.specs.Things.{Thing, ThreadState, Object, Elements, Pairs, Mutex, Thread}
use Rattle.rb_model.specs.Private.{Item}
use Rattle.rb_model.specs.Log.{Call, On, Start, Gather, Print, End}
use Rattle.rb_model.specs.Started.{to_thread, started_by}
use Rattle.rb_shared.specs.History.{IsNoThread}
use Rattle.rb_shared.specs.Lists.{Each}
use Rattle.rb_shared.specs.Store.{Store, found, with_thing, thread_in, threads, generations, generation_of, ungathered_count, is_full}
use Rattle.rb_shared.specs.Step.{behind_act, joined_by, gathered_by, store_behind, reply_to, with_act, ended_item, ended_thing, new_thread}

-- ---- makers

abbrev pub makers_in : Thing → List ℕ
makers_in thing = map (λ (s : ThreadState). s.maker) (thread_in thing)

abbrev pub makers : Store → List ℕ
makers z = map (λ (s : ThreadState). s.maker) (threads z)

pub makers_count : (z : Store) → length (makers z) ≡ length (threads z)
makers_count z = length-map (threads z) (λ (s : ThreadState). s.maker)

makers_first : (x : Item) (xs : Store) → makers (x ∷ xs) ≡ makers_in x.thing ++ makers xs
makers_first x xs = map-append (λ (s : ThreadState). s.maker) (thread_in x.thing) (threads xs)

makers_append : (a b : Store) → makers (a ++ b) ≡ makers a ++ makers b
makers_append a b = ap (map (λ (s : ThreadState). s.maker)) (flat_map-append (λ (x : Item). thread_in x.thing) a b) ∙ map-append (λ (s : ThreadState). s.maker) (threads a) (threads b)

no_maker : (thing : Thing) → IsNoThread thing → makers_in thing ≡ []
no_maker (Thread s) q = absurd (q s refl)
no_maker (Mutex owner) q = refl
no_maker (Object class fields) q = refl
no_maker (Elements vs) q = refl
no_maker (Pairs ps) q = refl

no_makers : (ms : List Item) → Each (λ (x : Item). IsNoThread x.thing) ms → makers ms ≡ []
no_makers [] q = refl
no_makers (x ∷ xs) (q, qs) = makers_first x xs ∙ (ap (λ l. l ++ makers xs) (no_maker x.thing q) ∙ no_makers xs qs)

-- things that move are no threads
pub makers_moved : (z : Store) (ms : List Item) → Each (λ (x : Item). IsNoThread x.thing) ms → makers (z ++ ms) ≡ makers z
makers_moved z ms q = makers_append z ms ∙ (ap (λ l. makers z ++ l) (no_makers ms q) ∙ append-nil (makers z))

joined_maker : (t : ℕ) (s : ThreadState) (end : Option Ending) → (joined_by t s end).maker ≡ s.maker
joined_maker t s None = refl
joined_maker t s (Some how) = by (s.number == t)
  where
    by : (b : Bool) → (cond b s (gathered_by t s)).maker ≡ s.maker
    by true = refl
    by false = refl

behind_maker : (t : ℕ) (thing : Thing) (act : Act) → makers_in (behind_act t thing act) ≡ makers_in thing
behind_maker t (Thread s) Join = ap (λ m. m ∷ []) (joined_maker t s s.end)
behind_maker t (Thread s) act = refl
behind_maker t (Mutex owner) act = refl
behind_maker t (Object class fields) (SetField name v) = refl
behind_maker t (Object class fields) act = refl
behind_maker t (Elements vs) (Put i v) = refl
behind_maker t (Elements vs) (Push v) = refl
behind_maker t (Elements vs) (Unshift v) = refl
behind_maker t (Elements vs) Pop = refl
behind_maker t (Elements vs) Shift = refl
behind_maker t (Elements vs) (DeleteAt i) = refl
behind_maker t (Elements vs) Clear = refl
behind_maker t (Elements vs) act = refl
behind_maker t (Pairs ps) (KPut k v) = refl
behind_maker t (Pairs ps) (KDelete k) = refl
behind_maker t (Pairs ps) Clear = refl
behind_maker t (Pairs ps) act = refl

ended_maker : (t : ℕ) (how : Ending) (thing : Thing) → makers_in (ended_thing t how thing) ≡ makers_in thing
ended_maker t how (Thread s) = by (s.number == t)
  where
    by : (b : Bool) → (cond b (record s { end = Some how }) s).maker ∷ [] ≡ s.maker ∷ []
    by true = refl
    by false = refl
ended_maker t how (Mutex None) = refl
ended_maker t how (Mutex (Some owner)) = refl
ended_maker t how (Object class fields) = refl
ended_maker t how (Elements vs) = refl
ended_maker t how (Pairs ps) = refl

some_thing : (x y : Thing) → Some x ≡ Some y → x ≡ y
some_thing x y e = cc

with_first : (b : Bool) (x : Item) (xs : Store) (id : Id) (old new : Thing) → makers_in new ≡ makers_in old → (found xs id ≡ Some old → makers (with_thing xs id new) ≡ makers xs)
    → cond b (Some x.thing) (found xs id) ≡ Some old → makers (cond b (record { id = x.id; thing = new } ∷ xs) (x ∷ with_thing xs id new)) ≡ makers (x ∷ xs)
with_first true x xs id old new m more f =
    makers_first (record { id = x.id; thing = new }) xs ∙ (ap (λ l. l ++ makers xs) (m ∙ ap makers_in (sym (some_thing x.thing old f))) ∙ sym (makers_first x xs))
with_first false x xs id old new m more f = makers_first x (with_thing xs id new) ∙ (ap (λ l. makers_in x.thing ++ l) (more f) ∙ sym (makers_first x xs))

with_makers : (w : Store) (id : Id) (old new : Thing) → makers_in new ≡ makers_in old → found w id ≡ Some old → makers (with_thing w id new) ≡ makers w
with_makers [] id old new m f = refl
with_makers (x ∷ xs) id old new m f = with_first (same_id x.id id) x xs id old new m (with_makers xs id old new m) f

act_makers : (t : ℕ) (w : Store) (id : Id) (o : Option Thing) (act : Act) → found w id ≡ o → makers (with_act t w id o act) ≡ makers w
act_makers t w id None act e = refl
act_makers t w id (Some thing) act e = with_makers w id thing (behind_act t thing act) (behind_maker t thing act) e

ended_makers : (t : ℕ) (how : Ending) (w : Store) → makers (map (ended_item t how) w) ≡ makers w
ended_makers t how [] = refl
ended_makers t how (x ∷ xs) =
    makers_first (ended_item t how x) (map (ended_item t how) xs)
    ∙ (ap (λ l. l ++ makers (map (ended_item t how) xs)) (ended_maker t how x.thing) ∙ (ap (λ l. makers_in x.thing ++ l) (ended_makers t how xs) ∙ sym (makers_first x xs)))

-- thread t is the maker of those that a reply started
abbrev pub made_by : ℕ → List (ℕ × Reference) → List ℕ
made_by t started = map (λ (p : ℕ × Reference). t) started

start_makers : (b : Bool) (w : Store) (t n body : ℕ) (id : Id) (values : List Value)
    → makers (cond b w (w ++ new_thread w t id ∷ [])) ≡ makers w ++ made_by t (started_by (Start id body values) (cond b (Failed ThreadLimit) (Started n (to_thread id))))
start_makers true w t n body id values = sym (append-nil (makers w))
start_makers false w t n body id values = makers_append w (new_thread w t id ∷ [])

pub makers_behind : (slots : ℕ) (w : Store) (t : ℕ) (c : Call) → makers (store_behind slots w t c) ≡ makers w ++ made_by t (started_by c (reply_to slots w t c))
makers_behind slots w t (On r act) = act_makers t w r.id (found w r.id) act refl ∙ sym (append-nil (makers w))
makers_behind slots w t (Gather r) = act_makers t w r.id (found w r.id) Join refl ∙ sym (append-nil (makers w))
makers_behind slots w t (Start id body values) = start_makers (is_full slots w t) w t (suc (length (threads w))) body id values
makers_behind slots w t (Print bytes) = sym (append-nil (makers w))
makers_behind slots w t (End how) = ended_makers t how w ∙ sym (append-nil (makers w))

-- ---- generations

abbrev gens : List ℕ → List ℕ → List ℕ
gens known [] = known
gens known (m ∷ ms) = gens (known ++ suc (unwrap_or (slice_get known m) 0) ∷ []) ms

gens_are : (known : List ℕ) (ss : List ThreadState) → generations known ss ≡ gens known (map (λ (s : ThreadState). s.maker) ss)
gens_are known [] = refl
gens_are known (s ∷ ss) = gens_are (known ++ suc (unwrap_or (slice_get known s.maker) 0) ∷ []) ss

gens_more : (known ms : List ℕ) (m : ℕ) → gens known (ms ++ m ∷ []) ≡ gens known ms ++ suc (unwrap_or (slice_get (gens known ms) m) 0) ∷ []
gens_more known [] m = refl
gens_more known (x ∷ ms) m = gens_more (known ++ suc (unwrap_or (slice_get known x) 0) ∷ []) ms m

gens_count : (known ms : List ℕ) → length (gens known ms) ≡ length known + length ms
gens_count known [] = omega arith
gens_count known (m ∷ ms) =
    let g = gens_count (known ++ suc (unwrap_or (slice_get known m) 0) ∷ []) ms in
    let l = length-append known (suc (unwrap_or (slice_get known m) 0) ∷ []) in omega (arith, g, l)

get_left : (l m : List ℕ) (k : ℕ) → k < length l → slice_get (l ++ m) k ≡ slice_get l k
get_left [] m k lt = absurd (omega arith)
get_left (x ∷ xs) m zero lt = refl
get_left (x ∷ xs) m (suc k) lt = get_left xs m k (omega arith)

get_last : (l : List ℕ) (a : ℕ) → slice_get (l ++ a ∷ []) (length l) ≡ Some a
get_last [] a = refl
get_last (x ∷ xs) a = get_last xs a

abbrev gen_in : List ℕ → ℕ → ℕ
gen_in ms n = unwrap_or (slice_get (gens (0 ∷ []) ms) n) 0

gen_is : (z : Store) (n : ℕ) → generation_of z n ≡ gen_in (makers z) n
gen_is z n = ap (λ l. unwrap_or (slice_get l n) 0) (gens_are (0 ∷ []) (threads z))

pub generation_same : (z y : Store) (n : ℕ) → makers y ≡ makers z → generation_of y n ≡ generation_of z n
generation_same z y n m = gen_is y n ∙ (ap (λ l. gen_in l n) m ∙ sym (gen_is z n))

pub generation_old : (z y : Store) (n m : ℕ) → makers y ≡ makers z ++ m ∷ [] → n < suc (length (threads z)) → generation_of y n ≡ generation_of z n
generation_old z y n m more lt =
    let l : length (gens (0 ∷ []) (makers z)) ≡ suc (length (threads z)) = (let g = gens_count (0 ∷ []) (makers z) in let c = makers_count z in omega (arith, g, c)) in
    gen_is y n ∙ (ap (λ l. gen_in l n) more ∙ (ap (λ l. unwrap_or (slice_get l n) 0) (gens_more (0 ∷ []) (makers z) m)
    ∙ (ap (λ o. unwrap_or o 0) (get_left (gens (0 ∷ []) (makers z)) (suc (gen_in (makers z) m) ∷ []) n (omega (arith, l, lt))) ∙ sym (gen_is z n))))

pub generation_new : (z y : Store) (m : ℕ) → makers y ≡ makers z ++ m ∷ [] → generation_of y (suc (length (threads z))) ≡ suc (generation_of z m)
generation_new z y m more =
    let l : length (gens (0 ∷ []) (makers z)) ≡ suc (length (threads z)) = (let g = gens_count (0 ∷ []) (makers z) in let c = makers_count z in omega (arith, g, c)) in
    gen_is y (suc (length (threads z))) ∙ (ap (λ k. gen_in (makers y) k) (sym l) ∙ (ap (λ ms. gen_in ms (length (gens (0 ∷ []) (makers z)))) more
    ∙ (ap (λ l. unwrap_or (slice_get l (length (gens (0 ∷ []) (makers z)))) 0) (gens_more (0 ∷ []) (makers z) m)
    ∙ (ap (λ o. unwrap_or o 0) (get_last (gens (0 ∷ []) (makers z)) (suc (gen_in (makers z) m))) ∙ ap suc (sym (gen_is z m))))))

-- a thread that may start another is not of the last generation
pub room_left : (slots : ℕ) (z : Store) (t : ℕ) → is_full slots z t ≡ false → generation_of z t + 1 < slots
room_left slots z t e = by (nat_le (slots - 1) (ungathered_count z)) (nat_le (slots - 1) (generation_of z t)) refl e
  where
    by : (a b : Bool) → nat_le (slots - 1) (generation_of z t) ≡ b → (a || b) ≡ false → generation_of z t + 1 < slots
    by true b i h = absurd (cc)
    by false b i h = let less = leb-false (slots - 1) (generation_of z t) (i ∙ h) in omega (arith, less)
