-- What the shared store has behind an entry: nothing leaves it, and no thing changes its sort.
use Rattle.std.proofs.Common.{◌≡◌, inl, inr, ℕ, suc, ◌+◌, ◌≤◌, ◌==◌, Bool, true, false, cond, List, [], ◌∷◌, ◌++◌, length, map, Option, Some, None, refl, sym, ap, ◌∙◌, subst, arith}
use Rattle.std.specs.Prelude.{is_some}
use Rattle.std.specs.Option.{option_map}
use Rattle.std.proofs.lemmas.List.{length-append, append_assoc}
use Rattle.std.proofs.lemmas.Grind.{flat_map-append}
use Rattle.rb_model.specs.declared.fault.Fault.TheVariants.{ThreadLimit, JoinSelf}
use Rattle.rb_model.specs.declared.value.Id.{Id}
use Rattle.rb_model.specs.Values.{Value, Reference, same_id}
use Rattle.rb_model.specs.Acts.{Act, Join, Reply, Started, handed}
use Rattle.rb_model.specs.Acts as reply
use Rattle.rb_model.specs.Ends.{End as Ending, told}
use Rattle.rb_model.specs.Things.{Thing, ThreadState, Object, Elements, Pairs, Mutex, Thread, mentioned}
use Rattle.rb_model.specs.Private.{Item}
use Rattle.rb_model.specs.Log.{Call, On, Start, Gather, Print, End}
use Rattle.rb_model.specs.Outside.{handed_by}
use Rattle.rb_model.specs.Started.{to_thread}
use Rattle.rb_shared.specs.Store.{Store, found, is_there, with_thing, thread_in, threads, is_full}
use Rattle.rb_shared.specs.Step.{AreNew, behind_act, act_reply, join_reply, joined_by, gathered_by, reply_of, reply_to, store_behind, with_act, ended_item, ended_thing, new_thread}
use Rattle.rb_shared.proofs.Runs.{same_is, same_self, found_more}
use Rattle.rb_machine.specs.Follows.{sort_of}
use Rattle.rb_closure.specs.Closure.{Each, IfReference, Among, item_reference}
use Rattle.rb_closure.specs.Mentions.{values_in_reply}
use Rattle.rb_closure.proofs.Lists.{both, each_if}
use Rattle.rb_closure.proofs.Things.{behind_mentions, reply_tells, sort_stays}
use Rattle.run_laws.specs.Laws.{IsShared}

-- ---- what is found

found_with_first : (b : Bool) (x : Item) (xs : Store) (id : Id) (old new : Thing) → same_id x.id id ≡ b → (found xs id ≡ Some old → found (with_thing xs id new) id ≡ Some new)
    → cond b (Some x.thing) (found xs id) ≡ Some old → found (cond b (record { id = x.id; thing = new } ∷ xs) (x ∷ with_thing xs id new)) id ≡ Some new
found_with_first true x xs id old new s more f = ap (λ b. cond b (Some new) (found xs id)) s
found_with_first false x xs id old new s more f = ap (λ b. cond b (Some x.thing) (found (with_thing xs id new) id)) s ∙ more f

pub found_with : (z : Store) (id : Id) (old new : Thing) → found z id ≡ Some old → found (with_thing z id new) id ≡ Some new
found_with [] id old new f = absurd (let no : None ≡ Some old = f in cc)
found_with (x ∷ xs) id old new f = found_with_first (same_id x.id id) x xs id old new refl (found_with xs id old new) f

other_first : (b : Bool) (x : Item) (xs : Store) (a id : Id) (new : Thing) → same_id x.id a ≡ b → same_id a id ≡ false → found (with_thing xs a new) id ≡ found xs id
    → found (cond b (record { id = x.id; thing = new } ∷ xs) (x ∷ with_thing xs a new)) id ≡ found (x ∷ xs) id
other_first true x xs a id new s differ more =
    let no : same_id x.id id ≡ false = ap (λ i. same_id i id) (same_is x.id a s) ∙ differ in
    ap (λ b. cond b (Some new) (found xs id)) no ∙ sym (ap (λ b. cond b (Some x.thing) (found xs id)) no)
other_first false x xs a id new s differ more = ap (λ o. cond (same_id x.id id) (Some x.thing) o) more

pub found_other : (z : Store) (a id : Id) (new : Thing) → same_id a id ≡ false → found (with_thing z a new) id ≡ found z id
found_other [] a id new differ = refl
found_other (x ∷ xs) a id new differ = other_first (same_id x.id a) x xs a id new refl differ (found_other xs a id new differ)

ended_first : (b : Bool) (t : ℕ) (how : Ending) (x : Item) (o o' : Option Thing) → o' ≡ option_map (ended_thing t how) o → cond b (Some (ended_thing t how x.thing)) o' ≡ option_map (ended_thing t how) (cond b (Some x.thing) o)
ended_first true t how x o o' e = refl
ended_first false t how x o o' e = e

found_ended : (z : Store) (t : ℕ) (how : Ending) (id : Id) → found (map (ended_item t how) z) id ≡ option_map (ended_thing t how) (found z id)
found_ended [] t how id = refl
found_ended (x ∷ xs) t how id = ended_first (same_id x.id id) t how x (found xs id) (found (map (ended_item t how) xs) id) (found_ended xs t how id)

-- what is not in a front is found behind it
pub found_behind : (z ys : Store) (id : Id) → found z id ≡ None → found (z ++ ys) id ≡ found ys id
found_behind [] ys id e = refl
found_behind (x ∷ xs) ys id e = by (same_id x.id id) (found_behind xs ys id) e
  where
    by : (b : Bool) → (found xs id ≡ None → found (xs ++ ys) id ≡ found ys id) → cond b (Some x.thing) (found xs id) ≡ None → cond b (Some x.thing) (found (xs ++ ys) id) ≡ found ys id
    by true later f = absurd (let no : Some x.thing ≡ None = f in cc)
    by false later f = later f

pub not_there : (z : Store) (id : Id) → is_there z id ≡ false → found z id ≡ None
not_there z id e = by (found z id) e
  where
    by : (o : Option Thing) → is_some o ≡ false → o ≡ None
    by None e = refl
    by (Some x) e = absurd (let no : true ≡ false = e in cc)

pub found_here : (x : Item) (xs : Store) → found (x ∷ xs) x.id ≡ Some x.thing
found_here x xs = ap (λ b. cond b (Some x.thing) (found xs x.id)) (same_self x.id x.id refl)

-- ---- what is shared stays shared

pub shared_more : (z ys : Store) (r : Reference) → IsShared z r → IsShared (z ++ ys) r
shared_more z ys r (x, f, s) = (x, found_more z ys r.id x f, s)

-- what moves is shared behind it
pub moved_shared : (z xs : Store) → AreNew z xs → (r : Reference) → Among (map item_reference xs) r → IsShared (z ++ xs) r
moved_shared z [] n r m = absurd m
moved_shared z (x ∷ xs) (n, a) r (inl e) =
    let here : found (z ++ x ∷ xs) x.id ≡ Some x.thing = found_behind z (x ∷ xs) x.id (not_there z x.id n) ∙ found_here x xs in
    (x.thing, subst (λ (q : Reference). found (z ++ x ∷ xs) q.id ≡ Some x.thing) e here, ap (λ (q : Reference). q.sort) e)
moved_shared z (x ∷ xs) (n, a) r (inr m) = subst (λ y. IsShared y r) (append_assoc z (x ∷ []) xs) (moved_shared (z ++ x ∷ []) xs a r m)

-- an act leaves a thing its sort
pub act_sort : (t : ℕ) (x : Thing) (act : Act) → sort_of (behind_act t x act) ≡ sort_of x
act_sort t (Thread s) Join = refl
act_sort t (Thread s) act = refl
act_sort t (Mutex owner) act = sort_stays t (Mutex owner) act
act_sort t (Object class fields) act = sort_stays t (Object class fields) act
act_sort t (Elements vs) act = sort_stays t (Elements vs) act
act_sort t (Pairs ps) act = sort_stays t (Pairs ps) act

end_sort : (t : ℕ) (how : Ending) (x : Thing) → sort_of (ended_thing t how x) ≡ sort_of x
end_sort t how (Thread s) = refl
end_sort t how (Mutex None) = refl
end_sort t how (Mutex (Some owner)) = refl
end_sort t how (Object class fields) = refl
end_sort t how (Elements vs) = refl
end_sort t how (Pairs ps) = refl

some_same : (x y : Thing) → Some x ≡ Some y → x ≡ y
some_same x y e = cc

with_shared : (w : Store) (id : Id) (old new : Thing) (r : Reference) → found w id ≡ Some old → sort_of new ≡ sort_of old → IsShared w r → IsShared (with_thing w id new) r
with_shared w id old new r f same (x, g, s) = by (same_id id r.id) refl
  where
    by : (b : Bool) → same_id id r.id ≡ b → IsShared (with_thing w id new) r
    by true e =
        let is : id ≡ r.id = same_is id r.id e in
        let was : old ≡ x = some_same old x (sym f ∙ (ap (found w) is ∙ g)) in
        (new, subst (λ i. found (with_thing w id new) i ≡ Some new) is (found_with w id old new f), same ∙ (ap sort_of was ∙ s))
    by false e = (x, found_other w id r.id new e ∙ g, s)

act_shared : (t : ℕ) (w : Store) (id : Id) (o : Option Thing) (act : Act) (r : Reference) → found w id ≡ o → IsShared w r → IsShared (with_act t w id o act) r
act_shared t w id None act r f p = p
act_shared t w id (Some x) act r f p = with_shared w id x (behind_act t x act) r f (act_sort t x act) p

start_shared : (b : Bool) (w : Store) (x : Item) (r : Reference) → IsShared w r → IsShared (cond b w (w ++ x ∷ [])) r
start_shared true w x r p = p
start_shared false w x r p = shared_more w (x ∷ []) r p

pub still_shared : (slots : ℕ) (w : Store) (t : ℕ) (c : Call) (r : Reference) → IsShared w r → IsShared (store_behind slots w t c) r
still_shared slots w t (On q act) r p = act_shared t w q.id (found w q.id) act r refl p
still_shared slots w t (Gather q) r p = act_shared t w q.id (found w q.id) Join r refl p
still_shared slots w t (Start id body values) r p = start_shared (is_full slots w t) w (new_thread w t id) r p
still_shared slots w t (Print bytes) r p = p
still_shared slots w t (End how) r (x, f, s) = (ended_thing t how x, found_ended w t how r.id ∙ ap (option_map (ended_thing t how)) f, end_sort t how x ∙ s)

-- ---- what things mention, and what replies tell

-- each thing of a store mentions references that are so
abbrev pub Mention : (Reference → Type 0) → Store → Type 0
Mention R z = Each (λ (x : Item). Each (IfReference R) (mentioned x.thing)) z

pub mention_found : (R : Reference → Type 0) (z : Store) (id : Id) (x : Thing) → Mention R z → found z id ≡ Some x → Each (IfReference R) (mentioned x)
mention_found R [] id x a f = absurd (let no : None ≡ Some x = f in cc)
mention_found R (y ∷ ys) id x (p, a) f = by (same_id y.id id) (mention_found R ys id x a) f
  where
    by : (b : Bool) → (found ys id ≡ Some x → Each (IfReference R) (mentioned x)) → cond b (Some y.thing) (found ys id) ≡ Some x → Each (IfReference R) (mentioned x)
    by true later e = subst (λ t. Each (IfReference R) (mentioned t)) (some_same y.thing x e) p
    by false later e = later e

module _ (R : Reference → Type 0) where
  with_mentions : (z : Store) (id : Id) (new : Thing) → Mention R z → Each (IfReference R) (mentioned new) → Mention R (with_thing z id new)
  with_mentions [] id new a p = tt
  with_mentions (x ∷ xs) id new (q, a) p = each_if (λ (x : Item). Each (IfReference R) (mentioned x.thing)) (same_id x.id id) (record { id = x.id; thing = new } ∷ xs) (x ∷ with_thing xs id new) (p, a) (q, with_mentions xs id new a p)

  joined_mentions : (t : ℕ) (s : ThreadState) (end : Option Ending) → Each (IfReference R) (mentioned (Thread s)) → Each (IfReference R) (mentioned (Thread (joined_by t s end)))
  joined_mentions t s None a = a
  joined_mentions t s (Some how) a = by (s.number == t)
    where
      by : (b : Bool) → Each (IfReference R) (mentioned (Thread (cond b s (gathered_by t s))))
      by true = a
      by false = a

  act_mentions : (t : ℕ) (x : Thing) (act : Act) → Each (IfReference R) (mentioned x) → Each (IfReference R) (handed act) → Each (IfReference R) (mentioned (behind_act t x act))
  act_mentions t (Thread s) Join a h = joined_mentions t s s.end a
  act_mentions t (Thread s) act a h = a
  act_mentions t (Mutex owner) act a h = behind_mentions R t (Mutex owner) act a h
  act_mentions t (Object class fields) act a h = behind_mentions R t (Object class fields) act a h
  act_mentions t (Elements vs) act a h = behind_mentions R t (Elements vs) act a h
  act_mentions t (Pairs ps) act a h = behind_mentions R t (Pairs ps) act a h

  with_act_mentions : (t : ℕ) (w : Store) (id : Id) (o : Option Thing) (act : Act) → found w id ≡ o → Mention R w → Each (IfReference R) (handed act) → Mention R (with_act t w id o act)
  with_act_mentions t w id None act f a h = a
  with_act_mentions t w id (Some x) act f a h = with_mentions w id (behind_act t x act) a (act_mentions t x act (mention_found R w id x a f) h)

  start_mentions : (b : Bool) (w : Store) (t : ℕ) (id : Id) → Mention R w → Mention R (cond b w (w ++ new_thread w t id ∷ []))
  start_mentions true w t id a = a
  start_mentions false w t id a = both (λ (x : Item). Each (IfReference R) (mentioned x.thing)) w (new_thread w t id ∷ []) a (tt, tt)

  end_mentions : (t : ℕ) (how : Ending) (x : Thing) → Each (IfReference R) (mentioned x) → Each (IfReference R) (told how) → Each (IfReference R) (mentioned (ended_thing t how x))
  end_mentions t how (Thread s) a h = by (s.number == t)
    where
      by : (b : Bool) → Each (IfReference R) (mentioned (Thread (cond b (record s { end = Some how }) s)))
      by true = h
      by false = a
  end_mentions t how (Mutex None) a h = tt
  end_mentions t how (Mutex (Some owner)) a h = tt
  end_mentions t how (Object class fields) a h = a
  end_mentions t how (Elements vs) a h = a
  end_mentions t how (Pairs ps) a h = a

  ends_mention : (t : ℕ) (how : Ending) (w : Store) → Mention R w → Each (IfReference R) (told how) → Mention R (map (ended_item t how) w)
  ends_mention t how [] a h = tt
  ends_mention t how (x ∷ xs) (p, a) h = (end_mentions t how x.thing p h, ends_mention t how xs a h)

  -- what things mention behind a call they mentioned before, or it was handed over
  pub call_mentions : (slots : ℕ) (w : Store) (t : ℕ) (c : Call) → Mention R w → Each (IfReference R) (handed_by c) → Mention R (store_behind slots w t c)
  call_mentions slots w t (On q act) a h = with_act_mentions t w q.id (found w q.id) act refl a h
  call_mentions slots w t (Gather q) a h = with_act_mentions t w q.id (found w q.id) Join refl a tt
  call_mentions slots w t (Start id body values) a h = start_mentions (is_full slots w t) w t id a
  call_mentions slots w t (Print bytes) a h = a
  call_mentions slots w t (End how) a h = ends_mention t how w a h

  join_tells : (t : ℕ) (s : ThreadState) (end : Option Ending) → Each (IfReference R) (mentioned (Thread (record s { end = end }))) → Each (IfReference R) (values_in_reply (join_reply t s end))
  join_tells t s None a = tt
  join_tells t s (Some how) a = by (s.number == t)
    where
      by : (b : Bool) → Each (IfReference R) (values_in_reply (cond b (reply.Failed JoinSelf) (reply.Ended how)))
      by true = tt
      by false = a

  act_tells : (t : ℕ) (x : Thing) (act : Act) → Each (IfReference R) (mentioned x) → Each (IfReference R) (values_in_reply (act_reply t x act))
  act_tells t (Thread s) Join a = join_tells t s s.end a
  act_tells t (Thread s) act a = tt
  act_tells t (Mutex owner) act a = reply_tells R t (Mutex owner) act a
  act_tells t (Object class fields) act a = reply_tells R t (Object class fields) act a
  act_tells t (Elements vs) act a = reply_tells R t (Elements vs) act a
  act_tells t (Pairs ps) act a = reply_tells R t (Pairs ps) act a

  found_tells : (t : ℕ) (w : Store) (id : Id) (o : Option Thing) (act : Act) → found w id ≡ o → Mention R w → Each (IfReference R) (values_in_reply (reply_of t o act))
  found_tells t w id None act f a = tt
  found_tells t w id (Some x) act f a = act_tells t x act (mention_found R w id x a f)

  -- a reply tells what things mention, or of the thread that was started
  pub call_tells : (slots : ℕ) (w : Store) (t : ℕ) (c : Call) → Mention R w → ((id : Id) (body : ℕ) (values : List Value) → c ≡ Start id body values → is_full slots w t ≡ false → R (to_thread id))
      → Each (IfReference R) (values_in_reply (reply_to slots w t c))
  call_tells slots w t (On q act) a f = found_tells t w q.id (found w q.id) act refl a
  call_tells slots w t (Gather q) a f = found_tells t w q.id (found w q.id) Join refl a
  call_tells slots w t (Start id body values) a f = by (is_full slots w t) refl
    where
      by : (b : Bool) → is_full slots w t ≡ b → Each (IfReference R) (values_in_reply (cond b (reply.Failed ThreadLimit) (Started (suc (length (threads w))) (to_thread id))))
      by true e = tt
      by false e = (f id body values refl e, tt)
  call_tells slots w t (Print bytes) a f = tt
  call_tells slots w t (End how) a f = tt

-- ---- ids

with_ids : (P : Id → Type 0) (z : Store) (id : Id) (new : Thing) → Each (λ (x : Item). P x.id) z → Each (λ (x : Item). P x.id) (with_thing z id new)
with_ids P [] id new a = tt
with_ids P (x ∷ xs) id new (p, a) = each_if (λ (x : Item). P x.id) (same_id x.id id) (record { id = x.id; thing = new } ∷ xs) (x ∷ with_thing xs id new) (p, a) (p, with_ids P xs id new a)

act_ids : (P : Id → Type 0) (t : ℕ) (w : Store) (id : Id) (o : Option Thing) (act : Act) → Each (λ (x : Item). P x.id) w → Each (λ (x : Item). P x.id) (with_act t w id o act)
act_ids P t w id None act a = a
act_ids P t w id (Some x) act a = with_ids P w id (behind_act t x act) a

ended_ids : (P : Id → Type 0) (t : ℕ) (how : Ending) (w : Store) → Each (λ (x : Item). P x.id) w → Each (λ (x : Item). P x.id) (map (ended_item t how) w)
ended_ids P t how [] a = tt
ended_ids P t how (x ∷ xs) (p, a) = (p, ended_ids P t how xs a)

-- no call changes an id, and the start of a thread brings one
pub call_ids : (P : Id → Type 0) (slots : ℕ) (w : Store) (t : ℕ) (c : Call) → Each (λ (x : Item). P x.id) w → ((id : Id) (body : ℕ) (values : List Value) → c ≡ Start id body values → is_full slots w t ≡ false → P id)
    → Each (λ (x : Item). P x.id) (store_behind slots w t c)
call_ids P slots w t (On q act) a f = act_ids P t w q.id (found w q.id) act a
call_ids P slots w t (Gather q) a f = act_ids P t w q.id (found w q.id) Join a
call_ids P slots w t (Start id body values) a f = by (is_full slots w t) refl
  where
    by : (b : Bool) → is_full slots w t ≡ b → Each (λ (x : Item). P x.id) (cond b w (w ++ new_thread w t id ∷ []))
    by true e = a
    by false e = both (λ (x : Item). P x.id) w (new_thread w t id ∷ []) a (f id body values refl e, tt)
call_ids P slots w t (Print bytes) a f = a
call_ids P slots w t (End how) a f = ended_ids P t how w a

-- ---- how many threads there are

threads_first : (x : Item) (xs : Store) → length (threads (x ∷ xs)) ≡ length (thread_in x.thing) + length (threads xs)
threads_first x xs = length-append (thread_in x.thing) (threads xs)

threads_append : (xs ys : Store) → length (threads (xs ++ ys)) ≡ length (threads xs) + length (threads ys)
threads_append xs ys = ap length (flat_map-append (λ (x : Item). thread_in x.thing) xs ys) ∙ length-append (threads xs) (threads ys)

pub threads_more : (xs ys : Store) → length (threads xs) ≤ length (threads (xs ++ ys))
threads_more xs ys = let e = threads_append xs ys in omega (arith, e)

act_thread : (t : ℕ) (x : Thing) (act : Act) → length (thread_in x) ≤ length (thread_in (behind_act t x act))
act_thread t (Thread s) Join = omega (arith)
act_thread t (Thread s) act = omega (arith)
act_thread t (Mutex owner) act = omega (arith)
act_thread t (Object class fields) act = omega (arith)
act_thread t (Elements vs) act = omega (arith)
act_thread t (Pairs ps) act = omega (arith)

with_threads : (z : Store) (id : Id) (old new : Thing) → found z id ≡ Some old → length (thread_in old) ≤ length (thread_in new) → length (threads z) ≤ length (threads (with_thing z id new))
with_threads [] id old new f l = omega (arith)
with_threads (x ∷ xs) id old new f l = by (same_id x.id id) (λ g. with_threads xs id old new g l) f
  where
    by : (b : Bool) → (found xs id ≡ Some old → length (threads xs) ≤ length (threads (with_thing xs id new))) → cond b (Some x.thing) (found xs id) ≡ Some old
        → length (threads (x ∷ xs)) ≤ length (threads (cond b (record { id = x.id; thing = new } ∷ xs) (x ∷ with_thing xs id new)))
    by true later e =
        let a = threads_first x xs in
        let b = threads_first (record { id = x.id; thing = new }) xs in
        let c = ap (λ y. length (thread_in y)) (some_same x.thing old e) in
        omega (arith, a, b, c, l)
    by false later e =
        let a = threads_first x xs in
        let b = threads_first x (with_thing xs id new) in
        let c = later e in
        omega (arith, a, b, c)

with_act_threads : (t : ℕ) (w : Store) (id : Id) (o : Option Thing) (act : Act) → found w id ≡ o → length (threads w) ≤ length (threads (with_act t w id o act))
with_act_threads t w id None act f = omega (arith)
with_act_threads t w id (Some x) act f = with_threads w id x (behind_act t x act) f (act_thread t x act)

end_thread : (t : ℕ) (how : Ending) (x : Thing) → length (thread_in x) ≤ length (thread_in (ended_thing t how x))
end_thread t how (Thread s) = omega (arith)
end_thread t how (Mutex None) = omega (arith)
end_thread t how (Mutex (Some owner)) = omega (arith)
end_thread t how (Object class fields) = omega (arith)
end_thread t how (Elements vs) = omega (arith)
end_thread t how (Pairs ps) = omega (arith)

ended_threads : (t : ℕ) (how : Ending) (w : Store) → length (threads w) ≤ length (threads (map (ended_item t how) w))
ended_threads t how [] = omega (arith)
ended_threads t how (x ∷ xs) =
    let a = threads_first x xs in
    let b = threads_first (ended_item t how x) (map (ended_item t how) xs) in
    let c = end_thread t how x.thing in
    let d = ended_threads t how xs in
    omega (arith, a, b, c, d)

start_threads : (b : Bool) (w : Store) (x : Item) → length (threads w) ≤ length (threads (cond b w (w ++ x ∷ [])))
start_threads true w x = omega (arith)
start_threads false w x = threads_more w (x ∷ [])

-- no thread leaves
pub call_threads : (slots : ℕ) (w : Store) (t : ℕ) (c : Call) → length (threads w) ≤ length (threads (store_behind slots w t c))
call_threads slots w t (On q act) = with_act_threads t w q.id (found w q.id) act refl
call_threads slots w t (Gather q) = with_act_threads t w q.id (found w q.id) Join refl
call_threads slots w t (Start id body values) = start_threads (is_full slots w t) w (new_thread w t id)
call_threads slots w t (Print bytes) = omega (arith)
call_threads slots w t (End how) = ended_threads t how w

-- and one that is started is one more
pub one_thread : (w : Store) (t : ℕ) (id : Id) → suc (length (threads w)) ≤ length (threads (w ++ new_thread w t id ∷ []))
one_thread w t id = let e = threads_append w (new_thread w t id ∷ []) in omega (arith, e)
