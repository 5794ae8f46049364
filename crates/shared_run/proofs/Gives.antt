-- What a call is answered is as its receiver's sort allows.
use Rattle.std.proofs.Common.{◌≡◌, ◌⊎◌, ◌==◌, ℕ, Bool, true, false, cond, length, Option, Some, None, inl, inr, refl}
use Rattle.std.specs.Prelude.{nat_lt}
use Rattle.rb_model.specs.declared.fault.Fault.TheVariants.{IndexTooSmall, ArrayTooLong, JoinSelf, UnlockForeign}
use Rattle.rb_model.specs.Values.{truth, True, False}
use Rattle.rb_model.specs.Acts.{Act, GetField, SetField, At, Put, Push, Unshift, Pop, Shift, DeleteAt, KGet, KHas, KPut, KDelete, Clear, Len, Copy, Join, Lock, Unlock, Reply, Done, Value, Failed, Ended}
use Rattle.rb_model.specs.Ends.{End as Ending}
use Rattle.rb_model.specs.Things.{Thing, ThreadState, Object, Elements, Pairs, Mutex, Thread, index_of, last_place, element, field, put_reply, has_room, may_put, has_key, value_at, max_elements}
use Rattle.rb_shared.specs.Replies.{Serves, ActMayGive, IsEnded}
use Rattle.rb_shared.specs.Step.{act_reply, join_reply, reply_of}
use Rattle.rb_shared.specs.View.{started_number}
use Rattle.shared_run.specs.Standing.{sort_in, IsSized}

put_gives : (i : Option ℕ) → (put_reply i ≡ Done) ⊎ ((put_reply i ≡ Failed IndexTooSmall) ⊎ (put_reply i ≡ Failed ArrayTooLong))
put_gives None = inr (inl refl)
put_gives (Some n) = by (nat_lt n max_elements)
  where
    by : (b : Bool) → (cond b Done (Failed ArrayTooLong) ≡ Done) ⊎ ((cond b Done (Failed ArrayTooLong) ≡ Failed IndexTooSmall) ⊎ (cond b Done (Failed ArrayTooLong) ≡ Failed ArrayTooLong))
    by true = inl refl
    by false = inr (inr refl)

grown_gives : (b : Bool) → (cond b Done (Failed ArrayTooLong) ≡ Done) ⊎ (cond b Done (Failed ArrayTooLong) ≡ Failed ArrayTooLong)
grown_gives true = inl refl
grown_gives false = inr refl

truth_gives : (b : Bool) → (Value (truth b) ≡ Value False) ⊎ (Value (truth b) ≡ Value True)
truth_gives true = inr refl
truth_gives false = inl refl

unlock_gives : (b : Bool) → (cond b Done (Failed UnlockForeign) ≡ Done) ⊎ (cond b Done (Failed UnlockForeign) ≡ Failed UnlockForeign)
unlock_gives true = inl refl
unlock_gives false = inr refl

join_gives : (t : ℕ) (s : ThreadState) (end : Option Ending) → IsEnded (join_reply t s end) ⊎ (join_reply t s end ≡ Failed JoinSelf)
join_gives t s None = inr refl
join_gives t s (Some how) = by (s.number == t)
  where
    by : (b : Bool) → IsEnded (cond b (Failed JoinSelf) (Ended how)) ⊎ (cond b (Failed JoinSelf) (Ended how) ≡ Failed JoinSelf)
    by true = inr refl
    by false = inl (how, refl)

pub act_gives : (t : ℕ) (thing : Thing) (act : Act) → Serves (sort_in thing) act → IsSized thing → ActMayGive (sort_in thing) act (act_reply t thing act)
act_gives t (Thread s) Join serves sized = join_gives t s s.end
act_gives t (Thread s) act serves sized = absurd serves
act_gives t (Mutex None) Lock serves sized = inl refl
act_gives t (Mutex (Some owner)) Lock serves sized = inr refl
act_gives t (Mutex None) Unlock serves sized = inr refl
act_gives t (Mutex (Some owner)) Unlock serves sized = unlock_gives (owner == t)
act_gives t (Mutex owner) act serves sized = absurd serves
act_gives t (Object class fields) (GetField name) serves sized = (field name fields, refl)
act_gives t (Object class fields) (SetField name v) serves sized = refl
act_gives t (Object class fields) act serves sized = absurd serves
act_gives t (Elements vs) (At i) serves sized = (element vs (index_of (length vs) i), refl)
act_gives t (Elements vs) (Put i v) serves sized = put_gives (index_of (length vs) i)
act_gives t (Elements vs) (Push v) serves sized = grown_gives (has_room (length vs))
act_gives t (Elements vs) (Unshift v) serves sized = grown_gives (has_room (length vs))
act_gives t (Elements vs) Pop serves sized = (element vs (last_place (length vs)), refl)
act_gives t (Elements vs) Shift serves sized = (element vs (Some 0), refl)
act_gives t (Elements vs) (DeleteAt i) serves sized = (element vs (index_of (length vs) i), refl)
act_gives t (Elements vs) Clear serves sized = refl
act_gives t (Elements vs) Len serves sized = (length vs, sized, refl)
act_gives t (Elements vs) Copy serves sized = (vs, sized, refl)
act_gives t (Elements vs) act serves sized = absurd serves
act_gives t (Pairs ps) (KGet k) serves sized = (value_at k ps, refl)
act_gives t (Pairs ps) (KHas k) serves sized = truth_gives (has_key k ps)
act_gives t (Pairs ps) (KPut k v) serves sized = grown_gives (may_put k ps)
act_gives t (Pairs ps) (KDelete k) serves sized = (value_at k ps, refl)
act_gives t (Pairs ps) Clear serves sized = refl
act_gives t (Pairs ps) Len serves sized = (length ps, sized, refl)
act_gives t (Pairs ps) Copy serves sized = (ps, sized, refl)
act_gives t (Pairs ps) act serves sized = absurd serves

-- ---- nothing but a Start starts a thread

no_start_if : (b : Bool) (x y : Reply) → started_number x ≡ None → started_number y ≡ None → started_number (cond b x y) ≡ None
no_start_if true x y p q = p
no_start_if false x y p q = q

put_no_start : (i : Option ℕ) → started_number (put_reply i) ≡ None
put_no_start None = refl
put_no_start (Some n) = no_start_if (nat_lt n max_elements) Done (Failed ArrayTooLong) refl refl

grown_no_start : (b : Bool) → started_number (cond b Done (Failed ArrayTooLong)) ≡ None
grown_no_start b = no_start_if b Done (Failed ArrayTooLong) refl refl

join_no_start : (t : ℕ) (s : ThreadState) (end : Option Ending) → started_number (join_reply t s end) ≡ None
join_no_start t s None = refl
join_no_start t s (Some how) = no_start_if (s.number == t) (Failed JoinSelf) (Ended how) refl refl

act_no_start : (t : ℕ) (thing : Thing) (act : Act) → started_number (act_reply t thing act) ≡ None
act_no_start t (Thread s) Join = join_no_start t s s.end
act_no_start t (Thread s) act = refl
act_no_start t (Mutex None) Lock = refl
act_no_start t (Mutex (Some owner)) Lock = refl
act_no_start t (Mutex None) Unlock = refl
act_no_start t (Mutex (Some owner)) Unlock = no_start_if (owner == t) Done (Failed UnlockForeign) refl refl
act_no_start t (Mutex owner) act = refl
act_no_start t (Object class fields) (GetField name) = refl
act_no_start t (Object class fields) act = refl
act_no_start t (Elements vs) (Put i v) = put_no_start (index_of (length vs) i)
act_no_start t (Elements vs) (Push v) = grown_no_start (has_room (length vs))
act_no_start t (Elements vs) (Unshift v) = grown_no_start (has_room (length vs))
act_no_start t (Elements vs) act = refl
act_no_start t (Pairs ps) (KPut k v) = grown_no_start (may_put k ps)
act_no_start t (Pairs ps) act = refl

pub no_start : (t : ℕ) (o : Option Thing) (act : Act) → started_number (reply_of t o act) ≡ None
no_start t None act = refl
no_start t (Some thing) act = act_no_start t thing act
