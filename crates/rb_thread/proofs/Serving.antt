-- How an answer of the store serves the thread.
use Rattle.std.proofs.Common.{◌≡◌, ℕ, true, false, [], refl, sym, ap, subst, ◌∙◌}
use Rattle.rb_model.specs.declared.call.Call.{Call as Held}
use Rattle.rb_model.specs.declared.call.Call.TheVariants as held
use Rattle.rb_model.specs.declared.call.Served.{Served}
use Rattle.rb_model.specs.Acts.{Act, GetField, SetField, At, Put, Push, Unshift, Pop, Shift, DeleteAt, KGet, KHas, KPut, KDelete, Clear, Len, Copy, Join, Lock, Unlock}
use Rattle.rb_model.specs.Outside.{IsServed, handed_by}
use Rattle.rb_model.specs.Private.{Leaves, Private, nothing_waits}
use Rattle.rb_model.specs.Log.{Log, Call, Print, Answers, asked, is_print, logged}
use Rattle.rb_shared.specs.declared.answer.Answer.{Answer}
use Rattle.rb_shared.specs.declared.answer.Answer.TheVariants as answer
use Rattle.rb_shared.specs.View.{View}
use Rattle.rb_thread.specs.Asking.{is_join, printed_as}
use Rattle.rb_thread.specs.Handing.{served_as}
use Rattle.rb_thread.specs.Seats as seats

served_by : (v w : View) (n : ℕ) (c : Held) (a : Answer) (own : Private) → is_print (asked c) ≡ false → handed_by (asked c) ≡ [] → seats.Answered v n c [] a [] w
    → IsServed (served_as a) n (asked c) v.log w.log own own
served_by v w n c a own p e x = by a x where
  none : Leaves own (handed_by (asked c)) [] own
  none = subst (λ vs. Leaves own vs [] own) (sym e) (nothing_waits own)

  by : (a : Answer) → seats.Answered v n c [] a [] w → IsServed (served_as a) n (asked c) v.log w.log own own
  by (answer.Done r) x = ([], none, ap (λ (y : View). y.log) x.0)
  by (answer.Full used wanted) x = (refl, ([], own, none, ap (λ (y : View). y.log) x.0))
  by answer.SinkFailed x = absurd (let q : true ≡ false = sym x.1 ∙ p in cc)
  by answer.Memory x = (refl, ap (λ (y : View). y.log) x.0)

-- with what the code has
pub served_is : (v w : View) (n : ℕ) (c : Held) (a : Answer) (own : Private) (s : Served) (d : Call) → is_print (asked c) ≡ false → s ≡ served_as a → asked c ≡ d → handed_by d ≡ [] → seats.Answered v n c [] a [] w
    → IsServed s n d v.log w.log own own
served_is v w n c a own s d p q i e x =
    subst (λ k. IsServed s n k v.log w.log own own) i (subst (λ o. IsServed o n (asked c) v.log w.log own own) (sym q) (served_by v w n c a own p (ap handed_by i ∙ e) x))

-- what came before left the log and the private things
pub served_since : (s : Served) (n : ℕ) (d : Call) (old now new : Log) (own own' : Private) → now ≡ old → own' ≡ own → IsServed s n d now new own own → IsServed s n d old new own own'
served_since s n d old now new own own' l o x = subst (λ h. IsServed s n d old new own h) (sym o) (subst (λ k. IsServed s n d k new own own) l x)

-- what came behind left the log
pub served_until : (s : Served) (n : ℕ) (d : Call) (old new now : Log) (own own' : Private) → now ≡ new → IsServed s n d old new own own' → IsServed s n d old now own own'
served_until s n d old new now own own' l x = subst (λ k. IsServed s n d old k own own') (sym l) x

-- another call that is the same
pub served_as_call : (s : Served) (n : ℕ) (c d : Call) (old new : Log) (own own' : Private) → c ≡ d → IsServed s n c old new own own' → IsServed s n d old new own own'
served_as_call s n c d old new own own' e x = subst (λ k. IsServed s n k old new own own') e x

pub prints_by : (v w : View) (n : ℕ) (text : _) (a : Answer) → seats.Answered v n (held.Print text) [] a [] w → Answers (printed_as a) n (Print text) v.log w.log
prints_by v w n text (answer.Done r) x = ap (λ (y : View). y.log) x.0 ∙ ap (λ o. logged v.log (record { step = n; call = Print text; moved = []; reply = o })) x.1
prints_by v w n text (answer.Full used wanted) x = absurd (let q : false ≡ true = x.1 in cc)
prints_by v w n text answer.SinkFailed x = (refl, ap (λ (y : View). y.log) x.0)
prints_by v w n text answer.Memory x = ap (λ (y : View). y.log) x.0

pub join_is : (a : Act) → is_join a ≡ true → a ≡ Join
join_is (GetField n) e = absurd (let q : false ≡ true = e in cc)
join_is (SetField n v) e = absurd (let q : false ≡ true = e in cc)
join_is (At i) e = absurd (let q : false ≡ true = e in cc)
join_is (Put i v) e = absurd (let q : false ≡ true = e in cc)
join_is (Push v) e = absurd (let q : false ≡ true = e in cc)
join_is (Unshift v) e = absurd (let q : false ≡ true = e in cc)
join_is Pop e = absurd (let q : false ≡ true = e in cc)
join_is Shift e = absurd (let q : false ≡ true = e in cc)
join_is (DeleteAt i) e = absurd (let q : false ≡ true = e in cc)
join_is (KGet k) e = absurd (let q : false ≡ true = e in cc)
join_is (KHas k) e = absurd (let q : false ≡ true = e in cc)
join_is (KPut k v) e = absurd (let q : false ≡ true = e in cc)
join_is (KDelete k) e = absurd (let q : false ≡ true = e in cc)
join_is Clear e = absurd (let q : false ≡ true = e in cc)
join_is Len e = absurd (let q : false ≡ true = e in cc)
join_is Copy e = absurd (let q : false ≡ true = e in cc)
join_is Join e = refl
join_is Lock e = absurd (let q : false ≡ true = e in cc)
join_is Unlock e = absurd (let q : false ≡ true = e in cc)
