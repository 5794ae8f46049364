-- What an entry starts and gathers, what a call needs, and what an answer leaves of a view.
use Rattle.std.proofs.Common.{◌≡◌, ℕ, suc, zero, slice_get, ◌-◌, true, false, not, List, [], ◌∷◌, ◌++◌, length, map, Some, None, ◌⊎◌, inl, inr, refl, sym, ap, subst, ◌∙◌, append-nil, append_assoc}
use Rattle.rb_model.specs.declared.value.Id.{Id}
use Rattle.rb_model.specs.declared.value.Ref.{Ref}
use Rattle.rb_model.specs.declared.act.Act.{Act as Asked}
use Rattle.rb_model.specs.declared.act.Reply.{Reply as Answered}
use Rattle.rb_model.specs.declared.act.Reply.TheVariants as answered
use Rattle.rb_model.specs.declared.call.Call.{Call as Held}
use Rattle.rb_model.specs.declared.call.Call.TheVariants as held
use Rattle.rb_model.specs.declared.call.End.{End as HeldEnd}
use Rattle.rb_model.specs.declared.moved.MovedItem.{MovedItem}
use Rattle.rb_model.specs.Values.{Value as Val, Reference}
use Rattle.rb_model.specs.Acts.{Act, GetField, SetField, At, Put, Push, Unshift, Pop, Shift, DeleteAt, KGet, KHas, KPut, KDelete, Clear, Len, Copy, Join, Lock, Unlock, Reply}
use Rattle.rb_model.specs.Acts as reply
use Rattle.rb_model.specs.Doing.{doing, said}
use Rattle.rb_model.specs.Immediates.{reference}
use Rattle.rb_model.specs.Moving.{items_of, ref_of, refs_in_act, refs_in_end, refs_in_reply}
use Rattle.rb_model.specs.Private.{Item}
use Rattle.rb_model.specs.Log.{Entry, Call, On, Start, Gather, Print, End, asked, is_end}
use Rattle.rb_model.specs.Started.{started, started_by, after_call, after_entries}
use Rattle.rb_shared.specs.declared.answer.Answer.{Answer}
use Rattle.rb_shared.specs.declared.answer.Answer.TheVariants as answer
use Rattle.rb_shared.specs.Lists.{Has, Each}
use Rattle.rb_shared.specs.Asking.{MayAsk, Knows, NamesOne, HasJoined, WasTold, ids_moved}
use Rattle.rb_shared.specs.Answers.{entry_of}
use Rattle.rb_shared.specs.Replies.{Serves}
use Rattle.rb_shared.specs.View.{View, with_entry, with_refused, unasked, room}
use Rattle.rb_thread.specs.Family.{Job, Body, job_by, jobs, number_of}
use Rattle.rb_thread.specs.Asking.{is_join, tells_end, number_in}
use Rattle.rb_thread.specs.Seats as seats

-- ---- membership

pub has_left : {A : Type 0} (xs ys : List A) (x : A) → Has xs x → Has (xs ++ ys) x
has_left [] ys x h = absurd h
has_left (z ∷ xs) ys x (inl e) = inl e
has_left (z ∷ xs) ys x (inr h) = inr (has_left xs ys x h)

pub has_right : {A : Type 0} (xs ys : List A) (x : A) → Has ys x → Has (xs ++ ys) x
has_right [] ys x h = h
has_right (z ∷ xs) ys x h = inr (has_right xs ys x h)

pub has_cases : {A : Type 0} (xs ys : List A) (x : A) → Has (xs ++ ys) x → Has xs x ⊎ Has ys x
has_cases [] ys x h = inr h
has_cases (z ∷ xs) ys x (inl e) = inl (inl e)
has_cases (z ∷ xs) ys x (inr h) = elim (has_cases xs ys x h) [ inl k ↦ inl (inr k) | inr k ↦ inr k ]

pub each_of : {A : Type 0} (P Q : A → Type 0) (xs : List A) → ((x : A) → P x → Q x) → Each P xs → Each Q xs
each_of P Q [] f e = tt
each_of P Q (x ∷ xs) f e = (f x e.0, each_of P Q xs f e.1)

-- ---- one more entry

pub started_more : (es : List Entry) (e : Entry) → started (es ++ e ∷ []) ≡ started es ++ started_by e.call e.reply
started_more [] e = append-nil (started_by e.call e.reply)
started_more (x ∷ es) e =
    ap (λ y. started_by x.call x.reply ++ y) (started_more es e) ∙ sym (append_assoc (started_by x.call x.reply) (started es) (started_by e.call e.reply))

pub after_more : (rs : List Reference) (es : List Entry) (e : Entry) → after_entries rs (es ++ e ∷ []) ≡ after_call (after_entries rs es) e.call e.reply
after_more rs [] e = refl
after_more rs (x ∷ es) e = after_more (after_call rs x.call x.reply) es e

pub jobs_more : (es : List Entry) (e : Entry) → jobs (es ++ e ∷ []) ≡ jobs es ++ job_by e.call e.reply
jobs_more [] e = append-nil (job_by e.call e.reply)
jobs_more (x ∷ es) e = ap (λ y. job_by x.call x.reply ++ y) (jobs_more es e) ∙ sym (append_assoc (job_by x.call x.reply) (jobs es) (job_by e.call e.reply))

-- the ids of what moved
pub ids_more : (es : List Entry) (e : Entry) → ids_moved (es ++ e ∷ []) ≡ ids_moved es ++ map (λ (x : Item). x.id) e.moved
ids_more [] e = append-nil (map (λ (x : Item). x.id) e.moved)
ids_more (y ∷ es) e =
    ap (λ ys. map (λ (x : Item). x.id) y.moved ++ ys) (ids_more es e) ∙ sym (append_assoc (map (λ (x : Item). x.id) y.moved) (ids_moved es) (map (λ (x : Item). x.id) e.moved))

-- ---- the jobs stand where the threads do

alike : (c : Call) (r : Reply) → ((started_by c r ≡ []) × (job_by c r ≡ [])) ⊎ ((n body : ℕ) × (vs : List Val) × (t : Reference) × (started_by c r ≡ (n, t) ∷ []) × (job_by c r ≡ Body n body vs ∷ []))
alike (On t a) r = inl (refl, refl)
alike (Start id b vs) (reply.Started n t) = inr (n, b, vs, t, refl, refl)
alike (Start id b vs) (reply.Value v) = inl (refl, refl)
alike (Start id b vs) (reply.Elements v) = inl (refl, refl)
alike (Start id b vs) (reply.Pairs v) = inl (refl, refl)
alike (Start id b vs) reply.Done = inl (refl, refl)
alike (Start id b vs) (reply.Ended h) = inl (refl, refl)
alike (Start id b vs) (reply.Failed f) = inl (refl, refl)
alike (Gather t) r = inl (refl, refl)
alike (Print bs) r = inl (refl, refl)
alike (End how) r = inl (refl, refl)

abbrev pub StandsAlike : List (ℕ × Reference) → List Job → Type 0
StandsAlike xs ys = (i n : ℕ) (t : Reference) → slice_get xs i ≡ Some (n, t) → (j : Job) × (slice_get ys i ≡ Some j) × (number_of j ≡ n)

stands_on : (xs : List (ℕ × Reference)) (ys : List Job) (n body : ℕ) (vs : List Val) (t : Reference) → StandsAlike xs ys → StandsAlike ((n, t) ∷ xs) (Body n body vs ∷ ys)
stands_on xs ys n body vs t s zero m u e = (Body n body vs, refl, ap (λ (p : ℕ × Reference). p.0) (some_is (n, t) (m, u) e)) where
  some_is : {X : Type 0} (a b : X) → Some a ≡ Some b → a ≡ b
  some_is a b e = cc
stands_on xs ys n body vs t s (suc i) m u e = s i m u e

pub job_at : (es : List Entry) → StandsAlike (started es) (jobs es)
job_at [] = λ i n t e. absurd (cc)
job_at (e ∷ es) = elim (alike e.call e.reply) [
  | inl h ↦ subst (λ xs. StandsAlike (xs ++ started es) (job_by e.call e.reply ++ jobs es)) (sym h.0) (subst (λ ys. StandsAlike (started es) (ys ++ jobs es)) (sym h.1) (job_at es))
  | inr h ↦ subst (λ xs. StandsAlike (xs ++ started es) (job_by e.call e.reply ++ jobs es)) (sym h.4) (subst (λ ys. StandsAlike ((h.0, h.3) ∷ started es) (ys ++ jobs es)) (sym h.5) (stands_on (started es) (jobs es) h.0 h.1 h.2 h.3 (job_at es)))
]

pub length_jobs : (es : List Entry) → length (jobs es) ≡ length (started es)
length_jobs [] = refl
length_jobs (e ∷ es) = elim (alike e.call e.reply) [
  | inl h ↦ subst (λ xs. length (job_by e.call e.reply ++ jobs es) ≡ length (xs ++ started es)) (sym h.0) (subst (λ ys. length (ys ++ jobs es) ≡ length (started es)) (sym h.1) (length_jobs es))
  | inr h ↦ subst (λ xs. length (job_by e.call e.reply ++ jobs es) ≡ length (xs ++ started es)) (sym h.4) (subst (λ ys. length (ys ++ jobs es) ≡ suc (length (started es))) (sym h.5) (ap suc (length_jobs es)))
]

-- an entry that starts none and gathers none
abbrev pub IsQuiet : Call → Reply → Type 0
IsQuiet c r = (started_by c r ≡ []) × ((rs : List Reference) → after_call rs c r ≡ rs) × (job_by c r ≡ [])

pub quiet_started : (es : List Entry) (e : Entry) → IsQuiet e.call e.reply → started (es ++ e ∷ []) ≡ started es
quiet_started es e q = started_more es e ∙ (ap (λ y. started es ++ y) q.0 ∙ append-nil (started es))

pub quiet_after : (es : List Entry) (e : Entry) → IsQuiet e.call e.reply → after_entries [] (es ++ e ∷ []) ≡ after_entries [] es
quiet_after es e q = after_more [] es e ∙ q.1 (after_entries [] es)

pub quiet_jobs : (es : List Entry) (e : Entry) → IsQuiet e.call e.reply → jobs (es ++ e ∷ []) ≡ jobs es
quiet_jobs es e q = jobs_more es e ∙ (ap (λ y. jobs es ++ y) q.2 ∙ append-nil (jobs es))

-- ---- acts

pub quiet_act : (t : Reference) (act : Act) (r : Reply) → is_join act ≡ false → IsQuiet (On t act) r
quiet_act t (GetField n) r e = (refl, (λ rs. refl), refl)
quiet_act t (SetField n v) r e = (refl, (λ rs. refl), refl)
quiet_act t (At i) r e = (refl, (λ rs. refl), refl)
quiet_act t (Put i v) r e = (refl, (λ rs. refl), refl)
quiet_act t (Push v) r e = (refl, (λ rs. refl), refl)
quiet_act t (Unshift v) r e = (refl, (λ rs. refl), refl)
quiet_act t Pop r e = (refl, (λ rs. refl), refl)
quiet_act t Shift r e = (refl, (λ rs. refl), refl)
quiet_act t (DeleteAt i) r e = (refl, (λ rs. refl), refl)
quiet_act t (KGet k) r e = (refl, (λ rs. refl), refl)
quiet_act t (KHas k) r e = (refl, (λ rs. refl), refl)
quiet_act t (KPut k v) r e = (refl, (λ rs. refl), refl)
quiet_act t (KDelete k) r e = (refl, (λ rs. refl), refl)
quiet_act t Clear r e = (refl, (λ rs. refl), refl)
quiet_act t Len r e = (refl, (λ rs. refl), refl)
quiet_act t Copy r e = (refl, (λ rs. refl), refl)
quiet_act t Join r e = absurd (let f : true ≡ false = e in cc)
quiet_act t Lock r e = (refl, (λ rs. refl), refl)
quiet_act t Unlock r e = (refl, (λ rs. refl), refl)

pub joins_none : (v : View) (t : Reference) (act : Act) → is_join act ≡ false → HasJoined v (On t act)
joins_none v t (GetField n) e = tt
joins_none v t (SetField n w) e = tt
joins_none v t (At i) e = tt
joins_none v t (Put i w) e = tt
joins_none v t (Push w) e = tt
joins_none v t (Unshift w) e = tt
joins_none v t Pop e = tt
joins_none v t Shift e = tt
joins_none v t (DeleteAt i) e = tt
joins_none v t (KGet k) e = tt
joins_none v t (KHas k) e = tt
joins_none v t (KPut k w) e = tt
joins_none v t (KDelete k) e = tt
joins_none v t Clear e = tt
joins_none v t Len e = tt
joins_none v t Copy e = tt
joins_none v t Join e = absurd (let f : true ≡ false = e in cc)
joins_none v t Lock e = tt
joins_none v t Unlock e = tt

-- a Join that is not answered by an end
pub quiet_join : (t : Reference) (r : Answered) → tells_end (answer.Done r) ≡ false → IsQuiet (On t Join) (said r)
quiet_join t (answered.Value v) e = (refl, (λ rs. refl), refl)
quiet_join t (answered.Elements vs) e = (refl, (λ rs. refl), refl)
quiet_join t (answered.Pairs ps) e = (refl, (λ rs. refl), refl)
quiet_join t answered.Done e = (refl, (λ rs. refl), refl)
quiet_join t (answered.Started n s) e = (refl, (λ rs. refl), refl)
quiet_join t (answered.Ended how) e = absurd (let f : true ≡ false = e in cc)
quiet_join t (answered.Failed f) e = (refl, (λ rs. refl), refl)

-- and a Start that starts none
pub quiet_start : (id : Id) (body : ℕ) (vs : List Val) (r : Answered) → number_in (answer.Done r) ≡ None → IsQuiet (Start id body vs) (said r)
quiet_start id body vs (answered.Value v) e = (refl, (λ rs. refl), refl)
quiet_start id body vs (answered.Elements ws) e = (refl, (λ rs. refl), refl)
quiet_start id body vs (answered.Pairs ps) e = (refl, (λ rs. refl), refl)
quiet_start id body vs answered.Done e = (refl, (λ rs. refl), refl)
quiet_start id body vs (answered.Started n s) e = absurd (let f : Some (n, s) ≡ None = e in cc)
quiet_start id body vs (answered.Ended how) e = (refl, (λ rs. refl), refl)
quiet_start id body vs (answered.Failed f) e = (refl, (λ rs. refl), refl)

-- ---- what a call that moves nothing needs

known_or : (v : View) (rs : List Ref) → Each (Knows v) rs → Each (λ r. Knows v r ⊎ NamesOne [] r) (rs ++ [])
known_or v [] e = tt
known_or v (r ∷ rs) e = (inl e.0, known_or v rs e.1)

pub receives_by : (v : View) (r : Ref) (act : Act) → Knows v r → Serves r.sort act → (x : Ref) → Some r ≡ Some x → Knows v x × Serves x.sort act
receives_by v r act k s x e = let q : r ≡ x = cc in subst (λ y. Knows v y × Serves y.sort act) q (k, s)

pub may_join : (v : View) (r : Ref) → Knows v r → Serves r.sort Join → WasTold v r.id → (act : Asked) → doing act ≡ Join → Each (Knows v) (refs_in_act act) → MayAsk v (held.On r act) []
may_join v r k s told act e refs = record {
  receives = receives_by v r (doing act) k (subst (Serves r.sort) (sym e) s);
  known = known_or v (refs_in_act act) refs;
  own = tt;
  once = tt;
  first = tt;
  things = tt;
  bare = λ b. refl;
  next = tt;
  gathers = tt;
  joined = subst (λ a. HasJoined v (On (reference r) a)) (sym e) told;
}

pub may_gather : (v : View) (n : ℕ) (r : Ref) → Knows v r → Serves r.sort Join → Has (started v.log.entries) (n, reference r) → WasTold v r.id → MayAsk v (held.Gather r) []
may_gather v n r k s h told = record {
  receives = receives_by v r Join k s;
  known = tt;
  own = tt;
  once = tt;
  first = tt;
  things = tt;
  bare = λ b. refl;
  next = tt;
  gathers = (n, reference r, h, refl);
  joined = told;
}

pub may_print : (v : View) (text : _) → MayAsk v (held.Print text) []
may_print v text = record {
  receives = λ x q. absurd (cc);
  known = tt;
  own = tt;
  once = tt;
  first = tt;
  things = tt;
  bare = λ b. refl;
  next = tt;
  gathers = tt;
  joined = tt;
}

pub may_end : (v : View) (how : HeldEnd) → Each (Knows v) (refs_in_end how) → MayAsk v (held.End how) []
may_end v how refs = record {
  receives = λ x q. absurd (cc);
  known = known_or v (refs_in_end how) refs;
  own = tt;
  once = tt;
  first = tt;
  things = tt;
  bare = λ b. refl;
  next = tt;
  gathers = tt;
  joined = tt;
}

-- ---- what goes on of a view

-- The thread goes on: it was told no more, and has and knows all that it had and knew.
pub record Goes (v w : View) : Type 0 where
  pub going : v.ended ≡ false → w.ended ≡ false
  pub polled : v.polled ≡ true → w.polled ≡ true
  pub thread : w.thread ≡ v.thread
  pub generation : w.generation ≡ v.generation
  pub slots : w.slots ≡ v.slots
  pub told : w.told ≡ v.told
  pub entries : (e : Entry) → Has v.log.entries e → Has w.log.entries e
  pub known : (r : Ref) → Knows v r → Knows w r

pub goes_entry : (v : View) (e : Entry) (refs : List Ref) → is_end e.call ≡ false → Goes v (with_entry v e refs)
goes_entry v e refs n = record {
  going = λ g. n;
  polled = λ p. ap not n;
  thread = refl;
  generation = refl;
  slots = refl;
  told = refl;
  entries = λ x h. has_left v.log.entries (e ∷ []) x h;
  known = λ r h. has_left v.known refs r h;
}

pub goes_same : (v w : View) → w.ended ≡ v.ended → w.polled ≡ v.polled → w.thread ≡ v.thread → w.generation ≡ v.generation → w.slots ≡ v.slots → w.told ≡ v.told → w.log.entries ≡ v.log.entries → w.known ≡ v.known → Goes v w
goes_same v w en po th ge sl to lg kn = record {
  going = λ g. en ∙ g;
  polled = λ p. po ∙ p;
  thread = th;
  generation = ge;
  slots = sl;
  told = to;
  entries = λ x h. subst (λ es. Has es x) (sym lg) h;
  known = λ r h. subst (λ rs. Has rs r) (sym kn) h;
}

pub goes_answered : (v w : View) (n : ℕ) (c : Held) (ms : List MovedItem) (a : Answer) (ms' : List MovedItem) → is_end (asked c) ≡ false → seats.Answered v n c ms a ms' w → Goes v w
goes_answered v w n c ms (answer.Done r) ms' e x = subst (Goes v) (sym x.0) (goes_entry v (entry_of n c ms (said r)) (refs_in_reply r ++ map ref_of ms') e)
goes_answered v w n c ms (answer.Full used wanted) ms' e x =
    subst (Goes v) (sym x.0) (goes_same v (with_refused v (asked c) (items_of ms) (Some (used, wanted))) refl refl refl refl refl refl refl refl)
goes_answered v w n c ms answer.SinkFailed ms' e x = subst (Goes v) (sym x.0) (goes_same v (with_refused v (asked c) (items_of ms) None) refl refl refl refl refl refl refl refl)
goes_answered v w n c ms answer.Memory ms' e x = subst (Goes v) (sym x.0) (goes_same v (unasked v) refl refl refl refl refl refl refl refl)

pub goes_on : (u v w : View) → Goes u v → Goes v w → Goes u w
goes_on u v w g h = record {
  going = λ e. h.going (g.going e);
  polled = λ e. h.polled (g.polled e);
  thread = h.thread ∙ g.thread;
  generation = h.generation ∙ g.generation;
  slots = h.slots ∙ g.slots;
  told = h.told ∙ g.told;
  entries = λ x e. h.entries x (g.entries x e);
  known = λ r e. h.known r (g.known r e);
}

pub goes_room : (v w : View) → Goes v w → room w ≡ room v
goes_room v w g = ap (λ x. x - w.generation) g.slots ∙ ap (λ x. v.slots - x) g.generation

-- an answer that is none that a call of this kind may have leaves the entries
abbrev pub LeavesEntries : View → View → Type 0
LeavesEntries v w = w.log.entries ≡ v.log.entries
