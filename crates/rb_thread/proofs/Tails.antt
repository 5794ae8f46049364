-- Gathering the threads that were started.
use Rattle.std.proofs.Common.{◌≡◌, ℕ, suc, zero, ◌+◌, ◌≤◌, Bool, true, false, List, [], ◌∷◌, length, drop, Some, None, refl, sym, ap, subst, ◌∙◌, slice_get}
use Rattle.std.specs.Prelude.{◌||◌}
use Rattle.rb_model.specs.declared.value.Ref.{Ref}
use Rattle.rb_model.specs.declared.act.Reply.{Reply as Answered}
use Rattle.rb_model.specs.declared.act.Reply.TheVariants as answered
use Rattle.rb_model.specs.declared.call.Call.TheVariants as held
use Rattle.rb_model.specs.declared.call.End.{End as HeldEnd}
use Rattle.rb_model.specs.Doing.{said}
use Rattle.rb_model.specs.Ends.{End as Ending, later}
use Rattle.rb_model.specs.Immediates.{reference}
use Rattle.rb_model.specs.Log.{Log, logged}
use Rattle.rb_shared.specs.declared.answer.Answer.{Answer}
use Rattle.rb_shared.specs.declared.answer.Answer.TheVariants as answer
use Rattle.rb_shared.specs.Replies.{IsEnded}
use Rattle.rb_shared.specs.View.{View}
use Rattle.rb_machine.specs.Follows.{Tail, all_gathered, gathers, leaves_out, gather_entry}
use Rattle.rb_thread.specs.Kins.{Kin, waits, ChangesAt, AreCleared}
use Rattle.rb_thread.specs.Asking.{ended_in}
use Rattle.rb_thread.specs.Seats as seats
use Rattle.rb_thread.specs.Alive.{Gathers}
use Rattle.rb_thread.proofs.Lines.{waits_next, waits_skip, waits_over, drop_set, length_set, get_set, cleared_more, unchanged_before, some_same}
use Rattle.rb_thread.proofs.Sounding.{QuietAnswer}

-- ---- what a Gather is answered

not_ended : (r : Answered) → ended_in (answer.Done r) ≡ None → IsEnded (said r) → ⊥
not_ended (answered.Ended how) e i = absurd (let q : Some how ≡ None = e in cc)
not_ended (answered.Value v) e i = absurd (let q = i.1 in cc)
not_ended (answered.Elements v) e i = absurd (let q = i.1 in cc)
not_ended (answered.Pairs v) e i = absurd (let q = i.1 in cc)
not_ended answered.Done e i = absurd (let q = i.1 in cc)
not_ended (answered.Started n t) e i = absurd (let q = i.1 in cc)
not_ended (answered.Failed f) e i = absurd (let q = i.1 in cc)

-- where no end is told there is no entry
pub left_out : (v w : View) (n : ℕ) (r : Ref) (a : Answer) → ended_in a ≡ None → seats.Answered v n (held.Gather r) [] a [] w → (w.log ≡ v.log) × QuietAnswer (held.Gather r) a
left_out v w n r (answer.Done s) e x = absurd (not_ended s e x.1)
left_out v w n r (answer.Full used wanted) e x = absurd (let f : false ≡ true = x.1 in cc)
left_out v w n r answer.SinkFailed e x = absurd (let f : false ≡ true = x.1 in cc)
left_out v w n r answer.Memory e x = (ap (λ (y : View). y.log) x.0, tt)

-- and where one is told there is this entry
pub told_as : (a : Answer) (how : HeldEnd) → ended_in a ≡ Some how → a ≡ answer.Done (answered.Ended how)
told_as (answer.Done (answered.Ended h)) how e = ap (λ x. answer.Done (answered.Ended x)) (some_same h how e)
told_as (answer.Done (answered.Value v)) how e = absurd (let q : None ≡ Some how = e in cc)
told_as (answer.Done (answered.Elements v)) how e = absurd (let q : None ≡ Some how = e in cc)
told_as (answer.Done (answered.Pairs v)) how e = absurd (let q : None ≡ Some how = e in cc)
told_as (answer.Done answered.Done) how e = absurd (let q : None ≡ Some how = e in cc)
told_as (answer.Done (answered.Started n t)) how e = absurd (let q : None ≡ Some how = e in cc)
told_as (answer.Done (answered.Failed f)) how e = absurd (let q : None ≡ Some how = e in cc)
told_as (answer.Full used wanted) how e = absurd (let q : None ≡ Some how = e in cc)
told_as answer.SinkFailed how e = absurd (let q : None ≡ Some how = e in cc)
told_as answer.Memory how e = absurd (let q : None ≡ Some how = e in cc)

-- ---- one

pub gathered_before : {Q : Type 0} (n k : ℕ) (l l' : Log) (e : Ending) (ks : List (Kin Q)) (x : Kin Q) → slice_get ks k ≡ Some x → x.gathered ≡ true → l' ≡ l → Gathers n k ks l e l' e false
gathered_before n k l l' e ks x g d same m f b t =
    subst (λ rs. Tail n l e rs m f b) (sym (waits_skip ks k x g d)) (subst (λ o. Tail n o e (waits (drop (suc k) ks)) m f b) same t)

pub gathered_now : {Q : Type 0} (n k : ℕ) (l l' : Log) (e e' how : Ending) (ks : List (Kin Q)) (x : Kin Q) → slice_get ks k ≡ Some x → x.gathered ≡ false
    → l' ≡ logged l (gather_entry n (reference x.thing) how) → e' ≡ later e how → Gathers n k ks l e l' e' false
gathered_now n k l l' e e' how ks x g d il ie m f b t =
    let t' = subst (λ o. Tail n o e' (waits (drop (suc k) ks)) m f b) il t in
    let t'' = subst (λ o. Tail n (logged l (gather_entry n (reference x.thing) how)) o (waits (drop (suc k) ks)) m f b) ie t' in
    subst (λ rs. Tail n l e rs m f b) (sym (waits_next ks k x g d)) (gathers l m e how f (reference x.thing) _ b t'')

pub gathered_not : {Q : Type 0} (n k : ℕ) (l l' : Log) (e : Ending) (ks : List (Kin Q)) (x : Kin Q) → slice_get ks k ≡ Some x → x.gathered ≡ false → l' ≡ l → Gathers n k ks l e l' e true
gathered_not n k l l' e ks x g d il m f b t =
    let t' = subst (λ o. Tail n o e (waits (drop (suc k) ks)) m f b) il t in
    subst (λ rs. Tail n l e rs m f true) (sym (waits_next ks k x g d)) (leaves_out l m e f (reference x.thing) _ b t')

-- ---- the first k

or_assoc : (a b c : Bool) → (a || (b || c)) ≡ ((a || b) || c)
or_assoc true b c = refl
or_assoc false b c = refl

or_false : (a : Bool) → (a || false) ≡ a
or_false true = refl
or_false false = refl

-- what is still to be gathered behind the first k, and what has come of it
abbrev pub TailSoFar : {Q : Type 0} → (step k : ℕ) → List (Kin Q) → (l0 : Log) (e0 : Ending) (l : Log) (e : Ending) (lacking : Bool) → Type 0
TailSoFar step k ks l0 e0 l e lacking = (m : Log) (f : Ending) (b : Bool) → Tail step l e (waits (drop k ks)) m f b → Tail step l0 e0 (waits ks) m f (lacking || b)

pub tail_begins : {Q : Type 0} (n : ℕ) (ks : List (Kin Q)) (l : Log) (e : Ending) → TailSoFar n 0 ks l e l e false
tail_begins n ks l e m f b t = t

pub tail_more : {Q : Type 0} (n k k' : ℕ) (l0 l l' : Log) (e0 e e' : Ending) (lacking left lacking' : Bool) (ks now : List (Kin Q)) → k' ≡ suc k → drop k now ≡ drop k ks → drop (suc k) now ≡ drop (suc k) ks
    → Gathers n k now l e l' e' left → lacking' ≡ (lacking || left) → TailSoFar n k ks l0 e0 l e lacking → TailSoFar n k' ks l0 e0 l' e' lacking'
tail_more n k k' l0 l l' e0 e e' lacking left lacking' ks now q d d' g s h m f b t =
    let t' = subst (λ xs. Tail n l' e' (waits xs) m f b) (sym d') (subst (λ i. Tail n l' e' (waits (drop i ks)) m f b) q t) in
    let t'' = subst (λ xs. Tail n l e (waits xs) m f (left || b)) d (g m f b t') in
    subst (Tail n l0 e0 (waits ks) m f) (or_assoc lacking left b ∙ ap (λ x. x || b) (sym s)) (h m f (left || b) t'')

pub tail_done : {Q : Type 0} (n k : ℕ) (l0 l : Log) (e0 e : Ending) (lacking : Bool) (ks : List (Kin Q)) → length ks ≤ k → TailSoFar n k ks l0 e0 l e lacking → Tail n l0 e0 (waits ks) l e lacking
tail_done n k l0 l e0 e lacking ks le h =
    subst (Tail n l0 e0 (waits ks) l e) (or_false lacking) (h l e false (subst (λ rs. Tail n l e rs l e false) (sym (waits_over ks k le)) (all_gathered l e)))

-- ---- the threads behind it

drop_next : {A : Type 0} (k : ℕ) (xs ys : List A) → drop k xs ≡ drop k ys → drop (suc k) xs ≡ drop (suc k) ys
drop_next k xs ys e = sym (drop_one k xs) ∙ (ap (drop 1) e ∙ drop_one k ys) where
  drop_one : {A : Type 0} (k : ℕ) (xs : List A) → drop 1 (drop k xs) ≡ drop (suc k) xs
  drop_one zero xs = refl
  drop_one (suc k) [] = refl
  drop_one (suc k) (x ∷ xs) = drop_one k xs

pub kept_behind : {Q : Type 0} (k k' : ℕ) (ks now new : List (Kin Q)) → k' ≡ suc k → drop k now ≡ drop k ks → ChangesAt k now new → drop k' new ≡ drop k' ks
kept_behind k k' ks now new q d c = subst (λ i. drop i new ≡ drop i ks) (sym q) (ap (drop (suc k)) c.4 ∙ (drop_set now k c.1 ∙ drop_next k now ks d))

pub behind_next : {Q : Type 0} (k : ℕ) (ks now : List (Kin Q)) → drop k now ≡ drop k ks → drop (suc k) now ≡ drop (suc k) ks
behind_next k ks now d = drop_next k now ks d

pub length_kept : {Q : Type 0} (k : ℕ) (now new : List (Kin Q)) → ChangesAt k now new → length new ≡ length now
length_kept k now new c = ap length c.4 ∙ length_set now k c.1

pub cleared_next : {Q : Type 0} (k : ℕ) (now new : List (Kin Q)) → AreCleared k now → ChangesAt k now new → AreCleared (k + 1) new
cleared_next k now new a c =
    cleared_more k c.1 now new (subst (λ xs. slice_get xs k ≡ Some c.1) (sym c.4) (get_set now k c.0 c.1 c.2)) c.3
    (λ i y l. ap (λ xs. slice_get xs i) c.4 ∙ unchanged_before now k c.1 i y l) a
