-- What calls that ask something leave of a thread's store.
use Rattle.std.proofs.Common.{◌≡◌, ℕ, true, false, List, [], ◌∷◌, None, refl, sym, subst}
use Rattle.atomic_table.specs.Seated.{TableId}
use Rattle.rb_model.specs.declared.value.Id.{Id}
use Rattle.rb_model.specs.declared.value.Ref.{Ref}
use Rattle.rb_model.specs.declared.act.Reply.TheVariants as answered
use Rattle.rb_model.specs.declared.call.Call.{Call as Held}
use Rattle.rb_model.specs.Values.{Value as Val}
use Rattle.rb_model.specs.Doing.{said}
use Rattle.rb_model.specs.Immediates.{reference}
use Rattle.rb_model.specs.Private.{Private}
use Rattle.rb_model.specs.Log.{Start, asked}
use Rattle.rb_shared.specs.declared.answer.Answer.{Answer}
use Rattle.rb_shared.specs.declared.answer.Answer.TheVariants as answer
use Rattle.rb_shared.specs.Lists.{Has, Each}
use Rattle.rb_shared.specs.Asking.{Knows}
use Rattle.rb_shared.specs.View.{View}
use Rattle.rb_machine.specs.Scopes.{Script}
use Rattle.rb_thread.specs.declared.job.Job.{Job as HeldJob}
use Rattle.rb_thread.specs.Family.{Job}
use Rattle.rb_thread.specs.Kins.{Kin, done, Changes}
use Rattle.rb_thread.specs.Seats as seats
use Rattle.rb_thread.specs.Asking.{tells_end, number_in}
use Rattle.rb_thread.specs.Handing.{refs_told}
use Rattle.publish_barrier.specs.Known.{NotesOf}
use Rattle.rb_thread.specs.Alive.{Alive}
use Rattle.rb_thread.proofs.Entries.{IsQuiet, quiet_join, quiet_start}
use Rattle.rb_thread.proofs.Sounding.{QuietAnswer}
use Rattle.rb_model.specs.declared.act.Act.{Act as Asked}
use Rattle.rb_model.specs.declared.act.Act.TheVariants as act
use Rattle.rb_model.specs.declared.call.Call.TheVariants as held
use Rattle.rb_model.specs.Doing.{doing}
use Rattle.rb_thread.specs.Asking.{is_join}
use Rattle.rb_thread.proofs.Entries.{quiet_act}
use Rattle.rb_thread.proofs.Keeping.{alive_quiet, alive_taken}

pub quiet_print : (text : _) (a : Answer) → QuietAnswer (held.Print text) a
quiet_print text (answer.Done r) = (refl, (λ rs. refl), refl)
quiet_print text (answer.Full used wanted) = tt
quiet_print text answer.SinkFailed = tt
quiet_print text answer.Memory = tt

pub quiet_on : (t : Ref) (b : Asked) (a : Answer) → is_join (doing b) ≡ false → QuietAnswer (held.On t b) a
quiet_on t b (answer.Done r) e = quiet_act (reference t) (doing b) (said r) e
quiet_on t b (answer.Full used wanted) e = tt
quiet_on t b answer.SinkFailed e = tt
quiet_on t b answer.Memory e = tt

quiet_joining : (t : Ref) (a : Answer) → tells_end a ≡ false → QuietAnswer (held.On t act.Join) a
quiet_joining t (answer.Done r) e = quiet_join (reference t) r e
quiet_joining t (answer.Full used wanted) e = tt
quiet_joining t answer.SinkFailed e = tt
quiet_joining t answer.Memory e = tt

pub quiet_starting : (c : Held) (id : Id) (body : ℕ) (vs : List Val) (a : Answer) → asked c ≡ Start id body vs → number_in a ≡ None → QuietAnswer c a
quiet_starting c id body vs (answer.Done r) i e = subst (λ d. IsQuiet d (said r)) (sym i) (quiet_start id body vs r e)
quiet_starting c id body vs (answer.Full used wanted) i e = tt
quiet_starting c id body vs answer.SinkFailed i e = tt
quiet_starting c id body vs answer.Memory i e = tt

each_noted : (v : View) (rs : List Ref) → ((r : Ref) → Has rs r → Knows v r) → (xs : List Ref) → Each (Has rs) xs → Each (Knows v) xs
each_noted v rs k [] e = tt
each_noted v rs k (x ∷ xs) e = (k x e.0, each_noted v rs k xs e.1)

module _ {Pass Q Z F : Type 0} {of : Pass → TableId} {view : Pass → View} {kept : Q → Pass → Type 0} {pre : F → Z → HeldJob → Pass → Type 0} {post : F → Z → HeldJob → Pass → Q → Type 0}
    {home : TableId} {S : Script} {N : ℕ} {j : Job} where
  -- each reference that is noted is known
  pub all_known : {here : TableId} {v : View} {own : Private} {number : ℕ} {refs : List Ref} {ks : List (Kin Q)} {f : F} {z : Z} → Alive of view kept pre post home S N j here v own number refs ks f z
      → (xs : List Ref) → Each (Has refs) xs → Each (Knows v) xs
  all_known {v = v} {refs = refs} l xs e = each_noted v refs l.known xs e

  -- a Join that was answered by an end
  pub alive_ended : {here here' : TableId} {v w : View} {own : Private} {number : ℕ} {refs refs' : List Ref} {ks ls : List (Kin Q)} {f : F} {z : Z} (n : ℕ) (t : Ref) (a : Answer)
      → Alive of view kept pre post home S N j here v own number refs ks f z → here' ≡ here → tells_end a ≡ true → seats.Answered v n (held.On t act.Join) [] a [] w → Changes done t.id ks ls → NotesOf refs (refs_told a) refs'
      → Alive of view kept pre post home S N j here' w own number refs' ls f z
  alive_ended n t (answer.Done (answered.Ended how)) l h e x ch no' = alive_taken n (held.On t act.Join) (answered.Ended how) t.id l h refl (refl, (λ rs. refl), refl) x ch no'
  alive_ended n t (answer.Done (answered.Value y)) l h e x ch no' = absurd (let q : false ≡ true = e in cc)
  alive_ended n t (answer.Done (answered.Elements y)) l h e x ch no' = absurd (let q : false ≡ true = e in cc)
  alive_ended n t (answer.Done (answered.Pairs y)) l h e x ch no' = absurd (let q : false ≡ true = e in cc)
  alive_ended n t (answer.Done answered.Done) l h e x ch no' = absurd (let q : false ≡ true = e in cc)
  alive_ended n t (answer.Done (answered.Started k y)) l h e x ch no' = absurd (let q : false ≡ true = e in cc)
  alive_ended n t (answer.Done (answered.Failed y)) l h e x ch no' = absurd (let q : false ≡ true = e in cc)
  alive_ended n t (answer.Full used wanted) l h e x ch no' = absurd (let q : false ≡ true = e in cc)
  alive_ended n t answer.SinkFailed l h e x ch no' = absurd (let q : false ≡ true = e in cc)
  alive_ended n t answer.Memory l h e x ch no' = absurd (let q : false ≡ true = e in cc)

  -- and one that was not
  pub alive_other : {here here' : TableId} {v w : View} {own : Private} {number : ℕ} {refs refs' : List Ref} {ks : List (Kin Q)} {f : F} {z : Z} (n : ℕ) (t : Ref) (a : Answer)
      → Alive of view kept pre post home S N j here v own number refs ks f z → here' ≡ here → tells_end a ≡ false → seats.Answered v n (held.On t act.Join) [] a [] w → NotesOf refs (refs_told a) refs'
      → Alive of view kept pre post home S N j here' w own number refs' ks f z
  alive_other n t a l h e x no' = alive_quiet n (held.On t act.Join) a l h refl (quiet_joining t a e) x no'
