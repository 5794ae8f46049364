-- The causes of ends, from a thread's own end to its last entry.
use Rattle.std.proofs.Common.{◌≡◌, ℕ, Bool, true, false, cond, List, [], ◌∷◌, Some, None, inl, inr, refl, sym, subst}
use Rattle.rb_model.specs.Values.{Value as Val, Reference}
use Rattle.rb_model.specs.Acts.{Done}
use Rattle.rb_model.specs.Ends.{End as Ending, Value, Full, Memory, is_early, later, closing}
use Rattle.rb_model.specs.Private.{Private, Item}
use Rattle.rb_model.specs.Log.{Log, Entry, End, logged, with_refusal}
use Rattle.rb_shared.specs.View.{View}
use Rattle.rb_machine.specs.Follows.{Tail, all_gathered, gathers, leaves_out, gather_entry}
use Rattle.rb_thread.specs.Family.{HasCause}
use Rattle.rb_thread.specs.Alive.{Closes, tells, lacks, fills}
use Rattle.rb_thread.proofs.Lines.{some_same}
use Rattle.rb_thread.proofs.Entries.{has_left, has_right}

pub memory_cause : (l : Log) → HasCause l Memory
memory_cause l words e = absurd (let q : None ≡ Some words = e in cc)

-- one entry more, or one refusal more, keeps it
pub cause_entry : (l : Log) (x : Entry) (how : Ending) → HasCause l how → HasCause (logged l x) how
cause_entry l x how c words e = elim (c words e) [
  | inl r ↦ inl r
  | inr t ↦ inr (t.0, has_left l.entries (x ∷ []) t.0 t.1, t.2)
]

-- an end that is taken over is told
told_cause : (l : Log) (n : ℕ) (r : Reference) (how : Ending) → HasCause (logged l (gather_entry n r how)) how
told_cause l n r how words e = inr (gather_entry n r how, has_right l.entries (gather_entry n r how ∷ []) (gather_entry n r how) (inl refl), refl)

-- of two ends the one that counts
later_cause : (l : Log) (e how : Ending) → HasCause l e → HasCause l how → HasCause l (later e how)
later_cause l e how c d = pick (is_early e) (is_early how) where
  pick : (a b : Bool) → HasCause l (cond a e (cond b how e))
  pick true b = c
  pick false true = d
  pick false false = c

pub tail_cause : (n : ℕ) (l l' : Log) (e e' : Ending) (rs : List Reference) (lacking : Bool) → Tail n l e rs l' e' lacking → HasCause l e → HasCause l' e'
tail_cause n _ _ _ _ _ _ (all_gathered l e) c = c
tail_cause n _ _ _ _ _ _ (gathers l l' e how e' r rs lacking t) c =
    let x = gather_entry n r how in
    tail_cause n (logged l x) l' (later e how) e' rs lacking t (later_cause (logged l x) e how (cause_entry l x e c) (told_cause l n r how))
tail_cause n _ _ _ _ _ _ (leaves_out l l' e e' r rs lacking t) c = tail_cause n l l' e e' rs lacking t c

pub closing_cause : (l : Log) (e : Ending) (lacking : Bool) → HasCause l e → HasCause l (closing e lacking)
closing_cause l e true c = later_cause l e Memory c (memory_cause l)
closing_cause l e false c = c

-- a full heap that refuses the last value is the cause of that end
full_cause : (l : Log) (x : Val) (used wanted n : ℕ) (how : Ending) (moved : List Item)
    → HasCause (logged (with_refusal l (End (Value x)) moved (Some (used, wanted))) (record { step = n; call = End how; moved = []; reply = Done })) (Full used wanted)
full_cause l x used wanted n how moved words e = inl (_, has_right l.refusals (_ ∷ []) _ (inl refl), some_same (Some (used, wanted)) words e)

pub closed_cause : (n : ℕ) (h : Private) (e : Ending) (v w : View) (how : Ending) (k : Private) → Closes n h e v w how k → HasCause v.log e → HasCause w.log how
closed_cause n h e v w how k (tells moved refs i g q) c =
    subst (HasCause w.log) (sym i) (subst (λ (o : View). HasCause o.log e) (sym q) (cause_entry v.log (record { step = n; call = End e; moved = moved; reply = Done }) e c))
closed_cause n h e v w how k (lacks x is i s q) c = subst (HasCause w.log) (sym i) (memory_cause w.log)
closed_cause n h e v w how k (fills x used wanted moved left is i s g q) c =
    subst (HasCause w.log) (sym i) (subst (λ (o : View). HasCause o.log (Full used wanted)) (sym q) (full_cause v.log x used wanted n (Full used wanted) moved))
