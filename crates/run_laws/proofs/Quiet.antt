-- The main thread of a script that starts no thread starts none, and gathers none.
use Rattle.std.proofs.Common.{◌≡◌, inl, inr, ℕ, Bool, true, false, List, [], ◌∷◌, refl, sym, ap, ◌∙◌, subst}
use Rattle.rb_model.specs.Values.{Value as Val, Reference}
use Rattle.rb_model.specs.Acts.{Reply, Started, Ended, Join}
use Rattle.rb_model.specs.Ends.{End as Ending}
use Rattle.rb_model.specs.Private.{Private, bare}
use Rattle.rb_model.specs.Log.{Log, Entry, Call, On, Start, Gather, fresh}
use Rattle.rb_model.specs.Started.{started_by, after_call, after_entries, ungathered}
use Rattle.rb_machine.specs.Scopes.{Script}
use Rattle.rb_machine.specs.Control.{State}
use Rattle.rb_machine.specs.Move.{Begin, move}
use Rattle.rb_machine.specs.Follows.{At, Comes, ends, cut, fills, starts_full, refuses, Tail, all_gathered, gathers, leaves_out, Follows, closes, late, full}
use Rattle.rb_machine.specs.Follows as thread
use Rattle.rb_machine.specs.Alone.{opening}
use Rattle.rb_closure.specs.Closure.{Each, Known, told_refs}
use Rattle.rb_closure.specs.Sharing.{free_in_program}
use Rattle.rb_closure.proofs.Lists.{both}
use Rattle.rb_closure.proofs.Stores.{bare_holds_none}
use Rattle.rb_closure.proofs.Sound.{next_known}
use Rattle.rb_closure.proofs.Closed.{StaysSound, sound_from}
use Rattle.rb_closure.proofs.Free.{free_code}
use Rattle.rb_closure.proofs.Running.{opening_good}
use Rattle.run_laws.proofs.Single.{StartsNone}

-- ---- threads that wait to be gathered

none_behind : (c : Call) (r : Reply) → started_by c r ≡ [] → after_call [] c r ≡ []
none_behind (Start id body values) (Started number thread) e = absurd (let no : ((number, thread) ∷ []) ≡ [] = e in cc)
none_behind (On r Join) (Ended how) e = refl
none_behind (Gather r) (Ended how) e = refl
none_behind c r e = refl

pub none_waits : (es : List Entry) → Each StartsNone es → after_entries [] es ≡ []
none_waits [] a = refl
none_waits (e ∷ es) (s, a) = ap (λ rs. after_entries rs es) (none_behind e.call e.reply s) ∙ none_waits es a

-- where no thread waits, nothing is done behind the own work
pub no_tail : {n : ℕ} {l l' : Log} {e e' : Ending} {rs : List Reference} {lacking : Bool} → Tail n l e rs l' e' lacking → rs ≡ [] → (l' ≡ l) × (e' ≡ e) × (lacking ≡ false)
no_tail (all_gathered l e) z = (refl, refl, refl)
no_tail (gathers l l' e how e' r rs lacking t) z = absurd (let no : (r ∷ rs) ≡ [] = z in cc)
no_tail (leaves_out l l' e e' r rs lacking t) z = absurd (let no : (r ∷ rs) ≡ [] = z in cc)

module _ (S : Script) (N : ℕ) (free : free_in_program true S.program ≡ true) where
  begins_sound : (t : ℕ) → StaysSound S (free_code true S free) N (opening S N) fresh (bare t) (opening S N)
  begins_sound t = record {
    global = λ c. inr (inl refl);
    state = opening_good true S N free (Known (bare t) (told_refs (opening S N) fresh)) (λ c. inr (inl refl));
    store = λ id thing e. absurd (bare_holds_none t id thing e);
  }

  pub never_begins : {l : Log} {h : Private} {s : State} {body : ℕ} {values : List Val} → At S N (opening S N) l h s → move S s ≡ Begin body values → ⊥
  never_begins {l = l} {h = h} {s = s} {body = body} {values = values} a e =
      let sound = sound_from S (free_code true S free) N (opening S N) begins_sound a in
      (next_known S (free_code true S free) (Known h (told_refs (opening S N) l)) sound.global s (Begin body values) e sound.state).0

  pub starts_at : {l : Log} {h : Private} {s : State} → At S N (opening S N) l h s → Each StartsNone l.entries
  starts_at (thread.here t) = tt
  starts_at (thread.goes l h s s' a e) = starts_at a
  starts_at (thread.makes l h s thing a e) = starts_at a
  starts_at (thread.acts l h s r act thing a e f) = starts_at a
  starts_at (thread.asks l h h' s r act moved answer a e f g) = both StartsNone l.entries _ (starts_at a) (refl, tt)
  starts_at (thread.starts l h h' s body values moved answer a e g) = absurd (never_begins a e)
  starts_at (thread.prints l h s bytes a e) = both StartsNone l.entries _ (starts_at a) (refl, tt)

  starts_out : {l : Log} {h : Private} {own : Ending} {n : ℕ} → Comes S N (opening S N) l h own n → Each StartsNone l.entries
  starts_out (ends l h s e a m) = starts_at a
  starts_out (cut l h want n a w ge le) = starts_at a
  starts_out (fills l h h' s r act moved used asked a e f g) = starts_at a
  starts_out (starts_full l h h' s body values moved used asked a e g) = starts_at a
  starts_out (refuses l h s bytes a e) = starts_at a

  -- so it has no tail
  pub own_work : {n : ℕ} {l l' : Log} {h : Private} {own e : Ending} {lacking : Bool} → Comes S N (opening S N) l h own n → Tail n l own (ungathered l) l' e lacking
      → (l' ≡ l) × (e ≡ own) × (lacking ≡ false)
  own_work {l = l} c t = no_tail t (none_waits l.entries (starts_out c))

  starts_behind : {n : ℕ} {l l' : Log} {h : Private} {own e : Ending} {lacking : Bool} → Comes S N (opening S N) l h own n → Tail n l own (ungathered l) l' e lacking → Each StartsNone l'.entries
  starts_behind c t = subst (λ (m : Log). Each StartsNone m.entries) (sym (own_work c t).0) (starts_out c)

  pub starts_whole : {l : Log} {how : Ending} {h : Private} → Follows S N (opening S N) l how h → Each StartsNone l.entries
  starts_whole (closes l l' h h' own e n lacking moved c t g) = both StartsNone l'.entries _ (starts_behind c t) (refl, tt)
  starts_whole (late l l' h own v n c t) = both StartsNone l'.entries _ (starts_behind c t) (refl, tt)
  starts_whole (full l l' h h' own v n used asked moved c t g) = both StartsNone l'.entries _ (starts_behind c t) (refl, tt)
