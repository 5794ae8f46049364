-- The main thread of a script that shares nothing prints and ends, and does nothing else with others.
use Rattle.std.proofs.Common.{◌≡◌, ◌⊎◌, inl, inr, ℕ, Bool, true, false, not, List, [], ◌∷◌, None, refl, sym, ap, ◌∙◌, subst}
use Rattle.rb_model.specs.Values.{Value, Nil, Reference}
use Rattle.rb_model.specs.Acts.{Act, Done}
use Rattle.rb_model.specs.Ends.{End, told, closing}
use Rattle.rb_model.specs.Ends as ending
use Rattle.rb_model.specs.Private.{Private, Item, Leaves, nothing_waits, no_thing, elsewhere, moves, bare, held}
use Rattle.rb_model.specs.Log.{Log, Entry, Refusal, Call, Print, fresh, logged, refused, filled}
use Rattle.rb_model.specs.Log as log
use Rattle.rb_model.specs.Started.{ungathered}
use Rattle.rb_machine.specs.Scopes.{Script}
use Rattle.rb_machine.specs.Control.{State}
use Rattle.rb_machine.specs.Move.{Ask, Begin, move}
use Rattle.rb_machine.specs.Follows.{At, Comes, ends, cut, fills, starts_full, refuses, Tail, all_gathered, gathers, leaves_out, Follows, closes, late, full, last_entry}
use Rattle.rb_machine.specs.Follows as thread
use Rattle.rb_machine.specs.Alone.{opening}
use Rattle.rb_closure.specs.Closure.{Each, IfReference, Known}
use Rattle.rb_closure.specs.Sharing.{free_in_program}
use Rattle.rb_machine.specs.Laws.{asks_thing, keeps_to_itself}
use Rattle.rb_machine.proofs.Main.{none_waits, does_as_alone}
use Rattle.std.proofs.lemmas.Bool.{and_from}
use Rattle.rb_closure.specs.Laws.{is_own, KeepsAll, SharesNothing, DoesAsAlone}
use Rattle.rb_closure.proofs.Lists.{both}
use Rattle.rb_closure.proofs.Stores.{bare_holds_none}
use Rattle.rb_closure.proofs.Sound.{next_known, Sound, replied_sound, goes_sound, makes_sound, acts_sound}
use Rattle.rb_closure.proofs.Free.{free_code}
use Rattle.rb_closure.proofs.Running.{not_missing, opening_good}
use Rattle.rb_closure.proofs.MainEnd.{main_ends}

-- ---- calls that tell others of nothing

abbrev OwnEntry : Entry → Type 0
OwnEntry e = (is_own e.call ≡ true) × (e.moved ≡ [])

abbrev OwnRefusal : Refusal → Type 0
OwnRefusal x = (is_own x.call ≡ true) × (x.moved ≡ [])

one_more : (l : Log) (e : Entry) → OwnEntry e → KeepsAll l → KeepsAll (logged l e)
one_more l e own keeps = (both OwnEntry l.entries (e ∷ []) keeps.0 (own, tt), keeps.1)

own_asks_none : (c : Call) → is_own c ≡ true → not (asks_thing c) ≡ true
own_asks_none (Print bytes) e = refl
own_asks_none (log.End how) e = refl
own_asks_none c e = absurd (let wrong : false ≡ true = e in cc)

pub own_keeps : (es : List Entry) → Each OwnEntry es → keeps_to_itself es ≡ true
own_keeps [] own = refl
own_keeps (e ∷ es) own = and_from (not (asks_thing e.call)) (keeps_to_itself es) (own_asks_none e.call own.0.0) (own_keeps es own.1)

-- what tells of nothing moves nothing
moves_none : {h h' : Private} {vs : List Value} {ms : List Item} → Leaves h vs ms h' → Each (IfReference (λ r. ⊥)) vs → ms ≡ []
moves_none (nothing_waits h) a = refl
moves_none (no_thing h h' v vs ms f l) a = moves_none l a.1
moves_none (elsewhere h h' r vs ms f l) a = absurd a.0
moves_none (moves h h' r thing vs ms f l) a = absurd a.0

own_value : (v : Value) → is_own (log.End (ending.Value v)) ≡ true → v ≡ Nil
own_value Nil e = refl
own_value v e = absurd (let wrong : false ≡ true = e in cc)

end_tells_none : (how : End) → is_own (log.End how) ≡ true → Each (IfReference (λ r. ⊥)) (told how)
end_tells_none (ending.Value v) e = (subst (λ v. IfReference (λ r. ⊥) v) (sym (own_value v e)) tt, tt)
end_tells_none how e = tt

without_value : (how : End) → told how ≡ [] → is_own (log.End how) ≡ true
without_value (ending.Value v) e = absurd (let wrong : (v ∷ []) ≡ [] = e in cc)
without_value how e = refl

own_end : (how : End) → (told how ≡ []) ⊎ (how ≡ ending.Value Nil) → is_own (log.End how) ≡ true
own_end how (inl e) = without_value how e
own_end how (inr e) = ap (λ how. is_own (log.End how)) e

module _ (S : Script) (N : ℕ) (free : free_in_program false S.program ≡ true) where
  -- ---- its own work

  abbrev SoundMain : Private → State → Type 0
  SoundMain h s = Sound S (free_code false S free) [] h s

  no_globals : {X : Type 0} → false ≡ true → X
  no_globals e = absurd (let wrong : false ≡ true = e in cc)

  begins_sound : (t : ℕ) → SoundMain (bare t) (opening S N)
  begins_sound t = record {
    global = λ c. no_globals c;
    state = opening_good false S N free (Known (bare t) []) (λ c. no_globals c);
    store = λ id thing e. absurd (bare_holds_none t id thing e);
  }

  asks_none : {X : Type 0} (h : Private) (s : State) (r : Reference) (act : Act) → SoundMain h s → move S s ≡ Ask r act → held h r.id ≡ None → X
  asks_none h s r act sound e f = absurd (not_missing h r (next_known S (free_code false S free) (Known h []) sound.global s (Ask r act) e sound.state).0 f)

  starts_none : {X : Type 0} (h : Private) (s : State) (body : ℕ) (values : List Value) → SoundMain h s → move S s ≡ Begin body values → X
  starts_none h s body values sound e = absurd (next_known S (free_code false S free) (Known h []) sound.global s (Begin body values) e sound.state).0

  keeps_at : {l : Log} {h : Private} {s : State} → At S N (opening S N) l h s → SoundMain h s × KeepsAll l
  keeps_at (thread.here t) = (begins_sound t, (tt, tt))
  keeps_at (thread.goes l h s s' a e) = let p = keeps_at a in (goes_sound S (free_code false S free) [] h s s' e p.0, p.1)
  keeps_at (thread.makes l h s thing a e) = let p = keeps_at a in (makes_sound S (free_code false S free) [] h s thing e p.0, p.1)
  keeps_at (thread.acts l h s r act thing a e f) = let p = keeps_at a in (acts_sound S (free_code false S free) [] h s r act thing e f p.0, p.1)
  keeps_at (thread.asks l h h' s r act moved answer a e f g) = asks_none h s r act (keeps_at a).0 e f
  keeps_at (thread.starts l h h' s body values moved answer a e g) = starts_none h s body values (keeps_at a).0 e
  keeps_at (thread.prints l h s bytes a e) = let p = keeps_at a in (replied_sound S (free_code false S free) [] h s Done tt p.0, one_more l _ (refl, refl) p.1)

  -- and how that goes out
  keeps_out : {l : Log} {h : Private} {how : End} {n : ℕ} → Comes S N (opening S N) l h how n → (is_own (log.End how) ≡ true) × KeepsAll l
  keeps_out (ends l h s how a e) = (own_end how (main_ends S N a e), (keeps_at a).1)
  keeps_out (cut l h want n a w ge le) = (refl, (keeps_at a).1)
  keeps_out (fills l h h' s r act moved used asked a e f g) = asks_none h s r act (keeps_at a).0 e f
  keeps_out (starts_full l h h' s body values moved used asked a e g) = starts_none h s body values (keeps_at a).0 e
  keeps_out (refuses l h s bytes a e) = let p = keeps_at a in (refl, (p.1.0, both OwnRefusal l.refusals _ p.1.1 ((refl, refl), tt)))

  -- ---- its tail, where no thread waits

  no_tail : {n : ℕ} {l l' : Log} {e e' : End} {rs : List Reference} {lacking : Bool} → Tail n l e rs l' e' lacking → rs ≡ [] → (l ≡ l') × (closing e' lacking ≡ e)
  no_tail (all_gathered l e) z = (refl, refl)
  no_tail (gathers l l' e how e' r rs lacking t) z = absurd (let wrong : (r ∷ rs) ≡ [] = z in cc)
  no_tail (leaves_out l l' e e' r rs lacking t) z = absurd (let wrong : (r ∷ rs) ≡ [] = z in cc)

  keeps_behind : {n : ℕ} {l l' : Log} {h : Private} {own e : End} {lacking : Bool} → Comes S N (opening S N) l h own n → Tail n l own (ungathered l) l' e lacking
      → (is_own (log.End (closing e lacking)) ≡ true) × KeepsAll l'
  keeps_behind {l = l} c t =
      let p = keeps_out c in
      let q = no_tail t (none_waits l.entries (own_keeps l.entries p.1.0)) in
      (ap (λ how. is_own (log.End how)) q.1 ∙ p.0, subst KeepsAll q.0 p.1)

  keeps_all : {l : Log} {how : End} {h : Private} → Follows S N (opening S N) l how h → KeepsAll l
  keeps_all (closes l l' h h' own e n lacking moved c t g) = let p = keeps_behind c t in one_more l' _ (p.0, moves_none g (end_tells_none (closing e lacking) p.0)) p.1
  keeps_all (late l l' h own v n c t) = one_more l' _ (refl, refl) (keeps_behind c t).1
  keeps_all (full l l' h h' own v n used asked moved c t g) =
      let p = keeps_behind c t in
      one_more (filled l' (log.End (ending.Value v)) moved used asked) _ (refl, refl)
      (p.1.0, both OwnRefusal l'.refusals _ p.1.1 ((p.0, moves_none g (end_tells_none (ending.Value v) p.0)), tt))

pub shares_nothing : SharesNothing
shares_nothing S N l how h free f = keeps_all S N free f

pub does_alone : DoesAsAlone
does_alone S N l how h free f z whole = does_as_alone S N l how h f z (own_keeps l.entries (keeps_all S N free f).0) whole
