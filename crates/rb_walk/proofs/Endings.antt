-- From how the top level comes out to how the main thread's work goes out.
use Rattle.std.proofs.Common.{◌≡◌, ℕ, ◌-◌, ◌≤◌, ◌<◌, true, false, List, [], ◌∷◌, ◌++◌, length, map, take, drop, Option, Some, None, refl, sym, ap, ◌∙◌, subst, arith}
use Rattle.std.specs.Prelude.{◌&&◌, ◌⊎◌, nat_le, slice_get}
use Rattle.std.specs.List.{list_all}
use Rattle.rb_model.specs.Values.{Nil}
use Rattle.rb_model.specs.Ends.{End, told}
use Rattle.rb_model.specs.Ends as ending
use Rattle.rb_model.specs.Acts.{Ended}
use Rattle.rb_model.specs.Log.{Log}
use Rattle.rb_model.specs.Log.{fresh as fresh_log}
use Rattle.rb_tree.specs.declared.span.NameId.{NameId}
use Rattle.rb_model.specs.Values.{Value as Val, plain}
use Rattle.rb_model.specs.declared.value.Value.{Value as Held}
use Rattle.rb_model.specs.declared.value.Value.TheVariants as held
use Rattle.rb_model.specs.Private.{Private, Leaves, nothing_waits, no_thing, bare}
use Rattle.rb_machine.specs.Scopes.{Script, Scope, fresh}
use Rattle.rb_machine.specs.Control.{State, Cont, On, Then, Instead, Following}
use Rattle.rb_machine.specs.Threads.{self_among, captured_among, beginning, beginning_of}
use Rattle.rb_machine.specs.Call.{ended}
use Rattle.rb_machine.specs.Move.{left_in}
use Rattle.rb_machine.specs.Follows.{At, Comes, here, ends, cut}
use Rattle.rb_machine.specs.Laws.{Quiet, stays, moves}
use Rattle.rb_machine.proofs.Down.{is_never_stuck}
use Rattle.rb_machine.proofs.Rising.{steps_rise}
use Rattle.rb_walk.specs.Outcome.{Outcome, Gave, Left, Over, Came, WasRefused, WasFull, WasReplied}
use Rattle.rb_walk.specs.Ending.{ending as ends_with, body_ending, IsCaused, GoesOut}
use Rattle.rb_tree.specs.declared.node.Block.{Block}
use Rattle.rb_code.specs.declared.scripted.CodeBody.{CodeBody}
use Rattle.rb_code.specs.declared.scripted.CodeScript.{CodeScript}
use Rattle.rb_code.specs.Erase.{erase, erase_body}
use Rattle.rb_code.specs.Stands.{StandsFor}
use Rattle.rb_code.proofs.Slots.{bound_fresh}
use Rattle.rb_walk.specs.Carries.{scope_of}
use Rattle.rb_walk.specs.Walks.{slot_value}
use Rattle.rb_code.specs.Layout.{bound}
use Rattle.rb_code.specs.Resolved.{every, fits, method_fits, class_fits, script_fits}
use Rattle.rb_walk.proofs.Lists.{fst, snd, le_test, get_map}
use Rattle.rb_walk.proofs.Moves.{on}
use Rattle.rb_walk.proofs.Rooms.{frame_opens}

module _ (S : Script) (N : ℕ) (start : State) (h : Private) where
  -- in silence the machine gets to where it wants something
  pub quietly : (l : Log) (s t : State) → Quiet S s t → At S N start l h s → At S N start l h t
  quietly l s t (stays u) a = a
  quietly l s t (moves u v w e q) a = quietly l v t q (on v a e)

  -- want of memory cuts the thread on its way to the next want
  pub is_cut : (l : Log) (s : State) (n : ℕ) → At S N start l h s → left_in s ≡ n → Comes S N start l h ending.Memory (N - n)
  is_cut l s n a e =
      let w = is_never_stuck S s in
      let rise = steps_rise S N start a in
      cut l h w.0 (N - n) (quietly l s w.0 w.1 a) w.2 (omega (arith, rise, e)) (omega (arith, w.3, e))

  -- how the machine's own work goes out
  pub comes_out : (l : Log) (o : Outcome) (sc : Scope) (d n : ℕ) → Came S N start l h o (Then (Instead Nil) ∷ []) sc d n → Comes S N start l h (ends_with o) (N - n)
  comes_out l (Gave v) sc d n a = ends l h (ended (ending.Value Nil) n) (ending.Value Nil) (on _ (on _ a refl) refl) refl
  comes_out l (Left exit) sc d n a = ends l h (ended (ending.Value Nil) n) (ending.Value Nil) (on _ (on _ a refl) refl) refl
  comes_out l (Over (ending.Value v)) sc d n a = absurd a
  comes_out l (Over (ending.Raised f at)) sc d n a = ends l h (ended (ending.Raised f at) n) (ending.Raised f at) a refl
  comes_out l (Over ending.Steps) sc d n a = ends l h (ended ending.Steps n) ending.Steps a refl
  comes_out l (Over (ending.Full p q)) sc d n a = a.0
  comes_out l (Over ending.Memory) sc d n a = is_cut l a.0 n a.1 a.2
  comes_out l (Over ending.Sink) sc d n a = a.0

  -- the same of the body of another thread
  pub body_comes_out : (l : Log) (o : Outcome) (sc : Scope) (d n : ℕ) → Came S N start l h o [] sc d n → Comes S N start l h (body_ending o) (N - n)
  body_comes_out l (Gave v) sc d n a = ends l h (ended (ending.Value v) n) (ending.Value v) (on _ a refl) refl
  body_comes_out l (Left exit) sc d n a = ends l h (ended (ending.Value Nil) n) (ending.Value Nil) (on _ a refl) refl
  body_comes_out l (Over (ending.Value v)) sc d n a = absurd a
  body_comes_out l (Over (ending.Raised f at)) sc d n a = ends l h (ended (ending.Raised f at) n) (ending.Raised f at) a refl
  body_comes_out l (Over ending.Steps) sc d n a = ends l h (ended ending.Steps n) ending.Steps a refl
  body_comes_out l (Over (ending.Full p q)) sc d n a = a.0
  body_comes_out l (Over ending.Memory) sc d n a = is_cut l a.0 n a.1 a.2
  body_comes_out l (Over ending.Sink) sc d n a = a.0

  -- an end tells no thing of the private store
  plain_end : (e : End) → e ≡ ending.Value Nil → Leaves h (told e) [] h
  plain_end e q = subst (λ x. Leaves h (told x) [] h) (sym q) (no_thing h h Nil [] [] (λ r z. absurd (cc)) (nothing_waits h))

  pub tells_nothing : (o : Outcome) (l : Log) (sc : Scope) (d n : ℕ) → Came S N start l h o (Then (Instead Nil) ∷ []) sc d n → Leaves h (told (ends_with o)) [] h
  tells_nothing (Gave v) l sc d n a = plain_end (ending.Value Nil) refl
  tells_nothing (Left exit) l sc d n a = plain_end (ending.Value Nil) refl
  tells_nothing (Over (ending.Value v)) l sc d n a = absurd a
  tells_nothing (Over (ending.Raised f at)) l sc d n a = nothing_waits h
  tells_nothing (Over ending.Steps) l sc d n a = nothing_waits h
  tells_nothing (Over (ending.Full p q)) l sc d n a = nothing_waits h
  tells_nothing (Over ending.Memory) l sc d n a = nothing_waits h
  tells_nothing (Over ending.Sink) l sc d n a = nothing_waits h

abbrev FullBy : Log → End → Type 0
FullBy l (ending.Full used wanted) = WasFull l used wanted ⊎ WasReplied l (Ended (ending.Full used wanted))
FullBy l how = Unit {0}

-- where the thread ends with the sink's failure, the last call was refused, or told that end of another thread
pub refused_last : (o : Outcome) (l : Log) (S : Script) (N : ℕ) (start : State) (h : Private) (k : List Cont) (sc : Scope) (d n : ℕ) → Came S N start l h o k sc d n → ends_with o ≡ ending.Sink → WasRefused l ⊎ WasReplied l (Ended ending.Sink)
refused_last (Gave v) l S N start h k sc d n a e = absurd (cc)
refused_last (Left exit) l S N start h k sc d n a e = absurd (cc)
refused_last (Over (ending.Value v)) l S N start h k sc d n a e = absurd a
refused_last (Over (ending.Raised f at)) l S N start h k sc d n a e = absurd (cc)
refused_last (Over ending.Steps) l S N start h k sc d n a e = absurd (cc)
refused_last (Over (ending.Full p q)) l S N start h k sc d n a e = absurd (cc)
refused_last (Over ending.Memory) l S N start h k sc d n a e = absurd (cc)
refused_last (Over ending.Sink) l S N start h k sc d n a e = a.1

-- and so where it ends with a full heap
pub full_last : (o : Outcome) (l : Log) (S : Script) (N : ℕ) (start : State) (h : Private) (k : List Cont) (sc : Scope) (d n used wanted : ℕ) → Came S N start l h o k sc d n → ends_with o ≡ ending.Full used wanted
    → WasFull l used wanted ⊎ WasReplied l (Ended (ending.Full used wanted))
full_last (Gave v) l S N start h k sc d n used wanted a e = absurd (cc)
full_last (Left exit) l S N start h k sc d n used wanted a e = absurd (cc)
full_last (Over (ending.Value v)) l S N start h k sc d n used wanted a e = absurd a
full_last (Over (ending.Raised f at)) l S N start h k sc d n used wanted a e = absurd (cc)
full_last (Over ending.Steps) l S N start h k sc d n used wanted a e = absurd (cc)
full_last (Over (ending.Full p q)) l S N start h k sc d n used wanted a e = subst (λ (x : End). FullBy l x) e a.1
full_last (Over ending.Memory) l S N start h k sc d n used wanted a e = absurd (cc)
full_last (Over ending.Sink) l S N start h k sc d n used wanted a e = absurd (cc)

-- so the end of the main thread has its cause
pub main_caused : (o : Outcome) (l : Log) (S : Script) (N : ℕ) (start : State) (h : Private) (k : List Cont) (sc : Scope) (d n : ℕ) → Came S N start l h o k sc d n → IsCaused l (ends_with o)
main_caused o l S N start h k sc d n a = record {
  refused = refused_last o l S N start h k sc d n a;
  filled = λ used wanted. full_last o l S N start h k sc d n used wanted a;
}

-- a value, and want of memory, are decided by no other
pub value_caused : (l : Log) (v : Val) → IsCaused l (ending.Value v)
value_caused l v = record { refused = λ e. absurd (cc); filled = λ used wanted e. absurd (cc) }

pub memory_caused : (l : Log) → IsCaused l ending.Memory
memory_caused l = record { refused = λ e. absurd (cc); filled = λ used wanted e. absurd (cc) }

-- and that of another thread has its cause
pub body_caused : (o : Outcome) (l : Log) (S : Script) (N : ℕ) (start : State) (h : Private) (k : List Cont) (sc : Scope) (d n : ℕ) → Came S N start l h o k sc d n → IsCaused l (body_ending o)
body_caused (Gave v) l S N start h k sc d n a = value_caused l v
body_caused (Left exit) l S N start h k sc d n a = value_caused l Nil
body_caused (Over how) l S N start h k sc d n a = main_caused (Over how) l S N start h k sc d n a

-- the locals of the top level are nil in the beginning
pub main_opens : (names : List NameId) (room : List Held) (size : ℕ) → length names ≤ size → ((i : ℕ) → 0 ≤ i → i < size → slice_get room i ≡ Some held.Nil) → bound names (map plain room) ≡ fresh names []
main_opens names room size h g = frame_opens names room room 0 (omega arith) (λ i q. absurd (omega (arith, q))) (λ i p q. g i p (omega (arith, q, h)))

-- the names of the top level have slots in its frame, and its code is right in it
pub main_fits : (c : CodeScript) (S : Script) → script_fits S c ≡ true → (length S.main_names ≤ c.main_size) × (every (map (fits S) c.main) S.main_names c.main_size ≡ true)
main_fits c S h =
    let own = nat_le (length S.main_names) c.main_size in
    let body = every (map (fits S) c.main) S.main_names c.main_size in
    let classes = list_all (class_fits S) c.classes in
    let rest = snd classes (own && body) (snd (list_all (method_fits S) c.functions) (classes && (own && body)) h) in
    (le_test (length S.main_names) c.main_size (fst own body rest), snd own body rest)

-- how the body of a thread stands in the script
pub body_there : (c : CodeScript) (S : Script) (number : ℕ) (b : CodeBody) → StandsFor c S → slice_get c.bodies number ≡ Some b → slice_get S.program.bodies number ≡ Some (erase_body b)
body_there c S number b st e = ap (λ bs. slice_get bs number) (sym st.bodies) ∙ get_map erase_body c.bodies number (Some b) e

pub no_body : (c : CodeScript) (S : Script) (number : ℕ) → StandsFor c S → slice_get c.bodies number ≡ None → slice_get S.program.bodies number ≡ None
no_body c S number st e = ap (λ bs. slice_get bs number) (sym st.bodies) ∙ get_map erase_body c.bodies number None e

-- the locals of the body have the values that it is given
pub body_opens : (names : List NameId) (room : List Held) (size : ℕ) (values : List Val) → length names ≤ size → ((i : ℕ) → i < size → slice_get (map plain room) i ≡ Some (slot_value values i)) → bound names (map plain room) ≡ fresh names values
body_opens names room size values h g = bound_fresh names (map plain room) values (λ i q. g i (omega (arith, q, h)))

-- where it begins
pub body_begins : (S : Script) (N number : ℕ) (b : CodeBody) (values own : List Val) (me : Val) (names : List NameId) (room : List Held) → slice_get S.program.bodies number ≡ Some (erase_body b) → names ≡ S.thread_names number
    → me ≡ self_among (length (S.captured_names number)) (drop (length b.params) values) → bound names (map plain room) ≡ fresh names (take (length b.params) values ++ own)
    → own ≡ captured_among (length (S.captured_names number)) (drop (length b.params) values)
    → On (Following Nil (map erase b.body)) [] (scope_of me names room) 0 N ≡ beginning S N number values
body_begins S N number b values own me names room there named self opens captured =
    ap (λ ls. On (Following Nil (map erase b.body)) [] (record { me = me; locals = ls }) 0 N) (opens ∙ ap (λ vs. fresh names (take (length b.params) values ++ vs)) captured ∙ ap (λ (ns : List NameId). fresh ns (take (length b.params) values ++ captured_among (length (S.captured_names number)) (drop (length b.params) values))) named)
    ∙ ap (λ v. On (Following Nil (map erase b.body)) [] (record { me = v; locals = fresh (S.thread_names number) (take (length b.params) values ++ captured_among (length (S.captured_names number)) (drop (length b.params) values)) }) 0 N) self
    ∙ ap (λ o. beginning_of S N o number values) (sym there)

-- no step was made where it begins
begun_left : (S : Script) (N number : ℕ) (o : Option Block) (values : List Val) → left_in (beginning_of S N o number values) ≡ N
begun_left S N number (Some block) values = refl
begun_left S N number None values = refl

module _ (S : Script) (N : ℕ) (h : Private) (t : ℕ) (number : ℕ) (values : List Val) where
  begun : (l : Log) → l ≡ fresh_log → h ≡ bare t → At S N (beginning S N number values) l h (beginning S N number values)
  begun l e f = subst (λ x. At S N (beginning S N number values) l x (beginning S N number values)) (sym f) (subst (λ x. At S N (beginning S N number values) x (bare t) (beginning S N number values)) (sym e) (here t))

  -- a body for which there is no memory is cut before it
  pub cut_before : (l : Log) → l ≡ fresh_log → h ≡ bare t → Comes S N (beginning S N number values) l h ending.Memory 0
  cut_before l e f =
      let none : N - N ≡ 0 = omega arith in
      subst (λ n. Comes S N (beginning S N number values) l h ending.Memory n) none (is_cut S N (beginning S N number values) h l (beginning S N number values) N (begun l e f) (begun_left S N number (slice_get S.program.bodies number) values))

  -- and one that is not there ends at once
  pub ends_at_once : (l : Log) → l ≡ fresh_log → h ≡ bare t → slice_get S.program.bodies number ≡ None → Comes S N (beginning S N number values) l h (ending.Value Nil) 0
  ends_at_once l e f none =
      let is : beginning S N number values ≡ ended (ending.Value Nil) N = ap (λ o. beginning_of S N o number values) none in
      let zero_steps : N - N ≡ 0 = omega arith in
      subst (λ n. Comes S N (beginning S N number values) l h (ending.Value Nil) n) zero_steps
      (ends l h (ended (ending.Value Nil) N) (ending.Value Nil) (subst (At S N (beginning S N number values) l h) is (begun l e f)) refl)

  -- so both go out with their causes
  pub goes_before : (l : Log) → l ≡ fresh_log → h ≡ bare t → GoesOut S N (beginning S N number values) l h ending.Memory 0
  goes_before l e f = record { comes = cut_before l e f; caused = memory_caused l }

  pub goes_at_once : (l : Log) → l ≡ fresh_log → h ≡ bare t → slice_get S.program.bodies number ≡ None → GoesOut S N (beginning S N number values) l h (ending.Value Nil) 0
  goes_at_once l e f none = record { comes = ends_at_once l e f none; caused = value_caused l Nil }
