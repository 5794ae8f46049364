-- What is asked of things that are not the thread's own, as the store serves it.
use Rattle.std.proofs.Common.{◌≡◌, ◌-◌, ◌≤◌, ℕ, true, false, List, [], ◌∷◌, ◌++◌, length, map, Option, Some, None, refl, sym, ap, ◌∙◌, subst, cond, eq-eqb, arith}
use Rattle.std.specs.Option.{option_map}
use Rattle.std.specs.Prelude.{slice_get}
use Rattle.rb_tree.specs.declared.span.NameId.{NameId}
use Rattle.rb_tree.specs.declared.node.Block.{Block}
use Rattle.rb_tree.specs.declared.node.Program.{Program}
use Rattle.rb_model.specs.declared.fault.Fault.TheVariants.{ArgumentCount}
use mathlib.Core.Logic.{inl, inr}
use Rattle.rb_tree.specs.declared.span.Span.{Span}
use Rattle.rb_model.specs.declared.act.Reply.{Reply as Answered}
use Rattle.rb_model.specs.declared.call.Served.{Served}
use Rattle.rb_model.specs.declared.call.Served.TheVariants as served
use Rattle.rb_model.specs.declared.value.Value.{Value as Held}
use Rattle.rb_model.specs.Values.{Value as Val, Reference, or_nil, plain}
use Rattle.rb_model.specs.declared.value.Ref.{Ref}
use Rattle.rb_model.specs.Acts.{Act, Reply}
use Rattle.rb_model.specs.Acts as reply
use Rattle.rb_model.specs.Doing.{said}
use Rattle.rb_model.specs.Ends.{End}
use Rattle.rb_model.specs.Ends as ending
use Rattle.rb_model.specs.Log.{Log, Call, On, Start, logged, filled}
use Rattle.rb_model.specs.Outside.{IsServed, starting}
use Rattle.rb_model.specs.Private.{Private, Item, Leaves, held}
use Rattle.rb_model.specs.Started.{next_thread}
use Rattle.rb_machine.specs.Scopes.{Script, Scope, look}
use Rattle.rb_machine.specs.Control.{State, Cont}
use Rattle.rb_machine.specs.Call.{ended, given_to, self_of}
use Rattle.rb_machine.specs.Call as machine
use Rattle.rb_machine.specs.Control.{On, Starting}
use Rattle.rb_machine.specs.Move.{Next, Ask, Begin, move, replied, left_in, answered}
use Rattle.rb_machine.specs.Follows.{At, Comes, asks, starts, ends, fills, starts_full, step_of, entry}
use Rattle.rb_walk.specs.Outcome.{Outcome, Gave, Over, Came, WasReplied, WasFull}
use Rattle.rb_walk.specs.Carries.{me_of, scope_of}
use Rattle.rb_walk.specs.Shared.{Replied, Unreplied, outcome_by, own_self, value_at}
use Rattle.rb_walk.proofs.Lists.{fst, snd, there}
use Rattle.rb_walk.proofs.Rooms.{read_room}
use Rattle.rb_code.specs.Layout.{bound, has_slot, have_slots}
use Rattle.rb_code.proofs.Slots.{slot_within}

module _ (S : Script) (N : ℕ) (start : State) where
  -- the end of another thread is taken over
  taken_over : (l : Log) (h : Private) (how : End) (k : List Cont) (sc : Scope) (d n : ℕ) → WasReplied l (reply.Ended how) → At S N start l h (answered (reply.Ended how) (record { from = 0; to = 0 }) k sc d n)
      → Came S N start l h (outcome_by (reply.Ended how) (record { from = 0; to = 0 })) k sc d n
  taken_over l h (ending.Value v) k sc d n w a = a
  taken_over l h (ending.Raised f at) k sc d n w a = a
  taken_over l h ending.Steps k sc d n w a = a
  taken_over l h (ending.Full used wanted) k sc d n w a = (ends l h (ended (ending.Full used wanted) n) (ending.Full used wanted) a refl, inr w)
  taken_over l h ending.Sink k sc d n w a = (ends l h (ended ending.Sink n) ending.Sink a refl, inr w)
  taken_over l h ending.Memory k sc d n w a = (ended ending.Memory n, a, refl)

  ended_same : (how : End) (at at' : Span) (k : List Cont) (sc : Scope) (d n : ℕ) → answered (reply.Ended how) at k sc d n ≡ answered (reply.Ended how) at' k sc d n
  ended_same (ending.Value v) at at' k sc d n = refl
  ended_same (ending.Raised f place) at at' k sc d n = refl
  ended_same ending.Steps at at' k sc d n = refl
  ended_same (ending.Full used wanted) at at' k sc d n = refl
  ended_same ending.Sink at at' k sc d n = refl
  ended_same ending.Memory at at' k sc d n = refl

  outcome_same : (how : End) (at at' : Span) → outcome_by (reply.Ended how) at ≡ outcome_by (reply.Ended how) at'
  outcome_same (ending.Value v) at at' = refl
  outcome_same (ending.Raised f place) at at' = refl
  outcome_same ending.Steps at at' = refl
  outcome_same (ending.Full used wanted) at at' = refl
  outcome_same ending.Sink at at' = refl
  outcome_same ending.Memory at at' = refl

  -- the value of a reply comes, or its fault, or the end that it tells
  pub reply_came : (l : Log) (h : Private) (r : Reply) (at : Span) (k : List Cont) (sc : Scope) (d n : ℕ) → WasReplied l r → At S N start l h (answered r at k sc d n) → Came S N start l h (outcome_by r at) k sc d n
  reply_came l h (reply.Value v) at k sc d n w a = a
  reply_came l h (reply.Elements vs) at k sc d n w a = a
  reply_came l h (reply.Pairs ps) at k sc d n w a = a
  reply_came l h reply.Done at k sc d n w a = a
  reply_came l h (reply.Started number thread) at k sc d n w a = a
  reply_came l h (reply.Ended how) at k sc d n w a =
      subst (λ o. Came S N start l h o k sc d n) (outcome_same how (record { from = 0; to = 0 }) at)
      (taken_over l h how k sc d n w (subst (At S N start l h) (ended_same how at (record { from = 0; to = 0 }) k sc d n) a))
  reply_came l h (reply.Failed fault) at k sc d n w a = a

  -- an act on a thing that is not the thread's own is done
  did : (l l' : Log) (h h' : Private) (r : Reference) (act : Act) (answer : Answered) (n : ℕ) → held h r.id ≡ None → IsServed (served.Done answer) (N - n) (On r act) l l' h h'
      → (s : State) → At S N start l h s → move S s ≡ Ask r act → left_in s ≡ n → At S N start l' h' (replied s (said answer))
  did l l' h h' r act answer n out is s a wants q =
      let b : At S N start (logged l (record { step = N - left_in s; call = On r act; moved = is.0; reply = said answer })) h' (replied s (said answer)) = asks l h h' s r act is.0 (said answer) a wants out is.1 in
      subst (λ x. At S N start x h' (replied s (said answer))) (sym is.2) (subst (λ m. At S N start (logged l (record { step = N - m; call = On r act; moved = is.0; reply = said answer })) h' (replied s (said answer))) q b)

  -- a thread is started
  began : (l l' : Log) (h h' : Private) (body : ℕ) (values : List Held) (answer : Answered) (n : ℕ) → IsServed (served.Done answer) (N - n) (starting h l body values) l l' h h'
      → (s : State) → At S N start l h s → move S s ≡ Begin body (map plain values) → left_in s ≡ n → At S N start l' h' (replied s (said answer))
  began l l' h h' body values answer n is s a wants q =
      let b : At S N start (logged l (record { step = N - left_in s; call = starting h l body values; moved = is.0; reply = said answer })) h' (replied s (said answer)) =
      starts l h h' s body (map plain values) is.0 (said answer) a wants is.1 in
      subst (λ x. At S N start x h' (replied s (said answer))) (sym is.2) (subst (λ m. At S N start (logged l (record { step = N - m; call = starting h l body values; moved = is.0; reply = said answer })) h' (replied s (said answer))) q b)

  -- the shared heap had no room for it
  filled_up : (l l' : Log) (h h' : Private) (r : Reference) (act : Act) (used wanted n : ℕ) → held h r.id ≡ None → IsServed (served.Full used wanted) (N - n) (On r act) l l' h h'
      → (s : State) → At S N start l h s → move S s ≡ Ask r act → left_in s ≡ n → Comes S N start l' h' (ending.Full used wanted) (N - n)
  filled_up l l' h h' r act used wanted n out is s a wants q =
      let b : Comes S N start (filled l (On r act) is.1.0 used wanted) h (ending.Full used wanted) (N - left_in s) = fills l h is.1.1 s r act is.1.0 used wanted a wants out is.1.2 in
      subst (λ x. Comes S N start x h' (ending.Full used wanted) (N - n)) (sym is.1.3)
      (subst (λ y. Comes S N start (filled l (On r act) is.1.0 used wanted) y (ending.Full used wanted) (N - n)) (sym is.0)
      (subst (λ m. Comes S N start (filled l (On r act) is.1.0 used wanted) h (ending.Full used wanted) (N - m)) q b))

  start_filled : (l l' : Log) (h h' : Private) (body : ℕ) (values : List Held) (used wanted n : ℕ) → IsServed (served.Full used wanted) (N - n) (starting h l body values) l l' h h'
      → (s : State) → At S N start l h s → move S s ≡ Begin body (map plain values) → left_in s ≡ n → Comes S N start l' h' (ending.Full used wanted) (N - n)
  start_filled l l' h h' body values used wanted n is s a wants q =
      let b : Comes S N start (filled l (starting h l body values) is.1.0 used wanted) h (ending.Full used wanted) (N - left_in s) = starts_full l h is.1.1 s body (map plain values) is.1.0 used wanted a wants is.1.2 in
      subst (λ x. Comes S N start x h' (ending.Full used wanted) (N - n)) (sym is.1.3)
      (subst (λ y. Comes S N start (filled l (starting h l body values) is.1.0 used wanted) y (ending.Full used wanted) (N - n)) (sym is.0)
      (subst (λ m. Comes S N start (filled l (starting h l body values) is.1.0 used wanted) h (ending.Full used wanted) (N - m)) q b))

-- the last entry tells the reply
told_last : (answer : Answered) (step : ℕ) (call : Call) (l l' : Log) (h h' : Private) → Rattle.rb_machine.specs.Laws.asks_thing call ≡ true → IsServed (served.Done answer) step call l l' h h' → WasReplied l' (said answer)
told_last answer step call l l' h h' e is = (l.entries, record { step = step; call = call; moved = is.0; reply = said answer }, ap (λ (x : Log). x.entries) is.2, e, refl)

told_full : (used wanted step : ℕ) (call : Call) (l l' : Log) (h h' : Private) → IsServed (served.Full used wanted) step call l l' h h' → WasFull l' used wanted
told_full used wanted step call l l' h h' is =
    (l.refusals, record { call = call; moved = is.1.0; before = length l.entries; words = Some (used, wanted) }, ap (λ (x : Log). x.refusals) is.1.3, refl)

module _ (N n : ℕ) (l l' : Log) (h h' : Private) where
  -- what an act on a thing comes to
  pub act_replied : (r : Reference) (act : Act) (answer : Answered) → held h r.id ≡ None → IsServed (served.Done answer) (N - n) (On r act) l l' h h' → Replied N (Ask r act) (said answer) n l l' h h'
  act_replied r act answer out is = (told_last answer (N - n) (On r act) l l' h h' refl is, λ S start s a wants q. did S N start l l' h h' r act answer n out is s a wants q)

  pub act_filled : (r : Reference) (act : Act) (used wanted : ℕ) → held h r.id ≡ None → IsServed (served.Full used wanted) (N - n) (On r act) l l' h h'
      → Unreplied N (Ask r act) n l l' h h' (Over (ending.Full used wanted))
  act_filled r act used wanted out is = λ S start s k sc d a wants q. (filled_up S N start l l' h h' r act used wanted n out is s a wants q, inl (told_full used wanted (N - n) (On r act) l l' h h' is))

  pub lacks : (want : Next) (call : Call) → IsServed served.Memory (N - n) call l l' h h' → Unreplied N want n l l' h h' (Over ending.Memory)
  lacks want call is = λ S start s k sc d a wants q. (s, subst (λ x. At S N start x h' s) (sym is.1) (subst (λ y. At S N start l y s) (sym is.0) a), q)

  -- and the start of a thread
  pub start_replied : (body : ℕ) (values : List Held) (answer : Answered) → IsServed (served.Done answer) (N - n) (starting h l body values) l l' h h' → Replied N (Begin body (map plain values)) (said answer) n l l' h h'
  start_replied body values answer is =
      (told_last answer (N - n) (starting h l body values) l l' h h' refl is, λ S start s a wants q. began S N start l l' h h' body values answer n is s a wants q)

  pub start_full : (body : ℕ) (values : List Held) (used wanted : ℕ) → IsServed (served.Full used wanted) (N - n) (starting h l body values) l l' h h'
      → Unreplied N (Begin body (map plain values)) n l l' h h' (Over (ending.Full used wanted))
  start_full body values used wanted is = λ S start s k sc d a wants q. (start_filled S N start l l' h h' body values used wanted n is s a wants q, inl (told_full used wanted (N - n) (starting h l body values) l l' h h' is))

-- ---- threads that are started

-- `self` is given where it is an object
self_is : (S : Script) (me : Option Ref) → own_self me ≡ self_of S (me_of me)
self_is S None = refl
self_is S (Some object) = refl

-- the slots of locals have their values
pub captured_are : (wanted names : List NameId) (slots : List ℕ) (room : List Held) → length names ≤ length room → have_slots wanted names slots ≡ true
    → map (value_at room) slots ≡ map (λ (name : NameId). look name (bound names (map plain room))) wanted
captured_are [] names [] room len h = refl
captured_are [] names (slot ∷ slots) room len h = absurd (let e : false ≡ true = h in cc)
captured_are (n ∷ ns) names [] room len h = absurd (let e : false ≡ true = h in cc)
captured_are (n ∷ ns) names (slot ∷ slots) room len h =
    let has = fst (has_slot n names slot) (have_slots ns names slots) h in
    let in_room = there room slot (omega (arith, slot_within n names slot has, len)) in
    let first : value_at room slot ≡ look n (bound names (map plain room)) = ap (λ o. or_nil (option_map plain o)) in_room.1 ∙ sym (read_room n names room slot in_room.0 len has in_room.1) in
    ap (λ v. v ∷ map (value_at room) slots) first ∙ ap (λ vs. look n (bound names (map plain room)) ∷ vs) (captured_are ns names slots room len (snd (has_slot n names slot) (have_slots ns names slots) h))

-- what the body of a thread is given
pub given_is : (S : Script) (body : ℕ) (args : List Val) (me : Option Ref) (names : List NameId) (slots : List ℕ) (room : List Held) (values : List Val) → length names ≤ length room → have_slots (S.captured_names body) names slots ≡ true
    → values ≡ args ++ (own_self me ++ map (value_at room) slots) → values ≡ given_to S body args (scope_of (me_of me) names room)
given_is S body args me names slots room values len h e =
    e ∙ ap (λ own. args ++ (own ++ map (value_at room) slots)) (self_is S me)
    ∙ ap (λ captured. args ++ (self_of S (me_of me) ++ captured)) (captured_are (S.captured_names body) names slots room len h)

-- a thread starts where its body is there and takes so many arguments
pub starts_so : (S : Script) (program : Program) (body : ℕ) (block : Block) (args : List Val) (at : Span) (k : List Cont) (sc : Scope) (d n : ℕ) → S.program ≡ program → slice_get program.bodies body ≡ Some block
    → length args ≡ length block.params → machine.start S body args at k sc d n ≡ On (Starting body (given_to S body args sc) at) k sc d n
starts_so S program body block args at k sc d n e f q =
    ap (λ (p : Program). machine.start_body S (slice_get p.bodies body) body args at k sc d n) e
    ∙ ap (λ o. machine.start_body S o body args at k sc d n) f
    ∙ ap (λ t. cond t (On (Starting body (given_to S body args sc) at) k sc d n) (machine.raised ArgumentCount at n)) (eq-eqb (length args) (length block.params) q)
