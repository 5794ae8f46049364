-- Operands that are integers of objects, and operations over two of them.
use Rattle.std.proofs.Common.{◌≡◌, ℕ, ◌+◌, ◌-◌, ◌<◌, ◌≤◌, true, List, [], ◌∷◌, length, Option, Some, None, refl, arith}
use Rattle.std.specs.Prelude.{ℤ}
use Rattle.rb_tree.specs.declared.span.Span.{Span}
use Rattle.rb_tree.specs.declared.span.NameId.{NameId}
use Rattle.rb_tree.specs.declared.node.Node.TheOpen as node
use Rattle.rb_model.specs.declared.value.Ref.{Ref}
use Rattle.rb_model.specs.declared.value.Value.{Value as Held}
use Rattle.rb_model.specs.Values.{Value as Val, Int}
use Rattle.rb_model.specs.Acts.{GetField, Value}
use Rattle.rb_model.specs.Log.{Log}
use Rattle.rb_model.specs.Private.{Private}
use Rattle.rb_machine.specs.Scopes.{Script, text_of}
use Rattle.rb_machine.specs.Control.{State, On, Cont, Then, Under, Eval, Argument, OnReceiver, ReceiverOf}
use Rattle.rb_machine.specs.Methods.{deed}
use Rattle.rb_machine.specs.Follows.{At}
use Rattle.rb_builtin.specs.declared.builtin.Builtin.{Builtin}
use Rattle.rb_code.specs.declared.code.Code.{Code}
use Rattle.rb_code.specs.declared.code.Code.TheVariants as code
use Rattle.rb_code.specs.declared.scripted.CodeScript.{CodeScript}
use Rattle.rb_code.specs.Erase.{erase}
use Rattle.rb_code.specs.Resolved.{fits}
use Rattle.rb_code.specs.Stands.{StandsFor}
use Rattle.rb_code.proofs.Showing.{shows-field}
use Rattle.rb_walk.specs.Outcome.{Outcome, Gave, Came}
use Rattle.rb_walk.specs.Carries.{me_of, scope_of}
use Rattle.rb_walk.specs.Answers.{IsComputed, IsHeld, OrMemory, outcome_of}
use Rattle.rb_walk.specs.Objects.{Asks}
use Rattle.rb_walk.specs.Readers.{Fetches, HasInteger, IsReader}
use Rattle.rb_walk.proofs.Calls.{calls, none_plain}
use Rattle.rb_walk.proofs.Moves.{on, begins, counts}
use Rattle.rb_walk.proofs.Objects.{asked_reply}
use Rattle.rb_walk.proofs.Readers.{evaluates_reader}

-- an instance variable of `self`
pub fetches_field : (script : CodeScript) (object : Ref) (c : Code) (room : List Held) (own : Private) (field : NameId) (at : Span) (n : ℤ) → c ≡ code.Field field at → HasInteger own object field n
    → Fetches script (me_of (Some object)) 1 c room own n
fetches_field script object c room own field at n is has = λ S N names size d left start log k st f len more deep a.
    let sc = scope_of (me_of (Some object)) names room in
    let e1 = begins (erase c) (node.«Node::Field» field at) (Under d ∷ k) sc (d + 1) (left - 1) (shows-field c field at is) (counts (omega (arith, more)) (omega (arith, deep)) a) in
    on _ (asked_reply S N start log own own (record { sort = object.sort; id = object.id }) (GetField field) (Value (Int n)) at (Under d ∷ k) sc (d + 1) (left - 1) has.there has.gives has.stays e1) refl

-- an attribute of an object that a leaf gives
pub fetches_reader : (script : CodeScript) (me : Val) (c : Code) (room : List Held) (own : Private) (method : Option Builtin) (name : NameId) (receiver : Code) (args : List Code) (at : Span) (v : Val) (object : Ref) (field : NameId) (place : Span) (n : ℤ)
    → c ≡ code.Send method name receiver args at → args ≡ [] → IsHeld receiver room v → IsReader script v name object field place → HasInteger own object field n
    → Fetches script me 3 c room own n
fetches_reader script me c room own method name receiver args at v object field place n is none held r has = λ S N names size d left start log k st f len more deep a.
    let asks : Asks N (me_of (Some object)) (GetField field) place (left - 3) log log own own (Gave (Int n)) = λ S' start' k' sc' d' b. asked_reply S' N start' log own own (record { sort = object.sort; id = object.id }) (GetField field) (Value (Int n)) place k' sc' d' (left - 3) has.there has.gives has.stays b in
    evaluates_reader S N start own own log log k me names size d left room c method name receiver args at v (me_of (Some object)) r.method field place (Gave (Int n))
    is none r.me (r.finds S st) r.reads f len more deep held asks refl a

-- a leaf, and an operation over two leaves
pub fetches_computed : (script : CodeScript) (me : Val) (steps : ℕ) (c : Code) (room : List Held) (own : Private) (n : ℤ) → IsComputed steps c room n → Fetches script me steps c room own n
fetches_computed script me steps c room own n is = λ S N names size d left start log k st f len more deep a. is own S N names size d left start log k me f len more deep a

module _ (S : Script) (N : ℕ) (start : State) where
  -- a call with one argument over two of them
  pub calls_fetched : (script : CodeScript) (l : Log) (own : Private) (k : List Cont) (me : Val) (names : List NameId) (size d left steps_first steps_second : ℕ) (room : List Held) (name : NameId) (first second : Code) (at : Span) (m n : ℤ) (o : Outcome)
      → StandsFor script S → fits S first names size ≡ true → fits S second names size ≡ true → length names ≤ length room → steps_first ≤ 3 → 5 < left → d < 999
      → Fetches script me steps_first first room own m → Fetches script me steps_second second room own n → OrMemory (outcome_of (deed S.program (Int m) (text_of S name) (Int n ∷ []) None) at) o
      → At S N start l own (On (Eval (erase first)) (Then (ReceiverOf (text_of S name) (erase second ∷ []) None at) ∷ k) (scope_of me names room) d left) → Came S N start l own o k (scope_of me names room) d (left - (steps_first + steps_second))
  calls_fetched script l own k me names size d left steps_first steps_second room name first second at m n o st f g len few more deep is js answer a =
      let some : 2 < left = omega (arith, more) in
      let enough : 2 < left - steps_first = omega (arith, more, few) in
      let less : left - (steps_first + steps_second) ≡ left - steps_first - steps_second = omega arith in
      let e1 = is S N names size d left start l (Then (ReceiverOf (text_of S name) (erase second ∷ []) None at) ∷ k) st f len some deep a in
      let e2 = js S N names size d (left - steps_first) start l (Then (Argument (OnReceiver (Int m) (text_of S name) None) [] [] at) ∷ k) st g len enough deep (on _ (on _ e1 refl) refl) in
      rw less (calls S N start own l (Int m) (text_of S name) (Int n ∷ []) at k (scope_of me names room) d (left - steps_first - steps_second) o (none_plain S (Int m) (text_of S name) refl) answer (on _ (on _ e2 refl) refl))
