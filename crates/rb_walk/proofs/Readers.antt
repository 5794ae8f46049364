-- Methods that only read or write an instance variable.
use Rattle.std.proofs.Common.{◌≡◌, ℕ, ◌+◌, ◌-◌, ◌<◌, ◌≤◌, true, cond, List, [], ◌∷◌, length, map, Option, Some, None, Result, Ok, Err, refl, sym, ap, ◌∙◌, subst, arith}
use Rattle.std.specs.Prelude.{nat_eq, IsSomeAnd, IfErr}
use Rattle.rb_tree.specs.declared.span.Span.{Span}
use Rattle.rb_tree.specs.declared.span.NameId.{NameId}
use Rattle.rb_tree.specs.declared.node.Node.{Node}
use Rattle.rb_tree.specs.declared.node.Node.TheOpen as node
use Rattle.rb_tree.specs.declared.node.Param.{Param}
use Rattle.rb_model.specs.declared.fault.Fault.TheVariants.{ArgumentCount}
use Rattle.rb_model.specs.Values.{Value as Val, Nil, plain}
use Rattle.rb_model.specs.declared.value.Ref.{Ref}
use Rattle.rb_model.specs.declared.value.Sort.TheVariants as sort
use Rattle.rb_model.specs.declared.value.Value.TheVariants as held
use Rattle.rb_model.specs.declared.value.Value.{Value as Held}
use Rattle.rb_model.specs.Acts.{GetField}
use Rattle.rb_model.specs.Ends as ending
use Rattle.rb_model.specs.Log.{Log}
use Rattle.rb_model.specs.Private.{Private}
use Rattle.rb_machine.specs.Scopes.{Script, Scope, look, text_of, fresh}
use Rattle.rb_machine.specs.Control.{State, On, Cont, Then, Under, Frame, Rest, Eval, Give, FieldTo, Following, ReceiverOf}
use Rattle.rb_machine.specs.Call.{ask_of, enter, raised}
use Rattle.rb_machine.specs.Follows.{At}
use Rattle.rb_code.specs.declared.code.Code.{Code}
use Rattle.rb_code.specs.declared.code.Code.TheVariants as code
use Rattle.rb_code.specs.declared.scripted.CodeMethod.{CodeMethod}
use Rattle.rb_code.specs.declared.scripted.CodeScript.{CodeScript}
use Rattle.rb_code.specs.Dispatch.{method_by}
use Rattle.rb_code.specs.Erase.{erase, erase_method}
use Rattle.rb_code.specs.Resolved.{every, fits, method_fits}
use Rattle.rb_code.proofs.Showing.{shows-local, shows-send, shows-set_field}
use Rattle.rb_code.proofs.Fitting.{fits-local, fits-send, fits-set_field}
use Rattle.rb_builtin.specs.declared.builtin.Builtin.{Builtin}
use Rattle.rb_walk.specs.declared.came.Came.{Came as Registers}
use Rattle.rb_walk.specs.declared.came.Leave.{Leave}
use Rattle.rb_walk.specs.Outcome.{Outcome, Gave, Left, Over, Came, IsOver, fetched, outcome}
use Rattle.rb_walk.specs.Carries.{scope_of, call_exit}
use Rattle.rb_walk.specs.Answers.{IsHeld}
use Rattle.rb_walk.specs.Methods.{method_for}
use Rattle.rb_walk.specs.Objects.{Asks, WritesField, plainly}
use Rattle.rb_walk.specs.Readers.{IsReader, Reads, Writes}
use Rattle.rb_walk.proofs.Assigning.{parameter_is}
use Rattle.rb_walk.proofs.Lists.{fst, snd}
use Rattle.rb_walk.proofs.Objects.{fielded_by}
use Rattle.rb_walk.proofs.Moves.{on, same, begins, counts, gives, left}
use Rattle.rb_walk.proofs.Frames.{by_receiver}
use Rattle.rb_walk.proofs.Outcomes.{called}
use Rattle.rb_walk.proofs.Targets.{target_is}

-- the reader that the table has for a name is the one that it finds for an object
pub reader_is : (c : CodeScript) (object : Ref) (class : ℕ) (name field : NameId) (place : Span) → object.sort ≡ sort.Object class
    → IsSomeAnd (method_by c name class) (λ m. Reads m field place) → IsReader c (plain (held.Ref object)) name object field place
reader_is c object class name field place e is = by (method_by c name class) refl is
  where
    by : (o : Option CodeMethod) → method_by c name class ≡ o → IsSomeAnd o (λ m. Reads m field place) → IsReader c (plain (held.Ref object)) name object field place
    by None f none = absurd none
    by (Some m) f reads =
        let t = target_is c object class name m e f in
        record {
          method = m;
          me = t.me;
          finds = t.finds;
          reads = reads;
        }

module _ (S : Script) (N : ℕ) (start : State) (h : Private) where
  -- a value behind which no statement stands is the body's
  rested : (o : Outcome) (l : Log) (k : List Cont) (sc : Scope) (d n : ℕ) → Came S N start l h o (Then (Rest []) ∷ k) sc d n → Came S N start l h o k sc d n
  rested (Gave v) l k sc d n a = on _ (on _ a refl) refl
  rested (Left e) l k sc d n a = on _ a refl
  rested (Over (ending.Value v)) l k sc d n a = a
  rested (Over (ending.Raised f at)) l k sc d n a = a
  rested (Over ending.Steps) l k sc d n a = a
  rested (Over (ending.Full p q)) l k sc d n a = a
  rested (Over ending.Sink) l k sc d n a = a
  rested (Over ending.Memory) l k sc d n a = a

  -- what is run with the object, before its variable is read
  abbrev callee : Val → CodeMethod → Scope
  callee v m = record { me = v; locals = fresh (S.method_names (erase_method m)) [] }

  -- the method is entered, and the variable of the object is asked for
  entered_at : (l : Log) (k : List Cont) (sc : Scope) (d n : ℕ) (v : Val) (m : CodeMethod) (field : NameId) (place at : Span) → (r : Reads m field place) → 0 < n → d < 1000
      → At S N start l h (enter S (erase_method m) v [] at k sc d n)
      → At S N start l h (ask_of v (GetField field) place (Under d ∷ Then (Rest []) ∷ Frame sc ∷ k) (callee v m) (d + 1) (n - 1))
  entered_at l k sc d n v m field place at r more deep a =
      let e2 = same a (ap (λ (ps : List Param). cond (nat_eq 0 (length ps)) (On (Following Nil (map erase m.body)) (Frame sc ∷ k) (callee v m) d n) (raised ArgumentCount at n)) r.params) in
      let e3 = same e2 (ap (λ (ns : List Node). On (Following Nil ns) (Frame sc ∷ k) (callee v m) d n) r.body) in
      begins r.only (node.«Node::Field» field place) (Under d ∷ Then (Rest []) ∷ Frame sc ∷ k) (callee v m) (d + 1) (n - 1) r.reads (counts more deep (on _ e3 refl))

module _ (S : Script) (N : ℕ) (start : State) (h h' : Private) where
  -- a method that only reads a variable is entered
  pub enters_reader : (l l' : Log) (k : List Cont) (sc : Scope) (d n : ℕ) (v : Val) (m : CodeMethod) (field : NameId) (place at : Span) (o : Outcome)
      → Reads m field place → 0 < n → d < 1000 → Asks N v (GetField field) place (n - 1) l l' h h' o
      → At S N start l h (enter S (erase_method m) v [] at k sc d n)
      → Came S N start l' h' (call_exit o) k sc d (n - 1)
  enters_reader l l' k sc d n v m field place at o r more deep asks a =
      let e1 = entered_at S N start h l k sc d n v m field place at r more deep a in
      let e2 = asks S start (Under d ∷ Then (Rest []) ∷ Frame sc ∷ k) (callee S N start h v m) (d + 1) e1 in
      called S N start h' o l' sc k (callee S N start h v m) d (n - 1)
      (rested S N start h' o l' (Frame sc ∷ k) (callee S N start h v m) d (n - 1)
      (left S N start h' l' o (Then (Rest []) ∷ Frame sc ∷ k) (callee S N start h v m) d (d + 1) (n - 1) e2))

  -- it is sent to a local
  pub sends_reader : (l l' : Log) (k : List Cont) (me : Val) (names : List NameId) (size d n : ℕ) (room : List Held) (name : NameId) (receiver : Code) (at : Span) (v to : Val) (m : CodeMethod) (field : NameId) (place : Span) (o : Outcome)
      → v ≡ to → method_for S v name ≡ Some (erase_method m) → Reads m field place → fits S receiver names size ≡ true → length names ≤ length room → 1 < n → d < 1000
      → IsHeld receiver room v → Asks N to (GetField field) place (n - 2) l l' h h' o
      → At S N start l h (On (Eval (erase receiver)) (Then (ReceiverOf (text_of S name) [] None at) ∷ k) (scope_of me names room) d n)
      → Came S N start l' h' (call_exit o) k (scope_of me names room) d (n - 2)
  sends_reader l l' k me names size d n room name receiver at v to m field place o object finds r f len more deep is asks a =
      let sc = scope_of me names room in
      let e1 = is S N names size d n start h l (Then (ReceiverOf (text_of S name) [] None at) ∷ k) me f len (omega (arith, more)) deep a in
      let twice : n - 1 - 1 ≡ n - 2 = omega arith in
      let e2 = same (on _ (on _ e1 refl) refl) (by_receiver S v to (text_of S name) (erase_method m) [] at k sc d (n - 1) finds object) in
      let asked : Asks N to (GetField field) place (n - 1 - 1) l l' h h' o = rw twice asks in
      rw twice at (enters_reader l l' k sc d (n - 1) to m field place at o r (omega (arith, more)) deep asked e2)

  -- and where the code that sends it is evaluated
  pub evaluates_reader : (l l' : Log) (k : List Cont) (me : Val) (names : List NameId) (size d n : ℕ) (room : List Held) (c : Code) (method : Option Builtin) (name : NameId) (receiver : Code) (args : List Code) (at : Span) (v to : Val) (m : CodeMethod) (field : NameId) (place : Span) (o : Outcome)
      → c ≡ code.Send method name receiver args at → args ≡ []
      → v ≡ to → method_for S v name ≡ Some (erase_method m) → Reads m field place → fits S c names size ≡ true → length names ≤ length room → 2 < n → d < 999
      → IsHeld receiver room v → Asks N to (GetField field) place (n - 3) l l' h h' o → call_exit o ≡ o
      → At S N start l h (On (Eval (erase c)) k (scope_of me names room) d n)
      → Came S N start l' h' o k (scope_of me names room) d (n - 3)
  evaluates_reader l l' k me names size d n room c method name receiver args at v to m field place o is none object finds r f len more deep held asks exit a =
      let sc = scope_of me names room in
      let s = sym (ap (λ d. fits S d names size) is ∙ fits-send S names size method name receiver args at) ∙ f in
      let b = begins _ _ (Under d ∷ k) _ _ _ (shows-send c method name receiver args at is) (counts (omega (arith, more)) (omega (arith, deep)) a) in
      let sent = same b (ap (λ args. On (Eval (erase receiver)) (Then (ReceiverOf (text_of S name) (map erase args) None at) ∷ Under d ∷ k) sc (d + 1) (n - 1)) none) in
      let three : n - 1 - 2 ≡ n - 3 = omega arith in
      let asked : Asks N to (GetField field) place (n - 1 - 2) l l' h h' o = rw three asks in
      let come = sends_reader l l' (Under d ∷ k) me names size (d + 1) (n - 1) room name receiver at v to m field place o object finds r (fst _ _ (snd _ _ s)) len (omega (arith, more)) (omega (arith, deep)) held asked sent in
      left S N start h' l' o k sc d (d + 1) (n - 3) (rw (three, exit) at come)

-- what is fetched is what a call gives
pub fetched_exit : (r : Result Held Registers) (v : Held) (l : Leave) → IfErr r (λ c. IsOver (outcome c v l)) → call_exit (fetched r v l) ≡ fetched r v l
fetched_exit (Ok x) v l over = refl
fetched_exit (Err c) v l over = ap call_exit over.1 ∙ sym over.1

module _ (S : Script) (N : ℕ) (start : State) (h h' : Private) where
  -- what is run with the object and the argument
  abbrev setter : Val → CodeMethod → Val → Scope
  setter v m w = record { me = v; locals = fresh (S.method_names (erase_method m)) (w ∷ []) }

  -- the first slot of the frame has the argument
  argument_is : (m : CodeMethod) (field : NameId) (place : Span) (w : Val) (r : Writes m field place) → method_fits S m ≡ true → look r.name (fresh (S.method_names (erase_method m)) (w ∷ [])) ≡ w
  argument_is m field place w r right =
      let names = S.method_names (erase_method m) in
      let f : fits S (code.SetField field (code.Local 0 r.name r.from) place) names m.size ≡ true = fst _ _ (subst (λ (ns : List Code). every (map (fits S) ns) names m.size ≡ true) r.body (snd _ _ (snd _ _ right))) in
      parameter_is r.name names (w ∷ []) 0 w (sym (fits-set_field S names m.size field (code.Local 0 r.name r.from) place ∙ fits-local S names m.size 0 r.name r.from) ∙ f) refl

  -- a method that only gives its argument to a variable is entered
  pub enters_writer : (l l' : Log) (k : List Cont) (sc : Scope) (d n : ℕ) (v w : Val) (m : CodeMethod) (field : NameId) (place at : Span) (o : Outcome)
      → Writes m field place → method_fits S m ≡ true → 1 < n → d < 999 → WritesField N v field w place (n - 2) l l' h h' o
      → At S N start l h (enter S (erase_method m) v (w ∷ []) at k sc d n)
      → Came S N start l' h' (call_exit o) k sc d (n - 2)
  enters_writer l l' k sc d n v w m field place at o r right more deep writes a =
      let inner = setter v m w in
      let rest = Under d ∷ Then (Rest []) ∷ Frame sc ∷ k in
      let twice : n - 1 - 1 ≡ n - 2 = omega arith in
      let e2 = same a (ap (λ (c : ℕ). cond (nat_eq 1 c) (On (Following Nil (map erase m.body)) (Frame sc ∷ k) inner d n) (raised ArgumentCount at n)) r.params) in
      let e3 = same e2 (ap (λ (ns : List Code). On (Following Nil (map erase ns)) (Frame sc ∷ k) inner d n) r.body) in
      let set = code.SetField field (code.Local 0 r.name r.from) place in
      let e4 = begins (erase set) (node.SetField field (erase (code.Local 0 r.name r.from)) place) rest inner (d + 1) (n - 1) (shows-set_field set field (code.Local 0 r.name r.from) place refl) (counts (omega (arith, more)) (omega (arith, deep)) (on _ e3 refl)) in
      let e5 = begins (erase (code.Local 0 r.name r.from)) (node.«Node::Local» r.name r.from) (Under (d + 1) ∷ Then (FieldTo field place) ∷ rest) inner (d + 1 + 1) (n - 1 - 1) (shows-local (code.Local 0 r.name r.from) 0 r.name r.from refl) (counts (omega (arith, more)) (omega (arith, deep)) e4) in
      let e6 = gives w (argument_is m field place w r right) e5 in
      let e7 = fielded_by S N start h v field place (FieldTo field place) (plainly refl) w (on (On (Give w) (Then (FieldTo field place) ∷ rest) inner (d + 1) (n - 1 - 1)) e6 refl) in
      let e8 = writes S start rest inner (d + 1) (rw twice at e7) in
      called S N start h' o l' sc k inner d (n - 2)
      (rested S N start h' o l' (Frame sc ∷ k) inner d (n - 2)
      (left S N start h' l' o (Then (Rest []) ∷ Frame sc ∷ k) inner d (d + 1) (n - 2) e8))
