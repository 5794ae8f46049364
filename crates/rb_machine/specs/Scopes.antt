-- The locals in scope with their values, the innermost last; and which names the text of a script gives to its scopes.
use Rattle.std.specs.Prelude.{ℕ, List, [], ◌∷◌, Option, Some, None, if◌then◌else◌, ◌==◌, slice_get, unwrap_or}
use Rattle.std.specs.Option.{is_some}
use Rattle.rb_tree.specs.declared.span.NameId.{NameId}
use Rattle.rb_tree.specs.declared.span.Span.{Span}
use Rattle.rb_tree.specs.declared.node.Method.{Method}
use Rattle.rb_tree.specs.declared.node.Program.{Program}
use Rattle.rb_model.specs.Values.{Value, Nil, or_nil}

abbrev pub Text : Type 0
Text = List ℕ

-- A program, and the names that its text makes known in each scope, as Ruby's parser keeps them: the parameters first, then each local
-- in the order in which the text assigns it first, that of a block without the names that are known round it. A block is known by its place.
-- The body of a thread is known by its number: the names that it captures, in the order of their first use, lie behind its parameters.
pub record Script : Type 0 where
  pub program : Program
  pub block_names : Span → List NameId
  pub method_names : Method → List NameId
  pub main_names : List NameId
  pub captured_names : ℕ → List NameId
  pub thread_names : ℕ → List NameId

-- the text of a name, empty where there is no such name
abbrev pub name_text : List Text → NameId → Text
name_text names name = unwrap_or (slice_get names name.0) []

abbrev pub text_of : Script → NameId → Text
text_of S name = name_text S.program.names name

abbrev pub Locals : Type 0
Locals = List (NameId × Value)

-- what a method's body is run with: its `self`, and its locals
pub record Scope : Type 0 where
  pub me : Value
  pub locals : Locals

abbrev pub with_locals : Scope → Locals → Scope
with_locals sc locals = record { me = sc.me; locals = locals }

abbrev pub or_else : {X : Type 0} → Option X → Option X → Option X
or_else None o = o
or_else (Some x) o = Some x

-- the value of a name: that of the innermost scope that has it
abbrev pub found : NameId → Locals → Option Value
found name [] = None
found name (b ∷ bs) = or_else (found name bs) (if b.0.0 == name.0 then Some b.1 else None)

-- a local that was never assigned reads nil
abbrev pub look : NameId → Locals → Value
look name locals = or_nil (found name locals)

-- the locals with another value of a name, in the innermost scope that has it
abbrev pub assign : NameId → Value → Locals → Locals
assign name v [] = []
assign name v (b ∷ bs) = if is_some (found name bs) then b ∷ assign name v bs else (if b.0.0 == name.0 then (b.0, v) ∷ bs else b ∷ bs)

-- names with the first values, and nil behind these
abbrev pub fresh : List NameId → List Value → Locals
fresh [] vs = []
fresh (n ∷ ns) [] = (n, Nil) ∷ fresh ns []
fresh (n ∷ ns) (v ∷ vs) = (n, v) ∷ fresh ns vs
