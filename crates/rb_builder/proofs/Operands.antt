-- The trees of operands, of heads and of assignments, by what they are.
use Rattle.std.proofs.Common.{◌≤◌, List, Result, Ok, Some, None, []}
use Rattle.std.proofs.lemmas.Bool.{le-leb}
use Rattle.rb_tree.specs.declared.span.Span.{Span}
use Rattle.rb_cursor.specs.declared.fault.ParseFault.{ParseFault}
use Rattle.rb_cursor.specs.declared.word.Word.{Word}
use Rattle.rb_cursor.specs.Word.{word_by}
use Rattle.rb_grammar.specs.Tree.{Tree}
use Rattle.rb_grammar.specs.Tree as tree
use Rattle.rb_grammar.specs.Phrase as p
use Rattle.rb_grammar.specs.Grammar.{tree_of, command_of}
use Rattle.rb_builder.specs.Walk.{Walk}
use Rattle.rb_builder.specs.Grown.{IsTree, Builds}
use Rattle.rb_builder.specs.Operand as said
use Rattle.rb_builder.specs.Operand.{IsOperand, IsHead, IsTarget}
use Rattle.rb_builder.specs.declared.grown.Grown.{Grown}
use Rattle.rb_builder.specs.declared.operand.Operand.TheVariants as o
use Rattle.rb_builder.specs.declared.operand.Head.TheVariants as h
use Rattle.rb_builder.specs.declared.operand.Target.TheVariants as t

pub value_built : (w : Walk) (g : Grown) (x : p.Operand) → g.height ≤ 64 → IsOperand w (o.Value g) x → Builds w (tree_of x) (Ok g)
value_built w g x low (said.value {a = a} r) = (r, le-leb a.height 64 (rw r.height at low))

pub variable_built : (w : Walk) (word : Word) (x : p.Operand) (made : Result Grown ParseFault)
    → Builds w (tree.local (word_by word)) made → IsOperand w (o.Variable word) x → Builds w (tree_of x) made
variable_built w word x made b said.variable = b

pub bare_built : (w : Walk) (word : Word) (x : p.Operand) (made : Result Grown ParseFault)
    → Builds w (tree.call None (word_by word) []) made → IsOperand w (o.Bare word) x → Builds w (tree_of x) made
bare_built w word x made b said.bare = b

pub field_built : (w : Walk) (word : Word) (x : p.Operand) (made : Result Grown ParseFault)
    → Builds w (tree.field (word_by word)) made → IsOperand w (o.Field word) x → Builds w (tree_of x) made
field_built w word x made b said.of_field = b

pub global_built : (w : Walk) (word : Word) (x : p.Operand) (made : Result Grown ParseFault)
    → Builds w (tree.global (word_by word)) made → IsOperand w (o.Global word) x → Builds w (tree_of x) made
global_built w word x made b said.of_global = b

pub indexed_built : (w : Walk) (g i : Grown) (at : Span) (x : p.Operand) (made : Result Grown ParseFault)
    → ((a b : Tree) → IsTree w g a → IsTree w i b → Builds w (tree.index a b at) made) → IsOperand w (o.Indexed g i at) x → Builds w (tree_of x) made
indexed_built w g i at x made f (said.indexed {a = a} {b = b} r s) = f a b r s

pub member_built : (w : Walk) (g : Grown) (word : Word) (x : p.Operand) (made : Result Grown ParseFault)
    → ((a : Tree) → IsTree w g a → Builds w (tree.call (Some a) (word_by word) []) made) → IsOperand w (o.Member g word) x → Builds w (tree_of x) made
member_built w g word x made f (said.member {a = a} r) = f a r

pub call_commanded : (w : Walk) (word : Word) (x : p.Head) (trees : List Tree) (made : Result Grown ParseFault)
    → Builds w (tree.call None (word_by word) trees) made → IsHead w (h.Call None word) x → Builds w (command_of x trees) made
call_commanded w word x trees made b said.of_call = b

pub call_to_commanded : (w : Walk) (g : Grown) (word : Word) (x : p.Head) (trees : List Tree) (made : Result Grown ParseFault)
    → ((a : Tree) → IsTree w g a → Builds w (tree.call (Some a) (word_by word) trees) made) → IsHead w (h.Call (Some g) word) x → Builds w (command_of x trees) made
call_to_commanded w g word x trees made f (said.of_call_to {a = a} r) = f a r

pub new_commanded : (w : Walk) (class : Word) (at : Span) (x : p.Head) (trees : List Tree) (made : Result Grown ParseFault)
    → Builds w (tree.new (word_by class) at trees) made → IsHead w (h.New class at) x → Builds w (command_of x trees) made
new_commanded w class at x trees made b said.of_new = b

pub local_assigned : (w : Walk) (word : Word) (x : tree.TargetTree) (at : Span) (a : Tree) (made : Result Grown ParseFault)
    → Builds w (tree.assigned (tree.to_local (word_by word)) at a) made → IsTarget w (t.Local word) x → Builds w (tree.assigned x at a) made
local_assigned w word x at a made b said.to_local = b

pub field_assigned : (w : Walk) (word : Word) (x : tree.TargetTree) (at : Span) (a : Tree) (made : Result Grown ParseFault)
    → Builds w (tree.assigned (tree.to_field (word_by word)) at a) made → IsTarget w (t.Field word) x → Builds w (tree.assigned x at a) made
field_assigned w word x at a made b said.to_field = b

pub global_assigned : (w : Walk) (word : Word) (x : tree.TargetTree) (at : Span) (a : Tree) (made : Result Grown ParseFault)
    → Builds w (tree.assigned (tree.to_global (word_by word)) at a) made → IsTarget w (t.Global word) x → Builds w (tree.assigned x at a) made
global_assigned w word x at a made b said.to_global = b

pub index_assigned : (w : Walk) (g i : Grown) (bracket : Span) (x : tree.TargetTree) (at : Span) (a : Tree) (made : Result Grown ParseFault)
    → ((r j : Tree) → IsTree w g r → IsTree w i j → Builds w (tree.assigned (tree.to_index r j bracket) at a) made) → IsTarget w (t.Index g i bracket) x → Builds w (tree.assigned x at a) made
index_assigned w g i bracket x at a made f (said.to_index {a = r} {b = j} u v) = f r j u v

pub attribute_assigned : (w : Walk) (g : Grown) (word : Word) (x : tree.TargetTree) (at : Span) (a : Tree) (made : Result Grown ParseFault)
    → ((r : Tree) → IsTree w g r → Builds w (tree.assigned (tree.to_attribute r (word_by word)) at a) made) → IsTarget w (t.Attribute g word) x → Builds w (tree.assigned x at a) made
attribute_assigned w g word x at a made f (said.to_attribute {a = r} u) = f r u
