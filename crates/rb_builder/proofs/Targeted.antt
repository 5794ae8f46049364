-- The targets of assignments with an operator, by what they are.
use Rattle.std.proofs.Common.{◌≡◌, List, [], ◌∷◌, ◌++◌, refl, sym, ap, ◌∙◌, arith, max, append-nil}
use Rattle.std.proofs.lemmas.List.{map-append}
use Rattle.rb_tree.specs.declared.span.Span.{Span}
use Rattle.rb_tree.specs.declared.span.NameId.{NameId}
use Rattle.rb_tree.specs.declared.node.Target.{Target}
use Rattle.rb_tree.specs.declared.node.Target.TheVariants as node
use Rattle.rb_tree.specs.Height.{highest}
use Rattle.rb_cursor.specs.declared.word.Word.{Word}
use Rattle.rb_cursor.specs.Word.{word_by}
use Rattle.rb_grammar.specs.Tree.{Tree, TargetTree, heights, threads_of, target_by, target_names, inside_target, to_local, to_field, to_global, to_index, to_attribute}
use Rattle.rb_builder.specs.Walk.{Walk}
use Rattle.rb_builder.specs.Grown.{Made, IsTree}
use Rattle.rb_builder.specs.Operand as said
use Rattle.rb_builder.specs.Operand.{IsTarget}
use Rattle.rb_builder.specs.Block.{IsGrownTarget}
use Rattle.rb_builder.specs.declared.grown.Grown.{Grown}
use Rattle.rb_builder.specs.declared.grown_target.GrownTarget.{GrownTarget}
use Rattle.rb_builder.specs.declared.operand.Target.TheVariants as t
use Rattle.rb_builder.proofs.Rows.{highest-append, threads_of-append}
use Rattle.rb_builder.proofs.Scripts.{made_with}

-- what a variable is as a target, whatever it is in the tree
abbrev pub Variable : Walk → Word → Target → GrownTarget → Type 0
Variable w word target g = (x : TargetTree) → target_names x ≡ word_by word ∷ [] → inside_target x ≡ [] → Made w target (λ n. target_by n x) → IsGrownTarget w g x

pub local_targeted : (w : Walk) (word : Word) (id : NameId) (x : TargetTree) (g : GrownTarget)
    → Variable w word (node.Local id) g → Made w id (λ n. n.name word.text.now) → IsTarget w (t.Local word) x → IsGrownTarget w g x
local_targeted w word id x g f m said.to_local = f (to_local (word_by word)) refl refl (made_with w id (λ n. n.name word.text.now) (λ i. node.Local i) m)

pub field_targeted : (w : Walk) (word : Word) (id : NameId) (x : TargetTree) (g : GrownTarget)
    → Variable w word (node.Field id) g → Made w id (λ n. n.name word.text.now) → IsTarget w (t.Field word) x → IsGrownTarget w g x
field_targeted w word id x g f m said.to_field = f (to_field (word_by word)) refl refl (made_with w id (λ n. n.name word.text.now) (λ i. node.Field i) m)

pub global_targeted : (w : Walk) (word : Word) (id : NameId) (x : TargetTree) (g : GrownTarget)
    → Variable w word (node.Global id) g → Made w id (λ n. n.name word.text.now) → IsTarget w (t.Global word) x → IsGrownTarget w g x
global_targeted w word id x g f m said.to_global = f (to_global (word_by word)) refl refl (made_with w id (λ n. n.name word.text.now) (λ i. node.Global i) m)

pub index_targeted : (w : Walk) (r i : Grown) (at : Span) (x : TargetTree) (g : GrownTarget)
    → ((a b : Tree) (bracket : Span) → IsTree w r a → IsTree w i b → IsGrownTarget w g (to_index a b bracket)) → IsTarget w (t.Index r i at) x → IsGrownTarget w g x
index_targeted w r i at x g f (said.to_index {a = a} {b = b} u v) = f a b at u v

pub attribute_targeted : (w : Walk) (r : Grown) (word : Word) (x : TargetTree) (g : GrownTarget)
    → ((a : Tree) → IsTree w r a → IsGrownTarget w g (to_attribute a (word_by word))) → IsTarget w (t.Attribute r word) x → IsGrownTarget w g x
attribute_targeted w r word x g f (said.to_attribute {a = a} u) = f a u

-- the highest of trees and one behind them
pub high_behind : (trees : List Tree) (a : Tree) → max (highest (heights trees)) a.height ≡ highest (heights (trees ++ a ∷ []))
high_behind trees a = rw (map-append (λ b. b.height) trees (a ∷ []), highest-append (heights trees) (a.height ∷ [])) (grind arith)

-- the threads of trees and of one behind them
pub threads_behind : (trees : List Tree) (a : Tree) → threads_of trees ++ a.threads ≡ threads_of (trees ++ a ∷ [])
threads_behind trees a = sym (threads_of-append trees (a ∷ []) ∙ ap (λ q. threads_of trees ++ q) (append-nil a.threads))
