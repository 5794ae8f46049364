-- Parameters, blocks and the targets of assignments with an operator as the parser makes them, and those of the grammar that
-- they are.
use Rattle.std.specs.Prelude.{◌≡◌, List, [], ◌∷◌, ◌++◌}
use Rattle.rb_tree.specs.Height.{highest}
use Rattle.rb_grammar.specs.Tree.{Word, Tree, BlockTree, TargetTree, heights, names_of, threads_of, params_by, block_by, block_names, target_by, target_names, inside_target}
use Rattle.rb_builder.specs.Walk.{Walk}
use Rattle.rb_builder.specs.Said.{IsSaid}
use Rattle.rb_builder.specs.Grown.{Made}
use Rattle.rb_builder.specs.declared.said.Said.{Said}
use Rattle.rb_builder.specs.declared.block.GrownParams as params
use Rattle.rb_builder.specs.declared.block.GrownBlock as block
use Rattle.rb_builder.specs.declared.grown_target.GrownTarget as target

-- the parameters of a method or a block
pub record AreParams (w : Walk) (p : params.GrownParams) (ws : List Word) : Type 0 where
  pub params : Made w p.params (λ n. params_by n ws)
  pub said : IsSaid w p.said ws []

-- a block, with the highest node in its body
pub record IsBlock (w : Walk) (b : block.GrownBlock) (a : BlockTree) : Type 0 where
  pub at : b.at ≡ a.at
  pub height : b.height ≡ highest (heights a.body)
  pub block : Made w b.block (λ n. block_by n a)
  pub said : IsSaid w b.said (block_names a) (threads_of a.body)

-- the target of `+=` and the like, with the highest tree in it
pub record IsGrownTarget (w : Walk) (g : target.GrownTarget) (t : TargetTree) : Type 0 where
  pub height : g.height ≡ highest (heights (inside_target t))
  pub target : Made w g.target (λ n. target_by n t)
  pub said : IsSaid w g.said (target_names t) (threads_of (inside_target t))

-- a receiver, the name of its call, the arguments and the block, in the order of the text
abbrev pub SaysCall : Walk → Said → Tree → Word → List Tree → BlockTree → Type 0
SaysCall w s a word args b = IsSaid w s (a.names ++ word ∷ (names_of args ++ block_names b)) (a.threads ++ threads_of (args ++ b.body))
