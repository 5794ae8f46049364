use Rattle.std.proofs.Common.{List, length}
use Rattle.rb_grammar.specs.Tree.{Tree}
use Rattle.rb_builder.specs.Builder.{walk_of}
use Rattle.rb_builder.specs.Grown.{IsRow}
use Rattle.rb_phrases.specs.Arms.{ArmTree, IsArm, AreArms}
use Rattle.rb_phrases.proofs.Outside.{Closing}
use Rattle.rb_phrases.proofs.parser.Parser.chosen.Given as goal

abbrev pub invariant-arms : goal.invariant-arms
invariant-arms l = (a : ArmTree) (others : List ArmTree) (trees : List Tree) → IsArm (walk_of l.fn.self.make) l.fn.first a → AreArms (walk_of l.fn.self.make) l.fn.more others → IsRow (walk_of l.fn.self.make) l.fn.last trees
    → Closing (walk_of l.fn.self.make) l.fn.self.levels l.more l.rest a others trees

abbrev pub decreases-arms : goal.decreases-arms
decreases-arms l = length l.more
