use Rattle.std.proofs.Common.{length}
use Rattle.rb_grammar.specs.Tree as tree
use Rattle.rb_grammar.specs.Phrase as p
use Rattle.rb_cursor.specs.State.{answer_at}
use Rattle.rb_builder.specs.Builder.{walk_of}
use Rattle.rb_builder.specs.Script.{AreMembers}
use Rattle.rb_phrases.proofs.Loops.{Gone}
use Rattle.rb_phrases.proofs.parser.Parser.members.Given as goal

-- the members that were read
abbrev pub invariant-members : goal.invariant-members
invariant-members l =
    Gone (AreMembers (walk_of l.fn.self.make)) (answer_at l.fn.self.levels (p.members_rest tree.no_members) l.fn.cursor) (λ found. answer_at l.fn.self.levels (p.members_rest found) l.cursor) l.fn.cursor l.cursor l.members

abbrev pub decreases-members : goal.decreases-members
decreases-members l = length l.cursor.rest
