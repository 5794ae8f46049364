use Rattle.std.proofs.Common.{◌≡◌, length, false}
use Rattle.rb_grammar.specs.Look.{is, line}
use Rattle.rb_grammar.specs.Rule.{next_meets}
use Rattle.rb_grammar.specs.Tree as tree
use Rattle.rb_grammar.specs.Phrase as p
use Rattle.rb_cursor.specs.State.{answer_at}
use Rattle.rb_builder.specs.Builder.{walk_of}
use Rattle.rb_builder.specs.Script.{AreItems}
use Rattle.rb_phrases.proofs.Loops.{Gone}
use Rattle.rb_phrases.proofs.parser.Parser.script.Given as goal

-- the items that were read, and no line end follows
abbrev pub invariant-items : goal.invariant-items
invariant-items l =
    Gone (AreItems (walk_of l.fn.self.make)) (answer_at l.fn.self.levels (p.items tree.no_items) l.fn.cursor) (λ found. answer_at l.fn.self.levels (p.items found) l.cursor) l.fn.cursor l.cursor l.items
    × (next_meets (is line) l.cursor.rest ≡ false)

abbrev pub decreases-items : goal.decreases-items
decreases-items l = length l.cursor.rest
