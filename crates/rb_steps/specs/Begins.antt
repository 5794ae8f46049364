-- What operands begin with.
use Rattle.rb_grammar.specs.Look.{Class}
use Rattle.rb_grammar.specs.Look as c
use Rattle.rb_steps.specs.declared.beginning.Beginning.{Beginning}
use Rattle.rb_steps.specs.declared.beginning.Beginning.TheVariants as begin

-- what a primary is that begins with a token of this class
abbrev pub beginning_of : Class → Beginning
beginning_of c.int = begin.Leaf
beginning_of c.symbol = begin.Leaf
beginning_of c.nil_word = begin.Leaf
beginning_of c.true_word = begin.Leaf
beginning_of c.false_word = begin.Leaf
beginning_of c.self_word = begin.Leaf
beginning_of c.field = begin.Leaf
beginning_of c.global = begin.Leaf
beginning_of c.text_open = begin.Text
beginning_of c.word = begin.Name
beginning_of c.marked = begin.Name
beginning_of c.attribute = begin.Name
beginning_of c.new = begin.Name
beginning_of c.constant = begin.New
beginning_of c.open_bracket = begin.Array
beginning_of c.open_brace = begin.Hash
beginning_of c.open_paren = begin.Group
beginning_of c.if_word = begin.Choice
beginning_of c.unless_word = begin.Choice
beginning_of c.while_word = begin.Loop
beginning_of c.until_word = begin.Loop
beginning_of other = begin.Nothing
