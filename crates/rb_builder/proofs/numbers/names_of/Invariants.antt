use Rattle.std.proofs.Common.{◌≡◌, map, take}
use Rattle.rb_grammar.specs.Program.{in_order}
use Rattle.rb_builder.specs.Said.{text_given}
use Rattle.rb_builder.proofs.numbers.names_of.Given as goal

abbrev pub invariant-words : goal.invariant-words
invariant-words l = l.names ≡ in_order (map text_given (take l.word-index l.words))
