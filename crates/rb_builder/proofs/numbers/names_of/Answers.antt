use Rattle.std.proofs.Common.{map, take, ap, ◌+◌, ◌∙◌}
use Rattle.std.proofs.lemmas.List.{map_more, take_all}
use Rattle.rb_grammar.specs.Program.{in_order}
use Rattle.rb_builder.specs.Said.{text_given}
use Rattle.rb_builder.proofs.Numbering.{names_more}
use Rattle.rb_builder.proofs.numbers.names_of.Goals as goal

pub words-preserved : goal.words-preserved
words-preserved c =
    let words = c.args.words.now in
    let i = c.words.word-index in
    names_more (map text_given (take i words)) (map text_given (take (i + 1) words)) c.words.names c.add_given.new.names _
    (map_more text_given words i _ c.words-test.true) c.words.invariant c.in_ok-add_given.ensures.ok

pub returns-clause-ok : goal.returns-clause-ok
returns-clause-ok c = c.words.invariant ∙ ap (λ ws. in_order (map text_given ws)) (take_all c.words.word-index c.args.words.now c.words-test.false)
