use Rattle.std.proofs.Common.{ap, ◌∙◌}
use Rattle.rb_grammar.specs.Program.{id_or_first}
use Rattle.rb_tree.specs.Texts.{number_of}
use Rattle.rb_builder.proofs.numbers.Numbers.joined.Goals as goal

pub returns-clause-ok : goal.returns-clause-ok
returns-clause-ok c =
    c.name.ensures ∙ ap (λ text. id_or_first (number_of text c.args.self.now.names))
    (c.as_slice.ensures.value ∙ c.in_ok-whole.ensures.ok)
