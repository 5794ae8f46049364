use Rattle.std.proofs.Common.{ap, sym, ◌∙◌, List, ℕ, ◌++◌, codes}
use Rattle.rb_machine.specs.Scopes.{name_text}
use Rattle.rb_code.specs.Resolved.{is_free}
use Rattle.rb_code.proofs.Erasing.{erase-update_attribute}
use Rattle.rb_resolver.proofs.Numbered.{update_attribute_fits}
use Rattle.rb_resolver.proofs.Built.{both_ways, word_is_free}
use Rattle.rb_resolver.proofs.stores.attribute_updated.Goals as goal

pub returns-then-not-is_writer_free-clause-built : goal.returns-then-not-is_writer_free-clause-built
returns-then-not-is_writer_free-clause-built c = λ w.
    absurd (both_ways (word_is_free (name_text c.args.names.now c.args.name) w) (sym (c.is_writer_free.ensures ∙ ap (λ (text : List ℕ). is_free (text ++ codes "=")) c.name_text.ensures) ∙ c.if-not-is_writer_free.true))

pub returns-clause-erases : goal.returns-clause-erases
returns-clause-erases c = erase-update_attribute c.number_of-number.result c.in_ok-writer.writer c.args.name c.args.receiver c.args.op c.args.value c.args.at

pub returns-clause-fits : goal.returns-clause-fits
returns-clause-fits c = λ S scope size k r v.
    update_attribute_fits c.args.known.now c.args.names.now S k scope size c.number_of-number.result c.in_ok-writer.writer c.args.name c.args.receiver c.args.op c.args.value c.args.at c.number_of-number.ensures
    c.in_ok-writer.ensures (sym (c.is_writer_free.ensures ∙ ap (λ (text : List ℕ). is_free (text ++ codes "=")) c.name_text.ensures) ∙ c.if-not-is_writer_free.false) r v
