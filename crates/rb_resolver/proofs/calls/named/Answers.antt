use Rattle.std.proofs.Common.{ap, ◌∙◌}
use Rattle.rb_resolver.specs.Known.{form_of}
use Rattle.rb_code.proofs.Erasing.{erase-function, erase-own, erase-print}
use Rattle.rb_resolver.proofs.Numbered.{function_fits, own_fits, print_fits}
use Rattle.rb_resolver.proofs.calls.named.Goals as goal

pub returns-in-Some-clause-erases : goal.returns-in-Some-clause-erases
returns-in-Some-clause-erases c = erase-function c.in-Some.number c.args.name c.args.args c.args.at

pub returns-in-Some-clause-fits : goal.returns-in-Some-clause-fits
returns-in-Some-clause-fits c = λ S scope size k a. function_fits c.args.known.now c.args.names.now S k scope size c.in-Some.number c.args.name c.args.args c.args.at c.in-Some.ensures a

pub returns-clause-erases : goal.returns-clause-erases
returns-clause-erases c = erase-print c.in-Some-form_of.form c.args.name c.args.args c.args.at

pub returns-clause-fits : goal.returns-clause-fits
returns-clause-fits c = λ S scope size k a.
    print_fits c.args.known.now c.args.names.now S k scope size c.in-Some-form_of.form c.args.name c.args.args c.args.at c.in_default.ensures (c.in-Some-form_of.ensures ∙ ap form_of c.name_text.ensures) a

pub returns-in_default-form_of-clause-erases : goal.returns-in_default-form_of-clause-erases
returns-in_default-form_of-clause-erases c = erase-own c.args.name c.args.args c.args.at

pub returns-in_default-form_of-clause-fits : goal.returns-in_default-form_of-clause-fits
returns-in_default-form_of-clause-fits c = λ S scope size k a.
    own_fits c.args.known.now c.args.names.now S k scope size c.args.name c.args.args c.args.at c.in_default.ensures (c.in_default-form_of.ensures ∙ ap form_of c.name_text.ensures) a
