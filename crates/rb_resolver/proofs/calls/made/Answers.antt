use Rattle.std.proofs.Common.{ap, sym, ◌∙◌}
use Rattle.rb_machine.specs.Scopes.{name_text}
use Rattle.rb_code.proofs.Erasing.{erase-new, erase-new_builtin}
use Rattle.rb_resolver.specs.Known.{builtin_class_of}
use Rattle.rb_resolver.proofs.Built.{class_is_there}
use Rattle.rb_resolver.proofs.Numbered.{new_fits, new_builtin_fits}
use Rattle.rb_resolver.proofs.calls.made.Goals as goal

pub returns-in-Some-clause-erases : goal.returns-in-Some-clause-erases
returns-in-Some-clause-erases c = erase-new c.in-Some.number c.first-first.result c.args.class c.args.args c.args.at

pub returns-in-Some-clause-fits : goal.returns-in-Some-clause-fits
returns-in-Some-clause-fits c = λ S scope size k a.
    new_fits c.args.known.now c.args.names.now S k scope size c.in-Some.number c.first-first.result c.args.class c.args.args c.args.at c.in-Some.ensures c.first-first.ensures a

pub returns-clause-erases : goal.returns-clause-erases
returns-clause-erases c = erase-new_builtin c.in-Some-builtin_class_of.builtin c.args.class c.args.args c.args.at

pub returns-clause-fits : goal.returns-clause-fits
returns-clause-fits c = λ S scope size k a.
    new_builtin_fits c.args.known.now c.args.names.now S k scope size c.in-Some-builtin_class_of.builtin c.args.class c.args.args c.args.at c.in_default.ensures
    (c.in-Some-builtin_class_of.ensures ∙ ap builtin_class_of c.name_text.ensures) a

pub returns-in_default-builtin_class_of-clause-built : goal.returns-in_default-builtin_class_of-clause-built
returns-in_default-builtin_class_of-clause-built c = λ S k h.
    absurd (class_is_there S c.args.class h (sym (c.in_default.ensures ∙ k.classes c.args.class))
    (ap (λ ts. builtin_class_of (name_text ts c.args.class)) k.texts ∙ sym (c.in_default-builtin_class_of.ensures ∙ ap builtin_class_of c.name_text.ensures)))
