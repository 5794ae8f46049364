use Rattle.std.proofs.Common.{subst, ap, ◌∙◌}
use Rattle.rb_builder.specs.Builder.{walk_of}
use Rattle.rb_builder.specs.Operand.{IsHead}
use Rattle.rb_builder.specs.declared.operand.Head.TheVariants as h
use Rattle.rb_builder.proofs.Operands.{call_commanded, call_to_commanded, new_commanded}
use Rattle.rb_builder.proofs.builder.Builder.command.Goals as goal

pub returns-in-None : goal.returns-in-None
returns-in-None c = λ x trees i r.
    let w = walk_of c.args.self.now in
    call_commanded w c.in-Call.word x trees c.call.result (c.call.ensures trees r)
    (subst (λ y. IsHead w y x) (c.in-Call.is ∙ ap (λ o. h.Call o c.in-Call.word) c.in-None.is) i)

pub returns-in-Some : goal.returns-in-Some
returns-in-Some c = λ x trees i r.
    let w = walk_of c.args.self.now in
    call_to_commanded w c.in-Some.receiver c.in-Call.word x trees c.call_to.result (λ a t. c.call_to.ensures a trees t r)
    (subst (λ y. IsHead w y x) (c.in-Call.is ∙ ap (λ o. h.Call o c.in-Call.word) c.in-Some.is) i)

pub returns-in-New : goal.returns-in-New
returns-in-New c = λ x trees i r.
    let w = walk_of c.args.self.now in
    new_commanded w c.in-New.class c.in-New.at x trees c.object.result (c.object.ensures trees r) (subst (λ y. IsHead w y x) c.in-New.is i)
