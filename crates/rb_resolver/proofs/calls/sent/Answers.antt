use Rattle.std.proofs.Common.{ℕ, ◌∙◌, ap, sym, map, None, Some, List, [], ◌∷◌, length, ◌≡◌}
use Rattle.rb_tree.specs.declared.node.Node.{Node}
use Rattle.rb_tree.specs.declared.node.Node.TheVariants as tree
use Rattle.rb_code.specs.declared.code.Code.{Code}
use Rattle.rb_code.specs.Erase.{erase}
use Rattle.rb_code.specs.Resolved.{every, fits}
use Rattle.rb_code.proofs.Erasing.{erase-send, erase-operate}
use Rattle.rb_resolver.proofs.Numbered.{number_fits, send_fits, operate_fits, only_one}
use Rattle.rb_resolver.proofs.calls.sent.Goals as goal

one : (args : List Code) (n : ℕ) → n ≡ length args → n ≡ 1 → length args ≡ 1
one args n h e = sym h ∙ e

pub returns-then-len-ne1-clause-erases : goal.returns-then-len-ne1-clause-erases
returns-then-len-ne1-clause-erases c = erase-send c.number_of-number.result c.args.name c.args.receiver c.args.args c.args.at

pub returns-then-len-ne1-clause-fits : goal.returns-then-len-ne1-clause-fits
returns-then-len-ne1-clause-fits c = λ S scope size texts r a.
    send_fits S scope size c.number_of-number.result c.args.name c.args.receiver c.args.args c.args.at (number_fits S c.args.names.now c.args.name c.number_of-number.result texts c.number_of-number.ensures) r a

pub returns-in_default-clause-erases : goal.returns-in_default-clause-erases
returns-in_default-clause-erases c =
    erase-send c.number_of-number.result c.args.name c.args.receiver c.pop.new.self c.args.at
    ∙ ap (λ (cs : List Code). tree.Call (Some (erase c.args.receiver)) c.args.name (map erase cs) None c.args.at) (c.in_default.ensures.1 ∙ sym c.in_default.ensures.0)

pub returns-in_default-clause-fits : goal.returns-in_default-clause-fits
returns-in_default-clause-fits c = λ S scope size texts r a.
    send_fits S scope size c.number_of-number.result c.args.name c.args.receiver c.pop.new.self c.args.at (number_fits S c.args.names.now c.args.name c.number_of-number.result texts c.number_of-number.ensures) r
    (ap (λ (cs : List Code). every (map (fits S) cs) scope size) (c.in_default.ensures.1 ∙ sym c.in_default.ensures.0) ∙ a)

pub returns-clause-erases : goal.returns-clause-erases
returns-clause-erases c =
    erase-operate c.number_of-number.result c.args.name c.args.receiver c.in_ok-new.field-0 c.args.at
    ∙ ap (λ (cs : List Node). tree.Call (Some (erase c.args.receiver)) c.args.name cs None c.args.at)
    (ap (λ (r : Code). erase r ∷ []) c.in_ok-new.ensures ∙ sym (ap (map erase) (only_one c.args.args c.pop.new.self c.in-Some.right (one c.args.args c.len.result c.len.ensures c.if-len-ne1.false) c.in-Some.ensures)))

pub returns-clause-fits : goal.returns-clause-fits
returns-clause-fits c = λ S scope size texts r a.
    operate_fits S scope size c.number_of-number.result c.args.name c.args.receiver c.in-Some.right c.in_ok-new.field-0 c.args.args c.args.at
    (number_fits S c.args.names.now c.args.name c.number_of-number.result texts c.number_of-number.ensures)
    (only_one c.args.args c.pop.new.self c.in-Some.right (one c.args.args c.len.result c.len.ensures c.if-len-ne1.false) c.in-Some.ensures) c.in_ok-new.ensures r a
