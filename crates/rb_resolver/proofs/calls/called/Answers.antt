use Rattle.std.proofs.Common.{◌∙◌, ap, sym, map, None, Some, Option}
use Rattle.std.specs.Option.{option_map}
use Rattle.std.proofs.lemmas.Result.{IfOk-weaker}
use Rattle.rb_code.specs.declared.code.Code.{Code}
use Rattle.rb_code.specs.declared.code.CodeBlock.{CodeBlock}
use Rattle.rb_tree.specs.declared.node.Node.TheVariants as tree
use Rattle.rb_code.specs.Erase.{erase, erase_block}
use Rattle.rb_code.specs.Resolved.{fits, block_fits, if_some}
use Rattle.rb_code.proofs.Erasing.{erase-walk}
use Rattle.rb_resolver.proofs.Numbered.{number_fits, walk_fits}
use Rattle.rb_resolver.proofs.calls.called.Goals as goal

pub returns-in-None-None-clause-erases : goal.returns-in-None-None-clause-erases
returns-in-None-None-clause-erases c =
    c.named.ensures.erases ∙ sym (ap (λ (o : Option Code). tree.Call (option_map erase o) c.args.name (map erase c.args.args) (option_map erase_block c.args.block) c.args.at) c.in-None-None.is-0
    ∙ ap (λ (o : Option CodeBlock). tree.Call None c.args.name (map erase c.args.args) (option_map erase_block o) c.args.at) c.in-None-None.is-1)

pub returns-in-None-None-clause-fits : goal.returns-in-None-None-clause-fits
returns-in-None-None-clause-fits c = λ S scope size k r a b. c.named.ensures.fits S scope size k a

pub returns-in-Some-None-clause-erases : goal.returns-in-Some-None-clause-erases
returns-in-Some-None-clause-erases c =
    IfOk-weaker c.sent.result _ _ (λ code h. h ∙ sym (ap (λ (o : Option Code). tree.Call (option_map erase o) c.args.name (map erase c.args.args) (option_map erase_block c.args.block) c.args.at) c.in-Some-None.is-0
    ∙ ap (λ (o : Option CodeBlock). tree.Call (Some (erase c.in-Some-None.receiver)) c.args.name (map erase c.args.args) (option_map erase_block o) c.args.at) c.in-Some-None.is-1)) c.sent.ensures.erases

pub returns-in-Some-None-clause-fits : goal.returns-in-Some-None-clause-fits
returns-in-Some-None-clause-fits c =
    IfOk-weaker c.sent.result _ _ (λ code h S scope size k r a b. h S scope size k.texts (sym (ap (λ (o : Option Code). if_some (option_map (fits S) o) scope size) c.in-Some-None.is-0) ∙ r) a) c.sent.ensures.fits

pub returns-in-Some-Some-clause-erases : goal.returns-in-Some-Some-clause-erases
returns-in-Some-Some-clause-erases c =
    erase-walk c.number_of-number.result c.args.name c.in-Some-Some.receiver c.args.args c.in-Some-Some.block c.args.at
    ∙ sym (ap (λ (o : Option Code). tree.Call (option_map erase o) c.args.name (map erase c.args.args) (option_map erase_block c.args.block) c.args.at) c.in-Some-Some.is-0
    ∙ ap (λ (o : Option CodeBlock). tree.Call (Some (erase c.in-Some-Some.receiver)) c.args.name (map erase c.args.args) (option_map erase_block o) c.args.at) c.in-Some-Some.is-1)

pub returns-in-Some-Some-clause-fits : goal.returns-in-Some-Some-clause-fits
returns-in-Some-Some-clause-fits c = λ S scope size k r a b.
    walk_fits S scope size c.number_of-number.result c.args.name c.in-Some-Some.receiver c.args.args c.in-Some-Some.block c.args.at
    (number_fits S c.args.names.now c.args.name c.number_of-number.result k.texts c.number_of-number.ensures)
    (sym (ap (λ (o : Option Code). if_some (option_map (fits S) o) scope size) c.in-Some-Some.is-0) ∙ r) a
    (sym (ap (λ (o : Option CodeBlock). if_some (option_map (block_fits S) o) scope size) c.in-Some-Some.is-1) ∙ b)
