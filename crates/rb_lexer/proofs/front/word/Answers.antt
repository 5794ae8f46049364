use Rattle.std.proofs.Common.{sym, ◌∙◌, ap, refl}
use Rattle.std.proofs.lemmas.List.{take_rest}
use Rattle.rb_lexer.specs.Extent.{ends_label}
use Rattle.rb_lexer.proofs.Fronts.{label-token, keyword-token, identifier-token}
use Rattle.rb_lexer.proofs.front.word.Goals as goal

pub returns-then-ends_label : goal.returns-then-ends_label
returns-then-ends_label c =
    let bytes = c.args.bytes.now in
    let len = c.identifier_len-len.result in
    label-token bytes c.in_ok-name.name len c.requires c.identifier_len-len.ensures
    (sym (ap ends_label (take_rest bytes len)) ∙ sym c.ends_label.ensures ∙ c.if-ends_label.true) c.in_ok-name.ensures

pub returns-in-Some : goal.returns-in-Some
returns-in-Some c =
    let bytes = c.args.bytes.now in
    let len = c.identifier_len-len.result in
    keyword-token bytes c.in-Some.word len c.requires c.identifier_len-len.ensures
    (sym (ap ends_label (take_rest bytes len)) ∙ sym c.ends_label.ensures ∙ c.if-ends_label.false) c.in-Some.ensures.found

pub returns : goal.returns
returns c =
    let bytes = c.args.bytes.now in
    let len = c.identifier_len-len.result in
    identifier-token bytes c.in_ok-name-2.name len c.requires c.identifier_len-len.ensures
    (sym (ap ends_label (take_rest bytes len)) ∙ sym c.ends_label.ensures ∙ c.if-ends_label.false) (c.in_default.ensures.absent refl) c.in_ok-name-2.ensures
