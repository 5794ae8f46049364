use Rattle.std.proofs.Common.{List, sym, ap, take, ◌++◌, ◌+◌, ◌∙◌}
use Rattle.std.specs.List.{flat_map}
use Rattle.std.proofs.lemmas.List.{take_all}
use Rattle.rb_checker.specs.declared.event.Event.{Event}
use Rattle.rb_checker.specs.Locals.{uses_in}
use Rattle.rb_checker.proofs.Captures.{same_notes, one_text_more}
use Rattle.rb_checker.proofs.Makes.{next_is}
use Rattle.rb_checker.proofs.threads.Noted.new.Goals as goal

pub texts-init : goal.texts-init
texts-init c = c.none-noted.ensures

pub texts-preserved : goal.texts-preserved
texts-preserved c =
    let texts = c.args.texts.now in
    let i = c.texts.events-index in
    let more = next_is texts i c.events-item.result c.texts-test.true c.events-item.is in
    let text = c.as_slice.ensures in
    let uses = flat_map uses_in (take i texts) in
    let before = flat_map (λ (es : List Event). es) (take i texts) in
    same_notes _ _ _ _ _
    (one_text_more uses_in (take i texts) (take (i + 1) texts) c.events-item.result more ∙ ap (λ es. uses ++ uses_in es) (sym text))
    (one_text_more (λ (es : List Event). es) (take i texts) (take (i + 1) texts) c.events-item.result more ∙ ap (λ es. before ++ es) (sym text))
    (c.in_ok-note_text.ensures uses before c.texts.invariant)

pub returns : goal.returns
returns c =
    let all = sym (take_all c.texts.events-index c.args.texts.now c.texts-test.false) in
    same_notes _ _ _ _ _ (ap (flat_map uses_in) all) (ap (flat_map (λ (es : List Event). es)) all) c.texts.invariant
