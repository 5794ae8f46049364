use Rattle.std.proofs.Common.{sym, ◌∙◌, ap, refl, length, get_or}
use Rattle.std.proofs.lemmas.Bool.{eqb-true}
use Rattle.rb_lexer.proofs.Shapes.{class-none}
use Rattle.rb_lexer.proofs.Fronts.{mark-token, mark-nothing, nil-nothing}
use Rattle.rb_lexer.proofs.front.front.Goals as goal

pub returns-in-Some : goal.returns-in-Some
returns-in-Some c =
    let first = get_or c.args.bytes.now 0 0 in
    let class = class-none first (sym c.is_digit.ensures ∙ c.if-is_digit.false) (sym c.is_name_start.ensures ∙ c.if-is_name_start.false) (sym c.is_upper.ensures ∙ c.if-is_upper.false)
    c.if-first-eq64.false c.if-first-eq36.false c.if-first-eq58.false in
    mark-token c.args.bytes.now c.in-Some.mark (length c.mark_text.result.now) class c.in-Some.ensures.found (ap length c.mark_text.ensures)

pub returns-in-None : goal.returns-in-None
returns-in-None c =
    let first = get_or c.args.bytes.now 0 0 in
    let class = class-none first (sym c.is_digit.ensures ∙ c.if-is_digit.false) (sym c.is_name_start.ensures ∙ c.if-is_name_start.false) (sym c.is_upper.ensures ∙ c.if-is_upper.false)
    c.if-first-eq64.false c.if-first-eq36.false c.if-first-eq58.false in
    mark-nothing c.args.bytes.now class (c.in-None.ensures.absent refl)

pub returns-then-is_empty : goal.returns-then-is_empty
returns-then-is_empty c = nil-nothing c.args.bytes.now (eqb-true (length c.args.bytes.now) 0 (sym c.is_empty.ensures ∙ c.if-is_empty.true))
