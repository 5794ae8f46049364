use Rattle.std.proofs.Common.{subst, ap, ◌∙◌, sym}
use Rattle.rb_builder.specs.Operand.{IsPart}
use Rattle.rb_builder.specs.declared.operand.Part.TheVariants as q
use Rattle.rb_builder.proofs.Targets.{variable_becomes, bare_becomes, field_becomes, global_becomes, index_becomes, member_becomes, value_stays, head_stays}
use Rattle.rb_builder.proofs.operand.Part.into_target.Goals as goal

pub returns-in-Plain-Field : goal.returns-in-Plain-Field
returns-in-Plain-Field c = λ w part r. field_becomes w c.in-Plain-Field.word part (subst (λ x. IsPart w x part) (c.in-Plain-Field.is ∙ ap q.Plain c.in-Plain-Field.field-0-is) r)

pub returns-in-Plain-Global : goal.returns-in-Plain-Global
returns-in-Plain-Global c = λ w part r. global_becomes w c.in-Plain-Global.word part (subst (λ x. IsPart w x part) (c.in-Plain-Global.is ∙ ap q.Plain c.in-Plain-Global.field-0-is) r)

pub returns-in-Plain-Indexed : goal.returns-in-Plain-Indexed
returns-in-Plain-Indexed c = λ w part r. index_becomes w c.in-Plain-Indexed.receiver c.in-Plain-Indexed.index c.in-Plain-Indexed.at part (subst (λ x. IsPart w x part) (c.in-Plain-Indexed.is ∙ ap q.Plain c.in-Plain-Indexed.field-0-is) r)

pub returns-in-Plain-Member : goal.returns-in-Plain-Member
returns-in-Plain-Member c = λ w part r. member_becomes w c.in-Plain-Member.receiver c.in-Plain-Member.word part (subst (λ x. IsPart w x part) (c.in-Plain-Member.is ∙ ap q.Plain c.in-Plain-Member.field-0-is) r)

pub returns-in-Plain-Value : goal.returns-in-Plain-Value
returns-in-Plain-Value c = λ w part r.
    let same = c.in-Plain-Value.is ∙ ap q.Plain c.in-Plain-Value.field-0-is in
    let is_value = subst (λ x. IsPart w x part) same r in
    (subst (λ x. IsPart w x part) (sym c.value.ensures) is_value, value_stays w c.in-Plain-Value.grown part is_value)

pub returns-in-Head : goal.returns-in-Head
returns-in-Head c = λ w part r.
    let is_headed = subst (λ x. IsPart w x part) c.in-Head.is r in
    (is_headed, head_stays w c.in-Head.head part is_headed)

pub returns-in-Plain-Variable : goal.returns-in-Plain-Variable
returns-in-Plain-Variable c = λ w part r. variable_becomes w c.in-Plain-Variable.word part (subst (λ x. IsPart w x part) (c.in-Plain-Variable.is ∙ ap q.Plain c.in-Plain-Variable.field-0-is) r)

pub returns-in-Plain-Bare : goal.returns-in-Plain-Bare
returns-in-Plain-Bare c = λ w part r. bare_becomes w c.in-Plain-Bare.word part (subst (λ x. IsPart w x part) (c.in-Plain-Bare.is ∙ ap q.Plain c.in-Plain-Bare.field-0-is) r)
