use Rattle.std.proofs.Common.{[], subst}
use Rattle.rb_builder.specs.Builder.{walk_of}
use Rattle.rb_builder.specs.Operand.{IsOperand}
use Rattle.rb_builder.proofs.Operands.{value_built, variable_built, bare_built, field_built, global_built, indexed_built, member_built}
use Rattle.rb_builder.proofs.builder.Builder.operand.Goals as goal

pub returns-in-Value : goal.returns-in-Value
returns-in-Value c = λ x i.
    let w = walk_of c.args.self.now in
    value_built w c.in-Value.grown x c.in-Value.grown.low (subst (λ y. IsOperand w y x) c.in-Value.is i)

pub returns-in-Variable : goal.returns-in-Variable
returns-in-Variable c = λ x i.
    let w = walk_of c.args.self.now in
    variable_built w c.in-Variable.word x c.local.result c.local.ensures (subst (λ y. IsOperand w y x) c.in-Variable.is i)

pub returns-in-Bare : goal.returns-in-Bare
returns-in-Bare c = λ x i.
    let w = walk_of c.args.self.now in
    bare_built w c.in-Bare.word x c.call.result (c.call.ensures [] c.row.ensures) (subst (λ y. IsOperand w y x) c.in-Bare.is i)

pub returns-in-Field : goal.returns-in-Field
returns-in-Field c = λ x i.
    let w = walk_of c.args.self.now in
    field_built w c.in-Field.word x c.field.result c.field.ensures (subst (λ y. IsOperand w y x) c.in-Field.is i)

pub returns-in-Global : goal.returns-in-Global
returns-in-Global c = λ x i.
    let w = walk_of c.args.self.now in
    global_built w c.in-Global.word x c.global.result c.global.ensures (subst (λ y. IsOperand w y x) c.in-Global.is i)

pub returns-in-Indexed : goal.returns-in-Indexed
returns-in-Indexed c = λ x i.
    let w = walk_of c.args.self.now in
    indexed_built w c.in-Indexed.receiver c.in-Indexed.index c.in-Indexed.at x c.index.result (λ a b t u. c.index.ensures a b t u) (subst (λ y. IsOperand w y x) c.in-Indexed.is i)

pub returns-in-Member : goal.returns-in-Member
returns-in-Member c = λ x i.
    let w = walk_of c.args.self.now in
    member_built w c.in-Member.receiver c.in-Member.word x c.call_to.result (λ a t. c.call_to.ensures a [] t c.row-in-Member.ensures) (subst (λ y. IsOperand w y x) c.in-Member.is i)
