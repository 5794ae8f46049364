use Rattle.std.proofs.Common.{subst}
use Rattle.rb_builder.specs.Builder.{walk_of}
use Rattle.rb_builder.specs.Operand.{IsTarget}
use Rattle.rb_builder.proofs.Operands.{local_assigned, field_assigned, global_assigned, index_assigned, attribute_assigned}
use Rattle.rb_builder.proofs.builder.Builder.assigned.Goals as goal

pub returns-in-Local : goal.returns-in-Local
returns-in-Local c = λ x a i r.
    let w = walk_of c.args.self.now in
    local_assigned w c.in-Local.word x c.args.at a c.set_local.result (c.set_local.ensures a r) (subst (λ y. IsTarget w y x) c.in-Local.is i)

pub returns-in-Field : goal.returns-in-Field
returns-in-Field c = λ x a i r.
    let w = walk_of c.args.self.now in
    field_assigned w c.in-Field.word x c.args.at a c.set_field.result (c.set_field.ensures a r) (subst (λ y. IsTarget w y x) c.in-Field.is i)

pub returns-in-Global : goal.returns-in-Global
returns-in-Global c = λ x a i r.
    let w = walk_of c.args.self.now in
    global_assigned w c.in-Global.word x c.args.at a c.set_global.result (c.set_global.ensures a r) (subst (λ y. IsTarget w y x) c.in-Global.is i)

pub returns-in-Index : goal.returns-in-Index
returns-in-Index c = λ x a i r.
    let w = walk_of c.args.self.now in
    index_assigned w c.in-Index.receiver c.in-Index.index c.in-Index.bracket x c.args.at a c.set_index.result (λ b j t u. c.set_index.ensures b j a t u r) (subst (λ y. IsTarget w y x) c.in-Index.is i)

pub returns-in-Attribute : goal.returns-in-Attribute
returns-in-Attribute c = λ x a i r.
    let w = walk_of c.args.self.now in
    attribute_assigned w c.in-Attribute.receiver c.in-Attribute.word x c.args.at a c.set_attribute.result (λ b t. c.set_attribute.ensures b a t r) (subst (λ y. IsTarget w y x) c.in-Attribute.is i)
