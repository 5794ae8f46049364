use Rattle.std.proofs.Common.{subst}
use Rattle.std.proofs.lemmas.Result.{IfOk-weaker}
use Rattle.rb_grammar.specs.Tree.{TargetTree}
use Rattle.rb_builder.specs.Builder.{walk_of}
use Rattle.rb_builder.specs.Operand.{IsTarget}
use Rattle.rb_builder.specs.Block.{IsGrownTarget}
use Rattle.rb_builder.proofs.Targeted.{local_targeted, field_targeted, global_targeted, index_targeted, attribute_targeted}
use Rattle.rb_builder.proofs.builder.Builder.grown_target.Goals as goal

pub returns-in_ok-name-in-Local-clause-ok : goal.returns-in_ok-name-in-Local-clause-ok
returns-in_ok-name-in-Local-clause-ok c =
    let w = walk_of c.args.self.now in
    IfOk-weaker c.variable_target.result _ (λ g. (x : TargetTree) → IsTarget w c.args.target x → IsGrownTarget w g x)
    (λ g f x i. local_targeted w c.in-Local.word c.in_ok-name-in-Local.name x g f c.in_ok-name-in-Local.ensures.ok (subst (λ y. IsTarget w y x) c.in-Local.is i)) c.variable_target.ensures.ok

pub returns-in_ok-name-in-Field-clause-ok : goal.returns-in_ok-name-in-Field-clause-ok
returns-in_ok-name-in-Field-clause-ok c =
    let w = walk_of c.args.self.now in
    IfOk-weaker c.variable_target-in-Field.result _ (λ g. (x : TargetTree) → IsTarget w c.args.target x → IsGrownTarget w g x)
    (λ g f x i. field_targeted w c.in-Field.word c.in_ok-name-in-Field.name x g f c.in_ok-name-in-Field.ensures.ok (subst (λ y. IsTarget w y x) c.in-Field.is i)) c.variable_target-in-Field.ensures.ok

pub returns-in_ok-name-in-Global-clause-ok : goal.returns-in_ok-name-in-Global-clause-ok
returns-in_ok-name-in-Global-clause-ok c =
    let w = walk_of c.args.self.now in
    IfOk-weaker c.variable_target-in-Global.result _ (λ g. (x : TargetTree) → IsTarget w c.args.target x → IsGrownTarget w g x)
    (λ g f x i. global_targeted w c.in-Global.word c.in_ok-name-in-Global.name x g f c.in_ok-name-in-Global.ensures.ok (subst (λ y. IsTarget w y x) c.in-Global.is i)) c.variable_target-in-Global.ensures.ok

pub returns-in-Index-clause-ok : goal.returns-in-Index-clause-ok
returns-in-Index-clause-ok c =
    let w = walk_of c.args.self.now in
    IfOk-weaker c.index_target.result _ (λ g. (x : TargetTree) → IsTarget w c.args.target x → IsGrownTarget w g x)
    (λ g f x i. index_targeted w c.in-Index.receiver c.in-Index.index c.in-Index.field-2 x g f (subst (λ y. IsTarget w y x) c.in-Index.is i)) c.index_target.ensures.ok

pub returns-in-Attribute-clause-ok : goal.returns-in-Attribute-clause-ok
returns-in-Attribute-clause-ok c =
    let w = walk_of c.args.self.now in
    IfOk-weaker c.attribute_target.result _ (λ g. (x : TargetTree) → IsTarget w c.args.target x → IsGrownTarget w g x)
    (λ g f x i. attribute_targeted w c.in-Attribute.receiver c.in-Attribute.word x g f (subst (λ y. IsTarget w y x) c.in-Attribute.is i)) c.attribute_target.ensures.ok
