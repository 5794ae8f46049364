use Rattle.std.proofs.Common.{◌∙◌, Some, refl, ap}
use Rattle.rb_model.specs.Values.{plain}
use Rattle.rb_builtin.specs.declared.builtin.Builtin.TheVariants as builtin
use Rattle.rb_walk.proofs.AskedBy.{asked_by}
use Rattle.rb_walk.proofs.questions.question_of.Goals as goal

pub returns-in-Index : goal.returns-in-Index
returns-in-Index g = asked_by g.index.result _ _ builtin.Index _ g.in-Ref.thing (ap plain g.in-Ref.is) (g.in_ok-method.was ∙ ap Some g.in-Index.is) (λ P. refl) g.index.ensures

pub returns-in-SetIndex : goal.returns-in-SetIndex
returns-in-SetIndex g = asked_by g.set_index.result _ _ builtin.SetIndex _ g.in-Ref.thing (ap plain g.in-Ref.is) (g.in_ok-method.was ∙ ap Some g.in-SetIndex.is) (λ P. refl) g.set_index.ensures

pub returns-in-Append : goal.returns-in-Append
returns-in-Append g = asked_by g.add.result _ _ builtin.Append _ g.in-Ref.thing (ap plain g.in-Ref.is) (g.in_ok-method.was ∙ ap Some g.in-Append.is) (λ P. refl) g.add.ensures

pub returns-in-Length : goal.returns-in-Length
returns-in-Length g = asked_by g.length.result _ _ builtin.Length _ g.in-Ref.thing (ap plain g.in-Ref.is) (g.in_ok-method.was ∙ ap Some g.in-Length.is) (λ P. refl) g.length.ensures
