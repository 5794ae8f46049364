-- What arrays and hashes are asked at once is what the table of methods says.
use Rattle.std.proofs.Common.{◌≡◌, ◌∙◌, List, Option, Some, None, sym}
use Rattle.std.specs.Option.{IfSome}
use Rattle.rb_tree.specs.declared.node.Program.{Program}
use Rattle.rb_model.specs.Values.{Value as Val, To}
use Rattle.rb_model.specs.declared.value.Ref.{Ref}
use Rattle.rb_builtin.specs.declared.builtin.Builtin.{Builtin}
use Rattle.rb_builtin.specs.Deeds.{thing_of, thing_answer, answer_by_number}
use Rattle.rb_builtin.proofs.Table.{by_number}
use Rattle.rb_walk.specs.declared.questions.Question.{Question}
use Rattle.rb_walk.specs.Questions.{IsAskedBy, answer_by}

-- by the name of the method what by its number
pub asked_by : (r : Option Question) (v : Val) (m : Option Builtin) (b : Builtin) (args : List Val) (thing : Ref) → v ≡ To (thing_of thing) → m ≡ Some b
    → ((P : Program) → answer_by_number P (To (thing_of thing)) b args None ≡ thing_answer thing.sort (thing_of thing) b args None)
    → IfSome r (λ q. thing_answer thing.sort (thing_of thing) b args None ≡ answer_by q) → IfSome r (λ q. IsAskedBy v m args q)
asked_by None v m b args thing is number own asks = tt
asked_by (Some q) v m b args thing is number own asks = λ P name n.
    rw is (sym (by_number P (To (thing_of thing)) name b args None (n ∙ number)) ∙ (own P ∙ asks))
