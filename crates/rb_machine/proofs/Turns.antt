-- What is evaluated before what, and what is not evaluated.
use Rattle.std.proofs.Common.{ℕ, suc, cond, List, [], ◌∷◌, ◌++◌, refl, sym, ap, ◌∙◌, subst}
use Rattle.std.proofs.lemmas.List.{append-nil, append_assoc}
use Rattle.std.specs.Prelude.{◌+◌}
use Rattle.rb_tree.specs.declared.span.Span.{Span}
use Rattle.rb_tree.specs.declared.node.Node.{Node, out-Node}
use Rattle.rb_tree.specs.Place.{place}
use Rattle.rb_model.specs.declared.fault.Fault.TheVariants.{TooDeep}
use Rattle.rb_model.specs.Values.{Value}
use Rattle.rb_machine.specs.Scopes.{Script, Scope}
use Rattle.rb_machine.specs.Control.{On, Cont, Then, Under, Aim, Argument, Eval, Give, Passing, WriteTo}
use Rattle.rb_machine.specs.Call.{raised, perform}
use Rattle.rb_machine.specs.Begin.{begin}
use Rattle.rb_machine.specs.Move.{Go}
use Rattle.rb_machine.specs.Laws.{Way, arrives, goes, Evaluates, nothing, first, ReceiversComeFirst, ArgumentsComeInTurn, ArgumentsComeOnce, OrGoesOnWhereFalse, AndGoesOnWhereTrue}
use Rattle.rb_machine.proofs.Ways.{through, context_changes_nothing}

pub receivers_come_first : ReceiversComeFirst
receivers_come_first S n receiver name args block at k sc d left v e h = (
  ap (λ t. Go (cond t (begin S (out-Node n) (Under d ∷ k) sc (d + 1) left) (raised TooDeep (place (out-Node n)) (suc left)))) h
      ∙ ap (λ f. Go (begin S f (Under d ∷ k) sc (d + 1) left)) e,
  refl,
)

pub arguments_come_once : ArgumentsComeOnce
arguments_come_once S aim done v n ns at k sc d left = (refl, refl)

in_turn : {S : Script} {d : ℕ} {ns : List Node} {vs : List Value} {sc sc' : Scope} {left left' : ℕ} → Evaluates S d ns vs sc left sc' left'
    → (aim : Aim) (done : List Value) (at : Span) (k : List Cont) → Way S (On (Passing aim done ns at) k sc d left) (perform S aim (done ++ vs) at k sc' d left')
in_turn {S} {d} (nothing sc left) aim done at k =
    goes _ _ _ refl (subst (λ vs. Way S (perform S aim done at k sc d left) (perform S aim vs at k sc d left)) (sym (append-nil done)) (arrives _))
in_turn {S} {d} (first n ns v vs sc sc' sc'' left left' left'' one rest) aim done at k =
    let argument = Then (Argument aim done ns at) ∷ k in
    let arrived = subst (λ all. Way S (On (Passing aim (done ++ v ∷ []) ns at) k sc' d left') (perform S aim all at k sc'' d left'')) (append_assoc done (v ∷ []) vs) (in_turn rest aim (done ++ v ∷ []) at k) in
    goes _ _ _ refl (through (context_changes_nothing S (Eval n) (Give v) [] [] argument sc sc' d d left left' tt one) (goes _ _ _ refl arrived))

pub arguments_come_in_turn : ArgumentsComeInTurn
arguments_come_in_turn S aim done vs ns at k sc sc' d left left' e = in_turn e aim done at k

pub or_goes_on_where_false : OrGoesOnWhereFalse
or_goes_on_where_false S v place right at k sc d left = (
  ap (λ t. Go (cond t (On (Give v) k sc d left) (On (Eval right) k sc d left))),
  ap (λ t. Go (cond t (On (Give v) k sc d left) (On (Eval right) k sc d left))),
  ap (λ t. Go (cond t (On (Give v) k sc d left) (On (Eval right) (Then (WriteTo place at) ∷ k) sc d left))),
  ap (λ t. Go (cond t (On (Give v) k sc d left) (On (Eval right) (Then (WriteTo place at) ∷ k) sc d left))),
)

pub and_goes_on_where_true : AndGoesOnWhereTrue
and_goes_on_where_true S v place right at k sc d left = (
  ap (λ t. Go (cond t (On (Eval right) k sc d left) (On (Give v) k sc d left))),
  ap (λ t. Go (cond t (On (Eval right) k sc d left) (On (Give v) k sc d left))),
  ap (λ t. Go (cond t (On (Eval right) (Then (WriteTo place at) ∷ k) sc d left) (On (Give v) k sc d left))),
  ap (λ t. Go (cond t (On (Eval right) (Then (WriteTo place at) ∷ k) sc d left) (On (Give v) k sc d left))),
)
