use Rattle.std.proofs.Common.{◌≡◌, ◌+◌, ◌*◌, ◌∷◌, true, drop, length, map, Some, List}
use Rattle.std.specs.List.{AllByRecursion}
use Rattle.rb_tree.specs.declared.span.Span.{Span}
use Rattle.rb_model.specs.Values.{Value as Val, plain}
use Rattle.rb_machine.specs.Scopes.{Script, Scope}
use Rattle.rb_machine.specs.Control.{State, Cont, On, Following, Frame}
use Rattle.rb_machine.specs.Call.{enter}
use Rattle.rb_machine.specs.Follows.{At}
use Rattle.rb_code.specs.Erase.{erase, erase_method}
use Rattle.rb_code.specs.Resolved.{method_fits}
use Rattle.rb_walk.specs.Carries.{me_of}
use Rattle.rb_walk.specs.Readers.{AssignsParameter}
use Rattle.rb_walk.proofs.Assigning.{callee_of}
use Rattle.rb_interp.proofs.walker.Walker.assignments.Given as goal

abbrev pub invariant-statements : goal.invariant-statements
invariant-statements g l =
    record {
      base : l.self.base ≡ l.fn.self.base;
      context : l.self.context ≡ l.fn.self.context;
      steps : l.self.left + 2 * l.code-index ≡ l.fn.self.left;
      assigns : AllByRecursion (AssignsParameter (length l.fn.args)) (drop l.code-index l.fn.method.body);
      came : (v : Val) × ((S : Script) (start : State) (k : List Cont) (sc : Scope) (at : Span) → method_fits S l.fn.method ≡ true
          → At S l.fn.self.context.steps start (g.O.ThreadStore.log l.fn.self.store) (g.O.ThreadStore.private l.fn.self.store) (enter S (erase_method l.fn.method) (me_of (Some l.fn.object)) (map plain l.fn.args) at k sc l.fn.depth l.fn.self.left)
          → At S l.fn.self.context.steps start (g.O.ThreadStore.log l.self.store) (g.O.ThreadStore.private l.self.store) (On (Following v (map erase (drop l.code-index l.fn.method.body))) (Frame sc ∷ k) (callee_of S l.fn.self.context.steps start (g.O.ThreadStore.private l.self.store) (me_of (Some l.fn.object)) l.fn.method (map plain l.fn.args)) l.fn.depth l.self.left));
    }
