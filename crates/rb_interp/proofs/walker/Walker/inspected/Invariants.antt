use Rattle.std.proofs.Common.{◌≡◌, ◌≤◌, ◌+◌, ◌*◌, List}
use Rattle.rb_model.specs.Values.{To}
use Rattle.rb_machine.specs.Scopes.{Script, Scope}
use Rattle.rb_machine.specs.Control.{State, Cont, On, Drafting, Inspected}
use Rattle.rb_machine.specs.Drafts.{draft_of}
use Rattle.rb_machine.specs.Follows.{At}
use Rattle.rb_builtin.specs.Deeds.{thing_of}
use Rattle.rb_walk.specs.Collections.{work_of}
use Rattle.rb_interp.proofs.walker.Walker.inspected.Given as goal

abbrev pub invariant-text : goal.invariant-text
invariant-text g l =
    record {
      base : l.self.base ≡ l.fn.self.base;
      context : l.self.context ≡ l.fn.self.context;
      less : l.self.left ≤ l.fn.self.left;
      came : (S : Script) (start : State) (k : List Cont) (sc : Scope) → S.program ≡ l.fn.self.context.program.now
          → At S l.fn.self.context.steps start (g.O.ThreadStore.log l.fn.self.store) (g.O.ThreadStore.private l.fn.self.store) (On (Drafting (draft_of Inspected (To (thing_of l.fn.thing))) l.fn.at) k sc l.fn.depth l.fn.self.left)
          → At S l.fn.self.context.steps start (g.O.ThreadStore.log l.self.store) (g.O.ThreadStore.private l.self.store) (On (Drafting l.draft l.fn.at) k sc l.fn.depth l.self.left);
    }

abbrev pub decreases-text : goal.decreases-text
decreases-text g l = 4 * l.self.left + work_of l.draft
