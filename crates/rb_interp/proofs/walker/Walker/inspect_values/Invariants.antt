use Rattle.std.proofs.Common.{◌≡◌, ◌≤◌, List, [], drop, map, length}
use Rattle.rb_model.specs.Values.{plain}
use Rattle.rb_machine.specs.Scopes.{Script, Scope}
use Rattle.rb_machine.specs.Control.{State, Cont, Inspecting}
use Rattle.rb_machine.specs.Call.{write}
use Rattle.rb_machine.specs.Texts.{max_bytes}
use Rattle.rb_machine.specs.Follows.{At}
use Rattle.rb_interp.proofs.walker.Walker.inspect_values.Given as goal

abbrev pub invariant-values : goal.invariant-values
invariant-values g l =
    record {
      base : l.self.base ≡ l.fn.self.base;
      context : l.self.context ≡ l.fn.self.context;
      less : l.self.left ≤ l.fn.self.left;
      fits : length l.bytes.items ≤ max_bytes;
      came : (S : Script) (start : State) (k : List Cont) (sc : Scope) → S.program ≡ l.fn.self.context.program.now
          → At S l.fn.self.context.steps start (g.O.ThreadStore.log l.fn.self.store) (g.O.ThreadStore.private l.fn.self.store) (write S (Inspecting (map plain l.fn.values)) [] (map plain l.fn.values) l.fn.at k sc l.fn.depth l.fn.self.left)
          → At S l.fn.self.context.steps start (g.O.ThreadStore.log l.self.store) (g.O.ThreadStore.private l.self.store) (write S (Inspecting (map plain l.fn.values)) l.bytes.items (map plain (drop l.value-index l.fn.values)) l.fn.at k sc l.fn.depth l.self.left);
    }
