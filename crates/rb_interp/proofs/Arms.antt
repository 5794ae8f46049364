-- Arms of a match that no node comes to.
use Rattle.std.proofs.Common.{◌≡◌, ℕ, List, sym, ◌∙◌}
use Rattle.rb_model.specs.Log.{Log}
use Rattle.rb_model.specs.Private.{Private}
use Rattle.rb_model.specs.Ends as ending
use Rattle.rb_machine.specs.Scopes.{Script, Scope}
use Rattle.rb_machine.specs.Control.{State, Cont}
use Rattle.rb_machine.specs.Begin.{begin}
use Rattle.rb_machine.specs.Follows.{At}
use Rattle.rb_machine.proofs.Down.{begin_left}
use Rattle.rb_tree.specs.Layer.{NodeLayer}
use Rattle.rb_walk.specs.Outcome.{Outcome, Came, Over}

-- an arm that no node comes to ends for want of memory where the node begins
pub no_arm : (S : Script) {N : ℕ} {start : State} {l l' : Log} {h h' : Private} {o : Outcome} (f : NodeLayer) (k : List Cont) (sc : Scope) (d n : ℕ) {n' : ℕ}
    → o ≡ Over ending.Memory → n' ≡ n → l' ≡ l → h' ≡ h → At S N start l h (begin S f k sc d n) → Came S N start l' h' o k sc d n'
no_arm S f k sc d n gives left log own a = rw (gives, left, log, own) (_, a, begin_left S f k sc d n)
