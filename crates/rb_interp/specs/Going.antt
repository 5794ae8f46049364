-- How the own work of threads goes out.
use Rattle.std.specs.Prelude.{◌≡◌, ℕ, List, []}
use Rattle.rb_tree.specs.declared.node.Program.{Program}
use Rattle.rb_model.specs.Ends.{End, told}
use Rattle.rb_model.specs.Log.{Log}
use Rattle.rb_model.specs.Private.{Private, Leaves}
use Rattle.rb_model.specs.Values.{Value as Val}
use Rattle.rb_machine.specs.Scopes.{Script}
use Rattle.rb_machine.specs.Alone.{opening}
use Rattle.rb_machine.specs.Threads.{beginning}
use Rattle.rb_code.specs.declared.scripted.CodeScript.{CodeScript}
use Rattle.rb_code.specs.Stands.{StandsFor}
use Rattle.rb_walk.specs.Ending.{GoesOut}

-- The main thread's goes out so from the opening, and its end tells of nothing that is private.
pub record MainGoesOut (S : Script) (N : ℕ) (l : Log) (h : Private) (how : End) (step : ℕ) : Type 0 where
  pub goes : GoesOut S N (opening S N) l h how step
  pub tells : Leaves h (told how) [] h

-- for every script that the code stands for
abbrev pub MainGoes : CodeScript → Program → (steps : ℕ) → Log → Private → End → (step : ℕ) → Type 0
MainGoes code program N l h how step = (S : Script) → StandsFor code S → S.program ≡ program → MainGoesOut S N l h how step

-- the same of the body of this number, given these values
abbrev pub BodyGoes : CodeScript → Program → (steps number : ℕ) → List Val → Log → Private → End → (step : ℕ) → Type 0
BodyGoes code program N number values l h how step = (S : Script) → StandsFor code S → S.program ≡ program → GoesOut S N (beginning S N number values) l h how step
