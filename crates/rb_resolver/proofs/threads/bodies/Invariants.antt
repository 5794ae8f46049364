use Rattle.std.proofs.Common.{◌≡◌, ℕ, Some, length, map, take}
use Rattle.std.specs.Prelude.{slice_get}
use Rattle.rb_machine.specs.Scopes.{Script}
use Rattle.rb_code.specs.declared.scripted.CodeBody.{CodeBody}
use Rattle.rb_code.specs.Erase.{erase_body}
use Rattle.rb_code.specs.Stands.{IsBody}
use Rattle.rb_resolver.specs.Known.{IsKnown}
use Rattle.rb_resolver.proofs.threads.bodies.Given as goal

abbrev pub invariant-bodies : goal.invariant-bodies
invariant-bodies l = record {
  counted : length l.codes ≡ l.i;
  erases : map erase_body l.codes ≡ take l.i l.sources;
  fits : (S : Script) → IsKnown l.known l.names S → (number : ℕ) (it : CodeBody) → slice_get l.codes number ≡ Some it → IsBody S number it;
}
