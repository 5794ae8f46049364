use Rattle.std.proofs.Common.{◌≡◌, ◌≤◌, map, take, length}
use Rattle.rb_model.specs.Values.{plain}
use Rattle.rb_machine.specs.Texts.{max_bytes}
use Rattle.rb_render.specs.Forms as spec
use Rattle.rb_render.proofs.show.render_all.Given as goal

-- the values so far are written, and are not too long
abbrev pub invariant-values : goal.invariant-values
invariant-values l = record {
  written : l.out.items ≡ spec.parts l.program l.form (map plain (take l.value-index l.values));
  fits : length l.out.items ≤ max_bytes;
}
