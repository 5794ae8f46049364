use Rattle.std.proofs.Common.{◌≡◌, ◌<◌, ◌∙◌, ap, false, true, length, map, refl, arith}
use Rattle.std.specs.Prelude.{slice_get}
use Rattle.std.proofs.lemmas.Option.{slice_get_past, slice_get_read}
use Rattle.rb_model.specs.Values.{plain}
use Rattle.rb_code.specs.declared.scripted.CodeScript.{CodeScript}
use Rattle.rb_walk.proofs.Endings.{goes_at_once, no_body}
use Rattle.rb_interp.proofs.walker.bodies.run_body.Goals as goal

pub returns-in_default-clause-goes : goal.returns-in_default-clause-goes
returns-in_default-clause-goes g c = λ S st e.
    let past = rw c.as_slice.ensures at c.in_default.ensures.lookup in
    let never : (c.args.number < length c.args.context.script.now.bodies → ⊥) = λ q. let no : false ≡ true = past.2 q in cc in
    let none = slice_get_past c.args.context.script.now.bodies c.args.number (omega (arith, never)) in
    goes_at_once S c.args.context.steps _ _ c.args.number (map plain c.args.values.now) _ c.requires.begun c.requires.made (no_body c.args.context.script.now S c.args.number st none)

pub run_in-requires-clause-body : goal.run_in-requires-clause-body
run_in-requires-clause-body g c =
    let found = rw c.as_slice.ensures at c.in-Some.ensures.lookup in
    ap (λ (s : CodeScript). slice_get s.bodies c.args.number) c.of-methods.ensures ∙ slice_get_read _ _ c.args.number c.in-Some.body.now refl found.3.0 found.1
