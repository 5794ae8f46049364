use Rattle.std.proofs.Common.{◌≡◌, ◌∙◌, [], ◌∷◌, Some, false, ap, rules, to_z, of_z, w64}
use Rattle.std.specs.Prelude.{ℤ, is_some}
use Rattle.rb_model.specs.Values.{Int}
use Rattle.rb_model.specs.Things.{Object}
use Rattle.rb_model.specs.Private.{held}
use Rattle.local_heap.proofs.Callers.{held_made, held_done}
use Rattle.storage_trials.proofs.heap.make_with.Goals as goal

pub apply-requires : goal.apply-requires
apply-requires g c =
    ap is_some (held_made c.args.heap.now c.make.new.self c.in_ok-made.made.id (Object c.args.class []) c.in_ok-made.ensures.private c.in_ok-made.ensures.id)

pub returns : goal.returns
returns g c =
    let there : held c.make.new.self c.in_ok-made.made.id ≡ Some (Object c.args.class [])
    = held_made c.args.heap.now c.make.new.self c.in_ok-made.made.id (Object c.args.class []) c.in_ok-made.ensures.private c.in_ok-made.ensures.id in
    let z : to_z w64 (of_z w64 c.args.n) ≡ c.args.n = search rules in
    held_done c.make.new.self c.apply.new.self c.in_ok-made.made.id _ (Object c.args.class []) _ (c.in_ok-apply.ensures.private (Object c.args.class []) there) there
    ∙ ap (λ (n : ℤ). Some (Object c.args.class (record { name = c.args.name; value = Int n; wide = false } ∷ []))) z
