use Rattle.std.proofs.Common.{refl}
use Rattle.std.proofs.lemmas.Option.{slice_get_read}
use Rattle.rb_resolver.proofs.Rows.{row_set}
use Rattle.rb_resolver.proofs.dispatch.add_found.Goals as goal

pub returns-clause-rows : goal.returns-clause-rows
returns-clause-rows c = λ n.
    let within = c.in-Some.ensures.item.3.0 in
    row_set c.args.rows.now.items c.args.name.0 n c.in-Some.row.now c.push.new.self c.args.found within (slice_get_read c.args.rows.now.items _ c.args.name.0 c.in-Some.row.now refl within c.in-Some.ensures.value)
    c.in_ok-push.ensures.ok
