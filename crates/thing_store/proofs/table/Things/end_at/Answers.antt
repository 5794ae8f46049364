use Rattle.std.proofs.Common.{map, ap, sym, ◌∙◌, arith}
use Rattle.rb_model.specs.Ends.{over}
use Rattle.thing_store.specs.Counted.{altered, mutex_places, with_end, with_end_in}
use Rattle.thing_store.specs.Kept.{item_of}
use Rattle.thing_store.proofs.Freeing.{ended_stay}
use Rattle.thing_store.proofs.Tabled.{altered_past, altered_set, as_many}
use Rattle.thing_store.proofs.table.Things.end_at.Goals as goal

pub returns-then-place-len : goal.returns-then-place-len
returns-then-place-len c =
    altered_set (with_end c.args.thread (over c.args.how)) c.self.inside.rows.entries c.in-Some.place c.index_mut.result.now c.end.new.self c.index_mut.ensures.value c.end.ensures
    ∙ ap (λ z. altered (with_end c.args.thread (over c.args.how)) z c.in-Some.place) c.self.view_is
    ∙ ap (with_end_in c.args.thread (over c.args.how) c.args.self.now) (sym c.in-Some.is)

pub returns-else-place-len : goal.returns-else-place-len
returns-else-place-len c =
    let many = as_many c.self.inside.rows.entries c.args.self.now c.self.view_is in
    sym (altered_past (with_end c.args.thread (over c.args.how)) c.args.self.now c.in-Some.place (omega (arith, many, c.len.ensures.len, c.if-place-len.false)))
    ∙ ap (with_end_in c.args.thread (over c.args.how) c.args.self.now) (sym c.in-Some.is)

pub invariant_of-self : goal.invariant_of-self
invariant_of-self c =
    let how = over c.args.how in
    let set = altered_set (with_end c.args.thread how) c.self.inside.rows.entries c.in-Some.place c.index_mut.result.now c.end.new.self c.index_mut.ensures.value c.end.ensures in
    c.self.invariant ∙ sym (ap mutex_places set ∙ ended_stay c.args.thread how (map item_of c.self.inside.rows.entries) c.in-Some.place)
