use Rattle.std.proofs.Common.{ap, sym, refl, map, ◌∙◌}
use Rattle.rb_model.specs.Doing.{doing}
use Rattle.rb_shared.specs.Step.{reply_of, with_act}
use Rattle.thing_store.specs.Kept.{thing_of, id_of, item_of}
use Rattle.thing_store.specs.Counted.{mutex_places}
use Rattle.thing_store.proofs.Freeing.{act_stays, acts_stay}
use Rattle.thing_store.proofs.Tabled.{acted_reply, acted_things, acted_err, changed_here, found_here, missing_here}
use Rattle.thing_store.proofs.table.Things.apply.Goals as goal

pub returns-in-Some-clause-reply : goal.returns-in-Some-clause-reply
returns-in-Some-clause-reply c =
    let there = found_here c.key_of.result c.self.inside.rows.entries c.in-Some.place c.in-Some.ensures.index c.index_mut.result.now c.apply.new.self c.index_mut.ensures.value c.args.self.now c.self.view_is c.args.id (ap id_of c.key_of.ensures) in
    acted_reply c.args.thread (doing c.args.act) c.args.self.now _ c.args.id (thing_of c.index_mut.result.now) (thing_of c.apply.new.self) there refl c.apply.result c.apply.ensures

pub returns-in-Some-clause-things : goal.returns-in-Some-clause-things
returns-in-Some-clause-things c =
    let there = found_here c.key_of.result c.self.inside.rows.entries c.in-Some.place c.in-Some.ensures.index c.index_mut.result.now c.apply.new.self c.index_mut.ensures.value c.args.self.now c.self.view_is c.args.id (ap id_of c.key_of.ensures) in
    let set = changed_here c.key_of.result c.self.inside.rows.entries c.in-Some.place c.in-Some.ensures.index c.index_mut.result.now c.apply.new.self c.index_mut.ensures.value c.args.self.now c.self.view_is c.args.id (ap id_of c.key_of.ensures) in
    acted_things c.args.thread (doing c.args.act) c.args.self.now _ c.args.id (thing_of c.index_mut.result.now) (thing_of c.apply.new.self) there set c.apply.result c.apply.ensures

pub returns-in-Some-clause-err : goal.returns-in-Some-clause-err
returns-in-Some-clause-err c =
    let there = found_here c.key_of.result c.self.inside.rows.entries c.in-Some.place c.in-Some.ensures.index c.index_mut.result.now c.apply.new.self c.index_mut.ensures.value c.args.self.now c.self.view_is c.args.id (ap id_of c.key_of.ensures) in
    let set = changed_here c.key_of.result c.self.inside.rows.entries c.in-Some.place c.in-Some.ensures.index c.index_mut.result.now c.apply.new.self c.index_mut.ensures.value c.args.self.now c.self.view_is c.args.id (ap id_of c.key_of.ensures) in
    acted_err c.args.thread (doing c.args.act) c.args.self.now _ c.args.id (thing_of c.index_mut.result.now) (thing_of c.apply.new.self) there set c.apply.result c.apply.ensures

pub returns-in-None-clause-reply : goal.returns-in-None-clause-reply
returns-in-None-clause-reply c =
    sym (ap (λ o. reply_of c.args.thread o (doing c.args.act)) (missing_here c.key_of.result c.self.inside.rows.entries c.in-None.ensures.index c.args.self.now c.self.view_is c.args.id (ap id_of c.key_of.ensures)))

pub returns-in-None-clause-things : goal.returns-in-None-clause-things
returns-in-None-clause-things c =
    sym (ap (λ o. with_act c.args.thread c.args.self.now c.args.id o (doing c.args.act)) (missing_here c.key_of.result c.self.inside.rows.entries c.in-None.ensures.index c.args.self.now c.self.view_is c.args.id (ap id_of c.key_of.ensures)))

pub invariant_of-self : goal.invariant_of-self
invariant_of-self c =
    let z = map item_of c.self.inside.rows.entries in let id = id_of c.key_of.result in
    let there = found_here c.key_of.result c.self.inside.rows.entries c.in-Some.place c.in-Some.ensures.index c.index_mut.result.now c.apply.new.self c.index_mut.ensures.value z refl id refl in
    let set = changed_here c.key_of.result c.self.inside.rows.entries c.in-Some.place c.in-Some.ensures.index c.index_mut.result.now c.apply.new.self c.index_mut.ensures.value z refl id refl in
    let same = acts_stay c.args.thread (thing_of c.index_mut.result.now) (thing_of c.apply.new.self) (doing c.args.act) c.apply.result c.apply.ensures in
    c.self.invariant ∙ sym (ap mutex_places set ∙ act_stays id c.args.thread z (thing_of c.index_mut.result.now) (thing_of c.apply.new.self) there same)
