use Rattle.std.proofs.Common.{◌∙◌, sym, subst}
use Rattle.rb_model.specs.Doing.{doing}
use Rattle.rb_machine.proofs.Scoping.{IsNoEnd, gives_to_no_end}
use Rattle.rb_walk.proofs.Objects.{asked, none_there, there_is}
use Rattle.rb_interp.proofs.walker.Walker.ask.Goals as goal

pub ask_shared-requires : goal.ask_shared-requires
ask_shared-requires g c = record { shared = none_there _ (sym c.holds.ensures ∙ c.if-not-holds.true) }

pub apply-requires : goal.apply-requires
apply-requires g c = let x = there_is _ (sym c.if-not-holds.ensures) in rw x.1 (search)

pub returns-in-Ok-Value-clause-came : goal.returns-in-Ok-Value-clause-came
returns-in-Ok-Value-clause-came g c = λ S start k sc d a.
    let reply = c.in-Ok-Value.ensures in
    let come = asked S _ start _ _ _ (record { sort = c.args.thing.sort; id = c.args.thing.id }) (doing c.args.act) c.in-Ok-Value.field-0 c.args.at k sc d _ (sym c.if-not-holds.ensures) reply.reply reply.private a in
    rw (c.hand.ensures.gives, c.hand.ensures.stays.3, reply.log) (rw c.in-Ok-Value.field-0-is at come)

pub returns-in-Ok-Done-clause-came : goal.returns-in-Ok-Done-clause-came
returns-in-Ok-Done-clause-came g c = λ S start k sc d a.
    let reply = c.in-Ok-Done.ensures in
    let come = asked S _ start _ _ _ (record { sort = c.args.thing.sort; id = c.args.thing.id }) (doing c.args.act) c.in-Ok-Done.field-0 c.args.at k sc d _ (sym c.if-not-holds.ensures) reply.reply reply.private a in
    rw reply.log (rw c.in-Ok-Done.field-0-is at come)

pub returns-in-Ok-Elements-clause-came : goal.returns-in-Ok-Elements-clause-came
returns-in-Ok-Elements-clause-came g c = λ S start k sc d a.
    let reply = c.in-Ok-Elements.ensures in
    let come = asked S _ start _ _ _ (record { sort = c.args.thing.sort; id = c.args.thing.id }) (doing c.args.act) c.in-Ok-Elements.field-0 c.args.at k sc d _ (sym c.if-not-holds.ensures) reply.reply reply.private a in
    rw reply.log (rw c.in-Ok-Elements.field-0-is at come)

pub returns-in-Ok-Pairs-clause-came : goal.returns-in-Ok-Pairs-clause-came
returns-in-Ok-Pairs-clause-came g c = λ S start k sc d a.
    let reply = c.in-Ok-Pairs.ensures in
    let come = asked S _ start _ _ _ (record { sort = c.args.thing.sort; id = c.args.thing.id }) (doing c.args.act) c.in-Ok-Pairs.field-0 c.args.at k sc d _ (sym c.if-not-holds.ensures) reply.reply reply.private a in
    rw reply.log (rw c.in-Ok-Pairs.field-0-is at come)

pub returns-in-Ok-Failed-clause-came : goal.returns-in-Ok-Failed-clause-came
returns-in-Ok-Failed-clause-came g c = λ S start k sc d a.
    let reply = c.in-Ok-Failed.ensures in
    let come = asked S _ start _ _ _ (record { sort = c.args.thing.sort; id = c.args.thing.id }) (doing c.args.act) c.in-Ok-Failed.field-0 c.args.at k sc d _ (sym c.if-not-holds.ensures) reply.reply reply.private a in
    rw (c.raise.ensures.gives, c.raise.ensures.stays.3, reply.log) (rw c.in-Ok-Failed.field-0-is at come)

pub unreachable-requires : goal.unreachable-requires
unreachable-requires g c =
    let reply = c.in-Ok-Started.ensures in
    let x = there_is _ (sym c.if-not-holds.ensures) in
    rw c.in-Ok-Started.field-0-is at (subst IsNoEnd (sym (reply.reply x.0 x.1)) (gives_to_no_end _ x.0 (doing c.args.act)))

pub unreachable-requires-in-Ok-Ended : goal.unreachable-requires-in-Ok-Ended
unreachable-requires-in-Ok-Ended g c =
    let reply = c.in-Ok-Ended.ensures in
    let x = there_is _ (sym c.if-not-holds.ensures) in
    rw c.in-Ok-Ended.field-0-is at (subst IsNoEnd (sym (reply.reply x.0 x.1)) (gives_to_no_end _ x.0 (doing c.args.act)))
