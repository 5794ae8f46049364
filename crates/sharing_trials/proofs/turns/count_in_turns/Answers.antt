use Rattle.std.proofs.Common.{rules, refl, sym, ◌∙◌}
use Rattle.rb_model.specs.declared.call.Call.TheVariants.{Start, End}
use Rattle.rb_model.specs.declared.call.End.TheVariants.{Steps}
use Rattle.rb_model.specs.declared.value.Id.{Id}
use Rattle.sharing_trials.specs.Turns.{IsReady}
use Rattle.sharing_trials.proofs.Asking.{start_may, first_ready, started_ready, maker_ready, newborn_ready, joined_ready, end_may, sure_ends, starts_none, end_starts, as_on, turns_gather}
use Rattle.sharing_trials.proofs.turns.count_in_turns.Goals as goal

abbrev body : Id
body = record { thread = 0; serial = 9223372036854775809 }

pub ask-answer-requires-clause-may : goal.ask-answer-requires-clause-may
ask-answer-requires-clause-may g c κs within =
    start_may (g.S.SharedStore.view c.args.pass) (Start body 0 c.new.result) c.requires.first.0 body 0 c.new.result refl c.new.ensures.items c.requires.first.1 refl

pub split-child-requires-clause-started : goal.split-child-requires-clause-started
split-child-requires-clause-started g c κs within =
    let see = g.S.SharedStore.view in
    (started_ready (see c.args.pass) (Start body 0 c.new.result) c.ask-answer.result (see c.ask-answer.new.pass) refl (first_ready (see c.args.pass) c.requires.first) c.ask-answer.ensures.leaves (sym c.is_started.ensures ∙ c.if-not-is_started.false)).1

pub join-mine-requires-after_bounds : goal.join-mine-requires-after_bounds
join-mine-requires-after_bounds g c κs within =
    let see = g.S.SharedStore.view in
    let begun = started_ready (see c.args.pass) (Start body 0 c.new.result) c.ask-answer.result (see c.ask-answer.new.pass) refl (first_ready (see c.args.pass) c.requires.first) c.ask-answer.ensures.leaves (sym c.is_started.ensures ∙ c.if-not-is_started.false) in
    let mine : IsReady (see c.split-child.new.pass) = maker_ready (see c.ask-answer.new.pass) (see c.split-child.new.pass) c.split-child.ensures.maker begun.0 in
    let theirs : IsReady (see c.split-child.result) = newborn_ready (see c.ask-answer.new.pass) (see c.split-child.result) begun.1 c.split-child.ensures.made begun.0 in
    search rules

pub number-counted-requires-clause-ready : goal.number-counted-requires-clause-ready
number-counted-requires-clause-ready g c κs within =
    let see = g.S.SharedStore.view in joined_ready (see c.join-mine.result.0) (see c.join-mine.result.1) (see c.join.new.pass) c.join.ensures.told c.join-mine.ensures.first.1

pub ask-requires-clause-may : goal.ask-requires-clause-may
ask-requires-clause-may g c κs within = end_may (g.S.SharedStore.view c.number-counted.new.pass)

pub returns-clause-ended : goal.returns-clause-ended
returns-clause-ended g c =
    let see = g.S.SharedStore.view in sure_ends (see c.number-counted.new.pass) (End Steps) c.ask.result (see c.ask.new.pass) refl refl c.ask.ensures.leaves

pub returns-clause-gathered : goal.returns-clause-gathered
returns-clause-gathered g c =
    let see = g.S.SharedStore.view in
    let counted = see c.number-counted.new.pass in
    turns_gather (see c.args.pass) (see c.ask-answer.new.pass) (see c.split-child.new.pass) (see c.join-mine.result.0) (see c.split-child.result) (see c.join-mine.result.1) (see c.join.new.pass)
    (see c.ask.new.pass) (Start body 0 c.new.result) c.ask-answer.result c.requires.first.0 body 0 c.new.result refl c.requires.first.1 c.ask-answer.ensures.leaves (sym c.is_started.ensures ∙ c.if-not-is_started.false)
    c.split-child.ensures.maker c.join-mine.ensures.first.2 c.split-child.ensures.made c.join-mine.ensures.second.2 c.join-mine.ensures.second.1 c.join.ensures.told
    (as_on (see c.join.new.pass) counted (see c.ask.new.pass) c.number-counted.ensures.same (starts_none counted (End Steps) c.ask.result (see c.ask.new.pass) (end_starts Steps) c.ask.ensures.leaves))
