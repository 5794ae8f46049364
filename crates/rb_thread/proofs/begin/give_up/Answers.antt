use Rattle.std.proofs.Common.{refl}
use Rattle.rb_model.specs.declared.call.End.TheVariants as end
use Rattle.rb_thread.proofs.Begun.{left_at_once}
use Rattle.rb_thread.proofs.Closing.{made_surely}
use Rattle.rb_thread.proofs.Entries.{may_end}
use Rattle.rb_thread.proofs.begin.give_up.Goals as goal

pub ask-requires-clause-may : goal.ask-requires-clause-may
ask-requires-clause-may g c = may_end (g.K.Seat.view c.poll.new.self) end.Memory tt

pub returns-clause-left : goal.returns-clause-left
returns-clause-left g c =
    let u = g.K.Seat.view c.poll.new.self in
    let w = g.K.Seat.view c.ask.new.self in
    left_at_once g.J.Whose.script g.J.Whose.steps g.J.Whose.job (g.K.Seat.view c.args.seat) u w c.requires.fresh c.poll.ensures.view (made_surely u w 0 end.Memory c.ask.result refl c.ask.ensures.answered)
