use Rattle.std.proofs.Common.{sym, subst}
use Rattle.rb_shared.specs.Lists.{Each}
use Rattle.rb_shared.specs.Asking.{Knows}
use Rattle.rb_thread.proofs.Entries.{may_end}
use Rattle.rb_thread.proofs.Closing.{sure_ends, made_surely}
use Rattle.rb_thread.proofs.threaded.Threaded.end_surely.Goals as goal

pub ask-requires-clause-may : goal.ask-requires-clause-may
ask-requires-clause-may g c =
    let v = g.K.Seat.view c.args.self.now.seat in
    may_end v c.args.end (subst (λ xs. Each (Knows v) xs) (sym (sure_ends c.args.end c.requires.sure).1) tt)

pub returns-clause-view : goal.returns-clause-view
returns-clause-view g c =
    made_surely (g.K.Seat.view c.args.self.now.seat) (g.K.Seat.view c.ask.new.self) c.args.step c.args.end c.ask.result c.requires.sure c.ask.ensures.answered
