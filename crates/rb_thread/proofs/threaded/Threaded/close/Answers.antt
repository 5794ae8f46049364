use Rattle.std.proofs.Common.{◌∙◌, sym, subst}
use Rattle.rb_model.specs.Ends.{over}
use Rattle.rb_thread.specs.Alive.{Closes}
use Rattle.rb_thread.proofs.Closing.{closes_surely, sure_of}
use Rattle.rb_thread.proofs.threaded.Threaded.close.Goals as goal

pub end_surely-requires-clause-sure : goal.end_surely-requires-clause-sure
end_surely-requires-clause-sure g c = (sure_of c.args.end c.in_default.not-Value).0

pub returns-in-Value-clause-closes : goal.returns-in-Value-clause-closes
returns-in-Value-clause-closes g c =
    let view = g.K.Seat.view in
    subst (λ e. Closes c.args.step c.args.self.now.things (over e) (view c.args.self.now.seat) (view c.close_value.new.self.seat) (over c.close_value.result) c.close_value.new.self.things) (sym c.in-Value.is) c.close_value.ensures.closes

pub returns-in_default : goal.returns-in_default
returns-in_default g c =
    let view = g.K.Seat.view in
    record {
      home = c.end_surely.ensures.home ∙ c.requires.live.home_is;
      closes =
          closes_surely (view c.args.self.now.seat) (view c.end_surely.new.self.seat) c.args.step c.args.self.now.things c.end_surely.new.self.things c.args.end (over c.end_surely.result) (sure_of c.args.end c.in_default.not-Value).1
          c.end_surely.ensures.things c.end_surely.ensures.view c.end_surely.ensures.end;
    }
