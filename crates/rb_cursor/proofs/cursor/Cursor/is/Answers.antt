use Rattle.std.proofs.Common.{◌∙◌, ap}
use Rattle.rb_grammar.specs.Look as look
use Rattle.rb_grammar.specs.Rule.{next_meets}
use Rattle.rb_cursor.specs.Class.{class_by}
use Rattle.rb_cursor.specs.State.{State}
use Rattle.rb_cursor.proofs.Classes.{is-next}
use Rattle.rb_cursor.proofs.cursor.Cursor.is.Goals as goal

pub returns-in-len1-up : goal.returns-in-len1-up
returns-in-len1-up c =
    is-next c.args.class c.self.inside.class c.self.inside.rest.now c.in-len1-up.len_at_least c.self.invariant.0
    ∙ ap (λ s. next_meets (look.is (class_by c.args.class)) (State.rest s)) c.self.view_is
