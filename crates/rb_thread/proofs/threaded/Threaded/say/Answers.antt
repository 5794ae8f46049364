use Rattle.rb_model.specs.declared.call.Call.TheVariants as held
use Rattle.std.proofs.Common.{refl}
use Rattle.rb_thread.proofs.Noting.{notes_none}
use Rattle.rb_thread.proofs.Keeping.{alive_quiet}
use Rattle.rb_thread.proofs.Asking.{quiet_print}
use Rattle.rb_thread.proofs.threaded.Threaded.say.Goals as goal

pub returns-clause-live : goal.returns-clause-live
returns-clause-live g c =
    alive_quiet c.args.step (held.Print c.args.text) c.ask.result c.requires.live c.ask.ensures.home refl (quiet_print c.args.text c.ask.result) c.ask.ensures.answered (notes_none _ _)
