use Rattle.rb_thread.specs.Kins.{one, none_is}
use Rattle.std.proofs.Common.{refl}
use Rattle.rb_thread.proofs.Lines.{place_one, place_none}
use Rattle.rb_thread.proofs.kids.Kids.mark_id.Goals as goal

pub returns-in-Some : goal.returns-in-Some
returns-in-Some g c =
    let m = c.mark.ensures in
    one c.in-Some.place m.0 m.1 (place_one c.args.maker c.args.self.now.0 c.in-Some.place m.0 c.args.id c.requires.placed m.1 c.in-Some.ensures.1) m.2

pub returns-in_default : goal.returns-in_default
returns-in_default g c =
    none_is (place_none c.args.maker c.args.self.now.0 c.args.id c.place_of.result c.requires.placed c.place_of.ensures c.in_default.not-Some) refl
