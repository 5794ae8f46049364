use Rattle.std.proofs.Common.{refl}
use Rattle.rb_checker.specs.Texts as spec
use Rattle.rb_checker.proofs.Finding.{found_is}
use Rattle.rb_checker.proofs.texts.Texts.found_in.Goals as goal

pub returns : goal.returns
returns c = λ functions classes b o g w.
    found_is _ (spec.text_faults c.args.self.given.names.now functions classes o c.args.events.now)
    (c.in_ok-misplaced.ensures functions classes o g.has_functions g.has_classes w) c.in_ok-params.ensures c.in_ok-unsettled.ensures refl
