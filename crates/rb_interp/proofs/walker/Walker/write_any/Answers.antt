use Rattle.std.proofs.Common.{◌≡◌, refl, ap}
use Rattle.rb_walk.specs.Outcome.{value_of}
use Rattle.rb_walk.specs.Answers.{wrote, wanted}
use Rattle.rb_walk.proofs.Outcomes.{gave, value_kept}
use Rattle.rb_interp.proofs.walker.Walker.write_any.Goals as goal

pub returns-then-slot-room-clause-written : goal.returns-then-slot-room-clause-written
returns-then-slot-room-clause-written g c = rw c.over.ensures.gives (wanted refl)

pub returns-in_default-share-clause-written : goal.returns-in_default-share-clause-written
returns-in_default-share-clause-written g c = rw c.over-in_default-share.ensures.gives (wanted refl)

pub returns-in-Ok-clause-written : goal.returns-in-Ok-clause-written
returns-in-Ok-clause-written g c =
    rw (ap (λ r. value_of r c.args.self.now.value) c.in-Other.is) (wrote c.in-Ok.copy c.in-Ok.ensures.value refl)

pub returns-in_default : goal.returns-in_default
returns-in_default g c =
    let t = c.take.ensures in
    let e : value_of c.args.came c.take.new.self.value ≡ value_of c.args.came c.args.self.now.value = value_kept c.args.came c.take.new.self.value c.args.self.now.value c.requires.came c.in_default.not-Other in
    record {
      written = rw (gave c.args.came c.take.new.self.value c.take.new.self.leave c.requires.came, e) (wrote c.take.result t.value refl);
      stays = t.stays;
    }
