use Rattle.std.proofs.Common.{ap}
use Rattle.rb_builder.proofs.Walks.{within, beyond, one_higher}
use Rattle.rb_builder.proofs.builder.Builder.branch.Goals as goal

pub returns-then-highest-ge-MAX_HEIGHT : goal.returns-then-highest-ge-MAX_HEIGHT
returns-then-highest-ge-MAX_HEIGHT c = λ w a b. (ap (λ s. s.from) b.place, beyond c.args.highest a.height c.if-highest-ge-MAX_HEIGHT.true b.height)

pub returns : goal.returns
returns c = λ w a b. (
  record { at = b.place; height = one_higher c.args.highest a.height b.height; node = rw (c.in_ok-node.ensures) b.made; said = b.says },
  within c.args.highest a.height c.if-highest-ge-MAX_HEIGHT.false b.height,
)
