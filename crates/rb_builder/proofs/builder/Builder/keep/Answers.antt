use Rattle.std.proofs.Common.{refl, sym}
use Rattle.rb_builder.specs.Builder.{walk_of}
use Rattle.rb_builder.proofs.Walks.{first_walk, second_walk, kept, let_go}
use Rattle.rb_builder.proofs.builder.Builder.keep.Goals as goal

pub returns-in_ok-push-clause-ok : goal.returns-in_ok-push-clause-ok
returns-in_ok-push-clause-ok g c =
    let b = c.args.self.now in
    kept (walk_of b) (second_walk b b.numbers refl (sym c.if-is_some.ensures)) c.args.item c.args.items.now c.push.new.self c.in_ok-push.ensures.ok

pub returns-else-is_some-clause-ok : goal.returns-else-is_some-clause-ok
returns-else-is_some-clause-ok g c =
    let b = c.args.self.now in
    let_go (walk_of b) c.args.item c.args.items.now c.args.items.now (first_walk b b.numbers refl (sym c.if-is_some.ensures)) refl
