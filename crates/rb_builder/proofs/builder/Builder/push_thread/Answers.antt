use Rattle.std.proofs.Common.{refl, ap, sym, ◌∙◌, ◌++◌, ◌∷◌, []}
use Rattle.rb_builder.specs.Builder.{walk_of}
use Rattle.rb_builder.proofs.Walks.{first_walk, second_walk}
use Rattle.rb_builder.proofs.Blocks.{thread_gathered, body_kept}
use Rattle.rb_builder.proofs.builder.Builder.push_thread.Goals as goal

pub returns-then-is_none-clause-ok : goal.returns-then-is_none-clause-ok
returns-then-is_none-clause-ok c = λ names threads t at made h.
    let b = c.args.self.now in
    let s = c.args.said.now in
    thread_gathered (walk_of b) s (record { words = s.words; threads = c.push.new.self; bodies = s.bodies }) names threads t
    (first_walk b b.numbers refl c.if-is_none.ensures) refl (c.in_ok-push.ensures.ok ∙ ap (λ x. s.threads ++ x.from ∷ []) (sym at)) h

pub returns-clause-ok : goal.returns-clause-ok
returns-clause-ok c = λ names threads t at made h.
    let b = c.args.self.now in
    let s = c.args.said.now in
    body_kept (walk_of b) (second_walk b b.numbers refl c.if-is_none.ensures) s (record { words = s.words; threads = s.threads; bodies = c.push-2.new.self }) c.args.block names threads t
    c.in_ok-push-2.ensures.ok made h
