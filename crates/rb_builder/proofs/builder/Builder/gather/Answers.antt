use Rattle.std.proofs.Common.{refl, ◌++◌, ◌∷◌, []}
use Rattle.rb_builder.specs.Builder.{walk_of}
use Rattle.rb_builder.proofs.Walks.{first_walk, second_walk, word_gathered, word_unsaid}
use Rattle.rb_builder.proofs.builder.Builder.gather.Goals as goal

pub returns-in_ok-push-clause-ok : goal.returns-in_ok-push-clause-ok
returns-in_ok-push-clause-ok c = λ names threads word text h.
    let b = c.args.self.now in
    let s = c.args.said.now in
    word_gathered (walk_of b) s (record { words = c.push.new.self; threads = s.threads; bodies = s.bodies }) c.args.given names threads word
    (first_walk b b.numbers refl c.if-is_none.ensures) c.in_ok-push.ensures.ok refl text h

pub returns-else-is_none-clause-ok : goal.returns-else-is_none-clause-ok
returns-else-is_none-clause-ok c = λ names threads word text h.
    let b = c.args.self.now in
    word_unsaid (walk_of b) (second_walk b b.numbers refl c.if-is_none.ensures) c.args.said.now names (names ++ word ∷ []) threads h
