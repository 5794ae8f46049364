use Rattle.std.proofs.Common.{refl}
use Rattle.rb_cursor.specs.Word.{word_by}
use Rattle.rb_builder.specs.Builder.{walk_of}
use Rattle.rb_builder.proofs.Blocks.{call_says}
use Rattle.rb_builder.proofs.builder.Builder.saying_call.Goals as goal

pub returns-clause-ok : goal.returns-clause-ok
returns-clause-ok c = λ a trees b t r s.
    let word = word_by c.args.word in
    call_says (walk_of c.args.self.now) a word trees b _ _ _ _ _ (c.in_ok-gather.ensures.ok a.names a.threads word refl t) r s c.in_ok-join.ensures.ok c.in_ok-join-2.ensures.ok
