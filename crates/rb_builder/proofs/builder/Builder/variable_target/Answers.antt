use Rattle.std.proofs.Common.{refl}
use Rattle.rb_cursor.specs.Word.{word_by}
use Rattle.rb_builder.proofs.builder.Builder.variable_target.Goals as goal

pub returns-clause-ok : goal.returns-clause-ok
returns-clause-ok c = λ x names inside made. record {
  height = rw inside refl;
  target = made;
  said = rw (names, inside) (c.in_ok-said.ensures.ok (word_by c.args.word) refl);
}
