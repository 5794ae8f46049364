use Rattle.std.proofs.Common.{map, take}
use Rattle.rb_cursor.specs.Word.{word_by}
use Rattle.rb_builder.specs.Builder.{walk_of}
use Rattle.rb_builder.specs.Block.{AreParams}
use Rattle.rb_builder.proofs.builder.Builder.params.Given as goal

abbrev pub invariant-words : goal.invariant-words
invariant-words l = AreParams (walk_of l.self) l.params (map word_by (take l.word-index l.words))
