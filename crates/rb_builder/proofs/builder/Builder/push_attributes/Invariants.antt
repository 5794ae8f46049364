use Rattle.std.proofs.Common.{map, take}
use Rattle.rb_grammar.specs.Tree as tree
use Rattle.rb_cursor.specs.Word.{word_by}
use Rattle.rb_builder.specs.Builder.{walk_of}
use Rattle.rb_builder.specs.Script.{AreMembers}
use Rattle.rb_builder.proofs.builder.Builder.push_attributes.Given as goal

abbrev pub invariant-words : goal.invariant-words
invariant-words l = (m : tree.Members) → AreMembers (walk_of l.self) l.fn.members m
    → AreMembers (walk_of l.self) l.members (tree.with_attributes m l.kind (map word_by (take l.word-index l.words)))
