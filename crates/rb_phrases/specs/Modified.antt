-- One modifier behind a statement.
use Rattle.std.specs.Prelude.{[], ◌∷◌}
use Rattle.rb_lexer.specs.declared.token.Token.{Token}
use Rattle.rb_grammar.specs.Look.{while_word, until_word}
use Rattle.rb_grammar.specs.Tree.{Tree, loop_behind, choice_behind}
use Rattle.rb_grammar.specs.Rule.{Rule, pick}
use Rattle.rb_grammar.specs.Grammar.{is_one, finished}

-- a statement with a modifier and its condition, and nothing behind it
abbrev pub modified_once : Token → Tree → Tree → Rule Tree
modified_once t a condition =
    pick (is_one (while_word ∷ until_word ∷ []) t) (finished (loop_behind t.at a condition)) (finished (choice_behind t.at a condition))
