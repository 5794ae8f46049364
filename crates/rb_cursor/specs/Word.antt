-- Words of the text, as the grammar has them.
use Rattle.std.specs.Prelude.{◌≡◌, List, map}
use Rattle.rb_lexer.specs.declared.token.Token.{Token}
use Rattle.rb_lexer.specs.declared.token.TokenKind.{TokenKind}
use Rattle.rb_grammar.specs.Look.{Test}
use Rattle.rb_grammar.specs.Tree as tree
use Rattle.rb_grammar.specs.Grammar.{text_of, word_of}
use Rattle.rb_cursor.specs.State.{State, Took}
use Rattle.rb_cursor.specs.declared.word.Word.{Word}

-- the text that a token says
abbrev pub text_now : TokenKind → tree.Text
text_now kind = text_of kind

-- a word of the grammar
abbrev pub word_by : Word → tree.Word
word_by w = record { text = w.text.now; at = w.at }

-- the next token meets the test, was taken, and its word is this one
pub record TookWord (test : Test) (old new : State) (w : Word) : Type 0 where
  pub token : Token
  pub took : Took test old new token
  pub word : word_by w ≡ word_of token

abbrev pub IsWord : Word → tree.Word → Type 0
IsWord w v = word_by w ≡ v

abbrev pub AreWords : List Word → List tree.Word → Type 0
AreWords ws vs = map word_by ws ≡ vs
