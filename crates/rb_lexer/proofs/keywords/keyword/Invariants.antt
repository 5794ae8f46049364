use Rattle.std.proofs.Common.{◌≡◌, take, false}
use Rattle.std.specs.List.{list_any}
use Rattle.std.specs.Str.{bytes_eq}
use Rattle.rb_lexer.specs.declared.keywords.TheConstants.{KEYWORDS}
use Rattle.rb_lexer.specs.Word.{keyword_text}
use Rattle.rb_lexer.proofs.keywords.keyword.Given as goal

abbrev pub invariant-words : goal.invariant-words
invariant-words l = list_any (λ w. bytes_eq (keyword_text w) l.text) (take l.word-index KEYWORDS) ≡ false
