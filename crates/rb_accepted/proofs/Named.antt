-- A token whose class is that of an identifier or of a symbol has the kind of one, and so is a word where those are words.
use Rattle.std.proofs.Common.{◌≡◌, refl, sym, ◌∙◌, Bool, true, false}
use Rattle.std.proofs.lemmas.Bool.{false≢true}
use Rattle.rb_lexer.specs.declared.token.TokenKind.{TokenKind}
use Rattle.rb_lexer.specs.declared.token.TokenKind.TheVariants as kind
use Rattle.rb_lexer.specs.declared.token.Keyword.{Keyword}
use Rattle.rb_lexer.specs.declared.token.Keyword.TheVariants as keyword
use Rattle.rb_lexer.specs.declared.token.Mark.{Mark}
use Rattle.rb_lexer.specs.declared.token.Mark.TheVariants as mark
use Rattle.rb_grammar.specs.Look.{class_of, class_of_keyword, class_of_mark, is, one_of}
use Rattle.rb_grammar.specs.Look as look
use Rattle.rb_grammar.specs.Grammar.{identifiers, text_of}
use Rattle.rb_accepted.specs.Coded.{begins_word}
use Rattle.rb_accepted.specs.Laws.{IsWordKind}

-- no keyword is an identifier, and no mark
keyword_no_identifier : (k : Keyword) (spaced : Bool) → one_of identifiers (class_of_keyword k) spaced ≡ false
keyword_no_identifier keyword.Class spaced = refl
keyword_no_identifier keyword.Def spaced = refl
keyword_no_identifier keyword.End spaced = refl
keyword_no_identifier keyword.If spaced = refl
keyword_no_identifier keyword.Elsif spaced = refl
keyword_no_identifier keyword.Else spaced = refl
keyword_no_identifier keyword.Unless spaced = refl
keyword_no_identifier keyword.While spaced = refl
keyword_no_identifier keyword.Until spaced = refl
keyword_no_identifier keyword.Then spaced = refl
keyword_no_identifier keyword.Do spaced = refl
keyword_no_identifier keyword.Return spaced = refl
keyword_no_identifier keyword.Break spaced = refl
keyword_no_identifier keyword.Next spaced = refl
keyword_no_identifier keyword.SelfRef spaced = refl
keyword_no_identifier keyword.True spaced = refl
keyword_no_identifier keyword.False spaced = refl
keyword_no_identifier keyword.Nil spaced = refl
keyword_no_identifier keyword.Alias spaced = refl
keyword_no_identifier keyword.And spaced = refl
keyword_no_identifier keyword.Begin spaced = refl
keyword_no_identifier keyword.Case spaced = refl
keyword_no_identifier keyword.Defined spaced = refl
keyword_no_identifier keyword.Ensure spaced = refl
keyword_no_identifier keyword.For spaced = refl
keyword_no_identifier keyword.In spaced = refl
keyword_no_identifier keyword.Module spaced = refl
keyword_no_identifier keyword.Not spaced = refl
keyword_no_identifier keyword.Or spaced = refl
keyword_no_identifier keyword.Redo spaced = refl
keyword_no_identifier keyword.Rescue spaced = refl
keyword_no_identifier keyword.Retry spaced = refl
keyword_no_identifier keyword.Super spaced = refl
keyword_no_identifier keyword.Undef spaced = refl
keyword_no_identifier keyword.When spaced = refl
keyword_no_identifier keyword.Yield spaced = refl

mark_no_identifier : (m : Mark) (spaced : Bool) → one_of identifiers (class_of_mark m) spaced ≡ false
mark_no_identifier mark.Comma spaced = refl
mark_no_identifier mark.OpenParen spaced = refl
mark_no_identifier mark.OpenBracket spaced = refl
mark_no_identifier mark.OpenBrace spaced = refl
mark_no_identifier mark.Dot spaced = refl
mark_no_identifier mark.Assign spaced = refl
mark_no_identifier mark.PlusAssign spaced = refl
mark_no_identifier mark.MinusAssign spaced = refl
mark_no_identifier mark.TimesAssign spaced = refl
mark_no_identifier mark.OverAssign spaced = refl
mark_no_identifier mark.ModuloAssign spaced = refl
mark_no_identifier mark.OrAssign spaced = refl
mark_no_identifier mark.AndAssign spaced = refl
mark_no_identifier mark.Question spaced = refl
mark_no_identifier mark.Colon spaced = refl
mark_no_identifier mark.Not spaced = refl
mark_no_identifier mark.AndAnd spaced = refl
mark_no_identifier mark.OrOr spaced = refl
mark_no_identifier mark.Arrow spaced = refl
mark_no_identifier mark.Equal spaced = refl
mark_no_identifier mark.NotEqual spaced = refl
mark_no_identifier mark.Less spaced = refl
mark_no_identifier mark.LessEqual spaced = refl
mark_no_identifier mark.Greater spaced = refl
mark_no_identifier mark.GreaterEqual spaced = refl
mark_no_identifier mark.ShiftLeft spaced = refl
mark_no_identifier mark.Plus spaced = refl
mark_no_identifier mark.Minus spaced = refl
mark_no_identifier mark.Times spaced = refl
mark_no_identifier mark.Over spaced = refl
mark_no_identifier mark.Modulo spaced = refl
mark_no_identifier mark.Bar spaced = refl
mark_no_identifier mark.CloseParen spaced = refl
mark_no_identifier mark.CloseBracket spaced = refl
mark_no_identifier mark.CloseBrace spaced = refl

-- no keyword is a symbol, and no mark
keyword_no_symbol : (k : Keyword) (spaced : Bool) → is look.symbol (class_of_keyword k) spaced ≡ false
keyword_no_symbol keyword.Class spaced = refl
keyword_no_symbol keyword.Def spaced = refl
keyword_no_symbol keyword.End spaced = refl
keyword_no_symbol keyword.If spaced = refl
keyword_no_symbol keyword.Elsif spaced = refl
keyword_no_symbol keyword.Else spaced = refl
keyword_no_symbol keyword.Unless spaced = refl
keyword_no_symbol keyword.While spaced = refl
keyword_no_symbol keyword.Until spaced = refl
keyword_no_symbol keyword.Then spaced = refl
keyword_no_symbol keyword.Do spaced = refl
keyword_no_symbol keyword.Return spaced = refl
keyword_no_symbol keyword.Break spaced = refl
keyword_no_symbol keyword.Next spaced = refl
keyword_no_symbol keyword.SelfRef spaced = refl
keyword_no_symbol keyword.True spaced = refl
keyword_no_symbol keyword.False spaced = refl
keyword_no_symbol keyword.Nil spaced = refl
keyword_no_symbol keyword.Alias spaced = refl
keyword_no_symbol keyword.And spaced = refl
keyword_no_symbol keyword.Begin spaced = refl
keyword_no_symbol keyword.Case spaced = refl
keyword_no_symbol keyword.Defined spaced = refl
keyword_no_symbol keyword.Ensure spaced = refl
keyword_no_symbol keyword.For spaced = refl
keyword_no_symbol keyword.In spaced = refl
keyword_no_symbol keyword.Module spaced = refl
keyword_no_symbol keyword.Not spaced = refl
keyword_no_symbol keyword.Or spaced = refl
keyword_no_symbol keyword.Redo spaced = refl
keyword_no_symbol keyword.Rescue spaced = refl
keyword_no_symbol keyword.Retry spaced = refl
keyword_no_symbol keyword.Super spaced = refl
keyword_no_symbol keyword.Undef spaced = refl
keyword_no_symbol keyword.When spaced = refl
keyword_no_symbol keyword.Yield spaced = refl

mark_no_symbol : (m : Mark) (spaced : Bool) → is look.symbol (class_of_mark m) spaced ≡ false
mark_no_symbol mark.Comma spaced = refl
mark_no_symbol mark.OpenParen spaced = refl
mark_no_symbol mark.OpenBracket spaced = refl
mark_no_symbol mark.OpenBrace spaced = refl
mark_no_symbol mark.Dot spaced = refl
mark_no_symbol mark.Assign spaced = refl
mark_no_symbol mark.PlusAssign spaced = refl
mark_no_symbol mark.MinusAssign spaced = refl
mark_no_symbol mark.TimesAssign spaced = refl
mark_no_symbol mark.OverAssign spaced = refl
mark_no_symbol mark.ModuloAssign spaced = refl
mark_no_symbol mark.OrAssign spaced = refl
mark_no_symbol mark.AndAssign spaced = refl
mark_no_symbol mark.Question spaced = refl
mark_no_symbol mark.Colon spaced = refl
mark_no_symbol mark.Not spaced = refl
mark_no_symbol mark.AndAnd spaced = refl
mark_no_symbol mark.OrOr spaced = refl
mark_no_symbol mark.Arrow spaced = refl
mark_no_symbol mark.Equal spaced = refl
mark_no_symbol mark.NotEqual spaced = refl
mark_no_symbol mark.Less spaced = refl
mark_no_symbol mark.LessEqual spaced = refl
mark_no_symbol mark.Greater spaced = refl
mark_no_symbol mark.GreaterEqual spaced = refl
mark_no_symbol mark.ShiftLeft spaced = refl
mark_no_symbol mark.Plus spaced = refl
mark_no_symbol mark.Minus spaced = refl
mark_no_symbol mark.Times spaced = refl
mark_no_symbol mark.Over spaced = refl
mark_no_symbol mark.Modulo spaced = refl
mark_no_symbol mark.Bar spaced = refl
mark_no_symbol mark.CloseParen spaced = refl
mark_no_symbol mark.CloseBracket spaced = refl
mark_no_symbol mark.CloseBrace spaced = refl

pub identifier_named : (k : TokenKind) (spaced : Bool) → one_of identifiers (class_of k) spaced ≡ true → IsWordKind k → begins_word (text_of k) ≡ true
identifier_named kind.Newline spaced met h = absurd (false≢true met)
identifier_named kind.TextOpen spaced met h = absurd (false≢true met)
identifier_named kind.CodeOpen spaced met h = absurd (false≢true met)
identifier_named kind.CodeClose spaced met h = absurd (false≢true met)
identifier_named kind.TextClose spaced met h = absurd (false≢true met)
identifier_named kind.End spaced met h = absurd (false≢true met)
identifier_named (kind.Int x) spaced met h = absurd (false≢true met)
identifier_named (kind.Const x) spaced met h = absurd (false≢true met)
identifier_named (kind.Field x) spaced met h = absurd (false≢true met)
identifier_named (kind.Global x) spaced met h = absurd (false≢true met)
identifier_named (kind.Label x) spaced met h = absurd (false≢true met)
identifier_named (kind.TextPiece x) spaced met h = absurd (false≢true met)
identifier_named (kind.Ident x) spaced met h = h
identifier_named (kind.Symbol x) spaced met h = h
identifier_named (kind.Keyword k) spaced met h = absurd (false≢true (sym (keyword_no_identifier k spaced) ∙ met))
identifier_named (kind.Mark m) spaced met h = absurd (false≢true (sym (mark_no_identifier m spaced) ∙ met))

pub symbol_named : (k : TokenKind) (spaced : Bool) → is look.symbol (class_of k) spaced ≡ true → IsWordKind k → begins_word (text_of k) ≡ true
symbol_named kind.Newline spaced met h = absurd (false≢true met)
symbol_named kind.TextOpen spaced met h = absurd (false≢true met)
symbol_named kind.CodeOpen spaced met h = absurd (false≢true met)
symbol_named kind.CodeClose spaced met h = absurd (false≢true met)
symbol_named kind.TextClose spaced met h = absurd (false≢true met)
symbol_named kind.End spaced met h = absurd (false≢true met)
symbol_named (kind.Int x) spaced met h = absurd (false≢true met)
symbol_named (kind.Const x) spaced met h = absurd (false≢true met)
symbol_named (kind.Field x) spaced met h = absurd (false≢true met)
symbol_named (kind.Global x) spaced met h = absurd (false≢true met)
symbol_named (kind.Label x) spaced met h = absurd (false≢true met)
symbol_named (kind.TextPiece x) spaced met h = absurd (false≢true met)
symbol_named (kind.Symbol x) spaced met h = h
symbol_named (kind.Ident x) spaced met h = h
symbol_named (kind.Keyword k) spaced met h = absurd (false≢true (sym (keyword_no_symbol k spaced) ∙ met))
symbol_named (kind.Mark m) spaced met h = absurd (false≢true (sym (mark_no_symbol m spaced) ∙ met))
