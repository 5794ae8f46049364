-- Which bytes are one token of code. Texts have rules of their own.
use Rattle.std.specs.Prelude.{◌≡◌, ℕ, ◌≤◌, pos, false, List, [], ◌∷◌, ◌++◌, length}
use Rattle.rb_lexer.specs.declared.token.TokenKind.{TokenKind}
use Rattle.rb_lexer.specs.declared.token.TokenKind.TheVariants as kind
use Rattle.rb_lexer.specs.declared.token.Keyword.{Keyword}
use Rattle.rb_lexer.specs.declared.token.Mark.{Mark}
use Rattle.rb_lexer.specs.Character.{begins_with}
use Rattle.rb_lexer.specs.Integer.{IsInteger, number_of}
use Rattle.rb_lexer.specs.Word.{IsPlainName, IsIdentifier, IsConstant, keyword_text}
use Rattle.rb_lexer.specs.Mark.{mark_text}

-- Bytes that are one token of this kind, before what follows them. An integer may be wider than a literal may be.
pub data Lexeme (rest : List ℕ) : List ℕ → TokenKind → Type 0 where
  int : {bytes : List ℕ} → IsInteger bytes → Lexeme rest bytes (kind.Int (pos (number_of bytes)))
  keyword : (word : Keyword) → IsIdentifier rest (keyword_text word) → Lexeme rest (keyword_text word) (kind.Keyword word)
  identifier : {name : List ℕ} → IsIdentifier rest name → ((word : Keyword) → name ≡ keyword_text word → ⊥) → Lexeme rest name (kind.Ident name)
  -- an identifier and `:`, which is not the first of two
  label : {name : List ℕ} → IsIdentifier (58 ∷ rest) name → begins_with 58 rest ≡ false → Lexeme rest (name ++ 58 ∷ []) (kind.Label name)
  constant : {name : List ℕ} → IsConstant name → Lexeme rest name (kind.Const name)
  field : {name : List ℕ} → IsPlainName name → Lexeme rest (64 ∷ name) (kind.Field (64 ∷ name))
  global : {name : List ℕ} → IsPlainName name → Lexeme rest (36 ∷ name) (kind.Global (36 ∷ name))
  symbol : {name : List ℕ} → IsIdentifier rest name → Lexeme rest (58 ∷ name) (kind.Symbol name)
  constant_symbol : {name : List ℕ} → IsConstant name → Lexeme rest (58 ∷ name) (kind.Symbol name)
  mark : (m : Mark) → Lexeme rest (mark_text m) (kind.Mark m)

-- the longest token that stands here
pub record Longest (bytes rest : List ℕ) (k : TokenKind) : Type 0 where
  pub lexeme : Lexeme rest bytes k
  pub longest : (other behind : List ℕ) (k' : TokenKind) → other ++ behind ≡ bytes ++ rest → Lexeme behind other k' → length other ≤ length bytes

-- no token stands at the front of these bytes
abbrev pub HasNoLexeme : List ℕ → Type 0
HasNoLexeme bytes = (front rest : List ℕ) (k : TokenKind) → front ++ rest ≡ bytes → Lexeme rest front k → ⊥
