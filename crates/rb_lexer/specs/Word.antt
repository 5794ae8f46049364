-- Words: identifiers, class names and keywords.
use Rattle.std.specs.Prelude.{◌≡◌, ℕ, ◌⊎◌, true, false, ◌||◌, ◌==◌, List, [], ◌∷◌, ◌++◌, codes}
use Rattle.std.specs.List.{list_all}
use Rattle.rb_lexer.specs.declared.token.Keyword.{Keyword}
use Rattle.rb_lexer.specs.declared.token.Keyword.TheVariants as word
use Rattle.rb_lexer.specs.Character.{is_lower, is_upper, is_word_part, begins_with}

-- a small letter or `_`, and then letters, digits and `_`
abbrev pub IsPlainName : List ℕ → Type 0
IsPlainName [] = ⊥
IsPlainName (b ∷ bs) = ((is_lower b || b == 95) ≡ true) × (list_all is_word_part bs ≡ true)

-- an identifier before what follows it: a plain name, with one `?` or `!` where no `=` follows that
pub data IsIdentifier (rest : List ℕ) : List ℕ → Type 0 where
  plain : {name : List ℕ} → IsPlainName name → IsIdentifier rest name
  marked : (name : List ℕ) (mark : ℕ) → IsPlainName name → (mark ≡ 63) ⊎ (mark ≡ 33) → begins_with 61 rest ≡ false → IsIdentifier rest (name ++ mark ∷ [])

-- a class name: a capital letter, and then letters, digits and `_`
abbrev pub IsConstant : List ℕ → Type 0
IsConstant [] = ⊥
IsConstant (b ∷ bs) = (is_upper b ≡ true) × (list_all is_word_part bs ≡ true)

-- how a keyword is written
abbrev pub keyword_text : Keyword → List ℕ
keyword_text word.Class = codes "class"
keyword_text word.Def = codes "def"
keyword_text word.End = codes "end"
keyword_text word.If = codes "if"
keyword_text word.Elsif = codes "elsif"
keyword_text word.Else = codes "else"
keyword_text word.Unless = codes "unless"
keyword_text word.While = codes "while"
keyword_text word.Until = codes "until"
keyword_text word.Then = codes "then"
keyword_text word.Do = codes "do"
keyword_text word.Return = codes "return"
keyword_text word.Break = codes "break"
keyword_text word.Next = codes "next"
keyword_text word.SelfRef = codes "self"
keyword_text word.True = codes "true"
keyword_text word.False = codes "false"
keyword_text word.Nil = codes "nil"
keyword_text word.Alias = codes "alias"
keyword_text word.And = codes "and"
keyword_text word.Begin = codes "begin"
keyword_text word.Case = codes "case"
keyword_text word.Defined = codes "defined?"
keyword_text word.Ensure = codes "ensure"
keyword_text word.For = codes "for"
keyword_text word.In = codes "in"
keyword_text word.Module = codes "module"
keyword_text word.Not = codes "not"
keyword_text word.Or = codes "or"
keyword_text word.Redo = codes "redo"
keyword_text word.Rescue = codes "rescue"
keyword_text word.Retry = codes "retry"
keyword_text word.Super = codes "super"
keyword_text word.Undef = codes "undef"
keyword_text word.When = codes "when"
keyword_text word.Yield = codes "yield"
