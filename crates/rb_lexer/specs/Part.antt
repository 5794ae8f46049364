-- What stands in a text between its quotes, up to its end, to code, or to an escape that there isn't.
use Rattle.std.specs.Prelude.{◌≡◌, ℕ, Bool, true, false, not, ◌&&◌, ◌||◌, ◌==◌, if◌then◌else◌, List, [], ◌∷◌, ◌++◌, Option, Some, None, is_some}
use Rattle.rb_lexer.specs.declared.mode.Quote.{Quote}
use Rattle.rb_lexer.specs.declared.mode.Quote.TheVariants as quote
use Rattle.rb_lexer.specs.Character.{begins_with}

-- the quote that opens and closes a text
abbrev pub quote_mark : Quote → ℕ
quote_mark quote.Single = 39
quote_mark quote.Double = 34

-- the character that `\` and this one stand for
abbrev pub escaped : Quote → ℕ → Option ℕ
escaped quote.Single e = if e == 39 || e == 92 then Some e else None
escaped quote.Double e =
    if e == 110 then Some 10 else (if e == 116 then Some 9 else (if e == 34 || e == 92 || e == 35 then Some e else None))

-- whether bytes begin with an escape
abbrev pub begins_escape : Quote → List ℕ → Bool
begins_escape q [] = false
begins_escape q (b ∷ []) = false
begins_escape q (b ∷ e ∷ bs) = b == 92 && is_some (escaped q e)

-- whether bytes begin with `#{`, behind which code stands
abbrev pub begins_code : Quote → List ℕ → Bool
begins_code quote.Single bytes = false
begins_code quote.Double [] = false
begins_code quote.Double (b ∷ bs) = b == 35 && begins_with 123 bs

-- Whether the first of these bytes stands for itself. In `'` a `\` that begins no escape does.
abbrev pub begins_plain : Quote → List ℕ → Bool
begins_plain q [] = false
begins_plain quote.Single (b ∷ bs) = not (b == 39) && not (begins_escape quote.Single (b ∷ bs))
begins_plain quote.Double (b ∷ bs) = not (b == 34) && not (b == 92) && not (begins_code quote.Double (b ∷ bs))

-- The longest part of a text at the front of bytes: its source, what follows, and the characters that it stands for.
pub data Part (q : Quote) (rest : List ℕ) : List ℕ → List ℕ → Type 0 where
  stop : begins_plain q rest ≡ false → begins_escape q rest ≡ false → Part q rest [] []
  plain : {b : ℕ} {source text : List ℕ} → begins_plain q (b ∷ source ++ rest) ≡ true → Part q rest source text → Part q rest (b ∷ source) (b ∷ text)
  escape : {e c : ℕ} {source text : List ℕ} → escaped q e ≡ Some c → Part q rest source text → Part q rest (92 ∷ e ∷ source) (c ∷ text)
