-- Where the tokens of a source stand, and what each of them is.
use Rattle.std.specs.Prelude.{◌≡◌, ◌≢◌, ℕ, ◌-◌, ◌≤◌, ◌<◌, pos, ◌≤ℤ◌, true, List, [], ◌∷◌, ◌++◌, take, drop}
use Rattle.rb_lexer.specs.declared.token.Token.{Token}
use Rattle.rb_lexer.specs.declared.token.TokenKind.{TokenKind}
use Rattle.rb_lexer.specs.declared.token.TokenKind.TheVariants as kind
use Rattle.rb_lexer.specs.Character.{is_blank, is_line_end}
use Rattle.rb_lexer.specs.Tokens.{IsComment}

-- tokens from a place up to another, each behind the one before it
abbrev pub StandInOrder : (from to : ℕ) → List Token → Type 0
StandInOrder from to [] = from ≤ to
StandInOrder from to (t ∷ ts) = (from ≤ t.at.from) × (t.at.from ≤ t.at.to) × StandInOrder t.at.to to ts

-- the last token is the one end
abbrev pub EndsOnce : List Token → Type 0
EndsOnce [] = ⊥
EndsOnce (t ∷ []) = t.kind ≡ kind.End
EndsOnce (t ∷ u ∷ ts) = (t.kind ≢ kind.End) × EndsOnce (u ∷ ts)

-- an integer is not negative
abbrev pub IsNaturalKind : TokenKind → Type 0
IsNaturalKind (kind.Int value) = pos 0 ≤ℤ value
IsNaturalKind k = Unit {0}

abbrev pub IsNatural : Token → Type 0
IsNatural t = IsNaturalKind t.kind

-- a token that is not the end has a byte at least
abbrev pub NotEmpty : Token → Type 0
NotEmpty t = t.kind ≢ kind.End → t.at.from < t.at.to

-- Bytes that are no token, and what stands behind them: white space, comments and line ends, in any order. A comment ends before a line feed or with the source.
pub data IsBetween (behind : List ℕ) : List ℕ → Type 0 where
  nothing : IsBetween behind []
  blank : {b : ℕ} {rest : List ℕ} → is_blank b ≡ true → IsBetween behind rest → IsBetween behind (b ∷ rest)
  line_end : {b : ℕ} {rest : List ℕ} → is_line_end b ≡ true → IsBetween behind rest → IsBetween behind (b ∷ rest)
  comment : (bytes rest : List ℕ) → IsComment bytes (rest ++ behind) → IsBetween behind rest → IsBetween behind (bytes ++ rest)

-- From a place on, nothing but such bytes stands before each token and behind the last.
abbrev pub AllBetween : List ℕ → (from : ℕ) → List Token → Type 0
AllBetween source from [] = IsBetween [] (drop from source)
AllBetween source from (t ∷ ts) = IsBetween (drop t.at.from source) (take (t.at.from - from) (drop from source)) × AllBetween source t.at.to ts
