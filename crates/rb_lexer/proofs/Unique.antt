-- A source has one outcome at most.
use Rattle.std.proofs.Common.{◌≡◌, ℕ, zero, ◌+◌, ◌<◌, ◌≤◌, pos, Bool, true, false, not, cond, List, [], ◌∷◌, ◌++◌, length, take, drop, None, Ok, Err, refl, ap, sym, ◌∙◌, subst, inl, inr, ◌⊎◌, arith}
use Rattle.std.specs.Prelude.{◌&&◌, ◌||◌, ◌==◌, is_some}
use Rattle.std.specs.List.{list_all, prefix_len}
use Rattle.std.proofs.lemmas.Str.{utf8_valid_len-IsUtf8, utf8_valid_len-IsValidUpTo}
use Rattle.std.proofs.lemmas.List.{take_at, drop_at}
use Rattle.std.proofs.lemmas.Bool.{false≢true, cond-true, cond-false, or_left, and_parts, ne_eqb}
use Rattle.std.proofs.lemmas.Bool.Decides.{nat_tests}
use Rattle.rb_lexer.specs.declared.token.TokenKind.{TokenKind}
use Rattle.rb_lexer.specs.declared.token.TokenKind.TheVariants as kind
use Rattle.rb_lexer.specs.declared.token.Mark.TheVariants as mark
use Rattle.rb_lexer.specs.declared.fault.LexFault.TheVariants as fault
use Rattle.rb_lexer.specs.declared.mode.Quote.{Quote}
use Rattle.rb_lexer.specs.declared.mode.Quote.TheVariants as quote
use Rattle.rb_lexer.specs.declared.mode.Mode.{Mode}
use Rattle.rb_lexer.specs.declared.mode.Mode.TheVariants.{Code, Text}
use Rattle.rb_lexer.specs.Character.{is_blank, is_line_end, begins_with}
use Rattle.rb_lexer.specs.Integer.{max_integer, joins_integer}
use Rattle.rb_lexer.specs.Lexeme.{Lexeme, Longest, mark}
use Rattle.rb_lexer.specs.Part.{Part, stop, plain, escape, quote_mark, begins_plain, begins_escape, escaped}
use Rattle.rb_lexer.specs.Modes.{ends_code, braces_after, open_text}
use Rattle.rb_lexer.specs.Tokens.{Outcome, behind, token_at, settled, MayStand, IsComment, BeginsNothing, Lexes, too_large, not_utf8, read, Reads, end, blank, comment, line_end, lexeme, text, code_end, too_wide, joined, nothing, code_open, text_end, part, code, bad_escape, text_open, escape_open}
use Rattle.rb_lexer.specs.Turns.{comment_byte}
use Rattle.rb_lexer.proofs.OneKind.{one_kind, may_begin, begins_token, lexeme-begins, sort_of, lexeme-sort}
use Rattle.rb_lexer.proofs.Parts.{part-unique}

-- two cuts of the same bytes at the same place
pub record SameCut (front front' rest rest' : List ℕ) : Type 0 where
  pub fronts : front ≡ front'
  pub rests : rest ≡ rest'

pub same-cut : (front rest front' rest' : List ℕ) → front ++ rest ≡ front' ++ rest' → length front ≡ length front' → SameCut front front' rest rest'
same-cut front rest front' rest' e l = record {
  fronts = sym (take_at front rest (length front') l) ∙ ap (take (length front')) e ∙ take_at front' rest' (length front') refl;
  rests = sym (drop_at front rest (length front') l) ∙ ap (drop (length front')) e ∙ drop_at front' rest' (length front') refl;
}

-- the longest token is one only
pub longest-unique : {front rest front' rest' : List ℕ} {k k' : TokenKind} → Longest front rest k → Longest front' rest' k' → front ++ rest ≡ front' ++ rest' → SameCut front front' rest rest'
longest-unique {front} {rest} {front'} {rest'} {k} {k'} l m e =
    let a = l.longest front' rest' k' (sym e) m.lexeme in
    let b = m.longest front rest k e l.lexeme in
    same-cut front rest front' rest' e (omega arith)

longest-kind : {front rest front' rest' : List ℕ} {k k' : TokenKind} → Longest front rest k → Longest front' rest' k' → front ++ rest ≡ front' ++ rest' → k ≡ k'
longest-kind l m e = one_kind l.lexeme m.lexeme (longest-unique l m e).fronts

-- how long a comment is
comment-stops : (rest : List ℕ) → (rest ≡ []) ⊎ (begins_with 10 rest ≡ true) → prefix_len comment_byte rest ≡ 0
comment-stops [] h = refl
comment-stops (b ∷ bs) h = elim h [ inl e ↦ absurd (cc) | inr e ↦ ap (λ t. cond (not t) (1 + prefix_len comment_byte bs) 0) e ]

comment-run : (bytes rest : List ℕ) → list_all comment_byte bytes ≡ true → (rest ≡ []) ⊎ (begins_with 10 rest ≡ true) → prefix_len comment_byte (bytes ++ rest) ≡ length bytes
comment-run [] rest a h = comment-stops rest h
comment-run (b ∷ bs) rest a h =
    let s = and_parts (comment_byte b) (list_all comment_byte bs) a in
    let e = comment-run bs rest s.1 h in
    let n : 1 + prefix_len comment_byte (bs ++ rest) ≡ length (b ∷ bs) = omega arith in
    ap (λ t. cond t (1 + prefix_len comment_byte (bs ++ rest)) 0) s.0 ∙ n

comment-unique : {bytes rest bytes' rest' : List ℕ} → IsComment bytes rest → IsComment bytes' rest' → bytes ++ rest ≡ bytes' ++ rest' → SameCut bytes bytes' rest rest'
comment-unique {bytes} {rest} {bytes'} {rest'} c d e =
    same-cut bytes rest bytes' rest' e (sym (comment-run bytes rest c.line c.ended) ∙ ap (prefix_len comment_byte) e ∙ comment-run bytes' rest' d.line d.ended)

-- which rule reads code that begins with a character
abbrev code_rule : (braces : ℕ) (below : List Mode) (b : ℕ) → ℕ
code_rule braces below b =
    cond (is_blank b) 2 (cond (is_line_end b) 3 (cond (b == 35) 4 (cond (b == 39 || b == 34) 5 (cond (b == 125 && ends_code braces below) 6 7))))

-- a `\` alone, or with a character behind it
abbrev slash_rule : List ℕ → ℕ
slash_rule [] = 13
slash_rule (b ∷ bs) = 12

-- which rule reads a text that begins with a character
abbrev text_rule : Quote → (b : ℕ) → List ℕ → ℕ
text_rule q b bs =
    cond (b == quote_mark q) 9 (cond (begins_plain q (b ∷ bs) || begins_escape q (b ∷ bs)) 10 (cond (b == 35) 11 (slash_rule bs)))

-- which rule reads bytes
abbrev rule_of : List Mode → List ℕ → ℕ
rule_of [] bytes = 99
rule_of (Code braces ∷ []) [] = 0
rule_of (Code braces ∷ m ∷ below) [] = 1
rule_of (Code braces ∷ below) (b ∷ bs) = code_rule braces below b
rule_of (Text q p ∷ below) [] = 8
rule_of (Text q p ∷ below) (b ∷ bs) = text_rule q b bs

-- the rule that was used
abbrev rule_used : {modes : List Mode} {at : ℕ} {spaced : Bool} {source : List ℕ} {o : Outcome} → Reads modes at spaced source o → ℕ
rule_used end = 0
rule_used (blank h r) = 2
rule_used (comment c r) = 4
rule_used (line_end h r) = 3
rule_used (lexeme l m e r) = 7
rule_used (text q r) = 5
rule_used (code_end r) = 6
rule_used (too_wide l h) = 7
rule_used (joined l h j) = 7
rule_used (nothing n) = 7
rule_used code_open = 1
rule_used (text_end r) = 9
rule_used (part p r) = 10
rule_used (code r) = 11
rule_used (bad_escape h) = 12
rule_used text_open = 8
rule_used escape_open = 13

code-first : (braces : ℕ) (below : List Mode) (b : ℕ) (bs : List ℕ) → rule_of (Code braces ∷ below) (b ∷ bs) ≡ code_rule braces below b
code-first braces [] b bs = refl
code-first braces (m ∷ below) b bs = refl

line-blank : (b : ℕ) → is_line_end b ≡ true → is_blank b ≡ false
line-blank b h = grind (arith, nat_tests)

rule-blank : (braces : ℕ) (below : List Mode) (b : ℕ) → is_blank b ≡ true → code_rule braces below b ≡ 2
rule-blank braces below b h = cond-true (is_blank b) _ _ h

rule-line_end : (braces : ℕ) (below : List Mode) (b : ℕ) → is_line_end b ≡ true → code_rule braces below b ≡ 3
rule-line_end braces below b h = cond-false (is_blank b) _ _ (line-blank b h) ∙ cond-true (is_line_end b) _ _ h

rule-comment : (braces : ℕ) (below : List Mode) (bytes rest : List ℕ) → begins_with 35 bytes ≡ true → rule_of (Code braces ∷ below) (bytes ++ rest) ≡ 4
rule-comment braces below [] rest h = absurd (false≢true h)
rule-comment braces below (b ∷ bs) rest h =
    let e : b ≡ 35 = grind (arith, nat_tests) in code-first braces below b (bs ++ rest) ∙ ap (code_rule braces below) e

-- a character that may begin a token, and ends no code in a text
rule-front : (braces : ℕ) (below : List Mode) (b : ℕ) → may_begin b ≡ true → (b == 125 && ends_code braces below) ≡ false → code_rule braces below b ≡ 7
rule-front braces below b h e =
    let p : is_blank b ≡ false = grind (arith, nat_tests) in
    let q : is_line_end b ≡ false = grind (arith, nat_tests) in
    let r : (b == 35) ≡ false = grind (arith, nat_tests) in
    let s : (b == 39 || b == 34) ≡ false = grind (arith, nat_tests) in
    cond-false (is_blank b) _ _ p ∙ cond-false (is_line_end b) _ _ q ∙ cond-false (b == 35) _ _ r ∙ cond-false (b == 39 || b == 34) _ _ s
    ∙ cond-false (b == 125 && ends_code braces below) _ _ e

brace-guarded : (t u : Bool) → (t ≡ true → u ≡ false) → (t && u) ≡ false
brace-guarded true u h = h refl
brace-guarded false u h = refl

rule-token : (braces : ℕ) (below : List Mode) (bytes rest : List ℕ) → begins_token bytes ≡ true → (begins_with 125 bytes ≡ true → ends_code braces below ≡ false)
    → rule_of (Code braces ∷ below) (bytes ++ rest) ≡ 7
rule-token braces below [] rest h e = absurd (false≢true h)
rule-token braces below (b ∷ bs) rest h e = code-first braces below b (bs ++ rest) ∙ rule-front braces below b h (brace-guarded (b == 125) (ends_code braces below) e)

-- a token that is an integer begins with no brace
integer-brace : {rest bytes : List ℕ} {n : ℕ} → Lexeme rest bytes (kind.Int (pos n)) → begins_with 125 bytes ≡ true → ⊥
integer-brace {rest} {bytes} {n} l h = no bytes l h where
  no : (bytes : List ℕ) → Lexeme rest bytes (kind.Int (pos n)) → begins_with 125 bytes ≡ true → ⊥
  no [] l h = false≢true h
  no (b ∷ bs) l h =
      let e : b ≡ 125 = grind (arith, nat_tests) in
      let s : 7 ≡ 0 = ap (λ x. sort_of (x ∷ bs)) (sym e) ∙ lexeme-sort l in
      omega (arith, s)

nothing-front : (b : ℕ) (rest : List ℕ) → BeginsNothing b rest → may_begin b ≡ true
nothing-front b rest n =
    let p = n.no_blank in
    let q = n.no_line_end in
    let r = n.no_comment in
    let s = n.no_text quote.Single in
    let t = n.no_text quote.Double in
    grind (arith, nat_tests)

nothing-brace : (b : ℕ) (rest : List ℕ) → BeginsNothing b rest → (b == 125) ≡ false
nothing-brace b rest n =
    ne_eqb b 125 (λ e. n.no_lexeme (125 ∷ []) rest (kind.Mark mark.CloseBrace) (ap (λ x. x ∷ rest) (sym e)) (mark mark.CloseBrace))

and-first-false : (t u : Bool) → t ≡ false → (t && u) ≡ false
and-first-false true u h = absurd (false≢true (sym h))
and-first-false false u h = refl

rule-text_end : (q : Quote) (p : ℕ) (below : List Mode) (rest : List ℕ) → rule_of (Text q p ∷ below) (quote_mark q ∷ rest) ≡ 9
rule-text_end quote.Single p below rest = refl
rule-text_end quote.Double p below rest = refl

rule-text : (q : Quote) (braces : ℕ) (below : List Mode) (rest : List ℕ) → rule_of (Code braces ∷ below) (quote_mark q ∷ rest) ≡ 5
rule-text quote.Single braces below rest = code-first braces below 39 rest
rule-text quote.Double braces below rest = code-first braces below 34 rest

-- a quote is neither plain nor an escape
quote-plain : (q : Quote) (bs : List ℕ) → begins_plain q (quote_mark q ∷ bs) ≡ false
quote-plain quote.Single bs = refl
quote-plain quote.Double bs = refl

quote-escape : (q : Quote) (bs : List ℕ) → begins_escape q (quote_mark q ∷ bs) ≡ false
quote-escape quote.Single [] = refl
quote-escape quote.Single (b ∷ bs) = refl
quote-escape quote.Double [] = refl
quote-escape quote.Double (b ∷ bs) = refl

or-second : (t u : Bool) → u ≡ true → (t || u) ≡ true
or-second true u h = refl
or-second false u h = h

part-not_quote : (q : Quote) (b : ℕ) (bs : List ℕ) → (begins_plain q (b ∷ bs) ≡ true) ⊎ (begins_escape q (b ∷ bs) ≡ true) → (b == quote_mark q) ≡ false
part-not_quote q b bs h =
    ne_eqb b (quote_mark q) (λ e. elim h [
      | inl p ↦ false≢true (sym (quote-plain q bs) ∙ ap (λ x. begins_plain q (x ∷ bs)) (sym e) ∙ p)
      | inr p ↦ false≢true (sym (quote-escape q bs) ∙ ap (λ x. begins_escape q (x ∷ bs)) (sym e) ∙ p)
    ])

text-part : (q : Quote) (p : ℕ) (below : List Mode) (b : ℕ) (bs : List ℕ) → (begins_plain q (b ∷ bs) ≡ true) ⊎ (begins_escape q (b ∷ bs) ≡ true) → rule_of (Text q p ∷ below) (b ∷ bs) ≡ 10
text-part q p below b bs h =
    let any : (begins_plain q (b ∷ bs) || begins_escape q (b ∷ bs)) ≡ true
    = elim h [ inl e ↦ or_left (begins_plain q (b ∷ bs)) (begins_escape q (b ∷ bs)) e | inr e ↦ or-second (begins_plain q (b ∷ bs)) (begins_escape q (b ∷ bs)) e ] in
    cond-false (b == quote_mark q) _ _ (part-not_quote q b bs h) ∙ cond-true (begins_plain q (b ∷ bs) || begins_escape q (b ∷ bs)) _ _ any

-- what a part begins with
part-first : {q : Quote} {rest source text : List ℕ} → Part q rest source text → (b : ℕ) (bs : List ℕ) → source ≡ b ∷ bs
    → (begins_plain q (b ∷ bs ++ rest) ≡ true) ⊎ (begins_escape q (b ∷ bs ++ rest) ≡ true)
part-first (stop n m) b bs e = absurd (cc)
part-first {q} {rest} (plain {b = c} {source = s} p t) b bs e = inl (ap (λ xs. begins_plain q (xs ++ rest)) (sym e) ∙ p)
part-first {q} {rest} (escape {e = x} {c = c} {source = s} h t) b bs e = inr (ap (λ xs. begins_escape q (xs ++ rest)) (sym e) ∙ ap is_some h)

rule-code : (p : ℕ) (below : List Mode) (rest : List ℕ) → rule_of (Text quote.Double p ∷ below) (35 ∷ 123 ∷ rest) ≡ 11
rule-code p below rest = refl

rule-bad_escape : (p e : ℕ) (below : List Mode) (rest : List ℕ) → escaped quote.Double e ≡ None → rule_of (Text quote.Double p ∷ below) (92 ∷ e ∷ rest) ≡ 12
rule-bad_escape p e below rest h = ap (λ o. cond (is_some o) 10 12) h

-- the bytes settle the rule
rule-is : {modes : List Mode} {at : ℕ} {spaced : Bool} {source : List ℕ} {o : Outcome} → (r : Reads modes at spaced source o) → rule_used r ≡ rule_of modes source
rule-is end = refl
rule-is (blank {braces = n} {b = b} {below = ms} {rest = xs} h r) = sym (code-first n ms b xs ∙ rule-blank n ms b h)
rule-is (comment {braces = n} {below = ms} {bytes = bs} {rest = xs} c r) = sym (rule-comment n ms bs xs c.hash)
rule-is (line_end {braces = n} {b = b} {below = ms} {rest = xs} h r) = sym (code-first n ms b xs ∙ rule-line_end n ms b h)
rule-is (lexeme {braces = n} {below = ms} {bytes = bs} {rest = xs} l m e r) = sym (rule-token n ms bs xs (lexeme-begins l.lexeme) e)
rule-is (text q {braces = n} {below = ms} {rest = xs} r) = sym (rule-text q n ms xs)
rule-is (code_end r) = refl
rule-is (too_wide {braces = n} {below = ms} {bytes = bs} {rest = xs} l h) = sym (rule-token n ms bs xs (lexeme-begins l.lexeme) (λ e. absurd (integer-brace l.lexeme e)))
rule-is (joined {braces = n} {below = ms} {bytes = bs} {rest = xs} l h j) = sym (rule-token n ms bs xs (lexeme-begins l.lexeme) (λ e. absurd (integer-brace l.lexeme e)))
rule-is (nothing {braces = n} {b = b} {below = ms} {rest = xs} h) =
    sym (code-first n ms b xs ∙ rule-front n ms b (nothing-front b xs h) (and-first-false (b == 125) (ends_code n ms) (nothing-brace b xs h)))
rule-is code_open = refl
rule-is (text_end {q = q} {p = p} {below = ms} {rest = xs} r) = sym (rule-text_end q p ms xs)
rule-is (part {q = q} {p = p} {b = b} {below = ms} {source = s} {rest = xs} t r) = sym (text-part q p ms b (s ++ xs) (part-first t b s refl))
rule-is (code {p = p} {below = ms} {rest = xs} r) = refl
rule-is (bad_escape {p = p} {e = e} {below = ms} {rest = xs} h) = sym (rule-bad_escape p e ms xs h)
rule-is text_open = refl
rule-is escape_open = refl

quote-same : (q q' : Quote) → quote_mark q ≡ quote_mark q' → q ≡ q'
quote-same quote.Single quote.Single e = refl
quote-same quote.Single quote.Double e = absurd (omega (arith, e))
quote-same quote.Double quote.Single e = absurd (omega (arith, e))
quote-same quote.Double quote.Double e = refl

int-same : {m n : ℕ} → kind.Int (pos m) ≡ kind.Int (pos n) → m ≡ n
int-same e = cc

-- a token that may stand is no integer that is too wide or joined
stand-int : (rest : List ℕ) (k : TokenKind) (n : ℕ) → k ≡ kind.Int (pos n) → MayStand k rest → (n ≤ max_integer) × (joins_integer rest ≡ false)
stand-int rest k n e f = subst (λ (j : TokenKind). MayStand j rest) e f

stand-wide : {front rest front' rest' : List ℕ} {k : TokenKind} {n : ℕ} → Longest front rest k → Longest front' rest' (kind.Int (pos n)) → MayStand k rest → front ++ rest ≡ front' ++ rest'
    → max_integer < n → ⊥
stand-wide {rest = r} {k = k} {n = n} l l' f e h = let s = (stand-int r k n (longest-kind l l' e) f).0 in omega (arith, s)

stand-joined : {front rest front' rest' : List ℕ} {k : TokenKind} {n : ℕ} → Longest front rest k → Longest front' rest' (kind.Int (pos n)) → MayStand k rest → front ++ rest ≡ front' ++ rest'
    → joins_integer rest' ≡ true → ⊥
stand-joined {rest = r} {k = k} {n = n} l l' f e j =
    let s = (stand-int r k n (longest-kind l l' e) f).1 in false≢true (sym s ∙ ap joins_integer (longest-unique l l' e).rests ∙ j)

pub unique : {modes modes' : List Mode} {at at' : ℕ} {spaced spaced' : Bool} {source source' : List ℕ} {o o' : Outcome} → Reads modes at spaced source o → Reads modes' at' spaced' source' o'
    → modes ≡ modes' → at ≡ at' → spaced ≡ spaced' → source ≡ source' → o ≡ o'
unique {at' = n'} {spaced = t} end end m a s e = ap (λ x. Ok (token_at kind.End x 0 t ∷ [])) a ∙ ap (λ x. Ok (token_at kind.End n' 0 x ∷ [])) s
unique (blank h r) (blank h' r') m a s e = unique r r' m (ap (λ n. n + 1) a) refl (cc)
unique {at' = n'} (comment {bytes = b} {rest = r} c t) (comment {bytes = b'} {rest = r'} c' t') m a s e =
    let u = comment-unique c c' e in unique t t' m (ap (λ x. x + length b) a ∙ ap (λ xs. n' + length xs) u.fronts) refl u.rests
unique {at = n} {at' = n'} {spaced = s} {spaced' = s'} (line_end {o = o} h r) (line_end {o = o'} h' r') m a t e =
    ap (λ x. behind (token_at kind.Newline n 1 s) x) (unique r r' m (ap (λ x. x + 1) a) refl (cc))
    ∙ ap (λ x. behind (token_at kind.Newline x 1 s) o') a ∙ ap (λ x. behind (token_at kind.Newline n' 1 x) o') t
unique {at = n} {at' = n'} {spaced = s} {spaced' = s'} (lexeme {braces = w} {below = v} {bytes = b} {rest = r} {k = k} {o = o} l f g t) (lexeme {braces = w'} {below = v'} {bytes = b'} {rest = r'} {k = k'} {o = o'} l' f' g' t') m a u e =
    let c = longest-unique l l' e in
    let same = longest-kind l l' e in
    let braces : w ≡ w' = cc in
    let below : v ≡ v' = cc in
    let modes : Code (braces_after k w) ∷ v ≡ Code (braces_after k' w') ∷ v' = ap (λ x. Code (braces_after x w) ∷ v) same ∙ ap (λ x. Code (braces_after k' x) ∷ v) braces ∙ ap (λ x. Code (braces_after k' w') ∷ x) below in
    let here : n + length b ≡ n' + length b' = ap (λ x. x + length b) a ∙ ap (λ xs. n' + length xs) c.fronts in
    ap (λ x. behind (token_at k n (length b) s) x) (unique t t' modes here refl c.rests)
    ∙ ap (λ x. behind (token_at x n (length b) s) o') same ∙ ap (λ x. behind (token_at k' x (length b) s) o') a
    ∙ ap (λ x. behind (token_at k' n' (length x) s) o') c.fronts ∙ ap (λ x. behind (token_at k' n' (length b') x) o') u
unique {at = n} {at' = n'} {spaced = s} {spaced' = s'} (text q {braces = w} {below = v} {rest = r} {o = o} t) (text q' {braces = w'} {below = v'} {rest = r'} {o = o'} t') m a u e =
    let same : quote_mark q ≡ quote_mark q' = cc in
    let quotes : q ≡ q' = quote-same q q' same in
    let modes : Text q n ∷ Code w ∷ v ≡ Text q' n' ∷ Code w' ∷ v' = ap (λ x. Text x n ∷ Code w ∷ v) quotes ∙ ap (λ x. Text q' x ∷ Code w ∷ v) a ∙ ap (λ x. Text q' n' ∷ x) m in
    ap (λ x. behind (token_at kind.TextOpen n 1 s) x) (unique t t' modes (ap (λ x. x + 1) a) refl (cc))
    ∙ ap (λ x. behind (token_at kind.TextOpen x 1 s) o') a ∙ ap (λ x. behind (token_at kind.TextOpen n' 1 x) o') u
unique {at = n} {at' = n'} {spaced = s} {spaced' = s'} (code_end {m = i} {below = v} {rest = r} {o = o} t) (code_end {m = i'} {below = v'} {rest = r'} {o = o'} t') m a u e =
    let modes : i ∷ v ≡ i' ∷ v' = cc in
    ap (λ x. behind (token_at kind.CodeClose n 1 s) x) (unique t t' modes (ap (λ x. x + 1) a) refl (cc))
    ∙ ap (λ x. behind (token_at kind.CodeClose x 1 s) o') a ∙ ap (λ x. behind (token_at kind.CodeClose n' 1 x) o') u
unique (too_wide l h) (too_wide l' h') m a u e = ap (λ x. Err (fault.IntegerTooWide x)) a
unique {at = n} {at' = n'} (joined {bytes = b} l h j) (joined {bytes = b'} l' h' j') m a u e =
    ap (λ x. Err (fault.BadCharacter (x + length b))) a ∙ ap (λ x. Err (fault.BadCharacter (n' + length x))) (longest-unique l l' e).fronts
unique (nothing h) (nothing h') m a u e = ap (λ x. Err (fault.BadCharacter x)) a
unique (too_wide {n = i} l h) (joined {n = i'} l' h' j') m a u e = absurd (let s = int-same (longest-kind l l' e) in omega (arith, s))
unique (joined {n = i} l h j) (too_wide {n = i'} l' h') m a u e = absurd (let s = int-same (longest-kind l l' e) in omega (arith, s))
unique (lexeme {rest = r} l f g t) (too_wide {n = i} l' h') m a u e = absurd (stand-wide l l' f e h')
unique (too_wide {n = i} l' h') (lexeme {rest = r} l f g t) m a u e = absurd (stand-wide l l' f (sym e) h')
unique (lexeme {rest = r} l f g t) (joined {n = i} l' h' j') m a u e = absurd (stand-joined l l' f e j')
unique (joined {n = i} l' h' j') (lexeme {rest = r} l f g t) m a u e = absurd (stand-joined l l' f (sym e) j')
unique (nothing h) (lexeme {bytes = b} {rest = r} {k = k} l f g t) m a u e = absurd (h.no_lexeme b r k (sym e) l.lexeme)
unique (nothing h) (too_wide {n = i} {bytes = b} {rest = r} l w) m a u e = absurd (h.no_lexeme b r (kind.Int (pos i)) (sym e) l.lexeme)
unique (nothing h) (joined {n = i} {bytes = b} {rest = r} l w j) m a u e = absurd (h.no_lexeme b r (kind.Int (pos i)) (sym e) l.lexeme)
unique (lexeme {bytes = b} {rest = r} {k = k} l f g t) (nothing h) m a u e = absurd (h.no_lexeme b r k e l.lexeme)
unique (too_wide {n = i} {bytes = b} {rest = r} l w) (nothing h) m a u e = absurd (h.no_lexeme b r (kind.Int (pos i)) e l.lexeme)
unique (joined {n = i} {bytes = b} {rest = r} l w j) (nothing h) m a u e = absurd (h.no_lexeme b r (kind.Int (pos i)) e l.lexeme)
unique code_open code_open m a u e = ap (λ x. Err (fault.UnclosedText (open_text x))) m
unique {at = n} {at' = n'} (text_end {below = v} {rest = r} {o = o} t) (text_end {below = v'} {rest = r'} {o = o'} t') m a u e =
    let modes : v ≡ v' = cc in
    ap (λ x. behind (token_at kind.TextClose n 1 false) x) (unique t t' modes (ap (λ x. x + 1) a) refl (cc)) ∙ ap (λ x. behind (token_at kind.TextClose x 1 false) o') a
unique {at = n} {at' = n'} (part {q = q} {p = p} {b = b} {source = s} {rest = r} {text = x} {o = o} d t) (part {q = q'} {p = p'} {b = b'} {source = s'} {rest = r'} {text = x'} {o = o'} d' t') m a u e =
    let quotes : q' ≡ q = cc in
    let c = part-unique d (subst (λ (z : Quote). Part z r' (b' ∷ s') x') quotes d') e in
    let len : length (b ∷ s) ≡ length (b' ∷ s') = ap length c.sources in
    let here : n + length (b ∷ s) ≡ n' + length (b' ∷ s') = ap (λ z. z + length (b ∷ s)) a ∙ ap (λ z. n' + z) len in
    ap (λ z. behind (token_at (kind.TextPiece x) n (length (b ∷ s)) false) z) (unique t t' m here refl c.rests)
    ∙ ap (λ z. behind (token_at (kind.TextPiece z) n (length (b ∷ s)) false) o') c.texts ∙ ap (λ z. behind (token_at (kind.TextPiece x') z (length (b ∷ s)) false) o') a
    ∙ ap (λ z. behind (token_at (kind.TextPiece x') n' z false) o') len
unique {at = n} {at' = n'} (code {p = p} {below = v} {rest = r} {o = o} t) (code {p = p'} {below = v'} {rest = r'} {o = o'} t') m a u e =
    ap (λ x. behind (token_at kind.CodeOpen n 2 false) x) (unique t t' (ap (λ x. Code zero ∷ x) m) (ap (λ x. x + 2) a) refl (cc))
    ∙ ap (λ x. behind (token_at kind.CodeOpen x 2 false) o') a
unique (bad_escape h) (bad_escape h') m a u e = ap (λ x. Err (fault.BadEscape x)) a
unique text_open text_open m a u e = ap (λ x. Err (fault.UnclosedText (open_text x))) m
unique escape_open escape_open m a u e = ap (λ x. Err (fault.UnclosedText (open_text x))) m
unique {modes} {modes'} {source = s} {source' = s'} r r' m a u e =
    absurd (let n : rule_used r ≡ rule_used r' = rule-is r ∙ ap (λ ms. rule_of ms s) m ∙ ap (rule_of modes') e ∙ sym (rule-is r') in omega (arith, n))

-- two outcomes of the same source are the same
pub reads-unique : {source : List ℕ} {o o' : Outcome} → Reads (Code zero ∷ []) 0 false source o → Reads (Code zero ∷ []) 0 false source o' → o ≡ o'
reads-unique r r' = unique r r' refl refl refl refl

pub lexes-unique : {source : List ℕ} {o o' : Outcome} → Lexes source o → Lexes source o' → o ≡ o'
lexes-unique (too_large h) (too_large h') = refl
lexes-unique (too_large h) (not_utf8 l v w) = absurd (omega arith)
lexes-unique (too_large h) (read l u r) = absurd (omega arith)
lexes-unique (not_utf8 l v w) (too_large h) = absurd (omega arith)
lexes-unique {source} (not_utf8 {n = n} l v w) (not_utf8 {n = n'} l' v' w') =
    ap (λ x. Err (fault.NotUtf8 x)) (sym (utf8_valid_len-IsValidUpTo source n v) ∙ utf8_valid_len-IsValidUpTo source n' v')
lexes-unique {source} (not_utf8 {n = n} l v w) (read l' u r) = absurd (let e = utf8_valid_len-IsValidUpTo source n v in let f = utf8_valid_len-IsUtf8 source u in omega (arith, e, f))
lexes-unique (read l u r) (too_large h) = absurd (omega arith)
lexes-unique {source} (read l u r) (not_utf8 {n = n} l' v w) = absurd (let e = utf8_valid_len-IsValidUpTo source n v in let f = utf8_valid_len-IsUtf8 source u in omega (arith, e, f))
lexes-unique (read l u r) (read l' u' r') = ap settled (reads-unique r r')
