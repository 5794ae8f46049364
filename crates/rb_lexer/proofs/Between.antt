-- Between the tokens of a source stand white space, comments and line ends alone.
use Rattle.std.proofs.Common.{◌≡◌, ℕ, ◌+◌, ◌-◌, ◌≤◌, Bool, true, false, cond, List, [], ◌∷◌, ◌++◌, length, take, drop, Ok, Err, Result, Vec, refl, sym, ap, ◌∙◌, subst, append_assoc, arith}
use Rattle.std.specs.Prelude.{IfOk}
use Rattle.std.proofs.lemmas.List.{take-append-drop, drop-drop, append-nil}
use Rattle.std.proofs.Math.Seq.{take-add, take-append_seam, drop-append_seam}
use Rattle.std.specs.declared.alloc.Global.{Global}
use Rattle.rb_lexer.specs.declared.token.Token.{Token}
use Rattle.rb_lexer.specs.declared.token.TokenKind.{TokenKind}
use Rattle.rb_lexer.specs.declared.token.TokenKind.TheVariants as kind
use Rattle.rb_lexer.specs.declared.fault.LexFault.{LexFault}
use Rattle.rb_lexer.specs.declared.mode.Mode.{Mode}
use Rattle.rb_lexer.specs.Character.{is_blank, is_line_end}
use Rattle.rb_lexer.specs.Lexeme.{Lexeme, int, keyword, identifier, label, constant, field, global, symbol, constant_symbol, mark}
use Rattle.rb_lexer.specs.Newlines.{is_newline, drops_newline, closing_next, without_dropped}
use Rattle.rb_lexer.specs.Part.{quote_mark}
use Rattle.rb_lexer.specs.Spans.{StandInOrder, IsBetween, AllBetween}
use Rattle.rb_lexer.specs.Spans as gap
use Rattle.rb_lexer.specs.Tokens.{IsComment, Outcome, behind, token_at, settled, Answers, Lexes, too_large, not_utf8, read, Reads, end, blank, comment, line_end, lexeme, text, code_end, too_wide, joined, nothing, code_open, text_end, part, code, bad_escape, text_open, escape_open}
use Rattle.rb_lexer.proofs.SpanOrder.{InOrder, reads-order, dropped-order}

-- what stands from a place up to another is no token
abbrev pub Gap : List ℕ → (from to : ℕ) → Type 0
Gap source from to = IsBetween (drop to source) (take (to - from) (drop from source))

between-append : {after b a : List ℕ} → IsBetween (b ++ after) a → IsBetween after b → IsBetween after (a ++ b)
between-append gap.nothing k = k
between-append (gap.blank h t) k = gap.blank h (between-append t k)
between-append (gap.line_end h t) k = gap.line_end h (between-append t k)
between-append {after} {b = b} (gap.comment bytes rest c t) k =
    subst (λ (s : List ℕ). IsBetween after s) (sym (append_assoc bytes rest b))
    (gap.comment bytes (rest ++ b) (subst (λ (s : List ℕ). IsComment bytes s) (sym (append_assoc rest b after)) c) (between-append t k))

drop-from : (source : List ℕ) (from to : ℕ) → from ≤ to → drop (to - from) (drop from source) ≡ drop to source
drop-from s from to h = let e : from + (to - from) ≡ to = omega arith in drop-drop (to - from) from s ∙ ap (λ (n : ℕ). drop n s) e

take-drop-from : (source : List ℕ) (from to : ℕ) → from ≤ to → take (to - from) (drop from source) ++ drop to source ≡ drop from source
take-drop-from s from to h = ap (λ (x : List ℕ). take (to - from) (drop from s) ++ x) (sym (drop-from s from to h)) ∙ take-append-drop (to - from) (drop from s)

take-from : (source : List ℕ) (from mid to : ℕ) → from ≤ mid → mid ≤ to → take (to - from) (drop from source) ≡ take (mid - from) (drop from source) ++ take (to - mid) (drop mid source)
take-from s from mid to h k =
    let e : to - from ≡ mid - from + (to - mid) = omega arith in
    ap (λ (n : ℕ). take n (drop from s)) e ∙ (take-add (mid - from) (to - mid) (drop from s) ∙ ap (λ (x : List ℕ). take (mid - from) (drop from s) ++ take (to - mid) x) (drop-from s from mid h))

gap-join : (source : List ℕ) (from mid to : ℕ) → from ≤ mid → mid ≤ to → Gap source from mid → Gap source mid to → Gap source from to
gap-join s from mid to h k x y =
    subst (λ (z : List ℕ). IsBetween (drop to s) z) (sym (take-from s from mid to h k))
    (between-append (subst (λ (z : List ℕ). IsBetween z (take (mid - from) (drop from s))) (sym (take-drop-from s mid to k)) x) y)

gap-empty : (source : List ℕ) (at : ℕ) → Gap source at at
gap-empty s n = let e : n - n ≡ 0 = omega arith in subst (λ (m : ℕ). IsBetween (drop n s) (take m (drop n s))) (sym e) gap.nothing

drop-past : (source : List ℕ) (at : ℕ) (bytes rest : List ℕ) → drop at source ≡ bytes ++ rest → drop (at + length bytes) source ≡ rest
drop-past s n b r e = sym (drop-drop (length b) n s) ∙ (ap (λ (x : List ℕ). drop (length b) x) e ∙ drop-append_seam b r)

take-here : (source : List ℕ) (at : ℕ) (bytes rest : List ℕ) → drop at source ≡ bytes ++ rest → take (at + length bytes - at) (drop at source) ≡ bytes
take-here s n b r e =
    let d : n + length b - n ≡ length b = omega arith in
    ap (λ (m : ℕ). take m (drop n s)) d ∙ (ap (λ (x : List ℕ). take (length b) x) e ∙ take-append_seam b r)

gap-here : (source : List ℕ) (at : ℕ) (bytes rest : List ℕ) → drop at source ≡ bytes ++ rest → IsBetween rest bytes → Gap source at (at + length bytes)
gap-here s n b r e h =
    subst (λ (x : List ℕ). IsBetween (drop (n + length b) s) x) (sym (take-here s n b r e)) (subst (λ (x : List ℕ). IsBetween x b) (sym (drop-past s n b r e)) h)

gap-blank : (source : List ℕ) (at b : ℕ) (rest : List ℕ) → drop at source ≡ b ∷ rest → is_blank b ≡ true → Gap source at (at + 1)
gap-blank s n b r e h = gap-here s n (b ∷ []) r e (gap.blank h gap.nothing)

gap-line_end : (source : List ℕ) (at b : ℕ) (rest : List ℕ) → drop at source ≡ b ∷ rest → is_line_end b ≡ true → Gap source at (at + 1)
gap-line_end s n b r e h = gap-here s n (b ∷ []) r e (gap.line_end h gap.nothing)

between-comment : (bytes rest : List ℕ) → IsComment bytes rest → IsBetween rest bytes
between-comment b r c = subst (λ (x : List ℕ). IsBetween r x) (append-nil b) (gap.comment b [] c gap.nothing)

-- a token that may be dropped stands on bytes that are no token
abbrev pub NewlinesBetween : List ℕ → List Token → Type 0
NewlinesBetween source [] = Unit {0}
NewlinesBetween source (t ∷ ts) = (is_newline t.kind ≡ true → Gap source t.at.from t.at.to) × NewlinesBetween source ts

abbrev pub Between : List ℕ → (from : ℕ) → Outcome → Type 0
Between source from (Ok tokens) = AllBetween source from tokens × NewlinesBetween source tokens
Between source from (Err f) = Unit {0}

all-wider : (source : List ℕ) (tokens : List Token) (from at to : ℕ) → from ≤ at → Gap source from at → StandInOrder at to tokens → AllBetween source at tokens → AllBetween source from tokens
all-wider s [] from n to h g o a =
    subst (λ (z : List ℕ). IsBetween [] z) (take-drop-from s from n h)
    (between-append (subst (λ (z : List ℕ). IsBetween z (take (n - from) (drop from s))) (sym (append-nil (drop n s))) g) a)
all-wider s (t ∷ ts) from n to h g o a = (gap-join s from n t.at.from h o.0 g a.0, a.1)

between-wider : (source : List ℕ) (o : Outcome) (from at to : ℕ) → from ≤ at → Gap source from at → InOrder at to o → Between source at o → Between source from o
between-wider s (Ok tokens) from n to h g o b = (all-wider s tokens from n to h g o b.0, b.1)
between-wider s (Err f) from n to h g o b = tt

between-behind : (source : List ℕ) (k : TokenKind) (at n : ℕ) (spaced : Bool) (o : Outcome) → (is_newline k ≡ true → Gap source at (at + n)) → Between source (at + n) o
    → Between source at (behind (token_at k at n spaced) o)
between-behind s k at n spaced (Ok tokens) h b = ((gap-empty s at, b.0), (h, b.1))
between-behind s k at n spaced (Err f) h b = tt

token-behind : (source : List ℕ) (k : TokenKind) (at : ℕ) (bytes : List ℕ) (spaced : Bool) (o : Outcome) → is_newline k ≡ false → Between source (at + length bytes) o
    → Between source at (behind (token_at k at (length bytes) spaced) o)
token-behind s k at b spaced o h t = between-behind s k at (length b) spaced o (λ e. absurd (cc)) t

lexeme-no-newline : {rest bytes : List ℕ} {k : TokenKind} → Lexeme rest bytes k → is_newline k ≡ false
lexeme-no-newline (int i) = refl
lexeme-no-newline (keyword word i) = refl
lexeme-no-newline (identifier i n) = refl
lexeme-no-newline (label i n) = refl
lexeme-no-newline (constant i) = refl
lexeme-no-newline (field i) = refl
lexeme-no-newline (global i) = refl
lexeme-no-newline (symbol i) = refl
lexeme-no-newline (constant_symbol i) = refl
lexeme-no-newline (mark m) = refl

reads-between : {modes : List Mode} {at : ℕ} {spaced : Bool} {bytes : List ℕ} {o : Outcome} (source : List ℕ) → drop at source ≡ bytes → Reads modes at spaced bytes o → Between source at o
reads-between {at = n} s e end =
    ((gap-empty s n, subst (λ (z : List ℕ). IsBetween [] z) (sym (drop-past s n [] [] e)) gap.nothing), ((λ h. absurd (cc)), tt))
reads-between {at = n} s e (blank {b = b} {rest = r} {o = o} h t) =
    between-wider s o n (n + 1) (n + 1 + length r) (omega arith) (gap-blank s n b r e h) (reads-order t) (reads-between s (drop-past s n (b ∷ []) r e) t)
reads-between {at = n} s e (comment {bytes = b} {rest = r} {o = o} c t) =
    between-wider s o n (n + length b) (n + length b + length r) (omega arith) (gap-here s n b r e (between-comment b r c)) (reads-order t) (reads-between s (drop-past s n b r e) t)
reads-between {at = n} {spaced = p} s e (line_end {b = b} {rest = r} {o = o} h t) =
    between-behind s kind.Newline n 1 p o (λ i. gap-line_end s n b r e h) (reads-between s (drop-past s n (b ∷ []) r e) t)
reads-between {at = n} {spaced = p} s e (lexeme {bytes = b} {rest = r} {k = k} {o = o} l m c t) =
    token-behind s k n b p o (lexeme-no-newline l.lexeme) (reads-between s (drop-past s n b r e) t)
reads-between {at = n} {spaced = p} s e (text q {rest = r} {o = o} t) =
    token-behind s kind.TextOpen n (quote_mark q ∷ []) p o refl (reads-between s (drop-past s n (quote_mark q ∷ []) r e) t)
reads-between {at = n} {spaced = p} s e (code_end {rest = r} {o = o} t) =
    token-behind s kind.CodeClose n (125 ∷ []) p o refl (reads-between s (drop-past s n (125 ∷ []) r e) t)
reads-between s e (too_wide l h) = tt
reads-between s e (joined l h j) = tt
reads-between s e (nothing h) = tt
reads-between s e code_open = tt
reads-between {at = n} s e (text_end {q = q} {rest = r} {o = o} t) =
    token-behind s kind.TextClose n (quote_mark q ∷ []) false o refl (reads-between s (drop-past s n (quote_mark q ∷ []) r e) t)
reads-between {at = n} s e (part {b = b} {source = m} {rest = r} {text = w} {o = o} d t) =
    token-behind s (kind.TextPiece w) n (b ∷ m) false o refl (reads-between s (drop-past s n (b ∷ m) r e) t)
reads-between {at = n} s e (code {rest = r} {o = o} t) =
    token-behind s kind.CodeOpen n (35 ∷ 123 ∷ []) false o refl (reads-between s (drop-past s n (35 ∷ 123 ∷ []) r e) t)
reads-between s e (bad_escape h) = tt
reads-between s e text_open = tt
reads-between s e escape_open = tt

-- a gap goes on over a token that is dropped
drop-step : (source : List ℕ) (n d c : Bool) (t : Token) (xs ys : List Token) (from to : ℕ) → from ≤ t.at.from → t.at.from ≤ t.at.to → Gap source from t.at.from
    → (n ≡ true → Gap source t.at.from t.at.to) → StandInOrder t.at.to to xs → AllBetween source t.at.to xs → AllBetween source t.at.to ys
    → AllBetween source from (cond n (cond d xs (cond c xs (t ∷ xs))) (t ∷ ys))
drop-step s true true c t xs ys from to h k g l o x y = all-wider s xs from t.at.to to (omega arith) (gap-join s from t.at.from t.at.to h k g (l refl)) o x
drop-step s true false true t xs ys from to h k g l o x y = all-wider s xs from t.at.to to (omega arith) (gap-join s from t.at.from t.at.to h k g (l refl)) o x
drop-step s true false false t xs ys from to h k g l o x y = (g, x)
drop-step s false d c t xs ys from to h k g l o x y = (g, y)

dropped-between : (source : List ℕ) (dropping : Bool) (tokens : List Token) (from to : ℕ) → StandInOrder from to tokens → AllBetween source from tokens → NewlinesBetween source tokens
    → AllBetween source from (without_dropped dropping tokens)
dropped-between s dropping [] from to o a n = a
dropped-between s dropping (t ∷ ts) from to o a n =
    drop-step s (is_newline t.kind) dropping (closing_next ts) t (without_dropped true ts) (without_dropped (drops_newline t.kind) ts) from to o.0 o.1 a.0 n.0
    (dropped-order true ts t.at.to to o.2) (dropped-between s true ts t.at.to to o.2 a.1 n.1) (dropped-between s (drops_newline t.kind) ts t.at.to to o.2 a.1 n.1)

abbrev pub TokensBetween : List ℕ → Outcome → Type 0
TokensBetween source (Ok tokens) = AllBetween source 0 tokens
TokensBetween source (Err f) = Unit {0}

settled-between : (source : List ℕ) (o : Outcome) (to : ℕ) → InOrder 0 to o → Between source 0 o → TokensBetween source (settled o)
settled-between s (Ok tokens) to o b = dropped-between s true tokens 0 to o b.0 b.1
settled-between s (Err f) to o b = tt

lexes-between : {source : List ℕ} {o : Outcome} → Lexes source o → TokensBetween source o
lexes-between (too_large h) = tt
lexes-between (not_utf8 l v h) = tt
lexes-between {source} (read {o = o} l u r) = settled-between source o (0 + length source) (reads-order r) (reads-between source refl r)

pub answers-between : (source : List ℕ) (r : Result (Vec Token Global) LexFault) → Answers (Lexes source) r → IfOk r (λ tokens. AllBetween source 0 tokens.items)
answers-between source (Ok tokens) h = lexes-between h
answers-between source (Err f) h = tt
