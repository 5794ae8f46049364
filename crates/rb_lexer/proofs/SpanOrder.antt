-- The tokens of a source stand in their order.
use Rattle.std.proofs.Common.{ℕ, suc, ◌+◌, ◌≤◌, Bool, true, false, cond, List, [], ◌∷◌, ◌++◌, length, Ok, Err, Result, Vec, arith}
use Rattle.std.specs.Prelude.{IfOk}
use Rattle.std.proofs.lemmas.List.{length-append}
use Rattle.std.specs.declared.alloc.Global.{Global}
use Rattle.rb_lexer.specs.declared.token.Token.{Token}
use Rattle.rb_lexer.specs.declared.token.TokenKind.{TokenKind}
use Rattle.rb_lexer.specs.declared.token.TokenKind.TheVariants as kind
use Rattle.rb_lexer.specs.declared.fault.LexFault.{LexFault}
use Rattle.rb_lexer.specs.declared.mode.Mode.{Mode}
use Rattle.rb_lexer.specs.Newlines.{is_newline, drops_newline, closing_next, without_dropped}
use Rattle.rb_lexer.specs.Spans.{StandInOrder}
use Rattle.rb_lexer.specs.Tokens.{Outcome, behind, token_at, settled, Answers, Lexes, too_large, not_utf8, read, Reads, end, blank, comment, line_end, lexeme, text, code_end, too_wide, joined, nothing, code_open, text_end, part, code, bad_escape, text_open, escape_open}

abbrev pub InOrder : (from to : ℕ) → Outcome → Type 0
InOrder from to (Ok tokens) = StandInOrder from to tokens
InOrder from to (Err f) = Unit {0}

stand-wider : (tokens : List Token) (from from' to to' : ℕ) → from ≤ from' → to' ≤ to → StandInOrder from' to' tokens → StandInOrder from to tokens
stand-wider [] from from' to to' h k s = omega (arith, s)
stand-wider (t ∷ ts) from from' to to' h k s = let f = s.0 in (omega (arith, f), s.1, stand-wider ts t.at.to t.at.to to to' (omega arith) k s.2)

order-wider : (o : Outcome) (from from' to to' : ℕ) → from ≤ from' → to' ≤ to → InOrder from' to' o → InOrder from to o
order-wider (Ok tokens) from from' to to' h k s = stand-wider tokens from from' to to' h k s
order-wider (Err f) from from' to to' h k s = tt

-- one token of so many bytes before an outcome
order-behind : (k : TokenKind) (at n more to : ℕ) (spaced : Bool) (o : Outcome) → at + n + more ≤ to → InOrder (at + n) (at + n + more) o → InOrder at to (behind (token_at k at n spaced) o)
order-behind k at n more to spaced (Ok tokens) h s = (omega arith, omega arith, stand-wider tokens (at + n) (at + n) to (at + n + more) (omega arith) h s)
order-behind k at n more to spaced (Err f) h s = tt

pub reads-order : {modes : List Mode} {at : ℕ} {spaced : Bool} {source : List ℕ} {o : Outcome} → Reads modes at spaced source o → InOrder at (at + length source) o
reads-order end = (omega arith, omega arith, omega arith)
reads-order {at = n} (blank {rest = r} {o = o} h t) = order-wider o n (n + 1) (n + suc (length r)) (n + 1 + length r) (omega arith) (omega arith) (reads-order t)
reads-order {at = n} (comment {bytes = b} {rest = r} {o = o} c t) =
    order-wider o n (n + length b) (n + length (b ++ r)) (n + length b + length r) (omega arith) (omega (arith, length-append b r)) (reads-order t)
reads-order {at = n} {spaced = s} (line_end {rest = r} {o = o} h t) = order-behind kind.Newline n 1 (length r) (n + suc (length r)) s o (omega arith) (reads-order t)
reads-order {at = n} {spaced = s} (lexeme {bytes = b} {rest = r} {k = k} {o = o} l m e t) =
    order-behind k n (length b) (length r) (n + length (b ++ r)) s o (omega (arith, length-append b r)) (reads-order t)
reads-order {at = n} {spaced = s} (text q {rest = r} {o = o} t) = order-behind kind.TextOpen n 1 (length r) (n + suc (length r)) s o (omega arith) (reads-order t)
reads-order {at = n} {spaced = s} (code_end {rest = r} {o = o} t) = order-behind kind.CodeClose n 1 (length r) (n + suc (length r)) s o (omega arith) (reads-order t)
reads-order (too_wide l h) = tt
reads-order (joined l h j) = tt
reads-order (nothing h) = tt
reads-order code_open = tt
reads-order {at = n} (text_end {rest = r} {o = o} t) = order-behind kind.TextClose n 1 (length r) (n + suc (length r)) false o (omega arith) (reads-order t)
reads-order {at = n} (part {b = b} {source = s} {rest = r} {text = w} {o = o} d t) =
    order-behind (kind.TextPiece w) n (length (b ∷ s)) (length r) (n + length (b ∷ s ++ r)) false o (omega (arith, length-append s r)) (reads-order t)
reads-order {at = n} (code {rest = r} {o = o} t) = order-behind kind.CodeOpen n 2 (length r) (n + suc (suc (length r))) false o (omega arith) (reads-order t)
reads-order (bad_escape h) = tt
reads-order text_open = tt
reads-order escape_open = tt

drop-step : (n d c : Bool) (t : Token) (xs ys : List Token) (from to : ℕ) → from ≤ t.at.from → t.at.from ≤ t.at.to → StandInOrder t.at.to to xs → StandInOrder t.at.to to ys
    → StandInOrder from to (cond n (cond d xs (cond c xs (t ∷ xs))) (t ∷ ys))
drop-step true true c t xs ys from to h k x y = stand-wider xs from t.at.to to to (omega arith) (omega arith) x
drop-step true false true t xs ys from to h k x y = stand-wider xs from t.at.to to to (omega arith) (omega arith) x
drop-step true false false t xs ys from to h k x y = (h, k, x)
drop-step false d c t xs ys from to h k x y = (h, k, y)

-- tokens stand in their order without the line feeds that are dropped
pub dropped-order : (dropping : Bool) (tokens : List Token) (from to : ℕ) → StandInOrder from to tokens → StandInOrder from to (without_dropped dropping tokens)
dropped-order dropping [] from to s = s
dropped-order dropping (t ∷ ts) from to s =
    drop-step (is_newline t.kind) dropping (closing_next ts) t (without_dropped true ts) (without_dropped (drops_newline t.kind) ts) from to s.0 s.1 (dropped-order true ts t.at.to to s.2)
    (dropped-order (drops_newline t.kind) ts t.at.to to s.2)

settled-order : (o : Outcome) (to : ℕ) → InOrder 0 to o → InOrder 0 to (settled o)
settled-order (Ok tokens) to s = dropped-order true tokens 0 to s
settled-order (Err f) to s = tt

pub lexes-order : {source : List ℕ} {o : Outcome} → Lexes source o → InOrder 0 (length source) o
lexes-order (too_large h) = tt
lexes-order (not_utf8 l v h) = tt
lexes-order {source} (read {o = o} l u r) = settled-order o (length source) (order-wider o 0 0 (length source) (0 + length source) (omega arith) (omega arith) (reads-order r))

pub answers-order : (source : List ℕ) (r : Result (Vec Token Global) LexFault) → Answers (Lexes source) r → IfOk r (λ tokens. StandInOrder 0 (length source) tokens.items)
answers-order source (Ok tokens) h = lexes-order h
answers-order source (Err f) h = tt
