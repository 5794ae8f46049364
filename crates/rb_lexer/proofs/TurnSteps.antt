-- What each turn of reading settles.
use Rattle.std.proofs.Common.{◌≡◌, ◌≢◌, ℕ, zero, suc, ◌+◌, ◌-◌, ◌<◌, ◌≤◌, Bool, true, false, cond, List, [], ◌∷◌, ◌++◌, length, get_or, take, drop, reverse, Option, Some, None, Err, refl, ap, sym, ◌∙◌, subst, inl, inr, ◌⊎◌, arith}
use Rattle.std.specs.Prelude.{◌&&◌, ◌==◌, is_some}
use Rattle.std.specs.List.{list_all, prefix_len}
use Rattle.std.proofs.lemmas.List.{take-append-drop, length-take-le, drop_all, drop_more, take_more, reverse-append, length-reverse, nil_from_length}
use Rattle.std.proofs.lemmas.List.Sums.{prefix_len-le-length, prefix_len_stops}
use Rattle.std.proofs.lemmas.Bool.{false≢true, true≢false, cases_lt, and_from, not-false, eq-eqb, eqb-true}
use Rattle.std.proofs.lemmas.Bool.Decides.{nat_tests}
use Rattle.rb_lexer.specs.declared.token.TokenKind.{TokenKind}
use Rattle.rb_lexer.specs.declared.token.TokenKind.TheVariants as kind
use Rattle.rb_lexer.specs.declared.token.Mark.TheVariants as mark
use Rattle.rb_lexer.specs.declared.fault.LexFault.TheVariants as fault
use Rattle.rb_lexer.specs.declared.front.Found.TheVariants as found
use Rattle.rb_lexer.specs.declared.mode.Quote.{Quote}
use Rattle.rb_lexer.specs.declared.mode.Quote.TheVariants as quote
use Rattle.rb_lexer.specs.declared.mode.Mode.{Mode}
use Rattle.rb_lexer.specs.declared.mode.Mode.TheVariants.{Code, Text}
use Rattle.rb_lexer.specs.declared.turn.Change.TheVariants.{Become, Enter, Leave}
use Rattle.rb_lexer.specs.declared.turn.Turn.{Turn}
use Rattle.rb_lexer.specs.declared.turn.Turn.TheVariants as turn
use Rattle.rb_lexer.specs.Character.{is_blank, is_line_end, begins_with}
use Rattle.rb_lexer.specs.Front.{IsFront}
use Rattle.rb_lexer.specs.Lexeme.{HasNoLexeme}
use Rattle.rb_lexer.specs.Part.{Part, quote_mark, begins_plain, begins_escape, escaped}
use Rattle.rb_lexer.specs.Modes.{ends_code, braces_after, open_text_from}
use Rattle.rb_lexer.specs.Tokens.{Outcome, behind, token_at, IsComment, Reads, end, blank, comment, line_end, lexeme, text, code_end, too_wide, joined, nothing, code_open, text_end, part, code, bad_escape, text_open, escape_open}
use Rattle.rb_lexer.specs.Turns.{IsTurn, IsStack, quote_of, comment_byte}

-- modes in which reading may stand at a place, it may stand in further on
pub stack-later : (modes : List Mode) (at n : ℕ) → IsStack at modes → IsStack (at + n) modes
stack-later [] at n s = s
stack-later (Text q p ∷ below) at n s = stack-later below at n s
stack-later (Code braces ∷ []) at n s = omega (arith, s)
stack-later (Code braces ∷ m ∷ below) at n s = let h = s.0 in (omega (arith, h), stack-later (m ∷ below) at n s.1)

-- the first bytes and the rest
cut-reads : {modes : List Mode} {at : ℕ} {spaced : Bool} {o : Outcome} (bytes : List ℕ) (n : ℕ) → Reads modes at spaced (take n bytes ++ drop n bytes) o → Reads modes at spaced bytes o
cut-reads {modes} {at} {spaced} {o} bytes n r = subst (λ (xs : List ℕ). Reads modes at spaced xs o) (take-append-drop n bytes) r

cut-place : {modes : List Mode} {spaced : Bool} {source : List ℕ} {o : Outcome} (at : ℕ) (bytes : List ℕ) (n : ℕ) → n ≤ length bytes → Reads modes (at + n) spaced source o
    → Reads modes (at + length (take n bytes)) spaced source o
cut-place {modes} {spaced} {source} {o} at bytes n h r = subst (λ (m : ℕ). Reads modes (at + m) spaced source o) (sym (length-take-le n bytes h)) r

-- one mode further out
pub open-step : (modes : List Mode) (k before place innermost : ℕ) (d : Mode) → 0 < k → k ≤ length modes
    → before ≡ open_text_from place (get_or modes (k - 1) d ∷ reverse (take (k - 1) modes))
    → open_text_from place (reverse (take k modes)) ≡ open_text_from innermost (reverse modes) → before ≡ open_text_from innermost (reverse modes)
open-step modes k before place innermost d h w e f =
    let l : (k - 1) + 1 ≡ k = omega arith in
    let r : reverse (take k modes) ≡ get_or modes (k - 1) d ∷ reverse (take (k - 1) modes)
    = ap (λ n. reverse (take n modes)) (sym l) ∙ ap reverse (take_more modes (k - 1) d (omega arith)) ∙ reverse-append (take (k - 1) modes) (get_or modes (k - 1) d ∷ []) in
    e ∙ ap (open_text_from place) (sym r) ∙ f

-- what a test for emptiness tells
pub nil_from_test : {X : Type 0} (xs : List X) (b : Bool) → b ≡ (length xs == 0) → b ≡ true → xs ≡ []
nil_from_test xs b e h = nil_from_length xs (eqb-true (length xs) 0 (sym e ∙ h))

pub some_from_test : {X : Type 0} (xs : List X) (b : Bool) → b ≡ (length xs == 0) → b ≡ false → 0 < length xs
some_from_test [] b e h = absurd (false≢true (sym h ∙ e))
some_from_test (x ∷ xs) b e h = omega arith

pub reverse-some : {X : Type 0} (xs : List X) → 0 < length xs → 0 < length (reverse xs)
reverse-some xs h = simp length-reverse h

-- code

pub turn-end : (braces at : ℕ) (below : List Mode) (bytes : List ℕ) (spaced : Bool) → below ≡ [] → bytes ≡ [] → IsTurn (Code braces ∷ below) at spaced bytes turn.End
turn-end braces at [] [] spaced b e = end
turn-end braces at [] (x ∷ xs) spaced b e = absurd (cc)
turn-end braces at (m ∷ ms) bytes spaced b e = absurd (cc)

pub turn-open : (braces at place : ℕ) (below : List Mode) (bytes : List ℕ) (spaced : Bool) → 0 < length below → bytes ≡ [] → place ≡ open_text_from 0 below
    → IsTurn (Code braces ∷ below) at spaced bytes (turn.Refused (fault.UnclosedText place))
turn-open braces at place [] bytes spaced b e p = absurd (omega arith)
turn-open braces at place (m ∷ ms) [] spaced b e p =
    subst (λ (n : ℕ). Reads (Code braces ∷ m ∷ ms) at spaced [] (Err (fault.UnclosedText n))) (sym p) code_open
turn-open braces at place (m ∷ ms) (x ∷ xs) spaced b e p = absurd (cc)

-- a turn where there are no bytes
pub turn-empty : (modes : List Mode) (at : ℕ) (bytes : List ℕ) (t : Turn) → bytes ≡ [] → ((spaced : Bool) → IsTurn modes at spaced [] t) → (spaced : Bool) → IsTurn modes at spaced bytes t
turn-empty modes at bytes t e h spaced = subst (λ (xs : List ℕ). IsTurn modes at spaced xs t) (sym e) (h spaced)

module _ (braces at : ℕ) (below : List Mode) (stack : IsStack at (Code braces ∷ below)) where
  pub turn-blank : (bytes : List ℕ) → 0 < length bytes → is_blank (get_or bytes 0 0) ≡ true → (spaced : Bool) → IsTurn (Code braces ∷ below) at spaced bytes (turn.Passed 1)
  turn-blank [] h e spaced = absurd (omega arith)
  turn-blank (b ∷ bs) h e spaced = (omega arith, omega arith, stack-later (Code braces ∷ below) at 1 stack, λ o r. blank e r)

  pub turn-line_end : (bytes : List ℕ) → 0 < length bytes → is_line_end (get_or bytes 0 0) ≡ true → (spaced : Bool)
      → IsTurn (Code braces ∷ below) at spaced bytes (turn.Token kind.Newline 1 (Become (Code braces)))
  turn-line_end [] h e spaced = absurd (omega arith)
  turn-line_end (b ∷ bs) h e spaced = (omega arith, omega arith, stack-later (Code braces ∷ below) at 1 stack, λ o r. line_end e r)

  pub turn-text : (bytes : List ℕ) (q : Quote) → 0 < length bytes → get_or bytes 0 0 ≡ quote_mark q → (spaced : Bool)
      → IsTurn (Code braces ∷ below) at spaced bytes (turn.Token kind.TextOpen 1 (Enter (Text q at)))
  turn-text [] q h e spaced = absurd (omega arith)
  turn-text (b ∷ bs) q h e spaced = (
    omega arith,
    omega arith,
    stack-later (Code braces ∷ below) at 1 stack,
    λ o r. subst (λ (x : ℕ). Reads (Code braces ∷ below) at spaced (x ∷ bs) (behind (token_at kind.TextOpen at 1 spaced) o)) (sym e) (text q r),
  )

-- the quote that a character is
pub quote-mark_of : (b : ℕ) (q : Quote) → quote_of b ≡ Some q → b ≡ quote_mark q
quote-mark_of b q h = by (b == 39) (b == 34) refl refl h where
  by : (s t : Bool) → (b == 39) ≡ s → (b == 34) ≡ t → cond s (Some quote.Single) (cond t (Some quote.Double) None) ≡ Some q → b ≡ quote_mark q
  by true t e f h = eqb-true b 39 e ∙ (let same : quote.Single ≡ q = cc in ap quote_mark same)
  by false true e f h = eqb-true b 34 f ∙ (let same : quote.Double ≡ q = cc in ap quote_mark same)
  by false false e f h = absurd (cc)

pub quote-none : (b : ℕ) → quote_of b ≡ None → (q : Quote) → b ≢ quote_mark q
quote-none b h quote.Single e = absurd (let s : Some quote.Single ≡ None = ap quote_of (sym e) ∙ h in cc)
quote-none b h quote.Double e = absurd (let s : Some quote.Double ≡ None = ap quote_of (sym e) ∙ h in cc)

pub turn-code_end : (braces at : ℕ) (below : List Mode) → IsStack at (Code braces ∷ below) → (bytes : List ℕ) → 0 < length bytes → get_or bytes 0 0 ≡ 125 → ends_code braces below ≡ true
    → (spaced : Bool) → IsTurn (Code braces ∷ below) at spaced bytes (turn.Token kind.CodeClose 1 Leave)
turn-code_end braces at [] s bytes h e c spaced = absurd (false≢true c)
turn-code_end braces at (m ∷ ms) s [] h e c spaced = absurd (omega arith)
turn-code_end zero at (m ∷ ms) s (b ∷ bs) h e c spaced = (
  omega arith,
  omega arith,
  stack-later (m ∷ ms) at 1 s.1,
  λ o r. subst (λ (x : ℕ). Reads (Code zero ∷ m ∷ ms) at spaced (x ∷ bs) (behind (token_at kind.CodeClose at 1 spaced) o)) (sym e) (code_end r),
)
turn-code_end (suc n) at (m ∷ ms) s (b ∷ bs) h e c spaced = absurd (false≢true c)

-- comments

run-step : (p : ℕ → Bool) (x : ℕ) (xs : List ℕ) (t : Bool) → p x ≡ t → list_all p (take (prefix_len p xs) xs) ≡ true
    → list_all p (take (cond t (1 + prefix_len p xs) 0) (x ∷ xs)) ≡ true
run-step p x xs true e h =
    let n : 1 + prefix_len p xs ≡ suc (prefix_len p xs) = omega arith in
    ap (λ m. list_all p (take m (x ∷ xs))) n ∙ and_from (p x) (list_all p (take (prefix_len p xs) xs)) e h
run-step p x xs false e h = refl

run-passes : (p : ℕ → Bool) (xs : List ℕ) → list_all p (take (prefix_len p xs) xs) ≡ true
run-passes p [] = refl
run-passes p (x ∷ xs) = run-step p x xs (p x) refl (run-passes p xs)

run-ends : (xs : List ℕ) → (drop (prefix_len comment_byte xs) xs ≡ []) ⊎ (begins_with 10 (drop (prefix_len comment_byte xs) xs) ≡ true)
run-ends xs =
    elim (cases_lt (prefix_len comment_byte xs) (length xs)) [
      | inl h ↦ inr (ap (begins_with 10) (drop_more xs (prefix_len comment_byte xs) 0 h) ∙ not-false (get_or xs (prefix_len comment_byte xs) 0 == 10) (prefix_len_stops comment_byte xs 0 h))
      | inr h ↦ inl (drop_all (prefix_len comment_byte xs) xs h)
    ]

hash-run : (xs : List ℕ) → 0 < length xs → get_or xs 0 0 ≡ 35 → (begins_with 35 (take (prefix_len comment_byte xs) xs) ≡ true) × (0 < prefix_len comment_byte xs)
hash-run [] h e = absurd (omega arith)
hash-run (x ∷ xs) h e =
    let t : comment_byte x ≡ true = ap comment_byte e in
    let n : prefix_len comment_byte (x ∷ xs) ≡ suc (prefix_len comment_byte xs) = ap (λ b. cond b (1 + prefix_len comment_byte xs) 0) t ∙ omega arith in
    (ap (λ m. begins_with 35 (take m (x ∷ xs))) n ∙ eq-eqb x 35 e, omega (arith, n))

pub turn-comment : (braces at : ℕ) (below : List Mode) → IsStack at (Code braces ∷ below) → (bytes : List ℕ) (n : ℕ) → 0 < length bytes → get_or bytes 0 0 ≡ 35
    → n ≡ prefix_len comment_byte bytes → (spaced : Bool) → IsTurn (Code braces ∷ below) at spaced bytes (turn.Passed n)
turn-comment braces at below s bytes n h e l spaced =
    let k = prefix_len comment_byte bytes in
    let w = prefix_len-le-length comment_byte bytes in
    let f = hash-run bytes h e in
    let c : IsComment (take k bytes) (drop k bytes) = record { hash = f.0; line = run-passes comment_byte bytes; ended = run-ends bytes } in
    let full : IsTurn (Code braces ∷ below) at spaced bytes (turn.Passed k) = (
      f.1,
      w,
      stack-later (Code braces ∷ below) at k s,
      λ o r. cut-reads bytes k (comment c (cut-place at bytes k w r)),
    ) in
    subst (λ (m : ℕ). IsTurn (Code braces ∷ below) at spaced bytes (turn.Passed m)) (sym l) full

-- what stands at the front of code

pub front-nothing : (braces at : ℕ) (below : List Mode) (bytes : List ℕ) → 0 < length bytes → is_blank (get_or bytes 0 0) ≡ false → is_line_end (get_or bytes 0 0) ≡ false
    → (get_or bytes 0 0 ≡ 35 → ⊥) → quote_of (get_or bytes 0 0) ≡ None → HasNoLexeme bytes → (spaced : Bool)
    → IsTurn (Code braces ∷ below) at spaced bytes (turn.Refused (fault.BadCharacter at))
front-nothing braces at below [] h b l c q n spaced = absurd (omega arith)
front-nothing braces at below (x ∷ xs) h b l c q n spaced =
    nothing (record { no_blank = b; no_line_end = l; no_comment = c; no_text = quote-none x q; no_lexeme = n })

pub front-wide : (braces at : ℕ) (below : List Mode) (bytes : List ℕ) → IsFront bytes found.TooWide → (spaced : Bool)
    → IsTurn (Code braces ∷ below) at spaced bytes (turn.Refused (fault.IntegerTooWide at))
front-wide braces at below bytes f spaced = cut-reads bytes f.0 (too_wide f.3 f.4)

pub front-joined : (braces at n : ℕ) (below : List Mode) (bytes : List ℕ) → IsFront bytes (found.Joined n) → (spaced : Bool)
    → IsTurn (Code braces ∷ below) at spaced bytes (turn.Refused (fault.BadCharacter (at + n)))
front-joined braces at n below bytes f spaced =
    subst (λ (m : ℕ). Reads (Code braces ∷ below) at spaced bytes (Err (fault.BadCharacter (at + m)))) (length-take-le n bytes f.1) (cut-reads bytes n (joined f.2 f.3 f.4))

braces-grow : (k : TokenKind) (n : ℕ) → braces_after k n ≤ n + 1
braces-grow (kind.Mark mark.OpenBrace) n = omega arith
braces-grow (kind.Mark mark.CloseBrace) zero = omega arith
braces-grow (kind.Mark mark.CloseBrace) (suc n) = omega arith
braces-grow k n = omega arith

stack-braces : (braces more at : ℕ) (below : List Mode) → IsStack at (Code braces ∷ below) → more ≤ at → IsStack at (Code more ∷ below)
stack-braces braces more at [] s h = h
stack-braces braces more at (m ∷ ms) s h = (h, s.1)

stack-top : (braces at : ℕ) (below : List Mode) → IsStack at (Code braces ∷ below) → braces ≤ at
stack-top braces at [] s = s
stack-top braces at (m ∷ ms) s = s.0

take-first : (bytes : List ℕ) (n : ℕ) → begins_with 125 (take n bytes) ≡ true → get_or bytes 0 0 ≡ 125
take-first bytes zero h = absurd (false≢true h)
take-first [] (suc n) h = absurd (false≢true h)
take-first (b ∷ bs) (suc n) h = eqb-true b 125 h

pub front-token : (braces more at n : ℕ) (below : List Mode) (bytes : List ℕ) (k : TokenKind) → IsStack at (Code braces ∷ below) → IsFront bytes (found.Token k n)
    → (get_or bytes 0 0 ≡ 125 → ends_code braces below ≡ false) → more ≡ braces_after k braces → (spaced : Bool)
    → IsTurn (Code braces ∷ below) at spaced bytes (turn.Token k n (Become (Code more)))
front-token braces more at n below bytes k s f c e spaced =
    let w = f.1 in
    let p = f.0 in
    let grow = braces-grow k braces in
    let top = stack-top braces at below s in
    let full : IsTurn (Code braces ∷ below) at spaced bytes (turn.Token k n (Become (Code (braces_after k braces)))) = (
      p,
      w,
      stack-braces braces (braces_after k braces) (at + n) below (stack-later (Code braces ∷ below) at n s) (omega (arith, grow, top, p)),
      λ o r.
          let read = lexeme f.2 f.3 (λ h. c (take-first bytes n h)) (cut-place at bytes n w r) in
          cut-reads bytes n
          (subst (λ (m : ℕ). Reads (Code braces ∷ below) at spaced (take n bytes ++ drop n bytes) (behind (token_at k at m spaced) o)) (length-take-le n bytes w) read),
    ) in
    subst (λ (m : ℕ). IsTurn (Code braces ∷ below) at spaced bytes (turn.Token k n (Become (Code m)))) (sym e) full

-- texts

part-reads : {q : Quote} {p : ℕ} {below : List Mode} {spaced : Bool} {rest source words : List ℕ} {o : Outcome} (at : ℕ) → Part q rest source words → 0 < length source
    → Reads (Text q p ∷ below) (at + length source) false rest o
    → Reads (Text q p ∷ below) at spaced (source ++ rest) (behind (token_at (kind.TextPiece words) at (length source) false) o)
part-reads {source = []} at d h r = absurd (omega arith)
part-reads {source = b ∷ bs} at d h r = part d r

pub turn-part : (q : Quote) (p at n : ℕ) (below : List Mode) (bytes words : List ℕ) → IsStack at (Text q p ∷ below) → 0 < n → n ≤ length bytes → Part q (drop n bytes) (take n bytes) words
    → (spaced : Bool) → IsTurn (Text q p ∷ below) at spaced bytes (turn.Token (kind.TextPiece words) n (Become (Text q p)))
turn-part q p at n below bytes words s h w d spaced =
    let l = length-take-le n bytes w in (
      h,
      w,
      stack-later (Text q p ∷ below) at n s,
      λ o r.
          cut-reads bytes n
          (subst (λ (m : ℕ). Reads (Text q p ∷ below) at spaced (take n bytes ++ drop n bytes) (behind (token_at (kind.TextPiece words) at m false) o)) l
          (part-reads at d (omega (arith, l)) (cut-place at bytes n w r))),
    )

pub turn-text_open : (q : Quote) (p at place : ℕ) (below : List Mode) (bytes : List ℕ) → bytes ≡ [] → place ≡ open_text_from p below → (spaced : Bool)
    → IsTurn (Text q p ∷ below) at spaced bytes (turn.Refused (fault.UnclosedText place))
turn-text_open q p at place below [] e f spaced = subst (λ (n : ℕ). Reads (Text q p ∷ below) at spaced [] (Err (fault.UnclosedText n))) (sym f) text_open
turn-text_open q p at place below (x ∷ xs) e f spaced = absurd (cc)

pub turn-text_end : (q : Quote) (p at : ℕ) (below : List Mode) (bytes : List ℕ) → IsStack at (Text q p ∷ below) → 0 < length bytes → get_or bytes 0 0 ≡ quote_mark q → (spaced : Bool)
    → IsTurn (Text q p ∷ below) at spaced bytes (turn.Token kind.TextClose 1 Leave)
turn-text_end q p at below [] s h e spaced = absurd (omega arith)
turn-text_end q p at below (b ∷ bs) s h e spaced = (
  omega arith,
  omega arith,
  stack-later below at 1 s,
  λ o r. subst (λ (x : ℕ). Reads (Text q p ∷ below) at spaced (x ∷ bs) (behind (token_at kind.TextClose at 1 false) o)) (sym e) (text_end r),
)

-- where `#` is not plain, code begins
code-begins : (q : Quote) (bs : List ℕ) → begins_plain q (35 ∷ bs) ≡ false → (q ≡ quote.Double) × (more : List ℕ) × (bs ≡ 123 ∷ more)
code-begins quote.Single [] h = absurd (true≢false h)
code-begins quote.Single (b ∷ bs) h = absurd (true≢false h)
code-begins quote.Double [] h = absurd (true≢false h)
code-begins quote.Double (b ∷ bs) h = (refl, bs, ap (λ x. x ∷ bs) (eqb-true b 123 (not-false (b == 123) h)))

pub turn-code : (q : Quote) (p at : ℕ) (below : List Mode) (bytes : List ℕ) → IsStack at (Text q p ∷ below) → 0 < length bytes → get_or bytes 0 0 ≡ 35 → begins_plain q bytes ≡ false
    → (spaced : Bool) → IsTurn (Text q p ∷ below) at spaced bytes (turn.Token kind.CodeOpen 2 (Enter (Code 0)))
turn-code q p at below [] s h e n spaced = absurd (omega arith)
turn-code q p at below (b ∷ bs) s h e n spaced =
    let found = code-begins q bs (ap (λ x. begins_plain q (x ∷ bs)) (sym e) ∙ n) in
    let full : IsTurn (Text quote.Double p ∷ below) at spaced (35 ∷ 123 ∷ found.1) (turn.Token kind.CodeOpen 2 (Enter (Code 0)))
    = (omega arith, omega arith, (omega arith, stack-later below at 2 s), λ o r. code r) in
    subst (λ (z : Quote). IsTurn (Text z p ∷ below) at spaced (b ∷ bs) (turn.Token kind.CodeOpen 2 (Enter (Code 0)))) (sym found.0)
    (subst (λ (xs : List ℕ). IsTurn (Text quote.Double p ∷ below) at spaced xs (turn.Token kind.CodeOpen 2 (Enter (Code 0)))) (sym (ap (λ x. x ∷ bs) e ∙ ap (λ xs. 35 ∷ xs) found.2)) full)

-- what is neither plain, an escape, the quote nor code is a `\` in `"`
slash-alone : (q : Quote) (b : ℕ) → begins_plain q (b ∷ []) ≡ false → (b ≡ quote_mark q → ⊥) → (b ≡ 35 → ⊥) → (q ≡ quote.Double) × (b ≡ 92)
slash-alone quote.Single b n m c = absurd (grind (arith, nat_tests))
slash-alone quote.Double b n m c = (refl, grind (arith, nat_tests))

slash-more : (q : Quote) (b e : ℕ) (bs : List ℕ) → begins_plain q (b ∷ e ∷ bs) ≡ false → begins_escape q (b ∷ e ∷ bs) ≡ false → (b ≡ quote_mark q → ⊥) → (b ≡ 35 → ⊥)
    → (q ≡ quote.Double) × (b ≡ 92)
slash-more quote.Single b e bs n x m c = absurd (grind (arith, nat_tests))
slash-more quote.Double b e bs n x m c = (refl, grind (arith, nat_tests))

pub turn-escape_open : (q : Quote) (p at place : ℕ) (below : List Mode) (bytes : List ℕ) → length bytes ≡ 1 → begins_plain q bytes ≡ false → (get_or bytes 0 0 ≡ quote_mark q → ⊥)
    → (get_or bytes 0 0 ≡ 35 → ⊥) → place ≡ open_text_from p below → (spaced : Bool) → IsTurn (Text q p ∷ below) at spaced bytes (turn.Refused (fault.UnclosedText place))
turn-escape_open q p at place below [] l n m c f spaced = absurd (omega arith)
turn-escape_open q p at place below (b ∷ []) l n m c f spaced =
    let s = slash-alone q b n m c in
    subst (λ (i : ℕ). Reads (Text q p ∷ below) at spaced (b ∷ []) (Err (fault.UnclosedText i))) (sym f)
    (subst (λ (z : Quote). Reads (Text z p ∷ below) at spaced (b ∷ []) (Err (fault.UnclosedText (open_text_from p below)))) (sym s.0)
    (subst (λ (x : ℕ). Reads (Text quote.Double p ∷ below) at spaced (x ∷ []) (Err (fault.UnclosedText (open_text_from p below)))) (sym s.1) escape_open))
turn-escape_open q p at place below (b ∷ e ∷ bs) l n m c f spaced = absurd (omega arith)

none-from : (o : Option ℕ) → is_some o ≡ false → o ≡ None
none-from None h = refl
none-from (Some x) h = absurd (true≢false h)

pub turn-bad_escape : (q : Quote) (p at : ℕ) (below : List Mode) (bytes : List ℕ) → 0 < length bytes → (length bytes ≡ 1 → ⊥) → begins_plain q bytes ≡ false → begins_escape q bytes ≡ false
    → (get_or bytes 0 0 ≡ quote_mark q → ⊥) → (get_or bytes 0 0 ≡ 35 → ⊥) → (spaced : Bool) → IsTurn (Text q p ∷ below) at spaced bytes (turn.Refused (fault.BadEscape at))
turn-bad_escape q p at below [] h l n x m c spaced = absurd (omega arith)
turn-bad_escape q p at below (b ∷ []) h l n x m c spaced = absurd (l refl)
turn-bad_escape q p at below (b ∷ e ∷ bs) h l n x m c spaced =
    let s = slash-more q b e bs n x m c in
    let none : escaped quote.Double e ≡ None = none-from (escaped quote.Double e) (ap (λ y. y == 92 && is_some (escaped quote.Double e)) (sym s.1) ∙ ap (λ z. begins_escape z (b ∷ e ∷ bs)) (sym s.0) ∙ x) in
    subst (λ (z : Quote). Reads (Text z p ∷ below) at spaced (b ∷ e ∷ bs) (Err (fault.BadEscape at))) (sym s.0)
    (subst (λ (y : ℕ). Reads (Text quote.Double p ∷ below) at spaced (y ∷ e ∷ bs) (Err (fault.BadEscape at))) (sym s.1) (bad_escape none))
