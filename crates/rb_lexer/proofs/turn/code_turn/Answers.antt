use Rattle.std.proofs.Common.{◌∷◌, get_or, reverse, sym, ◌∙◌, subst, ◌≡◌, false}
use Rattle.rb_lexer.specs.declared.front.Found.{Found}
use Rattle.rb_lexer.specs.declared.mode.Mode.TheVariants.{Code}
use Rattle.rb_lexer.specs.Modes.{ends_code}
use Rattle.rb_lexer.specs.Front.{IsFront}
use Rattle.rb_lexer.proofs.TurnSteps.{nil_from_test, some_from_test, turn-empty, turn-blank, turn-line_end, turn-comment, turn-text, quote-mark_of, turn-code_end, front-nothing, front-wide, front-joined, front-token}
use Rattle.rb_lexer.proofs.turn.code_turn.Goals as goal
use Rattle.rb_lexer.proofs.turn.code_turn.Goals.{else-first-eq125-via-then-first-eq125+else-ends_code, else-first-eq125-via-else-first-eq125}

pub returns-then-is_empty : goal.returns-then-is_empty
returns-then-is_empty c =
    turn-empty (Code c.args.braces ∷ reverse c.args.below.now) c.args.at c.args.bytes.now c.end_turn.result
    (nil_from_test c.args.bytes.now _ c.is_empty.ensures c.if-is_empty.true) (c.end_turn.ensures c.args.braces c.args.at)

pub returns-then-is_blank : goal.returns-then-is_blank
returns-then-is_blank c =
    turn-blank c.args.braces c.args.at (reverse c.args.below.now) c.requires.stack c.args.bytes.now (some_from_test c.args.bytes.now _ c.is_empty.ensures c.if-is_empty.false)
    (sym c.is_blank.ensures ∙ c.if-is_blank.true)

pub returns-then-is_line_end : goal.returns-then-is_line_end
returns-then-is_line_end c =
    turn-line_end c.args.braces c.args.at (reverse c.args.below.now) c.requires.stack c.args.bytes.now (some_from_test c.args.bytes.now _ c.is_empty.ensures c.if-is_empty.false)
    (sym c.is_line_end.ensures ∙ c.if-is_line_end.true)

pub returns-then-first-eq35 : goal.returns-then-first-eq35
returns-then-first-eq35 c =
    turn-comment c.args.braces c.args.at (reverse c.args.below.now) c.requires.stack c.args.bytes.now c.comment_len.result
    (some_from_test c.args.bytes.now _ c.is_empty.ensures c.if-is_empty.false) c.if-first-eq35.true c.comment_len.ensures

pub returns-in-Some : goal.returns-in-Some
returns-in-Some c =
    turn-text c.args.braces c.args.at (reverse c.args.below.now) c.requires.stack c.args.bytes.now c.in-Some.quote
    (some_from_test c.args.bytes.now _ c.is_empty.ensures c.if-is_empty.false) (quote-mark_of _ c.in-Some.quote (sym c.quote_of.ensures ∙ c.in-Some.is))

pub returns-then-ends_code : goal.returns-then-ends_code
returns-then-ends_code c =
    turn-code_end c.args.braces c.args.at (reverse c.args.below.now) c.requires.stack c.args.bytes.now (some_from_test c.args.bytes.now _ c.is_empty.ensures c.if-is_empty.false)
    c.if-first-eq125.true (sym c.ends_code.ensures ∙ c.if-ends_code.true)

pub returns-in-Nothing : goal.returns-in-Nothing
returns-in-Nothing c =
    front-nothing c.args.braces c.args.at (reverse c.args.below.now) c.args.bytes.now (some_from_test c.args.bytes.now _ c.is_empty.ensures c.if-is_empty.false)
    (sym c.is_blank.ensures ∙ c.if-is_blank.false) (sym c.is_line_end.ensures ∙ c.if-is_line_end.false) c.if-first-eq35.false (sym c.quote_of.ensures ∙ c.in_default.is)
    (subst (λ (f : Found). IsFront c.args.bytes.now f) c.in-Nothing.is c.in_ok-front.ensures)

pub returns-in-TooWide : goal.returns-in-TooWide
returns-in-TooWide c =
    front-wide c.args.braces c.args.at (reverse c.args.below.now) c.args.bytes.now (subst (λ (f : Found). IsFront c.args.bytes.now f) c.in-TooWide.is c.in_ok-front.ensures)

pub returns-in-Joined : goal.returns-in-Joined
returns-in-Joined c =
    front-joined c.args.braces c.args.at c.in-Joined.len (reverse c.args.below.now) c.args.bytes.now
    (subst (λ (f : Found). IsFront c.args.bytes.now f) c.in-Joined.is c.in_ok-front.ensures)

pub returns-in-Token : goal.returns-in-Token
returns-in-Token c =
    let guarded : get_or c.args.bytes.now 0 0 ≡ 125 → ends_code c.args.braces (reverse c.args.below.now) ≡ false
    = elim c.else-first-eq125.branch [
      | else-first-eq125-via-then-first-eq125+else-ends_code w ↦ λ e. sym w.ends_code.ensures ∙ w.if-ends_code.false
      | else-first-eq125-via-else-first-eq125 w ↦ λ e. absurd (w.if-first-eq125.false e)
    ] in
    front-token c.args.braces c.braces_after-braces.result c.args.at c.in-Token.len (reverse c.args.below.now) c.args.bytes.now c.in-Token.kind c.requires.stack
    (subst (λ (f : Found). IsFront c.args.bytes.now f) c.in-Token.is c.in_ok-front.ensures) guarded c.braces_after-braces.ensures
