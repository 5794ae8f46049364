use Rattle.std.proofs.Common.{◌≡◌, ℕ, ◌-◌, List, reverse, take, length, ap, sym, ◌∙◌, arith}
use Rattle.std.proofs.lemmas.List.{take_all}
use Rattle.rb_lexer.specs.declared.mode.Mode.{Mode}
use Rattle.rb_lexer.specs.Modes.{open_text_from}
use Rattle.rb_lexer.proofs.TurnSteps.{open-step}
use Rattle.rb_lexer.proofs.turn.open_text.Goals as goal

pub modes-init : goal.modes-init
modes-init c = (omega arith, ap (λ (ms : List Mode). open_text_from c.args.innermost (reverse ms)) (take_all (length c.args.below.now) c.args.below.now (omega arith)))

pub modes-preserved : goal.modes-preserved
modes-preserved c =
    let w = c.modes.invariant.0 in (
      omega (arith, w),
      open-step c.args.below.now c.modes.index _ c.modes.place c.args.innermost _ c.modes-test.true w (c.text_place-place.ensures (reverse (take (c.modes.index - 1) c.args.below.now)))
          c.modes.invariant.1,
    )

pub returns : goal.returns
returns c =
    let e : c.modes.index ≡ 0 = omega arith in
    ap (λ (n : ℕ). open_text_from c.modes.place (reverse (take n c.args.below.now))) (sym e) ∙ c.modes.invariant.1
