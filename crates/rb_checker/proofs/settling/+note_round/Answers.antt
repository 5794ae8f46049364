use Rattle.std.proofs.Common.{reverse, sym, ap, take, length, get_or, ◌-◌, ◌∙◌}
use Rattle.std.specs.Prelude.{◌||◌, ◌&&◌}
use Rattle.rb_tree.specs.declared.span.Span.{Span}
use Rattle.rb_checker.specs.declared.event.Around.{Around}
use Rattle.rb_checker.specs.declared.event.Around.TheVariants as around
use Rattle.rb_checker.specs.Assigned.{has_held}
use Rattle.rb_checker.specs.Locals.{same_local}
use Rattle.rb_checker.specs.Settled.{holds}
use Rattle.rb_checker.proofs.Holding.{more_held}
use Rattle.rb_checker.proofs.Joining.{so}
use Rattle.rb_checker.proofs.Reversed.{reversed_last}
use Rattle.rb_checker.proofs.settling.+note_round.Goals as goal

abbrev nothing : Around × Span
nothing = (around.Loop, record { from = 0; to = 0 })

pub returns : goal.returns
returns t c =
    let round = c.args.round.now in
    so c.note_round.result c.note_round.ensures
    (λ rest v e.
    more_held c.args.held.now c.note_around.new.held c.note_round.new.held v c.args.local e (get_or round (length round - 1) nothing) (reverse (take (length round - 1) round))
    (c.in_ok-note_around.ensures v e) (rest v e)
    ∙ ap (λ r. (same_local v c.args.local && holds r e) || has_held c.args.held.now v e) (sym (reversed_last round nothing c.in-len1-up.len_at_least)))
