use Rattle.std.proofs.Common.{None, ◌-◌, cond, length, position, sym, ap, ◌∙◌, arith, le-leb}
use Rattle.std.proofs.lemmas.Bool.{lt-leb}
use Rattle.heap_core.specs.Starting.{is_free}
use Rattle.heap_core.proofs.turn.Turn.line_for.Goals as goal

pub returns-then-last-generation : goal.returns-then-last-generation
returns-then-last-generation g c =
    let last = c.saturating_sub-last.ensures in
    let size = c.len.ensures in
    let long = c.self.inside.lines.ok in
    let same = ap (λ h. length h.lines) c.self.view_is in
    let below = c.if-last-generation.true in
    sym (ap (λ b. cond b None (position is_free c.args.self.now.lines)) (le-leb (length c.args.self.now.lines - 1) c.args.generation (omega (arith, last, size, long, same, below))))

pub returns : goal.returns
returns g c =
    let last = c.saturating_sub-last.ensures in
    let size = c.len.ensures in
    let long = c.self.inside.lines.ok in
    let same = ap (λ h. length h.lines) c.self.view_is in
    let above = c.if-last-generation.false in
    c.free_line.ensures ∙ sym (ap (λ b. cond b None (position is_free c.args.self.now.lines)) (lt-leb (length c.args.self.now.lines - 1) c.args.generation (omega (arith, last, size, long, same, above))))
