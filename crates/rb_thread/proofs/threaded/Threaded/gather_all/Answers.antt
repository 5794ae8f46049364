use Rattle.std.proofs.Common.{arith, ◌≡◌, ◌∙◌, ◌+◌, suc}
use Rattle.rb_model.specs.Ends.{over}
use Rattle.rb_thread.proofs.Tails.{tail_more, tail_done, kept_behind, behind_next, length_kept, cleared_next}
use Rattle.rb_thread.proofs.threaded.Threaded.gather_all.Goals as goal

pub kids-preserved : goal.kids-preserved
kids-preserved g c =
    let i = c.kids.invariant in
    let n = c.gather-next.ensures in
    let view = g.K.Seat.view in
    let ks = c.args.self.now.kids.0 in
    let now = c.kids.self.kids.0 in
    let new = c.gather-next.new.self.kids.0 in
    let k = c.kids.place in
    let next : k + 1 ≡ suc k = omega arith in (
      n.live,
      n.things ∙ i.1,
      length_kept k now new n.kids ∙ i.2,
      cleared_next k now new i.3 n.kids,
      kept_behind k (k + 1) ks now new next i.4 n.kids,
      tail_more c.args.step k (k + 1) (view c.args.self.now.seat).log (view c.kids.self.seat).log (view c.gather-next.new.self.seat).log (over c.args.end) (over c.kids.last) (over c.gather-next.result.0)
          c.kids.lacking c.gather-next.result.1 c.either-lacking.result ks now next i.4 (behind_next k ks now i.4) n.gathers c.either-lacking.ensures i.5,
    )

pub returns-clause-cleared : goal.returns-clause-cleared
returns-clause-cleared g c =
    let i = c.kids.invariant in
    λ m x l e. i.3 m x (omega (arith, l, c.kids-test.false, c.len-len.ensures, i.2)) e

pub returns-clause-tail : goal.returns-clause-tail
returns-clause-tail g c =
    let i = c.kids.invariant in
    let view = g.K.Seat.view in
    tail_done c.args.step c.kids.place (view c.args.self.now.seat).log (view c.kids.self.seat).log (over c.args.end) (over c.kids.last) c.kids.lacking c.args.self.now.kids.0 (omega (arith, c.kids-test.false, c.len-len.ensures)) i.5
