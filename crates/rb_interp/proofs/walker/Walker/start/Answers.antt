use Rattle.std.proofs.Common.{◌≡◌, ◌∙◌, map, refl, sym, subst, ap}
use Rattle.std.proofs.lemmas.Option.{slice_get_read}
use Rattle.rb_model.specs.Values.{plain}
use Rattle.rb_model.specs.Doing.{said}
use Rattle.rb_machine.specs.Move.{Begin}
use Rattle.rb_walk.specs.Outcome.{Came, Gave, outcome}
use Rattle.rb_walk.specs.Carries.{me_of, scope_of}
use Rattle.rb_walk.specs.Shared.{outcome_by}
use Rattle.rb_walk.proofs.Lists.{len_map}
use Rattle.rb_walk.proofs.Moves.{same}
use Rattle.rb_walk.proofs.Sharing.{given_is, reply_came, starts_so}
use Rattle.rb_interp.proofs.walker.Walker.start.Goals as goal

pub returns-in-Ok-taken-clause-came : goal.returns-in-Ok-taken-clause-came
returns-in-Ok-taken-clause-came g c = λ S start k names d e h len a.
    let sc = scope_of (me_of c.args.self.now.context.me) names c.args.room.now in
    let args = map plain c.args.args.now in
    let found = rw c.as_slice.ensures at c.in-Some.ensures.lookup in
    let there = slice_get_read _ _ c.args.body c.in-Some.block.now refl found.3.0 found.1 in
    let many = len_map plain c.args.args.now ∙ (c.if-args-len.false ∙ c.len.ensures) in
    let begun = same a (starts_so S c.args.self.now.context.program.now c.args.body c.in-Some.block.now args c.args.at k sc d _ e there many) in
    let values = given_is S c.args.body args c.args.self.now.context.me names c.args.slots.now c.args.room.now (map plain c.in-Ok.values.items) len h c.in-Ok.ensures in
    let r = c.in-Ok-started.ensures.replies in
    let t = c.in-Ok-taken.ensures in
    let come = reply_came S _ start _ _ (said c.in-Ok-started.reply) c.args.at k sc d _ r.0 (r.1 S start _ begun (ap (Begin c.args.body) (sym values)) refl) in
    let gives : Gave (plain c.in-Ok-taken.value) ≡ outcome_by (said c.in-Ok-started.reply) c.args.at = t.gives in
    rw (c.hand.ensures.gives, c.hand.ensures.stays.3, t.stays.3) (subst (λ o. Came S c.args.self.now.context.steps start (g.O.ThreadStore.log c.started.new.self.store) (g.O.ThreadStore.private c.started.new.self.store) o k sc d c.args.self.now.left) (sym gives) come)

pub returns-in-Err-taken-clause-came : goal.returns-in-Err-taken-clause-came
returns-in-Err-taken-clause-came g c = λ S start k names d e h len a.
    let sc = scope_of (me_of c.args.self.now.context.me) names c.args.room.now in
    let args = map plain c.args.args.now in
    let found = rw c.as_slice.ensures at c.in-Some.ensures.lookup in
    let there = slice_get_read _ _ c.args.body c.in-Some.block.now refl found.3.0 found.1 in
    let many = len_map plain c.args.args.now ∙ (c.if-args-len.false ∙ c.len.ensures) in
    let begun = same a (starts_so S c.args.self.now.context.program.now c.args.body c.in-Some.block.now args c.args.at k sc d _ e there many) in
    let values = given_is S c.args.body args c.args.self.now.context.me names c.args.slots.now c.args.room.now (map plain c.in-Ok.values.items) len h c.in-Ok.ensures in
    let r = c.in-Ok-started.ensures.replies in
    let t = c.in-Err-taken.ensures in
    let come = reply_came S _ start _ _ (said c.in-Ok-started.reply) c.args.at k sc d _ r.0 (r.1 S start _ begun (ap (Begin c.args.body) (sym values)) refl) in
    let gives : outcome c.in-Err-taken.came c.taken.new.self.value c.taken.new.self.leave ≡ outcome_by (said c.in-Ok-started.reply) c.args.at = t.gives in
    rw (gives, t.stays.3) come

pub returns-in-Err-clause-came : goal.returns-in-Err-clause-came
returns-in-Err-clause-came g c = λ S start k names d e h len a.
    let sc = scope_of (me_of c.args.self.now.context.me) names c.args.room.now in
    let args = map plain c.args.args.now in
    let found = rw c.as_slice.ensures at c.in-Some.ensures.lookup in
    let there = slice_get_read _ _ c.args.body c.in-Some.block.now refl found.3.0 found.1 in
    let many = len_map plain c.args.args.now ∙ (c.if-args-len.false ∙ c.len.ensures) in
    let begun = same a (starts_so S c.args.self.now.context.program.now c.args.body c.in-Some.block.now args c.args.at k sc d _ e there many) in
    let values = given_is S c.args.body args c.args.self.now.context.me names c.args.slots.now c.args.room.now (map plain c.in-Ok.values.items) len h c.in-Ok.ensures in
    c.in-Err.ensures.ends S start _ k sc d begun (ap (Begin c.args.body) (sym values)) refl
