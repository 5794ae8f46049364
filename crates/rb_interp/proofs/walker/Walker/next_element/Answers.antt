use Rattle.std.proofs.Common.{◌≡◌, ◌∙◌, ◌∷◌, sym, to_z, w64, arith}
use Rattle.std.proofs.lemmas.Int.{to_z_pos}
use Rattle.std.specs.Prelude.{pos}
use Rattle.rb_machine.specs.Control.{Then, ElementBelow, WithElement}
use Rattle.rb_builtin.specs.Deeds.{thing_of}
use Rattle.rb_walk.proofs.Outcomes.{given, passes}
use Rattle.rb_walk.proofs.Walks.{asks_length, asks_element, no_element}
use Rattle.rb_interp.proofs.walker.Walker.next_element.Goals as goal

pub returns-then-is_left-clause-some : goal.returns-then-is_left-clause-some
returns-then-is_left-clause-some g c = λ walk block S start k sc d a.
    let t = thing_of c.args.array in
    let step = ElementBelow t c.args.next walk block c.args.at in
    let y = c.ask-length in
    let come = y.ensures.came S start (Then step ∷ k) sc d (asks_length a) in
    (λ e. passes S _ start _ y.result y.new.self.value y.new.self.leave _ step k sc d _ e come, λ e. let f = sym e ∙ (sym c.is_left.ensures ∙ c.if-is_left.true) in absurd (cc))

pub returns-then-not-is_above-clause-none : goal.returns-then-not-is_above-clause-none
returns-then-not-is_above-clause-none g c = λ is walk block S start k sc d a.
    let t = thing_of c.args.array in
    let step = ElementBelow t c.args.next walk block c.args.at in
    let y = c.ask-length in
    let none = sym c.is_left.ensures ∙ c.if-is_left.false in
    let come = y.ensures.came S start (Then step ∷ k) sc d (asks_length a) in
    no_element (sym (c.is_above.ensures none) ∙ c.if-not-is_above.true) (given y.result y.new.self.value y.new.self.leave none come)

pub returns-clause-some : goal.returns-clause-some
returns-clause-some g c = λ walk block S start k sc d a.
    let t = thing_of c.args.array in
    let step = ElementBelow t c.args.next walk block c.args.at in
    let y = c.ask-length in
    let none = sym c.is_left.ensures ∙ c.if-is_left.false in
    let come = y.ensures.came S start (Then step ∷ k) sc d (asks_length a) in
    let there = asks_element (sym (c.is_above.ensures none) ∙ c.if-not-is_above.false) (given y.result y.new.self.value y.new.self.leave none come) in
    let behind = WithElement t c.args.next walk block c.args.at in
    let place : to_z w64 c.args.next ≡ pos c.args.next = to_z_pos w64 c.args.next (omega (arith, c.ranges.next.fits)) in
    let f = rw (place, y.ensures.stays.1, y.ensures.stays.2) at c.element.ensures.came in
    let found = f S start (Then behind ∷ k) sc d there in
    (λ e. passes S _ start _ c.element.result c.element.new.self.value c.element.new.self.leave _ behind k sc d _ e found, λ e. found)
