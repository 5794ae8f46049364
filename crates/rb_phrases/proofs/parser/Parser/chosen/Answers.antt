use Rattle.std.proofs.Common.{length, arith, refl, ap, ◌∙◌, subst, [], ◌∷◌}
use Rattle.rb_cursor.proofs.Steps.{carry, handed_on, built_low}
use Rattle.rb_builder.specs.Builder.{walk_of}
use Rattle.rb_builder.specs.Grown.{IsTree}
use Rattle.rb_phrases.proofs.Outside as out
use Rattle.rb_phrases.proofs.Ends as ends
use Rattle.rb_cursor.proofs.Steps.{through}
use Rattle.rb_phrases.specs.Arms.{AreArms, choice_of, closed_by}
use Rattle.std.proofs.lemmas.List.{length-append}
use Rattle.rb_phrases.proofs.parser.Parser.chosen.Goals as goal

pub arms-init : goal.arms-init
arms-init c = λ a others trees h i j. record { left = others; last = trees; are_left = i; is_last = j; comes = λ s. refl }

pub returns-in_err-choice : goal.returns-in_err-choice
returns-in_err-choice c = λ a others trees s h i j.
    let here = c.arms.invariant a others trees h i j in
    let parts = out.parted (walk_of c.args.self.make) c.pop.new.self c.in-Some.arm here.left (subst (λ x. AreArms (walk_of c.args.self.make) x here.left) c.in-Some.ensures here.are_left) in
    handed_on (IsTree (walk_of c.args.self.make)) s c.from_residual.result c.from_residual.ensures.1
    (through (here.comes s ∙ out.one_arm c.args.self.levels a here.left parts.front parts.last here.last s parts.split)
    (ends.unbuilt (walk_of c.args.self.make) (choice_of parts.last here.last) c.args.self.levels (closed_by parts.front (choice_of parts.last here.last ∷ []) (out.choosing a)) s c.in_err-choice.field-0.0 (c.in_err-choice.ensures parts.last here.last parts.is_last here.is_last)))

pub returns-in_err-rest : goal.returns-in_err-rest
returns-in_err-rest c = λ a others trees s h i j. handed_on (IsTree (walk_of c.args.self.make)) s c.from_residual-in_err-rest.result (c.from_residual-in_err-rest.ensures.1) (out.memory_fails c.in_err-rest.ensures.memory)

pub same-more : goal.same-more
same-more c = refl

pub arms-smaller : goal.arms-smaller
arms-smaller c = let e = ap length c.in-Some.ensures ∙ length-append c.pop.new.self (c.in-Some.arm ∷ []) in omega (arith, e)

pub arms-preserved : goal.arms-preserved
arms-preserved c = λ a others trees h i j.
    let here = c.arms.invariant a others trees h i j in
    let parts = out.parted (walk_of c.args.self.make) c.pop.new.self c.in-Some.arm here.left (subst (λ x. AreArms (walk_of c.args.self.make) x here.left) c.in-Some.ensures here.are_left) in
    let built = c.in_ok-choice.ensures parts.last here.last parts.is_last here.is_last in
    record {
      left = parts.front;
      last = choice_of parts.last here.last ∷ [];
      are_left = parts.are_front;
      is_last = c.in_ok-rest.ensures.ok (choice_of parts.last here.last) built.0;
      comes = λ s. here.comes s ∙ out.one_arm c.args.self.levels a here.left parts.front parts.last here.last s parts.split ∙ built_low c.args.self.levels (choice_of parts.last here.last) (closed_by parts.front (choice_of parts.last here.last ∷ []) (out.choosing a)) s built.1;
    }

pub returns : goal.returns
returns c = λ a others trees s h i j.
    let here = c.arms.invariant a others trees h i j in
    carry (IsTree (walk_of c.args.self.make)) s c.chosen_by-2.result (here.comes s)
    (out.all_chosen (walk_of c.args.self.make) c.args.self.levels a here.left here.last s c.chosen_by-2.result (out.none_left (walk_of c.args.self.make) c.arms.more here.left c.in_default.ensures.0 here.are_left) (c.chosen_by-2.ensures a here.last h here.is_last))
