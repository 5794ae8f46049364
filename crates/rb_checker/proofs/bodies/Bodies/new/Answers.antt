use Rattle.std.proofs.Common.{◌≡◌, ◌∙◌, ap, sym, refl, ◌+◌, ◌-◌, ◌<◌, List, [], ◌∷◌, map, drop, length, length-append, Vec, Global, arith}
use Rattle.std.proofs.lemmas.List.{at_drop_all, drop_more, length-map, map-append}
use Rattle.rb_checker.specs.declared.event.Event.{Event as Seen}
use Rattle.rb_checker.specs.Bodies.{kept_at, Tells}
use Rattle.rb_checker.specs.Events.{bodies_from}
use Rattle.rb_checker.proofs.Kept.{none_kept, next_body}
use Rattle.rb_checker.proofs.bodies.Bodies.new.Goals as goal

abbrev lists : List (Vec Seen Global) → List (List Seen)
lists kept = map (λ (e : Vec Seen Global). e.items) kept

pub backwards-init : goal.backwards-init
backwards-init c =
    let blocks = c.args.blocks.now in
    let none = c.new.ensures.items in
    record {
      counted = omega (arith, ap length none);
      all = refl;
      told = λ n. at_drop_all (λ l. bodies_from (length blocks) l n) blocks (length blocks) (omega arith) ∙ none_kept (length blocks) n ∙ ap (λ l. kept_at (length blocks) (lists l) n) (sym none);
    }

pub backwards-preserved : goal.backwards-preserved
backwards-preserved c =
    let blocks = c.args.blocks.now in
    let block = c.index-blocks-left.result in
    let total = c.backwards.bodies.total in
    let kept = c.backwards.bodies.kept.items in
    let k = c.backwards.left - 1 in
    let count : k + 1 ≡ c.backwards.left = omega (arith, c.backwards-test.true) in
    let counted : k + 1 + length (lists kept) ≡ total = omega (arith, c.backwards-test.true, c.backwards.invariant.counted, length-map kept (λ (e : Vec Seen Global). e.items)) in
    let within : k < length blocks = omega (arith, c.backwards-test.true, c.backwards.invariant.counted, c.backwards.invariant.all) in
    let at : drop k blocks ≡ block ∷ drop (k + 1) blocks = drop_more blocks k block within ∙ ap (λ x. x ∷ drop (k + 1) blocks) (sym c.index-blocks-left.is) in
    let told : Tells total (lists kept) (bodies_from (k + 1) (drop (k + 1) blocks)) = λ n. ap (λ l. bodies_from l (drop l blocks) n) count ∙ c.backwards.invariant.told n in
    let events = c.in_ok-events.events in
    let pushed = c.in_ok-push.ensures.items in
    record {
      counted = omega (arith, ap length pushed, length-append kept (events ∷ []), c.backwards-test.true, c.backwards.invariant.counted);
      all = c.backwards.invariant.all;
      told = λ n. next_body total k blocks block (lists kept) events.items counted at told (c.in_ok-events.ensures _ told) n
          ∙ ap (λ l. kept_at total l n) (sym (ap lists pushed ∙ map-append (λ (e : Vec Seen Global). e.items) kept (events ∷ [])));
    }

pub returns : goal.returns
returns c =
    let none : 0 ≡ c.backwards.left = omega (arith, c.backwards-test.false) in
    λ n. ap (λ l. bodies_from l (drop l c.args.blocks.now) n) none ∙ c.backwards.invariant.told n
