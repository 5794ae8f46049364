use Rattle.std.proofs.Common.{◌++◌, [], ◌∷◌, map, ap, ◌∙◌}
use Rattle.rb_model.specs.Doing.{pair, slot}
use Rattle.rb_model.specs.Values.{plain}
use Rattle.rb_model.specs.Moving.{items_of}
use Rattle.rb_model.specs.Things.{Object, Elements, Pairs}
use Rattle.sharing_trials.specs.Things.{main_id}
use Rattle.sharing_trials.proofs.things.four_things.Goals as goal

pub returns : goal.returns
returns c =
    let came =
    c.in_ok-push-4.ensures.ok ∙ ap (λ l. l ++ c.moving-4.result ∷ [])
    (c.in_ok-push-3.ensures.ok ∙ ap (λ l. l ++ c.moving-3.result ∷ [])
    (c.in_ok-push-2.ensures.ok ∙ ap (λ l. l ++ c.moving-2.result ∷ [])
    (c.in_ok-push.ensures.ok ∙ ap (λ l. l ++ c.moving.result ∷ []) c.new-moved.ensures))) in
    let object = c.moving.ensures ∙ ap (λ fs. record { id = main_id 1; thing = Object 7 (map slot fs) }) c.new.ensures.items in
    let list = c.moving-2.ensures ∙ ap (λ vs. record { id = main_id 2; thing = Elements (map plain vs) }) c.new-2.ensures.items in
    let hash = c.moving-3.ensures ∙ ap (λ ps. record { id = main_id 3; thing = Pairs (map pair ps) }) c.new-3.ensures.items in
    ap items_of came ∙ (λ j. object j ∷ list j ∷ hash j ∷ c.moving-4.ensures j ∷ [])
