use Rattle.std.proofs.Common.{◌∙◌, tests, rules}
use Rattle.std.proofs.lemmas.Iterator.{YieldsList-from_slice}
use Rattle.std.proofs.lemmas.Iterator.Search.{any_from_yields_List}
use Rattle.rb_model.specs.Values.{same_id}
use Rattle.rb_render.proofs.Drafting.{is_open_one}
use Rattle.rb_render.proofs.draft.parts.is_begun.Goals as goal

pub returns : goal.returns
returns c =
    any_from_yields_List (λ b. same_id c.args.thing.id b.thing.id) _ _ c.any.result c.any.ensures.ran (YieldsList-from_slice c.args.begun.now cc) (λ x b q k. search (rules, tests))
    ∙ is_open_one c.args.thing c.args.begun.now
