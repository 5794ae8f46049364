use Rattle.std.proofs.Common.{◌∙◌, ◌++◌, List, ℕ, ap}
use Rattle.std.specs.Prelude.{codes}
use Rattle.rb_tree.specs.Texts.{number_of}
use Rattle.rb_resolver.proofs.stores.writer_of.Goals as goal

pub returns : goal.returns
returns c =
    c.find.ensures.found
    ∙ ap (λ (text : List ℕ). number_of text c.args.names.now) (c.as_slice.ensures.value ∙ c.in_ok-push.ensures.items ∙ ap (λ (text : List ℕ). text ++ codes "=") (c.in_ok-text.ensures.items ∙ c.name_text.ensures))
