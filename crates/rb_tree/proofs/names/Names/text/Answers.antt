use Rattle.std.proofs.Common.{List, ℕ, Some, Vec, ap, sym, ◌∙◌, subst}
use Rattle.std.specs.Option.{option_map}
use Rattle.std.specs.List.{slice_get}
use Rattle.std.specs.declared.alloc.Global.{Global}
use Rattle.std.proofs.lemmas.Option.{slice_get-map}
use Rattle.rb_tree.specs.Texts.{AreDifferent}
use Rattle.rb_tree.proofs.Numbering.{number_of-slice_get}
use Rattle.rb_tree.proofs.names.Names.text.Goals as goal

pub returns-clause-number : goal.returns-clause-number
returns-clause-number c =
    let items = λ (t : Vec ℕ Global). t.items in
    let there =
    ap (λ names. slice_get names c.args.id.0) (sym c.self.view_is)
    ∙ (slice_get-map items c.self.inside.texts.keys c.args.id.0 ∙ (ap (option_map items) c.index.ensures ∙ ap Some (sym c.as_slice.ensures.value))) in
    number_of-slice_get c.as_slice.result.now c.args.self.now c.args.id (subst (λ (names : List (List ℕ)). AreDifferent names) c.self.view_is c.self.invariant.1) c.requires there
