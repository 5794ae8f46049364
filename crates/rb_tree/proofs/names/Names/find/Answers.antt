use Rattle.std.proofs.Common.{ap, sym, ◌∙◌}
use Rattle.std.specs.Option.{option_map}
use Rattle.std.specs.Str.{bytes_eq}
use Rattle.rb_tree.specs.Texts.{number_of}
use Rattle.rb_tree.proofs.Numbering.{position-map}
use Rattle.rb_tree.proofs.names.Names.find.Goals as goal

pub returns-in_err-at-clause-found : goal.returns-in_err-at-clause-found
returns-in_err-at-clause-found c =
    c.from_residual.ensures
    ∙ ap (option_map (λ n. record { 0 = n })) (sym (c.in_err-at.was) ∙ c.get_index_of.ensures.index ∙ sym (position-map (bytes_eq c.args.text.now) (λ t. t.items) c.self.inside.texts.keys))
    ∙ ap (number_of c.args.text.now) c.self.view_is

pub returns-clause-found : goal.returns-clause-found
returns-clause-found c =
    ap (option_map (λ n. record { 0 = n })) (c.in_ok-at.ensures.index ∙ sym (position-map (bytes_eq c.args.text.now) (λ t. t.items) c.self.inside.texts.keys))
    ∙ ap (number_of c.args.text.now) c.self.view_is
