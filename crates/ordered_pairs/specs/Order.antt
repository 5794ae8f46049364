-- The pairs of a hash, as its entries stand for them.
use Rattle.std.specs.Prelude.{List, [], ◌∷◌, ◌++◌}
use Rattle.rb_model.specs.Values.{Value as Val, plain}
use Rattle.rb_model.specs.declared.value.Value.{Value as Held}

abbrev pub pair_of : Held × Held → Val × Val
pair_of e = (plain e.0, plain e.1)

-- the newest entry stands first, and the newest pair last
abbrev pub in_order : List (Held × Held) → List (Val × Val)
in_order [] = []
in_order (e ∷ es) = in_order es ++ pair_of e ∷ []
