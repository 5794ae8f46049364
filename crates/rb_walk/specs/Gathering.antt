-- Values that are gathered for new arrays and hashes.
use Rattle.std.specs.Prelude.{List, [], ◌∷◌, map}
use Rattle.rb_model.specs.Values.{Value as Val}
use Rattle.rb_model.specs.Things.{key_of}
use Rattle.rb_builtin.specs.declared.deed.Purpose.{Purpose}
use Rattle.rb_builtin.specs.declared.deed.Purpose.TheVariants as purpose

-- keys and values by turns, as pairs
abbrev pub paired_up : List Val → List (Val × Val)
paired_up (k ∷ v ∷ vs) = (k, v) ∷ paired_up vs
paired_up others = []

-- the keys of pairs, or the values
abbrev pub parts_in : Purpose → List (Val × Val) → List Val
parts_in purpose.Keys ps = map key_of ps
parts_in purpose.Values ps = map (λ (p : Val × Val). p.1) ps
