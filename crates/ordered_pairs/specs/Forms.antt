-- The forms in which a hash holds its pairs.
use Rattle.std.specs.Prelude.{◌≡◌, true, List}
use Rattle.rb_model.specs.Values.{Value as Val}
use Rattle.ordered_pairs.specs.declared.pairs.Form.{Form}
use Rattle.ordered_pairs.specs.declared.pairs.Form.TheVariants.{Few, Indexed}
use Rattle.ordered_pairs.specs.Few.{has_place}

-- the pairs, whatever the form
abbrev pub form_pairs : Form → List (Val × Val)
form_pairs (Few pairs) = pairs
form_pairs (Indexed pairs) = pairs.value

-- a key has a place: in the row, or in the index, which has one for each
abbrev pub HasPlace : Val → Form → Type 0
HasPlace key (Few pairs) = has_place key pairs ≡ true
HasPlace key (Indexed pairs) = Unit {0}
