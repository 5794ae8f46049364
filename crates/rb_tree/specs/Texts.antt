-- The names of a script, as a list of texts.
use Rattle.std.specs.Prelude.{ℕ, List, [], ◌∷◌, ◌++◌, Option, position, if◌then◌else◌}
use Rattle.std.specs.Option.{option_map}
use Rattle.std.specs.List.{list_any, IsDistinct}
use Rattle.std.specs.Str.{bytes_eq}
use Rattle.rb_tree.specs.declared.span.NameId.{NameId}

-- the number of a text: its place in the list
abbrev pub number_of : List ℕ → List (List ℕ) → Option NameId
number_of text names = option_map (λ n. record { 0 = n }) (position (bytes_eq text) names)

-- the names once a text is among them
abbrev pub with_text : List (List ℕ) → List ℕ → List (List ℕ)
with_text names text = if list_any (bytes_eq text) names then names else names ++ text ∷ []

-- no two of the texts are the same
abbrev pub AreDifferent : List (List ℕ) → Type 0
AreDifferent names = IsDistinct bytes_eq names
