-- What each name finds among the methods of classes, in their order.
use Rattle.std.specs.Prelude.{ℕ, suc, Bool, not, ◌&&◌, ◌==◌, if◌then◌else◌, List, [], ◌∷◌, ◌++◌, slice_get, unwrap_or}
use Rattle.std.specs.List.{list_all}
use Rattle.std.specs.Str.{bytes_eq}
use Rattle.rb_tree.specs.declared.node.Class.{Class}
use Rattle.rb_tree.specs.declared.node.Method.{Method}
use Rattle.rb_machine.specs.Scopes.{Text, name_text}
use Rattle.rb_accepted.specs.Coded.{begins_word}
use Rattle.rb_code.specs.declared.scripted.Found.{Found}
use Rattle.rb_code.specs.Dispatch.{is_operator}

-- what a table has for the number of a name
abbrev pub row_at : List (List Found) → ℕ → List Found
row_at rows name = unwrap_or (slice_get rows name) []

-- what the number of a name finds among methods of the class of a number, of which the first has this number
abbrev pub found_in : (class name number : ℕ) → List Method → List Found
found_in class name number [] = []
found_in class name number (m ∷ ms) = (if m.name.0 == name then (record { class = class; method = number }) ∷ [] else []) ++ found_in class name (suc number) ms

-- and among those of classes
abbrev pub found_in_all : (name class : ℕ) → List Class → List Found
found_in_all name class [] = []
found_in_all name class (k ∷ ks) = found_in class name 0 k.methods ++ found_in_all name (suc class) ks

-- the text of a name that a method of a class may have
abbrev pub is_plain : Text → Bool
is_plain text = not (bytes_eq text []) && not (is_operator text)

abbrev pub has_plain : List Text → Method → Bool
has_plain names m = is_plain (name_text names m.name)

abbrev pub are_plain : List Text → List Method → Bool
are_plain names methods = list_all (has_plain names) methods

abbrev pub all_plain : List Text → List Class → Bool
all_plain names classes = list_all (λ (k : Class). are_plain names k.methods) classes

-- whether the names of methods are words, and so those of the methods of classes
abbrev pub have_words : List Text → List Method → Bool
have_words names methods = list_all (λ (m : Method). begins_word (name_text names m.name)) methods

abbrev pub all_have_words : List Text → List Class → Bool
all_have_words names classes = list_all (λ (k : Class). have_words names k.methods) classes
