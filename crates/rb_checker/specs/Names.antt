-- The names of a script, and those that are built in.
use Rattle.std.specs.Prelude.{ℕ, Bool, false, ◌==◌, List, [], ◌∷◌, ◌++◌, Option, Some, None, codes}
use Rattle.std.specs.List.{list_any}
use Rattle.std.specs.Str.{bytes_eq}
use Rattle.rb_tree.specs.declared.span.NameId.{NameId}

abbrev pub Text : Type 0
Text = List ℕ

-- whether a name is among these
abbrev pub is_among : NameId → List NameId → Bool
is_among name names = list_any (λ (n : NameId). n.0 == name.0) names

-- whether a text is one of these
abbrev pub text_among : Option Text → List Text → Bool
text_among None texts = false
text_among (Some text) texts = list_any (bytes_eq text) texts

-- the methods that every script has
abbrev pub built_in_methods : List Text
built_in_methods = codes "puts" ∷ codes "print" ∷ codes "p" ∷ []

-- the classes of collections
abbrev pub collections : List Text
collections = codes "Array" ∷ codes "Hash" ∷ []

-- the classes of threads and what they share
abbrev pub thread_classes : List Text
thread_classes = codes "Mutex" ∷ codes "Thread" ∷ []

-- the classes that a script may make objects of without defining them
abbrev pub built_in_classes : List Text
built_in_classes = collections ++ thread_classes

-- classes that are there, of which no script makes objects by `new`
abbrev pub value_classes : List Text
value_classes = codes "Queue" ∷ codes "Object" ∷ codes "String" ∷ codes "Integer" ∷ codes "Symbol" ∷ []

-- the names that no class of a script may have
abbrev pub taken_classes : List Text
taken_classes = built_in_classes ++ value_classes
