-- How the methods of classes are found: by the text of a name in the script, by the number of a name in a resolved one.
use Rattle.std.specs.Prelude.{ℕ, ◌==◌, if◌then◌else◌, Bool, is_none, List, [], ◌∷◌, ◌++◌, Option, Some, None, position, slice_get, unwrap_or, option_and_then, codes}
use Rattle.std.specs.List.{list_all, list_any}
use Rattle.std.specs.Str.{bytes_eq}
use Rattle.rb_tree.specs.declared.span.NameId.{NameId}
use Rattle.rb_tree.specs.declared.node.Method.{Method}
use Rattle.rb_tree.specs.declared.node.Class.{Class}
use Rattle.rb_machine.specs.Scopes.{Script, Text, text_of}
use Rattle.rb_machine.specs.Call.{methods_in}
use Rattle.rb_code.specs.declared.scripted.CodeClass.{CodeClass}
use Rattle.rb_code.specs.declared.scripted.CodeMethod.{CodeMethod}
use Rattle.rb_code.specs.declared.scripted.Found.{Found}
use Rattle.rb_code.specs.declared.scripted.CodeScript.{CodeScript}

-- which method of a class is among those found
abbrev pub method_in : ℕ → List Found → Option ℕ
method_in class [] = None
method_in class (f ∷ fs) = if f.class == class then Some f.method else method_in class fs

-- and among those that a name finds in a resolved script
abbrev pub found_by : CodeScript → NameId → ℕ → Option ℕ
found_by c name class = method_in class (unwrap_or (slice_get c.dispatch name.0) [])

-- the methods of a resolved class
abbrev pub methods_held : Option CodeClass → List CodeMethod
methods_held None = []
methods_held (Some class) = class.methods

-- the method of a number among those of the class of a number
abbrev pub method_at : CodeScript → ℕ → ℕ → Option CodeMethod
method_at c class method = slice_get (methods_held (slice_get c.classes class)) method

-- the method that a name finds in a class
abbrev pub method_by : CodeScript → NameId → ℕ → Option CodeMethod
method_by c name class = option_and_then (method_at c class) (found_by c name class)

-- the texts of operators and of brackets
abbrev pub operators : List Text
operators = codes "+" ∷ codes "-" ∷ codes "*" ∷ codes "/" ∷ codes "%" ∷ codes "[]" ∷ codes "[]=" ∷ []

abbrev pub is_operator : Text → Bool
is_operator text = list_any (bytes_eq text) operators

module _ (S : Script) where
  abbrev pub has_text : Text → Method → Bool
  has_text text m = bytes_eq (text_of S m.name) text

  -- the number of the method of a text among those of a class
  abbrev pub number_in : Text → Class → Option ℕ
  number_in text class = position (has_text text) class.methods

  -- and among those of the class of a number
  abbrev pub method_number : Text → ℕ → Option ℕ
  method_number text class = position (has_text text) (methods_in S (slice_get S.program.classes class))

  -- no class has a method of this text
  abbrev pub in_no_class : Text → Bool
  in_no_class text = list_all (λ (c : Class). is_none (number_in text c)) S.program.classes

  -- the name of the methods that write an attribute, where there is one
  abbrev pub is_writer : Option NameId → NameId → Bool
  is_writer None name = in_no_class (text_of S name ++ codes "=")
  is_writer (Some writer) name = bytes_eq (text_of S writer) (text_of S name ++ codes "=")
