-- The texts of values, and what `puts`, `print` and `p` show.
use Rattle.std.specs.Prelude.{ℕ, Bool, false, ◌==◌, ◌||◌, if◌then◌else◌, List, [], ◌∷◌, ◌++◌, Option, Some, None, length, ◌-◌, slice_get, codes}
use Rattle.std.specs.Fmt.{signed_decimal}
use Rattle.rb_tree.specs.declared.node.Program.{Program}
use Rattle.rb_tree.specs.declared.node.Class.{Class}
use Rattle.rb_model.specs.declared.value.Sort.{Sort}
use Rattle.rb_model.specs.declared.value.Sort.TheVariants as sort
use Rattle.rb_model.specs.Values.{Value, Nil, False, True, Int, Sym, Str, To}
use Rattle.rb_machine.specs.Scopes.{Text, name_text}
use Rattle.rb_machine.specs.Control.{Style, Lines, Plain, Inspecting}

-- how many bytes one text has at most, and one print
abbrev pub max_bytes : ℕ
max_bytes = 16777216

-- `#` is escaped where it would begin code or a variable in a text
abbrev pub begins_code : List ℕ → Bool
begins_code [] = false
begins_code (b ∷ bs) = b == 123 || (b == 36 || b == 64)

-- a line feed, a tab, `"`, `\` and such a `#` are escaped; every other byte stands as it is
abbrev pub escaped_byte : ℕ → List ℕ → List ℕ
escaped_byte b behind =
    if b == 10 then codes "\\n"
    else (if b == 9 then codes "\\t"
    else (if b == 34 then codes "\\\""
    else (if b == 92 then codes "\\\\"
    else (if b == 35 then (if begins_code behind then codes "\\#" else codes "#") else b ∷ []))))

abbrev pub escaped : List ℕ → List ℕ
escaped [] = []
escaped (b ∷ bs) = escaped_byte b bs ++ escaped bs

abbrev pub is_feed : Option ℕ → Bool
is_feed None = false
is_feed (Some b) = b == 10

-- whether the last byte of a text is a line feed
abbrev pub ends_line : Text → Bool
ends_line text = is_feed (slice_get text (length text - 1))

-- a text and a line feed, unless it ends with one
abbrev pub line_of : Text → Text
line_of text = if ends_line text then text else text ++ 10 ∷ []

module _ (P : Program) where
  -- the name of a class, empty where there is no such class
  abbrev pub class_text : Option Class → Text
  class_text None = []
  class_text (Some class) = name_text P.names class.name

  -- how a thing is told by its class; an array or a hash is read for its text, and has none of its own
  abbrev pub told : Sort → Text
  told (sort.Object class) = codes "#<" ++ class_text (slice_get P.classes class) ++ codes ">"
  told sort.Thread = codes "#<Thread>"
  told sort.Mutex = codes "#<Mutex>"
  told collection = []

  -- the text of a value, as far as no `to_s` of a script is asked for it
  abbrev pub shown : Value → Text
  shown Nil = []
  shown False = codes "false"
  shown True = codes "true"
  shown (Int n) = signed_decimal n
  shown (Sym name) = name_text P.names name
  shown (Str bytes) = bytes
  shown (To thing) = told thing.sort

  -- the inspected form
  abbrev pub inspected : Value → Text
  inspected Nil = codes "nil"
  inspected False = codes "false"
  inspected True = codes "true"
  inspected (Int n) = signed_decimal n
  inspected (Sym name) = 58 ∷ name_text P.names name
  inspected (Str bytes) = 34 ∷ escaped bytes ++ 34 ∷ []
  inspected (To thing) = told thing.sort

-- how a text joins what is printed
abbrev pub styled : Style → Text → Text
styled Lines text = line_of text
styled Plain text = text
styled (Inspecting args) text = text ++ 10 ∷ []
