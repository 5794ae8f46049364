-- The words behind the command, with the values of options as texts: what is read before the numbers are.
use Rattle.std.specs.Prelude.{ℕ, ◌==◌, ◌&&◌, ◌||◌, is_some, Bool, false, not, List, [], ◌∷◌, Option, Some, None, option_map, option_and_then, if◌then◌else◌, codes}
use Rattle.std.specs.Str.{bytes_eq}
use Rattle.rb_command.specs.Words.{Text, Name, Kind, steps, heap_words, ends, option, refused, other, once, kind_of, begins_with_hyphen, number_in, least_of, most_of, default_of, Run}

-- ---- words with one hyphen

-- the word is `-`, or begins with one hyphen alone
abbrev pub has_one_hyphen : Text → Bool
has_one_hyphen [] = false
has_one_hyphen (byte ∷ []) = byte == 45
has_one_hyphen (byte ∷ next ∷ word) = byte == 45 && not (next == 45)

-- such a word stands before the first `--`
abbrev pub any_has_one_hyphen : List Text → Bool
any_has_one_hyphen [] = false
any_has_one_hyphen (word ∷ rest) = not (bytes_eq word (codes "--")) && (has_one_hyphen word || any_has_one_hyphen rest)

-- ---- what the words give

pub record Parts : Type 0 where
  pub file : Option Text
  pub steps : Option Text
  pub heap_words : Option Text

abbrev pub no_parts : Parts
no_parts = record { file = None; steps = None; heap_words = None }

abbrev pub part_file : Text → Parts → Option Parts
part_file word parts = option_map (λ file. record parts { file = Some file }) (once parts.file word)

abbrev pub part_text : Name → Text → Parts → Option Parts
part_text steps word parts = option_map (λ text. record parts { steps = Some text }) (once parts.steps word)
part_text heap_words word parts = option_map (λ text. record parts { heap_words = Some text }) (once parts.heap_words word)

-- a value in a word of its own: what begins with a hyphen is none
abbrev pub part_value : Name → Text → Parts → Option Parts
part_value name word parts = if begins_with_hyphen word then None else part_text name word parts

abbrev pub part_files : List Text → Parts → Option Parts
part_files [] parts = Some parts
part_files (word ∷ rest) parts = option_and_then (part_files rest) (part_file word parts)

abbrev pub part_on : Kind → Text → List Text → (Option Name → Parts → Option Parts) → Parts → Option Parts
part_on ends word rest next parts = part_files rest parts
part_on (option name None) word rest next parts = next (Some name) parts
part_on (option name (Some value)) word rest next parts = option_and_then (next None) (part_text name value parts)
part_on refused word rest next parts = None
part_on other word rest next parts = option_and_then (next None) (part_file word parts)

-- what the words give; where an option waits, the first is its value
abbrev pub parts_of : Option Name → List Text → Parts → Option Parts
parts_of None [] parts = Some parts
parts_of (Some name) [] parts = None
parts_of None (word ∷ rest) parts = part_on (kind_of word) word rest (λ pending now. parts_of pending rest now) parts
parts_of (Some name) (word ∷ rest) parts = option_and_then (parts_of None rest) (part_value name word parts)

-- ---- the line

pub record Line : Type 0 where
  pub file : Text
  pub steps : Option Text
  pub heap_words : Option Text

-- a line has a FILE
abbrev pub whole : Parts → Option Line
whole parts = option_map (λ file. record { file = file; steps = parts.steps; heap_words = parts.heap_words }) parts.file

abbrev pub line_of : List Text → Option Line
line_of words = option_and_then whole (parts_of None words no_parts)

-- ---- the numbers

-- the number of an option, or what stands where it is not given
abbrev pub chosen : ℕ → ℕ → ℕ → Option Text → Option ℕ
chosen least most default None = Some default
chosen least most default (Some word) = number_in least most word

abbrev pub number_for : Name → Option Text → Option ℕ
number_for name text = chosen (least_of name) (most_of name) (default_of name) text

abbrev pub run_of_line : Line → Option Run
run_of_line line = option_and_then (λ number. option_map (λ words. record { file = line.file; steps = number; heap_words = words })
    (number_for heap_words line.heap_words)) (number_for steps line.steps)

-- a line without an option
abbrev pub plain_run_of_line : Line → Option Run
plain_run_of_line line = if is_some line.steps || is_some line.heap_words then None else run_of_line line
