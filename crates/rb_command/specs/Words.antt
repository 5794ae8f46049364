-- What the words of a command line ask for.
use Rattle.std.specs.Prelude.{ℕ, ◌==◌, ◌&&◌, ◌||◌, is_some, Bool, true, false, List, [], ◌∷◌, length, Option, Some, None, option_map, option_and_then, unwrap_or, if◌then◌else◌, nat_le, codes}
use Rattle.std.specs.List.{list_all, list_any, before_first, after_first}
use Rattle.std.specs.Char.{is_ascii_digit}
use Rattle.std.specs.Str.{bytes_eq}
use Rattle.std.specs.Str.Parse.{digits_value}

abbrev pub Text : Type 0
Text = List ℕ

-- ---- a word

-- the options
pub data Name : Type 0 where
  steps : Name
  heap_words : Name

-- What a word is, before `--`: the end of the options, an option with its value if that is in the same word, no word of the program, or
-- another.
pub data Kind : Type 0 where
  ends : Kind
  option : Name → Option Text → Kind
  refused : Kind
  other : Kind

abbrev pub is_equals_sign : ℕ → Bool
is_equals_sign byte = byte == 61

-- what stands before the first `=`, and what stands behind it
abbrev pub name_part : Text → Text
name_part word = before_first is_equals_sign word

abbrev pub value_part : Text → Option Text
value_part word = if list_any is_equals_sign word then Some (after_first is_equals_sign word) else None

abbrev pub begins_with_hyphen : Text → Bool
begins_with_hyphen [] = false
begins_with_hyphen (byte ∷ word) = byte == 45

abbrev pub kind_of : Text → Kind
kind_of word = if bytes_eq word (codes "--") then ends
    else (if bytes_eq (name_part word) (codes "--steps") then option steps (value_part word)
    else (if bytes_eq (name_part word) (codes "--heap-words") then option heap_words (value_part word)
    else (if begins_with_hyphen word then refused else other)))

-- ---- numbers

-- 1 to 19 digits
abbrev pub is_numeral : Text → Bool
is_numeral word = nat_le 1 (length word) && (nat_le (length word) 19 && list_all is_ascii_digit word)

abbrev pub within : ℕ → ℕ → ℕ → Option ℕ
within least most number = if nat_le least number && nat_le number most then Some number else None

-- the number that the word writes, where it is in the range
abbrev pub number_in : ℕ → ℕ → Text → Option ℕ
number_in least most word = if is_numeral word then within least most (digits_value 10 word) else None

abbrev pub least_of : Name → ℕ
least_of steps = 1
least_of heap_words = 4096

abbrev pub most_of : Name → ℕ
most_of steps = 1000000000000
most_of heap_words = 134217728

-- where the option is not given
abbrev pub default_of : Name → ℕ
default_of steps = 100000000
default_of heap_words = 1048576

abbrev pub number_of : Name → Text → Option ℕ
number_of name word = number_in (least_of name) (most_of name) word

-- ---- the words behind the command

-- what the words so far gave
pub record Given : Type 0 where
  pub file : Option Text
  pub steps : Option ℕ
  pub heap_words : Option ℕ

abbrev pub nothing_given : Given
nothing_given = record { file = None; steps = None; heap_words = None }

-- the value, where there is none before it
abbrev pub once : {X : Type 0} → Option X → X → Option X
once None value = Some value
once (Some before) value = None

abbrev pub with_file : Text → Given → Option Given
with_file word given = option_map (λ file. record given { file = Some file }) (once given.file word)

abbrev pub with_number : Name → ℕ → Given → Option Given
with_number steps number given = option_map (λ n. record given { steps = Some n }) (once given.steps number)
with_number heap_words number given = option_map (λ n. record given { heap_words = Some n }) (once given.heap_words number)

abbrev pub with_value : Name → Text → Given → Option Given
with_value name word given = option_and_then (λ number. with_number name number given) (number_of name word)

-- behind `--` each word is a FILE
abbrev pub files : List Text → Given → Option Given
files [] given = Some given
files (word ∷ rest) given = option_and_then (files rest) (with_file word given)

-- a word of this kind, and then what `next` makes of the rest, which may have to begin with a value
abbrev pub reads_on : Kind → Text → List Text → (Option Name → Given → Option Given) → Given → Option Given
reads_on ends word rest next given = files rest given
reads_on (option name None) word rest next given = next (Some name) given
reads_on (option name (Some value)) word rest next given = option_and_then (next None) (with_value name value given)
reads_on refused word rest next given = None
reads_on other word rest next given = option_and_then (next None) (with_file word given)

-- what the words give; where an option waits, the first is its value, whatever it looks like
abbrev pub reads : Option Name → List Text → Given → Option Given
reads None [] given = Some given
reads (Some name) [] given = None
reads None (word ∷ rest) given = reads_on (kind_of word) word rest (λ pending now. reads pending rest now) given
reads (Some name) (word ∷ rest) given = option_and_then (reads None rest) (with_value name word given)

-- ---- the words behind `work`

-- the two numbers that it is told
pub data Part : Type 0 where
  number : Part
  size : Part

abbrev pub least_part : Part → ℕ
least_part number = 0
least_part size = 1

abbrev pub most_part : Part → ℕ
most_part number = 2147483647
most_part size = 100000

-- the part that is named before `=`
abbrev pub part_named : Text → Option Part
part_named name = if bytes_eq name (codes "--number") then Some number else (if bytes_eq name (codes "--size") then Some size else None)

-- an option in front of the words, with its value, and the words behind both
pub record Front : Type 0 where
  pub part : Part
  pub value : ℕ
  pub rest : List Text

-- a value that is a number in the range of its part
abbrev pub front_with : Part → Text → List Text → Option Front
front_with part word rest = option_map (λ n. record { part = part; value = n; rest = rest }) (number_in (least_part part) (most_part part) word)

-- the value stands in the word of the option, or else is the next word
abbrev pub front_by : Part → Option Text → List Text → Option Front
front_by part (Some value) rest = front_with part value rest
front_by part None [] = None
front_by part None (word ∷ rest) = front_with part word rest

abbrev pub front_of : List Text → Option Front
front_of [] = None
front_of (word ∷ rest) = option_and_then (λ part. front_by part (value_part word) rest) (part_named (name_part word))

-- no word is left, but for one `--`
abbrev pub nothing_left : List Text → Bool
nothing_left [] = true
nothing_left (word ∷ []) = bytes_eq word (codes "--")
nothing_left (word ∷ next ∷ rest) = false

pub record Work : Type 0 where
  pub number : ℕ
  pub size : ℕ

-- both parts, whichever stands first
abbrev pub work_of : Part → ℕ → Part → ℕ → Option Work
work_of number n size m = Some (record { number = n; size = m })
work_of size m number n = Some (record { number = n; size = m })
work_of number n number m = None
work_of size n size m = None

abbrev pub work_by : Front → Front → Option Work
work_by first second = if nothing_left second.rest then work_of first.part first.value second.part second.value else None

-- what the words tell: two options, one behind the other
abbrev pub work_in : List Text → Option Work
work_in words = option_and_then (λ first. option_and_then (work_by first) (front_of first.rest)) (front_of words)

-- ---- the command line

pub record Run : Type 0 where
  pub file : Text
  pub steps : ℕ
  pub heap_words : ℕ

-- what the program is asked to do: to run a script, or to tell the shapes of its objects behind that; or to run the script that it has
pub data Wanted : Type 0 where
  run : Run → Wanted
  shapes : Run → Wanted
  work : Work → Wanted

-- a run wants a FILE
abbrev pub run_of : Given → Option Run
run_of given = option_map (λ file. record {
  file = file;
  steps = unwrap_or given.steps (default_of steps);
  heap_words = unwrap_or given.heap_words (default_of heap_words);
}) given.file

-- the run that the words behind the command tell
abbrev pub run_in : List Text → Option Run
run_in words = option_and_then run_of (reads None words nothing_given)

-- the run of a FILE that they tell alone, without an option
abbrev pub plain_run_of : Given → Option Run
plain_run_of given = if is_some given.steps || is_some given.heap_words then None else run_of given

abbrev pub plain_run_in : List Text → Option Run
plain_run_in words = option_and_then plain_run_of (reads None words nothing_given)

-- what the words ask for, without the program's own name; none where they are no words of the program
abbrev pub command_of : List Text → Option Wanted
command_of [] = None
command_of (word ∷ rest) =
    if bytes_eq word (codes "run") then option_map run (run_in rest)
    else (if bytes_eq word (codes "shapes") then option_map shapes (plain_run_in rest)
    else (if bytes_eq word (codes "work") then option_map work (work_in rest) else None))
