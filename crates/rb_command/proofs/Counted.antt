-- Reading the words and then the numbers is reading the words with their numbers.
use Rattle.std.proofs.Common.{ℕ, ◌≡◌, ◌∙◌, ap, ap₂, sym, subst, Bool, true, false, List, [], ◌∷◌, length, Option, Some, None, option_map, refl}
use Rattle.std.specs.Prelude.{◌&&◌, if◌then◌else◌, option_and_then, nat_le}
use Rattle.std.specs.Str.Parse.{digits_value}
use Rattle.std.proofs.lemmas.Bool.{eqb-true}
use Rattle.rb_command.specs.Words.{Text, Name, Kind, Given, steps, heap_words, ends, option, refused, other, kind_of, begins_with_hyphen, number_of, within, least_of, most_of, with_file, with_number, with_value, files, reads_on, reads, run_of, run_in, plain_run_of, plain_run_in, default_of}
use Rattle.rb_command.specs.Line.{Parts, no_parts, parts_of, part_files, part_file, part_text, part_value, part_on, whole, line_of, run_of_line, plain_run_of_line}

-- ---- the numbers of the parts

abbrev counted_text : Name → Option Text → Option (Option ℕ)
counted_text name None = Some None
counted_text name (Some text) = option_map (λ n. Some n) (number_of name text)

abbrev counted_by : Option Text → Option (Option ℕ) → Option (Option ℕ) → Option Given
counted_by file None p = None
counted_by file (Some s) None = None
counted_by file (Some s) (Some p) = Some (record { file = file; steps = s; heap_words = p })

abbrev pub counted : Parts → Option Given
counted parts = counted_by parts.file (counted_text steps parts.steps) (counted_text heap_words parts.heap_words)

abbrev parts : Option Text → Option Text → Option Text → Parts
parts file s p = record { file = file; steps = s; heap_words = p }

abbrev given : Option Text → Option ℕ → Option ℕ → Given
given file a b = record { file = file; steps = a; heap_words = b }

counted_both : (file s p : Option Text) (a b : Option ℕ) → counted_text steps s ≡ Some a → counted_text heap_words p ≡ Some b → counted (parts file s p) ≡ Some (given file a b)
counted_both file s p a b s_is p_is = ap₂ (counted_by file) s_is p_is

-- a text is no number
data Uncounted (now : Parts) : Type 0 where
  no_steps : counted_text steps now.steps ≡ None → Uncounted now
  no_heap_words : counted_text heap_words now.heap_words ≡ None → Uncounted now

counted_none : (now : Parts) → Uncounted now → counted now ≡ None
counted_none now (no_steps h) = ap (λ (o : Option (Option ℕ)). counted_by now.file o (counted_text heap_words now.heap_words)) h
counted_none now (no_heap_words h) = ap (λ (o : Option (Option ℕ)). counted_by now.file (counted_text steps now.steps) o) h ∙ go (counted_text steps now.steps)
  where
    go : (o : Option (Option ℕ)) → counted_by now.file o None ≡ None
    go None = refl
    go (Some a) = refl

-- ---- a text that is no number stays one

data Stays : Option Parts → Type 0 where
  refused_here : {o : Option Parts} → o ≡ None → Stays o
  stays : {o : Option Parts} (now : Parts) → o ≡ Some now → Uncounted now → Stays o

file_stays : (word : Text) (file s p : Option Text) → Uncounted (parts file s p) → Stays (part_file word (parts file s p))
file_stays word None s p (no_steps h) = stays (parts (Some word) s p) refl (no_steps h)
file_stays word None s p (no_heap_words h) = stays (parts (Some word) s p) refl (no_heap_words h)
file_stays word (Some before) s p h = refused_here refl

text_stays : (name : Name) (word : Text) (file s p : Option Text) → Uncounted (parts file s p) → Stays (part_text name word (parts file s p))
text_stays steps word file None p (no_steps h) = cc
text_stays steps word file None p (no_heap_words h) = stays (parts file (Some word) p) refl (no_heap_words h)
text_stays steps word file (Some before) p h = refused_here refl
text_stays heap_words word file s None (no_steps h) = stays (parts file s (Some word)) refl (no_steps h)
text_stays heap_words word file s None (no_heap_words h) = cc
text_stays heap_words word file s (Some before) h = refused_here refl

value_stays : (name : Name) (word : Text) (file s p : Option Text) → Uncounted (parts file s p) → Stays (part_value name word (parts file s p))
value_stays name word file s p h = go (begins_with_hyphen word) refl
  where
    go : (b : Bool) → begins_with_hyphen word ≡ b → Stays (part_value name word (parts file s p))
    go true is = refused_here (rw is refl)
    go false is = rw is (text_stays name word file s p h)

abbrev NoneFrom : (Parts → Option Parts) → Type 0
NoneFrom f = (now : Parts) → Uncounted now → option_and_then counted (f now) ≡ None

none_behind : (f : Parts → Option Parts) (o : Option Parts) → NoneFrom f → Stays o → option_and_then counted (option_and_then f o) ≡ None
none_behind f o rest (refused_here is) = ap (λ (x : Option Parts). option_and_then counted (option_and_then f x)) is
none_behind f o rest (stays now is h) = ap (λ (x : Option Parts). option_and_then counted (option_and_then f x)) is ∙ rest now h

none_files : (words : List Text) → NoneFrom (part_files words)
none_files [] now h = counted_none now h
none_files (word ∷ rest) now h = none_behind (part_files rest) (part_file word now) (none_files rest) (file_stays word now.file now.steps now.heap_words h)

none_kind : (k : Kind) (word : Text) (rest : List Text) → ((pending : Option Name) → NoneFrom (parts_of pending rest))
    → (now : Parts) → Uncounted now → option_and_then counted (part_on k word rest (λ pending next. parts_of pending rest next) now) ≡ None
none_kind ends word rest none now h = none_files rest now h
none_kind (option name None) word rest none now h = none (Some name) now h
none_kind (option name (Some value)) word rest none now h = none_behind (parts_of None rest) (part_text name value now) (none None) (text_stays name value now.file now.steps now.heap_words h)
none_kind refused word rest none now h = refl
none_kind other word rest none now h = none_behind (parts_of None rest) (part_file word now) (none None) (file_stays word now.file now.steps now.heap_words h)

none_counted : (words : List Text) (pending : Option Name) → NoneFrom (parts_of pending words)
none_counted [] None now h = counted_none now h
none_counted [] (Some name) now h = refl
none_counted (word ∷ rest) None now h = none_kind (kind_of word) word rest (none_counted rest) now h
none_counted (word ∷ rest) (Some name) now h = none_behind (parts_of None rest) (part_value name word now) (none_counted rest None) (value_stays name word now.file now.steps now.heap_words h)

-- ---- one more part

-- one value, with its number and as a text
data Takes (name : Name) (word : Text) (file s p : Option Text) (a b : Option ℕ) (o : Option Parts) : Type 0 where
  neither : with_value name word (given file a b) ≡ None → o ≡ None → Takes name word file s p a b o
  as_text : with_value name word (given file a b) ≡ None → (now : Parts) → o ≡ Some now → Uncounted now → Takes name word file s p a b o
  both : (s' p' : Option Text) (a' b' : Option ℕ) → with_value name word (given file a b) ≡ Some (given file a' b') → o ≡ Some (parts file s' p')
      → counted_text steps s' ≡ Some a' → counted_text heap_words p' ≡ Some b' → Takes name word file s p a b o

-- a second number of an option is refused, whatever it is
second_steps : (file : Option Text) (number : ℕ) (b : Option ℕ) (value : Option ℕ) → option_and_then (λ n. with_number steps n (given file (Some number) b)) value ≡ None
second_steps file number b None = refl
second_steps file number b (Some n) = refl

second_heap_words : (file : Option Text) (number : ℕ) (a : Option ℕ) (value : Option ℕ) → option_and_then (λ n. with_number heap_words n (given file a (Some number))) value ≡ None
second_heap_words file number a None = refl
second_heap_words file number a (Some n) = refl

-- the number of a text that is one
number_is : (name : Name) (text : Text) (a : Option ℕ) → counted_text name (Some text) ≡ Some a → (n : ℕ) × (a ≡ Some n)
number_is name text a is = go (number_of name text) is
  where
    go : (o : Option ℕ) → option_map (λ n. Some n) o ≡ Some a → (n : ℕ) × (a ≡ Some n)
    go None is = cc
    go (Some n) is = let same : a ≡ Some n = cc in (n, same)

takes : (name : Name) (word : Text) (file s p : Option Text) (a b : Option ℕ) → counted_text steps s ≡ Some a → counted_text heap_words p ≡ Some b
    → Takes name word file s p a b (part_text name word (parts file s p))
takes steps word file None p a b s_is p_is = go (number_of steps word) refl
  where
    none_yet : a ≡ None
    none_yet = cc

    go : (o : Option ℕ) → number_of steps word ≡ o → Takes steps word file None p a b (Some (parts file (Some word) p))
    go None is = as_text (rw is refl) (parts file (Some word) p) refl (no_steps (rw is refl))
    go (Some n) is = both (Some word) p (Some n) b (rw (is, none_yet) refl) refl (rw is refl) p_is
takes steps word file (Some before) p a b s_is p_is =
    let number = number_is steps before a s_is in
    neither (rw number.1 (second_steps file number.0 b (number_of steps word))) refl
takes heap_words word file s None a b s_is p_is = go (number_of heap_words word) refl
  where
    none_yet : b ≡ None
    none_yet = cc

    go : (o : Option ℕ) → number_of heap_words word ≡ o → Takes heap_words word file s None a b (Some (parts file s (Some word)))
    go None is = as_text (rw is refl) (parts file s (Some word)) refl (no_heap_words (rw is refl))
    go (Some n) is = both s (Some word) a (Some n) (rw (is, none_yet) refl) refl s_is (rw is refl)
takes heap_words word file s (Some before) a b s_is p_is =
    let number = number_is heap_words before b p_is in
    neither (rw number.1 (second_heap_words file number.0 a (number_of heap_words word))) refl

-- what begins with a hyphen is no number
hyphen_is_no_number : (name : Name) (word : Text) → begins_with_hyphen word ≡ true → number_of name word ≡ None
hyphen_is_no_number name [] begins = cc
hyphen_is_no_number name (byte ∷ word) begins =
    let P : ℕ → Type 0 = λ b. number_of name (b ∷ word) ≡ None in
    subst P (sym (eqb-true byte 45 begins)) (go (nat_le 1 (length (45 ∷ word))) (nat_le (length (45 ∷ word)) 19))
  where
    go : (one most : Bool) → (if one && (most && false) then within (least_of name) (most_of name) (digits_value 10 (45 ∷ word)) else None) ≡ None
    go false most = refl
    go true false = refl
    go true true = refl

takes_word : (name : Name) (word : Text) (file s p : Option Text) (a b : Option ℕ) → counted_text steps s ≡ Some a → counted_text heap_words p ≡ Some b
    → Takes name word file s p a b (part_value name word (parts file s p))
takes_word name word file s p a b s_is p_is = go (begins_with_hyphen word) refl
  where
    go : (h : Bool) → begins_with_hyphen word ≡ h → Takes name word file s p a b (part_value name word (parts file s p))
    go true begins = neither (rw (hyphen_is_no_number name word begins) refl) (rw begins refl)
    go false begins = rw begins (takes name word file s p a b s_is p_is)

-- ---- the words

abbrev Same : (Given → Option Given) → (Parts → Option Parts) → Type 0
Same r f = (file s p : Option Text) (a b : Option ℕ) → counted_text steps s ≡ Some a → counted_text heap_words p ≡ Some b
    → r (given file a b) ≡ option_and_then counted (f (parts file s p))

same_behind : (r : Given → Option Given) (f : Parts → Option Parts) → Same r f → NoneFrom f → (name : Name) (word : Text) (file s p : Option Text) (a b : Option ℕ) (o : Option Parts)
    → Takes name word file s p a b o → option_and_then r (with_value name word (given file a b)) ≡ option_and_then counted (option_and_then f o)
same_behind r f same none name word file s p a b o (neither no_number no_text) = rw (no_number, no_text) refl
same_behind r f same none name word file s p a b o (as_text no_number now is h) = rw (no_number, is) (sym (none now h))
same_behind r f same none name word file s p a b o (both s' p' a' b' number is s_is p_is) = rw (number, is) (same file s' p' a' b' s_is p_is)

same_file : (r : Given → Option Given) (f : Parts → Option Parts) → Same r f → (word : Text) (file s p : Option Text) (a b : Option ℕ)
    → counted_text steps s ≡ Some a → counted_text heap_words p ≡ Some b
    → option_and_then r (with_file word (given file a b)) ≡ option_and_then counted (option_and_then f (part_file word (parts file s p)))
same_file r f same word None s p a b s_is p_is = same (Some word) s p a b s_is p_is
same_file r f same word (Some before) s p a b s_is p_is = refl

same_files : (words : List Text) → Same (files words) (part_files words)
same_files [] file s p a b s_is p_is = sym (counted_both file s p a b s_is p_is)
same_files (word ∷ rest) file s p a b s_is p_is = same_file (files rest) (part_files rest) (same_files rest) word file s p a b s_is p_is

same_kind : (k : Kind) (word : Text) (rest : List Text) → ((pending : Option Name) → Same (reads pending rest) (parts_of pending rest))
    → (file s p : Option Text) (a b : Option ℕ) → counted_text steps s ≡ Some a → counted_text heap_words p ≡ Some b
    → reads_on k word rest (λ pending next. reads pending rest next) (given file a b)
    ≡ option_and_then counted (part_on k word rest (λ pending next. parts_of pending rest next) (parts file s p))
same_kind ends word rest same file s p a b s_is p_is = same_files rest file s p a b s_is p_is
same_kind (option name None) word rest same file s p a b s_is p_is = same (Some name) file s p a b s_is p_is
same_kind (option name (Some value)) word rest same file s p a b s_is p_is =
    same_behind (reads None rest) (parts_of None rest) (same None) (none_counted rest None) name value file s p a b _ (takes name value file s p a b s_is p_is)
same_kind refused word rest same file s p a b s_is p_is = refl
same_kind other word rest same file s p a b s_is p_is = same_file (reads None rest) (parts_of None rest) (same None) word file s p a b s_is p_is

same_reads : (words : List Text) (pending : Option Name) → Same (reads pending words) (parts_of pending words)
same_reads [] None file s p a b s_is p_is = sym (counted_both file s p a b s_is p_is)
same_reads [] (Some name) file s p a b s_is p_is = refl
same_reads (word ∷ rest) None file s p a b s_is p_is = same_kind (kind_of word) word rest (same_reads rest) file s p a b s_is p_is
same_reads (word ∷ rest) (Some name) file s p a b s_is p_is =
    same_behind (reads None rest) (parts_of None rest) (same_reads rest None) (none_counted rest None) name word file s p a b _ (takes_word name word file s p a b s_is p_is)

-- ---- the command

run_of_parts : (file s p : Option Text) → option_and_then run_of (counted (parts file s p)) ≡ option_and_then run_of_line (whole (parts file s p))
run_of_parts None s p = go (counted_text steps s) (counted_text heap_words p)
  where
    go : (a b : Option (Option ℕ)) → option_and_then run_of (counted_by None a b) ≡ None
    go None b = refl
    go (Some a) None = refl
    go (Some a) (Some b) = refl
run_of_parts (Some file) None None = refl
run_of_parts (Some file) (Some s) None = go (number_of steps s)
  where
    go : (o : Option ℕ) → option_and_then run_of (counted_by (Some file) (option_map (λ n. Some n) o) (Some None))
        ≡ option_and_then (λ n. Some (record { file = file; steps = n; heap_words = default_of heap_words })) o
    go None = refl
    go (Some n) = refl
run_of_parts (Some file) None (Some p) = go (number_of heap_words p)
  where
    go : (o : Option ℕ) → option_and_then run_of (counted_by (Some file) (Some None) (option_map (λ n. Some n) o))
        ≡ option_map (λ n. record { file = file; steps = default_of steps; heap_words = n }) o
    go None = refl
    go (Some n) = refl
run_of_parts (Some file) (Some s) (Some p) = go (number_of steps s) (number_of heap_words p)
  where
    go : (a b : Option ℕ) → option_and_then run_of (counted_by (Some file) (option_map (λ n. Some n) a) (option_map (λ n. Some n) b))
        ≡ option_and_then (λ n. option_map (λ m. record { file = file; steps = n; heap_words = m }) b) a
    go None b = refl
    go (Some a) None = refl
    go (Some a) (Some b) = refl

run_of_whole : (o : Option Parts) → option_and_then run_of (option_and_then counted o) ≡ option_and_then run_of_line (option_and_then whole o)
run_of_whole None = refl
run_of_whole (Some now) = run_of_parts now.file now.steps now.heap_words

pub reads-line : (words : List Text) → run_in words ≡ option_and_then run_of_line (line_of words)
reads-line words = ap (option_and_then run_of) (same_reads words None None None None None None refl refl) ∙ run_of_whole (parts_of None words no_parts)

-- ---- the command that takes a FILE alone

plain_run_of_parts : (file s p : Option Text) → option_and_then plain_run_of (counted (parts file s p)) ≡ option_and_then plain_run_of_line (whole (parts file s p))
plain_run_of_parts None s p = go (counted_text steps s) (counted_text heap_words p)
  where
    go : (a b : Option (Option ℕ)) → option_and_then plain_run_of (counted_by None a b) ≡ None
    go None b = refl
    go (Some a) None = refl
    go (Some None) (Some None) = refl
    go (Some None) (Some (Some n)) = refl
    go (Some (Some m)) (Some b) = refl
plain_run_of_parts (Some file) None None = refl
plain_run_of_parts (Some file) (Some s) p = go (number_of steps s) (counted_text heap_words p)
  where
    go : (o : Option ℕ) (b : Option (Option ℕ)) → option_and_then plain_run_of (counted_by (Some file) (option_map (λ n. Some n) o) b) ≡ None
    go None b = refl
    go (Some n) None = refl
    go (Some n) (Some b) = refl
plain_run_of_parts (Some file) None (Some p) = go (number_of heap_words p)
  where
    go : (o : Option ℕ) → option_and_then plain_run_of (counted_by (Some file) (Some None) (option_map (λ n. Some n) o)) ≡ None
    go None = refl
    go (Some n) = refl

plain_run_of_whole : (o : Option Parts) → option_and_then plain_run_of (option_and_then counted o) ≡ option_and_then plain_run_of_line (option_and_then whole o)
plain_run_of_whole None = refl
plain_run_of_whole (Some now) = plain_run_of_parts now.file now.steps now.heap_words

pub reads-file : (words : List Text) → plain_run_in words ≡ option_and_then plain_run_of_line (line_of words)
reads-file words = ap (option_and_then plain_run_of) (same_reads words None None None None None None refl refl) ∙ plain_run_of_whole (parts_of None words no_parts)
