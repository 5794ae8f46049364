-- What clap makes of words is what the line says of them.
use Rattle.std.proofs.Common.{ℕ, ◌≡◌, ◌∙◌, ap, sym, subst, Bool, true, false, List, [], ◌∷◌, Option, Some, None, codes, refl}
use Rattle.std.specs.Prelude.{◌&&◌, ◌||◌, not, if◌then◌else◌, fold, option_and_then}
use Rattle.std.specs.Str.{bytes_eq}
use Rattle.std.proofs.lemmas.Slice.Eq.{bytes_eq-Decides}
use Rattle.clap.specs.Lexer.{long_of, short_of}
use Rattle.clap.specs.Kinds.{Kinds, or_else}
use Rattle.clap.specs.Faults.{walk_fault, defaults_fault, check_fault, default_fault}
use Rattle.clap.specs.Walk.{Held, Walk, Waiting, Row, idle, option, walked, walk_from, nothing_held, finished, has_row, arg_by_long, with_default}
use Rattle.clap.specs.declared.error.kind.ErrorKind.TheVariants as kind
use Rattle.rb_command.specs.Words.{option as Kind_option, Text, Name, Kind, steps, heap_words, kind_of, ends, refused, other, begins_with_hyphen}
use Rattle.rb_command.specs.Line.{Parts, Line, whole, line_of, parts_of, part_files, part_file, part_text, part_on, has_one_hyphen, any_has_one_hyphen}
use Rattle.rb_command.proofs.Reader.{rules, shape, id_of, file_rule, option_rule}
use Rattle.rb_command.proofs.Rows.{Rows, no_rows, after_use, file_used, steps_used, heap_words_used, line_in, line_in-rows}
use Rattle.rb_command.proofs.Looks.{Look, looks_end, looks_option, looks_unknown, looks_other, looks}
use Rattle.rb_command.proofs.Walks as walks
use Rattle.rb_command.proofs.Walks.{at, after, fault, settles, rows_in, with_file_held, wanting, with_value_held, value_held, repeats}

-- ---- the end of a walk

-- the line that is told where nothing fails
abbrev pub answer : Kinds → List Row → Option Line
answer [] rows = line_in rows
answer (k ∷ kinds) rows = None

abbrev end_fault : Held → Kinds
end_fault held = or_else (settles held) (or_else (defaults_fault (rows_in held) rules) (check_fault shape (finished rules held) false))

-- what the walk comes to at the words
abbrev pub outcome : Walk → List Text → Option Line
outcome w words =
    let held = (fold (walked rules []) w words).held in
    answer (or_else (walk_fault shape [] w words) (end_fault held)) (finished rules held)

same_either : {X : Type 0} (b : Bool) (x : X) → (if b then x else x) ≡ x
same_either true x = refl
same_either false x = refl

-- no argument has a default
no_file_default : (rows : List Row) → with_default rows file_rule ≡ rows
no_file_default rows = same_either (has_row (codes "file") rows) rows

no_option_default : (name : Name) (rows : List Row) → with_default rows (option_rule name) ≡ rows
no_option_default steps rows = same_either (has_row (codes "steps") rows) rows
no_option_default heap_words rows = same_either (has_row (codes "heap-words") rows) rows

no_defaults : (held : Held) → finished rules held ≡ rows_in held
no_defaults held =
    let file = with_default (rows_in held) file_rule in
    no_option_default heap_words (with_default file (option_rule steps)) ∙ no_option_default steps file ∙ no_file_default (rows_in held)

either_none : (b : Bool) (kinds : Kinds) → (if b || true then [] else kinds) ≡ []
either_none true kinds = refl
either_none false kinds = refl

file_default_fault : (rows : List Row) → default_fault rows file_rule ≡ []
file_default_fault rows = either_none (has_row (codes "file") rows) _

option_default_fault : (name : Name) (rows : List Row) → default_fault rows (option_rule name) ≡ []
option_default_fault steps rows = either_none (has_row (codes "steps") rows) _
option_default_fault heap_words rows = either_none (has_row (codes "heap-words") rows) _

none_of_three : (a b c : Kinds) → a ≡ [] → b ≡ [] → c ≡ [] → or_else a (or_else b (or_else c [])) ≡ []
none_of_three a b c no_a no_b no_c = rw (no_a, no_b, no_c) refl

no_default_fault : (rows : List Row) → defaults_fault rows rules ≡ []
unfolding defaults_fault
no_default_fault rows =
    let file = with_default rows file_rule in
    none_of_three _ _ _ (file_default_fault rows) (option_default_fault steps file) (option_default_fault heap_words (with_default file (option_rule steps)))

-- the FILE is wanted
given_file : (file s p : Option Text) (rows : List Row) → Rows rows (record { file = file; steps = s; heap_words = p })
    → answer (check_fault shape rows false) rows ≡ whole (record { file = file; steps = s; heap_words = p })
given_file None s p rows h =
    let wanted : check_fault shape rows false ≡ kind.MissingRequiredArgument ∷ [] = rw h.file refl in
    ap (λ (f : Kinds). answer f rows) wanted
given_file (Some text) s p rows h =
    let fine : check_fault shape rows false ≡ [] = rw h.file refl in
    ap (λ (f : Kinds). answer f rows) fine ∙ line_in-rows rows (record { file = Some text; steps = s; heap_words = p }) h

-- a walk that stops here
pub ends_alive : (held : Held) (waiting : Waiting) (position : ℕ) (trailing : Bool) (parts : Parts) → settles held ≡ [] → Rows (rows_in held) parts
    → outcome (at held waiting position trailing) [] ≡ whole parts
unfolding walk_fault
ends_alive held waiting position trailing parts fine rows =
    ap (λ (f : Kinds). answer (or_else f (or_else (defaults_fault (rows_in held) rules) (check_fault shape (finished rules held) false))) (finished rules held)) fine
    ∙ ap (λ (f : Kinds). answer (or_else f (check_fault shape (finished rules held) false)) (finished rules held)) (no_default_fault (rows_in held))
    ∙ ap (λ (now : List Row). answer (check_fault shape now false) now) (no_defaults held)
    ∙ given_file parts.file parts.steps parts.heap_words (rows_in held) rows

pub ends_dead : (held : Held) (waiting : Waiting) (position : ℕ) (trailing : Bool) (k : _) (kinds : Kinds) → settles held ≡ k ∷ kinds
    → outcome (at held waiting position trailing) [] ≡ None
unfolding walk_fault
ends_dead held waiting position trailing k kinds fails =
    ap (λ (f : Kinds). answer (or_else f (or_else (defaults_fault (rows_in held) rules) (check_fault shape (finished rules held) false))) (finished rules held)) fails

pub outcome-goes : (w : Walk) (word : Text) (rest : List Text) → fault w word ≡ [] → outcome w (word ∷ rest) ≡ outcome (after w word) rest
unfolding walk_fault
outcome-goes w word rest fine = rw fine refl

pub outcome-stops : (w : Walk) (word : Text) (rest : List Text) (k : _) (kinds : Kinds) → fault w word ≡ k ∷ kinds → outcome w (word ∷ rest) ≡ None
unfolding walk_fault
outcome-stops w word rest k kinds fails = rw fails refl

-- ---- walks that fail later

-- where the next FILE goes
abbrev pub place : Option Text → ℕ
place None = 1
place (Some file) = 2

dead_trailing : (words : List Text) (held : Held) (waiting : Waiting) (file : Option Text) (k : _) (kinds : Kinds) → settles held ≡ k ∷ kinds
    → outcome (at held waiting (place file) true) words ≡ None
dead_trailing [] held waiting file k kinds fails = ends_dead held waiting (place file) true k kinds fails
dead_trailing (word ∷ rest) held waiting None k kinds fails = outcome-stops (at held waiting 1 true) word rest k kinds (walks.trailing_fault held waiting word ∙ fails)
dead_trailing (word ∷ rest) held waiting (Some file) k kinds fails = outcome-stops (at held waiting 2 true) word rest _ _ (walks.trailing_stray held waiting word)

-- a word that begins with a hyphen
dead_end : (word : Text) (rest : List Text) (held : Held) (waiting : Waiting) (file : Option Text) (k : _) (kinds : Kinds) → settles held ≡ k ∷ kinds
    → bytes_eq word (codes "--") ≡ true → outcome (at held waiting (place file) false) (word ∷ rest) ≡ None
dead_end word rest held waiting file k kinds fails is =
    outcome-goes (at held waiting (place file) false) word rest (walks.end_fault held waiting (place file) word is)
    ∙ ap (λ (w : Walk). outcome w rest) (walks.end_after held waiting (place file) word is)
    ∙ dead_trailing rest held waiting file k kinds fails

dead_option : (word : Text) (rest : List Text) (held : Held) (waiting : Waiting) (position : ℕ) (k : _) (kinds : Kinds) (name : Name) (value : Option Text) → settles held ≡ k ∷ kinds
    → bytes_eq word (codes "--") ≡ false → long_of word ≡ Some (id_of name, value) → outcome (at held waiting position false) (word ∷ rest) ≡ None
dead_option word rest held waiting position k kinds name None fails not_end is =
    outcome-stops (at held waiting position false) word rest k kinds (walks.name_fault held position word not_end name waiting is ∙ fails)
dead_option word rest held waiting position k kinds name (Some value) fails not_end is =
    outcome-stops (at held waiting position false) word rest k kinds
    (walks.given_fault held position word not_end name waiting value is ∙ ap (λ (f : Kinds). or_else f (repeats name (rows_in held))) fails)

unknown : (word : Text) (rest : List Text) (held : Held) (waiting : Waiting) (position : ℕ) (name : Text) (value : Option Text)
    → bytes_eq word (codes "--") ≡ false → long_of word ≡ Some (name, value) → arg_by_long rules name ≡ None → outcome (at held waiting position false) (word ∷ rest) ≡ None
unknown word rest held waiting position name value not_end is no_rule =
    outcome-stops (at held waiting position false) word rest _ _ (walks.unknown_fault held position word not_end name waiting value is no_rule)

-- what the front of words without single hyphens is
front_look : (word : Text) (rest : List Text) → any_has_one_hyphen (word ∷ rest) ≡ false → Look word
front_look word rest fine = go (bytes_eq word (codes "--")) refl fine
  where
    left : (a b : Bool) → (a || b) ≡ false → a ≡ false
    left true b h = h
    left false b h = refl

    go : (b : Bool) → bytes_eq word (codes "--") ≡ b → (not b && (has_one_hyphen word || any_has_one_hyphen rest)) ≡ false → Look word
    go true is h = looks_end is (ap begins_with_hyphen ((bytes_eq-Decides word (codes "--")).0 is))
    go false is h = looks word (left (has_one_hyphen word) (any_has_one_hyphen rest) h)

front_rest : (word : Text) (rest : List Text) → any_has_one_hyphen (word ∷ rest) ≡ false → bytes_eq word (codes "--") ≡ false → any_has_one_hyphen rest ≡ false
front_rest word rest fine not_end = right (has_one_hyphen word) (any_has_one_hyphen rest) (rw not_end at fine)
  where
    right : (a b : Bool) → (a || b) ≡ false → b ≡ false
    right true b h = cc
    right false b h = h

dead_idle : (words : List Text) (held : Held) (file : Option Text) (k : _) (kinds : Kinds) → settles held ≡ k ∷ kinds → any_has_one_hyphen words ≡ false
    → outcome (at held idle (place file) false) words ≡ None
dead_idle [] held file k kinds fails fine = ends_dead held idle (place file) false k kinds fails
dead_idle (word ∷ rest) held file k kinds fails fine = go file (front_look word rest fine)
  where
    go : (file : Option Text) → Look word → outcome (at held idle (place file) false) (word ∷ rest) ≡ None
    go file (looks_end is begins) = dead_end word rest held idle file k kinds fails is
    go file (looks_option name value not_end is kind begins) = dead_option word rest held idle (place file) k kinds name value fails not_end is
    go file (looks_unknown name value not_end is no_rule kind begins) = unknown word rest held idle (place file) name value not_end is no_rule
    go None (looks_other not_end not_long not_short kind begins) =
        outcome-stops (at held idle 1 false) word rest k kinds (walks.other_fault held word not_end not_long not_short ∙ fails)
    go (Some file) (looks_other not_end not_long not_short kind begins) =
        outcome-stops (at held idle 2 false) word rest _ _ (walks.other_stray held word not_end not_long not_short)

-- ---- walks that go on

abbrev parts : Option Text → Option Text → Option Text → Parts
parts file s p = record { file = file; steps = s; heap_words = p }

-- What comes of one more value: it is the first of its option, or the option is given twice.
data Counts (name : Name) (value : Text) (held : Held) (before : Parts) : Type 0 where
  first : (now : Parts) → part_text name value before ≡ Some now → repeats name (rows_in held) ≡ []
      → Rows (after_use (id_of name) value (rows_in held)) now → now.file ≡ before.file → Counts name value held before
  again : part_text name value before ≡ None → repeats name (rows_in held) ≡ kind.ArgumentConflict ∷ [] → Counts name value held before

counts : (name : Name) (value : Text) (held : Held) (file s p : Option Text) → Rows (rows_in held) (parts file s p) → Counts name value held (parts file s p)
counts steps value held file None p rows =
    first (parts file (Some value) p) refl (walks.repeat_first (codes "steps") (rows_in held) rows.steps) (steps_used (rows_in held) file p value rows) refl
counts steps value held file (Some before) p rows = again refl (walks.repeat_second (codes "steps") (rows_in held) _ rows.steps)
counts heap_words value held file s None rows =
    first (parts file s (Some value)) refl (walks.repeat_first (codes "heap-words") (rows_in held) rows.heap_words) (heap_words_used (rows_in held) file s value rows) refl
counts heap_words value held file s (Some before) rows = again refl (walks.repeat_second (codes "heap-words") (rows_in held) _ rows.heap_words)

-- the walk at these words comes to what the line says of them
abbrev Told : Held → Waiting → Bool → List Text → Option Text → Option Parts → Type 0
Told held waiting trailing words file expected = outcome (at held waiting (place file) trailing) words ≡ option_and_then whole expected

-- behind `--`
files_told : (words : List Text) (held : Held) (file s p : Option Text) → settles held ≡ [] → Rows (rows_in held) (parts file s p)
    → Told held idle true words file (part_files words (parts file s p))
files_told [] held file s p fine rows = ends_alive held idle (place file) true (parts file s p) fine rows
files_told (word ∷ rest) held None s p fine rows =
    outcome-goes (at held idle 1 true) word rest (walks.trailing_fault held idle word ∙ fine)
    ∙ ap (λ (w : Walk). outcome w rest) (walks.trailing_after held word)
    ∙ files_told rest (with_file_held word held) (Some word) s p
    (walks.file_settles word held ∙ walks.repeat_first (codes "file") (rows_in held) rows.file) (file_used (rows_in held) s p word rows)
files_told (word ∷ rest) held (Some file) s p fine rows = outcome-stops (at held idle 2 true) word rest _ _ (walks.trailing_stray held idle word)

-- before `--`, where no option waits, and where one does
abbrev Free : List Text → Type 0
Free words = (held : Held) (file s p : Option Text) → settles held ≡ [] → Rows (rows_in held) (parts file s p) → any_has_one_hyphen words ≡ false
    → Told held idle false words file (parts_of None words (parts file s p))

abbrev Waits : List Text → Type 0
Waits words = (name : Name) (held : Held) (file s p : Option Text) → Rows (rows_in held) (parts file s p) → any_has_one_hyphen words ≡ false
    → Told (wanting name held) (option (id_of name)) false words file (parts_of (Some name) words (parts file s p))

-- the rest behind a value
after_value : (rest : List Text) → Free rest → (held : Held) (file : Option Text) (now : Parts) → settles held ≡ [] → Rows (rows_in held) now → now.file ≡ file
    → any_has_one_hyphen rest ≡ false → Told held idle false rest file (parts_of None rest now)
after_value rest free held file now fine rows same none_single =
    ap (λ (f : Option Text). outcome (at held idle (place f) false) rest) (sym same) ∙ free held now.file now.steps now.heap_words fine rows none_single

-- what is said of a word of this kind
by_kind : (word : Text) (rest : List Text) (before : Parts) (k : Kind) → kind_of word ≡ k
    → part_on k word rest (λ pending now. parts_of pending rest now) before ≡ parts_of None (word ∷ rest) before
by_kind word rest before k is = ap (λ (x : Kind). part_on x word rest (λ pending now. parts_of pending rest now) before) (sym is)

-- a value in the word of its option
given_here : (word : Text) (rest : List Text) → Free rest → (held : Held) (file s p : Option Text) → settles held ≡ [] → any_has_one_hyphen rest ≡ false
    → (name : Name) (value : Text) → bytes_eq word (codes "--") ≡ false → long_of word ≡ Some (id_of name, Some value) → Counts name value held (parts file s p)
    → Told held idle false (word ∷ rest) file (option_and_then (parts_of None rest) (part_text name value (parts file s p)))
given_here word rest free held file s p fine none_single name value not_end is (first now counted passes rows same) =
    outcome-goes (at held idle (place file) false) word rest
    (walks.given_fault held (place file) word not_end name idle value is ∙ ap (λ (f : Kinds). or_else f (repeats name (rows_in held))) fine ∙ passes)
    ∙ ap (λ (w : Walk). outcome w rest) (walks.given_after held (place file) word not_end name idle value is)
    ∙ after_value rest free (with_value_held name value held) file now refl rows same none_single
    ∙ ap (λ (o : Option Parts). option_and_then whole (option_and_then (parts_of None rest) o)) (sym counted)
given_here word rest free held file s p fine none_single name value not_end is (again counted fails) =
    outcome-stops (at held idle (place file) false) word rest _ _
    (walks.given_fault held (place file) word not_end name idle value is ∙ ap (λ (f : Kinds). or_else f (repeats name (rows_in held))) fine ∙ fails)
    ∙ ap (λ (o : Option Parts). option_and_then whole (option_and_then (parts_of None rest) o)) (sym counted)

-- a FILE
other_here : (word : Text) (rest : List Text) → Free rest → (held : Held) (file s p : Option Text) → settles held ≡ [] → Rows (rows_in held) (parts file s p)
    → any_has_one_hyphen rest ≡ false → bytes_eq word (codes "--") ≡ false → long_of word ≡ None → short_of word ≡ None
    → Told held idle false (word ∷ rest) file (option_and_then (parts_of None rest) (part_file word (parts file s p)))
other_here word rest free held None s p fine rows none_single not_end not_long not_short =
    outcome-goes (at held idle 1 false) word rest (walks.other_fault held word not_end not_long not_short ∙ fine)
    ∙ ap (λ (w : Walk). outcome w rest) (walks.other_after held word not_end not_long not_short)
    ∙ free (with_file_held word held) (Some word) s p
    (walks.file_settles word held ∙ walks.repeat_first (codes "file") (rows_in held) rows.file) (file_used (rows_in held) s p word rows) none_single
other_here word rest free held (Some file) s p fine rows none_single not_end not_long not_short =
    outcome-stops (at held idle 2 false) word rest _ _ (walks.other_stray held word not_end not_long not_short)

free_here : (word : Text) (rest : List Text) → Free rest → Waits rest → Free (word ∷ rest)
free_here word rest free waits held file s p fine rows none_single = go (front_look word rest none_single)
  where
    go : Look word → Told held idle false (word ∷ rest) file (parts_of None (word ∷ rest) (parts file s p))
    go (looks_end is begins) =
        let kind_is : kind_of word ≡ ends = rw is refl in
        outcome-goes (at held idle (place file) false) word rest (walks.end_fault held idle (place file) word is)
        ∙ ap (λ (w : Walk). outcome w rest) (walks.end_after held idle (place file) word is)
        ∙ files_told rest held file s p fine rows
        ∙ ap (option_and_then whole) (by_kind word rest (parts file s p) ends kind_is)
    go (looks_option name None not_end is kind_is begins) =
        outcome-goes (at held idle (place file) false) word rest (walks.name_fault held (place file) word not_end name idle is ∙ fine)
        ∙ ap (λ (w : Walk). outcome w rest) (walks.name_after held (place file) word not_end name idle is)
        ∙ waits name held file s p rows (front_rest word rest none_single not_end)
        ∙ ap (option_and_then whole) (by_kind word rest (parts file s p) (Kind_option name None) kind_is)
    go (looks_option name (Some value) not_end is kind_is begins) =
        given_here word rest free held file s p fine (front_rest word rest none_single not_end) name value not_end is (counts name value held file s p rows)
        ∙ ap (option_and_then whole) (by_kind word rest (parts file s p) (Kind_option name (Some value)) kind_is)
    go (looks_unknown name value not_end is no_rule kind_is begins) =
        unknown word rest held idle (place file) name value not_end is no_rule
        ∙ ap (option_and_then whole) (by_kind word rest (parts file s p) refused kind_is)
    go (looks_other not_end not_long not_short kind_is begins) =
        other_here word rest free held file s p fine rows (front_rest word rest none_single not_end) not_end not_long not_short
        ∙ ap (option_and_then whole) (by_kind word rest (parts file s p) other kind_is)

-- what a value in a word of its own comes to
hyphen_value : (word : Text) (rest : List Text) (name : Name) (before : Parts) → begins_with_hyphen word ≡ true → None ≡ option_and_then whole (parts_of (Some name) (word ∷ rest) before)
hyphen_value word rest name before begins = rw begins refl

plain_value : (word : Text) (rest : List Text) (name : Name) (before : Parts) → begins_with_hyphen word ≡ false
    → option_and_then (parts_of None rest) (part_text name word before) ≡ parts_of (Some name) (word ∷ rest) before
plain_value word rest name before begins = rw begins refl

value_rows : (name : Name) (value : Text) (held : Held) → after_use (id_of name) value held.rows ≡ rows_in (value_held name value held)
value_rows steps value held = refl
value_rows heap_words value held = refl

waited_here : (word : Text) (rest : List Text) → Free rest → (held : Held) (file s p : Option Text) → any_has_one_hyphen rest ≡ false
    → (name : Name) → bytes_eq word (codes "--") ≡ false → long_of word ≡ None → short_of word ≡ None → Counts name word held (parts file s p)
    → Told (wanting name held) (option (id_of name)) false (word ∷ rest) file (option_and_then (parts_of None rest) (part_text name word (parts file s p)))
waited_here word rest free held file s p none_single name not_end not_long not_short (first now counted passes rows same) =
    let P : List Row → Type 0 = λ now_rows. Rows now_rows now in
    outcome-goes (at (wanting name held) (option (id_of name)) (place file) false) word rest (walks.value_fault (wanting name held) word not_end not_long not_short name (place file))
    ∙ ap (λ (w : Walk). outcome w rest) (walks.value_after held word not_end not_long not_short name (place file))
    ∙ after_value rest free (value_held name word (wanting name held)) file now (walks.value_settles name word (wanting name held) ∙ passes)
    (subst P (value_rows name word (wanting name held)) rows) same none_single
    ∙ ap (λ (o : Option Parts). option_and_then whole (option_and_then (parts_of None rest) o)) (sym counted)
waited_here word rest free held file s p none_single name not_end not_long not_short (again counted fails) =
    outcome-goes (at (wanting name held) (option (id_of name)) (place file) false) word rest (walks.value_fault (wanting name held) word not_end not_long not_short name (place file))
    ∙ ap (λ (w : Walk). outcome w rest) (walks.value_after held word not_end not_long not_short name (place file))
    ∙ dead_idle rest (value_held name word (wanting name held)) file _ _ (walks.value_settles name word (wanting name held) ∙ fails) none_single
    ∙ ap (λ (o : Option Parts). option_and_then whole (option_and_then (parts_of None rest) o)) (sym counted)

waits_here : (word : Text) (rest : List Text) → Free rest → Waits (word ∷ rest)
waits_here word rest free name held file s p rows none_single = go (front_look word rest none_single)
  where
    go : Look word → Told (wanting name held) (option (id_of name)) false (word ∷ rest) file (parts_of (Some name) (word ∷ rest) (parts file s p))
    go (looks_end is begins) =
        dead_end word rest (wanting name held) (option (id_of name)) file _ _ (walks.wanting_settles name held) is
        ∙ hyphen_value word rest name (parts file s p) begins
    go (looks_option met value not_end is kind_is begins) =
        dead_option word rest (wanting name held) (option (id_of name)) (place file) _ _ met value (walks.wanting_settles name held) not_end is
        ∙ hyphen_value word rest name (parts file s p) begins
    go (looks_unknown met value not_end is no_rule kind_is begins) =
        unknown word rest (wanting name held) (option (id_of name)) (place file) met value not_end is no_rule
        ∙ hyphen_value word rest name (parts file s p) begins
    go (looks_other not_end not_long not_short kind_is begins) =
        waited_here word rest free held file s p (front_rest word rest none_single not_end) name not_end not_long not_short (counts name word held file s p rows)
        ∙ ap (option_and_then whole) (plain_value word rest name (parts file s p) begins)

each_told : (words : List Text) → Free words × Waits words
each_told [] = (
  λ held file s p fine rows none_single. ends_alive held idle (place file) false (parts file s p) fine rows,
  λ name held file s p rows none_single. ends_dead (wanting name held) (option (id_of name)) (place file) false _ _ (walks.wanting_settles name held),
)
each_told (word ∷ rest) = (free_here word rest (each_told rest).0 (each_told rest).1, waits_here word rest (each_told rest).0)

pub outcome-line : (words : List Text) → any_has_one_hyphen words ≡ false → outcome (walk_from nothing_held) words ≡ line_of words
outcome-line words none_single = (each_told words).0 nothing_held None None None refl no_rows none_single
