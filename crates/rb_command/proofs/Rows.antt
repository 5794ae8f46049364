-- What clap found, by the texts that the words gave.
use Rattle.std.proofs.Common.{◌≡◌, ◌∙◌, ap, refl, Bool, true, false, cond, is_some, List, [], ◌∷◌, ◌++◌, Option, Some, None, option_map, codes}
use Rattle.std.specs.Prelude.{option_and_then, slice_get, ◌||◌, if◌then◌else◌, find}
use Rattle.std.specs.Str.{bytes_eq}
use Rattle.clap.specs.declared.builder.value_parser.Reading.TheVariants.{AsWritten}
use Rattle.clap.specs.declared.parser.matches.ValueSource.TheVariants.{CommandLine}
use Rattle.clap.specs.Walk.{Row, at_row, without, with_values, has_row, first_of, more_values}
use Rattle.rb_command.specs.Words.{Text}
use Rattle.rb_command.specs.Line.{Parts, whole}
pub use Rattle.rb_command.specs.Rows.{line_in}

-- the row of an argument that was used once
abbrev pub row : Text → Text → Row
row id text = record { id = id; values = text ∷ []; count = None; source = Some CommandLine; reading = AsWritten }

abbrev pub looked : Text → List Row → Option Row
looked id rows = find (λ (r : Row). bytes_eq r.id id) rows

pub has_row-looked : (id : Text) (rows : List Row) → has_row id rows ≡ is_some (looked id rows)
has_row-looked id [] = refl
has_row-looked id (r ∷ rows) = go (bytes_eq r.id id) (has_row id rows) (looked id rows) (has_row-looked id rows)
  where
    go : (b has : Bool) (found : Option Row) → has ≡ is_some found → (b || has) ≡ is_some (cond b (Some r) found)
    go true has found same = refl
    go false has found same = same

abbrev pub first_some : Option Row → Option Row → Option Row
first_some None second = second
first_some (Some r) second = Some r

pub first_some-none : (o : Option Row) → first_some o None ≡ o
first_some-none None = refl
first_some-none (Some r) = refl

pub looked-append : (id : Text) (xs ys : List Row) → looked id (xs ++ ys) ≡ first_some (looked id xs) (looked id ys)
looked-append id [] ys = refl
looked-append id (r ∷ xs) ys = go (bytes_eq r.id id) (looked id (xs ++ ys)) (looked id xs) (looked-append id xs ys)
  where
    go : (b : Bool) (all first : Option Row) → all ≡ first_some first (looked id ys) → cond b (Some r) all ≡ first_some (cond b (Some r) first) (looked id ys)
    go true all first same = refl
    go false all first same = same

-- what is done at a row that is not there
pub at_row-absent : (id : Text) (change : Row → List Row) (missing rows : List Row) → looked id rows ≡ None → at_row id change missing rows ≡ rows ++ missing
at_row-absent id change missing [] absent = refl
at_row-absent id change missing (r ∷ rows) absent = go (bytes_eq r.id id) absent (at_row-absent id change missing rows)
  where
    go : (b : Bool) → cond b (Some r) (looked id rows) ≡ None → (looked id rows ≡ None → at_row id change missing rows ≡ rows ++ missing)
        → (if b then change r ++ rows else r ∷ at_row id change missing rows) ≡ (r ∷ rows) ++ missing
    go true h rest = cc
    go false h rest = ap (λ xs. r ∷ xs) (rest h)

-- the rows after the first use of an argument
abbrev pub after_use : Text → Text → List Row → List Row
after_use id text rows = with_values id AsWritten CommandLine (text ∷ []) (without id rows)

pub looked-after_use : (id text other : Text) (rows : List Row) → looked id rows ≡ None
    → looked other (after_use id text rows) ≡ first_some (looked other rows) (cond (bytes_eq id other) (Some (row id text)) None)
looked-after_use id text other rows absent =
    let kept : without id rows ≡ rows ++ [] = at_row-absent id (λ r. []) [] rows absent in
    let still : looked id (rows ++ []) ≡ None = looked-append id rows [] ∙ first_some-none (looked id rows) ∙ absent in
    let added : after_use id text rows ≡ (rows ++ []) ++ (row id text ∷ []) =
    ap (λ (xs : List Row). with_values id AsWritten CommandLine (text ∷ []) xs) kept ∙ at_row-absent id (more_values CommandLine (text ∷ [])) (row id text ∷ []) (rows ++ []) still in
    ap (looked other) added ∙ looked-append other (rows ++ []) (row id text ∷ [])
    ∙ ap (λ (o : Option Row). first_some o (cond (bytes_eq id other) (Some (row id text)) None)) (looked-append other rows [] ∙ first_some-none (looked other rows))

-- the rows are those of the texts
pub record Rows (rows : List Row) (parts : Parts) : Type 0 where
  pub file : looked (codes "file") rows ≡ option_map (row (codes "file")) parts.file
  pub steps : looked (codes "steps") rows ≡ option_map (row (codes "steps")) parts.steps
  pub heap_words : looked (codes "heap-words") rows ≡ option_map (row (codes "heap-words")) parts.heap_words

pub no_rows : Rows [] (record { file = None; steps = None; heap_words = None })
no_rows = record { file = refl; steps = refl; heap_words = refl }

-- a look-up of another argument
kept : (rows : List Row) (id other text : Text) (o : Option Row) → looked id rows ≡ None → bytes_eq id other ≡ false → looked other rows ≡ o
    → looked other (after_use id text rows) ≡ o
kept rows id other text o absent differs is =
    looked-after_use id text other rows absent ∙ ap (λ (b : Bool). first_some (looked other rows) (cond b (Some (row id text)) None)) differs
    ∙ first_some-none (looked other rows) ∙ is

here : (rows : List Row) (id text : Text) → looked id rows ≡ None → bytes_eq id id ≡ true → looked id (after_use id text rows) ≡ Some (row id text)
here rows id text absent same =
    looked-after_use id text id rows absent ∙ ap (λ (b : Bool). first_some (looked id rows) (cond b (Some (row id text)) None)) same
    ∙ ap (λ (o : Option Row). first_some o (Some (row id text))) absent

pub file_used : (rows : List Row) (steps heap_words : Option Text) (text : Text) → Rows rows (record { file = None; steps = steps; heap_words = heap_words })
    → Rows (after_use (codes "file") text rows) (record { file = Some text; steps = steps; heap_words = heap_words })
file_used rows steps heap_words text h = record {
  file = here rows (codes "file") text h.file refl;
  steps = kept rows (codes "file") (codes "steps") text _ h.file refl h.steps;
  heap_words = kept rows (codes "file") (codes "heap-words") text _ h.file refl h.heap_words;
}

pub steps_used : (rows : List Row) (file heap_words : Option Text) (text : Text) → Rows rows (record { file = file; steps = None; heap_words = heap_words })
    → Rows (after_use (codes "steps") text rows) (record { file = file; steps = Some text; heap_words = heap_words })
steps_used rows file heap_words text h = record {
  file = kept rows (codes "steps") (codes "file") text _ h.steps refl h.file;
  steps = here rows (codes "steps") text h.steps refl;
  heap_words = kept rows (codes "steps") (codes "heap-words") text _ h.steps refl h.heap_words;
}

pub heap_words_used : (rows : List Row) (file steps : Option Text) (text : Text) → Rows rows (record { file = file; steps = steps; heap_words = None })
    → Rows (after_use (codes "heap-words") text rows) (record { file = file; steps = steps; heap_words = Some text })
heap_words_used rows file steps text h = record {
  file = kept rows (codes "heap-words") (codes "file") text _ h.heap_words refl h.file;
  steps = kept rows (codes "heap-words") (codes "steps") text _ h.heap_words refl h.steps;
  heap_words = here rows (codes "heap-words") text h.heap_words refl;
}

first_text : (id : Text) (rows : List Row) (o : Option Text) → looked id rows ≡ option_map (row id) o → first_of id rows ≡ o
first_text id rows o is = ap (option_and_then (λ (r : Row). slice_get r.values 0)) is ∙ go o
  where
    go : (o : Option Text) → option_and_then (λ (r : Row). slice_get r.values 0) (option_map (row id) o) ≡ o
    go None = refl
    go (Some text) = refl

pub line_in-rows : (rows : List Row) (parts : Parts) → Rows rows parts → line_in rows ≡ whole parts
line_in-rows rows parts h =
    let file = first_text (codes "file") rows parts.file h.file in
    let steps = first_text (codes "steps") rows parts.steps h.steps in
    let heap_words = first_text (codes "heap-words") rows parts.heap_words h.heap_words in
    ap (λ (o : Option Text). option_map (λ (f : Text). record { file = f; steps = first_of (codes "steps") rows; heap_words = first_of (codes "heap-words") rows }) o) file
    ∙ ap (λ (o : Option Text). option_map (λ (f : Text). record { file = f; steps = o; heap_words = first_of (codes "heap-words") rows }) parts.file) steps
    ∙ ap (λ (o : Option Text). option_map (λ (f : Text). record { file = f; steps = parts.steps; heap_words = o }) parts.file) heap_words
