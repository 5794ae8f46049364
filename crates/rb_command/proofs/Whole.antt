-- What clap answers to the words behind the command, as the line says it.
use Rattle.std.proofs.Common.{◌≡◌, ◌≢◌, ◌∙◌, ap, sym, Bool, true, false, inl, inr, List, [], ◌∷◌, Option, Some, None, option_map, codes, refl, Result, Ok, Err, IfOk}
use Rattle.std.specs.Prelude.{◌&&◌, ◌||◌, ◌==◌, not, if◌then◌else◌, option_and_then}
use Rattle.std.specs.Str.{bytes_eq}
use Rattle.clap.specs.Kinds.{Kinds, HasKind, IsAmong}
use Rattle.clap.specs.Values.{kind_of as kind_of_error}
use Rattle.clap.specs.declared.error.Error.{Error}
use Rattle.clap.specs.declared.error.kind.ErrorKind.TheVariants.{OutOfMemory}
use Rattle.clap.specs.Faults.{fault_of}
use Rattle.clap.specs.Simple.{matches_of, built}
use Rattle.clap.specs.Walk.{nothing_held, first_of, rows_of}
use Rattle.clap.specs.Matches.{first_value}
use Rattle.clap.specs.declared.parser.matches.Found.{Found}
use Rattle.clap.specs.declared.error.kind.ErrorKind.{ErrorKind}
use Rattle.clap.proofs.FaultLemmas.{leaf_fault}
use Rattle.clap.proofs.WalkLemmas.{first_value-rows}
use Rattle.rb_command.specs.Words.{Text, Name, Kind, steps, heap_words, ends, option, refused, other, kind_of, begins_with_hyphen, name_part, value_part}
use Rattle.rb_command.specs.Line.{Parts, Line, whole, no_parts, line_of, parts_of, part_file, part_value, part_text, part_on, has_one_hyphen, any_has_one_hyphen}
use Rattle.rb_command.specs.Rows.{line_in}
use Rattle.rb_command.proofs.Reader.{reader}
use Rattle.rb_command.proofs.Looks.{one_is_refused}
use Rattle.rb_command.proofs.Agree.{answer, outcome-line}

-- ---- what clap takes and what it refuses

clap_line : (words : List Text) → any_has_one_hyphen words ≡ false → answer (fault_of reader words) (matches_of reader words) ≡ line_of words
clap_line words none_single =
    ap (λ (f : Kinds). answer f (matches_of reader words)) (leaf_fault (built reader) nothing_held words refl) ∙ outcome-line words none_single

pub taken : (words : List Text) → any_has_one_hyphen words ≡ false → fault_of reader words ≡ [] → line_in (matches_of reader words) ≡ line_of words
taken words none_single fine = ap (λ (f : Kinds). answer f (matches_of reader words)) (sym fine) ∙ clap_line words none_single

pub not_taken : (words : List Text) (k : ErrorKind) → any_has_one_hyphen words ≡ false → IsAmong k (fault_of reader words) → None ≡ line_of words
not_taken words k none_single among = go (fault_of reader words) among ∙ clap_line words none_single
  where
    go : (kinds : Kinds) → IsAmong k kinds → None ≡ answer kinds (matches_of reader words)
    go [] h = absurd h
    go (x ∷ xs) h = refl

-- ---- words with one hyphen

-- a word is no end of the options where its test says so
not_the_end : (word : Text) → bytes_eq word (codes "--") ≡ false → kind_of word ≡ ends → ⊥
not_the_end word not_end is = go (bytes_eq (name_part word) (codes "--steps")) (bytes_eq (name_part word) (codes "--heap-words")) (begins_with_hyphen word) (rw not_end at is)
  where
    go : (a b c : Bool) → (if a then option steps (value_part word) else (if b then option heap_words (value_part word) else (if c then refused else other))) ≡ ends → ⊥
    go true b c h = cc
    go false true c h = cc
    go false false true h = cc
    go false false false h = cc

-- a word with one hyphen begins with one
one_begins : (word : Text) → has_one_hyphen word ≡ true → begins_with_hyphen word ≡ true
one_begins [] h = cc
one_begins (byte ∷ []) h = h
one_begins (byte ∷ next ∷ word) h = left (byte == 45) (not (next == 45)) h
  where
    left : (a b : Bool) → (a && b) ≡ true → a ≡ true
    left true b h = refl
    left false b h = h

nothing_behind : (f : Parts → Option Parts) (o : Option Parts) → ((now : Parts) → f now ≡ None) → option_and_then f o ≡ None
nothing_behind f None none = refl
nothing_behind f (Some now) none = none now

single_words : (words : List Text) (pending : Option Name) (now : Parts) → any_has_one_hyphen words ≡ true → parts_of pending words now ≡ None
single_words [] pending now h = cc
single_words (word ∷ rest) pending now h =
    go (bytes_eq word (codes "--")) (has_one_hyphen word) pending refl refl h (single_words rest)
  where
    at_kind : (k : Kind) → (k ≡ ends → ⊥) → ((pending : Option Name) (next : Parts) → parts_of pending rest next ≡ None)
        → part_on k word rest (λ pending next. parts_of pending rest next) now ≡ None
    at_kind ends other_kind none = absurd (other_kind refl)
    at_kind (option name None) other_kind none = none (Some name) now
    at_kind (option name (Some value)) other_kind none = nothing_behind (parts_of None rest) (part_text name value now) (none None)
    at_kind refused other_kind none = refl
    at_kind other other_kind none = nothing_behind (parts_of None rest) (part_file word now) (none None)

    go : (a b : Bool) (pending : Option Name) → bytes_eq word (codes "--") ≡ a → has_one_hyphen word ≡ b → (not a && (b || any_has_one_hyphen rest)) ≡ true
        → ((pending : Option Name) (next : Parts) → any_has_one_hyphen rest ≡ true → parts_of pending rest next ≡ None) → parts_of pending (word ∷ rest) now ≡ None
    go true b pending is_end one h none = cc
    go false true None is_end one h none = rw (one_is_refused word one) refl
    go false true (Some name) is_end one h none = rw (one_begins word one) refl
    go false false None is_end one h none = at_kind (kind_of word) (not_the_end word is_end) (λ pending next. none pending next h)
    go false false (Some name) is_end one h none = nothing_behind (parts_of None rest) (part_value name word now) (λ next. none None next h)

pub single_refused : (words : List Text) → any_has_one_hyphen words ≡ true → None ≡ line_of words
single_refused words h = sym (ap (option_and_then whole) (single_words words None no_parts h))

-- ---- the line of what was found

pub no_file_found : (f : Found) → first_value f (codes "file") ≡ None → None ≡ line_in (rows_of f)
no_file_found f none =
    let absent : first_of (codes "file") (rows_of f) ≡ None = sym (first_value-rows f (codes "file")) ∙ none in
    rw absent refl

pub file_found : (f : Found) (file : Text) (s p : Option Text) → first_value f (codes "file") ≡ Some file → s ≡ first_value f (codes "steps") → p ≡ first_value f (codes "heap-words")
    → Some (record { file = file; steps = s; heap_words = p }) ≡ line_in (rows_of f)
file_found f file s p is s_is p_is =
    let found : first_of (codes "file") (rows_of f) ≡ Some file = sym (first_value-rows f (codes "file")) ∙ is in
    let steps_found = s_is ∙ first_value-rows f (codes "steps") in
    let heap_words_found = p_is ∙ first_value-rows f (codes "heap-words") in
    rw (found, steps_found, heap_words_found) refl

-- an error that is not for memory
pub refused_line : {L E : Type 0} (see : L → Line) (r : Result (Option L) E) (words : List Text) (e : Error) → IfOk r (λ line. line ≡ None) → IfOk r (λ line. kind_of_error e ≢ OutOfMemory)
    → any_has_one_hyphen words ≡ false → HasKind (fault_of reader words) e → IfOk r (λ line. option_map see line ≡ line_of words)
refused_line see (Err x) words e nothing cause none_single among = tt
refused_line see (Ok line) words e nothing cause none_single (inl memory) = absurd (cause memory)
refused_line see (Ok line) words e nothing cause none_single (inr among) = ap (option_map see) nothing ∙ not_taken words (kind_of_error e) none_single among
