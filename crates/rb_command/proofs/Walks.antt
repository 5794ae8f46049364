-- One word of clap's walk: what may fail, and where the walk stands behind it.
use Rattle.std.proofs.Common.{ℕ, ◌≡◌, ◌∙◌, ap, Bool, true, false, List, [], ◌∷◌, Option, Some, None, codes, refl}
use Rattle.std.specs.Prelude.{◌&&◌, if◌then◌else◌}
use Rattle.std.specs.Str.{bytes_eq}
use Rattle.clap.specs.Lexer.{long_of, short_of}
use Rattle.clap.specs.Kinds.{Kinds, or_else}
use Rattle.clap.specs.Faults.{settle_fault, turn_fault, repeat_fault}
use Rattle.clap.specs.Walk.{Held, Walk, Waiting, Row, idle, option, positional, walked, settled, settled_rows, positional_held, pushed, subcommand_met, arg_by_long}
use Rattle.clap.specs.declared.error.kind.ErrorKind.TheVariants as kind
use Rattle.rb_command.specs.Words.{Text, Name, steps, heap_words}
use Rattle.rb_command.proofs.Reader.{rules, shape, id_of, file_rule}
use Rattle.rb_command.proofs.Rows.{looked, has_row-looked, after_use}

abbrev pub at : Held → Waiting → ℕ → Bool → Walk
at held waiting position is_trailing = record { held = held; waiting = waiting; position = position; is_trailing = is_trailing; stopped = None }

abbrev pub after : Walk → Text → Walk
after w word = walked rules [] w word

abbrev pub fault : Walk → Text → Kinds
fault w word = turn_fault shape [] w word

abbrev pub settles : Held → Kinds
settles held = settle_fault rules false held

abbrev pub rows_in : Held → List Row
rows_in held = settled_rows rules held.pending held.rows

-- ---- a FILE

-- what holds the FILE
abbrev pub with_file_held : Text → Held → Held
with_file_held word held = record held { rows = rows_in held; pending = Some (codes "file", word ∷ []) }

never : {X : Type 0} (b : Bool) (x y : X) → (if b && false then x else y) ≡ y
never true x y = refl
never false x y = refl

file_goes : (held : Held) (word : Text) → positional_held rules file_rule word held ≡ with_file_held word held
file_goes held word = ap (pushed (codes "file") word) (never _ held (settled rules held))

pub trailing_fault : (held : Held) (waiting : Waiting) (word : Text) → fault (at held waiting 1 true) word ≡ settles held
trailing_fault held waiting word = never _ [] (settles held)

pub trailing_after : (held : Held) (word : Text) → after (at held idle 1 true) word ≡ at (with_file_held word held) idle 2 true
unfolding walked
trailing_after held word = ap (λ (h : Held). at h idle 2 true) (file_goes held word)

pub trailing_stray : (held : Held) (waiting : Waiting) (word : Text) → fault (at held waiting 2 true) word ≡ kind.UnknownArgument ∷ []
trailing_stray held waiting word = refl

module _ (held : Held) (word : Text) (not_end : bytes_eq word (codes "--") ≡ false) (not_long : long_of word ≡ None) (not_short : short_of word ≡ None) where
  pub other_fault : fault (at held idle 1 false) word ≡ settles held
  other_fault = rw (not_end, not_long, not_short) (never _ [] (settles held))

  pub other_stray : fault (at held idle 2 false) word ≡ kind.UnknownArgument ∷ []
  other_stray = rw (not_end, not_long, not_short) refl

  pub other_after : after (at held idle 1 false) word ≡ at (with_file_held word held) idle 2 false
  unfolding walked
  other_after = rw (not_end, not_long, not_short) (ap (λ (h : Held). at h idle 2 false) (file_goes held word))

  -- the word is the value of the option that waits
  pub value_fault : (name : Name) (position : ℕ) → fault (at held (option (id_of name)) position false) word ≡ []
  value_fault steps position = rw (not_end, not_long, not_short) refl
  value_fault heap_words position = rw (not_end, not_long, not_short) refl

-- ---- the end of the options

pub end_fault : (held : Held) (waiting : Waiting) (position : ℕ) (word : Text) → bytes_eq word (codes "--") ≡ true → fault (at held waiting position false) word ≡ []
end_fault held idle position word is = rw is refl
end_fault held (option id) position word is = rw is refl
end_fault held positional position word is = rw is refl

pub end_after : (held : Held) (waiting : Waiting) (position : ℕ) (word : Text) → bytes_eq word (codes "--") ≡ true → after (at held waiting position false) word ≡ at held waiting position true
unfolding walked
end_after held idle position word is = rw is refl
end_after held (option id) position word is = rw is refl
end_after held positional position word is = rw is refl

-- ---- options

-- an option waits for its value
abbrev pub wanting : Name → Held → Held
wanting name held = record held { rows = rows_in held; pending = Some (id_of name, []) }

-- an option has its value
abbrev pub with_value_held : Name → Text → Held → Held
with_value_held name value held = record held { rows = after_use (id_of name) value (rows_in held); pending = None }

abbrev pub repeats : Name → List Row → Kinds
repeats name rows = repeat_fault false (id_of name) rows

pub or_else-nil : (kinds : Kinds) → or_else kinds [] ≡ kinds
or_else-nil [] = refl
or_else-nil (k ∷ kinds) = refl

no_subcommand : (waiting : Waiting) (word : Text) → subcommand_met [] waiting word ≡ None
no_subcommand idle word = refl
no_subcommand (option id) word = refl
no_subcommand positional word = refl

module _ (held : Held) (position : ℕ) (word : Text) (not_end : bytes_eq word (codes "--") ≡ false) where
  pub name_fault : (name : Name) (waiting : Waiting) → long_of word ≡ Some (id_of name, None) → fault (at held waiting position false) word ≡ settles held
  name_fault steps waiting is = rw (no_subcommand waiting word, not_end, is) (or_else-nil (settles held))
  name_fault heap_words waiting is = rw (no_subcommand waiting word, not_end, is) (or_else-nil (settles held))

  pub name_after : (name : Name) (waiting : Waiting) → long_of word ≡ Some (id_of name, None)
      → after (at held waiting position false) word ≡ at (wanting name held) (option (id_of name)) position false
  unfolding walked
  name_after steps waiting is = rw (no_subcommand waiting word, not_end, is) refl
  name_after heap_words waiting is = rw (no_subcommand waiting word, not_end, is) refl

  pub given_fault : (name : Name) (waiting : Waiting) (value : Text) → long_of word ≡ Some (id_of name, Some value)
      → fault (at held waiting position false) word ≡ or_else (settles held) (repeats name (rows_in held))
  given_fault steps waiting value is = rw (no_subcommand waiting word, not_end, is)
      (or_else-nil (or_else (settles held) (or_else (repeats steps (rows_in held)) [])) ∙ ap (or_else (settles held)) (or_else-nil (repeats steps (rows_in held))))
  given_fault heap_words waiting value is = rw (no_subcommand waiting word, not_end, is)
      (or_else-nil (or_else (settles held) (or_else (repeats heap_words (rows_in held)) [])) ∙ ap (or_else (settles held)) (or_else-nil (repeats heap_words (rows_in held))))

  pub given_after : (name : Name) (waiting : Waiting) (value : Text) → long_of word ≡ Some (id_of name, Some value)
      → after (at held waiting position false) word ≡ at (with_value_held name value held) idle position false
  unfolding walked
  given_after steps waiting value is = rw (no_subcommand waiting word, not_end, is) refl
  given_after heap_words waiting value is = rw (no_subcommand waiting word, not_end, is) refl

  pub unknown_fault : (name : Text) (waiting : Waiting) (value : Option Text) → long_of word ≡ Some (name, value) → arg_by_long rules name ≡ None
      → fault (at held waiting position false) word ≡ kind.UnknownArgument ∷ []
  unknown_fault name waiting value is unknown = rw (no_subcommand waiting word, not_end, is, unknown) refl

-- an option's value in the word behind it
abbrev pub value_held : Name → Text → Held → Held
value_held name value held = record held { pending = Some (id_of name, value ∷ []) }

module _ (held : Held) (word : Text) (not_end : bytes_eq word (codes "--") ≡ false) (not_long : long_of word ≡ None) (not_short : short_of word ≡ None) where
  pub value_after : (name : Name) (position : ℕ)
      → after (at (wanting name held) (option (id_of name)) position false) word ≡ at (value_held name word (wanting name held)) idle position false
  unfolding walked
  value_after steps position = rw (not_end, not_long, not_short) refl
  value_after heap_words position = rw (not_end, not_long, not_short) refl

-- ---- what is held is used

pub value_settles : (name : Name) (value : Text) (held : Held) → settles (value_held name value held) ≡ repeats name held.rows
value_settles steps value held = or_else-nil (repeats steps held.rows)
value_settles heap_words value held = or_else-nil (repeats heap_words held.rows)

pub file_settles : (word : Text) (held : Held) → settles (with_file_held word held) ≡ repeat_fault false (codes "file") (rows_in held)
file_settles word held = or_else-nil (repeat_fault false (codes "file") (rows_in held))

pub wanting_settles : (name : Name) (held : Held) → settles (wanting name held) ≡ kind.InvalidValue ∷ []
wanting_settles steps held = refl
wanting_settles heap_words held = refl

-- ---- repeats

pub repeat_first : (id : Text) (rows : List Row) → looked id rows ≡ None → repeat_fault false id rows ≡ []
repeat_first id rows absent = rw (has_row-looked id rows, absent) refl

pub repeat_second : (id : Text) (rows : List Row) (r : Row) → looked id rows ≡ Some r → repeat_fault false id rows ≡ kind.ArgumentConflict ∷ []
repeat_second id rows r present = rw (has_row-looked id rows, present) refl
