-- The reader that clap is given, as its lists of rules.
use Rattle.std.proofs.Common.{◌≡◌, true, false, List, [], ◌∷◌, None, codes, refl, ap, sym, ◌∙◌}
use Rattle.std.specs.Str.{bytes_eq}
use Rattle.clap.specs.Faults.{is_simple_and_free}
use Rattle.clap.specs.Simple.{Shape, new_app, with_index, filled, on_top, built, is_simple, names_of, app_of, app_of_fields}
use Rattle.clap.specs.Walk.{Rule, arg_by_long}
use Rattle.clap.specs.declared.builder.command.Command.{Command}
use Rattle.clap.specs.declared.builder.command.Command.TheViews.{out-Command}
use Rattle.rb_command.specs.Words.{Text, Name, steps, heap_words}
pub use Rattle.rb_command.specs.Reader.{id_of, file_given, option_given, bare, reader}
use Rattle.std.proofs.lemmas.Slice.Eq.{bytes_eq-Decides}
use Rattle.std.proofs.lemmas.Bool.Decides.{same_from_decides, Decides-like}

pub bytes_eq-sym : (xs ys : Text) → bytes_eq xs ys ≡ bytes_eq ys xs
bytes_eq-sym xs ys = same_from_decides (bytes_eq xs ys) (bytes_eq ys xs) (bytes_eq-Decides xs ys) (Decides-like _ (λ (e : ys ≡ xs). sym e) (λ (e : xs ≡ ys). sym e) (bytes_eq-Decides ys xs))

pub is_plain_reader : is_simple_and_free reader ≡ true
is_plain_reader = refl

pub is_simple_reader : is_simple reader ≡ true
is_simple_reader = refl

pub no_subcommands : (built reader).subs ≡ []
no_subcommands = refl

pub no_names : names_of (built reader) ≡ []
no_names = refl

abbrev pub shape : Shape
shape = (built reader).top

abbrev pub rules : List Rule
rules = shape.rules

-- ---- the rules by their names

abbrev pub file_rule : Rule
file_rule = with_index 1 (filled file_given)

abbrev pub option_rule : Name → Rule
option_rule name = filled (option_given name)

pub rules_are : rules ≡ file_rule ∷ option_rule steps ∷ option_rule heap_words ∷ []
rules_are = refl

-- no rule has the name
pub unknown_name : (name : Text) → bytes_eq name (id_of steps) ≡ false → bytes_eq name (id_of heap_words) ≡ false → arg_by_long rules name ≡ None
unknown_name name not_steps not_heap_words =
    let one : bytes_eq (id_of steps) name ≡ false = bytes_eq-sym (id_of steps) name ∙ not_steps in
    let two : bytes_eq (id_of heap_words) name ≡ false = bytes_eq-sym (id_of heap_words) name ∙ not_heap_words in
    rw (one, two) refl

-- ---- the command that is built

pub bare_command : (new unnamed helpless : Command) → app_of new ≡ new_app (codes "run") → out-Command unnamed ≡ record (out-Command new) { no_binary_name = true }
    → out-Command helpless ≡ record (out-Command unnamed) { disable_help_flag = true } → app_of helpless ≡ bare
bare_command new unnamed helpless new_is unnamed_is helpless_is =
    ap app_of_fields helpless_is ∙ ap (on_top (λ (s : Shape). record s { disable_help_flag = true }))
    (ap app_of_fields unnamed_is ∙ ap (on_top (λ (s : Shape). record s { no_binary_name = true })) new_is)
