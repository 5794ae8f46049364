-- What clap is to read.
use Rattle.std.specs.Prelude.{true, Some, codes}
use Rattle.clap.specs.Simple.{App, new_app, new_rule, with_rule, on_top}
use Rattle.clap.specs.Walk.{Rule}
use Rattle.clap.specs.declared.builder.action.ArgAction.TheVariants.{Set}
use Rattle.rb_command.specs.Words.{Text, Name, steps, heap_words}

abbrev pub id_of : Name → Text
id_of steps = codes "steps"
id_of heap_words = codes "heap-words"

abbrev pub file_given : Rule
file_given = record (new_rule (codes "file")) { required = true; action = Some Set }

abbrev pub option_given : Name → Rule
option_given name = record (new_rule (id_of name)) { long = Some (id_of name); action = Some Set }

-- the first word is no name of a program, and nothing asks for help
abbrev pub bare : App
bare = on_top (λ s. record s { no_binary_name = true; disable_help_flag = true }) (new_app (codes "run"))

abbrev pub reader : App
reader = with_rule (with_rule (with_rule bare file_given) (option_given steps)) (option_given heap_words)
