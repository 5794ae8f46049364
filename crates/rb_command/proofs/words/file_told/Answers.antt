use Rattle.std.proofs.Common.{◌∙◌, ap, sym, option_map, map, string_bytes}
use Rattle.std.specs.Prelude.{option_and_then}
use Rattle.rb_command.specs.Line.{plain_run_of_line}
use Rattle.rb_command.specs.Seen.{line_seen}
use Rattle.rb_command.proofs.Counted.{reads-file}
use Rattle.rb_command.proofs.words.file_told.Goals as goal

pub returns-in-Some : goal.returns-in-Some
returns-in-Some c =
    c.plain_words.ensures
    ∙ ap (option_and_then plain_run_of_line) (ap (option_map line_seen) (sym c.in-Some.is) ∙ c.in_ok-line.ensures)
    ∙ sym (reads-file (map string_bytes c.args.words.now))

pub returns-in-None : goal.returns-in-None
returns-in-None c =
    ap (option_and_then plain_run_of_line) (ap (option_map line_seen) (sym c.in-None.is) ∙ c.in_ok-line.ensures)
    ∙ sym (reads-file (map string_bytes c.args.words.now))
