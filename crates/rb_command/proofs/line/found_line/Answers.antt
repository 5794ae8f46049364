use Rattle.std.proofs.Common.{◌∙◌, ap, sym, option_map}
use Rattle.clap.specs.Words.{found_of}
use Rattle.rb_command.specs.Seen.{line_seen}
use Rattle.rb_command.proofs.Whole.{no_file_found, file_found}
use Rattle.rb_command.proofs.line.found_line.Goals as goal

pub returns-in_err-file : goal.returns-in_err-file
returns-in_err-file c = ap (option_map line_seen) c.from_residual.ensures ∙ no_file_found (found_of c.args.matches.now) (sym c.in_err-file.ensures)

pub returns : goal.returns
returns c = file_found (found_of c.args.matches.now) c.in_ok-file.file.now _ _ (sym c.in_ok-file.ensures) c.get_str-2.ensures c.get_str-3.ensures
