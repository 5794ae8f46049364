-- The line that clap's matches tell.
use Rattle.std.specs.Prelude.{List, Option, option_map, codes}
use Rattle.clap.specs.Walk.{Row, first_of}
use Rattle.rb_command.specs.Words.{Text}
use Rattle.rb_command.specs.Line.{Line}

abbrev pub line_in : List Row → Option Line
line_in rows = option_map (λ (file : Text). record {
  file = file;
  steps = first_of (codes "steps") rows;
  heap_words = first_of (codes "heap-words") rows;
}) (first_of (codes "file") rows)
