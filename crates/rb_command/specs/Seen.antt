-- What the program holds of the words, as the definitions see it.
use Rattle.std.specs.Prelude.{option_map, map, string_bytes}
use Rattle.rb_command.specs.Words as spec
use Rattle.rb_command.specs.Line as said
use Rattle.rb_command.specs.declared.line.Line.{Line}
use Rattle.rb_command.specs.declared.words.RunWords.{RunWords}
use Rattle.rb_command.specs.declared.words.Command.{Command}
use Rattle.rb_command.specs.declared.words.Command.TheVariants.{Run, Shapes, Work}
use Rattle.rb_command.specs.declared.told.WorkWords.{WorkWords}
use Rattle.rb_command.specs.declared.told.Part.{Part}
use Rattle.rb_command.specs.declared.told.Part.TheVariants.{Number, Size}
use Rattle.rb_command.specs.declared.told.Front.{Front}

abbrev pub line_seen : Line → said.Line
line_seen line = record { file = line.file.now; steps = option_map (λ text. text.now) line.steps; heap_words = option_map (λ text. text.now) line.heap_words }

abbrev pub run_seen : RunWords → spec.Run
run_seen words = record { file = words.file.now; steps = words.steps; heap_words = words.heap_words }

abbrev pub part_seen : Part → spec.Part
part_seen Number = spec.number
part_seen Size = spec.size

abbrev pub front_seen : Front → spec.Front
front_seen front = record { part = part_seen front.part; value = front.value; rest = map string_bytes front.rest.now }

abbrev pub work_seen : WorkWords → spec.Work
work_seen words = record { number = words.number; size = words.size }

abbrev pub seen : Command → spec.Wanted
seen (Run words) = spec.run (run_seen words)
seen (Shapes words) = spec.shapes (run_seen words)
seen (Work words) = spec.work (work_seen words)
