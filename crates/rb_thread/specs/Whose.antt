-- What stands in the place of a store and a script where none is picked.
use Rattle.std.specs.Prelude.{[]}
use Rattle.atomic_table.specs.Seated.{TableId}
use Rattle.rb_machine.specs.Scopes.{Script}

abbrev pub no_table : TableId
no_table = record { words = 0; slots = 0; views_name = 0; atom = 0; block = 0; offset = 0; slot_names = [] }

abbrev pub no_script : Script
no_script = record {
  program = record { names = []; classes = []; functions = []; bodies = []; main = [] };
  block_names = λ place. [];
  method_names = λ m. [];
  main_names = [];
  captured_names = λ body. [];
  thread_names = λ body. [];
}
