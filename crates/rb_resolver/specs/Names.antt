-- The script that a program is, with the names that its text makes known in each scope.
use Rattle.rb_tree.specs.declared.node.Program.{Program}
use Rattle.rb_machine.specs.Scopes.{Script}
use Rattle.rb_checker.specs.Captured as captured
use Rattle.rb_checker.specs.Scoped as scoped

abbrev pub script_of : Program → Script
script_of program = record {
  program = program;
  block_names = scoped.block_names program;
  method_names = scoped.method_names program;
  main_names = scoped.main_names program;
  captured_names = captured.captured_names program;
  thread_names = captured.thread_names program;
}
