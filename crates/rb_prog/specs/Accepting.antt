-- How a source comes to a program that is run, or to its refusal.
use Rattle.std.specs.Prelude.{◌≡◌, ℕ, List, Some, None, Result, Ok, Err}
use Rattle.rb_tree.specs.declared.node.Program.{Program}
use Rattle.rb_lexer.specs.declared.fault.LexFault.{LexFault}
use Rattle.rb_lexer.specs.declared.fault.LexFault.TheVariants as lex
use Rattle.rb_cursor.specs.declared.fault.ParseFault.{ParseFault}
use Rattle.rb_cursor.specs.declared.fault.ParseFault.TheVariants as parse
use Rattle.rb_checker.specs.declared.whole.CheckError.{CheckError}
use Rattle.rb_checker.specs.declared.whole.CheckError.TheVariants as error
use Rattle.rb_checker.specs.Check.{fault_of}
use Rattle.rb_prog.specs.declared.refusal.Refusal.{Refusal}
use Rattle.rb_prog.specs.declared.refusal.Refusal.TheVariants as refusal
use Rattle.rb_prog.specs.declared.source.Unaccepted.{Unaccepted}
use Rattle.rb_prog.specs.declared.source.Unaccepted.TheVariants as unaccepted
use Rattle.rb_prog.specs.Remarks.{refusal_line, memory_line}
use Rattle.rb_prog.specs.Run.{Accepts, RefusedBy}

-- want of memory is no refusal
abbrev pub unread : LexFault → Unaccepted
unread lex.Memory = unaccepted.Memory
unread fault = unaccepted.Refused (refusal.Unread fault)

abbrev pub unparsed : ParseFault → Unaccepted
unparsed parse.Memory = unaccepted.Memory
unparsed fault = unaccepted.Refused (refusal.Unparsed fault)

abbrev pub broken : CheckError → Unaccepted
broken (error.Fault fault) = unaccepted.Refused (refusal.Broken fault)
broken error.Memory = unaccepted.Memory

-- what keeps a program from being run
abbrev pub KeepsOut : Program → Refusal → Type 0
KeepsOut program (refusal.Unread fault) = ⊥
KeepsOut program (refusal.Unparsed fault) = ⊥
KeepsOut program (refusal.Broken fault) = fault_of program ≡ Some fault

-- what is answered to a program: itself, where it may be run; or what keeps it from that; or memory is wanted
abbrev pub Judges : Program → Result Program Unaccepted → Type 0
Judges program (Ok found) = (found ≡ program) × (fault_of program ≡ None)
Judges program (Err (unaccepted.Refused why)) = KeepsOut program why
Judges program (Err unaccepted.Memory) = Unit {0}

-- what is answered to a source
abbrev pub AcceptsOf : List ℕ → Result Program Unaccepted → Type 0
AcceptsOf source (Ok program) = Accepts source program
AcceptsOf source (Err (unaccepted.Refused why)) = RefusedBy source why
AcceptsOf source (Err unaccepted.Memory) = Unit {0}

-- the status of a source that is not accepted, and the line that says why
abbrev pub rejected_status : Unaccepted → ℕ
rejected_status (unaccepted.Refused why) = 3
rejected_status unaccepted.Memory = 8

abbrev pub rejected_line : List ℕ → Unaccepted → List ℕ
rejected_line source (unaccepted.Refused why) = refusal_line source why
rejected_line source unaccepted.Memory = memory_line
