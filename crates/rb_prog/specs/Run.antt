-- What the program answers to its words.
use Rattle.std.specs.Prelude.{◌≡◌, ◌⊎◌, ℕ, List, [], Option, Some, None, Ok, Err}
use Rattle.rb_tree.specs.declared.node.Program.{Program}
use Rattle.rb_lexer.specs.declared.token.Token.{Token}
use Rattle.rb_lexer.specs.Tokens.{Lexes}
use Rattle.rb_lexer.specs.declared.fault.LexFault.{LexFault}
use Rattle.rb_grammar.specs.Program.{IsProgram, max_height, max_levels}
use Rattle.rb_grammar.specs.Script.{BeginsNone}
use Rattle.rb_cursor.specs.declared.fault.ParseFault.TheVariants as parse
use Rattle.rb_parser.specs.Limits.{PassesLimits}
use Rattle.rb_checker.specs.declared.fault.CheckFault.{CheckFault}
use Rattle.rb_checker.specs.Check.{fault_of}
use Rattle.rb_edge.specs.Edge.{Held, Adds}
use Rattle.rb_edge.specs.Transfer.{ReadOf, NotHeld}
use Rattle.rb_model.specs.Values.{Value}
use Rattle.rb_model.specs.Ends.{End}
use Rattle.rb_model.specs.Ends as ending
use Rattle.shape_core.specs.Shape.{Shape}
use Rattle.rb_shared.specs.History.{History}
use Rattle.rb_command.specs.Words as asked
use Rattle.rb_workload.specs.Script as workload
use Rattle.rb_prog.specs.Shown.{IsShown}
use Rattle.rb_prog.specs.declared.refusal.Refusal.{Refusal}
use Rattle.rb_prog.specs.declared.refusal.Refusal.TheVariants as refusal
use Rattle.rb_prog.specs.Remarks.{refusal_line, end_line, memory_line, missing_line, failed_line}
use Rattle.rb_prog.specs.Shapes.{shape_lines, TellsLines}

-- a source that has tokens, which spell the program, which keeps the rules of names
pub record Accepts (source : List ℕ) (program : Program) : Type 0 where
  pub tokens : List Token
  pub lexed : Lexes source (Ok tokens)
  pub spelled : IsProgram max_height max_levels tokens program
  pub checked : fault_of program ≡ None

-- why a source has no run
pub data RefusedBy (source : List ℕ) : Refusal → Type 0 where
  -- the first fault in reading its bytes
  unread : {fault : LexFault} → Lexes source (Err fault) → RefusedBy source (refusal.Unread fault)
  -- no script begins with its tokens up to the one at this place
  syntax : {tokens : List Token} {at : ℕ} → Lexes source (Ok tokens) → BeginsNone tokens at → RefusedBy source (refusal.Unparsed (parse.Syntax at))
  -- a limit is passed at this place
  too_nested : {tokens : List Token} {at : ℕ} → Lexes source (Ok tokens) → PassesLimits tokens at → RefusedBy source (refusal.Unparsed (parse.TooNested at))
  -- the fault of its program that counts
  broken : {tokens : List Token} {program : Program} {fault : CheckFault} → Lexes source (Ok tokens) → IsProgram max_height max_levels tokens program
      → fault_of program ≡ Some fault → RefusedBy source (refusal.Broken fault)

-- no program is accepted of a source
abbrev pub IsRefused : List ℕ → Type 0
IsRefused source = (program : Program) → Accepts source program → ⊥

-- the status of an end
abbrev pub status_of : End → ℕ
status_of (ending.Value value) = 0
status_of (ending.Raised fault at) = 1
status_of ending.Steps = 6
status_of (ending.Full used asked) = 7
status_of ending.Sink = 5
status_of ending.Memory = 8

-- the status of an end of the script's own, or of want of memory
abbrev pub IsOwnOrMemory : ℕ → Type 0
IsOwnOrMemory status = (status ≡ 0) ⊎ ((status ≡ 1) ⊎ ((status ≡ 6) ⊎ (status ≡ 8)))

-- What a run of a source with so many steps answers, by what the sink told before and tells now: the status, the history that is
-- shown, and the line that goes to standard error.
pub data RunsSource (source : List ℕ) (steps : ℕ) (old new : Option (List ℕ)) : ℕ → Option History → List ℕ → Type 0 where
  -- the source is a program, and the history is a run of it, which ended so
  shown : {program : Program} {history : History} {how : End} {shapes : List Shape} → Accepts source program → IsShown program steps old new history how shapes
      → RunsSource source steps old new (status_of how) (Some history) (end_line source steps how)
  refused : {why : Refusal} → RefusedBy source why → IsRefused source → Adds old new [] → RunsSource source steps old new 3 None (refusal_line source why)
  out_of_memory : Adds old new [] → RunsSource source steps old new 8 None memory_line

-- What a run of a path answers, by what is held under it and whether a read failed.
pub data Runs (held : Held) (read_failed : Type 0) (steps : ℕ) (old new : Option (List ℕ)) : ℕ → Option History → List ℕ → Type 0 where
  read : {bytes : List ℕ} {status : ℕ} {front : Option History} {line : List ℕ} → ReadOf held bytes → RunsSource bytes steps old new status front line
      → Runs held read_failed steps old new status front line
  missing : NotHeld held → Adds old new [] → Runs held read_failed steps old new 4 None missing_line
  failed : read_failed → Adds old new [] → Runs held read_failed steps old new 4 None failed_line
  out_of_memory : Adds old new [] → Runs held read_failed steps old new 8 None memory_line

-- What `work` answers: what a run of the script for its numbers answers, with the steps that a thread may make where no words tell them.
abbrev pub Works : asked.Work → Option (List ℕ) → Option (List ℕ) → ℕ → Option History → List ℕ → Type 0
Works wanted = RunsSource (workload.script wanted.number wanted.size) (asked.default_of asked.steps)

-- A run of a path came to a value: what was read is a program, and the history is a run of it; the shapes are those that the main
-- thread's objects have had.
pub record HasValue (held : Held) (steps : ℕ) (old new : Option (List ℕ)) (history : History) (program : Program) (shapes : List Shape) : Type 0 where
  pub bytes : List ℕ
  pub read : ReadOf held bytes
  pub accepted : Accepts bytes program
  pub value : Value
  pub run : IsShown program steps old new history (ending.Value value) shapes

-- What `shapes` answers to a path: where no run came to a value, what a run answers; and else the lines of the shapes stand behind
-- what the run printed.
pub data Shows (held : Held) (read_failed : Type 0) (steps : ℕ) (old new : Option (List ℕ)) : ℕ → Option History → List ℕ → Type 0 where
  as_run : {status : ℕ} {front : Option History} {line : List ℕ} → (status ≡ 0 → ⊥) → Runs held read_failed steps old new status front line
      → Shows held read_failed steps old new status front line
  with_lines : {between : Option (List ℕ)} {history : History} {program : Program} {shapes : List Shape} {status : ℕ} {line : List ℕ}
      → HasValue held steps old between history program shapes → TellsLines between new (shape_lines program shapes) status line
      → Shows held read_failed steps old new status (Some history) line
