-- The lines of shapes, behind what a run printed.
use Rattle.std.proofs.Common.{◌≡◌, true, false, ℕ, List, [], take, Option, Some, None, IfSome, IsSome, refl, sym, ◌∙◌, subst, inl, inr, arith}
use Rattle.rb_tree.specs.declared.node.Program.{Program}
use Rattle.rb_edge.specs.Edge.{Held, Adds, Told}
use Rattle.rb_edge.specs.Transfer.{ReadOf}
use Rattle.rb_model.specs.Values.{Value}
use Rattle.rb_model.specs.Ends.{End}
use Rattle.rb_model.specs.Ends as ending
use Rattle.shape_core.specs.Shape.{Shape}
use Rattle.rb_prog.specs.declared.source.Unaccepted.{Unaccepted}
use Rattle.rb_prog.specs.declared.source.Unaccepted.TheVariants as unaccepted
use Rattle.rb_prog.specs.declared.top.Valued.{Valued}
use Rattle.rb_prog.specs.Accepting.{rejected_status}
use Rattle.rb_prog.specs.Remarks.{Text, end_line, memory_line}
use Rattle.rb_prog.specs.Shapes.{shape_lines, TellsLines, all, sink_failed, out_of_memory}
use Rattle.rb_prog.specs.Run as run
use Rattle.rb_shared.specs.History.{History}
use Rattle.rb_prog.specs.Shown.{IsShown}
use Rattle.rb_prog.specs.Run.{Accepts, HasValue, Shows, as_run, with_lines, IsOwnOrMemory}
use Rattle.rb_prog.proofs.Adding.{adds_then, adds_none}

-- nothing was said, and then a line
pub told_nothing : (a b : Option Text) (rose : Type 0) → Told a b [] rose → Adds a b []
told_nothing a b rose (inl told) = told
told_nothing a b rose (inr (r, n, short, told)) = absurd (omega (arith, short))

pub told_behind : (a b c : Option Text) (line : Text) (rose now : Type 0) → Adds a b [] → (rose → now) → Told b c line rose → Told a c line now
told_behind a b c line rose now none risen (inl told) = inl (adds_then a b c [] line none told)
told_behind a b c line rose now none risen (inr (r, n, short, told)) = inr (risen r, n, short, adds_then a b c [] (take n line) none told)

-- lines end with the script's own end, or for want of memory, unless the sink failed
pub lines_end : (old new : Option Text) (lines : List Text) (status : ℕ) (line : Text) (sunk : Type 0) → TellsLines old new lines status line
    → (status ≡ 5 → sunk) → (sunk → ⊥) → IsOwnOrMemory status
lines_end old new lines _ _ sunk (all told) cause never = inl refl
lines_end old new lines _ _ sunk (sink_failed cut) cause never = absurd (never (cause refl))
lines_end old new lines _ _ sunk (out_of_memory cut) cause never = inr (inr (inr refl))

pub lines_not_usage : (old new : Option Text) (lines : List Text) (status : ℕ) (line : Text) → TellsLines old new lines status line → status ≡ 2 → ⊥
lines_not_usage old new lines _ _ (all told) e = cc
lines_not_usage old new lines _ _ (sink_failed cut) e = cc
lines_not_usage old new lines _ _ (out_of_memory cut) e = cc

pub lines_not_full : (old new : Option Text) (lines : List Text) (status : ℕ) (line : Text) → TellsLines old new lines status line → status ≡ 7 → ⊥
lines_not_full old new lines _ _ (all told) e = cc
lines_not_full old new lines _ _ (sink_failed cut) e = cc
lines_not_full old new lines _ _ (out_of_memory cut) e = cc

-- ---- what is left of a run that came to a value

-- what `value_left` says of it
abbrev Left : End → Program → List Shape → Valued → Type 0
Left how program shapes left = (value : Value) × (how ≡ ending.Value value) × (left.program ≡ program) × (left.shapes ≡ shapes)

-- what is said of it where its source is known
abbrev LeftOf : List ℕ → ℕ → Option Text → Option Text → Option History → Valued → Type 0
LeftOf source steps old new front left = (history : History) × (value : Value) × (front ≡ Some history) × Accepts source left.program
    × IsShown left.program steps old new history (ending.Value value) left.shapes

pub left_of : (found : Option Valued) (source : List ℕ) (steps : ℕ) (old new : Option Text) (history : History) (how : End) (program : Program) (shapes : List Shape)
    → Accepts source program → IsShown program steps old new history how shapes → IfSome found (Left how program shapes) → IfSome found (LeftOf source steps old new (Some history))
left_of None source steps old new history how program shapes accepted run left = tt
left_of (Some found) source steps old new history how program shapes accepted run left =
    let shaped = subst (λ (s : List Shape). IsShown program steps old new history how s) (sym left.3) run in
    let ended = subst (λ (e : End). IsShown program steps old new history e found.shapes) left.1 shaped in
    (history, left.0, refl, subst (Accepts source) (sym left.2) accepted, subst (λ (p : Program). IsShown p steps old new history (ending.Value left.0) found.shapes) (sym left.2) ended)

-- nothing is said of a value
pub quiet : (found : Option Valued) (how : End) (program : Program) (shapes : List Shape) (source : List ℕ) (steps : ℕ) (a b : Option Text) (rose : Type 0)
    → IfSome found (Left how program shapes) → Told a b (end_line source steps how) rose → IsSome found → Adds a b []
quiet None how program shapes source steps a b rose left told some = let e : false ≡ true = some in absurd (cc)
quiet (Some found) how program shapes source steps a b rose left told some = told_nothing a b rose (subst (λ (e : End). Told a b (end_line source steps e) rose) left.1 told)

pub value_of : (found : Option Valued) (held : Held) (source : List ℕ) (steps : ℕ) (old new : Option Text) (front : Option History)
    → ReadOf held source → IfSome found (LeftOf source steps old new front)
    → IfSome found (λ (left : Valued). (history : History) × (front ≡ Some history) × HasValue held steps old new history left.program left.shapes)
value_of None held source steps old new front read left = tt
value_of (Some found) held source steps old new front read left =
    (left.0, left.2, record { bytes = source; read = read; accepted = left.3; value = left.1; run = left.4 })

pub rejected_not_0 : (why : Unaccepted) → rejected_status why ≡ 0 → ⊥
rejected_not_0 (unaccepted.Refused why) e = cc
rejected_not_0 unaccepted.Memory e = cc

-- ---- what `shapes` answers

pub shows_value : (held : Held) (read_failed : Type 0) (steps : ℕ) (old between new : Option Text) (program : Program) (shapes : List Shape) (status : ℕ) (front behind : Option History) (line : Text)
    → ((history : History) × (front ≡ Some history) × HasValue held steps old between history program shapes) → behind ≡ front → TellsLines between new (shape_lines program shapes) status line
    → Shows held read_failed steps old new status behind line
shows_value held read_failed steps old between new program shapes status front behind line (history, is, has) same lines =
    subst (λ (f : Option History). Shows held read_failed steps old new status f line) (sym (same ∙ is)) (with_lines has lines)

-- memory was wanted before anything was read
pub shows_no_memory : (held : Held) (read_failed : Type 0) (steps : ℕ) (told : Option Text) → Shows held read_failed steps told told 8 None memory_line
shows_no_memory held read_failed steps told = as_run not_0 (run.Runs.out_of_memory (adds_none told))
  where
    not_0 : ◌≡◌ {A = ℕ} 8 0 → ⊥
    not_0 e = cc
