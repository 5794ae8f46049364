-- What the parts of an expression come to.
use Rattle.std.specs.Prelude.{◌≡◌, false, Option, Some, None, Result, Ok, Err}
use Rattle.rb_grammar.specs.Tree.{Tree, TargetTree}
use Rattle.rb_grammar.specs.Phrase as p
use Rattle.rb_grammar.specs.Look.{one_of}
use Rattle.rb_grammar.specs.Rule.{next_meets}
use Rattle.rb_grammar.specs.Scope.{with_target}
use Rattle.rb_grammar.specs.Grammar.{target_of, assignment_marks}
use Rattle.rb_cursor.specs.State.{State, Took}
use Rattle.rb_cursor.specs.declared.fault.ParseFault.{ParseFault}
use Rattle.rb_builder.specs.Walk.{Walk}
use Rattle.rb_builder.specs.Grown.{IsTree, Builds}
use Rattle.rb_builder.specs.Operand.{IsPart, IsTarget}
use Rattle.rb_builder.specs.declared.grown.Grown.{Grown}
use Rattle.rb_builder.specs.declared.operand.Operand.TheVariants as operand
use Rattle.rb_builder.specs.declared.operand.Part.{Part}
use Rattle.rb_builder.specs.declared.operand.Part.TheVariants as part
use Rattle.rb_phrases.specs.declared.operand.Behind.{Behind}
use Rattle.rb_phrases.specs.declared.operand.Behind.TheVariants as behind

-- two trees
pub record ArePair (w : Walk) (g : Grown × Grown) (a : Tree × Tree) : Type 0 where
  pub first : IsTree w g.0 a.0
  pub second : IsTree w g.1 a.1

-- A tree is made where it is not too high, as an operand that is no target.
abbrev pub Makes : Walk → Tree → Result Part ParseFault → Type 0
Makes w a (Ok found) = (g : Grown) × (found ≡ part.Plain (operand.Value g)) × Builds w a (Ok g)
Makes w a (Err e) = Builds w a (Err e)

-- what stands behind is no assignment: there is no target, or no mark behind it
abbrev pub Unassigned : Option TargetTree → State → Type 0
Unassigned None s = Unit {0}
Unassigned (Some target) s = next_meets (one_of assignment_marks) s.rest ≡ false

-- The mark of an assignment stands behind a target and was taken; or none stands behind the part, or it is no target.
abbrev pub WentBehind : Walk → p.Part → State → State → Behind → Type 0
WentBehind w q old new (behind.Mark target mark) =
    (t : TargetTree) × (target_of q ≡ Some t) × IsTarget w target t
    × (s : State) × Took (one_of assignment_marks) old s mark.now × (new ≡ record s { scope = with_target t s.scope })
WentBehind w q old new (behind.Nothing found) = IsPart w found q × (new ≡ old) × Unassigned (target_of q) old
