-- How what a parser has read of a phrase goes on.
use Rattle.std.specs.Prelude.{◌≡◌, ◌≤◌, length, ℕ, Bool, true, false, Option, Some, None, Result, Ok, Err}
use Rattle.rb_grammar.specs.Tree.{BlockTree}
use Rattle.rb_grammar.specs.Phrase as p
use Rattle.rb_grammar.specs.Rule.{Rule}
use Rattle.rb_grammar.specs.Reading.{Outcome}
use Rattle.rb_cursor.specs.State.{State, Failed}
use Rattle.rb_cursor.specs.Here.{at_rule}
use Rattle.rb_cursor.specs.declared.fault.ParseFault.{ParseFault}
use Rattle.rb_builder.specs.Walk.{Walk}
use Rattle.rb_builder.specs.Block.{IsBlock}
use Rattle.rb_builder.specs.declared.block.GrownBlock.{GrownBlock}

-- what the reader comes to is what it comes to behind the value that the parser answers
pub record GoesOn {A B V : Type 0} (Is : B → V → Type 0) (old new : State) (o : Outcome A) (next : V → Outcome A) (b : B) : Type 0 where
  pub value : V
  pub comes : o ≡ next value
  pub same : Is b value
  pub shorter : length new.rest ≤ length old.rest

abbrev pub Goes : {A B V : Type 0} → (Is : B → V → Type 0) → State → State → Outcome A → (V → Outcome A) → Result B ParseFault → Type 0
Goes Is old new o next (Ok b) = GoesOn Is old new o next b
Goes Is old new o next (Err e) = Failed o e

-- what has a block, and goes on without one where none stands there
abbrev pub BlockRule : Type 0
BlockRule = (BlockTree → Rule p.Part) → Rule p.Part → Rule p.Part

-- a block was read
pub record HasBlock (w : Walk) (levels : ℕ) (form : BlockRule) (old new : State) (block : GrownBlock) : Type 0 where
  pub value : BlockTree
  pub same : IsBlock w block value
  pub comes : (k : BlockTree → Rule p.Part) (without : Rule p.Part) → at_rule levels (form k without) old ≡ at_rule levels (k value) new
  pub shorter : length new.rest ≤ length old.rest

-- none stands there
pub record HasNoBlock (levels : ℕ) (form : BlockRule) (old new : State) : Type 0 where
  pub stays : new ≡ old
  pub comes : (k : BlockTree → Rule p.Part) (without : Rule p.Part) → at_rule levels (form k without) old ≡ at_rule levels without old

abbrev pub WithBlock : Walk → ℕ → BlockRule → State → State → Result (Option GrownBlock) ParseFault → Type 0
WithBlock w levels form old new (Ok (Some block)) = HasBlock w levels form old new block
WithBlock w levels form old new (Ok None) = HasNoBlock levels form old new
WithBlock w levels form old new (Err e) = (k : BlockTree → Rule p.Part) (without : Rule p.Part) → Failed (at_rule levels (form k without) old) e

-- nothing was read that could be added, and the rest of the rule follows
pub record AddsNone {A B : Type 0} (old new : State) (o rest : Outcome A) (before after : B) : Type 0 where
  pub stays : new ≡ old
  pub kept : after ≡ before
  pub comes : o ≡ rest

-- what was read is added to what was there, and whether it was
abbrev pub Adds : {A B V : Type 0} → (Is : B → V → Type 0) → State → State → Outcome A → (V → Outcome A) → Outcome A → (before after : B) → Result Bool ParseFault → Type 0
Adds Is old new o next rest before after (Ok true) = GoesOn Is old new o next after
Adds Is old new o next rest before after (Ok false) = AddsNone old new o rest before after
Adds Is old new o next rest before after (Err e) = Failed o e
