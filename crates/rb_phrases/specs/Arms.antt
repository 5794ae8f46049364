-- Choices with more than one condition, as the grammar has them.
use Rattle.std.specs.Prelude.{◌≡◌, true, List, [], ◌∷◌}
use Rattle.rb_tree.specs.declared.span.Span.{Span}
use Rattle.rb_grammar.specs.Tree.{Tree, choice}
use Rattle.rb_lexer.specs.declared.token.Token.{Token}
use Rattle.rb_grammar.specs.Phrase as p
use Rattle.rb_grammar.specs.Rule.{Rule, done, phrase, built}
use Rattle.rb_grammar.specs.Grammar.{finished, decided}
use Rattle.rb_builder.specs.Walk.{Walk}
use Rattle.rb_builder.specs.Grown.{IsTree, IsRow}
use Rattle.rb_phrases.specs.declared.arms.Arm as code

-- a condition and the body that it chooses
pub record ArmTree : Type 0 where
  pub at : Span
  pub condition : Tree
  pub body : List Tree

pub record IsArm (w : Walk) (c : code.Arm) (a : ArmTree) : Type 0 where
  pub at : c.at ≡ a.at
  pub condition : IsTree w c.condition a.condition
  pub body : IsRow w c.body a.body

-- arms in the order of the text
abbrev pub AreArms : Walk → List code.Arm → List ArmTree → Type 0
AreArms w [] [] = Unit {0}
AreArms w (c ∷ cs) (a ∷ more) = IsArm w c a × AreArms w cs more
AreArms w cs more = ⊥

-- the choice of an arm, or else of what stands behind
abbrev pub choice_of : ArmTree → List Tree → Tree
choice_of a otherwise = choice a.at a.condition a.body otherwise

-- the choices of arms, of which the last is built first
abbrev pub closed_by : {A : Type 0} → List ArmTree → List Tree → (List Tree → Rule A) → Rule A
closed_by [] otherwise k = k otherwise
closed_by (a ∷ more) otherwise k = closed_by more otherwise (λ rest. built (choice_of a rest) (k (choice_of a rest ∷ [])))

-- the whole choice
abbrev pub chosen_of : ArmTree → List ArmTree → List Tree → Rule Tree
chosen_of first more otherwise = closed_by more otherwise (λ rest. finished (choice_of first rest))

-- a condition and the body behind it
abbrev pub arm_of : Token → Rule ArmTree
arm_of t =
    phrase (p.expression true) (λ a. decided t a (λ c. phrase p.then (λ o. phrase (p.body []) (λ b. done (record { at = t.at; condition = c; body = b })))))
