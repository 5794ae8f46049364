-- The numbers of the names and the bodies that a first walk gathered.
use Rattle.std.specs.Prelude.{◌≡◌, ℕ, nat_eq, Bool, List, Option, Some, None, map, position, if◌then◌else◌}
use Rattle.std.specs.HashMap.{get, HashMap}
use Rattle.std.specs.declared.hash.FoldHasher.{FoldHasher}
use Rattle.std.specs.declared.hash.BuildHasherDefault.{BuildHasherDefault}
use Rattle.rb_grammar.specs.Program.{in_order}
use Rattle.rb_builder.specs.Said.{text_given}
use Rattle.rb_builder.specs.declared.word.Given.{Given}
use Rattle.rb_builder.specs.declared.numbers.Numbers.{Numbers}

-- numbers of bodies by the places of their blocks
abbrev pub Bodies : Type 0
Bodies = HashMap ℕ ℕ (BuildHasherDefault FoldHasher)

-- the number of a body, by the place of its block
abbrev pub number_at : Bodies → ℕ → Option ℕ
number_at bodies at = get nat_eq bodies at

-- the number that was there, or where there was none and the place is this one the next
abbrev pub number_or : Option ℕ → Bool → ℕ → Option ℕ
number_or (Some number) here next = Some number
number_or None here next = if here then Some next else None

-- the number of a place is where it first stands among these
abbrev pub AreNumbered : List ℕ → Bodies → Type 0
AreNumbered places bodies = (at : ℕ) → number_at bodies at ≡ position (λ place. nat_eq place at) places

-- names have their place among those that tokens give, each once, and bodies theirs among the threads
pub record NumbersAll (words : List Given) (threads : List ℕ) (n : Numbers) : Type 0 where
  pub names : n.names ≡ in_order (map text_given words)
  pub bodies : AreNumbered threads n.bodies
