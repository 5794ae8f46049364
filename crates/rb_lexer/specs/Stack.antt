-- The modes as a list.
use Rattle.std.specs.Prelude.{List, ◌∷◌, reverse}
use Rattle.rb_lexer.specs.declared.mode.Mode.{Mode}
use Rattle.rb_lexer.specs.declared.stack.Modes.{Modes}

-- the modes, the innermost first
abbrev pub modes_of : Modes → List Mode
modes_of modes = modes.innermost ∷ reverse modes.below.items
