-- The scopes of a parser, as the grammar has them.
use Rattle.std.specs.Prelude.{ℕ, Bool, true, false, List, [], ◌∷◌}
use Rattle.rb_grammar.specs.Scope.{Frame, method, block, Scope}
use Rattle.rb_cursor.specs.declared.scope.Frame as code

-- the scope of a method, or of a block
abbrev pub of_kind : Bool → List (List ℕ) → Frame
of_kind true names = method names
of_kind false names = block names

-- one scope
abbrev pub frame_by : code.Frame → Frame
frame_by f = of_kind f.is_method f.names

-- the scopes, the innermost first, behind some that stand round them
abbrev pub scopes_within : Scope → List code.Frame → Scope
scopes_within outer [] = outer
scopes_within outer (f ∷ fs) = scopes_within (frame_by f ∷ outer) fs
