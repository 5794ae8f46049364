-- Which identifiers are locals, as Ruby tells local variables from method calls. A method begins a scope that sees no other; a
-- block's scope sees those round it.
use Rattle.std.specs.Prelude.{Bool, false, ◌||◌, List, [], ◌∷◌, if◌then◌else◌}
use Rattle.std.specs.List.{list_any}
use Rattle.std.specs.Str.{bytes_eq}
use Rattle.rb_tree.specs.Texts.{with_text}
use Rattle.rb_grammar.specs.Tree.{Text, Word, TargetTree, to_local}

-- the locals of one scope
pub data Frame : Type 0 where
  method block : List Text → Frame

-- the scopes at a place, the innermost first
abbrev pub Scope : Type 0
Scope = List Frame

-- the scope of the statements outside methods, before the first of them
abbrev pub top_level : Scope
top_level = method [] ∷ []

-- whether a name is a local here: the scopes count up to that of the innermost method
abbrev pub is_local : Text → Scope → Bool
is_local text [] = false
is_local text (method names ∷ outer) = list_any (bytes_eq text) names
is_local text (block names ∷ outer) = list_any (bytes_eq text) names || is_local text outer

-- behind the beginning of a method's scope, and of a block's
abbrev pub enter_method : Scope → Scope
enter_method scope = method [] ∷ scope

abbrev pub enter_block : Scope → Scope
enter_block scope = block [] ∷ scope

-- behind the end of the innermost scope
abbrev pub leave : Scope → Scope
leave [] = []
leave (inner ∷ outer) = outer

-- a name that becomes a local of the innermost scope
abbrev pub with_local : Text → Scope → Scope
with_local text [] = []
with_local text (method names ∷ outer) = method (with_text names text) ∷ outer
with_local text (block names ∷ outer) = block (with_text names text) ∷ outer

abbrev pub with_params : List Word → Scope → Scope
with_params [] scope = scope
with_params (w ∷ ws) scope = with_params ws (with_local w.text scope)

-- the first target of a name makes it a local
abbrev pub with_target : TargetTree → Scope → Scope
with_target (to_local w) scope = if is_local w.text scope then scope else with_local w.text scope
with_target target scope = scope
