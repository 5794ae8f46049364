-- Which names the text of a program makes known in each scope: the parameters first, then each local in the order in which it is first
-- assigned, without those that are known round the scope.
use Rattle.std.specs.Prelude.{ℕ, ◌&&◌, not, List, [], ◌∷◌, ◌++◌, Option, Some, None, unwrap_or, nat_eq, if◌then◌else◌}
use Rattle.std.specs.HashMap as map
use Rattle.std.specs.HashMap.{HashMap}
use Rattle.std.specs.List.{flat_map, list_any}
use Rattle.std.specs.declared.hash.FoldHasher.{FoldHasher}
use Rattle.std.specs.declared.hash.BuildHasherDefault.{BuildHasherDefault}
use Rattle.rb_tree.specs.declared.span.Span.{Span}
use Rattle.rb_tree.specs.declared.span.NameId.{NameId}
use Rattle.rb_tree.specs.declared.node.Method.{Method}
use Rattle.rb_tree.specs.declared.node.Program.{Program}
use Rattle.rb_checker.specs.declared.locals.Local.{Local}
use Rattle.rb_checker.specs.Check.{method_events, texts}
use Rattle.rb_checker.specs.Events.{events_in, bodies_from}
use Rattle.rb_checker.specs.Locals.{Use, assigns, same_scope, same_local, uses_in}

-- the locals that uses give values to, parameters too
abbrev pub made_by : Use → List Local
made_by u = if assigns u.usage then u.local ∷ [] else []

abbrev pub made_in : List Use → List Local
made_in uses = flat_map made_by uses

-- the name of a local, where it is one of a scope and not among those before
abbrev pub new_name : List Local → Option ℕ → Local → List NameId
new_name before scope l = if same_scope l.scope scope && not (list_any (same_local l) before) then (record { 0 = l.name }) ∷ [] else []

-- the names of locals in a scope, each once; other locals stand before these
abbrev pub names_behind : List Local → Option ℕ → List Local → List NameId
names_behind before scope [] = []
names_behind before scope (l ∷ more) = new_name before scope l ++ names_behind (l ∷ before) scope more

-- the names that uses make known in a scope, that of the block or thread at a place or that of the text itself
abbrev pub names_in : List Use → Option ℕ → List NameId
names_in uses scope = names_behind [] scope (made_in uses)

module _ (program : Program) where
  abbrev pub method_names : Method → List NameId
  method_names m = names_in (uses_in (method_events program m)) None

  abbrev pub main_names : List NameId
  main_names = names_in (uses_in (events_in (bodies_from 0 program.bodies) [] program.main)) None

  -- those of the block or thread at a place
  abbrev pub block_names : Span → List NameId
  block_names at = names_in (flat_map uses_in (texts program)) (Some at.from)

-- the names that a table has for a place
abbrev pub names_at : HashMap ℕ (List NameId) (BuildHasherDefault FoldHasher) → ℕ → List NameId
names_at table place = unwrap_or (map.get nat_eq table place) []
