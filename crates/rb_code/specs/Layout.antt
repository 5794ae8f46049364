-- How the locals in scope lie in slots.
use Rattle.std.specs.Prelude.{ℕ, suc, Bool, true, false, ◌&&◌, List, [], ◌∷◌, Option, Some, None, if◌then◌else◌, ◌==◌}
use Rattle.std.specs.Option.{option_map}
use Rattle.rb_tree.specs.declared.span.NameId.{NameId}
use Rattle.rb_model.specs.Values.{Value}
use Rattle.rb_machine.specs.Scopes.{Locals, or_else}

-- names with the values of their slots
abbrev pub bound : List NameId → List Value → Locals
bound [] vs = []
bound (n ∷ ns) [] = []
bound (n ∷ ns) (v ∷ vs) = (n, v) ∷ bound ns vs

-- the slot of a name: its last place among the names in scope
abbrev pub slot_of : NameId → List NameId → Option ℕ
slot_of name [] = None
slot_of name (n ∷ ns) = or_else (option_map suc (slot_of name ns)) (if n.0 == name.0 then Some 0 else None)

abbrev pub is_at : Option ℕ → ℕ → Bool
is_at None slot = false
is_at (Some s) slot = s == slot

-- whether this is the slot of a name
abbrev pub has_slot : NameId → List NameId → ℕ → Bool
has_slot name names slot = is_at (slot_of name names) slot

-- whether these are the slots of names, one of each
abbrev pub have_slots : List NameId → List NameId → List ℕ → Bool
have_slots [] names [] = true
have_slots (n ∷ ns) names (slot ∷ slots) = has_slot n names slot && have_slots ns names slots
have_slots others names slots = false
