-- The rules that a class has few instance variables, and a script few global variables and few classes.
use Rattle.std.specs.Prelude.{ℕ, nat_le, List, [], ◌∷◌, ◌++◌, length, drop, map, if◌then◌else◌}
use Rattle.std.specs.List.{flat_map}
use Rattle.rb_tree.specs.declared.span.Span.{Span}
use Rattle.rb_tree.specs.declared.span.NameId.{NameId}
use Rattle.rb_tree.specs.declared.node.Class.{Class}
use Rattle.rb_checker.specs.declared.event.Event.{Event}
use Rattle.rb_checker.specs.declared.event.Sight.{Sight}
use Rattle.rb_checker.specs.declared.event.Sight.TheVariants as sight
use Rattle.rb_checker.specs.declared.fault.CheckFault.{CheckFault}
use Rattle.rb_checker.specs.declared.fault.CheckFault.TheVariants as fault
use Rattle.rb_checker.specs.Names.{is_among}

-- how many instance variables a class may have, global variables a script, and classes
abbrev pub max_fields : ℕ
max_fields = 32

abbrev pub max_globals : ℕ
max_globals = 256

abbrev pub max_classes : ℕ
max_classes = 256

-- a variable where it stands
abbrev pub Uses : Type 0
Uses = List (NameId × Span)

abbrev pub field_use : Sight → Span → Uses
field_use (sight.Field name) at = (name, at) ∷ []
field_use other at = []

abbrev pub global_use : Sight → Span → Uses
global_use (sight.Global name) at = (name, at) ∷ []
global_use other at = []

abbrev pub fields_in : List Event → Uses
fields_in events = flat_map (λ (e : Event). field_use e.sight e.at) events

abbrev pub globals_in : List Event → Uses
globals_in events = flat_map (λ (e : Event). global_use e.sight e.at) events

-- a use put among uses that stand in the order of the text
abbrev pub with_use : NameId × Span → Uses → Uses
with_use u [] = u ∷ []
with_use u (v ∷ vs) = if nat_le u.1.from v.1.from then u ∷ v ∷ vs else v ∷ with_use u vs

-- uses in the order of the text
abbrev pub by_place : Uses → Uses
by_place [] = []
by_place (u ∷ us) = with_use u (by_place us)

-- A fault where a name first stands with as many others before it as there may be. These stand before the uses.
abbrev pub crowded_behind : ℕ → List NameId → Uses → List CheckFault
crowded_behind limit before [] = []
crowded_behind limit before (u ∷ more) =
    if is_among u.0 before then crowded_behind limit before more
    else (if nat_le limit (length before) then fault.TooManyFields u.1 ∷ [] else []) ++ crowded_behind limit (u.0 ∷ before) more

-- the names of uses, each once, in front of those before them
abbrev pub seen_behind : List NameId → Uses → List NameId
seen_behind before [] = before
seen_behind before (u ∷ more) = if is_among u.0 before then seen_behind before more else seen_behind (u.0 ∷ before) more

abbrev pub crowded : ℕ → Uses → List CheckFault
crowded limit uses = crowded_behind limit [] uses

-- a fault at each class behind those that there may be
abbrev pub classes_crowded : List Class → List CheckFault
classes_crowded classes = map (λ (c : Class). fault.TooManyClasses c.at) (drop max_classes classes)
