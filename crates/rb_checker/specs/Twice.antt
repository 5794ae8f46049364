-- The rule that a name is defined once.
use Rattle.std.specs.Prelude.{Bool, false, ◌||◌, ◌&&◌, List, [], ◌∷◌, ◌++◌, slice_get, map, if◌then◌else◌}
use Rattle.std.specs.List.{list_any, flat_map}
use Rattle.rb_tree.specs.declared.span.Span.{Span}
use Rattle.rb_tree.specs.declared.span.NameId.{NameId}
use Rattle.rb_tree.specs.declared.node.Method.{Method}
use Rattle.rb_tree.specs.declared.node.Class.{Class}
use Rattle.rb_tree.specs.declared.node.Program.{Program}
use Rattle.rb_checker.specs.declared.fault.CheckFault.{CheckFault}
use Rattle.rb_checker.specs.declared.fault.CheckFault.TheVariants as fault
use Rattle.rb_checker.specs.Names.{Text, is_among, text_among, taken_classes}
use Rattle.rb_checker.specs.declared.locals.Local.{Local}
use Rattle.rb_checker.specs.Locals.{Use, is_param, same_local}

-- names that are defined, each with its place
abbrev pub Defined : Type 0
Defined = List (NameId × Span)

-- a fault at a name that is not new
abbrev pub twice_if : Bool → Span → List CheckFault
twice_if is_there at = if is_there then fault.TwiceDefined at ∷ [] else []

-- a fault at each name that is taken, or stands before it
abbrev pub twice_behind : (NameId → Bool) → List NameId → Defined → List CheckFault
twice_behind taken before [] = []
twice_behind taken before (d ∷ more) = twice_if (taken d.0 || is_among d.0 before) d.1 ++ twice_behind taken (before ++ d.0 ∷ []) more

abbrev pub twice : (NameId → Bool) → Defined → List CheckFault
twice taken defined = twice_behind taken [] defined

abbrev pub none_taken : NameId → Bool
none_taken name = false

-- the names of these
abbrev pub defined_names : Defined → List NameId
defined_names defined = map (λ (d : NameId × Span). d.0) defined

abbrev pub of_methods : List Method → Defined
of_methods methods = map (λ (m : Method). (m.name, m.at)) methods

abbrev pub of_classes : List Class → Defined
of_classes classes = map (λ (c : Class). (c.name, c.at)) classes

abbrev pub is_taken : List Text → NameId → Bool
is_taken names name = text_among (slice_get names name.0) taken_classes

-- the parameters behind a use, and a fault at one that is among those before it
abbrev pub with_param : List Local → Use → List Local
with_param before u = if is_param u.usage then u.local ∷ before else before

abbrev pub param_twice : List Local → Use → List CheckFault
param_twice before u = twice_if (is_param u.usage && list_any (same_local u.local) before) u.at

abbrev pub params_behind : List Local → List Use → List CheckFault
params_behind before [] = []
params_behind before (u ∷ more) = param_twice before u ++ params_behind (with_param before u) more

-- the parameters among uses, the last first, in front of those before them
abbrev pub params_of : List Local → List Use → List Local
params_of before [] = before
params_of before (u ∷ more) = params_of (with_param before u) more

-- a fault at each parameter that stands before it in its method or block
abbrev pub params_twice : List Use → List CheckFault
params_twice uses = params_behind [] uses

abbrev pub methods_twice : List Method → List CheckFault
methods_twice methods = twice none_taken (of_methods methods)

-- of the classes, some names are taken
abbrev pub classes_twice : List Text → List Class → List CheckFault
classes_twice names classes = twice (is_taken names) (of_classes classes)

-- all names of a program that are defined twice, those of parameters left out
abbrev pub repeated_in : Program → List CheckFault
repeated_in p = classes_twice p.names p.classes ++ (methods_twice p.functions ++ flat_map (λ (c : Class). methods_twice c.methods) p.classes)
