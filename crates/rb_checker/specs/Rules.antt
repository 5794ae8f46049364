-- The rules that hang on where an event stands: what is called, made, left and seen.
use Rattle.std.specs.Prelude.{Bool, true, false, ◌||◌, ◌&&◌, List, [], ◌∷◌, slice_get, if◌then◌else◌}
use Rattle.std.specs.List.{flat_map}
use Rattle.rb_tree.specs.declared.span.Span.{Span}
use Rattle.rb_tree.specs.declared.span.NameId.{NameId}
use Rattle.rb_checker.specs.declared.event.Event.{Event}
use Rattle.rb_checker.specs.declared.event.Sight.{Sight}
use Rattle.rb_checker.specs.declared.event.Sight.TheVariants as sight
use Rattle.rb_checker.specs.declared.fault.CheckFault.{CheckFault}
use Rattle.rb_checker.specs.declared.fault.CheckFault.TheVariants as fault
use Rattle.rb_checker.specs.Names.{Text, is_among, text_among, built_in_methods, built_in_classes}
use Rattle.rb_checker.specs.Around.{Open, placed, repeats, in_no_thread}

-- Where a text stands: the methods of the class around it, whether it stands in a class, and whether it is a method's.
pub record Owner : Type 0 where
  pub methods : List NameId
  pub in_class : Bool
  pub in_method : Bool

abbrev pub top_level : Owner
top_level = record { methods = []; in_class = false; in_method = false }

abbrev pub top_level_method : Owner
top_level_method = record { methods = []; in_class = false; in_method = true }

abbrev pub method_of : List NameId → Owner
method_of methods = record { methods = methods; in_class = true; in_method = true }

-- a fault where a rule is broken
abbrev pub unless : Bool → CheckFault → List CheckFault
unless holds e = if holds then [] else e ∷ []

-- The names of the script, its top-level methods and its classes are given.
module _ (names : List Text) (functions classes : List NameId) where
  -- A call without receiver finds a method of its class, one of the top level, or one that is built in.
  abbrev pub finds_method : Owner → NameId → Bool
  finds_method owner name = is_among name owner.methods || (is_among name functions || text_among (slice_get names name.0) built_in_methods)

  -- a class that objects are made of is one of the script's, or built in
  abbrev pub finds_class : NameId → Bool
  finds_class class = is_among class classes || text_among (slice_get names class.0) built_in_classes

  -- `self` and instance variables stand in methods of classes, `break` and `next` in a loop or a block, `return` in a method but in no thread
  abbrev pub broken_by : Owner → Open → Sight → Span → List CheckFault
  broken_by owner round (sight.Calls name) at = unless (finds_method owner name) (fault.UnknownName at)
  broken_by owner round (sight.Makes class) at = unless (finds_class class) (fault.UnknownClass at)
  broken_by owner round sight.SelfRef at = unless owner.in_class (fault.SelfOutside at)
  broken_by owner round (sight.Field name) at = unless owner.in_class (fault.SelfOutside at)
  broken_by owner round sight.Leaves at = unless (repeats round) (fault.BreakOutside at)
  broken_by owner round sight.Returns at = unless (owner.in_method && in_no_thread round) (fault.BreakOutside at)
  broken_by owner round other at = []

  -- the faults of a text
  abbrev pub broken : Owner → List Event → List CheckFault
  broken owner events = flat_map (λ (p : Open × Event). broken_by owner p.0 p.1.sight p.1.at) (placed [] events)
