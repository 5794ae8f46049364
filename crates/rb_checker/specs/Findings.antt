-- Faults by rule, and the first of each.
use Rattle.std.specs.Prelude.{List, [], ◌++◌}
use Rattle.std.specs.List.{flat_map}
use Rattle.rb_checker.specs.declared.fault.CheckFault.{CheckFault}
use Rattle.rb_checker.specs.declared.found.Found.{Found}
use Rattle.rb_checker.specs.Fault.{first_of}

pub record Faults : Type 0 where
  pub misplaced : List CheckFault
  pub params : List CheckFault
  pub unsettled : List CheckFault
  pub fields : List CheckFault

abbrev pub no_faults : Faults
no_faults = record { misplaced = []; params = []; unsettled = []; fields = [] }

abbrev pub joined : Faults → Faults → Faults
joined a b = record { misplaced = a.misplaced ++ b.misplaced; params = a.params ++ b.params; unsettled = a.unsettled ++ b.unsettled; fields = a.fields ++ b.fields }

-- those of things, one behind the other
abbrev pub gathered : {A : Type 0} → (A → Faults) → List A → Faults
gathered f xs = record {
  misplaced = flat_map (λ x. (f x).misplaced) xs;
  params = flat_map (λ x. (f x).params) xs;
  unsettled = flat_map (λ x. (f x).unsettled) xs;
  fields = flat_map (λ x. (f x).fields) xs;
}

-- the first of each
abbrev pub firsts : Faults → Found
firsts a = record { misplaced = first_of a.misplaced; params = first_of a.params; unsettled = first_of a.unsettled; fields = first_of a.fields }
