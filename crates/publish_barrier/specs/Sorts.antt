-- When two sorts are the same, and the references that are noted to the same things.
use Rattle.std.specs.Prelude.{◌==◌, Bool, true, false, List, Option, Some, None, if◌then◌else◌}
use Rattle.std.specs.List.{flat_map}
use Rattle.std.specs.Option.{option_and_then, option_to_list}
use Rattle.rb_model.specs.declared.value.Ref.{Ref}
use Rattle.rb_model.specs.declared.value.Sort.{Sort}
use Rattle.rb_model.specs.declared.value.Sort.TheVariants as sort
use Rattle.publish_barrier.specs.Known.{noted}

abbrev pub same_sort : Sort → Sort → Bool
same_sort (sort.Object m) (sort.Object n) = m == n
same_sort sort.List sort.List = true
same_sort sort.Pairs sort.Pairs = true
same_sort sort.Mutex sort.Mutex = true
same_sort sort.Thread sort.Thread = true
same_sort s t = false

-- this one, where it says the same of its thing
abbrev pub if_same_sort : Ref → Ref → Option Ref
if_same_sort thing found = if same_sort found.sort thing.sort then Some found else None

-- the noted reference to the same thing: the one with its id, where that has its sort
abbrev pub noted_same : List Ref → Ref → Option Ref
noted_same rs thing = option_and_then (if_same_sort thing) (noted rs thing.id)

-- the noted references to the same things, where there are such
abbrev pub all_noted_same : List Ref → List Ref → List Ref
all_noted_same rs things = flat_map (λ (r : Ref). option_to_list (noted_same rs r)) things
