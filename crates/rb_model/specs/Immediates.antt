-- What things answer at once: values that fit into registers, and lists.
use Rattle.std.specs.Prelude.{Option, Some, None}
use Rattle.rb_model.specs.declared.immediate.Immediate.{Immediate}
use Rattle.rb_model.specs.declared.immediate.Immediate.TheVariants as immediate
use Rattle.rb_model.specs.declared.value.Sort.{Sort}
use Rattle.rb_model.specs.declared.value.Sort.TheVariants as sort
use Rattle.rb_model.specs.declared.value.Ref.{Ref}
use Rattle.rb_model.specs.Values.{Value, Reference, Nil, False, True, Int, To}
use Rattle.rb_model.specs.declared.act.Side.{Side}
use Rattle.rb_model.specs.declared.act.Side.TheVariants as side
use Rattle.rb_model.specs.Acts.{Act, Pop, Shift, Reply}
use Rattle.rb_model.specs.Acts as reply
use Rattle.rb_model.specs.Things.{Thing, gives}

-- the value that is told
abbrev pub value_told : Immediate → Option Value
value_told immediate.Nil = Some Nil
value_told immediate.False = Some False
value_told immediate.True = Some True
value_told (immediate.Int n) = Some (Int n)
value_told immediate.Other = None

-- how a value is told
abbrev pub told : Value → Immediate
told Nil = immediate.Nil
told False = immediate.False
told True = immediate.True
told (Int n) = immediate.Int n
told v = immediate.Other

abbrev pub told_reply : Reply → Immediate
told_reply (reply.Value v) = told v
told_reply other = immediate.Other

-- how the answer of a thing to an act is told, if there is a thing
abbrev pub told_answer : Option Thing → Act → Immediate
told_answer None act = immediate.Other
told_answer (Some thing) act = told_reply (gives thing act)

-- the act that takes an element out at an end of a list
abbrev pub taking : Side → Act
taking side.First = Shift
taking side.Last = Pop

abbrev pub reference : Ref → Reference
reference thing = record { sort = thing.sort; id = thing.id }

-- a reference to a list
abbrev pub if_list : Sort → Reference → Option Reference
if_list sort.List thing = Some thing
if_list other thing = None

abbrev pub list_replied : Reply → Option Reference
list_replied (reply.Value (To thing)) = if_list thing.sort thing
list_replied other = None

-- the list that a thing answers with to an act, if it does
abbrev pub list_answered : Option Thing → Act → Option Reference
list_answered None act = None
list_answered (Some thing) act = list_replied (gives thing act)
