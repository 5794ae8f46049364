-- Elements of arrays and values of hashes that are read at once.
use Rattle.std.specs.Prelude.{◌≡◌, ℕ, true, List, Option, Some, is_some}
use Rattle.rb_model.specs.Values.{Value as Val}
use Rattle.rb_model.specs.declared.value.Value.{Value as Held}
use Rattle.rb_model.specs.declared.value.Ref.{Ref}
use Rattle.rb_model.specs.Acts.{Act}
use Rattle.rb_model.specs.Acts as reply
use Rattle.rb_model.specs.Private.{Private, Gives, Becomes, held}
use Rattle.rb_builtin.specs.declared.builtin.Builtin.{Builtin}
use Rattle.rb_code.specs.declared.code.Code.{Code}
use Rattle.rb_walk.specs.Carries.{me_of}
use Rattle.rb_walk.specs.Methods.{HasNoMethods}
use Rattle.rb_walk.specs.Answers.{IsGiven}
use Rattle.rb_walk.specs.Questions.{IsAsking}

-- A method asks a thing something with this argument, and this is what the thing answers. The private things stay as they are.
pub record IsToldOf (own : Private) (thing : Ref) (method : Option Builtin) (arg v : Val) : Type 0 where
  pub act : Act
  pub asked : IsAsking thing method arg act
  pub there : is_some (held own thing.id) ≡ true
  pub gives : Gives own thing.id act (reply.Value v)
  pub stays : Becomes own thing.id act own

-- The same, where a node gives the argument in so many steps.
pub record IsToldBy (own : Private) (thing : Ref) (method : Option Builtin) (second : Code) (steps_second : ℕ) (room : List Held) (v : Val) : Type 0 where
  pub arg : Val
  pub passed : IsGiven steps_second second room own arg
  pub told : IsToldOf own thing method arg v

-- A call asks an array or a hash, which its receiver gives in so many steps, for the element at an index or a key, which its argument gives in
-- so many. This is the element.
pub record IsElementAt (own : Private) (method : Option Builtin) (first : Code) (steps_first : ℕ) (second : Code) (steps_second : ℕ) (room : List Held) (v : Val) : Type 0 where
  pub thing : Ref
  pub given : IsGiven steps_first first room own (me_of (Some thing))
  pub unnamed : HasNoMethods (me_of (Some thing))
  pub told : IsToldBy own thing method second steps_second room v
