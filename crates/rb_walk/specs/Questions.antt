-- What arrays and hashes are asked, beside the table of methods.
use Rattle.std.specs.Prelude.{◌≡◌, ℕ, ℤ, List, [], ◌∷◌, Option, None}
use Rattle.rb_tree.specs.declared.node.Program.{Program}
use Rattle.rb_model.specs.Values.{Value as Val, Int, To}
use Rattle.rb_model.specs.declared.act.Side.{Side}
use Rattle.rb_model.specs.Acts.{Act, At, Push, Put, KPut}
use Rattle.rb_model.specs.Immediates.{taking}
use Rattle.rb_model.specs.declared.value.Ref.{Ref}
use Rattle.rb_model.specs.Doing.{doing}
use Rattle.rb_machine.specs.Methods.{Answer, Asks, changes, deed}
use Rattle.rb_builtin.specs.declared.builtin.Builtin.{Builtin}
use Rattle.rb_builtin.specs.Names.{builtin_of}
use Rattle.rb_builtin.specs.Deeds.{thing_of, step_of}
use Rattle.rb_walk.specs.declared.questions.Question.{Question}

-- what a question answers
abbrev pub answer_by : Question → Answer
answer_by q = Asks (thing_of q.thing) (doing q.act) (step_of q.behind q.thing)

-- the call of a method of a value without a block is this question
abbrev pub IsAskedBy : Val → Option Builtin → List Val → Question → Type 0
IsAskedBy v method args q = (program : Program) (name : List ℕ) → builtin_of name ≡ method → deed program v name args None ≡ answer_by q

-- a method with this one argument asks a thing this, and the reply is the answer
abbrev pub IsAsking : Ref → Option Builtin → Val → Act → Type 0
IsAsking thing method arg act =
    (program : Program) (name : List ℕ) → builtin_of name ≡ method → deed program (To (thing_of thing)) name (arg ∷ []) None ≡ Asks (thing_of thing) act None

-- a method asks an array for its element at an index
abbrev pub IsElement : Ref → Option Builtin → Type 0
IsElement array method = (index : ℤ) → IsAsking array method (Int index) (At index)

-- a method without arguments takes an element out at an end of an array
abbrev pub IsTaking : Ref → Option Builtin → Side → Type 0
IsTaking array method side =
    (program : Program) (name : List ℕ) → builtin_of name ≡ method → deed program (To (thing_of array)) name [] None ≡ Asks (thing_of array) (taking side) None

-- a method puts its argument behind the elements of an array, and answers with the array
abbrev pub IsPush : Ref → Option Builtin → Type 0
IsPush array method =
    (program : Program) (name : List ℕ) (w : Val) → builtin_of name ≡ method → deed program (To (thing_of array)) name (w ∷ []) None ≡ changes (Push w) (thing_of array)

-- a method gives a hash's key a value
abbrev pub IsKeyPut : Ref → Option Builtin → Val → Type 0
IsKeyPut hash method key =
    (program : Program) (name : List ℕ) (w : Val) → builtin_of name ≡ method → deed program (To (thing_of hash)) name (key ∷ w ∷ []) None ≡ Asks (thing_of hash) (KPut key w) None

-- a method gives an array's element at an index a value
abbrev pub IsPut : Val → Option Builtin → Ref → ℤ → Val → Type 0
IsPut v method array index w =
    (program : Program) (name : List ℕ) → builtin_of name ≡ method → deed program v name (Int index ∷ w ∷ []) None ≡ Asks (thing_of array) (Put index w) None
