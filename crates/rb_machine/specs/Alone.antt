-- The run of a script with one thread: one store has all its things, the global variables among them, and answers by the plain step.
use Rattle.std.specs.Prelude.{◌≡◌, ℕ, ◌-◌, List, [], ◌∷◌, ◌++◌, Some, None}
use Rattle.rb_model.specs.Values.{Nil, To, Reference}
use Rattle.rb_model.specs.Acts.{Act, Done}
use Rattle.rb_model.specs.Acts as reply
use Rattle.rb_model.specs.Ends.{End}
use Rattle.rb_model.specs.Things.{Thing, Object, gives_to}
use Rattle.rb_model.specs.Private.{Private, held, entered, acted}
use Rattle.rb_machine.specs.Scopes.{Script, fresh}
use Rattle.rb_machine.specs.Control.{State, On, Then, Following, Instead}
use Rattle.rb_machine.specs.Move.{Go, Make, Ask, Show, Stop, move, replied, left_in}
use Rattle.rb_machine.specs.Follows.{next_thing}

-- the main thread begins with the top level, where there is no `self`; its value is nil in the end
abbrev pub opening : Script → ℕ → State
opening S N = On (Following Nil S.program.main) (Then (Instead Nil) ∷ []) (record { me = Nil; locals = fresh S.main_names [] }) 0 N

-- the store of a script that has begun: the global variables alone, which have no shape of their own
abbrev pub globals_alone : Private
globals_alone = record { thread = 0; things = Some (Object 4294967295 []) ∷ []; shaped = None ∷ []; shapes = [] }

-- from the opening, the machine comes to a state, with this store, and has shown these bytes
pub data Runs (S : Script) (N : ℕ) : List ℕ → Private → State → Type 0 where
  begins : Runs S N [] globals_alone (opening S N)
  goes : (b : List ℕ) (h : Private) (s s' : State) → Runs S N b h s → move S s ≡ Go s' → Runs S N b h s'
  makes : (b : List ℕ) (h : Private) (s : State) (thing : Thing) → Runs S N b h s → move S s ≡ Make thing
      → Runs S N b (entered h thing) (replied s (reply.Value (To (next_thing h thing))))
  acts : (b : List ℕ) (h : Private) (s : State) (r : Reference) (act : Act) (thing : Thing) → Runs S N b h s → move S s ≡ Ask r act → held h r.id ≡ Some thing
      → Runs S N b (acted h r.id act thing) (replied s (gives_to h.thread thing act))
  shows : (b : List ℕ) (h : Private) (s : State) (bytes : List ℕ) → Runs S N b h s → move S s ≡ Show bytes → Runs S N (b ++ bytes) h (replied s Done)

-- With at most N steps, the script shows these bytes and ends so, having begun so many steps.
pub record Alone (S : Script) (N : ℕ) (bytes : List ℕ) (how : End) (steps : ℕ) : Type 0 where
  pub store : Private
  pub last : State
  pub run : Runs S N bytes store last
  pub ends : move S last ≡ Stop how
  pub counted : N - left_in last ≡ steps
