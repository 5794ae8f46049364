-- The iterations of blocks.
use Rattle.std.specs.Prelude.{ℕ, zero, suc, pos, ◌+ℤ◌, int_lt, nat_lt, Bool, false, if◌then◌else◌, List, [], ◌∷◌, ◌++◌, length, take}
use Rattle.rb_tree.specs.declared.span.Span.{Span}
use Rattle.rb_tree.specs.declared.node.Block.{Block}
use Rattle.rb_model.specs.Values.{Value, Nil, Int, To, Reference, truthy}
use Rattle.rb_model.specs.Acts.{At, Len}
use Rattle.rb_model.specs.Ends as ending
use Rattle.rb_model.specs.Things as thing
use Rattle.rb_machine.specs.Scopes.{Script, Scope, fresh, with_locals}
use Rattle.rb_machine.specs.Control.{State, On, Cont, Then, Turn, Owning, Give, Following, Making, Turns, Counting, Walking, EachPair, Walk, WithIndex, Map, Select, ElementBelow, WithElement}
use Rattle.rb_machine.specs.Call.{ended, ask}

-- the iterations that are left behind an iteration that gave this value
abbrev pub walked : Value → Walk → Walk
walked v (Map values) = Map (values ++ v ∷ [])
walked v (Select kept current) = Select (if truthy v then kept ++ current ∷ [] else kept) current
walked v walk = walk

abbrev pub turned : Value → Turns → Turns
turned v (Walking array next walk at) = Walking array next (walked v walk) at
turned v turns = turns

-- a walk with this element in hand, and what its block is given of it
abbrev pub holding : Value → Walk → Walk
holding v (Select kept current) = Select kept v
holding v walk = walk

abbrev pub given : Value → ℕ → Walk → List Value
given v index WithIndex = v ∷ Int (pos index) ∷ []
given v index walk = v ∷ []

-- what a walk answers in the end: the array, or a new one
abbrev pub finish : Reference → Walk → List Cont → Scope → ℕ → ℕ → State
finish array (Map values) k sc d left = On (Making (thing.Elements values)) k sc d left
finish array (Select kept current) k sc d left = On (Making (thing.Elements kept)) k sc d left
finish array walk k sc d left = On (Give (To array)) k sc d left

-- whether a place is below a length
abbrev pub is_below : ℕ → Value → Bool
is_below index (Int (pos length)) = nat_lt index length
is_below index other = false

-- the element at the next place, where the length of the array is above it, or else the answer
abbrev pub next_element : Value → Reference → ℕ → Walk → Block → Span → List Cont → Scope → ℕ → ℕ → State
next_element length array next walk block at k sc d left =
    if is_below next length then ask array (At (pos next)) at (Then (WithElement array next walk block at) ∷ k) sc d left else finish array walk k sc d left

module _ (S : Script) where
  -- an iteration begins with a step, where one is left; its block's own locals are new, the first of them the values that it is given
  abbrev pub start_turn : (later : Turns) → List Value → Block → List Cont → Scope → ℕ → ℕ → State
  start_turn later values block k sc d zero = ended ending.Steps zero
  start_turn later values block k sc d (suc left) =
      On (Following Nil block.body) (Turn later block (length sc.locals) ∷ k)
      (with_locals sc (sc.locals ++ fresh (S.block_names block.at) (take (length block.params) values))) d left

  -- another iteration, or the answer of the call; the length of an array is asked before each
  abbrev pub turn : Turns → Block → List Cont → Scope → ℕ → ℕ → State
  turn (Counting next last answer) block k sc d left =
      if int_lt next last then start_turn (Counting (next +ℤ pos 1) last answer) (Int next ∷ []) block k sc d left else On (Give answer) k sc d left
  turn (Walking array next walk at) block k sc d left = ask array Len at (Then (ElementBelow array next walk block at) ∷ k) sc d left
  turn (EachPair [] answer) block k sc d left = On (Give answer) k sc d left
  turn (EachPair (p ∷ ps) answer) block k sc d left = start_turn (EachPair ps answer) (p.0 ∷ p.1 ∷ []) block k sc d left

  -- the block of `synchronize` begins, while its mutex is owned; it is one iteration, which is given nothing
  abbrev pub start_owning : (mutex : Reference) → Block → Span → List Cont → Scope → ℕ → ℕ → State
  start_owning mutex block at k sc d zero = ended ending.Steps zero
  start_owning mutex block at k sc d (suc left) =
      On (Following Nil block.body) (Owning mutex block at (length sc.locals) ∷ k) (with_locals sc (sc.locals ++ fresh (S.block_names block.at) [])) d left

  -- an iteration with an element
  abbrev pub with_element : Value → Reference → ℕ → Walk → Block → Span → List Cont → Scope → ℕ → ℕ → State
  with_element v array next walk block at k sc d left = start_turn (Walking array (suc next) (holding v walk) at) (given v next walk) block k sc d left
