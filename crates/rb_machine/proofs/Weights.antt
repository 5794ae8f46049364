-- How much work is left where no step begins: what each thing that waits may still cause, and what the machine is at.
use Rattle.std.specs.Prelude.{ℕ, suc, ◌+◌, ◌*◌, List, [], ◌∷◌, length}
use Rattle.rb_machine.specs.Control.{State, On, Cont, Then, Test, Turn, Owning, Form, Inspected, Lined, Coming, Between, OfValue, OfPair, Draft, Use, ForText}
use Rattle.rb_machine.specs.Control.{Step, FieldTo, GlobalTo, Rest, Choose, ReceiverOf, ReceiverToStore, Argument, Create, Initialize, PieceOf, JoinTo, WriteBehind, LinesBehind, LineOf, ElementBelow, MemberOf, IndexOf, RightOf, WriteTo}
use Rattle.rb_machine.specs.Control.{Eval, Give, Leave, Following, Looping, Turning, Passing, Joining, Drafting, Making, Calling, Reading, Showing, Starting, Ended}

-- A text in the making: a value that comes next may be read, or asked for its text, and a pair is a key and a value; each collection that is
-- begun is ended.
abbrev pub value_weight : Form → ℕ
value_weight Inspected = 6
value_weight Lined = 10

abbrev pub coming_weight : Form → Coming → ℕ
coming_weight form Between = 0
coming_weight form (OfValue lead v) = value_weight form
coming_weight form (OfPair lead k v) = suc (value_weight form)

abbrev pub draft_weight : Draft → ℕ
draft_weight t = coming_weight t.form t.coming + length t.begun

-- what a copy is read for: a text has one collection more behind it
abbrev pub use_weight : Use → ℕ
use_weight (ForText t) = length t.begun
use_weight other = 0

abbrev pub step_weight : Step → ℕ
step_weight (FieldTo name at) = 3
step_weight (GlobalTo name at) = 3
step_weight (Rest nodes) = 2
step_weight (Choose first second) = 2
step_weight (ReceiverOf name args block at) = 10
step_weight (ReceiverToStore name args at) = 10
step_weight (Argument aim done rest at) = 22 + 12 * length done
step_weight (Create thing) = 2
step_weight (Initialize args at) = 4
step_weight (PieceOf bytes pieces at) = 10 + length pieces
step_weight (JoinTo bytes pieces at) = 2 + length pieces
step_weight (WriteBehind style bytes values at) = 4 + 12 * length values
step_weight (LinesBehind bytes values at) = 4 + 12 * length values
step_weight (LineOf t at) = 2 + length t.begun
step_weight (ElementBelow array next walk block at) = 3
step_weight (MemberOf name o value at) = 9
step_weight (IndexOf receiver o value at) = 9
step_weight (RightOf current o at) = 8
step_weight (WriteTo place at) = 9
step_weight other = 1

abbrev pub weight : Cont → ℕ
weight (Then step) = step_weight step
weight (Test condition body) = 3
weight (Turn turns block kept) = 6
weight (Owning mutex block at kept) = 4
weight c = 1

abbrev pub weights : List Cont → ℕ
weights [] = 0
weights (c ∷ k) = weight c + weights k

-- a node begins with a step, so nothing is to be done before it
abbrev pub size : State → ℕ
size (On (Ended how) k sc d left) = 0
size (On (Eval n) k sc d left) = 1
size (On (Give v) k sc d left) = 2 + weights k
size (On (Leave e) k sc d left) = 2 + weights k
size (On (Looping condition body) k sc d left) = 2 + weights k
size (On (Following v nodes) k sc d left) = 3 + weights k
size (On (Making thing) k sc d left) = 3 + weights k
size (On (Calling thing act at) k sc d left) = 3 + weights k
size (On (Starting body values at) k sc d left) = 3 + weights k
size (On (Showing bytes) k sc d left) = 3 + weights k
size (On (Joining bytes pieces at) k sc d left) = 3 + length pieces + weights k
size (On (Drafting t at) k sc d left) = 3 + draft_weight t + weights k
size (On (Turning turns block) k sc d left) = 7 + weights k
size (On (Reading thing purpose at) k sc d left) = 8 + use_weight purpose + weights k
size (On (Passing aim done rest at) k sc d left) = 11 + 12 * length done + weights k
