-- A value comes to what waits for it; and an exit comes to it.
use Rattle.std.specs.Prelude.{ℕ, pos, nat_lt, not, if◌then◌else◌, List, [], ◌∷◌, ◌++◌, length, take, None}
use Rattle.rb_tree.specs.declared.span.Span.{Span}
use Rattle.rb_tree.specs.declared.node.Piece.{Piece}
use Rattle.rb_model.specs.declared.fault.Fault.TheVariants.{TextTooLong}
use Rattle.rb_model.specs.Values.{Value, Nil, Int, truthy, truth, same}
use Rattle.rb_model.specs.Acts.{SetField, Unlock}
use Rattle.rb_machine.specs.Scopes.{Script, Scope, assign, with_locals}
use Rattle.rb_machine.specs.Control.{State, On, Cont, Then, Under, Test, Again, Turn, Owning, Frame, Step, Eval, Give, Leave, Following, Looping, Turning, Passing, Joining, Making, Exit, Break, Next, Return, AssignTo, FieldTo, GlobalTo, Rest, Choose, RightOfAnd, RightOfOr, Negate, ReturnOf, ReceiverOf, ReceiverToStore, Argument, OnReceiver, Storing, Instead, Create, Initialize, PieceOf, JoinTo, WriteBehind, LinesBehind, LineOf, TextOf, IsZero, Locked, ElementBelow, WithElement, IndexedBy, MemberOf, IndexOf, ReadOf, RightOf, WriteTo, OfElement, OfAttribute}
use Rattle.rb_machine.specs.Texts.{max_bytes}
use Rattle.rb_machine.specs.Drafts.{with_line}
use Rattle.rb_machine.specs.Call.{raised, globals, ask, own_field, invoke, initialize, operator, give_text, text_answered, bytes_of, going, write_behind, write_lines, read_place, decide, write_place}
use Rattle.rb_machine.specs.Turns.{turned, next_element, with_element, start_owning}

-- bytes join a text that may not grow too long
abbrev pub join : List ℕ → List ℕ → List Piece → Span → List Cont → Scope → ℕ → ℕ → State
join bytes more pieces at k sc d left =
    if nat_lt max_bytes (length (bytes ++ more)) then raised TextTooLong at left else On (Joining (bytes ++ more) pieces at) k sc d left

-- the locals go back to those that there were
abbrev pub back : ℕ → Scope → Scope
back kept sc = with_locals sc (take kept sc.locals)

module _ (S : Script) where
  -- a value comes to a step inside a node
  abbrev pub give_step : Value → Step → List Cont → Scope → ℕ → ℕ → State
  give_step v (AssignTo name) k sc d left = On (Give v) k (with_locals sc (assign name v sc.locals)) d left
  give_step v (FieldTo name at) k sc d left = own_field (SetField name v) at (Then (Instead v) ∷ k) sc d left
  give_step v (GlobalTo name at) k sc d left = ask globals (SetField name v) at (Then (Instead v) ∷ k) sc d left
  give_step v (Rest nodes) k sc d left = On (Following v nodes) k sc d left
  give_step v (Choose first second) k sc d left = On (Following Nil (if truthy v then first else second)) k sc d left
  give_step v (RightOfAnd right) k sc d left = if truthy v then On (Eval right) k sc d left else On (Give v) k sc d left
  give_step v (RightOfOr right) k sc d left = if truthy v then On (Give v) k sc d left else On (Eval right) k sc d left
  give_step v Negate k sc d left = On (Give (truth (not (truthy v)))) k sc d left
  give_step v ReturnOf k sc d left = On (Leave (Return v)) k sc d left
  give_step v (ReceiverOf name args block at) k sc d left = On (Passing (OnReceiver v name block) [] args at) k sc d left
  give_step v (ReceiverToStore name args at) k sc d left = On (Passing (Storing v name) [] args at) k sc d left
  give_step v (Argument aim done rest at) k sc d left = On (Passing aim (done ++ v ∷ []) rest at) k sc d left
  give_step v (Instead w) k sc d left = On (Give w) k sc d left
  give_step v (Create thing) k sc d left = On (Making thing) k sc d left
  give_step v (Initialize args at) k sc d left = initialize S v args at k sc d left
  give_step v (PieceOf bytes pieces at) k sc d left = give_text S v at (Then (JoinTo bytes pieces at) ∷ k) sc d left
  give_step v (JoinTo bytes pieces at) k sc d left = join bytes (bytes_of S v) pieces at k sc d left
  give_step v (WriteBehind style bytes values at) k sc d left = write_behind S style bytes (bytes_of S v) values at k sc d left
  give_step v (LinesBehind bytes values at) k sc d left = write_lines S bytes (bytes_of S v) values at k sc d left
  give_step v (LineOf draft at) k sc d left = going (with_line draft (bytes_of S v)) at k sc d left
  give_step v (TextOf object) k sc d left = On (Give (text_answered S object v)) k sc d left
  give_step v (Locked mutex block at) k sc d left = start_owning S mutex block at k sc d left
  give_step v IsZero k sc d left = On (Give (truth (same v (Int (pos 0))))) k sc d left
  give_step v (ElementBelow array next walk block at) k sc d left = next_element v array next walk block at k sc d left
  give_step v (WithElement array next walk block at) k sc d left = with_element S v array next walk block at k sc d left
  give_step v (IndexedBy index op value at) k sc d left = On (Eval index) (Then (IndexOf v op value at) ∷ k) sc d left
  give_step v (MemberOf name op value at) k sc d left = read_place S (OfAttribute v name) op value at k sc d left
  give_step v (IndexOf receiver op value at) k sc d left = read_place S (OfElement receiver v) op value at k sc d left
  give_step v (ReadOf place op value at) k sc d left = decide S v place op value at k sc d left
  give_step v (RightOf current op at) k sc d left = invoke S current (operator S op) (v ∷ []) None at k sc d left
  give_step v (WriteTo place at) k sc d left = write_place S v place at k sc d left

  -- a value comes to what waits
  abbrev pub give : Value → Cont → List Cont → Scope → ℕ → ℕ → State
  give v (Then step) k sc d left = give_step v step k sc d left
  give v (Under depth) k sc d left = On (Give v) k sc depth left
  give v (Test condition body) k sc d left = if truthy v then On (Following Nil body) (Again condition body ∷ k) sc d left else On (Give Nil) k sc d left
  give v (Again condition body) k sc d left = On (Looping condition body) k sc d left
  give v (Turn turns block kept) k sc d left = On (Turning (turned v turns) block) k (back kept sc) d left
  give v (Owning mutex block at kept) k sc d left = ask mutex Unlock at (Then (Instead v) ∷ k) (back kept sc) d left
  give v (Frame saved) k sc d left = On (Give v) k saved d left

-- An exit comes to what waits. `break` ends the nearest loop or call with a block, whose value is then nil; `next` ends the iteration, with
-- nil; `return` ends the method. Each gives back the mutex of a `synchronize` that it goes out of.
abbrev pub leave : Exit → Cont → List Cont → Scope → ℕ → ℕ → State
leave e (Then step) k sc d left = On (Leave e) k sc d left
leave e (Under depth) k sc d left = On (Leave e) k sc depth left
leave Break (Test condition body) k sc d left = On (Give Nil) k sc d left
leave Next (Test condition body) k sc d left = On (Looping condition body) k sc d left
leave (Return v) (Test condition body) k sc d left = On (Leave (Return v)) k sc d left
leave Break (Again condition body) k sc d left = On (Give Nil) k sc d left
leave Next (Again condition body) k sc d left = On (Looping condition body) k sc d left
leave (Return v) (Again condition body) k sc d left = On (Leave (Return v)) k sc d left
leave Break (Turn turns block kept) k sc d left = On (Give Nil) k (back kept sc) d left
leave Next (Turn turns block kept) k sc d left = On (Turning (turned Nil turns) block) k (back kept sc) d left
leave (Return v) (Turn turns block kept) k sc d left = On (Leave (Return v)) k (back kept sc) d left
leave Break (Owning mutex block at kept) k sc d left = ask mutex Unlock at (Then (Instead Nil) ∷ k) (back kept sc) d left
leave Next (Owning mutex block at kept) k sc d left = ask mutex Unlock at (Then (Instead Nil) ∷ k) (back kept sc) d left
leave (Return v) (Owning mutex block at kept) k sc d left = ask mutex Unlock at (Then (Instead v) ∷ Then ReturnOf ∷ k) (back kept sc) d left
leave Break (Frame saved) k sc d left = On (Give Nil) k saved d left
leave Next (Frame saved) k sc d left = On (Give Nil) k saved d left
leave (Return v) (Frame saved) k sc d left = On (Give v) k saved d left
