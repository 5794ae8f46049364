-- The moves of the machine, and what it wants of the outside.
use Rattle.std.specs.Prelude.{ℕ, zero, suc, ◌+◌, nat_lt, if◌then◌else◌, List, [], ◌∷◌, map}
use Rattle.rb_tree.specs.declared.span.Span.{Span}
use Rattle.rb_tree.specs.declared.node.Node.{Node, out-Node}
use Rattle.rb_tree.specs.declared.node.Piece.{Piece, out-Piece}
use Rattle.rb_tree.specs.declared.node.Target.{Target}
use Rattle.rb_tree.specs.declared.node.Block.{Block}
use Rattle.rb_tree.specs.declared.node.Node.TheOpen.{Piece-F}
use Rattle.rb_tree.specs.declared.node.Node.TheOpen as node
use Rattle.rb_tree.specs.Place.{place}
use Rattle.rb_model.specs.declared.fault.Fault.TheVariants.{TooDeep}
use Rattle.rb_model.specs.Values.{Value, Nil, Str, To, Reference}
use Rattle.rb_model.specs.Acts.{Act, Copy, Reply}
use Rattle.rb_model.specs.Acts as reply
use Rattle.rb_model.specs.Ends.{End}
use Rattle.rb_model.specs.Ends as ending
use Rattle.rb_model.specs.Things.{Thing, key_of}
use Rattle.rb_model.specs.Things as thing
use Rattle.rb_machine.specs.Scopes.{Script, Scope}
use Rattle.rb_machine.specs.Control.{State, On, Cont, Then, Under, Test, Eval, Give, Leave, Following, Looping, Turning, Passing, Joining, Drafting, Making, Calling, Reading, Starting, Showing, Ended, Rest, Argument, PieceOf, Use, Keys, Values, ForEach, ForText, EachPair, max_depth}
use Rattle.rb_machine.specs.Drafts.{needs, opened}
use Rattle.rb_machine.specs.Call.{ended, raised, perform, going, drafted}
use Rattle.rb_machine.specs.Begin.{begin}
use Rattle.rb_machine.specs.Give.{join, give, leave}
use Rattle.rb_machine.specs.Turns.{turn}

-- what comes next: another state; or a want: a thing is made, something is asked of a thing, a thread is started, bytes are shown, or the thread
-- ends
pub data Next : Type 0 where
  Go : State → Next
  Make : (thing : Thing) → Next
  Ask : (thing : Reference) (act : Act) → Next
  Begin : (body : ℕ) (values : List Value) → Next
  Show : (bytes : List ℕ) → Next
  Stop : (how : End) → Next

-- how many steps are left
abbrev pub left_in : State → ℕ
left_in (On c k sc d left) = left

module _ (S : Script) where
  -- a node begins with a step, where one is left, and one node more under evaluation, where there may be one
  abbrev pub start_node : Node → List Cont → Scope → ℕ → ℕ → State
  start_node n k sc d zero = ended ending.Steps zero
  start_node n k sc d (suc left) =
      if nat_lt d max_depth then begin S (out-Node n) (Under d ∷ k) sc (d + 1) left else raised TooDeep (place (out-Node n)) (suc left)

  -- a piece of a text: bytes, or code whose value is put in
  abbrev pub join_piece : Piece-F Node Piece Target Block → List ℕ → List Piece → Span → List Cont → Scope → ℕ → ℕ → State
  join_piece (node.Text more) bytes pieces at k sc d left = join bytes more pieces at k sc d left
  join_piece (node.Code code) bytes pieces at k sc d left = On (Eval code) (Then (PieceOf bytes pieces at) ∷ k) sc d left

  -- the next move
  abbrev pub move : State → Next
  move (On (Eval n) k sc d left) = Go (start_node n k sc d left)
  move (On (Give v) [] sc d left) = Go (ended (ending.Value v) left)
  move (On (Give v) (c ∷ k) sc d left) = Go (give S v c k sc d left)
  move (On (Leave e) [] sc d left) = Go (ended (ending.Value Nil) left)
  move (On (Leave e) (c ∷ k) sc d left) = Go (leave e c k sc d left)
  move (On (Following v []) k sc d left) = Go (On (Give v) k sc d left)
  move (On (Following v (n ∷ ns)) k sc d left) = Go (On (Eval n) (Then (Rest ns) ∷ k) sc d left)
  move (On (Looping condition body) k sc d left) = Go (On (Eval condition) (Test condition body ∷ k) sc d left)
  move (On (Turning turns block) k sc d left) = Go (turn S turns block k sc d left)
  move (On (Passing aim done [] at) k sc d left) = Go (perform S aim done at k sc d left)
  move (On (Passing aim done (n ∷ ns) at) k sc d left) = Go (On (Eval n) (Then (Argument aim done ns at) ∷ k) sc d left)
  move (On (Joining bytes [] at) k sc d left) = Go (On (Give (Str bytes)) k sc d left)
  move (On (Joining bytes (p ∷ ps) at) k sc d left) = Go (join_piece (out-Piece p) bytes ps at k sc d left)
  move (On (Drafting draft at) k sc d left) = Go (drafted S (needs S.program draft) at k sc d left)
  move (On (Making thing) k sc d left) = Make thing
  move (On (Calling thing act at) k sc d left) = Ask thing act
  move (On (Reading thing purpose at) k sc d left) = Ask thing Copy
  move (On (Starting body values at) k sc d left) = Begin body values
  move (On (Showing bytes) k sc d left) = Show bytes
  move (On (Ended how) k sc d left) = Stop how

-- what a thing answers: a value is given, and so is a thread that was started; nothing gives nil, a fault is raised, an end that is no value is
-- taken over
abbrev pub answered : Reply → Span → List Cont → Scope → ℕ → ℕ → State
answered (reply.Value v) at k sc d left = On (Give v) k sc d left
answered (reply.Elements vs) at k sc d left = On (Give Nil) k sc d left
answered (reply.Pairs ps) at k sc d left = On (Give Nil) k sc d left
answered reply.Done at k sc d left = On (Give Nil) k sc d left
answered (reply.Started number thread) at k sc d left = On (Give (To thread)) k sc d left
answered (reply.Ended (ending.Value v)) at k sc d left = On (Give v) k sc d left
answered (reply.Ended how) at k sc d left = ended how left
answered (reply.Failed fault) at k sc d left = raised fault at left

-- what a copy of a collection is used for
abbrev pub used : Use → Reference → Reply → Span → List Cont → Scope → ℕ → ℕ → State
used Keys r (reply.Pairs ps) at k sc d left = On (Making (thing.Elements (map key_of ps))) k sc d left
used Values r (reply.Pairs ps) at k sc d left = On (Making (thing.Elements (map (λ (p : Value × Value). p.1) ps))) k sc d left
used (ForEach answer block) r (reply.Pairs ps) at k sc d left = On (Turning (EachPair ps answer) block) k sc d left
used (ForText draft) r (reply.Elements vs) at k sc d left = going (opened draft r (reply.Elements vs)) at k sc d left
used (ForText draft) r (reply.Pairs ps) at k sc d left = going (opened draft r (reply.Pairs ps)) at k sc d left
used purpose r other at k sc d left = answered other at k sc d left

-- the state behind a want
abbrev pub replied : State → Reply → State
replied (On (Making thing) k sc d left) r = answered r (record { from = 0; to = 0 }) k sc d left
replied (On (Calling thing act at) k sc d left) r = answered r at k sc d left
replied (On (Reading thing purpose at) k sc d left) r = used purpose thing r at k sc d left
replied (On (Starting body values at) k sc d left) r = answered r at k sc d left
replied (On (Showing bytes) k sc d left) r = On (Give Nil) k sc d left
replied s r = s

-- a state at which the machine wants something
abbrev pub IsWant : Next → Type 0
IsWant (Go s) = ⊥
IsWant want = Unit {0}
