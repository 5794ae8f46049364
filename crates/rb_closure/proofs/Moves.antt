-- Each move of the machine, and each reply to it, keeps what is said of the parts of a state.
use Rattle.std.proofs.Common.{ℕ, zero, suc, ◌+◌, Bool, true, false, cond, List, [], ◌∷◌, ◌++◌, take, Option, Some, None, length, refl}
use Rattle.std.specs.Prelude.{pos, nat_lt, int_lt, ◌+ℤ◌, not}
use Rattle.rb_tree.specs.declared.span.Span.{Span}
use Rattle.rb_tree.specs.declared.span.NameId.{NameId}
use Rattle.rb_tree.specs.declared.node.AssignOp.{AssignOp}
use Rattle.rb_tree.specs.declared.node.Node.{Node, out-Node}
use Rattle.rb_tree.specs.declared.node.Piece.{Piece, out-Piece}
use Rattle.rb_tree.specs.declared.node.Target.{Target, out-Target}
use Rattle.rb_tree.specs.declared.node.Block.{Block}
use Rattle.rb_tree.specs.declared.node.Node.TheOpen.{Piece-F, Target-F}
use Rattle.rb_tree.specs.declared.node.Node.TheOpen as node
use Rattle.rb_tree.specs.Layer.{NodeLayer}
use Rattle.rb_tree.specs.Place.{place}
use Rattle.rb_model.specs.declared.fault.Fault.TheVariants.{TextTooLong, TooDeep}
use Rattle.rb_model.specs.Values.{Value, Nil, Int, Str, To, Reference, truthy, same}
use Rattle.rb_model.specs.Acts.{GetField, SetField, Reply, handed}
use Rattle.rb_model.specs.Acts as reply
use Rattle.rb_model.specs.Ends as ending
use Rattle.rb_model.specs.Things.{mentioned}
use Rattle.rb_machine.specs.Scopes.{Script, Scope, text_of, fresh}
use Rattle.rb_machine.specs.Control.{State, On, Cont, Then, Under, Test, Again, Turn, Owning, Frame, Eval, Give, Leave, Following, Looping, Turning, Passing, Joining, Drafting, Making, Calling, Reading, Starting, Showing, Ended}
use Rattle.rb_machine.specs.Control.{Exit, Break, Next as Skip, Return, OfLocal, OfField, OfGlobal, OfElement, OfAttribute, Walk, Each as EachValue, WithIndex, Map, Select, Turns, Counting, Walking, EachPair, Use, Keys, Values, ForEach, ForText, max_depth}
use Rattle.rb_machine.specs.Control.{Step, AssignTo, FieldTo, GlobalTo, Rest, Choose, RightOfAnd, RightOfOr, Negate, ReturnOf, ReceiverOf, ReceiverToStore, Argument, Instead, Create, Initialize, PieceOf, JoinTo, WriteBehind, LinesBehind, LineOf, TextOf, IsZero, Locked, ElementBelow, WithElement, IndexedBy, MemberOf, IndexOf, ReadOf, RightOf, WriteTo}
use Rattle.rb_machine.specs.Texts.{max_bytes}
use Rattle.rb_machine.specs.Drafts.{needs, with_line, opened_array}
use Rattle.rb_machine.specs.Call.{operator, text_answered, bytes_of}
use Rattle.rb_machine.specs.Begin.{begin, begin_call, begin_target, begin_return}
use Rattle.rb_machine.specs.Turns.{is_below, next_element, finish, start_turn, start_owning, turn, holding, given}
use Rattle.rb_machine.specs.Give.{back, join, give_step, give, leave}
use Rattle.rb_machine.specs.Move.{Next, Go, Make, Ask, Begin, Show, Stop, start_node, join_piece, move, answered, used, replied}
use Rattle.rb_closure.specs.Mentions.{values_in_walk, values_in_turns, values_in_aim, values_in_exit, values_in_reply}
use Rattle.rb_closure.proofs.Lists.{both, front, behind}
use Rattle.rb_closure.proofs.Parts.{Rules, code_in_nodes, code_in_one, code_in_given, code_in_aim, code_in_piece, code_in_pieces, code_in_target, code_in_layer, ANode, AStart, Good, GoodAll, GoodCode, GoodUse, GoodStep, GoodCont, Around, GoodState, ended_good, under}
use Rattle.rb_closure.proofs.Things.{plain}
use Rattle.rb_closure.proofs.Scopes.{look_of, assign_of, fresh_of, locals_take, locals_both, values_take, keys_good, seconds_good, turned_good, holding_good, given_good}
use Rattle.rb_closure.proofs.Texts.{needs_good, array_opened, hash_opened, line_good}
use Rattle.rb_closure.proofs.Calls.{raised_good, one_of, ask_of_good, going_good, drafted_good, invoke_good, give_text_good, behind_good, array_lines_good, initialize_good, perform_good, read_good, decide_good, write_good}

module _ (S : Script) (P : Rules S) where
  -- ---- iterations

  finish_good : (array : Reference) (walk : Walk) (k : List Cont) (sc : Scope) (d left : ℕ) → GoodAll S P (To array ∷ values_in_walk walk) → Around S P k sc → GoodState S P (finish array walk k sc d left)
  finish_good array EachValue k sc d left a h = ((a, tt), h)
  finish_good array WithIndex k sc d left a h = ((a, tt), h)
  finish_good array (Map values) k sc d left a h = ((a.1, tt), h)
  finish_good array (Select kept current) k sc d left a h = ((a.1.1, tt), h)

  next_good : (v : Value) (array : Reference) (next : ℕ) (walk : Walk) (block : Block) (at : Span) (k : List Cont) (sc : Scope) (d left : ℕ)
      → GoodAll S P (To array ∷ values_in_walk walk) → GoodCode S P (code_in_nodes block.body) → Around S P k sc → GoodState S P (next_element v array next walk block at k sc d left)
  next_good v array next walk block at k sc d left a c h =
      one_of S P (is_below next v) _ _ (((a.0, tt), tt), under S P (Then (WithElement array next walk block at)) k sc (a, c) h) (finish_good array walk k sc d left a h)

  turn_started : (later : Turns) (values : List Value) (block : Block) (k : List Cont) (sc : Scope) (d left : ℕ)
      → GoodAll S P (values_in_turns later) → GoodAll S P values → GoodCode S P (code_in_nodes block.body) → Around S P k sc → GoodState S P (start_turn S later values block k sc d left)
  turn_started later values block k sc d zero t a c h = ended_good S P ending.Steps zero (P.early ending.Steps refl)
  turn_started later values block k sc d (suc left) t a c h =
      let own = fresh_of P.Refers (S.block_names block.at) (take (length block.params) values) (values_take P.Refers (length block.params) values a) in
      (((tt, tt), c), (P.waits (Turn later block (length sc.locals)) k (t, c) h.0, (h.1.0, locals_both P.Refers sc.locals (fresh (S.block_names block.at) (take (length block.params) values)) h.1.1 own)))

  owning_started : (mutex : Reference) (block : Block) (at : Span) (k : List Cont) (sc : Scope) (d left : ℕ) → P.Refers mutex → GoodCode S P (code_in_nodes block.body) → Around S P k sc
      → GoodState S P (start_owning S mutex block at k sc d left)
  owning_started mutex block at k sc d zero p c h = ended_good S P ending.Steps zero (P.early ending.Steps refl)
  owning_started mutex block at k sc d (suc left) p c h =
      let own = fresh_of P.Refers (S.block_names block.at) [] tt in
      (((tt, tt), c), (P.waits (Owning mutex block at (length sc.locals)) k ((p, tt), c) h.0, (h.1.0, locals_both P.Refers sc.locals (fresh (S.block_names block.at) []) h.1.1 own)))

  turn_good : (turns : Turns) (block : Block) (k : List Cont) (sc : Scope) (d left : ℕ) → GoodAll S P (values_in_turns turns) → GoodCode S P (code_in_nodes block.body) → Around S P k sc
      → GoodState S P (turn S turns block k sc d left)
  turn_good (Counting next last answer) block k sc d left t c h =
      one_of S P (int_lt next last) _ _ (turn_started (Counting (next +ℤ pos 1) last answer) (Int next ∷ []) block k sc d left t (tt, tt) c h) ((t, tt), h)
  turn_good (Walking array next walk at) block k sc d left t c h = (((t.0, tt), tt), under S P (Then (ElementBelow array next walk block at)) k sc (t, c) h)
  turn_good (EachPair [] answer) block k sc d left t c h = ((t, tt), h)
  turn_good (EachPair (p ∷ ps) answer) block k sc d left (w, (x, (y, a))) c h = turn_started (EachPair ps answer) (p.0 ∷ p.1 ∷ []) block k sc d left (w, a) (x, (y, tt)) c h

  -- ---- a value comes to a step

  join_good : (bytes more : List ℕ) (pieces : List Piece) (at : Span) (k : List Cont) (sc : Scope) (d left : ℕ) → GoodCode S P (code_in_pieces pieces) → Around S P k sc
      → GoodState S P (join bytes more pieces at k sc d left)
  join_good bytes more pieces at k sc d left c h = one_of S P (nat_lt max_bytes (length (bytes ++ more))) _ _ (raised_good S P TextTooLong at left) ((tt, c), h)

  chosen_good : (b : Bool) (first second : List Node) (k : List Cont) (sc : Scope) (d left : ℕ) → GoodCode S P (code_in_nodes first ++ code_in_nodes second) → Around S P k sc
      → GoodState S P (On (Following Nil (cond b first second)) k sc d left)
  chosen_good true first second k sc d left c h = (((tt, tt), front P.Has (code_in_nodes first) (code_in_nodes second) c), h)
  chosen_good false first second k sc d left c h = (((tt, tt), behind P.Has (code_in_nodes first) (code_in_nodes second) c), h)

  text_good : (object v : Value) → Good S P (text_answered S object v)
  text_good object (Str bytes) = tt
  text_good object v = tt

  abbrev TakesValue : Step → Type 0
  TakesValue step = (v : Value) (k : List Cont) (sc : Scope) (d left : ℕ) → Good S P v → Around S P k sc → GoodState S P (give_step S v step k sc d left)

  step_good : (step : Step) → GoodStep S P step → TakesValue step
  step_good (AssignTo name) g v k sc d left p h = (((p, tt), tt), (h.0, (h.1.0, assign_of P.Refers name v sc.locals p h.1.1)))
  step_good (FieldTo name at) g v k sc d left p h = ask_of_good S P sc.me (SetField name v) at (Then (Instead v) ∷ k) sc d left h.1.0 (p, tt) (under S P (Then (Instead v)) k sc ((p, tt), tt) h)
  step_good (GlobalTo name at) g v k sc d left p h = (((g.0.0, (p, tt)), tt), under S P (Then (Instead v)) k sc ((p, tt), tt) h)
  step_good (Rest nodes) g v k sc d left p h = (((p, tt), g.1), h)
  step_good (Choose first second) g v k sc d left p h = chosen_good (truthy v) first second k sc d left g.1 h
  step_good (RightOfAnd right) g v k sc d left p h = one_of S P (truthy v) _ _ ((tt, g.1), h) (((p, tt), tt), h)
  step_good (RightOfOr right) g v k sc d left p h = one_of S P (truthy v) _ _ (((p, tt), tt), h) ((tt, g.1), h)
  step_good Negate g v k sc d left p h = (((plain P.Refers (not (truthy v)), tt), tt), h)
  step_good ReturnOf g v k sc d left p h = (((p, tt), tt), h)
  step_good (ReceiverOf name args block at) g v k sc d left p h = (((p, tt), g.1), h)
  step_good (ReceiverToStore name args at) g v k sc d left p h = (((p, tt), g.1), h)
  step_good (Argument aim done rest at) g v k sc d left p h =
      let before = front (Good S P) (values_in_aim aim) done g.0 in
      let behind_it = both (Good S P) done (v ∷ []) (behind (Good S P) (values_in_aim aim) done g.0) (p, tt) in
      ((both (Good S P) (values_in_aim aim) (done ++ v ∷ []) before behind_it, g.1), h)
  step_good (Instead w) g v k sc d left p h = (g, h)
  step_good (Create thing) g v k sc d left p h = (g, h)
  step_good (Initialize args at) g v k sc d left p h = initialize_good S P v args at k sc d left p g.0 h
  step_good (PieceOf bytes pieces at) g v k sc d left p h = give_text_good S P v at (Then (JoinTo bytes pieces at) ∷ k) sc d left p (under S P (Then (JoinTo bytes pieces at)) k sc g h)
  step_good (JoinTo bytes pieces at) g v k sc d left p h = join_good bytes (bytes_of S v) pieces at k sc d left g.1 h
  step_good (WriteBehind style bytes values at) g v k sc d left p h = behind_good S P style bytes (bytes_of S v) values at k sc d left g.0 h
  step_good (LinesBehind bytes values at) g v k sc d left p h = array_lines_good S P bytes (bytes_of S v) values at k sc d left g.0 h
  step_good (LineOf t at) g v k sc d left p h = going_good S P (with_line t (bytes_of S v)) at k sc d left (line_good S P t (bytes_of S v) g.0) h
  step_good (TextOf object) g v k sc d left p h = (((text_good object v, tt), tt), h)
  step_good IsZero g v k sc d left p h = (((plain P.Refers (same v (Int (pos 0))), tt), tt), h)
  step_good (Locked mutex block at) g v k sc d left p h = owning_started mutex block at k sc d left g.0.0 g.1 h
  step_good (ElementBelow array next walk block at) g v k sc d left p h = next_good v array next walk block at k sc d left g.0 g.1 h
  step_good (WithElement array next walk block at) g v k sc d left p h =
      turn_started (Walking array (suc next) (holding v walk) at) (given v next walk) block k sc d left (g.0.0, holding_good P.Refers v walk p g.0.1) (given_good P.Refers v next walk p) g.1 h
  step_good (IndexedBy index o value at) g v k sc d left p h = ((tt, (g.1.0, tt)), under S P (Then (IndexOf v o value at)) k sc ((p, tt), g.1.1) h)
  step_good (MemberOf name o value at) g v k sc d left p h = read_good S P (OfAttribute v name) o value at k sc d left (p, tt) g.1.0 h
  step_good (IndexOf receiver o value at) g v k sc d left p h = read_good S P (OfElement receiver v) o value at k sc d left (g.0.0, (p, tt)) g.1.0 h
  step_good (ReadOf place o value at) g v k sc d left p h = decide_good S P v place o value at k sc d left p g.0 g.1.0 h
  step_good (RightOf current o at) g v k sc d left p h = invoke_good S P current (operator S o) (v ∷ []) None at k sc d left g.0.0 (p, tt) tt h
  step_good (WriteTo place at) g v k sc d left p h = write_good S P v place at k sc d left p g.0 h

  -- ---- a value, and an exit, come to what waits

  back_good : (kept : ℕ) (k : List Cont) (sc : Scope) → Around S P k sc → Around S P k (back kept sc)
  back_good kept k sc h = (h.0, (h.1.0, locals_take P.Refers kept sc.locals h.1.1))

  give_good : (v : Value) (c : Cont) (k : List Cont) (sc : Scope) (d left : ℕ) → Good S P v → GoodCont S P c → Around S P k sc → GoodState S P (give S v c k sc d left)
  give_good v (Then step) k sc d left p g h = step_good step g v k sc d left p h
  give_good v (Under depth) k sc d left p g h = (((p, tt), tt), h)
  give_good v (Test condition body) k sc d left p g h = one_of S P (truthy v) _ _ (((tt, tt), g.1.1), under S P (Again condition body) k sc g h) (((tt, tt), tt), h)
  give_good v (Again condition body) k sc d left p g h = (g, h)
  give_good v (Turn turns block kept) k sc d left p g h = ((turned_good P.Refers v turns p g.0, g.1), back_good kept k sc h)
  give_good v (Owning mutex block at kept) k sc d left p g h = ((g.0, tt), under S P (Then (Instead v)) k (back kept sc) ((p, tt), tt) (back_good kept k sc h))
  give_good v (Frame saved) k sc d left p g h = (((p, tt), tt), (h.0, g.0))

  unlocked_good : (mutex : Reference) (v : Value) (block : Block) (at : Span) (kept : ℕ) (k : List Cont) (sc : Scope) → Good S P v → GoodCont S P (Owning mutex block at kept) → Around S P k sc
      → Around S P (Then (Instead v) ∷ Then ReturnOf ∷ k) (back kept sc)
  unlocked_good mutex v block at kept k sc p g h =
      under S P (Then (Instead v)) (Then ReturnOf ∷ k) (back kept sc) ((p, tt), tt) (under S P (Then ReturnOf) k (back kept sc) (tt, tt) (back_good kept k sc h))

  leave_good : (e : Exit) (c : Cont) (k : List Cont) (sc : Scope) (d left : ℕ) → GoodAll S P (values_in_exit e) → GoodCont S P c → Around S P k sc → GoodState S P (leave e c k sc d left)
  leave_good e (Then step) k sc d left p g h = ((p, tt), h)
  leave_good e (Under depth) k sc d left p g h = ((p, tt), h)
  leave_good Break (Test condition body) k sc d left p g h = (((tt, tt), tt), h)
  leave_good Skip (Test condition body) k sc d left p g h = (g, h)
  leave_good (Return v) (Test condition body) k sc d left p g h = ((p, tt), h)
  leave_good Break (Again condition body) k sc d left p g h = (((tt, tt), tt), h)
  leave_good Skip (Again condition body) k sc d left p g h = (g, h)
  leave_good (Return v) (Again condition body) k sc d left p g h = ((p, tt), h)
  leave_good Break (Turn turns block kept) k sc d left p g h = (((tt, tt), tt), back_good kept k sc h)
  leave_good Skip (Turn turns block kept) k sc d left p g h = ((turned_good P.Refers Nil turns tt g.0, g.1), back_good kept k sc h)
  leave_good (Return v) (Turn turns block kept) k sc d left p g h = ((p, tt), back_good kept k sc h)
  leave_good Break (Owning mutex block at kept) k sc d left p g h = ((g.0, tt), under S P (Then (Instead Nil)) k (back kept sc) ((tt, tt), tt) (back_good kept k sc h))
  leave_good Skip (Owning mutex block at kept) k sc d left p g h = ((g.0, tt), under S P (Then (Instead Nil)) k (back kept sc) ((tt, tt), tt) (back_good kept k sc h))
  leave_good (Return v) (Owning mutex block at kept) k sc d left p g h = ((g.0, tt), unlocked_good mutex v block at kept k sc p.0 g h)
  leave_good Break (Frame saved) k sc d left p g h = (((tt, tt), tt), (h.0, g.0))
  leave_good Skip (Frame saved) k sc d left p g h = (((tt, tt), tt), (h.0, g.0))
  leave_good (Return v) (Frame saved) k sc d left p g h = ((p, tt), (h.0, g.0))

  -- ---- a node begins

  begin_call_good : (receiver : Option Node) (name : NameId) (args : List Node) (block : Option Block) (at : Span) (k : List Cont) (sc : Scope) (d left : ℕ)
      → GoodCode S P (code_in_one receiver ++ (code_in_given block ++ code_in_nodes args)) → Around S P k sc → GoodState S P (begin_call S receiver name args block at k sc d left)
  begin_call_good None name args block at k sc d left c h = ((tt, behind P.Has (code_in_given block) (code_in_nodes args) c), h)
  begin_call_good (Some receiver) name args block at k sc d left c h = ((tt, (c.0, tt)), under S P (Then (ReceiverOf (text_of S name) args block at)) k sc (tt, c.1) h)

  begin_target_good : (f : Target-F Node Piece Target Block) (o : AssignOp) (value : Node) (at : Span) (k : List Cont) (sc : Scope) (d left : ℕ)
      → P.Has (ANode value) → GoodCode S P (code_in_target f) → Around S P k sc → GoodState S P (begin_target S f o value at k sc d left)
  begin_target_good (node.«Target::Local» name) o value at k sc d left n c h = read_good S P (OfLocal name) o value at k sc d left tt n h
  begin_target_good (node.«Target::Field» name) o value at k sc d left n c h = read_good S P (OfField name) o value at k sc d left tt n h
  begin_target_good (node.«Target::Global» name) o value at k sc d left n c h = read_good S P (OfGlobal name) o value at k sc d left (P.global c.0, tt) n h
  begin_target_good (node.Index receiver index) o value at k sc d left n c h = ((tt, (c.0, tt)), under S P (Then (IndexedBy index o value at)) k sc (tt, (c.1.0, (n, tt))) h)
  begin_target_good (node.Attribute receiver name) o value at k sc d left n c h = ((tt, c), under S P (Then (MemberOf (text_of S name) o value at)) k sc (tt, (n, tt)) h)

  begin_return_good : (value : Option Node) (k : List Cont) (sc : Scope) (d left : ℕ) → GoodCode S P (code_in_one value) → Around S P k sc → GoodState S P (begin_return S value k sc d left)
  begin_return_good None k sc d left c h = (((tt, tt), tt), h)
  begin_return_good (Some value) k sc d left c h = ((tt, c), under S P (Then ReturnOf) k sc (tt, tt) h)

  begin_good : (f : NodeLayer) (k : List Cont) (sc : Scope) (d left : ℕ) → GoodCode S P (code_in_layer f) → Around S P k sc → GoodState S P (begin S f k sc d left)
  begin_good (node.Nil at) k sc d left c h = (((tt, tt), tt), h)
  begin_good (node.False at) k sc d left c h = (((tt, tt), tt), h)
  begin_good (node.True at) k sc d left c h = (((tt, tt), tt), h)
  begin_good (node.SelfRef at) k sc d left c h = (((h.1.0, tt), tt), h)
  begin_good (node.Int n at) k sc d left c h = (((tt, tt), tt), h)
  begin_good (node.Sym name at) k sc d left c h = (((tt, tt), tt), h)
  begin_good (node.Str pieces at) k sc d left c h = ((tt, c), h)
  begin_good (node.Array items at) k sc d left c h = ((tt, c), h)
  begin_good (node.Hash pairs at) k sc d left c h = ((tt, c), h)
  begin_good (node.«Node::Local» name at) k sc d left c h = (((look_of P.Refers name sc.locals h.1.1, tt), tt), h)
  begin_good (node.«Node::Field» name at) k sc d left c h = ask_of_good S P sc.me (GetField name) at k sc d left h.1.0 tt h
  begin_good (node.«Node::Global» name at) k sc d left c h = (((P.global c.0, tt), tt), h)
  begin_good (node.SetLocal name value at) k sc d left c h = ((tt, c), under S P (Then (AssignTo name)) k sc (tt, tt) h)
  begin_good (node.SetField name value at) k sc d left c h = ((tt, c), under S P (Then (FieldTo name at)) k sc (tt, tt) h)
  begin_good (node.SetGlobal name value at) k sc d left c h = ((tt, c.1), under S P (Then (GlobalTo name at)) k sc ((P.global c.0, tt), tt) h)
  begin_good (node.Store receiver name args at) k sc d left c h = ((tt, (c.0, tt)), under S P (Then (ReceiverToStore (text_of S name) args at)) k sc (tt, c.1) h)
  begin_good (node.OpAssign target o value at) k sc d left c h = begin_target_good (out-Target target) o value at k sc d left c.0 c.1 h
  begin_good (node.Call receiver name args block at) k sc d left c h = begin_call_good receiver name args block at k sc d left c h
  begin_good (node.New class args at) k sc d left c h = ((tt, c), h)
  begin_good (node.ThreadNew args body at) k sc d left c h = ((tt, c), h)
  begin_good (node.And first second at) k sc d left c h = ((tt, (c.0, tt)), under S P (Then (RightOfAnd second)) k sc (tt, c.1) h)
  begin_good (node.Or first second at) k sc d left c h = ((tt, (c.0, tt)), under S P (Then (RightOfOr second)) k sc (tt, c.1) h)
  begin_good (node.Not value at) k sc d left c h = ((tt, c), under S P (Then Negate) k sc (tt, tt) h)
  begin_good (node.If condition first second at) k sc d left c h = ((tt, (c.0, tt)), under S P (Then (Choose first second)) k sc (tt, c.1) h)
  begin_good (node.While condition body at) k sc d left c h = ((tt, c), h)
  begin_good (node.Return value at) k sc d left c h = begin_return_good value k sc d left c h
  begin_good (node.Break at) k sc d left c h = ((tt, tt), h)
  begin_good (node.Next at) k sc d left c h = ((tt, tt), h)

  node_good : (n : Node) (k : List Cont) (sc : Scope) (d left : ℕ) → P.Has (ANode n) → Around S P k sc → GoodState S P (start_node S n k sc d left)
  node_good n k sc d zero c h = ended_good S P ending.Steps zero (P.early ending.Steps refl)
  node_good n k sc d (suc left) c h =
      one_of S P (nat_lt d max_depth) _ _ (begin_good (out-Node n) (Under d ∷ k) sc (d + 1) left (P.parts n c) (under S P (Under d) k sc (tt, tt) h)) (raised_good S P TooDeep (place (out-Node n)) (suc left))

  piece_good : (f : Piece-F Node Piece Target Block) (bytes : List ℕ) (ps : List Piece) (at : Span) (k : List Cont) (sc : Scope) (d left : ℕ)
      → GoodCode S P (code_in_piece f ++ code_in_pieces ps) → Around S P k sc → GoodState S P (join_piece S f bytes ps at k sc d left)
  piece_good (node.Text more) bytes ps at k sc d left c h = join_good bytes more ps at k sc d left c h
  piece_good (node.Code code) bytes ps at k sc d left c h = ((tt, (c.0, tt)), under S P (Then (PieceOf bytes ps at)) k sc (tt, c.1) h)

  -- ---- moves

  -- what comes next: another state, or what is wanted
  abbrev pub GoodNext : Next → Type 0
  GoodNext (Go s) = GoodState S P s
  GoodNext (Make thing) = GoodAll S P (mentioned thing)
  GoodNext (Ask thing act) = GoodAll S P (To thing ∷ handed act)
  GoodNext (Begin body values) = P.Has AStart × GoodAll S P values
  GoodNext (Show bytes) = Unit {0}
  GoodNext (Stop how) = P.Ends how

  -- what is known of the first that waits, where a value or an exit comes to it
  abbrev pub GoodFirst : State → Type 0
  GoodFirst (On (Give v) [] sc d left) = P.Ends (ending.Value v)
  GoodFirst (On (Give v) (c ∷ k) sc d left) = GoodCont S P c × P.Waits k
  GoodFirst (On (Leave e) [] sc d left) = P.Ends (ending.Value Nil)
  GoodFirst (On (Leave e) (c ∷ k) sc d left) = GoodCont S P c × P.Waits k
  GoodFirst s = Unit {0}

  pub move_good : (s : State) → GoodFirst s → GoodState S P s → GoodNext (move S s)
  move_good (On (Eval n) k sc d left) f h = node_good n k sc d left h.0.1.0 h.1
  move_good (On (Give v) [] sc d left) f h = ended_good S P (ending.Value v) left f
  move_good (On (Give v) (c ∷ k) sc d left) f h = give_good v c k sc d left h.0.0.0 f.0 (f.1, h.1.1)
  move_good (On (Leave e) [] sc d left) f h = ended_good S P (ending.Value Nil) left f
  move_good (On (Leave e) (c ∷ k) sc d left) f h = leave_good e c k sc d left h.0.0 f.0 (f.1, h.1.1)
  move_good (On (Following v []) k sc d left) f h = h
  move_good (On (Following v (n ∷ ns)) k sc d left) f h = ((tt, (h.0.1.0, tt)), under S P (Then (Rest ns)) k sc (tt, h.0.1.1) h.1)
  move_good (On (Looping condition body) k sc d left) f h = ((tt, (h.0.1.0, tt)), under S P (Test condition body) k sc h.0 h.1)
  move_good (On (Turning turns block) k sc d left) f h = turn_good turns block k sc d left h.0.0 h.0.1 h.1
  move_good (On (Passing aim done [] at) k sc d left) f h =
      perform_good S P aim done at k sc d left (front (Good S P) (values_in_aim aim) done h.0.0) (front P.Has (code_in_aim aim) [] h.0.1) (behind (Good S P) (values_in_aim aim) done h.0.0) h.1
  move_good (On (Passing aim done (n ∷ ns) at) k sc d left) f h =
      let first = front P.Has (code_in_aim aim) (code_in_nodes (n ∷ ns)) h.0.1 in
      let later = behind P.Has (code_in_aim aim) (code_in_nodes (n ∷ ns)) h.0.1 in
      ((tt, (later.0, tt)), under S P (Then (Argument aim done ns at)) k sc (h.0.0, both P.Has (code_in_aim aim) (code_in_nodes ns) first later.1) h.1)
  move_good (On (Joining bytes [] at) k sc d left) f h = (((tt, tt), tt), h.1)
  move_good (On (Joining bytes (p ∷ ps) at) k sc d left) f h = piece_good (out-Piece p) bytes ps at k sc d left h.0.1 h.1
  move_good (On (Drafting t at) k sc d left) f h = drafted_good S P (needs S.program t) at k sc d left (needs_good S P t h.0.0) h.1
  move_good (On (Making thing) k sc d left) f h = h.0.0
  move_good (On (Calling thing act at) k sc d left) f h = h.0.0
  move_good (On (Reading thing purpose at) k sc d left) f h = (h.0.0.0, tt)
  move_good (On (Starting body values at) k sc d left) f h = (h.0.1.0, h.0.0)
  move_good (On (Showing bytes) k sc d left) f h = tt
  move_good (On (Ended how) k sc d left) f h = h.0

  -- ---- replies

  answered_good : (r : Reply) (at : Span) (k : List Cont) (sc : Scope) (d left : ℕ) → GoodAll S P (values_in_reply r) → Around S P k sc → GoodState S P (answered r at k sc d left)
  answered_good (reply.Value v) at k sc d left a h = ((a, tt), h)
  answered_good (reply.Elements vs) at k sc d left a h = (((tt, tt), tt), h)
  answered_good (reply.Pairs ps) at k sc d left a h = (((tt, tt), tt), h)
  answered_good reply.Done at k sc d left a h = (((tt, tt), tt), h)
  answered_good (reply.Started number thread) at k sc d left a h = ((a, tt), h)
  answered_good (reply.Ended (ending.Value v)) at k sc d left a h = ((a, tt), h)
  answered_good (reply.Ended how) at k sc d left a h = ended_good S P how left (P.early how refl)
  answered_good (reply.Failed fault) at k sc d left a h = raised_good S P fault at left

  used_good : (purpose : Use) (thing : Reference) (r : Reply) (at : Span) (k : List Cont) (sc : Scope) (d left : ℕ) → P.Refers thing → GoodUse S P purpose → GoodAll S P (values_in_reply r) → Around S P k sc
      → GoodState S P (used purpose thing r at k sc d left)
  used_good Keys thing (reply.Pairs ps) at k sc d left p g a h = ((keys_good P.Refers ps a, tt), h)
  used_good Values thing (reply.Pairs ps) at k sc d left p g a h = ((seconds_good P.Refers ps a, tt), h)
  used_good (ForEach answer block) thing (reply.Pairs ps) at k sc d left p g a h = (((g.0.0, a), g.1), h)
  used_good (ForText t) thing (reply.Elements vs) at k sc d left p g a h = going_good S P (opened_array t.form t thing vs) at k sc d left (array_opened S P t.form t thing vs p a g.0) h
  used_good (ForText t) thing (reply.Pairs ps) at k sc d left p g a h = going_good S P _ at k sc d left (hash_opened S P t thing ps p a g.0) h
  used_good purpose thing r at k sc d left p g a h = answered_good r at k sc d left a h

  pub reply_good : (s : State) (r : Reply) → GoodState S P s → GoodAll S P (values_in_reply r) → GoodState S P (replied s r)
  reply_good (On (Making thing) k sc d left) r h a = answered_good r (record { from = 0; to = 0 }) k sc d left a h.1
  reply_good (On (Calling thing act at) k sc d left) r h a = answered_good r at k sc d left a h.1
  reply_good (On (Reading thing purpose at) k sc d left) r h a = used_good purpose thing r at k sc d left h.0.0.0 (h.0.0.1, h.0.1) a h.1
  reply_good (On (Starting body values at) k sc d left) r h a = answered_good r at k sc d left a h.1
  reply_good (On (Showing bytes) k sc d left) r h a = (((tt, tt), tt), h.1)
  reply_good s r h a = h
