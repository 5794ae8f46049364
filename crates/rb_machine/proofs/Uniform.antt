-- What the machine does is the same however many steps are left, where it begins none.
use Rattle.std.proofs.Common.{◌≡◌, ℕ, ◌+◌, Bool, true, false, cond, List, [], ◌∷◌, ◌++◌, Option, Some, None, length, refl}
use Rattle.std.specs.Prelude.{slice_get, pos, negsuc, nat_lt, nat_le, nat_eq, codes}
use Rattle.std.specs.List.{list_any}
use Rattle.std.specs.Str.{bytes_eq}
use Rattle.rb_tree.specs.declared.span.Span.{Span}
use Rattle.rb_tree.specs.declared.span.NameId.{NameId}
use Rattle.rb_tree.specs.declared.node.AssignOp.{AssignOp}
use Rattle.rb_tree.specs.declared.node.AssignOp.TheVariants as op
use Rattle.rb_tree.specs.declared.node.Node.{Node}
use Rattle.rb_tree.specs.declared.node.Piece.{Piece}
use Rattle.rb_tree.specs.declared.node.Target.{Target, out-Target}
use Rattle.rb_tree.specs.declared.node.Block.{Block}
use Rattle.rb_tree.specs.declared.node.Method.{Method}
use Rattle.rb_tree.specs.declared.node.Node.TheOpen.{Piece-F, Target-F}
use Rattle.rb_tree.specs.declared.node.Node.TheOpen as node
use Rattle.rb_tree.specs.Layer.{NodeLayer}
use Rattle.rb_model.specs.Values.{Value, Nil, False, True, Int, Sym, Str, To, Reference, truthy}
use Rattle.rb_model.specs.Things.{max_elements}
use Rattle.rb_model.specs.Acts.{Act, GetField, SetField, Reply}
use Rattle.rb_model.specs.Acts as reply
use Rattle.rb_model.specs.Ends as ending
use Rattle.rb_machine.specs.Scopes.{Script, Text, Scope, text_of}
use Rattle.rb_machine.specs.Control.{State, On, Cont, Then, Under, Test, Again, Turn, Owning, Frame, Step, AssignTo, FieldTo, GlobalTo, Rest, Choose, RightOfAnd, RightOfOr, Negate, ReturnOf, ReceiverOf, ReceiverToStore, Argument, Instead, Create, Initialize, PieceOf, JoinTo, WriteBehind, LinesBehind, LineOf, TextOf, IsZero, ElementBelow, WithElement, Locked, IndexedBy, MemberOf, IndexOf, ReadOf, RightOf, WriteTo}
use Rattle.rb_machine.specs.Control.{Eval, Give, Leave, Following, Looping, Turning, Passing, Joining, Drafting, Making, Calling, Reading, Showing, Starting, Ended, Exit, Break, Next, Return, Aim, OnReceiver, ByName, Storing, Creating, Listing, Pairing, Threading, Place, OfLocal, OfField, OfGlobal, OfElement, OfAttribute, Walk, Each, WithIndex, Map, Select, Style, Lines, Plain, Inspecting, Draft, Use, Keys, Values, ForEach, ForText, max_depth}
use Rattle.rb_machine.specs.Methods.{Answer, Gives, Raises, Loops, LoopsOver, Asks, Reads, EachPairOf, Inspects, Synchronizes, deed}
use Rattle.rb_machine.specs.Texts.{max_bytes, styled}
use Rattle.rb_machine.specs.Drafts.{Needs, Goes, Finished, Element, Copies, with_line, opened, is_collection, is_array}
use Rattle.rb_machine.specs.Drafts as draft
use Rattle.rb_machine.specs.Call.{ask_of, going, drafted, named, texted, methods_of, params_of, invoked, top_level, own, last_value, enter, answered, invoke, operator, show, value_of, text_by, own_text, give_text, give_inspected, give_line, give_styled, bytes_of, write, write_behind, write_lines, put_lines, print, perform, start_body, read_place, decide, write_place, fill, new_array, new_hash, new_mutex, create_builtin, create, class_from, initialized, pair_up, pairs_of}
use Rattle.rb_machine.specs.Begin.{begin, begin_call, begin_target, begin_return}
use Rattle.rb_machine.specs.Turns.{is_below, next_element, finish}
use Rattle.rb_machine.specs.Give.{join, give_step, give, leave}
use Rattle.rb_machine.specs.Move.{join_piece, replied}
use Rattle.rb_machine.specs.Move as move
use Rattle.rb_machine.specs.Laws.{comes_to_element}
use Rattle.rb_machine.proofs.Measure.{begins_turn, begins_turn_at}

-- the same state with more steps left
abbrev pub longer : ℕ → State → State
longer j (On c k sc d left) = On c k sc d (left + j)

-- a part of the machine that gives the same state however many steps are left
abbrev pub Uniform : (ℕ → State) → Type 0
Uniform part = (j left : ℕ) → part (left + j) ≡ longer j (part left)

pub either : (b : Bool) (j : ℕ) (s t s' t' : State) → s' ≡ longer j s → t' ≡ longer j t → cond b s' t' ≡ longer j (cond b s t)
either true j s t s' t' p q = p
either false j s t s' t' p q = q

pub ask_of_uniform : (v : Value) (act : Act) (at : Span) (k : List Cont) (sc : Scope) (d : ℕ) → Uniform (ask_of v act at k sc d)
ask_of_uniform (To thing) act at k sc d j left = refl
ask_of_uniform Nil act at k sc d j left = refl
ask_of_uniform False act at k sc d j left = refl
ask_of_uniform True act at k sc d j left = refl
ask_of_uniform (Int n) act at k sc d j left = refl
ask_of_uniform (Sym name) act at k sc d j left = refl
ask_of_uniform (Str bytes) act at k sc d j left = refl

pub going_uniform : (o : Option Draft) (at : Span) (k : List Cont) (sc : Scope) (d : ℕ) → Uniform (going o at k sc d)
going_uniform (Some t) at k sc d j left = refl
going_uniform None at k sc d j left = refl

finish_uniform : (array : Reference) (walk : Walk) (k : List Cont) (sc : Scope) (d : ℕ) → Uniform (finish array walk k sc d)
finish_uniform array Each k sc d j left = refl
finish_uniform array WithIndex k sc d j left = refl
finish_uniform array (Map values) k sc d j left = refl
finish_uniform array (Select kept current) k sc d j left = refl

next_element_uniform : (v : Value) (array : Reference) (next : ℕ) (walk : Walk) (block : Block) (at : Span) (k : List Cont) (sc : Scope) (d : ℕ) → Uniform (next_element v array next walk block at k sc d)
next_element_uniform v array next walk block at k sc d j left = either (is_below next v) j _ _ _ _ refl (finish_uniform array walk k sc d j left)

module _ (S : Script) where
  enter_uniform : (m : Method) (me : Value) (args : List Value) (at : Span) (k : List Cont) (sc : Scope) (d : ℕ) → Uniform (enter S m me args at k sc d)
  enter_uniform m me args at k sc d j left = either (nat_eq (length args) (length m.params)) j _ _ _ _ refl refl

  answered_uniform : (a : Answer) (block : Option Block) (at : Span) (k : List Cont) (sc : Scope) (d : ℕ) → Uniform (answered S a block at k sc d)
  answered_uniform (Gives v) block at k sc d j left = refl
  answered_uniform (Raises fault) block at k sc d j left = refl
  answered_uniform (Loops turns) (Some block) at k sc d j left = refl
  answered_uniform (Loops turns) None at k sc d j left = refl
  answered_uniform (LoopsOver array walk) (Some block) at k sc d j left = refl
  answered_uniform (LoopsOver array walk) None at k sc d j left = refl
  answered_uniform (Asks thing act None) block at k sc d j left = refl
  answered_uniform (Asks thing act (Some step)) block at k sc d j left = refl
  answered_uniform (Reads thing purpose) block at k sc d j left = refl
  answered_uniform (EachPairOf hash) (Some block) at k sc d j left = refl
  answered_uniform (EachPairOf hash) None at k sc d j left = refl
  answered_uniform (Inspects collection) block at k sc d j left = refl
  answered_uniform (Synchronizes mutex) (Some block) at k sc d j left = refl
  answered_uniform (Synchronizes mutex) None at k sc d j left = refl

  invoked_uniform : (m : Option Method) (v : Value) (name : Text) (args : List Value) (block : Option Block) (at : Span) (k : List Cont) (sc : Scope) (d : ℕ) → Uniform (invoked S m v name args block at k sc d)
  invoked_uniform (Some m) v name args None at k sc d j left = enter_uniform m v args at k sc d j left
  invoked_uniform (Some m) v name args (Some block) at k sc d j left = refl
  invoked_uniform None v name args block at k sc d j left = answered_uniform (deed S.program v name args (params_of S block)) block at k sc d j left

  invoke_uniform : (v : Value) (name : Text) (args : List Value) (block : Option Block) (at : Span) (k : List Cont) (sc : Scope) (d : ℕ) → Uniform (invoke S v name args block at k sc d)
  invoke_uniform v name args block at k sc d j left = invoked_uniform (texted S name (methods_of S v)) v name args block at k sc d j left

  show_uniform : (bytes : Text) (after : Step) (at : Span) (k : List Cont) (sc : Scope) (d : ℕ) → Uniform (show S bytes after at k sc d)
  show_uniform [] after at k sc d j left = refl
  show_uniform (b ∷ bs) after at k sc d j left = either (nat_lt max_bytes (length (b ∷ bs))) j _ _ _ _ refl refl

  text_by_uniform : (m : Option Method) (v : Value) (at : Span) (k : List Cont) (sc : Scope) (d : ℕ) → Uniform (text_by S m v at k sc d)
  text_by_uniform (Some m) v at k sc d j left = enter_uniform m v [] at (Then (TextOf v) ∷ k) sc d j left
  text_by_uniform None v at k sc d j left = either (is_collection v) j _ _ _ _ refl refl

  give_text_uniform : (v : Value) (at : Span) (k : List Cont) (sc : Scope) (d : ℕ) → Uniform (give_text S v at k sc d)
  give_text_uniform v at k sc d j left = text_by_uniform (own_text S v) v at k sc d j left

  inspected_uniform : (v : Value) (at : Span) (k : List Cont) (sc : Scope) (d : ℕ) → Uniform (give_inspected S v at k sc d)
  inspected_uniform v at k sc d j left = either (is_collection v) j _ _ _ _ refl refl

  -- what a text needs, but for a step of its own
  pub drafted_uniform : (need : Needs) (at : Span) (k : List Cont) (sc : Scope) (d : ℕ) → comes_to_element need ≡ false → (j left : ℕ) → drafted S need at k sc d (left + j) ≡ longer j (drafted S need at k sc d left)
  drafted_uniform (Goes t) at k sc d h j left = going_uniform t at k sc d j left
  drafted_uniform (Finished text) at k sc d h j left = refl
  drafted_uniform (Element t) at k sc d h j left = absurd (cc)
  drafted_uniform (Copies thing t) at k sc d h j left = either (nat_lt (d + length t.begun) max_depth) j _ _ _ _ refl refl
  drafted_uniform (draft.Asks v t) at k sc d h j left = give_text_uniform v at (Under d ∷ Then (LineOf t at) ∷ k) sc (d + length t.begun) j left

  line_uniform : (v : Value) (bytes : List ℕ) (vs : List Value) (at : Span) (k : List Cont) (sc : Scope) (d : ℕ) → Uniform (give_line S v bytes vs at k sc d)
  line_uniform v bytes vs at k sc d j left = either (is_array v) j _ _ _ _ refl (give_text_uniform v at (Then (WriteBehind Lines bytes vs at) ∷ k) sc d j left)

  styled_uniform : (style : Style) (v : Value) (bytes : List ℕ) (vs : List Value) (at : Span) (k : List Cont) (sc : Scope) (d : ℕ) → Uniform (give_styled S style v bytes vs at k sc d)
  styled_uniform Lines v bytes vs at k sc d j left = line_uniform v bytes vs at k sc d j left
  styled_uniform Plain v bytes vs at k sc d j left = give_text_uniform v at (Then (WriteBehind Plain bytes vs at) ∷ k) sc d j left
  styled_uniform (Inspecting args) v bytes vs at k sc d j left = inspected_uniform v at (Then (WriteBehind (Inspecting args) bytes vs at) ∷ k) sc d j left

  written_uniform : (style : Style) (bytes : List ℕ) (vs : List Value) (at : Span) (k : List Cont) (sc : Scope) (d : ℕ) → Uniform (write S style bytes vs at k sc d)
  written_uniform style bytes [] at k sc d j left = show_uniform bytes (value_of S style) at k sc d j left
  written_uniform style bytes (v ∷ vs) at k sc d j left = styled_uniform style v bytes vs at k sc d j left

  behind_uniform : (style : Style) (bytes : List ℕ) (text : Text) (vs : List Value) (at : Span) (k : List Cont) (sc : Scope) (d : ℕ) → Uniform (write_behind S style bytes text vs at k sc d)
  behind_uniform style bytes text vs at k sc d j left =
      either (nat_lt max_bytes (length (bytes ++ styled style text))) j _ _ _ _ refl (written_uniform style (bytes ++ styled style text) vs at k sc d j left)

  array_lines_uniform : (bytes : List ℕ) (text : Text) (vs : List Value) (at : Span) (k : List Cont) (sc : Scope) (d : ℕ) → Uniform (write_lines S bytes text vs at k sc d)
  array_lines_uniform bytes text vs at k sc d j left = either (nat_lt max_bytes (length (bytes ++ text))) j _ _ _ _ refl (written_uniform Lines (bytes ++ text) vs at k sc d j left)

  lines_uniform : (args : List Value) (at : Span) (k : List Cont) (sc : Scope) (d : ℕ) → Uniform (put_lines S args at k sc d)
  lines_uniform [] at k sc d j left = show_uniform (10 ∷ []) (Instead Nil) at k sc d j left
  lines_uniform (v ∷ vs) at k sc d j left = written_uniform Lines [] (v ∷ vs) at k sc d j left

  print_uniform : (name : Text) (args : List Value) (at : Span) (k : List Cont) (sc : Scope) (d : ℕ) → Uniform (print S name args at k sc d)
  print_uniform name args at k sc d j left =
      either (bytes_eq name (codes "puts")) j _ _ _ _ (lines_uniform args at k sc d j left)
      (either (bytes_eq name (codes "print")) j _ _ _ _ (written_uniform Plain [] args at k sc d j left)
      (either (bytes_eq name (codes "p")) j _ _ _ _ (written_uniform (Inspecting args) [] args at k sc d j left) refl))

  top_level_uniform : (m : Option Method) (name : NameId) (args : List Value) (at : Span) (k : List Cont) (sc : Scope) (d : ℕ) → Uniform (top_level S m name args at k sc d)
  top_level_uniform (Some m) name args at k sc d j left = enter_uniform m Nil args at k sc d j left
  top_level_uniform None name args at k sc d j left = print_uniform (text_of S name) args at k sc d j left

  own_uniform : (m : Option Method) (name : NameId) (args : List Value) (at : Span) (k : List Cont) (sc : Scope) (d : ℕ) → Uniform (own S m name args at k sc d)
  own_uniform (Some m) name args at k sc d j left = enter_uniform m sc.me args at k sc d j left
  own_uniform None name args at k sc d j left = top_level_uniform (named S name S.program.functions) name args at k sc d j left

  fill_uniform : (count v : Value) (at : Span) (k : List Cont) (sc : Scope) (d : ℕ) → Uniform (fill S count v at k sc d)
  fill_uniform (Int (pos n)) v at k sc d j left = either (nat_le n max_elements) j _ _ _ _ refl refl
  fill_uniform (Int (negsuc n)) v at k sc d j left = refl
  fill_uniform count v at k sc d j left = refl

  array_uniform : (args : List Value) (at : Span) (k : List Cont) (sc : Scope) (d : ℕ) → Uniform (new_array S args at k sc d)
  array_uniform [] at k sc d j left = refl
  array_uniform (count ∷ []) at k sc d j left = fill_uniform count Nil at k sc d j left
  array_uniform (count ∷ v ∷ []) at k sc d j left = fill_uniform count v at k sc d j left
  array_uniform (count ∷ v ∷ w ∷ vs) at k sc d j left = refl

  hash_uniform : (args : List Value) (at : Span) (k : List Cont) (sc : Scope) (d : ℕ) → Uniform (new_hash S args at k sc d)
  hash_uniform [] at k sc d j left = refl
  hash_uniform (v ∷ vs) at k sc d j left = refl

  mutex_uniform : (args : List Value) (at : Span) (k : List Cont) (sc : Scope) (d : ℕ) → Uniform (new_mutex S args at k sc d)
  mutex_uniform [] at k sc d j left = refl
  mutex_uniform (v ∷ vs) at k sc d j left = refl

  builtin_uniform : (name : Text) (args : List Value) (at : Span) (k : List Cont) (sc : Scope) (d : ℕ) → Uniform (create_builtin S name args at k sc d)
  builtin_uniform name args at k sc d j left =
      either (bytes_eq name (codes "Array")) j _ _ _ _ (array_uniform args at k sc d j left) (either (bytes_eq name (codes "Hash")) j _ _ _ _ (hash_uniform args at k sc d j left)
      (either (bytes_eq name (codes "Mutex")) j _ _ _ _ (mutex_uniform args at k sc d j left) refl))

  create_uniform : (class : Option ℕ) (name : NameId) (args : List Value) (at : Span) (k : List Cont) (sc : Scope) (d : ℕ) → Uniform (create S class name args at k sc d)
  create_uniform (Some class) name args at k sc d j left = refl
  create_uniform None name args at k sc d j left = builtin_uniform (text_of S name) args at k sc d j left

  pair_uniform : (ps : List (Value × Value)) (at : Span) (k : List Cont) (sc : Scope) (d : ℕ) → Uniform (pair_up S ps at k sc d)
  pair_uniform ps at k sc d j left = either (list_any (λ (p : Value × Value). is_collection p.0) ps) j _ _ _ _ refl refl

  initialized_uniform : (m : Option Method) (object : Value) (args : List Value) (at : Span) (k : List Cont) (sc : Scope) (d : ℕ) → Uniform (initialized S m object args at k sc d)
  initialized_uniform (Some m) object args at k sc d j left = enter_uniform m object args at (Then (Instead object) ∷ k) sc d j left
  initialized_uniform None object [] at k sc d j left = refl
  initialized_uniform None object (v ∷ vs) at k sc d j left = refl

  start_uniform : (b : Option Block) (body : ℕ) (args : List Value) (at : Span) (k : List Cont) (sc : Scope) (d : ℕ) → Uniform (start_body S b body args at k sc d)
  start_uniform (Some block) body args at k sc d j left = either (nat_eq (length args) (length block.params)) j _ _ _ _ refl refl
  start_uniform None body args at k sc d j left = refl

  pub perform_uniform : (aim : Aim) (args : List Value) (at : Span) (k : List Cont) (sc : Scope) (d : ℕ) → Uniform (perform S aim args at k sc d)
  perform_uniform (OnReceiver v name block) args at k sc d j left = invoke_uniform v name args block at k sc d j left
  perform_uniform (ByName name) args at k sc d j left = own_uniform (texted S (text_of S name) (methods_of S sc.me)) name args at k sc d j left
  perform_uniform (Storing v name) args at k sc d j left = invoke_uniform v name args None at (Then (Instead (last_value S args)) ∷ k) sc d j left
  perform_uniform (Creating class) args at k sc d j left = create_uniform (class_from S 0 class S.program.classes) class args at k sc d j left
  perform_uniform Listing args at k sc d j left = refl
  perform_uniform (Threading body) args at k sc d j left = start_uniform (slice_get S.program.bodies body) body args at k sc d j left
  perform_uniform Pairing args at k sc d j left = pair_uniform (pairs_of S args) at k sc d j left

  read_uniform : (place : Place) (o : AssignOp) (value : Node) (at : Span) (k : List Cont) (sc : Scope) (d : ℕ) → Uniform (read_place S place o value at k sc d)
  read_uniform (OfLocal name) o value at k sc d j left = refl
  read_uniform (OfField name) o value at k sc d j left = ask_of_uniform sc.me (GetField name) at (Then (ReadOf (OfField name) o value at) ∷ k) sc d j left
  read_uniform (OfGlobal name) o value at k sc d j left = refl
  read_uniform (OfElement v index) o value at k sc d j left = invoke_uniform v (codes "[]") (index ∷ []) None at (Then (ReadOf (OfElement v index) o value at) ∷ k) sc d j left
  read_uniform (OfAttribute v name) o value at k sc d j left = invoke_uniform v name [] None at (Then (ReadOf (OfAttribute v name) o value at) ∷ k) sc d j left

  decide_uniform : (v : Value) (place : Place) (o : AssignOp) (value : Node) (at : Span) (k : List Cont) (sc : Scope) (d : ℕ) → Uniform (decide S v place o value at k sc d)
  decide_uniform v place op.OrElse value at k sc d j left = either (truthy v) j _ _ _ _ refl refl
  decide_uniform v place op.AndThen value at k sc d j left = either (truthy v) j _ _ _ _ refl refl
  decide_uniform v place op.Plus value at k sc d j left = refl
  decide_uniform v place op.Minus value at k sc d j left = refl
  decide_uniform v place op.Times value at k sc d j left = refl
  decide_uniform v place op.Over value at k sc d j left = refl
  decide_uniform v place op.Modulo value at k sc d j left = refl

  write_uniform : (v : Value) (place : Place) (at : Span) (k : List Cont) (sc : Scope) (d : ℕ) → Uniform (write_place S v place at k sc d)
  write_uniform v (OfLocal name) at k sc d j left = refl
  write_uniform v (OfField name) at k sc d j left = ask_of_uniform sc.me (SetField name v) at (Then (Instead v) ∷ k) sc d j left
  write_uniform v (OfGlobal name) at k sc d j left = refl
  write_uniform v (OfElement w index) at k sc d j left = invoke_uniform w (codes "[]=") (index ∷ v ∷ []) None at (Then (Instead v) ∷ k) sc d j left
  write_uniform v (OfAttribute w name) at k sc d j left = invoke_uniform w (name ++ codes "=") (v ∷ []) None at (Then (Instead v) ∷ k) sc d j left

  join_uniform : (bytes more : List ℕ) (pieces : List Piece) (at : Span) (k : List Cont) (sc : Scope) (d : ℕ) → Uniform (join bytes more pieces at k sc d)
  join_uniform bytes more pieces at k sc d j left = either (nat_lt max_bytes (length (bytes ++ more))) j _ _ _ _ refl refl

  pub piece_uniform : (f : Piece-F Node Piece Target Block) (bytes : List ℕ) (ps : List Piece) (at : Span) (k : List Cont) (sc : Scope) (d : ℕ) → Uniform (join_piece S f bytes ps at k sc d)
  piece_uniform (node.Text more) bytes ps at k sc d j left = join_uniform bytes more ps at k sc d j left
  piece_uniform (node.Code code) bytes ps at k sc d j left = refl

  give_step_uniform : (v : Value) (step : Step) (k : List Cont) (sc : Scope) (d : ℕ) → begins_turn S step ≡ false → Uniform (give_step S v step k sc d)
  give_step_uniform v (AssignTo name) k sc d h j left = refl
  give_step_uniform v (FieldTo name at) k sc d h j left = ask_of_uniform sc.me (SetField name v) at (Then (Instead v) ∷ k) sc d j left
  give_step_uniform v (GlobalTo name at) k sc d h j left = refl
  give_step_uniform v (Rest nodes) k sc d h j left = refl
  give_step_uniform v (Choose first second) k sc d h j left = refl
  give_step_uniform v (RightOfAnd right) k sc d h j left = either (truthy v) j _ _ _ _ refl refl
  give_step_uniform v (RightOfOr right) k sc d h j left = either (truthy v) j _ _ _ _ refl refl
  give_step_uniform v Negate k sc d h j left = refl
  give_step_uniform v ReturnOf k sc d h j left = refl
  give_step_uniform v (ReceiverOf name args block at) k sc d h j left = refl
  give_step_uniform v (ReceiverToStore name args at) k sc d h j left = refl
  give_step_uniform v (Argument aim done rest at) k sc d h j left = refl
  give_step_uniform v (Instead w) k sc d h j left = refl
  give_step_uniform v (Create thing) k sc d h j left = refl
  give_step_uniform v (Initialize args at) k sc d h j left = initialized_uniform (texted S (codes "initialize") (methods_of S v)) v args at k sc d j left
  give_step_uniform v (PieceOf bytes pieces at) k sc d h j left = give_text_uniform v at (Then (JoinTo bytes pieces at) ∷ k) sc d j left
  give_step_uniform v (JoinTo bytes pieces at) k sc d h j left = join_uniform bytes (bytes_of S v) pieces at k sc d j left
  give_step_uniform v (WriteBehind style bytes values at) k sc d h j left = behind_uniform style bytes (bytes_of S v) values at k sc d j left
  give_step_uniform v (LinesBehind bytes values at) k sc d h j left = array_lines_uniform bytes (bytes_of S v) values at k sc d j left
  give_step_uniform v (LineOf t at) k sc d h j left = going_uniform (with_line t (bytes_of S v)) at k sc d j left
  give_step_uniform v IsZero k sc d h j left = refl
  give_step_uniform v (ElementBelow array next walk block at) k sc d h j left = next_element_uniform v array next walk block at k sc d j left
  give_step_uniform v (WithElement array next walk block at) k sc d h j left = absurd (cc)
  give_step_uniform v (Locked mutex block at) k sc d h j left = absurd (cc)
  give_step_uniform v (TextOf object) k sc d h j left = refl
  give_step_uniform v (IndexedBy index o value at) k sc d h j left = refl
  give_step_uniform v (MemberOf name o value at) k sc d h j left = read_uniform (OfAttribute v name) o value at k sc d j left
  give_step_uniform v (IndexOf w o value at) k sc d h j left = read_uniform (OfElement w v) o value at k sc d j left
  give_step_uniform v (ReadOf place o value at) k sc d h j left = decide_uniform v place o value at k sc d j left
  give_step_uniform v (RightOf current o at) k sc d h j left = invoke_uniform current (operator S o) (v ∷ []) None at k sc d j left
  give_step_uniform v (WriteTo place at) k sc d h j left = write_uniform v place at k sc d j left

  pub give_uniform : (v : Value) (c : Cont) (k : List Cont) (sc : Scope) (d : ℕ) → begins_turn_at S c ≡ false → Uniform (give S v c k sc d)
  give_uniform v (Then step) k sc d h j left = give_step_uniform v step k sc d h j left
  give_uniform v (Under depth) k sc d h j left = refl
  give_uniform v (Test condition body) k sc d h j left = either (truthy v) j _ _ _ _ refl refl
  give_uniform v (Again condition body) k sc d h j left = refl
  give_uniform v (Turn turns block kept) k sc d h j left = refl
  give_uniform v (Owning mutex block at kept) k sc d h j left = refl
  give_uniform v (Frame saved) k sc d h j left = refl

  begin_call_uniform : (receiver : Option Node) (name : NameId) (args : List Node) (block : Option Block) (at : Span) (k : List Cont) (sc : Scope) (d : ℕ) → Uniform (begin_call S receiver name args block at k sc d)
  begin_call_uniform None name args block at k sc d j left = refl
  begin_call_uniform (Some receiver) name args block at k sc d j left = refl

  begin_target_uniform : (f : Target-F Node Piece Target Block) (o : AssignOp) (value : Node) (at : Span) (k : List Cont) (sc : Scope) (d : ℕ) → Uniform (begin_target S f o value at k sc d)
  begin_target_uniform (node.«Target::Local» name) o value at k sc d j left = refl
  begin_target_uniform (node.«Target::Field» name) o value at k sc d j left = read_uniform (OfField name) o value at k sc d j left
  begin_target_uniform (node.«Target::Global» name) o value at k sc d j left = refl
  begin_target_uniform (node.Index receiver index) o value at k sc d j left = refl
  begin_target_uniform (node.Attribute receiver name) o value at k sc d j left = refl

  begin_return_uniform : (value : Option Node) (k : List Cont) (sc : Scope) (d : ℕ) → Uniform (begin_return S value k sc d)
  begin_return_uniform None k sc d j left = refl
  begin_return_uniform (Some value) k sc d j left = refl

  pub begin_uniform : (f : NodeLayer) (k : List Cont) (sc : Scope) (d : ℕ) → Uniform (begin S f k sc d)
  begin_uniform (node.«Node::Field» name at) k sc d j left = ask_of_uniform sc.me (GetField name) at k sc d j left
  begin_uniform (node.OpAssign target o value at) k sc d j left = begin_target_uniform (out-Target target) o value at k sc d j left
  begin_uniform (node.Call receiver name args block at) k sc d j left = begin_call_uniform receiver name args block at k sc d j left
  begin_uniform (node.Return value at) k sc d j left = begin_return_uniform value k sc d j left
  begin_uniform other k sc d j left = refl

pub leave_uniform : (e : Exit) (c : Cont) (k : List Cont) (sc : Scope) (d : ℕ) → Uniform (leave e c k sc d)
leave_uniform e (Then step) k sc d j left = refl
leave_uniform e (Under depth) k sc d j left = refl
leave_uniform Break (Test condition body) k sc d j left = refl
leave_uniform Next (Test condition body) k sc d j left = refl
leave_uniform (Return v) (Test condition body) k sc d j left = refl
leave_uniform Break (Again condition body) k sc d j left = refl
leave_uniform Next (Again condition body) k sc d j left = refl
leave_uniform (Return v) (Again condition body) k sc d j left = refl
leave_uniform Break (Owning mutex block at kept) k sc d j left = refl
leave_uniform Next (Owning mutex block at kept) k sc d j left = refl
leave_uniform (Return v) (Owning mutex block at kept) k sc d j left = refl
leave_uniform Break (Turn turns block kept) k sc d j left = refl
leave_uniform Next (Turn turns block kept) k sc d j left = refl
leave_uniform (Return v) (Turn turns block kept) k sc d j left = refl
leave_uniform Break (Frame saved) k sc d j left = refl
leave_uniform Next (Frame saved) k sc d j left = refl
leave_uniform (Return v) (Frame saved) k sc d j left = refl

answer_uniform : (r : Reply) (at : Span) (k : List Cont) (sc : Scope) (d : ℕ) → Uniform (move.answered r at k sc d)
answer_uniform (reply.Value v) at k sc d j left = refl
answer_uniform (reply.Elements vs) at k sc d j left = refl
answer_uniform (reply.Pairs ps) at k sc d j left = refl
answer_uniform reply.Done at k sc d j left = refl
answer_uniform (reply.Started number thread) at k sc d j left = refl
answer_uniform (reply.Ended (ending.Value v)) at k sc d j left = refl
answer_uniform (reply.Ended (ending.Raised f p)) at k sc d j left = refl
answer_uniform (reply.Ended ending.Steps) at k sc d j left = refl
answer_uniform (reply.Ended (ending.Full a b)) at k sc d j left = refl
answer_uniform (reply.Ended ending.Sink) at k sc d j left = refl
answer_uniform (reply.Ended ending.Memory) at k sc d j left = refl
answer_uniform (reply.Failed f) at k sc d j left = refl

used_uniform : (purpose : Use) (thing : Reference) (r : Reply) (at : Span) (k : List Cont) (sc : Scope) (d : ℕ) → Uniform (move.used purpose thing r at k sc d)
used_uniform Keys thing (reply.Pairs ps) at k sc d j left = refl
used_uniform Values thing (reply.Pairs ps) at k sc d j left = refl
used_uniform (ForEach answer block) thing (reply.Pairs ps) at k sc d j left = refl
used_uniform (ForText t) thing (reply.Elements vs) at k sc d j left = going_uniform (opened t thing (reply.Elements vs)) at k sc d j left
used_uniform (ForText t) thing (reply.Pairs ps) at k sc d j left = going_uniform (opened t thing (reply.Pairs ps)) at k sc d j left
used_uniform purpose thing r at k sc d j left = answer_uniform r at k sc d j left

-- a reply leaves the steps as they are
pub replied_longer : (j : ℕ) (s : State) (r : Reply) → replied (longer j s) r ≡ longer j (replied s r)
replied_longer j (On (Making thing) k sc d left) r = answer_uniform r _ k sc d j left
replied_longer j (On (Calling thing act at) k sc d left) r = answer_uniform r at k sc d j left
replied_longer j (On (Reading thing purpose at) k sc d left) r = used_uniform purpose thing r at k sc d j left
replied_longer j (On (Starting body values at) k sc d left) r = answer_uniform r _ k sc d j left
replied_longer j (On (Showing bytes) k sc d left) r = refl
replied_longer j (On (Drafting t at) k sc d left) r = refl
replied_longer j (On (Ended how) k sc d left) r = refl
replied_longer j (On (Eval n) k sc d left) r = refl
replied_longer j (On (Give v) k sc d left) r = refl
replied_longer j (On (Leave e) k sc d left) r = refl
replied_longer j (On (Following v ns) k sc d left) r = refl
replied_longer j (On (Looping condition body) k sc d left) r = refl
replied_longer j (On (Turning turns block) k sc d left) r = refl
replied_longer j (On (Passing aim done ns at) k sc d left) r = refl
replied_longer j (On (Joining bytes ps at) k sc d left) r = refl
