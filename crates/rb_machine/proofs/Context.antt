-- What the machine does is the same whatever waits behind what it is at.
use Rattle.std.proofs.Common.{◌≡◌, ℕ, Bool, true, false, cond, List, [], ◌∷◌, ◌++◌, Option, Some, None, length, refl}
use Rattle.std.specs.Prelude.{slice_get, zero, suc, ◌+◌, pos, negsuc, int_lt, nat_lt, nat_le, nat_eq, codes}
use Rattle.std.specs.List.{list_any}
use Rattle.std.specs.Str.{bytes_eq}
use Rattle.rb_tree.specs.declared.span.Span.{Span}
use Rattle.rb_tree.specs.declared.span.NameId.{NameId}
use Rattle.rb_tree.specs.declared.node.AssignOp.{AssignOp}
use Rattle.rb_tree.specs.declared.node.AssignOp.TheVariants as op
use Rattle.rb_tree.specs.declared.node.Node.{Node}
use Rattle.rb_tree.specs.declared.node.Piece.{Piece}
use Rattle.rb_tree.specs.declared.node.Target.{Target, out-Target}
use Rattle.rb_tree.specs.declared.node.Block.{Block}
use Rattle.rb_tree.specs.declared.node.Method.{Method}
use Rattle.rb_tree.specs.declared.node.Node.TheOpen.{Piece-F, Target-F}
use Rattle.rb_tree.specs.declared.node.Node.TheOpen as node
use Rattle.rb_tree.specs.Layer.{NodeLayer}
use Rattle.rb_model.specs.Values.{Value, Nil, False, True, Int, Sym, Str, To, Reference, truthy}
use Rattle.rb_model.specs.Things.{max_elements}
use Rattle.rb_model.specs.Acts.{Act, GetField, SetField, Reply}
use Rattle.rb_model.specs.Acts as reply
use Rattle.rb_model.specs.Ends as ending
use Rattle.rb_machine.specs.Scopes.{Script, Text, Scope, text_of}
use Rattle.rb_machine.specs.Control.{State, On, Cont, Then, Under, Test, Again, Turn, Owning, Frame, Step, AssignTo, FieldTo, GlobalTo, Rest, Choose, RightOfAnd, RightOfOr, Negate, ReturnOf, ReceiverOf, ReceiverToStore, Argument, Instead, Create, Initialize, PieceOf, JoinTo, WriteBehind, LinesBehind, LineOf, TextOf, IsZero, ElementBelow, WithElement, Locked, IndexedBy, MemberOf, IndexOf, ReadOf, RightOf, WriteTo}
use Rattle.rb_machine.specs.Control.{Eval, Give, Leave, Following, Looping, Turning, Passing, Joining, Drafting, Making, Calling, Reading, Showing, Starting, Ended, Exit, Break, Next, Return, Aim, OnReceiver, ByName, Storing, Creating, Listing, Pairing, Threading, Place, OfLocal, OfField, OfGlobal, OfElement, OfAttribute, Walk, Each, WithIndex, Map, Select, Turns, Counting, Walking, EachPair, Style, Lines, Plain, Inspecting, Draft, Use, Keys, Values, ForEach, ForText, max_depth}
use Rattle.rb_machine.specs.Methods.{Answer, Gives, Raises, Loops, LoopsOver, Asks, Reads, EachPairOf, Inspects, Synchronizes, deed}
use Rattle.rb_machine.specs.Texts.{max_bytes, styled}
use Rattle.rb_machine.specs.Drafts.{Needs, Goes, Finished, Element, Copies, with_line, opened, is_collection, is_array}
use Rattle.rb_machine.specs.Drafts as draft
use Rattle.rb_machine.specs.Call.{ask_of, going, start_element, drafted, named, texted, methods_of, params_of, invoked, top_level, own, last_value, enter, answered, invoke, operator, show, value_of, text_by, own_text, give_text, give_inspected, give_line, give_styled, bytes_of, write, write_behind, write_lines, put_lines, print, perform, start_body, read_place, decide, write_place, fill, new_array, new_hash, new_mutex, create_builtin, create, class_from, initialized, pair_up, pairs_of}
use Rattle.rb_machine.specs.Begin.{begin, begin_call, begin_target, begin_return}
use Rattle.rb_machine.specs.Turns.{is_below, next_element, finish, start_turn, start_owning, turn, holding, given}
use Rattle.rb_machine.specs.Give.{join, give_step, give, leave}
use Rattle.rb_machine.specs.Move.{join_piece}
use Rattle.rb_machine.specs.Move as move

-- the same state with more that waits behind; an end has nothing behind it
abbrev pub onto : List Cont → State → State
onto r (On (Ended how) k sc d left) = On (Ended how) k sc d left
onto r (On c k sc d left) = On c (k ++ r) sc d left

pub either : (b : Bool) (r : List Cont) (s t s' t' : State) → s' ≡ onto r s → t' ≡ onto r t → cond b s' t' ≡ onto r (cond b s t)
either true r s t s' t' p q = p
either false r s t s' t' p q = q

pub ask_of_local : (v : Value) (act : Act) (at : Span) (r k : List Cont) (sc : Scope) (d left : ℕ) → ask_of v act at (k ++ r) sc d left ≡ onto r (ask_of v act at k sc d left)
ask_of_local (To thing) act at r k sc d left = refl
ask_of_local Nil act at r k sc d left = refl
ask_of_local False act at r k sc d left = refl
ask_of_local True act at r k sc d left = refl
ask_of_local (Int n) act at r k sc d left = refl
ask_of_local (Sym name) act at r k sc d left = refl
ask_of_local (Str bytes) act at r k sc d left = refl

pub going_local : (o : Option Draft) (at : Span) (r k : List Cont) (sc : Scope) (d left : ℕ) → going o at (k ++ r) sc d left ≡ onto r (going o at k sc d left)
going_local (Some t) at r k sc d left = refl
going_local None at r k sc d left = refl

element_local : (t : Draft) (at : Span) (r k : List Cont) (sc : Scope) (d left : ℕ) → start_element t at (k ++ r) sc d left ≡ onto r (start_element t at k sc d left)
element_local t at r k sc d zero = refl
element_local t at r k sc d (suc left) = refl

finish_local : (array : Reference) (walk : Walk) (r k : List Cont) (sc : Scope) (d left : ℕ) → finish array walk (k ++ r) sc d left ≡ onto r (finish array walk k sc d left)
finish_local array Each r k sc d left = refl
finish_local array WithIndex r k sc d left = refl
finish_local array (Map values) r k sc d left = refl
finish_local array (Select kept current) r k sc d left = refl

next_element_local : (v : Value) (array : Reference) (next : ℕ) (walk : Walk) (block : Block) (at : Span) (r k : List Cont) (sc : Scope) (d left : ℕ) → next_element v array next walk block at (k ++ r) sc d left ≡ onto r (next_element v array next walk block at k sc d left)
next_element_local v array next walk block at r k sc d left = either (is_below next v) r _ _ _ _ refl (finish_local array walk r k sc d left)

module _ (S : Script) where
  turn_started : (later : Turns) (values : List Value) (block : Block) (r k : List Cont) (sc : Scope) (d left : ℕ) → start_turn S later values block (k ++ r) sc d left ≡ onto r (start_turn S later values block k sc d left)
  turn_started later values block r k sc d zero = refl
  turn_started later values block r k sc d (suc left) = refl

  owning_started : (mutex : Reference) (block : Block) (at : Span) (r k : List Cont) (sc : Scope) (d left : ℕ) → start_owning S mutex block at (k ++ r) sc d left ≡ onto r (start_owning S mutex block at k sc d left)
  owning_started mutex block at r k sc d zero = refl
  owning_started mutex block at r k sc d (suc left) = refl

  pub turn_local : (turns : Turns) (block : Block) (r k : List Cont) (sc : Scope) (d left : ℕ) → turn S turns block (k ++ r) sc d left ≡ onto r (turn S turns block k sc d left)
  turn_local (Counting next last answer) block r k sc d left = either (int_lt next last) r _ _ _ _ (turn_started _ _ block r k sc d left) refl
  turn_local (Walking array next walk at) block r k sc d left = refl
  turn_local (EachPair [] answer) block r k sc d left = refl
  turn_local (EachPair (p ∷ ps) answer) block r k sc d left = turn_started _ _ block r k sc d left

  enter_local : (m : Method) (me : Value) (args : List Value) (at : Span) (r k : List Cont) (sc : Scope) (d left : ℕ) → enter S m me args at (k ++ r) sc d left ≡ onto r (enter S m me args at k sc d left)
  enter_local m me args at r k sc d left = either (nat_eq (length args) (length m.params)) r _ _ _ _ refl refl

  answered_local : (a : Answer) (block : Option Block) (at : Span) (r k : List Cont) (sc : Scope) (d left : ℕ) → answered S a block at (k ++ r) sc d left ≡ onto r (answered S a block at k sc d left)
  answered_local (Gives v) block at r k sc d left = refl
  answered_local (Raises fault) block at r k sc d left = refl
  answered_local (Loops turns) (Some block) at r k sc d left = refl
  answered_local (Loops turns) None at r k sc d left = refl
  answered_local (LoopsOver array walk) (Some block) at r k sc d left = refl
  answered_local (LoopsOver array walk) None at r k sc d left = refl
  answered_local (Asks thing act None) block at r k sc d left = refl
  answered_local (Asks thing act (Some step)) block at r k sc d left = refl
  answered_local (Reads thing purpose) block at r k sc d left = refl
  answered_local (EachPairOf hash) (Some block) at r k sc d left = refl
  answered_local (EachPairOf hash) None at r k sc d left = refl
  answered_local (Inspects collection) block at r k sc d left = refl
  answered_local (Synchronizes mutex) (Some block) at r k sc d left = refl
  answered_local (Synchronizes mutex) None at r k sc d left = refl

  invoked_local : (m : Option Method) (v : Value) (name : Text) (args : List Value) (block : Option Block) (at : Span) (r k : List Cont) (sc : Scope) (d left : ℕ) → invoked S m v name args block at (k ++ r) sc d left ≡ onto r (invoked S m v name args block at k sc d left)
  invoked_local (Some m) v name args None at r k sc d left = enter_local m v args at r k sc d left
  invoked_local (Some m) v name args (Some block) at r k sc d left = refl
  invoked_local None v name args block at r k sc d left = answered_local (deed S.program v name args (params_of S block)) block at r k sc d left

  invoke_local : (v : Value) (name : Text) (args : List Value) (block : Option Block) (at : Span) (r k : List Cont) (sc : Scope) (d left : ℕ) → invoke S v name args block at (k ++ r) sc d left ≡ onto r (invoke S v name args block at k sc d left)
  invoke_local v name args block at r k sc d left = invoked_local (texted S name (methods_of S v)) v name args block at r k sc d left

  show_local : (bytes : Text) (after : Step) (at : Span) (r k : List Cont) (sc : Scope) (d left : ℕ) → show S bytes after at (k ++ r) sc d left ≡ onto r (show S bytes after at k sc d left)
  show_local [] after at r k sc d left = refl
  show_local (b ∷ bs) after at r k sc d left = either (nat_lt max_bytes (length (b ∷ bs))) r _ _ _ _ refl refl

  text_by_local : (m : Option Method) (v : Value) (at : Span) (r k : List Cont) (sc : Scope) (d left : ℕ) → text_by S m v at (k ++ r) sc d left ≡ onto r (text_by S m v at k sc d left)
  text_by_local (Some m) v at r k sc d left = enter_local m v [] at r (Then (TextOf v) ∷ k) sc d left
  text_by_local None v at r k sc d left = either (is_collection v) r _ _ _ _ refl refl

  give_text_local : (v : Value) (at : Span) (r k : List Cont) (sc : Scope) (d left : ℕ) → give_text S v at (k ++ r) sc d left ≡ onto r (give_text S v at k sc d left)
  give_text_local v at r k sc d left = text_by_local (own_text S v) v at r k sc d left

  inspected_local : (v : Value) (at : Span) (r k : List Cont) (sc : Scope) (d left : ℕ) → give_inspected S v at (k ++ r) sc d left ≡ onto r (give_inspected S v at k sc d left)
  inspected_local v at r k sc d left = either (is_collection v) r _ _ _ _ refl refl

  pub drafted_local : (need : Needs) (at : Span) (r k : List Cont) (sc : Scope) (d left : ℕ) → drafted S need at (k ++ r) sc d left ≡ onto r (drafted S need at k sc d left)
  drafted_local (Goes t) at r k sc d left = going_local t at r k sc d left
  drafted_local (Finished text) at r k sc d left = refl
  drafted_local (Element t) at r k sc d left = element_local t at r k sc d left
  drafted_local (Copies thing t) at r k sc d left = either (nat_lt (d + length t.begun) max_depth) r _ _ _ _ refl refl
  drafted_local (draft.Asks v t) at r k sc d left = give_text_local v at r (Under d ∷ Then (LineOf t at) ∷ k) sc (d + length t.begun) left

  line_local : (v : Value) (bytes : List ℕ) (vs : List Value) (at : Span) (r k : List Cont) (sc : Scope) (d left : ℕ) → give_line S v bytes vs at (k ++ r) sc d left ≡ onto r (give_line S v bytes vs at k sc d left)
  line_local v bytes vs at r k sc d left = either (is_array v) r _ _ _ _ refl (give_text_local v at r (Then (WriteBehind Lines bytes vs at) ∷ k) sc d left)

  styled_local : (style : Style) (v : Value) (bytes : List ℕ) (vs : List Value) (at : Span) (r k : List Cont) (sc : Scope) (d left : ℕ) → give_styled S style v bytes vs at (k ++ r) sc d left ≡ onto r (give_styled S style v bytes vs at k sc d left)
  styled_local Lines v bytes vs at r k sc d left = line_local v bytes vs at r k sc d left
  styled_local Plain v bytes vs at r k sc d left = give_text_local v at r (Then (WriteBehind Plain bytes vs at) ∷ k) sc d left
  styled_local (Inspecting args) v bytes vs at r k sc d left = inspected_local v at r (Then (WriteBehind (Inspecting args) bytes vs at) ∷ k) sc d left

  written_local : (style : Style) (bytes : List ℕ) (vs : List Value) (at : Span) (r k : List Cont) (sc : Scope) (d left : ℕ) → write S style bytes vs at (k ++ r) sc d left ≡ onto r (write S style bytes vs at k sc d left)
  written_local style bytes [] at r k sc d left = show_local bytes (value_of S style) at r k sc d left
  written_local style bytes (v ∷ vs) at r k sc d left = styled_local style v bytes vs at r k sc d left

  behind_local : (style : Style) (bytes : List ℕ) (text : Text) (vs : List Value) (at : Span) (r k : List Cont) (sc : Scope) (d left : ℕ) → write_behind S style bytes text vs at (k ++ r) sc d left ≡ onto r (write_behind S style bytes text vs at k sc d left)
  behind_local style bytes text vs at r k sc d left =
      either (nat_lt max_bytes (length (bytes ++ styled style text))) r _ _ _ _ refl (written_local style (bytes ++ styled style text) vs at r k sc d left)

  array_lines_local : (bytes : List ℕ) (text : Text) (vs : List Value) (at : Span) (r k : List Cont) (sc : Scope) (d left : ℕ) → write_lines S bytes text vs at (k ++ r) sc d left ≡ onto r (write_lines S bytes text vs at k sc d left)
  array_lines_local bytes text vs at r k sc d left = either (nat_lt max_bytes (length (bytes ++ text))) r _ _ _ _ refl (written_local Lines (bytes ++ text) vs at r k sc d left)

  lines_local : (args : List Value) (at : Span) (r k : List Cont) (sc : Scope) (d left : ℕ) → put_lines S args at (k ++ r) sc d left ≡ onto r (put_lines S args at k sc d left)
  lines_local [] at r k sc d left = show_local (10 ∷ []) (Instead Nil) at r k sc d left
  lines_local (v ∷ vs) at r k sc d left = written_local Lines [] (v ∷ vs) at r k sc d left

  print_local : (name : Text) (args : List Value) (at : Span) (r k : List Cont) (sc : Scope) (d left : ℕ) → print S name args at (k ++ r) sc d left ≡ onto r (print S name args at k sc d left)
  print_local name args at r k sc d left =
      either (bytes_eq name (codes "puts")) r _ _ _ _ (lines_local args at r k sc d left)
      (either (bytes_eq name (codes "print")) r _ _ _ _ (written_local Plain [] args at r k sc d left)
      (either (bytes_eq name (codes "p")) r _ _ _ _ (written_local (Inspecting args) [] args at r k sc d left) refl))

  top_level_local : (m : Option Method) (name : NameId) (args : List Value) (at : Span) (r k : List Cont) (sc : Scope) (d left : ℕ) → top_level S m name args at (k ++ r) sc d left ≡ onto r (top_level S m name args at k sc d left)
  top_level_local (Some m) name args at r k sc d left = enter_local m Nil args at r k sc d left
  top_level_local None name args at r k sc d left = print_local (text_of S name) args at r k sc d left

  own_local : (m : Option Method) (name : NameId) (args : List Value) (at : Span) (r k : List Cont) (sc : Scope) (d left : ℕ) → own S m name args at (k ++ r) sc d left ≡ onto r (own S m name args at k sc d left)
  own_local (Some m) name args at r k sc d left = enter_local m sc.me args at r k sc d left
  own_local None name args at r k sc d left = top_level_local (named S name S.program.functions) name args at r k sc d left

  fill_local : (count v : Value) (at : Span) (r k : List Cont) (sc : Scope) (d left : ℕ) → fill S count v at (k ++ r) sc d left ≡ onto r (fill S count v at k sc d left)
  fill_local (Int (pos n)) v at r k sc d left = either (nat_le n max_elements) r _ _ _ _ refl refl
  fill_local (Int (negsuc n)) v at r k sc d left = refl
  fill_local count v at r k sc d left = refl

  array_local : (args : List Value) (at : Span) (r k : List Cont) (sc : Scope) (d left : ℕ) → new_array S args at (k ++ r) sc d left ≡ onto r (new_array S args at k sc d left)
  array_local [] at r k sc d left = refl
  array_local (count ∷ []) at r k sc d left = fill_local count Nil at r k sc d left
  array_local (count ∷ v ∷ []) at r k sc d left = fill_local count v at r k sc d left
  array_local (count ∷ v ∷ w ∷ vs) at r k sc d left = refl

  hash_local : (args : List Value) (at : Span) (r k : List Cont) (sc : Scope) (d left : ℕ) → new_hash S args at (k ++ r) sc d left ≡ onto r (new_hash S args at k sc d left)
  hash_local [] at r k sc d left = refl
  hash_local (v ∷ vs) at r k sc d left = refl

  mutex_local : (args : List Value) (at : Span) (r k : List Cont) (sc : Scope) (d left : ℕ) → new_mutex S args at (k ++ r) sc d left ≡ onto r (new_mutex S args at k sc d left)
  mutex_local [] at r k sc d left = refl
  mutex_local (v ∷ vs) at r k sc d left = refl

  builtin_local : (name : Text) (args : List Value) (at : Span) (r k : List Cont) (sc : Scope) (d left : ℕ) → create_builtin S name args at (k ++ r) sc d left ≡ onto r (create_builtin S name args at k sc d left)
  builtin_local name args at r k sc d left =
      either (bytes_eq name (codes "Array")) r _ _ _ _ (array_local args at r k sc d left) (either (bytes_eq name (codes "Hash")) r _ _ _ _ (hash_local args at r k sc d left)
      (either (bytes_eq name (codes "Mutex")) r _ _ _ _ (mutex_local args at r k sc d left) refl))

  create_local : (class : Option ℕ) (name : NameId) (args : List Value) (at : Span) (r k : List Cont) (sc : Scope) (d left : ℕ) → create S class name args at (k ++ r) sc d left ≡ onto r (create S class name args at k sc d left)
  create_local (Some class) name args at r k sc d left = refl
  create_local None name args at r k sc d left = builtin_local (text_of S name) args at r k sc d left

  pair_local : (ps : List (Value × Value)) (at : Span) (r k : List Cont) (sc : Scope) (d left : ℕ) → pair_up S ps at (k ++ r) sc d left ≡ onto r (pair_up S ps at k sc d left)
  pair_local ps at r k sc d left = either (list_any (λ (p : Value × Value). is_collection p.0) ps) r _ _ _ _ refl refl

  initialized_local : (m : Option Method) (object : Value) (args : List Value) (at : Span) (r k : List Cont) (sc : Scope) (d left : ℕ) → initialized S m object args at (k ++ r) sc d left ≡ onto r (initialized S m object args at k sc d left)
  initialized_local (Some m) object args at r k sc d left = enter_local m object args at r (Then (Instead object) ∷ k) sc d left
  initialized_local None object [] at r k sc d left = refl
  initialized_local None object (v ∷ vs) at r k sc d left = refl

  start_local : (b : Option Block) (body : ℕ) (args : List Value) (at : Span) (r k : List Cont) (sc : Scope) (d left : ℕ) → start_body S b body args at (k ++ r) sc d left ≡ onto r (start_body S b body args at k sc d left)
  start_local (Some block) body args at r k sc d left = either (nat_eq (length args) (length block.params)) r _ _ _ _ refl refl
  start_local None body args at r k sc d left = refl

  pub perform_local : (aim : Aim) (args : List Value) (at : Span) (r k : List Cont) (sc : Scope) (d left : ℕ) → perform S aim args at (k ++ r) sc d left ≡ onto r (perform S aim args at k sc d left)
  perform_local (OnReceiver v name block) args at r k sc d left = invoke_local v name args block at r k sc d left
  perform_local (ByName name) args at r k sc d left = own_local (texted S (text_of S name) (methods_of S sc.me)) name args at r k sc d left
  perform_local (Storing v name) args at r k sc d left = invoke_local v name args None at r (Then (Instead (last_value S args)) ∷ k) sc d left
  perform_local (Creating class) args at r k sc d left = create_local (class_from S 0 class S.program.classes) class args at r k sc d left
  perform_local Listing args at r k sc d left = refl
  perform_local (Threading body) args at r k sc d left = start_local (slice_get S.program.bodies body) body args at r k sc d left
  perform_local Pairing args at r k sc d left = pair_local (pairs_of S args) at r k sc d left

  read_local : (place : Place) (o : AssignOp) (value : Node) (at : Span) (r k : List Cont) (sc : Scope) (d left : ℕ) → read_place S place o value at (k ++ r) sc d left ≡ onto r (read_place S place o value at k sc d left)
  read_local (OfLocal name) o value at r k sc d left = refl
  read_local (OfField name) o value at r k sc d left = ask_of_local sc.me (GetField name) at r (Then (ReadOf (OfField name) o value at) ∷ k) sc d left
  read_local (OfGlobal name) o value at r k sc d left = refl
  read_local (OfElement v index) o value at r k sc d left = invoke_local v (codes "[]") (index ∷ []) None at r (Then (ReadOf (OfElement v index) o value at) ∷ k) sc d left
  read_local (OfAttribute v name) o value at r k sc d left = invoke_local v name [] None at r (Then (ReadOf (OfAttribute v name) o value at) ∷ k) sc d left

  decide_local : (v : Value) (place : Place) (o : AssignOp) (value : Node) (at : Span) (r k : List Cont) (sc : Scope) (d left : ℕ) → decide S v place o value at (k ++ r) sc d left ≡ onto r (decide S v place o value at k sc d left)
  decide_local v place op.OrElse value at r k sc d left = either (truthy v) r _ _ _ _ refl refl
  decide_local v place op.AndThen value at r k sc d left = either (truthy v) r _ _ _ _ refl refl
  decide_local v place op.Plus value at r k sc d left = refl
  decide_local v place op.Minus value at r k sc d left = refl
  decide_local v place op.Times value at r k sc d left = refl
  decide_local v place op.Over value at r k sc d left = refl
  decide_local v place op.Modulo value at r k sc d left = refl

  write_local : (v : Value) (place : Place) (at : Span) (r k : List Cont) (sc : Scope) (d left : ℕ) → write_place S v place at (k ++ r) sc d left ≡ onto r (write_place S v place at k sc d left)
  write_local v (OfLocal name) at r k sc d left = refl
  write_local v (OfField name) at r k sc d left = ask_of_local sc.me (SetField name v) at r (Then (Instead v) ∷ k) sc d left
  write_local v (OfGlobal name) at r k sc d left = refl
  write_local v (OfElement w index) at r k sc d left = invoke_local w (codes "[]=") (index ∷ v ∷ []) None at r (Then (Instead v) ∷ k) sc d left
  write_local v (OfAttribute w name) at r k sc d left = invoke_local w (name ++ codes "=") (v ∷ []) None at r (Then (Instead v) ∷ k) sc d left

  join_local : (bytes more : List ℕ) (pieces : List Piece) (at : Span) (r k : List Cont) (sc : Scope) (d left : ℕ) → join bytes more pieces at (k ++ r) sc d left ≡ onto r (join bytes more pieces at k sc d left)
  join_local bytes more pieces at r k sc d left = either (nat_lt max_bytes (length (bytes ++ more))) r _ _ _ _ refl refl

  pub piece_local : (f : Piece-F Node Piece Target Block) (bytes : List ℕ) (ps : List Piece) (at : Span) (r k : List Cont) (sc : Scope) (d left : ℕ) → join_piece S f bytes ps at (k ++ r) sc d left ≡ onto r (join_piece S f bytes ps at k sc d left)
  piece_local (node.Text more) bytes ps at r k sc d left = join_local bytes more ps at r k sc d left
  piece_local (node.Code code) bytes ps at r k sc d left = refl

  give_step_local : (v : Value) (step : Step) (r k : List Cont) (sc : Scope) (d left : ℕ) → give_step S v step (k ++ r) sc d left ≡ onto r (give_step S v step k sc d left)
  give_step_local v (AssignTo name) r k sc d left = refl
  give_step_local v (FieldTo name at) r k sc d left = ask_of_local sc.me (SetField name v) at r (Then (Instead v) ∷ k) sc d left
  give_step_local v (GlobalTo name at) r k sc d left = refl
  give_step_local v (Rest nodes) r k sc d left = refl
  give_step_local v (Choose first second) r k sc d left = refl
  give_step_local v (RightOfAnd right) r k sc d left = either (truthy v) r _ _ _ _ refl refl
  give_step_local v (RightOfOr right) r k sc d left = either (truthy v) r _ _ _ _ refl refl
  give_step_local v Negate r k sc d left = refl
  give_step_local v ReturnOf r k sc d left = refl
  give_step_local v (ReceiverOf name args block at) r k sc d left = refl
  give_step_local v (ReceiverToStore name args at) r k sc d left = refl
  give_step_local v (Argument aim done rest at) r k sc d left = refl
  give_step_local v (Instead w) r k sc d left = refl
  give_step_local v (Create thing) r k sc d left = refl
  give_step_local v (Initialize args at) r k sc d left = initialized_local (texted S (codes "initialize") (methods_of S v)) v args at r k sc d left
  give_step_local v (PieceOf bytes pieces at) r k sc d left = give_text_local v at r (Then (JoinTo bytes pieces at) ∷ k) sc d left
  give_step_local v (JoinTo bytes pieces at) r k sc d left = join_local bytes (bytes_of S v) pieces at r k sc d left
  give_step_local v (WriteBehind style bytes values at) r k sc d left = behind_local style bytes (bytes_of S v) values at r k sc d left
  give_step_local v (LinesBehind bytes values at) r k sc d left = array_lines_local bytes (bytes_of S v) values at r k sc d left
  give_step_local v (LineOf t at) r k sc d left = going_local (with_line t (bytes_of S v)) at r k sc d left
  give_step_local v IsZero r k sc d left = refl
  give_step_local v (ElementBelow array next walk block at) r k sc d left = next_element_local v array next walk block at r k sc d left
  give_step_local v (WithElement array next walk block at) r k sc d left = turn_started (Walking array (suc next) (holding v walk) at) (given v next walk) block r k sc d left
  give_step_local v (Locked mutex block at) r k sc d left = owning_started mutex block at r k sc d left
  give_step_local v (TextOf object) r k sc d left = refl
  give_step_local v (IndexedBy index o value at) r k sc d left = refl
  give_step_local v (MemberOf name o value at) r k sc d left = read_local (OfAttribute v name) o value at r k sc d left
  give_step_local v (IndexOf w o value at) r k sc d left = read_local (OfElement w v) o value at r k sc d left
  give_step_local v (ReadOf place o value at) r k sc d left = decide_local v place o value at r k sc d left
  give_step_local v (RightOf current o at) r k sc d left = invoke_local current (operator S o) (v ∷ []) None at r k sc d left
  give_step_local v (WriteTo place at) r k sc d left = write_local v place at r k sc d left

  pub give_local : (v : Value) (c : Cont) (r k : List Cont) (sc : Scope) (d left : ℕ) → give S v c (k ++ r) sc d left ≡ onto r (give S v c k sc d left)
  give_local v (Then step) r k sc d left = give_step_local v step r k sc d left
  give_local v (Under depth) r k sc d left = refl
  give_local v (Test condition body) r k sc d left = either (truthy v) r _ _ _ _ refl refl
  give_local v (Again condition body) r k sc d left = refl
  give_local v (Turn turns block kept) r k sc d left = refl
  give_local v (Owning mutex block at kept) r k sc d left = refl
  give_local v (Frame saved) r k sc d left = refl

  begin_call_local : (receiver : Option Node) (name : NameId) (args : List Node) (block : Option Block) (at : Span) (r k : List Cont) (sc : Scope) (d left : ℕ) → begin_call S receiver name args block at (k ++ r) sc d left ≡ onto r (begin_call S receiver name args block at k sc d left)
  begin_call_local None name args block at r k sc d left = refl
  begin_call_local (Some receiver) name args block at r k sc d left = refl

  begin_target_local : (f : Target-F Node Piece Target Block) (o : AssignOp) (value : Node) (at : Span) (r k : List Cont) (sc : Scope) (d left : ℕ) → begin_target S f o value at (k ++ r) sc d left ≡ onto r (begin_target S f o value at k sc d left)
  begin_target_local (node.«Target::Local» name) o value at r k sc d left = refl
  begin_target_local (node.«Target::Field» name) o value at r k sc d left = read_local (OfField name) o value at r k sc d left
  begin_target_local (node.«Target::Global» name) o value at r k sc d left = refl
  begin_target_local (node.Index receiver index) o value at r k sc d left = refl
  begin_target_local (node.Attribute receiver name) o value at r k sc d left = refl

  begin_return_local : (value : Option Node) (r k : List Cont) (sc : Scope) (d left : ℕ) → begin_return S value (k ++ r) sc d left ≡ onto r (begin_return S value k sc d left)
  begin_return_local None r k sc d left = refl
  begin_return_local (Some value) r k sc d left = refl

  pub begin_local : (f : NodeLayer) (r k : List Cont) (sc : Scope) (d left : ℕ) → begin S f (k ++ r) sc d left ≡ onto r (begin S f k sc d left)
  begin_local (node.«Node::Field» name at) r k sc d left = ask_of_local sc.me (GetField name) at r k sc d left
  begin_local (node.OpAssign target o value at) r k sc d left = begin_target_local (out-Target target) o value at r k sc d left
  begin_local (node.Call receiver name args block at) r k sc d left = begin_call_local receiver name args block at r k sc d left
  begin_local (node.Return value at) r k sc d left = begin_return_local value r k sc d left
  begin_local other r k sc d left = refl

pub leave_local : (e : Exit) (c : Cont) (r k : List Cont) (sc : Scope) (d left : ℕ) → leave e c (k ++ r) sc d left ≡ onto r (leave e c k sc d left)
leave_local e (Then step) r k sc d left = refl
leave_local e (Under depth) r k sc d left = refl
leave_local Break (Test condition body) r k sc d left = refl
leave_local Next (Test condition body) r k sc d left = refl
leave_local (Return v) (Test condition body) r k sc d left = refl
leave_local Break (Again condition body) r k sc d left = refl
leave_local Next (Again condition body) r k sc d left = refl
leave_local (Return v) (Again condition body) r k sc d left = refl
leave_local Break (Owning mutex block at kept) r k sc d left = refl
leave_local Next (Owning mutex block at kept) r k sc d left = refl
leave_local (Return v) (Owning mutex block at kept) r k sc d left = refl
leave_local Break (Turn turns block kept) r k sc d left = refl
leave_local Next (Turn turns block kept) r k sc d left = refl
leave_local (Return v) (Turn turns block kept) r k sc d left = refl
leave_local Break (Frame saved) r k sc d left = refl
leave_local Next (Frame saved) r k sc d left = refl
leave_local (Return v) (Frame saved) r k sc d left = refl

answer_local : (a : Reply) (at : Span) (r k : List Cont) (sc : Scope) (d left : ℕ) → move.answered a at (k ++ r) sc d left ≡ onto r (move.answered a at k sc d left)
answer_local (reply.Value v) at r k sc d left = refl
answer_local (reply.Elements vs) at r k sc d left = refl
answer_local (reply.Pairs ps) at r k sc d left = refl
answer_local reply.Done at r k sc d left = refl
answer_local (reply.Started number thread) at r k sc d left = refl
answer_local (reply.Ended (ending.Value v)) at r k sc d left = refl
answer_local (reply.Ended (ending.Raised f p)) at r k sc d left = refl
answer_local (reply.Ended ending.Steps) at r k sc d left = refl
answer_local (reply.Ended (ending.Full a b)) at r k sc d left = refl
answer_local (reply.Ended ending.Sink) at r k sc d left = refl
answer_local (reply.Ended ending.Memory) at r k sc d left = refl
answer_local (reply.Failed f) at r k sc d left = refl

used_local : (purpose : Use) (thing : Reference) (a : Reply) (at : Span) (r k : List Cont) (sc : Scope) (d left : ℕ) → move.used purpose thing a at (k ++ r) sc d left ≡ onto r (move.used purpose thing a at k sc d left)
used_local Keys thing (reply.Pairs ps) at r k sc d left = refl
used_local Values thing (reply.Pairs ps) at r k sc d left = refl
used_local (ForEach answer block) thing (reply.Pairs ps) at r k sc d left = refl
used_local (ForText t) thing (reply.Elements vs) at r k sc d left = going_local (opened t thing (reply.Elements vs)) at r k sc d left
used_local (ForText t) thing (reply.Pairs ps) at r k sc d left = going_local (opened t thing (reply.Pairs ps)) at r k sc d left
used_local purpose thing a at r k sc d left = answer_local a at r k sc d left

-- a reply is taken in the same way
pub replied_local : (s : State) (a : Reply) (r : List Cont) → move.replied (onto r s) a ≡ onto r (move.replied s a)
replied_local (On (Making thing) k sc d left) a r = answer_local a _ r k sc d left
replied_local (On (Calling thing act at) k sc d left) a r = answer_local a at r k sc d left
replied_local (On (Reading thing purpose at) k sc d left) a r = used_local purpose thing a at r k sc d left
replied_local (On (Starting body values at) k sc d left) a r = answer_local a _ r k sc d left
replied_local (On (Showing bytes) k sc d left) a r = refl
replied_local (On (Drafting t at) k sc d left) a r = refl
replied_local (On (Ended how) k sc d left) a r = refl
replied_local (On (Eval n) k sc d left) a r = refl
replied_local (On (Give v) k sc d left) a r = refl
replied_local (On (Leave e) k sc d left) a r = refl
replied_local (On (Following v ns) k sc d left) a r = refl
replied_local (On (Looping condition body) k sc d left) a r = refl
replied_local (On (Turning turns block) k sc d left) a r = refl
replied_local (On (Passing aim done ns at) k sc d left) a r = refl
replied_local (On (Joining bytes ps at) k sc d left) a r = refl
