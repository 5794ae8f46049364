-- The work that is left where no step begins: how much each part of the machine leaves.
use Rattle.std.proofs.Common.{◌≡◌, ◌≤◌, ℕ, ◌+◌, ◌*◌, Bool, true, false, cond, List, [], ◌∷◌, ◌++◌, Option, Some, None, length, refl, arith}
use Rattle.std.specs.Prelude.{slice_get, pos, negsuc, nat_lt, nat_le, nat_eq, codes}
use Rattle.std.specs.List.{list_any}
use Rattle.std.specs.Str.{bytes_eq}
use Rattle.std.proofs.lemmas.List.{length-append}
use Rattle.rb_tree.specs.declared.span.Span.{Span}
use Rattle.rb_tree.specs.declared.span.NameId.{NameId}
use Rattle.rb_tree.specs.declared.node.AssignOp.{AssignOp}
use Rattle.rb_tree.specs.declared.node.AssignOp.TheVariants as op
use Rattle.rb_tree.specs.declared.node.Node.{Node}
use Rattle.rb_tree.specs.declared.node.Piece.{Piece}
use Rattle.rb_tree.specs.declared.node.Block.{Block}
use Rattle.rb_tree.specs.declared.node.Method.{Method}
use Rattle.rb_model.specs.Values.{Value, Nil, False, True, Int, Sym, Str, To, Reference, truthy}
use Rattle.rb_model.specs.Acts.{Act}
use Rattle.rb_model.specs.Things.{max_elements}
use Rattle.rb_machine.specs.Scopes.{Script, Text, Scope, text_of}
use Rattle.rb_machine.specs.Control.{State, Cont, Then, Under, Test, Again, Turn, Owning, Frame, Step, AssignTo, FieldTo, GlobalTo, Rest, Choose, RightOfAnd, RightOfOr, Negate, ReturnOf, ReceiverOf, ReceiverToStore, Argument, Instead, Create, Initialize, PieceOf, JoinTo, WriteBehind, LinesBehind, LineOf, TextOf, IsZero, ElementBelow, WithElement, Locked, IndexedBy, MemberOf, IndexOf, ReadOf, RightOf, WriteTo}
use Rattle.rb_machine.specs.Control.{Exit, Break, Next, Return, Aim, OnReceiver, ByName, Storing, Creating, Listing, Pairing, Threading, Place, OfLocal, OfField, OfGlobal, OfElement, OfAttribute, Walk, Each, WithIndex, Map, Select, Style, Lines, Plain, Inspecting, Draft}
use Rattle.rb_machine.specs.Methods.{Answer, Gives, Raises, Loops, LoopsOver, Asks, Reads, EachPairOf, Inspects, Synchronizes}
use Rattle.rb_machine.specs.Texts.{max_bytes, line_of, styled}
use Rattle.rb_machine.specs.Drafts.{with_line, is_collection, is_array}
use Rattle.rb_machine.specs.Call.{ask_of, going, named, texted, methods_of, params_of, invoked, top_level, own, last_value, enter, answered, invoke, show, value_of_p, value_of, text_by, own_text, give_text, give_inspected, give_line, give_styled, bytes_of, write, write_behind, write_lines, put_lines, print, perform, start_body, read_place, decide, write_place, fill, new_array, new_hash, new_mutex, create_builtin, create, class_from, initialized, pair_up, pairs_of}
use Rattle.rb_machine.specs.Turns.{is_below, next_element, finish}
use Rattle.rb_machine.specs.Give.{join, give_step, give, leave}
use Rattle.rb_machine.specs.Move.{left_in}
use Rattle.rb_machine.proofs.Weights.{weight, weights, step_weight, draft_weight, size}
use Rattle.rb_machine.proofs.Light.{Light, deed_light}

-- no step is taken, and no more than this is left to do
abbrev pub Within : ℕ → ℕ → State → Type 0
Within left bound s = (left_in s ≡ left) × (size s ≤ bound)

-- one of two states
pub one_of : (b : Bool) (left bound : ℕ) (s t : State) → Within left bound s → Within left bound t → Within left bound (cond b s t)
one_of true left bound s t p q = p
one_of false left bound s t p q = q

pub ask_of_within : (v : Value) (act : Act) (at : Span) (k : List Cont) (sc : Scope) (d left : ℕ) → Within left (3 + weights k) (ask_of v act at k sc d left)
ask_of_within (To thing) act at k sc d left = (refl, omega arith)
ask_of_within Nil act at k sc d left = (refl, omega arith)
ask_of_within False act at k sc d left = (refl, omega arith)
ask_of_within True act at k sc d left = (refl, omega arith)
ask_of_within (Int n) act at k sc d left = (refl, omega arith)
ask_of_within (Sym name) act at k sc d left = (refl, omega arith)
ask_of_within (Str bytes) act at k sc d left = (refl, omega arith)

-- a bound may be wider
pub wider : (left a b : ℕ) (s : State) → a ≤ b → Within left a s → Within left b s
wider left a b s h w = (w.0, omega (arith, h, w.1))

-- a text that goes on has less to do, or was too long
pub going_within : (b : Bool) (t : Draft) (at : Span) (k : List Cont) (sc : Scope) (d left : ℕ) → Within left (3 + draft_weight t + weights k) (going (cond b (Some t) None) at k sc d left)
going_within true t at k sc d left = (refl, omega arith)
going_within false t at k sc d left = (refl, omega arith)

-- a line joins a text
line_within : (t : Draft) (text : Text) (at : Span) (k : List Cont) (sc : Scope) (d left : ℕ) → Within left (3 + length t.begun + weights k) (going (with_line t text) at k sc d left)
line_within t text at k sc d left = wider left _ _ _ (omega arith) (going_within (nat_le (length (t.bytes ++ line_of text)) max_bytes) _ at k sc d left)

finish_within : (array : Reference) (walk : Walk) (k : List Cont) (sc : Scope) (d left : ℕ) → Within left (3 + weights k) (finish array walk k sc d left)
finish_within array Each k sc d left = (refl, omega arith)
finish_within array WithIndex k sc d left = (refl, omega arith)
finish_within array (Map values) k sc d left = (refl, omega arith)
finish_within array (Select kept current) k sc d left = (refl, omega arith)

element_within : (v : Value) (array : Reference) (next : ℕ) (walk : Walk) (block : Block) (at : Span) (k : List Cont) (sc : Scope) (d left : ℕ) → Within left (4 + weights k) (next_element v array next walk block at k sc d left)
element_within v array next walk block at k sc d left =
    one_of (is_below next v) left _ _ _ (refl, omega arith) (wider left _ _ _ (omega arith) (finish_within array walk k sc d left))

module _ (S : Script) where
  pub enter_within : (m : Method) (me : Value) (args : List Value) (at : Span) (k : List Cont) (sc : Scope) (d left : ℕ) → Within left (4 + weights k) (enter S m me args at k sc d left)
  enter_within m me args at k sc d left = one_of (nat_eq (length args) (length m.params)) left _ _ _ (refl, omega arith) (refl, omega arith)

  pub answered_within : (a : Answer) (block : Option Block) (at : Span) (k : List Cont) (sc : Scope) (d left : ℕ) → Light a → Within left (9 + weights k) (answered S a block at k sc d left)
  answered_within (Gives v) block at k sc d left h = (refl, omega arith)
  answered_within (Raises fault) block at k sc d left h = (refl, omega arith)
  answered_within (Loops turns) (Some block) at k sc d left h = (refl, omega arith)
  answered_within (Loops turns) None at k sc d left h = (refl, omega arith)
  answered_within (LoopsOver array walk) (Some block) at k sc d left h = (refl, omega arith)
  answered_within (LoopsOver array walk) None at k sc d left h = (refl, omega arith)
  answered_within (Asks thing act None) block at k sc d left h = (refl, omega arith)
  answered_within (Asks thing act (Some step)) block at k sc d left h = (refl, omega (arith, h))
  answered_within (Reads thing purpose) block at k sc d left h = (refl, omega (arith, h))
  answered_within (EachPairOf hash) (Some block) at k sc d left h = (refl, omega arith)
  answered_within (EachPairOf hash) None at k sc d left h = (refl, omega arith)
  answered_within (Inspects collection) block at k sc d left h = (refl, omega arith)
  answered_within (Synchronizes mutex) (Some block) at k sc d left h = (refl, omega arith)
  answered_within (Synchronizes mutex) None at k sc d left h = (refl, omega arith)

  pub invoked_within : (m : Option Method) (v : Value) (name : Text) (args : List Value) (block : Option Block) (at : Span) (k : List Cont) (sc : Scope) (d left : ℕ)
      → Within left (9 + weights k) (invoked S m v name args block at k sc d left)
  invoked_within (Some m) v name args None at k sc d left = wider left _ _ _ (omega arith) (enter_within m v args at k sc d left)
  invoked_within (Some m) v name args (Some block) at k sc d left = (refl, omega arith)
  invoked_within None v name args block at k sc d left = answered_within _ block at k sc d left (deed_light S.program v name args (params_of S block))

  pub invoke_within : (v : Value) (name : Text) (args : List Value) (block : Option Block) (at : Span) (k : List Cont) (sc : Scope) (d left : ℕ)
      → Within left (9 + weights k) (invoke S v name args block at k sc d left)
  invoke_within v name args block at k sc d left = invoked_within (texted S name (methods_of S v)) v name args block at k sc d left

  pub show_within : (bytes : Text) (after : Step) (at : Span) (k : List Cont) (sc : Scope) (d left : ℕ) → step_weight after ≤ 2 → Within left (5 + weights k) (show S bytes after at k sc d left)
  show_within [] after at k sc d left h = (refl, omega (arith, h))
  show_within (b ∷ bs) after at k sc d left h = one_of (nat_lt max_bytes (length (b ∷ bs))) left _ _ _ (refl, omega arith) (refl, omega (arith, h))

  p_weighs : (vs : List Value) → step_weight (value_of_p S vs) ≤ 2
  p_weighs [] = omega arith
  p_weighs (v ∷ []) = omega arith
  p_weighs (v ∷ w ∷ vs) = omega arith

  value_weighs : (style : Style) → step_weight (value_of S style) ≤ 2
  value_weighs Lines = omega arith
  value_weighs Plain = omega arith
  value_weighs (Inspecting args) = p_weighs args

  inspected_within : (v : Value) (at : Span) (k : List Cont) (sc : Scope) (d left : ℕ) → Within left (9 + weights k) (give_inspected S v at k sc d left)
  inspected_within v at k sc d left = one_of (is_collection v) left _ _ _ (refl, omega arith) (refl, omega arith)

  text_by_within : (m : Option Method) (v : Value) (at : Span) (k : List Cont) (sc : Scope) (d left : ℕ) → Within left (9 + weights k) (text_by S m v at k sc d left)
  text_by_within (Some m) v at k sc d left = wider left _ _ _ (omega arith) (enter_within m v [] at (Then (TextOf v) ∷ k) sc d left)
  text_by_within None v at k sc d left = one_of (is_collection v) left _ _ _ (refl, omega arith) (refl, omega arith)

  pub give_text_within : (v : Value) (at : Span) (k : List Cont) (sc : Scope) (d left : ℕ) → Within left (9 + weights k) (give_text S v at k sc d left)
  give_text_within v at k sc d left = text_by_within (own_text S v) v at k sc d left

  -- each value that is left may be asked for its text, or for its lines
  line_of_within : (v : Value) (bytes : List ℕ) (vs : List Value) (at : Span) (k : List Cont) (sc : Scope) (d left : ℕ) → Within left (17 + 12 * length vs + weights k) (give_line S v bytes vs at k sc d left)
  line_of_within v bytes vs at k sc d left =
      one_of (is_array v) left _ _ _ (refl, omega arith) (wider left _ _ _ (omega arith) (give_text_within v at (Then (WriteBehind Lines bytes vs at) ∷ k) sc d left))

  styled_within : (style : Style) (v : Value) (bytes : List ℕ) (vs : List Value) (at : Span) (k : List Cont) (sc : Scope) (d left : ℕ) → Within left (17 + 12 * length vs + weights k) (give_styled S style v bytes vs at k sc d left)
  styled_within Lines v bytes vs at k sc d left = line_of_within v bytes vs at k sc d left
  styled_within Plain v bytes vs at k sc d left = wider left _ _ _ (omega arith) (give_text_within v at (Then (WriteBehind Plain bytes vs at) ∷ k) sc d left)
  styled_within (Inspecting args) v bytes vs at k sc d left = wider left _ _ _ (omega arith) (inspected_within v at (Then (WriteBehind (Inspecting args) bytes vs at) ∷ k) sc d left)

  pub written_within : (style : Style) (bytes : List ℕ) (vs : List Value) (at : Span) (k : List Cont) (sc : Scope) (d left : ℕ) → Within left (5 + 12 * length vs + weights k) (write S style bytes vs at k sc d left)
  written_within style bytes [] at k sc d left = wider left _ _ _ (omega arith) (show_within bytes (value_of S style) at k sc d left (value_weighs style))
  written_within style bytes (v ∷ vs) at k sc d left = wider left _ _ _ (omega arith) (styled_within style v bytes vs at k sc d left)

  behind_within : (style : Style) (bytes : List ℕ) (text : Text) (vs : List Value) (at : Span) (k : List Cont) (sc : Scope) (d left : ℕ)
      → Within left (5 + 12 * length vs + weights k) (write_behind S style bytes text vs at k sc d left)
  behind_within style bytes text vs at k sc d left =
      one_of (nat_lt max_bytes (length (bytes ++ styled style text))) left _ _ _ (refl, omega arith) (written_within style (bytes ++ styled style text) vs at k sc d left)

  array_lines_within : (bytes : List ℕ) (text : Text) (vs : List Value) (at : Span) (k : List Cont) (sc : Scope) (d left : ℕ) → Within left (5 + 12 * length vs + weights k) (write_lines S bytes text vs at k sc d left)
  array_lines_within bytes text vs at k sc d left = one_of (nat_lt max_bytes (length (bytes ++ text))) left _ _ _ (refl, omega arith) (written_within Lines (bytes ++ text) vs at k sc d left)

  lines_within : (args : List Value) (at : Span) (k : List Cont) (sc : Scope) (d left : ℕ) → Within left (5 + 12 * length args + weights k) (put_lines S args at k sc d left)
  lines_within [] at k sc d left = (refl, omega arith)
  lines_within (v ∷ vs) at k sc d left = written_within Lines [] (v ∷ vs) at k sc d left

  pub print_within : (name : Text) (args : List Value) (at : Span) (k : List Cont) (sc : Scope) (d left : ℕ) → Within left (5 + 12 * length args + weights k) (print S name args at k sc d left)
  print_within name args at k sc d left =
      one_of (bytes_eq name (codes "puts")) left _ _ _ (lines_within args at k sc d left)
      (one_of (bytes_eq name (codes "print")) left _ _ _ (written_within Plain [] args at k sc d left)
      (one_of (bytes_eq name (codes "p")) left _ _ _ (written_within (Inspecting args) [] args at k sc d left) (refl, omega arith)))

  pub top_level_within : (m : Option Method) (name : NameId) (args : List Value) (at : Span) (k : List Cont) (sc : Scope) (d left : ℕ) → Within left (5 + 12 * length args + weights k) (top_level S m name args at k sc d left)
  top_level_within (Some m) name args at k sc d left = wider left _ _ _ (omega arith) (enter_within m Nil args at k sc d left)
  top_level_within None name args at k sc d left = print_within (text_of S name) args at k sc d left

  pub own_within : (m : Option Method) (name : NameId) (args : List Value) (at : Span) (k : List Cont) (sc : Scope) (d left : ℕ) → Within left (5 + 12 * length args + weights k) (own S m name args at k sc d left)
  own_within (Some m) name args at k sc d left = wider left _ _ _ (omega arith) (enter_within m sc.me args at k sc d left)
  own_within None name args at k sc d left = top_level_within (named S name S.program.functions) name args at k sc d left

  fill_within : (count v : Value) (at : Span) (k : List Cont) (sc : Scope) (d left : ℕ) → Within left (3 + weights k) (fill S count v at k sc d left)
  fill_within (Int (pos n)) v at k sc d left = one_of (nat_le n max_elements) left _ _ _ (refl, omega arith) (refl, omega arith)
  fill_within (Int (negsuc n)) v at k sc d left = (refl, omega arith)
  fill_within count v at k sc d left = (refl, omega arith)

  array_within : (args : List Value) (at : Span) (k : List Cont) (sc : Scope) (d left : ℕ) → Within left (3 + weights k) (new_array S args at k sc d left)
  array_within [] at k sc d left = (refl, omega arith)
  array_within (count ∷ []) at k sc d left = fill_within count Nil at k sc d left
  array_within (count ∷ v ∷ []) at k sc d left = fill_within count v at k sc d left
  array_within (count ∷ v ∷ w ∷ vs) at k sc d left = (refl, omega arith)

  hash_within : (args : List Value) (at : Span) (k : List Cont) (sc : Scope) (d left : ℕ) → Within left (3 + weights k) (new_hash S args at k sc d left)
  hash_within [] at k sc d left = (refl, omega arith)
  hash_within (v ∷ vs) at k sc d left = (refl, omega arith)

  mutex_within : (args : List Value) (at : Span) (k : List Cont) (sc : Scope) (d left : ℕ) → Within left (3 + weights k) (new_mutex S args at k sc d left)
  mutex_within [] at k sc d left = (refl, omega arith)
  mutex_within (v ∷ vs) at k sc d left = (refl, omega arith)

  builtin_within : (name : Text) (args : List Value) (at : Span) (k : List Cont) (sc : Scope) (d left : ℕ) → Within left (3 + weights k) (create_builtin S name args at k sc d left)
  builtin_within name args at k sc d left =
      one_of (bytes_eq name (codes "Array")) left _ _ _ (array_within args at k sc d left)
      (one_of (bytes_eq name (codes "Hash")) left _ _ _ (hash_within args at k sc d left)
      (one_of (bytes_eq name (codes "Mutex")) left _ _ _ (mutex_within args at k sc d left) (refl, omega arith)))

  create_within : (class : Option ℕ) (name : NameId) (args : List Value) (at : Span) (k : List Cont) (sc : Scope) (d left : ℕ) → Within left (7 + weights k) (create S class name args at k sc d left)
  create_within (Some class) name args at k sc d left = (refl, omega arith)
  create_within None name args at k sc d left = wider left _ _ _ (omega arith) (builtin_within (text_of S name) args at k sc d left)

  pair_within : (ps : List (Value × Value)) (at : Span) (k : List Cont) (sc : Scope) (d left : ℕ) → Within left (3 + weights k) (pair_up S ps at k sc d left)
  pair_within ps at k sc d left = one_of (list_any (λ (p : Value × Value). is_collection p.0) ps) left _ _ _ (refl, omega arith) (refl, omega arith)

  initialized_within : (m : Option Method) (object : Value) (args : List Value) (at : Span) (k : List Cont) (sc : Scope) (d left : ℕ) → Within left (5 + weights k) (initialized S m object args at k sc d left)
  initialized_within (Some m) object args at k sc d left = wider left _ _ _ (omega arith) (enter_within m object args at (Then (Instead object) ∷ k) sc d left)
  initialized_within None object [] at k sc d left = (refl, omega arith)
  initialized_within None object (v ∷ vs) at k sc d left = (refl, omega arith)

  start_within : (b : Option Block) (body : ℕ) (args : List Value) (at : Span) (k : List Cont) (sc : Scope) (d left : ℕ) → Within left (3 + weights k) (start_body S b body args at k sc d left)
  start_within (Some block) body args at k sc d left = one_of (nat_eq (length args) (length block.params)) left _ _ _ (refl, omega arith) (refl, omega arith)
  start_within None body args at k sc d left = (refl, omega arith)

  pub perform_within : (aim : Aim) (args : List Value) (at : Span) (k : List Cont) (sc : Scope) (d left : ℕ) → Within left (10 + 12 * length args + weights k) (perform S aim args at k sc d left)
  perform_within (OnReceiver v name block) args at k sc d left = wider left _ _ _ (omega arith) (invoke_within v name args block at k sc d left)
  perform_within (ByName name) args at k sc d left = wider left _ _ _ (omega arith) (own_within (texted S (text_of S name) (methods_of S sc.me)) name args at k sc d left)
  perform_within (Storing v name) args at k sc d left = wider left _ _ _ (omega arith) (invoke_within v name args None at (Then (Instead (last_value S args)) ∷ k) sc d left)
  perform_within (Creating class) args at k sc d left = wider left _ _ _ (omega arith) (create_within (class_from S 0 class S.program.classes) class args at k sc d left)
  perform_within Listing args at k sc d left = (refl, omega arith)
  perform_within Pairing args at k sc d left = wider left _ _ _ (omega arith) (pair_within (pairs_of S args) at k sc d left)
  perform_within (Threading body) args at k sc d left = wider left _ _ _ (omega arith) (start_within (slice_get S.program.bodies body) body args at k sc d left)

  pub read_within : (place : Place) (o : AssignOp) (value : Node) (at : Span) (k : List Cont) (sc : Scope) (d left : ℕ) → Within left (10 + weights k) (read_place S place o value at k sc d left)
  read_within (OfLocal name) o value at k sc d left = (refl, omega arith)
  read_within (OfField name) o value at k sc d left = wider left _ _ _ (omega arith) (ask_of_within sc.me _ at (Then (ReadOf (OfField name) o value at) ∷ k) sc d left)
  read_within (OfGlobal name) o value at k sc d left = (refl, omega arith)
  read_within (OfElement v index) o value at k sc d left = wider left _ _ _ (omega arith) (invoke_within v _ _ None at (Then (ReadOf (OfElement v index) o value at) ∷ k) sc d left)
  read_within (OfAttribute v name) o value at k sc d left = wider left _ _ _ (omega arith) (invoke_within v name [] None at (Then (ReadOf (OfAttribute v name) o value at) ∷ k) sc d left)

  pub decide_within : (v : Value) (place : Place) (o : AssignOp) (value : Node) (at : Span) (k : List Cont) (sc : Scope) (d left : ℕ) → Within left (2 + weights k) (decide S v place o value at k sc d left)
  decide_within v place op.OrElse value at k sc d left = one_of (truthy v) left _ _ _ (refl, omega arith) (refl, omega arith)
  decide_within v place op.AndThen value at k sc d left = one_of (truthy v) left _ _ _ (refl, omega arith) (refl, omega arith)
  decide_within v place op.Plus value at k sc d left = (refl, omega arith)
  decide_within v place op.Minus value at k sc d left = (refl, omega arith)
  decide_within v place op.Times value at k sc d left = (refl, omega arith)
  decide_within v place op.Over value at k sc d left = (refl, omega arith)
  decide_within v place op.Modulo value at k sc d left = (refl, omega arith)

  pub write_within : (v : Value) (place : Place) (at : Span) (k : List Cont) (sc : Scope) (d left : ℕ) → Within left (10 + weights k) (write_place S v place at k sc d left)
  write_within v (OfLocal name) at k sc d left = (refl, omega arith)
  write_within v (OfField name) at k sc d left = wider left _ _ _ (omega arith) (ask_of_within sc.me _ at (Then (Instead v) ∷ k) sc d left)
  write_within v (OfGlobal name) at k sc d left = (refl, omega arith)
  write_within v (OfElement w index) at k sc d left = wider left _ _ _ (omega arith) (invoke_within w _ _ None at (Then (Instead v) ∷ k) sc d left)
  write_within v (OfAttribute w name) at k sc d left = wider left _ _ _ (omega arith) (invoke_within w _ _ None at (Then (Instead v) ∷ k) sc d left)

  pub join_within : (bytes more : List ℕ) (pieces : List Piece) (at : Span) (k : List Cont) (sc : Scope) (d left : ℕ) → Within left (3 + length pieces + weights k) (join bytes more pieces at k sc d left)
  join_within bytes more pieces at k sc d left = one_of (nat_lt max_bytes (length (bytes ++ more))) left _ _ _ (refl, omega arith) (refl, omega arith)

  -- a step that begins an iteration
  abbrev pub begins_turn : Step → Bool
  begins_turn (WithElement array next walk block at) = true
  begins_turn (Locked mutex block at) = true
  begins_turn other = false

  pub give_step_within : (v : Value) (step : Step) (k : List Cont) (sc : Scope) (d left : ℕ) → begins_turn step ≡ false → Within left (1 + step_weight step + weights k) (give_step S v step k sc d left)
  give_step_within v (AssignTo name) k sc d left h = (refl, omega arith)
  give_step_within v (FieldTo name at) k sc d left h = wider left _ _ _ (omega arith) (ask_of_within sc.me _ at (Then (Instead v) ∷ k) sc d left)
  give_step_within v (GlobalTo name at) k sc d left h = (refl, omega arith)
  give_step_within v (Rest nodes) k sc d left h = (refl, omega arith)
  give_step_within v (Choose first second) k sc d left h = (refl, omega arith)
  give_step_within v (RightOfAnd right) k sc d left h = one_of (truthy v) left _ _ _ (refl, omega arith) (refl, omega arith)
  give_step_within v (RightOfOr right) k sc d left h = one_of (truthy v) left _ _ _ (refl, omega arith) (refl, omega arith)
  give_step_within v Negate k sc d left h = (refl, omega arith)
  give_step_within v ReturnOf k sc d left h = (refl, omega arith)
  give_step_within v (ReceiverOf name args block at) k sc d left h = (refl, omega arith)
  give_step_within v (ReceiverToStore name args at) k sc d left h = (refl, omega arith)
  give_step_within v (Argument aim done rest at) k sc d left h = let e = length-append done (v ∷ []) in (refl, omega (arith, e))
  give_step_within v (Instead w) k sc d left h = (refl, omega arith)
  give_step_within v (Create thing) k sc d left h = (refl, omega arith)
  give_step_within v (Initialize args at) k sc d left h = initialized_within (texted S (codes "initialize") (methods_of S v)) v args at k sc d left
  give_step_within v (PieceOf bytes pieces at) k sc d left h = wider left _ _ _ (omega arith) (give_text_within v at (Then (JoinTo bytes pieces at) ∷ k) sc d left)
  give_step_within v (JoinTo bytes pieces at) k sc d left h = wider left _ _ _ (omega arith) (join_within bytes (bytes_of S v) pieces at k sc d left)
  give_step_within v (WriteBehind style bytes values at) k sc d left h = wider left _ _ _ (omega arith) (behind_within style bytes (bytes_of S v) values at k sc d left)
  give_step_within v (LinesBehind bytes values at) k sc d left h = wider left _ _ _ (omega arith) (array_lines_within bytes (bytes_of S v) values at k sc d left)
  give_step_within v (LineOf t at) k sc d left h = wider left _ _ _ (omega arith) (line_within t (bytes_of S v) at k sc d left)
  give_step_within v IsZero k sc d left h = (refl, omega arith)
  give_step_within v (ElementBelow array next walk block at) k sc d left h = element_within v array next walk block at k sc d left
  give_step_within v (WithElement array next walk block at) k sc d left h = absurd (cc)
  give_step_within v (Locked mutex block at) k sc d left h = absurd (cc)
  give_step_within v (TextOf object) k sc d left h = (refl, omega arith)
  give_step_within v (IndexedBy index o value at) k sc d left h = (refl, omega arith)
  give_step_within v (MemberOf name o value at) k sc d left h = read_within (OfAttribute v name) o value at k sc d left
  give_step_within v (IndexOf w o value at) k sc d left h = read_within (OfElement w v) o value at k sc d left
  give_step_within v (ReadOf place o value at) k sc d left h = decide_within v place o value at k sc d left
  give_step_within v (RightOf current o at) k sc d left h = invoke_within current _ _ None at k sc d left
  give_step_within v (WriteTo place at) k sc d left h = write_within v place at k sc d left

  abbrev pub begins_turn_at : Cont → Bool
  begins_turn_at (Then step) = begins_turn step
  begins_turn_at other = false

  pub give_within : (v : Value) (c : Cont) (k : List Cont) (sc : Scope) (d left : ℕ) → begins_turn_at c ≡ false → Within left (1 + weight c + weights k) (give S v c k sc d left)
  give_within v (Then step) k sc d left h = give_step_within v step k sc d left h
  give_within v (Under depth) k sc d left h = (refl, omega arith)
  give_within v (Test condition body) k sc d left h = one_of (truthy v) left _ _ _ (refl, omega arith) (refl, omega arith)
  give_within v (Again condition body) k sc d left h = (refl, omega arith)
  give_within v (Turn turns block kept) k sc d left h = (refl, omega arith)
  give_within v (Owning mutex block at kept) k sc d left h = (refl, omega arith)
  give_within v (Frame saved) k sc d left h = (refl, omega arith)

  pub leave_within : (e : Exit) (c : Cont) (k : List Cont) (sc : Scope) (d left : ℕ) → Within left (1 + weight c + weights k) (leave e c k sc d left)
  leave_within e (Then step) k sc d left = (refl, weighs step)
    where
      weighs : (step : Step) → 2 + weights k ≤ 1 + step_weight step + weights k
      weighs (AssignTo name) = omega arith
      weighs (FieldTo name at) = omega arith
      weighs (GlobalTo name at) = omega arith
      weighs (Rest nodes) = omega arith
      weighs (Choose first second) = omega arith
      weighs (RightOfAnd right) = omega arith
      weighs (RightOfOr right) = omega arith
      weighs Negate = omega arith
      weighs ReturnOf = omega arith
      weighs (ReceiverOf name args block at) = omega arith
      weighs (ReceiverToStore name args at) = omega arith
      weighs (Argument aim done rest at) = omega arith
      weighs (Instead w) = omega arith
      weighs (Create thing) = omega arith
      weighs (Initialize args at) = omega arith
      weighs (PieceOf bytes pieces at) = omega arith
      weighs (JoinTo bytes pieces at) = omega arith
      weighs (WriteBehind style bytes values at) = omega arith
      weighs (LinesBehind bytes values at) = omega arith
      weighs (LineOf t at) = omega arith
      weighs IsZero = omega arith
      weighs (ElementBelow array next walk block at) = omega arith
      weighs (WithElement array next walk block at) = omega arith
      weighs (Locked mutex block at) = omega arith
      weighs (TextOf object) = omega arith
      weighs (IndexedBy index o value at) = omega arith
      weighs (MemberOf name o value at) = omega arith
      weighs (IndexOf w o value at) = omega arith
      weighs (ReadOf place o value at) = omega arith
      weighs (RightOf current o at) = omega arith
      weighs (WriteTo place at) = omega arith
  leave_within e (Under depth) k sc d left = (refl, omega arith)
  leave_within Break (Test condition body) k sc d left = (refl, omega arith)
  leave_within Next (Test condition body) k sc d left = (refl, omega arith)
  leave_within (Return v) (Test condition body) k sc d left = (refl, omega arith)
  leave_within Break (Again condition body) k sc d left = (refl, omega arith)
  leave_within Next (Again condition body) k sc d left = (refl, omega arith)
  leave_within (Return v) (Again condition body) k sc d left = (refl, omega arith)
  leave_within Break (Owning mutex block at kept) k sc d left = (refl, omega arith)
  leave_within Next (Owning mutex block at kept) k sc d left = (refl, omega arith)
  leave_within (Return v) (Owning mutex block at kept) k sc d left = (refl, omega arith)
  leave_within Break (Turn turns block kept) k sc d left = (refl, omega arith)
  leave_within Next (Turn turns block kept) k sc d left = (refl, omega arith)
  leave_within (Return v) (Turn turns block kept) k sc d left = (refl, omega arith)
  leave_within Break (Frame saved) k sc d left = (refl, omega arith)
  leave_within Next (Frame saved) k sc d left = (refl, omega arith)
  leave_within (Return v) (Frame saved) k sc d left = (refl, omega arith)
