-- The names in scope follow the text of the script; and an end for want of steps has none left.
use Rattle.std.proofs.Common.{◌≡◌, ℕ, zero, suc, ◌+◌, Bool, true, false, cond, List, [], ◌∷◌, ◌++◌, take, Option, Some, None, length, refl, sym, ap, ◌∙◌, subst}
use Rattle.std.specs.Prelude.{slice_get, pos, negsuc, nat_lt, nat_le, nat_eq, int_lt, codes, ◌==◌}
use Rattle.std.specs.List.{list_any}
use Rattle.std.specs.Option.{is_some}
use Rattle.std.specs.Str.{bytes_eq}
use Rattle.std.proofs.lemmas.List.{map-append, take-map, length-map}
use Rattle.std.proofs.Math.Seq.{take-append_seam}
use Rattle.rb_tree.specs.declared.span.Span.{Span}
use Rattle.rb_tree.specs.declared.span.NameId.{NameId}
use Rattle.rb_tree.specs.declared.node.AssignOp.{AssignOp}
use Rattle.rb_tree.specs.declared.node.AssignOp.TheVariants as op
use Rattle.rb_tree.specs.declared.node.Node.{Node, out-Node}
use Rattle.rb_tree.specs.declared.node.Piece.{Piece}
use Rattle.rb_tree.specs.declared.node.Target.{Target, out-Target}
use Rattle.rb_tree.specs.declared.node.Block.{Block}
use Rattle.rb_tree.specs.declared.node.Method.{Method}
use Rattle.rb_tree.specs.declared.node.Node.TheOpen.{Piece-F, Target-F}
use Rattle.rb_tree.specs.declared.node.Node.TheOpen as node
use Rattle.rb_tree.specs.Layer.{NodeLayer}
use Rattle.rb_tree.specs.Place.{place}
use Rattle.rb_model.specs.declared.fault.Fault.{Fault}
use Rattle.rb_model.specs.declared.fault.Fault.TheVariants.{TooDeep}
use Rattle.rb_model.specs.Values.{Value, Nil, False, True, Int, Sym, Str, To, Reference, truthy}
use Rattle.rb_model.specs.Things.{max_elements}
use Rattle.rb_model.specs.Acts.{Act, GetField, SetField}
use Rattle.rb_model.specs.Ends.{Steps}
use Rattle.rb_machine.specs.Scopes.{Script, Text, Scope, Locals, text_of, found, assign, fresh, with_locals}
use Rattle.rb_machine.specs.Control.{State, On, Cont, Then, Under, Test, Again, Turn, Owning, Frame, Step, AssignTo, FieldTo, GlobalTo, Rest, Choose, RightOfAnd, RightOfOr, Negate, ReturnOf, ReceiverOf, ReceiverToStore, Argument, Instead, Create, Initialize, PieceOf, JoinTo, WriteBehind, LinesBehind, LineOf, TextOf, IsZero, ElementBelow, WithElement, Locked, IndexedBy, MemberOf, IndexOf, ReadOf, RightOf, WriteTo}
use Rattle.rb_machine.specs.Control.{Ended, Exit, Break, Next, Return, Aim, OnReceiver, ByName, Storing, Creating, Listing, Pairing, Threading, Place, OfLocal, OfField, OfGlobal, OfElement, OfAttribute, Walk, Each, WithIndex, Map, Select, Turns, Counting, Walking, EachPair, Style, Lines, Plain, Inspecting, Draft, max_depth}
use Rattle.rb_machine.specs.Methods.{Answer, Gives, Raises, Loops, LoopsOver, Asks, Reads, EachPairOf, Inspects, Synchronizes, deed}
use Rattle.rb_machine.specs.Texts.{max_bytes, styled}
use Rattle.rb_machine.specs.Drafts.{Needs, Goes, Finished, Element, Copies, with_line, opened, is_collection, is_array}
use Rattle.rb_machine.specs.Drafts as draft
use Rattle.rb_machine.specs.Call.{raised, ask_of, going, start_element, drafted, named, texted, methods_of, params_of, invoked, top_level, own, last_value, enter, answered, invoke, operator, show, value_of, text_by, own_text, give_text, give_inspected, give_line, give_styled, bytes_of, write, write_behind, write_lines, put_lines, print, perform, start_body, read_place, decide, write_place, fill, new_array, new_hash, new_mutex, create_builtin, create, class_from, initialized, pair_up, pairs_of}
use Rattle.rb_machine.specs.Begin.{begin, begin_call, begin_target, begin_return}
use Rattle.rb_machine.specs.Turns.{is_below, next_element, finish, start_turn, start_owning, turn, holding, given}
use Rattle.rb_machine.specs.Give.{back, join, give_step, give, leave}
use Rattle.rb_machine.specs.Move.{start_node, join_piece}
use Rattle.rb_machine.specs.Laws.{names_in, AreInScope}

-- ---- names

pub names_in-fresh : (ns : List NameId) (vs : List Value) → names_in (fresh ns vs) ≡ ns
names_in-fresh [] vs = refl
names_in-fresh (n ∷ ns) [] = ap (λ l. n ∷ l) (names_in-fresh ns [])
names_in-fresh (n ∷ ns) (v ∷ vs) = ap (λ l. n ∷ l) (names_in-fresh ns vs)

names_in-cond : (s t : Bool) (xs ys zs : Locals) (names : List NameId) → names_in xs ≡ names → names_in ys ≡ names → names_in zs ≡ names → names_in (cond s xs (cond t ys zs)) ≡ names
names_in-cond true t xs ys zs names p q r = p
names_in-cond false true xs ys zs names p q r = q
names_in-cond false false xs ys zs names p q r = r

names_in-assign : (name : NameId) (v : Value) (locals : Locals) → names_in (assign name v locals) ≡ names_in locals
names_in-assign name v [] = refl
names_in-assign name v (b ∷ bs) =
    names_in-cond (is_some (found name bs)) (b.0.0 == name.0) (b ∷ assign name v bs) ((b.0, v) ∷ bs) (b ∷ bs) (names_in (b ∷ bs)) (ap (λ l. b.0 ∷ l) (names_in-assign name v bs)) refl refl

pub names_in-take : (outer own : List NameId) (locals : Locals) (kept : ℕ) → names_in locals ≡ outer ++ own → kept ≡ length outer → names_in (take kept locals) ≡ outer
names_in-take outer own locals kept e h = sym (take-map (λ (b : NameId × Value). b.0) kept locals) ∙ (ap (take kept) e ∙ (ap (λ n. take n (outer ++ own)) h ∙ take-append_seam outer own))

-- ---- states

module _ (S : Script) where
  -- a state whose names are in scope; or an end, which has no steps left where it is for want of them
  abbrev pub Sound : State → Type 0
  Sound (On (Ended how) k sc d left) = how ≡ Steps → left ≡ 0
  Sound (On c k sc d left) = AreInScope S k (names_in sc.locals)

  abbrev Inside : List Cont → Scope → Type 0
  Inside k sc = AreInScope S k (names_in sc.locals)

  pub raised_sound : (fault : Fault) (at : Span) (left : ℕ) → Sound (raised fault at left)
  raised_sound fault at left e = absurd (cc)

  either_sound : (b : Bool) (s t : State) → Sound s → Sound t → Sound (cond b s t)
  either_sound true s t p q = p
  either_sound false s t p q = q

  ask_of_sound : (v : Value) (act : Act) (at : Span) (k : List Cont) (sc : Scope) (d left : ℕ) → Inside k sc → Sound (ask_of v act at k sc d left)
  ask_of_sound (To thing) act at k sc d left h = h
  ask_of_sound Nil act at k sc d left h = raised_sound _ at left
  ask_of_sound False act at k sc d left h = raised_sound _ at left
  ask_of_sound True act at k sc d left h = raised_sound _ at left
  ask_of_sound (Int n) act at k sc d left h = raised_sound _ at left
  ask_of_sound (Sym name) act at k sc d left h = raised_sound _ at left
  ask_of_sound (Str bytes) act at k sc d left h = raised_sound _ at left

  pub going_sound : (o : Option Draft) (at : Span) (k : List Cont) (sc : Scope) (d left : ℕ) → Inside k sc → Sound (going o at k sc d left)
  going_sound (Some t) at k sc d left h = h
  going_sound None at k sc d left h = raised_sound _ at left

  element_sound : (t : Draft) (at : Span) (k : List Cont) (sc : Scope) (d left : ℕ) → Inside k sc → Sound (start_element t at k sc d left)
  element_sound t at k sc d zero h = λ e. refl
  element_sound t at k sc d (suc left) h = h

  finish_sound : (array : Reference) (walk : Walk) (k : List Cont) (sc : Scope) (d left : ℕ) → Inside k sc → Sound (finish array walk k sc d left)
  finish_sound array Each k sc d left h = h
  finish_sound array WithIndex k sc d left h = h
  finish_sound array (Map values) k sc d left h = h
  finish_sound array (Select kept current) k sc d left h = h

  next_element_sound : (v : Value) (array : Reference) (next : ℕ) (walk : Walk) (block : Block) (at : Span) (k : List Cont) (sc : Scope) (d left : ℕ) → Inside k sc → Sound (next_element v array next walk block at k sc d left)
  next_element_sound v array next walk block at k sc d left h = either_sound (is_below next v) _ _ h (finish_sound array walk k sc d left h)

  turn_started : (later : Turns) (values : List Value) (block : Block) (k : List Cont) (sc : Scope) (d left : ℕ) → Inside k sc → Sound (start_turn S later values block k sc d left)
  turn_started later values block k sc d zero h = λ e. refl
  turn_started later values block k sc d (suc left) h =
      let own_locals = fresh (S.block_names block.at) (take (length block.params) values) in (
        names_in sc.locals,
        map-append (λ (b : NameId × Value). b.0) sc.locals own_locals ∙ ap (λ l. names_in sc.locals ++ l) (names_in-fresh (S.block_names block.at) _),
        sym (length-map sc.locals (λ (b : NameId × Value). b.0)),
        h,
      )

  owning_started : (mutex : Reference) (block : Block) (at : Span) (k : List Cont) (sc : Scope) (d left : ℕ) → Inside k sc → Sound (start_owning S mutex block at k sc d left)
  owning_started mutex block at k sc d zero h = λ e. refl
  owning_started mutex block at k sc d (suc left) h = (
    names_in sc.locals,
    map-append (λ (b : NameId × Value). b.0) sc.locals (fresh (S.block_names block.at) []) ∙ ap (λ l. names_in sc.locals ++ l) (names_in-fresh (S.block_names block.at) []),
    sym (length-map sc.locals (λ (b : NameId × Value). b.0)),
    h,
  )

  pub turn_sound : (turns : Turns) (block : Block) (k : List Cont) (sc : Scope) (d left : ℕ) → Inside k sc → Sound (turn S turns block k sc d left)
  turn_sound (Counting next last answer) block k sc d left h = either_sound (int_lt next last) _ _ (turn_started _ _ block k sc d left h) h
  turn_sound (Walking array next walk at) block k sc d left h = h
  turn_sound (EachPair [] answer) block k sc d left h = h
  turn_sound (EachPair (p ∷ ps) answer) block k sc d left h = turn_started _ _ block k sc d left h

  enter_sound : (m : Method) (me : Value) (args : List Value) (at : Span) (k : List Cont) (sc : Scope) (d left : ℕ) → Inside k sc → Sound (enter S m me args at k sc d left)
  enter_sound m me args at k sc d left h = either_sound (nat_eq (length args) (length m.params)) _ _ (m, names_in-fresh (S.method_names m) args, h) (raised_sound _ at left)

  answered_sound : (a : Answer) (block : Option Block) (at : Span) (k : List Cont) (sc : Scope) (d left : ℕ) → Inside k sc → Sound (answered S a block at k sc d left)
  answered_sound (Gives v) block at k sc d left h = h
  answered_sound (Raises fault) block at k sc d left h = raised_sound fault at left
  answered_sound (Loops turns) (Some block) at k sc d left h = h
  answered_sound (Loops turns) None at k sc d left h = raised_sound _ at left
  answered_sound (LoopsOver array walk) (Some block) at k sc d left h = h
  answered_sound (LoopsOver array walk) None at k sc d left h = raised_sound _ at left
  answered_sound (Asks thing act None) block at k sc d left h = h
  answered_sound (Asks thing act (Some step)) block at k sc d left h = h
  answered_sound (Reads thing purpose) block at k sc d left h = h
  answered_sound (EachPairOf hash) (Some block) at k sc d left h = h
  answered_sound (EachPairOf hash) None at k sc d left h = raised_sound _ at left
  answered_sound (Inspects collection) block at k sc d left h = h
  answered_sound (Synchronizes mutex) (Some block) at k sc d left h = h
  answered_sound (Synchronizes mutex) None at k sc d left h = raised_sound _ at left

  invoked_sound : (m : Option Method) (v : Value) (name : Text) (args : List Value) (block : Option Block) (at : Span) (k : List Cont) (sc : Scope) (d left : ℕ) → Inside k sc → Sound (invoked S m v name args block at k sc d left)
  invoked_sound (Some m) v name args None at k sc d left h = enter_sound m v args at k sc d left h
  invoked_sound (Some m) v name args (Some block) at k sc d left h = raised_sound _ at left
  invoked_sound None v name args block at k sc d left h = answered_sound (deed S.program v name args (params_of S block)) block at k sc d left h

  invoke_sound : (v : Value) (name : Text) (args : List Value) (block : Option Block) (at : Span) (k : List Cont) (sc : Scope) (d left : ℕ) → Inside k sc → Sound (invoke S v name args block at k sc d left)
  invoke_sound v name args block at k sc d left h = invoked_sound (texted S name (methods_of S v)) v name args block at k sc d left h

  show_sound : (bytes : Text) (after : Step) (at : Span) (k : List Cont) (sc : Scope) (d left : ℕ) → Inside k sc → Sound (show S bytes after at k sc d left)
  show_sound [] after at k sc d left h = h
  show_sound (b ∷ bs) after at k sc d left h = either_sound (nat_lt max_bytes (length (b ∷ bs))) _ _ (raised_sound _ at left) h

  text_by_sound : (m : Option Method) (v : Value) (at : Span) (k : List Cont) (sc : Scope) (d left : ℕ) → Inside k sc → Sound (text_by S m v at k sc d left)
  text_by_sound (Some m) v at k sc d left h = enter_sound m v [] at (Then (TextOf v) ∷ k) sc d left h
  text_by_sound None v at k sc d left h = either_sound (is_collection v) _ _ h h

  give_text_sound : (v : Value) (at : Span) (k : List Cont) (sc : Scope) (d left : ℕ) → Inside k sc → Sound (give_text S v at k sc d left)
  give_text_sound v at k sc d left h = text_by_sound (own_text S v) v at k sc d left h

  inspected_sound : (v : Value) (at : Span) (k : List Cont) (sc : Scope) (d left : ℕ) → Inside k sc → Sound (give_inspected S v at k sc d left)
  inspected_sound v at k sc d left h = either_sound (is_collection v) _ _ h h

  pub drafted_sound : (need : Needs) (at : Span) (k : List Cont) (sc : Scope) (d left : ℕ) → Inside k sc → Sound (drafted S need at k sc d left)
  drafted_sound (Goes t) at k sc d left h = going_sound t at k sc d left h
  drafted_sound (Finished text) at k sc d left h = h
  drafted_sound (Element t) at k sc d left h = element_sound t at k sc d left h
  drafted_sound (Copies thing t) at k sc d left h = either_sound (nat_lt (d + length t.begun) max_depth) _ _ h (raised_sound _ at left)
  drafted_sound (draft.Asks v t) at k sc d left h = give_text_sound v at (Under d ∷ Then (LineOf t at) ∷ k) sc (d + length t.begun) left h

  line_sound : (v : Value) (bytes : List ℕ) (vs : List Value) (at : Span) (k : List Cont) (sc : Scope) (d left : ℕ) → Inside k sc → Sound (give_line S v bytes vs at k sc d left)
  line_sound v bytes vs at k sc d left h = either_sound (is_array v) _ _ h (give_text_sound v at (Then (WriteBehind Lines bytes vs at) ∷ k) sc d left h)

  styled_sound : (style : Style) (v : Value) (bytes : List ℕ) (vs : List Value) (at : Span) (k : List Cont) (sc : Scope) (d left : ℕ) → Inside k sc → Sound (give_styled S style v bytes vs at k sc d left)
  styled_sound Lines v bytes vs at k sc d left h = line_sound v bytes vs at k sc d left h
  styled_sound Plain v bytes vs at k sc d left h = give_text_sound v at (Then (WriteBehind Plain bytes vs at) ∷ k) sc d left h
  styled_sound (Inspecting args) v bytes vs at k sc d left h = inspected_sound v at (Then (WriteBehind (Inspecting args) bytes vs at) ∷ k) sc d left h

  written_sound : (style : Style) (bytes : List ℕ) (vs : List Value) (at : Span) (k : List Cont) (sc : Scope) (d left : ℕ) → Inside k sc → Sound (write S style bytes vs at k sc d left)
  written_sound style bytes [] at k sc d left h = show_sound bytes (value_of S style) at k sc d left h
  written_sound style bytes (v ∷ vs) at k sc d left h = styled_sound style v bytes vs at k sc d left h

  behind_sound : (style : Style) (bytes : List ℕ) (text : Text) (vs : List Value) (at : Span) (k : List Cont) (sc : Scope) (d left : ℕ) → Inside k sc → Sound (write_behind S style bytes text vs at k sc d left)
  behind_sound style bytes text vs at k sc d left h =
      either_sound (nat_lt max_bytes (length (bytes ++ styled style text))) _ _ (raised_sound _ at left) (written_sound style (bytes ++ styled style text) vs at k sc d left h)

  array_lines_sound : (bytes : List ℕ) (text : Text) (vs : List Value) (at : Span) (k : List Cont) (sc : Scope) (d left : ℕ) → Inside k sc → Sound (write_lines S bytes text vs at k sc d left)
  array_lines_sound bytes text vs at k sc d left h = either_sound (nat_lt max_bytes (length (bytes ++ text))) _ _ (raised_sound _ at left) (written_sound Lines (bytes ++ text) vs at k sc d left h)

  lines_sound : (args : List Value) (at : Span) (k : List Cont) (sc : Scope) (d left : ℕ) → Inside k sc → Sound (put_lines S args at k sc d left)
  lines_sound [] at k sc d left h = show_sound (10 ∷ []) (Instead Nil) at k sc d left h
  lines_sound (v ∷ vs) at k sc d left h = written_sound Lines [] (v ∷ vs) at k sc d left h

  print_sound : (name : Text) (args : List Value) (at : Span) (k : List Cont) (sc : Scope) (d left : ℕ) → Inside k sc → Sound (print S name args at k sc d left)
  print_sound name args at k sc d left h =
      either_sound (bytes_eq name (codes "puts")) _ _ (lines_sound args at k sc d left h)
      (either_sound (bytes_eq name (codes "print")) _ _ (written_sound Plain [] args at k sc d left h)
      (either_sound (bytes_eq name (codes "p")) _ _ (written_sound (Inspecting args) [] args at k sc d left h) (raised_sound _ at left)))

  top_level_sound : (m : Option Method) (name : NameId) (args : List Value) (at : Span) (k : List Cont) (sc : Scope) (d left : ℕ) → Inside k sc → Sound (top_level S m name args at k sc d left)
  top_level_sound (Some m) name args at k sc d left h = enter_sound m Nil args at k sc d left h
  top_level_sound None name args at k sc d left h = print_sound (text_of S name) args at k sc d left h

  own_sound : (m : Option Method) (name : NameId) (args : List Value) (at : Span) (k : List Cont) (sc : Scope) (d left : ℕ) → Inside k sc → Sound (own S m name args at k sc d left)
  own_sound (Some m) name args at k sc d left h = enter_sound m sc.me args at k sc d left h
  own_sound None name args at k sc d left h = top_level_sound (named S name S.program.functions) name args at k sc d left h

  fill_sound : (count v : Value) (at : Span) (k : List Cont) (sc : Scope) (d left : ℕ) → Inside k sc → Sound (fill S count v at k sc d left)
  fill_sound (Int (pos n)) v at k sc d left h = either_sound (nat_le n max_elements) _ _ h (raised_sound _ at left)
  fill_sound (Int (negsuc n)) v at k sc d left h = raised_sound _ at left
  fill_sound count v at k sc d left h = raised_sound _ at left

  array_sound : (args : List Value) (at : Span) (k : List Cont) (sc : Scope) (d left : ℕ) → Inside k sc → Sound (new_array S args at k sc d left)
  array_sound [] at k sc d left h = h
  array_sound (count ∷ []) at k sc d left h = fill_sound count Nil at k sc d left h
  array_sound (count ∷ v ∷ []) at k sc d left h = fill_sound count v at k sc d left h
  array_sound (count ∷ v ∷ w ∷ vs) at k sc d left h = raised_sound _ at left

  hash_sound : (args : List Value) (at : Span) (k : List Cont) (sc : Scope) (d left : ℕ) → Inside k sc → Sound (new_hash S args at k sc d left)
  hash_sound [] at k sc d left h = h
  hash_sound (v ∷ vs) at k sc d left h = raised_sound _ at left

  mutex_sound : (args : List Value) (at : Span) (k : List Cont) (sc : Scope) (d left : ℕ) → Inside k sc → Sound (new_mutex S args at k sc d left)
  mutex_sound [] at k sc d left h = h
  mutex_sound (v ∷ vs) at k sc d left h = raised_sound _ at left

  builtin_sound : (name : Text) (args : List Value) (at : Span) (k : List Cont) (sc : Scope) (d left : ℕ) → Inside k sc → Sound (create_builtin S name args at k sc d left)
  builtin_sound name args at k sc d left h =
      either_sound (bytes_eq name (codes "Array")) _ _ (array_sound args at k sc d left h)
      (either_sound (bytes_eq name (codes "Hash")) _ _ (hash_sound args at k sc d left h)
      (either_sound (bytes_eq name (codes "Mutex")) _ _ (mutex_sound args at k sc d left h) (raised_sound _ at left)))

  create_sound : (class : Option ℕ) (name : NameId) (args : List Value) (at : Span) (k : List Cont) (sc : Scope) (d left : ℕ) → Inside k sc → Sound (create S class name args at k sc d left)
  create_sound (Some class) name args at k sc d left h = h
  create_sound None name args at k sc d left h = builtin_sound (text_of S name) args at k sc d left h

  pair_sound : (ps : List (Value × Value)) (at : Span) (k : List Cont) (sc : Scope) (d left : ℕ) → Inside k sc → Sound (pair_up S ps at k sc d left)
  pair_sound ps at k sc d left h = either_sound (list_any (λ (p : Value × Value). is_collection p.0) ps) _ _ (raised_sound _ at left) h

  initialized_sound : (m : Option Method) (object : Value) (args : List Value) (at : Span) (k : List Cont) (sc : Scope) (d left : ℕ) → Inside k sc → Sound (initialized S m object args at k sc d left)
  initialized_sound (Some m) object args at k sc d left h = enter_sound m object args at (Then (Instead object) ∷ k) sc d left h
  initialized_sound None object [] at k sc d left h = h
  initialized_sound None object (v ∷ vs) at k sc d left h = raised_sound _ at left

  start_sound : (b : Option Block) (body : ℕ) (args : List Value) (at : Span) (k : List Cont) (sc : Scope) (d left : ℕ) → Inside k sc → Sound (start_body S b body args at k sc d left)
  start_sound (Some block) body args at k sc d left h = either_sound (nat_eq (length args) (length block.params)) _ _ h (raised_sound _ at left)
  start_sound None body args at k sc d left h = raised_sound _ at left

  pub perform_sound : (aim : Aim) (args : List Value) (at : Span) (k : List Cont) (sc : Scope) (d left : ℕ) → Inside k sc → Sound (perform S aim args at k sc d left)
  perform_sound (OnReceiver v name block) args at k sc d left h = invoke_sound v name args block at k sc d left h
  perform_sound (ByName name) args at k sc d left h = own_sound (texted S (text_of S name) (methods_of S sc.me)) name args at k sc d left h
  perform_sound (Storing v name) args at k sc d left h = invoke_sound v name args None at (Then (Instead (last_value S args)) ∷ k) sc d left h
  perform_sound (Creating class) args at k sc d left h = create_sound (class_from S 0 class S.program.classes) class args at k sc d left h
  perform_sound Listing args at k sc d left h = h
  perform_sound (Threading body) args at k sc d left h = start_sound (slice_get S.program.bodies body) body args at k sc d left h
  perform_sound Pairing args at k sc d left h = pair_sound (pairs_of S args) at k sc d left h

  read_sound : (place : Place) (o : AssignOp) (value : Node) (at : Span) (k : List Cont) (sc : Scope) (d left : ℕ) → Inside k sc → Sound (read_place S place o value at k sc d left)
  read_sound (OfLocal name) o value at k sc d left h = h
  read_sound (OfField name) o value at k sc d left h = ask_of_sound sc.me (GetField name) at (Then (ReadOf (OfField name) o value at) ∷ k) sc d left h
  read_sound (OfGlobal name) o value at k sc d left h = h
  read_sound (OfElement v index) o value at k sc d left h = invoke_sound v (codes "[]") (index ∷ []) None at (Then (ReadOf (OfElement v index) o value at) ∷ k) sc d left h
  read_sound (OfAttribute v name) o value at k sc d left h = invoke_sound v name [] None at (Then (ReadOf (OfAttribute v name) o value at) ∷ k) sc d left h

  decide_sound : (v : Value) (place : Place) (o : AssignOp) (value : Node) (at : Span) (k : List Cont) (sc : Scope) (d left : ℕ) → Inside k sc → Sound (decide S v place o value at k sc d left)
  decide_sound v place op.OrElse value at k sc d left h = either_sound (truthy v) _ _ h h
  decide_sound v place op.AndThen value at k sc d left h = either_sound (truthy v) _ _ h h
  decide_sound v place op.Plus value at k sc d left h = h
  decide_sound v place op.Minus value at k sc d left h = h
  decide_sound v place op.Times value at k sc d left h = h
  decide_sound v place op.Over value at k sc d left h = h
  decide_sound v place op.Modulo value at k sc d left h = h

  assigned_sound : (name : NameId) (v : Value) (k : List Cont) (sc : Scope) → Inside k sc → Inside k (with_locals sc (assign name v sc.locals))
  assigned_sound name v k sc h = subst (λ names. AreInScope S k names) (sym (names_in-assign name v sc.locals)) h

  write_sound : (v : Value) (place : Place) (at : Span) (k : List Cont) (sc : Scope) (d left : ℕ) → Inside k sc → Sound (write_place S v place at k sc d left)
  write_sound v (OfLocal name) at k sc d left h = assigned_sound name v k sc h
  write_sound v (OfField name) at k sc d left h = ask_of_sound sc.me (SetField name v) at (Then (Instead v) ∷ k) sc d left h
  write_sound v (OfGlobal name) at k sc d left h = h
  write_sound v (OfElement w index) at k sc d left h = invoke_sound w (codes "[]=") (index ∷ v ∷ []) None at (Then (Instead v) ∷ k) sc d left h
  write_sound v (OfAttribute w name) at k sc d left h = invoke_sound w (name ++ codes "=") (v ∷ []) None at (Then (Instead v) ∷ k) sc d left h

  join_sound : (bytes more : List ℕ) (pieces : List Piece) (at : Span) (k : List Cont) (sc : Scope) (d left : ℕ) → Inside k sc → Sound (join bytes more pieces at k sc d left)
  join_sound bytes more pieces at k sc d left h = either_sound (nat_lt max_bytes (length (bytes ++ more))) _ _ (raised_sound _ at left) h

  pub piece_sound : (f : Piece-F Node Piece Target Block) (bytes : List ℕ) (ps : List Piece) (at : Span) (k : List Cont) (sc : Scope) (d left : ℕ) → Inside k sc → Sound (join_piece S f bytes ps at k sc d left)
  piece_sound (node.Text more) bytes ps at k sc d left h = join_sound bytes more ps at k sc d left h
  piece_sound (node.Code code) bytes ps at k sc d left h = h

  give_step_sound : (v : Value) (step : Step) (k : List Cont) (sc : Scope) (d left : ℕ) → Inside k sc → Sound (give_step S v step k sc d left)
  give_step_sound v (AssignTo name) k sc d left h = assigned_sound name v k sc h
  give_step_sound v (FieldTo name at) k sc d left h = ask_of_sound sc.me (SetField name v) at (Then (Instead v) ∷ k) sc d left h
  give_step_sound v (GlobalTo name at) k sc d left h = h
  give_step_sound v (Rest nodes) k sc d left h = h
  give_step_sound v (Choose first second) k sc d left h = h
  give_step_sound v (RightOfAnd right) k sc d left h = either_sound (truthy v) _ _ h h
  give_step_sound v (RightOfOr right) k sc d left h = either_sound (truthy v) _ _ h h
  give_step_sound v Negate k sc d left h = h
  give_step_sound v ReturnOf k sc d left h = h
  give_step_sound v (ReceiverOf name args block at) k sc d left h = h
  give_step_sound v (ReceiverToStore name args at) k sc d left h = h
  give_step_sound v (Argument aim done rest at) k sc d left h = h
  give_step_sound v (Instead w) k sc d left h = h
  give_step_sound v (Create thing) k sc d left h = h
  give_step_sound v (Initialize args at) k sc d left h = initialized_sound (texted S (codes "initialize") (methods_of S v)) v args at k sc d left h
  give_step_sound v (PieceOf bytes pieces at) k sc d left h = give_text_sound v at (Then (JoinTo bytes pieces at) ∷ k) sc d left h
  give_step_sound v (JoinTo bytes pieces at) k sc d left h = join_sound bytes (bytes_of S v) pieces at k sc d left h
  give_step_sound v (WriteBehind style bytes values at) k sc d left h = behind_sound style bytes (bytes_of S v) values at k sc d left h
  give_step_sound v (LinesBehind bytes values at) k sc d left h = array_lines_sound bytes (bytes_of S v) values at k sc d left h
  give_step_sound v (LineOf t at) k sc d left h = going_sound (with_line t (bytes_of S v)) at k sc d left h
  give_step_sound v IsZero k sc d left h = h
  give_step_sound v (ElementBelow array next walk block at) k sc d left h = next_element_sound v array next walk block at k sc d left h
  give_step_sound v (WithElement array next walk block at) k sc d left h = turn_started (Walking array (suc next) (holding v walk) at) (given v next walk) block k sc d left h
  give_step_sound v (Locked mutex block at) k sc d left h = owning_started mutex block at k sc d left h
  give_step_sound v (TextOf object) k sc d left h = h
  give_step_sound v (IndexedBy index o value at) k sc d left h = h
  give_step_sound v (MemberOf name o value at) k sc d left h = read_sound (OfAttribute v name) o value at k sc d left h
  give_step_sound v (IndexOf w o value at) k sc d left h = read_sound (OfElement w v) o value at k sc d left h
  give_step_sound v (ReadOf place o value at) k sc d left h = decide_sound v place o value at k sc d left h
  give_step_sound v (RightOf current o at) k sc d left h = invoke_sound current (operator S o) (v ∷ []) None at k sc d left h
  give_step_sound v (WriteTo place at) k sc d left h = write_sound v place at k sc d left h

  -- the locals of an iteration go, and those round its block are left
  back_sound : (turns : Turns) (block : Block) (kept : ℕ) (k : List Cont) (sc : Scope) → Inside (Turn turns block kept ∷ k) sc → Inside k (back kept sc)
  back_sound turns block kept k sc h = subst (λ names. AreInScope S k names) (sym (names_in-take h.0 (S.block_names block.at) sc.locals kept h.1 h.2)) h.3

  owning_back : (mutex : Reference) (block : Block) (at : Span) (kept : ℕ) (k : List Cont) (sc : Scope) → Inside (Owning mutex block at kept ∷ k) sc → Inside k (back kept sc)
  owning_back mutex block at kept k sc h = subst (λ names. AreInScope S k names) (sym (names_in-take h.0 (S.block_names block.at) sc.locals kept h.1 h.2)) h.3

  pub give_sound : (v : Value) (c : Cont) (k : List Cont) (sc : Scope) (d left : ℕ) → Inside (c ∷ k) sc → Sound (give S v c k sc d left)
  give_sound v (Then step) k sc d left h = give_step_sound v step k sc d left h
  give_sound v (Under depth) k sc d left h = h
  give_sound v (Test condition body) k sc d left h = either_sound (truthy v) _ _ h h
  give_sound v (Again condition body) k sc d left h = h
  give_sound v (Turn turns block kept) k sc d left h = back_sound turns block kept k sc h
  give_sound v (Owning mutex block at kept) k sc d left h = owning_back mutex block at kept k sc h
  give_sound v (Frame saved) k sc d left h = h.2

  pub leave_sound : (e : Exit) (c : Cont) (k : List Cont) (sc : Scope) (d left : ℕ) → Inside (c ∷ k) sc → Sound (leave e c k sc d left)
  leave_sound e (Then step) k sc d left h = h
  leave_sound e (Under depth) k sc d left h = h
  leave_sound Break (Test condition body) k sc d left h = h
  leave_sound Next (Test condition body) k sc d left h = h
  leave_sound (Return v) (Test condition body) k sc d left h = h
  leave_sound Break (Again condition body) k sc d left h = h
  leave_sound Next (Again condition body) k sc d left h = h
  leave_sound (Return v) (Again condition body) k sc d left h = h
  leave_sound Break (Turn turns block kept) k sc d left h = back_sound turns block kept k sc h
  leave_sound Next (Turn turns block kept) k sc d left h = back_sound turns block kept k sc h
  leave_sound (Return v) (Turn turns block kept) k sc d left h = back_sound turns block kept k sc h
  leave_sound Break (Owning mutex block at kept) k sc d left h = owning_back mutex block at kept k sc h
  leave_sound Next (Owning mutex block at kept) k sc d left h = owning_back mutex block at kept k sc h
  leave_sound (Return v) (Owning mutex block at kept) k sc d left h = owning_back mutex block at kept k sc h
  leave_sound Break (Frame saved) k sc d left h = h.2
  leave_sound Next (Frame saved) k sc d left h = h.2
  leave_sound (Return v) (Frame saved) k sc d left h = h.2

  begin_call_sound : (receiver : Option Node) (name : NameId) (args : List Node) (block : Option Block) (at : Span) (k : List Cont) (sc : Scope) (d left : ℕ) → Inside k sc → Sound (begin_call S receiver name args block at k sc d left)
  begin_call_sound None name args block at k sc d left h = h
  begin_call_sound (Some receiver) name args block at k sc d left h = h

  begin_target_sound : (f : Target-F Node Piece Target Block) (o : AssignOp) (value : Node) (at : Span) (k : List Cont) (sc : Scope) (d left : ℕ) → Inside k sc → Sound (begin_target S f o value at k sc d left)
  begin_target_sound (node.«Target::Local» name) o value at k sc d left h = h
  begin_target_sound (node.«Target::Field» name) o value at k sc d left h = read_sound (OfField name) o value at k sc d left h
  begin_target_sound (node.«Target::Global» name) o value at k sc d left h = h
  begin_target_sound (node.Index receiver index) o value at k sc d left h = h
  begin_target_sound (node.Attribute receiver name) o value at k sc d left h = h

  begin_return_sound : (value : Option Node) (k : List Cont) (sc : Scope) (d left : ℕ) → Inside k sc → Sound (begin_return S value k sc d left)
  begin_return_sound None k sc d left h = h
  begin_return_sound (Some value) k sc d left h = h

  pub begin_sound : (f : NodeLayer) (k : List Cont) (sc : Scope) (d left : ℕ) → Inside k sc → Sound (begin S f k sc d left)
  begin_sound (node.«Node::Field» name at) k sc d left h = ask_of_sound sc.me (GetField name) at k sc d left h
  begin_sound (node.OpAssign target o value at) k sc d left h = begin_target_sound (out-Target target) o value at k sc d left h
  begin_sound (node.Call receiver name args block at) k sc d left h = begin_call_sound receiver name args block at k sc d left h
  begin_sound (node.Return value at) k sc d left h = begin_return_sound value k sc d left h
  begin_sound other k sc d left h = h

  pub node_sound : (n : Node) (k : List Cont) (sc : Scope) (d left : ℕ) → Inside k sc → Sound (start_node S n k sc d left)
  node_sound n k sc d zero h = λ e. refl
  node_sound n k sc d (suc left) h =
      either_sound (nat_lt d max_depth) _ _ (begin_sound (out-Node n) (Under d ∷ k) sc (d + 1) left h) (raised_sound TooDeep (place (out-Node n)) (suc left))
