-- Calls keep what is said of the parts of a state.
use Rattle.std.proofs.Common.{ℕ, zero, suc, ◌+◌, Bool, true, false, cond, List, [], ◌∷◌, ◌++◌, Option, Some, None, length, refl}
use Rattle.std.specs.Prelude.{slice_get, pos, negsuc, nat_lt, nat_le, nat_eq, codes, ◌==◌}
use Rattle.std.specs.List.{list_any}
use Rattle.std.specs.Str.{bytes_eq}
use Rattle.rb_tree.specs.declared.span.Span.{Span}
use Rattle.rb_tree.specs.declared.span.NameId.{NameId}
use Rattle.rb_tree.specs.declared.node.AssignOp.{AssignOp}
use Rattle.rb_tree.specs.declared.node.AssignOp.TheVariants as op
use Rattle.rb_tree.specs.declared.node.Node.{Node}
use Rattle.rb_tree.specs.declared.node.Block.{Block}
use Rattle.rb_tree.specs.declared.node.Method.{Method}
use Rattle.rb_tree.specs.declared.node.Class.{Class}
use Rattle.rb_model.specs.declared.fault.Fault.{Fault}
use Rattle.rb_model.specs.declared.fault.Fault.TheVariants.{NoMethod, ArgumentCount, TypeMismatch, BadKey, IndexTooSmall, ArrayTooLong, TextTooLong, TooDeep}
use Rattle.rb_model.specs.declared.value.Sort.{Sort}
use Rattle.rb_model.specs.declared.value.Sort.TheVariants as sort
use Rattle.rb_model.specs.Values.{Value, Nil, Int, To, truthy}
use Rattle.rb_model.specs.Things.{max_elements}
use Rattle.rb_model.specs.Acts.{Act, GetField, SetField, handed}
use Rattle.rb_model.specs.Ends.{Raised, Steps}
use Rattle.rb_machine.specs.Scopes.{Script, Text, Scope, text_of}
use Rattle.rb_machine.specs.Control.{State, Cont, Then, Under, Frame, Step, Instead, Initialize, WriteBehind, LinesBehind, LineOf, TextOf, Locked, ReadOf, RightOf, WriteTo}
use Rattle.rb_machine.specs.Control.{Aim, OnReceiver, ByName, Storing, Creating, Listing, Pairing, Threading, Place, OfLocal, OfField, OfGlobal, OfElement, OfAttribute, Style, Lines, Plain, Inspecting, Draft, max_depth}
use Rattle.rb_machine.specs.Methods.{Answer, Gives, Raises, Loops, LoopsOver, Asks, Reads, EachPairOf, Inspects, Synchronizes, deed}
use Rattle.rb_machine.specs.Texts.{max_bytes, styled}
use Rattle.rb_machine.specs.Drafts.{Needs, Goes, Finished, Element, Copies, is_collection, is_array}
use Rattle.rb_machine.specs.Drafts as draft
use Rattle.rb_machine.specs.Call.{raised, ask_of, going, start_element, drafted, named, texted, methods_in, methods_of_sort, methods_of, params_of, invoked, without_parameters, top_level, own, last_value, enter, answered, invoke, show, value_of_p, value_of, text_by, own_text, give_text, give_inspected, give_line, give_styled, write, write_behind, write_lines, put_lines, print, perform, start_body, read_place, decide, write_place, fill, new_array, new_hash, new_mutex, create_builtin, create, class_from, initialized, pair_up, pairs_of}
use Rattle.rb_closure.specs.Mentions.{values_in_style, values_in_aim, values_in_place, values_in_pairs}
use Rattle.rb_closure.specs.Closure.{Each}
use Rattle.rb_closure.proofs.Lists.{IfSome, both, front, behind, found_of, at_of}
use Rattle.rb_closure.proofs.Parts.{Rules, FitsMethod, FitsClass, code_in_given, code_in_aim, ANode, Good, GoodAll, GoodCode, GoodStep, Around, GoodState, ended_good, under}
use Rattle.rb_closure.proofs.Things.{gathered_of}
use Rattle.rb_closure.proofs.Scopes.{look_of, assign_of, fresh_of, copies_of, pairs_good, last_good, given_to_good}
use Rattle.rb_closure.proofs.Table.{GoodAnswer, deed_good}
use Rattle.rb_closure.proofs.Texts.{GoodDraft, GoodNeeds}

module _ (S : Script) (P : Rules S) where
  pub raised_good : (fault : Fault) (at : Span) (left : ℕ) → GoodState S P (raised fault at left)
  raised_good fault at left = ended_good S P (Raised fault at) left (P.early (Raised fault at) refl)

  pub one_of : (b : Bool) (s t : State) → GoodState S P s → GoodState S P t → GoodState S P (cond b s t)
  one_of true s t p q = p
  one_of false s t p q = q

  pub ask_of_good : (v : Value) (act : Act) (at : Span) (k : List Cont) (sc : Scope) (d left : ℕ) → Good S P v → GoodAll S P (handed act) → Around S P k sc → GoodState S P (ask_of v act at k sc d left)
  ask_of_good (To thing) act at k sc d left p a h = (((p, a), tt), h)
  ask_of_good v act at k sc d left p a h = raised_good NoMethod at left

  pub going_good : (t : Option Draft) (at : Span) (k : List Cont) (sc : Scope) (d left : ℕ) → IfSome (GoodDraft S P) t → Around S P k sc → GoodState S P (going t at k sc d left)
  going_good (Some t) at k sc d left g h = ((g, tt), h)
  going_good None at k sc d left g h = raised_good TextTooLong at left

  element_good : (t : Draft) (at : Span) (k : List Cont) (sc : Scope) (d left : ℕ) → GoodDraft S P t → Around S P k sc → GoodState S P (start_element t at k sc d left)
  element_good t at k sc d zero g h = ended_good S P Steps zero (P.early Steps refl)
  element_good t at k sc d (suc left) g h = ((g, tt), h)

  -- ---- methods

  abbrev FitsOne : Option Method → Type 0
  FitsOne m = IfSome (FitsMethod P.Has) m

  in_class : (class : Option Class) → IfSome (FitsClass P.Has) class → Each (FitsMethod P.Has) (methods_in S class)
  in_class None h = tt
  in_class (Some class) h = h

  of_sort : (s : Sort) → Each (FitsMethod P.Has) (methods_of_sort S s)
  of_sort (sort.Object class) = in_class (slice_get S.program.classes class) (at_of (FitsClass P.Has) S.program.classes class P.classes)
  of_sort other = tt

  of_value : (v : Value) → Each (FitsMethod P.Has) (methods_of S v)
  of_value (To thing) = of_sort thing.sort
  of_value v = tt

  pub texted_fits : (text : Text) (v : Value) → FitsOne (texted S text (methods_of S v))
  texted_fits text v = found_of (FitsMethod P.Has) (λ (m : Method). bytes_eq (text_of S m.name) text) (methods_of S v) (of_value v)

  named_fits : (name : NameId) → FitsOne (named S name S.program.functions)
  named_fits name = found_of (FitsMethod P.Has) (λ (m : Method). m.name.0 == name.0) S.program.functions P.functions

  enter_good : (m : Method) (me : Value) (args : List Value) (at : Span) (k : List Cont) (sc : Scope) (d left : ℕ) → FitsMethod P.Has m → Good S P me → GoodAll S P args → Around S P k sc
      → GoodState S P (enter S m me args at k sc d left)
  enter_good m me args at k sc d left f p a h =
      one_of (nat_eq (length args) (length m.params)) _ _
      (((tt, tt), f), (P.waits (Frame sc) k (h.1, tt) h.0, (p, fresh_of P.Refers (S.method_names m) args a)))
      (raised_good ArgumentCount at left)

  answered_good : (a : Answer) (block : Option Block) (at : Span) (k : List Cont) (sc : Scope) (d left : ℕ) → GoodAnswer S P a → GoodCode S P (code_in_given block) → Around S P k sc
      → GoodState S P (answered S a block at k sc d left)
  answered_good (Gives v) block at k sc d left g c h = (((g, tt), tt), h)
  answered_good (Raises fault) block at k sc d left g c h = raised_good fault at left
  answered_good (Loops turns) (Some block) at k sc d left g c h = ((g, c), h)
  answered_good (Loops turns) None at k sc d left g c h = raised_good ArgumentCount at left
  answered_good (LoopsOver array walk) (Some block) at k sc d left g c h = ((g, c), h)
  answered_good (LoopsOver array walk) None at k sc d left g c h = raised_good ArgumentCount at left
  answered_good (Asks thing act None) block at k sc d left g c h = ((g, tt), h)
  answered_good (Asks thing act (Some step)) block at k sc d left g c h = ((g.0, tt), under S P (Then step) k sc g.1 h)
  answered_good (Reads thing purpose) block at k sc d left g c h = (((g.0, g.1.0), g.1.1), h)
  answered_good (EachPairOf hash) (Some block) at k sc d left g c h = (((g, (g, tt)), c), h)
  answered_good (EachPairOf hash) None at k sc d left g c h = raised_good ArgumentCount at left
  answered_good (Inspects collection) block at k sc d left g c h = (((g, tt), tt), h)
  answered_good (Synchronizes mutex) (Some block) at k sc d left g c h = (((g, tt), tt), under S P (Then (Locked mutex block at)) k sc ((g, tt), c) h)
  answered_good (Synchronizes mutex) None at k sc d left g c h = raised_good ArgumentCount at left

  invoked_good : (m : Option Method) (v : Value) (name : Text) (args : List Value) (block : Option Block) (at : Span) (k : List Cont) (sc : Scope) (d left : ℕ)
      → FitsOne m → Good S P v → GoodAll S P args → GoodCode S P (code_in_given block) → Around S P k sc → GoodState S P (invoked S m v name args block at k sc d left)
  invoked_good (Some m) v name args None at k sc d left f p a c h = enter_good m v args at k sc d left f p a h
  invoked_good (Some m) v name args (Some block) at k sc d left f p a c h = raised_good NoMethod at left
  invoked_good None v name args block at k sc d left f p a c h =
      answered_good (deed S.program v name args (params_of S block)) block at k sc d left (deed_good S P v name args (params_of S block) p a) c h

  pub invoke_good : (v : Value) (name : Text) (args : List Value) (block : Option Block) (at : Span) (k : List Cont) (sc : Scope) (d left : ℕ)
      → Good S P v → GoodAll S P args → GoodCode S P (code_in_given block) → Around S P k sc → GoodState S P (invoke S v name args block at k sc d left)
  invoke_good v name args block at k sc d left p a c h = invoked_good (texted S name (methods_of S v)) v name args block at k sc d left (texted_fits name v) p a c h

  -- ---- what is printed

  show_good : (bytes : Text) (after : Step) (at : Span) (k : List Cont) (sc : Scope) (d left : ℕ) → GoodStep S P after → Around S P k sc → GoodState S P (show S bytes after at k sc d left)
  show_good [] after at k sc d left g h = (((tt, tt), tt), under S P (Then after) k sc g h)
  show_good (b ∷ bs) after at k sc d left g h = one_of (nat_lt max_bytes (length (b ∷ bs))) _ _ (raised_good TextTooLong at left) ((tt, tt), under S P (Then after) k sc g h)

  p_good : (vs : List Value) → GoodAll S P vs → GoodStep S P (value_of_p S vs)
  p_good [] a = ((tt, tt), tt)
  p_good (v ∷ []) a = (a, tt)
  p_good (v ∷ w ∷ vs) a = (a, tt)

  value_good : (style : Style) → GoodAll S P (values_in_style style) → GoodStep S P (value_of S style)
  value_good Lines a = ((tt, tt), tt)
  value_good Plain a = ((tt, tt), tt)
  value_good (Inspecting args) a = p_good args a

  without_fits : (m : Option Method) → FitsOne m → FitsOne (without_parameters S m)
  without_fits None f = tt
  without_fits (Some m) f = by (nat_eq (length m.params) 0)
    where
      by : (b : Bool) → FitsOne (cond b (Some m) None)
      by true = f
      by false = tt

  inspected_good : (v : Value) (at : Span) (k : List Cont) (sc : Scope) (d left : ℕ) → Good S P v → Around S P k sc → GoodState S P (give_inspected S v at k sc d left)
  inspected_good v at k sc d left p h = one_of (is_collection v) _ _ (((p, tt), tt), h) (((tt, tt), tt), h)

  text_by_good : (m : Option Method) (v : Value) (at : Span) (k : List Cont) (sc : Scope) (d left : ℕ) → FitsOne m → Good S P v → Around S P k sc → GoodState S P (text_by S m v at k sc d left)
  text_by_good (Some m) v at k sc d left f p h = enter_good m v [] at (Then (TextOf v) ∷ k) sc d left f p tt (under S P (Then (TextOf v)) k sc ((p, tt), tt) h)
  text_by_good None v at k sc d left f p h = one_of (is_collection v) _ _ (((p, tt), tt), h) (((tt, tt), tt), h)

  pub give_text_good : (v : Value) (at : Span) (k : List Cont) (sc : Scope) (d left : ℕ) → Good S P v → Around S P k sc → GoodState S P (give_text S v at k sc d left)
  give_text_good v at k sc d left p h = text_by_good (own_text S v) v at k sc d left (without_fits (texted S (codes "to_s") (methods_of S v)) (texted_fits (codes "to_s") v)) p h

  pub drafted_good : (need : Needs) (at : Span) (k : List Cont) (sc : Scope) (d left : ℕ) → GoodNeeds S P need → Around S P k sc → GoodState S P (drafted S need at k sc d left)
  drafted_good (Goes t) at k sc d left g h = going_good t at k sc d left g h
  drafted_good (Finished text) at k sc d left g h = (((tt, tt), tt), h)
  drafted_good (Element t) at k sc d left g h = element_good t at k sc d left g h
  drafted_good (Copies thing t) at k sc d left g h = one_of (nat_lt (d + length t.begun) max_depth) _ _ ((g, tt), h) (raised_good TooDeep at left)
  drafted_good (draft.Asks v t) at k sc d left g h =
      give_text_good v at (Under d ∷ Then (LineOf t at) ∷ k) sc (d + length t.begun) left g.0
      (under S P (Under d) (Then (LineOf t at) ∷ k) sc (tt, tt) (under S P (Then (LineOf t at)) k sc (g.1, tt) h))

  line_good : (v : Value) (bytes : List ℕ) (vs : List Value) (at : Span) (k : List Cont) (sc : Scope) (d left : ℕ) → Good S P v → GoodAll S P vs → Around S P k sc
      → GoodState S P (give_line S v bytes vs at k sc d left)
  line_good v bytes vs at k sc d left p a h =
      one_of (is_array v) _ _ (((p, tt), tt), under S P (Then (LinesBehind bytes vs at)) k sc (a, tt) h)
      (give_text_good v at (Then (WriteBehind Lines bytes vs at) ∷ k) sc d left p (under S P (Then (WriteBehind Lines bytes vs at)) k sc (a, tt) h))

  styled_good : (style : Style) (v : Value) (bytes : List ℕ) (vs : List Value) (at : Span) (k : List Cont) (sc : Scope) (d left : ℕ)
      → GoodAll S P (values_in_style style) → Good S P v → GoodAll S P vs → Around S P k sc → GoodState S P (give_styled S style v bytes vs at k sc d left)
  styled_good Lines v bytes vs at k sc d left s p a h = line_good v bytes vs at k sc d left p a h
  styled_good Plain v bytes vs at k sc d left s p a h = give_text_good v at (Then (WriteBehind Plain bytes vs at) ∷ k) sc d left p (under S P (Then (WriteBehind Plain bytes vs at)) k sc (a, tt) h)
  styled_good (Inspecting args) v bytes vs at k sc d left s p a h =
      inspected_good v at (Then (WriteBehind (Inspecting args) bytes vs at) ∷ k) sc d left p
      (under S P (Then (WriteBehind (Inspecting args) bytes vs at)) k sc (both (Good S P) args vs s a, tt) h)

  written_good : (style : Style) (bytes : List ℕ) (vs : List Value) (at : Span) (k : List Cont) (sc : Scope) (d left : ℕ)
      → GoodAll S P (values_in_style style) → GoodAll S P vs → Around S P k sc → GoodState S P (write S style bytes vs at k sc d left)
  written_good style bytes [] at k sc d left s a h = show_good bytes (value_of S style) at k sc d left (value_good style s) h
  written_good style bytes (v ∷ vs) at k sc d left s a h = styled_good style v bytes vs at k sc d left s a.0 a.1 h

  pub behind_good : (style : Style) (bytes : List ℕ) (text : Text) (vs : List Value) (at : Span) (k : List Cont) (sc : Scope) (d left : ℕ)
      → GoodAll S P (values_in_style style ++ vs) → Around S P k sc → GoodState S P (write_behind S style bytes text vs at k sc d left)
  behind_good style bytes text vs at k sc d left a h =
      one_of (nat_lt max_bytes (length (bytes ++ styled style text))) _ _ (raised_good TextTooLong at left)
      (written_good style (bytes ++ styled style text) vs at k sc d left (front (Good S P) (values_in_style style) vs a) (behind (Good S P) (values_in_style style) vs a) h)

  pub array_lines_good : (bytes : List ℕ) (text : Text) (vs : List Value) (at : Span) (k : List Cont) (sc : Scope) (d left : ℕ) → GoodAll S P vs → Around S P k sc
      → GoodState S P (write_lines S bytes text vs at k sc d left)
  array_lines_good bytes text vs at k sc d left a h =
      one_of (nat_lt max_bytes (length (bytes ++ text))) _ _ (raised_good TextTooLong at left) (written_good Lines (bytes ++ text) vs at k sc d left tt a h)

  lines_good : (args : List Value) (at : Span) (k : List Cont) (sc : Scope) (d left : ℕ) → GoodAll S P args → Around S P k sc → GoodState S P (put_lines S args at k sc d left)
  lines_good [] at k sc d left a h = show_good (10 ∷ []) (Instead Nil) at k sc d left ((tt, tt), tt) h
  lines_good (v ∷ vs) at k sc d left a h = written_good Lines [] (v ∷ vs) at k sc d left tt a h

  print_good : (name : Text) (args : List Value) (at : Span) (k : List Cont) (sc : Scope) (d left : ℕ) → GoodAll S P args → Around S P k sc → GoodState S P (print S name args at k sc d left)
  print_good name args at k sc d left a h =
      one_of (bytes_eq name (codes "puts")) _ _ (lines_good args at k sc d left a h)
      (one_of (bytes_eq name (codes "print")) _ _ (written_good Plain [] args at k sc d left tt a h)
      (one_of (bytes_eq name (codes "p")) _ _ (written_good (Inspecting args) [] args at k sc d left a a h) (raised_good NoMethod at left)))

  -- ---- calls by a name alone

  top_level_good : (m : Option Method) (name : NameId) (args : List Value) (at : Span) (k : List Cont) (sc : Scope) (d left : ℕ) → FitsOne m → GoodAll S P args → Around S P k sc
      → GoodState S P (top_level S m name args at k sc d left)
  top_level_good (Some m) name args at k sc d left f a h = enter_good m Nil args at k sc d left f tt a h
  top_level_good None name args at k sc d left f a h = print_good (text_of S name) args at k sc d left a h

  own_good : (m : Option Method) (name : NameId) (args : List Value) (at : Span) (k : List Cont) (sc : Scope) (d left : ℕ) → FitsOne m → GoodAll S P args → Around S P k sc
      → GoodState S P (own S m name args at k sc d left)
  own_good (Some m) name args at k sc d left f a h = enter_good m sc.me args at k sc d left f h.1.0 a h
  own_good None name args at k sc d left f a h = top_level_good (named S name S.program.functions) name args at k sc d left (named_fits name) a h

  -- ---- new things

  fill_good : (count v : Value) (at : Span) (k : List Cont) (sc : Scope) (d left : ℕ) → Good S P v → Around S P k sc → GoodState S P (fill S count v at k sc d left)
  fill_good (Int (pos n)) v at k sc d left p h = one_of (nat_le n max_elements) _ _ ((copies_of P.Refers n v p, tt), h) (raised_good ArrayTooLong at left)
  fill_good (Int (negsuc n)) v at k sc d left p h = raised_good IndexTooSmall at left
  fill_good count v at k sc d left p h = raised_good TypeMismatch at left

  array_good : (args : List Value) (at : Span) (k : List Cont) (sc : Scope) (d left : ℕ) → GoodAll S P args → Around S P k sc → GoodState S P (new_array S args at k sc d left)
  array_good [] at k sc d left a h = ((tt, tt), h)
  array_good (count ∷ []) at k sc d left a h = fill_good count Nil at k sc d left tt h
  array_good (count ∷ v ∷ []) at k sc d left a h = fill_good count v at k sc d left a.1.0 h
  array_good (count ∷ v ∷ w ∷ vs) at k sc d left a h = raised_good ArgumentCount at left

  hash_good : (args : List Value) (at : Span) (k : List Cont) (sc : Scope) (d left : ℕ) → Around S P k sc → GoodState S P (new_hash S args at k sc d left)
  hash_good [] at k sc d left h = ((tt, tt), h)
  hash_good (v ∷ vs) at k sc d left h = raised_good ArgumentCount at left

  mutex_good : (args : List Value) (at : Span) (k : List Cont) (sc : Scope) (d left : ℕ) → Around S P k sc → GoodState S P (new_mutex S args at k sc d left)
  mutex_good [] at k sc d left h = ((tt, tt), h)
  mutex_good (v ∷ vs) at k sc d left h = raised_good ArgumentCount at left

  builtin_good : (name : Text) (args : List Value) (at : Span) (k : List Cont) (sc : Scope) (d left : ℕ) → GoodAll S P args → Around S P k sc → GoodState S P (create_builtin S name args at k sc d left)
  builtin_good name args at k sc d left a h =
      one_of (bytes_eq name (codes "Array")) _ _ (array_good args at k sc d left a h)
      (one_of (bytes_eq name (codes "Hash")) _ _ (hash_good args at k sc d left h)
      (one_of (bytes_eq name (codes "Mutex")) _ _ (mutex_good args at k sc d left h) (raised_good NoMethod at left)))

  create_good : (class : Option ℕ) (name : NameId) (args : List Value) (at : Span) (k : List Cont) (sc : Scope) (d left : ℕ) → GoodAll S P args → Around S P k sc
      → GoodState S P (create S class name args at k sc d left)
  create_good (Some class) name args at k sc d left a h = ((tt, tt), under S P (Then (Initialize args at)) k sc (a, tt) h)
  create_good None name args at k sc d left a h = builtin_good (text_of S name) args at k sc d left a h

  pair_good : (ps : List (Value × Value)) (at : Span) (k : List Cont) (sc : Scope) (d left : ℕ) → GoodAll S P (values_in_pairs ps) → Around S P k sc
      → GoodState S P (pair_up S ps at k sc d left)
  pair_good ps at k sc d left a h = one_of (list_any (λ (p : Value × Value). is_collection p.0) ps) _ _ (raised_good BadKey at left) ((gathered_of P.Refers ps a, tt), h)

  initialized_good : (m : Option Method) (object : Value) (args : List Value) (at : Span) (k : List Cont) (sc : Scope) (d left : ℕ) → FitsOne m → Good S P object → GoodAll S P args → Around S P k sc
      → GoodState S P (initialized S m object args at k sc d left)
  initialized_good (Some m) object args at k sc d left f p a h = enter_good m object args at (Then (Instead object) ∷ k) sc d left f p a (under S P (Then (Instead object)) k sc ((p, tt), tt) h)
  initialized_good None object [] at k sc d left f p a h = (((p, tt), tt), h)
  initialized_good None object (v ∷ vs) at k sc d left f p a h = raised_good ArgumentCount at left

  pub initialize_good : (object : Value) (args : List Value) (at : Span) (k : List Cont) (sc : Scope) (d left : ℕ) → Good S P object → GoodAll S P args → Around S P k sc
      → GoodState S P (initialized S (texted S (codes "initialize") (methods_of S object)) object args at k sc d left)
  initialize_good object args at k sc d left p a h = initialized_good (texted S (codes "initialize") (methods_of S object)) object args at k sc d left (texted_fits (codes "initialize") object) p a h

  start_good : (b : Option Block) (body : ℕ) (args : List Value) (at : Span) (k : List Cont) (sc : Scope) (d left : ℕ) → GoodCode S P (code_in_aim (Threading body)) → GoodAll S P args → Around S P k sc
      → GoodState S P (start_body S b body args at k sc d left)
  start_good (Some block) body args at k sc d left c a h = one_of (nat_eq (length args) (length block.params)) _ _ ((given_to_good P.Refers S body args sc a h.1, c), h) (raised_good ArgumentCount at left)
  start_good None body args at k sc d left c a h = raised_good NoMethod at left

  pub perform_good : (aim : Aim) (args : List Value) (at : Span) (k : List Cont) (sc : Scope) (d left : ℕ) → GoodAll S P (values_in_aim aim) → GoodCode S P (code_in_aim aim) → GoodAll S P args → Around S P k sc
      → GoodState S P (perform S aim args at k sc d left)
  perform_good (OnReceiver v name block) args at k sc d left p c a h = invoke_good v name args block at k sc d left p.0 a c h
  perform_good (ByName name) args at k sc d left p c a h = own_good (texted S (text_of S name) (methods_of S sc.me)) name args at k sc d left (texted_fits (text_of S name) sc.me) a h
  perform_good (Storing v name) args at k sc d left p c a h =
      invoke_good v name args None at (Then (Instead (last_value S args)) ∷ k) sc d left p.0 a tt (under S P (Then (Instead (last_value S args))) k sc ((last_good P.Refers S args a, tt), tt) h)
  perform_good (Creating class) args at k sc d left p c a h = create_good (class_from S 0 class S.program.classes) class args at k sc d left a h
  perform_good Listing args at k sc d left p c a h = ((a, tt), h)
  perform_good Pairing args at k sc d left p c a h = pair_good (pairs_of S args) at k sc d left (pairs_good P.Refers S args a) h
  perform_good (Threading body) args at k sc d left p c a h = start_good (slice_get S.program.bodies body) body args at k sc d left c a h

  -- ---- assignments with an operator

  pub read_good : (place : Place) (o : AssignOp) (value : Node) (at : Span) (k : List Cont) (sc : Scope) (d left : ℕ) → GoodAll S P (values_in_place place) → P.Has (ANode value) → Around S P k sc
      → GoodState S P (read_place S place o value at k sc d left)
  read_good (OfLocal name) o value at k sc d left p c h = (((look_of P.Refers name sc.locals h.1.1, tt), tt), under S P (Then (ReadOf (OfLocal name) o value at)) k sc (tt, (c, tt)) h)
  read_good (OfField name) o value at k sc d left p c h =
      ask_of_good sc.me (GetField name) at (Then (ReadOf (OfField name) o value at) ∷ k) sc d left h.1.0 tt (under S P (Then (ReadOf (OfField name) o value at)) k sc (tt, (c, tt)) h)
  read_good (OfGlobal name) o value at k sc d left p c h = (((p.0, tt), tt), under S P (Then (ReadOf (OfGlobal name) o value at)) k sc (p, (c, tt)) h)
  read_good (OfElement v index) o value at k sc d left p c h =
      invoke_good v (codes "[]") (index ∷ []) None at (Then (ReadOf (OfElement v index) o value at) ∷ k) sc d left p.0 p.1 tt (under S P (Then (ReadOf (OfElement v index) o value at)) k sc (p, (c, tt)) h)
  read_good (OfAttribute v name) o value at k sc d left p c h =
      invoke_good v name [] None at (Then (ReadOf (OfAttribute v name) o value at) ∷ k) sc d left p.0 tt tt (under S P (Then (ReadOf (OfAttribute v name) o value at)) k sc (p, (c, tt)) h)

  applied_good : (v : Value) (place : Place) (o : AssignOp) (value : Node) (at : Span) (k : List Cont) (sc : Scope) → Good S P v → GoodAll S P (values_in_place place) → Around S P k sc
      → Around S P (Then (RightOf v o at) ∷ Then (WriteTo place at) ∷ k) sc
  applied_good v place o value at k sc p q h = under S P (Then (RightOf v o at)) (Then (WriteTo place at) ∷ k) sc ((p, tt), tt) (under S P (Then (WriteTo place at)) k sc (q, tt) h)

  pub decide_good : (v : Value) (place : Place) (o : AssignOp) (value : Node) (at : Span) (k : List Cont) (sc : Scope) (d left : ℕ)
      → Good S P v → GoodAll S P (values_in_place place) → P.Has (ANode value) → Around S P k sc → GoodState S P (decide S v place o value at k sc d left)
  decide_good v place op.OrElse value at k sc d left p q c h = one_of (truthy v) _ _ (((p, tt), tt), h) ((tt, (c, tt)), under S P (Then (WriteTo place at)) k sc (q, tt) h)
  decide_good v place op.AndThen value at k sc d left p q c h = one_of (truthy v) _ _ ((tt, (c, tt)), under S P (Then (WriteTo place at)) k sc (q, tt) h) (((p, tt), tt), h)
  decide_good v place o value at k sc d left p q c h = ((tt, (c, tt)), applied_good v place o value at k sc p q h)

  pub write_good : (v : Value) (place : Place) (at : Span) (k : List Cont) (sc : Scope) (d left : ℕ) → Good S P v → GoodAll S P (values_in_place place) → Around S P k sc
      → GoodState S P (write_place S v place at k sc d left)
  write_good v (OfLocal name) at k sc d left p q h = (((p, tt), tt), (h.0, (h.1.0, assign_of P.Refers name v sc.locals p h.1.1)))
  write_good v (OfField name) at k sc d left p q h = ask_of_good sc.me (SetField name v) at (Then (Instead v) ∷ k) sc d left h.1.0 (p, tt) (under S P (Then (Instead v)) k sc ((p, tt), tt) h)
  write_good v (OfGlobal name) at k sc d left p q h = (((q.0, (p, tt)), tt), under S P (Then (Instead v)) k sc ((p, tt), tt) h)
  write_good v (OfElement w index) at k sc d left p q h =
      invoke_good w (codes "[]=") (index ∷ v ∷ []) None at (Then (Instead v) ∷ k) sc d left q.0 (q.1.0, (p, tt)) tt (under S P (Then (Instead v)) k sc ((p, tt), tt) h)
  write_good v (OfAttribute w name) at k sc d left p q h = invoke_good w (name ++ codes "=") (v ∷ []) None at (Then (Instead v) ∷ k) sc d left q.0 (p, tt) tt (under S P (Then (Instead v)) k sc ((p, tt), tt) h)
