-- Calls: which method is found, how its body begins, what a built-in one does, and what `puts`, `print` and `p` show.
use Rattle.std.specs.Prelude.{ℕ, zero, suc, ◌+◌, pos, negsuc, nat_eq, nat_lt, nat_le, ◌==◌, if◌then◌else◌, List, [], ◌∷◌, ◌++◌, length, map, replicate, Option, Some, None, find, slice_get, codes}
use Rattle.std.specs.List.{list_any}
use Rattle.std.specs.Option.{option_map}
use Rattle.std.specs.Str.{bytes_eq}
use Rattle.rb_tree.specs.declared.span.Span.{Span}
use Rattle.rb_tree.specs.declared.span.NameId.{NameId}
use Rattle.rb_tree.specs.declared.node.AssignOp.{AssignOp}
use Rattle.rb_tree.specs.declared.node.AssignOp.TheVariants as op
use Rattle.rb_tree.specs.declared.node.Node.{Node}
use Rattle.rb_tree.specs.declared.node.Block.{Block}
use Rattle.rb_tree.specs.declared.node.Method.{Method}
use Rattle.rb_tree.specs.declared.node.Class.{Class}
use Rattle.rb_model.specs.declared.value.Sort.{Sort}
use Rattle.rb_model.specs.declared.value.Sort.TheVariants as sort
use Rattle.rb_model.specs.declared.fault.Fault.{Fault}
use Rattle.rb_model.specs.declared.fault.Fault.TheVariants.{NoMethod, ArgumentCount, TypeMismatch, BadKey, IndexTooSmall, ArrayTooLong, TextTooLong, TooDeep}
use Rattle.rb_model.specs.Values.{Value, Nil, Int, Str, To, Reference, truthy}
use Rattle.rb_model.specs.Acts.{Act, GetField, SetField, Lock}
use Rattle.rb_model.specs.Ends.{End, Raised, Steps}
use Rattle.rb_model.specs.Things.{max_elements, key_of, gathered}
use Rattle.rb_model.specs.Things as thing
use Rattle.rb_machine.specs.Scopes.{Script, Text, Scope, text_of, look, assign, fresh, with_locals}
use Rattle.rb_machine.specs.Control.{State, On, Cont, Then, Under, Frame, Step, Eval, Give, Following, Turning, Drafting, Making, Calling, Reading, Starting, Showing, Ended, max_depth}
use Rattle.rb_machine.specs.Control.{Aim, OnReceiver, ByName, Storing, Creating, Listing, Pairing, Threading, Instead, Create, Initialize, Place, OfLocal, OfField, OfGlobal, OfElement, OfAttribute, ReadOf, RightOf, WriteTo}
use Rattle.rb_machine.specs.Control.{Walking, Style, Lines, Plain, Inspecting, Inspected, Lined, Draft, ForEach, ForText, WriteBehind, LinesBehind, LineOf, TextOf, Locked}
use Rattle.rb_machine.specs.Texts.{max_bytes, shown, inspected, styled}
use Rattle.rb_machine.specs.Drafts.{Needs, Goes, Finished, Element, Copies, is_collection, is_array, draft_of}
use Rattle.rb_machine.specs.Drafts as draft
use Rattle.rb_machine.specs.Methods.{Answer, Gives, Raises, Loops, LoopsOver, Asks, Reads, EachPairOf, Inspects, Synchronizes, deed}

-- the end of a thread
abbrev pub ended : End → ℕ → State
ended e left = On (Ended e) [] (record { me = Nil; locals = [] }) 0 left

abbrev pub raised : Fault → Span → ℕ → State
raised fault at left = ended (Raised fault at) left

-- what the language has and the machine does not mean yet; no accepted script has it
abbrev pub unbuilt : Span → ℕ → State
unbuilt at left = raised NoMethod at left

-- the global variables are the fields of one thing
abbrev pub globals : Reference
globals = record { sort = sort.Object 4294967295; id = record { thread = 0; serial = 0 } }

-- something is asked of a thing
abbrev pub ask : Reference → Act → Span → List Cont → Scope → ℕ → ℕ → State
ask thing act at k sc d left = On (Calling thing act at) k sc d left

-- something is asked of a value; only things have fields
abbrev pub ask_of : Value → Act → Span → List Cont → Scope → ℕ → ℕ → State
ask_of (To thing) act at k sc d left = ask thing act at k sc d left
ask_of v act at k sc d left = raised NoMethod at left

-- something is asked of `self`
abbrev pub own_field : Act → Span → List Cont → Scope → ℕ → ℕ → State
own_field act at k sc d left = ask_of sc.me act at k sc d left

-- a text that is made goes on, unless it is too long
abbrev pub going : Option Draft → Span → List Cont → Scope → ℕ → ℕ → State
going (Some t) at k sc d left = On (Drafting t at) k sc d left
going None at k sc d left = raised TextTooLong at left

-- a text that is made begins to write an element or a pair, with a step, where one is left
abbrev pub start_element : Draft → Span → List Cont → Scope → ℕ → ℕ → State
start_element t at k sc d zero = ended Steps zero
start_element t at k sc d (suc left) = On (Drafting t at) k sc d left

module _ (S : Script) where
  -- ---- methods of the script

  -- the method of a name, and of a text
  abbrev pub named : NameId → List Method → Option Method
  named name methods = find (λ (m : Method). m.name.0 == name.0) methods

  abbrev pub texted : Text → List Method → Option Method
  texted text methods = find (λ (m : Method). bytes_eq (text_of S m.name) text) methods

  abbrev pub methods_in : Option Class → List Method
  methods_in None = []
  methods_in (Some class) = class.methods

  abbrev pub methods_of_sort : Sort → List Method
  methods_of_sort (sort.Object class) = methods_in (slice_get S.program.classes class)
  methods_of_sort other = []

  -- the methods that the class of a value has in the script
  abbrev pub methods_of : Value → List Method
  methods_of (To thing) = methods_of_sort thing.sort
  methods_of v = []

  -- a method begins with its arguments, where they are as many as its parameters
  abbrev pub enter : Method → Value → List Value → Span → List Cont → Scope → ℕ → ℕ → State
  enter m me args at k sc d left =
      if nat_eq (length args) (length m.params)
      then On (Following Nil m.body) (Frame sc ∷ k) (record { me = me; locals = fresh (S.method_names m) args }) d left
      else raised ArgumentCount at left

  -- ---- methods of a receiver

  abbrev pub params_of : Option Block → Option ℕ
  params_of block = option_map (λ (b : Block). length b.params) block

  -- what a built-in method answers
  abbrev pub answered : Answer → Option Block → Span → List Cont → Scope → ℕ → ℕ → State
  answered (Gives v) block at k sc d left = On (Give v) k sc d left
  answered (Raises fault) block at k sc d left = raised fault at left
  answered (Loops turns) (Some block) at k sc d left = On (Turning turns block) k sc d left
  answered (Loops turns) None at k sc d left = raised ArgumentCount at left
  answered (LoopsOver array walk) (Some block) at k sc d left = On (Turning (Walking array 0 walk at) block) k sc d left
  answered (LoopsOver array walk) None at k sc d left = raised ArgumentCount at left
  answered (Asks thing act None) block at k sc d left = ask thing act at k sc d left
  answered (Asks thing act (Some step)) block at k sc d left = ask thing act at (Then step ∷ k) sc d left
  answered (Reads thing purpose) block at k sc d left = On (Reading thing purpose at) k sc d left
  answered (EachPairOf hash) (Some block) at k sc d left = On (Reading hash (ForEach (To hash) block) at) k sc d left
  answered (EachPairOf hash) None at k sc d left = raised ArgumentCount at left
  answered (Inspects collection) block at k sc d left = On (Drafting (draft_of Inspected collection) at) k sc d left
  answered (Synchronizes mutex) (Some block) at k sc d left = ask mutex Lock at (Then (Locked mutex block at) ∷ k) sc d left
  answered (Synchronizes mutex) None at k sc d left = raised ArgumentCount at left

  -- a method of the script takes no block
  abbrev pub invoked : Option Method → Value → Text → List Value → Option Block → Span → List Cont → Scope → ℕ → ℕ → State
  invoked (Some m) receiver name args None at k sc d left = enter m receiver args at k sc d left
  invoked (Some m) receiver name args (Some block) at k sc d left = raised NoMethod at left
  invoked None receiver name args block at k sc d left = answered (deed S.program receiver name args (params_of block)) block at k sc d left

  -- a method of a receiver is called: one of its class, or one that is built in
  abbrev pub invoke : Value → Text → List Value → Option Block → Span → List Cont → Scope → ℕ → ℕ → State
  invoke receiver name args block at k sc d left = invoked (texted name (methods_of receiver)) receiver name args block at k sc d left

  -- ---- methods by their names alone

  -- bytes are shown by one print, where there are any, and then the call has its value
  abbrev pub show : Text → Step → Span → List Cont → Scope → ℕ → ℕ → State
  show [] after at k sc d left = On (Give Nil) (Then after ∷ k) sc d left
  show (b ∷ bs) after at k sc d left =
      if nat_lt max_bytes (length (b ∷ bs)) then raised TextTooLong at left else On (Showing (b ∷ bs)) (Then after ∷ k) sc d left

  -- the value of a call of `p`
  abbrev pub value_of_p : List Value → Step
  value_of_p [] = Instead Nil
  value_of_p (v ∷ []) = Instead v
  value_of_p (v ∷ w ∷ vs) = Create (thing.Elements (v ∷ w ∷ vs))

  -- ---- texts of values

  abbrev pub without_parameters : Option Method → Option Method
  without_parameters None = None
  without_parameters (Some m) = if nat_eq (length m.params) 0 then Some m else None

  -- the method that is asked for the text of a value: `to_s` of its class, where that has no parameters
  abbrev pub own_text : Value → Option Method
  own_text v = without_parameters (texted (codes "to_s") (methods_of v))

  -- the inspected form of a value, and the text of one that is asked by no method, given as a string; that of a collection is made
  abbrev pub give_inspected : Value → Span → List Cont → Scope → ℕ → ℕ → State
  give_inspected v at k sc d left =
      if is_collection v then On (Drafting (draft_of Inspected v) at) k sc d left else On (Give (Str (inspected S.program v))) k sc d left

  abbrev pub give_shown : Value → Span → List Cont → Scope → ℕ → ℕ → State
  give_shown v at k sc d left =
      if is_collection v then On (Drafting (draft_of Inspected v) at) k sc d left else On (Give (Str (shown S.program v))) k sc d left

  abbrev pub text_by : Option Method → Value → Span → List Cont → Scope → ℕ → ℕ → State
  text_by (Some m) v at k sc d left = enter m v [] at (Then (TextOf v) ∷ k) sc d left
  text_by None v at k sc d left = give_shown v at k sc d left

  -- the text of a value, given as a string
  abbrev pub give_text : Value → Span → List Cont → Scope → ℕ → ℕ → State
  give_text v at k sc d left = text_by (own_text v) v at k sc d left

  -- an object whose `to_s` answers no string is told by its class
  abbrev pub text_answered : Value → Value → Value
  text_answered object (Str bytes) = Str bytes
  text_answered object other = Str (shown S.program object)

  abbrev pub bytes_of : Value → List ℕ
  bytes_of (Str bytes) = bytes
  bytes_of other = []

  -- what a text that is made needs next; the collections that are begun count as nodes under evaluation
  abbrev pub drafted : Needs → Span → List Cont → Scope → ℕ → ℕ → State
  drafted (Goes t) at k sc d left = going t at k sc d left
  drafted (Finished text) at k sc d left = On (Give (Str text)) k sc d left
  drafted (Element t) at k sc d left = start_element t at k sc d left
  drafted (Copies thing t) at k sc d left =
      if nat_lt (d + length t.begun) max_depth then On (Reading thing (ForText t) at) k sc d left else raised TooDeep at left
  drafted (draft.Asks v t) at k sc d left = give_text v at (Under d ∷ Then (LineOf t at) ∷ k) sc (d + length t.begun) left

  -- the value of a call that prints
  abbrev pub value_of : Style → Step
  value_of Lines = Instead Nil
  value_of Plain = Instead Nil
  value_of (Inspecting args) = value_of_p args

  -- the text of a value, as it is written behind bytes and before other values; `puts` makes the lines of an array
  abbrev pub give_line : Value → List ℕ → List Value → Span → List Cont → Scope → ℕ → ℕ → State
  give_line v bytes vs at k sc d left =
      if is_array v then On (Drafting (draft_of Lined v) at) (Then (LinesBehind bytes vs at) ∷ k) sc d left
      else give_text v at (Then (WriteBehind Lines bytes vs at) ∷ k) sc d left

  abbrev pub give_styled : Style → Value → List ℕ → List Value → Span → List Cont → Scope → ℕ → ℕ → State
  give_styled Lines v bytes vs at k sc d left = give_line v bytes vs at k sc d left
  give_styled Plain v bytes vs at k sc d left = give_text v at (Then (WriteBehind Plain bytes vs at) ∷ k) sc d left
  give_styled (Inspecting args) v bytes vs at k sc d left = give_inspected v at (Then (WriteBehind (Inspecting args) bytes vs at) ∷ k) sc d left

  -- the values that are left to be printed, behind these bytes
  abbrev pub write : Style → List ℕ → List Value → Span → List Cont → Scope → ℕ → ℕ → State
  write style bytes [] at k sc d left = show bytes (value_of style) at k sc d left
  write style bytes (v ∷ vs) at k sc d left = give_styled style v bytes vs at k sc d left

  -- a text joins what is printed, which may not grow too long
  abbrev pub write_behind : Style → List ℕ → Text → List Value → Span → List Cont → Scope → ℕ → ℕ → State
  write_behind style bytes text vs at k sc d left =
      if nat_lt max_bytes (length (bytes ++ styled style text)) then raised TextTooLong at left else write style (bytes ++ styled style text) vs at k sc d left

  -- the lines of an array join what is printed
  abbrev pub write_lines : List ℕ → Text → List Value → Span → List Cont → Scope → ℕ → ℕ → State
  write_lines bytes text vs at k sc d left =
      if nat_lt max_bytes (length (bytes ++ text)) then raised TextTooLong at left else write Lines (bytes ++ text) vs at k sc d left

  -- `puts` of no value writes a line feed
  abbrev pub put_lines : List Value → Span → List Cont → Scope → ℕ → ℕ → State
  put_lines [] at k sc d left = show (10 ∷ []) (Instead Nil) at k sc d left
  put_lines (v ∷ vs) at k sc d left = write Lines [] (v ∷ vs) at k sc d left

  -- `puts`, `print` and `p`
  abbrev pub print : Text → List Value → Span → List Cont → Scope → ℕ → ℕ → State
  print name args at k sc d left =
      if bytes_eq name (codes "puts") then put_lines args at k sc d left
      else (if bytes_eq name (codes "print") then write Plain [] args at k sc d left
      else (if bytes_eq name (codes "p") then write (Inspecting args) [] args at k sc d left
      else raised NoMethod at left))

  abbrev pub top_level : Option Method → NameId → List Value → Span → List Cont → Scope → ℕ → ℕ → State
  top_level (Some m) name args at k sc d left = enter m Nil args at k sc d left
  top_level None name args at k sc d left = print (text_of S name) args at k sc d left

  abbrev pub own : Option Method → NameId → List Value → Span → List Cont → Scope → ℕ → ℕ → State
  own (Some m) name args at k sc d left = enter m sc.me args at k sc d left
  own None name args at k sc d left = top_level (named name S.program.functions) name args at k sc d left

  -- a call without receiver finds a method of the class of `self`, one of the top level, which has no `self`, or one that prints
  abbrev pub call_by_name : NameId → List Value → Span → List Cont → Scope → ℕ → ℕ → State
  call_by_name name args at k sc d left = own (texted (text_of S name) (methods_of sc.me)) name args at k sc d left

  -- ---- new objects

  -- the number of the class of a name, counted from one that has this number
  abbrev pub class_from : ℕ → NameId → List Class → Option ℕ
  class_from n name [] = None
  class_from n name (c ∷ cs) = if c.name.0 == name.0 then Some n else class_from (suc n) name cs

  -- so many times a value as the elements of a new array
  abbrev pub fill : Value → Value → Span → List Cont → Scope → ℕ → ℕ → State
  fill (Int (pos n)) v at k sc d left = if nat_le n max_elements then On (Making (thing.Elements (replicate n v))) k sc d left else raised ArrayTooLong at left
  fill (Int (negsuc n)) v at k sc d left = raised IndexTooSmall at left
  fill count v at k sc d left = raised TypeMismatch at left

  abbrev pub new_array : List Value → Span → List Cont → Scope → ℕ → ℕ → State
  new_array [] at k sc d left = On (Making (thing.Elements [])) k sc d left
  new_array (count ∷ []) at k sc d left = fill count Nil at k sc d left
  new_array (count ∷ v ∷ []) at k sc d left = fill count v at k sc d left
  new_array args at k sc d left = raised ArgumentCount at left

  abbrev pub new_hash : List Value → Span → List Cont → Scope → ℕ → ℕ → State
  new_hash [] at k sc d left = On (Making (thing.Pairs [])) k sc d left
  new_hash args at k sc d left = raised ArgumentCount at left

  -- a mutex is free in the beginning
  abbrev pub new_mutex : List Value → Span → List Cont → Scope → ℕ → ℕ → State
  new_mutex [] at k sc d left = On (Making (thing.Mutex None)) k sc d left
  new_mutex args at k sc d left = raised ArgumentCount at left

  -- a new thing of a class that is built in
  abbrev pub create_builtin : Text → List Value → Span → List Cont → Scope → ℕ → ℕ → State
  create_builtin name args at k sc d left =
      if bytes_eq name (codes "Array") then new_array args at k sc d left
      else (if bytes_eq name (codes "Hash") then new_hash args at k sc d left
      else (if bytes_eq name (codes "Mutex") then new_mutex args at k sc d left
      else unbuilt at left))

  -- An object of a class has no instance variables yet. Where there is `initialize`, it is called, and its value is not used.
  abbrev pub create : Option ℕ → NameId → List Value → Span → List Cont → Scope → ℕ → ℕ → State
  create (Some class) name args at k sc d left = On (Making (thing.Object class [])) (Then (Initialize args at) ∷ k) sc d left
  create None name args at k sc d left = create_builtin (text_of S name) args at k sc d left

  -- ---- threads

  -- `self`, where it is an object
  abbrev pub self_of : Value → List Value
  self_of (To thing) = To thing ∷ []
  self_of v = []

  -- What the body of a thread is given: the arguments, `self` where the block stands in a method of a class, and the locals that it captures, in
  -- the order of their first use.
  abbrev pub given_to : ℕ → List Value → Scope → List Value
  given_to body args sc = args ++ (self_of sc.me ++ map (λ (name : NameId). look name sc.locals) (S.captured_names body))

  -- a thread takes as many arguments as its block has parameters
  abbrev pub start_body : Option Block → ℕ → List Value → Span → List Cont → Scope → ℕ → ℕ → State
  start_body (Some block) body args at k sc d left =
      if nat_eq (length args) (length block.params) then On (Starting body (given_to body args sc) at) k sc d left else raised ArgumentCount at left
  start_body None body args at k sc d left = unbuilt at left

  abbrev pub start : ℕ → List Value → Span → List Cont → Scope → ℕ → ℕ → State
  start body args at k sc d left = start_body (slice_get S.program.bodies body) body args at k sc d left

  -- ---- literals of hashes

  -- keys and values by turns, as pairs
  abbrev pub pairs_of : List Value → List (Value × Value)
  pairs_of (k ∷ v ∷ vs) = (k, v) ∷ pairs_of vs
  pairs_of others = []

  -- a new hash, where no key is an array or a hash
  abbrev pub pair_up : List (Value × Value) → Span → List Cont → Scope → ℕ → ℕ → State
  pair_up ps at k sc d left =
      if list_any (λ (p : Value × Value). is_collection p.0) ps then raised BadKey at left else On (Making (thing.Pairs (gathered ps))) k sc d left

  -- a class without `initialize` takes no arguments
  abbrev pub initialized : Option Method → Value → List Value → Span → List Cont → Scope → ℕ → ℕ → State
  initialized (Some m) object args at k sc d left = enter m object args at (Then (Instead object) ∷ k) sc d left
  initialized None object [] at k sc d left = On (Give object) k sc d left
  initialized None object (v ∷ vs) at k sc d left = raised ArgumentCount at left

  abbrev pub initialize : Value → List Value → Span → List Cont → Scope → ℕ → ℕ → State
  initialize object args at k sc d left = initialized (texted (codes "initialize") (methods_of object)) object args at k sc d left

  -- the last of values
  abbrev pub last_value : List Value → Value
  last_value [] = Nil
  last_value (v ∷ []) = v
  last_value (v ∷ w ∷ vs) = last_value (w ∷ vs)

  -- the arguments are evaluated
  abbrev pub perform : Aim → List Value → Span → List Cont → Scope → ℕ → ℕ → State
  perform (OnReceiver receiver name block) args at k sc d left = invoke receiver name args block at k sc d left
  perform (ByName name) args at k sc d left = call_by_name name args at k sc d left
  perform (Storing receiver name) args at k sc d left = invoke receiver name args None at (Then (Instead (last_value args)) ∷ k) sc d left
  perform (Creating class) args at k sc d left = create (class_from 0 class S.program.classes) class args at k sc d left
  perform Listing args at k sc d left = On (Making (thing.Elements args)) k sc d left
  perform Pairing args at k sc d left = pair_up (pairs_of args) at k sc d left
  perform (Threading body) args at k sc d left = start body args at k sc d left

  -- ---- assignments with an operator

  abbrev pub operator : AssignOp → Text
  operator op.Plus = codes "+"
  operator op.Minus = codes "-"
  operator op.Times = codes "*"
  operator op.Over = codes "/"
  operator op.Modulo = codes "%"
  operator op.OrElse = []
  operator op.AndThen = []

  -- the target is read
  abbrev pub read_place : Place → AssignOp → Node → Span → List Cont → Scope → ℕ → ℕ → State
  read_place (OfLocal name) o value at k sc d left = On (Give (look name sc.locals)) (Then (ReadOf (OfLocal name) o value at) ∷ k) sc d left
  read_place (OfField name) o value at k sc d left = own_field (GetField name) at (Then (ReadOf (OfField name) o value at) ∷ k) sc d left
  read_place (OfGlobal name) o value at k sc d left = ask globals (GetField name) at (Then (ReadOf (OfGlobal name) o value at) ∷ k) sc d left
  read_place (OfElement receiver index) o value at k sc d left =
      invoke receiver (codes "[]") (index ∷ []) None at (Then (ReadOf (OfElement receiver index) o value at) ∷ k) sc d left
  read_place (OfAttribute receiver name) o value at k sc d left = invoke receiver name [] None at (Then (ReadOf (OfAttribute receiver name) o value at) ∷ k) sc d left

  -- `||=` goes on only where the target is false or nil, and `&&=` only where it is not; other operators are applied to the target and the right side
  abbrev pub decide : Value → Place → AssignOp → Node → Span → List Cont → Scope → ℕ → ℕ → State
  decide v place op.OrElse value at k sc d left = if truthy v then On (Give v) k sc d left else On (Eval value) (Then (WriteTo place at) ∷ k) sc d left
  decide v place op.AndThen value at k sc d left = if truthy v then On (Eval value) (Then (WriteTo place at) ∷ k) sc d left else On (Give v) k sc d left
  decide v place o value at k sc d left = On (Eval value) (Then (RightOf v o at) ∷ Then (WriteTo place at) ∷ k) sc d left

  -- the target is written, and the value written is the value of the assignment
  abbrev pub write_place : Value → Place → Span → List Cont → Scope → ℕ → ℕ → State
  write_place v (OfLocal name) at k sc d left = On (Give v) k (with_locals sc (assign name v sc.locals)) d left
  write_place v (OfField name) at k sc d left = own_field (SetField name v) at (Then (Instead v) ∷ k) sc d left
  write_place v (OfGlobal name) at k sc d left = ask globals (SetField name v) at (Then (Instead v) ∷ k) sc d left
  write_place v (OfElement receiver index) at k sc d left = invoke receiver (codes "[]=") (index ∷ v ∷ []) None at (Then (Instead v) ∷ k) sc d left
  write_place v (OfAttribute receiver name) at k sc d left = invoke receiver (name ++ codes "=") (v ∷ []) None at (Then (Instead v) ∷ k) sc d left
