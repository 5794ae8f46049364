-- What has code, and so have its parts.
use Rattle.std.proofs.Common.{◌≡◌, ◌≢◌, ◌∙◌, ap, refl, sym, ℕ, zero, suc, ◌+◌, ◌<◌, Bool, true, false, List, [], ◌∷◌, ◌++◌, length, get_or, Option, Some, None, map, arith}
use Rattle.std.specs.Prelude.{◌&&◌, ◌||◌, ◌==◌, nat_eq, not, is_some, codes, if◌then◌else◌}
use Rattle.std.specs.Prelude.{Result, Ok, Err, IfErr, IsErrAnd}
use Rattle.std.specs.List.{list_all}
use Rattle.std.specs.Option.{option_map}
use Rattle.rb_tree.specs.declared.span.Span.{Span}
use Rattle.rb_tree.specs.declared.span.NameId.{NameId}
use Rattle.rb_tree.specs.declared.node.AssignOp.{AssignOp}
use Rattle.rb_tree.specs.declared.node.Node.{Node}
use Rattle.rb_tree.specs.declared.node.Node.TheVariants as node
use Rattle.rb_tree.specs.declared.node.Piece.{Piece}
use Rattle.rb_tree.specs.declared.node.Piece.TheVariants as piece
use Rattle.rb_tree.specs.declared.node.Target.{Target}
use Rattle.rb_tree.specs.declared.node.Target.TheVariants as target
use Rattle.rb_tree.specs.declared.node.Block.{Block, out-Block}
use Rattle.rb_tree.specs.declared.node.Class.{Class}
use Rattle.std.specs.Str.{bytes_eq}
use Rattle.std.proofs.lemmas.Bool.Decides.{nat_tests}
use Rattle.rb_lexer.specs.Character.{is_word_part}
use Rattle.rb_tree.specs.declared.node.Method.{Method}
use Rattle.rb_tree.specs.declared.node.Program.{Program}
use Rattle.rb_checker.specs.Scoped as scoped
use Rattle.rb_checker.specs.Captured as captured
use Rattle.rb_machine.specs.Call.{class_from}
use Rattle.rb_machine.specs.Scopes.{Script, Text, name_text, or_else}
use Rattle.rb_code.specs.declared.code.BuiltinClass.TheVariants as builtin_class
use Rattle.rb_code.specs.Resolved.{is_free}
use Rattle.rb_code.specs.Layout.{slot_of}
use Rattle.rb_code.proofs.Dispatched.{conjunction, conjunction_rest}
use Rattle.rb_accepted.specs.Unbuilt.{is_call, is_built_class, has_class, is_builtin}
use Rattle.rb_accepted.specs.Coded.{Coded, every, if_some, is_seen, are_seen, begins_word, has_code_in, method_has_code, member_has_code, class_has_code, bodies_have_code, has_code}
use Rattle.rb_accepted.proofs.Codes.{coded-str, coded-array, coded-hash, coded-local, coded-set_local, coded-set_field, coded-set_global, coded-store, coded-op_assign, coded-call, coded-new, coded-thread_new, coded-and, coded-or, coded-not, coded-if, coded-while, coded-return, coded-piece_code, coded-target_local, coded-index, coded-attribute, coded-block}
use Rattle.rb_resolver.proofs.Numbered.{both, writer_is}
use Rattle.rb_resolver.specs.declared.fault.ResolveFault.{ResolveFault}
use Rattle.rb_resolver.specs.declared.fault.ResolveFault.TheVariants.{Memory}
use Rattle.rb_resolver.specs.Known.{builtin_class_of}
use Rattle.rb_resolver.specs.Names.{script_of}
use Rattle.rb_resolver.specs.Rows.{is_plain, have_words, all_have_words}
use Rattle.rb_resolver.specs.Built.{node_built, piece_built, block_built, body_built, pair_built, pairs_built, text_built, method_built, methods_built, classes_built, bodies_built}

opposite : (b : Bool) → not b ≡ true → b ≡ false
opposite true h = absurd cc
opposite false h = refl

-- a fault that is handed on is want of memory where it was so
pub handed : {A : Type 0} (result : Result A ResolveFault) (e : ResolveFault) → IsErrAnd result (λ f. f ≡ e) → e ≡ Memory → IfErr result (λ f. f ≡ Memory)
handed (Ok a) e h m = tt
handed (Err f) e h m = h ∙ m

-- what has code for names has it for the same names
pub at_scope : (f : Coded) (old new : List NameId) → new ≡ old → f old ≡ true → f new ≡ true
at_scope f old new e h = ap f e ∙ h

-- what is so of all is so of each
pub every_at : {A : Type 0} (f : A → Coded) (xs : List A) (i : ℕ) (x : A) (scope : List NameId) → i < length xs → x ≡ get_or xs i x → every (map f xs) scope ≡ true → f x scope ≡ true
every_at f [] i x scope l at h = absurd (omega (arith, l))
every_at f (y ∷ ys) zero x scope l at h = ap (λ z. f z scope) at ∙ conjunction _ _ h
every_at f (y ∷ ys) (suc i) x scope l at h = every_at f ys i x scope (omega (arith, l)) at (conjunction_rest _ _ h)

pub all_at : {A : Type 0} (p : A → Bool) (xs : List A) (i : ℕ) (x : A) → i < length xs → x ≡ get_or xs i x → list_all p xs ≡ true → p x ≡ true
all_at p [] i x l at h = absurd (omega (arith, l))
all_at p (y ∷ ys) zero x l at h = ap p at ∙ conjunction _ _ h
all_at p (y ∷ ys) (suc i) x l at h = all_at p ys i x (omega (arith, l)) at (conjunction_rest _ _ h)

-- and so of what follows from it
pub all_so : {A : Type 0} (p q : A → Bool) → ((x : A) → p x ≡ true → q x ≡ true) → (xs : List A) → list_all p xs ≡ true → list_all q xs ≡ true
all_so p q so [] h = refl
all_so p q so (x ∷ xs) h = both _ _ (so x (conjunction _ _ h)) (all_so p q so xs (conjunction_rest _ _ h))

-- the body of a number has code where all have
pub body_at : (S : Script) (n : ℕ) (bs : List Block) (i : ℕ) (b : Block) → i < length bs → b ≡ get_or bs i b → bodies_built S n bs ≡ true
    → body_built S b.body (S.thread_names (n + i)) ≡ true
body_at S n [] i b l at h = absurd (omega (arith, l))
body_at S n (c ∷ cs) zero b l at h =
    let here : n + 0 ≡ n = omega arith in
    ap (λ m. body_built S b.body (S.thread_names m)) here ∙ ap (λ (d : Block). body_built S d.body (S.thread_names n)) at ∙ conjunction _ _ h
body_at S n (c ∷ cs) (suc i) b l at h =
    let next : n + suc i ≡ suc n + i = omega arith in
    ap (λ m. body_built S b.body (S.thread_names m)) next ∙ body_at S (suc n) cs i b (omega (arith, l)) at (conjunction_rest (body_built S c.body (S.thread_names n)) _ h)

-- ---- a program that has code

-- methods of classes that have it have words for their names, and code
member_word : (p : Program) (m : Method) → member_has_code p m ≡ true → begins_word (name_text p.names m.name) ≡ true
member_word p m h = conjunction _ _ h

member_code : (p : Program) (m : Method) → member_has_code p m ≡ true → method_built (script_of p) m ≡ true
member_code p m h = conjunction_rest (begins_word (name_text p.names m.name)) _ h

pub words_there : (p : Program) (ks : List Class) → list_all (class_has_code p) ks ≡ true → all_have_words p.names ks ≡ true
words_there p ks h =
    all_so (class_has_code p) (λ (k : Class). have_words p.names k.methods)
    (λ k. all_so (member_has_code p) (λ (m : Method). begins_word (name_text p.names m.name)) (member_word p) k.methods) ks h

pub classes_there : (p : Program) (ks : List Class) → list_all (class_has_code p) ks ≡ true → classes_built (script_of p) ks ≡ true
classes_there p ks h =
    all_so (class_has_code p) (λ (k : Class). methods_built (script_of p) k.methods)
    (λ k. all_so (member_has_code p) (method_built (script_of p)) (member_code p) k.methods) ks h

-- the bodies of its threads
pub bodies_there : (p : Program) (n : ℕ) (bs : List Block) → bodies_have_code p n bs ≡ true → bodies_built (script_of p) n bs ≡ true
bodies_there p n [] h = refl
bodies_there p n (b ∷ bs) h = both _ _ (conjunction _ _ h) (bodies_there p (suc n) bs (conjunction_rest (has_code_in p (captured.thread_names p n) b.body) _ h))

-- and all its parts
pub record HasParts (p : Program) : Type 0 where
  pub in_classes : list_all (class_has_code p) p.classes ≡ true
  pub in_functions : methods_built (script_of p) p.functions ≡ true
  pub in_main : body_built (script_of p) p.main (scoped.main_names p) ≡ true
  pub in_bodies : bodies_built (script_of p) 0 p.bodies ≡ true

pub has_parts : (p : Program) → has_code p ≡ true → HasParts p
has_parts p h =
    let rest = conjunction_rest (list_all (class_has_code p) p.classes) _ h in
    let behind = conjunction_rest (list_all (method_has_code p) p.functions) _ rest in
    record {
      in_classes = conjunction _ _ h;
      in_functions = conjunction _ _ rest;
      in_main = conjunction _ _ behind;
      in_bodies = bodies_there p 0 p.bodies (conjunction_rest (has_code_in p (scoped.main_names p) p.main) _ behind);
    }

module _ (S : Script) (scope : List NameId) where
  abbrev has : Node → Type 0
  has n = node_built S n scope ≡ true

  abbrev all_have : List Node → Type 0
  all_have ns = body_built S ns scope ≡ true

  there : (n m : Node) (b : Bool) → n ≡ m → node_built S m scope ≡ b → has n → b ≡ true
  there n m b is e h = sym (ap (λ x. node_built S x scope) is ∙ e) ∙ h

  pub str_built : (n : Node) (pieces : List Piece) (at : Span) → n ≡ node.Str pieces at → has n → text_built S pieces scope ≡ true
  str_built n pieces at is h = there n _ _ is (coded-str _ _ _ _ scope pieces at) h

  pub array_built : (n : Node) (items : List Node) (at : Span) → n ≡ node.Array items at → has n → all_have items
  array_built n items at is h = there n _ _ is (coded-array _ _ _ _ scope items at) h

  pub hash_built : (n : Node) (pairs : List (Node × Node)) (at : Span) → n ≡ node.Hash pairs at → has n → pairs_built S pairs scope ≡ true
  hash_built n pairs at is h = there n _ _ is (coded-hash _ _ _ _ scope pairs at) h

  pub local_built : (n : Node) (name : NameId) (at : Span) → n ≡ node.Local name at → has n → is_seen name scope ≡ true
  local_built n name at is h = there n _ _ is (coded-local _ _ _ _ scope name at) h

  pub set_local_built : (n : Node) (name : NameId) (value : Node) (at : Span) → n ≡ node.SetLocal name value at → has n
      → (is_seen name scope ≡ true) × has value
  set_local_built n name value at is h = let b = there n _ _ is (coded-set_local _ _ _ _ scope name value at) h in (conjunction _ _ b, conjunction_rest _ _ b)

  pub set_field_built : (n : Node) (name : NameId) (value : Node) (at : Span) → n ≡ node.SetField name value at → has n → has value
  set_field_built n name value at is h = there n _ _ is (coded-set_field _ _ _ _ scope name value at) h

  pub set_global_built : (n : Node) (name : NameId) (value : Node) (at : Span) → n ≡ node.SetGlobal name value at → has n → has value
  set_global_built n name value at is h = there n _ _ is (coded-set_global _ _ _ _ scope name value at) h

  pub store_built : (n : Node) (receiver : Node) (name : NameId) (args : List Node) (at : Span) → n ≡ node.Store receiver name args at → has n → has receiver × all_have args
  store_built n receiver name args at is h = let b = there n _ _ is (coded-store _ _ _ _ scope receiver name args at) h in (conjunction _ _ b, conjunction_rest _ _ b)

  pub update_built : (n : Node) (written : Target) (op : AssignOp) (value : Node) (at : Span) → n ≡ node.OpAssign written op value at → has n → has value
  update_built n written op value at is h = conjunction_rest _ _ (there n _ _ is (coded-op_assign _ _ _ _ scope written op value at) h)

  pub update_local_built : (n : Node) (written : Target) (name : NameId) (op : AssignOp) (value : Node) (at : Span) → n ≡ node.OpAssign written op value at
      → written ≡ target.Local name → has n → is_seen name scope ≡ true
  update_local_built n written name op value at is t h =
      let whole = is ∙ ap (λ w. node.OpAssign w op value at) t in
      sym (coded-target_local _ _ _ _ scope name) ∙ conjunction _ _ (there n _ _ whole (coded-op_assign _ _ _ _ scope (target.Local name) op value at) h)

  pub update_element_built : (n : Node) (written : Target) (receiver index : Node) (op : AssignOp) (value : Node) (at : Span) → n ≡ node.OpAssign written op value at
      → written ≡ target.Index receiver index → has n → has receiver × has index
  update_element_built n written receiver index op value at is t h =
      let whole = is ∙ ap (λ w. node.OpAssign w op value at) t in
      let b = sym (coded-index _ _ _ _ scope receiver index) ∙ conjunction _ _ (there n _ _ whole (coded-op_assign _ _ _ _ scope (target.Index receiver index) op value at) h) in
      (conjunction _ _ b, conjunction_rest _ _ b)

  pub update_attribute_built : (n : Node) (written : Target) (receiver : Node) (name : NameId) (op : AssignOp) (value : Node) (at : Span) → n ≡ node.OpAssign written op value at
      → written ≡ target.Attribute receiver name → has n → (begins_word (name_text S.program.names name) ≡ true) × has receiver
  update_attribute_built n written receiver name op value at is t h =
      let whole = is ∙ ap (λ w. node.OpAssign w op value at) t in
      let b = sym (coded-attribute _ _ _ _ scope receiver name) ∙ conjunction _ _ (there n _ _ whole (coded-op_assign _ _ _ _ scope (target.Attribute receiver name) op value at) h) in
      (conjunction _ _ b, conjunction_rest _ _ b)

  -- a call: its receiver, its arguments and its block
  pub record CallBuilt (receiver : Option Node) (args : List Node) (block : Option Block) : Type 0 where
    pub spelled : is_call (is_some receiver) (is_some block) ≡ false
    pub of_receiver : if_some (option_map (node_built S) receiver) scope ≡ true
    pub of_args : all_have args
    pub of_block : if_some (option_map (block_built S) block) scope ≡ true

  pub call_built : (n : Node) (receiver : Option Node) (name : NameId) (args : List Node) (block : Option Block) (at : Span) → n ≡ node.Call receiver name args block at → has n
      → CallBuilt receiver args block
  call_built n receiver name args block at is h =
      let b = there n _ _ is (coded-call _ _ _ _ scope receiver name args block at) h in
      let rest = conjunction_rest (not (is_call (is_some receiver) (is_some block))) _ b in
      let behind = conjunction_rest (if_some (option_map (node_built S) receiver) scope) _ rest in
      record {
        spelled = opposite _ (conjunction (not (is_call (is_some receiver) (is_some block))) _ b);
        of_receiver = conjunction _ _ rest;
        of_args = conjunction _ _ behind;
        of_block = conjunction_rest (body_built S args scope) _ behind;
      }

  pub new_built : (n : Node) (class : NameId) (args : List Node) (at : Span) → n ≡ node.New class args at → has n
      → (is_built_class S.program.names S.program.classes class ≡ true) × all_have args
  new_built n class args at is h = let b = there n _ _ is (coded-new _ _ _ _ scope class args at) h in (conjunction _ _ b, conjunction_rest _ _ b)

  pub thread_built : (n : Node) (args : List Node) (body : ℕ) (at : Span) → n ≡ node.ThreadNew args body at → has n
      → (are_seen (S.captured_names body) scope ≡ true) × all_have args
  thread_built n args body at is h = let b = there n _ _ is (coded-thread_new _ _ _ _ scope args body at) h in (conjunction _ _ b, conjunction_rest _ _ b)

  pub and_built : (n first second : Node) (at : Span) → n ≡ node.And first second at → has n → has first × has second
  and_built n first second at is h = let b = there n _ _ is (coded-and _ _ _ _ scope first second at) h in (conjunction _ _ b, conjunction_rest _ _ b)

  pub or_built : (n first second : Node) (at : Span) → n ≡ node.Or first second at → has n → has first × has second
  or_built n first second at is h = let b = there n _ _ is (coded-or _ _ _ _ scope first second at) h in (conjunction _ _ b, conjunction_rest _ _ b)

  pub not_built : (n value : Node) (at : Span) → n ≡ node.Not value at → has n → has value
  not_built n value at is h = there n _ _ is (coded-not _ _ _ _ scope value at) h

  pub if_built : (n condition : Node) (first second : List Node) (at : Span) → n ≡ node.If condition first second at → has n → has condition × (all_have first × all_have second)
  if_built n condition first second at is h =
      let b = there n _ _ is (coded-if _ _ _ _ scope condition first second at) h in
      let rest = conjunction_rest (node_built S condition scope) _ b in
      (conjunction _ _ b, (conjunction _ _ rest, conjunction_rest _ _ rest))

  pub while_built : (n condition : Node) (body : List Node) (at : Span) → n ≡ node.While condition body at → has n → has condition × all_have body
  while_built n condition body at is h = let b = there n _ _ is (coded-while _ _ _ _ scope condition body at) h in (conjunction _ _ b, conjunction_rest _ _ b)

  pub return_built : (n : Node) (value : Option Node) (at : Span) → n ≡ node.Return value at → has n → if_some (option_map (node_built S) value) scope ≡ true
  return_built n value at is h = there n _ _ is (coded-return _ _ _ _ scope value at) h

  pub code_built : (p : Piece) (n : Node) → p ≡ piece.Code n → piece_built S p scope ≡ true → has n
  code_built p n is h = sym (ap (λ x. piece_built S x scope) is ∙ coded-piece_code _ _ _ _ scope n) ∙ h

  pub block_body_built : (b : Block) → block_built S b scope ≡ true → body_built S (out-Block b).body (scope ++ S.block_names (out-Block b).at) ≡ true
  block_body_built b h = sym (coded-block _ _ _ _ scope b) ∙ h

-- the code of a call has a receiver and a block where the call has them
pub same_call : {A B : Type 0} (f : A → Node) (g : B → Block) (o : Option A) (p : Option B) (receiver : Option Node) (block : Option Block)
    → option_map f o ≡ receiver → option_map g p ≡ block → is_call (is_some receiver) (is_some block) ≡ false → is_call (is_some o) (is_some p) ≡ false
same_call f g o p receiver block e d h =
    ap (λ r. is_call r (is_some p)) (sym (some_of f o) ∙ ap is_some e) ∙ ap (λ b. is_call (is_some receiver) b) (sym (some_of g p) ∙ ap is_some d) ∙ h
  where
    some_of : {A B : Type 0} (f : A → B) (o : Option A) → is_some (option_map f o) ≡ is_some o
    some_of f None = refl
    some_of f (Some x) = refl

-- ---- names

-- of two, one of which is not so, the other is
other_holds : (a b : Bool) → a ≡ false → (a || b) ≡ true → b ≡ true
other_holds true b e h = absurd cc
other_holds false b e h = h

-- what is so, and is not so, is not
pub both_ways : {b : Bool} → b ≡ true → b ≡ false → ⊥
both_ways {b = true} h e = absurd cc
both_ways {b = false} h e = absurd cc

no_slot : (o : Option ℕ) (b : Bool) → or_else (option_map suc o) (if b then Some 0 else None) ≡ None → (o ≡ None) × (b ≡ false)
no_slot None true e = absurd cc
no_slot None false e = (refl, refl)
no_slot (Some s) b e = absurd cc

-- a name that is seen has a slot
pub seen_has_slot : (name : NameId) (names : List NameId) → is_seen name names ≡ true → slot_of name names ≡ None → ⊥
seen_has_slot name [] h e = absurd cc
seen_has_slot name (n ∷ ns) h e =
    let none = no_slot (slot_of name ns) (n.0 == name.0) e in
    seen_has_slot name ns (other_holds (n.0 == name.0) _ none.1 h) none.0

no_number : (b : Bool) (n : ℕ) (o : Option ℕ) → (if b then Some n else o) ≡ None → (o ≡ None) × (b ≡ false)
no_number true n o e = absurd cc
no_number false n o e = (e, refl)

-- a class that is there has a number
pub class_has_number : (S : Script) (n : ℕ) (name : NameId) (ks : List Class) → has_class ks name ≡ true → class_from S n name ks ≡ None → ⊥
class_has_number S n name [] h e = absurd cc
class_has_number S n name (k ∷ ks) h e =
    let none = no_number (k.name.0 == name.0) n (class_from S (suc n) name ks) e in
    class_has_number S (suc n) name ks (other_holds (k.name.0 == name.0) _ none.1 h) none.0

no_class : (a b c : Bool) → (if a then Some builtin_class.Array else (if b then Some builtin_class.Hash else (if c then Some builtin_class.Mutex else None))) ≡ None
    → ((a || b) || c) ≡ false
no_class true b c e = absurd cc
no_class false true c e = absurd cc
no_class false false true e = absurd cc
no_class false false false e = refl

-- a class of which objects are made is one of the script, or is built in
pub class_is_there : (S : Script) (name : NameId) → is_built_class S.program.names S.program.classes name ≡ true → class_from S 0 name S.program.classes ≡ None
    → builtin_class_of (name_text S.program.names name) ≡ None → ⊥
class_is_there S name h e b = by (has_class S.program.classes name) refl h
  where
    by : (there : Bool) → has_class S.program.classes name ≡ there → (there || is_builtin (name_text S.program.names name)) ≡ true → ⊥
    by true is built = class_has_number S 0 name S.program.classes is e
    by false is built = both_ways built (no_class _ _ _ b)

-- ---- words

-- a byte of a word is not one that is none
other_byte : (b k : ℕ) → is_word_part b ≡ true → is_word_part k ≡ false → nat_eq b k ≡ false
other_byte b k w none = by (nat_eq b k) refl
  where
    by : (same : Bool) → nat_eq b k ≡ same → same ≡ false
    by false e = refl
    by true e =
        let is : b ≡ k = grind (arith, nat_tests, e) in
        absurd (both_ways (sym (ap is_word_part is) ∙ w) none)

other_text : (b : ℕ) (bs : List ℕ) (k : ℕ) (ks : List ℕ) → is_word_part b ≡ true → is_word_part k ≡ false → bytes_eq (b ∷ bs) (k ∷ ks) ≡ false
other_text b bs k ks w none = ap (λ t. t && bytes_eq bs ks) (other_byte b k w none)

-- a word is the text of no operator, and is not empty
pub word_is_plain : (text : Text) → begins_word text ≡ true → is_plain text ≡ true
word_is_plain [] h = absurd cc
word_is_plain (b ∷ bs) h =
    rw (
      other_text b bs 43 [] h refl,
      other_text b bs 45 [] h refl,
      other_text b bs 42 [] h refl,
      other_text b bs 47 [] h refl,
      other_text b bs 37 [] h refl,
      other_text b bs 91 (codes "]") h refl,
      other_text b bs 91 (codes "]=") h refl,
    ) refl

-- and with `=` behind it is the name of no built-in method
pub word_is_free : (text : Text) → begins_word text ≡ true → is_free (text ++ codes "=") ≡ true
word_is_free [] h = absurd cc
word_is_free (b ∷ bs) h =
    rw (
      writer_is (b ∷ bs),
      other_text b bs 61 [] h refl,
      other_text b bs 60 [] h refl,
      other_text b bs 62 [] h refl,
      other_text b bs 91 (codes "]") h refl,
    ) refl
