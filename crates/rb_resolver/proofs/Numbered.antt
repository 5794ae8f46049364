-- Where the code of calls is right.
use Rattle.std.proofs.Common.{◌≡◌, ℕ, Bool, true, false, cond, List, [], ◌∷◌, ◌++◌, length, map, Option, Some, None, refl, sym, ap, ◌∙◌, eq-eqb, length-append, rules, arith}
use Rattle.std.specs.Prelude.{◌&&◌, ◌||◌, not, is_none, slice_get, unwrap_or}
use Rattle.std.specs.Str.{bytes_eq}
use Rattle.std.specs.HashMap as hash
use Rattle.std.specs.Prelude.{nat_eq, codes}
use Rattle.rb_tree.specs.Texts.{number_of as numbered}
use Rattle.rb_tree.proofs.Numbering.{bytes_eq-same, slice_get-number_of}
use Rattle.rb_tree.specs.declared.span.Span.{Span}
use Rattle.rb_tree.specs.declared.span.NameId.{NameId}
use Rattle.rb_tree.specs.declared.node.AssignOp.{AssignOp}
use Rattle.rb_machine.specs.Scopes.{Script, Text, name_text, text_of}
use Rattle.rb_machine.specs.Call.{class_from}
use Rattle.rb_builtin.specs.declared.builtin.Builtin.{Builtin}
use Rattle.rb_builtin.specs.Names.{builtin_of, same_number}
use Rattle.rb_render.specs.declared.show.Form.{Form}
use Rattle.rb_render.specs.declared.show.Form.TheVariants as form
use Rattle.rb_code.specs.declared.code.BuiltinClass.{BuiltinClass}
use Rattle.rb_code.specs.declared.code.BuiltinClass.TheVariants as builtin_class
use Rattle.rb_code.specs.declared.code.Code.{Code}
use Rattle.rb_code.specs.declared.code.Code.TheVariants as is
use Rattle.rb_code.specs.declared.code.CodeBlock.{CodeBlock}
use Rattle.rb_code.specs.Layout.{is_at}
use Rattle.rb_code.specs.Dispatch.{method_number, in_no_class, is_writer}
use Rattle.rb_code.specs.Resolved.{every, form_text, prints, class_text, function_of, has_number, is_free, same_place, fits, block_fits}
use Rattle.rb_code.proofs.Fitting.{fits-function, fits-own, fits-print, fits-send, fits-operate, fits-walk, fits-store, fits-update_attribute, fits-new, fits-new_builtin}
use Rattle.rb_resolver.specs.Known.{form_of, builtin_class_of, IsKnown}
use Rattle.rb_resolver.specs.declared.known.Known.{Known}
use Rattle.rb_resolver.proofs.Layers.{same_number_itself}

pub both : (a b : Bool) → a ≡ true → b ≡ true → (a && b) ≡ true
both a b h q = rw h q

is_at_itself : (o : Option ℕ) (n : ℕ) → o ≡ Some n → is_at o n ≡ true
is_at_itself o n h = ap (λ o. is_at o n) h ∙ eq-eqb n n refl

same_place_as : (o p : Option ℕ) → p ≡ o → same_place o p ≡ true
same_place_as None p h = ap is_none h
same_place_as (Some n) p h = is_at_itself p n h

-- the form of a text is one whose text it is
chosen : Form → Bool → Bool → Bool → Bool
chosen form.Puts a b c = a
chosen form.Print a b c = b
chosen form.Inspect a b c = c

choice : Bool → Bool → Bool → Option Form
choice a b c = cond a (Some form.Puts) (cond b (Some form.Print) (cond c (Some form.Inspect) None))

choose : (a b c : Bool) (f : Form) → choice a b c ≡ Some f → chosen f a b c ≡ true
unfolding chosen choice
choose true b c form.Puts h = refl
choose true b c form.Print h = absurd (cc)
choose true b c form.Inspect h = absurd (cc)
choose false true c form.Puts h = absurd (cc)
choose false true c form.Print h = refl
choose false true c form.Inspect h = absurd (cc)
choose false false true form.Puts h = absurd (cc)
choose false false true form.Print h = absurd (cc)
choose false false true form.Inspect h = refl
choose false false false f h = absurd (cc)

-- a text without a form prints nothing
none_chosen : (a b c : Bool) → None ≡ choice a b c → not (a || (b || c)) ≡ true
unfolding choice
none_chosen true b c h = absurd (cc)
none_chosen false true c h = absurd (cc)
none_chosen false false true h = absurd (cc)
none_chosen false false false h = refl

no_form : (text : Text) → None ≡ form_of text → not (prints text) ≡ true
unfolding choice
no_form text h = none_chosen (bytes_eq text (codes "puts")) (bytes_eq text (codes "print")) (bytes_eq text (codes "p")) h

form_is : (text : Text) (f : Form) → form_of text ≡ Some f → bytes_eq text (form_text f) ≡ true
unfolding chosen choice
form_is text form.Puts h = choose (bytes_eq text (codes "puts")) (bytes_eq text (codes "print")) (bytes_eq text (codes "p")) form.Puts h
form_is text form.Print h = choose (bytes_eq text (codes "puts")) (bytes_eq text (codes "print")) (bytes_eq text (codes "p")) form.Print h
form_is text form.Inspect h = choose (bytes_eq text (codes "puts")) (bytes_eq text (codes "print")) (bytes_eq text (codes "p")) form.Inspect h

-- the class of a name is one whose name it is
chosen_class : BuiltinClass → (is_array is_hash is_mutex : Bool) → Bool
chosen_class builtin_class.Array a b c = a
chosen_class builtin_class.Hash a b c = b
chosen_class builtin_class.Mutex a b c = c

choose_class : (a b c : Bool) (class : BuiltinClass) → cond a (Some builtin_class.Array) (cond b (Some builtin_class.Hash) (cond c (Some builtin_class.Mutex) None)) ≡ Some class → chosen_class class a b c ≡ true
unfolding chosen_class
choose_class true b c builtin_class.Array h = refl
choose_class true b c builtin_class.Hash h = absurd (cc)
choose_class true b c builtin_class.Mutex h = absurd (cc)
choose_class false true c builtin_class.Array h = absurd (cc)
choose_class false true c builtin_class.Hash h = refl
choose_class false true c builtin_class.Mutex h = absurd (cc)
choose_class false false true builtin_class.Array h = absurd (cc)
choose_class false false true builtin_class.Hash h = absurd (cc)
choose_class false false true builtin_class.Mutex h = refl
choose_class false false false class h = absurd (cc)

class_is : (name : Text) (class : BuiltinClass) → builtin_class_of name ≡ Some class → bytes_eq name (class_text class) ≡ true
unfolding chosen_class
class_is name builtin_class.Array h = choose_class (bytes_eq name (codes "Array")) (bytes_eq name (codes "Hash")) (bytes_eq name (codes "Mutex")) builtin_class.Array h
class_is name builtin_class.Hash h = choose_class (bytes_eq name (codes "Array")) (bytes_eq name (codes "Hash")) (bytes_eq name (codes "Mutex")) builtin_class.Hash h
class_is name builtin_class.Mutex h = choose_class (bytes_eq name (codes "Array")) (bytes_eq name (codes "Hash")) (bytes_eq name (codes "Mutex")) builtin_class.Mutex h

-- the texts with `=` behind them that are names of built-in methods
none_more : (b : Bool) → (b && false) ≡ false
none_more true = refl
none_more false = refl

ends : List ℕ → Bool
ends [] = false
ends (y ∷ []) = nat_eq 61 y
ends (x ∷ y ∷ ys) = ends (y ∷ ys)

is_other : (text word : List ℕ) → ends word ≡ false → bytes_eq (text ++ 61 ∷ []) word ≡ false
unfolding ends
is_other [] [] h = refl
is_other (x ∷ xs) [] h = refl
is_other [] (y ∷ []) h = ap (λ b. b && true) h
is_other [] (y ∷ z ∷ zs) h = none_more (nat_eq 61 y)
is_other (x ∷ xs) (y ∷ []) h = ap (λ b. nat_eq x y && b) (is_other xs [] refl) ∙ none_more (nat_eq x y)
is_other (x ∷ xs) (y ∷ z ∷ zs) h = ap (λ b. nat_eq x y && b) (is_other xs (z ∷ zs) h) ∙ none_more (nat_eq x y)

is_before : (text word : List ℕ) → bytes_eq (text ++ 61 ∷ []) (word ++ 61 ∷ []) ≡ bytes_eq text word
is_before [] [] = refl
is_before (x ∷ []) [] = none_more (nat_eq x 61)
is_before (x ∷ y ∷ ys) [] = none_more (nat_eq x 61)
is_before [] (y ∷ []) = none_more (nat_eq 61 y)
is_before [] (y ∷ z ∷ zs) = none_more (nat_eq 61 y)
is_before (x ∷ xs) (y ∷ ys) = ap (λ b. nat_eq x y && b) (is_before xs ys)

pub writer_is : (text : List ℕ) → is_free (text ++ codes "=")
    ≡ cond (bytes_eq text (codes "=")) false (cond (bytes_eq text (codes "<")) false (cond (bytes_eq text (codes ">")) false (cond (bytes_eq text (codes "[]")) false true)))
unfolding ends
writer_is text =
    rw (
      is_before text (codes "="),
      is_before text (codes "<"),
      is_before text (codes ">"),
      is_before text (codes "[]"),
      is_other text (codes "nil?") refl,
      is_other text (codes "to_s") refl,
      is_other text (codes "inspect") refl,
      is_other text (codes "+") refl,
      is_other text (codes "-") refl,
      is_other text (codes "*") refl,
      is_other text (codes "/") refl,
      is_other text (codes "%") refl,
      is_other text (codes "-@") refl,
      is_other text (codes "<") refl,
      is_other text (codes ">") refl,
      is_other text (codes "times") refl,
      is_other text (codes "upto") refl,
      is_other text (codes "length") refl,
      is_other text (codes "[]") refl,
      is_other text (codes "<<") refl,
      is_other text (codes "push") refl,
      is_other text (codes "unshift") refl,
      is_other text (codes "pop") refl,
      is_other text (codes "shift") refl,
      is_other text (codes "delete_at") refl,
      is_other text (codes "first") refl,
      is_other text (codes "last") refl,
      is_other text (codes "size") refl,
      is_other text (codes "empty?") refl,
      is_other text (codes "clear") refl,
      is_other text (codes "each") refl,
      is_other text (codes "each_with_index") refl,
      is_other text (codes "map") refl,
      is_other text (codes "select") refl,
      is_other text (codes "delete") refl,
      is_other text (codes "key?") refl,
      is_other text (codes "keys") refl,
      is_other text (codes "values") refl,
      is_other text (codes "each_pair") refl,
      is_other text (codes "lock") refl,
      is_other text (codes "unlock") refl,
      is_other text (codes "synchronize") refl,
      is_other text (codes "join") refl,
      is_other text (codes "value") refl,
    )
    (search rules)

-- a number is right where it is that of the text of the name
pub number_fits : (S : Script) (names : List Text) (name : NameId) (number : Option Builtin) → S.program.names ≡ names → number ≡ builtin_of (name_text names name) → has_number S number name ≡ true
number_fits S names name number texts h =
    ap (same_number (builtin_of (text_of S name))) (h ∙ ap (λ ns. builtin_of (name_text ns name)) (sym texts)) ∙ same_number_itself (builtin_of (text_of S name))

pub send_fits : (S : Script) (scope : List NameId) (size : ℕ) (number : Option Builtin) (name : NameId) (receiver : Code) (args : List Code) (at : Span) → has_number S number name ≡ true
    → fits S receiver scope size ≡ true → every (map (fits S) args) scope size ≡ true → fits S (is.Send number name receiver args at) scope size ≡ true
send_fits S scope size number name receiver args at n r a =
    fits-send S scope size number name receiver args at ∙ both _ _ n (both _ _ r a)

pub operate_fits : (S : Script) (scope : List NameId) (size : ℕ) (number : Option Builtin) (name : NameId) (receiver right boxed : Code) (args : List Code) (at : Span) → has_number S number name ≡ true
    → args ≡ right ∷ [] → boxed ≡ right → fits S receiver scope size ≡ true → every (map (fits S) args) scope size ≡ true → fits S (is.Operate number name receiver boxed at) scope size ≡ true
operate_fits S scope size number name receiver right boxed args at n only same r a =
    fits-operate S scope size number name receiver boxed at ∙ both _ _ n (both _ _ r (ap (λ c. fits S c scope size) same ∙ first (fits S right scope size) (sym (ap (λ cs. every (map (fits S) cs) scope size) only) ∙ a)))
  where
    first : (b : Bool) → (b && true) ≡ true → b ≡ true
    first true h = refl
    first false h = h

pub walk_fits : (S : Script) (scope : List NameId) (size : ℕ) (number : Option Builtin) (name : NameId) (receiver : Code) (args : List Code) (block : CodeBlock) (at : Span) → has_number S number name ≡ true
    → fits S receiver scope size ≡ true → every (map (fits S) args) scope size ≡ true → block_fits S block scope size ≡ true → fits S (is.Walk number name receiver args block at) scope size ≡ true
walk_fits S scope size number name receiver args block at n r a b =
    fits-walk S scope size number name receiver args block at ∙ both _ _ n (both _ _ r (both _ _ a b))

pub store_fits : (S : Script) (scope : List NameId) (size : ℕ) (number : Option Builtin) (receiver : Code) (name : NameId) (args : List Code) (at : Span) → has_number S number name ≡ true
    → fits S receiver scope size ≡ true → every (map (fits S) args) scope size ≡ true → fits S (is.Store number receiver name args at) scope size ≡ true
store_fits S scope size number receiver name args at n r a =
    fits-store S scope size number receiver name args at ∙ both _ _ n (both _ _ r a)

module _ (known : Known) (names : List Text) (S : Script) (k : IsKnown known names S) (scope : List NameId) (size : ℕ) where
  pub function_fits : (number : ℕ) (name : NameId) (args : List Code) (at : Span) → Some number ≡ hash.get nat_eq known.functions name.0
      → every (map (fits S) args) scope size ≡ true → fits S (is.Function number name args at) scope size ≡ true
  function_fits number name args at h a =
      fits-function S scope size number name args at ∙ both _ _ (is_at_itself (function_of S name) number (sym (h ∙ k.functions name))) a

  pub print_fits : (f : Form) (name : NameId) (args : List Code) (at : Span) → None ≡ hash.get nat_eq known.functions name.0 → Some f ≡ form_of (name_text names name)
      → every (map (fits S) args) scope size ≡ true → fits S (is.Print f name args at) scope size ≡ true
  print_fits f name args at h is a =
      fits-print S scope size f name args at ∙ both _ _ (sym (ap is_none (h ∙ k.functions name)))
      (both _ _ (form_is (text_of S name) f (ap (λ ns. form_of (name_text ns name)) k.texts ∙ sym is)) a)

  pub own_fits : (name : NameId) (args : List Code) (at : Span) → None ≡ hash.get nat_eq known.functions name.0 → None ≡ form_of (name_text names name)
      → every (map (fits S) args) scope size ≡ true → fits S (is.Own name args at) scope size ≡ true
  own_fits name args at h none a =
      fits-own S scope size name args at ∙ both _ _ (sym (ap is_none (h ∙ k.functions name)))
      (both _ _ (no_form (text_of S name) (none ∙ sym (ap (λ ns. form_of (name_text ns name)) k.texts))) a)

  writer_fits : (writer : Option NameId) (name : NameId) → writer ≡ numbered (name_text names name ++ codes "=") names → is_writer S writer name ≡ true
  writer_fits None name h = ap (λ ns. in_no_class S (name_text ns name ++ codes "=")) k.texts ∙ k.absent (name_text names name ++ codes "=") (sym h)
  writer_fits (Some writer) name h =
      let text = ap (λ ns. name_text ns writer) k.texts ∙ ap (λ o. unwrap_or o []) (slice_get-number_of (name_text names name ++ codes "=") names writer (sym h)) in
      bytes_eq-same (text_of S writer) (text_of S name ++ codes "=") (text ∙ sym (ap (λ ns. name_text ns name ++ codes "=") k.texts))

  pub update_attribute_fits : (number : Option Builtin) (writer : Option NameId) (name : NameId) (receiver : Code) (op : AssignOp) (value : Code) (at : Span)
      → number ≡ builtin_of (name_text names name) → writer ≡ numbered (name_text names name ++ codes "=") names → is_free (name_text names name ++ codes "=") ≡ true
      → fits S receiver scope size ≡ true → fits S value scope size ≡ true → fits S (is.UpdateAttribute number writer name receiver op value at) scope size ≡ true
  update_attribute_fits number writer name receiver op value at n w free r v =
      fits-update_attribute S scope size number writer name receiver op value at
      ∙ both _ _ (number_fits S names name number k.texts n)
      (both _ _ (writer_fits writer name w) (both _ _ (ap (λ ns. is_free (name_text ns name ++ codes "=")) k.texts ∙ free) (both _ _ r v)))

  pub new_fits : (class : ℕ) (first : Option ℕ) (name : NameId) (args : List Code) (at : Span) → Some class ≡ hash.get nat_eq known.classes name.0 → first ≡ unwrap_or (slice_get known.firsts class) None
      → every (map (fits S) args) scope size ≡ true → fits S (is.New class first name args at) scope size ≡ true
  new_fits class first name args at h f a =
      fits-new S scope size class first name args at
      ∙ both _ _ (both _ _ (is_at_itself (class_from S 0 name S.program.classes) class (sym (h ∙ k.classes name))) (same_place_as (method_number S (codes "initialize") class) first (f ∙ k.firsts class))) a

  pub new_builtin_fits : (class : BuiltinClass) (name : NameId) (args : List Code) (at : Span) → None ≡ hash.get nat_eq known.classes name.0 → Some class ≡ builtin_class_of (name_text names name)
      → every (map (fits S) args) scope size ≡ true → fits S (is.NewBuiltin class name args at) scope size ≡ true
  new_builtin_fits class name args at h is a =
      fits-new_builtin S scope size class name args at
      ∙ both _ _ (both _ _ (sym (ap is_none (h ∙ k.classes name))) (class_is (text_of S name) class (ap (λ ns. builtin_class_of (name_text ns name)) k.texts ∙ sym is))) a

-- a list of one
pub only_one : (args rest : List Code) (right : Code) → length args ≡ 1 → args ≡ rest ++ right ∷ [] → args ≡ right ∷ []
only_one args [] right l h = h
only_one args (x ∷ xs) right l h = absurd (omega (arith, l, ap length h, length-append xs (right ∷ [])))
