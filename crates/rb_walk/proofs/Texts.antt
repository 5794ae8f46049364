-- Texts of values, beside the machine.
use mathlib.Core.Logic.{inl, inr}
use Rattle.std.proofs.Common.{◌≡◌, ℕ, zero, suc, ◌+◌, ◌<◌, ◌≤◌, Bool, true, false, cond, List, [], ◌∷◌, length, map, drop, take, get_or, Option, Some, None, refl, sym, ap, ◌∙◌, subst, arith}
use Rattle.std.proofs.lemmas.Bool.Decides.{nat_tests}
use Rattle.std.proofs.lemmas.Slice.Eq.{bytes_eq-Decides}
use Rattle.std.proofs.lemmas.List.{drop_all}
use Rattle.std.specs.Prelude.{codes, nat_eq, nat_lt, slice_get, unwrap_or}
use Rattle.std.specs.Bool.{IsTrue}
use Rattle.std.specs.Str.{bytes_eq}
use Rattle.rb_tree.specs.declared.node.Program.{Program}
use Rattle.rb_tree.specs.declared.node.Method.{Method}
use Rattle.rb_tree.specs.declared.node.Piece.{Piece}
use Rattle.rb_tree.specs.declared.span.NameId.{NameId}
use Rattle.rb_tree.specs.declared.span.Span.{Span}
use Rattle.rb_tree.specs.Texts.{number_of, AreDifferent}
use Rattle.rb_tree.proofs.Numbering.{slice_get-number_of}
use Rattle.rb_model.specs.Values.{Value as Val, Nil, False, True, Int, Sym, Str, To, plain}
use Rattle.rb_model.specs.declared.value.Ref.{Ref}
use Rattle.rb_model.specs.declared.value.Value.{Value as Held}
use Rattle.rb_model.specs.declared.fault.Fault.TheVariants.{ArgumentCount, TextTooLong}
use Rattle.rb_model.specs.Ends as ending
use Rattle.rb_model.specs.Log.{Log}
use Rattle.rb_model.specs.Private.{Private}
use Rattle.rb_machine.specs.Scopes.{Script, Text, Scope, text_of, fresh}
use Rattle.rb_machine.specs.Control.{State, On, Cont, Then, Frame, Give, Following, Drafting, Instead, JoinTo, WriteBehind, LinesBehind, TextOf, Step, Showing, Style, Lines, Plain, Inspecting, Inspected, Lined}
use Rattle.rb_machine.specs.Drafts.{is_collection, is_array, draft_of}
use Rattle.rb_machine.specs.Call.{texted, methods_of, own_text, without_parameters, text_by, give_text, text_answered, write, write_behind, enter, show, raised}
use Rattle.rb_machine.specs.Call as call
use Rattle.rb_machine.specs.Give.{join}
use Rattle.rb_machine.specs.Move.{left_in}
use Rattle.rb_machine.specs.Follows.{At}
use Rattle.rb_machine.specs.Texts.{max_bytes, shown, inspected}
use Rattle.rb_machine.proofs.Printing.{gives_text, asks_text}
use Rattle.rb_render.specs.declared.pieces.Style.{Style as Styled}
use Rattle.rb_render.specs.declared.pieces.Style.TheVariants as styled
use Rattle.rb_render.specs.Forms.{style_of}
use Rattle.rb_code.specs.declared.scripted.CodeMethod.{CodeMethod}
use Rattle.rb_code.specs.declared.scripted.CodeScript.{CodeScript}
use Rattle.rb_code.specs.Erase.{erase_method}
use Rattle.rb_code.specs.Stands.{StandsFor}
use Rattle.rb_code.proofs.Dispatched.{numbered}
use Rattle.rb_walk.specs.declared.came.Came.{Came as Registers}
use Rattle.rb_walk.specs.declared.came.Came.TheVariants as came
use Rattle.rb_walk.specs.declared.came.Leave.{Leave}
use Rattle.rb_walk.specs.declared.came.Leave.TheVariants as leave
use Rattle.rb_walk.specs.Outcome.{Outcome, Gave, Over, Came, is_left, value_of, left_by, outcome}
use Rattle.rb_walk.specs.Methods.{IsTarget, HasNone}
use Rattle.rb_walk.specs.Answers.{OrMemory, is_thing}
use Rattle.rb_walk.specs.Carries.{me_of}
use Rattle.rb_walk.specs.Texts.{IsAsked, IsUnasked, is_text, as_text}
use Rattle.rb_walk.proofs.Lists.{len_map, len_args, get_map, get_drop}
use Rattle.rb_walk.proofs.Moves.{on, same}
use Rattle.rb_walk.proofs.Outcomes.{gave, gone, passes}

-- ---- the method that is asked

-- no method has a text that is no name
module _ (S : Script) (different : AreDifferent S.program.names) (none : number_of (codes "to_s") S.program.names ≡ None) where
  unnamed : (id : NameId) (b : Bool) → bytes_eq (text_of S id) (codes "to_s") ≡ b → b ≡ false
  unnamed id false e = refl
  unnamed id true e =
      let text : text_of S id ≡ codes "to_s" = (bytes_eq-Decides (text_of S id) (codes "to_s")).0 e in
      let some : bytes_eq (text_of S id) [] ≡ false = ap (λ t. bytes_eq t []) text in
      let there : Some id ≡ None = sym (numbered S different id some) ∙ (ap (λ t. number_of t S.program.names) text ∙ none) in
      absurd (cc)

  pub none_texted : (ms : List Method) → texted S (codes "to_s") ms ≡ None
  none_texted [] = refl
  none_texted (m ∷ ms) = ap (λ b. cond b (Some m) (texted S (codes "to_s") ms)) (unnamed m.name (bytes_eq (text_of S m.name) (codes "to_s")) refl) ∙ none_texted ms

-- a value of a script where `to_s` is no name is asked by none
pub unnamed_is : (c : CodeScript) (program : Program) (v : Val) → AreDifferent program.names → number_of (codes "to_s") program.names ≡ None → IsUnasked c program v
unnamed_is c program v different none = λ S st e.
    ap (without_parameters S)
    (none_texted S (subst (λ (P : Program). AreDifferent P.names) (sym e) different) (ap (λ (P : Program). number_of (codes "to_s") P.names) e ∙ none) (methods_of S v))

-- the text of a number is the text that has it
text_is : (S : Script) (program : Program) (name : NameId) (text : Text) → S.program ≡ program → number_of text program.names ≡ Some name → text_of S name ≡ text
text_is S program name text e is = ap (λ (P : Program). unwrap_or (slice_get P.names name.0) []) e ∙ ap (λ o. unwrap_or o []) (slice_get-number_of text program.names name is)

-- nor one that has none
pub none_is : (c : CodeScript) (program : Program) (v : Val) (name : NameId) → number_of (codes "to_s") program.names ≡ Some name → HasNone c v name → IsUnasked c program v
none_is c program v name is none = λ S st e. ap (without_parameters S) (sym (ap (λ text. texted S text (methods_of S v)) (text_is S program name (codes "to_s") e is)) ∙ none S st)

-- nor one whose `to_s` has parameters
pub other_is : (c : CodeScript) (program : Program) (v : Val) (name : NameId) (object : Ref) (m : CodeMethod) → number_of (codes "to_s") program.names ≡ Some name → IsTarget c v name object m → (length m.params ≡ 0 → ⊥) → IsUnasked c program v
other_is c program v name object m is target some = λ S st e.
    let t : nat_eq (length m.params) 0 ≡ false = grind (arith, nat_tests, some) in
    ap (without_parameters S) (sym (ap (λ text. texted S text (methods_of S v)) (text_is S program name (codes "to_s") e is)) ∙ target.finds S st)
    ∙ ap (λ b. cond b (Some (erase_method m)) None) t

pub asked_is : (c : CodeScript) (program : Program) (v : Val) (name : NameId) (object : Ref) (m : CodeMethod) → number_of (codes "to_s") program.names ≡ Some name → IsTarget c v name object m → length m.params ≡ 0 → IsAsked c program v object m
asked_is c program v name object m is target none =
    let t : nat_eq (length m.params) 0 ≡ true = grind (arith, nat_tests, none) in
    record {
      me = target.me;
      finds = λ S st e.
          ap (without_parameters S) (sym (ap (λ text. texted S text (methods_of S v)) (text_is S program name (codes "to_s") e is)) ∙ target.finds S st)
          ∙ ap (λ b. cond b (Some (erase_method m)) None) t;
      right = target.right;
    }

-- whether a list is empty
pub empty_none : {A : Type 0} (xs : List A) (b : Bool) → b ≡ false → (IsTrue b → xs ≡ []) × (xs ≡ [] → IsTrue b) → length xs ≡ 0 → ⊥
empty_none [] b h f e = let t : b ≡ true = f.1 refl in absurd (cc)
empty_none (x ∷ xs) b h f e = absurd (omega (arith, e))

pub empty_some : {A : Type 0} (xs : List A) (b : Bool) → b ≡ true → (IsTrue b → xs ≡ []) × (xs ≡ [] → IsTrue b) → length xs ≡ 0
empty_some xs b h f = ap length (f.0 h)

-- a value that is no thing is asked by none
pub plain_unasked : (S : Script) (v : Val) → is_thing v ≡ false → own_text S v ≡ None
plain_unasked S Nil h = refl
plain_unasked S False h = refl
plain_unasked S True h = refl
plain_unasked S (Int n) h = refl
plain_unasked S (Sym name) h = refl
plain_unasked S (Str bytes) h = refl
plain_unasked S (To thing) h = absurd (cc)

-- nor is one that registers hold
pub registers_unasked : (S : Script) (c : Registers) (w : Held) → is_left c ≡ false → (c ≡ came.Other → ⊥) → own_text S (value_of c w) ≡ None
registers_unasked S came.Nil w h n = refl
registers_unasked S came.False w h n = refl
registers_unasked S came.True w h n = refl
registers_unasked S (came.Int i) w h n = refl
registers_unasked S came.Other w h n = absurd (n refl)
registers_unasked S came.Left w h n = absurd (cc)

-- nor is it a collection
pub registers_plain : (c : Registers) (w : Held) → is_left c ≡ false → (c ≡ came.Other → ⊥) → is_collection (value_of c w) ≡ false
registers_plain came.Nil w h n = refl
registers_plain came.False w h n = refl
registers_plain came.True w h n = refl
registers_plain (came.Int i) w h n = refl
registers_plain came.Other w h n = absurd (n refl)
registers_plain came.Left w h n = absurd (cc)

-- ---- what a `to_s` answers

pub answers_text : (S : Script) (v answer : Val) → is_text answer ≡ true → text_answered S v answer ≡ Str (shown S.program answer)
answers_text S v (Str bytes) h = refl
answers_text S v Nil h = absurd (cc)
answers_text S v False h = absurd (cc)
answers_text S v True h = absurd (cc)
answers_text S v (Int n) h = absurd (cc)
answers_text S v (Sym name) h = absurd (cc)
answers_text S v (To thing) h = absurd (cc)

pub answers_none : (S : Script) (v answer : Val) → is_text answer ≡ false → text_answered S v answer ≡ Str (shown S.program v)
answers_none S v (Str bytes) h = absurd (cc)
answers_none S v Nil h = refl
answers_none S v False h = refl
answers_none S v True h = refl
answers_none S v (Int n) h = refl
answers_none S v (Sym name) h = refl
answers_none S v (To thing) h = refl

-- an outcome without a value is told as it is
left_told : (program : Program) (x : Leave) (w : Held) → as_text program (left_by x w) ≡ left_by x w
left_told program leave.Break w = refl
left_told program leave.Next w = refl
left_told program leave.Return w = refl
left_told program (leave.Over e) w = refl

pub told_left : (program : Program) (c : Registers) (w : Held) (x : Leave) → is_left c ≡ true → as_text program (outcome c w x) ≡ outcome c w x
told_left program c w x h = ap (as_text program) (gone c w x h) ∙ (left_told program x w ∙ sym (gone c w x h))

pub told_gave : (program : Program) (c : Registers) (w : Held) (x : Leave) → is_left c ≡ false → as_text program (outcome c w x) ≡ Gave (Str (shown program (value_of c w)))
told_gave program c w x h = ap (as_text program) (gave c w x h)

module _ (S : Script) (N : ℕ) (start : State) (h : Private) where
  -- a value that no method is asked for is told as it is
  pub told_itself : (l : Log) (at : Span) (k : List Cont) (sc : Scope) (d n : ℕ) (program : Program) (c : Registers) (w : Held) (x : Leave) → S.program ≡ program → is_left c ≡ false → own_text S (value_of c w) ≡ None → is_collection (value_of c w) ≡ false
      → At S N start l h (give_text S (value_of c w) at k sc d n) → Came S N start l h (as_text program (outcome c w x)) k sc d n
  told_itself l at k sc d n program c w x e came none plain a =
      subst (λ o. Came S N start l h o k sc d n) (sym (told_gave program c w x came))
      (subst (λ P. At S N start l h (On (Give (Str (shown P (value_of c w)))) k sc d n)) e (same a (gives_text S (value_of c w) at k sc d n none plain)))

  -- one that a method is asked for begins it
  pub told_enters : (l : Log) (at : Span) (k : List Cont) (sc : Scope) (d n : ℕ) (c : Registers) (w : Held) (script : CodeScript) (program : Program) (object : Ref) (m : CodeMethod) → c ≡ came.Other → IsAsked script program (plain w) object m
      → StandsFor script S → S.program ≡ program → At S N start l h (give_text S (value_of c w) at k sc d n)
      → At S N start l h (enter S (erase_method m) (me_of (Some object)) [] at (Then (TextOf (me_of (Some object))) ∷ k) sc d n)
  told_enters l at k sc d n c w script program object m is asked st e a =
      same a
      (ap (λ c. give_text S (value_of c w) at k sc d n) is
      ∙ (asks_text S (plain w) (erase_method m) at k sc d n (asked.finds S st e)
      ∙ ap (λ v. enter S (erase_method m) v [] at (Then (TextOf v) ∷ k) sc d n) asked.me))

  -- one that is asked by a method is told as this leaves, as it answers, or as it is
  pub told_leaving : (l : Log) (k : List Cont) (sc : Scope) (d n : ℕ) (v : Val) (program : Program) (c : Registers) (w : Held) (x : Leave) → is_left c ≡ true
      → Came S N start l h (outcome c w x) (Then (TextOf v) ∷ k) sc d n → Came S N start l h (as_text program (outcome c w x)) k sc d n
  told_leaving l k sc d n v program c w x left a =
      subst (λ o. Came S N start l h o k sc d n) (sym (told_left program c w x left)) (passes S N start h c w x l (TextOf v) k sc d n left a)

  answered : (l : Log) (k : List Cont) (sc : Scope) (d n : ℕ) (v : Val) (c : Registers) (w : Held) (x : Leave) → is_left c ≡ false
      → Came S N start l h (outcome c w x) (Then (TextOf v) ∷ k) sc d n → At S N start l h (On (Give (text_answered S v (value_of c w))) k sc d n)
  answered l k sc d n v c w x came a = on _ (subst (λ o. Came S N start l h o (Then (TextOf v) ∷ k) sc d n) (gave c w x came) a) refl

  pub told_answer : (l : Log) (k : List Cont) (sc : Scope) (d n : ℕ) (v : Val) (program : Program) (c : Registers) (w : Held) (x : Leave) → S.program ≡ program → is_left c ≡ false → is_text (value_of c w) ≡ true
      → Came S N start l h (outcome c w x) (Then (TextOf v) ∷ k) sc d n → Came S N start l h (as_text program (outcome c w x)) k sc d n
  told_answer l k sc d n v program c w x e came text a =
      subst (λ o. Came S N start l h o k sc d n) (sym (told_gave program c w x came))
      (subst (λ P. At S N start l h (On (Give (Str (shown P (value_of c w)))) k sc d n)) e
      (same (answered l k sc d n v c w x came a) (ap (λ u. On (Give u) k sc d n) (answers_text S v (value_of c w) text))))

  pub told_by_class : (l : Log) (k : List Cont) (sc : Scope) (d n : ℕ) (v : Val) (program : Program) (c : Registers) (w : Held) (x : Leave) (o : Outcome) → S.program ≡ program → is_left c ≡ false → is_text (value_of c w) ≡ false → o ≡ Gave v
      → Came S N start l h (outcome c w x) (Then (TextOf v) ∷ k) sc d n → Came S N start l h (as_text program o) k sc d n
  told_by_class l k sc d n v program c w x o e came text is a =
      subst (λ o. Came S N start l h (as_text program o) k sc d n) (sym is)
      (subst (λ P. At S N start l h (On (Give (Str (shown P v))) k sc d n)) e
      (same (answered l k sc d n v c w x came a) (ap (λ u. On (Give u) k sc d n) (answers_none S v (value_of c w) text))))

  -- ---- where a text goes on

  -- the text that came is given
  pub told_gives : (l : Log) (k : List Cont) (sc : Scope) (d n : ℕ) (program : Program) (c : Registers) (w : Held) (x : Leave) → is_left c ≡ false
      → Came S N start l h (as_text program (outcome c w x)) k sc d n → At S N start l h (On (Give (Str (shown program (value_of c w)))) k sc d n)
  told_gives l k sc d n program c w x came a = subst (λ o. Came S N start l h o k sc d n) (told_gave program c w x came) a

  pub told_passes : (l : Log) (k : List Cont) (sc : Scope) (d n : ℕ) (step : Cont) (program : Program) (c : Registers) (w : Held) (x : Leave) → is_left c ≡ true
      → Came S N start l h (as_text program (outcome c w x)) (step ∷ k) sc d n → Came S N start l h (outcome c w x) (step ∷ k) sc d n
  told_passes l k sc d n step program c w x left a = subst (λ o. Came S N start l h o (step ∷ k) sc d n) (told_left program c w x left) a

  -- it joins a literal
  pub told_joins : (l : Log) (bytes : List ℕ) (ps : List Piece) (at : Span) (k : List Cont) (sc : Scope) (d n : ℕ) (program : Program) (c : Registers) (w : Held) (x : Leave) → is_left c ≡ false
      → Came S N start l h (as_text program (outcome c w x)) (Then (JoinTo bytes ps at) ∷ k) sc d n → At S N start l h (join bytes (shown program (value_of c w)) ps at k sc d n)
  told_joins l bytes ps at k sc d n program c w x came a =
      on _ (subst (λ o. Came S N start l h o (Then (JoinTo bytes ps at) ∷ k) sc d n) (told_gave program c w x came) a) refl

  -- or what is printed
  pub told_writes : (l : Log) (style : Style) (bytes : List ℕ) (vs : List Val) (at : Span) (k : List Cont) (sc : Scope) (d n : ℕ) (program : Program) (c : Registers) (w : Held) (x : Leave) → is_left c ≡ false
      → Came S N start l h (as_text program (outcome c w x)) (Then (WriteBehind style bytes vs at) ∷ k) sc d n → At S N start l h (write_behind S style bytes (shown program (value_of c w)) vs at k sc d n)
  told_writes l style bytes vs at k sc d n program c w x came a =
      on _ (subst (λ o. Came S N start l h o (Then (WriteBehind style bytes vs at) ∷ k) sc d n) (told_gave program c w x came) a) refl

-- how many steps are left where a text is asked for
entered_left : (S : Script) (m : Method) (v : Val) (at : Span) (k : List Cont) (sc : Scope) (d n : ℕ) (b : Bool)
    → left_in (cond b (On (Following Nil m.body) (Frame sc ∷ k) (record { me = v; locals = fresh (S.method_names m) [] }) d n) (raised ArgumentCount at n)) ≡ n
entered_left S m v at k sc d n true = refl
entered_left S m v at k sc d n false = refl

-- how many steps are left where the text of a value is given or made
shown_left : (S : Script) (t : Bool) (a b : State) (n : ℕ) → left_in a ≡ n → left_in b ≡ n → left_in (cond t a b) ≡ n
shown_left S true a b n p q = p
shown_left S false a b n p q = q

text_left_by : (S : Script) (o : Option Method) (v : Val) (at : Span) (k : List Cont) (sc : Scope) (d n : ℕ) → left_in (text_by S o v at k sc d n) ≡ n
text_left_by S None v at k sc d n = shown_left S (is_collection v) (On (Drafting (draft_of Inspected v) at) k sc d n) (On (Give (Str (shown S.program v))) k sc d n) n refl refl
text_left_by S (Some m) v at k sc d n = entered_left S m v at (Then (TextOf v) ∷ k) sc d n (nat_eq 0 (length m.params))

pub text_left : (S : Script) (v : Val) (at : Span) (k : List Cont) (sc : Scope) (d n : ℕ) → left_in (give_text S v at k sc d n) ≡ n
text_left S v at k sc d n = text_left_by S (own_text S v) v at k sc d n

show_left : (S : Script) (bytes : Text) (after : Step) (at : Span) (k : List Cont) (sc : Scope) (d n : ℕ) → left_in (show S bytes after at k sc d n) ≡ n
show_left S [] after at k sc d n = refl
show_left S (b ∷ bs) after at k sc d n = shown_left S (nat_lt max_bytes (length (b ∷ bs))) (raised TextTooLong at n) (On (Showing (b ∷ bs)) (Then after ∷ k) sc d n) n refl refl

pub write_left : (S : Script) (style : Style) (bytes : List ℕ) (vs : List Val) (at : Span) (k : List Cont) (sc : Scope) (d n : ℕ) → left_in (write S style bytes vs at k sc d n) ≡ n
write_left S style bytes [] at k sc d n = show_left S bytes (call.value_of S style) at k sc d n
write_left S Lines bytes (v ∷ vs) at k sc d n =
    shown_left S (is_array v) (On (Drafting (draft_of Lined v) at) (Then (LinesBehind bytes vs at) ∷ k) sc d n) (give_text S v at (Then (WriteBehind Lines bytes vs at) ∷ k) sc d n) n refl (text_left S v at (Then (WriteBehind Lines bytes vs at) ∷ k) sc d n)
write_left S Plain bytes (v ∷ vs) at k sc d n = text_left S v at (Then (WriteBehind Plain bytes vs at) ∷ k) sc d n
write_left S (Inspecting args) bytes (v ∷ vs) at k sc d n =
    let behind = Then (WriteBehind (Inspecting args) bytes vs at) ∷ k in
    shown_left S (is_collection v) (On (Drafting (draft_of Inspected v) at) behind sc d n) (On (Give (Str (inspected S.program v))) behind sc d n) n refl refl

-- a copy of a value came, or memory was wanted for it
pub copy_came : (c : Registers) (w : Held) (x : Leave) (v : Val) → is_left c ≡ false → OrMemory (Gave v) (outcome c w x) → value_of c w ≡ v
copy_came c w x v came (inl e) = let q : Gave (value_of c w) ≡ Gave v = sym (gave c w x came) ∙ e in cc
copy_came c w x v came (inr e) = let q : Gave (value_of c w) ≡ Over ending.Memory = sym (gave c w x came) ∙ e in absurd (cc)

not_gave : (x : Leave) (w : Held) (v : Val) → left_by x w ≡ Gave v → ⊥
not_gave leave.Break w v e = cc
not_gave leave.Next w v e = cc
not_gave leave.Return w v e = cc
not_gave (leave.Over how) w v e = cc

pub copy_left : (c : Registers) (w : Held) (x : Leave) (v : Val) → is_left c ≡ true → OrMemory (Gave v) (outcome c w x) → outcome c w x ≡ Over ending.Memory
copy_left c w x v left (inl e) = absurd (not_gave x w v (sym (gone c w x left) ∙ e))
copy_left c w x v left (inr e) = e

-- ---- values one by one

-- an item that is read is the one that stands there
pub read_item : {A : Type 0} (xs : List A) (i : ℕ) (v w : A) → slice_get xs i ≡ Some v → w ≡ get_or xs i w → w ≡ v
read_item [] i v w e f = absurd (cc)
read_item (x ∷ xs) zero v w e f = let q : x ≡ v = cc in f ∙ q
read_item (x ∷ xs) (suc i) v w e f = read_item xs i v w e f

drop_next : {A : Type 0} (xs : List A) (i : ℕ) (x : A) → slice_get xs i ≡ Some x → drop i xs ≡ x ∷ drop (i + 1) xs
drop_next [] i x e = absurd (cc)
drop_next (y ∷ ys) zero x e = let f : y ≡ x = cc in rw f refl
drop_next (y ∷ ys) (suc i) x e = let q : suc i + 1 ≡ suc (i + 1) = omega arith in rw q (drop_next ys i x e)

get_take : {A : Type 0} (xs : List A) (n i : ℕ) → i < n → slice_get (take n xs) i ≡ slice_get xs i
get_take xs zero i h = absurd (omega (arith, h))
get_take [] (suc n) i h = refl
get_take (x ∷ xs) (suc n) zero h = refl
get_take (x ∷ xs) (suc n) (suc i) h = get_take xs n i (omega (arith, h))

-- the value that is next to be written
pub next_value : (room : List Held) (first count i : ℕ) (v : Held) → i < count → slice_get room (first + i) ≡ Some v
    → drop i (map plain (take count (drop first room))) ≡ plain v ∷ drop (i + 1) (map plain (take count (drop first room)))
next_value room first count i v h e =
    drop_next (map plain (take count (drop first room))) i (plain v)
    (get_map plain (take count (drop first room)) i (Some v) (get_take (drop first room) count i h ∙ (get_drop room first i ∙ e)))

-- and where there is none
pub no_value : (room : List Held) (first count i : ℕ) → first + count ≤ length room → count ≤ i → drop i (map plain (take count (drop first room))) ≡ []
no_value room first count i h q =
    let many : length (map plain (take count (drop first room))) ≡ count = len_map plain (take count (drop first room)) ∙ len_args room first count h in
    drop_all i (map plain (take count (drop first room))) (omega (arith, many, q))

module _ (S : Script) (N : ℕ) (start : State) (h : Private) where
  -- all are written
  pub shows_all : (l : Log) (style : Style) (bytes : List ℕ) (rest : List Val) (at : Span) (k : List Cont) (sc : Scope) (d n : ℕ) → rest ≡ [] → call.value_of S style ≡ Instead Nil
      → At S N start l h (write S style bytes rest at k sc d n) → At S N start l h (show S bytes (Instead Nil) at k sc d n)
  shows_all l style bytes rest at k sc d n e v a = same a (ap (λ vs. write S style bytes vs at k sc d n) e ∙ ap (λ step. show S bytes step at k sc d n) v)

-- what `puts` and `print` give is nil
pub gives_nil : (S : Script) (style : Styled) → call.value_of S (style_of style) ≡ Instead Nil
gives_nil S styled.Lines = refl
gives_nil S styled.Plain = refl
