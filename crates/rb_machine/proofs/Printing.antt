-- What is printed, and what joins a literal: text by text, and as a whole where no `to_s` is asked.
use Rattle.std.proofs.Common.{◌≡◌, ◌<◌, ◌≤◌, ℕ, suc, Bool, true, false, cond, List, [], ◌∷◌, ◌++◌, Option, Some, None, length, arith, refl, sym, ap, ◌∙◌, subst}
use Rattle.std.specs.Prelude.{nat_lt, nat_eq, codes, All}
use Rattle.std.specs.List.{flat_map}
use Rattle.std.proofs.lemmas.Bool.Decides.{nat_tests}
use Rattle.std.proofs.lemmas.List.{length-append, append-nil, append_assoc}
use Rattle.rb_tree.specs.declared.span.Span.{Span}
use Rattle.rb_tree.specs.declared.node.Piece.{Piece}
use Rattle.rb_tree.specs.declared.node.Method.{Method}
use Rattle.rb_model.specs.declared.fault.Fault.TheVariants.{ArgumentCount, TextTooLong}
use Rattle.rb_model.specs.declared.value.Sort.{Sort}
use Rattle.rb_model.specs.declared.value.Sort.TheVariants as sort
use Rattle.rb_model.specs.Values.{Value, Nil, Str, To}
use Rattle.rb_machine.specs.Scopes.{Script, Text, Scope, fresh}
use Rattle.rb_machine.specs.Control.{State, On, Cont, Then, Frame, Give, Following, Showing, Step, Instead, PieceOf, JoinTo, WriteBehind, LinesBehind, TextOf, Style, Lines, Plain, Inspecting, Drafting, Inspected, Lined}
use Rattle.rb_machine.specs.Texts.{max_bytes, shown, inspected, styled}
use Rattle.rb_machine.specs.Drafts.{is_collection_sort, is_collection, is_list_sort, is_array, draft_of}
use Rattle.rb_machine.specs.Call.{raised, texted, methods_of, enter, without_parameters, own_text, text_by, give_text, give_inspected, give_line, text_answered, bytes_of, value_of, value_of_p, show, write, write_behind, put_lines, print}
use Rattle.rb_machine.specs.Give.{join}
use Rattle.rb_machine.specs.Laws.{Quiet, stays, moves}

-- how many parameters a method has, where there is one
count_of : Option Method → ℕ
count_of None = 0
count_of (Some m) = length m.params

-- an array is a collection
no_list : (sort : Sort) → is_collection_sort sort ≡ false → is_list_sort sort ≡ false
no_list sort.List h = absurd (cc)
no_list other h = refl

no_array : (v : Value) → is_collection v ≡ false → is_array v ≡ false
no_array (To thing) h = no_list thing.sort h
no_array v h = refl

module _ (S : Script) where
  quiet_to : (s t u : State) → Quiet S s t → t ≡ u → Quiet S s u
  quiet_to s t u q e = subst (λ u. Quiet S s u) e q

  quiet_from : (s t u : State) → s ≡ t → Quiet S t u → Quiet S s u
  quiet_from s t u e q = subst (λ s. Quiet S s u) (sym e) q

  pub quiet_append : {s t u : State} → Quiet S s t → Quiet S t u → Quiet S s u
  quiet_append (stays s) q = q
  quiet_append (moves s t u e p) q = moves s t _ e (quiet_append p q)

  -- the text of a value, as a style has it
  abbrev pub text_in : Style → Value → Text
  text_in (Inspecting args) v = inspected S.program v
  text_in style v = shown S.program v

  -- what is printed of values one by one
  abbrev pub texts : Style → List Value → Text
  texts style vs = flat_map (λ v. styled style (text_in style v)) vs

  -- what `puts` prints of values
  abbrev pub lines : List Value → Text
  lines [] = 10 ∷ []
  lines (v ∷ vs) = texts Lines (v ∷ vs)

  -- A value gives its text at once: it is no collection, and no `to_s` is asked for it, which is never asked for the form of `inspect`.
  abbrev pub IsReady : Style → Value → Type 0
  IsReady (Inspecting args) v = is_collection v ≡ false
  IsReady style v = (own_text S v ≡ None) × (is_collection v ≡ false)

  -- no `to_s` is asked for the texts of values, and no collection is read
  abbrev pub AreUnasked : List Value → Type 0
  AreUnasked vs = All (λ v. (own_text S v ≡ None) × (is_collection v ≡ false)) vs

  -- such a value gives its text
  pub gives_text : (v : Value) (at : Span) (k : List Cont) (sc : Scope) (d left : ℕ) → own_text S v ≡ None → is_collection v ≡ false
      → give_text S v at k sc d left ≡ On (Give (Str (shown S.program v))) k sc d left
  gives_text v at k sc d left none plain =
      ap (λ m. text_by S m v at k sc d left) none
      ∙ ap (λ t. cond t (On (Drafting (draft_of Inspected v) at) k sc d left) (On (Give (Str (shown S.program v))) k sc d left)) plain

  gives_inspected : (v : Value) (at : Span) (k : List Cont) (sc : Scope) (d left : ℕ) → is_collection v ≡ false → give_inspected S v at k sc d left ≡ On (Give (Str (inspected S.program v))) k sc d left
  gives_inspected v at k sc d left plain = ap (λ t. cond t (On (Drafting (draft_of Inspected v) at) k sc d left) (On (Give (Str (inspected S.program v))) k sc d left)) plain

  gives_line : (v : Value) (bytes : List ℕ) (vs : List Value) (at : Span) (k : List Cont) (sc : Scope) (d left : ℕ) → is_collection v ≡ false
      → give_line S v bytes vs at k sc d left ≡ give_text S v at (Then (WriteBehind Lines bytes vs at) ∷ k) sc d left
  gives_line v bytes vs at k sc d left plain =
      ap (λ t. cond t (On (Drafting (draft_of Lined v) at) (Then (LinesBehind bytes vs at) ∷ k) sc d left) (give_text S v at (Then (WriteBehind Lines bytes vs at) ∷ k) sc d left)) (no_array v plain)

  -- it is given to what is printed
  gives_styled : (style : Style) (bytes : List ℕ) (v : Value) (vs : List Value) (at : Span) (k : List Cont) (sc : Scope) (d left : ℕ) → IsReady style v
      → write S style bytes (v ∷ vs) at k sc d left ≡ On (Give (Str (text_in style v))) (Then (WriteBehind style bytes vs at) ∷ k) sc d left
  gives_styled Lines bytes v vs at k sc d left ready = gives_line v bytes vs at k sc d left ready.1 ∙ gives_text v at (Then (WriteBehind Lines bytes vs at) ∷ k) sc d left ready.0 ready.1
  gives_styled Plain bytes v vs at k sc d left ready = gives_text v at (Then (WriteBehind Plain bytes vs at) ∷ k) sc d left ready.0 ready.1
  gives_styled (Inspecting args) bytes v vs at k sc d left ready = gives_inspected v at (Then (WriteBehind (Inspecting args) bytes vs at) ∷ k) sc d left ready

  -- its text joins a literal
  pub joins : (v : Value) (bytes : List ℕ) (pieces : List Piece) (at : Span) (k : List Cont) (sc : Scope) (d left : ℕ) → own_text S v ≡ None → is_collection v ≡ false
      → Quiet S (On (Give v) (Then (PieceOf bytes pieces at) ∷ k) sc d left) (join bytes (shown S.program v) pieces at k sc d left)
  joins v bytes pieces at k sc d left none plain =
      moves _ _ _ refl (quiet_from _ _ _ (gives_text v at (Then (JoinTo bytes pieces at) ∷ k) sc d left none plain) (moves _ _ _ refl (stays _)))

  -- its text joins what is printed
  pub writes_one : (style : Style) (bytes : List ℕ) (v : Value) (vs : List Value) (at : Span) (k : List Cont) (sc : Scope) (d left : ℕ) → IsReady style v
      → Quiet S (write S style bytes (v ∷ vs) at k sc d left) (write_behind S style bytes (text_in style v) vs at k sc d left)
  writes_one style bytes v vs at k sc d left ready = quiet_from _ _ _ (gives_styled style bytes v vs at k sc d left ready) (moves _ _ _ refl (stays _))

  -- a value of which a `to_s` is asked
  pub asks_text : (v : Value) (m : Method) (at : Span) (k : List Cont) (sc : Scope) (d left : ℕ) → own_text S v ≡ Some m → give_text S v at k sc d left ≡ enter S m v [] at (Then (TextOf v) ∷ k) sc d left
  asks_text v m at k sc d left some = ap (λ m. text_by S m v at k sc d left) some

  chosen : (n m : Method) (t : Bool) → nat_eq (length n.params) 0 ≡ t → cond t (Some n) None ≡ Some m → length m.params ≡ 0
  unfolding count_of
  chosen n m true e is =
      let same = ap count_of is in
      let none : length n.params ≡ 0 = grind (arith, nat_tests, e) in
      omega (arith, same, none)
  chosen n m false e is = absurd (cc)

  no_parameters : (o : Option Method) (m : Method) → without_parameters S o ≡ Some m → length m.params ≡ 0
  no_parameters None m is = absurd (cc)
  no_parameters (Some n) m is = chosen n m (nat_eq (length n.params) 0) refl is

  -- it begins with the value as `self`, and without arguments
  pub begins_text : (v : Value) (m : Method) (at : Span) (k : List Cont) (sc : Scope) (d left : ℕ) → own_text S v ≡ Some m
      → give_text S v at k sc d left ≡ On (Following Nil m.body) (Frame sc ∷ Then (TextOf v) ∷ k) (record { me = v; locals = fresh (S.method_names m) [] }) d left
  begins_text v m at k sc d left some =
      let none : length m.params ≡ 0 = no_parameters (texted S (codes "to_s") (methods_of S v)) m some in
      let as_many : nat_eq 0 (length m.params) ≡ true = grind (arith, nat_tests, none) in
      asks_text v m at k sc d left some
      ∙ ap (λ t. cond t (On (Following Nil m.body) (Frame sc ∷ Then (TextOf v) ∷ k) (record { me = v; locals = fresh (S.method_names m) [] }) d left) (raised ArgumentCount at left)) as_many

  -- what its `to_s` answers joins a literal, or what is printed
  pub joins_answer : (v answer : Value) (bytes : List ℕ) (pieces : List Piece) (at : Span) (k : List Cont) (sc : Scope) (d left : ℕ)
      → Quiet S (On (Give answer) (Then (TextOf v) ∷ Then (JoinTo bytes pieces at) ∷ k) sc d left) (join bytes (bytes_of S (text_answered S v answer)) pieces at k sc d left)
  joins_answer v answer bytes pieces at k sc d left = moves _ _ _ refl (moves _ _ _ refl (stays _))

  pub writes_answer : (v answer : Value) (style : Style) (bytes : List ℕ) (vs : List Value) (at : Span) (k : List Cont) (sc : Scope) (d left : ℕ)
      → Quiet S (On (Give answer) (Then (TextOf v) ∷ Then (WriteBehind style bytes vs at) ∷ k) sc d left) (write_behind S style bytes (bytes_of S (text_answered S v answer)) vs at k sc d left)
  writes_answer v answer style bytes vs at k sc d left = moves _ _ _ refl (moves _ _ _ refl (stays _))

  -- a text that joins what is printed, where that does not grow too long, and where it does
  pub behind_fits : (style : Style) (bytes : List ℕ) (text : Text) (vs : List Value) (at : Span) (k : List Cont) (sc : Scope) (d left : ℕ) → length (bytes ++ styled style text) ≤ max_bytes
      → write_behind S style bytes text vs at k sc d left ≡ write S style (bytes ++ styled style text) vs at k sc d left
  behind_fits style bytes text vs at k sc d left fits =
      let short : nat_lt max_bytes (length (bytes ++ styled style text)) ≡ false = grind (arith, nat_tests, fits) in
      ap (λ t. cond t (raised TextTooLong at left) (write S style (bytes ++ styled style text) vs at k sc d left)) short

  pub behind_long : (style : Style) (bytes : List ℕ) (text : Text) (vs : List Value) (at : Span) (k : List Cont) (sc : Scope) (d left : ℕ) → max_bytes < length (bytes ++ styled style text)
      → write_behind S style bytes text vs at k sc d left ≡ raised TextTooLong at left
  behind_long style bytes text vs at k sc d left long =
      let is_long : nat_lt max_bytes (length (bytes ++ styled style text)) ≡ true = grind (arith, nat_tests, long) in
      ap (λ t. cond t (raised TextTooLong at left) (write S style (bytes ++ styled style text) vs at k sc d left)) is_long

  -- what is too long is not shown
  pub show_long : (bytes : Text) (after : Step) (at : Span) (k : List Cont) (sc : Scope) (d left : ℕ) → max_bytes < length bytes → show S bytes after at k sc d left ≡ raised TextTooLong at left
  show_long [] after at k sc d left long = absurd (omega (arith, long))
  show_long (b ∷ bs) after at k sc d left long =
      let is_long : nat_lt max_bytes (length (b ∷ bs)) ≡ true = grind (arith, nat_tests, long) in
      ap (λ t. cond t (raised TextTooLong at left) (On (Showing (b ∷ bs)) (Then after ∷ k) sc d left)) is_long

  -- where a text already grows too long, the whole is too long
  one_more : (style : Style) (bytes part : List ℕ) (vs : List Value) (at : Span) (k : List Cont) (sc : Scope) (d left : ℕ) (t : Bool) → nat_lt max_bytes (length (bytes ++ part)) ≡ t
      → Quiet S (write S style (bytes ++ part) vs at k sc d left) (show S ((bytes ++ part) ++ texts style vs) (value_of S style) at k sc d left)
      → Quiet S (cond t (raised TextTooLong at left) (write S style (bytes ++ part) vs at k sc d left)) (show S (bytes ++ (part ++ texts style vs)) (value_of S style) at k sc d left)
  one_more style bytes part vs at k sc d left true long later =
      let front : max_bytes < length (bytes ++ part) = grind (arith, nat_tests, long) in
      let whole = ap length (append_assoc bytes part (texts style vs)) in
      let parts = length-append (bytes ++ part) (texts style vs) in
      quiet_to _ _ _ (stays _) (sym (show_long (bytes ++ (part ++ texts style vs)) (value_of S style) at k sc d left (omega (arith, front, whole, parts))))
  one_more style bytes part vs at k sc d left false short later =
      quiet_to _ _ _ later (ap (λ b. show S b (value_of S style) at k sc d left) (append_assoc bytes part (texts style vs)))

  -- the values that are left are printed behind the bytes, as a whole: shown where that is not too long, and refused where it is
  pub writes : (style : Style) (bytes : List ℕ) (vs : List Value) (at : Span) (k : List Cont) (sc : Scope) (d left : ℕ) → All (IsReady style) vs
      → Quiet S (write S style bytes vs at k sc d left) (show S (bytes ++ texts style vs) (value_of S style) at k sc d left)
  writes style bytes [] at k sc d left none = quiet_to _ _ _ (stays _) (ap (λ b. show S b (value_of S style) at k sc d left) (sym (append-nil bytes)))
  writes style bytes (v ∷ vs) at k sc d left none =
      let part = styled style (text_in style v) in
      quiet_append (writes_one style bytes v vs at k sc d left (none 0 v (omega arith)))
      (one_more style bytes part vs at k sc d left (nat_lt max_bytes (length (bytes ++ part))) refl
      (writes style (bytes ++ part) vs at k sc d left (λ i e lt. none (suc i) e (omega (arith, lt)))))

  -- a whole that is too long is refused
  pub refuses : (style : Style) (bytes : List ℕ) (vs : List Value) (at : Span) (k : List Cont) (sc : Scope) (d left : ℕ) → All (IsReady style) vs → max_bytes < length (bytes ++ texts style vs)
      → Quiet S (write S style bytes vs at k sc d left) (raised TextTooLong at left)
  refuses style bytes vs at k sc d left none long =
      quiet_to _ _ _ (writes style bytes vs at k sc d left none) (show_long (bytes ++ texts style vs) (value_of S style) at k sc d left long)

  -- `puts` prints the lines of its values
  pub puts : (vs : List Value) (at : Span) (k : List Cont) (sc : Scope) (d left : ℕ) → AreUnasked vs → Quiet S (put_lines S vs at k sc d left) (show S (lines vs) (Instead Nil) at k sc d left)
  puts [] at k sc d left none = stays _
  puts (v ∷ vs) at k sc d left none = writes Lines [] (v ∷ vs) at k sc d left none

  -- `p` prints the inspected forms of its values
  pub ps : (vs : List Value) (at : Span) (k : List Cont) (sc : Scope) (d left : ℕ) → All (λ v. is_collection v ≡ false) vs
      → Quiet S (print S (codes "p") vs at k sc d left) (show S (texts (Inspecting vs) vs) (value_of_p S vs) at k sc d left)
  ps vs at k sc d left ready = writes (Inspecting vs) [] vs at k sc d left ready
