-- Sums in instance variables.
use Rattle.std.proofs.Common.{◌≡◌, ℕ, ◌+◌, ◌-◌, ◌<◌, ◌≤◌, true, List, [], ◌∷◌, length, map, Some, None, SFits, w64, refl, sym, ap, ◌∙◌, subst, arith}
use Rattle.std.specs.Prelude.{ℤ, pos, negsuc, ◌+ℤ◌, ◌-ℤ◌, ◌^◌, is_some}
use Rattle.std.proofs.Math.IntN.{ -ℤ-+ℤ_cancel}
use Rattle.std.proofs.lemmas.Bool.{lt-ltb}
use mathlib.Core.Logic.{inl}
use Rattle.rb_tree.specs.declared.node.Node.{Node}
use Rattle.rb_tree.specs.declared.node.Node.TheOpen as node
use Rattle.rb_tree.specs.declared.node.Program.{Program}
use Rattle.rb_tree.specs.declared.node.AssignOp.TheVariants as op
use Rattle.rb_tree.specs.declared.span.Span.{Span}
use Rattle.rb_tree.specs.declared.span.NameId.{NameId}
use Rattle.rb_model.specs.declared.value.Ref.{Ref}
use Rattle.rb_model.specs.declared.value.Value.{Value as Held}
use Rattle.rb_model.specs.Values.{Value as Val, Nil, Int, plain}
use Rattle.rb_model.specs.Acts.{GetField, SetField, Value, Done}
use Rattle.rb_model.specs.Log.{Log}
use Rattle.rb_model.specs.Private.{Private, Gives, Becomes, held}
use Rattle.rb_machine.specs.Scopes.{Script, Scope, look, fresh}
use Rattle.rb_machine.specs.Control.{State, On, Cont, Then, Under, Frame, Rest, Eval, Give, Following, RightOf, ReadOf, WriteTo, OfField, Instead}
use Rattle.rb_machine.specs.Call.{enter, operator, read_place}
use Rattle.rb_machine.specs.Methods as methods
use Rattle.rb_machine.specs.Methods.{deed, fits as in_range}
use Rattle.rb_machine.specs.Follows.{At}
use Rattle.rb_builtin.specs.declared.builtin.Builtin.TheVariants as builtin
use Rattle.rb_builtin.specs.Names.{builtin_of}
use Rattle.rb_builtin.proofs.Table.{operation_is}
use Rattle.rb_code.specs.declared.code.Code.{Code}
use Rattle.rb_code.specs.declared.code.Code.TheVariants as code
use Rattle.rb_code.specs.declared.scripted.CodeMethod.{CodeMethod}
use Rattle.rb_code.specs.Erase.{erase, erase_method}
use Rattle.rb_code.specs.Layout.{bound, has_slot}
use Rattle.rb_code.specs.Resolved.{every, fits, method_fits}
use Rattle.rb_code.proofs.Showing.{shows-local, shows-update_field}
use Rattle.rb_code.proofs.Fitting.{fits-local, fits-update_field}
use Rattle.rb_walk.specs.Outcome.{Gave}
use Rattle.rb_walk.specs.Carries.{scope_of, me_of}
use Rattle.rb_walk.specs.Answers.{IsSmall, outcome_of}
use Rattle.rb_walk.specs.Objects.{of_self, updating}
use Rattle.rb_walk.specs.Readers.{Adds}
use Rattle.rb_walk.proofs.Assigning.{closes, opens, parameter_is}
use Rattle.rb_walk.proofs.Lists.{fst, snd}
use Rattle.rb_walk.proofs.Moves.{on, same, begins, counts, gives}
use Rattle.rb_walk.proofs.Calls.{calls, none_plain}
use Rattle.rb_walk.proofs.Places.{operator_number, operates, target_field}
use Rattle.rb_walk.proofs.Objects.{asked_reply, fielded_by}

-- an integer of 64 bits is in the range of the language's integers
in_range_is : (n : ℤ) → SFits w64 n → in_range n ≡ true
in_range_is (pos n) f = lt-ltb n (2 ^ 63) f.sfits
in_range_is (negsuc n) f = lt-ltb n (2 ^ 63) f.sfits

-- what the sum of a difference and its subtrahend is
sum_is : (P : Program) (name : List ℕ) (n sum : ℤ) → SFits w64 sum → builtin_of name ≡ Some builtin.Plus
    → deed P (Int (sum -ℤ n)) name (Int n ∷ []) None ≡ methods.Gives (Int sum)
sum_is P name n sum long plus =
    let whole : (sum -ℤ n) +ℤ n ≡ sum = -ℤ-+ℤ_cancel sum n in
    operation_is P name builtin.Plus (sum -ℤ n) n refl plus ∙ ap methods.integer whole ∙ rw (in_range_is sum long) refl

module _ (S : Script) (N : ℕ) (start : State) where
  -- what is run with an object as `self`
  abbrev scope_on : Ref → List (NameId × Val) → Scope
  scope_on object locals = record { me = me_of (Some object); locals = locals }

  -- an instance variable that holds an integer gets the sum of it and what a node gives in one step
  adds_given : (l : Log) (h h' : Private) (k : List Cont) (object : Ref) (locals : List (NameId × Val)) (d left : ℕ) (name : NameId) (value : Node) (at : Span) (n sum : ℤ)
      → ((waits : List Cont) → At S N start l h (On (Eval value) waits (scope_on object locals) d left) → At S N start l h (On (Give (Int n)) waits (scope_on object locals) d (left - 1))) → SFits w64 sum
      → is_some (held h object.id) ≡ true → Gives h object.id (GetField name) (Value (Int (sum -ℤ n))) → Becomes h object.id (GetField name) h
      → Gives h object.id (SetField name (Int sum)) Done → Becomes h object.id (SetField name (Int sum)) h'
      → At S N start l h (read_place S (OfField name) op.Plus value at k (scope_on object locals) d left)
      → At S N start l h' (On (Give (Int sum)) k (scope_on object locals) d (left - 1))
  adds_given l h h' k object locals d left name value at n sum is long there gave read done put a =
      let sc = scope_on object locals in
      let m = sum -ℤ n in
      let place = OfField name in
      let waits = Then (WriteTo place at) ∷ k in
      let g1 = asked_reply S N start l h h (record { sort = object.sort; id = object.id }) (GetField name) (Value (Int m)) at (Then (ReadOf place op.Plus value at) ∷ k) sc d left there gave read a in
      let g2 = operates S N start h (Int m) place op.Plus value at (λ e. absurd (cc)) (λ e. absurd (cc)) g1 in
      let g3 = is (Then (RightOf (Int m) op.Plus at) ∷ waits) g2 in
      let given = sum_is S.program (operator S op.Plus) n sum long (operator_number S op.Plus) in
      let g4 = calls S N start h l (Int m) (operator S op.Plus) (Int n ∷ []) at waits sc d (left - 1) (Gave (Int sum)) (none_plain S (Int m) (operator S op.Plus) refl) (inl (sym (ap (λ a. outcome_of a at) given))) (on _ g3 refl) in
      let g5 = fielded_by S N start h (me_of (Some object)) name at (WriteTo place at) (updating place (of_self refl)) (Int sum) g4 in
      on _ (asked_reply S N start l h h' (record { sort = object.sort; id = object.id }) (SetField name (Int sum)) Done at (Then (Instead (Int sum)) ∷ k) sc d (left - 1) there done put g5) refl

  -- the same of what a leaf gives
  pub adds : (l : Log) (h h' : Private) (k : List Cont) (object : Ref) (names : List NameId) (size d left : ℕ) (room : List Held) (name : NameId) (value : Code) (at : Span) (n sum : ℤ)
      → IsSmall value room n → fits S value names size ≡ true → length names ≤ length room → 0 < left → d < 1000 → SFits w64 sum
      → is_some (held h object.id) ≡ true → Gives h object.id (GetField name) (Value (Int (sum -ℤ n))) → Becomes h object.id (GetField name) h
      → Gives h object.id (SetField name (Int sum)) Done → Becomes h object.id (SetField name (Int sum)) h'
      → At S N start l h (read_place S (OfField name) op.Plus (erase value) at k (scope_of (me_of (Some object)) names room) d left)
      → At S N start l h' (On (Give (Int sum)) k (scope_of (me_of (Some object)) names room) d (left - 1))
  adds l h h' k object names size d left room name value at n sum is f len more deep long there gave read done put a =
      adds_given l h h' k object (bound names (map plain room)) d left name (erase value) at n sum
      (λ waits b. is S N names size d left start h l waits (me_of (Some object)) f len more deep b) long there gave read done put a

  -- a method that only adds its argument to an instance variable is entered
  pub enters_adder : (l : Log) (h h' : Private) (k : List Cont) (sc : Scope) (d n : ℕ) (object : Ref) (m : CodeMethod) (field : NameId) (place at : Span) (w sum : ℤ)
      → Adds m field place → method_fits S m ≡ true → 1 < n → d < 999 → SFits w64 sum
      → is_some (held h object.id) ≡ true → Gives h object.id (GetField field) (Value (Int (sum -ℤ w))) → Becomes h object.id (GetField field) h
      → Gives h object.id (SetField field (Int sum)) Done → Becomes h object.id (SetField field (Int sum)) h'
      → At S N start l h (enter S (erase_method m) (me_of (Some object)) (Int w ∷ []) at k sc d n)
      → At S N start l h' (On (Give (Int sum)) k sc d (n - 2))
  enters_adder l h h' k sc d n object m field place at w sum r right more deep long there gave read done put a =
      let names = S.method_names (erase_method m) in
      let locals = fresh names (Int w ∷ []) in
      let inner = scope_on object locals in
      let behind = Under d ∷ Then (Rest []) ∷ Frame sc ∷ k in
      let local = code.Local 0 r.name r.from in
      let set = code.UpdateField field op.Plus local place in
      let first : fits S set names m.size ≡ true = fst _ _ (subst (λ (ns : List Code). every (map (fits S) ns) names m.size ≡ true) r.body (snd _ _ (snd _ _ right))) in
      let has : has_slot r.name names 0 ≡ true = sym (fits-update_field S names m.size field op.Plus local place ∙ fits-local S names m.size 0 r.name r.from) ∙ first in
      let argument : look r.name locals ≡ Int w = parameter_is r.name names (Int w ∷ []) 0 (Int w) has refl in
      let e1 = opens S N start h l k sc d n (me_of (Some object)) m (Int w ∷ []) at (sym r.params) a in
      let e2 = same e1 (ap (λ (ns : List Code). On (Following Nil (map erase ns)) (Frame sc ∷ k) inner d n) r.body) in
      let e3 = begins (erase set) _ behind inner (d + 1) (n - 1) (shows-update_field set field op.Plus local place refl) (counts (omega (arith, more)) (omega (arith, deep)) (on _ e2 refl)) in
      let e4 = same e3 (target_field S field op.Plus (erase local) place behind inner (d + 1) (n - 1)) in
      let leaf : (waits : List Cont) → At S N start l h (On (Eval (erase local)) waits inner (d + 1) (n - 1)) → At S N start l h (On (Give (Int w)) waits inner (d + 1) (n - 1 - 1)) = λ waits b. on _ (gives (Int w) argument (begins (erase local) (node.«Node::Local» r.name r.from) (Under (d + 1) ∷ waits) inner (d + 1 + 1) (n - 1 - 1) (shows-local local 0 r.name r.from refl) (counts (omega (arith, more)) (omega (arith, deep)) b))) refl in
      let e5 = adds_given l h h' behind object locals (d + 1) (n - 1) field (erase local) place w sum leaf long there gave read done put e4 in
      let twice : n - 1 - 1 ≡ n - 2 = omega arith in
      closes S N start h' l k sc inner d (n - 2) (Int sum) (on _ (on _ (rw twice at e5) refl) refl)
