-- Assignments with an operator, beside the machine.
use Rattle.std.proofs.Common.{◌≡◌, ℕ, ◌≤◌, true, false, cond, List, ◌∷◌, ◌++◌, length, map, Option, Some, refl, ap, ◌∙◌, arith, rules}
use Rattle.std.specs.Prelude.{◌&&◌, slice_get, codes}
use Rattle.rb_tree.specs.declared.span.Span.{Span}
use Rattle.rb_tree.specs.declared.span.NameId.{NameId}
use Rattle.rb_tree.specs.declared.node.AssignOp.{AssignOp}
use Rattle.rb_tree.specs.declared.node.AssignOp.TheVariants as op
use Rattle.rb_tree.specs.declared.node.Node.{Node, the_lemmas}
use Rattle.rb_tree.specs.declared.node.Node.TheOpen as node
use Rattle.rb_tree.specs.declared.node.Target.{out-Target}
use Rattle.rb_tree.specs.declared.node.Target.TheVariants as target
use Rattle.rb_model.specs.Values.{Value as Val, plain, truthy}
use Rattle.rb_model.specs.declared.value.Value.{Value as Held}
use Rattle.rb_model.specs.Log.{Log}
use Rattle.rb_model.specs.Private.{Private}
use Rattle.rb_machine.specs.Scopes.{Script, Scope, look, text_of}
use Rattle.rb_machine.specs.Control.{State, On, Cont, Then, Eval, Give, Place, ReadOf, RightOf, WriteTo}
use Rattle.rb_machine.specs.Begin.{begin_target}
use Rattle.rb_machine.specs.Call.{decide, operator}
use Rattle.rb_machine.specs.Move.{Go}
use Rattle.rb_machine.specs.Follows.{At}
use Rattle.rb_builtin.specs.declared.builtin.Builtin.{Builtin}
use Rattle.rb_builtin.specs.Names.{builtin_of}
use Rattle.rb_code.specs.declared.code.Code.{Code}
use Rattle.rb_code.specs.Resolved.{fits, has_number, is_free}
use Rattle.rb_code.specs.Layout.{bound, has_slot}
use Rattle.rb_code.specs.Dispatch.{is_writer}
use Rattle.rb_code.proofs.Slots.{slot_within}
use Rattle.rb_walk.specs.Outcome.{Outcome, Gave, Came}
use Rattle.rb_walk.specs.Carries.{scope_of, both, attribute, written_by}
use Rattle.rb_walk.specs.Answers.{OrMemory, method_of}
use Rattle.rb_walk.proofs.Lists.{fst, snd, two, there}
use Rattle.rb_walk.proofs.Rooms.{read_room}
use Rattle.rb_walk.proofs.Moves.{on, gives}
use Rattle.rb_walk.proofs.Calls.{or_memory}

-- the operator's method has this number
pub operator_number : (S : Script) (o : AssignOp) → builtin_of (operator S o) ≡ method_of o
operator_number S op.Plus = refl
operator_number S op.Minus = refl
operator_number S op.Times = refl
operator_number S op.Over = refl
operator_number S op.Modulo = refl
operator_number S op.OrElse = refl
operator_number S op.AndThen = refl

-- the parts of a target
pub target_local : (S : Script) (name : NameId) (o : AssignOp) (value : Node) (at : Span) (k : List Cont) (sc : Scope) (d n : ℕ)
    → begin_target S (out-Target (target.Local name)) o value at k sc d n ≡ begin_target S (node.«Target::Local» name) o value at k sc d n
target_local S name o value at k sc d n = let e : out-Target (target.Local name) ≡ node.«Target::Local» name = search (rules, the_lemmas) in ap (λ t. begin_target S t o value at k sc d n) e

pub target_field : (S : Script) (name : NameId) (o : AssignOp) (value : Node) (at : Span) (k : List Cont) (sc : Scope) (d n : ℕ)
    → begin_target S (out-Target (target.Field name)) o value at k sc d n ≡ begin_target S (node.«Target::Field» name) o value at k sc d n
target_field S name o value at k sc d n = let e : out-Target (target.Field name) ≡ node.«Target::Field» name = search (rules, the_lemmas) in ap (λ t. begin_target S t o value at k sc d n) e

pub target_global : (S : Script) (name : NameId) (o : AssignOp) (value : Node) (at : Span) (k : List Cont) (sc : Scope) (d n : ℕ)
    → begin_target S (out-Target (target.Global name)) o value at k sc d n ≡ begin_target S (node.«Target::Global» name) o value at k sc d n
target_global S name o value at k sc d n = let e : out-Target (target.Global name) ≡ node.«Target::Global» name = search (rules, the_lemmas) in ap (λ t. begin_target S t o value at k sc d n) e

pub target_element : (S : Script) (receiver index : Node) (o : AssignOp) (value : Node) (at : Span) (k : List Cont) (sc : Scope) (d n : ℕ)
    → begin_target S (out-Target (target.Index receiver index)) o value at k sc d n ≡ begin_target S (node.Index receiver index) o value at k sc d n
target_element S receiver index o value at k sc d n = let e : out-Target (target.Index receiver index) ≡ node.Index receiver index = search (rules, the_lemmas) in ap (λ t. begin_target S t o value at k sc d n) e

pub target_attribute : (S : Script) (receiver : Node) (name : NameId) (o : AssignOp) (value : Node) (at : Span) (k : List Cont) (sc : Scope) (d n : ℕ)
    → begin_target S (out-Target (target.Attribute receiver name)) o value at k sc d n ≡ begin_target S (node.Attribute receiver name) o value at k sc d n
target_attribute S receiver name o value at k sc d n = let e : out-Target (target.Attribute receiver name) ≡ node.Attribute receiver name = search (rules, the_lemmas) in ap (λ t. begin_target S t o value at k sc d n) e

-- what is known of an assignment with an operator to an attribute
pub attribute_is : (S : Script) (number : Option Builtin) (writer : Option NameId) (name : NameId) (receiver value : Code) (names : List NameId) (size : ℕ)
    → attribute number writer name (both (λ S. fits S receiver) (λ S. fits S value)) S names size ≡ true
    → (has_number S number name ≡ true) × (fits S receiver names size ≡ true) × (written_by writer name (λ S. fits S value) S names size ≡ true)
attribute_is S number writer name receiver value names size h =
    let w = is_writer S writer name in
    let free = is_free (text_of S name ++ codes "=") in
    let parts = fits S receiver names size && fits S value names size in
    let written = snd (has_number S number name) (w && (free && parts)) h in
    let rest = snd w (free && parts) written in
    let both = snd free parts rest in (
      fst (has_number S number name) (w && (free && parts)) h,
      fst (fits S receiver names size) (fits S value names size) both,
      two w (free && fits S value names size) (fst w (free && parts) written) (two free (fits S value names size) (fst free parts rest) (snd (fits S receiver names size) (fits S value names size) both)),
    )

module _ (S : Script) (N : ℕ) (start : State) (h : Private) where
  -- `||=` stays where the target is true, and goes on where it is not
  pub or_else_stays : {l : Log} {k : List Cont} {sc : Scope} {d n : ℕ} (v : Val) (place : Place) (o : AssignOp) (value : Node) (at : Span) → o ≡ op.OrElse → truthy v ≡ true
      → At S N start l h (On (Give v) (Then (ReadOf place o value at) ∷ k) sc d n) → At S N start l h (On (Give v) k sc d n)
  or_else_stays {k = k} {sc = sc} {d = d} {n = n} v place o value at e t a =
      on _ a (ap (λ o. Go (decide S v place o value at k sc d n)) e ∙ ap (λ t. Go (cond t (On (Give v) k sc d n) (On (Eval value) (Then (WriteTo place at) ∷ k) sc d n))) t)

  pub or_else_goes : {l : Log} {k : List Cont} {sc : Scope} {d n : ℕ} (v : Val) (place : Place) (o : AssignOp) (value : Node) (at : Span) → o ≡ op.OrElse → truthy v ≡ false
      → At S N start l h (On (Give v) (Then (ReadOf place o value at) ∷ k) sc d n) → At S N start l h (On (Eval value) (Then (WriteTo place at) ∷ k) sc d n)
  or_else_goes {k = k} {sc = sc} {d = d} {n = n} v place o value at e t a =
      on _ a (ap (λ o. Go (decide S v place o value at k sc d n)) e ∙ ap (λ t. Go (cond t (On (Give v) k sc d n) (On (Eval value) (Then (WriteTo place at) ∷ k) sc d n))) t)

  -- and `&&=` the other way about
  pub and_then_stays : {l : Log} {k : List Cont} {sc : Scope} {d n : ℕ} (v : Val) (place : Place) (o : AssignOp) (value : Node) (at : Span) → o ≡ op.AndThen → truthy v ≡ false
      → At S N start l h (On (Give v) (Then (ReadOf place o value at) ∷ k) sc d n) → At S N start l h (On (Give v) k sc d n)
  and_then_stays {k = k} {sc = sc} {d = d} {n = n} v place o value at e t a =
      on _ a (ap (λ o. Go (decide S v place o value at k sc d n)) e ∙ ap (λ t. Go (cond t (On (Eval value) (Then (WriteTo place at) ∷ k) sc d n) (On (Give v) k sc d n))) t)

  pub and_then_goes : {l : Log} {k : List Cont} {sc : Scope} {d n : ℕ} (v : Val) (place : Place) (o : AssignOp) (value : Node) (at : Span) → o ≡ op.AndThen → truthy v ≡ true
      → At S N start l h (On (Give v) (Then (ReadOf place o value at) ∷ k) sc d n) → At S N start l h (On (Eval value) (Then (WriteTo place at) ∷ k) sc d n)
  and_then_goes {k = k} {sc = sc} {d = d} {n = n} v place o value at e t a =
      on _ a (ap (λ o. Go (decide S v place o value at k sc d n)) e ∙ ap (λ t. Go (cond t (On (Eval value) (Then (WriteTo place at) ∷ k) sc d n) (On (Give v) k sc d n))) t)

  -- other operators evaluate the right side
  decided : (o : AssignOp) (v : Val) (place : Place) (value : Node) (at : Span) (k : List Cont) (sc : Scope) (d n : ℕ) → (o ≡ op.OrElse → ⊥) → (o ≡ op.AndThen → ⊥)
      → Go (decide S v place o value at k sc d n) ≡ Go (On (Eval value) (Then (RightOf v o at) ∷ Then (WriteTo place at) ∷ k) sc d n)
  decided op.OrElse v place value at k sc d n f g = absurd (f refl)
  decided op.AndThen v place value at k sc d n f g = absurd (g refl)
  decided op.Plus v place value at k sc d n f g = refl
  decided op.Minus v place value at k sc d n f g = refl
  decided op.Times v place value at k sc d n f g = refl
  decided op.Over v place value at k sc d n f g = refl
  decided op.Modulo v place value at k sc d n f g = refl

  pub operates : {l : Log} {k : List Cont} {sc : Scope} {d n : ℕ} (v : Val) (place : Place) (o : AssignOp) (value : Node) (at : Span) → (o ≡ op.OrElse → ⊥) → (o ≡ op.AndThen → ⊥)
      → At S N start l h (On (Give v) (Then (ReadOf place o value at) ∷ k) sc d n) → At S N start l h (On (Eval value) (Then (RightOf v o at) ∷ Then (WriteTo place at) ∷ k) sc d n)
  operates {k = k} {sc = sc} {d = d} {n = n} v place o value at f g a = on _ a (decided o v place value at k sc d n f g)

  -- a local that is read
  pub reads : (l : Log) (k : List Cont) (d n : ℕ) (name : NameId) (names : List NameId) (room : List Held) (slot : ℕ) (me : Val) (o : Outcome) → length names ≤ length room → has_slot name names slot ≡ true
      → ((v : Held) → slice_get room slot ≡ Some v → OrMemory (Gave (plain v)) o)
      → At S N start l h (On (Give (look name (bound names (map plain room)))) k (scope_of me names room) d n) → Came S N start l h o k (scope_of me names room) d n
  reads l k d n name names room slot me o p s g a =
      let below = slot_within name names slot s in
      let v = there room slot (omega (arith, below, p)) in
      or_memory S N start h l k (scope_of me names room) d n (Gave (plain v.0)) o (On (Give (look name (bound names (map plain room)))) k (scope_of me names room) d n) (g v.0 v.1) a refl
      (gives (plain v.0) (read_room name names room slot v.0 p s v.1) a)
