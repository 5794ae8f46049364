-- Leaves that are integers.
use Rattle.rb_tree.specs.declared.node.Program.{Program}
use Rattle.std.proofs.Common.{◌≡◌, ℕ, Bool, true, false, cond, List, [], ◌∷◌, Option, Some, None, refl, sym, ap, ◌∙◌}
use Rattle.std.specs.Prelude.{ℤ, ◌||◌, slice_get, map, IfSome}
use Rattle.std.specs.Borrow.{Bor}
use Rattle.rb_tree.specs.declared.span.Span.{Span}
use Rattle.rb_tree.specs.declared.span.NameId.{NameId}
use Rattle.rb_model.specs.declared.value.Sort.{Sort}
use Rattle.rb_model.specs.declared.value.Sort.TheVariants as sort
use Rattle.rb_model.specs.declared.fault.Fault.TheVariants.{NoMethod}
use Rattle.rb_model.specs.Values.{Value, Nil, False, True, Int, Sym, Str, To, plain, same, truth}
use Rattle.rb_model.specs.declared.value.Value.{Value as Held}
use Rattle.rb_model.specs.declared.value.Value.TheVariants as held
use Rattle.rb_machine.specs.Control.{Under}
use Rattle.rb_code.specs.declared.code.Code.{Code}
use Rattle.rb_code.specs.declared.code.Code.TheVariants as is
use Rattle.rb_code.specs.Layout.{has_slot}
use Rattle.rb_code.specs.Resolved.{fits}
use Rattle.rb_code.proofs.Showing.{shows-local, shows-nil}
use Rattle.rb_code.proofs.Fitting.{fits-local}
use Rattle.rb_machine.specs.Drafts.{is_collection, is_collection_sort}
use Rattle.rb_machine.specs.Methods.{Gives, Raises, deed, equal, may_compare, is_compared}
use Rattle.rb_builtin.specs.declared.builtin.Builtin.{Builtin}
use Rattle.rb_builtin.specs.declared.integer.IntegerAnswer.{IntegerAnswer}
use Rattle.rb_builtin.specs.Names.{builtin_of}
use Rattle.rb_builtin.specs.Integers.{answer_of}
use Rattle.rb_builtin.specs.Deeds.{answer_by_number}
use Rattle.rb_builtin.proofs.Table.{by_number}
use Rattle.rb_walk.specs.Answers.{IsHeld, IsHeldAlone, IsSmall, IsQuick}
use Rattle.rb_walk.proofs.Moves.{on, begins, counts, gives}
use Rattle.rb_walk.proofs.Rooms.{read_room}

-- a local gives the value of its slot
held_local : (c : Code) (slot : ℕ) (name : NameId) (at : Span) (room : List Held) (v : Held) → c ≡ is.Local slot name at → slice_get room slot ≡ Some v → IsHeld c room (plain v)
held_local c slot name at room v e g = λ S N names size depth left start h log k me f l p q a.
    let s : has_slot name names slot ≡ true = sym (ap (λ c. fits S c names size) e ∙ fits-local S names size slot name at) ∙ f in
    on _ (gives (plain v) (read_room name names room slot v l s g) (begins _ _ (Under depth ∷ k) _ _ _ (shows-local c slot name at e) (counts p q a))) refl

pub held_if : (c : Code) (slot : ℕ) (name : NameId) (at : Span) (room : List Held) (o : Option (Bor Held)) → c ≡ is.Local slot name at → IfSome o (λ v. slice_get room slot ≡ Some v.now)
    → IfSome o (λ v. IsHeld c room (plain v.now))
held_if c slot name at room None e g = g
held_if c slot name at room (Some v) e g = held_local c slot name at room v.now e g

pub held_alone_if : (c : Code) (slot : ℕ) (name : NameId) (at : Span) (room : List Held) (o : Option (Bor (List Held))) → c ≡ is.Local slot name at
    → IfSome o (λ vs. (v : Held) × (slice_get room slot ≡ Some v) × (vs.now ≡ v ∷ [])) → IfSome o (λ vs. IsHeldAlone c room (map plain vs.now))
held_alone_if c slot name at room None e g = g
held_alone_if c slot name at room (Some vs) e g = (plain g.0, ap (map plain) g.2, held_local c slot name at room g.0 e g.1)

-- a local whose slot has an integer
pub small_if : (c : Code) (slot : ℕ) (name : NameId) (at : Span) (room : List Held) (o : Option ℤ) → c ≡ is.Local slot name at → IfSome o (λ n. slice_get room slot ≡ Some (held.Int n)) → IfSome o (λ n. IsSmall c room n)
small_if c slot name at room None e g = g
small_if c slot name at room (Some n) e g = held_local c slot name at room (held.Int n) e g

-- an operation over two leaves
pub quick_if : (method : Option Builtin) (left right : Code) (room : List Held) (o : Option IntegerAnswer) (m n : ℤ) → IsSmall left room m → IsSmall right room n
    → IfSome o (λ answer. (program : Program) (name : List ℕ) → builtin_of name ≡ method → deed program (Int m) name (Int n ∷ []) None ≡ answer_of answer)
    → IfSome o (λ answer. IsQuick method left right room (answer_of answer))
quick_if method left right room None m n l r h = h
quick_if method left right room (Some answer) m n l r h = (m, n, l, r, h)

-- what a method answers by its number
pub numbered_if : (b : Builtin) (method : Option Builtin) (receiver : Value) (args : List Value) (o : Option IntegerAnswer) → method ≡ Some b
    → IfSome o (λ answer. (program : Program) → answer_by_number program receiver b args None ≡ answer_of answer)
    → IfSome o (λ answer. (program : Program) (name : List ℕ) → builtin_of name ≡ method → deed program receiver name args None ≡ answer_of answer)
numbered_if b method receiver args None e h = h
numbered_if b method receiver args (Some answer) e h = λ program name n. sym (by_number program receiver name b args None (n ∙ e)) ∙ h program

-- nil that is written out
pub held_nil : (c : Code) (at : Span) (room : List Held) → c ≡ is.Nil at → IsHeld c room Nil
held_nil c at room e = λ S N names size depth left start h log k me f l p q a. on _ (begins _ _ (Under depth ∷ k) _ _ _ (shows-nil c at e) (counts p q a)) refl

compares_with_nil : (v : Value) → may_compare v Nil ≡ true
compares_with_nil Nil = refl
compares_with_nil False = refl
compares_with_nil True = refl
compares_with_nil (Int n) = refl
compares_with_nil (Sym n) = refl
compares_with_nil (Str s) = refl
compares_with_nil (To thing) = refl

sorts_compare : (a b : Sort) → is_collection_sort a ≡ false → is_compared a b ≡ true
sorts_compare (sort.Object class) b e = refl
sorts_compare sort.Mutex b e = refl
sorts_compare sort.Thread b e = refl
sorts_compare sort.List b e = absurd (cc)
sorts_compare sort.Pairs b e = absurd (cc)

may_be_compared : (v w : Value) → is_collection v ≡ false → may_compare v w ≡ true
may_be_compared (To a) (To b) e = sorts_compare a.sort b.sort e
may_be_compared (To a) Nil e = refl
may_be_compared (To a) False e = refl
may_be_compared (To a) True e = refl
may_be_compared (To a) (Int n) e = refl
may_be_compared (To a) (Sym n) e = refl
may_be_compared (To a) (Str s) e = refl
may_be_compared Nil w e = refl
may_be_compared False w e = refl
may_be_compared True w e = refl
may_be_compared (Int n) w e = refl
may_be_compared (Sym n) w e = refl
may_be_compared (Str s) w e = refl

where_compared : (v w : Value) → may_compare v w ≡ true → equal v (w ∷ []) ≡ Gives (truth (same v w))
where_compared v w e = ap (λ b. cond (same v w || b) (Gives (truth (same v w))) (Raises NoMethod)) e ∙ by (same v w)
  where
    by : (b : Bool) → cond (b || true) (Gives (truth b)) (Raises NoMethod) ≡ Gives (truth b)
    by true = refl
    by false = refl

-- whether a value is nil
pub equal_to_nil : (v : Value) → equal v (Nil ∷ []) ≡ Gives (truth (same v Nil))
equal_to_nil v = where_compared v Nil (compares_with_nil v)

-- whether a value that is no array and no hash is another
pub equal_to : (v w : Value) → is_collection v ≡ false → equal v (w ∷ []) ≡ Gives (truth (same v w))
equal_to v w e = where_compared v w (may_be_compared v w e)
