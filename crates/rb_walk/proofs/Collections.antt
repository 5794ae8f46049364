-- Arrays and hashes: what is made, read and asked, beside the machine.
use Rattle.std.proofs.Common.{◌≡◌, ◌≤◌, ◌<◌, ℕ, true, List, [], ◌∷◌, length, map, get_or, None, refl, sym, ap, ◌∙◌, subst, arith}
use Rattle.std.specs.Prelude.{is_some, codes}
use Rattle.rb_tree.specs.declared.span.Span.{Span}
use Rattle.rb_tree.specs.declared.node.Program.{Program}
use Rattle.rb_model.specs.declared.value.Ref.{Ref}
use Rattle.rb_model.specs.declared.act.Make.{Make}
use Rattle.rb_model.specs.declared.act.Make.TheVariants as make
use Rattle.rb_model.specs.Values.{Value as Val, Nil, To, Reference, plain}
use Rattle.rb_model.specs.declared.act.Reply.{Reply as Answered}
use Rattle.rb_model.specs.declared.value.Value.{Value as Held}
use Rattle.rb_model.specs.Acts.{Act, Copy}
use Rattle.rb_model.specs.Things.{Elements, gives_to}
use Rattle.rb_model.specs.Doing.{made, said}
use Rattle.rb_model.specs.Doing as doing
use Rattle.rb_model.specs.Private.{Private, Gives, Becomes, held, entered, next_id}
use Rattle.rb_model.specs.Log.{Log}
use Rattle.rb_machine.specs.Scopes.{Script, Scope}
use Rattle.rb_machine.specs.Control.{State, On, Cont, Then, Instead, Create, IsZero, Give, Making, Reading, Use}
use Rattle.rb_machine.specs.Methods.{Asks, deed}
use Rattle.rb_machine.specs.Call.{ask, value_of_p}
use Rattle.rb_machine.specs.Call as call
use Rattle.rb_machine.specs.Move.{used}
use Rattle.rb_machine.specs.Follows.{At, acts, makes, next_thing}
use Rattle.rb_machine.specs.Follows as follows
use Rattle.rb_builtin.specs.declared.deed.Behind.{Behind}
use Rattle.rb_builtin.specs.declared.deed.Behind.TheVariants as behind
use Rattle.rb_builtin.specs.Deeds.{thing_of, step_of}
use Rattle.rb_walk.specs.declared.came.Came.{Came as Registers}
use Rattle.rb_walk.specs.declared.came.Leave.{Leave}
use Rattle.rb_walk.specs.Outcome.{Came, is_left, outcome}
use Rattle.rb_walk.proofs.Moves as moves
use Rattle.rb_walk.proofs.Objects.{there_is}
use Rattle.rb_walk.proofs.Outcomes.{passes}

-- ---- new things

sorts_are : (m : Make) → follows.sort_of (made m) ≡ doing.sort_of m
sorts_are (make.Object class) = refl
sorts_are (make.Elements values) = refl
sorts_are (make.Filled count value) = refl
sorts_are (make.Pairs pairs) = refl
sorts_are make.Mutex = refl

next_is : (thing : Ref) (m : Make) (h : Private) → thing.id ≡ next_id h → thing.sort ≡ doing.sort_of m → To (next_thing h (made m)) ≡ To (thing_of thing)
next_is thing m h id sort =
    ap (λ s. To (record { sort = s; id = next_id h })) (sorts_are m ∙ sym sort) ∙ ap (λ i. To (record { sort = thing.sort; id = i })) (sym id)

module _ (S : Script) (N : ℕ) (start : State) where
  -- a thing is made, and a reference to it is given
  pub made_at : (l : Log) (h h' : Private) (thing : Ref) (m : Make) (k : List Cont) (sc : Scope) (d n : ℕ) → thing.id ≡ next_id h → thing.sort ≡ doing.sort_of m → h' ≡ entered h (made m)
      → At S N start l h (On (Making (made m)) k sc d n) → At S N start l h' (On (Give (To (thing_of thing))) k sc d n)
  made_at l h h' thing m k sc d n id sort new come =
      let b = makes l h (On (Making (made m)) k sc d n) (made m) come refl in
      subst (λ y. At S N start l y (On (Give (To (thing_of thing))) k sc d n)) (sym new) (moves.gives (To (thing_of thing)) (next_is thing m h id sort) b)

-- ---- collections that are read

module _ (S : Script) (N : ℕ) (start : State) where
  -- a private collection is read by one copy
  pub read_at : (l : Log) (h h' : Private) (r : Reference) (a : Answered) (purpose : Use) (at : Span) (k : List Cont) (sc : Scope) (d n : ℕ) → is_some (held h r.id) ≡ true → Gives h r.id Copy (said a) → Becomes h r.id Copy h'
      → At S N start l h (On (Reading r purpose at) k sc d n) → At S N start l h' (used purpose r (said a) at k sc d n)
  read_at l h h' r a purpose at k sc d n there gave become come =
      let x = there_is (held h r.id) there in
      let b = acts l h (On (Reading r purpose at) k sc d n) r Copy x.0 come refl x.1 in
      subst (λ y. At S N start l h' (used purpose r y at k sc d n)) (sym (gave x.0 x.1))
      (subst (λ y. At S N start l y (used purpose r (gives_to h.thread x.0 Copy) at k sc d n)) (sym (become x.0 x.1)) b)

-- ---- what is done behind a reply

-- what waits for a reply
abbrev pub waiting : Behind → Ref → List Cont → List Cont
waiting behind.Reply thing k = k
waiting behind.Receiver thing k = Then (Instead (To (thing_of thing))) ∷ k
waiting behind.IsZero thing k = Then IsZero ∷ k

pub asks_so : (S : Script) (b : Behind) (thing : Ref) (act : Act) (at : Span) (k : List Cont) (sc : Scope) (d n : ℕ)
    → call.answered S (Asks (thing_of thing) act (step_of b thing)) None at k sc d n ≡ ask (thing_of thing) act at (waiting b thing k) sc d n
asks_so S behind.Reply thing act at k sc d n = refl
asks_so S behind.Receiver thing act at k sc d n = refl
asks_so S behind.IsZero thing act at k sc d n = refl

module _ (S : Script) (N : ℕ) (start : State) (h : Private) where
  -- what leaves goes past what waits for a reply
  pub past_waiting : (b : Behind) (thing : Ref) (c : Registers) (v : Held) (x : Leave) (l : Log) (k : List Cont) (sc : Scope) (d n : ℕ) → is_left c ≡ true
      → Came S N start l h (outcome c v x) (waiting b thing k) sc d n → Came S N start l h (outcome c v x) k sc d n
  past_waiting behind.Reply thing c v x l k sc d n e a = a
  past_waiting behind.Receiver thing c v x l k sc d n e a = passes S N start h c v x l (Instead (To (thing_of thing))) k sc d n e a
  past_waiting behind.IsZero thing c v x l k sc d n e a = passes S N start h c v x l IsZero k sc d n e a

-- a write to an element is a call of the table
pub writes_so : (S : Script) (program : Program) (args : List Val) (receiver index v : Val) (at : Span) (k : List Cont) (sc : Scope) (d n : ℕ) → S.program ≡ program → args ≡ index ∷ v ∷ []
    → call.answered S (deed S.program receiver (codes "[]=") (index ∷ v ∷ []) None) None at k sc d n ≡ call.answered S (deed program receiver (codes "[]=") args None) None at k sc d n
writes_so S program args receiver index v at k sc d n p e =
    ap (λ P. call.answered S (deed P receiver (codes "[]=") (index ∷ v ∷ []) None) None at k sc d n) p
    ∙ ap (λ vs. call.answered S (deed program receiver (codes "[]=") vs None) None at k sc d n) (sym e)

-- ---- texts

-- the value of `p`: nil, its one argument, or an array of them
pub value_of_none : (S : Script) (xs : List Held) → length xs < 1 → value_of_p S (map plain xs) ≡ Instead Nil
value_of_none S [] h = refl
value_of_none S (x ∷ xs) h = absurd (omega (arith, h))

pub value_of_one : (S : Script) (xs : List Held) (x : Held) → 1 ≤ length xs → length xs < 2 → x ≡ get_or xs 0 x → value_of_p S (map plain xs) ≡ Instead (plain x)
value_of_one S [] x h m e = absurd (omega (arith, h))
value_of_one S (y ∷ []) x h m e = ap (λ z. Instead (plain z)) (sym e)
value_of_one S (y ∷ z ∷ xs) x h m e = absurd (omega (arith, m))

pub value_of_many : (S : Script) (xs : List Held) → 2 ≤ length xs → value_of_p S (map plain xs) ≡ Create (Elements (map plain xs))
value_of_many S [] h = absurd (omega (arith, h))
value_of_many S (x ∷ []) h = absurd (omega (arith, h))
value_of_many S (x ∷ y ∷ xs) h = refl
