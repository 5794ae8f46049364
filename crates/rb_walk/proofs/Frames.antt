-- Calls of methods of the script: which method a name finds, and its frame.
use Rattle.std.proofs.Common.{◌≡◌, ℕ, zero, suc, ◌+◌, ◌-◌, ◌<◌, ◌≤◌, Bool, true, false, cond, List, [], ◌∷◌, ◌++◌, length, map, drop, take, replicate, Option, Some, None, refl, sym, ap, ◌∙◌, subst, eq-eqb, arith}
use Rattle.std.proofs.lemmas.Bool.Decides.{nat_tests}
use Rattle.std.proofs.lemmas.List.{length-replicate}
use Rattle.std.specs.List.{position, position_or_len, list_all}
use Rattle.std.specs.Prelude.{not, nat_eq, nat_lt, slice_get, find}
use Rattle.rb_tree.specs.declared.span.Span.{Span}
use Rattle.rb_tree.specs.declared.span.NameId.{NameId}
use Rattle.rb_tree.specs.declared.node.Method.{Method}
use Rattle.rb_tree.specs.declared.node.Block.{Block}
use Rattle.rb_model.specs.declared.fault.Fault.TheVariants.{ArgumentCount, NoMethod}
use Rattle.rb_model.specs.declared.value.Value.{Value as Held}
use Rattle.rb_model.specs.declared.value.Value.TheVariants as held
use Rattle.rb_model.specs.Values.{Value as Val, Nil, plain}
use Rattle.rb_model.specs.Log.{Log}
use Rattle.rb_model.specs.Private.{Private}
use Rattle.rb_machine.specs.Scopes.{Script, Scope, Text, Locals, fresh}
use Rattle.rb_machine.specs.Control.{State, On, Cont, Frame, Following, ByName}
use Rattle.rb_machine.specs.Call.{named, texted, methods_of, own, top_level, enter, perform, invoke, invoked, raised}
use Rattle.rb_machine.specs.Move.{left_in}
use Rattle.rb_machine.specs.Follows.{At}
use Rattle.rb_code.specs.declared.scripted.CodeMethod.{CodeMethod}
use Rattle.rb_code.specs.declared.scripted.CodeScript.{CodeScript}
use Rattle.rb_code.specs.Layout.{bound, is_at}
use Rattle.rb_code.specs.Erase.{erase, erase_method}
use Rattle.rb_code.specs.Resolved.{every, fits, method_fits, function_of, has_name}
use Rattle.rb_code.specs.Stands.{StandsFor}
use Rattle.rb_walk.specs.Carries.{Lies, scope_of}
use Rattle.rb_walk.specs.Methods.{method_for}
use Rattle.rb_walk.proofs.Moves.{same}
use Rattle.rb_walk.proofs.Lists.{fst, snd, le_test, eq_test, len_map, len_append, len_args, len_drop, get_map}
use Rattle.rb_walk.proofs.Rooms.{lies, frame_opens}

-- ---- lists

-- what is so for all is so for each
pub all_at : {A : Type 0} (p : A → Bool) (xs : List A) (i : ℕ) (x : A) → slice_get xs i ≡ Some x → list_all p xs ≡ true → p x ≡ true
all_at p [] i x e h = absurd (cc)
all_at p (y ∷ ys) zero x e h = let f : y ≡ x = cc in subst (λ z. p z ≡ true) f (fst _ _ h)
all_at p (y ∷ ys) (suc i) x e h = all_at p ys i x e (snd _ _ h)

found_by : {A : Type 0} (t : Bool) (y : A) (ys : List A) (m : ℕ) (o : Option A) (x : A) → (slice_get ys m ≡ Some x → o ≡ Some x) → slice_get (y ∷ ys) (cond (not t) (1 + m) 0) ≡ Some x → cond t (Some y) o ≡ Some x
found_by true y ys m o x f e = e
found_by false y ys m o x f e = let q : 1 + m ≡ suc m = omega arith in f (rw q at e)

found_there : {A : Type 0} (p : A → Bool) (xs : List A) (x : A) → slice_get xs (position_or_len p xs) ≡ Some x → find p xs ≡ Some x
found_there p [] x e = e
found_there p (y ∷ ys) x e = found_by (p y) y ys (position_or_len p ys) (find p ys) x (found_there p ys x) e

placed : (t : Bool) (j i : ℕ) → is_at (cond t (Some j) None) i ≡ true → j ≡ i
placed true j i h = eq_test j i h
placed false j i h = absurd (cc)

-- what lies at the first place that passes is what is found
pub found_at : {A : Type 0} (p : A → Bool) (xs : List A) (i : ℕ) (x : A) → is_at (position p xs) i ≡ true → slice_get xs i ≡ Some x → find p xs ≡ Some x
found_at p xs i x h e =
    let q = placed (nat_lt (position_or_len p xs) (length xs)) (position_or_len p xs) i h in
    found_there p xs x (ap (slice_get xs) q ∙ e)

-- ---- methods

-- the method of a number is the one that its name finds
function_is : (S : Script) (c : CodeScript) (number : ℕ) (name : NameId) (m : CodeMethod) → StandsFor c S → is_at (function_of S name) number ≡ true → slice_get c.functions number ≡ Some m
    → named S name S.program.functions ≡ Some (erase_method m)
function_is S c number name m st h e =
    found_at (has_name S name) S.program.functions number (erase_method m) h (ap (λ (fs : List Method). slice_get fs number) (sym st.functions) ∙ get_map erase_method c.functions number (Some m) e)

-- so a call by the name enters it, where the class of `self` has no method of the name
pub by_number : (S : Script) (c : CodeScript) (number : ℕ) (name : NameId) (m : CodeMethod) (args : List Val) (at : Span) (k : List Cont) (sc : Scope) (d n : ℕ) → StandsFor c S → method_for S sc.me name ≡ None
    → is_at (function_of S name) number ≡ true → slice_get c.functions number ≡ Some m
    → perform S (ByName name) args at k sc d n ≡ enter S (erase_method m) Nil args at k sc d n
by_number S c number name m args at k sc d n st none h e =
    ap (λ m. own S m name args at k sc d n) none
    ∙ ap (λ o. top_level S o name args at k sc d n) (function_is S c number name m st h e)

-- and one that the class has goes before it
pub by_own : (S : Script) (name : NameId) (m : Method) (to : Val) (args : List Val) (at : Span) (k : List Cont) (sc : Scope) (d n : ℕ) → method_for S sc.me name ≡ Some m → sc.me ≡ to
    → perform S (ByName name) args at k sc d n ≡ enter S m to args at k sc d n
by_own S name m to args at k sc d n e f = ap (λ m. own S m name args at k sc d n) e ∙ ap (λ v. enter S m v args at k sc d n) f

-- a method of a receiver is entered, where its class has one
pub by_receiver : (S : Script) (v to : Val) (name : Text) (m : Method) (args : List Val) (at : Span) (k : List Cont) (sc : Scope) (d n : ℕ) → texted S name (methods_of S v) ≡ Some m → v ≡ to
    → invoke S v name args None at k sc d n ≡ enter S m to args at k sc d n
by_receiver S v to name m args at k sc d n e f =
    ap (λ o. invoked S o v name args None at k sc d n) e ∙ ap (λ v. enter S m v args at k sc d n) f

-- but a method of the script takes no block
pub blocked : (S : Script) (v : Val) (name : Text) (m : Method) (args : List Val) (block : Block) (at : Span) (k : List Cont) (sc : Scope) (d n : ℕ) → texted S name (methods_of S v) ≡ Some m
    → invoke S v name args (Some block) at k sc d n ≡ raised NoMethod at n
blocked S v name m args block at k sc d n e = ap (λ o. invoked S o v name args (Some block) at k sc d n) e

pub function_right : (S : Script) (c : CodeScript) (number : ℕ) (m : CodeMethod) → StandsFor c S → slice_get c.functions number ≡ Some m → method_fits S m ≡ true
function_right S c number m st e = all_at (method_fits S) c.functions number m e (fst _ _ st.fits)

-- the frame has a slot for each name
frame_names : (S : Script) (m : CodeMethod) → method_fits S m ≡ true → length (S.method_names (erase_method m)) ≤ m.size
frame_names S m right = le_test _ _ (fst _ _ (snd _ _ right))

-- the body lies in it
pub frame_lies : (S : Script) (m : CodeMethod) (end : ℕ) → method_fits S m ≡ true → m.size ≤ end
    → Lies (every (map (fits S) m.body)) (S.method_names (erase_method m)) m.size m.size end
frame_lies S m end right p =
    lies (every (map (fits S) m.body)) (S.method_names (erase_method m)) m.size m.size end (snd _ _ (snd _ _ right)) (frame_names S m right) (omega arith) p

-- names with the first values in a row that has nil behind them
opens_apart : (names : List NameId) (vs : List Val) (n : ℕ) → length names ≤ length vs + n → bound names (vs ++ replicate n Nil) ≡ fresh names vs
opens_apart [] vs n h = refl
opens_apart (m ∷ ms) [] zero h = absurd (omega (arith, h))
opens_apart (m ∷ ms) [] (suc n) h = ap (λ ls. (m, Nil) ∷ ls) (opens_apart ms [] n (omega (arith, h)))
opens_apart (m ∷ ms) (v ∷ vs) n h = ap (λ ls. (m, v) ∷ ls) (opens_apart ms vs n (omega (arith, h)))

-- such a row has as many slots as were asked for
pub row_long : (args : List Val) (frame : List Held) (slots : ℕ) → map plain frame ≡ args ++ replicate (slots - length args) Nil → slots ≤ length frame
row_long args frame slots is =
    omega (arith, len_map plain frame, ap length is, len_append args (replicate (slots - length args) Nil), length-replicate (slots - length args) Nil)

module _ {S : Script} {N : ℕ} {start : State} {h : Private} where
  -- a method is entered with its arguments in its frame
  pub enters : {log : Log} {k : List Cont} {sc : Scope} {d n : ℕ} (m : CodeMethod) (me : Val) (count before : ℕ) (there frame : List Held) (at : Span)
      → method_fits S m ≡ true → count ≡ length m.params → before + count ≤ length there
      → ((i : ℕ) → i < count → slice_get frame i ≡ slice_get (drop before there) i)
      → ((i : ℕ) → count ≤ i → i < m.size → slice_get frame i ≡ Some held.Nil)
      → At S N start log h (enter S (erase_method m) me (map plain (take count (drop before there))) at k sc d n)
      → At S N start log h (On (Following Nil (map erase m.body)) (Frame sc ∷ k) (scope_of me (S.method_names (erase_method m)) frame) d n)
  enters {k = k} {sc = sc} {d = d} {n = n} m me count before there frame at right counts long below within a =
      let rest = drop before there in
      let args = map plain (take count rest) in
      let names = S.method_names (erase_method m) in
      let size = frame_names S m right in
      let one = len_map plain (take count rest) in
      let two = len_args there before count long in
      let same_count : length args ≡ length m.params = one ∙ (two ∙ counts) in
      let dropped = len_drop there before (omega (arith, long)) in
      let opened : bound names (map plain frame) ≡ fresh names args = frame_opens names rest frame count (omega (arith, dropped, long)) below (λ i p q. within i p (omega (arith, q, size))) in
      same a (ap (λ b. cond b (On (Following Nil (map erase m.body)) (Frame sc ∷ k) (record { me = me; locals = fresh names args }) d n) (raised ArgumentCount at n)) (eq-eqb _ _ same_count)
      ∙ ap (λ (ls : Locals). On (Following Nil (map erase m.body)) (Frame sc ∷ k) (record { me = me; locals = ls }) d n) (sym opened))

  -- and likewise in a row of its own
  pub enters_apart : {log : Log} {k : List Cont} {sc : Scope} {d n : ℕ} (m : CodeMethod) (me : Val) (args : List Val) (frame : List Held) (slots : ℕ) (at : Span)
      → method_fits S m ≡ true → length args ≡ length m.params → m.size ≤ slots → map plain frame ≡ args ++ replicate (slots - length args) Nil
      → At S N start log h (enter S (erase_method m) me args at k sc d n)
      → At S N start log h (On (Following Nil (map erase m.body)) (Frame sc ∷ k) (scope_of me (S.method_names (erase_method m)) frame) d n)
  enters_apart {k = k} {sc = sc} {d = d} {n = n} m me args frame slots at right counts room is a =
      let names = S.method_names (erase_method m) in
      let opened : bound names (map plain frame) ≡ fresh names args = ap (bound names) is ∙ opens_apart names args (slots - length args) (omega (arith, frame_names S m right, room)) in
      same a (ap (λ b. cond b (On (Following Nil (map erase m.body)) (Frame sc ∷ k) (record { me = me; locals = fresh names args }) d n) (raised ArgumentCount at n)) (eq-eqb _ _ counts)
      ∙ ap (λ (ls : Locals). On (Following Nil (map erase m.body)) (Frame sc ∷ k) (record { me = me; locals = ls }) d n) (sym opened))

  -- or not, where their count is another
  pub other_count : {log : Log} (m : CodeMethod) (me : Val) (count before : ℕ) (there : List Held) (at : Span) (k : List Cont) (sc : Scope) (d n : ℕ)
      → (count ≡ length m.params → ⊥) → before + count ≤ length there
      → At S N start log h (enter S (erase_method m) me (map plain (take count (drop before there))) at k sc d n)
      → At S N start log h (raised ArgumentCount at n)
  other_count m me count before there at k sc d n other long a =
      let rest = drop before there in
      let args = map plain (take count rest) in
      let one : length args ≡ count = len_map plain (take count rest) ∙ len_args there before count long in
      let t : nat_eq (length args) (length m.params) ≡ false = grind (arith, nat_tests) in
      same a (ap (λ b. cond b (On (Following Nil (map erase m.body)) (Frame sc ∷ k) (record { me = me; locals = fresh (S.method_names (erase_method m)) args }) d n) (raised ArgumentCount at n)) t)

-- how many steps are left where a method is to be entered
pub enter_left : (S : Script) (m : Method) (me : Val) (args : List Val) (at : Span) (k : List Cont) (sc : Scope) (d n : ℕ) → left_in (enter S m me args at k sc d n) ≡ n
enter_left S m me args at k sc d n = either (nat_eq (length args) (length m.params))
  where
    either : (b : Bool) → left_in (cond b (On (Following Nil m.body) (Frame sc ∷ k) (record { me = me; locals = fresh (S.method_names m) args }) d n) (raised ArgumentCount at n)) ≡ n
    either true = refl
    either false = refl
