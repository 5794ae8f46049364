-- Arguments, which come to stand behind a frame one by one.
use Rattle.std.proofs.Common.{◌≡◌, ℕ, ◌+◌, ◌≤◌, ◌<◌, Bool, true, false, List, [], ◌∷◌, ◌++◌, length, map, drop, take, refl, sym, ap, ◌∙◌, subst, arith}
use Rattle.std.specs.Prelude.{slice_get, slice_set}
use Rattle.rb_tree.specs.declared.span.Span.{Span}
use Rattle.rb_tree.specs.declared.span.NameId.{NameId}
use Rattle.rb_tree.specs.declared.node.Node.{Node}
use Rattle.rb_tree.specs.declared.node.Method.{Method}
use Rattle.rb_model.specs.Values.{Value as Val, plain}
use Rattle.rb_model.specs.declared.value.Value.{Value as Held}
use Rattle.rb_model.specs.Ends.{End}
use Rattle.rb_model.specs.Log.{Log}
use Rattle.rb_model.specs.Private.{Private}
use Rattle.rb_machine.specs.Scopes.{Script, Scope}
use Rattle.rb_machine.specs.Control.{State, On, Cont, Then, Give, Passing, Argument, Aim, Instead}
use Rattle.rb_machine.specs.Call.{enter, last_value}
use Rattle.rb_machine.specs.Follows.{At}
use Rattle.rb_code.specs.Layout.{bound}
use Rattle.rb_walk.specs.declared.came.Came.{Came as Registers}
use Rattle.rb_walk.specs.declared.came.Came.TheVariants as came
use Rattle.rb_walk.specs.declared.came.Leave.{Leave}
use Rattle.rb_walk.specs.Outcome.{Over, is_left, outcome}
use Rattle.rb_walk.specs.Carries.{scope_of}
use Rattle.rb_walk.proofs.Lists.{never, arg_values}
use Rattle.rb_walk.proofs.Rooms.{room_beyond}
use Rattle.rb_walk.proofs.Moves.{on, same}

map_append : {A B : Type 0} (f : A → B) (xs ys : List A) → map f (xs ++ ys) ≡ map f xs ++ map f ys
map_append f [] ys = refl
map_append f (x ∷ xs) ys = ap (λ zs. f x ∷ zs) (map_append f xs ys)

-- the values of the arguments, with one more behind them
arg_joins : (base i : ℕ) (before after : List Held) (w : Held) (v : Val) → plain w ≡ v → base + i < length after → ((j : ℕ) → j < i → slice_get after (base + j) ≡ slice_get before (base + j))
    → map plain (take (i + 1) (drop base (slice_set after (base + i) w))) ≡ map plain (take i (drop base before)) ++ v ∷ []
arg_joins base i before after w v e h g =
    ap (map plain) (arg_values base i before after w h g) ∙ (map_append plain (take i (drop base before)) (w ∷ []) ∙ ap (λ u. map plain (take i (drop base before)) ++ u ∷ []) e)

-- one argument that is written behind the frame
one_arg : (base : ℕ) (room : List Held) (w : Held) → base < length room → map plain (take 1 (drop base (slice_set room base w))) ≡ plain w ∷ []
one_arg base room w q =
    let z : base + 0 ≡ base = omega arith in
    subst (λ b. map plain (take 1 (drop base (slice_set room b w))) ≡ plain w ∷ []) z (arg_joins base 0 room room w (plain w) refl (omega (arith, q)) (λ j p. absurd (omega (arith, p))))

module _ {S : Script} {N : ℕ} {start : State} {h : Private} where
  -- a method is entered with it
  pub placed : {l : Log} (m : Method) (to : Val) (at : Span) (k : List Cont) (d n : ℕ) (me : Val) (names : List NameId) (base : ℕ) (room : List Held) (w : Held) → length names ≤ base → base < length room
      → At S N start l h (enter S m to (plain w ∷ []) at k (scope_of me names room) d n)
      → At S N start l h (enter S m to (map plain (take 1 (drop base (slice_set room base w)))) at k (scope_of me names (slice_set room base w)) d n)
  placed m to at k d n me names base room w b q a =
      same a (ap (λ vs. enter S m to vs at k (scope_of me names room) d n) (sym (one_arg base room w q))
      ∙ ap (λ ls. enter S m to (map plain (take 1 (drop base (slice_set room base w)))) at k (record { me = me; locals = ls }) d n) (sym (room_beyond names room base w b)))

  -- the same for an assignment, whose value it is
  pub placed_last : {l : Log} (m : Method) (to : Val) (at : Span) (k : List Cont) (d n : ℕ) (me : Val) (names : List NameId) (base : ℕ) (room : List Held) (w : Held) → length names ≤ base → base < length room
      → At S N start l h (enter S m to (plain w ∷ []) at (Then (Instead (plain w)) ∷ k) (scope_of me names room) d n)
      → At S N start l h (enter S m to (map plain (take 1 (drop base (slice_set room base w)))) at (Then (Instead (last_value S (map plain (take 1 (drop base (slice_set room base w)))))) ∷ k) (scope_of me names (slice_set room base w)) d n)
  placed_last m to at k d n me names base room w b q a =
      let args = map plain (take 1 (drop base (slice_set room base w))) in
      same (placed m to at (Then (Instead (plain w)) ∷ k) d n me names base room w b q a)
      (ap (λ vs. enter S m to args at (Then (Instead (last_value S vs)) ∷ k) (scope_of me names (slice_set room base w)) d n) (sym (one_arg base room w q)))

module _ {S : Script} {N : ℕ} {start : State} {h : Private} where
  -- the arguments that are left, under another name
  pub passing : {l : Log} {aim : Aim} {vs : List Val} {ns : List Node} {at : Span} {k : List Cont} {sc : Scope} {d n : ℕ} (ms : List Node) → ms ≡ ns → At S N start l h (On (Passing aim vs ns at) k sc d n) → At S N start l h (On (Passing aim vs ms at) k sc d n)
  passing {aim = aim} {vs = vs} {at = at} {k = k} {sc = sc} {d = d} {n = n} ms e a = same a (ap (λ ns. On (Passing aim vs ns at) k sc d n) (sym e))

  -- the values that came, under another name
  pub passed : {l : Log} {aim : Aim} {vs : List Val} {ns : List Node} {at : Span} {k : List Cont} {sc : Scope} {d n : ℕ} (ws : List Val) → ws ≡ vs → At S N start l h (On (Passing aim vs ns at) k sc d n) → At S N start l h (On (Passing aim ws ns at) k sc d n)
  passed {aim = aim} {ns = ns} {at = at} {k = k} {sc = sc} {d = d} {n = n} ws e a = same a (ap (λ vs. On (Passing aim vs ns at) k sc d n) (sym e))

  -- a value that is written behind the frame and those before it joins the arguments that came
  pub joined : {l : Log} {aim : Aim} {rest : List Node} {at : Span} {k : List Cont} {d n : ℕ} (me : Val) (names : List NameId) (base i : ℕ) (before after : List Held) (w : Held) (v : Val) → plain w ≡ v → length names ≤ base → base + i < length after
      → ((j : ℕ) → j < i → slice_get after (base + j) ≡ slice_get before (base + j))
      → At S N start l h (On (Give v) (Then (Argument aim (map plain (take i (drop base before))) rest at) ∷ k) (scope_of me names after) d n)
      → At S N start l h (On (Passing aim (map plain (take (i + 1) (drop base (slice_set after (base + i) w)))) rest at) k (scope_of me names (slice_set after (base + i) w)) d n)
  joined {aim = aim} {rest = rest} {at = at} {k = k} {d = d} {n = n} me names base i before after w v e b q g a =
      let scope : bound names (map plain (slice_set after (base + i) w)) ≡ bound names (map plain after) = room_beyond names after (base + i) w (omega (arith, b)) in
      let moved = on (On (Passing aim (map plain (take i (drop base before)) ++ v ∷ []) rest at) k (scope_of me names after) d n) a refl in
      same (passed _ (arg_joins base i before after w v e q g) moved) (ap (λ ls. On (Passing aim (map plain (take (i + 1) (drop base (slice_set after (base + i) w)))) rest at) k (record { me = me; locals = ls }) d n) (sym scope))

-- one of them left, or none
pub only_left : {A B : Type 0} (b : Bool) → b ≡ true → A → (b ≡ true → A) × (b ≡ false → B)
only_left b h x = (λ q. x, λ q. absurd (never b h q))

pub only_came : {A B : Type 0} (b : Bool) → b ≡ false → B → (b ≡ true → A) × (b ≡ false → B)
only_came b h x = (λ q. absurd (never b q h), λ q. x)

-- an end is no value
pub over_left : (c : Registers) (v : Held) (l : Leave) (e : End) → outcome c v l ≡ Over e → is_left c ≡ true
over_left came.Left v l e h = refl
over_left came.Nil v l e h = absurd (cc)
over_left came.False v l e h = absurd (cc)
over_left came.True v l e h = absurd (cc)
over_left (came.Int n) v l e h = absurd (cc)
over_left came.Other v l e h = absurd (cc)
