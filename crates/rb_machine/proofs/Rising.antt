-- No entry of a thread has a step beyond those that its machine has begun.
use Rattle.std.proofs.Common.{◌≡◌, ◌≤◌, ◌-◌, ℕ, Bool, true, false, refl, arith, List, ◌++◌, ◌∷◌, []}
use Rattle.rb_model.specs.Acts.{Reply}
use Rattle.rb_model.specs.Log.{Log, Entry, last_step}
use Rattle.rb_model.specs.Private.{Private}
use Rattle.rb_machine.specs.Scopes.{Script}
use Rattle.rb_machine.specs.Control.{State}
use Rattle.rb_machine.specs.Move.{replied, left_in}
use Rattle.rb_machine.specs.Follows.{starts, At, here, goes, makes, acts, asks, prints}
use Rattle.rb_machine.specs.Laws.{one_more_if, begins_step}
use Rattle.rb_machine.proofs.Counts.{counted_move, replies_are_free}
use Rattle.rb_machine.proofs.Main.{last_step_more}

fewer : (b : Bool) (m n : ℕ) → m ≡ one_more_if b n → n ≤ m
fewer true m n e = omega (arith, e)
fewer false m n e = omega (arith, e)

module _ (S : Script) (N : ℕ) (start : State) where
  -- as many steps were begun before a reply as behind it
  same_behind : (s : State) (r : Reply) (n : ℕ) → n ≤ N - left_in s → n ≤ N - left_in (replied s r)
  same_behind s r n le = let same = replies_are_free s r in omega (arith, le, same)

  logged_behind : (es : List Entry) (e : Entry) (s : State) (r : Reply) → e.step ≡ N - left_in s → last_step (es ++ e ∷ []) ≤ N - left_in (replied s r)
  logged_behind es e s r at = same_behind s r _ (let last = last_step_more es e in omega (arith, last, at))

  pub steps_rise : {l : Log} {h : Private} {s : State} → At S N start l h s → last_step l.entries ≤ N - left_in s
  steps_rise (here t) = omega arith
  steps_rise (goes l h s s' a e) = let le = steps_rise a in let less = fewer (begins_step S s) (left_in s) (left_in s') (counted_move S s s' e) in omega (arith, le, less)
  steps_rise (makes l h s thing a e) = same_behind s _ _ (steps_rise a)
  steps_rise (acts l h s r act thing a e f) = same_behind s _ _ (steps_rise a)
  steps_rise (asks l h h' s r act moved answer a e f g) = logged_behind l.entries _ s answer refl
  steps_rise (starts l h h' s body values moved answer a e g) = logged_behind l.entries _ s answer refl
  steps_rise (prints l h s bytes a e) = logged_behind l.entries _ s _ refl
