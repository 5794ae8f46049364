-- More turns keep each answer but that the turns are spent.
use Rattle.std.proofs.Common.{◌≡◌, ℕ, zero, suc, ◌≤◌, Bool, true, false, ◌||◌, nat_le, List, [], ◌∷◌, refl, ◌∙◌, ap, arith}
use Rattle.rb_lexer.specs.declared.token.Token.{Token}
use Rattle.rb_tree.specs.declared.span.Span.{Span}
use Rattle.rb_grammar.specs.Look.{class_of}
use Rattle.rb_grammar.specs.Scope.{Scope, is_local}
use Rattle.rb_grammar.specs.Phrase.{Phrase}
use Rattle.rb_grammar.specs.Rule.{Rule, done, refuse, token, phrase, nested, built, either, look, pick, known, touching, ahead, scope, next_meets, next_touches, arguments_follow}
use Rattle.rb_grammar.specs.Grammar.{rule}
use Rattle.rb_grammar.specs.Heads.{begins}
use Rattle.rb_grammar.specs.Reading.{Outcome, read, refused, too_nested, spent, Reader, Reading, from_refused, is_looked_behind, and_then, when, nest, run, reading, Settled}

-- what is settled is answered again
abbrev pub Kept : {A : Type 0} → Outcome A → Outcome A → Type 0
Kept o o' = Settled o → o' ≡ o

kept_step : {A B : Type 0} (o o' : Outcome A) (f f' : A → Reader B) → Kept o o' → ((a : A) (s : Scope) (seen : Bool) (ts : List Token) → Kept (f a s seen ts) (f' a s seen ts))
    → Kept (and_then o f) (and_then o' f')
kept_step (read a s seen ts) o' f f' h go settled = ap (λ x. and_then x f') (h tt) ∙ go a s seen ts settled
kept_step (refused ts) o' f f' h go settled = ap (λ x. and_then x f') (h tt)
kept_step (too_nested at) o' f f' h go settled = ap (λ x. and_then x f') (h tt)
kept_step spent o' f f' h go settled = absurd settled

kept_when : {A : Type 0} (b : Bool) (f f' g g' : Unit {0} → Outcome A) → Kept (f tt) (f' tt) → Kept (g tt) (g' tt) → Kept (when b f g) (when b f' g')
kept_when true f f' g g' h k = h
kept_when false f f' g g' h k = k

module _ (limit : ℕ) (reader reader' : ℕ → Reading) (kept : (l : ℕ) (n : Phrase) (s : Scope) (seen : Bool) (ts : List Token) → Kept (reader l n s seen ts) (reader' l n s seen ts)) (levels : ℕ) where
  kept_nest : {A : Type 0} (at : Span) (l : ℕ) (f f' : ℕ → Outcome A) → ((left : ℕ) → Kept (f left) (f' left)) → Kept (nest limit reader levels at l f) (nest limit reader' levels at l f')
  kept_nest at zero f f' h settled = refl
  kept_nest at (suc left) f f' h settled = h left settled

  -- a rule answers again what it answers, where the phrases in it do
  pub run_kept : {A : Type 0} (r : Rule A) (s : Scope) (seen : Bool) (ts : List Token) → Kept (run limit reader levels r s seen ts) (run limit reader' levels r s seen ts)
  run_kept (done a) s seen ts = λ settled. refl
  run_kept refuse s seen ts = λ settled. refl
  run_kept (token test k) s seen [] = λ settled. refl
  run_kept (token test k) s seen (t ∷ ts) =
      kept_when (test (class_of t.kind) t.spaced) (λ u. run limit reader levels (k t) s false ts) (λ u. run limit reader' levels (k t) s false ts)
      (λ u. refused (from_refused seen (t ∷ ts))) (λ u. refused (from_refused seen (t ∷ ts))) (run_kept (k t) s false ts) (λ settled. refl)
  run_kept (phrase n k) s seen ts =
      kept_step (reader levels n s seen ts) (reader' levels n s seen ts) (λ v. run limit reader levels (k v)) (λ v. run limit reader' levels (k v)) (kept levels n s seen ts) (λ v. run_kept (k v))
  run_kept (nested at n k) s seen ts =
      kept_nest at levels (λ left. and_then (reader left n s seen ts) (λ v. run limit reader levels (k v))) (λ left. and_then (reader' left n s seen ts) (λ v. run limit reader' levels (k v)))
      (λ left. kept_step (reader left n s seen ts) (reader' left n s seen ts) (λ v. run limit reader levels (k v)) (λ v. run limit reader' levels (k v)) (kept left n s seen ts) (λ v. run_kept (k v)))
  run_kept (built a r) s seen ts =
      kept_when (nat_le a.height limit) (λ u. run limit reader levels r s seen ts) (λ u. run limit reader' levels r s seen ts) (λ u. too_nested a.at) (λ u. too_nested a.at) (run_kept r s seen ts) (λ settled. refl)
  run_kept (either q r) s seen ts =
      kept_when (begins q ts) (λ u. run limit reader levels q s seen ts) (λ u. run limit reader' levels q s seen ts) (λ u. run limit reader levels r s seen ts) (λ u. run limit reader' levels r s seen ts)
      (run_kept q s seen ts) (run_kept r s seen ts)
  run_kept (look test r) s seen ts =
      kept_when (next_meets test ts) (λ u. run limit reader levels r s seen ts) (λ u. run limit reader' levels r s seen ts) (λ u. refused (from_refused seen ts)) (λ u. refused (from_refused seen ts))
      (run_kept r s seen ts) (λ settled. refl)
  run_kept (pick true q r) s seen ts = run_kept q s seen ts
  run_kept (pick false q r) s seen ts = run_kept r s seen ts
  run_kept (known text q r) s seen ts =
      kept_when (is_local text s) (λ u. run limit reader levels q s seen ts) (λ u. run limit reader' levels q s seen ts) (λ u. run limit reader levels r s seen ts) (λ u. run limit reader' levels r s seen ts)
      (run_kept q s seen ts) (run_kept r s seen ts)
  run_kept (touching place q r) s seen ts =
      kept_when (next_touches place ts) (λ u. run limit reader levels q s seen ts) (λ u. run limit reader' levels q s seen ts) (λ u. run limit reader levels r s seen ts) (λ u. run limit reader' levels r s seen ts)
      (run_kept q s seen ts) (run_kept r s seen ts)
  run_kept (ahead q r) s seen ts =
      kept_when (arguments_follow ts) (λ u. run limit reader levels q s (is_looked_behind ts || seen) ts) (λ u. run limit reader' levels q s (is_looked_behind ts || seen) ts)
      (λ u. run limit reader levels r s (is_looked_behind ts || seen) ts) (λ u. run limit reader' levels r s (is_looked_behind ts || seen) ts)
      (run_kept q s (is_looked_behind ts || seen) ts) (run_kept r s (is_looked_behind ts || seen) ts)
  run_kept (scope f r) s seen ts = run_kept r (f s) seen ts

-- more turns answer what fewer do, unless those were spent
pub reading_kept : (limit turns turns' : ℕ) → turns ≤ turns' → (levels : ℕ) (n : Phrase) (s : Scope) (seen : Bool) (ts : List Token)
    → Kept (reading limit turns levels n s seen ts) (reading limit turns' levels n s seen ts)
reading_kept limit zero turns' more levels n s seen ts = λ settled. absurd settled
reading_kept limit (suc turns) zero more levels n s seen ts = λ settled. absurd (omega arith)
reading_kept limit (suc turns) (suc turns') more levels n s seen ts =
    run_kept limit (reading limit turns) (reading limit turns') (reading_kept limit turns turns' (omega arith)) levels (rule n) s seen ts
