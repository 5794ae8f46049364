-- What the steps of the reader tell of what they were given, when their answer is known.
use Rattle.std.proofs.Common.{◌≡◌, ℕ, zero, suc, Bool, true, false, List, refl, inl, inr, ◌⊎◌}
use Rattle.rb_tree.specs.declared.span.Span.{Span}
use Rattle.rb_lexer.specs.declared.token.Token.{Token}
use Rattle.rb_grammar.specs.Scope.{Scope}
use Rattle.rb_grammar.specs.Reading.{Outcome, read, refused, too_nested, spent, Reader, Reading, and_then, when, nest}

-- two answers that are the same have the same parts
pub record SameParts {A : Type 0} (a : A) (s : Scope) (seen : Bool) (ts : List Token) (b : A) (s' : Scope) (seen' : Bool) (us : List Token) : Type 0 where
  pub value : a ≡ b
  pub scopes : s ≡ s'
  pub looked : seen ≡ seen'
  pub rest : ts ≡ us

pub read_parts : {A : Type 0} (a : A) (s : Scope) (seen : Bool) (ts : List Token) (b : A) (s' : Scope) (seen' : Bool) (us : List Token)
    → read a s seen ts ≡ read b s' seen' us → SameParts a s seen ts b s' seen' us
read_parts a s seen ts b s' seen' us e = record { value = cc; scopes = cc; looked = cc; rest = cc }

-- what is chosen by a condition is one or the other
pub when_tells : {A : Type 0} (b : Bool) (y z x : A) → when b (λ u. y) (λ u. z) ≡ x → ((b ≡ true) × (y ≡ x)) ⊎ ((b ≡ false) × (z ≡ x))
when_tells true y z x e = inl (refl, e)
when_tells false y z x e = inr (refl, e)

-- the first of two steps was read, and the second answers this on what it left
pub record Went {A B : Type 0} (o : Outcome A) (f : A → Reader B) (x : Outcome B) : Type 0 where
  pub value : A
  pub scopes : Scope
  pub looked : Bool
  pub rest : List Token
  pub before : o ≡ read value scopes looked rest
  pub behind : f value scopes looked rest ≡ x

-- two steps are read where both are
pub read_tells : {A B : Type 0} (o : Outcome A) (f : A → Reader B) (b : B) (s : Scope) (seen : Bool) (ts : List Token)
    → and_then o f ≡ read b s seen ts → Went o f (read b s seen ts)
read_tells (read a s1 seen1 us) f b s seen ts e = record { value = a; scopes = s1; looked = seen1; rest = us; before = refl; behind = e }
read_tells (refused us) f b s seen ts e = absurd (cc)
read_tells (too_nested at) f b s seen ts e = absurd (cc)
read_tells spent f b s seen ts e = absurd (cc)

-- two steps are refused where the first is, or the second behind it
pub refused_tells : {A B : Type 0} (o : Outcome A) (f : A → Reader B) (ts : List Token)
    → and_then o f ≡ refused ts → (o ≡ refused ts) ⊎ Went o f (refused ts)
refused_tells (read a s1 seen1 us) f ts e = inr (record { value = a; scopes = s1; looked = seen1; rest = us; before = refl; behind = e })
refused_tells (refused us) f ts e = inl (cc)
refused_tells (too_nested at) f ts e = absurd (cc)
refused_tells spent f ts e = absurd (cc)

-- two steps pass a limit where the first does, or the second behind it
pub nested_tells : {A B : Type 0} (o : Outcome A) (f : A → Reader B) (at : Span)
    → and_then o f ≡ too_nested at → (o ≡ too_nested at) ⊎ Went o f (too_nested at)
nested_tells (read a s1 seen1 us) f at e = inr (record { value = a; scopes = s1; looked = seen1; rest = us; before = refl; behind = e })
nested_tells (refused us) f at e = absurd (cc)
nested_tells (too_nested other) f at e = inl (cc)
nested_tells spent f at e = absurd (cc)

-- two steps are out of turns where the first is, or the second behind it
pub spent_tells : {A B : Type 0} (o : Outcome A) (f : A → Reader B) → and_then o f ≡ spent → (o ≡ spent) ⊎ Went o f spent
spent_tells (read a s1 seen1 us) f e = inr (record { value = a; scopes = s1; looked = seen1; rest = us; before = refl; behind = e })
spent_tells (refused us) f e = absurd (cc)
spent_tells (too_nested at) f e = absurd (cc)
spent_tells spent f e = inl refl

-- something opened: a level was left for it
pub record Opened {A : Type 0} (n : ℕ) (f : ℕ → Outcome A) (x : Outcome A) : Type 0 where
  pub left : ℕ
  pub levels : n ≡ suc left
  pub inside : f left ≡ x

-- what may open does, and else the place passes a limit
pub nest_tells : (limit : ℕ) (inner : ℕ → Reading) (levels : ℕ) {A : Type 0} (at : Span) (n : ℕ) (f : ℕ → Outcome A) (x : Outcome A)
    → nest limit inner levels at n f ≡ x → ((n ≡ zero) × (too_nested at ≡ x)) ⊎ Opened n f x
nest_tells limit inner levels at zero f x e = inl (refl, e)
nest_tells limit inner levels at (suc left) f x e = inr (record { left = left; levels = refl; inside = e })
