-- A name is in scope where a use speaks of it: its local was made in a scope that is seen there, and each thread between has it in its frame.
use Rattle.std.proofs.Common.{◌≡◌, ◌∙◌, refl, ap, sym, subst, ◌⊎◌, inl, inr, ℕ, Bool, true, false, cond, List, [], ◌∷◌, ◌++◌, Option, Some, None, arith}
use Rattle.std.specs.Prelude.{◌&&◌, ◌||◌, ◌==◌, not}
use Rattle.std.specs.List.{flat_map, list_any, list_all}
use Rattle.std.proofs.lemmas.Bool.{false≢true, and_parts}
use Rattle.std.proofs.lemmas.Bool.Decides.{nat_tests}
use Rattle.rb_tree.specs.declared.span.NameId.{NameId}
use Rattle.rb_checker.specs.declared.event.Around.TheVariants as around
use Rattle.rb_checker.specs.declared.locals.Local.{Local}
use Rattle.rb_checker.specs.Around.{Open}
use Rattle.rb_checker.specs.Locals.{Use, same_scope, same_local, scopes_of}
use Rattle.rb_checker.specs.Scoped.{made_in, new_name, names_behind, names_in}
use Rattle.rb_checker.specs.Captured.{handed, captured_in, params_in, frame_at}
use Rattle.rb_checker.specs.Settled.{within}
use Rattle.rb_grammar.specs.Faithful.{Each}
use Rattle.rb_accepted.specs.Coded.{is_seen}
use Rattle.rb_accepted.proofs.Framed.{frame}
use Rattle.rb_accepted.proofs.Segments.{In, in_left, in_right, in_either, Begun, Threaded}

-- ---- numbers, scopes and locals that are the same

same_number : (m n : ℕ) → (m == n) ≡ true → m ≡ n
same_number m n h = grind (arith, nat_tests, h)

own_number : (n : ℕ) → (n == n) ≡ true
own_number n = grind (arith, nat_tests)

pub scope_is : (a b : Option ℕ) → same_scope a b ≡ true → a ≡ b
scope_is None None h = refl
scope_is None (Some b) h = absurd (false≢true h)
scope_is (Some a) None h = absurd (false≢true h)
scope_is (Some a) (Some b) h = ap Some (same_number a b h)

pub own_scope : (a : Option ℕ) → same_scope a a ≡ true
own_scope None = refl
own_scope (Some a) = own_number a

local_by : (a b : Local) → a.name ≡ b.name → a.scope ≡ b.scope → a ≡ b
local_by a b n s = ap (λ (x : ℕ). record { name = x; scope = a.scope }) n ∙ ap (λ (x : Option ℕ). record { name = b.name; scope = x }) s

pub local_is : (a b : Local) → same_local a b ≡ true → a ≡ b
local_is a b h = let p = and_parts (a.name == b.name) (same_scope a.scope b.scope) h in local_by a b (same_number a.name b.name p.0) (scope_is a.scope b.scope p.1)

pub own_local : (a : Local) → same_local a a ≡ true
own_local a = ap (λ x. x && same_scope a.scope a.scope) (own_number a.name) ∙ own_scope a.scope

-- ---- tests of lists

-- what passes a test is found in more
pub any_left : {A : Type 0} (f : A → Bool) (xs ys : List A) → list_any f xs ≡ true → list_any f (xs ++ ys) ≡ true
any_left f [] ys h = absurd (false≢true h)
any_left f (x ∷ xs) ys h = by (f x) (list_any f xs) h (any_left f xs ys)
  where
    by : (a b : Bool) → (a || b) ≡ true → (b ≡ true → list_any f (xs ++ ys) ≡ true) → (a || list_any f (xs ++ ys)) ≡ true
    by true b h k = refl
    by false b h k = k h

pub any_right : {A : Type 0} (f : A → Bool) (xs ys : List A) → list_any f ys ≡ true → list_any f (xs ++ ys) ≡ true
any_right f [] ys h = h
any_right f (x ∷ xs) ys h = by (f x) (any_right f xs ys h)
  where
    by : (a : Bool) → list_any f (xs ++ ys) ≡ true → (a || list_any f (xs ++ ys)) ≡ true
    by true k = refl
    by false k = k

pub any_in : {A : Type 0} (f : A → Bool) (xs : List A) (x : A) → In x xs → f x ≡ true → list_any f xs ≡ true
any_in f [] x i h = absurd i
any_in f (y ∷ xs) x (inl e) h = ap (λ b. b || list_any f xs) (ap f (sym e) ∙ h)
any_in f (y ∷ xs) x (inr i) h = by (f y) (any_in f xs x i h)
  where
    by : (a : Bool) → list_any f xs ≡ true → (a || list_any f xs) ≡ true
    by true k = refl
    by false k = k

-- where each passes a test, all do
pub all_in : {A : Type 0} (f : A → Bool) (xs : List A) → ((x : A) → In x xs → f x ≡ true) → list_all f xs ≡ true
all_in f [] h = refl
all_in f (x ∷ xs) h = ap (λ b. b && list_all f xs) (h x (inl refl)) ∙ all_in f xs (λ y i. h y (inr i))

-- an element of what one of a list is mapped to, and back
pub in_flat : {A B : Type 0} (f : A → List B) (xs : List A) (x : A) (y : B) → In x xs → In y (f x) → In y (flat_map f xs)
in_flat f [] x y i j = absurd i
in_flat f (z ∷ xs) x y (inl e) j = in_left y (f z) (flat_map f xs) (subst (λ w. In y (f w)) e j)
in_flat f (z ∷ xs) x y (inr i) j = in_right y (f z) (flat_map f xs) (in_flat f xs x y i j)

pub flat_in : {A B : Type 0} (f : A → List B) (xs : List A) (y : B) → In y (flat_map f xs) → (x : A) × (In x xs × In y (f x))
flat_in f [] y i = absurd i
flat_in f (x ∷ xs) y i = by (flat_in f xs y) (in_either y (f x) (flat_map f xs) i)
  where
    by : (In y (flat_map f xs) → (z : _) × (In z xs × In y (f z))) → In y (f x) ⊎ In y (flat_map f xs) → (z : _) × (In z (x ∷ xs) × In y (f z))
    by rest (inl j) = (x, (inl refl, j))
    by rest (inr j) = let r = rest j in (r.0, (inr r.1.0, r.1.1))

-- ---- the names of locals

-- the name of a number
abbrev pub named : ℕ → NameId
named n = record { 0 = n }

-- a name that is in scope is in more
seen_right : (name : NameId) (xs ys : List NameId) → is_seen name ys ≡ true → is_seen name (xs ++ ys) ≡ true
seen_right name xs ys h = any_right (λ (n : NameId). n.0 == name.0) xs ys h

seen_left : (name : NameId) (xs ys : List NameId) → is_seen name xs ≡ true → is_seen name (xs ++ ys) ≡ true
seen_left name xs ys h = any_left (λ (n : NameId). n.0 == name.0) xs ys h

-- a local that is among others, and not among those before them, gives its name
names_seen : (before : List Local) (v : Local) (ls : List Local) → list_any (same_local v) before ≡ false → list_any (same_local v) ls ≡ true
    → is_seen (named v.name) (names_behind before v.scope ls) ≡ true
names_seen before v [] none h = absurd (false≢true h)
names_seen before v (l ∷ ls) none h = by (same_local v l) refl h (λ k. names_seen (l ∷ before) v ls k)
  where
    first : l ≡ v → is_seen (named v.name) (new_name before v.scope l) ≡ true
    first e =
        ap (λ (x : Local). is_seen (named v.name) (new_name before v.scope x)) e
        ∙ ap (λ b. is_seen (named v.name) (cond (b && not (list_any (same_local v) before)) (named v.name ∷ []) [])) (own_scope v.scope)
        ∙ ap (λ b. is_seen (named v.name) (cond (not b) (named v.name ∷ []) [])) none
        ∙ ap (λ b. b || false) (own_number v.name)

    by : (b : Bool) → same_local v l ≡ b → (b || list_any (same_local v) ls) ≡ true
        → (list_any (same_local v) (l ∷ before) ≡ false → list_any (same_local v) ls ≡ true → is_seen (named v.name) (names_behind (l ∷ before) v.scope ls) ≡ true)
        → is_seen (named v.name) (new_name before v.scope l ++ names_behind (l ∷ before) v.scope ls) ≡ true
    by true e k rest = seen_left (named v.name) (new_name before v.scope l) (names_behind (l ∷ before) v.scope ls) (first (sym (local_is v l e)))
    by false e k rest =
        seen_right (named v.name) (new_name before v.scope l) (names_behind (l ∷ before) v.scope ls) (rest (ap (λ b. b || list_any (same_local v) before) e ∙ none) k)

-- a name is that of a local of the scope
pub names_of : (before : List Local) (scope : Option ℕ) (ls : List Local) (n : NameId) → In n (names_behind before scope ls)
    → (l : Local) × (In l ls × ((l.name ≡ n.0) × (l.scope ≡ scope)))
names_of before scope [] n i = absurd i
names_of before scope (l ∷ ls) n i = by (names_of (l ∷ before) scope ls n) (in_either n (new_name before scope l) (names_behind (l ∷ before) scope ls) i)
  where
    here : (b : Bool) → (same_scope l.scope scope && not (list_any (same_local l) before)) ≡ b → In n (cond b (named l.name ∷ []) []) → (l.name ≡ n.0) × (l.scope ≡ scope)
    here true e (inl same) = (ap (λ (x : NameId). x.0) (sym same), scope_is l.scope scope (and_parts (same_scope l.scope scope) (not (list_any (same_local l) before)) e).0)
    here true e (inr j) = absurd j
    here false e j = absurd j

    by : (In n (names_behind (l ∷ before) scope ls) → (k : Local) × (In k ls × ((k.name ≡ n.0) × (k.scope ≡ scope))))
        → In n (new_name before scope l) ⊎ In n (names_behind (l ∷ before) scope ls)
        → (k : Local) × (In k (l ∷ ls) × ((k.name ≡ n.0) × (k.scope ≡ scope)))
    by rest (inl j) = (l, (inl refl, here (same_scope l.scope scope && not (list_any (same_local l) before)) refl j))
    by rest (inr j) = let r = rest j in (r.0, (inr r.1.0, r.1.1))

-- ---- a name in scope

-- a local is made, and it is captured
abbrev pub IsMade : List Use → Local → Type 0
IsMade uses l = list_any (same_local l) (made_in uses) ≡ true

abbrev pub IsCaptured : List Use → Local → Type 0
IsCaptured uses l = list_any (same_local l) (captured_in uses) ≡ true

-- what is made in a scope is among its names
pub own_seen : (uses : List Use) (name : ℕ) (scope : Option ℕ) → IsMade uses (record { name = name; scope = scope }) → is_seen (named name) (names_in uses scope) ≡ true
own_seen uses name scope h = names_seen [] (record { name = name; scope = scope }) (made_in uses) refl h

-- what is made in the scope of a thread, or captured by it, is in its frame
made_seen : (uses : List Use) (name place : ℕ) → IsMade uses (record { name = name; scope = Some place }) → is_seen (named name) (frame_at uses place) ≡ true
made_seen uses name place h =
    let v : Local = record { name = name; scope = Some place } in
    names_seen [] v (params_in uses ++ (captured_in uses ++ made_in uses)) refl
    (any_right (same_local v) (params_in uses) (captured_in uses ++ made_in uses) (any_right (same_local v) (captured_in uses) (made_in uses) h))

captured_seen : (uses : List Use) (name place : ℕ) → IsCaptured uses (record { name = name; scope = Some place }) → is_seen (named name) (frame_at uses place) ≡ true
captured_seen uses name place h =
    let v : Local = record { name = name; scope = Some place } in
    names_seen [] v (params_in uses ++ (captured_in uses ++ made_in uses)) refl
    (any_right (same_local v) (params_in uses) (captured_in uses ++ made_in uses) (any_left (same_local v) (captured_in uses) (made_in uses) h))

module _ (uses : List Use) (own : List NameId) (name : ℕ) (scope : Option ℕ) where
  -- a scope that is not this one is one of those further out
  further : (place : ℕ) (outer : Open) → same_scope scope (Some place) ≡ false → In scope (Some place ∷ scopes_of outer) → In scope (scopes_of outer)
  further place outer e (inl same) = absurd (false≢true (sym e ∙ ap (λ s. same_scope s (Some place)) same ∙ own_scope (Some place)))
  further place outer e (inr i) = i

  -- a local of one of the scopes that are seen, which was made there and is handed to the threads between
  pub frame_seen : (round : Open) → In scope (scopes_of round) → (scope ≡ None → is_seen (named name) own ≡ true) → IsMade uses (record { name = name; scope = scope })
      → Each (IsCaptured uses) (handed name (within scope round)) → is_seen (named name) (frame uses own round) ≡ true
  frame_seen [] (inl e) o made h = o e
  frame_seen [] (inr i) o made h = absurd i
  frame_seen ((around.Loop, at) ∷ outer) i o made h = frame_seen outer i o made h
  frame_seen ((around.Value n, at) ∷ outer) i o made h = frame_seen outer i o made h
  frame_seen ((around.Block, at) ∷ outer) i o made h = by (same_scope scope (Some at.from)) refl h (λ j k. frame_seen outer j o made k)
    where
      by : (b : Bool) → same_scope scope (Some at.from) ≡ b → Each (IsCaptured uses) (handed name (cond b [] ((around.Block, at) ∷ within scope outer)))
          → (In scope (scopes_of outer) → Each (IsCaptured uses) (handed name (within scope outer)) → is_seen (named name) (frame uses own outer) ≡ true)
          → is_seen (named name) (frame uses own outer ++ names_in uses (Some at.from)) ≡ true
      by true e g rest =
          seen_right (named name) (frame uses own outer) (names_in uses (Some at.from))
          (own_seen uses name (Some at.from) (subst (λ (s : Option ℕ). IsMade uses (record { name = name; scope = s })) (scope_is scope (Some at.from) e) made))
      by false e g rest = seen_left (named name) (frame uses own outer) (names_in uses (Some at.from)) (rest (further at.from outer e i) g)
  frame_seen ((around.Thread, at) ∷ outer) i o made h = by (same_scope scope (Some at.from)) refl h
    where
      by : (b : Bool) → same_scope scope (Some at.from) ≡ b → Each (IsCaptured uses) (handed name (cond b [] ((around.Thread, at) ∷ within scope outer)))
          → is_seen (named name) (frame_at uses at.from) ≡ true
      by true e g = made_seen uses name at.from (subst (λ (s : Option ℕ). IsMade uses (record { name = name; scope = s })) (scope_is scope (Some at.from) e) made)
      by false e g = captured_seen uses name at.from g.0

  -- the start of a thread to which a local is handed, with what holds where it stands
  pub record IsHanded (begun : List Begun) (place : ℕ) : Type 0 where
    pub it : Begun
    pub found : In it begun
    pub stands : it.at.from ≡ place
    pub seen : In scope (scopes_of it.round)
    pub captured : Each (IsCaptured uses) (handed name (within scope it.round))

  -- a thread to which a local is handed is one of those that stand round
  pub handed_there : (begun : List Begun) (place : ℕ) (l : Local) (round : Open) → l.scope ≡ Some place → Threaded begun round → In scope (scopes_of round)
      → Each (IsCaptured uses) (handed name (within scope round)) → In l (handed name (within scope round)) → (l.name ≡ name) × IsHanded begun place
  handed_there begun place l [] s t i h j = absurd j
  handed_there begun place l ((around.Loop, at) ∷ outer) s t i h j = handed_there begun place l outer s t i h j
  handed_there begun place l ((around.Value n, at) ∷ outer) s t i h j = handed_there begun place l outer s t i h j
  handed_there begun place l ((around.Block, at) ∷ outer) s t i h j = by (same_scope scope (Some at.from)) refl h j (handed_there begun place l outer s t)
    where
      by : (b : Bool) → same_scope scope (Some at.from) ≡ b → Each (IsCaptured uses) (handed name (cond b [] ((around.Block, at) ∷ within scope outer)))
          → In l (handed name (cond b [] ((around.Block, at) ∷ within scope outer)))
          → (In scope (scopes_of outer) → Each (IsCaptured uses) (handed name (within scope outer)) → In l (handed name (within scope outer)) → (l.name ≡ name) × IsHanded begun place)
          → (l.name ≡ name) × IsHanded begun place
      by true e g k rest = absurd k
      by false e g k rest = rest (further at.from outer e i) g k
  handed_there begun place l ((around.Thread, at) ∷ outer) s t i h j = by (same_scope scope (Some at.from)) refl h j (handed_there begun place l outer s t.1)
    where
      of_some : (a b : ℕ) → Some a ≡ Some b → a ≡ b
      of_some a b e = ap (λ (o : Option ℕ). elim o [ None ↦ a | Some x ↦ x ]) e

      by : (b : Bool) → same_scope scope (Some at.from) ≡ b → Each (IsCaptured uses) (handed name (cond b [] ((around.Thread, at) ∷ within scope outer)))
          → In l (handed name (cond b [] ((around.Thread, at) ∷ within scope outer)))
          → (In scope (scopes_of outer) → Each (IsCaptured uses) (handed name (within scope outer)) → In l (handed name (within scope outer)) → (l.name ≡ name) × IsHanded begun place)
          → (l.name ≡ name) × IsHanded begun place
      by true e g k rest = absurd k
      by false e g (inl same) rest = (
        ap (λ (x : Local). x.name) same,
        record {
          it = record { round = outer; number = t.0.0; at = at };
          found = t.0.1;
          stands = of_some at.from place (sym (ap (λ (x : Local). x.scope) same) ∙ s);
          seen = further at.from outer e i;
          captured = g.1;
        },
      )
      by false e g (inr k) rest = rest (further at.from outer e i) g.1 k
