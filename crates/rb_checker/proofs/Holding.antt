-- What stands round assignments.
use Rattle.std.proofs.Common.{◌≡◌, ℕ, Bool, true, false, cond, List, [], ◌∷◌, Option, Some, None, refl, sym, ap, ◌∙◌}
use Rattle.std.specs.Prelude.{◌==◌, ◌&&◌, ◌||◌}
use Rattle.std.specs.HashSet.{contains, contains_by}
use Rattle.std.specs.List.{list_any}
use Rattle.std.specs.Option.{option_eq}
use Rattle.std.proofs.Math.Dec.{eqb}
use denote.Enum.Bare.{sameb}
use Rattle.rb_checker.specs.contracts.settling.Enclosure.{the_type}
use Rattle.rb_checker.specs.contracts.settling.HeldPartialEq.TheImpl as held
use Rattle.rb_tree.specs.declared.span.Span.{Span}
use Rattle.rb_checker.specs.declared.event.Around.{Around}
use Rattle.rb_checker.specs.declared.event.Around.TheVariants as around
use Rattle.rb_checker.specs.declared.locals.Local.{Local}
use Rattle.rb_checker.specs.declared.settling.Held.{Held}
use Rattle.rb_checker.specs.declared.settling.Enclosure.{Enclosure}
use Rattle.rb_checker.specs.declared.settling.Enclosure.TheVariants as enclosure
use Rattle.rb_checker.specs.Around.{Open}
use Rattle.rb_checker.specs.Assigned.{Helds, enclosure_of, same_enclosure, same_held, has_held}
use Rattle.rb_checker.specs.Locals.{same_scope, same_local}
use Rattle.rb_checker.specs.Settled.{holds}
use Rattle.rb_checker.proofs.Knowing.{swapped, same_local_swapped}

same_enclosure_swapped : (a b : Enclosure) → same_enclosure a b ≡ same_enclosure b a
same_enclosure_swapped enclosure.Loop enclosure.Loop = refl
same_enclosure_swapped enclosure.Loop enclosure.Block = refl
same_enclosure_swapped enclosure.Loop enclosure.Thread = refl
same_enclosure_swapped enclosure.Block enclosure.Loop = refl
same_enclosure_swapped enclosure.Block enclosure.Block = refl
same_enclosure_swapped enclosure.Block enclosure.Thread = refl
same_enclosure_swapped enclosure.Thread enclosure.Loop = refl
same_enclosure_swapped enclosure.Thread enclosure.Block = refl
same_enclosure_swapped enclosure.Thread enclosure.Thread = refl

pub same_held_swapped : (a b : Held) → same_held a b ≡ same_held b a
same_held_swapped a b =
    ap (λ t. t && (same_enclosure a.enclosure b.enclosure && a.from == b.from)) (same_local_swapped a.local b.local)
    ∙ ap (λ t. same_local b.local a.local && (t && a.from == b.from)) (same_enclosure_swapped a.enclosure b.enclosure)
    ∙ ap (λ t. same_local b.local a.local && (same_enclosure b.enclosure a.enclosure && t)) (swapped a.from b.from)

-- the key of what stands round an assignment to a local
abbrev pub is_key : Local → Around × Span → Held → Bool
is_key local (a, at) k = elim (enclosure_of a) [ None ↦ false | Some x ↦ same_held k (record { local = local; enclosure = x; from = at.from }) ]

same : (s : Bool) (m n : ℕ) → (s && m == n) ≡ (s && (n == m || false))
same s m n = ap (λ t. s && t) (swapped m n ∙ with_false (n == m))
  where
    with_false : (b : Bool) → b ≡ (b || false)
    with_false true = refl
    with_false false = refl

neither : (s old : Bool) → old ≡ ((s && false) || old)
neither true old = refl
neither false old = refl

pub one_held : (set new : Helds) (v local : Local) (e a : Around × Span) → ((k : Held) → contains_by (λ (h : Held). same_held k h) new ≡ (is_key local a k || contains_by (λ (h : Held). same_held k h) set))
    → has_held new v e ≡ ((same_local v local && holds (a ∷ []) e) || has_held set v e)
one_held set new v local (around.Loop, et) (around.Loop, at) h =
    h (record { local = v; enclosure = enclosure.Loop; from = et.from }) ∙ ap (λ b. b || has_held set v (around.Loop, et)) (same (same_local v local) et.from at.from)
one_held set new v local (around.Loop, et) (around.Block, at) h = h (record { local = v; enclosure = enclosure.Loop; from = et.from })
one_held set new v local (around.Loop, et) (around.Thread, at) h = h (record { local = v; enclosure = enclosure.Loop; from = et.from })
one_held set new v local (around.Loop, et) (around.Value name, at) h = h (record { local = v; enclosure = enclosure.Loop; from = et.from }) ∙ neither (same_local v local) (has_held set v (around.Loop, et))
one_held set new v local (around.Block, et) (around.Loop, at) h = h (record { local = v; enclosure = enclosure.Block; from = et.from })
one_held set new v local (around.Block, et) (around.Block, at) h =
    h (record { local = v; enclosure = enclosure.Block; from = et.from }) ∙ ap (λ b. b || has_held set v (around.Block, et)) (same (same_local v local) et.from at.from)
one_held set new v local (around.Block, et) (around.Thread, at) h = h (record { local = v; enclosure = enclosure.Block; from = et.from })
one_held set new v local (around.Block, et) (around.Value name, at) h = h (record { local = v; enclosure = enclosure.Block; from = et.from }) ∙ neither (same_local v local) (has_held set v (around.Block, et))
one_held set new v local (around.Thread, et) (around.Loop, at) h = h (record { local = v; enclosure = enclosure.Thread; from = et.from })
one_held set new v local (around.Thread, et) (around.Block, at) h = h (record { local = v; enclosure = enclosure.Thread; from = et.from })
one_held set new v local (around.Thread, et) (around.Thread, at) h =
    h (record { local = v; enclosure = enclosure.Thread; from = et.from }) ∙ ap (λ b. b || has_held set v (around.Thread, et)) (same (same_local v local) et.from at.from)
one_held set new v local (around.Thread, et) (around.Value name, at) h = h (record { local = v; enclosure = enclosure.Thread; from = et.from }) ∙ neither (same_local v local) (has_held set v (around.Thread, et))
one_held set new v local (around.Value name, et) a h = neither (same_local v local) false

joined : (x y : Bool) → ((x || false) || y) ≡ (x || y)
joined true y = refl
joined false y = refl

-- what is held by one more
pub holds-more : (a : Around × Span) (outer : Open) (e : Around × Span) → (holds (a ∷ []) e || holds outer e) ≡ holds (a ∷ outer) e
holds-more a outer (around.Loop, at) = joined (elim a.0 [ around.Loop ↦ a.1.from == at.from | other ↦ false ]) (holds outer (around.Loop, at))
holds-more a outer (around.Block, at) = joined (elim a.0 [ around.Block ↦ a.1.from == at.from | other ↦ false ]) (holds outer (around.Block, at))
holds-more a outer (around.Thread, at) = joined (elim a.0 [ around.Thread ↦ a.1.from == at.from | other ↦ false ]) (holds outer (around.Thread, at))
holds-more a outer (around.Value name, at) = refl

regrouped : (s x y old : Bool) → ((s && y) || ((s && x) || old)) ≡ ((s && (x || y)) || old)
regrouped true true true old = refl
regrouped true true false old = refl
regrouped true false true old = refl
regrouped true false false old = refl
regrouped false x y old = refl

pub more_held : (set mid new : Helds) (v local : Local) (e a : Around × Span) (outer : Open)
    → has_held mid v e ≡ ((same_local v local && holds (a ∷ []) e) || has_held set v e) → has_held new v e ≡ ((same_local v local && holds outer e) || has_held mid v e)
    → has_held new v e ≡ ((same_local v local && holds (a ∷ outer) e) || has_held set v e)
more_held set mid new v local e a outer one rest =
    rest ∙ ap (λ b. (same_local v local && holds outer e) || b) one ∙ regrouped (same_local v local) (holds (a ∷ []) e) (holds outer e) (has_held set v e)
    ∙ ap (λ b. (same_local v local && b) || has_held set v e) (holds-more a outer e)

-- a list holds the same by tests that agree
pub any_by : {A : Type 0} (f g : A → Bool) (xs : List A) → ((x : A) → f x ≡ g x) → list_any f xs ≡ list_any g xs
any_by f g [] same_tests = refl
any_by f g (x ∷ xs) same_tests = ap (λ b. b || list_any f xs) (same_tests x) ∙ ap (λ b. g x || b) (any_by f g xs same_tests)

scope_is : (a b : Option ℕ) → option_eq eqb a b ≡ same_scope a b
scope_is None None = refl
scope_is None (Some b) = refl
scope_is (Some a) None = refl
scope_is (Some a) (Some b) = refl

enclosure_is : (a b : Enclosure) → sameb the_type a b ≡ same_enclosure a b
enclosure_is enclosure.Loop enclosure.Loop = refl
enclosure_is enclosure.Loop enclosure.Block = refl
enclosure_is enclosure.Loop enclosure.Thread = refl
enclosure_is enclosure.Block enclosure.Loop = refl
enclosure_is enclosure.Block enclosure.Block = refl
enclosure_is enclosure.Block enclosure.Thread = refl
enclosure_is enclosure.Thread enclosure.Loop = refl
enclosure_is enclosure.Thread enclosure.Block = refl
enclosure_is enclosure.Thread enclosure.Thread = refl

-- keys are compared as the code compares them
pub held_is : (a b : Held) → (held.eq-value).it a b ≡ same_held a b
held_is a b =
    ap (λ t. (a.local.name == b.local.name && t) && (sameb the_type a.enclosure b.enclosure && a.from == b.from)) (scope_is a.local.scope b.local.scope)
    ∙ ap (λ t. same_local a.local b.local && (t && a.from == b.from)) (enclosure_is a.enclosure b.enclosure)

-- one key more in a set
pub key_more : (set new : Helds) (key other : Held) → contains (held.eq-value).it new other ≡ cond ((held.eq-value).it key other) true (contains (held.eq-value).it set other)
    → contains_by (λ (k : Held). same_held other k) new ≡ (same_held other key || contains_by (λ (k : Held). same_held other k) set)
key_more set new key other more =
    sym (any_by (λ (k : Held). (held.eq-value).it other k) (λ (k : Held). same_held other k) new.keys (λ k. held_is other k))
    ∙ more ∙ ap (λ b. cond b true (contains (held.eq-value).it set other)) (held_is key other ∙ same_held_swapped key other)
    ∙ ap (λ b. cond (same_held other key) true b) (any_by (λ (k : Held). (held.eq-value).it other k) (λ (k : Held). same_held other k) set.keys (λ k. held_is other k))
    ∙ as_or (same_held other key) (contains_by (λ (k : Held). same_held other k) set)
  where
    as_or : (a b : Bool) → cond a true b ≡ (a || b)
    as_or true b = refl
    as_or false b = refl

-- the key of a part that stands round
pub key_is : (local : Local) (a : Around) (at : Span) (x : Enclosure) (k : Held) → enclosure_of a ≡ Some x → same_held k (record { local = local; enclosure = x; from = at.from }) ≡ is_key local (a, at) k
key_is local a at x k is = ap (λ (o : Option Enclosure). elim o [ None ↦ false | Some y ↦ same_held k (record { local = local; enclosure = y; from = at.from }) ]) (sym is)
