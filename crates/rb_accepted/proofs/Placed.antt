-- No two blocks of threads stand at one place, where the tokens of a script stand in order and each has a byte at least.
use Rattle.std.proofs.Common.{◌≡◌, ◌≢◌, refl, ap, ◌∙◌, ℕ, ◌+◌, ◌≤◌, ◌<◌, Bool, true, false, List, [], ◌∷◌, arith}
use Rattle.std.specs.Prelude.{nat_eq}
use Rattle.std.specs.List.{AllByRecursion}
use Rattle.std.proofs.lemmas.Bool.Decides.{nat_tests}
use Rattle.rb_tree.specs.declared.span.Span.{Span}
use Rattle.rb_lexer.specs.declared.token.Token.{Token}
use Rattle.rb_lexer.specs.Spans.{StandInOrder, EndsOnce, NotEmpty}
use Rattle.rb_grammar.specs.Tree.{Thread, Items}
use Rattle.rb_grammar.specs.Script.{IsScript}
use Rattle.rb_grammar.specs.Faithful.{Each}
use Rattle.rb_grammar.specs.Order.{Distinct, blocks_of}
use Rattle.rb_accepted.specs.Laws.{AreOrdered}
use Rattle.rb_accepted.proofs.Paid.{price, load, threads_paid}

-- one for what stands at a place, and nothing for what does not
abbrev one_if : Bool → ℕ
one_if true = 1
one_if false = 0

abbrev at_place : ℕ → Span → ℕ
at_place place at = one_if (nat_eq at.from place)

at_own : (a : ℕ) → one_if (nat_eq a a) ≡ 1
at_own a = let same : nat_eq a a ≡ true = grind (arith, nat_tests) in ap one_if same

at_other : (a b : ℕ) → a ≢ b → one_if (nat_eq a b) ≡ 0
at_other a b differ = let no : nat_eq a b ≡ false = grind (arith, nat_tests) in ap one_if no

-- one at the most
few : (b : Bool) → one_if b ≤ 1
few true = omega arith
few false = omega arith

-- no token behind a place stands there
none_before : (place from to : ℕ) (ts : List Token) → place < from → StandInOrder from to ts → price (at_place place) ts ≡ 0
none_before place from to [] l o = refl
none_before place from to (t ∷ ts) l o =
    let here : from ≤ t.at.from = o.0 in
    let across : t.at.from ≤ t.at.to = o.1 in
    let rest = none_before place t.at.to to ts (omega arith) o.2 in
    let other = at_other t.at.from place (λ e. let same : t.at.from ≡ place = e in omega arith) in
    omega (arith, rest, other)

-- so one token at the most stands at a place
one_token : (place from to : ℕ) (ts : List Token) → StandInOrder from to ts → EndsOnce ts → AllByRecursion NotEmpty ts → price (at_place place) ts ≤ 1
one_token place from to [] o e n = omega arith
one_token place from to (t ∷ []) o e n = omega (arith, few (nat_eq t.at.from place))
one_token place from to (t ∷ u ∷ ts) o e n = by (nat_eq t.at.from place) refl (one_token place t.at.to to (u ∷ ts) o.2 e.1 n.1)
  where
    by : (b : Bool) → nat_eq t.at.from place ≡ b → price (at_place place) (u ∷ ts) ≤ 1 → one_if (nat_eq t.at.from place) + price (at_place place) (u ∷ ts) ≤ 1
    by true is rest =
        let long : t.at.from < t.at.to = n.0 e.0 in
        let here : t.at.from ≡ place = grind (arith, nat_tests, is) in
        omega (arith, few (nat_eq t.at.from place), none_before place t.at.to to (u ∷ ts) (omega arith) o.2)
    by false is rest = omega (arith, ap one_if is)

-- threads of which none stands at a place
none_there : (place : ℕ) (ts : List Thread) → load (at_place place) ts ≡ 0 → Each (λ other. place ≢ other) (blocks_of ts)
none_there place [] h = tt
none_there place (t ∷ more) h = (
  λ e. let own : one_if (nat_eq t.at.from place) ≡ 1 = ap (λ p. one_if (nat_eq t.at.from p)) e ∙ at_own t.at.from in omega (arith, h, own),
  none_there place more (omega (arith, h)),
)

-- threads of which one stands at each place at the most
all_apart : (ts : List Thread) → ((place : ℕ) → load (at_place place) ts ≤ 1) → Distinct (blocks_of ts)
all_apart [] h = tt
all_apart (t ∷ more) h = (
  none_there t.at.from more (omega (arith, h t.at.from, at_own t.at.from)),
  all_apart more (λ place. omega (arith, h place)),
)

pub blocks_apart : (limit levels : ℕ) (tokens : List Token) (found : Items) → AreOrdered tokens → IsScript limit levels tokens found
    → Distinct (blocks_of found.threads)
blocks_apart limit levels tokens found o script =
    all_apart found.threads
    (λ place. omega (arith, threads_paid (at_place place) limit levels tokens found script, one_token place o.from o.to tokens o.stand o.ends o.long))
