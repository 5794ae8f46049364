-- The reader answers that something is nested too deep only where a limit is passed.
use Rattle.std.proofs.Common.{◌≡◌, ℕ, zero, suc, ◌≤◌, Bool, true, false, ◌||◌, nat_le, List, [], ◌∷◌, sym, subst, inl, inr, arith}
use Rattle.std.proofs.lemmas.Bool.{leb-true, leb-false}
use Rattle.rb_tree.specs.declared.span.Span.{Span}
use Rattle.rb_lexer.specs.declared.token.Token.{Token}
use Rattle.rb_grammar.specs.Look.{class_of}
use Rattle.rb_grammar.specs.Scope.{Scope, is_local}
use Rattle.rb_grammar.specs.Phrase.{Phrase, Value}
use Rattle.rb_grammar.specs.Rule.{Rule, done, refuse, token, phrase, nested, built, either, look, pick, known, touching, ahead, scope, next_meets, next_touches, arguments_follow, Spelling}
use Rattle.rb_grammar.specs.Grammar.{rule, spelled}
use Rattle.rb_grammar.specs.Heads.{begins}
use Rattle.rb_grammar.specs.Reading.{read, refused, too_nested, Reading, from_refused, is_looked_behind, and_then, run, reading}
use Rattle.rb_grammar.specs.Nesting.{Event, opens_at, builds_node, Reaching, Reaches, reached, Passes, TooNestedAt}
use Rattle.rb_grammar.specs.Nesting as w
use Rattle.rb_grammar.proofs.Steps.{when_tells, nested_tells, nest_tells}
use Rattle.rb_grammar.proofs.Sound.{reading_sound}
use Rattle.rb_grammar.proofs.Faithfully.{Good, Given, Keeps}
use Rattle.rb_grammar.proofs.FaithfulScript.{keeps, spelled_faithful}

-- some way comes to an event that passes a limit at this place
pub record Over (limit levels : ℕ) (at : Span) (way : ℕ → Event → Type 0) : Type 0 where
  pub count : ℕ
  pub event : Event
  pub goes : way count event
  pub passes : Passes limit levels at count event

-- as far on a longer way
pub further : {limit levels : ℕ} {at : Span} {way longer : ℕ → Event → Type 0} → ((n : ℕ) (e : Event) → way n e → longer n e)
    → Over limit levels at way → Over limit levels at longer
further more o = record { count = o.count; event = o.event; goes = more o.count o.event o.goes; passes = o.passes }

-- with one level more, it takes one more that is open
pub deeper : {limit left : ℕ} {at : Span} {n : ℕ} {e : Event} → Passes limit left at n e → Passes limit (suc left) at (suc n) e
deeper w.too_many_open = w.too_many_open
deeper (w.too_high b high here) = w.too_high b high here

-- where no level is left, one more that opens passes the limit
first_open : (limit levels : ℕ) (here at : Span) → levels ≡ zero → here ≡ at → Passes limit levels at 1 (opens_at here)
first_open limit levels here at none same =
    subst (λ (l : ℕ). Passes limit l at 1 (opens_at here)) (sym none) (subst (λ (x : Span). Passes limit zero at 1 (opens_at x)) (sym same) w.too_many_open)

module _ (limit : ℕ) (reader : ℕ → Reading) (inner : ℕ → Spelling) (reach : ℕ → Reaching)
    (sound : (l : ℕ) (n : Phrase) (s : Scope) (seen : Bool) (ts : List Token) (v : Value n) (s' : Scope) (seen' : Bool) (us : List Token)
    → reader l n s seen ts ≡ read v s' seen' us → inner l n s ts v s' us)
    (good : (l : ℕ) (n : Phrase) (s : Scope) (ts : List Token) (v : Value n) (s' : Scope) (us : List Token)
    → Given limit n → inner l n s ts v s' us → Good limit n v)
    (over : (l : ℕ) (n : Phrase) (s : Scope) (seen : Bool) (ts : List Token) (at : Span)
    → Given limit n → reader l n s seen ts ≡ too_nested at → Over limit l at (reach l n s ts))
    (levels : ℕ) where
  -- A rule that passes a limit comes there, where the phrases in it do. A node that is built is no more than one too high, where the
  -- rule keeps to what is faithful.
  pub run_nested : {A : Type 0} (P : A → Type 0) (r : Rule A) → Keeps limit r P → (s : Scope) (seen : Bool) (ts : List Token) (at : Span)
      → run limit reader levels r s seen ts ≡ too_nested at → Over limit levels at (Reaches limit inner reach levels r s ts)
  run_nested P (done b) kept s seen ts at e = absurd (cc)
  run_nested P refuse kept s seen ts at e = absurd (cc)
  run_nested P (token test k) kept s seen [] at e = absurd (cc)
  run_nested P (token test k) kept s seen (t ∷ ts) at e =
      elim (when_tells (test (class_of t.kind) t.spaced) (run limit reader levels (k t) s false ts) (refused (from_refused seen (t ∷ ts))) (too_nested at) e) [
        | inl h ↦ further (λ n e. w.takes h.0) (run_nested P (k t) (kept t) s false ts at h.1)
        | inr h ↦ absurd (let f = h.1 in cc)
      ]
  run_nested P (phrase m k) kept s seen ts at e =
      elim (nested_tells (reader levels m s seen ts) (λ v. run limit reader levels (k v)) at e) [
        | inl h ↦ further (λ n e. w.within) (over levels m s seen ts at kept.0 h)
        | inr g ↦ (let i = sound levels m s seen ts g.value g.scopes g.looked g.rest g.before in
            further (λ n e. w.behind i)
            (run_nested P (k g.value) (kept.1 g.value (good levels m s ts g.value g.scopes g.rest kept.0 i)) g.scopes g.looked g.rest at g.behind))
      ]
  run_nested P (nested here m k) kept s seen ts at e =
      elim (nest_tells limit reader levels here levels (λ left. and_then (reader left m s seen ts) (λ v. run limit reader levels (k v))) (too_nested at) e) [
        | inl h ↦ record { count = 1; event = opens_at here; goes = w.comes_to_open; passes = first_open limit levels here at h.0 (let f = h.1 in cc) }
        | inr o ↦ elim (nested_tells (reader o.left m s seen ts) (λ v. run limit reader levels (k v)) at o.inside) [
          | inl h ↦ (let i = over o.left m s seen ts at kept.0 h in
              record {
                count = suc i.count;
                event = i.event;
                goes = w.within_open o.levels i.goes;
                passes = subst (λ (l : ℕ). Passes limit l at (suc i.count) i.event) (sym o.levels) (deeper i.passes);
              })
          | inr g ↦ (let i = sound o.left m s seen ts g.value g.scopes g.looked g.rest g.before in
              further (λ n e. w.behind_open o.levels i)
              (run_nested P (k g.value) (kept.1 g.value (good o.left m s ts g.value g.scopes g.rest kept.0 i)) g.scopes g.looked g.rest at g.behind))
        ]
      ]
  run_nested P (built b r) kept s seen ts at e =
      elim (when_tells (nat_le b.height limit) (run limit reader levels r s seen ts) (too_nested b.at) (too_nested at) e) [
        | inl h ↦ further (λ n e. w.builds (leb-true _ _ h.0)) (run_nested P r (kept.1 (leb-true _ _ h.0)) s seen ts at h.1)
        | inr h ↦ (let high = leb-false b.height limit h.0 in
            record { count = 0; event = builds_node b; goes = w.comes_to_build; passes = w.too_high b (omega (arith, high, kept.0)) (let f = h.1 in cc) })
      ]
  run_nested P (either q r) kept s seen ts at e =
      elim (when_tells (begins q ts) (run limit reader levels q s seen ts) (run limit reader levels r s seen ts) (too_nested at) e) [
        | inl h ↦ further (λ n e. w.first) (run_nested P q kept.0 s seen ts at h.1)
        | inr h ↦ further (λ n e. w.second) (run_nested P r kept.1 s seen ts at h.1)
      ]
  run_nested P (look test r) kept s seen ts at e =
      elim (when_tells (next_meets test ts) (run limit reader levels r s seen ts) (refused (from_refused seen ts)) (too_nested at) e) [
        | inl h ↦ further (λ n e. w.looks h.0) (run_nested P r kept s seen ts at h.1)
        | inr h ↦ absurd (let f = h.1 in cc)
      ]
  run_nested P (pick true q r) kept s seen ts at e = further (λ n e. w.picks) (run_nested P q kept.0 s seen ts at e)
  run_nested P (pick false q r) kept s seen ts at e = further (λ n e. w.picks_not) (run_nested P r kept.1 s seen ts at e)
  run_nested P (known text q r) kept s seen ts at e =
      elim (when_tells (is_local text s) (run limit reader levels q s seen ts) (run limit reader levels r s seen ts) (too_nested at) e) [
        | inl h ↦ further (λ n e. w.knows h.0) (run_nested P q kept.0 s seen ts at h.1)
        | inr h ↦ further (λ n e. w.knows_not h.0) (run_nested P r kept.1 s seen ts at h.1)
      ]
  run_nested P (touching place q r) kept s seen ts at e =
      elim (when_tells (next_touches place ts) (run limit reader levels q s seen ts) (run limit reader levels r s seen ts) (too_nested at) e) [
        | inl h ↦ further (λ n e. w.touches h.0) (run_nested P q kept.0 s seen ts at h.1)
        | inr h ↦ further (λ n e. w.touches_not h.0) (run_nested P r kept.1 s seen ts at h.1)
      ]
  run_nested P (ahead q r) kept s seen ts at e =
      elim (when_tells (arguments_follow ts) (run limit reader levels q s (is_looked_behind ts || seen) ts)
      (run limit reader levels r s (is_looked_behind ts || seen) ts) (too_nested at) e) [
        | inl h ↦ further (λ n e. w.commands h.0) (run_nested P q kept.0 s (is_looked_behind ts || seen) ts at h.1)
        | inr h ↦ further (λ n e. w.commands_not h.0) (run_nested P r kept.1 s (is_looked_behind ts || seen) ts at h.1)
      ]
  run_nested P (scope f r) kept s seen ts at e = further (λ n e. w.changes) (run_nested P r kept (f s) seen ts at e)

-- where the reader passes a limit in so many turns, a way so deep comes there
pub reading_over : (limit : ℕ) → 2 ≤ limit → (turns levels : ℕ) (m : Phrase) (s : Scope) (seen : Bool) (ts : List Token) (at : Span)
    → Given limit m → reading limit turns levels m s seen ts ≡ too_nested at → Over limit levels at (reached limit turns levels m s ts)
reading_over limit two zero levels m s seen ts at g e = absurd (cc)
reading_over limit two (suc turns) levels m s seen ts at g e =
    run_nested limit (reading limit turns) (spelled limit turns) (reached limit turns) (reading_sound limit turns) (spelled_faithful limit two turns)
    (reading_over limit two turns) levels (Good limit m) (rule m) (keeps limit two m g) s seen ts at e

-- the reader answers that something is nested too deep only where a limit is passed
pub reading_nested : (limit : ℕ) → 2 ≤ limit → (turns levels : ℕ) (m : Phrase) (s : Scope) (seen : Bool) (ts : List Token) (at : Span)
    → Given limit m → reading limit turns levels m s seen ts ≡ too_nested at → TooNestedAt limit levels m s ts at
reading_nested limit two turns levels m s seen ts at g e =
    let o = reading_over limit two turns levels m s seen ts at g e in
    record { depth = turns; count = o.count; event = o.event; way = o.goes; passes = o.passes }
