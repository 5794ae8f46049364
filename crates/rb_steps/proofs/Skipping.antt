-- How line ends are taken one by one.
use Rattle.std.proofs.Common.{◌≡◌, ℕ, Bool, true, false, refl, sym, ap, ◌∙◌, List, true≢false}
use Rattle.rb_lexer.specs.declared.token.Token.{Token}
use Rattle.rb_grammar.specs.Look.{is, line}
use Rattle.rb_grammar.specs.Tree.{Tree, Items}
use Rattle.rb_grammar.specs.Phrase as p
use Rattle.rb_grammar.specs.Rule.{next_meets}
use Rattle.rb_grammar.specs.Grammar.{rule}
use Rattle.rb_cursor.specs.State.{State, Took, answer_at}
use Rattle.rb_cursor.proofs.Steps.{leads_to, to_first_token, arrives}
use Rattle.rb_steps.specs.Skips.{Skipped}

-- what is known before the last of them was taken
pub record Skipping (some : Bool) (old new : State) : Type 0 where
  pub body : (levels : ℕ) (found : List Tree) → answer_at levels (p.body found) old ≡ answer_at levels (p.body found) new
  pub body_rest : (levels : ℕ) (found : List Tree) → some ≡ true → answer_at levels (p.body_rest found) old ≡ answer_at levels (p.body found) new
  pub items : (levels : ℕ) (found : Items) → answer_at levels (p.items found) old ≡ answer_at levels (p.items found) new
  pub items_rest : (levels : ℕ) (found : Items) → some ≡ true → answer_at levels (p.items_rest found) old ≡ answer_at levels (p.items found) new
  pub none : some ≡ false → new ≡ old

pub no_line_yet : (s : State) → Skipping false s s
no_line_yet s = record {
  body = λ levels found. refl;
  body_rest = λ levels found h. absurd (true≢false (sym h));
  items = λ levels found. refl;
  items_rest = λ levels found h. absurd (true≢false (sym h));
  none = λ h. refl;
}

module _ (levels : ℕ) (s s1 : State) (t : Token) (took : Took (is line) s s1 t) where
  body_over : (found : List Tree) → answer_at levels (p.body found) s ≡ answer_at levels (p.body found) s1
  unfolding rule
  body_over found = leads_to levels (p.body found) s (answer_at levels (p.body found) s1) (to_first_token refl took (arrives levels (p.body found) s1))

  body_rest_over : (found : List Tree) → answer_at levels (p.body_rest found) s ≡ answer_at levels (p.body found) s1
  unfolding rule
  body_rest_over found = leads_to levels (p.body_rest found) s (answer_at levels (p.body found) s1) (to_first_token refl took (arrives levels (p.body found) s1))

  items_over : (found : Items) → answer_at levels (p.items found) s ≡ answer_at levels (p.items found) s1
  unfolding rule
  items_over found = leads_to levels (p.items found) s (answer_at levels (p.items found) s1) (to_first_token refl took (arrives levels (p.items found) s1))

  items_rest_over : (found : Items) → answer_at levels (p.items_rest found) s ≡ answer_at levels (p.items found) s1
  unfolding rule
  items_rest_over found = leads_to levels (p.items_rest found) s (answer_at levels (p.items found) s1) (to_first_token refl took (arrives levels (p.items found) s1))

pub one_more : (some : Bool) (old s s1 : State) (t : Token) → Took (is line) s s1 t → Skipping some old s → Skipping true old s1
one_more true old s s1 t took h = record {
  body = λ levels found. h.body levels found ∙ body_over levels s s1 t took found;
  body_rest = λ levels found e. h.body_rest levels found refl ∙ body_over levels s s1 t took found;
  items = λ levels found. h.items levels found ∙ items_over levels s s1 t took found;
  items_rest = λ levels found e. h.items_rest levels found refl ∙ items_over levels s s1 t took found;
  none = λ e. absurd (true≢false e);
}
one_more false old s s1 t took h = record {
  body = λ levels found. h.body levels found ∙ body_over levels s s1 t took found;
  body_rest = λ levels found e. ap (λ x. answer_at levels (p.body_rest found) x) (sym (h.none refl)) ∙ body_rest_over levels s s1 t took found;
  items = λ levels found. h.items levels found ∙ items_over levels s s1 t took found;
  items_rest = λ levels found e. ap (λ x. answer_at levels (p.items_rest found) x) (sym (h.none refl)) ∙ items_rest_over levels s s1 t took found;
  none = λ e. absurd (true≢false e);
}

pub all_skipped : (some : Bool) (old s s1 : State) → next_meets (is line) s.rest ≡ false → s1 ≡ s → Skipping some old s → Skipped some old s1
all_skipped some old s s1 behind same h = rw same (record { behind = behind; body = h.body; body_rest = h.body_rest; items = h.items; items_rest = h.items_rest; none = h.none })
