-- Line ends, as the grammar has them.
use Rattle.std.specs.Prelude.{◌≡◌, ℕ, Bool, true, false, List}
use Rattle.rb_grammar.specs.Look.{is, line}
use Rattle.rb_grammar.specs.Tree.{Tree, Items}
use Rattle.rb_grammar.specs.Phrase as p
use Rattle.rb_grammar.specs.Rule.{next_meets}
use Rattle.rb_cursor.specs.State.{State, answer_at}

-- Line ends were taken, up to something else. A body, or the items of a script, goes on behind them: also behind a statement or
-- an item where there was one line end at least.
pub record Skipped (some : Bool) (old new : State) : Type 0 where
  pub behind : next_meets (is line) new.rest ≡ false
  pub body : (levels : ℕ) (found : List Tree) → answer_at levels (p.body found) old ≡ answer_at levels (p.body found) new
  pub body_rest : (levels : ℕ) (found : List Tree) → some ≡ true → answer_at levels (p.body_rest found) old ≡ answer_at levels (p.body found) new
  pub items : (levels : ℕ) (found : Items) → answer_at levels (p.items found) old ≡ answer_at levels (p.items found) new
  pub items_rest : (levels : ℕ) (found : Items) → some ≡ true → answer_at levels (p.items_rest found) old ≡ answer_at levels (p.items found) new
  pub none : some ≡ false → new ≡ old

abbrev pub IsThen : Unit {0} → Unit {0} → Type 0
IsThen u v = Unit {0}
