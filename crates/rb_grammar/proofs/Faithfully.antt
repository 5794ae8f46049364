-- What it is for a rule to stand for something faithful wherever what it is given is faithful.
use Rattle.std.proofs.Common.{ℕ, suc, ◌≤◌, List, Some, None}
use Rattle.rb_lexer.specs.declared.token.Token.{Token}
use Rattle.rb_grammar.specs.Tree.{Numbering, Tree, PieceTree, Members, method_by}
use Rattle.rb_grammar.specs.Tree as tree
use Rattle.std.specs.Prelude.{◌≡◌, map}
use Rattle.rb_grammar.specs.Scope.{Scope}
use Rattle.rb_grammar.specs.Phrase.{Operand, Head, Part, Phrase, Value}
use Rattle.rb_grammar.specs.Phrase as p
use Rattle.rb_grammar.specs.Rule.{Rule, done, refuse, token, phrase, nested, built, either, look, pick, known, touching, ahead, scope, Spelling, Spells}
use Rattle.rb_grammar.specs.Rule as l
use Rattle.rb_grammar.specs.Faithful.{Each, IsFaithful, MethodIsFaithful, ItemsAreFaithful}
use Rattle.rb_grammar.proofs.FaithfulTrees.{SameNames, SameBodies, SameBlocks, LowBlocks}

-- ---- what is faithful

-- The trees in an operand are faithful. Of its own tree, which may be too high yet, nothing is said.
abbrev pub OperandIsFaithful : ℕ → Operand → Type 0
OperandIsFaithful limit (p.value a) = IsFaithful limit a
OperandIsFaithful limit (p.indexed a j at) = IsFaithful limit a × IsFaithful limit j
OperandIsFaithful limit (p.member a w) = IsFaithful limit a
OperandIsFaithful limit name = Unit {0}

abbrev pub HeadIsFaithful : ℕ → Head → Type 0
HeadIsFaithful limit (p.of_call (Some a) w) = IsFaithful limit a
HeadIsFaithful limit (p.of_call None w) = Unit {0}
HeadIsFaithful limit (p.of_new class at) = Unit {0}

abbrev pub PartIsFaithful : ℕ → Part → Type 0
PartIsFaithful limit (p.plain o) = OperandIsFaithful limit o
PartIsFaithful limit (p.head h) = HeadIsFaithful limit h

abbrev pub PairIsFaithful : ℕ → Tree × Tree → Type 0
PairIsFaithful limit ab = IsFaithful limit ab.0 × IsFaithful limit ab.1

abbrev pub PieceIsFaithful : ℕ → PieceTree → Type 0
PieceIsFaithful limit (tree.bytes text) = Unit {0}
PieceIsFaithful limit (tree.code a) = IsFaithful limit a

-- the methods of a class are faithful, and its names and threads are all that they hang on
pub record MembersAreFaithful (limit : ℕ) (found : Members) : Type 0 where
  pub methods : Each (MethodIsFaithful limit) found.methods
  pub named : (n m : Numbering) → SameNames n m found.names → SameBodies n m found.threads → map (method_by n) found.methods ≡ map (method_by m) found.methods
  pub bodied : (n m : Numbering) → SameNames n m found.names → SameBodies n m found.threads → SameBlocks n m found.threads
  pub bodies_low : (n : Numbering) → LowBlocks limit n found.threads

-- what a phrase stands for is faithful
abbrev pub Good : (limit : ℕ) (n : Phrase) → Value n → Type 0
Good limit (p.items found) v = ItemsAreFaithful limit v
Good limit (p.items_rest found) v = ItemsAreFaithful limit v
Good limit p.class_rest v = MembersAreFaithful limit v.members
Good limit (p.members_rest found) v = MembersAreFaithful limit v
Good limit p.symbols v = Unit {0}
Good limit (p.symbols_rest found) v = Unit {0}
Good limit p.method_rest v = MethodIsFaithful limit v
Good limit p.params v = Unit {0}
Good limit p.one_param v = Unit {0}
Good limit (p.params_rest found) v = Unit {0}
Good limit (p.method_body name words) v = MethodIsFaithful limit v
Good limit (p.body found) v = Each (IsFaithful limit) v
Good limit (p.body_rest found) v = Each (IsFaithful limit) v
Good limit p.statement v = IsFaithful limit v
Good limit p.simple v = IsFaithful limit v
Good limit (p.modified a) v = IsFaithful limit v
Good limit (p.expression d) v = IsFaithful limit v
Good limit (p.assignment d) v = PartIsFaithful limit v
Good limit (p.argument d) v = IsFaithful limit v
Good limit (p.ternary d) v = PartIsFaithful limit v
Good limit (p.unary d) v = PartIsFaithful limit v
Good limit (p.postfix d) v = PartIsFaithful limit v
Good limit (p.primary d) v = PartIsFaithful limit v
Good limit (p.assignment_rest d part) v = PartIsFaithful limit v
Good limit (p.ternary_rest d part) v = PartIsFaithful limit v
Good limit (p.postfix_rest d part) v = PartIsFaithful limit v
Good limit (p.branches d) v = PairIsFaithful limit v
Good limit (p.chain d tier) v = PartIsFaithful limit v
Good limit (p.chain_rest d tier part) v = PartIsFaithful limit v
Good limit p.command_arguments v = Each (IsFaithful limit) v
Good limit p.arguments v = Each (IsFaithful limit) v
Good limit (p.command_arguments_rest found) v = Each (IsFaithful limit) v
Good limit (p.arguments_rest found) v = Each (IsFaithful limit) v
Good limit p.index_rest v = IsFaithful limit v
Good limit p.group_rest v = IsFaithful limit v
Good limit p.code_rest v = IsFaithful limit v
Good limit p.array_rest v = Each (IsFaithful limit) v
Good limit (p.array_items_rest found) v = Each (IsFaithful limit) v
Good limit p.hash_rest v = Each (PairIsFaithful limit) v
Good limit p.pair v = PairIsFaithful limit v
Good limit (p.pairs_rest found) v = Each (PairIsFaithful limit) v
Good limit (p.conditional word) v = IsFaithful limit v
Good limit (p.loop_rest word) v = IsFaithful limit v
Good limit p.then v = Unit {0}
Good limit (p.otherwise may_go_on) v = Each (IsFaithful limit) v
Good limit (p.text_rest found) v = Each (PieceIsFaithful limit) v
Good limit (p.block_rest in_braces at) v = Each (IsFaithful limit) v.body
Good limit (p.bar_params_rest found) v = Unit {0}
Good limit (p.block_body in_braces at words) v = Each (IsFaithful limit) v.body

-- what a phrase goes on behind is faithful
abbrev pub Given : ℕ → Phrase → Type 0
Given limit (p.items found) = ItemsAreFaithful limit found
Given limit (p.items_rest found) = ItemsAreFaithful limit found
Given limit (p.members_rest found) = MembersAreFaithful limit found
Given limit (p.body found) = Each (IsFaithful limit) found
Given limit (p.body_rest found) = Each (IsFaithful limit) found
Given limit (p.modified a) = IsFaithful limit a
Given limit (p.assignment_rest d part) = PartIsFaithful limit part
Given limit (p.ternary_rest d part) = PartIsFaithful limit part
Given limit (p.postfix_rest d part) = PartIsFaithful limit part
Given limit (p.chain_rest d tier part) = PartIsFaithful limit part
Given limit (p.command_arguments_rest found) = Each (IsFaithful limit) found
Given limit (p.arguments_rest found) = Each (IsFaithful limit) found
Given limit (p.array_items_rest found) = Each (IsFaithful limit) found
Given limit (p.pairs_rest found) = Each (PairIsFaithful limit) found
Given limit (p.text_rest found) = Each (PieceIsFaithful limit) found
Given limit other = Unit {0}

-- ---- rules

-- What the rule stands for is P, where what the phrases in it stand for is faithful and no node that is built is higher than limit.
-- And a node that is built is at most one higher.
abbrev pub Keeps : {A : Type 0} → ℕ → Rule A → (A → Type 0) → Type 0
Keeps limit (done a) P = P a
Keeps limit refuse P = Unit {0}
Keeps limit (token test k) P = (t : Token) → Keeps limit (k t) P
Keeps limit (phrase n k) P = Given limit n × ((v : Value n) → Good limit n v → Keeps limit (k v) P)
Keeps limit (nested at n k) P = Given limit n × ((v : Value n) → Good limit n v → Keeps limit (k v) P)
Keeps limit (built a rule) P = a.height ≤ suc limit × (a.height ≤ limit → Keeps limit rule P)
Keeps limit (either one other) P = Keeps limit one P × Keeps limit other P
Keeps limit (look test rule) P = Keeps limit rule P
Keeps limit (pick b one other) P = Keeps limit one P × Keeps limit other P
Keeps limit (known text one other) P = Keeps limit one P × Keeps limit other P
Keeps limit (touching place one other) P = Keeps limit one P × Keeps limit other P
Keeps limit (ahead one other) P = Keeps limit one P × Keeps limit other P
Keeps limit (scope f rule) P = Keeps limit rule P

module _ (limit : ℕ) (inner : ℕ → Spelling)
    (sound : (levels : ℕ) (n : Phrase) (s : Scope) (ts : List Token) (v : Value n) (s' : Scope) (us : List Token)
    → Given limit n → inner levels n s ts v s' us → Good limit n v)
    (levels : ℕ) where
  -- what a rule spells is what the rule stands for
  pub spells_keeps : {A : Type 0} (P : A → Type 0) {r : Rule A} {s : Scope} {ts : List Token} {a : A} {s' : Scope} {us : List Token}
      → Spells limit inner levels r s ts a s' us → Keeps limit r P → P a
  spells_keeps P l.stops g = g
  spells_keeps P (l.takes {t = t} met d) g = spells_keeps P d (g t)
  spells_keeps P (l.holds {n = n} {v = v} i d) g = spells_keeps P d (g.1 v (sound levels n _ _ v _ _ g.0 i))
  spells_keeps P (l.opens {n = n} {v = v} {left = left} e i d) g = spells_keeps P d (g.1 v (sound left n _ _ v _ _ g.0 i))
  spells_keeps P (l.builds low d) g = spells_keeps P d (g.1 low)
  spells_keeps P (l.first d) g = spells_keeps P d g.0
  spells_keeps P (l.second d) g = spells_keeps P d g.1
  spells_keeps P (l.looks met d) g = spells_keeps P d g
  spells_keeps P (l.picks d) g = spells_keeps P d g.0
  spells_keeps P (l.picks_not d) g = spells_keeps P d g.1
  spells_keeps P (l.knows is d) g = spells_keeps P d g.0
  spells_keeps P (l.touches is d) g = spells_keeps P d g.0
  spells_keeps P (l.knows_not is d) g = spells_keeps P d g.1
  spells_keeps P (l.touches_not is d) g = spells_keeps P d g.1
  spells_keeps P (l.commands follow d) g = spells_keeps P d g.0
  spells_keeps P (l.commands_not follow d) g = spells_keeps P d g.1
  spells_keeps P (l.changes d) g = spells_keeps P d g
