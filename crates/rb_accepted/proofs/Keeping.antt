-- What stands between two points of a text for each phrase, and what a rule stands for where its phrases stand for that.
use Rattle.std.proofs.Common.{◌≡◌, ℕ, suc, ◌≤◌, true, List, [], ◌∷◌, Some, None, arith}
use Rattle.rb_lexer.specs.declared.token.Token.{Token}
use Rattle.rb_grammar.specs.Look.{Test, class_of}
use Rattle.rb_grammar.specs.Tree.{Word, Tree, Members, Items, code_of, flat}
use Rattle.rb_grammar.specs.Scope.{Scope, is_local}
use Rattle.rb_grammar.specs.Phrase.{Operand, Head, Part, Tier, Phrase, Value}
use Rattle.rb_grammar.specs.Phrase.{or_tier, and_tier, equal_tier, less_tier, shift_tier, sum_tier, product_tier, unary_tier}
use Rattle.rb_grammar.specs.Phrase as p
use Rattle.rb_grammar.specs.Rule.{Rule, done, refuse, token, phrase, nested, built, either, look, pick, known, touching, ahead, scope, Spelling, Spells}
use Rattle.rb_grammar.specs.Rule as l
use Rattle.rb_grammar.specs.Grammar.{rule}
use Rattle.rb_grammar.specs.Faithful.{Each}
use Rattle.rb_accepted.specs.Laws.{IsWord}
use Rattle.rb_accepted.proofs.Walked.{Point, point, behind, changed, On, Within, IsNamed}
use Rattle.rb_accepted.proofs.Walked.{Walks, BodyIn, BlockIn, MethodIn}

-- tokens that stand in order from a place on, and are words where they are identifiers or symbols
abbrev pub Follow : ℕ → List Token → Type 0
Follow from [] = Unit {0}
Follow from (t ∷ ts) = (from ≤ t.at.from) × (IsWord t × Follow (suc t.at.from) ts)

-- a token that meets a test comes behind a point
pub record Comes (test : Test) (x : Point) (t : Token) : Type 0 where
  pub met : test (class_of t.kind) t.spaced ≡ true
  pub after : x.from ≤ t.at.from
  pub word : IsWord t

abbrev pub WordsIn : Point → List Word → Point → Type 0
WordsIn x ws y = Each IsNamed ws × On x y

-- what was read is P up to a place from which the tokens that are left follow
pub record Ends {A : Type 0} (P : A → Point → Type 0) (a : A) (from : ℕ) (s : Scope) (us : List Token) : Type 0 where
  pub there : ℕ
  pub on : from ≤ there
  pub left : Follow there us
  pub is : P a (point s there)

pub ends_behind : {A : Type 0} (P : A → Point → Type 0) (a : A) (from next : ℕ) (s : Scope) (us : List Token) → from ≤ next → Ends P a next s us → Ends P a from s us
ends_behind P a from next s us l e =
    let on : next ≤ e.there = e.on in
    record { there = e.there; on = omega arith; left = e.left; is = e.is }

module _ (W : Point → Tree → Point → Type 0) where
  -- ---- what stands between two points

  abbrev pub OperandIn : Point → Operand → Point → Type 0
  OperandIn x (p.value a) y = W x a y
  OperandIn x (p.variable w) y = (is_local w.text x.scopes ≡ true) × (On x y × Within x w.at y)
  OperandIn x (p.bare w) y = On x y × Within x w.at y
  OperandIn x (p.of_field w) y = On x y × Within x w.at y
  OperandIn x (p.of_global w) y = On x y × Within x w.at y
  OperandIn x (p.indexed a j at) y = (m : Point) × (W x a m × (W m j y × Within x at y))
  OperandIn x (p.member a w) y = W x a y × (IsNamed w × Within x w.at y)

  abbrev pub HeadIn : Point → Head → Point → Type 0
  HeadIn x (p.of_call None w) y = On x y × Within x w.at y
  HeadIn x (p.of_call (Some a) w) y = W x a y × Within x w.at y
  HeadIn x (p.of_new class at) y = On x y × Within x at y

  abbrev pub PartIn : Point → Part → Point → Type 0
  PartIn x (p.plain o) y = OperandIn x o y
  PartIn x (p.head h) y = HeadIn x h y

  abbrev pub PairIn : Point → Tree × Tree → Point → Type 0
  PairIn x ab y = (m : Point) × (W x ab.0 m × W m ab.1 y)

module _ (W : Point → Tree → Point → Type 0) (M : Point → Members → Point → Type 0) (I : Items → Point → Type 0) where
  -- What a phrase stands for stands between a point, at which what it goes on behind begins, and another.
  abbrev pub Good : (n : Phrase) → Point → Value n → Point → Type 0
  Good (p.items found) x v y = I v y
  Good (p.items_rest found) x v y = I v y
  Good p.class_rest x v y = M x v.members y
  Good (p.members_rest found) x v y = M x v y
  Good p.symbols x v y = WordsIn x v y
  Good (p.symbols_rest found) x v y = WordsIn x v y
  Good p.method_rest x v y = MethodIn W x v y
  Good p.params x v y = On x y
  Good p.one_param x v y = On x y
  Good (p.params_rest found) x v y = On x y
  Good (p.method_body name words) x v y = IsNamed v.name × BodyIn W x v.params v.body y
  Good (p.body found) x v y = Walks W x v y
  Good (p.body_rest found) x v y = Walks W x v y
  Good p.statement x v y = W x v y
  Good p.simple x v y = W x v y
  Good (p.modified a) x v y = W x v y
  Good (p.expression d) x v y = W x v y
  Good (p.assignment d) x v y = PartIn W x v y
  Good (p.argument d) x v y = W x v y
  Good (p.ternary d) x v y = PartIn W x v y
  Good (p.unary d) x v y = PartIn W x v y
  Good (p.postfix d) x v y = PartIn W x v y
  Good (p.primary d) x v y = PartIn W x v y
  Good (p.assignment_rest d part) x v y = PartIn W x v y
  Good (p.ternary_rest d part) x v y = PartIn W x v y
  Good (p.postfix_rest d part) x v y = PartIn W x v y
  Good (p.branches d) x v y = PairIn W x v y
  Good (p.chain d tier) x v y = PartIn W x v y
  Good (p.chain_rest d tier part) x v y = PartIn W x v y
  Good p.command_arguments x v y = Walks W x v y
  Good p.arguments x v y = Walks W x v y
  Good (p.command_arguments_rest found) x v y = Walks W x v y
  Good (p.arguments_rest found) x v y = Walks W x v y
  Good p.index_rest x v y = W x v y
  Good p.group_rest x v y = W x v y
  Good p.code_rest x v y = W x v y
  Good p.array_rest x v y = Walks W x v y
  Good (p.array_items_rest found) x v y = Walks W x v y
  Good p.hash_rest x v y = Walks W x (flat v) y
  Good p.pair x v y = PairIn W x v y
  Good (p.pairs_rest found) x v y = Walks W x (flat v) y
  Good (p.conditional word) x v y = W x v y
  Good (p.loop_rest word) x v y = W x v y
  Good p.then x v y = On x y
  Good (p.otherwise may_go_on) x v y = Walks W x v y
  Good (p.text_rest found) x v y = Walks W x (code_of v) y
  Good (p.block_rest in_braces at) x v y = BlockIn W x v y
  Good (p.bar_params_rest found) x v y = On x y
  Good (p.block_body in_braces at words) x v y = BodyIn W x v.params v.body y

  -- what a phrase goes on behind stands between these points
  abbrev pub Given : Phrase → Point → Point → Type 0
  Given (p.items found) x y = I found y
  Given (p.items_rest found) x y = I found y
  Given (p.members_rest found) x y = M x found y
  Given (p.symbols_rest found) x y = WordsIn x found y
  Given (p.method_body name words) x y = IsNamed name × On x y
  Given (p.body found) x y = Walks W x found y
  Given (p.body_rest found) x y = Walks W x found y
  Given (p.modified a) x y = W x a y
  Given (p.assignment_rest d part) x y = PartIn W x part y
  Given (p.ternary_rest d part) x y = PartIn W x part y
  Given (p.postfix_rest d part) x y = PartIn W x part y
  Given (p.chain_rest d tier part) x y = PartIn W x part y
  Given (p.command_arguments_rest found) x y = Walks W x found y
  Given (p.arguments_rest found) x y = Walks W x found y
  Given (p.array_items_rest found) x y = Walks W x found y
  Given (p.pairs_rest found) x y = Walks W x (flat found) y
  Given (p.text_rest found) x y = Walks W x (code_of found) y
  Given (p.conditional t) x y = On x y × Within x t.at y
  Given (p.loop_rest t) x y = On x y × Within x t.at y
  Given other x y = On x y

  -- What a rule stands for, up to the point at which it ends, is P, where its tokens follow in order from here and what the phrases in it stand for
  -- stands in order.
  abbrev pub Keeps : {A : Type 0} → Rule A → (A → Point → Type 0) → Point → Type 0
  Keeps (done a) P here = P a here
  Keeps refuse P here = Unit {0}
  Keeps (token test k) P here = (t : Token) → Comes test here t → Keeps (k t) P (behind here t)
  Keeps (phrase n k) P here = (low : Point) × (Given n low here ×
      ((v : Value n) (there : Point) → here.from ≤ there.from → Good n low v there → Keeps (k v) P there))
  Keeps (nested at n k) P here = (low : Point) × (Given n low here ×
      ((v : Value n) (there : Point) → here.from ≤ there.from → Good n low v there → Keeps (k v) P there))
  Keeps (built a rule) P here = Keeps rule P here
  Keeps (either one other) P here = Keeps one P here × Keeps other P here
  Keeps (look test rule) P here = Keeps rule P here
  Keeps (pick b one other) P here = Keeps one P here × Keeps other P here
  Keeps (known text one other) P here = (is_local text here.scopes ≡ true → Keeps one P here) × Keeps other P here
  Keeps (touching place one other) P here = Keeps one P here × Keeps other P here
  Keeps (ahead one other) P here = Keeps one P here × Keeps other P here
  Keeps (scope f rule) P here = Keeps rule P (changed f here)

  module _ (limit : ℕ) (inner : ℕ → Spelling)
      (sound : (levels : ℕ) (n : Phrase) (s : Scope) (ts : List Token) (v : Value n) (s' : Scope) (us : List Token) (low : Point) (from : ℕ)
      → Given n low (point s from) → Follow from ts → inner levels n s ts v s' us → Ends (Good n low) v from s' us)
      (levels : ℕ) where
    -- what a rule spells is what the rule stands for
    pub spells_keeps : {A : Type 0} (P : A → Point → Type 0) {r : Rule A} {s : Scope} {ts : List Token} {a : A} {s' : Scope} {us : List Token}
        → Spells limit inner levels r s ts a s' us → (from : ℕ) → Follow from ts → Keeps r P (point s from) → Ends P a from s' us
    spells_keeps P l.stops from o g = record { there = from; on = omega arith; left = o; is = g }
    spells_keeps P (l.takes {t = t} {us = us} {a = a} met d) from o g =
        let after : from ≤ t.at.from = o.0 in
        ends_behind P a from (suc t.at.from) _ us (omega arith) (spells_keeps P d (suc t.at.from) o.1.1 (g t (record { met = met; after = after; word = o.1.0 })))
    spells_keeps P (l.holds {n = n} {s1 = s1} {vs = vs} {v = v} {a = a} i d) from o g =
        let e = sound levels n _ _ v _ _ g.0 from g.1.0 o i in
        ends_behind P a from e.there _ vs e.on (spells_keeps P d e.there e.left (g.1.1 v (point s1 e.there) e.on e.is))
    spells_keeps P (l.opens {n = n} {s1 = s1} {vs = vs} {v = v} {a = a} {left = left} is i d) from o g =
        let e = sound left n _ _ v _ _ g.0 from g.1.0 o i in
        ends_behind P a from e.there _ vs e.on (spells_keeps P d e.there e.left (g.1.1 v (point s1 e.there) e.on e.is))
    spells_keeps P (l.builds low d) from o g = spells_keeps P d from o g
    spells_keeps P (l.first d) from o g = spells_keeps P d from o g.0
    spells_keeps P (l.second d) from o g = spells_keeps P d from o g.1
    spells_keeps P (l.looks met d) from o g = spells_keeps P d from o g
    spells_keeps P (l.picks d) from o g = spells_keeps P d from o g.0
    spells_keeps P (l.picks_not d) from o g = spells_keeps P d from o g.1
    spells_keeps P (l.knows is d) from o g = spells_keeps P d from o (g.0 is)
    spells_keeps P (l.touches is d) from o g = spells_keeps P d from o g.0
    spells_keeps P (l.knows_not is d) from o g = spells_keeps P d from o g.1
    spells_keeps P (l.touches_not is d) from o g = spells_keeps P d from o g.1
    spells_keeps P (l.commands follow d) from o g = spells_keeps P d from o g.0
    spells_keeps P (l.commands_not follow d) from o g = spells_keeps P d from o g.1
    spells_keeps P (l.changes d) from o g = spells_keeps P d from o g
