-- What it is for a rule to stand for something in order wherever what it is given is in order: the names and the thread bodies in it
-- stand as their tokens do.
use Rattle.std.proofs.Common.{ℕ, ◌≤◌, List, ◌∷◌, Some, None, arith}
use Rattle.rb_lexer.specs.declared.token.Token.{Token}
use Rattle.rb_lexer.specs.Spans.{StandInOrder}
use Rattle.rb_grammar.specs.Tree.{threads_of, method_names, code_of, flat}
use Rattle.rb_grammar.specs.Scope.{Scope}
use Rattle.rb_grammar.specs.Phrase.{Operand, Head, Part, Phrase, Value}
use Rattle.rb_grammar.specs.Phrase as p
use Rattle.rb_grammar.specs.Rule.{Rule, done, refuse, token, phrase, nested, built, either, look, pick, known, touching, ahead, scope, Spelling, Spells}
use Rattle.rb_grammar.specs.Rule as l
use Rattle.rb_grammar.proofs.OrderTrees.{Named, Stands, TreeStands, TreesStand, PairStands, BlockStands, WordStands, MemberStands, IndexStands}

-- ---- what stands between two places

abbrev pub OperandStands : ℕ → ℕ → Operand → Type 0
OperandStands low high (p.value a) = TreeStands low high a
OperandStands low high (p.variable w) = WordStands low high w
OperandStands low high (p.bare w) = WordStands low high w
OperandStands low high (p.of_field w) = WordStands low high w
OperandStands low high (p.of_global w) = WordStands low high w
OperandStands low high (p.indexed a i at) = IndexStands low high a i at
OperandStands low high (p.member a w) = MemberStands low high a w

abbrev pub HeadStands : ℕ → ℕ → Head → Type 0
HeadStands low high (p.of_call None w) = WordStands low high w
HeadStands low high (p.of_call (Some a) w) = MemberStands low high a w
HeadStands low high (p.of_new class at) = WordStands low high class

abbrev pub PartStands : ℕ → ℕ → Part → Type 0
PartStands low high (p.plain o) = OperandStands low high o
PartStands low high (p.head h) = HeadStands low high h

-- What a phrase stands for stands between a place, at which what it goes on behind begins, and another.
abbrev pub Good : (n : Phrase) (low : ℕ) → Value n → ℕ → Type 0
Good (p.items found) low v high = Stands low high v.names v.threads
Good (p.items_rest found) low v high = Stands low high v.names v.threads
Good p.class_rest low v high = Stands low high (v.name ∷ v.members.names) v.members.threads
Good (p.members_rest found) low v high = Stands low high v.names v.threads
Good p.symbols low v high = Named low high v
Good (p.symbols_rest found) low v high = Named low high v
Good p.method_rest low v high = Stands low high (method_names v) (threads_of v.body)
Good p.params low v high = Named low high v
Good p.one_param low v high = WordStands low high v
Good (p.params_rest found) low v high = Named low high v
Good (p.method_body name words) low v high = Stands low high (method_names v) (threads_of v.body)
Good (p.body found) low v high = TreesStand low high v
Good (p.body_rest found) low v high = TreesStand low high v
Good p.statement low v high = TreeStands low high v
Good p.simple low v high = TreeStands low high v
Good (p.modified a) low v high = TreeStands low high v
Good (p.expression d) low v high = TreeStands low high v
Good (p.assignment d) low v high = PartStands low high v
Good (p.argument d) low v high = TreeStands low high v
Good (p.ternary d) low v high = PartStands low high v
Good (p.unary d) low v high = PartStands low high v
Good (p.postfix d) low v high = PartStands low high v
Good (p.primary d) low v high = PartStands low high v
Good (p.assignment_rest d part) low v high = PartStands low high v
Good (p.ternary_rest d part) low v high = PartStands low high v
Good (p.postfix_rest d part) low v high = PartStands low high v
Good (p.branches d) low v high = PairStands low high v
Good (p.chain d tier) low v high = PartStands low high v
Good (p.chain_rest d tier part) low v high = PartStands low high v
Good p.command_arguments low v high = TreesStand low high v
Good p.arguments low v high = TreesStand low high v
Good (p.command_arguments_rest found) low v high = TreesStand low high v
Good (p.arguments_rest found) low v high = TreesStand low high v
Good p.index_rest low v high = TreeStands low high v
Good p.group_rest low v high = TreeStands low high v
Good p.code_rest low v high = TreeStands low high v
Good p.array_rest low v high = TreesStand low high v
Good (p.array_items_rest found) low v high = TreesStand low high v
Good p.hash_rest low v high = TreesStand low high (flat v)
Good p.pair low v high = PairStands low high v
Good (p.pairs_rest found) low v high = TreesStand low high (flat v)
Good (p.conditional word) low v high = TreeStands low high v
Good (p.loop_rest word) low v high = TreeStands low high v
Good p.then low v high = Unit {0}
Good (p.otherwise may_go_on) low v high = TreesStand low high v
Good (p.text_rest found) low v high = TreesStand low high (code_of v)
Good (p.block_rest in_braces at) low v high = BlockStands low high v
Good (p.bar_params_rest found) low v high = Named low high v
Good (p.block_body in_braces at words) low v high = BlockStands low high v

-- what a phrase goes on behind stands between these places
abbrev pub Given : (n : Phrase) (low here : ℕ) → Type 0
Given (p.items found) low here = Stands low here found.names found.threads
Given (p.items_rest found) low here = Stands low here found.names found.threads
Given (p.members_rest found) low here = Stands low here found.names found.threads
Given (p.symbols_rest found) low here = Named low here found
Given (p.params_rest found) low here = Named low here found
Given (p.method_body name words) low here = Named low here (name ∷ words)
Given (p.body found) low here = TreesStand low here found
Given (p.body_rest found) low here = TreesStand low here found
Given (p.modified a) low here = TreeStands low here a
Given (p.assignment_rest d part) low here = PartStands low here part
Given (p.ternary_rest d part) low here = PartStands low here part
Given (p.postfix_rest d part) low here = PartStands low here part
Given (p.chain_rest d tier part) low here = PartStands low here part
Given (p.command_arguments_rest found) low here = TreesStand low here found
Given (p.arguments_rest found) low here = TreesStand low here found
Given (p.array_items_rest found) low here = TreesStand low here found
Given (p.pairs_rest found) low here = TreesStand low here (flat found)
Given (p.text_rest found) low here = TreesStand low here (code_of found)
Given (p.block_rest in_braces at) low here = (low ≤ at.from) × (at.from ≤ here)
Given (p.bar_params_rest found) low here = Named low here found
Given (p.block_body in_braces at words) low here = (low ≤ at.from) × Named at.from here words
Given other low here = low ≤ here

-- ---- rules

-- What the rule stands for, up to the place at which it ends, is P, where its tokens stand in order from here and what the phrases in
-- it stand for stands in order.
abbrev pub Keeps : {A : Type 0} → Rule A → (A → ℕ → Type 0) → ℕ → Type 0
Keeps (done a) P here = P a here
Keeps refuse P here = Unit {0}
Keeps (token test k) P here = (t : Token) → here ≤ t.at.from → t.at.from ≤ t.at.to → Keeps (k t) P t.at.to
Keeps (phrase n k) P here = (low : ℕ) × Given n low here × ((v : Value n) (there : ℕ) → here ≤ there → Good n low v there → Keeps (k v) P there)
Keeps (nested at n k) P here = (low : ℕ) × Given n low here × ((v : Value n) (there : ℕ) → here ≤ there → Good n low v there → Keeps (k v) P there)
Keeps (built a rule) P here = Keeps rule P here
Keeps (either one other) P here = Keeps one P here × Keeps other P here
Keeps (look test rule) P here = Keeps rule P here
Keeps (pick b one other) P here = Keeps one P here × Keeps other P here
Keeps (known text one other) P here = Keeps one P here × Keeps other P here
Keeps (touching place one other) P here = Keeps one P here × Keeps other P here
Keeps (ahead one other) P here = Keeps one P here × Keeps other P here
Keeps (scope f rule) P here = Keeps rule P here

-- what was read is P up to a place from which the tokens that are left stand in order
pub record Ends {A : Type 0} (P : A → ℕ → Type 0) (a : A) (here to : ℕ) (us : List Token) : Type 0 where
  pub there : ℕ
  pub on : here ≤ there
  pub left : StandInOrder there to us
  pub is : P a there

-- behind a place further on
ends_behind : {A : Type 0} (P : A → ℕ → Type 0) (a : A) (here next to : ℕ) (us : List Token) → here ≤ next → Ends P a next to us → Ends P a here to us
ends_behind P a here next to us l e =
    let on : next ≤ e.there = e.on in
    record { there = e.there; on = omega arith; left = e.left; is = e.is }

module _ (to : ℕ) (inner : ℕ → Spelling)
    (sound : (levels : ℕ) (n : Phrase) (s : Scope) (ts : List Token) (v : Value n) (s' : Scope) (us : List Token) (low here : ℕ)
    → Given n low here → StandInOrder here to ts → inner levels n s ts v s' us → Ends (Good n low) v here to us)
    (limit levels : ℕ) where
  -- what a rule spells is what the rule stands for
  pub spells_keeps : {A : Type 0} (P : A → ℕ → Type 0) {r : Rule A} {s : Scope} {ts : List Token} {a : A} {s' : Scope} {us : List Token}
      → Spells limit inner levels r s ts a s' us → (here : ℕ) → StandInOrder here to ts → Keeps r P here → Ends P a here to us
  spells_keeps P l.stops here o g = record { there = here; on = omega arith; left = o; is = g }
  spells_keeps P (l.takes {t = t} {us = us} {a = a} met d) here o g =
      let before : here ≤ t.at.from = o.0 in
      let across : t.at.from ≤ t.at.to = o.1 in
      ends_behind P a here t.at.to to us (omega arith) (spells_keeps P d t.at.to o.2 (g t before across))
  spells_keeps P (l.holds {n = n} {vs = vs} {v = v} {a = a} i d) here o g =
      let e = sound levels n _ _ v _ _ g.0 here g.1 o i in
      ends_behind P a here e.there to vs e.on (spells_keeps P d e.there e.left (g.2 v e.there e.on e.is))
  spells_keeps P (l.opens {n = n} {vs = vs} {v = v} {a = a} {left = left} is i d) here o g =
      let e = sound left n _ _ v _ _ g.0 here g.1 o i in
      ends_behind P a here e.there to vs e.on (spells_keeps P d e.there e.left (g.2 v e.there e.on e.is))
  spells_keeps P (l.builds low d) here o g = spells_keeps P d here o g
  spells_keeps P (l.first d) here o g = spells_keeps P d here o g.0
  spells_keeps P (l.second d) here o g = spells_keeps P d here o g.1
  spells_keeps P (l.looks met d) here o g = spells_keeps P d here o g
  spells_keeps P (l.picks d) here o g = spells_keeps P d here o g.0
  spells_keeps P (l.picks_not d) here o g = spells_keeps P d here o g.1
  spells_keeps P (l.knows is d) here o g = spells_keeps P d here o g.0
  spells_keeps P (l.touches is d) here o g = spells_keeps P d here o g.0
  spells_keeps P (l.knows_not is d) here o g = spells_keeps P d here o g.1
  spells_keeps P (l.touches_not is d) here o g = spells_keeps P d here o g.1
  spells_keeps P (l.commands follow d) here o g = spells_keeps P d here o g.0
  spells_keeps P (l.commands_not follow d) here o g = spells_keeps P d here o g.1
  spells_keeps P (l.changes d) here o g = spells_keeps P d here o g
