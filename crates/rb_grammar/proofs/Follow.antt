-- What may stand behind each phrase (the follow sets of the grammar), and what it is for the two rules of a choice to be told
-- apart by the next token.
use Rattle.std.proofs.Common.{◌≡◌, Bool, true, false, ◌&&◌, ◌||◌, not, List, [], ◌∷◌, ◌++◌}
use Rattle.rb_lexer.specs.declared.token.Token.{Token}
use Rattle.rb_grammar.specs.Look.{Class, Test, is, one_of, glued, other_than}
use Rattle.rb_grammar.specs.Look as c
use Rattle.rb_grammar.specs.Phrase.{Part, Tier, Phrase, Value}
use Rattle.rb_grammar.specs.Phrase.{or_tier, and_tier, equal_tier, less_tier, shift_tier, sum_tier, product_tier, unary_tier}
use Rattle.rb_grammar.specs.Phrase as p
use Rattle.rb_grammar.specs.Rule.{Rule, done, refuse, token, phrase, nested, built, either, look, pick, known, touching, ahead, scope}
use Rattle.rb_grammar.specs.Grammar.{operators, modifiers, assignment_marks}
use Rattle.rb_grammar.specs.Heads.{heads, opens_block, goes_on_postfix}

-- ---- what may stand behind a phrase

abbrev pub anything : Test
anything class spaced = true

-- what goes on with a postfix or a call
abbrev pub goes_on : Bool → Test
goes_on d class spaced = goes_on_postfix class spaced || glued c.open_paren class spaced || opens_block d class spaced

-- the operators of a tier and of all that are tighter
abbrev pub operators_from : Tier → List Class
operators_from unary_tier = []
operators_from product_tier = operators product_tier
operators_from sum_tier = operators sum_tier ++ operators product_tier
operators_from shift_tier = operators shift_tier ++ (operators sum_tier ++ operators product_tier)
operators_from less_tier = operators less_tier ++ (operators shift_tier ++ (operators sum_tier ++ operators product_tier))
operators_from equal_tier = operators equal_tier ++ (operators less_tier ++ (operators shift_tier ++ (operators sum_tier ++ operators product_tier)))
operators_from and_tier =
    operators and_tier ++ (operators equal_tier ++ (operators less_tier ++ (operators shift_tier ++ (operators sum_tier ++ operators product_tier))))
operators_from or_tier =
    operators or_tier ++ (operators and_tier ++ (operators equal_tier ++ (operators less_tier ++ (operators shift_tier ++ (operators sum_tier ++ operators product_tier)))))

-- what goes on with a chain of a tier, or with something tighter
abbrev pub goes_on_chain : Bool → Tier → Test
goes_on_chain d tier class spaced = one_of (operators_from tier) class spaced || goes_on d class spaced

abbrev pub goes_on_ternary : Bool → Test
goes_on_ternary d class spaced = is c.question class spaced || goes_on_chain d or_tier class spaced

abbrev pub goes_on_assignment : Bool → Test
goes_on_assignment d class spaced = one_of assignment_marks class spaced || goes_on_ternary d class spaced

-- what ends a statement
abbrev pub ends_statement : Test
ends_statement = one_of (c.line ∷ c.end ∷ c.close_paren ∷ c.close_brace ∷ c.code_close ∷ c.end_word ∷ c.elsif_word ∷ c.else_word ∷ [])

abbrev pub ends_body : Test
ends_body = one_of (c.close_brace ∷ c.end_word ∷ c.elsif_word ∷ c.else_word ∷ [])

-- anything may stand behind a head, which nothing but arguments goes on with
abbrev pub behind_part : Part → Test → Test
behind_part (p.plain o) test = test
behind_part (p.head h) test = anything

-- what may stand behind a phrase that came to a value; a phrase that ends with a token of its own may have anything behind it
abbrev pub follows : (n : Phrase) → Value n → Test
follows p.symbols v = other_than (is c.comma)
follows (p.symbols_rest found) v = other_than (is c.comma)
follows (p.body found) v = ends_body
follows (p.body_rest found) v = ends_body
follows p.statement v = ends_statement
follows p.simple v = λ class spaced. ends_statement class spaced || one_of modifiers class spaced
follows (p.modified a) v = ends_statement
follows (p.expression d) v = other_than (goes_on_assignment d)
follows (p.assignment d) v = behind_part v (other_than (goes_on_assignment d))
follows (p.assignment_rest d part) v = behind_part v (other_than (goes_on_assignment d))
follows (p.argument d) v = other_than (goes_on_assignment d)
follows p.command_arguments v = other_than (goes_on_assignment false)
follows (p.command_arguments_rest found) v = other_than (goes_on_assignment false)
follows p.pair v = other_than (goes_on_assignment true)
follows (p.ternary d) v = behind_part v (other_than (goes_on_ternary d))
follows (p.ternary_rest d part) v = behind_part v (other_than (goes_on_ternary d))
follows (p.branches d) v = other_than (goes_on_ternary d)
follows (p.chain d tier) v = behind_part v (other_than (goes_on_chain d tier))
follows (p.chain_rest d tier part) v = behind_part v (other_than (goes_on_chain d tier))
follows (p.unary d) v = behind_part v (other_than (goes_on d))
follows (p.postfix d) v = behind_part v (other_than (goes_on d))
follows (p.postfix_rest d part) v = behind_part v (other_than (goes_on d))
follows (p.primary d) v = behind_part v (other_than (glued c.open_paren))
follows p.then v = other_than (is c.then_word)
follows other v = anything

-- ---- told apart by the next token

abbrev pub implies : Bool → Bool → Bool
implies a b = not a || b

-- Where what meets behind, by what a rule came to, may stand behind the rule: its choices are told apart by the next token, and
-- what stands behind a phrase in it may stand there.
abbrev pub Apart : {A : Type 0} → Rule A → (A → Test) → Type 0
Apart (done a) behind = Unit {0}
Apart refuse behind = Unit {0}
Apart (token test k) behind = (t : Token) → Apart (k t) behind
Apart (phrase n k) behind =
    ((v : Value n) → Apart (k v) behind)
    × ((v : Value n) (class : Class) (spaced : Bool) → implies (heads (k v) (λ a. behind a class spaced) class spaced) (follows n v class spaced) ≡ true)
Apart (nested at n k) behind =
    ((v : Value n) → Apart (k v) behind)
    × ((v : Value n) (class : Class) (spaced : Bool) → implies (heads (k v) (λ a. behind a class spaced) class spaced) (follows n v class spaced) ≡ true)
Apart (built a rule) behind = Apart rule behind
Apart (either one other) behind =
    Apart one behind × Apart other behind
    × ((class : Class) (spaced : Bool) → not (heads one (λ a. true) class spaced && heads other (λ a. behind a class spaced) class spaced) ≡ true)
Apart (look test rule) behind = Apart rule behind
Apart (pick b one other) behind = Apart one behind × Apart other behind
Apart (known text one other) behind = Apart one behind × Apart other behind
Apart (touching place one other) behind = Apart one behind × Apart other behind
Apart (ahead one other) behind = Apart one behind × Apart other behind
Apart (scope f rule) behind = Apart rule behind
