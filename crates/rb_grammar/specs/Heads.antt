-- What may begin a rule, by the next token alone: the first sets of the grammar.
use Rattle.std.specs.Prelude.{Bool, true, false, ◌&&◌, ◌||◌, List, [], ◌∷◌, pos}
use Rattle.rb_tree.specs.declared.span.Span.{Span}
use Rattle.rb_lexer.specs.declared.token.Token.{Token}
use Rattle.rb_grammar.specs.Look.{Class, Test, class_of, is, one_of, glued, other_than}
use Rattle.rb_grammar.specs.Look as c
use Rattle.rb_grammar.specs.Tree.{Word, Tree}
use Rattle.rb_grammar.specs.Tree as tree
use Rattle.rb_grammar.specs.Phrase.{Part, Tier, Phrase, Value}
use Rattle.rb_grammar.specs.Phrase.{or_tier, and_tier, equal_tier, less_tier, shift_tier, sum_tier, product_tier, unary_tier}
use Rattle.rb_grammar.specs.Phrase as p
use Rattle.rb_grammar.specs.Rule.{Rule, done, refuse, token, phrase, nested, built, either, look, pick, known, touching, ahead, scope, begins_arguments}
use Rattle.rb_grammar.specs.Grammar.{operators, modifiers, assignment_marks, identifiers, names, allowed, closing}

-- ---- the next token

-- no token counts as the end
abbrev pub next_class : List Token → Class
next_class [] = c.end
next_class (t ∷ ts) = class_of t.kind

abbrev pub next_spaced : List Token → Bool
next_spaced [] = true
next_spaced (t ∷ ts) = t.spaced

-- ---- what begins a phrase

-- an operand without its mark, then one with it, then a statement
abbrev pub begins_primary : List Class
begins_primary =
    c.int ∷ c.text_open ∷ c.symbol ∷ c.nil_word ∷ c.true_word ∷ c.false_word ∷ c.self_word ∷ c.field ∷ c.global
    ∷ c.word ∷ c.marked ∷ c.attribute ∷ c.new ∷ c.constant ∷ c.open_bracket ∷ c.open_brace ∷ c.open_paren
    ∷ c.if_word ∷ c.unless_word ∷ c.while_word ∷ c.until_word ∷ []

abbrev pub begins_expression : List Class
begins_expression = c.bang ∷ c.minus ∷ begins_primary

abbrev pub begins_statement : List Class
begins_statement = c.return_word ∷ c.break_word ∷ c.next_word ∷ begins_expression

-- what goes on with a chain
abbrev pub continues : Tier → Test
continues tier = one_of (operators tier)

-- what begins a block, and what goes on with an operand
abbrev pub opens_block : Bool → Test
opens_block d class spaced = is c.open_brace class spaced || allowed d c.do_word class spaced

abbrev pub goes_on_postfix : Test
goes_on_postfix class spaced = is c.dot class spaced || glued c.open_bracket class spaced

-- the tokens that begin a phrase, or where it may be empty those that begin it where it is not
abbrev pub starts : Phrase → Test
starts (p.items found) = one_of (c.line ∷ c.class_word ∷ c.def_word ∷ c.end ∷ begins_statement)
starts (p.items_rest found) = one_of (c.line ∷ c.end ∷ [])
starts p.class_rest = is c.constant
starts (p.members_rest found) = one_of (c.def_word ∷ c.attribute ∷ c.end_word ∷ [])
starts p.symbols = is c.symbol
starts (p.symbols_rest found) = is c.comma
starts p.method_rest = one_of identifiers
starts p.params = one_of (c.close_paren ∷ names)
starts p.one_param = one_of names
starts (p.params_rest found) = one_of (c.comma ∷ c.close_paren ∷ [])
starts (p.method_body name words) = one_of (c.line ∷ c.end_word ∷ begins_statement)
starts (p.body found) = one_of (c.line ∷ begins_statement)
starts (p.body_rest found) = is c.line
starts p.statement = one_of begins_statement
starts p.simple = one_of begins_statement
starts (p.modified a) = one_of modifiers
starts (p.expression d) = one_of begins_expression
starts (p.assignment d) = one_of begins_expression
starts (p.argument d) = one_of begins_expression
starts (p.ternary d) = one_of begins_expression
starts (p.unary d) = one_of begins_expression
starts (p.postfix d) = one_of begins_primary
starts (p.primary d) = one_of begins_primary
starts (p.assignment_rest d part) = one_of assignment_marks
starts (p.ternary_rest d part) = is c.question
starts (p.postfix_rest d part) = goes_on_postfix
starts (p.branches d) = one_of begins_expression
starts (p.chain d tier) = one_of begins_expression
starts (p.chain_rest d tier part) = continues tier
starts p.command_arguments = one_of begins_expression
starts p.arguments = one_of (c.close_paren ∷ begins_expression)
starts (p.command_arguments_rest found) = is c.comma
starts (p.arguments_rest found) = one_of (c.comma ∷ c.close_paren ∷ [])
starts p.index_rest = one_of begins_expression
starts p.group_rest = one_of begins_statement
starts p.code_rest = one_of begins_statement
starts p.array_rest = one_of (c.close_bracket ∷ begins_expression)
starts (p.array_items_rest found) = one_of (c.comma ∷ c.close_bracket ∷ [])
starts p.hash_rest = one_of (c.close_brace ∷ c.label ∷ begins_expression)
starts p.pair = one_of (c.label ∷ begins_expression)
starts (p.pairs_rest found) = one_of (c.comma ∷ c.close_brace ∷ [])
starts (p.conditional word) = one_of begins_expression
starts (p.loop_rest word) = one_of begins_expression
starts p.then = one_of (c.then_word ∷ c.line ∷ [])
starts (p.otherwise may_go_on) = one_of (c.elsif_word ∷ c.else_word ∷ c.end_word ∷ [])
starts (p.text_rest found) = one_of (c.text_piece ∷ c.code_open ∷ c.text_close ∷ [])
starts (p.block_rest in_braces at) = one_of (c.bar ∷ c.line ∷ closing in_braces ∷ begins_statement)
starts (p.bar_params_rest found) = one_of (c.comma ∷ c.bar ∷ [])
starts (p.block_body in_braces at words) = one_of (c.line ∷ closing in_braces ∷ begins_statement)

-- the phrases that may be empty
abbrev pub may_be_empty : Phrase → Bool
may_be_empty (p.symbols_rest found) = true
may_be_empty (p.body found) = true
may_be_empty (p.body_rest found) = true
may_be_empty (p.modified a) = true
may_be_empty (p.assignment_rest d part) = true
may_be_empty (p.ternary_rest d part) = true
may_be_empty (p.postfix_rest d part) = true
may_be_empty (p.chain_rest d tier part) = true
may_be_empty (p.command_arguments_rest found) = true
may_be_empty other = false

-- a place, a word and a tree for phrases that cannot be empty
abbrev pub nowhere : Span
nowhere = record { from = 0; to = 0 }

abbrev pub no_word : Word
no_word = record { text = []; at = nowhere }

abbrev pub no_tree : Tree
no_tree = tree.integer (pos 0) nowhere

-- what a phrase that is empty stands for; any value where it cannot be
abbrev pub empty : (n : Phrase) → Value n
empty (p.items found) = tree.no_items
empty (p.items_rest found) = tree.no_items
empty p.class_rest = record { name = no_word; members = tree.no_members }
empty (p.members_rest found) = tree.no_members
empty p.symbols = []
empty (p.symbols_rest found) = found
empty p.method_rest = record { name = no_word; params = []; body = [] }
empty p.params = []
empty p.one_param = no_word
empty (p.params_rest found) = []
empty (p.method_body name words) = record { name = no_word; params = []; body = [] }
empty (p.body found) = found
empty (p.body_rest found) = found
empty p.statement = no_tree
empty p.simple = no_tree
empty (p.modified a) = a
empty (p.expression d) = no_tree
empty (p.assignment d) = p.plain (p.value no_tree)
empty (p.argument d) = no_tree
empty (p.ternary d) = p.plain (p.value no_tree)
empty (p.unary d) = p.plain (p.value no_tree)
empty (p.postfix d) = p.plain (p.value no_tree)
empty (p.primary d) = p.plain (p.value no_tree)
empty (p.assignment_rest d part) = part
empty (p.ternary_rest d part) = part
empty (p.postfix_rest d part) = part
empty (p.branches d) = (no_tree, no_tree)
empty (p.chain d tier) = p.plain (p.value no_tree)
empty (p.chain_rest d tier part) = part
empty p.command_arguments = []
empty p.arguments = []
empty (p.command_arguments_rest found) = found
empty (p.arguments_rest found) = []
empty p.index_rest = no_tree
empty p.group_rest = no_tree
empty p.code_rest = no_tree
empty p.array_rest = []
empty (p.array_items_rest found) = []
empty p.hash_rest = []
empty p.pair = (no_tree, no_tree)
empty (p.pairs_rest found) = []
empty (p.conditional word) = no_tree
empty (p.loop_rest word) = no_tree
empty p.then = tt
empty (p.otherwise may_go_on) = []
empty (p.text_rest found) = []
empty (p.block_rest in_braces at) = record { at = nowhere; params = []; body = [] }
empty (p.bar_params_rest found) = []
empty (p.block_body in_braces at words) = record { at = nowhere; params = []; body = [] }

-- where the arguments of a command follow, the next token is spaced and may begin one
abbrev pub may_begin_arguments : Test
may_begin_arguments class spaced = spaced && (begins_arguments class spaced || is c.minus class spaced)

-- whether a token may begin a rule; at_end says whether it may stand behind the rule, by what that came to
abbrev pub heads : {A : Type 0} → Rule A → (A → Bool) → Test
heads (done a) at_end class spaced = at_end a
heads refuse at_end class spaced = false
heads (token test k) at_end class spaced = test class spaced
heads (phrase n k) at_end class spaced = starts n class spaced || (may_be_empty n && heads (k (empty n)) at_end class spaced)
heads (nested at n k) at_end class spaced = starts n class spaced || (may_be_empty n && heads (k (empty n)) at_end class spaced)
heads (built a rule) at_end class spaced = heads rule at_end class spaced
heads (either one other) at_end class spaced = heads one at_end class spaced || heads other at_end class spaced
heads (look test rule) at_end class spaced = test class spaced && heads rule at_end class spaced
heads (pick b one other) at_end class spaced = heads one at_end class spaced || heads other at_end class spaced
heads (known text one other) at_end class spaced = heads one at_end class spaced || heads other at_end class spaced
heads (touching place one other) at_end class spaced = heads one at_end class spaced || heads other at_end class spaced
heads (ahead one other) at_end class spaced = (may_begin_arguments class spaced && heads one at_end class spaced) || heads other at_end class spaced
heads (scope f rule) at_end class spaced = heads rule at_end class spaced

-- whether the next token may begin a rule
abbrev pub begins : {A : Type 0} → Rule A → List Token → Bool
begins rule ts = heads rule (λ a. true) (next_class ts) (next_spaced ts)
