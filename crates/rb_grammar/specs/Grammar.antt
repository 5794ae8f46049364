-- The grammar: what each phrase is made of.
use Rattle.std.specs.Prelude.{ℕ, zero, suc, ℤ, pos, neg_ℤ, Bool, true, false, List, [], ◌∷◌, ◌++◌, Option, Some, None, codes}
use Rattle.std.specs.List.{list_any}
use Rattle.std.specs.Str.{bytes_eq}
use Rattle.rb_tree.specs.declared.node.AssignOp.{AssignOp}
use Rattle.rb_tree.specs.declared.node.AssignOp.TheVariants as op
use Rattle.rb_tree.specs.declared.node.Node.TheVariants as node
use Rattle.rb_lexer.specs.declared.token.Token.{Token}
use Rattle.rb_lexer.specs.declared.token.TokenKind.{TokenKind}
use Rattle.rb_lexer.specs.declared.token.TokenKind.TheVariants as kind
use Rattle.rb_grammar.specs.Look.{Class, Test, class_of, is_marked, is, one_of, glued, other_than}
use Rattle.rb_grammar.specs.Look as c
use Rattle.rb_grammar.specs.Tree.{Text, Word, Tree, BlockTree, PieceTree, MethodTree, ClassTree, Members, Items, TargetTree}
use Rattle.rb_grammar.specs.Tree as tree
use Rattle.rb_grammar.specs.Scope.{enter_method, enter_block, leave, with_params, with_target}
use Rattle.rb_grammar.specs.Phrase.{Operand, Head, Part, Tier, Phrase, Value}
use Rattle.rb_grammar.specs.Phrase.{or_tier, and_tier, equal_tier, less_tier, shift_tier, sum_tier, product_tier, unary_tier}
use Rattle.rb_grammar.specs.Phrase as p
use Rattle.rb_grammar.specs.Rule.{Rule, done, refuse, token, phrase, nested, built, either, look, pick, known, touching, ahead, scope, Spelling, Spells}

-- ---- what tokens say

abbrev pub text_of : TokenKind → Text
text_of (kind.Ident text) = text
text_of (kind.Const text) = text
text_of (kind.Field text) = text
text_of (kind.Global text) = text
text_of (kind.Symbol text) = text
text_of (kind.Label text) = text
text_of (kind.TextPiece text) = text
text_of other = []

abbrev pub word_of : Token → Word
word_of t = record { text = text_of t.kind; at = t.at }

abbrev pub integer_of : TokenKind → ℤ
integer_of (kind.Int value) = value
integer_of other = pos 0

-- whether a token is of one of these classes
abbrev pub is_one : List Class → Token → Bool
is_one classes t = one_of classes (class_of t.kind) t.spaced

-- one of these rules
abbrev pub any : {A : Type 0} → List (Rule A) → Rule A
any [] = refuse
any (rule ∷ []) = rule
any (rule ∷ more ∷ rules) = either rule (any (more ∷ rules))

-- ---- operands

-- the tree of an operand
abbrev pub tree_of : Operand → Tree
tree_of (p.value a) = a
tree_of (p.variable w) = tree.local w
tree_of (p.bare w) = tree.call None w []
tree_of (p.of_field w) = tree.field w
tree_of (p.of_global w) = tree.global w
tree_of (p.indexed a i at) = tree.index a i at
tree_of (p.member a w) = tree.call (Some a) w []

-- An operand as a tree, which is no target from there on. A head is refused: no command may stand there.
abbrev pub operand : {A : Type 0} → Part → (Tree → Rule A) → Rule A
operand (p.plain o) k = built (tree_of o) (k (tree_of o))
operand (p.head h) k = refuse

-- a tree, as an operand that is no target
abbrev pub as_value : Tree → Part
as_value a = p.plain (p.value a)

-- a node, and nothing behind it
abbrev pub finished : Tree → Rule Tree
finished a = built a (done a)

-- the same, as an operand that is no target
abbrev pub made : Tree → Rule Part
made a = built a (done (as_value a))

-- a head goes up as it is to where a command may stand
abbrev pub unless_head : Part → Rule Part → Rule Part
unless_head (p.plain o) rule = rule
unless_head (p.head h) rule = done (p.head h)

-- target = IDENT | FIELD | GLOBAL | postfix "[" arg "]" | postfix "." IDENT
-- what an assignment mark may stand behind
abbrev pub target_of : Part → Option TargetTree
target_of (p.plain (p.variable w)) = Some (tree.to_local w)
target_of (p.plain (p.bare w)) = Some (tree.to_local w)
target_of (p.plain (p.of_field w)) = Some (tree.to_field w)
target_of (p.plain (p.of_global w)) = Some (tree.to_global w)
target_of (p.plain (p.indexed a i at)) = Some (tree.to_index a i at)
target_of (p.plain (p.member a w)) = Some (tree.to_attribute a w)
target_of other = None

-- ---- operators

-- the operators of a tier
abbrev pub operators : Tier → List Class
operators or_tier = c.or_or ∷ []
operators and_tier = c.and_and ∷ []
operators equal_tier = c.equal ∷ c.not_equal ∷ []
operators less_tier = c.less ∷ c.less_equal ∷ c.greater ∷ c.greater_equal ∷ []
operators shift_tier = c.shift_left ∷ []
operators sum_tier = c.plus ∷ c.minus ∷ []
operators product_tier = c.times ∷ c.over ∷ c.modulo ∷ []
operators unary_tier = []

-- what stands on both sides of an operator of a tier
abbrev pub tighter : Tier → Tier
tighter or_tier = and_tier
tighter and_tier = equal_tier
tighter equal_tier = less_tier
tighter less_tier = shift_tier
tighter shift_tier = sum_tier
tighter sum_tier = product_tier
tighter product_tier = unary_tier
tighter unary_tier = unary_tier

-- the method that an operator calls
abbrev pub operator_name : Class → Text
operator_name c.less = codes "<"
operator_name c.less_equal = codes "<="
operator_name c.greater = codes ">"
operator_name c.greater_equal = codes ">="
operator_name c.shift_left = codes "<<"
operator_name c.plus = codes "+"
operator_name c.minus = codes "-"
operator_name c.times = codes "*"
operator_name c.over = codes "/"
operator_name c.modulo = codes "%"
-- `==` and `!=`
operator_name other = codes "=="

-- two operands joined by an operator
abbrev pub joined : {A : Type 0} → Tier → Token → Tree → Tree → (Tree → Rule A) → Rule A
joined or_tier t a b k = built (tree.or_else t.at a b) (k (tree.or_else t.at a b))
joined and_tier t a b k = built (tree.and_also t.at a b) (k (tree.and_also t.at a b))
joined equal_tier t a b k =
    let equal : Tree = tree.binary (operator_name c.equal) t.at a b in
    built equal (pick (is_one (c.not_equal ∷ []) t) (built (tree.negated t.at equal) (k (tree.negated t.at equal))) (k equal))
joined tier t a b k =
    let call : Tree = tree.binary (operator_name (class_of t.kind)) t.at a b in
    built call (k call)

-- a chain goes on behind each operator, but that of equality has one at the most
abbrev pub chained : Bool → Tier → Tree → Rule Part
chained d equal_tier a = done (as_value a)
chained d tier a = phrase (p.chain_rest d tier (as_value a)) done

abbrev pub assignment_marks : List Class
assignment_marks = c.assign ∷ c.plus_assign ∷ c.minus_assign ∷ c.times_assign ∷ c.over_assign ∷ c.modulo_assign ∷ c.or_assign ∷ c.and_assign ∷ []

abbrev pub operator_of : Class → AssignOp
operator_of c.plus_assign = op.Plus
operator_of c.minus_assign = op.Minus
operator_of c.times_assign = op.Times
operator_of c.over_assign = op.Over
operator_of c.modulo_assign = op.Modulo
operator_of c.or_assign = op.OrElse
operator_of other = op.AndThen

-- what an assignment comes to
abbrev pub assign : TargetTree → Token → Tree → Rule Part
assign target t a =
    pick (is_one (c.assign ∷ []) t) (made (tree.assigned target t.at a)) (made (tree.operated target (operator_of (class_of t.kind)) t.at a))

-- target mark expr, where a target stands
abbrev pub assigning : Bool → Part → Option TargetTree → Rule Part
assigning d part None = done part
assigning d part (Some target) = any (
    token (one_of assignment_marks) (λ t. scope (with_target target) (nested t.at (p.expression d) (λ a. assign target t a)))
    ∷ done part
    ∷ [])

-- ---- conditions

-- `if` and `while` go by a condition as it is, `unless` and `until` by its opposite
abbrev pub decided : {A : Type 0} → Token → Tree → (Tree → Rule A) → Rule A
decided t a k = pick (is_one (c.unless_word ∷ c.until_word ∷ []) t) (built (tree.negated t.at a) (k (tree.negated t.at a))) (k a)

abbrev pub modifiers : List Class
modifiers = c.if_word ∷ c.unless_word ∷ c.while_word ∷ c.until_word ∷ []

-- a statement goes on behind a modifier
abbrev pub modified_by : Tree → Rule Tree
modified_by a = built a (phrase (p.modified a) done)

-- a statement with a modifier and its condition
abbrev pub modify : Token → Tree → Tree → Rule Tree
modify t a condition =
    pick (is_one (c.while_word ∷ c.until_word ∷ []) t) (modified_by (tree.loop_behind t.at a condition)) (modified_by (tree.choice_behind t.at a condition))

-- ---- blocks and calls

-- the methods that take a block
abbrev pub block_takers : List Text
block_takers =
    codes "each" ∷ codes "each_with_index" ∷ codes "each_pair" ∷ codes "map" ∷ codes "select" ∷ codes "times" ∷ codes "upto" ∷ codes "synchronize" ∷ []

abbrev pub takes_block : Text → Bool
takes_block text = list_any (bytes_eq text) block_takers

-- the token of this class, where it may stand
abbrev pub allowed : Bool → Class → Test
allowed true wanted = is wanted
allowed false wanted = λ class spaced. false

-- what ends a block, in braces or behind `do`
abbrev pub closing : Bool → Class
closing true = c.close_brace
closing false = c.end_word

-- a block, or what stands without one
abbrev pub with_block : {A : Type 0} → Bool → (BlockTree → Rule A) → Rule A → Rule A
with_block d k without = any (
    token (is c.open_brace) (λ t. nested t.at (p.block_rest true t.at) k)
    ∷ token (allowed d c.do_word) (λ t. nested t.at (p.block_rest false t.at) k)
    ∷ without
    ∷ [])

-- the same behind a name: a block stands only where its method takes one
abbrev pub with_block_of : {A : Type 0} → Text → Bool → (BlockTree → Rule A) → Rule A → Rule A
with_block_of text d k without = pick (takes_block text) (with_block d k without) without

-- a postfix goes on behind a node
abbrev pub going_on : Bool → Tree → Rule Part
going_on d a = built a (phrase (p.postfix_rest d (as_value a)) done)

-- `. IDENT` without brackets and without a block: a head, or a call that may be a target
abbrev pub plain_member : Bool → Tree → Word → Rule Part
plain_member d a w =
    ahead (done (p.head (p.of_call (Some a) w)))
    (pick (is_marked w.text) (going_on d (tree.call (Some a) w [])) (phrase (p.postfix_rest d (p.plain (p.member a w))) done))

-- IDENT without brackets: a local, a head, or a call that may be a target
abbrev pub plain_name : Word → Rule Part
plain_name w =
    known w.text (done (p.plain (p.variable w)))
    (ahead (done (p.head (p.of_call None w))) (pick (is_marked w.text) (done (as_value (tree.call None w []))) (done (p.plain (p.bare w)))))

-- IDENT ["(" [args] ")"]
abbrev pub named : Word → Rule Part
named w = any (token (glued c.open_paren) (λ o. nested o.at p.arguments (λ args. made (tree.call None w args))) ∷ plain_name w ∷ [])

-- . IDENT "(" [args] ")" [block]
abbrev pub called_with : Bool → Tree → Word → List Tree → Rule Part
called_with d a w args = with_block_of w.text d (λ b. going_on d (tree.call_with_block a w args b)) (going_on d (tree.call (Some a) w args))

-- . IDENT ["(" [args] ")"] [block]
abbrev pub called : Bool → Tree → Word → Rule Part
called d a w = any (
    token (glued c.open_paren) (λ o. nested o.at p.arguments (λ args. called_with d a w args))
    ∷ with_block_of w.text d (λ b. going_on d (tree.call_with_block a w [] b)) (plain_member d a w)
    ∷ [])

-- the block behind `Thread.new` and its arguments, which has to be there
abbrev pub thread_with : Bool → Token → List Tree → Rule Part
thread_with d t args = with_block d (λ b. made (tree.thread_new t.at args b)) refuse

-- `Thread.new` ["(" [args] ")"] block
abbrev pub thread : Bool → Token → Rule Part
thread d t = any (token (glued c.open_paren) (λ o. nested o.at p.arguments (thread_with d t)) ∷ thread_with d t [] ∷ [])

-- CONST.new ["(" [args] ")"], where the class is another one: with brackets, as a head, or without arguments
abbrev pub object : Word → Token → Rule Part
object class t = any (
    token (glued c.open_paren) (λ o. nested o.at p.arguments (λ args. made (tree.new class t.at args)))
    ∷ ahead (done (p.head (p.of_new class t.at))) (done (as_value (tree.new class t.at [])))
    ∷ [])

abbrev pub constructed : Bool → Word → Token → Rule Part
constructed d class t = pick (bytes_eq class.text (codes "Thread")) (thread d t) (object class t)

-- ---- lists of one kind

abbrev pub identifiers : List Class
identifiers = c.word ∷ c.marked ∷ c.attribute ∷ c.new ∷ []

-- an identifier that may be a local
abbrev pub names : List Class
names = c.word ∷ c.attribute ∷ c.new ∷ []

-- ---- parts of rules

-- behind `return`: its value, or nothing; `if`, `unless`, `while` and `until` begin a modifier there
abbrev pub returned : Token → Rule Tree
returned t = any (
    look (other_than (one_of modifiers)) (phrase (p.expression true) (λ a. finished (tree.return_value t.at a)))
    ∷ done (tree.return_nothing t.at)
    ∷ [])

-- the arguments of a command behind its head
abbrev pub command_of : Head → List Tree → Tree
command_of (p.of_call receiver w) args = tree.call receiver w args
command_of (p.of_new class at) args = tree.new class at args

abbrev pub commanded : Part → Rule Tree
commanded (p.head h) = phrase p.command_arguments (λ args. finished (command_of h args))
commanded (p.plain o) = operand (p.plain o) done

-- an operand behind a minus that is an operator
abbrev pub opposite : Bool → Token → Rule Part
opposite d t = nested t.at (p.unary d) (λ part. operand part (λ a. made (tree.minus t.at a)))

-- behind a minus where an operand may stand: an integer directly behind it is negative, and begins a postfix
abbrev pub negative : Bool → Token → Rule Part
negative d t = touching t.at (any (
    token (is c.int) (λ i. phrase (p.postfix_rest d (as_value (tree.integer (neg_ℤ (integer_of i.kind)) t.at))) done)
    ∷ look (other_than (is c.int)) (opposite d t)
    ∷ []))
    (opposite d t)

-- the name of a method with `=`
abbrev pub setter : Token → Word
setter t = record { text = tree.setter_of (text_of t.kind); at = t.at }

-- behind the name of a method
abbrev pub method_named : Token → Rule MethodTree
method_named t = any (
    token (glued c.assign) (λ e. token (is c.open_paren) (λ o. nested o.at p.one_param (λ w. phrase (p.method_body (setter t) (w ∷ [])) done)))
    ∷ token (is c.open_paren) (λ o. nested o.at p.params (λ ws. phrase (p.method_body (word_of t) ws) done))
    ∷ look (other_than (is c.open_paren)) (phrase (p.method_body (word_of t) []) done)
    ∷ [])

-- a closing bracket, or one more
abbrev pub closed_or : {A : Type 0} → Class → A → Rule A → Rule A
closed_or closer found more = any (token (is closer) (λ e. done found) ∷ more ∷ [])

-- behind a condition: then body {"elsif" expr then body} ["else" body] "end"
abbrev pub chosen : {A : Type 0} → Bool → Token → Tree → (Tree → Rule A) → Rule A
chosen may_go_on t condition k =
    phrase p.then (λ o. phrase (p.body []) (λ first. phrase (p.otherwise may_go_on) (λ second.
    built (tree.choice t.at condition first second) (k (tree.choice t.at condition first second)))))

-- behind the condition of a loop: ("do" | NL) body "end"
abbrev pub looped : Token → Tree → Rule Tree
looped t condition =
    token (one_of (c.do_word ∷ c.line ∷ [])) (λ o. phrase (p.body []) (λ b. token (is c.end_word) (λ e. finished (tree.loop t.at condition b))))

-- ---- the phrases

unfoldable pub rule : (n : Phrase) → Rule (Value n)
-- program = {NL} [item {NL {NL} item} {NL}] END
-- item = class | def | stmt
rule (p.items found) = any (
    token (is c.line) (λ t. phrase (p.items found) done)
    ∷ token (is c.class_word) (λ t. nested t.at p.class_rest (λ class. phrase (p.items_rest (tree.with_class found class)) done))
    ∷ token (is c.def_word) (λ t. nested t.at p.method_rest (λ f. phrase (p.items_rest (tree.with_function found f)) done))
    ∷ phrase p.statement (λ a. phrase (p.items_rest (tree.with_statement found a)) done)
    ∷ token (is c.end) (λ t. done found)
    ∷ [])
rule (p.items_rest found) = any (
    token (is c.line) (λ t. phrase (p.items found) done)
    ∷ token (is c.end) (λ t. done found)
    ∷ [])
-- class = "class" CONST NL { def NL | attr NL } "end"
rule p.class_rest =
    token (is c.constant) (λ t. token (is c.line) (λ l. phrase (p.members_rest tree.no_members) (λ m. done (record { name = word_of t; members = m }))))
rule (p.members_rest found) = any (
    token (is c.def_word) (λ t. nested t.at p.method_rest (λ f. token (is c.line) (λ l. phrase (p.members_rest (tree.with_method found f)) done)))
    ∷ token (is c.attribute) (λ t. phrase p.symbols (λ ws. token (is c.line) (λ l. phrase (p.members_rest (tree.with_attributes found (text_of t.kind) ws)) done)))
    ∷ token (is c.end_word) (λ t. done found)
    ∷ [])
-- attr = ("attr_reader" | "attr_writer" | "attr_accessor") SYMBOL {"," SYMBOL}
rule p.symbols = token (is c.symbol) (λ t. phrase (p.symbols_rest (word_of t ∷ [])) done)
rule (p.symbols_rest found) = any (
    token (is c.comma) (λ t. token (is c.symbol) (λ w. phrase (p.symbols_rest (found ++ word_of w ∷ [])) done))
    ∷ done found
    ∷ [])
-- def = "def" IDENT ["="] ["(" [IDENT {"," IDENT}] ")"] body "end"
-- The `=` is not spaced, and one parameter in brackets follows it. A bracket behind the name opens the parameters.
rule p.method_rest = token (one_of identifiers) (λ t. scope enter_method (method_named t))
rule p.params = closed_or c.close_paren [] (token (one_of names) (λ t. phrase (p.params_rest (word_of t ∷ [])) done))
rule (p.params_rest found) = any (
    token (is c.comma) (λ t. token (one_of names) (λ w. phrase (p.params_rest (found ++ word_of w ∷ [])) done))
    ∷ token (is c.close_paren) (λ t. done found)
    ∷ [])
rule p.one_param = token (one_of names) (λ t. token (is c.close_paren) (λ e. done (word_of t)))
rule (p.method_body w ws) =
    scope (with_params ws) (phrase (p.body []) (λ b. token (is c.end_word) (λ e. scope leave (done (record { name = w; params = ws; body = b })))))
-- body = {NL} [stmt {NL {NL} stmt}] {NL}
rule (p.body found) = any (
    token (is c.line) (λ t. phrase (p.body found) done)
    ∷ phrase p.statement (λ a. phrase (p.body_rest (found ++ a ∷ [])) done)
    ∷ done found
    ∷ [])
rule (p.body_rest found) = any (
    token (is c.line) (λ t. phrase (p.body found) done)
    ∷ done found
    ∷ [])
-- stmt = ("return" [expr] | "break" | "next" | expr) { ("if"|"unless"|"while"|"until") expr }
-- Behind `return` these four words begin a modifier.
rule p.statement = phrase p.simple (λ a. phrase (p.modified a) done)
rule p.simple = any (
    token (is c.return_word) returned
    ∷ token (is c.break_word) (λ t. done (tree.constant node.Break t.at))
    ∷ token (is c.next_word) (λ t. done (tree.constant node.Next t.at))
    ∷ phrase (p.expression true) done
    ∷ [])
rule (p.modified a) = any (
    token (one_of modifiers) (λ t. phrase (p.expression true) (λ b. decided t b (λ condition. modify t a condition)))
    ∷ done a
    ∷ [])
-- expr = command | assign, where command = head arg {"," arg}
rule (p.expression d) = phrase (p.assignment d) commanded
-- assign = target ("=" | "+=" | "-=" | "*=" | "/=" | "%=" | "||=" | "&&=") expr | ternary
rule (p.assignment d) = phrase (p.ternary d) (λ part. phrase (p.assignment_rest d part) done)
rule (p.assignment_rest d part) = assigning d part (target_of part)
-- arg = assign
rule (p.argument d) = phrase (p.assignment d) (λ part. operand part done)
-- A comma behind an argument of a command belongs to the innermost command. No `do` block stands in its arguments.
rule p.command_arguments = phrase (p.argument false) (λ a. phrase (p.command_arguments_rest (a ∷ [])) done)
rule (p.command_arguments_rest found) = any (
    token (is c.comma) (λ t. phrase (p.argument false) (λ a. phrase (p.command_arguments_rest (found ++ a ∷ [])) done))
    ∷ look (other_than (is c.comma)) (done found)
    ∷ [])
-- ternary = or ["?" ternary ":" ternary]
rule (p.ternary d) = phrase (p.chain d or_tier) (λ part. phrase (p.ternary_rest d part) done)
rule (p.ternary_rest d part) = unless_head part (any (
    token (is c.question) (λ t. operand part (λ condition. nested t.at (p.branches d) (λ ab. made (tree.choice t.at condition (ab.0 ∷ []) (ab.1 ∷ [])))))
    ∷ done part
    ∷ []))
rule (p.branches d) =
    phrase (p.ternary d) (λ first. operand first (λ a. token (is c.colon) (λ t. phrase (p.ternary d) (λ second. operand second (λ b. done (a, b))))))
-- or = and {"||" and}               and = equal {"&&" equal}
-- equal = less [("==" | "!=") less]   less = shift {("<"|"<="|">"|">=") shift}
-- shift = sum {"<<" sum}            sum = prod {("+"|"-") prod}       prod = unary {("*"|"/"|"%") unary}
rule (p.chain d unary_tier) = phrase (p.unary d) done
rule (p.chain d tier) = phrase (p.chain d (tighter tier)) (λ part. phrase (p.chain_rest d tier part) done)
rule (p.chain_rest d tier part) = unless_head part (any (
    token (one_of (operators tier)) (λ t. operand part (λ a. phrase (p.chain d (tighter tier)) (λ next. operand next (λ b. joined tier t a b (λ both. chained d tier both)))))
    ∷ done part
    ∷ []))
-- unary = ("!" | "-") unary | postfix
-- A minus directly before an integer is part of the integer, which then begins a postfix.
rule (p.unary d) = any (
    token (is c.bang) (λ t. nested t.at (p.unary d) (λ part. operand part (λ a. made (tree.negated t.at a))))
    ∷ token (is c.minus) (negative d)
    ∷ phrase (p.postfix d) done
    ∷ [])
-- postfix = primary { "." IDENT ["(" [args] ")"] [block] | "[" arg "]" }
-- The `(` of a call and the `[` of an index are not spaced.
rule (p.postfix d) = phrase (p.primary d) (λ part. phrase (p.postfix_rest d part) done)
rule (p.postfix_rest d part) = unless_head part (any (
    token (is c.dot) (λ t. operand part (λ a. token (one_of identifiers) (λ w. called d a (word_of w))))
    ∷ token (glued c.open_bracket) (λ t. operand part (λ a. nested t.at p.index_rest (λ i. phrase (p.postfix_rest d (p.plain (p.indexed a i t.at))) done)))
    ∷ done part
    ∷ []))
-- args = arg {"," arg}, up to the bracket that closes them
rule p.arguments = closed_or c.close_paren [] (phrase (p.argument true) (λ a. phrase (p.arguments_rest (a ∷ [])) done))
rule (p.arguments_rest found) = any (
    token (is c.comma) (λ t. phrase (p.argument true) (λ a. phrase (p.arguments_rest (found ++ a ∷ [])) done))
    ∷ token (is c.close_paren) (λ t. done found)
    ∷ [])
rule p.index_rest = phrase (p.argument true) (λ a. token (is c.close_bracket) (λ t. done a))
-- primary = INT | "-" INT | text | SYMBOL | "nil" | "true" | "false" | "self" | FIELD | GLOBAL
--         | IDENT ["(" [args] ")"] | CONST "." "new" ["(" [args] ")"] [block]
--         | "[" [args [","]] "]" | "{" [pair {"," pair} [","]] "}" | "(" stmt ")"
--         | ("if"|"unless") expr then body { "elsif" expr then body } ["else" body] "end"
--         | ("while"|"until") expr ("do" | NL) body "end"
rule (p.primary d) = any (
    token (is c.int) (λ t. done (as_value (tree.integer (integer_of t.kind) t.at)))
    ∷ token (is c.text_open) (λ t. phrase (p.text_rest []) (λ pieces. made (tree.string t.at pieces)))
    ∷ token (is c.symbol) (λ t. done (as_value (tree.symbol (word_of t))))
    ∷ token (is c.nil_word) (λ t. done (as_value (tree.constant node.Nil t.at)))
    ∷ token (is c.true_word) (λ t. done (as_value (tree.constant node.True t.at)))
    ∷ token (is c.false_word) (λ t. done (as_value (tree.constant node.False t.at)))
    ∷ token (is c.self_word) (λ t. done (as_value (tree.constant node.SelfRef t.at)))
    ∷ token (is c.field) (λ t. done (p.plain (p.of_field (word_of t))))
    ∷ token (is c.global) (λ t. done (p.plain (p.of_global (word_of t))))
    ∷ token (one_of identifiers) (λ t. named (word_of t))
    ∷ token (is c.constant) (λ t. token (is c.dot) (λ o. token (is c.new) (constructed d (word_of t))))
    ∷ token (is c.open_bracket) (λ t. nested t.at p.array_rest (λ items. made (tree.array t.at items)))
    ∷ token (is c.open_brace) (λ t. nested t.at p.hash_rest (λ pairs. made (tree.hash t.at pairs)))
    ∷ token (is c.open_paren) (λ t. nested t.at p.group_rest (λ a. done (as_value a)))
    ∷ token (one_of (c.if_word ∷ c.unless_word ∷ [])) (λ t. nested t.at (p.conditional t) (λ a. done (as_value a)))
    ∷ token (one_of (c.while_word ∷ c.until_word ∷ [])) (λ t. nested t.at (p.loop_rest t) (λ a. done (as_value a)))
    ∷ [])
rule p.array_rest = closed_or c.close_bracket [] (phrase (p.argument true) (λ a. phrase (p.array_items_rest (a ∷ [])) done))
rule (p.array_items_rest found) = any (
    token (is c.comma) (λ t. closed_or c.close_bracket found (phrase (p.argument true) (λ a. phrase (p.array_items_rest (found ++ a ∷ [])) done)))
    ∷ token (is c.close_bracket) (λ t. done found)
    ∷ [])
rule p.hash_rest = closed_or c.close_brace [] (phrase p.pair (λ ab. phrase (p.pairs_rest (ab ∷ [])) done))
rule (p.pairs_rest found) = any (
    token (is c.comma) (λ t. closed_or c.close_brace found (phrase p.pair (λ ab. phrase (p.pairs_rest (found ++ ab ∷ [])) done)))
    ∷ token (is c.close_brace) (λ t. done found)
    ∷ [])
-- pair = arg "=>" arg | LABEL arg
rule p.pair = any (
    token (is c.label) (λ t. phrase (p.argument true) (λ b. done (tree.symbol (word_of t), b)))
    ∷ phrase (p.argument true) (λ a. token (is c.arrow) (λ t. phrase (p.argument true) (λ b. done (a, b))))
    ∷ [])
rule p.group_rest = phrase p.statement (λ a. token (is c.close_paren) (λ t. done a))
-- a condition with its bodies, and a loop, behind their words
rule (p.conditional t) = phrase (p.expression true) (λ a. decided t a (λ condition. chosen (is_one (c.if_word ∷ []) t) t condition done))
-- then = "then" | NL ["then"]
rule p.then = any (
    token (is c.then_word) (λ t. done tt)
    ∷ token (is c.line) (λ t. any (token (is c.then_word) (λ w. done tt) ∷ done tt ∷ []))
    ∷ [])
-- behind the first body, up to the `end`; `elsif` does not stand behind `unless`
rule (p.otherwise may_go_on) = any (
    token (allowed may_go_on c.elsif_word) (λ t. phrase (p.expression true) (λ condition. chosen true t condition (λ a. done (a ∷ []))))
    ∷ token (is c.else_word) (λ t. phrase (p.body []) (λ b. token (is c.end_word) (λ e. done b)))
    ∷ token (is c.end_word) (λ t. done [])
    ∷ [])
rule (p.loop_rest t) = phrase (p.expression false) (λ a. decided t a (looped t))
-- text = TextOpen { TextPiece | CodeOpen stmt CodeClose } TextClose
rule (p.text_rest found) = any (
    token (is c.text_piece) (λ t. phrase (p.text_rest (found ++ tree.bytes (text_of t.kind) ∷ [])) done)
    ∷ token (is c.code_open) (λ t. nested t.at p.code_rest (λ a. phrase (p.text_rest (found ++ tree.code a ∷ [])) done))
    ∷ token (is c.text_close) (λ t. done found)
    ∷ [])
rule p.code_rest = phrase p.statement (λ a. token (is c.code_close) (λ t. done a))
-- block = "{" ["|" IDENT {"," IDENT} "|"] body "}" | "do" ["|" IDENT {"," IDENT} "|"] body "end"
rule (p.block_rest in_braces at) = scope enter_block (any (
    token (is c.bar) (λ t. token (one_of names) (λ w. phrase (p.bar_params_rest (word_of w ∷ [])) (λ ws. phrase (p.block_body in_braces at ws) done)))
    ∷ phrase (p.block_body in_braces at []) done
    ∷ []))
rule (p.bar_params_rest found) = any (
    token (is c.comma) (λ t. token (one_of names) (λ w. phrase (p.bar_params_rest (found ++ word_of w ∷ [])) done))
    ∷ token (is c.bar) (λ t. done found)
    ∷ [])
rule (p.block_body in_braces at ws) =
    scope (with_params ws) (phrase (p.body []) (λ b. token (is (closing in_braces)) (λ e. scope leave (done (record { at = at; params = ws; body = b })))))

-- ---- what a phrase spells

-- by a derivation that is at most so deep
abbrev pub spelled : ℕ → ℕ → ℕ → Spelling
spelled limit zero levels n s ts v s' us = ⊥
spelled limit (suc depth) levels n s ts v s' us = Spells limit (spelled limit depth) levels (rule n) s ts v s' us
