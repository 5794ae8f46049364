-- The alternatives of a primary, by the class of the token that they begin with.
use Rattle.std.specs.Prelude.{Bool, [], ◌∷◌}
use Rattle.rb_grammar.specs.Look.{is, one_of}
use Rattle.rb_grammar.specs.Look as c
use Rattle.rb_tree.specs.declared.node.Node.TheVariants as node
use Rattle.rb_grammar.specs.Tree as tree
use Rattle.rb_grammar.specs.Phrase.{Part}
use Rattle.rb_grammar.specs.Phrase as p
use Rattle.rb_grammar.specs.Rule.{Rule, done, refuse, token, phrase, nested}
use Rattle.rb_grammar.specs.Grammar.{any, as_value, made, word_of, integer_of, identifiers, named, constructed}
use Rattle.rb_steps.specs.declared.beginning.Beginning.{Beginning}
use Rattle.rb_steps.specs.declared.beginning.Beginning.TheVariants as begin

abbrev pub leaf : Rule Part
leaf = any (
    token (is c.int) (λ t. done (as_value (tree.integer (integer_of t.kind) t.at)))
    ∷ token (is c.symbol) (λ t. done (as_value (tree.symbol (word_of t))))
    ∷ token (is c.nil_word) (λ t. done (as_value (tree.constant node.Nil t.at)))
    ∷ token (is c.true_word) (λ t. done (as_value (tree.constant node.True t.at)))
    ∷ token (is c.false_word) (λ t. done (as_value (tree.constant node.False t.at)))
    ∷ token (is c.self_word) (λ t. done (as_value (tree.constant node.SelfRef t.at)))
    ∷ token (is c.field) (λ t. done (p.plain (p.of_field (word_of t))))
    ∷ token (is c.global) (λ t. done (p.plain (p.of_global (word_of t))))
    ∷ [])

abbrev pub text : Rule Part
text = token (is c.text_open) (λ t. phrase (p.text_rest []) (λ pieces. made (tree.string t.at pieces)))

abbrev pub name : Rule Part
name = token (one_of identifiers) (λ t. named (word_of t))

abbrev pub new : Bool → Rule Part
new d = token (is c.constant) (λ t. token (is c.dot) (λ o. token (is c.new) (constructed d (word_of t))))

abbrev pub array : Rule Part
array = token (is c.open_bracket) (λ t. nested t.at p.array_rest (λ items. made (tree.array t.at items)))

abbrev pub hash : Rule Part
hash = token (is c.open_brace) (λ t. nested t.at p.hash_rest (λ pairs. made (tree.hash t.at pairs)))

abbrev pub group : Rule Part
group = token (is c.open_paren) (λ t. nested t.at p.group_rest (λ a. done (as_value a)))

abbrev pub choice : Rule Part
choice = token (one_of (c.if_word ∷ c.unless_word ∷ [])) (λ t. nested t.at (p.conditional t) (λ a. done (as_value a)))

abbrev pub loop : Rule Part
loop = token (one_of (c.while_word ∷ c.until_word ∷ [])) (λ t. nested t.at (p.loop_rest t) (λ a. done (as_value a)))

-- the alternative of a primary that begins so
abbrev pub alternative : Bool → Beginning → Rule Part
alternative d begin.Leaf = leaf
alternative d begin.Text = text
alternative d begin.Name = name
alternative d begin.New = new d
alternative d begin.Array = array
alternative d begin.Hash = hash
alternative d begin.Group = group
alternative d begin.Choice = choice
alternative d begin.Loop = loop
alternative d begin.Nothing = refuse
