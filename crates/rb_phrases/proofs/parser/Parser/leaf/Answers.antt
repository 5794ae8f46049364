use Rattle.std.proofs.Common.{rules, to_z, of_z, w64, ◌≡◌, refl, ◌∙◌, subst}
use Rattle.rb_grammar.specs.Tree as tree
use Rattle.rb_grammar.specs.Phrase as p
use Rattle.rb_grammar.specs.Grammar.{is_one, finished, made, as_value, operator_name, going_on}
use Rattle.rb_grammar.specs.Grammar as grammar
use Rattle.rb_cursor.proofs.Steps.{handed_on}
use Rattle.rb_builder.specs.Builder.{walk_of}
use Rattle.rb_builder.specs.Grown.{Builds}
use Rattle.rb_builder.specs.Operand.{IsPart, plain, of_field, of_global}
use Rattle.rb_phrases.proofs.Outside as out
use Rattle.rb_phrases.proofs.Ends as ends
use Rattle.rb_builder.specs.declared.operand.Part.TheVariants as part
use Rattle.rb_builder.specs.declared.operand.Operand.TheVariants as operand
use Rattle.rb_cursor.proofs.Steps.{first_token, second_token, where_it_stood, takes, misses, stops}
use Rattle.rb_phrases.specs.Alternatives as alternatives
use Rattle.rb_tree.specs.declared.node.Node.TheVariants as node
use Rattle.rb_phrases.proofs.parser.Parser.leaf.Goals as goal

pub returns-in-Some : goal.returns-in-Some
returns-in-Some c =
    let stored : to_z w64 (of_z w64 c.integer_of.result) ≡ c.integer_of.result = search rules in
    ends.at_the_rule c.args.self.levels alternatives.leaf (first_token refl c.in-Some.ensures.taken (out.leaf_follows (walk_of c.args.self.make) (tree.integer (grammar.integer_of c.in-Some.token.now.kind) c.in-Some.token.now.at) c.args.self.levels c.accept.new.self c.as_value.result refl (c.as_value.ensures (walk_of c.args.self.make) (tree.integer (grammar.integer_of c.in-Some.token.now.kind) c.in-Some.token.now.at) (subst (λ n. Builds (walk_of c.args.self.make) (tree.integer n c.in-Some.token.now.at) c.integer.result) (stored ∙ c.integer_of.ensures) c.integer.ensures))))

pub returns-in-Some-accept : goal.returns-in-Some-accept
returns-in-Some-accept c = ends.at_the_rule c.args.self.levels alternatives.leaf (second_token refl c.in_default.ensures.taken.0 (where_it_stood c.in_default.ensures.taken.1 (first_token refl c.in-Some-accept.ensures.taken (out.leaf_follows (walk_of c.args.self.make) (tree.symbol (grammar.word_of c.in-Some-accept.token.now)) c.args.self.levels c.accept-2.new.self c.as_value-in-Some-accept.result refl (c.as_value-in-Some-accept.ensures (walk_of c.args.self.make) (tree.symbol (grammar.word_of c.in-Some-accept.token.now)) (subst (λ v. Builds (walk_of c.args.self.make) (tree.symbol v) c.symbol.result) c.word_of.ensures c.symbol.ensures))))))

pub returns-in-Some-accept-2 : goal.returns-in-Some-accept-2
returns-in-Some-accept-2 c = ends.at_the_rule c.args.self.levels alternatives.leaf (second_token refl c.in_default.ensures.taken.0 (where_it_stood c.in_default.ensures.taken.1 (second_token refl c.in_default-accept.ensures.taken.0 (where_it_stood c.in_default-accept.ensures.taken.1 (first_token refl c.in-Some-accept-2.ensures.taken (out.leaf_follows (walk_of c.args.self.make) (tree.constant node.Nil c.in-Some-accept-2.token.now.at) c.args.self.levels c.accept-3.new.self c.as_value-in-Some-accept-2.result refl (c.as_value-in-Some-accept-2.ensures (walk_of c.args.self.make) (tree.constant node.Nil c.in-Some-accept-2.token.now.at) (c.constant.ensures))))))))

pub returns-in-Some-accept-3 : goal.returns-in-Some-accept-3
returns-in-Some-accept-3 c = ends.at_the_rule c.args.self.levels alternatives.leaf (second_token refl c.in_default.ensures.taken.0 (where_it_stood c.in_default.ensures.taken.1 (second_token refl c.in_default-accept.ensures.taken.0 (where_it_stood c.in_default-accept.ensures.taken.1 (second_token refl c.in_default-accept-2.ensures.taken.0 (where_it_stood c.in_default-accept-2.ensures.taken.1 (first_token refl c.in-Some-accept-3.ensures.taken (out.leaf_follows (walk_of c.args.self.make) (tree.constant node.True c.in-Some-accept-3.token.now.at) c.args.self.levels c.accept-4.new.self c.as_value-in-Some-accept-3.result refl (c.as_value-in-Some-accept-3.ensures (walk_of c.args.self.make) (tree.constant node.True c.in-Some-accept-3.token.now.at) (c.constant-in-Some-accept-3.ensures))))))))))

pub returns-in-Some-accept-4 : goal.returns-in-Some-accept-4
returns-in-Some-accept-4 c = ends.at_the_rule c.args.self.levels alternatives.leaf (second_token refl c.in_default.ensures.taken.0 (where_it_stood c.in_default.ensures.taken.1 (second_token refl c.in_default-accept.ensures.taken.0 (where_it_stood c.in_default-accept.ensures.taken.1 (second_token refl c.in_default-accept-2.ensures.taken.0 (where_it_stood c.in_default-accept-2.ensures.taken.1 (second_token refl c.in_default-accept-3.ensures.taken.0 (where_it_stood c.in_default-accept-3.ensures.taken.1 (first_token refl c.in-Some-accept-4.ensures.taken (out.leaf_follows (walk_of c.args.self.make) (tree.constant node.False c.in-Some-accept-4.token.now.at) c.args.self.levels c.accept-5.new.self c.as_value-in-Some-accept-4.result refl (c.as_value-in-Some-accept-4.ensures (walk_of c.args.self.make) (tree.constant node.False c.in-Some-accept-4.token.now.at) (c.constant-in-Some-accept-4.ensures))))))))))))

pub returns-in-Some-accept-5 : goal.returns-in-Some-accept-5
returns-in-Some-accept-5 c = ends.at_the_rule c.args.self.levels alternatives.leaf (second_token refl c.in_default.ensures.taken.0 (where_it_stood c.in_default.ensures.taken.1 (second_token refl c.in_default-accept.ensures.taken.0 (where_it_stood c.in_default-accept.ensures.taken.1 (second_token refl c.in_default-accept-2.ensures.taken.0 (where_it_stood c.in_default-accept-2.ensures.taken.1 (second_token refl c.in_default-accept-3.ensures.taken.0 (where_it_stood c.in_default-accept-3.ensures.taken.1 (second_token refl c.in_default-accept-4.ensures.taken.0 (where_it_stood c.in_default-accept-4.ensures.taken.1 (first_token refl c.in-Some-accept-5.ensures.taken (out.leaf_follows (walk_of c.args.self.make) (tree.constant node.SelfRef c.in-Some-accept-5.token.now.at) c.args.self.levels c.accept-6.new.self c.as_value-in-Some-accept-5.result refl (c.as_value-in-Some-accept-5.ensures (walk_of c.args.self.make) (tree.constant node.SelfRef c.in-Some-accept-5.token.now.at) (c.constant-in-Some-accept-5.ensures))))))))))))))

pub returns-in-Some-accept-6 : goal.returns-in-Some-accept-6
returns-in-Some-accept-6 c = ends.at_the_rule c.args.self.levels alternatives.leaf (second_token refl c.in_default.ensures.taken.0 (where_it_stood c.in_default.ensures.taken.1 (second_token refl c.in_default-accept.ensures.taken.0 (where_it_stood c.in_default-accept.ensures.taken.1 (second_token refl c.in_default-accept-2.ensures.taken.0 (where_it_stood c.in_default-accept-2.ensures.taken.1 (second_token refl c.in_default-accept-3.ensures.taken.0 (where_it_stood c.in_default-accept-3.ensures.taken.1 (second_token refl c.in_default-accept-4.ensures.taken.0 (where_it_stood c.in_default-accept-4.ensures.taken.1 (second_token refl c.in_default-accept-5.ensures.taken.0 (where_it_stood c.in_default-accept-5.ensures.taken.1 (first_token refl c.in-Some-accept-6.ensures.taken (stops (subst (λ v. IsPart (walk_of c.args.self.make) (part.Plain (operand.Field c.word_of-in-Some-accept-6.result)) (p.plain (p.of_field v))) c.word_of-in-Some-accept-6.ensures (plain of_field))))))))))))))))

pub returns-in_err-token : goal.returns-in_err-token
returns-in_err-token c = handed_on (IsPart (walk_of c.args.self.make)) _ c.from_residual.result c.from_residual.ensures.1 (ends.fails_at_the_rule c.args.self.levels alternatives.leaf (second_token refl c.in_default.ensures.taken.0 (where_it_stood c.in_default.ensures.taken.1 (second_token refl c.in_default-accept.ensures.taken.0 (where_it_stood c.in_default-accept.ensures.taken.1 (second_token refl c.in_default-accept-2.ensures.taken.0 (where_it_stood c.in_default-accept-2.ensures.taken.1 (second_token refl c.in_default-accept-3.ensures.taken.0 (where_it_stood c.in_default-accept-3.ensures.taken.1 (second_token refl c.in_default-accept-4.ensures.taken.0 (where_it_stood c.in_default-accept-4.ensures.taken.1 (second_token refl c.in_default-accept-5.ensures.taken.0 (where_it_stood c.in_default-accept-5.ensures.taken.1 (second_token refl c.in_default-accept-6.ensures.taken.0 (where_it_stood c.in_default-accept-6.ensures.taken.1 (misses c.in_err-token.ensures.took))))))))))))))))

pub returns : goal.returns
returns c = ends.at_the_rule c.args.self.levels alternatives.leaf (second_token refl c.in_default.ensures.taken.0 (where_it_stood c.in_default.ensures.taken.1 (second_token refl c.in_default-accept.ensures.taken.0 (where_it_stood c.in_default-accept.ensures.taken.1 (second_token refl c.in_default-accept-2.ensures.taken.0 (where_it_stood c.in_default-accept-2.ensures.taken.1 (second_token refl c.in_default-accept-3.ensures.taken.0 (where_it_stood c.in_default-accept-3.ensures.taken.1 (second_token refl c.in_default-accept-4.ensures.taken.0 (where_it_stood c.in_default-accept-4.ensures.taken.1 (second_token refl c.in_default-accept-5.ensures.taken.0 (where_it_stood c.in_default-accept-5.ensures.taken.1 (second_token refl c.in_default-accept-6.ensures.taken.0 (where_it_stood c.in_default-accept-6.ensures.taken.1 (takes c.in_ok-token.ensures.took (stops (subst (λ v. IsPart (walk_of c.args.self.make) (part.Plain (operand.Global c.word_of-2.result)) (p.plain (p.of_global v))) c.word_of-2.ensures (plain of_global))))))))))))))))))
