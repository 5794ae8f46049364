use Rattle.std.proofs.Common.{refl, ap, ◌∙◌, subst, [], ◌∷◌}
use Rattle.rb_grammar.specs.Look as look
use Rattle.rb_grammar.specs.Tree as tree
use Rattle.rb_grammar.specs.Grammar.{is_one, finished, made, as_value, operator_name, going_on}
use Rattle.rb_grammar.specs.Grammar as grammar
use Rattle.rb_cursor.specs.declared.class.Class.TheVariants as class
use Rattle.rb_cursor.proofs.Steps.{carry}
use Rattle.rb_builder.specs.Builder.{walk_of}
use Rattle.rb_builder.specs.Grown.{Builds}
use Rattle.rb_builder.specs.Operand.{IsPart}
use Rattle.rb_phrases.proofs.Others.{is_other}
use Rattle.rb_phrases.proofs.Outside as out
use Rattle.rb_phrases.proofs.Ends as ends
use Rattle.rb_phrases.proofs.parser.Parser.assign.Goals as goal

pub returns-in-Assign : goal.returns-in-Assign
returns-in-Assign c = λ t a s h i. carry (IsPart (walk_of c.args.self.make)) s c.as_value.result (out.picks_first (is_one (look.assign ∷ []) c.args.mark.now) (made (tree.assigned t c.args.mark.now.at a)) (made (tree.operated t (grammar.operator_of (look.class_of c.args.mark.now.kind)) c.args.mark.now.at a)) c.args.self.levels s (out.is_the class.Assign c.args.mark.now c.class_of-class.result c.class_of-class.ensures c.in-Assign.is refl)) (ends.makes_so (walk_of c.args.self.make) (tree.assigned t c.args.mark.now.at a) c.args.self.levels s c.as_value.result (c.as_value.ensures (walk_of c.args.self.make) (tree.assigned t c.args.mark.now.at a) (c.assigned.ensures t a h i)))

pub returns-in_default : goal.returns-in_default
returns-in_default c = λ t a s h i.
    let operator = c.operator_of.ensures ∙ ap grammar.operator_of c.class_of-class.ensures in
    let whole = subst (λ o. Builds (walk_of c.args.self.make) (tree.operated t o c.args.mark.now.at a) c.operated.result) operator (c.operated.ensures t a h i) in
    carry (IsPart (walk_of c.args.self.make)) s c.as_value-in_default.result (out.picks_second (is_one (look.assign ∷ []) c.args.mark.now) (made (tree.assigned t c.args.mark.now.at a)) (made (tree.operated t (grammar.operator_of (look.class_of c.args.mark.now.kind)) c.args.mark.now.at a)) c.args.self.levels s (out.is_not class.Assign c.args.mark.now c.class_of-class.result c.class_of-class.ensures (is_other class.Assign c.class_of-class.result c.args.mark.now.spaced c.in_default.not-Assign))) (ends.makes_so (walk_of c.args.self.make) (tree.operated t (grammar.operator_of (look.class_of c.args.mark.now.kind)) c.args.mark.now.at a) c.args.self.levels s c.as_value-in_default.result (c.as_value-in_default.ensures (walk_of c.args.self.make) (tree.operated t (grammar.operator_of (look.class_of c.args.mark.now.kind)) c.args.mark.now.at a) whole))
