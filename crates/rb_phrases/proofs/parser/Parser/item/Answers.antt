use Rattle.std.proofs.Common.{length, arith, refl, sym, ap, ◌∙◌, true}
use Rattle.rb_grammar.specs.Look as look
use Rattle.rb_grammar.specs.Tree as tree
use Rattle.rb_grammar.specs.Phrase as p
use Rattle.rb_grammar.specs.Rule.{done, token, phrase}
use Rattle.rb_grammar.specs.Grammar.{rule}
use Rattle.rb_cursor.specs.State.{answer_at}
use Rattle.rb_cursor.specs.Here.{at_rule}
use Rattle.rb_cursor.proofs.Steps.{fails_at, fails, first_token, second_token, where_it_stood, leads_to, arrives, to_first_token, to_second_token, from_where_it_stood, first}
use Rattle.rb_builder.specs.Script.{IsMethod, IsClass}
use Rattle.rb_phrases.proofs.Forms.{fails_inside, stays_shut, took_less, no_longer}
use Rattle.rb_steps.proofs.Parameters.{wanted_memory}
use Rattle.rb_phrases.proofs.Ends.{made_by, over_phrase, over_opened}
use Rattle.rb_phrases.proofs.Scripts.{handed_adds, statement_begins}
use Rattle.rb_grammar.specs.Look.{one_of}
use Rattle.rb_grammar.specs.Heads.{begins_statement, next_class}
use Rattle.rb_cursor.proofs.Steps.{to_first, to_second}
use Rattle.rb_phrases.proofs.parser.Parser.item.Goals as goal

pub returns-in_err-inner : goal.returns-in_err-inner
unfolding rule
returns-in_err-inner c =
    λ found r no_line. handed_adds _ _ _ _ _ _ _ c.from_residual.result c.from_residual.ensures.1 (fails_at c.args.self.levels (p.items found) (second_token refl no_line (first_token refl c.in-Some.ensures.taken (stays_shut c.in_err-inner.ensures))))

pub returns-in_err-class : goal.returns-in_err-class
unfolding rule
returns-in_err-class c =
    λ found r no_line. handed_adds _ _ _ _ _ _ _ c.from_residual-in_err-class.result c.from_residual-in_err-class.ensures.1 (fails_at c.args.self.levels (p.items found) (second_token refl no_line (first_token refl c.in-Some.ensures.taken (fails_inside c.in_ok-inner.ensures.0 c.in_err-class.ensures))))

pub returns-in_err-push_class : goal.returns-in_err-push_class
unfolding rule
returns-in_err-push_class c =
    λ found r no_line. handed_adds _ _ _ _ _ _ _ c.from_residual-in_err-push_class.result c.from_residual-in_err-push_class.ensures.1 (wanted_memory c.in_err-push_class.ensures.memory)

pub returns-in-Some : goal.returns-in-Some
unfolding rule
returns-in-Some c =
    let class = made_by IsClass c.in_ok-inner.ensures.1 c.in_ok-class.ensures in
    λ found r no_line. record {
      value = tree.with_class found class.value;
      comes = leads_to c.args.self.levels (p.items found) c.args.cursor.now (answer_at c.args.self.levels (p.items_rest (tree.with_class found class.value)) c.class.new.cursor) (to_second_token refl no_line (to_first_token refl c.in-Some.ensures.taken (over_opened c.in_ok-inner.ensures.0 class (arrives c.args.self.levels (p.items_rest (tree.with_class found class.value)) c.class.new.cursor))));
      same = c.in_ok-push_class.ensures.ok found class.value r class.same;
      shorter = omega (arith, took_less c.in-Some.ensures.taken, no_longer c.in_ok-inner.inner.levels p.class_rest c.accept.new.self c.class.new.cursor c.in_ok-class.ensures);
    }

pub returns-in_err-inner-2 : goal.returns-in_err-inner-2
unfolding rule
returns-in_err-inner-2 c =
    λ found r no_line. handed_adds _ _ _ _ _ _ _ c.from_residual-in_err-inner-2.result c.from_residual-in_err-inner-2.ensures.1 (fails_at c.args.self.levels (p.items found) (second_token refl no_line (second_token refl c.in_default.ensures.taken.0 (where_it_stood c.in_default.ensures.taken.1 (first_token refl c.in-Some-accept.ensures.taken (stays_shut c.in_err-inner-2.ensures))))))

pub returns-in_err-method : goal.returns-in_err-method
unfolding rule
returns-in_err-method c =
    λ found r no_line. handed_adds _ _ _ _ _ _ _ c.from_residual-in_err-method.result c.from_residual-in_err-method.ensures.1 (fails_at c.args.self.levels (p.items found) (second_token refl no_line (second_token refl c.in_default.ensures.taken.0 (where_it_stood c.in_default.ensures.taken.1 (first_token refl c.in-Some-accept.ensures.taken (fails_inside c.in_ok-inner-2.ensures.0 c.in_err-method.ensures))))))

pub returns-in_err-push_function : goal.returns-in_err-push_function
unfolding rule
returns-in_err-push_function c =
    λ found r no_line. handed_adds _ _ _ _ _ _ _ c.from_residual-in_err-push_function.result c.from_residual-in_err-push_function.ensures.1 (wanted_memory c.in_err-push_function.ensures.memory)

pub returns-in-Some-accept : goal.returns-in-Some-accept
unfolding rule
returns-in-Some-accept c =
    let method = made_by IsMethod c.in_ok-inner-2.ensures.1 c.in_ok-method.ensures in
    λ found r no_line. record {
      value = tree.with_function found method.value;
      comes = leads_to c.args.self.levels (p.items found) c.args.cursor.now (answer_at c.args.self.levels (p.items_rest (tree.with_function found method.value)) c.method.new.cursor) (to_second_token refl no_line (to_second_token refl c.in_default.ensures.taken.0 (from_where_it_stood c.in_default.ensures.taken.1 (to_first_token refl c.in-Some-accept.ensures.taken (over_opened c.in_ok-inner-2.ensures.0 method (arrives c.args.self.levels (p.items_rest (tree.with_function found method.value)) c.method.new.cursor))))));
      same = c.in_ok-push_function.ensures.ok found method.value r method.same;
      shorter = omega (arith, ap (λ s. length s.rest) c.in_default.ensures.taken.1, took_less c.in-Some-accept.ensures.taken, no_longer c.in_ok-inner-2.inner.levels p.method_rest c.accept-2.new.self c.method.new.cursor c.in_ok-method.ensures);
    }

pub returns-then-not-is_statement : goal.returns-then-not-is_statement
unfolding rule
returns-then-not-is_statement c =
    λ found r no_line. let stays = c.in_default-accept.ensures.taken.1 ∙ c.in_default.ensures.taken.1 in record {
      stays = stays;
      kept = refl;
      comes = leads_to c.args.self.levels (p.items found) c.args.cursor.now (at_rule c.args.self.levels (token (look.is look.end) (λ t. done found)) c.args.cursor.now)
          (to_second_token refl no_line (to_second_token refl c.in_default.ensures.taken.0 (from_where_it_stood c.in_default.ensures.taken.1 (to_second_token refl c.in_default-accept.ensures.taken.0 (from_where_it_stood (sym c.in_default.ensures.taken.1)
          (to_second (statement_begins (λ a. phrase (p.items_rest (tree.with_statement found a)) done) c.args.cursor.now.rest ∙ ap (λ s. one_of begins_statement (next_class s.rest) true) (sym stays) ∙ sym c.is_statement.ensures ∙ c.if-not-is_statement.true) (record { comes = refl })))))));
    }

pub returns-in_err-statement : goal.returns-in_err-statement
unfolding rule
returns-in_err-statement c =
    λ found r no_line. handed_adds _ _ _ _ _ _ _ c.from_residual-in_err-statement.result c.from_residual-in_err-statement.ensures.1 (fails_at c.args.self.levels (p.items found) (second_token refl no_line (second_token refl c.in_default.ensures.taken.0 (where_it_stood c.in_default.ensures.taken.1 (second_token refl c.in_default-accept.ensures.taken.0 (where_it_stood c.in_default-accept.ensures.taken.1 (first (statement_begins (λ a. phrase (p.items_rest (tree.with_statement found a)) done) c.accept-2.new.self.rest ∙ sym c.is_statement.ensures ∙ c.if-not-is_statement.false) (fails c.in_err-statement.ensures))))))))

pub returns-in_err-push_statement : goal.returns-in_err-push_statement
unfolding rule
returns-in_err-push_statement c =
    λ found r no_line. handed_adds _ _ _ _ _ _ _ c.from_residual-in_err-push_statement.result c.from_residual-in_err-push_statement.ensures.1 (wanted_memory c.in_err-push_statement.ensures.memory)

pub returns : goal.returns
unfolding rule
returns c =
    let statement = c.in_ok-statement.ensures in
    λ found r no_line. record {
      value = tree.with_statement found statement.value;
      comes = leads_to c.args.self.levels (p.items found) c.args.cursor.now (answer_at c.args.self.levels (p.items_rest (tree.with_statement found statement.value)) c.statement.new.cursor) (to_second_token refl no_line (to_second_token refl c.in_default.ensures.taken.0 (from_where_it_stood c.in_default.ensures.taken.1 (to_second_token refl c.in_default-accept.ensures.taken.0 (from_where_it_stood c.in_default-accept.ensures.taken.1 (to_first (statement_begins (λ a. phrase (p.items_rest (tree.with_statement found a)) done) c.accept-2.new.self.rest ∙ sym c.is_statement.ensures ∙ c.if-not-is_statement.false) (over_phrase statement (arrives c.args.self.levels (p.items_rest (tree.with_statement found statement.value)) c.statement.new.cursor))))))));
      same = c.in_ok-push_statement.ensures.ok found statement.value r statement.same;
      shorter = omega (arith, ap (λ s. length s.rest) c.in_default.ensures.taken.1, ap (λ s. length s.rest) c.in_default-accept.ensures.taken.1, no_longer c.args.self.levels p.statement c.accept-2.new.self c.statement.new.cursor statement);
    }
