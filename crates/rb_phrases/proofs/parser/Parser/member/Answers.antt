use Rattle.std.proofs.Common.{length, arith, refl, sym, ap, ◌∙◌, subst, map}
use Rattle.rb_grammar.specs.Look as look
use Rattle.rb_grammar.specs.Tree as tree
use Rattle.rb_grammar.specs.Phrase as p
use Rattle.rb_grammar.specs.Rule.{done, token, phrase}
use Rattle.rb_grammar.specs.Grammar.{rule, text_of}
use Rattle.rb_cursor.specs.Word.{word_by}
use Rattle.rb_cursor.specs.Here.{at_rule}
use Rattle.rb_cursor.proofs.Steps.{fails_at, fails, first_token, second_token, where_it_stood, leads_to, to_first_token, to_second_token, from_where_it_stood}
use Rattle.rb_builder.specs.Builder.{walk_of}
use Rattle.rb_builder.specs.Script.{IsMethod, AreMembers}
use Rattle.rb_phrases.proofs.Forms.{fails_inside, stays_shut, took_less, no_longer}
use Rattle.rb_steps.proofs.Parameters.{wanted_memory}
use Rattle.rb_phrases.proofs.Ends.{made_by, over_phrase, over_opened}
use Rattle.rb_phrases.proofs.Scripts.{handed_adds}
use Rattle.rb_grammar.specs.Look.{one_of}
use Rattle.rb_phrases.proofs.parser.Parser.member.Goals as goal

pub returns-in_err-inner : goal.returns-in_err-inner
unfolding rule
returns-in_err-inner c =
    λ found r. handed_adds _ _ _ _ _ _ _ c.from_residual.result c.from_residual.ensures.1 (fails_at c.args.self.levels (p.members_rest found) (first_token refl c.in-Some.ensures.taken (stays_shut c.in_err-inner.ensures)))

pub returns-in_err-method : goal.returns-in_err-method
unfolding rule
returns-in_err-method c =
    λ found r. handed_adds _ _ _ _ _ _ _ c.from_residual-in_err-method.result c.from_residual-in_err-method.ensures.1 (fails_at c.args.self.levels (p.members_rest found) (first_token refl c.in-Some.ensures.taken (fails_inside c.in_ok-inner.ensures.0 c.in_err-method.ensures)))

pub returns-in_err-push_method : goal.returns-in_err-push_method
unfolding rule
returns-in_err-push_method c =
    λ found r. handed_adds _ _ _ _ _ _ _ c.from_residual-in_err-push_method.result c.from_residual-in_err-push_method.ensures.1 (wanted_memory c.in_err-push_method.ensures.memory)

pub returns-in-Some : goal.returns-in-Some
unfolding rule
returns-in-Some c =
    let method = made_by IsMethod c.in_ok-inner.ensures.1 c.in_ok-method.ensures in
    λ found r. record {
      value = tree.with_method found method.value;
      comes = leads_to c.args.self.levels (p.members_rest found) c.args.cursor.now (at_rule c.args.self.levels (token (look.is look.line) (λ l. phrase (p.members_rest (tree.with_method found method.value)) done)) c.method.new.cursor) (to_first_token refl c.in-Some.ensures.taken (over_opened c.in_ok-inner.ensures.0 method (record { comes = refl })));
      same = c.in_ok-push_method.ensures.ok found method.value r method.same;
      shorter = omega (arith, took_less c.in-Some.ensures.taken, no_longer c.in_ok-inner.inner.levels p.method_rest c.accept.new.self c.method.new.cursor c.in_ok-method.ensures);
    }

pub returns-in_default-accept : goal.returns-in_default-accept
unfolding rule
returns-in_default-accept c =
    λ found r. record {
      stays = c.in_default-accept.ensures.taken.1 ∙ c.in_default.ensures.taken.1;
      kept = refl;
      comes = leads_to c.args.self.levels (p.members_rest found) c.args.cursor.now (at_rule c.args.self.levels (token (look.is look.end_word) (λ t. done found)) c.args.cursor.now)
          (to_second_token refl c.in_default.ensures.taken.0 (from_where_it_stood c.in_default.ensures.taken.1
          (to_second_token refl c.in_default-accept.ensures.taken.0 (from_where_it_stood (sym c.in_default.ensures.taken.1) (record { comes = refl })))));
    }

pub returns-in_err-symbols : goal.returns-in_err-symbols
unfolding rule
returns-in_err-symbols c =
    λ found r. handed_adds _ _ _ _ _ _ _ c.from_residual-in_err-symbols.result c.from_residual-in_err-symbols.ensures.1 (fails_at c.args.self.levels (p.members_rest found) (second_token refl c.in_default.ensures.taken.0 (where_it_stood c.in_default.ensures.taken.1 (first_token refl c.in-Some-accept.ensures.taken (fails (c.in_err-symbols.ensures.came c.args.self.levels))))))

pub returns-in_err-push_attributes : goal.returns-in_err-push_attributes
unfolding rule
returns-in_err-push_attributes c =
    λ found r. handed_adds _ _ _ _ _ _ _ c.from_residual-in_err-push_attributes.result c.from_residual-in_err-push_attributes.ensures.1 (wanted_memory c.in_err-push_attributes.ensures.memory)

pub returns : goal.returns
unfolding rule
returns c =
    let symbols = c.in_ok-symbols.ensures.came c.args.self.levels in
    λ found r. record {
      value = tree.with_attributes found (text_of c.in-Some-accept.kind.now.kind) symbols.value;
      comes = leads_to c.args.self.levels (p.members_rest found) c.args.cursor.now (at_rule c.args.self.levels (token (look.is look.line) (λ l. phrase (p.members_rest (tree.with_attributes found (text_of c.in-Some-accept.kind.now.kind) symbols.value)) done)) c.symbols.new.cursor) (to_second_token refl c.in_default.ensures.taken.0 (from_where_it_stood c.in_default.ensures.taken.1 (to_first_token refl c.in-Some-accept.ensures.taken (over_phrase symbols (record { comes = refl })))));
      same = subst (λ m. AreMembers (walk_of c.args.self.make) c.push_attributes.new.members m) (ap (λ k. tree.with_attributes found k (map word_by c.as_slice.result.now)) c.text_of.ensures ∙ ap (λ ws. tree.with_attributes found (text_of c.in-Some-accept.kind.now.kind) ws) (ap (map word_by) c.as_slice.ensures ∙ symbols.same)) (c.in_ok-push_attributes.ensures.ok found r);
      shorter = omega (arith, ap (λ s. length s.rest) c.in_default.ensures.taken.1, took_less c.in-Some-accept.ensures.taken, no_longer c.args.self.levels p.symbols c.accept-2.new.self c.symbols.new.cursor symbols);
    }
