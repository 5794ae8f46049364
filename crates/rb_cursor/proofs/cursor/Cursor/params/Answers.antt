use Rattle.std.proofs.Common.{[], ◌∷◌, ◌++◌, refl, sym, ap, ◌∙◌, arith}
use Rattle.std.specs.Prelude.{map}
use Rattle.std.proofs.lemmas.List.{map-append}
use Rattle.rb_grammar.specs.Phrase as p
use Rattle.rb_grammar.specs.Grammar.{rule, word_of}
use Rattle.rb_cursor.specs.State.{memory, answer_at}
use Rattle.rb_cursor.specs.Word.{word_by}
use Rattle.rb_cursor.proofs.Steps.{at_phrase, fails_at, handed_on, through, takes, misses, stops, first_token, second_token, where_it_stood}
use Rattle.rb_cursor.proofs.Steps.{leads_to, over_word, to_first_token, to_second_token, from_where_it_stood, arrives, reached_further}
use Rattle.rb_cursor.proofs.cursor.Cursor.params.Goals as goal

pub returns-in-Some-clause-came : goal.returns-in-Some-clause-came
unfolding rule
returns-in-Some-clause-came c = λ levels.
    at_phrase levels p.params (first_token refl c.in-Some.ensures.taken (stops (ap (map word_by) c.new-words.ensures)))

pub returns-in_err-first-clause-came : goal.returns-in_err-first-clause-came
unfolding rule
returns-in_err-first-clause-came c = λ levels.
    handed_on _ _ c.from_residual.result c.from_residual.ensures.1
    (fails_at levels p.params (second_token refl c.in_default.ensures.taken.0 (where_it_stood c.in_default.ensures.taken.1 (misses c.in_err-first.ensures.word))))

pub returns-in_err-push-clause-came : goal.returns-in_err-push-clause-came
returns-in_err-push-clause-came c = λ levels. handed_on _ _ c.from_residual-in_err-push.result c.from_residual-in_err-push.ensures.1 memory

pub more-init : goal.more-init
unfolding rule
more-init c =
    let words = sym (ap (map word_by) (c.in_ok-push.ensures.ok ∙ ap (λ x. x ++ c.in_ok-first.first ∷ []) c.new-words.ensures) ∙ ap (λ v. v ∷ []) c.in_ok-first.ensures.word.word) in
    record {
      further = λ levels.
          leads_to levels p.params c.args.self.now (answer_at levels (p.params_rest (word_of c.in_ok-first.ensures.word.token ∷ [])) c.name.new.self)
          (to_second_token refl c.in_default.ensures.taken.0 (from_where_it_stood c.in_default.ensures.taken.1 (over_word c.in_ok-first.ensures.word (arrives levels (p.params_rest (word_of c.in_ok-first.ensures.word.token ∷ [])) c.name.new.self))))
          ∙ ap (λ ws. answer_at levels (p.params_rest ws) c.name.new.self) words;
      shorter = omega (arith, c.in_ok-first.ensures.shorter, c.accept.ensures.shorter);
    }

pub returns-in_err-next-clause-came : goal.returns-in_err-next-clause-came
unfolding rule
returns-in_err-next-clause-came c = λ levels.
    handed_on _ _ c.from_residual-in_err-next.result c.from_residual-in_err-next.ensures.1
    (through (c.more.invariant.further levels) (fails_at levels (p.params_rest (map word_by c.more.words)) (first_token refl c.in-Some-accept.ensures.taken (misses c.in_err-next.ensures.word))))

pub more-preserved : goal.more-preserved
unfolding rule
more-preserved c =
    let words = sym (ap (map word_by) c.in_ok-push-2.ensures.ok ∙ map-append word_by c.more.words (c.in_ok-next.next ∷ []) ∙ ap (λ v. map word_by c.more.words ++ v ∷ []) c.in_ok-next.ensures.word.word) in
    record {
      further = λ levels.
          c.more.invariant.further levels
          ∙ leads_to levels (p.params_rest (map word_by c.more.words)) c.more.self (answer_at levels (p.params_rest (map word_by c.more.words ++ word_of c.in_ok-next.ensures.word.token ∷ [])) c.name-in-Some-accept.new.self)
          (to_first_token refl c.in-Some-accept.ensures.taken (over_word c.in_ok-next.ensures.word (arrives levels (p.params_rest (map word_by c.more.words ++ word_of c.in_ok-next.ensures.word.token ∷ [])) c.name-in-Some-accept.new.self)))
          ∙ ap (λ ws. answer_at levels (p.params_rest ws) c.name-in-Some-accept.new.self) words;
      shorter = omega (arith, c.more.invariant.shorter, c.in_ok-next.ensures.shorter, c.accept-in-more.ensures.shorter);
    }

pub returns-in_err-push-2-clause-came : goal.returns-in_err-push-2-clause-came
returns-in_err-push-2-clause-came c = λ levels. handed_on _ _ c.from_residual-in_err-push-2.result c.from_residual-in_err-push-2.ensures.1 memory

pub returns-in_err-expect-clause-came : goal.returns-in_err-expect-clause-came
unfolding rule
returns-in_err-expect-clause-came c = λ levels.
    handed_on _ _ c.from_residual-in_err-expect.result c.from_residual-in_err-expect.ensures.1
    (through (c.more.invariant.further levels)
    (fails_at levels (p.params_rest (map word_by c.more.words)) (second_token refl c.in_default-accept.ensures.taken.0 (where_it_stood c.in_default-accept.ensures.taken.1 (misses c.in_err-expect.ensures.took)))))

pub returns-clause-came : goal.returns-clause-came
unfolding rule
returns-clause-came c = λ levels.
    reached_further (c.more.invariant.further levels)
    (at_phrase levels (p.params_rest (map word_by c.more.words))
    (second_token refl c.in_default-accept.ensures.taken.0 (where_it_stood c.in_default-accept.ensures.taken.1 (takes c.in_ok-expect.ensures.took (stops refl)))))
