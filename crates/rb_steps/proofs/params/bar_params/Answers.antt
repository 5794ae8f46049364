use Rattle.std.proofs.Common.{[], ◌∷◌, ◌++◌, refl, sym, ap, ◌∙◌, arith}
use Rattle.std.specs.Prelude.{map}
use Rattle.std.proofs.lemmas.List.{map-append}
use Rattle.rb_grammar.specs.Phrase as p
use Rattle.rb_grammar.specs.Rule.{done}
use Rattle.rb_grammar.specs.Grammar.{rule, word_of}
use Rattle.rb_grammar.specs.Reading.{read}
use Rattle.rb_cursor.specs.State.{memory, answer_at}
use Rattle.rb_cursor.specs.Here.{at_rule}
use Rattle.rb_cursor.specs.Word.{word_by}
use Rattle.rb_cursor.proofs.Steps.{fails_at, through, misses, first_token, second_token, where_it_stood}
use Rattle.rb_cursor.proofs.Steps.{leads_to, over, over_word, to_first_token, to_second_token, from_where_it_stood, arrives}
use Rattle.rb_steps.specs.Within.{bars, behind_bars}
use Rattle.rb_steps.proofs.Parameters.{stays, leads_there, fails_there, handed_to, after_names, names_fail, names_as, names_end}
use Rattle.rb_steps.proofs.params.bar_params.Goals as goal

pub returns-in_default-clause-went : goal.returns-in_default-clause-went
returns-in_default-clause-went c = λ levels in_braces at.
    leads_there levels (bars in_braces at) c.args.cursor.now (at_rule levels (behind_bars in_braces at []) c.accept.new.self)
    (to_second_token refl c.in_default.ensures.taken.0 (from_where_it_stood c.in_default.ensures.taken.1 (stays levels (behind_bars in_braces at []) c.accept.new.self)))
    ∙ ap (λ ws. at_rule levels (behind_bars in_braces at ws) c.accept.new.self) (sym c.new-words.ensures)

pub returns-in_err-first-clause-went : goal.returns-in_err-first-clause-went
returns-in_err-first-clause-went c = λ levels in_braces at.
    handed_to levels (bars in_braces at) (behind_bars in_braces at) c.args.cursor.now c.name.new.self c.from_residual.result c.from_residual.ensures.1
    (fails_there levels (bars in_braces at) c.args.cursor.now (first_token refl c.in-Some.ensures.taken (misses c.in_err-first.ensures.word)))

pub returns-in_err-push-clause-went : goal.returns-in_err-push-clause-went
returns-in_err-push-clause-went c = λ levels in_braces at.
    handed_to levels (bars in_braces at) (behind_bars in_braces at) c.args.cursor.now c.name.new.self c.from_residual-in_err-push.result c.from_residual-in_err-push.ensures.1 memory

pub more-init : goal.more-init
more-init c =
    let words = sym (ap (map word_by) (c.in_ok-push.ensures.ok ∙ ap (λ x. x ++ c.in_ok-first.first ∷ []) c.new-words.ensures) ∙ ap (λ v. v ∷ []) c.in_ok-first.ensures.word.word) in
    record {
      further = λ levels in_braces at.
          leads_there levels (bars in_braces at) c.args.cursor.now (at_rule levels (after_names in_braces at (word_of c.in_ok-first.ensures.word.token ∷ [])) c.name.new.self)
          (to_first_token refl c.in-Some.ensures.taken (over_word c.in_ok-first.ensures.word (stays levels (after_names in_braces at (word_of c.in_ok-first.ensures.word.token ∷ [])) c.name.new.self)))
          ∙ ap (λ ws. at_rule levels (after_names in_braces at ws) c.name.new.self) words;
      shorter = omega (arith, c.in_ok-first.ensures.shorter, c.accept.ensures.shorter);
    }

pub returns-in_err-next-clause-went : goal.returns-in_err-next-clause-went
unfolding rule
returns-in_err-next-clause-went c = λ levels in_braces at.
    handed_to levels (bars in_braces at) (behind_bars in_braces at) c.args.cursor.now c.name-in-Some-accept.new.self c.from_residual-in_err-next.result c.from_residual-in_err-next.ensures.1
    (through (c.more.invariant.further levels in_braces at) (names_fail levels in_braces at (map word_by c.more.words) c.more.cursor
    (fails_at levels (p.bar_params_rest (map word_by c.more.words)) (first_token refl c.in-Some-accept.ensures.taken (misses c.in_err-next.ensures.word)))))

pub more-preserved : goal.more-preserved
unfolding rule
more-preserved c =
    let words = sym (ap (map word_by) c.in_ok-push-2.ensures.ok ∙ map-append word_by c.more.words (c.in_ok-next.next ∷ []) ∙ ap (λ v. map word_by c.more.words ++ v ∷ []) c.in_ok-next.ensures.word.word) in
    record {
      further = λ levels in_braces at.
          c.more.invariant.further levels in_braces at
          ∙ names_as levels in_braces at (map word_by c.more.words) (map word_by c.more.words ++ word_of c.in_ok-next.ensures.word.token ∷ []) c.more.cursor c.name-in-Some-accept.new.self
          (leads_to levels (p.bar_params_rest (map word_by c.more.words)) c.more.cursor (answer_at levels (p.bar_params_rest (map word_by c.more.words ++ word_of c.in_ok-next.ensures.word.token ∷ [])) c.name-in-Some-accept.new.self)
          (to_first_token refl c.in-Some-accept.ensures.taken (over_word c.in_ok-next.ensures.word (arrives levels (p.bar_params_rest (map word_by c.more.words ++ word_of c.in_ok-next.ensures.word.token ∷ [])) c.name-in-Some-accept.new.self))))
          ∙ ap (λ ws. at_rule levels (after_names in_braces at ws) c.name-in-Some-accept.new.self) words;
      shorter = omega (arith, c.more.invariant.shorter, c.in_ok-next.ensures.shorter, c.accept-in-more.ensures.shorter);
    }

pub returns-in_err-push-2-clause-went : goal.returns-in_err-push-2-clause-went
returns-in_err-push-2-clause-went c = λ levels in_braces at.
    handed_to levels (bars in_braces at) (behind_bars in_braces at) c.args.cursor.now c.name-in-Some-accept.new.self c.from_residual-in_err-push-2.result c.from_residual-in_err-push-2.ensures.1 memory

pub returns-in_err-expect-clause-went : goal.returns-in_err-expect-clause-went
unfolding rule
returns-in_err-expect-clause-went c = λ levels in_braces at.
    handed_to levels (bars in_braces at) (behind_bars in_braces at) c.args.cursor.now c.expect.new.self c.from_residual-in_err-expect.result c.from_residual-in_err-expect.ensures.1
    (through (c.more.invariant.further levels in_braces at) (names_fail levels in_braces at (map word_by c.more.words) c.more.cursor
    (fails_at levels (p.bar_params_rest (map word_by c.more.words)) (second_token refl c.in_default-accept.ensures.taken.0 (where_it_stood c.in_default-accept.ensures.taken.1 (misses c.in_err-expect.ensures.took))))))

pub returns-clause-went : goal.returns-clause-went
unfolding rule
returns-clause-went c = λ levels in_braces at.
    c.more.invariant.further levels in_braces at
    ∙ names_end levels in_braces at (map word_by c.more.words) c.more.cursor c.expect.new.self
    (leads_to levels (p.bar_params_rest (map word_by c.more.words)) c.more.cursor (read (map word_by c.more.words) c.expect.new.self.scope c.expect.new.self.looked c.expect.new.self.rest)
    (to_second_token refl c.in_default-accept.ensures.taken.0 (from_where_it_stood c.in_default-accept.ensures.taken.1 (over c.in_ok-expect.ensures.took (stays levels (done (map word_by c.more.words)) c.expect.new.self)))))
