use Rattle.std.proofs.Common.{[], ◌∷◌, ◌++◌, refl, sym, ap, ◌∙◌}
use Rattle.std.specs.Prelude.{map}
use Rattle.std.proofs.lemmas.List.{map-append}
use Rattle.rb_grammar.specs.Phrase as p
use Rattle.rb_grammar.specs.Grammar.{rule, word_of}
use Rattle.rb_cursor.specs.State.{memory, answer_at}
use Rattle.rb_cursor.specs.Word.{word_by}
use Rattle.rb_cursor.proofs.Steps.{at_phrase, fails_at, handed_on, through, misses, stops, first_token, second_token, where_it_stood}
use Rattle.rb_cursor.proofs.Steps.{leads_to, over, to_first_token, arrives, reached_further}
use Rattle.rb_steps.proofs.params.symbols.Goals as goal

pub returns-in_err-first : goal.returns-in_err-first
unfolding rule
returns-in_err-first c = record {
  came = λ levels. handed_on _ _ c.from_residual.result c.from_residual.ensures.1 (fails_at levels p.symbols (misses c.in_err-first.ensures.took));
}

pub returns-in_err-push : goal.returns-in_err-push
returns-in_err-push c = record { came = λ levels. handed_on _ _ c.from_residual-in_err-push.result c.from_residual-in_err-push.ensures.1 memory }

pub more-init : goal.more-init
unfolding rule
more-init c =
    let words = sym (ap (map word_by) (c.in_ok-push.ensures.ok ∙ ap (λ x. x ++ c.word_of.result ∷ []) c.new-words.ensures) ∙ ap (λ v. v ∷ []) c.word_of.ensures) in
    λ levels.
    leads_to levels p.symbols c.args.cursor.now (answer_at levels (p.symbols_rest (word_of c.in_ok-first.first.now ∷ [])) c.expect.new.self)
    (over c.in_ok-first.ensures.took (arrives levels (p.symbols_rest (word_of c.in_ok-first.first.now ∷ [])) c.expect.new.self))
    ∙ ap (λ ws. answer_at levels (p.symbols_rest ws) c.expect.new.self) words

pub returns-in_err-next : goal.returns-in_err-next
unfolding rule
returns-in_err-next c = record {
  came = λ levels.
      handed_on _ _ c.from_residual-in_err-next.result c.from_residual-in_err-next.ensures.1
      (through (c.more.invariant levels) (fails_at levels (p.symbols_rest (map word_by c.more.words)) (first_token refl c.in-Some.ensures.taken (misses c.in_err-next.ensures.took))));
}

pub more-preserved : goal.more-preserved
unfolding rule
more-preserved c =
    let words = sym (ap (map word_by) c.in_ok-push-2.ensures.ok ∙ map-append word_by c.more.words (c.word_of-in-Some.result ∷ []) ∙ ap (λ v. map word_by c.more.words ++ v ∷ []) c.word_of-in-Some.ensures) in
    λ levels.
    c.more.invariant levels
    ∙ leads_to levels (p.symbols_rest (map word_by c.more.words)) c.more.cursor (answer_at levels (p.symbols_rest (map word_by c.more.words ++ word_of c.in_ok-next.next.now ∷ [])) c.expect-in-Some.new.self)
    (to_first_token refl c.in-Some.ensures.taken (over c.in_ok-next.ensures.took (arrives levels (p.symbols_rest (map word_by c.more.words ++ word_of c.in_ok-next.next.now ∷ [])) c.expect-in-Some.new.self)))
    ∙ ap (λ ws. answer_at levels (p.symbols_rest ws) c.expect-in-Some.new.self) words

pub returns-in_err-push-2 : goal.returns-in_err-push-2
returns-in_err-push-2 c = record { came = λ levels. handed_on _ _ c.from_residual-in_err-push-2.result c.from_residual-in_err-push-2.ensures.1 memory }

pub returns : goal.returns
unfolding rule
returns c = record {
  came = λ levels.
      reached_further (c.more.invariant levels)
      (at_phrase levels (p.symbols_rest (map word_by c.more.words)) (second_token refl c.in_default.ensures.taken.0 (where_it_stood c.in_default.ensures.taken.1 (stops refl))));
}
