use Rattle.std.proofs.Common.{sym, ◌∙◌, ap, not}
use Rattle.std.specs.Prelude.{is_some}
use Rattle.rb_cursor.proofs.ScopeLemmas.{local_here, local_round, local_nowhere, is_some-number_of}
use Rattle.rb_cursor.proofs.scope.+is_local_within.Goals as goal

pub returns-then-is_some : goal.returns-then-is_some
returns-then-is_some t c =
    let found = sym (is_some-number_of c.args.text.now c.in-Some.inner.now.names) ∙ sym (c.is_some.ensures ∙ ap is_some c.find.ensures.found) ∙ c.if-is_some.true in
    sym (local_here c.args.frames.now c.in-Some.outer.now c.in-Some.inner.now c.args.text.now c.in-Some.ensures.cases.0 found)

pub returns-then-not-inner : goal.returns-then-not-inner
returns-then-not-inner t c =
    let absent = sym (is_some-number_of c.args.text.now c.in-Some.inner.now.names) ∙ sym (c.is_some.ensures ∙ ap is_some c.find.ensures.found) ∙ c.if-is_some.false in
    c.is_local_within.ensures ∙ sym (local_round c.args.frames.now c.in-Some.outer.now c.in-Some.inner.now c.args.text.now c.in-Some.ensures.cases.0 c.if-not-inner.true absent)

pub returns-else-not-inner : goal.returns-else-not-inner
returns-else-not-inner t c =
    let absent = sym (is_some-number_of c.args.text.now c.in-Some.inner.now.names) ∙ sym (c.is_some.ensures ∙ ap is_some c.find.ensures.found) ∙ c.if-is_some.false in
    ap not c.if-not-inner.false ∙ sym (local_nowhere c.args.frames.now c.in-Some.outer.now c.in-Some.inner.now c.args.text.now c.in-Some.ensures.cases.0 c.if-not-inner.false absent)
