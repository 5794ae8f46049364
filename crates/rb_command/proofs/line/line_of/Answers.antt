use Rattle.std.proofs.Common.{◌≡◌, ◌∙◌, ap, subst, sym, map, string_bytes, List, []}
use Rattle.clap.specs.Words.{App, app_of, fault_of, matches_of, is_simple, is_simple_and_free, HasKind}
use Rattle.rb_command.specs.Words.{Text}
use Rattle.rb_command.specs.Reader.{reader}
use Rattle.rb_command.specs.Rows.{line_in}
use Rattle.rb_command.specs.Seen.{line_seen}
use Rattle.rb_command.proofs.Reader.{is_simple_reader, is_plain_reader}
use Rattle.rb_command.proofs.Whole.{taken, refused_line, single_refused}
use Rattle.rb_command.proofs.line.line_of.Goals as goal

pub returns-then-any_has_one_hyphen : goal.returns-then-any_has_one_hyphen
returns-then-any_has_one_hyphen c = single_refused (map string_bytes c.args.words.now) (sym c.if-any_has_one_hyphen.ensures)

pub returns-in-Ok : goal.returns-in-Ok
returns-in-Ok c =
    let words : List Text = map string_bytes c.args.words.now in
    let read : app_of c.in_ok-reader.field-0 ≡ reader = c.in_ok-reader.ensures in
    let fine : fault_of reader words ≡ [] =
    sym (ap (λ (a : App). fault_of a words) read) ∙ c.in-Ok.ensures.kinds (ap is_simple_and_free read ∙ is_plain_reader) in
    let rows = (c.in-Ok.ensures.matches (ap is_simple read ∙ is_simple_reader)).0 ∙ ap (λ (a : App). matches_of a words) read in
    c.found_line.ensures ∙ ap line_in rows ∙ taken words (sym c.if-any_has_one_hyphen.ensures) fine

pub returns-in-Err : goal.returns-in-Err
returns-in-Err c =
    let words : List Text = map string_bytes c.args.words.now in
    let read : app_of c.in_ok-reader.field-0 ≡ reader = c.in_ok-reader.ensures in
    let among = c.in-Err.ensures.kinds (ap is_simple_and_free read ∙ is_plain_reader) in
    refused_line line_seen c.refused.result words c.in-Err.error c.refused.ensures.nothing c.refused.ensures.cause (sym c.if-any_has_one_hyphen.ensures)
    (subst (λ (a : App). HasKind (fault_of a words) c.in-Err.error) read among)
