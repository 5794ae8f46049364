use Rattle.std.proofs.Common.{sym, ◌∙◌, ap, arith}
use Rattle.std.proofs.lemmas.List.{take_rest}
use Rattle.std.proofs.lemmas.List.Sums.{prefix_len-le-length}
use Rattle.rb_lexer.specs.Character.{is_word_part}
use Rattle.rb_lexer.specs.Extent.{begins_name_mark}
use Rattle.rb_lexer.proofs.Runs.{identifier-reach, identifier-reach_mark}
use Rattle.rb_lexer.proofs.words.identifier_len.Goals as goal

pub slice_bounds-begins_name_mark-count : goal.slice_bounds-begins_name_mark-count
slice_bounds-begins_name_mark-count c = let w = prefix_len-le-length is_word_part c.args.bytes.now in omega arith

pub slice_bounds-begins_name_mark-start : goal.slice_bounds-begins_name_mark-start
slice_bounds-begins_name_mark-start c = let w = prefix_len-le-length is_word_part c.args.bytes.now in omega arith

pub returns-then-begins_name_mark : goal.returns-then-begins_name_mark
returns-then-begins_name_mark c =
    let bytes = c.args.bytes.now in
    identifier-reach_mark bytes c.run_len-len.result (sym c.is_name_start.ensures ∙ c.if-not-is_name_start.false) c.run_len-len.ensures
    (sym (ap begins_name_mark (take_rest bytes c.run_len-len.result)) ∙ sym c.begins_name_mark.ensures ∙ c.if-begins_name_mark.true)

pub returns : goal.returns
returns c =
    let bytes = c.args.bytes.now in
    identifier-reach bytes c.run_len-len.result (sym c.is_name_start.ensures ∙ c.if-not-is_name_start.false) c.run_len-len.ensures
    (sym (ap begins_name_mark (take_rest bytes c.run_len-len.result)) ∙ sym c.begins_name_mark.ensures ∙ c.if-begins_name_mark.false)
