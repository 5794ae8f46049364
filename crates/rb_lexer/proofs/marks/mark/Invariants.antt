use Rattle.std.proofs.Common.{◌≡◌, take, length, false}
use Rattle.std.specs.List.{list_any}
use Rattle.std.specs.Str.{bytes_eq}
use Rattle.rb_lexer.specs.declared.marks.TheConstants.{MARKS}
use Rattle.rb_lexer.specs.Mark.{mark_text}
use Rattle.rb_lexer.proofs.marks.mark.Given as goal

abbrev pub invariant-marks : goal.invariant-marks
invariant-marks l = list_any (λ m. bytes_eq (mark_text m) (take (length (mark_text m)) l.bytes)) (take l.mark-index MARKS) ≡ false
