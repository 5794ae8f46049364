use Rattle.std.proofs.Common.{◌≡◌, ℕ, List, map, ◌∙◌}
use Rattle.std.proofs.lemmas.Result.{IfOk-weaker}
use Rattle.rb_model.specs.Values.{plain}
use Rattle.rb_machine.specs.Methods as table
use Rattle.rb_builtin.specs.Names as numbers
use Rattle.rb_builtin.specs.Deeds as spec
use Rattle.rb_builtin.proofs.Table.{by_number}
use Rattle.rb_builtin.proofs.deed.deed_of.Goals as goal

pub returns-in-Some : goal.returns-in-Some
returns-in-Some c =
    IfOk-weaker c.deed_by_number.result (λ d. spec.answer_of d ≡ spec.answer_by_number c.args.program.now (plain c.args.receiver.now) c.in-Some.method (map plain c.args.args.now) c.args.block)
    (λ d. (name : List ℕ) → numbers.builtin_of name ≡ c.args.method → spec.answer_of d ≡ table.deed c.args.program.now (plain c.args.receiver.now) name (map plain c.args.args.now) c.args.block)
    (λ d e name n. e ∙ by_number c.args.program.now (plain c.args.receiver.now) name c.in-Some.method (map plain c.args.args.now) c.args.block (n ∙ c.in-Some.is)) c.deed_by_number.ensures
