use Rattle.std.proofs.Common.{◌≡◌, take}
use Rattle.std.specs.Prelude.{map}
use Rattle.rb_grammar.specs.Scope.{with_params}
use Rattle.rb_cursor.specs.Word.{word_by}
use Rattle.rb_steps.proofs.params.add_params.Given as goal

abbrev pub invariant-params : goal.invariant-params
invariant-params l = l.cursor ≡ record l.fn.cursor { scope = with_params (map word_by (take l.param-index l.params)) l.fn.cursor.scope }
