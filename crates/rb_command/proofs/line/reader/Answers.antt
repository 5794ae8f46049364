use Rattle.std.proofs.Common.{rules, ◌≡◌, ◌∙◌, ap₂}
use Rattle.std.proofs.lemmas.Result.{IfOk-weaker}
use Rattle.clap.specs.Words.{app_of, rule_of, with_rule}
use Rattle.rb_command.specs.Words.{steps, heap_words}
use Rattle.rb_command.specs.Reader.{bare, file_given, option_given}
use Rattle.rb_command.proofs.Reader.{bare_command}
use Rattle.rb_command.proofs.line.reader.Goals as goal

pub returns : goal.returns
returns c =
    let file_is : rule_of c.action-file.result ≡ file_given = search rules in
    let steps_is : rule_of c.action-steps.result ≡ option_given steps = search rules in
    let heap_words_is : rule_of c.action-heap_words.result ≡ option_given heap_words = search rules in
    let bare_is : app_of c.disable_help_flag.result ≡ bare =
    bare_command c.new-4.result c.no_binary_name.result c.disable_help_flag.result c.new-4.ensures.app c.no_binary_name.ensures c.disable_help_flag.ensures in
    let with_file : app_of c.in_ok-arg.field-0 ≡ with_rule bare file_given = c.in_ok-arg.ensures.shape (search rules) ∙ ap₂ with_rule bare_is file_is in
    let with_steps : app_of c.in_ok-arg-2.field-0 ≡ with_rule (with_rule bare file_given) (option_given steps) =
    c.in_ok-arg-2.ensures.shape (search rules) ∙ ap₂ with_rule with_file steps_is in
    IfOk-weaker c.arg-3.result _ _ (λ command added. added.shape (search rules) ∙ ap₂ with_rule with_steps heap_words_is) c.arg-3.ensures
