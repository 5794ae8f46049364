-- What is found of the words.
use Rattle.std.proofs.Common.{◌≡◌, Option, Some, sym, ap, ◌∙◌}
use Rattle.std.specs.Option.{option_map}
use Rattle.rb_command.specs.Words as asked
use Rattle.rb_command.specs.Words.{Wanted}
use Rattle.rb_command.specs.Seen.{run_seen, work_seen, seen}
use Rattle.rb_command.specs.declared.told.WorkWords.{WorkWords}
use Rattle.rb_command.specs.declared.words.RunWords.{RunWords}
use Rattle.rb_command.specs.declared.words.Command.{Command}
use Rattle.rb_command.specs.declared.words.Command.TheVariants.{Run, Shapes, Work}

module _ (found : Option Command) (words : RunWords) (wanted : Option Wanted) (told : option_map seen found ≡ wanted) (ask : asked.Run) where
  -- the words of a command that is found are those of the command that is wanted
  pub same_run : found ≡ Some (Run words) → wanted ≡ Some (asked.run ask) → run_seen words ≡ ask
  same_run is want = let e : Some (asked.run (run_seen words)) ≡ Some (asked.run ask) = sym (ap (option_map seen) is) ∙ (told ∙ want) in cc

  pub same_shapes : found ≡ Some (Shapes words) → wanted ≡ Some (asked.shapes ask) → run_seen words ≡ ask
  same_shapes is want = let e : Some (asked.shapes (run_seen words)) ≡ Some (asked.shapes ask) = sym (ap (option_map seen) is) ∙ (told ∙ want) in cc

pub same_work : (found : Option Command) (words : WorkWords) (wanted : Option Wanted) (ask : asked.Work) → option_map seen found ≡ wanted
    → found ≡ Some (Work words) → wanted ≡ Some (asked.work ask) → work_seen words ≡ ask
same_work found words wanted ask told is want = let e : Some (asked.work (work_seen words)) ≡ Some (asked.work ask) = sym (ap (option_map seen) is) ∙ (told ∙ want) in cc
