-- The whole run, from what the main thread knows at its end.
use Rattle.std.proofs.Common.{ℕ, List, Option}
use Rattle.rb_tree.specs.declared.node.Program.{Program}
use Rattle.shape_core.specs.Shape.{Shape}
use Rattle.rb_model.specs.Ends.{End as Ending}
use Rattle.rb_machine.specs.Scopes.{Script}
use Rattle.rb_resolver.specs.Names.{script_of}
use Rattle.rb_shared.specs.History.{History, IsLegal}
use Rattle.rb_shared.specs.Closing.{Shows, Written}
use Rattle.rb_shared.specs.View.{View, known_logs}
use Rattle.rb_thread.specs.Family.{Main, start_of}
use Rattle.rb_thread.specs.Alive.{Left}
use Rattle.thread_run.specs.Run.{EachFollows, IsRunOf}
use Rattle.thread_run.proofs.Telling.{each_follows, ends_with, main_ends}
use Rattle.thread_run.proofs.Single.{is_alone, keeps_to_itself}
use Rattle.thread_run.proofs.Blames.{HaveCauses, ends_come_from_somewhere}

-- each thread that does what the reference thread does ends so, and its end has its cause
have_causes : (slots : ℕ) (S : Script) (N : ℕ) (h : History) (l : IsLegal slots h) → EachFollows S N h → HaveCauses slots h l
have_causes slots S N h l f n p at = let d = f n p at in (d.2.how, ends_with S N (start_of S N d.0) p.log d.2.how d.2.store d.2.follows, d.2.cause)

pub is_run : (program : Program) (N slots : ℕ) (old new : Option (List ℕ)) (v : View) (h : History) (how : Ending) (shapes : List Shape) → Left (script_of program) N Main shapes v how
    → IsLegal slots h → Shows h (known_logs v) → Written old new h → IsRunOf program N slots old new h how shapes
is_run program N slots old new v h how shapes left l s w =
    let follows = each_follows slots (script_of program) N v h left.ran l s in
    let main = main_ends (script_of program) N v h how shapes left s in record {
      legal = l;
      follows = follows;
      main = main;
      written = w;
      cause = λ words. ends_come_from_somewhere slots h l (have_causes slots (script_of program) N h l follows) 0 main.thread how words main.first main.ends;
      alone = is_alone program N slots h how shapes l main;
      own = keeps_to_itself program N slots h how shapes l main;
    }
