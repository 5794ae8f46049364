use Rattle.rb_checker.proofs.Finding.{found_both}
use Rattle.rb_checker.proofs.found.Found.and.Goals as goal

pub returns : goal.returns
returns c = λ a b e l. found_both c.args.self c.args.later _ a b e l c.first_of_two.ensures c.first_of_two-2.ensures c.first_of_two-3.ensures c.first_of_two-4.ensures
