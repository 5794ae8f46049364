use Rattle.rb_prog.proofs.shapes.+add_names.Given as goal

abbrev pub decreases-add_names : goal.decreases-add_names
decreases-add_names l = l.named.0
