use Rattle.rb_builder.proofs.said.Said.join.Goals as goal

pub returns-clause-ok : goal.returns-clause-ok
returns-clause-ok c = record { words = c.in_ok-append.ensures; threads = c.in_ok-append-2.ensures; bodies = c.in_ok-append-3.ensures }
