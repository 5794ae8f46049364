use Rattle.std.proofs.Common.{ap, refl, subst, sym}
use Rattle.std.specs.Prelude.{IsSome}
use Rattle.rb_prog.specs.Run.{as_run}
use Rattle.rb_prog.specs.Shown.{seen}
use Rattle.rb_prog.proofs.Showing.{lines_end, lines_not_full, lines_not_usage, shows_value, told_behind}
use Rattle.rb_prog.proofs.Telling.{rose_earlier}
use Rattle.rb_prog.proofs.top.show_file.Goals as goal

pub returns-in-None-clause-shows : goal.returns-in-None-clause-shows
returns-in-None-clause-shows g c =
    let ran = c.run_file-report.ensures.runs in
    (ran.0, as_run (c.run_file-report.ensures.other c.in-None.is) ran.1, ran.2)

pub returns-in-None-clause-complete : goal.returns-in-None-clause-complete
returns-in-None-clause-complete g c = c.run_file-report.ensures.complete

pub returns-in-Some-clause-shows : goal.returns-in-Some-clause-shows
returns-in-Some-clause-shows g c =
    let ran = c.run_file-report in
    let told = g.E.Sink.told in
    let faults = g.E.Sink.faults in
    let has = rw c.in-Some.is at ran.ensures.value in
    let lines = c.show_shapes.ensures.lines in
    let quiet = ran.ensures.quiet (subst IsSome (sym c.in-Some.is) refl) in (
      lines.0,
      shows_value _ _ c.args.words.steps _ _ _ c.in-Some.left.program c.in-Some.left.shapes _ _ _ lines.0 has (ap seen c.show_shapes.ensures.front) lines.1,
      told_behind (told c.args.err.now) (told ran.new.err) (told c.show_shapes.new.err) lines.0 _ _ quiet
          (rose_earlier (faults c.args.err.now) (faults ran.new.err) (faults c.show_shapes.new.err) ran.ensures.err_rises) lines.2,
    )

pub returns-in-Some-clause-not_usage : goal.returns-in-Some-clause-not_usage
returns-in-Some-clause-not_usage g c = lines_not_usage _ _ _ _ _ c.show_shapes.ensures.lines.1

pub returns-in-Some-clause-never_full : goal.returns-in-Some-clause-never_full
returns-in-Some-clause-never_full g c = lines_not_full _ _ _ _ _ c.show_shapes.ensures.lines.1

pub returns-in-Some-clause-cause : goal.returns-in-Some-clause-cause
returns-in-Some-clause-cause g c = λ five. rose_earlier _ _ _ c.run_file-report.ensures.rises (c.show_shapes.ensures.cause five)

pub returns-in-Some-clause-complete : goal.returns-in-Some-clause-complete
returns-in-Some-clause-complete g c = λ bytes program held accepted calm never.
    lines_end _ _ _ _ _ _ c.show_shapes.ensures.lines.1 (returns-in-Some-clause-cause g c) never
