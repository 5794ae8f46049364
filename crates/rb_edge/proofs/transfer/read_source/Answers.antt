use Rattle.std.proofs.Common.{◌≡◌, arith, length, take, drop, ◌++◌, length-append, ◌∙◌, ap, subst}
use Rattle.std.proofs.lemmas.List.{length-take}
use Rattle.rb_edge.specs.declared.traits.Read.TheVariants.{Got, End}
use Rattle.rb_edge.specs.Edge.{Reads}
use Rattle.rb_edge.proofs.Turns.{Reads-fits, TakenOf-more, ReadOf-end, ReadOf-nothing_got, ReadOf-full}
use Rattle.rb_edge.proofs.transfer.read_source.Goals as goal

pub turns-preserved : goal.turns-preserved
turns-preserved g c =
    let held = g.F.Files.held c.args.files.now c.args.path.now in
    let bytes = c.turns.bytes.items in
    let n = c.in-Got.count in
    let offered = take c.min-wanted.result c.turns.room in
    let room = c.read.new.room ++ drop c.min-wanted.result c.turns.room in
    let place = c.len-in-turns-2.ensures ∙ c.turns.bytes.ok.0 in
    let got = subst (λ h. Reads h c.len-in-turns-2.result (length offered) c.read.new.room (Got n)) (c.turns.invariant.kept c.args.path.now) c.in-Got.ensures.reads in
    let size : length offered ≡ length c.read.new.room = omega (arith, c.read.auto.room) in
    let fits = Reads-fits held _ _ _ _ got in
    record {
      short = omega (arith, fits, length-take c.min-wanted.result c.turns.room, ap length c.in-Ok.ensures.items, length-append bytes (take n room), length-take n room, c.min-wanted.ensures, c.len-in-turns.ensures, c.turns.bytes.ok.0);
      taken = TakenOf-more held bytes _ c.read.new.room _ c.len-in-turns-2.result _ n c.turns.invariant.taken place size got c.in-Ok.ensures.items;
      kept = λ p. c.in-Got.ensures.held p ∙ c.turns.invariant.kept p;
      rises = omega (arith, c.in-Got.ensures.rises);
    }

pub returns-in-Got-eq0-clause-read : goal.returns-in-Got-eq0-clause-read
returns-in-Got-eq0-clause-read g c =
    let held = g.F.Files.held c.args.files.now c.args.path.now in
    let n = c.in-Got-eq0.field-0 in
    let offered = take c.min-wanted.result c.turns.room in
    let place = c.len-in-turns-2.ensures ∙ c.turns.bytes.ok.0 in
    let got = subst (λ h. Reads h c.len-in-turns-2.result (length offered) c.read.new.room (Got n)) (c.turns.invariant.kept c.args.path.now) c.in-Got-eq0.ensures.reads in
    ReadOf-nothing_got held _ _ _ _ n c.turns.invariant.taken place c.turns.invariant.short c.in-Got-eq0.field-0-test (omega (arith, length-take c.min-wanted.result c.turns.room, c.min-wanted.ensures, c.len-in-turns.ensures, c.turns.bytes.ok.0)) got

pub returns-in-End-clause-read : goal.returns-in-End-clause-read
returns-in-End-clause-read g c =
    let held = g.F.Files.held c.args.files.now c.args.path.now in
    let offered = take c.min-wanted.result c.turns.room in
    let place = c.len-in-turns-2.ensures ∙ c.turns.bytes.ok.0 in
    let ended = subst (λ h. Reads h c.len-in-turns-2.result (length offered) c.read.new.room End) (c.turns.invariant.kept c.args.path.now) c.in-End.ensures.reads in
    ReadOf-end held _ c.read.new.room _ _ c.turns.invariant.taken place c.turns.invariant.short ended

pub returns-clause-read : goal.returns-clause-read
returns-clause-read g c = ReadOf-full _ _ c.turns.invariant.taken (omega (arith, c.len.ensures, c.turns.bytes.ok.0, c.turns-test.false)) c.turns.invariant.short
