use Rattle.std.proofs.Common.{arith, ◌∙◌, length}
use Rattle.shape_tree.proofs.Indexed.{leads_nowhere, leads_within, leads_here, leads_on, steps_on}
use Rattle.shape_tree.proofs.index.Index.find.Goals as goal

pub returns-then-place-places-clause-newest : goal.returns-then-place-places-clause-newest
returns-then-place-places-clause-newest c =
    leads_here c.args.slots.now c.args.name c.args.places c.loop-at.at c.in-Some.place c.in-Some.is c.loop-at.invariant c.if-place-places.true

pub index-at-requires : goal.index-at-requires
index-at-requires c =
    omega (arith, leads_within c.args.slots.now c.args.name c.args.places c.loop-at.at c.in-Some.place c.in-Some.is c.loop-at.invariant, c.requires.index.long, c.args.self.now.earlier.ok.0)

pub loop-at-smaller : goal.loop-at-smaller
loop-at-smaller c =
    steps_on c.args.slots.now c.args.name c.args.places c.loop-at.at c.in-Some.place c.in-Some.is c.loop-at.invariant _ _ _
    c.requires.index c.index-at.ensures c.if-place-places.false

pub loop-at-preserved : goal.loop-at-preserved
loop-at-preserved c =
    leads_on c.args.slots.now c.args.name c.args.places c.loop-at.at c.in-Some.place c.in-Some.is c.loop-at.invariant _ _ _
    c.requires.index c.index-at.ensures c.if-place-places.false

pub loop-at-init : goal.loop-at-init
loop-at-init c = record {
  bound = length c.args.slots.now;
  above = c.requires.within;
  within = omega arith;
  is = c.copied-at.ensures ∙ c.get.ensures.value ∙ c.requires.index.newest c.args.name.0;
}

pub returns-clause-newest : goal.returns-clause-newest
returns-clause-newest c = leads_nowhere c.args.slots.now c.args.name c.args.places c.loop-at.at c.in_default.is c.loop-at.invariant
