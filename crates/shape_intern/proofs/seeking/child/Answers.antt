use Rattle.shape_intern.proofs.seeking.child.Goals as goal

pub returns-in-Found : goal.returns-in-Found
returns-in-Found g c = record {
  of = c.in-Found.ensures.of;
  learns = c.in-Found.ensures.learns;
  found = λ shape kn. c.in-Found.ensures.sought shape kn;
  missing = λ is. absurd (cc);
}

pub returns-in-Missing : goal.returns-in-Missing
returns-in-Missing g c = record {
  of = c.in-Missing.ensures.of;
  learns = c.in-Missing.ensures.learns;
  found = tt;
  missing = λ is shape kn. (c.in-Missing.ensures.sought shape kn).0;
}
