use Rattle.rb_render.proofs.draft.ways.way_of.Goals as goal

pub returns-in-Ref-value : goal.returns-in-Ref-value
returns-in-Ref-value c = rw (c.in-Lined.is, c.in-Ref-value.is) c.lined_way.ensures
