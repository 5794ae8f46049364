use Rattle.std.proofs.Common.{◌∙◌, ap, sym}
use Rattle.rb_model.specs.Immediates.{told}
use Rattle.local_heap.proofs.Reading.{text_untold}
use Rattle.local_heap.proofs.cells.Cells.told_at.Goals as goal

pub returns-in-Ok : goal.returns-in-Ok
returns-in-Ok g c = c.immediate_of.ensures ∙ ap told c.in-Ok.ensures.value

pub returns-in-Err : goal.returns-in-Err
returns-in-Err g c = sym (text_untold _ c.in-Err.ensures.refused)
