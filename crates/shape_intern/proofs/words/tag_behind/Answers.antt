use Rattle.std.proofs.Common.{◌≡◌, ◌∷◌, ◌+◌, ◌*◌, ◌/◌, sym, subst}
use Rattle.shape_core.specs.declared.edge.Edge.{Edge}
use Rattle.shape_core.specs.Path.{is_shared}
use Rattle.heap_core.specs.Shapes.{flagged}
use Rattle.shape_intern.proofs.Interns.{tag_share}
use Rattle.shape_intern.proofs.words.tag_behind.Goals as goal

pub returns-in-Share : goal.returns-in-Share
returns-in-Share c = λ class path is. subst (λ (e : Edge). c.args.tag / 8 * 8 + 1 ≡ flagged class (is_shared (e ∷ path))) (sym c.in-Share.is) (tag_share class c.args.tag (is_shared path) is)
