use Rattle.std.proofs.Common.{◌≡◌, ◌∷◌, sym, subst}
use Rattle.shape_core.specs.declared.edge.Edge.{Edge}
use Rattle.shape_core.specs.Path.{places_of}
use Rattle.shape_intern.proofs.words.places_behind.Goals as goal

pub returns-in-Share : goal.returns-in-Share
returns-in-Share c = λ path is. subst (λ (e : Edge). c.args.places ≡ places_of (e ∷ path)) (sym c.in-Share.is) is
