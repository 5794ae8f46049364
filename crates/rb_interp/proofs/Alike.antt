-- A walker that was put together again: its fields are as they were, whatever proves that no more steps are left than there were.
use Rattle.std.proofs.Common.{◌≡◌, ap}
use Rattle.rb_model.specs.declared.store.ThreadStore.{Ghosts}
use Rattle.rb_interp.specs.declared.walker.Walker.{Walker}

abbrev pub Alike : {O : Type 0} {g : Ghosts O} → Walker O g → Walker O g → Type 0
Alike s t = (s.base ≡ t.base) × (s.context ≡ t.context) × (s.left ≡ t.left) × (s.store ≡ t.store)

pub alike : {O : Type 0} {g : Ghosts O} (s t : Walker O g) → s ≡ t → Alike s t
alike s t e = (ap (λ w. w.base) e, ap (λ w. w.context) e, ap (λ w. w.left) e, ap (λ w. w.store) e)
