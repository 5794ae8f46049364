-- What is so of all that moves while it is gathered.
use Rattle.std.specs.Prelude.{◌≡◌, ◌⊎◌, List}
use Rattle.rb_model.specs.declared.moved.MovedItem.{MovedItem}
use Rattle.rb_model.specs.declared.value.Ref.{Ref}
use Rattle.rb_model.specs.Moving.{items_of, ref_of, refs_in_moved}
use Rattle.rb_model.specs.Private.{Private, Item}
use Rattle.rb_shared.specs.Asking.{IsOwnId, MayMove, NamesOne}
use Rattle.rb_shared.specs.Lists.{Each, Has}
use Rattle.publish_barrier.specs.Gathers.{IsAddressed}
use Rattle.publish_barrier.specs.Known.{noted, with_noted}

-- a reference that was met is noted, names one of the things that move, or waits
abbrev pub IsMet : List Ref → List MovedItem → List Ref → Ref → Type 0
IsMet refs ms ws r = Has refs r ⊎ NamesOne ms r ⊎ Has ws r

-- Things of the thread of a store that are not laid yet, each as a thing that moves may be, whose references were met; and what waits is
-- noted or private.
pub record MayAllMove (h : Private) (refs : List Ref) (ms : List MovedItem) (ws : List Ref) : Type 0 where
  pub own : Each (λ (m : MovedItem). IsOwnId h.thread m.id) ms
  pub things : Each (λ (x : Item). MayMove h.thread x.thing) (items_of ms)
  pub met : Each (IsMet refs ms ws) (refs_in_moved ms)
  pub unlaid : Each (λ (m : MovedItem). m.at ≡ 0) ms
  pub waiting : Each (IsAddressed h refs) ws

-- From things that move and references that wait to others: the same still, and what was met before is met behind it.
pub record GoesOn (h : Private) (refs : List Ref) (ms : List MovedItem) (ws : List Ref) (ms' : List MovedItem) (ws' : List Ref) : Type 0 where
  pub may : MayAllMove h refs ms' ws'
  pub met : (r : Ref) → IsMet refs ms ws r → IsMet refs ms' ws' r

-- a reference to a thing that moved is noted, where none with its id is
abbrev pub NotesMoved : List Ref → MovedItem → List Ref → Type 0
NotesMoved old m new = new ≡ with_noted old (ref_of m) (noted old m.id)
