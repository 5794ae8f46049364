-- The references that a thread has noted.
use Rattle.std.specs.Prelude.{◌⊎◌, ℕ, if◌then◌else◌, List, [], ◌∷◌, ◌++◌, Option, Some, None}
use Rattle.rb_model.specs.declared.value.Id.{Id}
use Rattle.rb_model.specs.declared.value.Ref.{Ref}
use Rattle.rb_model.specs.Values.{same_id}
use Rattle.rb_shared.specs.Lists.{Has}
use Rattle.publish_barrier.specs.declared.known.Key.{Key}
use Rattle.publish_barrier.specs.declared.known.Place.{Place}

-- they, each with the place of its thing, and for how many more there is room
pub record Noted : Type 0 where
  pub refs : List Ref
  pub room : ℕ

-- the one with an id
abbrev pub noted : List Ref → Id → Option Ref
noted [] id = None
noted (r ∷ rs) id = if same_id r.id id then Some r else noted rs id

-- one more, where none with its id is there
abbrev pub with_noted : List Ref → Ref → Option Ref → List Ref
with_noted rs r None = rs ++ r ∷ []
with_noted rs r (Some old) = rs

-- these too, each where none with its id is there
abbrev pub with_all_noted : List Ref → List Ref → List Ref
with_all_noted rs [] = rs
with_all_noted rs (x ∷ xs) = with_all_noted (with_noted rs x (noted rs x.id)) xs

-- an id, with the sort and the place of its thing
abbrev pub ref_of_row : Key × Place → Ref
ref_of_row row = record { sort = row.1.sort; id = record { thread = row.0.thread; serial = row.0.serial }; at = row.1.at }

-- of each that is there now, it was there before or is one of these
abbrev pub NotesOf : (old refs new : List Ref) → Type 0
NotesOf old refs new = (r : Ref) → Has new r → Has old r ⊎ Has refs r
