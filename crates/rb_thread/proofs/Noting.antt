-- References that are noted.
use Rattle.std.proofs.Common.{List, [], ◌∷◌, Option, Some, None, ◌⊎◌, inl, inr}
use Rattle.rb_model.specs.declared.value.Ref.{Ref}
use Rattle.rb_shared.specs.Lists.{Has}
use Rattle.publish_barrier.specs.Known.{NotesOf, noted, with_all_noted, with_noted}
use Rattle.rb_thread.proofs.Entries.{has_cases}

-- of each that is noted it is said where it came from
pub notes_none : (rs refs : List Ref) → NotesOf rs refs rs
notes_none rs refs r h = inl h

-- one more
one_noted : (rs : List Ref) (x : Ref) (o : Option Ref) (r : Ref) → Has (with_noted rs x o) r → Has rs r ⊎ Has (x ∷ []) r
one_noted rs x None r h = has_cases rs (x ∷ []) r h
one_noted rs x (Some old) r h = inl h

-- several more
pub all_noted : (rs xs : List Ref) → NotesOf rs xs (with_all_noted rs xs)
all_noted rs [] r h = inl h
all_noted rs (x ∷ xs) r h = elim (all_noted (with_noted rs x (noted rs x.id)) xs r h) [
  | inl o ↦ elim (one_noted rs x (noted rs x.id) r o) [
    | inl k ↦ inl k
    | inr k ↦ elim k [ inl e ↦ inr (inl e) | inr e ↦ absurd e ]
  ]
  | inr o ↦ inr (inr o)
]
