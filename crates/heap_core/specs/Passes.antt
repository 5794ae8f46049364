-- A pass and its heap, as contracts see them.
use Rattle.std.specs.Prelude.{◌≡◌, ◌≤◌, ℕ, ◌+◌, ◌-◌, true, List, [], ◌∷◌, IfSome}
use Rattle.atomic_table.specs.Table.{Step, Me}
use Rattle.rb_model.specs.Log.{asked}
use Rattle.rb_model.specs.Moving.{items_of}
use Rattle.heap_core.specs.declared.act.Act.{Act}
use Rattle.heap_core.specs.Places.{opening_words}
use Rattle.heap_core.specs.Blocks.{Block, Inside, place_of, size_of}
use Rattle.heap_core.specs.Fixed.{fixed_word}
use Rattle.heap_core.specs.View.{EndBy, Holder, Knows, spent_holder}
use Rattle.heap_core.specs.Room.{Asking, OwnIs}

abbrev pub holder_of : List Holder → Holder
holder_of [] = spent_holder
holder_of (k ∷ ks) = k

-- What a pass keeps: it is live, and what it owns and can name lies in the heap, which has so many words.
pub record Fits (k : Holder) (words : ℕ) : Type 0 where
  pub live : k.live ≡ true
  pub size : k.size ≡ words
  pub opening : opening_words ≤ words
  pub own : EndBy k.own words
  pub blocks : (b : Block) → Knows k b → place_of b + size_of b ≤ words

abbrev pub IsPass : List Holder → ℕ → Type 0
IsPass ks words = (ks ≡ holder_of ks ∷ []) × Fits (holder_of ks) words

-- the call of an act, with what moves with it
abbrev pub asking : Act → Asking
asking a = record { call = asked a.call.now; moved = items_of a.moved.now }

-- the word of a known block that never changes is what it always is
abbrev pub FixedIs : Holder → ℕ → ℕ → Type 0
FixedIs k i n = (b : Block) → Knows k b → Inside i b → IfSome (fixed_word b (i - place_of b)) (λ x. n ≡ x)

abbrev pub FixedLoads : {S : Type 0} → Step S → Me S Holder → ℕ → Me S Holder → Type 0
FixedLoads st m n m' = FixedIs m.0 st.word n × (m' ≡ m)

-- a word that stays as it is: one of the pass's own is what its region has there, and one that never changes is what it always is
abbrev pub StillLoads : {S : Type 0} → Step S → Me S Holder → ℕ → Me S Holder → Type 0
StillLoads st m n m' = OwnIs m.0 st.word n × FixedLoads st m n m'
