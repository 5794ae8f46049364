-- What the steps on the used word and on own words tell, and what taking words answers.
use Rattle.std.specs.Prelude.{◌≡◌, ◌≢◌, ◌≤◌, ◌<◌, ◌-◌, ℕ, ◌+◌, List, length, get_or, Option, Some, None}
use Rattle.atomic_table.specs.Table.{Step, Me}
use Rattle.rb_model.specs.Log.{Call}
use Rattle.rb_model.specs.Private.{Item}
use Rattle.heap_core.specs.declared.take.Take.{Take}
use Rattle.heap_core.specs.declared.take.Take.TheVariants.{Got, Full}
use Rattle.heap_core.specs.Places.{opening_words}
use Rattle.rb_shared.specs.Lists.{Has}
use Rattle.heap_core.specs.View.{Holder, Region, InRegion, EndBy, with_full, with_region, with_stored}

-- A call with the things that move with it, which is refused where there is no room.
pub record Asking : Type 0 where
  pub call : Call
  pub moved : List Item

-- the refusal of a call, where words were asked for one
abbrev pub refusing : Holder → Option Asking → ℕ → ℕ → Holder
refusing k None used wanted = k
refusing k (Some a) used wanted = with_full k a.call a.moved used wanted

-- the used words are those of the opening at least, and those that the pass owns; they are no more than there are
abbrev pub AreUsed : Holder → ℕ → Type 0
AreUsed k n = (opening_words ≤ n) × EndBy k.own n × (n ≤ k.size)

-- a word is what the pass's own region has there
abbrev pub OwnIs : Holder → ℕ → ℕ → Type 0
OwnIs k i n = (o : Region) → Has k.own o → InRegion i o → n ≡ get_or o.words (i - o.at) 0

module _ {S : Type 0} where
  -- the used word was loaded: where there is no room for so many words, the call is refused
  abbrev pub Looks : Option Asking → ℕ → Me S Holder → ℕ → Me S Holder → Type 0
  Looks a wanted m n m' = AreUsed m.0 n × (n + wanted ≤ m.0.size → m' ≡ m) × (m.0.size < n + wanted → m' ≡ (refusing m.0 a n wanted, m.1))

  -- the used word went from the first number to the second: the words between are the pass's own
  abbrev pub Takes : Step S → Me S Holder → ℕ → Me S Holder → Type 0
  Takes st m n m' = (n ≡ st.first → (ws : List ℕ) × (st.first + length ws ≡ st.second) × (m' ≡ (with_region m.0 st.first ws, m.1))) × (n ≢ st.first → m' ≡ m)

  abbrev pub OwnLoads : Step S → Me S Holder → ℕ → Me S Holder → Type 0
  OwnLoads st m n m' = OwnIs m.0 st.word n × (m' ≡ m)

  abbrev pub OwnStores : Step S → Me S Holder → ℕ → Me S Holder → Type 0
  OwnStores st m n m' = m' ≡ (with_stored m.0 st.word st.first, m.1)

-- What taking words leaves of a seat. Got: so many words from a place on, behind all that it owned, are the pass's own. Full: the used words and those that are wanted
-- are more than the heap has, and the call is refused with these two numbers.
abbrev pub Took : Option Asking → ℕ → Take → Holder → Holder → Type 0
Took a wanted (Got at) k k' = (opening_words ≤ at) × EndBy k.own at × (at + wanted ≤ k.size) × ((ws : List ℕ) × (length ws ≡ wanted) × (k' ≡ with_region k at ws))
Took a wanted (Full used) k k' = AreUsed k used × (k.size < used + wanted) × (k' ≡ refusing k a used wanted)

abbrev pub Tried : Option Asking → ℕ → Option Take → Holder → Holder → Type 0
Tried a wanted (Some t) k k' = Took a wanted t k k'
Tried a wanted None k k' = k' ≡ k
