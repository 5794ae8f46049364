-- The rule of the turn word and its slot, and what each step tells.
use Rattle.std.specs.Prelude.{◌≡◌, ◌≢◌, ◌⊎◌, ℕ, true, false, List, [], ◌∷◌, Some, None}
use mathlib.Core.Option.{some, none}
use lib.ListN.{get_elem?}
use Rattle.atomic_table.specs.Table.{State, Me, rest}
use Rattle.rb_model.specs.declared.value.Ref.{Ref}
use Rattle.rb_model.specs.Log.{Call, Entry}
use Rattle.rb_model.specs.Private.{Item}
use Rattle.rb_shared.specs.History.{History, by}
use Rattle.rb_shared.specs.Lists.{Each}
use Rattle.rb_shared.specs.Step.{Steps}
use Rattle.rb_shared.specs.Store.{Store}
use Rattle.rb_shared.specs.View.{View, with_entry, with_refused}
use Rattle.turn_store.specs.Holding.{Found, Holder, with_found, with_view, released}
use Rattle.shared_run.specs.Closing.{ShowsRun}
use Rattle.shared_run.specs.Run.{Run, Sunk, SinkDid, SinkRefused, IsNote, IsRun, Knows, MayEnter, Stands}
use Rattle.shared_run.specs.Standing.{NamesHeld}

-- no words in use and asked for are more than there are
abbrev pub Never : ℕ → ℕ → Type 0
Never used wanted = ⊥

abbrev pub At : List Holder → ℕ → Holder → Type 0
At holders j k = get_elem? holders j ≡ some k

-- the pass of a thread is this seat's, or is to be split off it
abbrev pub Claims : Holder → ℕ → Type 0
Claims k n = (k.live ≡ true) × ((k.view.thread ≡ n) ⊎ (k.view.unsplit ≡ Some n))

-- no thread is two seats'
abbrev pub Apart : List Holder → Type 0
Apart holders = (i j n : ℕ) (k l : Holder) → At holders i k → At holders j l → Claims k n → Claims l n → i ≡ j

abbrev pub KnowAll : ℕ → Run → List Holder → Type 0
KnowAll slots run holders = (j : ℕ) (k : Holder) → At holders j k → k.live ≡ true → Knows slots run k.view

abbrev pub ShowAll : Run → List Holder → Type 0
ShowAll run holders = (j : ℕ) (k : Holder) → At holders j k → (h : History) → k.front ≡ Some h → ShowsRun run h

-- what is known of a store that was found, by the pass that found it
abbrev pub Known : ℕ → View → Store → Type 0
Known slots v z = (run : Run) × (run.store ≡ z) × IsRun slots run × Knows slots run v

module _ {S : Type 0} (store_of : S → Store) (sink_of : S → Sunk) where
  abbrev pub found_in : S → Found
  found_in y = record { store = store_of y; sink = sink_of y }

  -- what was found stands for the run
  abbrev pub IsOf : Sunk → Run → Found → Type 0
  IsOf begun run f = (f.store ≡ run.store) × Stands Never begun run.events run.refusals f.sink

  -- the turn is free, and the slot stands for the run
  pub record Free (begun : Sunk) (run : Run) (s : State S Holder) : Type 0 where
    pub word : s.words ≡ 0 ∷ []
    pub value : S
    pub home : s.homes ≡ some value ∷ []
    pub is_of : IsOf begun run (found_in value)
    pub none_holds : (j : ℕ) (k : Holder) → At s.views j k → k.holding ≡ None

  -- one seat, whose thread goes on, has the turn, and what it found stands for the run
  pub record Taken (begun : Sunk) (run : Run) (s : State S Holder) : Type 0 where
    pub word : s.words ≡ 1 ∷ []
    pub home : s.homes ≡ none ∷ []
    pub holder : ℕ
    pub who : Holder
    pub there : At s.views holder who
    pub live : who.live ≡ true
    pub going : who.view.ended ≡ false
    pub what : Found
    pub holds : who.holding ≡ Some what
    pub is_of : IsOf begun run what
    pub others : (j : ℕ) (k : Holder) → j ≢ holder → At s.views j k → k.holding ≡ None

  pub record Kept (slots : ℕ) (begun : Sunk) (s : State S Holder) : Type 0 where
    pub run : Run
    pub is_run : IsRun slots run
    pub knows : KnowAll slots run s.views
    pub shows : ShowAll run s.views
    pub apart : Apart s.views
    pub turn : Free begun run s ⊎ Taken begun run s

  -- The turn was taken where the word was 0, and then the slot is in hand.
  abbrev pub Takes : ℕ → Me S Holder → ℕ → Me S Holder → Type 0
  Takes slots m n m' =
      (n ≡ 0 → (y : S) × (m' ≡ (with_found m.0 (Some (found_in y)), (0, y) ∷ m.1)) × Known slots m.0.view (store_of y))
      × (n ≢ 0 → m' ≡ m)

  -- the seat has the turn: it has the slot in hand, and knows what it found there
  abbrev pub HasTurn : Holder → Me S Holder → (S → Type 0) → Type 0
  HasTurn k m P = (y : S) × (m ≡ (with_found k (Some (found_in y)), (0, y) ∷ [])) × P y

  -- and of that it knows what the rule says
  abbrev pub TookTurn : ℕ → Holder → Me S Holder → Type 0
  TookTurn slots k m = HasTurn k m (λ y. Known slots k.view (store_of y))

module _ {S : Type 0} where
  -- the turn is given back with an entry, which tells references
  abbrev pub Makes : Entry → List Ref → Me S Holder → Me S Holder → Type 0
  Makes e refs m m' = m' ≡ (released m.0 (with_entry m.0.view e refs), rest m.1)

  -- with the refusal of a call
  abbrev pub Refuses : Call → List Item → Me S Holder → Me S Holder → Type 0
  Refuses call moved m m' = m' ≡ (released m.0 (with_refused m.0.view call moved None), rest m.1)

  -- with neither
  abbrev pub GivesUp : View → Me S Holder → Me S Holder → Type 0
  GivesUp v m m' = m' ≡ (released m.0 v, rest m.1)

  -- a view is noted, whoever has the turn
  abbrev pub Noted : View → Me S Holder → Me S Holder → Type 0
  Noted v m m' = m' ≡ (with_view m.0 v, m.1)

  abbrev pub InHand : Me S Holder → (S → Type 0) → Type 0
  InHand m P = (y : S) × (m.1 ≡ (0, y) ∷ []) × P y

  -- a live seat that has nothing in hand
  abbrev pub IsAtRest : Me S Holder → Type 0
  IsAtRest m = (m.1 ≡ []) × (m.0.holding ≡ None) × (m.0.live ≡ true)

module _ {S : Type 0} (store_of : S → Store) (sink_of : S → Sunk) where
  -- a slot is what an entry of thread t makes of what was found, and has the things that these references name
  abbrev pub IsMade : ℕ → ℕ → Entry → List Ref → Found → S → Type 0
  IsMade slots t e refs f y = Steps slots f.store t e (store_of y) × Each (NamesHeld (store_of y)) refs × SinkDid e.call f.sink (sink_of y)

  -- what is in hand is what the entry makes of what was found
  abbrev pub MayMake : Entry → List Ref → ℕ → Me S Holder → Type 0
  MayMake e refs slots m = (f : Found) × (m.0.holding ≡ Some f) × MayEnter m.0.view f.store e × InHand m (IsMade slots m.0.view.thread e refs f)

  -- what is in hand is what was found, but for the sink, which refused the call
  abbrev pub MayRefuse : Call → Me S Holder → Type 0
  MayRefuse call m = (f : Found) × (m.0.holding ≡ Some f) × InHand m (λ y. (store_of y ≡ f.store) × SinkRefused call f.sink (sink_of y))

  -- what is in hand is what was found
  abbrev pub MayGiveUp : View → Me S Holder → Type 0
  MayGiveUp v m = (f : Found) × (m.0.holding ≡ Some f) × IsNote m.0.view v × InHand m (λ y. (store_of y ≡ f.store) × (sink_of y ≡ f.sink))
