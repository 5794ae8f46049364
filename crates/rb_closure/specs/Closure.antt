-- What a thread may name: the things that it holds, and those that it was told of.
use Rattle.std.specs.Prelude.{◌≡◌, ◌⊎◌, ℕ, List, [], ◌∷◌, ◌++◌, map, Some}
use Rattle.std.specs.List.{flat_map}
use Rattle.rb_model.specs.declared.value.Id.{Id}
use Rattle.rb_model.specs.Values.{Value as Val, To, Reference}
use Rattle.rb_model.specs.Acts.{Act}
use Rattle.rb_model.specs.Ends.{End}
use Rattle.rb_model.specs.Things.{Thing, mentioned}
use Rattle.rb_model.specs.Private.{Private, Item, held}
use Rattle.rb_model.specs.Log.{Log, Entry, Call, On, Gather}
use Rattle.rb_model.specs.Outside.{handed_by}
use Rattle.rb_machine.specs.Scopes.{Script}
use Rattle.rb_machine.specs.Control.{State}
use Rattle.rb_machine.specs.Call.{globals}
use Rattle.rb_machine.specs.Move.{Ask, move}
use Rattle.rb_machine.specs.Follows.{At, Follows, sort_of}
use Rattle.rb_closure.specs.Mentions.{values_in, values_in_reply}

-- this holds of each
abbrev pub Each : {X : Type 0} → (X → Type 0) → List X → Type 0
Each P [] = Unit {0}
Each P (x ∷ xs) = P x × Each P xs

-- the references among values
abbrev pub refs_in : Val → List Reference
refs_in (To r) = r ∷ []
refs_in v = []

-- ---- what is held, and what was told

-- the private store has the thing of a reference, which is of its sort
abbrev pub IsHeld : Private → Reference → Type 0
IsHeld h r = (thing : Thing) × (held h r.id ≡ Some thing) × (sort_of thing ≡ r.sort)

-- a reference is one of these
abbrev pub Among : List Reference → Reference → Type 0
Among [] r = ⊥
Among (t ∷ ts) r = (t ≡ r) ⊎ Among ts r

-- a reference to a thing that moves
abbrev pub item_reference : Item → Reference
item_reference x = record { sort = sort_of x.thing; id = x.id }

-- what an entry tells: the references of its reply, and to the things that moved with it
abbrev pub told_by : Entry → List Reference
told_by e = flat_map refs_in (values_in_reply e.reply) ++ map item_reference e.moved

-- what a thread knows as it begins: the thing of the global variables, and what its state names
abbrev pub told_first : State → List Reference
told_first start = globals ∷ flat_map refs_in (values_in start)

-- what it was told: this, and what the entries of its log told
abbrev pub told_refs : State → Log → List Reference
told_refs start l = told_first start ++ flat_map told_by l.entries

-- ---- closure

-- this holds of the reference that a value is, if it is one
abbrev pub IfReference : (Reference → Type 0) → Val → Type 0
IfReference P (To r) = P r
IfReference P v = Unit {0}

-- a reference that is held, or was told
abbrev pub Known : Private → List Reference → Reference → Type 0
Known h told r = IsHeld h r ⊎ Among told r

-- a value is covered: if it is a reference, that is held or was told
abbrev pub Covered : Private → List Reference → Val → Type 0
Covered h told v = IfReference (Known h told) v

-- each value that a private thing mentions is covered
abbrev pub IsClosedStore : Private → List Reference → Type 0
IsClosedStore h told = (id : Id) (thing : Thing) → held h id ≡ Some thing → Each (Covered h told) (mentioned thing)

-- the same of each value of the state
abbrev pub IsClosed : Private → List Reference → State → Type 0
IsClosed h told s = Each (Covered h told) (values_in s) × IsClosedStore h told

-- ---- the laws of closure

-- A thread names what it made and has, and what it was told, and nothing else: its state and its private store are closed.
abbrev pub ThreadsAreClosed : Type 0
ThreadsAreClosed = (S : Script) (N : ℕ) (start : State) (l : Log) (h : Private) (s : State) → At S N start l h s → IsClosed h (told_refs start l) s

-- each thing of which a thread asks something is one that it holds, or was told of
abbrev pub AsksAreKnown : Type 0
AsksAreKnown = (S : Script) (N : ℕ) (start : State) (l : Log) (h : Private) (s : State) (r : Reference) (act : Act)
    → At S N start l h s → move S s ≡ Ask r act → Known h (told_refs start l) r

-- ---- what entries name

-- the thing of which a call asks something was told
abbrev pub IsToldOf : List Reference → Call → Type 0
IsToldOf told (On r act) = Among told r
IsToldOf told (Gather r) = Among told r
IsToldOf told call = Unit {0}

-- a reference that was told before an entry, or to a thing that moves with it
abbrev pub IsOutside : List Reference → List Item → Reference → Type 0
IsOutside told moved r = Among told r ⊎ Among (map item_reference moved) r

-- an entry asks a thing that was told before; what it hands over is outside, and so is what the things that move with it mention
abbrev pub NamesTold : List Reference → Entry → Type 0
NamesTold told e =
    IsToldOf told e.call
    × Each (IfReference (IsOutside told e.moved)) (handed_by e.call)
    × Each (λ (x : Item). Each (IfReference (IsOutside told e.moved)) (mentioned x.thing)) e.moved

-- so does each, where those before it have told more
abbrev pub EachNamesTold : List Reference → List Entry → Type 0
EachNamesTold told [] = Unit {0}
EachNamesTold told (e ∷ es) = NamesTold told e × EachNamesTold (told ++ told_by e) es

-- So an entry brings nothing out that stays private: neither as long as a thread works, nor when it has ended.
abbrev pub EntriesNameTold : Type 0
EntriesNameTold = (S : Script) (N : ℕ) (start : State) (l : Log) (h : Private) (s : State) → At S N start l h s → EachNamesTold (told_first start) l.entries

abbrev pub WholeLogNamesTold : Type 0
WholeLogNamesTold = (S : Script) (N : ℕ) (start : State) (l : Log) (how : End) (h : Private) → Follows S N start l how h → EachNamesTold (told_first start) l.entries
