-- The texts of collections, told by what these hold: as `inspect` gives them, and as `puts` writes an array.
use Rattle.std.specs.Prelude.{◌≡◌, ◌<◌, ◌≤◌, ◌⊎◌, ℕ, zero, suc, ◌+◌, Bool, true, false, ◌&&◌, ◌||◌, if◌then◌else◌, List, [], ◌∷◌, ◌++◌, length, Option, Some, is_none, codes}
use Rattle.std.specs.List.{list_all, flat_map, join_by}
use Rattle.rb_tree.specs.declared.span.Span.{Span}
use Rattle.rb_model.specs.declared.fault.Fault.TheVariants.{TextTooLong}
use Rattle.rb_model.specs.declared.value.Id.{Id}
use Rattle.rb_model.specs.declared.value.Sort.{Sort}
use Rattle.rb_model.specs.declared.value.Sort.TheVariants as sort
use Rattle.rb_model.specs.Values.{Value, Nil, Str, To, Reference, same_id}
use Rattle.rb_model.specs.Acts.{Copy}
use Rattle.rb_model.specs.Things.{Thing, Elements, Pairs, gives}
use Rattle.rb_model.specs.Ends.{Steps}
use Rattle.rb_model.specs.Private.{Private, held}
use Rattle.rb_model.specs.Log.{Log}
use Rattle.rb_machine.specs.Scopes.{Script, Scope, Text}
use Rattle.rb_machine.specs.Control.{State, On, Cont, Give, Drafting, Instead, Inspected, max_depth}
use Rattle.rb_machine.specs.Texts.{max_bytes, inspected, shown, line_of}
use Rattle.rb_machine.specs.Drafts.{is_collection_sort, is_collection, is_list_sort, draft_of}
use Rattle.rb_machine.specs.Call.{ended, raised, own_text, give_text, show, value_of_p, print}
use Rattle.rb_machine.specs.Move.{Go, Ask, move, replied}
use Rattle.rb_machine.specs.Follows.{At}
use Rattle.rb_machine.specs.Alone.{Runs}

-- ---- what stands inside what

-- A value as it stands inside collections: one of these again, which so stands inside itself; another collection, which is told by what it
-- holds; or a value that is told by itself.
pub data Part : Type 0 where
  Single : (value : Value) → Part
  Again : (thing : Reference) → Part
  Whole : (thing : Reference) → Part

abbrev pub is_among : Reference → List Reference → Bool
is_among thing [] = false
is_among thing (r ∷ rs) = same_id thing.id r.id || is_among thing rs

abbrev pub thing_part : (is_told_by_content is_inside_itself : Bool) → Reference → Part
thing_part false inside thing = Single (To thing)
thing_part true false thing = Whole thing
thing_part true true thing = Again thing

-- `inspect` tells arrays and hashes by what they hold,
abbrev pub inspected_part : List Reference → Value → Part
inspected_part inside (To thing) = thing_part (is_collection_sort thing.sort) (is_among thing inside) thing
inspected_part inside v = Single v

-- and `puts` arrays alone
abbrev pub lined_part : List Reference → Value → Part
lined_part inside (To thing) = thing_part (is_list_sort thing.sort) (is_among thing inside) thing
lined_part inside v = Single v

-- ---- what holds of a collection, by what holds of its values

-- one step for each, and those of its own text
abbrev pub one_for_each : {X : Type 0} → (X → ℕ) → List X → ℕ
one_for_each steps [] = 0
one_for_each steps (x ∷ xs) = suc (steps x) + one_for_each steps xs

abbrev pub collection_steps : (Value → ℕ) → Option Thing → ℕ
collection_steps steps (Some (Elements vs)) = one_for_each steps vs
collection_steps steps (Some (Pairs ps)) = one_for_each (λ (p : Value × Value). steps p.1) ps
collection_steps steps other = 0

-- whether it is there, and each value in it passes
abbrev pub collection_fits : (Value → Bool) → Option Thing → Bool
collection_fits fits (Some (Elements vs)) = list_all fits vs
collection_fits fits (Some (Pairs ps)) = list_all (λ (p : Value × Value). fits p.1) ps
collection_fits fits other = false

abbrev pub array_fits : (Value → Bool) → Option Thing → Bool
array_fits fits (Some (Elements vs)) = list_all fits vs
array_fits fits other = false

abbrev pub part_steps : (Reference → ℕ) → Part → ℕ
part_steps whole (Whole thing) = whole thing
part_steps whole other = 0

abbrev pub part_fits : (Reference → Bool) → Part → Bool
part_fits whole (Whole thing) = whole thing
part_fits whole other = true

-- what tells a collection that stands inside itself
abbrev pub dots : Sort → Text
dots sort.Pairs = codes "{...}"
dots other = codes "[...]"

-- What `puts` writes of an array, by the lines of its elements. One that holds nothing is a line feed, but nothing inside another.
abbrev pub empty_text : List Reference → Text
empty_text [] = codes "\n"
empty_text (thing ∷ inside) = []

abbrev pub array_lines : List Reference → (Value → Text) → Option Thing → Text
array_lines inside lines (Some (Elements [])) = empty_text inside
array_lines inside lines (Some (Elements (v ∷ vs))) = flat_map lines (v ∷ vs)
array_lines inside lines other = []

-- A script is run, and things hold something, by their ids. What is told below of a value stands inside some collections, and no more than
-- so many others are told inside each other in it.
module _ (S : Script) (holds : Id → Option Thing) where
  -- ---- as `inspect` gives it

  -- a key is no collection
  abbrev pub pair_text : (Value → Text) → Value × Value → Text
  pair_text text pair = inspected S.program pair.0 ++ codes "=>" ++ text pair.1

  -- `[a, b]` and `{k=>v, k=>v}`
  abbrev pub collection_text : (Value → Text) → Option Thing → Text
  collection_text text (Some (Elements vs)) = codes "[" ++ join_by text (codes ", ") vs ++ codes "]"
  collection_text text (Some (Pairs ps)) = codes "{" ++ join_by (pair_text text) (codes ", ") ps ++ codes "}"
  collection_text text other = []

  abbrev pub part_text : (Reference → Text) → Part → Text
  part_text whole (Single v) = inspected S.program v
  part_text whole (Again thing) = dots thing.sort
  part_text whole (Whole thing) = whole thing

  -- the inspected form of a value
  abbrev pub text_inside : (deep : ℕ) → List Reference → Value → Text
  text_inside zero inside v = part_text (λ thing. []) (inspected_part inside v)
  text_inside (suc deep) inside v = part_text (λ thing. collection_text (text_inside deep (thing ∷ inside)) (holds thing.id)) (inspected_part inside v)

  -- how many elements and pairs it has
  abbrev pub steps_inside : (deep : ℕ) → List Reference → Value → ℕ
  steps_inside zero inside v = part_steps (λ thing. 0) (inspected_part inside v)
  steps_inside (suc deep) inside v = part_steps (λ thing. collection_steps (steps_inside deep (thing ∷ inside)) (holds thing.id)) (inspected_part inside v)

  -- whether no more collections are told inside each other, and each is there
  abbrev pub fits_inside : (deep : ℕ) → List Reference → Value → Bool
  fits_inside zero inside v = part_fits (λ thing. false) (inspected_part inside v)
  fits_inside (suc deep) inside v = part_fits (λ thing. collection_fits (fits_inside deep (thing ∷ inside)) (holds thing.id)) (inspected_part inside v)

  -- ---- as a literal and `print` have it, and line by line as `puts` does

  -- the text of a value: of a collection the inspected form
  abbrev pub value_text : (deep : ℕ) → Value → Text
  value_text deep v = if is_collection v then text_inside deep [] v else shown S.program v

  -- and no `to_s` of the script is asked for it
  abbrev pub value_fits : (deep : ℕ) → Value → Bool
  value_fits deep v = is_none (own_text S v) && fits_inside deep [] v

  abbrev pub part_lines : (deep : ℕ) → (Reference → Text) → Part → Text
  part_lines deep whole (Single v) = line_of (value_text deep v)
  part_lines deep whole (Again thing) = codes "[...]\n"
  part_lines deep whole (Whole thing) = whole thing

  -- the lines of a value
  abbrev pub lines_inside : (deep : ℕ) → List Reference → Value → Text
  lines_inside zero inside v = part_lines zero (λ thing. []) (lined_part inside v)
  lines_inside (suc deep) inside v = part_lines (suc deep) (λ thing. array_lines inside (lines_inside deep (thing ∷ inside)) (holds thing.id)) (lined_part inside v)

  abbrev pub part_line_steps : (deep : ℕ) → (Reference → ℕ) → Part → ℕ
  part_line_steps deep whole (Single v) = steps_inside deep [] v
  part_line_steps deep whole (Again thing) = 0
  part_line_steps deep whole (Whole thing) = whole thing

  -- how many elements it has, those and the pairs of the collections in it too
  abbrev pub line_steps_inside : (deep : ℕ) → List Reference → Value → ℕ
  line_steps_inside zero inside v = part_line_steps zero (λ thing. 0) (lined_part inside v)
  line_steps_inside (suc deep) inside v = part_line_steps (suc deep) (λ thing. collection_steps (line_steps_inside deep (thing ∷ inside)) (holds thing.id)) (lined_part inside v)

  abbrev pub part_lines_fit : (deep : ℕ) → (Reference → Bool) → Part → Bool
  part_lines_fit deep whole (Single v) = value_fits deep v
  part_lines_fit deep whole (Again thing) = true
  part_lines_fit deep whole (Whole thing) = whole thing

  abbrev pub lines_fit_inside : (deep : ℕ) → List Reference → Value → Bool
  lines_fit_inside zero inside v = part_lines_fit zero (λ thing. false) (lined_part inside v)
  lines_fit_inside (suc deep) inside v = part_lines_fit (suc deep) (λ thing. array_fits (lines_fit_inside deep (thing ∷ inside)) (holds thing.id)) (lined_part inside v)

  -- ---- while things stay as they are

  -- from a state to another by silent moves, and by copies of things, each of which gives what the thing holds
  pub data Looks : State → State → Type 0 where
    arrives : (s : State) → Looks s s
    goes : (s t u : State) → move S s ≡ Go t → Looks t u → Looks s u
    copies : (s u : State) (thing : Reference) (what : Thing) → move S s ≡ Ask thing Copy → holds thing.id ≡ Some what → Looks (replied s (gives what Copy)) u → Looks s u

-- No text comes: there are fewer steps than it takes, and the thread ends for want of them; or the text would be too long, which is a fault.
pub data Fails (S : Script) (holds : Id → Option Thing) (at : Span) (fewer longer : Type 0) (s : State) : Type 0 where
  few_steps : fewer → Looks S holds s (ended Steps 0) → Fails S holds at fewer longer s
  too_long : (left : ℕ) → longer → Looks S holds s (raised TextTooLong at left) → Fails S holds at fewer longer s

-- the steps of values one after the other
abbrev pub steps_of : (Value → ℕ) → List Value → ℕ
steps_of steps [] = 0
steps_of steps (v ∷ vs) = steps v + steps_of steps vs

-- These laws are of things that stay as they are while the text is made, where no more than 1,000 nodes and collections are begun at once. No
-- object that is written by itself, or among the lines of an array, has a `to_s` of the script; in the inspected form of a collection any may
-- have one. A text has at most 16,777,216 bytes.

-- The inspected form of a value is what is told by what the things hold, in one step for each element and each pair.
abbrev pub InspectedAsTold : Type 0
InspectedAsTold = (S : Script) (holds : Id → Option Thing) (deep : ℕ) (v : Value) (at : Span) (k : List Cont) (sc : Scope) (d left : ℕ) → deep + d ≤ max_depth
    → fits_inside S holds deep [] v ≡ true → length (text_inside S holds deep [] v) ≤ max_bytes
    → Looks S holds (On (Drafting (draft_of Inspected v) at) k sc d (steps_inside S holds deep [] v + left)) (On (Give (Str (text_inside S holds deep [] v))) k sc d left)

-- With fewer steps, or where it would be longer than a text may be, it does not come.
abbrev pub InspectedFails : Type 0
InspectedFails = (S : Script) (holds : Id → Option Thing) (deep : ℕ) (v : Value) (at : Span) (k : List Cont) (sc : Scope) (d left : ℕ) → deep + d ≤ max_depth
    → fits_inside S holds deep [] v ≡ true → ((left < steps_inside S holds deep [] v) ⊎ (max_bytes < length (text_inside S holds deep [] v)))
    → Fails S holds at (left < steps_inside S holds deep [] v) (max_bytes < length (text_inside S holds deep [] v)) (On (Drafting (draft_of Inspected v) at) k sc d left)

-- So is the text of a value, as a literal asks for it,
abbrev pub TextsAsTold : Type 0
TextsAsTold = (S : Script) (holds : Id → Option Thing) (deep : ℕ) (v : Value) (at : Span) (k : List Cont) (sc : Scope) (d left : ℕ) → deep + d ≤ max_depth
    → value_fits S holds deep v ≡ true → length (value_text S holds deep v) ≤ max_bytes
    → Looks S holds (give_text S v at k sc d (steps_inside S holds deep [] v + left)) (On (Give (Str (value_text S holds deep v))) k sc d left)

-- what `puts` shows of its arguments, one after the other,
abbrev pub PutsAsTold : Type 0
PutsAsTold = (S : Script) (holds : Id → Option Thing) (deep : ℕ) (v : Value) (vs : List Value) (at : Span) (k : List Cont) (sc : Scope) (d left : ℕ) → deep + d ≤ max_depth
    → list_all (lines_fit_inside S holds deep []) (v ∷ vs) ≡ true → length (flat_map (lines_inside S holds deep []) (v ∷ vs)) ≤ max_bytes
    → Looks S holds (print S (codes "puts") (v ∷ vs) at k sc d (steps_of (line_steps_inside S holds deep []) (v ∷ vs) + left))
    (show S (flat_map (lines_inside S holds deep []) (v ∷ vs)) (Instead Nil) at k sc d left)

-- what `print` shows,
abbrev pub PrintAsTold : Type 0
PrintAsTold = (S : Script) (holds : Id → Option Thing) (deep : ℕ) (vs : List Value) (at : Span) (k : List Cont) (sc : Scope) (d left : ℕ) → deep + d ≤ max_depth
    → list_all (value_fits S holds deep) vs ≡ true → length (flat_map (value_text S holds deep) vs) ≤ max_bytes
    → Looks S holds (print S (codes "print") vs at k sc d (steps_of (steps_inside S holds deep []) vs + left))
    (show S (flat_map (value_text S holds deep) vs) (Instead Nil) at k sc d left)

-- and what `p` does: the inspected forms, each a line.
abbrev pub PAsTold : Type 0
PAsTold = (S : Script) (holds : Id → Option Thing) (deep : ℕ) (vs : List Value) (at : Span) (k : List Cont) (sc : Scope) (d left : ℕ) → deep + d ≤ max_depth
    → list_all (fits_inside S holds deep []) vs ≡ true → length (flat_map (λ v. text_inside S holds deep [] v ++ codes "\n") vs) ≤ max_bytes
    → Looks S holds (print S (codes "p") vs at k sc d (steps_of (steps_inside S holds deep []) vs + left))
    (show S (flat_map (λ v. text_inside S holds deep [] v ++ codes "\n") vs) (value_of_p S vs) at k sc d left)

-- With fewer steps, or where all that is printed would be longer than a text may be, nothing is shown.
abbrev pub PutsFails : Type 0
PutsFails = (S : Script) (holds : Id → Option Thing) (deep : ℕ) (v : Value) (vs : List Value) (at : Span) (k : List Cont) (sc : Scope) (d left : ℕ) → deep + d ≤ max_depth
    → list_all (lines_fit_inside S holds deep []) (v ∷ vs) ≡ true
    → ((left < steps_of (line_steps_inside S holds deep []) (v ∷ vs)) ⊎ (max_bytes < length (flat_map (lines_inside S holds deep []) (v ∷ vs))))
    → Fails S holds at (left < steps_of (line_steps_inside S holds deep []) (v ∷ vs)) (max_bytes < length (flat_map (lines_inside S holds deep []) (v ∷ vs)))
    (print S (codes "puts") (v ∷ vs) at k sc d left)

abbrev pub PrintFails : Type 0
PrintFails = (S : Script) (holds : Id → Option Thing) (deep : ℕ) (vs : List Value) (at : Span) (k : List Cont) (sc : Scope) (d left : ℕ) → deep + d ≤ max_depth
    → list_all (value_fits S holds deep) vs ≡ true → ((left < steps_of (steps_inside S holds deep []) vs) ⊎ (max_bytes < length (flat_map (value_text S holds deep) vs)))
    → Fails S holds at (left < steps_of (steps_inside S holds deep []) vs) (max_bytes < length (flat_map (value_text S holds deep) vs)) (print S (codes "print") vs at k sc d left)

abbrev pub PFails : Type 0
PFails = (S : Script) (holds : Id → Option Thing) (deep : ℕ) (vs : List Value) (at : Span) (k : List Cont) (sc : Scope) (d left : ℕ) → deep + d ≤ max_depth
    → list_all (fits_inside S holds deep []) vs ≡ true
    → ((left < steps_of (steps_inside S holds deep []) vs) ⊎ (max_bytes < length (flat_map (λ v. text_inside S holds deep [] v ++ codes "\n") vs)))
    → Fails S holds at (left < steps_of (steps_inside S holds deep []) vs) (max_bytes < length (flat_map (λ v. text_inside S holds deep [] v ++ codes "\n") vs)) (print S (codes "p") vs at k sc d left)

-- In a run of a script alone things hold what its store has for them. So the run goes as these laws say, and the things hold then what they held.
abbrev pub RunsAsTold : Type 0
RunsAsTold = (S : Script) (N : ℕ) (b : List ℕ) (h : Private) (s t : State) → Runs S N b h s → Looks S (held h) s t → (after : Private) × Runs S N b after t × ((id : Id) → held after id ≡ held h id)

-- So does a thread with what it alone reaches, and its log gains nothing.
abbrev pub ThreadsAsTold : Type 0
ThreadsAsTold = (S : Script) (N : ℕ) (start : State) (l : Log) (h : Private) (s t : State) → At S N start l h s → Looks S (held h) s t
    → (after : Private) × At S N start l after t × ((id : Id) → held after id ≡ held h id)
