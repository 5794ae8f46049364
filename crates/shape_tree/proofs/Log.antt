-- The slots of a path are what `find_on` says.
use Rattle.std.proofs.Common.{◌≡◌, ℕ, zero, suc, ◌-◌, ◌<◌, ◌≤◌, ◌==◌, true, false, cond, List, [], ◌∷◌, ◌++◌, Option, Some, None, refl, ap, sym, ◌∙◌, subst, arith, length, take, drop, get_or, length-append, append-nil, add-one}
use Rattle.std.proofs.lemmas.List.{take-append-drop, get_or_default, length-take-le}
use Rattle.std.proofs.Math.ListN.{get_or-append}
use Rattle.std.proofs.Math.Seq.{get_or-append_seam}
use Rattle.rb_tree.specs.declared.span.NameId.{NameId}
use Rattle.shape_core.specs.declared.edge.Kind.{Kind}
use Rattle.shape_core.specs.declared.edge.Kind.TheVariants.{AnyLoc}
use Rattle.shape_core.specs.declared.edge.Edge.TheVariants.{Add, Widen, Share}
use Rattle.shape_core.specs.declared.facts.Place.{Place}
use Rattle.shape_core.specs.Path.{Path, places_of, find_on}
use Rattle.shape_tree.specs.declared.table.Slot.{Slot}
use Rattle.shape_tree.specs.declared.table.Layout.{Layout}
use Rattle.shape_tree.specs.Layouts.{Lists, Fits, table_at, slots_with, slots_of}
use Rattle.shape_tree.specs.Slots.{slots_on, slot_at, found_below, latest}

found_step : (name : NameId) (n : ℕ) (slot other : Slot) (rest rest' : Option (Place × Kind)) → slot ≡ other → rest ≡ rest'
    → cond (slot.name.0 == name.0) (Some (record { 0 = n }, slot.kind)) rest ≡ cond (other.name.0 == name.0) (Some (record { 0 = n }, other.kind)) rest'
found_step name n slot other rest rest' e f =
    ap (λ (s : Slot). cond (s.name.0 == name.0) (Some (record { 0 = n }, s.kind)) rest) e
    ∙ ap (λ (r : Option (Place × Kind)). cond (other.name.0 == name.0) (Some (record { 0 = n }, other.kind)) r) f

-- later slots are not below the first ones
pub found_below-append : (slots more : List Slot) (name : NameId) (n : ℕ) → n ≤ length slots → found_below (slots ++ more) name n ≡ found_below slots name n
found_below-append slots more name zero h = refl
found_below-append slots more name (suc n) h =
    found_step name n (slot_at (slots ++ more) n) (slot_at slots n) (found_below (slots ++ more) name n) (found_below slots name n)
    (get_or-append slots more (record { name = record { 0 = 0 }; kind = AnyLoc }) n (omega arith))
    (found_below-append slots more name n (omega arith))

-- one slot more is looked at first
pub latest-push : (slots : List Slot) (slot : Slot) (name : NameId)
    → latest (slots ++ slot ∷ []) name ≡ cond (slot.name.0 == name.0) (Some (record { 0 = length slots }, slot.kind)) (latest slots name)
latest-push slots slot name =
    ap (found_below (slots ++ slot ∷ []) name) (length-append slots (slot ∷ []) ∙ add-one (length slots))
    ∙ found_step name (length slots) (slot_at (slots ++ slot ∷ []) (length slots)) slot
    (found_below (slots ++ slot ∷ []) name (length slots)) (latest slots name)
    (get_or-append_seam slots slot [] (record { name = record { 0 = 0 }; kind = AnyLoc }))
    (found_below-append slots (slot ∷ []) name (length slots) (omega arith))

-- a path has as many slots as places
pub length-slots_on : (path : Path) → length (slots_on path) ≡ places_of path
length-slots_on [] = refl
length-slots_on (Add name kind ∷ path) = omega (arith, length-append (slots_on path) (record { name = name; kind = kind } ∷ []), length-slots_on path)
length-slots_on (Widen name ∷ path) = omega (arith, length-append (slots_on path) (record { name = name; kind = AnyLoc } ∷ []), length-slots_on path)
length-slots_on (Share ∷ path) = ap length (append-nil (slots_on path)) ∙ length-slots_on path

pushed : (path : Path) (name other : NameId) (kind : Kind) → latest (slots_on path) name ≡ find_on path name
    → latest (slots_on path ++ record { name = other; kind = kind } ∷ []) name ≡ cond (other.0 == name.0) (Some (record { 0 = places_of path }, kind)) (find_on path name)
pushed path name other kind e =
    latest-push (slots_on path) (record { name = other; kind = kind }) name
    ∙ ap (λ n. cond (other.0 == name.0) (Some (record { 0 = n }, kind)) (latest (slots_on path) name)) (length-slots_on path)
    ∙ ap (λ (r : Option (Place × Kind)). cond (other.0 == name.0) (Some (record { 0 = places_of path }, kind)) r) e

-- the newest slot of a name is where the path says that it stands
pub latest-slots_on : (path : Path) (name : NameId) → latest (slots_on path) name ≡ find_on path name
latest-slots_on [] name = refl
latest-slots_on (Add other kind ∷ path) name = pushed path name other kind (latest-slots_on path name)
latest-slots_on (Widen other ∷ path) name = pushed path name other AnyLoc (latest-slots_on path name)
latest-slots_on (Share ∷ path) name = ap (λ (s : List Slot). latest s name) (append-nil (slots_on path)) ∙ latest-slots_on path name

-- the first slots of a table
pub latest-take : (table : List Slot) (places : ℕ) (name : NameId) → places ≤ length table → found_below table name places ≡ latest (take places table) name
latest-take table places name h =
    let within : length (take places table) ≡ places = length-take-le places table h in
    ap (λ (t : List Slot). found_below t name places) (sym (take-append-drop places table))
    ∙ found_below-append (take places table) (drop places table) name places (omega arith)
    ∙ ap (found_below (take places table) name) (sym within)

-- a table as it was read from tables
read_at : (old tables : Lists) (at : ℕ) (read : List Slot) → tables ≡ old → at < length old → read ≡ get_or tables at read → read ≡ table_at old at
read_at old tables at read same lt is =
    is ∙ get_or_default tables at read [] (subst (λ (t : Lists). at < length t) (sym same) lt) ∙ ap (λ (t : Lists). table_at t at) same

-- what a look into the table of a layout with no own slot finds
pub found_in-table : (old tables : Lists) (layout : Layout) (name : NameId) (read : List Slot) → Fits old layout → layout.own ≡ None
    → tables ≡ old → read ≡ get_or tables layout.table read → found_below read name layout.places ≡ latest (slots_of old layout) name
found_in-table old tables layout name read fits none same is =
    let shown : read ≡ table_at old layout.table = read_at old tables layout.table read same fits.there is in
    ap (λ (t : List Slot). found_below t name layout.places) shown
    ∙ latest-take (table_at old layout.table) layout.places name fits.long
    ∙ ap (λ (o : Option Slot). latest (slots_with (table_at old layout.table) layout.places o) name) (sym none)

-- and what is found where the own slot is another name's
pub found_behind-own : (old tables : Lists) (layout : Layout) (own : Slot) (name : NameId) (read : List Slot) → Fits old layout → layout.own ≡ Some own
    → (own.name.0 == name.0) ≡ false → tables ≡ old → read ≡ get_or tables layout.table read
    → found_below read name (layout.places - 1) ≡ latest (slots_of old layout) name
found_behind-own old tables layout own name read fits some other same is =
    let table : List Slot = table_at old layout.table in
    let shown : read ≡ table = read_at old tables layout.table read same fits.there is in
    ap (λ (t : List Slot). found_below t name (layout.places - 1)) shown
    ∙ latest-take table (layout.places - 1) name (omega (arith, fits.long))
    ∙ ap (λ b. cond b (Some (record { 0 = length (take (layout.places - 1) table) }, own.kind)) (latest (take (layout.places - 1) table) name)) (sym other)
    ∙ sym (latest-push (take (layout.places - 1) table) own name)
    ∙ ap (λ (o : Option Slot). latest (slots_with table layout.places o) name) (sym some)

-- an own slot of the name is the newest
pub found_own : (old : Lists) (layout : Layout) (own : Slot) (name : NameId) → Fits old layout → layout.own ≡ Some own → (own.name.0 == name.0) ≡ true
    → Some (record { 0 = layout.places - 1 }, own.kind) ≡ latest (slots_of old layout) name
found_own old layout own name fits some here =
    let table : List Slot = table_at old layout.table in
    let front : List Slot = take (layout.places - 1) table in
    let within : length front ≡ layout.places - 1 = length-take-le (layout.places - 1) table (omega (arith, fits.long)) in
    let by : ℕ → Option (Place × Kind) = λ n. Some (record { 0 = n }, own.kind) in
    ap by (sym within)
    ∙ ap (λ b. cond b (by (length front)) (latest front name)) (sym here)
    ∙ sym (latest-push front own name)
    ∙ ap (λ (o : Option Slot). latest (slots_with table layout.places o) name) (sym some)
