-- The laws of names.
use Rattle.std.proofs.Common.{◌≡◌, ℕ, zero, suc, ◌<◌, ◌==◌, Bool, true, false, cond, [], ◌∷◌, ◌++◌, Option, Some, None, ◌⊎◌, inl, inr, refl, ap, sym, ◌∙◌, subst, arith, Contains, get_or, length}
use Rattle.std.specs.Prelude.{IsSome, is_some}
use Rattle.std.specs.Option.{option_map}
use Rattle.std.proofs.lemmas.List.Elements.{Contains-append_right}
use Rattle.rb_tree.specs.declared.span.NameId.{NameId}
use Rattle.shape_core.specs.declared.edge.Kind.{Kind}
use Rattle.shape_core.specs.declared.edge.Kind.TheVariants.{IntLoc, AnyLoc}
use Rattle.shape_core.specs.declared.edge.Edge.{Edge}
use Rattle.shape_core.specs.declared.edge.Edge.TheVariants.{Add, Widen, Share}
use Rattle.shape_core.specs.Path.{Path, next_place, find_on, kind_on, MayFollow, IsPath}
use Rattle.shape_core.specs.Laws.{Adds, StandsWhereAdded, AddsOnce, WidensOnce, Stays}
use Rattle.shape_core.proofs.Paths.{Found, found_more, same_name, own_name}

-- an edge of a path is its newest or an older one
newest_or_older : (edge : Edge) (path : Path) (it : Edge) → Contains (edge ∷ path) it → (edge ≡ it) ⊎ Contains path it
newest_or_older edge path it h = by h.0 h.1 h.2
  where
    by : (k : ℕ) → k < length (edge ∷ path) → get_or (edge ∷ path) k it ≡ it → (edge ≡ it) ⊎ Contains path it
    by zero lt e = inl e
    by (suc k) lt e = inr (k, omega arith, e)

newest : (edge : Edge) (path : Path) → Contains (edge ∷ path) edge
newest edge path = (0, omega arith, refl)

older : (edge : Edge) (path : Path) (it : Edge) → Contains path it → Contains (edge ∷ path) it
older edge path it h = Contains-append_right (edge ∷ []) path it h

-- the older edges of a path are one
pub IsPath-older : (later path : Path) → IsPath (later ++ path) → IsPath path
IsPath-older [] path h = h
IsPath-older (edge ∷ later) path h = IsPath-older later path h.1

-- a name with a kind is found
kind_found : (found : Option Found) (kind : Kind) → option_map (λ (f : Found). f.1) found ≡ Some kind → IsSome found
kind_found None kind h = absurd (cc)
kind_found (Some f) kind h = refl

-- what is found where an edge gives its own name a place
own_found : (name : NameId) (found : Found) (rest : Option Found) → cond (name.0 == name.0) (Some found) rest ≡ Some found
own_found name found rest = ap (λ b. cond b (Some found) rest) (own_name name)

-- a name that is found was added
added_step : (given name : NameId) (rest : Option Found) (found : Found) (A : Type 0)
    → (given ≡ name → A) → (IsSome rest → A) → IsSome (cond (given.0 == name.0) (Some found) rest) → A
added_step given name rest found A here there h = by (given.0 == name.0) refl h
  where
    by : (b : Bool) → (given.0 == name.0) ≡ b → IsSome (cond b (Some found) rest) → A
    by true e w = here (same_name given name e)
    by false e w = there w

added_older : (edge : Edge) (path : Path) (name : NameId) → Adds path name → Adds (edge ∷ path) name
added_older edge path name h = (h.0, older edge path (Add name h.0) h.1)

added : (path : Path) (name : NameId) → IsPath path → IsSome (find_on path name) → Adds path name
added [] name valid h = absurd (cc)
added (Add given kind ∷ path) name valid h =
    added_step given name (find_on path name) (next_place path, kind) (Adds (Add given kind ∷ path) name)
    (λ e. (kind, subst (λ (n : NameId). Contains (Add given kind ∷ path) (Add n kind)) e (newest (Add given kind) path)))
    (λ w. added_older (Add given kind) path name (added path name valid.1 w)) h
added (Widen given ∷ path) name valid h =
    added_step given name (find_on path name) (next_place path, AnyLoc) (Adds (Widen given ∷ path) name)
    (λ e. added_older (Widen given) path name
    (added path name valid.1 (subst (λ (n : NameId). IsSome (find_on path n)) e (kind_found (find_on path given) IntLoc valid.0))))
    (λ w. added_older (Widen given) path name (added path name valid.1 w)) h
added (Share ∷ path) name valid h = added_older Share path name (added path name valid.1 h)

-- an older name is found
found_older : (edge : Edge) (path : Path) (name : NameId) → IsSome (find_on path name) → IsSome (find_on (edge ∷ path) name)
found_older (Add given kind) path name h = found_more (given.0 == name.0) (next_place path, kind) (find_on path name) h
found_older (Widen given) path name h = found_more (given.0 == name.0) (next_place path, AnyLoc) (find_on path name) h
found_older Share path name h = h

-- a name that was added is found
found : (path : Path) (name : NameId) (kind : Kind) → Contains path (Add name kind) → IsSome (find_on path name)
found [] name kind h = absurd (omega (arith, h.1))
found (edge ∷ path) name kind h =
    elim (newest_or_older edge path (Add name kind) h) [
      | inl e ↦ subst (λ (it : Edge). IsSome (find_on (it ∷ path) name)) (sym e)
          (ap is_some (own_found name (next_place path, kind) (find_on path name)))
      | inr w ↦ found_older edge path name (found path name kind w)
    ]

-- a name stands at a place exactly where its path adds it
pub stands_where_added : StandsWhereAdded
stands_where_added path name valid = (added path name valid, λ w. found path name w.0 w.1)

-- a name that is not found was not added
unadded : (path : Path) (name : NameId) (kind : Kind) → find_on path name ≡ None → Contains path (Add name kind) → ⊥
unadded path name kind none h = let f = found path name kind h in cc

unadded_later : (later rest : Path) (name : NameId) (kind : Kind)
    → IsSome (find_on rest name) → IsPath (later ++ rest) → Contains later (Add name kind) → ⊥
unadded_later [] rest name kind at valid h = absurd (omega (arith, h.1))
unadded_later (edge ∷ later) rest name kind at valid h =
    elim (newest_or_older edge later (Add name kind) h) [
      | inl e ↦
          let free : find_on (later ++ rest) name ≡ None = subst (λ (it : Edge). MayFollow (later ++ rest) it) e valid.0 in
          let there : IsSome (find_on (later ++ rest) name) = found_later later rest name at in
          cc
      | inr w ↦ unadded_later later rest name kind at valid.1 w
    ]
  where
    found_later : (later rest : Path) (name : NameId) → IsSome (find_on rest name) → IsSome (find_on (later ++ rest) name)
    found_later [] rest name h = h
    found_later (edge ∷ later) rest name h = found_older edge (later ++ rest) name (found_later later rest name h)

-- a name is added once
pub adds_once : AddsOnce
adds_once later path name kind kind' valid =
    let here : IsPath (Add name kind ∷ path) = IsPath-older later (Add name kind ∷ path) valid in (
      λ w. unadded path name w.0 here.0 w.1,
      λ w. unadded_later later (Add name kind ∷ path) name kind' (ap is_some (own_found name (next_place path, kind) (find_on path name))) valid w,
    )

-- a look at the kind of a name, edge by edge
kind_step : (given name : NameId) (path : Path) (kind : Kind) → (given ≡ name → kind ≡ AnyLoc) → kind_on path name ≡ Some AnyLoc
    → option_map (λ (f : Found). f.1) (cond (given.0 == name.0) (Some (next_place path, kind)) (find_on path name)) ≡ Some AnyLoc
kind_step given name path kind here there = by (given.0 == name.0) refl
  where
    by : (b : Bool) → (given.0 == name.0) ≡ b
        → option_map (λ (f : Found). f.1) (cond b (Some (next_place path, kind)) (find_on path name)) ≡ Some AnyLoc
    by true e = ap Some (here (same_name given name e))
    by false e = there

-- an edge leaves a widened name as it is
widened_older : (edge : Edge) (path : Path) (name : NameId) → MayFollow path edge → kind_on path name ≡ Some AnyLoc → kind_on (edge ∷ path) name ≡ Some AnyLoc
widened_older (Add given kind) path name free there =
    kind_step given name path kind
    (λ e. let f : IsSome (find_on path name) = kind_found (find_on path name) AnyLoc there in
    let none : find_on path name ≡ None = subst (λ (n : NameId). find_on path n ≡ None) e free in
    absurd (let both : None ≡ find_on path name = sym none in let v = ap is_some both ∙ f in cc))
    there
widened_older (Widen given) path name free there = kind_step given name path AnyLoc (λ e. refl) there
widened_older Share path name free there = there

-- a name that was widened may hold any value
widened : (path : Path) (name : NameId) → IsPath path → Contains path (Widen name) → kind_on path name ≡ Some AnyLoc
widened [] name valid h = absurd (omega (arith, h.1))
widened (edge ∷ path) name valid h =
    elim (newest_or_older edge path (Widen name) h) [
      | inl e ↦ subst (λ (it : Edge). kind_on (it ∷ path) name ≡ Some AnyLoc) (sym e)
          (ap (option_map (λ (f : Found). f.1)) (own_found name (next_place path, AnyLoc) (find_on path name)))
      | inr w ↦ widened_older edge path name valid.0 (widened path name valid.1 w)
    ]

-- a name that may be widened was not widened
unwidened : (path : Path) (name : NameId) → IsPath path → MayFollow path (Widen name) → Contains path (Widen name) → ⊥
unwidened path name valid ints h = let any = widened path name valid h in absurd (let e : Some IntLoc ≡ Some AnyLoc = sym ints ∙ any in cc)

unwidened_later : (later rest : Path) (name : NameId)
    → Contains rest (Widen name) → IsPath (later ++ rest) → Contains later (Widen name) → ⊥
unwidened_later [] rest name there valid h = absurd (omega (arith, h.1))
unwidened_later (edge ∷ later) rest name there valid h =
    elim (newest_or_older edge later (Widen name) h) [
      | inl e ↦ unwidened (later ++ rest) name valid.1 (subst (λ (it : Edge). MayFollow (later ++ rest) it) e valid.0)
          (Contains-append_right later rest (Widen name) there)
      | inr w ↦ unwidened_later later rest name there valid.1 w
    ]

-- a name is widened at most once
pub widens_once : WidensOnce
widens_once later path name valid =
    let here : IsPath (Widen name ∷ path) = IsPath-older later (Widen name ∷ path) valid in
    (λ w. unwidened path name here.1 here.0 w, λ w. unwidened_later later (Widen name ∷ path) name (newest (Widen name) path) valid w)

stays_step : (given name : NameId) (rest : Option Found) (new found : Found) → (given ≡ name → ⊥) → rest ≡ Some found
    → cond (given.0 == name.0) (Some new) rest ≡ Some found
stays_step given name rest new found differ at = by (given.0 == name.0) refl
  where
    by : (b : Bool) → (given.0 == name.0) ≡ b → cond b (Some new) rest ≡ Some found
    by true e = absurd (differ (same_name given name e))
    by false e = at

-- only its own widening moves a name
pub stays : Stays
stays [] path name place kind valid at none = at
stays (Add given k ∷ later) path name place kind valid at none =
    let there = stays later path name place kind valid.1 at (λ w. none (older (Add given k) later (Widen name) w)) in
    stays_step given name (find_on (later ++ path) name) (next_place (later ++ path), k) (place, kind)
    (λ e. let free : find_on (later ++ path) name ≡ None = subst (λ (n : NameId). find_on (later ++ path) n ≡ None) e valid.0 in cc) there
stays (Widen given ∷ later) path name place kind valid at none =
    let there = stays later path name place kind valid.1 at (λ w. none (older (Widen given) later (Widen name) w)) in
    stays_step given name (find_on (later ++ path) name) (next_place (later ++ path), AnyLoc) (place, kind)
    (λ e. none (subst (λ (n : NameId). Contains (Widen given ∷ later) (Widen n)) e (newest (Widen given) later))) there
stays (Share ∷ later) path name place kind valid at none =
    stays later path name place kind valid.1 at (λ w. none (older Share later (Widen name) w))
