-- The newest place of a name below a bound, and the index that finds it.
use Rattle.std.proofs.Common.{◌≡◌, ℕ, zero, suc, ◌<◌, ◌≤◌, ◌==◌, Bool, true, false, cond, List, [], ◌∷◌, ◌++◌, Option, Some, None, ◌⊎◌, inl, inr, refl, ap, sym, ◌∙◌, subst, arith, length, get_or, nat_eq, length-append, add-one}
use Rattle.std.specs.Option.{option_map}
use Rattle.std.proofs.Math.ListN.{get_or-append}
use Rattle.std.proofs.Math.Seq.{get_or-append_seam}
use Rattle.std.proofs.lemmas.Bool.{eqb-true}
use Rattle.std.proofs.lemmas.List.{get_or_default}
use Rattle.std.proofs.lemmas.Option.{none-some, same_Some}
use Rattle.rb_tree.specs.declared.span.NameId.{NameId}
use Rattle.shape_core.specs.declared.edge.Kind.{Kind}
use Rattle.shape_core.specs.declared.facts.Place.{Place}
use Rattle.shape_tree.specs.declared.table.Slot.{Slot}
use Rattle.shape_tree.specs.Slots.{slot_at, found_below}
use Rattle.shape_tree.specs.Indexes.{place_below, IsIndexed}

below_step : (name n : ℕ) (slot other : Slot) (rest rest' : Option ℕ) → slot ≡ other → rest ≡ rest'
    → cond (slot.name.0 == name) (Some n) rest ≡ cond (other.name.0 == name) (Some n) rest'
below_step name n slot other rest rest' e f =
    ap (λ (s : Slot). cond (s.name.0 == name) (Some n) rest) e ∙ ap (λ (r : Option ℕ). cond (other.name.0 == name) (Some n) r) f

-- later slots are not below the first ones
pub place_below-append : (slots more : List Slot) (name n : ℕ) → n ≤ length slots → place_below (slots ++ more) name n ≡ place_below slots name n
place_below-append slots more name zero h = refl
place_below-append slots more name (suc n) h =
    below_step name n (slot_at (slots ++ more) n) (slot_at slots n) (place_below (slots ++ more) name n) (place_below slots name n)
    (get_or-append slots more _ n (omega arith)) (place_below-append slots more name n (omega arith))

-- one slot more is looked at first
pub place_below-push : (slots : List Slot) (slot : Slot) (name : ℕ)
    → place_below (slots ++ slot ∷ []) name (length (slots ++ slot ∷ [])) ≡ cond (slot.name.0 == name) (Some (length slots)) (place_below slots name (length slots))
place_below-push slots slot name =
    ap (place_below (slots ++ slot ∷ []) name) (length-append slots (slot ∷ []) ∙ add-one (length slots))
    ∙ below_step name (length slots) (slot_at (slots ++ slot ∷ []) (length slots)) slot
    (place_below (slots ++ slot ∷ []) name (length slots)) (place_below slots name (length slots))
    (get_or-append_seam slots slot [] _) (place_below-append slots (slot ∷ []) name (length slots) (omega arith))

-- a place with what it holds
abbrev pub with_kind : List Slot → ℕ → Place × Kind
with_kind slots place = (record { 0 = place }, (slot_at slots place).kind)

found_by : (slots : List Slot) (n : ℕ) (here : Bool) (found : Option (Place × Kind)) (rest : Option ℕ) → found ≡ option_map (with_kind slots) rest
    → cond here (Some (with_kind slots n)) found ≡ option_map (with_kind slots) (cond here (Some n) rest)
found_by slots n true found rest e = refl
found_by slots n false found rest e = e

-- the newest place of a name is where it is found
pub found_is : (slots : List Slot) (name : NameId) (n : ℕ) → found_below slots name n ≡ option_map (with_kind slots) (place_below slots name.0 n)
found_is slots name zero = refl
found_is slots name (suc n) =
    found_by slots n ((slot_at slots n).name.0 == name.0) (found_below slots name n) (place_below slots name.0 n) (found_is slots name n)

-- what holds there is what the slot of that place holds
pub found_at : (slots : List Slot) (name : NameId) (n place : ℕ) (slot : Slot) → Some place ≡ place_below slots name.0 n → slot_at slots place ≡ slot
    → Some (record { 0 = place }, slot.kind) ≡ found_below slots name n
found_at slots name n place slot is read =
    ap (λ (s : Slot). Some (record { 0 = place }, s.kind)) (sym read) ∙ ap (option_map (with_kind slots)) is ∙ sym (found_is slots name n)

pub found_nowhere : (slots : List Slot) (name : NameId) (n : ℕ) → None ≡ place_below slots name.0 n → None ≡ found_below slots name n
found_nowhere slots name n is = ap (option_map (with_kind slots)) is ∙ sym (found_is slots name n)

-- a place below n that has the name, with no newer one of it below n
pub record IsNewest (slots : List Slot) (name n place : ℕ) : Type 0 where
  pub below : place < n
  pub named : (slot_at slots place).name.0 ≡ name
  pub newest : (m : ℕ) → place < m → m ≤ n → place_below slots name m ≡ Some place

-- a number up to the next one
up_to : (n m : ℕ) → m ≤ suc n → (m ≤ n) ⊎ (m ≡ suc n)
up_to n m h = grind arith

module _ (slots : List Slot) (name : ℕ) where
  last_named : (n : ℕ) → ((slot_at slots n).name.0 == name) ≡ true → place_below slots name (suc n) ≡ Some n
  last_named n was = ap (λ b. cond b (Some n) (place_below slots name n)) was

  last_other : (n : ℕ) → ((slot_at slots n).name.0 == name) ≡ false → place_below slots name (suc n) ≡ place_below slots name n
  last_other n was = ap (λ b. cond b (Some n) (place_below slots name n)) was

  newest_last : (n : ℕ) → ((slot_at slots n).name.0 == name) ≡ true → IsNewest slots name (suc n) n
  newest_last n was = record {
    below = omega arith;
    named = eqb-true (slot_at slots n).name.0 name was;
    newest = λ m lt le. let e : m ≡ suc n = omega arith in ap (place_below slots name) e ∙ last_named n was;
  }

  newest_older : (n place : ℕ) → ((slot_at slots n).name.0 == name) ≡ false → IsNewest slots name n place → IsNewest slots name (suc n) place
  newest_older n place was is = record {
    below = omega (arith, is.below);
    named = is.named;
    newest = λ m lt le. elim (up_to n m le) [
      | inl h ↦ is.newest m lt h
      | inr e ↦ ap (place_below slots name) e ∙ last_other n was ∙ is.newest n is.below (omega arith)
    ];
  }

  pub is_newest : (n place : ℕ) → place_below slots name n ≡ Some place → IsNewest slots name n place
  is_newest zero place e = absurd (none-some place e)
  is_newest (suc n) place e = by ((slot_at slots n).name.0 == name) refl e (is_newest n place)
    where
      by : (here : Bool) → ((slot_at slots n).name.0 == name) ≡ here → cond here (Some n) (place_below slots name n) ≡ Some place
          → (place_below slots name n ≡ Some place → IsNewest slots name n place) → IsNewest slots name (suc n) place
      by true was e older = subst (IsNewest slots name (suc n)) (same_Some n place e) (newest_last n was)
      by false was e older = newest_older n place was (older e)

  -- where no slot has the name, no earlier one has it
  pub none_below : (n m : ℕ) → place_below slots name n ≡ None → m ≤ n → place_below slots name m ≡ None
  none_below zero m e h = let z : m ≡ zero = omega arith in ap (place_below slots name) z
  none_below (suc n) m e h = by ((slot_at slots n).name.0 == name) refl e (none_below n m)
    where
      by : (here : Bool) → ((slot_at slots n).name.0 == name) ≡ here → cond here (Some n) (place_below slots name n) ≡ None
          → (place_below slots name n ≡ None → m ≤ n → place_below slots name m ≡ None) → place_below slots name m ≡ None
      by true was e older = absurd (none-some n (sym e))
      by false was e older = elim (up_to n m h) [
        | inl le ↦ older e le
        | inr last ↦ ap (place_below slots name) last ∙ last_other n was ∙ e
      ]

-- a place from which links lead to the newest place below a bound
pub record Leads (slots : List Slot) (name places : ℕ) (at : Option ℕ) : Type 0 where
  pub bound : ℕ
  pub above : places ≤ bound
  pub within : bound ≤ length slots
  pub is : at ≡ place_below slots name bound

-- more than how far a place is from the first one
abbrev pub steps : Option ℕ → ℕ
steps None = zero
steps (Some place) = suc place

module _ (slots : List Slot) (name : NameId) (places : ℕ) where
  -- where nothing leads on, nothing is found
  pub leads_nowhere : (at : Option ℕ) → at ≡ None → Leads slots name.0 places at → None ≡ place_below slots name.0 places
  leads_nowhere at e leads = sym (none_below slots name.0 leads.bound places (sym leads.is ∙ e) leads.above)

  module _ (at : Option ℕ) (place : ℕ) (e : at ≡ Some place) (leads : Leads slots name.0 places at) where
    is : IsNewest slots name.0 leads.bound place
    is = is_newest slots name.0 leads.bound place (sym leads.is ∙ e)

    pub leads_within : place < length slots
    leads_within = omega (arith, is.below, leads.within)

    -- a place below the bound is the one
    pub leads_here : place < places → Some place ≡ place_below slots name.0 places
    leads_here lt = sym (is.newest places lt leads.above)

    -- a place behind it leads on by its link
    pub leads_on : (found : ℕ → Option ℕ) (links : List (Option ℕ)) (link : Option ℕ) → IsIndexed slots found links → link ≡ get_or links place link
        → places ≤ place → Leads slots name.0 places link
    leads_on found links link indexed read behind =
        let within : place < length links = omega (arith, leads_within, indexed.long) in
        record {
          bound = place;
          above = behind;
          within = omega (arith, leads_within);
          is =
              read
              ∙ get_or_default links place link None within
              ∙ indexed.earlier place leads_within
              ∙ ap (λ n. place_below slots n place) is.named;
        }

    -- and the link is nearer to the first place
    pub steps_on : (found : ℕ → Option ℕ) (links : List (Option ℕ)) (link : Option ℕ) → IsIndexed slots found links → link ≡ get_or links place link
        → places ≤ place → steps link < steps at
    steps_on found links link indexed read behind =
        subst (λ (a : Option ℕ). steps link < steps a) (sym e) (nearer link (read ∙ get_or_default links place link None (omega (arith, leads_within, indexed.long)) ∙ indexed.earlier place leads_within))
      where
        nearer : (link : Option ℕ) → link ≡ place_below slots (slot_at slots place).name.0 place → steps link < suc place
        nearer None h = omega arith
        nearer (Some next) h = omega (arith, (is_newest slots (slot_at slots place).name.0 place next (sym h)).below)

-- the link of an older place, and of the next one, with a slot behind
linked : (slots : List Slot) (slot : Slot) (links : List (Option ℕ)) (link : Option ℕ) (place : ℕ) → place < length slots → length links ≡ length slots
    → get_or links place None ≡ place_below slots (slot_at slots place).name.0 place
    → get_or (links ++ link ∷ []) place None ≡ place_below (slots ++ slot ∷ []) (slot_at (slots ++ slot ∷ []) place).name.0 place
linked slots slot links link place lt long is =
    get_or-append links (link ∷ []) None place (omega arith)
    ∙ is
    ∙ ap (λ (s : Slot). place_below slots s.name.0 place) (sym (get_or-append slots (slot ∷ []) _ place lt))
    ∙ sym (place_below-append slots (slot ∷ []) (slot_at (slots ++ slot ∷ []) place).name.0 place (omega arith))

linked_last : (slots : List Slot) (slot : Slot) (links : List (Option ℕ)) (link : Option ℕ) → length links ≡ length slots
    → link ≡ place_below slots slot.name.0 (length slots)
    → get_or (links ++ link ∷ []) (length slots) None ≡ place_below (slots ++ slot ∷ []) (slot_at (slots ++ slot ∷ []) (length slots)).name.0 (length slots)
linked_last slots slot links link long is =
    ap (λ n. get_or (links ++ link ∷ []) n None) (sym long)
    ∙ get_or-append_seam links link [] None
    ∙ is
    ∙ ap (λ (s : Slot). place_below slots s.name.0 (length slots)) (sym (get_or-append_seam slots slot [] _))
    ∙ sym (place_below-append slots (slot ∷ []) (slot_at (slots ++ slot ∷ []) (length slots)).name.0 (length slots) (omega arith))

-- the next place of a name is its newest, and links to the one that was
IsIndexed-more : (slots : List Slot) (slot : Slot) (found found' : ℕ → Option ℕ) (links : List (Option ℕ)) → IsIndexed slots found links
    → ((name : ℕ) → found' name ≡ cond (nat_eq slot.name.0 name) (Some (length links)) (found name))
    → IsIndexed (slots ++ slot ∷ []) found' (links ++ found slot.name.0 ∷ [])
IsIndexed-more slots slot found found' links is new = record {
  newest = λ name.
      new name
      ∙ ap (λ n. cond (slot.name.0 == name) (Some n) (found name)) is.long
      ∙ ap (cond (slot.name.0 == name) (Some (length slots))) (is.newest name)
      ∙ sym (place_below-push slots slot name);
  long = omega (arith, length-append links (found slot.name.0 ∷ []), length-append slots (slot ∷ []), is.long);
  earlier = λ place lt. elim (up_to (length slots) (suc place) (omega (arith, length-append slots (slot ∷ []), lt))) [
    | inl older ↦ linked slots slot links (found slot.name.0) place (omega arith) is.long (is.earlier place (omega arith))
    | inr last ↦
        let e : length slots ≡ place = omega arith in
        subst (λ n. get_or (links ++ found slot.name.0 ∷ []) n None ≡ place_below (slots ++ slot ∷ []) (slot_at (slots ++ slot ∷ []) n).name.0 n) e
        (linked_last slots slot links (found slot.name.0) is.long (is.newest slot.name.0))
  ];
}

-- the same, where the link is written behind the links
pub IsIndexed-push : (slots : List Slot) (slot : Slot) (found found' : ℕ → Option ℕ) (links room written : List (Option ℕ)) (before : Option ℕ) (at : ℕ)
    → IsIndexed slots found links → room ≡ links → before ≡ found slot.name.0 → written ≡ room ++ before ∷ [] → at ≡ length room
    → ((name : ℕ) → found' name ≡ cond (nat_eq slot.name.0 name) (Some at) (found name))
    → IsIndexed (slots ++ slot ∷ []) found' written
IsIndexed-push slots slot found found' links room written before at is same was e last new =
    let shown : links ++ found slot.name.0 ∷ [] ≡ written
    = ap (λ (l : List (Option ℕ)). l ++ found slot.name.0 ∷ []) (sym same) ∙ ap (λ (b : Option ℕ). room ++ b ∷ []) (sym was) ∙ sym e in
    subst (IsIndexed (slots ++ slot ∷ []) found') shown
    (IsIndexed-more slots slot found found' links is (λ name. new name ∙ ap (λ n. cond (nat_eq slot.name.0 name) (Some n) (found name)) (last ∙ ap length same)))
