-- Slots against names.
use Rattle.std.proofs.Common.{◌≡◌, ℕ, suc, ◌<◌, ◌≤◌, Bool, true, false, cond, List, [], ◌∷◌, ◌++◌, length, drop, take, Option, Some, None, refl, sym, ap, ◌∙◌, arith}
use Rattle.std.specs.Prelude.{◌==◌, slice_get, slice_set}
use Rattle.std.specs.Option.{option_map}
use Rattle.std.proofs.lemmas.Bool.Decides.{nat_tests}
use Rattle.rb_tree.specs.declared.span.NameId.{NameId}
use Rattle.rb_model.specs.Values.{Value, Nil, or_nil}
use Rattle.rb_machine.specs.Scopes.{or_else, found, look, assign, fresh}
use Rattle.rb_code.specs.Layout.{bound, slot_of, is_at, has_slot}

abbrev at_zero : Bool → Option ℕ
at_zero b = cond b (Some 0) None

-- a slot that is tested is the name's slot
is_slot : (o : Option ℕ) (slot : ℕ) → is_at o slot ≡ true → o ≡ Some slot
is_slot None slot h = absurd (cc)
is_slot (Some s) slot h = let e : s ≡ slot = grind (arith, nat_tests) in ap Some e

pub slot_is : (name : NameId) (names : List NameId) (slot : ℕ) → has_slot name names slot ≡ true → slot_of name names ≡ Some slot
slot_is name names slot h = is_slot (slot_of name names) slot h

-- a name without a slot has no binding
no_branch : (b : Bool) (v : Value) → at_zero b ≡ None → cond b (Some v) None ≡ None
no_branch true v h = absurd (cc)
no_branch false v h = refl

no_rest : (o : Option ℕ) (b : Bool) → or_else (option_map suc o) (cond b (Some 0) None) ≡ None → o ≡ None
no_rest None b h = refl
no_rest (Some j) b h = absurd (cc)

no_here : (o : Option ℕ) (b : Bool) → or_else (option_map suc o) (cond b (Some 0) None) ≡ None → at_zero b ≡ None
no_here None b h = h
no_here (Some j) b h = absurd (cc)

unbound : (name : NameId) (names : List NameId) (vs : List Value) → slot_of name names ≡ None → found name (bound names vs) ≡ None
unbound name [] vs h = refl
unbound name (n ∷ ns) [] h = refl
unbound name (n ∷ ns) (v ∷ vs) h =
    rw (unbound name ns vs (no_rest (slot_of name ns) (n.0 == name.0) h)) (no_branch (n.0 == name.0) v (no_here (slot_of name ns) (n.0 == name.0) h))

-- a name with a slot has the value there
abbrev Held : NameId → List NameId → List Value → ℕ → Type 0
Held name names vs i = (v : Value) × (slice_get vs i ≡ Some v) × (found name (bound names vs) ≡ Some v)

here : (b : Bool) (o : Option Value) (v : Value) (vs : List Value) (i : ℕ) → o ≡ None → at_zero b ≡ Some i
    → (w : Value) × (slice_get (v ∷ vs) i ≡ Some w) × (or_else o (cond b (Some v) None) ≡ Some w)
here true o v vs i n h = let e : i ≡ 0 = cc in (v, rw e refl, rw n refl)
here false o v vs i n h = absurd (cc)

step : (name n : NameId) (ns : List NameId) (v : Value) (vs : List Value) (i : ℕ) (o : Option ℕ) → slot_of name ns ≡ o → ((j : ℕ) → slot_of name ns ≡ Some j → Held name ns vs j)
    → or_else (option_map suc o) (cond (n.0 == name.0) (Some 0) None) ≡ Some i → Held name (n ∷ ns) (v ∷ vs) i
step name n ns v vs i None e rest h = here (n.0 == name.0) _ v vs i (unbound name ns vs e) h
step name n ns v vs i (Some j) e rest h =
    let k = rest j e in
    let same : i ≡ suc j = cc in
    (k.0, rw same k.1, rw k.2 refl)

pub held : (name : NameId) (names : List NameId) (vs : List Value) (i : ℕ) → length names ≤ length vs → slot_of name names ≡ Some i → Held name names vs i
held name [] vs i l h = absurd (cc)
held name (n ∷ ns) [] i l h = absurd (omega (arith, l))
held name (n ∷ ns) (v ∷ vs) i l h = step name n ns v vs i (slot_of name ns) refl (λ j e. held name ns vs j (omega (arith, l)) e) h

-- reading the slot is looking the name up
pub read_slot : (name : NameId) (names : List NameId) (vs : List Value) (i : ℕ) (v : Value) → length names ≤ length vs → has_slot name names i ≡ true → slice_get vs i ≡ Some v → look name (bound names vs) ≡ v
read_slot name names vs i v l s g =
    let k = held name names vs i l (slot_is name names i s) in
    let e : k.0 ≡ v = let f : Some k.0 ≡ Some v = sym k.1 ∙ g in cc in
    ap or_nil k.2 ∙ e

-- the slot is among the values
pub slot_value : (name : NameId) (names : List NameId) (vs : List Value) (i : ℕ) → length names ≤ length vs → has_slot name names i ≡ true → (v : Value) × (slice_get vs i ≡ Some v)
slot_value name names vs i l s = let k = held name names vs i l (slot_is name names i s) in (k.0, k.1)

-- a write at the slot is an assignment to the name
put_here : (b : Bool) (n : NameId) (i : ℕ) (v w : Value) (vs : List Value) (ns : List NameId) → at_zero b ≡ Some i
    → bound (n ∷ ns) (slice_set (v ∷ vs) i w) ≡ cond b ((n, w) ∷ bound ns vs) ((n, v) ∷ bound ns vs)
put_here true n i v w vs ns h = let e : i ≡ 0 = cc in rw e refl
put_here false n i v w vs ns h = absurd (cc)

put_step : (name n : NameId) (ns : List NameId) (v w : Value) (vs : List Value) (i : ℕ) (o : Option ℕ) → slot_of name ns ≡ o → length ns ≤ length vs
    → ((j : ℕ) → slot_of name ns ≡ Some j → bound ns (slice_set vs j w) ≡ assign name w (bound ns vs))
    → or_else (option_map suc o) (cond (n.0 == name.0) (Some 0) None) ≡ Some i → bound (n ∷ ns) (slice_set (v ∷ vs) i w) ≡ assign name w ((n, v) ∷ bound ns vs)
put_step name n ns v w vs i None e l rest h = rw (unbound name ns vs e) (put_here (n.0 == name.0) n i v w vs ns h)
put_step name n ns v w vs i (Some j) e l rest h =
    let k = held name ns vs j l e in
    let same : i ≡ suc j = cc in
    rw (k.2, same) (ap (λ bs. (n, v) ∷ bs) (rest j e))

bound_set : (name : NameId) (names : List NameId) (vs : List Value) (i : ℕ) (w : Value) → length names ≤ length vs → slot_of name names ≡ Some i → bound names (slice_set vs i w) ≡ assign name w (bound names vs)
bound_set name [] vs i w l h = absurd (cc)
bound_set name (n ∷ ns) [] i w l h = absurd (omega (arith, l))
bound_set name (n ∷ ns) (v ∷ vs) i w l h = put_step name n ns v w vs i (slot_of name ns) refl (omega (arith, l)) (λ j e. bound_set name ns vs j w (omega (arith, l)) e) h

pub write_slot : (name : NameId) (names : List NameId) (vs : List Value) (i : ℕ) (w : Value) → length names ≤ length vs → has_slot name names i ≡ true → bound names (slice_set vs i w) ≡ assign name w (bound names vs)
write_slot name names vs i w l s = bound_set name names vs i w l (slot_is name names i s)

-- the slot is one of the layout's
slot_step : (i n : ℕ) (o : Option ℕ) (b : Bool) → ((j : ℕ) → o ≡ Some j → j < n) → or_else (option_map suc o) (cond b (Some 0) None) ≡ Some i → i < suc n
slot_step i n None true f h = let e : i ≡ 0 = cc in omega arith
slot_step i n None false f h = absurd (cc)
slot_step i n (Some j) b f h = let e : i ≡ suc j = cc in omega (arith, f j refl)

slot_below : (name : NameId) (names : List NameId) (i : ℕ) → slot_of name names ≡ Some i → i < length names
slot_below name [] i h = absurd (cc)
slot_below name (n ∷ ns) i h = let s = slot_step i (length ns) (slot_of name ns) (n.0 == name.0) (λ j e. slot_below name ns j e) h in omega (arith, s)

pub slot_within : (name : NameId) (names : List NameId) (i : ℕ) → has_slot name names i ≡ true → i < length names
slot_within name names i s = slot_below name names i (slot_is name names i s)

-- frames that agree on their slots are the same scope
pub bound_agrees : (names : List NameId) (vs ws : List Value) → ((i : ℕ) → i < length names → slice_get vs i ≡ slice_get ws i) → bound names vs ≡ bound names ws
bound_agrees [] vs ws h = refl
bound_agrees (n ∷ ns) [] [] h = refl
bound_agrees (n ∷ ns) [] (w ∷ ws) h = let e = h 0 (omega arith) in absurd (cc)
bound_agrees (n ∷ ns) (v ∷ vs) [] h = let e = h 0 (omega arith) in absurd (cc)
bound_agrees (n ∷ ns) (v ∷ vs) (w ∷ ws) h =
    let e : Some v ≡ Some w = h 0 (omega arith) in
    let f : v ≡ w = cc in
    let r : bound ns vs ≡ bound ns ws = bound_agrees ns vs ws (λ i l. h (suc i) (omega (arith, l))) in
    rw (f, r) refl

-- a block's frame is that of what is around it, with its own names behind
pub bound_append : (names own : List NameId) (vs : List Value) → length names ≤ length vs → bound (names ++ own) vs ≡ bound names vs ++ bound own (drop (length names) vs)
bound_append [] own vs l = refl
bound_append (n ∷ ns) own [] l = absurd (omega (arith, l))
bound_append (n ∷ ns) own (v ∷ vs) l = ap (λ bs. (n, v) ∷ bs) (bound_append ns own vs (omega (arith, l)))

pub bound_length : (names : List NameId) (vs : List Value) → length names ≤ length vs → length (bound names vs) ≡ length names
bound_length [] vs l = refl
bound_length (n ∷ ns) [] l = absurd (omega (arith, l))
bound_length (n ∷ ns) (v ∷ vs) l = let e = bound_length ns vs (omega (arith, l)) in omega (arith, e)

pub bound_take : (names own : List NameId) (vs : List Value) → length names ≤ length vs → take (length names) (bound (names ++ own) vs) ≡ bound names vs
bound_take [] own vs l = refl
bound_take (n ∷ ns) own [] l = absurd (omega (arith, l))
bound_take (n ∷ ns) own (v ∷ vs) l = ap (λ bs. (n, v) ∷ bs) (bound_take ns own vs (omega (arith, l)))

-- the value that a fresh scope gives its i-th name
abbrev pub given : List Value → ℕ → Value
given vs i = or_nil (slice_get vs i)

pub bound_fresh : (own : List NameId) (ws vs : List Value) → ((i : ℕ) → i < length own → slice_get ws i ≡ Some (given vs i)) → bound own ws ≡ fresh own vs
bound_fresh [] ws vs h = refl
bound_fresh (n ∷ ns) [] vs h = let e = h 0 (omega arith) in absurd (cc)
bound_fresh (n ∷ ns) (w ∷ ws) [] h =
    let e : Some w ≡ Some Nil = h 0 (omega arith) in
    let f : w ≡ Nil = cc in
    let r : bound ns ws ≡ fresh ns [] = bound_fresh ns ws [] (λ i l. h (suc i) (omega (arith, l))) in
    rw (f, r) refl
bound_fresh (n ∷ ns) (w ∷ ws) (v ∷ vs) h =
    let e : Some w ≡ Some v = h 0 (omega arith) in
    let f : w ≡ v = cc in
    let r : bound ns ws ≡ fresh ns vs = bound_fresh ns ws vs (λ i l. h (suc i) (omega (arith, l))) in
    rw (f, r) refl
