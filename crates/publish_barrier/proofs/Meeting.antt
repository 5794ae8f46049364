-- References that are met while what moves is gathered.
use Rattle.std.proofs.Common.{◌≡◌, ◌==◌, ℕ, zero, suc, true, false, List, [], ◌∷◌, ◌++◌, get_or, Option, Some, None, inl, inr, refl, sym, ap, ◌∙◌, subst}
use Rattle.std.specs.Prelude.{IsSomeAnd, is_some, position, slice_get}
use Rattle.std.proofs.lemmas.Bool.{eqb-true}
use Rattle.std.proofs.lemmas.List.{map-append}
use Rattle.std.proofs.lemmas.List.Quantifiers.{position-Some}
use Rattle.rb_model.specs.declared.moved.MovedItem.{MovedItem}
use Rattle.rb_model.specs.declared.thing.Thing.{Thing as Copied}
use Rattle.rb_model.specs.declared.value.Id.{Id}
use Rattle.rb_model.specs.declared.value.Ref.{Ref}
use Rattle.rb_model.specs.Doing.{seen}
use Rattle.rb_model.specs.Moving.{item_of, items_of, ref_of, refs_in_moved, refs_in_thing, sort_of_thing}
use Rattle.rb_model.specs.Private.{Private, Item, held}
use Rattle.rb_model.specs.Things.{Thing, mentioned}
use Rattle.rb_model.specs.Values.{Value as Val}
use Rattle.rb_shared.specs.Asking.{IsOwnId, MayMove, NamesOne}
use Rattle.rb_shared.specs.Lists.{Each, Has}
use Rattle.rb_shared.proofs.Runs.{each_append, each_more, has_behind, has_front}
use Rattle.publish_barrier.specs.Gathers.{Gathers, IsAddressed, IsTold}
use Rattle.publish_barrier.specs.Leaving.{IsNoThread, Looked, named, serials, things_in}
use Rattle.publish_barrier.specs.Moves.{GoesOn, IsMet, MayAllMove}
use Rattle.publish_barrier.proofs.Absence.{same_by}
use Rattle.publish_barrier.proofs.Leaving.{leaves_named}
use Rattle.publish_barrier.proofs.May.{held_own}
use Rattle.publish_barrier.proofs.Naming.{named-append, named_thing}
use Rattle.publish_barrier.proofs.Rows.{flat-append}

-- ---- lists

each_self : {X : Type 0} (P : X → Type 0) (xs : List X) → ((x : X) → Has xs x → P x) → Each P xs
each_self P [] f = tt
each_self P (x ∷ xs) f = (f x (inl refl), each_self P xs (λ y h. f y (inr h)))

each_push : {X : Type 0} (P : X → Type 0) (xs : List X) (x : X) → Each P xs → P x → Each P (xs ++ x ∷ [])
each_push P xs x each is = each_append P xs (x ∷ []) each (is, tt)

-- ---- a reference that names one of these things

abbrev Names : MovedItem → Ref → Type 0
Names m r = ((ref_of m).sort ≡ r.sort) × (m.id ≡ r.id)

names_front : (ms ns : List MovedItem) (r : Ref) → NamesOne ms r → NamesOne (ms ++ ns) r
names_front [] ns r h = absurd h
names_front (m ∷ ms) ns r (inl e) = inl e
names_front (m ∷ ms) ns r (inr h) = inr (names_front ms ns r h)

names_last : (ms : List MovedItem) (m : MovedItem) (r : Ref) → Names m r → NamesOne (ms ++ m ∷ []) r
names_last [] m r e = inl e
names_last (n ∷ ms) m r e = inr (names_last ms m r e)

-- ---- one that was met before, behind a look

met_behind : (refs : List Ref) (ms : List MovedItem) (ws : List Ref) (r : Ref) → IsTold refs ms r → (x : Ref) → IsMet refs ms (r ∷ ws) x → IsMet refs ms ws x
met_behind refs ms ws r told x (inl n) = inl n
met_behind refs ms ws r told x (inr (inl n)) = inr (inl n)
met_behind refs ms ws r told x (inr (inr (inr has))) = inr (inr has)
met_behind refs ms ws r told x (inr (inr (inl e))) =
    subst (IsMet refs ms ws) (sym e) (elim told as (λ t. IsMet refs ms ws r) [ inl n ↦ inl n | inr n ↦ inr (inl n) ])

-- a reference that is noted, or names one that moves, waits no more
pub goes_by : (h : Private) (refs : List Ref) (ms : List MovedItem) (ws : List Ref) (r : Ref) → IsTold refs ms r → MayAllMove h refs ms (r ∷ ws)
    → GoesOn h refs ms (r ∷ ws) ms ws
goes_by h refs ms ws r told may = record {
  may = record {
    own = may.own;
    things = may.things;
    met = each_more (IsMet refs ms (r ∷ ws)) (IsMet refs ms ws) (met_behind refs ms ws r told) (refs_in_moved ms) may.met;
    unlaid = may.unlaid;
    waiting = may.waiting.1;
  };
  met = met_behind refs ms ws r told;
}

-- one that is not private is noted
pub is_noted : (h : Private) (refs : List Ref) (r : Ref) → is_some (held h r.id) ≡ false → IsAddressed h refs r → Has refs r
is_noted h refs r e (inl has) = has
is_noted h refs r e (inr is) = absurd (let wrong : false ≡ true = sym e ∙ is in cc)

-- ---- a private thing that moves

abbrev pub moving : Ref → Copied → MovedItem
moving r t = record { id = r.id; thing = t; at = 0 }

module _ (h : Private) (refs : List Ref) (ms : List MovedItem) (ws ws' : List Ref) (r : Ref) (t : Copied)
    (sort : r.sort ≡ sort_of_thing t) (waits : ws' ≡ ws ++ refs_in_thing t) where
  met_taking : (x : Ref) → IsMet refs ms (r ∷ ws) x → IsMet refs (ms ++ moving r t ∷ []) ws' x
  met_taking x (inl n) = inl n
  met_taking x (inr (inl n)) = inr (inl (names_front ms (moving r t ∷ []) x n))
  met_taking x (inr (inr (inl e))) = inr (inl (names_last ms (moving r t) x (sym sort ∙ ap (λ (y : Ref). y.sort) (sym e), ap (λ (y : Ref). y.id) (sym e))))
  met_taking x (inr (inr (inr has))) = inr (inr (subst (λ us. Has us x) (sym waits) (has_front ws (refs_in_thing t) x has)))

  mentions_met : Each (IsMet refs (ms ++ moving r t ∷ []) ws') (refs_in_thing t)
  mentions_met = each_self (IsMet refs (ms ++ moving r t ∷ []) ws') (refs_in_thing t) (λ x has. inr (inr (subst (λ us. Has us x) (sym waits) (has_behind ws (refs_in_thing t) x has))))

  pub goes_taking : IsOwnId h.thread r.id → MayMove h.thread (seen t) → Each (IsAddressed h refs) (refs_in_thing t) → MayAllMove h refs ms (r ∷ ws)
      → GoesOn h refs ms (r ∷ ws) (ms ++ moving r t ∷ []) ws'
  goes_taking own may addressed all = record {
    may = record {
      own = each_push (λ (m : MovedItem). IsOwnId h.thread m.id) ms (moving r t) all.own own;
      things =
          subst (Each (λ (x : Item). MayMove h.thread x.thing)) (sym (map-append item_of ms (moving r t ∷ [])))
          (each_push (λ (x : Item). MayMove h.thread x.thing) (items_of ms) (item_of (moving r t)) all.things may);
      met =
          subst (Each (IsMet refs (ms ++ moving r t ∷ []) ws')) (sym (flat-append (λ (m : MovedItem). refs_in_thing m.thing) ms (moving r t)))
          (each_append (IsMet refs (ms ++ moving r t ∷ []) ws') (refs_in_moved ms) (refs_in_thing t)
          (each_more (IsMet refs ms (r ∷ ws)) (IsMet refs (ms ++ moving r t ∷ []) ws') met_taking (refs_in_moved ms) all.met) mentions_met);
      unlaid = each_push (λ (m : MovedItem). m.at ≡ 0) ms (moving r t) all.unlaid refl;
      waiting = subst (Each (IsAddressed h refs)) (sym waits) (each_append (IsAddressed h refs) ws (refs_in_thing t) all.waiting.1 addressed);
    };
    met = met_taking;
  }

-- it is looked at
pub looked_taking : (h : Private) (ms ms' : List MovedItem) (ws ws' : List Ref) (r : Ref) (t : Copied) (x : Thing) → ms' ≡ ms ++ moving r t ∷ [] → ws' ≡ ws ++ refs_in_thing t
    → seen t ≡ x → IsNoThread x → held h r.id ≡ Some x → Looked (held h r.id) r.id (items_of ms) (items_of ms') (named ws) (named ws')
looked_taking h ms ms' ws ws' r t x more waits is made e =
    subst (λ o. Looked o r.id (items_of ms) (items_of ms') (named ws) (named ws')) (sym e) (
      ap items_of more ∙ map-append item_of ms (moving r t ∷ []) ∙ ap (λ (y : Thing). let m : Item = record { id = r.id; thing = y } in items_of ms ++ m ∷ []) is,
      ap named waits ∙ named-append ws (refs_in_thing t) ∙ ap (λ us. named ws ++ us) (named_thing t (subst IsNoThread (sym is) made) ∙ ap (λ y. things_in (mentioned y)) is),
    )

-- ---- one whose thing was taken before

pub never_some : (o : Option ℕ) → ((i : ℕ) → o ≡ Some i → ⊥) → is_some o ≡ false
never_some None never = refl
never_some (Some i) never = absurd (never i refl)

names_here : (t : ℕ) (ms : List MovedItem) (i : ℕ) (r : Ref) → Each (λ (m : MovedItem). IsOwnId t m.id) ms → r.id.thread ≡ t
    → IsSomeAnd (slice_get ms i) (λ m. r.sort ≡ sort_of_thing m.thing) → get_or (serials (items_of ms)) i r.id.serial ≡ r.id.serial → NamesOne ms r
names_here t [] i r own here sort serial = absurd sort
names_here t (m ∷ ms) zero r own here sort serial = inl (sym sort, same_by m.id r.id (own.0.0 ∙ sym here) serial)
names_here t (m ∷ ms) (suc i) r own here sort serial = inr (names_here t ms i r own.1 here sort serial)

held_thread : (h : Private) (id : Id) → is_some (held h id) ≡ true → id.thread ≡ h.thread
held_thread h id e = by (held h id) refl e
  where
    by : (o : Option Thing) → held h id ≡ o → is_some o ≡ true → id.thread ≡ h.thread
    by None q e = absurd (cc)
    by (Some x) q e = held_own h id x q

pub names_taken : (h : Private) (refs : List Ref) (ms : List MovedItem) (ws : List Ref) (r : Ref) (keys : List ℕ) (i : ℕ) → keys ≡ serials (items_of ms)
    → position (λ s. r.id.serial == s) keys ≡ Some i → IsSomeAnd (slice_get ms i) (λ m. r.sort ≡ sort_of_thing m.thing) → is_some (held h r.id) ≡ true
    → MayAllMove h refs ms (r ∷ ws) → NamesOne ms r
names_taken h refs ms ws r keys i same found sort here may =
    let there = position-Some (λ s. r.id.serial == s) keys i r.id.serial found in
    names_here h.thread ms i r may.own (held_thread h r.id here) sort
    (ap (λ ks. get_or ks i r.id.serial) (sym same) ∙ sym (eqb-true r.id.serial (get_or keys i r.id.serial) there.1))

-- ---- the whole

pub may_none : (h : Private) (refs : List Ref) (ws : List Ref) → Each (IsAddressed h refs) ws → MayAllMove h refs [] ws
may_none h refs ws waiting = record { own = tt; things = tt; met = tt; unlaid = tt; waiting = waiting }

pub all_wait : (refs : List Ref) (ms : List MovedItem) (ws : List Ref) → Each (IsMet refs ms ws) ws
all_wait refs ms ws = each_self (IsMet refs ms ws) ws (λ x has. inr (inr has))

-- where nothing waits, what was met is told
pub all_told : (refs : List Ref) (ms : List MovedItem) (ws rs : List Ref) → ws ≡ [] → Each (IsMet refs ms ws) rs → Each (IsMet refs ms ws) (refs_in_moved ms)
    → Each (IsTold refs ms) (rs ++ refs_in_moved ms)
all_told refs ms ws rs empty first mentioned =
    each_more (IsMet refs ms ws) (IsTold refs ms) (λ x met. by x (subst (λ us. IsMet refs ms us x) empty met)) (rs ++ refs_in_moved ms)
    (each_append (IsMet refs ms ws) rs (refs_in_moved ms) first mentioned)
  where
    by : (x : Ref) → IsMet refs ms [] x → IsTold refs ms x
    by x (inl n) = inl n
    by x (inr (inl n)) = inr n
    by x (inr (inr has)) = absurd has

-- what moves with references moves with the values that hold them
pub gathers_with : (h : Private) (refs : List Ref) (vs : List Val) (first rs : List Ref) (ms : List MovedItem) → first ≡ rs → named rs ≡ things_in vs
    → Gathers h refs (named first) first ms → Gathers h refs vs rs ms
gathers_with h refs vs first rs ms same names g = record {
  leaves = leaves_named h _ (named first) vs (items_of ms) (ap named same ∙ names) g.leaves;
  own = g.own;
  once = g.once;
  things = g.things;
  told = subst (λ us. Each (IsTold refs ms) (us ++ refs_in_moved ms)) same g.told;
  unlaid = g.unlaid;
}
