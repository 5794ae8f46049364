-- Where each local that is read is known: each event that speaks of a local is a use of one that was made, in a scope that is seen there.
use Rattle.std.proofs.Common.{◌≡◌, ◌∙◌, refl, ap, subst, inl, inr, ℕ, Bool, true, false, cond, List, [], ◌∷◌, Option, Some, None}
use Rattle.std.specs.Prelude.{◌||◌, is_some}
use Rattle.std.specs.List.{list_any}
use Rattle.std.proofs.lemmas.Bool.{false≢true}
use Rattle.rb_tree.specs.declared.span.Span.{Span}
use Rattle.rb_tree.specs.declared.span.NameId.{NameId}
use Rattle.rb_checker.specs.declared.event.Event.{Event}
use Rattle.rb_checker.specs.declared.event.Sight.{Sight}
use Rattle.rb_checker.specs.declared.event.Sight.TheVariants as sight
use Rattle.rb_checker.specs.declared.event.Around.TheVariants as around
use Rattle.rb_checker.specs.declared.locals.Local.{Local}
use Rattle.rb_checker.specs.declared.locals.Usage.TheVariants as usage
use Rattle.rb_checker.specs.Around.{Open, placed}
use Rattle.rb_checker.specs.Locals.{Use, assigns, same_local, scopes_of, known_in, known_behind, innermost, assigned_local, use_of, uses_from, uses_in}
use Rattle.rb_checker.specs.Scoped.{made_by, made_in}
use Rattle.rb_grammar.specs.Faithful.{Each}
use Rattle.rb_grammar.proofs.Each.{each_append}
use Rattle.rb_accepted.proofs.Seen.{ReadIsKnown, ReadsAreKnown}
use Rattle.rb_accepted.proofs.Segments.{In, in_left, in_right, Begun, Threaded}
use Rattle.rb_accepted.proofs.Seeing.{any_left, any_right, own_local, IsMade}

-- there is always an innermost scope
innermost_seen : (round : Open) → In (innermost (scopes_of round)) (scopes_of round)
innermost_seen [] = inl refl
innermost_seen ((around.Loop, at) ∷ outer) = innermost_seen outer
innermost_seen ((around.Value n, at) ∷ outer) = innermost_seen outer
innermost_seen ((around.Block, at) ∷ outer) = inl refl
innermost_seen ((around.Thread, at) ∷ outer) = inl refl

-- what is known of a name is a local of that name, in one of the scopes, that is among those that are known
pub record IsKnownAs (known : List Local) (name : NameId) (scopes : List (Option ℕ)) (l : Local) : Type 0 where
  pub names : l.name ≡ name.0
  pub seen : In l.scope scopes
  pub among : list_any (same_local l) known ≡ true

-- what is known is such a local
known_as : (known : List Local) (name : NameId) (scopes : List (Option ℕ)) (l : Local) → known_in known name scopes ≡ Some l → IsKnownAs known name scopes l
known_as known name [] l e = absurd (cc)
known_as known name (scope ∷ outer) l e = by (list_any (same_local this) known) refl e (known_as known name outer l)
  where
    this : Local
    this = record { name = name.0; scope = scope }

    by : (b : Bool) → list_any (same_local this) known ≡ b → cond b (Some this) (known_in known name outer) ≡ Some l
        → (known_in known name outer ≡ Some l → IsKnownAs known name outer l) → IsKnownAs known name (scope ∷ outer) l
    by true h same rest =
        subst (IsKnownAs known name (scope ∷ outer)) (ap (λ (o : Option Local). elim o [ None ↦ this | Some x ↦ x ]) same)
        (record { names = refl; seen = inl refl; among = h })
    by false h same rest = let r = rest same in record { names = r.names; seen = inr r.seen; among = r.among }

-- a use that gives a value makes its local
made_of : (uses : List Use) (u : Use) (v : Local) → In u uses → assigns u.usage ≡ true → same_local v u.local ≡ true → IsMade uses v
made_of [] u v i a s = absurd i
made_of (w ∷ uses) u v (inl e) a s =
    let one : list_any (same_local v) (made_by u) ≡ true =
    ap (λ b. list_any (same_local v) (cond b (u.local ∷ []) [])) a ∙ ap (λ b. b || false) s in
    any_left (same_local v) (made_by w) (made_in uses) (subst (λ (x : Use). list_any (same_local v) (made_by x) ≡ true) e one)
made_of (w ∷ uses) u v (inr i) a s = any_right (same_local v) (made_by w) (made_in uses) (made_of uses u v i a s)

-- All uses of a text are given, and the starts of threads in it.
module _ (uses : List Use) (begun : List Begun) where
  -- what is so of a use
  pub record IsFine (u : Use) : Type 0 where
    pub seen : In u.local.scope (scopes_of u.round)
    pub made : IsMade uses u.local
    pub threads : Threaded begun u.round

  -- a use of a local of a name, where these stand round
  pub record IsUsed (name : ℕ) (round : Open) : Type 0 where
    pub it : Use
    pub found : In it uses
    pub names : it.local.name ≡ name
    pub stands : it.round ≡ round

  -- an event that speaks of a local is a use of it
  abbrev pub Speaks : Open → Sight → Type 0
  Speaks round (sight.Reads name) = IsUsed name.0 round
  Speaks round (sight.Assigns name) = IsUsed name.0 round
  Speaks round other = Unit {0}

  abbrev AllMade : List Local → Type 0
  AllMade known = (v : Local) → list_any (same_local v) known ≡ true → IsMade uses v

  -- what is known behind uses of the text was made too
  known_more : (known : List Local) (us : List Use) → AllMade known → ((u : Use) → In u us → In u uses) → AllMade (known_behind known us)
  known_more known [] k sub = k
  known_more known (u ∷ us) k sub = known_more (cond (assigns u.usage) (u.local ∷ known) known) us (by (assigns u.usage) refl) (λ w i. sub w (inr i))
    where
      one : assigns u.usage ≡ true → (v : Local) (b : Bool) → same_local v u.local ≡ b → (b || list_any (same_local v) known) ≡ true → IsMade uses v
      one a v true s h = made_of uses u v (sub u (inl refl)) a s
      one a v false s h = k v h

      by : (b : Bool) → assigns u.usage ≡ b → AllMade (cond b (u.local ∷ known) known)
      by true a = λ v h. one a v (same_local v u.local) refl h
      by false a = k

  -- a local of a name, in a scope that is seen
  abbrev IsOf : NameId → Open → Local → Type 0
  IsOf name round l = (l.name ≡ name.0) × In l.scope (scopes_of round)

  -- the local that is assigned is one
  assigned_as : (known : List Local) (name : NameId) (round : Open) → IsOf name round (assigned_local known name round)
  assigned_as known name round = by (known_in known name (scopes_of round)) refl
    where
      by : (o : Option Local) → known_in known name (scopes_of round) ≡ o
          → IsOf name round (elim o [ None ↦ record { name = name.0; scope = innermost (scopes_of round) } | Some local ↦ local ])
      by None e = (refl, innermost_seen round)
      by (Some l) e = let r = known_as known name (scopes_of round) l e in (r.names, r.seen)

  -- one event
  one_event : (known : List Local) (round : Open) (s : Sight) (at : Span) → AllMade known → ((u : Use) → In u (use_of known round s at) → In u uses)
      → Threaded begun round → ReadIsKnown known round s → Speaks round s × Each IsFine (use_of known round s at)
  one_event known round (sight.Assigns name) at k sub t is =
      let local = assigned_as known name round in
      let u : Use = record { usage = usage.Assigned; local = assigned_local known name round; at = at; round = round } in
      let there = sub u (inl refl) in (
        record { it = u; found = there; names = local.0; stands = refl },
        (record { seen = local.1; made = made_of uses u u.local there refl (own_local u.local); threads = t }, tt),
      )
  one_event known round (sight.Param name) at k sub t is =
      let u : Use = record { usage = usage.Param; local = record { name = name.0; scope = innermost (scopes_of round) }; at = at; round = round } in
      (tt, (record { seen = innermost_seen round; made = made_of uses u u.local (sub u (inl refl)) refl (own_local u.local); threads = t }, tt))
  one_event known round (sight.Reads name) at k sub t is = by (known_in known name (scopes_of round)) refl sub is
    where
      by : (o : Option Local) → known_in known name (scopes_of round) ≡ o
          → ((u : Use) → In u (elim o [ None ↦ [] | Some local ↦ (record { usage = usage.Read; local = local; at = at; round = round }) ∷ [] ]) → In u uses)
          → is_some o ≡ true
          → IsUsed name.0 round × Each IsFine (elim o [ None ↦ [] | Some local ↦ (record { usage = usage.Read; local = local; at = at; round = round }) ∷ [] ])
      by None e sub is = absurd (false≢true is)
      by (Some l) e sub is =
          let r = known_as known name (scopes_of round) l e in
          let u : Use = record { usage = usage.Read; local = l; at = at; round = round } in
          (record { it = u; found = sub u (inl refl); names = r.names; stands = refl }, (record { seen = r.seen; made = k l r.among; threads = t }, tt))
  one_event known round other at k sub t is = (tt, tt)

  -- the events of a text, where these are known before them
  all_events : (known : List Local) (ps : List (Open × Event)) → AllMade known → ((u : Use) → In u (uses_from known ps) → In u uses)
      → Each (λ (p : Open × Event). Threaded begun p.0) ps → ReadsAreKnown known ps
      → Each (λ (p : Open × Event). Speaks p.0 p.1.sight) ps × Each IsFine (uses_from known ps)
  all_events known [] k sub t reads = (tt, tt)
  all_events known (p ∷ more) k sub t reads =
      let now = use_of known p.0 p.1.sight p.1.at in
      let behind = uses_from (known_behind known now) more in
      let first = one_event known p.0 p.1.sight p.1.at k (λ u i. sub u (in_left u now behind i)) t.0 reads.0 in
      let rest = all_events (known_behind known now) more (known_more known now k (λ u i. sub u (in_left u now behind i))) (λ u i. sub u (in_right u now behind i)) t.1 reads.1 in
      ((first.0, rest.0), each_append IsFine now behind first.1 rest.1)

-- a text where each local that is read is known
pub text_used : (es : List Event) (begun : List Begun) → Each (λ (p : Open × Event). Threaded begun p.0) (placed [] es) → ReadsAreKnown [] (placed [] es)
    → Each (λ (p : Open × Event). Speaks (uses_in es) begun p.0 p.1.sight) (placed [] es) × Each (IsFine (uses_in es) begun) (uses_in es)
text_used es begun t reads = all_events (uses_in es) begun [] (placed [] es) (λ v h. absurd (false≢true h)) (λ u i. i) t reads
