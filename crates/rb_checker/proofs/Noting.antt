-- What is noted of a text, with one more event behind it.
use Rattle.std.proofs.Common.{◌≡◌, ℕ, zero, suc, ◌+◌, ◌≤◌, Bool, true, false, cond, List, [], ◌∷◌, ◌++◌, Option, Some, None, length, drop, refl, sym, ap, subst, ◌∙◌, reverse, arith, append-nil, length-append}
use Rattle.std.specs.Prelude.{◌||◌, ◌&&◌, nat_lt, nat_eq, unwrap_or, is_some}
use Rattle.std.specs.HashMap as map
use Rattle.std.specs.HashSet.{contains_by}
use Rattle.std.specs.List.{list_any}
use Rattle.std.specs.Map.{lookup}
use Rattle.std.proofs.lemmas.Bool.{false≢true}
use Rattle.std.proofs.lemmas.Bool.Decides.{nat_tests}
use Rattle.std.proofs.lemmas.List.{drop-append-le}
use Rattle.std.proofs.lemmas.List.Folds.{list_any-append}
use Rattle.std.proofs.Math.Seq.{drop-append_seam, drop-nil}
use Rattle.rb_tree.specs.declared.span.Span.{Span}
use Rattle.rb_checker.specs.declared.event.Event.{Event}
use Rattle.rb_checker.specs.declared.event.Sight.{Sight}
use Rattle.rb_checker.specs.declared.event.Sight.TheVariants as sight
use Rattle.rb_checker.specs.declared.event.Around.{Around}
use Rattle.rb_checker.specs.declared.locals.Local.{Local}
use Rattle.rb_checker.specs.declared.locals.Used.{Used}
use Rattle.rb_checker.specs.declared.settling.Assignments.{Assignments}
use Rattle.rb_checker.specs.declared.settling.Enclosure.{Enclosure}
use Rattle.rb_checker.specs.declared.settling.Held.{Held}
use Rattle.rb_checker.specs.declared.walking.Walk.{Walk}
use Rattle.rb_checker.specs.Around.{Open, placed}
use Rattle.rb_checker.specs.Assigned.{IsNoted, assigns_as, behind_start, start_behind, end_of, enclosure_of, same_held, has_held}
use Rattle.rb_checker.specs.Locals.{Use, same_local, use_of, known_behind, uses_from, uses_behind_start, starts_at}
use Rattle.rb_checker.specs.Settled.{holds}
use Rattle.rb_checker.specs.Walked.{Walked, uses_as, known_after}
use Rattle.rb_checker.proofs.Placing.{placed-more}
use Rattle.rb_checker.proofs.UsesMore.{known_by, uses_from-more}

other_way : (a b : Bool) → (a || b) ≡ (b || a)
other_way true true = refl
other_way true false = refl
other_way false true = refl
other_way false false = refl

-- whether some of a list pass a test, with more behind
pub any_more : {A : Type 0} (test : A → Bool) (us vs : List A) (old new : Bool) → old ≡ list_any test us → new ≡ (list_any test vs || old) → new ≡ list_any test (us ++ vs)
any_more test us vs old new o n = n ∙ ap (λ b. list_any test vs || b) o ∙ other_way (list_any test vs) (list_any test us) ∙ sym (list_any-append test us vs)

-- whether some pass behind the first m, with one more that passes, or that does not
ends_with : {A : Type 0} (test : A → Bool) (us : List A) (u : A) → test u ≡ true → list_any test (us ++ u ∷ []) ≡ true
ends_with test [] u h = ap (λ b. b || false) h
ends_with test (x ∷ us) u h = ap (λ b. test x || b) (ends_with test us u h) ∙ always (test x)
  where
    always : (b : Bool) → (b || true) ≡ true
    always true = refl
    always false = refl

passes_last : {A : Type 0} (test : A → Bool) (us : List A) (u : A) (m : ℕ) → test u ≡ true → list_any test (drop m (us ++ u ∷ [])) ≡ nat_lt m (length us + 1)
passes_last test us u zero h = ends_with test us u h ∙ (grind (arith, nat_tests))
passes_last test [] u (suc m) h = ap (list_any test) (drop-nil m) ∙ none_behind m
  where
    none_behind : (n : ℕ) → false ≡ nat_lt (suc n) (0 + 1)
    none_behind n = grind (arith, nat_tests)
passes_last test (x ∷ us) u (suc m) h = passes_last test us u m h ∙ (grind (arith, nat_tests))

fails_last : {A : Type 0} (test : A → Bool) (us : List A) (u : A) (m : ℕ) → test u ≡ false → list_any test (drop m (us ++ u ∷ [])) ≡ list_any test (drop m us)
fails_last test [] u zero h = ap (λ b. b || false) h
fails_last test [] u (suc m) h = ap (list_any test) (drop-nil m)
fails_last test (x ∷ us) u zero h = ap (λ b. test x || b) (fails_last test us u zero h)
fails_last test (x ∷ us) u (suc m) h = fails_last test us u m h

-- the last that passes, with uses behind
pub ends_more : (v : Local) (us : List Use) (used : Option Used) (round : Open) (at : Span) (m old new count : ℕ)
    → list_any (assigns_as v) (drop m us) ≡ nat_lt m old → count ≡ length us + length (uses_as used round at)
    → new ≡ cond (list_any (assigns_as v) (uses_as used round at)) count old
    → list_any (assigns_as v) (drop m (us ++ uses_as used round at)) ≡ nat_lt m new
ends_more v us None round at m old new count o is n = ap (λ xs. list_any (assigns_as v) (drop m xs)) (append-nil us) ∙ o ∙ ap (nat_lt m) (sym n)
ends_more v us (Some used) round at m old new count o is n = by (assigns_as v this) refl n
  where
    this : Use
    this = record { usage = used.usage; local = used.local; at = at; round = round }

    by : (passes : Bool) → assigns_as v this ≡ passes → new ≡ cond (passes || false) count old → list_any (assigns_as v) (drop m (us ++ this ∷ [])) ≡ nat_lt m new
    by true h n = passes_last (assigns_as v) us this m h ∙ ap (nat_lt m) (sym (n ∙ is))
    by false h n = fails_last (assigns_as v) us this m h ∙ o ∙ ap (nat_lt m) (sym n)

-- the word that starts a thread uses no local
starts_none : (place : ℕ) (known : List Local) (round : Open) (s : Sight) (at : Span) → starts_at place s at ≡ true → use_of known round s at ≡ []
starts_none place known round (sight.Starts body) at h = refl
starts_none place known round other at h = absurd (false≢true h)

-- the uses behind a start, with one more event
behind_start-more : (place : ℕ) (known : List Local) (ps : List (Open × Event)) (p : Open × Event)
    → uses_behind_start place known (ps ++ p ∷ [])
    ≡ cond (list_any (λ (q : Open × Event). starts_at place q.1.sight q.1.at) ps) (uses_behind_start place known ps ++ use_of (known_after known ps) p.0 p.1.sight p.1.at) []
behind_start-more place known [] p = by (starts_at place p.1.sight p.1.at)
  where
    by : (here : Bool) → cond {A = List Use} here [] [] ≡ []
    by true = refl
    by false = refl
behind_start-more place known (q ∷ ps) p =
    by (starts_at place q.1.sight q.1.at) refl (behind_start-more place (known_behind known (use_of known q.0 q.1.sight q.1.at)) ps p)
  where
    after : List Local
    after = known_behind known (use_of known q.0 q.1.sight q.1.at)

    rest : Bool
    rest = list_any (λ (r : Open × Event). starts_at place r.1.sight r.1.at) ps

    last : List Use
    last = use_of (known_after after ps) p.0 p.1.sight p.1.at

    by : (here : Bool) → starts_at place q.1.sight q.1.at ≡ here
        → uses_behind_start place after (ps ++ p ∷ []) ≡ cond rest (uses_behind_start place after ps ++ last) []
        → cond here (uses_from known (ps ++ p ∷ [])) (uses_behind_start place after (ps ++ p ∷ []))
        ≡ cond (here || rest) (cond here (uses_from known ps) (uses_behind_start place after ps) ++ last) []
    by true h more =
        uses_from-more known ps p
        ∙ ap (λ ks. uses_from known ps ++ use_of (known_after ks ps) p.0 p.1.sight p.1.at) (sym (ap (known_behind known) (starts_none place known q.0 q.1.sight q.1.at h)))
    by false h more = more

-- what is noted of a start, with one more event
starts_more : (text : List (Open × Event)) (p : Open × Event) (vs : List Use) (place uses : ℕ) (old : Option ℕ)
    → use_of (known_after [] text) p.0 p.1.sight p.1.at ≡ vs → uses ≡ length (uses_from [] text)
    → uses_behind_start place [] text ≡ behind_start old (uses_from [] text)
    → is_some old ≡ list_any (λ (q : Open × Event). starts_at place q.1.sight q.1.at) text → unwrap_or old 0 ≤ length (uses_from [] text)
    → uses_behind_start place [] (text ++ p ∷ []) ≡ behind_start (start_behind old (starts_at place p.1.sight p.1.at) uses) (uses_from [] text ++ vs)
starts_more text p vs place uses (Some before) here count told found low =
    behind_start-more place [] text p
    ∙ ap (λ b. cond b (uses_behind_start place [] text ++ use_of (known_after [] text) p.0 p.1.sight p.1.at) []) (sym found)
    ∙ ap (λ us. us ++ use_of (known_after [] text) p.0 p.1.sight p.1.at) told ∙ ap (λ us. drop before (uses_from [] text) ++ us) here
    ∙ sym (drop-append-le before (uses_from [] text) vs low)
starts_more text p vs place uses None here count told found low =
    behind_start-more place [] text p
    ∙ ap (λ b. cond b (uses_behind_start place [] text ++ use_of (known_after [] text) p.0 p.1.sight p.1.at) []) (sym found)
    ∙ by (starts_at place p.1.sight p.1.at) refl
  where
    by : (starts : Bool) → starts_at place p.1.sight p.1.at ≡ starts → [] ≡ behind_start (cond starts (Some uses) None) (uses_from [] text ++ vs)
    by true h =
        sym (starts_none place (known_after [] text) p.0 p.1.sight p.1.at h) ∙ here ∙ sym (drop-append_seam (uses_from [] text) vs)
        ∙ ap (λ n. drop n (uses_from [] text ++ vs)) (sym count)
    by false h = refl

found_more : (old : Option ℕ) (here : Bool) (uses : ℕ) → is_some (start_behind old here uses) ≡ (is_some old || (here || false))
found_more (Some before) here uses = refl
found_more None true uses = refl
found_more None false uses = refl

low_more : (old : Option ℕ) (here : Bool) (uses n m : ℕ) → uses ≡ n → unwrap_or old 0 ≤ n → unwrap_or (start_behind old here uses) 0 ≤ n + m
low_more (Some before) here uses n m is low = omega arith
low_more None true uses n m is low = omega arith
low_more None false uses n m is low = omega arith

-- all that is noted, with one more event
pub noted_more : (old new : Assignments) (text more : List (Open × Event)) (p : Open × Event) (used : Option Used) → more ≡ text ++ p ∷ [] → IsNoted old text
    → use_of (known_after [] text) p.0 p.1.sight p.1.at ≡ uses_as used p.0 p.1.at
    → new.uses ≡ old.uses + length (uses_as used p.0 p.1.at)
    → ((v : Local) → contains_by (λ (k : Local). same_local v k) new.known ≡ (list_any (λ (u : Use). assigns_as v u) (uses_as used p.0 p.1.at) || contains_by (λ (k : Local). same_local v k) old.known))
    → ((v : Local) → end_of new.ends v ≡ cond (list_any (λ (u : Use). assigns_as v u) (uses_as used p.0 p.1.at)) new.uses (end_of old.ends v))
    → ((place : ℕ) → map.get nat_eq new.starts place ≡ start_behind (map.get nat_eq old.starts place) (starts_at place p.1.sight p.1.at) old.uses)
    → ((v : Local) (e : Around × Span) → has_held new.held v e ≡ (list_any (λ (u : Use). assigns_as v u && holds u.round e) (uses_as used p.0 p.1.at) || has_held old.held v e))
    → IsNoted new more
noted_more old new text more p used is noted uses counted known ends starts held =
    let us = uses_from [] text in
    let vs = uses_as used p.0 p.1.at in
    let all : uses_from [] (text ++ p ∷ []) ≡ us ++ vs = uses_from-more [] text p ∙ ap (λ xs. us ++ xs) uses in
    let count : new.uses ≡ length us + length vs = counted ∙ ap (λ n. n + length vs) noted.uses in
    subst (IsNoted new) (sym is) (record {
      uses = count ∙ sym (length-append us vs) ∙ ap length (sym all);
      known = λ v. any_more (assigns_as v) us vs (contains_by (λ (k : Local). same_local v k) old.known) (contains_by (λ (k : Local). same_local v k) new.known) (noted.known v) (known v)
          ∙ ap (list_any (assigns_as v)) (sym all);
      ends = λ v m. ap (λ xs. list_any (assigns_as v) (drop m xs)) all ∙ ends_more v us used p.0 p.1.at m (end_of old.ends v) (end_of new.ends v) new.uses (noted.ends v m) count (ends v);
      starts = λ place. starts_more text p vs place old.uses (map.get nat_eq old.starts place) uses noted.uses (noted.starts place) (noted.found place) (noted.low place)
          ∙ ap (λ o. behind_start o (us ++ vs)) (sym (starts place)) ∙ ap (behind_start (map.get nat_eq new.starts place)) (sym all);
      found = λ place. ap is_some (starts place) ∙ found_more (map.get nat_eq old.starts place) (starts_at place p.1.sight p.1.at) old.uses
          ∙ ap (λ b. b || (starts_at place p.1.sight p.1.at || false)) (noted.found place)
          ∙ sym (list_any-append (λ (q : Open × Event). starts_at place q.1.sight q.1.at) text (p ∷ []));
      low = λ place. subst (λ (o : Option ℕ). unwrap_or o 0 ≤ length (uses_from [] (text ++ p ∷ []))) (sym (starts place))
          (subst (λ n. unwrap_or (start_behind (map.get nat_eq old.starts place) (starts_at place p.1.sight p.1.at) old.uses) 0 ≤ n) (sym (length-append us vs) ∙ ap length (sym all))
          (low_more (map.get nat_eq old.starts place) (starts_at place p.1.sight p.1.at) old.uses (length us) (length vs) noted.uses (noted.low place)));
      held = λ v e. any_more (λ (u : Use). assigns_as v u && holds u.round e) us vs (has_held old.held v e) (has_held new.held v e) (noted.held v e) (held v e)
          ∙ ap (list_any (λ (u : Use). assigns_as v u && holds u.round e)) (sym all);
    })

-- what is noted before the first event
pub none_noted : (a : Assignments) → a.uses ≡ 0 → a.known.keys ≡ [] → a.ends.entries ≡ [] → a.starts.entries ≡ [] → a.held.keys ≡ [] → IsNoted a []
none_noted a uses known ends starts held = record {
  uses = uses;
  known = λ v. ap (list_any (same_local v)) known;
  ends = λ v m. ap (list_any (assigns_as v)) (drop-nil m) ∙ none_behind m ∙ ap (λ es. nat_lt m (unwrap_or (lookup (same_local v) es) 0)) (sym ends);
  starts = λ place. ap (λ es. behind_start (lookup (nat_eq place) es) []) (sym starts);
  found = λ place. ap (λ es. is_some (lookup (nat_eq place) es)) starts;
  low = λ place. subst (λ (es : List (ℕ × ℕ)). unwrap_or (lookup (nat_eq place) es) 0 ≤ 0) (sym starts) (omega arith);
  held = λ v e. none_held (enclosure_of e.0) v e.1;
}
  where
    none_behind : (m : ℕ) → false ≡ nat_lt m 0
    none_behind m = grind (arith, nat_tests)

    none_held : (x : Option Enclosure) (v : Local) (at : Span)
        → (elim x [ None ↦ false | Some e ↦ contains_by (λ (k : Held). same_held (record { local = v; enclosure = e; from = at.from }) k) a.held ]) ≡ false
    none_held None v at = refl
    none_held (Some e) v at = ap (list_any (λ (k : Held). same_held (record { local = v; enclosure = e; from = at.from }) k)) held

-- all that is noted, with one more event, where a walk stands behind those before it
pub noted_at : (old new : Assignments) (walk : Walk) (round : Open) (events more : List Event) (e : Event) (used : Option Used) → more ≡ events ++ e ∷ [] → round ≡ walk.round.items
    → Walked walk events → IsNoted old (placed [] events)
    → use_of (known_by events) (reverse walk.round.items) e.sight e.at ≡ uses_as used (reverse walk.round.items) e.at
    → new.uses ≡ old.uses + length (uses_as used (reverse round) e.at)
    → ((v : Local) → contains_by (λ (k : Local). same_local v k) new.known ≡ (list_any (λ (u : Use). assigns_as v u) (uses_as used (reverse round) e.at) || contains_by (λ (k : Local). same_local v k) old.known))
    → ((v : Local) → end_of new.ends v ≡ cond (list_any (λ (u : Use). assigns_as v u) (uses_as used (reverse round) e.at)) new.uses (end_of old.ends v))
    → ((place : ℕ) → map.get nat_eq new.starts place ≡ start_behind (map.get nat_eq old.starts place) (starts_at place e.sight e.at) old.uses)
    → ((v : Local) (a : Around × Span) → has_held new.held v a ≡ (list_any (λ (u : Use). assigns_as v u && holds u.round a) (uses_as used (reverse round) e.at) || has_held old.held v a))
    → IsNoted new (placed [] more)
noted_at old new walk round events more e used is stands w noted uses counted known ends starts held =
    let text = placed [] events in
    let here : use_of (known_after [] text) (reverse round) e.sight e.at ≡ uses_as used (reverse round) e.at =
    subst (λ (r : Open). use_of (known_after [] text) r e.sight e.at ≡ uses_as used r e.at) (ap reverse (sym stands)) uses in
    subst (IsNoted new) (ap (λ (r : Open). text ++ (r, e) ∷ []) (ap reverse stands ∙ w.round) ∙ sym (ap (placed []) is ∙ placed-more [] events e))
    (noted_more old new text (text ++ (reverse round, e) ∷ []) (reverse round, e) used refl noted here counted known ends starts held)
