-- The uses of locals in a text, with one more event behind it.
use Rattle.std.proofs.Common.{◌≡◌, List, [], ◌∷◌, ◌++◌, Option, reverse, refl, sym, ap, subst, ◌∙◌, append_assoc, append-nil}
use Rattle.std.specs.List.{flat_map}
use Rattle.std.proofs.lemmas.Grind.{flat_map-append}
use Rattle.rb_checker.specs.declared.event.Event.{Event}
use Rattle.rb_checker.specs.declared.fault.CheckFault.{CheckFault}
use Rattle.rb_checker.specs.declared.locals.Local.{Local}
use Rattle.rb_checker.specs.declared.locals.Used.{Used}
use Rattle.rb_checker.specs.declared.walking.Walk.{Walk}
use Rattle.rb_checker.specs.Around.{Open, behind, behind_all, placed}
use Rattle.rb_checker.specs.Locals.{Use, use_of, known_behind, uses_from, uses_in}
use Rattle.rb_checker.specs.Walked.{Knows, Walked, uses_as, known_after}
use Rattle.rb_checker.specs.Fault.{first_of, first_of_two}
use Rattle.rb_checker.proofs.Firsts.{first_of_both}
use Rattle.rb_checker.proofs.Placing.{behind_all-more, placed-more}

pub known_after-more : (known : List Local) (ps : List (Open × Event)) (p : Open × Event) → known_after known (ps ++ p ∷ []) ≡ known_behind (known_after known ps) (use_of (known_after known ps) p.0 p.1.sight p.1.at)
known_after-more known [] p = refl
known_after-more known (q ∷ ps) p = known_after-more (known_behind known (use_of known q.0 q.1.sight q.1.at)) ps p

pub uses_from-more : (known : List Local) (ps : List (Open × Event)) (p : Open × Event) → uses_from known (ps ++ p ∷ []) ≡ uses_from known ps ++ use_of (known_after known ps) p.0 p.1.sight p.1.at
uses_from-more known [] p = append-nil (use_of known p.0 p.1.sight p.1.at)
uses_from-more known (q ∷ ps) p =
    let now = use_of known q.0 q.1.sight q.1.at in
    ap (λ us. now ++ us) (uses_from-more (known_behind known now) ps p)
    ∙ sym (append_assoc now (uses_from (known_behind known now) ps) (use_of (known_after (known_behind known now) ps) p.0 p.1.sight p.1.at))

-- the locals that are known behind the events of a text
abbrev pub known_by : List Event → List Local
known_by events = known_after [] (placed [] events)

-- the uses, with those of one more event
pub uses_next : (events more : List Event) (e : Event) → more ≡ events ++ e ∷ []
    → uses_in more ≡ uses_in events ++ use_of (known_by events) (behind_all [] events) e.sight e.at
uses_next events more e is = ap (uses_from []) (ap (placed []) is ∙ placed-more [] events e) ∙ uses_from-more [] (placed [] events) (behind_all [] events, e)

-- what an event uses, by what a walk says of it
used_here : (walk : Walk) (events : List Event) (e : Event) (used : Option Used) → Walked walk events
    → use_of (known_by events) (reverse walk.round.items) e.sight e.at ≡ uses_as used (reverse walk.round.items) e.at
    → use_of (known_by events) (behind_all [] events) e.sight e.at ≡ uses_as used (reverse walk.round.items) e.at
used_here walk events e used w is = ap (λ r. use_of (known_by events) r e.sight e.at) (sym w.round) ∙ is

pub walked_more : (walk new : Walk) (events more : List Event) (e : Event) (used : Option Used) → more ≡ events ++ e ∷ [] → Walked walk events
    → use_of (known_by events) (reverse walk.round.items) e.sight e.at ≡ uses_as used (reverse walk.round.items) e.at
    → reverse new.round.items ≡ behind (reverse walk.round.items) e.sight e.at
    → ((locals : List Local) → Knows walk.known locals → Knows new.known (known_behind locals (uses_as used (reverse walk.round.items) e.at)))
    → Walked new more
walked_more walk new events more e used is w uses round known = record {
  round = round ∙ ap (λ r. behind r e.sight e.at) w.round ∙ sym (behind_all-more [] events e) ∙ sym (ap (behind_all []) is);
  known = subst (Knows new.known)
      (ap (known_behind (known_by events)) (sym (used_here walk events e used w uses)) ∙ sym (known_after-more [] (placed [] events) (behind_all [] events, e))
      ∙ sym (ap (known_after []) (ap (placed []) is ∙ placed-more [] events e)))
      (known (known_by events) w.known);
}

pub uses_more : (walk : Walk) (events more : List Event) (e : Event) (used : Option Used) → more ≡ events ++ e ∷ [] → Walked walk events
    → use_of (known_by events) (reverse walk.round.items) e.sight e.at ≡ uses_as used (reverse walk.round.items) e.at
    → uses_in more ≡ uses_in events ++ uses_as used (reverse walk.round.items) e.at
uses_more walk events more e used is w uses =
    uses_next events more e is ∙ ap (λ us. uses_in events ++ us) (used_here walk events e used w uses)

-- a walk before the first event
pub none_walked : (walk : Walk) → walk.round.items ≡ [] → Knows walk.known [] → Walked walk []
none_walked walk round known = record { round = ap reverse round; known = known }

-- the first fault of uses, with those of one more event
pub first_used : (judge : Use → List CheckFault) (walk : Walk) (round : Open) (events more : List Event) (e : Event) (used : Option Used) (found next new : Option CheckFault)
    → more ≡ events ++ e ∷ [] → round ≡ walk.round.items → Walked walk events
    → use_of (known_by events) (reverse walk.round.items) e.sight e.at ≡ uses_as used (reverse walk.round.items) e.at
    → found ≡ first_of (flat_map judge (uses_in events)) → next ≡ first_of (flat_map judge (uses_as used (reverse round) e.at)) → new ≡ first_of_two found next
    → new ≡ first_of (flat_map judge (uses_in more))
first_used judge walk round events more e used found next new is stands w uses f n h =
    let now = uses_as used (reverse walk.round.items) e.at in
    first_of_both (flat_map judge (uses_in events)) (flat_map judge now) (flat_map judge (uses_in more)) found next new
    (ap (flat_map judge) (uses_more walk events more e used is w uses) ∙ flat_map-append judge (uses_in events) now)
    f (n ∙ ap (λ (r : Open). first_of (flat_map judge (uses_as used (reverse r) e.at))) stands) h
