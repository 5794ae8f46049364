-- A text that starts no thread has no captures.
use Rattle.std.proofs.Common.{◌≡◌, Bool, true, false, cond, List, [], ◌∷◌, ◌++◌, drop, Option, Some, None, refl, sym, ap, ◌∙◌}
use Rattle.std.specs.Prelude.{◌||◌}
use Rattle.std.specs.List.{list_any, flat_map}
use Rattle.std.proofs.lemmas.Bool.{false≢true}
use Rattle.std.proofs.lemmas.Grind.{flat_map-append}
use Rattle.rb_tree.specs.declared.span.Span.{Span}
use Rattle.rb_checker.specs.declared.event.Event.{Event}
use Rattle.rb_checker.specs.declared.event.Sight.{Sight}
use Rattle.rb_checker.specs.declared.event.Sight.TheVariants as sight
use Rattle.rb_checker.specs.declared.event.Around.TheVariants as around
use Rattle.rb_checker.specs.declared.fault.CheckFault.{CheckFault}
use Rattle.rb_checker.specs.declared.fault.CheckFault.TheVariants as fault
use Rattle.rb_checker.specs.declared.locals.Local.{Local}
use Rattle.rb_checker.specs.declared.locals.Usage.TheVariants as usage
use Rattle.rb_checker.specs.Around.{Open, behind, placed, in_no_thread}
use Rattle.rb_checker.specs.Locals.{Use, use_of, known_behind, known_in, scopes_of, uses_from}
use Rattle.rb_checker.specs.Settled.{opens, is_settled_for_all, unsettled}
use Rattle.rb_checker.specs.Settling.{begins_thread}

module _ (text : List (Open × Event)) where
  settled_outside : (v : Local) (round : Open) → in_no_thread round ≡ true → is_settled_for_all text v round ≡ true
  settled_outside v [] h = refl
  settled_outside v ((around.Loop, at) ∷ outer) h = settled_outside v outer h
  settled_outside v ((around.Value name, at) ∷ outer) h = settled_outside v outer h
  settled_outside v ((around.Block, at) ∷ outer) h = by (opens v.scope (around.Block, at)) (settled_outside v outer h)
    where
      by : (opened : Bool) → is_settled_for_all text v outer ≡ true → cond opened true (is_settled_for_all text v outer) ≡ true
      by true rest = refl
      by false rest = rest
  settled_outside v ((around.Thread, at) ∷ outer) h = absurd (false≢true h)

  abbrev judge : Use → List CheckFault
  judge u = cond (is_settled_for_all text u.local u.round) [] (fault.UnsettledCapture u.at ∷ [])

  none_here : (known : List Local) (round : Open) (s : Sight) (at : Span) → in_no_thread round ≡ true → flat_map judge (use_of known round s at) ≡ []
  none_here known round s at h = by s
    where
      one : (v : Local) → (cond (is_settled_for_all text v round) [] (fault.UnsettledCapture at ∷ []) ++ []) ≡ []
      one v = ap (λ b. cond b [] (fault.UnsettledCapture at ∷ []) ++ []) (settled_outside v round h)

      by_found : (found : Option Local)
          → flat_map judge (elim found [ None ↦ [] | Some local ↦ (record { usage = usage.Read; local = local; at = at; round = round }) ∷ [] ]) ≡ []
      by_found None = refl
      by_found (Some v) = one v

      by : (t : Sight) → flat_map judge (use_of known round t at) ≡ []
      by (sight.Assigns name) = one _
      by (sight.Param name) = one _
      by (sight.Reads name) = by_found (known_in known name (scopes_of round))
      by other = refl

  outside : (round : Open) → in_no_thread round ≡ true → in_no_thread (drop 1 round) ≡ true
  outside [] h = refl
  outside ((around.Loop, at) ∷ outer) h = h
  outside ((around.Block, at) ∷ outer) h = h
  outside ((around.Value name, at) ∷ outer) h = h
  outside ((around.Thread, at) ∷ outer) h = absurd (false≢true h)

  still_outside : (round : Open) (s : Sight) (at : Span) → in_no_thread round ≡ true → begins_thread s ≡ false → in_no_thread (behind round s at) ≡ true
  still_outside round (sight.Begins around.Loop) at h none = h
  still_outside round (sight.Begins around.Block) at h none = h
  still_outside round (sight.Begins (around.Value name)) at h none = h
  still_outside round (sight.Begins around.Thread) at h none = absurd (false≢true (sym none))
  still_outside round sight.Ends at h none = outside round h
  still_outside round other at h none = h

  none_of : (x y : Bool) → (x || y) ≡ false → (x ≡ false) × (y ≡ false)
  none_of false false h = (refl, refl)
  none_of false true h = absurd (false≢true (sym h))
  none_of true y h = absurd (false≢true (sym h))

  none_from : (known : List Local) (round : Open) (events : List Event) → in_no_thread round ≡ true → list_any (λ (e : Event). begins_thread e.sight) events ≡ false
      → flat_map judge (uses_from known (placed round events)) ≡ []
  none_from known round [] h none = refl
  none_from known round (e ∷ events) h none =
      let now = use_of known round e.sight e.at in
      let both = none_of (begins_thread e.sight) (list_any (λ (f : Event). begins_thread f.sight) events) none in
      flat_map-append judge now (uses_from (known_behind known now) (placed (behind round e.sight e.at) events))
      ∙ ap (λ l. l ++ flat_map judge (uses_from (known_behind known now) (placed (behind round e.sight e.at) events))) (none_here known round e.sight e.at h)
      ∙ none_from (known_behind known now) (behind round e.sight e.at) events (still_outside round e.sight e.at h both.0) both.1

-- where no thread begins, nothing is unsettled
pub none_unsettled : (events : List Event) → list_any (λ (e : Event). begins_thread e.sight) events ≡ false → unsettled (placed [] events) ≡ []
none_unsettled events none = none_from (placed [] events) [] [] events refl none
