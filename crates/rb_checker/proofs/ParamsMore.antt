-- Parameters that stand twice, one use more behind others.
use Rattle.std.proofs.Common.{◌≡◌, List, [], ◌∷◌, ◌++◌, Option, Some, None, refl, sym, ap, subst, ◌∙◌, append_assoc}
use Rattle.rb_tree.specs.declared.span.Span.{Span}
use Rattle.rb_checker.specs.declared.event.Event.{Event}
use Rattle.rb_checker.specs.declared.event.Sight.{Sight}
use Rattle.rb_checker.specs.declared.event.Sight.TheVariants as sight
use Rattle.rb_checker.specs.declared.fault.CheckFault.{CheckFault}
use Rattle.rb_checker.specs.declared.locals.Local.{Local}
use Rattle.rb_checker.specs.declared.locals.Usage.TheVariants as usage
use Rattle.rb_checker.specs.Around.{Open, behind_all}
use Rattle.rb_checker.specs.Fault.{first_of, first_of_two}
use Rattle.rb_checker.specs.Locals.{Use, use_of, param_of, known_in, scopes_of, uses_in}
use Rattle.rb_checker.specs.Twice.{with_param, param_twice, params_behind, params_of, params_twice}
use Rattle.rb_checker.specs.Walked.{Locals, Knows}
use Rattle.rb_checker.proofs.Firsts.{first_of_both}
use Rattle.rb_checker.proofs.UsesMore.{known_by, uses_next}

pub params_of-append : (before : List Local) (us vs : List Use) → params_of before (us ++ vs) ≡ params_of (params_of before us) vs
params_of-append before [] vs = refl
params_of-append before (u ∷ us) vs = params_of-append (with_param before u) us vs

params_behind-append : (before : List Local) (us vs : List Use) → params_behind before (us ++ vs) ≡ params_behind before us ++ params_behind (params_of before us) vs
params_behind-append before [] vs = refl
params_behind-append before (u ∷ us) vs =
    ap (λ es. param_twice before u ++ es) (params_behind-append (with_param before u) us vs)
    ∙ sym (append_assoc (param_twice before u) (params_behind (with_param before u) us) (params_behind (params_of (with_param before u) us) vs))

-- of what an event says, only a parameter counts
only_param : (known before : List Local) (round : Open) (s : Sight) (at : Span)
    → (params_behind before (use_of known round s at) ≡ params_behind before (param_of round s at)) × (params_of before (use_of known round s at) ≡ params_of before (param_of round s at))
only_param known before round (sight.Assigns name) at = (refl, refl)
only_param known before round (sight.Param name) at = (refl, refl)
only_param known before round (sight.Reads name) at = by (known_in known name (scopes_of round))
  where
    by : (found : Option Local) → (params_behind before (elim found [ None ↦ [] | Some local ↦ (record { usage = usage.Read; local = local; at = at; round = round }) ∷ [] ]) ≡ [])
        × (params_of before (elim found [ None ↦ [] | Some local ↦ (record { usage = usage.Read; local = local; at = at; round = round }) ∷ [] ]) ≡ before)
    by None = (refl, refl)
    by (Some local) = (refl, refl)
only_param known before round other at = (refl, refl)

-- the first of them, with one more event
pub first_param : (events more : List Event) (e : Event) (round : Open) (found next new : Option CheckFault) → more ≡ events ++ e ∷ [] → round ≡ behind_all [] events
    → found ≡ first_of (params_twice (uses_in events)) → next ≡ first_of (params_behind (params_of [] (uses_in events)) (param_of round e.sight e.at)) → new ≡ first_of_two found next
    → new ≡ first_of (params_twice (uses_in more))
first_param events more e round found next new is stands f n h =
    let behind = use_of (known_by events) (behind_all [] events) e.sight e.at in
    let before = params_of [] (uses_in events) in
    first_of_both (params_twice (uses_in events)) (params_behind before behind) (params_twice (uses_in more)) found next new
    (ap params_twice (uses_next events more e is) ∙ params_behind-append [] (uses_in events) behind) f
    (n ∙ ap (λ r. first_of (params_behind before (param_of r e.sight e.at))) stands
    ∙ ap first_of (sym (only_param (known_by events) before (behind_all [] events) e.sight e.at).0))
    h

-- the set of them, with one more event
pub params_more : (events more : List Event) (e : Event) (round : Open) (set : Locals) → more ≡ events ++ e ∷ [] → round ≡ behind_all [] events
    → Knows set (params_of (params_of [] (uses_in events)) (param_of round e.sight e.at)) → Knows set (params_of [] (uses_in more))
params_more events more e round set is stands h =
    let behind = use_of (known_by events) (behind_all [] events) e.sight e.at in
    let before = params_of [] (uses_in events) in
    subst (Knows set)
    (ap (λ r. params_of before (param_of r e.sight e.at)) stands ∙ sym (only_param (known_by events) before (behind_all [] events) e.sight e.at).1
    ∙ sym (params_of-append [] (uses_in events) behind) ∙ sym (ap (params_of []) (uses_next events more e is)))
    h
