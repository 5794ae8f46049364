-- Events and what stands round them, one behind the other.
use Rattle.std.proofs.Common.{◌≡◌, ℕ, ◌+◌, ◌<◌, List, [], ◌∷◌, ◌++◌, Option, length, take, get_or, refl, sym, ap, ◌∙◌, append-nil}
use Rattle.std.specs.List.{flat_map}
use Rattle.std.proofs.lemmas.Grind.{flat_map-append}
use Rattle.std.proofs.lemmas.List.{take_more}
use Rattle.rb_checker.specs.declared.event.Event.{Event}
use Rattle.rb_checker.specs.declared.fault.CheckFault.{CheckFault}
use Rattle.rb_checker.specs.Around.{Open, behind, behind_all, placed}
use Rattle.rb_checker.specs.Fault.{first_of, first_of_two}
use Rattle.rb_checker.proofs.Firsts.{first_of-append}

pub behind_all-more : (round : Open) (events : List Event) (e : Event) → behind_all round (events ++ e ∷ []) ≡ behind (behind_all round events) e.sight e.at
behind_all-more round [] e = refl
behind_all-more round (f ∷ events) e = behind_all-more (behind round f.sight f.at) events e

pub placed-more : (round : Open) (events : List Event) (e : Event) → placed round (events ++ e ∷ []) ≡ placed round events ++ (behind_all round events, e) ∷ []
placed-more round [] e = refl
placed-more round (f ∷ events) e = ap (λ x. (round, f) ∷ x) (placed-more (behind round f.sight f.at) events e)

-- the first fault of events, with one more behind them
pub first_more : (rule : Open × Event → List CheckFault) (events : List Event) (e : Event) (found : Option CheckFault)
    → found ≡ first_of (flat_map rule (placed [] events))
    → first_of_two found (first_of (rule (behind_all [] events, e))) ≡ first_of (flat_map rule (placed [] (events ++ e ∷ [])))
first_more rule events e found h =
    ap (λ o. first_of_two o (first_of (rule (behind_all [] events, e)))) h
    ∙ ap (λ es. first_of_two (first_of (flat_map rule (placed [] events))) (first_of es)) (sym (append-nil (rule (behind_all [] events, e))))
    ∙ sym (first_of-append (flat_map rule (placed [] events)) (rule (behind_all [] events, e) ++ []))
    ∙ sym (ap first_of (ap (flat_map rule) (placed-more [] events e) ∙ flat_map-append rule (placed [] events) ((behind_all [] events, e) ∷ [])))

-- what stands round behind one more event
pub stack_more : (events : List Event) (i : ℕ) (d : Event) (stack new : Open) → i < length events → stack ≡ behind_all [] (take i events)
    → new ≡ behind stack (get_or events i d).sight (get_or events i d).at → new ≡ behind_all [] (take (i + 1) events)
stack_more events i d stack new h s n =
    n ∙ ap (λ r. behind r (get_or events i d).sight (get_or events i d).at) s ∙ sym (behind_all-more [] (take i events) (get_or events i d)) ∙ sym (ap (behind_all []) (take_more events i d h))

-- the first fault once one more event is looked at
pub first_at : (rule : Open × Event → List CheckFault) (events : List Event) (i : ℕ) (d : Event) (stack : Open) (found now new : Option CheckFault) → i < length events
    → stack ≡ behind_all [] (take i events) → found ≡ first_of (flat_map rule (placed [] (take i events)))
    → now ≡ first_of (rule (stack, get_or events i d)) → new ≡ first_of_two found now → new ≡ first_of (flat_map rule (placed [] (take (i + 1) events)))
first_at rule events i d stack found now new h s f n e =
    e ∙ ap (first_of_two found) (n ∙ ap (λ r. first_of (rule (r, get_or events i d))) s)
    ∙ first_more rule (take i events) (get_or events i d) found f
    ∙ sym (ap (λ es. first_of (flat_map rule (placed [] es))) (take_more events i d h))
