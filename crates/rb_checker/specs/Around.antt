-- What stands round each event.
use Rattle.std.specs.Prelude.{Bool, true, false, List, [], ◌∷◌, drop}
use Rattle.rb_tree.specs.declared.span.Span.{Span}
use Rattle.rb_checker.specs.declared.event.Event.{Event}
use Rattle.rb_checker.specs.declared.event.Sight.{Sight}
use Rattle.rb_checker.specs.declared.event.Sight.TheVariants as sight
use Rattle.rb_checker.specs.declared.event.Around.{Around as Enclosure}
use Rattle.rb_checker.specs.declared.event.Around.TheVariants as around

-- what stands round a part of the text, the innermost first, each with its place
abbrev pub Open : Type 0
Open = List (Enclosure × Span)

-- what stands round the text behind an event
abbrev pub behind : Open → Sight → Span → Open
behind round (sight.Begins a) at = (a, at) ∷ round
behind round sight.Ends at = drop 1 round
behind round other at = round

-- what stands round the text behind events
abbrev pub behind_all : Open → List Event → Open
behind_all round [] = round
behind_all round (e ∷ more) = behind_all (behind round e.sight e.at) more

-- each event, with what stands round it
abbrev pub placed : Open → List Event → List (Open × Event)
placed round [] = []
placed round (e ∷ more) = (round, e) ∷ placed (behind round e.sight e.at) more

-- whether a loop or a block stands round, with no thread between
abbrev pub repeats : Open → Bool
repeats [] = false
repeats ((around.Loop, at) ∷ outer) = true
repeats ((around.Block, at) ∷ outer) = true
repeats ((around.Thread, at) ∷ outer) = false
repeats ((around.Value name, at) ∷ outer) = repeats outer

-- whether no thread stands round
abbrev pub in_no_thread : Open → Bool
in_no_thread [] = true
in_no_thread ((around.Thread, at) ∷ outer) = false
in_no_thread (other ∷ outer) = in_no_thread outer
