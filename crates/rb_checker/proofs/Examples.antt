-- The rules by example, on the events of texts, and which fault counts.
use Rattle.std.proofs.Common.{◌≡◌, ℕ, refl, List, [], ◌∷◌, ◌++◌, Some, None}
use Rattle.std.specs.Prelude.{codes}
use Rattle.rb_tree.specs.declared.span.Span.{Span}
use Rattle.rb_tree.specs.declared.span.NameId.{NameId}
use Rattle.rb_checker.specs.declared.event.Event.{Event}
use Rattle.rb_checker.specs.declared.event.Sight.TheVariants as sight
use Rattle.rb_checker.specs.declared.event.Around.TheVariants as around
use Rattle.rb_checker.specs.declared.fault.CheckFault.{CheckFault}
use Rattle.rb_checker.specs.declared.fault.CheckFault.TheVariants as fault
use Rattle.rb_checker.specs.Fault.{first_of}
use Rattle.rb_checker.specs.Around.{placed}
use Rattle.rb_checker.specs.Events.{event, inside}
use Rattle.rb_checker.specs.Rules.{top_level, top_level_method, broken}
use Rattle.rb_checker.specs.Twice.{params_twice}
use Rattle.rb_checker.specs.Locals.{uses_in}
use Rattle.rb_checker.specs.Settled.{unsettled}
use Rattle.rb_checker.specs.Captured.{captured_at, frame_at, start_in}

abbrev at : ℕ → Span
at n = record { from = n; to = n }

abbrev x : NameId
x = record { 0 = 0 }

abbrev y : NameId
y = record { 0 = 1 }

abbrev z : NameId
z = record { 0 = 2 }

-- `break` alone, in a loop, and in a thread that a loop starts
leaves_nothing : broken [] [] [] top_level (event sight.Leaves (at 0) ∷ []) ≡ fault.BreakOutside (at 0) ∷ []
leaves_nothing = refl

leaves_loop : broken [] [] [] top_level (inside around.Loop (at 0) (event sight.Leaves (at 7) ∷ [])) ≡ []
leaves_loop = refl

leaves_thread : broken [] [] [] top_level (inside around.Loop (at 0) (inside around.Thread (at 9) (event sight.Leaves (at 15) ∷ []))) ≡ fault.BreakOutside (at 15) ∷ []
leaves_thread = refl

-- `return` in a block of a method, and in a thread of one
returns_from_block : broken [] [] [] top_level_method (inside around.Block (at 3) (event sight.Returns (at 5) ∷ [])) ≡ []
returns_from_block = refl

returns_from_thread : broken [] [] [] top_level_method (inside around.Thread (at 3) (event sight.Returns (at 5) ∷ [])) ≡ fault.BreakOutside (at 5) ∷ []
returns_from_thread = refl

-- `puts`, and a name that no method has
calls_puts : broken (codes "puts" ∷ []) [] [] top_level (event (sight.Calls x) (at 0) ∷ []) ≡ []
calls_puts = refl

calls_nothing : broken (codes "foo" ∷ []) [] [] top_level (event (sight.Calls x) (at 0) ∷ []) ≡ fault.UnknownName (at 0) ∷ []
calls_nothing = refl

-- `{ |x, x| }`, and blocks with one name each
params_of_one_name : params_twice (uses_in (inside around.Block (at 0) (event (sight.Param x) (at 3) ∷ event (sight.Param x) (at 6) ∷ []))) ≡ fault.TwiceDefined (at 6) ∷ []
params_of_one_name = refl

abbrev settles : List Event → List CheckFault
settles events = unsettled (placed [] events)

-- an assignment to a local at a place
abbrev sets : NameId → ℕ → List Event → List Event
sets name place value = event (sight.Assigns name) (at place) ∷ inside (around.Value name) (at place) value

-- a thread that is started at a place and reads a local behind it
abbrev reads_in_thread : NameId → ℕ → ℕ → List Event
reads_in_thread name start place = event (sight.Starts 0) (at start) ∷ inside around.Thread (at start) (event (sight.Reads name) (at place) ∷ [])

-- `x = 1; Thread.new { x }`
settled_before : settles (event (sight.Assigns x) (at 2) ∷ inside (around.Value x) (at 2) [] ++ reads_in_thread x 14 20) ≡ []
settled_before = refl

-- `x = 1; Thread.new { x }; x = 2`
assigned_behind : settles (sets x 2 [] ++ (reads_in_thread x 14 20 ++ sets x 27 [])) ≡ fault.UnsettledCapture (at 20) ∷ []
assigned_behind = refl

-- `x = Thread.new { x }`
in_its_own_value : settles (sets x 2 (reads_in_thread x 11 17)) ≡ fault.UnsettledCapture (at 17) ∷ []
in_its_own_value = refl

-- `while c; x = 1; Thread.new { x }; end`
in_one_loop : settles (inside around.Loop (at 0) (sets x 11 [] ++ reads_in_thread x 23 29)) ≡ fault.UnsettledCapture (at 29) ∷ []
in_one_loop = refl

-- `x = 1; while c; Thread.new { x }; end`
only_started_in_loop : settles (sets x 2 [] ++ inside around.Loop (at 7) (reads_in_thread x 23 29)) ≡ []
only_started_in_loop = refl

-- `3.times { |y| x = y; Thread.new { x } }`: the local is the block's own, new at each iteration
of_the_block : settles (inside around.Block (at 8) (event (sight.Param y) (at 11) ∷ sets x 16 (event (sight.Reads y) (at 18) ∷ []) ++ reads_in_thread x 28 34)) ≡ []
of_the_block = refl

-- `x = 0; 3.times { x = 1; Thread.new { x } }`
of_outside_the_block : settles (sets x 2 [] ++ inside around.Block (at 15) (sets x 19 [] ++ reads_in_thread x 31 37)) ≡ fault.UnsettledCapture (at 37) ∷ []
of_outside_the_block = refl

-- `x = 1; Thread.new { x = 2 }`
assigned_inside : settles (sets x 2 [] ++ event (sight.Starts 0) (at 14) ∷ inside around.Thread (at 14) (sets x 22 [])) ≡ fault.UnsettledCapture (at 22) ∷ []
assigned_inside = refl

-- `x = 1; Thread.new { |x| x = 2 }`
param_of_the_thread : settles (sets x 2 [] ++ event (sight.Starts 0) (at 14) ∷ inside around.Thread (at 14) (event (sight.Param x) (at 21) ∷ sets x 26 [])) ≡ []
param_of_the_thread = refl

-- `Thread.new(x = 1) { x }`
assigned_in_the_arguments : settles (event (sight.Starts 0) (at 7) ∷ sets x 13 [] ++ inside around.Thread (at 7) (event (sight.Reads x) (at 20) ∷ [])) ≡ fault.UnsettledCapture (at 20) ∷ []
assigned_in_the_arguments = refl

-- what the thread at a place captures, and the names of its frame
abbrev captures : List Event → ℕ → List NameId
captures events place = captured_at (uses_in events) place

abbrev frames : List Event → ℕ → List NameId
frames events place = frame_at (uses_in events) place

abbrev reads : NameId → ℕ → List Event
reads name place = event (sight.Reads name) (at place) ∷ []

-- a thread, and a block with one parameter or with none
abbrev thread : ℕ → List Event → List Event
thread place body = event (sight.Starts 0) (at place) ∷ inside around.Thread (at place) body

abbrev block : ℕ → List Event → List Event
block place body = inside around.Block (at place) body

abbrev takes : NameId → ℕ → List Event
takes name place = event (sight.Param name) (at place) ∷ []

-- `x = 1; y = 2; Thread.new { y; x; y }`
in_order_of_first_use : captures (sets x 2 [] ++ (sets y 9 [] ++ thread 21 (reads y 27 ++ (reads x 30 ++ reads y 33)))) 21 ≡ y ∷ x ∷ []
in_order_of_first_use = refl

-- `x = 1; Thread.new { 3.times { x } }`
through_a_block : captures (sets x 2 [] ++ thread 14 (block 28 (reads x 30))) 14 ≡ x ∷ []
through_a_block = refl

-- `3.times { |y| Thread.new { y } }`: the local is that of the block round the thread
of_a_block_outside : captures (block 8 (takes y 11 ++ thread 21 (reads y 27))) 21 ≡ y ∷ []
of_a_block_outside = refl

-- `x = 1; Thread.new { 3.times { |x| x } }`: a parameter of a block inside hides the local of outside
hidden_in_a_block : captures (sets x 2 [] ++ thread 14 (block 28 (takes x 31 ++ reads x 34))) 14 ≡ []
hidden_in_a_block = refl

-- `x = 1; Thread.new(x) { |x| x }`: the arguments stand outside, and the parameter hides the local of outside
hidden_by_a_parameter : captures (sets x 2 [] ++ event (sight.Starts 0) (at 14) ∷ reads x 18 ++ inside around.Thread (at 14) (takes x 24 ++ reads x 27)) 14 ≡ []
hidden_by_a_parameter = refl

-- `x = 1; Thread.new { Thread.new { x } }`: what the inner thread uses of outside of both, the outer one captures too
through_a_thread : captures (sets x 2 [] ++ thread 14 (thread 27 (reads x 33))) 14 ≡ x ∷ []
through_a_thread = refl

into_the_inner_thread : captures (sets x 2 [] ++ thread 14 (thread 27 (reads x 33))) 27 ≡ x ∷ []
into_the_inner_thread = refl

-- `Thread.new { y = 1; Thread.new { y } }`: a local of the outer thread is captured by the inner one alone
of_the_outer_thread : captures (thread 7 (sets y 15 [] ++ thread 27 (reads y 33))) 7 ≡ []
of_the_outer_thread = refl

by_the_inner_thread : captures (thread 7 (sets y 15 [] ++ thread 27 (reads y 33))) 27 ≡ y ∷ []
by_the_inner_thread = refl

-- `x = 1; y = 2; Thread.new { Thread.new { y }; x }`: the use in the inner thread stands first
first_used_inside : captures (sets x 2 [] ++ (sets y 9 [] ++ thread 21 (thread 34 (reads y 40) ++ reads x 45))) 21 ≡ y ∷ x ∷ []
first_used_inside = refl

-- `x = 1; Thread.new { x = 2 }`: an assignment to a local of outside, which no thread may make
assigned_of_outside : captures (sets x 2 [] ++ thread 14 (sets x 22 [])) 14 ≡ x ∷ []
assigned_of_outside = refl

-- `Thread.new { x = 1 }; x = 2`: the local of outside is not known yet
not_known_yet : captures (thread 7 (sets x 15 []) ++ sets x 24 []) 7 ≡ []
not_known_yet = refl

-- `x = 1; Thread.new(2) { |y| z = y; x }`: parameters, then what is captured, then other locals
in_the_frame : frames (sets x 2 [] ++ thread 14 (takes y 22 ++ (sets z 27 (reads y 29) ++ reads x 32))) 14 ≡ y ∷ x ∷ z ∷ []
in_the_frame = refl

-- the locals of blocks have slots of their own blocks
none_of_blocks : frames (thread 7 (takes y 15 ++ block 25 (takes x 28 ++ sets z 33 []))) 7 ≡ y ∷ []
none_of_blocks = refl

-- the place where a body is started
started_there : start_in 0 (sets x 2 [] ++ thread 14 []) ≡ Some 14
started_there = refl

started_nowhere : start_in 1 (sets x 2 [] ++ thread 14 []) ≡ None
started_nowhere = refl

-- of two faults the one that stands first counts, whatever their rules
first_place : first_of (fault.UnknownName (at 9) ∷ fault.SelfOutside (at 3) ∷ []) ≡ Some (fault.SelfOutside (at 3))
first_place = refl

first_of_one_rule : first_of (fault.SelfOutside (at 9) ∷ fault.SelfOutside (at 3) ∷ []) ≡ Some (fault.SelfOutside (at 3))
first_of_one_rule = refl

-- at one place that of the lower number, in the order of the rules
name_before_class : first_of (fault.UnknownClass (at 3) ∷ fault.UnknownName (at 3) ∷ []) ≡ Some (fault.UnknownName (at 3))
name_before_class = refl

class_before_definition : first_of (fault.TwiceDefined (at 3) ∷ fault.UnknownClass (at 3) ∷ []) ≡ Some (fault.UnknownClass (at 3))
class_before_definition = refl

definition_before_capture : first_of (fault.UnsettledCapture (at 3) ∷ fault.TwiceDefined (at 3) ∷ []) ≡ Some (fault.TwiceDefined (at 3))
definition_before_capture = refl

capture_before_variables : first_of (fault.TooManyFields (at 3) ∷ fault.UnsettledCapture (at 3) ∷ []) ≡ Some (fault.UnsettledCapture (at 3))
capture_before_variables = refl

variables_before_classes : first_of (fault.TooManyClasses (at 3) ∷ fault.TooManyFields (at 3) ∷ []) ≡ Some (fault.TooManyFields (at 3))
variables_before_classes = refl

classes_before_break : first_of (fault.BreakOutside (at 3) ∷ fault.TooManyClasses (at 3) ∷ []) ≡ Some (fault.TooManyClasses (at 3))
classes_before_break = refl

break_before_self : first_of (fault.SelfOutside (at 3) ∷ fault.BreakOutside (at 3) ∷ []) ≡ Some (fault.BreakOutside (at 3))
break_before_self = refl
