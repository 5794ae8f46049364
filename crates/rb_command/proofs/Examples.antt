-- What command lines ask for, by example.
use Rattle.std.specs.Prelude.{ℕ, ◌≡◌, List, [], ◌∷◌, Option, Some, None, codes, refl}
use Rattle.rb_command.specs.Words.{Text, Wanted, run, shapes, work, command_of}

abbrev asks : Text → ℕ → ℕ → Option Wanted
asks file steps heap_words = Some (run (record { file = file; steps = steps; heap_words = heap_words }))

abbrev of : List Text → Option Wanted
of words = command_of (codes "run" ∷ words)

value_in_the_word : of (codes "a.rb" ∷ codes "--steps=5" ∷ []) ≡ asks (codes "a.rb") 5 1048576
value_in_the_word = refl

file_behind_the_end : of (codes "--" ∷ codes "-a.rb" ∷ []) ≡ asks (codes "-a.rb") 100000000 1048576
file_behind_the_end = refl

end_as_file : of (codes "--" ∷ codes "--" ∷ []) ≡ asks (codes "--") 100000000 1048576
end_as_file = refl

option_before_the_file : of (codes "--steps" ∷ codes "5" ∷ codes "a.rb" ∷ []) ≡ asks (codes "a.rb") 5 1048576
option_before_the_file = refl

both_options : of (codes "--heap-words=4096" ∷ codes "a.rb" ∷ codes "--steps" ∷ codes "1000000000000" ∷ []) ≡ asks (codes "a.rb") 1000000000000 4096
both_options = refl

no_file : of [] ≡ None
no_file = refl

no_step : of (codes "--steps" ∷ codes "0" ∷ codes "a.rb" ∷ []) ≡ None
no_step = refl

option_given_twice : of (codes "--steps" ∷ codes "5" ∷ codes "--steps" ∷ codes "6" ∷ codes "a.rb" ∷ []) ≡ None
option_given_twice = refl

too_many_steps : of (codes "--steps" ∷ codes "1000000000001" ∷ codes "a.rb" ∷ []) ≡ None
too_many_steps = refl

too_small_a_heap : of (codes "--heap-words" ∷ codes "4095" ∷ codes "a.rb" ∷ []) ≡ None
too_small_a_heap = refl

single_hyphen : of (codes "-" ∷ []) ≡ None
single_hyphen = refl

for_shapes : command_of (codes "shapes" ∷ codes "a.rb" ∷ []) ≡ Some (shapes (record { file = codes "a.rb"; steps = 100000000; heap_words = 1048576 }))
for_shapes = refl

shapes_behind_the_end : command_of (codes "shapes" ∷ codes "--" ∷ codes "-a.rb" ∷ []) ≡ Some (shapes (record { file = codes "-a.rb"; steps = 100000000; heap_words = 1048576 }))
shapes_behind_the_end = refl

shapes_with_steps : command_of (codes "shapes" ∷ codes "a.rb" ∷ codes "--steps=5" ∷ []) ≡ None
shapes_with_steps = refl

shapes_with_heap_words : command_of (codes "shapes" ∷ codes "--heap-words" ∷ codes "4096" ∷ codes "a.rb" ∷ []) ≡ None
shapes_with_heap_words = refl

no_command : command_of (codes "--help" ∷ []) ≡ None
no_command = refl

sign : of (codes "--steps=+5" ∷ codes "a.rb" ∷ []) ≡ None
sign = refl

two_files : of (codes "a.rb" ∷ codes "b.rb" ∷ []) ≡ None
two_files = refl

value_that_is_no_number : of (codes "--steps" ∷ codes "a.rb" ∷ []) ≡ None
value_that_is_no_number = refl

end_as_value : of (codes "--steps" ∷ codes "--" ∷ codes "a.rb" ∷ []) ≡ None
end_as_value = refl

-- ---- the command that takes two numbers

abbrev worked : List Text → Option Wanted
worked words = command_of (codes "work" ∷ words)

abbrev works : ℕ → ℕ → Option Wanted
works number size = Some (work (record { number = number; size = size }))

values_behind : worked (codes "--number" ∷ codes "1" ∷ codes "--size" ∷ codes "4" ∷ []) ≡ works 1 4
values_behind = refl

values_inside : worked (codes "--number=1" ∷ codes "--size=4" ∷ []) ≡ works 1 4
values_inside = refl

size_before_number : worked (codes "--size=4" ∷ codes "--number" ∷ codes "1" ∷ []) ≡ works 1 4
size_before_number = refl

greatest : worked (codes "--number" ∷ codes "2147483647" ∷ codes "--size" ∷ codes "100000" ∷ []) ≡ works 2147483647 100000
greatest = refl

least : worked (codes "--number=0" ∷ codes "--size=1" ∷ codes "--" ∷ []) ≡ works 0 1
least = refl

no_size : worked (codes "--number" ∷ codes "1" ∷ []) ≡ None
no_size = refl

no_place : worked (codes "--number=1" ∷ codes "--size=0" ∷ []) ≡ None
no_place = refl

too_great_a_number : worked (codes "--number=2147483648" ∷ codes "--size=4" ∷ []) ≡ None
too_great_a_number = refl

too_great_a_size : worked (codes "--number=1" ∷ codes "--size=100001" ∷ []) ≡ None
too_great_a_size = refl

number_given_twice : worked (codes "--number=1" ∷ codes "--number=1" ∷ codes "--size=4" ∷ []) ≡ None
number_given_twice = refl

work_with_a_file : worked (codes "--number=1" ∷ codes "--size=4" ∷ codes "a.rb" ∷ []) ≡ None
work_with_a_file = refl

word_behind_the_end : worked (codes "--number=1" ∷ codes "--size=4" ∷ codes "--" ∷ codes "a.rb" ∷ []) ≡ None
word_behind_the_end = refl

end_before_the_options : worked (codes "--" ∷ codes "--number=1" ∷ codes "--size=4" ∷ []) ≡ None
end_before_the_options = refl

work_with_steps : worked (codes "--number=1" ∷ codes "--size=4" ∷ codes "--steps=5" ∷ []) ≡ None
work_with_steps = refl
