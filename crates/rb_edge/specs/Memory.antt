-- What files and sinks in memory hold and answer.
use Rattle.std.specs.Prelude.{ℕ, ◌+◌, ◌-◌, ◌^◌, Bool, List, Option, Some, None, length, min, nat_eq, nat_le, nat_lt, find, if◌then◌else◌}
use Rattle.std.specs.Option.{option_map}
use Rattle.std.specs.List.{list_any}
use Rattle.std.specs.Str.{bytes_eq}
use Rattle.rb_edge.specs.declared.traits.Read.{Read}
use Rattle.rb_edge.specs.declared.traits.Read.TheVariants as read
use Rattle.rb_edge.specs.declared.traits.Write.{Write}
use Rattle.rb_edge.specs.declared.traits.Write.TheVariants as write
use Rattle.rb_edge.specs.Edge.{Held, Nothing, Bytes}

-- the bytes of the first file of this path
abbrev pub stored_in : List ℕ → List (List ℕ × List ℕ) → Option (List ℕ)
stored_in path files = option_map (λ file. file.1) (find (λ file. bytes_eq file.0 path) files)

-- what may be stored, as what is held
abbrev pub held_of : Option (List ℕ) → Held
held_of None = Nothing
held_of (Some bytes) = Bytes bytes

-- what a list of files holds under a path
abbrev pub held_in : List ℕ → List (List ℕ × List ℕ) → Held
held_in path files = held_of (stored_in path files)

-- a count after one more; it stays at the last value of a `u64`
abbrev pub one_more : ℕ → ℕ
one_more count = min (count + 1) (2 ^ 64 - 1)

-- what a read of what is stored answers: nothing is there, or its end is reached, or up to 4,096 bytes are got from the place `at` on
abbrev pub answer_of : Option (List ℕ) → ℕ → ℕ → Read
answer_of None at room = read.Missing
answer_of (Some bytes) at room = if nat_le (length bytes) at then read.End else read.Got (min (length bytes - at) (min room 4096))

-- the next call is to fail: its number is listed
abbrev pub is_to_fail : ℕ → List ℕ → Bool
is_to_fail calls failing = list_any (λ n. nat_eq n (one_more calls)) failing

-- what files in memory answer, where the call is to fail or not
abbrev pub files_answer : Bool → Option (List ℕ) → ℕ → ℕ → Read
files_answer fault stored at room = if fault then read.Failed else answer_of stored at room

-- a piece would bring what is told over the room
abbrev pub is_too_long : ℕ → List ℕ → List ℕ → Bool
is_too_long room told piece = nat_lt room (length told + length piece)

-- what a sink in memory answers to a piece: it takes all of it or nothing
abbrev pub sink_answer : Bool → List ℕ → Write
sink_answer refused piece = if refused then write.Failed else write.Took (length piece)
