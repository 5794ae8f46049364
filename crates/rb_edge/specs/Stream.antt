-- What the program makes of one step of a writer or a reader of the system.
use Rattle.std.specs.Prelude.{ℕ, ◌||◌, ◌==◌, nat_lt, if◌then◌else◌, List, Option, Result, Ok, Err, take}
use Rattle.std.specs.Io.KnownBytes.{Appends, Keeps}
use Rattle.rb_edge.specs.declared.traits.Read.{Read}
use Rattle.rb_edge.specs.declared.traits.Read.TheVariants as read
use Rattle.rb_edge.specs.declared.traits.Write.{Write}
use Rattle.rb_edge.specs.declared.traits.Write.TheVariants as write
use Rattle.rb_edge.specs.Memory.{one_more}

-- the answer to a write of so many bytes: what the writer took; it failed, also where it took nothing of bytes that are there
abbrev pub write_answer : {E : Type 0} → (asked : ℕ) → Result ℕ E → Write
write_answer asked (Ok n) = if nat_lt 0 n || asked == 0 then write.Took n else write.Failed
write_answer asked (Err e) = write.Failed

-- the answer to a read into so much room that gave n bytes: none, where there is room, is the end
abbrev pub read_count : (room n : ℕ) → Read
read_count room n = if nat_lt 0 n || room == 0 then read.Got n else read.End

-- what an answer says of the bytes that the writer holds, where it tells them: those taken were added, or all stay
abbrev pub Takes : (old new : Option (List ℕ)) → List ℕ → Write → Type 0
Takes old new bytes (write.Took n) = Appends old new (take n bytes)
Takes old new bytes write.Failed = Keeps old new

-- the count of failures after an answer
abbrev pub failed_after : Write → ℕ → ℕ
failed_after (write.Took n) failed = failed
failed_after write.Failed failed = one_more failed
