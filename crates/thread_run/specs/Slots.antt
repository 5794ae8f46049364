-- How many slots the first row of a thread has.
use Rattle.std.specs.Prelude.{ℕ, ◌+◌, Option, Some, None, slice_get}
use Rattle.rb_code.specs.declared.scripted.CodeBody.{CodeBody}
use Rattle.rb_code.specs.declared.scripted.CodeScript.{CodeScript}

-- those of its frame and of what may wait behind it, and some to spare
abbrev pub slots_in : Option CodeBody → ℕ
slots_in (Some b) = b.size + b.waits + 16384
slots_in None = 0

abbrev pub slots_of_body : CodeScript → ℕ → ℕ
slots_of_body c number = slots_in (slice_get c.bodies number)
