-- The places of faults, and the first of them.
use Rattle.std.specs.Prelude.{ℕ, Bool, nat_lt, ◌==◌, ◌||◌, ◌&&◌, List, [], ◌∷◌, Option, Some, None, if◌then◌else◌}
use Rattle.rb_checker.specs.declared.fault.CheckFault.{CheckFault}
use Rattle.rb_checker.specs.declared.fault.CheckFault.TheVariants as fault

-- where a fault stands
abbrev pub place_of : CheckFault → ℕ
place_of (fault.UnknownName at) = at.from
place_of (fault.UnknownClass at) = at.from
place_of (fault.TwiceDefined at) = at.from
place_of (fault.UnsettledCapture at) = at.from
place_of (fault.TooManyFields at) = at.from
place_of (fault.TooManyClasses at) = at.from
place_of (fault.BreakOutside at) = at.from
place_of (fault.SelfOutside at) = at.from

-- the number of a refusal, among those of a script
abbrev pub number_of : CheckFault → ℕ
number_of (fault.UnknownName at) = 9
number_of (fault.UnknownClass at) = 10
number_of (fault.TwiceDefined at) = 11
number_of (fault.UnsettledCapture at) = 12
number_of (fault.TooManyFields at) = 13
number_of (fault.TooManyClasses at) = 14
number_of (fault.BreakOutside at) = 15
number_of (fault.SelfOutside at) = 16

-- whether a fault counts before another: it stands before it, or at its place and has the lower number
abbrev pub is_before : CheckFault → CheckFault → Bool
is_before e f = nat_lt (place_of e) (place_of f) || (place_of e == place_of f) && nat_lt (number_of e) (number_of f)

-- of two faults the one that counts
abbrev pub first_of_two : Option CheckFault → Option CheckFault → Option CheckFault
first_of_two None f = f
first_of_two (Some e) None = Some e
first_of_two (Some e) (Some f) = if is_before f e then Some f else Some e

-- the fault that counts
abbrev pub first_of : List CheckFault → Option CheckFault
first_of [] = None
first_of (e ∷ es) = first_of_two (Some e) (first_of es)
