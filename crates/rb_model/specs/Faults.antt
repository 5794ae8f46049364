-- The names of faults.
use Rattle.std.specs.Prelude.{ℕ, List, codes}
use Rattle.rb_model.specs.declared.fault.Fault.{Fault}
use Rattle.rb_model.specs.declared.fault.Fault.TheVariants as fault

-- the name that a line on standard error tells
abbrev pub fault_name : Fault → List ℕ
fault_name fault.NoMethod = codes "NoMethod"
fault_name fault.ArgumentCount = codes "ArgumentCount"
fault_name fault.TypeMismatch = codes "TypeMismatch"
fault_name fault.BadKey = codes "BadKey"
fault_name fault.ZeroDivision = codes "ZeroDivision"
fault_name fault.IntegerOverflow = codes "IntegerOverflow"
fault_name fault.IndexTooSmall = codes "IndexTooSmall"
fault_name fault.ArrayTooLong = codes "ArrayTooLong"
fault_name fault.TextTooLong = codes "TextTooLong"
fault_name fault.TooDeep = codes "TooDeep"
fault_name fault.JoinSelf = codes "JoinSelf"
fault_name fault.LockOwned = codes "LockOwned"
fault_name fault.UnlockForeign = codes "UnlockForeign"
fault_name fault.ThreadLimit = codes "ThreadLimit"
