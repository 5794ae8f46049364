-- The numbers of built-in methods.
use Rattle.std.specs.Prelude.{Bool, true, false, Option, Some, None, if◌then◌else◌, codes}
use Rattle.std.specs.Str.{bytes_eq}
use Rattle.rb_machine.specs.Scopes.{Text}
use Rattle.rb_builtin.specs.declared.builtin.Builtin.{Builtin}
use Rattle.rb_builtin.specs.declared.builtin.Builtin.TheVariants as builtin

-- the name of a built-in method
abbrev pub name_of : Builtin → Text
name_of builtin.Equal = codes "=="
name_of builtin.IsNil = codes "nil?"
name_of builtin.ToS = codes "to_s"
name_of builtin.Inspect = codes "inspect"
name_of builtin.Plus = codes "+"
name_of builtin.Minus = codes "-"
name_of builtin.Times = codes "*"
name_of builtin.Over = codes "/"
name_of builtin.Modulo = codes "%"
name_of builtin.Negate = codes "-@"
name_of builtin.Less = codes "<"
name_of builtin.AtMost = codes "<="
name_of builtin.More = codes ">"
name_of builtin.AtLeast = codes ">="
name_of builtin.TimesLoop = codes "times"
name_of builtin.Upto = codes "upto"
name_of builtin.Length = codes "length"
name_of builtin.Index = codes "[]"
name_of builtin.SetIndex = codes "[]="
name_of builtin.Append = codes "<<"
name_of builtin.Push = codes "push"
name_of builtin.Unshift = codes "unshift"
name_of builtin.Pop = codes "pop"
name_of builtin.Shift = codes "shift"
name_of builtin.DeleteAt = codes "delete_at"
name_of builtin.First = codes "first"
name_of builtin.Last = codes "last"
name_of builtin.Size = codes "size"
name_of builtin.IsEmpty = codes "empty?"
name_of builtin.Clear = codes "clear"
name_of builtin.Each = codes "each"
name_of builtin.EachWithIndex = codes "each_with_index"
name_of builtin.Map = codes "map"
name_of builtin.Select = codes "select"
name_of builtin.Delete = codes "delete"
name_of builtin.HasKey = codes "key?"
name_of builtin.Keys = codes "keys"
name_of builtin.Values = codes "values"
name_of builtin.EachPair = codes "each_pair"
name_of builtin.Lock = codes "lock"
name_of builtin.Unlock = codes "unlock"
name_of builtin.Synchronize = codes "synchronize"
name_of builtin.Join = codes "join"
name_of builtin.Value = codes "value"

-- the built-in method of a name that needs no other thread
abbrev pub plain_builtin_of : Text → Option Builtin
plain_builtin_of name =
    if bytes_eq name (codes "==") then Some builtin.Equal else (
    if bytes_eq name (codes "nil?") then Some builtin.IsNil else (
    if bytes_eq name (codes "to_s") then Some builtin.ToS else (
    if bytes_eq name (codes "inspect") then Some builtin.Inspect else (
    if bytes_eq name (codes "+") then Some builtin.Plus else (
    if bytes_eq name (codes "-") then Some builtin.Minus else (
    if bytes_eq name (codes "*") then Some builtin.Times else (
    if bytes_eq name (codes "/") then Some builtin.Over else (
    if bytes_eq name (codes "%") then Some builtin.Modulo else (
    if bytes_eq name (codes "-@") then Some builtin.Negate else (
    if bytes_eq name (codes "<") then Some builtin.Less else (
    if bytes_eq name (codes "<=") then Some builtin.AtMost else (
    if bytes_eq name (codes ">") then Some builtin.More else (
    if bytes_eq name (codes ">=") then Some builtin.AtLeast else (
    if bytes_eq name (codes "times") then Some builtin.TimesLoop else (
    if bytes_eq name (codes "upto") then Some builtin.Upto else (
    if bytes_eq name (codes "length") then Some builtin.Length else (
    if bytes_eq name (codes "[]") then Some builtin.Index else (
    if bytes_eq name (codes "[]=") then Some builtin.SetIndex else (
    if bytes_eq name (codes "<<") then Some builtin.Append else (
    if bytes_eq name (codes "push") then Some builtin.Push else (
    if bytes_eq name (codes "unshift") then Some builtin.Unshift else (
    if bytes_eq name (codes "pop") then Some builtin.Pop else (
    if bytes_eq name (codes "shift") then Some builtin.Shift else (
    if bytes_eq name (codes "delete_at") then Some builtin.DeleteAt else (
    if bytes_eq name (codes "first") then Some builtin.First else (
    if bytes_eq name (codes "last") then Some builtin.Last else (
    if bytes_eq name (codes "size") then Some builtin.Size else (
    if bytes_eq name (codes "empty?") then Some builtin.IsEmpty else (
    if bytes_eq name (codes "clear") then Some builtin.Clear else (
    if bytes_eq name (codes "each") then Some builtin.Each else (
    if bytes_eq name (codes "each_with_index") then Some builtin.EachWithIndex else (
    if bytes_eq name (codes "map") then Some builtin.Map else (
    if bytes_eq name (codes "select") then Some builtin.Select else (
    if bytes_eq name (codes "delete") then Some builtin.Delete else (
    if bytes_eq name (codes "key?") then Some builtin.HasKey else (
    if bytes_eq name (codes "keys") then Some builtin.Keys else (
    if bytes_eq name (codes "values") then Some builtin.Values else (
    if bytes_eq name (codes "each_pair") then Some builtin.EachPair else (
    None)))))))))))))))))))))))))))))))))))))))

-- the built-in method of a name: first those of mutexes and threads
abbrev pub builtin_of : Text → Option Builtin
builtin_of name =
    if bytes_eq name (codes "lock") then Some builtin.Lock else (
    if bytes_eq name (codes "unlock") then Some builtin.Unlock else (
    if bytes_eq name (codes "synchronize") then Some builtin.Synchronize else (
    if bytes_eq name (codes "join") then Some builtin.Join else (
    if bytes_eq name (codes "value") then Some builtin.Value else (
    plain_builtin_of name)))))

-- whether two numbers, or none, are the same
abbrev pub same_number : Option Builtin → Option Builtin → Bool
same_number None None = true
same_number (Some a) (Some b) = bytes_eq (name_of a) (name_of b)
same_number a b = false
