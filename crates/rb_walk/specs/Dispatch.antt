-- The table of the methods of a script.
use Rattle.std.specs.Prelude.{◌≡◌, ℕ, List, Some, IfSome, Vec}
use Rattle.std.specs.List.{AllByRecursion}
use Rattle.std.specs.Option.{IsSomeAnd}
use Rattle.std.specs.declared.alloc.Global.{Global}
use Rattle.rb_tree.specs.declared.span.Span.{Span}
use Rattle.rb_tree.specs.declared.span.NameId.{NameId}
use Rattle.rb_code.specs.declared.scripted.CodeScript.{CodeScript}
use Rattle.rb_code.specs.Dispatch.{method_by}
use Rattle.rb_walk.specs.declared.dispatch.Known.{Known}
use Rattle.rb_walk.specs.Readers.{Reads}

-- an entry has the method that its name finds in its class; where it tells a variable and a place, the method reads that, and does nothing else
pub record IsKnown (script : CodeScript) (k : Known) : Type 0 where
  pub finds : method_by script k.name k.class ≡ Some k.method.now
  pub reads : IfSome k.reads (λ read. Reads k.method.now read.0 read.1)

-- and so has each entry of each row
abbrev pub AreKnown : CodeScript → List (Vec Known Global) → Type 0
AreKnown script rows = AllByRecursion (λ row. AllByRecursion (IsKnown script) row.items) rows

-- the method that a name finds in a class reads this variable at this place, and does nothing else
abbrev pub IsReadBy : CodeScript → NameId → ℕ → NameId → Span → Type 0
IsReadBy script name class field place = IsSomeAnd (method_by script name class) (λ m. Reads m field place)
