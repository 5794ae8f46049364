-- Sets of names, against lists of them.
use Rattle.std.specs.Prelude.{◌≡◌, ℕ, nat_eq, List}
use Rattle.std.specs.HashSet.{HashSet, contains}
use Rattle.std.specs.declared.hash.FoldHasher.{FoldHasher}
use Rattle.std.specs.declared.hash.BuildHasherDefault.{BuildHasherDefault}
use Rattle.rb_tree.specs.declared.span.NameId.{NameId}
use Rattle.rb_checker.specs.Names.{is_among}

-- the numbers of names
abbrev pub Numbers : Type 0
Numbers = HashSet ℕ (BuildHasherDefault FoldHasher)

-- the set has just these names
abbrev pub Holds : Numbers → List NameId → Type 0
Holds set names = (name : NameId) → contains nat_eq set name.0 ≡ is_among name names
