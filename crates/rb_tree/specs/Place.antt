-- Where nodes and bytes stand.
use Rattle.std.specs.Prelude.{ℕ, ◌+◌, ◌==◌, not, List, take}
use Rattle.std.specs.List.{count_by, suffix_len}
use Rattle.rb_tree.specs.declared.span.Span.{Span}
use Rattle.rb_tree.specs.declared.node.Node.TheOpen.{Node-F}
use Rattle.rb_tree.specs.declared.node.Node.TheOpen as node

-- the line of a byte, from 1: each line feed before it begins one more
abbrev pub line_of : List ℕ → ℕ → ℕ
line_of source at = 1 + count_by (λ b. b == 10) (take at source)

-- the column of a byte in its line, from 1, in bytes
abbrev pub column_of : List ℕ → ℕ → ℕ
column_of source at = 1 + suffix_len (λ b. not (b == 10)) (take at source)

-- the place of a node, whatever its parts are taken for
abbrev pub place : {N P T B : Type 0} → Node-F N P T B → Span
place (node.Nil at) = at
place (node.False at) = at
place (node.True at) = at
place (node.SelfRef at) = at
place (node.Int n at) = at
place (node.Sym name at) = at
place (node.Str pieces at) = at
place (node.Array items at) = at
place (node.Hash pairs at) = at
place (node.«Node::Local» name at) = at
place (node.«Node::Field» name at) = at
place (node.«Node::Global» name at) = at
place (node.SetLocal name value at) = at
place (node.SetField name value at) = at
place (node.SetGlobal name value at) = at
place (node.Store receiver name args at) = at
place (node.OpAssign target op value at) = at
place (node.Call receiver name args block at) = at
place (node.New class args at) = at
place (node.ThreadNew args body at) = at
place (node.And left right at) = at
place (node.Or left right at) = at
place (node.Not value at) = at
place (node.If condition first second at) = at
place (node.While condition body at) = at
place (node.Return value at) = at
place (node.Break at) = at
place (node.Next at) = at
