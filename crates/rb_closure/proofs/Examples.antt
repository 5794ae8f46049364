-- What starts no thread, and what shares nothing, in small scripts.
use Rattle.std.proofs.Common.{◌≡◌, ℕ, ℤ, true, false, [], ◌∷◌, None, rules}
use Rattle.rb_tree.specs.declared.span.Span.{Span}
use Rattle.rb_tree.specs.declared.span.NameId.{NameId}
use Rattle.rb_tree.specs.declared.node.Node.{the_lemmas}
use Rattle.rb_tree.specs.declared.node.Node.TheVariants as node
use Rattle.rb_closure.specs.Sharing.{free_in}

-- `puts 1`
calls_are_free : (name : NameId) (n : ℤ) (at : Span) → free_in false (node.Call None name (node.Int n at ∷ []) None at) ≡ true
unfolding free_in
calls_are_free name n at = search (rules, the_lemmas)

-- `x = $a`: a global variable is named
reads_name : (x a : NameId) (at : Span) → free_in false (node.SetLocal x (node.Global a at) at) ≡ false
unfolding free_in
reads_name x a at = search (rules, the_lemmas)

reads_start_none : (x a : NameId) (at : Span) → free_in true (node.SetLocal x (node.Global a at) at) ≡ true
unfolding free_in
reads_start_none x a at = search (rules, the_lemmas)

-- `if true then Thread.new { .. } end`
starts_are_found : (body : ℕ) (at : Span) → free_in true (node.If (node.True at) (node.ThreadNew [] body at ∷ []) [] at) ≡ false
unfolding free_in
starts_are_found body at = search (rules, the_lemmas)
