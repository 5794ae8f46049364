-- The events of one body more.
use Rattle.std.proofs.Common.{◌≡◌, ◌∙◌, ap, sym, ℕ, ◌+◌, ◌==◌, List, [], ◌∷◌, ◌++◌, length, drop, if◌then◌else◌, arith}
use Rattle.std.proofs.lemmas.Grind.{common_steps}
use Rattle.std.proofs.lemmas.Option.{gets, unwrap_or-slice_get}
use Rattle.rb_checker.specs.declared.event.Event.{Event}
use Rattle.rb_tree.specs.declared.node.Block.{Block}
use Rattle.rb_checker.specs.Bodies.{kept_at, Tells}
use Rattle.rb_checker.specs.Events.{block_part, bodies_from}

-- what is kept of bodies, with the next one before them
pub one_more : (total left : ℕ) (kept : List (List Event)) (events : List Event) (b : ℕ → List Event) → left + 1 + length kept ≡ total → Tells total kept b → Tells total (kept ++ events ∷ []) (λ n. if n == left then events else b n)
one_more total left kept events b all tells n = grind (arith, common_steps, gets, unwrap_or-slice_get kept, unwrap_or-slice_get (kept ++ events ∷ []), tells n)

-- no body is kept
pub none_kept : (total number : ℕ) → [] ≡ kept_at total [] number
none_kept total number = grind arith

-- the bodies from one more on, by the events of its block
pub next_body : (total k : ℕ) (blocks : List Block) (block : Block) (kept : List (List Event)) (events : List Event) → k + 1 + length kept ≡ total → drop k blocks ≡ block ∷ drop (k + 1) blocks → Tells total kept (bodies_from (k + 1) (drop (k + 1) blocks)) → events ≡ (block_part (bodies_from (k + 1) (drop (k + 1) blocks)) block).events → Tells total (kept ++ events ∷ []) (bodies_from k (drop k blocks))
next_body total k blocks block kept events all at tells is n =
    let later = bodies_from (k + 1) (drop (k + 1) blocks) in
    ap (λ l. bodies_from k l n) at ∙ ap (λ e. if n == k then e else later n) (sym is) ∙ one_more total k kept events later all tells n
