-- A pass learns all blocks that there are.
use Rattle.std.proofs.Common.{◌≡◌, ◌≤◌, ℕ, ◌+◌, true, List, ◌∙◌, subst, ⊎_elim, arith}
use Rattle.atomic_table.specs.Table.{State}
use Rattle.rb_shared.specs.Lists.{Has}
use Rattle.shared_run.proofs.Events.{has_either}
use Rattle.heap_core.specs.Handing.{Plan, Slot}
use Rattle.heap_core.specs.Blocks.{Block, place_of, size_of}
use Rattle.heap_core.specs.Moment.{At}
use Rattle.heap_core.specs.Passes.{Fits}
use Rattle.heap_core.specs.Rule.{Kept}
use Rattle.heap_core.specs.View.{Holder, with_more}

-- these lie in the heap
pub blocks_fit : (plan : Plan) (s : State Slot Holder) (r : Kept plan s) (id : ℕ) (k : Holder) → At s.views id k → k.live ≡ true → (b : Block) → Has r.blocks b → place_of b + size_of b ≤ k.size
blocks_fit plan s r id k at live b h =
    let size = r.laid.size id k at live in let low = (r.laid.blocks_in b h).0 in let top = r.laid.used_in in omega (arith, size, low, top)

-- what the pass owns and can name still does
pub fits_more : (k : Holder) (bs : List Block) (w : Holder) → w.live ≡ k.live → w.size ≡ k.size → w.own ≡ k.own → w.blocks ≡ k.blocks → Fits k k.size → ((b : Block) → Has bs b → place_of b + size_of b ≤ k.size) → Fits (with_more w bs) k.size
fits_more k bs w live size own blocks f fit = record {
  live = live ∙ f.live;
  size = size;
  opening = f.opening;
  own = λ o h. f.own o (subst (λ os. Has os o) own h);
  blocks = λ b h. ⊎_elim (λ (was : Has w.blocks b). f.blocks b (subst (λ cs. Has cs b) blocks was)) (λ (more : Has bs b). fit b more) (has_either w.blocks bs b h);
}
