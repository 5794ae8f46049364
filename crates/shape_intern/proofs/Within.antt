-- Where known shapes lie, and what looking at one leaves of a pass.
use Rattle.std.proofs.Common.{◌≡◌, ◌≤◌, ℕ, ◌+◌, [], ◌++◌, sym, ap, ◌∙◌, subst, arith, append_assoc, append-nil}
use Rattle.atomic_table.specs.Seated.{TableId}
use Rattle.rb_shared.specs.Lists.{Has}
use Rattle.rb_shared.proofs.Runs.{has_front}
use Rattle.heap_core.specs.declared.pass.Heap.{Heap}
use Rattle.heap_core.specs.declared.pass.HeapPass.{HeapPass}
use Rattle.heap_core.specs.Blocks.{ShapeAt}
use Rattle.heap_core.specs.Growing.{Learns}
use Rattle.heap_core.specs.Heaps.{IsOf, holder}
use Rattle.heap_core.specs.Links.{IsTree}
use Rattle.heap_core.specs.View.{Holder, busy_at, with_more}
use Rattle.heap_core.proofs.Frames.{Among}
use Rattle.shape_intern.specs.Walks.{KnowsShapeAt, KnowsTree}

-- a known shape ends within the heap
pub shape_below : {K : Type 0} (heap : Heap K) (p : HeapPass) (at : ℕ) → IsOf heap p → KnowsShapeAt (holder p) at → at + 7 ≤ 134217728
shape_below heap p at of known =
    let words = ap (λ (t : TableId). t.words) of in
    let most = heap.most in
    let end = p.rests.1.blocks (ShapeAt known.0 at) known.1 in
    omega (arith, words, most, end)

-- ---- what is learnt

pub learns_size : (k w : Holder) → Learns k w → w.size ≡ k.size
learns_size k w l = ap (λ (x : Holder). x.size) l.1

pub learns_among : (k w : Holder) → Learns k w → Among k.blocks w.blocks
learns_among k w l b h = subst (λ (x : Holder). Has x.blocks b) (sym l.1) (has_front k.blocks l.0 b h)

pub tree_of : (k w : Holder) → Learns k w → IsTree k.size w.blocks → KnowsTree w
tree_of k w l t = subst (λ n. IsTree n w.blocks) (sym (learns_size k w l)) t

pub learns_none : (k : Holder) → Learns k k
learns_none k = ([], ap (λ bs. record k { blocks = bs }) (sym (append-nil k.blocks)), λ has b t kn. kn)

pub learns_both : (k w x : Holder) → Learns k w → Learns w x → Learns k x
learns_both k w x l m = (
  l.0 ++ m.0,
  m.1 ∙ (ap (λ (y : Holder). with_more y m.0) l.1 ∙ ap (λ bs. record k { blocks = bs }) (append_assoc k.blocks l.0 m.0)),
  λ has b t kn. l.2 has b t (m.2 (ap (λ (y : Holder). busy_at 16 y.doing) l.1 ∙ has) b t kn),
)

pub size_below : {K : Type 0} (heap : Heap K) (p : HeapPass) → IsOf heap p → (holder p).size ≤ 134217728
size_below heap p of =
    let words = ap (λ (t : TableId). t.words) of in
    let most = heap.most in
    let size = p.rests.1.size in
    omega (arith, words, most, size)
