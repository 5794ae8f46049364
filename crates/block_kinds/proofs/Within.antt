-- What may be loaded lies in the heap.
use Rattle.std.proofs.Common.{◌≡◌, ◌<◌, ◌≤◌, ℕ, ap, subst, arith}
use Rattle.rb_model.specs.Values.{Value as Val}
use Rattle.typed_location.specs.Laws.{HasOneWord}
use Rattle.typed_location.specs.declared.general_place.Any.{Any}
use Rattle.typed_location.specs.Word.{Fits as FitsWord, word_of}
use Rattle.atomic_table.specs.Seated.{TableId}
use Rattle.heap_core.specs.declared.pass.Heap.{Heap}
use Rattle.heap_core.specs.declared.pass.HeapPass.{HeapPass}
use Rattle.heap_core.specs.Heaps.{IsOf, holder}
use Rattle.block_kinds.specs.Reading.{Names}
use Rattle.block_kinds.proofs.Naming.{MayLoad, Says, load_below, named_says}

pub few_words : {K : Type 0} (heap : Heap K) (p : HeapPass) → IsOf heap p → p.badge.table_id.words ≤ 134217728
few_words heap p of = let words = ap (λ (t : TableId). t.words) of in let most = heap.most in omega (arith, words, most)

pub in_heap : {K : Type 0} (heap : Heap K) (p : HeapPass) (i : ℕ) → IsOf heap p → MayLoad (holder p) i → i < 134217728
in_heap heap p i of may = let below = load_below (holder p) p.badge.table_id.words i p.rests.1 may in let few = few_words heap p of in omega (arith, below, few)

-- what the one word of a value says
pub says_of : {K : Type 0} (heap : Heap K) (p : HeapPass) → IsOf heap p → HasOneWord → (w : ℕ) (a b : Any) → FitsWord a × (word_of a ≡ w) → a ≡ b → (v : Val) → Names (holder p) w v → Says (holder p) v b
says_of heap p of one w a b found same v n = subst (Says (holder p) v) same (named_says (holder p) p.badge.table_id.words p.rests.1 (few_words heap p of) one w v n a found.0 found.1)
