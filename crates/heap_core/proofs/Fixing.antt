-- A word that never changes is found as it always is.
use Rattle.std.proofs.Common.{◌≡◌, ◌-◌, ℕ, zero, suc, ◌+◌, [], ◌∷◌, set, get_or, IfSome, refl, sym, ap, ◌∙◌, subst, arith}
use Rattle.std.proofs.lemmas.List.{set-get_or}
use mathlib.Core.Option.{none}
use Rattle.atomic_table.specs.Table.{Me, Allows, keeps, step}
use Rattle.atomic_table.proofs.Lists.{set_again}
use Rattle.shape_core.specs.Path.{Path}
use Rattle.heap_core.specs.Handing.{Plan, Slot}
use Rattle.heap_core.specs.Blocks.{Block, ObjectAt, ChunkAt, MutexAt, ThreadAt, TextAt, BoxAt, ShapeAt, LockAt, TheTurn, place_of, Inside, LinkAt}
use Rattle.heap_core.specs.Fixed.{fixed_word, edge_of, places_before}
use Rattle.heap_core.specs.Moment.{Moment, word}
use Rattle.heap_core.specs.Passes.{FixedLoads, StillLoads}
use Rattle.heap_core.specs.Rule.{Stands, Kept, moment}
use Rattle.heap_core.specs.Shapes.{Leads}
use Rattle.heap_core.specs.View.{Holder}
use Rattle.heap_core.proofs.Owes.{whole}
use Rattle.heap_core.proofs.Takes.{own_loads}

-- the word is the one that never changes, if the block has one there
abbrev IsFixed : Moment → Block → ℕ → Type 0
IsFixed m b i = IfSome (fixed_word b i) (λ x. word m (place_of b + i) ≡ x)

edge_is : (m : Moment) (class : ℕ) (path : Path) (at : ℕ) → Leads m class path at → (word m (at + 2) ≡ edge_of path) × (word m (at + 3) ≡ places_before path)
edge_is m class [] at l = (l.1, l.2)
edge_is m class (e ∷ path) at l = (l.1, l.2)

first_word : (m : Moment) (at n : ℕ) → word m at ≡ n → word m (at + 0) ≡ n
first_word m at n is = ap (word m) (let z : at + 0 ≡ at = omega arith in z) ∙ is

fixed_is : (m : Moment) (b : Block) (i : ℕ) → Inside (place_of b + i) b → Stands m b → IsFixed m b i
fixed_is m (ObjectAt id at) zero o s = tt
fixed_is m (ObjectAt id at) (suc zero) o s = s.made_by
fixed_is m (ObjectAt id at) (suc (suc zero)) o s = s.serial
fixed_is m (ObjectAt id at) (suc (suc (suc i))) o s = tt
fixed_is m (ChunkAt object number at) i o s = tt
fixed_is m (MutexAt id at) zero o s = first_word m at 4 s.tag
fixed_is m (MutexAt id at) (suc zero) o s = s.made_by
fixed_is m (MutexAt id at) (suc (suc zero)) o s = s.serial
fixed_is m (MutexAt id at) (suc (suc (suc i))) o s = tt
fixed_is m (ThreadAt id number maker at) zero o s = first_word m at 5 s.tag
fixed_is m (ThreadAt id number maker at) (suc zero) o s = s.made_by
fixed_is m (ThreadAt id number maker at) (suc (suc zero)) o s = s.serial
fixed_is m (ThreadAt id number maker at) (suc (suc (suc zero))) o s = s.number_word
fixed_is m (ThreadAt id number maker at) (suc (suc (suc (suc zero)))) o s = s.maker_word
fixed_is m (ThreadAt id number maker at) (suc (suc (suc (suc (suc i))))) o s = tt
fixed_is m (TextAt bytes at) zero o s = first_word m at 6 s.0
fixed_is m (TextAt bytes at) (suc zero) o s = s.1
fixed_is m (TextAt bytes at) (suc (suc k)) o s = let hi = o.1 in ap (word m) (let z : at + suc (suc k) ≡ at + 2 + k = omega arith in z) ∙ s.2 k (omega (arith, hi))
fixed_is m (BoxAt n at) zero o s = first_word m at 7 s.0
fixed_is m (BoxAt n at) (suc zero) o s = s.1
fixed_is m (BoxAt n at) (suc (suc i)) o s = tt
fixed_is m (ShapeAt shape at) zero o s = first_word m at _ s.tag
fixed_is m (ShapeAt shape at) (suc zero) o s = tt
fixed_is m (ShapeAt shape at) (suc (suc zero)) o s = (edge_is m shape.class shape.path at s.leads).0
fixed_is m (ShapeAt shape at) (suc (suc (suc zero))) o s = (edge_is m shape.class shape.path at s.leads).1
fixed_is m (ShapeAt shape at) (suc (suc (suc (suc zero)))) o s = s.count
fixed_is m (ShapeAt shape at) (suc (suc (suc (suc (suc i))))) o s = tt
fixed_is m (LockAt at) i o s = tt
fixed_is m TheTurn i o s = tt
fixed_is m (LinkAt home link to number) i o s = tt

pub fixed_loads : (plan : Plan) (count id i : ℕ) (me : Me Slot Holder) → Allows (Kept plan) count id me i (λ n. n) (FixedLoads (step count i 0 0 none) me)
fixed_loads plan count id i me s r size at small = (
  me.0,
  keeps,
  tt,
  subst (λ ws. Kept plan (whole ws s.homes (set s.views id me.0))) (sym (set-get_or s.words i 0)) (subst (λ vs. Kept plan (whole s.words s.homes vs)) (sym (set_again s.views id me.0 at)) r),
  (
    λ b kn ib.
        let lo = ib.0 in
        let same : place_of b + (i - place_of b) ≡ i = omega (arith, lo) in
        subst (λ x. IfSome (fixed_word b (i - place_of b)) (λ y. get_or s.words x 0 ≡ y)) same
        (fixed_is (moment plan s r.run r.lines r.blocks) b (i - place_of b) (subst (λ x. Inside x b) (sym same) ib) (r.each b (r.known id me.0 b at kn))),
    refl,
  ),
)

-- the same of a word that may be the pass's own
pub still_loads : (plan : Plan) (count id i : ℕ) (me : Me Slot Holder) → Allows (Kept plan) count id me i (λ n. n) (StillLoads (step count i 0 0 none) me)
still_loads plan count id i me s r size at small =
    let own = own_loads plan count id i me s r size at small in
    let fixed = fixed_loads plan count id i me s r size at small in
    (fixed.0, fixed.1, fixed.2, fixed.3, (own.4.0, fixed.4))
