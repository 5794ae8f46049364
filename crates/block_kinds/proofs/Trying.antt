-- What a test of building asks.
use Rattle.std.proofs.Common.{◌≡◌, ℕ, List, [], length, refl, sym, subst, inl, arith}
use Rattle.rb_model.specs.declared.value.Value.{Value as Held}
use Rattle.rb_model.specs.declared.value.Value.TheVariants as held
use Rattle.heap_core.specs.Blocks.{Block}
use Rattle.heap_core.specs.View.{Holder, InOwn, with_region}
use Rattle.block_kinds.specs.Built.{HasPlace, LiesFor, OwnsWords}

-- words that were taken are own
pub taken_owns : (k k' : Holder) (at count : ℕ) (ws : List ℕ) → length ws ≡ count → k' ≡ with_region k at ws → OwnsWords k' at count
taken_owns k k' at count ws long is i lo hi = subst (InOwn i) (sym is) (record { at = at; words = ws }, inl refl, (lo, omega (arith, hi, long)))

-- a value that is no reference needs no place and lies anywhere
pub needs_no_place : (v : Held) → LiesFor [] v → HasPlace v
needs_no_place (held.Ref r) lies = absurd lies.1
needs_no_place held.Nil lies = tt
needs_no_place held.False lies = tt
needs_no_place held.True lies = tt
needs_no_place (held.Int n) lies = tt
needs_no_place (held.Sym name) lies = tt
needs_no_place (held.Str bytes) lies = tt

pub lies_anywhere : (v : Held) (bs : List Block) → LiesFor [] v → LiesFor bs v
lies_anywhere (held.Ref r) bs lies = absurd lies.1
lies_anywhere held.Nil bs lies = tt
lies_anywhere held.False bs lies = tt
lies_anywhere held.True bs lies = tt
lies_anywhere (held.Int n) bs lies = tt
lies_anywhere (held.Sym name) bs lies = tt
lies_anywhere (held.Str bytes) bs lies = tt
