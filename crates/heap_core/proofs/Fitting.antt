-- What a pass owns and can name lies in the heap, after each step.
use Rattle.std.proofs.Common.{◌≡◌, ◌≤◌, ◌<◌, ℕ, ◌+◌, List, [], ◌∷◌, length, Option, Some, None, IsSome, refl, sym, subst, inl, ⊎_elim, arith, true≢false}
use Rattle.rb_shared.specs.Lists.{Has}
use Rattle.shared_run.proofs.Events.{has_either}
use Rattle.heap_core.specs.Handing.{Plan}
use Rattle.heap_core.specs.declared.take.Take.{Take}
use Rattle.heap_core.specs.declared.take.Take.TheVariants as take
use Rattle.heap_core.specs.Blocks.{Block, place_of, size_of}
use Rattle.heap_core.specs.Passes.{Fits, IsPass}
use Rattle.heap_core.specs.Room.{Asking, refusing, Tried}
use Rattle.heap_core.specs.Starting.{Born, LaidFor, thread_block, thread_row, with_born}
use Rattle.heap_core.specs.Telling.{CanName}
use Rattle.heap_core.specs.Turning.{without_turn}
use Rattle.heap_core.specs.View.{InOwn, Region, with_region, Holder, first_holder, maker, child, child_of, joined, with_stored}
use Rattle.heap_core.proofs.Takes.{stored_back}
use Rattle.heap_core.proofs.Opens.{first_each}

-- the one view of a badge
pub is_pass : (ks : List Holder) (k : Holder) (words : ℕ) → ks ≡ k ∷ [] → Fits k words → IsPass ks words
is_pass ks k words is fits = subst (λ l. IsPass l words) (sym is) (refl, fits)

-- an own word, and one of a block that can be named, lies in the heap
pub own_below : (k : Holder) (words i : ℕ) → Fits k words → InOwn i k → i < words
own_below k words i f o = let end = f.own o.0 o.1 in let hi = o.2.1 in omega (arith, end, hi)

pub named_below : (k : Holder) (words i : ℕ) → Fits k words → CanName k i → i < words
named_below k words i f n = let end = f.blocks n.0 n.1 in let hi = n.2.1 in omega (arith, end, hi)

pub first_fits : (p : Plan) → 4096 ≤ p.words → Fits (first_holder p) p.words
first_fits p room = record {
  live = refl;
  size = refl;
  opening = omega (arith, room);
  own = λ o h. absurd h;
  blocks = λ b h. first_each (λ b. place_of b + size_of b ≤ p.words) (omega (arith, room)) (omega (arith, room)) (omega (arith, room)) (omega (arith, room)) (omega (arith, room)) (omega (arith, room)) b h;
}

pub maker_fits : (k : Holder) (words : ℕ) → Fits k words → Fits (maker k) words
maker_fits k words f = record { live = f.live; size = f.size; opening = f.opening; own = f.own; blocks = f.blocks }

pub child_fits : (k : Holder) (words : ℕ) → IsSome k.view.unsplit → Fits k words → Fits (child k) words
child_fits k words started f = by_option k.view.unsplit started
  where
    by_option : (o : Option ℕ) → IsSome o → Fits (child_of o k) words
    by_option None h = absurd (true≢false (sym h))
    by_option (Some n) h = record { live = refl; size = f.size; opening = f.opening; own = λ o h. absurd h; blocks = f.blocks }

pub joined_fits : (k u : Holder) (words : ℕ) → Fits k words → Fits u words → Fits (joined k u) words
joined_fits k u words f g = record {
  live = f.live;
  size = f.size;
  opening = f.opening;
  own = f.own;
  blocks = λ b h. ⊎_elim (λ (x : Has k.blocks b). f.blocks b x) (λ (x : Has u.blocks b). g.blocks b x) (has_either k.blocks u.blocks b h);
}

pub born_fits : (k : Holder) (words : ℕ) (b : Born) → LaidFor k b → Fits k words → Fits (without_turn (with_born k b)) words
born_fits k words b laid f = record {
  live = f.live;
  size = f.size;
  opening = f.opening;
  own = λ o h. absurd h;
  blocks = λ c h. ⊎_elim (λ (old : Has k.blocks c). f.blocks c old)
      (λ (new : Has (thread_block k.view.thread b ∷ []) c). ⊎_elim (λ (is : c ≡ thread_block k.view.thread b). subst (λ (d : Block). place_of d + size_of d ≤ words) (sym is) room) (λ (gone : ⊥). absurd gone) new)
      (has_either k.blocks (thread_block k.view.thread b ∷ []) c h);
}
  where
    room : b.thread.at + 8 ≤ words
    room = f.own (record { at = b.thread.at; words = thread_row k.view.thread b }) (subst (λ os. Has os (record { at = b.thread.at; words = thread_row k.view.thread b })) (sym laid.0) (inl refl))

pub region_fits : (k : Holder) (words at : ℕ) (ws : List ℕ) → at + length ws ≤ words → Fits k words → Fits (with_region k at ws) words
region_fits k words at ws room f = record {
  live = f.live;
  size = f.size;
  opening = f.opening;
  own = λ o h. ⊎_elim (λ (e : o ≡ record { at = at; words = ws }). subst (λ (p : Region). p.at + length p.words ≤ words) (sym e) room) (λ (was : Has k.own o). f.own o was) h;
  blocks = f.blocks;
}

pub refusing_fits : (k : Holder) (words used wanted : ℕ) (a : Option Asking) → Fits k words → Fits (refusing k a used wanted) words
refusing_fits k words used wanted None f = f
refusing_fits k words used wanted (Some a) f = record { live = f.live; size = f.size; opening = f.opening; own = f.own; blocks = f.blocks }

pub stored_fits : (k : Holder) (words i x : ℕ) → Fits k words → Fits (with_stored k i x) words
stored_fits k words i x f = record {
  live = f.live;
  size = f.size;
  opening = f.opening;
  own = λ o h. let b = stored_back i x k.own o h in let was = f.own b.0 b.1 in let place = b.2 in let size = b.3 in omega (arith, was, place, size);
  blocks = f.blocks;
}

-- after taking words, or finding no room
pub tried_fits : (k k' : Holder) (words wanted : ℕ) (a : Option Asking) (t : Option Take) → Tried a wanted t k k' → Fits k words → Fits k' words
tried_fits k k' words wanted a None t f = subst (λ x. Fits x words) (sym t) f
tried_fits k k' words wanted a (Some (take.Got at)) t f =
    subst (λ x. Fits x words) (sym t.3.2) (region_fits k words at t.3.0 (let room = t.2 in let long = t.3.1 in let size = f.size in omega (arith, room, long, size)) f)
tried_fits k k' words wanted a (Some (take.Full used)) t f = subst (λ x. Fits x words) (sym t.2) (refusing_fits k words used wanted a f)
