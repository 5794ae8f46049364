-- No shared thing is in a private store: what came to the shared store was no thread's, or moved there for good, or is a thread.
use Rattle.std.proofs.Common.{◌≡◌, ◌≤◌, ◌<◌, inl, inr, ℕ, suc, ◌+◌, ◌^◌, List, length, Option, Some, None, refl, sym, ap, ◌∙◌, subst, arith}
use Rattle.rb_model.specs.declared.value.Id.{Id}
use Rattle.rb_model.specs.Things.{Thing}
use Rattle.rb_model.specs.Private.{Private, Item, held}
use Rattle.rb_model.specs.Log.{Entry, Log}
use Rattle.rb_shared.specs.Lists.{Has}
use Rattle.rb_shared.specs.Store.{Store}
use Rattle.rb_shared.specs.History.{Event, by}
use Rattle.rb_shared.proofs.Runs.{found_has}
use Rattle.rb_closure.specs.Closure.{Each}
use Rattle.rb_closure.proofs.Stores.{thing_at}
use Rattle.run_laws.specs.Doing.{MadeFew}
use Rattle.run_laws.specs.Laws.{SharedIsApart}
use Rattle.run_laws.proofs.Lists.{has_of_each}
use Rattle.run_laws.proofs.Own.{HasGone, Owns, owns_at, held_there, below}
use Rattle.run_laws.proofs.Merging.{has_by}
use Rattle.run_laws.proofs.Closed.{Came, WasMoved}
use Rattle.run_laws.proofs.Order.{closed_at}

-- a number is below those of threads, or is one of those
below_threads : (big m n count : ℕ) → m ≡ big + suc count → m < n → n ≤ big → ⊥
below_threads big m n count e l f = omega (arith, e, l, f)

nothing_there : (t : Thing) → None ≡ Some t → ⊥
nothing_there t e = cc

module _ (front : List Event) (l : Log) (own : Private) (owns : Owns l.entries own) (whole : l.entries ≡ by own.thread front) (few : MadeFew own) where
  moved_gone : (id : Id) → WasMoved front id → id.thread ≡ own.thread → thing_at own.things id.serial ≡ None
  moved_gone id m mine =
      let entry : Has l.entries m.event.entry = subst (λ es. Has es m.event.entry) (sym whole) (has_by front m.event own.thread m.there (m.whose ∙ mine)) in
      let all = has_of_each (λ (e : Entry). Each (λ (x : Item). HasGone own x.id) e.moved) l.entries m.event.entry owns.gone entry in
      let gone = has_of_each (λ (x : Item). HasGone own x.id) m.event.entry.moved m.item all m.moved in
      subst (λ (i : Id). thing_at own.things i.serial ≡ None) m.is gone.2

  not_private : (id : Id) (t : Thing) → Came front id → id.thread ≡ own.thread → thing_at own.things id.serial ≡ Some t → ⊥
  not_private id t (inl is) mine there = nothing_there t (sym owns.first ∙ (ap (λ (i : Id). thing_at own.things i.serial) (sym is) ∙ there))
  not_private id t (inr (inl m)) mine there = nothing_there t (sym (moved_gone id m mine) ∙ there)
  not_private id t (inr (inr (u, count, is))) mine there =
      below_threads (2 ^ 63) id.serial (length own.things) count (ap (λ (i : Id). i.serial) is) (below own.things id.serial t there) few

  none_held : (id : Id) → Came front id → held own id ≡ None
  none_held id came = by (held own id) refl
    where
      by : (o : Option Thing) → held own id ≡ o → o ≡ None
      by None e = refl
      by (Some t) e = let p = held_there own id t e in absurd (not_private id t came p.0 p.1)

pub shared_is_apart : SharedIsApart
shared_is_apart S N slots h front z r start l own s a whole few id thing f =
    let x = found_has z id thing f in
    let came : Came front x.0.id = has_of_item front z x.0 (closed_at S N slots h front z r).came x.1 in
    none_held front l own (owns_at S N start a) whole few id (subst (Came front) x.2 came)
  where
    has_of_item : (front : List Event) (z : Store) (x : Item) → Each (λ (x : Item). Came front x.id) z → Has z x → Came front x.id
    has_of_item front z x a h = has_of_each (λ (x : Item). Came front x.id) z x a h
