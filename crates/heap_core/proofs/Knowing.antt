-- A reference that a pass has names the block of its sort.
use Rattle.std.proofs.Common.{◌≡◌, ℕ, true, set, Some, None, refl, sym, ap, ◌∙◌, subst}
use Rattle.std.proofs.lemmas.List.{set-get_or}
use Rattle.std.specs.Option.{option_map}
use Rattle.atomic_table.specs.Table.{State, Me, Allows, keeps}
use Rattle.atomic_table.proofs.Lists.{set_again}
use Rattle.rb_model.specs.declared.value.Id.{Id}
use Rattle.rb_model.specs.declared.value.Ref.{Ref}
use Rattle.rb_model.specs.declared.value.Sort.{Sort}
use Rattle.rb_shared.specs.Lists.{Has}
use Rattle.rb_shared.proofs.Runs.{each_has}
use Rattle.shared_run.specs.Standing.{NamesHeld, sort_at, sort_in}
use Rattle.heap_core.specs.Places.{turn_word}
use Rattle.heap_core.specs.Handing.{Plan, Slot}
use Rattle.heap_core.specs.Blocks.{Block, ObjectAt, ChunkAt, MutexAt, ThreadAt, TextAt, BoxAt, ShapeAt, LockAt, TheTurn, LinkAt, id_of, place_of}
use Rattle.heap_core.specs.View.{Holder, Knows}
use Rattle.heap_core.specs.Moment.{At}
use Rattle.heap_core.specs.Named.{CanNameAs, NamesAll}
use Rattle.heap_core.specs.Rule.{LiesIn, Stands, Kept, moment}
use Rattle.heap_core.proofs.Owes.{whole}

module _ (plan : Plan) (s : State Slot Holder) (r : Kept plan s) (id : ℕ) (k : Holder) (seat : At s.views id k) (live : k.live ≡ true) (ref : Ref) (has : Has k.view.known ref) where
  some_id : (x y : Id) → Some x ≡ Some y → x ≡ y
  some_id x y e = cc

  some_sort : (x y : Sort) → Some x ≡ Some y → x ≡ y
  some_sort x y e = cc

  none_is : None ≡ Some ref.id → ⊥
  none_is e = cc

  names : sort_at r.run.store ref.id ≡ Some ref.sort
  names = each_has (NamesHeld r.run.store) k.view.known ref (r.knows id k seat live).known has

  by_kind : (b : Block) → Knows k b → id_of b ≡ Some ref.id → place_of b ≡ ref.at → Stands (moment plan s r.run r.lines r.blocks) b → CanNameAs k ref.sort ref.id ref.at
  by_kind (ObjectAt x at) kn is place st =
      let same = some_id x ref.id is in
      let sort = some_sort _ ref.sort (sym (ap (option_map sort_in) st.thing) ∙ (ap (sort_at r.run.store) same ∙ names)) in
      subst (λ z. CanNameAs k z ref.id ref.at) sort (subst (λ y. Knows k (ObjectAt ref.id y)) place (subst (λ i. Knows k (ObjectAt i at)) same kn))
  by_kind (MutexAt x at) kn is place st =
      let same = some_id x ref.id is in
      let sort = some_sort _ ref.sort (sym (ap (option_map sort_in) st.thing) ∙ (ap (sort_at r.run.store) same ∙ names)) in
      subst (λ z. CanNameAs k z ref.id ref.at) sort (subst (λ y. Knows k (MutexAt ref.id y)) place (subst (λ i. Knows k (MutexAt i at)) same kn))
  by_kind (ThreadAt x number maker at) kn is place st =
      let same = some_id x ref.id is in
      let sort = some_sort _ ref.sort (sym (ap (option_map sort_in) st.thing) ∙ (ap (sort_at r.run.store) same ∙ names)) in
      subst (λ z. CanNameAs k z ref.id ref.at) sort (number, maker, subst (λ y. Knows k (ThreadAt ref.id number maker y)) place (subst (λ i. Knows k (ThreadAt i number maker at)) same kn))
  by_kind (ChunkAt object number at) kn is place st = absurd (none_is is)
  by_kind (TextAt bytes at) kn is place st = absurd (none_is is)
  by_kind (BoxAt n at) kn is place st = absurd (none_is is)
  by_kind (ShapeAt shape at) kn is place st = absurd (none_is is)
  by_kind (LockAt at) kn is place st = absurd (none_is is)
  by_kind TheTurn kn is place st = absurd (none_is is)
  by_kind (LinkAt home link to number) kn is place st = absurd (none_is is)

  named : CanNameAs k ref.sort ref.id ref.at
  named =
      let l = each_has (LiesIn k.blocks) k.view.known ref (r.lie id k seat live) has in
      by_kind l.0 l.1 l.2 l.3 (r.each l.0 (r.known id k l.0 seat l.1))

-- the turn word is looked at, and nothing changes
pub names_all : (plan : Plan) (count id : ℕ) (me : Me Slot Holder) → me.0.live ≡ true → Allows (Kept plan) count id me turn_word (λ n. n) (λ _ m'. NamesAll me m')
names_all plan count id me live s r size seat small = (
  me.0,
  keeps,
  tt,
  subst (λ ws. Kept plan (whole ws s.homes (set s.views id me.0))) (sym (set-get_or s.words turn_word 0)) (subst (λ vs. Kept plan (whole s.words s.homes vs)) (sym (set_again s.views id me.0 seat)) r),
  (refl, λ ref has. named plan s r id me.0 seat live ref has),
)
