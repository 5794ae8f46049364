-- One seat takes a step: what of the law speaks of seats stays.
use Rattle.std.proofs.Common.{◌≡◌, ◌<◌, ℕ, suc, true, not, List, length, count_by, set, Option, Some, None, refl, sym, ap, ◌∙◌, subst, inl, inr, ⊎_elim, arith}
use mathlib.Core.Option.{some}
use lib.ListN.{get_elem?}
use Rattle.atomic_table.specs.Table.{State}
use Rattle.rb_model.specs.declared.value.Id.{Id}
use Rattle.rb_model.specs.declared.value.Ref.{Ref}
use Rattle.rb_model.specs.Things.{Thing, ThreadState, Object, Mutex, Thread}
use Rattle.rb_shared.specs.Lists.{Has, Each}
use Rattle.rb_shared.specs.Store.{found, threads}
use Rattle.rb_shared.specs.View.{View}
use Rattle.rb_shared.proofs.Runs.{each_more}
use Rattle.shared_run.specs.Run.{IsNote, IsThread}
use Rattle.heap_core.specs.Handing.{Plan, Slot}
use Rattle.heap_core.specs.Blocks.{Block, ObjectAt, ChunkAt, MutexAt, ThreadAt, TextAt, BoxAt, ShapeAt, LockAt, TheTurn, home_of, id_of, number_of, place_of, Inside, LinkAt}
use Rattle.heap_core.specs.View.{Holder, Knows}
use Rattle.heap_core.specs.Moment.{At, owner_in, word}
use Rattle.heap_core.specs.Mutexes.{owner_of}
use Rattle.heap_core.specs.Rule.{Stands, Claims, IsUngathered, Seated, LiesIn, Kept, moment}
use Rattle.heap_core.proofs.Holders.{each_set}
use Rattle.heap_core.proofs.Rooms.{HasWords, HasParts, first_inside, parts_inside, place_inside}

-- ---- notes

pub note_thread : (v w : View) → IsNote v w → w.thread ≡ v.thread
note_thread v w i = ap (λ (x : View). x.thread) i.2

pub note_known : (v w : View) → IsNote v w → w.known ≡ v.known
note_known v w i = ap (λ (x : View). x.known) i.2

pub note_ended : (v w : View) → IsNote v w → w.ended ≡ v.ended
note_ended v w i = ap (λ (x : View). x.ended) i.2

-- what a note says is still unsplit was so before
pub note_unsplit : (v w : View) (n : ℕ) → IsNote v w → w.unsplit ≡ Some n → v.unsplit ≡ Some n
note_unsplit v w n i e =
    let u : w.unsplit ≡ i.0 = ap (λ (x : View). x.unsplit) i.2 in ⊎_elim
    (λ (same : i.0 ≡ v.unsplit). sym same ∙ (sym u ∙ e))
    (λ (none_left : i.0 ≡ None). absurd (let h : None ≡ Some n = sym none_left ∙ (sym u ∙ e) in cc))
    i.1

pub note_same : (v w : View) → w ≡ v → IsNote v w
note_same v w is = (v.unsplit, inl refl, subst (λ (x : View). x ≡ record v { polled = x.polled; asked = x.asked; unsplit = v.unsplit }) (sym is) refl)

-- a note claims no more
pub note_claims : (k w : Holder) (n : ℕ) → w.live ≡ k.live → IsNote k.view w.view → Claims w n → Claims k n
note_claims k w n live i c = (
  sym live ∙ c.0,
  ⊎_elim
      (λ (e : w.view.thread ≡ n). inl (sym (note_thread k.view w.view i) ∙ e))
      (λ (e : w.view.unsplit ≡ Some n). inr (note_unsplit k.view w.view n i e))
      c.1,
)

pub seated_note : (slots : ℕ) (z : Rattle.rb_shared.specs.Store.Store) (lines : List (Option ℕ)) (views : List Holder) (id : ℕ) (k w : Holder) → Seated slots z lines views → At views id k → w.live ≡ k.live → w.line ≡ k.line → w.due ≡ k.due → IsNote k.view w.view
    → Seated slots z lines (set views id w)
seated_note slots z lines views id k w s at live line due note = record {
  long = s.long;
  main = s.main;
  taken = s.taken;
  all = s.all;
  count = s.count;
  once = s.once;
  mine = each_set (λ j u. u.live ≡ true → get_elem? lines u.line ≡ some (Some u.view.thread)) views id w
      (λ l. ap (get_elem? lines) line ∙ (s.mine id k at (sym live ∙ l) ∙ ap (λ t. some (Some t)) (sym (note_thread k.view w.view note)))) (λ j u _ a. s.mine j u a);
  due = λ j n u a. each_set (λ j u. u.live ≡ true → u.view.unsplit ≡ Some n → get_elem? lines u.due ≡ some (Some n)) views id w
      (λ l e. ap (get_elem? lines) due ∙ s.due id n k at (sym live ∙ l) (note_unsplit k.view w.view n note e)) (λ j u _ a. s.due j n u a) j u a;
}

-- the same where an entry was made that starts no thread
pub seated_plain : (slots : ℕ) (z : Rattle.rb_shared.specs.Store.Store) (lines : List (Option ℕ)) (views : List Holder) (id : ℕ) (k w : Holder) → Seated slots z lines views → At views id k → w.live ≡ k.live → w.line ≡ k.line → w.view.thread ≡ k.view.thread
    → w.view.unsplit ≡ None → Seated slots z lines (set views id w)
seated_plain slots z lines views id k w s at live line thread nobody = record {
  long = s.long;
  main = s.main;
  taken = s.taken;
  all = s.all;
  count = s.count;
  once = s.once;
  mine = each_set (λ j u. u.live ≡ true → get_elem? lines u.line ≡ some (Some u.view.thread)) views id w
      (λ l. ap (get_elem? lines) line ∙ (s.mine id k at (sym live ∙ l) ∙ ap (λ t. some (Some t)) (sym thread))) (λ j u _ a. s.mine j u a);
  due = λ j n u a. each_set (λ j u. u.live ≡ true → u.view.unsplit ≡ Some n → get_elem? lines u.due ≡ some (Some n)) views id w
      (λ _ e. absurd (let h : None ≡ Some n = sym nobody ∙ e in cc)) (λ j u _ a. s.due j n u a) j u a;
}

-- the same over a store with the same threads
pub seated_store : (slots : ℕ) (z z' : Rattle.rb_shared.specs.Store.Store) (lines : List (Option ℕ)) (views : List Holder) → threads z' ≡ threads z → Seated slots z lines views → Seated slots z' lines views
seated_store slots z z' lines views same s = record {
  long = s.long;
  main = s.main;
  taken = λ i t a. ⊎_elim (λ e. inl e) (λ (u : IsUngathered z t). inr (u.0, subst (λ l. Has l u.0) (sym same) u.1, u.2, u.3)) (s.taken i t a);
  all = λ t u. s.all t (u.0, subst (λ l. Has l u.0) same u.1, u.2, u.3);
  count = s.count ∙ ap (λ (l : List ThreadState). suc (count_by (λ x. not x.gathered) l)) (sym same);
  once = s.once;
  mine = s.mine;
  due = s.due;
}

-- references lie where they lay, in more blocks
pub lies_more : (bs cs : List Block) → ((b : Block) → Has bs b → Has cs b) → (rs : List Ref) → Each (LiesIn bs) rs → Each (LiesIn cs) rs
lies_more bs cs more rs l = each_more (LiesIn bs) (LiesIn cs) (λ r p. (p.0, more p.0 p.1, p.2, p.3)) rs l

-- ---- the things that blocks stand for

-- what has a number is a thing
pub number_thing : (b : Block) (n : ℕ) → number_of b ≡ Some n → (id : Id) × (id_of b ≡ Some id)
number_thing (ThreadAt x a maker at) n is = (x, refl)
number_thing (ObjectAt x at) n is = absurd (let h : None ≡ Some n = is in cc)
number_thing (ChunkAt object a at) n is = absurd (let h : None ≡ Some n = is in cc)
number_thing (MutexAt x at) n is = absurd (let h : None ≡ Some n = is in cc)
number_thing (TextAt bytes at) n is = absurd (let h : None ≡ Some n = is in cc)
number_thing (BoxAt a at) n is = absurd (let h : None ≡ Some n = is in cc)
number_thing (ShapeAt shape at) n is = absurd (let h : None ≡ Some n = is in cc)
number_thing (LockAt at) n is = absurd (let h : None ≡ Some n = is in cc)
number_thing TheTurn n is = absurd (let h : None ≡ Some n = is in cc)
number_thing (LinkAt home link to a) n is = absurd (let h : None ≡ Some n = is in cc)

module _ (plan : Plan) (s : State Slot Holder) (r : Kept plan s) where
  some_is : (id id' : Id) → Some id ≡ Some id' → id ≡ id'
  some_is id id' e = cc

  none_is : (id : Id) → None ≡ Some id → ⊥
  none_is id e = cc

  -- a block stands for a thing that is there
  pub there : (b : Block) (id : Id) → Has r.blocks b → id_of b ≡ Some id → (thing : Thing) × (found r.run.store id ≡ Some thing)
  there b id here is = by_kind b is (r.each b here)
    where
      by_kind : (b : Block) → id_of b ≡ Some id → Stands (moment plan s r.run r.lines r.blocks) b → (thing : Thing) × (found r.run.store id ≡ Some thing)
      by_kind (ObjectAt x at) is k = (Object k.class k.fields, ap (found r.run.store) (sym (some_is x id is)) ∙ k.thing)
      by_kind (MutexAt x at) is k = (Mutex (owner_in (moment plan s r.run r.lines r.blocks) (word (moment plan s r.run r.lines r.blocks) (owner_of at))), ap (found r.run.store) (sym (some_is x id is)) ∙ k.thing)
      by_kind (ThreadAt x number maker at) is k = (Thread k.state, ap (found r.run.store) (sym (some_is x id is)) ∙ k.thing)
      by_kind (ChunkAt object number at) is k = absurd (none_is id is)
      by_kind (TextAt bytes at) is k = absurd (none_is id is)
      by_kind (BoxAt n at) is k = absurd (none_is id is)
      by_kind (ShapeAt shape at) is k = absurd (none_is id is)
      by_kind (LockAt at) is k = absurd (none_is id is)
      by_kind TheTurn is k = absurd (none_is id is)
      by_kind (LinkAt home link to number) is k = absurd (none_is id is)

  -- the number of a block is that of a thread, and not of the main one
  pub numbered : (b : Block) (n : ℕ) → Has r.blocks b → number_of b ≡ Some n → (0 < n) × IsThread r.run n
  numbered b n here is = by_kind b is (r.each b here)
    where
      none_is : None ≡ Some n → ⊥
      none_is e = cc

      number : (a c : ℕ) → Some a ≡ Some c → a ≡ c
      number a c e = cc

      by_kind : (b : Block) → number_of b ≡ Some n → Stands (moment plan s r.run r.lines r.blocks) b → (0 < n) × IsThread r.run n
      by_kind (ThreadAt x a maker at) is k = subst (λ m. (0 < m) × IsThread r.run m) (number a n is) (k.begun, k.within)
      by_kind (ObjectAt x at) is k = absurd (none_is is)
      by_kind (ChunkAt object a at) is k = absurd (none_is is)
      by_kind (MutexAt x at) is k = absurd (none_is is)
      by_kind (TextAt bytes at) is k = absurd (none_is is)
      by_kind (BoxAt a at) is k = absurd (none_is is)
      by_kind (ShapeAt shape at) is k = absurd (none_is is)
      by_kind (LockAt at) is k = absurd (none_is is)
      by_kind TheTurn is k = absurd (none_is is)
      by_kind (LinkAt home link to a) is k = absurd (none_is is)

  pub no_main : (b : Block) → Has r.blocks b → number_of b ≡ Some 0 → ⊥
  no_main b here is = let some = (numbered b 0 here is).0 in omega (arith, some)

  -- no seat claims a number that no thread has
  pub nobody_claims : (n : ℕ) → n ≡ length r.run.refusals → (j : ℕ) (u : Holder) → At s.views j u → Claims u n → ⊥
  nobody_claims n last j u a c =
      let k = r.knows j u a c.0 in ⊎_elim
      (λ (is : u.view.thread ≡ n). let lt = k.within in omega (arith, lt, is, last))
      (λ (is : u.view.unsplit ≡ Some n). let d = k.due n is in let lt = d.0 in omega (arith, lt, last))
      c.1

  -- of the blocks that a view knows, a word is in one alone
  pub only_block : (id i : ℕ) (k : Holder) (b c : Block) → At s.views id k → Knows k b → Knows k c → Inside i b → Inside i c → b ≡ c
  only_block id i k b c at kb kc ib ic = r.laid.apart i b c (r.known id k b at kb) (r.known id k c at kc) ib ic

  -- a block that has no parts is not where one is that has
  not_its_home : (b : Block) → Has r.blocks b → HasWords b → (HasParts b → ⊥) → (x : Block) → Has r.blocks x → HasParts x → place_of x ≡ place_of b → ⊥
  not_its_home b here words no_parts x hx parts same =
      no_parts (subst HasParts (r.laid.apart (place_of b) x b hx here (subst (λ y. Inside y x) same (parts_inside x parts)) (first_inside b words)) parts)

  -- a block that has no parts is alone with its place as its home
  pub alone_at : (b : Block) → Has r.blocks b → HasWords b → (HasParts b → ⊥) → (c : Block) → Has r.blocks c → home_of c ≡ place_of b → c ≡ b
  alone_at b here words no_parts (ChunkAt object number place) hc is = let home = r.homes (ChunkAt object number place) hc in absurd (not_its_home b here words no_parts (ObjectAt home.0 object) home.1 tt is)
  alone_at b here words no_parts (LinkAt home link to number) hc is = let at = r.homes (LinkAt home link to number) hc in absurd (not_its_home b here words no_parts (ShapeAt at.0 home) at.1 tt is)
  alone_at b here words no_parts (ObjectAt x place) hc is = r.laid.apart (place_of b) (ObjectAt x place) b hc here (subst (λ y. Inside y (ObjectAt x place)) is (place_inside (ObjectAt x place))) (first_inside b words)
  alone_at b here words no_parts (MutexAt x place) hc is = r.laid.apart (place_of b) (MutexAt x place) b hc here (subst (λ y. Inside y (MutexAt x place)) is (place_inside (MutexAt x place))) (first_inside b words)
  alone_at b here words no_parts (ThreadAt x number maker place) hc is =
      r.laid.apart (place_of b) (ThreadAt x number maker place) b hc here (subst (λ y. Inside y (ThreadAt x number maker place)) is (place_inside (ThreadAt x number maker place))) (first_inside b words)
  alone_at b here words no_parts (TextAt bytes place) hc is = r.laid.apart (place_of b) (TextAt bytes place) b hc here (subst (λ y. Inside y (TextAt bytes place)) is (place_inside (TextAt bytes place))) (first_inside b words)
  alone_at b here words no_parts (BoxAt n place) hc is = r.laid.apart (place_of b) (BoxAt n place) b hc here (subst (λ y. Inside y (BoxAt n place)) is (place_inside (BoxAt n place))) (first_inside b words)
  alone_at b here words no_parts (ShapeAt shape place) hc is = r.laid.apart (place_of b) (ShapeAt shape place) b hc here (subst (λ y. Inside y (ShapeAt shape place)) is (place_inside (ShapeAt shape place))) (first_inside b words)
  alone_at b here words no_parts (LockAt place) hc is = r.laid.apart (place_of b) (LockAt place) b hc here (subst (λ y. Inside y (LockAt place)) is (place_inside (LockAt place))) (first_inside b words)
  alone_at b here words no_parts TheTurn hc is = r.laid.apart (place_of b) TheTurn b hc here (subst (λ y. Inside y TheTurn) is (place_inside TheTurn)) (first_inside b words)
