-- Calls with which things move.
use Rattle.std.proofs.Common.{◌≡◌, ℕ, true, false, List, [], ◌∷◌, ◌++◌, length, map, suc, Some, None, ◌⊎◌, inl, inr, refl, sym, ap, subst, ◌∙◌}
use Rattle.atomic_table.specs.Seated.{TableId}
use Rattle.rb_model.specs.declared.act.Act.{Act as Asked}
use Rattle.rb_model.specs.declared.call.Call.{Call as Held}
use Rattle.rb_model.specs.declared.call.Call.TheVariants as held
use Rattle.rb_model.specs.declared.call.Served.{Served}
use Rattle.rb_model.specs.declared.moved.MovedItem.{MovedItem}
use Rattle.rb_model.specs.declared.value.Id.{Id}
use Rattle.rb_model.specs.declared.value.Ref.{Ref}
use Rattle.rb_model.specs.Acts.{handed}
use Rattle.rb_model.specs.Doing.{doing, said}
use Rattle.rb_model.specs.Immediates.{reference}
use Rattle.rb_model.specs.Log.{Call, Start, asked, is_end, is_print}
use Rattle.rb_model.specs.Started.{next_thread}
use Rattle.rb_model.specs.declared.call.End.TheVariants as held_end
use Rattle.rb_model.specs.declared.value.Value.{Value}
use Rattle.rb_model.specs.Moving.{item_of, items_of, receiver, ref_of, refs_in, refs_in_act, refs_in_call, refs_in_moved, refs_in_reply}
use Rattle.rb_model.specs.Outside.{IsServed, handed_by}
use Rattle.rb_model.specs.Private.{Item, Leaves, Private}
use Rattle.rb_model.specs.Values.{Value as Val, plain}
use Rattle.std.specs.Option.{ForSome}
use Rattle.rb_shared.specs.declared.answer.Answer.{Answer}
use Rattle.rb_shared.specs.declared.answer.Answer.TheVariants as answer
use Rattle.rb_shared.specs.Answers.{AreLaid, entry_of}
use Rattle.rb_shared.specs.Asking.{GathersOwn, HasJoined, HasNextId, IsOwnId, Knows, MayAsk, MayMove, NamesOne, ReceivesAct, ids_moved, may_fill}
use Rattle.rb_shared.specs.Lists.{Each, Has}
use Rattle.rb_shared.specs.Replies.{Serves}
use Rattle.rb_shared.specs.View.{View}
use Rattle.rb_machine.specs.Scopes.{Script}
use Rattle.publish_barrier.specs.Absent.{HasLeft}
use Rattle.publish_barrier.specs.Gathers.{Gathers, IsTold}
use Rattle.publish_barrier.specs.Known.{NotesOf, with_all_noted}
use Rattle.publish_barrier.specs.Leaving.{without}
use Rattle.publish_barrier.proofs.Absence.{all_left, left_behind, moves_first}
use Rattle.rb_thread.specs.declared.job.Job.{Job as HeldJob}
use Rattle.rb_thread.specs.Alive.{Alive}
use Rattle.rb_thread.specs.Asking.{is_done, is_join}
use Rattle.rb_thread.specs.Family.{Job}
use Rattle.rb_thread.specs.Handing.{refs_told, served_as}
use Rattle.rb_thread.specs.Kins.{Kin}
use Rattle.rb_thread.specs.Seats as seats
use Rattle.rb_thread.proofs.Entries.{each_of, goes_answered, has_right, ids_more, joins_none, receives_by}
use Rattle.rb_thread.proofs.Keeping.{alive_on}
use Rattle.rb_thread.proofs.Noting.{all_noted}
use Rattle.rb_thread.proofs.Owning.{Keeps, keeps_same}
use Rattle.rb_thread.proofs.Sounding.{QuietAnswer, knows_told}

-- ---- what is left

pub without_thread : (h : Private) (ms : List Item) → (without h ms).thread ≡ h.thread
without_thread h [] = refl
without_thread h (m ∷ ms) = without_thread _ ms

pub without_shapes : (h : Private) (ms : List Item) → (without h ms).shapes ≡ h.shapes
without_shapes h [] = refl
without_shapes h (m ∷ ms) = without_shapes _ ms

module _ (h : Private) (ms : List MovedItem) (vs : List Val) (leaves : Leaves h vs (items_of ms) (without h (items_of ms))) where
  keeps_without : Keeps h (without h (items_of ms))
  keeps_without = (without_thread h (items_of ms), λ id l. left_behind h (without h (items_of ms)) vs (items_of ms) id leaves l)

  pub keeps_handed : (a : Answer) (ms' : List MovedItem) (refs : List Ref) (h' : Private) (refs' : List Ref) → seats.LeavesBy a ms ms' h refs h' refs' → Keeps h h'
  keeps_handed (answer.Done r) ms' refs h' refs' x = subst (Keeps h) (sym x.0) keeps_without
  keeps_handed (answer.Full used wanted) ms' refs h' refs' x = keeps_same h h' x.0
  keeps_handed answer.SinkFailed ms' refs h' refs' x = keeps_same h h' x.0
  keeps_handed answer.Memory ms' refs h' refs' x = keeps_same h h' x.0

  -- what moved has left, and what had left before
  away_all : (es : List Id) → Each (HasLeft h) es → Each (HasLeft (without h (items_of ms))) (es ++ map (λ (x : Item). x.id) (items_of ms))
  away_all es e = both es (map (λ (x : Item). x.id) (items_of ms)) (each_of (HasLeft h) (HasLeft (without h (items_of ms))) es keeps_without.1 e) (ids (items_of ms) (all_left h (without h (items_of ms)) vs (items_of ms) leaves)) where
    both : (xs ys : List Id) → Each (HasLeft (without h (items_of ms))) xs → Each (HasLeft (without h (items_of ms))) ys → Each (HasLeft (without h (items_of ms))) (xs ++ ys)
    both [] ys a b = b
    both (x ∷ xs) ys a b = (a.0, both xs ys a.1 b)

    ids : (xs : List Item) → Each (λ (m : Item). HasLeft (without h (items_of ms)) m.id) xs → Each (HasLeft (without h (items_of ms))) (map (λ (x : Item). x.id) xs)
    ids [] e = tt
    ids (x ∷ xs) e = (e.0, ids xs e.1)

  pub away_handed : (v w : View) (n : ℕ) (c : Held) (a : Answer) (ms' : List MovedItem) (refs : List Ref) (h' : Private) (refs' : List Ref) → Each (HasLeft h) (ids_moved v.log.entries) → seats.Answered v n c ms a ms' w
      → seats.LeavesBy a ms ms' h refs h' refs' → Each (HasLeft h') (ids_moved w.log.entries)
  away_handed v w n c (answer.Done r) ms' refs h' refs' e x y =
      subst (λ k. Each (HasLeft k) (ids_moved w.log.entries)) (sym y.0)
      (subst (Each (HasLeft (without h (items_of ms)))) (sym (ap (λ (o : View). ids_moved o.log.entries) x.0 ∙ ids_more v.log.entries (entry_of n c ms (said r)))) (away_all (ids_moved v.log.entries) e))
  away_handed v w n c (answer.Full used wanted) ms' refs h' refs' e x y = subst (λ k. Each (HasLeft k) (ids_moved w.log.entries)) (sym y.0) (subst (Each (HasLeft h)) (sym (ap (λ (o : View). ids_moved o.log.entries) x.0)) e)
  away_handed v w n c answer.SinkFailed ms' refs h' refs' e x y = subst (λ k. Each (HasLeft k) (ids_moved w.log.entries)) (sym y.0) (subst (Each (HasLeft h)) (sym (ap (λ (o : View). ids_moved o.log.entries) x.0)) e)
  away_handed v w n c answer.Memory ms' refs h' refs' e x y = subst (λ k. Each (HasLeft k) (ids_moved w.log.entries)) (sym y.0) (subst (Each (HasLeft h)) (sym (ap (λ (o : View). ids_moved o.log.entries) x.0)) e)

-- ---- what was done

-- what is laid is the same things
items_laid : (ms ms' : List MovedItem) → AreLaid ms ms' → items_of ms' ≡ items_of ms
items_laid [] [] l = refl
items_laid [] (n ∷ ns) l = absurd l
items_laid (m ∷ ms) [] l = absurd l
items_laid (m ∷ ms) (n ∷ ns) l = ap (λ xs. item_of n ∷ xs) (items_laid ms ns l.1) ∙ ap (λ x. item_of x ∷ items_of ms) l.0.1

length_laid : (ms ms' : List MovedItem) → AreLaid ms ms' → length ms' ≡ length ms
length_laid [] [] l = refl
length_laid [] (n ∷ ns) l = absurd l
length_laid (m ∷ ms) [] l = absurd l
length_laid (m ∷ ms) (n ∷ ns) l = ap suc (length_laid ms ns l.1)

module _ (v w : View) (n : ℕ) (c : Held) (ms : List MovedItem) (a : Answer) (ms' : List MovedItem) (x : seats.Answered v n c ms a ms' w) where
  laid_by : (a : Answer) → is_done a ≡ true → seats.Answered v n c ms a ms' w → AreLaid ms ms'
  laid_by (answer.Done r) d x = x.2
  laid_by (answer.Full used wanted) d x = absurd (let q : false ≡ true = d in cc)
  laid_by answer.SinkFailed d x = absurd (let q : false ≡ true = d in cc)
  laid_by answer.Memory d x = absurd (let q : false ≡ true = d in cc)

  pub same_items : is_done a ≡ true → items_of ms' ≡ items_of ms
  same_items d = items_laid ms ms' (laid_by a d x)

  pub same_length : is_done a ≡ true → length ms' ≡ length ms
  same_length d = length_laid ms ms' (laid_by a d x)

  pub hands_done : (h : Private) (refs : List Ref) (h' : Private) (refs' : List Ref) → is_done a ≡ true → h' ≡ without h (items_of ms') → refs' ≡ with_all_noted refs (map ref_of ms') → seats.Hands v n c ms h refs a w h' refs'
  hands_done h refs h' refs' d e f = (ms', x, by a d) where
    by : (a : Answer) → is_done a ≡ true → seats.LeavesBy a ms ms' h refs h' refs'
    by (answer.Done r) d' = (e ∙ ap (without h) (same_items d), f)
    by (answer.Full used wanted) d' = absurd (let q : false ≡ true = d' in cc)
    by answer.SinkFailed d' = absurd (let q : false ≡ true = d' in cc)
    by answer.Memory d' = absurd (let q : false ≡ true = d' in cc)

  pub hands_not : (h : Private) (refs : List Ref) → is_done a ≡ false → seats.Hands v n c ms h refs a w h refs
  hands_not h refs d = (ms', x, by a d) where
    by : (a : Answer) → is_done a ≡ false → seats.LeavesBy a ms ms' h refs h refs
    by (answer.Done r) d' = absurd (let q : true ≡ false = d' in cc)
    by (answer.Full used wanted) d' = (refl, refl)
    by answer.SinkFailed d' = (refl, refl)
    by answer.Memory d' = (refl, refl)

-- ---- what is noted is known

pub knows_handed : (v w : View) (n : ℕ) (c : Held) (ms : List MovedItem) (a : Answer) (ms' : List MovedItem) (h : Private) (refs : List Ref) (h' : Private) (refs' : List Ref) → is_end (asked c) ≡ false
    → ((r : Ref) → Has refs r → Knows v r) → seats.Answered v n c ms a ms' w → seats.LeavesBy a ms ms' h refs h' refs' → (r : Ref) → Has refs' r → Knows w r
knows_handed v w n c ms (answer.Done s) ms' h refs h' refs' e k x y r i = elim (all_noted refs (map ref_of ms') r (subst (λ rs. Has rs r) y.1 i)) [
  | inl o ↦ (goes_answered v w n c ms (answer.Done s) ms' e x).known r (k r o)
  | inr o ↦ subst (λ (u : View). Knows u r) (sym x.0) (has_right v.known (refs_in_reply s ++ map ref_of ms') r (has_right (refs_in_reply s) (map ref_of ms') r o))
]
knows_handed v w n c ms (answer.Full used wanted) ms' h refs h' refs' e k x y r i = (goes_answered v w n c ms (answer.Full used wanted) ms' e x).known r (k r (subst (λ rs. Has rs r) y.1 i))
knows_handed v w n c ms answer.SinkFailed ms' h refs h' refs' e k x y r i = (goes_answered v w n c ms answer.SinkFailed ms' e x).known r (k r (subst (λ rs. Has rs r) y.1 i))
knows_handed v w n c ms answer.Memory ms' h refs h' refs' e k x y r i = (goes_answered v w n c ms answer.Memory ms' e x).known r (k r (subst (λ rs. Has rs r) y.1 i))

-- with what the answer tells
pub knows_behind : (v w : View) (n : ℕ) (c : Held) (ms : List MovedItem) (a : Answer) (h : Private) (refs : List Ref) (h' : Private) (refs' refs'' : List Ref) → is_end (asked c) ≡ false → ((r : Ref) → Has refs r → Knows v r)
    → seats.Hands v n c ms h refs a w h' refs' → NotesOf refs' (refs_told a) refs'' → (r : Ref) → Has refs'' r → Knows w r
knows_behind v w n c ms a h refs h' refs' refs'' e k x t r i = elim (t r i) [
  | inl o ↦ knows_handed v w n c ms a x.0 h refs h' refs' e k x.1 x.2 r o
  | inr o ↦ knows_told v w n c ms a x.0 r x.1 o
]

-- ---- what the call needs

may_told : (v : View) (refs : List Ref) (ms : List MovedItem) → ((r : Ref) → Has refs r → Knows v r) → (xs : List Ref) → Each (IsTold refs ms) xs → Each (λ r. Knows v r ⊎ NamesOne ms r) xs
may_told v refs ms k xs e = each_of (IsTold refs ms) (λ r. Knows v r ⊎ NamesOne ms r) xs (λ r o. elim o [ inl i ↦ inl (k r i) | inr i ↦ inr i ]) e

pub may_hand : (v : View) (h : Private) (refs : List Ref) (ms : List MovedItem) (vs : List Val) (c : Held) → h.thread ≡ v.thread → ((r : Ref) → Has refs r → Knows v r) → Each (HasLeft h) (ids_moved v.log.entries)
    → Gathers h refs vs (refs_in_call c) ms → may_fill (asked c) ≡ true → ForSome (receiver c) (λ r. ReceivesAct v r (asked c)) → HasNextId v (asked c) → GathersOwn v (asked c) → HasJoined v (asked c) → MayAsk v c ms
may_hand v h refs ms vs c t k away g fill receives next gathers joined = record {
  receives = receives;
  known = may_told v refs ms k (refs_in_call c ++ refs_in_moved ms) g.told;
  own = subst (λ s. Each (λ (m : MovedItem). IsOwnId s m.id) ms) t g.own;
  once = g.once;
  first = moves_first h (without h (items_of ms)) vs ms (ids_moved v.log.entries) g.leaves away;
  things = subst (λ s. Each (λ (x : Item). MayMove s x.thing) (items_of ms)) t g.things;
  bare = λ b. absurd (let q : true ≡ false = sym fill ∙ b in cc);
  next = next;
  gathers = gathers;
  joined = joined;
}

pub may_act : (v : View) (h : Private) (refs : List Ref) (ms : List MovedItem) (r : Ref) (act : Asked) → h.thread ≡ v.thread → ((x : Ref) → Has refs x → Knows v x) → Each (HasLeft h) (ids_moved v.log.entries)
    → Gathers h refs (handed (doing act)) (refs_in_act act) ms → Has refs r → Serves r.sort (doing act) → is_join (doing act) ≡ false → MayAsk v (held.On r act) ms
may_act v h refs ms r act t k away g noted s e =
    may_hand v h refs ms (handed (doing act)) (held.On r act) t k away g refl (receives_by v r (doing act) (k r noted) s) tt tt (joins_none v (reference r) (doing act) e)

pub may_start : (v : View) (h : Private) (refs : List Ref) (ms : List MovedItem) (c : Held) (id : Id) (body : ℕ) (vs : List Val) → asked c ≡ Start id body vs → receiver c ≡ None → id ≡ next_thread v.thread v.log → h.thread ≡ v.thread
    → ((x : Ref) → Has refs x → Knows v x) → Each (HasLeft h) (ids_moved v.log.entries) → Gathers h refs vs (refs_in_call c) ms → MayAsk v c ms
may_start v h refs ms c id body vs is none e t k away g =
    may_hand v h refs ms vs c t k away g (ap may_fill is) (λ x q. absurd (let z : None ≡ Some x = sym none ∙ q in cc)) (subst (HasNextId v) (sym is) e) (subst (GathersOwn v) (sym is) tt) (subst (HasJoined v) (sym is) tt)

pub may_end_with : (v : View) (h : Private) (refs : List Ref) (ms : List MovedItem) (x : Value) → h.thread ≡ v.thread → ((r : Ref) → Has refs r → Knows v r) → Each (HasLeft h) (ids_moved v.log.entries)
    → Gathers h refs (plain x ∷ []) (refs_in x) ms → MayAsk v (held.End (held_end.Value x)) ms
may_end_with v h refs ms x t k away g = may_hand v h refs ms (plain x ∷ []) (held.End (held_end.Value x)) t k away g refl (λ r q. absurd (cc)) tt tt tt

-- ---- how it is served

pub served_handed : (v w : View) (n : ℕ) (c : Held) (ms : List MovedItem) (a : Answer) (h : Private) (refs : List Ref) (h' : Private) (refs' : List Ref) (s : Served) (d : Call) → is_print d ≡ false → s ≡ served_as a → asked c ≡ d
    → Leaves h (handed_by d) (items_of ms) (without h (items_of ms)) → seats.Hands v n c ms h refs a w h' refs' → IsServed s n d v.log w.log h h'
served_handed v w n c ms a h refs h' refs' s d p q i leaves x =
    subst (λ o. IsServed o n d v.log w.log h h') (sym q) (subst (λ k. IsServed (served_as a) n k v.log w.log h h') i
    (by a x.0 (ap is_print i ∙ p) (subst (λ k. Leaves h (handed_by k) (items_of ms) (without h (items_of ms))) (sym i) leaves) x.1 x.2))
  where
    by : (a : Answer) (ms' : List MovedItem) → is_print (asked c) ≡ false → Leaves h (handed_by (asked c)) (items_of ms) (without h (items_of ms)) → seats.Answered v n c ms a ms' w → seats.LeavesBy a ms ms' h refs h' refs'
        → IsServed (served_as a) n (asked c) v.log w.log h h'
    by (answer.Done r) ms' p l y z = (items_of ms, subst (Leaves h (handed_by (asked c)) (items_of ms)) (sym z.0) l, ap (λ (o : View). o.log) y.0)
    by (answer.Full used wanted) ms' p l y z = (z.0, (items_of ms, without h (items_of ms), l, ap (λ (o : View). o.log) y.0))
    by answer.SinkFailed ms' p l y z = absurd (let q : true ≡ false = sym y.1 ∙ p in cc)
    by answer.Memory ms' p l y z = (z.0, ap (λ (o : View). o.log) y.0)

-- ---- what holds of the thread's store behind it

module _ {Pass Q Z F : Type 0} {of : Pass → TableId} {view : Pass → View} {kept : Q → Pass → Type 0} {pre : F → Z → HeldJob → Pass → Type 0} {post : F → Z → HeldJob → Pass → Q → Type 0}
    {home : TableId} {S : Script} {N : ℕ} {j : Job} where
  -- the private things are those of the thread that the view shows
  pub mine_as : {here : TableId} {v : View} {own : Private} {number : ℕ} {refs : List Ref} {ks : List (Kin Q)} {f : F} {z : Z} → Alive of view kept pre post home S N j here v own number refs ks f z → own.thread ≡ v.thread
  mine_as l = l.mine ∙ sym l.sound.thread_is

  pub alive_handed : {here here' : TableId} {v w : View} {own own' : Private} {number : ℕ} {refs refs'' : List Ref} {ks : List (Kin Q)} {f : F} {z : Z} (n : ℕ) (c : Held) (ms : List MovedItem) (vs : List Val) (a : Answer) (refs' : List Ref)
      → Alive of view kept pre post home S N j here v own number refs ks f z → here' ≡ here → is_end (asked c) ≡ false → QuietAnswer c a → Leaves own vs (items_of ms) (without own (items_of ms))
      → seats.Hands v n c ms own refs a w own' refs' → NotesOf refs' (refs_told a) refs'' → Alive of view kept pre post home S N j here' w own' number refs'' ks f z
  alive_handed {v = v} {w = w} {own = own} {own' = own'} {refs = refs} {refs'' = refs''} n c ms vs a refs' l h e q leaves x t =
      alive_on n c ms a x.0 l h e q x.1 (keeps_handed own ms vs leaves a x.0 refs own' refs' x.2).0 (away_handed own ms vs leaves v w n c a x.0 refs own' refs' l.absent x.1 x.2)
      (knows_behind v w n c ms a own refs own' refs' refs'' e l.known x t)
