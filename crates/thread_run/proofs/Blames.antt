-- A failed sink, and a full heap, come from somewhere: where a thread ends so, a call was refused for it.
use Rattle.std.proofs.Common.{◌≡◌, ◌<◌, ◌==◌, ◌||◌, ◌⊎◌, ℕ, zero, suc, Bool, true, false, not, cond, List, [], ◌∷◌, ◌++◌, length, map, filter, slice_get, Option, Some, None, inl, inr, refl, sym, ap, ◌∙◌, subst, arith, append_assoc, true≢false, length-append}
use Rattle.std.specs.Prelude.{nat_lt}
use Rattle.std.specs.List.{flat_map}
use Rattle.std.proofs.lemmas.Bool.{eq-eqb}
use Rattle.rb_model.specs.declared.value.Id.{Id}
use Rattle.rb_model.specs.declared.fault.Fault.TheVariants.{UnlockForeign, ArrayTooLong, ThreadLimit}
use Rattle.rb_model.specs.Values.{Reference}
use Rattle.rb_model.specs.Acts.{Act, GetField, Put, Push, Unshift, KPut, Join, Lock, Unlock, Reply, Done, Ended, Failed}
use Rattle.rb_model.specs.Ends.{End as Ending}
use Rattle.rb_model.specs.Things.{Thing, Object, Elements, Pairs, Mutex, Thread, index_of, has_room, may_put, put_reply, max_elements}
use Rattle.rb_model.specs.Private.{Item}
use Rattle.rb_model.specs.Log.{Entry, Refusal, Call, On, Start, Gather, Print, End, is_end, has_end}
use Rattle.rb_shared.specs.Lists.{Has, Each}
use Rattle.rb_shared.specs.Store.{Store, opening, found, is_full}
use Rattle.rb_shared.specs.Step.{Steps, act_reply, reply_of, reply_to}
use Rattle.rb_shared.specs.History.{Event, Placed, History, IsLegal, EndsOnce, Leads, IsNoThread, MovesNoThread, is_event, is_read, moves_none, merge, by, entries_of}
use Rattle.rb_shared.specs.Laws.{IsJoin}
use Rattle.rb_shared.proofs.Runs.{has_front, has_behind, each_has}
use Rattle.rb_shared.proofs.Joins.{joins_come_behind_ends}
use Rattle.rb_thread.specs.Asking.{is_join}
use Rattle.rb_thread.specs.Family.{words_of, HasCause}
use Rattle.thread_run.specs.Run.{EndsWith, WasRefused}
use Rattle.thread_run.proofs.Telling.{some_is, has_by, has_either, has_got, split_at, stands_in, in_events}

-- ---- nothing but a Join tells an end

abbrev told_end : Reply → Option Ending
told_end (Ended how) = Some how
told_end reply = None

if_told : (b : Bool) (x y : Reply) → told_end x ≡ None → told_end y ≡ None → told_end (cond b x y) ≡ None
if_told true x y p q = p
if_told false x y p q = q

put_told : (i : Option ℕ) → told_end (put_reply i) ≡ None
put_told None = refl
put_told (Some n) = if_told (nat_lt n max_elements) Done (Failed ArrayTooLong) refl refl

grown_told : (b : Bool) → told_end (cond b Done (Failed ArrayTooLong)) ≡ None
grown_told b = if_told b Done (Failed ArrayTooLong) refl refl

act_told : (t : ℕ) (thing : Thing) (act : Act) → is_join act ≡ false → told_end (act_reply t thing act) ≡ None
act_told t (Thread s) Join j = absurd (true≢false j)
act_told t (Thread s) act j = refl
act_told t (Mutex None) Lock j = refl
act_told t (Mutex (Some owner)) Lock j = refl
act_told t (Mutex None) Unlock j = refl
act_told t (Mutex (Some owner)) Unlock j = if_told (owner == t) Done (Failed UnlockForeign) refl refl
act_told t (Mutex owner) act j = refl
act_told t (Object class fields) (GetField name) j = refl
act_told t (Object class fields) act j = refl
act_told t (Elements vs) (Put i v) j = put_told (index_of (length vs) i)
act_told t (Elements vs) (Push v) j = grown_told (has_room (length vs))
act_told t (Elements vs) (Unshift v) j = grown_told (has_room (length vs))
act_told t (Elements vs) act j = refl
act_told t (Pairs ps) (KPut k v) j = grown_told (may_put k ps)
act_told t (Pairs ps) act j = refl

any_told : (t : ℕ) (o : Option Thing) (act : Act) → is_join act ≡ false → told_end (reply_of t o act) ≡ None
any_told t None act j = refl
any_told t (Some thing) act j = act_told t thing act j

joins_by : (b : Bool) (r : Reference) (act : Act) (t : ℕ) (o : Option Thing) (how : Ending) → is_join act ≡ b → told_end (reply_of t o act) ≡ Some how → IsJoin (On r act) r.id
joins_by true r Join t o how j e = refl
joins_by true r act t o how j e = absurd (true≢false (sym j))
joins_by false r act t o how j e = absurd (let q : None ≡ Some how = sym (any_told t o act j) ∙ e in cc)

call_joins : (slots : ℕ) (z : Store) (t : ℕ) (c : Call) (how : Ending) → told_end (reply_to slots z t c) ≡ Some how → (id : Id) × IsJoin c id
call_joins slots z t (On r act) how e = (r.id, joins_by (is_join act) r act t (found z r.id) how refl e)
call_joins slots z t (Start id body values) how e = absurd (let q : None ≡ Some how = sym (if_told (is_full slots z t) (Failed ThreadLimit) _ refl refl) ∙ e in cc)
call_joins slots z t (Gather r) how e = (r.id, refl)
call_joins slots z t (Print bytes) how e = absurd (let q : None ≡ Some how = e in cc)
call_joins slots z t (End last) how e = absurd (let q : None ≡ Some how = e in cc)

only_joins : (slots : ℕ) (z z' : Store) (t : ℕ) (e : Entry) (how : Ending) → Steps slots z t e z' → e.reply ≡ Ended how → (id : Id) × IsJoin e.call id
only_joins slots z z' t e how s q = call_joins slots (z ++ e.moved) t e.call how (sym (ap told_end s.reply_is) ∙ ap told_end q)

-- ---- lists

abbrev first_of : {X : Type 0} → List X → Option X
first_of [] = None
first_of (x ∷ xs) = Some x

abbrev rest_of : {X : Type 0} → List X → List X
rest_of [] = []
rest_of (x ∷ xs) = xs

head_is : {X : Type 0} (x y : X) (xs ys : List X) → x ∷ xs ≡ y ∷ ys → x ≡ y
head_is x y xs ys e = some_is x y (ap first_of e)

tail_is : {X : Type 0} (x y : X) (xs ys : List X) → x ∷ xs ≡ y ∷ ys → xs ≡ ys
tail_is x y xs ys e = ap rest_of e

-- a list has one last element
last_is : {X : Type 0} (xs ys : List X) (x y : X) → xs ++ x ∷ [] ≡ ys ++ y ∷ [] → x ≡ y
last_is [] [] x y e = head_is x y [] [] e
last_is [] (b ∷ ys) x y e = absurd (let n : suc 0 ≡ length (b ∷ ys ++ y ∷ []) = ap length e in let m = length-append ys (y ∷ []) in omega (arith, n, m))
last_is (a ∷ xs) [] x y e = absurd (let n : length (a ∷ xs ++ x ∷ []) ≡ suc 0 = ap length e in let m = length-append xs (x ∷ []) in omega (arith, n, m))
last_is (a ∷ xs) (b ∷ ys) x y e = last_is xs ys x y (tail_is a b (xs ++ x ∷ []) (ys ++ y ∷ []) e)

-- an End stands last, where none stands before the last entry
ends_last : (xs ys zs : List Entry) (x z : Entry) → xs ++ x ∷ ys ≡ zs ++ z ∷ [] → is_end x.call ≡ true → has_end zs ≡ false → (xs ≡ zs) × (x ≡ z)
ends_last [] ys [] x z e is none = (refl, head_is x z ys [] e)
ends_last [] ys (b ∷ zs) x z e is none =
    let same : x ≡ b = head_is x b ys (zs ++ z ∷ []) e in
    absurd (true≢false (sym (ap (λ (o : Entry). is_end o.call || has_end zs) (sym same) ∙ ap (λ o. o || has_end zs) is) ∙ none))
ends_last (a ∷ xs) ys [] x z e is none = absurd (let n : length (xs ++ x ∷ ys) ≡ 0 = ap length (tail_is a z (xs ++ x ∷ ys) [] e) in let m = length-append xs (x ∷ ys) in omega (arith, n, m))
ends_last (a ∷ xs) ys (b ∷ zs) x z e is none =
    let more = ends_last xs ys zs x z (tail_is a b (xs ++ x ∷ ys) (zs ++ z ∷ []) e) is (later_none b zs none) in
    (subst (λ o. a ∷ xs ≡ o ∷ zs) (head_is a b (xs ++ x ∷ ys) (zs ++ z ∷ []) e) (ap (λ os. a ∷ os) more.0), more.1) where
      later_none : (b : Entry) (zs : List Entry) → has_end (b ∷ zs) ≡ false → has_end zs ≡ false
      later_none b zs q = behind (is_end b.call) (has_end zs) q where
        behind : (p o : Bool) → (p || o) ≡ false → o ≡ false
        behind true o q = absurd (true≢false q)
        behind false o q = q

-- the entries of the thread of an event, before it and behind it
by_event : (t : ℕ) (b : Bool) (x : Event) (es : List Event) → b ≡ true → map (λ (z : Event). z.entry) (cond b (x ∷ filter (λ (z : Event). z.thread == t) es) (filter (λ (z : Event). z.thread == t) es)) ≡ x.entry ∷ by t es
by_event t true x es e = refl
by_event t false x es e = absurd (true≢false (sym e))

by_step : (t : ℕ) (b : Bool) (y : Event) (es us : List Event) (ws : List Entry) → by t es ≡ by t us ++ ws
    → map (λ (z : Event). z.entry) (cond b (y ∷ filter (λ (z : Event). z.thread == t) es) (filter (λ (z : Event). z.thread == t) es))
    ≡ map (λ (z : Event). z.entry) (cond b (y ∷ filter (λ (z : Event). z.thread == t) us) (filter (λ (z : Event). z.thread == t) us)) ++ ws
by_step t true y es us ws e = ap (λ os. y.entry ∷ os) e
by_step t false y es us ws e = e

by_around : (x : Event) (front behind : List Event) → by x.thread (front ++ x ∷ behind) ≡ by x.thread front ++ x.entry ∷ by x.thread behind
by_around x [] behind = by_event x.thread (x.thread == x.thread) x behind (eq-eqb x.thread x.thread refl)
by_around x (y ∷ front) behind = by_step x.thread (y.thread == x.thread) y (front ++ x ∷ behind) front (x.entry ∷ by x.thread behind) (by_around x front behind)

-- a step of those that lead from one store to another
steps_at : (slots : ℕ) (z z' : Store) (front behind : List Event) (e : Event) → Leads slots z (front ++ e ∷ behind) z' → (y : Store) × (y' : Store) × Steps slots y e.thread e.entry y'
steps_at slots z z' [] behind e l = (z, l.0, l.1)
steps_at slots z z' (x ∷ front) behind e l = steps_at slots l.0 z' front behind e l.2

-- what one of the threads was refused
has_refusal : (ps : List Placed) (p : Placed) (r : Refusal) → Has ps p → Has p.log.refusals r → Has (flat_map (λ (o : Placed). o.log.refusals) ps) r
has_refusal [] p r h i = absurd h
has_refusal (q ∷ ps) p r (inl e) i = has_front q.log.refusals _ r (subst (λ (o : Placed). Has o.log.refusals r) e i)
has_refusal (q ∷ ps) p r (inr h) i = has_behind q.log.refusals _ r (has_refusal ps p r h i)

-- an event of the merge with this call, before which there are fewer events than these
record Before (h : History) (count : ℕ) (call : Call) : Type 0 where
  front : List Event
  behind : List Event
  event : Event
  fewer : length front < count
  is : merge h ≡ front ++ event ∷ behind
  calls : event.entry.call ≡ call

-- ---- no entry of the merge moves a thread

module _ (slots : ℕ) (h : History) (l : IsLegal slots h) where
  unmoved_if : (b : Bool) (x : Event) → is_event x.entry ≡ b → Has (merge h) x → MovesNoThread x
  unmoved_if true x is has = each_has MovesNoThread h.events x l.unmoved (in_events 0 h.events h.threads x l.points is has)
  unmoved_if false x is has = none (is_read x.entry.call) x.entry.moved is where
    none : (b : Bool) (ms : List Item) → (not b || not (moves_none ms)) ≡ false → Each (λ (i : Item). IsNoThread i.thing) ms
    none true [] e = tt
    none true (m ∷ ms) e = absurd (true≢false e)
    none false ms e = absurd (true≢false e)

  each_unmoved : (xs : List Event) → ((x : Event) → Has xs x → Has (merge h) x) → Each MovesNoThread xs
  each_unmoved [] f = tt
  each_unmoved (x ∷ xs) f = (unmoved_if (is_event x.entry) x refl (f x (inl refl)), each_unmoved xs (λ y i. f y (inr i)))

  -- ---- the cause of an end

  -- each thread ends so, and its end has its cause
  abbrev pub HaveCauses : Type 0
  HaveCauses = (n : ℕ) (p : Placed) → slice_get h.threads n ≡ Some p → (how : Ending) × EndsWith p.log.entries how × HasCause p.log how

  -- an end that was told to a thread before its own stands before that
  told_before : (front behind : List Event) (x : Event) (e : Entry) (how : Ending) → merge h ≡ front ++ x ∷ behind → Has (by x.thread front) e → e.reply ≡ Ended how → Before h (length front) (End how)
  told_before front behind x e how is has told =
      let event : Event = record { thread = x.thread; entry = e } in
      let s = split_at front event (has_by x.thread front e has) in
      let all : merge h ≡ s.0 ++ event ∷ (s.1 ++ x ∷ behind) = is ∙ (ap (λ es. es ++ x ∷ behind) s.2 ∙ append_assoc s.0 (event ∷ s.1) (x ∷ behind)) in
      let leads = subst (λ es. Leads slots opening es l.last) all l.steps in
      let step = steps_at slots opening l.last s.0 (s.1 ++ x ∷ behind) event leads in
      let join = only_joins slots step.0 step.1 x.thread e how step.2 told in
      let unmoved = each_unmoved (s.0 ++ event ∷ (s.1 ++ x ∷ behind)) (λ y i. subst (λ es. Has es y) (sym all) i) in
      let end = joins_come_behind_ends slots s.0 (s.1 ++ x ∷ behind) event l.last join.0 how leads unmoved join.1 told in
      let so = end.2 in
      let r = split_at s.0 so.0 so.1 in
      let few = length-append r.0 (so.0 ∷ r.1) in
      let many = length-append s.0 (event ∷ s.1) in
      let first = ap length r.2 in
      let second = ap length s.2 in record {
        front = r.0;
        behind = r.1 ++ event ∷ (s.1 ++ x ∷ behind);
        event = so.0;
        fewer = omega (arith, few, many, first, second);
        is = all ∙ (ap (λ es. es ++ event ∷ (s.1 ++ x ∷ behind)) r.2 ∙ append_assoc r.0 (so.0 ∷ r.1) (event ∷ (s.1 ++ x ∷ behind)));
        calls = so.3;
      }

  end_is : (a b : Ending) → End a ≡ End b → a ≡ b
  end_is a b e = some_is a b (ap ended_by e) where
    ended_by : Call → Option Ending
    ended_by (End o) = Some o
    ended_by c = None

  module _ (causes : HaveCauses) where
    -- the End of a thread by the sink's failure, or by a full heap: a call was refused for it, or a thread ended so before
    step_back : (front behind : List Event) (x : Event) (how : Ending) (words : Option (ℕ × ℕ)) → merge h ≡ front ++ x ∷ behind → x.entry.call ≡ End how
        → words_of how ≡ Some words → WasRefused h words ⊎ Before h (length front) (End how)
    step_back front behind x how words is call ws =
        let here : Has (merge h) x = subst (λ es. Has es x) (sym is) (has_behind front (x ∷ behind) x (inl refl)) in
        let s = stands_in slots h x l here in
        let there = has_got h.threads x.thread s.0 s.1 in
        let own = causes x.thread s.0 s.1 in
        let once = each_has (λ (q : Placed). EndsOnce q.log.entries) h.threads s.0 l.ends there in
        let log : by x.thread (merge h) ≡ s.0.log.entries = l.logs x.thread ∙ ap entries_of s.1 in
        let around : by x.thread front ++ x.entry ∷ by x.thread behind ≡ s.0.log.entries = sym (by_around x front behind) ∙ (ap (by x.thread) (sym is) ∙ log) in
        let last = ends_last (by x.thread front) (by x.thread behind) once.0 x.entry once.1 (around ∙ once.3) (ap is_end call) once.5 in
        let same : once.1 ≡ own.1.1 = last_is once.0 own.1.0 once.1 own.1.1 (sym once.3 ∙ own.1.2) in
        let ended : own.0 ≡ how = end_is own.0 how (sym own.1.3 ∙ (ap (λ (o : Entry). o.call) (sym same) ∙ (ap (λ (o : Entry). o.call) (sym last.1) ∙ call))) in
        elim (own.2 words (ap words_of ended ∙ ws)) [
          | inl r ↦ inl (r.0, has_refusal h.threads s.0 r.0 there r.1, r.2)
          | inr t ↦ elim (has_either once.0 (once.1 ∷ []) t.0 (subst (λ es. Has es t.0) once.3 t.1)) [
            | inl i ↦ inr (told_before front behind x t.0 how is (subst (λ es. Has es t.0) (sym last.0) i) (t.2 ∙ ap Ended ended))
            | inr i ↦ absurd (no_join front behind x t.0 how is (only i ∙ sym last.1) (t.2 ∙ ap Ended ended) call)
          ]
        ] where
          only : {X : Type 0} {x y : X} → Has (y ∷ []) x → x ≡ y
          only (inl e) = e
          only (inr none) = absurd none

          no_join : (front behind : List Event) (x : Event) (e : Entry) (how : Ending) → merge h ≡ front ++ x ∷ behind → e ≡ x.entry → e.reply ≡ Ended how → x.entry.call ≡ End how → ⊥
          no_join front behind x e how is same told call =
              let step = steps_at slots opening l.last front behind x (subst (λ es. Leads slots opening es l.last) is l.steps) in
              let join = only_joins slots step.0 step.1 x.thread x.entry how step.2 (ap (λ (o : Entry). o.reply) (sym same) ∙ told) in
              subst (λ c. IsJoin c join.0) call join.1

    blamed : (fuel : ℕ) (front behind : List Event) (x : Event) (how : Ending) (words : Option (ℕ × ℕ)) → length front < fuel → merge h ≡ front ++ x ∷ behind → x.entry.call ≡ End how
        → words_of how ≡ Some words → WasRefused h words
    blamed zero front behind x how words lt is call ws = absurd (omega (arith, lt))
    blamed (suc fuel) front behind x how words lt is call ws = elim (step_back front behind x how words is call ws) [
      | inl r ↦ r
      | inr b ↦ let f = b.fewer in blamed fuel b.front b.behind b.event how words (omega (arith, f, lt)) b.is b.calls ws
    ]

    -- where a thread ends by the sink's failure, or by a full heap, a call was refused for it
    pub ends_come_from_somewhere : (n : ℕ) (p : Placed) (how : Ending) (words : Option (ℕ × ℕ)) → slice_get h.threads n ≡ Some p → EndsWith p.log.entries how → words_of how ≡ Some words → WasRefused h words
    ends_come_from_somewhere n p how words at e ws =
        let own : by n (merge h) ≡ p.log.entries = l.logs n ∙ ap entries_of at in
        let has : Has p.log.entries e.1 = subst (λ es. Has es e.1) (sym e.2) (has_behind e.0 (e.1 ∷ []) e.1 (inl refl)) in
        let x : Event = record { thread = n; entry = e.1 } in
        let s = split_at (merge h) x (has_by n (merge h) e.1 (subst (λ es. Has es e.1) (sym own) has)) in
        blamed (suc (length s.0)) s.0 s.1 x how words (omega arith) s.2 e.3 ws
