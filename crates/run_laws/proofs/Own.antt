-- What a thread moves it made, each thing once, and the threads that it starts have ids in their order.
use Rattle.std.proofs.Common.{◌≡◌, ◌≤◌, ◌<◌, ℕ, zero, suc, ◌==◌, Bool, true, false, cond, List, [], ◌∷◌, ◌++◌, length, set, Option, Some, None, refl, sym, ◌∙◌, subst, arith}
use Rattle.std.proofs.lemmas.Bool.{eqb-true}
use Rattle.std.proofs.lemmas.List.{length-set}
use Rattle.rb_model.specs.declared.value.Id.{Id}
use Rattle.rb_model.specs.Values.{Value as Val, Reference}
use Rattle.rb_model.specs.Acts.{Act, Done, handed}
use Rattle.rb_model.specs.Ends.{End as Ending, told, closing}
use Rattle.rb_model.specs.Ends as ending
use Rattle.rb_model.specs.Things.{Thing, becomes_by}
use Rattle.rb_model.specs.Private.{Private, Item, Leaves, nothing_waits, no_thing, elsewhere, moves, held, entered, acted, left}
use Rattle.rb_model.specs.Log.{Log, Entry, On, Start, Print}
use Rattle.rb_model.specs.Started.{started, thread_id, next_thread}
use Rattle.rb_machine.specs.Scopes.{Script}
use Rattle.rb_machine.specs.Control.{State}
use Rattle.rb_machine.specs.Follows.{At, Comes, ends, cut, fills, starts_full, refuses, Tail, all_gathered, gathers, leaves_out, Follows, closes, late, full, entry, gather_entry, last_entry}
use Rattle.rb_machine.specs.Follows as thread
use Rattle.rb_closure.specs.Closure.{Each}
use Rattle.rb_closure.proofs.Stores.{thing_at, at_none}
use Rattle.rb_closure.proofs.Lists.{both, each_of}
use Rattle.run_laws.proofs.Lists.{EachAfter, after_last}

-- ---- things by their numbers

pub below : (os : List (Option Thing)) (n : ℕ) (t : Thing) → thing_at os n ≡ Some t → n < length os
below [] n t e = absurd (let no : None ≡ Some t = e in cc)
below (o ∷ os) zero t e = omega (arith)
below (o ∷ os) (suc n) t e = let h = below os n t e in omega (arith, h)

pub at_front : (os ps : List (Option Thing)) (n : ℕ) → n < length os → thing_at (os ++ ps) n ≡ thing_at os n
at_front [] ps n l = absurd (let h = l in omega (arith, h))
at_front (o ∷ os) ps zero l = refl
at_front (o ∷ os) ps (suc n) l = at_front os ps n (let h = l in omega (arith, h))

longer : (os : List (Option Thing)) (o : Option Thing) → length os ≤ length (os ++ o ∷ [])
longer [] o = omega (arith)
longer (p ∷ os) o = let h = longer os o in omega (arith, h)

-- what stood nowhere stands nowhere behind a change of what stood
none_changed : (os : List (Option Thing)) (i j : ℕ) (x y : Thing) → thing_at os i ≡ Some x → thing_at os j ≡ None → thing_at (set os i (Some y)) j ≡ None
none_changed [] i j x y e f = f
none_changed (o ∷ os) zero zero x y e f = absurd (let no : Some x ≡ None = sym e ∙ f in cc)
none_changed (o ∷ os) zero (suc j) x y e f = f
none_changed (o ∷ os) (suc i) zero x y e f = f
none_changed (o ∷ os) (suc i) (suc j) x y e f = none_changed os i j x y e f

none_left : (os : List (Option Thing)) (i j : ℕ) → thing_at os j ≡ None → thing_at (set os i None) j ≡ None
none_left [] i j f = f
none_left (o ∷ os) zero zero f = refl
none_left (o ∷ os) zero (suc j) f = f
none_left (o ∷ os) (suc i) zero f = f
none_left (o ∷ os) (suc i) (suc j) f = none_left os i j f

pub held_there : (h : Private) (id : Id) (t : Thing) → held h id ≡ Some t → (id.thread ≡ h.thread) × (thing_at h.things id.serial ≡ Some t)
held_there h id t e = by (id.thread == h.thread) refl e
  where
    by : (b : Bool) → (id.thread == h.thread) ≡ b → cond b (thing_at h.things id.serial) None ≡ Some t → (id.thread ≡ h.thread) × (thing_at h.things id.serial ≡ Some t)
    by true s f = (eqb-true id.thread h.thread s, f)
    by false s f = absurd (let no : None ≡ Some t = f in cc)

-- ---- what becomes of a private store

-- a store of the same thread has as many numbers as another or more, and where nothing stands in that nothing stands in it
record Succeeds (h h' : Private) : Type 0 where
  pub whose : h'.thread ≡ h.thread
  pub longer : length h.things ≤ length h'.things
  pub none : (n : ℕ) → n < length h.things → thing_at h.things n ≡ None → thing_at h'.things n ≡ None

same_store : (h : Private) → Succeeds h h
same_store h = record { whose = refl; longer = omega (arith); none = λ n l e. e }

with_more : (h : Private) (x : Thing) → Succeeds h (entered h x)
with_more h x = record { whose = refl; longer = longer h.things (Some x); none = λ n l e. at_front h.things (Some x ∷ []) n l ∙ e }

with_act : (h : Private) (id : Id) (act : Act) (x : Thing) → held h id ≡ Some x → Succeeds h (acted h id act x)
with_act h id act x f = record {
  whose = refl;
  longer = (let l = length-set h.things id.serial (Some (becomes_by h.thread x act)) in omega (arith, l));
  none = λ n l e. none_changed h.things id.serial n x (becomes_by h.thread x act) (held_there h id x f).1 e;
}

without : (h h' : Private) (id : Id) → Succeeds (left h id) h' → Succeeds h h'
without h h' id s = record {
  whose = s.whose;
  longer = (let l = length-set h.things id.serial None in let m = s.longer in omega (arith, l, m));
  none = λ n l e. s.none n (let k = length-set h.things id.serial None in omega (arith, k, l)) (none_left h.things id.serial n e);
}

leaves_succeed : {h h' : Private} {vs : List Val} {ms : List Item} → Leaves h vs ms h' → Succeeds h h'
leaves_succeed (nothing_waits h) = same_store h
leaves_succeed (no_thing h h' v vs ms f l) = leaves_succeed l
leaves_succeed (elsewhere h h' r vs ms f l) = leaves_succeed l
leaves_succeed (moves h h' r x vs ms f l) = without h h' r.id (leaves_succeed l)

-- ---- what moved

-- a thing that the thread made is not private any more
abbrev pub HasGone : Private → Id → Type 0
HasGone h id = (id.thread ≡ h.thread) × (id.serial < length h.things) × (thing_at h.things id.serial ≡ None)

still_gone : (h h' : Private) (id : Id) → Succeeds h h' → HasGone h id → HasGone h' id
still_gone h h' id s (t, l, n) = (t ∙ sym s.whose, (let m = s.longer in omega (arith, l, m)), s.none id.serial l n)

leaves_gone : {h h' : Private} {vs : List Val} {ms : List Item} → Leaves h vs ms h' → Each (λ (x : Item). HasGone h' x.id) ms
leaves_gone (nothing_waits h) = tt
leaves_gone (no_thing h h' v vs ms f l) = leaves_gone l
leaves_gone (elsewhere h h' r vs ms f l) = leaves_gone l
leaves_gone (moves h h' r x vs ms f l) = (still_gone (left h r.id) h' r.id (leaves_succeed l) first, leaves_gone l)
  where
    first : HasGone (left h r.id) r.id
    first =
        let p = held_there h r.id x f in
        let b = below h.things r.id.serial x p.1 in
        let k = length-set h.things r.id.serial None in
        (p.0, omega (arith, b, k), at_none h.things r.id.serial)

-- ---- what a thread has done so far

-- a thread that is started has the next id
abbrev pub TakesNext : ℕ → List Entry → Entry → Type 0
TakesNext t done e = (id : Id) (body : ℕ) (values : List Val) → e.call ≡ Start id body values → id ≡ thread_id t (length (started done))

-- number 0 is no thing's, what moved has gone for good, and each thread that was started took the next id
pub record Owns (es : List Entry) (h : Private) : Type 0 where
  pub some : 0 < length h.things
  pub first : thing_at h.things 0 ≡ None
  pub gone : Each (λ (e : Entry). Each (λ (x : Item). HasGone h x.id) e.moved) es
  pub next : EachAfter (TakesNext h.thread) [] es

owns_still : (es : List Entry) (h h' : Private) → Succeeds h h' → Owns es h → Owns es h'
owns_still es h h' s o = record {
  some = (let m = s.longer in let n = o.some in omega (arith, m, n));
  first = s.none 0 o.some o.first;
  gone = each_of (λ (e : Entry). Each (λ (x : Item). HasGone h x.id) e.moved) (λ (e : Entry). Each (λ (x : Item). HasGone h' x.id) e.moved) es
      (λ e a. each_of (λ (x : Item). HasGone h x.id) (λ (x : Item). HasGone h' x.id) e.moved (λ x g. still_gone h h' x.id s g) a) o.gone;
  next = subst (λ t. EachAfter (TakesNext t) [] es) (sym s.whose) o.next;
}

-- an entry more, with which things move
owns_more : (es : List Entry) (e : Entry) (h h' : Private) (vs : List Val) → Leaves h vs e.moved h' → TakesNext h.thread es e → Owns es h → Owns (es ++ e ∷ []) h'
owns_more es e h h' vs l takes o =
    let s = leaves_succeed l in
    let now = owns_still es h h' s o in record {
      some = now.some;
      first = now.first;
      gone = both (λ (e : Entry). Each (λ (x : Item). HasGone h' x.id) e.moved) es (e ∷ []) now.gone (leaves_gone l, tt);
      next = after_last (TakesNext h'.thread) [] es e now.next (subst (λ t. TakesNext t es e) (sym s.whose) takes);
    }

starts_nothing : (t : ℕ) (es : List Entry) (e : Entry) → ((id : Id) (body : ℕ) (values : List Val) → e.call ≡ Start id body values → ⊥) → TakesNext t es e
starts_nothing t es e f id body values c = absurd (f id body values c)

module _ (S : Script) (N : ℕ) (start : State) where
  pub owns_at : {l : Log} {h : Private} {s : State} → At S N start l h s → Owns l.entries h
  owns_at (thread.here t) = record { some = omega (arith); first = refl; gone = tt; next = tt }
  owns_at (thread.goes l h s s' a e) = owns_at a
  owns_at (thread.makes l h s thing a e) = owns_still l.entries h (entered h thing) (with_more h thing) (owns_at a)
  owns_at (thread.acts l h s r act thing a e f) = owns_still l.entries h (acted h r.id act thing) (with_act h r.id act thing f) (owns_at a)
  owns_at (thread.asks l h h' s r act moved answer a e f g) =
      let last = entry S N start s (On r act) moved answer in
      owns_more l.entries last h h' (handed act) g (starts_nothing h.thread l.entries last (λ id body values c. cc)) (owns_at a)
  owns_at (thread.starts l h h' s body values moved answer a e g) =
      let last = entry S N start s (Start (next_thread h.thread l) body values) moved answer in
      owns_more l.entries last h h' values g (λ id b vs c. sym (start_is c)) (owns_at a)
    where
      start_is : {i j : Id} {b c : ℕ} {vs ws : List Val} → Start i b vs ≡ Start j c ws → i ≡ j
      start_is e = cc
  owns_at (thread.prints l h s bytes a e) =
      let last = entry S N start s (Print bytes) [] Done in
      owns_more l.entries last h h [] (nothing_waits h) (starts_nothing h.thread l.entries last (λ id body values c. cc)) (owns_at a)

  owns_out : {l : Log} {h : Private} {own : Ending} {n : ℕ} → Comes S N start l h own n → Owns l.entries h
  owns_out (ends l h s e a m) = owns_at a
  owns_out (cut l h want n a w ge le) = owns_at a
  owns_out (fills l h h' s r act moved used asked a e f g) = owns_at a
  owns_out (starts_full l h h' s body values moved used asked a e g) = owns_at a
  owns_out (refuses l h s bytes a e) = owns_at a

  owns_behind : {n : ℕ} {l l' : Log} {e e' : Ending} {rs : List Reference} {lacking : Bool} (h : Private) → Tail n l e rs l' e' lacking → Owns l.entries h → Owns l'.entries h
  owns_behind h (all_gathered l e) o = o
  owns_behind {n = n} h (gathers l l' e how e' r rs lacking t) o =
      let last = gather_entry n r how in
      owns_behind h t (owns_more l.entries last h h [] (nothing_waits h) (starts_nothing h.thread l.entries last (λ id body values c. cc)) o)
  owns_behind h (leaves_out l l' e e' r rs lacking t) o = owns_behind h t o

  owns_end : (es : List Entry) (n : ℕ) (how : Ending) (moved : List Item) (h h' : Private) (vs : List Val) → Leaves h vs moved h' → Owns es h → Owns (es ++ last_entry S N start n how moved ∷ []) h'
  owns_end es n how moved h h' vs l o =
      let last = last_entry S N start n how moved in
      owns_more es last h h' vs l (starts_nothing h.thread es last (λ id body values c. cc)) o

  pub owns_whole : {l : Log} {how : Ending} {h : Private} → Follows S N start l how h → Owns l.entries h
  owns_whole (closes l l' h h' own e n lacking moved c t g) = owns_end l'.entries n (closing e lacking) moved h h' (told (closing e lacking)) g (owns_behind h t (owns_out c))
  owns_whole (late l l' h own v n c t) = owns_end l'.entries n ending.Memory [] h h [] (nothing_waits h) (owns_behind h t (owns_out c))
  owns_whole (full l l' h h' own v n used asked moved c t g) = owns_end l'.entries n (ending.Full used asked) [] h h [] (nothing_waits h) (owns_behind h t (owns_out c))
