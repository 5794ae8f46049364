-- A mutex that one thread owns is no one else's until it gives it back or ends.
use Rattle.std.proofs.Common.{◌≡◌, ◌⊎◌, inl, inr, ℕ, ◌==◌, ◌&&◌, ◌||◌, Bool, true, false, cond, List, [], ◌∷◌, ◌++◌, map, Option, Some, None, refl, sym, ap, ◌∙◌, subst}
use Rattle.std.specs.Option.{option_map}
use Rattle.std.proofs.lemmas.Bool.{eqb-true, eq-eqb}
use Rattle.rb_model.specs.declared.fault.Fault.TheVariants.{UnlockForeign}
use Rattle.rb_model.specs.declared.value.Id.{Id}
use Rattle.rb_model.specs.Values.{Reference, same_id}
use Rattle.rb_model.specs.Acts.{Act, Join, Lock, Unlock, Done, Failed}
use Rattle.rb_model.specs.Ends.{End as Ending}
use Rattle.rb_model.specs.Things.{Thing, Object, Elements, Pairs, Mutex, Thread, owner_behind}
use Rattle.rb_model.specs.Private.{Item}
use Rattle.rb_model.specs.Log.{Call, On, Start, Gather, Print, End}
use Rattle.rb_shared.specs.Lists.{Has}
use Rattle.rb_shared.specs.Store.{Store, found, with_thing, is_full}
use Rattle.rb_shared.specs.Step.{Steps, behind_act, reply_of, reply_to, store_behind, with_act, ended_item, ended_thing, new_thread}
use Rattle.rb_shared.specs.History.{Event, Leads}
use Rattle.rb_shared.specs.Laws.{is_unlock_of, is_last, gives_back, OwnersAloneUnlock, LocksExclude}
use Rattle.rb_shared.proofs.Runs.{same_is, found_more}

-- ---- what is found behind a change

found_with_first : (b : Bool) (x : Item) (xs : Store) (id : Id) (old new : Thing) → same_id x.id id ≡ b → (found xs id ≡ Some old → found (with_thing xs id new) id ≡ Some new)
    → cond b (Some x.thing) (found xs id) ≡ Some old → found (cond b (record { id = x.id; thing = new } ∷ xs) (x ∷ with_thing xs id new)) id ≡ Some new
found_with_first true x xs id old new s more f = ap (λ b. cond b (Some new) (found xs id)) s
found_with_first false x xs id old new s more f = ap (λ b. cond b (Some x.thing) (found (with_thing xs id new) id)) s ∙ more f

found_with : (z : Store) (id : Id) (old new : Thing) → found z id ≡ Some old → found (with_thing z id new) id ≡ Some new
found_with [] id old new f = absurd (cc)
found_with (x ∷ xs) id old new f = found_with_first (same_id x.id id) x xs id old new refl (found_with xs id old new) f

other_first : (b : Bool) (x : Item) (xs : Store) (a id : Id) (new : Thing) → same_id x.id a ≡ b → same_id a id ≡ false → found (with_thing xs a new) id ≡ found xs id
    → found (cond b (record { id = x.id; thing = new } ∷ xs) (x ∷ with_thing xs a new)) id ≡ found (x ∷ xs) id
other_first true x xs a id new s differ more =
    let no : same_id x.id id ≡ false = ap (λ i. same_id i id) (same_is x.id a s) ∙ differ in
    ap (λ b. cond b (Some new) (found xs id)) no ∙ sym (ap (λ b. cond b (Some x.thing) (found xs id)) no)
other_first false x xs a id new s differ more = ap (λ o. cond (same_id x.id id) (Some x.thing) o) more

found_other : (z : Store) (a id : Id) (new : Thing) → same_id a id ≡ false → found (with_thing z a new) id ≡ found z id
found_other [] a id new differ = refl
found_other (x ∷ xs) a id new differ = other_first (same_id x.id a) x xs a id new refl differ (found_other xs a id new differ)

ended_first : (b : Bool) (t : ℕ) (how : Ending) (x : Item) (o o' : Option Thing) → o' ≡ option_map (ended_thing t how) o → cond b (Some (ended_thing t how x.thing)) o' ≡ option_map (ended_thing t how) (cond b (Some x.thing) o)
ended_first true t how x o o' e = refl
ended_first false t how x o o' e = e

found_ended : (z : Store) (t : ℕ) (how : Ending) (id : Id) → found (map (ended_item t how) z) id ≡ option_map (ended_thing t how) (found z id)
found_ended [] t how id = refl
found_ended (x ∷ xs) t how id = ended_first (same_id x.id id) t how x (found xs id) (found (map (ended_item t how) xs) id) (found_ended xs t how id)

-- ---- replies

unlock_tells : (t : ℕ) (o : Option Thing) → reply_of t o Unlock ≡ Done → o ≡ Some (Mutex (Some t))
unlock_tells t None e = absurd (cc)
unlock_tells t (Some (Thread s)) e = absurd (cc)
unlock_tells t (Some (Mutex None)) e = absurd (cc)
unlock_tells t (Some (Mutex (Some owner))) e = by (owner == t) refl e
  where
    by : (b : Bool) → (owner == t) ≡ b → cond b Done (Failed UnlockForeign) ≡ Done → Some (Mutex (Some owner)) ≡ Some (Mutex (Some t))
    by true is f = ap (λ n. Some (Mutex (Some n))) (eqb-true owner t is)
    by false is f = absurd (cc)
unlock_tells t (Some (Object class fields)) e = absurd (cc)
unlock_tells t (Some (Elements vs)) e = absurd (cc)
unlock_tells t (Some (Pairs ps)) e = absurd (cc)

lock_tells : (t : ℕ) (o : Option Thing) → reply_of t o Lock ≡ Done → o ≡ Some (Mutex None)
lock_tells t None e = absurd (cc)
lock_tells t (Some (Thread s)) e = absurd (cc)
lock_tells t (Some (Mutex None)) e = refl
lock_tells t (Some (Mutex (Some owner))) e = absurd (cc)
lock_tells t (Some (Object class fields)) e = absurd (cc)
lock_tells t (Some (Elements vs)) e = absurd (cc)
lock_tells t (Some (Pairs ps)) e = absurd (cc)

pub owners_alone_unlock : OwnersAloneUnlock
owners_alone_unlock slots z z' t e r s call reply =
    let w = z ++ e.moved in
    unlock_tells t (found w r.id) (sym (s.reply_is ∙ ap (reply_to slots w t) call) ∙ reply)

-- ---- what another call leaves of a mutex

-- a thread that does not give it back is not its owner, or does something else
unlock_kept : (u t : ℕ) (b same : Bool) → (t == u) ≡ b → same ≡ true → ((u == t) && (same || false)) ≡ false → cond b None (Some t) ≡ Some t
unlock_kept u t true same owner is keeps =
    let is_t : (u == t) ≡ true = eq-eqb u t (sym (eqb-true t u owner)) in
    let yes : ((u == t) && (same || false)) ≡ true = ap (λ x. x && (same || false)) is_t ∙ ap (λ x. x || false) is in
    let wrong : true ≡ false = sym yes ∙ keeps in
    absurd (cc)
unlock_kept u t false same owner is keeps = refl

owner_kept : (u t : ℕ) (c : Act) (same : Bool) → same ≡ true → (c ≡ Unlock → ((u == t) && (same || false)) ≡ false) → owner_behind u c (Some t) ≡ Some t
owner_kept u t Unlock same is keeps = unlock_kept u t (t == u) same refl is (keeps refl)
owner_kept u t c same is keeps = refl

some_thing : (x y : Thing) → Some x ≡ Some y → x ≡ y
some_thing x y e = cc

module _ (id : Id) (t : ℕ) where
  abbrev Owns : Store → Type 0
  Owns z = found z id ≡ Some (Mutex (Some t))

  -- an act on this very mutex
  act_here : (u : ℕ) (w : Store) (a : Id) (act : Act) (thing : Thing) → same_id a id ≡ true → found w a ≡ Some thing → (act ≡ Unlock → ((u == t) && (same_id a id || false)) ≡ false) → Owns w
      → Owns (with_thing w a (behind_act u thing act))
  act_here u w a act thing same f keeps owns =
      let is : a ≡ id = same_is a id same in
      let thing_is : thing ≡ Mutex (Some t) = some_thing thing (Mutex (Some t)) (sym f ∙ (ap (found w) is ∙ owns)) in
      let stays : behind_act u thing act ≡ Mutex (Some t) = ap (λ x. behind_act u x act) thing_is ∙ ap Mutex (owner_kept u t act (same_id a id) same keeps) in
      subst (λ i. found (with_thing w a (behind_act u thing act)) i ≡ Some (Mutex (Some t))) is (found_with w a thing (behind_act u thing act) f ∙ ap Some stays)

  act_by : (b : Bool) (u : ℕ) (w : Store) (a : Id) (act : Act) (thing : Thing) → same_id a id ≡ b → found w a ≡ Some thing → (act ≡ Unlock → ((u == t) && (same_id a id || false)) ≡ false) → Owns w
      → Owns (with_thing w a (behind_act u thing act))
  act_by true u w a act thing same f keeps owns = act_here u w a act thing same f keeps owns
  act_by false u w a act thing differ f keeps owns = found_other w a id (behind_act u thing act) differ ∙ owns

  act_leaves : (u : ℕ) (w : Store) (a : Id) (act : Act) (o : Option Thing) → found w a ≡ o → (act ≡ Unlock → ((u == t) && (same_id a id || false)) ≡ false) → Owns w → Owns (with_act u w a o act)
  act_leaves u w a act None f keeps owns = owns
  act_leaves u w a act (Some thing) f keeps owns = act_by (same_id a id) u w a act thing refl f keeps owns

  -- the end of another thread
  end_leaves : (u : ℕ) (w : Store) (how : Ending) → (u == t) ≡ false → Owns w → Owns (map (ended_item u how) w)
  end_leaves u w how other owns = found_ended w u how id ∙ (ap (option_map (ended_thing u how)) owns ∙ by (t == u) refl)
    where
      by : (b : Bool) → (t == u) ≡ b → Some (Mutex (cond b None (Some t))) ≡ Some (Mutex (Some t))
      by true owner = let wrong : true ≡ false = sym (eq-eqb u t (sym (eqb-true t u owner))) ∙ other in absurd (cc)
      by false owner = refl

  start_leaves : (b : Bool) (w : Store) (x : Item) → Owns w → Owns (cond b w (w ++ x ∷ []))
  start_leaves true w x owns = owns
  start_leaves false w x owns = found_more w (x ∷ []) id (Mutex (Some t)) owns

  -- what an act on another thing, or one that gives nothing back, says of `gives_back`
  not_back : (u : ℕ) (r : Reference) (act : Act) → ((u == t) && (is_unlock_of id (On r act) || is_last (On r act))) ≡ false → act ≡ Unlock → ((u == t) && (same_id r.id id || false)) ≡ false
  not_back u r Unlock keeps is = keeps
  not_back u r act keeps is = absurd (cc)

  no_end : (b : Bool) → (b && (false || true)) ≡ false → b ≡ false
  no_end true e = absurd (let wrong : true ≡ false = e in cc)
  no_end false e = refl

  call_leaves : (slots u : ℕ) (w : Store) (c : Call) → ((u == t) && (is_unlock_of id c || is_last c)) ≡ false → Owns w → Owns (store_behind slots w u c)
  call_leaves slots u w (On r act) keeps owns = act_leaves u w r.id act (found w r.id) refl (not_back u r act keeps) owns
  call_leaves slots u w (Gather r) keeps owns = act_leaves u w r.id Join (found w r.id) refl (λ e. absurd (let wrong : Join ≡ Unlock = e in cc)) owns
  call_leaves slots u w (Start thing body values) keeps owns = start_leaves (is_full slots w u) w (new_thread w u thing) owns
  call_leaves slots u w (Print bytes) keeps owns = owns
  call_leaves slots u w (End how) keeps owns = end_leaves u w how (no_end (u == t) keeps) owns

  event_leaves : (slots : ℕ) (z y : Store) (e : Event) → Steps slots z e.thread e.entry y → gives_back t id e ≡ false → Owns z → Owns y
  event_leaves slots z y e s keeps owns =
      subst Owns (sym s.store_is) (call_leaves slots e.thread (z ++ e.entry.moved) e.entry.call keeps (found_more z e.entry.moved id (Mutex (Some t)) owns))

  abbrev GivenBack : List Event → Type 0
  GivenBack es = (e : Event) × Has es e × (gives_back t id e ≡ true)

  later_back : (e : Event) (es : List Event) (z : Store) → Owns z ⊎ GivenBack es → Owns z ⊎ GivenBack (e ∷ es)
  later_back e es z (inl owns) = inl owns
  later_back e es z (inr (x, has, is)) = inr (x, inr has, is)

  -- through a run the mutex stays its owner's, or it was given back
  run_leaves : (slots : ℕ) (es : List Event) (z z' : Store) → Owns z → Leads slots z es z' → Owns z' ⊎ GivenBack es
  run_leaves slots [] z z' owns l = inl (subst Owns (sym l) owns)
  run_leaves slots (e ∷ es) z z' owns (y, s, l) = first (gives_back t id e) refl (λ is. run_leaves slots es y z' (event_leaves slots z y e s is owns) l)
    where
      first : (b : Bool) → gives_back t id e ≡ b → (gives_back t id e ≡ false → Owns z' ⊎ GivenBack es) → Owns z' ⊎ GivenBack (e ∷ es)
      first true is more = inr (e, inl refl, is)
      first false is more = later_back e es z' (more is)

-- ---- the law

-- the mutex is the caller's behind a Lock that is done
locked : (slots : ℕ) (z z' : Store) (e : Event) (r : Reference) → Steps slots z e.thread e.entry z' → e.entry.call ≡ On r Lock → e.entry.reply ≡ Done → found z' r.id ≡ Some (Mutex (Some e.thread))
locked slots z z' e r s call reply =
    let w = z ++ e.entry.moved in
    let free : found w r.id ≡ Some (Mutex None) = lock_tells e.thread (found w r.id) (sym (s.reply_is ∙ ap (reply_to slots w e.thread) call) ∙ reply) in
    let behind : z' ≡ with_thing w r.id (Mutex (Some e.thread)) = s.store_is ∙ (ap (store_behind slots w e.thread) call ∙ ap (λ o. with_act e.thread w r.id o Lock) free) in
    subst (λ y. found y r.id ≡ Some (Mutex (Some e.thread))) (sym behind) (found_with w r.id (Mutex None) (Mutex (Some e.thread)) free)

pub locks_exclude : LocksExclude
locks_exclude slots z1 z2 z3 z4 first last between r q s call reply l s' call' reply' same =
    by (run_leaves r.id first.thread slots between z2 z3 (locked slots z1 z2 first r s call reply) l)
  where
    by : (found z3 r.id ≡ Some (Mutex (Some first.thread))) ⊎ ((e : Event) × Has between e × (gives_back first.thread r.id e ≡ true)) → (e : Event) × Has between e × (gives_back first.thread r.id e ≡ true)
    by (inr back) = back
    by (inl owns) =
        let w = z3 ++ last.entry.moved in
        let owned : found w r.id ≡ Some (Mutex (Some first.thread)) = found_more z3 last.entry.moved r.id (Mutex (Some first.thread)) owns in
        let free : found w q.id ≡ Some (Mutex None) = lock_tells last.thread (found w q.id) (sym (s'.reply_is ∙ ap (reply_to slots w last.thread) call') ∙ reply') in
        let wrong : Some (Mutex None) ≡ Some (Mutex (Some first.thread)) = sym free ∙ (ap (found w) same ∙ owned) in
        absurd (cc)
