-- What the plain step of a call makes of each thing, and of the sorts under the ids.
use Rattle.std.proofs.Common.{◌≡◌, ℕ, Bool, true, false, cond, List, [], ◌∷◌, ◌++◌, map, Option, Some, None, refl, sym, ap, ◌∙◌}
use Rattle.std.specs.Option.{option_map}
use Rattle.rb_model.specs.declared.value.Id.{Id}
use Rattle.rb_model.specs.declared.value.Sort.{Sort}
use Rattle.rb_model.specs.Values.{Value, Reference, To, same_id}
use Rattle.rb_model.specs.Values as val
use Rattle.rb_model.specs.Acts.{Act, Join}
use Rattle.rb_model.specs.Ends.{End as Ending}
use Rattle.rb_model.specs.Things.{Thing}
use Rattle.rb_model.specs.Private.{Item}
use Rattle.rb_model.specs.Log.{Call, On, Start, Gather, Print, End}
use Rattle.rb_shared.specs.Lists.{Each}
use Rattle.rb_shared.specs.Store.{Store, found, with_thing, is_full}
use Rattle.rb_shared.specs.Step.{behind_act, store_behind, with_act, ended_item, ended_thing, new_thread}
use Rattle.rb_shared.proofs.Runs.{each_append}
use Rattle.shared_run.specs.Standing.{sort_in, sort_at, Fits}
use Rattle.shared_run.proofs.Sizes.{behind_sort, ended_sort}

-- ---- each thing

-- the act that a call asks of a thing
abbrev pub Asks : Call → Id → Act → Type 0
Asks (On r a) id act = (r.id ≡ id) × (a ≡ act)
Asks (Gather r) id act = (r.id ≡ id) × (Join ≡ act)
Asks call id act = ⊥

module _ (Q : Item → Type 0) where
  with_first : (b : Bool) (x : Item) (xs : Store) (id : Id) (old new : Thing) → ((y : Item) → y.thing ≡ old → Q y → Q (record { id = y.id; thing = new })) → Q x → Each Q xs
      → (found xs id ≡ Some old → Each Q (with_thing xs id new)) → cond b (Some x.thing) (found xs id) ≡ Some old
      → Each Q (cond b (record { id = x.id; thing = new } ∷ xs) (x ∷ with_thing xs id new))
  with_first true x xs id old new f q qs more e = let is : x.thing ≡ old = cc in (f x is q, qs)
  with_first false x xs id old new f q qs more e = (q, more e)

  with_each : (w : Store) (id : Id) (old new : Thing) → found w id ≡ Some old → ((y : Item) → y.thing ≡ old → Q y → Q (record { id = y.id; thing = new })) → Each Q w → Each Q (with_thing w id new)
  with_each [] id old new e f q = tt
  with_each (x ∷ xs) id old new e f (q, qs) = with_first (same_id x.id id) x xs id old new f q qs (λ g. with_each xs id old new g f qs) e

  act_each : (t : ℕ) (w : Store) (id : Id) (o : Option Thing) (act : Act) → found w id ≡ o
      → ((y : Item) (thing : Thing) → found w id ≡ Some thing → y.thing ≡ thing → Q y → Q (record { id = y.id; thing = behind_act t thing act })) → Each Q w → Each Q (with_act t w id o act)
  act_each t w id None act e f q = q
  act_each t w id (Some thing) act e f q = with_each w id thing (behind_act t thing act) e (λ y is. f y thing e is) q

  map_each : (g : Item → Item) → ((x : Item) → Q x → Q (g x)) → (w : Store) → Each Q w → Each Q (map g w)
  map_each g f [] q = tt
  map_each g f (x ∷ xs) (q, qs) = (f x q, map_each g f xs qs)

  start_each : (b : Bool) (w : Store) (x : Item) → (b ≡ false → Q x) → Each Q w → Each Q (cond b w (w ++ x ∷ []))
  start_each true w x f q = q
  start_each false w x f q = each_append Q w (x ∷ []) q (f refl, tt)

  -- what each of the three kinds of changes keeps, a call keeps
  pub behind_each : (slots : ℕ) (w : Store) (t : ℕ) (c : Call)
      → ((y : Item) (id : Id) (thing : Thing) (act : Act) → Asks c id act → found w id ≡ Some thing → y.thing ≡ thing → Q y → Q (record { id = y.id; thing = behind_act t thing act }))
      → ((id : Id) (body : ℕ) (values : List Value) → c ≡ Start id body values → is_full slots w t ≡ false → Q (new_thread w t id))
      → ((how : Ending) → c ≡ End how → (x : Item) → Q x → Q (ended_item t how x))
      → Each Q w → Each Q (store_behind slots w t c)
  behind_each slots w t (On r act) acts starts ends q = act_each t w r.id (found w r.id) act refl (λ y thing. acts y r.id thing act (refl, refl)) q
  behind_each slots w t (Gather r) acts starts ends q = act_each t w r.id (found w r.id) Join refl (λ y thing. acts y r.id thing Join (refl, refl)) q
  behind_each slots w t (Start id body values) acts starts ends q = start_each (is_full slots w t) w (new_thread w t id) (starts id body values refl) q
  behind_each slots w t (Print bytes) acts starts ends q = q
  behind_each slots w t (End how) acts starts ends q = map_each (ended_item t how) (ends how refl) w q

-- ---- sorts

sort_first : (b c : Bool) (x : Item) (xs ys : Store) (id : Id) (old new : Thing) → sort_in new ≡ sort_in old → same_id x.id id ≡ c → sort_at ys id ≡ sort_at xs id
    → (b ≡ true → x.thing ≡ old) → sort_at (cond b (record { id = x.id; thing = new } ∷ xs) (x ∷ ys)) id ≡ sort_at (x ∷ xs) id
sort_first true true x xs ys id old new s i more f = ap (λ c. option_map sort_in (cond c (Some new) (found xs id))) i ∙ (ap Some (s ∙ ap sort_in (sym (f refl))) ∙ sym (ap (λ c. option_map sort_in (cond c (Some x.thing) (found xs id))) i))
sort_first true false x xs ys id old new s i more f = ap (λ c. option_map sort_in (cond c (Some new) (found xs id))) i ∙ sym (ap (λ c. option_map sort_in (cond c (Some x.thing) (found xs id))) i)
sort_first false true x xs ys id old new s i more f = ap (λ c. option_map sort_in (cond c (Some x.thing) (found ys id))) i ∙ sym (ap (λ c. option_map sort_in (cond c (Some x.thing) (found xs id))) i)
sort_first false false x xs ys id old new s i more f =
    ap (λ c. option_map sort_in (cond c (Some x.thing) (found ys id))) i ∙ (more ∙ sym (ap (λ c. option_map sort_in (cond c (Some x.thing) (found xs id))) i))

here_is : (b : Bool) (x : Item) (o : Option Thing) (old : Thing) → cond b (Some x.thing) o ≡ Some old → (b ≡ true → x.thing ≡ old)
here_is true x o old e h = cc
here_is false x o old e h = absurd (cc)

with_sort_either : (b : Bool) (x : Item) (xs : Store) (a : Id) (old new : Thing) (id : Id) → sort_in new ≡ sort_in old → cond b (Some x.thing) (found xs a) ≡ Some old
    → (found xs a ≡ Some old → sort_at (with_thing xs a new) id ≡ sort_at xs id) → sort_at (cond b (record { id = x.id; thing = new } ∷ xs) (x ∷ with_thing xs a new)) id ≡ sort_at (x ∷ xs) id
with_sort_either true x xs a old new id s e more = sort_first true (same_id x.id id) x xs xs id old new s refl refl (here_is true x (found xs a) old e)
with_sort_either false x xs a old new id s e more = sort_first false (same_id x.id id) x xs (with_thing xs a new) id old new s refl (more e) (λ h. absurd (cc))

with_sort : (w : Store) (a : Id) (old new : Thing) (id : Id) → sort_in new ≡ sort_in old → found w a ≡ Some old → sort_at (with_thing w a new) id ≡ sort_at w id
with_sort [] a old new id s e = refl
with_sort (x ∷ xs) a old new id s e = with_sort_either (same_id x.id a) x xs a old new id s e (with_sort xs a old new id s)

act_sort : (t : ℕ) (w : Store) (a : Id) (o : Option Thing) (act : Act) (id : Id) → found w a ≡ o → sort_at (with_act t w a o act) id ≡ sort_at w id
act_sort t w a None act id e = refl
act_sort t w a (Some thing) act id e = with_sort w a thing (behind_act t thing act) id (behind_sort t thing act) e

ended_at : (t : ℕ) (how : Ending) (w : Store) (id : Id) → sort_at (map (ended_item t how) w) id ≡ sort_at w id
ended_at t how [] id = refl
ended_at t how (x ∷ xs) id = by (same_id x.id id) (ended_at t how xs id)
  where
    by : (b : Bool) → sort_at (map (ended_item t how) xs) id ≡ sort_at xs id
        → option_map sort_in (cond b (Some (ended_thing t how x.thing)) (found (map (ended_item t how) xs) id)) ≡ option_map sort_in (cond b (Some x.thing) (found xs id))
    by true more = ap Some (ended_sort t how x.thing)
    by false more = more

first_sort : (b : Bool) (x : Thing) (o o' : Option Thing) (s : Sort) → (option_map sort_in o ≡ Some s → option_map sort_in o' ≡ Some s)
    → option_map sort_in (cond b (Some x) o) ≡ Some s → option_map sort_in (cond b (Some x) o') ≡ Some s
first_sort true x o o' s more e = e
first_sort false x o o' s more e = more e

-- what is there stays there with more behind it
pub sort_more : (z more : Store) (id : Id) (s : Sort) → sort_at z id ≡ Some s → sort_at (z ++ more) id ≡ Some s
sort_more [] more id s e = absurd (cc)
sort_more (x ∷ xs) more id s e = first_sort (same_id x.id id) x.thing (found xs id) (found (xs ++ more) id) s (sort_more xs more id s) e

start_sort : (b : Bool) (w : Store) (x : Item) (id : Id) (s : Sort) → sort_at w id ≡ Some s → sort_at (cond b w (w ++ x ∷ [])) id ≡ Some s
start_sort true w x id s e = e
start_sort false w x id s e = sort_more w (x ∷ []) id s e

pub sort_behind : (slots : ℕ) (w : Store) (t : ℕ) (c : Call) (id : Id) (s : Sort) → sort_at w id ≡ Some s → sort_at (store_behind slots w t c) id ≡ Some s
sort_behind slots w t (On r act) id s e = act_sort t w r.id (found w r.id) act id refl ∙ e
sort_behind slots w t (Gather r) id s e = act_sort t w r.id (found w r.id) Join id refl ∙ e
sort_behind slots w t (Start a body values) id s e = start_sort (is_full slots w t) w (new_thread w t a) id s e
sort_behind slots w t (Print bytes) id s e = e
sort_behind slots w t (End how) id s e = ended_at t how w id ∙ e

-- ---- what names a thing goes on to name it

pub fits_more : (z more : Store) (v : Value) → Fits z v → Fits (z ++ more) v
fits_more z more val.Nil f = tt
fits_more z more val.False f = tt
fits_more z more val.True f = tt
fits_more z more (val.Int n) f = tt
fits_more z more (val.Sym name) f = tt
fits_more z more (val.Str bytes) f = tt
fits_more z more (To r) f = sort_more z more r.id r.sort f

pub fits_behind : (slots : ℕ) (w : Store) (t : ℕ) (c : Call) (v : Value) → Fits w v → Fits (store_behind slots w t c) v
fits_behind slots w t c val.Nil f = tt
fits_behind slots w t c val.False f = tt
fits_behind slots w t c val.True f = tt
fits_behind slots w t c (val.Int n) f = tt
fits_behind slots w t c (val.Sym name) f = tt
fits_behind slots w t c (val.Str bytes) f = tt
fits_behind slots w t c (To r) f = sort_behind slots w t c r.id r.sort f
