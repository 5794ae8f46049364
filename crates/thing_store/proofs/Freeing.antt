-- Where mutexes stand, and that one after the other is freed.
use Rattle.std.proofs.Common.{◌≡◌, ◌+◌, ◌<◌, ◌≤◌, ℕ, zero, suc, Bool, true, false, List, [], ◌∷◌, ◌++◌, length, map, take, drop, filter, get_or, Some, refl, sym, ap, ◌∙◌, subst, drop-cons, arith}
use Rattle.std.specs.Prelude.{if◌then◌else◌, nat_lt, Result, Ok, Err}
use Rattle.std.proofs.lemmas.Bool.{lt-ltb, le-ltb}
use Rattle.std.proofs.lemmas.List.{append_assoc, drop_all, length-append, length-map, map-append, take-map}
use Rattle.std.proofs.lemmas.Option.{same_Some}
use Rattle.rb_model.specs.declared.value.Id.{Id}
use Rattle.rb_model.specs.Acts.{Act, SetField, Push, KDelete, Lock, Join}
use Rattle.rb_model.specs.Things.{Thing, Object, Elements, Pairs, Mutex, Thread}
use Rattle.rb_model.specs.Private.{Item}
use Rattle.rb_shared.specs.Store.{Store, found, with_thing}
use Rattle.rb_shared.specs.Step.{behind_act}
use Rattle.rb_model.specs.declared.act.Reply.{Reply as Answered}
use Rattle.rb_model.specs.Ends.{End as Ending}
use Rattle.thing_store.specs.Kept.{Acts}
use Rattle.thing_store.specs.Counted.{altered, freed_item, freed_thing, is_mutex, mutex_places, mutexes_in, places_where, with_end}
use Rattle.thing_store.proofs.Counting.{same_by}

-- ---- places

places-append : (at : ℕ) (bs cs : List Bool) → places_where at (bs ++ cs) ≡ places_where at bs ++ places_where (at + length bs) cs
places-append at [] cs = ap (λ n. places_where n cs) (omega arith)
places-append at (true ∷ bs) cs = ap (λ l. at ∷ l) (places-append (suc at) bs cs ∙ ap (λ n. places_where (suc at) bs ++ places_where n cs) (omega arith))
places-append at (false ∷ bs) cs = places-append (suc at) bs cs ∙ ap (λ n. places_where (suc at) bs ++ places_where n cs) (omega arith)

-- one thing more
pub places_more : (z : Store) (x : Item) (b : Bool) → is_mutex x.thing ≡ b → mutex_places (z ++ x ∷ []) ≡ mutex_places z ++ (if b then length z ∷ [] else [])
places_more z x b is =
    ap (places_where 0) (map-append (λ (y : Item). is_mutex y.thing) z (x ∷ []))
    ∙ places-append 0 (mutexes_in z) (is_mutex x.thing ∷ [])
    ∙ ap (λ n. mutex_places z ++ places_where n (is_mutex x.thing ∷ [])) (let many = length-map z (λ (y : Item). is_mutex y.thing) in omega (arith, many))
    ∙ ap (λ c. mutex_places z ++ (if c then length z ∷ [] else [])) is

pub places_came : (z y : Store) (x : Item) (b : Bool) (places now : List ℕ) (place : ℕ) → places ≡ mutex_places z → y ≡ z ++ x ∷ [] → is_mutex x.thing ≡ b → place ≡ length z
    → now ≡ places ++ (if b then place ∷ [] else []) → now ≡ mutex_places y
places_came z y x b places now place are came is at grown =
    grown ∙ ap (λ l. l ++ (if b then place ∷ [] else [])) are ∙ ap (λ n. mutex_places z ++ (if b then n ∷ [] else [])) at
    ∙ sym (places_more z x b is) ∙ ap mutex_places (sym came)

-- those before a number
none_before : (n at : ℕ) (bs : List Bool) → n ≤ at → filter (λ place. nat_lt place n) (places_where at bs) ≡ []
none_before n at [] le = refl
none_before n at (true ∷ bs) le =
    ap (λ b. if b then at ∷ filter (λ place. nat_lt place n) (places_where (suc at) bs) else filter (λ place. nat_lt place n) (places_where (suc at) bs)) (le-ltb at n le)
    ∙ none_before n (suc at) bs (omega (arith, le))
none_before n at (false ∷ bs) le = none_before n (suc at) bs (omega (arith, le))

front : (n count at : ℕ) (bs : List Bool) → n ≡ at + count → filter (λ place. nat_lt place n) (places_where at bs) ≡ places_where at (take count bs)
front n zero at bs is = none_before n at bs (omega (arith, is))
front n (suc count) at [] is = refl
front n (suc count) at (true ∷ bs) is =
    ap (λ b. if b then at ∷ filter (λ place. nat_lt place n) (places_where (suc at) bs) else filter (λ place. nat_lt place n) (places_where (suc at) bs)) (lt-ltb at n (omega (arith, is)))
    ∙ ap (λ l. at ∷ l) (front n count (suc at) bs (omega (arith, is)))
front n (suc count) at (false ∷ bs) is = front n count (suc at) bs (omega (arith, is))

-- each is one of so many
places_within : (at : ℕ) (bs : List Bool) (k : ℕ) → k < length (places_where at bs) → get_or (places_where at bs) k 0 < at + length bs
places_within at [] k lt = absurd (omega (arith, lt))
places_within at (true ∷ bs) zero lt = omega arith
places_within at (true ∷ bs) (suc k) lt = let rest = places_within (suc at) bs k (omega (arith, lt)) in omega (arith, rest)
places_within at (false ∷ bs) k lt = let rest = places_within (suc at) bs k lt in omega (arith, rest)

pub mutex_within : (z : Store) (places : List ℕ) (k : ℕ) → places ≡ mutex_places z → k < length places → get_or places k 0 < length z
mutex_within z places k are lt =
    let long : k < length (mutex_places z) = omega (arith, lt, ap length are) in
    let within = places_within 0 (mutexes_in z) k long in
    let many = length-map z (λ (x : Item). is_mutex x.thing) in
    subst (λ ps. get_or ps k 0 < length z) (sym are) (omega (arith, within, many))

-- ---- one after the other is freed

module _ (t : ℕ) where
  abbrev pub freed_places : List ℕ → Store → Store
  freed_places [] z = z
  freed_places (p ∷ ps) z = freed_places ps (altered (freed_thing t) z p)

  altered_last : (a : Store) (x : Item) (b : Store) → altered (freed_thing t) (a ++ x ∷ b) (length a) ≡ a ++ freed_item t x ∷ b
  altered_last [] x b = refl
  altered_last (y ∷ ys) x b = ap (λ l. y ∷ l) (altered_last ys x b)

  other_stays : (thing : Thing) → is_mutex thing ≡ false → freed_thing t thing ≡ thing
  other_stays (Object class fields) other = refl
  other_stays (Elements values) other = refl
  other_stays (Pairs pairs) other = refl
  other_stays (Mutex owner) other = absurd (cc)
  other_stays (Thread s) other = refl

  -- the first things done, the places of the others free the others
  rest_freed : (a b : Store) → freed_places (places_where (length a) (mutexes_in b)) (a ++ b) ≡ a ++ map (freed_item t) b
  rest_freed a [] = refl
  rest_freed a (x ∷ xs) = by (is_mutex x.thing) refl
      (next (freed_item t x) (rest_freed (a ++ freed_item t x ∷ []) xs)) (next x (rest_freed (a ++ x ∷ []) xs))
    where
      next : (y : Item) → freed_places (places_where (length (a ++ y ∷ [])) (mutexes_in xs)) ((a ++ y ∷ []) ++ xs) ≡ (a ++ y ∷ []) ++ map (freed_item t) xs
          → freed_places (places_where (suc (length a)) (mutexes_in xs)) (a ++ y ∷ xs) ≡ a ++ y ∷ map (freed_item t) xs
      next y rest =
          let long : length (a ++ y ∷ []) ≡ suc (length a) = length-append a (y ∷ []) ∙ omega arith in
          ap (λ n. freed_places (places_where n (mutexes_in xs)) (a ++ y ∷ xs)) (sym long)
          ∙ ap (freed_places (places_where (length (a ++ y ∷ [])) (mutexes_in xs))) (sym (append_assoc a (y ∷ []) xs))
          ∙ rest ∙ append_assoc a (y ∷ []) (map (freed_item t) xs)

      by : (b : Bool) → is_mutex x.thing ≡ b → freed_places (places_where (suc (length a)) (mutexes_in xs)) (a ++ freed_item t x ∷ xs) ≡ a ++ freed_item t x ∷ map (freed_item t) xs
          → freed_places (places_where (suc (length a)) (mutexes_in xs)) (a ++ x ∷ xs) ≡ a ++ x ∷ map (freed_item t) xs
          → freed_places (places_where (length a) (mutexes_in (x ∷ xs))) (a ++ x ∷ xs) ≡ a ++ freed_item t x ∷ map (freed_item t) xs
      by true e freed_rest same_rest =
          ap (λ c. freed_places (if c then length a ∷ places_where (suc (length a)) (mutexes_in xs) else places_where (suc (length a)) (mutexes_in xs)) (a ++ x ∷ xs)) e
          ∙ ap (freed_places (places_where (suc (length a)) (mutexes_in xs))) (altered_last a x xs)
          ∙ freed_rest
      by false e freed_rest same_rest =
          ap (λ c. freed_places (if c then length a ∷ places_where (suc (length a)) (mutexes_in xs) else places_where (suc (length a)) (mutexes_in xs)) (a ++ x ∷ xs)) e
          ∙ same_rest ∙ ap (λ thing. a ++ record { id = x.id; thing = thing } ∷ map (freed_item t) xs) (sym (other_stays x.thing e))

  pub all_freed : (z : Store) → freed_places (mutex_places z) z ≡ map (freed_item t) z
  all_freed z = rest_freed [] z

  -- the step of a loop over the places: what is left to be freed
  pub freed_next : (places : List ℕ) (k : ℕ) (y z : Store) → k < length places → freed_places (drop k places) y ≡ z → freed_places (drop (suc k) places) (altered (freed_thing t) y (get_or places k 0)) ≡ z
  freed_next places k y z lt left = ap (λ ps. freed_places ps y) (sym (drop-cons places k 0 lt)) ∙ left

  pub freed_done : (places : List ℕ) (k : ℕ) (y z : Store) → length places ≤ k → freed_places (drop k places) y ≡ z → y ≡ z
  freed_done places k y z le left = ap (λ ps. freed_places ps y) (sym (drop_all k places le)) ∙ left

-- ---- things stay what they are

stays_mutex : (t : ℕ) (thing : Thing) (act : Act) → is_mutex (behind_act t thing act) ≡ is_mutex thing
stays_mutex t (Object class fields) (SetField name v) = refl
stays_mutex t (Object class fields) act = refl
stays_mutex t (Elements values) (Push v) = refl
stays_mutex t (Elements values) act = refl
stays_mutex t (Pairs pairs) (KDelete k) = refl
stays_mutex t (Pairs pairs) act = refl
stays_mutex t (Mutex owner) Lock = refl
stays_mutex t (Mutex owner) act = refl
stays_mutex t (Thread s) Join = refl
stays_mutex t (Thread s) act = refl

module _ (id : Id) where
  -- an act leaves mutexes where they are
  pub act_stays : (t : ℕ) (z : Store) (old now : Thing) → found z id ≡ Some old → is_mutex now ≡ is_mutex old → mutex_places (with_thing z id now) ≡ mutex_places z
  act_stays t z old now there same = ap (places_where 0) (same_by id now is_mutex z (λ one at. same ∙ ap is_mutex (same_Some old one (sym there ∙ at))))

pub acts_stay : {E : Type 0} (t : ℕ) (thing now : Thing) (act : Act) (r : Result Answered E) → Acts t thing act r now → is_mutex now ≡ is_mutex thing
acts_stay t thing now act (Ok reply) did = ap is_mutex did.1 ∙ stays_mutex t thing act
acts_stay t thing now act (Err refused) did = ap is_mutex did

freed_same : (t : ℕ) (thing : Thing) → is_mutex (freed_thing t thing) ≡ is_mutex thing
freed_same t (Object class fields) = refl
freed_same t (Elements values) = refl
freed_same t (Pairs pairs) = refl
freed_same t (Mutex owner) = refl
freed_same t (Thread s) = refl

freed_in : (t : ℕ) (z : Store) → mutexes_in (map (freed_item t) z) ≡ mutexes_in z
freed_in t [] = refl
freed_in t (x ∷ xs) = ap (λ b. b ∷ mutexes_in (map (freed_item t) xs)) (freed_same t x.thing) ∙ ap (λ l. is_mutex x.thing ∷ l) (freed_in t xs)

pub freed_stay : (t : ℕ) (z : Store) → mutex_places (map (freed_item t) z) ≡ mutex_places z
freed_stay t z = ap (places_where 0) (freed_in t z)

ended_same : (t : ℕ) (how : Ending) (thing : Thing) → is_mutex (with_end t how thing) ≡ is_mutex thing
ended_same t how (Object class fields) = refl
ended_same t how (Elements values) = refl
ended_same t how (Pairs pairs) = refl
ended_same t how (Mutex owner) = refl
ended_same t how (Thread s) = refl

ended_in : (t : ℕ) (how : Ending) (z : Store) (place : ℕ) → mutexes_in (altered (with_end t how) z place) ≡ mutexes_in z
ended_in t how [] place = refl
ended_in t how (x ∷ xs) zero = ap (λ b. b ∷ mutexes_in xs) (ended_same t how x.thing)
ended_in t how (x ∷ xs) (suc place) = ap (λ l. is_mutex x.thing ∷ l) (ended_in t how xs place)

pub ended_stay : (t : ℕ) (how : Ending) (z : Store) (place : ℕ) → mutex_places (altered (with_end t how) z place) ≡ mutex_places z
ended_stay t how z place = ap (places_where 0) (ended_in t how z place)

pub cut_places : (count : ℕ) (z : Store) → filter (λ place. nat_lt place count) (mutex_places z) ≡ mutex_places (take count z)
cut_places count z = front count count 0 (mutexes_in z) (omega arith) ∙ ap (places_where 0) (take-map (λ (x : Item). is_mutex x.thing) count z)
