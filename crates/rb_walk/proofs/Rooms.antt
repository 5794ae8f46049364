-- Scopes and the slots that hold them.
use Rattle.std.proofs.Common.{◌≡◌, ℕ, zero, suc, ◌+◌, ◌<◌, ◌≤◌, Bool, true, false, List, [], ◌∷◌, ◌++◌, length, map, drop, take, get_or, Some, refl, sym, ap, ◌∙◌, subst, arith}
use Rattle.std.proofs.lemmas.Bool.Decides.{nat_tests}
use Rattle.std.specs.Prelude.{ℤ, ◌&&◌, slice_get, slice_set, nat_lt}
use Rattle.rb_tree.specs.declared.span.NameId.{NameId}
use Rattle.rb_model.specs.Values.{Value as Val, Nil, Int, plain}
use Rattle.rb_model.specs.declared.value.Value.{Value as Held}
use Rattle.rb_model.specs.declared.value.Value.TheVariants as held
use Rattle.rb_machine.specs.Scopes.{Script, fresh, look, assign}
use Rattle.rb_code.specs.declared.code.Code.{Code}
use Rattle.rb_code.specs.Layout.{bound, has_slot}
use Rattle.rb_code.specs.Resolved.{Fits, every, fits}
use Rattle.rb_code.proofs.Slots.{bound_agrees, bound_append, bound_fresh, bound_length, bound_take, read_slot, write_slot, given as given_at}
use Rattle.rb_walk.specs.Carries.{Lies}
use Rattle.rb_walk.specs.Slots.{first_of_block}
use Rattle.rb_walk.proofs.Lists.{fst, snd, two, next_item, len_map, get_map, set_map, take_map, get_set, get_drop, front}

module _ (S : Script) where
  -- what is right for all is right for the rest, and for each
  pub every_drop : (cs : List Code) (i : ℕ) (names : List NameId) (size : ℕ) → every (map (fits S) cs) names size ≡ true → every (map (fits S) (drop i cs)) names size ≡ true
  every_drop cs zero names size h = h
  every_drop [] (suc i) names size h = refl
  every_drop (c ∷ cs) (suc i) names size h = every_drop cs i names size (snd _ _ h)

  pub every_item : (cs : List Code) (i : ℕ) (x : Code) (names : List NameId) (size : ℕ) → i < length cs → x ≡ get_or cs i x → every (map (fits S) cs) names size ≡ true → fits S x names size ≡ true
  every_item cs i x names size l e h =
      fst _ _ (subst (λ (ds : List Code). every (map (fits S) ds) names size ≡ true) (next_item cs i x l e) (every_drop cs i names size h))

-- two arguments
pub args_fit : (S : Script) (a b : Code) (names : List NameId) (size : ℕ) → every (map (fits S) (a ∷ b ∷ [])) names size ≡ true → (fits S a names size && fits S b names size) ≡ true
args_fit S a b names size h = two (fits S a names size) (fits S b names size) (fst _ _ h) (fst _ _ (snd (fits S a names size) _ h))

-- code within code that lies so
pub sub : {a : Fits} {names : List NameId} {size base end : ℕ} (b : Fits) → Lies a names size base end → b names size ≡ true → Lies b names size base end
sub b l h = record { fits = h; within = l.within; below = l.below; room = l.room }

-- and where the room is another of the same length
pub moved : {a : Fits} {names : List NameId} {size base end : ℕ} (base' end' : ℕ) → base' ≡ base → end' ≡ end → Lies a names size base end → Lies a names size base' end'
moved base' end' e f l = record { fits = l.fits; within = l.within; below = omega (arith, l.below, e); room = omega (arith, l.room, e, f) }

pub lies : (code : Fits) (names : List NameId) (size base end : ℕ) → code names size ≡ true → length names ≤ size → size ≤ base → base ≤ end → Lies code names size base end
lies code names size base end h n b r = record { fits = h; within = n; below = b; room = r }

-- a slot that is read
pub read_room : (name : NameId) (names : List NameId) (room : List Held) (i : ℕ) (v : Held) → length names ≤ length room → has_slot name names i ≡ true → slice_get room i ≡ Some v → look name (bound names (map plain room)) ≡ plain v
read_room name names room i v l s g = let n = len_map plain room in read_slot name names (map plain room) i (plain v) (omega (arith, l, n)) s (get_map plain room i (Some v) g)

-- a slot that is written
pub write_room : (name : NameId) (names : List NameId) (room : List Held) (i : ℕ) (v : Held) → length names ≤ length room → has_slot name names i ≡ true → bound names (map plain (slice_set room i v)) ≡ assign name (plain v) (bound names (map plain room))
write_room name names room i v l s = let n = len_map plain room in ap (bound names) (set_map plain room i v) ∙ write_slot name names (map plain room) i (plain v) (omega (arith, l, n)) s

-- rooms that agree on the slots are one scope
pub rooms_agree : (names : List NameId) (room other : List Held) → ((i : ℕ) → i < length names → slice_get room i ≡ slice_get other i) → bound names (map plain room) ≡ bound names (map plain other)
rooms_agree names room other h = bound_agrees names (map plain room) (map plain other) (λ i q. get_map plain room i (slice_get other i) (h i q) ∙ sym (get_map plain other i (slice_get other i) refl))

pub room_beyond : (names : List NameId) (room : List Held) (s : ℕ) (v : Held) → length names ≤ s → bound names (map plain (slice_set room s v)) ≡ bound names (map plain room)
room_beyond names room s v h = rooms_agree names (slice_set room s v) room (λ i q. get_set room s i v (λ e. omega (arith, e, q, h)))

-- behind a call the scope is what it was
pub frame_back : (names : List NameId) (room ys : List Held) (before : ℕ) → length names ≤ before → before ≤ length room → bound names (map plain (take before room ++ ys)) ≡ bound names (map plain room)
frame_back names room ys before h q = rooms_agree names (take before room ++ ys) room (λ i p. front room ys before i q (omega (arith, p, h)))

-- the values that an iteration gives its block
abbrev pub turn_values : Bool → ℤ → List Val
turn_values true n = Int n ∷ []
turn_values false n = []

first_given : (takes : Bool) (n : ℤ) (i : ℕ) → plain (first_of_block takes n i) ≡ given_at (turn_values takes n) i
first_given true n zero = refl
first_given true n (suc i) = refl
first_given false n i = refl

-- a block's scope, where its slots have what an iteration gives and nil
pub block_opens : (names own : List NameId) (before after : List Held) (takes : Bool) (n : ℤ) → length names ≤ length after
    → ((i : ℕ) → i < length names → slice_get after i ≡ slice_get before i)
    → ((i : ℕ) → i < length own → slice_get after (length names + i) ≡ Some (first_of_block takes n i))
    → bound (names ++ own) (map plain after) ≡ bound names (map plain before) ++ fresh own (turn_values takes n)
block_opens names own before after takes n l h g =
    let m = len_map plain after in
    let a : bound names (map plain after) ≡ bound names (map plain before) = rooms_agree names after before h in
    let b : bound own (drop (length names) (map plain after)) ≡ fresh own (turn_values takes n) =
    bound_fresh own (drop (length names) (map plain after)) (turn_values takes n)
    (λ i q. get_drop (map plain after) (length names) i ∙ (get_map plain after (length names + i) (Some (first_of_block takes n i)) (g i q) ∙ ap Some (first_given takes n i))) in
    bound_append names own (map plain after) (omega (arith, l, m)) ∙ rw (a, b) refl

-- behind an iteration the scope is that round the block
pub block_closes : (names own : List NameId) (room : List Held) → length names ≤ length room → take (length names) (bound (names ++ own) (map plain room)) ≡ bound names (map plain room)
block_closes names own room l = let m = len_map plain room in bound_take names own (map plain room) (omega (arith, l, m))

pub room_length : (names : List NameId) (room : List Held) → length names ≤ length room → length (bound names (map plain room)) ≡ length names
room_length names room l = let m = len_map plain room in bound_length names (map plain room) (omega (arith, l, m))

given_take : (rest : List Val) (n i : ℕ) → n ≤ length rest → i < n → slice_get rest i ≡ Some (given_at (take n rest) i)
given_take rest zero i h q = absurd (omega (arith, q))
given_take [] (suc n) i h q = absurd (omega (arith, h))
given_take (x ∷ xs) (suc n) zero h q = refl
given_take (x ∷ xs) (suc n) (suc i) h q = given_take xs n i (omega (arith, h)) (omega (arith, q))

given_past : (rest : List Val) (n i : ℕ) → n ≤ i → Some Nil ≡ Some (given_at (take n rest) i)
given_past rest zero i h = refl
given_past [] (suc n) i h = refl
given_past (x ∷ xs) (suc n) zero h = absurd (omega (arith, h))
given_past (x ∷ xs) (suc n) (suc i) h = given_past xs n i (omega (arith, h))

frame_by : (b : Bool) (rest frame : List Held) (n top i : ℕ) → nat_lt i n ≡ b → n ≤ length rest → ((i : ℕ) → i < n → slice_get frame i ≡ slice_get rest i) → ((i : ℕ) → n ≤ i → i < top → slice_get frame i ≡ Some held.Nil) → i < top
    → slice_get (map plain frame) i ≡ Some (given_at (take n (map plain rest)) i)
frame_by true rest frame n top i e h f g q =
    let p : i < n = grind (arith, nat_tests) in
    let m = len_map plain rest in
    get_map plain frame i (slice_get rest i) (f i p) ∙ (sym (get_map plain rest i (slice_get rest i) refl) ∙ given_take (map plain rest) n i (omega (arith, h, m)) p)
frame_by false rest frame n top i e h f g q =
    let p : n ≤ i = grind (arith, nat_tests) in
    get_map plain frame i (Some held.Nil) (g i p q) ∙ given_past (map plain rest) n i p

-- the frame of a call has its arguments, and nil behind them
pub frame_opens : (names : List NameId) (rest frame : List Held) (n : ℕ) → n ≤ length rest → ((i : ℕ) → i < n → slice_get frame i ≡ slice_get rest i) → ((i : ℕ) → n ≤ i → i < length names → slice_get frame i ≡ Some held.Nil)
    → bound names (map plain frame) ≡ fresh names (map plain (take n rest))
frame_opens names rest frame n h f g =
    (bound_fresh names (map plain frame) (take n (map plain rest)) (λ i q. frame_by (nat_lt i n) rest frame n (length names) i refl h f g q)
    ∙ ap (fresh names) (sym (take_map plain n rest)))
