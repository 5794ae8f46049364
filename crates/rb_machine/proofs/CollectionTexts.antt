-- The text of a collection is made as it is told by what it holds.
use Rattle.std.proofs.Common.{◌≡◌, ◌≤◌, ℕ, zero, suc, ◌+◌, Bool, true, false, ◌&&◌, ◌||◌, cond, List, [], ◌∷◌, ◌++◌, Option, Some, None, length, arith, refl, sym, ap, ◌∙◌, subst}
use Rattle.std.specs.Prelude.{nat_lt, nat_le, codes}
use Rattle.std.specs.List.{list_all, flat_map, join_by}
use Rattle.std.proofs.lemmas.Bool.Decides.{nat_tests}
use Rattle.std.proofs.lemmas.List.{length-append, append_assoc}
use Rattle.rb_tree.specs.declared.span.Span.{Span}
use Rattle.rb_model.specs.declared.fault.Fault.TheVariants.{TooDeep}
use Rattle.rb_model.specs.declared.value.Id.{Id}
use Rattle.rb_model.specs.declared.value.Sort.{Sort}
use Rattle.rb_model.specs.declared.value.Sort.TheVariants as sort
use Rattle.rb_model.specs.Values.{Value, Str, To, Reference, same_id}
use Rattle.rb_model.specs.Things.{Thing, Object, Elements, Pairs, Mutex, Thread}
use Rattle.rb_machine.specs.Scopes.{Script, Text, Scope}
use Rattle.rb_machine.specs.Control.{State, On, Cont, Give, Drafting, Reading, ForText, Form, Inspected, Open, OfArray, OfHash, Coming, Between, OfValue, OfPair, Draft, max_depth}
use Rattle.rb_machine.specs.Texts.{max_bytes, inspected}
use Rattle.rb_machine.specs.Drafts.{Needs, Goes, Copies, is_open, is_collection, is_collection_sort, again, joined, collection, inspects}
use Rattle.rb_machine.specs.Call.{going, drafted, raised}
use Rattle.rb_machine.specs.Move.{Go}
use Rattle.rb_machine.specs.Collections.{Part, Single, Again, Whole, is_among, thing_part, inspected_part, one_for_each, dots, pair_text, collection_text, part_text, text_inside, collection_steps, part_steps, steps_inside, collection_fits, part_fits, fits_inside, Looks, arrives, goes, copies}

-- ---- plain facts

pub both_first : (a b : Bool) → (a && b) ≡ true → a ≡ true
both_first true b h = refl
both_first false b h = h

pub both_second : (a b : Bool) → (a && b) ≡ true → b ≡ true
both_second true b h = h
both_second false b h = absurd (cc)

pub front_short : (a b : Text) (m : ℕ) → length (a ++ b) ≤ m → length a ≤ m
front_short a b m short = let parts = length-append a b in omega (arith, parts, short)

pub regrouped : (a b c e : Text) → (a ++ b) ++ (c ++ e) ≡ a ++ ((b ++ c) ++ e)
regrouped a b c e = append_assoc a b (c ++ e) ∙ ap (λ x. a ++ x) (sym (append_assoc b c e))

pub regrouped_right : (a b c e : Text) → (a ++ (b ++ c)) ++ e ≡ a ++ (b ++ (c ++ e))
regrouped_right a b c e = append_assoc a (b ++ c) e ∙ ap (λ x. a ++ x) (append_assoc b c e)

-- ---- the collections that are begun

thing_of : Open → Reference
thing_of (OfArray array lead values) = array
thing_of (OfHash hash lead pairs) = hash

abbrev pub things_of : List Open → List Reference
things_of [] = []
things_of (OfArray array lead values ∷ begun) = array ∷ things_of begun
things_of (OfHash hash lead pairs ∷ begun) = hash ∷ things_of begun

pub open_is_among : (thing : Reference) (begun : List Open) → is_open thing begun ≡ is_among thing (things_of begun)
open_is_among thing [] = refl
open_is_among thing (OfArray array lead values ∷ begun) = ap (λ b. same_id thing.id array.id || b) (open_is_among thing begun)
open_is_among thing (OfHash hash lead pairs ∷ begun) = ap (λ b. same_id thing.id hash.id || b) (open_is_among thing begun)

again_is : (s : Sort) → again Inspected s ≡ dots s
again_is sort.Pairs = refl
again_is other = refl

module _ (S : Script) (holds : Id → Option Thing) where
  pub looks_append : {s t u : State} → Looks S holds s t → Looks S holds t u → Looks S holds s u
  looks_append (arrives s) q = q
  looks_append (goes s t u e p) q = goes s t _ e (looks_append p q)
  looks_append (copies s u thing what e f p) q = copies s _ thing what e f (looks_append p q)

  pub looks_from : (s t u : State) → s ≡ t → Looks S holds t u → Looks S holds s u
  looks_from s t u e q = subst (λ s. Looks S holds s u) (sym e) q

  pub looks_to : (s t u : State) → t ≡ u → Looks S holds s t → Looks S holds s u
  looks_to s t u e q = subst (λ u. Looks S holds s u) e q

module _ (S : Script) (holds : Id → Option Thing) (at : Span) (k : List Cont) (sc : Scope) (d : ℕ) where
  abbrev pub draft : Form → Coming → Text → List Open → Draft
  draft form coming bytes begun = record { form = form; coming = coming; bytes = bytes; begun = begun }

  abbrev pub drafting : Form → Coming → Text → List Open → ℕ → State
  drafting form coming bytes begun left = On (Drafting (draft form coming bytes begun) at) k sc d left

  -- bytes join a text
  pub joins : (form : Form) (coming now : Coming) (bytes more : Text) (begun os : List Open) (left : ℕ) → length (bytes ++ more) ≤ max_bytes
      → going (joined (draft form coming bytes begun) more now os) at k sc d left ≡ drafting form now (bytes ++ more) os left
  joins form coming now bytes more begun os left short =
      let fits : nat_le (length (bytes ++ more)) max_bytes ≡ true = grind (arith, nat_tests, short) in
      ap (λ b. going (cond b (Some (draft form now (bytes ++ more) os)) None) at k sc d left) fits

  -- ---- the form of `inspect`

  abbrev pub needs_of : Draft → Text → Part → Needs
  needs_of t lead (Single v) = Goes (joined t (lead ++ inspected S.program v) Between t.begun)
  needs_of t lead (Again thing) = Goes (joined t (lead ++ dots thing.sort) Between t.begun)
  needs_of t lead (Whole thing) = Copies thing t

  abbrev pub inspecting : Text → Value → Text → List Open → Draft
  inspecting lead v bytes begun = draft Inspected (OfValue lead v) bytes begun

  thing_needs : (t : Draft) (lead : Text) (thing : Reference) (b i : Bool) → t.form ≡ Inspected → is_open thing t.begun ≡ i
      → cond b (collection t lead thing) (Goes (joined t (lead ++ inspected S.program (To thing)) Between t.begun)) ≡ needs_of t lead (thing_part b i thing)
  thing_needs t lead thing false i form e = refl
  thing_needs t lead thing true true form e =
      ap (λ b. cond b (Goes (joined t (lead ++ again t.form thing.sort) Between t.begun)) (Copies thing t)) e
      ∙ ap (λ f. Goes (joined t (lead ++ again f thing.sort) Between t.begun)) form
      ∙ ap (λ x. Goes (joined t (lead ++ x) Between t.begun)) (again_is thing.sort)
  thing_needs t lead thing true false form e = ap (λ b. cond b (Goes (joined t (lead ++ again t.form thing.sort) Between t.begun)) (Copies thing t)) e

  pub value_needs : (t : Draft) (lead : Text) (v : Value) → t.form ≡ Inspected → inspects S.program t lead v ≡ needs_of t lead (inspected_part (things_of t.begun) v)
  value_needs t lead (To thing) form = thing_needs t lead thing (is_collection_sort thing.sort) (is_among thing (things_of t.begun)) form (open_is_among thing t.begun)
  value_needs t lead other form = refl

  -- values are told inside these collections: each by its text, with so many steps
  abbrev pub Tells : (Value → Text) → (Value → ℕ) → (Value → Bool) → List Open → Type 0
  Tells text steps fits begun = (v : Value) (lead bytes : Text) (left : ℕ) → fits v ≡ true → length (bytes ++ (lead ++ text v)) ≤ max_bytes
      → Looks S holds (drafting Inspected (OfValue lead v) bytes begun (steps v + left)) (drafting Inspected Between (bytes ++ (lead ++ text v)) begun left)

  -- What is told one after the other: at each point there are bytes so far, those before what comes next, and what is left.
  module _ {X : Type 0} (text : X → Text) (steps : X → ℕ) (fits : X → Bool) (sep close : Text) (among : Text → Text → List X → ℕ → State) (behind : Text → ℕ → State)
      (ends : (bytes lead : Text) (left : ℕ) → length (bytes ++ close) ≤ max_bytes → Looks S holds (among bytes lead [] left) (behind (bytes ++ close) left))
      (next : (bytes lead : Text) (x : X) (xs : List X) (left : ℕ) → fits x ≡ true → length (bytes ++ (lead ++ text x)) ≤ max_bytes
      → Looks S holds (among bytes lead (x ∷ xs) (suc (steps x + left))) (among (bytes ++ (lead ++ text x)) sep xs left)) where
    no_more : (bytes lead : Text) (left : ℕ) → length (bytes ++ close) ≤ max_bytes → Looks S holds (among bytes lead [] (0 + left)) (behind (bytes ++ close) left)
    no_more bytes lead left short =
        let none : 0 + left ≡ left = omega arith in
        looks_from S holds _ _ _ (ap (among bytes lead []) none) (ends bytes lead left short)

    one_more : (bytes lead : Text) (x : X) (xs : List X) (tail : Text) (left : ℕ)
        → ((bytes : Text) → length (bytes ++ (tail ++ close)) ≤ max_bytes → Looks S holds (among bytes sep xs (one_for_each steps xs + left)) (behind (bytes ++ (tail ++ close)) left))
        → fits x ≡ true → length (bytes ++ (((lead ++ text x) ++ tail) ++ close)) ≤ max_bytes
        → Looks S holds (among bytes lead (x ∷ xs) (one_for_each steps (x ∷ xs) + left)) (behind (bytes ++ (((lead ++ text x) ++ tail) ++ close)) left)
    one_more bytes lead x xs tail left then fit short =
        let count : suc (steps x) + one_for_each steps xs + left ≡ suc (steps x + (one_for_each steps xs + left)) = omega arith in
        let part = lead ++ text x in
        let same = regrouped bytes part tail close in
        let later : length ((bytes ++ part) ++ (tail ++ close)) ≤ max_bytes = subst (λ b. length b ≤ max_bytes) (sym same) short in
        let now : length (bytes ++ part) ≤ max_bytes = front_short (bytes ++ part) (tail ++ close) max_bytes later in
        looks_from S holds _ _ _ (ap (among bytes lead (x ∷ xs)) count)
        (looks_append S holds (next bytes lead x xs (one_for_each steps xs + left) fit now) (looks_to S holds _ _ _ (ap (λ b. behind b left) same) (then (bytes ++ part) later)))

    -- what is told behind the first
    more : (xs : List X) (bytes : Text) (left : ℕ) → list_all fits xs ≡ true → length (bytes ++ (flat_map (λ x. sep ++ text x) xs ++ close)) ≤ max_bytes
        → Looks S holds (among bytes sep xs (one_for_each steps xs + left)) (behind (bytes ++ (flat_map (λ x. sep ++ text x) xs ++ close)) left)
    more [] bytes left fit short = no_more bytes sep left short
    more (x ∷ xs) bytes left fit short =
        one_more bytes sep x xs (flat_map (λ x. sep ++ text x) xs) left (λ b. more xs b left (both_second (fits x) (list_all fits xs) fit)) (both_first (fits x) (list_all fits xs) fit) short

    -- all of it
    row : (xs : List X) (bytes : Text) (left : ℕ) → list_all fits xs ≡ true → length (bytes ++ (join_by text sep xs ++ close)) ≤ max_bytes
        → Looks S holds (among bytes [] xs (one_for_each steps xs + left)) (behind (bytes ++ (join_by text sep xs ++ close)) left)
    row [] bytes left fit short = no_more bytes [] left short
    row (x ∷ xs) bytes left fit short =
        one_more bytes [] x xs (flat_map (λ x. sep ++ text x) xs) left (λ b. more xs b left (both_second (fits x) (list_all fits xs) fit)) (both_first (fits x) (list_all fits xs) fit) short

  module _ (text : Value → Text) (steps : Value → ℕ) (fits : Value → Bool) (thing : Reference) (begun : List Open) where
    -- the elements of an array, and its end
    elements : ((lead : Text) (vs : List Value) → Tells text steps fits (OfArray thing lead vs ∷ begun)) → (vs : List Value) (bytes : Text) (left : ℕ) → list_all fits vs ≡ true
        → length (bytes ++ (join_by text (codes ", ") vs ++ codes "]")) ≤ max_bytes
        → Looks S holds (drafting Inspected Between bytes (OfArray thing [] vs ∷ begun) (one_for_each steps vs + left))
        (drafting Inspected Between (bytes ++ (join_by text (codes ", ") vs ++ codes "]")) begun left)
    elements each =
        row text steps fits (codes ", ") (codes "]") (λ bytes lead vs left. drafting Inspected Between bytes (OfArray thing lead vs ∷ begun) left) (λ bytes left. drafting Inspected Between bytes begun left)
        (λ bytes lead left short. goes _ _ _ refl (looks_from S holds _ _ _ (joins Inspected Between Between bytes (codes "]") (OfArray thing lead [] ∷ begun) begun left short) (arrives _)))
        (λ bytes lead v vs left fit short. goes _ _ _ refl (each (codes ", ") vs v lead bytes left fit short))

    -- a pair: its key, and then its value
    pub pair : (os : List Open) → Tells text steps fits os → (lead bytes : Text) (p : Value × Value) (left : ℕ) → fits p.1 ≡ true → length (bytes ++ (lead ++ pair_text S holds text p)) ≤ max_bytes
        → Looks S holds (drafting Inspected (OfPair lead p.0 p.1) bytes os (steps p.1 + left)) (drafting Inspected Between (bytes ++ (lead ++ pair_text S holds text p)) os left)
    pair os each lead bytes p left fit short =
        let key = lead ++ inspected S.program p.0 ++ codes "=>" in
        let same : (bytes ++ key) ++ text p.1 ≡ bytes ++ (lead ++ pair_text S holds text p) =
        ap (λ x. (bytes ++ x) ++ text p.1) (append_assoc lead (inspected S.program p.0) (codes "=>")) ∙ regrouped_right bytes lead (inspected S.program p.0 ++ codes "=>") (text p.1) in
        let later : length ((bytes ++ key) ++ text p.1) ≤ max_bytes = subst (λ x. length x ≤ max_bytes) (sym same) short in
        let now : length (bytes ++ key) ≤ max_bytes = front_short (bytes ++ key) (text p.1) max_bytes later in
        goes _ _ _ refl
        (looks_from S holds _ _ _ (joins Inspected (OfPair lead p.0 p.1) (OfValue [] p.1) bytes key os os (steps p.1 + left) now)
        (looks_to S holds _ _ _ (ap (λ x. drafting Inspected Between x os left) same) (each p.1 [] (bytes ++ key) left fit later)))

    -- the pairs of a hash, and its end
    pairs : ((lead : Text) (ps : List (Value × Value)) → Tells text steps fits (OfHash thing lead ps ∷ begun)) → (ps : List (Value × Value)) (bytes : Text) (left : ℕ)
        → list_all (λ (p : Value × Value). fits p.1) ps ≡ true → length (bytes ++ (join_by (pair_text S holds text) (codes ", ") ps ++ codes "}")) ≤ max_bytes
        → Looks S holds (drafting Inspected Between bytes (OfHash thing [] ps ∷ begun) (one_for_each (λ (p : Value × Value). steps p.1) ps + left))
        (drafting Inspected Between (bytes ++ (join_by (pair_text S holds text) (codes ", ") ps ++ codes "}")) begun left)
    pairs each =
        row (pair_text S holds text) (λ (p : Value × Value). steps p.1) (λ (p : Value × Value). fits p.1) (codes ", ") (codes "}")
        (λ bytes lead ps left. drafting Inspected Between bytes (OfHash thing lead ps ∷ begun) left) (λ bytes left. drafting Inspected Between bytes begun left)
        (λ bytes lead left short. goes _ _ _ refl (looks_from S holds _ _ _ (joins Inspected Between Between bytes (codes "}") (OfHash thing lead [] ∷ begun) begun left short) (arrives _)))
        (λ bytes lead p ps left fit short. goes _ _ _ refl (pair (OfHash thing (codes ", ") ps ∷ begun) (each (codes ", ") ps) lead bytes p left fit short))

  -- A value is told by its part, where a collection that is told by what it holds is.
  tells_part : (lead bytes : Text) (v : Value) (begun : List Open) (left : ℕ) (text : Reference → Text) (steps : Reference → ℕ) (fits : Reference → Bool) (part : Part)
      → inspects S.program (inspecting lead v bytes begun) lead v ≡ needs_of (inspecting lead v bytes begun) lead part
      → ((thing : Reference) → fits thing ≡ true → length (bytes ++ (lead ++ text thing)) ≤ max_bytes
      → Looks S holds (drafted S (Copies thing (inspecting lead v bytes begun)) at k sc d (steps thing + left)) (drafting Inspected Between (bytes ++ (lead ++ text thing)) begun left))
      → part_fits fits part ≡ true → length (bytes ++ (lead ++ part_text S holds text part)) ≤ max_bytes
      → Looks S holds (drafting Inspected (OfValue lead v) bytes begun (part_steps steps part + left)) (drafting Inspected Between (bytes ++ (lead ++ part_text S holds text part)) begun left)
  tells_part lead bytes v begun left text steps fits (Single w) is whole fit short =
      let none : 0 + left ≡ left = omega arith in
      looks_from S holds _ _ _ (ap (drafting Inspected (OfValue lead v) bytes begun) none)
      (goes _ _ _ (ap (λ n. Go (drafted S n at k sc d left)) is)
      (looks_from S holds _ _ _ (joins Inspected (OfValue lead v) Between bytes (lead ++ inspected S.program w) begun begun left short) (arrives _)))
  tells_part lead bytes v begun left text steps fits (Again thing) is whole fit short =
      let none : 0 + left ≡ left = omega arith in
      looks_from S holds _ _ _ (ap (drafting Inspected (OfValue lead v) bytes begun) none)
      (goes _ _ _ (ap (λ n. Go (drafted S n at k sc d left)) is)
      (looks_from S holds _ _ _ (joins Inspected (OfValue lead v) Between bytes (lead ++ dots thing.sort) begun begun left short) (arrives _)))
  tells_part lead bytes v begun left text steps fits (Whole thing) is whole fit short =
      goes _ _ _ (ap (λ n. Go (drafted S n at k sc d (steps thing + left))) is) (whole thing fit short)

  -- a collection is opened, with bytes that begin it
  opens : (lead bytes mark rest : Text) (v : Value) (begun : List Open) (now : Open) (left : ℕ) (t : State) → length (bytes ++ (lead ++ (mark ++ rest))) ≤ max_bytes
      → Looks S holds (drafting Inspected Between (bytes ++ (lead ++ mark)) (now ∷ begun) left) t
      → Looks S holds (going (joined (inspecting lead v bytes begun) (lead ++ mark) Between (now ∷ begun)) at k sc d left) t
  opens lead bytes mark rest v begun now left t short later =
      let whole : length ((bytes ++ (lead ++ mark)) ++ rest) ≤ max_bytes = subst (λ x. length x ≤ max_bytes) (sym (regrouped_right bytes lead mark rest)) short in
      let front : length (bytes ++ (lead ++ mark)) ≤ max_bytes = front_short (bytes ++ (lead ++ mark)) rest max_bytes whole in
      looks_from S holds _ _ _ (joins Inspected (OfValue lead v) Between bytes (lead ++ mark) begun (now ∷ begun) left front) later

  -- a collection that is read, by what it holds
  module _ (text : Value → Text) (steps : Value → ℕ) (fits : Value → Bool) (thing : Reference) (begun : List Open)
      (arrays : (lead : Text) (vs : List Value) → Tells text steps fits (OfArray thing lead vs ∷ begun)) (hashes : (lead : Text) (ps : List (Value × Value)) → Tells text steps fits (OfHash thing lead ps ∷ begun)) where
    holds_text : (lead bytes : Text) (v : Value) (left : ℕ) (what : Option Thing) → holds thing.id ≡ what → collection_fits fits what ≡ true
        → length (bytes ++ (lead ++ collection_text S holds text what)) ≤ max_bytes
        → Looks S holds (On (Reading thing (ForText (inspecting lead v bytes begun)) at) k sc d (collection_steps steps what + left))
        (drafting Inspected Between (bytes ++ (lead ++ collection_text S holds text what)) begun left)
    holds_text lead bytes v left (Some (Elements vs)) is fit short =
        let inner = join_by text (codes ", ") vs ++ codes "]" in
        let same = regrouped_right bytes lead (codes "[") inner in
        let later : length ((bytes ++ (lead ++ codes "[")) ++ inner) ≤ max_bytes = subst (λ x. length x ≤ max_bytes) (sym same) short in
        copies _ _ thing (Elements vs) refl is
        (opens lead bytes (codes "[") inner v begun (OfArray thing [] vs) (one_for_each steps vs + left) _ short
        (looks_to S holds _ _ _ (ap (λ x. drafting Inspected Between x begun left) same) (elements text steps fits thing begun arrays vs (bytes ++ (lead ++ codes "[")) left fit later)))
    holds_text lead bytes v left (Some (Pairs ps)) is fit short =
        let inner = join_by (pair_text S holds text) (codes ", ") ps ++ codes "}" in
        let same = regrouped_right bytes lead (codes "{") inner in
        let later : length ((bytes ++ (lead ++ codes "{")) ++ inner) ≤ max_bytes = subst (λ x. length x ≤ max_bytes) (sym same) short in
        copies _ _ thing (Pairs ps) refl is
        (opens lead bytes (codes "{") inner v begun (OfHash thing [] ps) (one_for_each (λ (p : Value × Value). steps p.1) ps + left) _ short
        (looks_to S holds _ _ _ (ap (λ x. drafting Inspected Between x begun left) same) (pairs text steps fits thing begun hashes ps (bytes ++ (lead ++ codes "{")) left fit later)))
    holds_text lead bytes v left None is fit short = absurd (cc)
    holds_text lead bytes v left (Some (Object class fields)) is fit short = absurd (cc)
    holds_text lead bytes v left (Some (Mutex owner)) is fit short = absurd (cc)
    holds_text lead bytes v left (Some (Thread state)) is fit short = absurd (cc)

  -- a value is told by its text inside the collections that are begun
  pub tells : (deep : ℕ) (begun : List Open) → deep + (d + length begun) ≤ max_depth
      → Tells (text_inside S holds deep (things_of begun)) (steps_inside S holds deep (things_of begun)) (fits_inside S holds deep (things_of begun)) begun
  tells zero begun room v lead bytes left fit short =
      tells_part lead bytes v begun left (λ thing. []) (λ thing. 0) (λ thing. false) (inspected_part (things_of begun) v) (value_needs (inspecting lead v bytes begun) lead v refl)
      (λ thing no short. absurd (cc)) fit short
  tells (suc deep) begun room v lead bytes left fit short =
      let below : nat_lt (d + length begun) max_depth ≡ true = grind (arith, nat_tests, room) in
      let inside : deep + (d + suc (length begun)) ≤ max_depth = omega (arith, room) in
      tells_part lead bytes v begun left
      (λ thing. collection_text S holds (text_inside S holds deep (thing ∷ things_of begun)) (holds thing.id))
      (λ thing. collection_steps (steps_inside S holds deep (thing ∷ things_of begun)) (holds thing.id))
      (λ thing. collection_fits (fits_inside S holds deep (thing ∷ things_of begun)) (holds thing.id))
      (inspected_part (things_of begun) v) (value_needs (inspecting lead v bytes begun) lead v refl)
      (λ thing fit short.
      let count = collection_steps (steps_inside S holds deep (thing ∷ things_of begun)) (holds thing.id) + left in
      looks_from S holds _ _ _ (ap (λ b. cond b (On (Reading thing (ForText (inspecting lead v bytes begun)) at) k sc d count) (raised TooDeep at count)) below)
      (holds_text (text_inside S holds deep (thing ∷ things_of begun)) (steps_inside S holds deep (thing ∷ things_of begun)) (fits_inside S holds deep (thing ∷ things_of begun)) thing begun
      (λ lead vs. tells deep (OfArray thing lead vs ∷ begun) inside) (λ lead ps. tells deep (OfHash thing lead ps ∷ begun) inside) lead bytes v left (holds thing.id) refl fit short))
      fit short

  -- so it is told where nothing is begun
  pub tells_all : (deep : ℕ) (v : Value) (left : ℕ) → deep + d ≤ max_depth → fits_inside S holds deep [] v ≡ true → length (text_inside S holds deep [] v) ≤ max_bytes
      → Looks S holds (drafting Inspected (OfValue [] v) [] [] (steps_inside S holds deep [] v + left)) (On (Give (Str (text_inside S holds deep [] v))) k sc d left)
  tells_all deep v left room fit short =
      let inside : deep + (d + 0) ≤ max_depth = omega (arith, room) in
      looks_append S holds (tells deep [] inside v [] [] left fit short) (goes _ _ _ refl (arrives _))

-- ---- texts of values

-- a value that is no collection is told by itself
pub plain_part : (v : Value) (inside : List Reference) → is_collection v ≡ false → inspected_part inside v ≡ Single v
plain_part (To thing) inside plain = ap (λ b. thing_part b (is_among thing inside) thing) plain
plain_part v inside plain = refl

module _ (S : Script) (holds : Id → Option Thing) where
  pub plain_steps : (deep : ℕ) (v : Value) → is_collection v ≡ false → steps_inside S holds deep [] v ≡ 0
  plain_steps zero v plain = ap (part_steps (λ thing. 0)) (plain_part v [] plain)
  plain_steps (suc deep) v plain =
      ap (part_steps (λ thing. collection_steps (steps_inside S holds deep (thing ∷ [])) (holds thing.id))) (plain_part v [] plain)

  pub plain_text : (deep : ℕ) (v : Value) → is_collection v ≡ false → text_inside S holds deep [] v ≡ inspected S.program v
  plain_text zero v plain = ap (part_text S holds (λ thing. [])) (plain_part v [] plain)
  plain_text (suc deep) v plain =
      ap (part_text S holds (λ thing. collection_text S holds (text_inside S holds deep (thing ∷ [])) (holds thing.id))) (plain_part v [] plain)
