-- Texts of values, and the lines of arrays, are made as they are told.
use Rattle.std.proofs.Common.{◌≡◌, ◌≤◌, ℕ, zero, suc, ◌+◌, Bool, true, false, cond, List, [], ◌∷◌, ◌++◌, Option, Some, None, length, arith, refl, sym, ap, subst}
use Rattle.std.specs.Prelude.{nat_lt, is_none, codes}
use Rattle.std.specs.List.{list_all, flat_map}
use Rattle.std.proofs.lemmas.Bool.Decides.{nat_tests}
use Rattle.std.proofs.lemmas.List.{length-append, append_assoc}
use Rattle.rb_tree.specs.declared.span.Span.{Span}
use Rattle.rb_tree.specs.declared.node.Method.{Method}
use Rattle.rb_model.specs.declared.fault.Fault.TheVariants.{TooDeep}
use Rattle.rb_model.specs.declared.value.Id.{Id}
use Rattle.rb_model.specs.Values.{Value, Str, To, Reference}
use Rattle.rb_model.specs.Things.{Thing, Object, Elements, Pairs, Mutex, Thread}
use Rattle.rb_machine.specs.Scopes.{Script, Text, Scope}
use Rattle.rb_machine.specs.Control.{State, On, Cont, Then, Under, Give, Drafting, Reading, ForText, Inspected, Lined, LineOf, Open, OfArray, OfHash, Between, OfValue, Draft, max_depth}
use Rattle.rb_machine.specs.Texts.{max_bytes, shown, ends_line, line_of}
use Rattle.rb_machine.specs.Drafts.{Needs, Goes, Asks, Copies, is_open, is_collection, is_list_sort, joined, collection, lines, empty_lines, draft_of}
use Rattle.rb_machine.specs.Call.{drafted, raised, own_text, text_by}
use Rattle.rb_machine.specs.Move.{Go}
use Rattle.rb_machine.specs.Collections.{Part, Single, Again, Whole, is_among, thing_part, lined_part, one_for_each, collection_steps, steps_inside, fits_inside, text_inside, value_text, value_fits, empty_text, array_lines, part_lines, lines_inside, part_line_steps, line_steps_inside, array_fits, part_lines_fit, lines_fit_inside, Looks, arrives, goes, copies, InspectedAsTold, TextsAsTold}
use Rattle.rb_machine.proofs.CollectionTexts.{both_first, both_second, front_short, things_of, open_is_among, looks_append, looks_from, looks_to, draft, drafting, joins, tells_all, plain_steps}

pub inspected_as_told : InspectedAsTold
inspected_as_told S holds deep v at k sc d left room fit short = tells_all S holds at k sc d deep v left room fit short

-- ---- texts of values

pub no_method : (o : Option Method) → is_none o ≡ true → o ≡ None
no_method None h = refl
no_method (Some m) h = absurd (cc)

text_by_kind : (S : Script) (holds : Id → Option Thing) (deep : ℕ) (v : Value) (at : Span) (k : List Cont) (sc : Scope) (d left : ℕ) (b : Bool) → is_collection v ≡ b → deep + d ≤ max_depth
    → fits_inside S holds deep [] v ≡ true → length (cond b (text_inside S holds deep [] v) (shown S.program v)) ≤ max_bytes
    → Looks S holds (cond b (On (Drafting (draft_of Inspected v) at) k sc d (steps_inside S holds deep [] v + left)) (On (Give (Str (shown S.program v))) k sc d (steps_inside S holds deep [] v + left)))
    (On (Give (Str (cond b (text_inside S holds deep [] v) (shown S.program v)))) k sc d left)
text_by_kind S holds deep v at k sc d left true kind room fit short = tells_all S holds at k sc d deep v left room fit short
text_by_kind S holds deep v at k sc d left false kind room fit short =
    let plain = plain_steps S holds deep v kind in
    let same : steps_inside S holds deep [] v + left ≡ left = omega (arith, plain) in
    looks_from S holds _ _ _ (ap (On (Give (Str (shown S.program v))) k sc d) same) (arrives _)

pub texts_as_told : TextsAsTold
texts_as_told S holds deep v at k sc d left room fit short =
    let count = steps_inside S holds deep [] v + left in
    let unasked = no_method (own_text S v) (both_first (is_none (own_text S v)) (fits_inside S holds deep [] v) fit) in
    looks_from S holds _ _ _ (ap (λ m. text_by S m v at k sc d count) unasked)
    (text_by_kind S holds deep v at k sc d left (is_collection v) refl room (both_second (is_none (own_text S v)) (fits_inside S holds deep [] v) fit) short)

-- ---- lines of arrays

pub longer_line : (text : Text) (b : Bool) → length text ≤ length (cond b text (text ++ 10 ∷ []))
longer_line text true = omega arith
longer_line text false = let parts = length-append text (10 ∷ []) in omega (arith, parts)

pub end_short : (a b : Text) (m : ℕ) → length (a ++ b) ≤ m → length b ≤ m
end_short a b m short = let parts = length-append a b in omega (arith, parts, short)

pub text_short : (bytes text : Text) → length (bytes ++ line_of text) ≤ max_bytes → length text ≤ max_bytes
text_short bytes text short =
    let line = end_short bytes (line_of text) max_bytes short in
    let below : length text ≤ length (line_of text) = longer_line text (ends_line text) in
    omega (arith, line, below)

pub empty_is : (begun : List Open) → empty_lines begun ≡ empty_text (things_of begun)
empty_is [] = refl
empty_is (OfArray array lead vs ∷ begun) = refl
empty_is (OfHash hash lead ps ∷ begun) = refl

module _ (S : Script) (holds : Id → Option Thing) (at : Span) (k : List Cont) (sc : Scope) (d : ℕ) where
  abbrev pub lining : Value → Text → List Open → Draft
  lining v bytes begun = draft S holds at k sc d Lined (OfValue [] v) bytes begun

  abbrev pub at_value : Value → Text → List Open → ℕ → State
  at_value v bytes begun left = On (Drafting (lining v bytes begun) at) k sc d left

  abbrev pub behind : Text → List Open → ℕ → State
  behind bytes begun left = drafting S holds at k sc d Lined Between bytes begun left

  abbrev pub needs_of : Draft → Part → Needs
  needs_of t (Single v) = Asks v t
  needs_of t (Again thing) = Goes (joined t (codes "[...]\n") Between t.begun)
  needs_of t (Whole thing) = Copies thing t

  thing_needs : (v : Value) (bytes : Text) (begun : List Open) (thing : Reference) (b i : Bool) → is_open thing begun ≡ i
      → cond b (collection (lining v bytes begun) [] thing) (Asks (To thing) (lining v bytes begun)) ≡ needs_of (lining v bytes begun) (thing_part b i thing)
  thing_needs v bytes begun thing false i e = refl
  thing_needs v bytes begun thing true true e = ap (λ b. cond b (Goes (joined (lining v bytes begun) (codes "[...]\n") Between begun)) (Copies thing (lining v bytes begun))) e
  thing_needs v bytes begun thing true false e = ap (λ b. cond b (Goes (joined (lining v bytes begun) (codes "[...]\n") Between begun)) (Copies thing (lining v bytes begun))) e

  pub value_needs : (v : Value) (bytes : Text) (begun : List Open) → lines S.program (lining v bytes begun) [] v ≡ needs_of (lining v bytes begun) (lined_part (things_of begun) v)
  value_needs (To thing) bytes begun = thing_needs (To thing) bytes begun thing (is_list_sort thing.sort) (is_among thing (things_of begun)) (open_is_among thing begun)
  value_needs other bytes begun = refl

  -- the text of a value is asked, and written as a line
  asks : (deep : ℕ) (v w : Value) (bytes : Text) (begun : List Open) (left : ℕ) → deep + (d + length begun) ≤ max_depth → value_fits S holds deep w ≡ true
      → length (bytes ++ line_of (value_text S holds deep w)) ≤ max_bytes
      → Looks S holds (drafted S (Asks w (lining v bytes begun)) at k sc d (steps_inside S holds deep [] w + left)) (behind (bytes ++ line_of (value_text S holds deep w)) begun left)
  asks deep v w bytes begun left room fit short =
      let inner : length (value_text S holds deep w) ≤ max_bytes = text_short bytes (value_text S holds deep w) short in
      looks_append S holds (texts_as_told S holds deep w at (Under d ∷ Then (LineOf (lining v bytes begun) at) ∷ k) sc (d + length begun) left room fit inner)
      (goes _ _ _ refl (goes _ _ _ refl
      (looks_from S holds _ _ _ (joins S holds at k sc d Lined (OfValue [] v) Between bytes (line_of (value_text S holds deep w)) begun begun left short) (arrives _))))

  -- values are written inside these arrays: each by its lines, with so many steps
  abbrev pub Writes : (Value → Text) → (Value → ℕ) → (Value → Bool) → List Open → Type 0
  Writes text steps fits begun = (v : Value) (bytes : Text) (left : ℕ) → fits v ≡ true → length (bytes ++ text v) ≤ max_bytes
      → Looks S holds (at_value v bytes begun (steps v + left)) (behind (bytes ++ text v) begun left)

  -- the elements of an array one after the other, and its end
  elements : (text : Value → Text) (steps : Value → ℕ) (fits : Value → Bool) (thing : Reference) (begun : List Open) → ((vs : List Value) → Writes text steps fits (OfArray thing [] vs ∷ begun))
      → (vs : List Value) (bytes : Text) (left : ℕ) → list_all fits vs ≡ true → length (bytes ++ flat_map text vs) ≤ max_bytes
      → Looks S holds (behind bytes (OfArray thing [] vs ∷ begun) (one_for_each steps vs + left)) (behind (bytes ++ flat_map text vs) begun left)
  elements text steps fits thing begun each [] bytes left fit short =
      let none : 0 + left ≡ left = omega arith in
      looks_from S holds _ _ _ (ap (behind bytes (OfArray thing [] [] ∷ begun)) none)
      (goes _ _ _ refl (looks_from S holds _ _ _ (joins S holds at k sc d Lined Between Between bytes [] (OfArray thing [] [] ∷ begun) begun left short) (arrives _)))
  elements text steps fits thing begun each (v ∷ vs) bytes left fit short =
      let count : suc (steps v) + one_for_each steps vs + left ≡ suc (steps v + (one_for_each steps vs + left)) = omega arith in
      let same = append_assoc bytes (text v) (flat_map text vs) in
      let later : length ((bytes ++ text v) ++ flat_map text vs) ≤ max_bytes = subst (λ b. length b ≤ max_bytes) (sym same) short in
      let now : length (bytes ++ text v) ≤ max_bytes = front_short (bytes ++ text v) (flat_map text vs) max_bytes later in
      looks_from S holds _ _ _ (ap (behind bytes (OfArray thing [] (v ∷ vs) ∷ begun)) count)
      (goes _ _ _ refl
      (looks_append S holds (each vs v bytes (one_for_each steps vs + left) (both_first (fits v) (list_all fits vs) fit) now)
      (looks_to S holds _ _ _ (ap (λ b. behind b begun left) same)
      (elements text steps fits thing begun each vs (bytes ++ text v) left (both_second (fits v) (list_all fits vs) fit) later))))

  -- an array that is read, by what it holds
  holds_lines : (text : Value → Text) (steps : Value → ℕ) (fits : Value → Bool) (thing : Reference) (begun : List Open) → ((vs : List Value) → Writes text steps fits (OfArray thing [] vs ∷ begun))
      → (v : Value) (bytes : Text) (left : ℕ) (what : Option Thing) → holds thing.id ≡ what → array_fits fits what ≡ true
      → length (bytes ++ array_lines (things_of begun) text what) ≤ max_bytes
      → Looks S holds (On (Reading thing (ForText (lining v bytes begun)) at) k sc d (collection_steps steps what + left))
      (behind (bytes ++ array_lines (things_of begun) text what) begun left)
  holds_lines text steps fits thing begun each v bytes left (Some (Elements [])) is fit short =
      let none : 0 + left ≡ left = omega arith in
      let same = ap (λ x. bytes ++ x) (empty_is begun) in
      let fits : length (bytes ++ empty_lines begun) ≤ max_bytes = subst (λ b. length b ≤ max_bytes) (sym same) short in
      looks_from S holds _ _ _ (ap (On (Reading thing (ForText (lining v bytes begun)) at) k sc d) none)
      (copies _ _ thing (Elements []) refl is
      (looks_to S holds _ _ _ (ap (λ b. behind b begun left) same)
      (looks_from S holds _ _ _ (joins S holds at k sc d Lined (OfValue [] v) Between bytes (empty_lines begun) begun begun left fits) (arrives _))))
  holds_lines text steps fits thing begun each v bytes left (Some (Elements (w ∷ ws))) is fit short =
      copies _ _ thing (Elements (w ∷ ws)) refl is (elements text steps fits thing begun each (w ∷ ws) bytes left fit short)
  holds_lines text steps fits thing begun each v bytes left (Some (Pairs ps)) is fit short = absurd (cc)
  holds_lines text steps fits thing begun each v bytes left None is fit short = absurd (cc)
  holds_lines text steps fits thing begun each v bytes left (Some (Object class fields)) is fit short = absurd (cc)
  holds_lines text steps fits thing begun each v bytes left (Some (Mutex owner)) is fit short = absurd (cc)
  holds_lines text steps fits thing begun each v bytes left (Some (Thread state)) is fit short = absurd (cc)

  -- a value is written by its part, where an array that is told by what it holds is
  writes_part : (deep : ℕ) (bytes : Text) (v : Value) (begun : List Open) (left : ℕ) (text : Reference → Text) (steps : Reference → ℕ) (fits : Reference → Bool) (part : Part)
      → lines S.program (lining v bytes begun) [] v ≡ needs_of (lining v bytes begun) part → deep + (d + length begun) ≤ max_depth
      → ((thing : Reference) → fits thing ≡ true → length (bytes ++ text thing) ≤ max_bytes
      → Looks S holds (drafted S (Copies thing (lining v bytes begun)) at k sc d (steps thing + left)) (behind (bytes ++ text thing) begun left))
      → part_lines_fit S holds deep fits part ≡ true → length (bytes ++ part_lines S holds deep text part) ≤ max_bytes
      → Looks S holds (at_value v bytes begun (part_line_steps S holds deep steps part + left)) (behind (bytes ++ part_lines S holds deep text part) begun left)
  writes_part deep bytes v begun left text steps fits (Single w) is room whole fit short =
      goes _ _ _ (ap (λ n. Go (drafted S n at k sc d (steps_inside S holds deep [] w + left))) is) (asks deep v w bytes begun left room fit short)
  writes_part deep bytes v begun left text steps fits (Again thing) is room whole fit short =
      let none : 0 + left ≡ left = omega arith in
      looks_from S holds _ _ _ (ap (at_value v bytes begun) none)
      (goes _ _ _ (ap (λ n. Go (drafted S n at k sc d left)) is)
      (looks_from S holds _ _ _ (joins S holds at k sc d Lined (OfValue [] v) Between bytes (codes "[...]\n") begun begun left short) (arrives _)))
  writes_part deep bytes v begun left text steps fits (Whole thing) is room whole fit short =
      goes _ _ _ (ap (λ n. Go (drafted S n at k sc d (steps thing + left))) is) (whole thing fit short)

  -- a value is written by its lines inside the arrays that are begun
  pub writes : (deep : ℕ) (begun : List Open) → deep + (d + length begun) ≤ max_depth
      → Writes (lines_inside S holds deep (things_of begun)) (line_steps_inside S holds deep (things_of begun)) (lines_fit_inside S holds deep (things_of begun)) begun
  writes zero begun room v bytes left fit short =
      writes_part zero bytes v begun left (λ thing. []) (λ thing. 0) (λ thing. false) (lined_part (things_of begun) v) (value_needs v bytes begun) room (λ thing no short. absurd (cc)) fit short
  writes (suc deep) begun room v bytes left fit short =
      let below : nat_lt (d + length begun) max_depth ≡ true = grind (arith, nat_tests, room) in
      let inside : deep + (d + suc (length begun)) ≤ max_depth = omega (arith, room) in
      writes_part (suc deep) bytes v begun left
      (λ thing. array_lines (things_of begun) (lines_inside S holds deep (thing ∷ things_of begun)) (holds thing.id))
      (λ thing. collection_steps (line_steps_inside S holds deep (thing ∷ things_of begun)) (holds thing.id))
      (λ thing. array_fits (lines_fit_inside S holds deep (thing ∷ things_of begun)) (holds thing.id))
      (lined_part (things_of begun) v) (value_needs v bytes begun) room
      (λ thing fit short.
      let count = collection_steps (line_steps_inside S holds deep (thing ∷ things_of begun)) (holds thing.id) + left in
      looks_from S holds _ _ _ (ap (λ b. cond b (On (Reading thing (ForText (lining v bytes begun)) at) k sc d count) (raised TooDeep at count)) below)
      (holds_lines (lines_inside S holds deep (thing ∷ things_of begun)) (line_steps_inside S holds deep (thing ∷ things_of begun)) (lines_fit_inside S holds deep (thing ∷ things_of begun)) thing begun
      (λ vs. writes deep (OfArray thing [] vs ∷ begun) inside) v bytes left (holds thing.id) refl fit short))
      fit short

  -- so it is written where nothing is begun
  pub writes_all : (deep : ℕ) (v : Value) (left : ℕ) → deep + d ≤ max_depth → lines_fit_inside S holds deep [] v ≡ true → length (lines_inside S holds deep [] v) ≤ max_bytes
      → Looks S holds (On (Drafting (draft_of Lined v) at) k sc d (line_steps_inside S holds deep [] v + left)) (On (Give (Str (lines_inside S holds deep [] v))) k sc d left)
  writes_all deep v left room fit short =
      let inside : deep + (d + 0) ≤ max_depth = omega (arith, room) in
      looks_append S holds (writes deep [] inside v [] left fit short) (goes _ _ _ refl (arrives _))
