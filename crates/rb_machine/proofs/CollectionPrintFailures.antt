-- Where the steps are too few for what `puts`, `print` or `p` shows, or it is too long, it does not come.
use Rattle.std.proofs.Common.{◌≡◌, ◌<◌, ◌≤◌, ◌⊎◌, inl, inr, ℕ, zero, suc, ◌+◌, ◌-◌, Bool, true, false, cond, List, [], ◌∷◌, ◌++◌, Option, Some, None, length, arith, refl, sym, ap, ◌∙◌, subst}
use Rattle.std.specs.Prelude.{nat_lt, is_none, codes}
use Rattle.std.specs.List.{list_all, flat_map}
use Rattle.std.proofs.lemmas.Bool.Decides.{nat_tests}
use Rattle.std.proofs.lemmas.List.{length-append, append_assoc}
use Rattle.rb_tree.specs.declared.span.Span.{Span}
use Rattle.rb_model.specs.declared.fault.Fault.TheVariants.{TooDeep, TextTooLong}
use Rattle.rb_model.specs.declared.value.Id.{Id}
use Rattle.rb_model.specs.Values.{Value, Str, Reference}
use Rattle.rb_model.specs.Things.{Thing, Object, Elements, Pairs, Mutex, Thread}
use Rattle.rb_machine.specs.Scopes.{Script, Text, Scope}
use Rattle.rb_machine.specs.Control.{State, On, Cont, Then, Under, Give, Drafting, Reading, ForText, Style, Lines, Plain, Inspecting, WriteBehind, LinesBehind, LineOf, Inspected, Lined, Open, OfArray, Between, OfValue, max_depth}
use Rattle.rb_machine.specs.Texts.{max_bytes, shown, inspected, ends_line, line_of, styled}
use Rattle.rb_machine.specs.Drafts.{Asks, Copies, is_collection, is_array, lines, empty_lines, draft_of}
use Rattle.rb_machine.specs.Call.{raised, drafted, own_text, text_by, give_text, write}
use Rattle.rb_machine.specs.Move.{Go}
use Rattle.rb_machine.specs.Collections.{Part, Single, Again, Whole, lined_part, one_for_each, steps_of, collection_steps, steps_inside, fits_inside, text_inside, value_text, value_fits, array_lines, part_lines, lines_inside, part_line_steps, line_steps_inside, array_fits, part_lines_fit, lines_fit_inside, Looks, arrives, goes, copies, Fails, few_steps, too_long, PutsFails, PrintFails, PFails}
use Rattle.rb_machine.proofs.Printing.{behind_long}
use Rattle.rb_machine.proofs.CollectionTexts.{both_first, both_second, things_of, looks_append, looks_from, looks_to, tells_all, plain_steps, plain_text}
use Rattle.rb_machine.proofs.CollectionLines.{no_method, longer_line, empty_is, lining, at_value, behind, needs_of, value_needs, Writes, writes, writes_all}
use Rattle.rb_machine.proofs.CollectionPrints.{single_lines, single_steps, single_fits, prints_text, prints_form, gives_lines}
use Rattle.rb_machine.proofs.CollectionFailures.{longer, no_fewer, fails_map, fails_after, overflows, inspected_fails}

longer_behind : (a b : Text) (m : ℕ) → m < length b → m < length (a ++ b)
longer_behind a b m long = let parts = length-append a b in omega (arith, parts, long)

longer_as_line : (bytes text : Text) → max_bytes < length text → max_bytes < length (bytes ++ line_of text)
longer_as_line bytes text long =
    let below : length text ≤ length (line_of text) = longer_line text (ends_line text) in
    let line : max_bytes < length (line_of text) = omega (arith, long, below) in
    longer_behind bytes (line_of text) max_bytes line

not_longer : (bytes : Text) → length bytes ≤ max_bytes → max_bytes < length (bytes ++ []) → ⊥
not_longer bytes room long = let parts = length-append bytes [] in omega (arith, parts, room, long)

module _ (S : Script) (holds : Id → Option Thing) (at : Span) where
  -- The text of a value, plain where it is no collection, does not come, or it comes and then something fails.
  drafts_by : (deep : ℕ) (v : Value) (k : List Cont) (sc : Scope) (d left : ℕ) (longer : Type 0) (few long : Bool) → nat_lt left (steps_inside S holds deep [] v) ≡ few
      → nat_lt max_bytes (length (text_inside S holds deep [] v)) ≡ long → deep + d ≤ max_depth → fits_inside S holds deep [] v ≡ true → (max_bytes < length (text_inside S holds deep [] v) → longer)
      → ((rest : ℕ) → left ≡ steps_inside S holds deep [] v + rest → Looks S holds (On (Drafting (draft_of Inspected v) at) k sc d left) (On (Give (Str (text_inside S holds deep [] v))) k sc d rest)
      → Fails S holds at (left < steps_inside S holds deep [] v) longer (On (Drafting (draft_of Inspected v) at) k sc d left))
      → Fails S holds at (left < steps_inside S holds deep [] v) longer (On (Drafting (draft_of Inspected v) at) k sc d left)
  drafts_by deep v k sc d left longer true long few_is long_is room fit own comes =
      let few : left < steps_inside S holds deep [] v = grind (arith, nat_tests, few_is) in
      fails_map S holds at (On (Drafting (draft_of Inspected v) at) k sc d left) (λ few. few) own (inspected_fails S holds deep v at k sc d left room fit (inl few))
  drafts_by deep v k sc d left longer false true few_is long_is room fit own comes =
      let long : max_bytes < length (text_inside S holds deep [] v) = grind (arith, nat_tests, long_is) in
      fails_map S holds at (On (Drafting (draft_of Inspected v) at) k sc d left) (λ few. few) own (inspected_fails S holds deep v at k sc d left room fit (inr long))
  drafts_by deep v k sc d left longer false false few_is long_is room fit own comes =
      let enough : steps_inside S holds deep [] v ≤ left = grind (arith, nat_tests, few_is) in
      let short : length (text_inside S holds deep [] v) ≤ max_bytes = grind (arith, nat_tests, long_is) in
      let rest = left - steps_inside S holds deep [] v in
      let count : steps_inside S holds deep [] v + rest ≡ left = omega (arith, enough) in
      comes rest (sym count)
      (subst (λ n. Looks S holds (On (Drafting (draft_of Inspected v) at) k sc d n) (On (Give (Str (text_inside S holds deep [] v))) k sc d rest)) count
      (tells_all S holds at k sc d deep v rest room fit short))

  asked_by : (deep : ℕ) (v : Value) (plain : Text) (k : List Cont) (sc : Scope) (d left : ℕ) (longer : Type 0) (b : Bool) → is_collection v ≡ b → deep + d ≤ max_depth
      → fits_inside S holds deep [] v ≡ true → (max_bytes < length (cond b (text_inside S holds deep [] v) plain) → longer)
      → ((rest : ℕ) → left ≡ steps_inside S holds deep [] v + rest
      → Looks S holds (cond b (On (Drafting (draft_of Inspected v) at) k sc d left) (On (Give (Str plain)) k sc d left)) (On (Give (Str (cond b (text_inside S holds deep [] v) plain))) k sc d rest)
      → Fails S holds at (left < steps_inside S holds deep [] v) longer (cond b (On (Drafting (draft_of Inspected v) at) k sc d left) (On (Give (Str plain)) k sc d left)))
      → Fails S holds at (left < steps_inside S holds deep [] v) longer (cond b (On (Drafting (draft_of Inspected v) at) k sc d left) (On (Give (Str plain)) k sc d left))
  asked_by deep v plain k sc d left longer true kind room fit own comes =
      drafts_by deep v k sc d left longer (nat_lt left (steps_inside S holds deep [] v)) (nat_lt max_bytes (length (text_inside S holds deep [] v))) refl refl room fit own comes
  asked_by deep v plain k sc d left longer false kind room fit own comes =
      let steps = plain_steps S holds deep v kind in
      comes left (omega (arith, steps)) (arrives _)

  -- so it is where the text is asked
  text_asked : (deep : ℕ) (v : Value) (k : List Cont) (sc : Scope) (d left : ℕ) (longer : Type 0) → deep + d ≤ max_depth → value_fits S holds deep v ≡ true
      → (max_bytes < length (value_text S holds deep v) → longer)
      → ((s : State) (rest : ℕ) → left ≡ steps_inside S holds deep [] v + rest → Looks S holds s (On (Give (Str (value_text S holds deep v))) k sc d rest)
      → Fails S holds at (left < steps_inside S holds deep [] v) longer s)
      → Fails S holds at (left < steps_inside S holds deep [] v) longer (give_text S v at k sc d left)
  text_asked deep v k sc d left longer room fit own comes =
      let unasked = no_method (own_text S v) (both_first (is_none (own_text S v)) (fits_inside S holds deep [] v) fit) in
      fails_after S holds at _ _ (looks_from S holds _ _ _ (ap (λ m. text_by S m v at k sc d left) unasked) (arrives _))
      (asked_by deep v (shown S.program v) k sc d left longer (is_collection v) refl room (both_second (is_none (own_text S v)) (fits_inside S holds deep [] v) fit) own
      (λ rest count way. comes _ rest count way))

  -- a text that has come does not join what is printed
  after_text : (style : Style) (bytes text : Text) (vs : List Value) (k : List Cont) (sc : Scope) (d left need : ℕ) → ((left < need) ⊎ (max_bytes < length (bytes ++ styled style text)))
      → (s : State) (rest : ℕ) → left ≡ need + rest → Looks S holds s (On (Give (Str text)) (Then (WriteBehind style bytes vs at) ∷ k) sc d rest)
      → Fails S holds at (left < need) (max_bytes < length (bytes ++ styled style text)) s
  after_text style bytes text vs k sc d left need (inl few) s rest count way = absurd (omega (arith, few, count))
  after_text style bytes text vs k sc d left need (inr long) s rest count way =
      too_long rest long (looks_append S holds way (goes _ _ _ refl (looks_from S holds _ _ _ (behind_long S style bytes text vs at k sc d rest long) (arrives _))))

  after_lines : (bytes text : Text) (vs : List Value) (k : List Cont) (sc : Scope) (d left need : ℕ) → ((left < need) ⊎ (max_bytes < length (bytes ++ text)))
      → (s : State) (rest : ℕ) → left ≡ need + rest → Looks S holds s (On (Give (Str text)) (Then (LinesBehind bytes vs at) ∷ k) sc d rest)
      → Fails S holds at (left < need) (max_bytes < length (bytes ++ text)) s
  after_lines bytes text vs k sc d left need (inl few) s rest count way = absurd (omega (arith, few, count))
  after_lines bytes text vs k sc d left need (inr long) s rest count way =
      let is_long : nat_lt max_bytes (length (bytes ++ text)) ≡ true = grind (arith, nat_tests, long) in
      too_long rest long
      (looks_append S holds way
      (goes _ _ _ refl (looks_from S holds _ _ _ (ap (λ b. cond b (raised TextTooLong at rest) (write S Lines (bytes ++ text) vs at k sc d rest)) is_long) (arrives _))))

module _ (S : Script) (holds : Id → Option Thing) (at : Span) (k : List Cont) (sc : Scope) (d : ℕ) where
  -- ---- lines of arrays

  after_line : (v : Value) (bytes text : Text) (begun : List Open) (left need : ℕ) → ((left < need) ⊎ (max_bytes < length (bytes ++ line_of text)))
      → (s : State) (rest : ℕ) → left ≡ need + rest
      → Looks S holds s (On (Give (Str text)) (Under d ∷ Then (LineOf (lining S holds at k sc d v bytes begun) at) ∷ k) sc (d + length begun) rest)
      → Fails S holds at (left < need) (max_bytes < length (bytes ++ line_of text)) s
  after_line v bytes text begun left need (inl few) s rest count way = absurd (omega (arith, few, count))
  after_line v bytes text begun left need (inr long) s rest count way =
      too_long rest long
      (looks_append S holds way
      (goes _ _ _ refl (goes _ _ _ refl
      (looks_from S holds _ _ _ (overflows S holds at k sc d Lined (OfValue [] v) Between bytes (line_of text) begun begun rest long) (arrives _)))))

  asks_fails : (deep : ℕ) (v w : Value) (bytes : Text) (begun : List Open) (left : ℕ) → deep + (d + length begun) ≤ max_depth → value_fits S holds deep w ≡ true
      → ((left < steps_inside S holds deep [] w) ⊎ (max_bytes < length (bytes ++ line_of (value_text S holds deep w))))
      → Fails S holds at (left < steps_inside S holds deep [] w) (max_bytes < length (bytes ++ line_of (value_text S holds deep w)))
      (drafted S (Asks w (lining S holds at k sc d v bytes begun)) at k sc d left)
  asks_fails deep v w bytes begun left room fit why =
      text_asked S holds at deep w (Under d ∷ Then (LineOf (lining S holds at k sc d v bytes begun) at) ∷ k) sc (d + length begun) left (max_bytes < length (bytes ++ line_of (value_text S holds deep w))) room fit
      (longer_as_line bytes (value_text S holds deep w)) (after_line v bytes (value_text S holds deep w) begun left (steps_inside S holds deep [] w) why)

  -- values are not written inside these arrays, and nothing before them is too long
  abbrev Refuses : (Value → Text) → (Value → ℕ) → (Value → Bool) → List Open → Type 0
  Refuses text steps fits begun = (v : Value) (bytes : Text) (left : ℕ) → fits v ≡ true → length bytes ≤ max_bytes → ((left < steps v) ⊎ (max_bytes < length (bytes ++ text v)))
      → Fails S holds at (left < steps v) (max_bytes < length (bytes ++ text v)) (at_value S holds at k sc d v bytes begun left)

  module _ (text : Value → Text) (steps : Value → ℕ) (fits : Value → Bool) (thing : Reference) (begun : List Open)
      (each : (vs : List Value) → Writes S holds at k sc d text steps fits (OfArray thing [] vs ∷ begun)) (refuses : (vs : List Value) → Refuses text steps fits (OfArray thing [] vs ∷ begun)) where
    abbrev Failing : List Value → Text → ℕ → Type 0
    Failing vs bytes left = Fails S holds at (left < one_for_each steps vs) (max_bytes < length (bytes ++ flat_map text vs)) (behind S holds at k sc d bytes (OfArray thing [] vs ∷ begun) left)

    abbrev Failed : List Value → Text → ℕ → Type 0
    Failed vs bytes left = (left < one_for_each steps vs) ⊎ (max_bytes < length (bytes ++ flat_map text vs))

    longer_whole : (v : Value) (vs : List Value) (bytes : Text) → max_bytes < length (bytes ++ text v) → max_bytes < length (bytes ++ flat_map text (v ∷ vs))
    longer_whole v vs bytes long = subst (λ b. max_bytes < length b) (append_assoc bytes (text v) (flat_map text vs)) (longer (bytes ++ text v) (flat_map text vs) max_bytes long)

    first_fails : (v : Value) (vs : List Value) (bytes : Text) (left : ℕ) → fits v ≡ true → length bytes ≤ max_bytes → ((left < steps v) ⊎ (max_bytes < length (bytes ++ text v))) → Failing (v ∷ vs) bytes (suc left)
    first_fails v vs bytes left fit room why =
        fails_after S holds at _ _ (goes _ _ _ refl (arrives _))
        (fails_map S holds at (at_value S holds at k sc d v bytes (OfArray thing [] vs ∷ begun) left) (λ few. omega (arith, few)) (longer_whole v vs bytes) (refuses vs v bytes left fit room why))

    later_why : (v : Value) (vs : List Value) (bytes : Text) (left : ℕ) → Failed (v ∷ vs) bytes (suc (steps v + left)) → Failed vs (bytes ++ text v) left
    later_why v vs bytes left (inl few) = inl (omega (arith, few))
    later_why v vs bytes left (inr long) = inr (subst (λ b. max_bytes < length b) (sym (append_assoc bytes (text v) (flat_map text vs))) long)

    later_fails : (v : Value) (vs : List Value) (bytes : Text) (left : ℕ) → fits v ≡ true → length (bytes ++ text v) ≤ max_bytes → (Failed vs (bytes ++ text v) left → Failing vs (bytes ++ text v) left)
        → Failed (v ∷ vs) bytes (suc (steps v + left)) → Failing (v ∷ vs) bytes (suc (steps v + left))
    later_fails v vs bytes left fit now later why =
        fails_after S holds at _ _ (goes _ _ _ refl (each vs v bytes left fit now))
        (fails_map S holds at (behind S holds at k sc d (bytes ++ text v) (OfArray thing [] vs ∷ begun) left) (λ few. omega (arith, few))
        (λ long. subst (λ b. max_bytes < length b) (append_assoc bytes (text v) (flat_map text vs)) long) (later (later_why v vs bytes left why)))

    by_first : (v : Value) (vs : List Value) (bytes : Text) (left : ℕ) → fits v ≡ true → length bytes ≤ max_bytes
        → ((left : ℕ) → length (bytes ++ text v) ≤ max_bytes → Failed vs (bytes ++ text v) left → Failing vs (bytes ++ text v) left)
        → Failed (v ∷ vs) bytes (suc left) → (few long : Bool) → nat_lt left (steps v) ≡ few → nat_lt max_bytes (length (bytes ++ text v)) ≡ long → Failing (v ∷ vs) bytes (suc left)
    by_first v vs bytes left fit room later why true long few_is long_is =
        let few : left < steps v = grind (arith, nat_tests, few_is) in first_fails v vs bytes left fit room (inl few)
    by_first v vs bytes left fit room later why false true few_is long_is =
        let long : max_bytes < length (bytes ++ text v) = grind (arith, nat_tests, long_is) in first_fails v vs bytes left fit room (inr long)
    by_first v vs bytes left fit room later why false false few_is long_is =
        let enough : steps v ≤ left = grind (arith, nat_tests, few_is) in
        let now : length (bytes ++ text v) ≤ max_bytes = grind (arith, nat_tests, long_is) in
        let count : suc (steps v + (left - steps v)) ≡ suc left = omega (arith, enough) in
        subst (λ n. Failing (v ∷ vs) bytes n) count
        (later_fails v vs bytes (left - steps v) fit now (later (left - steps v) now) (subst (λ n. Failed (v ∷ vs) bytes n) (sym count) why))

    elements_fail : (vs : List Value) (bytes : Text) (left : ℕ) → list_all fits vs ≡ true → length bytes ≤ max_bytes → Failed vs bytes left → Failing vs bytes left
    elements_fail [] bytes left fit room (inl few) = absurd (no_fewer left few)
    elements_fail [] bytes left fit room (inr long) = absurd (not_longer bytes room long)
    elements_fail (v ∷ vs) bytes zero fit room why = few_steps (omega arith) (goes _ _ _ refl (arrives _))
    elements_fail (v ∷ vs) bytes (suc left) fit room why =
        by_first v vs bytes left (both_first (fits v) (list_all fits vs) fit) room (λ left now why. elements_fail vs (bytes ++ text v) left (both_second (fits v) (list_all fits vs) fit) now why) why
        (nat_lt left (steps v)) (nat_lt max_bytes (length (bytes ++ text v))) refl refl

    holds_fails : (v : Value) (bytes : Text) (left : ℕ) (what : Option Thing) → holds thing.id ≡ what → array_fits fits what ≡ true → length bytes ≤ max_bytes
        → ((left < collection_steps steps what) ⊎ (max_bytes < length (bytes ++ array_lines (things_of begun) text what)))
        → Fails S holds at (left < collection_steps steps what) (max_bytes < length (bytes ++ array_lines (things_of begun) text what))
        (On (Reading thing (ForText (lining S holds at k sc d v bytes begun)) at) k sc d left)
    holds_fails v bytes left (Some (Elements [])) is fit room (inl few) = absurd (no_fewer left few)
    holds_fails v bytes left (Some (Elements [])) is fit room (inr long) =
        let over : max_bytes < length (bytes ++ empty_lines begun) = subst (λ x. max_bytes < length (bytes ++ x)) (sym (empty_is begun)) long in
        too_long left long
        (copies _ _ thing (Elements []) refl is (looks_from S holds _ _ _ (overflows S holds at k sc d Lined (OfValue [] v) Between bytes (empty_lines begun) begun begun left over) (arrives _)))
    holds_fails v bytes left (Some (Elements (w ∷ ws))) is fit room why =
        fails_after S holds at _ _ (copies _ _ thing (Elements (w ∷ ws)) refl is (arrives _)) (elements_fail (w ∷ ws) bytes left fit room why)
    holds_fails v bytes left (Some (Pairs ps)) is fit room why = absurd (cc)
    holds_fails v bytes left None is fit room why = absurd (cc)
    holds_fails v bytes left (Some (Object class fields)) is fit room why = absurd (cc)
    holds_fails v bytes left (Some (Mutex owner)) is fit room why = absurd (cc)
    holds_fails v bytes left (Some (Thread state)) is fit room why = absurd (cc)

  part_fails : (deep : ℕ) (bytes : Text) (v : Value) (begun : List Open) (left : ℕ) (text : Reference → Text) (steps : Reference → ℕ) (fits : Reference → Bool) (part : Part)
      → lines S.program (lining S holds at k sc d v bytes begun) [] v ≡ needs_of S holds at k sc d (lining S holds at k sc d v bytes begun) part → deep + (d + length begun) ≤ max_depth
      → ((thing : Reference) → fits thing ≡ true → ((left < steps thing) ⊎ (max_bytes < length (bytes ++ text thing)))
      → Fails S holds at (left < steps thing) (max_bytes < length (bytes ++ text thing)) (drafted S (Copies thing (lining S holds at k sc d v bytes begun)) at k sc d left))
      → part_lines_fit S holds deep fits part ≡ true → ((left < part_line_steps S holds deep steps part) ⊎ (max_bytes < length (bytes ++ part_lines S holds deep text part)))
      → Fails S holds at (left < part_line_steps S holds deep steps part) (max_bytes < length (bytes ++ part_lines S holds deep text part)) (at_value S holds at k sc d v bytes begun left)
  part_fails deep bytes v begun left text steps fits (Single w) is room whole fit why =
      fails_after S holds at _ _ (goes _ _ _ (ap (λ n. Go (drafted S n at k sc d left)) is) (arrives _)) (asks_fails deep v w bytes begun left room fit why)
  part_fails deep bytes v begun left text steps fits (Again thing) is room whole fit (inl few) = absurd (no_fewer left few)
  part_fails deep bytes v begun left text steps fits (Again thing) is room whole fit (inr long) =
      too_long left long
      (goes _ _ _ (ap (λ n. Go (drafted S n at k sc d left)) is)
      (looks_from S holds _ _ _ (overflows S holds at k sc d Lined (OfValue [] v) Between bytes (codes "[...]\n") begun begun left long) (arrives _)))
  part_fails deep bytes v begun left text steps fits (Whole thing) is room whole fit why =
      fails_after S holds at _ _ (goes _ _ _ (ap (λ n. Go (drafted S n at k sc d left)) is) (arrives _)) (whole thing fit why)

  refuses : (deep : ℕ) (begun : List Open) → deep + (d + length begun) ≤ max_depth
      → Refuses (lines_inside S holds deep (things_of begun)) (line_steps_inside S holds deep (things_of begun)) (lines_fit_inside S holds deep (things_of begun)) begun
  refuses zero begun room v bytes left fit before why =
      part_fails zero bytes v begun left (λ thing. []) (λ thing. 0) (λ thing. false) (lined_part (things_of begun) v) (value_needs S holds at k sc d v bytes begun) room (λ thing no why. absurd (cc)) fit why
  refuses (suc deep) begun room v bytes left fit before why =
      let below : nat_lt (d + length begun) max_depth ≡ true = grind (arith, nat_tests, room) in
      let inside : deep + (d + suc (length begun)) ≤ max_depth = omega (arith, room) in
      part_fails (suc deep) bytes v begun left
      (λ thing. array_lines (things_of begun) (lines_inside S holds deep (thing ∷ things_of begun)) (holds thing.id))
      (λ thing. collection_steps (line_steps_inside S holds deep (thing ∷ things_of begun)) (holds thing.id))
      (λ thing. array_fits (lines_fit_inside S holds deep (thing ∷ things_of begun)) (holds thing.id))
      (lined_part (things_of begun) v) (value_needs S holds at k sc d v bytes begun) room
      (λ thing fit why.
      let reading = On (Reading thing (ForText (lining S holds at k sc d v bytes begun)) at) k sc d left in
      fails_after S holds at _ _ (looks_from S holds _ _ _ (ap (λ b. cond b reading (raised TooDeep at left)) below) (arrives _))
      (holds_fails (lines_inside S holds deep (thing ∷ things_of begun)) (line_steps_inside S holds deep (thing ∷ things_of begun)) (lines_fit_inside S holds deep (thing ∷ things_of begun)) thing begun
      (λ vs. writes S holds at k sc d deep (OfArray thing [] vs ∷ begun) inside) (λ vs. refuses deep (OfArray thing [] vs ∷ begun) inside) v bytes left (holds thing.id) refl fit before why))
      fit why

  -- so it is not written where nothing is begun
  lines_by : (deep : ℕ) (v : Value) (left : ℕ) (longer : Type 0) (few long : Bool) → nat_lt left (line_steps_inside S holds deep [] v) ≡ few → nat_lt max_bytes (length (lines_inside S holds deep [] v)) ≡ long
      → deep + d ≤ max_depth → lines_fit_inside S holds deep [] v ≡ true → (max_bytes < length (lines_inside S holds deep [] v) → longer)
      → ((s : State) (rest : ℕ) → left ≡ line_steps_inside S holds deep [] v + rest → Looks S holds s (On (Give (Str (lines_inside S holds deep [] v))) k sc d rest)
      → Fails S holds at (left < line_steps_inside S holds deep [] v) longer s)
      → Fails S holds at (left < line_steps_inside S holds deep [] v) longer (On (Drafting (draft_of Lined v) at) k sc d left)
  lines_by deep v left longer true long few_is long_is room fit own comes =
      let few : left < line_steps_inside S holds deep [] v = grind (arith, nat_tests, few_is) in
      let inside : deep + (d + 0) ≤ max_depth = omega (arith, room) in
      let before : 0 ≤ max_bytes = omega arith in
      fails_map S holds at (On (Drafting (draft_of Lined v) at) k sc d left) (λ few. few) own (refuses deep [] inside v [] left fit before (inl few))
  lines_by deep v left longer false true few_is long_is room fit own comes =
      let long : max_bytes < length (lines_inside S holds deep [] v) = grind (arith, nat_tests, long_is) in
      let inside : deep + (d + 0) ≤ max_depth = omega (arith, room) in
      let before : 0 ≤ max_bytes = omega arith in
      fails_map S holds at (On (Drafting (draft_of Lined v) at) k sc d left) (λ few. few) own (refuses deep [] inside v [] left fit before (inr long))
  lines_by deep v left longer false false few_is long_is room fit own comes =
      let enough : line_steps_inside S holds deep [] v ≤ left = grind (arith, nat_tests, few_is) in
      let short : length (lines_inside S holds deep [] v) ≤ max_bytes = grind (arith, nat_tests, long_is) in
      let rest = left - line_steps_inside S holds deep [] v in
      let count : line_steps_inside S holds deep [] v + rest ≡ left = omega (arith, enough) in
      comes (On (Drafting (draft_of Lined v) at) k sc d left) rest (sym count)
      (subst (λ n. Looks S holds (On (Drafting (draft_of Lined v) at) k sc d n) (On (Give (Str (lines_inside S holds deep [] v))) k sc d rest)) count
      (writes_all S holds at k sc d deep v rest room fit short))

-- ---- what is printed

module _ (S : Script) (holds : Id → Option Thing) (at : Span) (k : List Cont) (sc : Scope) (d : ℕ) where
  module _ (style : Style) (text : Value → Text) (steps : Value → ℕ) (fits : Value → Bool)
      (one : (bytes : Text) (v : Value) (vs : List Value) (left : ℕ) → fits v ≡ true → length (bytes ++ text v) ≤ max_bytes
      → Looks S holds (write S style bytes (v ∷ vs) at k sc d (steps v + left)) (write S style (bytes ++ text v) vs at k sc d left))
      (one_fails : (bytes : Text) (v : Value) (vs : List Value) (left : ℕ) → fits v ≡ true → ((left < steps v) ⊎ (max_bytes < length (bytes ++ text v)))
      → Fails S holds at (left < steps v) (max_bytes < length (bytes ++ text v)) (write S style bytes (v ∷ vs) at k sc d left)) where
    abbrev Shows : List Value → Text → ℕ → Type 0
    Shows vs bytes left = Fails S holds at (left < steps_of steps vs) (max_bytes < length (bytes ++ flat_map text vs)) (write S style bytes vs at k sc d left)

    abbrev Hides : List Value → Text → ℕ → Type 0
    Hides vs bytes left = (left < steps_of steps vs) ⊎ (max_bytes < length (bytes ++ flat_map text vs))

    argument_fails : (v : Value) (vs : List Value) (bytes : Text) (left : ℕ) → fits v ≡ true → ((left < steps v) ⊎ (max_bytes < length (bytes ++ text v))) → Shows (v ∷ vs) bytes left
    argument_fails v vs bytes left fit why =
        fails_map S holds at (write S style bytes (v ∷ vs) at k sc d left) (λ few. omega (arith, few))
        (λ long. subst (λ b. max_bytes < length b) (append_assoc bytes (text v) (flat_map text vs)) (longer (bytes ++ text v) (flat_map text vs) max_bytes long)) (one_fails bytes v vs left fit why)

    behind_why : (v : Value) (vs : List Value) (bytes : Text) (left : ℕ) → Hides (v ∷ vs) bytes (steps v + left) → Hides vs (bytes ++ text v) left
    behind_why v vs bytes left (inl few) = inl (omega (arith, few))
    behind_why v vs bytes left (inr long) = inr (subst (λ b. max_bytes < length b) (sym (append_assoc bytes (text v) (flat_map text vs))) long)

    behind_fails : (v : Value) (vs : List Value) (bytes : Text) (left : ℕ) → fits v ≡ true → length (bytes ++ text v) ≤ max_bytes → (Hides vs (bytes ++ text v) left → Shows vs (bytes ++ text v) left)
        → Hides (v ∷ vs) bytes (steps v + left) → Shows (v ∷ vs) bytes (steps v + left)
    behind_fails v vs bytes left fit now later why =
        fails_after S holds at _ _ (one bytes v vs left fit now)
        (fails_map S holds at (write S style (bytes ++ text v) vs at k sc d left) (λ few. omega (arith, few))
        (λ long. subst (λ b. max_bytes < length b) (append_assoc bytes (text v) (flat_map text vs)) long) (later (behind_why v vs bytes left why)))

    by_argument : (v : Value) (vs : List Value) (bytes : Text) (left : ℕ) → fits v ≡ true
        → ((left : ℕ) → length (bytes ++ text v) ≤ max_bytes → Hides vs (bytes ++ text v) left → Shows vs (bytes ++ text v) left)
        → Hides (v ∷ vs) bytes left → (few long : Bool) → nat_lt left (steps v) ≡ few → nat_lt max_bytes (length (bytes ++ text v)) ≡ long → Shows (v ∷ vs) bytes left
    by_argument v vs bytes left fit later why true long few_is long_is =
        let few : left < steps v = grind (arith, nat_tests, few_is) in argument_fails v vs bytes left fit (inl few)
    by_argument v vs bytes left fit later why false true few_is long_is =
        let long : max_bytes < length (bytes ++ text v) = grind (arith, nat_tests, long_is) in argument_fails v vs bytes left fit (inr long)
    by_argument v vs bytes left fit later why false false few_is long_is =
        let enough : steps v ≤ left = grind (arith, nat_tests, few_is) in
        let now : length (bytes ++ text v) ≤ max_bytes = grind (arith, nat_tests, long_is) in
        let count : steps v + (left - steps v) ≡ left = omega (arith, enough) in
        subst (λ n. Shows (v ∷ vs) bytes n) count
        (behind_fails v vs bytes (left - steps v) fit now (later (left - steps v) now) (subst (λ n. Hides (v ∷ vs) bytes n) (sym count) why))

    prints_fail : (vs : List Value) (bytes : Text) (left : ℕ) → list_all fits vs ≡ true → length bytes ≤ max_bytes → Hides vs bytes left → Shows vs bytes left
    prints_fail [] bytes left fit room (inl few) = absurd (no_fewer left few)
    prints_fail [] bytes left fit room (inr long) = absurd (not_longer bytes room long)
    prints_fail (v ∷ vs) bytes left fit room why =
        by_argument v vs bytes left (both_first (fits v) (list_all fits vs) fit) (λ left now why. prints_fail vs (bytes ++ text v) left (both_second (fits v) (list_all fits vs) fit) now why) why
        (nat_lt left (steps v)) (nat_lt max_bytes (length (bytes ++ text v))) refl refl

  -- one argument of `print`, of `p`, and of `puts`
  text_fails : (deep : ℕ) → deep + d ≤ max_depth → (bytes : Text) (v : Value) (vs : List Value) (left : ℕ) → value_fits S holds deep v ≡ true
      → ((left < steps_inside S holds deep [] v) ⊎ (max_bytes < length (bytes ++ value_text S holds deep v)))
      → Fails S holds at (left < steps_inside S holds deep [] v) (max_bytes < length (bytes ++ value_text S holds deep v)) (write S Plain bytes (v ∷ vs) at k sc d left)
  text_fails deep room bytes v vs left fit why =
      text_asked S holds at deep v (Then (WriteBehind Plain bytes vs at) ∷ k) sc d left (max_bytes < length (bytes ++ value_text S holds deep v)) room fit
      (longer_behind bytes (value_text S holds deep v) max_bytes) (after_text S holds at Plain bytes (value_text S holds deep v) vs k sc d left (steps_inside S holds deep [] v) why)

  form_is : (deep : ℕ) (v : Value) (b : Bool) → is_collection v ≡ b → cond b (text_inside S holds deep [] v) (inspected S.program v) ≡ text_inside S holds deep [] v
  form_is deep v true kind = refl
  form_is deep v false kind = sym (plain_text S holds deep v kind)

  form_fails : (deep : ℕ) (args : List Value) → deep + d ≤ max_depth → (bytes : Text) (v : Value) (vs : List Value) (left : ℕ) → fits_inside S holds deep [] v ≡ true
      → ((left < steps_inside S holds deep [] v) ⊎ (max_bytes < length (bytes ++ (text_inside S holds deep [] v ++ codes "\n"))))
      → Fails S holds at (left < steps_inside S holds deep [] v) (max_bytes < length (bytes ++ (text_inside S holds deep [] v ++ codes "\n"))) (write S (Inspecting args) bytes (v ∷ vs) at k sc d left)
  form_fails deep args room bytes v vs left fit why =
      let text = text_inside S holds deep [] v in
      asked_by S holds at deep v (inspected S.program v) (Then (WriteBehind (Inspecting args) bytes vs at) ∷ k) sc d left (max_bytes < length (bytes ++ (text ++ codes "\n"))) (is_collection v) refl room fit
      (λ long. longer_behind bytes (text ++ codes "\n") max_bytes (longer text (codes "\n") max_bytes (subst (λ t. max_bytes < length t) (form_is deep v (is_collection v) refl) long)))
      (λ rest count way.
      after_text S holds at (Inspecting args) bytes text vs k sc d left (steps_inside S holds deep [] v) why _ rest count
      (looks_to S holds _ _ _ (ap (λ t. On (Give (Str t)) (Then (WriteBehind (Inspecting args) bytes vs at) ∷ k) sc d rest) (form_is deep v (is_collection v) refl)) way))

  single_why : (deep : ℕ) (bytes : Text) (v : Value) (left : ℕ) → is_array v ≡ false → ((left < line_steps_inside S holds deep [] v) ⊎ (max_bytes < length (bytes ++ lines_inside S holds deep [] v)))
      → (left < steps_inside S holds deep [] v) ⊎ (max_bytes < length (bytes ++ line_of (value_text S holds deep v)))
  single_why deep bytes v left kind (inl few) = inl (subst (λ n. left < n) (single_steps S holds deep v kind) few)
  single_why deep bytes v left kind (inr long) = inr (subst (λ t. max_bytes < length (bytes ++ t)) (single_lines S holds deep v kind) long)

  lines_fail : (deep : ℕ) (bytes : Text) (v : Value) (vs : List Value) (left : ℕ) (b : Bool) → is_array v ≡ b → deep + d ≤ max_depth → lines_fit_inside S holds deep [] v ≡ true
      → ((left < line_steps_inside S holds deep [] v) ⊎ (max_bytes < length (bytes ++ lines_inside S holds deep [] v)))
      → Fails S holds at (left < line_steps_inside S holds deep [] v) (max_bytes < length (bytes ++ lines_inside S holds deep [] v))
      (cond b (On (Drafting (draft_of Lined v) at) (Then (LinesBehind bytes vs at) ∷ k) sc d left) (give_text S v at (Then (WriteBehind Lines bytes vs at) ∷ k) sc d left))
  lines_fail deep bytes v vs left true kind room fit why =
      lines_by S holds at (Then (LinesBehind bytes vs at) ∷ k) sc d deep v left (max_bytes < length (bytes ++ lines_inside S holds deep [] v)) (nat_lt left (line_steps_inside S holds deep [] v))
      (nat_lt max_bytes (length (lines_inside S holds deep [] v))) refl refl room fit (longer_behind bytes (lines_inside S holds deep [] v) max_bytes)
      (after_lines S holds at bytes (lines_inside S holds deep [] v) vs k sc d left (line_steps_inside S holds deep [] v) why)
  lines_fail deep bytes v vs left false kind room fit why =
      let text = value_text S holds deep v in
      fails_map S holds at (give_text S v at (Then (WriteBehind Lines bytes vs at) ∷ k) sc d left) (λ few. subst (λ n. left < n) (sym (single_steps S holds deep v kind)) few)
      (λ long. subst (λ t. max_bytes < length (bytes ++ t)) (sym (single_lines S holds deep v kind)) long)
      (text_asked S holds at deep v (Then (WriteBehind Lines bytes vs at) ∷ k) sc d left (max_bytes < length (bytes ++ line_of text)) room (sym (single_fits S holds deep v kind) ∙ fit) (longer_as_line bytes text)
      (after_text S holds at Lines bytes text vs k sc d left (steps_inside S holds deep [] v) (single_why deep bytes v left kind why)))

pub puts_fails : PutsFails
puts_fails S holds deep v vs at k sc d left room fit why =
    let before : 0 ≤ max_bytes = omega arith in
    prints_fail S holds at k sc d Lines (lines_inside S holds deep []) (line_steps_inside S holds deep []) (lines_fit_inside S holds deep [])
    (λ bytes v vs left fit short. gives_lines S holds at k sc d deep bytes v vs left (is_array v) refl room fit short)
    (λ bytes v vs left fit why. lines_fail S holds at k sc d deep bytes v vs left (is_array v) refl room fit why) (v ∷ vs) [] left fit before why

pub print_fails : PrintFails
print_fails S holds deep vs at k sc d left room fit why =
    let before : 0 ≤ max_bytes = omega arith in
    prints_fail S holds at k sc d Plain (value_text S holds deep) (steps_inside S holds deep []) (value_fits S holds deep) (prints_text S holds at k sc d deep room) (text_fails S holds at k sc d deep room) vs [] left fit
    before why

pub p_fails : PFails
p_fails S holds deep vs at k sc d left room fit why =
    let before : 0 ≤ max_bytes = omega arith in
    prints_fail S holds at k sc d (Inspecting vs) (λ v. text_inside S holds deep [] v ++ codes "\n") (steps_inside S holds deep []) (fits_inside S holds deep []) (prints_form S holds at k sc d deep vs room)
    (form_fails S holds at k sc d deep vs room) vs [] left fit before why
