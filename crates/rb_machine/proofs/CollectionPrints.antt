-- What is printed of collections and other values is as they are told; and a run does what is told of things that stand still.
use Rattle.std.proofs.Common.{◌≡◌, ◌≤◌, ℕ, zero, suc, ◌+◌, Bool, true, false, ◌==◌, cond, List, [], ◌∷◌, ◌++◌, Option, Some, None, length, set, arith, refl, sym, ap, ◌∙◌, subst}
use Rattle.std.specs.Prelude.{nat_lt, slice_get, codes}
use Rattle.std.specs.List.{list_all, flat_map}
use Rattle.std.proofs.lemmas.Bool.Decides.{nat_tests}
use Rattle.std.proofs.lemmas.List.{append-nil, append_assoc}
use Rattle.rb_tree.specs.declared.span.Span.{Span}
use Rattle.rb_model.specs.declared.fault.Fault.TheVariants.{TextTooLong}
use Rattle.rb_model.specs.declared.value.Id.{Id}
use Rattle.rb_model.specs.Values.{Value, Str, To}
use Rattle.rb_model.specs.Acts.{Copy}
use Rattle.rb_model.specs.Things.{Thing, Object, Elements, Pairs, Mutex, Thread, gives, gives_to, becomes_by}
use Rattle.rb_model.specs.Private.{Private, held, or_none, acted}
use Rattle.rb_model.specs.Log.{Log}
use Rattle.rb_machine.specs.Scopes.{Script, Text, Scope}
use Rattle.rb_machine.specs.Control.{State, On, Cont, Then, Give, Drafting, Style, Lines, Plain, Inspecting, WriteBehind, LinesBehind, Inspected, Lined, max_depth}
use Rattle.rb_machine.specs.Texts.{max_bytes, inspected, line_of}
use Rattle.rb_machine.specs.Drafts.{is_collection, is_array, draft_of}
use Rattle.rb_machine.specs.Call.{give_text, raised, show, value_of, write}
use Rattle.rb_machine.specs.Move.{replied}
use Rattle.rb_machine.specs.Alone.{Runs}
use Rattle.rb_machine.specs.Alone as run
use Rattle.rb_machine.specs.Follows.{At}
use Rattle.rb_machine.specs.Follows as thread
use Rattle.rb_machine.specs.Collections.{Single, thing_part, lined_part, steps_of, steps_inside, fits_inside, text_inside, value_text, value_fits, array_lines, part_lines, lines_inside, collection_steps, part_line_steps, line_steps_inside, array_fits, part_lines_fit, lines_fit_inside, Looks, arrives, goes, copies, PutsAsTold, PrintAsTold, PAsTold, RunsAsTold, ThreadsAsTold}
use Rattle.rb_machine.proofs.Printing.{behind_fits}
use Rattle.rb_machine.proofs.CollectionTexts.{both_first, both_second, front_short, looks_append, looks_from, looks_to, tells_all, plain_steps, plain_text}
use Rattle.rb_machine.proofs.CollectionLines.{end_short, text_short, texts_as_told, writes_all}

-- ---- what is printed

-- a value that is no array is a line by itself
lined_single : (v : Value) → is_array v ≡ false → lined_part [] v ≡ Single v
lined_single (To thing) plain = ap (λ b. thing_part b false thing) plain
lined_single v plain = refl

module _ (S : Script) (holds : Id → Option Thing) where
  pub single_lines : (deep : ℕ) (v : Value) → is_array v ≡ false → lines_inside S holds deep [] v ≡ line_of (value_text S holds deep v)
  single_lines zero v plain = ap (part_lines S holds zero (λ thing. [])) (lined_single v plain)
  single_lines (suc deep) v plain =
      ap (part_lines S holds (suc deep) (λ thing. array_lines [] (lines_inside S holds deep (thing ∷ [])) (holds thing.id))) (lined_single v plain)

  pub single_steps : (deep : ℕ) (v : Value) → is_array v ≡ false → line_steps_inside S holds deep [] v ≡ steps_inside S holds deep [] v
  single_steps zero v plain = ap (part_line_steps S holds zero (λ thing. 0)) (lined_single v plain)
  single_steps (suc deep) v plain =
      ap (part_line_steps S holds (suc deep) (λ thing. collection_steps (line_steps_inside S holds deep (thing ∷ [])) (holds thing.id))) (lined_single v plain)

  pub single_fits : (deep : ℕ) (v : Value) → is_array v ≡ false → lines_fit_inside S holds deep [] v ≡ value_fits S holds deep v
  single_fits zero v plain = ap (part_lines_fit S holds zero (λ thing. false)) (lined_single v plain)
  single_fits (suc deep) v plain =
      ap (part_lines_fit S holds (suc deep) (λ thing. array_fits (lines_fit_inside S holds deep (thing ∷ [])) (holds thing.id))) (lined_single v plain)

module _ (S : Script) (holds : Id → Option Thing) (at : Span) (k : List Cont) (sc : Scope) (d : ℕ) where
  -- arguments are written one after the other, where each is
  module _ (style : Style) (text : Value → Text) (steps : Value → ℕ) (fits : Value → Bool)
      (one : (bytes : Text) (v : Value) (vs : List Value) (left : ℕ) → fits v ≡ true → length (bytes ++ text v) ≤ max_bytes
      → Looks S holds (write S style bytes (v ∷ vs) at k sc d (steps v + left)) (write S style (bytes ++ text v) vs at k sc d left)) where
    prints : (vs : List Value) (bytes : Text) (left : ℕ) → list_all fits vs ≡ true → length (bytes ++ flat_map text vs) ≤ max_bytes
        → Looks S holds (write S style bytes vs at k sc d (steps_of steps vs + left)) (show S (bytes ++ flat_map text vs) (value_of S style) at k sc d left)
    prints [] bytes left fit short =
        let none : 0 + left ≡ left = omega arith in
        looks_from S holds _ _ _ (ap (write S style bytes [] at k sc d) none)
        (looks_to S holds _ _ _ (ap (λ b. show S b (value_of S style) at k sc d left) (sym (append-nil bytes))) (arrives _))
    prints (v ∷ vs) bytes left fit short =
        let count : steps v + steps_of steps vs + left ≡ steps v + (steps_of steps vs + left) = omega arith in
        let same = append_assoc bytes (text v) (flat_map text vs) in
        let later : length ((bytes ++ text v) ++ flat_map text vs) ≤ max_bytes = subst (λ b. length b ≤ max_bytes) (sym same) short in
        let now : length (bytes ++ text v) ≤ max_bytes = front_short (bytes ++ text v) (flat_map text vs) max_bytes later in
        looks_from S holds _ _ _ (ap (write S style bytes (v ∷ vs) at k sc d) count)
        (looks_append S holds (one bytes v vs (steps_of steps vs + left) (both_first (fits v) (list_all fits vs) fit) now)
        (looks_to S holds _ _ _ (ap (λ b. show S b (value_of S style) at k sc d left) same) (prints vs (bytes ++ text v) left (both_second (fits v) (list_all fits vs) fit) later)))

  -- one argument of `print`
  pub prints_text : (deep : ℕ) → deep + d ≤ max_depth → (bytes : Text) (v : Value) (vs : List Value) (left : ℕ) → value_fits S holds deep v ≡ true → length (bytes ++ value_text S holds deep v) ≤ max_bytes
      → Looks S holds (write S Plain bytes (v ∷ vs) at k sc d (steps_inside S holds deep [] v + left)) (write S Plain (bytes ++ value_text S holds deep v) vs at k sc d left)
  prints_text deep room bytes v vs left fit short =
      looks_append S holds (texts_as_told S holds deep v at (Then (WriteBehind Plain bytes vs at) ∷ k) sc d left room fit (end_short bytes (value_text S holds deep v) max_bytes short))
      (goes _ _ _ refl (looks_from S holds _ _ _ (behind_fits S Plain bytes (value_text S holds deep v) vs at k sc d left short) (arrives _)))

  -- one argument of `p`
  gives_form : (deep : ℕ) (v : Value) (k : List Cont) (left : ℕ) (b : Bool) → is_collection v ≡ b → deep + d ≤ max_depth → fits_inside S holds deep [] v ≡ true
      → length (text_inside S holds deep [] v) ≤ max_bytes
      → Looks S holds (cond b (On (Drafting (draft_of Inspected v) at) k sc d (steps_inside S holds deep [] v + left)) (On (Give (Str (inspected S.program v))) k sc d (steps_inside S holds deep [] v + left)))
      (On (Give (Str (text_inside S holds deep [] v))) k sc d left)
  gives_form deep v k left true kind room fit short = tells_all S holds at k sc d deep v left room fit short
  gives_form deep v k left false kind room fit short =
      let plain = plain_steps S holds deep v kind in
      let same : steps_inside S holds deep [] v + left ≡ left = omega (arith, plain) in
      looks_from S holds _ _ _ (ap (On (Give (Str (inspected S.program v))) k sc d) same)
      (looks_to S holds _ _ _ (ap (λ t. On (Give (Str t)) k sc d left) (sym (plain_text S holds deep v kind))) (arrives _))

  pub prints_form : (deep : ℕ) (args : List Value) → deep + d ≤ max_depth → (bytes : Text) (v : Value) (vs : List Value) (left : ℕ) → fits_inside S holds deep [] v ≡ true
      → length (bytes ++ (text_inside S holds deep [] v ++ codes "\n")) ≤ max_bytes
      → Looks S holds (write S (Inspecting args) bytes (v ∷ vs) at k sc d (steps_inside S holds deep [] v + left))
      (write S (Inspecting args) (bytes ++ (text_inside S holds deep [] v ++ codes "\n")) vs at k sc d left)
  prints_form deep args room bytes v vs left fit short =
      let text = text_inside S holds deep [] v in
      let line : length (text ++ codes "\n") ≤ max_bytes = end_short bytes (text ++ codes "\n") max_bytes short in
      let inner : length text ≤ max_bytes = front_short text (codes "\n") max_bytes line in
      looks_append S holds (gives_form deep v (Then (WriteBehind (Inspecting args) bytes vs at) ∷ k) left (is_collection v) refl room fit inner)
      (goes _ _ _ refl (looks_from S holds _ _ _ (behind_fits S (Inspecting args) bytes text vs at k sc d left short) (arrives _)))

  -- one argument of `puts`
  pub gives_lines : (deep : ℕ) (bytes : Text) (v : Value) (vs : List Value) (left : ℕ) (b : Bool) → is_array v ≡ b → deep + d ≤ max_depth → lines_fit_inside S holds deep [] v ≡ true
      → length (bytes ++ lines_inside S holds deep [] v) ≤ max_bytes
      → Looks S holds (cond b (On (Drafting (draft_of Lined v) at) (Then (LinesBehind bytes vs at) ∷ k) sc d (line_steps_inside S holds deep [] v + left))
      (give_text S v at (Then (WriteBehind Lines bytes vs at) ∷ k) sc d (line_steps_inside S holds deep [] v + left))) (write S Lines (bytes ++ lines_inside S holds deep [] v) vs at k sc d left)
  gives_lines deep bytes v vs left true kind room fit short =
      let text = lines_inside S holds deep [] v in
      let fits : nat_lt max_bytes (length (bytes ++ text)) ≡ false = grind (arith, nat_tests, short) in
      looks_append S holds (writes_all S holds at (Then (LinesBehind bytes vs at) ∷ k) sc d deep v left room fit (end_short bytes text max_bytes short))
      (goes _ _ _ refl (looks_from S holds _ _ _ (ap (λ b. cond b (raised TextTooLong at left) (write S Lines (bytes ++ text) vs at k sc d left)) fits) (arrives _)))
  gives_lines deep bytes v vs left false kind room fit short =
      let text = value_text S holds deep v in
      let lines = single_lines S holds deep v kind in
      let steps = single_steps S holds deep v kind in
      let fits : length (bytes ++ line_of text) ≤ max_bytes = subst (λ t. length (bytes ++ t) ≤ max_bytes) lines short in
      let inner : length text ≤ max_bytes = text_short bytes text fits in
      looks_from S holds _ _ _ (ap (λ n. give_text S v at (Then (WriteBehind Lines bytes vs at) ∷ k) sc d (n + left)) steps)
      (looks_append S holds (texts_as_told S holds deep v at (Then (WriteBehind Lines bytes vs at) ∷ k) sc d left room (sym (single_fits S holds deep v kind) ∙ fit) inner)
      (goes _ _ _ refl (looks_from S holds _ _ _ (behind_fits S Lines bytes text vs at k sc d left fits)
      (looks_to S holds _ _ _ (ap (λ t. write S Lines (bytes ++ t) vs at k sc d left) (sym lines)) (arrives _)))))

pub puts_as_told : PutsAsTold
puts_as_told S holds deep v vs at k sc d left room fit short =
    prints S holds at k sc d Lines (lines_inside S holds deep []) (line_steps_inside S holds deep []) (lines_fit_inside S holds deep [])
    (λ bytes v vs left fit short. gives_lines S holds at k sc d deep bytes v vs left (is_array v) refl room fit short) (v ∷ vs) [] left fit short

pub print_as_told : PrintAsTold
print_as_told S holds deep vs at k sc d left room fit short =
    prints S holds at k sc d Plain (value_text S holds deep) (steps_inside S holds deep []) (value_fits S holds deep) (prints_text S holds at k sc d deep room) vs [] left fit short

pub p_as_told : PAsTold
p_as_told S holds deep vs at k sc d left room fit short =
    prints S holds at k sc d (Inspecting vs) (λ v. text_inside S holds deep [] v ++ codes "\n") (steps_inside S holds deep []) (fits_inside S holds deep []) (prints_form S holds at k sc d deep vs room) vs [] left fit short

-- ---- runs

copy_gives : (t : ℕ) (thing : Thing) → gives_to t thing Copy ≡ gives thing Copy
copy_gives t (Object class fields) = refl
copy_gives t (Elements vs) = refl
copy_gives t (Pairs ps) = refl
copy_gives t (Mutex owner) = refl
copy_gives t (Thread state) = refl

copy_leaves : (t : ℕ) (thing : Thing) → becomes_by t thing Copy ≡ thing
copy_leaves t (Object class fields) = refl
copy_leaves t (Elements vs) = refl
copy_leaves t (Pairs ps) = refl
copy_leaves t (Mutex owner) = refl
copy_leaves t (Thread state) = refl

-- what is written where it stood already changes nothing
set_again : (xs : List (Option Thing)) (i j : ℕ) (x : Thing) → or_none (slice_get xs i) ≡ Some x → or_none (slice_get (set xs i (Some x)) j) ≡ or_none (slice_get xs j)
set_again [] i j x e = absurd (cc)
set_again (y ∷ xs) zero zero x e = sym e
set_again (y ∷ xs) zero (suc j) x e = refl
set_again (y ∷ xs) (suc i) zero x e = refl
set_again (y ∷ xs) (suc i) (suc j) x e = set_again xs i j x e

there : (b : Bool) (o : Option Thing) (x : Thing) → cond b o None ≡ Some x → o ≡ Some x
there true o x e = e
there false o x e = absurd (cc)

pub copy_changes_nothing : (h : Private) (id other : Id) (thing : Thing) → held h id ≡ Some thing → held (acted h id Copy thing) other ≡ held h other
copy_changes_nothing h id other thing e =
    ap (λ x. cond (other.thread == h.thread) (or_none (slice_get (set h.things id.serial (Some x)) other.serial)) None) (copy_leaves h.thread thing)
    ∙ ap (λ o. cond (other.thread == h.thread) o None) (set_again h.things id.serial other.serial thing (there (id.thread == h.thread) (or_none (slice_get h.things id.serial)) thing e))

runs_on : (S : Script) (N : ℕ) (b : List ℕ) (holds : Id → Option Thing) (h : Private) {s t : State} → ((id : Id) → held h id ≡ holds id) → Runs S N b h s → Looks S holds s t
    → (after : Private) × Runs S N b after t × ((id : Id) → held after id ≡ holds id)
runs_on S N b holds h same r (arrives s) = (h, r, same)
runs_on S N b holds h same r (goes s u t e p) = runs_on S N b holds h same (run.goes b h s u r e) p
runs_on S N b holds h same r (copies s t thing what e f p) =
    let here = same thing.id ∙ f in
    runs_on S N b holds (acted h thing.id Copy what) (λ id. copy_changes_nothing h thing.id id what here ∙ same id)
    (subst (λ x. Runs S N b (acted h thing.id Copy what) (replied s x)) (copy_gives h.thread what) (run.acts b h s thing Copy what r e here)) p

pub runs_as_told : RunsAsTold
runs_as_told S N b h s t r p = runs_on S N b (held h) h (λ id. refl) r p

thread_on : (S : Script) (N : ℕ) (start : State) (l : Log) (holds : Id → Option Thing) (h : Private) {s t : State} → ((id : Id) → held h id ≡ holds id) → At S N start l h s → Looks S holds s t
    → (after : Private) × At S N start l after t × ((id : Id) → held after id ≡ holds id)
thread_on S N start l holds h same a (arrives s) = (h, a, same)
thread_on S N start l holds h same a (goes s u t e p) = thread_on S N start l holds h same (thread.goes l h s u a e) p
thread_on S N start l holds h same a (copies s t thing what e f p) =
    let here = same thing.id ∙ f in
    thread_on S N start l holds (acted h thing.id Copy what) (λ id. copy_changes_nothing h thing.id id what here ∙ same id)
    (subst (λ x. At S N start l (acted h thing.id Copy what) (replied s x)) (copy_gives h.thread what) (thread.acts l h s thing Copy what a e here)) p

pub threads_as_told : ThreadsAsTold
threads_as_told S N start l h s t a p = thread_on S N start l (held h) h (λ id. refl) a p
