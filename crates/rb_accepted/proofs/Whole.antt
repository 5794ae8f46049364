-- A program that is accepted has nothing that is not built.
use Rattle.std.proofs.Common.{◌≡◌, refl, ap, sym, subst, ◌∙◌, ℕ, suc, ◌+◌, ◌≤◌, Bool, true, false, List, [], ◌∷◌, ◌++◌, map, drop, length, Option, Some, None, arith}
use Rattle.std.specs.Prelude.{slice_get, if◌then◌else◌}
use Rattle.std.specs.List.{flat_map}
use Rattle.std.proofs.lemmas.Option.{slice_get_past}
use Rattle.rb_tree.specs.declared.span.Span.{Span}
use Rattle.rb_tree.specs.declared.span.NameId.{NameId}
use Rattle.rb_tree.specs.declared.node.Method.{Method}
use Rattle.rb_tree.specs.declared.node.Class.{Class}
use Rattle.rb_tree.specs.declared.node.Program.{Program}
use Rattle.rb_tree.specs.Texts.{number_of}
use Rattle.rb_tree.proofs.Numbering.{slice_get-number_of}
use Rattle.rb_lexer.specs.declared.token.Token.{Token}
use Rattle.rb_grammar.specs.Tree.{Text, Numbering, Thread, Tree, MethodTree, ClassTree, Items, texts, nodes, params_by, method_by, class_by}
use Rattle.rb_grammar.specs.Script.{IsScript}
use Rattle.rb_grammar.specs.Program.{in_order, numbering_of, program_of}
use Rattle.rb_grammar.specs.Order.{NumberedFrom, Distinct, blocks_of}
use Rattle.rb_grammar.specs.Faithful.{Each, Agree, ItemsAreFaithful}
use Rattle.rb_grammar.proofs.Each.{each_map}
use Rattle.rb_grammar.proofs.Naming.{names_all}
use Rattle.rb_grammar.proofs.Numbers.{bodies_numbered}
use Rattle.rb_grammar.proofs.FaithfulScript.{script_is_faithful}
use Rattle.rb_grammar.proofs.Whole.{script_reads}
use Rattle.rb_grammar.proofs.Local.{script_wider}
use Rattle.rb_grammar.proofs.Sound.{script_sound}
use Rattle.rb_checker.specs.declared.fault.CheckFault.{CheckFault}
use Rattle.rb_checker.specs.Fault.{is_before, first_of_two, first_of}
use Rattle.rb_checker.specs.Check.{fault_of, faults}
use Rattle.rb_checker.specs.Events.{events_in, events_of_all, params_of, bodies_from}
use Rattle.rb_checker.proofs.AllMade.{Events}
use Rattle.rb_checker.specs.Rules.{Owner, top_level, top_level_method, method_of, broken}
use Rattle.rb_checker.specs.Misplaced.{names_of, class_names, in_methods, in_classes, misplaced_in}
use Rattle.rb_checker.proofs.AllMade.{left_empty, right_empty, all_found, found_right}
use Rattle.rb_accepted.specs.Unbuilt as built
use Rattle.rb_accepted.specs.Unbuilt.{Found, earlier, first_unbuilt, found_in_all, found_in_methods, found_in_classes, found_in_bodies, found_in, found_in_block}
use Rattle.rb_accepted.proofs.Kept.{script_has}
use Rattle.rb_accepted.proofs.There.{both_none, FineMethod, FineClass, BareClass, ItemsThere, KnownFrom, all_fine, there_is_kept}
use Rattle.rb_accepted.proofs.Bodies.{bodies_of, left_behind, body_known, numbered_alike}

-- ---- no fault

-- of two faults, one counts
one_counts : (e f : CheckFault) (before : Bool) → (if before then Some f else Some e) ≡ None → ⊥
one_counts e f true h = cc
one_counts e f false h = cc

some_counts : (e : CheckFault) (o : Option CheckFault) → first_of_two (Some e) o ≡ None → ⊥
some_counts e None h = cc
some_counts e (Some f) h = one_counts e f (is_before f e) h

-- where no fault counts, there is none
no_faults : (es : List CheckFault) → first_of es ≡ None → es ≡ []
no_faults [] h = refl
no_faults (e ∷ es) h = absurd (some_counts e (first_of es) h)

-- where nothing is gathered from the makings of things, nothing is from each
each_empty : {A B C : Type 0} (f : B → List C) (g : A → B) (xs : List A) → flat_map f (map g xs) ≡ [] → Each (λ x. f (g x) ≡ []) xs
each_empty f g [] e = tt
each_empty f g (x ∷ xs) e =
    let rest = flat_map f (map g xs) in
    (left_empty (f (g x)) rest e, each_empty f g xs (right_empty (f (g x)) rest e))

-- nothing is found in the makings of things where nothing is in each
each_none : {A B : Type 0} (f : B → Found) (g : A → B) (xs : List A) → Each (λ x. f (g x) ≡ None) xs → built.first_of (map f (map g xs)) ≡ None
each_none f g [] h = refl
each_none f g (x ∷ xs) h = both_none h.0 (each_none f g xs h.1)

-- ---- a numbering by which each name has its text, or none

abbrev name_or : ℕ → Option NameId → NameId
name_or past None = record { 0 = past }
name_or past (Some id) = id

read_by : (names : List Text) (text : Text) (o : Option NameId) → number_of text names ≡ o
    → (there : Bool) × (slice_get names (name_or (length names) o).0 ≡ (if there then Some text else None))
read_by names text None e = (false, slice_get_past names (length names) (omega arith))
read_by names text (Some id) e = (true, slice_get-number_of text names id e)

-- numbers of bodies are the same of themselves
bodies_same : (body : Span → ℕ) (ts : List Thread) → Each (λ t. body t.at ≡ body t.at) ts
bodies_same body [] = tt
bodies_same body (t ∷ more) = (refl, bodies_same body more)

-- the program of these items by a numbering
abbrev program_by : Items → Numbering → Program
program_by found n = record {
  names = in_order (texts found.names);
  classes = map (class_by n) found.classes;
  functions = map (method_by n) found.functions;
  bodies = map (λ t. t.block n) found.threads;
  main = nodes n found.main;
}

module _ (found : Items) where
  -- that of the script, but that a text which it does not name has a number that no text has
  abbrev reading_numbering : Numbering
  reading_numbering = record {
    name = λ text. name_or (length (in_order (texts found.names))) (number_of text (in_order (texts found.names)));
    body = (numbering_of found).body;
  }

  reads : (text : Text) → (there : Bool) × (slice_get (in_order (texts found.names)) (reading_numbering.name text).0 ≡ (if there then Some text else None))
  reads text = read_by (in_order (texts found.names)) text (number_of text (in_order (texts found.names))) refl

  agree : Agree found.names found.threads (numbering_of found) reading_numbering
  agree = record {
    named = each_map (λ w. number_of w.text (in_order (texts found.names)) ≡ Some ((numbering_of found).name w.text))
        (λ w. (numbering_of found).name w.text ≡ reading_numbering.name w.text)
        (λ w e. sym (ap (name_or (length (in_order (texts found.names)))) e)) found.names (names_all found);
    bodied = bodies_same (numbering_of found).body found.threads;
  }

  -- it makes the same program
  same_program : (limit : ℕ) → ItemsAreFaithful limit found → program_of found ≡ program_by found reading_numbering
  same_program limit f =
      let same = f.named (numbering_of found) reading_numbering agree in
      λ i. record {
        names = in_order (texts found.names);
        classes = same.classes i;
        functions = same.functions i;
        bodies = same.bodies i;
        main = same.main i;
      }

-- a script within some limits is faithful, also where those are low
script_faithful : (limit levels : ℕ) (tokens : List Token) (found : Items) → IsScript limit levels tokens found → ItemsAreFaithful (limit + 2) found
script_faithful limit levels tokens found d =
    let one = script_reads limit levels tokens found d in
    let wide = script_wider limit (limit + 2) d.depth d.depth levels levels (omega arith) (omega arith) (omega arith) tokens found d.scopes one.0 [] one.1 in
    script_is_faithful (limit + 2) levels tokens found (omega arith) (script_sound (limit + 2) d.depth levels tokens found d.scopes one.0 wide)

-- ---- the texts of a program without a fault

module _ (found : Items) (n : Numbering)
    (reads : (text : Text) → (there : Bool) × (slice_get (in_order (texts found.names)) (n.name text).0 ≡ (if there then Some text else None))) where
  abbrev whole : Program
  whole = program_by found n

  abbrev functions : List NameId
  functions = names_of whole.functions

  abbrev bodies : ℕ → ℕ → Events
  bodies = bodies_of whole.bodies

  -- bodies that are numbered from 0 on are known
  known : (ts : List Thread) (k : ℕ) → NumberedFrom n k ts → drop k whole.bodies ≡ map (λ t. t.block n) ts
      → KnownFrom whole.names functions whole.classes n bodies reads k ts
  known [] k h e = tt
  known (t ∷ more) k h e =
      let here : drop (n.body t.at) whole.bodies ≡ t.block n ∷ map (λ u. u.block n) more = ap (λ m. drop m whole.bodies) h.0 ∙ e in
      let same : k ≤ n.body t.at = omega (arith, h.0) in (
        same,
        (
          λ j l. body_known whole.bodies j (n.body t.at) (t.block n) (map (λ u. u.block n) more) l here,
          subst (λ m. KnownFrom whole.names functions whole.classes n bodies reads (suc m) more) (sym h.0) (known more (suc k) h.1 (left_behind whole.bodies k (t.block n) (map (λ u. u.block n) more) e)),
        ),
      )

  -- the classes that a method makes objects of, where it breaks no rule
  method_fine : (owner : Owner) (f : MethodTree)
      → broken whole.names functions (class_names whole.classes) owner (events_in (bodies_from 0 whole.bodies) (method_by n f).params (method_by n f).body) ≡ []
      → FineMethod whole.names functions whole.classes n bodies reads f
  method_fine owner f e =
      found_right whole.names functions (class_names whole.classes) (params_of (params_by n f.params)) (events_of_all (bodies_from 0 whole.bodies) (nodes n f.body))
      (all_found whole.names functions (class_names whole.classes) owner
      (events_in (bodies_from 0 whole.bodies) (params_by n f.params) (nodes n f.body)) e)

  methods_fine : (owner : Owner) (fs : List MethodTree)
      → in_methods whole.names functions (class_names whole.classes) (bodies_from 0 whole.bodies) owner (map (method_by n) fs) ≡ []
      → Each (FineMethod whole.names functions whole.classes n bodies reads) fs
  methods_fine owner fs e =
      each_map (λ f. broken whole.names functions (class_names whole.classes) owner (events_in (bodies_from 0 whole.bodies) (method_by n f).params (method_by n f).body) ≡ [])
      (FineMethod whole.names functions whole.classes n bodies reads) (method_fine owner) fs
      (each_empty (λ (m : Method). broken whole.names functions (class_names whole.classes) owner (events_in (bodies_from 0 whole.bodies) m.params m.body)) (method_by n) fs e)

  -- nothing is found in a program that has no fault, and whose bodies are numbered from 0 on
  nothing_unbuilt : ItemsThere whole.names functions whole.classes n bodies reads found → NumberedFrom n 0 found.threads → fault_of whole ≡ None
      → first_unbuilt whole ≡ None
  nothing_unbuilt there numbered h =
      let misplaced = misplaced_in whole in
      let others = in_methods whole.names functions (class_names whole.classes) (bodies_from 0 whole.bodies) top_level_method whole.functions in
      let main = broken whole.names functions (class_names whole.classes) top_level (events_in (bodies_from 0 whole.bodies) [] whole.main) in
      let of_classes = in_classes whole.names functions (class_names whole.classes) (bodies_from 0 whole.bodies) whole.classes in
      let none : misplaced ≡ [] = left_empty misplaced _ (no_faults (faults whole) h) in
      let behind : others ++ main ≡ [] = right_empty of_classes (others ++ main) none in
      let class_texts = each_empty (λ (c : Class). in_methods whole.names functions (class_names whole.classes) (bodies_from 0 whole.bodies) (method_of (names_of c.methods)) c.methods)
      (class_by n) found.classes (left_empty of_classes (others ++ main) none) in
      let bare = there (known found.threads 0 numbered refl)
      (each_map _ (FineClass whole.names functions whole.classes n bodies reads)
      (λ (c : ClassTree) e. methods_fine (method_of (names_of (class_by n c).methods)) c.members.methods e) found.classes class_texts)
      (methods_fine top_level_method found.functions (left_empty others main behind))
      (all_fine whole.names functions whole.classes n bodies reads 0 found.main
      (all_found whole.names functions (class_names whole.classes) top_level (events_in (bodies_from 0 whole.bodies) [] whole.main) (right_empty others main behind))) in
      both_none
      (each_none (λ (k : Class). found_in_methods whole.names whole.classes k.methods) (class_by n) found.classes
      (each_map (BareClass whole.names functions whole.classes n bodies reads) _
      (λ (c : ClassTree) e. each_none (λ (m : Method). found_in_all whole.names whole.classes m.body) (method_by n) c.members.methods e) found.classes bare.in_classes))
      (both_none
      (each_none (λ (m : Method). found_in_all whole.names whole.classes m.body) (method_by n) found.functions bare.in_functions)
      (both_none
      (each_none (found_in whole.names whole.classes) (λ (a : Tree). a.node n) found.main bare.in_main)
      (each_none (found_in_block whole.names whole.classes) (λ (t : Thread). t.block n) found.threads bare.in_threads)))

-- where no two blocks of threads stand at one place
pub apart_has_all : (limit levels : ℕ) (tokens : List Token) (found : Items) → Distinct (blocks_of found.threads) → IsScript limit levels tokens found
    → fault_of (program_of found) ≡ None → first_unbuilt (program_of found) ≡ None
apart_has_all limit levels tokens found apart script h =
    let n = reading_numbering found in
    let same : program_of found ≡ program_by found n = same_program found (limit + 2) (script_faithful limit levels tokens found script) in
    let there = script_has _ _ _
    (there_is_kept (whole found n (reads found)).names (functions found n (reads found)) (whole found n (reads found)).classes n (bodies found n (reads found)) (reads found))
    limit levels tokens found script in
    ap first_unbuilt same
    ∙ nothing_unbuilt found n (reads found) there
    (numbered_alike (numbering_of found) n (λ at. refl) 0 found.threads (bodies_numbered found apart))
    (sym (ap fault_of same) ∙ h)
