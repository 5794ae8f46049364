-- In a script that ordered tokens spell, each local that is read is known, and no two threads start at one place.
use Rattle.std.proofs.Common.{◌≡◌, refl, ap, sym, subst, ◌∙◌, ℕ, ◌+◌, ◌≤◌, Bool, true, false, List, [], ◌∷◌, ◌++◌, map, append_assoc, None, arith}
use Rattle.std.specs.Prelude.{codes, if◌then◌else◌}
use Rattle.std.specs.List.{flat_map}
use Rattle.std.specs.Str.{bytes_eq}
use Rattle.std.proofs.lemmas.Grind.{flat_map-append}
use Rattle.rb_tree.specs.declared.node.Node.TheVariants as node
use Rattle.rb_tree.specs.declared.node.Node.{out-Node}
use Rattle.rb_tree.specs.Place.{place}
use Rattle.rb_tree.proofs.Numbering.{map-append}
use Rattle.rb_grammar.specs.Tree.{Text, Word, Numbering, Thread, Tree, MethodTree, ClassTree, Members, Items, nodes, threads_of, params_by}
use Rattle.rb_grammar.specs.Tree as tree
use Rattle.rb_grammar.specs.Scope.{enter_method, leave}
use Rattle.rb_grammar.specs.Faithful.{Each}
use Rattle.rb_grammar.proofs.Each.{each_append}
use Rattle.rb_grammar.proofs.Placed as placing
use Rattle.rb_checker.specs.declared.event.Sight.TheVariants as sight
use Rattle.rb_checker.specs.Around.{placed}
use Rattle.rb_checker.specs.Events.{events_of, events_of_all, events_in, alone}
use Rattle.rb_checker.proofs.AllMade.{Events}
use Rattle.rb_checker.proofs.Parts as part
use Rattle.rb_accepted.proofs.Seen.{ReadsAreKnown}
use Rattle.rb_accepted.proofs.Walked.{Point, changed, On, Within, stay, MethodIn, IsWalked}
use Rattle.rb_accepted.proofs.Heard.{leave_emptied, found_new, Heard, heard_both}
use Rattle.rb_accepted.proofs.Runs.{starting, starting_append, past, Run, run_none, run_both, run_field, run_global, run_self, run_returns, run_leaves, run_reads}
use Rattle.rb_accepted.proofs.Told.{KnownFrom, known_left, known_right, Told, told, told_mono, told_wider, body_run, call_told, member_told, binary_told, minus_told}
use Rattle.rb_accepted.proofs.Told.{block_call_told, new_told, thread_told, negated_told, and_told, or_told, return_value_told, string_told, array_told, hash_told}
use Rattle.rb_accepted.proofs.Told.{choice_told, loop_told, choice_behind_told, loop_behind_told, assigned_told, operated_told}

-- texts one behind the other
abbrev pub joined : List Events → Events
joined ts = flat_map (λ (es : Events). es) ts

pub joined_append : (p : ℕ) (xs ys : List Events) → starting p (joined (xs ++ ys)) ≡ starting p (joined xs) + starting p (joined ys)
joined_append p [] ys = omega arith
joined_append p (x ∷ xs) ys =
    omega (arith, starting_append p x (joined (xs ++ ys)), starting_append p x (joined xs), joined_append p xs ys)

module _ (n : Numbering) (bodies : ℕ → ℕ → Events) where
  abbrev pub method_text : MethodTree → Events
  method_text f = events_in (bodies 0) (params_by n f.params) (nodes n f.body)

  abbrev pub Readable : MethodTree → Type 0
  Readable f = ReadsAreKnown [] (placed [] (method_text f))

  abbrev pub AllReadable : ClassTree → Type 0
  AllReadable c = Each Readable c.members.methods

  abbrev pub texts_of : List MethodTree → List Events
  texts_of fs = map method_text fs

  abbrev pub class_texts : List ClassTree → List Events
  class_texts cs = flat_map (λ (c : ClassTree). texts_of c.members.methods) cs

  abbrev pub main_text : List Tree → Events
  main_text xs = events_of_all (bodies 0) (nodes n xs)

  texts_append : (p : ℕ) (fs gs : List MethodTree) → starting p (joined (texts_of (fs ++ gs)))
      ≡ starting p (joined (texts_of fs)) + starting p (joined (texts_of gs))
  texts_append p fs gs = ap (λ ts. starting p (joined ts)) (map-append method_text fs gs) ∙ joined_append p (texts_of fs) (texts_of gs)

  -- ---- methods

  -- the text of one method, from a point to another in the same scopes
  pub record MethodHeard (x : Point) (f : MethodTree) (y : Point) : Type 0 where
    pub same : x.scopes ≡ y.scopes
    pub readable : Readable f
    pub places : (p : ℕ) → starting p (method_text f) + past y.from p ≤ past x.from p

  method_heard : (x y : Point) (f : MethodTree) → MethodIn (Told n bodies) x f y → KnownFrom n bodies 0 (threads_of f.body) → MethodHeard x f y
  method_heard x y f g r =
      let inside = changed enter_method x in
      let last = g.1.last in
      let on : last.from ≤ y.from = g.1.on in
      let run : Run n.name inside (method_text f) last = body_run n bodies inside y f.params f.body f.name.at g.1 0 r in
      let heard = run.runs [] [] tt in
      record {
        same = ap leave run.rest ∙ leave_emptied last.scopes ∙ g.1.left;
        readable = heard.reads;
        places = λ p. omega (arith, run.places p);
      }

  pub record MembersHeard (x : Point) (m : Members) (y : Point) : Type 0 where
    pub same : x.scopes ≡ y.scopes
    pub readable : Each Readable m.methods
    pub places : (p : ℕ) → starting p (joined (texts_of m.methods)) + past y.from p ≤ past x.from p

  abbrev pub MembersTold : Point → Members → Point → Type 0
  MembersTold x m y = KnownFrom n bodies 0 m.threads → MembersHeard x m y

  members_on : (x y z : Point) (m : Members) → MembersTold x m y → On y z → MembersTold x m z
  members_on x y z m g h = λ r.
      let heard = g r in
      let on : y.from ≤ z.from = h.1 in
      record { same = heard.same ∙ h.0; readable = heard.readable; places = λ p. omega (arith, heard.places p) }

  no_members_told : (x y : Point) → On x y → MembersTold x tree.no_members y
  no_members_told x y h = λ r.
      let on : x.from ≤ y.from = h.1 in
      record { same = h.0; readable = tt; places = λ p. omega arith }

  with_method_told : (x y z : Point) (m : Members) (f : MethodTree) → MembersTold x m y → MethodIn (Told n bodies) y f z → MembersTold x (tree.with_method m f) z
  with_method_told x y z m f g h = λ r.
      let before = g (known_left n bodies 0 m.threads (threads_of f.body) r) in
      let own = method_heard y z f h (known_right n bodies 0 m.threads (threads_of f.body) r) in
      record {
        same = before.same ∙ own.same;
        readable = each_append Readable m.methods (f ∷ []) before.readable (own.readable, tt);
        places = λ p. omega (arith, texts_append p m.methods (f ∷ []), starting_append p (method_text f) [], before.places p, own.places p);
      }

  -- methods that start no thread
  abbrev Plain : MethodTree → Type 0
  Plain f = Readable f × ((p : ℕ) → starting p (method_text f) ≡ 0)

  plain_by : (f : MethodTree) (es : Events) → method_text f ≡ es → ReadsAreKnown [] (placed [] es) → ((p : ℕ) → starting p es ≡ 0) → Plain f
  plain_by f es e h k = (subst (λ fs. ReadsAreKnown [] (placed [] fs)) (sym e) h, λ p. ap (starting p) e ∙ k p)

  reader_plain : (w : Word) → Plain (tree.reader_of w)
  reader_plain w =
      plain_by (tree.reader_of w) (alone (sight.Field (n.name (tree.field_of w.text))) w.at ++ [])
      (ap (λ es. es ++ []) (part.events-field (bodies 0) (n.name (tree.field_of w.text)) w.at)) (tt, tt) (λ p. refl)

  writer_plain : (w : Word) → Plain (tree.writer_of w)
  writer_plain w =
      let v = n.name (codes "v") in
      plain_by (tree.writer_of w) (alone (sight.Param v) w.at ++ (alone (sight.Field (n.name (tree.field_of w.text))) w.at ++ (alone (sight.Reads v) w.at ++ [])))
      (ap (λ es. alone (sight.Param v) w.at ++ (es ++ []))
      (part.events-set_field (bodies 0) (n.name (tree.field_of w.text)) (node.Local v w.at) w.at
      ∙ ap (λ es. alone (sight.Field (n.name (tree.field_of w.text))) w.at ++ es) (part.events-local (bodies 0) v w.at)))
      (tt, (tt, (found_new [] v None [], tt))) (λ p. refl)

  attributes_plain : (reads writes : Bool) (w : Word)
      → Each Plain (if reads then tree.reader_of w ∷ [] else if writes then tree.writer_of w ∷ [] else tree.reader_of w ∷ tree.writer_of w ∷ [])
  attributes_plain true writes w = (reader_plain w, tt)
  attributes_plain false true w = (writer_plain w, tt)
  attributes_plain false false w = (reader_plain w, (writer_plain w, tt))

  plain_readable : (fs : List MethodTree) → Each Plain fs → Each Readable fs
  plain_readable [] h = tt
  plain_readable (f ∷ fs) h = (h.0.0, plain_readable fs h.1)

  plain_starting : (p : ℕ) (fs : List MethodTree) → Each Plain fs → starting p (joined (texts_of fs)) ≡ 0
  plain_starting p [] h = refl
  plain_starting p (f ∷ fs) h = omega (arith, starting_append p (method_text f) (joined (texts_of fs)), h.0.1 p, plain_starting p fs h.1)

  with_attributes_told : (x y : Point) (m : Members) (kind : Text) (ws : List Word) → MembersTold x m y → MembersTold x (tree.with_attributes m kind ws) y
  with_attributes_told x y m kind [] g = g
  with_attributes_told x y m kind (w ∷ ws) g =
      with_attributes_told x y
      (record { methods = m.methods ++ tree.attribute_methods kind w; names = m.names ++ tree.attribute_names kind w; threads = m.threads }) kind ws
      (λ r.
      let before = g r in
      let own : Each Plain (tree.attribute_methods kind w) = attributes_plain (bytes_eq kind (codes "attr_reader")) (bytes_eq kind (codes "attr_writer")) w in
      record {
        same = before.same;
        readable = each_append Readable m.methods (tree.attribute_methods kind w) before.readable (plain_readable (tree.attribute_methods kind w) own);
        places = λ p.
            omega (arith, texts_append p m.methods (tree.attribute_methods kind w), plain_starting p (tree.attribute_methods kind w) own, before.places p);
      })

  -- ---- items

  pub record ItemsHeard (i : Items) (y : Point) : Type 0 where
    pub main : Heard n.name [] [] (main_text i.main) y.scopes []
    pub functions : Each Readable i.functions
    pub classes : Each AllReadable i.classes
    pub places : (p : ℕ)
        → (starting p (joined (class_texts i.classes)) + (starting p (joined (texts_of i.functions)) + starting p (main_text i.main))) + past y.from p ≤ past 0 p

  abbrev pub ItemsTold : Items → Point → Type 0
  ItemsTold i y = KnownFrom n bodies 0 i.threads → ItemsHeard i y

  items_on : (x y : Point) (i : Items) → ItemsTold i x → On x y → ItemsTold i y
  items_on x y i g h = λ r.
      let heard = g r in
      let on : x.from ≤ y.from = h.1 in
      record {
        main = subst (λ s. Heard n.name [] [] (main_text i.main) s []) h.0 heard.main;
        functions = heard.functions;
        classes = heard.classes;
        places = λ p. omega (arith, heard.places p);
      }

  with_class_told : (x y : Point) (i : Items) (c : ClassTree) → ItemsTold i x → MembersTold x c.members y → ItemsTold (tree.with_class i c) y
  with_class_told x y i c g h = λ r.
      let before = g (known_left n bodies 0 i.threads c.members.threads r) in
      let own = h (known_right n bodies 0 i.threads c.members.threads r) in
      let split = λ (p : ℕ).
      ap (λ ts. starting p (joined ts)) (flat_map-append (λ (k : ClassTree). texts_of k.members.methods) i.classes (c ∷ []))
      ∙ joined_append p (class_texts i.classes) (class_texts (c ∷ [])) in
      let last = λ (p : ℕ). joined_append p (texts_of c.members.methods) [] in
      record {
        main = subst (λ s. Heard n.name [] [] (main_text i.main) s []) own.same before.main;
        functions = before.functions;
        classes = each_append AllReadable i.classes (c ∷ []) before.classes (own.readable, tt);
        places = λ p. omega (arith, split p, last p, before.places p, own.places p);
      }

  with_function_told : (x y : Point) (i : Items) (f : MethodTree) → ItemsTold i x → MethodIn (Told n bodies) x f y → ItemsTold (tree.with_function i f) y
  with_function_told x y i f g h = λ r.
      let before = g (known_left n bodies 0 i.threads (threads_of f.body) r) in
      let own = method_heard x y f h (known_right n bodies 0 i.threads (threads_of f.body) r) in
      record {
        main = subst (λ s. Heard n.name [] [] (main_text i.main) s []) own.same before.main;
        functions = each_append Readable i.functions (f ∷ []) before.functions (own.readable, tt);
        classes = before.classes;
        places = λ p. omega (arith, texts_append p i.functions (f ∷ []), starting_append p (method_text f) [], before.places p, own.places p);
      }

  main_split : (xs : List Tree) (a : Tree) → main_text (xs ++ a ∷ []) ≡ main_text xs ++ (events_of (bodies 0) (a.node n) ++ [])
  main_split [] a = refl
  main_split (x ∷ xs) a =
      ap (λ es. events_of (bodies 0) (x.node n) ++ es) (main_split xs a)
      ∙ sym (append_assoc (events_of (bodies 0) (x.node n)) (main_text xs) (events_of (bodies 0) (a.node n) ++ []))

  with_statement_told : (x y : Point) (i : Items) (a : Tree) → ItemsTold i x → Told n bodies x a y → ItemsTold (tree.with_statement i a) y
  with_statement_told x y i a g h = λ r.
      let before = g (known_left n bodies 0 i.threads a.threads r) in
      let own = run_both n.name x y y (events_of (bodies 0) (a.node n)) [] (h.tells 0 (known_right n bodies 0 i.threads a.threads r))
      (run_none n.name y y (stay y)) in
      let parts = main_split i.main a in
      record {
        main = subst (λ es. Heard n.name [] [] es y.scopes []) (sym parts)
            (heard_both n.name [] [] [] [] (main_text i.main) (events_of (bodies 0) (a.node n) ++ []) x.scopes y.scopes before.main (λ sees. own.runs _ [] sees));
        functions = before.functions;
        classes = before.classes;
        places = λ p.
            omega (arith, ap (starting p) parts, starting_append p (main_text i.main) (events_of (bodies 0) (a.node n) ++ []), before.places p, own.places p);
      }

  -- ---- leaves

  leaf_told : (x y : Point) (a : Tree) (es : Events) → Within x a.at y → a.threads ≡ [] → place (out-Node (a.node n)) ≡ a.at
      → ((k : ℕ) → events_of (bodies k) (a.node n) ≡ es) → Run n.name x es y → Told n bodies x a y
  leaf_told x y a es within none e is run = told n bodies x y a within e (λ k r. (es, (is k, run)))

  -- each making carries on what is told
  pub told_is_walked : IsWalked (Told n bodies) MembersTold ItemsTold
  told_is_walked = record {
    mono = told_mono n bodies;
    wider = told_wider n bodies;
    of_local = λ x y w is on within.
        leaf_told x y (tree.local w) (alone (sight.Reads (n.name w.text)) w.at) within refl (placing.place-local (n.name w.text) w.at)
        (λ k. part.events-local (bodies k) (n.name w.text) w.at) (run_reads n.name x y w.text w.at is on);
    of_field = λ x y w on within.
        leaf_told x y (tree.field w) (alone (sight.Field (n.name w.text)) w.at) within refl (placing.place-field (n.name w.text) w.at)
        (λ k. part.events-field (bodies k) (n.name w.text) w.at) (run_field n.name x y (n.name w.text) w.at on);
    of_global = λ x y w on within.
        leaf_told x y (tree.global w) (alone (sight.Global (n.name w.text)) w.at) within refl (placing.place-global (n.name w.text) w.at)
        (λ k. part.events-global (bodies k) (n.name w.text) w.at) (run_global n.name x y (n.name w.text) w.at on);
    of_symbol = λ x y w on within.
        leaf_told x y (tree.symbol w) [] within refl (placing.place-sym (n.name w.text) w.at)
        (λ k. part.events-sym (bodies k) (n.name w.text) w.at) (run_none n.name x y on);
    of_integer = λ x y value at on within.
        leaf_told x y (tree.integer value at) [] within refl (placing.place-int value at) (λ k. part.events-int (bodies k) value at) (run_none n.name x y on);
    of_nil = λ x y at on within.
        leaf_told x y (tree.constant node.Nil at) [] within refl (placing.place-nil at) (λ k. part.events-nil (bodies k) at) (run_none n.name x y on);
    of_true = λ x y at on within.
        leaf_told x y (tree.constant node.True at) [] within refl (placing.place-true at) (λ k. part.events-true (bodies k) at) (run_none n.name x y on);
    of_false = λ x y at on within.
        leaf_told x y (tree.constant node.False at) [] within refl (placing.place-false at) (λ k. part.events-false (bodies k) at) (run_none n.name x y on);
    of_self = λ x y at on within.
        leaf_told x y (tree.constant node.SelfRef at) (alone sight.SelfRef at) within refl (placing.place-self at)
        (λ k. part.events-self_ref (bodies k) at) (run_self n.name x y at on);
    of_break = λ x y at on within.
        leaf_told x y (tree.constant node.Break at) (alone sight.Leaves at) within refl (placing.place-break at)
        (λ k. part.events-break (bodies k) at) (run_leaves n.name x y at on);
    of_next = λ x y at on within.
        leaf_told x y (tree.constant node.Next at) (alone sight.Leaves at) within refl (placing.place-next at)
        (λ k. part.events-next (bodies k) at) (run_leaves n.name x y at on);
    of_return = λ x y at on within.
        leaf_told x y (tree.return_nothing at) (alone sight.Returns at ++ []) within refl (placing.place-return None at)
        (λ k. part.events-return (bodies k) None at) (run_returns n.name x y at on);
    of_return_value = return_value_told n bodies;
    of_call = call_told n bodies;
    of_member = member_told n bodies;
    of_block_call = block_call_told n bodies;
    of_binary = binary_told n bodies;
    of_negated = negated_told n bodies;
    of_minus = minus_told n bodies;
    of_and = and_told n bodies;
    of_or = or_told n bodies;
    of_new = new_told n bodies;
    of_thread = thread_told n bodies;
    of_string = string_told n bodies;
    of_array = array_told n bodies;
    of_hash = hash_told n bodies;
    of_choice = choice_told n bodies;
    of_loop = loop_told n bodies;
    of_choice_behind = choice_behind_told n bodies;
    of_loop_behind = loop_behind_told n bodies;
    of_assigned = assigned_told n bodies;
    of_operated = operated_told n bodies;
    members_on = members_on;
    no_members = no_members_told;
    with_method = with_method_told;
    with_attributes = λ x y m kind ws g h. with_attributes_told x y m kind ws g;
    items_on = items_on;
    no_items = λ r. record { main = record { back = refl; reads = tt; sees = tt }; functions = tt; classes = tt; places = λ p. omega arith };
    with_class = with_class_told;
    with_function = with_function_told;
    with_statement = with_statement_told;
  }
