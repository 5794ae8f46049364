-- A program whose locals are known where they are read, whose threads are started once, and in which nothing is missing, has code.
use Rattle.std.proofs.Common.{◌≡◌, ◌∙◌, refl, ap, sym, subst, inl, inr, ℕ, suc, ◌<◌, Bool, true, false, List, [], ◌∷◌, ◌++◌, drop, Option, Some, None, map}
use Rattle.std.specs.Prelude.{◌||◌}
use Rattle.std.specs.List.{flat_map, list_all, list_any}
use Rattle.std.proofs.lemmas.Bool.{false≢true}
use Rattle.rb_tree.specs.declared.span.Span.{Span}
use Rattle.rb_tree.specs.declared.span.NameId.{NameId}
use Rattle.rb_tree.specs.declared.node.Node.{Node}
use Rattle.rb_tree.specs.declared.node.Param.{Param}
use Rattle.rb_tree.specs.declared.node.Block.{Block, out-Block}
use Rattle.rb_tree.specs.declared.node.Program.{Program}
use Rattle.rb_tree.specs.declared.node.Class.{Class}
use Rattle.rb_tree.specs.declared.node.Method.{Method}
use Rattle.rb_checker.specs.declared.event.Event.{Event}
use Rattle.rb_checker.specs.declared.event.Sight.{Sight}
use Rattle.rb_checker.specs.declared.event.Sight.TheVariants as sight
use Rattle.rb_checker.specs.declared.event.Around.TheVariants as around
use Rattle.rb_checker.specs.declared.locals.Local.{Local}
use Rattle.rb_checker.specs.Around.{Open, placed}
use Rattle.rb_checker.specs.Check.{method_events, texts}
use Rattle.rb_checker.specs.Events.{Part, params_of, block_part, events_of_all, events_in, bodies_from}
use Rattle.rb_checker.specs.Locals.{Use, same_local, scopes_of, uses_in}
use Rattle.rb_checker.specs.Scoped.{made_by, made_in, names_in}
use Rattle.rb_checker.specs.Settled.{within}
use Rattle.rb_checker.specs.Captured.{handed, captured_by, captured_in, captured_at, frame_at, if_started, start_of, captured_names, thread_names}
use Rattle.rb_checker.proofs.Parts as part
use Rattle.rb_grammar.specs.Faithful.{Each}
use Rattle.rb_grammar.proofs.Each.{each_append}
use Rattle.rb_accepted.specs.Unbuilt.{Found, earlier, found_in_all, found_in_block, found_in_methods, found_in_classes, found_in_bodies, first_unbuilt}
use Rattle.rb_accepted.specs.Coded.{is_seen, are_seen, has_code_in, method_has_code, member_has_code, class_has_code, bodies_have_code, has_code}
use Rattle.rb_accepted.proofs.Bodies.{left_behind}
use Rattle.rb_accepted.proofs.Layers as layer
use Rattle.rb_accepted.proofs.Wording as word
use Rattle.rb_accepted.proofs.Seen.{IsSeen, ReadsAreKnown, starts_in, numbers_of, all_worded, has_word, block_is_worded}
use Rattle.rb_accepted.proofs.Framed.{Shape, spelled, started, IsRight, IsGood, Makes, frame, both_true}
use Rattle.rb_accepted.proofs.Coding.{parts_none, body_makes}
use Rattle.rb_accepted.proofs.Segments.{In, in_left, in_right, each_in, Balanced, Begun, begun_by, begun_one, begun_in, Threaded, ThreadsHold, BodiesHold, balanced_shape, threads_shape, bodies_shape, good_shape}
use Rattle.rb_accepted.proofs.Seeing.{own_local, any_in, all_in, in_flat, flat_in, named, names_of, IsMade, IsCaptured, own_seen, frame_seen, handed_there}
use Rattle.rb_accepted.proofs.Using.{IsFine, IsUsed, Speaks, text_used}
use Rattle.rb_accepted.proofs.Starting.{in_map, same_start, start_known, is_started}
use Rattle.rb_accepted.proofs.EachBody.{none_in, all_there, in_drop, get_drop, drop_within, numbers_started, IsShaped, body_spelled, every_body}

-- ---- lists

-- what holds of all elements, one by one
each_from : {A : Type 0} (P : A → Type 0) (xs : List A) → ((x : A) → In x xs → P x) → Each P xs
each_from P [] h = tt
each_from P (x ∷ xs) h = (h x (inl refl), each_from P xs (λ y i. h y (inr i)))

any_there : {A : Type 0} (f : A → Bool) (xs : List A) → list_any f xs ≡ true → (x : A) × (In x xs × (f x ≡ true))
any_there f [] h = absurd (false≢true h)
any_there f (x ∷ xs) h = by (f x) refl h (any_there f xs)
  where
    by : (b : Bool) → f x ≡ b → (b || list_any f xs) ≡ true → (list_any f xs ≡ true → (y : _) × (In y xs × (f y ≡ true))) → (y : _) × (In y (x ∷ xs) × (f y ≡ true))
    by true e k rest = (x, (inl refl, e))
    by false e k rest = let r = rest k in (r.0, (inr r.1.0, r.1.1))

each_flat : {A B : Type 0} (P : B → Type 0) (f : A → List B) (xs : List A) → ((x : A) → In x xs → Each P (f x)) → Each P (flat_map f xs)
each_flat P f [] h = tt
each_flat P f (x ∷ xs) h = each_append P (f x) (flat_map f xs) (h x (inl refl)) (each_flat P f xs (λ y i. h y (inr i)))

each_mapped : {A B : Type 0} (P : B → Type 0) (f : A → B) (xs : List A) → ((x : A) → In x xs → P (f x)) → Each P (map f xs)
each_mapped P f [] h = tt
each_mapped P f (x ∷ xs) h = (h x (inl refl), each_mapped P f xs (λ y i. h y (inr i)))

-- what one of several lists of uses makes, all make
made_in_all : (all : List (List Event)) (es : List Event) (l : Local) → In es all → IsMade (uses_in es) l → IsMade (flat_map uses_in all) l
made_in_all all es l i h =
    let one = any_there (same_local l) (made_in (uses_in es)) h in
    let by_use = flat_in made_by (uses_in es) one.0 one.1.0 in
    any_in (same_local l) (made_in (flat_map uses_in all)) one.0
    (in_flat made_by (flat_map uses_in all) by_use.0 one.0 (in_flat uses_in all es by_use.0 i by_use.1.0) by_use.1.1) one.1.1

-- what a use hands to threads is captured
captured_in_all : (uses : List Use) (u : Use) → In u uses → Each (IsCaptured uses) (captured_by u)
captured_in_all uses u i =
    each_from (IsCaptured uses) (captured_by u) (λ l j. any_in (same_local l) (captured_in uses) l (in_flat captured_by uses u l i j) (own_local l))

module _ (program : Program) where
  abbrev bodies : ℕ → List Event
  bodies = bodies_from 0 program.bodies

  abbrev all_uses : List Use
  all_uses = flat_map uses_in (texts program)

  -- the names of the scope of a text itself
  abbrev own_of : List Event → List NameId
  own_of es = names_in (uses_in es) None

  abbrev starts_of : List Event → List Begun
  starts_of es = begun_in (placed [] es)

  -- what is good in a text
  abbrev GoodAt : List Event → Open → Event → Type 0
  GoodAt es round e = IsGood (captured_names program) all_uses (own_of es) round e.sight

  abbrev IsGoodText : List Event → Type 0
  IsGoodText es = Each (λ (p : Open × Event). GoodAt es p.0 p.1) (placed [] es)

  pub record HasShape (es : List Event) : Type 0 where
    pub shape : Shape
    pub right : IsRight shape
    pub events : es ≡ spelled bodies shape

  -- what is found in parts of the program that is not built
  abbrev functions_found : Found
  functions_found = found_in_methods program.names program.classes program.functions

  abbrev main_found : Found
  main_found = found_in_all program.names program.classes program.main

  abbrev bodies_found : Found
  bodies_found = found_in_bodies program.names program.classes program.bodies

  module _ (seen : IsSeen program) (none : first_unbuilt program ≡ None) where
    -- ---- nothing is missing in any part

    -- statements in which nothing is missing
    abbrev Fits : List Node → Type 0
    Fits body = (found_in_all program.names program.classes body ≡ None) × (all_worded program.names body ≡ true)

    in_classes : found_in_classes program.names program.classes program.classes ≡ None
    in_classes = (parts_none (found_in_classes program.names program.classes program.classes) (earlier functions_found (earlier main_found bodies_found)) none).0

    behind_classes : earlier functions_found (earlier main_found bodies_found) ≡ None
    behind_classes = (parts_none (found_in_classes program.names program.classes program.classes) (earlier functions_found (earlier main_found bodies_found)) none).1

    in_functions : functions_found ≡ None
    in_functions = (parts_none functions_found (earlier main_found bodies_found) behind_classes).0

    behind_functions : earlier main_found bodies_found ≡ None
    behind_functions = (parts_none functions_found (earlier main_found bodies_found) behind_classes).1

    in_main : main_found ≡ None
    in_main = (parts_none main_found bodies_found behind_functions).0

    in_bodies : bodies_found ≡ None
    in_bodies = (parts_none main_found bodies_found behind_functions).1

    -- those of methods, of the top level and of the bodies of threads
    member_fits : (k : Class) (m : Method) → In k program.classes → In m k.methods → Fits m.body
    member_fits k m i j = (
      none_in (λ (n : Method). found_in_all program.names program.classes n.body) k.methods
          (none_in (λ (c : Class). found_in_methods program.names program.classes c.methods) program.classes in_classes k i) m j,
      all_there (λ (n : Method). all_worded program.names n.body) k.methods
          (each_in (λ (c : Class). list_all (λ (n : Method). all_worded program.names n.body) c.methods ≡ true) program.classes k seen.in_classes i) m j,
    )

    function_fits : (m : Method) → In m program.functions → Fits m.body
    function_fits m i = (
      none_in (λ (n : Method). found_in_all program.names program.classes n.body) program.functions in_functions m i,
      all_there (λ (n : Method). all_worded program.names n.body) program.functions seen.in_functions m i,
    )

    main_fits : Fits program.main
    main_fits = (in_main, seen.in_main)

    block_fits : (b : Block) → In b program.bodies → Fits (out-Block b).body
    block_fits b i = (
      sym (layer.block-body program.names program.classes b) ∙ none_in (found_in_block program.names program.classes) program.bodies in_bodies b i,
      sym (word.worded-block program.names b) ∙ all_there (block_is_worded program.names) program.bodies seen.in_bodies b i,
    )

    -- ---- the shapes of texts and of bodies

    abbrev MakesBody : List Param → List Node → Type 0
    MakesBody params body =
        Makes (captured_names program) all_uses (λ b. params_of params ++ events_of_all b body) (λ scope. has_code_in program scope body)

    -- statements behind parameters, with their shape
    makes_body : (params : List Param) (body : List Node) → Fits body → MakesBody params body
    makes_body params body f = body_makes program.names program.classes (captured_names program) all_uses params body f.0 f.1

    shape_of : (params : List Param) (body : List Node) → Fits body → HasShape (events_in bodies params body)
    shape_of params body f = let m = makes_body params body f in record { shape = m.shape; right = m.right; events = m.events bodies }

    -- each text has a shape
    shaped : Each HasShape (texts program)
    shaped =
        each_append HasShape (flat_map (λ (c : Class). map (method_events program) c.methods) program.classes)
        (map (method_events program) program.functions ++ events_in bodies [] program.main ∷ [])
        (each_flat HasShape (λ (c : Class). map (method_events program) c.methods) program.classes
        (λ k i. each_mapped HasShape (method_events program) k.methods (λ m j. shape_of m.params m.body (member_fits k m i j))))
        (each_append HasShape (map (method_events program) program.functions) (events_in bodies [] program.main ∷ [])
        (each_mapped HasShape (method_events program) program.functions (λ m j. shape_of m.params m.body (function_fits m j)))
        (shape_of [] program.main main_fits, tt))

    block_makes : (b : Block) → In b program.bodies → MakesBody (out-Block b).params (out-Block b).body
    block_makes b i = makes_body (out-Block b).params (out-Block b).body (block_fits b i)

    block_events : (b : Block) (i : In b program.bodies) (c : ℕ → List Event) → (block_part c b).events ≡ spelled c (block_makes b i).shape
    block_events b i c = ap (λ (p : Part). p.events) (part.block-parts c b) ∙ (block_makes b i).events c

    -- and so has each body, of which the threads have greater numbers
    shapes : (m : ℕ) (b : Block) (rest : List Block) → drop m program.bodies ≡ b ∷ rest → IsShaped program.bodies m b
    shapes m b rest e =
        let i = in_drop m program.bodies b rest e in
        let made = block_makes b i in
        record {
          shape = made.shape;
          right = made.right;
          events = block_events b i;
          above =
              numbers_started (λ n. m < n) made.shape made.right
              (subst (λ (es : List Event). Each (λ n. m < n) (numbers_of (starts_in es))) (block_events b i (λ n. [])) (seen.greater m b (get_drop m program.bodies b rest e)));
        }

    body_events : (k : ℕ) (b : Block) (rest : List Block) (e : drop k program.bodies ≡ b ∷ rest)
        → bodies k ≡ spelled bodies (block_makes b (in_drop k program.bodies b rest e)).shape
    unfolding shapes
    body_events k b rest e = body_spelled program.bodies k b rest e (shapes k b rest e)

    -- what is so of all bodies
    balanced : (m : ℕ) → Balanced (bodies m)
    balanced = every_body program.bodies Balanced (λ round. refl) (balanced_shape bodies) shapes

    threads_hold : (begun : List Begun) (m : ℕ) → ThreadsHold bodies begun (bodies m)
    threads_hold begun =
        every_body program.bodies (ThreadsHold bodies begun) (λ round t sub. tt) (λ t r h. threads_shape bodies begun t r balanced h) shapes

    bodies_hold : (P : Open → Event → Type 0) (m : ℕ) → BodiesHold bodies P (bodies m)
    bodies_hold P =
        every_body program.bodies (BodiesHold bodies P) (λ round good x i. absurd i) (λ t r h. bodies_shape bodies P t r balanced h) shapes

    -- ---- what is in scope

    -- each thread that stands round an event of a text is started there
    threads_known : (es : List Event) → In es (texts program) → Each (λ (p : Open × Event). Threaded (starts_of es) p.0) (placed [] es)
    threads_known es i =
        let s = each_in HasShape (texts program) es shaped i in
        let hold : ThreadsHold bodies (starts_of es) es =
        subst (ThreadsHold bodies (starts_of es)) (sym s.events)
        (threads_shape bodies (starts_of es) s.shape s.right balanced
        (each_from (λ n. ThreadsHold bodies (starts_of es) (bodies n)) (started s.shape) (λ n j. threads_hold (starts_of es) n))) in
        hold [] tt (λ x j. j)

    -- each event of a text that speaks of a local is a use of one that was made
    used : (es : List Event) → In es (texts program)
        → Each (λ (p : Open × Event). Speaks (uses_in es) (starts_of es) p.0 p.1.sight) (placed [] es) × Each (IsFine (uses_in es) (starts_of es)) (uses_in es)
    used es i = text_used es (starts_of es) (threads_known es i) (each_in (λ (events : List Event). ReadsAreKnown [] (placed [] events)) (texts program) es seen.reads i)

    fine : (es : List Event) (u : Use) → In es (texts program) → In u (uses_in es) → IsFine (uses_in es) (starts_of es) u
    fine es u i j = each_in (IsFine (uses_in es) (starts_of es)) (uses_in es) u (used es i).1 j

    -- the name of a local of a text, where its scope is seen and the threads between have it
    scope_has : (es : List Event) (u : Use) (round : Open) → In es (texts program) → IsMade (uses_in es) u.local
        → Each (IsCaptured all_uses) (handed u.local.name (within u.local.scope round)) → In u.local.scope (scopes_of round)
        → is_seen (named u.local.name) (frame all_uses (own_of es) round) ≡ true
    scope_has es u round i made captured there =
        frame_seen all_uses (own_of es) u.local.name u.local.scope round there
        (λ e. own_seen (uses_in es) u.local.name None (subst (λ (s : Option ℕ). IsMade (uses_in es) (record { name = u.local.name; scope = s })) e made))
        (made_in_all (texts program) es u.local i made) captured

    -- a use of a text
    use_seen : (es : List Event) (u : Use) → In es (texts program) → In u (uses_in es) → is_seen (named u.local.name) (frame all_uses (own_of es) u.round) ≡ true
    use_seen es u i j =
        let f = fine es u i j in
        scope_has es u u.round i f.made (captured_in_all all_uses u (in_flat uses_in (texts program) es u i j)) f.seen

    used_seen : (es : List Event) (name : ℕ) (round : Open) → In es (texts program) → IsUsed (uses_in es) (starts_of es) name round
        → is_seen (named name) (frame all_uses (own_of es) round) ≡ true
    used_seen es name round i u =
        subst (λ (r : Open). is_seen (named name) (frame all_uses (own_of es) r) ≡ true) u.stands
        (subst (λ (n : ℕ). is_seen (named n) (frame all_uses (own_of es) u.it.round) ≡ true) u.names (use_seen es u.it i u.found))

    -- what a use hands to a thread is in scope where that thread is started
    handed_seen : (es ds : List Event) (x : Begun) (u : Use) (l : Local) → In es (texts program) → In x (starts_of es) → In ds (texts program) → In u (uses_in ds)
        → l.scope ≡ Some x.at.from → In l (captured_by u) → is_seen (named l.name) (frame all_uses (own_of es) x.round) ≡ true
    handed_seen es ds x u l i j k h s c =
        let f = fine ds u k h in
        let t = handed_there all_uses (own_of es) u.local.name u.local.scope (starts_of ds) x.at.from l u.round s f.threads f.seen
        (captured_in_all all_uses u (in_flat uses_in (texts program) ds u k h)) c in
        let same = same_start (texts program) ds es t.1.it x seen.places k t.1.found i j t.1.stands in
        subst (λ (n : ℕ). is_seen (named n) (frame all_uses (own_of es) x.round) ≡ true) (sym t.0)
        (subst (λ (fs : List Event). is_seen (named u.local.name) (frame all_uses (own_of fs) x.round) ≡ true) same.0
        (subst (λ (y : Begun). is_seen (named u.local.name) (frame all_uses (own_of ds) y.round) ≡ true) same.1
        (scope_has ds u t.1.it.round k f.made t.1.captured t.1.seen)))

    -- the names that a thread captures
    start_seen : (es : List Event) (x : Begun) → In es (texts program) → In x (starts_of es)
        → are_seen (captured_names program x.number) (frame all_uses (own_of es) x.round) ≡ true
    start_seen es x i j =
        ap (λ (o : Option ℕ). are_seen (if_started (captured_at all_uses) o) (frame all_uses (own_of es) x.round)) (start_known (texts program) es x seen.numbers i j)
        ∙ all_in (λ (n : NameId). is_seen n (frame all_uses (own_of es) x.round)) (captured_at all_uses x.at.from) one
      where
        one : (n : NameId) → In n (captured_at all_uses x.at.from) → is_seen n (frame all_uses (own_of es) x.round) ≡ true
        one n k =
            let r = names_of [] (Some x.at.from) (captured_in all_uses) n k in
            let c = flat_in captured_by all_uses r.0 r.1.0 in
            let d = flat_in uses_in (texts program) c.0 c.1.0 in
            subst (λ (m : ℕ). is_seen (named m) (frame all_uses (own_of es) x.round) ≡ true) r.1.1.0
            (handed_seen es d.0 x c.0 r.0 i j d.1.0 d.1.1 r.1.1.1 c.1.1)

    -- each event of a text is good
    good_text : (es : List Event) → In es (texts program) → IsGoodText es
    good_text es i =
        each_from (λ (p : Open × Event). GoodAt es p.0 p.1) (placed [] es)
        (λ p j. one p.0 p.1.sight p.1.at (each_in (λ (q : Open × Event). Speaks (uses_in es) (starts_of es) q.0 q.1.sight) (placed [] es) p (used es i).0 j)
        (λ x k. in_flat begun_one (placed [] es) p x j k))
      where
        one : (round : Open) (s : Sight) (at : Span) → Speaks (uses_in es) (starts_of es) round s → ((x : Begun) → In x (begun_by round s at) → In x (starts_of es))
            → IsGood (captured_names program) all_uses (own_of es) round s
        one round (sight.Reads name) at u sub = used_seen es name.0 round i u
        one round (sight.Assigns name) at u sub = used_seen es name.0 round i u
        one round (sight.Starts body) at u sub = start_seen es (record { round = round; number = body; at = at }) i (sub (record { round = round; number = body; at = at }) (inl refl))
        one round other at u sub = tt

    -- ---- code

    -- the statements of a text
    text_code : (params : List Param) (body : List Node) → Fits body → In (events_in bodies params body) (texts program)
        → has_code_in program (own_of (events_in bodies params body)) body ≡ true
    text_code params body f i =
        let es = events_in bodies params body in
        let m = makes_body params body f in
        m.codes (own_of es) []
        (good_shape bodies (captured_names program) all_uses (own_of es) balanced m.shape m.right []
        (subst (λ (fs : List Event). Each (λ (p : Open × Event). GoodAt es p.0 p.1) (placed [] fs)) (m.events bodies) (good_text es i)))

    -- the body of a thread, in the text where it is started
    body_code : (k : ℕ) (b : Block) (rest : List Block) → drop k program.bodies ≡ b ∷ rest → has_code_in program (thread_names program k) (out-Block b).body ≡ true
    body_code k b rest e =
        let s = is_started (texts program) k (seen.started k (drop_within k program.bodies b rest e)) in
        let t = each_in HasShape (texts program) s.text shaped s.here in
        let hold : BodiesHold bodies (GoodAt s.text) s.text =
        subst (BodiesHold bodies (GoodAt s.text)) (sym t.events)
        (bodies_shape bodies (GoodAt s.text) t.shape t.right balanced
        (each_from (λ n. BodiesHold bodies (GoodAt s.text) (bodies n)) (started t.shape) (λ n j. bodies_hold (GoodAt s.text) n))) in
        let round : Open = (around.Thread, s.it.at) ∷ s.it.round in
        let m = block_makes b (in_drop k program.bodies b rest e) in
        let same : bodies s.it.number ≡ spelled bodies m.shape = ap bodies s.same ∙ body_events k b rest e in
        let good = subst (λ (fs : List Event). Each (λ (p : Open × Event). GoodAt s.text p.0 p.1) (placed round fs)) same (hold [] (good_text s.text s.here) s.it s.found) in
        let start : start_of program k ≡ Some s.it.at.from = ap (start_of program) (sym s.same) ∙ start_known (texts program) s.text s.it seen.numbers s.here s.found in
        ap (λ (o : Option ℕ). has_code_in program (if_started (frame_at all_uses) o) (out-Block b).body) start
        ∙ m.codes (own_of s.text) round (good_shape bodies (captured_names program) all_uses (own_of s.text) balanced m.shape m.right round good)

    -- all bodies, all methods, and the program
    bodies_code : (bs : List Block) (k : ℕ) → drop k program.bodies ≡ bs → bodies_have_code program k bs ≡ true
    bodies_code [] k e = refl
    bodies_code (b ∷ rest) k e = both_true (body_code k b rest e) (bodies_code rest (suc k) (left_behind program.bodies k b rest e))

    class_code : (k : Class) → In k program.classes → class_has_code program k ≡ true
    class_code k i =
        all_in (member_has_code program) k.methods
        (λ m j. both_true (all_there (has_word program.names) k.methods (each_in (λ (c : Class). list_all (has_word program.names) c.methods ≡ true) program.classes k seen.members i) m j)
        (text_code m.params m.body (member_fits k m i j)
        (in_left (method_events program m) (flat_map (λ (c : Class). map (method_events program) c.methods) program.classes) _
        (in_flat (λ (c : Class). map (method_events program) c.methods) program.classes k (method_events program m) i (in_map (method_events program) k.methods m j)))))

    function_code : (m : Method) → In m program.functions → method_has_code program m ≡ true
    function_code m j =
        text_code m.params m.body (function_fits m j)
        (in_right (method_events program m) (flat_map (λ (c : Class). map (method_events program) c.methods) program.classes) _
        (in_left (method_events program m) (map (method_events program) program.functions) _ (in_map (method_events program) program.functions m j)))

    main_code : has_code_in program (own_of (events_in bodies [] program.main)) program.main ≡ true
    main_code =
        text_code [] program.main main_fits
        (in_right (events_in bodies [] program.main) (flat_map (λ (c : Class). map (method_events program) c.methods) program.classes) _
        (in_right (events_in bodies [] program.main) (map (method_events program) program.functions) _ (inl refl)))

    all_code : has_code program ≡ true
    all_code =
        both_true (all_in (class_has_code program) program.classes class_code)
        (both_true (all_in (method_has_code program) program.functions function_code) (both_true main_code (bodies_code program.bodies 0 refl)))

-- such a program has code
pub seen_has_code : (program : Program) → IsSeen program → first_unbuilt program ≡ None → has_code program ≡ true
seen_has_code program seen none = all_code program seen none
