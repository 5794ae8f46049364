-- Of the program that ordered tokens spell: all that is seen of it.
use Rattle.std.proofs.Common.{◌≡◌, ◌≢◌, refl, ap, subst, ◌∙◌, ℕ, zero, suc, ◌+◌, ◌≤◌, ◌<◌, Bool, true, false, ◌||◌, List, [], ◌∷◌, ◌++◌, map, length, Some, arith}
use Rattle.std.specs.Prelude.{◌&&◌, nat_eq, nat_lt, slice_get}
use Rattle.std.specs.List.{flat_map, list_all, list_any}
use Rattle.std.proofs.lemmas.Bool.Decides.{nat_tests}
use Rattle.std.proofs.lemmas.Bool.{or_left, or_right}
use Rattle.std.proofs.lemmas.List.{length-map}
use Rattle.rb_tree.specs.declared.node.Block.{Block}
use Rattle.rb_tree.specs.declared.node.Method.{Method}
use Rattle.rb_tree.specs.declared.node.Class.{Class}
use Rattle.rb_tree.specs.Texts.{number_of}
use Rattle.rb_tree.proofs.Numbering.{slice_get-number_of}
use Rattle.rb_lexer.specs.declared.token.Token.{Token}
use Rattle.rb_grammar.specs.Tree.{Text, Word, Numbering, Thread, Tree, MethodTree, ClassTree, Items, nodes, method_by, class_by}
use Rattle.rb_grammar.specs.Tree as tree
use Rattle.rb_grammar.specs.Script.{IsScript}
use Rattle.rb_grammar.specs.Program.{in_order, numbering_of, program_of}
use Rattle.rb_grammar.specs.Order.{NumberedFrom, Distinct}
use Rattle.rb_grammar.specs.Faithful.{Each}
use Rattle.rb_grammar.proofs.Each.{each_map}
use Rattle.rb_grammar.proofs.Naming.{names_all}
use Rattle.rb_grammar.proofs.Numbers.{bodies_numbered}
use Rattle.rb_checker.specs.Check.{texts}
use Rattle.rb_checker.proofs.AllMade.{Events}
use Rattle.rb_accepted.specs.Laws.{AreOrdered}
use Rattle.rb_accepted.proofs.Placed.{blocks_apart}
use Rattle.rb_accepted.proofs.Kept.{script_has}
use Rattle.rb_accepted.proofs.Seen.{IsSeen, starts_in, numbers_of, own_starts, has_word, all_worded, block_is_worded}
use Rattle.rb_accepted.proofs.Walking.{script_walks}
use Rattle.rb_accepted.proofs.Runs.{once, times, past}
use Rattle.rb_accepted.proofs.Told.{KnownFrom}
use Rattle.rb_accepted.proofs.ToldScript.{joined, texts_of, class_texts, main_text}
use Rattle.rb_accepted.proofs.Worded.{Have, Words, MembersWorded, ItemsFit, ItemsWorded, words_are_walked, all_fit, ClassNames, ClassBodies}
use Rattle.rb_accepted.proofs.Numbered.{IsRelation, numbering, numbering_append, joined_numbering, listed, CountsFrom, Inner, IsNumbered, MembersNumbered, ItemsNumbered, items_count, numbers_are_kept}
use Rattle.rb_accepted.proofs.Heeded as heeded
use Rattle.rb_accepted.proofs.Heeded.{tokens_follow, once_distinct, bodies_known, each_of, program_texts, script_reads_known, script_starts_apart}

-- ---- counts

equal : IsRelation (λ (a : ℕ) (b : ℕ). a ≡ b)
equal = record { same = λ a. refl; plus = λ a b c d e f. omega (arith, e, f); on = λ a b c e f. e ∙ f }

at_most : IsRelation (λ (a : ℕ) (b : ℕ). a ≤ b)
at_most = record { same = λ a. omega arith; plus = λ a b c d e f. omega (arith, e, f); on = λ a b c e f. omega (arith, e, f) }

-- the bodies of threads start what they start, and at least nothing
counts_equal : (n : Numbering) (m : ℕ) (bodies : ℕ → ℕ → Events) (k : ℕ) (ts : List Thread) → KnownFrom n bodies k ts
    → CountsFrom n m bodies (λ (a : ℕ) (b : ℕ). a ≡ b) equal k ts
counts_equal n m bodies k [] r = tt
counts_equal n m bodies k (t ∷ more) r = (r.0, (λ j l. ap (numbering m) (r.1.0 j l), counts_equal n m bodies (suc (n.body t.at)) more r.1.1))

abbrev nothing : ℕ → ℕ → Events
nothing j number = []

counts_nothing : (n : Numbering) (m : ℕ) (bodies : ℕ → ℕ → Events) (k : ℕ) (ts : List Thread) → KnownFrom n bodies k ts
    → CountsFrom n m nothing (λ (a : ℕ) (b : ℕ). a ≤ b) at_most k ts
counts_nothing n m bodies k [] r = tt
counts_nothing n m bodies k (t ∷ more) r = (r.0, (λ j l. omega arith, counts_nothing n m bodies (suc (n.body t.at)) more r.1.1))

-- a number is that of a thread once, from the first number up to behind the last
past_step : (k p : ℕ) (b : Bool) → nat_eq k p ≡ b → once b + past (suc k) p ≡ past k p
past_step k p true is = let same : k ≡ p = grind (arith, nat_tests, is) in omega (arith, same)
past_step k p false is = let differ : k ≢ p = λ e. grind (arith, nat_tests, is, e) in omega (arith, differ)

listed_past : (n : Numbering) (p k : ℕ) (ts : List Thread) → NumberedFrom n k ts → listed n p ts + past (k + length ts) p ≡ past k p
listed_past n p k [] h = omega arith
listed_past n p k (t ∷ more) h =
    let rest : listed n p more + past (suc k + length more) p ≡ past (suc k) p = listed_past n p (suc k) more h.1 in
    let own : once (nat_eq (n.body t.at) p) ≡ once (nat_eq k p) = ap (λ b. once (nat_eq b p)) h.0 in
    omega (arith, rest, own, past_step k p (nat_eq k p) refl)

-- threads of greater numbers have no number up to one
listed_above : (n : Numbering) (p k : ℕ) (ts : List Thread) → CountsFrom n p nothing (λ (a : ℕ) (b : ℕ). a ≤ b) at_most k ts → p < k → listed n p ts ≡ 0
listed_above n p k [] r l = refl
listed_above n p k (t ∷ more) r l =
    let above : k ≤ n.body t.at = r.0 in
    let other : nat_eq (n.body t.at) p ≡ false = grind (arith, nat_tests, above, l) in
    omega (arith, ap once other, listed_above n p (suc (n.body t.at)) more r.1.1 (omega arith))

-- ---- numbers in a list

own_time : (x : ℕ) → once (nat_eq x x) ≡ 1
own_time x = let same : nat_eq x x ≡ true = grind (arith, nat_tests) in ap once same

each_above : (k : ℕ) (xs : List ℕ) → ((p : ℕ) → p ≤ k → times p xs ≡ 0) → Each (λ x. k < x) xs
each_above k [] h = tt
each_above k (x ∷ xs) h = (by (nat_lt k x) refl, each_above k xs (λ p l. omega (arith, h p l)))
  where
    by : (b : Bool) → nat_lt k x ≡ b → k < x
    by true is = grind (arith, nat_tests, is)
    by false is = let low : x ≤ k = grind (arith, nat_tests, is) in omega (arith, h x low, own_time x)

each_below : (k : ℕ) (xs : List ℕ) → ((p : ℕ) → k ≤ p → times p xs ≡ 0) → Each (λ x. x < k) xs
each_below k [] h = tt
each_below k (x ∷ xs) h = (by (nat_lt x k) refl, each_below k xs (λ p l. omega (arith, h p l)))
  where
    by : (b : Bool) → nat_lt x k ≡ b → x < k
    by true is = grind (arith, nat_tests, is)
    by false is = let high : k ≤ x = grind (arith, nat_tests, is) in omega (arith, h x high, own_time x)

any_there : (p : ℕ) (xs : List ℕ) → 1 ≤ times p xs → list_any (nat_eq p) xs ≡ true
any_there p [] h = absurd (omega (arith, h))
any_there p (x ∷ xs) h = by (nat_eq p x) refl (any_there p xs)
  where
    by : (b : Bool) → nat_eq p x ≡ b → (1 ≤ times p xs → list_any (nat_eq p) xs ≡ true) → (nat_eq p x || list_any (nat_eq p) xs) ≡ true
    by true is more = or_left (nat_eq p x) (list_any (nat_eq p) xs) is
    by false is more =
        let other : nat_eq x p ≡ false = grind (arith, nat_tests, is) in
        or_right (nat_eq p x) (list_any (nat_eq p) xs) (more (omega (arith, h, ap once other)))

-- ---- the numbers of threads that are started

module _ (found : Items) where
  abbrev n : Numbering
  n = numbering_of found

  abbrev bodies : ℕ → ℕ → Events
  bodies = heeded.bodies found

  abbrev all : Events
  all = joined (texts (program_of found))

  counted : (p : ℕ) → numbering p all ≡ items_count n p bodies (λ (a : ℕ) (b : ℕ). a ≡ b) equal found
  counted p =
      let main = main_text n bodies found.main in
      let functions = texts_of n bodies found.functions in
      let classes = class_texts n bodies found.classes in
      omega (
        arith,
        ap (λ ts. numbering p (joined ts)) (program_texts found),
        joined_numbering p classes (functions ++ main ∷ []),
        joined_numbering p functions (main ∷ []),
        numbering_append p main [],
      )

  -- the number of a body
  greater_at : (ts : List Thread) (k i : ℕ) (b : Block) → NumberedFrom n k ts
      → ((p : ℕ) → Each (Inner n p nothing (λ (a : ℕ) (b : ℕ). a ≤ b) at_most) ts) → slice_get (map (λ t. t.block n) ts) i ≡ Some b
      → Each (λ x. k + i < x) (numbers_of (own_starts b))
  greater_at [] k i b h inner e = absurd (cc)
  greater_at (t ∷ more) k zero b h inner e =
      let same : t.block n ≡ b = cc in
      subst (λ c. Each (λ x. k + 0 < x) (numbers_of (own_starts c))) same
      (each_above (k + 0) (numbers_of (own_starts (t.block n)))
      (λ p l.
      let own = (inner p).0 in
      omega (arith, own.1.1, listed_above n p (suc (n.body t.at)) own.0 own.1.0 (omega (arith, h.0, l)))))
  greater_at (t ∷ more) k (suc i) b h inner e =
      subst (λ j. Each (λ x. j < x) (numbers_of (own_starts b))) (omega arith)
      (greater_at more (suc k) i b h.1 (λ p. (inner p).1) e)

-- ---- what all texts start

module _ (limit levels : ℕ) (tokens : List Token) (found : Items) (ordered : AreOrdered tokens) (script : IsScript limit levels tokens found) where
  numbered : NumberedFrom (n found) 0 found.threads
  numbered = bodies_numbered found (blocks_apart limit levels tokens found ordered script)

  known : KnownFrom (n found) (bodies found) 0 found.threads
  known = bodies_known (n found) (heeded.blocks found) found.threads 0 numbered refl

  -- as often as the number is that of a thread
  started_count : (p : ℕ) → numbering p (all found) + past (length found.threads) p ≡ past 0 p
  started_count p =
      let kept = script_has (IsNumbered (n found) p (bodies found) (λ (a : ℕ) (b : ℕ). a ≡ b) equal)
      (MembersNumbered (n found) p (bodies found) (λ (a : ℕ) (b : ℕ). a ≡ b) equal)
      (ItemsNumbered (n found) p (bodies found) (λ (a : ℕ) (b : ℕ). a ≡ b) equal)
      (numbers_are_kept (n found) p (bodies found) (λ (a : ℕ) (b : ℕ). a ≡ b) equal) limit levels tokens found script in
      let same : items_count (n found) p (bodies found) (λ (a : ℕ) (b : ℕ). a ≡ b) equal found ≡ listed (n found) p found.threads =
      (kept (counts_equal (n found) p (bodies found) 0 found.threads known)).0 in
      omega (arith, counted found p, same, listed_past (n found) p 0 found.threads numbered)

  all_inner : (p : ℕ) → Each (Inner (n found) p nothing (λ (a : ℕ) (b : ℕ). a ≤ b) at_most) found.threads
  all_inner p =
      let kept = script_has (IsNumbered (n found) p nothing (λ (a : ℕ) (b : ℕ). a ≤ b) at_most)
      (MembersNumbered (n found) p nothing (λ (a : ℕ) (b : ℕ). a ≤ b) at_most)
      (ItemsNumbered (n found) p nothing (λ (a : ℕ) (b : ℕ). a ≤ b) at_most)
      (numbers_are_kept (n found) p nothing (λ (a : ℕ) (b : ℕ). a ≤ b) at_most) limit levels tokens found script in
      (kept (counts_nothing (n found) p (bodies found) 0 found.threads known)).1

  bodies_count : length (program_of found).bodies ≡ length found.threads
  bodies_count = length-map found.threads (λ t. t.block (n found))

  -- each body is started, once
  script_numbers : Distinct (numbers_of (starts_in (flat_map (λ (events : Events). events) (texts (program_of found)))))
  script_numbers = once_distinct (numbers_of (starts_in (all found))) (λ p. omega (arith, started_count p))

  script_started : (number : ℕ) → number < length (program_of found).bodies
      → list_any (nat_eq number) (numbers_of (starts_in (flat_map (λ (events : Events). events) (texts (program_of found))))) ≡ true
  script_started number l = any_there number (numbers_of (starts_in (all found))) (omega (arith, started_count number, bodies_count, l))

  script_bound : Each (λ number. number < length (program_of found).bodies) (numbers_of (starts_in (flat_map (λ (events : Events). events) (texts (program_of found)))))
  script_bound =
      each_below (length (program_of found).bodies) (numbers_of (starts_in (all found))) (λ p l. omega (arith, started_count p, bodies_count, l))

  script_greater : (number : ℕ) (b : Block) → slice_get (program_of found).bodies number ≡ Some b → Each (λ x. number < x) (numbers_of (own_starts b))
  script_greater number b e =
      subst (λ j. Each (λ x. j < x) (numbers_of (own_starts b))) (omega arith) (greater_at found found.threads 0 number b numbered all_inner e)

  -- ---- words

  abbrev names : List Text
  names = in_order (tree.texts found.names)

  have_names : Have names (n found) found.names
  have_names =
      each_map (λ w. number_of w.text names ≡ Some ((n found).name w.text)) (λ w. slice_get names ((n found).name w.text).0 ≡ Some w.text)
      (λ w e. slice_get-number_of w.text names ((n found).name w.text) e) found.names (names_all found)

  script_words : ItemsFit names (n found) found
  script_words =
      (script_walks (Words names (n found)) (MembersWorded names (n found)) (ItemsWorded names (n found)) (words_are_walked names (n found))
      limit levels tokens found (tokens_follow tokens ordered) script).1 have_names

  all_list : {A B : Type 0} (test : B → Bool) (f : A → B) (xs : List A) → Each (λ x. test (f x) ≡ true) xs → list_all test (map f xs) ≡ true
  all_list test f [] h = refl
  all_list test f (x ∷ xs) h = ap (λ b. b && list_all test (map f xs)) h.0 ∙ all_list test f xs h.1

  -- all that is seen of the program
  pub script_seen : IsSeen (program_of found)
  script_seen = record {
    reads = script_reads_known limit levels tokens found ordered script;
    numbers = script_numbers;
    places = script_starts_apart limit levels tokens found ordered script;
    started = script_started;
    bound = script_bound;
    greater = script_greater;
    members = each_of (λ (k : Class). list_all (has_word names) k.methods ≡ true) (class_by (n found)) found.classes
        (each_map (ClassNames names (n found)) _ (λ (c : ClassTree) h. all_list (has_word names)
        (method_by (n found)) c.members.methods h) found.classes script_words.members);
    in_classes = each_of (λ (k : Class). list_all (λ (m : Method). all_worded names m.body) k.methods ≡ true) (class_by (n found)) found.classes
        (each_map (ClassBodies names (n found)) _ (λ (c : ClassTree) h. all_list (λ (m : Method). all_worded names m.body)
        (method_by (n found)) c.members.methods h) found.classes script_words.in_classes);
    in_functions = all_list (λ (m : Method). all_worded names m.body) (method_by (n found)) found.functions script_words.in_functions;
    in_main = all_fit names (n found) found.main script_words.in_main;
    in_bodies = all_list (block_is_worded names) (λ (t : Thread). t.block (n found)) found.threads script_words.in_threads;
  }

-- tokens in order that spell a script spell a program of which all this is seen
pub script_is_seen : (limit levels : ℕ) (tokens : List Token) (found : Items) → AreOrdered tokens → IsScript limit levels tokens found → IsSeen (program_of found)
script_is_seen limit levels tokens found ordered script = script_seen limit levels tokens found ordered script
