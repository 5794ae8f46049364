-- Of the program that ordered tokens spell: each local that is read is known, and no two threads start at one place.
use Rattle.std.proofs.Common.{◌≡◌, ◌≢◌, refl, ap, sym, subst, ◌∙◌, ℕ, suc, ◌≤◌, ◌<◌, true, List, [], ◌∷◌, ◌++◌, map, drop, arith}
use Rattle.std.specs.Prelude.{nat_eq}
use Rattle.std.specs.List.{AllByRecursion, flat_map}
use Rattle.std.proofs.lemmas.Bool.Decides.{nat_tests}
use Rattle.rb_tree.specs.declared.node.Block.{Block}
use Rattle.rb_tree.specs.declared.node.Class.{Class}
use Rattle.rb_lexer.specs.declared.token.Token.{Token}
use Rattle.rb_lexer.specs.Spans.{StandInOrder, EndsOnce, NotEmpty}
use Rattle.rb_grammar.specs.Tree.{Numbering, Thread, ClassTree, Items, method_by, class_by}
use Rattle.rb_grammar.specs.Script.{IsScript}
use Rattle.rb_grammar.specs.Program.{numbering_of, program_of}
use Rattle.rb_grammar.specs.Order.{NumberedFrom, Distinct}
use Rattle.rb_grammar.specs.Faithful.{Each}
use Rattle.rb_grammar.proofs.Each.{each_append, each_map}
use Rattle.rb_grammar.proofs.Numbers.{bodies_numbered}
use Rattle.rb_checker.specs.Around.{placed}
use Rattle.rb_checker.specs.Check.{method_events, texts}
use Rattle.rb_checker.proofs.AllMade.{Events}
use Rattle.rb_accepted.specs.Laws.{IsWord, AreOrdered}
use Rattle.rb_accepted.proofs.Bodies.{bodies_of, left_behind, body_known}
use Rattle.rb_accepted.proofs.Placed.{blocks_apart}
use Rattle.rb_accepted.proofs.Seen.{ReadsAreKnown, starts_in, places_of}
use Rattle.rb_accepted.proofs.Walked.{Point}
use Rattle.rb_accepted.proofs.Keeping.{Follow}
use Rattle.rb_accepted.proofs.Walking.{script_walks}
use Rattle.rb_accepted.proofs.Runs.{once, times, starting, starting_append}
use Rattle.rb_accepted.proofs.Told.{KnownFrom, Told}
use Rattle.rb_accepted.proofs.ToldScript.{joined, joined_append, method_text, AllReadable, texts_of, class_texts, main_text, MembersTold, ItemsHeard, ItemsTold, told_is_walked}

-- ---- tokens in order follow

follow_below : (low from : ℕ) (ts : List Token) → low ≤ from → Follow from ts → Follow low ts
follow_below low from [] l h = tt
follow_below low from (t ∷ ts) l h = let after : from ≤ t.at.from = h.0 in (omega arith, h.1)

ordered_follow : (from to : ℕ) (ts : List Token) → StandInOrder from to ts → EndsOnce ts → AllByRecursion NotEmpty ts → AllByRecursion IsWord ts → Follow from ts
ordered_follow from to [] o e l w = tt
ordered_follow from to (t ∷ []) o e l w = (o.0, (w.0, tt))
ordered_follow from to (t ∷ u ∷ ts) o e l w =
    let long : t.at.from < t.at.to = l.0 e.0 in
    (o.0, (w.0, follow_below (suc t.at.from) t.at.to (u ∷ ts) (omega arith) (ordered_follow t.at.to to (u ∷ ts) o.2 e.1 l.1 w.1)))

pub tokens_follow : (tokens : List Token) → AreOrdered tokens → Follow 0 tokens
tokens_follow tokens o = follow_below 0 o.from tokens (omega arith) (ordered_follow o.from o.to tokens o.stand o.ends o.long o.words)

-- ---- how often a number is in a list

none_there : (x : ℕ) (xs : List ℕ) → times x xs ≡ 0 → Each (λ other. x ≢ other) xs
none_there x [] h = tt
none_there x (y ∷ ys) h = (
  λ e. let same : nat_eq y x ≡ true = grind (arith, nat_tests, e) in let here : once (nat_eq y x) ≡ 1 = ap once same in omega (arith, h, here),
  none_there x ys (omega (arith, h)),
)

-- numbers of which each is there once at the most differ
pub once_distinct : (xs : List ℕ) → ((p : ℕ) → times p xs ≤ 1) → Distinct xs
once_distinct [] h = tt
once_distinct (x ∷ xs) h =
    let same : nat_eq x x ≡ true = grind (arith, nat_tests) in
    let here : once (nat_eq x x) ≡ 1 = ap once same in (
      none_there x xs (omega (arith, h x, here)),
      once_distinct xs (λ p. omega (arith, h p)),
    )

-- ---- the bodies of threads

-- bodies that are numbered from one on are known
pub bodies_known : (n : Numbering) (blocks : List Block) (ts : List Thread) (k : ℕ) → NumberedFrom n k ts → drop k blocks ≡ map (λ t. t.block n) ts
    → KnownFrom n (bodies_of blocks) k ts
bodies_known n blocks [] k h e = tt
bodies_known n blocks (t ∷ more) k h e =
    let here : drop (n.body t.at) blocks ≡ t.block n ∷ map (λ u. u.block n) more = ap (λ m. drop m blocks) h.0 ∙ e in
    let same : k ≤ n.body t.at = omega (arith, h.0) in (
      same,
      (
        λ j l. body_known blocks j (n.body t.at) (t.block n) (map (λ u. u.block n) more) l here,
        subst (λ m. KnownFrom n (bodies_of blocks) (suc m) more) (sym h.0)
            (bodies_known n blocks more (suc k) h.1 (left_behind blocks k (t.block n) (map (λ u. u.block n) more) e)),
      ),
    )

-- ---- the texts of a program

pub each_of : {A B : Type 0} (P : B → Type 0) (f : A → B) (xs : List A) → Each (λ x. P (f x)) xs → Each P (map f xs)
each_of P f [] h = tt
each_of P f (x ∷ xs) h = (h.0, each_of P f xs h.1)

each_flat : {A B : Type 0} (P : B → Type 0) (f : A → List B) (xs : List A) → Each (λ x. Each P (f x)) xs → Each P (flat_map f xs)
each_flat P f [] h = tt
each_flat P f (x ∷ xs) h = each_append P (f x) (flat_map f xs) h.0 (each_flat P f xs h.1)

map_twice : {A B C : Type 0} (g : B → C) (f : A → B) (xs : List A) → map g (map f xs) ≡ map (λ x. g (f x)) xs
map_twice g f [] = refl
map_twice g f (x ∷ xs) = ap (λ ys. g (f x) ∷ ys) (map_twice g f xs)

module _ (found : Items) where
  abbrev pub n : Numbering
  n = numbering_of found

  abbrev pub blocks : List Block
  blocks = map (λ t. t.block n) found.threads

  abbrev pub bodies : ℕ → ℕ → Events
  bodies = bodies_of blocks

  -- those of the classes, the functions and the statements outside
  pub classes_texts : (cs : List ClassTree)
      → flat_map (λ (c : Class). map (method_events (program_of found)) c.methods) (map (class_by n) cs) ≡ class_texts n bodies cs
  classes_texts [] = refl
  classes_texts (c ∷ cs) =
      ap (λ ts. ts ++ flat_map (λ (c : Class). map (method_events (program_of found)) c.methods) (map (class_by n) cs))
      (map_twice (method_events (program_of found)) (method_by n) c.members.methods)
      ∙ ap (λ ts. texts_of n bodies c.members.methods ++ ts) (classes_texts cs)

  pub program_texts : texts (program_of found) ≡ class_texts n bodies found.classes ++ (texts_of n bodies found.functions ++ main_text n bodies found.main ∷ [])
  program_texts =
      ap (λ ts. ts ++ (map (method_events (program_of found)) (map (method_by n) found.functions) ++ main_text n bodies found.main ∷ []))
      (classes_texts found.classes)
      ∙ ap (λ ts. class_texts n bodies found.classes ++ (ts ++ main_text n bodies found.main ∷ []))
      (map_twice (method_events (program_of found)) (method_by n) found.functions)

  texts_readable : (y : Point) → ItemsHeard n bodies found y → Each (λ (events : Events). ReadsAreKnown [] (placed [] events)) (texts (program_of found))
  texts_readable y h =
      let P = λ (events : Events). ReadsAreKnown [] (placed [] events) in
      subst (Each P) (sym program_texts)
      (each_append P (class_texts n bodies found.classes) (texts_of n bodies found.functions ++ main_text n bodies found.main ∷ [])
      (each_flat P (λ (c : ClassTree). texts_of n bodies c.members.methods) found.classes
      (each_map (AllReadable n bodies) (λ c. Each P (texts_of n bodies c.members.methods))
      (λ c g. each_of P (method_text n bodies) c.members.methods g) found.classes h.classes))
      (each_append P (texts_of n bodies found.functions) (main_text n bodies found.main ∷ [])
      (each_of P (method_text n bodies) found.functions h.functions) (h.main.reads, tt)))

  texts_apart : (y : Point) → ItemsHeard n bodies found y → Distinct (places_of (starts_in (joined (texts (program_of found)))))
  texts_apart y h =
      once_distinct (places_of (starts_in (joined (texts (program_of found)))))
      (λ p.
      let main = main_text n bodies found.main in
      let functions = texts_of n bodies found.functions in
      let classes = class_texts n bodies found.classes in
      omega (
        arith,
        ap (λ ts. starting p (joined ts)) program_texts,
        joined_append p classes (functions ++ main ∷ []),
        joined_append p functions (main ∷ []),
        starting_append p main [],
        h.places p,
      ))

pub items_heard : (limit levels : ℕ) (tokens : List Token) (found : Items) → AreOrdered tokens → IsScript limit levels tokens found
    → (y : Point) × ItemsHeard (n found) (bodies found) found y
items_heard limit levels tokens found ordered script =
    let numbered = bodies_numbered found (blocks_apart limit levels tokens found ordered script) in
    let known = bodies_known (n found) (blocks found) found.threads 0 numbered refl in
    let walks = script_walks (Told (n found) (bodies found)) (MembersTold (n found) (bodies found)) (ItemsTold (n found) (bodies found))
    (told_is_walked (n found) (bodies found)) limit levels tokens found (tokens_follow tokens ordered) script in
    (walks.0, walks.1 known)

-- each local that is read is known, in each text
pub script_reads_known : (limit levels : ℕ) (tokens : List Token) (found : Items) → AreOrdered tokens → IsScript limit levels tokens found
    → Each (λ (events : Events). ReadsAreKnown [] (placed [] events)) (texts (program_of found))
script_reads_known limit levels tokens found ordered script =
    let heard = items_heard limit levels tokens found ordered script in
    texts_readable found heard.0 heard.1

-- no two threads start at one place
pub script_starts_apart : (limit levels : ℕ) (tokens : List Token) (found : Items) → AreOrdered tokens → IsScript limit levels tokens found
    → Distinct (places_of (starts_in (flat_map (λ (events : Events). events) (texts (program_of found)))))
script_starts_apart limit levels tokens found ordered script =
    let heard = items_heard limit levels tokens found ordered script in
    texts_apart found heard.0 heard.1
