-- How the parts of calls lead on.
use Rattle.std.proofs.Common.{◌≡◌, ℕ, suc, zero, Bool, true, false, ◌≤◌, List, [], ◌∷◌, length, Result, Ok, Err, Option, Some, None, refl, sym, ap, ◌∙◌, subst, arith}
use Rattle.std.specs.Prelude.{map, IfOk, OnErr, OnOk}
use Rattle.std.specs.Result.{IsErrAnd}
use Rattle.rb_tree.specs.declared.span.Span.{Span}
use Rattle.rb_lexer.specs.declared.token.Token.{Token}
use Rattle.rb_grammar.specs.Look.{Class, Test, is, one_of, glued}
use Rattle.rb_grammar.specs.Look as c
use Rattle.rb_grammar.specs.Tree.{Text, Word, Tree, BlockTree, call_with_block}
use Rattle.rb_grammar.specs.Scope.{Scope}
use Rattle.rb_grammar.specs.Phrase as p
use Rattle.rb_grammar.specs.Phrase.{Phrase, Value}
use Rattle.rb_grammar.specs.Rule.{Rule, done, refuse, token, phrase, nested, pick, scope, next_meets}
use Rattle.rb_grammar.specs.Heads.{next_class}
use Rattle.rb_steps.specs.Begins.{beginning_of}
use Rattle.rb_steps.specs.declared.beginning.Beginning.{Beginning}
use Rattle.rb_phrases.specs.Alternatives.{alternative}
use Rattle.rb_phrases.proofs.Primaries.{primary_begins}
use Rattle.rb_grammar.specs.Grammar as grammar
use Rattle.rb_grammar.specs.Grammar.{any, identifiers, rule, word_of, made, as_value, going_on, constructed, allowed, takes_block, with_block, with_block_of, thread, thread_with, unless_head, called, called_with, plain_member}
use Rattle.rb_grammar.specs.Reading.{from_refused, Outcome, read, refused, too_nested, spent, and_then}
use Rattle.rb_cursor.specs.declared.fault.ParseFault.{ParseFault}
use Rattle.rb_cursor.specs.declared.fault.ParseFault.TheVariants as fault
use Rattle.rb_cursor.specs.declared.word.Word as code
use Rattle.rb_cursor.specs.State.{State, answer_at, Reached, Failed, next_place, syntax, memory, Took, Missed}
use Rattle.rb_cursor.specs.Here.{at_rule}
use Rattle.rb_cursor.specs.Word.{word_by, TookWord}
use Rattle.rb_cursor.proofs.Steps.{over_word, by_rule, to_first_token, to_second_token, Follows, Leads, follows_from, fails_with, through, phrase_read, nested_read, arrives, built_low, built_high, takes, takes_word, stops}
use Rattle.rb_builder.specs.Walk.{Walk}
use Rattle.rb_builder.specs.Builder.{walk_of}
use Rattle.rb_builder.specs.declared.builder.Builder.{Builder}
use Rattle.rb_builder.specs.Grown.{IsRow}
use Rattle.rb_builder.specs.Block.{IsBlock}
use Rattle.rb_steps.proofs.Parameters.{wanted_memory}
use Rattle.rb_builder.specs.Operand.{IsPart, plain, headed, value, is_head}
use Rattle.rb_builder.specs.declared.grown.Row.{Row}
use Rattle.rb_builder.specs.declared.operand.Part.{Part}
use Rattle.rb_builder.specs.declared.block.GrownBlock.{GrownBlock}
use Rattle.rb_phrases.specs.Parts.{Makes}
use Rattle.rb_phrases.specs.Goes.{Goes, BlockRule, WithBlock, HasBlock, HasNoBlock}
use Rattle.rb_phrases.proofs.Forms.{operand_splits, took_less, rest_of, nested_splits, no_longer, opens}

-- a phrase inside what opens is the last of the rule
pub inside_ok : {B : Type 0} (levels left : ℕ) (at : Span) (n : Phrase) {Is : B → Value n → Type 0} (s : State) {new : State} {b : B}
    → levels ≡ suc left → Reached Is new (answer_at left n s) b → Reached Is new (at_rule levels (nested at n done) s) b
inside_ok levels left at n {Is = Is} s {new = new} {b = b} more h =
    let last : Follows Is levels (nested at n done) s new (Ok b) = opens more h (stops h.same) in
    last.came

ends_here : {A : Type 0} (o : Outcome A) → and_then o read ≡ o
ends_here (read a s seen ts) = refl
ends_here (refused ts) = refl
ends_here (too_nested at) = refl
ends_here spent = refl

not_read : {A : Type 0} (at : Span) (v : A) (s : State) → too_nested at ≡ read v s.scope s.looked s.rest → ⊥
not_read at v s h = absurd (cc)

pub nested_no_longer : {B : Type 0} (levels : ℕ) (at : Span) (n : Phrase) {Q : B → Value n → Type 0} (s s1 : State) {b : B}
    → Reached Q s1 (at_rule levels (nested at n done) s) b → length s1.rest ≤ length s.rest
nested_no_longer zero at n s s1 part = absurd (not_read at part.value s1 part.reads)
nested_no_longer (suc left) at n {Q = Q} s s1 part =
    no_longer left n {Q = Q} s s1 (record { value = part.value; reads = sym (ends_here (answer_at left n s)) ∙ part.reads; same = part.same })

module _ {A B : Type 0} {Is : B → A → Type 0} {levels : ℕ} {new : State} where
  -- what was read inside what opens, and the rest behind it
  pub then_inside : {C : Type 0} {at : Span} {n : Phrase} {Q : C → Value n → Type 0} {k : Value n → Rule A} {s s1 : State} {c : C} {result : Result B ParseFault}
      → (part : Reached Q s1 (at_rule levels (nested at n done) s) c) → Follows Is levels (k part.value) s1 new result → Follows Is levels (nested at n k) s new result
  then_inside {at = at} {n = n} {k = k} {s = s} part h = follows_from (nested_splits levels at n k s ∙ ap (λ o. and_then o (rest_of levels k)) part.reads) h

  pub inside_fails : {at : Span} {n : Phrase} {k : Value n → Rule A} {s : State} {e : ParseFault}
      → Failed (at_rule levels (nested at n done) s) e → Follows Is levels (nested at n k) s new (Err e)
  inside_fails {at = at} {n = n} {k = k} {s = s} failed =
      record { came = through (nested_splits levels at n k s) (fails_with (at_rule levels (nested at n done) s) (rest_of levels k) failed) }

  -- a word, as the code has it
  pub takes_as : (k : Word → Rule A) {test : Test} {s s1 : State} {w : code.Word} {result : Result B ParseFault}
      → (took : TookWord test s s1 w) → Follows Is levels (k (word_by w)) s1 new result → Follows Is levels (token test (λ t. k (word_of t))) s new result
  takes_as k {s1 = s1} {result = result} took h = takes_word took (subst (λ v. Follows Is levels (k v) s1 new result) took.word h)

  pub picks : {b : Bool} {q r : Rule A} {s : State} {result : Result B ParseFault} → b ≡ true → Follows Is levels q s new result → Follows Is levels (pick b q r) s new result
  picks {b = b} {q = q} {r = r} {s = s} e h = follows_from (rw e refl) h

  pub picks_other : {b : Bool} {q r : Rule A} {s : State} {result : Result B ParseFault} → b ≡ false → Follows Is levels r s new result → Follows Is levels (pick b q r) s new result
  picks_other {b = b} {q = q} {r = r} {s = s} e h = follows_from (rw e refl) h

  pub changes : {f : Scope → Scope} {r : Rule A} {s : State} {result : Result B ParseFault}
      → Follows Is levels r (record s { scope = f s.scope }) new result → Follows Is levels (scope f r) s new result
  changes h = record { came = h.came }

-- what stands behind the class of an object
abbrev pub new_of : Bool → Word → Rule p.Part
new_of d w = token (is c.dot) (λ o. token (is c.new) (constructed d w))

-- ---- how calls go on

-- a fault that is handed on
pub handed_to : {A B V : Type 0} (Is : B → V → Type 0) (old new : State) {o : Outcome A} (next : V → Outcome A) (result : Result B ParseFault) {e : ParseFault}
    → IsErrAnd result (λ f. f ≡ e) → Failed o e → Goes Is old new o next result
handed_to Is old new next (Ok b) h failed = absurd h
handed_to Is old new {o = o} next (Err f) h failed = rw h failed

pub handed_block : (w : Walk) (levels : ℕ) (form : BlockRule) (old new : State) (result : Result (Option GrownBlock) ParseFault) {e : ParseFault}
    → IsErrAnd result (λ f. f ≡ e) → ((k : BlockTree → Rule p.Part) (without : Rule p.Part) → Failed (at_rule levels (form k without) old) e) → WithBlock w levels form old new result
handed_block w levels form old new (Ok b) h failed = absurd h
handed_block w levels form old new (Err f) h failed = rw h failed

-- at what leads to another place
pub goes_from : {A B V : Type 0} (Is : B → V → Type 0) (old mid new : State) (o o' : Outcome A) (next : V → Outcome A) (result : Result B ParseFault)
    → o ≡ o' → length mid.rest ≤ length old.rest → Goes Is mid new o' next result → Goes Is old new o next result
goes_from Is old mid new o o' next (Ok b) same less h = record { value = h.value; comes = same ∙ h.comes; same = h.same; shorter = omega (arith, less, h.shorter) }
goes_from Is old mid new o o' next (Err e) same less h = through same h

-- a node, behind which a postfix goes on
pub node_goes_on : (w : Walk) (levels : ℕ) (d : Bool) (a : Tree) (s : State) (result : Result Part ParseFault) → Makes w a result
    → Goes (IsPart w) s s (at_rule levels (going_on d a) s) (λ q. answer_at levels (p.postfix_rest d q) s) result
node_goes_on w levels d a s (Ok found) m = record {
  value = as_value a;
  comes = built_low levels a (phrase (p.postfix_rest d (as_value a)) done) s m.2.1 ∙ (arrives levels (p.postfix_rest d (as_value a)) s).comes;
  same = subst (λ x. IsPart w x (as_value a)) (sym m.1) (plain (value m.2.0));
  shorter = omega (arith);
}
node_goes_on w levels d a s (Err (fault.TooNested at)) m =
    subst (λ x. Failed (at_rule levels (going_on d a) s) (fault.TooNested x)) (sym m.0) (built_high levels a (phrase (p.postfix_rest d (as_value a)) done) s m.1)
node_goes_on w levels d a s (Err (fault.Syntax at)) m = absurd m
node_goes_on w levels d a s (Err fault.Memory) m = memory

-- ---- from place to place

module _ {A : Type 0} {levels : ℕ} {o : Outcome A} where
  pub over_part : {C : Type 0} {n : Phrase} {Q : C → Value n → Type 0} {k : Value n → Rule A} {s s1 : State} {c : C}
      → (part : Reached Q s1 (answer_at levels n s) c) → Leads levels (k part.value) s1 o → Leads levels (phrase n k) s o
  over_part {n = n} {k = k} {s = s} {s1 = s1} part h = record { comes = phrase_read levels n k s s1 part.value part.reads ∙ h.comes }

-- what is made for a builder is made for another that is the same
pub for_make : {B V : Type 0} (Is : Walk → B → V → Type 0) {one other : Builder} (b : B) (v : V) → one ≡ other → Is (walk_of one) b v → Is (walk_of other) b v
for_make Is b v same h = subst (λ m. Is (walk_of m) b v) same h

module _ {A : Type 0} {levels : ℕ} {o : Outcome A} where
  -- over what is read inside what opens
  pub over_inside : {C : Type 0} {left : ℕ} {at : Span} {n : Phrase} {Q : C → Value n → Type 0} {k : Value n → Rule A} {s s1 : State} {c : C}
      → levels ≡ suc left → (part : Reached Q s1 (answer_at left n s) c) → Leads levels (k part.value) s1 o → Leads levels (nested at n k) s o
  over_inside {left = left} {at = at} {n = n} {k = k} {s = s} {s1 = s1} more part h =
      record { comes = subst (λ l. at_rule l (nested at n k) s ≡ at_rule l (k part.value) s1) (sym more) (nested_read left at n k s s1 part.value part.reads) ∙ h.comes }

pub leads_at : {A : Type 0} (levels : ℕ) (r : Rule A) {s : State} {o : Outcome A} → Leads levels r s o → at_rule levels r s ≡ o
leads_at levels r h = h.comes

pub leads_here : {A : Type 0} {levels : ℕ} (r : Rule A) (s : State) → Leads levels r s (at_rule levels r s)
leads_here r s = record { comes = refl }

-- where it stood before
pub leads_back : {A : Type 0} {levels : ℕ} {s t : State} → t ≡ s → (r : Rule A) → Leads levels r t (at_rule levels r s)
leads_back {levels = levels} same r = record { comes = ap (λ x. at_rule levels r x) same }

-- the end is never a `do` that may stand
pub not_at_end : (d : Bool) → allowed d c.do_word c.end true ≡ false
not_at_end true = refl
not_at_end false = refl

-- ---- blocks behind names

pub pick_no : {A : Type 0} (levels : ℕ) (b : Bool) (q r : Rule A) (s : State) → b ≡ false → at_rule levels (pick b q r) s ≡ at_rule levels r s
pick_no levels b q r s h = rw h refl

pub pick_yes : {A : Type 0} (levels : ℕ) (b : Bool) (q r : Rule A) (s : State) → b ≡ true → at_rule levels (pick b q r) s ≡ at_rule levels q s
pick_yes levels b q r s h = rw h refl

pub with_block_named : (w : Walk) (levels : ℕ) (text : Text) (d : Bool) (old new : State) (result : Result (Option GrownBlock) ParseFault) → takes_block text ≡ true
    → WithBlock w levels (with_block d) old new result → WithBlock w levels (with_block_of text d) old new result
with_block_named w levels text d old new (Ok (Some block)) takes h = record {
  value = h.value;
  same = h.same;
  comes = λ k without. pick_yes levels (takes_block text) (with_block d k without) without old takes ∙ h.comes k without;
  shorter = h.shorter;
}
with_block_named w levels text d old new (Ok None) takes h = record {
  stays = h.stays;
  comes = λ k without. pick_yes levels (takes_block text) (with_block d k without) without old takes ∙ h.comes k without;
}
with_block_named w levels text d old new (Err e) takes h = λ k without. through (pick_yes levels (takes_block text) (with_block d k without) without old takes) (h k without)

-- a closer by the name that the code has for it
pub closer_missed : {class wanted : Class} {s : State} {e : ParseFault} → class ≡ wanted → Missed (is class) s e → Missed (is wanted) s e
closer_missed {s = s} {e = e} same h = subst (λ x. Missed (is x) s e) same h

pub closer_took : {class wanted : Class} {s s1 : State} {t : Token} → class ≡ wanted → Took (is class) s s1 t → Took (is wanted) s s1 t
closer_took {s = s} {s1 = s1} {t = t} same h = subst (λ x. Took (is x) s s1 t) same h

-- ---- blocks

pub block_made : (w : Walk) (levels : ℕ) (at : Span) (words shown : List code.Word) (trees : List Tree) (body : Row) (s : State) (result : Result GrownBlock ParseFault) → shown ≡ words
    → IfOk result (λ b. (trees : List Tree) → IsRow w body trees → IsBlock w b (record { at = at; params = map word_by shown; body = trees })) → OnErr result (result ≡ Err fault.Memory)
    → IsRow w body trees → Follows (IsBlock w) levels (done (record { at = at; params = map word_by words; body = trees })) s s result
block_made w levels at words shown trees body s (Ok b) are ok told row =
    stops (subst (λ ws. IsBlock w b (record { at = at; params = map word_by ws; body = trees })) are (ok trees row))
block_made w levels at words shown trees body s (Err e) are ok told row = record { came = wanted_memory told }

-- ---- threads

-- the arguments of a thread were read, or there are none
pub record ThreadArgs (levels : ℕ) (d : Bool) (t : Token) (old now : State) : Type 0 where
  pub value : List Tree
  pub comes : at_rule levels (thread d t) old ≡ at_rule levels (thread_with d t value) now
  pub shorter : length now.rest ≤ length old.rest

-- nothing stands where something has to
pub refuses : {A : Type 0} {e : ParseFault} (levels : ℕ) (s : State) → e ≡ fault.Syntax (next_place (from_refused s.looked s.rest)) → Failed (at_rule {A = A} levels refuse s) e
refuses {A = A} levels s told = subst (λ x. Failed (at_rule {A = A} levels refuse s) x) (sym told) (syntax (from_refused s.looked s.rest) refl)

pub refuses_here : {A : Type 0} {e : ParseFault} (levels : ℕ) {s t : State} → t ≡ s → e ≡ fault.Syntax (next_place (from_refused t.looked t.rest)) → Failed (at_rule {A = A} levels refuse s) e
refuses_here {A = A} {e = e} levels {t = t} same told = subst (λ x. Failed (at_rule {A = A} levels refuse x) e) same (refuses levels t told)

module _ {A : Type 0} {levels : ℕ} {o : Outcome A} where
  -- over what was read inside what opens, by what it came to there
  pub over_nested : {C : Type 0} {at : Span} {n : Phrase} {Q : C → Value n → Type 0} {k : Value n → Rule A} {s s1 : State} {c : C}
      → (part : Reached Q s1 (at_rule levels (nested at n done) s) c) → Leads levels (k part.value) s1 o → Leads levels (nested at n k) s o
  over_nested {at = at} {n = n} {k = k} {s = s} part h =
      record { comes = nested_splits levels at n k s ∙ ap (λ x. and_then x (rest_of levels k)) part.reads ∙ h.comes }

pub stands_no_longer : {old new : State} → new ≡ old → length new.rest ≤ length old.rest
stands_no_longer {old = old} same = rw same (omega arith)

pub read_comes : {B : Type 0} {Q : B → List Tree → Type 0} (levels : ℕ) (d : Bool) (t : Token) {old s1 s2 now : State} {o : Token} {b : B} → Took (glued c.open_paren) old s1 o
    → (part : Reached Q s2 (at_rule levels (nested o.at p.arguments done) s1) b) → now ≡ s2 → at_rule levels (thread d t) old ≡ at_rule levels (thread_with d t part.value) now
read_comes levels d t {s2 = s2} took part same =
    leads_at levels (thread d t) (to_first_token refl took (over_nested part (leads_here (thread_with d t part.value) s2)))
    ∙ ap (λ x. at_rule levels (thread_with d t part.value) x) (sym same)

pub missing_comes : (levels : ℕ) (d : Bool) (t : Token) {old mid now : State} → (next_meets (glued c.open_paren) old.rest ≡ false) × (mid ≡ old) → now ≡ mid
    → at_rule levels (thread d t) old ≡ at_rule levels (thread_with d t []) now
missing_comes levels d t {old = old} missed same =
    leads_at levels (thread d t) (to_second_token refl missed.0 (leads_here (thread_with d t []) old))
    ∙ ap (λ x. at_rule levels (thread_with d t []) x) (sym (same ∙ missed.1))

pub args_read : {B : Type 0} {Q : B → List Tree → Type 0} (levels : ℕ) (d : Bool) (t : Token) {old s1 s2 now : State} {o : Token} {b : B} → Took (glued c.open_paren) old s1 o
    → Reached Q s2 (at_rule levels (nested o.at p.arguments done) s1) b → now ≡ s2 → ThreadArgs levels d t old now
args_read levels d t {s1 = s1} {s2 = s2} {o = o} took part same = record {
  value = part.value;
  comes = read_comes levels d t took part same;
  shorter = omega (arith, took_less took, nested_no_longer levels o.at p.arguments s1 s2 part, stands_no_longer same);
}

pub args_missing : (levels : ℕ) (d : Bool) (t : Token) {old mid now : State} → (next_meets (glued c.open_paren) old.rest ≡ false) × (mid ≡ old) → now ≡ mid → ThreadArgs levels d t old now
args_missing levels d t missed same = record {
  value = [];
  comes = missing_comes levels d t missed same;
  shorter = stands_no_longer (same ∙ missed.1);
}

-- ---- methods of operands

-- behind the name of a method, and where no brackets follow it
abbrev pub without_arguments : Bool → Tree → Word → Rule p.Part
without_arguments d a w = with_block_of w.text d (λ b. going_on d (call_with_block a w [] b)) (plain_member d a w)

pub to_arguments : {B : Type 0} {Q : B → List Tree → Type 0} (levels : ℕ) (d : Bool) (a : Tree) (w : Word) {old s1 s2 : State} {o : Token} {b : B} → Took (glued c.open_paren) old s1 o
    → (part : Reached Q s2 (at_rule levels (nested o.at p.arguments done) s1) b) → at_rule levels (called d a w) old ≡ at_rule levels (called_with d a w part.value) s2
to_arguments levels d a w {s2 = s2} took part =
    leads_at levels (called d a w) (to_first_token refl took (over_nested part (leads_here (called_with d a w part.value) s2)))

-- ---- whether a block was read

pub one_stood : {w : Walk} {levels : ℕ} {form : BlockRule} {old new : State} {found : Option GrownBlock} {block : GrownBlock}
    → WithBlock w levels form old new (Ok found) → found ≡ Some block → HasBlock w levels form old new block
one_stood {w = w} {levels = levels} {form = form} {old = old} {new = new} h is = subst (λ x. WithBlock w levels form old new (Ok x)) is h

pub none_stood : (w : Walk) {levels : ℕ} {form : BlockRule} {old new : State} {found : Option GrownBlock}
    → WithBlock w levels form old new (Ok found) → found ≡ None → HasNoBlock levels form old new
none_stood w {levels = levels} {form = form} {old = old} {new = new} h is = subst (λ x. WithBlock w levels form old new (Ok x)) is h

-- past where a block might stand
pub past_block : (levels : ℕ) {form : BlockRule} {old new : State} → HasNoBlock levels form old new → (k : BlockTree → Rule p.Part) (without : Rule p.Part)
    → at_rule levels (form k without) old ≡ at_rule levels without new
past_block levels none k without = none.comes k without ∙ ap (λ x. at_rule levels without x) (sym none.stays)

-- ---- what is so where there is no fault

pub no_ok : {B : Type 0} (P : Type 0) (e : ParseFault) (r : Result B ParseFault) → IsErrAnd r (λ f. f ≡ e) → OnOk r P
no_ok P e (Ok b) h = absurd h
no_ok P e (Err f) h = tt

pub on_ok : {B : Type 0} (P : Type 0) (r : Result B ParseFault) → P → OnOk r P
on_ok P (Ok b) h = h
on_ok P (Err f) h = tt

pub ok_then : {B : Type 0} (old mid new : State) → length mid.rest ≤ length old.rest → (r : Result B ParseFault)
    → OnOk r (length new.rest ≤ length mid.rest) → OnOk r (length new.rest ≤ length old.rest)
ok_then old mid new less (Ok b) h = omega (arith, less, h)
ok_then old mid new less (Err e) h = tt

-- ---- operands, by their first token

pub primary_is : (d : Bool) (levels : ℕ) (s : State) (b : Beginning) → b ≡ beginning_of (next_class s.rest) → answer_at levels (p.primary d) s ≡ at_rule levels (alternative d b) s
primary_is d levels s b h = by_rule levels (p.primary d) s ∙ primary_begins (next_class s.rest) d levels s refl ∙ ap (λ x. at_rule levels (alternative d x) s) (sym h)

-- ---- heads

pub beyond_head : {w : Walk} {B : Type 0} {Is : B → p.Part → Type 0} {levels : ℕ} {s new : State} {result : Result B ParseFault} {part : Part} (q : p.Part) (r : Rule p.Part)
    → IsPart w part q → is_head part ≡ false → Follows Is levels r s new result → Follows Is levels (unless_head q r) s new result
beyond_head (p.plain o) r (plain is) not_so h = h
beyond_head (p.head o) r (headed is) not_so h = absurd (cc)

pub over_head : {w : Walk} {levels : ℕ} {s : State} {o : Outcome p.Part} {part : Part} (q : p.Part) (r : Rule p.Part)
    → IsPart w part q → is_head part ≡ false → Leads levels r s o → Leads levels (unless_head q r) s o
over_head (p.plain o) r (plain is) not_so h = h
over_head (p.head o) r (headed is) not_so h = absurd (cc)

pub the_head : {w : Walk} {B : Type 0} {Is : B → p.Part → Type 0} {levels : ℕ} {s new : State} {result : Result B ParseFault} {part : Part} (q : p.Part) (r : Rule p.Part)
    → IsPart w part q → is_head part ≡ true → Follows Is levels (done q) s new result → Follows Is levels (unless_head q r) s new result
the_head (p.plain o) r (plain is) so h = absurd (cc)
the_head (p.head o) r (headed is) so h = h

-- what goes on with an operand
abbrev pub behind_part : Bool → p.Part → Rule p.Part
behind_part d q = any (
    token (is c.dot) (λ t. grammar.operand q (λ a. token (one_of identifiers) (λ w. called d a (word_of w))))
    ∷ token (glued c.open_bracket) (λ t. grammar.operand q (λ a. nested t.at p.index_rest (λ i. phrase (p.postfix_rest d (p.plain (p.indexed a i t.at))) done)))
    ∷ done q
    ∷ [])

module _ {A : Type 0} {levels : ℕ} {o : Outcome A} where
  -- over an operand that was read as a tree
  pub over_operand : {C : Type 0} {Q : C → Tree → Type 0} (q : p.Part) (k : Tree → Rule A) {s s1 : State} {c : C}
      → (part : Reached Q s1 (at_rule levels (grammar.operand q done) s) c) → Leads levels (k part.value) s1 o → Leads levels (grammar.operand q k) s o
  over_operand q k {s = s} part h = record { comes = operand_splits levels q k s ∙ ap (λ x. and_then x (rest_of levels k)) part.reads ∙ h.comes }

  -- over a word, as the code has it
  pub over_as : (k : Word → Rule A) {test : Test} {s s1 : State} {w : code.Word}
      → (took : TookWord test s s1 w) → Leads levels (k (word_by w)) s1 o → Leads levels (token test (λ t. k (word_of t))) s o
  over_as k {s1 = s1} took h = over_word took (subst (λ v. Leads levels (k v) s1 o) took.word h)

-- a cursor that has looked behind the next token has taken none
pub looked_no_longer : (old new : State) {b : Bool} → new ≡ record old { looked = b } → length new.rest ≤ length old.rest
looked_no_longer old new same = rw same (omega arith)
