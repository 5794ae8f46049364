-- Where the last token is the one end, a script is refused at one of the tokens, and what is read is read to the end.
use Rattle.std.proofs.Common.{◌≡◌, ℕ, zero, suc, Bool, true, false, ◌&&◌, ◌||◌, nat_eq, nat_le, if◌then◌else◌, codes, bytes_eq, ◌⊎◌, inl, inr, List, [], ◌∷◌, Option, Some, None, refl, sym, ◌∙◌, ap, subst}
use Rattle.std.specs.List.{list_any}
use Rattle.rb_tree.specs.declared.span.Span.{Span}
use Rattle.rb_lexer.specs.declared.token.Token.{Token}
use Rattle.rb_lexer.specs.declared.token.TokenKind.{TokenKind}
use Rattle.rb_lexer.specs.declared.token.TokenKind.TheVariants as kind
use Rattle.rb_lexer.specs.declared.token.Keyword.{Keyword}
use Rattle.rb_lexer.specs.declared.token.Keyword.TheVariants as keyword
use Rattle.rb_lexer.specs.declared.token.Mark.{Mark}
use Rattle.rb_lexer.specs.declared.token.Mark.TheVariants as mark
use Rattle.rb_grammar.specs.Look.{Test, attribute_words, is_marked, class_of_keyword, class_of_mark, class_of, number, is, one_of}
use Rattle.rb_grammar.specs.Look as c
use Rattle.rb_grammar.specs.Tree.{Word, Tree, TargetTree, no_items}
use Rattle.rb_grammar.specs.Scope.{Scope, is_local, top_level}
use Rattle.rb_grammar.specs.Phrase.{Part, Tier, Phrase, Value}
use Rattle.rb_grammar.specs.Phrase.{or_tier, and_tier, equal_tier, less_tier, shift_tier, sum_tier, product_tier, unary_tier}
use Rattle.rb_grammar.specs.Phrase as p
use Rattle.rb_grammar.specs.Rule.{Rule, done, refuse, token, phrase, nested, built, either, look, pick, known, touching, ahead, scope, next_meets, next_touches, arguments_follow}
use Rattle.rb_grammar.specs.Grammar.{rule, allowed, closing, operators, operand, joined, chained, assigning, target_of, called, thread, commanded, opposite}
use Rattle.rb_grammar.specs.Heads.{begins}
use Rattle.rb_grammar.specs.Reading.{Outcome, read, refused, too_nested, spent, Reader, Reading, from_refused, is_looked_behind, and_then, when, nest, run, reading, read_script, turns_for}
use Rattle.rb_lexer.specs.Spans.{EndsOnce}
use Rattle.rb_grammar.specs.Laws.{EndsWithTokens}
use Rattle.rb_grammar.proofs.Local.{Held, or_held, unset_held}

-- ---- rules that take no end

-- whether a phrase goes on to the end of a script
abbrev pub is_whole : Phrase → Bool
is_whole (p.items found) = true
is_whole (p.items_rest found) = true
is_whole other = false

-- the test does not hold of the end
abbrev pub Misses : Test → Type 0
Misses test = (spaced : Bool) → test c.end spaced ≡ false

-- No way through the rule takes the end, or has a phrase that goes on to it.
abbrev pub NoEnd : {A : Type 0} → Rule A → Type 0
NoEnd (done a) = Unit {0}
NoEnd refuse = Unit {0}
NoEnd (token test k) = Misses test × ((t : Token) → NoEnd (k t))
NoEnd (phrase n k) = (is_whole n ≡ false) × ((v : Value n) → NoEnd (k v))
NoEnd (nested at n k) = (is_whole n ≡ false) × ((v : Value n) → NoEnd (k v))
NoEnd (built a r) = NoEnd r
NoEnd (either q r) = NoEnd q × NoEnd r
NoEnd (look test r) = NoEnd r
NoEnd (pick b q r) = NoEnd q × NoEnd r
NoEnd (known text q r) = NoEnd q × NoEnd r
NoEnd (touching place q r) = NoEnd q × NoEnd r
NoEnd (ahead q r) = NoEnd q × NoEnd r
NoEnd (scope f r) = NoEnd r

-- an operand takes no end where what follows it does not
operand_no_end : {A : Type 0} (part : Part) (k : Tree → Rule A) → ((a : Tree) → NoEnd (k a)) → NoEnd (operand part k)
operand_no_end (p.plain o) k h = search h
operand_no_end (p.head head) k h = tt

-- the `do` of a block is not the end, whether it may stand or not
misses_do : (d : Bool) → Misses (allowed d c.do_word)
misses_do true spaced = refl
misses_do false spaced = refl

-- nor is what ends a block
misses_closing : (in_braces : Bool) → Misses (is (closing in_braces))
misses_closing true spaced = refl
misses_closing false spaced = refl

-- nor is an operator
misses_operators : (tier : Tier) → Misses (one_of (operators tier))
misses_operators unary_tier spaced = refl
misses_operators product_tier spaced = refl
misses_operators sum_tier spaced = refl
misses_operators shift_tier spaced = refl
misses_operators less_tier spaced = refl
misses_operators equal_tier spaced = refl
misses_operators and_tier spaced = refl
misses_operators or_tier spaced = refl

-- two operands that are joined take no end, nor does the chain behind them
joined_no_end : (d : Bool) (tier : Tier) (t : Token) (a b : Tree) → NoEnd (joined tier t a b (λ both. chained d tier both))
joined_no_end d unary_tier t a b = search tt
joined_no_end d product_tier t a b = search tt
joined_no_end d sum_tier t a b = search tt
joined_no_end d shift_tier t a b = search tt
joined_no_end d less_tier t a b = search tt
joined_no_end d equal_tier t a b = search tt
joined_no_end d and_tier t a b = search tt
joined_no_end d or_tier t a b = search tt

-- what follows the name of a call takes no end
called_no_end : (d : Bool) (a : Tree) (w : Word) → NoEnd (called d a w)
called_no_end d a w = search (misses_do d) depth 12

-- nor does what follows the `new` of a thread
thread_no_end : (d : Bool) (t : Token) → NoEnd (thread d t)
thread_no_end d t = search (misses_do d) depth 12

-- nor do the arguments of a command
commanded_no_end : (part : Part) → NoEnd (commanded part)
commanded_no_end (p.plain o) = tt
commanded_no_end (p.head h) = search tt

-- nor does an assignment mark with what is assigned
assigning_no_end : (d : Bool) (part : Part) (target : Option TargetTree) → NoEnd (assigning d part target)
assigning_no_end d part None = tt
assigning_no_end d part (Some target) = search tt

-- nor does the operand of a minus
opposite_no_end : (d : Bool) (t : Token) → NoEnd (opposite d t)
opposite_no_end d t = (refl, λ part. operand_no_end part _ (λ a. tt))

-- the rule of a phrase that does not go on to the end of a script takes no end
no_end : (n : Phrase) → is_whole n ≡ false → NoEnd (rule n)
unfolding rule
no_end (p.items found) e = absurd (cc)
no_end (p.items_rest found) e = absurd (cc)
no_end (p.expression d) e = (refl, commanded_no_end)
no_end (p.argument d) e = (refl, λ part. operand_no_end part done (λ a. tt))
no_end (p.assignment_rest d part) e = assigning_no_end d part (target_of part)
no_end (p.ternary_rest d (p.plain o)) e = search depth 12
no_end (p.ternary_rest d (p.head h)) e = tt
no_end (p.branches d) e =
    (refl, λ first. operand_no_end first _ (λ a. ((λ spaced. refl), λ t. (refl, λ second. operand_no_end second _ (λ b. tt)))))
no_end (p.chain d or_tier) e = search tt
no_end (p.chain d and_tier) e = search tt
no_end (p.chain d equal_tier) e = search tt
no_end (p.chain d less_tier) e = search tt
no_end (p.chain d shift_tier) e = search tt
no_end (p.chain d sum_tier) e = search tt
no_end (p.chain d product_tier) e = search tt
no_end (p.chain d unary_tier) e = search tt
no_end (p.chain_rest d tier (p.plain o)) e =
    ((misses_operators tier, λ t. (refl, λ next. operand_no_end next _ (λ b. joined_no_end d tier t _ b))), tt)
no_end (p.chain_rest d tier (p.head h)) e = tt
no_end (p.unary d) e = (
  ((λ spaced. refl), λ t. (refl, λ part. operand_no_end part _ (λ a. tt))),
  (
    ((λ spaced. refl), λ t. ((((λ spaced. refl), λ i. (refl, λ v. tt)), opposite_no_end d t), opposite_no_end d t)),
    (refl, λ v. tt),
  ),
)
no_end (p.postfix_rest d (p.plain o)) e = search (called_no_end d) depth 12
no_end (p.postfix_rest d (p.head h)) e = tt
no_end (p.primary d) e = search (thread_no_end d) depth 12
no_end (p.otherwise true) e = search depth 12
no_end (p.otherwise false) e = search depth 12
no_end (p.block_body in_braces at words) e = search (misses_closing in_braces)
no_end other e = search depth 12

-- ---- rules that go on to the end of a script

-- no class of an identifier is the end
identifier_no_end : (marked attribute new : Bool)
    → nat_eq 16 (number (if marked then c.marked else if attribute then c.attribute else if new then c.new else c.word)) ≡ false
identifier_no_end true attribute new = refl
identifier_no_end false true new = refl
identifier_no_end false false true = refl
identifier_no_end false false false = refl

-- no keyword is the end
keyword_no_end : (k : Keyword) → nat_eq 16 (number (class_of_keyword k)) ≡ false
keyword_no_end keyword.Class = refl
keyword_no_end other = refl

-- no mark is the end
mark_no_end : (m : Mark) → nat_eq 16 (number (class_of_mark m)) ≡ false
mark_no_end mark.Comma = refl
mark_no_end other = refl

-- the test of the end holds of the end alone
only_end : (k : TokenKind) (spaced : Bool) → is c.end (class_of k) spaced ≡ true → k ≡ kind.End
only_end kind.End spaced e = refl
only_end (kind.Ident text) spaced e =
    let no : true ≡ false = sym e ∙ identifier_no_end (is_marked text) (list_any (bytes_eq text) attribute_words) (bytes_eq text (codes "new")) in absurd (cc)
only_end (kind.Keyword k) spaced e = let no : true ≡ false = sym e ∙ keyword_no_end k in absurd (cc)
only_end (kind.Mark m) spaced e = let no : true ≡ false = sym e ∙ mark_no_end m in absurd (cc)
only_end other spaced e = absurd (cc)

-- nothing follows in the rule
abbrev pub IsDone : {A : Type 0} → Rule A → Type 0
IsDone (done a) = Unit {0}
IsDone other = ⊥

-- Each way through the rule takes the end and is done, or is done behind a phrase that goes on to the end; before that it takes
-- no end. A rule of any other form is none of these.
abbrev pub ToEnd : {A : Type 0} → Rule A → Type 0
ToEnd (token test k) =
    (Misses test × ((t : Token) → ToEnd (k t)))
    ⊎ (((kind_of : TokenKind) (spaced : Bool) → test (class_of kind_of) spaced ≡ true → kind_of ≡ kind.End) × ((t : Token) → IsDone (k t)))
ToEnd (phrase n k) = ((is_whole n ≡ false) × ((v : Value n) → ToEnd (k v))) ⊎ ((is_whole n ≡ true) × ((v : Value n) → IsDone (k v)))
ToEnd (nested at n k) = (is_whole n ≡ false) × ((v : Value n) → ToEnd (k v))
ToEnd (either q r) = ToEnd q × ToEnd r
ToEnd other = ⊥

-- the rule of a phrase that goes on to the end of a script does
to_end : (n : Phrase) → is_whole n ≡ true → ToEnd (rule n)
unfolding rule
to_end (p.items found) e = search (inl, inr, only_end) depth 20
to_end (p.items_rest found) e = search (inl, inr, only_end) depth 20
to_end other e = absurd (cc)

-- ---- the tokens that are left

-- behind a token that meets a test that the end does not, the one end is still left
end_left : (test : Test) → Misses test → (t : Token) (ts : List Token) → EndsOnce (t ∷ ts) → test (class_of t.kind) t.spaced ≡ true → EndsOnce ts
end_left test misses t [] once e =
    let no : true ≡ false = sym e ∙ ap (λ k. test (class_of k) t.spaced) once ∙ misses t.spaced in absurd (cc)
end_left test misses t (u ∷ ts) once e = once.1

-- behind the end nothing is left
end_last : (t : Token) (ts : List Token) → EndsOnce (t ∷ ts) → t.kind ≡ kind.End → ts ≡ []
end_last t [] once e = refl
end_last t (u ∷ ts) once e = absurd (once.0 e)

-- a token is left where the end is
some_left : (ts : List Token) → EndsOnce ts → (t : Token) × (post : List Token) × (ts ≡ t ∷ post)
some_left [] once = absurd once
some_left (t ∷ ts) once = (t, ts, refl)

-- the end is not a minus, spaced or not
misses_minus : Misses (λ class spaced. spaced && is c.minus class spaced)
misses_minus true = refl
misses_minus false = refl

-- of the tokens from where a refusal is told the last is the one end: a token is there
refused_left : (seen : Bool) (ts : List Token) → Held seen ts → EndsOnce ts → EndsOnce (from_refused seen ts)
refused_left false ts held once = once
refused_left true [] held once = absurd once
refused_left true (t ∷ ts) held once = end_left (λ class spaced. spaced && is c.minus class spaced) misses_minus t ts once (held refl)

-- ---- what the reader leaves

-- Where something is read, this is so of the flag and the tokens that are left. Where it is refused, the tokens from there on
-- have the one end.
abbrev pub Leaves : {A : Type 0} → (Bool → List Token → Type 0) → Outcome A → Type 0
Leaves Left (read a s seen us) = Left seen us
Leaves Left (refused us) = EndsOnce us
Leaves Left (too_nested at) = Unit {0}
Leaves Left spent = Unit {0}

-- the end is still left, and the flag is set at a spaced minus alone
abbrev pub Before : Bool → List Token → Type 0
Before seen us = EndsOnce us × Held seen us

-- nothing is left
abbrev pub Behind : Bool → List Token → Type 0
Behind seen us = us ≡ []

-- a choice leaves what both sides do, as far as they may be chosen
leaves_when : {A : Type 0} (Left : Bool → List Token → Type 0) (b : Bool) (f g : Unit {0} → Outcome A)
    → (b ≡ true → Leaves Left (f tt)) → (b ≡ false → Leaves Left (g tt)) → Leaves Left (when b f g)
leaves_when Left true f g holds fails = holds refl
leaves_when Left false f g holds fails = fails refl

-- two steps leave what the second does behind the first
leaves_then : {A B : Type 0} (Between Left : Bool → List Token → Type 0) (o : Outcome A) (f : A → Reader B) → Leaves Between o
    → ((a : A) (s : Scope) (seen : Bool) (us : List Token) → Between seen us → Leaves Left (f a s seen us)) → Leaves Left (and_then o f)
leaves_then Between Left (read a s seen us) f h go = go a s seen us h
leaves_then Between Left (refused us) f h go = h
leaves_then Between Left (too_nested at) f h go = tt
leaves_then Between Left spent f h go = tt

-- reading a phrase of this sort, before the end, leaves this
abbrev pub AllLeave : Bool → (Bool → List Token → Type 0) → (ℕ → Reading) → Type 0
AllLeave whole Left reader = (levels : ℕ) (n : Phrase) (s : Scope) (seen : Bool) (ts : List Token) → is_whole n ≡ whole → EndsOnce ts → Held seen ts
    → Leaves Left (reader levels n s seen ts)

-- what may open leaves what is left inside
leaves_nest : {A : Type 0} (limit : ℕ) (reader : ℕ → Reading) (levels : ℕ) (Left : Bool → List Token → Type 0) (at : Span) (l : ℕ) (f : ℕ → Outcome A)
    → ((left : ℕ) → Leaves Left (f left)) → Leaves Left (nest limit reader levels at l f)
leaves_nest limit reader levels Left at zero f h = tt
leaves_nest limit reader levels Left at (suc left) f h = h left

module _ (limit : ℕ) (reader : ℕ → Reading) (before : AllLeave false Before reader) (levels : ℕ) where
  -- a rule that takes no end leaves it
  run_before : {A : Type 0} (r : Rule A) (s : Scope) (seen : Bool) (ts : List Token) → NoEnd r → EndsOnce ts → Held seen ts → Leaves Before (run limit reader levels r s seen ts)
  run_before (done a) s seen ts clear once held = (once, held)
  run_before refuse s seen ts clear once held = refused_left seen ts held once
  run_before (token test k) s seen [] clear once held = once
  run_before (token test k) s seen (t ∷ ts) clear once held =
      leaves_when Before (test (class_of t.kind) t.spaced) (λ u. run limit reader levels (k t) s false ts) (λ u. refused (from_refused seen (t ∷ ts)))
      (λ meets. run_before (k t) s false ts (clear.1 t) (end_left test clear.0 t ts once meets) (unset_held ts))
      (λ fails. refused_left seen (t ∷ ts) held once)
  run_before (phrase n k) s seen ts clear once held =
      leaves_then Before Before (reader levels n s seen ts) (λ v. run limit reader levels (k v)) (before levels n s seen ts clear.0 once held)
      (λ v s' flag us h. run_before (k v) s' flag us (clear.1 v) h.0 h.1)
  run_before (nested at n k) s seen ts clear once held =
      leaves_nest limit reader levels Before at levels (λ left. and_then (reader left n s seen ts) (λ v. run limit reader levels (k v))) (λ left.
      leaves_then Before Before (reader left n s seen ts) (λ v. run limit reader levels (k v)) (before left n s seen ts clear.0 once held)
      (λ v s' flag us h. run_before (k v) s' flag us (clear.1 v) h.0 h.1))
  run_before (built a r) s seen ts clear once held =
      leaves_when Before (nat_le a.height limit) (λ u. run limit reader levels r s seen ts) (λ u. too_nested a.at)
      (λ holds. run_before r s seen ts clear once held) (λ fails. tt)
  run_before (either q r) s seen ts clear once held =
      leaves_when Before (begins q ts) (λ u. run limit reader levels q s seen ts) (λ u. run limit reader levels r s seen ts)
      (λ holds. run_before q s seen ts clear.0 once held) (λ fails. run_before r s seen ts clear.1 once held)
  run_before (look test r) s seen ts clear once held =
      leaves_when Before (next_meets test ts) (λ u. run limit reader levels r s seen ts) (λ u. refused (from_refused seen ts))
      (λ holds. run_before r s seen ts clear once held) (λ fails. refused_left seen ts held once)
  run_before (pick b q r) s seen ts clear once held =
      leaves_when Before b (λ u. run limit reader levels q s seen ts) (λ u. run limit reader levels r s seen ts)
      (λ holds. run_before q s seen ts clear.0 once held) (λ fails. run_before r s seen ts clear.1 once held)
  run_before (known text q r) s seen ts clear once held =
      leaves_when Before (is_local text s) (λ u. run limit reader levels q s seen ts) (λ u. run limit reader levels r s seen ts)
      (λ holds. run_before q s seen ts clear.0 once held) (λ fails. run_before r s seen ts clear.1 once held)
  run_before (touching place q r) s seen ts clear once held =
      leaves_when Before (next_touches place ts) (λ u. run limit reader levels q s seen ts) (λ u. run limit reader levels r s seen ts)
      (λ holds. run_before q s seen ts clear.0 once held) (λ fails. run_before r s seen ts clear.1 once held)
  run_before (ahead q r) s seen ts clear once held =
      let flag : Bool = is_looked_behind ts || seen in
      let holding : Held flag ts = or_held (is_looked_behind ts) seen held in
      leaves_when Before (arguments_follow ts) (λ u. run limit reader levels q s flag ts) (λ u. run limit reader levels r s flag ts)
      (λ holds. run_before q s flag ts clear.0 once holding) (λ fails. run_before r s flag ts clear.1 once holding)
  run_before (scope f r) s seen ts clear once held = run_before r (f s) seen ts clear once held

module _ (limit : ℕ) (reader : ℕ → Reading) (before : AllLeave false Before reader) (behind : AllLeave true Behind reader) (levels : ℕ) where
  -- where nothing is left, a rule that is done leaves nothing
  run_done : {A : Type 0} (r : Rule A) (s : Scope) (seen : Bool) (ts : List Token) → IsDone r → ts ≡ [] → Leaves Behind (run limit reader levels r s seen ts)
  run_done (done a) s seen ts is_done nothing = nothing
  run_done other s seen ts is_done nothing = absurd is_done

  -- a rule that goes on to the end of a script leaves nothing
  run_behind : {A : Type 0} (r : Rule A) (s : Scope) (seen : Bool) (ts : List Token) → ToEnd r → EndsOnce ts → Held seen ts → Leaves Behind (run limit reader levels r s seen ts)
  run_behind (token test k) s seen [] goes once held = once
  run_behind (token test k) s seen (t ∷ ts) (inl goes) once held =
      leaves_when Behind (test (class_of t.kind) t.spaced) (λ u. run limit reader levels (k t) s false ts) (λ u. refused (from_refused seen (t ∷ ts)))
      (λ meets. run_behind (k t) s false ts (goes.1 t) (end_left test goes.0 t ts once meets) (unset_held ts))
      (λ fails. refused_left seen (t ∷ ts) held once)
  run_behind (token test k) s seen (t ∷ ts) (inr ends) once held =
      leaves_when Behind (test (class_of t.kind) t.spaced) (λ u. run limit reader levels (k t) s false ts) (λ u. refused (from_refused seen (t ∷ ts)))
      (λ meets. run_done (k t) s false ts (ends.1 t) (end_last t ts once (ends.0 t.kind t.spaced meets)))
      (λ fails. refused_left seen (t ∷ ts) held once)
  run_behind (phrase n k) s seen ts (inl goes) once held =
      leaves_then Before Behind (reader levels n s seen ts) (λ v. run limit reader levels (k v)) (before levels n s seen ts goes.0 once held)
      (λ v s' flag us h. run_behind (k v) s' flag us (goes.1 v) h.0 h.1)
  run_behind (phrase n k) s seen ts (inr ends) once held =
      leaves_then Behind Behind (reader levels n s seen ts) (λ v. run limit reader levels (k v)) (behind levels n s seen ts ends.0 once held)
      (λ v s' flag us nothing. run_done (k v) s' flag us (ends.1 v) nothing)
  run_behind (nested at n k) s seen ts goes once held =
      leaves_nest limit reader levels Behind at levels (λ left. and_then (reader left n s seen ts) (λ v. run limit reader levels (k v))) (λ left.
      leaves_then Before Behind (reader left n s seen ts) (λ v. run limit reader levels (k v)) (before left n s seen ts goes.0 once held)
      (λ v s' flag us h. run_behind (k v) s' flag us (goes.1 v) h.0 h.1))
  run_behind (either q r) s seen ts goes once held =
      leaves_when Behind (begins q ts) (λ u. run limit reader levels q s seen ts) (λ u. run limit reader levels r s seen ts)
      (λ holds. run_behind q s seen ts goes.0 once held) (λ fails. run_behind r s seen ts goes.1 once held)
  run_behind other s seen ts goes once held = absurd goes

-- ---- phrases and scripts

-- what is read of a phrase that does not go on to the end of a script has the end behind it
pub reading_before : (limit turns : ℕ) → AllLeave false Before (reading limit turns)
reading_before limit zero levels n s seen ts inside once held = tt
reading_before limit (suc turns) levels n s seen ts inside once held =
    run_before limit (reading limit turns) (reading_before limit turns) levels (rule n) s seen ts (no_end n inside) once held

-- a phrase that goes on to the end of a script is read to the end
pub reading_behind : (limit turns : ℕ) → AllLeave true Behind (reading limit turns)
reading_behind limit zero levels n s seen ts whole once held = tt
reading_behind limit (suc turns) levels n s seen ts whole once held =
    run_behind limit (reading limit turns) (reading_before limit turns) (reading_behind limit turns) levels (rule n) s seen ts (to_end n whole) once held

-- Where the last token is the one end, the reader refuses one of the tokens or reads them all.
pub script_ends : EndsWithTokens
script_ends limit levels tokens once =
    let left : Leaves Behind (read_script limit levels tokens) =
    reading_behind limit (turns_for tokens) levels (p.items no_items) top_level false tokens refl once (unset_held tokens) in
    (λ us e. some_left us (subst (λ o. Leaves Behind o) e left), λ found s seen us e. subst (λ o. Leaves Behind o) e left)
