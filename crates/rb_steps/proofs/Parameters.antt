-- How the parameters of blocks and methods are read.
use Rattle.std.proofs.Common.{◌≡◌, ℕ, suc, zero, Bool, true, false, not, List, [], ◌∷◌, ◌++◌, ◌≤◌, ◌<◌, length, take, get_or, refl, sym, ap, ◌∙◌, subst, Result, Ok, Err, arith}
use Rattle.std.specs.Prelude.{map, IsErrAnd}
use Rattle.std.proofs.Math.Seq.{take-suc}
use Rattle.std.proofs.lemmas.List.{map-append}
use Rattle.rb_tree.specs.declared.span.Span.{Span}
use Rattle.rb_lexer.specs.declared.token.Token.{Token}
use Rattle.rb_grammar.specs.Look.{Test, is, one_of, other_than, open_paren, end_word, line}
use Rattle.rb_grammar.specs.Tree.{Word, Tree, BlockTree, MethodTree}
use Rattle.rb_grammar.specs.Scope.{Scope, with_local, with_params, enter_method, enter_block, leave}
use Rattle.rb_grammar.specs.Phrase.{Phrase, Value}
use Rattle.rb_grammar.specs.Phrase as p
use Rattle.rb_grammar.specs.Rule.{Rule, done, token, phrase, nested, look, scope, next_meets}
use Rattle.rb_grammar.specs.Grammar.{rule, identifiers, method_named}
use Rattle.rb_grammar.specs.Heads.{begins}
use Rattle.rb_grammar.specs.Reading.{Outcome, and_then, read, refused, answer, run}
use Rattle.rb_grammar.specs.Program.{max_height}
use Rattle.rb_cursor.specs.State.{State, answer_at, Failed, memory, Took, Came}
use Rattle.rb_cursor.specs.Here.{at_rule}
use Rattle.rb_cursor.specs.Word.{word_by, AreWords, TookWord}
use Rattle.rb_cursor.specs.declared.word.Word as code
use Rattle.rb_cursor.specs.declared.fault.ParseFault.{ParseFault}
use Rattle.rb_cursor.specs.declared.fault.ParseFault.TheVariants as fault
use Rattle.rb_cursor.proofs.Steps.{by_rule, token_taken, phrase_read, phrase_fails, nested_read, nested_fails, no_level, look_meets}
use Rattle.rb_cursor.proofs.Steps.{Follows, Leads, first_token, to_first_token, to_second, to_second_token, arrives, leads_to}
use Rattle.rb_steps.specs.declared.params.MethodHead.{MethodHead}
use Rattle.rb_steps.specs.GoesTo.{GoesTo}
use Rattle.rb_steps.specs.Within.{bars, behind_name, behind_params, some_in_brackets, within_block, within_method, WentIntoBlock, WentIntoMethod}

-- ---- rules that go on

-- a place where nothing more is said of the rule
pub stays : {A : Type 0} (levels : ℕ) (r : Rule A) (s : State) → Leads levels r s (at_rule levels r s)
stays levels r s = record { comes = refl }

pub leads_there : {A : Type 0} (levels : ℕ) (r : Rule A) (s : State) (o : Outcome A) → Leads levels r s o → at_rule levels r s ≡ o
leads_there levels r s o h = h.comes

-- a phrase that comes to what another comes to further on
pub phrase_as : {A : Type 0} (levels : ℕ) (n : Phrase) (k : Value n → Rule A) (s : State) (o : Outcome (Value n))
    → answer_at levels n s ≡ o → at_rule levels (phrase n k) s ≡ and_then o (λ v. run max_height (answer max_height) levels (k v))
phrase_as levels n k s o h = ap (λ o. and_then o (λ v. run max_height (answer max_height) levels (k v))) h

-- a fault is that of the rule
pub fails_there : {A : Type 0} (levels : ℕ) (r : Rule A) (s : State) {e : ParseFault}
    → Follows {B = Unit {0}} (λ b a. Unit {0}) levels r s s (Err e) → Failed (at_rule levels r s) e
fails_there levels r s h = h.came

-- a fault that is handed on
pub handed_to : {A B : Type 0} (levels : ℕ) (r : Rule A) (left : B → Rule A) (old new : State) (result : Result B ParseFault) {e : ParseFault}
    → IsErrAnd result (λ f. f ≡ e) → Failed (at_rule levels r old) e → GoesTo levels r left old new result
handed_to levels r left old new (Ok b) h failed = absurd h
handed_to levels r left old new (Err f) h failed = rw h failed

told : {B : Type 0} → Result B ParseFault → ParseFault
told (Ok b) = fault.Memory
told (Err e) = e

-- a fault that wants memory
pub wanted_memory : {A B : Type 0} {o : Outcome A} {e : ParseFault} → ◌≡◌ {A = Result B ParseFault} (Err e) (Err fault.Memory) → Failed o e
unfolding told
wanted_memory {o = o} h = subst (λ x. Failed o x) (sym (ap told h)) memory

-- ---- the parameters of a block

-- what is left of a block behind some of its parameters
abbrev pub after_names : Bool → Span → List Word → Rule BlockTree
after_names in_braces at words = phrase (p.bar_params_rest words) (λ ws. phrase (p.block_body in_braces at ws) done)

module _ (levels : ℕ) (in_braces : Bool) (at : Span) (words : List Word) where
  pub names_fail : (s : State) {e : ParseFault} → Failed (answer_at levels (p.bar_params_rest words) s) e → Failed (at_rule levels (after_names in_braces at words) s) e
  names_fail s h = phrase_fails levels (p.bar_params_rest words) (λ ws. phrase (p.block_body in_braces at ws) done) s h

  pub names_as : (more : List Word) (s s1 : State) → answer_at levels (p.bar_params_rest words) s ≡ answer_at levels (p.bar_params_rest more) s1
      → at_rule levels (after_names in_braces at words) s ≡ at_rule levels (after_names in_braces at more) s1
  names_as more s s1 h = phrase_as levels (p.bar_params_rest words) (λ ws. phrase (p.block_body in_braces at ws) done) s (answer_at levels (p.bar_params_rest more) s1) h

  pub names_end : (s s1 : State) → answer_at levels (p.bar_params_rest words) s ≡ read words s1.scope s1.looked s1.rest
      → at_rule levels (after_names in_braces at words) s ≡ at_rule levels (phrase (p.block_body in_braces at words) done) s1
  names_end s s1 h = phrase_read levels (p.bar_params_rest words) (λ ws. phrase (p.block_body in_braces at ws) done) s s1 words h

-- ---- what opens

pub opens : {A : Type 0} (levels left : ℕ) (at : Span) (n : Phrase) (k : Value n → Rule A) (s s1 : State) (v : Value n)
    → levels ≡ suc left → answer_at left n s ≡ read v s1.scope s1.looked s1.rest → at_rule levels (nested at n k) s ≡ at_rule levels (k v) s1
opens levels left at n k s s1 v e h =
    subst (λ x. at_rule x (nested at n k) s ≡ at_rule x (k v) s1) (sym e) (nested_read left at n k s s1 v h)

pub opens_none : {A : Type 0} (levels : ℕ) (at : Span) (n : Phrase) (k : Value n → Rule A) (s : State) (e : ParseFault)
    → levels ≡ zero → e ≡ fault.TooNested at.from → Failed (at_rule levels (nested at n k) s) e
opens_none levels at n k s e none told = rw (none, told) (no_level at n k s)

pub opens_fails : {A : Type 0} (levels left : ℕ) (at : Span) (n : Phrase) (k : Value n → Rule A) (s : State) (e : ParseFault)
    → levels ≡ suc left → Failed (answer_at left n s) e → Failed (at_rule levels (nested at n k) s) e
opens_fails levels left at n k s e same h = subst (λ x. Failed (at_rule x (nested at n k) s) e) (sym same) (nested_fails left at n k s h)

module _ {A : Type 0} {levels left : ℕ} {at : Span} {n : Phrase} {k : Value n → Rule A} {s : State} where
  pub nests : {o : Outcome A} (s1 : State) (v : Value n) → levels ≡ suc left → answer_at left n s ≡ read v s1.scope s1.looked s1.rest
      → Leads levels (k v) s1 o → Leads levels (nested at n k) s o
  nests s1 v e h r = record { comes = opens levels left at n k s s1 v e h ∙ r.comes }

  pub nests_fails : {B : Type 0} {Is : B → A → Type 0} {new : State} {e : ParseFault} → levels ≡ suc left → Failed (answer_at left n s) e
      → Follows Is levels (nested at n k) s new (Err e)
  nests_fails {e = e} same h = record { came = opens_fails levels left at n k s e same h }

pub nests_none : {A B : Type 0} {Is : B → A → Type 0} {levels : ℕ} {at : Span} {n : Phrase} {k : Value n → Rule A} {s new : State} {e : ParseFault}
    → (e ≡ fault.TooNested at.from) × (levels ≡ zero) → Follows Is levels (nested at n k) s new (Err e)
nests_none {levels = levels} {at = at} {n = n} {k = k} {s = s} {e = e} (told, none) = record { came = opens_none levels at n k s e none told }

-- ---- the parameters of a method

no_end : (levels : ℕ) (k : Token → Rule MethodTree) (sc : Scope) (seen : Bool)
    → at_rule levels (token (is end_word) k) (record { scope = sc; looked = seen; rest = [] }) ≡ refused []
no_end levels k sc true = refl
no_end levels k sc false = refl

nothing_there : (levels : ℕ) (s : State) → s.rest ≡ [] → answer_at levels (p.body []) s ≡ read [] s.scope s.looked s.rest
unfolding rule
nothing_there levels s e =
    leads_to levels (p.body []) s (read [] s.scope s.looked s.rest)
    (to_second_token refl (ap (next_meets (is line)) e) (to_second (ap (begins {A = List Tree} (phrase p.statement (λ a. phrase (p.body_rest (a ∷ [])) done))) e) (stays levels (done []) s)))

-- a method without brackets: no body stands at the end of the tokens either
no_body : (levels : ℕ) (w : Word) (sc : Scope) (seen : Bool)
    → at_rule levels (behind_name w []) (record { scope = sc; looked = seen; rest = [] }) ≡ refused []
unfolding rule
no_body levels w sc seen =
    let here : State = record { scope = sc; looked = seen; rest = [] } in
    let end : List Tree → Token → Rule MethodTree = λ b e. scope leave (done (record { name = w; params = []; body = b })) in
    (arrives levels (p.method_body w []) here).comes
    ∙ by_rule levels (p.method_body w []) here
    ∙ phrase_read levels (p.body []) (λ b. token (is end_word) (end b)) here here [] (nothing_there levels here refl)
    ∙ no_end levels (end []) sc seen

not_opened : (levels : ℕ) (w : Word) (sc : Scope) (seen : Bool) (rest : List Token) → next_meets (is open_paren) rest ≡ false
    → at_rule levels (look (other_than (is open_paren)) (behind_name w [])) (record { scope = sc; looked = seen; rest = rest })
    ≡ at_rule levels (behind_name w []) (record { scope = sc; looked = seen; rest = rest })
not_opened levels w sc true [] h = sym (no_body levels w sc true)
not_opened levels w sc false [] h = sym (no_body levels w sc false)
not_opened levels w sc seen (t ∷ ts) h =
    look_meets levels (other_than (is open_paren)) (behind_name w []) (record { scope = sc; looked = seen; rest = t ∷ ts }) (ap not h)

pub without_brackets : (levels : ℕ) (w : Word) (s : State) → next_meets (is open_paren) s.rest ≡ false
    → Leads levels (look (other_than (is open_paren)) (behind_name w [])) s (at_rule levels (behind_name w []) s)
without_brackets levels w s h = record { comes = not_opened levels w s.scope s.looked s.rest h }

-- parameters in their brackets, or a fault among them
pub in_brackets : (levels left : ℕ) (w : Word) (old s new : State) (t : Token) (result : Result (List code.Word) ParseFault)
    → Took (is open_paren) old s t → levels ≡ suc left → Came AreWords new (answer_at left p.params s) result
    → GoesTo levels (some_in_brackets w) (behind_params w) old new result
in_brackets levels left w old s new t (Ok words) took same part =
    leads_there levels (some_in_brackets w) old (at_rule levels (behind_name w part.value) new)
    (to_first_token refl took (nests new part.value same part.reads (stays levels (behind_name w part.value) new)))
    ∙ ap (λ ws. at_rule levels (behind_name w ws) new) (sym part.same)
in_brackets levels left w old s new t (Err e) took same part =
    fails_there levels (some_in_brackets w) old (first_token refl took (nests_fails same part))

-- ---- what is left behind the parameters

pub left_of_block : (levels : ℕ) (in_braces : Bool) (at : Span) (ws : List Word) (s new : State) → new ≡ record s { scope = with_params ws s.scope }
    → at_rule levels (phrase (p.block_body in_braces at ws) done) s ≡ at_rule levels (within_block in_braces at ws) new
unfolding rule
left_of_block levels in_braces at ws s new e =
    (arrives levels (p.block_body in_braces at ws) s).comes ∙ by_rule levels (p.block_body in_braces at ws) s ∙ ap (at_rule levels (within_block in_braces at ws)) (sym e)

pub left_of_method : (levels : ℕ) (w : Word) (ws : List Word) (s new : State) → new ≡ record s { scope = with_params ws s.scope }
    → at_rule levels (behind_name w ws) s ≡ at_rule levels (within_method w ws) new
unfolding rule
left_of_method levels w ws s new e =
    (arrives levels (p.method_body w ws) s).comes ∙ by_rule levels (p.method_body w ws) s ∙ ap (at_rule levels (within_method w ws)) (sym e)

-- behind the name of a method
pub behind_the_name : (levels : ℕ) (old s1 s2 : State) (w : code.Word) (took : TookWord (one_of identifiers) old s1 w) → s2 ≡ record s1 { scope = enter_method s1.scope }
    → answer_at levels p.method_rest old ≡ at_rule levels (method_named took.token) s2
unfolding rule
behind_the_name levels old s1 s2 w took e =
    by_rule levels p.method_rest old
    ∙ token_taken levels (one_of identifiers) (λ t. scope enter_method (method_named t)) old s1 took.token took.took
    ∙ ap (at_rule levels (method_named took.token)) (sym e)

-- behind what begins a block
pub inside_block : (levels : ℕ) (in_braces : Bool) (at : Span) (old s1 : State) → s1 ≡ record old { scope = enter_block old.scope }
    → answer_at levels (p.block_rest in_braces at) old ≡ at_rule levels (bars in_braces at) s1
unfolding rule
inside_block levels in_braces at old s1 e = by_rule levels (p.block_rest in_braces at) old ∙ ap (at_rule levels (bars in_braces at)) (sym e)

pub handed_block : (levels : ℕ) (in_braces : Bool) (at : Span) (old new : State) (result : Result (List code.Word) ParseFault) {e : ParseFault}
    → IsErrAnd result (λ f. f ≡ e) → Failed (answer_at levels (p.block_rest in_braces at) old) e → WentIntoBlock levels in_braces at old new result
handed_block levels in_braces at old new (Ok b) h failed = absurd h
handed_block levels in_braces at old new (Err f) h failed = rw h failed

pub handed_method : (levels : ℕ) (old new : State) (result : Result MethodHead ParseFault) {e : ParseFault}
    → IsErrAnd result (λ f. f ≡ e) → Failed (answer_at levels p.method_rest old) e → WentIntoMethod levels old new result
handed_method levels old new (Ok b) h failed = absurd h
handed_method levels old new (Err f) h failed = rw h failed

-- ---- tokens that are left

pub took_shorter : (test : Test) (old new : State) (t : Token) → Took test old new t → length new.rest ≤ length old.rest
took_shorter test old new t took = rw took.split (omega arith)

-- ---- scopes

pub with_one_more : (ws : List Word) (w : Word) (s : Scope) → with_params (ws ++ w ∷ []) s ≡ with_local w.text (with_params ws s)
with_one_more [] w s = refl
with_one_more (v ∷ vs) w s = with_one_more vs w (with_local v.text s)

pub one_more_local : (ws : List code.Word) (i j : ℕ) (d : code.Word) (start s next : State) → i < length ws → j ≡ suc i
    → s ≡ record start { scope = with_params (map word_by (take i ws)) start.scope } → next ≡ record s { scope = with_local (get_or ws i d).text.now s.scope }
    → next ≡ record start { scope = with_params (map word_by (take j ws)) start.scope }
one_more_local ws i j d start s next h is before step =
    let words : map word_by (take j ws) ≡ map word_by (take i ws) ++ word_by (get_or ws i d) ∷ [] =
    ap (λ m. map word_by (take m ws)) is ∙ ap (map word_by) (take-suc ws i d h) ∙ map-append word_by (take i ws) (get_or ws i d ∷ []) in
    step ∙ ap (λ (x : State). record x { scope = with_local (get_or ws i d).text.now x.scope }) before
    ∙ ap (λ (sc : Scope). record start { scope = sc })
    (sym (ap (λ vs. with_params vs start.scope) words ∙ with_one_more (map word_by (take i ws)) (word_by (get_or ws i d)) start.scope))
