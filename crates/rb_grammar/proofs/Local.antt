-- The reader is local: what it answers hangs on no token behind the one at which it stops, but for this, that behind a spaced
-- minus it may have seen whether the next token is glued. And wider limits, more turns and more levels keep every answer that
-- is read or refused.
use Rattle.std.proofs.Common.{◌≡◌, ℕ, zero, suc, ◌≤◌, Bool, true, false, ◌&&◌, ◌||◌, nat_le, List, [], ◌∷◌, ◌++◌, refl, sym, ◌∙◌, ap, subst, append_assoc, arith}
use Rattle.std.proofs.lemmas.Bool.{or_left, or_right, leb-true, le-leb}
use Rattle.rb_tree.specs.declared.span.Span.{Span}
use Rattle.rb_lexer.specs.declared.token.Token.{Token}
use Rattle.rb_grammar.specs.Look.{Test, class_of, is}
use Rattle.rb_grammar.specs.Look as look_at
use Rattle.rb_grammar.specs.Tree.{Items, no_items}
use Rattle.rb_grammar.specs.Scope.{Scope, top_level, is_local}
use Rattle.rb_grammar.specs.Phrase.{Phrase, Value}
use Rattle.rb_grammar.specs.Phrase as p
use Rattle.rb_grammar.specs.Rule.{Rule, done, refuse, token, phrase, nested, built, either, look, pick, known, touching, ahead, scope, next_meets, next_touches, begins_arguments, arguments_follow}
use Rattle.rb_grammar.specs.Grammar.{rule}
use Rattle.rb_grammar.specs.Heads.{begins}
use Rattle.rb_grammar.specs.Reading.{Outcome, read, refused, too_nested, spent, Reader, Reading, and_then, when, from_refused, is_looked_behind, nest, run, reading, reading_script}

-- ---- what it is to be local

-- where the reader has seen what follows the next token, these and those tokens are alike to it behind that
abbrev pub Agrees : Token → Bool → List Token → List Token → Type 0
Agrees t seen post other = seen ≡ true → next_touches t.at post ≡ next_touches t.at other

-- the flag is set at a spaced minus alone
abbrev pub Held : Bool → List Token → Type 0
Held seen ts = seen ≡ true → is_looked_behind ts ≡ true

-- The reader q, which begins on ts with the flag seen, stops at r with the flag left, and answers so; and it answers the same
-- on all tokens that go on otherwise behind the first token of r. (That q answers so on ts itself is told apart, as r may be
-- empty.)
pub record Stops {A : Type 0} (q : List Token → Outcome A) (seen : Bool) (ts : List Token) (answer : List Token → Outcome A) (left : Bool) (r : List Token) : Type 0 where
  pub front : List Token
  pub split : ts ≡ front ++ r
  pub more : q ts ≡ answer r
  pub same : (t : Token) (post other : List Token) → r ≡ t ∷ post → Agrees t left post other → q (front ++ t ∷ other) ≡ answer (t ∷ other)
  -- where nothing is taken the flag is kept
  pub kept : front ≡ [] → seen ≡ true → left ≡ true
  pub held : Held left r

-- q stops as this outcome says. Of limits that are passed nothing is said. Behind the token at which it refuses it has seen
-- nothing.
abbrev pub Local : {A : Type 0} → (List Token → Outcome A) → Bool → List Token → Outcome A → Type 0
Local q seen ts (read a s left r) = Stops q seen ts (read a s left) left r
Local q seen ts (refused r) = Stops q seen ts refused false r
Local q seen ts (too_nested at) = Unit {0}
Local q seen ts spent = Unit {0}

-- ---- tests of the next token

-- this test looks at the next token alone
abbrev LooksAtNext : (List Token → Bool) → Type 0
LooksAtNext b = (t : Token) (us vs : List Token) → b (t ∷ us) ≡ b (t ∷ vs)

-- so it holds alike of tokens that part behind some token
far : (b : List Token → Bool) → LooksAtNext b → (front : List Token) (t : Token) (us vs : List Token) → b (front ++ t ∷ us) ≡ b (front ++ t ∷ vs)
far b next [] t us vs = next t us vs
far b next (u ∷ front) t us vs = next u (front ++ t ∷ us) (front ++ t ∷ vs)

-- and is known on others by what it is here
known_far : (b : List Token → Bool) → LooksAtNext b → (c : Bool) (ts front : List Token) (t : Token) (post other : List Token)
    → b ts ≡ c → ts ≡ front ++ t ∷ post → b (front ++ t ∷ other) ≡ c
known_far b next c ts front t post other e split = far b next front t other post ∙ sym (ap b split) ∙ e

-- whether arguments follow hangs on the next token, and where that is a spaced minus on what follows it
arguments_by : (spaced begins_one minus : Bool) (here there : Bool) → (spaced && minus ≡ true → here ≡ there)
    → spaced && (begins_one || (minus && here)) ≡ spaced && (begins_one || (minus && there))
arguments_by false begins_one minus here there e = refl
arguments_by true true minus here there e = refl
arguments_by true false false here there e = refl
arguments_by true false true here there e = e refl

-- so it is the same where tokens part behind a token, if they agree wherever that token is looked behind
arguments_alike : (front : List Token) (t : Token) (us vs : List Token) → (front ≡ [] → is_looked_behind (t ∷ us) ≡ true → next_touches t.at us ≡ next_touches t.at vs)
    → arguments_follow (front ++ t ∷ us) ≡ arguments_follow (front ++ t ∷ vs)
arguments_alike [] t us vs e =
    arguments_by t.spaced (begins_arguments (class_of t.kind) t.spaced) (is look_at.minus (class_of t.kind) t.spaced) (next_touches t.at us) (next_touches t.at vs) (e refl)
arguments_alike (u ∷ front) t us vs e =
    ap (λ glued. u.spaced && (begins_arguments (class_of u.kind) u.spaced || (is look_at.minus (class_of u.kind) u.spaced && glued)))
    (far (next_touches u.at) (λ x xs ys. refl) front t us vs)

-- ---- lists and flags

-- of two lists that make none both are empty
nothing_first : (us vs : List Token) → us ++ vs ≡ [] → us ≡ []
nothing_first [] vs e = refl
nothing_first (u ∷ us) vs e = absurd (cc)

nothing_second : (us vs : List Token) → us ++ vs ≡ [] → vs ≡ []
nothing_second [] vs e = e
nothing_second (u ∷ us) vs e = absurd (cc)

-- where the second flag is set only if the first is, both together say what the first says
pub or_held : (a b : Bool) → (b ≡ true → a ≡ true) → a || b ≡ true → a ≡ true
or_held true b h e = refl
or_held false b h e = h e

-- ---- steps of a reader

-- Where a reader answers as another does, on these tokens and on those that the other reads alike, it stops as the other does.
carried : {A : Type 0} (q other_reader : List Token → Outcome A) (seen flag : Bool) (ts : List Token)
    → q ts ≡ other_reader ts
    → ((front : List Token) (t : Token) (post other : List Token) → ts ≡ front ++ t ∷ post → (front ≡ [] → Agrees t flag post other)
    → q (front ++ t ∷ other) ≡ other_reader (front ++ t ∷ other))
    → (seen ≡ true → flag ≡ true)
    → (answer : List Token → Outcome A) (left : Bool) (r : List Token) → Stops other_reader flag ts answer left r → Stops q seen ts answer left r
carried q other_reader seen flag ts here there sets answer left r x = record {
  front = x.front;
  split = x.split;
  more = here ∙ x.more;
  same = λ t post other e agrees.
      there x.front t post other (x.split ∙ ap (λ us. x.front ++ us) e) (λ nothing set. agrees (x.kept nothing set))
      ∙ x.same t post other e agrees;
  kept = λ nothing set. x.kept nothing (sets set);
  held = x.held;
}

-- the same, of any outcome
carry : {A : Type 0} (q other_reader : List Token → Outcome A) (seen flag : Bool) (ts : List Token)
    → q ts ≡ other_reader ts
    → ((front : List Token) (t : Token) (post other : List Token) → ts ≡ front ++ t ∷ post → (front ≡ [] → Agrees t flag post other)
    → q (front ++ t ∷ other) ≡ other_reader (front ++ t ∷ other))
    → (seen ≡ true → flag ≡ true)
    → (o : Outcome A) → Local other_reader flag ts o → Local q seen ts o
carry q other_reader seen flag ts here there sets (read a s left r) x = carried q other_reader seen flag ts here there sets (read a s left) left r x
carry q other_reader seen flag ts here there sets (refused r) x = carried q other_reader seen flag ts here there sets refused false r x
carry q other_reader seen flag ts here there sets (too_nested at) x = tt
carry q other_reader seen flag ts here there sets spent x = tt

-- what a condition chooses is local where each of the two is, as far as it may be chosen
choose : {A : Type 0} (q : List Token → Outcome A) (seen : Bool) (ts : List Token) (b : Bool) (f g : Unit {0} → Outcome A)
    → (b ≡ true → Local q seen ts (f tt)) → (b ≡ false → Local q seen ts (g tt)) → Local q seen ts (when b f g)
choose q seen ts true f g holds fails = holds refl
choose q seen ts false f g holds fails = fails refl

-- a reader that chooses by the next token, where it is known what it chooses
of_two : {A : Type 0} (b : List Token → Bool) → LooksAtNext b → (f g : List Token → Outcome A) (seen : Bool) (ts : List Token) (c : Bool) → b ts ≡ c
    → (o : Outcome A) → Local (λ us. when c (λ u. f us) (λ u. g us)) seen ts o → Local (λ us. when (b us) (λ u. f us) (λ u. g us)) seen ts o
of_two b next f g seen ts c e = carry (λ us. when (b us) (λ u. f us) (λ u. g us)) (λ us. when c (λ u. f us) (λ u. g us)) seen seen ts
    (ap (λ d. when d (λ u. f ts) (λ u. g ts)) e)
    (λ front t post other split agrees.
    ap (λ d. when d (λ u. f (front ++ t ∷ other)) (λ u. g (front ++ t ∷ other))) (known_far b next c ts front t post other e split))
    (λ set. set)

-- a reader that chooses by the next token is local where both that it chooses from are
two_local : {A : Type 0} (b : List Token → Bool) → LooksAtNext b → (f f' g g' : List Token → Outcome A) (seen : Bool) (ts : List Token)
    → Local f' seen ts (f ts) → Local g' seen ts (g ts) → Local (λ us. when (b us) (λ u. f' us) (λ u. g' us)) seen ts (when (b ts) (λ u. f ts) (λ u. g ts))
two_local b next f f' g g' seen ts x y =
    choose (λ us. when (b us) (λ u. f' us) (λ u. g' us)) seen ts (b ts) (λ u. f ts) (λ u. g ts)
    (λ holds. of_two b next f' g' seen ts true holds (f ts) x)
    (λ fails. of_two b next f' g' seen ts false fails (g ts) y)

-- on other tokens the arguments of a command follow as they do here
ahead_far : {A : Type 0} (f g : Bool → List Token → Outcome A) (seen : Bool) (ts front : List Token) (t : Token) (post other : List Token)
    → ts ≡ front ++ t ∷ post → (front ≡ [] → Agrees t (is_looked_behind ts || seen) post other) → (c : Bool) → arguments_follow ts ≡ c
    → when (arguments_follow (front ++ t ∷ other)) (λ u. f (is_looked_behind (front ++ t ∷ other) || seen) (front ++ t ∷ other))
    (λ u. g (is_looked_behind (front ++ t ∷ other) || seen) (front ++ t ∷ other))
    ≡ when c (λ u. f (is_looked_behind ts || seen) (front ++ t ∷ other)) (λ u. g (is_looked_behind ts || seen) (front ++ t ∷ other))
ahead_far f g seen ts front t post other split agrees c e =
    let us = front ++ t ∷ other in
    let behind : is_looked_behind us ≡ is_looked_behind ts = known_far is_looked_behind (λ x xs ys. refl) (is_looked_behind ts) ts front t post other refl split in
    let set : front ≡ [] → is_looked_behind (t ∷ post) ≡ true → is_looked_behind ts || seen ≡ true =
    λ nothing looked. or_left (is_looked_behind ts) seen (ap is_looked_behind split ∙ ap (λ vs. is_looked_behind (vs ++ t ∷ post)) nothing ∙ looked) in
    let alike : arguments_follow (front ++ t ∷ post) ≡ arguments_follow us = arguments_alike front t post other (λ nothing looked. agrees nothing (set nothing looked)) in
    let follow : arguments_follow us ≡ c = sym alike ∙ sym (ap arguments_follow split) ∙ e in
    ap (λ d. when (arguments_follow us) (λ u. f (d || seen) us) (λ u. g (d || seen) us)) behind
    ∙ ap (λ d. when d (λ u. f (is_looked_behind ts || seen) us) (λ u. g (is_looked_behind ts || seen) us)) follow

-- a reader that chooses by whether the arguments of a command follow, where it is known what it chooses
of_ahead : {A : Type 0} (f g : Bool → List Token → Outcome A) (seen : Bool) (ts : List Token) (c : Bool) → arguments_follow ts ≡ c
    → (o : Outcome A)
    → Local (λ us. when c (λ u. f (is_looked_behind ts || seen) us) (λ u. g (is_looked_behind ts || seen) us)) (is_looked_behind ts || seen) ts o
    → Local (λ us. when (arguments_follow us) (λ u. f (is_looked_behind us || seen) us) (λ u. g (is_looked_behind us || seen) us)) seen ts o
of_ahead f g seen ts c e =
    carry (λ us. when (arguments_follow us) (λ u. f (is_looked_behind us || seen) us) (λ u. g (is_looked_behind us || seen) us))
    (λ us. when c (λ u. f (is_looked_behind ts || seen) us) (λ u. g (is_looked_behind ts || seen) us))
    seen (is_looked_behind ts || seen) ts
    (ap (λ d. when d (λ u. f (is_looked_behind ts || seen) ts) (λ u. g (is_looked_behind ts || seen) ts)) e)
    (λ front t post other split agrees. ahead_far f g seen ts front t post other split agrees c e)
    (λ set. or_right (is_looked_behind ts) seen set)

-- a refusal at this place: behind the minus where the reader has looked there
refuse_local : {A : Type 0} (seen : Bool) (ts : List Token) → Held seen ts → Local {A = A} (λ us. refused (from_refused seen us)) seen ts (refused (from_refused seen ts))
refuse_local false ts h = record {
  front = [];
  split = refl;
  more = refl;
  same = λ t post other e agrees. refl;
  kept = λ nothing set. set;
  held = λ set. absurd (cc);
}
refuse_local true [] h = let no : false ≡ true = h refl in absurd (cc)
refuse_local true (t ∷ ts) h = record {
  front = t ∷ [];
  split = refl;
  more = refl;
  same = λ u post other e agrees. refl;
  kept = λ nothing set. absurd (cc);
  held = λ set. absurd (cc);
}

-- a reader that takes a token, and goes on as one that stops, stops as that one does
taken : {A : Type 0} (q f : List Token → Outcome A) (seen : Bool) (t : Token) (ts : List Token) → ((us : List Token) → q (t ∷ us) ≡ f us)
    → (answer : List Token → Outcome A) (left : Bool) (r : List Token) → Stops f false ts answer left r → Stops q seen (t ∷ ts) answer left r
taken q f seen t ts goes answer left r x = record {
  front = t ∷ x.front;
  split = ap (λ us. t ∷ us) x.split;
  more = goes ts ∙ x.more;
  same = λ u post other e agrees. goes (x.front ++ u ∷ other) ∙ x.same u post other e agrees;
  kept = λ nothing set. absurd (cc);
  held = x.held;
}

-- the same, of any outcome
take_local : {A : Type 0} (q f : List Token → Outcome A) (seen : Bool) (t : Token) (ts : List Token) → ((us : List Token) → q (t ∷ us) ≡ f us)
    → (o : Outcome A) → Local f false ts o → Local q seen (t ∷ ts) o
take_local q f seen t ts goes (read a s left r) x = taken q f seen t ts goes (read a s left) left r x
take_local q f seen t ts goes (refused r) x = taken q f seen t ts goes refused false r x
take_local q f seen t ts goes (too_nested at) x = tt
take_local q f seen t ts goes spent x = tt

-- ---- one reader behind another

module _ {A B : Type 0} (q : List Token → Outcome A) (seen : Bool) (ts : List Token) (f g : A → Reader B) where
  -- the first goes on to the place of the second
  between : (a : A) (s : Scope) (flag : Bool) (us : List Token) (x : Stops q seen ts (read a s flag) flag us) (middle r : List Token) (t : Token) (post other : List Token)
      → us ≡ middle ++ r → r ≡ t ∷ post → (middle ≡ [] → Agrees t flag post other) → q (x.front ++ (middle ++ t ∷ other)) ≡ read a s flag (middle ++ t ∷ other)
  between a s flag us x [] r t post other split e agrees = x.same t post other (split ∙ e) (agrees refl)
  between a s flag us x (u ∷ middle) r t post other split e agrees =
      x.same u (middle ++ r) (middle ++ t ∷ other) split
      (λ set. ap (λ vs. next_touches u.at (middle ++ vs)) e ∙ far (next_touches u.at) (λ y ys zs. refl) middle t post other)

  -- where the second stops, both together stop
  joined : (a : A) (s : Scope) (flag : Bool) (us : List Token) → Stops q seen ts (read a s flag) flag us
      → (answer : List Token → Outcome B) (left : Bool) (r : List Token) → Stops (g a s flag) flag us answer left r → Stops (λ vs. and_then (q vs) g) seen ts answer left r
  joined a s flag us x answer left r y = record {
    front = x.front ++ y.front;
    split = x.split ∙ ap (λ vs. x.front ++ vs) y.split ∙ sym (append_assoc x.front y.front r);
    more = ap (λ o. and_then o g) x.more ∙ y.more;
    same = λ t post other e agrees.
        ap (λ vs. and_then (q vs) g) (append_assoc x.front y.front (t ∷ other))
        ∙ ap (λ o. and_then o g) (between a s flag us x y.front r t post other y.split e (λ nothing set. agrees (y.kept nothing set)))
        ∙ y.same t post other e agrees;
    kept = λ nothing set. y.kept (nothing_second x.front y.front nothing) (x.kept (nothing_first x.front y.front nothing) set);
    held = y.held;
  }

  -- the same, of any outcome
  join : (a : A) (s : Scope) (flag : Bool) (us : List Token) → Stops q seen ts (read a s flag) flag us → (o : Outcome B) → Local (g a s flag) flag us o
      → Local (λ vs. and_then (q vs) g) seen ts o
  join a s flag us x (read b s' left r) y = joined a s flag us x (read b s' left) left r y
  join a s flag us x (refused r) y = joined a s flag us x refused false r y
  join a s flag us x (too_nested at) y = tt
  join a s flag us x spent y = tt

  -- a reader with another behind it is local where both are
  then_local : ((a : A) (s : Scope) (flag : Bool) (us : List Token) → Held flag us → Local (g a s flag) flag us (f a s flag us))
      → (o : Outcome A) → Local q seen ts o → Local (λ vs. and_then (q vs) g) seen ts (and_then o f)
  then_local goes (read a s flag us) x = join a s flag us x (f a s flag us) (goes a s flag us x.held)
  then_local goes (refused r) x = record {
    front = x.front;
    split = x.split;
    more = ap (λ o. and_then o g) x.more;
    same = λ t post other e agrees. ap (λ o. and_then o g) (x.same t post other e agrees);
    kept = x.kept;
    held = x.held;
  }
  then_local goes (too_nested at) x = tt
  then_local goes spent x = tt

-- ---- each rule, where what it nests and its limits are wider on the right

-- one reading of phrases is local to another that has the wider limits
abbrev pub AllLocal : (ℕ → Reading) → (ℕ → Reading) → Type 0
AllLocal inner inner' = (levels levels' : ℕ) → levels ≤ levels' → (n : Phrase) (s : Scope) (seen : Bool) (ts : List Token) → Held seen ts
    → Local (inner' levels' n s seen) seen ts (inner levels n s seen ts)

module _ (limit limit' : ℕ) (wider : limit ≤ limit') (inner inner' : ℕ → Reading) (all_local : AllLocal inner inner') (levels levels' : ℕ) (deeper : levels ≤ levels') where
  -- a phrase inside what opens, and what follows it
  nest_local : {B : Type 0} (at : Span) (n : Phrase) (f g : Value n → Reader B) (s : Scope) (seen : Bool) (ts : List Token) → Held seen ts
      → ((v : Value n) (s' : Scope) (flag : Bool) (us : List Token) → Held flag us → Local (g v s' flag) flag us (f v s' flag us))
      → (l l' : ℕ) → l ≤ l'
      → Local (λ us. nest limit' inner' levels' at l' (λ left. and_then (inner' left n s seen us) g)) seen ts
      (nest limit inner levels at l (λ left. and_then (inner left n s seen ts) f))
  nest_local at n f g s seen ts h goes zero l' le = tt
  nest_local at n f g s seen ts h goes (suc l) zero le = absurd (omega arith)
  nest_local at n f g s seen ts h goes (suc l) (suc l') le =
      then_local (inner' l' n s seen) seen ts f g goes (inner l n s seen ts) (all_local l l' (omega arith) n s seen ts h)

  -- a token that does not meet the test is refused
  token_not : {A : Type 0} (test : Test) (k : Token → Rule A) (s : Scope) (seen : Bool) (ts : List Token) → next_meets test ts ≡ false
      → run limit' inner' levels' (token test k) s seen ts ≡ refused (from_refused seen ts)
  token_not test k s true [] e = refl
  token_not test k s false [] e = refl
  token_not test k s seen (t ∷ ts) e = ap (λ c. when c (λ u. run limit' inner' levels' (k t) s false ts) (λ u. refused (from_refused seen (t ∷ ts)))) e

  -- the reader of a rule is local where that of the phrases in it is
  pub run_local : {A : Type 0} (r : Rule A) (s : Scope) (seen : Bool) (ts : List Token) → Held seen ts
      → Local (run limit' inner' levels' r s seen) seen ts (run limit inner levels r s seen ts)
  run_local (done a) s seen ts h = record {
    front = [];
    split = refl;
    more = refl;
    same = λ t post other e agrees. refl;
    kept = λ nothing set. set;
    held = h;
  }
  run_local refuse s seen ts h = refuse_local seen ts h
  run_local (token test k) s seen [] h = record {
    front = [];
    split = refl;
    more = refl;
    same = λ t post other e agrees. absurd (cc);
    kept = λ nothing set. h set;
    held = λ set. absurd (cc);
  }
  run_local (token test k) s seen (t ∷ ts) h =
      choose _ seen (t ∷ ts) (test (class_of t.kind) t.spaced) _ _
      (λ holds. take_local (run limit' inner' levels' (token test k) s seen) (run limit' inner' levels' (k t) s false) seen t ts
      (λ us. ap (λ c. when c (λ u. run limit' inner' levels' (k t) s false us) (λ u. refused (from_refused seen (t ∷ us)))) holds)
      (run limit inner levels (k t) s false ts)
      (run_local (k t) s false ts (λ set. absurd (cc))))
      (λ fails. carry (run limit' inner' levels' (token test k) s seen) (λ us. refused (from_refused seen us)) seen seen (t ∷ ts)
      (token_not test k s seen (t ∷ ts) fails)
      (λ front u post other split agrees. token_not test k s seen (front ++ u ∷ other)
      (known_far (next_meets test) (λ x xs ys. refl) false (t ∷ ts) front u post other fails split))
      (λ set. set)
      (refused (from_refused seen (t ∷ ts)))
      (refuse_local seen (t ∷ ts) h))
  run_local (phrase n k) s seen ts h =
      then_local (inner' levels' n s seen) seen ts (λ v. run limit inner levels (k v)) (λ v. run limit' inner' levels' (k v))
      (λ v s' flag us held. run_local (k v) s' flag us held)
      (inner levels n s seen ts) (all_local levels levels' deeper n s seen ts h)
  run_local (nested at n k) s seen ts h =
      nest_local at n (λ v. run limit inner levels (k v)) (λ v. run limit' inner' levels' (k v)) s seen ts h
      (λ v s' flag us held. run_local (k v) s' flag us held) levels levels' deeper
  run_local (built a r) s seen ts h =
      choose (run limit' inner' levels' (built a r) s seen) seen ts (nat_le a.height limit) (λ u. run limit inner levels r s seen ts) (λ u. too_nested a.at)
      (λ holds. of_two (λ us. nat_le a.height limit') (λ x xs ys. refl) (run limit' inner' levels' r s seen) (λ us. too_nested a.at) seen ts true
      (let low = leb-true _ _ holds in le-leb _ _ (omega arith))
      (run limit inner levels r s seen ts) (run_local r s seen ts h))
      (λ fails. tt)
  run_local (either one other) s seen ts h =
      two_local (begins one) (λ x xs ys. refl) (run limit inner levels one s seen) (run limit' inner' levels' one s seen)
      (run limit inner levels other s seen) (run limit' inner' levels' other s seen) seen ts (run_local one s seen ts h) (run_local other s seen ts h)
  run_local (look test r) s seen ts h =
      two_local (next_meets test) (λ x xs ys. refl) (run limit inner levels r s seen) (run limit' inner' levels' r s seen)
      (λ us. refused (from_refused seen us)) (λ us. refused (from_refused seen us)) seen ts (run_local r s seen ts h) (refuse_local seen ts h)
  run_local (pick b one other) s seen ts h =
      two_local (λ us. b) (λ x xs ys. refl) (run limit inner levels one s seen) (run limit' inner' levels' one s seen)
      (run limit inner levels other s seen) (run limit' inner' levels' other s seen) seen ts (run_local one s seen ts h) (run_local other s seen ts h)
  run_local (known text one other) s seen ts h =
      two_local (λ us. is_local text s) (λ x xs ys. refl) (run limit inner levels one s seen) (run limit' inner' levels' one s seen)
      (run limit inner levels other s seen) (run limit' inner' levels' other s seen) seen ts (run_local one s seen ts h) (run_local other s seen ts h)
  run_local (touching place one other) s seen ts h =
      two_local (next_touches place) (λ x xs ys. refl) (run limit inner levels one s seen) (run limit' inner' levels' one s seen)
      (run limit inner levels other s seen) (run limit' inner' levels' other s seen) seen ts (run_local one s seen ts h) (run_local other s seen ts h)
  run_local (ahead one other) s seen ts h =
      let flag = is_looked_behind ts || seen in
      let held : Held flag ts = or_held (is_looked_behind ts) seen h in
      choose (run limit' inner' levels' (ahead one other) s seen) seen ts (arguments_follow ts)
      (λ u. run limit inner levels one s flag ts) (λ u. run limit inner levels other s flag ts)
      (λ holds. of_ahead (run limit' inner' levels' one s) (run limit' inner' levels' other s) seen ts true holds
      (run limit inner levels one s flag ts) (run_local one s flag ts held))
      (λ fails. of_ahead (run limit' inner' levels' one s) (run limit' inner' levels' other s) seen ts false fails
      (run limit inner levels other s flag ts) (run_local other s flag ts held))
  run_local (scope f r) s seen ts h = run_local r (f s) seen ts h

-- ---- phrases

module _ (limit limit' : ℕ) (wider : limit ≤ limit') where
  -- reading a phrase in more turns and within wider limits
  pub reading_local : (turns turns' : ℕ) → turns ≤ turns' → AllLocal (reading limit turns) (reading limit' turns')
  reading_local zero turns' longer levels levels' deeper n s seen ts h = tt
  reading_local (suc turns) zero longer levels levels' deeper n s seen ts h = absurd (omega arith)
  reading_local (suc turns) (suc turns') longer levels levels' deeper n s seen ts h =
      run_local limit limit' wider (reading limit turns) (reading limit' turns') (reading_local turns turns' (omega arith)) levels levels' deeper (rule n) s seen ts h

-- a flag that is not set is set nowhere else than at a spaced minus
pub unset_held : (ts : List Token) → Held false ts
unset_held ts set = absurd (cc)

-- What is read of a phrase hangs on no token behind the one at which it stops.
pub phrase_local : (limit limit' turns turns' levels levels' : ℕ) → limit ≤ limit' → turns ≤ turns' → levels ≤ levels'
    → (n : Phrase) (s : Scope) (ts : List Token) (v : Value n) (s' : Scope) (seen' : Bool) (r : List Token) → reading limit turns levels n s false ts ≡ read v s' seen' r
    → Stops (reading limit' turns' levels' n s false) false ts (read v s' seen') seen' r
phrase_local limit limit' turns turns' levels levels' wider longer deeper n s ts v s' seen' r e =
    subst (λ o. Local (reading limit' turns' levels' n s false) false ts o) e
    (reading_local limit limit' wider turns turns' longer levels levels' deeper n s false ts (unset_held ts))

-- Where a phrase is refused hangs on no token behind that.
pub phrase_refused : (limit limit' turns turns' levels levels' : ℕ) → limit ≤ limit' → turns ≤ turns' → levels ≤ levels'
    → (n : Phrase) (s : Scope) (ts r : List Token) → reading limit turns levels n s false ts ≡ refused r
    → Stops (reading limit' turns' levels' n s false) false ts refused false r
phrase_refused limit limit' turns turns' levels levels' wider longer deeper n s ts r e =
    subst (λ o. Local (reading limit' turns' levels' n s false) false ts o) e
    (reading_local limit limit' wider turns turns' longer levels levels' deeper n s false ts (unset_held ts))

-- ---- scripts

-- A script is refused at a token whatever follows that token, and within wider limits too.
pub script_refused : (limit limit' turns turns' levels levels' : ℕ) → limit ≤ limit' → turns ≤ turns' → levels ≤ levels'
    → (ts r : List Token) → reading_script limit turns levels ts ≡ refused r
    → (front : List Token) × (ts ≡ front ++ r)
    × ((t : Token) (post other : List Token) → r ≡ t ∷ post → reading_script limit' turns' levels' (front ++ t ∷ other) ≡ refused (t ∷ other))
script_refused limit limit' turns turns' levels levels' wider longer deeper ts r e =
    let x = phrase_refused limit limit' turns turns' levels levels' wider longer deeper (p.items no_items) top_level ts r e in
    (x.front, x.split, λ t post other er. x.same t post other er (λ set. absurd (cc)))

-- Wider limits keep what is read of a script.
pub script_wider : (limit limit' turns turns' levels levels' : ℕ) → limit ≤ limit' → turns ≤ turns' → levels ≤ levels'
    → (ts : List Token) (found : Items) (s : Scope) (seen : Bool) (us : List Token) → reading_script limit turns levels ts ≡ read found s seen us
    → reading_script limit' turns' levels' ts ≡ read found s seen us
script_wider limit limit' turns turns' levels levels' wider longer deeper ts found s seen us e =
    (phrase_local limit limit' turns turns' levels levels' wider longer deeper (p.items no_items) top_level ts found s seen us e).more

-- Wider limits keep a refusal, and its place.
pub script_refused_wider : (limit limit' turns turns' levels levels' : ℕ) → limit ≤ limit' → turns ≤ turns' → levels ≤ levels'
    → (ts r : List Token) → reading_script limit turns levels ts ≡ refused r → reading_script limit' turns' levels' ts ≡ refused r
script_refused_wider limit limit' turns turns' levels levels' wider longer deeper ts r e =
    (phrase_refused limit limit' turns turns' levels levels' wider longer deeper (p.items no_items) top_level ts r e).more
