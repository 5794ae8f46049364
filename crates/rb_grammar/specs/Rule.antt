-- What a rule of the grammar is, and which tokens it spells. Rules are those of extended Backus-Naur form (ISO/IEC 14977), a
-- form for each thing that such a rule is made of, with what the rule stands for; side rules of the language are forms too.
use Rattle.std.specs.Prelude.{◌≡◌, ℕ, suc, ◌≤◌, Bool, true, false, ◌&&◌, ◌||◌, nat_eq, List, [], ◌∷◌}
use Rattle.rb_tree.specs.declared.span.Span.{Span}
use Rattle.rb_lexer.specs.declared.token.Token.{Token}
use Rattle.rb_grammar.specs.Look.{Class, Test, class_of, is, one_of}
use Rattle.rb_grammar.specs.Look as look_at
use Rattle.rb_grammar.specs.Tree.{Text, Tree}
use Rattle.rb_grammar.specs.Scope.{Scope, is_local}
use Rattle.rb_grammar.specs.Phrase.{Phrase, Value}

-- A rule that stands for an A. What follows a part of it may hang on what that part stands for.
pub data Rule (A : Type 0) : Type 0 where
  -- nothing more
  done : A → Rule A
  -- what is spelled by nothing
  refuse : Rule A
  -- a token that meets the test, and what follows it
  token : Test → (Token → Rule A) → Rule A
  -- a phrase, and what follows it
  phrase : (n : Phrase) → (Value n → Rule A) → Rule A
  -- a phrase inside what opens at this place, and what follows it
  nested : Span → (n : Phrase) → (Value n → Rule A) → Rule A
  -- a node that is built, which must not be too high, and what follows it
  built : Tree → Rule A → Rule A
  -- one or the other, in no order
  either : Rule A → Rule A → Rule A
  -- where the next token meets the test
  look : Test → Rule A → Rule A
  -- by a condition: the first where it holds, else the second
  pick : Bool → Rule A → Rule A → Rule A
  -- the first where this is a local, else the second
  known : Text → Rule A → Rule A → Rule A
  -- the first where the next token stands directly behind this place, else the second
  touching : Span → Rule A → Rule A → Rule A
  -- the first where arguments of a command follow, else the second
  ahead : Rule A → Rule A → Rule A
  -- what follows, where the scopes have changed
  scope : (Scope → Scope) → Rule A → Rule A

-- ---- what a rule sees of the tokens that follow

-- the test of the next token, which must be there
abbrev pub next_meets : Test → List Token → Bool
next_meets test [] = false
next_meets test (t ∷ ts) = test (class_of t.kind) t.spaced

-- the next token stands directly behind a place: nothing is between them, and no line end that counts for nothing
abbrev pub next_touches : Span → List Token → Bool
next_touches place [] = false
next_touches place (t ∷ ts) = nat_eq place.to t.at.from

-- what may begin the arguments of a command, beside a minus
abbrev pub begins_arguments : Test
begins_arguments = one_of (
    look_at.int ∷ look_at.text_open ∷ look_at.symbol ∷ look_at.word ∷ look_at.marked ∷ look_at.attribute ∷ look_at.new ∷ look_at.constant
    ∷ look_at.field ∷ look_at.global ∷ look_at.nil_word ∷ look_at.true_word ∷ look_at.false_word ∷ look_at.self_word ∷ look_at.bang
    ∷ look_at.open_paren ∷ look_at.open_bracket ∷ [])

-- whether the arguments of a command follow: the next token is spaced, and begins an argument or is a minus with another token
-- directly behind it
abbrev pub arguments_follow : List Token → Bool
arguments_follow [] = false
arguments_follow (t ∷ ts) =
    t.spaced && (begins_arguments (class_of t.kind) t.spaced || (is look_at.minus (class_of t.kind) t.spaced && next_touches t.at ts))

-- ---- what a rule spells

-- a phrase from these scopes and tokens to those
abbrev pub Spelling : Type 1
Spelling = (n : Phrase) → Scope → List Token → Value n → Scope → List Token → Type 0

-- No node that is built is higher than limit, and no more than levels of what opens are open at once. What a phrase spells is
-- given, by the levels that are left for it.
module _ (limit : ℕ) (inner : ℕ → Spelling) (levels : ℕ) where
  pub data Spells {A : Type 0} : Rule A → Scope → List Token → A → Scope → List Token → Type 0 where
    stops : {a : A} {s : Scope} {ts : List Token} → Spells (done a) s ts a s ts
    takes : {test : Test} {k : Token → Rule A} {s s' : Scope} {t : Token} {ts us : List Token} {a : A}
        → test (class_of t.kind) t.spaced ≡ true → Spells (k t) s ts a s' us → Spells (token test k) s (t ∷ ts) a s' us
    holds : {n : Phrase} {k : Value n → Rule A} {s s1 s' : Scope} {ts us vs : List Token} {v : Value n} {a : A}
        → inner levels n s ts v s1 us → Spells (k v) s1 us a s' vs → Spells (phrase n k) s ts a s' vs
    opens : {at : Span} {n : Phrase} {k : Value n → Rule A} {s s1 s' : Scope} {ts us vs : List Token} {v : Value n} {a : A} {left : ℕ}
        → levels ≡ suc left → inner left n s ts v s1 us → Spells (k v) s1 us a s' vs → Spells (nested at n k) s ts a s' vs
    builds : {b : Tree} {p : Rule A} {s s' : Scope} {ts us : List Token} {a : A}
        → b.height ≤ limit → Spells p s ts a s' us → Spells (built b p) s ts a s' us
    first : {p q : Rule A} {s s' : Scope} {ts us : List Token} {a : A} → Spells p s ts a s' us → Spells (either p q) s ts a s' us
    second : {p q : Rule A} {s s' : Scope} {ts us : List Token} {a : A} → Spells q s ts a s' us → Spells (either p q) s ts a s' us
    looks : {test : Test} {p : Rule A} {s s' : Scope} {ts us : List Token} {a : A}
        → next_meets test ts ≡ true → Spells p s ts a s' us → Spells (look test p) s ts a s' us
    picks : {p q : Rule A} {s s' : Scope} {ts us : List Token} {a : A} → Spells p s ts a s' us → Spells (pick true p q) s ts a s' us
    picks_not : {p q : Rule A} {s s' : Scope} {ts us : List Token} {a : A} → Spells q s ts a s' us → Spells (pick false p q) s ts a s' us
    knows : {text : Text} {p q : Rule A} {s s' : Scope} {ts us : List Token} {a : A}
        → is_local text s ≡ true → Spells p s ts a s' us → Spells (known text p q) s ts a s' us
    knows_not : {text : Text} {p q : Rule A} {s s' : Scope} {ts us : List Token} {a : A}
        → is_local text s ≡ false → Spells q s ts a s' us → Spells (known text p q) s ts a s' us
    touches : {place : Span} {p q : Rule A} {s s' : Scope} {ts us : List Token} {a : A}
        → next_touches place ts ≡ true → Spells p s ts a s' us → Spells (touching place p q) s ts a s' us
    touches_not : {place : Span} {p q : Rule A} {s s' : Scope} {ts us : List Token} {a : A}
        → next_touches place ts ≡ false → Spells q s ts a s' us → Spells (touching place p q) s ts a s' us
    commands : {p q : Rule A} {s s' : Scope} {ts us : List Token} {a : A}
        → arguments_follow ts ≡ true → Spells p s ts a s' us → Spells (ahead p q) s ts a s' us
    commands_not : {p q : Rule A} {s s' : Scope} {ts us : List Token} {a : A}
        → arguments_follow ts ≡ false → Spells q s ts a s' us → Spells (ahead p q) s ts a s' us
    changes : {f : Scope → Scope} {p : Rule A} {s s' : Scope} {ts us : List Token} {a : A}
        → Spells p (f s) ts a s' us → Spells (scope f p) s ts a s' us
