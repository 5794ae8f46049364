-- What holds of each class holds of all: a fact about every class is one computation.
use Rattle.std.proofs.Common.{◌≡◌, ℕ, zero, suc, Bool, true, false, ◌&&◌, List, [], ◌∷◌, Option, Some, None, refl, sym, subst}
use Rattle.std.proofs.lemmas.Bool.{and_parts}
use Rattle.rb_grammar.specs.Look.{Class, Test}
use Rattle.rb_grammar.specs.Look as look

abbrev pub all_classes : List Class
all_classes = look.Class.line ∷ look.Class.int ∷ look.Class.word ∷ look.Class.marked ∷ look.Class.attribute ∷ look.Class.new ∷ look.Class.constant ∷ look.Class.field ∷ look.Class.global ∷ look.Class.symbol ∷ look.Class.label ∷ look.Class.text_open ∷ look.Class.text_piece ∷ look.Class.code_open ∷ look.Class.code_close ∷ look.Class.text_close ∷ look.Class.end ∷ look.Class.class_word ∷ look.Class.def_word ∷ look.Class.end_word ∷ look.Class.if_word ∷ look.Class.elsif_word ∷ look.Class.else_word ∷ look.Class.unless_word ∷ look.Class.while_word ∷ look.Class.until_word ∷ look.Class.then_word ∷ look.Class.do_word ∷ look.Class.return_word ∷ look.Class.break_word ∷ look.Class.next_word ∷ look.Class.self_word ∷ look.Class.true_word ∷ look.Class.false_word ∷ look.Class.nil_word ∷ look.Class.reserved ∷ look.Class.comma ∷ look.Class.open_paren ∷ look.Class.open_bracket ∷ look.Class.open_brace ∷ look.Class.dot ∷ look.Class.assign ∷ look.Class.plus_assign ∷ look.Class.minus_assign ∷ look.Class.times_assign ∷ look.Class.over_assign ∷ look.Class.modulo_assign ∷ look.Class.or_assign ∷ look.Class.and_assign ∷ look.Class.question ∷ look.Class.colon ∷ look.Class.bang ∷ look.Class.and_and ∷ look.Class.or_or ∷ look.Class.arrow ∷ look.Class.equal ∷ look.Class.not_equal ∷ look.Class.less ∷ look.Class.less_equal ∷ look.Class.greater ∷ look.Class.greater_equal ∷ look.Class.shift_left ∷ look.Class.plus ∷ look.Class.minus ∷ look.Class.times ∷ look.Class.over ∷ look.Class.modulo ∷ look.Class.bar ∷ look.Class.close_paren ∷ look.Class.close_bracket ∷ look.Class.close_brace ∷ []

-- whether a test holds of each of these classes, spaced or not
abbrev pub holds_of : Test → List Class → Bool
holds_of test [] = true
holds_of test (c ∷ cs) = test c true && (test c false && holds_of test cs)

-- a class stands in a list
pub data Among (c : Class) : List Class → Type 0 where
  first : {cs : List Class} → Among c (c ∷ cs)
  later : {d : Class} {cs : List Class} → Among c cs → Among c (d ∷ cs)

holds_at : (test : Test) (c : Class) (cs : List Class) → Among c cs → holds_of test cs ≡ true → (spaced : Bool) → test c spaced ≡ true
holds_at test c [] i e spaced = elim i [ ]
holds_at test c (d ∷ cs) first e true = (and_parts (test c true) (test c false && holds_of test cs) e).0
holds_at test c (d ∷ cs) first e false = (and_parts (test c false) (holds_of test cs) (and_parts (test c true) (test c false && holds_of test cs) e).1).0
holds_at test c (d ∷ cs) (later i) e spaced = holds_at test c cs i (and_parts (test d false) (holds_of test cs) (and_parts (test d true) (test d false && holds_of test cs) e).1).1 spaced

-- the class that stands at this place of a list
abbrev at : List Class → ℕ → Option Class
at [] n = None
at (c ∷ cs) zero = Some c
at (c ∷ cs) (suc n) = at cs n

at_among : (cs : List Class) (n : ℕ) (c : Class) → at cs n ≡ Some c → Among c cs
at_among [] n c e = absurd (cc)
at_among (d ∷ cs) zero c e = let same : d ≡ c = cc in subst (λ x. Among c (x ∷ cs)) (sym same) first
at_among (d ∷ cs) (suc n) c e = later (at_among cs n c e)

stands : (c : Class) → at all_classes (look.number c) ≡ Some c
stands look.Class.line = refl
stands look.Class.int = refl
stands look.Class.word = refl
stands look.Class.marked = refl
stands look.Class.attribute = refl
stands look.Class.new = refl
stands look.Class.constant = refl
stands look.Class.field = refl
stands look.Class.global = refl
stands look.Class.symbol = refl
stands look.Class.label = refl
stands look.Class.text_open = refl
stands look.Class.text_piece = refl
stands look.Class.code_open = refl
stands look.Class.code_close = refl
stands look.Class.text_close = refl
stands look.Class.end = refl
stands look.Class.class_word = refl
stands look.Class.def_word = refl
stands look.Class.end_word = refl
stands look.Class.if_word = refl
stands look.Class.elsif_word = refl
stands look.Class.else_word = refl
stands look.Class.unless_word = refl
stands look.Class.while_word = refl
stands look.Class.until_word = refl
stands look.Class.then_word = refl
stands look.Class.do_word = refl
stands look.Class.return_word = refl
stands look.Class.break_word = refl
stands look.Class.next_word = refl
stands look.Class.self_word = refl
stands look.Class.true_word = refl
stands look.Class.false_word = refl
stands look.Class.nil_word = refl
stands look.Class.reserved = refl
stands look.Class.comma = refl
stands look.Class.open_paren = refl
stands look.Class.open_bracket = refl
stands look.Class.open_brace = refl
stands look.Class.dot = refl
stands look.Class.assign = refl
stands look.Class.plus_assign = refl
stands look.Class.minus_assign = refl
stands look.Class.times_assign = refl
stands look.Class.over_assign = refl
stands look.Class.modulo_assign = refl
stands look.Class.or_assign = refl
stands look.Class.and_assign = refl
stands look.Class.question = refl
stands look.Class.colon = refl
stands look.Class.bang = refl
stands look.Class.and_and = refl
stands look.Class.or_or = refl
stands look.Class.arrow = refl
stands look.Class.equal = refl
stands look.Class.not_equal = refl
stands look.Class.less = refl
stands look.Class.less_equal = refl
stands look.Class.greater = refl
stands look.Class.greater_equal = refl
stands look.Class.shift_left = refl
stands look.Class.plus = refl
stands look.Class.minus = refl
stands look.Class.times = refl
stands look.Class.over = refl
stands look.Class.modulo = refl
stands look.Class.bar = refl
stands look.Class.close_paren = refl
stands look.Class.close_bracket = refl
stands look.Class.close_brace = refl

-- a test that holds of each class in turn holds of any
pub every : (test : Test) → holds_of test all_classes ≡ true → (c : Class) (spaced : Bool) → test c spaced ≡ true
every test e c spaced = holds_at test c all_classes (at_among all_classes (look.number c) c (stands c)) e spaced
