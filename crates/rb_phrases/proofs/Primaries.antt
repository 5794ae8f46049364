-- What an operand without its marks begins with.
use Rattle.std.proofs.Common.{◌≡◌, ℕ, Bool, true, false, List, [], ◌∷◌, refl}
use Rattle.rb_lexer.specs.declared.token.Token.{Token}
use Rattle.rb_grammar.specs.Look.{Class, Test, one_of}
use Rattle.rb_grammar.specs.Look as c
use Rattle.rb_grammar.specs.Scope.{Scope}
use Rattle.rb_grammar.specs.Phrase as p
use Rattle.rb_grammar.specs.Rule.{Rule, done, token, nested}
use Rattle.rb_grammar.specs.Grammar.{rule, as_value}
use Rattle.rb_grammar.specs.Heads.{next_class, next_spaced}
use Rattle.rb_grammar.specs.Reading.{refused, from_refused, answer, run}
use Rattle.rb_grammar.specs.Program.{max_height}
use Rattle.rb_cursor.specs.State.{State}
use Rattle.rb_cursor.specs.Here.{at_rule}
use Rattle.rb_steps.specs.Begins.{beginning_of}
use Rattle.rb_phrases.specs.Alternatives.{alternative}

-- the last alternative refuses a token that no primary begins with
last_refused : {A : Type 0} (levels : ℕ) (test : Test) (k : Token → Rule A) (sc : Scope) (seen : Bool) (rest : List Token) (class : Class)
    → next_class rest ≡ class → test class (next_spaced rest) ≡ false → run max_height (answer max_height) levels (token test k) sc seen rest ≡ refused (from_refused seen rest)
last_refused levels test k sc true [] class h e = refl
last_refused levels test k sc false [] class h e = refl
last_refused levels test k sc seen (t ∷ ts) class h e = rw (h, e) refl

abbrev loops : Token → Rule p.Part
loops t = nested t.at (p.loop_rest t) (λ a. done (as_value a))

abbrev is_loop : Test
is_loop = one_of (c.while_word ∷ c.until_word ∷ [])

-- an operand is the alternative that begins with the next token
pub primary_begins : (class : Class) (d : Bool) (levels : ℕ) (s : State) → next_class s.rest ≡ class
    → at_rule levels (rule (p.primary d)) s ≡ at_rule levels (alternative d (beginning_of class)) s
unfolding rule
primary_begins c.line d levels s h = rw h (last_refused levels is_loop loops s.scope s.looked s.rest c.line h refl)
primary_begins c.int d levels s h = rw h refl
primary_begins c.word d levels s h = rw h refl
primary_begins c.marked d levels s h = rw h refl
primary_begins c.attribute d levels s h = rw h refl
primary_begins c.new d levels s h = rw h refl
primary_begins c.constant d levels s h = rw h refl
primary_begins c.field d levels s h = rw h refl
primary_begins c.global d levels s h = rw h refl
primary_begins c.symbol d levels s h = rw h refl
primary_begins c.label d levels s h = rw h (last_refused levels is_loop loops s.scope s.looked s.rest c.label h refl)
primary_begins c.text_open d levels s h = rw h refl
primary_begins c.text_piece d levels s h = rw h (last_refused levels is_loop loops s.scope s.looked s.rest c.text_piece h refl)
primary_begins c.code_open d levels s h = rw h (last_refused levels is_loop loops s.scope s.looked s.rest c.code_open h refl)
primary_begins c.code_close d levels s h = rw h (last_refused levels is_loop loops s.scope s.looked s.rest c.code_close h refl)
primary_begins c.text_close d levels s h = rw h (last_refused levels is_loop loops s.scope s.looked s.rest c.text_close h refl)
primary_begins c.end d levels s h = rw h (last_refused levels is_loop loops s.scope s.looked s.rest c.end h refl)
primary_begins c.class_word d levels s h = rw h (last_refused levels is_loop loops s.scope s.looked s.rest c.class_word h refl)
primary_begins c.def_word d levels s h = rw h (last_refused levels is_loop loops s.scope s.looked s.rest c.def_word h refl)
primary_begins c.end_word d levels s h = rw h (last_refused levels is_loop loops s.scope s.looked s.rest c.end_word h refl)
primary_begins c.if_word d levels s h = rw h refl
primary_begins c.elsif_word d levels s h = rw h (last_refused levels is_loop loops s.scope s.looked s.rest c.elsif_word h refl)
primary_begins c.else_word d levels s h = rw h (last_refused levels is_loop loops s.scope s.looked s.rest c.else_word h refl)
primary_begins c.unless_word d levels s h = rw h refl
primary_begins c.while_word d levels s h = rw h refl
primary_begins c.until_word d levels s h = rw h refl
primary_begins c.then_word d levels s h = rw h (last_refused levels is_loop loops s.scope s.looked s.rest c.then_word h refl)
primary_begins c.do_word d levels s h = rw h (last_refused levels is_loop loops s.scope s.looked s.rest c.do_word h refl)
primary_begins c.return_word d levels s h = rw h (last_refused levels is_loop loops s.scope s.looked s.rest c.return_word h refl)
primary_begins c.break_word d levels s h = rw h (last_refused levels is_loop loops s.scope s.looked s.rest c.break_word h refl)
primary_begins c.next_word d levels s h = rw h (last_refused levels is_loop loops s.scope s.looked s.rest c.next_word h refl)
primary_begins c.self_word d levels s h = rw h refl
primary_begins c.true_word d levels s h = rw h refl
primary_begins c.false_word d levels s h = rw h refl
primary_begins c.nil_word d levels s h = rw h refl
primary_begins c.reserved d levels s h = rw h (last_refused levels is_loop loops s.scope s.looked s.rest c.reserved h refl)
primary_begins c.comma d levels s h = rw h (last_refused levels is_loop loops s.scope s.looked s.rest c.comma h refl)
primary_begins c.open_paren d levels s h = rw h refl
primary_begins c.open_bracket d levels s h = rw h refl
primary_begins c.open_brace d levels s h = rw h refl
primary_begins c.dot d levels s h = rw h (last_refused levels is_loop loops s.scope s.looked s.rest c.dot h refl)
primary_begins c.assign d levels s h = rw h (last_refused levels is_loop loops s.scope s.looked s.rest c.assign h refl)
primary_begins c.plus_assign d levels s h = rw h (last_refused levels is_loop loops s.scope s.looked s.rest c.plus_assign h refl)
primary_begins c.minus_assign d levels s h = rw h (last_refused levels is_loop loops s.scope s.looked s.rest c.minus_assign h refl)
primary_begins c.times_assign d levels s h = rw h (last_refused levels is_loop loops s.scope s.looked s.rest c.times_assign h refl)
primary_begins c.over_assign d levels s h = rw h (last_refused levels is_loop loops s.scope s.looked s.rest c.over_assign h refl)
primary_begins c.modulo_assign d levels s h = rw h (last_refused levels is_loop loops s.scope s.looked s.rest c.modulo_assign h refl)
primary_begins c.or_assign d levels s h = rw h (last_refused levels is_loop loops s.scope s.looked s.rest c.or_assign h refl)
primary_begins c.and_assign d levels s h = rw h (last_refused levels is_loop loops s.scope s.looked s.rest c.and_assign h refl)
primary_begins c.question d levels s h = rw h (last_refused levels is_loop loops s.scope s.looked s.rest c.question h refl)
primary_begins c.colon d levels s h = rw h (last_refused levels is_loop loops s.scope s.looked s.rest c.colon h refl)
primary_begins c.bang d levels s h = rw h (last_refused levels is_loop loops s.scope s.looked s.rest c.bang h refl)
primary_begins c.and_and d levels s h = rw h (last_refused levels is_loop loops s.scope s.looked s.rest c.and_and h refl)
primary_begins c.or_or d levels s h = rw h (last_refused levels is_loop loops s.scope s.looked s.rest c.or_or h refl)
primary_begins c.arrow d levels s h = rw h (last_refused levels is_loop loops s.scope s.looked s.rest c.arrow h refl)
primary_begins c.equal d levels s h = rw h (last_refused levels is_loop loops s.scope s.looked s.rest c.equal h refl)
primary_begins c.not_equal d levels s h = rw h (last_refused levels is_loop loops s.scope s.looked s.rest c.not_equal h refl)
primary_begins c.less d levels s h = rw h (last_refused levels is_loop loops s.scope s.looked s.rest c.less h refl)
primary_begins c.less_equal d levels s h = rw h (last_refused levels is_loop loops s.scope s.looked s.rest c.less_equal h refl)
primary_begins c.greater d levels s h = rw h (last_refused levels is_loop loops s.scope s.looked s.rest c.greater h refl)
primary_begins c.greater_equal d levels s h = rw h (last_refused levels is_loop loops s.scope s.looked s.rest c.greater_equal h refl)
primary_begins c.shift_left d levels s h = rw h (last_refused levels is_loop loops s.scope s.looked s.rest c.shift_left h refl)
primary_begins c.plus d levels s h = rw h (last_refused levels is_loop loops s.scope s.looked s.rest c.plus h refl)
primary_begins c.minus d levels s h = rw h (last_refused levels is_loop loops s.scope s.looked s.rest c.minus h refl)
primary_begins c.times d levels s h = rw h (last_refused levels is_loop loops s.scope s.looked s.rest c.times h refl)
primary_begins c.over d levels s h = rw h (last_refused levels is_loop loops s.scope s.looked s.rest c.over h refl)
primary_begins c.modulo d levels s h = rw h (last_refused levels is_loop loops s.scope s.looked s.rest c.modulo h refl)
primary_begins c.bar d levels s h = rw h (last_refused levels is_loop loops s.scope s.looked s.rest c.bar h refl)
primary_begins c.close_paren d levels s h = rw h (last_refused levels is_loop loops s.scope s.looked s.rest c.close_paren h refl)
primary_begins c.close_bracket d levels s h = rw h (last_refused levels is_loop loops s.scope s.looked s.rest c.close_bracket h refl)
primary_begins c.close_brace d levels s h = rw h (last_refused levels is_loop loops s.scope s.looked s.rest c.close_brace h refl)
