-- No program is accepted of a source that is refused.
use Rattle.std.proofs.Common.{◌≡◌, ℕ, List, Option, Some, None, Ok, Err, sym, ap, ◌∙◌, subst}
use Rattle.rb_tree.specs.declared.node.Program.{Program}
use Rattle.rb_lexer.specs.declared.token.Token.{Token}
use Rattle.rb_lexer.specs.Tokens.{Lexes}
use Rattle.rb_lexer.proofs.Unique.{lexes-unique}
use Rattle.rb_grammar.specs.Script.{IsScript, BeginsNone}
use Rattle.rb_grammar.specs.Program.{IsProgram, max_height, max_levels}
use Rattle.rb_grammar.proofs.Whole.{one_program}
use Rattle.rb_checker.specs.Check.{fault_of}
use Rattle.rb_prog.specs.declared.refusal.Refusal.{Refusal}
use Rattle.rb_prog.specs.Run.{Accepts, RefusedBy, unread, syntax, too_nested, broken, IsRefused}

begins_no_program : (tokens : List Token) (at : ℕ) → BeginsNone tokens at → (program : Program) → IsProgram max_height max_levels tokens program → ⊥
begins_no_program tokens at b program p = b.none max_height max_levels b.post p.found (subst (λ ts. IsScript max_height max_levels ts p.found) b.split p.script)

-- what is accepted of a source is spelled by its tokens
spelled_by : (source : List ℕ) (tokens : List Token) (program : Program) → Lexes source (Ok tokens) → Accepts source program → IsProgram max_height max_levels tokens program
spelled_by source tokens program l a =
    let e : Ok tokens ≡ Ok a.tokens = lexes-unique l a.lexed in
    let same : a.tokens ≡ tokens = cc in
    subst (λ ts. IsProgram max_height max_levels ts program) same a.spelled

-- and is the one program that they spell
one_accepted : (source : List ℕ) (tokens : List Token) (found program : Program) → Lexes source (Ok tokens) → IsProgram max_height max_levels tokens found → Accepts source program → found ≡ program
one_accepted source tokens found program l p a = one_program max_height max_height max_levels max_levels tokens found program p (spelled_by source tokens program l a)

some_none : {A : Type 0} (o : Option A) (a : A) → o ≡ Some a → o ≡ None → ⊥
some_none o a h k = let e : Some a ≡ None = sym h ∙ k in cc

pub is_refused : (source : List ℕ) (why : Refusal) → RefusedBy source why → IsRefused source
is_refused source _ (unread {fault} l) = λ program a. let e : Err fault ≡ Ok a.tokens = lexes-unique l a.lexed in cc
is_refused source _ (syntax {tokens} {at} l b) = λ program a. begins_no_program tokens at b program (spelled_by source tokens program l a)
is_refused source _ (too_nested {tokens} {at} l p) = λ program a. let s = spelled_by source tokens program l a in p.none s.found s.script
is_refused source _ (broken {tokens} {program} {fault} l p f) = λ other a.
    some_none (fault_of program) fault f (ap fault_of (one_accepted source tokens program other l p a) ∙ a.checked)
