-- From what is answered to a program to what is answered to its source.
use Rattle.std.proofs.Common.{◌≡◌, ◌∙◌, ap, ℕ, true, List, [], length, Option, Some, None, Result, Ok, Err, sym, refl, subst}
use Rattle.std.specs.Prelude.{IfOk}
use Rattle.std.specs.List.{AllByRecursion}
use Rattle.rb_tree.specs.declared.node.Program.{Program}
use Rattle.rb_lexer.specs.declared.token.Token.{Token}
use Rattle.rb_lexer.specs.declared.fault.LexFault.{LexFault}
use Rattle.rb_lexer.specs.declared.fault.LexFault.TheVariants as lex
use Rattle.rb_lexer.specs.Spans.{StandInOrder, EndsOnce, NotEmpty}
use Rattle.rb_lexer.specs.Tokens.{Lexes, Answers}
use Rattle.rb_grammar.specs.Program.{IsProgram, max_height, max_levels}
use Rattle.rb_grammar.specs.Script.{BeginsNone}
use Rattle.rb_cursor.specs.declared.fault.ParseFault.{ParseFault}
use Rattle.rb_cursor.specs.declared.fault.ParseFault.TheVariants as parse
use Rattle.rb_parser.specs.Limits.{PassesLimits}
use Rattle.rb_checker.specs.declared.fault.CheckFault.{CheckFault}
use Rattle.rb_checker.specs.declared.whole.CheckError.{CheckError}
use Rattle.rb_checker.specs.declared.whole.CheckError.TheVariants as error
use Rattle.rb_checker.specs.Check.{fault_of}
use Rattle.rb_prog.specs.declared.refusal.Refusal.TheVariants as refusal
use Rattle.rb_prog.specs.declared.source.Unaccepted.{Unaccepted}
use Rattle.rb_prog.specs.declared.source.Unaccepted.TheVariants as unaccepted
use Rattle.rb_edge.specs.Edge.{Adds}
use Rattle.rb_prog.specs.Accepting.{Judges, AcceptsOf, rejected_status, rejected_line}
use Rattle.rb_prog.specs.Accepting as spec
use Rattle.rb_prog.specs.Run as run
use Rattle.rb_prog.specs.Run.{Accepts, RefusedBy, unread, syntax, too_nested, broken, RunsSource}
use Rattle.rb_accepted.specs.Coded.{has_code}
use Rattle.rb_accepted.specs.Laws.{AreOrdered}
use Rattle.rb_accepted.proofs.Coded.{accepted_has_code}
use Rattle.rb_accepted.proofs.Words.{lexed_are_words}
use Rattle.rb_prog.proofs.Refusing.{is_refused}

-- a program that its tokens spell
pub judged : (source : List ℕ) (tokens : List Token) (program : Program) (result : Result Program Unaccepted) → Lexes source (Ok tokens) → IsProgram max_height max_levels tokens program
    → Judges program result → AcceptsOf source result
judged source tokens program (Ok found) l p j =
    let r = subst (λ q. fault_of q ≡ None) (sym j.0) j.1 in
    let s = subst (λ q. IsProgram max_height max_levels tokens q) (sym j.0) p in
    record { tokens = tokens; lexed = l; spelled = s; checked = r }
judged source tokens program (Err (unaccepted.Refused (refusal.Unread fault))) l p j = absurd j
judged source tokens program (Err (unaccepted.Refused (refusal.Unparsed fault))) l p j = absurd j
judged source tokens program (Err (unaccepted.Refused (refusal.Broken fault))) l p j = broken l p j
judged source tokens program (Err unaccepted.Memory) l p j = tt

-- and it has code
pub judged_coded : (source : List ℕ) (tokens : List Token) (program : Program) (result : Result Program Unaccepted) → StandInOrder 0 (length source) tokens → EndsOnce tokens
    → AllByRecursion NotEmpty tokens → Lexes source (Ok tokens) → IsProgram max_height max_levels tokens program → Judges program result
    → IfOk result (λ p. has_code p ≡ true)
judged_coded source tokens program (Ok found) stand ends long l p j =
    let ordered : AreOrdered tokens = record { from = 0; to = length source; stand = stand; ends = ends; long = long; words = lexed_are_words source tokens l } in
    ap has_code j.0 ∙ accepted_has_code max_height max_levels tokens program ordered p j.1
judged_coded source tokens program (Err why) stand ends long l p j = tt

-- tokens that spell none
pub none_parsed : (source : List ℕ) (tokens : List Token) (fault : ParseFault) (why : Unaccepted) → Lexes source (Ok tokens)
    → ((at : ℕ) → fault ≡ parse.Syntax at → BeginsNone tokens at) → ((at : ℕ) → fault ≡ parse.TooNested at → PassesLimits tokens at)
    → why ≡ spec.unparsed fault → AcceptsOf source (Err why)
none_parsed source tokens (parse.Syntax at) why l b p e = subst (λ w. AcceptsOf source (Err w)) (sym e) (syntax l (b at refl))
none_parsed source tokens (parse.TooNested at) why l b p e = subst (λ w. AcceptsOf source (Err w)) (sym e) (too_nested l (p at refl))
none_parsed source tokens parse.Memory why l b p e = subst (λ w. AcceptsOf source (Err w)) (sym e) tt

-- bytes that have no tokens
pub none_read : (source : List ℕ) (fault : LexFault) (why : Unaccepted) → Answers (Lexes source) (Err fault) → why ≡ spec.unread fault → AcceptsOf source (Err why)
none_read source (lex.NotUtf8 at) why l e = subst (λ w. AcceptsOf source (Err w)) (sym e) (unread l)
none_read source (lex.BadCharacter at) why l e = subst (λ w. AcceptsOf source (Err w)) (sym e) (unread l)
none_read source (lex.UnclosedText at) why l e = subst (λ w. AcceptsOf source (Err w)) (sym e) (unread l)
none_read source (lex.BadEscape at) why l e = subst (λ w. AcceptsOf source (Err w)) (sym e) (unread l)
none_read source (lex.IntegerTooWide at) why l e = subst (λ w. AcceptsOf source (Err w)) (sym e) (unread l)
none_read source lex.TooLarge why l e = subst (λ w. AcceptsOf source (Err w)) (sym e) (unread l)
none_read source lex.Memory why l e = subst (λ w. AcceptsOf source (Err w)) (sym e) tt

-- a program that breaks a rule of names
pub breaks : (program : Program) (fault : CheckError) (why : Unaccepted) → ((f : CheckFault) → fault ≡ error.Fault f → fault_of program ≡ Some f)
    → why ≡ spec.broken fault → Judges program (Err why)
breaks program (error.Fault f) why b e = subst (λ w. Judges program (Err w)) (sym e) (b f refl)
breaks program error.Memory why b e = subst (λ w. Judges program (Err w)) (sym e) tt

-- what a source that is not accepted comes to
pub not_run : (source : List ℕ) (why : Unaccepted) (steps : ℕ) (old new : Option (List ℕ)) → AcceptsOf source (Err why) → Adds old new []
    → RunsSource source steps old new (rejected_status why) None (rejected_line source why)
not_run source (unaccepted.Refused why) steps old new r a = run.refused r (is_refused source why r) a
not_run source unaccepted.Memory steps old new r a = run.RunsSource.out_of_memory a
