-- What a parser owes for what two walks come to.
use Rattle.std.proofs.Common.{◌≡◌, ◌⊎◌, inl, inr, ℕ, List, Result, Ok, Err, refl, ap}
use Rattle.rb_tree.specs.declared.node.Program.{Program}
use Rattle.rb_lexer.specs.declared.token.Token.{Token}
use Rattle.rb_grammar.specs.Script.{BeginsNone}
use Rattle.rb_grammar.specs.Program.{IsProgram, max_height, max_levels}
use Rattle.rb_grammar.proofs.Whole.{one_program}
use Rattle.rb_cursor.specs.declared.fault.ParseFault.{ParseFault}
use Rattle.rb_cursor.specs.declared.fault.ParseFault.TheVariants as fault
use Rattle.rb_parser.specs.Limits.{PassesLimits}
use Rattle.rb_parser.specs.Walks.{IsRefused, Parses}

-- no program is spelled where tokens are refused
refused_only : (tokens : List Token) (e : ParseFault) → IsRefused tokens e → (program : Program) → IsProgram max_height max_levels tokens program
    → (◌≡◌ {A = Result Program ParseFault} (Err e) (Ok program)) ⊎ (◌≡◌ {A = Result Program ParseFault} (Err e) (Err fault.Memory))
refused_only tokens (fault.Syntax at) h program is =
    absurd (h.none max_height max_levels h.post is.found (rw (← h.split) is.script))
refused_only tokens (fault.TooNested at) h program is = absurd (h.none is.found is.script)
refused_only tokens fault.Memory h program is = inr refl

pub answered : (tokens : List Token) (result : Result Program ParseFault) → Parses tokens result → (program : Program) → IsProgram max_height max_levels tokens program
    → (result ≡ Ok program) ⊎ (result ≡ Err fault.Memory)
answered tokens (Ok made) h program is = inl (ap Ok (one_program max_height max_height max_levels max_levels tokens made program h is))
answered tokens (Err e) h program is = refused_only tokens e h program is

pub refused_so : (tokens : List Token) (result : Result Program ParseFault) → Parses tokens result → (at : ℕ) → result ≡ Err (fault.Syntax at) → BeginsNone tokens at
refused_so tokens result h at e = rw e at h

pub nested_so : (tokens : List Token) (result : Result Program ParseFault) → Parses tokens result → (at : ℕ) → result ≡ Err (fault.TooNested at) → PassesLimits tokens at
nested_so tokens result h at e = rw e at h
