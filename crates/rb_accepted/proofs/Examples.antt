-- The premises can be met: the tokens of an empty script.
use Rattle.std.proofs.Common.{◌≡◌, refl, true, List, [], ◌∷◌, None, lit≤}
use Rattle.rb_lexer.specs.declared.token.Token.{Token}
use Rattle.rb_lexer.specs.declared.token.TokenKind.TheVariants as kind
use Rattle.rb_checker.specs.Check.{fault_of}
use Rattle.rb_accepted.specs.Unbuilt.{first_unbuilt}
use Rattle.rb_grammar.specs.Tree.{no_items}
use Rattle.rb_grammar.specs.Grammar.{rule}
use Rattle.rb_grammar.specs.Program.{program_of, IsProgram}
use Rattle.rb_grammar.proofs.Whole.{script_sound_in_turns}
use Rattle.rb_accepted.specs.Laws.{AreOrdered}
use Rattle.rb_accepted.specs.Coded.{has_code}
use Rattle.rb_accepted.proofs.Accepted.{accepted_has_all}
use Rattle.rb_accepted.proofs.Coded.{accepted_has_code}

abbrev tokens : List Token
tokens = record { kind = kind.End; at = record { from = 0; to = 0 }; spaced = true } ∷ []

ordered : AreOrdered tokens
ordered = record { from = 0; to = 0; stand = (lit≤ tt, lit≤ tt, lit≤ tt); ends = refl; long = (λ other. absurd (other refl), tt); words = (tt, tt) }

spelled : IsProgram 2 0 tokens (program_of no_items)
unfolding rule
spelled = record { found = no_items; script = script_sound_in_turns 2 0 tokens no_items _ _ refl; made = refl }

no_fault : fault_of (program_of no_items) ≡ None
no_fault = refl

nothing_missing : first_unbuilt (program_of no_items) ≡ None
nothing_missing = accepted_has_all 2 0 tokens (program_of no_items) ordered spelled no_fault

it_has_code : has_code (program_of no_items) ≡ true
it_has_code = accepted_has_code 2 0 tokens (program_of no_items) ordered spelled no_fault
