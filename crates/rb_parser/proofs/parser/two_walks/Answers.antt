use Rattle.std.proofs.Common.{subst}
use Rattle.rb_parser.specs.Walks.{IsWalked}
use Rattle.rb_parser.proofs.Numbering.{program_made}
use Rattle.rb_parser.proofs.parser.two_walks.Goals as goal

pub returns : goal.returns
returns c =
    let tokens = c.args.tokens.now in
    let first = c.in_ok-said.field-0 in
    let numbers = c.in_ok-numbers.numbers in
    rw (c.into_names.ensures) (program_made tokens numbers first c.in_ok-classes.field-0
    (subst (λ w. IsWalked w tokens first) c.gathering.ensures c.in_ok-said.ensures)
    c.in_ok-numbers.ensures.ok
    (subst (λ w. IsWalked w tokens c.in_ok-classes.field-0) c.numbering.ensures c.in_ok-classes.ensures))
