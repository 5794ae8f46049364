use Rattle.std.proofs.Common.{ap, sym, ◌∙◌, map}
use Rattle.publish_barrier.specs.Known.{Noted, ref_of_row}
use Rattle.publish_barrier.proofs.Noting.{id_of, finds_globals, finds_some, finds_none}
use Rattle.publish_barrier.proofs.known.Known.find.Goals as goal

pub returns-then-is_globals : goal.returns-then-is_globals
returns-then-is_globals c =
    finds_globals (map ref_of_row c.self.inside.rows.entries) c.args.self.now.refs c.args.id c.globals.result (ap (λ (k : Noted). k.refs) c.self.view_is)
    (sym c.is_globals.ensures ∙ c.if-is_globals.true) c.globals.ensures

pub returns-in-Some : goal.returns-in-Some
returns-in-Some c =
    finds_some c.key_of.result c.self.inside.rows.entries c.args.self.now.refs c.args.id (ap (λ (k : Noted). k.refs) c.self.view_is) (ap id_of c.key_of.ensures) c.get.result c.in-Some.place
    (sym c.is_globals.ensures ∙ c.if-is_globals.false) c.get.ensures.value c.in-Some.is

pub returns-in-None : goal.returns-in-None
returns-in-None c =
    finds_none c.key_of.result c.self.inside.rows.entries c.args.self.now.refs c.args.id (ap (λ (k : Noted). k.refs) c.self.view_is) (ap id_of c.key_of.ensures) c.get.result
    (sym c.is_globals.ensures ∙ c.if-is_globals.false) c.get.ensures.value c.in-None.is
