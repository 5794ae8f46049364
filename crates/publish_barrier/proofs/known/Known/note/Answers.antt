use Rattle.std.proofs.Common.{ap, ◌∙◌, refl, ◌∷◌, ◌<◌, map, subst, sym}
use Rattle.rb_shared.specs.View.{to_globals}
use Rattle.publish_barrier.specs.declared.known.Place.{Place}
use Rattle.publish_barrier.specs.Known.{Noted, ref_of_row}
use Rattle.publish_barrier.proofs.Noting.{adds, done, id_of}
use Rattle.publish_barrier.proofs.known.Known.note.Goals as goal

pub returns-clause-refs : goal.returns-clause-refs
returns-clause-refs c =
    let place : Place = record { sort = c.args.thing.sort; at = c.args.thing.at } in
    let room = subst (λ n. 0 < n) (sym (ap (λ (k : Noted). k.room) c.self.view_is)) c.requires in
    ap (λ es. to_globals ∷ map ref_of_row es) (done c.insert.result (c.insert.ensures.succeeds room) c.insert.ensures.entries)
    ∙ adds c.key_of.result c.self.inside.rows.entries c.args.self.now.refs c.args.thing.id (ap (λ (k : Noted). k.refs) c.self.view_is) (ap id_of c.key_of.ensures) c.args.thing place
    c.find.result c.find.ensures c.in_default.not-Some (ap (λ k. ref_of_row (k, place)) c.key_of.ensures) refl
