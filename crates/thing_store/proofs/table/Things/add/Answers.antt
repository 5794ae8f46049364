use Rattle.std.proofs.Common.{◌≡◌, ◌++◌, [], ◌∷◌, false, map, ap, sym, ◌∙◌, refl, arith}
use Rattle.std.proofs.lemmas.List.{append-nil, length-map}
use Rattle.rb_shared.specs.Store.{is_there}
use Rattle.thing_store.specs.Kept.{id_of, item_of}
use Rattle.thing_store.proofs.Freeing.{places_came}
use Rattle.thing_store.proofs.Tabled.{added_here}
use Rattle.thing_store.proofs.table.Things.add.Goals as goal

pub returns-then-is_mutex-clause-ok : goal.returns-then-is_mutex-clause-ok
returns-then-is_mutex-clause-ok c =
    ap (map item_of) c.in_ok-insert.ensures.entries
    ∙ added_here c.key_of.result c.args.thing c.self.inside.rows.entries c.args.self.now c.self.view_is c.args.id (ap id_of c.key_of.ensures) c.requires

pub returns-else-is_mutex-clause-ok : goal.returns-else-is_mutex-clause-ok
returns-else-is_mutex-clause-ok c =
    ap (map item_of) c.in_ok-insert.ensures.entries
    ∙ added_here c.key_of.result c.args.thing c.self.inside.rows.entries c.args.self.now c.self.view_is c.args.id (ap id_of c.key_of.ensures) c.requires

pub invariant_of-self-then-is_mutex : goal.invariant_of-self-then-is_mutex
invariant_of-self-then-is_mutex c =
    let z = map item_of c.self.inside.rows.entries in
    let new : is_there z (id_of c.key_of.result) ≡ false = ap (is_there z) (ap id_of c.key_of.ensures) ∙ ap (λ w. is_there w c.args.id) c.self.view_is ∙ c.requires in
    let came = ap (map item_of) c.in_ok-insert.ensures.entries ∙ added_here c.key_of.result c.args.thing c.self.inside.rows.entries z refl (id_of c.key_of.result) refl new in
    let many = length-map c.self.inside.rows.entries item_of in
    places_came z _ _ _ c.self.inside.mutexes.items c.push_reserved.new.self.items c.len-place.result c.self.invariant came (sym c.if-is_mutex.ensures) (omega (arith, many, c.len-place.ensures.len))
    (c.push_reserved.ensures.items ∙ ap (λ l. l ++ c.len-place.result ∷ []) c.reserve.ensures.items)

pub invariant_of-self-else-is_mutex : goal.invariant_of-self-else-is_mutex
invariant_of-self-else-is_mutex c =
    let z = map item_of c.self.inside.rows.entries in
    let new : is_there z (id_of c.key_of.result) ≡ false = ap (is_there z) (ap id_of c.key_of.ensures) ∙ ap (λ w. is_there w c.args.id) c.self.view_is ∙ c.requires in
    let came = ap (map item_of) c.in_ok-insert.ensures.entries ∙ added_here c.key_of.result c.args.thing c.self.inside.rows.entries z refl (id_of c.key_of.result) refl new in
    let many = length-map c.self.inside.rows.entries item_of in
    places_came z _ _ _ c.self.inside.mutexes.items c.reserve.new.self.items c.len-place.result c.self.invariant came (sym c.if-is_mutex.ensures) (omega (arith, many, c.len-place.ensures.len))
    (c.reserve.ensures.items ∙ sym (append-nil c.self.inside.mutexes.items))
