use Rattle.std.proofs.Common.{◌≡◌, ◌++◌, [], ◌∷◌, map, refl, ap, ◌∙◌, subst, arith}
use Rattle.rb_model.specs.Doing.{slot}
use Rattle.thing_store.specs.Fields.{StandsAt, has_field}
use Rattle.thing_store.proofs.Fields.{place_within, set_there, comes_last}
use Rattle.thing_store.proofs.objects.write.Goals as goal

pub index_mut-found-requires : goal.index_mut-found-requires
index_mut-found-requires c =
    let within = place_within c.args.name c.in-Some.place c.deref.result.now c.in-Some.ensures.there in
    omega (arith, within, c.deref.ensures.len)

pub returns-in-Some-clause-done : goal.returns-in-Some-clause-done
returns-in-Some-clause-done c =
    set_there c.args.name c.in-Some.place c.args.fields.now.items c.index_mut-found.result.now c.args.value c.widened-found.result
    (subst (λ items. StandsAt c.args.name c.in-Some.place (map slot items)) c.deref.ensures.value c.in-Some.ensures.there) c.index_mut-found.ensures.value c.widened-found.ensures

pub returns-clause-done : goal.returns-clause-done
returns-clause-done c =
    let none = subst (λ items. has_field c.args.name (map slot items) ≡ _) c.deref.ensures.value (c.in_default.ensures.none refl) in
    ap (map slot) c.in_ok-push.ensures.items ∙ ap (λ wide. map slot (c.args.fields.now.items ++ record { name = c.args.name; value = c.args.value; wide = wide } ∷ [])) c.widened-wide.ensures ∙ comes_last c.args.name c.args.fields.now.items c.args.value none
