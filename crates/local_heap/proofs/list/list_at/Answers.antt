use Rattle.std.proofs.Common.{◌≡◌, ◌∙◌, ap, sym, refl, None, Some, rules, to_z, of_z, w64}
use Rattle.array_strategy.specs.Storage.{seen}
use Rattle.rb_model.specs.declared.value.Value.TheVariants as held
use Rattle.rb_model.specs.Flags.{value_of}
use Rattle.local_heap.proofs.Listing.{reads_list, no_list}
use Rattle.local_heap.proofs.list.list_at.Goals as goal

pub returns-in-Nothing : goal.returns-in-Nothing
returns-in-Nothing c =
    let z : to_z w64 (of_z w64 c.args.index) ≡ c.args.index = search rules in
    reads_list c.args.list.now.items c.args.index None _ (ap (seen held.Int value_of) (sym c.in-Nothing.is) ∙ (rw z at c.peek.ensures)) refl

pub returns-in-Int : goal.returns-in-Int
returns-in-Int c =
    let z : to_z w64 (of_z w64 c.args.index) ≡ c.args.index = search rules in
    reads_list c.args.list.now.items c.args.index (Some (held.Int c.in-Int.field-0)) _ (ap (seen held.Int value_of) (sym c.in-Int.is) ∙ (rw z at c.peek.ensures)) refl

pub returns-in-Item : goal.returns-in-Item
returns-in-Item c =
    let z : to_z w64 (of_z w64 c.args.index) ≡ c.args.index = search rules in
    reads_list c.args.list.now.items c.args.index (Some c.in-Item.value.now) _ (ap (seen held.Int value_of) (sym c.in-Item.is) ∙ (rw z at c.peek.ensures)) c.list_in.ensures

pub returns-in-Flag : goal.returns-in-Flag
returns-in-Flag c =
    let z : to_z w64 (of_z w64 c.args.index) ≡ c.args.index = search rules in
    reads_list c.args.list.now.items c.args.index (Some (value_of c.in-Flag.field-0)) _ (ap (seen held.Int value_of) (sym c.in-Flag.is) ∙ (rw z at c.peek.ensures)) (no_list c.in-Flag.field-0)
