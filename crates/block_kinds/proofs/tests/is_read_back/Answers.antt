use Rattle.std.proofs.Common.{◌∙◌, subst, sym}
use Rattle.rb_model.specs.Values.{Str, plain}
use Rattle.heap_core.specs.Blocks.{TextAt}
use Rattle.heap_core.specs.Heaps.{holder}
use Rattle.block_kinds.specs.Built.{OwnsWords}
use Rattle.block_kinds.specs.Reading.{CanRead, IsLoaded}
use Rattle.block_kinds.proofs.Trying.{lies_anywhere, needs_no_place, taken_owns}
use Rattle.block_kinds.proofs.tests.is_read_back.Goals as goal

pub build-word-requires : goal.build-word-requires
build-word-requires g c =
    let took = c.in-Got.ensures.took in
    record {
      of = c.take.ensures.of ∙ c.in-Ok.ensures.of;
      room = subst (OwnsWords (holder c.take.new.pass) c.in-Got.at) c.words_for.ensures (taken_owns (holder c.in-Ok.pass) (holder c.take.new.pass) c.in-Got.at c.words_for.result took.3.0 took.3.1 took.3.2);
      place = needs_no_place c.args.value.now c.requires.lies;
    }

pub load-loaded-requires : goal.load-loaded-requires
load-loaded-requires g c = record {
  of = c.build-word.ensures.of ∙ (c.take.ensures.of ∙ c.in-Ok.ensures.of);
  named = (plain c.args.value.now, c.build-word.ensures.named (lies_anywhere c.args.value.now _ c.requires.lies));
}

pub read_text-requires : goal.read_text-requires
read_text-requires g c =
    let named = c.build-word.ensures.named (lies_anywhere c.args.value.now _ c.requires.lies) in
    let loaded = c.load-loaded.ensures.loaded (plain c.args.value.now) named in
    let text = subst (λ v. IsLoaded (holder c.build-word.new.pass) (plain v) c.load-loaded.result) c.in-Text-Str.is-1 loaded in
    let place = subst (λ l. IsLoaded (holder c.build-word.new.pass) (Str c.in-Text-Str.text) l) c.in-Text-Str.is-0 text in
    record {
      of = c.load-loaded.ensures.of ∙ (c.build-word.ensures.of ∙ (c.take.ensures.of ∙ c.in-Ok.ensures.of));
      known = (c.in-Text-Str.text, subst (λ k. CanRead k (TextAt c.in-Text-Str.text c.in-Text-Str.place)) (sym c.load-loaded.ensures.same) place);
    }
