use Rattle.std.proofs.Common.{List, [], Some, sym, ap, ◌∙◌}
use Rattle.std.specs.List.{flat_map}
use Rattle.rb_checker.specs.declared.event.Event.{Event}
use Rattle.rb_checker.specs.Captured.{start_of, captured_at, frame_at}
use Rattle.rb_checker.specs.Check.{texts}
use Rattle.rb_checker.specs.Locals.{uses_in}
use Rattle.rb_checker.specs.Scoped.{names_behind}
use Rattle.rb_checker.proofs.Captures.{same_notes, started_same}
use Rattle.rb_checker.proofs.threads.names_of_threads.Goals as goal

pub returns : goal.returns
returns c =
    let p = c.args.program.now in
    let is = sym (c.as_slice.ensures ∙ c.in_ok-texts.ensures) in
    let noted = same_notes c.in_ok-noted.noted _ (flat_map uses_in (texts p)) _ (flat_map (λ (es : List Event). es) (texts p))
    (ap (flat_map uses_in) is) (ap (flat_map (λ (es : List Event). es)) is) c.in_ok-noted.ensures in
    let uses = flat_map uses_in (texts p) in
    record {
      captured = λ number. started_same _ (captured_at uses) _ (start_of p number) (noted.starts number)
          (λ place. c.in_ok-captured.ensures place ∙ ap (names_behind [] (Some place)) (c.as_slice-2.ensures.value ∙ noted.captured));
      frames = λ number. started_same _ (frame_at uses) _ (start_of p number) (noted.starts number)
          (λ place. c.in_ok-frames.ensures uses (flat_map (λ (es : List Event). es) (texts p)) noted place);
    }
