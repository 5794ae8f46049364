use Rattle.std.proofs.Common.{sym, ap, take, ◌++◌, ◌+◌, append-nil}
use Rattle.std.proofs.lemmas.List.{take_more, take_all}
use Rattle.rb_checker.specs.Locals.{uses_in}
use Rattle.rb_checker.proofs.Captures.{same_notes, text_next}
use Rattle.rb_checker.proofs.UsesMore.{known_by, none_walked, walked_more}
use Rattle.rb_checker.proofs.threads.Noted.note_text.Goals as goal

pub events-init : goal.events-init
events-init c = record {
  walked = none_walked c.new-walk.result c.new-walk.ensures.round c.new-walk.ensures.known;
  noted = λ uses before n. same_notes _ uses _ before _ (append-nil uses) (append-nil before) n;
}

pub events-preserved : goal.events-preserved
events-preserved c =
    let events = c.args.events.now in
    let i = c.events.event-index in
    let walk = c.events.walk in
    let w = c.events.invariant.walked in
    let used = c.used_at-used.result in
    let uses = c.used_at-used.ensures (known_by (take i events)) w.known in
    let more = take_more events i _ c.events-test.true in
    let noted = c.in_ok-note.ensures in
    record {
      walked = walked_more walk c.go_on.new.self (take i events) (take (i + 1) events) _ used more w uses c.in_ok-go_on.ensures.round c.in_ok-go_on.ensures.known;
      noted = text_next c.args.self.now c.events.self c.note.new.self walk c.as_slice.result.now (take i events) (take (i + 1) events) _ used more c.as_slice.ensures.value w uses
          c.events.invariant.noted noted.params noted.captured noted.made noted.starts;
    }

pub returns : goal.returns
returns c = λ uses before n.
    let all = sym (take_all c.events.event-index c.args.events.now c.events-test.false) in
    same_notes _ _ _ _ _ (ap (λ es. uses ++ uses_in es) all) (ap (λ es. before ++ es) all) (c.events.invariant.noted uses before n)
