use Rattle.std.proofs.Common.{◌+◌, ◌-◌, length, take, drop, [], ap, arith, ◌∙◌}
use Rattle.std.proofs.lemmas.List.{take_rest}
use Rattle.rb_lexer.specs.declared.turn.Turn.TheVariants as turn
use Rattle.rb_lexer.specs.Stack.{modes_of}
use Rattle.rb_lexer.specs.Lines.{lines_of}
use Rattle.rb_lexer.specs.Tokens.{token_at}
use Rattle.rb_lexer.specs.Turns.{ReadsFromStart, after}
use Rattle.rb_lexer.proofs.Reading.{read-none, read-passed, read-token, read-end, read-few, read-refused, answers-fault, answers-finish, few-finish, turn-is, stack-some, further-within}
use Rattle.rb_lexer.proofs.reader.read.Goals as goal

pub turns-init : goal.turns-init
turns-init c = read-none c.args.source.now c.new-lines.result (modes_of c.new-modes.result) c.new-lines.ensures c.new-modes.ensures

pub overflow_add-at : goal.overflow_add-at
overflow_add-at c =
    let t = turn-is (modes_of c.turns.modes) c.turns.at c.turns.spaced (take (length c.args.source.now - c.turns.at) (drop c.turns.at c.args.source.now)) c.in_ok-turn.turn (turn.Passed c.in-Passed.len) c.in-Passed.is (c.in_ok-turn.ensures c.turns.spaced) in
    let w = further-within c.args.source.now (take (length c.args.source.now - c.turns.at) (drop c.turns.at c.args.source.now)) c.turns.at c.in-Passed.len (take_rest c.args.source.now c.turns.at) c.turns.invariant.within t.1 in
    omega (arith, w)

pub turns-smaller-in-Passed : goal.turns-smaller-in-Passed
turns-smaller-in-Passed c =
    let t = turn-is (modes_of c.turns.modes) c.turns.at c.turns.spaced (take (length c.args.source.now - c.turns.at) (drop c.turns.at c.args.source.now)) c.in_ok-turn.turn (turn.Passed c.in-Passed.len) c.in-Passed.is (c.in_ok-turn.ensures c.turns.spaced) in
    let w = further-within c.args.source.now (take (length c.args.source.now - c.turns.at) (drop c.turns.at c.args.source.now)) c.turns.at c.in-Passed.len (take_rest c.args.source.now c.turns.at) c.turns.invariant.within t.1 in
    let some = t.0 in
    omega (arith, w, some)

pub turns-preserved-in-Passed : goal.turns-preserved-in-Passed
turns-preserved-in-Passed c =
    read-passed c.turns.invariant (take (length c.args.source.now - c.turns.at) (drop c.turns.at c.args.source.now)) c.in-Passed.len (take_rest c.args.source.now c.turns.at)
    (turn-is (modes_of c.turns.modes) c.turns.at c.turns.spaced (take (length c.args.source.now - c.turns.at) (drop c.turns.at c.args.source.now)) c.in_ok-turn.turn (turn.Passed c.in-Passed.len) c.in-Passed.is (c.in_ok-turn.ensures c.turns.spaced))

pub token_at-requires : goal.token_at-requires
token_at-requires c =
    let t = turn-is (modes_of c.turns.modes) c.turns.at c.turns.spaced (take (length c.args.source.now - c.turns.at) (drop c.turns.at c.args.source.now)) c.in_ok-turn.turn (turn.Token c.in-Token.kind c.in-Token.len c.in-Token.change) c.in-Token.is (c.in_ok-turn.ensures c.turns.spaced) in
    let w = further-within c.args.source.now (take (length c.args.source.now - c.turns.at) (drop c.turns.at c.args.source.now)) c.turns.at c.in-Token.len (take_rest c.args.source.now c.turns.at) c.turns.invariant.within t.1 in
    let small = c.requires in
    omega (arith, w, small)

pub follow-requires : goal.follow-requires
follow-requires c =
    let t = turn-is (modes_of c.turns.modes) c.turns.at c.turns.spaced (take (length c.args.source.now - c.turns.at) (drop c.turns.at c.args.source.now)) c.in_ok-turn.turn (turn.Token c.in-Token.kind c.in-Token.len c.in-Token.change) c.in-Token.is (c.in_ok-turn.ensures c.turns.spaced) in
    stack-some (c.turns.at + c.in-Token.len) (after c.in-Token.change (modes_of c.turns.modes)) t.2

pub turns-smaller : goal.turns-smaller
turns-smaller c =
    let t = turn-is (modes_of c.turns.modes) c.turns.at c.turns.spaced (take (length c.args.source.now - c.turns.at) (drop c.turns.at c.args.source.now)) c.in_ok-turn.turn (turn.Token c.in-Token.kind c.in-Token.len c.in-Token.change) c.in-Token.is (c.in_ok-turn.ensures c.turns.spaced) in
    let w = further-within c.args.source.now (take (length c.args.source.now - c.turns.at) (drop c.turns.at c.args.source.now)) c.turns.at c.in-Token.len (take_rest c.args.source.now c.turns.at) c.turns.invariant.within t.1 in
    let some = t.0 in
    omega (arith, w, some)

pub turns-preserved : goal.turns-preserved
turns-preserved c =
    read-token c.turns.invariant (take (length c.args.source.now - c.turns.at) (drop c.turns.at c.args.source.now)) c.in-Token.kind c.in-Token.len c.in-Token.change c.token_at.result c.add.new.self (modes_of c.follow.new.self) (take_rest c.args.source.now c.turns.at)
    (turn-is (modes_of c.turns.modes) c.turns.at c.turns.spaced (take (length c.args.source.now - c.turns.at) (drop c.turns.at c.args.source.now)) c.in_ok-turn.turn (turn.Token c.in-Token.kind c.in-Token.len c.in-Token.change) c.in-Token.is (c.in_ok-turn.ensures c.turns.spaced))
    (c.token_at.ensures ∙ ap (token_at c.in-Token.kind c.turns.at c.in-Token.len) c.spaced.ensures)
    c.in_ok-add-in-Token.ensures.ok c.in_ok-follow-in-Token.ensures.ok

pub returns-in-End-clause-sound : goal.returns-in-End-clause-sound
returns-in-End-clause-sound c =
    answers-finish (ReadsFromStart c.args.source.now) c.finish.result (lines_of c.add-in-End.new.self []) c.finish.ensures.ok c.finish.ensures.memory
    (read-end c.turns.invariant (take (length c.args.source.now - c.turns.at) (drop c.turns.at c.args.source.now)) c.token_at-in-End.result c.add-in-End.new.self (take_rest c.args.source.now c.turns.at)
    (turn-is (modes_of c.turns.modes) c.turns.at c.turns.spaced (take (length c.args.source.now - c.turns.at) (drop c.turns.at c.args.source.now)) c.in_ok-turn.turn turn.End c.in-End.is (c.in_ok-turn.ensures c.turns.spaced)) c.token_at-in-End.ensures
    c.in_ok-add-in-End.ensures.ok)

pub returns-in-End-clause-few : goal.returns-in-End-clause-few
returns-in-End-clause-few c =
    few-finish c.finish.result (lines_of c.add-in-End.new.self []) (length c.args.source.now + 1) c.finish.ensures.ok
    (read-few c.turns.invariant c.token_at-in-End.result c.add-in-End.new.self c.in_ok-add-in-End.ensures.ok)

pub returns-in-Refused-clause-sound : goal.returns-in-Refused-clause-sound
returns-in-Refused-clause-sound c =
    answers-fault (ReadsFromStart c.args.source.now) c.in-Refused.fault
    (read-refused c.turns.invariant (take (length c.args.source.now - c.turns.at) (drop c.turns.at c.args.source.now)) c.in-Refused.fault (take_rest c.args.source.now c.turns.at)
    (turn-is (modes_of c.turns.modes) c.turns.at c.turns.spaced (take (length c.args.source.now - c.turns.at) (drop c.turns.at c.args.source.now)) c.in_ok-turn.turn (turn.Refused c.in-Refused.fault) c.in-Refused.is (c.in_ok-turn.ensures c.turns.spaced)))
