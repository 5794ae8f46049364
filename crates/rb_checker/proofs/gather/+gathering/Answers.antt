use Rattle.std.proofs.Common.{◌∙◌, ap, refl, ◌∷◌, ◌++◌, ◌+◌, map, drop, rules, arith, append_assoc}
use Rattle.std.proofs.lemmas.List.{at_drop_more, at_drop_all}
use Rattle.std.specs.Option.{option_map}
use Rattle.rb_checker.specs.declared.event.Sight.TheVariants as sight
use Rattle.rb_checker.specs.declared.event.Around.TheVariants as around
use Rattle.rb_checker.specs.Events as spec
use Rattle.rb_checker.proofs.Joining.{nothing, finished, once, twice, thrice, four_times, five_times, further, so}
use Rattle.rb_checker.proofs.Parts.{block-parts, body_first, condition_first, events-and, events-call, events-if, events-new, events-op_assign, events-or, events-return, events-set_field, events-set_global, events-store, events-thread_new, events-while, leaves, piece-text, target-attribute, target-field, target-global, target-index, target-local}
use Rattle.rb_checker.proofs.gather.+gathering.Goals as goal

pub add_node-returns-in-Nil : goal.add_node-returns-in-Nil
add_node-returns-in-Nil t c = λ b tells. nothing _ (search (rules, leaves, c.in-Nil.is))

pub add_node-returns-in-Nil-2 : goal.add_node-returns-in-Nil-2
add_node-returns-in-Nil-2 t c = λ b tells. nothing _ (search (rules, leaves, c.in-Nil.is))

pub add_node-returns-in-Nil-3 : goal.add_node-returns-in-Nil-3
add_node-returns-in-Nil-3 t c = λ b tells. nothing _ (search (rules, leaves, c.in-Nil.is))

pub add_node-returns-in-Nil-4 : goal.add_node-returns-in-Nil-4
add_node-returns-in-Nil-4 t c = λ b tells. nothing _ (search (rules, leaves, c.in-Nil.is))

pub add_node-returns-in-Nil-5 : goal.add_node-returns-in-Nil-5
add_node-returns-in-Nil-5 t c = λ b tells. nothing _ (search (rules, leaves, c.in-Nil.is))

pub add_node-returns-in_ok-add_event-in-SetField : goal.add_node-returns-in_ok-add_event-in-SetField
add_node-returns-in_ok-add_event-in-SetField t c =
    so c.add_node.result c.add_node.ensures (λ told b tells.
    twice _
    (spec.alone (sight.Field c.in-SetField.name) c.in-SetField.at)
    (spec.events_of b c.get-in-SetField.result.now)
    c.in_ok-add_event-in-SetField.ensures
    (told b tells)
    (search (rules, events-set_field, c.in-SetField.is, c.get-in-SetField.ensures)))

pub add_node-returns-in_ok-add_event-in-SetGlobal : goal.add_node-returns-in_ok-add_event-in-SetGlobal
add_node-returns-in_ok-add_event-in-SetGlobal t c =
    so c.add_node-in-SetGlobal.result c.add_node-in-SetGlobal.ensures (λ told b tells.
    twice _
    (spec.alone (sight.Global c.in-SetGlobal.name) c.in-SetGlobal.at)
    (spec.events_of b c.get-in-SetGlobal.result.now)
    c.in_ok-add_event-in-SetGlobal.ensures
    (told b tells)
    (search (rules, events-set_global, c.in-SetGlobal.is, c.get-in-SetGlobal.ensures)))

pub add_node-returns-in_ok-add_node-in-Store : goal.add_node-returns-in_ok-add_node-in-Store
add_node-returns-in_ok-add_node-in-Store t c =
    so c.add_all-in-Store.result c.add_all-in-Store.ensures (λ told b tells.
    twice _
    (spec.events_of b c.get-in-Store.result.now)
    (spec.events_of_all b c.as_slice-in-Store.result.now)
    (c.in_ok-add_node-in-Store.ensures b tells)
    (told b tells)
    (search (rules, events-store, c.in-Store.is, c.get-in-Store.ensures, c.as_slice-in-Store.ensures)))

pub add_node-returns-in_ok-add_all-in-Call : goal.add_node-returns-in_ok-add_all-in-Call
add_node-returns-in_ok-add_all-in-Call t c =
    so c.add_block.result c.add_block.ensures (λ told b tells.
    thrice _
    (spec.receiver_step (option_map (spec.part_of b) c.in-Call.receiver) c.in-Call.name c.in-Call.at)
    (spec.events_of_all b c.as_slice-in-Call.result.now)
    (spec.called_block (option_map (spec.block_part b) c.in-Call.block))
    (c.in_ok-add_receiver-in-Call.ensures b tells)
    (c.in_ok-add_all-in-Call.ensures b tells)
    (told b tells)
    (search (rules, events-call, c.in-Call.is, c.as_slice-in-Call.ensures)))

pub add_node-returns-in_ok-add_event-in-New : goal.add_node-returns-in_ok-add_event-in-New
add_node-returns-in_ok-add_event-in-New t c =
    so c.add_all-in-New.result c.add_all-in-New.ensures (λ told b tells.
    twice _
    (spec.alone (sight.Makes c.in-New.class) c.in-New.at)
    (spec.events_of_all b c.as_slice-in-New.result.now)
    c.in_ok-add_event-in-New.ensures
    (told b tells)
    (search (rules, events-new, c.in-New.is, c.as_slice-in-New.ensures)))

pub add_node-returns-in_ok-add_body-in-ThreadNew : goal.add_node-returns-in_ok-add_body-in-ThreadNew
add_node-returns-in_ok-add_body-in-ThreadNew t c =
    so c.add_event-in-ThreadNew-3.result c.add_event-in-ThreadNew-3.ensures (λ told b tells.
    five_times _
    (spec.alone (sight.Starts c.in-ThreadNew.body) c.in-ThreadNew.at)
    (spec.events_of_all b c.as_slice-in-ThreadNew.result.now)
    (spec.alone (sight.Begins around.Thread) c.in-ThreadNew.at)
    (b c.in-ThreadNew.body)
    (spec.alone sight.Ends c.in-ThreadNew.at)
    c.in_ok-add_event-in-ThreadNew.ensures
    (c.in_ok-add_all-in-ThreadNew.ensures b tells)
    c.in_ok-add_event-in-ThreadNew-2.ensures
    (c.in_ok-add_body-in-ThreadNew.ensures b tells)
    told
    (search (rules, events-thread_new, c.in-ThreadNew.is, c.as_slice-in-ThreadNew.ensures)))

pub add_node-returns-in-Local-target : goal.add_node-returns-in-Local-target
add_node-returns-in-Local-target t c =
    so c.add_assignment-in-Local-target.result c.add_assignment-in-Local-target.ensures (λ told b tells.
    once _
    (spec.event (sight.Assigns c.in-Local-target.name) c.in-OpAssign.at ∷ spec.inside (around.Value c.in-Local-target.name) c.in-OpAssign.at (spec.events_of b c.get-in-Local-target.result.now))
    (told b tells)
    (search (rules, events-op_assign, c.in-OpAssign.is, target-local, c.in-Local-target.is, c.get-in-Local-target.ensures)))

pub add_node-returns-in_ok-add_event-in-Field-target : goal.add_node-returns-in_ok-add_event-in-Field-target
add_node-returns-in_ok-add_event-in-Field-target t c =
    so c.add_node-in-Field-target.result c.add_node-in-Field-target.ensures (λ told b tells.
    twice _
    (spec.alone (sight.Field c.in-Field-target.name) c.in-OpAssign.at)
    (spec.events_of b c.get-in-Field-target.result.now)
    c.in_ok-add_event-in-Field-target.ensures
    (told b tells)
    (search (rules, events-op_assign, c.in-OpAssign.is, target-field, c.in-Field-target.is, c.get-in-Field-target.ensures)))

pub add_node-returns-in_ok-add_event-in-Global-target : goal.add_node-returns-in_ok-add_event-in-Global-target
add_node-returns-in_ok-add_event-in-Global-target t c =
    so c.add_node-in-Global-target.result c.add_node-in-Global-target.ensures (λ told b tells.
    twice _
    (spec.alone (sight.Global c.in-Global-target.name) c.in-OpAssign.at)
    (spec.events_of b c.get-in-Global-target.result.now)
    c.in_ok-add_event-in-Global-target.ensures
    (told b tells)
    (search (rules, events-op_assign, c.in-OpAssign.is, target-global, c.in-Global-target.is, c.get-in-Global-target.ensures)))

pub add_node-returns-in_ok-add_node-in-Index-2 : goal.add_node-returns-in_ok-add_node-in-Index-2
add_node-returns-in_ok-add_node-in-Index-2 t c =
    so c.add_node-in-Index-3.result c.add_node-in-Index-3.ensures (λ told b tells.
    thrice _
    (spec.events_of b c.get-in-Index.result.now)
    (spec.events_of b c.get-in-Index-2.result.now)
    (spec.events_of b c.get-in-Index-3.result.now)
    (c.in_ok-add_node-in-Index.ensures b tells)
    (c.in_ok-add_node-in-Index-2.ensures b tells)
    (told b tells)
    (search (rules, events-op_assign, c.in-OpAssign.is, target-index, c.in-Index.is, c.get-in-Index.ensures, c.get-in-Index-2.ensures, c.get-in-Index-3.ensures)))

pub add_node-returns-in_ok-add_node-in-Attribute : goal.add_node-returns-in_ok-add_node-in-Attribute
add_node-returns-in_ok-add_node-in-Attribute t c =
    so c.add_node-in-Attribute-2.result c.add_node-in-Attribute-2.ensures (λ told b tells.
    twice _
    (spec.events_of b c.get-in-Attribute.result.now)
    (spec.events_of b c.get-in-Attribute-2.result.now)
    (c.in_ok-add_node-in-Attribute.ensures b tells)
    (told b tells)
    (search (rules, events-op_assign, c.in-OpAssign.is, target-attribute, c.in-Attribute.is, c.get-in-Attribute.ensures, c.get-in-Attribute-2.ensures)))

pub add_node-returns-in_ok-add_all-in-If-2 : goal.add_node-returns-in_ok-add_all-in-If-2
add_node-returns-in_ok-add_all-in-If-2 t c =
    so c.add_all-in-If-2.result c.add_all-in-If-2.ensures (λ told b tells.
    thrice _
    (spec.events_of b c.get-in-If.result.now)
    (spec.events_of_all b c.as_slice-in-If-2.result.now)
    (spec.events_of_all b c.as_slice-in-If-3.result.now)
    (c.in_ok-add_node-in-If-2.ensures b tells)
    (c.in_ok-add_all-in-If-2.ensures b tells)
    (told b tells)
    (ap (spec.events_of b) c.in-If.is
    ∙ events-if b c.in-If.condition c.in-If.first c.in-If.second c.in-If.at
    ∙ search (rules, append_assoc, c.get-in-If.ensures, c.as_slice-in-If-2.ensures, c.as_slice-in-If-3.ensures, condition_first b c.in-If.at (spec.events_of b c.in-If.condition) c.in-If.first c.as_slice-in-If.ensures c.is_behind.ensures c.if-is_behind.false)))

pub add_node-returns-in_ok-add_all-in-While-2 : goal.add_node-returns-in_ok-add_all-in-While-2
add_node-returns-in_ok-add_all-in-While-2 t c =
    so c.add_event-in-While-2.result c.add_event-in-While-2.ensures (λ told b tells.
    four_times _
    (spec.alone (sight.Begins around.Loop) c.in-While.at)
    (spec.events_of b c.get-in-While.result.now)
    (spec.events_of_all b c.as_slice-in-While-2.result.now)
    (spec.alone sight.Ends c.in-While.at)
    c.in_ok-add_event-in-While.ensures
    (c.in_ok-add_node-in-While-2.ensures b tells)
    (c.in_ok-add_all-in-While-2.ensures b tells)
    told
    (ap (spec.events_of b) c.in-While.is
    ∙ events-while b c.in-While.condition c.in-While.body c.in-While.at
    ∙ search (rules, append_assoc, c.get-in-While.ensures, c.as_slice-in-While-2.ensures, condition_first b c.in-While.at (spec.events_of b c.in-While.condition) c.in-While.body c.as_slice-in-While.ensures c.is_behind-in-While.ensures c.if-is_behind-2.false)))

pub add_node-returns-then-is_behind : goal.add_node-returns-then-is_behind
add_node-returns-then-is_behind t c =
    so c.add_all-then-is_behind-2.result c.add_all-then-is_behind-2.ensures (λ told b tells.
    thrice _
    (spec.events_of_all b c.as_slice-then-is_behind.result.now)
    (spec.events_of b c.get-then-is_behind.result.now)
    (spec.events_of_all b c.as_slice-then-is_behind-2.result.now)
    (c.in_ok-add_all-in-If.ensures b tells)
    (c.in_ok-add_node-in-If.ensures b tells)
    (told b tells)
    (ap (spec.events_of b) c.in-If.is
    ∙ events-if b c.in-If.condition c.in-If.first c.in-If.second c.in-If.at
    ∙ search (rules, append_assoc, c.get-then-is_behind.ensures, c.as_slice-then-is_behind.ensures, c.as_slice-then-is_behind-2.ensures, body_first b c.in-If.at (spec.events_of b c.in-If.condition) c.in-If.first c.as_slice-in-If.ensures c.is_behind.ensures c.if-is_behind.true)))

pub add_node-returns-then-is_behind-2 : goal.add_node-returns-then-is_behind-2
add_node-returns-then-is_behind-2 t c =
    so c.add_event-then-is_behind-2.result c.add_event-then-is_behind-2.ensures (λ told b tells.
    four_times _
    (spec.alone (sight.Begins around.Loop) c.in-While.at)
    (spec.events_of_all b c.as_slice-then-is_behind-2-2.result.now)
    (spec.events_of b c.get-then-is_behind-2.result.now)
    (spec.alone sight.Ends c.in-While.at)
    c.in_ok-add_event-in-While.ensures
    (c.in_ok-add_all-in-While.ensures b tells)
    (c.in_ok-add_node-in-While.ensures b tells)
    told
    (ap (spec.events_of b) c.in-While.is
    ∙ events-while b c.in-While.condition c.in-While.body c.in-While.at
    ∙ search (rules, append_assoc, c.get-then-is_behind-2.ensures, c.as_slice-then-is_behind-2-2.ensures, body_first b c.in-While.at (spec.events_of b c.in-While.condition) c.in-While.body c.as_slice-in-While.ensures c.is_behind-in-While.ensures c.if-is_behind-2.true)))

pub add_node-returns-in_ok-add_event-in-Return : goal.add_node-returns-in_ok-add_event-in-Return
add_node-returns-in_ok-add_event-in-Return t c =
    so c.add_if_some.result c.add_if_some.ensures (λ told b tells.
    twice _
    (spec.alone sight.Returns c.in-Return.at)
    (spec.if_some (option_map (spec.part_of b) c.in-Return.value))
    c.in_ok-add_event-in-Return.ensures
    (told b tells)
    (search (rules, events-return, c.in-Return.is)))

pub add_node-returns-in_ok-add_node-in-And : goal.add_node-returns-in_ok-add_node-in-And
add_node-returns-in_ok-add_node-in-And t c =
    so c.add_node-in-And-2.result c.add_node-in-And-2.ensures (λ told b tells.
    twice _
    (spec.events_of b c.get-in-And.result.now)
    (spec.events_of b c.get-in-And-2.result.now)
    (c.in_ok-add_node-in-And.ensures b tells)
    (told b tells)
    (search (rules, events-and, events-or, c.in-And.is, c.get-in-And.ensures, c.get-in-And-2.ensures)))

pub add_piece-returns-in-Text : goal.add_piece-returns-in-Text
add_piece-returns-in-Text t c = λ b tells. nothing _ (search (rules, piece-text, c.in-Text.is))

pub add_assignment-returns : goal.add_assignment-returns
add_assignment-returns t c =
    so c.add_event-3.result c.add_event-3.ensures (λ told b tells.
    four_times _
    (spec.alone (sight.Assigns c.args.name) c.args.at)
    (spec.alone (sight.Begins (around.Value c.args.name)) c.args.at)
    (spec.events_of b c.args.value.now)
    (spec.alone sight.Ends c.args.at)
    c.in_ok-add_event.ensures
    c.in_ok-add_event-2.ensures
    (c.in_ok-add_node.ensures b tells)
    told
    (search (rules, arith)))

pub add_block-returns-in_default : goal.add_block-returns-in_default
add_block-returns-in_default t c = λ b tells. nothing _ (search (rules, c.in_default.is))

pub add_block-returns : goal.add_block-returns
add_block-returns t c =
    so c.add_event-2.result c.add_event-2.ensures (λ told b tells.
    four_times _
    (spec.alone (sight.Begins around.Block) c.get.result.now.at)
    (spec.params_of c.as_slice.result.now)
    (spec.events_of_all b c.as_slice-2.result.now)
    (spec.alone sight.Ends c.get.result.now.at)
    c.in_ok-add_event.ensures
    c.in_ok-add_params.ensures
    (c.in_ok-add_all.ensures b tells)
    told
    (search (rules, append_assoc, block-parts, c.in-Some.is, c.get.ensures, c.as_slice.ensures, c.as_slice-2.ensures)))

pub add_all-nodes-preserved : goal.add_all-nodes-preserved
add_all-nodes-preserved t c = λ b tells.
    further _
    (spec.events_of b c.node-item.result)
    (spec.events_of_all b (drop (c.nodes.node-index + 1) c.args.nodes.now))
    (c.nodes.invariant b tells)
    (c.in_ok-add_node.ensures b tells)
    (search (rules, at_drop_more (spec.events_of_all b) c.args.nodes.now c.nodes.node-index c.node-item.result c.nodes-test.true, c.node-item.is))

pub add_all-returns : goal.add_all-returns
add_all-returns t c = λ b tells.
    finished c.nodes.events.items (c.nodes.invariant b tells) (at_drop_all (spec.events_of_all b) c.args.nodes.now c.nodes.node-index c.nodes-test.false)

pub add_pieces-pieces-preserved : goal.add_pieces-pieces-preserved
add_pieces-pieces-preserved t c = λ b tells.
    further _
    (spec.piece_events b c.piece-item.result)
    (spec.pieces_of (map (spec.piece_events b) (drop (c.pieces.piece-index + 1) c.args.pieces.now)))
    (c.pieces.invariant b tells)
    (c.in_ok-add_piece.ensures b tells)
    (search (rules, at_drop_more (λ l. spec.pieces_of (map (spec.piece_events b) l)) c.args.pieces.now c.pieces.piece-index c.piece-item.result c.pieces-test.true, c.piece-item.is))

pub add_pieces-returns : goal.add_pieces-returns
add_pieces-returns t c = λ b tells.
    finished c.pieces.events.items (c.pieces.invariant b tells) (at_drop_all (λ l. spec.pieces_of (map (spec.piece_events b) l)) c.args.pieces.now c.pieces.piece-index c.pieces-test.false)

pub add_pairs-pairs-preserved : goal.add_pairs-pairs-preserved
add_pairs-pairs-preserved t c = λ b tells.
    further _ (spec.events_of b c.pair-item.result.0 ++ spec.events_of b c.pair-item.result.1) (spec.pairs_of (map (spec.pair_parts b) (drop (c.pairs.pair-index + 1) c.args.pairs.now))) (c.pairs.invariant b tells)
    (twice _ (spec.events_of b c.pair-item.result.0) (spec.events_of b c.pair-item.result.1) (c.in_ok-add_node.ensures b tells) (c.in_ok-add_node-2.ensures b tells) refl)
    (search (rules, at_drop_more (λ l. spec.pairs_of (map (spec.pair_parts b) l)) c.args.pairs.now c.pairs.pair-index c.pair-item.result c.pairs-test.true, c.pair-item.is))

pub add_pairs-returns : goal.add_pairs-returns
add_pairs-returns t c = λ b tells.
    finished c.pairs.events.items (c.pairs.invariant b tells) (at_drop_all (λ l. spec.pairs_of (map (spec.pair_parts b) l)) c.args.pairs.now c.pairs.pair-index c.pairs-test.false)
