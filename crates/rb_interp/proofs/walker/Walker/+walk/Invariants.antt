use Rattle.std.proofs.Common.{take, ◌≡◌, ℕ, ◌≤◌, ◌<◌, ◌+◌, ◌-◌, ◌*◌, [], drop, map, length, false}
use Rattle.std.specs.Prelude.{pos, ◌+ℤ◌, ◌≤ℤ◌, slice_get}
use Rattle.rb_tree.specs.declared.span.Span.{Span}
use Rattle.rb_model.specs.Values.{Value as Val, To, Nil, Int, plain}
use Rattle.rb_machine.specs.Control.{EachPair, On, Following, Looping, Turning, Counting, Passing, Joining, Aim}
use Rattle.rb_code.specs.Erase.{erase, erase_block, erase_piece}
use Rattle.rb_code.specs.Resolved.{fits, piece_fits, block_fits, every}
use Rattle.rb_machine.specs.Texts.{max_bytes}
use Rattle.rb_render.specs.Forms.{style_of}
use Rattle.rb_walk.specs.Texts.{WritesOn}
use Rattle.rb_walk.specs.Walks.{WalksOn}
use Rattle.std.specs.Vec.Iter.{into_iter_items}
use Rattle.rb_model.specs.Doing.{pair}
use Rattle.rb_builtin.specs.Deeds.{thing_of}
use Rattle.rb_walk.specs.Lines.{LinesOn}
use Rattle.rb_walk.specs.Collections.{work_of}
use Rattle.rb_walk.specs.Carries.{both, me_of}
use Rattle.rb_interp.specs.Walks.{Kept, Reached}
use Rattle.rb_interp.proofs.walker.Walker.+walk.Given as goal

abbrev pub decreases-walk : goal.decreases-walk
decreases-walk g l = 72 * (1001 - l.depth) + 3

abbrev pub decreases-walk_here : goal.decreases-walk_here
decreases-walk_here g l = 72 * (1001 - l.depth)

abbrev pub decreases-evaluate_call : goal.decreases-evaluate_call
decreases-evaluate_call g l = 72 * (1001 - l.depth) + 9

abbrev pub decreases-begin : goal.decreases-begin
decreases-begin g l = 72 * (1001 - l.depth) + 69

abbrev pub decreases-set_local : goal.decreases-set_local
decreases-set_local g l = 72 * (1001 - l.depth) + 12

abbrev pub decreases-update_local : goal.decreases-update_local
decreases-update_local g l = 72 * (1001 - l.depth) + 21

abbrev pub decreases-operate : goal.decreases-operate
decreases-operate g l = 72 * (1001 - l.depth) + 24

abbrev pub decreases-send : goal.decreases-send
decreases-send g l = 72 * (1001 - l.depth) + 21

abbrev pub decreases-store_by : goal.decreases-store_by
decreases-store_by g l = 72 * (1001 - l.depth) + 27

abbrev pub decreases-send_block : goal.decreases-send_block
decreases-send_block g l = 72 * (1001 - l.depth) + 24

abbrev pub decreases-turns : goal.decreases-turns
decreases-turns g l = 72 * (1001 - l.depth) + 18

abbrev pub decreases-iteration : goal.decreases-iteration
decreases-iteration g l = 72 * (1001 - l.depth) + 15

abbrev pub decreases-walk_elements : goal.decreases-walk_elements
decreases-walk_elements g l = 72 * (1001 - l.depth) + 18

abbrev pub decreases-pair_turns : goal.decreases-pair_turns
decreases-pair_turns g l = 72 * (1001 - l.depth) + 18

abbrev pub decreases-owning : goal.decreases-owning
decreases-owning g l = 72 * (1001 - l.depth) + 15

abbrev pub decreases-synchronize : goal.decreases-synchronize
decreases-synchronize g l = 72 * (1001 - l.depth) + 18

abbrev pub decreases-begin_thread : goal.decreases-begin_thread
decreases-begin_thread g l = 72 * (1001 - l.depth) + 21

abbrev pub decreases-begin_global : goal.decreases-begin_global
decreases-begin_global g l = 72 * (1001 - l.depth) + 36

abbrev pub decreases-walk_pairs : goal.decreases-walk_pairs
decreases-walk_pairs g l = 72 * (1001 - l.depth) + 21

abbrev pub decreases-function : goal.decreases-function
decreases-function g l = 72 * (1001 - l.depth) + 18

abbrev pub decreases-print : goal.decreases-print
decreases-print g l = 72 * (1001 - l.depth) + 42

abbrev pub decreases-told : goal.decreases-told
decreases-told g l = 72 * (1001 - l.depth) + 18

abbrev pub decreases-told_at : goal.decreases-told_at
decreases-told_at g l = 72 * (1001 - l.depth) + 21

abbrev pub decreases-line : goal.decreases-line
decreases-line g l = 72 * (1001 - l.depth) + 21

abbrev pub decreases-advance_line : goal.decreases-advance_line
decreases-advance_line g l = 72 * (1001 - l.depth) + 24

abbrev pub decreases-lines : goal.decreases-lines
decreases-lines g l = 72 * (1001 - l.depth) + 27

abbrev pub decreases-write_array : goal.decreases-write_array
decreases-write_array g l = 72 * (1001 - l.depth) + 30

abbrev pub decreases-write_one : goal.decreases-write_one
decreases-write_one g l = 72 * (1001 - l.depth) + 33

abbrev pub decreases-print_from : goal.decreases-print_from
decreases-print_from g l = 72 * (1001 - l.depth) + 36

abbrev pub decreases-print_texts : goal.decreases-print_texts
decreases-print_texts g l = 72 * (1001 - l.depth) + 39

abbrev pub decreases-array : goal.decreases-array
decreases-array g l = 72 * (1001 - l.depth) + 21

abbrev pub decreases-hash : goal.decreases-hash
decreases-hash g l = 72 * (1001 - l.depth) + 21

abbrev pub decreases-create_builtin : goal.decreases-create_builtin
decreases-create_builtin g l = 72 * (1001 - l.depth) + 21

abbrev pub decreases-set_element : goal.decreases-set_element
decreases-set_element g l = 72 * (1001 - l.depth) + 12

abbrev pub decreases-update_at : goal.decreases-update_at
decreases-update_at g l = 72 * (1001 - l.depth) + 21

abbrev pub decreases-update_element : goal.decreases-update_element
decreases-update_element g l = 72 * (1001 - l.depth) + 24

abbrev pub decreases-combine : goal.decreases-combine
decreases-combine g l = 72 * (1001 - l.depth) + 18

abbrev pub decreases-update_attribute : goal.decreases-update_attribute
decreases-update_attribute g l = 72 * (1001 - l.depth) + 33

abbrev pub decreases-arguments : goal.decreases-arguments
decreases-arguments g l = 72 * (1001 - l.depth) + 15

abbrev pub decreases-literal : goal.decreases-literal
decreases-literal g l = 72 * (1001 - l.depth) + 24

abbrev pub decreases-text : goal.decreases-text
decreases-text g l = 72 * (1001 - l.depth) + 21

abbrev pub decreases-both : goal.decreases-both
decreases-both g l = 72 * (1001 - l.depth) + 12

abbrev pub decreases-either : goal.decreases-either
decreases-either g l = 72 * (1001 - l.depth) + 12

abbrev pub decreases-negate : goal.decreases-negate
decreases-negate g l = 72 * (1001 - l.depth) + 12

abbrev pub decreases-choose : goal.decreases-choose
decreases-choose g l = 72 * (1001 - l.depth) + 15

abbrev pub decreases-body : goal.decreases-body
decreases-body g l = 72 * (1001 - l.depth) + 12

abbrev pub decreases-repeat : goal.decreases-repeat
decreases-repeat g l = 72 * (1001 - l.depth) + 15

abbrev pub decreases-leave_method : goal.decreases-leave_method
decreases-leave_method g l = 72 * (1001 - l.depth) + 15

abbrev pub decreases-leave_with : goal.decreases-leave_with
decreases-leave_with g l = 72 * (1001 - l.depth) + 12

abbrev pub decreases-begin_set : goal.decreases-begin_set
decreases-begin_set g l = 72 * (1001 - l.depth) + 18

abbrev pub decreases-begin_update : goal.decreases-begin_update
decreases-begin_update g l = 72 * (1001 - l.depth) + 42

abbrev pub decreases-begin_slow_update : goal.decreases-begin_slow_update
decreases-begin_slow_update g l = 72 * (1001 - l.depth) + 36

abbrev pub decreases-begin_operate : goal.decreases-begin_operate
decreases-begin_operate g l = 72 * (1001 - l.depth) + 42

abbrev pub decreases-begin_slow_operate : goal.decreases-begin_slow_operate
decreases-begin_slow_operate g l = 72 * (1001 - l.depth) + 36

abbrev pub decreases-begin_send : goal.decreases-begin_send
decreases-begin_send g l = 72 * (1001 - l.depth) + 36

abbrev pub decreases-begin_function : goal.decreases-begin_function
decreases-begin_function g l = 72 * (1001 - l.depth) + 24

abbrev pub decreases-begin_choice : goal.decreases-begin_choice
decreases-begin_choice g l = 72 * (1001 - l.depth) + 24

abbrev pub decreases-begin_set_field : goal.decreases-begin_set_field
decreases-begin_set_field g l = 72 * (1001 - l.depth) + 36

abbrev pub decreases-begin_update_field : goal.decreases-begin_update_field
decreases-begin_update_field g l = 72 * (1001 - l.depth) + 36

abbrev pub decreases-begin_new : goal.decreases-begin_new
decreases-begin_new g l = 72 * (1001 - l.depth) + 36

abbrev pub decreases-operate_target : goal.decreases-operate_target
decreases-operate_target g l = 72 * (1001 - l.depth) + 18

abbrev pub decreases-begin_update_over : goal.decreases-begin_update_over
decreases-begin_update_over g l = 72 * (1001 - l.depth) + 39

abbrev pub decreases-begin_update_sent : goal.decreases-begin_update_sent
decreases-begin_update_sent g l = 72 * (1001 - l.depth) + 39

abbrev pub decreases-evaluate_operand : goal.decreases-evaluate_operand
decreases-evaluate_operand g l = 72 * (1001 - l.depth) + 6

abbrev pub decreases-evaluate_sent : goal.decreases-evaluate_sent
decreases-evaluate_sent g l = 72 * (1001 - l.depth) + 6

abbrev pub decreases-begin_operand : goal.decreases-begin_operand
decreases-begin_operand g l = 72 * (1001 - l.depth) + 39

abbrev pub decreases-begin_other : goal.decreases-begin_other
decreases-begin_other g l = 72 * (1001 - l.depth) + 48

abbrev pub decreases-operate_integer : goal.decreases-operate_integer
decreases-operate_integer g l = 72 * (1001 - l.depth) + 15

abbrev pub decreases-operate_value : goal.decreases-operate_value
decreases-operate_value g l = 72 * (1001 - l.depth) + 21

abbrev pub decreases-combine_integer : goal.decreases-combine_integer
decreases-combine_integer g l = 72 * (1001 - l.depth) + 15

abbrev pub decreases-combine_value : goal.decreases-combine_value
decreases-combine_value g l = 72 * (1001 - l.depth) + 15

abbrev pub decreases-evaluate : goal.decreases-evaluate
decreases-evaluate g l = 72 * (1001 - l.depth) + 12

abbrev pub decreases-test : goal.decreases-test
decreases-test g l = 72 * (1001 - l.depth) + 12

abbrev pub decreases-evaluate_leaf : goal.decreases-evaluate_leaf
decreases-evaluate_leaf g l = 72 * (1001 - l.depth) + 15

abbrev pub decreases-evaluate_apart : goal.decreases-evaluate_apart
decreases-evaluate_apart g l = 72 * (1001 - l.depth) + 12

abbrev pub decreases-run_in : goal.decreases-run_in
decreases-run_in g l = 72 * (1001 - l.depth) + 13

abbrev pub decreases-enter_apart : goal.decreases-enter_apart
decreases-enter_apart g l = 72 * (1001 - l.depth) + 14

abbrev pub decreases-enter : goal.decreases-enter
decreases-enter g l = 72 * (1001 - l.depth) + 15

abbrev pub decreases-enter_storing : goal.decreases-enter_storing
decreases-enter_storing g l = 72 * (1001 - l.depth) + 18

abbrev pub decreases-enter_with : goal.decreases-enter_with
decreases-enter_with g l = 72 * (1001 - l.depth) + 18

abbrev pub decreases-enter_storing_with : goal.decreases-enter_storing_with
decreases-enter_storing_with g l = 72 * (1001 - l.depth) + 21

abbrev pub decreases-invoke : goal.decreases-invoke
decreases-invoke g l = 72 * (1001 - l.depth) + 18

abbrev pub decreases-own : goal.decreases-own
decreases-own g l = 72 * (1001 - l.depth) + 18

abbrev pub decreases-store_with : goal.decreases-store_with
decreases-store_with g l = 72 * (1001 - l.depth) + 21

abbrev pub decreases-begin_print : goal.decreases-begin_print
decreases-begin_print g l = 72 * (1001 - l.depth) + 45

abbrev pub decreases-set_field : goal.decreases-set_field
decreases-set_field g l = 72 * (1001 - l.depth) + 18

abbrev pub decreases-update_field : goal.decreases-update_field
decreases-update_field g l = 72 * (1001 - l.depth) + 21

abbrev pub decreases-enter_first : goal.decreases-enter_first
decreases-enter_first g l = 72 * (1001 - l.depth) + 18

abbrev pub decreases-initialize : goal.decreases-initialize
decreases-initialize g l = 72 * (1001 - l.depth) + 21

abbrev pub decreases-create : goal.decreases-create
decreases-create g l = 72 * (1001 - l.depth) + 24

abbrev pub decreases-write_member : goal.decreases-write_member
decreases-write_member g l = 72 * (1001 - l.depth) + 24

abbrev pub decreases-set_member : goal.decreases-set_member
decreases-set_member g l = 72 * (1001 - l.depth) + 27

abbrev pub decreases-update_member : goal.decreases-update_member
decreases-update_member g l = 72 * (1001 - l.depth) + 30

abbrev pub decreases-begin_own : goal.decreases-begin_own
decreases-begin_own g l = 72 * (1001 - l.depth) + 21

abbrev pub invariant-body-nodes : goal.invariant-body-nodes
invariant-body-nodes g l =
    record {
      base : l.self.base ≡ l.fn.self.base;
      context : l.self.context ≡ l.fn.self.context;
      room : length l.room ≡ length l.fn.room;
      less : l.self.left ≤ l.fn.self.left;
      kept : Kept (λ S. every (map (fits S) l.nodes)) l.fn.self l.fn.room l.room;
      came : (v : Val) × Reached (λ S. every (map (fits S) l.nodes)) (λ S k sc d n. On (Following Nil (map erase l.nodes)) k sc d n) (λ S k sc d n. On (Following v (map erase (drop l.node-index l.nodes))) k sc d n) l.fn.self l.self l.fn.room l.room l.depth;
    }

abbrev pub invariant-passage-nodes : goal.invariant-passage-nodes
invariant-passage-nodes g l =
    record {
      base : l.self.base ≡ l.fn.self.base;
      context : l.self.context ≡ l.fn.self.context;
      room : length l.room ≡ length l.fn.room;
      less : l.self.left ≤ l.fn.self.left;
      kept : Kept (λ S. every (map (fits S) l.nodes)) l.fn.self l.fn.room l.room;
      came : (v : Val) × Reached (λ S. every (map (fits S) l.nodes)) (λ S k sc d n. On (Following Nil (map erase l.nodes)) k sc d n) (λ S k sc d n. On (Following v (map erase (drop l.node-index l.nodes))) k sc d n) l.fn.self l.self l.fn.room l.room l.depth;
    }

abbrev pub invariant-repeat-turns : goal.invariant-repeat-turns
invariant-repeat-turns g l =
    record {
      base : l.self.base ≡ l.fn.self.base;
      context : l.self.context ≡ l.fn.self.context;
      room : length l.room ≡ length l.fn.room;
      less : l.self.left ≤ l.fn.self.left;
      kept : Kept (both (λ S. fits S l.condition) (λ S. every (map (fits S) l.body))) l.fn.self l.fn.room l.room;
      came : Reached (both (λ S. fits S l.condition) (λ S. every (map (fits S) l.body))) (λ S k sc d n. On (Looping (erase l.condition) (map erase l.body)) k sc d n) (λ S k sc d n. On (Looping (erase l.condition) (map erase l.body)) k sc d n) l.fn.self l.self l.fn.room l.room l.depth;
    }

abbrev pub decreases-repeat-turns : goal.decreases-repeat-turns
decreases-repeat-turns g l = l.self.left

abbrev pub invariant-turns-turns : goal.invariant-turns-turns
invariant-turns-turns g l =
    record {
      base : l.self.base ≡ l.fn.self.base;
      context : l.self.context ≡ l.fn.self.context;
      room : length l.room ≡ length l.fn.room;
      less : l.self.left ≤ l.fn.self.left;
      ordered : l.next ≤ℤ l.last;
      within : l.from + l.count ≤ length l.room;
      kept : Kept (λ S. block_fits S l.block) l.fn.self l.fn.room l.room;
      came : Reached (λ S. block_fits S l.block) (λ S k sc d n. On (Turning (Counting l.fn.first (l.last +ℤ pos 1) (Int l.answer)) (erase_block l.block)) k sc d n) (λ S k sc d n. On (Turning (Counting l.next (l.last +ℤ pos 1) (Int l.answer)) (erase_block l.block)) k sc d n) l.fn.self l.self l.fn.room l.room l.depth;
    }

abbrev pub decreases-turns-turns : goal.decreases-turns-turns
decreases-turns-turns g l = l.self.left

abbrev pub invariant-text-pieces : goal.invariant-text-pieces
invariant-text-pieces g l =
    record {
      base : l.self.base ≡ l.fn.self.base;
      context : l.self.context ≡ l.fn.self.context;
      room : length l.room ≡ length l.fn.room;
      less : l.self.left ≤ l.fn.self.left;
      kept : Kept (λ S. every (map (piece_fits S) l.pieces)) l.fn.self l.fn.room l.room;
      came : Reached (λ S. every (map (piece_fits S) l.pieces)) (λ S k sc d n. On (Joining [] (map erase_piece l.pieces) l.at) k sc d n) (λ S k sc d n. On (Joining l.bytes.items (map erase_piece (drop l.piece-index l.pieces)) l.at) k sc d n) l.fn.self l.self l.fn.room l.room l.depth;
    }

abbrev pub invariant-lines-text : goal.invariant-lines-text
invariant-lines-text g l =
    record {
      base : l.self.base ≡ l.fn.self.base;
      context : l.self.context ≡ l.fn.self.context;
      room : length l.room ≡ length l.fn.room;
      less : l.self.left ≤ l.fn.self.left;
      kept : (i : ℕ) → i < l.fn.self.base → slice_get l.room i ≡ slice_get l.fn.room i;
      came : LinesOn l.fn.self.context.script.now l.fn.self.context.program.now l.fn.self.context.steps (me_of l.fn.self.context.me) l.fn.array l.draft l.at l.fn.self.base l.depth l.fn.self.left l.self.left l.fn.room l.room (g.O.ThreadStore.log l.fn.self.store) (g.O.ThreadStore.log l.self.store) (g.O.ThreadStore.private l.fn.self.store) (g.O.ThreadStore.private l.self.store);
    }

abbrev pub decreases-lines-text : goal.decreases-lines-text
decreases-lines-text g l = 4 * l.self.left + work_of l.draft

abbrev pub invariant-print_from-values : goal.invariant-print_from-values
invariant-print_from-values g l =
    record {
      base : l.self.base ≡ l.fn.self.base;
      context : l.self.context ≡ l.fn.self.context;
      room : length l.room ≡ length l.fn.room;
      less : l.self.left ≤ l.fn.self.left;
      fits : length l.bytes.items ≤ max_bytes;
      kept : (i : ℕ) → i < l.fn.self.base → slice_get l.room i ≡ slice_get l.fn.room i;
      came : WritesOn l.fn.self.context.script.now l.fn.self.context.program.now l.fn.self.context.steps (me_of l.fn.self.context.me) (style_of l.style) l.bytes.items (map plain (take l.count (drop l.first l.fn.room))) (drop l.index (map plain (take l.count (drop l.first l.fn.room)))) l.first l.at l.depth l.fn.self.left l.self.left l.fn.room l.room (g.O.ThreadStore.log l.fn.self.store) (g.O.ThreadStore.log l.self.store) (g.O.ThreadStore.private l.fn.self.store) (g.O.ThreadStore.private l.self.store);
    }

abbrev pub invariant-arguments-each : goal.invariant-arguments-each
invariant-arguments-each g l =
    record {
      base : l.self.base ≡ l.fn.self.base + l.arg-index;
      bound : l.fn.self.base ≤ length l.fn.room → l.self.base ≤ length l.room;
      context : l.self.context ≡ l.fn.self.context;
      room : length l.room ≡ length l.fn.room;
      less : l.self.left ≤ l.fn.self.left;
      kept : Kept (λ S. every (map (fits S) l.args)) l.fn.self l.fn.room l.room;
      came : (aim : Aim) (at : Span) → Reached (λ S. every (map (fits S) l.args)) (λ S k sc d n. On (Passing aim [] (map erase l.args) at) k sc d n)
          (λ S k sc d n. On (Passing aim (map plain (take l.arg-index (drop l.fn.self.base l.room))) (map erase (drop l.arg-index l.args)) at) k sc d n) l.fn.self l.self l.fn.room l.room l.depth;
    }

abbrev pub invariant-walk_elements-elements : goal.invariant-walk_elements-elements
invariant-walk_elements-elements g l =
    record {
      base : l.self.base ≡ l.fn.self.base;
      context : l.self.context ≡ l.fn.self.context;
      room : length l.room ≡ length l.fn.room;
      less : l.self.left ≤ l.fn.self.left;
      kept : Kept (λ S. block_fits S l.block) l.fn.self l.fn.room l.room;
      came : WalksOn l.fn.self.context.script.now l.fn.self.context.program.now l.fn.self.context.steps (me_of l.fn.self.context.me) l.block l.array l.pass l.at l.next (map plain l.made.items) l.fn.self.base l.depth l.fn.self.left l.self.left l.fn.room l.room (g.O.ThreadStore.log l.fn.self.store) (g.O.ThreadStore.log l.self.store) (g.O.ThreadStore.private l.fn.self.store) (g.O.ThreadStore.private l.self.store);
    }

abbrev pub decreases-walk_elements-elements : goal.decreases-walk_elements-elements
decreases-walk_elements-elements g l = l.self.left

abbrev pub invariant-pair_turns-pairs : goal.invariant-pair_turns-pairs
invariant-pair_turns-pairs g l =
    record {
      base : l.self.base ≡ l.fn.self.base;
      context : l.self.context ≡ l.fn.self.context;
      room : length l.room ≡ length l.fn.room;
      less : l.self.left ≤ l.fn.self.left;
      kept : Kept (λ S. block_fits S l.block) l.fn.self l.fn.room l.room;
      came : Reached (λ S. block_fits S l.block) (λ S k sc d n. On (Turning (EachPair (map pair l.fn.pairs.items) (To (thing_of l.hash))) (erase_block l.block)) k sc d n) (λ S k sc d n. On (Turning (EachPair (map pair (into_iter_items l.key-iterator)) (To (thing_of l.hash))) (erase_block l.block)) k sc d n) l.fn.self l.self l.fn.room l.room l.depth;
    }

abbrev pub decreases-operate_collection : goal.decreases-operate_collection
decreases-operate_collection g l = 72 * (1001 - l.depth) + 18

abbrev pub decreases-begin_store : goal.decreases-begin_store
decreases-begin_store g l = 72 * (1001 - l.depth) + 30

abbrev pub decreases-statement : goal.decreases-statement
decreases-statement g l = 72 * (1001 - l.depth) + 6

abbrev pub decreases-keep_local : goal.decreases-keep_local
decreases-keep_local g l = 72 * (1001 - l.depth) + 18

abbrev pub decreases-keep_any : goal.decreases-keep_any
decreases-keep_any g l = 72 * (1001 - l.depth) + 12

abbrev pub decreases-store_element : goal.decreases-store_element
decreases-store_element g l = 72 * (1001 - l.depth) + 15

abbrev pub decreases-evaluate_logic : goal.decreases-evaluate_logic
decreases-evaluate_logic g l = 72 * (1001 - l.depth) + 6

abbrev pub decreases-begin_logic : goal.decreases-begin_logic
decreases-begin_logic g l = 72 * (1001 - l.depth) + 18

abbrev pub decreases-begin_object_operate : goal.decreases-begin_object_operate
decreases-begin_object_operate g l = 72 * (1001 - l.depth) + 39

abbrev pub decreases-begin_read_operate : goal.decreases-begin_read_operate
decreases-begin_read_operate g l = 72 * (1001 - l.depth) + 39

abbrev pub decreases-begin_far_send : goal.decreases-begin_far_send
decreases-begin_far_send g l = 72 * (1001 - l.depth) + 24

abbrev pub decreases-store_target : goal.decreases-store_target
decreases-store_target g l = 72 * (1001 - l.depth) + 24

abbrev pub decreases-begin_slow_send : goal.decreases-begin_slow_send
decreases-begin_slow_send g l = 72 * (1001 - l.depth) + 27

abbrev pub decreases-begin_read : goal.decreases-begin_read
decreases-begin_read g l = 72 * (1001 - l.depth) + 33

abbrev pub decreases-read_attribute : goal.decreases-read_attribute
decreases-read_attribute g l = 72 * (1001 - l.depth) + 30

abbrev pub decreases-passage : goal.decreases-passage
decreases-passage g l = 72 * (1001 - l.depth) + 12

abbrev pub decreases-keep_copy : goal.decreases-keep_copy
decreases-keep_copy g l = 72 * (1001 - l.depth) + 15

abbrev pub decreases-send_target : goal.decreases-send_target
decreases-send_target g l = 72 * (1001 - l.depth) + 18
