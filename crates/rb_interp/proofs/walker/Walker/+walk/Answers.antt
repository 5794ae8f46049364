use Rattle.rb_tree.specs.declared.node.Program.{Program}
use Rattle.rb_tree.specs.declared.node.Node.{out-Node}
use Rattle.rb_walk.specs.Answers.{OrMemory, outcome_of}
use Rattle.rb_walk.specs.Carries.{numbered, goes_on, plainly, updating, scope_of, written_by, printing, me_of}
use Rattle.rb_code.proofs.Slots.{slot_within}
use Rattle.std.proofs.Common.{rules, to_z, of_z, w64, ◌≡◌, ap, sym, ◌∙◌, refl, [], ◌∷◌, ◌++◌, take, drop, map, length, replicate, ◌+◌, ◌-◌, ◌<◌, ◌≤◌, Some, None, true, false, arith, subst}
use Rattle.std.proofs.lemmas.List.{drop_all}
use Rattle.std.specs.Prelude.{codes, pos, ◌+ℤ◌, ◌≤ℤ◌, slice_get, slice_set}
use Rattle.rb_model.specs.Values.{Nil, Int, plain}
use Rattle.rb_machine.specs.Control.{Lines, LinesBehind, LineOf, Listing, Pairing, Then, Under, Rest, AssignTo, ReturnOf, Test, Again, RightOfAnd, RightOfOr, Negate, Choose, Argument, OnReceiver, IndexedBy, IndexOf, MemberOf, ReadOf, RightOf, WriteTo, ReceiverOf, Instead, OfLocal, OfField, OfElement, OfAttribute, Creating, FieldTo, On, Eval, Storing, ByName, ReceiverToStore, PieceOf, Counting, Turn, Frame, JoinTo, TextOf, WriteBehind, GlobalTo, OfGlobal, Threading, Locked, Owning}
use Rattle.rb_code.specs.Erase.{erase, erase_piece, erase_block, erase_method}
use Rattle.rb_code.specs.Resolved.{fits, every, if_some, block_fits}
use Rattle.rb_code.proofs.Showing.{shows-array, shows-hash, shows-new_builtin, shows-nil, shows-false, shows-true, shows-self_ref, shows-field, shows-set_field, shows-update_field, shows-new, shows-own, shows-int, shows-sym, shows-local, shows-and, shows-or, shows-not, shows-if, shows-break, shows-next, shows-set_local, shows-while, shows-return, shows-str, shows-update_local, shows-update_element, shows-update_attribute, shows-store, shows-operate, shows-send, shows-walk, shows-function, shows-print, shows-start, shows-global, shows-set_global, shows-update_global}
use Rattle.rb_code.proofs.Fitting.{fits-array, fits-hash, fits-new_builtin, fits-local, fits-set_field, fits-update_field, fits-new, fits-own, fits-and, fits-or, fits-not, fits-if, fits-set_local, fits-while, fits-return, fits-str, fits-update_local, fits-update_element, fits-update_attribute, fits-store, fits-operate, fits-send, fits-walk, fits-function, fits-print, fits-start, fits-set_global, fits-update_global}
use Rattle.rb_walk.specs.Outcome.{Gave, is_left, value_of, outcome, Came}
use Rattle.rb_walk.proofs.Moves.{gives, test_true, test_false, on, same, begins, follows, counts, too_many, too_deep, left}
use Rattle.rb_walk.proofs.Immediates.{reads_element, told_value}
use Rattle.rb_walk.specs.Answers.{wrote}
use Rattle.rb_interp.proofs.Lists.{is_nothing}
use Rattle.rb_walk.proofs.Lists.{at_end, in_front, two_items, no_items, none_behind, never, two, fst, snd, next_item, len_set, len_map, len_args, get_set, nothing, front, there}
use Rattle.rb_walk.proofs.Rooms.{args_fit, sub, moved, every_item, lies, frame_back, read_room, room_beyond}
use Rattle.rb_walk.proofs.Outcomes.{stored, stopped_left, again_unread, statements_end, gave, given, comes, passes, gone, again_out, tested_again, tested_out, called, turn_too_many, turns_end}
use Rattle.rb_walk.proofs.Steps.{and_goes, and_stops, or_goes, or_stops, negated, chosen_first, chosen_second, assigned, kept_write}
use Rattle.rb_machine.specs.Scopes.{text_of}
use Rattle.rb_builtin.specs.Names.{builtin_of}
use Rattle.rb_builtin.proofs.Table.{same_is}
use Rattle.rb_walk.proofs.Quick.{asks_nil, compares, calls_pair, calls_twice, updates, updates_over}
use Rattle.rb_walk.proofs.Calls.{calls, no_such, none_plain}
use Rattle.rb_walk.proofs.Places.{operator_number, or_else_stays, or_else_goes, and_then_stays, and_then_goes, operates, reads, attribute_is, target_local, target_field, target_element, target_attribute, target_global}
use mathlib.Core.Logic.{inl}
use Rattle.rb_machine.specs.Call.{operator, last_value, enter, print, text_by, own_text, write, ask_of}
use Rattle.rb_walk.proofs.Arguments.{passing, passed, placed, placed_last, joined, only_left, only_came, over_left}
use Rattle.rb_walk.proofs.Singles.{single}
use Rattle.rb_walk.proofs.Fetching.{calls_fetched}
use Rattle.rb_walk.proofs.Prints.{by_form, printing_is, by_text}
use Rattle.std.specs.Option.{option_map, option_copied}
use Rattle.rb_code.specs.Dispatch.{method_at}
use Rattle.rb_machine.specs.Begin.{begin_return}
use Rattle.rb_walk.proofs.Pieces.{piece_code, shows_text, shows_code, joining, joins_code, text_long, text_joins, whole_text, too_long, not_long, asks_piece}
use Rattle.std.proofs.lemmas.Int.{ints, to_z-of_z}
use Rattle.rb_code.specs.Layout.{bound, have_slots}
use Rattle.rb_machine.specs.Control.{ForEach, Give, Passing, Walking}
use Rattle.rb_machine.specs.Turns.{holding}
use Rattle.rb_machine.specs.Methods.{LoopsOver, EachPairOf, Synchronizes}
use Rattle.rb_model.specs.Values.{To}
use Rattle.rb_model.specs.Acts.{GetField}
use Rattle.rb_model.specs.Doing.{pair}
use Rattle.rb_builtin.specs.Deeds.{thing_of, walk_of}
use Rattle.rb_walk.specs.Walks.{walking}
use Rattle.rb_walk.proofs.Walks.{over_stops, no_step, start_left, begun_at, iteration_opens, iteration_goes, element_begins, element_ends, pair_begins, pairs_end, copied_left, no_pairs, block_comes, still_within, up_to_end}
use Rattle.std.proofs.Common.{suc}
use Rattle.rb_walk.proofs.Turns.{some_left, none_left, last_done, ends_within, deeper, opens, closes, closes_out, cut, answers_block, block_turns, takes_is, back_is}
use Rattle.rb_machine.specs.Methods.{deed}
use Rattle.rb_walk.proofs.Elements.{calls_builtin, stores_builtin, writes_element, built_from, parts_are}
use Rattle.rb_builtin.specs.declared.builtin.Builtin.TheVariants as builtin
use Rattle.rb_code.specs.Resolved.{form_text}
use Rattle.rb_walk.proofs.Named.{unnamed_is, found_nowhere}
use Rattle.rb_walk.proofs.Frames.{enters, other_count, frame_lies, enter_left, by_receiver, blocked, by_own, by_number, function_right, enters_apart, row_long}
use Rattle.rb_walk.proofs.Targets.{operator_none, update_none, writer_some, writer_right, writer_none, writer_me}
use Rattle.rb_walk.proofs.Objects.{fielded_by, read_so, created, created_from, initialize_left, initializes, first_right, takes_none, is_ready}
use Rattle.rb_walk.proofs.Owning.{no_owning, owning_left, owning_opens}
use Rattle.rb_walk.specs.Objects.{of_self, of_all, plainly as fielded, globally, updating as field_updated}
use Rattle.rb_interp.proofs.Alike.{Alike, alike}
use Rattle.rb_interp.proofs.Arms.{no_arm}
use Rattle.rb_interp.proofs.walker.Walker.+walk.Goals.{choose-then-is_true_now, choose-else-is_true_now, arguments-then-self-room+then-self-gt0+then-depth-lt-MAX_DEPTH+in_default+in_default-local_at, arguments-then-self-room+then-self-gt0+then-depth-lt-MAX_DEPTH+in_default+in-Some-local_at+in_default-share, arguments-else-self-room, text-in-Text+in_default, text-in-Code+else-is_left+else-is_left-2+in_default-add_value}
use Rattle.rb_walk.proofs.Endings.{quietly}
use Rattle.rb_render.specs.Forms.{style_of}
use Rattle.rb_model.specs.declared.value.Value.TheVariants as held
use Rattle.rb_model.specs.Ends as ending
use Rattle.std.specs.Prelude.{Err}
use Rattle.rb_walk.proofs.Drafting.{over_left as ends_left, left_only, text_ends, text_given, text_asked, asks_less, finished_is}
use Rattle.rb_walk.proofs.Lines.{bytes_told, end_told, told_line, line_passes, lines_told, writes_next, in_style}
use Rattle.rb_walk.proofs.Texts.{registers_unasked, registers_plain, told_enters, told_gives, text_left, write_left, copy_came, copy_left, told_itself, told_leaving, told_answer, told_by_class, told_left, told_passes, told_joins, told_writes, read_item, next_value, no_value, shows_all, gives_nil}
use Rattle.rb_interp.proofs.walker.Walker.+walk.Goals as goal

pub walk_here-returns-then-self-eq0-clause-came : goal.walk_here-returns-then-self-eq0-clause-came
walk_here-returns-then-self-eq0-clause-came g m c = λ S names size st e l. (
  λ i p q. refl,
  λ start k a. rw (c.over.ensures.gives, c.over.ensures.stays.2, c.over.ensures.stays.3) (too_many c.if-self-eq0.true a),
)

pub walk_here-returns-then-depth-ge-MAX_DEPTH-clause-came : goal.walk_here-returns-then-depth-ge-MAX_DEPTH-clause-came
walk_here-returns-then-depth-ge-MAX_DEPTH-clause-came g m c = λ S names size st e l. (
  λ i p q. refl,
  λ start k a.
      let o = c.raise.ensures in
      rw (o.gives, o.stays.2, o.stays.3, c.place_of.ensures) (too_deep (omega (arith, c.if-self-eq0.false)) c.if-depth-ge-MAX_DEPTH.true a),
)

pub walk_here-returns-clause-came : goal.walk_here-returns-clause-came
walk_here-returns-clause-came g m c = λ S names size st e l. (
  λ i p q. (c.begin.ensures.came S names size st e l).0 i p q,
  λ start k a. left S _ start _ _ _ k _ _ _ _ ((c.begin.ensures.came S names size st e l).1 start (Under c.args.depth ∷ k) (counts (omega (arith, c.if-self-eq0.false)) (omega (arith, c.if-depth-ge-MAX_DEPTH.false)) a)),
)

pub begin-returns-in-Nil-clause-came : goal.begin-returns-in-Nil-clause-came
begin-returns-in-Nil-clause-came g m c = λ S names size st e l. (
  λ i p q. refl,
  λ start k a. begins _ _ k _ _ _ (shows-nil c.args.code.now c.in-Nil.field-0 c.in-Nil.is) a,
)

pub begin-returns-in-False-clause-came : goal.begin-returns-in-False-clause-came
begin-returns-in-False-clause-came g m c = λ S names size st e l. (
  λ i p q. refl,
  λ start k a. begins _ _ k _ _ _ (shows-false c.args.code.now c.in-False.field-0 c.in-False.is) a,
)

pub begin-returns-in-True-clause-came : goal.begin-returns-in-True-clause-came
begin-returns-in-True-clause-came g m c = λ S names size st e l. (
  λ i p q. refl,
  λ start k a. begins _ _ k _ _ _ (shows-true c.args.code.now c.in-True.field-0 c.in-True.is) a,
)

pub begin-returns-in-Int-clause-came : goal.begin-returns-in-Int-clause-came
begin-returns-in-Int-clause-came g m c = λ S names size st e l. (
  λ i p q. refl,
  λ start k a.
      let z : to_z w64 (of_z w64 c.in-Int.n) ≡ c.in-Int.n = search rules in
      rw z (begins _ _ k _ _ _ (shows-int c.args.code.now c.in-Int.n c.in-Int.field-1 c.in-Int.is) a),
)

pub begin_other-returns-in-Sym-clause-came : goal.begin_other-returns-in-Sym-clause-came
begin_other-returns-in-Sym-clause-came g m c = λ S names size st e l. (
  λ i p q. refl,
  λ start k a. rw (c.give.ensures.gives, c.give.ensures.stays.2, c.give.ensures.stays.3) (begins _ _ k _ _ _ (shows-sym c.args.code.now c.in-Sym.name c.in-Sym.field-1 c.in-Sym.is) a),
)

pub begin_other-returns-in-Break-clause-came : goal.begin_other-returns-in-Break-clause-came
begin_other-returns-in-Break-clause-came g m c = λ S names size st e l. (
  λ i p q. refl,
  λ start k a. begins _ _ k _ _ _ (shows-break c.args.code.now c.in-Break.field-0 c.in-Break.is) a,
)

pub begin_other-returns-in-Next-clause-came : goal.begin_other-returns-in-Next-clause-came
begin_other-returns-in-Next-clause-came g m c = λ S names size st e l. (
  λ i p q. refl,
  λ start k a. begins _ _ k _ _ _ (shows-next c.args.code.now c.in-Next.field-0 c.in-Next.is) a,
)

pub begin_logic-returns-in-And-clause-came : goal.begin_logic-returns-in-And-clause-came
begin_logic-returns-in-And-clause-came g m c = λ S names size st e l.
    let x = c.in-And in
    let s = sym (ap (λ d. fits S d names size) x.is ∙ fits-and S names size x.first x.second x.field-2) ∙ l.fits in
    let under = sub _ l (rw (c.get.ensures, c.get-in-And.ensures) s) in (
      λ i p q. (c.both.ensures.came S names size st e under).0 i p q,
      λ start k a. (c.both.ensures.came S names size st e under).1 start k (rw (c.get.ensures, c.get-in-And.ensures) (begins _ _ k _ _ _ (shows-and c.args.code.now x.first x.second x.field-2 x.is) a)),
    )

pub begin_logic-returns-in-Or-clause-came : goal.begin_logic-returns-in-Or-clause-came
begin_logic-returns-in-Or-clause-came g m c = λ S names size st e l.
    let x = c.in-Or in
    let s = sym (ap (λ d. fits S d names size) x.is ∙ fits-or S names size x.first x.second x.field-2) ∙ l.fits in
    let under = sub _ l (rw (c.get-in-Or.ensures, c.get-in-Or-2.ensures) s) in (
      λ i p q. (c.either.ensures.came S names size st e under).0 i p q,
      λ start k a. (c.either.ensures.came S names size st e under).1 start k (rw (c.get-in-Or.ensures, c.get-in-Or-2.ensures) (begins _ _ k _ _ _ (shows-or c.args.code.now x.first x.second x.field-2 x.is) a)),
    )

pub begin_logic-returns-in-Not-clause-came : goal.begin_logic-returns-in-Not-clause-came
begin_logic-returns-in-Not-clause-came g m c = λ S names size st e l.
    let x = c.in-Not in
    let s = sym (ap (λ d. fits S d names size) x.is ∙ fits-not S names size x.value x.field-1) ∙ l.fits in
    let under = sub _ l (rw c.get-in-Not.ensures s) in (
      λ i p q. (c.negate.ensures.came S names size st e under).0 i p q,
      λ start k a. (c.negate.ensures.came S names size st e under).1 start k (rw c.get-in-Not.ensures (begins _ _ k _ _ _ (shows-not c.args.code.now x.value x.field-1 x.is) a)),
    )

pub begin_choice-returns-in-If-clause-came : goal.begin_choice-returns-in-If-clause-came
begin_choice-returns-in-If-clause-came g m c = λ S names size st e l.
    let x = c.in-If in
    let s = sym (ap (λ d. fits S d names size) x.is ∙ fits-if S names size x.condition x.first x.second x.field-3) ∙ l.fits in
    let under = sub _ l (rw (c.get.ensures, c.as_slice.ensures, c.as_slice-in-If.ensures) s) in (
      λ i p q. (c.choose.ensures.came S names size st e under).0 i p q,
      λ start k a. (c.choose.ensures.came S names size st e under).1 start k (rw (c.get.ensures, c.as_slice.ensures, c.as_slice-in-If.ensures) (begins _ _ k _ _ _ (shows-if c.args.code.now x.condition x.first x.second x.field-3 x.is) a)),
    )

pub both-returns-then-is_left-clause-came : goal.both-returns-then-is_left-clause-came
both-returns-then-is_left-clause-came g m c = λ S names size st e l. (
  λ i p q. (c.evaluate_call-came.ensures.came S names size st e (sub (fits S c.args.first.now) l (fst _ _ l.fits))).0 i p q,
  λ start k a.
      let w = c.evaluate_call-came in
      let came = (w.ensures.came S names size st e (sub (fits S c.args.first.now) l (fst _ _ l.fits))).1 start (Then (RightOfAnd (erase c.args.second.now)) ∷ k) a in
      passes S _ start _ w.result w.new.self.value w.new.self.leave _ (RightOfAnd (erase c.args.second.now)) k _ _ _ (sym c.is_left.ensures ∙ c.if-is_left.true) came,
)

pub both-returns-then-not-is_true_now-clause-came : goal.both-returns-then-not-is_true_now-clause-came
both-returns-then-not-is_true_now-clause-came g m c = λ S names size st e l. (
  λ i p q. (c.evaluate_call-came.ensures.came S names size st e (sub (fits S c.args.first.now) l (fst _ _ l.fits))).0 i p q,
  λ start k a.
      let w = c.evaluate_call-came in
      let came = (w.ensures.came S names size st e (sub (fits S c.args.first.now) l (fst _ _ l.fits))).1 start (Then (RightOfAnd (erase c.args.second.now)) ∷ k) a in
      let none = sym c.is_left.ensures ∙ c.if-is_left.false in
      let g = given w.result w.new.self.value w.new.self.leave none came in
      let t = sym (c.is_true_now.ensures none) in
      comes S _ start _ _ k _ _ _ _ _ (gave w.result w.new.self.value w.new.self.leave none) (and_stops (t ∙ c.if-not-is_true_now.true) g),
)

pub both-returns-clause-came : goal.both-returns-clause-came
both-returns-clause-came g m c = λ S names size st e l.
    let w = c.evaluate_call-came in
    let under = moved _ _ w.ensures.stays.0 w.ensures.stays.3 (sub (fits S c.args.second.now) l (snd _ _ l.fits)) in
    let f = rw w.ensures.stays.1 at c.evaluate_call.ensures.came in (
      λ i p q. (f S names size st e under).0 i p (omega (arith, q, w.ensures.stays.0)) ∙ (w.ensures.came S names size st e (sub (fits S c.args.first.now) l (fst _ _ l.fits))).0 i p q,
      λ start k a.
          let came = (w.ensures.came S names size st e (sub (fits S c.args.first.now) l (fst _ _ l.fits))).1 start (Then (RightOfAnd (erase c.args.second.now)) ∷ k) a in
          let none = sym c.is_left.ensures ∙ c.if-is_left.false in
          let g = given w.result w.new.self.value w.new.self.leave none came in
          let t = sym (c.is_true_now.ensures none) in
          (f S names size st e under).1 start k (and_goes (t ∙ c.if-not-is_true_now.false) g),
    )

pub either-returns-then-is_left-clause-came : goal.either-returns-then-is_left-clause-came
either-returns-then-is_left-clause-came g m c = λ S names size st e l. (
  λ i p q. (c.evaluate_call-came.ensures.came S names size st e (sub (fits S c.args.first.now) l (fst _ _ l.fits))).0 i p q,
  λ start k a.
      let w = c.evaluate_call-came in
      let came = (w.ensures.came S names size st e (sub (fits S c.args.first.now) l (fst _ _ l.fits))).1 start (Then (RightOfOr (erase c.args.second.now)) ∷ k) a in
      passes S _ start _ w.result w.new.self.value w.new.self.leave _ (RightOfOr (erase c.args.second.now)) k _ _ _ (sym c.is_left.ensures ∙ c.if-is_left.true) came,
)

pub either-returns-then-is_true_now-clause-came : goal.either-returns-then-is_true_now-clause-came
either-returns-then-is_true_now-clause-came g m c = λ S names size st e l. (
  λ i p q. (c.evaluate_call-came.ensures.came S names size st e (sub (fits S c.args.first.now) l (fst _ _ l.fits))).0 i p q,
  λ start k a.
      let w = c.evaluate_call-came in
      let came = (w.ensures.came S names size st e (sub (fits S c.args.first.now) l (fst _ _ l.fits))).1 start (Then (RightOfOr (erase c.args.second.now)) ∷ k) a in
      let none = sym c.is_left.ensures ∙ c.if-is_left.false in
      let g = given w.result w.new.self.value w.new.self.leave none came in
      let t = sym (c.is_true_now.ensures none) in
      comes S _ start _ _ k _ _ _ _ _ (gave w.result w.new.self.value w.new.self.leave none) (or_stops (t ∙ c.if-is_true_now.true) g),
)

pub either-returns-clause-came : goal.either-returns-clause-came
either-returns-clause-came g m c = λ S names size st e l.
    let w = c.evaluate_call-came in
    let under = moved _ _ w.ensures.stays.0 w.ensures.stays.3 (sub (fits S c.args.second.now) l (snd _ _ l.fits)) in
    let f = rw w.ensures.stays.1 at c.evaluate_call.ensures.came in (
      λ i p q. (f S names size st e under).0 i p (omega (arith, q, w.ensures.stays.0)) ∙ (w.ensures.came S names size st e (sub (fits S c.args.first.now) l (fst _ _ l.fits))).0 i p q,
      λ start k a.
          let came = (w.ensures.came S names size st e (sub (fits S c.args.first.now) l (fst _ _ l.fits))).1 start (Then (RightOfOr (erase c.args.second.now)) ∷ k) a in
          let none = sym c.is_left.ensures ∙ c.if-is_left.false in
          let g = given w.result w.new.self.value w.new.self.leave none came in
          let t = sym (c.is_true_now.ensures none) in
          (f S names size st e under).1 start k (or_goes (t ∙ c.if-is_true_now.false) g),
    )

pub negate-returns-then-is_left-clause-came : goal.negate-returns-then-is_left-clause-came
negate-returns-then-is_left-clause-came g m c = λ S names size st e l.
    let w = c.evaluate_call-came in (
      λ i p q. (w.ensures.came S names size st e (sub (fits S c.args.value.now) l l.fits)).0 i p q,
      λ start k a.
          let came = (w.ensures.came S names size st e (sub (fits S c.args.value.now) l l.fits)).1 start (Then Negate ∷ k) a in
          passes S _ start _ w.result w.new.self.value w.new.self.leave _ Negate k _ _ _ (sym c.is_left.ensures ∙ c.if-is_left.true) came,
    )

pub negate-returns-then-is_true_now-clause-came : goal.negate-returns-then-is_true_now-clause-came
negate-returns-then-is_true_now-clause-came g m c = λ S names size st e l.
    let w = c.evaluate_call-came in (
      λ i p q. (w.ensures.came S names size st e (sub (fits S c.args.value.now) l l.fits)).0 i p q,
      λ start k a.
          let came = (w.ensures.came S names size st e (sub (fits S c.args.value.now) l l.fits)).1 start (Then Negate ∷ k) a in
          let none = sym c.is_left.ensures ∙ c.if-is_left.false in
          let g = given w.result w.new.self.value w.new.self.leave none came in
          let t = sym (c.is_true_now.ensures none) in
          negated true (t ∙ c.if-is_true_now.true) g,
    )

pub negate-returns-else-is_true_now-clause-came : goal.negate-returns-else-is_true_now-clause-came
negate-returns-else-is_true_now-clause-came g m c = λ S names size st e l.
    let w = c.evaluate_call-came in (
      λ i p q. (w.ensures.came S names size st e (sub (fits S c.args.value.now) l l.fits)).0 i p q,
      λ start k a.
          let came = (w.ensures.came S names size st e (sub (fits S c.args.value.now) l l.fits)).1 start (Then Negate ∷ k) a in
          let none = sym c.is_left.ensures ∙ c.if-is_left.false in
          let g = given w.result w.new.self.value w.new.self.leave none came in
          let t = sym (c.is_true_now.ensures none) in
          negated false (t ∙ c.if-is_true_now.false) g,
    )

pub test-returns-in-Some-clause-came : goal.test-returns-in-Some-clause-came
test-returns-in-Some-clause-came g m c =
    let r = c.in-Some.ensures in
    let none = r.told in
    (λ left. absurd (cc), λ told. (r.held.0, sym (r.held.2 _), λ S start k names size st e l a. r.held.1 S _ names size c.args.depth c.args.self.now.left start _ _ k _ l.fits (omega (arith, l.within, l.below, l.room)) r.more r.deep a))

pub test-returns-clause-kept : goal.test-returns-clause-kept
test-returns-clause-kept g m c = (λ S names size st e l. (c.evaluate_call.ensures.came S names size st e l).0)

pub test-returns-clause-came : goal.test-returns-clause-came
test-returns-clause-came g m c =
    let w = c.evaluate_call in
    (λ left. (λ S start k names size st e l. (w.ensures.came S names size st e l).1 start k), λ none. (value_of w.result w.new.self.value, refl, λ S start k names size st e l a. given w.result w.new.self.value w.new.self.leave none ((w.ensures.came S names size st e l).1 start k a)))

pub choose-returns-then-is_left-clause-came : goal.choose-returns-then-is_left-clause-came
choose-returns-then-is_left-clause-came g m c = λ S names size st e l. (
  λ i p q. c.test-came.ensures.kept S names size st e (sub (fits S c.args.condition.now) l (fst _ _ l.fits)) i p q,
  λ start k a.
      let w = c.test-came in
      let came = w.ensures.came.0 (sym c.is_left.ensures ∙ c.if-is_left.true) S start (Then (Choose (map erase c.args.first.now) (map erase c.args.second.now)) ∷ k) names size st e (sub (fits S c.args.condition.now) l (fst _ _ l.fits)) a in
      passes S _ start _ w.result w.new.self.value w.new.self.leave _ (Choose (map erase c.args.first.now) (map erase c.args.second.now)) k _ _ _ (sym c.is_left.ensures ∙ c.if-is_left.true) came,
)

pub choose-returns-clause-came : goal.choose-returns-clause-came
choose-returns-clause-came g m c = elim c.if-is_true_now.branch [
  | choose-then-is_true_now x ↦ λ S names size st e l.
      let w = c.test-came in
      let under = moved _ _ w.ensures.stays.0 w.ensures.stays.3 (sub (every (map (fits S) c.args.first.now)) l (fst _ _ (snd _ _ l.fits))) in
      let f = rw (x.chosen-is, w.ensures.stays.1) at c.body.ensures.came in (
        λ i p q. (f S names size st e under).0 i p (omega (arith, q, w.ensures.stays.0)) ∙ w.ensures.kept S names size st e (sub (fits S c.args.condition.now) l (fst _ _ l.fits)) i p q,
        λ start k a.
            let none = sym c.is_left.ensures ∙ c.if-is_left.false in
            let some = w.ensures.came.1 none in
            let g = some.2 S start (Then (Choose (map erase c.args.first.now) (map erase c.args.second.now)) ∷ k) names size st e (sub (fits S c.args.condition.now) l (fst _ _ l.fits)) a in
            let t = some.1 ∙ sym (c.is_true_now.ensures none) in
            (f S names size st e under).1 start k (chosen_first (t ∙ x.if-is_true_now.true) g),
      )
  | choose-else-is_true_now x ↦ λ S names size st e l.
      let w = c.test-came in
      let under = moved _ _ w.ensures.stays.0 w.ensures.stays.3 (sub (every (map (fits S) c.args.second.now)) l (snd _ _ (snd _ _ l.fits))) in
      let f = rw (x.chosen-is, w.ensures.stays.1) at c.body.ensures.came in (
        λ i p q. (f S names size st e under).0 i p (omega (arith, q, w.ensures.stays.0)) ∙ w.ensures.kept S names size st e (sub (fits S c.args.condition.now) l (fst _ _ l.fits)) i p q,
        λ start k a.
            let none = sym c.is_left.ensures ∙ c.if-is_left.false in
            let some = w.ensures.came.1 none in
            let g = some.2 S start (Then (Choose (map erase c.args.first.now) (map erase c.args.second.now)) ∷ k) names size st e (sub (fits S c.args.condition.now) l (fst _ _ l.fits)) a in
            let t = some.1 ∙ sym (c.is_true_now.ensures none) in
            (f S names size st e under).1 start k (chosen_second (t ∙ x.if-is_true_now.false) g),
      )
]

pub body-returns-in_default-clause-came : goal.body-returns-in_default-clause-came
body-returns-in_default-clause-came g m c = λ S names size st e l. (
  λ i p q. refl,
  λ start k a. on _ (follows [] (sym (ap (map erase) (no_items _ (rw c.in_default.is at c.split_last.ensures.cases)))) a) refl,
)

pub body-returns-then-is_left-clause-came : goal.body-returns-then-is_left-clause-came
body-returns-then-is_left-clause-came g m c = λ S names size st e l.
    let loop = c.nodes in
    let inv = loop.invariant in
    let whole = rw c.in-Some.is at c.split_last.ensures.cases in
    let short = in_front c.in-Some.before.now c.in-Some.last.now c.node-item.result loop.node-index whole c.nodes-test.true c.node-item.is in
    let right = every_item S _ _ c.node-item.result names size short.0 short.1 l.fits in
    let under = moved _ _ inv.base inv.room (sub (fits S c.node-item.result) l right) in (
      λ i p q.
          let f = rw inv.context at c.statement-came.ensures.kept in
          f S names size st e under i p (omega (arith, q, inv.base)) ∙ inv.kept S names size st e l i p q,
      λ start k a.
          let item = next_item _ _ c.node-item.result short.0 short.1 in
          let h1 = on _ (follows _ (sym (ap (map erase) item)) (inv.came.1 S start k names size st e l a)) refl in
          let gone = sym c.is_left.ensures ∙ c.if-is_left.true in
          let f = rw inv.context at (c.statement-came.ensures.came.0 gone) in
          let rest = Rest (map erase (drop (loop.node-index + 1) c.args.nodes.now)) in
          let come = f S start (Then rest ∷ k) names size st e under h1 in
          passes S _ start _ c.statement-came.result c.statement-came.new.self.value c.statement-came.new.self.leave _ rest k _ _ _ gone come,
    )

pub body-returns-clause-came : goal.body-returns-clause-came
body-returns-clause-came g m c = λ S names size st e l.
    let loop = c.nodes in
    let inv = loop.invariant in
    let whole = rw c.in-Some.is at c.split_last.ensures.cases in
    let short = at_end c.in-Some.before.now c.in-Some.last.now whole in
    let right = every_item S _ _ c.in-Some.last.now names size short.0 short.1 l.fits in
    let under = moved _ _ inv.base inv.room (sub (fits S c.in-Some.last.now) l right) in
    let f = rw inv.context at c.walk_here.ensures.came in (
      λ i p q. (f S names size st e under).0 i p (omega (arith, q, inv.base)) ∙ inv.kept S names size st e l i p q,
      λ start k a.
          let there : loop.node-index ≡ length c.in-Some.before.now = omega (arith, c.nodes-test.false, loop.auto.node-index-end) in
          let item = next_item _ _ c.in-Some.last.now short.0 short.1 in
          let from = rw there at (inv.came.1 S start k names size st e l a) in
          let h1 = on _ (follows _ (sym (ap (map erase) item)) from) refl in
          let none : map erase (drop (length c.in-Some.before.now + 1) c.args.nodes.now) ≡ [] = ap (map erase) (drop_all _ _ (none_behind c.in-Some.before.now c.in-Some.last.now whole)) in
          let come = (f S names size st e under).1 start (Then (Rest (map erase (drop (length c.in-Some.before.now + 1) c.args.nodes.now))) ∷ k) h1 in
          statements_end S _ start _ _ _ k _ _ _ (rw none at come),
    )

pub body-nodes-init : goal.body-nodes-init
body-nodes-init g m c = record {
  base = refl;
  context = refl;
  room = refl;
  less = omega arith;
  kept = λ S names size st e l i p q. refl;
  came = (Nil, λ S start k names size st e l a. a);
}

pub body-nodes-preserved : goal.body-nodes-preserved
body-nodes-preserved g m c =
    let w = c.statement-came.ensures in
    let old = c.nodes.invariant in
    let whole = rw c.in-Some.is at c.split_last.ensures.cases in
    let short = in_front c.in-Some.before.now c.in-Some.last.now c.node-item.result c.nodes.node-index whole c.nodes-test.true c.node-item.is in
    let some = w.came.1 (sym c.is_left.ensures ∙ c.if-is_left.false) in
    record {
      base = w.stays.0 ∙ old.base;
      context = w.stays.1 ∙ old.context;
      room = w.stays.3 ∙ old.room;
      less = omega (arith, w.stays.2, old.less);
      kept = λ S names size st e l i p q.
          let loop = c.nodes in
          let inv = loop.invariant in
          let right = every_item S _ _ c.node-item.result names size short.0 short.1 l.fits in
          let under = moved _ _ inv.base inv.room (sub (fits S c.node-item.result) l right) in
          let f = rw inv.context at c.statement-came.ensures.kept in
          f S names size st e under i p (omega (arith, q, inv.base)) ∙ inv.kept S names size st e l i p q;
      came = (
        some.0,
        λ S start k names size st e l a.
            let loop = c.nodes in
            let inv = loop.invariant in
            let item = next_item _ _ c.node-item.result short.0 short.1 in
            let right = every_item S _ _ c.node-item.result names size short.0 short.1 l.fits in
            let under = moved _ _ inv.base inv.room (sub (fits S c.node-item.result) l right) in
            let h1 = on _ (follows _ (sym (ap (map erase) item)) (inv.came.1 S start k names size st e l a)) refl in
            let f = rw inv.context at some.1 in
            on _ (f S start (Then (Rest (map erase (drop (loop.node-index + 1) c.args.nodes.now))) ∷ k) names size st e under h1) refl,
      );
    }

pub passage-returns-then-is_left-clause-kept : goal.passage-returns-then-is_left-clause-kept
passage-returns-then-is_left-clause-kept g m c = λ S names size st e l i p q.
    let loop = c.nodes in
    let inv = loop.invariant in
    let right = every_item S _ _ c.node-item.result names size c.nodes-test.true c.node-item.is l.fits in
    let under = moved _ _ inv.base inv.room (sub (fits S c.node-item.result) l right) in
    let f = rw inv.context at c.statement-came.ensures.kept in
    f S names size st e under i p (omega (arith, q, inv.base)) ∙ inv.kept S names size st e l i p q

pub passage-returns-then-is_left-clause-came : goal.passage-returns-then-is_left-clause-came
passage-returns-then-is_left-clause-came g m c =
    let gone = sym c.is_left.ensures ∙ c.if-is_left.true in
    only_left _ gone (λ S start k names size st e l a.
    let loop = c.nodes in
    let inv = loop.invariant in
    let item = next_item _ _ c.node-item.result c.nodes-test.true c.node-item.is in
    let right = every_item S _ _ c.node-item.result names size c.nodes-test.true c.node-item.is l.fits in
    let under = moved _ _ inv.base inv.room (sub (fits S c.node-item.result) l right) in
    let h1 = on _ (follows _ (sym (ap (map erase) item)) (inv.came.1 S start k names size st e l a)) refl in
    let f = rw inv.context at (c.statement-came.ensures.came.0 gone) in
    let rest = Rest (map erase (drop (loop.node-index + 1) c.args.nodes.now)) in
    let come = f S start (Then rest ∷ k) names size st e under h1 in
    passes S _ start _ c.statement-came.result c.statement-came.new.self.value c.statement-came.new.self.leave _ rest k _ _ _ gone come)

pub passage-returns-clause-kept : goal.passage-returns-clause-kept
passage-returns-clause-kept g m c = c.nodes.invariant.kept

pub passage-returns-clause-came : goal.passage-returns-clause-came
passage-returns-clause-came g m c =
    let loop = c.nodes in
    let inv = loop.invariant in
    let over : length c.args.nodes.now ≤ loop.node-index = omega (arith, c.nodes-test.false) in
    let none : map erase (drop loop.node-index c.args.nodes.now) ≡ [] = ap (map erase) (drop_all _ _ over) in
    only_came _ refl (
      inv.came.0,
      λ S start k names size st e l a. on _ (follows [] (sym none) (inv.came.1 S start k names size st e l a)) refl,
    )

pub passage-nodes-init : goal.passage-nodes-init
passage-nodes-init g m c = record {
  base = refl;
  context = refl;
  room = refl;
  less = omega arith;
  kept = λ S names size st e l i p q. refl;
  came = (Nil, λ S start k names size st e l a. a);
}

pub passage-nodes-preserved : goal.passage-nodes-preserved
passage-nodes-preserved g m c =
    let w = c.statement-came.ensures in
    let old = c.nodes.invariant in
    let some = w.came.1 (sym c.is_left.ensures ∙ c.if-is_left.false) in
    record {
      base = w.stays.0 ∙ old.base;
      context = w.stays.1 ∙ old.context;
      room = w.stays.3 ∙ old.room;
      less = omega (arith, w.stays.2, old.less);
      kept = λ S names size st e l i p q.
          let loop = c.nodes in
          let inv = loop.invariant in
          let right = every_item S _ _ c.node-item.result names size c.nodes-test.true c.node-item.is l.fits in
          let under = moved _ _ inv.base inv.room (sub (fits S c.node-item.result) l right) in
          let f = rw inv.context at c.statement-came.ensures.kept in
          f S names size st e under i p (omega (arith, q, inv.base)) ∙ inv.kept S names size st e l i p q;
      came = (
        some.0,
        λ S start k names size st e l a.
            let loop = c.nodes in
            let inv = loop.invariant in
            let item = next_item _ _ c.node-item.result c.nodes-test.true c.node-item.is in
            let right = every_item S _ _ c.node-item.result names size c.nodes-test.true c.node-item.is l.fits in
            let under = moved _ _ inv.base inv.room (sub (fits S c.node-item.result) l right) in
            let h1 = on _ (follows _ (sym (ap (map erase) item)) (inv.came.1 S start k names size st e l a)) refl in
            let f = rw inv.context at some.1 in
            on _ (f S start (Then (Rest (map erase (drop (loop.node-index + 1) c.args.nodes.now))) ∷ k) names size st e under h1) refl,
      );
    }

pub statement-returns-then-depth-lt-MAX_DEPTH-clause-kept : goal.statement-returns-then-depth-lt-MAX_DEPTH-clause-kept
statement-returns-then-depth-lt-MAX_DEPTH-clause-kept g m c = λ S names size st e l i p q.
    let x = c.in-SetLocal in
    let s = sym (ap (λ d. fits S d names size) x.is ∙ fits-set_local S names size x.slot x.field-1 x.value x.field-3) ∙ l.fits in
    let under = sub _ l (rw c.get.ensures s) in
    c.keep_local.ensures.kept x.field-1 S names size st e under i p q

pub statement-returns-then-depth-lt-MAX_DEPTH-clause-came : goal.statement-returns-then-depth-lt-MAX_DEPTH-clause-came
statement-returns-then-depth-lt-MAX_DEPTH-clause-came g m c =
    let x = c.in-SetLocal in
    let y = c.keep_local.ensures.came x.field-1 in (
      λ gone S start k names size st e l a.
          let s = sym (ap (λ d. fits S d names size) x.is ∙ fits-set_local S names size x.slot x.field-1 x.value x.field-3) ∙ l.fits in
          let under = sub _ l (rw c.get.ensures s) in
          let b = begins _ _ (Under c.args.depth ∷ k) _ _ _ (shows-set_local c.args.code.now x.slot x.field-1 x.value x.field-3 x.is) (counts c.if-self-gt0.true c.if-depth-lt-MAX_DEPTH.true a) in
          left S _ start _ _ _ k _ _ _ _ (y.0 gone S start (Under c.args.depth ∷ k) names size st e under (rw c.get.ensures b)),
      λ none.
          let some = y.1 none in (
            some.0,
            λ S start k names size st e l a.
                let s = sym (ap (λ d. fits S d names size) x.is ∙ fits-set_local S names size x.slot x.field-1 x.value x.field-3) ∙ l.fits in
                let under = sub _ l (rw c.get.ensures s) in
                let b = begins _ _ (Under c.args.depth ∷ k) _ _ _ (shows-set_local c.args.code.now x.slot x.field-1 x.value x.field-3 x.is) (counts c.if-self-gt0.true c.if-depth-lt-MAX_DEPTH.true a) in
                on _ (some.1 S start (Under c.args.depth ∷ k) names size st e under (rw c.get.ensures b)) refl,
          ),
    )

pub statement-returns-clause-kept : goal.statement-returns-clause-kept
statement-returns-clause-kept g m c = (λ S names size st e l. (c.walk_here.ensures.came S names size st e l).0)

pub statement-returns-clause-came : goal.statement-returns-clause-came
statement-returns-clause-came g m c =
    let w = c.walk_here in
    (λ gone. (λ S start k names size st e l. (w.ensures.came S names size st e l).1 start k), λ none. (value_of w.result w.new.self.value, λ S start k names size st e l a. given w.result w.new.self.value w.new.self.leave none ((w.ensures.came S names size st e l).1 start k a)))

pub keep_local-returns-then-slot-room-clause-kept : goal.keep_local-returns-then-slot-room-clause-kept
keep_local-returns-then-slot-room-clause-kept g m c = c.keep_any.ensures.kept

pub keep_local-returns-then-slot-room-clause-came : goal.keep_local-returns-then-slot-room-clause-came
keep_local-returns-then-slot-room-clause-came g m c = c.keep_any.ensures.came

pub keep_local-returns-in-Some-Ok-clause-kept : goal.keep_local-returns-in-Some-Ok-clause-kept
keep_local-returns-in-Some-Ok-clause-kept g m c = λ name S names size st e l i p q.
    let t = c.place.ensures in
    let s = slot_within name names c.args.slot (fst _ _ l.fits) in
    kept_write c.args.slot i _ _ _ _ (λ z. omega (arith, z, s, l.within, p)) (wrote t.0 t.1 t.2)

pub keep_local-returns-in-Some-Ok-clause-came : goal.keep_local-returns-in-Some-Ok-clause-came
keep_local-returns-in-Some-Ok-clause-came g m c = λ name.
    let t = c.place.ensures in
    let w = c.sent_value in
    only_came _ refl (
      plain c.in-Some-Ok.sent,
      λ S start k names size st e l a.
          let len : length names ≤ length c.args.room.now = omega (arith, l.within, l.below, l.room) in
          let come = c.in-Some-Ok.ensures.came S start (Then (AssignTo name) ∷ k) names size st e (snd _ _ l.fits) len a in
          let v = rw c.in-Some-Ok.field-0-is at come in
          assigned name (AssignTo name) names c.args.slot c.args.room.now c.place.new.room (plain c.in-Some-Ok.sent) _ _ plainly len (fst _ _ l.fits) (wrote t.0 t.1 t.2) v,
    )

pub keep_local-returns-in-Some-Err-clause-came : goal.keep_local-returns-in-Some-Err-clause-came
keep_local-returns-in-Some-Err-clause-came g m c = λ name.
    let w = c.sent_value in
    let over = rw c.in-Some-Err.field-0-is at c.in-Some-Err.ensures.over in
    let gone = over_left c.in-Some-Err.came w.new.self.value w.new.self.leave over.0 over.1 in
    only_left _ gone (λ S start k names size st e l a.
    let len : length names ≤ length c.args.room.now = omega (arith, l.within, l.below, l.room) in
    let fetch = c.in-Some-Err.ensures.came S start (Then (AssignTo name) ∷ k) names size st e (snd _ _ l.fits) len a in
    let come = rw c.in-Some-Err.field-0-is at fetch in
    passes S _ start _ c.in-Some-Err.came w.new.self.value w.new.self.leave _ (AssignTo name) k _ _ _ gone come)

pub keep_local-returns-in-None-clause-kept : goal.keep_local-returns-in-None-clause-kept
keep_local-returns-in-None-clause-kept g m c = rw (c.sent_value.ensures.none c.in-None.is) at c.keep_any-in-None.ensures.kept

pub keep_local-returns-in-None-clause-came : goal.keep_local-returns-in-None-clause-came
keep_local-returns-in-None-clause-came g m c = rw (c.sent_value.ensures.none c.in-None.is) at c.keep_any-in-None.ensures.came

pub keep_any-returns-then-is_left-clause-kept : goal.keep_any-returns-then-is_left-clause-kept
keep_any-returns-then-is_left-clause-kept g m c = λ name S names size st e l i p q. (c.evaluate_call-came.ensures.came S names size st e (sub (fits S c.args.value.now) l (snd _ _ l.fits))).0 i p q

pub keep_any-returns-then-is_left-clause-came : goal.keep_any-returns-then-is_left-clause-came
keep_any-returns-then-is_left-clause-came g m c = λ name.
    let w = c.evaluate_call-came in
    let gone = sym c.is_left.ensures ∙ c.if-is_left.true in
    only_left _ gone (λ S start k names size st e l a.
    let came = (w.ensures.came S names size st e (sub (fits S c.args.value.now) l (snd _ _ l.fits))).1 start (Then (AssignTo name) ∷ k) a in
    passes S _ start _ w.result w.new.self.value w.new.self.leave _ (AssignTo name) k _ _ _ gone came)

pub keep_any-returns-then-slot-room-clause-kept : goal.keep_any-returns-then-slot-room-clause-kept
keep_any-returns-then-slot-room-clause-kept g m c = λ name S names size st e l i p q. (c.evaluate_call-came.ensures.came S names size st e (sub (fits S c.args.value.now) l (snd _ _ l.fits))).0 i p q

pub keep_any-returns-then-slot-room-clause-came : goal.keep_any-returns-then-slot-room-clause-came
keep_any-returns-then-slot-room-clause-came g m c = λ name.
    let w = c.evaluate_call-came in
    let o = c.over.ensures in
    only_left _ (over_left c.over.result c.over.new.self.value c.over.new.self.leave _ o.gives) (λ S start k names size st e l a.
    let came = (w.ensures.came S names size st e (sub (fits S c.args.value.now) l (snd _ _ l.fits))).1 start (Then (AssignTo name) ∷ k) a in
    let v = given w.result w.new.self.value w.new.self.leave (sym c.is_left.ensures ∙ c.if-is_left.false) came in
    rw (o.gives, o.stays.2, o.stays.3) (_, v, refl))

pub keep_any-returns-clause-kept : goal.keep_any-returns-clause-kept
keep_any-returns-clause-kept g m c = λ name S names size st e l i p q.
    let w = c.evaluate_call-came in
    let t = c.move_to.ensures.passed in
    let s = slot_within name names c.args.slot (fst _ _ l.fits) in
    kept_write c.args.slot i _ _ _ _ (λ z. omega (arith, z, s, l.within, p)) (wrote t.0 t.1 t.2) ∙ (w.ensures.came S names size st e (sub (fits S c.args.value.now) l (snd _ _ l.fits))).0 i p q

pub keep_any-returns-clause-came : goal.keep_any-returns-clause-came
keep_any-returns-clause-came g m c = λ name.
    let w = c.evaluate_call-came in
    let t = c.move_to.ensures.passed in
    only_came _ refl (
      value_of w.result w.new.self.value,
      λ S start k names size st e l a.
          let come = (w.ensures.came S names size st e (sub (fits S c.args.value.now) l (snd _ _ l.fits))).1 start (Then (AssignTo name) ∷ k) a in
          let v = given w.result w.new.self.value w.new.self.leave (sym c.is_left.ensures ∙ c.if-is_left.false) come in
          let len : length names ≤ length w.new.room = omega (arith, l.within, l.below, l.room, w.ensures.stays.3) in
          rw (c.move_to.ensures.stays.2, c.move_to.ensures.stays.3) (assigned name (AssignTo name) names c.args.slot w.new.room c.move_to.new.room (value_of w.result w.new.self.value) _ _ plainly len (fst _ _ l.fits) (wrote t.0 t.1 t.2) v),
    )

pub begin-returns-in-Local-clause-came : goal.begin-returns-in-Local-clause-came
begin-returns-in-Local-clause-came g m c = λ S names size st e l. (
  λ i p q. refl,
  λ start k a.
      let x = c.in-Local in
      let s = sym (ap (λ d. fits S d names size) x.is ∙ fits-local S names size x.slot x.field-1 x.field-2) ∙ l.fits in
      let len : length names ≤ length c.args.room.now = omega (arith, l.within, l.below, l.room) in
      let b = begins _ _ k _ _ _ (shows-local c.args.code.now x.slot x.field-1 x.field-2 x.is) a in
      let r = c.read in
      rw (r.ensures.stays.2, r.ensures.stays.3) (reads S _ start _ _ k c.args.depth _ x.field-1 names c.args.room.now x.slot _ (outcome r.result r.new.self.value r.new.self.leave) len s r.ensures.gives b),
)

pub begin_set-returns-in-SetLocal-clause-came : goal.begin_set-returns-in-SetLocal-clause-came
begin_set-returns-in-SetLocal-clause-came g m c = λ S names size st e l.
    let x = c.in-SetLocal in
    let s = sym (ap (λ d. fits S d names size) x.is ∙ fits-set_local S names size x.slot x.field-1 x.value x.field-3) ∙ l.fits in
    let under = sub _ l (rw c.get.ensures s) in (
      λ i p q. c.set_local.ensures.kept x.field-1 S names size st e under i p q,
      λ start k a. c.set_local.ensures.came x.field-1 (AssignTo x.field-1) plainly S start k names size st e under (rw c.get.ensures (begins _ _ k _ _ _ (shows-set_local c.args.code.now x.slot x.field-1 x.value x.field-3 x.is) a)),
    )

pub begin_other-returns-in-While-clause-came : goal.begin_other-returns-in-While-clause-came
begin_other-returns-in-While-clause-came g m c = λ S names size st e l.
    let x = c.in-While in
    let s = sym (ap (λ d. fits S d names size) x.is ∙ fits-while S names size x.condition x.body x.field-2) ∙ l.fits in
    let under = sub _ l (rw (c.get-in-While.ensures, c.as_slice-in-While.ensures) s) in (
      λ i p q. (c.repeat.ensures.came S names size st e under).0 i p q,
      λ start k a. (c.repeat.ensures.came S names size st e under).1 start k (rw (c.get-in-While.ensures, c.as_slice-in-While.ensures) (begins _ _ k _ _ _ (shows-while c.args.code.now x.condition x.body x.field-2 x.is) a)),
    )

pub leave_with-returns-then-is_left-clause-came : goal.leave_with-returns-then-is_left-clause-came
leave_with-returns-then-is_left-clause-came g m c = λ S names size st e l.
    let w = c.walk-came in (
      λ i p q. (w.ensures.came S names size st e (sub (fits S c.args.value.now) l l.fits)).0 i p q,
      λ start k a.
          let came = (w.ensures.came S names size st e (sub (fits S c.args.value.now) l l.fits)).1 start (Then ReturnOf ∷ k) a in
          passes S _ start _ w.result w.new.self.value w.new.self.leave _ ReturnOf k _ _ _ (sym c.is_left.ensures ∙ c.if-is_left.true) came,
    )

pub leave_with-returns-clause-came : goal.leave_with-returns-clause-came
leave_with-returns-clause-came g m c = λ S names size st e l.
    let w = c.walk-came in (
      λ i p q. (w.ensures.came S names size st e (sub (fits S c.args.value.now) l l.fits)).0 i p q,
      λ start k a.
          let came = (w.ensures.came S names size st e (sub (fits S c.args.value.now) l l.fits)).1 start (Then ReturnOf ∷ k) a in
          let none = sym c.is_left.ensures ∙ c.if-is_left.false in
          let g = given w.result w.new.self.value w.new.self.leave none came in
          rw (c.take.ensures.value, c.take.ensures.stays.2, c.take.ensures.stays.3) (on _ g refl),
    )

pub set_local-returns-then-is_left-clause-kept : goal.set_local-returns-then-is_left-clause-kept
set_local-returns-then-is_left-clause-kept g m c = λ name S names size st e l i p q. (c.evaluate_call-came.ensures.came S names size st e (sub (fits S c.args.value.now) l (snd _ _ l.fits))).0 i p q

pub set_local-returns-then-is_left-clause-came : goal.set_local-returns-then-is_left-clause-came
set_local-returns-then-is_left-clause-came g m c = λ name step is S start k names size st e l a.
    let w = c.evaluate_call-came in
    let came = (w.ensures.came S names size st e (sub (fits S c.args.value.now) l (snd _ _ l.fits))).1 start (Then step ∷ k) a in
    passes S _ start _ w.result w.new.self.value w.new.self.leave _ step k _ _ _ (sym c.is_left.ensures ∙ c.if-is_left.true) came

pub set_local-returns-clause-kept : goal.set_local-returns-clause-kept
set_local-returns-clause-kept g m c = λ name S names size st e l i p q.
    let w = c.evaluate_call-came in
    let s = slot_within name names c.args.slot (fst _ _ l.fits) in
    kept_write c.args.slot i _ _ _ _ (λ z. omega (arith, z, s, l.within, p)) c.write.ensures.written ∙ (w.ensures.came S names size st e (sub (fits S c.args.value.now) l (snd _ _ l.fits))).0 i p q

pub set_local-returns-clause-came : goal.set_local-returns-clause-came
set_local-returns-clause-came g m c = λ name step is S start k names size st e l a.
    let w = c.evaluate_call-came in
    let come = (w.ensures.came S names size st e (sub (fits S c.args.value.now) l (snd _ _ l.fits))).1 start (Then step ∷ k) a in
    let none = sym c.is_left.ensures ∙ c.if-is_left.false in
    let v = given w.result w.new.self.value w.new.self.leave none come in
    let len : length names ≤ length w.new.room = omega (arith, l.within, l.below, l.room, w.ensures.stays.3) in
    rw (c.write.ensures.stays.2, c.write.ensures.stays.3) (assigned name step names c.args.slot w.new.room c.write.new.room (value_of w.result w.new.self.value) _ _ is len (fst _ _ l.fits) c.write.ensures.written v)

pub repeat-returns-then-not-goes_on-clause-came : goal.repeat-returns-then-not-goes_on-clause-came
repeat-returns-then-not-goes_on-clause-came g m c = λ S names size st e l.
    let inv = c.turns.invariant in
    let under = moved _ _ inv.base inv.room (sub (fits S c.args.condition.now) l (fst _ _ l.fits)) in (
      λ i p q.
          let f = rw inv.context at c.test-came.ensures.kept in
          f S names size st e under i p (omega (arith, q, inv.base)) ∙ inv.kept S names size st e l i p q,
      λ start k a.
          let w = c.test-came in
          let i1 = on _ (inv.came S start k names size st e l a) refl in
          let f = rw inv.context at (w.ensures.came.0 (sym c.is_left.ensures ∙ c.if-is_left.true)) in
          let e1 = f S start (Test (erase c.args.condition.now) (map erase c.args.body.now) ∷ k) names size st e under i1 in
          let stop = sym c.goes_on.ensures ∙ c.if-not-goes_on.true in
          rw (c.out_of_loop.ensures stop) (tested_out S _ start _ _ _ (erase c.args.condition.now) (map erase c.args.body.now) k _ _ _ stop e1),
    )

pub repeat-returns-then-not-is_true_now-clause-came : goal.repeat-returns-then-not-is_true_now-clause-came
repeat-returns-then-not-is_true_now-clause-came g m c = λ S names size st e l.
    let inv = c.turns.invariant in
    let under = moved _ _ inv.base inv.room (sub (fits S c.args.condition.now) l (fst _ _ l.fits)) in (
      λ i p q.
          let f = rw inv.context at c.test-came.ensures.kept in
          f S names size st e under i p (omega (arith, q, inv.base)) ∙ inv.kept S names size st e l i p q,
      λ start k a.
          let w = c.test-came in
          let i1 = on _ (inv.came S start k names size st e l a) refl in
          let none = sym c.is_left.ensures ∙ c.if-is_left.false in
          let some = w.ensures.came.1 none in
          let f = rw inv.context at some.2 in
          let v = f S start (Test (erase c.args.condition.now) (map erase c.args.body.now) ∷ k) names size st e under i1 in
          let t = some.1 ∙ sym (c.is_true_now.ensures none) in
          test_false (t ∙ c.if-not-is_true_now.true) v,
    )

pub repeat-returns-then-not-goes_on-2-clause-came : goal.repeat-returns-then-not-goes_on-2-clause-came
repeat-returns-then-not-goes_on-2-clause-came g m c = λ S names size st e l.
    let inv = c.turns.invariant in
    let w = c.test-came in
    let under = moved _ _ inv.base inv.room (sub (fits S c.args.condition.now) l (fst _ _ l.fits)) in
    let within = moved _ _ (w.ensures.stays.0 ∙ inv.base) (w.ensures.stays.3 ∙ inv.room) (sub (every (map (fits S) c.args.body.now)) l (snd _ _ l.fits)) in (
      λ i p q.
          let f = rw inv.context at w.ensures.kept in
          let j = rw (w.ensures.stays.1, inv.context) at c.passage-came.ensures.kept in
          j S names size st e within i p (omega (arith, q, w.ensures.stays.0, inv.base)) ∙ (f S names size st e under i p (omega (arith, q, inv.base)) ∙ inv.kept S names size st e l i p q),
      λ start k a.
          let i1 = on _ (inv.came S start k names size st e l a) refl in
          let none = sym c.is_left.ensures ∙ c.if-is_left.false in
          let some = w.ensures.came.1 none in
          let f = rw inv.context at some.2 in
          let v = f S start (Test (erase c.args.condition.now) (map erase c.args.body.now) ∷ k) names size st e under i1 in
          let t = some.1 ∙ sym (c.is_true_now.ensures none) in
          let y = c.passage-came in
          let m1 = test_true (t ∙ c.if-not-is_true_now.false) v in
          let stop = sym c.goes_on-in-turns.ensures ∙ c.if-not-goes_on-2.true in
          let j = rw (w.ensures.stays.1, inv.context) at (y.ensures.came.0 (stopped_left _ _ _ stop)) in
          let e2 = j S start (Again (erase c.args.condition.now) (map erase c.args.body.now) ∷ k) names size st e within m1 in
          rw (c.out_of_loop-then-not-goes_on-2.ensures stop) (again_out S _ start _ _ _ (erase c.args.condition.now) (map erase c.args.body.now) k _ _ _ stop e2),
    )

pub repeat-turns-preserved : goal.repeat-turns-preserved
repeat-turns-preserved g m c =
    let w = c.test-came.ensures in
    let old = c.turns.invariant in
    let y = c.passage-came.ensures in
    record {
      base = y.stays.0 ∙ (w.stays.0 ∙ old.base);
      context = y.stays.1 ∙ (w.stays.1 ∙ old.context);
      room = y.stays.3 ∙ (w.stays.3 ∙ old.room);
      less = omega (arith, y.stays.2, w.stays.2, old.less);
      kept = λ S names size st e l i p q.
          let inv = c.turns.invariant in
          let w = c.test-came in
          let under = moved _ _ inv.base inv.room (sub (fits S c.args.condition.now) l (fst _ _ l.fits)) in
          let y = c.passage-came in
          let within = moved _ _ (w.ensures.stays.0 ∙ inv.base) (w.ensures.stays.3 ∙ inv.room) (sub (every (map (fits S) c.args.body.now)) l (snd _ _ l.fits)) in
          let f = rw inv.context at w.ensures.kept in
          let j = rw (w.ensures.stays.1, inv.context) at y.ensures.kept in
          j S names size st e within i p (omega (arith, q, w.ensures.stays.0, inv.base)) ∙ (f S names size st e under i p (omega (arith, q, inv.base)) ∙ inv.kept S names size st e l i p q);
      came = λ S start k names size st e l a.
          let inv = c.turns.invariant in
          let w = c.test-came in
          let under = moved _ _ inv.base inv.room (sub (fits S c.args.condition.now) l (fst _ _ l.fits)) in
          let i1 = on _ (inv.came S start k names size st e l a) refl in
          let none = sym c.is_left.ensures ∙ c.if-is_left.false in
          let some = w.ensures.came.1 none in
          let f = rw inv.context at some.2 in
          let v = f S start (Test (erase c.args.condition.now) (map erase c.args.body.now) ∷ k) names size st e under i1 in
          let t = some.1 ∙ sym (c.is_true_now.ensures none) in
          let y = c.passage-came in
          let within = moved _ _ (w.ensures.stays.0 ∙ inv.base) (w.ensures.stays.3 ∙ inv.room) (sub (every (map (fits S) c.args.body.now)) l (snd _ _ l.fits)) in
          let m1 = test_true (t ∙ c.if-not-is_true_now.false) v in
          let on_again = sym c.goes_on-in-turns.ensures ∙ c.if-not-goes_on-2.false in
          let behind = Again (erase c.args.condition.now) (map erase c.args.body.now) ∷ k in
          again_unread S _ start _ y.result y.new.self.value y.new.self.leave _ (erase c.args.condition.now) (map erase c.args.body.now) k _ _ _ on_again
          (λ so. let j = rw (w.ensures.stays.1, inv.context) at (y.ensures.came.0 so) in j S start behind names size st e within m1)
          (λ so. let some = y.ensures.came.1 so in let j = rw (w.ensures.stays.1, inv.context) at some.1 in (some.0, j S start behind names size st e within m1));
    }

pub repeat-turns-preserved-then-is_left : goal.repeat-turns-preserved-then-is_left
repeat-turns-preserved-then-is_left g m c =
    let w = c.test-came.ensures in
    let old = c.turns.invariant in
    record {
      base = w.stays.0 ∙ old.base;
      context = w.stays.1 ∙ old.context;
      room = w.stays.3 ∙ old.room;
      less = omega (arith, w.stays.2, old.less);
      kept = λ S names size st e l i p q.
          let inv = c.turns.invariant in
          let w = c.test-came in
          let under = moved _ _ inv.base inv.room (sub (fits S c.args.condition.now) l (fst _ _ l.fits)) in
          let f = rw inv.context at w.ensures.kept in
          f S names size st e under i p (omega (arith, q, inv.base)) ∙ inv.kept S names size st e l i p q;
      came = λ S start k names size st e l a.
          let inv = c.turns.invariant in
          let w = c.test-came in
          let under = moved _ _ inv.base inv.room (sub (fits S c.args.condition.now) l (fst _ _ l.fits)) in
          let i1 = on _ (inv.came S start k names size st e l a) refl in
          let f = rw inv.context at (w.ensures.came.0 (sym c.is_left.ensures ∙ c.if-is_left.true)) in
          let e1 = f S start (Test (erase c.args.condition.now) (map erase c.args.body.now) ∷ k) names size st e under i1 in
          let z = gone w.result w.new.self.value w.new.self.leave (sym c.is_left.ensures ∙ c.if-is_left.true) in
          tested_again S _ start _ w.new.self.leave w.new.self.value _ (erase c.args.condition.now) (map erase c.args.body.now) k _ _ _ (ap goes_on (sym z) ∙ (sym c.goes_on.ensures ∙ c.if-not-goes_on.false)) (comes S _ start _ _ _ _ _ _ _ _ (sym z) e1);
    }

pub update_local-returns-then-is_left-clause-came : goal.update_local-returns-then-is_left-clause-came
update_local-returns-then-is_left-clause-came g m c = λ name S names size st e l. (
  λ i p q. refl,
  λ start k a.
      let len : length names ≤ length c.args.room.now = omega (arith, l.within, l.below, l.room) in
      let r = c.read-current in
      let come = reads S _ start _ _ (Then (ReadOf (OfLocal name) c.args.op (erase c.args.value.now) c.args.at) ∷ k) c.args.depth _ name names c.args.room.now c.args.slot _ (outcome r.result r.new.self.value r.new.self.leave) len (fst _ _ l.fits) r.ensures.gives a in
      rw (r.ensures.stays.2, r.ensures.stays.3) (passes S _ start _ r.result r.new.self.value r.new.self.leave _ (ReadOf (OfLocal name) c.args.op (erase c.args.value.now) c.args.at) k _ _ _ (sym c.is_left.ensures ∙ c.if-is_left.true) come),
)

pub update_local-returns-then-is_true_now-clause-came : goal.update_local-returns-then-is_true_now-clause-came
update_local-returns-then-is_true_now-clause-came g m c = λ name S names size st e l. (
  λ i p q. refl,
  λ start k a.
      let len : length names ≤ length c.args.room.now = omega (arith, l.within, l.below, l.room) in
      let r = c.read-current in
      let come = reads S _ start _ _ (Then (ReadOf (OfLocal name) c.args.op (erase c.args.value.now) c.args.at) ∷ k) c.args.depth _ name names c.args.room.now c.args.slot _ (outcome r.result r.new.self.value r.new.self.leave) len (fst _ _ l.fits) r.ensures.gives a in
      let none = sym c.is_left.ensures ∙ c.if-is_left.false in
      let g1 = given r.result r.new.self.value r.new.self.leave none come in
      let v = value_of r.result r.new.self.value in
      let t = sym (c.is_true_now.ensures none) ∙ c.if-is_true_now.true in
      rw (r.ensures.stays.2, r.ensures.stays.3) (comes S _ start _ _ k _ _ _ _ _ (gave r.result r.new.self.value r.new.self.leave none) (or_else_stays S _ start _ v (OfLocal name) c.args.op (erase c.args.value.now) c.args.at c.in-OrElse.is t g1)),
)

pub update_local-returns-else-is_true_now-clause-came : goal.update_local-returns-else-is_true_now-clause-came
update_local-returns-else-is_true_now-clause-came g m c = λ name S names size st e l.
    let r = c.read-current in (
      λ i p q.
          let f = rw r.ensures.stays.1 at c.set_local.ensures.kept in
          f name S names size st e (moved _ _ r.ensures.stays.0 refl l) i p (omega (arith, q, r.ensures.stays.0)),
      λ start k a.
          let len : length names ≤ length c.args.room.now = omega (arith, l.within, l.below, l.room) in
          let come = reads S _ start _ _ (Then (ReadOf (OfLocal name) c.args.op (erase c.args.value.now) c.args.at) ∷ k) c.args.depth _ name names c.args.room.now c.args.slot _ (outcome r.result r.new.self.value r.new.self.leave) len (fst _ _ l.fits) r.ensures.gives a in
          let none = sym c.is_left.ensures ∙ c.if-is_left.false in
          let g1 = given r.result r.new.self.value r.new.self.leave none come in
          let v = value_of r.result r.new.self.value in
          let t = sym (c.is_true_now.ensures none) ∙ c.if-is_true_now.false in
          let under = moved _ _ r.ensures.stays.0 refl l in
          let f = rw (r.ensures.stays.1, r.ensures.stays.2, r.ensures.stays.3) at c.set_local.ensures.came in
          f name (WriteTo (OfLocal name) c.args.at) (updating c.args.at) S start k names size st e under (or_else_goes S _ start _ v (OfLocal name) c.args.op (erase c.args.value.now) c.args.at c.in-OrElse.is t g1),
    )

pub update_local-returns-then-not-is_true_now-clause-came : goal.update_local-returns-then-not-is_true_now-clause-came
update_local-returns-then-not-is_true_now-clause-came g m c = λ name S names size st e l. (
  λ i p q. refl,
  λ start k a.
      let len : length names ≤ length c.args.room.now = omega (arith, l.within, l.below, l.room) in
      let r = c.read-current in
      let come = reads S _ start _ _ (Then (ReadOf (OfLocal name) c.args.op (erase c.args.value.now) c.args.at) ∷ k) c.args.depth _ name names c.args.room.now c.args.slot _ (outcome r.result r.new.self.value r.new.self.leave) len (fst _ _ l.fits) r.ensures.gives a in
      let none = sym c.is_left.ensures ∙ c.if-is_left.false in
      let g1 = given r.result r.new.self.value r.new.self.leave none come in
      let v = value_of r.result r.new.self.value in
      let t = sym (c.is_true_now-in-AndThen.ensures none) ∙ c.if-not-is_true_now.true in
      rw (r.ensures.stays.2, r.ensures.stays.3) (comes S _ start _ _ k _ _ _ _ _ (gave r.result r.new.self.value r.new.self.leave none) (and_then_stays S _ start _ v (OfLocal name) c.args.op (erase c.args.value.now) c.args.at c.in-AndThen.is t g1)),
)

pub update_local-returns-else-not-is_true_now-clause-came : goal.update_local-returns-else-not-is_true_now-clause-came
update_local-returns-else-not-is_true_now-clause-came g m c = λ name S names size st e l.
    let r = c.read-current in (
      λ i p q.
          let f = rw r.ensures.stays.1 at c.set_local-in-AndThen.ensures.kept in
          f name S names size st e (moved _ _ r.ensures.stays.0 refl l) i p (omega (arith, q, r.ensures.stays.0)),
      λ start k a.
          let len : length names ≤ length c.args.room.now = omega (arith, l.within, l.below, l.room) in
          let come = reads S _ start _ _ (Then (ReadOf (OfLocal name) c.args.op (erase c.args.value.now) c.args.at) ∷ k) c.args.depth _ name names c.args.room.now c.args.slot _ (outcome r.result r.new.self.value r.new.self.leave) len (fst _ _ l.fits) r.ensures.gives a in
          let none = sym c.is_left.ensures ∙ c.if-is_left.false in
          let g1 = given r.result r.new.self.value r.new.self.leave none come in
          let v = value_of r.result r.new.self.value in
          let t = sym (c.is_true_now-in-AndThen.ensures none) ∙ c.if-not-is_true_now.false in
          let under = moved _ _ r.ensures.stays.0 refl l in
          let f = rw (r.ensures.stays.1, r.ensures.stays.2, r.ensures.stays.3) at c.set_local-in-AndThen.ensures.came in
          f name (WriteTo (OfLocal name) c.args.at) (updating c.args.at) S start k names size st e under (and_then_goes S _ start _ v (OfLocal name) c.args.op (erase c.args.value.now) c.args.at c.in-AndThen.is t g1),
    )

pub update_local-returns-then-is_left-2-clause-came : goal.update_local-returns-then-is_left-2-clause-came
update_local-returns-then-is_left-2-clause-came g m c = λ name S names size st e l.
    let r = c.read-current in
    let y = c.combine-made in
    let under = moved _ _ r.ensures.stays.0 refl (sub (fits S c.args.value.now) l (snd _ _ l.fits)) in (
      λ i p q.
          let f = rw r.ensures.stays.1 at y.ensures.came in
          (f S names size st e under).0 i p (omega (arith, q, r.ensures.stays.0)),
      λ start k a.
          let len : length names ≤ length c.args.room.now = omega (arith, l.within, l.below, l.room) in
          let come = reads S _ start _ _ (Then (ReadOf (OfLocal name) c.args.op (erase c.args.value.now) c.args.at) ∷ k) c.args.depth _ name names c.args.room.now c.args.slot _ (outcome r.result r.new.self.value r.new.self.leave) len (fst _ _ l.fits) r.ensures.gives a in
          let none = sym c.is_left.ensures ∙ c.if-is_left.false in
          let g1 = given r.result r.new.self.value r.new.self.leave none come in
          let v = value_of r.result r.new.self.value in
          let g2 = operates S _ start _ v (OfLocal name) c.args.op (erase c.args.value.now) c.args.at c.in_default.not-OrElse c.in_default.not-AndThen g1 in
          let f = rw (r.ensures.stays.1, r.ensures.stays.2, r.ensures.stays.3) at y.ensures.came in
          let e2 = (f S names size st e under).1 start (Then (WriteTo (OfLocal name) c.args.at) ∷ k) g2 in
          passes S _ start _ y.result y.new.self.value y.new.self.leave _ (WriteTo (OfLocal name) c.args.at) k _ _ _ (sym c.is_left-in_default.ensures ∙ c.if-is_left-2.true) e2,
    )

pub update_local-returns-else-is_left-2-clause-came : goal.update_local-returns-else-is_left-2-clause-came
update_local-returns-else-is_left-2-clause-came g m c = λ name S names size st e l.
    let r = c.read-current in
    let y = c.combine-made in
    let under = moved _ _ r.ensures.stays.0 refl (sub (fits S c.args.value.now) l (snd _ _ l.fits)) in (
      λ i p q.
          let f = rw r.ensures.stays.1 at y.ensures.came in
          let s = slot_within name names c.args.slot (fst _ _ l.fits) in
          kept_write c.args.slot i _ _ _ _ (λ z. omega (arith, z, s, l.within, p)) c.write.ensures.written ∙ (f S names size st e under).0 i p (omega (arith, q, r.ensures.stays.0)),
      λ start k a.
          let len : length names ≤ length c.args.room.now = omega (arith, l.within, l.below, l.room) in
          let come = reads S _ start _ _ (Then (ReadOf (OfLocal name) c.args.op (erase c.args.value.now) c.args.at) ∷ k) c.args.depth _ name names c.args.room.now c.args.slot _ (outcome r.result r.new.self.value r.new.self.leave) len (fst _ _ l.fits) r.ensures.gives a in
          let none = sym c.is_left.ensures ∙ c.if-is_left.false in
          let g1 = given r.result r.new.self.value r.new.self.leave none come in
          let v = value_of r.result r.new.self.value in
          let g2 = operates S _ start _ v (OfLocal name) c.args.op (erase c.args.value.now) c.args.at c.in_default.not-OrElse c.in_default.not-AndThen g1 in
          let f = rw (r.ensures.stays.1, r.ensures.stays.2, r.ensures.stays.3) at y.ensures.came in
          let e2 = (f S names size st e under).1 start (Then (WriteTo (OfLocal name) c.args.at) ∷ k) g2 in
          let g3 = given y.result y.new.self.value y.new.self.leave (sym c.is_left-in_default.ensures ∙ c.if-is_left-2.false) e2 in
          let after : length names ≤ length y.new.room = omega (arith, len, y.ensures.stays.3) in
          rw (c.write.ensures.stays.2, c.write.ensures.stays.3) (assigned name (WriteTo (OfLocal name) c.args.at) names c.args.slot y.new.room c.write.new.room (value_of y.result y.new.self.value) _ _ (updating c.args.at) after (fst _ _ l.fits) c.write.ensures.written g3),
    )

pub arguments-returns-then-is_left-clause-kept : goal.arguments-returns-then-is_left-clause-kept
arguments-returns-then-is_left-clause-kept g m c = λ S names size st e l i p q.
    let same : Alike c.if-self-room.self c.each.self = elim c.if-self-room.branch [
      | arguments-then-self-room+then-self-gt0+then-depth-lt-MAX_DEPTH+in_default+in_default-local_at x ↦ alike _ _ x.self-is
      | arguments-then-self-room+then-self-gt0+then-depth-lt-MAX_DEPTH+in_default+in-Some-local_at+in_default-share x ↦ alike _ _ x.self-is
      | arguments-else-self-room x ↦ alike _ _ x.self-is
    ] in
    let loop = c.each in
    let inv = loop.invariant in
    let w = c.evaluate_call-came in
    let right = every_item S _ _ c.arg-item.result names size c.each-test.true c.arg-item.is l.fits in
    let under = lies (fits S c.arg-item.result) names size loop.self.base (length loop.room) right l.within (omega (arith, l.below, inv.base)) (inv.bound l.room) in
    let f = rw (same.0, same.1, same.2, same.3, inv.context) at w.ensures.came in
    (f S names size st e under).0 i p (omega (arith, q, inv.base)) ∙ inv.kept S names size st e l i p q

pub arguments-returns-then-self-room-2-clause-kept : goal.arguments-returns-then-self-room-2-clause-kept
arguments-returns-then-self-room-2-clause-kept g m c = λ S names size st e l i p q.
    let same : Alike c.if-self-room.self c.each.self = elim c.if-self-room.branch [
      | arguments-then-self-room+then-self-gt0+then-depth-lt-MAX_DEPTH+in_default+in_default-local_at x ↦ alike _ _ x.self-is
      | arguments-then-self-room+then-self-gt0+then-depth-lt-MAX_DEPTH+in_default+in-Some-local_at+in_default-share x ↦ alike _ _ x.self-is
      | arguments-else-self-room x ↦ alike _ _ x.self-is
    ] in
    let loop = c.each in
    let inv = loop.invariant in
    let w = c.evaluate_call-came in
    let right = every_item S _ _ c.arg-item.result names size c.each-test.true c.arg-item.is l.fits in
    let under = lies (fits S c.arg-item.result) names size loop.self.base (length loop.room) right l.within (omega (arith, l.below, inv.base)) (inv.bound l.room) in
    let f = rw (same.0, same.1, same.2, same.3, inv.context) at w.ensures.came in
    (f S names size st e under).0 i p (omega (arith, q, inv.base)) ∙ inv.kept S names size st e l i p q

pub arguments-returns-then-is_left-clause-came : goal.arguments-returns-then-is_left-clause-came
arguments-returns-then-is_left-clause-came g m c = λ aim at S start k names size st e l a.
    let same : Alike c.if-self-room.self c.each.self = elim c.if-self-room.branch [
      | arguments-then-self-room+then-self-gt0+then-depth-lt-MAX_DEPTH+in_default+in_default-local_at x ↦ alike _ _ x.self-is
      | arguments-then-self-room+then-self-gt0+then-depth-lt-MAX_DEPTH+in_default+in-Some-local_at+in_default-share x ↦ alike _ _ x.self-is
      | arguments-else-self-room x ↦ alike _ _ x.self-is
    ] in
    let loop = c.each in
    let inv = loop.invariant in
    let w = c.evaluate_call-came in
    let right = every_item S _ _ c.arg-item.result names size c.each-test.true c.arg-item.is l.fits in
    let under = lies (fits S c.arg-item.result) names size loop.self.base (length loop.room) right l.within (omega (arith, l.below, inv.base)) (inv.bound l.room) in
    let item = next_item _ _ c.arg-item.result c.each-test.true c.arg-item.is in
    let rest = map erase (drop (loop.arg-index + 1) c.args.args.now) in
    let step = Argument aim (map plain (take loop.arg-index (drop c.args.self.now.base loop.room))) rest at in
    let h1 = on _ (passing _ (sym (ap (map erase) item)) (inv.came aim at S start k names size st e l a)) refl in
    let f = rw (same.0, same.1, same.2, same.3, inv.context) at w.ensures.came in
    let come = (f S names size st e under).1 start (Then step ∷ k) h1 in
    let gone = sym c.is_left.ensures ∙ c.if-is_left.true in
    only_left _ gone (passes S _ start _ w.result w.new.self.value w.new.self.leave _ step k _ _ _ gone come)

pub arguments-returns-then-self-room-2-clause-came : goal.arguments-returns-then-self-room-2-clause-came
arguments-returns-then-self-room-2-clause-came g m c = λ aim at S start k names size st e l a.
    let same : Alike c.if-self-room.self c.each.self = elim c.if-self-room.branch [
      | arguments-then-self-room+then-self-gt0+then-depth-lt-MAX_DEPTH+in_default+in_default-local_at x ↦ alike _ _ x.self-is
      | arguments-then-self-room+then-self-gt0+then-depth-lt-MAX_DEPTH+in_default+in-Some-local_at+in_default-share x ↦ alike _ _ x.self-is
      | arguments-else-self-room x ↦ alike _ _ x.self-is
    ] in
    let loop = c.each in
    let inv = loop.invariant in
    let w = c.evaluate_call-came in
    let right = every_item S _ _ c.arg-item.result names size c.each-test.true c.arg-item.is l.fits in
    let under = lies (fits S c.arg-item.result) names size loop.self.base (length loop.room) right l.within (omega (arith, l.below, inv.base)) (inv.bound l.room) in
    let item = next_item _ _ c.arg-item.result c.each-test.true c.arg-item.is in
    let rest = map erase (drop (loop.arg-index + 1) c.args.args.now) in
    let step = Argument aim (map plain (take loop.arg-index (drop c.args.self.now.base loop.room))) rest at in
    let h1 = on _ (passing _ (sym (ap (map erase) item)) (inv.came aim at S start k names size st e l a)) refl in
    let f = rw (same.0, same.1, same.2, same.3, inv.context) at w.ensures.came in
    let come = (f S names size st e under).1 start (Then step ∷ k) h1 in
    let v = given w.result w.new.self.value w.new.self.leave (sym c.is_left.ensures ∙ c.if-is_left.false) come in
    let o = c.over.ensures in
    only_left _ (over_left c.over.result c.over.new.self.value c.over.new.self.leave _ o.gives) (rw (o.gives, o.stays.2, o.stays.3) (_, v, refl))

pub arguments-returns-clause-came : goal.arguments-returns-clause-came
arguments-returns-clause-came g m c = λ aim at S start k names size st e l a.
    let inv = c.each.invariant in
    let whole : c.each.arg-index ≡ length c.args.args.now = omega (arith, c.each-test.false, c.each.auto.arg-index-end) in
    only_came _ refl (passed _ (ap (λ j. map plain (take j (drop c.args.self.now.base c.each.room))) (sym whole)) (passing [] (sym (ap (map erase) (drop_all _ _ c.each-test.false))) (inv.came aim at S start k names size st e l a)))

pub send-returns-then-is_left-clause-came : goal.send-returns-then-is_left-clause-came
send-returns-then-is_left-clause-came g m c = λ S names size st e l. (
  λ i p q. (c.walk_here-came.ensures.came S names size st e (sub (fits S c.args.receiver.now) l (fst _ _ (snd _ _ l.fits)))).0 i p q,
  λ start k a.
      let w = c.walk_here-came in
      let step = ReceiverOf (text_of S c.args.name) (map erase c.args.args.now) None c.args.at in
      let come = (w.ensures.came S names size st e (sub (fits S c.args.receiver.now) l (fst _ _ (snd _ _ l.fits)))).1 start (Then step ∷ k) a in
      passes S _ start _ w.result w.new.self.value w.new.self.leave _ step k _ _ _ (sym c.is_left.ensures ∙ c.if-is_left.true) come,
)

pub send-returns-then-is_left-2-clause-came : goal.send-returns-then-is_left-2-clause-came
send-returns-then-is_left-2-clause-came g m c = λ S names size st e l.
    let w = c.walk_here-came in
    let under = moved _ _ (c.take-receiver.ensures.stays.0 ∙ w.ensures.stays.0) w.ensures.stays.3 (sub (every (map (fits S) c.args.args.now)) l (snd _ _ (snd _ _ l.fits))) in (
      λ i p q.
          let first = (w.ensures.came S names size st e (sub (fits S c.args.receiver.now) l (fst _ _ (snd _ _ l.fits)))).0 i p q in
          let f = rw (c.take-receiver.ensures.stays.1, w.ensures.stays.1) at c.arguments-came.ensures.kept in
          f S names size st e under i p (omega (arith, q, c.take-receiver.ensures.stays.0, w.ensures.stays.0)) ∙ first,
      λ start k a.
          let step = ReceiverOf (text_of S c.args.name) (map erase c.args.args.now) None c.args.at in
          let come = (w.ensures.came S names size st e (sub (fits S c.args.receiver.now) l (fst _ _ (snd _ _ l.fits)))).1 start (Then step ∷ k) a in
          let none = sym c.is_left.ensures ∙ c.if-is_left.false in
          let v = value_of w.result w.new.self.value in
          let g1 = given w.result w.new.self.value w.new.self.leave none come in
          let f = rw (c.take-receiver.ensures.stays.1, w.ensures.stays.1, c.take-receiver.ensures.stays.2, c.take-receiver.ensures.stays.3) at c.arguments-came.ensures.came in
          let p = f (OnReceiver v (text_of S c.args.name) None) c.args.at S start k names size st e under (on _ g1 refl) in
          p.0 (sym c.is_left-2.ensures ∙ c.if-is_left-2.true),
    )

pub begin_slow_update-returns-in-UpdateLocal-clause-came : goal.begin_slow_update-returns-in-UpdateLocal-clause-came
begin_slow_update-returns-in-UpdateLocal-clause-came g m c = λ S names size st e l.
    let x = c.in-UpdateLocal in
    let s = sym (ap (λ d. fits S d names size) x.is ∙ fits-update_local S names size x.slot x.field-1 x.op x.value x.at) ∙ l.fits in
    let under = sub _ l (rw c.get.ensures s) in (
      λ i p q. (c.update_local.ensures.came x.field-1 S names size st e under).0 i p q,
      λ start k a. (c.update_local.ensures.came x.field-1 S names size st e under).1 start k (rw c.get.ensures (same (begins _ _ k _ _ _ (shows-update_local c.args.code.now x.slot x.field-1 x.op x.value x.at x.is) a) (target_local S x.field-1 x.op (erase x.value) x.at k (scope_of (me_of c.args.self.now.context.me) names c.args.room.now) c.args.depth c.args.self.now.left))),
    )

pub begin_other-returns-in-UpdateElement-clause-came : goal.begin_other-returns-in-UpdateElement-clause-came
begin_other-returns-in-UpdateElement-clause-came g m c = λ S names size st e l.
    let x = c.in-UpdateElement in
    let s = sym (ap (λ d. fits S d names size) x.is ∙ fits-update_element S names size x.receiver x.index x.op x.value x.at) ∙ l.fits in
    let under = sub _ l (rw (c.get.ensures, c.get-in-UpdateElement.ensures, c.get-in-UpdateElement-2.ensures) s) in (
      λ i p q. (c.update_element.ensures.came S names size st e under).0 i p q,
      λ start k a. (c.update_element.ensures.came S names size st e under).1 start k (rw (c.get.ensures, c.get-in-UpdateElement.ensures, c.get-in-UpdateElement-2.ensures) (same (begins _ _ k _ _ _ (shows-update_element c.args.code.now x.receiver x.index x.op x.value x.at x.is) a) (target_element S (erase x.receiver) (erase x.index) x.op (erase x.value) x.at k (scope_of (me_of c.args.self.now.context.me) names c.args.room.now) c.args.depth c.args.self.now.left))),
    )

pub begin_other-returns-in-Array-clause-came : goal.begin_other-returns-in-Array-clause-came
begin_other-returns-in-Array-clause-came g m c = λ S names size st e l.
    let x = c.in-Array in
    let s = sym (ap (λ d. fits S d names size) x.is ∙ fits-array S names size x.items x.field-1) ∙ l.fits in (
      λ i p q. (c.array.ensures.came x.field-1 S names size st e (sub _ l (rw c.as_slice-in-Array.ensures s))).0 i p q,
      λ start k a. (c.array.ensures.came x.field-1 S names size st e (sub _ l (rw c.as_slice-in-Array.ensures s))).1 start k (rw c.as_slice-in-Array.ensures (begins _ _ k _ _ _ (shows-array c.args.code.now x.items x.field-1 x.is) a)),
    )

pub begin_other-returns-in-Hash-clause-came : goal.begin_other-returns-in-Hash-clause-came
begin_other-returns-in-Hash-clause-came g m c = λ S names size st e l.
    let x = c.in-Hash in
    let s = sym (ap (λ d. fits S d names size) x.is ∙ fits-hash S names size x.items x.at) ∙ l.fits in (
      λ i p q. (c.hash.ensures.came S names size st e (sub _ l (rw c.as_slice-in-Hash.ensures (snd _ _ s)))).0 i p q,
      λ start k a.
          let b = passing (map erase x.items) (parts_are (fits S) erase x.items (fst _ _ s)) (begins _ _ k _ _ _ (shows-hash c.args.code.now x.items x.at x.is) a) in
          (c.hash.ensures.came S names size st e (sub _ l (rw c.as_slice-in-Hash.ensures (snd _ _ s)))).1 start k (rw c.as_slice-in-Hash.ensures b),
    )

pub begin_other-returns-in-NewBuiltin-clause-came : goal.begin_other-returns-in-NewBuiltin-clause-came
begin_other-returns-in-NewBuiltin-clause-came g m c = λ S names size st e l.
    let x = c.in-NewBuiltin in
    let s = sym (ap (λ d. fits S d names size) x.is ∙ fits-new_builtin S names size x.class x.name x.args x.at) ∙ l.fits in (
      λ i p q. (c.create_builtin.ensures.came S names size st e (sub _ l (rw c.as_slice-in-NewBuiltin.ensures s))).0 i p q,
      λ start k a. (c.create_builtin.ensures.came S names size st e (sub _ l (rw c.as_slice-in-NewBuiltin.ensures s))).1 start k (rw c.as_slice-in-NewBuiltin.ensures (begins _ _ k _ _ _ (shows-new_builtin c.args.code.now x.class x.name x.args x.at x.is) a)),
    )

pub begin_other-returns-in-UpdateAttribute-clause-came : goal.begin_other-returns-in-UpdateAttribute-clause-came
begin_other-returns-in-UpdateAttribute-clause-came g m c = λ S names size st e l.
    let x = c.in-UpdateAttribute in
    let s = sym (ap (λ d. fits S d names size) x.is ∙ fits-update_attribute S names size x.number x.writer x.name x.receiver x.op x.value x.at) ∙ l.fits in
    let under = sub _ l (rw (c.get-in-UpdateAttribute.ensures, c.get-in-UpdateAttribute-2.ensures) s) in (
      λ i p q. (c.update_attribute.ensures.came S names size st e under).0 i p q,
      λ start k a. (c.update_attribute.ensures.came S names size st e under).1 start k (rw (c.get-in-UpdateAttribute.ensures, c.get-in-UpdateAttribute-2.ensures) (same (begins _ _ k _ _ _ (shows-update_attribute c.args.code.now x.number x.writer x.name x.receiver x.op x.value x.at x.is) a) (target_attribute S (erase x.receiver) x.name x.op (erase x.value) x.at k (scope_of (me_of c.args.self.now.context.me) names c.args.room.now) c.args.depth c.args.self.now.left))),
    )

pub begin_store-returns-after-self-gt0-clause-came : goal.begin_store-returns-after-self-gt0-clause-came
begin_store-returns-after-self-gt0-clause-came g m c = λ S names size st e l.
    let x = c.in-Store in
    let s = sym (ap (λ d. fits S d names size) x.is ∙ fits-store S names size x.method x.receiver x.name x.args x.at) ∙ l.fits in
    let under = sub _ l (rw (c.get-receiver.ensures, c.as_slice-args.ensures) s) in (
      λ i p q. (c.store_by.ensures.came S names size st e under).0 i p q,
      λ start k a. (c.store_by.ensures.came S names size st e under).1 start k (rw (c.get-receiver.ensures, c.as_slice-args.ensures) (begins _ _ k _ _ _ (shows-store c.args.code.now x.method x.receiver x.name x.args x.at x.is) a)),
    )

pub begin_other-returns-in-Print-clause-came : goal.begin_other-returns-in-Print-clause-came
begin_other-returns-in-Print-clause-came g m c = λ S names size st e l.
    let x = c.in-Print in
    let r = sym (ap (λ d. fits S d names size) x.is ∙ fits-print S names size x.form x.name x.args x.at) ∙ l.fits in
    let under = sub (printing x.form x.name (λ S. every (map (fits S) c.as_slice-in-Print.result.now)) S) l (rw c.as_slice-in-Print.ensures r) in (
      λ i p q. (c.begin_print.ensures.came S names size st e under).0 i p q,
      λ start k a. (c.begin_print.ensures.came S names size st e under).1 start k (rw c.as_slice-in-Print.ensures (begins _ _ k _ _ _ (shows-print c.args.code.now x.form x.name x.args x.at x.is) a)),
    )

pub begin_other-returns-in-Return-clause-came : goal.begin_other-returns-in-Return-clause-came
begin_other-returns-in-Return-clause-came g m c = λ S names size st e l.
    let x = c.in-Return in
    let s = sym (ap (λ d. fits S d names size) x.is ∙ fits-return S names size x.value x.field-1) ∙ l.fits in
    let under = sub _ l s in (
      λ i p q. (c.leave_method.ensures.came S names size st e under).0 i p q,
      λ start k a. (c.leave_method.ensures.came S names size st e under).1 start k (begins _ _ k _ _ _ (shows-return c.args.code.now x.value x.field-1 x.is) a),
    )

pub leave_method-returns-in_default-clause-came : goal.leave_method-returns-in_default-clause-came
leave_method-returns-in_default-clause-came g m c = λ S names size st e l. (
  λ i p q. refl,
  λ start k a. same a (ap (λ v. begin_return S (option_map erase v) k (scope_of (me_of c.args.self.now.context.me) names c.args.room.now) c.args.depth c.args.self.now.left) (nothing c.args.value.now c.in_default.not-Some)),
)

pub leave_method-returns-clause-came : goal.leave_method-returns-clause-came
leave_method-returns-clause-came g m c = λ S names size st e l.
    let s = ap (λ v. if_some (option_map (fits S) v) names size) (sym c.in-Some.is) ∙ l.fits in
    let under = sub _ l (rw c.get.ensures s) in (
      λ i p q. (c.leave_with.ensures.came S names size st e under).0 i p q,
      λ start k a. (c.leave_with.ensures.came S names size st e under).1 start k (rw c.get.ensures (same a (ap (λ v. begin_return S (option_map erase v) k (scope_of (me_of c.args.self.now.context.me) names c.args.room.now) c.args.depth c.args.self.now.left) c.in-Some.is))),
    )

pub begin_other-returns-in-Str-clause-came : goal.begin_other-returns-in-Str-clause-came
begin_other-returns-in-Str-clause-came g m c = λ S names size st e l.
    let x = c.in-Str in
    let s = sym (ap (λ d. fits S d names size) x.is ∙ fits-str S names size x.pieces x.at) ∙ l.fits in
    let under = sub _ l (rw c.as_slice.ensures s) in (
      λ i p q. (c.literal.ensures.came S names size st e under).0 i p q,
      λ start k a. (c.literal.ensures.came S names size st e under).1 start k (rw c.as_slice.ensures (begins _ _ k _ _ _ (shows-str c.args.code.now x.pieces x.at x.is) a)),
    )

pub turns-returns-then-first-last-clause-came : goal.turns-returns-then-first-last-clause-came
turns-returns-then-first-last-clause-came g m c = λ S names size st e l. (
  λ i p q. refl,
  λ start k a.
      let zf : to_z w64 (of_z w64 c.args.first) ≡ c.args.first = to_z-of_z w64 c.args.first c.ranges.first in
      let zl : to_z w64 (of_z w64 c.args.last) ≡ c.args.last = to_z-of_z w64 c.args.last c.ranges.last in
      let za : to_z w64 (of_z w64 c.args.answer) ≡ c.args.answer = to_z-of_z w64 c.args.answer c.ranges.answer in
      rw za (turns_end (none_left c.args.first c.args.last (rw (zf, zl) at c.if-first-last.true)) a),
)

pub turns-returns-then-room-from-clause-came : goal.turns-returns-then-room-from-clause-came
turns-returns-then-room-from-clause-came g m c = λ S names size st e l. (
  λ i p q. refl,
  λ start k a.
      let o = c.over.ensures in
      rw (o.stays.2, o.stays.3) (cut S _ start _ _ _ k _ _ _ _ o.gives a refl),
)

pub turns-returns-then-self-eq0-clause-came : goal.turns-returns-then-self-eq0-clause-came
turns-returns-then-self-eq0-clause-came g m c = λ S names size st e l. (
  λ i p q. c.turns.invariant.kept S names size st e l i p q,
  λ start k a.
      let inv = c.turns.invariant in
      let zf : to_z w64 (of_z w64 c.args.first) ≡ c.args.first = to_z-of_z w64 c.args.first c.ranges.first in
      let zl : to_z w64 (of_z w64 c.args.last) ≡ c.args.last = to_z-of_z w64 c.args.last c.ranges.last in
      let za : to_z w64 (of_z w64 c.args.answer) ≡ c.args.answer = to_z-of_z w64 c.args.answer c.ranges.answer in
      let next = to_z w64 c.turns.next-bits in
      let back = rw (zf, zl, za) at inv.came in
      let i = back S start k names size st e l a in
      let more = some_left next c.args.last (rw zl at inv.ordered) in
      let o = c.over-then-self-eq0.ensures in
      rw (o.gives, o.stays.2, o.stays.3) (turn_too_many more c.if-self-eq0.true i),
)

pub turns-returns-then-not-goes_on-clause-came : goal.turns-returns-then-not-goes_on-clause-came
turns-returns-then-not-goes_on-clause-came g m c = λ S names size st e l.
    let inv = c.turns.invariant in
    let f = rw (inv.context, c.as_slice.ensures) at c.body-came.ensures.came in (
      λ i p q.
          let within = deeper S c.args.block.now (moved _ _ inv.base (c.start_block.ensures.room ∙ inv.room) l) in
          let edge = ends_within S c.args.block.now l in
          (f S (names ++ S.block_names c.args.block.now.at) size st e within).0 i p (omega (arith, q, inv.base)) ∙ (c.start_block.ensures.above i (omega (arith, p, edge)) ∙ inv.kept S names size st e l i p q),
      λ start k a.
          let zf : to_z w64 (of_z w64 c.args.first) ≡ c.args.first = to_z-of_z w64 c.args.first c.ranges.first in
          let zl : to_z w64 (of_z w64 c.args.last) ≡ c.args.last = to_z-of_z w64 c.args.last c.ranges.last in
          let za : to_z w64 (of_z w64 c.args.answer) ≡ c.args.answer = to_z-of_z w64 c.args.answer c.ranges.answer in
          let next = to_z w64 c.turns.next-bits in
          let back = rw (zf, zl, za) at inv.came in
          let i = back S start k names size st e l a in
          let more = some_left next c.args.last (rw zl at inv.ordered) in
          let block = c.args.block.now in
          let own = S.block_names block.at in
          let some : 0 < c.turns.self.left = omega (arith, c.if-self-eq0.false) in
          let t = opens block c.turns.room c.start_block.new.room _ next (c.args.last +ℤ pos 1) (Int c.args.answer) (moved _ _ inv.base inv.room l) c.start_block.ensures.room (takes_is c.is_empty-takes.result block.params c.is_empty-takes.ensures) more some c.start_block.ensures.below c.start_block.ensures.within i in
          let within = deeper S block (moved _ _ inv.base (c.start_block.ensures.room ∙ inv.room) l) in
          let later = Counting (next +ℤ pos 1) (c.args.last +ℤ pos 1) (Int c.args.answer) in
          let come = (f S (names ++ own) size st e within).1 start (Turn later (erase_block block) (length names) ∷ k) t in
          let long : length names ≤ length c.body-came.new.room = omega (arith, l.within, l.below, l.room, c.body-came.ensures.stays.3, c.start_block.ensures.room, inv.room) in
          let stop = sym c.goes_on.ensures ∙ c.if-not-goes_on.true in
          rw (c.out_of_loop.ensures stop) (closes_out S _ start _ _ _ later (erase_block block) k _ names own _ _ _ long stop come),
    )

pub turns-returns-then-next-last-clause-came : goal.turns-returns-then-next-last-clause-came
turns-returns-then-next-last-clause-came g m c = λ S names size st e l.
    let inv = c.turns.invariant in
    let f = rw (inv.context, c.as_slice.ensures) at c.body-came.ensures.came in (
      λ i p q.
          let within = deeper S c.args.block.now (moved _ _ inv.base (c.start_block.ensures.room ∙ inv.room) l) in
          let edge = ends_within S c.args.block.now l in
          (f S (names ++ S.block_names c.args.block.now.at) size st e within).0 i p (omega (arith, q, inv.base)) ∙ (c.start_block.ensures.above i (omega (arith, p, edge)) ∙ inv.kept S names size st e l i p q),
      λ start k a.
          let zf : to_z w64 (of_z w64 c.args.first) ≡ c.args.first = to_z-of_z w64 c.args.first c.ranges.first in
          let zl : to_z w64 (of_z w64 c.args.last) ≡ c.args.last = to_z-of_z w64 c.args.last c.ranges.last in
          let za : to_z w64 (of_z w64 c.args.answer) ≡ c.args.answer = to_z-of_z w64 c.args.answer c.ranges.answer in
          let next = to_z w64 c.turns.next-bits in
          let back = rw (zf, zl, za) at inv.came in
          let i = back S start k names size st e l a in
          let more = some_left next c.args.last (rw zl at inv.ordered) in
          let block = c.args.block.now in
          let own = S.block_names block.at in
          let some : 0 < c.turns.self.left = omega (arith, c.if-self-eq0.false) in
          let t = opens block c.turns.room c.start_block.new.room _ next (c.args.last +ℤ pos 1) (Int c.args.answer) (moved _ _ inv.base inv.room l) c.start_block.ensures.room (takes_is c.is_empty-takes.result block.params c.is_empty-takes.ensures) more some c.start_block.ensures.below c.start_block.ensures.within i in
          let within = deeper S block (moved _ _ inv.base (c.start_block.ensures.room ∙ inv.room) l) in
          let later = Counting (next +ℤ pos 1) (c.args.last +ℤ pos 1) (Int c.args.answer) in
          let come = (f S (names ++ own) size st e within).1 start (Turn later (erase_block block) (length names) ∷ k) t in
          let long : length names ≤ length c.body-came.new.room = omega (arith, l.within, l.below, l.room, c.body-came.ensures.stays.3, c.start_block.ensures.room, inv.room) in
          let more_on = sym c.goes_on.ensures ∙ c.if-not-goes_on.false in
          let test = rw zl at c.if-next-last.true in
          let past : c.args.last ≤ℤ next = grind (arith, ints) in
          rw za (turns_end (last_done next c.args.last past) (closes S _ start _ _ _ later (erase_block block) k _ names own _ _ _ long more_on come)),
    )

pub turns-turns-preserved : goal.turns-turns-preserved
turns-turns-preserved g m c =
    let old = c.turns.invariant in
    let y = c.body-came.ensures in
    let next = to_z w64 c.turns.next-bits in
    let top = c.ranges.last.sfits in
    let zl : to_z w64 (of_z w64 c.args.last) ≡ c.args.last = to_z-of_z w64 c.args.last c.ranges.last in
    let lt = rw zl at c.if-next-last.false in
    let zn : to_z w64 (of_z w64 (next +ℤ pos 1)) ≡ next +ℤ pos 1 = omega (arith, ints) in
    let ordered : (next +ℤ pos 1) ≤ℤ c.args.last = grind (arith, ints) in
    record {
      base = y.stays.0 ∙ old.base;
      context = y.stays.1 ∙ old.context;
      room = y.stays.3 ∙ (c.start_block.ensures.room ∙ old.room);
      less = omega (arith, y.stays.2, old.less);
      ordered = rw (zn, zl) ordered;
      within = omega (arith, old.within, y.stays.3, c.start_block.ensures.room);
      kept = λ S names size st e l i p q.
          let inv = c.turns.invariant in
          let within = deeper S c.args.block.now (moved _ _ inv.base (c.start_block.ensures.room ∙ inv.room) l) in
          let edge = ends_within S c.args.block.now l in
          let f = rw (inv.context, c.as_slice.ensures) at c.body-came.ensures.came in
          (f S (names ++ S.block_names c.args.block.now.at) size st e within).0 i p (omega (arith, q, inv.base)) ∙ (c.start_block.ensures.above i (omega (arith, p, edge)) ∙ inv.kept S names size st e l i p q);
      came = λ S start k names size st e l a.
          let inv = c.turns.invariant in
          let next = to_z w64 c.turns.next-bits in
          let last = to_z w64 (of_z w64 c.args.last) in
          let answer = to_z w64 (of_z w64 c.args.answer) in
          let i = inv.came S start k names size st e l a in
          let more = some_left next last inv.ordered in
          let block = c.args.block.now in
          let own = S.block_names block.at in
          let some : 0 < c.turns.self.left = omega (arith, c.if-self-eq0.false) in
          let t = opens block c.turns.room c.start_block.new.room _ next (last +ℤ pos 1) (Int answer) (moved _ _ inv.base inv.room l) c.start_block.ensures.room (takes_is c.is_empty-takes.result block.params c.is_empty-takes.ensures) more some c.start_block.ensures.below c.start_block.ensures.within i in
          let within = deeper S block (moved _ _ inv.base (c.start_block.ensures.room ∙ inv.room) l) in
          let f = rw (inv.context, c.as_slice.ensures) at c.body-came.ensures.came in
          let later = Counting (next +ℤ pos 1) (last +ℤ pos 1) (Int answer) in
          let come = (f S (names ++ own) size st e within).1 start (Turn later (erase_block block) (length names) ∷ k) t in
          let long : length names ≤ length c.body-came.new.room = omega (arith, l.within, l.below, l.room, c.body-came.ensures.stays.3, c.start_block.ensures.room, inv.room) in
          let more_on = sym c.goes_on.ensures ∙ c.if-not-goes_on.false in
          rw zn (closes S _ start _ _ _ later (erase_block block) k _ names own _ _ _ long more_on come);
    }

pub send_block-returns-then-is_left-clause-came : goal.send_block-returns-then-is_left-clause-came
send_block-returns-then-is_left-clause-came g m c = λ S names size st e l.
    let w = c.walk-came in
    let right = snd _ _ l.fits in
    let first = sub (fits S c.args.receiver.now) l (fst _ _ right) in (
      λ i p q. (w.ensures.came S names size st e first).0 i p q,
      λ start k a.
          let step = ReceiverOf (text_of S c.args.name) (map erase c.args.args.now) (Some (erase_block c.args.block.now)) c.args.at in
          let come = (w.ensures.came S names size st e first).1 start (Then step ∷ k) a in
          passes S _ start _ w.result w.new.self.value w.new.self.leave _ step k _ _ _ (sym c.is_left.ensures ∙ c.if-is_left.true) come,
    )

pub send_block-returns-then-is_left-2-clause-came : goal.send_block-returns-then-is_left-2-clause-came
send_block-returns-then-is_left-2-clause-came g m c = λ S names size st e l.
    let w = c.walk-came in
    let right = snd _ _ l.fits in
    let first = sub (fits S c.args.receiver.now) l (fst _ _ right) in
    let t = c.take-receiver.ensures in
    let y = c.arguments-came in
    let under = moved _ _ w.ensures.stays.0 w.ensures.stays.3 (sub (every (map (fits S) c.args.args.now)) l (fst _ _ (snd _ _ right))) in (
      λ i p q.
          let f = rw (t.stays.1, t.stays.0, w.ensures.stays.1) at y.ensures.kept in
          let stays = f S names size st e under i p (omega (arith, q, w.ensures.stays.0)) ∙ (w.ensures.came S names size st e first).0 i p q in
          stays,
      λ start k a.
          let step = ReceiverOf (text_of S c.args.name) (map erase c.args.args.now) (Some (erase_block c.args.block.now)) c.args.at in
          let come = (w.ensures.came S names size st e first).1 start (Then step ∷ k) a in
          let none = sym c.is_left.ensures ∙ c.if-is_left.false in
          let v = value_of w.result w.new.self.value in
          let f = rw (t.stays.1, t.stays.0, t.stays.2, t.stays.3, w.ensures.stays.1) at y.ensures.came in
          let ends = f (OnReceiver v (text_of S c.args.name) (Some (erase_block c.args.block.now))) c.args.at S start k names size st e under (on _ (given w.result w.new.self.value w.new.self.leave none come) refl) in
          ends.0 (sym c.is_left-2.ensures ∙ c.if-is_left-2.true),
    )

pub send_block-returns-in-Counting-clause-came : goal.send_block-returns-in-Counting-clause-came
send_block-returns-in-Counting-clause-came g m c = λ S names size st e l.
    let w = c.walk-came in
    let right = snd _ _ l.fits in
    let first = sub (fits S c.args.receiver.now) l (fst _ _ right) in
    let t = c.take-receiver.ensures in
    let y = c.arguments-came in
    let under = moved _ _ w.ensures.stays.0 w.ensures.stays.3 (sub (every (map (fits S) c.args.args.now)) l (fst _ _ (snd _ _ right))) in
    let o = c.iterations.ensures in
    let base : c.iterations.new.self.base ≡ c.args.self.now.base = o.stays.0 ∙ (t.stays.0 ∙ w.ensures.stays.0) in
    let inside = moved _ _ base (y.ensures.room ∙ w.ensures.stays.3) (sub (block_fits S c.args.block.now) l (snd _ _ (snd _ _ right))) in (
      λ i p q.
          let f = rw (t.stays.1, t.stays.0, w.ensures.stays.1) at y.ensures.kept in
          let stays = f S names size st e under i p (omega (arith, q, w.ensures.stays.0)) ∙ (w.ensures.came S names size st e first).0 i p q in
          let u = rw (o.stays.1, y.ensures.context, t.stays.1, w.ensures.stays.1) at c.turns.ensures.came in
          (u S names size st e inside).0 i p (omega (arith, q, base)) ∙ stays,
      λ start k a.
          let z1 : to_z w64 (of_z w64 c.in-Counting.rounds.first) ≡ c.in-Counting.rounds.first = search rules in
          let z2 : to_z w64 (of_z w64 c.in-Counting.rounds.last) ≡ c.in-Counting.rounds.last = search rules in
          let z3 : to_z w64 (of_z w64 c.in-Counting.rounds.answer) ≡ c.in-Counting.rounds.answer = search rules in
          let step = ReceiverOf (text_of S c.args.name) (map erase c.args.args.now) (Some (erase_block c.args.block.now)) c.args.at in
          let come = (w.ensures.came S names size st e first).1 start (Then step ∷ k) a in
          let none = sym c.is_left.ensures ∙ c.if-is_left.false in
          let v = value_of w.result w.new.self.value in
          let f = rw (t.stays.1, t.stays.0, t.stays.2, t.stays.3, w.ensures.stays.1) at y.ensures.came in
          let ends = f (OnReceiver v (text_of S c.args.name) (Some (erase_block c.args.block.now))) c.args.at S start k names size st e under (on _ (given w.result w.new.self.value w.new.self.leave none come) refl) in
          let at_end = ends.1 (sym c.is_left-2.ensures ∙ c.if-is_left-2.false) in
          let short : w.new.self.base ≤ length w.new.room = still_within w.ensures.stays.0 w.ensures.stays.3 l.room in
          let from = rw t.stays.0 at y.ensures.fits in
          let end = rw t.stays.0 at y.ensures.base in
          let edge = from short in
          let last = end (sym c.is_left-2.ensures ∙ c.if-is_left-2.false) in
          let passed = rw t.stays.0 at c.passed-args.ensures in
          let long : w.new.self.base + length c.args.args.now ≤ length y.new.room = up_to_end w.new.self.base _ _ (length c.args.args.now) edge last in
          let values = passed long in
          let number = same_is (builtin_of (text_of S c.args.name)) c.args.method (fst _ _ l.fits) in
          let args = map plain (take (length c.args.args.now) (drop w.new.self.base y.new.room)) in
          let answer = deed c.args.self.now.context.program.now v (text_of S c.args.name) args (Some (length c.args.block.now.params)) in
          let none_own = (rw (y.ensures.context, t.stays.1, w.ensures.stays.1, t.value) at (c.target_of.ensures.none c.in_default.is)) S st in
          let table = answers_block c.args.block.now v (text_of S c.args.name) args c.args.at answer none_own (ap (λ (ns : Program). deed ns v (text_of S c.args.name) args (Some (length c.args.block.now.params))) (sym e)) at_end in
          let r = c.in-Counting.rounds in
          let said = rw (y.ensures.context, t.stays.1, w.ensures.stays.1, t.value, values, c.len.ensures, c.in-Counting.is) at o.opens in
          let turning = block_turns S _ start _ _ answer (Counting c.in-Counting.rounds.first (c.in-Counting.rounds.last +ℤ pos 1) (Int c.in-Counting.rounds.answer)) (erase_block c.args.block.now) c.args.at k _ _ _ (said (text_of S c.args.name) number) table in
          let u = rw (z1, z2, z3, o.stays.1, o.stays.2, o.stays.3, y.ensures.context, t.stays.1, w.ensures.stays.1) at c.turns.ensures.came in
          (u S names size st e inside).1 start k turning,
    )

pub send_block-returns-clause-came : goal.send_block-returns-clause-came
send_block-returns-clause-came g m c = λ S names size st e l.
    let w = c.walk-came in
    let right = snd _ _ l.fits in
    let first = sub (fits S c.args.receiver.now) l (fst _ _ right) in
    let t = c.take-receiver.ensures in
    let y = c.arguments-came in
    let under = moved _ _ w.ensures.stays.0 w.ensures.stays.3 (sub (every (map (fits S) c.args.args.now)) l (fst _ _ (snd _ _ right))) in (
      λ i p q.
          let f = rw (t.stays.1, t.stays.0, w.ensures.stays.1) at y.ensures.kept in
          let stays = f S names size st e under i p (omega (arith, q, w.ensures.stays.0)) ∙ (w.ensures.came S names size st e first).0 i p q in
          stays,
      λ start k a.
          let step = ReceiverOf (text_of S c.args.name) (map erase c.args.args.now) (Some (erase_block c.args.block.now)) c.args.at in
          let come = (w.ensures.came S names size st e first).1 start (Then step ∷ k) a in
          let none = sym c.is_left.ensures ∙ c.if-is_left.false in
          let v = value_of w.result w.new.self.value in
          let f = rw (t.stays.1, t.stays.0, t.stays.2, t.stays.3, w.ensures.stays.1) at y.ensures.came in
          let ends = f (OnReceiver v (text_of S c.args.name) (Some (erase_block c.args.block.now))) c.args.at S start k names size st e under (on _ (given w.result w.new.self.value w.new.self.leave none come) refl) in
          let at_end = ends.1 (sym c.is_left-2.ensures ∙ c.if-is_left-2.false) in
          let short : w.new.self.base ≤ length w.new.room = still_within w.ensures.stays.0 w.ensures.stays.3 l.room in
          let from = rw t.stays.0 at y.ensures.fits in
          let end = rw t.stays.0 at y.ensures.base in
          let edge = from short in
          let last = end (sym c.is_left-2.ensures ∙ c.if-is_left-2.false) in
          let passed = rw t.stays.0 at c.passed-args.ensures in
          let long : w.new.self.base + length c.args.args.now ≤ length y.new.room = up_to_end w.new.self.base _ _ (length c.args.args.now) edge last in
          let values = passed long in
          let number = same_is (builtin_of (text_of S c.args.name)) c.args.method (fst _ _ l.fits) in
          let args = map plain (take (length c.args.args.now) (drop w.new.self.base y.new.room)) in
          let answer = deed c.args.self.now.context.program.now v (text_of S c.args.name) args (Some (length c.args.block.now.params)) in
          let none_own = (rw (y.ensures.context, t.stays.1, w.ensures.stays.1, t.value) at (c.target_of.ensures.none c.in_default.is)) S st in
          let table = answers_block c.args.block.now v (text_of S c.args.name) args c.args.at answer none_own (ap (λ (ns : Program). deed ns v (text_of S c.args.name) args (Some (length c.args.block.now.params))) (sym e)) at_end in
          let o = c.iterations.ensures in
          let said = rw (y.ensures.context, t.stays.1, w.ensures.stays.1, t.value, values, c.len.ensures, c.in-Done.is) at o.opens in
          rw (o.stays.2, o.stays.3) (said (text_of S c.args.name) number S start _ (erase_block c.args.block.now) k _ c.args.depth table),
    )

pub begin_other-returns-in-Walk-clause-came : goal.begin_other-returns-in-Walk-clause-came
begin_other-returns-in-Walk-clause-came g m c = λ S names size st e l.
    let x = c.in-Walk in
    let s = sym (ap (λ d. fits S d names size) x.is ∙ fits-walk S names size x.method x.name x.receiver x.args x.block x.at) ∙ l.fits in
    let under = sub _ l (rw (c.get-in-Walk.ensures, c.as_slice-in-Walk.ensures, c.get-in-Walk-2.ensures) s) in (
      λ i p q. (c.send_block.ensures.came S names size st e under).0 i p q,
      λ start k a. (c.send_block.ensures.came S names size st e under).1 start k (rw (c.get-in-Walk.ensures, c.as_slice-in-Walk.ensures, c.get-in-Walk-2.ensures) (begins _ _ k _ _ _ (shows-walk c.args.code.now x.method x.name x.receiver x.args x.block x.at x.is) a)),
    )

pub begin-returns-in-SetLocal-clause-came : goal.begin-returns-in-SetLocal-clause-came
begin-returns-in-SetLocal-clause-came g m c = c.begin_set.ensures.came

pub begin-returns-in-UpdateLocal-clause-came : goal.begin-returns-in-UpdateLocal-clause-came
begin-returns-in-UpdateLocal-clause-came g m c = c.begin_update.ensures.came

pub begin-returns-in-Operate-clause-came : goal.begin-returns-in-Operate-clause-came
begin-returns-in-Operate-clause-came g m c = c.begin_operate.ensures.came

pub begin-returns-in-Send-clause-came : goal.begin-returns-in-Send-clause-came
begin-returns-in-Send-clause-came g m c = c.begin_send.ensures.came

pub begin-returns-in-Function-clause-came : goal.begin-returns-in-Function-clause-came
begin-returns-in-Function-clause-came g m c = c.begin_function.ensures.came

pub begin-returns-in-If-clause-came : goal.begin-returns-in-If-clause-came
begin-returns-in-If-clause-came g m c = c.begin_choice.ensures.came

pub begin-returns-in-SetField-clause-came : goal.begin-returns-in-SetField-clause-came
begin-returns-in-SetField-clause-came g m c = c.begin_set_field.ensures.came

pub begin-returns-in-UpdateField-clause-came : goal.begin-returns-in-UpdateField-clause-came
begin-returns-in-UpdateField-clause-came g m c = c.begin_update_field.ensures.came

pub begin-returns-in-New-clause-came : goal.begin-returns-in-New-clause-came
begin-returns-in-New-clause-came g m c = c.begin_new.ensures.came

pub begin-returns-in-And-clause-came : goal.begin-returns-in-And-clause-came
begin-returns-in-And-clause-came g m c = c.begin_logic.ensures.came

pub begin-returns-in-Or-clause-came : goal.begin-returns-in-Or-clause-came
begin-returns-in-Or-clause-came g m c = c.begin_logic-in-Or.ensures.came

pub begin-returns-in-Not-clause-came : goal.begin-returns-in-Not-clause-came
begin-returns-in-Not-clause-came g m c = c.begin_logic-in-Not.ensures.came

pub begin-returns-in_default-clause-came : goal.begin-returns-in_default-clause-came
begin-returns-in_default-clause-came g m c = c.begin_other.ensures.came

pub begin_set-returns-in_default-clause-came : goal.begin_set-returns-in_default-clause-came
begin_set-returns-in_default-clause-came g m c = λ S names size st e l. (λ i p q. refl, λ start k a. let o = c.over.ensures in no_arm S _ k _ _ _ o.gives o.stays.2 (ap g.O.ThreadStore.log o.stays.3) (ap g.O.ThreadStore.private o.stays.3) a)

pub begin_update-returns-in_default-clause-came : goal.begin_update-returns-in_default-clause-came
begin_update-returns-in_default-clause-came g m c = λ S names size st e l. (λ i p q. refl, λ start k a. let o = c.over.ensures in no_arm S _ k _ _ _ o.gives o.stays.2 (ap g.O.ThreadStore.log o.stays.3) (ap g.O.ThreadStore.private o.stays.3) a)

pub begin_slow_update-returns-in_default-clause-came : goal.begin_slow_update-returns-in_default-clause-came
begin_slow_update-returns-in_default-clause-came g m c = λ S names size st e l. (λ i p q. refl, λ start k a. let o = c.over.ensures in no_arm S _ k _ _ _ o.gives o.stays.2 (ap g.O.ThreadStore.log o.stays.3) (ap g.O.ThreadStore.private o.stays.3) a)

pub begin_operate-returns-in_default-clause-came : goal.begin_operate-returns-in_default-clause-came
begin_operate-returns-in_default-clause-came g m c = λ S names size st e l. (λ i p q. refl, λ start k a. let o = c.over.ensures in no_arm S _ k _ _ _ o.gives o.stays.2 (ap g.O.ThreadStore.log o.stays.3) (ap g.O.ThreadStore.private o.stays.3) a)

pub begin_object_operate-returns-in_default-clause-came : goal.begin_object_operate-returns-in_default-clause-came
begin_object_operate-returns-in_default-clause-came g m c = λ S names size st e l. (λ i p q. refl, λ start k a. let o = c.over.ensures in no_arm S _ k _ _ _ o.gives o.stays.2 (ap g.O.ThreadStore.log o.stays.3) (ap g.O.ThreadStore.private o.stays.3) a)

pub begin_slow_operate-returns-in_default-clause-came : goal.begin_slow_operate-returns-in_default-clause-came
begin_slow_operate-returns-in_default-clause-came g m c = λ S names size st e l. (λ i p q. refl, λ start k a. let o = c.over.ensures in no_arm S _ k _ _ _ o.gives o.stays.2 (ap g.O.ThreadStore.log o.stays.3) (ap g.O.ThreadStore.private o.stays.3) a)

pub read_attribute-returns-in_default-clause-came : goal.read_attribute-returns-in_default-clause-came
read_attribute-returns-in_default-clause-came g m c = λ S names size st e l. (λ i p q. refl, λ start k a. let o = c.over.ensures in no_arm S _ k _ _ _ o.gives o.stays.2 (ap g.O.ThreadStore.log o.stays.3) (ap g.O.ThreadStore.private o.stays.3) a)

pub begin_send-returns-in_default-clause-came : goal.begin_send-returns-in_default-clause-came
begin_send-returns-in_default-clause-came g m c = λ S names size st e l. (λ i p q. refl, λ start k a. let o = c.over.ensures in no_arm S _ k _ _ _ o.gives o.stays.2 (ap g.O.ThreadStore.log o.stays.3) (ap g.O.ThreadStore.private o.stays.3) a)

pub begin_function-returns-in_default-clause-came : goal.begin_function-returns-in_default-clause-came
begin_function-returns-in_default-clause-came g m c = λ S names size st e l. (λ i p q. refl, λ start k a. let o = c.over.ensures in no_arm S _ k _ _ _ o.gives o.stays.2 (ap g.O.ThreadStore.log o.stays.3) (ap g.O.ThreadStore.private o.stays.3) a)

pub begin_choice-returns-in_default-clause-came : goal.begin_choice-returns-in_default-clause-came
begin_choice-returns-in_default-clause-came g m c = λ S names size st e l. (λ i p q. refl, λ start k a. let o = c.over.ensures in no_arm S _ k _ _ _ o.gives o.stays.2 (ap g.O.ThreadStore.log o.stays.3) (ap g.O.ThreadStore.private o.stays.3) a)

pub begin_set_field-returns-in_default-clause-came : goal.begin_set_field-returns-in_default-clause-came
begin_set_field-returns-in_default-clause-came g m c = λ S names size st e l. (λ i p q. refl, λ start k a. let o = c.over.ensures in no_arm S _ k _ _ _ o.gives o.stays.2 (ap g.O.ThreadStore.log o.stays.3) (ap g.O.ThreadStore.private o.stays.3) a)

pub begin_update_field-returns-in_default-clause-came : goal.begin_update_field-returns-in_default-clause-came
begin_update_field-returns-in_default-clause-came g m c = λ S names size st e l. (λ i p q. refl, λ start k a. let o = c.over.ensures in no_arm S _ k _ _ _ o.gives o.stays.2 (ap g.O.ThreadStore.log o.stays.3) (ap g.O.ThreadStore.private o.stays.3) a)

pub begin_new-returns-in_default-clause-came : goal.begin_new-returns-in_default-clause-came
begin_new-returns-in_default-clause-came g m c = λ S names size st e l. (λ i p q. refl, λ start k a. let o = c.over.ensures in no_arm S _ k _ _ _ o.gives o.stays.2 (ap g.O.ThreadStore.log o.stays.3) (ap g.O.ThreadStore.private o.stays.3) a)

pub begin_logic-returns-in_default-clause-came : goal.begin_logic-returns-in_default-clause-came
begin_logic-returns-in_default-clause-came g m c = λ S names size st e l. (λ i p q. refl, λ start k a. let o = c.over.ensures in no_arm S _ k _ _ _ o.gives o.stays.2 (ap g.O.ThreadStore.log o.stays.3) (ap g.O.ThreadStore.private o.stays.3) a)

pub begin_slow_send-returns-in_default-clause-came : goal.begin_slow_send-returns-in_default-clause-came
begin_slow_send-returns-in_default-clause-came g m c = λ S names size st e l. (λ i p q. refl, λ start k a. let o = c.over.ensures in no_arm S _ k _ _ _ o.gives o.stays.2 (ap g.O.ThreadStore.log o.stays.3) (ap g.O.ThreadStore.private o.stays.3) a)

pub begin_other-returns-in_default-clause-came : goal.begin_other-returns-in_default-clause-came
begin_other-returns-in_default-clause-came g m c = λ S names size st e l. (λ i p q. refl, λ start k a. let o = c.over.ensures in no_arm S _ k _ _ _ o.gives o.stays.2 (ap g.O.ThreadStore.log o.stays.3) (ap g.O.ThreadStore.private o.stays.3) a)

pub begin_update-returns-in-Some-clause-came : goal.begin_update-returns-in-Some-clause-came
begin_update-returns-in-Some-clause-came g m c = λ S names size st e l.
    let x = c.in-UpdateLocal in
    let s = sym (ap (λ d. fits S d names size) x.is ∙ fits-update_local S names size x.slot x.field-1 x.op x.value x.field-4) ∙ l.fits in (
      λ i p q.
          let is = c.in-Some.ensures.some in
          let within = slot_within x.field-1 names x.slot (fst _ _ s) in
          ap (λ r. slice_get r i) is.7 ∙ get_set c.args.room.now x.slot i _ (λ z. omega (arith, z, within, l.within, p)),
      λ start k a.
          let right : fits S c.get-value.result.now names size ≡ true = rw c.get-value.ensures (snd _ _ s) in
          let len : length names ≤ length c.args.room.now = omega (arith, l.within, l.below, l.room) in
          let b = same (begins _ _ k _ _ _ (shows-update_local c.args.code.now x.slot x.field-1 x.op x.value x.field-4 x.is) a) (target_local S x.field-1 x.op (erase x.value) x.field-4 k (scope_of (me_of c.args.self.now.context.me) names c.args.room.now) c.args.depth c.args.self.now.left) in
          let z : to_z w64 (of_z w64 c.in-Some.n) ≡ c.in-Some.n = search rules in
          rw z (updates S _ start _ _ k _ names size c.args.depth c.args.self.now.left c.args.room.now c.quick_update.new.room x.slot x.field-1 x.op c.get-value.result.now x.field-4 c.in-Some.n (fst _ _ s) right len c.if-self-gt0.true c.if-depth-lt-MAX_DEPTH.true c.in-Some.ensures.some (rw c.get-value.ensures b)),
    )

pub begin_update_over-returns-in-Some-clause-came : goal.begin_update_over-returns-in-Some-clause-came
begin_update_over-returns-in-Some-clause-came g m c = λ S names size st e l.
    let x = c.in-UpdateLocal in
    let s = sym (ap (λ d. fits S d names size) x.is ∙ fits-update_local S names size x.slot x.field-1 x.op x.value x.field-4) ∙ l.fits in (
      λ i p q.
          let is = c.in-Some.ensures.some in
          let within = slot_within x.field-1 names x.slot (fst _ _ s) in
          ap (λ r. slice_get r i) is.7 ∙ get_set c.args.room.now x.slot i _ (λ z. omega (arith, z, within, l.within, p)),
      λ start k a.
          let right : fits S c.get.result.now names size ≡ true = rw c.get.ensures (snd _ _ s) in
          let len : length names ≤ length c.args.room.now = omega (arith, l.within, l.below, l.room) in
          let b = same (begins _ _ k _ _ _ (shows-update_local c.args.code.now x.slot x.field-1 x.op x.value x.field-4 x.is) a) (target_local S x.field-1 x.op (erase x.value) x.field-4 k (scope_of (me_of c.args.self.now.context.me) names c.args.room.now) c.args.depth c.args.self.now.left) in
          let z : to_z w64 (of_z w64 c.in-Some.n) ≡ c.in-Some.n = search rules in
          rw z (updates_over S _ start _ _ k _ names size c.args.depth c.args.self.now.left c.args.room.now c.update_over.new.room x.slot x.field-1 x.op c.get.result.now x.field-4 c.in-Some.n (fst _ _ s) right len c.if-self-gt2.true (omega (arith, c.if-depth.true)) c.in-Some.ensures.some (rw c.get.ensures b)),
    )

pub begin_update_over-returns-in_default-clause-came : goal.begin_update_over-returns-in_default-clause-came
begin_update_over-returns-in_default-clause-came g m c = λ S names size st e l. (λ i p q. refl, λ start k a. let o = c.over.ensures in no_arm S _ k _ _ _ o.gives o.stays.2 (ap g.O.ThreadStore.log o.stays.3) (ap g.O.ThreadStore.private o.stays.3) a)

pub begin_update-returns-then-is_deep-clause-came : goal.begin_update-returns-then-is_deep-clause-came
begin_update-returns-then-is_deep-clause-came g m c = c.begin_slow_update.ensures.came

pub begin_update-returns-then-is_operate-clause-came : goal.begin_update-returns-then-is_operate-clause-came
begin_update-returns-then-is_operate-clause-came g m c = c.begin_update_over.ensures.came

pub begin_update-returns-then-is_send-clause-came : goal.begin_update-returns-then-is_send-clause-came
begin_update-returns-then-is_send-clause-came g m c = c.begin_update_sent.ensures.came

pub begin_update_sent-returns-in_default-clause-came : goal.begin_update_sent-returns-in_default-clause-came
begin_update_sent-returns-in_default-clause-came g m c = λ S names size st e l. (λ i p q. refl, λ start k a. let o = c.over.ensures in no_arm S _ k _ _ _ o.gives o.stays.2 (ap g.O.ThreadStore.log o.stays.3) (ap g.O.ThreadStore.private o.stays.3) a)

pub begin_update_sent-returns-after-is_combining-clause-came : goal.begin_update_sent-returns-after-is_combining-clause-came
begin_update_sent-returns-after-is_combining-clause-came g m c = c.begin_slow_update.ensures.came

pub begin_update_sent-returns-then-is_left-clause-came : goal.begin_update_sent-returns-then-is_left-clause-came
begin_update_sent-returns-then-is_left-clause-came g m c = λ S names size st e l.
    let x = c.in-UpdateLocal in
    let s = sym (ap (λ d. fits S d names size) x.is ∙ fits-update_local S names size x.slot x.field-1 x.op x.value x.at) ∙ l.fits in
    let right : fits S c.get.result.now names size ≡ true = rw c.get.ensures (snd _ _ s) in (
      λ i p q. (c.evaluate_sent-came.ensures.came S names size st e (sub _ l right)).0 i p q,
      λ start k a.
          let len : length names ≤ length c.args.room.now = omega (arith, l.within, l.below, l.room) in
          let b = same (begins _ _ k _ _ _ (shows-update_local c.args.code.now x.slot x.field-1 x.op x.value x.at x.is) a) (target_local S x.field-1 x.op (erase x.value) x.at k (scope_of (me_of c.args.self.now.context.me) names c.args.room.now) c.args.depth c.args.self.now.left) in
          let is = c.is_combining.ensures in
          let t = c.if-is_combining.true in
          let waits = Then (WriteTo (OfLocal x.field-1) x.at) ∷ k in
          let step = RightOf (Int c.in-Some.m) x.op x.at in
          let g1 = gives (Int c.in-Some.m) (read_room x.field-1 names c.args.room.now x.slot (held.Int c.in-Some.m) len (fst _ _ s) c.in-Some.ensures) (rw c.get.ensures b) in
          let g2 = operates S _ start _ (Int c.in-Some.m) (OfLocal x.field-1) x.op (erase c.get.result.now) x.at (is.or_else t) (is.and_then t) g1 in
          let w = c.evaluate_sent-came in
          let e1 = (w.ensures.came S names size st e (sub _ l right)).1 start (Then step ∷ waits) g2 in
          let gone = sym c.is_left.ensures ∙ c.if-is_left.true in
          passes S _ start _ w.result w.new.self.value w.new.self.leave _ (WriteTo (OfLocal x.field-1) x.at) k _ _ _ gone
          (passes S _ start _ w.result w.new.self.value w.new.self.leave _ step waits _ _ _ gone e1),
    )

pub begin_update_sent-returns-then-is_left-2-clause-came : goal.begin_update_sent-returns-then-is_left-2-clause-came
begin_update_sent-returns-then-is_left-2-clause-came g m c = λ S names size st e l.
    let x = c.in-UpdateLocal in
    let s = sym (ap (λ d. fits S d names size) x.is ∙ fits-update_local S names size x.slot x.field-1 x.op x.value x.at) ∙ l.fits in
    let right : fits S c.get.result.now names size ≡ true = rw c.get.ensures (snd _ _ s) in (
      λ i p q. (c.evaluate_sent-came.ensures.came S names size st e (sub _ l right)).0 i p q,
      λ start k a.
          let len : length names ≤ length c.args.room.now = omega (arith, l.within, l.below, l.room) in
          let b = same (begins _ _ k _ _ _ (shows-update_local c.args.code.now x.slot x.field-1 x.op x.value x.at x.is) a) (target_local S x.field-1 x.op (erase x.value) x.at k (scope_of (me_of c.args.self.now.context.me) names c.args.room.now) c.args.depth c.args.self.now.left) in
          let is = c.is_combining.ensures in
          let t = c.if-is_combining.true in
          let waits = Then (WriteTo (OfLocal x.field-1) x.at) ∷ k in
          let step = RightOf (Int c.in-Some.m) x.op x.at in
          let g1 = gives (Int c.in-Some.m) (read_room x.field-1 names c.args.room.now x.slot (held.Int c.in-Some.m) len (fst _ _ s) c.in-Some.ensures) (rw c.get.ensures b) in
          let g2 = operates S _ start _ (Int c.in-Some.m) (OfLocal x.field-1) x.op (erase c.get.result.now) x.at (is.or_else t) (is.and_then t) g1 in
          let w = c.evaluate_sent-came in
          let e1 = (w.ensures.came S names size st e (sub _ l right)).1 start (Then step ∷ waits) g2 in
          let v1 = given w.result w.new.self.value w.new.self.leave (sym c.is_left.ensures ∙ c.if-is_left.false) e1 in
          let o = c.operated_with-made.ensures in
          let number = operator_number S x.op in
          let z : to_z w64 (of_z w64 c.in-Some.m) ≡ c.in-Some.m = search rules in
          let y = c.operated_with-made in
          let d0 : OrMemory (outcome_of (deed w.new.self.context.program.now (Int (to_z w64 (of_z w64 c.in-Some.m))) (operator S x.op) (value_of w.result w.new.self.value ∷ []) None) x.at) (outcome y.result y.new.self.value y.new.self.leave) = o.gives (operator S x.op) number in
          let d = rw (z, w.ensures.stays.1, sym e) at d0 in
          let e2 = (calls S _ start _ _ (Int c.in-Some.m) (operator S x.op) (value_of w.result w.new.self.value ∷ []) x.at waits _ _ _ _ (none_plain S (Int c.in-Some.m) (operator S x.op) refl) d (on _ v1 refl)) in
          rw (o.stays.2, o.stays.3) (passes S _ start _ y.result y.new.self.value y.new.self.leave _ (WriteTo (OfLocal x.field-1) x.at) k _ _ _ (sym c.is_left-in-Some.ensures ∙ c.if-is_left-2.true) e2),
    )

pub begin_update_sent-returns-in-Some-clause-came : goal.begin_update_sent-returns-in-Some-clause-came
begin_update_sent-returns-in-Some-clause-came g m c = λ S names size st e l.
    let x = c.in-UpdateLocal in
    let s = sym (ap (λ d. fits S d names size) x.is ∙ fits-update_local S names size x.slot x.field-1 x.op x.value x.at) ∙ l.fits in
    let right : fits S c.get.result.now names size ≡ true = rw c.get.ensures (snd _ _ s) in (
      λ i p q.
          let within = slot_within x.field-1 names x.slot (fst _ _ s) in
          kept_write x.slot i _ _ _ _ (λ z. omega (arith, z, within, l.within, p)) c.write.ensures.written ∙ (c.evaluate_sent-came.ensures.came S names size st e (sub _ l right)).0 i p q,
      λ start k a.
          let len : length names ≤ length c.args.room.now = omega (arith, l.within, l.below, l.room) in
          let b = same (begins _ _ k _ _ _ (shows-update_local c.args.code.now x.slot x.field-1 x.op x.value x.at x.is) a) (target_local S x.field-1 x.op (erase x.value) x.at k (scope_of (me_of c.args.self.now.context.me) names c.args.room.now) c.args.depth c.args.self.now.left) in
          let is = c.is_combining.ensures in
          let t = c.if-is_combining.true in
          let waits = Then (WriteTo (OfLocal x.field-1) x.at) ∷ k in
          let step = RightOf (Int c.in-Some.m) x.op x.at in
          let g1 = gives (Int c.in-Some.m) (read_room x.field-1 names c.args.room.now x.slot (held.Int c.in-Some.m) len (fst _ _ s) c.in-Some.ensures) (rw c.get.ensures b) in
          let g2 = operates S _ start _ (Int c.in-Some.m) (OfLocal x.field-1) x.op (erase c.get.result.now) x.at (is.or_else t) (is.and_then t) g1 in
          let w = c.evaluate_sent-came in
          let e1 = (w.ensures.came S names size st e (sub _ l right)).1 start (Then step ∷ waits) g2 in
          let v1 = given w.result w.new.self.value w.new.self.leave (sym c.is_left.ensures ∙ c.if-is_left.false) e1 in
          let o = c.operated_with-made.ensures in
          let number = operator_number S x.op in
          let z : to_z w64 (of_z w64 c.in-Some.m) ≡ c.in-Some.m = search rules in
          let y = c.operated_with-made in
          let d0 : OrMemory (outcome_of (deed w.new.self.context.program.now (Int (to_z w64 (of_z w64 c.in-Some.m))) (operator S x.op) (value_of w.result w.new.self.value ∷ []) None) x.at) (outcome y.result y.new.self.value y.new.self.leave) = o.gives (operator S x.op) number in
          let d = rw (z, w.ensures.stays.1, sym e) at d0 in
          let e2 = (calls S _ start _ _ (Int c.in-Some.m) (operator S x.op) (value_of w.result w.new.self.value ∷ []) x.at waits _ _ _ _ (none_plain S (Int c.in-Some.m) (operator S x.op) refl) d (on _ v1 refl)) in
          let g3 = given y.result y.new.self.value y.new.self.leave (sym c.is_left-in-Some.ensures ∙ c.if-is_left-2.false) e2 in
          let after : length names ≤ length w.new.room = omega (arith, len, w.ensures.stays.3) in
          rw (c.write.ensures.stays.2, c.write.ensures.stays.3, o.stays.2, o.stays.3) (assigned x.field-1 (WriteTo (OfLocal x.field-1) x.at) names x.slot w.new.room c.write.new.room (value_of y.result y.new.self.value) _ _ (updating x.at) after (fst _ _ s) c.write.ensures.written g3),
    )

pub begin_operate-returns-in-Some-clause-came : goal.begin_operate-returns-in-Some-clause-came
begin_operate-returns-in-Some-clause-came g m c = λ S names size st e l. (
  λ i p q. refl,
  λ start k a.
      let x = c.in-Operate in
      let s = sym (ap (λ d. fits S d names size) x.is ∙ fits-operate S names size x.method x.field-1 x.left x.right x.at) ∙ l.fits in
      let first = c.get-left.result.now in
      let second = c.get-right.result.now in
      let fl : fits S first names size ≡ true = rw c.get-left.ensures (fst _ _ (snd _ _ s)) in
      let fr : fits S second names size ≡ true = rw c.get-right.ensures (snd _ _ (snd _ _ s)) in
      let len : length names ≤ length c.args.room.now = omega (arith, l.within, l.below, l.room) in
      let is = c.in-Some.ensures in
      let o = c.answer.ensures in
      let number = same_is (builtin_of (text_of S x.field-1)) x.method (fst _ _ s) in
      let b = begins _ _ k _ _ _ (shows-operate c.args.code.now x.method x.field-1 x.left x.right x.at x.is) a in
      rw (o.gives, o.stays.2, o.stays.3, sym (is.4 S.program (text_of S x.field-1) number))
      (calls_pair S _ start _ _ k _ names size c.args.depth c.args.self.now.left c.args.room.now x.field-1 first second x.at (Int is.0) (Int is.1) _ (none_plain S (Int is.0) (text_of S x.field-1) refl) fl fr len c.if-self-gt1.true c.if-depth-lt-MAX_DEPTH.true is.2 is.3 (inl refl) (rw (c.get-left.ensures, c.get-right.ensures) b)),
)

pub begin_operate-returns-then-has_read-clause-came : goal.begin_operate-returns-then-has_read-clause-came
begin_operate-returns-then-has_read-clause-came g m c = c.begin_read_operate.ensures.came

pub begin_read_operate-returns-in_default-clause-came : goal.begin_read_operate-returns-in_default-clause-came
begin_read_operate-returns-in_default-clause-came g m c = λ S names size st e l. (λ i p q. refl, λ start k a. let o = c.over.ensures in no_arm S _ k _ _ _ o.gives o.stays.2 (ap g.O.ThreadStore.log o.stays.3) (ap g.O.ThreadStore.private o.stays.3) a)

pub begin_read_operate-returns-in-Some-clause-came : goal.begin_read_operate-returns-in-Some-clause-came
begin_read_operate-returns-in-Some-clause-came g m c = λ S names size st e l. (
  λ i p q. refl,
  λ start k a.
      let x = c.in-Operate in
      let s = sym (ap (λ d. fits S d names size) x.is ∙ fits-operate S names size x.method x.field-1 x.left x.right x.at) ∙ l.fits in
      let first = c.get-left.result.now in
      let second = c.get-right.result.now in
      let fl : fits S first names size ≡ true = rw c.get-left.ensures (fst _ _ (snd _ _ s)) in
      let fr : fits S second names size ≡ true = rw c.get-right.ensures (snd _ _ (snd _ _ s)) in
      let len : length names ≤ length c.args.room.now = omega (arith, l.within, l.below, l.room) in
      let is = c.in-Some.ensures in
      let o = c.answer.ensures in
      let number = same_is (builtin_of (text_of S x.field-1)) x.method (fst _ _ s) in
      let b = begins _ _ k _ _ _ (shows-operate c.args.code.now x.method x.field-1 x.left x.right x.at x.is) a in
      rw (o.gives, o.stays.2, o.stays.3, c.steps_of.ensures.exact, c.steps_of-in-Some.ensures.exact, sym (is.4 S.program (text_of S x.field-1) number))
      (calls_fetched S _ start c.args.self.now.context.script.now _ _ k _ names size c.args.depth c.args.self.now.left _ _ c.args.room.now x.field-1 first second x.at is.0 is.1 _ st fl fr len (rw c.steps_of.ensures.exact at c.steps_of.ensures.few) (omega (arith, c.if-self-gt6.true)) (omega (arith, c.if-depth.true)) is.2 is.3 (inl refl) (rw (c.get-left.ensures, c.get-right.ensures) b)),
)

pub begin_read_operate-returns-after-self-gt6-clause-came : goal.begin_read_operate-returns-after-self-gt6-clause-came
begin_read_operate-returns-after-self-gt6-clause-came g m c = c.begin_slow_operate.ensures.came

pub begin_operate-returns-then-is_object_at-clause-came : goal.begin_operate-returns-then-is_object_at-clause-came
begin_operate-returns-then-is_object_at-clause-came g m c = c.begin_object_operate.ensures.came

pub begin_object_operate-returns-in-Some-clause-came : goal.begin_object_operate-returns-in-Some-clause-came
begin_object_operate-returns-in-Some-clause-came g m c = λ S names size st e l.
    let x = c.in-Operate in
    let s = sym (ap (λ d. fits S d names size) x.is ∙ fits-operate S names size x.field-0 x.name x.left x.right x.at) ∙ l.fits in
    let fr : fits S c.get-right.result.now names size ≡ true = rw c.get-right.ensures (snd _ _ (snd _ _ s)) in (
      λ i p q. (c.operate_target.ensures.came S names size st e (sub _ l fr)).0 i p q,
      λ start k a.
          let fl : fits S c.get-left.result.now names size ≡ true = rw c.get-left.ensures (fst _ _ (snd _ _ s)) in
          let len : length names ≤ length c.args.room.now = omega (arith, l.within, l.below, l.room) in
          let b = begins _ _ k _ _ _ (shows-operate c.args.code.now x.field-0 x.name x.left x.right x.at x.is) a in
          let waits = Then (ReceiverOf (text_of S x.name) (erase c.get-right.result.now ∷ []) None x.at) ∷ k in
          let e1 = c.in-Some.ensures.held S _ names size c.args.depth c.args.self.now.left start _ _ waits (me_of c.args.self.now.context.me) fl len c.if-self-gt0.true c.if-depth-lt-MAX_DEPTH.true (rw (c.get-left.ensures, c.get-right.ensures) b) in
          (c.operate_target.ensures.came S names size st e (sub _ l fr)).1 start k (on _ (on _ e1 refl) refl),
    )

pub begin_slow_operate-returns-in-Some-held_alone-clause-came : goal.begin_slow_operate-returns-in-Some-held_alone-clause-came
begin_slow_operate-returns-in-Some-held_alone-clause-came g m c = λ S names size st e l. (
  λ i p q. refl,
  λ start k a.
      let x = c.in-Operate in
      let s = sym (ap (λ d. fits S d names size) x.is ∙ fits-operate S names size x.method x.name x.left x.right x.at) ∙ l.fits in
      let first = c.get-left.result.now in
      let second = c.get-right.result.now in
      let fl : fits S first names size ≡ true = rw c.get-left.ensures (fst _ _ (snd _ _ s)) in
      let fr : fits S second names size ≡ true = rw c.get-right.ensures (snd _ _ (snd _ _ s)) in
      let len : length names ≤ length c.args.room.now = omega (arith, l.within, l.below, l.room) in
      let vs = c.in-Some-held_alone.ensures in
      let o = c.call_held.ensures in
      let number = same_is (builtin_of (text_of S x.name)) x.method (fst _ _ s) in
      let given = rw (sym e, vs.1) at (o.gives (text_of S x.name) number) in
      let b = begins _ _ k _ _ _ (shows-operate c.args.code.now x.method x.name x.left x.right x.at x.is) a in
      rw (o.stays.2, o.stays.3)
      (calls_pair S _ start _ _ k _ names size c.args.depth c.args.self.now.left c.args.room.now x.name first second x.at (plain c.in-Some-held_at.receiver.now) vs.0 _ (none_plain S (plain c.in-Some-held_at.receiver.now) (text_of S x.name) c.in-Some-held_at.ensures.plain) fl fr len c.if-self-gt1.true c.if-depth-lt-MAX_DEPTH.true c.in-Some-held_at.ensures.held vs.2 given (rw (c.get-left.ensures, c.get-right.ensures) b)),
)

pub begin_slow_operate-returns-in-Some-local_target-clause-came : goal.begin_slow_operate-returns-in-Some-local_target-clause-came
begin_slow_operate-returns-in-Some-local_target-clause-came g m c = λ S names size st e l.
    let x = c.in-Operate in
    let s = sym (ap (λ d. fits S d names size) x.is ∙ fits-operate S names size x.method x.name x.left x.right x.at) ∙ l.fits in
    let fr : fits S c.get-right.result.now names size ≡ true = rw c.get-right.ensures (snd _ _ (snd _ _ s)) in (
      λ i p q. (c.operate_target.ensures.came S names size st e (sub _ l fr)).0 i p q,
      λ start k a.
          let fl : fits S c.get-left.result.now names size ≡ true = rw c.get-left.ensures (fst _ _ (snd _ _ s)) in
          let len : length names ≤ length c.args.room.now = omega (arith, l.within, l.below, l.room) in
          let more : 0 < c.args.self.now.left = omega (arith, c.if-self-gt1.true) in
          let b = begins _ _ k _ _ _ (shows-operate c.args.code.now x.method x.name x.left x.right x.at x.is) a in
          let waits = Then (ReceiverOf (text_of S x.name) (erase c.get-right.result.now ∷ []) None x.at) ∷ k in
          let e1 = c.in-Some-local_target.ensures.held S _ names size c.args.depth c.args.self.now.left start _ _ waits (me_of c.args.self.now.context.me) fl len more c.if-depth-lt-MAX_DEPTH.true (rw (c.get-left.ensures, c.get-right.ensures) b) in
          (c.operate_target.ensures.came S names size st e (sub _ l fr)).1 start k (on _ (on _ e1 refl) refl),
    )

pub begin_slow_operate-returns-after-self-gt1-clause-came : goal.begin_slow_operate-returns-after-self-gt1-clause-came
begin_slow_operate-returns-after-self-gt1-clause-came g m c = λ S names size st e l.
    let x = c.in-Operate in
    let s = sym (ap (λ d. fits S d names size) x.is ∙ fits-operate S names size x.method x.name x.left x.right x.at) ∙ l.fits in
    let under = sub _ l (rw (c.get-left.ensures, c.get-right.ensures) s) in (
      λ i p q. (c.operate.ensures.came S names size st e under).0 i p q,
      λ start k a. (c.operate.ensures.came S names size st e under).1 start k (rw (c.get-left.ensures, c.get-right.ensures) (begins _ _ k _ _ _ (shows-operate c.args.code.now x.method x.name x.left x.right x.at x.is) a)),
    )

pub begin_send-returns-then-is_object_at-clause-came : goal.begin_send-returns-then-is_object_at-clause-came
begin_send-returns-then-is_object_at-clause-came g m c = c.begin_read.ensures.came

pub read_attribute-returns-in-Some-clause-came : goal.read_attribute-returns-in-Some-clause-came
read_attribute-returns-in-Some-clause-came g m c = λ S names size st e l. (
  λ i p q. refl,
  λ start k a.
      let x = c.in-Send in
      let s = sym (ap (λ d. fits S d names size) x.is ∙ fits-send S names size x.method x.name x.receiver x.args x.at) ∙ l.fits in
      let right : fits S c.get-receiver.result.now names size ≡ true = rw c.get-receiver.ensures (fst _ _ (snd _ _ s)) in
      let len : length names ≤ length c.args.room.now = omega (arith, l.within, l.below, l.room) in
      let none : x.args ≡ [] = rw c.as_slice-args.ensures at c.in-Some.ensures.empty in
      let number = same_is (builtin_of (text_of S x.name)) x.method (fst _ _ s) in
      let b = same (begins _ _ k _ _ _ (shows-send c.args.code.now x.method x.name x.receiver x.args x.at x.is) a) (ap (λ args. On (Eval (erase x.receiver)) (Then (ReceiverOf (text_of S x.name) (map erase args) None x.at) ∷ k) (scope_of (me_of c.args.self.now.context.me) names c.args.room.now) c.args.depth c.args.self.now.left) none) in
      c.in-Some.ensures.came S start k names size st e number right len (rw c.get-receiver.ensures b),
)

pub read_attribute-returns-in-None-clause-came : goal.read_attribute-returns-in-None-clause-came
read_attribute-returns-in-None-clause-came g m c = rw (c.sent_reader.ensures.none c.in-None.is) at c.begin_slow_send.ensures.came

pub begin_read-returns-clause-came : goal.begin_read-returns-clause-came
begin_read-returns-clause-came g m c = c.read_attribute.ensures.came

pub begin_far_send-returns-in_default-clause-came : goal.begin_far_send-returns-in_default-clause-came
begin_far_send-returns-in_default-clause-came g m c = λ S names size st e l. (λ i p q. refl, λ start k a. let o = c.over.ensures in no_arm S _ k _ _ _ o.gives o.stays.2 (ap g.O.ThreadStore.log o.stays.3) (ap g.O.ThreadStore.private o.stays.3) a)

pub begin_far_send-returns-in-Send-clause-came : goal.begin_far_send-returns-in-Send-clause-came
begin_far_send-returns-in-Send-clause-came g m c = λ S names size st e l.
    let x = c.in-Send in
    let s = sym (ap (λ d. fits S d names size) x.is ∙ fits-send S names size x.method x.name x.receiver x.args x.at) ∙ l.fits in
    let under = sub _ l (rw (c.get-receiver.ensures, c.as_slice-args.ensures) s) in (
      λ i p q. (c.send.ensures.came S names size st e under).0 i p q,
      λ start k a. (c.send.ensures.came S names size st e under).1 start k (rw (c.get-receiver.ensures, c.as_slice-args.ensures) (begins _ _ k _ _ _ (shows-send c.args.code.now x.method x.name x.receiver x.args x.at x.is) a)),
    )

pub begin_slow_send-returns-in-Some-sent-clause-came : goal.begin_slow_send-returns-in-Some-sent-clause-came
begin_slow_send-returns-in-Some-sent-clause-came g m c = λ S names size st e l. (
  λ i p q. refl,
  λ start k a.
      let x = c.in-Send in
      let s = sym (ap (λ d. fits S d names size) x.is ∙ fits-send S names size x.method x.name x.receiver x.args x.at) ∙ l.fits in
      let right : fits S c.get-receiver.result.now names size ≡ true = rw c.get-receiver.ensures (fst _ _ (snd _ _ s)) in
      let len : length names ≤ length c.args.room.now = omega (arith, l.within, l.below, l.room) in
      let none : x.args ≡ [] = rw c.as_slice-args.ensures at c.in-Some-sent.ensures.empty in
      let number = same_is (builtin_of (text_of S x.name)) x.method (fst _ _ s) in
      let b = same (begins _ _ k _ _ _ (shows-send c.args.code.now x.method x.name x.receiver x.args x.at x.is) a) (ap (λ args. On (Eval (erase x.receiver)) (Then (ReceiverOf (text_of S x.name) (map erase args) None x.at) ∷ k) (scope_of (me_of c.args.self.now.context.me) names c.args.room.now) c.args.depth c.args.self.now.left) none) in
      c.in-Some-sent.ensures.came S start k names size st e number right len (rw c.get-receiver.ensures b),
)

pub begin_slow_send-returns-in-None-clause-came : goal.begin_slow_send-returns-in-None-clause-came
begin_slow_send-returns-in-None-clause-came g m c = rw (c.sent.ensures.none c.in-None.is) at c.begin_far_send.ensures.came

pub operate-returns-then-is_left-clause-came : goal.operate-returns-then-is_left-clause-came
operate-returns-then-is_left-clause-came g m c = λ S names size st e l. (
  λ i p q. (c.evaluate-came.ensures.came S names size st e (sub (fits S c.args.left.now) l (fst _ _ (snd _ _ l.fits)))).0 i p q,
  λ start k a.
      let w = c.evaluate-came in
      let e1 = (w.ensures.came S names size st e (sub (fits S c.args.left.now) l (fst _ _ (snd _ _ l.fits)))).1 start (Then (ReceiverOf (text_of S c.args.name) (erase c.args.right.now ∷ []) None c.args.at) ∷ k) a in
      passes S _ start _ w.result w.new.self.value w.new.self.leave _ (ReceiverOf (text_of S c.args.name) (erase c.args.right.now ∷ []) None c.args.at) k _ _ _ (sym c.is_left.ensures ∙ c.if-is_left.true) e1,
)

pub operate-returns-in-Int-clause-came : goal.operate-returns-in-Int-clause-came
operate-returns-in-Int-clause-came g m c = λ S names size st e l.
    let w = c.evaluate-came in
    let right = two _ (fits S c.args.right.now names size) (fst _ _ l.fits) (snd _ _ (snd _ _ l.fits)) in
    let under = moved _ _ w.ensures.stays.0 w.ensures.stays.3 (sub (numbered c.args.method c.args.name (λ S. fits S c.args.right.now) S) l right) in
    let f = rw w.ensures.stays.1 at c.operate_integer.ensures.came in (
      λ i p q. (f c.args.name S names size st e under).0 i p (omega (arith, q, w.ensures.stays.0)) ∙ (w.ensures.came S names size st e (sub (fits S c.args.left.now) l (fst _ _ (snd _ _ l.fits)))).0 i p q,
      λ start k a.
          let e1 = (w.ensures.came S names size st e (sub (fits S c.args.left.now) l (fst _ _ (snd _ _ l.fits)))).1 start (Then (ReceiverOf (text_of S c.args.name) (erase c.args.right.now ∷ []) None c.args.at) ∷ k) a in
          let g1 = given w.result w.new.self.value w.new.self.leave (sym c.is_left.ensures ∙ c.if-is_left.false) e1 in
          let z : to_z w64 (of_z w64 c.in-Int.m) ≡ c.in-Int.m = search rules in
          let m = to_z w64 (of_z w64 c.in-Int.m) in
          let v : value_of w.result w.new.self.value ≡ Int m = ap (λ r. value_of r w.new.self.value) c.in-Int.is ∙ ap Int (sym z) in
          let g2 = gives (Int m) v g1 in
          (f c.args.name S names size st e under).1 start k (on _ (on _ g2 refl) refl),
    )

pub operate-returns-in-None-clause-came : goal.operate-returns-in-None-clause-came
operate-returns-in-None-clause-came g m c = λ S names size st e l.
    let w = c.evaluate-came in
    let right = two _ (fits S c.args.right.now names size) (fst _ _ l.fits) (snd _ _ (snd _ _ l.fits)) in
    let under = moved _ _ w.ensures.stays.0 w.ensures.stays.3 (sub (numbered c.args.method c.args.name (λ S. fits S c.args.right.now) S) l right) in
    let f = rw w.ensures.stays.1 at c.operate_value.ensures.came in (
      λ i p q. (f S names size st e under).0 i p (omega (arith, q, w.ensures.stays.0)) ∙ (w.ensures.came S names size st e (sub (fits S c.args.left.now) l (fst _ _ (snd _ _ l.fits)))).0 i p q,
      λ start k a.
          let e1 = (w.ensures.came S names size st e (sub (fits S c.args.left.now) l (fst _ _ (snd _ _ l.fits)))).1 start (Then (ReceiverOf (text_of S c.args.name) (erase c.args.right.now ∷ []) None c.args.at) ∷ k) a in
          let g1 = given w.result w.new.self.value w.new.self.leave (sym c.is_left.ensures ∙ c.if-is_left.false) e1 in
          let g2 = g1 in
          (f S names size st e under).1 start k (on _ (on _ g2 refl) refl),
    )

pub operate_integer-returns-then-is_left-clause-came : goal.operate_integer-returns-then-is_left-clause-came
operate_integer-returns-then-is_left-clause-came g m c = λ name S names size st e l. (
  λ i p q. (c.evaluate-came.ensures.came S names size st e (sub (fits S c.args.right.now) l (snd _ _ l.fits))).0 i p q,
  λ start k a.
      let w = c.evaluate-came in
      let step = Argument (OnReceiver (Int c.args.m) (text_of S name) None) [] [] c.args.at in
      let come = (w.ensures.came S names size st e (sub (fits S c.args.right.now) l (snd _ _ l.fits))).1 start (Then step ∷ k) a in
      passes S _ start _ w.result w.new.self.value w.new.self.leave _ step k _ _ _ (sym c.is_left.ensures ∙ c.if-is_left.true) come,
)

pub operate_integer-returns-clause-came : goal.operate_integer-returns-clause-came
operate_integer-returns-clause-came g m c = λ name S names size st e l. (
  λ i p q. (c.evaluate-came.ensures.came S names size st e (sub (fits S c.args.right.now) l (snd _ _ l.fits))).0 i p q,
  λ start k a.
      let w = c.evaluate-came in
      let step = Argument (OnReceiver (Int c.args.m) (text_of S name) None) [] [] c.args.at in
      let come = (w.ensures.came S names size st e (sub (fits S c.args.right.now) l (snd _ _ l.fits))).1 start (Then step ∷ k) a in
      let none = sym c.is_left.ensures ∙ c.if-is_left.false in
      let g1 = given w.result w.new.self.value w.new.self.leave none come in
      let o = c.operated_by.ensures in
      let number = same_is (builtin_of (text_of S name)) c.args.method (fst _ _ l.fits) in
      let z : to_z w64 (of_z w64 c.args.m) ≡ c.args.m = search rules in
      let d0 : OrMemory (outcome_of (deed w.new.self.context.program.now (Int (to_z w64 (of_z w64 c.args.m))) (text_of S name) (value_of w.result w.new.self.value ∷ []) None) c.args.at) (outcome c.operated_by.result c.operated_by.new.self.value c.operated_by.new.self.leave) = o.gives (text_of S name) number in
      let d = rw (z, w.ensures.stays.1, sym e) at d0 in
      rw (o.stays.2, o.stays.3) (calls S _ start _ _ (Int c.args.m) (text_of S name) (value_of w.result w.new.self.value ∷ []) c.args.at k _ _ _ _ (none_plain S (Int c.args.m) (text_of S name) refl) d (on _ (on _ g1 refl) refl)),
)

pub operate_target-returns-then-is_left-clause-came : goal.operate_target-returns-then-is_left-clause-came
operate_target-returns-then-is_left-clause-came g m c = λ S names size st e l. (
  λ i p q. (c.evaluate-came.ensures.came S names size st e l).0 i p q,
  λ start k a.
      let w = c.evaluate-came in
      let step = Argument (OnReceiver (me_of (Some c.args.target.object)) (text_of S c.args.name) None) [] [] c.args.at in
      let come = (w.ensures.came S names size st e l).1 start (Then step ∷ k) a in
      passes S _ start _ w.result w.new.self.value w.new.self.leave _ step k _ _ _ (sym c.is_left.ensures ∙ c.if-is_left.true) come,
)

pub operate_target-returns-in-Some-clause-came : goal.operate_target-returns-in-Some-clause-came
operate_target-returns-in-Some-clause-came g m c = λ S names size st e l. (
  λ i p q. (c.evaluate-came.ensures.came S names size st e l).0 i p q,
  λ start k a.
      let w = c.evaluate-came in
      let to = me_of (Some c.args.target.object) in
      let x = value_of w.result w.new.self.value in
      let target = c.requires.target in
      let come = (w.ensures.came S names size st e l).1 start (Then (Argument (OnReceiver to (text_of S c.args.name) None) [] [] c.args.at) ∷ k) a in
      let g1 = given w.result w.new.self.value w.new.self.leave (sym c.is_left.ensures ∙ c.if-is_left.false) come in
      let g2 = same (on _ (on _ g1 refl) refl) (by_receiver S to to (text_of S c.args.name) (erase_method c.args.target.method.now) (x ∷ []) c.args.at k _ _ _ (target.finds S st) refl) in
      let z : to_z w64 (of_z w64 c.in-Some.sum) ≡ c.in-Some.sum = search rules in
      let f = rw w.ensures.stays.1 at c.in-Some.ensures.came in
      rw z (f w.new.self.value S start k (scope_of (me_of c.args.self.now.context.me) names w.new.room) c.args.at (target.right S st) g2),
)

pub operate_target-returns-then-self-room-clause-came : goal.operate_target-returns-then-self-room-clause-came
operate_target-returns-then-self-room-clause-came g m c = λ S names size st e l. (
  λ i p q. (c.evaluate-came.ensures.came S names size st e l).0 i p q,
  λ start k a.
      let w = c.evaluate-came in
      let y = c.entered_adding.ensures in
      let step = Argument (OnReceiver (me_of (Some c.args.target.object)) (text_of S c.args.name) None) [] [] c.args.at in
      let come = (w.ensures.came S names size st e l).1 start (Then step ∷ k) a in
      let g1 = given w.result w.new.self.value w.new.self.leave (sym c.is_left.ensures ∙ c.if-is_left.false) come in
      let o = c.over.ensures in
      rw (o.gives, o.stays.2, o.stays.3, y.log, y.still c.in_default.is, y.kept c.in_default.is) (_, g1, refl),
)

pub operate_target-returns-clause-came : goal.operate_target-returns-clause-came
operate_target-returns-clause-came g m c = λ S names size st e l.
    let w = c.evaluate-came in
    let y = c.entered_adding.ensures in
    let t = c.move_to.ensures in (
      λ i p q. c.enter.ensures.kept i (omega (arith, q, t.stays.0, y.stays.0, w.ensures.stays.0))
          ∙ (ap (λ r. slice_get r i) t.passed.2 ∙ (get_set w.new.room c.entered_adding.new.self.base i t.passed.0 (λ z. omega (arith, z, q, y.stays.0, w.ensures.stays.0)) ∙ (w.ensures.came S names size st e l).0 i p q)),
      λ start k a.
          let p = t.passed in
          let to = me_of (Some c.args.target.object) in
          let method = erase_method c.args.target.method.now in
          let x = value_of w.result w.new.self.value in
          let target = c.requires.target in
          let come = (w.ensures.came S names size st e l).1 start (Then (Argument (OnReceiver to (text_of S c.args.name) None) [] [] c.args.at) ∷ k) a in
          let g1 = given w.result w.new.self.value w.new.self.leave (sym c.is_left.ensures ∙ c.if-is_left.false) come in
          let g2 = same (on _ (on _ g1 refl) refl) (by_receiver S to to (text_of S c.args.name) method (x ∷ []) c.args.at k _ _ _ (target.finds S st) refl) in
          let is : plain p.0 ≡ x = p.1 ∙ ap (value_of w.result) y.value in
          let entered = same g2 (ap (λ v. enter S method to (v ∷ []) c.args.at k (scope_of (me_of c.args.self.now.context.me) names w.new.room) c.args.depth w.new.self.left) (sym is)) in
          let base = c.entered_adding.new.self.base in
          let below : length names ≤ base = omega (arith, l.within, l.below, y.stays.0, w.ensures.stays.0) in
          let within : base < length w.new.room = omega (arith, c.if-self-room.false) in
          let f = rw (t.stays.1, t.stays.2, t.stays.3, t.stays.0, y.stays.1, y.log, y.still c.in_default.is, y.kept c.in_default.is, w.ensures.stays.1, p.2) at c.enter.ensures.came in
          f S start k names st e (target.right S st) below (omega (arith, within, len_set w.new.room base p.0)) (placed method to c.args.at k _ _ (me_of c.args.self.now.context.me) names base w.new.room p.0 below within entered),
    )

pub store_target-returns-then-is_left-clause-came : goal.store_target-returns-then-is_left-clause-came
store_target-returns-then-is_left-clause-came g m c = λ S names size st e l. (
  λ i p q. (c.evaluate-came.ensures.came S names size st e l).0 i p q,
  λ start k a.
      let w = c.evaluate-came in
      let step = Argument (Storing (me_of (Some c.args.target.object)) (text_of S c.args.name)) [] [] c.args.at in
      let come = (w.ensures.came S names size st e l).1 start (Then step ∷ k) a in
      passes S _ start _ w.result w.new.self.value w.new.self.leave _ step k _ _ _ (sym c.is_left.ensures ∙ c.if-is_left.true) come,
)

pub store_target-returns-then-is_left-2-clause-came : goal.store_target-returns-then-is_left-2-clause-came
store_target-returns-then-is_left-2-clause-came g m c = λ S names size st e l. (
  λ i p q. (c.evaluate-came.ensures.came S names size st e l).0 i p q,
  λ start k a.
      let w = c.evaluate-came in
      let to = me_of (Some c.args.target.object) in
      let x = value_of w.result w.new.self.value in
      let target = c.requires.target in
      let come = (w.ensures.came S names size st e l).1 start (Then (Argument (Storing to (text_of S c.args.name)) [] [] c.args.at) ∷ k) a in
      let g1 = given w.result w.new.self.value w.new.self.leave (sym c.is_left.ensures ∙ c.if-is_left.false) come in
      let g2 = same (on _ (on _ g1 refl) refl) (by_receiver S to to (text_of S c.args.name) (erase_method c.args.target.method.now) (x ∷ []) c.args.at (Then (Instead x) ∷ k) _ _ _ (target.finds S st) refl) in
      let y = c.entered_writing in
      let f = rw w.ensures.stays.1 at c.in-Some.ensures.came in
      let done = f w.new.self.value S start (Then (Instead x) ∷ k) (scope_of (me_of c.args.self.now.context.me) names w.new.room) c.args.at (target.right S st) g2 in
      passes S _ start _ c.in-Some.done y.new.self.value y.new.self.leave _ (Instead x) k _ _ _ (sym c.is_left-in-Some.ensures ∙ c.if-is_left-2.true) done,
)

pub store_target-returns-in-Some-clause-came : goal.store_target-returns-in-Some-clause-came
store_target-returns-in-Some-clause-came g m c = λ S names size st e l. (
  λ i p q. (c.evaluate-came.ensures.came S names size st e l).0 i p q,
  λ start k a.
      let w = c.evaluate-came in
      let to = me_of (Some c.args.target.object) in
      let x = value_of w.result w.new.self.value in
      let target = c.requires.target in
      let come = (w.ensures.came S names size st e l).1 start (Then (Argument (Storing to (text_of S c.args.name)) [] [] c.args.at) ∷ k) a in
      let none = sym c.is_left.ensures ∙ c.if-is_left.false in
      let g1 = given w.result w.new.self.value w.new.self.leave none come in
      let g2 = same (on _ (on _ g1 refl) refl) (by_receiver S to to (text_of S c.args.name) (erase_method c.args.target.method.now) (x ∷ []) c.args.at (Then (Instead x) ∷ k) _ _ _ (target.finds S st) refl) in
      let y = c.entered_writing in
      let f = rw w.ensures.stays.1 at c.in-Some.ensures.came in
      let done = f w.new.self.value S start (Then (Instead x) ∷ k) (scope_of (me_of c.args.self.now.context.me) names w.new.room) c.args.at (target.right S st) g2 in
      let g3 = given c.in-Some.done y.new.self.value y.new.self.leave (sym c.is_left-in-Some.ensures ∙ c.if-is_left-2.false) done in
      comes S _ start _ _ k _ _ _ _ _ (gave w.result y.new.self.value y.new.self.leave none ∙ ap Gave (c.in-Some.ensures.integer y.new.self.value w.new.self.value)) (on _ g3 refl),
)

pub store_target-returns-then-self-room-clause-came : goal.store_target-returns-then-self-room-clause-came
store_target-returns-then-self-room-clause-came g m c = λ S names size st e l. (
  λ i p q. (c.evaluate-came.ensures.came S names size st e l).0 i p q,
  λ start k a.
      let w = c.evaluate-came in
      let step = Argument (Storing (me_of (Some c.args.target.object)) (text_of S c.args.name)) [] [] c.args.at in
      let come = (w.ensures.came S names size st e l).1 start (Then step ∷ k) a in
      let g1 = given w.result w.new.self.value w.new.self.leave (sym c.is_left.ensures ∙ c.if-is_left.false) come in
      let o = c.over.ensures in
      rw (o.gives, o.stays.2, o.stays.3, c.entered_giving.ensures.none c.in_default-entered_giving.is, c.entered_writing.ensures.none c.in_default.is) (_, g1, refl),
)

pub store_target-returns-clause-came : goal.store_target-returns-clause-came
store_target-returns-clause-came g m c = λ S names size st e l.
    let w = c.evaluate-came in
    let t = c.move_to.ensures in (
      λ i p q.
          let y = c.entered_writing.ensures in
          let z = c.entered_giving.ensures in
          c.store_with.ensures.kept i (omega (arith, q, t.stays.0, z.stays.0, y.stays.0, w.ensures.stays.0))
          ∙ (ap (λ r. slice_get r i) t.passed.2 ∙ (get_set w.new.room c.entered_giving.new.self.base i t.passed.0 (λ s. omega (arith, s, q, z.stays.0, y.stays.0, w.ensures.stays.0)) ∙ (w.ensures.came S names size st e l).0 i p q)),
      λ start k a.
          let n = c.entered_giving.ensures.none c.in_default-entered_giving.is ∙ c.entered_writing.ensures.none c.in_default.is in
          let p = t.passed in
          let held = rw n at p.1 in
          let written = rw n at p.2 in
          let to = me_of (Some c.args.target.object) in
          let method = erase_method c.args.target.method.now in
          let x = value_of w.result w.new.self.value in
          let target = c.requires.target in
          let come = (w.ensures.came S names size st e l).1 start (Then (Argument (Storing to (text_of S c.args.name)) [] [] c.args.at) ∷ k) a in
          let g1 = given w.result w.new.self.value w.new.self.leave (sym c.is_left.ensures ∙ c.if-is_left.false) come in
          let g2 = same (on _ (on _ g1 refl) refl) (by_receiver S to to (text_of S c.args.name) method (x ∷ []) c.args.at (Then (Instead x) ∷ k) _ _ _ (target.finds S st) refl) in
          let entered = same g2 (ap (λ v. enter S method to (v ∷ []) c.args.at (Then (Instead v) ∷ k) (scope_of (me_of c.args.self.now.context.me) names w.new.room) c.args.depth w.new.self.left) (sym held)) in
          let base = w.new.self.base in
          let below : length names ≤ base = omega (arith, l.within, l.below, w.ensures.stays.0) in
          let within : base < length w.new.room = omega (arith, c.if-self-room.false, c.entered_giving.ensures.stays.0, c.entered_writing.ensures.stays.0) in
          let f = rw (t.stays.1, t.stays.2, t.stays.3, t.stays.0, n, w.ensures.stays.1, written) at c.store_with.ensures.came in
          f S start k names st e (target.right S st) below (omega (arith, within, len_set w.new.room base p.0)) (placed_last method to c.args.at k _ _ (me_of c.args.self.now.context.me) names base w.new.room p.0 below within entered),
    )

pub operate_value-returns-then-is_left-clause-came : goal.operate_value-returns-then-is_left-clause-came
operate_value-returns-then-is_left-clause-came g m c = λ S names size st e l.
    let t = c.take-receiver in
    let w = c.walk-came in
    let under = moved _ _ t.ensures.stays.0 refl (sub (fits S c.args.right.now) l (snd _ _ l.fits)) in (
      λ i p q.
          let f = rw t.ensures.stays.1 at w.ensures.came in
          (f S names size st e under).0 i p (omega (arith, q, t.ensures.stays.0)),
      λ start k a.
          let step = Argument (OnReceiver (value_of c.args.came c.args.self.now.value) (text_of S c.args.name) None) [] [] c.args.at in
          let f = rw (t.ensures.stays.1, t.ensures.stays.2, t.ensures.stays.3) at w.ensures.came in
          let come = (f S names size st e under).1 start (Then step ∷ k) a in
          passes S _ start _ w.result w.new.self.value w.new.self.leave _ step k _ _ _ (sym c.is_left.ensures ∙ c.if-is_left.true) come,
    )

pub operate_value-returns-clause-came : goal.operate_value-returns-clause-came
operate_value-returns-clause-came g m c = λ S names size st e l.
    let t = c.take-receiver in
    let w = c.walk-came in
    let under = moved _ _ t.ensures.stays.0 refl (sub (fits S c.args.right.now) l (snd _ _ l.fits)) in (
      λ i p q.
          let f = rw t.ensures.stays.1 at w.ensures.came in
          (f S names size st e under).0 i p (omega (arith, q, t.ensures.stays.0)),
      λ start k a.
          let first = value_of c.args.came c.args.self.now.value in
          let step = Argument (OnReceiver (value_of c.args.came c.args.self.now.value) (text_of S c.args.name) None) [] [] c.args.at in
          let f = rw (t.ensures.stays.1, t.ensures.stays.2, t.ensures.stays.3) at w.ensures.came in
          let come = (f S names size st e under).1 start (Then step ∷ k) a in
          let g1 = given w.result w.new.self.value w.new.self.leave (sym c.is_left.ensures ∙ c.if-is_left.false) come in
          let y = c.take-arg in
          let o = c.call_with.ensures in
          let number = same_is (builtin_of (text_of S c.args.name)) c.args.method (fst _ _ l.fits) in
          let f1 = rw (y.ensures.stays.1, w.ensures.stays.1, t.ensures.stays.1, t.ensures.value, y.ensures.value, y.ensures.stays.2, y.ensures.stays.3) at o.came in
          let none = (rw (y.ensures.stays.1, w.ensures.stays.1, t.ensures.stays.1, t.ensures.value) at (c.target_of.ensures.none c.in-None.is)) S st in
          calls_builtin S _ start _ _ _ _ _ _ _ _ _ _ c.args.self.now.context.program.now c.args.method first (text_of S c.args.name) (value_of w.result w.new.self.value ∷ []) c.args.at none number e f1 (on _ (on _ g1 refl) refl),
    )

pub combine-returns-in-Int-clause-came : goal.combine-returns-in-Int-clause-came
combine-returns-in-Int-clause-came g m c = λ S names size st e l. (
  (c.combine_integer.ensures.came S names size st e l).0,
  λ start k a.
      let z : to_z w64 (of_z w64 c.in-Int.m) ≡ c.in-Int.m = search rules in
      let v : value_of c.args.current c.args.self.now.value ≡ Int (to_z w64 (of_z w64 c.in-Int.m)) = ap (λ r. value_of r c.args.self.now.value) c.in-Int.is ∙ ap Int (sym z) in
      (c.combine_integer.ensures.came S names size st e l).1 start k (same a (ap (λ v. On (Eval (erase c.args.value.now)) (Then (RightOf v c.args.op c.args.at) ∷ k) (scope_of (me_of c.args.self.now.context.me) names c.args.room.now) c.args.depth c.args.self.now.left) v)),
)

pub combine-returns-in_default-clause-came : goal.combine-returns-in_default-clause-came
combine-returns-in_default-clause-came g m c = c.combine_value.ensures.came

pub combine_integer-returns-then-is_left-clause-came : goal.combine_integer-returns-then-is_left-clause-came
combine_integer-returns-then-is_left-clause-came g m c = λ S names size st e l. (
  (c.evaluate-came.ensures.came S names size st e l).0,
  λ start k a.
      let w = c.evaluate-came in
      let step = RightOf (Int c.args.m) c.args.op c.args.at in
      let come = (w.ensures.came S names size st e l).1 start (Then step ∷ k) a in
      passes S _ start _ w.result w.new.self.value w.new.self.leave _ step k _ _ _ (sym c.is_left.ensures ∙ c.if-is_left.true) come,
)

pub combine_integer-returns-clause-came : goal.combine_integer-returns-clause-came
combine_integer-returns-clause-came g m c = λ S names size st e l. (
  (c.evaluate-came.ensures.came S names size st e l).0,
  λ start k a.
      let w = c.evaluate-came in
      let step = RightOf (Int c.args.m) c.args.op c.args.at in
      let come = (w.ensures.came S names size st e l).1 start (Then step ∷ k) a in
      let none = sym c.is_left.ensures ∙ c.if-is_left.false in
      let g1 = given w.result w.new.self.value w.new.self.leave none come in
      let o = c.operated_by.ensures in
      let number = operator_number S c.args.op ∙ sym c.method_of.ensures in
      let z : to_z w64 (of_z w64 c.args.m) ≡ c.args.m = search rules in
      let d0 : OrMemory (outcome_of (deed w.new.self.context.program.now (Int (to_z w64 (of_z w64 c.args.m))) (operator S c.args.op) (value_of w.result w.new.self.value ∷ []) None) c.args.at) (outcome c.operated_by.result c.operated_by.new.self.value c.operated_by.new.self.leave) = o.gives (operator S c.args.op) number in
      let d = rw (z, w.ensures.stays.1, sym e) at d0 in
      rw (o.stays.2, o.stays.3) (calls S _ start _ _ (Int c.args.m) (operator S c.args.op) (value_of w.result w.new.self.value ∷ []) c.args.at k _ _ _ _ (none_plain S (Int c.args.m) (operator S c.args.op) refl) d (on _ g1 refl)),
)

pub combine_value-returns-then-is_left-clause-came : goal.combine_value-returns-then-is_left-clause-came
combine_value-returns-then-is_left-clause-came g m c = λ S names size st e l.
    let t = c.take-receiver in
    let w = c.walk-came in
    let under = moved _ _ t.ensures.stays.0 refl (sub (fits S c.args.value.now) l l.fits) in (
      λ i p q.
          let f = rw t.ensures.stays.1 at w.ensures.came in
          (f S names size st e under).0 i p (omega (arith, q, t.ensures.stays.0)),
      λ start k a.
          let f = rw (t.ensures.stays.1, t.ensures.stays.2, t.ensures.stays.3) at w.ensures.came in
          let e1 = (f S names size st e under).1 start (Then (RightOf (value_of c.args.current c.args.self.now.value) c.args.op c.args.at) ∷ k) a in
          passes S _ start _ w.result w.new.self.value w.new.self.leave _ (RightOf (value_of c.args.current c.args.self.now.value) c.args.op c.args.at) k _ _ _ (sym c.is_left.ensures ∙ c.if-is_left.true) e1,
    )

pub combine_value-returns-clause-came : goal.combine_value-returns-clause-came
combine_value-returns-clause-came g m c = λ S names size st e l.
    let t = c.take-receiver in
    let w = c.walk-came in
    let under = moved _ _ t.ensures.stays.0 refl (sub (fits S c.args.value.now) l l.fits) in (
      λ i p q.
          let f = rw t.ensures.stays.1 at w.ensures.came in
          (f S names size st e under).0 i p (omega (arith, q, t.ensures.stays.0)),
      λ start k a.
          let f = rw (t.ensures.stays.1, t.ensures.stays.2, t.ensures.stays.3) at w.ensures.came in
          let e1 = (f S names size st e under).1 start (Then (RightOf (value_of c.args.current c.args.self.now.value) c.args.op c.args.at) ∷ k) a in
          let g1 = given w.result w.new.self.value w.new.self.leave (sym c.is_left.ensures ∙ c.if-is_left.false) e1 in
          let y = c.take-arg in
          let o = c.call_with.ensures in
          let v = value_of c.args.current c.args.self.now.value in
          let number = operator_number S c.args.op ∙ sym c.method_of-method.ensures in
          let f1 = rw (y.ensures.stays.1, w.ensures.stays.1, t.ensures.stays.1, t.ensures.value, y.ensures.value, y.ensures.stays.2, y.ensures.stays.3) at o.came in
          calls_builtin S _ start _ _ _ _ _ _ _ _ _ _ c.args.self.now.context.program.now c.method_of-method.result v (operator S c.args.op) (value_of w.result w.new.self.value ∷ []) c.args.at (update_none c.args.self.now.context.script.now S st v c.args.op) number e f1 (on _ g1 refl),
    )

pub arguments-each-preserved : goal.arguments-each-preserved
arguments-each-preserved g m c =
    let same : Alike c.if-self-room.self c.each.self = elim c.if-self-room.branch [
      | arguments-then-self-room+then-self-gt0+then-depth-lt-MAX_DEPTH+in_default+in_default-local_at x ↦ alike _ _ x.self-is
      | arguments-then-self-room+then-self-gt0+then-depth-lt-MAX_DEPTH+in_default+in-Some-local_at+in_default-share x ↦ alike _ _ x.self-is
      | arguments-else-self-room x ↦ alike _ _ x.self-is
    ] in
    let w = c.evaluate_call-came.ensures in
    let edge = rw same.0 at w.stays.0 in
    let fewer = rw same.2 at w.stays.2 in
    let t = c.move_to.ensures in
    let p = t.passed in
    let old = c.each.invariant in
    let long : length c.move_to.new.room ≡ length c.evaluate_call-came.new.room = ap length p.2 ∙ len_set c.evaluate_call-came.new.room c.evaluate_call-came.new.self.base p.0 in
    record {
      base = omega (arith, t.stays.0, edge, old.base);
      bound = λ r. omega (arith, long, t.stays.0, c.if-self-room-2.false);
      context = t.stays.1 ∙ ((rw same.1 at w.stays.1) ∙ old.context);
      room = long ∙ (w.stays.3 ∙ old.room);
      less = omega (arith, t.stays.2, fewer, old.less);
      kept = λ S names size st e l i p q.
          let loop = c.each in
          let inv = loop.invariant in
          let w = c.evaluate_call-came in
          let right = every_item S _ _ c.arg-item.result names size c.each-test.true c.arg-item.is l.fits in
          let under = lies (fits S c.arg-item.result) names size loop.self.base (length loop.room) right l.within (omega (arith, l.below, inv.base)) (inv.bound l.room) in
          let f = rw (same.0, same.1, same.2, same.3, inv.context) at w.ensures.came in
          ap (λ r. slice_get r i) t.passed.2 ∙ (get_set w.new.room w.new.self.base i _ (λ z. omega (arith, z, q, edge, inv.base)) ∙ ((f S names size st e under).0 i p (omega (arith, q, inv.base)) ∙ inv.kept S names size st e l i p q));
      came = λ aim at S start k names size st e l a.
          let loop = c.each in
          let inv = loop.invariant in
          let w = c.evaluate_call-came in
          let right = every_item S _ _ c.arg-item.result names size c.each-test.true c.arg-item.is l.fits in
          let under = lies (fits S c.arg-item.result) names size loop.self.base (length loop.room) right l.within (omega (arith, l.below, inv.base)) (inv.bound l.room) in
          let item = next_item _ _ c.arg-item.result c.each-test.true c.arg-item.is in
          let rest = map erase (drop (loop.arg-index + 1) c.args.args.now) in
          let step = Argument aim (map plain (take loop.arg-index (drop c.args.self.now.base loop.room))) rest at in
          let h1 = on _ (passing _ (sym (ap (map erase) item)) (inv.came aim at S start k names size st e l a)) refl in
          let f = rw (same.0, same.1, same.2, same.3, inv.context) at w.ensures.came in
          let come = (f S names size st e under).1 start (Then step ∷ k) h1 in
          let v = value_of w.result w.new.self.value in
          let base = c.args.self.now.base in
          let spot : w.new.self.base ≡ base + loop.arg-index = edge ∙ inv.base in
          let within : base + loop.arg-index < length w.new.room = omega (arith, edge, inv.base, c.if-self-room-2.false) in
          let f2 = rw (same.0, same.1, same.2, same.3, inv.context) at w.ensures.came in
          let g1 = given w.result w.new.self.value w.new.self.leave (sym c.is_left.ensures ∙ c.if-is_left.false) come in
          rw (t.stays.2, t.stays.3, t.passed.2, spot) (joined (me_of c.args.self.now.context.me) names base loop.arg-index loop.room w.new.room t.passed.0 v t.passed.1 (omega (arith, l.within, l.below)) within (λ j q. (f2 S names size st e under).0 (base + j) (omega (arith, l.below)) (omega (arith, q, inv.base))) g1);
    }

pub evaluate-returns-in-Some-clause-came : goal.evaluate-returns-in-Some-clause-came
evaluate-returns-in-Some-clause-came g m c = λ S names size st e l. (
  λ i p q. refl,
  λ start k a.
      let len : length names ≤ length c.args.room.now = omega (arith, l.within, l.below, l.room) in
      let z : to_z w64 (of_z w64 c.in-Some.n) ≡ c.in-Some.n = search rules in
      rw z (c.in-Some.ensures S _ names size c.args.depth c.args.self.now.left start _ _ k _ l.fits len c.if-self-gt0.true c.if-depth-lt-MAX_DEPTH.true a),
)

pub evaluate_leaf-returns-in-Some-clause-came : goal.evaluate_leaf-returns-in-Some-clause-came
evaluate_leaf-returns-in-Some-clause-came g m c = λ S names size st e l. (
  λ i p q. refl,
  λ start k a.
      let len : length names ≤ length c.args.room.now = omega (arith, l.within, l.below, l.room) in
      let z : to_z w64 (of_z w64 c.in-Some.n) ≡ c.in-Some.n = search rules in
      rw z (c.in-Some.ensures S _ names size c.args.depth c.args.self.now.left start _ _ k _ l.fits len c.if-self-gt0.true c.if-depth-lt-MAX_DEPTH.true a),
)

pub evaluate_leaf-returns-clause-came : goal.evaluate_leaf-returns-clause-came
evaluate_leaf-returns-clause-came g m c = c.evaluate_apart.ensures.came

pub evaluate_apart-returns-clause-came : goal.evaluate_apart-returns-clause-came
evaluate_apart-returns-clause-came g m c = c.evaluate_call.ensures.came

pub walk-returns-clause-came : goal.walk-returns-clause-came
walk-returns-clause-came g m c = c.walk_here.ensures.came

pub literal-returns-in-Some-clause-came : goal.literal-returns-in-Some-clause-came
literal-returns-in-Some-clause-came g m c = λ S names size st e l. (
  λ i p q. refl,
  λ start k a.
      let o = c.share_text.ensures in
      rw (o.stays.2, o.stays.3) (whole_text S _ start _ _ c.in-Some.text.now c.args.pieces.now c.args.at k _ _ _ _ c.in-Some.ensures o.gives a),
)

pub literal-returns-in-None-clause-came : goal.literal-returns-in-None-clause-came
literal-returns-in-None-clause-came g m c = c.text.ensures.came

pub evaluate_call-returns-in-Some-clause-came : goal.evaluate_call-returns-in-Some-clause-came
evaluate_call-returns-in-Some-clause-came g m c = λ S names size st e l. (
  λ i p q. refl,
  λ start k a.
      let x = c.in-Operate in
      let s = sym (ap (λ d. fits S d names size) x.is ∙ fits-operate S names size x.method x.field-1 x.left x.right x.at) ∙ l.fits in
      let first = c.get-left.result.now in
      let second = c.get-right.result.now in
      let fl : fits S first names size ≡ true = rw c.get-left.ensures (fst _ _ (snd _ _ s)) in
      let fr : fits S second names size ≡ true = rw c.get-right.ensures (snd _ _ (snd _ _ s)) in
      let len : length names ≤ length c.args.room.now = omega (arith, l.within, l.below, l.room) in
      let is = c.in-Some.ensures in
      let o = c.answer.ensures in
      let number = same_is (builtin_of (text_of S x.field-1)) x.method (fst _ _ s) in
      let inside = Under c.args.depth ∷ k in
      let b = begins _ _ inside _ _ _ (shows-operate c.args.code.now x.method x.field-1 x.left x.right x.at x.is) (counts (omega (arith, c.if-self-gt6.true)) (omega (arith, c.if-depth.true)) a) in
      let thrice : c.args.self.now.left - 3 ≡ c.args.self.now.left - 1 - 2 = omega arith in
      rw (o.gives, o.stays.2, o.stays.3, sym (is.4 S.program (text_of S x.field-1) number), thrice)
      (left S _ start _ _ _ k _ _ _ _ (calls_pair S _ start _ _ inside _ names size (c.args.depth + 1) (c.args.self.now.left - 1) c.args.room.now x.field-1 first second x.at (Int is.0) (Int is.1) _ (none_plain S (Int is.0) (text_of S x.field-1) refl) fl fr len (omega (arith, c.if-self-gt6.true)) (omega (arith, c.if-depth.true)) is.2 is.3 (inl refl) (rw (c.get-left.ensures, c.get-right.ensures) b))),
)

pub evaluate_call-returns-in-Some-quick_twice-clause-came : goal.evaluate_call-returns-in-Some-quick_twice-clause-came
evaluate_call-returns-in-Some-quick_twice-clause-came g m c = λ S names size st e l. (
  λ i p q. refl,
  λ start k a.
      let x = c.in-Operate in
      let s = sym (ap (λ d. fits S d names size) x.is ∙ fits-operate S names size x.method x.field-1 x.left x.right x.at) ∙ l.fits in
      let first = c.get-left.result.now in
      let second = c.get-right.result.now in
      let fl : fits S first names size ≡ true = rw c.get-left.ensures (fst _ _ (snd _ _ s)) in
      let fr : fits S second names size ≡ true = rw c.get-right.ensures (snd _ _ (snd _ _ s)) in
      let len : length names ≤ length c.args.room.now = omega (arith, l.within, l.below, l.room) in
      let is = c.in-Some-quick_twice.ensures in
      let o = c.answer-in-Some-quick_twice.ensures in
      let number = same_is (builtin_of (text_of S x.field-1)) x.method (fst _ _ s) in
      let inside = Under c.args.depth ∷ k in
      let b = begins _ _ inside _ _ _ (shows-operate c.args.code.now x.method x.field-1 x.left x.right x.at x.is) (counts (omega (arith, c.if-self-gt6.true)) (omega (arith, c.if-depth.true)) a) in
      let fifth : c.args.self.now.left - 5 ≡ c.args.self.now.left - 1 - 4 = omega arith in
      rw (o.gives, o.stays.2, o.stays.3, sym (is.4 S.program (text_of S x.field-1) number), fifth)
      (left S _ start _ _ _ k _ _ _ _ (calls_twice S _ start _ _ inside _ names size (c.args.depth + 1) (c.args.self.now.left - 1) c.args.room.now x.field-1 first second x.at is.0 (Int is.1) _ fl fr len (omega (arith, c.if-self-gt6.true)) (omega (arith, c.if-depth.true)) is.2 is.3 (inl refl) (rw (c.get-left.ensures, c.get-right.ensures) b))),
)

pub evaluate_call-returns-then-has_read-clause-came : goal.evaluate_call-returns-then-has_read-clause-came
evaluate_call-returns-then-has_read-clause-came g m c = λ S names size st e l. (
  (c.begin_read_operate.ensures.came S names size st e l).0,
  λ start k a. left S _ start _ _ _ k _ _ _ _ ((c.begin_read_operate.ensures.came S names size st e l).1 start (Under c.args.depth ∷ k) (counts (omega (arith, c.if-self-gt6.true)) (omega (arith, c.if-depth.true)) a)),
)

pub evaluate_call-returns-then-depth-clause-came : goal.evaluate_call-returns-then-depth-clause-came
evaluate_call-returns-then-depth-clause-came g m c = λ S names size st e l. (
  (c.begin_slow_operate.ensures.came S names size st e l).0,
  λ start k a. left S _ start _ _ _ k _ _ _ _ ((c.begin_slow_operate.ensures.came S names size st e l).1 start (Under c.args.depth ∷ k) (counts (omega (arith, c.if-self-gt6.true)) (omega (arith, c.if-depth.true)) a)),
)

pub evaluate_call-returns-then-depth-lt-MAX_DEPTH-clause-came : goal.evaluate_call-returns-then-depth-lt-MAX_DEPTH-clause-came
evaluate_call-returns-then-depth-lt-MAX_DEPTH-clause-came g m c = λ S names size st e l. (
  (c.begin_function.ensures.came S names size st e l).0,
  λ start k a. left S _ start _ _ _ k _ _ _ _ ((c.begin_function.ensures.came S names size st e l).1 start (Under c.args.depth ∷ k) (counts c.if-self-gt0.true c.if-depth-lt-MAX_DEPTH.true a)),
)

pub evaluate_call-returns-else-self-gt6-clause-came : goal.evaluate_call-returns-else-self-gt6-clause-came
evaluate_call-returns-else-self-gt6-clause-came g m c = c.walk.ensures.came

pub evaluate_call-returns-else-self-gt0-clause-came : goal.evaluate_call-returns-else-self-gt0-clause-came
evaluate_call-returns-else-self-gt0-clause-came g m c = c.walk-in-Function.ensures.came

pub evaluate_call-returns-then-is_leaf-clause-came : goal.evaluate_call-returns-then-is_leaf-clause-came
evaluate_call-returns-then-is_leaf-clause-came g m c = λ S names size st e l. (
  (c.begin_read.ensures.came S names size st e l).0,
  λ start k a. left S _ start _ _ _ k _ _ _ _ ((c.begin_read.ensures.came S names size st e l).1 start (Under c.args.depth ∷ k) (counts c.if-self-gt0-2.true c.if-depth-lt-MAX_DEPTH-2.true a)),
)

pub evaluate_call-returns-then-depth-lt-MAX_DEPTH-2-clause-came : goal.evaluate_call-returns-then-depth-lt-MAX_DEPTH-2-clause-came
evaluate_call-returns-then-depth-lt-MAX_DEPTH-2-clause-came g m c = λ S names size st e l. (
  (c.begin_far_send.ensures.came S names size st e l).0,
  λ start k a. left S _ start _ _ _ k _ _ _ _ ((c.begin_far_send.ensures.came S names size st e l).1 start (Under c.args.depth ∷ k) (counts c.if-self-gt0-2.true c.if-depth-lt-MAX_DEPTH-2.true a)),
)

pub evaluate_call-returns-else-self-gt0-2-clause-came : goal.evaluate_call-returns-else-self-gt0-2-clause-came
evaluate_call-returns-else-self-gt0-2-clause-came g m c = c.walk-in-Send.ensures.came

pub evaluate_call-returns-then-depth-lt-MAX_DEPTH-3-clause-came : goal.evaluate_call-returns-then-depth-lt-MAX_DEPTH-3-clause-came
evaluate_call-returns-then-depth-lt-MAX_DEPTH-3-clause-came g m c = λ S names size st e l. (
  λ i p q. refl,
  λ start k a.
      let o = c.field_apart.ensures in
      let b = begins _ _ (Under c.args.depth ∷ k) _ _ _ (shows-field c.args.code.now c.in-Field.name c.in-Field.at c.in-Field.is) (counts c.if-self-gt0-3.true c.if-depth-lt-MAX_DEPTH-3.true a) in
      rw o.stays.2 (left S _ start _ _ _ k _ _ _ _ (o.came S start (Under c.args.depth ∷ k) _ (c.args.depth + 1) b)),
)

pub evaluate_call-returns-else-self-gt0-3-clause-came : goal.evaluate_call-returns-else-self-gt0-3-clause-came
evaluate_call-returns-else-self-gt0-3-clause-came g m c = c.walk-in-Field.ensures.came

pub evaluate_call-returns-in-Local-clause-came : goal.evaluate_call-returns-in-Local-clause-came
evaluate_call-returns-in-Local-clause-came g m c = c.evaluate_operand.ensures.came

pub evaluate_call-returns-in-False-clause-came : goal.evaluate_call-returns-in-False-clause-came
evaluate_call-returns-in-False-clause-came g m c = c.evaluate_operand-in-False.ensures.came

pub evaluate_call-returns-in-True-clause-came : goal.evaluate_call-returns-in-True-clause-came
evaluate_call-returns-in-True-clause-came g m c = c.evaluate_operand-in-True.ensures.came

pub evaluate_call-returns-in-And-clause-came : goal.evaluate_call-returns-in-And-clause-came
evaluate_call-returns-in-And-clause-came g m c = c.evaluate_logic.ensures.came

pub evaluate_call-returns-in-Or-clause-came : goal.evaluate_call-returns-in-Or-clause-came
evaluate_call-returns-in-Or-clause-came g m c = c.evaluate_logic-in-Or.ensures.came

pub evaluate_call-returns-in-Not-clause-came : goal.evaluate_call-returns-in-Not-clause-came
evaluate_call-returns-in-Not-clause-came g m c = c.evaluate_logic-in-Not.ensures.came

pub evaluate_logic-returns-then-depth-lt-MAX_DEPTH-clause-came : goal.evaluate_logic-returns-then-depth-lt-MAX_DEPTH-clause-came
evaluate_logic-returns-then-depth-lt-MAX_DEPTH-clause-came g m c = λ S names size st e l. (
  (c.begin_logic.ensures.came S names size st e l).0,
  λ start k a. left S _ start _ _ _ k _ _ _ _ ((c.begin_logic.ensures.came S names size st e l).1 start (Under c.args.depth ∷ k) (counts c.if-self-gt0.true c.if-depth-lt-MAX_DEPTH.true a)),
)

pub evaluate_operand-returns-then-depth-lt-MAX_DEPTH-clause-came : goal.evaluate_operand-returns-then-depth-lt-MAX_DEPTH-clause-came
evaluate_operand-returns-then-depth-lt-MAX_DEPTH-clause-came g m c = λ S names size st e l. (
  (c.begin_operand.ensures.came S names size st e l).0,
  λ start k a. left S _ start _ _ _ k _ _ _ _ ((c.begin_operand.ensures.came S names size st e l).1 start (Under c.args.depth ∷ k) (counts c.if-self-gt0.true c.if-depth-lt-MAX_DEPTH.true a)),
)

pub evaluate_sent-returns-then-depth-lt-MAX_DEPTH-clause-came : goal.evaluate_sent-returns-then-depth-lt-MAX_DEPTH-clause-came
evaluate_sent-returns-then-depth-lt-MAX_DEPTH-clause-came g m c = λ S names size st e l. (
  (c.read_attribute.ensures.came S names size st e l).0,
  λ start k a. left S _ start _ _ _ k _ _ _ _ ((c.read_attribute.ensures.came S names size st e l).1 start (Under c.args.depth ∷ k) (counts c.if-self-gt0.true c.if-depth-lt-MAX_DEPTH.true a)),
)

pub begin_operand-returns-in-Field-clause-came : goal.begin_operand-returns-in-Field-clause-came
begin_operand-returns-in-Field-clause-came g m c = λ S names size st e l. (
  λ i p q. refl,
  λ start k a.
      let o = c.field_apart.ensures in
      rw o.stays.2 (o.came S start k _ c.args.depth (begins _ _ k _ _ _ (shows-field c.args.code.now c.in-Field.name c.in-Field.at c.in-Field.is) a)),
)

pub begin_operand-returns-in-Local-clause-came : goal.begin_operand-returns-in-Local-clause-came
begin_operand-returns-in-Local-clause-came g m c = λ S names size st e l. (
  λ i p q. refl,
  λ start k a.
      let x = c.in-Local in
      let s = sym (ap (λ d. fits S d names size) x.is ∙ fits-local S names size x.slot x.field-1 x.field-2) ∙ l.fits in
      let len : length names ≤ length c.args.room.now = omega (arith, l.within, l.below, l.room) in
      let b = begins _ _ k _ _ _ (shows-local c.args.code.now x.slot x.field-1 x.field-2 x.is) a in
      let r = c.read in
      rw (r.ensures.stays.2, r.ensures.stays.3) (reads S _ start _ _ k c.args.depth _ x.field-1 names c.args.room.now x.slot _ (outcome r.result r.new.self.value r.new.self.leave) len s r.ensures.gives b),
)

pub begin_operand-returns-in-False-clause-came : goal.begin_operand-returns-in-False-clause-came
begin_operand-returns-in-False-clause-came g m c = λ S names size st e l. (
  λ i p q. refl,
  λ start k a. begins _ _ k _ _ _ (shows-false c.args.code.now c.in-False.field-0 c.in-False.is) a,
)

pub begin_operand-returns-in-True-clause-came : goal.begin_operand-returns-in-True-clause-came
begin_operand-returns-in-True-clause-came g m c = λ S names size st e l. (
  λ i p q. refl,
  λ start k a. begins _ _ k _ _ _ (shows-true c.args.code.now c.in-True.field-0 c.in-True.is) a,
)

pub begin_operand-returns-in_default-clause-came : goal.begin_operand-returns-in_default-clause-came
begin_operand-returns-in_default-clause-came g m c = c.begin_send.ensures.came

pub enter-returns-then-count-len-clause-came : goal.enter-returns-then-count-len-clause-came
enter-returns-then-count-len-clause-came g m c = λ S start k names st e right le long a.
    let o = c.raise.ensures in
    rw (o.gives, o.stays.2, o.stays.3) (other_count c.args.method.now (me_of c.args.me) c.args.count c.args.self.now.base c.args.room.now c.args.at k _ _ _ (λ z. omega (arith, z, c.if-count-len.true, c.len.ensures)) long a)

pub run_in-returns-clause-came : goal.run_in-returns-clause-came
run_in-returns-clause-came g m c = λ S start k sc st e right long a.
    let meth = c.args.method.now in
    let inside = frame_lies S meth (length c.args.frame.now) right long in
    let g1 = rw c.as_slice.ensures at c.body-came.ensures.came in
    let done = (g1 S (S.method_names (erase_method meth)) meth.size st e inside).1 start (Frame sc ∷ k) a in
    let o = c.out_of_call.ensures in
    rw (o.gives, o.stays.2, o.stays.3) (called S _ start _ _ _ sc k _ _ _ done)

pub enter_apart-returns-in_default-clause-came : goal.enter_apart-returns-in_default-clause-came
enter_apart-returns-in_default-clause-came g m c = λ S start k sc at st e right counts a.
    let o = c.over.ensures in
    rw (o.stays.2, o.stays.3) (cut S _ start _ _ _ k _ _ _ _ o.gives a (enter_left S (erase_method c.args.method.now) (me_of c.args.me) (map plain c.args.args.now) at k sc c.args.depth c.args.self.now.left))

pub enter_apart-returns-clause-came : goal.enter_apart-returns-clause-came
enter_apart-returns-clause-came g m c = λ S start k sc at st e right counts a.
    let meth = c.args.method.now in
    let args = map plain c.args.args.now in
    let frame = c.as_mut_slice.result.now in
    let row : map plain frame ≡ map plain c.in-Ok.row.items = ap (map plain) c.as_mut_slice.ensures.value in
    let slots = meth.size + meth.waits + 256 in
    let is = row ∙ c.in-Ok.ensures ∙ ap (λ n. args ++ replicate (slots - n) Nil) (sym (len_map plain c.args.args.now)) in
    let long = row_long args frame slots is in
    c.run_in.ensures.came S start k sc st e right (omega (arith, long)) (enters_apart meth (me_of c.args.me) args frame slots at right counts (omega arith) is a)

pub enter-returns-then-room-before-clause-came : goal.enter-returns-then-room-before-clause-came
enter-returns-then-room-before-clause-came g m c = λ S start k names st e right le long a.
    let there = c.args.room.now in
    let before = c.args.self.now.base in
    let me = me_of c.args.me in
    let sc = scope_of (me_of c.args.self.now.context.me) names there in
    let passed = ap (map plain) (c.passed.ensures long) in
    let counts : length (map plain c.passed.result.now) ≡ length c.args.method.now.params =
    omega (arith, ap length passed, len_map plain (take c.args.count (drop before there)), len_args there before c.args.count long, c.if-count-len.false, c.len.ensures) in
    c.enter_apart.ensures.came S start k sc c.args.at st e right counts
    (same a (ap (λ vs. enter S (erase_method c.args.method.now) me vs c.args.at k sc c.args.depth c.args.self.now.left) (sym passed)))

pub enter-returns-clause-kept : goal.enter-returns-clause-kept
enter-returns-clause-kept g m c = λ i q.
    let before = c.args.self.now.base in
    let there = c.args.room.now in
    let short : before ≤ length there = omega (arith, c.if-room-before.false) in
    ap (λ xs. slice_get (xs ++ c.run_in.new.frame) i) c.split_at_mut-frame.ensures.front ∙ front there c.run_in.new.frame before i short q

pub enter-returns-clause-came : goal.enter-returns-clause-came
enter-returns-clause-came g m c = λ S start k names st e right le long a.
    let before = c.args.self.now.base in
    let there = c.args.room.now in
    let me = me_of c.args.self.now.context.me in
    let meth = c.args.method.now in
    let split = c.split_at_mut-frame.ensures in
    let frame = c.clear.new.room in
    let counts : c.args.count ≡ length meth.params = omega (arith, c.if-count-len.false, c.len.ensures) in
    let f = enters meth (me_of c.args.me) c.args.count before there frame c.args.at right counts long (λ i q. c.clear.ensures.below i q ∙ ap (λ xs. slice_get xs i) split.back) c.clear.ensures.within a in
    let sizes : meth.size ≤ length frame = omega (arith, c.clear.ensures.room, split.back_len, c.if-room-before.false, c.if-room-before-2.false) in
    let out = c.run_in.ensures.came S start k (scope_of me names there) st e right sizes f in
    let scope : bound names (map plain (c.split_at_mut-frame.result.0.now ++ c.run_in.new.frame)) ≡ bound names (map plain there) = ap (λ xs. bound names (map plain (xs ++ c.run_in.new.frame))) split.front ∙ frame_back names there c.run_in.new.frame before le (omega (arith, long)) in
    rw scope out

pub enter_with-returns-then-self-room-clause-came : goal.enter_with-returns-then-self-room-clause-came
enter_with-returns-then-self-room-clause-came g m c = λ S start k names st e right le long a.
    let o = c.over.ensures in
    rw (o.stays.2, o.stays.3) (cut S _ start _ _ _ k _ _ _ _ o.gives a (enter_left S (erase_method c.args.target.method.now) (me_of (Some c.args.target.object)) (plain c.args.arg ∷ []) c.args.at k (scope_of (me_of c.args.self.now.context.me) names c.args.room.now) c.args.depth c.args.self.now.left))

pub enter_with-returns-clause-kept : goal.enter_with-returns-clause-kept
enter_with-returns-clause-kept g m c = λ i q.
    c.enter.ensures.kept i q ∙ get_set c.args.room.now c.args.self.now.base i c.args.arg (λ z. omega (arith, z, q))

pub enter_with-returns-clause-came : goal.enter_with-returns-clause-came
enter_with-returns-clause-came g m c = λ S start k names st e right le long a.
    let base = c.args.self.now.base in
    let room = c.args.room.now in
    let me = me_of c.args.self.now.context.me in
    let within : base < length room = omega (arith, c.if-self-room.false) in
    let scope : bound names (map plain (slice_set room base c.args.arg)) ≡ bound names (map plain room) = room_beyond names room base c.args.arg le in
    let f = c.enter.ensures.came S start k names st e right le (omega (arith, within, len_set room base c.args.arg)) in
    f (placed (erase_method c.args.target.method.now) (me_of (Some c.args.target.object)) c.args.at k _ _ me names base room c.args.arg le within a)

pub enter_first-returns-in-Some-clause-came : goal.enter_first-returns-in-Some-clause-came
enter_first-returns-in-Some-clause-came g m c =
    let u = c.in-Some.ensures.came in (
      λ gone S start k names st e right le long a.
          let sc = scope_of (me_of c.args.self.now.context.me) names c.args.room.now in
          u.0 gone S start k sc c.args.at right (same a (ap (λ vs. enter S (erase_method c.args.method.now) (me_of (Some c.args.object)) (map plain vs) c.args.at k sc c.args.depth c.args.self.now.left) (sym (c.passed.ensures long)))),
      λ none.
          let some = u.1 none in (
            some.0,
            λ S start k names st e right le long a.
                let sc = scope_of (me_of c.args.self.now.context.me) names c.args.room.now in
                some.1 S start k sc c.args.at right (same a (ap (λ vs. enter S (erase_method c.args.method.now) (me_of (Some c.args.object)) (map plain vs) c.args.at k sc c.args.depth c.args.self.now.left) (sym (c.passed.ensures long)))),
          ),
    )

pub enter_first-returns-in-None-clause-kept : goal.enter_first-returns-in-None-clause-kept
enter_first-returns-in-None-clause-kept g m c = rw (c.entered_assigning.ensures.none c.in-None.is) at c.enter.ensures.kept

pub enter_first-returns-in-None-clause-came : goal.enter_first-returns-in-None-clause-came
enter_first-returns-in-None-clause-came g m c =
    let y = c.enter in
    let f = rw (c.entered_assigning.ensures.none c.in-None.is) at y.ensures.came in
    (λ gone. f, λ none. (value_of y.result y.new.self.value, λ S start k names st e right le long a. given y.result y.new.self.value y.new.self.leave none (f S start k names st e right le long a)))

pub enter_storing-returns-in-Some-clause-came : goal.enter_storing-returns-in-Some-clause-came
enter_storing-returns-in-Some-clause-came g m c = λ S start k names st e right le long a.
    c.in-Some.ensures.came S start k (scope_of (me_of c.args.self.now.context.me) names c.args.room.now) c.args.at right
    (same a (ap (λ vs. enter S (erase_method c.args.target.method.now) (me_of (Some c.args.target.object)) (map plain vs) c.args.at k (scope_of (me_of c.args.self.now.context.me) names c.args.room.now) c.args.depth c.args.self.now.left) (sym (c.passed.ensures long))))

pub enter_storing-returns-in-None-clause-kept : goal.enter_storing-returns-in-None-clause-kept
enter_storing-returns-in-None-clause-kept g m c = rw (c.entered_writer.ensures.none c.in-None.is) at c.enter.ensures.kept

pub enter_storing-returns-in-None-clause-came : goal.enter_storing-returns-in-None-clause-came
enter_storing-returns-in-None-clause-came g m c = rw (c.entered_writer.ensures.none c.in-None.is) at c.enter.ensures.came

pub enter_storing_with-returns-then-self-room-clause-came : goal.enter_storing_with-returns-then-self-room-clause-came
enter_storing_with-returns-then-self-room-clause-came g m c = λ S start k names st e right le long a.
    let o = c.over.ensures in
    rw (o.stays.2, o.stays.3) (cut S _ start _ _ _ k _ _ _ _ o.gives a (enter_left S (erase_method c.args.target.method.now) (me_of (Some c.args.target.object)) (plain c.args.arg ∷ []) c.args.at k (scope_of (me_of c.args.self.now.context.me) names c.args.room.now) c.args.depth c.args.self.now.left))

pub enter_storing_with-returns-clause-kept : goal.enter_storing_with-returns-clause-kept
enter_storing_with-returns-clause-kept g m c = λ i q.
    c.enter_storing.ensures.kept i q ∙ get_set c.args.room.now c.args.self.now.base i c.args.arg (λ z. omega (arith, z, q))

pub enter_storing_with-returns-clause-came : goal.enter_storing_with-returns-clause-came
enter_storing_with-returns-clause-came g m c = λ S start k names st e right le long a.
    let base = c.args.self.now.base in
    let room = c.args.room.now in
    let me = me_of c.args.self.now.context.me in
    let within : base < length room = omega (arith, c.if-self-room.false) in
    let scope : bound names (map plain (slice_set room base c.args.arg)) ≡ bound names (map plain room) = room_beyond names room base c.args.arg le in
    let f = c.enter_storing.ensures.came S start k names st e right le (omega (arith, within, len_set room base c.args.arg)) in
    f (placed (erase_method c.args.target.method.now) (me_of (Some c.args.target.object)) c.args.at k _ _ me names base room c.args.arg le within a)

pub invoke-returns-in-Some-entered_reader-clause-came : goal.invoke-returns-in-Some-entered_reader-clause-came
invoke-returns-in-Some-entered_reader-clause-came g m c = λ S start k names st e number le long a.
    let t = c.in-Some.ensures.some in
    let args = map plain (take c.args.count (drop c.args.self.now.base c.args.room.now)) in
    let r = c.in-Some-entered_reader.ensures in
    let none : args ≡ [] = ap (λ n. map plain (take n (drop c.args.self.now.base c.args.room.now))) r.count in
    r.came S start k (scope_of (me_of c.args.self.now.context.me) names c.args.room.now) c.args.at (t.right S st)
    (same a (by_receiver S (plain c.args.receiver.now) (me_of (Some c.in-Some.target.object)) (text_of S c.args.name) (erase_method c.in-Some.target.method.now) args c.args.at k _ _ _ (t.finds S st) t.me
    ∙ ap (λ xs. enter S (erase_method c.in-Some.target.method.now) (me_of (Some c.in-Some.target.object)) xs c.args.at k (scope_of (me_of c.args.self.now.context.me) names c.args.room.now) c.args.depth c.args.self.now.left) none))

pub invoke-returns-in-None-entered_reader-clause-came : goal.invoke-returns-in-None-entered_reader-clause-came
invoke-returns-in-None-entered_reader-clause-came g m c = λ S start k names st e number le long a.
    let t = c.in-Some.ensures.some in
    let args = map plain (take c.args.count (drop c.args.self.now.base c.args.room.now)) in
    let f = rw (c.entered_reader.ensures.none c.in-None-entered_reader.is) at c.enter.ensures.came in
    f S start k names st e (t.right S st) le long
    (same a (by_receiver S (plain c.args.receiver.now) (me_of (Some c.in-Some.target.object)) (text_of S c.args.name) (erase_method c.in-Some.target.method.now) args c.args.at k _ _ _ (t.finds S st) t.me))

pub invoke-returns-in-None-entered_reader-clause-kept : goal.invoke-returns-in-None-entered_reader-clause-kept
invoke-returns-in-None-entered_reader-clause-kept g m c = rw (c.entered_reader.ensures.none c.in-None-entered_reader.is) at c.enter.ensures.kept

pub invoke-returns-in-None-clause-came : goal.invoke-returns-in-None-clause-came
invoke-returns-in-None-clause-came g m c = λ S start k names st e number le long a.
    let v = plain c.args.receiver.now in
    let args = map plain (take c.args.count (drop c.args.self.now.base c.args.room.now)) in
    let o = c.call_any.ensures in
    let f = rw (c.passed.ensures long) at o.came in
    calls_builtin S _ start _ _ _ _ _ _ _ _ _ _ c.args.self.now.context.program.now c.args.method v (text_of S c.args.name) args c.args.at (c.target_of.ensures.none c.in-None.is S st) number e f a

pub own-returns-then-is_left-clause-came : goal.own-returns-then-is_left-clause-came
own-returns-then-is_left-clause-came g m c = λ S names size st e l. (
  λ i p q. c.arguments-came.ensures.kept S names size st e l i p q,
  λ start k a.
      let both = c.arguments-came.ensures.came (ByName c.args.name) c.args.at S start k names size st e l a in
      both.0 (sym c.is_left.ensures ∙ c.if-is_left.true),
)

pub own-returns-clause-came : goal.own-returns-clause-came
own-returns-clause-came g m c = λ S names size st e l. (
  λ i p q. c.enter.ensures.kept i (omega (arith, q)) ∙ c.arguments-came.ensures.kept S names size st e l i p q,
  λ start k a.
      let y = c.arguments-came in
      let both = y.ensures.came (ByName c.args.name) c.args.at S start k names size st e l a in
      let none = sym c.is_left.ensures ∙ c.if-is_left.false in
      let count = length c.args.args.now in
      let base = c.args.self.now.base in
      let long : base + count ≤ length y.new.room = omega (arith, y.ensures.base none, y.ensures.fits l.room) in
      let t = c.requires.target in
      let args = map plain (take count (drop base y.new.room)) in
      let entered = same (on _ (both.1 none) refl) (by_own S c.args.name (erase_method c.args.target.method.now) (me_of (Some c.args.target.object)) args c.args.at k _ _ _ (t.finds S st) t.me) in
      let f = rw y.ensures.context at c.enter.ensures.came in
      f S start k names st e (t.right S st) (omega (arith, l.within, l.below)) long entered,
)

pub function-returns-in_default-clause-came : goal.function-returns-in_default-clause-came
function-returns-in_default-clause-came g m c = λ S names size st e l. (
  λ i p q. refl,
  λ start k a.
      let o = c.over.ensures in
      rw (o.stays.2, o.stays.3) (cut S _ start _ _ _ k _ _ _ _ o.gives a refl),
)

pub function-returns-then-is_left-clause-came : goal.function-returns-then-is_left-clause-came
function-returns-then-is_left-clause-came g m c = λ S names size st e l.
    let under = sub (every (map (fits S) c.args.args.now)) l (snd _ _ l.fits) in (
      λ i p q. c.arguments-came.ensures.kept S names size st e under i p q,
      λ start k a.
          let both = c.arguments-came.ensures.came (ByName c.args.name) c.args.at S start k names size st e under a in
          both.0 (sym c.is_left.ensures ∙ c.if-is_left.true),
    )

pub function-returns-clause-came : goal.function-returns-clause-came
function-returns-clause-came g m c = λ S names size st e l.
    let under = sub (every (map (fits S) c.args.args.now)) l (snd _ _ l.fits) in (
      λ i p q. c.enter.ensures.kept i (omega (arith, q)) ∙ c.arguments-came.ensures.kept S names size st e under i p q,
      λ start k a.
          let y = c.arguments-came in
          let both = y.ensures.came (ByName c.args.name) c.args.at S start k names size st e under a in
          let none = sym c.is_left.ensures ∙ c.if-is_left.false in
          let count = length c.args.args.now in
          let base = c.args.self.now.base in
          let script = c.args.self.now.context.script.now in
          let meth = c.in-Some.method.now in
          let held = sym c.in-Some.ensures.value in
          let found = rw c.script-script.ensures at held in
          let long : base + count ≤ length y.new.room = omega (arith, y.ensures.base none, y.ensures.fits l.room) in
          let args = map plain (take count (drop base y.new.room)) in
          let entered = same (on _ (both.1 none) refl) (by_number S script c.args.number c.args.name meth args c.args.at k _ _ _ st (c.requires.alone S st) (fst _ _ l.fits) found) in
          let f = rw y.ensures.context at c.enter.ensures.came in
          f S start k names st e (function_right S script c.args.number meth st found) (omega (arith, l.within, l.below)) long entered,
    )

pub begin_function-returns-in-Some-clause-came : goal.begin_function-returns-in-Some-clause-came
begin_function-returns-in-Some-clause-came g m c = λ S names size st e l.
    let x = c.in-Function in
    let s = sym (ap (λ d. fits S d names size) x.is ∙ fits-function S names size x.number x.name x.args x.at) ∙ l.fits in
    let under = sub _ l (rw c.as_slice-args.ensures (snd _ _ s)) in (
      λ i p q. (c.own.ensures.came S names size st e under).0 i p q,
      λ start k a. (c.own.ensures.came S names size st e under).1 start k (rw c.as_slice-args.ensures (begins _ _ k _ _ _ (shows-function c.args.code.now x.number x.name x.args x.at x.is) a)),
    )

pub begin_function-returns-in-None-clause-came : goal.begin_function-returns-in-None-clause-came
begin_function-returns-in-None-clause-came g m c = λ S names size st e l.
    let x = c.in-Function in
    let s = sym (ap (λ d. fits S d names size) x.is ∙ fits-function S names size x.number x.name x.args x.at) ∙ l.fits in
    let under = sub _ l (rw c.as_slice-args.ensures s) in (
      λ i p q. (c.function.ensures.came S names size st e under).0 i p q,
      λ start k a. (c.function.ensures.came S names size st e under).1 start k (rw c.as_slice-args.ensures (begins _ _ k _ _ _ (shows-function c.args.code.now x.number x.name x.args x.at x.is) a)),
    )

pub begin_print-returns-in-Some-clause-came : goal.begin_print-returns-in-Some-clause-came
begin_print-returns-in-Some-clause-came g m c = λ S names size st e l.
    let right = printing_is S c.args.form c.args.name (λ s. every (map (fits s) c.args.args.now)) names size l.fits in (
      λ i p q. (c.own.ensures.came S names size st e (sub (every (map (fits S) c.args.args.now)) l right.2)).0 i p q,
      λ start k a. (c.own.ensures.came S names size st e (sub (every (map (fits S) c.args.args.now)) l right.2)).1 start k a,
    )

pub operate_value-returns-in-Some-target_of-clause-came : goal.operate_value-returns-in-Some-target_of-clause-came
operate_value-returns-in-Some-target_of-clause-came g m c = λ S names size st e l.
    let t = c.take-receiver in
    let w = c.walk-came in
    let u = c.take-arg in
    let under = moved _ _ t.ensures.stays.0 refl (sub (fits S c.args.right.now) l (snd _ _ l.fits)) in (
      λ i p q.
          let f = rw t.ensures.stays.1 at w.ensures.came in
          c.enter_with.ensures.kept i (omega (arith, q, t.ensures.stays.0, w.ensures.stays.0, u.ensures.stays.0)) ∙ (f S names size st e under).0 i p (omega (arith, q, t.ensures.stays.0)),
      λ start k a.
          let v = value_of c.args.came c.args.self.now.value in
          let f = rw (t.ensures.stays.1, t.ensures.stays.2, t.ensures.stays.3) at w.ensures.came in
          let come = (f S names size st e under).1 start (Then (Argument (OnReceiver v (text_of S c.args.name) None) [] [] c.args.at) ∷ k) a in
          let g1 = given w.result w.new.self.value w.new.self.leave (sym c.is_left.ensures ∙ c.if-is_left.false) come in
          let x = value_of w.result w.new.self.value in
          let target = rw (u.ensures.stays.1, w.ensures.stays.1, t.ensures.stays.1, t.ensures.value) at c.in-Some-target_of.ensures.some in
          let entered = same (on _ (on _ g1 refl) refl) (by_receiver S v (me_of (Some c.in-Some-target_of.target.object)) (text_of S c.args.name) (erase_method c.in-Some-target_of.target.method.now) (x ∷ []) c.args.at k _ _ _ (target.finds S st) target.me) in
          let base = u.ensures.stays.0 ∙ (w.ensures.stays.0 ∙ t.ensures.stays.0) in
          let h1 = rw (u.ensures.stays.1, w.ensures.stays.1, t.ensures.stays.1, u.ensures.stays.2, u.ensures.stays.3, u.ensures.value) at c.enter_with.ensures.came in
          h1 S start k names st e (target.right S st) (omega (arith, l.within, l.below, base)) (omega (arith, l.room, base, w.ensures.stays.3)) entered,
    )

pub send-returns-clause-came : goal.send-returns-clause-came
send-returns-clause-came g m c = λ S names size st e l.
    let w = c.walk_here-came in (
      λ i p q.
          let first = (w.ensures.came S names size st e (sub (fits S c.args.receiver.now) l (fst _ _ (snd _ _ l.fits)))).0 i p q in
          let under = moved _ _ (c.take-receiver.ensures.stays.0 ∙ w.ensures.stays.0) w.ensures.stays.3 (sub (every (map (fits S) c.args.args.now)) l (snd _ _ (snd _ _ l.fits))) in
          let f = rw (c.take-receiver.ensures.stays.1, w.ensures.stays.1) at c.arguments-came.ensures.kept in
          c.invoke.ensures.kept i (omega (arith, q, c.take-receiver.ensures.stays.0, w.ensures.stays.0)) ∙ (f S names size st e under i p (omega (arith, q, c.take-receiver.ensures.stays.0, w.ensures.stays.0)) ∙ first),
      λ start k a.
          let step = ReceiverOf (text_of S c.args.name) (map erase c.args.args.now) None c.args.at in
          let come = (w.ensures.came S names size st e (sub (fits S c.args.receiver.now) l (fst _ _ (snd _ _ l.fits)))).1 start (Then step ∷ k) a in
          let none = sym c.is_left.ensures ∙ c.if-is_left.false in
          let v = value_of w.result w.new.self.value in
          let g1 = given w.result w.new.self.value w.new.self.leave none come in
          let t = c.take-receiver in
          let under = moved _ _ (t.ensures.stays.0 ∙ w.ensures.stays.0) w.ensures.stays.3 (sub (every (map (fits S) c.args.args.now)) l (snd _ _ (snd _ _ l.fits))) in
          let f = rw (t.ensures.stays.1, w.ensures.stays.1, t.ensures.stays.2, t.ensures.stays.3) at c.arguments-came.ensures.came in
          let p = f (OnReceiver v (text_of S c.args.name) None) c.args.at S start k names size st e under (on _ g1 refl) in
          let r = c.arguments-came in
          let came = sym c.is_left-2.ensures ∙ c.if-is_left-2.false in
          let base = t.new.self.base in
          let long : base + length c.args.args.now ≤ length r.new.room = omega (arith, r.ensures.base came, r.ensures.fits under.room) in
          let number = same_is _ _ (fst _ _ l.fits) in
          let h1 = rw (r.ensures.context, t.ensures.stays.1, w.ensures.stays.1, t.ensures.value) at c.invoke.ensures.came in
          h1 S start k names st e number (omega (arith, under.within, under.below)) long (on _ (p.1 came) refl),
    )

pub store_with-returns-in_default-clause-came : goal.store_with-returns-in_default-clause-came
store_with-returns-in_default-clause-came g m c = λ S start k names st e right le long a.
    let o = c.over.ensures in
    rw (o.stays.2, o.stays.3) (cut S _ start _ _ _ k _ _ _ _ o.gives a (enter_left S (erase_method c.args.target.method.now) (me_of (Some c.args.target.object)) (map plain (take c.args.count (drop c.args.self.now.base c.args.room.now))) c.args.at _ (scope_of (me_of c.args.self.now.context.me) names c.args.room.now) c.args.depth c.args.self.now.left))

pub store_with-returns-then-is_left-clause-kept : goal.store_with-returns-then-is_left-clause-kept
store_with-returns-then-is_left-clause-kept g m c = c.enter_storing-came.ensures.kept

pub store_with-returns-then-is_left-clause-came : goal.store_with-returns-then-is_left-clause-came
store_with-returns-then-is_left-clause-came g m c = λ S start k names st e right le long a.
    let y = c.enter_storing-came in
    let step = Instead (last_value S (map plain (take c.args.count (drop c.args.self.now.base c.args.room.now)))) in
    let come = y.ensures.came S start (Then step ∷ k) names st e right le long a in
    passes S _ start _ y.result y.new.self.value y.new.self.leave _ step k _ _ _ (sym c.is_left.ensures ∙ c.if-is_left.true) come

pub store_with-returns-clause-kept : goal.store_with-returns-clause-kept
store_with-returns-clause-kept g m c = c.enter_storing-came.ensures.kept

pub store_with-returns-clause-came : goal.store_with-returns-clause-came
store_with-returns-clause-came g m c = λ S start k names st e right le long a.
    let y = c.enter_storing-came in
    let values = map plain (take c.args.count (drop c.args.self.now.base c.args.room.now)) in
    let step = Instead (last_value S values) in
    let come = y.ensures.came S start (Then step ∷ k) names st e right le long a in
    let g1 = given y.result y.new.self.value y.new.self.leave (sym c.is_left.ensures ∙ c.if-is_left.false) come in
    let o = c.give.ensures in
    let last : plain c.in-Ok.last ≡ last_value S values = c.in-Ok.ensures S ∙ ap (λ vs. last_value S (map plain vs)) (c.passed.ensures long) in
    rw (o.gives, o.stays.2, o.stays.3, last) (on _ g1 refl)

pub write_member-returns-in_default-clause-came : goal.write_member-returns-in_default-clause-came
write_member-returns-in_default-clause-came g m c = λ name S start k names st e writes free le bound_ a.
    let script = c.args.self.now.context.script.now in
    let v = value_of c.args.came c.args.self.now.value in
    let receiver = plain c.args.receiver.now in
    let o = c.raise.ensures in
    rw (o.gives, o.stays.2, o.stays.3) (same a (no_such S receiver (text_of S name ++ codes "=") (v ∷ []) None c.args.at (Then (Instead v) ∷ k) _ _ _ (writer_none script S st receiver c.args.writer name writes (c.writer_of.ensures.none c.in_default.is)) free))

pub write_member-returns-then-is_left-clause-came : goal.write_member-returns-then-is_left-clause-came
write_member-returns-then-is_left-clause-came g m c = λ name S start k names st e writes free le bound_ a.
    let script = c.args.self.now.context.script.now in
    let v = value_of c.args.came c.args.self.now.value in
    let receiver = plain c.args.receiver.now in
    let y = c.entered_writing in
    let meth = c.in-Some.target.method.now in
    let to = me_of (Some c.in-Some.target.object) in
    let is = c.in-Some.ensures.some in
    let entered = same a (by_receiver S receiver to (text_of S name ++ codes "=") (erase_method meth) (v ∷ []) c.args.at (Then (Instead v) ∷ k) _ _ _ (writer_some script S st receiver c.args.writer name c.in-Some.target.object meth writes is) (writer_me script receiver c.args.writer c.in-Some.target.object meth is)) in
    let come = c.in-Some-entered_writing.ensures.came c.args.self.now.value S start (Then (Instead v) ∷ k) (scope_of (me_of c.args.self.now.context.me) names c.args.room.now) c.args.at (writer_right script S st receiver c.args.writer c.in-Some.target.object meth is) entered in
    passes S _ start _ c.in-Some-entered_writing.done y.new.self.value y.new.self.leave _ (Instead v) k _ _ _ (sym c.is_left.ensures ∙ c.if-is_left.true) come

pub write_member-returns-in-Some-entered_writing-clause-came : goal.write_member-returns-in-Some-entered_writing-clause-came
write_member-returns-in-Some-entered_writing-clause-came g m c = λ name S start k names st e writes free le bound_ a.
    let script = c.args.self.now.context.script.now in
    let v = value_of c.args.came c.args.self.now.value in
    let receiver = plain c.args.receiver.now in
    let y = c.entered_writing in
    let meth = c.in-Some.target.method.now in
    let to = me_of (Some c.in-Some.target.object) in
    let is = c.in-Some.ensures.some in
    let entered = same a (by_receiver S receiver to (text_of S name ++ codes "=") (erase_method meth) (v ∷ []) c.args.at (Then (Instead v) ∷ k) _ _ _ (writer_some script S st receiver c.args.writer name c.in-Some.target.object meth writes is) (writer_me script receiver c.args.writer c.in-Some.target.object meth is)) in
    let come = c.in-Some-entered_writing.ensures.came c.args.self.now.value S start (Then (Instead v) ∷ k) (scope_of (me_of c.args.self.now.context.me) names c.args.room.now) c.args.at (writer_right script S st receiver c.args.writer c.in-Some.target.object meth is) entered in
    let g1 = given c.in-Some-entered_writing.done y.new.self.value y.new.self.leave (sym c.is_left.ensures ∙ c.if-is_left.false) come in
    comes S _ start _ _ k _ _ _ _ _ (gave c.args.came y.new.self.value y.new.self.leave c.requires.came ∙ ap Gave (c.in-Some-entered_writing.ensures.integer y.new.self.value c.args.self.now.value)) (on _ g1 refl)

pub write_member-returns-then-is_left-2-clause-kept : goal.write_member-returns-then-is_left-2-clause-kept
write_member-returns-then-is_left-2-clause-kept g m c = λ i q. c.enter_storing_with-came.ensures.kept i (omega (arith, q, c.take-value.ensures.stays.0, c.entered_giving.ensures.stays.0, c.entered_writing.ensures.stays.0))

pub write_member-returns-then-is_left-2-clause-came : goal.write_member-returns-then-is_left-2-clause-came
write_member-returns-then-is_left-2-clause-came g m c = λ name S start k names st e writes free le bound_ a.
    let script = c.args.self.now.context.script.now in
    let v = value_of c.args.came c.args.self.now.value in
    let receiver = plain c.args.receiver.now in
    let n = c.entered_giving.ensures.none c.in_default-entered_giving.is ∙ c.entered_writing.ensures.none c.in_default-entered_writing.is in
    let t = c.take-value in
    let taken = rw n at t.ensures.value in
    let y = c.enter_storing_with-came in
    let meth = c.in-Some.target.method.now in
    let to = me_of (Some c.in-Some.target.object) in
    let is = c.in-Some.ensures.some in
    let entered = same a (by_receiver S receiver to (text_of S name ++ codes "=") (erase_method meth) (v ∷ []) c.args.at (Then (Instead v) ∷ k) _ _ _ (writer_some script S st receiver c.args.writer name c.in-Some.target.object meth writes is) (writer_me script receiver c.args.writer c.in-Some.target.object meth is)) in
    let same_value : plain c.in-Ok.copy ≡ v = c.in-Ok.ensures.value ∙ taken in
    let f = rw (t.ensures.stays.1, t.ensures.stays.2, t.ensures.stays.3, n, same_value) at y.ensures.came in
    let come = f S start (Then (Instead v) ∷ k) names st e (writer_right script S st receiver c.args.writer c.in-Some.target.object meth is) (omega (arith, le, t.ensures.stays.0, c.entered_giving.ensures.stays.0, c.entered_writing.ensures.stays.0)) (omega (arith, bound_, t.ensures.stays.0, c.entered_giving.ensures.stays.0, c.entered_writing.ensures.stays.0)) entered in
    passes S _ start _ y.result y.new.self.value y.new.self.leave _ (Instead v) k _ _ _ (sym c.is_left-2.ensures ∙ c.if-is_left-2.true) come

pub write_member-returns-clause-kept : goal.write_member-returns-clause-kept
write_member-returns-clause-kept g m c = λ i q. c.enter_storing_with-came.ensures.kept i (omega (arith, q, c.take-value.ensures.stays.0, c.entered_giving.ensures.stays.0, c.entered_writing.ensures.stays.0))

pub write_member-returns-clause-came : goal.write_member-returns-clause-came
write_member-returns-clause-came g m c = λ name S start k names st e writes free le bound_ a.
    let script = c.args.self.now.context.script.now in
    let v = value_of c.args.came c.args.self.now.value in
    let receiver = plain c.args.receiver.now in
    let n = c.entered_giving.ensures.none c.in_default-entered_giving.is ∙ c.entered_writing.ensures.none c.in_default-entered_writing.is in
    let t = c.take-value in
    let taken = rw n at t.ensures.value in
    let y = c.enter_storing_with-came in
    let meth = c.in-Some.target.method.now in
    let to = me_of (Some c.in-Some.target.object) in
    let is = c.in-Some.ensures.some in
    let entered = same a (by_receiver S receiver to (text_of S name ++ codes "=") (erase_method meth) (v ∷ []) c.args.at (Then (Instead v) ∷ k) _ _ _ (writer_some script S st receiver c.args.writer name c.in-Some.target.object meth writes is) (writer_me script receiver c.args.writer c.in-Some.target.object meth is)) in
    let same_value : plain c.in-Ok.copy ≡ v = c.in-Ok.ensures.value ∙ taken in
    let f = rw (t.ensures.stays.1, t.ensures.stays.2, t.ensures.stays.3, n, same_value) at y.ensures.came in
    let come = f S start (Then (Instead v) ∷ k) names st e (writer_right script S st receiver c.args.writer c.in-Some.target.object meth is) (omega (arith, le, t.ensures.stays.0, c.entered_giving.ensures.stays.0, c.entered_writing.ensures.stays.0)) (omega (arith, bound_, t.ensures.stays.0, c.entered_giving.ensures.stays.0, c.entered_writing.ensures.stays.0)) entered in
    let g1 = given y.result y.new.self.value y.new.self.leave (sym c.is_left-2.ensures ∙ c.if-is_left-2.false) come in
    let o = c.give.ensures in
    rw (o.gives, o.stays.2, o.stays.3, taken) (on _ g1 refl)

pub set_member-returns-then-is_left-clause-came : goal.set_member-returns-then-is_left-clause-came
set_member-returns-then-is_left-clause-came g m c = λ name S start k names size st e l a.
    let w = c.walk-came in
    let step = WriteTo (OfAttribute (plain c.args.receiver.now) (text_of S name)) c.args.at in
    let e1 = (w.ensures.came S names size st e (sub (fits S c.args.value.now) l (snd _ _ (snd _ _ l.fits)))).1 start (Then step ∷ k) a in
    passes S _ start _ w.result w.new.self.value w.new.self.leave _ step k _ _ _ (sym c.is_left.ensures ∙ c.if-is_left.true) e1

pub set_member-returns-clause-kept : goal.set_member-returns-clause-kept
set_member-returns-clause-kept g m c = λ S names size st e l i p q.
    let w = c.walk-came in
    c.write_member.ensures.kept i (omega (arith, q, w.ensures.stays.0)) ∙ (w.ensures.came S names size st e l).0 i p q

pub set_member-returns-clause-came : goal.set_member-returns-clause-came
set_member-returns-clause-came g m c = λ name S start k names size st e l a.
    let w = c.walk-came in
    let step = WriteTo (OfAttribute (plain c.args.receiver.now) (text_of S name)) c.args.at in
    let e1 = (w.ensures.came S names size st e (sub (fits S c.args.value.now) l (snd _ _ (snd _ _ l.fits)))).1 start (Then step ∷ k) a in
    let g1 = given w.result w.new.self.value w.new.self.leave (sym c.is_left.ensures ∙ c.if-is_left.false) e1 in
    let f = rw w.ensures.stays.1 at c.write_member.ensures.came in
    f name S start k names st e (fst _ _ l.fits) (fst _ _ (snd _ _ l.fits)) (omega (arith, l.within, l.below, w.ensures.stays.0)) (omega (arith, l.room, w.ensures.stays.0, w.ensures.stays.3)) (on _ g1 refl)

pub update_member-returns-then-is_true_now-clause-came : goal.update_member-returns-then-is_true_now-clause-came
update_member-returns-then-is_true_now-clause-came g m c = λ name S start k names size st e l a.
    let t = sym (c.is_true_now.ensures c.requires.came) ∙ c.if-is_true_now.true in
    comes S _ start _ _ k _ _ _ _ _ (gave c.args.current c.args.self.now.value c.args.self.now.leave c.requires.came) (or_else_stays S _ start _ (value_of c.args.current c.args.self.now.value) (OfAttribute (plain c.args.receiver.now) (text_of S name)) c.args.op (erase c.args.value.now) c.args.at c.in-OrElse.is t a)

pub update_member-returns-else-is_true_now-clause-came : goal.update_member-returns-else-is_true_now-clause-came
update_member-returns-else-is_true_now-clause-came g m c = λ name S start k names size st e l a.
    let t = sym (c.is_true_now.ensures c.requires.came) ∙ c.if-is_true_now.false in
    c.set_member.ensures.came name S start k names size st e l (or_else_goes S _ start _ (value_of c.args.current c.args.self.now.value) (OfAttribute (plain c.args.receiver.now) (text_of S name)) c.args.op (erase c.args.value.now) c.args.at c.in-OrElse.is t a)

pub update_member-returns-then-not-is_true_now-clause-came : goal.update_member-returns-then-not-is_true_now-clause-came
update_member-returns-then-not-is_true_now-clause-came g m c = λ name S start k names size st e l a.
    let t = sym (c.is_true_now-in-AndThen.ensures c.requires.came) ∙ c.if-not-is_true_now.true in
    comes S _ start _ _ k _ _ _ _ _ (gave c.args.current c.args.self.now.value c.args.self.now.leave c.requires.came) (and_then_stays S _ start _ (value_of c.args.current c.args.self.now.value) (OfAttribute (plain c.args.receiver.now) (text_of S name)) c.args.op (erase c.args.value.now) c.args.at c.in-AndThen.is t a)

pub update_member-returns-else-not-is_true_now-clause-came : goal.update_member-returns-else-not-is_true_now-clause-came
update_member-returns-else-not-is_true_now-clause-came g m c = λ name S start k names size st e l a.
    let t = sym (c.is_true_now-in-AndThen.ensures c.requires.came) ∙ c.if-not-is_true_now.false in
    c.set_member-in-AndThen.ensures.came name S start k names size st e l (and_then_goes S _ start _ (value_of c.args.current c.args.self.now.value) (OfAttribute (plain c.args.receiver.now) (text_of S name)) c.args.op (erase c.args.value.now) c.args.at c.in-AndThen.is t a)

pub update_member-returns-then-is_left-clause-came : goal.update_member-returns-then-is_left-clause-came
update_member-returns-then-is_left-clause-came g m c = λ name S start k names size st e l a.
    let y = c.combine-made in
    let place = OfAttribute (plain c.args.receiver.now) (text_of S name) in
    let e2 = (y.ensures.came S names size st e (sub (fits S c.args.value.now) l (snd _ _ (snd _ _ l.fits)))).1 start (Then (WriteTo place c.args.at) ∷ k) (operates S _ start _ (value_of c.args.current c.args.self.now.value) place c.args.op (erase c.args.value.now) c.args.at c.in_default.not-OrElse c.in_default.not-AndThen a) in
    passes S _ start _ y.result y.new.self.value y.new.self.leave _ (WriteTo place c.args.at) k _ _ _ (sym c.is_left.ensures ∙ c.if-is_left.true) e2

pub update_member-returns-else-is_left-clause-kept : goal.update_member-returns-else-is_left-clause-kept
update_member-returns-else-is_left-clause-kept g m c = λ S names size st e l i p q.
    let y = c.combine-made in
    c.write_member.ensures.kept i (omega (arith, q, y.ensures.stays.0)) ∙ (y.ensures.came S names size st e l).0 i p q

pub update_member-returns-else-is_left-clause-came : goal.update_member-returns-else-is_left-clause-came
update_member-returns-else-is_left-clause-came g m c = λ name S start k names size st e l a.
    let y = c.combine-made in
    let place = OfAttribute (plain c.args.receiver.now) (text_of S name) in
    let e2 = (y.ensures.came S names size st e (sub (fits S c.args.value.now) l (snd _ _ (snd _ _ l.fits)))).1 start (Then (WriteTo place c.args.at) ∷ k) (operates S _ start _ (value_of c.args.current c.args.self.now.value) place c.args.op (erase c.args.value.now) c.args.at c.in_default.not-OrElse c.in_default.not-AndThen a) in
    let g2 = given y.result y.new.self.value y.new.self.leave (sym c.is_left.ensures ∙ c.if-is_left.false) e2 in
    let f = rw y.ensures.stays.1 at c.write_member.ensures.came in
    f name S start k names st e (fst _ _ l.fits) (fst _ _ (snd _ _ l.fits)) (omega (arith, l.within, l.below, y.ensures.stays.0)) (omega (arith, l.room, y.ensures.stays.0, y.ensures.stays.3)) (on _ g2 refl)

pub update_attribute-returns-then-is_left-clause-came : goal.update_attribute-returns-then-is_left-clause-came
update_attribute-returns-then-is_left-clause-came g m c = λ S names size st e l.
    let is = attribute_is S c.args.number c.args.writer c.args.name c.args.receiver.now c.args.value.now names size l.fits in (
      λ i p q. (c.walk-came.ensures.came S names size st e (sub (fits S c.args.receiver.now) l is.1)).0 i p q,
      λ start k a.
          let w = c.walk-came in
          let step = MemberOf (text_of S c.args.name) c.args.op (erase c.args.value.now) c.args.at in
          let e1 = (w.ensures.came S names size st e (sub (fits S c.args.receiver.now) l is.1)).1 start (Then step ∷ k) a in
          passes S _ start _ w.result w.new.self.value w.new.self.leave _ step k _ _ _ (sym c.is_left.ensures ∙ c.if-is_left.true) e1,
    )

pub update_attribute-returns-then-is_left-2-clause-came : goal.update_attribute-returns-then-is_left-2-clause-came
update_attribute-returns-then-is_left-2-clause-came g m c = λ S names size st e l.
    let is = attribute_is S c.args.number c.args.writer c.args.name c.args.receiver.now c.args.value.now names size l.fits in
    let w = c.walk-came in (
      λ i p q. c.invoke-current.ensures.kept i (omega (arith, q, c.take-receiver.ensures.stays.0, w.ensures.stays.0)) ∙ (w.ensures.came S names size st e (sub (fits S c.args.receiver.now) l is.1)).0 i p q,
      λ start k a.
          let step = MemberOf (text_of S c.args.name) c.args.op (erase c.args.value.now) c.args.at in
          let e1 = (w.ensures.came S names size st e (sub (fits S c.args.receiver.now) l is.1)).1 start (Then step ∷ k) a in
          let first = value_of w.result w.new.self.value in
          let g1 = given w.result w.new.self.value w.new.self.leave (sym c.is_left.ensures ∙ c.if-is_left.false) e1 in
          let t = c.take-receiver in
          let y = c.invoke-current in
          let reads = ReadOf (OfAttribute first (text_of S c.args.name)) c.args.op (erase c.args.value.now) c.args.at in
          let base = t.ensures.stays.0 ∙ w.ensures.stays.0 in
          let f = rw (t.ensures.stays.1, w.ensures.stays.1, t.ensures.stays.2, t.ensures.stays.3, t.ensures.value) at y.ensures.came in
          let e2 = f S start (Then reads ∷ k) names st e (same_is _ _ is.0) (omega (arith, l.within, l.below, base)) (omega (arith, l.room, base, w.ensures.stays.3)) (on _ g1 refl) in
          passes S _ start _ y.result y.new.self.value y.new.self.leave _ reads k _ _ _ (sym c.is_left-2.ensures ∙ c.if-is_left-2.true) e2,
    )

pub update_attribute-returns-clause-came : goal.update_attribute-returns-clause-came
update_attribute-returns-clause-came g m c = λ S names size st e l.
    let is = attribute_is S c.args.number c.args.writer c.args.name c.args.receiver.now c.args.value.now names size l.fits in
    let w = c.walk-came in
    let t = c.take-receiver in
    let y = c.invoke-current in (
      λ i p q.
          let base = y.ensures.stays.0 ∙ (t.ensures.stays.0 ∙ w.ensures.stays.0) in
          let f = rw (y.ensures.stays.1, t.ensures.stays.1, w.ensures.stays.1) at c.update_member.ensures.kept in
          let under = moved _ _ base (y.ensures.stays.3 ∙ w.ensures.stays.3) (sub (fits S c.args.value.now) l (snd _ _ (snd _ _ is.2))) in
          f S names size st e under i p (omega (arith, q, base)) ∙ (y.ensures.kept i (omega (arith, q, t.ensures.stays.0, w.ensures.stays.0)) ∙ (w.ensures.came S names size st e (sub (fits S c.args.receiver.now) l is.1)).0 i p q),
      λ start k a.
          let step = MemberOf (text_of S c.args.name) c.args.op (erase c.args.value.now) c.args.at in
          let e1 = (w.ensures.came S names size st e (sub (fits S c.args.receiver.now) l is.1)).1 start (Then step ∷ k) a in
          let first = value_of w.result w.new.self.value in
          let g1 = given w.result w.new.self.value w.new.self.leave (sym c.is_left.ensures ∙ c.if-is_left.false) e1 in
          let reads = ReadOf (OfAttribute first (text_of S c.args.name)) c.args.op (erase c.args.value.now) c.args.at in
          let base = t.ensures.stays.0 ∙ w.ensures.stays.0 in
          let f = rw (t.ensures.stays.1, w.ensures.stays.1, t.ensures.stays.2, t.ensures.stays.3, t.ensures.value) at y.ensures.came in
          let e2 = f S start (Then reads ∷ k) names st e (same_is _ _ is.0) (omega (arith, l.within, l.below, base)) (omega (arith, l.room, base, w.ensures.stays.3)) (on _ g1 refl) in
          let g2 = given y.result y.new.self.value y.new.self.leave (sym c.is_left-2.ensures ∙ c.if-is_left-2.false) e2 in
          let h1 = rw (y.ensures.stays.1, t.ensures.stays.1, w.ensures.stays.1, t.ensures.value) at c.update_member.ensures.came in
          let under = moved _ _ (y.ensures.stays.0 ∙ base) (y.ensures.stays.3 ∙ w.ensures.stays.3) (sub (written_by c.args.writer c.args.name (λ S. fits S c.args.value.now) S) l is.2) in
          h1 c.args.name S start k names size st e under g2,
    )

pub store_by-returns-then-is_left-clause-came : goal.store_by-returns-then-is_left-clause-came
store_by-returns-then-is_left-clause-came g m c = λ S names size st e l. (
  λ i p q. (c.walk-came.ensures.came S names size st e (sub (fits S c.args.receiver.now) l (fst _ _ (snd _ _ l.fits)))).0 i p q,
  λ start k a.
      let w = c.walk-came in
      let step = ReceiverToStore (text_of S c.args.name) (map erase c.args.args.now) c.args.at in
      let come = (w.ensures.came S names size st e (sub (fits S c.args.receiver.now) l (fst _ _ (snd _ _ l.fits)))).1 start (Then step ∷ k) a in
      passes S _ start _ w.result w.new.self.value w.new.self.leave _ step k _ _ _ (sym c.is_left.ensures ∙ c.if-is_left.true) come,
)

pub store_by-returns-then-is_left-2-clause-came : goal.store_by-returns-then-is_left-2-clause-came
store_by-returns-then-is_left-2-clause-came g m c = λ S names size st e l.
    let w = c.walk-came in
    let t = c.take-receiver in
    let under = moved _ _ (t.ensures.stays.0 ∙ w.ensures.stays.0) w.ensures.stays.3 (sub (every (map (fits S) c.args.args.now)) l (snd _ _ (snd _ _ l.fits))) in (
      λ i p q.
          let first = (w.ensures.came S names size st e (sub (fits S c.args.receiver.now) l (fst _ _ (snd _ _ l.fits)))).0 i p q in
          let f = rw (t.ensures.stays.1, w.ensures.stays.1) at c.arguments-came.ensures.kept in
          f S names size st e under i p (omega (arith, q, t.ensures.stays.0, w.ensures.stays.0)) ∙ first,
      λ start k a.
          let step = ReceiverToStore (text_of S c.args.name) (map erase c.args.args.now) c.args.at in
          let come = (w.ensures.came S names size st e (sub (fits S c.args.receiver.now) l (fst _ _ (snd _ _ l.fits)))).1 start (Then step ∷ k) a in
          let v = value_of w.result w.new.self.value in
          let g1 = given w.result w.new.self.value w.new.self.leave (sym c.is_left.ensures ∙ c.if-is_left.false) come in
          let f = rw (t.ensures.stays.1, w.ensures.stays.1, t.ensures.stays.2, t.ensures.stays.3) at c.arguments-came.ensures.came in
          let p = f (Storing v (text_of S c.args.name)) c.args.at S start k names size st e under (on _ g1 refl) in
          p.0 (sym c.is_left-2.ensures ∙ c.if-is_left-2.true),
    )

pub store_by-returns-in-Some-target_of-clause-came : goal.store_by-returns-in-Some-target_of-clause-came
store_by-returns-in-Some-target_of-clause-came g m c = λ S names size st e l.
    let w = c.walk-came in
    let t = c.take-receiver in
    let under = moved _ _ (t.ensures.stays.0 ∙ w.ensures.stays.0) w.ensures.stays.3 (sub (every (map (fits S) c.args.args.now)) l (snd _ _ (snd _ _ l.fits))) in (
      λ i p q.
          let first = (w.ensures.came S names size st e (sub (fits S c.args.receiver.now) l (fst _ _ (snd _ _ l.fits)))).0 i p q in
          let f = rw (t.ensures.stays.1, w.ensures.stays.1) at c.arguments-came.ensures.kept in
          c.store_with.ensures.kept i (omega (arith, q, t.ensures.stays.0, w.ensures.stays.0)) ∙ (f S names size st e under i p (omega (arith, q, t.ensures.stays.0, w.ensures.stays.0)) ∙ first),
      λ start k a.
          let step = ReceiverToStore (text_of S c.args.name) (map erase c.args.args.now) c.args.at in
          let come = (w.ensures.came S names size st e (sub (fits S c.args.receiver.now) l (fst _ _ (snd _ _ l.fits)))).1 start (Then step ∷ k) a in
          let v = value_of w.result w.new.self.value in
          let g1 = given w.result w.new.self.value w.new.self.leave (sym c.is_left.ensures ∙ c.if-is_left.false) come in
          let f = rw (t.ensures.stays.1, w.ensures.stays.1, t.ensures.stays.2, t.ensures.stays.3) at c.arguments-came.ensures.came in
          let p = f (Storing v (text_of S c.args.name)) c.args.at S start k names size st e under (on _ g1 refl) in
          let r = c.arguments-came in
          let came = sym c.is_left-2.ensures ∙ c.if-is_left-2.false in
          let base = t.new.self.base in
          let long : base + length c.args.args.now ≤ length r.new.room = omega (arith, r.ensures.base came, r.ensures.fits under.room) in
          let values = map plain (take (length c.args.args.now) (drop base r.new.room)) in
          let target = rw (r.ensures.context, t.ensures.stays.1, w.ensures.stays.1, t.ensures.value) at c.in-Some-target_of.ensures.some in
          let entered = same (on _ (p.1 came) refl) (by_receiver S v (me_of (Some c.in-Some-target_of.target.object)) (text_of S c.args.name) (erase_method c.in-Some-target_of.target.method.now) values c.args.at (Then (Instead (last_value S values)) ∷ k) _ _ _ (target.finds S st) target.me) in
          let h1 = rw (r.ensures.context, t.ensures.stays.1, w.ensures.stays.1) at c.store_with.ensures.came in
          h1 S start k names st e (target.right S st) (omega (arith, under.within, under.below)) long entered,
    )

pub store_by-returns-clause-came : goal.store_by-returns-clause-came
store_by-returns-clause-came g m c = λ S names size st e l.
    let w = c.walk-came in
    let t = c.take-receiver in
    let under = moved _ _ (t.ensures.stays.0 ∙ w.ensures.stays.0) w.ensures.stays.3 (sub (every (map (fits S) c.args.args.now)) l (snd _ _ (snd _ _ l.fits))) in (
      λ i p q.
          let first = (w.ensures.came S names size st e (sub (fits S c.args.receiver.now) l (fst _ _ (snd _ _ l.fits)))).0 i p q in
          let f = rw (t.ensures.stays.1, w.ensures.stays.1) at c.arguments-came.ensures.kept in
          f S names size st e under i p (omega (arith, q, t.ensures.stays.0, w.ensures.stays.0)) ∙ first,
      λ start k a.
          let step = ReceiverToStore (text_of S c.args.name) (map erase c.args.args.now) c.args.at in
          let come = (w.ensures.came S names size st e (sub (fits S c.args.receiver.now) l (fst _ _ (snd _ _ l.fits)))).1 start (Then step ∷ k) a in
          let v = value_of w.result w.new.self.value in
          let g1 = given w.result w.new.self.value w.new.self.leave (sym c.is_left.ensures ∙ c.if-is_left.false) come in
          let f = rw (t.ensures.stays.1, w.ensures.stays.1, t.ensures.stays.2, t.ensures.stays.3) at c.arguments-came.ensures.came in
          let p = f (Storing v (text_of S c.args.name)) c.args.at S start k names size st e under (on _ g1 refl) in
          let r = c.arguments-came in
          let came = sym c.is_left-2.ensures ∙ c.if-is_left-2.false in
          let values = map plain (take (length c.args.args.now) (drop t.new.self.base r.new.room)) in
          let none = (rw (r.ensures.context, t.ensures.stays.1, w.ensures.stays.1, t.ensures.value) at (c.target_of.ensures.none c.in-None.is)) S st in
          let base = t.new.self.base in
          let long : base + length c.args.args.now ≤ length r.new.room = omega (arith, r.ensures.base came, r.ensures.fits under.room) in
          let o = c.store_builtin.ensures in
          let number = same_is (builtin_of (text_of S c.args.name)) c.args.method (fst _ _ l.fits) in
          let h1 = rw (r.ensures.context, t.ensures.stays.1, w.ensures.stays.1, t.ensures.value, c.passed.ensures long) at (o.came (text_of S c.args.name) number) in
          stores_builtin S _ start _ _ _ _ _ _ _ _ _ _ c.args.self.now.context.program.now v (text_of S c.args.name) values c.args.at none e h1 (on _ (p.1 came) refl),
    )

pub begin_other-returns-in-SelfRef-clause-came : goal.begin_other-returns-in-SelfRef-clause-came
begin_other-returns-in-SelfRef-clause-came g m c = λ S names size st e l. (
  λ i p q. refl,
  λ start k a.
      let o = c.give_self.ensures in
      rw (o.gives, o.stays.2, o.stays.3) (begins _ _ k _ _ _ (shows-self_ref c.args.code.now c.in-SelfRef.field-0 c.in-SelfRef.is) a),
)

pub begin_other-returns-in-Start-clause-came : goal.begin_other-returns-in-Start-clause-came
begin_other-returns-in-Start-clause-came g m c = λ S names size st e l.
    let x = c.in-Start in
    let s = sym (ap (λ d. fits S d names size) x.is ∙ fits-start S names size x.args x.body x.slots x.at) ∙ l.fits in
    let inside = sub _ l (rw (c.as_slice-in-Start.ensures, c.as_slice-in-Start-2.ensures) s) in (
      λ i p q. (c.begin_thread.ensures.came S names size st e inside).0 i p q,
      λ start k a. (c.begin_thread.ensures.came S names size st e inside).1 start k (rw c.as_slice-in-Start.ensures (begins _ _ k _ _ _ (shows-start c.args.code.now x.args x.body x.slots x.at x.is) a)),
    )

pub begin_global-returns-in-Global-clause-came : goal.begin_global-returns-in-Global-clause-came
begin_global-returns-in-Global-clause-came g m c = λ S names size st e l. (
  λ i p q. refl,
  λ start k a.
      let o = c.ask_apart.ensures in
      let x = c.in-Global in
      let sc = scope_of (me_of c.args.self.now.context.me) names c.args.room.now in
      let b = begins _ _ k _ _ _ (shows-global c.args.code.now x.name x.at x.is) a in
      rw o.stays.2 (o.came S start k sc c.args.depth (same b (ap (λ v. ask_of v (GetField x.name) x.at k sc c.args.depth c.args.self.now.left) (sym c.globals.ensures)))),
)

pub begin_global-returns-in-SetGlobal-clause-came : goal.begin_global-returns-in-SetGlobal-clause-came
begin_global-returns-in-SetGlobal-clause-came g m c = λ S names size st e l.
    let x = c.in-SetGlobal in
    let s = sym (ap (λ d. fits S d names size) x.is ∙ fits-set_global S names size x.name x.value x.at) ∙ l.fits in (
      λ i p q. c.set_field.ensures.kept S names size st e (sub _ l (rw c.get.ensures s)) i p q,
      λ start k a. c.set_field.ensures.came (GlobalTo x.name x.at) (globally c.globals-in-SetGlobal.ensures) S start k names size st e (sub _ l (rw c.get.ensures s)) (rw c.get.ensures (begins _ _ k _ _ _ (shows-set_global c.args.code.now x.name x.value x.at x.is) a)),
    )

pub begin_global-returns-in-UpdateGlobal-clause-came : goal.begin_global-returns-in-UpdateGlobal-clause-came
begin_global-returns-in-UpdateGlobal-clause-came g m c = λ S names size st e l.
    let x = c.in-UpdateGlobal in
    let s = sym (ap (λ d. fits S d names size) x.is ∙ fits-update_global S names size x.name x.op x.value x.at) ∙ l.fits in
    let promise = c.update_field.ensures.came (OfGlobal x.name) (of_all c.globals-in-UpdateGlobal.ensures) S names size st e (sub _ l (rw c.get-in-UpdateGlobal.ensures s)) in (
      promise.0,
      λ start k a.
          let b = same (begins _ _ k _ _ _ (shows-update_global c.args.code.now x.name x.op x.value x.at x.is) a) (target_global S x.name x.op (erase x.value) x.at k (scope_of (me_of c.args.self.now.context.me) names c.args.room.now) c.args.depth c.args.self.now.left) in
          promise.1 start k (rw c.get-in-UpdateGlobal.ensures b),
    )

pub begin_thread-returns-then-is_left-clause-came : goal.begin_thread-returns-then-is_left-clause-came
begin_thread-returns-then-is_left-clause-came g m c = λ S names size st e l.
    let inside = sub (every (map (fits S) c.args.args.now)) l (snd _ _ l.fits) in (
      λ i p q. c.arguments-came.ensures.kept S names size st e inside i p q,
      λ start k a. (c.arguments-came.ensures.came (Threading c.args.body) c.args.at S start k names size st e inside a).0 (sym c.is_left.ensures ∙ c.if-is_left.true),
    )

pub begin_thread-returns-clause-came : goal.begin_thread-returns-clause-came
begin_thread-returns-clause-came g m c = λ S names size st e l.
    let y = c.arguments-came in
    let inside = sub (every (map (fits S) c.args.args.now)) l (snd _ _ l.fits) in (
      λ i p q. y.ensures.kept S names size st e inside i p q,
      λ start k a.
          let both = y.ensures.came (Threading c.args.body) c.args.at S start k names size st e inside a in
          let came = sym c.is_left.ensures ∙ c.if-is_left.false in
          let edge = y.ensures.fits l.room in
          let last = y.ensures.base came in
          let long : c.args.self.now.base + length c.args.args.now ≤ length y.new.room = up_to_end c.args.self.now.base _ _ (length c.args.args.now) edge last in
          let values = c.passed.ensures long in
          let f = rw (y.ensures.context, values) at c.start.ensures.came in
          let have = fst (have_slots (S.captured_names c.args.body) names c.args.slots.now) (every (map (fits S) c.args.args.now) names size) l.fits in
          let short : length names ≤ length y.new.room = omega (arith, l.within, l.below, l.room, y.ensures.room) in
          rw c.start.ensures.stays.2 (f S start k names c.args.depth e have short (on _ (both.1 came) refl)),
    )

pub synchronize-returns-then-is_left-clause-came : goal.synchronize-returns-then-is_left-clause-came
synchronize-returns-then-is_left-clause-came g m c = λ S names size st e l. (
  λ i p q. refl,
  λ start k a.
      let y = c.ask_apart-taken in
      let step = Locked (thing_of c.args.mutex) (erase_block c.args.block.now) c.args.at in
      let come = y.ensures.came S start (Then step ∷ k) (scope_of (me_of c.args.self.now.context.me) names c.args.room.now) c.args.depth a in
      rw y.ensures.stays.2 (passes S _ start _ y.result y.new.self.value y.new.self.leave _ step k _ _ _ (sym c.is_left.ensures ∙ c.if-is_left.true) come),
)

pub synchronize-returns-clause-came : goal.synchronize-returns-clause-came
synchronize-returns-clause-came g m c = λ S names size st e l.
    let y = c.ask_apart-taken in
    let inside = moved _ _ y.ensures.stays.0 refl l in
    let z = c.owning-came in
    let o = c.give_back.ensures in (
      λ i p q.
          let f = rw y.ensures.stays.1 at z.ensures.kept in
          f S names size st e inside i p (omega (arith, q, y.ensures.stays.0)),
      λ start k a.
          let block = c.args.block.now in
          let own = S.block_names block.at in
          let step = Locked (thing_of c.args.mutex) (erase_block block) c.args.at in
          let come = y.ensures.came S start (Then step ∷ k) (scope_of (me_of c.args.self.now.context.me) names c.args.room.now) c.args.depth a in
          let g1 = given y.result y.new.self.value y.new.self.leave (sym c.is_left.ensures ∙ c.if-is_left.false) come in
          let f = rw (y.ensures.stays.1, y.ensures.stays.2) at z.ensures.came in
          let inner = f (thing_of c.args.mutex) c.args.at S start k names size st e inside (on _ g1 refl) in
          let long : length names ≤ length z.new.room = omega (arith, l.within, l.below, l.room, z.ensures.stays.3) in
          let back_to = rw (z.ensures.stays.1, y.ensures.stays.1) at o.came in
          let outer = back_to (erase_block block) S start k (scope_of (me_of c.args.self.now.context.me) (names ++ own) z.new.room) c.args.depth (length names) inner in
          let log = g.O.ThreadStore.log c.give_back.new.self.store in
          let private = g.O.ThreadStore.private c.give_back.new.self.store in
          let how = outcome c.give_back.result c.give_back.new.self.value c.give_back.new.self.leave in
          rw o.stays.2 (subst (λ sc. Came S c.args.self.now.context.steps start log private how k sc c.args.depth z.new.self.left) (back_is (me_of c.args.self.now.context.me) names own z.new.room long) outer),
    )

pub owning-returns-then-self-eq0-clause-came : goal.owning-returns-then-self-eq0-clause-came
owning-returns-then-self-eq0-clause-came g m c = λ mutex at S start k names size st e l a.
    let o = c.over.ensures in
    rw (o.gives, o.stays.2, o.stays.3) (no_owning mutex _ at k _ _ _ c.if-self-eq0.true a)

pub owning-returns-then-room-from-clause-came : goal.owning-returns-then-room-from-clause-came
owning-returns-then-room-from-clause-came g m c = λ mutex at S start k names size st e l a.
    let o = c.over-then-room-from.ensures in
    rw (o.gives, o.stays.2, o.stays.3) (_, a, owning_left S mutex (erase_block c.args.block.now) at k _ _ _)

pub owning-returns-clause-kept : goal.owning-returns-clause-kept
owning-returns-clause-kept g m c = λ S names size st e l i p q.
    let block = c.args.block.now in
    let within = deeper S block (moved _ _ refl c.open_block.ensures.room l) in
    let edge = ends_within S block l in
    let f = rw c.as_slice.ensures at c.body.ensures.came in
    (f S (names ++ S.block_names block.at) size st e within).0 i p q ∙ c.open_block.ensures.above i (omega (arith, p, edge))

pub owning-returns-clause-came : goal.owning-returns-clause-came
owning-returns-clause-came g m c = λ mutex at S start k names size st e l a.
    let block = c.args.block.now in
    let own = S.block_names block.at in
    let some : 0 < c.args.self.now.left = omega (arith, c.if-self-eq0.false) in
    let t = owning_opens block c.args.room.now c.open_block.new.room mutex at l c.open_block.ensures.room some c.open_block.ensures.below c.open_block.ensures.within a in
    let within = deeper S block (moved _ _ refl c.open_block.ensures.room l) in
    let f = rw c.as_slice.ensures at c.body.ensures.came in
    (f S (names ++ own) size st e within).1 start (Owning mutex (erase_block block) at (length names) ∷ k) t

pub send_block-returns-in-Owned-clause-came : goal.send_block-returns-in-Owned-clause-came
send_block-returns-in-Owned-clause-came g m c = λ S names size st e l.
    let w = c.walk-came in
    let right = snd _ _ l.fits in
    let first = sub (fits S c.args.receiver.now) l (fst _ _ right) in
    let t = c.take-receiver.ensures in
    let y = c.arguments-came in
    let under = moved _ _ w.ensures.stays.0 w.ensures.stays.3 (sub (every (map (fits S) c.args.args.now)) l (fst _ _ (snd _ _ right))) in
    let o = c.iterations.ensures in
    let base : c.iterations.new.self.base ≡ c.args.self.now.base = o.stays.0 ∙ (t.stays.0 ∙ w.ensures.stays.0) in
    let inside = moved _ _ base (y.ensures.room ∙ w.ensures.stays.3) (sub (block_fits S c.args.block.now) l (snd _ _ (snd _ _ right))) in (
      λ i p q.
          let f = rw (t.stays.1, t.stays.0, w.ensures.stays.1) at y.ensures.kept in
          let stays = f S names size st e under i p (omega (arith, q, w.ensures.stays.0)) ∙ (w.ensures.came S names size st e first).0 i p q in
          let u = rw (o.stays.1, y.ensures.context, t.stays.1, w.ensures.stays.1) at c.synchronize.ensures.came in
          (u S names size st e inside).0 i p (omega (arith, q, base)) ∙ stays,
      λ start k a.
          let step = ReceiverOf (text_of S c.args.name) (map erase c.args.args.now) (Some (erase_block c.args.block.now)) c.args.at in
          let come = (w.ensures.came S names size st e first).1 start (Then step ∷ k) a in
          let none = sym c.is_left.ensures ∙ c.if-is_left.false in
          let v = value_of w.result w.new.self.value in
          let f = rw (t.stays.1, t.stays.0, t.stays.2, t.stays.3, w.ensures.stays.1) at y.ensures.came in
          let ends = f (OnReceiver v (text_of S c.args.name) (Some (erase_block c.args.block.now))) c.args.at S start k names size st e under (on _ (given w.result w.new.self.value w.new.self.leave none come) refl) in
          let at_end = ends.1 (sym c.is_left-2.ensures ∙ c.if-is_left-2.false) in
          let short : w.new.self.base ≤ length w.new.room = still_within w.ensures.stays.0 w.ensures.stays.3 l.room in
          let from = rw t.stays.0 at y.ensures.fits in
          let end = rw t.stays.0 at y.ensures.base in
          let edge = from short in
          let last = end (sym c.is_left-2.ensures ∙ c.if-is_left-2.false) in
          let passed = rw t.stays.0 at c.passed-args.ensures in
          let long : w.new.self.base + length c.args.args.now ≤ length y.new.room = up_to_end w.new.self.base _ _ (length c.args.args.now) edge last in
          let values = passed long in
          let number = same_is (builtin_of (text_of S c.args.name)) c.args.method (fst _ _ l.fits) in
          let args = map plain (take (length c.args.args.now) (drop w.new.self.base y.new.room)) in
          let answer = deed c.args.self.now.context.program.now v (text_of S c.args.name) args (Some (length c.args.block.now.params)) in
          let none_own = (rw (y.ensures.context, t.stays.1, w.ensures.stays.1, t.value) at (c.target_of.ensures.none c.in_default.is)) S st in
          let table = answers_block c.args.block.now v (text_of S c.args.name) args c.args.at answer none_own (ap (λ (ns : Program). deed ns v (text_of S c.args.name) args (Some (length c.args.block.now.params))) (sym e)) at_end in
          let said = rw (y.ensures.context, t.stays.1, w.ensures.stays.1, t.value, values, c.len.ensures, c.in-Owned.is) at o.opens in
          let turning = block_comes S _ start _ _ answer (Synchronizes (thing_of c.in-Owned.mutex)) (erase_block c.args.block.now) c.args.at k _ _ _ (said (text_of S c.args.name) number) table in
          let u = rw (o.stays.1, o.stays.2, o.stays.3, y.ensures.context, t.stays.1, w.ensures.stays.1) at c.synchronize.ensures.came in
          (u S names size st e inside).1 start k turning,
    )

pub begin-returns-in-Field-clause-came : goal.begin-returns-in-Field-clause-came
begin-returns-in-Field-clause-came g m c = λ S names size st e l. (
  λ i p q. refl,
  λ start k a.
      let o = c.field_apart.ensures in
      rw o.stays.2 (o.came S start k _ c.args.depth (begins _ _ k _ _ _ (shows-field c.args.code.now c.in-Field.name c.in-Field.at c.in-Field.is) a)),
)

pub begin_set_field-returns-in-SetField-clause-came : goal.begin_set_field-returns-in-SetField-clause-came
begin_set_field-returns-in-SetField-clause-came g m c = λ S names size st e l.
    let x = c.in-SetField in
    let s = sym (ap (λ d. fits S d names size) x.is ∙ fits-set_field S names size x.name x.value x.at) ∙ l.fits in (
      λ i p q. c.set_field.ensures.kept S names size st e (sub _ l (rw c.get.ensures s)) i p q,
      λ start k a. c.set_field.ensures.came (FieldTo x.name x.at) (fielded refl) S start k names size st e (sub _ l (rw c.get.ensures s)) (rw c.get.ensures (begins _ _ k _ _ _ (shows-set_field c.args.code.now x.name x.value x.at x.is) a)),
    )

pub begin_update_field-returns-in-Some-clause-came : goal.begin_update_field-returns-in-Some-clause-came
begin_update_field-returns-in-Some-clause-came g m c = λ S names size st e l. (
  λ i p q. refl,
  λ start k a.
      let x = c.in-UpdateField in
      let s = sym (ap (λ d. fits S d names size) x.is ∙ fits-update_field S names size x.name x.op x.value x.at) ∙ l.fits in
      let len : length names ≤ length c.args.room.now = omega (arith, l.within, l.below, l.room) in
      let b = same (begins _ _ k _ _ _ (shows-update_field c.args.code.now x.name x.op x.value x.at x.is) a) (target_field S x.name x.op (erase x.value) x.at k (scope_of (me_of c.args.self.now.context.me) names c.args.room.now) c.args.depth c.args.self.now.left) in
      let z : to_z w64 (of_z w64 c.in-Some.sum) ≡ c.in-Some.sum = search rules in
      rw (z, c.added.ensures.log) (c.in-Some.ensures.came S start k names size x.at st (rw c.get-value.ensures s) len (rw c.get-value.ensures b)),
)

pub begin_update_field-returns-in-None-clause-came : goal.begin_update_field-returns-in-None-clause-came
begin_update_field-returns-in-None-clause-came g m c = λ S names size st e l.
    let x = c.in-UpdateField in
    let s = sym (ap (λ d. fits S d names size) x.is ∙ fits-update_field S names size x.name x.op x.value x.at) ∙ l.fits in
    let y = c.added.ensures in
    let f = rw (y.stays.1, y.stays.0, y.log, y.still c.in-None.is, y.kept c.in-None.is) at c.update_field.ensures.came in
    let promise = f (OfField x.name) (of_self refl) S names size st e (sub _ l (rw c.get-value.ensures s)) in (
      promise.0,
      λ start k a.
          let b = same (begins _ _ k _ _ _ (shows-update_field c.args.code.now x.name x.op x.value x.at x.is) a) (target_field S x.name x.op (erase x.value) x.at k (scope_of (me_of c.args.self.now.context.me) names c.args.room.now) c.args.depth c.args.self.now.left) in
          promise.1 start k (rw c.get-value.ensures b),
    )

pub begin_new-returns-in-New-clause-came : goal.begin_new-returns-in-New-clause-came
begin_new-returns-in-New-clause-came g m c = λ S names size st e l.
    let x = c.in-New in
    let s = sym (ap (λ d. fits S d names size) x.is ∙ fits-new S names size x.class x.first x.name x.args x.at) ∙ l.fits in (
      λ i p q. (c.create.ensures.came S names size st e (sub _ l (rw c.as_slice.ensures s))).0 i p q,
      λ start k a. (c.create.ensures.came S names size st e (sub _ l (rw c.as_slice.ensures s))).1 start k (rw c.as_slice.ensures (begins _ _ k _ _ _ (shows-new c.args.code.now x.class x.first x.name x.args x.at x.is) a)),
    )

pub set_field-returns-then-is_left-clause-came : goal.set_field-returns-then-is_left-clause-came
set_field-returns-then-is_left-clause-came g m c = λ step is S start k names size st e l a.
    let w = c.evaluate_leaf-came in
    let come = (w.ensures.came S names size st e l).1 start (Then step ∷ k) a in
    passes S _ start _ w.result w.new.self.value w.new.self.leave _ step k _ _ _ (sym c.is_left.ensures ∙ c.if-is_left.true) come

pub set_field-returns-clause-kept : goal.set_field-returns-clause-kept
set_field-returns-clause-kept g m c = λ S names size st e l i p q. (c.evaluate_leaf-came.ensures.came S names size st e l).0 i p q

pub set_field-returns-clause-came : goal.set_field-returns-clause-came
set_field-returns-clause-came g m c = λ step is S start k names size st e l a.
    let w = c.evaluate_leaf-came in
    let come = (w.ensures.came S names size st e l).1 start (Then step ∷ k) a in
    let g1 = given w.result w.new.self.value w.new.self.leave (sym c.is_left.ensures ∙ c.if-is_left.false) come in
    let f = rw w.ensures.stays.1 at c.write_field.ensures.came in
    rw c.write_field.ensures.stays.2 (f S start k _ c.args.depth (fielded_by S _ start _ (me_of c.args.owner) c.args.name c.args.at step is (value_of w.result w.new.self.value) g1))

pub update_field-returns-then-is_left-clause-came : goal.update_field-returns-then-is_left-clause-came
update_field-returns-then-is_left-clause-came g m c = λ place is S names size st e l. (
  λ i p q. refl,
  λ start k a.
      let r = c.field-current in
      let step = ReadOf place c.args.op (erase c.args.value.now) c.args.at in
      let come = r.ensures.came S start (Then step ∷ k) (scope_of (me_of c.args.self.now.context.me) names c.args.room.now) c.args.depth (same a (read_so S _ _ c.args.name place c.args.op (erase c.args.value.now) c.args.at k (scope_of (me_of c.args.self.now.context.me) names c.args.room.now) c.args.depth _ refl is)) in
      rw r.ensures.stays.2 (passes S _ start _ r.result r.new.self.value r.new.self.leave _ step k _ _ _ (sym c.is_left.ensures ∙ c.if-is_left.true) come),
)

pub update_field-returns-then-is_true_now-clause-came : goal.update_field-returns-then-is_true_now-clause-came
update_field-returns-then-is_true_now-clause-came g m c = λ place is S names size st e l. (
  λ i p q. refl,
  λ start k a.
      let r = c.field-current in
      let step = ReadOf place c.args.op (erase c.args.value.now) c.args.at in
      let come = r.ensures.came S start (Then step ∷ k) (scope_of (me_of c.args.self.now.context.me) names c.args.room.now) c.args.depth (same a (read_so S _ _ c.args.name place c.args.op (erase c.args.value.now) c.args.at k (scope_of (me_of c.args.self.now.context.me) names c.args.room.now) c.args.depth _ refl is)) in
      let none = sym c.is_left.ensures ∙ c.if-is_left.false in
      let g1 = given r.result r.new.self.value r.new.self.leave none come in
      let t = sym (c.is_true_now.ensures none) ∙ c.if-is_true_now.true in
      rw r.ensures.stays.2 (comes S _ start _ _ k _ _ _ _ _ (gave r.result r.new.self.value r.new.self.leave none) (or_else_stays S _ start _ (value_of r.result r.new.self.value) place c.args.op (erase c.args.value.now) c.args.at c.in-OrElse.is t g1)),
)

pub update_field-returns-else-is_true_now-clause-came : goal.update_field-returns-else-is_true_now-clause-came
update_field-returns-else-is_true_now-clause-came g m c = λ place is S names size st e l.
    let r = c.field-current in (
      λ i p q.
          let f = rw r.ensures.stays.1 at c.set_field.ensures.kept in
          f S names size st e (moved _ _ r.ensures.stays.0 refl l) i p (omega (arith, q, r.ensures.stays.0)),
      λ start k a.
          let step = ReadOf place c.args.op (erase c.args.value.now) c.args.at in
          let come = r.ensures.came S start (Then step ∷ k) (scope_of (me_of c.args.self.now.context.me) names c.args.room.now) c.args.depth (same a (read_so S _ _ c.args.name place c.args.op (erase c.args.value.now) c.args.at k (scope_of (me_of c.args.self.now.context.me) names c.args.room.now) c.args.depth _ refl is)) in
          let none = sym c.is_left.ensures ∙ c.if-is_left.false in
          let g1 = given r.result r.new.self.value r.new.self.leave none come in
          let t = sym (c.is_true_now.ensures none) ∙ c.if-is_true_now.false in
          let f = rw (r.ensures.stays.1, r.ensures.stays.2) at c.set_field.ensures.came in
          f (WriteTo place c.args.at) (field_updated place is) S start k names size st e (moved _ _ r.ensures.stays.0 refl l) (or_else_goes S _ start _ (value_of r.result r.new.self.value) place c.args.op (erase c.args.value.now) c.args.at c.in-OrElse.is t g1),
    )

pub update_field-returns-then-not-is_true_now-clause-came : goal.update_field-returns-then-not-is_true_now-clause-came
update_field-returns-then-not-is_true_now-clause-came g m c = λ place is S names size st e l. (
  λ i p q. refl,
  λ start k a.
      let r = c.field-current in
      let step = ReadOf place c.args.op (erase c.args.value.now) c.args.at in
      let come = r.ensures.came S start (Then step ∷ k) (scope_of (me_of c.args.self.now.context.me) names c.args.room.now) c.args.depth (same a (read_so S _ _ c.args.name place c.args.op (erase c.args.value.now) c.args.at k (scope_of (me_of c.args.self.now.context.me) names c.args.room.now) c.args.depth _ refl is)) in
      let none = sym c.is_left.ensures ∙ c.if-is_left.false in
      let g1 = given r.result r.new.self.value r.new.self.leave none come in
      let t = sym (c.is_true_now-in-AndThen.ensures none) ∙ c.if-not-is_true_now.true in
      rw r.ensures.stays.2 (comes S _ start _ _ k _ _ _ _ _ (gave r.result r.new.self.value r.new.self.leave none) (and_then_stays S _ start _ (value_of r.result r.new.self.value) place c.args.op (erase c.args.value.now) c.args.at c.in-AndThen.is t g1)),
)

pub update_field-returns-else-not-is_true_now-clause-came : goal.update_field-returns-else-not-is_true_now-clause-came
update_field-returns-else-not-is_true_now-clause-came g m c = λ place is S names size st e l.
    let r = c.field-current in (
      λ i p q.
          let f = rw r.ensures.stays.1 at c.set_field-in-AndThen.ensures.kept in
          f S names size st e (moved _ _ r.ensures.stays.0 refl l) i p (omega (arith, q, r.ensures.stays.0)),
      λ start k a.
          let step = ReadOf place c.args.op (erase c.args.value.now) c.args.at in
          let come = r.ensures.came S start (Then step ∷ k) (scope_of (me_of c.args.self.now.context.me) names c.args.room.now) c.args.depth (same a (read_so S _ _ c.args.name place c.args.op (erase c.args.value.now) c.args.at k (scope_of (me_of c.args.self.now.context.me) names c.args.room.now) c.args.depth _ refl is)) in
          let none = sym c.is_left.ensures ∙ c.if-is_left.false in
          let g1 = given r.result r.new.self.value r.new.self.leave none come in
          let t = sym (c.is_true_now-in-AndThen.ensures none) ∙ c.if-not-is_true_now.false in
          let f = rw (r.ensures.stays.1, r.ensures.stays.2) at c.set_field-in-AndThen.ensures.came in
          f (WriteTo place c.args.at) (field_updated place is) S start k names size st e (moved _ _ r.ensures.stays.0 refl l) (and_then_goes S _ start _ (value_of r.result r.new.self.value) place c.args.op (erase c.args.value.now) c.args.at c.in-AndThen.is t g1),
    )

pub update_field-returns-then-is_left-2-clause-came : goal.update_field-returns-then-is_left-2-clause-came
update_field-returns-then-is_left-2-clause-came g m c = λ place is S names size st e l.
    let r = c.field-current in (
      λ i p q.
          let f = rw r.ensures.stays.1 at c.combine-made.ensures.came in
          (f S names size st e (moved _ _ r.ensures.stays.0 refl l)).0 i p (omega (arith, q, r.ensures.stays.0)),
      λ start k a.
          let step = ReadOf place c.args.op (erase c.args.value.now) c.args.at in
          let come = r.ensures.came S start (Then step ∷ k) (scope_of (me_of c.args.self.now.context.me) names c.args.room.now) c.args.depth (same a (read_so S _ _ c.args.name place c.args.op (erase c.args.value.now) c.args.at k (scope_of (me_of c.args.self.now.context.me) names c.args.room.now) c.args.depth _ refl is)) in
          let none = sym c.is_left.ensures ∙ c.if-is_left.false in
          let g1 = given r.result r.new.self.value r.new.self.leave none come in
          let y = c.combine-made in
          let f = rw (r.ensures.stays.1, r.ensures.stays.2) at y.ensures.came in
          let e2 = (f S names size st e (moved _ _ r.ensures.stays.0 refl l)).1 start (Then (WriteTo place c.args.at) ∷ k) (operates S _ start _ (value_of r.result r.new.self.value) place c.args.op (erase c.args.value.now) c.args.at c.in_default.not-OrElse c.in_default.not-AndThen g1) in
          passes S _ start _ y.result y.new.self.value y.new.self.leave _ (WriteTo place c.args.at) k _ _ _ (sym c.is_left-in_default.ensures ∙ c.if-is_left-2.true) e2,
    )

pub create-returns-then-is_left-clause-came : goal.create-returns-then-is_left-clause-came
create-returns-then-is_left-clause-came g m c = λ S names size st e l. (
  λ i p q. c.arguments-came.ensures.kept S names size st e (sub (every (map (fits S) c.args.args.now)) l (snd _ _ l.fits)) i p q,
  λ start k a.
      let both = c.arguments-came.ensures.came (Creating c.args.name) c.args.at S start k names size st e (sub (every (map (fits S) c.args.args.now)) l (snd _ _ l.fits)) a in
      both.0 (sym c.is_left.ensures ∙ c.if-is_left.true),
)

pub begin_own-returns-in-Some-clause-came : goal.begin_own-returns-in-Some-clause-came
begin_own-returns-in-Some-clause-came g m c = λ S names size st e l.
    let is = unnamed_is S c.args.name (λ s. every (map (fits s) c.args.args.now)) names size l.fits in (
      λ i p q. (c.own.ensures.came S names size st e (sub (every (map (fits S) c.args.args.now)) l is.2)).0 i p q,
      λ start k a. (c.own.ensures.came S names size st e (sub (every (map (fits S) c.args.args.now)) l is.2)).1 start k a,
    )

pub begin_own-returns-then-is_left-clause-came : goal.begin_own-returns-then-is_left-clause-came
begin_own-returns-then-is_left-clause-came g m c = λ S names size st e l.
    let is = unnamed_is S c.args.name (λ s. every (map (fits s) c.args.args.now)) names size l.fits in (
      λ i p q. c.arguments-came.ensures.kept S names size st e (sub (every (map (fits S) c.args.args.now)) l is.2) i p q,
      λ start k a.
          let both = c.arguments-came.ensures.came (ByName c.args.name) c.args.at S start k names size st e (sub (every (map (fits S) c.args.args.now)) l is.2) a in
          both.0 (sym c.is_left.ensures ∙ c.if-is_left.true),
    )

pub begin_own-returns-clause-came : goal.begin_own-returns-clause-came
begin_own-returns-clause-came g m c = λ S names size st e l.
    let is = unnamed_is S c.args.name (λ s. every (map (fits s) c.args.args.now)) names size l.fits in (
      λ i p q. c.arguments-came.ensures.kept S names size st e (sub (every (map (fits S) c.args.args.now)) l is.2) i p q,
      λ start k a.
          let y = c.arguments-came in
          let both = y.ensures.came (ByName c.args.name) c.args.at S start k names size st e (sub (every (map (fits S) c.args.args.now)) l is.2) a in
          let came = sym c.is_left.ensures ∙ c.if-is_left.false in
          let o = c.raise.ensures in
          rw (o.gives, o.stays.2, o.stays.3) (same (on _ (both.1 came) refl) (found_nowhere S c.args.name (map plain (take (length c.args.args.now) (drop c.args.self.now.base y.new.room))) c.args.at k _ _ _ (c.own_target.ensures.none c.in_default.is S st) is.0 is.1)),
    )

pub begin_other-returns-in-Own-clause-came : goal.begin_other-returns-in-Own-clause-came
begin_other-returns-in-Own-clause-came g m c = λ S names size st e l.
    let x = c.in-Own in
    let s = sym (ap (λ d. fits S d names size) x.is ∙ fits-own S names size x.name x.args x.at) ∙ l.fits in (
      λ i p q. (c.begin_own.ensures.came S names size st e (sub _ l (rw c.as_slice-in-Own.ensures s))).0 i p q,
      λ start k a. (c.begin_own.ensures.came S names size st e (sub _ l (rw c.as_slice-in-Own.ensures s))).1 start k (rw c.as_slice-in-Own.ensures (begins _ _ k _ _ _ (shows-own c.args.code.now x.name x.args x.at x.is) a)),
    )

pub update_field-returns-else-is_left-2 : goal.update_field-returns-else-is_left-2
update_field-returns-else-is_left-2 g m c =
    let r = c.field-current in
    let y = c.combine-made in
    let z = c.write_field.ensures in
    record {
      stays = (
        z.stays.0 ∙ (y.ensures.stays.0 ∙ r.ensures.stays.0),
        z.stays.1 ∙ (y.ensures.stays.1 ∙ r.ensures.stays.1),
        omega (arith, z.stays.2, y.ensures.stays.2, r.ensures.stays.2),
        y.ensures.stays.3,
      );
      came = λ place is S names size st e l.
          let f = rw (r.ensures.stays.1, r.ensures.stays.2) at y.ensures.came in
          let promise = f S names size st e (moved _ _ r.ensures.stays.0 refl l) in (
            λ i p q. promise.0 i p (omega (arith, q, r.ensures.stays.0)),
            λ start k a.
                let come = r.ensures.came S start (Then (ReadOf place c.args.op (erase c.args.value.now) c.args.at) ∷ k) (scope_of (me_of c.args.self.now.context.me) names c.args.room.now) c.args.depth (same a (read_so S _ _ c.args.name place c.args.op (erase c.args.value.now) c.args.at k (scope_of (me_of c.args.self.now.context.me) names c.args.room.now) c.args.depth _ refl is)) in
                let none = sym c.is_left.ensures ∙ c.if-is_left.false in
                let g1 = given r.result r.new.self.value r.new.self.leave none come in
                let e2 = promise.1 start (Then (WriteTo place c.args.at) ∷ k) (operates S _ start _ (value_of r.result r.new.self.value) place c.args.op (erase c.args.value.now) c.args.at c.in_default.not-OrElse c.in_default.not-AndThen g1) in
                let g2 = given y.result y.new.self.value y.new.self.leave (sym c.is_left-in_default.ensures ∙ c.if-is_left-2.false) e2 in
                let h1 = rw (y.ensures.stays.1, r.ensures.stays.1) at z.came in
                rw z.stays.2 (h1 S start k _ c.args.depth (fielded_by S _ start _ (me_of c.args.owner) c.args.name c.args.at (WriteTo place c.args.at) (field_updated place is) (value_of y.result y.new.self.value) g2)),
          );
    }

pub create-returns-in_default-clause-came : goal.create-returns-in_default-clause-came
create-returns-in_default-clause-came g m c = λ S names size st e l. (
  λ i p q. c.arguments-came.ensures.kept S names size st e (sub (every (map (fits S) c.args.args.now)) l (snd _ _ l.fits)) i p q,
  λ start k a.
      let y = c.arguments-came in
      let both = y.ensures.came (Creating c.args.name) c.args.at S start k names size st e (sub (every (map (fits S) c.args.args.now)) l (snd _ _ l.fits)) a in
      let values = map plain (take (length c.args.args.now) (drop c.args.self.now.base y.new.room)) in
      let o = c.over.ensures in
      rw (o.gives, o.stays.2, o.stays.3, c.in_default.ensures.err, c.make.ensures.log) (_, same (on _ (both.1 (sym c.is_left.ensures ∙ c.if-is_left.false)) refl) (created_from S c.args.class c.args.first c.args.name values c.args.at k _ _ _ (fst _ _ l.fits)), refl),
)

pub create-returns-clause-came : goal.create-returns-clause-came
create-returns-clause-came g m c = λ S names size st e l. (
  λ i p q. c.initialize.ensures.kept i (omega (arith, q)) ∙ c.arguments-came.ensures.kept S names size st e (sub (every (map (fits S) c.args.args.now)) l (snd _ _ l.fits)) i p q,
  λ start k a.
      let y = c.arguments-came in
      let both = y.ensures.came (Creating c.args.name) c.args.at S start k names size st e (sub (every (map (fits S) c.args.args.now)) l (snd _ _ l.fits)) a in
      let none = sym c.is_left.ensures ∙ c.if-is_left.false in
      let count = length c.args.args.now in
      let base = c.args.self.now.base in
      let long : base + count ≤ length y.new.room = omega (arith, y.ensures.base none, y.ensures.fits l.room) in
      let values = map plain (take count (drop base y.new.room)) in
      let o = c.in-Ok.ensures in
      let made = created S _ start _ _ _ c.in-Ok.object c.args.class c.args.first c.args.name values c.args.at k _ _ _ (fst _ _ l.fits) o.id o.sort o.private (on _ (both.1 none) refl) in
      let f = rw (y.ensures.context, c.make.ensures.log) at c.initialize.ensures.came in
      f c.args.name S start k names st e (fst _ _ l.fits) (omega (arith, l.within, l.below)) long made,
)

pub initialize-returns-then-count-gt0-clause-came : goal.initialize-returns-then-count-gt0-clause-came
initialize-returns-then-count-gt0-clause-came g m c = λ name S start k names st e is le long a.
    let values = map plain (take c.args.count (drop c.args.self.now.base c.args.room.now)) in
    let made = rw c.in_default.is at is in
    let some : length values ≡ 0 → ⊥ = λ z. omega (arith, z, c.if-count-gt0.true, len_map plain (take c.args.count (drop c.args.self.now.base c.args.room.now)), len_args c.args.room.now c.args.self.now.base c.args.count long) in
    let o = c.raise.ensures in
    rw (o.gives, o.stays.2, o.stays.3) (same a (takes_none c.args.self.now.context.script.now S st c.args.object c.args.class name values c.args.at k _ _ _ c.requires.class made some))

pub initialize-returns-in_default-clause-came : goal.initialize-returns-in_default-clause-came
initialize-returns-in_default-clause-came g m c = λ name S start k names st e is le long a.
    let values = map plain (take c.args.count (drop c.args.self.now.base c.args.room.now)) in
    let made = rw c.in_default.is at is in
    let none : length values ≡ 0 = omega (arith, c.if-count-gt0.false, len_map plain (take c.args.count (drop c.args.self.now.base c.args.room.now)), len_args c.args.room.now c.args.self.now.base c.args.count long) in
    let o = c.give_thing.ensures in
    rw (o.gives, o.stays.2, o.stays.3) (same a (is_ready c.args.self.now.context.script.now S st c.args.object c.args.class name values c.args.at k _ _ _ c.requires.class made none))

pub initialize-returns-in_default-method_at-clause-came : goal.initialize-returns-in_default-method_at-clause-came
initialize-returns-in_default-method_at-clause-came g m c = λ name S start k names st e is le long a.
    let values = map plain (take c.args.count (drop c.args.self.now.base c.args.room.now)) in
    let o = c.over.ensures in
    rw (o.stays.2, o.stays.3) (cut S _ start _ _ _ k _ _ _ _ o.gives a (initialize_left S (me_of (Some c.args.object)) values c.args.at k _ _ _))

pub initialize-returns-then-is_left-clause-kept : goal.initialize-returns-then-is_left-clause-kept
initialize-returns-then-is_left-clause-kept g m c = c.enter_first-came.ensures.kept

pub initialize-returns-then-is_left-clause-came : goal.initialize-returns-then-is_left-clause-came
initialize-returns-then-is_left-clause-came g m c = λ name S start k names st e is le long a.
    let script = c.args.self.now.context.script.now in
    let values = map plain (take c.args.count (drop c.args.self.now.base c.args.room.now)) in
    let made = rw c.in-Some.is at is in
    let held : method_at c.script.result.now c.args.class c.in-Some.number ≡ Some c.in-Some-method_at.method.now = sym c.method_at.ensures ∙ ap option_copied c.in-Some-method_at.is in
    let found : method_at script c.args.class c.in-Some.number ≡ Some c.in-Some-method_at.method.now = rw c.script.ensures at held in
    let entered = same a (initializes script S st c.args.object c.args.class c.in-Some.number name c.in-Some-method_at.method.now values c.args.at k _ _ _ c.requires.class made found) in
    let y = c.enter_first-came in
    let gone = sym c.is_left.ensures ∙ c.if-is_left.true in
    let come = y.ensures.came.0 gone S start (Then (Instead (me_of (Some c.args.object))) ∷ k) names st e (first_right script S st c.args.class c.in-Some.number c.in-Some-method_at.method.now found) le long entered in
    passes S _ start _ y.result y.new.self.value y.new.self.leave _ (Instead (me_of (Some c.args.object))) k _ _ _ gone come

pub initialize-returns-clause-kept : goal.initialize-returns-clause-kept
initialize-returns-clause-kept g m c = c.enter_first-came.ensures.kept

pub initialize-returns-clause-came : goal.initialize-returns-clause-came
initialize-returns-clause-came g m c = λ name S start k names st e is le long a.
    let script = c.args.self.now.context.script.now in
    let values = map plain (take c.args.count (drop c.args.self.now.base c.args.room.now)) in
    let made = rw c.in-Some.is at is in
    let held : method_at c.script.result.now c.args.class c.in-Some.number ≡ Some c.in-Some-method_at.method.now = sym c.method_at.ensures ∙ ap option_copied c.in-Some-method_at.is in
    let found : method_at script c.args.class c.in-Some.number ≡ Some c.in-Some-method_at.method.now = rw c.script.ensures at held in
    let entered = same a (initializes script S st c.args.object c.args.class c.in-Some.number name c.in-Some-method_at.method.now values c.args.at k _ _ _ c.requires.class made found) in
    let some = c.enter_first-came.ensures.came.1 (sym c.is_left.ensures ∙ c.if-is_left.false) in
    let g1 = some.1 S start (Then (Instead (me_of (Some c.args.object))) ∷ k) names st e (first_right script S st c.args.class c.in-Some.number c.in-Some-method_at.method.now found) le long entered in
    let o = c.give_thing-2.ensures in
    rw (o.gives, o.stays.2, o.stays.3) (on _ g1 refl)

pub write_member-returns-in_default-share-clause-came : goal.write_member-returns-in_default-share-clause-came
write_member-returns-in_default-share-clause-came g m c = λ name S start k names st e writes free le bound_ a.
    let script = c.args.self.now.context.script.now in
    let v = value_of c.args.came c.args.self.now.value in
    let receiver = plain c.args.receiver.now in
    let meth = c.in-Some.target.method.now in
    let to = me_of (Some c.in-Some.target.object) in
    let is = c.in-Some.ensures.some in
    let entered = same a (by_receiver S receiver to (text_of S name ++ codes "=") (erase_method meth) (v ∷ []) c.args.at (Then (Instead v) ∷ k) _ _ _ (writer_some script S st receiver c.args.writer name c.in-Some.target.object meth writes is) (writer_me script receiver c.args.writer c.in-Some.target.object meth is)) in
    let o = c.over.ensures in
    let n = c.entered_giving.ensures.none c.in_default-entered_giving.is ∙ c.entered_writing.ensures.none c.in_default-entered_writing.is in
    let t = c.take-value.ensures in
    rw (o.stays.2, o.stays.3, t.stays.2, t.stays.3, n) (cut S _ start _ _ _ k _ _ _ _ o.gives entered (enter_left S (erase_method meth) to (v ∷ []) c.args.at (Then (Instead v) ∷ k) _ _ _))

pub send_block-returns-in-Some-clause-came : goal.send_block-returns-in-Some-clause-came
send_block-returns-in-Some-clause-came g m c = λ S names size st e l.
    let w = c.walk-came in
    let right = snd _ _ l.fits in
    let first = sub (fits S c.args.receiver.now) l (fst _ _ right) in
    let t = c.take-receiver.ensures in
    let y = c.arguments-came in
    let under = moved _ _ w.ensures.stays.0 w.ensures.stays.3 (sub (every (map (fits S) c.args.args.now)) l (fst _ _ (snd _ _ right))) in (
      λ i p q.
          let f = rw (t.stays.1, t.stays.0, w.ensures.stays.1) at y.ensures.kept in
          f S names size st e under i p (omega (arith, q, w.ensures.stays.0)) ∙ (w.ensures.came S names size st e first).0 i p q,
      λ start k a.
          let block = Some (erase_block c.args.block.now) in
          let step = ReceiverOf (text_of S c.args.name) (map erase c.args.args.now) block c.args.at in
          let come = (w.ensures.came S names size st e first).1 start (Then step ∷ k) a in
          let none = sym c.is_left.ensures ∙ c.if-is_left.false in
          let v = value_of w.result w.new.self.value in
          let f = rw (t.stays.1, t.stays.0, t.stays.2, t.stays.3, w.ensures.stays.1) at y.ensures.came in
          let ends = f (OnReceiver v (text_of S c.args.name) block) c.args.at S start k names size st e under (on _ (given w.result w.new.self.value w.new.self.leave none come) refl) in
          let at_end = ends.1 (sym c.is_left-2.ensures ∙ c.if-is_left-2.false) in
          let values = map plain (take (length c.args.args.now) (drop w.new.self.base y.new.room)) in
          let target = rw (y.ensures.context, t.stays.1, w.ensures.stays.1, t.value) at c.in-Some.ensures.some in
          let o = c.raise.ensures in
          rw (o.gives, o.stays.2, o.stays.3) (same (on _ at_end refl) (blocked S v (text_of S c.args.name) _ values (erase_block c.args.block.now) c.args.at k _ _ _ (target.finds S st))),
    )

pub told-returns-in_default-clause-came : goal.told-returns-in_default-clause-came
told-returns-in_default-clause-came g m c = λ S start k names st e n b a.
    told_itself S _ start _ _ c.args.at k _ _ _ c.args.self.now.context.program.now c.args.came c.args.self.now.value c.args.self.now.leave e c.requires.came (registers_unasked S c.args.came c.args.self.now.value c.requires.came c.in_default.not-Other) (registers_plain c.args.came c.args.self.now.value c.requires.came c.in_default.not-Other) a

pub told-returns-in_default-asked_of-clause-came : goal.told-returns-in_default-asked_of-clause-came
told-returns-in_default-asked_of-clause-came g m c = λ S start k names st e n b a.
    let none = c.asked_of.ensures.none c.in_default-asked_of.is S st e in
    let o = c.told_plain.ensures in
    let v = value_of c.args.came c.args.self.now.value in
    let sc = scope_of (me_of c.args.self.now.context.me) names c.args.room.now in
    let own : own_text S v ≡ None = rw c.in-Other.is none in
    o.came S start k sc e (same a (ap (λ m. text_by S m v c.args.at k sc c.args.depth c.args.self.now.left) own))

pub told-returns-then-is_left-clause-came : goal.told-returns-then-is_left-clause-came
told-returns-then-is_left-clause-came g m c = λ S start k names st e n b a.
    let v = me_of (Some c.in-Some.target.object) in
    let w = c.enter-answer in
    let asked = c.in-Some.ensures.some in
    let entered = told_enters S _ start _ _ c.args.at k (scope_of (me_of c.args.self.now.context.me) names c.args.room.now) _ _ c.args.came c.args.self.now.value _ _ c.in-Some.target.object c.in-Some.target.method.now c.in-Other.is asked st e a in
    let come = w.ensures.came S start (Then (TextOf v) ∷ k) names st e (asked.right S st) n (omega (arith, b)) entered in
    told_leaving S _ start _ _ k _ _ _ v c.args.self.now.context.program.now w.result w.new.self.value w.new.self.leave (sym c.is_left.ensures ∙ c.if-is_left.true) come

pub told-returns-then-is_text_now-clause-came : goal.told-returns-then-is_text_now-clause-came
told-returns-then-is_text_now-clause-came g m c = λ S start k names st e n b a.
    let v = me_of (Some c.in-Some.target.object) in
    let w = c.enter-answer in
    let asked = c.in-Some.ensures.some in
    let entered = told_enters S _ start _ _ c.args.at k (scope_of (me_of c.args.self.now.context.me) names c.args.room.now) _ _ c.args.came c.args.self.now.value _ _ c.in-Some.target.object c.in-Some.target.method.now c.in-Other.is asked st e a in
    let come = w.ensures.came S start (Then (TextOf v) ∷ k) names st e (asked.right S st) n (omega (arith, b)) entered in
    let came = sym c.is_left.ensures ∙ c.if-is_left.false in
    told_answer S _ start _ _ k _ _ _ v c.args.self.now.context.program.now w.result w.new.self.value w.new.self.leave e came (sym (c.is_text_now.ensures came) ∙ c.if-is_text_now.true) come

pub told-returns-clause-came : goal.told-returns-clause-came
told-returns-clause-came g m c = λ S start k names st e n b a.
    let v = me_of (Some c.in-Some.target.object) in
    let w = c.enter-answer in
    let asked = c.in-Some.ensures.some in
    let entered = told_enters S _ start _ _ c.args.at k (scope_of (me_of c.args.self.now.context.me) names c.args.room.now) _ _ c.args.came c.args.self.now.value _ _ c.in-Some.target.object c.in-Some.target.method.now c.in-Other.is asked st e a in
    let come = w.ensures.came S start (Then (TextOf v) ∷ k) names st e (asked.right S st) n (omega (arith, b)) entered in
    let came = sym c.is_left.ensures ∙ c.if-is_left.false in
    let o = c.give.ensures in
    rw (o.stays.2, o.stays.3) (told_by_class S _ start _ _ k _ _ _ v c.args.self.now.context.program.now w.result w.new.self.value w.new.self.leave _ e came (sym (c.is_text_now.ensures came) ∙ c.if-is_text_now.false) o.gives come)

pub told_at-returns-in_default-clause-came : goal.told_at-returns-in_default-clause-came
told_at-returns-in_default-clause-came g m c = λ v there S start k names st e n b a.
    let o = c.over.ensures in
    rw (o.gives, o.stays.2, o.stays.3) (_, a, text_left S (plain v) c.args.at k _ _ _)

pub told_at-returns-then-is_left-clause-came : goal.told_at-returns-then-is_left-clause-came
told_at-returns-then-is_left-clause-came g m c = λ v there S start k names st e n b a.
    let r = c.read_shared-came in
    let left = copy_left r.result r.new.self.value r.new.self.leave _ (sym c.is_left.ensures ∙ c.if-is_left.true) r.ensures.gives in
    rw (left, r.ensures.stays.2, r.ensures.stays.3) (_, a, text_left S (plain v) c.args.at k _ _ _)

pub told_at-returns-clause-came : goal.told_at-returns-clause-came
told_at-returns-clause-came g m c = λ v there S start k names st e n b a.
    let r = c.read_shared-came in
    let copy = copy_came r.result r.new.self.value r.new.self.leave _ (sym c.is_left.ensures ∙ c.if-is_left.false) r.ensures.gives in
    let one = read_item c.args.room.now c.args.slot v c.in-Some.value.now there c.in-Some.ensures.lookup.1 in
    let f = rw (r.ensures.stays.1, r.ensures.stays.0, r.ensures.stays.2, r.ensures.stays.3, copy, one) at c.told.ensures.came in
    f S start k names st e n b a

pub print_texts-returns-then-room-first-clause-came : goal.print_texts-returns-then-room-first-clause-came
print_texts-returns-then-room-first-clause-came g m c = λ S start k names st e n b a.
    let o = c.over.ensures in
    rw (o.gives, o.stays.2, o.stays.3) (_, a, write_left S (style_of c.args.style) [] _ c.args.at k _ _ _)

pub print_texts-returns-clause-came : goal.print_texts-returns-clause-came
print_texts-returns-clause-came g m c = c.print_from-came.ensures.came

pub print_from-returns-then-is_left-clause-came : goal.print_from-returns-then-is_left-clause-came
print_from-returns-then-is_left-clause-came g m c = λ S start k names st e n b a.
    let loop = c.values in
    let inv = loop.invariant in
    let slot = c.args.first + loop.index in
    let within : slot < length loop.room = omega (arith, c.values-test.true, c.requires.within, inv.room) in
    let found = there loop.room slot within in
    let before = sym (inv.kept slot (omega (arith, c.values-test.true, c.requires.behind))) ∙ found.1 in
    let next = next_value c.args.room.now c.args.first c.args.count loop.index found.0 c.values-test.true before in
    let rest = drop (loop.index + 1) (map plain (take c.args.count (drop c.args.first c.args.room.now))) in
    let writes = writes_next S _ start _ _ (style_of c.args.style) loop.bytes.items _ c.args.at k _ _ _ (plain found.0) rest next (inv.came S start k names st e n a) in
    let f = rw (inv.context, inv.base) at (c.write_one-came.ensures.came found.0 found.1) in
    (f S start k names rest st e (omega (arith, n, c.requires.behind)) (omega (arith, c.requires.behind, c.requires.within, inv.room)) writes).0 (sym c.is_left.ensures ∙ c.if-is_left.true)

pub line-returns-in_default-clause-came : goal.line-returns-in_default-clause-came
line-returns-in_default-clause-came g m c = λ S start k names st e n b a.
    let y = c.over in
    let o = y.ensures in
    rw (o.gives, o.stays.2, o.stays.3) (left_only (is_left y.result) (ends_left y.result y.new.self.value y.new.self.leave ending.Memory o.gives) (_, a, text_left S (plain c.args.value.now) c.args.at (Under c.args.depth ∷ Then (LineOf c.args.draft.now c.args.at) ∷ k) _ _ _))

pub line-returns-in_default-clause-work : goal.line-returns-in_default-clause-work
line-returns-in_default-clause-work g m c = λ q.
    let y = c.over in
    let z = ends_left y.result y.new.self.value y.new.self.leave ending.Memory y.ensures.gives in
    absurd (cc)

pub line-returns-then-is_left-clause-came : goal.line-returns-then-is_left-clause-came
line-returns-then-is_left-clause-came g m c = λ S start k names st e n b a.
    let r = c.read_shared-shared in
    let gone = sym c.is_left.ensures ∙ c.if-is_left.true in
    let left = copy_left r.result r.new.self.value r.new.self.leave _ gone r.ensures.gives in
    rw (left, r.ensures.stays.2, r.ensures.stays.3) (left_only (is_left r.result) gone (_, a, text_left S (plain c.args.value.now) c.args.at (Under c.args.depth ∷ Then (LineOf c.args.draft.now c.args.at) ∷ k) _ _ _))

pub line-returns-then-is_left-clause-work : goal.line-returns-then-is_left-clause-work
line-returns-then-is_left-clause-work g m c = λ q.
    let gone = sym c.is_left.ensures ∙ c.if-is_left.true in
    absurd (never (is_left c.read_shared-shared.result) gone q)

pub line-returns-then-is_left-2-clause-came : goal.line-returns-then-is_left-2-clause-came
line-returns-then-is_left-2-clause-came g m c = λ S start k names st e n b a.
    let r = c.read_shared-shared in
    let copy = copy_came r.result r.new.self.value r.new.self.leave _ (sym c.is_left.ensures ∙ c.if-is_left.false) r.ensures.gives in
    let inside = rw c.depth.ensures at c.in-Some.ensures in
    let t = c.told-came in
    let f = rw (r.ensures.stays.1, r.ensures.stays.0, r.ensures.stays.2, r.ensures.stays.3, copy, inside) at t.ensures.came in
    let come = f S start (Under c.args.depth ∷ Then (LineOf c.args.draft.now c.args.at) ∷ k) names st e n b a in
    let gone = sym c.is_left-2.ensures ∙ c.if-is_left-2.true in
    left_only (is_left t.result) gone (line_passes S _ start _ _ c.args.draft.now c.args.at k _ _ _ _ c.args.self.now.context.program.now t.result t.new.self.value t.new.self.leave gone come)

pub line-returns-then-is_left-2-clause-work : goal.line-returns-then-is_left-2-clause-work
line-returns-then-is_left-2-clause-work g m c = λ q.
    let gone = sym c.is_left-2.ensures ∙ c.if-is_left-2.true in
    absurd (never (is_left c.told-came.result) gone q)

pub line-returns-clause-came : goal.line-returns-clause-came
line-returns-clause-came g m c = λ S start k names st e n b a.
    let r = c.read_shared-shared in
    let copy = copy_came r.result r.new.self.value r.new.self.leave _ (sym c.is_left.ensures ∙ c.if-is_left.false) r.ensures.gives in
    let inside = rw c.depth.ensures at c.in-Some.ensures in
    let t = c.told-came in
    let f = rw (r.ensures.stays.1, r.ensures.stays.0, r.ensures.stays.2, r.ensures.stays.3, copy, inside) at t.ensures.came in
    let come = f S start (Under c.args.depth ∷ Then (LineOf c.args.draft.now c.args.at) ∷ k) names st e n b a in
    let came = sym c.is_left-2.ensures ∙ c.if-is_left-2.false in
    let joins = told_line S _ start _ _ c.args.draft.now c.args.at k _ _ _ _ c.args.self.now.context.program.now t.result t.new.self.value t.new.self.leave came come in
    let y = c.add_line.ensures in
    let g1 = rw (t.ensures.stays.1, r.ensures.stays.1) at y.came in
    rw (y.stays.2, y.stays.3) (g1 S start k _ _ joins)

pub line-returns-clause-work : goal.line-returns-clause-work
line-returns-clause-work g m c = c.add_line.ensures.work

pub advance_line-returns-in-Text-clause-came : goal.advance_line-returns-in-Text-clause-came
advance_line-returns-in-Text-clause-came g m c = λ t S start k names st e n b w a.
    let asked = rw c.in-Text.is at w in
    c.line.ensures.came S start k names st e n b (text_asked S _ start _ _ c.args.self.now.context.program.now t c.args.at k (scope_of (me_of c.args.self.now.context.me) names c.args.room.now) _ _ e (plain c.in-Text.value) c.args.draft.now asked a)

pub advance_line-returns-in-Text-clause-shortens : goal.advance_line-returns-in-Text-clause-shortens
advance_line-returns-in-Text-clause-shortens g m c = λ t w q.
    let asked = rw c.in-Text.is at w in
    let f = asks_less c.args.self.now.context.program.now t _ (plain c.in-Text.value) asked in
    let y = c.line.ensures.work q in
    let l = c.line.ensures.stays.2 in
    omega (arith, f, y, l)

pub advance_line-returns-in_default-clause-came : goal.advance_line-returns-in_default-clause-came
advance_line-returns-in_default-clause-came g m c = λ t S start k names st e n b w a.
    let y = c.advance.ensures in
    y.came t S start k (scope_of (me_of c.args.self.now.context.me) names c.args.room.now) e w a

pub advance_line-returns-in_default-clause-shortens : goal.advance_line-returns-in_default-clause-shortens
advance_line-returns-in_default-clause-shortens g m c = c.advance.ensures.shortens

pub lines-text-init : goal.lines-text-init
lines-text-init g m c = record {
  base = refl;
  context = refl;
  room = refl;
  less = omega arith;
  kept = λ i q. refl;
  came = λ S start k names st e n b a. rw c.new-draft.ensures a;
}

pub lines-text-preserved : goal.lines-text-preserved
lines-text-preserved g m c =
    let inv = c.text.invariant in
    let y = c.advance_line-came.ensures in
    record {
      base = y.stays.0 ∙ inv.base;
      context = y.stays.1 ∙ inv.context;
      room = y.stays.3 ∙ inv.room;
      less = omega (arith, y.stays.2, inv.less);
      kept = λ i q. y.kept i (omega (arith, q, inv.base)) ∙ inv.kept i q;
      came = λ S start k names st e n b a.
          let f = rw (inv.context, inv.base) at y.came in
          let w = rw inv.context at c.in-Ok.ensures.wants in
          (f _ S start k names st e n (omega (arith, b, inv.room)) w (inv.came S start k names st e n b a)).1 (sym c.is_left.ensures ∙ c.if-is_left.false);
    }

pub lines-text-preserved-else-is_left : goal.lines-text-preserved-else-is_left
lines-text-preserved-else-is_left g m c =
    let inv = c.text.invariant in
    let y = c.advance_line-came.ensures in
    record {
      base = y.stays.0 ∙ inv.base;
      context = y.stays.1 ∙ inv.context;
      room = y.stays.3 ∙ inv.room;
      less = omega (arith, y.stays.2, inv.less);
      kept = λ i q. y.kept i (omega (arith, q, inv.base)) ∙ inv.kept i q;
      came = λ S start k names st e n b a.
          let f = rw (inv.context, inv.base) at y.came in
          let w = rw inv.context at c.in-Ok.ensures.wants in
          (f _ S start k names st e n (omega (arith, b, inv.room)) w (inv.came S start k names st e n b a)).1 (sym c.is_left.ensures ∙ c.if-is_left.false);
    }

pub lines-text-preserved-else-is_left-2 : goal.lines-text-preserved-else-is_left-2
lines-text-preserved-else-is_left-2 g m c =
    let inv = c.text.invariant in
    let y = c.advance_line-came.ensures in
    record {
      base = y.stays.0 ∙ inv.base;
      context = y.stays.1 ∙ inv.context;
      room = y.stays.3 ∙ inv.room;
      less = omega (arith, y.stays.2, inv.less);
      kept = λ i q. y.kept i (omega (arith, q, inv.base)) ∙ inv.kept i q;
      came = λ S start k names st e n b a.
          let f = rw (inv.context, inv.base) at y.came in
          let w = rw inv.context at c.in-Ok.ensures.wants in
          (f _ S start k names st e n (omega (arith, b, inv.room)) w (inv.came S start k names st e n b a)).1 (sym c.is_left.ensures ∙ c.if-is_left.false);
    }

pub lines-text-smaller : goal.lines-text-smaller
lines-text-smaller g m c = c.advance_line-came.ensures.shortens _ c.in-Ok.ensures.wants (sym c.is_left.ensures ∙ c.if-is_left.false)

pub lines-returns-in-Err-clause-came : goal.lines-returns-in-Err-clause-came
lines-returns-in-Err-clause-came g m c = λ S start k names st e n b a.
    let inv = c.text.invariant in
    let o = c.end_text.ensures in
    let long = rw inv.context at c.in-Err.ensures.too_long in
    rw (o.gives, o.stays.2, o.stays.3)
    (text_ends S _ start _ _ c.args.self.now.context.program.now c.text.draft c.args.at k _ c.args.depth _ e c.in-Err.fault (λ q. long (ap Err q)) (inv.came S start k names st e n b a))

pub lines-returns-in-Err-clause-text : goal.lines-returns-in-Err-clause-text
lines-returns-in-Err-clause-text g m c = end_told c.args.self.now.context.program.now c.in-Err.fault c.args.at _ c.end_text.ensures.gives

pub lines-returns-then-is_finished-clause-came : goal.lines-returns-then-is_finished-clause-came
lines-returns-then-is_finished-clause-came g m c = λ S start k names st e n b a.
    let inv = c.text.invariant in
    let o = c.give_bytes.ensures in
    let w = rw (finished_is c.in-Ok.want (sym c.is_finished.ensures ∙ c.if-is_finished.true), inv.context) at c.in-Ok.ensures.wants in
    let m = rw c.into_bytes.ensures at o.gives in
    rw (o.stays.2, o.stays.3) (text_given S _ start _ _ c.args.self.now.context.program.now c.text.draft c.args.at k _ c.args.depth _ e _ _ w.0 m (inv.came S start k names st e n b a))

pub lines-returns-then-is_finished-clause-text : goal.lines-returns-then-is_finished-clause-text
lines-returns-then-is_finished-clause-text g m c = bytes_told c.args.self.now.context.program.now _ _ c.give_bytes.ensures.gives

pub lines-returns-then-is_left-clause-came : goal.lines-returns-then-is_left-clause-came
lines-returns-then-is_left-clause-came g m c = λ S start k names st e n b a.
    let inv = c.text.invariant in
    let y = c.advance_line-came.ensures in
    let f = rw (inv.context, inv.base) at y.came in
    let w = rw inv.context at c.in-Ok.ensures.wants in
    (f _ S start k names st e n (omega (arith, b, inv.room)) w (inv.came S start k names st e n b a)).0 (sym c.is_left.ensures ∙ c.if-is_left.true)

pub lines-returns-then-is_left-clause-text : goal.lines-returns-then-is_left-clause-text
lines-returns-then-is_left-clause-text g m c = let y = c.advance_line-came in told_left c.args.self.now.context.program.now y.result y.new.self.value y.new.self.leave (sym c.is_left.ensures ∙ c.if-is_left.true)

pub write_array-returns-then-is_left-clause-came : goal.write_array-returns-then-is_left-clause-came
write_array-returns-then-is_left-clause-came g m c = λ S start k names vs st e n b a.
    let step = LinesBehind c.args.bytes.now.items vs c.args.at in
    let y = c.lines-came in
    let gone = sym c.is_left.ensures ∙ c.if-is_left.true in
    let come = y.ensures.came S start (Then step ∷ k) names st e n b a in
    left_only (is_left y.result) gone (passes S _ start _ y.result y.new.self.value y.new.self.leave _ step k _ _ _ gone come)

pub write_array-returns-then-is_left-clause-fits : goal.write_array-returns-then-is_left-clause-fits
write_array-returns-then-is_left-clause-fits g m c = λ q. absurd (never (is_left c.lines-came.result) (sym c.is_left.ensures ∙ c.if-is_left.true) q)

pub write_array-returns-clause-came : goal.write_array-returns-clause-came
write_array-returns-clause-came g m c = λ S start k names vs st e n b a.
    let step = LinesBehind c.args.bytes.now.items vs c.args.at in
    let y = c.lines-came in
    let came = sym c.is_left.ensures ∙ c.if-is_left.false in
    let come = y.ensures.came S start (Then step ∷ k) names st e n b a in
    let writes = lines_told S _ start _ _ c.args.bytes.now.items vs c.args.at k _ _ _ c.args.self.now.context.program.now y.result y.new.self.value y.new.self.leave came y.ensures.text come in
    let o = c.add_came.ensures in
    let f = rw y.ensures.stays.1 at o.came in
    let sc = scope_of (me_of c.args.self.now.context.me) names y.new.room in
    rw (o.stays.2, o.stays.3) (f S start k sc c.args.depth (λ bytes. write S Lines bytes vs c.args.at k sc c.args.depth y.new.self.left) (λ bytes. write_left S Lines bytes vs c.args.at k sc c.args.depth y.new.self.left) writes)

pub write_array-returns-clause-fits : goal.write_array-returns-clause-fits
write_array-returns-clause-fits g m c = c.add_came.ensures.fits

pub write_one-returns-in-Some-clause-came : goal.write_one-returns-in-Some-clause-came
write_one-returns-in-Some-clause-came g m c = λ v there S start k names vs st e n b a.
    let is = rw there at c.in-Some.ensures.some in
    let y = c.write_array in
    let lined = same a (is.1 S c.args.bytes.now.items vs c.args.at k _ _ _) in
    in_style S _ start _ _ (style_of c.args.style) y.new.bytes.items vs c.args.at k (scope_of (me_of c.args.self.now.context.me) names y.new.room) c.args.depth y.new.self.left is.0 (y.ensures.came S start k names vs st e n b lined)

pub write_one-returns-in-Some-clause-fits : goal.write_one-returns-in-Some-clause-fits
write_one-returns-in-Some-clause-fits g m c = c.write_array.ensures.fits

pub write_one-returns-then-is_left-clause-came : goal.write_one-returns-then-is_left-clause-came
write_one-returns-then-is_left-clause-came g m c = λ v there S start k names vs st e n b a.
    let none = rw there at (c.in_default.ensures.none refl) in
    let step = WriteBehind (style_of c.args.style) c.args.bytes.now.items vs c.args.at in
    let asks = same a (none S c.args.bytes.now.items vs c.args.at k _ _ _) in
    let t = c.told_at-came in
    let come = t.ensures.came v there S start (Then step ∷ k) names st e n b asks in
    let gone = sym c.is_left.ensures ∙ c.if-is_left.true in
    left_only (is_left t.result) gone (passes S _ start _ t.result t.new.self.value t.new.self.leave _ step k _ _ _ gone (told_passes S _ start _ _ k _ _ _ (Then step) c.args.self.now.context.program.now t.result t.new.self.value t.new.self.leave gone come))

pub write_one-returns-then-is_left-clause-fits : goal.write_one-returns-then-is_left-clause-fits
write_one-returns-then-is_left-clause-fits g m c = λ q. absurd (never (is_left c.told_at-came.result) (sym c.is_left.ensures ∙ c.if-is_left.true) q)

pub write_one-returns-clause-came : goal.write_one-returns-clause-came
write_one-returns-clause-came g m c = λ v there S start k names vs st e n b a.
    let none = rw there at (c.in_default.ensures.none refl) in
    let style = style_of c.args.style in
    let step = WriteBehind style c.args.bytes.now.items vs c.args.at in
    let asks = same a (none S c.args.bytes.now.items vs c.args.at k _ _ _) in
    let t = c.told_at-came in
    let come = t.ensures.came v there S start (Then step ∷ k) names st e n b asks in
    let came = sym c.is_left.ensures ∙ c.if-is_left.false in
    let writes = told_writes S _ start _ _ style c.args.bytes.now.items vs c.args.at k _ _ _ c.args.self.now.context.program.now t.result t.new.self.value t.new.self.leave came come in
    let o = c.add_came.ensures in
    let f = rw t.ensures.stays.1 at o.came in
    let sc = scope_of (me_of c.args.self.now.context.me) names t.new.room in
    rw (o.stays.2, o.stays.3) (f S start k sc c.args.depth (λ bytes. write S style bytes vs c.args.at k sc c.args.depth t.new.self.left) (λ bytes. write_left S style bytes vs c.args.at k sc c.args.depth t.new.self.left) writes)

pub write_one-returns-clause-fits : goal.write_one-returns-clause-fits
write_one-returns-clause-fits g m c = c.add_came.ensures.fits

pub print_from-returns-then-is_left-2-clause-came : goal.print_from-returns-then-is_left-2-clause-came
print_from-returns-then-is_left-2-clause-came g m c = λ S start k names st e n b a.
    let inv = c.values.invariant in
    let none = no_value c.args.room.now c.args.first c.args.count c.values.index c.requires.within c.values-test.false in
    let shows = shows_all S _ start _ _ (style_of c.args.style) c.values.bytes.items _ c.args.at k _ _ _ none (gives_nil S c.args.style) (inv.came S start k names st e n a) in
    let z = c.show_bytes-shown in
    let f = rw inv.context at z.ensures.came in
    let come = f S start _ (Instead Nil) c.args.at k _ _ shows in
    rw (z.ensures.stays.2, z.ensures.private) (passes S _ start _ z.result z.new.self.value z.new.self.leave _ (Instead Nil) k _ _ _ (sym c.is_left-2.ensures ∙ c.if-is_left-2.true) come)

pub print_from-returns-clause-came : goal.print_from-returns-clause-came
print_from-returns-clause-came g m c = λ S start k names st e n b a.
    let inv = c.values.invariant in
    let none = no_value c.args.room.now c.args.first c.args.count c.values.index c.requires.within c.values-test.false in
    let shows = shows_all S _ start _ _ (style_of c.args.style) c.values.bytes.items _ c.args.at k _ _ _ none (gives_nil S c.args.style) (inv.came S start k names st e n a) in
    let z = c.show_bytes-shown in
    let f = rw inv.context at z.ensures.came in
    let come = f S start _ (Instead Nil) c.args.at k _ _ shows in
    rw (z.ensures.stays.2, z.ensures.private) (on _ (given z.result z.new.self.value z.new.self.leave (sym c.is_left-2.ensures ∙ c.if-is_left-2.false) come) refl)

pub print-returns-then-is_left-clause-came : goal.print-returns-then-is_left-clause-came
print-returns-then-is_left-clause-came g m c = λ S names size st e l.
    let right = printing_is S c.args.form c.args.name (λ s. every (map (fits s) c.args.args.now)) names size l.fits in (
      λ i p q. c.arguments-came.ensures.kept S names size st e (sub (every (map (fits S) c.args.args.now)) l right.2) i p q,
      λ start k a.
          let r = c.arguments-came in
          let under = sub (every (map (fits S) c.args.args.now)) l right.2 in
          let p = r.ensures.came (ByName c.args.name) c.args.at S start k names size st e under a in
          p.0 (sym c.is_left.ensures ∙ c.if-is_left.true),
    )

pub print-returns-in-Some-clause-came : goal.print-returns-in-Some-clause-came
print-returns-in-Some-clause-came g m c = λ S names size st e l.
    let right = printing_is S c.args.form c.args.name (λ s. every (map (fits s) c.args.args.now)) names size l.fits in (
      λ i p q. c.print_texts.ensures.kept i (omega (arith, q)) ∙ c.arguments-came.ensures.kept S names size st e (sub (every (map (fits S) c.args.args.now)) l right.2) i p q,
      λ start k a.
          let r = c.arguments-came in
          let under = sub (every (map (fits S) c.args.args.now)) l right.2 in
          let p = r.ensures.came (ByName c.args.name) c.args.at S start k names size st e under a in
          let came = sym c.is_left.ensures ∙ c.if-is_left.false in
          let base = c.args.self.now.base in
          let count = length c.args.args.now in
          let long : base + count ≤ length r.new.room = omega (arith, r.ensures.base came, r.ensures.fits l.room) in
          let values = map plain (take count (drop base r.new.room)) in
          let many : length values ≡ count = len_map plain (take count (drop base r.new.room)) ∙ len_args r.new.room base count long in
          let sc = scope_of (me_of c.args.self.now.context.me) names r.new.room in
          let prints = same (on _ (p.1 came) refl) (by_form S c.args.form c.args.name values c.args.at k sc _ _ (c.requires.alone S st) right.0 right.1) in
          let by = rw (c.passed-2.ensures long) at c.in-Some.ensures.some in
          let f = rw r.ensures.context at c.print_texts.ensures.came in
          f S start k names st e (omega (arith, l.within, l.below)) long (same prints (by S c.args.at k sc _ _)),
    )

pub print-returns-in-Inspect-clause-came : goal.print-returns-in-Inspect-clause-came
print-returns-in-Inspect-clause-came g m c = λ S names size st e l.
    let right = printing_is S c.args.form c.args.name (λ s. every (map (fits s) c.args.args.now)) names size l.fits in (
      λ i p q. c.arguments-came.ensures.kept S names size st e (sub (every (map (fits S) c.args.args.now)) l right.2) i p q,
      λ start k a.
          let r = c.arguments-came in
          let under = sub (every (map (fits S) c.args.args.now)) l right.2 in
          let p = r.ensures.came (ByName c.args.name) c.args.at S start k names size st e under a in
          let came = sym c.is_left.ensures ∙ c.if-is_left.false in
          let base = c.args.self.now.base in
          let count = length c.args.args.now in
          let long : base + count ≤ length r.new.room = omega (arith, r.ensures.base came, r.ensures.fits l.room) in
          let values = map plain (take count (drop base r.new.room)) in
          let sc = scope_of (me_of c.args.self.now.context.me) names r.new.room in
          let prints = same (on _ (p.1 came) refl) (by_form S c.args.form c.args.name values c.args.at k sc _ _ (c.requires.alone S st) right.0 right.1) in
          let f = rw (r.ensures.context, c.passed.ensures long) at c.inspect_values.ensures.came in
          f S start k sc e (same prints (ap (λ x. print S (form_text x) values c.args.at k sc c.args.depth r.new.self.left) c.in-Inspect.is)),
    )

pub print-returns-then-is_left-2-clause-came : goal.print-returns-then-is_left-2-clause-came
print-returns-then-is_left-2-clause-came g m c = λ S names size st e l.
    let right = printing_is S c.args.form c.args.name (λ s. every (map (fits s) c.args.args.now)) names size l.fits in (
      λ i p q. c.arguments-came.ensures.kept S names size st e (sub (every (map (fits S) c.args.args.now)) l right.2) i p q,
      λ start k a.
          let r = c.arguments-came in
          let under = sub (every (map (fits S) c.args.args.now)) l right.2 in
          let p = r.ensures.came (ByName c.args.name) c.args.at S start k names size st e under a in
          let came = sym c.is_left.ensures ∙ c.if-is_left.false in
          let base = c.args.self.now.base in
          let count = length c.args.args.now in
          let long : base + count ≤ length r.new.room = omega (arith, r.ensures.base came, r.ensures.fits l.room) in
          let values = map plain (take count (drop base r.new.room)) in
          let sc = scope_of (me_of c.args.self.now.context.me) names r.new.room in
          let prints = same (on _ (p.1 came) refl) (by_form S c.args.form c.args.name values c.args.at k sc _ _ (c.requires.alone S st) right.0 right.1) in
          let none = rw (c.passed-2.ensures long) at (c.in_default-style_by.ensures.none refl) in
          let q = quietly S _ start _ _ _ _ (by_text S c.args.form values c.args.at k sc _ _ c.in_default.not-Inspect none) prints in
          let z = c.show-shown in
          let f = rw (r.ensures.context, sym e, c.passed-3.ensures long) at (z.ensures.came S start (g.O.ThreadStore.private r.new.self.store) (Instead Nil) k sc c.args.depth) in
          let show = f q in
          rw (z.ensures.stays.2, z.ensures.private) (passes S _ start _ z.result z.new.self.value z.new.self.leave _ (Instead Nil) k _ _ _ (sym c.is_left-2.ensures ∙ c.if-is_left-2.true) show),
    )

pub print-returns-clause-came : goal.print-returns-clause-came
print-returns-clause-came g m c = λ S names size st e l.
    let right = printing_is S c.args.form c.args.name (λ s. every (map (fits s) c.args.args.now)) names size l.fits in (
      λ i p q. c.arguments-came.ensures.kept S names size st e (sub (every (map (fits S) c.args.args.now)) l right.2) i p q,
      λ start k a.
          let r = c.arguments-came in
          let under = sub (every (map (fits S) c.args.args.now)) l right.2 in
          let p = r.ensures.came (ByName c.args.name) c.args.at S start k names size st e under a in
          let came = sym c.is_left.ensures ∙ c.if-is_left.false in
          let base = c.args.self.now.base in
          let count = length c.args.args.now in
          let long : base + count ≤ length r.new.room = omega (arith, r.ensures.base came, r.ensures.fits l.room) in
          let values = map plain (take count (drop base r.new.room)) in
          let sc = scope_of (me_of c.args.self.now.context.me) names r.new.room in
          let prints = same (on _ (p.1 came) refl) (by_form S c.args.form c.args.name values c.args.at k sc _ _ (c.requires.alone S st) right.0 right.1) in
          let none = rw (c.passed-2.ensures long) at (c.in_default-style_by.ensures.none refl) in
          let q = quietly S _ start _ _ _ _ (by_text S c.args.form values c.args.at k sc _ _ c.in_default.not-Inspect none) prints in
          let z = c.show-shown in
          let f = rw (r.ensures.context, sym e, c.passed-3.ensures long) at (z.ensures.came S start (g.O.ThreadStore.private r.new.self.store) (Instead Nil) k sc c.args.depth) in
          let show = f q in
          let g1 = given z.result z.new.self.value z.new.self.leave (sym c.is_left-2.ensures ∙ c.if-is_left-2.false) show in
          rw (z.ensures.stays.2, z.ensures.private) (on _ g1 refl),
    )

pub print_from-values-preserved : goal.print_from-values-preserved
print_from-values-preserved g m c =
    let inv = c.values.invariant in
    let y = c.write_one-came.ensures in
    let going = sym c.is_left.ensures ∙ c.if-is_left.false in
    record {
      base = y.stays.0 ∙ inv.base;
      context = y.stays.1 ∙ inv.context;
      room = y.stays.3 ∙ inv.room;
      less = omega (arith, y.stays.2, inv.less);
      fits = y.fits going;
      kept = λ i q. y.kept i (omega (arith, q, inv.base)) ∙ inv.kept i q;
      came = λ S start k names st e n a.
          let loop = c.values in
          let slot = c.args.first + loop.index in
          let within : slot < length loop.room = omega (arith, c.values-test.true, c.requires.within, inv.room) in
          let found = there loop.room slot within in
          let before = sym (inv.kept slot (omega (arith, c.values-test.true, c.requires.behind))) ∙ found.1 in
          let next = next_value c.args.room.now c.args.first c.args.count loop.index found.0 c.values-test.true before in
          let rest = drop (loop.index + 1) (map plain (take c.args.count (drop c.args.first c.args.room.now))) in
          let writes = writes_next S _ start _ _ (style_of c.args.style) loop.bytes.items _ c.args.at k _ _ _ (plain found.0) rest next (inv.came S start k names st e n a) in
          let f = rw (inv.context, inv.base) at (y.came found.0 found.1) in
          (f S start k names rest st e (omega (arith, n, c.requires.behind)) (omega (arith, c.requires.behind, c.requires.within, inv.room)) writes).1 going;
    }

pub print_from-values-init : goal.print_from-values-init
print_from-values-init g m c = record {
  base = refl;
  context = refl;
  room = refl;
  less = omega arith;
  fits = rw c.new-bytes.ensures.items (omega arith);
  kept = λ i q. refl;
  came = λ S start k names st e n a. rw c.new-bytes.ensures.items a;
}

pub text-returns-in-Err-clause-came : goal.text-returns-in-Err-clause-came
text-returns-in-Err-clause-came g m c = λ S names size st e l. (
  λ i p q. c.pieces.invariant.kept S names size st e l i p q,
  λ start k a.
      let o = c.over.ensures in
      rw (o.gives, o.stays.2, o.stays.3) (_, c.pieces.invariant.came S start k names size st e l a, refl),
)

pub text-returns-then-is_left-clause-came : goal.text-returns-then-is_left-clause-came
text-returns-then-is_left-clause-came g m c = λ S names size st e l.
    let right = piece_code S _ _ c.piece-item.result c.in-Code.code names size c.pieces-test.true c.piece-item.is c.in-Code.is l.fits in (
      λ i p q.
          let inv = c.pieces.invariant in
          let under = moved _ _ inv.base inv.room (sub (fits S c.in-Code.code) l right) in
          let f = rw inv.context at c.walk-came.ensures.came in
          let walked = (f S names size st e under).0 i p (omega (arith, q, inv.base)) ∙ inv.kept S names size st e l i p q in
          walked,
      λ start k a.
          let loop = c.pieces in
          let inv = loop.invariant in
          let item = next_item _ _ c.piece-item.result c.pieces-test.true c.piece-item.is in
          let before = joining _ (sym (ap (map erase_piece) item)) (inv.came S start k names size st e l a) in
          let under = moved _ _ inv.base inv.room (sub (fits S c.in-Code.code) l right) in
          let rest = map erase_piece (drop (loop.piece-index + 1) c.args.pieces.now) in
          let step = PieceOf loop.bytes.items rest c.args.at in
          let w = c.walk-came in
          let f = rw inv.context at w.ensures.came in
          let come = (f S names size st e under).1 start (Then step ∷ k) (joins_code _ (shows_code c.piece-item.result c.in-Code.code c.in-Code.is) before) in
          passes S _ start _ w.result w.new.self.value w.new.self.leave _ step k _ _ _ (sym c.is_left.ensures ∙ c.if-is_left.true) come,
    )

pub text-returns-then-is_left-2-clause-came : goal.text-returns-then-is_left-2-clause-came
text-returns-then-is_left-2-clause-came g m c = λ S names size st e l.
    let right = piece_code S _ _ c.piece-item.result c.in-Code.code names size c.pieces-test.true c.piece-item.is c.in-Code.is l.fits in (
      λ i p q.
          let inv = c.pieces.invariant in
          let under = moved _ _ inv.base inv.room (sub (fits S c.in-Code.code) l right) in
          let f = rw inv.context at c.walk-came.ensures.came in
          let walked = (f S names size st e under).0 i p (omega (arith, q, inv.base)) ∙ inv.kept S names size st e l i p q in
          c.told-told.ensures.kept i (omega (arith, q, inv.base, c.walk-came.ensures.stays.0)) ∙ walked,
      λ start k a.
          let loop = c.pieces in
          let inv = loop.invariant in
          let item = next_item _ _ c.piece-item.result c.pieces-test.true c.piece-item.is in
          let before = joining _ (sym (ap (map erase_piece) item)) (inv.came S start k names size st e l a) in
          let under = moved _ _ inv.base inv.room (sub (fits S c.in-Code.code) l right) in
          let rest = map erase_piece (drop (loop.piece-index + 1) c.args.pieces.now) in
          let step = PieceOf loop.bytes.items rest c.args.at in
          let w = c.walk-came in
          let f = rw inv.context at w.ensures.came in
          let come = (f S names size st e under).1 start (Then step ∷ k) (joins_code _ (shows_code c.piece-item.result c.in-Code.code c.in-Code.is) before) in
          let given_now = given w.result w.new.self.value w.new.self.leave (sym c.is_left.ensures ∙ c.if-is_left.false) come in
          let u = c.told-told in
          let f2 = rw (w.ensures.stays.1, inv.context) at u.ensures.came in
          let edge : c.args.self.now.base ≡ w.new.self.base = sym (w.ensures.stays.0 ∙ inv.base) in
          let tells = f2 S start (Then (JoinTo loop.bytes.items rest c.args.at) ∷ k) names st e (omega (arith, l.within, l.below, edge)) (omega (arith, l.room, edge, w.ensures.stays.3, inv.room)) (asks_piece given_now) in
          let left = sym c.is_left-in-Code.ensures ∙ c.if-is_left-2.true in
          let join_step = JoinTo loop.bytes.items rest c.args.at in
          passes S _ start _ u.result u.new.self.value u.new.self.leave _ join_step k _ _ _ left (told_passes S _ start _ _ k _ _ _ (Then join_step) c.args.self.now.context.program.now u.result u.new.self.value u.new.self.leave left tells),
    )

pub text-returns-in-Err-add_value-clause-came : goal.text-returns-in-Err-add_value-clause-came
text-returns-in-Err-add_value-clause-came g m c = λ S names size st e l.
    let right = piece_code S _ _ c.piece-item.result c.in-Code.code names size c.pieces-test.true c.piece-item.is c.in-Code.is l.fits in (
      λ i p q.
          let inv = c.pieces.invariant in
          let under = moved _ _ inv.base inv.room (sub (fits S c.in-Code.code) l right) in
          let f = rw inv.context at c.walk-came.ensures.came in
          let walked = (f S names size st e under).0 i p (omega (arith, q, inv.base)) ∙ inv.kept S names size st e l i p q in
          c.told-told.ensures.kept i (omega (arith, q, inv.base, c.walk-came.ensures.stays.0)) ∙ walked,
      λ start k a.
          let loop = c.pieces in
          let inv = loop.invariant in
          let item = next_item _ _ c.piece-item.result c.pieces-test.true c.piece-item.is in
          let before = joining _ (sym (ap (map erase_piece) item)) (inv.came S start k names size st e l a) in
          let under = moved _ _ inv.base inv.room (sub (fits S c.in-Code.code) l right) in
          let rest = map erase_piece (drop (loop.piece-index + 1) c.args.pieces.now) in
          let step = PieceOf loop.bytes.items rest c.args.at in
          let w = c.walk-came in
          let f = rw inv.context at w.ensures.came in
          let come = (f S names size st e under).1 start (Then step ∷ k) (joins_code _ (shows_code c.piece-item.result c.in-Code.code c.in-Code.is) before) in
          let given_now = given w.result w.new.self.value w.new.self.leave (sym c.is_left.ensures ∙ c.if-is_left.false) come in
          let u = c.told-told in
          let f2 = rw (w.ensures.stays.1, inv.context) at u.ensures.came in
          let edge : c.args.self.now.base ≡ w.new.self.base = sym (w.ensures.stays.0 ∙ inv.base) in
          let tells = f2 S start (Then (JoinTo loop.bytes.items rest c.args.at) ∷ k) names st e (omega (arith, l.within, l.below, edge)) (omega (arith, l.room, edge, w.ensures.stays.3, inv.room)) (asks_piece given_now) in
          let gives_text = told_gives S _ start _ _ (Then (JoinTo loop.bytes.items rest c.args.at) ∷ k) _ _ _ c.args.self.now.context.program.now u.result u.new.self.value u.new.self.leave (sym c.is_left-in-Code.ensures ∙ c.if-is_left-2.false) tells in
          let t = c.take-value.ensures in
          let o = c.over-in-Err-add_value.ensures in
          rw (o.gives, o.stays.2, o.stays.3, t.stays.2, t.stays.3) (_, gives_text, refl),
    )

pub text-returns-then-len-gt-MAX_BYTES-clause-came : goal.text-returns-then-len-gt-MAX_BYTES-clause-came
text-returns-then-len-gt-MAX_BYTES-clause-came g m c = λ S names size st e l. (
  λ i p q.
      let inv = c.pieces.invariant in
      elim c.match-piece.branch [
        | text-in-Text+in_default x ↦ rw x.room-is (inv.kept S names size st e l i p q)
        | text-in-Code+else-is_left+else-is_left-2+in_default-add_value x ↦
            let right = piece_code S _ _ c.piece-item.result x.in-Code.code names size c.pieces-test.true c.piece-item.is x.in-Code.is l.fits in
            let under = moved _ _ inv.base inv.room (sub (fits S x.in-Code.code) l right) in
            let f = rw inv.context at x.walk-came.ensures.came in
            let walked = (f S names size st e under).0 i p (omega (arith, q, inv.base)) ∙ inv.kept S names size st e l i p q in
            rw x.room-is (x.told-told.ensures.kept i (omega (arith, q, inv.base, x.walk-came.ensures.stays.0)) ∙ walked)
      ],
  λ start k a.
      let loop = c.pieces in
      let inv = loop.invariant in
      let item = next_item _ _ c.piece-item.result c.pieces-test.true c.piece-item.is in
      let before = joining _ (sym (ap (map erase_piece) item)) (inv.came S start k names size st e l a) in
      let long : 16777216 < length c.match-piece.bytes.items = omega (arith, c.if-len-gt-MAX_BYTES.true, c.len.ensures, c.match-piece.bytes.ok) in
      let o = c.raise.ensures in
      rw (o.gives, o.stays.2, o.stays.3) (elim c.match-piece.branch [
        | text-in-Text+in_default x ↦
            let shows = shows_text c.piece-item.result x.in-Text.text x.as_slice.result.now x.in-Text.is x.as_slice.ensures in
            rw x.self-is (text_long loop.bytes.items x.as_slice.result.now _ _ c.args.at k _ _ _ c.match-piece.bytes.items shows (rw x.bytes-is x.in_default.ensures) long before)
        | text-in-Code+else-is_left+else-is_left-2+in_default-add_value x ↦
            let right = piece_code S _ _ c.piece-item.result x.in-Code.code names size c.pieces-test.true c.piece-item.is x.in-Code.is l.fits in
            let under = moved _ _ inv.base inv.room (sub (fits S x.in-Code.code) l right) in
            let rest = map erase_piece (drop (loop.piece-index + 1) c.args.pieces.now) in
            let step = PieceOf loop.bytes.items rest c.args.at in
            let w = x.walk-came in
            let f = rw inv.context at w.ensures.came in
            let come = (f S names size st e under).1 start (Then step ∷ k) (joins_code _ (shows_code c.piece-item.result x.in-Code.code x.in-Code.is) before) in
            let given_now = given w.result w.new.self.value w.new.self.leave (sym x.is_left.ensures ∙ x.if-is_left.false) come in
            let u = x.told-told in
            let f2 = rw (w.ensures.stays.1, inv.context) at u.ensures.came in
            let edge : c.args.self.now.base ≡ w.new.self.base = sym (w.ensures.stays.0 ∙ inv.base) in
            let tells = f2 S start (Then (JoinTo loop.bytes.items rest c.args.at) ∷ k) names st e (omega (arith, l.within, l.below, edge)) (omega (arith, l.room, edge, w.ensures.stays.3, inv.room)) (asks_piece given_now) in
            let joins = told_joins S _ start _ _ loop.bytes.items rest c.args.at k _ _ _ c.args.self.now.context.program.now u.result u.new.self.value u.new.self.leave (sym x.is_left-in-Code.ensures ∙ x.if-is_left-2.false) tells in
            let t = x.take-value.ensures in
            let said = rw (t.stays.1, u.ensures.stays.1, w.ensures.stays.1, inv.context, t.value) at x.in_default-add_value.ensures in
            rw (x.self-is, t.stays.2, t.stays.3) (too_long loop.bytes.items _ rest c.args.at k _ _ _ c.match-piece.bytes.items (rw x.bytes-is said) long joins)
      ]),
)

pub text-returns-in-Ok-clause-came : goal.text-returns-in-Ok-clause-came
text-returns-in-Ok-clause-came g m c = λ S names size st e l. (
  λ i p q. c.pieces.invariant.kept S names size st e l i p q,
  λ start k a.
      let o = c.give.ensures in
      let inv = c.pieces.invariant in
      rw (o.gives, o.stays.2, o.stays.3, c.in-Ok.ensures) (on _ (joining [] (sym (ap (map erase_piece) (drop_all _ _ c.pieces-test.false))) (inv.came S start k names size st e l a)) refl),
)

pub text-returns-in-Err-from_vec-clause-came : goal.text-returns-in-Err-from_vec-clause-came
text-returns-in-Err-from_vec-clause-came g m c = λ S names size st e l. (
  λ i p q. c.pieces.invariant.kept S names size st e l i p q,
  λ start k a.
      let o = c.over-in-Err-from_vec.ensures in
      rw (o.gives, o.stays.2, o.stays.3) (_, c.pieces.invariant.came S start k names size st e l a, refl),
)

pub text-pieces-preserved : goal.text-pieces-preserved
text-pieces-preserved g m c =
    let loop = c.pieces in
    let inv = loop.invariant in
    let short : length c.match-piece.bytes.items ≤ 16777216 = omega (arith, c.if-len-gt-MAX_BYTES.false, c.len.ensures, c.match-piece.bytes.ok) in
    elim c.match-piece.branch [
      | text-in-Text+in_default x ↦ rw (x.self-is, x.room-is) (record {
        base = inv.base;
        context = inv.context;
        room = inv.room;
        less = inv.less;
        kept = inv.kept;
        came = λ S start k names size st e l a.
            let item = next_item _ _ c.piece-item.result c.pieces-test.true c.piece-item.is in
            let before = joining _ (sym (ap (map erase_piece) item)) (inv.came S start k names size st e l a) in
            let shows = shows_text c.piece-item.result x.in-Text.text x.as_slice.result.now x.in-Text.is x.as_slice.ensures in
            text_joins loop.bytes.items x.as_slice.result.now _ _ c.args.at k _ _ _ c.match-piece.bytes.items shows (rw x.bytes-is x.in_default.ensures) short before;
      })
      | text-in-Code+else-is_left+else-is_left-2+in_default-add_value x ↦
          let y = x.walk-came.ensures in
          let v = x.told-told.ensures in
          let t0 = x.take-value.ensures in
          rw (x.self-is, x.room-is) (record {
            base = t0.stays.0 ∙ (v.stays.0 ∙ (y.stays.0 ∙ inv.base));
            context = t0.stays.1 ∙ (v.stays.1 ∙ (y.stays.1 ∙ inv.context));
            room = v.stays.3 ∙ (y.stays.3 ∙ inv.room);
            less = omega (arith, t0.stays.2, v.stays.2, y.stays.2, inv.less);
            kept = λ S names size st e l i p q.
                let right = piece_code S _ _ c.piece-item.result x.in-Code.code names size c.pieces-test.true c.piece-item.is x.in-Code.is l.fits in
                let under = moved _ _ inv.base inv.room (sub (fits S x.in-Code.code) l right) in
                let f = rw inv.context at x.walk-came.ensures.came in
                let walked = (f S names size st e under).0 i p (omega (arith, q, inv.base)) ∙ inv.kept S names size st e l i p q in
                x.told-told.ensures.kept i (omega (arith, q, inv.base, x.walk-came.ensures.stays.0)) ∙ walked;
            came = λ S start k names size st e l a.
                let item = next_item _ _ c.piece-item.result c.pieces-test.true c.piece-item.is in
                let before = joining _ (sym (ap (map erase_piece) item)) (inv.came S start k names size st e l a) in
                let right = piece_code S _ _ c.piece-item.result x.in-Code.code names size c.pieces-test.true c.piece-item.is x.in-Code.is l.fits in
                let under = moved _ _ inv.base inv.room (sub (fits S x.in-Code.code) l right) in
                let rest = map erase_piece (drop (loop.piece-index + 1) c.args.pieces.now) in
                let step = PieceOf loop.bytes.items rest c.args.at in
                let w = x.walk-came in
                let f = rw inv.context at w.ensures.came in
                let come = (f S names size st e under).1 start (Then step ∷ k) (joins_code _ (shows_code c.piece-item.result x.in-Code.code x.in-Code.is) before) in
                let given_now = given w.result w.new.self.value w.new.self.leave (sym x.is_left.ensures ∙ x.if-is_left.false) come in
                let u = x.told-told in
                let f2 = rw (w.ensures.stays.1, inv.context) at u.ensures.came in
                let edge : c.args.self.now.base ≡ w.new.self.base = sym (w.ensures.stays.0 ∙ inv.base) in
                let tells = f2 S start (Then (JoinTo loop.bytes.items rest c.args.at) ∷ k) names st e (omega (arith, l.within, l.below, edge)) (omega (arith, l.room, edge, w.ensures.stays.3, inv.room)) (asks_piece given_now) in
                let joins = told_joins S _ start _ _ loop.bytes.items rest c.args.at k _ _ _ c.args.self.now.context.program.now u.result u.new.self.value u.new.self.leave (sym x.is_left-in-Code.ensures ∙ x.if-is_left-2.false) tells in
                let t = x.take-value.ensures in
                let said = rw (t.stays.1, u.ensures.stays.1, w.ensures.stays.1, inv.context, t.value) at x.in_default-add_value.ensures in
                rw (t.stays.2, t.stays.3) (not_long loop.bytes.items _ rest c.args.at k _ _ _ c.match-piece.bytes.items (rw x.bytes-is said) short joins);
          })
    ]

pub array-returns-then-is_left-clause-came : goal.array-returns-then-is_left-clause-came
array-returns-then-is_left-clause-came g m c = λ at S names size st e l. (
  λ i p q. c.arguments-came.ensures.kept S names size st e l i p q,
  λ start k a. (c.arguments-came.ensures.came Listing at S start k names size st e l a).0 (sym c.is_left.ensures ∙ c.if-is_left.true),
)

pub array-returns-clause-came : goal.array-returns-clause-came
array-returns-clause-came g m c = λ at S names size st e l. (
  λ i p q. c.arguments-came.ensures.kept S names size st e l i p q,
  λ start k a.
      let y = c.arguments-came in
      let both = y.ensures.came Listing at S start k names size st e l a in
      let none = sym c.is_left.ensures ∙ c.if-is_left.false in
      let long : c.args.self.now.base + length c.args.items.now ≤ length y.new.room = omega (arith, y.ensures.base none, y.ensures.fits l.room) in
      let f = rw (y.ensures.context, c.passed.ensures long) at c.list.ensures.came in
      rw c.list.ensures.stays.2 (f c.args.depth S start k _ e (on _ (both.1 none) refl)),
)

pub hash-returns-then-is_left-clause-came : goal.hash-returns-then-is_left-clause-came
hash-returns-then-is_left-clause-came g m c = λ S names size st e l. (
  λ i p q. c.arguments-came.ensures.kept S names size st e l i p q,
  λ start k a. (c.arguments-came.ensures.came Pairing c.args.at S start k names size st e l a).0 (sym c.is_left.ensures ∙ c.if-is_left.true),
)

pub hash-returns-clause-came : goal.hash-returns-clause-came
hash-returns-clause-came g m c = λ S names size st e l. (
  λ i p q. c.arguments-came.ensures.kept S names size st e l i p q,
  λ start k a.
      let y = c.arguments-came in
      let both = y.ensures.came Pairing c.args.at S start k names size st e l a in
      let none = sym c.is_left.ensures ∙ c.if-is_left.false in
      let long : c.args.self.now.base + length c.args.items.now ≤ length y.new.room = omega (arith, y.ensures.base none, y.ensures.fits l.room) in
      let f = rw (y.ensures.context, c.passed.ensures long) at c.pairs.ensures.came in
      rw c.pairs.ensures.stays.2 (f c.args.depth S start k _ e (on _ (both.1 none) refl)),
)

pub create_builtin-returns-then-is_left-clause-came : goal.create_builtin-returns-then-is_left-clause-came
create_builtin-returns-then-is_left-clause-came g m c = λ S names size st e l. (
  λ i p q. c.arguments-came.ensures.kept S names size st e (sub (every (map (fits S) c.args.args.now)) l (snd _ _ l.fits)) i p q,
  λ start k a.
      let both = c.arguments-came.ensures.came (Creating c.args.name) c.args.at S start k names size st e (sub (every (map (fits S) c.args.args.now)) l (snd _ _ l.fits)) a in
      both.0 (sym c.is_left.ensures ∙ c.if-is_left.true),
)

pub create_builtin-returns-clause-came : goal.create_builtin-returns-clause-came
create_builtin-returns-clause-came g m c = λ S names size st e l. (
  λ i p q. c.arguments-came.ensures.kept S names size st e (sub (every (map (fits S) c.args.args.now)) l (snd _ _ l.fits)) i p q,
  λ start k a.
      let y = c.arguments-came in
      let both = y.ensures.came (Creating c.args.name) c.args.at S start k names size st e (sub (every (map (fits S) c.args.args.now)) l (snd _ _ l.fits)) a in
      let none = sym c.is_left.ensures ∙ c.if-is_left.false in
      let count = length c.args.args.now in
      let base = c.args.self.now.base in
      let long : base + count ≤ length y.new.room = omega (arith, y.ensures.base none, y.ensures.fits l.room) in
      let values = map plain (take count (drop base y.new.room)) in
      let f = rw (y.ensures.context, c.passed.ensures long) at c.build.ensures.came in
      rw c.build.ensures.stays.2 (f c.args.depth S start k _ e (same (on _ (both.1 none) refl) (built_from S c.args.class c.args.name values c.args.at k _ _ _ (fst _ _ l.fits)))),
)

pub set_element-returns-then-is_left-clause-came : goal.set_element-returns-then-is_left-clause-came
set_element-returns-then-is_left-clause-came g m c = λ S names size st e l.
    let w = c.walk-came in (
      λ i p q. (w.ensures.came S names size st e l).0 i p q,
      λ start k a.
          let step = WriteTo (OfElement (plain c.args.receiver.now) (plain c.args.index)) c.args.at in
          let come = (w.ensures.came S names size st e l).1 start (Then step ∷ k) a in
          passes S _ start _ w.result w.new.self.value w.new.self.leave _ step k _ _ _ (sym c.is_left.ensures ∙ c.if-is_left.true) come,
    )

pub set_element-returns-clause-came : goal.set_element-returns-clause-came
set_element-returns-clause-came g m c = λ S names size st e l. (
  λ i p q. (c.walk-came.ensures.came S names size st e l).0 i p q,
  λ start k a.
      let w = c.walk-came in
      let v = plain c.args.receiver.now in
      let step = WriteTo (OfElement v (plain c.args.index)) c.args.at in
      let come = (w.ensures.came S names size st e l).1 start (Then step ∷ k) a in
      let g1 = given w.result w.new.self.value w.new.self.leave (sym c.is_left.ensures ∙ c.if-is_left.false) come in
      let o = c.write_element.ensures in
      let f = rw w.ensures.stays.1 at o.came in
      writes_element S _ start _ _ _ _ _ _ _ _ _ _ c.args.self.now.context.program.now v (value_of w.result w.new.self.value) (plain c.args.index) c.args.at (operator_none c.args.self.now.context.script.now S st v (codes "[]=") refl) e (f) (on _ g1 refl),
)

pub update_at-returns-then-is_true_now-clause-came : goal.update_at-returns-then-is_true_now-clause-came
update_at-returns-then-is_true_now-clause-came g m c = λ S names size st e l. (
  λ i p q. refl,
  λ start k a.
      let t = sym (c.is_true_now.ensures c.requires.came) ∙ c.if-is_true_now.true in
      comes S _ start _ _ k _ _ _ _ _ (gave c.args.current c.args.self.now.value c.args.self.now.leave c.requires.came) (or_else_stays S _ start _ (value_of c.args.current c.args.self.now.value) (OfElement (plain c.args.receiver.now) (plain c.args.index)) c.args.op (erase c.args.value.now) c.args.at c.in-OrElse.is t a),
)

pub update_at-returns-else-is_true_now-clause-came : goal.update_at-returns-else-is_true_now-clause-came
update_at-returns-else-is_true_now-clause-came g m c = λ S names size st e l. (
  λ i p q. (c.set_element.ensures.came S names size st e l).0 i p q,
  λ start k a.
      let t = sym (c.is_true_now.ensures c.requires.came) ∙ c.if-is_true_now.false in
      (c.set_element.ensures.came S names size st e l).1 start k (or_else_goes S _ start _ (value_of c.args.current c.args.self.now.value) (OfElement (plain c.args.receiver.now) (plain c.args.index)) c.args.op (erase c.args.value.now) c.args.at c.in-OrElse.is t a),
)

pub update_at-returns-then-not-is_true_now-clause-came : goal.update_at-returns-then-not-is_true_now-clause-came
update_at-returns-then-not-is_true_now-clause-came g m c = λ S names size st e l. (
  λ i p q. refl,
  λ start k a.
      let t = sym (c.is_true_now-in-AndThen.ensures c.requires.came) ∙ c.if-not-is_true_now.true in
      comes S _ start _ _ k _ _ _ _ _ (gave c.args.current c.args.self.now.value c.args.self.now.leave c.requires.came) (and_then_stays S _ start _ (value_of c.args.current c.args.self.now.value) (OfElement (plain c.args.receiver.now) (plain c.args.index)) c.args.op (erase c.args.value.now) c.args.at c.in-AndThen.is t a),
)

pub update_at-returns-else-not-is_true_now-clause-came : goal.update_at-returns-else-not-is_true_now-clause-came
update_at-returns-else-not-is_true_now-clause-came g m c = λ S names size st e l. (
  λ i p q. (c.set_element-in-AndThen.ensures.came S names size st e l).0 i p q,
  λ start k a.
      let t = sym (c.is_true_now-in-AndThen.ensures c.requires.came) ∙ c.if-not-is_true_now.false in
      (c.set_element-in-AndThen.ensures.came S names size st e l).1 start k (and_then_goes S _ start _ (value_of c.args.current c.args.self.now.value) (OfElement (plain c.args.receiver.now) (plain c.args.index)) c.args.op (erase c.args.value.now) c.args.at c.in-AndThen.is t a),
)

pub update_at-returns-then-is_left-clause-came : goal.update_at-returns-then-is_left-clause-came
update_at-returns-then-is_left-clause-came g m c = λ S names size st e l.
    let y = c.combine-made in (
      λ i p q. (y.ensures.came S names size st e l).0 i p q,
      λ start k a.
          let place = OfElement (plain c.args.receiver.now) (plain c.args.index) in
          let e2 = (y.ensures.came S names size st e l).1 start (Then (WriteTo place c.args.at) ∷ k) (operates S _ start _ (value_of c.args.current c.args.self.now.value) place c.args.op (erase c.args.value.now) c.args.at c.in_default.not-OrElse c.in_default.not-AndThen a) in
          passes S _ start _ y.result y.new.self.value y.new.self.leave _ (WriteTo place c.args.at) k _ _ _ (sym c.is_left.ensures ∙ c.if-is_left.true) e2,
    )

pub update_at-returns-else-is_left-clause-came : goal.update_at-returns-else-is_left-clause-came
update_at-returns-else-is_left-clause-came g m c = λ S names size st e l. (
  λ i p q. (c.combine-made.ensures.came S names size st e l).0 i p q,
  λ start k a.
      let y = c.combine-made in
      let v = plain c.args.receiver.now in
      let place = OfElement v (plain c.args.index) in
      let e2 = (y.ensures.came S names size st e l).1 start (Then (WriteTo place c.args.at) ∷ k) (operates S _ start _ (value_of c.args.current c.args.self.now.value) place c.args.op (erase c.args.value.now) c.args.at c.in_default.not-OrElse c.in_default.not-AndThen a) in
      let g2 = given y.result y.new.self.value y.new.self.leave (sym c.is_left.ensures ∙ c.if-is_left.false) e2 in
      let o = c.write_element.ensures in
      let f = rw y.ensures.stays.1 at o.came in
      writes_element S _ start _ _ _ _ _ _ _ _ _ _ c.args.self.now.context.program.now v (value_of y.result y.new.self.value) (plain c.args.index) c.args.at (operator_none c.args.self.now.context.script.now S st v (codes "[]=") refl) e (f) (on _ g2 refl),
)

pub update_element-returns-then-is_left-clause-came : goal.update_element-returns-then-is_left-clause-came
update_element-returns-then-is_left-clause-came g m c = λ S names size st e l.
    let w = c.walk-came in (
      λ i p q.
          let before = (w.ensures.came S names size st e (sub (fits S c.args.receiver.now) l (fst _ _ l.fits))).0 i p q in
          before,
      λ start k a.
          let e1 = (w.ensures.came S names size st e (sub (fits S c.args.receiver.now) l (fst _ _ l.fits))).1 start (Then (IndexedBy (erase c.args.index.now) c.args.op (erase c.args.value.now) c.args.at) ∷ k) a in
          passes S _ start _ w.result w.new.self.value w.new.self.leave _ (IndexedBy (erase c.args.index.now) c.args.op (erase c.args.value.now) c.args.at) k _ _ _ (sym c.is_left.ensures ∙ c.if-is_left.true) e1,
    )

pub update_element-returns-then-is_left-2-clause-came : goal.update_element-returns-then-is_left-2-clause-came
update_element-returns-then-is_left-2-clause-came g m c = λ S names size st e l.
    let w = c.walk-came in
    let t = c.take-receiver in
    let u = c.walk-came-2 in (
      λ i p q.
          let before = (w.ensures.came S names size st e (sub (fits S c.args.receiver.now) l (fst _ _ l.fits))).0 i p q in
          let base = t.ensures.stays.0 ∙ w.ensures.stays.0 in
          let under = moved _ _ base w.ensures.stays.3 (sub (fits S c.args.index.now) l (fst _ _ (snd _ _ l.fits))) in
          let f = rw (t.ensures.stays.1, w.ensures.stays.1) at u.ensures.came in
          let behind = (f S names size st e under).0 i p (omega (arith, q, base)) ∙ before in
          behind,
      λ start k a.
          let e1 = (w.ensures.came S names size st e (sub (fits S c.args.receiver.now) l (fst _ _ l.fits))).1 start (Then (IndexedBy (erase c.args.index.now) c.args.op (erase c.args.value.now) c.args.at) ∷ k) a in
          let first = value_of w.result w.new.self.value in
          let g1 = given w.result w.new.self.value w.new.self.leave (sym c.is_left.ensures ∙ c.if-is_left.false) e1 in
          let under = moved _ _ (t.ensures.stays.0 ∙ w.ensures.stays.0) w.ensures.stays.3 (sub (fits S c.args.index.now) l (fst _ _ (snd _ _ l.fits))) in
          let f = rw (t.ensures.stays.1, w.ensures.stays.1, t.ensures.stays.2, t.ensures.stays.3) at u.ensures.came in
          let e2 = (f S names size st e under).1 start (Then (IndexOf first c.args.op (erase c.args.value.now) c.args.at) ∷ k) (on _ g1 refl) in
          passes S _ start _ u.result u.new.self.value u.new.self.leave _ (IndexOf first c.args.op (erase c.args.value.now) c.args.at) k _ _ _ (sym c.is_left-2.ensures ∙ c.if-is_left-2.true) e2,
    )

pub update_element-returns-in_default-clause-came : goal.update_element-returns-in_default-clause-came
update_element-returns-in_default-clause-came g m c = λ S names size st e l.
    let w = c.walk-came in
    let t = c.take-receiver in
    let u = c.walk-came-2 in (
      λ i p q.
          let before = (w.ensures.came S names size st e (sub (fits S c.args.receiver.now) l (fst _ _ l.fits))).0 i p q in
          let base = t.ensures.stays.0 ∙ w.ensures.stays.0 in
          let under = moved _ _ base w.ensures.stays.3 (sub (fits S c.args.index.now) l (fst _ _ (snd _ _ l.fits))) in
          let f = rw (t.ensures.stays.1, w.ensures.stays.1) at u.ensures.came in
          let behind = (f S names size st e under).0 i p (omega (arith, q, base)) ∙ before in
          behind,
      λ start k a.
          let e1 = (w.ensures.came S names size st e (sub (fits S c.args.receiver.now) l (fst _ _ l.fits))).1 start (Then (IndexedBy (erase c.args.index.now) c.args.op (erase c.args.value.now) c.args.at) ∷ k) a in
          let first = value_of w.result w.new.self.value in
          let g1 = given w.result w.new.self.value w.new.self.leave (sym c.is_left.ensures ∙ c.if-is_left.false) e1 in
          let under = moved _ _ (t.ensures.stays.0 ∙ w.ensures.stays.0) w.ensures.stays.3 (sub (fits S c.args.index.now) l (fst _ _ (snd _ _ l.fits))) in
          let f = rw (t.ensures.stays.1, w.ensures.stays.1, t.ensures.stays.2, t.ensures.stays.3) at u.ensures.came in
          let e2 = (f S names size st e under).1 start (Then (IndexOf first c.args.op (erase c.args.value.now) c.args.at) ∷ k) (on _ g1 refl) in
          let second = value_of u.result u.new.self.value in
          let g2 = given u.result u.new.self.value u.new.self.leave (sym c.is_left-2.ensures ∙ c.if-is_left-2.false) e2 in
          let y = c.take-index in
          let o = c.over.ensures in
          rw (o.gives, o.stays.2, o.stays.3, y.ensures.stays.2, y.ensures.stays.3) (_, g2, refl),
    )

pub update_element-returns-then-is_left-3-clause-came : goal.update_element-returns-then-is_left-3-clause-came
update_element-returns-then-is_left-3-clause-came g m c = λ S names size st e l.
    let w = c.walk-came in
    let t = c.take-receiver in
    let u = c.walk-came-2 in (
      λ i p q.
          let before = (w.ensures.came S names size st e (sub (fits S c.args.receiver.now) l (fst _ _ l.fits))).0 i p q in
          let base = t.ensures.stays.0 ∙ w.ensures.stays.0 in
          let under = moved _ _ base w.ensures.stays.3 (sub (fits S c.args.index.now) l (fst _ _ (snd _ _ l.fits))) in
          let f = rw (t.ensures.stays.1, w.ensures.stays.1) at u.ensures.came in
          let behind = (f S names size st e under).0 i p (omega (arith, q, base)) ∙ before in
          behind,
      λ start k a.
          let e1 = (w.ensures.came S names size st e (sub (fits S c.args.receiver.now) l (fst _ _ l.fits))).1 start (Then (IndexedBy (erase c.args.index.now) c.args.op (erase c.args.value.now) c.args.at) ∷ k) a in
          let first = value_of w.result w.new.self.value in
          let g1 = given w.result w.new.self.value w.new.self.leave (sym c.is_left.ensures ∙ c.if-is_left.false) e1 in
          let under = moved _ _ (t.ensures.stays.0 ∙ w.ensures.stays.0) w.ensures.stays.3 (sub (fits S c.args.index.now) l (fst _ _ (snd _ _ l.fits))) in
          let f = rw (t.ensures.stays.1, w.ensures.stays.1, t.ensures.stays.2, t.ensures.stays.3) at u.ensures.came in
          let e2 = (f S names size st e under).1 start (Then (IndexOf first c.args.op (erase c.args.value.now) c.args.at) ∷ k) (on _ g1 refl) in
          let second = value_of u.result u.new.self.value in
          let g2 = given u.result u.new.self.value u.new.self.leave (sym c.is_left-2.ensures ∙ c.if-is_left-2.false) e2 in
          let y = c.take-index in
          let r = c.call_with-current in
          let same_copy : plain c.in-Ok.copy ≡ second = c.in-Ok.ensures.value ∙ y.ensures.value in
          let f3 = rw (y.ensures.stays.1, u.ensures.stays.1, t.ensures.stays.1, w.ensures.stays.1, y.ensures.stays.2, y.ensures.stays.3, t.ensures.value, same_copy) at r.ensures.came in
          let reads = ReadOf (OfElement first second) c.args.op (erase c.args.value.now) c.args.at in
          let none = operator_none c.args.self.now.context.script.now S st first (codes "[]") refl in
          let e3 = calls_builtin S _ start _ _ _ _ _ _ _ _ _ _ c.args.self.now.context.program.now (Some builtin.Index) first (codes "[]") (second ∷ []) c.args.at none refl e f3 (on _ g2 refl) in
          passes S _ start _ r.result r.new.self.value r.new.self.leave _ reads k _ _ _ (sym c.is_left-3.ensures ∙ c.if-is_left-3.true) e3,
    )

pub update_element-returns-clause-came : goal.update_element-returns-clause-came
update_element-returns-clause-came g m c = λ S names size st e l.
    let w = c.walk-came in
    let t = c.take-receiver in
    let u = c.walk-came-2 in
    let y = c.take-index in
    let r = c.call_with-current in (
      λ i p q.
          let before = (w.ensures.came S names size st e (sub (fits S c.args.receiver.now) l (fst _ _ l.fits))).0 i p q in
          let base = t.ensures.stays.0 ∙ w.ensures.stays.0 in
          let under = moved _ _ base w.ensures.stays.3 (sub (fits S c.args.index.now) l (fst _ _ (snd _ _ l.fits))) in
          let f = rw (t.ensures.stays.1, w.ensures.stays.1) at u.ensures.came in
          let behind = (f S names size st e under).0 i p (omega (arith, q, base)) ∙ before in
          let all = r.ensures.stays.0 ∙ (y.ensures.stays.0 ∙ (u.ensures.stays.0 ∙ base)) in
          let last = moved _ _ all (u.ensures.stays.3 ∙ w.ensures.stays.3) (sub (fits S c.args.value.now) l (snd _ _ (snd _ _ l.fits))) in
          let f1 = rw (r.ensures.stays.1, y.ensures.stays.1, u.ensures.stays.1, t.ensures.stays.1, w.ensures.stays.1) at c.update_at.ensures.came in
          (f1 S names size st e last).0 i p (omega (arith, q, all)) ∙ behind,
      λ start k a.
          let e1 = (w.ensures.came S names size st e (sub (fits S c.args.receiver.now) l (fst _ _ l.fits))).1 start (Then (IndexedBy (erase c.args.index.now) c.args.op (erase c.args.value.now) c.args.at) ∷ k) a in
          let first = value_of w.result w.new.self.value in
          let g1 = given w.result w.new.self.value w.new.self.leave (sym c.is_left.ensures ∙ c.if-is_left.false) e1 in
          let under = moved _ _ (t.ensures.stays.0 ∙ w.ensures.stays.0) w.ensures.stays.3 (sub (fits S c.args.index.now) l (fst _ _ (snd _ _ l.fits))) in
          let f = rw (t.ensures.stays.1, w.ensures.stays.1, t.ensures.stays.2, t.ensures.stays.3) at u.ensures.came in
          let e2 = (f S names size st e under).1 start (Then (IndexOf first c.args.op (erase c.args.value.now) c.args.at) ∷ k) (on _ g1 refl) in
          let second = value_of u.result u.new.self.value in
          let g2 = given u.result u.new.self.value u.new.self.leave (sym c.is_left-2.ensures ∙ c.if-is_left-2.false) e2 in
          let same_copy : plain c.in-Ok.copy ≡ second = c.in-Ok.ensures.value ∙ y.ensures.value in
          let f3 = rw (y.ensures.stays.1, u.ensures.stays.1, t.ensures.stays.1, w.ensures.stays.1, y.ensures.stays.2, y.ensures.stays.3, t.ensures.value, same_copy) at r.ensures.came in
          let reads = ReadOf (OfElement first second) c.args.op (erase c.args.value.now) c.args.at in
          let none = operator_none c.args.self.now.context.script.now S st first (codes "[]") refl in
          let e3 = calls_builtin S _ start _ _ _ _ _ _ _ _ _ _ c.args.self.now.context.program.now (Some builtin.Index) first (codes "[]") (second ∷ []) c.args.at none refl e f3 (on _ g2 refl) in
          let g3 = given r.result r.new.self.value r.new.self.leave (sym c.is_left-3.ensures ∙ c.if-is_left-3.false) e3 in
          let all = r.ensures.stays.0 ∙ (y.ensures.stays.0 ∙ (u.ensures.stays.0 ∙ (t.ensures.stays.0 ∙ w.ensures.stays.0))) in
          let last = moved _ _ all (u.ensures.stays.3 ∙ w.ensures.stays.3) (sub (fits S c.args.value.now) l (snd _ _ (snd _ _ l.fits))) in
          let h1 = rw (r.ensures.stays.1, y.ensures.stays.1, u.ensures.stays.1, t.ensures.stays.1, w.ensures.stays.1, t.ensures.value, y.ensures.value) at c.update_at.ensures.came in
          (h1 S names size st e last).1 start k g3,
    )

pub iteration-returns-then-self-eq0-clause-counted : goal.iteration-returns-then-self-eq0-clause-counted
iteration-returns-then-self-eq0-clause-counted g m c = λ f. absurd (over_stops _ _ c.over.ensures.gives f)

pub iteration-returns-then-self-eq0-clause-came : goal.iteration-returns-then-self-eq0-clause-came
iteration-returns-then-self-eq0-clause-came g m c = λ later S start k names size st e l a.
    let o = c.over.ensures in
    rw (o.gives, o.stays.2, o.stays.3) (λ f. absurd (cc), λ f. no_step later _ _ k _ _ _ c.if-self-eq0.true a)

pub iteration-returns-then-room-from-clause-counted : goal.iteration-returns-then-room-from-clause-counted
iteration-returns-then-room-from-clause-counted g m c = λ f. absurd (over_stops _ _ c.over-then-room-from.ensures.gives f)

pub iteration-returns-then-room-from-clause-came : goal.iteration-returns-then-room-from-clause-came
iteration-returns-then-room-from-clause-came g m c = λ later S start k names size st e l a.
    let o = c.over-then-room-from.ensures in
    rw (o.gives, o.stays.2, o.stays.3) (λ f. absurd (cc), λ f. (_, a, start_left S later _ (erase_block c.args.block.now) k _ _ _))

pub iteration-returns-clause-counted : goal.iteration-returns-clause-counted
iteration-returns-clause-counted g m c = λ f. omega (arith, c.if-self-eq0.false, c.body.ensures.stays.2)

pub iteration-returns-clause-kept : goal.iteration-returns-clause-kept
iteration-returns-clause-kept g m c = λ S names size st e l i p q.
    let block = c.args.block.now in
    let within = deeper S block (moved _ _ refl c.open_block.ensures.room l) in
    let edge = ends_within S block l in
    let f = rw c.as_slice.ensures at c.body.ensures.came in
    (f S (names ++ S.block_names block.at) size st e within).0 i p q ∙ c.open_block.ensures.above i (omega (arith, p, edge))

pub iteration-returns-clause-came : goal.iteration-returns-clause-came
iteration-returns-clause-came g m c = λ later S start k names size st e l a.
    let block = c.args.block.now in
    let own = S.block_names block.at in
    let some : 0 < c.args.self.now.left = omega (arith, c.if-self-eq0.false) in
    let slots = rw c.len-takes.ensures at c.open_block.ensures.within in
    let t = iteration_opens block c.args.room.now c.open_block.new.room (plain c.args.first ∷ plain c.args.second ∷ []) later l c.open_block.ensures.room some c.open_block.ensures.below slots a in
    let within = deeper S block (moved _ _ refl c.open_block.ensures.room l) in
    let f = rw c.as_slice.ensures at c.body.ensures.came in
    let come = (f S (names ++ own) size st e within).1 start (Turn later (erase_block block) (length names) ∷ k) t in
    let long : length names ≤ length c.body.new.room = omega (arith, l.within, l.below, l.room, c.body.ensures.stays.3, c.open_block.ensures.room) in
    (λ go. iteration_goes S _ start _ _ _ later (erase_block block) k _ names own _ _ _ long go come, λ stop. closes_out S _ start _ _ _ later (erase_block block) k _ names own _ _ _ long stop come)

pub walk_elements-returns-in_default-clause-came : goal.walk_elements-returns-in_default-clause-came
walk_elements-returns-in_default-clause-came g m c = λ S names size st e l. (
  λ i p q. c.elements.invariant.kept S names size st e l i p q,
  λ start k a.
      let inv = c.elements.invariant in
      let i = inv.came S start k names size st e l a in
      let made = map plain c.elements.made.items in
      let block = erase_block c.args.block.now in
      let y = c.next_element.ensures in
      let none = rw inv.context at c.next_element.ensures.none in
      let ends = none c.in_default.is (walking c.args.pass made i.0) block S start k _ _ i.1 in
      let z = c.finish.ensures in
      let f = rw (y.stays.1, inv.context, y.stays.2) at z.came in
      rw (z.stays.2, y.stays.2) (f i.0 c.args.depth S start k _ e ends),
)

pub walk_elements-returns-then-is_left-clause-came : goal.walk_elements-returns-then-is_left-clause-came
walk_elements-returns-then-is_left-clause-came g m c = λ S names size st e l. (
  λ i p q. c.elements.invariant.kept S names size st e l i p q,
  λ start k a.
      let inv = c.elements.invariant in
      let i = inv.came S start k names size st e l a in
      let made = map plain c.elements.made.items in
      let block = erase_block c.args.block.now in
      let y = c.next_element.ensures in
      let found = rw inv.context at c.in-Some.ensures.some in
      let s = found (walking c.args.pass made i.0) block S start k _ _ i.1 in
      rw y.stays.2 (s.0 (sym c.is_left.ensures ∙ c.if-is_left.true)),
)

pub walk_elements-returns-in_default-held-clause-came : goal.walk_elements-returns-in_default-held-clause-came
walk_elements-returns-in_default-held-clause-came g m c = λ S names size st e l. (
  λ i p q. c.elements.invariant.kept S names size st e l i p q,
  λ start k a.
      let inv = c.elements.invariant in
      let i = inv.came S start k names size st e l a in
      let made = map plain c.elements.made.items in
      let block = erase_block c.args.block.now in
      let y = c.next_element.ensures in
      let found = rw inv.context at c.in-Some.ensures.some in
      let s = found (walking c.args.pass made i.0) block S start k _ _ i.1 in
      let t = c.take-element.ensures in
      let none = sym c.is_left.ensures ∙ c.if-is_left.false in
      let next = c.next_element.new.self in
      let v = value_of c.in-Some.found next.value in
      let gives = given c.in-Some.found next.value next.leave none (s.1 none) in
      let o = c.over.ensures in
      rw (o.stays.2, o.stays.3, t.stays.2, t.stays.3, y.stays.2) (cut S _ start _ _ _ k _ _ _ _ o.gives gives refl),
)

pub walk_elements-returns-then-not-goes_on-clause-came : goal.walk_elements-returns-then-not-goes_on-clause-came
walk_elements-returns-then-not-goes_on-clause-came g m c = λ S names size st e l.
    let inv = c.elements.invariant in
    let y = c.next_element.ensures in
    let t = c.take-element.ensures in
    let base : c.take-element.new.self.base ≡ c.args.self.now.base = t.stays.0 ∙ (y.stays.0 ∙ inv.base) in (
      λ i p q.
          let f = rw (t.stays.1, y.stays.1, inv.context) at c.iteration-came.ensures.kept in
          f S names size st e (moved _ _ base inv.room l) i p (omega (arith, q, base)) ∙ inv.kept S names size st e l i p q,
      λ start k a.
          let i = inv.came S start k names size st e l a in
          let made = map plain c.elements.made.items in
          let block = erase_block c.args.block.now in
          let found = rw inv.context at c.in-Some.ensures.some in
          let s = found (walking c.args.pass made i.0) block S start k _ _ i.1 in
          let none = sym c.is_left.ensures ∙ c.if-is_left.false in
          let next = c.next_element.new.self in
          let v = value_of c.in-Some.found next.value in
          let gives = given c.in-Some.found next.value next.leave none (s.1 none) in
          let later = Walking (thing_of c.args.array) (suc c.elements.next) (holding v (walking c.args.pass made i.0)) c.args.at in
          let f = rw (t.stays.1, y.stays.1, inv.context, t.stays.2, y.stays.2, t.stays.3, t.value, c.second_value.ensures) at c.iteration-came.ensures.came in
          let r = f later S start k names size st e (moved _ _ base inv.room l) (element_begins c.args.pass made i.0 v gives) in
          let stop = sym c.goes_on.ensures ∙ c.if-not-goes_on.true in
          rw (c.out_of_loop.ensures stop) (r.1 stop),
    )

pub walk_elements-returns-in-Err-clause-came : goal.walk_elements-returns-in-Err-clause-came
walk_elements-returns-in-Err-clause-came g m c = λ S names size st e l.
    let inv = c.elements.invariant in
    let y = c.next_element.ensures in
    let t = c.take-element.ensures in
    let base : c.take-element.new.self.base ≡ c.args.self.now.base = t.stays.0 ∙ (y.stays.0 ∙ inv.base) in (
      λ i p q.
          let f = rw (t.stays.1, y.stays.1, inv.context) at c.iteration-came.ensures.kept in
          f S names size st e (moved _ _ base inv.room l) i p (omega (arith, q, base)) ∙ inv.kept S names size st e l i p q,
      λ start k a.
          let i = inv.came S start k names size st e l a in
          let made = map plain c.elements.made.items in
          let block = erase_block c.args.block.now in
          let found = rw inv.context at c.in-Some.ensures.some in
          let s = found (walking c.args.pass made i.0) block S start k _ _ i.1 in
          let none = sym c.is_left.ensures ∙ c.if-is_left.false in
          let next = c.next_element.new.self in
          let v = value_of c.in-Some.found next.value in
          let gives = given c.in-Some.found next.value next.leave none (s.1 none) in
          let later = Walking (thing_of c.args.array) (suc c.elements.next) (holding v (walking c.args.pass made i.0)) c.args.at in
          let f = rw (t.stays.1, y.stays.1, inv.context, t.stays.2, y.stays.2, t.stays.3, t.value, c.second_value.ensures) at c.iteration-came.ensures.came in
          let r = f later S start k names size st e (moved _ _ base inv.room l) (element_begins c.args.pass made i.0 v gives) in
          let goes = r.0 (sym c.goes_on.ensures ∙ c.if-not-goes_on.false) in
          let u = c.value_on-given.ensures in
          let o = c.over-in-Err.ensures in
          rw (o.stays.2, o.stays.3, u.stays.2, u.stays.3) (cut S _ start _ _ _ k _ _ _ _ o.gives goes refl),
    )

pub walk_elements-returns-then-next-clause-came : goal.walk_elements-returns-then-next-clause-came
walk_elements-returns-then-next-clause-came g m c = λ S names size st e l.
    let inv = c.elements.invariant in
    let y = c.next_element.ensures in
    let t = c.take-element.ensures in
    let base : c.take-element.new.self.base ≡ c.args.self.now.base = t.stays.0 ∙ (y.stays.0 ∙ inv.base) in (
      λ i p q.
          let f = rw (t.stays.1, y.stays.1, inv.context) at c.iteration-came.ensures.kept in
          f S names size st e (moved _ _ base inv.room l) i p (omega (arith, q, base)) ∙ inv.kept S names size st e l i p q,
      λ start k a.
          let i = inv.came S start k names size st e l a in
          let made = map plain c.elements.made.items in
          let block = erase_block c.args.block.now in
          let found = rw inv.context at c.in-Some.ensures.some in
          let s = found (walking c.args.pass made i.0) block S start k _ _ i.1 in
          let none = sym c.is_left.ensures ∙ c.if-is_left.false in
          let next = c.next_element.new.self in
          let v = value_of c.in-Some.found next.value in
          let gives = given c.in-Some.found next.value next.leave none (s.1 none) in
          let later = Walking (thing_of c.args.array) (suc c.elements.next) (holding v (walking c.args.pass made i.0)) c.args.at in
          let f = rw (t.stays.1, y.stays.1, inv.context, t.stays.2, y.stays.2, t.stays.3, t.value, c.second_value.ensures) at c.iteration-came.ensures.came in
          let r = f later S start k names size st e (moved _ _ base inv.room l) (element_begins c.args.pass made i.0 v gives) in
          let goes = r.0 (sym c.goes_on.ensures ∙ c.if-not-goes_on.false) in
          let u = c.value_on-given.ensures in
          let o = c.over-then-next.ensures in
          rw (o.stays.2, o.stays.3, u.stays.2, u.stays.3) (cut S _ start _ _ _ k _ _ _ _ o.gives goes refl),
    )

pub walk_elements-elements-init : goal.walk_elements-elements-init
walk_elements-elements-init g m c = record {
  base = refl;
  context = refl;
  room = refl;
  less = omega arith;
  kept = λ S names size st e l i p q. refl;
  came = λ S start k names size st e l a. rw c.new-made.ensures.items (Nil, begun_at S _ start _ _ (thing_of c.args.array) c.args.pass c.args.at (erase_block c.args.block.now) k _ _ _ a);
}

pub walk_elements-elements-preserved : goal.walk_elements-elements-preserved
walk_elements-elements-preserved g m c =
    let old = c.elements.invariant in
    let y = c.next_element.ensures in
    let t = c.take-element.ensures in
    let x = c.iteration-came.ensures in
    let u = c.value_on-given.ensures in
    record {
      base = u.stays.0 ∙ (x.stays.0 ∙ (t.stays.0 ∙ (y.stays.0 ∙ old.base)));
      context = u.stays.1 ∙ (x.stays.1 ∙ (t.stays.1 ∙ (y.stays.1 ∙ old.context)));
      room = x.stays.3 ∙ old.room;
      less = omega (arith, u.stays.2, x.stays.2, t.stays.2, y.stays.2, old.less);
      kept = λ S names size st e l i p q.
          let inv = c.elements.invariant in
          let y = c.next_element.ensures in
          let t = c.take-element.ensures in
          let base : c.take-element.new.self.base ≡ c.args.self.now.base = t.stays.0 ∙ (y.stays.0 ∙ inv.base) in
          let f = rw (t.stays.1, y.stays.1, inv.context) at c.iteration-came.ensures.kept in
          f S names size st e (moved _ _ base inv.room l) i p (omega (arith, q, base)) ∙ inv.kept S names size st e l i p q;
      came = λ S start k names size st e l a.
          let inv = c.elements.invariant in
          let i = inv.came S start k names size st e l a in
          let made = map plain c.elements.made.items in
          let block = erase_block c.args.block.now in
          let y = c.next_element.ensures in
          let found = rw inv.context at c.in-Some.ensures.some in
          let s = found (walking c.args.pass made i.0) block S start k _ _ i.1 in
          let t = c.take-element.ensures in
          let none = sym c.is_left.ensures ∙ c.if-is_left.false in
          let next = c.next_element.new.self in
          let v = value_of c.in-Some.found next.value in
          let gives = given c.in-Some.found next.value next.leave none (s.1 none) in
          let base : c.take-element.new.self.base ≡ c.args.self.now.base = t.stays.0 ∙ (y.stays.0 ∙ inv.base) in
          let later = Walking (thing_of c.args.array) (suc c.elements.next) (holding v (walking c.args.pass made i.0)) c.args.at in
          let f = rw (t.stays.1, y.stays.1, inv.context, t.stays.2, y.stays.2, t.stays.3, t.value, c.second_value.ensures) at c.iteration-came.ensures.came in
          let r = f later S start k names size st e (moved _ _ base inv.room l) (element_begins c.args.pass made i.0 v gives) in
          let goes = r.0 (sym c.goes_on.ensures ∙ c.if-not-goes_on.false) in
          rw (u.stays.2, u.stays.3) (plain c.in-Ok.last, element_ends c.args.pass made _ i.0 (plain c.in-Ok.last) v _ ((rw t.value at c.in-Ok.ensures) made i.0) (rw u.value at c.in_default-gather.ensures) refl goes);
    }

pub pair_turns-pairs-init : goal.pair_turns-pairs-init
pair_turns-pairs-init g m c = record {
  base = refl;
  context = refl;
  room = refl;
  less = omega arith;
  kept = λ S names size st e l i p q. refl;
  came = λ S start k names size st e l a. rw c.into_iter-key-iterator.ensures.into_iter_gives.0 a;
}

pub pair_turns-pairs-preserved : goal.pair_turns-pairs-preserved
pair_turns-pairs-preserved g m c =
    let old = c.pairs.invariant in
    let x = c.iteration-came.ensures in
    record {
      base = x.stays.0 ∙ old.base;
      context = x.stays.1 ∙ old.context;
      room = x.stays.3 ∙ old.room;
      less = omega (arith, x.stays.2, old.less);
      kept = λ S names size st e l i p q.
          let inv = c.pairs.invariant in
          let f = rw inv.context at c.iteration-came.ensures.kept in
          f S names size st e (moved _ _ inv.base inv.room l) i p (omega (arith, q, inv.base)) ∙ inv.kept S names size st e l i p q;
      came = λ S start k names size st e l a.
          let inv = c.pairs.invariant in
          let begins = pair_begins (ap (map pair) c.in-Some.ensures.steps.0) (inv.came S start k names size st e l a) in
          let f = rw inv.context at c.iteration-came.ensures.came in
          let r = f _ S start k names size st e (moved _ _ inv.base inv.room l) begins in
          r.0 (sym c.goes_on.ensures ∙ c.if-not-goes_on.false);
    }

pub pair_turns-returns-then-not-goes_on-clause-came : goal.pair_turns-returns-then-not-goes_on-clause-came
pair_turns-returns-then-not-goes_on-clause-came g m c = λ S names size st e l.
    let inv = c.pairs.invariant in (
      λ i p q.
          let f = rw inv.context at c.iteration-came.ensures.kept in
          f S names size st e (moved _ _ inv.base inv.room l) i p (omega (arith, q, inv.base)) ∙ inv.kept S names size st e l i p q,
      λ start k a.
          let begins = pair_begins (ap (map pair) c.in-Some.ensures.steps.0) (inv.came S start k names size st e l a) in
          let f = rw inv.context at c.iteration-came.ensures.came in
          let r = f _ S start k names size st e (moved _ _ inv.base inv.room l) begins in
          let stop = sym c.goes_on.ensures ∙ c.if-not-goes_on.true in
          rw (c.out_of_loop.ensures stop) (r.1 stop),
    )

pub pair_turns-returns-clause-came : goal.pair_turns-returns-clause-came
pair_turns-returns-clause-came g m c = λ S names size st e l. (
  λ i p q. c.pairs.invariant.kept S names size st e l i p q,
  λ start k a.
      let inv = c.pairs.invariant in
      let o = c.give.ensures in
      rw (o.gives, o.stays.2, o.stays.3) (pairs_end (no_pairs _ (omega (arith, c.in-None.ensures.steps.0))) (inv.came S start k names size st e l a)),
)

pub walk_pairs-returns-in-Ok-Pairs-clause-came : goal.walk_pairs-returns-in-Ok-Pairs-clause-came
walk_pairs-returns-in-Ok-Pairs-clause-came g m c = λ S names size st e l.
    let o = c.copied.ensures in (
      λ i p q.
          let f = rw o.stays.1 at c.pair_turns.ensures.came in
          (f S names size st e (moved _ _ o.stays.0 refl l)).0 i p (omega (arith, q, o.stays.0)),
      λ start k a.
          let hash = c.args.hash in
          let purpose = ForEach (To (thing_of hash)) (erase_block c.args.block.now) in
          let y = c.in-Ok-Pairs.ensures in
          let come = y.reads purpose c.args.at S start k _ _ a in
          let f = rw (o.stays.1, o.stays.2) at c.pair_turns.ensures.came in
          (f S names size st e (moved _ _ o.stays.0 refl l)).1 start k (rw c.in-Ok-Pairs.field-0-is at come),
    )

pub walk_pairs-returns-in-Ok-clause-came : goal.walk_pairs-returns-in-Ok-clause-came
walk_pairs-returns-in-Ok-clause-came g m c = λ S names size st e l. (
  λ i p q. refl,
  λ start k a.
      let hash = c.args.hash in
      let purpose = ForEach (To (thing_of hash)) (erase_block c.args.block.now) in
      let come = c.in-Ok.ensures.reads purpose c.args.at S start k _ _ a in
      let o = c.over.ensures in
      let y = c.copied.ensures in
      rw (o.stays.2, o.stays.3, y.stays.2) (cut S _ start _ _ _ k _ _ _ _ o.gives come (copied_left c.args.at k _ _ _ (To (thing_of hash)) (erase_block c.args.block.now) (thing_of hash) _)),
)

pub walk_pairs-returns-clause-came : goal.walk_pairs-returns-clause-came
walk_pairs-returns-clause-came g m c = λ S names size st e l. (
  λ i p q. refl,
  λ start k a.
      let hash = c.args.hash in
      let purpose = ForEach (To (thing_of hash)) (erase_block c.args.block.now) in
      rw c.copied.ensures.stays.2 (c.in-Err.ensures.ends purpose c.args.at S start k _ _ a),
)

pub send_block-returns-in-Elements-clause-came : goal.send_block-returns-in-Elements-clause-came
send_block-returns-in-Elements-clause-came g m c = λ S names size st e l.
    let w = c.walk-came in
    let right = snd _ _ l.fits in
    let first = sub (fits S c.args.receiver.now) l (fst _ _ right) in
    let t = c.take-receiver.ensures in
    let y = c.arguments-came in
    let under = moved _ _ w.ensures.stays.0 w.ensures.stays.3 (sub (every (map (fits S) c.args.args.now)) l (fst _ _ (snd _ _ right))) in
    let o = c.iterations.ensures in
    let base : c.iterations.new.self.base ≡ c.args.self.now.base = o.stays.0 ∙ (t.stays.0 ∙ w.ensures.stays.0) in
    let inside = moved _ _ base (y.ensures.room ∙ w.ensures.stays.3) (sub (block_fits S c.args.block.now) l (snd _ _ (snd _ _ right))) in (
      λ i p q.
          let f = rw (t.stays.1, t.stays.0, w.ensures.stays.1) at y.ensures.kept in
          let stays = f S names size st e under i p (omega (arith, q, w.ensures.stays.0)) ∙ (w.ensures.came S names size st e first).0 i p q in
          let u = rw (o.stays.1, y.ensures.context, t.stays.1, w.ensures.stays.1) at c.walk_elements.ensures.came in
          (u S names size st e inside).0 i p (omega (arith, q, base)) ∙ stays,
      λ start k a.
          let step = ReceiverOf (text_of S c.args.name) (map erase c.args.args.now) (Some (erase_block c.args.block.now)) c.args.at in
          let come = (w.ensures.came S names size st e first).1 start (Then step ∷ k) a in
          let none = sym c.is_left.ensures ∙ c.if-is_left.false in
          let v = value_of w.result w.new.self.value in
          let f = rw (t.stays.1, t.stays.0, t.stays.2, t.stays.3, w.ensures.stays.1) at y.ensures.came in
          let ends = f (OnReceiver v (text_of S c.args.name) (Some (erase_block c.args.block.now))) c.args.at S start k names size st e under (on _ (given w.result w.new.self.value w.new.self.leave none come) refl) in
          let at_end = ends.1 (sym c.is_left-2.ensures ∙ c.if-is_left-2.false) in
          let short : w.new.self.base ≤ length w.new.room = still_within w.ensures.stays.0 w.ensures.stays.3 l.room in
          let from = rw t.stays.0 at y.ensures.fits in
          let end = rw t.stays.0 at y.ensures.base in
          let edge = from short in
          let last = end (sym c.is_left-2.ensures ∙ c.if-is_left-2.false) in
          let passed = rw t.stays.0 at c.passed-args.ensures in
          let long : w.new.self.base + length c.args.args.now ≤ length y.new.room = up_to_end w.new.self.base _ _ (length c.args.args.now) edge last in
          let values = passed long in
          let number = same_is (builtin_of (text_of S c.args.name)) c.args.method (fst _ _ l.fits) in
          let args = map plain (take (length c.args.args.now) (drop w.new.self.base y.new.room)) in
          let answer = deed c.args.self.now.context.program.now v (text_of S c.args.name) args (Some (length c.args.block.now.params)) in
          let none_own = (rw (y.ensures.context, t.stays.1, w.ensures.stays.1, t.value) at (c.target_of.ensures.none c.in_default.is)) S st in
          let table = answers_block c.args.block.now v (text_of S c.args.name) args c.args.at answer none_own (ap (λ (ns : Program). deed ns v (text_of S c.args.name) args (Some (length c.args.block.now.params))) (sym e)) at_end in
          let said = rw (y.ensures.context, t.stays.1, w.ensures.stays.1, t.value, values, c.len.ensures, c.in-Elements.is) at o.opens in
          let turning = block_comes S _ start _ _ answer (LoopsOver (thing_of c.in-Elements.array) (walk_of c.in-Elements.pass)) (erase_block c.args.block.now) c.args.at k _ _ _ (said (text_of S c.args.name) number) table in
          let u = rw (o.stays.1, o.stays.2, o.stays.3, y.ensures.context, t.stays.1, w.ensures.stays.1) at c.walk_elements.ensures.came in
          (u S names size st e inside).1 start k turning,
    )

pub send_block-returns-in-Pairs-clause-came : goal.send_block-returns-in-Pairs-clause-came
send_block-returns-in-Pairs-clause-came g m c = λ S names size st e l.
    let w = c.walk-came in
    let right = snd _ _ l.fits in
    let first = sub (fits S c.args.receiver.now) l (fst _ _ right) in
    let t = c.take-receiver.ensures in
    let y = c.arguments-came in
    let under = moved _ _ w.ensures.stays.0 w.ensures.stays.3 (sub (every (map (fits S) c.args.args.now)) l (fst _ _ (snd _ _ right))) in
    let o = c.iterations.ensures in
    let base : c.iterations.new.self.base ≡ c.args.self.now.base = o.stays.0 ∙ (t.stays.0 ∙ w.ensures.stays.0) in
    let inside = moved _ _ base (y.ensures.room ∙ w.ensures.stays.3) (sub (block_fits S c.args.block.now) l (snd _ _ (snd _ _ right))) in (
      λ i p q.
          let f = rw (t.stays.1, t.stays.0, w.ensures.stays.1) at y.ensures.kept in
          let stays = f S names size st e under i p (omega (arith, q, w.ensures.stays.0)) ∙ (w.ensures.came S names size st e first).0 i p q in
          let u = rw (o.stays.1, y.ensures.context, t.stays.1, w.ensures.stays.1) at c.walk_pairs.ensures.came in
          (u S names size st e inside).0 i p (omega (arith, q, base)) ∙ stays,
      λ start k a.
          let step = ReceiverOf (text_of S c.args.name) (map erase c.args.args.now) (Some (erase_block c.args.block.now)) c.args.at in
          let come = (w.ensures.came S names size st e first).1 start (Then step ∷ k) a in
          let none = sym c.is_left.ensures ∙ c.if-is_left.false in
          let v = value_of w.result w.new.self.value in
          let f = rw (t.stays.1, t.stays.0, t.stays.2, t.stays.3, w.ensures.stays.1) at y.ensures.came in
          let ends = f (OnReceiver v (text_of S c.args.name) (Some (erase_block c.args.block.now))) c.args.at S start k names size st e under (on _ (given w.result w.new.self.value w.new.self.leave none come) refl) in
          let at_end = ends.1 (sym c.is_left-2.ensures ∙ c.if-is_left-2.false) in
          let short : w.new.self.base ≤ length w.new.room = still_within w.ensures.stays.0 w.ensures.stays.3 l.room in
          let from = rw t.stays.0 at y.ensures.fits in
          let end = rw t.stays.0 at y.ensures.base in
          let edge = from short in
          let last = end (sym c.is_left-2.ensures ∙ c.if-is_left-2.false) in
          let passed = rw t.stays.0 at c.passed-args.ensures in
          let long : w.new.self.base + length c.args.args.now ≤ length y.new.room = up_to_end w.new.self.base _ _ (length c.args.args.now) edge last in
          let values = passed long in
          let number = same_is (builtin_of (text_of S c.args.name)) c.args.method (fst _ _ l.fits) in
          let args = map plain (take (length c.args.args.now) (drop w.new.self.base y.new.room)) in
          let answer = deed c.args.self.now.context.program.now v (text_of S c.args.name) args (Some (length c.args.block.now.params)) in
          let none_own = (rw (y.ensures.context, t.stays.1, w.ensures.stays.1, t.value) at (c.target_of.ensures.none c.in_default.is)) S st in
          let table = answers_block c.args.block.now v (text_of S c.args.name) args c.args.at answer none_own (ap (λ (ns : Program). deed ns v (text_of S c.args.name) args (Some (length c.args.block.now.params))) (sym e)) at_end in
          let said = rw (y.ensures.context, t.stays.1, w.ensures.stays.1, t.value, values, c.len.ensures, c.in-Pairs.is) at o.opens in
          let turning = block_comes S _ start _ _ answer (EachPairOf (thing_of c.in-Pairs.hash)) (erase_block c.args.block.now) c.args.at k _ _ _ (said (text_of S c.args.name) number) table in
          let u = rw (o.stays.1, o.stays.2, o.stays.3, y.ensures.context, t.stays.1, w.ensures.stays.1) at c.walk_pairs.ensures.came in
          (u S names size st e inside).1 start k turning,
    )

pub operate-returns-in-Some-clause-came : goal.operate-returns-in-Some-clause-came
operate-returns-in-Some-clause-came g m c = λ S names size st e l.
    let w = c.evaluate-came in
    let right = two _ (fits S c.args.right.now names size) (fst _ _ l.fits) (snd _ _ (snd _ _ l.fits)) in
    let under = moved _ _ w.ensures.stays.0 w.ensures.stays.3 (sub (numbered c.args.method c.args.name (λ S. fits S c.args.right.now) S) l right) in
    let f = rw w.ensures.stays.1 at c.operate_collection.ensures.came in (
      λ i p q. (f S names size st e under).0 i p (omega (arith, q, w.ensures.stays.0)) ∙ (w.ensures.came S names size st e (sub (fits S c.args.left.now) l (fst _ _ (snd _ _ l.fits)))).0 i p q,
      λ start k a.
          let e1 = (w.ensures.came S names size st e (sub (fits S c.args.left.now) l (fst _ _ (snd _ _ l.fits)))).1 start (Then (ReceiverOf (text_of S c.args.name) (erase c.args.right.now ∷ []) None c.args.at) ∷ k) a in
          let g1 = given w.result w.new.self.value w.new.self.leave (sym c.is_left.ensures ∙ c.if-is_left.false) e1 in
          let g2 = gives (me_of (Some c.in-Some.thing)) c.in-Some.ensures.value g1 in
          (f S names size st e under).1 start k (on _ (on _ g2 refl) refl),
    )

pub operate_collection-returns-then-is_left-clause-came : goal.operate_collection-returns-then-is_left-clause-came
operate_collection-returns-then-is_left-clause-came g m c = λ S names size st e l. (
  λ i p q. (c.evaluate-came.ensures.came S names size st e (sub (fits S c.args.right.now) l (snd _ _ l.fits))).0 i p q,
  λ start k a.
      let w = c.evaluate-came in
      let step = Argument (OnReceiver (me_of (Some c.args.thing)) (text_of S c.args.name) None) [] [] c.args.at in
      let come = (w.ensures.came S names size st e (sub (fits S c.args.right.now) l (snd _ _ l.fits))).1 start (Then step ∷ k) a in
      passes S _ start _ w.result w.new.self.value w.new.self.leave _ step k _ _ _ (sym c.is_left.ensures ∙ c.if-is_left.true) come,
)

pub operate_collection-returns-clause-came : goal.operate_collection-returns-clause-came
operate_collection-returns-clause-came g m c = λ S names size st e l. (
  λ i p q. (c.evaluate-came.ensures.came S names size st e (sub (fits S c.args.right.now) l (snd _ _ l.fits))).0 i p q,
  λ start k a.
      let w = c.evaluate-came in
      let to = me_of (Some c.args.thing) in
      let step = Argument (OnReceiver to (text_of S c.args.name) None) [] [] c.args.at in
      let come = (w.ensures.came S names size st e (sub (fits S c.args.right.now) l (snd _ _ l.fits))).1 start (Then step ∷ k) a in
      let g1 = given w.result w.new.self.value w.new.self.leave (sym c.is_left.ensures ∙ c.if-is_left.false) come in
      let o = c.asked_with.ensures in
      let number = same_is (builtin_of (text_of S c.args.name)) c.args.method (fst _ _ l.fits) in
      let f1 = rw w.ensures.stays.1 at o.came in
      calls_builtin S _ start _ _ _ _ _ _ _ _ _ _ c.args.self.now.context.program.now c.args.method to (text_of S c.args.name) (value_of w.result w.new.self.value ∷ []) c.args.at (c.requires.alone S st) number e f1 (on _ (on _ g1 refl) refl),
)

pub begin_slow_operate-returns-in-Some-local_collection-clause-came : goal.begin_slow_operate-returns-in-Some-local_collection-clause-came
begin_slow_operate-returns-in-Some-local_collection-clause-came g m c = λ S names size st e l.
    let x = c.in-Operate in
    let s = sym (ap (λ d. fits S d names size) x.is ∙ fits-operate S names size x.method x.name x.left x.right x.at) ∙ l.fits in
    let fr : fits S c.get-right.result.now names size ≡ true = rw c.get-right.ensures (snd _ _ (snd _ _ s)) in
    let right = two _ (fits S c.get-right.result.now names size) (fst _ _ s) fr in (
      λ i p q. (c.operate_collection.ensures.came S names size st e (sub _ l right)).0 i p q,
      λ start k a.
          let fl : fits S c.get-left.result.now names size ≡ true = rw c.get-left.ensures (fst _ _ (snd _ _ s)) in
          let len : length names ≤ length c.args.room.now = omega (arith, l.within, l.below, l.room) in
          let more : 0 < c.args.self.now.left = omega (arith, c.if-self-gt1.true) in
          let b = begins _ _ k _ _ _ (shows-operate c.args.code.now x.method x.name x.left x.right x.at x.is) a in
          let waits = Then (ReceiverOf (text_of S x.name) (erase c.get-right.result.now ∷ []) None x.at) ∷ k in
          let e1 = c.in-Some-local_collection.ensures.held S _ names size c.args.depth c.args.self.now.left start _ _ waits (me_of c.args.self.now.context.me) fl len more c.if-depth-lt-MAX_DEPTH.true (rw (c.get-left.ensures, c.get-right.ensures) b) in
          (c.operate_collection.ensures.came S names size st e (sub _ l right)).1 start k (on _ (on _ e1 refl) refl),
    )

pub begin_store-returns-in_default-clause-came : goal.begin_store-returns-in_default-clause-came
begin_store-returns-in_default-clause-came g m c = λ S names size st e l. (λ i p q. refl, λ start k a. let o = c.over.ensures in no_arm S _ k _ _ _ o.gives o.stays.2 (ap g.O.ThreadStore.log o.stays.3) (ap g.O.ThreadStore.private o.stays.3) a)

pub begin-returns-in-Store-clause-came : goal.begin-returns-in-Store-clause-came
begin-returns-in-Store-clause-came g m c = c.begin_store.ensures.came

pub begin_store-returns-in-Some-clause-came : goal.begin_store-returns-in-Some-clause-came
begin_store-returns-in-Some-clause-came g m c = λ S names size st e l.
    let x = c.in-Store in
    let s = sym (ap (λ d. fits S d names size) x.is ∙ fits-store S names size x.method x.receiver x.name x.args x.at) ∙ l.fits in
    let args = single _ _ _ c.as_slice-args.ensures c.in-len1.len_at_least c.in-len1.len_below c.only-item.is in
    let all : every (map (fits S) x.args) names size ≡ true = snd _ _ (snd _ _ s) in (
      λ i p q.
          let fit : fits S c.only-item.result names size ≡ true = fst _ _ (rw args at all) in
          (c.store_target.ensures.came S names size st e (sub _ l fit)).0 i p q,
      λ start k a.
          let first = c.only-item.result in
          let fl : fits S c.get-receiver.result.now names size ≡ true = rw c.get-receiver.ensures (fst _ _ (snd _ _ s)) in
          let fit : fits S first names size ≡ true = fst _ _ (rw args at all) in
          let len : length names ≤ length c.args.room.now = omega (arith, l.within, l.below, l.room) in
          let sc = scope_of (me_of c.args.self.now.context.me) names c.args.room.now in
          let b = same (begins _ _ k _ _ _ (shows-store c.args.code.now x.method x.receiver x.name x.args x.at x.is) a) (ap (λ args. On (Eval (erase x.receiver)) (Then (ReceiverToStore (text_of S x.name) (map erase args) x.at) ∷ k) sc c.args.depth c.args.self.now.left) args) in
          let waits = Then (ReceiverToStore (text_of S x.name) (erase first ∷ []) x.at) ∷ k in
          let e1 = c.in-Some.ensures.held S _ names size c.args.depth c.args.self.now.left start _ _ waits (me_of c.args.self.now.context.me) fl len c.if-self-gt0.true c.if-depth-lt-MAX_DEPTH.true (rw c.get-receiver.ensures b) in
          (c.store_target.ensures.came S names size st e (sub _ l fit)).1 start k (on _ (on _ e1 refl) refl),
    )

pub begin_store-returns-in-Some-local_collection-clause-came : goal.begin_store-returns-in-Some-local_collection-clause-came
begin_store-returns-in-Some-local_collection-clause-came g m c = λ S names size st e l.
    let x = c.in-Store in
    let s = sym (ap (λ d. fits S d names size) x.is ∙ fits-store S names size x.method x.receiver x.name x.args x.at) ∙ l.fits in
    let all : every (map (fits S) x.args) names size ≡ true = snd _ _ (snd _ _ s) in (
      λ i p q.
          let args = two_items _ _ c.index-item.result c.value-item.result c.as_slice-args.ensures c.in-len2.len_at_least c.in-len2.len_below c.index-item.is c.value-item.is in
          let both_fit = args_fit S c.index-item.result c.value-item.result names size (rw args at all) in
          let right = two _ _ (fst _ _ s) both_fit in
          (c.store_element.ensures.came S names size st e (sub _ l right)).0 i p q,
      λ start k a.
          let first = c.index-item.result in
          let second = c.value-item.result in
          let fl : fits S c.get-receiver.result.now names size ≡ true = rw c.get-receiver.ensures (fst _ _ (snd _ _ s)) in
          let args = two_items _ _ first second c.as_slice-args.ensures c.in-len2.len_at_least c.in-len2.len_below c.index-item.is c.value-item.is in
          let both_fit = args_fit S first second names size (rw args at all) in
          let right = two _ _ (fst _ _ s) both_fit in
          let len : length names ≤ length c.args.room.now = omega (arith, l.within, l.below, l.room) in
          let sc = scope_of (me_of c.args.self.now.context.me) names c.args.room.now in
          let b = same (begins _ _ k _ _ _ (shows-store c.args.code.now x.method x.receiver x.name x.args x.at x.is) a) (ap (λ args. On (Eval (erase x.receiver)) (Then (ReceiverToStore (text_of S x.name) (map erase args) x.at) ∷ k) sc c.args.depth c.args.self.now.left) args) in
          let waits = Then (ReceiverToStore (text_of S x.name) (erase first ∷ erase second ∷ []) x.at) ∷ k in
          let e1 = c.in-Some-local_collection.ensures.held S _ names size c.args.depth c.args.self.now.left start _ _ waits (me_of c.args.self.now.context.me) fl len c.if-self-gt0.true c.if-depth-lt-MAX_DEPTH.true (rw c.get-receiver.ensures b) in
          (c.store_element.ensures.came S names size st e (sub _ l right)).1 start k (on _ (on _ e1 refl) refl),
    )

pub store_element-returns-then-is_left-clause-came : goal.store_element-returns-then-is_left-clause-came
store_element-returns-then-is_left-clause-came g m c = λ S names size st e l. (
  λ i p q. (c.evaluate-first.ensures.came S names size st e (sub (fits S c.args.index.now) l (fst _ _ (snd _ _ l.fits)))).0 i p q,
  λ start k a.
      let w = c.evaluate-first in
      let step = Argument (Storing (me_of (Some c.args.thing)) (text_of S c.args.name)) [] (erase c.args.value.now ∷ []) c.args.at in
      let come = (w.ensures.came S names size st e (sub (fits S c.args.index.now) l (fst _ _ (snd _ _ l.fits)))).1 start (Then step ∷ k) a in
      passes S _ start _ w.result w.new.self.value w.new.self.leave _ step k _ _ _ (sym c.is_left.ensures ∙ c.if-is_left.true) come,
)

pub store_element-returns-then-is_left-2-clause-came : goal.store_element-returns-then-is_left-2-clause-came
store_element-returns-then-is_left-2-clause-came g m c = λ S names size st e l.
    let w = c.evaluate-first in
    let t = c.take-index in
    let y = c.evaluate-came in
    let under = moved _ _ (t.ensures.stays.0 ∙ w.ensures.stays.0) w.ensures.stays.3 (sub (fits S c.args.value.now) l (snd _ _ (snd _ _ l.fits))) in (
      λ i p q.
          let f = rw (t.ensures.stays.1, w.ensures.stays.1) at y.ensures.came in
          (f S names size st e under).0 i p (omega (arith, q, t.ensures.stays.0, w.ensures.stays.0)) ∙ (w.ensures.came S names size st e (sub (fits S c.args.index.now) l (fst _ _ (snd _ _ l.fits)))).0 i p q,
      λ start k a.
          let aim = Storing (me_of (Some c.args.thing)) (text_of S c.args.name) in
          let step = Argument aim [] (erase c.args.value.now ∷ []) c.args.at in
          let come = (w.ensures.came S names size st e (sub (fits S c.args.index.now) l (fst _ _ (snd _ _ l.fits)))).1 start (Then step ∷ k) a in
          let v = value_of w.result w.new.self.value in
          let g1 = given w.result w.new.self.value w.new.self.leave (sym c.is_left.ensures ∙ c.if-is_left.false) come in
          let next = Argument aim (v ∷ []) [] c.args.at in
          let f = rw (t.ensures.stays.1, w.ensures.stays.1, t.ensures.stays.2, t.ensures.stays.3) at y.ensures.came in
          let h = (f S names size st e under).1 start (Then next ∷ k) (on _ (on _ g1 refl) refl) in
          passes S _ start _ y.result y.new.self.value y.new.self.leave _ next k _ _ _ (sym c.is_left-2.ensures ∙ c.if-is_left-2.true) h,
    )

pub store_element-returns-clause-came : goal.store_element-returns-clause-came
store_element-returns-clause-came g m c = λ S names size st e l.
    let w = c.evaluate-first in
    let t = c.take-index in
    let y = c.evaluate-came in
    let under = moved _ _ (t.ensures.stays.0 ∙ w.ensures.stays.0) w.ensures.stays.3 (sub (fits S c.args.value.now) l (snd _ _ (snd _ _ l.fits))) in (
      λ i p q.
          let f = rw (t.ensures.stays.1, w.ensures.stays.1) at y.ensures.came in
          (f S names size st e under).0 i p (omega (arith, q, t.ensures.stays.0, w.ensures.stays.0)) ∙ (w.ensures.came S names size st e (sub (fits S c.args.index.now) l (fst _ _ (snd _ _ l.fits)))).0 i p q,
      λ start k a.
          let to = me_of (Some c.args.thing) in
          let aim = Storing to (text_of S c.args.name) in
          let step = Argument aim [] (erase c.args.value.now ∷ []) c.args.at in
          let come = (w.ensures.came S names size st e (sub (fits S c.args.index.now) l (fst _ _ (snd _ _ l.fits)))).1 start (Then step ∷ k) a in
          let v = value_of w.result w.new.self.value in
          let g1 = given w.result w.new.self.value w.new.self.leave (sym c.is_left.ensures ∙ c.if-is_left.false) come in
          let next = Argument aim (v ∷ []) [] c.args.at in
          let f = rw (t.ensures.stays.1, w.ensures.stays.1, t.ensures.stays.2, t.ensures.stays.3) at y.ensures.came in
          let h = (f S names size st e under).1 start (Then next ∷ k) (on _ (on _ g1 refl) refl) in
          let g2 = given y.result y.new.self.value y.new.self.leave (sym c.is_left-2.ensures ∙ c.if-is_left-2.false) h in
          let values = v ∷ value_of y.result y.new.self.value ∷ [] in
          let o = c.stored.ensures in
          let number = same_is (builtin_of (text_of S c.args.name)) c.args.method (fst _ _ l.fits) in
          let f1 = rw (y.ensures.stays.1, t.ensures.stays.1, w.ensures.stays.1, t.ensures.value) at (o.came (text_of S c.args.name) number) in
          stores_builtin S _ start _ _ _ _ _ _ _ _ _ _ c.args.self.now.context.program.now to (text_of S c.args.name) values c.args.at (c.requires.alone S st) e f1 (on _ (on _ g2 refl) refl),
    )

pub evaluate_call-returns-then-is_told-clause-came : goal.evaluate_call-returns-then-is_told-clause-came
evaluate_call-returns-then-is_told-clause-came g m c = λ S names size st e l. (
  λ i p q. refl,
  λ start k a.
      let x = c.in-Operate in
      let s = sym (ap (λ d. fits S d names size) x.is ∙ fits-operate S names size x.method x.field-1 x.left x.right x.at) ∙ l.fits in
      let first = c.get-left.result.now in
      let second = c.get-right.result.now in
      let fl : fits S first names size ≡ true = rw c.get-left.ensures (fst _ _ (snd _ _ s)) in
      let fr : fits S second names size ≡ true = rw c.get-right.ensures (snd _ _ (snd _ _ s)) in
      let len : length names ≤ length c.args.room.now = omega (arith, l.within, l.below, l.room) in
      let told = told_value _ (sym c.is_told.ensures ∙ c.if-is_told.true) in
      let is = rw told.1 at c.element_at-element.ensures in
      let number = same_is (builtin_of (text_of S x.field-1)) x.method (fst _ _ s) in
      let inside = Under c.args.depth ∷ k in
      let b = begins _ _ inside _ _ _ (shows-operate c.args.code.now x.method x.field-1 x.left x.right x.at x.is) (counts (omega (arith, c.if-self-gt6.true)) (omega (arith, c.if-depth.true)) a) in
      let gives_it = c.immediate.ensures told.0 c.args.self.now.value c.args.self.now.leave told.1 in
      let less : c.args.self.now.left - (1 + c.steps_of.result + c.steps_of-then-is_told.result) ≡ c.args.self.now.left - 1 - (c.steps_of.result + c.steps_of-then-is_told.result) = omega arith in
      let come = reads_element S c.args.self.now.context.steps start (g.O.ThreadStore.log c.args.self.now.store) (g.O.ThreadStore.private c.args.self.now.store) inside (me_of c.args.self.now.context.me) names size (c.args.depth + 1) (c.args.self.now.left - 1) _ _ c.args.room.now x.method x.field-1 first second x.at told.0 number fl fr len (rw c.steps_of.ensures.exact at c.steps_of.ensures.few) (omega (arith, c.if-self-gt6.true)) (omega (arith, c.if-depth.true)) is (rw (c.get-left.ensures, c.get-right.ensures) b) in
      rw (gives_it, less, c.steps_of.ensures.exact, c.steps_of-then-is_told.ensures.exact)
      (left S c.args.self.now.context.steps start (g.O.ThreadStore.private c.args.self.now.store) (g.O.ThreadStore.log c.args.self.now.store) (Gave told.0) k (scope_of (me_of c.args.self.now.context.me) names c.args.room.now) c.args.depth (c.args.depth + 1) _ come),
)

pub arguments-each-preserved-in-Some : goal.arguments-each-preserved-in-Some
arguments-each-preserved-in-Some g m c =
    let old = c.each.invariant in
    let z : to_z w64 (of_z w64 c.in-Some.n) ≡ c.in-Some.n = search rules in
    let long : length c.put.new.room ≡ length c.each.room = ap length c.put.ensures ∙ len_set c.each.room c.each.self.base _ in
    record {
      base = omega (arith, old.base);
      bound = λ r. omega (arith, long, c.if-self-room.true);
      context = old.context;
      room = long ∙ old.room;
      less = omega (arith, old.less);
      kept = λ S names size st e l i p q.
          let inv = c.each.invariant in
          ap (λ r. slice_get r i) c.put.ensures ∙ (get_set c.each.room c.each.self.base i _ (λ z. omega (arith, z, q, inv.base)) ∙ inv.kept S names size st e l i p q);
      came = λ aim at S start k names size st e l a.
          let loop = c.each in
          let inv = loop.invariant in
          let right = every_item S _ _ c.arg-item.result names size c.each-test.true c.arg-item.is l.fits in
          let item = next_item _ _ c.arg-item.result c.each-test.true c.arg-item.is in
          let rest = map erase (drop (loop.arg-index + 1) c.args.args.now) in
          let step = Argument aim (map plain (take loop.arg-index (drop c.args.self.now.base loop.room))) rest at in
          let h1 = on _ (passing _ (sym (ap (map erase) item)) (inv.came aim at S start k names size st e l a)) refl in
          let len : length names ≤ length loop.room = omega (arith, l.within, l.below, l.room, inv.room) in
          let e1 = c.in-Some.ensures S _ names size c.args.depth loop.self.left start _ _ (Then step ∷ k) _ right len c.if-self-gt0.true c.if-depth-lt-MAX_DEPTH.true h1 in
          let base = c.args.self.now.base in
          let within : base + loop.arg-index < length loop.room = omega (arith, inv.base, c.if-self-room.true) in
          rw (c.put.ensures, z, inv.base) (joined (me_of c.args.self.now.context.me) names base loop.arg-index loop.room loop.room (held.Int c.in-Some.n) (Int c.in-Some.n) refl (omega (arith, l.within, l.below)) within (λ j q. refl) e1);
    }

pub arguments-each-preserved-in-Ok : goal.arguments-each-preserved-in-Ok
arguments-each-preserved-in-Ok g m c =
    let old = c.each.invariant in
    let long : length (slice_set c.each.room c.each.self.base c.in-Ok.copy) ≡ length c.each.room = len_set c.each.room c.each.self.base c.in-Ok.copy in
    record {
      base = omega (arith, old.base);
      bound = λ r. omega (arith, long, c.if-self-room.true);
      context = old.context;
      room = long ∙ old.room;
      less = omega (arith, old.less);
      kept = λ S names size st e l i p q.
          let inv = c.each.invariant in
          (get_set c.each.room c.each.self.base i _ (λ z. omega (arith, z, q, inv.base)) ∙ inv.kept S names size st e l i p q);
      came = λ aim at S start k names size st e l a.
          let loop = c.each in
          let inv = loop.invariant in
          let right = every_item S _ _ c.arg-item.result names size c.each-test.true c.arg-item.is l.fits in
          let item = next_item _ _ c.arg-item.result c.each-test.true c.arg-item.is in
          let rest = map erase (drop (loop.arg-index + 1) c.args.args.now) in
          let step = Argument aim (map plain (take loop.arg-index (drop c.args.self.now.base loop.room))) rest at in
          let h1 = on _ (passing _ (sym (ap (map erase) item)) (inv.came aim at S start k names size st e l a)) refl in
          let len : length names ≤ length loop.room = omega (arith, l.within, l.below, l.room, inv.room) in
          let e1 = c.in-Some-local_at.ensures S _ names size c.args.depth loop.self.left start _ _ (Then step ∷ k) _ right len c.if-self-gt0.true c.if-depth-lt-MAX_DEPTH.true h1 in
          let base = c.args.self.now.base in
          let within : base + loop.arg-index < length loop.room = omega (arith, inv.base, c.if-self-room.true) in
          rw inv.base (joined (me_of c.args.self.now.context.me) names base loop.arg-index loop.room loop.room c.in-Ok.copy (plain c.in-Some-local_at.value.now) c.in-Ok.ensures.value (omega (arith, l.within, l.below)) within (λ j q. refl) e1);
    }

pub store_target-returns-in-Some-entered_giving-clause-came : goal.store_target-returns-in-Some-entered_giving-clause-came
store_target-returns-in-Some-entered_giving-clause-came g m c = λ S names size st e l. (
  λ i p q. (c.evaluate-came.ensures.came S names size st e l).0 i p q,
  λ start k a.
      let w = c.evaluate-came in
      let n = c.entered_writing.ensures.none c.in_default.is in
      let to = me_of (Some c.args.target.object) in
      let x = value_of w.result w.new.self.value in
      let target = c.requires.target in
      let come = (w.ensures.came S names size st e l).1 start (Then (Argument (Storing to (text_of S c.args.name)) [] [] c.args.at) ∷ k) a in
      let g1 = given w.result w.new.self.value w.new.self.leave (sym c.is_left.ensures ∙ c.if-is_left.false) come in
      let g2 = same (on _ (on _ g1 refl) refl) (by_receiver S to to (text_of S c.args.name) (erase_method c.args.target.method.now) (x ∷ []) c.args.at (Then (Instead x) ∷ k) _ _ _ (target.finds S st) refl) in
      let f = rw (n, w.ensures.stays.1) at c.in-Some-entered_giving.ensures.came in
      let done = f S start (Then (Instead x) ∷ k) (scope_of (me_of c.args.self.now.context.me) names w.new.room) c.args.at (target.right S st) g2 in
      stored S _ start _ x _ _ k _ _ _ (rw n at c.in-Some-entered_giving.ensures.settled) done,
)

pub write_member-returns-in-Some-entered_giving-clause-came : goal.write_member-returns-in-Some-entered_giving-clause-came
write_member-returns-in-Some-entered_giving-clause-came g m c = λ name S start k names st e writes free le bound_ a.
    let script = c.args.self.now.context.script.now in
    let v = value_of c.args.came c.args.self.now.value in
    let receiver = plain c.args.receiver.now in
    let n = c.entered_writing.ensures.none c.in_default-entered_writing.is in
    let meth = c.in-Some.target.method.now in
    let to = me_of (Some c.in-Some.target.object) in
    let is = c.in-Some.ensures.some in
    let entered = same a (by_receiver S receiver to (text_of S name ++ codes "=") (erase_method meth) (v ∷ []) c.args.at (Then (Instead v) ∷ k) _ _ _ (writer_some script S st receiver c.args.writer name c.in-Some.target.object meth writes is) (writer_me script receiver c.args.writer c.in-Some.target.object meth is)) in
    let f = rw n at c.in-Some-entered_giving.ensures.came in
    let done = f S start (Then (Instead v) ∷ k) (scope_of (me_of c.args.self.now.context.me) names c.args.room.now) c.args.at (writer_right script S st receiver c.args.writer c.in-Some.target.object meth is) entered in
    stored S _ start _ v _ _ k _ _ _ (rw n at c.in-Some-entered_giving.ensures.settled) done

pub send_target-returns-then-is_left-clause-came : goal.send_target-returns-then-is_left-clause-came
send_target-returns-then-is_left-clause-came g m c = λ S names size st e l. (
  λ i p q. c.arguments-came.ensures.kept S names size st e l i p q,
  λ start k a.
      let both = c.arguments-came.ensures.came (OnReceiver (me_of (Some c.args.target.object)) (text_of S c.args.name) None) c.args.at S start k names size st e l a in
      both.0 (sym c.is_left.ensures ∙ c.if-is_left.true),
)

pub send_target-returns-clause-came : goal.send_target-returns-clause-came
send_target-returns-clause-came g m c = λ S names size st e l. (
  λ i p q. c.enter.ensures.kept i (omega (arith, q)) ∙ c.arguments-came.ensures.kept S names size st e l i p q,
  λ start k a.
      let y = c.arguments-came in
      let to = me_of (Some c.args.target.object) in
      let both = y.ensures.came (OnReceiver to (text_of S c.args.name) None) c.args.at S start k names size st e l a in
      let none = sym c.is_left.ensures ∙ c.if-is_left.false in
      let count = length c.args.args.now in
      let base = c.args.self.now.base in
      let long : base + count ≤ length y.new.room = omega (arith, y.ensures.base none, y.ensures.fits l.room) in
      let t = c.requires.target in
      let args = map plain (take count (drop base y.new.room)) in
      let entered = same (on _ (both.1 none) refl) (by_receiver S to to (text_of S c.args.name) (erase_method c.args.target.method.now) args c.args.at k _ _ _ (t.finds S st) refl) in
      let f = rw y.ensures.context at c.enter.ensures.came in
      f S start k names st e (t.right S st) (omega (arith, l.within, l.below)) long entered,
)

pub begin_slow_send-returns-in-Some-clause-came : goal.begin_slow_send-returns-in-Some-clause-came
begin_slow_send-returns-in-Some-clause-came g m c = λ S names size st e l.
    let x = c.in-Send in
    let s = sym (ap (λ d. fits S d names size) x.is ∙ fits-send S names size x.method x.name x.receiver x.args x.at) ∙ l.fits in
    let under = sub _ l (rw c.as_slice-args.ensures (snd _ _ (snd _ _ s))) in (
      λ i p q. (c.send_target.ensures.came S names size st e under).0 i p q,
      λ start k a.
          let right : fits S c.get-receiver.result.now names size ≡ true = rw c.get-receiver.ensures (fst _ _ (snd _ _ s)) in
          let len : length names ≤ length c.args.room.now = omega (arith, l.within, l.below, l.room) in
          let b = begins _ _ k _ _ _ (shows-send c.args.code.now x.method x.name x.receiver x.args x.at x.is) a in
          let waits = Then (ReceiverOf (text_of S x.name) (map erase x.args) None x.at) ∷ k in
          let e1 = c.in-Some.ensures.held S _ names size c.args.depth c.args.self.now.left start _ _ waits (me_of c.args.self.now.context.me) right len c.if-self-gt0.true c.if-depth-lt-MAX_DEPTH.true (rw c.get-receiver.ensures b) in
          (c.send_target.ensures.came S names size st e under).1 start k (rw c.as_slice-args.ensures (on _ e1 refl)),
    )

pub begin_slow_operate-returns-in-Some-clause-came : goal.begin_slow_operate-returns-in-Some-clause-came
begin_slow_operate-returns-in-Some-clause-came g m c = λ S names size st e l. (
  λ i p q. refl,
  λ start k a.
      let x = c.in-Operate in
      let s = sym (ap (λ d. fits S d names size) x.is ∙ fits-operate S names size x.method x.name x.left x.right x.at) ∙ l.fits in
      let first = c.get-left.result.now in
      let second = c.get-right.result.now in
      let fl : fits S first names size ≡ true = rw c.get-left.ensures (fst _ _ (snd _ _ s)) in
      let fr : fits S second names size ≡ true = rw c.get-right.ensures (snd _ _ (snd _ _ s)) in
      let len : length names ≤ length c.args.room.now = omega (arith, l.within, l.below, l.room) in
      let o = c.answer.ensures in
      let number = same_is (builtin_of (text_of S x.name)) x.method (fst _ _ s) in
      let b = begins _ _ k _ _ _ (shows-operate c.args.code.now x.method x.name x.left x.right x.at x.is) a in
      rw (o.gives, o.stays.2, o.stays.3)
      (compares S _ start _ c.args.self.now.context.script.now _ k (me_of c.args.self.now.context.me) names size c.args.depth c.args.self.now.left c.args.room.now x.method x.name first second x.at _ st number fl fr len c.if-self-gt1.true c.if-depth-lt-MAX_DEPTH.true c.in-Some.ensures (rw (c.get-left.ensures, c.get-right.ensures) b)),
)

pub keep_local-returns-then-is_local-clause-kept : goal.keep_local-returns-then-is_local-clause-kept
keep_local-returns-then-is_local-clause-kept g m c = c.keep_copy.ensures.kept

pub keep_local-returns-then-is_local-clause-came : goal.keep_local-returns-then-is_local-clause-came
keep_local-returns-then-is_local-clause-came g m c = c.keep_copy.ensures.came

pub keep_copy-returns-in-Some-clause-kept : goal.keep_copy-returns-in-Some-clause-kept
keep_copy-returns-in-Some-clause-kept g m c = λ name S names size st e l i p q.
    let t = c.place.ensures in
    let s = slot_within name names c.args.slot (fst _ _ l.fits) in
    kept_write c.args.slot i _ _ _ _ (λ z. omega (arith, z, s, l.within, p)) (wrote t.0 t.1 t.2)

pub keep_copy-returns-in-Some-clause-came : goal.keep_copy-returns-in-Some-clause-came
keep_copy-returns-in-Some-clause-came g m c = λ name.
    let t = c.place.ensures in
    only_came _ refl (
      plain c.in-Some.copy,
      λ S start k names size st e l a.
          let len : length names ≤ length c.args.room.now = omega (arith, l.within, l.below, l.room) in
          let come = c.in-Some.ensures S _ names size c.args.depth c.args.self.now.left start _ _ (Then (AssignTo name) ∷ k) (me_of c.args.self.now.context.me) (snd _ _ l.fits) len c.if-self-gt0.true c.if-depth-lt-MAX_DEPTH.true a in
          assigned name (AssignTo name) names c.args.slot c.args.room.now c.place.new.room (plain c.in-Some.copy) _ _ plainly len (fst _ _ l.fits) (wrote t.0 t.1 t.2) come,
    )

pub keep_copy-returns-clause-kept : goal.keep_copy-returns-clause-kept
keep_copy-returns-clause-kept g m c = c.keep_any.ensures.kept

pub keep_copy-returns-clause-came : goal.keep_copy-returns-clause-came
keep_copy-returns-clause-came g m c = c.keep_any.ensures.came

pub operate_value-returns-in-Some-clause-came : goal.operate_value-returns-in-Some-clause-came
operate_value-returns-in-Some-clause-came g m c = λ S names size st e l. (
  λ i p q. (c.operate_target.ensures.came S names size st e (sub (fits S c.args.right.now) l (snd _ _ l.fits))).0 i p q,
  λ start k a.
      let sc = scope_of (me_of c.args.self.now.context.me) names c.args.room.now in
      let right = c.args.right.now in
      let b = same a (ap (λ v. On (Eval (erase right)) (Then (Argument (OnReceiver v (text_of S c.args.name) None) [] [] c.args.at) ∷ k) sc c.args.depth c.args.self.now.left) c.in-Some.ensures.value) in
      (c.operate_target.ensures.came S names size st e (sub (fits S right) l (snd _ _ l.fits))).1 start k b,
)

pub operate_value-returns-then-is_nil_asked-clause-came : goal.operate_value-returns-then-is_nil_asked-clause-came
operate_value-returns-then-is_nil_asked-clause-came g m c = λ S names size st e l. (
  λ i p q. refl,
  λ start k a.
      let v = value_of c.args.came c.args.self.now.value in
      let text = text_of S c.args.name in
      let asked = c.is_nil_asked.ensures in
      let len : length names ≤ length c.args.room.now = omega (arith, l.within, l.below, l.room) in
      let waits = Then (Argument (OnReceiver v text None) [] [] c.args.at) ∷ k in
      let e1 = asked.right c.if-is_nil_asked.true c.args.room.now S _ names size c.args.depth c.args.self.now.left start _ _ waits (me_of c.args.self.now.context.me) (snd _ _ l.fits) len c.if-self-gt0.true c.if-depth-lt-MAX_DEPTH.true a in
      let number = same_is (builtin_of text) c.args.method (fst _ _ l.fits) ∙ asked.method c.if-is_nil_asked.true in
      let o = c.answer.ensures in
      rw (o.gives, o.stays.2, o.stays.3)
      (asks_nil S _ start _ _ k _ _ _ v text c.args.at _ (c.target_now.ensures.none c.requires.came c.in_default.is S st) number c.nil_came-answer.ensures e1),
)

pub send-returns-in-Some-entered_reader-clause-came : goal.send-returns-in-Some-entered_reader-clause-came
send-returns-in-Some-entered_reader-clause-came g m c = λ S names size st e l. (
  λ i p q. (c.walk_here-came.ensures.came S names size st e (sub (fits S c.args.receiver.now) l (fst _ _ (snd _ _ l.fits)))).0 i p q,
  λ start k a.
      let w = c.walk_here-came in
      let text = text_of S c.args.name in
      let step = ReceiverOf text (map erase c.args.args.now) None c.args.at in
      let come = (w.ensures.came S names size st e (sub (fits S c.args.receiver.now) l (fst _ _ (snd _ _ l.fits)))).1 start (Then step ∷ k) a in
      let g1 = given w.result w.new.self.value w.new.self.leave (sym c.is_left.ensures ∙ c.if-is_left.false) come in
      let to = me_of (Some c.in-Some.target.object) in
      let g2 = on _ (gives to c.in-Some.ensures.value g1) refl in
      let sc = scope_of (me_of c.args.self.now.context.me) names w.new.room in
      let none = no_items c.args.args.now c.in-Some-entered_reader.ensures.count in
      let g3 = same g2 (ap (λ args. On (Passing (OnReceiver to text None) [] (map erase args) c.args.at) k sc c.args.depth w.new.self.left) none) in
      let target = rw w.ensures.stays.1 at c.in-Some.ensures.target in
      let entered = same (on _ g3 refl) (by_receiver S to to text (erase_method c.in-Some.target.method.now) [] c.args.at k _ _ _ (target.finds S st) refl) in
      let f = rw w.ensures.stays.1 at c.in-Some-entered_reader.ensures.came in
      f S start k sc c.args.at (target.right S st) entered,
)

pub send-returns-in-Some-collection_now-clause-came : goal.send-returns-in-Some-collection_now-clause-came
send-returns-in-Some-collection_now-clause-came g m c = λ S names size st e l. (
  λ i p q. (c.walk_here-came.ensures.came S names size st e (sub (fits S c.args.receiver.now) l (fst _ _ (snd _ _ l.fits)))).0 i p q,
  λ start k a.
      let w = c.walk_here-came in
      let text = text_of S c.args.name in
      let step = ReceiverOf text (map erase c.args.args.now) None c.args.at in
      let come = (w.ensures.came S names size st e (sub (fits S c.args.receiver.now) l (fst _ _ (snd _ _ l.fits)))).1 start (Then step ∷ k) a in
      let g1 = given w.result w.new.self.value w.new.self.leave (sym c.is_left.ensures ∙ c.if-is_left.false) come in
      let to = me_of (Some c.in-Some-collection_now.thing) in
      let g2 = on _ (gives to c.in-Some-collection_now.ensures.value g1) refl in
      let sc = scope_of (me_of c.args.self.now.context.me) names w.new.room in
      let g3 = same g2 (ap (λ args. On (Passing (OnReceiver to text None) [] (map erase args) c.args.at) k sc c.args.depth w.new.self.left) (is_nothing c.args.args.now c.if-is_empty.ensures)) in
      let none = (rw w.ensures.stays.1 at c.in-Some-collection_now.ensures.alone) c.args.name S st in
      let o = c.asked_alone.ensures in
      let f1 = rw w.ensures.stays.1 at o.came in
      calls_builtin S _ start _ _ _ _ _ _ _ _ _ _ c.args.self.now.context.program.now c.args.method to text [] c.args.at none (same_is _ _ (fst _ _ l.fits)) e f1 (on _ g3 refl),
)

pub send-returns-in-Some-clause-came : goal.send-returns-in-Some-clause-came
send-returns-in-Some-clause-came g m c = λ S names size st e l.
    let w = c.walk_here-came in
    let under = moved _ _ w.ensures.stays.0 w.ensures.stays.3 (sub (every (map (fits S) c.args.args.now)) l (snd _ _ (snd _ _ l.fits))) in
    let f = rw (c.entered_reader.ensures.none c.in_default-entered_reader.is, w.ensures.stays.1) at c.send_target.ensures.came in (
      λ i p q.
          let first = (w.ensures.came S names size st e (sub (fits S c.args.receiver.now) l (fst _ _ (snd _ _ l.fits)))).0 i p q in
          (f S names size st e under).0 i p (omega (arith, q, w.ensures.stays.0)) ∙ first,
      λ start k a.
          let step = ReceiverOf (text_of S c.args.name) (map erase c.args.args.now) None c.args.at in
          let come = (w.ensures.came S names size st e (sub (fits S c.args.receiver.now) l (fst _ _ (snd _ _ l.fits)))).1 start (Then step ∷ k) a in
          let g1 = given w.result w.new.self.value w.new.self.leave (sym c.is_left.ensures ∙ c.if-is_left.false) come in
          let g2 = gives (me_of (Some c.in-Some.target.object)) c.in-Some.ensures.value g1 in
          (f S names size st e under).1 start k (on _ g2 refl),
    )

pub store_by-returns-in-Some-clause-came : goal.store_by-returns-in-Some-clause-came
store_by-returns-in-Some-clause-came g m c = λ S names size st e l.
    let w = c.walk-came in
    let args = single _ _ _ refl c.in-len1.len_at_least c.in-len1.len_below c.only-item.is in
    let all : every (map (fits S) c.args.args.now) names size ≡ true = snd _ _ (snd _ _ l.fits) in
    let fit : fits S c.only-item.result names size ≡ true = fst _ _ (rw args at all) in
    let under = moved _ _ w.ensures.stays.0 w.ensures.stays.3 (sub (fits S c.only-item.result) l fit) in
    let f = rw w.ensures.stays.1 at c.store_target.ensures.came in (
      λ i p q.
          let first = (w.ensures.came S names size st e (sub (fits S c.args.receiver.now) l (fst _ _ (snd _ _ l.fits)))).0 i p q in
          (f S names size st e under).0 i p (omega (arith, q, w.ensures.stays.0)) ∙ first,
      λ start k a.
          let text = text_of S c.args.name in
          let step = ReceiverToStore text (map erase c.args.args.now) c.args.at in
          let come = (w.ensures.came S names size st e (sub (fits S c.args.receiver.now) l (fst _ _ (snd _ _ l.fits)))).1 start (Then step ∷ k) a in
          let g1 = given w.result w.new.self.value w.new.self.leave (sym c.is_left.ensures ∙ c.if-is_left.false) come in
          let to = me_of (Some c.in-Some.target.object) in
          let g2 = gives to c.in-Some.ensures.value g1 in
          let sc = scope_of (me_of c.args.self.now.context.me) names w.new.room in
          let g3 = same g2 (ap (λ args. On (Give to) (Then (ReceiverToStore text (map erase args) c.args.at) ∷ k) sc c.args.depth w.new.self.left) args) in
          (f S names size st e under).1 start k (on _ (on _ g3 refl) refl),
    )

pub store_by-returns-in-Some-collection_now-clause-came : goal.store_by-returns-in-Some-collection_now-clause-came
store_by-returns-in-Some-collection_now-clause-came g m c = λ S names size st e l.
    let w = c.walk-came in
    let all : every (map (fits S) c.args.args.now) names size ≡ true = snd _ _ (snd _ _ l.fits) in
    let f = rw w.ensures.stays.1 at c.store_element.ensures.came in (
      λ i p q.
          let first = (w.ensures.came S names size st e (sub (fits S c.args.receiver.now) l (fst _ _ (snd _ _ l.fits)))).0 i p q in
          let args = two_items _ _ c.index-item.result c.value-item.result refl c.in-len2.len_at_least c.in-len2.len_below c.index-item.is c.value-item.is in
          let right = two _ _ (fst _ _ l.fits) (args_fit S c.index-item.result c.value-item.result names size (rw args at all)) in
          let under = moved _ _ w.ensures.stays.0 w.ensures.stays.3 (sub _ l right) in
          (f S names size st e under).0 i p (omega (arith, q, w.ensures.stays.0)) ∙ first,
      λ start k a.
          let text = text_of S c.args.name in
          let step = ReceiverToStore text (map erase c.args.args.now) c.args.at in
          let come = (w.ensures.came S names size st e (sub (fits S c.args.receiver.now) l (fst _ _ (snd _ _ l.fits)))).1 start (Then step ∷ k) a in
          let g1 = given w.result w.new.self.value w.new.self.leave (sym c.is_left.ensures ∙ c.if-is_left.false) come in
          let to = me_of (Some c.in-Some-collection_now.thing) in
          let g2 = gives to c.in-Some-collection_now.ensures.value g1 in
          let first = c.index-item.result in
          let second = c.value-item.result in
          let args = two_items _ _ first second refl c.in-len2.len_at_least c.in-len2.len_below c.index-item.is c.value-item.is in
          let right = two _ _ (fst _ _ l.fits) (args_fit S first second names size (rw args at all)) in
          let sc = scope_of (me_of c.args.self.now.context.me) names w.new.room in
          let g3 = same g2 (ap (λ args. On (Give to) (Then (ReceiverToStore text (map erase args) c.args.at) ∷ k) sc c.args.depth w.new.self.left) args) in
          let under = moved _ _ w.ensures.stays.0 w.ensures.stays.3 (sub _ l right) in
          (f S names size st e under).1 start k (on _ (on _ g3 refl) refl),
    )
