use Rattle.std.proofs.Common.{◌∙◌, ◌+◌, ◌≤◌, ap, sym, refl, List, ◌++◌, map, length, Option, arith}
use Rattle.std.specs.Option.{option_map}
use Rattle.std.proofs.lemmas.List.{take_all}
use Rattle.std.proofs.lemmas.Result.{IfOk-weaker}
use Rattle.rb_tree.specs.declared.node.Node.{Node}
use Rattle.rb_tree.specs.declared.node.Node.TheVariants as tree
use Rattle.rb_tree.specs.declared.node.Target.{Target}
use Rattle.rb_tree.specs.declared.node.Target.TheVariants as target
use Rattle.rb_tree.specs.declared.node.Block.{Block}
use Rattle.rb_code.specs.declared.code.CodeBlock.{CodeBlock}
use Rattle.rb_code.specs.Erase.{erase, erase_piece, erase_block, paired}
use Rattle.rb_code.specs.Resolved.{every, if_some, fits, piece_fits, block_fits, is_even}
use Rattle.rb_code.proofs.Fitting.{fits-nil, fits-false, fits-true, fits-self_ref, fits-field, fits-set_field, fits-update_field, fits-global, fits-set_global, fits-update_global, fits-int, fits-sym, fits-break, fits-next, piece_fits-text, piece_fits-code}
use Rattle.rb_resolver.proofs.Fitted.{at_names, str_fits, array_fits, hash_fits, local_fits, set_local_fits, update_local_fits, update_element_fits, and_fits, or_fits, not_fits, if_fits, while_fits, return_fits, block_of, names_left, block_is_right, map_pushed, every_pushed, even_more, pushed_twice, paired_pushed}
use Rattle.rb_resolver.proofs.Built.{handed, every_at, at_scope, same_call, str_built, array_built, hash_built, local_built, set_local_built, set_field_built, set_global_built, store_built, update_built, update_local_built, update_element_built, update_attribute_built, call_built, new_built, thread_built, and_built, or_built, not_built, if_built, while_built, return_built, code_built, block_body_built}
use Rattle.rb_machine.specs.Scopes.{name_text}
use Rattle.rb_code.proofs.Dispatched.{conjunction, conjunction_rest}
use Rattle.rb_accepted.specs.Coded.{begins_word, are_seen}
use Rattle.rb_accepted.specs.Coded as coded
use Rattle.rb_resolver.specs.Built.{node_built, piece_built, block_built, body_built, pair_built, pairs_built, text_built}
use Rattle.rb_resolver.proofs.nodes.+resolving.Goals as goal

pub node-returns-in_ok-pieces-in-Str-clause-fits : goal.node-returns-in_ok-pieces-in-Str-clause-fits
node-returns-in_ok-pieces-in-Str-clause-fits t c = λ S k size h. str_fits S _ size _ _ (c.in_ok-pieces-in-Str.ensures.fits S k size h)

pub node-returns-in_ok-items-in-Array-clause-fits : goal.node-returns-in_ok-items-in-Array-clause-fits
node-returns-in_ok-items-in-Array-clause-fits t c = λ S k size h. array_fits S _ size _ _ (c.in_ok-items-in-Array.ensures.fits S k size h)

pub node-returns-in_ok-items-in-Hash-clause-fits : goal.node-returns-in_ok-items-in-Hash-clause-fits
node-returns-in_ok-items-in-Hash-clause-fits t c = λ S k size h. hash_fits S _ size _ _ c.in_ok-items-in-Hash.ensures.even (c.in_ok-items-in-Hash.ensures.fits S k size h)

pub node-returns-in_ok-slot-in-Local-clause-fits : goal.node-returns-in_ok-slot-in-Local-clause-fits
node-returns-in_ok-slot-in-Local-clause-fits t c = λ S k size h. local_fits S _ size _ _ _ c.in_ok-slot-in-Local.ensures.has

pub node-returns-in_ok-value-in-SetLocal-clause-fits : goal.node-returns-in_ok-value-in-SetLocal-clause-fits
node-returns-in_ok-value-in-SetLocal-clause-fits t c = λ S k size h. set_local_fits S _ size _ _ _ _ c.in_ok-slot-in-SetLocal.ensures.has (c.in_ok-value-in-SetLocal.ensures.fits S k size h)

pub node-returns-in_ok-args-in-Store-clause-fits : goal.node-returns-in_ok-args-in-Store-clause-fits
node-returns-in_ok-args-in-Store-clause-fits t c = λ S k size h. c.stored.ensures.fits S _ size k.texts (c.in_ok-receiver-in-Store.ensures.fits S k size (omega (arith, h, c.in_ok-args-in-Store.ensures.rises))) (at_names (λ ns z. every (map (fits S) c.in_ok-args-in-Store.args) ns z) _ _ size (c.in_ok-receiver-in-Store.ensures.names) (c.in_ok-args-in-Store.ensures.fits S k size h))

pub node-returns-in_ok-args-in-Store-clause-erases : goal.node-returns-in_ok-args-in-Store-clause-erases
node-returns-in_ok-args-in-Store-clause-erases t c =
    c.stored.ensures.erases
    ∙ ap (λ (r : Node). tree.Store r c.in-Store.name (map erase c.in_ok-args-in-Store.args) c.in-Store.at) (c.in_ok-receiver-in-Store.ensures.erases ∙ c.get-in-Store.ensures)
    ∙ ap (λ (ns : List Node). tree.Store c.in-Store.receiver c.in-Store.name ns c.in-Store.at) (c.in_ok-args-in-Store.ensures.erases ∙ c.as_slice-in-Store.ensures)
    ∙ sym c.in-Store.is

pub node-returns-in_ok-value-in-Local-target-clause-fits : goal.node-returns-in_ok-value-in-Local-target-clause-fits
node-returns-in_ok-value-in-Local-target-clause-fits t c = λ S k size h. update_local_fits S _ size _ _ _ _ _ c.in_ok-slot-in-Local-target.ensures.has (c.in_ok-value-in-Local-target.ensures.fits S k size h)

pub node-returns-in_ok-value-in-Index-clause-fits : goal.node-returns-in_ok-value-in-Index-clause-fits
node-returns-in_ok-value-in-Index-clause-fits t c = λ S k size h. update_element_fits S _ size _ _ _ _ _ (c.in_ok-receiver-in-Index.ensures.fits S k size (omega (arith, h, c.in_ok-index-in-Index.ensures.rises, c.in_ok-value-in-Index.ensures.rises))) (at_names (fits S c.in_ok-index-in-Index.index) _ _ size (c.in_ok-receiver-in-Index.ensures.names) (c.in_ok-index-in-Index.ensures.fits S k size (omega (arith, h, c.in_ok-value-in-Index.ensures.rises)))) (at_names (fits S c.in_ok-value-in-Index.value) _ _ size (c.in_ok-index-in-Index.ensures.names ∙ c.in_ok-receiver-in-Index.ensures.names) (c.in_ok-value-in-Index.ensures.fits S k size h))

pub node-returns-in_ok-value-in-Attribute-clause-fits : goal.node-returns-in_ok-value-in-Attribute-clause-fits
node-returns-in_ok-value-in-Attribute-clause-fits t c = IfOk-weaker c.attribute_updated.result _ _ (λ code is S k size h. is S _ size k (c.in_ok-receiver-in-Attribute.ensures.fits S k size (omega (arith, h, c.in_ok-value-in-Attribute.ensures.rises))) (at_names (fits S c.in_ok-value-in-Attribute.value) _ _ size (c.in_ok-receiver-in-Attribute.ensures.names) (c.in_ok-value-in-Attribute.ensures.fits S k size h))) c.attribute_updated.ensures.fits

pub node-returns-in_ok-value-in-Attribute-clause-erases : goal.node-returns-in_ok-value-in-Attribute-clause-erases
node-returns-in_ok-value-in-Attribute-clause-erases t c =
    IfOk-weaker c.attribute_updated.result _ _ (λ code is. is
    ∙ ap (λ (r : Node). tree.OpAssign (target.Attribute r c.in-Attribute.name) c.in-OpAssign.op (erase c.in_ok-value-in-Attribute.value) c.in-OpAssign.at) (c.in_ok-receiver-in-Attribute.ensures.erases ∙ c.get-in-Attribute.ensures)
    ∙ ap (λ (v : Node). tree.OpAssign (target.Attribute c.in-Attribute.receiver c.in-Attribute.name) c.in-OpAssign.op v c.in-OpAssign.at) (c.in_ok-value-in-Attribute.ensures.erases ∙ c.get-in-Attribute-2.ensures)
    ∙ ap (λ (o : Target). tree.OpAssign o c.in-OpAssign.op c.in-OpAssign.value c.in-OpAssign.at) (sym c.in-Attribute.is)
    ∙ sym c.in-OpAssign.is) c.attribute_updated.ensures.erases

pub node-returns-in_ok-right-in-And-clause-fits : goal.node-returns-in_ok-right-in-And-clause-fits
node-returns-in_ok-right-in-And-clause-fits t c = λ S k size h. and_fits S _ size _ _ _ (c.in_ok-left-in-And.ensures.fits S k size (omega (arith, h, c.in_ok-right-in-And.ensures.rises))) (at_names (fits S c.in_ok-right-in-And.right) _ _ size (c.in_ok-left-in-And.ensures.names) (c.in_ok-right-in-And.ensures.fits S k size h))

pub node-returns-in_ok-right-in-Or-clause-fits : goal.node-returns-in_ok-right-in-Or-clause-fits
node-returns-in_ok-right-in-Or-clause-fits t c = λ S k size h. or_fits S _ size _ _ _ (c.in_ok-left-in-Or.ensures.fits S k size (omega (arith, h, c.in_ok-right-in-Or.ensures.rises))) (at_names (fits S c.in_ok-right-in-Or.right) _ _ size (c.in_ok-left-in-Or.ensures.names) (c.in_ok-right-in-Or.ensures.fits S k size h))

pub node-returns-in_ok-value-in-Not-clause-fits : goal.node-returns-in_ok-value-in-Not-clause-fits
node-returns-in_ok-value-in-Not-clause-fits t c = λ S k size h. not_fits S _ size _ _ (c.in_ok-value-in-Not.ensures.fits S k size h)

pub node-returns-in_ok-second-in-If-clause-fits : goal.node-returns-in_ok-second-in-If-clause-fits
node-returns-in_ok-second-in-If-clause-fits t c = λ S k size h. if_fits S _ size _ _ _ _ (c.in_ok-condition-in-If.ensures.fits S k size (omega (arith, h, c.in_ok-first-in-If.ensures.rises, c.in_ok-second-in-If.ensures.rises))) (at_names (λ ns z. every (map (fits S) c.in_ok-first-in-If.first) ns z) _ _ size (c.in_ok-condition-in-If.ensures.names) (c.in_ok-first-in-If.ensures.fits S k size (omega (arith, h, c.in_ok-second-in-If.ensures.rises)))) (at_names (λ ns z. every (map (fits S) c.in_ok-second-in-If.second) ns z) _ _ size (c.in_ok-first-in-If.ensures.names ∙ c.in_ok-condition-in-If.ensures.names) (c.in_ok-second-in-If.ensures.fits S k size h))

pub node-returns-in_ok-nodes-in-While-clause-fits : goal.node-returns-in_ok-nodes-in-While-clause-fits
node-returns-in_ok-nodes-in-While-clause-fits t c = λ S k size h. while_fits S _ size _ _ _ (c.in_ok-condition-in-While.ensures.fits S k size (omega (arith, h, c.in_ok-nodes-in-While.ensures.rises))) (at_names (λ ns z. every (map (fits S) c.in_ok-nodes-in-While.nodes) ns z) _ _ size (c.in_ok-condition-in-While.ensures.names) (c.in_ok-nodes-in-While.ensures.fits S k size h))

pub node-returns-in_ok-value-in-Return-clause-fits : goal.node-returns-in_ok-value-in-Return-clause-fits
node-returns-in_ok-value-in-Return-clause-fits t c = λ S k size h. return_fits S _ size _ _ (c.in_ok-value-in-Return.ensures.fits S k size h)

pub node-returns-in-Nil-clause-fits : goal.node-returns-in-Nil-clause-fits
node-returns-in-Nil-clause-fits t c = λ S k size h. fits-nil S _ size _

pub node-returns-in-False-clause-fits : goal.node-returns-in-False-clause-fits
node-returns-in-False-clause-fits t c = λ S k size h. fits-false S _ size _

pub node-returns-in-True-clause-fits : goal.node-returns-in-True-clause-fits
node-returns-in-True-clause-fits t c = λ S k size h. fits-true S _ size _

pub node-returns-in-Int-clause-fits : goal.node-returns-in-Int-clause-fits
node-returns-in-Int-clause-fits t c = λ S k size h. fits-int S _ size _ _

pub node-returns-in-Sym-clause-fits : goal.node-returns-in-Sym-clause-fits
node-returns-in-Sym-clause-fits t c = λ S k size h. fits-sym S _ size _ _

pub node-returns-in-Break-clause-fits : goal.node-returns-in-Break-clause-fits
node-returns-in-Break-clause-fits t c = λ S k size h. fits-break S _ size _

pub node-returns-in-Next-clause-fits : goal.node-returns-in-Next-clause-fits
node-returns-in-Next-clause-fits t c = λ S k size h. fits-next S _ size _

pub node-returns-in_ok-block-in-Call-clause-fits : goal.node-returns-in_ok-block-in-Call-clause-fits
node-returns-in_ok-block-in-Call-clause-fits t c = IfOk-weaker c.called.result _ _ (λ code is S k size h. is S _ size k (c.in_ok-receiver-in-Call.ensures.fits S k size (omega (arith, h, c.in_ok-args-in-Call.ensures.rises, c.in_ok-block-in-Call.ensures.rises))) (at_names (λ ns z. every (map (fits S) c.in_ok-args-in-Call.args) ns z) _ _ size (c.in_ok-receiver-in-Call.ensures.names) (c.in_ok-args-in-Call.ensures.fits S k size (omega (arith, h, c.in_ok-block-in-Call.ensures.rises)))) (at_names (λ ns z. if_some (option_map (block_fits S) c.in_ok-block-in-Call.block) ns z) _ _ size (c.in_ok-args-in-Call.ensures.names ∙ c.in_ok-receiver-in-Call.ensures.names) (c.in_ok-block-in-Call.ensures.fits S k size h))) c.called.ensures.fits

pub node-returns-in_ok-block-in-Call-clause-erases : goal.node-returns-in_ok-block-in-Call-clause-erases
node-returns-in_ok-block-in-Call-clause-erases t c =
    IfOk-weaker c.called.result _ _ (λ code is. is
    ∙ ap (λ (r : Option Node). tree.Call r c.in-Call.name (map erase c.in_ok-args-in-Call.args) (option_map erase_block c.in_ok-block-in-Call.block) c.in-Call.at) c.in_ok-receiver-in-Call.ensures.erases
    ∙ ap (λ (ns : List Node). tree.Call c.in-Call.receiver c.in-Call.name ns (option_map erase_block c.in_ok-block-in-Call.block) c.in-Call.at) (c.in_ok-args-in-Call.ensures.erases ∙ c.as_slice-in-Call.ensures)
    ∙ ap (λ (b : Option Block). tree.Call c.in-Call.receiver c.in-Call.name c.in-Call.args b c.in-Call.at) c.in_ok-block-in-Call.ensures.erases
    ∙ sym c.in-Call.is) c.called.ensures.erases

pub body-nodes-preserved : goal.body-nodes-preserved
body-nodes-preserved t c =
    let inv = c.nodes.invariant in
    let one = c.in_ok-code in
    let pushed = c.in_ok-push.ensures.ok in
    record {
      erases = map_pushed erase c.nodes.codes c.push.new.self one.code c.args.nodes.now c.source-item.result c.nodes.source-index pushed inv.erases one.ensures.erases c.nodes-test.true c.source-item.is;
      fits = λ S k size h.
          every_pushed (fits S) c.nodes.codes c.push.new.self one.code c.args.frame.now.names.items size pushed (inv.fits S k size (omega (arith, h, one.ensures.rises)))
          (at_names (fits S one.code) _ _ size inv.names (one.ensures.fits S k size h));
      names = one.ensures.names ∙ inv.names;
      rises = omega (arith, one.ensures.rises, inv.rises);
    }

pub body-nodes-init : goal.body-nodes-init
body-nodes-init t c = record {
  erases = ap (map erase) c.new-codes.ensures;
  fits = λ S k size h. ap (λ xs. every (map (fits S) xs) c.args.frame.now.names.items size) c.new-codes.ensures;
  names = refl;
  rises = omega arith;
}

pub pairs-pairs-preserved : goal.pairs-pairs-preserved
pairs-pairs-preserved t c =
    let inv = c.pairs.invariant in
    let key = c.in_ok-key in
    let value = c.in_ok-value in
    let first = c.in_ok-push.ensures.ok in
    let second = c.in_ok-push-2.ensures.ok in
    let both = pushed_twice c.pairs.codes c.push.new.self c.push-in-pairs.new.self key.key value.value first second in
    record {
      erases = paired_pushed erase c.pairs.codes c.push-in-pairs.new.self key.key value.value c.args.sources.now c.pair-item.result c.pairs.pair-index both inv.even inv.erases key.ensures.erases value.ensures.erases c.pairs-test.true c.pair-item.is;
      even = ap is_even both ∙ even_more c.pairs.codes key.key value.value inv.even;
      fits = λ S k size h.
          every_pushed (fits S) c.push.new.self c.push-in-pairs.new.self value.value c.args.frame.now.names.items size second
          (every_pushed (fits S) c.pairs.codes c.push.new.self key.key c.args.frame.now.names.items size first (inv.fits S k size (omega (arith, h, key.ensures.rises, value.ensures.rises)))
          (at_names (fits S key.key) _ _ size inv.names (key.ensures.fits S k size (omega (arith, h, value.ensures.rises)))))
          (at_names (fits S value.value) _ _ size (key.ensures.names ∙ inv.names) (value.ensures.fits S k size h));
      names = value.ensures.names ∙ key.ensures.names ∙ inv.names;
      rises = omega (arith, key.ensures.rises, value.ensures.rises, inv.rises);
    }

pub pairs-pairs-init : goal.pairs-pairs-init
pairs-pairs-init t c = record {
  erases = ap (λ xs. paired (map erase xs)) c.new-codes.ensures;
  even = ap is_even c.new-codes.ensures;
  fits = λ S k size h. ap (λ xs. every (map (fits S) xs) c.args.frame.now.names.items size) c.new-codes.ensures;
  names = ap (λ v. v.items) c.wait.ensures.names;
  rises = omega (arith, c.wait.ensures.size);
}

pub pairs-returns-clause-erases : goal.pairs-returns-clause-erases
pairs-returns-clause-erases t c = c.pairs.invariant.erases ∙ take_all c.pairs.pair-index c.args.sources.now c.pairs-test.false

pub body-returns-clause-erases : goal.body-returns-clause-erases
body-returns-clause-erases t c = c.nodes.invariant.erases ∙ take_all c.nodes.source-index c.args.nodes.now c.nodes-test.false

pub text-pieces-preserved : goal.text-pieces-preserved
text-pieces-preserved t c =
    let inv = c.pieces.invariant in
    let one = c.in_ok-part in
    let pushed = c.in_ok-push.ensures.ok in
    record {
      erases = map_pushed erase_piece c.pieces.parts c.push.new.self one.part c.args.pieces.now c.source-item.result c.pieces.source-index pushed inv.erases one.ensures.erases c.pieces-test.true c.source-item.is;
      fits = λ S k size h.
          every_pushed (piece_fits S) c.pieces.parts c.push.new.self one.part c.args.frame.now.names.items size pushed (inv.fits S k size (omega (arith, h, one.ensures.rises)))
          (at_names (piece_fits S one.part) _ _ size inv.names (one.ensures.fits S k size h));
      names = one.ensures.names ∙ inv.names;
      rises = omega (arith, one.ensures.rises, inv.rises);
    }

pub text-pieces-init : goal.text-pieces-init
text-pieces-init t c = record {
  erases = ap (map erase_piece) c.new-parts.ensures;
  fits = λ S k size h. ap (λ xs. every (map (piece_fits S) xs) c.args.frame.now.names.items size) c.new-parts.ensures;
  names = refl;
  rises = omega arith;
}

pub text-returns-clause-erases : goal.text-returns-clause-erases
text-returns-clause-erases t c = c.pieces.invariant.erases ∙ take_all c.pieces.source-index c.args.pieces.now c.pieces-test.false

pub boxed-returns-clause-fits : goal.boxed-returns-clause-fits
boxed-returns-clause-fits t c = λ S k size h. ap (λ x. fits S x c.args.frame.now.names.items size) c.in_ok-new.ensures ∙ c.in_ok-code.ensures.fits S k size h

pub boxed-returns-clause-erases : goal.boxed-returns-clause-erases
boxed-returns-clause-erases t c = ap erase c.in_ok-new.ensures ∙ c.in_ok-code.ensures.erases

pub piece-returns-in_ok-code-in-Code-clause-fits : goal.piece-returns-in_ok-code-in-Code-clause-fits
piece-returns-in_ok-code-in-Code-clause-fits t c = λ S k size h. piece_fits-code S c.args.frame.now.names.items size c.in_ok-code-in-Code.code ∙ c.in_ok-code-in-Code.ensures.fits S k size h

pub piece-returns-in_ok-bytes-in-Text-clause-fits : goal.piece-returns-in_ok-bytes-in-Text-clause-fits
piece-returns-in_ok-bytes-in-Text-clause-fits t c = λ S k size h. piece_fits-text S c.args.frame.now.names.items size c.in_ok-bytes-in-Text.bytes

pub optional-returns-in_ok-code-in-Some-clause-fits : goal.optional-returns-in_ok-code-in-Some-clause-fits
optional-returns-in_ok-code-in-Some-clause-fits t c = λ S k size h. c.in_ok-code-in-Some.ensures.fits S k size h

pub optional_block-returns-in_ok-code-in-Some-clause-fits : goal.optional_block-returns-in_ok-code-in-Some-clause-fits
optional_block-returns-in_ok-code-in-Some-clause-fits t c = λ S k size h. c.in_ok-code-in-Some.ensures.fits S k size h

pub block-returns-clause-erases : goal.block-returns-clause-erases
block-returns-clause-erases t c =
    let made = c.in_ok-new.ensures in
    block_of c.in_ok-new.field-0 c.args.source.now (ap (λ (b : CodeBlock). b.params) made ∙ c.in_ok-params.ensures ∙ c.as_slice-2.ensures)
    (ap (λ (b : CodeBlock). map erase b.body) made ∙ c.in_ok-nodes.ensures.erases ∙ c.as_slice.ensures) (ap (λ (b : CodeBlock). b.at) made)

pub block-returns-clause-fits : goal.block-returns-clause-fits
block-returns-clause-fits t c = λ S k size h.
    let made = c.in_ok-new.ensures in
    let names = c.args.frame.now.names.items in
    let block = c.in_ok-new.field-0 in
    let own = c.of_block.ensures ∙ k.blocks c.args.source.now.at ∙ sym (ap (λ (b : CodeBlock). S.block_names b.at) made) in
    let room : length names + length (S.block_names block.at) ≤ size = omega (arith, ap length own, c.in_ok-from.ensures.room, c.in_ok-nodes.ensures.rises, c.leave.ensures.size, h) in
    block_is_right S names size block (ap (λ (b : CodeBlock). b.from) made ∙ c.in_ok-from.ensures.from) (ap (λ (b : CodeBlock). b.count) made ∙ c.in_ok-from.ensures.count ∙ ap length own) room
    (ap (λ (b : CodeBlock). every (map (fits S) b.body) (names ++ S.block_names block.at) size) made
    ∙ at_names (λ ns z. every (map (fits S) c.in_ok-nodes.nodes) ns z) (names ++ S.block_names block.at) _ size (c.in_ok-from.ensures.names ∙ ap (λ ns. names ++ ns) own)
    (c.in_ok-nodes.ensures.fits S k size (omega (arith, c.leave.ensures.size, h))))

pub block-returns-clause-names : goal.block-returns-clause-names
block-returns-clause-names t c =
    names_left c.args.frame.now.names.items c.of_block.result.now c.body.new.frame.names.items c.leave.new.self.names.items c.in_ok-from.from c.in_ok-from.ensures.from
    (c.in_ok-nodes.ensures.names ∙ c.in_ok-from.ensures.names) c.leave.ensures.names

pub node-returns-in-SelfRef-clause-fits : goal.node-returns-in-SelfRef-clause-fits
node-returns-in-SelfRef-clause-fits t c = λ S k size h. fits-self_ref S _ size _

pub node-returns-in-Field-clause-fits : goal.node-returns-in-Field-clause-fits
node-returns-in-Field-clause-fits t c = λ S k size h. fits-field S _ size _ _

pub node-returns-in_ok-value-in-SetField-clause-fits : goal.node-returns-in_ok-value-in-SetField-clause-fits
node-returns-in_ok-value-in-SetField-clause-fits t c = λ S k size h. fits-set_field S _ size _ _ _ ∙ c.in_ok-value-in-SetField.ensures.fits S k size h

pub node-returns-in_ok-value-in-Field-target-clause-fits : goal.node-returns-in_ok-value-in-Field-target-clause-fits
node-returns-in_ok-value-in-Field-target-clause-fits t c = λ S k size h. fits-update_field S _ size _ _ _ _ ∙ c.in_ok-value-in-Field-target.ensures.fits S k size h

pub node-returns-in-Global-clause-fits : goal.node-returns-in-Global-clause-fits
node-returns-in-Global-clause-fits t c = λ S k size h. fits-global S _ size _ _

pub node-returns-in_ok-value-in-SetGlobal-clause-fits : goal.node-returns-in_ok-value-in-SetGlobal-clause-fits
node-returns-in_ok-value-in-SetGlobal-clause-fits t c = λ S k size h. fits-set_global S _ size _ _ _ ∙ c.in_ok-value-in-SetGlobal.ensures.fits S k size h

pub node-returns-in_ok-value-in-Global-target-clause-fits : goal.node-returns-in_ok-value-in-Global-target-clause-fits
node-returns-in_ok-value-in-Global-target-clause-fits t c = λ S k size h. fits-update_global S _ size _ _ _ _ ∙ c.in_ok-value-in-Global-target.ensures.fits S k size h

pub node-returns-in_ok-args-in-New-clause-fits : goal.node-returns-in_ok-args-in-New-clause-fits
node-returns-in_ok-args-in-New-clause-fits t c = IfOk-weaker c.made.result _ _ (λ code is S k size h. is S _ size k (c.in_ok-args-in-New.ensures.fits S k size h)) c.made.ensures.fits

pub node-returns-in_ok-args-in-New-clause-erases : goal.node-returns-in_ok-args-in-New-clause-erases
node-returns-in_ok-args-in-New-clause-erases t c =
    IfOk-weaker c.made.result _ _ (λ code is. is
    ∙ ap (λ (ns : List Node). tree.New c.in-New.class ns c.in-New.at) (c.in_ok-args-in-New.ensures.erases ∙ c.as_slice-in-New.ensures)
    ∙ sym c.in-New.is) c.made.ensures.erases

pub node-returns-in_ok-args-in-ThreadNew-clause-fits : goal.node-returns-in_ok-args-in-ThreadNew-clause-fits
node-returns-in_ok-args-in-ThreadNew-clause-fits t c =
    let left = c.in_ok-args-in-ThreadNew.ensures.names in
    IfOk-weaker c.started.result _ _ (λ code is S k size h. at_names (fits S code) _ _ size left (is S _ size k (at_names (λ ns z. every (map (fits S) c.in_ok-args-in-ThreadNew.args) ns z) _ _ size (sym left) (c.in_ok-args-in-ThreadNew.ensures.fits S k size h)))) c.started.ensures.fits

pub node-returns-in_ok-args-in-ThreadNew-clause-erases : goal.node-returns-in_ok-args-in-ThreadNew-clause-erases
node-returns-in_ok-args-in-ThreadNew-clause-erases t c =
    IfOk-weaker c.started.result _ _ (λ code is. is
    ∙ ap (λ (ns : List Node). tree.ThreadNew ns c.in-ThreadNew.number c.in-ThreadNew.at) (c.in_ok-args-in-ThreadNew.ensures.erases ∙ c.as_slice-in-ThreadNew.ensures)
    ∙ sym c.in-ThreadNew.is) c.started.ensures.erases

-- ---- what has code

pub node-returns-in_err-pieces-in-Str-clause-built : goal.node-returns-in_err-pieces-in-Str-clause-built
node-returns-in_err-pieces-in-Str-clause-built t c = λ S k h. handed c.from_residual.result _ c.from_residual.ensures.1 (c.in_err-pieces-in-Str.ensures.built S k (ap (λ x. text_built S x c.args.frame.now.names.items) c.as_slice.ensures ∙ str_built S _ c.args.source.now _ _ c.in-Str.is h))

pub node-returns-in_err-items-in-Array-clause-built : goal.node-returns-in_err-items-in-Array-clause-built
node-returns-in_err-items-in-Array-clause-built t c = λ S k h. handed c.from_residual-in_err-items-in-Array.result _ c.from_residual-in_err-items-in-Array.ensures.1 (c.in_err-items-in-Array.ensures.built S k (ap (λ x. body_built S x c.args.frame.now.names.items) c.as_slice-in-Array.ensures ∙ array_built S _ c.args.source.now _ _ c.in-Array.is h))

pub node-returns-in_err-items-in-Hash-clause-built : goal.node-returns-in_err-items-in-Hash-clause-built
node-returns-in_err-items-in-Hash-clause-built t c = λ S k h. handed c.from_residual-in_err-items-in-Hash.result _ c.from_residual-in_err-items-in-Hash.ensures.1 (c.in_err-items-in-Hash.ensures.built S k (ap (λ x. pairs_built S x c.args.frame.now.names.items) c.as_slice-in-Hash.ensures ∙ hash_built S _ c.args.source.now _ _ c.in-Hash.is h))

pub node-returns-in_err-slot-in-Local-clause-built : goal.node-returns-in_err-slot-in-Local-clause-built
node-returns-in_err-slot-in-Local-clause-built t c = λ S k h. handed c.from_residual-in_err-slot-in-Local.result _ c.from_residual-in_err-slot-in-Local.ensures.1 (c.in_err-slot-in-Local.ensures.built (local_built S _ c.args.source.now _ _ c.in-Local.is h))

pub node-returns-in_err-slot-in-SetLocal-clause-built : goal.node-returns-in_err-slot-in-SetLocal-clause-built
node-returns-in_err-slot-in-SetLocal-clause-built t c = λ S k h. handed c.from_residual-in_err-slot-in-SetLocal.result _ c.from_residual-in_err-slot-in-SetLocal.ensures.1 (c.in_err-slot-in-SetLocal.ensures.built ((set_local_built S _ c.args.source.now _ _ _ c.in-SetLocal.is h).0))

pub node-returns-in_err-value-in-SetLocal-clause-built : goal.node-returns-in_err-value-in-SetLocal-clause-built
node-returns-in_err-value-in-SetLocal-clause-built t c = λ S k h. handed c.from_residual-in_err-value-in-SetLocal.result _ c.from_residual-in_err-value-in-SetLocal.ensures.1 (c.in_err-value-in-SetLocal.ensures.built S k (ap (λ x. node_built S x c.args.frame.now.names.items) c.get.ensures ∙ (set_local_built S _ c.args.source.now _ _ _ c.in-SetLocal.is h).1))

pub node-returns-in_err-value-in-SetField-clause-built : goal.node-returns-in_err-value-in-SetField-clause-built
node-returns-in_err-value-in-SetField-clause-built t c = λ S k h. handed c.from_residual-in_err-value-in-SetField.result _ c.from_residual-in_err-value-in-SetField.ensures.1 (c.in_err-value-in-SetField.ensures.built S k (ap (λ x. node_built S x c.args.frame.now.names.items) c.get-in-SetField.ensures ∙ set_field_built S _ c.args.source.now _ _ _ c.in-SetField.is h))

pub node-returns-in_err-value-in-SetGlobal-clause-built : goal.node-returns-in_err-value-in-SetGlobal-clause-built
node-returns-in_err-value-in-SetGlobal-clause-built t c = λ S k h. handed c.from_residual-in_err-value-in-SetGlobal.result _ c.from_residual-in_err-value-in-SetGlobal.ensures.1 (c.in_err-value-in-SetGlobal.ensures.built S k (ap (λ x. node_built S x c.args.frame.now.names.items) c.get-in-SetGlobal.ensures ∙ set_global_built S _ c.args.source.now _ _ _ c.in-SetGlobal.is h))

pub node-returns-in_err-receiver-in-Store-clause-built : goal.node-returns-in_err-receiver-in-Store-clause-built
node-returns-in_err-receiver-in-Store-clause-built t c = λ S k h. handed c.from_residual-in_err-receiver-in-Store.result _ c.from_residual-in_err-receiver-in-Store.ensures.1 (c.in_err-receiver-in-Store.ensures.built S k (ap (λ x. node_built S x c.args.frame.now.names.items) c.get-in-Store.ensures ∙ (store_built S _ c.args.source.now _ _ _ _ c.in-Store.is h).0))

pub node-returns-in_err-args-in-Store-clause-built : goal.node-returns-in_err-args-in-Store-clause-built
node-returns-in_err-args-in-Store-clause-built t c = λ S k h. handed c.from_residual-in_err-args-in-Store.result _ c.from_residual-in_err-args-in-Store.ensures.1 (c.in_err-args-in-Store.ensures.built S k (at_scope (λ ns. body_built S c.as_slice-in-Store.result.now ns) _ _ (c.in_ok-receiver-in-Store.ensures.names) (ap (λ x. body_built S x c.args.frame.now.names.items) c.as_slice-in-Store.ensures ∙ (store_built S _ c.args.source.now _ _ _ _ c.in-Store.is h).1)))

pub node-returns-in_err-slot-in-Local-target-clause-built : goal.node-returns-in_err-slot-in-Local-target-clause-built
node-returns-in_err-slot-in-Local-target-clause-built t c = λ S k h. handed c.from_residual-in_err-slot-in-Local-target.result _ c.from_residual-in_err-slot-in-Local-target.ensures.1 (c.in_err-slot-in-Local-target.ensures.built (update_local_built S _ c.args.source.now _ _ _ _ _ c.in-OpAssign.is c.in-Local-target.is h))

pub node-returns-in_err-value-in-Local-target-clause-built : goal.node-returns-in_err-value-in-Local-target-clause-built
node-returns-in_err-value-in-Local-target-clause-built t c = λ S k h. handed c.from_residual-in_err-value-in-Local-target.result _ c.from_residual-in_err-value-in-Local-target.ensures.1 (c.in_err-value-in-Local-target.ensures.built S k (ap (λ x. node_built S x c.args.frame.now.names.items) c.get-in-Local-target.ensures ∙ update_built S _ c.args.source.now _ _ _ _ c.in-OpAssign.is h))

pub node-returns-in_err-value-in-Field-target-clause-built : goal.node-returns-in_err-value-in-Field-target-clause-built
node-returns-in_err-value-in-Field-target-clause-built t c = λ S k h. handed c.from_residual-in_err-value-in-Field-target.result _ c.from_residual-in_err-value-in-Field-target.ensures.1 (c.in_err-value-in-Field-target.ensures.built S k (ap (λ x. node_built S x c.args.frame.now.names.items) c.get-in-Field-target.ensures ∙ update_built S _ c.args.source.now _ _ _ _ c.in-OpAssign.is h))

pub node-returns-in_err-value-in-Global-target-clause-built : goal.node-returns-in_err-value-in-Global-target-clause-built
node-returns-in_err-value-in-Global-target-clause-built t c = λ S k h. handed c.from_residual-in_err-value-in-Global-target.result _ c.from_residual-in_err-value-in-Global-target.ensures.1 (c.in_err-value-in-Global-target.ensures.built S k (ap (λ x. node_built S x c.args.frame.now.names.items) c.get-in-Global-target.ensures ∙ update_built S _ c.args.source.now _ _ _ _ c.in-OpAssign.is h))

pub node-returns-in_err-receiver-in-Index-clause-built : goal.node-returns-in_err-receiver-in-Index-clause-built
node-returns-in_err-receiver-in-Index-clause-built t c = λ S k h. handed c.from_residual-in_err-receiver-in-Index.result _ c.from_residual-in_err-receiver-in-Index.ensures.1 (c.in_err-receiver-in-Index.ensures.built S k (ap (λ x. node_built S x c.args.frame.now.names.items) c.get-in-Index.ensures ∙ (update_element_built S _ c.args.source.now _ _ _ _ _ _ c.in-OpAssign.is c.in-Index.is h).0))

pub node-returns-in_err-index-in-Index-clause-built : goal.node-returns-in_err-index-in-Index-clause-built
node-returns-in_err-index-in-Index-clause-built t c = λ S k h. handed c.from_residual-in_err-index-in-Index.result _ c.from_residual-in_err-index-in-Index.ensures.1 (c.in_err-index-in-Index.ensures.built S k (at_scope (λ ns. node_built S c.get-in-Index-2.result.now ns) _ _ (c.in_ok-receiver-in-Index.ensures.names) (ap (λ x. node_built S x c.args.frame.now.names.items) c.get-in-Index-2.ensures ∙ (update_element_built S _ c.args.source.now _ _ _ _ _ _ c.in-OpAssign.is c.in-Index.is h).1)))

pub node-returns-in_err-value-in-Index-clause-built : goal.node-returns-in_err-value-in-Index-clause-built
node-returns-in_err-value-in-Index-clause-built t c = λ S k h. handed c.from_residual-in_err-value-in-Index.result _ c.from_residual-in_err-value-in-Index.ensures.1 (c.in_err-value-in-Index.ensures.built S k (at_scope (λ ns. node_built S c.get-in-Index-3.result.now ns) _ _ (c.in_ok-index-in-Index.ensures.names ∙ c.in_ok-receiver-in-Index.ensures.names) (ap (λ x. node_built S x c.args.frame.now.names.items) c.get-in-Index-3.ensures ∙ update_built S _ c.args.source.now _ _ _ _ c.in-OpAssign.is h)))

pub node-returns-in_err-receiver-in-Attribute-clause-built : goal.node-returns-in_err-receiver-in-Attribute-clause-built
node-returns-in_err-receiver-in-Attribute-clause-built t c = λ S k h. handed c.from_residual-in_err-receiver-in-Attribute.result _ c.from_residual-in_err-receiver-in-Attribute.ensures.1 (c.in_err-receiver-in-Attribute.ensures.built S k (ap (λ x. node_built S x c.args.frame.now.names.items) c.get-in-Attribute.ensures ∙ (update_attribute_built S _ c.args.source.now _ _ _ _ _ _ c.in-OpAssign.is c.in-Attribute.is h).1))

pub node-returns-in_err-value-in-Attribute-clause-built : goal.node-returns-in_err-value-in-Attribute-clause-built
node-returns-in_err-value-in-Attribute-clause-built t c = λ S k h. handed c.from_residual-in_err-value-in-Attribute.result _ c.from_residual-in_err-value-in-Attribute.ensures.1 (c.in_err-value-in-Attribute.ensures.built S k (at_scope (λ ns. node_built S c.get-in-Attribute-2.result.now ns) _ _ (c.in_ok-receiver-in-Attribute.ensures.names) (ap (λ x. node_built S x c.args.frame.now.names.items) c.get-in-Attribute-2.ensures ∙ update_built S _ c.args.source.now _ _ _ _ c.in-OpAssign.is h)))

pub node-returns-in_ok-value-in-Attribute-clause-built : goal.node-returns-in_ok-value-in-Attribute-clause-built
node-returns-in_ok-value-in-Attribute-clause-built t c = λ S k h. c.attribute_updated.ensures.built (ap (λ ts. begins_word (name_text ts c.in-Attribute.name)) (sym k.texts) ∙ (update_attribute_built S _ c.args.source.now _ _ _ _ _ _ c.in-OpAssign.is c.in-Attribute.is h).0)

pub node-returns-in_err-receiver-in-Call-clause-built : goal.node-returns-in_err-receiver-in-Call-clause-built
node-returns-in_err-receiver-in-Call-clause-built t c = λ S k h. handed c.from_residual-in_err-receiver-in-Call.result _ c.from_residual-in_err-receiver-in-Call.ensures.1 (c.in_err-receiver-in-Call.ensures.built S k ((call_built S _ c.args.source.now _ _ _ _ _ c.in-Call.is h).of_receiver))

pub node-returns-in_err-args-in-Call-clause-built : goal.node-returns-in_err-args-in-Call-clause-built
node-returns-in_err-args-in-Call-clause-built t c = λ S k h. handed c.from_residual-in_err-args-in-Call.result _ c.from_residual-in_err-args-in-Call.ensures.1 (c.in_err-args-in-Call.ensures.built S k (at_scope (λ ns. body_built S c.as_slice-in-Call.result.now ns) _ _ (c.in_ok-receiver-in-Call.ensures.names) (ap (λ x. body_built S x c.args.frame.now.names.items) c.as_slice-in-Call.ensures ∙ (call_built S _ c.args.source.now _ _ _ _ _ c.in-Call.is h).of_args)))

pub node-returns-in_err-block-in-Call-clause-built : goal.node-returns-in_err-block-in-Call-clause-built
node-returns-in_err-block-in-Call-clause-built t c = λ S k h. handed c.from_residual-in_err-block-in-Call.result _ c.from_residual-in_err-block-in-Call.ensures.1 (c.in_err-block-in-Call.ensures.built S k (at_scope (λ ns. coded.if_some (option_map (block_built S) c.in-Call.block) ns) _ _ (c.in_ok-args-in-Call.ensures.names ∙ c.in_ok-receiver-in-Call.ensures.names) ((call_built S _ c.args.source.now _ _ _ _ _ c.in-Call.is h).of_block)))

pub node-returns-in_ok-block-in-Call-clause-built : goal.node-returns-in_ok-block-in-Call-clause-built
node-returns-in_ok-block-in-Call-clause-built t c = λ S k h. c.called.ensures.built (same_call _ _ _ _ _ _ c.in_ok-receiver-in-Call.ensures.erases c.in_ok-block-in-Call.ensures.erases (call_built S _ c.args.source.now _ _ _ _ _ c.in-Call.is h).spelled)

pub node-returns-in_err-args-in-New-clause-built : goal.node-returns-in_err-args-in-New-clause-built
node-returns-in_err-args-in-New-clause-built t c = λ S k h. handed c.from_residual-in_err-args-in-New.result _ c.from_residual-in_err-args-in-New.ensures.1 (c.in_err-args-in-New.ensures.built S k (ap (λ x. body_built S x c.args.frame.now.names.items) c.as_slice-in-New.ensures ∙ (new_built S _ c.args.source.now _ _ _ c.in-New.is h).1))

pub node-returns-in_ok-args-in-New-clause-built : goal.node-returns-in_ok-args-in-New-clause-built
node-returns-in_ok-args-in-New-clause-built t c = λ S k h. c.made.ensures.built S k (new_built S _ c.args.source.now _ _ _ c.in-New.is h).0

pub node-returns-in_err-args-in-ThreadNew-clause-built : goal.node-returns-in_err-args-in-ThreadNew-clause-built
node-returns-in_err-args-in-ThreadNew-clause-built t c = λ S k h. handed c.from_residual-in_err-args-in-ThreadNew.result _ c.from_residual-in_err-args-in-ThreadNew.ensures.1 (c.in_err-args-in-ThreadNew.ensures.built S k (ap (λ x. body_built S x c.args.frame.now.names.items) c.as_slice-in-ThreadNew.ensures ∙ (thread_built S _ c.args.source.now _ _ _ c.in-ThreadNew.is h).1))

pub node-returns-in_ok-args-in-ThreadNew-clause-built : goal.node-returns-in_ok-args-in-ThreadNew-clause-built
node-returns-in_ok-args-in-ThreadNew-clause-built t c = λ S k h. c.started.ensures.built S _ k (at_scope (λ ns. are_seen (S.captured_names c.in-ThreadNew.number) ns) _ _ c.in_ok-args-in-ThreadNew.ensures.names (thread_built S _ c.args.source.now _ _ _ c.in-ThreadNew.is h).0)

pub node-returns-in_err-left-in-And-clause-built : goal.node-returns-in_err-left-in-And-clause-built
node-returns-in_err-left-in-And-clause-built t c = λ S k h. handed c.from_residual-in_err-left-in-And.result _ c.from_residual-in_err-left-in-And.ensures.1 (c.in_err-left-in-And.ensures.built S k (ap (λ x. node_built S x c.args.frame.now.names.items) c.get-in-And.ensures ∙ (and_built S _ c.args.source.now _ _ _ c.in-And.is h).0))

pub node-returns-in_err-right-in-And-clause-built : goal.node-returns-in_err-right-in-And-clause-built
node-returns-in_err-right-in-And-clause-built t c = λ S k h. handed c.from_residual-in_err-right-in-And.result _ c.from_residual-in_err-right-in-And.ensures.1 (c.in_err-right-in-And.ensures.built S k (at_scope (λ ns. node_built S c.get-in-And-2.result.now ns) _ _ (c.in_ok-left-in-And.ensures.names) (ap (λ x. node_built S x c.args.frame.now.names.items) c.get-in-And-2.ensures ∙ (and_built S _ c.args.source.now _ _ _ c.in-And.is h).1)))

pub node-returns-in_err-left-in-Or-clause-built : goal.node-returns-in_err-left-in-Or-clause-built
node-returns-in_err-left-in-Or-clause-built t c = λ S k h. handed c.from_residual-in_err-left-in-Or.result _ c.from_residual-in_err-left-in-Or.ensures.1 (c.in_err-left-in-Or.ensures.built S k (ap (λ x. node_built S x c.args.frame.now.names.items) c.get-in-Or.ensures ∙ (or_built S _ c.args.source.now _ _ _ c.in-Or.is h).0))

pub node-returns-in_err-right-in-Or-clause-built : goal.node-returns-in_err-right-in-Or-clause-built
node-returns-in_err-right-in-Or-clause-built t c = λ S k h. handed c.from_residual-in_err-right-in-Or.result _ c.from_residual-in_err-right-in-Or.ensures.1 (c.in_err-right-in-Or.ensures.built S k (at_scope (λ ns. node_built S c.get-in-Or-2.result.now ns) _ _ (c.in_ok-left-in-Or.ensures.names) (ap (λ x. node_built S x c.args.frame.now.names.items) c.get-in-Or-2.ensures ∙ (or_built S _ c.args.source.now _ _ _ c.in-Or.is h).1)))

pub node-returns-in_err-value-in-Not-clause-built : goal.node-returns-in_err-value-in-Not-clause-built
node-returns-in_err-value-in-Not-clause-built t c = λ S k h. handed c.from_residual-in_err-value-in-Not.result _ c.from_residual-in_err-value-in-Not.ensures.1 (c.in_err-value-in-Not.ensures.built S k (ap (λ x. node_built S x c.args.frame.now.names.items) c.get-in-Not.ensures ∙ not_built S _ c.args.source.now _ _ c.in-Not.is h))

pub node-returns-in_err-condition-in-If-clause-built : goal.node-returns-in_err-condition-in-If-clause-built
node-returns-in_err-condition-in-If-clause-built t c = λ S k h. handed c.from_residual-in_err-condition-in-If.result _ c.from_residual-in_err-condition-in-If.ensures.1 (c.in_err-condition-in-If.ensures.built S k (ap (λ x. node_built S x c.args.frame.now.names.items) c.get-in-If.ensures ∙ (if_built S _ c.args.source.now _ _ _ _ c.in-If.is h).0))

pub node-returns-in_err-first-in-If-clause-built : goal.node-returns-in_err-first-in-If-clause-built
node-returns-in_err-first-in-If-clause-built t c = λ S k h. handed c.from_residual-in_err-first-in-If.result _ c.from_residual-in_err-first-in-If.ensures.1 (c.in_err-first-in-If.ensures.built S k (at_scope (λ ns. body_built S c.as_slice-in-If.result.now ns) _ _ (c.in_ok-condition-in-If.ensures.names) (ap (λ x. body_built S x c.args.frame.now.names.items) c.as_slice-in-If.ensures ∙ (if_built S _ c.args.source.now _ _ _ _ c.in-If.is h).1.0)))

pub node-returns-in_err-second-in-If-clause-built : goal.node-returns-in_err-second-in-If-clause-built
node-returns-in_err-second-in-If-clause-built t c = λ S k h. handed c.from_residual-in_err-second-in-If.result _ c.from_residual-in_err-second-in-If.ensures.1 (c.in_err-second-in-If.ensures.built S k (at_scope (λ ns. body_built S c.as_slice-in-If-2.result.now ns) _ _ (c.in_ok-first-in-If.ensures.names ∙ c.in_ok-condition-in-If.ensures.names) (ap (λ x. body_built S x c.args.frame.now.names.items) c.as_slice-in-If-2.ensures ∙ (if_built S _ c.args.source.now _ _ _ _ c.in-If.is h).1.1)))

pub node-returns-in_err-condition-in-While-clause-built : goal.node-returns-in_err-condition-in-While-clause-built
node-returns-in_err-condition-in-While-clause-built t c = λ S k h. handed c.from_residual-in_err-condition-in-While.result _ c.from_residual-in_err-condition-in-While.ensures.1 (c.in_err-condition-in-While.ensures.built S k (ap (λ x. node_built S x c.args.frame.now.names.items) c.get-in-While.ensures ∙ (while_built S _ c.args.source.now _ _ _ c.in-While.is h).0))

pub node-returns-in_err-nodes-in-While-clause-built : goal.node-returns-in_err-nodes-in-While-clause-built
node-returns-in_err-nodes-in-While-clause-built t c = λ S k h. handed c.from_residual-in_err-nodes-in-While.result _ c.from_residual-in_err-nodes-in-While.ensures.1 (c.in_err-nodes-in-While.ensures.built S k (at_scope (λ ns. body_built S c.as_slice-in-While.result.now ns) _ _ (c.in_ok-condition-in-While.ensures.names) (ap (λ x. body_built S x c.args.frame.now.names.items) c.as_slice-in-While.ensures ∙ (while_built S _ c.args.source.now _ _ _ c.in-While.is h).1)))

pub node-returns-in_err-value-in-Return-clause-built : goal.node-returns-in_err-value-in-Return-clause-built
node-returns-in_err-value-in-Return-clause-built t c = λ S k h. handed c.from_residual-in_err-value-in-Return.result _ c.from_residual-in_err-value-in-Return.ensures.1 (c.in_err-value-in-Return.ensures.built S k (return_built S _ c.args.source.now _ _ c.in-Return.is h))

pub boxed-returns-in_err-code-clause-built : goal.boxed-returns-in_err-code-clause-built
boxed-returns-in_err-code-clause-built t c = λ S k h. handed c.from_residual.result _ c.from_residual.ensures.1 (c.in_err-code.ensures.built S k h)

pub optional-returns-in_err-code-in-Some-clause-built : goal.optional-returns-in_err-code-in-Some-clause-built
optional-returns-in_err-code-in-Some-clause-built t c = λ S k h. handed c.from_residual.result _ c.from_residual.ensures.1 (c.in_err-code-in-Some.ensures.built S k (ap (λ x. node_built S x c.args.frame.now.names.items) c.get.ensures ∙ (sym (ap (λ o. coded.if_some (option_map (node_built S) o) c.args.frame.now.names.items) c.in-Some.is) ∙ h)))

pub optional_block-returns-in_err-code-in-Some-clause-built : goal.optional_block-returns-in_err-code-in-Some-clause-built
optional_block-returns-in_err-code-in-Some-clause-built t c = λ S k h. handed c.from_residual.result _ c.from_residual.ensures.1 (c.in_err-code-in-Some.ensures.built S k (ap (λ x. block_built S x c.args.frame.now.names.items) c.get.ensures ∙ (sym (ap (λ o. coded.if_some (option_map (block_built S) o) c.args.frame.now.names.items) c.in-Some.is) ∙ h)))

pub body-returns-in_err-code-clause-built : goal.body-returns-in_err-code-clause-built
body-returns-in_err-code-clause-built t c = λ S k h. handed c.from_residual.result _ c.from_residual.ensures.1 (c.in_err-code.ensures.built S k (at_scope (node_built S c.source-item.result) _ _ c.nodes.invariant.names (every_at (node_built S) c.args.nodes.now c.nodes.source-index _ _ c.nodes-test.true c.source-item.is h)))

pub text-returns-in_err-part-clause-built : goal.text-returns-in_err-part-clause-built
text-returns-in_err-part-clause-built t c = λ S k h. handed c.from_residual.result _ c.from_residual.ensures.1 (c.in_err-part.ensures.built S k (at_scope (piece_built S c.source-item.result) _ _ c.pieces.invariant.names (every_at (piece_built S) c.args.pieces.now c.pieces.source-index _ _ c.pieces-test.true c.source-item.is h)))

pub pairs-returns-in_err-key-clause-built : goal.pairs-returns-in_err-key-clause-built
pairs-returns-in_err-key-clause-built t c = λ S k h. handed c.from_residual.result _ c.from_residual.ensures.1 (c.in_err-key.ensures.built S k (at_scope (node_built S _) _ _ c.pairs.invariant.names (conjunction _ _ (every_at (pair_built S) c.args.sources.now c.pairs.pair-index c.pair-item.result _ c.pairs-test.true c.pair-item.is h))))

pub pairs-returns-in_err-value-clause-built : goal.pairs-returns-in_err-value-clause-built
pairs-returns-in_err-value-clause-built t c = λ S k h. handed c.from_residual-in_err-value.result _ c.from_residual-in_err-value.ensures.1 (c.in_err-value.ensures.built S k (at_scope (node_built S _) _ _ (c.in_ok-key.ensures.names ∙ c.pairs.invariant.names) (conjunction_rest _ _ (every_at (pair_built S) c.args.sources.now c.pairs.pair-index c.pair-item.result _ c.pairs-test.true c.pair-item.is h))))

pub arguments-returns-in_err-codes-clause-built : goal.arguments-returns-in_err-codes-clause-built
arguments-returns-in_err-codes-clause-built t c = λ S k h. handed c.from_residual.result _ c.from_residual.ensures.1 (c.in_err-codes.ensures.built S k (at_scope (body_built S c.args.nodes.now) _ _ (ap (λ v. v.items) c.wait.ensures.names) h))

pub piece-returns-in_err-code-in-Code-clause-built : goal.piece-returns-in_err-code-in-Code-clause-built
piece-returns-in_err-code-in-Code-clause-built t c = λ S k h. handed c.from_residual-in_err-code-in-Code.result _ c.from_residual-in_err-code-in-Code.ensures.1 (c.in_err-code-in-Code.ensures.built S k (code_built S _ c.args.source.now _ c.in-Code.is h))

pub block-returns-in_err-nodes-clause-built : goal.block-returns-in_err-nodes-clause-built
block-returns-in_err-nodes-clause-built t c = λ S k h. handed c.from_residual-in_err-nodes.result _ c.from_residual-in_err-nodes.ensures.1 (c.in_err-nodes.ensures.built S k (at_scope (body_built S c.as_slice.result.now) _ _ (c.in_ok-from.ensures.names ∙ ap (λ ns. c.args.frame.now.names.items ++ ns) (c.of_block.ensures ∙ k.blocks c.args.source.now.at)) (ap (λ x. body_built S x (c.args.frame.now.names.items ++ S.block_names c.args.source.now.at)) c.as_slice.ensures ∙ block_body_built S c.args.frame.now.names.items c.args.source.now h)))
