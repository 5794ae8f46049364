-- Where the names and the thread bodies of trees stand: each making of a tree puts them in the order of the text.
use Rattle.std.proofs.Common.{ℕ, ◌≤◌, List, [], ◌∷◌, ◌++◌, map, Some, None, arith}
use Rattle.std.specs.Prelude.{ℤ}
use Rattle.rb_tree.specs.declared.span.Span.{Span}
use Rattle.rb_tree.specs.declared.node.Node.{Node}
use Rattle.rb_tree.specs.declared.node.AssignOp.{AssignOp}
use Rattle.rb_grammar.specs.Tree.{Text, Word, Thread, Tree, BlockTree, PieceTree, TargetTree}
use Rattle.rb_grammar.specs.Tree.{names_of, threads_of, block_names, code_of, flat}
use Rattle.rb_grammar.specs.Tree as tree
use Rattle.rb_grammar.specs.Order.{Rising}

-- ---- places that do not fall

-- places between two places are between wider ones
rising_low : (low' low high : ℕ) (places : List ℕ) → low' ≤ low → Rising low high places → Rising low' high places
rising_low low' low high [] l r = omega arith
rising_low low' low high (place ∷ places) l r =
    let first : low ≤ place = r.0 in (omega arith, r.1)

rising_high : (low high high' : ℕ) (places : List ℕ) → high ≤ high' → Rising low high places → Rising low high' places
rising_high low high high' [] l r = omega arith
rising_high low high high' (place ∷ places) l r = (r.0, rising_high place high high' places l r.1)

-- places up to one in the middle, and places from there on
rising_join : {X : Type 0} (f : X → ℕ) (xs ys : List X) (low mid high : ℕ) → Rising low mid (map f xs) → Rising mid high (map f ys)
    → Rising low high (map f (xs ++ ys))
rising_join f [] ys low mid high h k = rising_low low mid high (map f ys) h k
rising_join f (x ∷ xs) ys low mid high h k = (h.0, rising_join f xs ys (f x) mid high h.1 k)

-- the first place is not behind the last
rising_bound : (low high : ℕ) (places : List ℕ) → Rising low high places → low ≤ high
rising_bound low high [] r = r
rising_bound low high (place ∷ places) r =
    let first : low ≤ place = r.0 in
    let last : place ≤ high = rising_bound place high places r.1 in
    omega arith

-- the places of these do not fall, and lie between two places
pub record Within {X : Type 0} (place_of : X → ℕ) (low high : ℕ) (xs : List X) : Type 0 where
  pub rising : Rising low high (map place_of xs)

module _ {X : Type 0} {f : X → ℕ} where
  -- further apart
  pub within_wide : {low' low high high' : ℕ} {xs : List X} → low' ≤ low → high ≤ high' → Within f low high xs → Within f low' high' xs
  within_wide {low' = low'} {low = low} {high = high} {high' = high'} {xs = xs} l h w =
      record { rising = rising_low low' low high' (map f xs) l (rising_high low high high' (map f xs) h w.rising) }

  -- the first place is not behind the last
  pub within_bound : {low high : ℕ} {xs : List X} → Within f low high xs → low ≤ high
  within_bound {low = low} {high = high} {xs = xs} w = rising_bound low high (map f xs) w.rising

  -- none of them, one more in front, and some behind others
  pub nothing_within : {low high : ℕ} → low ≤ high → Within f low high []
  nothing_within l = record { rising = l }

  pub first_within : {low high : ℕ} {x : X} {xs : List X} → low ≤ f x → Within f (f x) high xs → Within f low high (x ∷ xs)
  first_within l w = record { rising = (l, w.rising) }

  pub both_within : {low mid high : ℕ} {xs ys : List X} → Within f low mid xs → Within f mid high ys → Within f low high (xs ++ ys)
  both_within {low = low} {mid = mid} {high = high} {xs = xs} {ys = ys} w v =
      record { rising = rising_join f xs ys low mid high w.rising v.rising }

-- ---- trees

-- a place is not behind itself
pub same : (n : ℕ) → n ≤ n
same n = omega arith

-- the tokens that give these names do not fall, and lie between two places; and so do the blocks of these threads
abbrev pub Named : ℕ → ℕ → List Word → Type 0
Named = Within (λ w. w.at.from)

abbrev pub Threaded : ℕ → ℕ → List Thread → Type 0
Threaded = Within (λ t. t.at.from)

pub record Stands (low high : ℕ) (words : List Word) (bodies : List Thread) : Type 0 where
  pub named : Named low high words
  pub threaded : Threaded low high bodies

pub record TreeStands (low high : ℕ) (a : Tree) : Type 0 where
  pub stands : Stands low high a.names a.threads

-- each of the trees stands behind the one before it
pub data TreesStand : ℕ → ℕ → List Tree → Type 0 where
  none_stand : {low high : ℕ} → low ≤ high → TreesStand low high []
  next_stands : {low mid high : ℕ} {a : Tree} {more : List Tree} → TreeStands low mid a → TreesStand mid high more → TreesStand low high (a ∷ more)

-- one behind the other
pub record PairStands (low high : ℕ) (ab : Tree × Tree) : Type 0 where
  pub mid : ℕ
  pub before : TreeStands low mid ab.0
  pub behind : TreeStands mid high ab.1

-- a block: its place, its parameters and its body
pub record BlockStands (low high : ℕ) (b : BlockTree) : Type 0 where
  pub mid : ℕ
  pub opened : low ≤ b.at.from
  pub params : Named b.at.from mid b.params
  pub body : TreesStand mid high b.body

pub record WordStands (low high : ℕ) (w : Word) : Type 0 where
  pub before : low ≤ w.at.from
  pub behind : w.at.from ≤ high

-- a call of a name, or an index, behind its receiver: up to the name, and up to the index
pub record MemberStands (low high : ℕ) (a : Tree) (w : Word) : Type 0 where
  pub receiver : TreeStands low w.at.from a
  pub behind : w.at.from ≤ high

pub record IndexStands (low high : ℕ) (a i : Tree) (bracket : Span) : Type 0 where
  pub receiver : TreeStands low bracket.from a
  pub index : TreeStands bracket.from high i

-- what may stand before an assignment mark, as it is put together
abbrev pub TargetStands : ℕ → ℕ → TargetTree → Type 0
TargetStands low high (tree.to_local w) = WordStands low high w
TargetStands low high (tree.to_field w) = WordStands low high w
TargetStands low high (tree.to_global w) = WordStands low high w
TargetStands low high (tree.to_index r i bracket) = IndexStands low high r i bracket
TargetStands low high (tree.to_attribute r w) = MemberStands low high r w

-- nothing, between any two places
pub nothing_stands : {low high : ℕ} → low ≤ high → Stands low high [] []
nothing_stands l = record { named = nothing_within l; threaded = nothing_within l }

-- further apart
pub stands_wide : {low' low high high' : ℕ} {words : List Word} {bodies : List Thread} → low' ≤ low → high ≤ high'
    → Stands low high words bodies → Stands low' high' words bodies
stands_wide l h s = record { named = within_wide l h s.named; threaded = within_wide l h s.threaded }

-- further down, and further up
lower : {low' low high : ℕ} {a : Tree} → low' ≤ low → TreeStands low high a → TreeStands low' high a
lower {high = high} l s = record { stands = stands_wide l (same high) s.stands }

pub higher : {low high high' : ℕ} {a : Tree} → high ≤ high' → TreeStands low high a → TreeStands low high' a
higher {low = low} h s = record { stands = stands_wide (same low) h s.stands }

-- names and threads behind others
pub both_stand : {low mid high : ℕ} {words words' : List Word} {bodies bodies' : List Thread} → Stands low mid words bodies → Stands mid high words' bodies'
    → Stands low high (words ++ words') (bodies ++ bodies')
both_stand s r = record { named = both_within s.named r.named; threaded = both_within s.threaded r.threaded }

-- trees that stand so give their names and their threads in order
pub trees_stand : {low high : ℕ} {xs : List Tree} → TreesStand low high xs → Stands low high (names_of xs) (threads_of xs)
trees_stand (none_stand l) = nothing_stands l
trees_stand (next_stands s more) = both_stand s.stands (trees_stand more)

-- the first place is not behind the last
trees_bound : {low high : ℕ} {xs : List Tree} → TreesStand low high xs → low ≤ high
trees_bound s = within_bound (trees_stand s).named

-- trees further down, and further up
trees_low : {low' low high : ℕ} {xs : List Tree} → low' ≤ low → TreesStand low high xs → TreesStand low' high xs
trees_low l (none_stand h) = none_stand (omega arith)
trees_low l (next_stands s more) = next_stands (lower l s) more

pub trees_high : {low high high' : ℕ} {xs : List Tree} → high ≤ high' → TreesStand low high xs → TreesStand low high' xs
trees_high l (none_stand h) = none_stand (omega arith)
trees_high l (next_stands s more) = next_stands s (trees_high l more)

-- trees behind others
trees_both : {low mid high : ℕ} {xs ys : List Tree} → TreesStand low mid xs → TreesStand mid high ys → TreesStand low high (xs ++ ys)
trees_both (none_stand l) k = trees_low l k
trees_both (next_stands s more) k = next_stands s (trees_both more k)

pub one_stands : {low high : ℕ} {a : Tree} → TreeStands low high a → TreesStand low high (a ∷ [])
one_stands {high = high} s = next_stands s (none_stand (same high))

-- one tree more
pub trees_more : {low mid high : ℕ} {found : List Tree} {a : Tree} → TreesStand low mid found → TreeStands mid high a → TreesStand low high (found ++ a ∷ [])
trees_more f s = trees_both f (one_stands s)

-- one part of a text more, with code in it or without, and one pair more
pub pieces_more : {low mid high : ℕ} (pieces : List PieceTree) {a : Tree} → TreesStand low mid (code_of pieces) → TreeStands mid high a
    → TreesStand low high (code_of (pieces ++ tree.code a ∷ []))
pieces_more [] f s = trees_low (trees_bound f) (one_stands s)
pieces_more (tree.bytes text ∷ more) f s = pieces_more more f s
pieces_more (tree.code a ∷ more) (next_stands r f) s = next_stands r (pieces_more more f s)

pub pieces_bytes : {low high : ℕ} (pieces : List PieceTree) (text : Text) → TreesStand low high (code_of pieces)
    → TreesStand low high (code_of (pieces ++ tree.bytes text ∷ []))
pieces_bytes [] text f = f
pieces_bytes (tree.bytes other ∷ more) text f = pieces_bytes more text f
pieces_bytes (tree.code a ∷ more) text (next_stands r f) = next_stands r (pieces_bytes more text f)

pub pair_stands : {low high : ℕ} {ab : Tree × Tree} → PairStands low high ab → TreesStand low high (flat (ab ∷ []))
pair_stands s = next_stands s.before (one_stands s.behind)

pub pairs_more : {low mid high : ℕ} (pairs : List (Tree × Tree)) {ab : Tree × Tree} → TreesStand low mid (flat pairs) → PairStands mid high ab
    → TreesStand low high (flat (pairs ++ ab ∷ []))
pairs_more [] f s = trees_low (trees_bound f) (pair_stands s)
pairs_more (p ∷ ps) (next_stands r (next_stands q f)) s = next_stands r (next_stands q (pairs_more ps f s))

-- ---- the makings of trees

-- a node with trees in it stands where its names do and the trees do
branch_stands : {low high : ℕ} {words : List Word} {inside : List Tree} → Named low high words → TreesStand low high inside
    → Stands low high words (threads_of inside)
branch_stands w s = record { named = w; threaded = (trees_stand s).threaded }

-- nodes of one name, and of none
word_stands : {low high : ℕ} {w : Word} → WordStands low high w → Stands low high (w ∷ []) []
word_stands {low = low} {high = high} {w = w} s =
    let before : low ≤ w.at.from = s.before in
    let behind : w.at.from ≤ high = s.behind in
    record { named = first_within before (nothing_within behind); threaded = nothing_within (omega arith) }

pub local_stands : {low high : ℕ} {w : Word} → WordStands low high w → TreeStands low high (tree.local w)
local_stands s = record { stands = word_stands s }

pub field_stands : {low high : ℕ} {w : Word} → WordStands low high w → TreeStands low high (tree.field w)
field_stands s = record { stands = word_stands s }

pub global_stands : {low high : ℕ} {w : Word} → WordStands low high w → TreeStands low high (tree.global w)
global_stands s = record { stands = word_stands s }

pub symbol_stands : {low high : ℕ} {w : Word} → WordStands low high w → TreeStands low high (tree.symbol w)
symbol_stands s = record { stands = word_stands s }

pub integer_stands : {low high : ℕ} (value : ℤ) (at : Span) → low ≤ high → TreeStands low high (tree.integer value at)
integer_stands value at l = record { stands = nothing_stands l }

pub constant_stands : {low high : ℕ} (make : Span → Node) (at : Span) → low ≤ high → TreeStands low high (tree.constant make at)
constant_stands make at l = record { stands = nothing_stands l }

pub return_nothing_stands : {low high : ℕ} (at : Span) → low ≤ high → TreeStands low high (tree.return_nothing at)
return_nothing_stands at l = record { stands = nothing_stands l }

-- nodes round one tree
round_one : {low high : ℕ} {a : Tree} → TreeStands low high a → Stands low high a.names (threads_of (a ∷ []))
round_one s = branch_stands s.stands.named (one_stands s)

pub return_value_stands : {low high : ℕ} (at : Span) {a : Tree} → TreeStands low high a → TreeStands low high (tree.return_value at a)
return_value_stands at s = record { stands = round_one s }

pub negated_stands : {low high : ℕ} (at : Span) {a : Tree} → TreeStands low high a → TreeStands low high (tree.negated at a)
negated_stands at s = record { stands = round_one s }

-- a minus stands before its operand
pub minus_stands : {low high : ℕ} (at : Span) {a : Tree} → low ≤ at.from → TreeStands at.from high a → TreeStands low high (tree.minus at a)
minus_stands at l s = record { stands = branch_stands (first_within l s.stands.named) (trees_low l (one_stands s)) }

-- calls: the receiver, the name, the arguments and the block
pub call_stands : {low high : ℕ} {w : Word} {args : List Tree} → low ≤ w.at.from → TreesStand w.at.from high args → TreeStands low high (tree.call None w args)
call_stands l s = record { stands = branch_stands (first_within l (trees_stand s).named) (trees_low l s) }

pub call_of_stands : {low high : ℕ} {a : Tree} {w : Word} {args : List Tree} → TreeStands low w.at.from a → TreesStand w.at.from high args
    → TreeStands low high (tree.call (Some a) w args)
call_of_stands {w = w} r s =
    record { stands = branch_stands (both_within r.stands.named (first_within (same w.at.from) (trees_stand s).named)) (next_stands r s) }

-- the names of a block
block_named : {low high : ℕ} {b : BlockTree} → BlockStands low high b → Named b.at.from high (block_names b)
block_named s = both_within s.params (trees_stand s.body).named

-- its body stands behind the place before it
block_body_low : {low high : ℕ} {b : BlockTree} → BlockStands low high b → TreesStand b.at.from high b.body
block_body_low s = trees_low (within_bound s.params) s.body

pub call_with_block_stands : {low mid high : ℕ} {a : Tree} {w : Word} {args : List Tree} {b : BlockTree} → TreeStands low w.at.from a
    → TreesStand w.at.from mid args → BlockStands mid high b → TreeStands low high (tree.call_with_block a w args b)
call_with_block_stands {w = w} {b = b} r s block =
    let args_to = trees_high block.opened s in record {
      stands = branch_stands
          (both_within r.stands.named (first_within (same w.at.from) (both_within (trees_stand args_to).named (block_named block))))
          (next_stands r (trees_both args_to (block_body_low block)));
    }

pub thread_new_stands : {low mid high : ℕ} (at : Span) {args : List Tree} {b : BlockTree} → TreesStand low mid args → BlockStands mid high b
    → TreeStands low high (tree.thread_new at args b)
thread_new_stands at {b = b} s block =
    let args_to = trees_high block.opened s in record {
      stands = record {
        named = both_within (trees_stand args_to).named (block_named block);
        threaded = both_within (trees_stand args_to).threaded (first_within (same b.at.from) (trees_stand (block_body_low block)).threaded);
      };
    }

pub new_stands : {low high : ℕ} {class : Word} (at : Span) {args : List Tree} → low ≤ class.at.from → TreesStand class.at.from high args
    → TreeStands low high (tree.new class at args)
new_stands at l s = record { stands = branch_stands (first_within l (trees_stand s).named) (trees_low l s) }

-- operators between two operands
round_two : {low mid high : ℕ} {a b : Tree} → TreeStands low mid a → TreeStands mid high b → Stands low high (a.names ++ b.names) (threads_of (a ∷ b ∷ []))
round_two s r = branch_stands (both_within s.stands.named r.stands.named) (next_stands s (one_stands r))

pub binary_stands : {low high : ℕ} (operator : Text) (at : Span) {a b : Tree} → TreeStands low at.from a → TreeStands at.from high b
    → TreeStands low high (tree.binary operator at a b)
binary_stands operator at s r =
    record { stands = branch_stands (both_within s.stands.named (first_within (same at.from) r.stands.named)) (next_stands s (one_stands r)) }

pub and_also_stands : {low mid high : ℕ} (at : Span) {a b : Tree} → TreeStands low mid a → TreeStands mid high b → TreeStands low high (tree.and_also at a b)
and_also_stands at s r = record { stands = round_two s r }

pub or_else_stands : {low mid high : ℕ} (at : Span) {a b : Tree} → TreeStands low mid a → TreeStands mid high b → TreeStands low high (tree.or_else at a b)
or_else_stands at s r = record { stands = round_two s r }

pub index_stands : {low high : ℕ} {a i : Tree} (at : Span) → IndexStands low high a i at → TreeStands low high (tree.index a i at)
index_stands at s = record {
  stands = branch_stands (both_within s.receiver.stands.named (first_within (same at.from) s.index.stands.named)) (next_stands s.receiver (one_stands s.index));
}

-- literals
pub string_stands : {low high : ℕ} (at : Span) (pieces : List PieceTree) → TreesStand low high (code_of pieces) → TreeStands low high (tree.string at pieces)
string_stands at pieces s = record { stands = trees_stand s }

pub array_stands : {low high : ℕ} (at : Span) {items : List Tree} → TreesStand low high items → TreeStands low high (tree.array at items)
array_stands at s = record { stands = trees_stand s }

pub hash_stands : {low high : ℕ} (at : Span) (pairs : List (Tree × Tree)) → TreesStand low high (flat pairs) → TreeStands low high (tree.hash at pairs)
hash_stands at pairs s = record { stands = trees_stand s }

-- control
pub choice_stands : {low mid mid' high : ℕ} (at : Span) {condition : Tree} {first second : List Tree} → TreeStands low mid condition
    → TreesStand mid mid' first → TreesStand mid' high second → TreeStands low high (tree.choice at condition first second)
choice_stands at s r q = record {
  stands = branch_stands (both_within s.stands.named (both_within (trees_stand r).named (trees_stand q).named)) (next_stands s (trees_both r q));
}

pub loop_stands : {low mid high : ℕ} (at : Span) {condition : Tree} {body : List Tree} → TreeStands low mid condition → TreesStand mid high body
    → TreeStands low high (tree.loop at condition body)
loop_stands at s r = record { stands = branch_stands (both_within s.stands.named (trees_stand r).named) (next_stands s r) }

pub choice_behind_stands : {low mid high : ℕ} (at : Span) {body condition : Tree} → TreeStands low mid body → TreeStands mid high condition
    → TreeStands low high (tree.choice_behind at body condition)
choice_behind_stands at s r = record { stands = round_two s r }

pub loop_behind_stands : {low mid high : ℕ} (at : Span) {body condition : Tree} → TreeStands low mid body → TreeStands mid high condition
    → TreeStands low high (tree.loop_behind at body condition)
loop_behind_stands at s r = record { stands = round_two s r }

-- a name before a value
word_assigned : {low mid high : ℕ} {w : Word} {a : Tree} → WordStands low mid w → TreeStands mid high a → Stands low high (w ∷ a.names) (threads_of (a ∷ []))
word_assigned {low = low} {mid = mid} {w = w} s r =
    let before : low ≤ w.at.from = s.before in
    let value = lower s.behind r in
    branch_stands (first_within before value.stands.named) (trees_low before (one_stands value))

-- assignments: the target, and the value
pub assigned_stands : {low mid high : ℕ} (target : TargetTree) (at : Span) {a : Tree} → TargetStands low mid target → TreeStands mid high a
    → TreeStands low high (tree.assigned target at a)
assigned_stands (tree.to_local w) at s r = record { stands = word_assigned s r }
assigned_stands (tree.to_field w) at s r = record { stands = word_assigned s r }
assigned_stands (tree.to_global w) at s r = record { stands = word_assigned s r }
assigned_stands (tree.to_index receiver i bracket) at s r = record {
  stands = branch_stands
      (both_within s.receiver.stands.named (first_within (same bracket.from) (both_within s.index.stands.named r.stands.named)))
      (next_stands s.receiver (next_stands s.index (one_stands r)));
}
assigned_stands (tree.to_attribute receiver w) at s r =
    let value = lower s.behind r in record {
      stands = branch_stands (both_within s.receiver.stands.named (first_within (same w.at.from) value.stands.named)) (next_stands s.receiver (one_stands value));
    }

pub operated_stands : {low mid high : ℕ} (target : TargetTree) (op : AssignOp) (at : Span) {a : Tree} → TargetStands low mid target → TreeStands mid high a
    → TreeStands low high (tree.operated target op at a)
operated_stands (tree.to_local w) op at s r = record { stands = word_assigned s r }
operated_stands (tree.to_field w) op at s r = record { stands = word_assigned s r }
operated_stands (tree.to_global w) op at s r = record { stands = word_assigned s r }
operated_stands (tree.to_index receiver i bracket) op at s r = record {
  stands = branch_stands (both_within (both_within s.receiver.stands.named s.index.stands.named) r.stands.named)
      (next_stands s.receiver (next_stands s.index (one_stands r)));
}
operated_stands (tree.to_attribute receiver w) op at s r =
    let value = lower s.behind r in record {
      stands = branch_stands
          (both_within (both_within s.receiver.stands.named (first_within (same w.at.from) (nothing_within s.behind))) r.stands.named)
          (next_stands s.receiver (one_stands value));
    }
