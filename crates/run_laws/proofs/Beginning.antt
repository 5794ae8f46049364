-- What a thread names as it begins: what it was started with, and the main thread no thing.
use Rattle.std.proofs.Common.{ℕ, Bool, true, false, cond, List, [], ◌++◌, length, take, drop, slice_get, Option, Some, None}
use Rattle.std.specs.Prelude.{nat_lt, unwrap_or}
use Rattle.rb_tree.specs.declared.node.Block.{Block}
use Rattle.rb_model.specs.Values.{Value as Val, Nil, Reference}
use Rattle.rb_machine.specs.Scopes.{Script}
use Rattle.rb_machine.specs.Alone.{opening}
use Rattle.rb_machine.specs.Threads.{beginning_of, self_among, captured_among}
use Rattle.rb_closure.specs.Mentions.{values_in}
use Rattle.rb_closure.specs.Closure.{Each, IfReference}
use Rattle.rb_closure.proofs.Lists.{both, at_of, IfSome}
use Rattle.rb_closure.proofs.Things.{take_each, drop_each}
use Rattle.rb_closure.proofs.Scopes.{fresh_of}

module _ (R : Reference → Type 0) where
  self_named : (captured : ℕ) (vs : List Val) → Each (IfReference R) vs → IfReference R (self_among captured vs)
  self_named captured vs a = by (nat_lt captured (length vs))
    where
      of : (o : Option Val) → IfSome (IfReference R) o → IfReference R (unwrap_or o Nil)
      of None p = tt
      of (Some v) p = p

      by : (b : Bool) → IfReference R (cond b (unwrap_or (slice_get vs 0) Nil) Nil)
      by true = of (slice_get vs 0) (at_of (IfReference R) vs 0 a)
      by false = tt

  captured_named : (captured : ℕ) (vs : List Val) → Each (IfReference R) vs → Each (IfReference R) (captured_among captured vs)
  captured_named captured vs a = by (nat_lt captured (length vs))
    where
      by : (b : Bool) → Each (IfReference R) (cond b (drop 1 vs) vs)
      by true = drop_each R 1 vs a
      by false = a

  -- a thread names what it was started with
  pub beginning_names : (S : Script) (N : ℕ) (o : Option Block) (body : ℕ) (vs : List Val) → Each (IfReference R) vs → Each (IfReference R) (values_in (beginning_of S N o body vs))
  beginning_names S N None body vs a = (tt, (tt, tt))
  beginning_names S N (Some block) body vs a =
      let behind = drop_each R (length block.params) vs a in
      let captured = length (S.captured_names body) in (
        tt,
        (
          self_named captured (drop (length block.params) vs) behind,
          fresh_of R (S.thread_names body) (take (length block.params) vs ++ captured_among captured (drop (length block.params) vs))
              (both (IfReference R) (take (length block.params) vs) (captured_among captured (drop (length block.params) vs)) (take_each R (length block.params) vs a) (captured_named captured (drop (length block.params) vs) behind)),
        ),
      )

  -- and the main thread no thing
  pub opening_names : (S : Script) (N : ℕ) → Each (IfReference R) (values_in (opening S N))
  opening_names S N = (tt, (tt, (tt, fresh_of R S.main_names [] tt)))
