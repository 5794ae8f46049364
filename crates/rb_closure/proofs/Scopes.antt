-- The values of locals, of arguments and of pairs, where they are put together and taken apart.
use Rattle.std.proofs.Common.{ℕ, zero, suc, Bool, true, false, cond, List, [], ◌∷◌, ◌++◌, map, take, replicate, Option, Some, None}
use Rattle.std.specs.Prelude.{◌==◌}
use Rattle.std.specs.Option.{is_some}
use Rattle.rb_tree.specs.declared.span.NameId.{NameId}
use Rattle.rb_model.specs.Values.{Value, To, Reference, or_nil, truthy}
use Rattle.rb_model.specs.Things.{key_of}
use Rattle.rb_machine.specs.Scopes.{Script, Scope, Locals, or_else, found, look, assign, fresh}
use Rattle.rb_machine.specs.Control.{Walk, Each as EachValue, WithIndex, Map, Select, Turns, Counting, Walking, EachPair}
use Rattle.rb_machine.specs.Call.{self_of, given_to, last_value, pairs_of}
use Rattle.rb_machine.specs.Turns.{walked, turned, holding, given}
use Rattle.rb_closure.specs.Mentions.{values_in_pairs, values_in_walk, values_in_turns, values_in_scope}
use Rattle.rb_closure.specs.Closure.{Each, IfReference}
use Rattle.rb_closure.proofs.Lists.{both, each_if}

module _ (R : Reference → Type 0) where
  abbrev V : Value → Type 0
  V v = IfReference R v

  abbrev pub AllLocals : Locals → Type 0
  AllLocals bs = Each V (map (λ (b : NameId × Value). b.1) bs)

  -- ---- locals

  or_else_of : (o p : Option Value) → V (or_nil o) → V (or_nil p) → V (or_nil (or_else o p))
  or_else_of None p a b = b
  or_else_of (Some v) p a b = a

  some_if : (b : Bool) (v : Value) → V v → V (or_nil (cond b (Some v) None))
  some_if true v p = p
  some_if false v p = tt

  pub look_of : (name : NameId) (bs : Locals) → AllLocals bs → V (look name bs)
  look_of name [] a = tt
  look_of name (b ∷ bs) (p, a) = or_else_of (found name bs) (cond (b.0.0 == name.0) (Some b.1) None) (look_of name bs a) (some_if (b.0.0 == name.0) b.1 p)

  either : (s t : Bool) (xs ys zs : Locals) → AllLocals xs → AllLocals ys → AllLocals zs → AllLocals (cond s xs (cond t ys zs))
  either true t xs ys zs p q r = p
  either false true xs ys zs p q r = q
  either false false xs ys zs p q r = r

  pub assign_of : (name : NameId) (v : Value) (bs : Locals) → V v → AllLocals bs → AllLocals (assign name v bs)
  assign_of name v [] q a = tt
  assign_of name v (b ∷ bs) q (p, a) =
      either (is_some (found name bs)) (b.0.0 == name.0) (b ∷ assign name v bs) ((b.0, v) ∷ bs) (b ∷ bs) (p, assign_of name v bs q a) (q, a) (p, a)

  pub fresh_of : (ns : List NameId) (vs : List Value) → Each V vs → AllLocals (fresh ns vs)
  fresh_of [] vs a = tt
  fresh_of (n ∷ ns) [] a = (tt, fresh_of ns [] a)
  fresh_of (n ∷ ns) (v ∷ vs) (p, a) = (p, fresh_of ns vs a)

  pub locals_take : (n : ℕ) (bs : Locals) → AllLocals bs → AllLocals (take n bs)
  locals_take zero bs a = tt
  locals_take (suc n) [] a = tt
  locals_take (suc n) (b ∷ bs) (p, a) = (p, locals_take n bs a)

  pub locals_both : (bs cs : Locals) → AllLocals bs → AllLocals cs → AllLocals (bs ++ cs)
  locals_both [] cs a c = c
  locals_both (b ∷ bs) cs (p, a) c = (p, locals_both bs cs a c)

  -- ---- values

  pub values_take : (n : ℕ) (vs : List Value) → Each V vs → Each V (take n vs)
  values_take zero vs a = tt
  values_take (suc n) [] a = tt
  values_take (suc n) (v ∷ vs) (p, a) = (p, values_take n vs a)

  pub copies_of : (n : ℕ) (v : Value) → V v → Each V (replicate n v)
  copies_of zero v p = tt
  copies_of (suc n) v p = (p, copies_of n v p)

  looks_of : (names : List NameId) (bs : Locals) → AllLocals bs → Each V (map (λ (name : NameId). look name bs) names)
  looks_of [] bs a = tt
  looks_of (n ∷ ns) bs a = (look_of n bs a, looks_of ns bs a)

  -- ---- pairs

  pub keys_good : (ps : List (Value × Value)) → Each V (values_in_pairs ps) → Each V (map key_of ps)
  keys_good [] a = tt
  keys_good (x ∷ ps) (p, (q, a)) = (p, keys_good ps a)

  pub seconds_good : (ps : List (Value × Value)) → Each V (values_in_pairs ps) → Each V (map (λ (p : Value × Value). p.1) ps)
  seconds_good [] a = tt
  seconds_good (x ∷ ps) (p, (q, a)) = (q, seconds_good ps a)

  -- ---- walks

  walked_good : (v : Value) (walk : Walk) → V v → Each V (values_in_walk walk) → Each V (values_in_walk (walked v walk))
  walked_good v EachValue p a = tt
  walked_good v WithIndex p a = tt
  walked_good v (Map values) p a = both V values (v ∷ []) a (p, tt)
  walked_good v (Select kept current) p (c, a) = (c, each_if V (truthy v) (kept ++ current ∷ []) kept (both V kept (current ∷ []) a (c, tt)) a)

  pub turned_good : (v : Value) (turns : Turns) → V v → Each V (values_in_turns turns) → Each V (values_in_turns (turned v turns))
  turned_good v (Counting next last answer) p a = a
  turned_good v (Walking array next walk at) p (r, a) = (r, walked_good v walk p a)
  turned_good v (EachPair pairs answer) p a = a

  pub holding_good : (v : Value) (walk : Walk) → V v → Each V (values_in_walk walk) → Each V (values_in_walk (holding v walk))
  holding_good v EachValue p a = tt
  holding_good v WithIndex p a = tt
  holding_good v (Map values) p a = a
  holding_good v (Select kept current) p (c, a) = (p, a)

  pub given_good : (v : Value) (index : ℕ) (walk : Walk) → V v → Each V (given v index walk)
  given_good v index EachValue p = (p, tt)
  given_good v index WithIndex p = (p, (tt, tt))
  given_good v index (Map values) p = (p, tt)
  given_good v index (Select kept current) p = (p, tt)

  -- ---- what a call is made with

  module _ (S : Script) where
    self_good : (v : Value) → V v → Each V (self_of S v)
    self_good (To r) p = (p, tt)
    self_good v p = tt

    pub pairs_good : (vs : List Value) → Each V vs → Each V (values_in_pairs (pairs_of S vs))
    pairs_good [] a = tt
    pairs_good (k ∷ []) a = tt
    pairs_good (k ∷ v ∷ vs) (p, (q, a)) = (p, (q, pairs_good vs a))

    pub last_good : (vs : List Value) → Each V vs → V (last_value S vs)
    last_good [] a = tt
    last_good (v ∷ []) (p, a) = p
    last_good (v ∷ w ∷ vs) (p, a) = last_good (w ∷ vs) a

    pub given_to_good : (body : ℕ) (args : List Value) (sc : Scope) → Each V args → Each V (values_in_scope sc) → Each V (given_to S body args sc)
    given_to_good body args sc a h =
        both V args (self_of S sc.me ++ map (λ (name : NameId). look name sc.locals) (S.captured_names body)) a
        (both V (self_of S sc.me) (map (λ (name : NameId). look name sc.locals) (S.captured_names body)) (self_good sc.me h.0) (looks_of (S.captured_names body) sc.locals h.1))
