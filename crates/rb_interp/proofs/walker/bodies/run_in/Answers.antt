use Rattle.std.proofs.Common.{◌≡◌, ◌∙◌, ℕ, ◌<◌, Some, List, [], ◌∷◌, ◌++◌, length, map, take, drop, refl, sym, ap, subst, arith}
use Rattle.std.specs.Prelude.{slice_get}
use Rattle.rb_model.specs.Values.{Value as Val, plain}
use Rattle.rb_model.specs.Log.{Log, fresh}
use Rattle.rb_model.specs.Private.{Private, bare}
use Rattle.rb_machine.specs.Scopes.{Script}
use Rattle.rb_machine.specs.Threads.{beginning, self_among, captured_among}
use Rattle.rb_machine.specs.Follows.{At, here}
use Rattle.rb_code.specs.Resolved.{fits, every}
use Rattle.rb_walk.specs.Carries.{me_of}
use Rattle.rb_walk.specs.Walks.{slot_value}
use Rattle.rb_walk.proofs.Lists.{take_map, drop_map}
use Rattle.rb_walk.proofs.Moves.{same}
use Rattle.rb_walk.proofs.Rooms.{lies}
use Rattle.rb_walk.proofs.Endings.{goes_before, body_there, body_opens, body_begins, body_comes_out, body_caused}
use Rattle.rb_interp.proofs.walker.bodies.run_in.Goals as goal

pub returns-in_default-clause-goes : goal.returns-in_default-clause-goes
returns-in_default-clause-goes g c = λ S st e. goes_before S c.args.steps _ _ c.args.number (map plain c.args.values.now) _ c.requires.begun c.requires.made

pub returns-in_default-own_among-clause-goes : goal.returns-in_default-own_among-clause-goes
returns-in_default-own_among-clause-goes g c = λ S st e. goes_before S c.args.steps _ _ c.args.number (map plain c.args.values.now) _ c.requires.begun c.requires.made

pub returns-then-room-size-clause-goes : goal.returns-then-room-size-clause-goes
returns-then-room-size-clause-goes g c = λ S st e. goes_before S c.args.steps _ _ c.args.number (map plain c.args.values.now) _ c.requires.begun c.requires.made

pub returns-in-Err-clause-goes : goal.returns-in-Err-clause-goes
returns-in-Err-clause-goes g c = λ S st e. goes_before S c.args.steps _ _ c.args.number (map plain c.args.values.now) _ c.requires.begun c.requires.made

-- the machine has begun, with a log and a private store in which there is nothing
opened : (S : Script) (N number : ℕ) (values : List Val) (t : ℕ) (l : Log) (h : Private) → l ≡ fresh → h ≡ bare t → At S N (beginning S N number values) l h (beginning S N number values)
opened S N number values t l h e f =
    let start = beginning S N number values in
    subst (λ x. At S N start l x start) (sym f) (subst (λ x. At S N start x (bare t) start) (sym e) (here t))

pub returns-clause-goes : goal.returns-clause-goes
returns-clause-goes g c = λ S st e.
    let body = c.args.body.now in
    let N = c.args.steps in
    let number = c.args.number in
    let values = map plain c.args.values.now in
    let at = c.in-Some.ensures.cases in
    let own = c.in-Some-own_among in
    let is = st.threads number body c.requires.body in
    let names = S.thread_names number in
    let count = length body.params in
    let many = length (S.captured_names number) in
    let room = c.lay.new.room in
    let kept = map plain own.captured.now in
    let first : map plain c.in-Some.args.now ≡ take count values = ap (map plain) at.1 ∙ take_map plain c.len.result c.args.values.now ∙ ap (λ k. take k values) c.len.ensures in
    let behind : map plain c.in-Some.behind.now ≡ drop count values = ap (map plain) at.2 ∙ drop_map plain c.len.result c.args.values.now ∙ ap (λ k. drop k values) c.len.ensures in
    let all : c.len-2.result ≡ many = c.len-2.ensures ∙ ap length is.captured in
    let self : me_of own.me ≡ self_among many (drop count values) = own.ensures.me ∙ ap (λ k. self_among k (map plain c.in-Some.behind.now)) all ∙ ap (self_among many) behind in
    let captured : kept ≡ captured_among many (drop count values) = own.ensures.captured ∙ ap (λ k. captured_among k (map plain c.in-Some.behind.now)) all ∙ ap (captured_among many) behind in
    let laid : (i : ℕ) → i < body.size → slice_get (map plain room) i ≡ Some (slot_value (take count values ++ kept) i) =
    λ i q. c.in_default-lay.ensures.within i q ∙ ap (λ vs. Some (slot_value (vs ++ kept) i)) first in
    let opens = body_opens names room body.size (take count values ++ kept) is.names laid in
    let there = body_there c.args.methods.now S number body st c.requires.body in
    let begins = body_begins S N number body values kept (me_of own.me) names room there refl self opens captured in
    let start = beginning S N number values in
    let a = opened S N number values _ _ _ (ap g.O.ThreadStore.log c.of.ensures ∙ c.requires.begun) (ap g.O.ThreadStore.private c.of.ensures ∙ c.requires.made) in
    let under = lies (every (map (fits S) body.body)) names body.size body.size (length room) is.fits is.names (omega arith) (omega (arith, c.if-room-size.false, c.lay.ensures.room)) in
    let came = (c.body_at-came.ensures.came body c.requires.body S names body.size st e under).1 start [] (same a (sym begins)) in
    rw (c.into_store.ensures.same, c.end_of_body.ensures) (record { comes = body_comes_out S N start _ _ _ _ 0 _ came; caused = body_caused _ _ S N start _ [] _ 0 _ came })
