use Rattle.std.proofs.Common.{◌≡◌, ◌∙◌, ℕ, ap, sym, subst, [], ◌∷◌}
use Rattle.rb_model.specs.Values.{Nil}
use Rattle.rb_model.specs.Log.{Log, fresh}
use Rattle.rb_model.specs.Private.{Private, bare}
use Rattle.rb_machine.specs.Scopes.{Script}
use Rattle.rb_machine.specs.Control.{Then, Instead}
use Rattle.rb_machine.specs.Follows.{At, here}
use Rattle.rb_machine.specs.Alone.{opening}
use Rattle.rb_walk.proofs.Endings.{comes_out, tells_nothing, main_caused}
use Rattle.rb_interp.proofs.walker.run_by.Goals as goal

-- the machine has begun, with a log and a private store in which there is nothing
opened : (S : Script) (N : ℕ) (l : Log) (h : Private) → l ≡ fresh → h ≡ bare 0 → At S N (opening S N) l h (opening S N)
opened S N l h e f = subst (λ x. At S N (opening S N) l x (opening S N)) (sym f) (subst (λ x. At S N (opening S N) x (bare 0) (opening S N)) (sym e) (here 0))

pub returns-clause-goes : goal.returns-clause-goes
returns-clause-goes g c = λ S st e.
    let top = c.top-came in
    let budget = c.args.steps in
    let start = opening S budget in
    let begun = opened S budget _ _ (ap g.O.ThreadStore.log c.of.ensures ∙ c.requires.begun) (ap g.O.ThreadStore.private c.of.ensures ∙ c.requires.made) in
    let came = top.ensures.came S start (Then (Instead Nil) ∷ []) st e begun in
    rw (c.into_store.ensures.same, c.end_of.ensures top.new.self.value) (record {
      goes = record { comes = comes_out S budget start _ _ _ _ 0 _ came; caused = main_caused _ _ S budget start _ (Then (Instead Nil) ∷ []) _ 0 _ came };
      tells = tells_nothing S budget start _ _ _ _ 0 _ came;
    })
