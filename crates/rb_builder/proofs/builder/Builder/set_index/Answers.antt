use Rattle.std.proofs.Common.{◌∷◌, [], refl}
use Rattle.rb_grammar.specs.Tree as tree
use Rattle.rb_builder.specs.Builder.{walk_of}
use Rattle.rb_builder.proofs.Stores.{index_stored}
use Rattle.rb_builder.proofs.builder.Builder.set_index.Goals as goal

pub returns : goal.returns
returns c = λ r i a t u v.
    index_stored (walk_of c.args.self.now) r i a c.args.bracket c.args.at c.store.result
    (c.store.ensures r (tree.given tree.store_name c.args.bracket) (i ∷ a ∷ []) refl t (c.in_ok-push.ensures.ok (i ∷ []) a (c.in_ok-args.ensures.ok i u) v))
