-- What the rules of the grammar make goes on from one point to another, where each making of a tree does.
use Rattle.std.proofs.Common.{◌≡◌, refl, ap, ◌∙◌, suc, ◌≤◌, ◌<◌, Bool, true, List, [], ◌∷◌, ◌++◌, Option, Some, None, arith}
use Rattle.std.specs.Prelude.{codes}
use Rattle.rb_lexer.specs.declared.token.Token.{Token}
use Rattle.rb_grammar.specs.Look.{class_of}
use Rattle.rb_grammar.specs.Tree.{Text, Word, Tree, BlockTree, PieceTree, TargetTree, MethodTree, Members, Items, code_of, flat}
use Rattle.rb_grammar.specs.Tree as tree
use Rattle.rb_grammar.specs.Scope.{is_local, leave, with_params, with_target}
use Rattle.rb_grammar.specs.Phrase.{Operand, Head, Part, Tier, Phrase, Value}
use Rattle.rb_grammar.specs.Phrase.{or_tier, and_tier, equal_tier, less_tier, shift_tier, sum_tier, product_tier, unary_tier}
use Rattle.rb_grammar.specs.Phrase as p
use Rattle.rb_grammar.specs.Rule.{Rule, done, refuse, nested}
use Rattle.rb_grammar.specs.Grammar.{tree_of, operand, made, unless_head, target_of, operator_name, joined}
use Rattle.rb_grammar.specs.Grammar.{chained, operator_of, assigning, decided, modify, with_block, with_block_of, going_on, plain_member, plain_name}
use Rattle.rb_grammar.specs.Grammar.{called, thread, object, commanded, chosen, looped}
use Rattle.rb_accepted.specs.Coded.{begins_word}
use Rattle.rb_accepted.proofs.Walked.{Point, before, behind, changed, On, Within, IsNamed, stay, on_on, up_to, step, within_on, here_within}
use Rattle.rb_accepted.proofs.Walked.{Walks, TargetIn, BodyIn, BlockIn, IsWalked}
use Rattle.rb_accepted.proofs.Keeping.{OperandIn, PartIn, PairIn, Keeps}

-- a word with a mark behind it begins one
pub setter_named : (text : Text) → begins_word text ≡ true → begins_word (tree.setter_of text) ≡ true
setter_named [] h = h
setter_named (b ∷ bs) h = h

module _ (W : Point → Tree → Point → Type 0) (M : Point → Members → Point → Type 0) (I : Items → Point → Type 0) (kept : IsWalked W M I) where
  -- ---- lists of trees

  pub walks_on : (x y z : Point) (xs : List Tree) → Walks W x xs y → On y z → Walks W x xs z
  walks_on x y z [] g h = on_on x y z g h
  walks_on x y z (a ∷ more) g h = (g.0, (g.1.0, walks_on g.0 y z more g.1.1 h))

  pub walks_both : (x y z : Point) (xs ys : List Tree) → Walks W x xs y → Walks W y ys z → Walks W x (xs ++ ys) z
  walks_both x y z [] [] g h = on_on x y z g h
  walks_both x y z [] (a ∷ more) g h = (h.0, (kept.wider x y h.0 h.0 a g h.1.0 (stay h.0), h.1.1))
  walks_both x y z (a ∷ more) ys g h = (g.0, (g.1.0, walks_both g.0 y z more ys g.1.1 h))

  -- one tree, and one more
  pub one_walks : (x y : Point) (a : Tree) → W x a y → Walks W x (a ∷ []) y
  one_walks x y a g = (y, (g, stay y))

  pub walks_more : (x y z : Point) (found : List Tree) (a : Tree) → Walks W x found y → W y a z → Walks W x (found ++ a ∷ []) z
  walks_more x y z found a g h = walks_both x y z found (a ∷ []) g (one_walks y z a h)

  pub pieces_more : (x y z : Point) (found : List PieceTree) (a : Tree) → Walks W x (code_of found) y → W y a z → Walks W x (code_of (found ++ tree.code a ∷ [])) z
  pieces_more x y z [] a g h = (z, (kept.wider x y z z a g h (stay z), stay z))
  pieces_more x y z (tree.bytes text ∷ more) a g h = pieces_more x y z more a g h
  pieces_more x y z (tree.code b ∷ more) a g h = (g.0, (g.1.0, pieces_more g.0 y z more a g.1.1 h))

  pub pieces_bytes : (x y : Point) (found : List PieceTree) (text : Text) → Walks W x (code_of found) y → Walks W x (code_of (found ++ tree.bytes text ∷ [])) y
  pieces_bytes x y [] text g = g
  pieces_bytes x y (tree.bytes other ∷ more) text g = pieces_bytes x y more text g
  pieces_bytes x y (tree.code b ∷ more) text g = (g.0, (g.1.0, pieces_bytes g.0 y more text g.1.1))

  pub pairs_more : (x y z : Point) (found : List (Tree × Tree)) (ab : Tree × Tree) → Walks W x (flat found) y → PairIn W y ab z
      → Walks W x (flat (found ++ ab ∷ [])) z
  pairs_more x y z [] ab g h = (h.0, (kept.wider x y h.0 h.0 ab.0 g h.1.0 (stay h.0), (z, (h.1.1, stay z))))
  pairs_more x y z (ab ∷ more) cd g h = (g.0, (g.1.0, (g.1.1.0, (g.1.1.1.0, pairs_more g.1.1.0 y z more cd g.1.1.1.1 h))))

  -- ---- operands

  pub tree_of_in : (x y : Point) (o : Operand) → OperandIn W x o y → W x (tree_of o) y
  tree_of_in x y (p.value a) f = f
  tree_of_in x y (p.variable w) f = kept.of_local x y w f.0 f.1.0 f.1.1
  tree_of_in x y (p.bare w) f = kept.of_call x y w [] f.0 f.1
  tree_of_in x y (p.of_field w) f = kept.of_field x y w f.0 f.1
  tree_of_in x y (p.of_global w) f = kept.of_global x y w f.0 f.1
  tree_of_in x y (p.indexed a j at) f = kept.of_binary x f.0 y tree.index_name at a j f.1.0 f.1.1.0 f.1.1.1
  tree_of_in x y (p.member a w) f = kept.of_member x y y a w [] f.0 (stay y) f.1.1

  -- a target that may be there
  abbrev pub MayIn : Point → Option TargetTree → Point → Type 0
  MayIn x None y = Unit {0}
  MayIn x (Some target) y = TargetIn W x target y

  pub target_of_in : (x y : Point) (part : Part) → PartIn W x part y → MayIn x (target_of part) y
  target_of_in x y (p.plain (p.value a)) f = tt
  target_of_in x y (p.plain (p.variable w)) f = f.1.0
  target_of_in x y (p.plain (p.bare w)) f = f.0
  target_of_in x y (p.plain (p.of_field w)) f = f.0
  target_of_in x y (p.plain (p.of_global w)) f = f.0
  target_of_in x y (p.plain (p.indexed a j at)) f = (f.0, (f.1.0, f.1.1.0))
  target_of_in x y (p.plain (p.member a w)) f = (f.0, f.1.0)
  target_of_in x y (p.head h) f = tt

  pub target_on : (x y z : Point) (t : TargetTree) → TargetIn W x t y → On y z → TargetIn W x t z
  target_on x y z (tree.to_local w) f h = on_on x y z f h
  target_on x y z (tree.to_field w) f h = on_on x y z f h
  target_on x y z (tree.to_global w) f h = on_on x y z f h
  target_on x y z (tree.to_index r j at) f h = (f.0, (f.1.0, kept.wider f.0 f.0 y z j (stay f.0) f.1.1 h))
  target_on x y z (tree.to_attribute r w) f h = (kept.wider x x y z r (stay x) f.0 h, f.1)

  pub target_mono : (x y : Point) (t : TargetTree) → TargetIn W x t y → x.from ≤ y.from
  target_mono x y (tree.to_local w) f = f.1
  target_mono x y (tree.to_field w) f = f.1
  target_mono x y (tree.to_global w) f = f.1
  target_mono x y (tree.to_index r j at) f =
      let one = kept.mono x f.0 r f.1.0 in
      let two = kept.mono f.0 y j f.1.1 in
      omega (arith, one, two)
  target_mono x y (tree.to_attribute r w) f = kept.mono x y r f.0

  -- a tree up to a token and behind it
  pub later : (x y : Point) (t : Token) (a : Tree) → W x a y → y.from ≤ t.at.from → W x a (behind y t)
  later x y t a g l = kept.wider x x y (behind y t) a (stay x) g (step y y t (stay y) l)

  pub sooner : (x y : Point) (t : Token) (a : Tree) → W x a y → y.from ≤ t.at.from → W x a (before y t)
  sooner x y t a g l = kept.wider x x y (before y t) a (stay x) g (up_to y y t (stay y) l)

  pub keeps_operand : {A : Type 0} (P : A → Point → Type 0) (x y here : Point) (part : Part) (k : Tree → Rule A) → PartIn W x part y
      → ((a : Tree) → W x a y → Keeps W M I (k a) P here) → Keeps W M I (operand part k) P here
  keeps_operand P x y here (p.plain o) k f h = h (tree_of o) (tree_of_in x y o f)
  keeps_operand P x y here (p.head head) k f h = tt

  pub keeps_unless_head : (x here : Point) (part : Part) (r : Rule Part) → PartIn W x part here → Keeps W M I r (PartIn W x) here
      → Keeps W M I (unless_head part r) (PartIn W x) here
  keeps_unless_head x here (p.plain o) r f h = h
  keeps_unless_head x here (p.head head) r f h = f

  pub keeps_assigning : (x here : Point) (d : Bool) (part : Part) (target : Option TargetTree) → PartIn W x part here → MayIn x target here
      → Keeps W M I (assigning d part target) (PartIn W x) here
  keeps_assigning x here d part None f e = f
  keeps_assigning x here d part (Some target) f e = (
    λ t c. (
      changed (with_target target) (behind here t),
      (
        stay (changed (with_target target) (behind here t)),
        λ a there n s.
            let at = target_on x here (behind here t) target e (step here here t (stay here) c.after) in
            let within = here_within x here there t (target_mono x here target e) c.after n in (
              kept.of_assigned x (behind here t) there target t.at a at s within,
              kept.of_operated x (behind here t) there target (operator_of (class_of t.kind)) t.at a at s within,
            ),
      ),
    ),
    f,
  )

  -- ---- operators

  pub keeps_joined : {A : Type 0} (P : A → Point → Type 0) (x y here : Point) (tier : Tier) (t : Token) (a b : Tree) (k : Tree → Rule A)
      → W x a y → W y b here → Within x t.at here → ((c : Tree) → W x c here → Keeps W M I (k c) P here) → Keeps W M I (joined tier t a b k) P here
  keeps_joined P x y here or_tier t a b k f g w h = h (tree.or_else t.at a b) (kept.of_or x y here t.at a b f g w)
  keeps_joined P x y here and_tier t a b k f g w h = h (tree.and_also t.at a b) (kept.of_and x y here t.at a b f g w)
  keeps_joined P x y here equal_tier t a b k f g w h =
      let equal : Tree = tree.binary (codes "==") t.at a b in
      let e : W x equal here = kept.of_binary x y here (codes "==") t.at a b f g w in
      (h (tree.negated t.at equal) (kept.of_negated x here t.at equal e w), h equal e)
  keeps_joined P x y here tier t a b k f g w h =
      h (tree.binary (operator_name (class_of t.kind)) t.at a b) (kept.of_binary x y here (operator_name (class_of t.kind)) t.at a b f g w)

  pub keeps_chained : (x here : Point) (d : Bool) (tier : Tier) (a : Tree) → W x a here → Keeps W M I (chained d tier a) (PartIn W x) here
  keeps_chained x here d equal_tier a f = f
  keeps_chained x here d tier a f = (x, (f, λ v there n h. h))

  -- ---- conditions

  pub keeps_decided : {A : Type 0} (P : A → Point → Type 0) (x here : Point) (t : Token) (a : Tree) (k : Tree → Rule A) → W x a here → Within x t.at here
      → ((c : Tree) → W x c here → Keeps W M I (k c) P here) → Keeps W M I (decided t a k) P here
  keeps_decided P x here t a k f w h = (h (tree.negated t.at a) (kept.of_negated x here t.at a f w), h a f)

  pub keeps_modify : (x y here : Point) (t : Token) (a condition : Tree) → W x a y → y.from ≤ t.at.from → W y condition here → Within x t.at here
      → Keeps W M I (modify t a condition) (W x) here
  keeps_modify x y here t a condition f l g w = (
    (x, (kept.of_loop_behind x y here t.at a condition f l g w, λ v there n h. h)),
    (x, (kept.of_choice_behind x y here t.at a condition f l g w, λ v there n h. h)),
  )

  pub keeps_chosen : {A : Type 0} (P : A → Point → Type 0) (x here : Point) (may_go_on : Bool) (t : Token) (condition : Tree) (k : Tree → Rule A)
      → W x condition here → Within x t.at here
      → ((c : Tree) (there : Point) → W x c there → Keeps W M I (k c) P there) → Keeps W M I (chosen may_go_on t condition k) P here
  keeps_chosen P x here may_go_on t condition k f w h = (
    here,
    (
      stay here,
      λ o begun l u. (
        begun,
        (
          stay begun,
          λ xs middle m s. (
            middle,
            (
              stay middle,
              λ ys there n r.
                  let word : t.at.from < here.from = w.below in
                  let wide = within_on x here there t.at w (omega arith) in
                  h (tree.choice t.at condition xs ys) there (kept.of_choice x begun middle there t.at condition xs ys
                  (kept.wider x x here begun condition (stay x) f u) (omega arith) s r wide),
            ),
          ),
        ),
      ),
    ),
  )

  pub keeps_looped : (x here : Point) (t : Token) (condition : Tree) → W x condition here → Within x t.at here → Keeps W M I (looped t condition) (W x) here
  keeps_looped x here t condition f w = λ o c. (
    behind here o,
    (
      stay (behind here o),
      λ xs there n s e c'.
          let word : t.at.from < here.from = w.below in
          let after : here.from ≤ o.at.from = c.after in
          let after' : there.from ≤ e.at.from = c'.after in
          let wide = within_on x here (behind there e) t.at w (omega arith) in
          kept.of_loop x (behind here o) (behind there e) t.at condition xs (later x here o condition f c.after) (omega arith)
          (walks_on (behind here o) there (behind there e) xs s (step there there e (stay there) c'.after)) wide,
    ),
  )

  -- ---- blocks and calls

  pub keeps_with_block : {A : Type 0} (P : A → Point → Type 0) (here : Point) (d : Bool) (k : BlockTree → Rule A) (without : Rule A)
      → ((b : BlockTree) (there : Point) → here.from ≤ there.from → BlockIn W here b there → Keeps W M I (k b) P there) → Keeps W M I without P here
      → Keeps W M I (with_block d k without) P here
  keeps_with_block P here d k without h w =
      let opened = λ (t : Token) (l : here.from ≤ t.at.from) (b : BlockTree) (there : Point) (n : suc t.at.from ≤ there.from) (s : BlockIn W here b there).
      h b there (omega arith) s in (
        λ t c. (here, (step here here t (stay here) c.after, opened t c.after)),
        (λ t c. (here, (step here here t (stay here) c.after, opened t c.after)), w),
      )

  pub keeps_with_block_of : {A : Type 0} (P : A → Point → Type 0) (here : Point) (text : Text) (d : Bool) (k : BlockTree → Rule A) (without : Rule A)
      → ((b : BlockTree) (there : Point) → here.from ≤ there.from → BlockIn W here b there → Keeps W M I (k b) P there) → Keeps W M I without P here
      → Keeps W M I (with_block_of text d k without) P here
  keeps_with_block_of P here text d k without h w = (keeps_with_block P here d k without h w, w)

  pub keeps_going_on : (x here : Point) (d : Bool) (a : Tree) → W x a here → Keeps W M I (going_on d a) (PartIn W x) here
  keeps_going_on x here d a f = (x, (f, λ v there n h. h))

  pub keeps_plain_member : (x here : Point) (d : Bool) (a : Tree) (w : Word) → W x a here → IsNamed w → Within x w.at here
      → Keeps W M I (plain_member d a w) (PartIn W x) here
  keeps_plain_member x here d a w f is within = (
    (f, within),
    (
      keeps_going_on x here d (tree.call (Some a) w []) (kept.of_member x here here a w [] f (stay here) within),
      (x, ((f, (is, within)), λ v there n h. h)),
    ),
  )

  pub keeps_plain_name : (x here : Point) (w : Word) → x.scopes ≡ here.scopes → On x here → Within x w.at here → Keeps W M I (plain_name w) (PartIn W x) here
  keeps_plain_name x here w same on within =
      (λ is. (ap (is_local w.text) same ∙ is, (on, within)), ((on, within), (kept.of_call x here w [] on within, (on, within))))

  pub keeps_called : (x here : Point) (d : Bool) (a : Tree) (w : Word) → W x a here → IsNamed w → Within x w.at here → Keeps W M I (called d a w) (PartIn W x) here
  keeps_called x here d a w f is within = (
    λ o c. (
      here,
      (
        step here here o (stay here) c.after,
        λ args there n s.
            let after : here.from ≤ o.at.from = c.after in
            let wide = within_on x here there w.at within (omega arith) in
            keeps_with_block_of (PartIn W x) there w.text d (λ b. going_on d (tree.call_with_block a w args b)) (going_on d (tree.call (Some a) w args))
            (λ b last m r. keeps_going_on x last d (tree.call_with_block a w args b)
            (kept.of_block_call x here there last a w args b f s r (within_on x there last w.at wide m)))
            (keeps_going_on x there d (tree.call (Some a) w args) (kept.of_member x here there a w args f s wide)),
      ),
    ),
    keeps_with_block_of (PartIn W x) here w.text d (λ b. going_on d (tree.call_with_block a w [] b)) (plain_member d a w)
        (λ b last m r. keeps_going_on x last d (tree.call_with_block a w [] b)
        (kept.of_block_call x here here last a w [] b f (stay here) r (within_on x here last w.at within m)))
        (keeps_plain_member x here d a w f is within),
  )

  pub keeps_thread : (x here : Point) (d : Bool) (t : Token) → On x here → Within x t.at here → Keeps W M I (thread d t) (PartIn W x) here
  keeps_thread x here d t g w = (
    λ o c. (
      here,
      (
        step here here o (stay here) c.after,
        λ args there n s.
            keeps_with_block (PartIn W x) there d (λ b. made (tree.thread_new t.at args b)) refuse
            (λ b last m r. kept.of_thread x here there last t.at args b g w s r) tt,
      ),
    ),
    keeps_with_block (PartIn W x) here d (λ b. made (tree.thread_new t.at [] b)) refuse
        (λ b last m r. kept.of_thread x here here last t.at [] b g w (stay here) r) tt,
  )

  pub keeps_object : (x here : Point) (class : Word) (t : Token) → On x here → Within x t.at here → Keeps W M I (object class t) (PartIn W x) here
  keeps_object x here class t g w = (
    λ o c. (
      x,
      (
        step x here o g c.after,
        λ args there n s.
            let after : here.from ≤ o.at.from = c.after in
            kept.of_new x there class t.at args s (within_on x here there t.at w (omega arith)),
      ),
    ),
    ((g, w), kept.of_new x here class t.at [] g w),
  )

  pub keeps_commanded : (x here : Point) (part : Part) → PartIn W x part here → Keeps W M I (commanded part) (W x) here
  keeps_commanded x here (p.head (p.of_call None w)) f =
      (x, (f.0, λ args there n s. kept.of_call x there w args s (within_on x here there w.at f.1 n)))
  keeps_commanded x here (p.head (p.of_call (Some a) w)) f =
      (here, (stay here, λ args there n s. kept.of_member x here there a w args f.0 s (within_on x here there w.at f.1 n)))
  keeps_commanded x here (p.head (p.of_new class at)) f =
      (x, (f.0, λ args there n s. kept.of_new x there class at args s (within_on x here there at f.1 n)))
  keeps_commanded x here (p.plain o) f = keeps_operand (W x) x here here (p.plain o) done f (λ a g. g)

  pub keeps_opposite : (x here : Point) (d : Bool) (t : Token) → On x here → x.from ≤ t.at.from → suc t.at.from ≤ here.from
      → Keeps W M I (nested t.at (p.unary d) (λ part. operand part (λ a. made (tree.minus t.at a)))) (PartIn W x) here
  keeps_opposite x here d t g l m = (
    x,
    (
      g,
      λ part there n e. keeps_operand (PartIn W x) x there there part (λ a. made (tree.minus t.at a)) e (λ a f.
          kept.of_minus x there t.at a f (record { above = l; below = omega arith })),
    ),
  )

  -- a body in a scope that is left
  pub body_in : (x y : Point) (ws : List Word) (xs : List Tree) (e : Token) → Walks W (changed (with_params ws) x) xs y → y.from ≤ e.at.from
      → BodyIn W x ws xs (changed leave (behind y e))
  body_in x y ws xs e h l = record { last = y; walks = h; left = refl; on = omega arith }
