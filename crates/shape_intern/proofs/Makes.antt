-- A shape whose words are laid is the one that is made.
use Rattle.std.proofs.Common.{◌≡◌, ◌≤◌, ◌<◌, ℕ, ◌+◌, true, List, [], ◌∷◌, ◌++◌, length, drop, get_or, refl, sym, ap, ◌∙◌, subst, inl, arith}
use Rattle.rb_shared.specs.Lists.{Has}
use Rattle.shape_core.specs.declared.edge.Edge.{Edge}
use Rattle.shape_core.specs.declared.edge.Edge.TheVariants.{Add, Widen, Share}
use Rattle.shape_core.specs.declared.edge.Kind.TheVariants.{IntLoc, AnyLoc}
use Rattle.shape_core.specs.Path.{Path, is_shared}
use Rattle.shape_core.specs.Shape.{Shape}
use Rattle.heap_core.specs.Handing.{Plan}
use Rattle.heap_core.specs.Telling.{MayStore}
use Rattle.heap_core.proofs.Growing.{link_within, makes_shape}
use Rattle.heap_core.specs.Blocks.{Block, ShapeAt, Inside}
use Rattle.heap_core.specs.Fixed.{edge_of}
use Rattle.heap_core.specs.Growing.{LeadsUp, MakesShape, blocks_of, shape_block}
use Rattle.heap_core.specs.Links.{IsTree}
use Rattle.heap_core.specs.Places.{shape_words}
use Rattle.heap_core.specs.Shapes.{edge_word, flagged, parent_of}
use Rattle.heap_core.specs.View.{Holder, HasTree, Knows, Region, with_shape}
use Rattle.shape_intern.specs.Interning.{HasRoom, IsWanted, Makes, MayMake, behind_shape, with_own}
use Rattle.shape_intern.specs.Walks.{Ends, KnowsTree}
use Rattle.shape_intern.proofs.Edges.{one_edge}

-- words with another behind
word_at : (i : ℕ) (ws vs : List ℕ) → ws ≡ vs → get_or ws i 0 ≡ get_or vs i 0
word_at i ws vs e = ap (λ l. get_or l i 0) e

edge_some : (e : Edge) → edge_word e ≡ 0 → ⊥
edge_some (Add n IntLoc) z = omega (arith, z)
edge_some (Add n AnyLoc) z = omega (arith, z)
edge_some (Widen n) z = omega (arith, z)
edge_some Share z = omega (arith, z)

-- the words of a shape are those of no other
one_path : (size : ℕ) (bs : List Block) → IsTree size bs → (class other parent : ℕ) (path way : Path) → LeadsUp bs (parent_of (record { class = class; path = path })) parent → LeadsUp bs (parent_of (record { class = other; path = way })) parent
    → edge_of path ≡ edge_of way → flagged class (is_shared path) ≡ flagged other (is_shared way) → ◌≡◌ {A = Shape} (record { class = class; path = path }) (record { class = other; path = way })
one_path size bs t class other parent [] [] up also e f = ap (λ (n : ℕ). record { class = n; path = [] }) (let z : class ≡ other = omega (arith, f) in z)
one_path size bs t class other parent [] (b ∷ way) up also e f = absurd (edge_some b (sym e))
one_path size bs t class other parent (a ∷ path) [] up also e f = absurd (edge_some a e)
one_path size bs t class other parent (a ∷ path) (b ∷ way) up also e f =
    let same : record { class = class; path = path } ≡ record { class = other; path = way } = t.one_at (record { class = class; path = path }) (record { class = other; path = way }) parent up also in
    ap (λ (s : Shape). record { class = s.class; path = a ∷ s.path }) same ∙ ap (λ (x : Edge). record { class = other; path = x ∷ way }) (one_edge a b e)

one_shape : (size : ℕ) (bs : List Block) → IsTree size bs → (shape other : Shape) (p q : ℕ) (l m : List ℕ) → LeadsUp bs (parent_of shape) p → LeadsUp bs (parent_of other) q → shape_block shape p ++ l ≡ shape_block other q ++ m → shape ≡ other
one_shape size bs t shape other p q l m up also e =
    let parents : p ≡ q = word_at 1 (shape_block shape p ++ l) (shape_block other q ++ m) e in
    one_path size bs t shape.class other.class p shape.path other.path up (subst (LeadsUp bs (parent_of other)) (sym parents) also) (word_at 2 (shape_block shape p ++ l) (shape_block other q ++ m) e) (word_at 0 (shape_block shape p ++ l) (shape_block other q ++ m) e)

module _ (k : Holder) (link at : ℕ) (words : List ℕ) (room : HasRoom k at) where
  -- the pass with the words laid
  abbrev pub laid : Holder
  laid = with_own k at (words ++ drop (length words) room.0)

  -- the shape may be made
  pub may_make : (shape : Shape) → HasTree k → IsWanted k link words shape → MayMake laid link at
  may_make shape has w =
      let ends = w.2 in (
        record { shape = shape; home = ends.1.0; link = link; to = at; number = ends.1.2; left = drop (length words) room.0 },
        refl,
        refl,
        (
          ends.1.1,
          w.0,
          record {
            has = has;
            home = ends.1.3;
            joins = ends.1.4 shape refl;
            ends = ends.0;
            missing = w.1;
            up = w.4;
            narrow = w.3;
            legal = w.6;
            laid = ap (λ ws. record { at = at; words = ws ++ drop (length words) room.0 } ∷ []) w.5;
          },
        ),
      )

  -- and it is the one that is made
  pub it_makes : (shape : Shape) (w : IsWanted k link words shape) (after : Holder) → KnowsTree k → MakesShape (ShapeAt w.2.1.1 w.2.1.0) link at 0 laid at after → Makes shape at k after
  it_makes shape w after t made =
      let g = made.0 in
      let grows = made.2.2 in
      let all : (words ++ drop (length words) room.0) ≡ shape_block g.shape made.2.1 ++ g.left = words_is (sym refl ∙ grows.laid) in
      let same : shape ≡ g.shape = one_shape k.size k.blocks t shape g.shape w.0 made.2.1 (drop (length words) room.0) g.left w.4 grows.up (ap (λ l. l ++ drop (length words) room.0) (sym w.5) ∙ all) in
      let left : drop 7 room.0 ≡ g.left = ap (λ n. drop n room.0) (let z : 7 ≡ length words = sym (ap length w.5) in z) ∙ (ap (λ l. drop 7 l) (ap (λ l. l ++ drop (length words) room.0) (sym w.5) ∙ all)) in (
        blocks_of g,
        subst (λ (x : Block). Has (blocks_of g) x) (ap (λ s. ShapeAt s g.to) (sym same) ∙ ap (ShapeAt shape) made.1) (inl refl),
        made.3 ∙ (ap (λ s. with_shape k (record { at = g.to + shape_words; words = g.left } ∷ []) s (blocks_of g)) (sym same)
            ∙ (ap (λ n. with_shape k (record { at = n + shape_words; words = g.left } ∷ []) shape (blocks_of g)) made.1
            ∙ (ap (λ l. with_shape k (record { at = at + shape_words; words = l } ∷ []) shape (blocks_of g)) (sym left)
            ∙ ap (λ os. with_shape k (behind_shape os) shape (blocks_of g)) (sym room.1)))),
      )
    where
      first_words : List Region → List ℕ
      first_words [] = []
      first_words (o ∷ os) = o.words

      words_is : {a b : List Region} → a ≡ b → first_words a ≡ first_words b
      words_is e = ap first_words e

-- where it is stored
pub grow_inside : (k : Holder) (link to : ℕ) → MayMake k link to → (b : Block) × Knows k b × Inside link b
grow_inside k link to m =
    let in_home = link_within k.blocks m.3.0 m.0.shape m.0.home m.0.link m.0.number m.3.2.joins in
    (ShapeAt m.3.0 m.0.home, m.3.2.home, subst (λ x. Inside x (ShapeAt m.3.0 m.0.home)) m.1 (in_home.0, in_home.1))

-- the law allows it
pub grow_allowed : (plan : Plan) (count id : ℕ) (k : Holder) (link to : ℕ) → k.live ≡ true → MayMake k link to → MayStore MakesShape plan count id k link to
grow_allowed plan count id k link to live m =
    subst (λ x. MayStore MakesShape plan count id k x to) m.1 (subst (λ x. MayStore MakesShape plan count id k m.0.link x) m.2 (makes_shape plan count id k m.3.0 m.3.1 m.0 live m.3.2))

-- the link word of a row's end is one of the shape behind which it ends
pub end_within : (bs : List Block) (shape : Shape) (link : ℕ) (e : Ends bs (parent_of shape) link) → (e.1.0 ≤ link) × (link < e.1.0 + 7)
end_within bs shape link e = let in_home = link_within bs e.1.1 shape e.1.0 link e.1.2 (e.1.4 shape refl) in (in_home.0, in_home.1)
