-- Each node has code where its events are good, nothing in it is missing, and its attributes have words for their names.
use Rattle.std.proofs.Common.{◌≡◌, ◌∙◌, refl, ap, sym, subst, ℕ, zero, suc, max, ◌<◌, Bool, true, false, cond, List, [], ◌∷◌, ◌++◌, Option, Some, None, map, rules, arith}
use Rattle.std.specs.Prelude.{◌&&◌, not, is_some, nat_lt}
use Rattle.std.specs.Option.{option_map}
use Rattle.std.proofs.lemmas.Bool.{and_parts}
use Rattle.rb_tree.specs.declared.span.Span.{Span}
use Rattle.rb_tree.specs.declared.span.NameId.{NameId}
use Rattle.rb_tree.specs.declared.node.AssignOp.{AssignOp}
use Rattle.rb_tree.specs.declared.node.Node.{Node, out-Node, the_lemmas}
use Rattle.rb_tree.specs.declared.node.Node.TheVariants as node
use Rattle.rb_tree.specs.declared.node.Node.TheOpen as out
use Rattle.rb_tree.specs.declared.node.Node.TheOpen.{Piece-F, Target-F}
use Rattle.rb_tree.specs.declared.node.Piece.{Piece, out-Piece, roll-Piece, roll-out-Piece}
use Rattle.rb_tree.specs.declared.node.Piece.TheVariants as piece
use Rattle.rb_tree.specs.declared.node.Target.{Target, out-Target}
use Rattle.rb_tree.specs.declared.node.Target.TheVariants as target
use Rattle.rb_tree.specs.declared.node.Block.{Block, out-Block}
use Rattle.rb_tree.specs.declared.node.Param.{Param}
use Rattle.rb_tree.specs.declared.node.Class.{Class}
use Rattle.rb_tree.specs.Layer.{NodeLayer}
use Rattle.rb_tree.specs.Place.{place}
use Rattle.rb_tree.specs.Height.{height, highest, highest_pair, or_none, pair_heights, piece_height, target_height, block_height}
use Rattle.rb_tree.proofs.Heights as high
use Rattle.rb_checker.specs.declared.event.Event.{Event}
use Rattle.rb_checker.specs.declared.event.Sight.{Sight}
use Rattle.rb_checker.specs.declared.event.Sight.TheVariants as sight
use Rattle.rb_checker.specs.declared.event.Around.TheVariants as around
use Rattle.rb_checker.specs.Events.{Part, event, inside, pairs_of, pieces_of, is_behind, in_order, params_of, receiver_step, called_block, part_of, block_part, piece_events, target_events, events_of, events_of_all, pair_parts}
use Rattle.rb_checker.specs.Events as events
use Rattle.rb_checker.specs.Locals.{Use}
use Rattle.rb_checker.specs.Scoped.{names_in}
use Rattle.rb_checker.proofs.Parts as part
use Rattle.rb_accepted.specs.Unbuilt.{Found, earlier, first_of, in_any, here, is_call, is_built_class, text_of, found_in, found_in_all, found_in_pair, found_in_piece, found_in_target, found_in_block}
use Rattle.rb_accepted.specs.Coded.{begins_word, is_seen, every, if_some, coded, piece_is_coded, target_is_coded, block_is_coded, body_is_coded}
use Rattle.rb_accepted.proofs.Layers as layer
use Rattle.rb_accepted.proofs.Codes as code
use Rattle.rb_accepted.proofs.Wording as word
use Rattle.rb_accepted.proofs.Seen.{all_true, if_there, worded, all_worded, piece_is_worded, target_is_worded, block_is_worded}
use Rattle.rb_accepted.proofs.Framed.{IsPlain, Makes, makes_by, makes_nothing, makes_single, makes_both, makes_swapped, makes_loop, makes_block, makes_start, makes_behind, makes_assigned}

-- where nothing is found in two parts, nothing is in either
pub parts_none : (x y : Found) → earlier x y ≡ None → (x ≡ None) × (y ≡ None)
parts_none None y e = (refl, e)
parts_none (Some one) None e = absurd (cc)
parts_none (Some one) (Some other) e = absurd (by (nat_lt other.from one.from) e)
  where
    by : (b : Bool) → cond b (Some other) (Some one) ≡ None → ⊥
    by true h = cc
    by false h = cc

-- where no place is found, that for which it is looked is not so
not_here : (b : Bool) (at : Span) → here b at ≡ None → not b ≡ true
not_here true at e = absurd (cc)
not_here false at e = refl

-- where no place is found, what is looked for is there
is_so : (b : Bool) (at : Span) → here (not b) at ≡ None → b ≡ true
is_so true at e = refl
is_so false at e = absurd (cc)

-- of three tests, it does not matter which two are taken first
and_associates : (a b c : Bool) → ((a && b) && c) ≡ (a && (b && c))
and_associates true b c = refl
and_associates false b c = refl

-- In a script with these texts of names and these classes, whose threads capture these names, and with all uses of locals.
module _ (names : List (List ℕ)) (classes : List Class) (captured : ℕ → List NameId) (uses : List Use) where
  abbrev pub block_names : Span → List NameId
  block_names at = names_in uses (Some at.from)

  abbrev codes : Node → List NameId → Bool
  codes n = coded names classes block_names captured n

  abbrev all_codes : List Node → List NameId → Bool
  all_codes ns = body_is_coded names classes block_names captured ns

  -- a node makes events and code, and statements do
  abbrev pub NodeMakes : Node → Type 0
  NodeMakes n = Makes captured uses (λ b. events_of b n) (λ scope. codes n scope)

  abbrev pub AllMake : List Node → Type 0
  AllMake ns = Makes captured uses (λ b. events_of_all b ns) (λ scope. all_codes ns scope)

  -- parameters have nothing to find
  pub params_make : (ps : List Param) → Makes captured uses (λ b. params_of ps) (λ scope. true)
  params_make [] = makes_nothing captured uses
  params_make (p ∷ ps) = makes_behind captured uses (sight.Param p.name) p.at (λ b. params_of ps) (λ scope. true) tt (params_make ps)

  -- nodes that are not so high
  module _ (k : ℕ) (makes : (n : Node) → height n < k → found_in names classes n ≡ None → worded names n ≡ true → NodeMakes n) where
    abbrev IsMade : Node → Type 0
    IsMade n = height n < suc k → found_in names classes n ≡ None → worded names n ≡ true → NodeMakes n

    -- statements, one behind the other
    pub all_make : (ns : List Node) → highest (map height ns) < k → found_in_all names classes ns ≡ None → all_worded names ns ≡ true → AllMake ns
    all_make [] low found words = makes_nothing captured uses
    all_make (n ∷ ns) low found words =
        let f = parts_none (found_in names classes n) (found_in_all names classes ns) found in
        let w = and_parts (worded names n) (all_worded names ns) words in
        makes_both captured uses (λ b. events_of b n) (λ b. events_of_all b ns) (λ scope. codes n scope) (λ scope. all_codes ns scope)
        (makes n (omega (arith, low)) f.0 w.0) (all_make ns (omega (arith, low)) f.1 w.1)

    -- a condition and a body, in either order
    order_makes : (at : Span) (c : Node) (body : List Node) → NodeMakes c → AllMake body
        → Makes captured uses (λ b. in_order at (events_of b c) (map (part_of b) body)) (λ scope. codes c scope && all_codes body scope)
    order_makes at c body m n = by (is_behind at (map (λ x. place (out-Node x)) body)) refl
      where
        by : (answer : Bool) → is_behind at (map (λ x. place (out-Node x)) body) ≡ answer
            → Makes captured uses (λ b. in_order at (events_of b c) (map (part_of b) body)) (λ scope. codes c scope && all_codes body scope)
        by true e =
            makes_by captured uses (λ b. part.body_first b at (events_of b c) body refl refl e) (λ scope. refl)
            (makes_swapped captured uses (λ b. events_of b c) (λ b. events_of_all b body) (λ scope. codes c scope) (λ scope. all_codes body scope) m n)
        by false e =
            makes_by captured uses (λ b. part.condition_first b at (events_of b c) body refl refl e) (λ scope. refl)
            (makes_both captured uses (λ b. events_of b c) (λ b. events_of_all b body) (λ scope. codes c scope) (λ scope. all_codes body scope) m n)

    -- ---- leaves

    -- a node without events, and one of a single event that says nothing of locals
    leaf : (n : Node) → ((b : ℕ → List Event) → events_of b n ≡ []) → ((scope : List NameId) → codes n scope ≡ true) → NodeMakes n
    leaf n e h = makes_by captured uses e h (makes_nothing captured uses)

    one : (n : Node) (s : Sight) (at : Span) → IsPlain s → ((b : ℕ → List Event) → events_of b n ≡ event s at ∷ []) → ((scope : List NameId) → codes n scope ≡ true) → NodeMakes n
    one n s at plain e h = makes_by captured uses e h (makes_single captured uses s at (λ scope. true) plain (λ own round good. refl))

    local_makes : (name : NameId) (at : Span) → NodeMakes (node.Local name at)
    local_makes name at =
        makes_by captured uses (λ b. part.events-local b name at) (λ scope. code.coded-local names classes block_names captured scope name at)
        (makes_single captured uses (sight.Reads name) at (is_seen name) tt (λ own round good. good))

    -- ---- two nodes

    two_make : (x y : Node) → height x < k → height y < k → (found_in names classes x ≡ None) × (found_in names classes y ≡ None)
        → (worded names x ≡ true) × (worded names y ≡ true)
        → Makes captured uses (λ b. events_of b x ++ events_of b y) (λ scope. codes x scope && codes y scope)
    two_make x y lx ly f w =
        makes_both captured uses (λ b. events_of b x) (λ b. events_of b y) (λ scope. codes x scope) (λ scope. codes y scope) (makes x lx f.0 w.0) (makes y ly f.1 w.1)

    and_made : (x y : Node) (at : Span) → IsMade (node.And x y at)
    and_made x y at low found words =
        let f = parts_none (found_in names classes x) (found_in names classes y) (sym (layer.found-and names classes x y at) ∙ found) in
        let w = and_parts (worded names x) (worded names y) (sym (word.worded-and names x y at) ∙ words) in
        let h : suc (max (height x) (height y)) < suc k = subst (λ m. m < suc k) (high.height-and x y at) low in
        makes_by captured uses (λ b. part.events-and b x y at) (λ scope. code.coded-and names classes block_names captured scope x y at)
        (two_make x y (omega (arith, h)) (omega (arith, h)) f w)

    or_made : (x y : Node) (at : Span) → IsMade (node.Or x y at)
    or_made x y at low found words =
        let f = parts_none (found_in names classes x) (found_in names classes y) (sym (layer.found-or names classes x y at) ∙ found) in
        let w = and_parts (worded names x) (worded names y) (sym (word.worded-or names x y at) ∙ words) in
        let h : suc (max (height x) (height y)) < suc k = subst (λ m. m < suc k) (high.height-or x y at) low in
        makes_by captured uses (λ b. part.events-or b x y at) (λ scope. code.coded-or names classes block_names captured scope x y at)
        (two_make x y (omega (arith, h)) (omega (arith, h)) f w)

    not_made : (x : Node) (at : Span) → IsMade (node.Not x at)
    not_made x at low found words =
        let h : suc (height x) < suc k = subst (λ m. m < suc k) (high.height-not x at) low in
        makes_by captured uses (λ b. part.events-not b x at) (λ scope. code.coded-not names classes block_names captured scope x at)
        (makes x (omega (arith, h)) (sym (layer.found-not names classes x at) ∙ found) (sym (word.worded-not names x at) ∙ words))

    -- ---- choices and loops

    if_made : (c : Node) (first second : List Node) (at : Span) → IsMade (node.If c first second at)
    if_made c first second at low found words =
        let f = parts_none (found_in names classes c) (earlier (found_in_all names classes first) (found_in_all names classes second)) (sym (layer.found-if names classes c first second at) ∙ found) in
        let g = parts_none (found_in_all names classes first) (found_in_all names classes second) f.1 in
        let w = and_parts (worded names c) (all_worded names first && all_worded names second) (sym (word.worded-if names c first second at) ∙ words) in
        let v = and_parts (all_worded names first) (all_worded names second) w.1 in
        let h : suc (max (height c) (max (highest (map height first)) (highest (map height second)))) < suc k = subst (λ m. m < suc k) (high.height-if c first second at) low in
        makes_by captured uses (λ b. part.events-if b c first second at)
        (λ scope. code.coded-if names classes block_names captured scope c first second at ∙ sym (and_associates (codes c scope) (all_codes first scope) (all_codes second scope)))
        (makes_both captured uses (λ b. in_order at (events_of b c) (map (part_of b) first)) (λ b. events_of_all b second)
        (λ scope. codes c scope && all_codes first scope) (λ scope. all_codes second scope)
        (order_makes at c first (makes c (omega (arith, h)) f.0 w.0) (all_make first (omega (arith, h)) g.0 v.0))
        (all_make second (omega (arith, h)) g.1 v.1))

    while_made : (c : Node) (body : List Node) (at : Span) → IsMade (node.While c body at)
    while_made c body at low found words =
        let f = parts_none (found_in names classes c) (found_in_all names classes body) (sym (layer.found-while names classes c body at) ∙ found) in
        let w = and_parts (worded names c) (all_worded names body) (sym (word.worded-while names c body at) ∙ words) in
        let h : suc (max (height c) (highest (map height body))) < suc k = subst (λ m. m < suc k) (high.height-while c body at) low in
        makes_by captured uses (λ b. part.events-while b c body at) (λ scope. code.coded-while names classes block_names captured scope c body at)
        (makes_loop captured uses at (λ b. in_order at (events_of b c) (map (part_of b) body)) (λ scope. codes c scope && all_codes body scope)
        (order_makes at c body (makes c (omega (arith, h)) f.0 w.0) (all_make body (omega (arith, h)) f.1 w.1)))

    -- ---- values in others

    array_made : (items : List Node) (at : Span) → IsMade (node.Array items at)
    array_made items at low found words =
        let h : suc (highest (map height items)) < suc k = subst (λ m. m < suc k) (high.height-array items at) low in
        makes_by captured uses (λ b. part.events-array b items at) (λ scope. code.coded-array names classes block_names captured scope items at)
        (all_make items (omega (arith, h)) (sym (layer.found-array names classes items at) ∙ found) (sym (word.worded-array names items at) ∙ words))

    pairs_make : (ps : List (Node × Node)) → highest_pair (map pair_heights ps) < k → first_of (map (found_in_pair names classes) ps) ≡ None → all_true (map (word.pair_is_worded names) ps) ≡ true
        → Makes captured uses (λ b. pairs_of (map (pair_parts b) ps)) (λ scope. every (map (code.pair_has names classes block_names captured scope) ps) scope)
    pairs_make [] low found words = makes_nothing captured uses
    pairs_make (p ∷ ps) low found words =
        let f = parts_none (earlier (found_in names classes p.0) (found_in names classes p.1)) (first_of (map (found_in_pair names classes) ps)) found in
        let g = parts_none (found_in names classes p.0) (found_in names classes p.1) f.0 in
        let w = and_parts (worded names p.0 && worded names p.1) (all_true (map (word.pair_is_worded names) ps)) words in
        let v = and_parts (worded names p.0) (worded names p.1) w.0 in
        let h : max (max (height p.0) (height p.1)) (highest_pair (map pair_heights ps)) < k = low in
        makes_both captured uses (λ b. events_of b p.0 ++ events_of b p.1) (λ b. pairs_of (map (pair_parts b) ps))
        (λ scope. codes p.0 scope && codes p.1 scope) (λ scope. every (map (code.pair_has names classes block_names captured scope) ps) scope)
        (two_make p.0 p.1 (omega (arith, h)) (omega (arith, h)) g v)
        (pairs_make ps (omega (arith, h)) f.1 w.1)

    hash_made : (ps : List (Node × Node)) (at : Span) → IsMade (node.Hash ps at)
    hash_made ps at low found words =
        let h : suc (highest_pair (map pair_heights ps)) < suc k = subst (λ m. m < suc k) (high.height-hash ps at) low in
        makes_by captured uses (λ b. part.events-hash b ps at) (λ scope. code.coded-hash names classes block_names captured scope ps at)
        (pairs_make ps (omega (arith, h)) (sym (layer.found-hash names classes ps at) ∙ found) (sym (word.worded-hash names ps at) ∙ words))

    piece_makes : (p : Piece) → piece_height p < k → found_in_piece names classes p ≡ None → piece_is_worded names p ≡ true
        → Makes captured uses (λ b. piece_events b p) (λ scope. piece_is_coded names classes block_names captured p scope)
    piece_makes p low found words = by (out-Piece p) refl low found words
      where
        Goal : Piece → Type 0
        Goal q = piece_height q < k → found_in_piece names classes q ≡ None → piece_is_worded names q ≡ true
            → Makes captured uses (λ b. piece_events b q) (λ scope. piece_is_coded names classes block_names captured q scope)

        of_text : (text : List ℕ) → Goal (piece.Text text)
        of_text text l f w =
            makes_by captured uses (λ b. part.piece-text b text) (λ scope. code.coded-piece_text names classes block_names captured scope text) (makes_nothing captured uses)

        of_code : (n : Node) → Goal (piece.Code n)
        of_code n l f w =
            let h : height n < k = subst (λ m. m < k) (high.piece_height-code n) l in
            makes_by captured uses (λ b. part.piece-code b n) (λ scope. code.coded-piece_code names classes block_names captured scope n)
            (makes n h (sym (layer.piece-code names classes n) ∙ f) (sym (word.worded-piece_code names n) ∙ w))

        by : (l : Piece-F Node Piece Target Block) → out-Piece p ≡ l → Goal p
        by (out.Text text) e = let same : p ≡ piece.Text text = sym (roll-out-Piece p) ∙ ap roll-Piece e ∙ piece.rolls-Text text in subst Goal (sym same) (of_text text)
        by (out.Code n) e = let same : p ≡ piece.Code n = sym (roll-out-Piece p) ∙ ap roll-Piece e ∙ piece.rolls-Code n in subst Goal (sym same) (of_code n)

    pieces_make : (ps : List Piece) → highest (map piece_height ps) < k → first_of (map (found_in_piece names classes) ps) ≡ None → all_true (map (piece_is_worded names) ps) ≡ true
        → Makes captured uses (λ b. pieces_of (map (piece_events b) ps)) (λ scope. every (map (piece_is_coded names classes block_names captured) ps) scope)
    pieces_make [] low found words = makes_nothing captured uses
    pieces_make (p ∷ ps) low found words =
        let f = parts_none (found_in_piece names classes p) (first_of (map (found_in_piece names classes) ps)) found in
        let w = and_parts (piece_is_worded names p) (all_true (map (piece_is_worded names) ps)) words in
        let h : max (piece_height p) (highest (map piece_height ps)) < k = low in
        makes_both captured uses (λ b. piece_events b p) (λ b. pieces_of (map (piece_events b) ps))
        (λ scope. piece_is_coded names classes block_names captured p scope) (λ scope. every (map (piece_is_coded names classes block_names captured) ps) scope)
        (piece_makes p (omega (arith, h)) f.0 w.0) (pieces_make ps (omega (arith, h)) f.1 w.1)

    str_made : (ps : List Piece) (at : Span) → IsMade (node.Str ps at)
    str_made ps at low found words =
        let h : suc (highest (map piece_height ps)) < suc k = subst (λ m. m < suc k) (high.height-str ps at) low in
        makes_by captured uses (λ b. part.events-str b ps at) (λ scope. code.coded-str names classes block_names captured scope ps at)
        (pieces_make ps (omega (arith, h)) (sym (layer.found-str names classes ps at) ∙ found) (sym (word.worded-str names ps at) ∙ words))

    return_made : (value : Option Node) (at : Span) → IsMade (node.Return value at)
    return_made value at low found words =
        let h : suc (or_none (option_map height value)) < suc k = subst (λ m. m < suc k) (high.height-return value at) low in
        let f = sym (layer.found-return names classes value at) ∙ found in
        let w = sym (word.worded-return names value at) ∙ words in
        makes_by captured uses (λ b. part.events-return b value at) (λ scope. code.coded-return names classes block_names captured scope value at)
        (makes_behind captured uses sight.Returns at (λ b. events.if_some (option_map (part_of b) value)) (λ scope. if_some (option_map (coded names classes block_names captured) value) scope) tt
        (by value h f w))
      where
        by : (v : Option Node) → suc (or_none (option_map height v)) < suc k → in_any (option_map (found_in names classes) v) ≡ None → if_there (option_map (worded names) v) ≡ true
            → Makes captured uses (λ b. events.if_some (option_map (part_of b) v)) (λ scope. if_some (option_map (coded names classes block_names captured) v) scope)
        by None h f w = makes_nothing captured uses
        by (Some n) h f w = makes n (omega (arith, h)) f w

    -- ---- calls, objects and threads

    new_made : (class : NameId) (args : List Node) (at : Span) → IsMade (node.New class args at)
    new_made class args at low found words =
        let f = parts_none (here (not (is_built_class names classes class)) at) (found_in_all names classes args) (sym (layer.found-new names classes class args at) ∙ found) in
        let h : suc (highest (map height args)) < suc k = subst (λ m. m < suc k) (high.height-new class args at) low in
        makes_by captured uses (λ b. part.events-new b class args at)
        (λ scope. code.coded-new names classes block_names captured scope class args at ∙ ap (λ x. x && all_codes args scope) (is_so (is_built_class names classes class) at f.0))
        (makes_behind captured uses (sight.Makes class) at (λ b. events_of_all b args) (λ scope. all_codes args scope) tt
        (all_make args (omega (arith, h)) f.1 (sym (word.worded-new names class args at) ∙ words)))

    thread_made : (args : List Node) (body : ℕ) (at : Span) → IsMade (node.ThreadNew args body at)
    thread_made args body at low found words =
        let h : suc (highest (map height args)) < suc k = subst (λ m. m < suc k) (high.height-thread_new args body at) low in
        makes_by captured uses (λ b. part.events-thread_new b args body at) (λ scope. code.coded-thread_new names classes block_names captured scope args body at)
        (makes_start captured uses body at (λ b. events_of_all b args) (λ scope. all_codes args scope)
        (all_make args (omega (arith, h)) (sym (layer.found-thread_new names classes args body at) ∙ found) (sym (word.worded-thread_new names args body at) ∙ words)))

    receiver_makes : (r : Option Node) (name : NameId) (at : Span) → or_none (option_map height r) < k → in_any (option_map (found_in names classes) r) ≡ None
        → if_there (option_map (worded names) r) ≡ true
        → Makes captured uses (λ b. receiver_step (option_map (part_of b) r) name at) (λ scope. if_some (option_map (coded names classes block_names captured) r) scope)
    receiver_makes None name at h f w = makes_single captured uses (sight.Calls name) at (λ scope. true) tt (λ own round good. refl)
    receiver_makes (Some n) name at h f w = makes n h f w

    block_makes : (o : Option Block) → or_none (option_map block_height o) < k → in_any (option_map (found_in_block names classes) o) ≡ None
        → if_there (option_map (block_is_worded names) o) ≡ true
        → Makes captured uses (λ b. called_block (option_map (block_part b) o)) (λ scope. if_some (option_map (block_is_coded names classes block_names captured) o) scope)
    block_makes None h f w = makes_nothing captured uses
    block_makes (Some block) h f w =
        let inner = out-Block block in
        let low : highest (map height inner.body) < k = subst (λ m. m < k) (high.block_height-body block) h in
        makes_by captured uses (λ b. ap (λ (p : Part). inside around.Block p.at p.events) (part.block-parts b block)) (λ scope. code.coded-block names classes block_names captured scope block)
        (makes_block captured uses inner.at (λ b. params_of inner.params ++ events_of_all b inner.body) (λ scope. all_codes inner.body scope)
        (makes_both captured uses (λ b. params_of inner.params) (λ b. events_of_all b inner.body) (λ scope. true) (λ scope. all_codes inner.body scope)
        (params_make inner.params)
        (all_make inner.body low (sym (layer.block-body names classes block) ∙ f) (sym (word.worded-block names block) ∙ w))))

    call_made : (r : Option Node) (name : NameId) (args : List Node) (block : Option Block) (at : Span) → IsMade (node.Call r name args block at)
    call_made r name args block at low found words =
        let found_r = in_any (option_map (found_in names classes) r) in
        let found_args = found_in_all names classes args in
        let found_block = in_any (option_map (found_in_block names classes) block) in
        let f = parts_none (here (is_call (is_some r) (is_some block)) at) (earlier found_r (earlier found_args found_block)) (sym (layer.found-call names classes r name args block at) ∙ found) in
        let g = parts_none found_r (earlier found_args found_block) f.1 in
        let i = parts_none found_args found_block g.1 in
        let worded_r = if_there (option_map (worded names) r) in
        let worded_block = if_there (option_map (block_is_worded names) block) in
        let w = and_parts worded_r (all_worded names args && worded_block) (sym (word.worded-call names r name args block at) ∙ words) in
        let v = and_parts (all_worded names args) worded_block w.1 in
        let h : suc (max (or_none (option_map height r)) (max (highest (map height args)) (or_none (option_map block_height block)))) < suc k =
        subst (λ m. m < suc k) (high.height-call r name args block at) low in
        let has_r : List NameId → Bool = λ scope. if_some (option_map (coded names classes block_names captured) r) scope in
        let has_block : List NameId → Bool = λ scope. if_some (option_map (block_is_coded names classes block_names captured) block) scope in
        makes_by captured uses (λ b. part.events-call b r name args block at)
        (λ scope. code.coded-call names classes block_names captured scope r name args block at
        ∙ ap (λ x. x && (has_r scope && (all_codes args scope && has_block scope))) (not_here (is_call (is_some r) (is_some block)) at f.0))
        (makes_both captured uses (λ b. receiver_step (option_map (part_of b) r) name at) (λ b. events_of_all b args ++ called_block (option_map (block_part b) block))
        has_r (λ scope. all_codes args scope && has_block scope)
        (receiver_makes r name at (omega (arith, h)) g.0 w.0)
        (makes_both captured uses (λ b. events_of_all b args) (λ b. called_block (option_map (block_part b) block)) (λ scope. all_codes args scope) has_block
        (all_make args (omega (arith, h)) i.0 v.0)
        (block_makes block (omega (arith, h)) i.1 v.1)))

    -- ---- assignments

    set_local_made : (name : NameId) (x : Node) (at : Span) → IsMade (node.SetLocal name x at)
    set_local_made name x at low found words =
        let h : suc (height x) < suc k = subst (λ m. m < suc k) (high.height-set_local name x at) low in
        makes_by captured uses (λ b. part.events-set_local b name x at) (λ scope. code.coded-set_local names classes block_names captured scope name x at)
        (makes_assigned captured uses name at (λ b. events_of b x) (λ scope. codes x scope)
        (makes x (omega (arith, h)) (sym (layer.found-set_local names classes name x at) ∙ found) (sym (word.worded-set_local names name x at) ∙ words)))

    set_field_made : (name : NameId) (x : Node) (at : Span) → IsMade (node.SetField name x at)
    set_field_made name x at low found words =
        let h : suc (height x) < suc k = subst (λ m. m < suc k) (high.height-set_field name x at) low in
        makes_by captured uses (λ b. part.events-set_field b name x at) (λ scope. code.coded-set_field names classes block_names captured scope name x at)
        (makes_behind captured uses (sight.Field name) at (λ b. events_of b x) (λ scope. codes x scope) tt
        (makes x (omega (arith, h)) (sym (layer.found-set_field names classes name x at) ∙ found) (sym (word.worded-set_field names name x at) ∙ words)))

    set_global_made : (name : NameId) (x : Node) (at : Span) → IsMade (node.SetGlobal name x at)
    set_global_made name x at low found words =
        let h : suc (height x) < suc k = subst (λ m. m < suc k) (high.height-set_global name x at) low in
        makes_by captured uses (λ b. part.events-set_global b name x at) (λ scope. code.coded-set_global names classes block_names captured scope name x at)
        (makes_behind captured uses (sight.Global name) at (λ b. events_of b x) (λ scope. codes x scope) tt
        (makes x (omega (arith, h)) (sym (layer.found-set_global names classes name x at) ∙ found) (sym (word.worded-set_global names name x at) ∙ words)))

    store_made : (r : Node) (name : NameId) (args : List Node) (at : Span) → IsMade (node.Store r name args at)
    store_made r name args at low found words =
        let f = parts_none (found_in names classes r) (found_in_all names classes args) (sym (layer.found-store names classes r name args at) ∙ found) in
        let w = and_parts (worded names r) (all_worded names args) (sym (word.worded-store names r name args at) ∙ words) in
        let h : suc (max (height r) (highest (map height args))) < suc k = subst (λ m. m < suc k) (high.height-store r name args at) low in
        makes_by captured uses (λ b. part.events-store b r name args at) (λ scope. code.coded-store names classes block_names captured scope r name args at)
        (makes_both captured uses (λ b. events_of b r) (λ b. events_of_all b args) (λ scope. codes r scope) (λ scope. all_codes args scope)
        (makes r (omega (arith, h)) f.0 w.0) (all_make args (omega (arith, h)) f.1 w.1))

    target_makes : (t : Target) (at : Span) (x : Node) → target_height t < k → found_in_target names classes t ≡ None → target_is_worded names t ≡ true → NodeMakes x
        → Makes captured uses (λ b. target_events b t at (events_of b x)) (λ scope. target_is_coded names classes block_names captured t scope && codes x scope)
    target_makes t at x low found words m = by (out-Target t) refl low found words
      where
        Goal : Target → Type 0
        Goal u = target_height u < k → found_in_target names classes u ≡ None → target_is_worded names u ≡ true
            → Makes captured uses (λ b. target_events b u at (events_of b x)) (λ scope. target_is_coded names classes block_names captured u scope && codes x scope)

        of_local : (name : NameId) → Goal (target.Local name)
        of_local name l f w =
            makes_by captured uses (λ b. part.target-local b name at (events_of b x))
            (λ scope. ap (λ z. z && codes x scope) (code.coded-target_local names classes block_names captured scope name))
            (makes_assigned captured uses name at (λ b. events_of b x) (λ scope. codes x scope) m)

        of_field : (name : NameId) → Goal (target.Field name)
        of_field name l f w =
            makes_by captured uses (λ b. part.target-field b name at (events_of b x))
            (λ scope. ap (λ z. z && codes x scope) (code.coded-target_field names classes block_names captured scope name))
            (makes_behind captured uses (sight.Field name) at (λ b. events_of b x) (λ scope. codes x scope) tt m)

        of_global : (name : NameId) → Goal (target.Global name)
        of_global name l f w =
            makes_by captured uses (λ b. part.target-global b name at (events_of b x))
            (λ scope. ap (λ z. z && codes x scope) (code.coded-target_global names classes block_names captured scope name))
            (makes_behind captured uses (sight.Global name) at (λ b. events_of b x) (λ scope. codes x scope) tt m)

        of_index : (r i : Node) → Goal (target.Index r i)
        of_index r i l f w =
            let g = parts_none (found_in names classes r) (found_in names classes i) (sym (layer.target-index names classes r i) ∙ f) in
            let v = and_parts (worded names r) (worded names i) (sym (word.worded-index names r i) ∙ w) in
            let h : max (height r) (height i) < k = subst (λ z. z < k) (high.target_height-index r i) l in
            makes_by captured uses (λ b. part.target-index b r i at (events_of b x))
            (λ scope. ap (λ z. z && codes x scope) (code.coded-index names classes block_names captured scope r i) ∙ and_associates (codes r scope) (codes i scope) (codes x scope))
            (makes_both captured uses (λ b. events_of b r) (λ b. events_of b i ++ events_of b x) (λ scope. codes r scope) (λ scope. codes i scope && codes x scope)
            (makes r (omega (arith, h)) g.0 v.0)
            (makes_both captured uses (λ b. events_of b i) (λ b. events_of b x) (λ scope. codes i scope) (λ scope. codes x scope) (makes i (omega (arith, h)) g.1 v.1) m))

        of_attribute : (r : Node) (name : NameId) → Goal (target.Attribute r name)
        of_attribute r name l f w =
            let v = and_parts (begins_word (text_of names name)) (worded names r) (sym (word.worded-attribute names r name) ∙ w) in
            let h : height r < k = subst (λ z. z < k) (high.target_height-attribute r name) l in
            makes_by captured uses (λ b. part.target-attribute b r name at (events_of b x))
            (λ scope. ap (λ z. z && codes x scope) (code.coded-attribute names classes block_names captured scope r name ∙ ap (λ z. z && codes r scope) v.0))
            (makes_both captured uses (λ b. events_of b r) (λ b. events_of b x) (λ scope. codes r scope) (λ scope. codes x scope)
            (makes r h (sym (layer.target-attribute names classes r name) ∙ f) v.1) m)

        by : (l : Target-F Node Piece Target Block) → out-Target t ≡ l → Goal t
        by (out.«Target::Local» name) e = let same : t ≡ target.Local name = search (rules, the_lemmas, e) in subst Goal (sym same) (of_local name)
        by (out.«Target::Field» name) e = let same : t ≡ target.Field name = search (rules, the_lemmas, e) in subst Goal (sym same) (of_field name)
        by (out.«Target::Global» name) e = let same : t ≡ target.Global name = search (rules, the_lemmas, e) in subst Goal (sym same) (of_global name)
        by (out.Index r i) e = let same : t ≡ target.Index r i = search (rules, the_lemmas, e) in subst Goal (sym same) (of_index r i)
        by (out.Attribute r name) e = let same : t ≡ target.Attribute r name = search (rules, the_lemmas, e) in subst Goal (sym same) (of_attribute r name)

    op_assign_made : (t : Target) (op : AssignOp) (x : Node) (at : Span) → IsMade (node.OpAssign t op x at)
    op_assign_made t op x at low found words =
        let f = parts_none (found_in_target names classes t) (found_in names classes x) (sym (layer.found-op_assign names classes t op x at) ∙ found) in
        let w = and_parts (target_is_worded names t) (worded names x) (sym (word.worded-op_assign names t op x at) ∙ words) in
        let h : suc (max (target_height t) (height x)) < suc k = subst (λ m. m < suc k) (high.height-op_assign t op x at) low in
        makes_by captured uses (λ b. part.events-op_assign b t op x at) (λ scope. code.coded-op_assign names classes block_names captured scope t op x at)
        (target_makes t at x (omega (arith, h)) f.0 w.0 (makes x (omega (arith, h)) f.1 w.1))

    -- ---- any node, by its layer

    -- a node of any layer
    pub one_more : (n : Node) → IsMade n
    one_more n = by (out-Node n) refl
      where
        by : (l : NodeLayer) → out-Node n ≡ l → IsMade n
        by (out.Nil at) e = let same : n ≡ node.Nil at = search (rules, the_lemmas, e) in
            subst IsMade (sym same) (λ low f w. leaf (node.Nil at) (λ b. part.events-nil b at) (λ scope. code.coded-nil names classes block_names captured scope at))
        by (out.False at) e = let same : n ≡ node.False at = search (rules, the_lemmas, e) in
            subst IsMade (sym same) (λ low f w. leaf (node.False at) (λ b. part.events-false b at) (λ scope. code.coded-false names classes block_names captured scope at))
        by (out.True at) e = let same : n ≡ node.True at = search (rules, the_lemmas, e) in
            subst IsMade (sym same) (λ low f w. leaf (node.True at) (λ b. part.events-true b at) (λ scope. code.coded-true names classes block_names captured scope at))
        by (out.SelfRef at) e = let same : n ≡ node.SelfRef at = search (rules, the_lemmas, e) in
            subst IsMade (sym same)
            (λ low f w. one (node.SelfRef at) sight.SelfRef at tt (λ b. part.events-self_ref b at) (λ scope. code.coded-self_ref names classes block_names captured scope at))
        by (out.Int value at) e = let same : n ≡ node.Int value at = search (rules, the_lemmas, e) in
            subst IsMade (sym same) (λ low f w. leaf (node.Int value at) (λ b. part.events-int b value at) (λ scope. code.coded-int names classes block_names captured scope value at))
        by (out.Sym name at) e = let same : n ≡ node.Sym name at = search (rules, the_lemmas, e) in
            subst IsMade (sym same) (λ low f w. leaf (node.Sym name at) (λ b. part.events-sym b name at) (λ scope. code.coded-sym names classes block_names captured scope name at))
        by (out.Str ps at) e = let same : n ≡ node.Str ps at = search (rules, the_lemmas, e) in subst IsMade (sym same) (str_made ps at)
        by (out.Array items at) e = let same : n ≡ node.Array items at = search (rules, the_lemmas, e) in subst IsMade (sym same) (array_made items at)
        by (out.Hash ps at) e = let same : n ≡ node.Hash ps at = search (rules, the_lemmas, e) in subst IsMade (sym same) (hash_made ps at)
        by (out.«Node::Local» name at) e = let same : n ≡ node.Local name at = search (rules, the_lemmas, e) in
            subst IsMade (sym same) (λ low f w. local_makes name at)
        by (out.«Node::Field» name at) e = let same : n ≡ node.Field name at = search (rules, the_lemmas, e) in
            subst IsMade (sym same)
            (λ low f w. one (node.Field name at) (sight.Field name) at tt (λ b. part.events-field b name at) (λ scope. code.coded-field names classes block_names captured scope name at))
        by (out.«Node::Global» name at) e = let same : n ≡ node.Global name at = search (rules, the_lemmas, e) in
            subst IsMade (sym same)
            (λ low f w. one (node.Global name at) (sight.Global name) at tt (λ b. part.events-global b name at) (λ scope. code.coded-global names classes block_names captured scope name at))
        by (out.SetLocal name x at) e = let same : n ≡ node.SetLocal name x at = search (rules, the_lemmas, e) in subst IsMade (sym same) (set_local_made name x at)
        by (out.SetField name x at) e = let same : n ≡ node.SetField name x at = search (rules, the_lemmas, e) in subst IsMade (sym same) (set_field_made name x at)
        by (out.SetGlobal name x at) e = let same : n ≡ node.SetGlobal name x at = search (rules, the_lemmas, e) in subst IsMade (sym same) (set_global_made name x at)
        by (out.Store r name args at) e = let same : n ≡ node.Store r name args at = search (rules, the_lemmas, e) in subst IsMade (sym same) (store_made r name args at)
        by (out.OpAssign t op x at) e = let same : n ≡ node.OpAssign t op x at = search (rules, the_lemmas, e) in subst IsMade (sym same) (op_assign_made t op x at)
        by (out.Call r name args block at) e = let same : n ≡ node.Call r name args block at = search (rules, the_lemmas, e) in
            subst IsMade (sym same) (call_made r name args block at)
        by (out.New class args at) e = let same : n ≡ node.New class args at = search (rules, the_lemmas, e) in subst IsMade (sym same) (new_made class args at)
        by (out.ThreadNew args body at) e = let same : n ≡ node.ThreadNew args body at = search (rules, the_lemmas, e) in subst IsMade (sym same) (thread_made args body at)
        by (out.And x y at) e = let same : n ≡ node.And x y at = search (rules, the_lemmas, e) in subst IsMade (sym same) (and_made x y at)
        by (out.Or x y at) e = let same : n ≡ node.Or x y at = search (rules, the_lemmas, e) in subst IsMade (sym same) (or_made x y at)
        by (out.Not x at) e = let same : n ≡ node.Not x at = search (rules, the_lemmas, e) in subst IsMade (sym same) (not_made x at)
        by (out.If c first second at) e = let same : n ≡ node.If c first second at = search (rules, the_lemmas, e) in subst IsMade (sym same) (if_made c first second at)
        by (out.While c body at) e = let same : n ≡ node.While c body at = search (rules, the_lemmas, e) in subst IsMade (sym same) (while_made c body at)
        by (out.Return value at) e = let same : n ≡ node.Return value at = search (rules, the_lemmas, e) in subst IsMade (sym same) (return_made value at)
        by (out.Break at) e = let same : n ≡ node.Break at = search (rules, the_lemmas, e) in
            subst IsMade (sym same) (λ low f w. one (node.Break at) sight.Leaves at tt (λ b. part.events-break b at) (λ scope. code.coded-break names classes block_names captured scope at))
        by (out.Next at) e = let same : n ≡ node.Next at = search (rules, the_lemmas, e) in
            subst IsMade (sym same) (λ low f w. one (node.Next at) sight.Leaves at tt (λ b. part.events-next b at) (λ scope. code.coded-next names classes block_names captured scope at))

  -- each node that is not so high
  pub up_to : (k : ℕ) (n : Node) → height n < k → found_in names classes n ≡ None → worded names n ≡ true → NodeMakes n
  up_to zero n low = absurd (omega (arith, low))
  up_to (suc k) n low = one_more k (up_to k) n low

  -- each node
  pub node_makes : (n : Node) → found_in names classes n ≡ None → worded names n ≡ true → NodeMakes n
  node_makes n = up_to (suc (height n)) n (omega arith)

  -- statements with code, behind parameters
  pub body_makes : (params : List Param) (body : List Node) → found_in_all names classes body ≡ None → all_worded names body ≡ true
      → Makes captured uses (λ b. params_of params ++ events_of_all b body) (λ scope. all_codes body scope)
  body_makes params body found words =
      makes_both captured uses (λ b. params_of params) (λ b. events_of_all b body) (λ scope. true) (λ scope. all_codes body scope)
      (params_make params) (all_make (suc (highest (map height body))) (λ n low. node_makes n) body (omega arith) found words)
