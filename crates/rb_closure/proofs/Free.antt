-- A node that starts no thread, and names no global variable where none may be named, has parts that are so too.
use Rattle.std.proofs.Common.{◌≡◌, Bool, true, false, ◌&&◌, List, [], ◌∷◌, ◌++◌, map, Option, Some, None, sym, ◌∙◌}
use Rattle.std.proofs.lemmas.Bool.{and_parts}
use Rattle.rb_tree.specs.declared.span.Span.{Span}
use Rattle.rb_tree.specs.declared.span.NameId.{NameId}
use Rattle.rb_tree.specs.declared.node.Node.{Node, out-Node, map-Node}
use Rattle.rb_tree.specs.declared.node.Piece.{Piece, out-Piece, map-Piece}
use Rattle.rb_tree.specs.declared.node.Target.{Target, out-Target, map-Target}
use Rattle.rb_tree.specs.declared.node.Block.{Block}
use Rattle.rb_tree.specs.declared.node.Node.TheFolds.{fold_out-Node, fold_out-Piece, fold_out-Target, fold_out-Block}
use Rattle.rb_tree.specs.declared.node.Node.TheOpen.{Piece-F, Target-F}
use Rattle.rb_tree.specs.declared.node.Node.TheOpen as node
use Rattle.rb_tree.specs.Layer.{NodeLayer}
use Rattle.rb_machine.specs.Begin.{parts}
use Rattle.rb_closure.specs.Sharing.{all_hold, free_in, free_in_piece, free_in_target, free_in_block, free_in_all, free_in_method, free_in_class, free_in_program, node_step, piece_step, target_step, block_step}
use Rattle.rb_closure.specs.Closure.{Each}
use Rattle.rb_closure.proofs.Lists.{both}
use Rattle.rb_closure.proofs.Parts.{Code, ANode, AStart, AGlobal, code_in_nodes, code_in_one, code_in_given, code_in_piece, code_in_pieces, code_in_target, code_in_layer, FitsMethod, FitsClass}
use Rattle.rb_closure.proofs.Sound.{Says}
use Rattle.rb_machine.specs.Scopes.{Script}
use Rattle.rb_tree.specs.declared.node.Method.{Method}
use Rattle.rb_tree.specs.declared.node.Class.{Class}

module _ (named : Bool) where
  -- what is said of code: a node is so, no thread starts, and a global variable is named only where it may be
  abbrev pub FreeCode : Code → Type 0
  FreeCode (ANode n) = free_in named n ≡ true
  FreeCode AStart = ⊥
  FreeCode AGlobal = named ≡ true

  -- ---- one layer

  node_out : (n : Node) → free_in named n ≡ node_step named (map-Node Node Piece Target Block Bool Bool Bool Bool (free_in named) (free_in_piece named) (free_in_target named) (free_in_block named) (out-Node n))
  unfolding free_in free_in_piece free_in_target free_in_block
  node_out n = fold_out-Node Bool Bool Bool Bool (node_step named) (piece_step named) (target_step named) (block_step named) n

  piece_out : (p : Piece) → free_in_piece named p ≡ piece_step named (map-Piece Node Piece Target Block Bool Bool Bool Bool (free_in named) (free_in_piece named) (free_in_target named) (free_in_block named) (out-Piece p))
  unfolding free_in free_in_piece free_in_target free_in_block
  piece_out p = fold_out-Piece Bool Bool Bool Bool (node_step named) (piece_step named) (target_step named) (block_step named) p

  target_out : (t : Target) → free_in_target named t ≡ target_step named (map-Target Node Piece Target Block Bool Bool Bool Bool (free_in named) (free_in_piece named) (free_in_target named) (free_in_block named) (out-Target t))
  unfolding free_in free_in_piece free_in_target free_in_block
  target_out t = fold_out-Target Bool Bool Bool Bool (node_step named) (piece_step named) (target_step named) (block_step named) t

  block_out : (b : Block) → free_in_block named b ≡ free_in_all named b.body
  unfolding free_in free_in_piece free_in_target free_in_block
  block_out b = fold_out-Block Bool Bool Bool Bool (node_step named) (piece_step named) (target_step named) (block_step named) b

  -- ---- parts

  two : (a b : Bool) → (a && b) ≡ true → (a ≡ true) × (b ≡ true)
  two a b e = and_parts a b e

  nodes_free : (ns : List Node) → all_hold (map (free_in named) ns) ≡ true → Each FreeCode (code_in_nodes ns)
  nodes_free [] e = tt
  nodes_free (n ∷ ns) e = let p = two (free_in named n) (all_hold (map (free_in named) ns)) e in (p.0, nodes_free ns p.1)

  pairs_free : (ps : List (Node × Node)) → all_hold (map (λ (p : Bool × Bool). p.0 && p.1) (map (λ (p : Node × Node). (free_in named p.0, free_in named p.1)) ps)) ≡ true → Each FreeCode (code_in_nodes (parts ps))
  pairs_free [] e = tt
  pairs_free (p ∷ ps) e =
      let q = two (free_in named p.0 && free_in named p.1) _ e in
      let r = two (free_in named p.0) (free_in named p.1) q.0 in
      (r.0, (r.1, pairs_free ps q.1))

  abbrev piece_holds : Piece-F Node Piece Target Block → Bool
  piece_holds f = piece_step named (map-Piece Node Piece Target Block Bool Bool Bool Bool (free_in named) (free_in_piece named) (free_in_target named) (free_in_block named) f)

  piece_free : (f : Piece-F Node Piece Target Block) → piece_holds f ≡ true → Each FreeCode (code_in_piece f)
  piece_free (node.Text text) e = tt
  piece_free (node.Code n) e = (e, tt)

  pieces_free : (ps : List Piece) → all_hold (map (free_in_piece named) ps) ≡ true → Each FreeCode (code_in_pieces ps)
  pieces_free [] e = tt
  pieces_free (p ∷ ps) e =
      let q = two (free_in_piece named p) (all_hold (map (free_in_piece named) ps)) e in
      both FreeCode (code_in_piece (out-Piece p)) (code_in_pieces ps) (piece_free (out-Piece p) (sym (piece_out p) ∙ q.0)) (pieces_free ps q.1)

  abbrev target_holds : Target-F Node Piece Target Block → Bool
  target_holds f = target_step named (map-Target Node Piece Target Block Bool Bool Bool Bool (free_in named) (free_in_piece named) (free_in_target named) (free_in_block named) f)

  target_free : (f : Target-F Node Piece Target Block) → target_holds f ≡ true → Each FreeCode (code_in_target f)
  target_free (node.«Target::Local» name) e = tt
  target_free (node.«Target::Field» name) e = tt
  target_free (node.«Target::Global» name) e = (e, tt)
  target_free (node.Index receiver index) e = let p = two (free_in named receiver) (free_in named index) e in (p.0, (p.1, tt))
  target_free (node.Attribute receiver name) e = (e, tt)

  abbrev layer_holds : NodeLayer → Bool
  layer_holds l = node_step named (map-Node Node Piece Target Block Bool Bool Bool Bool (free_in named) (free_in_piece named) (free_in_target named) (free_in_block named) l)

  block_free : (b : Block) → free_in_block named b ≡ true → Each FreeCode (code_in_nodes b.body)
  block_free b e = nodes_free b.body (sym (block_out b) ∙ e)

  call_free : (receiver : Option Node) (name : NameId) (args : List Node) (block : Option Block) (at : Span) → layer_holds (node.Call receiver name args block at) ≡ true
      → Each FreeCode (code_in_one receiver ++ (code_in_given block ++ code_in_nodes args))
  call_free None name args None at e = nodes_free args e
  call_free (Some n) name args None at e = let p = two (free_in named n) _ e in (p.0, nodes_free args p.1)
  call_free None name args (Some b) at e =
      let p = two (free_in_block named b) _ e in both FreeCode (code_in_nodes b.body) (code_in_nodes args) (block_free b p.0) (nodes_free args p.1)
  call_free (Some n) name args (Some b) at e =
      let p = two (free_in named n) _ e in
      let q = two (free_in_block named b) _ p.1 in
      (p.0, both FreeCode (code_in_nodes b.body) (code_in_nodes args) (block_free b q.0) (nodes_free args q.1))

  layer_free : (l : NodeLayer) → layer_holds l ≡ true → Each FreeCode (code_in_layer l)
  layer_free (node.Str pieces at) e = pieces_free pieces e
  layer_free (node.Array items at) e = nodes_free items e
  layer_free (node.Hash pairs at) e = pairs_free pairs e
  layer_free (node.«Node::Global» name at) e = (e, tt)
  layer_free (node.SetLocal name value at) e = (e, tt)
  layer_free (node.SetField name value at) e = (e, tt)
  layer_free (node.SetGlobal name value at) e = let p = two named (free_in named value) e in (p.0, (p.1, tt))
  layer_free (node.Store receiver name args at) e = let p = two (free_in named receiver) _ e in (p.0, nodes_free args p.1)
  layer_free (node.OpAssign target op value at) e =
      let p = two (free_in_target named target) (free_in named value) e in (p.1, target_free (out-Target target) (sym (target_out target) ∙ p.0))
  layer_free (node.Call receiver name args block at) e = call_free receiver name args block at e
  layer_free (node.New class args at) e = nodes_free args e
  layer_free (node.ThreadNew args body at) e = absurd (let wrong : false ≡ true = e in cc)
  layer_free (node.And first second at) e = let p = two (free_in named first) (free_in named second) e in (p.0, (p.1, tt))
  layer_free (node.Or first second at) e = let p = two (free_in named first) (free_in named second) e in (p.0, (p.1, tt))
  layer_free (node.Not value at) e = (e, tt)
  layer_free (node.If condition first second at) e =
      let p = two (free_in named condition) _ e in
      let q = two (all_hold (map (free_in named) first)) (all_hold (map (free_in named) second)) p.1 in
      (p.0, both FreeCode (code_in_nodes first) (code_in_nodes second) (nodes_free first q.0) (nodes_free second q.1))
  layer_free (node.While condition body at) e = let p = two (free_in named condition) _ e in (p.0, nodes_free body p.1)
  layer_free (node.Return None at) e = tt
  layer_free (node.Return (Some value) at) e = (e, tt)
  layer_free leaf e = tt

  -- the parts of a node
  pub parts_free : (n : Node) → FreeCode (ANode n) → Each FreeCode (code_in_layer (out-Node n))
  parts_free n e = layer_free (out-Node n) (sym (node_out n) ∙ e)

  pub methods_free : (ms : List Method) → all_hold (map (free_in_method named) ms) ≡ true → Each (FitsMethod FreeCode) ms
  methods_free [] e = tt
  methods_free (m ∷ ms) e = let p = two (free_in_method named m) (all_hold (map (free_in_method named) ms)) e in (nodes_free m.body p.0, methods_free ms p.1)

  pub classes_free : (ks : List Class) → all_hold (map (free_in_class named) ks) ≡ true → Each (FitsClass FreeCode) ks
  classes_free [] e = tt
  classes_free (k ∷ ks) e = let p = two (free_in_class named k) (all_hold (map (free_in_class named) ks)) e in (methods_free k.methods p.0, classes_free ks p.1)

  module _ (S : Script) (e : free_in_program named S.program ≡ true) where
    abbrev pub behind_classes : Bool
    behind_classes = all_hold (map (free_in_method named) S.program.functions) && (free_in_all named S.program.main && all_hold (map (free_in_block named) S.program.bodies))

    pub in_classes : (all_hold (map (free_in_class named) S.program.classes) ≡ true) × (behind_classes ≡ true)
    in_classes = two (all_hold (map (free_in_class named) S.program.classes)) behind_classes e

    pub in_functions : (all_hold (map (free_in_method named) S.program.functions) ≡ true) × ((free_in_all named S.program.main && all_hold (map (free_in_block named) S.program.bodies)) ≡ true)
    in_functions = two (all_hold (map (free_in_method named) S.program.functions)) _ in_classes.1

    -- its code is so, and so is its top level
    abbrev pub free_code : Says S
    free_code = record {
      Of = FreeCode;
      parts = parts_free;
      functions = methods_free S.program.functions in_functions.0;
      classes = classes_free S.program.classes in_classes.0;
    }

    pub main_free : Each FreeCode (code_in_nodes S.program.main)
    main_free = nodes_free S.program.main (two (free_in_all named S.program.main) (all_hold (map (free_in_block named) S.program.bodies)) in_functions.1).0
