-- The events of each node, and its place.
use Rattle.std.proofs.Common.{◌≡◌, ◌∙◌, ap, sym, ℕ, List, [], ◌∷◌, ◌++◌, Option, map, refl, rules}
use Rattle.std.specs.Prelude.{ℤ, Bool, true, false, if◌then◌else◌}
use Rattle.std.specs.Option.{option_map}
use Rattle.rb_tree.specs.declared.span.Span.{Span}
use Rattle.rb_tree.specs.declared.span.NameId.{NameId}
use Rattle.rb_tree.specs.declared.node.AssignOp.{AssignOp}
use Rattle.rb_tree.specs.declared.node.Node.{Node, out-Node, the_lemmas}
use Rattle.rb_tree.specs.declared.node.Node.TheVariants as node
use Rattle.rb_tree.specs.declared.node.Piece.{Piece}
use Rattle.rb_tree.specs.declared.node.Piece.TheVariants as piece
use Rattle.rb_tree.specs.declared.node.Target.{Target}
use Rattle.rb_tree.specs.declared.node.Target.TheVariants as target
use Rattle.rb_tree.specs.declared.node.Block.{Block, out-Block}
use Rattle.rb_tree.specs.Layer.{NodeLayer}
use Rattle.rb_tree.specs.Place.{place}
use Rattle.rb_checker.specs.declared.event.Event.{Event}
use Rattle.rb_checker.specs.declared.event.Sight.TheVariants as sight
use Rattle.rb_checker.specs.declared.event.Around.TheVariants as around
use Rattle.rb_checker.specs.Events.{Part, event, alone, inside, pairs_of, pieces_of, if_some, is_behind, in_order, params_of, receiver_step, called_block, part_of, block_part, piece_events, target_events, events_of, events_of_all, pair_parts}

place_by : (b : ℕ → List Event) (n : Node) (l : NodeLayer) → out-Node n ≡ l → (part_of b n).at ≡ place l
unfolding part_of
place_by b n l e = search (rules, the_lemmas, e)

-- the place of a part is that of its node
pub part_place : (b : ℕ → List Event) (n : Node) → (part_of b n).at ≡ place (out-Node n)
part_place b n = place_by b n (out-Node n) refl

-- the places of parts are those of their nodes
pub parts_places : (b : ℕ → List Event) (body : List Node) → map (λ (p : Part). p.at) (map (part_of b) body) ≡ map (λ n. place (out-Node n)) body
parts_places b [] = refl
parts_places b (n ∷ body) = ap (λ at. at ∷ map (λ (p : Part). p.at) (map (part_of b) body)) (part_place b n) ∙ ap (λ more. place (out-Node n) ∷ more) (parts_places b body)

pub events-nil : (b : ℕ → List Event) (at : Span) → (part_of b (node.Nil at)).events ≡ []
unfolding part_of
events-nil b at = search (rules, the_lemmas)

pub events-false : (b : ℕ → List Event) (at : Span) → (part_of b (node.False at)).events ≡ []
unfolding part_of
events-false b at = search (rules, the_lemmas)

pub events-true : (b : ℕ → List Event) (at : Span) → (part_of b (node.True at)).events ≡ []
unfolding part_of
events-true b at = search (rules, the_lemmas)

pub events-self_ref : (b : ℕ → List Event) (at : Span) → (part_of b (node.SelfRef at)).events ≡ alone sight.SelfRef at
unfolding part_of
events-self_ref b at = search (rules, the_lemmas)

pub events-int : (b : ℕ → List Event) (n : ℤ) (at : Span) → (part_of b (node.Int n at)).events ≡ []
unfolding part_of
events-int b n at = search (rules, the_lemmas)

pub events-sym : (b : ℕ → List Event) (name : NameId) (at : Span) → (part_of b (node.Sym name at)).events ≡ []
unfolding part_of
events-sym b name at = search (rules, the_lemmas)

pub events-str : (b : ℕ → List Event) (pieces : List Piece) (at : Span) → (part_of b (node.Str pieces at)).events ≡ pieces_of (map (piece_events b) pieces)
unfolding part_of piece_events
events-str b pieces at = search (rules, the_lemmas)

pub events-array : (b : ℕ → List Event) (items : List Node) (at : Span) → (part_of b (node.Array items at)).events ≡ events_of_all b items
unfolding part_of
events-array b items at = search (rules, the_lemmas)

pub events-hash : (b : ℕ → List Event) (pairs : List (Node × Node)) (at : Span) → (part_of b (node.Hash pairs at)).events ≡ pairs_of (map (pair_parts b) pairs)
unfolding part_of
events-hash b pairs at = search (rules, the_lemmas)

pub events-local : (b : ℕ → List Event) (name : NameId) (at : Span) → (part_of b (node.Local name at)).events ≡ alone (sight.Reads name) at
unfolding part_of
events-local b name at = search (rules, the_lemmas)

pub events-field : (b : ℕ → List Event) (name : NameId) (at : Span) → (part_of b (node.Field name at)).events ≡ alone (sight.Field name) at
unfolding part_of
events-field b name at = search (rules, the_lemmas)

pub events-global : (b : ℕ → List Event) (name : NameId) (at : Span) → (part_of b (node.Global name at)).events ≡ alone (sight.Global name) at
unfolding part_of
events-global b name at = search (rules, the_lemmas)

pub events-set_local : (b : ℕ → List Event) (name : NameId) (value : Node) (at : Span) → (part_of b (node.SetLocal name value at)).events ≡ event (sight.Assigns name) at ∷ inside (around.Value name) at (events_of b value)
unfolding part_of
events-set_local b name value at = search (rules, the_lemmas)

pub events-set_field : (b : ℕ → List Event) (name : NameId) (value : Node) (at : Span) → (part_of b (node.SetField name value at)).events ≡ event (sight.Field name) at ∷ events_of b value
unfolding part_of
events-set_field b name value at = search (rules, the_lemmas)

pub events-set_global : (b : ℕ → List Event) (name : NameId) (value : Node) (at : Span) → (part_of b (node.SetGlobal name value at)).events ≡ event (sight.Global name) at ∷ events_of b value
unfolding part_of
events-set_global b name value at = search (rules, the_lemmas)

pub events-store : (b : ℕ → List Event) (receiver : Node) (name : NameId) (args : List Node) (at : Span) → (part_of b (node.Store receiver name args at)).events ≡ events_of b receiver ++ events_of_all b args
unfolding part_of
events-store b receiver name args at = search (rules, the_lemmas)

pub events-op_assign : (b : ℕ → List Event) (target : Target) (op : AssignOp) (value : Node) (at : Span) → (part_of b (node.OpAssign target op value at)).events ≡ target_events b target at (events_of b value)
unfolding part_of target_events
events-op_assign b target op value at = search (rules, the_lemmas)

pub events-call : (b : ℕ → List Event) (receiver : Option Node) (name : NameId) (args : List Node) (block : Option Block) (at : Span) → (part_of b (node.Call receiver name args block at)).events ≡ receiver_step (option_map (part_of b) receiver) name at ++ (events_of_all b args ++ called_block (option_map (block_part b) block))
unfolding part_of block_part
events-call b receiver name args block at = search (rules, the_lemmas)

pub events-new : (b : ℕ → List Event) (class : NameId) (args : List Node) (at : Span) → (part_of b (node.New class args at)).events ≡ event (sight.Makes class) at ∷ events_of_all b args
unfolding part_of
events-new b class args at = search (rules, the_lemmas)

pub events-thread_new : (b : ℕ → List Event) (args : List Node) (body : ℕ) (at : Span) → (part_of b (node.ThreadNew args body at)).events ≡ event (sight.Starts body) at ∷ events_of_all b args ++ inside around.Thread at (b body)
unfolding part_of
events-thread_new b args body at = search (rules, the_lemmas)

pub events-and : (b : ℕ → List Event) (left right : Node) (at : Span) → (part_of b (node.And left right at)).events ≡ events_of b left ++ events_of b right
unfolding part_of
events-and b left right at = search (rules, the_lemmas)

pub events-or : (b : ℕ → List Event) (left right : Node) (at : Span) → (part_of b (node.Or left right at)).events ≡ events_of b left ++ events_of b right
unfolding part_of
events-or b left right at = search (rules, the_lemmas)

pub events-not : (b : ℕ → List Event) (value : Node) (at : Span) → (part_of b (node.Not value at)).events ≡ events_of b value
unfolding part_of
events-not b value at = search (rules, the_lemmas)

pub events-if : (b : ℕ → List Event) (condition : Node) (first second : List Node) (at : Span) → (part_of b (node.If condition first second at)).events ≡ in_order at (events_of b condition) (map (part_of b) first) ++ events_of_all b second
unfolding part_of
events-if b condition first second at = search (rules, the_lemmas)

pub events-while : (b : ℕ → List Event) (condition : Node) (body : List Node) (at : Span) → (part_of b (node.While condition body at)).events ≡ inside around.Loop at (in_order at (events_of b condition) (map (part_of b) body))
unfolding part_of
events-while b condition body at = search (rules, the_lemmas)

pub events-return : (b : ℕ → List Event) (value : Option Node) (at : Span) → (part_of b (node.Return value at)).events ≡ event sight.Returns at ∷ if_some (option_map (part_of b) value)
unfolding part_of
events-return b value at = search (rules, the_lemmas)

pub events-break : (b : ℕ → List Event) (at : Span) → (part_of b (node.Break at)).events ≡ alone sight.Leaves at
unfolding part_of
events-break b at = search (rules, the_lemmas)

pub events-next : (b : ℕ → List Event) (at : Span) → (part_of b (node.Next at)).events ≡ alone sight.Leaves at
unfolding part_of
events-next b at = search (rules, the_lemmas)

pub piece-text : (b : ℕ → List Event) (text : List ℕ) → piece_events b (piece.Text text) ≡ []
unfolding piece_events
piece-text b text = search (rules, the_lemmas)

pub piece-code : (b : ℕ → List Event) (code : Node) → piece_events b (piece.Code code) ≡ events_of b code
unfolding part_of piece_events
piece-code b code = search (rules, the_lemmas)

pub target-local : (b : ℕ → List Event) (name : NameId) (at : Span) (value : List Event) → target_events b (target.Local name) at value ≡ event (sight.Assigns name) at ∷ inside (around.Value name) at value
unfolding target_events
target-local b name at value = search (rules, the_lemmas)

pub target-field : (b : ℕ → List Event) (name : NameId) (at : Span) (value : List Event) → target_events b (target.Field name) at value ≡ event (sight.Field name) at ∷ value
unfolding target_events
target-field b name at value = search (rules, the_lemmas)

pub target-global : (b : ℕ → List Event) (name : NameId) (at : Span) (value : List Event) → target_events b (target.Global name) at value ≡ event (sight.Global name) at ∷ value
unfolding target_events
target-global b name at value = search (rules, the_lemmas)

pub target-index : (b : ℕ → List Event) (receiver index : Node) (at : Span) (value : List Event) → target_events b (target.Index receiver index) at value ≡ events_of b receiver ++ (events_of b index ++ value)
unfolding part_of target_events
target-index b receiver index at value = search (rules, the_lemmas)

pub target-attribute : (b : ℕ → List Event) (receiver : Node) (name : NameId) (at : Span) (value : List Event) → target_events b (target.Attribute receiver name) at value ≡ events_of b receiver ++ value
unfolding part_of target_events
target-attribute b receiver name at value = search (rules, the_lemmas)

pub block-parts : (b : ℕ → List Event) (block : Block) → block_part b block ≡ record { at = (out-Block block).at; events = params_of (out-Block block).params ++ events_of_all b (out-Block block).body }
unfolding part_of block_part
block-parts b block = search (rules, the_lemmas)

pub ruleset parts = (events-nil, events-false, events-true, events-self_ref, events-int, events-sym, events-str, events-array, events-hash, events-local, events-field, events-global, events-set_local, events-set_field, events-set_global, events-store, events-op_assign, events-call, events-new, events-thread_new, events-and, events-or, events-not, events-if, events-while, events-return, events-break, events-next, piece-text, piece-code, target-local, target-field, target-global, target-index, target-attribute, block-parts)

-- the order of a condition and a body, by where the body stands
pub body_first : {answer : Bool} {given : List Node} (b : ℕ → List Event) (at : Span) (condition : List Event) (body : List Node) → given ≡ body → answer ≡ is_behind at (map (λ n. place (out-Node n)) given) → answer ≡ true → in_order at condition (map (part_of b) body) ≡ events_of_all b body ++ condition
body_first b at condition body same asked behind =
    ap (λ test. if test then events_of_all b body ++ condition else condition ++ events_of_all b body) (ap (is_behind at) (parts_places b body) ∙ ap (λ l. is_behind at (map (λ n. place (out-Node n)) l)) (sym same) ∙ sym asked ∙ behind)

pub condition_first : {answer : Bool} {given : List Node} (b : ℕ → List Event) (at : Span) (condition : List Event) (body : List Node) → given ≡ body → answer ≡ is_behind at (map (λ n. place (out-Node n)) given) → answer ≡ false → in_order at condition (map (part_of b) body) ≡ condition ++ events_of_all b body
condition_first b at condition body same asked before =
    ap (λ test. if test then events_of_all b body ++ condition else condition ++ events_of_all b body) (ap (is_behind at) (parts_places b body) ∙ ap (λ l. is_behind at (map (λ n. place (out-Node n)) l)) (sym same) ∙ sym asked ∙ before)

pub ruleset leaves = (events-nil, events-false, events-true, events-int, events-sym)
