-- What the rules of names see of a text, in its order.
use Rattle.std.specs.Prelude.{ℕ, ◌+◌, ◌==◌, nat_lt, Bool, false, List, [], ◌∷◌, ◌++◌, Option, Some, None, map, if◌then◌else◌}
use Rattle.std.specs.List.{flat_map}
use Rattle.rb_tree.specs.declared.span.Span.{Span}
use Rattle.rb_tree.specs.declared.span.NameId.{NameId}
use Rattle.rb_tree.specs.declared.node.Param.{Param}
use Rattle.rb_tree.specs.declared.node.Node.{Node, fold-Node}
use Rattle.rb_tree.specs.declared.node.Piece.{Piece, fold-Piece}
use Rattle.rb_tree.specs.declared.node.Target.{Target, fold-Target}
use Rattle.rb_tree.specs.declared.node.Block.{Block, fold-Block}
use Rattle.rb_tree.specs.declared.node.Node.TheOpen.{Node-F, Piece-F, Target-F, Block-F}
use Rattle.rb_tree.specs.declared.node.Node.TheOpen as node
use Rattle.rb_tree.specs.Place.{place}
use Rattle.rb_checker.specs.declared.event.Event.{Event}
use Rattle.rb_checker.specs.declared.event.Sight.{Sight}
use Rattle.rb_checker.specs.declared.event.Sight.TheVariants as sight
use Rattle.rb_checker.specs.declared.event.Around.{Around as Enclosure}
use Rattle.rb_checker.specs.declared.event.Around.TheVariants as around

abbrev pub event : Sight → Span → Event
event s at = record { sight = s; at = at }

abbrev pub alone : Sight → Span → List Event
alone s at = event s at ∷ []

-- events inside something
abbrev pub inside : Enclosure → Span → List Event → List Event
inside a at events = event (sight.Begins a) at ∷ events ++ event sight.Ends at ∷ []

-- a part of the text with its place
pub record Part : Type 0 where
  pub at : Span
  pub events : List Event

abbrev pub all_of : List Part → List Event
all_of parts = flat_map (λ (p : Part). p.events) parts

abbrev pub pairs_of : List (Part × Part) → List Event
pairs_of pairs = flat_map (λ (p : Part × Part). p.0.events ++ p.1.events) pairs

abbrev pub if_some : Option Part → List Event
if_some None = []
if_some (Some p) = p.events

abbrev pub pieces_of : List (List Event) → List Event
pieces_of pieces = flat_map (λ (p : List Event). p) pieces

abbrev pub params_of : List Param → List Event
params_of params = map (λ (p : Param). event (sight.Param p.name) p.at) params

-- whether a body of such places stands before the word of its choice or loop, as it does with a modifier
abbrev pub is_behind : Span → List Span → Bool
is_behind at [] = false
is_behind at (first ∷ more) = nat_lt first.from at.from

-- a condition and a body, in the order of the text
abbrev pub in_order : Span → List Event → List Part → List Event
in_order at condition body = if is_behind at (map (λ (p : Part). p.at) body) then all_of body ++ condition else condition ++ all_of body

-- a block: its place, and its parameters and body
abbrev pub block_step : Block-F Part (List Event) (Span → List Event → List Event) Part → Part
block_step block = record { at = block.at; events = params_of block.params ++ all_of block.body }

abbrev pub piece_step : Piece-F Part (List Event) (Span → List Event → List Event) Part → List Event
piece_step (node.Text text) = []
piece_step (node.Code code) = code.events

-- An assignment with an operator, at its mark, whose right side is given.
abbrev pub target_step : Target-F Part (List Event) (Span → List Event → List Event) Part → Span → List Event → List Event
target_step (node.«Target::Local» name) at value = event (sight.Assigns name) at ∷ inside (around.Value name) at value
target_step (node.«Target::Field» name) at value = event (sight.Field name) at ∷ value
target_step (node.«Target::Global» name) at value = event (sight.Global name) at ∷ value
target_step (node.Index receiver index) at value = receiver.events ++ (index.events ++ value)
target_step (node.Attribute receiver name) at value = receiver.events ++ value

-- a call without receiver calls a method by its name alone
abbrev pub receiver_step : Option Part → NameId → Span → List Event
receiver_step None name at = alone (sight.Calls name) at
receiver_step (Some receiver) name at = receiver.events

abbrev pub called_block : Option Part → List Event
called_block None = []
called_block (Some block) = inside around.Block block.at block.events

-- the bodies of threads are given
module _ (body_of : ℕ → List Event) where
  abbrev pub node_events : Node-F Part (List Event) (Span → List Event → List Event) Part → List Event
  node_events (node.SelfRef at) = alone sight.SelfRef at
  node_events (node.Str pieces at) = pieces_of pieces
  node_events (node.Array items at) = all_of items
  node_events (node.Hash pairs at) = pairs_of pairs
  node_events (node.«Node::Local» name at) = alone (sight.Reads name) at
  node_events (node.«Node::Field» name at) = alone (sight.Field name) at
  node_events (node.«Node::Global» name at) = alone (sight.Global name) at
  node_events (node.SetLocal name value at) = event (sight.Assigns name) at ∷ inside (around.Value name) at value.events
  node_events (node.SetField name value at) = event (sight.Field name) at ∷ value.events
  node_events (node.SetGlobal name value at) = event (sight.Global name) at ∷ value.events
  node_events (node.Store receiver name args at) = receiver.events ++ all_of args
  node_events (node.OpAssign target op value at) = target at value.events
  node_events (node.Call receiver name args block at) = receiver_step receiver name at ++ (all_of args ++ called_block block)
  node_events (node.New class args at) = event (sight.Makes class) at ∷ all_of args
  node_events (node.ThreadNew args body at) = event (sight.Starts body) at ∷ all_of args ++ inside around.Thread at (body_of body)
  node_events (node.And left right at) = left.events ++ right.events
  node_events (node.Or left right at) = left.events ++ right.events
  node_events (node.Not value at) = value.events
  node_events (node.If condition first second at) = in_order at condition.events first ++ all_of second
  node_events (node.While condition body at) = inside around.Loop at (in_order at condition.events body)
  node_events (node.Return value at) = event sight.Returns at ∷ if_some value
  node_events (node.Break at) = alone sight.Leaves at
  node_events (node.Next at) = alone sight.Leaves at
  node_events leaf = []

  abbrev pub node_step : Node-F Part (List Event) (Span → List Event → List Event) Part → Part
  node_step n = record { at = place n; events = node_events n }

  -- a node, and a block
  unfoldable pub part_of : Node → Part
  part_of = fold-Node Part (List Event) (Span → List Event → List Event) Part node_step piece_step target_step block_step

  unfoldable pub block_part : Block → Part
  block_part = fold-Block Part (List Event) (Span → List Event → List Event) Part node_step piece_step target_step block_step

  unfoldable pub piece_events : Piece → List Event
  piece_events = fold-Piece Part (List Event) (Span → List Event → List Event) Part node_step piece_step target_step block_step

  unfoldable pub target_events : Target → Span → List Event → List Event
  target_events = fold-Target Part (List Event) (Span → List Event → List Event) Part node_step piece_step target_step block_step

  -- the events of a node, of statements and of pairs
  abbrev pub events_of : Node → List Event
  events_of n = (part_of n).events

  abbrev pub events_of_all : List Node → List Event
  events_of_all nodes = all_of (map part_of nodes)

  abbrev pub pair_parts : Node × Node → Part × Part
  pair_parts p = (part_of p.0, part_of p.1)

  -- parameters and the statements behind them
  abbrev pub events_in : List Param → List Node → List Event
  events_in params body = params_of params ++ all_of (map part_of body)

-- The bodies of threads by their numbers, from one on. A thread that is started in a body has a greater number than that body.
abbrev pub bodies_from : ℕ → List Block → ℕ → List Event
bodies_from first [] number = []
bodies_from first (b ∷ more) number = if number == first then (block_part (bodies_from (first + 1) more) b).events else bodies_from (first + 1) more number
