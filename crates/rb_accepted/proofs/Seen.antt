-- What the grammar says of the texts of a program: each local that is read is known where it is read, and each body of a thread is started once.
use Rattle.std.proofs.Common.{◌≡◌, ℕ, ◌<◌, Bool, true, List, [], ◌∷◌, ◌++◌, map, length, Option, Some, None}
use Rattle.std.specs.Prelude.{◌&&◌, is_some, nat_eq, slice_get}
use Rattle.std.specs.List.{flat_map, list_all, list_any}
use Rattle.rb_tree.specs.declared.span.Span.{Span}
use Rattle.rb_tree.specs.declared.span.NameId.{NameId}
use Rattle.rb_tree.specs.declared.node.Node.{Node, fold-Node}
use Rattle.rb_tree.specs.declared.node.Piece.{Piece, fold-Piece}
use Rattle.rb_tree.specs.declared.node.Target.{Target, fold-Target}
use Rattle.rb_tree.specs.declared.node.Block.{Block, fold-Block}
use Rattle.rb_tree.specs.declared.node.Node.TheOpen.{Node-F, Piece-F, Target-F, Block-F}
use Rattle.rb_tree.specs.declared.node.Node.TheOpen as node
use Rattle.rb_tree.specs.declared.node.Program.{Program}
use Rattle.rb_tree.specs.declared.node.Class.{Class}
use Rattle.rb_tree.specs.declared.node.Method.{Method}
use Rattle.rb_grammar.specs.Faithful.{Each}
use Rattle.rb_grammar.specs.Order.{Distinct}
use Rattle.rb_checker.specs.declared.event.Event.{Event}
use Rattle.rb_checker.specs.declared.event.Sight.{Sight}
use Rattle.rb_checker.specs.declared.event.Sight.TheVariants as sight
use Rattle.rb_checker.specs.declared.locals.Local.{Local}
use Rattle.rb_checker.specs.Around.{Open, placed}
use Rattle.rb_checker.specs.Check.{texts}
use Rattle.rb_checker.specs.Events.{block_part}
use Rattle.rb_checker.specs.Locals.{scopes_of, known_in, known_behind, use_of}
use Rattle.rb_accepted.specs.Unbuilt.{text_of}
use Rattle.rb_accepted.specs.Coded.{begins_word}

-- a local that is read is known where these stand round
abbrev pub ReadIsKnown : List Local → Open → Sight → Type 0
ReadIsKnown known round (sight.Reads name) = is_some (known_in known name (scopes_of round)) ≡ true
ReadIsKnown known round other = Unit {0}

-- and so is each one that is read in a text, where these are known before it
abbrev pub ReadsAreKnown : List Local → List (Open × Event) → Type 0
ReadsAreKnown known [] = Unit {0}
ReadsAreKnown known (p ∷ more) =
    ReadIsKnown known p.0 p.1.sight × ReadsAreKnown (known_behind known (use_of known p.0 p.1.sight p.1.at)) more

-- the start of a thread: the number of its body, and the place where it stands
pub record Start : Type 0 where
  pub number : ℕ
  pub place : ℕ

abbrev pub start_at : Sight → Span → List Start
start_at (sight.Starts body) at = (record { number = body; place = at.from }) ∷ []
start_at other at = []

-- the threads that events start
abbrev pub starts_in : List Event → List Start
starts_in events = flat_map (λ (e : Event). start_at e.sight e.at) events

abbrev pub numbers_of : List Start → List ℕ
numbers_of = map (λ (s : Start). s.number)

abbrev pub places_of : List Start → List ℕ
places_of = map (λ (s : Start). s.place)

-- the threads that a body starts itself
abbrev pub own_starts : Block → List Start
own_starts b = starts_in (block_part (λ number. []) b).events

-- ---- words

abbrev pub pair_worded : Bool × Bool → Bool
pair_worded pair = pair.0 && pair.1

abbrev pub all_true : List Bool → Bool
all_true bs = list_all (λ (b : Bool). b) bs

abbrev pub if_there : Option Bool → Bool
if_there None = true
if_there (Some b) = b

-- whether each attribute that is assigned with an operator has a word for its name
module _ (names : List (List ℕ)) where
  abbrev pub target_step : Target-F Bool Bool Bool Bool → Bool
  target_step (node.Index receiver index) = receiver && index
  target_step (node.Attribute receiver name) = begins_word (text_of names name) && receiver
  target_step variable = true

  abbrev pub piece_step : Piece-F Bool Bool Bool Bool → Bool
  piece_step (node.Text text) = true
  piece_step (node.Code code) = code

  abbrev pub block_step : Block-F Bool Bool Bool Bool → Bool
  block_step block = all_true block.body

  abbrev pub node_step : Node-F Bool Bool Bool Bool → Bool
  node_step (node.Str pieces at) = all_true pieces
  node_step (node.Array items at) = all_true items
  node_step (node.Hash pairs at) = all_true (map pair_worded pairs)
  node_step (node.SetLocal name value at) = value
  node_step (node.SetField name value at) = value
  node_step (node.SetGlobal name value at) = value
  node_step (node.Store receiver name args at) = receiver && all_true args
  node_step (node.OpAssign target op value at) = target && value
  node_step (node.Call receiver name args block at) = if_there receiver && (all_true args && if_there block)
  node_step (node.New class args at) = all_true args
  node_step (node.ThreadNew args body at) = all_true args
  node_step (node.And first second at) = first && second
  node_step (node.Or first second at) = first && second
  node_step (node.Not value at) = value
  node_step (node.If condition first second at) = condition && (all_true first && all_true second)
  node_step (node.While condition body at) = condition && all_true body
  node_step (node.Return value at) = if_there value
  node_step leaf = true

  unfoldable pub worded : Node → Bool
  worded = fold-Node Bool Bool Bool Bool node_step piece_step target_step block_step

  unfoldable pub piece_is_worded : Piece → Bool
  piece_is_worded = fold-Piece Bool Bool Bool Bool node_step piece_step target_step block_step

  unfoldable pub target_is_worded : Target → Bool
  target_is_worded = fold-Target Bool Bool Bool Bool node_step piece_step target_step block_step

  unfoldable pub block_is_worded : Block → Bool
  block_is_worded = fold-Block Bool Bool Bool Bool node_step piece_step target_step block_step

  abbrev pub all_worded : List Node → Bool
  all_worded nodes = all_true (map worded nodes)

  abbrev pub has_word : Method → Bool
  has_word m = begins_word (text_of names m.name)

-- ---- what is known of a program that is spelled

pub record IsSeen (program : Program) : Type 0 where
  -- each local that is read is known, in each text
  pub reads : Each (λ (events : List Event). ReadsAreKnown [] (placed [] events)) (texts program)
  -- each body is started, once, and no two threads start at one place
  pub numbers : Distinct (numbers_of (starts_in (flat_map (λ (events : List Event). events) (texts program))))
  pub places : Distinct (places_of (starts_in (flat_map (λ (events : List Event). events) (texts program))))
  pub started : (number : ℕ) → number < length program.bodies
      → list_any (nat_eq number) (numbers_of (starts_in (flat_map (λ (events : List Event). events) (texts program)))) ≡ true
  -- a thread that is started has a body, and one that is started in a body a greater number than that
  pub bound : Each (λ number. number < length program.bodies) (numbers_of (starts_in (flat_map (λ (events : List Event). events) (texts program))))
  pub greater : (number : ℕ) (b : Block) → slice_get program.bodies number ≡ Some b → Each (λ n. number < n) (numbers_of (own_starts b))
  -- names of methods of classes are words, and so are those of attributes
  pub members : Each (λ (k : Class). list_all (has_word program.names) k.methods ≡ true) program.classes
  pub in_classes : Each (λ (k : Class). list_all (λ (m : Method). all_worded program.names m.body) k.methods ≡ true) program.classes
  pub in_functions : list_all (λ (m : Method). all_worded program.names m.body) program.functions ≡ true
  pub in_main : all_worded program.names program.main ≡ true
  pub in_bodies : list_all (block_is_worded program.names) program.bodies ≡ true
