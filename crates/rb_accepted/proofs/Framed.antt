-- The names in scope where a part of a text stands, the shape of the events of a text, and what has code where the events of a shape are right.
use Rattle.std.proofs.Common.{◌≡◌, ◌∙◌, refl, ap, ℕ, Bool, true, List, [], ◌∷◌, ◌++◌, Some}
use Rattle.std.specs.Prelude.{◌&&◌}
use Rattle.rb_tree.specs.declared.span.Span.{Span}
use Rattle.rb_tree.specs.declared.span.NameId.{NameId}
use Rattle.rb_checker.specs.declared.event.Event.{Event}
use Rattle.rb_checker.specs.declared.event.Sight.{Sight}
use Rattle.rb_checker.specs.declared.event.Sight.TheVariants as sight
use Rattle.rb_checker.specs.declared.event.Around.{Around as Enclosure}
use Rattle.rb_checker.specs.declared.event.Around.TheVariants as around
use Rattle.rb_checker.specs.Around.{Open}
use Rattle.rb_checker.specs.Events.{event, inside}
use Rattle.rb_checker.specs.Locals.{Use}
use Rattle.rb_checker.specs.Scoped.{names_in}
use Rattle.rb_checker.specs.Captured.{frame_at}
use Rattle.rb_accepted.specs.Coded.{is_seen, are_seen}

-- the names in scope where these stand round, by all uses and by the names of the text itself
abbrev pub frame : List Use → List NameId → Open → List NameId
frame uses own [] = own
frame uses own ((around.Block, at) ∷ outer) = frame uses own outer ++ names_in uses (Some at.from)
frame uses own ((around.Thread, at) ∷ outer) = frame_at uses at.from
frame uses own (other ∷ outer) = frame uses own outer

-- ---- the events of a text

-- The shape of a part of a text: what stands in what. The bodies of threads are known by their numbers alone.
pub data Shape : Type 0 where
  nothing : Shape
  single : (s : Sight) (at : Span) → Shape
  both : (first second : Shape) → Shape
  inner : (a : Enclosure) (at : Span) (body : Shape) → Shape
  start : (number : ℕ) (at : Span) (args : Shape) → Shape

-- its events, where these are the bodies of threads
abbrev pub spelled : (ℕ → List Event) → Shape → List Event
spelled b nothing = []
spelled b (single s at) = event s at ∷ []
spelled b (both first second) = spelled b first ++ spelled b second
spelled b (inner a at body) = inside a at (spelled b body)
spelled b (start number at args) = event (sight.Starts number) at ∷ spelled b args ++ inside around.Thread at (b number)

-- an event that begins, ends and starts nothing
abbrev pub IsPlain : Sight → Type 0
IsPlain (sight.Begins a) = ⊥
IsPlain sight.Ends = ⊥
IsPlain (sight.Starts body) = ⊥
IsPlain other = Unit {0}

-- what is no thread
abbrev pub IsNoThread : Enclosure → Type 0
IsNoThread around.Thread = ⊥
IsNoThread other = Unit {0}

-- each event of a shape is plain, and the bodies of threads stand at their starts alone
abbrev pub IsRight : Shape → Type 0
IsRight nothing = Unit {0}
IsRight (single s at) = IsPlain s
IsRight (both first second) = IsRight first × IsRight second
IsRight (inner a at body) = IsNoThread a × IsRight body
IsRight (start number at args) = IsRight args

-- the numbers of the bodies that are started in a shape
abbrev pub started : Shape → List ℕ
started nothing = []
started (single s at) = []
started (both first second) = started first ++ started second
started (inner a at body) = started body
started (start number at args) = number ∷ started args

-- ---- what has code

-- two that are so are so together
pub both_true : {a b : Bool} → a ≡ true → b ≡ true → (a && b) ≡ true
both_true {b = b} h k = ap (λ x. x && b) h ∙ k

-- The names that threads capture are given, and all uses of locals.
module _ (captured : ℕ → List NameId) (uses : List Use) where
  -- the names that an event speaks of are in scope where these stand round, in a text with these names of its own
  abbrev pub IsGood : List NameId → Open → Sight → Type 0
  IsGood own round (sight.Reads name) = is_seen name (frame uses own round) ≡ true
  IsGood own round (sight.Assigns name) = is_seen name (frame uses own round) ≡ true
  IsGood own round (sight.Starts body) = are_seen (captured body) (frame uses own round) ≡ true
  IsGood own round other = Unit {0}

  -- and so is each event of a shape
  abbrev pub ShapeGood : List NameId → Open → Shape → Type 0
  ShapeGood own round nothing = Unit {0}
  ShapeGood own round (single s at) = IsGood own round s
  ShapeGood own round (both first second) = ShapeGood own round first × ShapeGood own round second
  ShapeGood own round (inner a at body) = ShapeGood own ((a, at) ∷ round) body
  ShapeGood own round (start number at args) = IsGood own round (sight.Starts number) × ShapeGood own round args

  -- Something with these events has code where those are good.
  pub record Makes (es : (ℕ → List Event) → List Event) (has : List NameId → Bool) : Type 0 where
    pub shape : Shape
    pub right : IsRight shape
    pub events : (b : ℕ → List Event) → es b ≡ spelled b shape
    pub codes : (own : List NameId) (round : Open) → ShapeGood own round shape → has (frame uses own round) ≡ true

  -- the same events and the same code, said otherwise
  pub makes_by : {es fs : (ℕ → List Event) → List Event} {f g : List NameId → Bool} → ((b : ℕ → List Event) → fs b ≡ es b) → ((scope : List NameId) → g scope ≡ f scope)
      → Makes es f → Makes fs g
  makes_by same alike m = record {
    shape = m.shape;
    right = m.right;
    events = λ b. same b ∙ m.events b;
    codes = λ own round good. alike (frame uses own round) ∙ m.codes own round good;
  }

  pub makes_nothing : Makes (λ b. []) (λ scope. true)
  makes_nothing = record { shape = nothing; right = tt; events = λ b. refl; codes = λ own round good. refl }

  pub makes_single : (s : Sight) (at : Span) (has : List NameId → Bool) → IsPlain s
      → ((own : List NameId) (round : Open) → IsGood own round s → has (frame uses own round) ≡ true) → Makes (λ b. event s at ∷ []) has
  makes_single s at has plain h = record { shape = single s at; right = plain; events = λ b. refl; codes = h }

  -- one behind the other
  pub makes_both : (es fs : (ℕ → List Event) → List Event) (f g : List NameId → Bool) → Makes es f → Makes fs g
      → Makes (λ b. es b ++ fs b) (λ scope. f scope && g scope)
  makes_both es fs f g m n = record {
    shape = both m.shape n.shape;
    right = (m.right, n.right);
    events = λ b. ap (λ x. x ++ fs b) (m.events b) ∙ ap (λ x. spelled b m.shape ++ x) (n.events b);
    codes = λ own round good. both_true (m.codes own round good.0) (n.codes own round good.1);
  }

  -- in the other order
  pub makes_swapped : (es fs : (ℕ → List Event) → List Event) (f g : List NameId → Bool) → Makes es f → Makes fs g
      → Makes (λ b. fs b ++ es b) (λ scope. f scope && g scope)
  makes_swapped es fs f g m n = record {
    shape = both n.shape m.shape;
    right = (n.right, m.right);
    events = λ b. ap (λ x. x ++ es b) (n.events b) ∙ ap (λ x. spelled b n.shape ++ x) (m.events b);
    codes = λ own round good. both_true (m.codes own round good.1) (n.codes own round good.0);
  }

  -- the value of an assignment, the body of a loop, and a block, whose names lie behind those round it
  pub makes_value : (name : NameId) (at : Span) (es : (ℕ → List Event) → List Event) (f : List NameId → Bool) → Makes es f
      → Makes (λ b. inside (around.Value name) at (es b)) f
  makes_value name at es f m = record {
    shape = inner (around.Value name) at m.shape;
    right = (tt, m.right);
    events = λ b. ap (inside (around.Value name) at) (m.events b);
    codes = λ own round good. m.codes own ((around.Value name, at) ∷ round) good;
  }

  pub makes_loop : (at : Span) (es : (ℕ → List Event) → List Event) (f : List NameId → Bool) → Makes es f → Makes (λ b. inside around.Loop at (es b)) f
  makes_loop at es f m = record {
    shape = inner around.Loop at m.shape;
    right = (tt, m.right);
    events = λ b. ap (inside around.Loop at) (m.events b);
    codes = λ own round good. m.codes own ((around.Loop, at) ∷ round) good;
  }

  pub makes_block : (at : Span) (es : (ℕ → List Event) → List Event) (f : List NameId → Bool) → Makes es f
      → Makes (λ b. inside around.Block at (es b)) (λ scope. f (scope ++ names_in uses (Some at.from)))
  makes_block at es f m = record {
    shape = inner around.Block at m.shape;
    right = (tt, m.right);
    events = λ b. ap (inside around.Block at) (m.events b);
    codes = λ own round good. m.codes own ((around.Block, at) ∷ round) good;
  }

  -- a thread that is started captures names that are in scope; its body is known by its number
  pub makes_start : (number : ℕ) (at : Span) (es : (ℕ → List Event) → List Event) (f : List NameId → Bool) → Makes es f
      → Makes (λ b. event (sight.Starts number) at ∷ es b ++ inside around.Thread at (b number)) (λ scope. are_seen (captured number) scope && f scope)
  makes_start number at es f m = record {
    shape = start number at m.shape;
    right = m.right;
    events = λ b. ap (λ x. event (sight.Starts number) at ∷ x ++ inside around.Thread at (b number)) (m.events b);
    codes = λ own round good. both_true good.0 (m.codes own round good.1);
  }

  -- an event that says nothing of locals stands before
  pub makes_behind : (s : Sight) (at : Span) (es : (ℕ → List Event) → List Event) (f : List NameId → Bool) → IsPlain s → Makes es f → Makes (λ b. event s at ∷ es b) f
  makes_behind s at es f plain m = record {
    shape = both (single s at) m.shape;
    right = (plain, m.right);
    events = λ b. ap (λ x. event s at ∷ x) (m.events b);
    codes = λ own round good. m.codes own round good.1;
  }

  -- a name that is assigned, and its value
  pub makes_assigned : (name : NameId) (at : Span) (es : (ℕ → List Event) → List Event) (f : List NameId → Bool) → Makes es f
      → Makes (λ b. event (sight.Assigns name) at ∷ inside (around.Value name) at (es b)) (λ scope. is_seen name scope && f scope)
  makes_assigned name at es f m =
      makes_both (λ b. event (sight.Assigns name) at ∷ []) (λ b. inside (around.Value name) at (es b)) (is_seen name) f
      (makes_single (sight.Assigns name) at (is_seen name) tt (λ own round good. good)) (makes_value name at es f m)
