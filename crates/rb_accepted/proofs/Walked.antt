-- Where reading stands in a text, and what it is for each making of a tree to carry a relation from one such point to another.
use Rattle.std.proofs.Common.{◌≡◌, refl, ap, ◌∙◌, ℕ, suc, ◌≤◌, ◌<◌, true, List, [], ◌∷◌, Some, None, arith}
use Rattle.std.specs.Prelude.{ℤ}
use Rattle.rb_tree.specs.declared.span.Span.{Span}
use Rattle.rb_tree.specs.declared.node.AssignOp.{AssignOp}
use Rattle.rb_tree.specs.declared.node.Node.TheVariants as node
use Rattle.rb_lexer.specs.declared.token.Token.{Token}
use Rattle.rb_grammar.specs.Tree.{Text, Word, Tree, BlockTree, PieceTree, TargetTree, MethodTree, ClassTree, Members, Items, code_of, flat}
use Rattle.rb_grammar.specs.Tree as tree
use Rattle.rb_grammar.specs.Scope.{Scope, is_local, top_level, enter_method, enter_block, leave, with_params, with_target}
use Rattle.rb_grammar.specs.Faithful.{Each}
use Rattle.rb_accepted.specs.Coded.{begins_word}

-- the scopes of the grammar, and a place before which all tokens stand that are read, and behind which or at which all others do
pub record Point : Type 0 where
  pub scopes : Scope
  pub from : ℕ

abbrev pub point : Scope → ℕ → Point
point scopes from = record { scopes = scopes; from = from }

-- before a token and behind it, and where the scopes have changed
abbrev pub before : Point → Token → Point
before x t = point x.scopes t.at.from

abbrev pub behind : Point → Token → Point
behind x t = point x.scopes (suc t.at.from)

abbrev pub changed : (Scope → Scope) → Point → Point
changed f x = point (f x.scopes) x.from

-- further on in the same scopes
abbrev pub On : Point → Point → Type 0
On x y = (x.scopes ≡ y.scopes) × (x.from ≤ y.from)

-- a place between two points
pub record Within (x : Point) (at : Span) (y : Point) : Type 0 where
  pub above : x.from ≤ at.from
  pub below : at.from < y.from

-- a word that begins one
abbrev pub IsNamed : Word → Type 0
IsNamed w = begins_word w.text ≡ true

pub stay : (x : Point) → On x x
stay x = (refl, omega arith)

pub on_on : (x y z : Point) → On x y → On y z → On x z
on_on x y z h k =
    let one : x.from ≤ y.from = h.1 in
    let two : y.from ≤ z.from = k.1 in
    (h.0 ∙ k.0, omega arith)

-- up to a token, and behind one
pub up_to : (x y : Point) (t : Token) → On x y → y.from ≤ t.at.from → On x (before y t)
up_to x y t h l = let one : x.from ≤ y.from = h.1 in (h.0, omega arith)

pub step : (x y : Point) (t : Token) → On x y → y.from ≤ t.at.from → On x (behind y t)
step x y t h l = let one : x.from ≤ y.from = h.1 in (h.0, omega arith)

pub on_changed : (f : Scope → Scope) (x y : Point) → On x y → On (changed f x) (changed f y)
on_changed f x y h = (ap f h.0, h.1)

-- a token that comes is between what was before it and what is behind it
pub token_within : (x y : Point) (t : Token) → x.from ≤ y.from → y.from ≤ t.at.from → Within x t.at (behind y t)
token_within x y t h l = record { above = omega arith; below = omega arith }

pub within_on : (x y z : Point) (at : Span) → Within x at y → y.from ≤ z.from → Within x at z
within_on x y z at w l = let below : at.from < y.from = w.below in record { above = w.above; below = omega arith }

-- a token that comes is between, where reading goes on behind it
pub here_within : (x y z : Point) (t : Token) → x.from ≤ y.from → y.from ≤ t.at.from → suc t.at.from ≤ z.from → Within x t.at z
here_within x y z t h l m = record { above = omega arith; below = omega arith }

module _ (W : Point → Tree → Point → Type 0) where
  -- trees one behind the other
  abbrev pub Walks : Point → List Tree → Point → Type 0
  Walks x [] y = On x y
  Walks x (a ∷ more) y = (m : Point) × (W x a m × Walks m more y)

  -- what stands before an assignment mark
  abbrev pub TargetIn : Point → TargetTree → Point → Type 0
  TargetIn x (tree.to_index r j bracket) y = (m : Point) × (W x r m × W m j y)
  TargetIn x (tree.to_attribute r w) y = W x r y × IsNamed w
  TargetIn x variable y = On x y

  -- parameters and statements in a scope that begins at a point, and is left at another
  pub record BodyIn (x : Point) (ws : List Word) (xs : List Tree) (y : Point) : Type 0 where
    pub last : Point
    pub walks : Walks (changed (with_params ws) x) xs last
    pub left : leave last.scopes ≡ y.scopes
    pub on : last.from ≤ y.from

  abbrev pub BlockIn : Point → BlockTree → Point → Type 0
  BlockIn x b y = BodyIn (changed enter_block x) b.params b.body y

  abbrev pub MethodIn : Point → MethodTree → Point → Type 0
  MethodIn x f y = IsNamed f.name × BodyIn (changed enter_method x) f.params f.body y

-- A relation of trees between two points that each making carries on, in the order of the text, and so for methods of a class and the items of a script
pub record IsWalked (W : Point → Tree → Point → Type 0) (M : Point → Members → Point → Type 0) (I : Items → Point → Type 0) : Type 0 where
  pub mono : (x y : Point) (a : Tree) → W x a y → x.from ≤ y.from
  pub wider : (w x y z : Point) (a : Tree) → On w x → W x a y → On y z → W w a z
  pub of_local : (x y : Point) (w : Word) → is_local w.text x.scopes ≡ true → On x y → Within x w.at y → W x (tree.local w) y
  pub of_field : (x y : Point) (w : Word) → On x y → Within x w.at y → W x (tree.field w) y
  pub of_global : (x y : Point) (w : Word) → On x y → Within x w.at y → W x (tree.global w) y
  pub of_symbol : (x y : Point) (w : Word) → On x y → Within x w.at y → W x (tree.symbol w) y
  pub of_integer : (x y : Point) (value : ℤ) (at : Span) → On x y → Within x at y → W x (tree.integer value at) y
  pub of_nil : (x y : Point) (at : Span) → On x y → Within x at y → W x (tree.constant node.Nil at) y
  pub of_true : (x y : Point) (at : Span) → On x y → Within x at y → W x (tree.constant node.True at) y
  pub of_false : (x y : Point) (at : Span) → On x y → Within x at y → W x (tree.constant node.False at) y
  pub of_self : (x y : Point) (at : Span) → On x y → Within x at y → W x (tree.constant node.SelfRef at) y
  pub of_break : (x y : Point) (at : Span) → On x y → Within x at y → W x (tree.constant node.Break at) y
  pub of_next : (x y : Point) (at : Span) → On x y → Within x at y → W x (tree.constant node.Next at) y
  pub of_return : (x y : Point) (at : Span) → On x y → Within x at y → W x (tree.return_nothing at) y
  pub of_return_value : (x y : Point) (at : Span) (a : Tree) → W x a y → Within x at y → W x (tree.return_value at a) y
  pub of_call : (x y : Point) (w : Word) (args : List Tree) → Walks W x args y → Within x w.at y → W x (tree.call None w args) y
  pub of_member : (x y z : Point) (a : Tree) (w : Word) (args : List Tree) → W x a y → Walks W y args z → Within x w.at z → W x (tree.call (Some a) w args) z
  pub of_block_call : (x y z u : Point) (a : Tree) (w : Word) (args : List Tree) (b : BlockTree)
      → W x a y → Walks W y args z → BlockIn W z b u → Within x w.at u → W x (tree.call_with_block a w args b) u
  pub of_binary : (x y z : Point) (operator : Text) (at : Span) (a b : Tree) → W x a y → W y b z → Within x at z → W x (tree.binary operator at a b) z
  pub of_negated : (x y : Point) (at : Span) (a : Tree) → W x a y → Within x at y → W x (tree.negated at a) y
  pub of_minus : (x y : Point) (at : Span) (a : Tree) → W x a y → Within x at y → W x (tree.minus at a) y
  pub of_and : (x y z : Point) (at : Span) (a b : Tree) → W x a y → W y b z → Within x at z → W x (tree.and_also at a b) z
  pub of_or : (x y z : Point) (at : Span) (a b : Tree) → W x a y → W y b z → Within x at z → W x (tree.or_else at a b) z
  pub of_new : (x y : Point) (class : Word) (at : Span) (args : List Tree) → Walks W x args y → Within x at y → W x (tree.new class at args) y
  -- the word that starts a thread stands before what it is given
  pub of_thread : (x y z u : Point) (at : Span) (args : List Tree) (b : BlockTree)
      → On x y → Within x at y → Walks W y args z → BlockIn W z b u → W x (tree.thread_new at args b) u
  pub of_string : (x y : Point) (at : Span) (pieces : List PieceTree) → Walks W x (code_of pieces) y → Within x at y → W x (tree.string at pieces) y
  pub of_array : (x y : Point) (at : Span) (items : List Tree) → Walks W x items y → Within x at y → W x (tree.array at items) y
  pub of_hash : (x y : Point) (at : Span) (pairs : List (Tree × Tree)) → Walks W x (flat pairs) y → Within x at y → W x (tree.hash at pairs) y
  -- the word of a choice or a loop stands before its bodies
  pub of_choice : (x y z u : Point) (at : Span) (c : Tree) (xs ys : List Tree)
      → W x c y → at.from ≤ y.from → Walks W y xs z → Walks W z ys u → Within x at u → W x (tree.choice at c xs ys) u
  pub of_loop : (x y z : Point) (at : Span) (c : Tree) (xs : List Tree)
      → W x c y → at.from ≤ y.from → Walks W y xs z → Within x at z → W x (tree.loop at c xs) z
  -- but behind the one that it goes on behind
  pub of_choice_behind : (x y z : Point) (at : Span) (b c : Tree) → W x b y → y.from ≤ at.from → W y c z → Within x at z → W x (tree.choice_behind at b c) z
  pub of_loop_behind : (x y z : Point) (at : Span) (b c : Tree) → W x b y → y.from ≤ at.from → W y c z → Within x at z → W x (tree.loop_behind at b c) z
  pub of_assigned : (x y z : Point) (t : TargetTree) (at : Span) (a : Tree)
      → TargetIn W x t y → W (changed (with_target t) y) a z → Within x at z → W x (tree.assigned t at a) z
  pub of_operated : (x y z : Point) (t : TargetTree) (op : AssignOp) (at : Span) (a : Tree)
      → TargetIn W x t y → W (changed (with_target t) y) a z → Within x at z → W x (tree.operated t op at a) z
  pub members_on : (x y z : Point) (m : Members) → M x m y → On y z → M x m z
  pub no_members : (x y : Point) → On x y → M x tree.no_members y
  pub with_method : (x y z : Point) (m : Members) (f : MethodTree) → M x m y → MethodIn W y f z → M x (tree.with_method m f) z
  pub with_attributes : (x y : Point) (m : Members) (kind : Text) (ws : List Word) → M x m y → Each IsNamed ws → M x (tree.with_attributes m kind ws) y
  pub items_on : (x y : Point) (i : Items) → I i x → On x y → I i y
  pub no_items : I tree.no_items (point top_level 0)
  pub with_class : (x y : Point) (i : Items) (c : ClassTree) → I i x → M x c.members y → I (tree.with_class i c) y
  pub with_function : (x y : Point) (i : Items) (f : MethodTree) → I i x → MethodIn W x f y → I (tree.with_function i f) y
  pub with_statement : (x y : Point) (i : Items) (a : Tree) → I i x → W x a y → I (tree.with_statement i a) y
