-- What holds of the machine, whatever the script.
use Rattle.std.specs.Prelude.{◌≡◌, ◌<◌, ◌≤◌, ℕ, suc, ◌+◌, Bool, true, false, ◌&&◌, not, nat_lt, ℤ, pos, negsuc, ◌+ℤ◌, ◌*ℤ◌, ◌≤ℤ◌, ◌<ℤ◌, int_lt, List, [], ◌∷◌, ◌++◌, length, map, take, slice_get, Option, Some, None, codes}
use Rattle.std.specs.Option.{is_some}
use Rattle.std.specs.List.{list_any}
use Rattle.rb_tree.specs.declared.span.Span.{Span}
use Rattle.rb_tree.specs.declared.span.NameId.{NameId}
use Rattle.rb_tree.specs.declared.node.Node.{Node, out-Node}
use Rattle.rb_tree.specs.declared.node.Node.TheOpen as node
use Rattle.rb_tree.specs.declared.node.Block.{Block}
use Rattle.rb_tree.specs.declared.node.Method.{Method}
use Rattle.rb_tree.specs.declared.node.Class.{Class}
use Rattle.rb_tree.specs.declared.node.Piece.{Piece}
use Rattle.rb_tree.specs.declared.node.Program.{Program}
use Rattle.rb_tree.specs.declared.node.AssignOp.TheVariants.{OrElse, AndThen}
use Rattle.rb_model.specs.declared.fault.Fault.TheVariants.{TooDeep, ZeroDivision, ArgumentCount, TextTooLong, BadKey}
use Rattle.rb_model.specs.declared.value.Sort.TheVariants as sort
use Rattle.rb_model.specs.Values.{Value, Nil, Int, Str, To, Reference, truthy}
use Rattle.rb_model.specs.Acts.{Act, At, Len, Copy, Reply}
use Rattle.rb_model.specs.Private.{Private, held}
use Rattle.rb_model.specs.Things.{Object, Elements, Pairs, gathered}
use Rattle.rb_model.specs.Ends.{End, Steps, Raised}
use Rattle.rb_model.specs.Ends as ending
use Rattle.rb_model.specs.Log.{Call, Entry, Log, prints, last_step}
use Rattle.rb_model.specs.Log as log
use Rattle.rb_machine.specs.Scopes.{Script, Scope, Text, text_of, Locals, with_locals, found, look, assign, fresh}
use Rattle.rb_machine.specs.Control.{Control, State, On, Eval, Give, Leave, Following, Looping, Turning, Passing, Break, Next, Return, Turns, Counting, Cont, Then, Under, Test, Again, Turn, Owning, Frame, Aim, OnReceiver, Creating, Place, Argument, Initialize, Instead, Making, ReceiverOf, RightOfAnd, RightOfOr, ReadOf, WriteTo, PieceOf, JoinTo, WriteBehind, TextOf, Joining, Drafting, Lines, Plain, EachPair, WithElement, Locked, Ended, max_depth}
use Rattle.rb_machine.specs.Texts.{max_bytes, line_of}
use Rattle.rb_machine.specs.Methods.{deed, integer, Raises, quotient, modulo}
use Rattle.rb_machine.specs.Control.{Walking, Walk, Map, Select, ElementBelow, Calling, Reading, ForText, Listing, Pairing, Draft, Open, Inspected, OfValue, Between}
use Rattle.rb_machine.specs.Drafts.{Needs, Element, needs, is_array, is_collection, is_open, again}
use Rattle.rb_machine.specs.Turns.{turned, holding, given, finish, start_turn}
use Rattle.rb_machine.specs.Call.{perform, class_from, texted, methods_of, give_text, write, print, raised, pairs_of}
use Rattle.rb_machine.specs.Give.{back, give, leave}
use Rattle.rb_machine.specs.Move.{Next as Coming, Go, Ask, Begin, Stop, move, replied, left_in, IsWant}
use Rattle.rb_machine.specs.Follows.{Follows}
use Rattle.rb_machine.specs.Alone.{Runs, Alone, opening}

-- from a state to another by silent moves
pub data Quiet (S : Script) : State → State → Type 0 where
  stays : (s : State) → Quiet S s s
  moves : (s t u : State) → move S s ≡ Go t → Quiet S t u → Quiet S s u

-- Every state comes by silent moves to one where the machine wants something or ends. None is stuck, and none goes on for good in silence.
abbrev pub IsNeverStuck : Type 0
IsNeverStuck = (S : Script) (s : State) → (t : State) × Quiet S s t × IsWant (move S t) × (left_in t ≤ left_in s)

-- a script with a budget of steps has at most one run
abbrev pub HasOneRun : Type 0
HasOneRun = (S : Script) (N : ℕ) (b b' : List ℕ) (e e' : End) (n n' : ℕ) → Alone S N b e n → Alone S N b' e' n' → (b ≡ b') × (e ≡ e') × (n ≡ n')

-- A script with a budget of steps comes to its end; or it asks something of a thing that is not there, or starts a thread.
pub data Finishes (S : Script) (N : ℕ) : Type 0 where
  ends : (bytes : List ℕ) (how : End) (steps : ℕ) → Alone S N bytes how steps → Finishes S N
  starts : (bytes : List ℕ) (h : Private) (s : State) (body : ℕ) (values : List Value) → Runs S N bytes h s → move S s ≡ Begin body values → Finishes S N
  misses : (bytes : List ℕ) (h : Private) (s : State) (r : Reference) (act : Act) → Runs S N bytes h s → move S s ≡ Ask r act → held h r.id ≡ None → Finishes S N

abbrev pub AlwaysFinishes : Type 0
AlwaysFinishes = (S : Script) (N : ℕ) → Finishes S N

-- A script that ends with a budget of steps, and not for want of them, does the same with every greater budget.
abbrev pub MoreStepsChangeNothing : Type 0
MoreStepsChangeNothing = (S : Script) (N M : ℕ) (b : List ℕ) (e : End) (n : ℕ) → N ≤ M → (e ≡ Steps → ⊥) → Alone S N b e n → Alone S M b e n

-- what a script shows with a budget of steps stands in front of what it shows with a greater one
abbrev pub MoreStepsShowMore : Type 0
MoreStepsShowMore = (S : Script) (N M : ℕ) (b b' : List ℕ) (e e' : End) (n n' : ℕ) → N ≤ M → Alone S N b e n → Alone S M b' e' n' → (behind : List ℕ) × (b' ≡ b ++ behind)

-- with fewer steps than it took, a script ends for want of them
abbrev pub FewerStepsEndEarly : Type 0
FewerStepsEndEarly = (S : Script) (N M : ℕ) (b b' : List ℕ) (e e' : End) (n n' : ℕ) → M < n → Alone S N b e n → Alone S M b' e' n' → e' ≡ Steps

-- a script that ends for want of steps has begun all that it may
abbrev pub StepsAreUsedUp : Type 0
StepsAreUsedUp = (S : Script) (N : ℕ) (b : List ℕ) (n : ℕ) → Alone S N b Steps n → n ≡ N

-- As many steps as a script took are enough for it; but where it ended too deep, one node more was to begin, which took no step.
abbrev pub StepsTakenAreEnough : Type 0
StepsTakenAreEnough = (S : Script) (N : ℕ) (b : List ℕ) (e : End) (n : ℕ) → ((at : Span) → e ≡ Raised TooDeep at → ⊥) → Alone S N b e n → Alone S n b e n

-- whether a text that is made comes to an element or a pair
abbrev pub comes_to_element : Needs → Bool
comes_to_element (Element draft) = true
comes_to_element other = false

-- Whether a node begins; an iteration of a block, with an integer, a pair or an element, or while it owns a mutex; or the text of an element or
-- a pair.
abbrev pub begins_step : Script → State → Bool
begins_step S (On (Eval n) k sc d left) = nat_lt 0 left && nat_lt d max_depth
begins_step S (On (Turning (Counting next last answer) block) k sc d left) = nat_lt 0 left && int_lt next last
begins_step S (On (Turning (EachPair (p ∷ ps) answer) block) k sc d left) = nat_lt 0 left
begins_step S (On (Give v) (Then (WithElement array next walk block at) ∷ k) sc d left) = nat_lt 0 left
begins_step S (On (Give v) (Then (Locked mutex block at) ∷ k) sc d left) = nat_lt 0 left
begins_step S (On (Drafting draft at) k sc d left) = nat_lt 0 left && comes_to_element (needs S.program draft)
begins_step S s = false

-- one more, where that is so
abbrev pub one_more_if : Bool → ℕ → ℕ
one_more_if true n = suc n
one_more_if false n = n

-- steps are the nodes that begin, the iterations of blocks, and the texts of elements and pairs, and nothing else
abbrev pub CountsSteps : Type 0
CountsSteps = (S : Script) (s t : State) → move S s ≡ Go t → left_in s ≡ one_more_if (begins_step S s) (left_in t)

-- no reply costs a step
abbrev pub RepliesAreFree : Type 0
RepliesAreFree = (s : State) (r : Reply) → left_in (replied s r) ≡ left_in s

-- what is inside one loop, block or method: nodes and what they do with values
abbrev pub is_inner : List Cont → Bool
is_inner [] = true
is_inner (Then step ∷ k) = is_inner k
is_inner (Under depth ∷ k) = is_inner k
is_inner (c ∷ k) = false

-- what is inside one method: loops and blocks too, but none that owns a mutex, which is given back first
abbrev pub is_in_method : List Cont → Bool
is_in_method [] = true
is_in_method (Frame saved ∷ k) = false
is_in_method (Owning mutex block at kept ∷ k) = false
is_in_method (c ∷ k) = is_in_method k

-- how many nodes are under evaluation behind these
abbrev pub depth_behind : List Cont → ℕ → ℕ
depth_behind [] d = d
depth_behind (Under depth ∷ k) d = depth_behind k depth
depth_behind (c ∷ k) d = depth_behind k d

-- `break` ends the nearest loop, in its body or in its condition, and the value of the loop is nil
abbrev pub BreakEndsLoops : Type 0
BreakEndsLoops = (S : Script) (inner k : List Cont) (condition : Node) (body : List Node) (sc : Scope) (d left : ℕ) → is_inner inner ≡ true
    → Quiet S (On (Leave Break) (inner ++ Again condition body ∷ k) sc d left) (On (Give Nil) k sc (depth_behind inner d) left)
    × Quiet S (On (Leave Break) (inner ++ Test condition body ∷ k) sc d left) (On (Give Nil) k sc (depth_behind inner d) left)

-- `break` ends the nearest call with a block, whose value is then nil, and the block's own locals are gone
abbrev pub BreakEndsBlocks : Type 0
BreakEndsBlocks = (S : Script) (inner k : List Cont) (turns : Turns) (block : Block) (kept : ℕ) (sc : Scope) (d left : ℕ) → is_inner inner ≡ true
    → Quiet S (On (Leave Break) (inner ++ Turn turns block kept ∷ k) sc d left) (On (Give Nil) k (back kept sc) (depth_behind inner d) left)

-- `next` ends the iteration, with nil: the loop goes on with its condition, the block with what comes next
abbrev pub NextGoesOn : Type 0
NextGoesOn = (S : Script) (inner k : List Cont) (condition : Node) (body : List Node) (turns : Turns) (block : Block) (kept : ℕ) (sc : Scope) (d left : ℕ)
    → is_inner inner ≡ true
    → Quiet S (On (Leave Next) (inner ++ Again condition body ∷ k) sc d left) (On (Looping condition body) k sc (depth_behind inner d) left)
    × Quiet S (On (Leave Next) (inner ++ Turn turns block kept ∷ k) sc d left) (On (Turning (turned Nil turns) block) k (back kept sc) (depth_behind inner d) left)

-- `return` ends the method, out of all its loops and blocks, and gives the method's caller the value, in the caller's scope
abbrev pub ReturnEndsMethods : Type 0
ReturnEndsMethods = (S : Script) (inner k : List Cont) (v : Value) (saved sc : Scope) (d left : ℕ) → is_in_method inner ≡ true
    → Quiet S (On (Leave (Return v)) (inner ++ Frame saved ∷ k) sc d left) (On (Give v) k saved (depth_behind inner d) left)

-- what a division leaves: from 0 up to below the divisor, or, where that is negative, from above it up to 0
abbrev pub IsRestBy : ℤ → ℤ → Type 0
IsRestBy (pos n) rest = (pos 0 ≤ℤ rest) × (rest <ℤ pos n)
IsRestBy (negsuc n) rest = (negsuc n <ℤ rest) × (rest ≤ℤ pos 0)

-- the quotient and the rest make up the dividend
abbrev pub DividesBack : Type 0
DividesBack = (m n : ℤ) → (n ≡ pos 0 → ⊥) → m ≡ n *ℤ quotient m n +ℤ modulo m n

-- the rest is 0, or has the sign of the divisor and is smaller
abbrev pub RestsAreSmall : Type 0
RestsAreSmall = (m n : ℤ) → (n ≡ pos 0 → ⊥) → IsRestBy n (modulo m n)

-- no other quotient and rest do
abbrev pub DividesOneWay : Type 0
DividesOneWay = (m n q rest : ℤ) → (n ≡ pos 0 → ⊥) → m ≡ n *ℤ q +ℤ rest → IsRestBy n rest → (q ≡ quotient m n) × (rest ≡ modulo m n)

-- a division by 0 is refused, and any other answers the quotient or the rest, where it has 64 bits
abbrev pub DivisionsAnswer : Type 0
DivisionsAnswer = (P : Program) (m n : ℤ)
    → (deed P (Int m) (codes "/") (Int (pos 0) ∷ []) None ≡ Raises ZeroDivision)
    × (deed P (Int m) (codes "%") (Int (pos 0) ∷ []) None ≡ Raises ZeroDivision)
    × ((n ≡ pos 0 → ⊥) → (deed P (Int m) (codes "/") (Int n ∷ []) None ≡ integer (quotient m n)) × (deed P (Int m) (codes "%") (Int n ∷ []) None ≡ integer (modulo m n)))

-- ---- new objects

-- once its arguments are evaluated, an object of the class is made, with no instance variables
abbrev pub NewMakesAnObject : Type 0
NewMakesAnObject = (S : Script) (class : NameId) (number : ℕ) (args : List Value) (at : Span) (k : List Cont) (sc : Scope) (d left : ℕ) → class_from S 0 class S.program.classes ≡ Some number
    → move S (On (Passing (Creating class) args [] at) k sc d left) ≡ Go (On (Making (Object number [])) (Then (Initialize args at) ∷ k) sc d left)

-- the method `initialize` of the class of an object
abbrev pub initialize_of : Script → Value → Option Method
initialize_of S object = texted S (codes "initialize") (methods_of S object)

-- a class without `initialize` takes no arguments, and the object is the value of `new`
abbrev pub WithoutInitialize : Type 0
WithoutInitialize = (S : Script) (object : Value) (at : Span) (k : List Cont) (sc : Scope) (d left : ℕ) → initialize_of S object ≡ None
    → (give S object (Then (Initialize [] at)) k sc d left ≡ On (Give object) k sc d left)
    × ((v : Value) (vs : List Value) → give S object (Then (Initialize (v ∷ vs) at)) k sc d left ≡ raised ArgumentCount at left)

-- Where there is one, it is called as a method of the object; and whatever it answers or returns, the object is the value of `new`.
abbrev pub NewGivesTheObject : Type 0
NewGivesTheObject = (S : Script) (object : Value) (m : Method) (args : List Value) (at : Span) (k : List Cont) (sc : Scope) (d left : ℕ) → initialize_of S object ≡ Some m → length args ≡ length m.params
    → (give S object (Then (Initialize args at)) k sc d left
    ≡ On (Following Nil m.body) (Frame sc ∷ Then (Instead object) ∷ k) (record { me = object; locals = fresh (S.method_names m) args }) d left)
    × ((v : Value) (inner : Scope) (deep less : ℕ) → (give S v (Frame sc) (Then (Instead object) ∷ k) inner deep less ≡ On (Give v) (Then (Instead object) ∷ k) sc deep less)
    × (leave (Return v) (Frame sc) (Then (Instead object) ∷ k) inner deep less ≡ On (Give v) (Then (Instead object) ∷ k) sc deep less)
    × (give S v (Then (Instead object)) k sc deep less ≡ On (Give object) k sc deep less))

-- ---- texts of objects

-- a literal asks for the text of each value that is put in, and `puts` and `print` for that of each value in turn, but that `puts` makes the
-- lines of an array
abbrev pub TextsAreWanted : Type 0
TextsAreWanted = (S : Script) (v : Value) (vs : List Value) (bytes : List ℕ) (pieces : List Piece) (at : Span) (k : List Cont) (sc : Scope) (d left : ℕ)
    → (give S v (Then (PieceOf bytes pieces at)) k sc d left ≡ give_text S v at (Then (JoinTo bytes pieces at) ∷ k) sc d left)
    × (is_array v ≡ false → print S (codes "puts") (v ∷ vs) at k sc d left ≡ give_text S v at (Then (WriteBehind Lines [] vs at) ∷ k) sc d left)
    × (print S (codes "print") (v ∷ vs) at k sc d left ≡ give_text S v at (Then (WriteBehind Plain [] vs at) ∷ k) sc d left)

-- the method `to_s` of the class of an object
abbrev pub to_s_of : Script → Value → Option Method
to_s_of S object = texted S (codes "to_s") (methods_of S object)

-- where it has no parameters, it is called as a method of the object, and gives its answer, or what it returns, where the text was asked
abbrev pub ToSIsAsked : Type 0
ToSIsAsked = (S : Script) (object : Value) (m : Method) (at : Span) (k : List Cont) (sc : Scope) (d left : ℕ) → to_s_of S object ≡ Some m → length m.params ≡ 0
    → (give_text S object at k sc d left ≡ On (Following Nil m.body) (Frame sc ∷ Then (TextOf object) ∷ k) (record { me = object; locals = fresh (S.method_names m) [] }) d left)
    × ((v : Value) (inner : Scope) (deep less : ℕ) → (give S v (Frame sc) (Then (TextOf object) ∷ k) inner deep less ≡ On (Give v) (Then (TextOf object) ∷ k) sc deep less)
    × (leave (Return v) (Frame sc) (Then (TextOf object) ∷ k) inner deep less ≡ On (Give v) (Then (TextOf object) ∷ k) sc deep less))

-- A string that is answered is the text. It joins a literal as it is, and what `puts` writes as a line, where that does not grow too long.
abbrev pub StringsAreTexts : Type 0
StringsAreTexts = (S : Script) (object : Value) (text bytes : List ℕ) (pieces : List Piece) (vs : List Value) (at : Span) (k : List Cont) (sc : Scope) (d left : ℕ)
    → (give S (Str text) (Then (TextOf object)) k sc d left ≡ On (Give (Str text)) k sc d left)
    × (length (bytes ++ text) ≤ max_bytes → give S (Str text) (Then (JoinTo bytes pieces at)) k sc d left ≡ On (Joining (bytes ++ text) pieces at) k sc d left)
    × (max_bytes < length (bytes ++ text) → give S (Str text) (Then (JoinTo bytes pieces at)) k sc d left ≡ raised TextTooLong at left)
    × (length (bytes ++ line_of text) ≤ max_bytes → give S (Str text) (Then (WriteBehind Lines bytes vs at)) k sc d left ≡ write S Lines (bytes ++ line_of text) vs at k sc d left)
    × (max_bytes < length (bytes ++ line_of text) → give S (Str text) (Then (WriteBehind Lines bytes vs at)) k sc d left ≡ raised TextTooLong at left)

-- `#<Name>`, by the name of a class
abbrev pub name_told : Script → Class → Text
name_told S class = codes "#<" ++ text_of S class.name ++ codes ">"

abbrev pub is_string : Value → Bool
is_string (Str bytes) = true
is_string other = false

-- where the answer is another value, where there is no `to_s`, and where it has parameters, the text is told by the name of the class
abbrev pub OthersAreTold : Type 0
OthersAreTold = (S : Script) (object : Reference) (number : ℕ) (class : Class) (at : Span) (k : List Cont) (sc : Scope) (d left : ℕ)
    → object.sort ≡ sort.Object number → slice_get S.program.classes number ≡ Some class
    → ((v : Value) → is_string v ≡ false → give S v (Then (TextOf (To object))) k sc d left ≡ On (Give (Str (name_told S class))) k sc d left)
    × (to_s_of S (To object) ≡ None → give_text S (To object) at k sc d left ≡ On (Give (Str (name_told S class))) k sc d left)
    × ((m : Method) → to_s_of S (To object) ≡ Some m → 0 < length m.params → give_text S (To object) at k sc d left ≡ On (Give (Str (name_told S class))) k sc d left)

-- ---- arrays and hashes

abbrev pub has_bad_key : List (Value × Value) → Bool
has_bad_key ps = list_any (λ (p : Value × Value). is_collection p.0) ps

-- The literal of an array makes one of the values of its parts, and that of a hash one of its pairs, where a key that stands twice keeps its
-- first place and has the last value. An array or a hash is no key.
abbrev pub LiteralsMakeThings : Type 0
LiteralsMakeThings = (S : Script) (vs : List Value) (at : Span) (k : List Cont) (sc : Scope) (d left : ℕ)
    → (move S (On (Passing Listing vs [] at) k sc d left) ≡ Go (On (Making (Elements vs)) k sc d left))
    × (has_bad_key (pairs_of S vs) ≡ false → move S (On (Passing Pairing vs [] at) k sc d left) ≡ Go (On (Making (Pairs (gathered (pairs_of S vs)))) k sc d left))
    × (has_bad_key (pairs_of S vs) ≡ true → move S (On (Passing Pairing vs [] at) k sc d left) ≡ Go (raised BadKey at left))

-- Before each iteration over an array its length is asked. Where that is above the next place, the element there is asked and given to the
-- block, and else the call has its answer. So a block sees what was done to the array meanwhile.
abbrev pub WalksAskEachTime : Type 0
WalksAskEachTime = (S : Script) (array : Reference) (next length : ℕ) (walk : Walk) (block : Block) (at : Span) (k : List Cont) (sc : Scope) (d left : ℕ)
    → (move S (On (Turning (Walking array next walk at) block) k sc d left) ≡ Go (On (Calling array Len at) (Then (ElementBelow array next walk block at) ∷ k) sc d left))
    × (nat_lt next length ≡ true → give S (Int (pos length)) (Then (ElementBelow array next walk block at)) k sc d left
    ≡ On (Calling array (At (pos next)) at) (Then (WithElement array next walk block at) ∷ k) sc d left)
    × (nat_lt next length ≡ false → give S (Int (pos length)) (Then (ElementBelow array next walk block at)) k sc d left ≡ finish array walk k sc d left)
    × ((v : Value) → give S v (Then (WithElement array next walk block at)) k sc d left
    ≡ start_turn S (Walking array (suc next) (holding v walk) at) (given v next walk) block k sc d left)

-- `map` keeps what each iteration gives, and `select` the element where that is true, whether the iteration came to its end or `next` ended it
abbrev pub WalksKeep : Type 0
WalksKeep = (array : Reference) (next : ℕ) (values kept : List Value) (v current : Value) (at : Span)
    → (turned v (Walking array next (Map values) at) ≡ Walking array next (Map (values ++ v ∷ [])) at)
    × (truthy v ≡ true → turned v (Walking array next (Select kept current) at) ≡ Walking array next (Select (kept ++ current ∷ []) current) at)
    × (truthy v ≡ false → turned v (Walking array next (Select kept current) at) ≡ Walking array next (Select kept current) at)

-- the state in which the inspected form of a thing is to be made, behind these bytes and inside these collections
abbrev pub inspecting : (lead bytes : Text) → Reference → List Open → Span → List Cont → Scope → (d left : ℕ) → State
inspecting lead bytes thing begun at k sc d left =
    On (Drafting (record { form = Inspected; coming = OfValue lead (To thing); bytes = bytes; begun = begun }) at) k sc d left

-- A collection is read by one copy when its text begins, where fewer than 1,000 nodes and collections are begun; inside itself it is told by dots,
-- and not read.
abbrev pub CollectionsAreReadOnce : Type 0
CollectionsAreReadOnce = (S : Script) (thing : Reference) (lead bytes : Text) (begun : List Open) (at : Span) (k : List Cont) (sc : Scope) (d left : ℕ) → is_collection (To thing) ≡ true
    → (is_open thing begun ≡ false → nat_lt (d + length begun) max_depth ≡ true
    → (t : Draft) × (move S (inspecting lead bytes thing begun at k sc d left) ≡ Go (On (Reading thing (ForText t) at) k sc d left))
    × (move S (On (Reading thing (ForText t) at) k sc d left) ≡ Ask thing Copy))
    × (is_open thing begun ≡ false → nat_lt (d + length begun) max_depth ≡ false → move S (inspecting lead bytes thing begun at k sc d left) ≡ Go (raised TooDeep at left))
    × (is_open thing begun ≡ true → length (bytes ++ lead ++ again Inspected thing.sort) ≤ max_bytes → move S (inspecting lead bytes thing begun at k sc d left)
    ≡ Go (On (Drafting (record { form = Inspected; coming = Between; bytes = bytes ++ lead ++ again Inspected thing.sort; begun = begun }) at) k sc d left))

-- ---- locals

-- a block's own locals as an iteration begins that is given these values
abbrev pub own_at : Script → Block → List Value → Locals
own_at S block given = fresh (S.block_names block.at) (take (length block.params) given)

-- An iteration begins with its block's own locals new, behind those round the block: each name behind the parameters reads nil,
-- whatever earlier iterations assigned.
abbrev pub OwnLocalsAreNew : Type 0
OwnLocalsAreNew = (S : Script) (next last : ℤ) (answer : Value) (block : Block) (k : List Cont) (sc : Scope) (d left : ℕ) → int_lt next last ≡ true
    → (move S (On (Turning (Counting next last answer) block) k sc d (suc left))
    ≡ Go (On (Following Nil block.body) (Turn (Counting (next +ℤ pos 1) last answer) block (length sc.locals) ∷ k) (with_locals sc (sc.locals ++ own_at S block (Int next ∷ []))) d left))
    × ((i : ℕ) (name : NameId) → length block.params ≤ i → slice_get (S.block_names block.at) i ≡ Some name → look name (sc.locals ++ own_at S block (Int next ∷ [])) ≡ Nil)

-- the first parameter reads what the iteration is given, where no name of the block behind it is the same
abbrev pub ParametersAreGiven : Type 0
ParametersAreGiven = (S : Script) (block : Block) (v : Value) (outer : Locals) (param : NameId) (names : List NameId)
    → 0 < length block.params → S.block_names block.at ≡ param ∷ names → ((i : ℕ) (name : NameId) → slice_get names i ≡ Some name → name.0 ≡ param.0 → ⊥)
    → look param (outer ++ own_at S block (v ∷ [])) ≡ v

-- a name that the block does not have is assigned round it, and its own names stay
abbrev pub AssignsOutside : Type 0
AssignsOutside = (name : NameId) (v : Value) (outer own : Locals) → found name own ≡ None → assign name v (outer ++ own) ≡ assign name v outer ++ own

-- a name of the block is assigned in it, and what is round it stays
abbrev pub AssignsOwn : Type 0
AssignsOwn = (name : NameId) (v : Value) (outer own : Locals) → is_some (found name own) ≡ true → assign name v (outer ++ own) ≡ outer ++ assign name v own

-- a name that is in scope reads what was assigned last, and an assignment changes no other
abbrev pub AssignsOne : Type 0
AssignsOne = (name other : NameId) (v : Value) (locals : Locals)
    → (is_some (found name locals) ≡ true → look name (assign name v locals) ≡ v)
    × ((other.0 ≡ name.0 → ⊥) → look other (assign name v locals) ≡ look other locals)

-- the locals go back to those round the block, with the values that they have then
abbrev pub OwnLocalsGo : Type 0
OwnLocalsGo = (me : Value) (outer own : Locals) (kept : ℕ) → length outer ≡ kept → back kept (record { me = me; locals = outer ++ own }) ≡ record { me = me; locals = outer }

-- the names of locals
abbrev pub names_in : Locals → List NameId
names_in locals = map (λ (b : NameId × Value). b.0) locals

-- The names in scope are those that the text gives, whatever was run: those of the top level or of a method, and behind them those of
-- each block round the place, outermost first.
abbrev pub AreInScope : Script → List Cont → List NameId → Type 0
AreInScope S [] names = names ≡ S.main_names
AreInScope S (Frame saved ∷ k) names = (m : Method) × (names ≡ S.method_names m) × AreInScope S k (names_in saved.locals)
AreInScope S (Turn turns block kept ∷ k) names = (outer : List NameId) × (names ≡ outer ++ S.block_names block.at) × (kept ≡ length outer) × AreInScope S k outer
AreInScope S (Owning mutex block at kept ∷ k) names = (outer : List NameId) × (names ≡ outer ++ S.block_names block.at) × (kept ≡ length outer) × AreInScope S k outer
AreInScope S (c ∷ k) names = AreInScope S k names

-- at each state of a run, until it ends
abbrev pub KeepsScopes : Script → State → Type 0
KeepsScopes S (On (Ended how) k sc d left) = Unit {0}
KeepsScopes S (On c k sc d left) = AreInScope S k (names_in sc.locals)

abbrev pub ScopesFollowTheText : Type 0
ScopesFollowTheText = (S : Script) (N : ℕ) (b : List ℕ) (h : Private) (s : State) → Runs S N b h s → KeepsScopes S s

-- At the end of an iteration the locals are as many as there were round the block, and then its own; these go, and the others stay with
-- the values that they have.
abbrev pub IterationsLeaveTheRest : Type 0
IterationsLeaveTheRest = (S : Script) (N : ℕ) (b : List ℕ) (h : Private) (v : Value) (turns : Turns) (block : Block) (kept : ℕ) (k : List Cont) (sc : Scope) (d left : ℕ)
    → Runs S N b h (On (Give v) (Turn turns block kept ∷ k) sc d left)
    → (outer : Locals) × (own : Locals) × (sc.locals ≡ outer ++ own) × (length outer ≡ kept) × (names_in own ≡ S.block_names block.at)
    × (move S (On (Give v) (Turn turns block kept ∷ k) sc d left) ≡ Go (On (Turning (turned v turns) block) k (with_locals sc outer) d left))

-- the receiver of a call is evaluated before its arguments
abbrev pub ReceiversComeFirst : Type 0
ReceiversComeFirst = (S : Script) (n receiver : Node) (name : NameId) (args : List Node) (block : Option Block) (at : Span) (k : List Cont) (sc : Scope) (d left : ℕ) (v : Value)
    → out-Node n ≡ node.Call (Some receiver) name args block at → nat_lt d max_depth ≡ true
    → (move S (On (Eval n) k sc d (suc left)) ≡ Go (On (Eval receiver) (Then (ReceiverOf (text_of S name) args block at) ∷ Under d ∷ k) sc (d + 1) left))
    × (move S (On (Give v) (Then (ReceiverOf (text_of S name) args block at) ∷ k) sc d left) ≡ Go (On (Passing (OnReceiver v (text_of S name) block) [] args at) k sc d left))

-- what is asked and answered: a want that is no end
abbrev pub IsAsked : Coming → Type 0
IsAsked (Go s) = ⊥
IsAsked (Stop how) = ⊥
IsAsked want = Unit {0}

-- from a state to another by moves and by replies, whatever these say
pub data Way (S : Script) : State → State → Type 0 where
  arrives : (s : State) → Way S s s
  goes : (s t u : State) → move S s ≡ Go t → Way S t u → Way S s u
  gets : (s u : State) (r : Reply) → IsAsked (move S s) → Way S (replied s r) u → Way S s u

abbrev pub IsAlive : Control → Type 0
IsAlive (Ended how) = ⊥
IsAlive c = Unit {0}

-- What the machine does is the same whatever waits behind it: so what a part of a script means is that part's alone.
abbrev pub ContextChangesNothing : Type 0
ContextChangesNothing = (S : Script) (c c' : Control) (inner inner' k : List Cont) (sc sc' : Scope) (d d' left left' : ℕ) → IsAlive c'
    → Way S (On c inner sc d left) (On c' inner' sc' d' left') → Way S (On c (inner ++ k) sc d left) (On c' (inner' ++ k) sc' d' left')

-- nodes that give these values, one after the other from the left, from a scope and so many steps left to others
pub data Evaluates (S : Script) (d : ℕ) : List Node → List Value → Scope → ℕ → Scope → ℕ → Type 0 where
  nothing : (sc : Scope) (left : ℕ) → Evaluates S d [] [] sc left sc left
  first : (n : Node) (ns : List Node) (v : Value) (vs : List Value) (sc sc' sc'' : Scope) (left left' left'' : ℕ)
      → Way S (On (Eval n) [] sc d left) (On (Give v) [] sc' d left') → Evaluates S d ns vs sc' left' sc'' left''
      → Evaluates S d (n ∷ ns) (v ∷ vs) sc left sc'' left''

-- the arguments are evaluated one after the other from the left, whatever they do, and then the call is made with their values
abbrev pub ArgumentsComeInTurn : Type 0
ArgumentsComeInTurn = (S : Script) (aim : Aim) (done vs : List Value) (ns : List Node) (at : Span) (k : List Cont) (sc sc' : Scope) (d left left' : ℕ)
    → Evaluates S d ns vs sc left sc' left' → Way S (On (Passing aim done ns at) k sc d left) (perform S aim (done ++ vs) at k sc' d left')

-- the first argument that is left is evaluated while the others wait, and its value goes behind those before it, whatever was done
-- meanwhile
abbrev pub ArgumentsComeOnce : Type 0
ArgumentsComeOnce = (S : Script) (aim : Aim) (done : List Value) (v : Value) (n : Node) (ns : List Node) (at : Span) (k : List Cont) (sc : Scope) (d left : ℕ)
    → (move S (On (Passing aim done (n ∷ ns) at) k sc d left) ≡ Go (On (Eval n) (Then (Argument aim done ns at) ∷ k) sc d left))
    × (move S (On (Give v) (Then (Argument aim done ns at) ∷ k) sc d left) ≡ Go (On (Passing aim (done ++ v ∷ []) ns at) k sc d left))

-- `||` and `||=` go on to their right side only where the left one is false or nil
abbrev pub OrGoesOnWhereFalse : Type 0
OrGoesOnWhereFalse = (S : Script) (v : Value) (place : Place) (right : Node) (at : Span) (k : List Cont) (sc : Scope) (d left : ℕ)
    → (truthy v ≡ true → move S (On (Give v) (Then (RightOfOr right) ∷ k) sc d left) ≡ Go (On (Give v) k sc d left))
    × (truthy v ≡ false → move S (On (Give v) (Then (RightOfOr right) ∷ k) sc d left) ≡ Go (On (Eval right) k sc d left))
    × (truthy v ≡ true → move S (On (Give v) (Then (ReadOf place OrElse right at) ∷ k) sc d left) ≡ Go (On (Give v) k sc d left))
    × (truthy v ≡ false → move S (On (Give v) (Then (ReadOf place OrElse right at) ∷ k) sc d left) ≡ Go (On (Eval right) (Then (WriteTo place at) ∷ k) sc d left))

-- `&&` and `&&=` only where it is neither
abbrev pub AndGoesOnWhereTrue : Type 0
AndGoesOnWhereTrue = (S : Script) (v : Value) (place : Place) (right : Node) (at : Span) (k : List Cont) (sc : Scope) (d left : ℕ)
    → (truthy v ≡ false → move S (On (Give v) (Then (RightOfAnd right) ∷ k) sc d left) ≡ Go (On (Give v) k sc d left))
    × (truthy v ≡ true → move S (On (Give v) (Then (RightOfAnd right) ∷ k) sc d left) ≡ Go (On (Eval right) k sc d left))
    × (truthy v ≡ false → move S (On (Give v) (Then (ReadOf place AndThen right at) ∷ k) sc d left) ≡ Go (On (Give v) k sc d left))
    × (truthy v ≡ true → move S (On (Give v) (Then (ReadOf place AndThen right at) ∷ k) sc d left) ≡ Go (On (Eval right) (Then (WriteTo place at) ∷ k) sc d left))

-- ---- the main thread, and its script alone

-- whether a call asks something of a shared thing, or is of threads
abbrev pub asks_thing : Call → Bool
asks_thing (log.On thing act) = true
asks_thing (log.Start thing body values) = true
asks_thing (log.Gather thread) = true
asks_thing call = false

-- whether a thread asked nothing of what is shared
abbrev pub keeps_to_itself : List Entry → Bool
keeps_to_itself [] = true
keeps_to_itself (e ∷ es) = not (asks_thing e.call) && keeps_to_itself es

-- the ends that cut a thread short, in the place of its own end
abbrev pub is_cut : End → Bool
is_cut ending.Sink = true
is_cut ending.Memory = true
is_cut (ending.Full used asked) = true
is_cut own = false

-- A main thread that asks nothing of what is shared does what its script does alone: the bytes of its prints, its end, and the step of
-- its last entry are the same.
abbrev pub DoesAsAlone : Type 0
DoesAsAlone = (S : Script) (N : ℕ) (l : Log) (how : End) (h : Private) → Follows S N (opening S N) l how h → h.thread ≡ 0 → keeps_to_itself l.entries ≡ true → is_cut how ≡ false
    → Alone S N (prints l.entries) how (last_step l.entries)

-- Where it is cut short, it has shown a front of what its script shows alone.
abbrev pub ShowsAFront : Type 0
ShowsAFront = (S : Script) (N : ℕ) (l : Log) (how : End) (h : Private) (bytes : List ℕ) (own : End) (steps : ℕ) → Follows S N (opening S N) l how h → h.thread ≡ 0 → keeps_to_itself l.entries ≡ true
    → Alone S N bytes own steps → (behind : List ℕ) × (bytes ≡ prints l.entries ++ behind)
