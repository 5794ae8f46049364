-- Arrays and hashes by computation: the rows of their methods, new ones, literals, walks, and texts.
use Rattle.std.proofs.Common.{◌≡◌, ℕ, zero, suc, List, [], ◌∷◌, ◌++◌, length, take, Some, None, refl}
use Rattle.std.specs.Prelude.{pos, negsuc, codes}
use Rattle.rb_tree.specs.declared.span.Span.{Span}
use Rattle.rb_tree.specs.declared.node.Block.{Block}
use Rattle.rb_tree.specs.declared.node.Program.{Program}
use Rattle.rb_model.specs.declared.fault.Fault.TheVariants.{NoMethod, ArgumentCount, TypeMismatch, BadKey, IndexTooSmall, ArrayTooLong, TooDeep}
use Rattle.rb_model.specs.declared.value.Sort.TheVariants as sort
use Rattle.rb_model.specs.Values.{Value, Nil, False, True, Int, Str, To, Reference}
use Rattle.rb_model.specs.Acts.{Act, At, Put, Push, Unshift, Pop, Shift, DeleteAt, KGet, KHas, KPut, KDelete, Clear, Len, Copy, Reply, Done, Failed}
use Rattle.rb_model.specs.Acts as reply
use Rattle.rb_model.specs.Ends.{Steps}
use Rattle.rb_model.specs.Ends as ending
use Rattle.rb_model.specs.Things.{Elements, Pairs}
use Rattle.rb_machine.specs.Scopes.{Script, Text, Scope, fresh, with_locals}
use Rattle.rb_machine.specs.Control.{State, On, Cont, Then, Turn, Give, Following, Turning, Drafting, Making, Showing, Instead, IsZero, PieceOf, Pairing, Keys, Values, Turns, Walking, EachPair, Walk, Each, WithIndex, Map, Select, Inspected}
use Rattle.rb_machine.specs.Drafts.{draft_of}
use Rattle.rb_machine.specs.Methods.{Answer, Asks, Gives, Raises, LoopsOver, Reads, EachPairOf, Inspects, deed}
use Rattle.rb_machine.specs.Call.{ended, raised, answered, print, perform, create_builtin}
use Rattle.rb_machine.specs.Give.{back}
use Rattle.rb_machine.specs.Move.{Next, Go, Ask, move, replied}

-- three arrays and a hash
abbrev array_at : ℕ → Reference
array_at serial = record { sort = sort.List; id = record { thread = 0; serial = serial } }

abbrev one : Reference
one = array_at 1

abbrev two : Reference
two = array_at 2

abbrev hash : Reference
hash = record { sort = sort.Pairs; id = record { thread = 0; serial = 3 } }

abbrev a_text : Text
a_text = codes "a"

abbrev a : Value
a = Str a_text

abbrev b : Value
b = Str (codes "b")

-- ---- methods

module _ (P : Program) (v : Value) where
  elements : (deed P (To one) (codes "[]") (Int (negsuc 0) ∷ []) None ≡ Asks one (At (negsuc 0)) None)
      × (deed P (To one) (codes "[]") (a ∷ []) None ≡ Raises TypeMismatch)
      × (deed P (To one) (codes "[]") [] None ≡ Raises ArgumentCount)
      × (deed P (To one) (codes "[]=") (Int (pos 2) ∷ v ∷ []) None ≡ Asks one (Put (pos 2) v) None)
      × (deed P (To one) (codes "[]=") (Nil ∷ v ∷ []) None ≡ Raises TypeMismatch)
      × (deed P (To one) (codes "delete_at") (Int (pos 2) ∷ []) None ≡ Asks one (DeleteAt (pos 2)) None)
      × (deed P (To one) (codes "delete_at") (Nil ∷ []) None ≡ Raises TypeMismatch)
      × (deed P (To one) (codes "first") [] None ≡ Asks one (At (pos 0)) None)
      × (deed P (To one) (codes "last") [] None ≡ Asks one (At (negsuc 0)) None)
      × (deed P (To one) (codes "pop") [] None ≡ Asks one Pop None)
      × (deed P (To one) (codes "shift") [] None ≡ Asks one Shift None)
  elements = (refl, refl, refl, refl, refl, refl, refl, refl, refl, refl, refl)

  -- what is added, and `clear`, answer the receiver
  additions : (deed P (To one) (codes "<<") (v ∷ []) None ≡ Asks one (Push v) (Some (Instead (To one))))
      × (deed P (To one) (codes "push") (v ∷ []) None ≡ Asks one (Push v) (Some (Instead (To one))))
      × (deed P (To one) (codes "push") (v ∷ v ∷ []) None ≡ Raises ArgumentCount)
      × (deed P (To one) (codes "push") (v ∷ []) (Some 0) ≡ Raises NoMethod)
      × (deed P (To one) (codes "unshift") (v ∷ []) None ≡ Asks one (Unshift v) (Some (Instead (To one))))
      × (deed P (To hash) (codes "push") (v ∷ []) None ≡ Raises NoMethod)
      × (deed P (To one) (codes "clear") [] None ≡ Asks one Clear (Some (Instead (To one))))
      × (deed P (To hash) (codes "clear") [] None ≡ Asks hash Clear (Some (Instead (To hash))))
  additions = (refl, refl, refl, refl, refl, refl, refl, refl)

  lengths : (deed P (To one) (codes "length") [] None ≡ Asks one Len None)
      × (deed P (To hash) (codes "size") [] None ≡ Asks hash Len None)
      × (deed P (To hash) (codes "empty?") [] None ≡ Asks hash Len (Some IsZero))
      × (deed P (To one) (codes "length") (v ∷ []) None ≡ Raises ArgumentCount)
  lengths = (refl, refl, refl, refl)

  -- an array or a hash is no key
  keys : (deed P (To hash) (codes "[]") (a ∷ []) None ≡ Asks hash (KGet a) None)
      × (deed P (To hash) (codes "[]") (To one ∷ []) None ≡ Raises BadKey)
      × (deed P (To hash) (codes "[]=") (a ∷ v ∷ []) None ≡ Asks hash (KPut a v) None)
      × (deed P (To hash) (codes "[]=") (To hash ∷ v ∷ []) None ≡ Raises BadKey)
      × (deed P (To hash) (codes "[]=") (a ∷ []) None ≡ Raises ArgumentCount)
      × (deed P (To hash) (codes "delete") (a ∷ []) None ≡ Asks hash (KDelete a) None)
      × (deed P (To hash) (codes "delete") (To one ∷ []) None ≡ Raises BadKey)
      × (deed P (To hash) (codes "key?") (a ∷ []) None ≡ Asks hash (KHas a) None)
      × (deed P (To hash) (codes "key?") (To one ∷ []) None ≡ Raises BadKey)
      × (deed P (To hash) (codes "keys") [] None ≡ Reads hash Keys)
      × (deed P (To hash) (codes "values") [] None ≡ Reads hash Values)
      × (deed P (To one) (codes "keys") [] None ≡ Raises NoMethod)
  keys = (refl, refl, refl, refl, refl, refl, refl, refl, refl, refl, refl, refl)

  blocks : (deed P (To one) (codes "each") [] (Some 1) ≡ LoopsOver one Each)
      × (deed P (To one) (codes "each") [] (Some 2) ≡ Raises ArgumentCount)
      × (deed P (To one) (codes "each") [] None ≡ Raises ArgumentCount)
      × (deed P (To one) (codes "each_with_index") [] (Some 2) ≡ LoopsOver one WithIndex)
      × (deed P (To one) (codes "map") [] (Some 0) ≡ LoopsOver one (Map []))
      × (deed P (To one) (codes "select") [] (Some 1) ≡ LoopsOver one (Select [] Nil))
      × (deed P (To hash) (codes "map") [] (Some 1) ≡ Raises NoMethod)
      × (deed P (To hash) (codes "each") [] (Some 2) ≡ EachPairOf hash)
      × (deed P (To hash) (codes "each") [] (Some 0) ≡ EachPairOf hash)
      × (deed P (To hash) (codes "each") [] (Some 1) ≡ Raises ArgumentCount)
      × (deed P (To hash) (codes "each_pair") [] (Some 3) ≡ Raises ArgumentCount)
      × (deed P (To hash) (codes "each_pair") [] None ≡ Raises ArgumentCount)
  blocks = (refl, refl, refl, refl, refl, refl, refl, refl, refl, refl, refl, refl)

  -- two arrays that are not one and the same cannot be compared, an array and anything else can
  compared : (deed P (To one) (codes "==") (To one ∷ []) None ≡ Gives True)
      × (deed P (To one) (codes "==") (To two ∷ []) None ≡ Raises NoMethod)
      × (deed P (To one) (codes "==") (To hash ∷ []) None ≡ Gives False)
      × (deed P (To one) (codes "==") (Nil ∷ []) None ≡ Gives False)
      × (deed P (To one) (codes "to_s") [] None ≡ Inspects (To one))
      × (deed P (To hash) (codes "inspect") [] None ≡ Inspects (To hash))
      × (deed P (To one) (codes "nil?") [] None ≡ Gives False)
  compared = (refl, refl, refl, refl, refl, refl, refl)

-- ---- moves

-- what was asked on the way, in the order of the questions, and the state in the end
abbrev Went : Type 0
Went = List (Reference × Act) × State

abbrev with_question : Reference → Act → Went → Went
with_question thing act w = ((thing, act) ∷ w.0, w.1)

-- on to the next state, or to the one behind the next answer; where something else is wanted, or no answer is left, that is the end
abbrev onward : (List Reply → State → Went) → Next → List Reply → State → Went
onward later (Go t) answers s = later answers t
onward later (Ask thing act) (r ∷ answers) s = with_question thing act (later answers (replied s r))
onward later want answers s = ([], s)

-- so many moves at most, with these answers
abbrev went : Script → ℕ → List Reply → State → Went
went S zero answers s = ([], s)
went S (suc n) answers s = onward (went S n) (move S s) answers s

module _ (S : Script) (at : Span) (k : List Cont) (sc : Scope) (left : ℕ) where
  arrays : (create_builtin S (codes "Array") [] at k sc 1 left ≡ On (Making (Elements [])) k sc 1 left)
      × (create_builtin S (codes "Array") (Int (pos 2) ∷ []) at k sc 1 left ≡ On (Making (Elements (Nil ∷ Nil ∷ []))) k sc 1 left)
      × (create_builtin S (codes "Array") (Int (pos 3) ∷ Int (pos 0) ∷ []) at k sc 1 left ≡ On (Making (Elements (Int (pos 0) ∷ Int (pos 0) ∷ Int (pos 0) ∷ []))) k sc 1 left)
      × (create_builtin S (codes "Array") (Int (negsuc 0) ∷ []) at k sc 1 left ≡ raised IndexTooSmall at left)
      × (create_builtin S (codes "Array") (Int (pos 16777217) ∷ []) at k sc 1 left ≡ raised ArrayTooLong at left)
      × (create_builtin S (codes "Array") (a ∷ Nil ∷ []) at k sc 1 left ≡ raised TypeMismatch at left)
      × (create_builtin S (codes "Array") (Nil ∷ Nil ∷ Nil ∷ []) at k sc 1 left ≡ raised ArgumentCount at left)
  arrays = (refl, refl, refl, refl, refl, refl, refl)

  hashes : (create_builtin S (codes "Hash") [] at k sc 1 left ≡ On (Making (Pairs [])) k sc 1 left)
      × (create_builtin S (codes "Hash") (Nil ∷ []) at k sc 1 left ≡ raised ArgumentCount at left)
  hashes = (refl, refl)

  -- a key that stands twice keeps its first place and has the last value
  literals : (perform S Pairing (Int (pos 1) ∷ Int (pos 2) ∷ Int (pos 1) ∷ Int (pos 3) ∷ []) at k sc 1 left ≡ On (Making (Pairs ((Int (pos 1), Int (pos 3)) ∷ []))) k sc 1 left)
      × (perform S Pairing (a ∷ Nil ∷ b ∷ Nil ∷ a ∷ True ∷ []) at k sc 1 left ≡ On (Making (Pairs ((a, True) ∷ (b, Nil) ∷ []))) k sc 1 left)
      × (perform S Pairing (a ∷ Nil ∷ To two ∷ Nil ∷ []) at k sc 1 left ≡ raised BadKey at left)
  literals = (refl, refl, refl)

  -- ---- texts

  abbrev inspecting : Value → ℕ → State
  inspecting v left = On (Drafting (draft_of Inspected v) at) [] sc 1 left

  -- each collection is read by one copy, and each element and each pair takes a step
  inspections : went S 100 (reply.Elements (Nil ∷ To two ∷ To hash ∷ []) ∷ reply.Elements (True ∷ []) ∷ reply.Pairs ((True, a) ∷ (b, To two) ∷ []) ∷ reply.Elements [] ∷ []) (inspecting (To one) (suc (suc (suc (suc (suc (suc left)))))))
      ≡ ((one, Copy) ∷ (two, Copy) ∷ (hash, Copy) ∷ (two, Copy) ∷ [], ended (ending.Value (Str (codes "[nil, [true], {true=>\"a\", \"b\"=>[]}]"))) left)
  inspections = refl

  -- a collection inside itself is told by dots, and not read again
  cycles : (went S 100 (reply.Elements (Nil ∷ To one ∷ []) ∷ []) (inspecting (To one) (suc (suc left))) ≡ ((one, Copy) ∷ [], ended (ending.Value (Str (codes "[nil, [...]]"))) left))
      × (went S 100 (reply.Elements (To two ∷ []) ∷ reply.Elements (To one ∷ []) ∷ []) (inspecting (To one) (suc (suc left))) ≡ ((one, Copy) ∷ (two, Copy) ∷ [], ended (ending.Value (Str (codes "[[[...]]]"))) left))
      × (went S 100 (reply.Pairs ((Nil, To hash) ∷ []) ∷ []) (inspecting (To hash) (suc left)) ≡ ((hash, Copy) ∷ [], ended (ending.Value (Str (codes "{nil=>{...}}"))) left))
  cycles = (refl, refl, refl)

  -- with no step left, no element begins; and no collection begins inside 1,000 nodes and collections
  limits : (went S 100 (reply.Elements (Nil ∷ []) ∷ []) (inspecting (To one) 0) ≡ ((one, Copy) ∷ [], ended Steps 0))
      × (went S 100 (reply.Elements (To two ∷ []) ∷ reply.Elements [] ∷ []) (On (Drafting (draft_of Inspected (To one)) at) [] sc 998 (suc left)) ≡ ((one, Copy) ∷ (two, Copy) ∷ [], ended (ending.Value (Str (codes "[[]]"))) left))
      × (went S 100 (reply.Elements (To two ∷ []) ∷ []) (On (Drafting (draft_of Inspected (To one)) at) [] sc 999 (suc left)) ≡ ((one, Copy) ∷ [], raised TooDeep at left))
      × (went S 100 [] (On (Drafting (draft_of Inspected (To one)) at) [] sc 1000 left) ≡ ([], raised TooDeep at left))
  limits = (refl, refl, refl, refl)

  abbrev puts : List Value → ℕ → State
  puts args left = print S (codes "puts") args at [] sc 1 left

  abbrev shows : List ℕ → Value → State
  shows bytes v = On (Showing bytes) (Then (Instead v) ∷ []) sc 1 left

  -- `puts` writes an array element by element: an empty one is one line feed, and nothing inside another
  lines : (went S 100 (reply.Elements [] ∷ []) (puts (To one ∷ []) left) ≡ ((one, Copy) ∷ [], shows (codes "\n") Nil))
      × (went S 100 (reply.Elements (To two ∷ []) ∷ reply.Elements [] ∷ []) (puts (To one ∷ []) (suc left)) ≡ ((one, Copy) ∷ (two, Copy) ∷ [], ended (ending.Value Nil) left))
      × (went S 100 (reply.Elements (a ∷ To two ∷ Nil ∷ []) ∷ reply.Elements (b ∷ Str (codes "c\n") ∷ []) ∷ []) (puts (To one ∷ True ∷ []) (suc (suc (suc (suc (suc left))))))
      ≡ ((one, Copy) ∷ (two, Copy) ∷ [], shows (codes "a\nb\nc\n\ntrue\n") Nil))
      × (went S 100 (reply.Elements (To one ∷ []) ∷ []) (puts (To one ∷ []) (suc left)) ≡ ((one, Copy) ∷ [], shows (codes "[...]\n") Nil))
      × (went S 100 (reply.Elements (To hash ∷ []) ∷ reply.Pairs [] ∷ []) (puts (To one ∷ []) (suc left)) ≡ ((one, Copy) ∷ (hash, Copy) ∷ [], shows (codes "{}\n") Nil))
  lines = (refl, refl, refl, refl, refl)

  -- `print`, `p` and a literal have the inspected form of a collection
  forms : (went S 100 (reply.Elements (a ∷ []) ∷ []) (print S (codes "print") (To one ∷ True ∷ []) at [] sc 1 (suc left)) ≡ ((one, Copy) ∷ [], shows (codes "[\"a\"]true") Nil))
      × (went S 100 (reply.Elements [] ∷ []) (print S (codes "p") (To one ∷ []) at [] sc 1 left) ≡ ((one, Copy) ∷ [], shows (codes "[]\n") (To one)))
      × (went S 100 (reply.Pairs [] ∷ []) (On (Give (To hash)) (Then (PieceOf a_text [] at) ∷ []) sc 1 left) ≡ ((hash, Copy) ∷ [], ended (ending.Value (Str (codes "a{}"))) left))
  forms = (refl, refl, refl)

  -- ---- methods and their answers

  abbrev calls : Answer → State
  calls answer = answered S answer None at k sc 1 left

  answers : (went S 2 (reply.Value (Int (pos 0)) ∷ []) (calls (Asks one Len (Some IsZero))) ≡ ((one, Len) ∷ [], On (Give True) k sc 1 left))
      × (went S 2 (reply.Value (Int (pos 2)) ∷ []) (calls (Asks hash Len (Some IsZero))) ≡ ((hash, Len) ∷ [], On (Give False) k sc 1 left))
      × (went S 2 (Done ∷ []) (calls (Asks one (Push a) (Some (Instead (To one))))) ≡ ((one, Push a) ∷ [], On (Give (To one)) k sc 1 left))
      × (went S 1 (Failed ArrayTooLong ∷ []) (calls (Asks one (Push a) (Some (Instead (To one))))) ≡ ((one, Push a) ∷ [], raised ArrayTooLong at left))
      × (went S 1 (reply.Value Nil ∷ []) (calls (Asks one Pop None)) ≡ ((one, Pop) ∷ [], On (Give Nil) k sc 1 left))
      × (went S 1 (reply.Pairs ((a, b) ∷ []) ∷ []) (calls (Reads hash Keys)) ≡ ((hash, Copy) ∷ [], On (Making (Elements (a ∷ []))) k sc 1 left))
      × (went S 1 (reply.Pairs ((a, b) ∷ []) ∷ []) (calls (Reads hash Values)) ≡ ((hash, Copy) ∷ [], On (Making (Elements (b ∷ []))) k sc 1 left))
  answers = (refl, refl, refl, refl, refl, refl, refl)

  module _ (block : Block) (kept : ℕ) where
    -- an iteration of the block that is given these values
    abbrev iterating : Turns → List Value → State
    iterating later values =
        On (Following Nil block.body) (Turn later block (length sc.locals) ∷ k) (with_locals sc (sc.locals ++ fresh (S.block_names block.at) (take (length block.params) values))) 1 left

    abbrev walking : ℕ → Walk → ℕ → State
    walking next walk left = On (Turning (Walking one next walk at) block) k sc 1 left

    -- before each iteration the length and the element are asked
    iterations : (went S 5 (reply.Value (Int (pos 2)) ∷ reply.Value a ∷ []) (walking 0 (Select [] Nil) (suc left)) ≡ ((one, Len) ∷ (one, At (pos 0)) ∷ [], iterating (Walking one 1 (Select [] a) at) (a ∷ [])))
        × (went S 5 (reply.Value (Int (pos 2)) ∷ reply.Value b ∷ []) (walking 1 WithIndex (suc left)) ≡ ((one, Len) ∷ (one, At (pos 1)) ∷ [], iterating (Walking one 2 WithIndex at) (b ∷ Int (pos 1) ∷ [])))
        × (went S 5 (reply.Value (Int (pos 1)) ∷ reply.Value a ∷ []) (walking 0 Each 0) ≡ ((one, Len) ∷ (one, At (pos 0)) ∷ [], ended Steps 0))
        × (went S 2 (reply.Pairs ((a, b) ∷ []) ∷ []) (answered S (EachPairOf hash) (Some block) at k sc 1 (suc left)) ≡ ((hash, Copy) ∷ [], iterating (EachPair [] (To hash)) (a ∷ b ∷ [])))
    iterations = (refl, refl, refl, refl)

    abbrev behind : Value → Turns → State
    behind v turns = On (Give v) (Turn turns block kept ∷ k) sc 1 left

    -- at the end `map` makes an array of what the block gave, and `select` one of the elements for which that was true
    ends : (went S 4 (reply.Value (Int (pos 1)) ∷ []) (behind Nil (Walking one 1 Each at)) ≡ ((one, Len) ∷ [], On (Give (To one)) k (back kept sc) 1 left))
        × (went S 4 (reply.Value (Int (pos 1)) ∷ []) (behind Nil (Walking one 1 (Map (a ∷ [])) at)) ≡ ((one, Len) ∷ [], On (Making (Elements (a ∷ Nil ∷ []))) k (back kept sc) 1 left))
        × (went S 4 (reply.Value (Int (pos 1)) ∷ []) (behind True (Walking one 1 (Select [] Nil) at)) ≡ ((one, Len) ∷ [], On (Making (Elements (Nil ∷ []))) k (back kept sc) 1 left))
        × (went S 4 (reply.Value (Int (pos 1)) ∷ []) (behind False (Walking one 1 (Select [] a) at)) ≡ ((one, Len) ∷ [], On (Making (Elements [])) k (back kept sc) 1 left))
        × (went S 2 [] (behind True (EachPair [] (To hash))) ≡ ([], On (Give (To hash)) k (back kept sc) 1 left))
    ends = (refl, refl, refl, refl, refl)
