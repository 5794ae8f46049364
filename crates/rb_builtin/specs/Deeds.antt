-- What the answers of the code say, and the rows of the table by the numbers of methods.
use Rattle.std.specs.Prelude.{◌≡◌, ℕ, ℤ, pos, negsuc, ◌+ℤ◌, neg_ℤ, nat_eq, Bool, true, false, if◌then◌else◌, List, [], ◌∷◌, length, Option, Some, None}
use Rattle.rb_tree.specs.declared.node.Program.{Program}
use Rattle.rb_model.specs.declared.fault.Fault.{Fault}
use Rattle.rb_model.specs.declared.fault.Fault.TheVariants.{NoMethod, ArgumentCount}
use Rattle.rb_model.specs.declared.value.Ref.{Ref}
use Rattle.rb_model.specs.declared.value.Sort.{Sort}
use Rattle.rb_model.specs.declared.value.Sort.TheVariants as sort
use Rattle.rb_model.specs.Values.{Value, Nil, Int, Str, To, Reference, plain, truth, same}
use Rattle.rb_model.specs.Acts.{Act, At, Push, Unshift, Pop, Shift, DeleteAt, KGet, KHas, KDelete, Clear, Len, Join, Lock, Unlock}
use Rattle.rb_model.specs.Doing.{doing}
use Rattle.rb_model.specs.Characters.{characters}
use Rattle.rb_machine.specs.Scopes.{Text}
use Rattle.rb_machine.specs.Texts.{shown, inspected}
use Rattle.rb_machine.specs.Drafts.{is_collection}
use Rattle.rb_machine.specs.Control.{Turns, Counting, Walk, Step, Instead, IsZero, Use}
use Rattle.rb_machine.specs.Control as machine
use Rattle.rb_machine.specs.Methods.{Answer, Gives, Raises, Loops, LoopsOver, Asks, Reads, EachPairOf, Inspects, Synchronizes, block_fault, integer, upto, on_integers, joined, equal, told, up_to, none_or_two, at_index, put_index, by_key, put_key, adds, asks, changes, is_empty}
use Rattle.rb_builtin.specs.declared.builtin.Builtin.{Builtin}
use Rattle.rb_builtin.specs.declared.builtin.Builtin.TheVariants as builtin
use Rattle.rb_builtin.specs.Integers.{operated}
use Rattle.rb_builtin.specs.declared.deed.Deed.{Deed}
use Rattle.rb_builtin.specs.declared.deed.Deed.TheVariants as held
use Rattle.rb_builtin.specs.declared.deed.Loop.{Loop}
use Rattle.rb_builtin.specs.declared.deed.Loop.TheVariants as walk
use Rattle.rb_builtin.specs.declared.deed.Pass.{Pass}
use Rattle.rb_builtin.specs.declared.deed.Pass.TheVariants as pass
use Rattle.rb_builtin.specs.declared.deed.Purpose.{Purpose}
use Rattle.rb_builtin.specs.declared.deed.Purpose.TheVariants as purpose
use Rattle.rb_builtin.specs.declared.deed.Behind.{Behind}
use Rattle.rb_builtin.specs.declared.deed.Behind.TheVariants as behind
use Rattle.rb_builtin.specs.declared.deed.Takes.{Takes}
use Rattle.rb_builtin.specs.declared.deed.Takes.TheVariants as takes

-- the turns of a walk
abbrev pub turns_of : Loop → Turns
turns_of (walk.Times n) = Counting (pos 0) n (Int n)
turns_of (walk.Upto m n) = Counting m (n +ℤ pos 1) (Int m)

-- the walk over an array as it begins
abbrev pub walk_of : Pass → Walk
walk_of pass.Each = machine.Each
walk_of pass.WithIndex = machine.WithIndex
walk_of pass.Map = machine.Map []
walk_of pass.Select = machine.Select [] Nil

abbrev pub use_of : Purpose → Use
use_of purpose.Keys = machine.Keys
use_of purpose.Values = machine.Values

-- a reference of the code
abbrev pub thing_of : Ref → Reference
thing_of r = record { sort = r.sort; id = r.id }

-- what is done with a reply
abbrev pub step_of : Behind → Ref → Option Step
step_of behind.Reply r = None
step_of behind.Receiver r = Some (Instead (To (thing_of r)))
step_of behind.IsZero r = Some IsZero

-- what a deed of the code says
abbrev pub answer_of : Deed → Answer
answer_of (held.Give v) = Gives (plain v)
answer_of (held.Raise fault) = Raises fault
answer_of (held.Walk loop) = Loops (turns_of loop)
answer_of (held.WalkOver r pass) = LoopsOver (thing_of r) (walk_of pass)
answer_of (held.Ask r act after) = Asks (thing_of r) (doing act) (step_of after r)
answer_of (held.Read r purpose) = Reads (thing_of r) (use_of purpose)
answer_of (held.WalkPairs r) = EachPairOf (thing_of r)
answer_of (held.Inspect r) = Inspects (To (thing_of r))
answer_of (held.Synchronize r) = Synchronizes (thing_of r)

-- how many parameters a block may have
abbrev pub may_have : Takes → ℕ → Bool
may_have (takes.UpTo most) = up_to most
may_have takes.NoneOrTwo = none_or_two

abbrev pub fault_or_count : Option Fault → Bool → Option Fault
fault_or_count (Some fault) counts = Some fault
fault_or_count None counts = if counts then None else Some ArgumentCount

-- why a method with such a row cannot be called with these arguments, and a block with so many parameters
abbrev pub misfit : List Value → ℕ → Option (ℕ → Bool) → Option ℕ → Option Fault
misfit args arity may_have given = fault_or_count (block_fault may_have given) (nat_eq (length args) arity)

-- a fault, or else an answer
abbrev pub by_misfit : Option Fault → Answer → Answer
by_misfit (Some fault) answer = Raises fault
by_misfit None answer = answer

-- the one argument, where it is an integer
abbrev pub only_integer : List Value → Option ℤ
only_integer (Int n ∷ []) = Some n
only_integer args = None

-- the operations on two integers
abbrev pub is_operator : Builtin → Bool
is_operator builtin.Plus = true
is_operator builtin.Minus = true
is_operator builtin.Times = true
is_operator builtin.Over = true
is_operator builtin.Modulo = true
is_operator builtin.Less = true
is_operator builtin.AtMost = true
is_operator builtin.More = true
is_operator builtin.AtLeast = true
is_operator other = false

-- what integers answer to their other methods
abbrev pub other_answer : ℤ → Builtin → List Value → Option ℕ → Answer
other_answer m builtin.TimesLoop args given = by_misfit (misfit args 0 (Some (up_to 1)) given) (Loops (Counting (pos 0) m (Int m)))
other_answer m builtin.Upto args given = by_misfit (misfit args 1 (Some (up_to 1)) given) (on_integers upto (Int m) args)
other_answer m builtin.Negate args given = by_misfit (misfit args 0 None given) (integer (neg_ℤ m))
other_answer m b args given = Raises NoMethod

-- what integers answer to their methods, those of all values left out
abbrev pub integer_answer : ℤ → Builtin → List Value → Option ℕ → Answer
integer_answer m b args given = if is_operator b then by_misfit (misfit args 1 None given) (on_integers (operated b) (Int m) args) else other_answer m b args given

-- the one argument, where it is a text
abbrev pub only_text : List Value → Option Text
only_text (Str bytes ∷ []) = Some bytes
only_text args = None

-- what texts answer to their methods, those of all values left out
abbrev pub text_answer : Text → Builtin → List Value → Option ℕ → Answer
text_answer s builtin.Plus args given = by_misfit (misfit args 1 None given) (joined (Str s) args)
text_answer s builtin.Length args given = by_misfit (misfit args 0 None given) (Gives (Int (pos (characters s))))
text_answer s b args given = Raises NoMethod

-- what arrays and hashes answer to the methods that they share
abbrev pub collection_answer : Reference → Builtin → List Value → Option ℕ → Answer
collection_answer c builtin.Length args given = by_misfit (misfit args 0 None given) (asks Len c args)
collection_answer c builtin.Size args given = by_misfit (misfit args 0 None given) (asks Len c args)
collection_answer c builtin.IsEmpty args given = by_misfit (misfit args 0 None given) (is_empty c args)
collection_answer c builtin.Clear args given = by_misfit (misfit args 0 None given) (changes Clear c)
collection_answer c b args given = Raises NoMethod

-- what arrays answer to methods without a block that only they have
abbrev pub array_answer : Reference → Builtin → List Value → Option ℕ → Answer
array_answer a builtin.Index args given = by_misfit (misfit args 1 None given) (at_index At a args)
array_answer a builtin.SetIndex args given = by_misfit (misfit args 2 None given) (put_index a args)
array_answer a builtin.Append args given = by_misfit (misfit args 1 None given) (adds Push a args)
array_answer a builtin.Push args given = by_misfit (misfit args 1 None given) (adds Push a args)
array_answer a builtin.Unshift args given = by_misfit (misfit args 1 None given) (adds Unshift a args)
array_answer a builtin.Pop args given = by_misfit (misfit args 0 None given) (asks Pop a args)
array_answer a builtin.Shift args given = by_misfit (misfit args 0 None given) (asks Shift a args)
array_answer a builtin.DeleteAt args given = by_misfit (misfit args 1 None given) (at_index DeleteAt a args)
array_answer a builtin.First args given = by_misfit (misfit args 0 None given) (asks (At (pos 0)) a args)
array_answer a builtin.Last args given = by_misfit (misfit args 0 None given) (asks (At (negsuc 0)) a args)
array_answer a b args given = collection_answer a b args given

-- and with one
abbrev pub walk_answer : Reference → Builtin → List Value → Option ℕ → Answer
walk_answer a builtin.Each args given = by_misfit (misfit args 0 (Some (up_to 1)) given) (LoopsOver a machine.Each)
walk_answer a builtin.EachWithIndex args given = by_misfit (misfit args 0 (Some (up_to 2)) given) (LoopsOver a machine.WithIndex)
walk_answer a builtin.Map args given = by_misfit (misfit args 0 (Some (up_to 1)) given) (LoopsOver a (machine.Map []))
walk_answer a builtin.Select args given = by_misfit (misfit args 0 (Some (up_to 1)) given) (LoopsOver a (machine.Select [] Nil))
walk_answer a b args given = array_answer a b args given

-- the walk that a method of arrays with a block is, and how many parameters the block has at most
abbrev pub pass_of : Builtin → Option (Pass × ℕ)
pass_of builtin.Each = Some (pass.Each, 1)
pass_of builtin.EachWithIndex = Some (pass.WithIndex, 2)
pass_of builtin.Map = Some (pass.Map, 1)
pass_of builtin.Select = Some (pass.Select, 1)
pass_of other = None

-- the methods of arrays that are given a value which the array then has
abbrev pub is_writer : Builtin → Bool
is_writer builtin.SetIndex = true
is_writer builtin.Append = true
is_writer builtin.Push = true
is_writer builtin.Unshift = true
is_writer other = false

-- the methods of hashes that are given a key
abbrev pub is_by_key : Builtin → Bool
is_by_key builtin.Index = true
is_by_key builtin.SetIndex = true
is_by_key builtin.Delete = true
is_by_key builtin.HasKey = true
is_by_key other = false

-- a collection gives its inspected form, and no other value does
abbrev pub IsTold : Value → Option Answer → Type 0
IsTold v (Some answer) = (is_collection v ≡ true) × (answer ≡ Inspects v)
IsTold v None = is_collection v ≡ false

-- what hashes answer to methods
abbrev pub hash_answer : Reference → Builtin → List Value → Option ℕ → Answer
hash_answer h builtin.Index args given = by_misfit (misfit args 1 None given) (by_key KGet h args)
hash_answer h builtin.SetIndex args given = by_misfit (misfit args 2 None given) (put_key h args)
hash_answer h builtin.Delete args given = by_misfit (misfit args 1 None given) (by_key KDelete h args)
hash_answer h builtin.HasKey args given = by_misfit (misfit args 1 None given) (by_key KHas h args)
hash_answer h builtin.Keys args given = by_misfit (misfit args 0 None given) (Reads h machine.Keys)
hash_answer h builtin.Values args given = by_misfit (misfit args 0 None given) (Reads h machine.Values)
hash_answer h builtin.Each args given = by_misfit (misfit args 0 (Some none_or_two) given) (EachPairOf h)
hash_answer h builtin.EachPair args given = by_misfit (misfit args 0 (Some none_or_two) given) (EachPairOf h)
hash_answer h b args given = collection_answer h b args given

-- what mutexes answer to methods
abbrev pub mutex_answer : Reference → Builtin → List Value → Option ℕ → Answer
mutex_answer m builtin.Lock args given = by_misfit (misfit args 0 None given) (changes Lock m)
mutex_answer m builtin.Unlock args given = by_misfit (misfit args 0 None given) (changes Unlock m)
mutex_answer m builtin.Synchronize args given = by_misfit (misfit args 0 (Some (up_to 0)) given) (Synchronizes m)
mutex_answer m b args given = Raises NoMethod

-- what threads answer to methods
abbrev pub thread_answer : Reference → Builtin → List Value → Option ℕ → Answer
thread_answer t builtin.Join args given = by_misfit (misfit args 0 None given) (changes Join t)
thread_answer t builtin.Value args given = by_misfit (misfit args 0 None given) (asks Join t args)
thread_answer t b args given = Raises NoMethod

-- what things answer, by what they are
abbrev pub thing_answer : Sort → Reference → Builtin → List Value → Option ℕ → Answer
thing_answer sort.List thing b args given = walk_answer thing b args given
thing_answer sort.Pairs thing b args given = hash_answer thing b args given
thing_answer sort.Mutex thing b args given = mutex_answer thing b args given
thing_answer sort.Thread thing b args given = thread_answer thing b args given
thing_answer other thing b args given = Raises NoMethod

-- what values answer to methods that only some have
abbrev pub own_answer : Value → Builtin → List Value → Option ℕ → Answer
own_answer (Int m) b args given = integer_answer m b args given
own_answer (Str s) b args given = text_answer s b args given
own_answer (To thing) b args given = thing_answer thing.sort thing b args given
own_answer v b args given = Raises NoMethod

-- what values answer to methods by their numbers
abbrev pub answer_by_number : Program → Value → Builtin → List Value → Option ℕ → Answer
answer_by_number P v builtin.Equal args given = by_misfit (misfit args 1 None given) (equal v args)
answer_by_number P v builtin.IsNil args given = by_misfit (misfit args 0 None given) (Gives (truth (same v Nil)))
answer_by_number P v builtin.ToS args given = by_misfit (misfit args 0 None given) (told v (shown P v))
answer_by_number P v builtin.Inspect args given = by_misfit (misfit args 0 None given) (told v (inspected P v))
answer_by_number P v b args given = own_answer v b args given
