-- The methods that values have, as a table.
use Rattle.std.specs.Prelude.{ℕ, ◌^◌, ℤ, pos, negsuc, neg_ℤ, ◌+ℤ◌, ◌-ℤ◌, ◌*ℤ◌, int_lt, int_le, nat_lt, nat_le, nat_eq, Bool, true, false, ◌&&◌, ◌||◌, not, if◌then◌else◌, List, [], ◌∷◌, ◌++◌, length, Option, Some, None, find, codes}
use Rattle.std.specs.Ordering.{int_eq}
use Rattle.std.specs.Int.{int_div_euclid, int_rem_euclid}
use Rattle.std.specs.Str.{bytes_eq}
use Rattle.rb_tree.specs.declared.node.Program.{Program}
use Rattle.rb_model.specs.declared.value.Sort.{Sort}
use Rattle.rb_model.specs.declared.value.Sort.TheVariants as sort
use Rattle.rb_model.specs.declared.fault.Fault.{Fault}
use Rattle.rb_model.specs.declared.fault.Fault.TheVariants.{NoMethod, ArgumentCount, TypeMismatch, BadKey, ZeroDivision, IntegerOverflow, TextTooLong}
use Rattle.rb_model.specs.Values.{Value, Nil, Int, Str, To, Reference, truth, same}
use Rattle.rb_model.specs.Acts.{Act, At, Put, Push, Unshift, Pop, Shift, DeleteAt, KGet, KHas, KPut, KDelete, Clear, Len, Join, Lock, Unlock}
use Rattle.rb_model.specs.Characters.{characters}
use Rattle.rb_machine.specs.Scopes.{Text}
use Rattle.rb_machine.specs.Control.{Turns, Counting, Walk, Each, WithIndex, Map, Select, Step, Instead, IsZero, Use, Keys, Values}
use Rattle.rb_machine.specs.Texts.{max_bytes, shown, inspected}
use Rattle.rb_machine.specs.Drafts.{is_collection}

-- What a method does: it gives a value, raises a fault, or calls its block in turns; it asks something of a thing, whose reply is the answer,
-- or what a step makes of it; it reads a collection by one copy, or calls its block with each pair of one; it gives the inspected form of a
-- collection; or it calls its block once, while it owns a mutex.
pub data Answer : Type 0 where
  Gives : (value : Value) → Answer
  Raises : (fault : Fault) → Answer
  Loops : (turns : Turns) → Answer
  LoopsOver : (array : Reference) (walk : Walk) → Answer
  Asks : (thing : Reference) (act : Act) (behind : Option Step) → Answer
  Reads : (thing : Reference) (purpose : Use) → Answer
  EachPairOf : (hash : Reference) → Answer
  Inspects : (collection : Value) → Answer
  Synchronizes : (mutex : Reference) → Answer

-- the receivers of a row
pub data Receiver : Type 0 where
  AnyValue : Receiver
  Integer : Receiver
  String : Receiver
  Array : Receiver
  Hash : Receiver
  Collection : Receiver
  Mutex : Receiver
  Thread : Receiver

abbrev pub has_sort : Receiver → Sort → Bool
has_sort Array sort.List = true
has_sort Hash sort.Pairs = true
has_sort Collection sort.List = true
has_sort Collection sort.Pairs = true
has_sort Mutex sort.Mutex = true
has_sort Thread sort.Thread = true
has_sort other other_sort = false

abbrev pub is_of : Receiver → Value → Bool
is_of AnyValue v = true
is_of Integer (Int n) = true
is_of String (Str bytes) = true
is_of other (To thing) = has_sort other thing.sort
is_of other v = false

-- A method: its receivers, its name, how many arguments it takes, which numbers of parameters its block may have where it takes one, and what
-- it does with the receiver and the arguments.
pub record Row : Type 0 where
  pub of : Receiver
  pub name : Text
  pub arity : ℕ
  pub block : Option (ℕ → Bool)
  pub does : Value → List Value → Answer

-- ---- what rows do

-- a result of 64 bits
abbrev pub fits : ℤ → Bool
fits (pos n) = nat_lt n (2 ^ 63)
fits (negsuc n) = nat_lt n (2 ^ 63)

abbrev pub integer : ℤ → Answer
integer n = if fits n then Gives (Int n) else Raises IntegerOverflow

abbrev pub text : Text → Answer
text bytes = if nat_le (length bytes) max_bytes then Gives (Str bytes) else Raises TextTooLong

-- an operation on two integers
abbrev pub on_integers : (ℤ → ℤ → Answer) → Value → List Value → Answer
on_integers does (Int m) (Int n ∷ []) = does m n
on_integers does v args = Raises TypeMismatch

-- whether a division leaves something, and by a negative divisor
abbrev pub leaves_below : ℤ → ℤ → Bool
leaves_below m n = int_lt n (pos 0) && not (int_eq (int_rem_euclid m n) (pos 0))

-- The quotient, rounded toward minus infinity, and what is left of the dividend, which has the sign of the divisor. The quotient whose
-- remainder is never negative differs by one where something is left by a negative divisor.
abbrev pub quotient : ℤ → ℤ → ℤ
quotient m n = if leaves_below m n then int_div_euclid m n -ℤ pos 1 else int_div_euclid m n

abbrev pub modulo : ℤ → ℤ → ℤ
modulo m n = if leaves_below m n then int_rem_euclid m n +ℤ n else int_rem_euclid m n

abbrev pub unless_zero : (ℤ → ℤ → ℤ) → ℤ → ℤ → Answer
unless_zero f m n = if int_eq n (pos 0) then Raises ZeroDivision else integer (f m n)

abbrev pub negated : Value → List Value → Answer
negated (Int n) args = integer (neg_ℤ n)
negated v args = Raises NoMethod

-- the block is called with 0, 1 and so on below the receiver, or with the integers from the receiver up to the argument
abbrev pub times : Value → List Value → Answer
times (Int n) args = Loops (Counting (pos 0) n (Int n))
times v args = Raises NoMethod

abbrev pub upto : ℤ → ℤ → Answer
upto m n = Loops (Counting m (n +ℤ pos 1) (Int m))

abbrev pub joined : Value → List Value → Answer
joined (Str a) (Str b ∷ []) = text (a ++ b)
joined v args = Raises TypeMismatch

abbrev pub count_characters : Value → List Value → Answer
count_characters (Str bytes) args = Gives (Int (pos (characters bytes)))
count_characters v args = Raises NoMethod

-- two arrays, and two hashes, that are not one and the same cannot be compared
abbrev pub is_compared : Sort → Sort → Bool
is_compared sort.List sort.List = false
is_compared sort.Pairs sort.Pairs = false
is_compared a b = true

abbrev pub may_compare : Value → Value → Bool
may_compare (To a) (To b) = is_compared a.sort b.sort
may_compare v w = true

abbrev pub equal : Value → List Value → Answer
equal v (w ∷ []) = if same v w || may_compare v w then Gives (truth (same v w)) else Raises NoMethod
equal v args = Raises ArgumentCount

abbrev pub is_nil : Value → List Value → Answer
is_nil v args = Gives (truth (same v Nil))

-- ---- what is done with arrays and hashes

abbrev pub on_thing : (Reference → List Value → Answer) → Value → List Value → Answer
on_thing does (To thing) args = does thing args
on_thing does v args = Raises NoMethod

-- a question without arguments, whose reply is the answer; and one that answers the receiver
abbrev pub asks : Act → Reference → List Value → Answer
asks act thing args = Asks thing act None

abbrev pub changes : Act → Reference → Answer
changes act thing = Asks thing act (Some (Instead (To thing)))

abbrev pub is_empty : Reference → List Value → Answer
is_empty thing args = Asks thing Len (Some IsZero)

abbrev pub adds : (Value → Act) → Reference → List Value → Answer
adds act array (v ∷ []) = changes (act v) array
adds act array args = Raises ArgumentCount

abbrev pub at_index : (ℤ → Act) → Reference → List Value → Answer
at_index act array (Int i ∷ []) = Asks array (act i) None
at_index act array args = Raises TypeMismatch

abbrev pub put_index : Reference → List Value → Answer
put_index array (Int i ∷ v ∷ []) = Asks array (Put i v) None
put_index array args = Raises TypeMismatch

-- an array or a hash is no key
abbrev pub if_key : Value → Answer → Answer
if_key k answer = if is_collection k then Raises BadKey else answer

abbrev pub by_key : (Value → Act) → Reference → List Value → Answer
by_key act hash (k ∷ []) = if_key k (Asks hash (act k) None)
by_key act hash args = Raises ArgumentCount

abbrev pub put_key : Reference → List Value → Answer
put_key hash (k ∷ v ∷ []) = if_key k (Asks hash (KPut k v) None)
put_key hash args = Raises ArgumentCount

-- how many parameters a block may have
abbrev pub up_to : ℕ → ℕ → Bool
up_to most given = nat_le given most

abbrev pub none_or_two : ℕ → Bool
none_or_two given = nat_eq given 0 || nat_eq given 2

-- the text of a value that a method gives; a collection is read for it
abbrev pub told : Value → Text → Answer
told v bytes = if is_collection v then Inspects v else text bytes

-- ---- the table

module _ (P : Program) where
  abbrev pub any_rows : List Row
  any_rows =
      record { of = AnyValue; name = codes "=="; arity = 1; block = None; does = equal }
      ∷ record { of = AnyValue; name = codes "nil?"; arity = 0; block = None; does = is_nil }
      ∷ record { of = AnyValue; name = codes "to_s"; arity = 0; block = None; does = λ v args. told v (shown P v) }
      ∷ record { of = AnyValue; name = codes "inspect"; arity = 0; block = None; does = λ v args. told v (inspected P v) }
      ∷ []

  abbrev pub integer_rows : List Row
  integer_rows =
      record { of = Integer; name = codes "+"; arity = 1; block = None; does = on_integers (λ m n. integer (m +ℤ n)) }
      ∷ record { of = Integer; name = codes "-"; arity = 1; block = None; does = on_integers (λ m n. integer (m -ℤ n)) }
      ∷ record { of = Integer; name = codes "*"; arity = 1; block = None; does = on_integers (λ m n. integer (m *ℤ n)) }
      ∷ record { of = Integer; name = codes "/"; arity = 1; block = None; does = on_integers (unless_zero quotient) }
      ∷ record { of = Integer; name = codes "%"; arity = 1; block = None; does = on_integers (unless_zero modulo) }
      ∷ record { of = Integer; name = codes "-@"; arity = 0; block = None; does = negated }
      ∷ record { of = Integer; name = codes "<"; arity = 1; block = None; does = on_integers (λ m n. Gives (truth (int_lt m n))) }
      ∷ record { of = Integer; name = codes "<="; arity = 1; block = None; does = on_integers (λ m n. Gives (truth (int_le m n))) }
      ∷ record { of = Integer; name = codes ">"; arity = 1; block = None; does = on_integers (λ m n. Gives (truth (int_lt n m))) }
      ∷ record { of = Integer; name = codes ">="; arity = 1; block = None; does = on_integers (λ m n. Gives (truth (int_le n m))) }
      ∷ record { of = Integer; name = codes "times"; arity = 0; block = Some (up_to 1); does = times }
      ∷ record { of = Integer; name = codes "upto"; arity = 1; block = Some (up_to 1); does = on_integers upto }
      ∷ []

  abbrev pub string_rows : List Row
  string_rows =
      record { of = String; name = codes "+"; arity = 1; block = None; does = joined }
      ∷ record { of = String; name = codes "length"; arity = 0; block = None; does = count_characters }
      ∷ []

  abbrev pub array_rows : List Row
  array_rows =
      record { of = Array; name = codes "[]"; arity = 1; block = None; does = on_thing (at_index At) }
      ∷ record { of = Array; name = codes "[]="; arity = 2; block = None; does = on_thing put_index }
      ∷ record { of = Array; name = codes "<<"; arity = 1; block = None; does = on_thing (adds Push) }
      ∷ record { of = Array; name = codes "push"; arity = 1; block = None; does = on_thing (adds Push) }
      ∷ record { of = Array; name = codes "unshift"; arity = 1; block = None; does = on_thing (adds Unshift) }
      ∷ record { of = Array; name = codes "pop"; arity = 0; block = None; does = on_thing (asks Pop) }
      ∷ record { of = Array; name = codes "shift"; arity = 0; block = None; does = on_thing (asks Shift) }
      ∷ record { of = Array; name = codes "delete_at"; arity = 1; block = None; does = on_thing (at_index DeleteAt) }
      ∷ record { of = Array; name = codes "first"; arity = 0; block = None; does = on_thing (asks (At (pos 0))) }
      ∷ record { of = Array; name = codes "last"; arity = 0; block = None; does = on_thing (asks (At (negsuc 0))) }
      ∷ record { of = Array; name = codes "each"; arity = 0; block = Some (up_to 1); does = on_thing (λ a args. LoopsOver a Each) }
      ∷ record { of = Array; name = codes "each_with_index"; arity = 0; block = Some (up_to 2); does = on_thing (λ a args. LoopsOver a WithIndex) }
      ∷ record { of = Array; name = codes "map"; arity = 0; block = Some (up_to 1); does = on_thing (λ a args. LoopsOver a (Map [])) }
      ∷ record { of = Array; name = codes "select"; arity = 0; block = Some (up_to 1); does = on_thing (λ a args. LoopsOver a (Select [] Nil)) }
      ∷ []

  abbrev pub collection_rows : List Row
  collection_rows =
      record { of = Collection; name = codes "length"; arity = 0; block = None; does = on_thing (asks Len) }
      ∷ record { of = Collection; name = codes "size"; arity = 0; block = None; does = on_thing (asks Len) }
      ∷ record { of = Collection; name = codes "empty?"; arity = 0; block = None; does = on_thing is_empty }
      ∷ record { of = Collection; name = codes "clear"; arity = 0; block = None; does = on_thing (λ c args. changes Clear c) }
      ∷ []

  abbrev pub hash_rows : List Row
  hash_rows =
      record { of = Hash; name = codes "[]"; arity = 1; block = None; does = on_thing (by_key KGet) }
      ∷ record { of = Hash; name = codes "[]="; arity = 2; block = None; does = on_thing put_key }
      ∷ record { of = Hash; name = codes "delete"; arity = 1; block = None; does = on_thing (by_key KDelete) }
      ∷ record { of = Hash; name = codes "key?"; arity = 1; block = None; does = on_thing (by_key KHas) }
      ∷ record { of = Hash; name = codes "keys"; arity = 0; block = None; does = on_thing (λ h args. Reads h Keys) }
      ∷ record { of = Hash; name = codes "values"; arity = 0; block = None; does = on_thing (λ h args. Reads h Values) }
      ∷ record { of = Hash; name = codes "each"; arity = 0; block = Some none_or_two; does = on_thing (λ h args. EachPairOf h) }
      ∷ record { of = Hash; name = codes "each_pair"; arity = 0; block = Some none_or_two; does = on_thing (λ h args. EachPairOf h) }
      ∷ []

  abbrev pub mutex_rows : List Row
  mutex_rows =
      record { of = Mutex; name = codes "lock"; arity = 0; block = None; does = on_thing (λ m args. changes Lock m) }
      ∷ record { of = Mutex; name = codes "unlock"; arity = 0; block = None; does = on_thing (λ m args. changes Unlock m) }
      ∷ record { of = Mutex; name = codes "synchronize"; arity = 0; block = Some (up_to 0); does = on_thing (λ m args. Synchronizes m) }
      ∷ []

  -- the end of a thread is waited for; a value is given, and any other end is the caller's own
  abbrev pub thread_rows : List Row
  thread_rows =
      record { of = Thread; name = codes "join"; arity = 0; block = None; does = on_thing (λ t args. changes Join t) }
      ∷ record { of = Thread; name = codes "value"; arity = 0; block = None; does = on_thing (asks Join) }
      ∷ []

  abbrev pub rows : List Row
  rows = any_rows ++ (integer_rows ++ (string_rows ++ (array_rows ++ (hash_rows ++ (collection_rows ++ (mutex_rows ++ thread_rows))))))

  -- the row of a method, where the receiver has it
  abbrev pub row_of : Value → Text → Option Row
  row_of v name = find (λ (r : Row). bytes_eq name r.name && is_of r.of v) rows

-- a block that is given where none is taken: there is no such method; one that is missing, or has another number of parameters: the count
-- is wrong
abbrev pub block_fault : Option (ℕ → Bool) → Option ℕ → Option Fault
block_fault None None = None
block_fault None (Some given) = Some NoMethod
block_fault (Some may_have) None = Some ArgumentCount
block_fault (Some may_have) (Some given) = if may_have given then None else Some ArgumentCount

abbrev pub unless_fault : Option Fault → Bool → Answer → Answer
unless_fault (Some fault) counts answer = Raises fault
unless_fault None counts answer = if counts then answer else Raises ArgumentCount

abbrev pub answered_by : Option Row → Value → List Value → Option ℕ → Answer
answered_by None v args given = Raises NoMethod
answered_by (Some r) v args given = unless_fault (block_fault r.block given) (nat_eq (length args) r.arity) (r.does v args)

-- what a value answers to the call of a method, with so many parameters of a block where one is given
abbrev pub deed : Program → Value → Text → List Value → Option ℕ → Answer
deed P v name args given = answered_by (row_of P v name) v args given
