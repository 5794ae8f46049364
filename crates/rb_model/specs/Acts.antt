-- What is asked of a thing, and what it answers.
use Rattle.std.specs.Prelude.{ℕ, ℤ, List, [], ◌∷◌}
use Rattle.rb_tree.specs.declared.span.NameId.{NameId}
use Rattle.rb_model.specs.declared.fault.Fault.{Fault}
use Rattle.rb_model.specs.Values.{Value as Val, Reference}
use Rattle.rb_model.specs.Ends.{End}

-- Fields of an object; elements of a list, by an index that counts from the end where it is negative; pairs of a hash. Clear, Len and Copy
-- are for lists and hashes. Join waits for the end of a thread; Lock takes a mutex, and Unlock gives it back.
pub data Act : Type 0 where
  GetField : (name : NameId) → Act
  SetField : (name : NameId) (value : Val) → Act
  At : (index : ℤ) → Act
  Put : (index : ℤ) (value : Val) → Act
  Push : (value : Val) → Act
  Unshift : (value : Val) → Act
  Pop : Act
  Shift : Act
  DeleteAt : (index : ℤ) → Act
  KGet : (key : Val) → Act
  KHas : (key : Val) → Act
  KPut : (key value : Val) → Act
  KDelete : (key : Val) → Act
  Clear : Act
  Len : Act
  Copy : Act
  Join : Act
  Lock : Act
  Unlock : Act

-- a value, all elements, all pairs, nothing, the number and the thing of a thread that was started, the end of a thread, or a fault
pub data Reply : Type 0 where
  Value : (value : Val) → Reply
  Elements : (values : List Val) → Reply
  Pairs : (pairs : List (Val × Val)) → Reply
  Done : Reply
  Started : (number : ℕ) (thread : Reference) → Reply
  Ended : (how : End) → Reply
  Failed : (fault : Fault) → Reply

-- the values that an act hands over
abbrev pub handed : Act → List Val
handed (SetField name v) = v ∷ []
handed (Put i v) = v ∷ []
handed (Push v) = v ∷ []
handed (Unshift v) = v ∷ []
handed (KGet k) = k ∷ []
handed (KHas k) = k ∷ []
handed (KPut k v) = k ∷ v ∷ []
handed (KDelete k) = k ∷ []
handed act = []
