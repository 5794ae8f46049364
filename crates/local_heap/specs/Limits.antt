-- How long lists and hashes are, how often a key stands, and who owns mutexes.
use Rattle.std.specs.Prelude.{◌≡◌, ◌≤◌, ⊤, ℕ, false, List, [], ◌∷◌, length, Option, Some, None}
use Rattle.rb_model.specs.declared.value.Id.{Id}
use Rattle.rb_model.specs.Values.{Value as Val}
use Rattle.rb_model.specs.Things.{Thing, Object, Elements, Pairs, Mutex, Thread, has_key, max_elements}
use Rattle.rb_model.specs.Private.{Private, held}

-- nobody owns a mutex, or thread t does
abbrev pub IsOwnMutex : ℕ → Option ℕ → Type 0
IsOwnMutex t None = ⊤
IsOwnMutex t (Some owner) = owner ≡ t

-- no key stands twice
abbrev pub AreKeysOnce : List (Val × Val) → Type 0
AreKeysOnce [] = Unit {0}
AreKeysOnce (p ∷ ps) = (has_key p.0 ps ≡ false) × AreKeysOnce ps

-- A thing that thread t alone can reach: a list has no more elements, and a hash no more pairs, than it may have, no key of a hash stands
-- twice, and a mutex is owned by nobody or by t. It is no thread.
abbrev pub IsWithin : ℕ → Thing → Type 0
IsWithin t (Elements vs) = length vs ≤ max_elements
IsWithin t (Pairs ps) = (length ps ≤ max_elements) × AreKeysOnce ps
IsWithin t (Mutex owner) = IsOwnMutex t owner
IsWithin t (Object class fields) = ⊤
IsWithin t (Thread s) = ⊥

-- the same of the private thing of an id
abbrev pub IsWithinAt : Private → Id → Type 0
IsWithinAt h id = (thing : Thing) → held h id ≡ Some thing → IsWithin h.thread thing
