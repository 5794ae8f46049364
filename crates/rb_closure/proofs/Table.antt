-- A built-in method answers with what it is called on, and with what it is given.
use Rattle.std.proofs.Common.{ℕ, ℤ, Bool, true, false, cond, List, [], ◌∷◌, ◌++◌, Option, Some, None, find}
use Rattle.std.specs.Prelude.{pos, negsuc, neg_ℤ, ◌+ℤ◌, ◌-ℤ◌, ◌*ℤ◌, int_lt, int_le, length, nat_le, ◌&&◌, ◌||◌}
use Rattle.std.specs.Str.{bytes_eq}
use Rattle.std.specs.Ordering.{int_eq}
use Rattle.rb_model.specs.declared.fault.Fault.{Fault}
use Rattle.rb_model.specs.declared.fault.Fault.TheVariants.{NoMethod}
use Rattle.rb_model.specs.Values.{Value, Nil, Int, Str, To, Reference, same, truth}
use Rattle.rb_model.specs.Acts.{Act, At, Push, Unshift, Pop, Shift, DeleteAt, KGet, KHas, KDelete, Clear, Len, Join, Lock, Unlock, handed}
use Rattle.rb_machine.specs.Scopes.{Script, Text}
use Rattle.rb_machine.specs.Texts.{max_bytes}
use Rattle.rb_machine.specs.Drafts.{is_collection}
use Rattle.rb_machine.specs.Methods.{Answer, Gives, Raises, Loops, LoopsOver, Asks, Reads, EachPairOf, Inspects, Synchronizes, Row}
use Rattle.rb_machine.specs.Methods as method
use Rattle.rb_closure.specs.Mentions.{values_in_turns, values_in_walk}
use Rattle.rb_closure.specs.Closure.{Each}
use Rattle.rb_closure.proofs.Lists.{both}
use Rattle.rb_closure.proofs.Parts.{Rules, Good, GoodAll, GoodStep, GoodUse}
use Rattle.rb_closure.proofs.Things.{plain}

module _ (S : Script) (P : Rules S) where
  abbrev pub GoodAnswer : Answer → Type 0
  GoodAnswer (Gives v) = Good S P v
  GoodAnswer (Raises fault) = Unit {0}
  GoodAnswer (Loops turns) = GoodAll S P (values_in_turns turns)
  GoodAnswer (LoopsOver array walk) = GoodAll S P (To array ∷ values_in_walk walk)
  GoodAnswer (Asks thing act None) = GoodAll S P (To thing ∷ handed act)
  GoodAnswer (Asks thing act (Some step)) = GoodAll S P (To thing ∷ handed act) × GoodStep S P step
  GoodAnswer (Reads thing purpose) = Good S P (To thing) × GoodUse S P purpose
  GoodAnswer (EachPairOf hash) = Good S P (To hash)
  GoodAnswer (Inspects collection) = Good S P collection
  GoodAnswer (Synchronizes mutex) = Good S P (To mutex)

  answer_if : (b : Bool) (a c : Answer) → GoodAnswer a → GoodAnswer c → GoodAnswer (cond b a c)
  answer_if true a c p q = p
  answer_if false a c p q = q

  -- what a row may do
  abbrev GoodDoes : (Value → List Value → Answer) → Type 0
  GoodDoes does = (v : Value) (args : List Value) → Good S P v → GoodAll S P args → GoodAnswer (does v args)

  abbrev GoodOnThing : (Reference → List Value → Answer) → Type 0
  GoodOnThing does = (thing : Reference) (args : List Value) → P.Refers thing → GoodAll S P args → GoodAnswer (does thing args)

  -- ---- what rows do

  integer_good : (n : ℤ) → GoodAnswer (method.integer n)
  integer_good n = answer_if (method.fits n) _ _ tt tt

  text_good : (bytes : Text) → GoodAnswer (method.text bytes)
  text_good bytes = answer_if (nat_le (length bytes) max_bytes) _ _ tt tt

  told_good : (v : Value) (bytes : Text) → Good S P v → GoodAnswer (method.told v bytes)
  told_good v bytes p = answer_if (is_collection v) _ _ p (text_good bytes)

  on_integers_good : (f : ℤ → ℤ → Answer) → ((m n : ℤ) → GoodAnswer (f m n)) → GoodDoes (method.on_integers f)
  on_integers_good f h (Int m) (Int n ∷ []) p a = h m n
  on_integers_good f h v args p a = tt

  truth_good : (b : Bool) → GoodAnswer (Gives (truth b))
  truth_good b = plain P.Refers b

  unless_zero_good : (f : ℤ → ℤ → ℤ) (m n : ℤ) → GoodAnswer (method.unless_zero f m n)
  unless_zero_good f m n = answer_if (int_eq n (pos 0)) _ _ tt (integer_good (f m n))

  negated_good : GoodDoes method.negated
  negated_good (Int n) args p a = integer_good (neg_ℤ n)
  negated_good v args p a = tt

  times_good : GoodDoes method.times
  times_good (Int n) args p a = (tt, tt)
  times_good v args p a = tt

  joined_good : GoodDoes method.joined
  joined_good (Str b) (Str c ∷ []) p a = text_good (b ++ c)
  joined_good v args p a = tt

  characters_good : GoodDoes method.count_characters
  characters_good (Str bytes) args p a = tt
  characters_good v args p a = tt

  equal_good : GoodDoes method.equal
  equal_good v (w ∷ []) p a = answer_if (same v w || method.may_compare v w) (Gives (truth (same v w))) (Raises NoMethod) (truth_good (same v w)) tt
  equal_good v args p a = tt

  on_thing_good : (f : Reference → List Value → Answer) → GoodOnThing f → GoodDoes (method.on_thing f)
  on_thing_good f h (To thing) args p a = h thing args p a
  on_thing_good f h v args p a = tt

  adds_good : (act : Value → Act) → ((v : Value) → Good S P v → GoodAll S P (handed (act v))) → GoodOnThing (method.adds act)
  adds_good act h array (v ∷ []) p a = ((p, h v a.0), ((p, tt), tt))
  adds_good act h array args p a = tt

  at_index_good : (act : ℤ → Act) → ((i : ℤ) → GoodAll S P (handed (act i))) → GoodOnThing (method.at_index act)
  at_index_good act h array (Int i ∷ []) p a = (p, h i)
  at_index_good act h array args p a = tt

  put_index_good : GoodOnThing method.put_index
  put_index_good array (Int i ∷ v ∷ []) p a = (p, a.1)
  put_index_good array args p a = tt

  by_key_good : (act : Value → Act) → ((k : Value) → Good S P k → GoodAll S P (handed (act k))) → GoodOnThing (method.by_key act)
  by_key_good act h hash (k ∷ []) p a = answer_if (is_collection k) _ _ tt (p, h k a.0)
  by_key_good act h hash args p a = tt

  put_key_good : GoodOnThing method.put_key
  put_key_good hash (k ∷ v ∷ []) p a = answer_if (is_collection k) _ _ tt (p, a)
  put_key_good hash args p a = tt

  changes_good : (act : Act) → GoodAll S P (handed act) → GoodOnThing (λ thing args. method.changes act thing)
  changes_good act h thing args p a = ((p, h), ((p, tt), tt))

  asks_good : (act : Act) → GoodAll S P (handed act) → GoodOnThing (method.asks act)
  asks_good act h thing args p a = (p, h)

  -- ---- the table

  abbrev GoodRow : Row → Type 0
  GoodRow r = GoodDoes r.does

  -- a row before others
  also : {A B : Type 0} → A → B → A × B
  also p q = (p, q)

  any_good : Each GoodRow (method.any_rows S.program)
  any_good = (equal_good, (λ v args p a. plain P.Refers (same v Nil), (λ v args p a. told_good v _ p, (λ v args p a. told_good v _ p, tt))))

  integers_good : Each GoodRow (method.integer_rows S.program)
  integers_good =
      also (on_integers_good _ (λ m n. integer_good (m +ℤ n)))
      (also (on_integers_good _ (λ m n. integer_good (m -ℤ n)))
      (also (on_integers_good _ (λ m n. integer_good (m *ℤ n)))
      (also (on_integers_good _ (unless_zero_good method.quotient))
      (also (on_integers_good _ (unless_zero_good method.modulo))
      (also negated_good
      (also (on_integers_good _ (λ m n. truth_good (int_lt m n)))
      (also (on_integers_good _ (λ m n. truth_good (int_le m n)))
      (also (on_integers_good _ (λ m n. truth_good (int_lt n m)))
      (also (on_integers_good _ (λ m n. truth_good (int_le n m)))
      (also times_good
      (also (on_integers_good method.upto (λ m n. (tt, tt))) tt)))))))))))

  strings_good : Each GoodRow (method.string_rows S.program)
  strings_good = (joined_good, (characters_good, tt))

  arrays_good : Each GoodRow (method.array_rows S.program)
  arrays_good =
      also (on_thing_good _ (at_index_good At (λ i. tt)))
      (also (on_thing_good _ put_index_good)
      (also (on_thing_good _ (adds_good Push (λ v p. (p, tt))))
      (also (on_thing_good _ (adds_good Push (λ v p. (p, tt))))
      (also (on_thing_good _ (adds_good Unshift (λ v p. (p, tt))))
      (also (on_thing_good _ (asks_good Pop tt))
      (also (on_thing_good _ (asks_good Shift tt))
      (also (on_thing_good _ (at_index_good DeleteAt (λ i. tt)))
      (also (on_thing_good _ (asks_good (At (pos 0)) tt))
      (also (on_thing_good _ (asks_good (At (negsuc 0)) tt))
      (also (on_thing_good _ (λ array args p a. (p, tt)))
      (also (on_thing_good _ (λ array args p a. (p, tt)))
      (also (on_thing_good _ (λ array args p a. (p, tt)))
      (also (on_thing_good _ (λ array args p a. (p, (tt, tt)))) tt)))))))))))))

  hashes_good : Each GoodRow (method.hash_rows S.program)
  hashes_good =
      also (on_thing_good _ (by_key_good KGet (λ k p. (p, tt))))
      (also (on_thing_good _ put_key_good)
      (also (on_thing_good _ (by_key_good KDelete (λ k p. (p, tt))))
      (also (on_thing_good _ (by_key_good KHas (λ k p. (p, tt))))
      (also (on_thing_good _ (λ hash args p a. (p, (tt, tt))))
      (also (on_thing_good _ (λ hash args p a. (p, (tt, tt))))
      (also (on_thing_good _ (λ hash args p a. p))
      (also (on_thing_good _ (λ hash args p a. p)) tt)))))))

  collections_good : Each GoodRow (method.collection_rows S.program)
  collections_good =
      also (on_thing_good _ (asks_good Len tt))
      (also (on_thing_good _ (asks_good Len tt))
      (also (on_thing_good _ (λ thing args p a. ((p, tt), (tt, tt))))
      (also (on_thing_good _ (changes_good Clear tt)) tt)))

  mutexes_good : Each GoodRow (method.mutex_rows S.program)
  mutexes_good = (on_thing_good _ (changes_good Lock tt), (on_thing_good _ (changes_good Unlock tt), (on_thing_good _ (λ mutex args p a. p), tt)))

  threads_good : Each GoodRow (method.thread_rows S.program)
  threads_good = (on_thing_good _ (changes_good Join tt), (on_thing_good _ (asks_good Join tt), tt))

  rows_good : Each GoodRow (method.rows S.program)
  rows_good =
      let few = method.mutex_rows S.program ++ method.thread_rows S.program in
      let last = method.collection_rows S.program ++ few in
      let hashes = method.hash_rows S.program ++ last in
      let arrays = method.array_rows S.program ++ hashes in
      let strings = method.string_rows S.program ++ arrays in
      both GoodRow (method.any_rows S.program) (method.integer_rows S.program ++ strings) any_good
      (both GoodRow (method.integer_rows S.program) strings integers_good
      (both GoodRow (method.string_rows S.program) arrays strings_good
      (both GoodRow (method.array_rows S.program) hashes arrays_good
      (both GoodRow (method.hash_rows S.program) last hashes_good
      (both GoodRow (method.collection_rows S.program) few collections_good
      (both GoodRow (method.mutex_rows S.program) (method.thread_rows S.program) mutexes_good threads_good))))))

  unless_fault_good : (fault : Option Fault) (counts : Bool) (a : Answer) → GoodAnswer a → GoodAnswer (method.unless_fault fault counts a)
  unless_fault_good (Some fault) counts a h = tt
  unless_fault_good None counts a h = answer_if counts _ _ h tt

  row_found : (test : Row → Bool) (rs : List Row) → Each GoodRow rs → (v : Value) (args : List Value) (given : Option ℕ) → Good S P v → GoodAll S P args
      → GoodAnswer (method.answered_by (find test rs) v args given)
  row_found test [] h v args given p a = tt
  row_found test (r ∷ rs) h v args given p a = at (test r) (row_found test rs h.1 v args given p a)
    where
      at : (b : Bool) → GoodAnswer (method.answered_by (find test rs) v args given) → GoodAnswer (method.answered_by (cond b (Some r) (find test rs)) v args given)
      at true later = unless_fault_good _ _ (r.does v args) (h.0 v args p a)
      at false later = later

  pub deed_good : (v : Value) (name : Text) (args : List Value) (given : Option ℕ) → Good S P v → GoodAll S P args → GoodAnswer (method.deed S.program v name args given)
  deed_good v name args given p a = row_found (λ (r : Row). bytes_eq name r.name && method.is_of r.of v) (method.rows S.program) rows_good v args given p a
