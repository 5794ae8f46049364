-- The rows of the table, by the numbers of methods.
use Rattle.std.proofs.Common.{◌≡◌, ℕ, Bool, true, false, cond, List, [], ◌∷◌, ◌++◌, Option, Some, None, length, refl, sym, ap, ◌∙◌}
use Rattle.std.specs.Prelude.{ℤ, pos, negsuc, neg_ℤ, nat_eq}
use Rattle.std.specs.Prelude.{◌||◌}
use Rattle.std.specs.Ordering.{int_eq}
use Rattle.std.specs.Str.{bytes_eq}
use Rattle.std.proofs.lemmas.Slice.Eq.{bytes_eq-Decides}
use Rattle.rb_tree.specs.declared.node.Program.{Program}
use Rattle.rb_model.specs.declared.fault.Fault.{Fault}
use Rattle.rb_model.specs.declared.fault.Fault.TheVariants.{NoMethod, TypeMismatch}
use Rattle.rb_model.specs.Characters.{characters}
use Rattle.rb_model.specs.declared.value.Id.{Id}
use Rattle.rb_model.specs.declared.value.Sort.{Sort}
use Rattle.rb_model.specs.declared.value.Sort.TheVariants as sort
use Rattle.rb_model.specs.Values.{Value, Nil, False, True, Int, Sym, Str, To, Reference, truth}
use Rattle.rb_model.specs.Acts.{At, KGet, KHas, KDelete, Clear, Len}
use Rattle.rb_model.specs.Acts as acts
use Rattle.rb_tree.specs.declared.span.NameId.{NameId}
use Rattle.rb_machine.specs.Scopes.{Text}
use Rattle.rb_machine.specs.Control.{Counting}
use Rattle.rb_machine.specs.Control as machine
use Rattle.rb_machine.specs.Texts.{shown, inspected}
use Rattle.rb_machine.specs.Methods.{Answer, Gives, Raises, Loops, LoopsOver, Reads, EachPairOf, Synchronizes, on_integers, joined, text, told, equal, is_nil, integer, upto, unless_fault, deed, block_fault, up_to, none_or_two, asks, changes, is_empty, adds, at_index, put_index, by_key, put_key}
use Rattle.rb_builtin.specs.declared.builtin.Builtin.{Builtin}
use Rattle.rb_builtin.specs.declared.builtin.Builtin.TheVariants as builtin
use Rattle.rb_builtin.specs.Names.{name_of, builtin_of, same_number}
use Rattle.rb_builtin.specs.Integers.{operated, is_operation}
use Rattle.rb_builtin.specs.Deeds.{only_integer, only_text, by_misfit, fault_or_count, answer_by_number, misfit, walk_answer, array_answer, walk_of, may_have, pass_of}
use Rattle.rb_builtin.specs.declared.deed.Pass.{Pass}
use Rattle.rb_builtin.specs.declared.deed.Takes.TheVariants as takes

abbrev pub by_integer : Option ℤ → (ℤ → Answer) → Answer
by_integer (Some n) does = does n
by_integer None does = Raises TypeMismatch

-- an operation on two integers asks for one argument that is one
pub on_integers_is : (does : ℤ → ℤ → Answer) (m : ℤ) (args : List Value) → on_integers does (Int m) args ≡ by_integer (only_integer args) (does m)
on_integers_is does m [] = refl
on_integers_is does m (Int n ∷ []) = refl
on_integers_is does m (Nil ∷ []) = refl
on_integers_is does m (False ∷ []) = refl
on_integers_is does m (True ∷ []) = refl
on_integers_is does m (Sym name ∷ []) = refl
on_integers_is does m (Str bytes ∷ []) = refl
on_integers_is does m (To thing ∷ []) = refl
on_integers_is does m ((Int n) ∷ w ∷ vs) = refl
on_integers_is does m (Nil ∷ w ∷ vs) = refl
on_integers_is does m (False ∷ w ∷ vs) = refl
on_integers_is does m (True ∷ w ∷ vs) = refl
on_integers_is does m ((Sym name) ∷ w ∷ vs) = refl
on_integers_is does m ((Str bytes) ∷ w ∷ vs) = refl
on_integers_is does m ((To thing) ∷ w ∷ vs) = refl

abbrev pub by_text : Text → Option Text → Answer
by_text a (Some b) = text (a ++ b)
by_text a None = Raises TypeMismatch

-- a sum of texts asks for one argument that is one
pub joined_is : (a : Text) (args : List Value) → joined (Str a) args ≡ by_text a (only_text args)
joined_is a [] = refl
joined_is a ((Int n) ∷ []) = refl
joined_is a (Nil ∷ []) = refl
joined_is a (False ∷ []) = refl
joined_is a (True ∷ []) = refl
joined_is a ((Sym name) ∷ []) = refl
joined_is a ((Str bytes) ∷ []) = refl
joined_is a ((To thing) ∷ []) = refl
joined_is a ((Int n) ∷ w ∷ vs) = refl
joined_is a (Nil ∷ w ∷ vs) = refl
joined_is a (False ∷ w ∷ vs) = refl
joined_is a (True ∷ w ∷ vs) = refl
joined_is a ((Sym name) ∷ w ∷ vs) = refl
joined_is a ((Str bytes) ∷ w ∷ vs) = refl
joined_is a ((To thing) ∷ w ∷ vs) = refl

-- a fault or an answer, told apart by the fault of the call
unless_is : (fault : Option Fault) (counts : Bool) (a : Answer) → unless_fault fault counts a ≡ by_misfit (fault_or_count fault counts) a
unless_is (Some fault) counts a = refl
unless_is None true a = refl
unless_is None false a = refl

-- the methods that all values have
abbrev is_any : Builtin → Bool
is_any builtin.Equal = true
is_any builtin.IsNil = true
is_any builtin.ToS = true
is_any builtin.Inspect = true
is_any other = false

module _ (P : Program) where
  -- what the table says of a method by its name is what is said of it by its number
  Agrees : Value → Builtin → Type 0
  Agrees v b = (args : List Value) (given : Option ℕ) → deed P v (name_of b) args given ≡ answer_by_number P v b args given

  of_any : (v : Value) (b : Builtin) → is_any b ≡ true → Agrees v b
  unfolding Agrees
  of_any v builtin.Equal any args given = unless_is (block_fault None given) (nat_eq (length args) 1) (equal v args)
  of_any v builtin.IsNil any args given = unless_is (block_fault None given) (nat_eq (length args) 0) (is_nil v args)
  of_any v builtin.ToS any args given = unless_is (block_fault None given) (nat_eq (length args) 0) (told v (shown P v))
  of_any v builtin.Inspect any args given = unless_is (block_fault None given) (nat_eq (length args) 0) (told v (inspected P v))
  of_any v builtin.Plus any args given = absurd (cc)
  of_any v builtin.Minus any args given = absurd (cc)
  of_any v builtin.Times any args given = absurd (cc)
  of_any v builtin.Over any args given = absurd (cc)
  of_any v builtin.Modulo any args given = absurd (cc)
  of_any v builtin.Negate any args given = absurd (cc)
  of_any v builtin.Less any args given = absurd (cc)
  of_any v builtin.AtMost any args given = absurd (cc)
  of_any v builtin.More any args given = absurd (cc)
  of_any v builtin.AtLeast any args given = absurd (cc)
  of_any v builtin.TimesLoop any args given = absurd (cc)
  of_any v builtin.Upto any args given = absurd (cc)
  of_any v builtin.Length any args given = absurd (cc)
  of_any v builtin.Index any args given = absurd (cc)
  of_any v builtin.SetIndex any args given = absurd (cc)
  of_any v builtin.Append any args given = absurd (cc)
  of_any v builtin.Push any args given = absurd (cc)
  of_any v builtin.Unshift any args given = absurd (cc)
  of_any v builtin.Pop any args given = absurd (cc)
  of_any v builtin.Shift any args given = absurd (cc)
  of_any v builtin.DeleteAt any args given = absurd (cc)
  of_any v builtin.First any args given = absurd (cc)
  of_any v builtin.Last any args given = absurd (cc)
  of_any v builtin.Size any args given = absurd (cc)
  of_any v builtin.IsEmpty any args given = absurd (cc)
  of_any v builtin.Clear any args given = absurd (cc)
  of_any v builtin.Each any args given = absurd (cc)
  of_any v builtin.EachWithIndex any args given = absurd (cc)
  of_any v builtin.Map any args given = absurd (cc)
  of_any v builtin.Select any args given = absurd (cc)
  of_any v builtin.Delete any args given = absurd (cc)
  of_any v builtin.HasKey any args given = absurd (cc)
  of_any v builtin.Keys any args given = absurd (cc)
  of_any v builtin.Values any args given = absurd (cc)
  of_any v builtin.EachPair any args given = absurd (cc)
  of_any v builtin.Lock any args given = absurd (cc)
  of_any v builtin.Unlock any args given = absurd (cc)
  of_any v builtin.Synchronize any args given = absurd (cc)
  of_any v builtin.Join any args given = absurd (cc)
  of_any v builtin.Value any args given = absurd (cc)

  of_integer : (m : ℤ) (b : Builtin) → is_any b ≡ false → Agrees (Int m) b
  unfolding Agrees
  of_integer m builtin.Plus any args given = unless_is (block_fault None given) (nat_eq (length args) 1) (on_integers (operated builtin.Plus) (Int m) args)
  of_integer m builtin.Minus any args given = unless_is (block_fault None given) (nat_eq (length args) 1) (on_integers (operated builtin.Minus) (Int m) args)
  of_integer m builtin.Times any args given = unless_is (block_fault None given) (nat_eq (length args) 1) (on_integers (operated builtin.Times) (Int m) args)
  of_integer m builtin.Over any args given = unless_is (block_fault None given) (nat_eq (length args) 1) (on_integers (operated builtin.Over) (Int m) args)
  of_integer m builtin.Modulo any args given = unless_is (block_fault None given) (nat_eq (length args) 1) (on_integers (operated builtin.Modulo) (Int m) args)
  of_integer m builtin.Negate any args given = unless_is (block_fault None given) (nat_eq (length args) 0) (integer (neg_ℤ m))
  of_integer m builtin.Less any args given = unless_is (block_fault None given) (nat_eq (length args) 1) (on_integers (operated builtin.Less) (Int m) args)
  of_integer m builtin.AtMost any args given = unless_is (block_fault None given) (nat_eq (length args) 1) (on_integers (operated builtin.AtMost) (Int m) args)
  of_integer m builtin.More any args given = unless_is (block_fault None given) (nat_eq (length args) 1) (on_integers (operated builtin.More) (Int m) args)
  of_integer m builtin.AtLeast any args given = unless_is (block_fault None given) (nat_eq (length args) 1) (on_integers (operated builtin.AtLeast) (Int m) args)
  of_integer m builtin.TimesLoop any args given = unless_is (block_fault (Some (up_to 1)) given) (nat_eq (length args) 0) (Loops (Counting (pos 0) m (Int m)))
  of_integer m builtin.Upto any args given = unless_is (block_fault (Some (up_to 1)) given) (nat_eq (length args) 1) (on_integers upto (Int m) args)
  of_integer m builtin.Length any args given = refl
  of_integer m builtin.Index any args given = refl
  of_integer m builtin.SetIndex any args given = refl
  of_integer m builtin.Append any args given = refl
  of_integer m builtin.Push any args given = refl
  of_integer m builtin.Unshift any args given = refl
  of_integer m builtin.Pop any args given = refl
  of_integer m builtin.Shift any args given = refl
  of_integer m builtin.DeleteAt any args given = refl
  of_integer m builtin.First any args given = refl
  of_integer m builtin.Last any args given = refl
  of_integer m builtin.Size any args given = refl
  of_integer m builtin.IsEmpty any args given = refl
  of_integer m builtin.Clear any args given = refl
  of_integer m builtin.Each any args given = refl
  of_integer m builtin.EachWithIndex any args given = refl
  of_integer m builtin.Map any args given = refl
  of_integer m builtin.Select any args given = refl
  of_integer m builtin.Delete any args given = refl
  of_integer m builtin.HasKey any args given = refl
  of_integer m builtin.Keys any args given = refl
  of_integer m builtin.Values any args given = refl
  of_integer m builtin.EachPair any args given = refl
  of_integer m builtin.Lock any args given = refl
  of_integer m builtin.Unlock any args given = refl
  of_integer m builtin.Synchronize any args given = refl
  of_integer m builtin.Join any args given = refl
  of_integer m builtin.Value any args given = refl
  of_integer m builtin.Equal any args given = absurd (cc)
  of_integer m builtin.IsNil any args given = absurd (cc)
  of_integer m builtin.ToS any args given = absurd (cc)
  of_integer m builtin.Inspect any args given = absurd (cc)

  of_text : (s : Text) (b : Builtin) → is_any b ≡ false → Agrees (Str s) b
  unfolding Agrees
  of_text s builtin.Plus any args given = unless_is (block_fault None given) (nat_eq (length args) 1) (joined (Str s) args)
  of_text s builtin.Minus any args given = refl
  of_text s builtin.Times any args given = refl
  of_text s builtin.Over any args given = refl
  of_text s builtin.Modulo any args given = refl
  of_text s builtin.Negate any args given = refl
  of_text s builtin.Less any args given = refl
  of_text s builtin.AtMost any args given = refl
  of_text s builtin.More any args given = refl
  of_text s builtin.AtLeast any args given = refl
  of_text s builtin.TimesLoop any args given = refl
  of_text s builtin.Upto any args given = refl
  of_text s builtin.Length any args given = unless_is (block_fault None given) (nat_eq (length args) 0) (Gives (Int (pos (characters s))))
  of_text s builtin.Index any args given = refl
  of_text s builtin.SetIndex any args given = refl
  of_text s builtin.Append any args given = refl
  of_text s builtin.Push any args given = refl
  of_text s builtin.Unshift any args given = refl
  of_text s builtin.Pop any args given = refl
  of_text s builtin.Shift any args given = refl
  of_text s builtin.DeleteAt any args given = refl
  of_text s builtin.First any args given = refl
  of_text s builtin.Last any args given = refl
  of_text s builtin.Size any args given = refl
  of_text s builtin.IsEmpty any args given = refl
  of_text s builtin.Clear any args given = refl
  of_text s builtin.Each any args given = refl
  of_text s builtin.EachWithIndex any args given = refl
  of_text s builtin.Map any args given = refl
  of_text s builtin.Select any args given = refl
  of_text s builtin.Delete any args given = refl
  of_text s builtin.HasKey any args given = refl
  of_text s builtin.Keys any args given = refl
  of_text s builtin.Values any args given = refl
  of_text s builtin.EachPair any args given = refl
  of_text s builtin.Lock any args given = refl
  of_text s builtin.Unlock any args given = refl
  of_text s builtin.Synchronize any args given = refl
  of_text s builtin.Join any args given = refl
  of_text s builtin.Value any args given = refl
  of_text s builtin.Equal any args given = absurd (cc)
  of_text s builtin.IsNil any args given = absurd (cc)
  of_text s builtin.ToS any args given = absurd (cc)
  of_text s builtin.Inspect any args given = absurd (cc)

  of_array : (id : Id) (b : Builtin) → is_any b ≡ false → Agrees (To (record { sort = sort.List; id = id })) b
  unfolding Agrees
  of_array id builtin.Plus any args given = refl
  of_array id builtin.Minus any args given = refl
  of_array id builtin.Times any args given = refl
  of_array id builtin.Over any args given = refl
  of_array id builtin.Modulo any args given = refl
  of_array id builtin.Negate any args given = refl
  of_array id builtin.Less any args given = refl
  of_array id builtin.AtMost any args given = refl
  of_array id builtin.More any args given = refl
  of_array id builtin.AtLeast any args given = refl
  of_array id builtin.TimesLoop any args given = refl
  of_array id builtin.Upto any args given = refl
  of_array id builtin.Length any args given = unless_is (block_fault None given) (nat_eq (length args) 0) (asks Len (record { sort = sort.List; id = id }) args)
  of_array id builtin.Index any args given = unless_is (block_fault None given) (nat_eq (length args) 1) (at_index At (record { sort = sort.List; id = id }) args)
  of_array id builtin.SetIndex any args given = unless_is (block_fault None given) (nat_eq (length args) 2) (put_index (record { sort = sort.List; id = id }) args)
  of_array id builtin.Append any args given = unless_is (block_fault None given) (nat_eq (length args) 1) (adds acts.Push (record { sort = sort.List; id = id }) args)
  of_array id builtin.Push any args given = unless_is (block_fault None given) (nat_eq (length args) 1) (adds acts.Push (record { sort = sort.List; id = id }) args)
  of_array id builtin.Unshift any args given = unless_is (block_fault None given) (nat_eq (length args) 1) (adds acts.Unshift (record { sort = sort.List; id = id }) args)
  of_array id builtin.Pop any args given = unless_is (block_fault None given) (nat_eq (length args) 0) (asks acts.Pop (record { sort = sort.List; id = id }) args)
  of_array id builtin.Shift any args given = unless_is (block_fault None given) (nat_eq (length args) 0) (asks acts.Shift (record { sort = sort.List; id = id }) args)
  of_array id builtin.DeleteAt any args given = unless_is (block_fault None given) (nat_eq (length args) 1) (at_index acts.DeleteAt (record { sort = sort.List; id = id }) args)
  of_array id builtin.First any args given = unless_is (block_fault None given) (nat_eq (length args) 0) (asks (At (pos 0)) (record { sort = sort.List; id = id }) args)
  of_array id builtin.Last any args given = unless_is (block_fault None given) (nat_eq (length args) 0) (asks (At (negsuc 0)) (record { sort = sort.List; id = id }) args)
  of_array id builtin.Size any args given = unless_is (block_fault None given) (nat_eq (length args) 0) (asks Len (record { sort = sort.List; id = id }) args)
  of_array id builtin.IsEmpty any args given = unless_is (block_fault None given) (nat_eq (length args) 0) (is_empty (record { sort = sort.List; id = id }) args)
  of_array id builtin.Clear any args given = unless_is (block_fault None given) (nat_eq (length args) 0) (changes Clear (record { sort = sort.List; id = id }))
  of_array id builtin.Each any args given = unless_is (block_fault (Some (up_to 1)) given) (nat_eq (length args) 0) (LoopsOver (record { sort = sort.List; id = id }) machine.Each)
  of_array id builtin.EachWithIndex any args given = unless_is (block_fault (Some (up_to 2)) given) (nat_eq (length args) 0) (LoopsOver (record { sort = sort.List; id = id }) machine.WithIndex)
  of_array id builtin.Map any args given = unless_is (block_fault (Some (up_to 1)) given) (nat_eq (length args) 0) (LoopsOver (record { sort = sort.List; id = id }) (machine.Map []))
  of_array id builtin.Select any args given = unless_is (block_fault (Some (up_to 1)) given) (nat_eq (length args) 0) (LoopsOver (record { sort = sort.List; id = id }) (machine.Select [] Nil))
  of_array id builtin.Delete any args given = refl
  of_array id builtin.HasKey any args given = refl
  of_array id builtin.Keys any args given = refl
  of_array id builtin.Values any args given = refl
  of_array id builtin.EachPair any args given = refl
  of_array id builtin.Lock any args given = refl
  of_array id builtin.Unlock any args given = refl
  of_array id builtin.Synchronize any args given = refl
  of_array id builtin.Join any args given = refl
  of_array id builtin.Value any args given = refl
  of_array id builtin.Equal any args given = absurd (cc)
  of_array id builtin.IsNil any args given = absurd (cc)
  of_array id builtin.ToS any args given = absurd (cc)
  of_array id builtin.Inspect any args given = absurd (cc)

  of_hash : (id : Id) (b : Builtin) → is_any b ≡ false → Agrees (To (record { sort = sort.Pairs; id = id })) b
  unfolding Agrees
  of_hash id builtin.Plus any args given = refl
  of_hash id builtin.Minus any args given = refl
  of_hash id builtin.Times any args given = refl
  of_hash id builtin.Over any args given = refl
  of_hash id builtin.Modulo any args given = refl
  of_hash id builtin.Negate any args given = refl
  of_hash id builtin.Less any args given = refl
  of_hash id builtin.AtMost any args given = refl
  of_hash id builtin.More any args given = refl
  of_hash id builtin.AtLeast any args given = refl
  of_hash id builtin.TimesLoop any args given = refl
  of_hash id builtin.Upto any args given = refl
  of_hash id builtin.Length any args given = unless_is (block_fault None given) (nat_eq (length args) 0) (asks Len (record { sort = sort.Pairs; id = id }) args)
  of_hash id builtin.Index any args given = unless_is (block_fault None given) (nat_eq (length args) 1) (by_key KGet (record { sort = sort.Pairs; id = id }) args)
  of_hash id builtin.SetIndex any args given = unless_is (block_fault None given) (nat_eq (length args) 2) (put_key (record { sort = sort.Pairs; id = id }) args)
  of_hash id builtin.Append any args given = refl
  of_hash id builtin.Push any args given = refl
  of_hash id builtin.Unshift any args given = refl
  of_hash id builtin.Pop any args given = refl
  of_hash id builtin.Shift any args given = refl
  of_hash id builtin.DeleteAt any args given = refl
  of_hash id builtin.First any args given = refl
  of_hash id builtin.Last any args given = refl
  of_hash id builtin.Size any args given = unless_is (block_fault None given) (nat_eq (length args) 0) (asks Len (record { sort = sort.Pairs; id = id }) args)
  of_hash id builtin.IsEmpty any args given = unless_is (block_fault None given) (nat_eq (length args) 0) (is_empty (record { sort = sort.Pairs; id = id }) args)
  of_hash id builtin.Clear any args given = unless_is (block_fault None given) (nat_eq (length args) 0) (changes Clear (record { sort = sort.Pairs; id = id }))
  of_hash id builtin.Each any args given = unless_is (block_fault (Some none_or_two) given) (nat_eq (length args) 0) (EachPairOf (record { sort = sort.Pairs; id = id }))
  of_hash id builtin.EachWithIndex any args given = refl
  of_hash id builtin.Map any args given = refl
  of_hash id builtin.Select any args given = refl
  of_hash id builtin.Delete any args given = unless_is (block_fault None given) (nat_eq (length args) 1) (by_key KDelete (record { sort = sort.Pairs; id = id }) args)
  of_hash id builtin.HasKey any args given = unless_is (block_fault None given) (nat_eq (length args) 1) (by_key KHas (record { sort = sort.Pairs; id = id }) args)
  of_hash id builtin.Keys any args given = unless_is (block_fault None given) (nat_eq (length args) 0) (Reads (record { sort = sort.Pairs; id = id }) machine.Keys)
  of_hash id builtin.Values any args given = unless_is (block_fault None given) (nat_eq (length args) 0) (Reads (record { sort = sort.Pairs; id = id }) machine.Values)
  of_hash id builtin.EachPair any args given = unless_is (block_fault (Some none_or_two) given) (nat_eq (length args) 0) (EachPairOf (record { sort = sort.Pairs; id = id }))
  of_hash id builtin.Lock any args given = refl
  of_hash id builtin.Unlock any args given = refl
  of_hash id builtin.Synchronize any args given = refl
  of_hash id builtin.Join any args given = refl
  of_hash id builtin.Value any args given = refl
  of_hash id builtin.Equal any args given = absurd (cc)
  of_hash id builtin.IsNil any args given = absurd (cc)
  of_hash id builtin.ToS any args given = absurd (cc)
  of_hash id builtin.Inspect any args given = absurd (cc)

  of_nil : (b : Builtin) → is_any b ≡ false → Agrees Nil b
  unfolding Agrees
  of_nil builtin.Equal any args given = absurd (cc)
  of_nil builtin.IsNil any args given = absurd (cc)
  of_nil builtin.ToS any args given = absurd (cc)
  of_nil builtin.Inspect any args given = absurd (cc)
  of_nil builtin.Plus any args given = refl
  of_nil builtin.Minus any args given = refl
  of_nil builtin.Times any args given = refl
  of_nil builtin.Over any args given = refl
  of_nil builtin.Modulo any args given = refl
  of_nil builtin.Negate any args given = refl
  of_nil builtin.Less any args given = refl
  of_nil builtin.AtMost any args given = refl
  of_nil builtin.More any args given = refl
  of_nil builtin.AtLeast any args given = refl
  of_nil builtin.TimesLoop any args given = refl
  of_nil builtin.Upto any args given = refl
  of_nil builtin.Length any args given = refl
  of_nil builtin.Index any args given = refl
  of_nil builtin.SetIndex any args given = refl
  of_nil builtin.Append any args given = refl
  of_nil builtin.Push any args given = refl
  of_nil builtin.Unshift any args given = refl
  of_nil builtin.Pop any args given = refl
  of_nil builtin.Shift any args given = refl
  of_nil builtin.DeleteAt any args given = refl
  of_nil builtin.First any args given = refl
  of_nil builtin.Last any args given = refl
  of_nil builtin.Size any args given = refl
  of_nil builtin.IsEmpty any args given = refl
  of_nil builtin.Clear any args given = refl
  of_nil builtin.Each any args given = refl
  of_nil builtin.EachWithIndex any args given = refl
  of_nil builtin.Map any args given = refl
  of_nil builtin.Select any args given = refl
  of_nil builtin.Delete any args given = refl
  of_nil builtin.HasKey any args given = refl
  of_nil builtin.Keys any args given = refl
  of_nil builtin.Values any args given = refl
  of_nil builtin.EachPair any args given = refl
  of_nil builtin.Lock any args given = refl
  of_nil builtin.Unlock any args given = refl
  of_nil builtin.Synchronize any args given = refl
  of_nil builtin.Join any args given = refl
  of_nil builtin.Value any args given = refl

  of_false : (b : Builtin) → is_any b ≡ false → Agrees False b
  unfolding Agrees
  of_false builtin.Equal any args given = absurd (cc)
  of_false builtin.IsNil any args given = absurd (cc)
  of_false builtin.ToS any args given = absurd (cc)
  of_false builtin.Inspect any args given = absurd (cc)
  of_false builtin.Plus any args given = refl
  of_false builtin.Minus any args given = refl
  of_false builtin.Times any args given = refl
  of_false builtin.Over any args given = refl
  of_false builtin.Modulo any args given = refl
  of_false builtin.Negate any args given = refl
  of_false builtin.Less any args given = refl
  of_false builtin.AtMost any args given = refl
  of_false builtin.More any args given = refl
  of_false builtin.AtLeast any args given = refl
  of_false builtin.TimesLoop any args given = refl
  of_false builtin.Upto any args given = refl
  of_false builtin.Length any args given = refl
  of_false builtin.Index any args given = refl
  of_false builtin.SetIndex any args given = refl
  of_false builtin.Append any args given = refl
  of_false builtin.Push any args given = refl
  of_false builtin.Unshift any args given = refl
  of_false builtin.Pop any args given = refl
  of_false builtin.Shift any args given = refl
  of_false builtin.DeleteAt any args given = refl
  of_false builtin.First any args given = refl
  of_false builtin.Last any args given = refl
  of_false builtin.Size any args given = refl
  of_false builtin.IsEmpty any args given = refl
  of_false builtin.Clear any args given = refl
  of_false builtin.Each any args given = refl
  of_false builtin.EachWithIndex any args given = refl
  of_false builtin.Map any args given = refl
  of_false builtin.Select any args given = refl
  of_false builtin.Delete any args given = refl
  of_false builtin.HasKey any args given = refl
  of_false builtin.Keys any args given = refl
  of_false builtin.Values any args given = refl
  of_false builtin.EachPair any args given = refl
  of_false builtin.Lock any args given = refl
  of_false builtin.Unlock any args given = refl
  of_false builtin.Synchronize any args given = refl
  of_false builtin.Join any args given = refl
  of_false builtin.Value any args given = refl

  of_true : (b : Builtin) → is_any b ≡ false → Agrees True b
  unfolding Agrees
  of_true builtin.Equal any args given = absurd (cc)
  of_true builtin.IsNil any args given = absurd (cc)
  of_true builtin.ToS any args given = absurd (cc)
  of_true builtin.Inspect any args given = absurd (cc)
  of_true builtin.Plus any args given = refl
  of_true builtin.Minus any args given = refl
  of_true builtin.Times any args given = refl
  of_true builtin.Over any args given = refl
  of_true builtin.Modulo any args given = refl
  of_true builtin.Negate any args given = refl
  of_true builtin.Less any args given = refl
  of_true builtin.AtMost any args given = refl
  of_true builtin.More any args given = refl
  of_true builtin.AtLeast any args given = refl
  of_true builtin.TimesLoop any args given = refl
  of_true builtin.Upto any args given = refl
  of_true builtin.Length any args given = refl
  of_true builtin.Index any args given = refl
  of_true builtin.SetIndex any args given = refl
  of_true builtin.Append any args given = refl
  of_true builtin.Push any args given = refl
  of_true builtin.Unshift any args given = refl
  of_true builtin.Pop any args given = refl
  of_true builtin.Shift any args given = refl
  of_true builtin.DeleteAt any args given = refl
  of_true builtin.First any args given = refl
  of_true builtin.Last any args given = refl
  of_true builtin.Size any args given = refl
  of_true builtin.IsEmpty any args given = refl
  of_true builtin.Clear any args given = refl
  of_true builtin.Each any args given = refl
  of_true builtin.EachWithIndex any args given = refl
  of_true builtin.Map any args given = refl
  of_true builtin.Select any args given = refl
  of_true builtin.Delete any args given = refl
  of_true builtin.HasKey any args given = refl
  of_true builtin.Keys any args given = refl
  of_true builtin.Values any args given = refl
  of_true builtin.EachPair any args given = refl
  of_true builtin.Lock any args given = refl
  of_true builtin.Unlock any args given = refl
  of_true builtin.Synchronize any args given = refl
  of_true builtin.Join any args given = refl
  of_true builtin.Value any args given = refl

  of_symbol : (name : NameId) (b : Builtin) → is_any b ≡ false → Agrees (Sym name) b
  unfolding Agrees
  of_symbol name builtin.Equal any args given = absurd (cc)
  of_symbol name builtin.IsNil any args given = absurd (cc)
  of_symbol name builtin.ToS any args given = absurd (cc)
  of_symbol name builtin.Inspect any args given = absurd (cc)
  of_symbol name builtin.Plus any args given = refl
  of_symbol name builtin.Minus any args given = refl
  of_symbol name builtin.Times any args given = refl
  of_symbol name builtin.Over any args given = refl
  of_symbol name builtin.Modulo any args given = refl
  of_symbol name builtin.Negate any args given = refl
  of_symbol name builtin.Less any args given = refl
  of_symbol name builtin.AtMost any args given = refl
  of_symbol name builtin.More any args given = refl
  of_symbol name builtin.AtLeast any args given = refl
  of_symbol name builtin.TimesLoop any args given = refl
  of_symbol name builtin.Upto any args given = refl
  of_symbol name builtin.Length any args given = refl
  of_symbol name builtin.Index any args given = refl
  of_symbol name builtin.SetIndex any args given = refl
  of_symbol name builtin.Append any args given = refl
  of_symbol name builtin.Push any args given = refl
  of_symbol name builtin.Unshift any args given = refl
  of_symbol name builtin.Pop any args given = refl
  of_symbol name builtin.Shift any args given = refl
  of_symbol name builtin.DeleteAt any args given = refl
  of_symbol name builtin.First any args given = refl
  of_symbol name builtin.Last any args given = refl
  of_symbol name builtin.Size any args given = refl
  of_symbol name builtin.IsEmpty any args given = refl
  of_symbol name builtin.Clear any args given = refl
  of_symbol name builtin.Each any args given = refl
  of_symbol name builtin.EachWithIndex any args given = refl
  of_symbol name builtin.Map any args given = refl
  of_symbol name builtin.Select any args given = refl
  of_symbol name builtin.Delete any args given = refl
  of_symbol name builtin.HasKey any args given = refl
  of_symbol name builtin.Keys any args given = refl
  of_symbol name builtin.Values any args given = refl
  of_symbol name builtin.EachPair any args given = refl
  of_symbol name builtin.Lock any args given = refl
  of_symbol name builtin.Unlock any args given = refl
  of_symbol name builtin.Synchronize any args given = refl
  of_symbol name builtin.Join any args given = refl
  of_symbol name builtin.Value any args given = refl

  of_object : (class : ℕ) (id : Id) (b : Builtin) → is_any b ≡ false → Agrees (To (record { sort = (sort.Object class); id = id })) b
  unfolding Agrees
  of_object class id builtin.Equal any args given = absurd (cc)
  of_object class id builtin.IsNil any args given = absurd (cc)
  of_object class id builtin.ToS any args given = absurd (cc)
  of_object class id builtin.Inspect any args given = absurd (cc)
  of_object class id builtin.Plus any args given = refl
  of_object class id builtin.Minus any args given = refl
  of_object class id builtin.Times any args given = refl
  of_object class id builtin.Over any args given = refl
  of_object class id builtin.Modulo any args given = refl
  of_object class id builtin.Negate any args given = refl
  of_object class id builtin.Less any args given = refl
  of_object class id builtin.AtMost any args given = refl
  of_object class id builtin.More any args given = refl
  of_object class id builtin.AtLeast any args given = refl
  of_object class id builtin.TimesLoop any args given = refl
  of_object class id builtin.Upto any args given = refl
  of_object class id builtin.Length any args given = refl
  of_object class id builtin.Index any args given = refl
  of_object class id builtin.SetIndex any args given = refl
  of_object class id builtin.Append any args given = refl
  of_object class id builtin.Push any args given = refl
  of_object class id builtin.Unshift any args given = refl
  of_object class id builtin.Pop any args given = refl
  of_object class id builtin.Shift any args given = refl
  of_object class id builtin.DeleteAt any args given = refl
  of_object class id builtin.First any args given = refl
  of_object class id builtin.Last any args given = refl
  of_object class id builtin.Size any args given = refl
  of_object class id builtin.IsEmpty any args given = refl
  of_object class id builtin.Clear any args given = refl
  of_object class id builtin.Each any args given = refl
  of_object class id builtin.EachWithIndex any args given = refl
  of_object class id builtin.Map any args given = refl
  of_object class id builtin.Select any args given = refl
  of_object class id builtin.Delete any args given = refl
  of_object class id builtin.HasKey any args given = refl
  of_object class id builtin.Keys any args given = refl
  of_object class id builtin.Values any args given = refl
  of_object class id builtin.EachPair any args given = refl
  of_object class id builtin.Lock any args given = refl
  of_object class id builtin.Unlock any args given = refl
  of_object class id builtin.Synchronize any args given = refl
  of_object class id builtin.Join any args given = refl
  of_object class id builtin.Value any args given = refl

  of_mutex : (id : Id) (b : Builtin) → is_any b ≡ false → Agrees (To (record { sort = sort.Mutex; id = id })) b
  unfolding Agrees
  of_mutex id builtin.Equal any args given = absurd (cc)
  of_mutex id builtin.IsNil any args given = absurd (cc)
  of_mutex id builtin.ToS any args given = absurd (cc)
  of_mutex id builtin.Inspect any args given = absurd (cc)
  of_mutex id builtin.Plus any args given = refl
  of_mutex id builtin.Minus any args given = refl
  of_mutex id builtin.Times any args given = refl
  of_mutex id builtin.Over any args given = refl
  of_mutex id builtin.Modulo any args given = refl
  of_mutex id builtin.Negate any args given = refl
  of_mutex id builtin.Less any args given = refl
  of_mutex id builtin.AtMost any args given = refl
  of_mutex id builtin.More any args given = refl
  of_mutex id builtin.AtLeast any args given = refl
  of_mutex id builtin.TimesLoop any args given = refl
  of_mutex id builtin.Upto any args given = refl
  of_mutex id builtin.Length any args given = refl
  of_mutex id builtin.Index any args given = refl
  of_mutex id builtin.SetIndex any args given = refl
  of_mutex id builtin.Append any args given = refl
  of_mutex id builtin.Push any args given = refl
  of_mutex id builtin.Unshift any args given = refl
  of_mutex id builtin.Pop any args given = refl
  of_mutex id builtin.Shift any args given = refl
  of_mutex id builtin.DeleteAt any args given = refl
  of_mutex id builtin.First any args given = refl
  of_mutex id builtin.Last any args given = refl
  of_mutex id builtin.Size any args given = refl
  of_mutex id builtin.IsEmpty any args given = refl
  of_mutex id builtin.Clear any args given = refl
  of_mutex id builtin.Each any args given = refl
  of_mutex id builtin.EachWithIndex any args given = refl
  of_mutex id builtin.Map any args given = refl
  of_mutex id builtin.Select any args given = refl
  of_mutex id builtin.Delete any args given = refl
  of_mutex id builtin.HasKey any args given = refl
  of_mutex id builtin.Keys any args given = refl
  of_mutex id builtin.Values any args given = refl
  of_mutex id builtin.EachPair any args given = refl
  of_mutex id builtin.Lock any args given = unless_is (block_fault None given) (nat_eq (length args) 0) (changes acts.Lock (record { sort = sort.Mutex; id = id }))
  of_mutex id builtin.Unlock any args given = unless_is (block_fault None given) (nat_eq (length args) 0) (changes acts.Unlock (record { sort = sort.Mutex; id = id }))
  of_mutex id builtin.Synchronize any args given = unless_is (block_fault (Some (up_to 0)) given) (nat_eq (length args) 0) (Synchronizes (record { sort = sort.Mutex; id = id }))
  of_mutex id builtin.Join any args given = refl
  of_mutex id builtin.Value any args given = refl

  of_thread : (id : Id) (b : Builtin) → is_any b ≡ false → Agrees (To (record { sort = sort.Thread; id = id })) b
  unfolding Agrees
  of_thread id builtin.Equal any args given = absurd (cc)
  of_thread id builtin.IsNil any args given = absurd (cc)
  of_thread id builtin.ToS any args given = absurd (cc)
  of_thread id builtin.Inspect any args given = absurd (cc)
  of_thread id builtin.Plus any args given = refl
  of_thread id builtin.Minus any args given = refl
  of_thread id builtin.Times any args given = refl
  of_thread id builtin.Over any args given = refl
  of_thread id builtin.Modulo any args given = refl
  of_thread id builtin.Negate any args given = refl
  of_thread id builtin.Less any args given = refl
  of_thread id builtin.AtMost any args given = refl
  of_thread id builtin.More any args given = refl
  of_thread id builtin.AtLeast any args given = refl
  of_thread id builtin.TimesLoop any args given = refl
  of_thread id builtin.Upto any args given = refl
  of_thread id builtin.Length any args given = refl
  of_thread id builtin.Index any args given = refl
  of_thread id builtin.SetIndex any args given = refl
  of_thread id builtin.Append any args given = refl
  of_thread id builtin.Push any args given = refl
  of_thread id builtin.Unshift any args given = refl
  of_thread id builtin.Pop any args given = refl
  of_thread id builtin.Shift any args given = refl
  of_thread id builtin.DeleteAt any args given = refl
  of_thread id builtin.First any args given = refl
  of_thread id builtin.Last any args given = refl
  of_thread id builtin.Size any args given = refl
  of_thread id builtin.IsEmpty any args given = refl
  of_thread id builtin.Clear any args given = refl
  of_thread id builtin.Each any args given = refl
  of_thread id builtin.EachWithIndex any args given = refl
  of_thread id builtin.Map any args given = refl
  of_thread id builtin.Select any args given = refl
  of_thread id builtin.Delete any args given = refl
  of_thread id builtin.HasKey any args given = refl
  of_thread id builtin.Keys any args given = refl
  of_thread id builtin.Values any args given = refl
  of_thread id builtin.EachPair any args given = refl
  of_thread id builtin.Lock any args given = refl
  of_thread id builtin.Unlock any args given = refl
  of_thread id builtin.Synchronize any args given = refl
  of_thread id builtin.Join any args given = unless_is (block_fault None given) (nat_eq (length args) 0) (changes acts.Join (record { sort = sort.Thread; id = id }))
  of_thread id builtin.Value any args given = unless_is (block_fault None given) (nat_eq (length args) 0) (asks acts.Join (record { sort = sort.Thread; id = id }) args)

  of_thing : (s : Sort) (id : Id) (b : Builtin) → is_any b ≡ false → Agrees (To (record { sort = s; id = id })) b
  of_thing (sort.Object class) id b any = of_object class id b any
  of_thing sort.List id b any = of_array id b any
  of_thing sort.Pairs id b any = of_hash id b any
  of_thing sort.Mutex id b any = of_mutex id b any
  of_thing sort.Thread id b any = of_thread id b any

  of_own : (v : Value) (b : Builtin) → is_any b ≡ false → Agrees v b
  of_own Nil b any = of_nil b any
  of_own False b any = of_false b any
  of_own True b any = of_true b any
  of_own (Int m) b any = of_integer m b any
  of_own (Sym name) b any = of_symbol name b any
  of_own (Str s) b any = of_text s b any
  of_own (To thing) b any = of_thing thing.sort thing.id b any

  agrees : (v : Value) (b : Builtin) (t : Bool) → is_any b ≡ t → Agrees v b
  agrees v b true any = of_any v b any
  agrees v b false any = of_own v b any

  by_name : (v : Value) (b : Builtin) (args : List Value) (given : Option ℕ) → deed P v (name_of b) args given ≡ answer_by_number P v b args given
  unfolding Agrees
  by_name v b args given = agrees v b (is_any b) refl args given

-- the first of these that has the name
look_up : Text → List Builtin → Option Builtin
look_up name [] = None
look_up name (b ∷ bs) = cond (bytes_eq name (name_of b)) (Some b) (look_up name bs)

all : List Builtin
all = builtin.Lock ∷ builtin.Unlock ∷ builtin.Synchronize ∷ builtin.Join ∷ builtin.Value ∷ builtin.Equal ∷ builtin.IsNil ∷ builtin.ToS ∷ builtin.Inspect ∷ builtin.Plus ∷ builtin.Minus ∷ builtin.Times ∷ builtin.Over ∷ builtin.Modulo ∷ builtin.Negate ∷ builtin.Less ∷ builtin.AtMost ∷ builtin.More ∷ builtin.AtLeast ∷ builtin.TimesLoop ∷ builtin.Upto ∷ builtin.Length ∷ builtin.Index ∷ builtin.SetIndex ∷ builtin.Append ∷ builtin.Push ∷ builtin.Unshift ∷ builtin.Pop ∷ builtin.Shift ∷ builtin.DeleteAt ∷ builtin.First ∷ builtin.Last ∷ builtin.Size ∷ builtin.IsEmpty ∷ builtin.Clear ∷ builtin.Each ∷ builtin.EachWithIndex ∷ builtin.Map ∷ builtin.Select ∷ builtin.Delete ∷ builtin.HasKey ∷ builtin.Keys ∷ builtin.Values ∷ builtin.EachPair ∷ []

found_by : (t : Bool) (name : Text) (b c : Builtin) (rest : Option Builtin) → bytes_eq name (name_of c) ≡ t → (rest ≡ Some b → name ≡ name_of b) → cond t (Some c) rest ≡ Some b → name ≡ name_of b
found_by true name b c rest e later f = let is = (bytes_eq-Decides name (name_of c)).0 e in cc
found_by false name b c rest e later f = later f

looked_up : (name : Text) (b : Builtin) (bs : List Builtin) → look_up name bs ≡ Some b → name ≡ name_of b
unfolding look_up
looked_up name b [] e = absurd (cc)
looked_up name b (c ∷ bs) e = found_by (bytes_eq name (name_of c)) name b c (look_up name bs) refl (looked_up name b bs) e

-- a name whose number this is
pub name_is : (name : Text) (b : Builtin) → builtin_of name ≡ Some b → name ≡ name_of b
unfolding look_up all
name_is name b e = looked_up name b all e

-- the table by numbers
pub by_number : (P : Program) (v : Value) (name : Text) (b : Builtin) (args : List Value) (given : Option ℕ) → builtin_of name ≡ Some b
    → answer_by_number P v b args given ≡ deed P v name args given
by_number P v name b args given e = sym (by_name P v b args given) ∙ ap (λ n. deed P v n args given) (sym (name_is name b e))

-- an operation on two integers is what the table says of the call
by_operation : (P : Program) (b : Builtin) (m n : ℤ) → is_operation b ≡ true → answer_by_number P (Int m) b (Int n ∷ []) None ≡ operated b m n
by_operation P builtin.Plus m n e = refl
by_operation P builtin.Minus m n e = refl
by_operation P builtin.Times m n e = refl
by_operation P builtin.Over m n e = refl
by_operation P builtin.Modulo m n e = refl
by_operation P builtin.Less m n e = refl
by_operation P builtin.AtMost m n e = refl
by_operation P builtin.More m n e = refl
by_operation P builtin.AtLeast m n e = refl
by_operation P builtin.Equal m n e = equal_integers (int_eq m n)
  where
    equal_integers : (t : Bool) → cond (t || true) (Gives (truth t)) (Raises NoMethod) ≡ Gives (truth t)
    equal_integers true = refl
    equal_integers false = refl
by_operation P builtin.IsNil m n e = absurd (cc)
by_operation P builtin.ToS m n e = absurd (cc)
by_operation P builtin.Inspect m n e = absurd (cc)
by_operation P builtin.Negate m n e = absurd (cc)
by_operation P builtin.TimesLoop m n e = absurd (cc)
by_operation P builtin.Upto m n e = absurd (cc)
by_operation P builtin.Length m n e = absurd (cc)
by_operation P builtin.Index m n e = absurd (cc)
by_operation P builtin.SetIndex m n e = absurd (cc)
by_operation P builtin.Append m n e = absurd (cc)
by_operation P builtin.Push m n e = absurd (cc)
by_operation P builtin.Unshift m n e = absurd (cc)
by_operation P builtin.Pop m n e = absurd (cc)
by_operation P builtin.Shift m n e = absurd (cc)
by_operation P builtin.DeleteAt m n e = absurd (cc)
by_operation P builtin.First m n e = absurd (cc)
by_operation P builtin.Last m n e = absurd (cc)
by_operation P builtin.Size m n e = absurd (cc)
by_operation P builtin.IsEmpty m n e = absurd (cc)
by_operation P builtin.Clear m n e = absurd (cc)
by_operation P builtin.Each m n e = absurd (cc)
by_operation P builtin.EachWithIndex m n e = absurd (cc)
by_operation P builtin.Map m n e = absurd (cc)
by_operation P builtin.Select m n e = absurd (cc)
by_operation P builtin.Delete m n e = absurd (cc)
by_operation P builtin.HasKey m n e = absurd (cc)
by_operation P builtin.Keys m n e = absurd (cc)
by_operation P builtin.Values m n e = absurd (cc)
by_operation P builtin.EachPair m n e = absurd (cc)
by_operation P builtin.Lock m n e = absurd (cc)
by_operation P builtin.Unlock m n e = absurd (cc)
by_operation P builtin.Synchronize m n e = absurd (cc)
by_operation P builtin.Join m n e = absurd (cc)
by_operation P builtin.Value m n e = absurd (cc)

pub operation_is : (P : Program) (name : Text) (b : Builtin) (m n : ℤ) → is_operation b ≡ true → builtin_of name ≡ Some b → deed P (Int m) name (Int n ∷ []) None ≡ operated b m n
operation_is P name b m n e f = sym (by_number P (Int m) name b (Int n ∷ []) None f) ∙ by_operation P b m n e

numbered : (b : Builtin) → builtin_of (name_of b) ≡ Some b
numbered builtin.Equal = refl
numbered builtin.IsNil = refl
numbered builtin.ToS = refl
numbered builtin.Inspect = refl
numbered builtin.Plus = refl
numbered builtin.Minus = refl
numbered builtin.Times = refl
numbered builtin.Over = refl
numbered builtin.Modulo = refl
numbered builtin.Negate = refl
numbered builtin.Less = refl
numbered builtin.AtMost = refl
numbered builtin.More = refl
numbered builtin.AtLeast = refl
numbered builtin.TimesLoop = refl
numbered builtin.Upto = refl
numbered builtin.Length = refl
numbered builtin.Index = refl
numbered builtin.SetIndex = refl
numbered builtin.Append = refl
numbered builtin.Push = refl
numbered builtin.Unshift = refl
numbered builtin.Pop = refl
numbered builtin.Shift = refl
numbered builtin.DeleteAt = refl
numbered builtin.First = refl
numbered builtin.Last = refl
numbered builtin.Size = refl
numbered builtin.IsEmpty = refl
numbered builtin.Clear = refl
numbered builtin.Each = refl
numbered builtin.EachWithIndex = refl
numbered builtin.Map = refl
numbered builtin.Select = refl
numbered builtin.Delete = refl
numbered builtin.HasKey = refl
numbered builtin.Keys = refl
numbered builtin.Values = refl
numbered builtin.EachPair = refl
numbered builtin.Lock = refl
numbered builtin.Unlock = refl
numbered builtin.Synchronize = refl
numbered builtin.Join = refl
numbered builtin.Value = refl

other_name : (name : Text) (b : Builtin) (t : Bool) → builtin_of name ≡ None → bytes_eq name (name_of b) ≡ t → bytes_eq name (name_of b) ≡ false
other_name name b false e f = f
other_name name b true e f =
    let is : name ≡ name_of b = (bytes_eq-Decides name (name_of b)).0 f in
    let q : None ≡ Some b = sym e ∙ (ap builtin_of is ∙ numbered b) in
    absurd (cc)

-- no value has a method of a name that has no number
pub no_number : (P : Program) (v : Value) (name : Text) (args : List Value) (given : Option ℕ) → builtin_of name ≡ None → deed P v name args given ≡ Raises NoMethod
no_number P v name args given e =
    let f : (b : Builtin) → bytes_eq name (name_of b) ≡ false = λ b. other_name name b (bytes_eq name (name_of b)) e refl in
    rw (f builtin.Equal, f builtin.IsNil, f builtin.ToS, f builtin.Inspect, f builtin.Plus, f builtin.Minus, f builtin.Times, f builtin.Over, f builtin.Modulo, f builtin.Negate, f builtin.Less, f builtin.AtMost, f builtin.More, f builtin.AtLeast, f builtin.TimesLoop, f builtin.Upto, f builtin.Length, f builtin.Index, f builtin.SetIndex, f builtin.Append, f builtin.Push, f builtin.Unshift, f builtin.Pop, f builtin.Shift, f builtin.DeleteAt, f builtin.First, f builtin.Last, f builtin.Size, f builtin.IsEmpty, f builtin.Clear, f builtin.Each, f builtin.EachWithIndex, f builtin.Map, f builtin.Select, f builtin.Delete, f builtin.HasKey, f builtin.Keys, f builtin.Values, f builtin.EachPair, f builtin.Lock, f builtin.Unlock, f builtin.Synchronize, f builtin.Join, f builtin.Value) refl

same_by_name : (a b : Builtin) (t : Bool) → bytes_eq (name_of a) (name_of b) ≡ t → t ≡ true → Some a ≡ Some b
same_by_name a b true e h = let is : name_of a ≡ name_of b = (bytes_eq-Decides (name_of a) (name_of b)).0 e in sym (numbered a) ∙ (ap builtin_of is ∙ numbered b)
same_by_name a b false e h = absurd (cc)

-- numbers that are the same are equal
pub same_is : (a b : Option Builtin) → same_number a b ≡ true → a ≡ b
same_is None None h = refl
same_is (Some a) (Some b) h = same_by_name a b (bytes_eq (name_of a) (name_of b)) refl h
same_is None (Some b) h = absurd (cc)
same_is (Some a) None h = absurd (cc)

-- what an array answers to a method with a block, by its walk
abbrev by_pass : Reference → Builtin → List Value → Option ℕ → Option (Pass × ℕ) → Answer
by_pass a b args given (Some p) = by_misfit (misfit args 0 (Some (may_have (takes.UpTo p.1))) given) (LoopsOver a (walk_of p.0))
by_pass a b args given None = array_answer a b args given

pub walk_is : (a : Reference) (b : Builtin) (args : List Value) (given : Option ℕ) → walk_answer a b args given ≡ by_pass a b args given (pass_of b)
walk_is a builtin.Equal args given = refl
walk_is a builtin.IsNil args given = refl
walk_is a builtin.ToS args given = refl
walk_is a builtin.Inspect args given = refl
walk_is a builtin.Plus args given = refl
walk_is a builtin.Minus args given = refl
walk_is a builtin.Times args given = refl
walk_is a builtin.Over args given = refl
walk_is a builtin.Modulo args given = refl
walk_is a builtin.Negate args given = refl
walk_is a builtin.Less args given = refl
walk_is a builtin.AtMost args given = refl
walk_is a builtin.More args given = refl
walk_is a builtin.AtLeast args given = refl
walk_is a builtin.TimesLoop args given = refl
walk_is a builtin.Upto args given = refl
walk_is a builtin.Length args given = refl
walk_is a builtin.Index args given = refl
walk_is a builtin.SetIndex args given = refl
walk_is a builtin.Append args given = refl
walk_is a builtin.Push args given = refl
walk_is a builtin.Unshift args given = refl
walk_is a builtin.Pop args given = refl
walk_is a builtin.Shift args given = refl
walk_is a builtin.DeleteAt args given = refl
walk_is a builtin.First args given = refl
walk_is a builtin.Last args given = refl
walk_is a builtin.Size args given = refl
walk_is a builtin.IsEmpty args given = refl
walk_is a builtin.Clear args given = refl
walk_is a builtin.Each args given = refl
walk_is a builtin.EachWithIndex args given = refl
walk_is a builtin.Map args given = refl
walk_is a builtin.Select args given = refl
walk_is a builtin.Delete args given = refl
walk_is a builtin.HasKey args given = refl
walk_is a builtin.Keys args given = refl
walk_is a builtin.Values args given = refl
walk_is a builtin.EachPair args given = refl
walk_is a builtin.Lock args given = refl
walk_is a builtin.Unlock args given = refl
walk_is a builtin.Synchronize args given = refl
walk_is a builtin.Join args given = refl
walk_is a builtin.Value args given = refl
