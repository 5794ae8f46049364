-- What a built-in method asks or reads leaves little to do behind it.
use Rattle.std.proofs.Common.{◌≡◌, ◌≤◌, ℕ, ℤ, Bool, true, false, cond, List, [], ◌∷◌, ◌++◌, Option, Some, None, find, refl, arith}
use Rattle.std.specs.Prelude.{pos, neg_ℤ, ◌+ℤ◌, ◌-ℤ◌, ◌*ℤ◌, length, nat_le, ◌&&◌, ◌||◌}
use Rattle.std.specs.Str.{bytes_eq}
use Rattle.std.specs.Ordering.{int_eq}
use Rattle.rb_tree.specs.declared.node.Program.{Program}
use Rattle.rb_model.specs.declared.fault.Fault.{Fault}
use Rattle.rb_model.specs.declared.fault.Fault.TheVariants.{NoMethod}
use Rattle.rb_model.specs.Values.{Value, Int, Str, To, Reference, same, truth}
use Rattle.rb_model.specs.Acts.{Act}
use Rattle.rb_machine.specs.Scopes.{Text}
use Rattle.rb_machine.specs.Texts.{max_bytes}
use Rattle.rb_machine.specs.Drafts.{is_collection}
use Rattle.rb_machine.specs.Methods.{Answer, Gives, Raises, Loops, Asks, Reads, Row}
use Rattle.rb_machine.specs.Methods as method
use Rattle.rb_machine.proofs.Weights.{step_weight, use_weight}

-- an answer whose reply goes to nothing, or to a step that does little
abbrev pub Light : Answer → Type 0
Light (Asks thing act (Some step)) = step_weight step ≤ 1
Light (Reads thing purpose) = use_weight purpose ≡ 0
Light other = Unit {0}

light_if : (b : Bool) (a c : Answer) → Light a → Light c → Light (cond b a c)
light_if true a c p q = p
light_if false a c p q = q

-- ---- what rows do

integer_light : (n : ℤ) → Light (method.integer n)
integer_light n = light_if (method.fits n) _ _ tt tt

text_light : (bytes : Text) → Light (method.text bytes)
text_light bytes = light_if (nat_le (length bytes) max_bytes) _ _ tt tt

told_light : (v : Value) (bytes : Text) → Light (method.told v bytes)
told_light v bytes = light_if (is_collection v) _ _ tt (text_light bytes)

on_integers_light : (f : ℤ → ℤ → Answer) → ((m n : ℤ) → Light (f m n)) → (v : Value) (args : List Value) → Light (method.on_integers f v args)
on_integers_light f h (Int m) (Int n ∷ []) = h m n
on_integers_light f h v args = tt

unless_zero_light : (f : ℤ → ℤ → ℤ) (m n : ℤ) → Light (method.unless_zero f m n)
unless_zero_light f m n = light_if (int_eq n (pos 0)) _ _ tt (integer_light (f m n))

negated_light : (v : Value) (args : List Value) → Light (method.negated v args)
negated_light (Int n) args = integer_light (neg_ℤ n)
negated_light v args = tt

times_light : (v : Value) (args : List Value) → Light (method.times v args)
times_light (Int n) args = tt
times_light v args = tt

joined_light : (v : Value) (args : List Value) → Light (method.joined v args)
joined_light (Str a) (Str b ∷ []) = text_light (a ++ b)
joined_light v args = tt

characters_light : (v : Value) (args : List Value) → Light (method.count_characters v args)
characters_light (Str bytes) args = tt
characters_light v args = tt

equal_light : (v : Value) (args : List Value) → Light (method.equal v args)
equal_light v (w ∷ []) = light_if (same v w || method.may_compare v w) (Gives (truth (same v w))) (Raises NoMethod) tt tt
equal_light v args = tt

on_thing_light : (f : Reference → List Value → Answer) → ((thing : Reference) (args : List Value) → Light (f thing args)) → (v : Value) (args : List Value) → Light (method.on_thing f v args)
on_thing_light f h (To thing) args = h thing args
on_thing_light f h v args = tt

adds_light : (act : Value → Act) (array : Reference) (args : List Value) → Light (method.adds act array args)
adds_light act array (v ∷ []) = omega arith
adds_light act array args = tt

at_index_light : (act : ℤ → Act) (array : Reference) (args : List Value) → Light (method.at_index act array args)
at_index_light act array (Int i ∷ []) = tt
at_index_light act array args = tt

put_index_light : (array : Reference) (args : List Value) → Light (method.put_index array args)
put_index_light array (Int i ∷ v ∷ []) = tt
put_index_light array args = tt

by_key_light : (act : Value → Act) (hash : Reference) (args : List Value) → Light (method.by_key act hash args)
by_key_light act hash (k ∷ []) = light_if (is_collection k) _ _ tt tt
by_key_light act hash args = tt

put_key_light : (hash : Reference) (args : List Value) → Light (method.put_key hash args)
put_key_light hash (k ∷ v ∷ []) = light_if (is_collection k) _ _ tt tt
put_key_light hash args = tt

-- ---- the table

abbrev AreLight : List Row → Type 0
AreLight [] = Unit {0}
AreLight (r ∷ rs) = ((v : Value) (args : List Value) → Light (r.does v args)) × AreLight rs

light_append : (rs more : List Row) → AreLight rs → AreLight more → AreLight (rs ++ more)
light_append [] more h m = m
light_append (r ∷ rs) more h m = (h.0, light_append rs more h.1 m)

module _ (P : Program) where
  any_light : AreLight (method.any_rows P)
  any_light = (equal_light, (λ v args. tt, (λ v args. told_light v _, (λ v args. told_light v _, tt))))

  integers_light : AreLight (method.integer_rows P)
  integers_light = (
    on_integers_light _ (λ m n. integer_light (m +ℤ n)),
    (
      on_integers_light _ (λ m n. integer_light (m -ℤ n)),
      (
        on_integers_light _ (λ m n. integer_light (m *ℤ n)),
        (
          on_integers_light _ (unless_zero_light method.quotient),
          (
            on_integers_light _ (unless_zero_light method.modulo),
            (
              negated_light,
              (
                on_integers_light _ (λ m n. tt),
                (
                  on_integers_light _ (λ m n. tt),
                  (
                    on_integers_light _ (λ m n. tt),
                    (
                      on_integers_light _ (λ m n. tt),
                      (
                        times_light,
                        (on_integers_light method.upto (λ m n. tt), tt),
                      ),
                    ),
                  ),
                ),
              ),
            ),
          ),
        ),
      ),
    ),
  )

  strings_light : AreLight (method.string_rows P)
  strings_light = (joined_light, (characters_light, tt))

  arrays_light : AreLight (method.array_rows P)
  arrays_light = (
    on_thing_light _ (at_index_light _),
    (
      on_thing_light _ put_index_light,
      (
        on_thing_light _ (adds_light _),
        (
          on_thing_light _ (adds_light _),
          (
            on_thing_light _ (adds_light _),
            (
              on_thing_light _ (λ a args. tt),
              (
                on_thing_light _ (λ a args. tt),
                (
                  on_thing_light _ (at_index_light _),
                  (
                    on_thing_light _ (λ a args. tt),
                    (
                      on_thing_light _ (λ a args. tt),
                      (
                        on_thing_light _ (λ a args. tt),
                        (
                          on_thing_light _ (λ a args. tt),
                          (
                            on_thing_light _ (λ a args. tt),
                            (on_thing_light _ (λ a args. tt), tt),
                          ),
                        ),
                      ),
                    ),
                  ),
                ),
              ),
            ),
          ),
        ),
      ),
    ),
  )

  hashes_light : AreLight (method.hash_rows P)
  hashes_light = (
    on_thing_light _ (by_key_light _),
    (
      on_thing_light _ put_key_light,
      (
        on_thing_light _ (by_key_light _),
        (
          on_thing_light _ (by_key_light _),
          (
            on_thing_light _ (λ h args. refl),
            (
              on_thing_light _ (λ h args. refl),
              (
                on_thing_light _ (λ h args. tt),
                (on_thing_light _ (λ h args. tt), tt),
              ),
            ),
          ),
        ),
      ),
    ),
  )

  collections_light : AreLight (method.collection_rows P)
  collections_light = (
    on_thing_light _ (λ c args. tt),
    (
      on_thing_light _ (λ c args. tt),
      (
        on_thing_light _ (λ c args. omega arith),
        (on_thing_light _ (λ c args. omega arith), tt),
      ),
    ),
  )

  mutexes_light : AreLight (method.mutex_rows P)
  mutexes_light = (on_thing_light _ (λ m args. omega arith), (on_thing_light _ (λ m args. omega arith), (on_thing_light _ (λ m args. tt), tt)))

  threads_light : AreLight (method.thread_rows P)
  threads_light = (on_thing_light _ (λ t args. omega arith), (on_thing_light _ (λ t args. tt), tt))

  rows_light : AreLight (method.rows P)
  rows_light =
      let few = method.mutex_rows P ++ method.thread_rows P in
      let last = method.collection_rows P ++ few in
      let mutexes = light_append (method.mutex_rows P) (method.thread_rows P) mutexes_light threads_light in
      let collections = light_append (method.collection_rows P) few collections_light mutexes in
      let hashes = light_append (method.hash_rows P) last hashes_light collections in
      let arrays = light_append (method.array_rows P) (method.hash_rows P ++ last) arrays_light hashes in
      let strings = light_append (method.string_rows P) (method.array_rows P ++ (method.hash_rows P ++ last)) strings_light arrays in
      let integers = light_append (method.integer_rows P) (method.string_rows P ++ (method.array_rows P ++ (method.hash_rows P ++ last))) integers_light strings in
      light_append (method.any_rows P) (method.integer_rows P ++ (method.string_rows P ++ (method.array_rows P ++ (method.hash_rows P ++ last)))) any_light integers

unless_fault_light : (fault : Option Fault) (counts : Bool) (a : Answer) → Light a → Light (method.unless_fault fault counts a)
unless_fault_light (Some fault) counts a h = tt
unless_fault_light None counts a h = light_if counts _ _ h tt

found_light : (test : Row → Bool) (rs : List Row) → AreLight rs → (v : Value) (args : List Value) (given : Option ℕ) → Light (method.answered_by (find test rs) v args given)
found_light test [] h v args given = tt
found_light test (r ∷ rs) h v args given = at (test r) (found_light test rs h.1 v args given)
  where
    at : (b : Bool) → Light (method.answered_by (find test rs) v args given) → Light (method.answered_by (cond b (Some r) (find test rs)) v args given)
    at true later = unless_fault_light _ _ (r.does v args) (h.0 v args)
    at false later = later

pub deed_light : (P : Program) (v : Value) (name : Text) (args : List Value) (given : Option ℕ) → Light (method.deed P v name args given)
deed_light P v name args given = found_light (λ (r : Row). bytes_eq name r.name && method.is_of r.of v) (method.rows P) (rows_light P) v args given
