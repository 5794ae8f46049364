-- Texts of collections by computation, as Ruby's `inspect` and `puts` show them.
use Rattle.std.proofs.Common.{◌≡◌, ℕ, List, [], ◌∷◌, true, Option, Some, None, refl}
use Rattle.std.specs.Prelude.{pos, codes}
use Rattle.std.specs.Fmt.{digits}
use Rattle.rb_tree.specs.declared.span.NameId.{NameId}
use Rattle.rb_model.specs.declared.value.Id.{Id}
use Rattle.rb_model.specs.declared.value.Sort.TheVariants as sort
use Rattle.rb_model.specs.Values.{Value, Nil, True, Int, Sym, Str, To}
use Rattle.rb_model.specs.Things.{Thing, Elements, Pairs}
use Rattle.rb_model.specs.Private.{held}
use Rattle.rb_machine.specs.Scopes.{Script, name_text}
use Rattle.rb_machine.specs.Collections.{text_inside, steps_inside, fits_inside, lines_inside, line_steps_inside, lines_fit_inside}

-- things with these serial numbers from 1 on, and a value for an array and a hash among them
abbrev holding : List (Option Thing) → Id → Option Thing
holding things = held (record { thread = 0; things = None ∷ things; shaped = []; shapes = [] })

abbrev array : ℕ → Value
array serial = To (record { sort = sort.List; id = record { thread = 0; serial = serial } })

abbrev hash : ℕ → Value
hash serial = To (record { sort = sort.Pairs; id = record { thread = 0; serial = serial } })

abbrev integer : ℕ → Value
integer n = Int (pos n)

module _ (S : Script) where
  -- `[1, [2, 3]]` has four elements
  abbrev nested : Id → Option Thing
  nested = holding (Some (Elements (integer 1 ∷ array 2 ∷ [])) ∷ Some (Elements (integer 2 ∷ integer 3 ∷ [])) ∷ [])

  arrays : (text_inside S nested 2 [] (array 1) ≡ codes "[1, [2, 3]]")
      × (steps_inside S nested 2 [] (array 1) ≡ 4)
      × (fits_inside S nested 2 [] (array 1) ≡ true)
      × (lines_inside S nested 2 [] (array 1) ≡ codes "1\n2\n3\n")
      × (line_steps_inside S nested 2 [] (array 1) ≡ 4)
      × (lines_fit_inside S nested 2 [] (array 1) ≡ true)
  unfolding digits
  arrays = (refl, refl, refl, refl, refl, refl)

  -- `{1=>2, :a=>3}`, and `[nil, "a\n", :a]`
  module _ (a : NameId) (named : name_text S.program.names a ≡ codes "a") where
    pairs : text_inside S (holding (Some (Pairs ((integer 1, integer 2) ∷ (Sym a, integer 3) ∷ [])) ∷ [])) 1 [] (hash 1) ≡ codes "{1=>2, :a=>3}"
    unfolding digits
    pairs = rw named refl

    values : (text_inside S (holding (Some (Elements (Nil ∷ Str (codes "a\n") ∷ Sym a ∷ [])) ∷ [])) 1 [] (array 1) ≡ codes "[nil, \"a\\n\", :a]")
        × (lines_inside S (holding (Some (Elements (Nil ∷ Str (codes "a\n") ∷ Sym a ∷ [])) ∷ [])) 1 [] (array 1) ≡ codes "\na\na\n")
    unfolding digits
    values = (rw named refl, rw named refl)

  -- `[]`, `{}`, `[[]]` and `[{}]`
  abbrev empty : Id → Option Thing
  empty = holding (Some (Elements []) ∷ Some (Pairs []) ∷ Some (Elements (array 1 ∷ [])) ∷ Some (Elements (hash 2 ∷ [])) ∷ [])

  empties : (text_inside S empty 1 [] (array 1) ≡ codes "[]")
      × (text_inside S empty 1 [] (hash 2) ≡ codes "{}")
      × (text_inside S empty 2 [] (array 3) ≡ codes "[[]]")
      × (text_inside S empty 2 [] (array 4) ≡ codes "[{}]")
      × (lines_inside S empty 1 [] (array 1) ≡ codes "\n")
      × (lines_inside S empty 1 [] (hash 2) ≡ codes "{}\n")
      × (lines_inside S empty 2 [] (array 3) ≡ [])
      × (lines_inside S empty 2 [] (array 4) ≡ codes "{}\n")
  empties = (refl, refl, refl, refl, refl, refl, refl, refl)

  -- `a = [1]; a << a`
  abbrev cycle : Id → Option Thing
  cycle = holding (Some (Elements (integer 1 ∷ array 1 ∷ [])) ∷ [])

  cycles : (text_inside S cycle 1 [] (array 1) ≡ codes "[1, [...]]")
      × (steps_inside S cycle 1 [] (array 1) ≡ 2)
      × (fits_inside S cycle 1 [] (array 1) ≡ true)
      × (lines_inside S cycle 1 [] (array 1) ≡ codes "1\n[...]\n")
      × (line_steps_inside S cycle 1 [] (array 1) ≡ 2)
  unfolding digits
  cycles = (refl, refl, refl, refl, refl)

  -- `a = [1]; a << {1=>a}`: what stands inside itself through another collection, and one that stands twice side by side
  abbrev through : Id → Option Thing
  through = holding (Some (Elements (integer 1 ∷ hash 2 ∷ [])) ∷ Some (Pairs ((integer 1, array 1) ∷ [])) ∷ Some (Elements (array 4 ∷ array 4 ∷ [])) ∷ Some (Elements (True ∷ [])) ∷ [])

  through_another : (text_inside S through 2 [] (array 1) ≡ codes "[1, {1=>[...]}]")
      × (text_inside S through 2 [] (hash 2) ≡ codes "{1=>[1, {...}]}")
      × (steps_inside S through 2 [] (hash 2) ≡ 3)
      × (lines_inside S through 3 [] (array 1) ≡ codes "1\n{1=>[1, {...}]}\n")
      × (line_steps_inside S through 3 [] (array 1) ≡ 5)
      × (lines_fit_inside S through 3 [] (array 1) ≡ true)
      × (text_inside S through 2 [] (array 3) ≡ codes "[[true], [true]]")
      × (steps_inside S through 2 [] (array 3) ≡ 4)
  unfolding digits
  through_another = (refl, refl, refl, refl, refl, refl, refl, refl)
