-- Values of methods, and moves of the machine, by computation.
use Rattle.std.proofs.Common.{◌≡◌, ℕ, List, [], ◌∷◌, Some, None, refl}
use Rattle.std.specs.Prelude.{pos, negsuc, codes}
use Rattle.rb_model.specs.declared.fault.Fault.TheVariants.{NoMethod, ArgumentCount, TypeMismatch, ZeroDivision, IntegerOverflow}
use Rattle.rb_tree.specs.declared.span.Span.{Span}
use Rattle.rb_tree.specs.declared.node.Node.{Node}
use Rattle.rb_tree.specs.declared.node.Program.{Program}
use Rattle.rb_model.specs.declared.value.Id.{Id}
use Rattle.rb_model.specs.declared.value.Sort.TheVariants as sort
use Rattle.rb_model.specs.Values.{Value, Nil, False, True, Int, Str, To}
use Rattle.rb_model.specs.Things.{Elements}
use Rattle.rb_machine.specs.Scopes.{Script, Scope}
use Rattle.rb_machine.specs.Control.{On, Cont, Then, Test, Again, Give, Following, Showing, Instead, Create, Break, Counting}
use Rattle.rb_machine.specs.Texts.{escaped, line_of, shown, inspected}
use Rattle.rb_machine.specs.Methods.{Gives, Raises, Loops, deed, quotient, modulo}
use Rattle.rb_machine.specs.Call.{print}
use Rattle.rb_machine.specs.Give.{give, leave}
use Rattle.rb_machine.specs.Laws.{Quiet, stays, moves}

-- rounded toward minus infinity, with the sign of the divisor
quotients : (quotient (negsuc 6) (pos 2) ≡ negsuc 3) × (quotient (pos 7) (negsuc 1) ≡ negsuc 3) × (quotient (negsuc 6) (negsuc 1) ≡ pos 3) × (quotient (pos 6) (negsuc 2) ≡ negsuc 1)
quotients = (refl, refl, refl, refl)

rests : (modulo (negsuc 6) (pos 3) ≡ pos 2) × (modulo (pos 7) (negsuc 1) ≡ negsuc 0) × (modulo (negsuc 6) (negsuc 1) ≡ negsuc 0) × (modulo (pos 6) (negsuc 2) ≡ pos 0)
rests = (refl, refl, refl, refl)

module _ (P : Program) where
  abbrev least : Value
  least = Int (negsuc 9223372036854775807)

  sums : (deed P (Int (pos 1)) (codes "+") (Int (pos 2) ∷ []) None ≡ Gives (Int (pos 3)))
      × (deed P (Int (pos 1)) (codes "+") (Str (codes "a") ∷ []) None ≡ Raises TypeMismatch)
      × (deed P (Int (pos 9223372036854775807)) (codes "+") (Int (pos 1) ∷ []) None ≡ Raises IntegerOverflow)
      × (deed P Nil (codes "+") (Int (pos 1) ∷ []) None ≡ Raises NoMethod)
      × (deed P (Str (codes "a")) (codes "+") (Str (codes "b") ∷ []) None ≡ Gives (Str (codes "ab")))
  sums = (refl, refl, refl, refl, refl)

  divisions : (deed P (Int (pos 5)) (codes "/") (Int (pos 0) ∷ []) None ≡ Raises ZeroDivision)
      × (deed P least (codes "/") (Int (negsuc 0) ∷ []) None ≡ Raises IntegerOverflow)
      × (deed P least (codes "%") (Int (negsuc 0) ∷ []) None ≡ Gives (Int (pos 0)))
      × (deed P least (codes "-@") [] None ≡ Raises IntegerOverflow)
  divisions = (refl, refl, refl, refl)

  blocks : (deed P (Int (pos 3)) (codes "times") [] (Some 1) ≡ Loops (Counting (pos 0) (pos 3) (Int (pos 3))))
      × (deed P (Int (pos 3)) (codes "times") [] None ≡ Raises ArgumentCount)
      × (deed P (Int (pos 3)) (codes "times") [] (Some 2) ≡ Raises ArgumentCount)
      × (deed P (Str []) (codes "times") [] (Some 1) ≡ Raises NoMethod)
      × (deed P (Int (pos 3)) (codes "+") (Nil ∷ []) (Some 1) ≡ Raises NoMethod)
  blocks = (refl, refl, refl, refl, refl)

-- the text `a#{b#c` with a quote and a line feed
escapes : escaped (codes "a#{b#c\"\n") ≡ codes "a\\#{b#c\\\"\\n"
escapes = refl

-- a text that ends with a line feed gets no second one; nil and the empty text are empty lines
lines : (line_of (codes "a\n") ≡ codes "a\n") × (line_of (codes "b") ≡ codes "b\n") × (line_of [] ≡ codes "\n")
lines = (refl, refl, refl)

-- a thread and a mutex are told by what they are
things : (P : Program) (id : Id) → (shown P (To (record { sort = sort.Thread; id = id })) ≡ codes "#<Thread>") × (inspected P (To (record { sort = sort.Mutex; id = id })) ≡ codes "#<Mutex>")
things P id = (refl, refl)

inspections : (P : Program) → (inspected P (Str (codes "a\"b")) ≡ codes "\"a\\\"b\"") × (inspected P Nil ≡ codes "nil") × (inspected P False ≡ codes "false")
inspections P = (refl, refl, refl)

-- `length` counts characters, and not bytes
lengths : (P : Program) → deed P (Str (195 ∷ 164 ∷ 98 ∷ [])) (codes "length") [] None ≡ Gives (Int (pos 2))
lengths P = refl

module _ (S : Script) (at : Span) (k : List Cont) (sc : Scope) (d left : ℕ) where
  -- `puts` makes a line of each value, in turn, and shows them at once; it answers nil
  puts_lines : Quiet S (print S (codes "puts") (Str (codes "a\n") ∷ True ∷ Nil ∷ Str [] ∷ []) at k sc d left) (On (Showing (codes "a\ntrue\n\n\n")) (Then (Instead Nil) ∷ k) sc d left)
      × (print S (codes "puts") [] at k sc d left ≡ On (Showing (codes "\n")) (Then (Instead Nil) ∷ k) sc d left)
  puts_lines = (moves _ _ _ refl (moves _ _ _ refl (moves _ _ _ refl (moves _ _ _ refl (stays _)))), refl)

  -- `print` writes the texts as they are; where there is nothing to show, nothing is shown
  prints : Quiet S (print S (codes "print") (Str (codes "a\n") ∷ True ∷ []) at k sc d left) (On (Showing (codes "a\ntrue")) (Then (Instead Nil) ∷ k) sc d left)
      × Quiet S (print S (codes "print") (Nil ∷ Str [] ∷ []) at k sc d left) (On (Give Nil) (Then (Instead Nil) ∷ k) sc d left)
  prints = (moves _ _ _ refl (moves _ _ _ refl (stays _)), moves _ _ _ refl (moves _ _ _ refl (stays _)))

  -- `p` writes the inspected form of each value and a line feed; it answers nil, its value, or its values as an array
  answers : (print S (codes "p") [] at k sc d left ≡ On (Give Nil) (Then (Instead Nil) ∷ k) sc d left)
      × Quiet S (print S (codes "p") (Str (codes "a\n") ∷ []) at k sc d left) (On (Showing (codes "\"a\\n\"\n")) (Then (Instead (Str (codes "a\n"))) ∷ k) sc d left)
      × Quiet S (print S (codes "p") (True ∷ Nil ∷ []) at k sc d left) (On (Showing (codes "true\nnil\n")) (Then (Create (Elements (True ∷ Nil ∷ []))) ∷ k) sc d left)
  answers = (refl, moves _ _ _ refl (stays _), moves _ _ _ refl (moves _ _ _ refl (stays _)))

  -- `break` in a condition ends the loop, as it does in the body
  breaks : (condition : Node) (body : List Node) → (leave Break (Test condition body) k sc d left ≡ On (Give Nil) k sc d left)
      × (leave Break (Again condition body) k sc d left ≡ On (Give Nil) k sc d left)
  breaks condition body = (refl, refl)

  -- a loop whose condition is false or nil ends with nil; any other value goes on, 0 and the empty text too
  conditions : (condition : Node) (body : List Node) → (give S False (Test condition body) k sc d left ≡ On (Give Nil) k sc d left)
      × (give S Nil (Test condition body) k sc d left ≡ On (Give Nil) k sc d left)
      × (give S (Int (pos 0)) (Test condition body) k sc d left ≡ On (Following Nil body) (Again condition body ∷ k) sc d left)
      × (give S (Str []) (Test condition body) k sc d left ≡ On (Following Nil body) (Again condition body ∷ k) sc d left)
  conditions condition body = (refl, refl, refl, refl)
