-- The script that a resolved one stands for.
use Rattle.std.specs.Prelude.{◌≡◌, ℕ, ◌+◌, ◌≤◌, true, map, length, slice_get, Some, None}
use Rattle.rb_tree.specs.declared.span.NameId.{NameId}
use Rattle.rb_machine.specs.Scopes.{Script, Text, text_of}
use Rattle.rb_code.specs.declared.scripted.CodeBody.{CodeBody}
use Rattle.rb_code.specs.declared.scripted.CodeScript.{CodeScript}
use Rattle.rb_code.specs.Erase.{erase, erase_method, erase_class, erase_body}
use Rattle.rb_code.specs.Dispatch.{found_by, method_number, is_operator}
use Rattle.rb_code.specs.Resolved.{body_fits, script_fits}

-- The body of a thread captures the names of the script, its frame has a slot for each of its parameters, for each name that it captures
-- and for each of its names, and its code is right in it.
pub record IsBody (S : Script) (number : ℕ) (b : CodeBody) : Type 0 where
  pub captured : b.captured ≡ S.captured_names number
  pub room : length b.params + length b.captured ≤ b.size
  pub names : length (S.thread_names number) ≤ b.size
  pub fits : body_fits S b.body (S.thread_names number) b.size ≡ true

-- It has the methods, the classes, the bodies of threads and the top level of the script, a name finds in a class what the text of the name finds there, no
-- class has an operator or brackets for a method, and the numbers are right.
pub record StandsFor (c : CodeScript) (S : Script) : Type 0 where
  pub functions : map erase_method c.functions ≡ S.program.functions
  pub classes : map erase_class c.classes ≡ S.program.classes
  pub bodies : map erase_body c.bodies ≡ S.program.bodies
  pub threads : (number : ℕ) (b : CodeBody) → slice_get c.bodies number ≡ Some b → IsBody S number b
  pub dispatch : (name : NameId) (class : ℕ) → found_by c name class ≡ method_number S (text_of S name) class
  pub plain : (text : Text) (class : ℕ) → is_operator text ≡ true → method_number S text class ≡ None
  pub main : map erase c.main ≡ S.program.main
  pub fits : script_fits S c ≡ true
