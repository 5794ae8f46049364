-- Where the numbers of a resolved tree are right for a script.
use Rattle.std.specs.Prelude.{ℕ, ◌+◌, Bool, true, false, not, ◌&&◌, ◌||◌, ◌==◌, nat_le, is_none, List, [], ◌∷◌, ◌++◌, length, map, position, Option, Some, None, codes}
use Rattle.std.specs.List.{list_all}
use Rattle.std.specs.Str.{bytes_eq}
use Rattle.rb_tree.specs.declared.span.NameId.{NameId}
use Rattle.rb_tree.specs.declared.node.Method.{Method}
use Rattle.rb_machine.specs.Scopes.{Script, text_of}
use Rattle.rb_machine.specs.Call.{class_from}
use Rattle.rb_builtin.specs.declared.builtin.Builtin.{Builtin}
use Rattle.rb_builtin.specs.Names.{builtin_of, same_number}
use Rattle.rb_render.specs.declared.show.Form.{Form}
use Rattle.rb_render.specs.declared.show.Form.TheVariants as form
use Rattle.rb_code.specs.declared.code.BuiltinClass.{BuiltinClass}
use Rattle.rb_code.specs.declared.code.BuiltinClass.TheVariants as builtin_class
use Rattle.rb_code.specs.declared.code.Code.{Code, fold-Code}
use Rattle.rb_code.specs.declared.code.CodePiece.{CodePiece, fold-CodePiece}
use Rattle.rb_code.specs.declared.code.CodeBlock.{CodeBlock, fold-CodeBlock}
use Rattle.rb_code.specs.declared.code.Code.TheOpen.{Code-F, CodePiece-F, CodeBlock-F}
use Rattle.rb_code.specs.declared.code.Code.TheOpen as code
use Rattle.rb_code.specs.declared.scripted.CodeMethod.{CodeMethod}
use Rattle.rb_code.specs.declared.scripted.CodeClass.{CodeClass}
use Rattle.rb_code.specs.declared.scripted.CodeScript.{CodeScript}
use Rattle.rb_code.specs.Layout.{is_at, has_slot, have_slots}
use Rattle.rb_code.specs.Dispatch.{method_number, is_writer}
use Rattle.rb_code.specs.Erase.{erase_method}

-- whether code is right where these names are in scope, in a frame of this size
abbrev pub Fits : Type 0
Fits = List NameId → ℕ → Bool

abbrev pub every : List Fits → Fits
every [] names size = true
every (f ∷ fs) names size = f names size && every fs names size

abbrev pub if_some : Option Fits → Fits
if_some None names size = true
if_some (Some f) names size = f names size

-- the texts of the methods that print
abbrev pub form_text : Form → List ℕ
form_text form.Puts = codes "puts"
form_text form.Print = codes "print"
form_text form.Inspect = codes "p"

-- whether a text is that of a method that prints
abbrev pub prints : List ℕ → Bool
prints text = bytes_eq text (codes "puts") || (bytes_eq text (codes "print") || bytes_eq text (codes "p"))

-- the names of the classes that are built in
abbrev pub class_text : BuiltinClass → List ℕ
class_text builtin_class.Array = codes "Array"
class_text builtin_class.Hash = codes "Hash"
class_text builtin_class.Mutex = codes "Mutex"

-- whether keys and values stand by turns
abbrev pub is_even : {X : Type 0} → List X → Bool
is_even [] = true
is_even (x ∷ []) = false
is_even (x ∷ y ∷ xs) = is_even xs

-- the same number, or none
abbrev pub same_place : Option ℕ → Option ℕ → Bool
same_place None other = is_none other
same_place (Some n) other = is_at other n

-- whether a text is the name of no built-in method
abbrev pub is_free : List ℕ → Bool
is_free text = is_none (builtin_of text)

module _ (S : Script) where
  abbrev pub has_name : NameId → Method → Bool
  has_name name m = m.name.0 == name.0

  -- the number of the top-level method of a name
  abbrev pub function_of : NameId → Option ℕ
  function_of name = position (has_name name) S.program.functions

  abbrev pub has_number : Option Builtin → NameId → Bool
  has_number number name = same_number (builtin_of (text_of S name)) number

  -- whether these are the number of a class and of its `initialize`
  abbrev pub is_made : ℕ → Option ℕ → NameId → Bool
  is_made class first name = is_at (class_from S 0 name S.program.classes) class && same_place (method_number S (codes "initialize") class) first

  -- whether this is the name of a class that is built in, and of none of the script
  abbrev pub is_builtin : BuiltinClass → NameId → Bool
  is_builtin class name = is_none (class_from S 0 name S.program.classes) && bytes_eq (text_of S name) (class_text class)

  abbrev pub piece_step : CodePiece-F Fits Fits Fits → Fits
  piece_step (code.Text text) names size = true
  piece_step (code.Code c) names size = c names size

  -- a block's own names lie behind those round it
  abbrev pub block_step : CodeBlock-F Fits Fits Fits → Fits
  block_step b names size =
      let own = S.block_names b.at in
      (b.from == length names) && ((b.count == length own) && (nat_le (length names + length own) size && every b.body (names ++ own) size))

  abbrev pub node_step : Code-F Fits Fits Fits → Fits
  node_step (code.Str pieces at) names size = every pieces names size
  node_step (code.Array items at) names size = every items names size
  node_step (code.Hash items at) names size = is_even items && every items names size
  node_step (code.Local slot name at) names size = has_slot name names slot
  node_step (code.SetLocal slot name value at) names size = has_slot name names slot && value names size
  node_step (code.UpdateLocal slot name op value at) names size = has_slot name names slot && value names size
  node_step (code.SetField name value at) names size = value names size
  node_step (code.UpdateField name op value at) names size = value names size
  node_step (code.SetGlobal name value at) names size = value names size
  node_step (code.UpdateGlobal name op value at) names size = value names size
  node_step (code.UpdateElement receiver index op value at) names size = receiver names size && (index names size && value names size)
  node_step (code.UpdateAttribute number writer name receiver op value at) names size =
      has_number number name && (is_writer S writer name && (is_free (text_of S name ++ codes "=") && (receiver names size && value names size)))
  node_step (code.Store number receiver name args at) names size = has_number number name && (receiver names size && every args names size)
  node_step (code.Operate number name left right at) names size = has_number number name && (left names size && right names size)
  node_step (code.Send number name receiver args at) names size = has_number number name && (receiver names size && every args names size)
  node_step (code.Walk number name receiver args block at) names size = has_number number name && (receiver names size && (every args names size && block names size))
  node_step (code.Function number name args at) names size = is_at (function_of name) number && every args names size
  node_step (code.Own name args at) names size = is_none (function_of name) && (not (prints (text_of S name)) && every args names size)
  node_step (code.New class first name args at) names size = is_made class first name && every args names size
  node_step (code.NewBuiltin class name args at) names size = is_builtin class name && every args names size
  node_step (code.Start args body slots at) names size = have_slots (S.captured_names body) names slots && every args names size
  node_step (code.Print form name args at) names size =
      is_none (function_of name) && (bytes_eq (text_of S name) (form_text form) && every args names size)
  node_step (code.And left right at) names size = left names size && right names size
  node_step (code.Or left right at) names size = left names size && right names size
  node_step (code.Not value at) names size = value names size
  node_step (code.If condition first second at) names size = condition names size && (every first names size && every second names size)
  node_step (code.While condition body at) names size = condition names size && every body names size
  node_step (code.Return value at) names size = if_some value names size
  node_step leaf names size = true

  -- whether the numbers of code are right
  unfoldable pub fits : Code → Fits
  fits = fold-Code Fits Fits Fits node_step piece_step block_step

  unfoldable pub piece_fits : CodePiece → Fits
  piece_fits = fold-CodePiece Fits Fits Fits node_step piece_step block_step

  unfoldable pub block_fits : CodeBlock → Fits
  block_fits = fold-CodeBlock Fits Fits Fits node_step piece_step block_step

  abbrev pub body_fits : List Code → Fits
  body_fits body = every (map fits body)

  -- a method's frame has a slot for each of its parameters and its names, and its body is right in it
  abbrev pub method_fits : CodeMethod → Bool
  method_fits m =
      let names = S.method_names (erase_method m) in
      nat_le (length m.params) m.size && (nat_le (length names) m.size && body_fits m.body names m.size)

  abbrev pub class_fits : CodeClass → Bool
  class_fits c = list_all method_fits c.methods

  abbrev pub script_fits : CodeScript → Bool
  script_fits c = list_all method_fits c.functions && (list_all class_fits c.classes && (nat_le (length S.main_names) c.main_size && body_fits c.main S.main_names c.main_size))
