-- What the resolver knows of a script.
use Rattle.std.specs.Prelude.{◌≡◌, ℕ, true, ◌==◌, nat_eq, List, Option, Some, None, position, slice_get, unwrap_or, codes, if◌then◌else◌}
use Rattle.std.specs.HashMap as hash
use Rattle.std.specs.Str.{bytes_eq}
use Rattle.rb_tree.specs.declared.span.Span.{Span}
use Rattle.rb_tree.specs.declared.span.NameId.{NameId}
use Rattle.rb_tree.specs.Texts.{number_of as numbered}
use Rattle.rb_tree.specs.declared.node.Class.{Class}
use Rattle.rb_tree.specs.declared.node.Method.{Method}
use Rattle.rb_machine.specs.Call.{class_from}
use Rattle.rb_machine.specs.Scopes.{Script, Text, name_text}
use Rattle.rb_render.specs.declared.show.Form.{Form}
use Rattle.rb_render.specs.declared.show.Form.TheVariants as form
use Rattle.rb_checker.specs.Scoped.{names_at}
use Rattle.rb_checker.specs.Threads.{captured_of, frame_of}
use Rattle.rb_code.specs.declared.code.BuiltinClass.{BuiltinClass}
use Rattle.rb_code.specs.declared.code.BuiltinClass.TheVariants as builtin_class
use Rattle.rb_code.specs.Dispatch.{method_number, in_no_class}
use Rattle.rb_code.specs.Resolved.{function_of, class_text}
use Rattle.rb_resolver.specs.declared.known.Known.{Known}

-- the number of the first method of a name
abbrev pub number_of : NameId → List Method → Option ℕ
number_of name methods = position (λ (m : Method). m.name.0 == name.0) methods

-- the number of the first class of a name
abbrev pub class_of : NameId → List Class → Option ℕ
class_of name classes = position (λ (k : Class). k.name.0 == name.0) classes

-- the number of the first method among these that is named `initialize`
abbrev pub first_in : List Text → List Method → Option ℕ
first_in names methods = position (λ (m : Method). bytes_eq (name_text names m.name) (codes "initialize")) methods

-- the number of a name, once a method or a class of this name has this number, unless one before has it
abbrev pub number_behind : Option ℕ → NameId → NameId → ℕ → Option ℕ
number_behind (Some before) name other number = Some before
number_behind None name other number = if name.0 == other.0 then Some number else None

-- the form of printing that a text calls
abbrev pub form_of : Text → Option Form
form_of text =
    if bytes_eq text (codes "puts") then Some form.Puts else (
    if bytes_eq text (codes "print") then Some form.Print else (
    if bytes_eq text (codes "p") then Some form.Inspect else (
    None)))

-- the class of a name that is built in and has `new`
abbrev pub builtin_class_of : Text → Option BuiltinClass
builtin_class_of name =
    if bytes_eq name (class_text builtin_class.Array) then Some builtin_class.Array else (
    if bytes_eq name (class_text builtin_class.Hash) then Some builtin_class.Hash else (
    if bytes_eq name (class_text builtin_class.Mutex) then Some builtin_class.Mutex else (
    None)))

-- it is known of this script
pub record IsKnown (known : Known) (names : List Text) (S : Script) : Type 0 where
  pub texts : S.program.names ≡ names
  pub functions : (name : NameId) → hash.get nat_eq known.functions name.0 ≡ function_of S name
  pub classes : (name : NameId) → hash.get nat_eq known.classes name.0 ≡ class_from S 0 name S.program.classes
  pub firsts : (class : ℕ) → unwrap_or (slice_get known.firsts class) None ≡ method_number S (codes "initialize") class
  pub absent : (text : Text) → numbered text names ≡ None → in_no_class S text ≡ true
  pub blocks : (at : Span) → names_at known.scopes.blocks at.from ≡ S.block_names at
  pub captured : (number : ℕ) → captured_of known.threads number ≡ S.captured_names number
  pub threads : (number : ℕ) → frame_of known.threads number ≡ S.thread_names number
