-- What the calls that show values write.
use Rattle.std.specs.Prelude.{Bool, true, false, List, [], ◌∷◌, ◌++◌}
use Rattle.std.specs.List.{flat_map}
use Rattle.rb_tree.specs.declared.node.Program.{Program}
use Rattle.rb_model.specs.Values.{Value}
use Rattle.rb_machine.specs.Scopes.{Text}
use Rattle.rb_machine.specs.Control.{Style, Lines, Plain}
use Rattle.rb_machine.specs.Texts.{line_of, shown, inspected}
use Rattle.rb_render.specs.declared.show.Form.{Form}
use Rattle.rb_render.specs.declared.show.Form.TheVariants as form
use Rattle.rb_render.specs.declared.pieces.Style.{Style as Held}
use Rattle.rb_render.specs.declared.pieces.Style.TheVariants as held

-- `puts` writes a line for each value, and one line feed for none, where no `to_s` is asked
abbrev pub puts_text : Program → List Value → Text
puts_text P [] = 10 ∷ []
puts_text P (v ∷ vs) = flat_map (λ v. line_of (shown P v)) (v ∷ vs)

-- `print` writes the texts
abbrev pub print_text : Program → List Value → Text
print_text P vs = flat_map (shown P) vs

-- `p` writes the inspected form of each value and a line feed
abbrev pub p_text : Program → List Value → Text
p_text P vs = flat_map (λ v. inspected P v ++ 10 ∷ []) vs

-- all that a call writes
abbrev pub written : Program → Form → List Value → Text
written P form.Puts vs = puts_text P vs
written P form.Print vs = print_text P vs
written P form.Inspect vs = p_text P vs

-- what it writes of one value
abbrev pub part : Program → Form → Value → Text
part P form.Puts v = line_of (shown P v)
part P form.Print v = shown P v
part P form.Inspect v = inspected P v ++ 10 ∷ []

-- what it writes of values one by one
abbrev pub parts : Program → Form → List Value → Text
parts P form vs = flat_map (part P form) vs

-- `puts` without values
abbrev pub is_blank : Form → List Value → Bool
is_blank form.Puts [] = true
is_blank f vs = false

-- what a style of the code is
abbrev pub style_of : Held → Style
style_of held.Lines = Lines
style_of held.Plain = Plain
