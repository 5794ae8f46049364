-- How the text of a collection that the code makes stands for the text of the machine.
use Rattle.std.specs.Prelude.{◌≡◌, ◌<◌, ◌≤◌, Bool, true, false, List, [], ◌∷◌, ◌++◌, map, reverse, drop, length, Option, Some, None, Result, Err, OnOk, OnErr, codes}
use Rattle.rb_tree.specs.declared.node.Program.{Program}
use Rattle.rb_model.specs.declared.value.Ref.{Ref}
use Rattle.rb_model.specs.declared.value.Value.{Value as Key}
use Rattle.rb_model.specs.Values.{Value, Reference, plain}
use Rattle.rb_machine.specs.Scopes.{Text}
use Rattle.rb_machine.specs.Control.{Form, Inspected, Lined, Open, OfArray, OfHash, Coming, Between, OfValue, OfPair, Draft}
use Rattle.rb_machine.specs.Texts.{max_bytes, inspected}
use Rattle.rb_machine.specs.Drafts.{Needs, Goes, Finished, Element, Copies, Asks, needs, between, collection, value_needs, joined, with_coming}
use Rattle.rb_render.specs.declared.show.RenderFault.{RenderFault}
use Rattle.rb_render.specs.declared.show.RenderFault.TheVariants as fault
use Rattle.rb_render.specs.declared.draft.TextForm.{TextForm}
use Rattle.rb_render.specs.declared.draft.TextForm.TheVariants as form
use Rattle.rb_render.specs.declared.draft.Want.{Want}
use Rattle.rb_render.specs.declared.draft.Want.TheVariants as want
use Rattle.rb_render.specs.declared.draft.marks.Mark.{Mark}
use Rattle.rb_render.specs.declared.draft.marks.Mark.TheVariants as mark
use Rattle.rb_render.specs.declared.draft.parts.Coming.{Coming as Held}
use Rattle.rb_render.specs.declared.draft.parts.Coming.TheVariants as held
use Rattle.rb_render.specs.declared.draft.parts.Left.{Left}
use Rattle.rb_render.specs.declared.draft.parts.Left.TheVariants as left
use Rattle.rb_render.specs.declared.draft.parts.Begun.{Begun}
use Rattle.rb_render.specs.declared.draft.parts.Next.{Next}
use Rattle.rb_render.specs.declared.draft.parts.Next.TheVariants as next
use Rattle.rb_render.specs.declared.draft.ways.Way.{Way}
use Rattle.rb_render.specs.declared.draft.ways.Way.TheVariants as way

-- ---- what the parts of the code are

abbrev pub form_of : TextForm → Form
form_of form.Inspected = Inspected
form_of form.Lined = Lined

-- the bytes round values
abbrev pub mark_text : Mark → Text
mark_text mark.Nothing = []
mark_text mark.Comma = codes ", "
mark_text mark.OpenBracket = codes "["
mark_text mark.CloseBracket = codes "]"
mark_text mark.OpenBrace = codes "{"
mark_text mark.CloseBrace = codes "}"
mark_text mark.Arrow = codes "=>"
mark_text mark.ArrayAgain = codes "[...]"
mark_text mark.HashAgain = codes "{...}"
mark_text mark.LineAgain = codes "[...]\n"
mark_text mark.Feed = codes "\n"

abbrev pub reference : Ref → Reference
reference thing = record { sort = thing.sort; id = thing.id }

abbrev pub plain_pair : Key × Key → Value × Value
plain_pair p = (plain p.0, plain p.1)

-- what comes next in a text
abbrev pub coming_of : Held → Coming
coming_of held.Between = Between
coming_of (held.OfValue lead v) = OfValue (mark_text lead) (plain v)
coming_of (held.OfPair lead k v) = OfPair (mark_text lead) (plain k) (plain v)

-- a collection whose text is begun
abbrev pub with_left : Reference → Text → Left → Open
with_left thing lead (left.Values vs) = OfArray thing lead (map plain vs.items)
with_left thing lead (left.Pairs ps) = OfHash thing lead (map plain_pair ps.items)

abbrev pub open_of : Begun → Open
open_of b = with_left (reference b.thing) (mark_text b.lead) b.left

-- the collections that are begun, of which the code keeps the innermost last
abbrev pub opens : List Begun → List Open
opens bs = reverse (map open_of bs)

-- ---- what the code answers

-- what comes next in a text, as it is told, and what the text is then
abbrev pub IsTold : Needs → Draft → Want → Draft → Type 0
IsTold next old want.More new = next ≡ Goes (Some new)
IsTold next old want.Finished new = (next ≡ Finished new.bytes) × (new ≡ old)
IsTold next old want.Element new = next ≡ Element new
IsTold next old (want.Copy thing) new = next ≡ Copies (reference thing) new
IsTold next old (want.Text v) new = next ≡ Asks (plain v) new

-- what a text needs next
abbrev pub Wants : Program → Draft → Want → Draft → Type 0
Wants P old told new = IsTold (needs P old) old told new

-- what comes next may take memory where a text grows, or where a value is shared with the one who gives its text
abbrev pub takes_memory : Needs → Bool
takes_memory (Goes grown) = true
takes_memory (Asks v t) = true
takes_memory other = false

-- more bytes join others, where those do not grow too long
pub record Joins (old more : Text) (result : Result Unit RenderFault) (new : Text) : Type 0 where
  pub text : OnOk result (new ≡ old ++ more)
  pub fits : OnOk result (length (old ++ more) ≤ max_bytes)
  pub too_long : result ≡ Err fault.TooLong → max_bytes < length (old ++ more)
  pub kept : OnErr result (new ≡ old)

-- behind the key of a pair comes its value
abbrev pub after_key : Coming → Coming
after_key (OfPair lead k v) = OfValue [] v
after_key other = other

-- what comes next in the innermost collection, with what it is then
abbrev pub Takes : Form → Open → Next → Open → Type 0
Takes f o (next.Comes c) o' = (t : Draft) (os : List Open) → t.form ≡ f → between t (o ∷ os) ≡ Element (with_coming t (coming_of c) (o' ∷ os))
Takes f o (next.Ends m) o' = (o' ≡ o) × ((t : Draft) (os : List Open) → t.form ≡ f → between t (o ∷ os) ≡ Goes (joined t (mark_text m) Between os))

-- what comes next where these collections are begun, with what they are then
abbrev pub GoesOn : Form → List Open → Option Next → List Open → Type 0
GoesOn f os None os' = (os ≡ []) × (os' ≡ [])
GoesOn f os (Some (next.Comes c)) os' = (t : Draft) → t.form ≡ f → between t os ≡ Element (with_coming t (coming_of c) os')
GoesOn f os (Some (next.Ends m)) os' = (os' ≡ os) × ((t : Draft) → t.form ≡ f → between t os ≡ Goes (joined t (mark_text m) Between (drop 1 os)))

-- what a value needs, wherever it stands
abbrev pub IsWay : Form → Value → Way → Type 0
IsWay f v way.Known = (P : Program) (t : Draft) (lead : Text) → value_needs P f t lead v ≡ Goes (joined t (lead ++ inspected P v) Between t.begun)
IsWay f v (way.Read thing) = (P : Program) (t : Draft) (lead : Text) → value_needs P f t lead v ≡ collection t lead (reference thing)
IsWay f v way.Asked = (P : Program) (t : Draft) (lead : Text) → value_needs P f t lead v ≡ Asks v t
