-- How the text of a collection is made, piece by piece. A collection inside itself is not read again.
use Rattle.std.specs.Prelude.{Bool, true, false, ◌||◌, nat_le, if◌then◌else◌, List, [], ◌∷◌, ◌++◌, length, Option, Some, None, codes}
use Rattle.rb_tree.specs.declared.node.Program.{Program}
use Rattle.rb_model.specs.declared.value.Sort.{Sort}
use Rattle.rb_model.specs.declared.value.Sort.TheVariants as sort
use Rattle.rb_model.specs.Values.{Value, To, Reference, same_id}
use Rattle.rb_model.specs.Acts.{Reply}
use Rattle.rb_model.specs.Acts as reply
use Rattle.rb_machine.specs.Scopes.{Text}
use Rattle.rb_machine.specs.Control.{Form, Inspected, Lined, Open, OfArray, OfHash, Coming, Between, OfValue, OfPair, Draft}
use Rattle.rb_machine.specs.Texts.{max_bytes, inspected, line_of}

abbrev pub is_collection_sort : Sort → Bool
is_collection_sort sort.List = true
is_collection_sort sort.Pairs = true
is_collection_sort other = false

-- whether a value is an array or a hash
abbrev pub is_collection : Value → Bool
is_collection (To thing) = is_collection_sort thing.sort
is_collection v = false

abbrev pub is_list_sort : Sort → Bool
is_list_sort sort.List = true
is_list_sort other = false

abbrev pub is_array : Value → Bool
is_array (To thing) = is_list_sort thing.sort
is_array v = false

-- the text of a collection, or of an array line by line, as it begins
abbrev pub draft_of : Form → Value → Draft
draft_of form v = record { form = form; coming = OfValue [] v; bytes = []; begun = [] }

-- ---- what a text needs next

-- The text goes on, where it is not too long; it is finished; an element or a pair begins, which is a step; a collection is read by one
-- copy; or an object among the elements of an array that is written line by line is asked for its text.
pub data Needs : Type 0 where
  Goes : (draft : Option Draft) → Needs
  Finished : (text : Text) → Needs
  Element : (draft : Draft) → Needs
  Copies : (thing : Reference) (draft : Draft) → Needs
  Asks : (value : Value) (draft : Draft) → Needs

-- bytes join a text, where that does not grow too long, and then this comes next in these collections
abbrev pub joined : Draft → Text → Coming → List Open → Option Draft
joined t more coming begun =
    if nat_le (length (t.bytes ++ more)) max_bytes then Some (record { form = t.form; coming = coming; bytes = t.bytes ++ more; begun = begun }) else None

abbrev pub with_coming : Draft → Coming → List Open → Draft
with_coming t coming begun = record { form = t.form; coming = coming; bytes = t.bytes; begun = begun }

-- the bytes before the second element or pair and each behind it, those that end an array, and those of a collection that is inside itself
abbrev pub comma : Form → Text
comma Inspected = codes ", "
comma Lined = []

abbrev pub closing : Form → Text
closing Inspected = codes "]"
closing Lined = []

abbrev pub again : Form → Sort → Text
again Lined other = codes "[...]\n"
again Inspected sort.Pairs = codes "{...}"
again Inspected other = codes "[...]"

abbrev pub is_of : Reference → Open → Bool
is_of thing (OfArray array lead values) = same_id thing.id array.id
is_of thing (OfHash hash lead pairs) = same_id thing.id hash.id

abbrev pub is_open : Reference → List Open → Bool
is_open thing [] = false
is_open thing (o ∷ os) = is_of thing o || is_open thing os

-- what is left of the innermost collection
abbrev pub between : Draft → List Open → Needs
between t [] = Finished t.bytes
between t (OfArray array lead [] ∷ begun) = Goes (joined t (closing t.form) Between begun)
between t (OfArray array lead (v ∷ vs) ∷ begun) = Element (with_coming t (OfValue lead v) (OfArray array (comma t.form) vs ∷ begun))
between t (OfHash hash lead [] ∷ begun) = Goes (joined t (codes "}") Between begun)
between t (OfHash hash lead (p ∷ ps) ∷ begun) = Element (with_coming t (OfPair lead p.0 p.1) (OfHash hash (codes ", ") ps ∷ begun))

-- a collection is read, unless it is begun already
abbrev pub collection : Draft → Text → Reference → Needs
collection t lead thing = if is_open thing t.begun then Goes (joined t (lead ++ again t.form thing.sort) Between t.begun) else Copies thing t

module _ (P : Program) where
  -- a value in the form of `inspect`, and one that is written as a line
  abbrev pub inspects : Draft → Text → Value → Needs
  inspects t lead (To thing) = if is_collection_sort thing.sort then collection t lead thing else Goes (joined t (lead ++ inspected P (To thing)) Between t.begun)
  inspects t lead v = Goes (joined t (lead ++ inspected P v) Between t.begun)

  abbrev pub lines : Draft → Text → Value → Needs
  lines t lead (To thing) = if is_list_sort thing.sort then collection t lead thing else Asks (To thing) t
  lines t lead v = Asks v t

  abbrev pub value_needs : Form → Draft → Text → Value → Needs
  value_needs Inspected t lead v = inspects t lead v
  value_needs Lined t lead v = lines t lead v

  abbrev pub coming_needs : Coming → Draft → Needs
  coming_needs Between t = between t t.begun
  coming_needs (OfValue lead v) t = value_needs t.form t lead v
  coming_needs (OfPair lead k v) t = Goes (joined t (lead ++ inspected P k ++ codes "=>") (OfValue [] v) t.begun)

  abbrev pub needs : Draft → Needs
  needs t = coming_needs t.coming t

-- ---- what it is given

abbrev pub lead_of : Coming → Text
lead_of (OfValue lead v) = lead
lead_of other = []

-- what `puts` writes of an array without elements: a line feed, but nothing where the array is an element of another
abbrev pub empty_lines : List Open → Text
empty_lines [] = codes "\n"
empty_lines (o ∷ os) = []

abbrev pub opened_array : Form → Draft → Reference → List Value → Option Draft
opened_array Lined t array [] = joined t (empty_lines t.begun) Between t.begun
opened_array Lined t array (v ∷ vs) = Some (with_coming t Between (OfArray array [] (v ∷ vs) ∷ t.begun))
opened_array Inspected t array vs = joined t (lead_of t.coming ++ codes "[") Between (OfArray array [] vs ∷ t.begun)

-- a collection is opened with its elements or its pairs
abbrev pub opened : Draft → Reference → Reply → Option Draft
opened t thing (reply.Elements vs) = opened_array t.form t thing vs
opened t thing (reply.Pairs ps) = joined t (lead_of t.coming ++ codes "{") Between (OfHash thing [] ps ∷ t.begun)
opened t thing other = None

-- the text of an element is written as a line
abbrev pub with_line : Draft → Text → Option Draft
with_line t text = joined t (line_of text) Between t.begun
