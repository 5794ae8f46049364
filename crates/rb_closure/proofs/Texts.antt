-- What a text in the making needs, and what it becomes when a collection is opened in it.
use Rattle.std.proofs.Common.{Bool, true, false, cond, List, [], ◌∷◌, ◌++◌, Some, None, length}
use Rattle.std.specs.Prelude.{nat_le, codes}
use Rattle.std.specs.List.{flat_map}
use Rattle.rb_model.specs.Values.{Value, To, Reference}
use Rattle.rb_machine.specs.Scopes.{Script, Text}
use Rattle.rb_machine.specs.Control.{Form, Inspected, Lined, Open, OfArray, OfHash, Coming, Between, OfValue, OfPair, Draft}
use Rattle.rb_machine.specs.Texts.{max_bytes, inspected, line_of}
use Rattle.rb_machine.specs.Drafts.{Needs, Goes, Finished, Element, Copies, Asks, joined, closing, again, is_open, is_collection_sort, is_list_sort, collection, inspects, lines, needs, opened_array, empty_lines, lead_of, with_line}
use Rattle.rb_closure.specs.Mentions.{values_in_open, values_in_coming, values_in_draft, values_in_pairs}
use Rattle.rb_closure.proofs.Lists.{IfSome, both, behind}
use Rattle.rb_closure.proofs.Parts.{Rules, Good, GoodAll}

module _ (S : Script) (P : Rules S) where
  abbrev pub GoodDraft : Draft → Type 0
  GoodDraft t = GoodAll S P (values_in_draft t)

  abbrev pub GoodBegun : List Open → Type 0
  GoodBegun begun = GoodAll S P (flat_map values_in_open begun)

  abbrev pub GoodNeeds : Needs → Type 0
  GoodNeeds (Goes t) = IfSome GoodDraft t
  GoodNeeds (Finished text) = Unit {0}
  GoodNeeds (Element t) = GoodDraft t
  GoodNeeds (Copies thing t) = P.Refers thing × GoodDraft t
  GoodNeeds (Asks v t) = Good S P v × GoodDraft t

  pub begun_good : (t : Draft) → GoodDraft t → GoodBegun t.begun
  begun_good t h = behind (Good S P) (values_in_coming t.coming) (flat_map values_in_open t.begun) h

  goes_if : (b : Bool) (t : Draft) → GoodDraft t → IfSome GoodDraft (cond b (Some t) None)
  goes_if true t h = h
  goes_if false t h = tt

  needs_if : (b : Bool) (m n : Needs) → GoodNeeds m → GoodNeeds n → GoodNeeds (cond b m n)
  needs_if true m n p q = p
  needs_if false m n p q = q

  pub joined_good : (t : Draft) (more : Text) (coming : Coming) (begun : List Open) → GoodAll S P (values_in_coming coming) → GoodBegun begun → IfSome GoodDraft (joined t more coming begun)
  joined_good t more coming begun c b = goes_if (nat_le (length (t.bytes ++ more)) max_bytes) _ (both (Good S P) (values_in_coming coming) (flat_map values_in_open begun) c b)

  abbrev a_draft : Form → Coming → Text → List Open → Draft
  a_draft form coming bytes begun = record { form = form; coming = coming; bytes = bytes; begun = begun }

  between_good : (form : Form) (bytes : Text) (begun : List Open) → GoodBegun begun → GoodNeeds (needs S.program (a_draft form Between bytes begun))
  between_good form bytes [] h = tt
  between_good form bytes (OfArray array lead [] ∷ begun) (p, a) = joined_good (a_draft form Between bytes (OfArray array lead [] ∷ begun)) (closing form) Between begun tt a
  between_good form bytes (OfArray array lead (v ∷ vs) ∷ begun) (p, (q, a)) = (q, (p, a))
  between_good form bytes (OfHash hash lead [] ∷ begun) (p, a) = joined_good (a_draft form Between bytes (OfHash hash lead [] ∷ begun)) (codes "}") Between begun tt a
  between_good form bytes (OfHash hash lead (x ∷ ps) ∷ begun) (p, (k, (v, a))) = (k, (v, (p, a)))

  collection_good : (t : Draft) (lead : Text) (thing : Reference) → P.Refers thing → GoodDraft t → GoodNeeds (collection t lead thing)
  collection_good t lead thing p h =
      needs_if (is_open thing t.begun) _ _ (joined_good t (lead ++ again t.form thing.sort) Between t.begun tt (begun_good t h)) (p, h)

  inspects_good : (t : Draft) (lead : Text) (v : Value) → Good S P v → GoodDraft t → GoodNeeds (inspects S.program t lead v)
  inspects_good t lead (To thing) p h =
      needs_if (is_collection_sort thing.sort) _ _ (collection_good t lead thing p h) (joined_good t (lead ++ inspected S.program (To thing)) Between t.begun tt (begun_good t h))
  inspects_good t lead v p h = joined_good t (lead ++ inspected S.program v) Between t.begun tt (begun_good t h)

  lines_good : (t : Draft) (lead : Text) (v : Value) → Good S P v → GoodDraft t → GoodNeeds (lines S.program t lead v)
  lines_good t lead (To thing) p h = needs_if (is_list_sort thing.sort) _ _ (collection_good t lead thing p h) (p, h)
  lines_good t lead v p h = (p, h)

  coming_good : (form : Form) (coming : Coming) (bytes : Text) (begun : List Open) → GoodDraft (a_draft form coming bytes begun) → GoodNeeds (needs S.program (a_draft form coming bytes begun))
  coming_good form Between bytes begun h = between_good form bytes begun h
  coming_good Inspected (OfValue lead v) bytes begun h = inspects_good (a_draft Inspected (OfValue lead v) bytes begun) lead v h.0 h
  coming_good Lined (OfValue lead v) bytes begun h = lines_good (a_draft Lined (OfValue lead v) bytes begun) lead v h.0 h
  coming_good form (OfPair lead k v) bytes begun h =
      joined_good (a_draft form (OfPair lead k v) bytes begun) (lead ++ inspected S.program k ++ codes "=>") (OfValue [] v) begun (h.1.0, tt) h.1.1

  -- what a text needs next
  pub needs_good : (t : Draft) → GoodDraft t → GoodNeeds (needs S.program t)
  needs_good t h = coming_good t.form t.coming t.bytes t.begun h

  -- ---- what it is given

  pub array_opened : (form : Form) (t : Draft) (array : Reference) (vs : List Value) → P.Refers array → GoodAll S P vs → GoodDraft t → IfSome GoodDraft (opened_array form t array vs)
  array_opened Lined t array [] p a h = joined_good t (empty_lines t.begun) Between t.begun tt (begun_good t h)
  array_opened Lined t array (v ∷ vs) p a h = (p, (a.0, both (Good S P) vs (flat_map values_in_open t.begun) a.1 (begun_good t h)))
  array_opened Inspected t array vs p a h =
      joined_good t (lead_of t.coming ++ codes "[") Between (OfArray array [] vs ∷ t.begun) tt (p, both (Good S P) vs (flat_map values_in_open t.begun) a (begun_good t h))

  pub hash_opened : (t : Draft) (hash : Reference) (ps : List (Value × Value)) → P.Refers hash → GoodAll S P (values_in_pairs ps) → GoodDraft t
      → IfSome GoodDraft (joined t (lead_of t.coming ++ codes "{") Between (OfHash hash [] ps ∷ t.begun))
  hash_opened t hash ps p a h =
      joined_good t (lead_of t.coming ++ codes "{") Between (OfHash hash [] ps ∷ t.begun) tt (p, both (Good S P) (values_in_pairs ps) (flat_map values_in_open t.begun) a (begun_good t h))

  pub line_good : (t : Draft) (text : Text) → GoodDraft t → IfSome GoodDraft (with_line t text)
  line_good t text h = joined_good t (line_of text) Between t.begun tt (begun_good t h)
