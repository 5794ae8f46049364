-- What is found at serial numbers, and what is read of an object.
use Rattle.std.proofs.Common.{◌≡◌, ℕ, ◌<◌, zero, suc, List, [], ◌∷◌, map, length, get_or, Option, Some, None, true, refl, ap, sym, ◌∙◌}
use Rattle.std.specs.Prelude.{ℤ, slice_get, IfSome, FitsSigned}
use Rattle.std.specs.Int.{w64}
use Rattle.std.proofs.lemmas.Option.{slice_get_read}
use Rattle.rb_tree.specs.declared.span.NameId.{NameId}
use Rattle.rb_model.specs.declared.immediate.Immediate.{Immediate}
use Rattle.rb_model.specs.declared.immediate.Immediate.TheVariants as immediate
use Rattle.rb_model.specs.Values.{Value as Val, Nil, False, True, Int, Sym, Str, To, is_text}
use Rattle.rb_model.specs.Immediates.{told}
use Rattle.rb_model.specs.Private.{or_none}
use Rattle.rb_model.specs.Things.{field}
use Rattle.shape_core.specs.declared.edge.Kind.{Kind}
use Rattle.shape_core.specs.declared.edge.Kind.TheVariants.{IntLoc}
use Rattle.shape_core.specs.declared.facts.Place.{Place}
use Rattle.shape_core.specs.Path.{Path, IsPath, find_on}
use Rattle.shape_core.specs.Shape.{Shape}
use Rattle.typed_location.specs.declared.general_place.Any.{Any}
use Rattle.typed_location.specs.Word.{word_of, Fits, twos_complement}
use Rattle.local_heap.specs.declared.cells.Cell.{Cell}
use Rattle.local_heap.specs.Words.{any_of}
use Rattle.local_heap.specs.Slots.{Home, Standing}
use Rattle.local_heap.specs.Fields.{fields_of, value_by}
use Rattle.local_heap.specs.Cells.{class_in}
use Rattle.local_heap.proofs.Inverse.{any_of-word_of, integer_back}
use Rattle.local_heap.proofs.Objects.{read_slot}

pub class_found : (shapes : List Shape) (cells : List Cell) (n : ℕ) (c : Cell) → slice_get cells n ≡ Some c
    → or_none (slice_get (map (class_in shapes) cells) n) ≡ class_in shapes c
class_found shapes [] n c e = absurd (cc)
class_found shapes (x ∷ cells) zero c e = let same : x ≡ c = cc in ap (class_in shapes) same
class_found shapes (x ∷ cells) (suc n) c e = class_found shapes cells n c e

pub no_class : (shapes : List Shape) (cells : List Cell) (n : ℕ) → slice_get cells n ≡ None → or_none (slice_get (map (class_in shapes) cells) n) ≡ None
no_class shapes [] n e = refl
no_class shapes (x ∷ cells) zero e = absurd (cc)
no_class shapes (x ∷ cells) (suc n) e = no_class shapes cells n e

-- what a word was made of
word_read : (it : Any) (word : ℕ) → Fits it → word_of it ≡ word → it ≡ any_of word
word_read it word fits e = sym (any_of-word_of it fits) ∙ ap any_of e

pub any_read : (r : Option Any) (it : Any) (word : ℕ) → r ≡ Some it → IfSome r (λ v. Fits v × (word_of v ≡ word)) → it ≡ any_of word
any_read None it word e found = absurd (cc)
any_read (Some v) it word e found =
    let same : v ≡ it = cc in
    sym same ∙ word_read v word found.0 found.1

-- a cell that was looked up in a slice
pub cell_found : (cells seen : List Cell) (n : ℕ) (c : Cell) → seen ≡ cells → n < length seen → c ≡ get_or seen n c → slice_get cells n ≡ Some c
cell_found cells seen n c same within read =
    ap (λ (xs : List Cell). slice_get xs n) (sym same) ∙ slice_get_read seen (length seen) n c refl within read

-- a text is no immediate value
pub text_untold : (v : Val) → is_text v ≡ true → told v ≡ immediate.Other
text_untold Nil e = absurd (cc)
text_untold False e = absurd (cc)
text_untold True e = absurd (cc)
text_untold (Int n) e = absurd (cc)
text_untold (Sym name) e = refl
text_untold (Str bytes) e = refl
text_untold (To thing) e = refl

-- what is told of the place of a name is told of its field
pub place_told : (home : Home) (path : Path) (slots : ℕ → Standing) (name : NameId) (place : Place) (kind : Kind) → IsPath path
    → find_on path name ≡ Some (place, kind) → (it : Immediate)
    → it ≡ told (value_by home kind (slots place.0)) → it ≡ told (field name (fields_of home path slots))
place_told home path slots name place kind valid there it is_told =
    is_told ∙ ap told (sym (read_slot home path slots name place kind valid there))

-- the same of an integer and its word, where the place holds integers alone
pub integer_told : (home : Home) (path : Path) (slots : ℕ → Standing) (name : NameId) (place : Place) → IsPath path
    → find_on path name ≡ Some (place, IntLoc) → (n : ℤ) → FitsSigned w64 n → twos_complement 64 n ≡ (slots place.0).word
    → immediate.Int n ≡ told (field name (fields_of home path slots))
integer_told home path slots name place valid there n fits word =
    place_told home path slots name place IntLoc valid there (immediate.Int n)
    (ap immediate.Int (sym (integer_back n (slots place.0).word fits word)))
