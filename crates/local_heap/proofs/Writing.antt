-- An object before and behind the write of a value to a field.
use Rattle.std.proofs.Common.{◌≡◌, ℕ, suc, ◌<◌, ◌==◌, Bool, true, false, cond, List, [], ◌∷◌, ◌++◌, map, length, set, Some, None, inl, inr, refl, ap, sym, ◌∙◌, subst, arith, length-append, length-set}
use Rattle.std.specs.Prelude.{ℤ, FitsSigned, not}
use Rattle.std.specs.Int.{w64, cast_signed, cast_unsigned}
use Rattle.std.proofs.lemmas.Bool.Decides.{eqb_tells}
use Rattle.rb_tree.specs.declared.span.NameId.{NameId}
use Rattle.rb_model.specs.Values.{Value as Val, Int, plain}
use Rattle.rb_model.specs.Things.{is_integer}
use Rattle.rb_model.specs.Paths.{path_behind}
use Rattle.shape_core.specs.declared.edge.Kind.{Kind}
use Rattle.shape_core.specs.declared.edge.Kind.TheVariants.{IntLoc, AnyLoc}
use Rattle.shape_core.specs.declared.edge.Edge.{Edge}
use Rattle.shape_core.specs.declared.edge.Edge.TheVariants.{Add, Widen}
use Rattle.shape_core.specs.declared.facts.Place.{Place}
use Rattle.shape_core.specs.declared.facts.ShapeId.{ShapeId}
use Rattle.shape_core.specs.Path.{Path, IsPath, MayFollow, find_on, places_of}
use Rattle.shape_core.specs.Shape.{Shape, Gains, Has, child_of, path_at, shape_at}
use Rattle.shape_core.proofs.Places.{below}
use Rattle.typed_location.specs.Word.{twos_complement}
use Rattle.local_heap.specs.declared.object.Object.{Object}
use Rattle.local_heap.specs.declared.slot.Whose.{Whose}
use Rattle.local_heap.specs.Slots.{Home, Standing, IsFor, IsOwnBy, IsWord, Puts, slot_at, whole_at}
use Rattle.local_heap.specs.Fields.{Wrote, value_by}
use Rattle.local_heap.specs.Cells.{IsObject, IsSound, Written, shape_in}
use Rattle.local_heap.proofs.Laid.{adds, widens, puts}
use Rattle.local_heap.proofs.Inverse.{integer_word}
use Rattle.local_heap.proofs.Behind.{behind_new_integer, behind_new, behind_integer, behind_widened, behind_any}
use Rattle.local_heap.proofs.Objects.{stands_in, grown_older, grown_newest, put_others, put_here}

-- what stands for a value in each heap whose thing it is
abbrev pub StandsFor : Whose → Val → Standing → Type 0
StandsFor whose v slot = (home : Home) → IsOwnBy home whose v → IsFor home v slot

-- ---- one more place

module _ (shapes : List Shape) (o : Object) (shapes' : List Shape) (o' : Object) (edge : Edge) (word : ℕ) (whole : Val)
    (object : IsObject shapes o) (allowed : MayFollow (path_at shapes o.shape) edge)
    (one_more : places_of (edge ∷ path_at shapes o.shape) ≡ suc (places_of (path_at shapes o.shape)))
    (has : Has shapes' o'.shape (child_of (shape_at shapes o.shape) edge)) (gains : Gains shapes (child_of (shape_at shapes o.shape) edge) shapes')
    (words : o'.words.items ≡ o.words.items ++ word ∷ [])
    (row : Puts (map plain o.whole.items) (length o.words.items) whole (map plain o'.whole.items)) where
  abbrev before : Path
  before = path_at shapes o.shape

  path_is : path_at shapes' o'.shape ≡ edge ∷ before
  path_is = ap (λ (s : Shape). s.path) has.1

  grown_object : IsObject shapes' o'
  grown_object = record {
    known = has.0;
    valid = subst IsPath (sym path_is) (allowed, object.valid);
    long = omega (arith, ap length words, length-append o.words.items (word ∷ []), object.long, one_more, ap places_of path_is);
  }

  stays : (p : ℕ) → p < places_of before → slot_at o' p ≡ slot_at o p
  stays p h = grown_older o o' word whole words row p (omega (arith, h, object.long))

  newest : slot_at o' (places_of before) ≡ record { word = word; whole = whole }
  newest = ap (slot_at o') (sym object.long) ∙ grown_newest o o' word whole words row

  grown : (name : NameId) (v : Val) (whose : Whose) → path_behind before name v ≡ edge ∷ before
      → ((home : Home) → IsSound shapes home o → IsOwnBy home whose v → Wrote home before (slot_at o) name v (edge ∷ before) (slot_at o'))
      → Written shapes o name v whose shapes' o'
  grown name v whose behind wrote =
      let with_path : Path → Shape = λ path. record { class = (shape_in shapes o).class; path = path } in
      record {
        object = grown_object;
        shape = has.1 ∙ ap with_path (sym behind);
        gains = subst (λ (s : Shape). Gains shapes s shapes') (sym has.1) gains;
        wrote = λ home sound own. subst (λ (path : Path). Wrote home before (slot_at o) name v path (slot_at o')) (sym path_is) (wrote home sound own);
      }

  means_newest : (v : Val) (home : Home) → IsFor home v (record { word = word; whole = whole }) → value_by home AnyLoc (slot_at o' (places_of before)) ≡ v
  means_newest v home for_it = ap (value_by home AnyLoc) newest ∙ for_it.means

  word_newest : (v : Val) (home : Home) → IsFor home v (record { word = word; whole = whole }) → IsWord home (slot_at o' (places_of before))
  word_newest v home for_it = subst (IsWord home) (sym newest) for_it.word

  -- an integer under a new name
  pub integer_added : (name : NameId) (v : Val) (n : ℤ) (whose : Whose) → edge ≡ Add name IntLoc → find_on before name ≡ None → v ≡ Int n → FitsSigned w64 n
      → word ≡ twos_complement 64 (cast_signed w64 (cast_unsigned w64 n)) → Written shapes o name v whose shapes' o'
  integer_added name v n whose e none is fits made =
      subst (λ (x : Val). Written shapes o name x whose shapes' o') (sym is)
      (grown name (Int n) whose (behind_new_integer before name n none ∙ ap (λ x. x ∷ before) (sym e))
      (λ home sound own. subst (λ (x : Edge). Wrote home before (slot_at o) name (Int n) (x ∷ before) (slot_at o')) (sym e)
      (adds home before (slot_at o) (slot_at o') object.valid sound stays name IntLoc (Int n) none
      (ap (value_by home IntLoc) newest ∙ ap Int (integer_word n word fits made)) refl (λ t. absurd (cc)))))

  -- another value under a new name
  pub any_added : (name : NameId) (v : Val) (whose : Whose) → edge ≡ Add name AnyLoc → find_on before name ≡ None → is_integer v ≡ false
      → StandsFor whose v (record { word = word; whole = whole }) → Written shapes o name v whose shapes' o'
  any_added name v whose e none other stands =
      grown name v whose (behind_new before name v none other ∙ ap (λ x. x ∷ before) (sym e))
      (λ home sound own. subst (λ (x : Edge). Wrote home before (slot_at o) name v (x ∷ before) (slot_at o')) (sym e)
      (adds home before (slot_at o) (slot_at o') object.valid sound stays name AnyLoc v none
      (means_newest v home (stands home own)) (sym (ap not other)) (λ t. word_newest v home (stands home own))))

  -- a value that widens its name
  pub any_widened : (name : NameId) (place : Place) (v : Val) (whose : Whose) → edge ≡ Widen name → find_on before name ≡ Some (place, IntLoc) → is_integer v ≡ false
      → StandsFor whose v (record { word = word; whole = whole }) → Written shapes o name v whose shapes' o'
  any_widened name place v whose e there other stands =
      grown name v whose (behind_widened before name v place there other ∙ ap (λ x. x ∷ before) (sym e))
      (λ home sound own. subst (λ (x : Edge). Wrote home before (slot_at o) name v (x ∷ before) (slot_at o')) (sym e)
      (widens home before (slot_at o) (slot_at o') object.valid sound stays name place v there
      (means_newest v home (stands home own)) other (word_newest v home (stands home own))))

-- ---- the place of a name

-- a row keeps what it has at a place
pub puts_itself : (row : List Val) (place : ℕ) → Puts row place (whole_at row place) row
puts_itself row place p = by (p == place) (λ e. eqb_true_is p place e)
  where
    eqb_true_is : (p place : ℕ) → (p == place) ≡ true → p ≡ place
    eqb_true_is p place e = elim (eqb_tells p place) [ inl w ↦ w.1 | inr w ↦ absurd (let no : (p == place) ≡ false = w.0 in cc) ]

    by : (b : Bool) → (b ≡ true → p ≡ place) → whole_at row p ≡ cond b (whole_at row place) (whole_at row p)
    by true same = ap (whole_at row) (same refl)
    by false same = refl

module _ (shapes : List Shape) (o o' : Object) (name : NameId) (place : Place) (kind : Kind) (word : ℕ) (whole : Val)
    (object : IsObject shapes o) (there : find_on (path_at shapes o.shape) name ≡ Some (place, kind)) (same : o'.shape ≡ o.shape)
    (words : o'.words.items ≡ set o.words.items place.0 word) (row : Puts (map plain o.whole.items) place.0 whole (map plain o'.whole.items)) where
  abbrev here : Path
  here = path_at shapes o.shape

  within : place.0 < length o.words.items
  within = omega (arith, below here name place kind there, object.long)

  put_object : IsObject shapes o'
  put_object = record {
    known = subst (λ (id : ShapeId). id.0 < length shapes) (sym same) object.known;
    valid = subst (λ (id : ShapeId). IsPath (path_at shapes id)) (sym same) object.valid;
    long = ap length words ∙ length-set o.words.items place.0 word ∙ object.long ∙ ap (λ (id : ShapeId). places_of (path_at shapes id)) (sym same);
  }

  put : (v : Val) (whose : Whose) → path_behind here name v ≡ here
      → ((home : Home) → IsSound shapes home o → IsOwnBy home whose v → Wrote home here (slot_at o) name v here (slot_at o'))
      → Written shapes o name v whose shapes o'
  put v whose behind wrote =
      let with_path : Path → Shape = λ path. record { class = (shape_in shapes o).class; path = path } in
      record {
        object = put_object;
        shape = ap (shape_at shapes) same ∙ ap with_path (sym behind);
        gains = subst (λ (id : ShapeId). Gains shapes (shape_at shapes id) shapes) (sym same) (inl (stands_in shapes o.shape object.known, refl));
        wrote = λ home sound own. subst (λ (id : ShapeId). Wrote home here (slot_at o) name v (path_at shapes id) (slot_at o')) (sym same) (wrote home sound own);
      }

  stands_here : slot_at o' place.0 ≡ record { word = word; whole = whole }
  stands_here = put_here o o' word whole place.0 words row within

  -- an integer at a place for integers
  pub integer_put : (v : Val) (n : ℤ) (whose : Whose) → kind ≡ IntLoc → v ≡ Int n → FitsSigned w64 n
      → word ≡ twos_complement 64 (cast_signed w64 (cast_unsigned w64 n)) → Written shapes o name v whose shapes o'
  integer_put v n whose k is fits made =
      let found : find_on here name ≡ Some (place, IntLoc) = there ∙ ap (λ x. Some (place, x)) k in
      subst (λ (x : Val). Written shapes o name x whose shapes o') (sym is)
      (put (Int n) whose (behind_integer here name n place found)
      (λ home sound own. puts home here (slot_at o) (slot_at o') object.valid sound name place IntLoc found (put_others o o' word whole place.0 words row) (Int n)
      (ap (value_by home IntLoc) stands_here ∙ ap Int (integer_word n word fits made)) refl (λ t. absurd (cc))))

  -- a value at a place for any
  pub any_put : (v : Val) (whose : Whose) → kind ≡ AnyLoc → StandsFor whose v (record { word = word; whole = whole }) → Written shapes o name v whose shapes o'
  any_put v whose k stands =
      let found : find_on here name ≡ Some (place, AnyLoc) = there ∙ ap (λ x. Some (place, x)) k in
      put v whose (behind_any here name v place found)
      (λ home sound own. puts home here (slot_at o) (slot_at o') object.valid sound name place AnyLoc found (put_others o o' word whole place.0 words row) v
      (ap (value_by home AnyLoc) stands_here ∙ (stands home own).means) refl (λ t. subst (IsWord home) (sym stands_here) (stands home own).word))
