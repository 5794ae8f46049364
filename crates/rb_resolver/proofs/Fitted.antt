-- Where code is right, by its parts.
use Rattle.std.proofs.Common.{◌≡◌, ℕ, ◌+◌, ◌<◌, ◌≤◌, Bool, true, List, [], ◌∷◌, ◌++◌, length, map, take, get_or, Option, refl, sym, ap, ◌∙◌, eq-eqb, arith}
use Rattle.std.specs.Prelude.{nat_le}
use Rattle.std.specs.List.{list_all}
use Rattle.std.specs.Option.{option_map}
use Rattle.std.proofs.lemmas.Bool.Decides.{nat_tests}
use Rattle.std.proofs.lemmas.List.{append_assoc, take_more, take_at, map-append, length-map, get_or-map}
use Rattle.rb_tree.specs.declared.span.Span.{Span}
use Rattle.rb_tree.specs.declared.span.NameId.{NameId}
use Rattle.rb_tree.specs.declared.node.AssignOp.{AssignOp}
use Rattle.rb_tree.specs.declared.node.Block.{Block}
use Rattle.rb_tree.specs.declared.node.Class.{Class}
use Rattle.rb_tree.specs.declared.node.Method.{Method}
use Rattle.rb_tree.specs.declared.node.Node.{Node}
use Rattle.rb_tree.specs.declared.node.Param.{Param}
use Rattle.rb_machine.specs.Scopes.{Script}
use Rattle.rb_code.specs.declared.code.Code.{Code}
use Rattle.rb_code.specs.declared.code.Code.TheVariants as is
use Rattle.rb_code.specs.declared.code.CodePiece.{CodePiece}
use Rattle.rb_code.specs.declared.code.CodeBlock.{CodeBlock}
use Rattle.rb_code.specs.Erase.{erase, erase_block, paired}
use Rattle.rb_code.specs.Layout.{has_slot}
use Rattle.rb_code.specs.Resolved.{Fits, every, if_some, is_even, fits, piece_fits, block_fits}
use Rattle.rb_code.proofs.Fitting.{fits-str, fits-array, fits-hash, fits-local, fits-set_local, fits-update_local, fits-update_element, fits-and, fits-or, fits-not, fits-if, fits-while, fits-return, block_fits-parts}
use Rattle.rb_code.proofs.Dispatched.{conjunction, conjunction_rest}
use Rattle.rb_code.proofs.Erasing.{erase_block-parts}
use Rattle.rb_resolver.proofs.Numbered.{both}

-- what is right for names is right for the same names
pub at_names : (f : Fits) (old new : List NameId) (size : ℕ) → new ≡ old → f new size ≡ true → f old size ≡ true
at_names f old new size e h = ap (λ ns. f ns size) (sym e) ∙ h

-- as many keys as values, whatever is made of them
even-map : {A B : Type 0} (f : A → B) (xs : List A) → is_even (map f xs) ≡ is_even xs
even-map f [] = refl
even-map f (x ∷ []) = refl
even-map f (x ∷ y ∷ xs) = even-map f xs

module _ (S : Script) (names : List NameId) (size : ℕ) where
  pub str_fits : (pieces : List CodePiece) (at : Span) → every (map (piece_fits S) pieces) names size ≡ true → fits S (is.Str pieces at) names size ≡ true
  str_fits pieces at p = fits-str S names size pieces at ∙ p

  pub array_fits : (items : List Code) (at : Span) → every (map (fits S) items) names size ≡ true → fits S (is.Array items at) names size ≡ true
  array_fits items at i = fits-array S names size items at ∙ i

  pub hash_fits : (items : List Code) (at : Span) → is_even items ≡ true → every (map (fits S) items) names size ≡ true → fits S (is.Hash items at) names size ≡ true
  hash_fits items at even i = fits-hash S names size items at ∙ both _ _ (even-map (fits S) items ∙ even) i

  pub local_fits : (slot : ℕ) (name : NameId) (at : Span) → has_slot name names slot ≡ true → fits S (is.Local slot name at) names size ≡ true
  local_fits slot name at h = fits-local S names size slot name at ∙ h

  pub set_local_fits : (slot : ℕ) (name : NameId) (value : Code) (at : Span) → has_slot name names slot ≡ true → fits S value names size ≡ true → fits S (is.SetLocal slot name value at) names size ≡ true
  set_local_fits slot name value at h v = fits-set_local S names size slot name value at ∙ both _ _ h v

  pub update_local_fits : (slot : ℕ) (name : NameId) (op : AssignOp) (value : Code) (at : Span) → has_slot name names slot ≡ true → fits S value names size ≡ true
      → fits S (is.UpdateLocal slot name op value at) names size ≡ true
  update_local_fits slot name op value at h v = fits-update_local S names size slot name op value at ∙ both _ _ h v

  pub update_element_fits : (receiver index : Code) (op : AssignOp) (value : Code) (at : Span) → fits S receiver names size ≡ true → fits S index names size ≡ true → fits S value names size ≡ true
      → fits S (is.UpdateElement receiver index op value at) names size ≡ true
  update_element_fits receiver index op value at r i v = fits-update_element S names size receiver index op value at ∙ both _ _ r (both _ _ i v)

  pub and_fits : (left right : Code) (at : Span) → fits S left names size ≡ true → fits S right names size ≡ true → fits S (is.And left right at) names size ≡ true
  and_fits left right at l r = fits-and S names size left right at ∙ both _ _ l r

  pub or_fits : (left right : Code) (at : Span) → fits S left names size ≡ true → fits S right names size ≡ true → fits S (is.Or left right at) names size ≡ true
  or_fits left right at l r = fits-or S names size left right at ∙ both _ _ l r

  pub not_fits : (value : Code) (at : Span) → fits S value names size ≡ true → fits S (is.Not value at) names size ≡ true
  not_fits value at v = fits-not S names size value at ∙ v

  pub if_fits : (condition : Code) (first second : List Code) (at : Span) → fits S condition names size ≡ true → every (map (fits S) first) names size ≡ true → every (map (fits S) second) names size ≡ true
      → fits S (is.If condition first second at) names size ≡ true
  if_fits condition first second at c f s = fits-if S names size condition first second at ∙ both _ _ c (both _ _ f s)

  pub while_fits : (condition : Code) (body : List Code) (at : Span) → fits S condition names size ≡ true → every (map (fits S) body) names size ≡ true → fits S (is.While condition body at) names size ≡ true
  while_fits condition body at c b = fits-while S names size condition body at ∙ both _ _ c b

  pub return_fits : (value : Option Code) (at : Span) → if_some (option_map (fits S) value) names size ≡ true → fits S (is.Return value at) names size ≡ true
  return_fits value at v = fits-return S names size value at ∙ v

pub within : (m n : ℕ) → m ≤ n → nat_le m n ≡ true
within m n h = grind (arith, nat_tests, h)

pub block_is_right : (S : Script) (names : List NameId) (size : ℕ) (b : CodeBlock) → b.from ≡ length names → b.count ≡ length (S.block_names b.at) → length names + length (S.block_names b.at) ≤ size
    → every (map (fits S) b.body) (names ++ S.block_names b.at) size ≡ true → block_fits S b names size ≡ true
block_is_right S names size b from count room body =
    block_fits-parts S names size b ∙ both _ _ (eq-eqb b.from (length names) from) (both _ _ (eq-eqb b.count (length (S.block_names b.at)) count) (both _ _ (within (length names + length (S.block_names b.at)) size room) body))

-- lists with one more element
module _ {A B : Type 0} where
  pub map_pushed : (f : A → B) (xs new : List A) (x : A) (ys : List B) (y : B) (i : ℕ) → new ≡ xs ++ x ∷ [] → map f xs ≡ take i ys → f x ≡ y → i < length ys → y ≡ get_or ys i y → map f new ≡ take (i + 1) ys
  map_pushed f xs new x ys y i is old e h at =
      ap (map f) is ∙ map-append f xs (x ∷ []) ∙ ap (λ zs. zs ++ f x ∷ []) old ∙ ap (λ z. take i ys ++ z ∷ []) (e ∙ at) ∙ sym (take_more ys i y h)

  -- and what is made of their elements
  pub map_next : (f : B → A) (xs new : List A) (x : A) (ys : List B) (y : B) (i : ℕ) → new ≡ xs ++ x ∷ [] → xs ≡ map f (take i ys) → x ≡ f y → i < length ys → y ≡ get_or ys i y → new ≡ map f (take (i + 1) ys)
  map_next f xs new x ys y i is old e h at =
      is ∙ ap (λ zs. zs ++ x ∷ []) old ∙ ap (λ z. map f (take i ys) ++ z ∷ []) (e ∙ ap f at) ∙ sym (map-append f (take i ys) (get_or ys i y ∷ [])) ∙ sym (ap (map f) (take_more ys i y h))

-- one more pair behind keys and values by turns
module _ {A : Type 0} where
  pub even_more : (xs : List A) (x y : A) → is_even xs ≡ true → is_even (xs ++ x ∷ y ∷ []) ≡ true
  even_more [] x y h = refl
  even_more (z ∷ []) x y h = absurd (cc)
  even_more (z ∷ w ∷ xs) x y h = even_more xs x y h

  paired_more : (xs : List A) (x y : A) → is_even xs ≡ true → paired (xs ++ x ∷ y ∷ []) ≡ paired xs ++ (x, y) ∷ []
  paired_more [] x y h = refl
  paired_more (z ∷ []) x y h = absurd (cc)
  paired_more (z ∷ w ∷ xs) x y h = ap (λ ps. (z, w) ∷ ps) (paired_more xs x y h)

  -- two elements that are added one behind the other
  pub pushed_twice : (xs between new : List A) (x y : A) → between ≡ xs ++ x ∷ [] → new ≡ between ++ y ∷ [] → new ≡ xs ++ x ∷ y ∷ []
  pushed_twice xs between new x y first second = second ∙ ap (λ zs. zs ++ y ∷ []) first ∙ append_assoc xs (x ∷ []) (y ∷ [])

pub paired_pushed : {A B : Type 0} (f : A → B) (xs new : List A) (x y : A) (ps : List (B × B)) (p : B × B) (i : ℕ) → new ≡ xs ++ x ∷ y ∷ [] → is_even xs ≡ true → paired (map f xs) ≡ take i ps
    → f x ≡ p.0 → f y ≡ p.1 → i < length ps → p ≡ get_or ps i p → paired (map f new) ≡ take (i + 1) ps
paired_pushed f xs new x y ps p i is even old e g h at =
    ap (λ zs. paired (map f zs)) is ∙ ap paired (map-append f xs (x ∷ y ∷ [])) ∙ paired_more (map f xs) (f x) (f y) (even-map f xs ∙ even)
    ∙ ap (λ qs. qs ++ (f x, f y) ∷ []) old ∙ ap (λ q. take i ps ++ q ∷ []) (ap (λ a. (a, f y)) e ∙ ap (λ b. (p.0, b)) g ∙ at) ∙ sym (take_more ps i p h)

pub every_pushed : {A : Type 0} (f : A → Fits) (xs new : List A) (x : A) (names : List NameId) (size : ℕ) → new ≡ xs ++ x ∷ [] → every (map f xs) names size ≡ true → f x names size ≡ true → every (map f new) names size ≡ true
every_pushed {A = A} f xs new x names size is old h = ap (λ zs. every (map f zs) names size) is ∙ more xs old
  where
    more : (xs : List A) → every (map f xs) names size ≡ true → every (map f (xs ++ x ∷ [])) names size ≡ true
    more [] old = both _ _ h refl
    more (y ∷ ys) old = both _ _ (conjunction _ _ old) (more ys (conjunction_rest _ _ old))

pub block_of : (b : CodeBlock) (source : Block) → b.params ≡ source.params → map erase b.body ≡ source.body → b.at ≡ source.at → erase_block b ≡ source
block_of b source params body at =
    let with_params : List Param → Block = λ ps. record { params = ps; body = map erase b.body; at = b.at } in
    let with_body : List Node → Block = λ ns. record { params = source.params; body = ns; at = b.at } in
    let with_place : Span → Block = λ p. record { params = source.params; body = source.body; at = p } in
    erase_block-parts b ∙ ap with_params params ∙ ap with_body body ∙ ap with_place at

-- the names in scope, once those of a block are taken off
pub names_left : (old own inside new : List NameId) (from : ℕ) → from ≡ length old → inside ≡ old ++ own → new ≡ take from inside → new ≡ old
names_left old own inside new from is all n = n ∙ ap (take from) all ∙ take_at old own from (sym is)

pub all_pushed : {A : Type 0} (p : A → Bool) (xs new : List A) (x : A) → new ≡ xs ++ x ∷ [] → list_all p xs ≡ true → p x ≡ true → list_all p new ≡ true
all_pushed {A = A} p xs new x is old h = ap (list_all p) is ∙ more xs old
  where
    more : (xs : List A) → list_all p xs ≡ true → list_all p (xs ++ x ∷ []) ≡ true
    more [] old = both _ _ h refl
    more (y ∷ ys) old = both _ _ (conjunction _ _ old) (more ys (conjunction_rest _ _ old))

-- the names of methods of classes, as many as there are methods
pub names_of_each : (f : Method → List NameId) (ks : List Class) → map length (map (λ (k : Class). map f k.methods) ks) ≡ map (λ (k : Class). length k.methods) ks
names_of_each f [] = refl
names_of_each f (k ∷ ks) = ap (λ n. n ∷ map length (map (λ (k : Class). map f k.methods) ks)) (length-map k.methods f) ∙ ap (λ ns. length k.methods ∷ ns) (names_of_each f ks)

module _ (own : List (List (List NameId))) (ks : List Class) (same : map length own ≡ map (λ (k : Class). length k.methods) ks) where
  pub as_many : length own ≡ length ks
  as_many = sym (length-map own length) ∙ ap length same ∙ length-map ks (λ (k : Class). length k.methods)

  pub as_many_at : (i : ℕ) (o : List (List NameId)) (k : Class) → i < length ks → o ≡ get_or own i o → k ≡ get_or ks i k → length o ≡ length k.methods
  as_many_at i o k h there is =
      ap length there ∙ sym (get_or-map length own i o 0 (omega (arith, h, as_many))) ∙ ap (λ ns. get_or ns i 0) same ∙ get_or-map (λ (k : Class). length k.methods) ks i k 0 h
      ∙ ap (λ (k : Class). length k.methods) (sym is)
