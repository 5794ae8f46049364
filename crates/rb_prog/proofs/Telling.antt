-- Lines handed to a sink.
use Rattle.std.proofs.Common.{◌≡◌, ℕ, ◌+◌, ◌<◌, ◌≤◌, List, [], ◌∷◌, ◌++◌, length, take, drop, map, get_or, Option, refl, sym, ap, ◌∙◌, subst, inl, inr, arith, length-append, append_assoc, Bor}
use Rattle.std.specs.Prelude.{not, ◌==◌}
use Rattle.std.specs.List.{concat, count_by, suffix_len}
use Rattle.std.proofs.lemmas.List.{append-nil, drop_more, take_all, take-append-drop, take-append-le, map_more, map-append}
use Rattle.std.proofs.Math.Seq.{take-append-add}
use Rattle.rb_tree.specs.Place.{line_of, column_of}
use Rattle.rb_edge.specs.Edge.{Rose, Adds, Told}
use Rattle.rb_prog.proofs.Adding.{adds_then}

-- a byte behind the end is told as the end
pub take_past : (source : List ℕ) (at size : ℕ) → size ≡ length source → size < at → take size source ≡ take at source
take_past source at size e h = take_all size source (omega (arith, e)) ∙ sym (take_all at source (omega (arith, e)))

pub line_past : (source : List ℕ) (at size : ℕ) → size ≡ length source → size < at → line_of source size ≡ line_of source at
line_past source at size e h = ap (λ front. 1 + count_by (λ b. b == 10) front) (take_past source at size e h)

pub column_past : (source : List ℕ) (at size : ℕ) → size ≡ length source → size < at → column_of source size ≡ column_of source at
column_past source at size e h = ap (λ front. 1 + suffix_len (λ b. not (b == 10)) front) (take_past source at size e h)

pub concat-append : (xs ys : List (List ℕ)) → concat (xs ++ ys) ≡ concat xs ++ concat ys
concat-append [] ys = refl
concat-append (x ∷ xs) ys = ap (λ zs. x ++ zs) (concat-append xs ys) ∙ sym (append_assoc x (concat xs) (concat ys))

-- a count that rose since, rose since before
pub rose_earlier : (a b c : ℕ) → a ≤ b → Rose b c → Rose a c
rose_earlier a b c h (inl l) = inl (omega (arith, h, l))
rose_earlier a b c h (inr e) = inr e

-- a line was cut in a piece of it
pub told_cut : (a b c : Option (List ℕ)) (front piece rest whole : List ℕ) (n : ℕ) (rose : Type 0) → whole ≡ front ++ (piece ++ rest) → Adds a b front
    → rose → n < length piece → Adds b c (take n piece) → Told a c whole rose
told_cut a b c front piece rest whole n rose e h r lt k =
    let size : length whole ≡ length front + (length piece + length rest) = ap length e ∙ length-append front (piece ++ rest) ∙ ap (λ m. length front + m) (length-append piece rest) in
    let inside : n ≤ length piece = omega (arith, lt) in
    let cut : front ++ take n piece ≡ take (length front + n) whole
    = sym (ap (take (length front + n)) e ∙ take-append-add front (piece ++ rest) n ∙ ap (λ t. front ++ t) (take-append-le n piece rest inside)) in
    inr (r, length front + n, omega (arith, size, lt), subst (λ t. Adds a c t) cut (adds_then a b c front (take n piece) h k))

-- a line of one piece was cut
pub told_cut_alone : (a b : Option (List ℕ)) (line : List ℕ) (rose : Type 0) → rose → ((n : ℕ) × (n < length line) × Adds a b (take n line)) → Told a b line rose
told_cut_alone a b line rose r f = inr (r, f.0, f.1, f.2)

-- a piece without a byte
abbrev pub empty : Bor (List ℕ)
empty = record { ref_ptr = (0, 0); now = [] }

abbrev pub joined : List (Bor (List ℕ)) → List ℕ
joined pieces = concat (map (λ (piece : Bor (List ℕ)). piece.now) pieces)

module _ (pieces : List (Bor (List ℕ))) (i : ℕ) (d piece : Bor (List ℕ)) (h : i < length pieces) (is : piece ≡ get_or pieces i d) where
  -- one more piece
  pub joined_more : joined (take (i + 1) pieces) ≡ joined (take i pieces) ++ piece.now
  joined_more =
      ap concat (map_more (λ (p : Bor (List ℕ)). p.now) pieces i d h ∙ ap (λ (p : Bor (List ℕ)). map (λ (q : Bor (List ℕ)). q.now) (take i pieces) ++ p.now ∷ []) (sym is))
      ∙ concat-append (map (λ (p : Bor (List ℕ)). p.now) (take i pieces)) (piece.now ∷ [])
      ∙ ap (λ t. joined (take i pieces) ++ t) (append-nil piece.now)

  pub adds_piece : (a b c : Option (List ℕ)) → Adds a b (joined (take i pieces)) → Adds b c piece.now → Adds a c (joined (take (i + 1) pieces))
  adds_piece a b c before now = subst (λ t. Adds a c t) (sym joined_more) (adds_then a b c (joined (take i pieces)) piece.now before now)

  rest_from : drop i pieces ≡ piece ∷ drop (i + 1) pieces
  rest_from = drop_more pieces i d h ∙ ap (λ (p : Bor (List ℕ)). p ∷ drop (i + 1) pieces) (sym is)

  joined_split : joined pieces ≡ joined (take i pieces) ++ (piece.now ++ joined (drop (i + 1) pieces))
  joined_split =
      ap joined (sym (take-append-drop i pieces) ∙ ap (λ ps. take i pieces ++ ps) rest_from)
      ∙ ap concat (map-append (λ (p : Bor (List ℕ)). p.now) (take i pieces) (piece ∷ drop (i + 1) pieces))
      ∙ concat-append (map (λ (p : Bor (List ℕ)). p.now) (take i pieces)) (map (λ (p : Bor (List ℕ)). p.now) (piece ∷ drop (i + 1) pieces))

  -- the line is cut in this piece
  pub told_piece : (a b c : Option (List ℕ)) (rose : Type 0) → Adds a b (joined (take i pieces)) → rose → ((n : ℕ) × (n < length piece.now) × Adds b c (take n piece.now)) → Told a c (joined pieces) rose
  told_piece a b c rose before r f = told_cut a b c (joined (take i pieces)) piece.now (joined (drop (i + 1) pieces)) (joined pieces) f.0 rose joined_split before r f.1 f.2

pub told_all : (pieces : List (Bor (List ℕ))) (i : ℕ) (a b : Option (List ℕ)) (rose : Type 0) → length pieces ≤ i → Adds a b (joined (take i pieces)) → Told a b (joined pieces) rose
told_all pieces i a b rose h t = inl (subst (λ ps. Adds a b (joined ps)) (take_all i pieces h) t)
