-- Reading and writing in turns.
use Rattle.std.proofs.Common.{◌≡◌, ℕ, ◌+◌, ◌-◌, ◌<◌, ◌≤◌, List, [], ◌++◌, length, take, drop, Option, Some, None, sym, ap, ◌∙◌, subst, arith, append_assoc, length-drop}
use Rattle.std.proofs.Math.Seq.{take-add}
use Rattle.std.proofs.lemmas.List.{take-append-le, take_all, length-take}
use Rattle.rb_edge.specs.declared.traits.Read.TheVariants.{Got, End}
use Rattle.rb_edge.specs.Edge.{Held, Untold, Nothing, Bytes, Reads, Adds}
use Rattle.rb_edge.specs.Transfer.{ReadOf}

-- these bytes were taken so far of what is held
abbrev pub TakenOf : Held → List ℕ → Type 0
TakenOf Untold bytes = Unit {0}
TakenOf Nothing bytes = bytes ≡ []
TakenOf (Bytes held) bytes = (length bytes ≤ length held) × (bytes ≡ take (length bytes) held)

-- what a read got fits the room
pub Reads-fits : (h : Held) (at size n : ℕ) (room : List ℕ) → Reads h at size room (Got n) → n ≤ size
Reads-fits Untold at size n room got = got
Reads-fits Nothing at size n room got = absurd got
Reads-fits (Bytes held) at size n room got = got.0

-- a turn that read on from what was taken takes more of the same; `rest` is what stands behind the part of the room that was offered
pub TakenOf-more : (h : Held) (bytes new room rest : List ℕ) (at size n : ℕ) → TakenOf h bytes → at ≡ length bytes → size ≡ length room → Reads h at size room (Got n) → new ≡ bytes ++ take n (room ++ rest) → TakenOf h new
TakenOf-more Untold bytes new room rest at size n taken place whole got made = tt
TakenOf-more Nothing bytes new room rest at size n taken place whole got made = absurd got
TakenOf-more (Bytes held) bytes new room rest at size n taken place whole got made =
    let in_room : n ≤ length room = omega (arith, got.0) in
    let piece : take n (room ++ rest) ≡ take n (drop (length bytes) held) = take-append-le n room rest in_room ∙ (got.2 ∙ ap (λ i. take n (drop i held)) place) in
    let front : new ≡ take (length bytes + n) held = made ∙ (ap (λ xs. bytes ++ xs) piece ∙ (ap (λ xs. xs ++ take n (drop (length bytes) held)) taken.1 ∙ sym (take-add (length bytes) n held))) in
    let in_rest : n ≤ length (drop (length bytes) held) = subst (λ i. n ≤ length (drop i held)) place got.1 in
    let in_held : length bytes + n ≤ length held = omega (arith, in_rest, length-drop (length bytes) held, taken.0) in
    let count : length new ≡ length bytes + n = ap length front ∙ (length-take (length bytes + n) held ∙ omega arith) in
    (omega arith, front ∙ ap (λ i. take i held) (sym count))

-- a front as long as what is held is all that a source may have of it
all_held : (held bytes : List ℕ) → bytes ≡ take (length bytes) held → length held ≤ length bytes → length bytes ≤ 1048577 → bytes ≡ take 1048577 held
all_held held bytes front long short = front ∙ (take_all (length bytes) held long ∙ sym (take_all 1048577 held (omega arith)))

-- at the end of the file all of it was read
pub ReadOf-end : (h : Held) (bytes room : List ℕ) (at size : ℕ) → TakenOf h bytes → at ≡ length bytes → length bytes ≤ 1048577 → Reads h at size room End → ReadOf h bytes
ReadOf-end Untold bytes room at size taken place short ended = tt
ReadOf-end Nothing bytes room at size taken place short ended = absurd ended
ReadOf-end (Bytes held) bytes room at size taken place short ended = all_held held bytes taken.1 (omega (arith, ended)) short

-- where a room that is not empty got nothing, all of the file was read
pub ReadOf-nothing_got : (h : Held) (bytes room : List ℕ) (at size n : ℕ) → TakenOf h bytes → at ≡ length bytes → length bytes ≤ 1048577 → n ≡ 0 → 0 < size → Reads h at size room (Got n) → ReadOf h bytes
ReadOf-nothing_got Untold bytes room at size n taken place short nothing offered got = tt
ReadOf-nothing_got Nothing bytes room at size n taken place short nothing offered got = absurd got
ReadOf-nothing_got (Bytes held) bytes room at size n taken place short nothing offered got =
    let ended : length held ≤ at = got.3 nothing offered in
    all_held held bytes taken.1 (omega arith) short

-- as many bytes as a source is read to are what was to be read
pub ReadOf-full : (h : Held) (bytes : List ℕ) → TakenOf h bytes → 1048577 ≤ length bytes → length bytes ≤ 1048577 → ReadOf h bytes
ReadOf-full Untold bytes taken long short = tt
ReadOf-full Nothing bytes taken long short = absurd (let nothing : length bytes ≡ 0 = ap length taken in omega arith)
ReadOf-full (Bytes held) bytes taken long short =
    let count : length bytes ≡ 1048577 = omega arith in
    taken.1 ∙ ap (λ i. take i held) count

-- what two writes added, one after the other
Adds-append : (a b c : Option (List ℕ)) (xs ys : List ℕ) → Adds a b xs → Adds b c ys → Adds a c (xs ++ ys)
Adds-append None None None xs ys first second = tt
Adds-append None None (Some z) xs ys first second = absurd second
Adds-append None (Some y) c xs ys first second = absurd first
Adds-append (Some x) None c xs ys first second = absurd first
Adds-append (Some x) (Some y) None xs ys first second = absurd second
Adds-append (Some x) (Some y) (Some z) xs ys first second = second ∙ (ap (λ w. w ++ ys) first ∙ append_assoc x xs ys)

-- what a turn of writing hands over is the rest of the text
pub take-drop_rest : (text : List ℕ) (at : ℕ) → take (length text - at) (drop at text) ≡ drop at text
take-drop_rest text at = take_all (length text - at) (drop at text) (omega (arith, length-drop at text))

-- a turn that took the next bytes of a text leaves a longer front of it taken
pub Adds-more : (a b c : Option (List ℕ)) (text : List ℕ) (at n : ℕ) → Adds a b (take at text) → Adds b c (take n (take (length text - at) (drop at text))) → Adds a c (take (at + n) text)
Adds-more a b c text at n before turn =
    let longer : take at text ++ take n (take (length text - at) (drop at text)) ≡ take (at + n) text = ap (λ xs. take at text ++ take n xs) (take-drop_rest text at) ∙ sym (take-add at n text) in
    subst (λ xs. Adds a c xs) longer (Adds-append a b c _ _ before turn)
