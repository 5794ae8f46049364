-- What a call writes of some of its values.
use Rattle.std.proofs.Common.{◌≡◌, ◌<◌, ◌≤◌, get_or, ℕ, ◌+◌, cond, List, [], ◌∷◌, ◌++◌, map, take, drop, length, refl, sym, ap, ◌∙◌, arith}
use Rattle.std.proofs.lemmas.List.{map-append, length-append, append-nil, take-append-drop, take_more}
use Rattle.std.proofs.lemmas.Grind.{flat_map-append}
use Rattle.rb_tree.specs.declared.node.Program.{Program}
use Rattle.rb_model.specs.declared.value.Value.{Value as Held}
use Rattle.rb_model.specs.Values.{Value, plain}
use Rattle.rb_render.specs.declared.show.Form.{Form}
use Rattle.rb_render.specs.declared.show.Form.TheVariants as form
use Rattle.rb_render.specs.Forms.{written, part, parts, is_blank}

-- some of the values write no more than all of them
pub parts_grow : (P : Program) (f : Form) (n : ℕ) (vs : List Held) → length (parts P f (map plain (take n vs))) ≤ length (parts P f (map plain vs))
parts_grow P f n vs =
    let whole : parts P f (map plain vs) ≡ parts P f (map plain (take n vs)) ++ parts P f (map plain (drop n vs)) =
    ap (λ xs. parts P f (map plain xs)) (sym (take-append-drop n vs))
    ∙ (ap (parts P f) (map-append plain (take n vs) (drop n vs)) ∙ flat_map-append (part P f) (map plain (take n vs)) (map plain (drop n vs))) in
    let counted = ap length whole ∙ length-append (parts P f (map plain (take n vs))) (parts P f (map plain (drop n vs))) in
    omega (arith, counted)

-- one value more
pub parts_more : (P : Program) (f : Form) (vs : List Held) (n : ℕ) (d v : Held) (out more : List ℕ) → n < length vs → get_or vs n d ≡ v
    → out ≡ parts P f (map plain (take n vs)) → more ≡ out ++ part P f (plain v) → more ≡ parts P f (map plain (take (n + 1) vs))
parts_more P f vs n d v out more lt is e g =
    g ∙ (ap (λ o. o ++ part P f (plain v)) e
    ∙ (sym (ap (λ o. parts P f (map plain (take n vs)) ++ o) (append-nil (part P f (plain v))))
    ∙ (sym (flat_map-append (part P f) (map plain (take n vs)) (plain v ∷ []))
    ∙ (sym (ap (parts P f) (map-append plain (take n vs) (v ∷ [])))
    ∙ ap (λ xs. parts P f (map plain xs)) (ap (λ w. take n vs ++ w ∷ []) (sym is) ∙ sym (take_more vs n d lt))))))

-- all that a call writes
pub written_is : (P : Program) (f : Form) (vs : List Value) → written P f vs ≡ cond (is_blank f vs) (10 ∷ []) (parts P f vs)
written_is P form.Puts [] = refl
written_is P form.Puts (v ∷ vs) = refl
written_is P form.Print vs = refl
written_is P form.Inspect vs = refl
