use Rattle.std.proofs.Common.{◌≡◌, ℕ, true, false, cond, List, [], ◌∷◌, ◌++◌, map, length, Some, ap, sym, ◌∙◌, subst, ◌<◌, Vec, arith, length-append}
use Rattle.std.proofs.lemmas.List.{length-map}
use Rattle.std.specs.Option.{option_map}
use Rattle.std.specs.List.{list_any, position_or_len}
use Rattle.std.specs.Str.{bytes_eq}
use Rattle.std.specs.declared.alloc.Global.{Global}
use Rattle.rb_tree.specs.Texts.{number_of, with_text}
use Rattle.rb_tree.proofs.Numbering.{bytes_eq-same, position-map, list_any-map, map-append, position_or_len-push, position_within, distinct-map}
use Rattle.rb_tree.proofs.names.Names.add.Goals as goal

-- what is kept of a text
abbrev Key : Type 0
Key = Vec ℕ Global

-- the names at keys, once one more key is among them
kept : (text : List ℕ) (keys : List Key) → list_any (λ t. bytes_eq text t.items) keys ≡ true → map (λ t. t.items) keys ≡ with_text (map (λ t. t.items) keys) text
kept text keys h = ap (λ b. cond b (map (λ t. t.items) keys) (map (λ t. t.items) keys ++ text ∷ [])) (sym (list_any-map (bytes_eq text) (λ t. t.items) keys ∙ h))

pushed : (text : List ℕ) (keys : List Key) (key : Key) → list_any (λ t. bytes_eq text t.items) keys ≡ false → key.items ≡ text
    → map (λ t. t.items) (keys ++ key ∷ []) ≡ with_text (map (λ t. t.items) keys) text
pushed text keys key h e =
    map-append (λ t. t.items) keys (key ∷ [])
    ∙ ap (λ u. map (λ t. t.items) keys ++ u ∷ []) e
    ∙ ap (λ b. cond b (map (λ t. t.items) keys) (map (λ t. t.items) keys ++ text ∷ [])) (sym (list_any-map (bytes_eq text) (λ t. t.items) keys ∙ h))

numbered : (text : List ℕ) (keys new : List Key) (key : Key) (at : ℕ) → key.items ≡ text → new ≡ keys ++ key ∷ [] → at ≡ position_or_len (λ t. bytes_eq text t.items) keys → at < length new
    → Some (record { 0 = at }) ≡ number_of text (map (λ t. t.items) new)
numbered text keys new key at e n i w =
    let first : position_or_len (λ t. bytes_eq text t.items) new ≡ position_or_len (λ t. bytes_eq text t.items) keys
    = ap (position_or_len (λ t. bytes_eq text t.items)) n ∙ position_or_len-push (λ t. bytes_eq text t.items) keys key (bytes_eq-same text key.items (sym e)) in
    ap (option_map (λ m. record { 0 = m })) (position_within (λ t. bytes_eq text t.items) new at (i ∙ sym first) w ∙ sym (position-map (bytes_eq text) (λ t. t.items) new))

pub returns-in-Some-clause-id : goal.returns-in-Some-clause-id
returns-in-Some-clause-id c =
    ap (option_map (λ n. record { 0 = n })) (c.in-Some.ensures.index ∙ sym (position-map (bytes_eq c.args.text.now) (λ t. t.items) c.self.inside.texts.keys))
    ∙ ap (number_of c.args.text.now) c.self.view_is

pub returns-in-Some-clause-added : goal.returns-in-Some-clause-added
returns-in-Some-clause-added c =
    subst (λ (names : List (List ℕ)). names ≡ with_text names c.args.text.now) c.self.view_is (kept c.args.text.now c.self.inside.texts.keys (sym c.in-Some.ensures.found))

-- a key that is not among the keys goes last
grown : (text : List ℕ) (keys new : List Key) (key : Key) → key.items ≡ text → list_any (λ t. bytes_eq text t.items) keys ≡ false
    → new ≡ cond (list_any (λ t. bytes_eq key.items t.items) keys) keys (keys ++ key ∷ []) → new ≡ keys ++ key ∷ []
grown text keys new key e h n =
    n ∙ ap (λ b. cond b keys (keys ++ key ∷ [])) (ap (λ x. list_any (λ t. bytes_eq x t.items) keys) e ∙ h)

pub returns-clause-id : goal.returns-clause-id
returns-clause-id c =
    let keys = c.self.inside.texts.keys in
    let e = c.in_ok-copy.ensures.items in
    let g = grown c.args.text.now keys _ c.in_ok-copy.copy e (sym c.in_default.ensures.found) c.in_ok-at.ensures.keys in
    numbered c.args.text.now keys _ c.in_ok-copy.copy _ e g (c.in_ok-at.ensures.index ∙ ap (λ x. position_or_len (λ (t : Key). bytes_eq x t.items) keys) e) c.in_ok-at.ensures.within

pub returns-clause-added : goal.returns-clause-added
returns-clause-added c =
    let keys = c.self.inside.texts.keys in
    let e = c.in_ok-copy.ensures.items in
    let g = grown c.args.text.now keys _ c.in_ok-copy.copy e (sym c.in_default.ensures.found) c.in_ok-at.ensures.keys in
    ap (map (λ (t : Key). t.items)) g
    ∙ pushed c.args.text.now keys c.in_ok-copy.copy (sym c.in_default.ensures.found) e
    ∙ ap (λ names. with_text names c.args.text.now) c.self.view_is

pub invariant_of-self-2 : goal.invariant_of-self-2
invariant_of-self-2 c =
    let keys = c.self.inside.texts.keys in
    let g = grown c.args.text.now keys _ c.in_ok-copy.copy c.in_ok-copy.ensures.items (sym c.in_default.ensures.found) c.in_ok-at.ensures.keys in
    let longer = ap length g ∙ length-append keys (c.in_ok-copy.copy ∷ []) in
    let before = sym (length-map keys (λ (t : Key). t.items)) ∙ ap length c.self.view_is in
    let room = c.requires in
    (omega arith, distinct-map bytes_eq (λ (t : Key). t.items) c.insert_full.new.self.keys c.in_ok-at.ensures.unique)

pub returns-clause-different : goal.returns-clause-different
returns-clause-different c = distinct-map bytes_eq (λ (t : Key). t.items) c.insert_full.new.self.keys c.in_ok-at.ensures.unique
