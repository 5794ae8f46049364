-- What a word looks like to clap, and what kind the definition gives it.
use Rattle.std.proofs.Common.{ℕ, ◌≡◌, ◌∙◌, ap, ap₂, sym, subst, Bool, true, false, cond, not, [], ◌∷◌, Option, Some, None, codes, refl, drop, ◌+◌, suc, arith}
use Rattle.std.specs.Prelude.{◌==◌, ◌&&◌, if◌then◌else◌}
use Rattle.std.specs.Str.{bytes_eq}
use Rattle.std.specs.List.{list_any, prefix_len}
use Rattle.std.proofs.lemmas.List.Sums.{take_while-cons}
use Rattle.std.proofs.lemmas.Bool.{eqb-true}
use Rattle.std.proofs.lemmas.Slice.Eq.{bytes_eq-Decides}
use Rattle.clap.specs.Lexer.{long_of, short_of}
use Rattle.clap.specs.Walk.{arg_by_long}
use Rattle.rb_command.specs.Words.{Text, Name, Kind, steps, heap_words, option, refused, other, kind_of, name_part, value_part, is_equals_sign, begins_with_hyphen}
use Rattle.rb_command.specs.Line.{has_one_hyphen}
use Rattle.rb_command.proofs.Reader.{rules, id_of, unknown_name}

pub data Look (word : Text) : Type 0 where
  looks_end : bytes_eq word (codes "--") ≡ true → begins_with_hyphen word ≡ true → Look word
  looks_option : (name : Name) (value : Option Text) → bytes_eq word (codes "--") ≡ false → long_of word ≡ Some (id_of name, value) → kind_of word ≡ option name value
      → begins_with_hyphen word ≡ true → Look word
  looks_unknown : (name : Text) (value : Option Text) → bytes_eq word (codes "--") ≡ false → long_of word ≡ Some (name, value) → arg_by_long rules name ≡ None
      → kind_of word ≡ refused → begins_with_hyphen word ≡ true → Look word
  looks_other : bytes_eq word (codes "--") ≡ false → long_of word ≡ None → short_of word ≡ None → kind_of word ≡ other → begins_with_hyphen word ≡ false → Look word

-- ---- the parts of a word that does not begin with `=`

name_part-cons : (byte : ℕ) (word : Text) → is_equals_sign byte ≡ false → name_part (byte ∷ word) ≡ byte ∷ name_part word
name_part-cons byte word differs = take_while-cons (λ b. not (is_equals_sign b)) byte word ∙ rw differs refl

drop-one_more : (n byte : ℕ) (word : Text) → drop (1 + n + 1) (byte ∷ word) ≡ drop (n + 1) word
drop-one_more n byte word =
    let more : 1 + n + 1 ≡ suc (n + 1) = omega arith in
    ap (λ (k : ℕ). drop k (byte ∷ word)) more

value_part-cons : (byte : ℕ) (word : Text) → is_equals_sign byte ≡ false → value_part (byte ∷ word) ≡ value_part word
value_part-cons byte word differs =
    let n = prefix_len (λ b. not (is_equals_sign b)) word in
    rw differs (ap (λ (v : Text). if list_any is_equals_sign word then Some v else None) (drop-one_more n byte word))

-- ---- words with two hyphens

-- what kind a word of this name and value has
abbrev kind_by : Text → Option Text → Kind
kind_by name value = if bytes_eq name (codes "steps") then option steps value
    else (if bytes_eq name (codes "heap-words") then option heap_words value else refused)

kind-long : (byte : ℕ) (word : Text) → kind_of (45 ∷ 45 ∷ byte ∷ word) ≡ kind_by (name_part (byte ∷ word)) (value_part (byte ∷ word))
kind-long byte word =
    let name : name_part (45 ∷ 45 ∷ byte ∷ word) ≡ 45 ∷ 45 ∷ name_part (byte ∷ word) =
    name_part-cons 45 (45 ∷ byte ∷ word) refl ∙ ap (λ (n : Text). 45 ∷ n) (name_part-cons 45 (byte ∷ word) refl) in
    let value : value_part (45 ∷ 45 ∷ byte ∷ word) ≡ value_part (byte ∷ word) =
    value_part-cons 45 (45 ∷ byte ∷ word) refl ∙ value_part-cons 45 (byte ∷ word) refl in
    ap₂ (λ (n : Text) (v : Option Text). if bytes_eq n (codes "--steps") then option steps v
    else (if bytes_eq n (codes "--heap-words") then option heap_words v else refused)) name value

long : (byte : ℕ) (word : Text) → Look (45 ∷ 45 ∷ byte ∷ word)
long byte word = go (bytes_eq name (codes "steps")) (bytes_eq name (codes "heap-words")) refl refl
  where
    name : Text
    name = name_part (byte ∷ word)

    value : Option Text
    value = value_part (byte ∷ word)

    go : (a b : Bool) → bytes_eq name (codes "steps") ≡ a → bytes_eq name (codes "heap-words") ≡ b → Look (45 ∷ 45 ∷ byte ∷ word)
    go true b is_steps is_heap =
        looks_option steps value refl (ap (λ (n : Text). Some (n, value)) ((bytes_eq-Decides name (codes "steps")).0 is_steps))
        (kind-long byte word ∙ rw is_steps refl) refl
    go false true is_steps is_heap =
        looks_option heap_words value refl (ap (λ (n : Text). Some (n, value)) ((bytes_eq-Decides name (codes "heap-words")).0 is_heap))
        (kind-long byte word ∙ rw (is_steps, is_heap) refl) refl
    go false false is_steps is_heap =
        looks_unknown name value refl refl (unknown_name name is_steps is_heap) (kind-long byte word ∙ rw (is_steps, is_heap) refl) refl

-- ---- other words

-- a word that does not begin with a hyphen has no option's name
name-other : (byte : ℕ) (word rest : Text) → (byte == 45) ≡ false → bytes_eq (name_part (byte ∷ word)) (45 ∷ rest) ≡ false
name-other byte word rest differs = ap (λ (n : Text). bytes_eq n (45 ∷ rest)) (take_while-cons (λ b. not (is_equals_sign b)) byte word) ∙ go (not (is_equals_sign byte))
  where
    go : (b : Bool) → bytes_eq (cond b (byte ∷ name_part word) []) (45 ∷ rest) ≡ false
    go true = rw differs refl
    go false = refl

kind-other : (byte : ℕ) (word : Text) → (byte == 45) ≡ false → kind_of (byte ∷ word) ≡ other
kind-other byte word differs =
    let not_steps = name-other byte word (codes "-steps") differs in
    let not_heap_words = name-other byte word (codes "-heap-words") differs in
    rw (differs, not_steps, not_heap_words) refl

first_other : (byte : ℕ) (word : Text) → (byte == 45) ≡ false → Look (byte ∷ word)
first_other byte word differs = looks_other (rw differs refl) (rw differs refl) (rw differs refl) (kind-other byte word differs) differs

first_hyphen : (byte : ℕ) (word : Text) → (byte == 45) ≡ true → has_one_hyphen (byte ∷ word) ≡ false → Look (byte ∷ word)
first_hyphen byte word is_hyphen fine =
    let P : ℕ → Type 0 = λ b. has_one_hyphen (b ∷ word) ≡ false → Look (b ∷ word) in
    subst P (sym (eqb-true byte 45 is_hyphen)) (second word) fine
  where
    third : (word : Text) → Look (45 ∷ 45 ∷ word)
    third [] = looks_end refl refl
    third (byte ∷ word) = long byte word

    next_byte : (byte : ℕ) (word : Text) (b : Bool) → (byte == 45) ≡ b → not b ≡ false → Look (45 ∷ byte ∷ word)
    next_byte byte word true is fine =
        let P : ℕ → Type 0 = λ b. Look (45 ∷ b ∷ word) in
        subst P (sym (eqb-true byte 45 is)) (third word)
    next_byte byte word false is fine = cc

    second : (word : Text) → has_one_hyphen (45 ∷ word) ≡ false → Look (45 ∷ word)
    second [] fine = cc
    second (byte ∷ word) fine = next_byte byte word (byte == 45) refl fine

pub looks : (word : Text) → has_one_hyphen word ≡ false → Look word
looks [] fine = looks_other refl refl refl refl refl
looks (byte ∷ word) fine = go (byte == 45) refl
  where
    go : (b : Bool) → (byte == 45) ≡ b → Look (byte ∷ word)
    go true is = first_hyphen byte word is fine
    go false is = first_other byte word is

-- ---- words with one hyphen

kind-one : (next : ℕ) (word : Text) → (next == 45) ≡ false → kind_of (45 ∷ next ∷ word) ≡ refused
kind-one next word differs =
    let name = name_part-cons 45 (next ∷ word) refl in
    let not_steps : bytes_eq (name_part (45 ∷ next ∷ word)) (codes "--steps") ≡ false =
    ap (λ (n : Text). bytes_eq n (codes "--steps")) name ∙ name-other next word (codes "steps") differs in
    let not_heap_words : bytes_eq (name_part (45 ∷ next ∷ word)) (codes "--heap-words") ≡ false =
    ap (λ (n : Text). bytes_eq n (codes "--heap-words")) name ∙ name-other next word (codes "heap-words") differs in
    rw (differs, not_steps, not_heap_words) refl

pub one_is_refused : (word : Text) → has_one_hyphen word ≡ true → kind_of word ≡ refused
one_is_refused [] one = cc
one_is_refused (byte ∷ []) one =
    let P : ℕ → Type 0 = λ b. kind_of (b ∷ []) ≡ refused in
    subst P (sym (eqb-true byte 45 one)) refl
one_is_refused (byte ∷ next ∷ word) one = go (byte == 45) (next == 45) refl refl one
  where
    go : (a b : Bool) → (byte == 45) ≡ a → (next == 45) ≡ b → (a && not b) ≡ true → kind_of (byte ∷ next ∷ word) ≡ refused
    go false b is_hyphen differs h = cc
    go true true is_hyphen differs h = cc
    go true false is_hyphen differs h =
        let P : ℕ → Type 0 = λ b. kind_of (b ∷ next ∷ word) ≡ refused in
        subst P (sym (eqb-true byte 45 is_hyphen)) (kind-one next word differs)
