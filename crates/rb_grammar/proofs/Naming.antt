-- Each name that the tokens of a script give has its number.
use Rattle.std.proofs.Common.{◌≡◌, ℕ, suc, ◌+◌, ◌<◌, Bool, true, false, ◌||◌, not, cond, List, [], ◌∷◌, ◌++◌, length, fold, Option, Some, None, position, bytes_eq, refl, sym, ◌∙◌, ap, arith}
use Rattle.std.specs.List.{list_any, position_or_len}
use Rattle.std.specs.Option.{option_map}
use Rattle.std.proofs.lemmas.Bool.{or_left, or_right}
use Rattle.std.proofs.lemmas.List.Folds.{list_any-append}
use Rattle.rb_tree.specs.Texts.{number_of, with_text}
use Rattle.rb_tree.proofs.Numbering.{bytes_eq-same, position_within}
use Rattle.rb_grammar.specs.Tree.{Text, Word, texts}
use Rattle.rb_grammar.specs.Program.{numbering_of, in_order, id_or_first}
use Rattle.rb_grammar.specs.Faithful.{Each}
use Rattle.rb_grammar.specs.Laws.{NamesAll}
use Rattle.rb_grammar.proofs.Each.{each_map}

-- a text is among the names
abbrev Named : Text → List Text → Type 0
Named text names = list_any (bytes_eq text) names ≡ true

-- a text is found before the end where it is among the names
found_step : (b : Bool) (n m : ℕ) → (b ≡ false → n < m) → cond (not b) (1 + n) 0 < suc m
found_step true n m h = omega arith
found_step false n m h = let less = h refl in omega arith

found_before : (p : Text → Bool) (names : List Text) → list_any p names ≡ true → position_or_len p names < length names
found_before p [] e = absurd (cc)
found_before p (x ∷ xs) e = found_step (p x) (position_or_len p xs) (length xs) (λ none. found_before p xs (sym (ap (λ b. b || list_any p xs) none) ∙ e))

numbered : (at : Option ℕ) (n : ℕ) → Some n ≡ at → option_map (λ k. record { 0 = k }) at ≡ Some (id_or_first (option_map (λ k. record { 0 = k }) at))
numbered (Some k) n e = refl
numbered None n e = absurd (cc)

-- a text among the names has its number
named_has_number : (text : Text) (names : List Text) → Named text names → number_of text names ≡ Some (id_or_first (number_of text names))
named_has_number text names h =
    numbered (position (bytes_eq text) names) (position_or_len (bytes_eq text) names)
    (position_within (bytes_eq text) names (position_or_len (bytes_eq text) names) refl (found_before (bytes_eq text) names h))

-- one more name keeps those that are there, and is there itself
kept_by : (text new : Text) (names : List Text) (b : Bool) → Named text names → Named text (cond b names (names ++ new ∷ []))
kept_by text new names true h = h
kept_by text new names false h = list_any-append (bytes_eq text) names (new ∷ []) ∙ or_left _ _ h

added_by : (text : Text) (names : List Text) (b : Bool) → list_any (bytes_eq text) names ≡ b → Named text (cond b names (names ++ text ∷ []))
added_by text names true h = h
added_by text names false h = list_any-append (bytes_eq text) names (text ∷ []) ∙ or_right _ _ (or_left _ _ (bytes_eq-same text text refl))

kept_by_all : (text : Text) (texts names : List Text) → Named text names → Named text (fold (λ ns x. with_text ns x) names texts)
kept_by_all text [] names h = h
kept_by_all text (x ∷ xs) names h = kept_by_all text xs (with_text names x) (kept_by text x names (list_any (bytes_eq x) names) h)

-- all texts are among the names that they are added to
all_named : (texts names : List Text) → Each (λ text. Named text (fold (λ ns x. with_text ns x) names texts)) texts
all_named [] names = tt
all_named (x ∷ xs) names = (kept_by_all x xs (with_text names x) (added_by x names (list_any (bytes_eq x) names) refl), all_named xs (with_text names x))

-- a fact of each text is one of each word
each_of_words : (P : Text → Type 0) (ws : List Word) → Each P (texts ws) → Each (λ w. P w.text) ws
each_of_words P [] h = tt
each_of_words P (w ∷ ws) h = (h.0, each_of_words P ws h.1)

pub names_all : NamesAll
names_all found =
    each_of_words (λ text. number_of text (in_order (texts found.names)) ≡ Some ((numbering_of found).name text)) found.names
    (each_map (λ text. Named text (in_order (texts found.names))) (λ text. number_of text (in_order (texts found.names)) ≡ Some ((numbering_of found).name text))
    (λ text. named_has_number text (in_order (texts found.names))) (texts found.names) (all_named (texts found.names) []))
