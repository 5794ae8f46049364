-- What is gathered and kept on each of the two walks.
use Rattle.std.proofs.Common.{true≢false, ◌≡◌, ℕ, ◌≤◌, ◌<◌, ◌+◌, suc, List, [], ◌∷◌, ◌++◌, Option, Some, None, true, false, refl, sym, ap, ◌∙◌, subst, arith, Bor}
use Rattle.std.specs.Prelude.{map, is_some, nat_le}
use Rattle.std.proofs.lemmas.List.{map-append}
use Rattle.std.proofs.lemmas.Bool.{le-leb, lt-leb}
use Rattle.rb_grammar.specs.Tree.{Numbering, Word, Thread, texts}
use Rattle.rb_builder.specs.Walk.{Walk, gathering, numbering}
use Rattle.rb_builder.specs.Numbers.{numbers_of}
use Rattle.rb_builder.specs.Builder.{walk_of}
use Rattle.rb_builder.specs.Grown.{Keeps}
use Rattle.rb_builder.specs.Said.{text_given, IsSaid}
use Rattle.rb_builder.specs.declared.word.Given as code
use Rattle.rb_builder.specs.declared.said.Said.{Said}
use Rattle.rb_builder.specs.declared.numbers.Numbers.{Numbers}
use Rattle.rb_builder.specs.declared.builder.Builder.{Builder}

-- the walk without numbers, and the one with them
pub first_walk : (b : Builder) (o : Option (Bor Numbers)) → b.numbers ≡ o → is_some o ≡ false → walk_of b ≡ gathering
first_walk b None e h = rw e refl
first_walk b (Some r) e h = absurd (true≢false h)

pub record IsSecond (w : Walk) : Type 0 where
  pub by : Numbering
  pub is : w ≡ numbering by

pub second_walk : (b : Builder) (o : Option (Bor Numbers)) → b.numbers ≡ o → is_some o ≡ true → IsSecond (walk_of b)
second_walk b None e h = absurd (true≢false (sym h))
second_walk b (Some r) e h = record { by = numbers_of r.now; is = rw e refl }

-- a name that is gathered stands behind the rest
word_said : (old new : Said) (given : code.Given) (names : List Word) (threads : List Thread) (word : Word)
    → new.words ≡ old.words ++ given ∷ [] → new.threads ≡ old.threads → word.text ≡ text_given given
    → IsSaid gathering old names threads → IsSaid gathering new (names ++ word ∷ []) threads
word_said old new given names threads word words same text h = (
  ap (map text_given) words ∙ map-append text_given old.words (given ∷ []) ∙ ap (λ x. x ++ text_given given ∷ []) h.0 ∙ ap (λ x. texts names ++ x ∷ []) (sym text) ∙ sym (map-append (λ u. u.text) names (word ∷ [])),
  same ∙ h.1,
)

pub word_gathered : (w : Walk) (old new : Said) (given : code.Given) (names : List Word) (threads : List Thread) (word : Word) → w ≡ gathering
    → new.words ≡ old.words ++ given ∷ [] → new.threads ≡ old.threads → word.text ≡ text_given given
    → IsSaid w old names threads → IsSaid w new (names ++ word ∷ []) threads
word_gathered w old new given names threads word e words same text =
    subst (λ x. IsSaid x old names threads → IsSaid x new (names ++ word ∷ []) threads) (sym e) (word_said old new given names threads word words same text)

-- on the second walk names are not kept
pub word_unsaid : (w : Walk) (n : IsSecond w) (s : Said) (names more : List Word) (threads : List Thread)
    → IsSaid w s names threads → IsSaid w s more threads
word_unsaid w n s names more threads = subst (λ x. IsSaid x s names threads → IsSaid x s more threads) (sym n.is) (λ h. h)

-- what is made is kept on the second walk alone
pub kept : {A : Type 0} (w : Walk) (n : IsSecond w) (a : A) (old new : List A) → new ≡ old ++ a ∷ [] → Keeps w a old new
kept w n a old new h = subst (λ x. Keeps x a old new) (sym n.is) h

pub let_go : {A : Type 0} (w : Walk) (a : A) (old new : List A) → w ≡ gathering → new ≡ old → Keeps w a old new
let_go w a old new e h = subst (λ x. Keeps x a old new) (sym e) h

-- the limit of heights
pub within : (h a : ℕ) → h < 64 → suc h ≡ a → nat_le a 64 ≡ true
within h a low e = le-leb a 64 (omega (arith, low, e))

pub beyond : (h a : ℕ) → 64 ≤ h → suc h ≡ a → nat_le a 64 ≡ false
beyond h a high e = lt-leb a 64 (omega (arith, high, e))

pub one_higher : (h a : ℕ) → suc h ≡ a → h + 1 ≡ a
one_higher h a e = omega (arith, e)
