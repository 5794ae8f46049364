-- The words of a text that a pass reads.
use Rattle.std.proofs.Common.{◌≡◌, ◌<◌, ℕ, suc, ◌+◌, ◌/◌, List, length, refl, subst, ◌∙◌, Result, Ok, Err, IfOk, arith}
use Rattle.heap_core.specs.Blocks.{TextAt}
use Rattle.heap_core.specs.Passes.{FixedIs}
use Rattle.heap_core.specs.Room.{OwnIs}
use Rattle.heap_core.specs.Spelling.{byte_word}
use Rattle.heap_core.specs.View.{Holder}
use Rattle.block_kinds.specs.Reading.{CanRead}
use Rattle.block_kinds.proofs.Naming.{MayLoad, reads_is, reads_word}

module _ (k : Holder) (at : ℕ) (bytes : List ℕ) (reads : CanRead k (TextAt bytes at)) where
  pub length_loads : MayLoad k (at + 1)
  length_loads = reads_word k (TextAt bytes at) 1 (length bytes) reads (omega arith) refl

  pub length_is : (n : ℕ) → OwnIs k (at + 1) n → FixedIs k (at + 1) n → n ≡ length bytes
  length_is n own fixed = reads_is k (TextAt bytes at) 1 (length bytes) n reads (omega arith) refl own fixed

  pub word_loads : (j : ℕ) → j < (length bytes + 7) / 8 → MayLoad k (at + 2 + j)
  word_loads j lt = subst (MayLoad k) (let z : at + suc (suc j) ≡ at + 2 + j = omega arith in z) (reads_word k (TextAt bytes at) (suc (suc j)) (byte_word bytes j) reads (omega (arith, lt)) refl)

  pub word_is : (j n : ℕ) → j < (length bytes + 7) / 8 → OwnIs k (at + 2 + j) n → FixedIs k (at + 2 + j) n → n ≡ byte_word bytes j
  word_is j n lt own fixed =
      let same : at + 2 + j ≡ at + suc (suc j) = omega arith in
      reads_is k (TextAt bytes at) (suc (suc j)) (byte_word bytes j) n reads (omega (arith, lt)) refl (subst (λ i. OwnIs k i n) same own) (subst (λ i. FixedIs k i n) same fixed)

-- the text of the bytes that were read
pub all_read : {E : Type 0} {P Q : List ℕ → Type 0} (r : Result (List ℕ) E) (items : List ℕ) → IfOk r (λ text. text ≡ items) → ((bytes : List ℕ) → P bytes → Q bytes → items ≡ bytes)
    → IfOk r (λ text. (bytes : List ℕ) → P bytes → Q bytes → text ≡ bytes)
all_read (Ok text) items is all = λ bytes p q. is ∙ all bytes p q
all_read (Err e) items is all = tt
