-- What a value that is built leaves, kind by kind.
use Rattle.std.proofs.Common.{◌≡◌, ◌<◌, ℕ, ◌+◌, ◌/◌, ◌^◌, ℤ, pos, negsuc, FitsSigned, true, false, cond, List, [], ◌∷◌, ◌++◌, length, refl, sym, ap, ◌∙◌, subst, inl, inr, lt-ltb, ltb-true, Bool}
use Rattle.std.specs.Int.{w64}
use Rattle.rb_tree.specs.declared.span.NameId.{NameId}
use Rattle.rb_model.specs.Values.{Value as Val, Nil, False, True, Int, Sym, Str, To}
use Rattle.rb_model.specs.declared.value.Value.TheVariants as held
use Rattle.rb_model.specs.declared.value.Ref.{Ref}
use Rattle.rb_shared.specs.Lists.{Has, Each}
use Rattle.rb_shared.proofs.Runs.{each_append, has_front, has_behind}
use Rattle.typed_location.specs.declared.general_place.Any.TheVariants as any
use Rattle.typed_location.specs.Word.{IsSmall, word_of}
use Rattle.heap_core.specs.Blocks.{Block, BoxAt, TextAt}
use Rattle.heap_core.specs.Charges.{blocks, is_small}
use Rattle.heap_core.specs.Rule.{LiesIn}
use Rattle.heap_core.specs.Spelling.{Spells}
use Rattle.heap_core.specs.View.{Holder, Knows}
use Rattle.block_kinds.specs.Built.{Builds, OwnsWords, box_block, text_block, value_blocks, with_words}
use Rattle.block_kinds.specs.Reading.{AreBytes, CanRead, IsLaid, IsValue, Names}
use Rattle.block_kinds.proofs.Stored.{box_laid, text_laid, words_know}

-- ---- what is named

each_known : (k : Holder) (bs : List Block) → ((b : Block) → Has bs b → Knows k b) → Each (CanRead k) bs
each_known k [] all = tt
each_known k (b ∷ bs) all = (inl (all b (inl refl)), each_known k bs (λ c h. all c (inr h)))

pub named_by : (k k' : Holder) (v : Val) (w at : ℕ) → IsValue v → k'.blocks ≡ k.blocks → Each (CanRead k') (value_blocks v at) → Spells (k.blocks ++ value_blocks v at) w v → Names k' w v
named_by k k' v w at val same laid spells = (
  val,
  (k.blocks ++ value_blocks v at, each_append (CanRead k') k.blocks (value_blocks v at) (each_known k' k.blocks (λ b h. subst (λ bs. Has bs b) (sym same) h)) laid, spells),
)

-- ---- what has no block

pub nil_built : (k : Holder) (at w : ℕ) → w ≡ word_of any.Nil → Builds k k at w held.Nil
nil_built k at w is = (refl, λ bs lies. is, λ lies. named_by k k Nil w at tt refl tt is)

pub false_built : (k : Holder) (at w : ℕ) → w ≡ word_of any.False → Builds k k at w held.False
false_built k at w is = (refl, λ bs lies. is, λ lies. named_by k k False w at tt refl tt is)

pub true_built : (k : Holder) (at w : ℕ) → w ≡ word_of any.True → Builds k k at w held.True
true_built k at w is = (refl, λ bs lies. is, λ lies. named_by k k True w at tt refl tt is)

pub symbol_built : (k : Holder) (at w : ℕ) (name : NameId) → name.0 < 2 ^ 32 → w ≡ word_of (any.Sym name.0) → Builds k k at w (held.Sym name)
symbol_built k at w name few is = (refl, λ bs lies. is, λ lies. named_by k k (Sym name) w at few refl tt is)

pub thing_built : (k : Holder) (at w : ℕ) (r : Ref) → w ≡ word_of (any.Thing r.at) → Builds k k at w (held.Ref r)
thing_built k at w r is = (refl, λ bs lies. spells bs lies, λ lies. named_by k k (To (record { sort = r.sort; id = r.id })) w at tt refl tt (spells k.blocks lies))
  where
    spells : (bs : List Block) → LiesIn bs r → Spells (bs ++ []) w (To (record { sort = r.sort; id = r.id }))
    spells bs lies = (lies.0, has_front bs [] lies.0 lies.1, lies.2, is ∙ ap (λ p. word_of (any.Thing p)) (sym lies.3))

-- ---- integers

small_is : (n : ℤ) → IsSmall n → is_small n ≡ true
small_is (pos n) s = lt-ltb n (2 ^ 60) s
small_is (negsuc n) s = lt-ltb n (2 ^ 60) s

wide_is : (n : ℤ) → (IsSmall n → ⊥) → is_small n ≡ false
wide_is n wide = by_test (is_small n) refl
  where
    is_from : (n : ℤ) → is_small n ≡ true → IsSmall n
    is_from (pos n) e = ltb-true n (2 ^ 60) e
    is_from (negsuc n) e = ltb-true n (2 ^ 60) e

    by_test : (b : Bool) → is_small n ≡ b → b ≡ false
    by_test true e = absurd (wide (is_from n e))
    by_test false e = refl

pub small_built : (k : Holder) (at w : ℕ) (n : ℤ) → IsSmall n → FitsSigned w64 n → w ≡ word_of (any.Small n) → Builds k k at w (held.Int n)
small_built k at w n small val is = (
  sym (ap (λ b. with_words k at (cond b [] (box_block n))) (small_is n small)),
  λ bs lies. inl (small, is),
  λ lies. named_by k k (Int n) w at val refl (subst (λ b. Each (CanRead k) (cond b [] (BoxAt n at ∷ []))) (sym (small_is n small)) tt) (inl (small, is)),
)

pub box_owns : (k : Holder) (at : ℕ) (n : ℤ) → (IsSmall n → ⊥) → OwnsWords k at (blocks (Int n)) → OwnsWords k at 2
box_owns k at n wide own = subst (λ b. OwnsWords k at (cond b 0 2)) (wide_is n wide) own

pub box_built : (k k' : Holder) (at w : ℕ) (n : ℤ) → (IsSmall n → ⊥) → FitsSigned w64 n → OwnsWords k at 2 → k' ≡ with_words k at (box_block n) → w ≡ word_of (any.Boxed at) → Builds k k' at w (held.Int n)
box_built k k' at w n wide val own laid is = (
  laid ∙ sym (ap (λ b. with_words k at (cond b [] (box_block n))) (wide_is n wide)),
  λ bs lies. spells bs,
  λ lies. named_by k k' (Int n) w at val (ap (λ (h : Holder). h.blocks) laid ∙ words_know (box_block n) k at)
      (subst (λ b. Each (CanRead k') (cond b [] (BoxAt n at ∷ []))) (sym (wide_is n wide)) (inr (subst (λ h. IsLaid h (BoxAt n at)) (sym laid) (box_laid k at n own)), tt)) (spells k.blocks),
)
  where
    spells : (bs : List Block) → Spells (bs ++ value_blocks (Int n) at) w (Int n)
    spells bs = inr (wide, (at, has_behind bs (value_blocks (Int n) at) (BoxAt n at) (subst (λ b. Has (cond b [] (BoxAt n at ∷ [])) (BoxAt n at)) (sym (wide_is n wide)) (inl refl)), is))

-- ---- texts

pub text_built : (k k' : Holder) (at w : ℕ) (bytes : List ℕ) → AreBytes bytes → OwnsWords k at (2 + (length bytes + 7) / 8) → k' ≡ with_words k at (text_block bytes) → w ≡ word_of (any.Text at) → Builds k k' at w (held.Str bytes)
text_built k k' at w bytes val own laid is = (
  laid,
  λ bs lies. (at, has_behind bs (TextAt bytes at ∷ []) (TextAt bytes at) (inl refl), is),
  λ lies. named_by k k' (Str bytes) w at val (ap (λ (h : Holder). h.blocks) laid ∙ words_know (text_block bytes) k at)
      (inr (subst (λ h. IsLaid h (TextAt bytes at)) (sym laid) (text_laid k at bytes own)), tt) (at, has_behind k.blocks (TextAt bytes at ∷ []) (TextAt bytes at) (inl refl), is),
)
