-- That two values are one and the same is an equivalence, and what is hashed of them is the same.
use Rattle.std.proofs.Common.{◌≡◌, ◌==◌, ℕ, Bool, true, false, ◌&&◌, refl, sym, ap, ◌∙◌, subst}
use Rattle.std.specs.Bool.{Decides, one_answer}
use Rattle.std.specs.Cmp.{IsEquivalence, IsPartialEquivalence, partial_equiv_from_equiv, unsigned_Decides, signed_Decides}
use Rattle.std.specs.Ordering.{int_eq}
use Rattle.std.specs.Str.{bytes_eq}
use Rattle.std.proofs.lemmas.Bool.{and_parts, and_from}
use Rattle.std.proofs.lemmas.Slice.Eq.{bytes_eq-Decides}
use Rattle.rb_tree.specs.declared.span.NameId.{NameId}
use Rattle.rb_model.specs.declared.value.Id.{Id}
use Rattle.rb_model.specs.declared.value.Sort.TheVariants as sort
use Rattle.rb_model.specs.declared.value.Value.{Value as Held}
use Rattle.rb_model.specs.Values.{Value, Nil, False, True, Int, Sym, Str, To, Reference, plain, same, same_id}
use Rattle.rb_model.specs.Hashed.{hashed}

-- a value as far as it is told from others: a thing by its id alone
abbrev told : Value → Value
told (To r) = To (record { sort = sort.List; id = r.id })
told v = v

-- the id of a thing
abbrev id_in : Value → Id
id_in (To r) = r.id
id_in v = record { thread = 0; serial = 0 }

-- two ids are the same where they are equal
same_id-Decides : (a b : Id) → Decides (same_id a b) (a ≡ b)
same_id-Decides a b = (
  λ e.
      let p = and_parts (a.thread == b.thread) (a.serial == b.serial) e in
      let t = (unsigned_Decides a.thread b.thread).0 p.0 in
      let s = (unsigned_Decides a.serial b.serial).0 p.1 in
      ap (λ x. record { thread = x; serial = a.serial }) t ∙ ap (λ y. record { thread = b.thread; serial = y }) s,
  λ e. subst (λ (c : Id). same_id a c ≡ true) e (and_from (a.thread == a.thread) (a.serial == a.serial) ((unsigned_Decides a.thread a.thread).1 refl) ((unsigned_Decides a.serial a.serial).1 refl)),
)

same-Decides : (v w : Value) → Decides (same v w) (told v ≡ told w)
same-Decides Nil Nil = (λ e. refl, λ e. refl)
same-Decides Nil False = (λ e. absurd (cc), λ e. absurd (cc))
same-Decides Nil True = (λ e. absurd (cc), λ e. absurd (cc))
same-Decides Nil (Int n) = (λ e. absurd (cc), λ e. absurd (cc))
same-Decides Nil (Sym n) = (λ e. absurd (cc), λ e. absurd (cc))
same-Decides Nil (Str n) = (λ e. absurd (cc), λ e. absurd (cc))
same-Decides Nil (To n) = (λ e. absurd (cc), λ e. absurd (cc))
same-Decides False Nil = (λ e. absurd (cc), λ e. absurd (cc))
same-Decides False False = (λ e. refl, λ e. refl)
same-Decides False True = (λ e. absurd (cc), λ e. absurd (cc))
same-Decides False (Int n) = (λ e. absurd (cc), λ e. absurd (cc))
same-Decides False (Sym n) = (λ e. absurd (cc), λ e. absurd (cc))
same-Decides False (Str n) = (λ e. absurd (cc), λ e. absurd (cc))
same-Decides False (To n) = (λ e. absurd (cc), λ e. absurd (cc))
same-Decides True Nil = (λ e. absurd (cc), λ e. absurd (cc))
same-Decides True False = (λ e. absurd (cc), λ e. absurd (cc))
same-Decides True True = (λ e. refl, λ e. refl)
same-Decides True (Int n) = (λ e. absurd (cc), λ e. absurd (cc))
same-Decides True (Sym n) = (λ e. absurd (cc), λ e. absurd (cc))
same-Decides True (Str n) = (λ e. absurd (cc), λ e. absurd (cc))
same-Decides True (To n) = (λ e. absurd (cc), λ e. absurd (cc))
same-Decides (Int m) Nil = (λ e. absurd (cc), λ e. absurd (cc))
same-Decides (Int m) False = (λ e. absurd (cc), λ e. absurd (cc))
same-Decides (Int m) True = (λ e. absurd (cc), λ e. absurd (cc))
same-Decides (Int m) (Int n) = (λ e. ap Int ((signed_Decides m n).0 e), λ e. (signed_Decides m n).1 (cc))
same-Decides (Int m) (Sym n) = (λ e. absurd (cc), λ e. absurd (cc))
same-Decides (Int m) (Str n) = (λ e. absurd (cc), λ e. absurd (cc))
same-Decides (Int m) (To n) = (λ e. absurd (cc), λ e. absurd (cc))
same-Decides (Sym m) Nil = (λ e. absurd (cc), λ e. absurd (cc))
same-Decides (Sym m) False = (λ e. absurd (cc), λ e. absurd (cc))
same-Decides (Sym m) True = (λ e. absurd (cc), λ e. absurd (cc))
same-Decides (Sym m) (Int n) = (λ e. absurd (cc), λ e. absurd (cc))
same-Decides (Sym m) (Sym n) = (λ e. ap (λ k. Sym (record { 0 = k })) ((unsigned_Decides m.0 n.0).0 e), λ e. (unsigned_Decides m.0 n.0).1 (cc))
same-Decides (Sym m) (Str n) = (λ e. absurd (cc), λ e. absurd (cc))
same-Decides (Sym m) (To n) = (λ e. absurd (cc), λ e. absurd (cc))
same-Decides (Str m) Nil = (λ e. absurd (cc), λ e. absurd (cc))
same-Decides (Str m) False = (λ e. absurd (cc), λ e. absurd (cc))
same-Decides (Str m) True = (λ e. absurd (cc), λ e. absurd (cc))
same-Decides (Str m) (Int n) = (λ e. absurd (cc), λ e. absurd (cc))
same-Decides (Str m) (Sym n) = (λ e. absurd (cc), λ e. absurd (cc))
same-Decides (Str m) (Str n) = (λ e. ap Str ((bytes_eq-Decides m n).0 e), λ e. (bytes_eq-Decides m n).1 (cc))
same-Decides (Str m) (To n) = (λ e. absurd (cc), λ e. absurd (cc))
same-Decides (To m) Nil = (λ e. absurd (cc), λ e. absurd (cc))
same-Decides (To m) False = (λ e. absurd (cc), λ e. absurd (cc))
same-Decides (To m) True = (λ e. absurd (cc), λ e. absurd (cc))
same-Decides (To m) (Int n) = (λ e. absurd (cc), λ e. absurd (cc))
same-Decides (To m) (Sym n) = (λ e. absurd (cc), λ e. absurd (cc))
same-Decides (To m) (Str n) = (λ e. absurd (cc), λ e. absurd (cc))
same-Decides (To m) (To n) = (λ e. ap (λ i. To (record { sort = sort.List; id = i })) ((same_id-Decides m.id n.id).0 e), λ e. (same_id-Decides m.id n.id).1 (ap id_in e))

-- values of the code that are one and the same
abbrev same_held : Held → Held → Bool
same_held a b = same (plain a) (plain b)

held-Decides : (a b : Held) → Decides (same_held a b) (told (plain a) ≡ told (plain b))
held-Decides a b = same-Decides (plain a) (plain b)

pub same_equivalence : IsEquivalence (λ a b. same (plain a) (plain b))
same_equivalence = record {
  refl = λ x. (held-Decides x x).1 refl;
  symm = λ x y. one_answer (same_held x y) (same_held y x) (held-Decides x y) (λ e. sym ((held-Decides y x).0 e), λ e. (held-Decides y x).1 (sym e));
  congr = λ x y z e.
      let is = (held-Decides x y).0 e in
      one_answer (same_held x z) (same_held y z) (held-Decides x z) (λ h. is ∙ (held-Decides y z).0 h, λ h. (held-Decides y z).1 (sym is ∙ h));
}

pub same_partial : IsPartialEquivalence (λ a b. same (plain a) (plain b))
same_partial = partial_equiv_from_equiv same_equivalence

hashed_told : (v : Value) → hashed v ≡ hashed (told v)
hashed_told Nil = refl
hashed_told False = refl
hashed_told True = refl
hashed_told (Int n) = refl
hashed_told (Sym name) = refl
hashed_told (Str bytes) = refl
hashed_told (To thing) = refl

-- what is the same is hashed alike
pub same_hashed : (x y : Held) → same (plain x) (plain y) ≡ true → hashed (plain x) ≡ hashed (plain y)
same_hashed x y e = hashed_told (plain x) ∙ ap hashed ((held-Decides x y).0 e) ∙ sym (hashed_told (plain y))
