-- Lists to which parts are added, one behind the other.
use Rattle.std.proofs.Common.{◌≡◌, ◌∙◌, ap, sym, refl, List, [], ◌++◌, IfOk, OnOk, Result, append_assoc, append-nil}
use Rattle.std.proofs.lemmas.Result.{IfOk-weaker, on_ok_weaker}

-- what holds where all went well has what follows from it
pub so : {T E P Q : Type 0} (r : Result T E) → OnOk r P → (P → Q) → OnOk r Q
so r holds follows = on_ok_weaker r follows holds

pub so_value : {T E : Type 0} {P Q : T → Type 0} (r : Result T E) → IfOk r P → ((x : T) → P x → Q x) → IfOk r Q
so_value r holds follows = IfOk-weaker r _ _ follows holds

module _ {A : Type 0} where
  pub nothing : {told : List A} (old : List A) → told ≡ [] → old ≡ old ++ told
  nothing old is = sym (append-nil old) ∙ ap (λ l. old ++ l) (sym is)

  pub once : {new told : List A} (old x : List A) → new ≡ old ++ x → told ≡ x → new ≡ old ++ told
  once old x first is = first ∙ ap (λ l. old ++ l) (sym is)

  pub twice : {mid new told : List A} (old x y : List A) → mid ≡ old ++ x → new ≡ mid ++ y → told ≡ x ++ y → new ≡ old ++ told
  twice old x y first second is = second ∙ ap (λ l. l ++ y) first ∙ append_assoc old x y ∙ ap (λ l. old ++ l) (sym is)

  pub thrice : {mid late new told : List A} (old x y z : List A) → mid ≡ old ++ x → late ≡ mid ++ y → new ≡ late ++ z → told ≡ x ++ (y ++ z) → new ≡ old ++ told
  thrice {mid = mid} old x y z first second third is = twice old x (y ++ z) first (twice mid y z second third refl) is

  pub four_times : {mid late last new told : List A} (old x y z w : List A) → mid ≡ old ++ x → late ≡ mid ++ y → last ≡ late ++ z → new ≡ last ++ w → told ≡ x ++ (y ++ (z ++ w)) → new ≡ old ++ told
  four_times {mid = mid} old x y z w first second third fourth is = twice old x (y ++ (z ++ w)) first (thrice mid y z w second third fourth refl) is

  pub five_times : {mid late later last new told : List A} (old x y z w v : List A) → mid ≡ old ++ x → late ≡ mid ++ y → later ≡ late ++ z → last ≡ later ++ w → new ≡ last ++ v → told ≡ x ++ (y ++ (z ++ (w ++ v))) → new ≡ old ++ told
  five_times {mid = mid} old x y z w v first second third fourth fifth is = twice old x (y ++ (z ++ (w ++ v))) first (four_times mid y z w v second third fourth fifth refl) is

  -- a part is added in front of what is left
  pub further : {new all told : List A} (mid part rest : List A) → mid ++ all ≡ told → new ≡ mid ++ part → all ≡ part ++ rest → new ++ rest ≡ told
  further mid part rest before added is = ap (λ l. l ++ rest) added ∙ append_assoc mid part rest ∙ ap (λ l. mid ++ l) (sym is) ∙ before

  -- nothing is left
  pub finished : {rest told : List A} (new : List A) → new ++ rest ≡ told → rest ≡ [] → new ≡ told
  finished new before is = sym (append-nil new) ∙ ap (λ l. new ++ l) (sym is) ∙ before
