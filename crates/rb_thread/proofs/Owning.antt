-- What is done with private things leaves the number of their thread, and what has left stays away.
use Rattle.std.proofs.Common.{◌≡◌, Bool, true, false, Option, Some, None, Result, Ok, Err, refl, sym, subst}
use Rattle.std.specs.Prelude.{is_some, IsSome, IfSome, OnOk, OnErr}
use Rattle.rb_model.specs.declared.value.Id.{Id}
use Rattle.rb_model.specs.Values.{Value as Val}
use Rattle.rb_model.specs.Acts.{Act}
use Rattle.rb_model.specs.Things.{Thing}
use Rattle.rb_model.specs.Private.{Private, Becomes, entered, held}
use Rattle.publish_barrier.specs.Absent.{StayLeft}
use Rattle.publish_barrier.proofs.Absence.{left_acted, left_entered}
use Rattle.rb_model.specs.declared.immediate.Immediate.{Immediate}
use Rattle.rb_model.specs.declared.immediate.Immediate.TheVariants as immediate
use Rattle.rb_model.specs.Immediates.{told_answer, value_told}

-- they are those of the same thread, and what had left has left
abbrev pub Keeps : Private → Private → Type 0
Keeps h k = (k.thread ≡ h.thread) × StayLeft h k

pub keeps_same : (h k : Private) → k ≡ h → Keeps h k
keeps_same h k e = subst (Keeps h) (sym e) (refl, λ id l. l)

-- an act on a thing does so
by_act : (found : Option Thing) (h h' : Private) (id : Id) (act : Act) → held h id ≡ found → is_some found ≡ true → Becomes h id act h' → Keeps h h'
by_act None h h' id act e there become = absurd (let no : false ≡ true = there in cc)
by_act (Some thing) h h' id act e there become = subst (Keeps h) (sym (become thing e)) (refl, λ other l. left_acted h id act thing other e l)

pub by_becoming : (h h' : Private) (id : Id) (act : Act) → is_some (held h id) ≡ true → Becomes h id act h' → Keeps h h'
by_becoming h h' id act there become = by_act (held h id) h h' id act refl there become

-- a thing that is made, where there was room for it
pub by_making : {T E : Type 0} (r : Result T E) (h h' : Private) (thing : Thing) → OnOk r (h' ≡ entered h thing) → OnErr r (h' ≡ h) → Keeps h h'
by_making (Ok t) h h' thing e f = subst (Keeps h) (sym e) (refl, λ id l. left_entered h thing id l)
by_making (Err t) h h' thing e f = keeps_same h h' f

-- what is done to a thing, where there was room for it
pub by_applying : {T E : Type 0} (r : Result T E) (h h' : Private) (id : Id) (act : Act) → IsSome (held h id) → OnOk r (Becomes h id act h') → OnErr r (h' ≡ h) → Keeps h h'
by_applying (Ok t) h h' id act there e f = by_becoming h h' id act there e
by_applying (Err t) h h' id act there e f = keeps_same h h' f

-- a sum that is given to a field, where there is one
pub by_adding : {N : Type 0} (r : Option N) (h h' : Private) (id : Id) (act : N → Act) → IfSome r (λ n. is_some (held h id) ≡ true) → IfSome r (λ n. Becomes h id (act n) h') → (r ≡ None → h' ≡ h) → Keeps h h'
by_adding (Some n) h h' id act there become none = by_becoming h h' id (act n) there become
by_adding None h h' id act there become none = keeps_same h h' (none refl)

-- a value that is given to a list, where it is one and the list takes it
by_value : (v : Option Val) (h h' : Private) (id : Id) (act : Val → Act) → is_some v ≡ true → is_some (held h id) ≡ true → IfSome v (λ w. Becomes h id (act w) h') → Keeps h h'
by_value (Some w) h h' id act told there become = by_becoming h h' id (act w) there become
by_value None h h' id act told there become = absurd (let no : false ≡ true = told in cc)

pub by_putting : (put : Bool) (v : Option Val) (h h' : Private) (id : Id) (act : Val → Act) → (put ≡ true → is_some (held h id) ≡ true) → (put ≡ true → is_some v ≡ true)
    → (put ≡ true → IfSome v (λ w. Becomes h id (act w) h')) → (put ≡ false → h' ≡ h) → Keeps h h'
by_putting true v h h' id act there told become kept = by_value v h h' id act (told refl) (there refl) (become refl)
by_putting false v h h' id act there told become kept = keeps_same h h' (kept refl)

-- a thing of which something is told is there
some_held : (o : Option Thing) (act : Act) (r : Immediate) → r ≡ told_answer o act → (r ≡ immediate.Other → ⊥) → is_some o ≡ true
some_held None act r told some = absurd (some told)
some_held (Some thing) act r told some = refl

-- a value that is taken out of a list, where it is told
pub by_taking : (r : Immediate) (h h' : Private) (id : Id) (act : Act) → r ≡ told_answer (held h id) act → IfSome (value_told r) (λ v. Becomes h id act h') → (r ≡ immediate.Other → h' ≡ h) → Keeps h h'
by_taking immediate.Other h h' id act told become kept = keeps_same h h' (kept refl)
by_taking immediate.Nil h h' id act told become kept = by_becoming h h' id act (some_held (held h id) act immediate.Nil told (λ e. let w : immediate.Nil ≡ immediate.Other = e in cc)) become
by_taking immediate.False h h' id act told become kept = by_becoming h h' id act (some_held (held h id) act immediate.False told (λ e. let w : immediate.False ≡ immediate.Other = e in cc)) become
by_taking immediate.True h h' id act told become kept = by_becoming h h' id act (some_held (held h id) act immediate.True told (λ e. let w : immediate.True ≡ immediate.Other = e in cc)) become
by_taking (immediate.Int n) h h' id act told become kept = by_becoming h h' id act (some_held (held h id) act (immediate.Int n) told (λ e. let w : immediate.Int n ≡ immediate.Other = e in cc)) become

-- what holds in any case holds where something is there
pub if_some : {V : Type 0} (found : Option V) (A : Type 0) → A → IfSome found (λ value. A)
if_some None A a = tt
if_some (Some value) A a = a
