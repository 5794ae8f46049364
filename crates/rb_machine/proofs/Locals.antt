-- The locals of blocks and of what is round them.
use Rattle.std.proofs.Common.{◌≡◌, ◌<◌, ◌≤◌, ◌⊎◌, inl, inr, ℕ, zero, suc, Bool, true, false, cond, List, [], ◌∷◌, ◌++◌, take, length, Option, Some, None, refl, sym, ap, ◌∙◌, arith}
use Rattle.std.specs.Prelude.{◌==◌, slice_get, pos, ◌+ℤ◌}
use Rattle.std.specs.Option.{is_some}
use Rattle.std.proofs.lemmas.Bool.{eq-eqb}
use Rattle.std.proofs.lemmas.Bool.Decides.{nat_tests}
use Rattle.std.proofs.lemmas.List.{length-take}
use Rattle.std.proofs.Math.Seq.{take-append_seam}
use Rattle.rb_tree.specs.declared.span.NameId.{NameId}
use Rattle.rb_model.specs.Values.{Value, Nil, Int, or_nil}
use Rattle.rb_machine.specs.Scopes.{Locals, or_else, found, look, assign, fresh}
use Rattle.rb_machine.specs.Control.{On, Give, Counting}
use Rattle.rb_machine.specs.Turns.{start_turn}
use Rattle.rb_machine.specs.Move.{Go}
use Rattle.rb_machine.specs.Laws.{own_at, OwnLocalsAreNew, ParametersAreGiven, AssignsOutside, AssignsOwn, AssignsOne, OwnLocalsGo}

-- ---- what is found

or_else-assoc : {X : Type 0} (a b c : Option X) → or_else (or_else a b) c ≡ or_else a (or_else b c)
or_else-assoc None b c = refl
or_else-assoc (Some x) b c = refl

or_else-None : {X : Type 0} (a : Option X) → a ≡ or_else a None
or_else-None None = refl
or_else-None (Some x) = refl

-- the inner locals are looked through before the outer ones
found-append : (name : NameId) (outer own : Locals) → found name (outer ++ own) ≡ or_else (found name own) (found name outer)
found-append name [] own = or_else-None (found name own)
found-append name (b ∷ outer) own =
    ap (λ o. or_else o (cond (b.0.0 == name.0) (Some b.1) None)) (found-append name outer own) ∙ or_else-assoc (found name own) (found name outer) _

look_inner : (name : NameId) (v : Value) (outer own : Locals) → found name own ≡ Some v → look name (outer ++ own) ≡ v
look_inner name v outer own e = ap or_nil (found-append name outer own ∙ ap (λ o. or_else o (found name outer)) e)

-- ---- assignments

absent_here : (o : Option Value) (t : Bool) (x : Value) → or_else o (cond t (Some x) None) ≡ None → (o ≡ None) × (t ≡ false)
absent_here None true x e = absurd (cc)
absent_here None false x e = (refl, refl)
absent_here (Some y) t x e = absurd (cc)

stays_if : {X : Type 0} (s t : Bool) (xs ys zs : X) → s ≡ false → t ≡ false → cond s xs (cond t ys zs) ≡ zs
stays_if true t xs ys zs p q = absurd (cc)
stays_if false true xs ys zs p q = absurd (cc)
stays_if false false xs ys zs p q = refl

assign_absent : (name : NameId) (v : Value) (locals : Locals) → found name locals ≡ None → assign name v locals ≡ locals
assign_absent name v [] e = refl
assign_absent name v (b ∷ bs) e =
    let here = absent_here (found name bs) (b.0.0 == name.0) b.1 e in
    stays_if (is_some (found name bs)) (b.0.0 == name.0) (b ∷ assign name v bs) ((b.0, v) ∷ bs) (b ∷ bs) (ap is_some here.0) here.1

cond-append : {X : Type 0} (s t : Bool) (xs ys zs own : List X) → cond s (xs ++ own) (cond t (ys ++ own) (zs ++ own)) ≡ cond s xs (cond t ys zs) ++ own
cond-append true t xs ys zs own = refl
cond-append false true xs ys zs own = refl
cond-append false false xs ys zs own = refl

pub assigns_outside : AssignsOutside
assigns_outside name v [] own e = assign_absent name v own e
assigns_outside name v (b ∷ outer) own e =
    ap (λ s. cond s (b ∷ assign name v (outer ++ own)) (cond (b.0.0 == name.0) ((b.0, v) ∷ (outer ++ own)) (b ∷ (outer ++ own))))
    (ap is_some (found-append name outer own ∙ ap (λ o. or_else o (found name outer)) e))
    ∙ (ap (λ l. cond (is_some (found name outer)) (b ∷ l) (cond (b.0.0 == name.0) ((b.0, v) ∷ (outer ++ own)) (b ∷ (outer ++ own)))) (assigns_outside name v outer own e)
    ∙ cond-append (is_some (found name outer)) (b.0.0 == name.0) (b ∷ assign name v outer) ((b.0, v) ∷ outer) (b ∷ outer) own)

is_some-or_else : {X : Type 0} (a b : Option X) → is_some a ≡ true → is_some (or_else a b) ≡ true
is_some-or_else None b e = absurd (cc)
is_some-or_else (Some x) b e = refl

pub assigns_own : AssignsOwn
assigns_own name v [] own e = refl
assigns_own name v (b ∷ outer) own e =
    ap (λ s. cond s (b ∷ assign name v (outer ++ own)) (cond (b.0.0 == name.0) ((b.0, v) ∷ (outer ++ own)) (b ∷ (outer ++ own))))
    (ap is_some (found-append name outer own) ∙ is_some-or_else (found name own) (found name outer) e)
    ∙ ap (λ l. b ∷ l) (assigns_own name v outer own e)

found_assigned : (name : NameId) (v : Value) (locals : Locals) → is_some (found name locals) ≡ true → found name (assign name v locals) ≡ Some v
found_assigned name v [] e = absurd (cc)
found_assigned name v (b ∷ bs) e = at (found_assigned name v bs) (found name bs) (b.0.0 == name.0) refl refl e
  where
    at : (is_some (found name bs) ≡ true → found name (assign name v bs) ≡ Some v) → (o : Option Value) (t : Bool) → found name bs ≡ o → b.0.0 == name.0 ≡ t → is_some (or_else o (cond t (Some b.1) None)) ≡ true
        → found name (cond (is_some o) (b ∷ assign name v bs) (cond t ((b.0, v) ∷ bs) (b ∷ bs))) ≡ Some v
    at later (Some x) t p q s = ap (λ o. or_else o (cond (b.0.0 == name.0) (Some b.1) None)) (later (ap is_some p))
    at later None true p q s = ap (λ o. or_else o (cond (b.0.0 == name.0) (Some v) None)) p ∙ ap (λ t. cond t (Some v) None) q
    at later None false p q s = absurd (cc)

other_test : (a b c : ℕ) → (b ≡ c → ⊥) → a == c ≡ true → a == b ≡ false
other_test a b c h e = grind (arith, nat_tests)

found_other : (name other : NameId) (v : Value) (locals : Locals) → (other.0 ≡ name.0 → ⊥) → found other (assign name v locals) ≡ found other locals
found_other name other v [] h = refl
found_other name other v (b ∷ bs) h = at (found_other name other v bs h) (is_some (found name bs)) (b.0.0 == name.0) refl
  where
    at : found other (assign name v bs) ≡ found other bs → (s t : Bool) → b.0.0 == name.0 ≡ t → found other (cond s (b ∷ assign name v bs) (cond t ((b.0, v) ∷ bs) (b ∷ bs))) ≡ found other (b ∷ bs)
    at later true t q = ap (λ o. or_else o (cond (b.0.0 == other.0) (Some b.1) None)) later
    at later false true q =
        let away = other_test b.0.0 other.0 name.0 h q in
        ap (λ t. or_else (found other bs) (cond t (Some v) None)) away ∙ ap (λ t. or_else (found other bs) (cond t (Some b.1) None)) (sym away)
    at later false false q = refl

pub assigns_one : AssignsOne
assigns_one name other v locals = (λ e. ap or_nil (found_assigned name v locals e), λ h. ap or_nil (found_other name other v locals h))

-- ---- fresh locals

nil_or_none : (name : NameId) (ns : List NameId) → (found name (fresh ns []) ≡ None) ⊎ (found name (fresh ns []) ≡ Some Nil)
nil_or_none name [] = inl refl
nil_or_none name (n ∷ ns) = at (found name (fresh ns [])) (n.0 == name.0) (nil_or_none name ns)
  where
    at : (o : Option Value) (t : Bool) → (o ≡ None) ⊎ (o ≡ Some Nil) → (or_else o (cond t (Some Nil) None) ≡ None) ⊎ (or_else o (cond t (Some Nil) None) ≡ Some Nil)
    at None true h = inr refl
    at None false h = inl refl
    at (Some x) t h = h

nil_behind : (name : NameId) (ns : List NameId) (vs : List Value) (i : ℕ) → slice_get ns i ≡ Some name → length vs ≤ i → found name (fresh ns vs) ≡ Some Nil
nil_behind name [] vs i e h = absurd (cc)
nil_behind name (n ∷ ns) [] zero e h = at (found name (fresh ns [])) (n.0 == name.0) (eq-eqb n.0 name.0 (ap (λ (o : Option NameId). id_or n o) e)) (nil_or_none name ns)
  where
    id_or : NameId → Option NameId → ℕ
    id_or n None = n.0
    id_or n (Some m) = m.0

    at : (o : Option Value) (t : Bool) → t ≡ true → (o ≡ None) ⊎ (o ≡ Some Nil) → or_else o (cond t (Some Nil) None) ≡ Some Nil
    at None true p h = refl
    at None false p h = absurd (cc)
    at (Some x) t p (inl h) = absurd (cc)
    at (Some x) t p (inr h) = h
nil_behind name (n ∷ ns) [] (suc i) e h = ap (λ o. or_else o (cond (n.0 == name.0) (Some Nil) None)) (nil_behind name ns [] i e (omega arith))
nil_behind name (n ∷ ns) (v ∷ vs) zero e h = absurd (omega (arith, h))
nil_behind name (n ∷ ns) (v ∷ vs) (suc i) e h = ap (λ o. or_else o (cond (n.0 == name.0) (Some v) None)) (nil_behind name ns vs i e (omega (arith, h)))

absent : (name n : NameId) (o : Option Value) (v : Value) → (n.0 ≡ name.0 → ⊥) → o ≡ None → or_else o (cond (n.0 == name.0) (Some v) None) ≡ None
absent name n o v h e = at o (n.0 == name.0) e (differs n.0 name.0 h)
  where
    differs : (a b : ℕ) → (a ≡ b → ⊥) → a == b ≡ false
    differs a b h = grind (arith, nat_tests)

    at : (o : Option Value) (t : Bool) → o ≡ None → t ≡ false → or_else o (cond t (Some v) None) ≡ None
    at None true p q = absurd (cc)
    at None false p q = refl
    at (Some x) t p q = absurd (cc)

-- a name that is not among the fresh ones is not found in them
none_among : (name : NameId) (ns : List NameId) (vs : List Value) → ((i : ℕ) (other : NameId) → slice_get ns i ≡ Some other → other.0 ≡ name.0 → ⊥) → found name (fresh ns vs) ≡ None
none_among name [] vs h = refl
none_among name (n ∷ ns) [] h = absent name n (found name (fresh ns [])) Nil (h 0 n refl) (none_among name ns [] (λ i. h (suc i)))
none_among name (n ∷ ns) (v ∷ vs) h = absent name n (found name (fresh ns vs)) v (h 0 n refl) (none_among name ns vs (λ i. h (suc i)))

given : (param : NameId) (names : List NameId) (count : ℕ) (v : Value) → 0 < count → ((i : ℕ) (other : NameId) → slice_get names i ≡ Some other → other.0 ≡ param.0 → ⊥)
    → found param (fresh (param ∷ names) (take count (v ∷ []))) ≡ Some v
given param names zero v some h = absurd (omega (arith, some))
given param names (suc count) v some h =
    ap (λ o. or_else o (cond (param.0 == param.0) (Some v) None)) (none_among param names (take count []) h) ∙ ap (λ t. cond t (Some v) None) (eq-eqb param.0 param.0 refl)

-- ---- iterations

pub own_locals_are_new : OwnLocalsAreNew
own_locals_are_new S next last answer block k sc d left e = (
  ap (λ t. Go (cond t (start_turn S (Counting (next +ℤ pos 1) last answer) (Int next ∷ []) block k sc d (suc left)) (On (Give answer) k sc d (suc left)))) e,
  λ i name h at. look_inner name Nil sc.locals (own_at S block (Int next ∷ []))
      (nil_behind name (S.block_names block.at) (take (length block.params) (Int next ∷ [])) i at (few (length block.params) i (Int next ∷ []) h)),
)
  where
    few : (count i : ℕ) (vs : List Value) → count ≤ i → length (take count vs) ≤ i
    few count i vs h = omega (arith, h, length-take count vs)

pub parameters_are_given : ParametersAreGiven
parameters_are_given S block v outer param names some same apart =
    look_inner param v outer (own_at S block (v ∷ []))
    (ap (λ ns. found param (fresh ns (take (length block.params) (v ∷ [])))) same ∙ given param names (length block.params) v some apart)

pub own_locals_go : OwnLocalsGo
own_locals_go me outer own kept e = ap (λ l. record { me = me; locals = l }) (ap (λ n. take n (outer ++ own)) (sym e) ∙ take-append_seam outer own)
