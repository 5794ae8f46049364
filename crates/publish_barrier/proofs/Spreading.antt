-- What leaves is what is reached, in its order.
use Rattle.std.proofs.Common.{◌≡◌, ◌+◌, ◌==◌, ◌&&◌, ◌||◌, ℕ, Bool, true, false, cond, List, [], ◌∷◌, ◌++◌, length, Option, Some, None, refl, sym, ap, ◌∙◌, subst, append_assoc, append-nil, length-append}
use Rattle.std.specs.Prelude.{is_some, not, slice_get}
use Rattle.std.proofs.lemmas.Bool.{eq-eqb, eqb-true}
use Rattle.rb_model.specs.declared.value.Id.{Id}
use Rattle.rb_model.specs.Values.{Value as Val, Nil, False, True, Int, Sym, Str, To, Reference, same_id}
use Rattle.rb_model.specs.Things.{Thing, mentioned}
use Rattle.rb_model.specs.Private.{Private, Item, Leaves, nothing_waits, no_thing, elsewhere, moves, held, left}
use Rattle.publish_barrier.specs.Reach.{Reaches, Spreads, ends, goes, has, is_new, is_private, item_ids, news}
use Rattle.publish_barrier.proofs.Leaving.{left_gone, left_here, still_held}
use Rattle.publish_barrier.proofs.May.{held_own, same_ids}

has-append : (xs ys : List Id) (j : Id) → has (xs ++ ys) j ≡ has xs j || has ys j
has-append [] ys j = refl
has-append (x ∷ xs) ys j = by (same_id x j) (has-append xs ys j)
  where
    by : (b : Bool) → has (xs ++ ys) j ≡ has xs j || has ys j → b || has (xs ++ ys) j ≡ (b || has xs j) || has ys j
    by true e = refl
    by false e = e

-- one more in the list
one_more : (a b s : Bool) → a && not (b || (s || false)) ≡ (a && not b) && not s
one_more true true s = refl
one_more true false true = refl
one_more true false false = refl
one_more false b s = refl

new-append : (q : Id → Bool) (found : List Id) (id j : Id) → is_new q (found ++ id ∷ []) j ≡ is_new q found j && not (same_id id j)
new-append q found id j = ap (λ b. q j && not b) (has-append found (id ∷ []) j) ∙ one_more (q j) (has found j) (same_id id j)

-- what is no thing adds nothing
news_plain : (q : Id → Bool) (found : List Id) (v : Val) (vs : List Val) → ((r : Reference) → v ≡ To r → ⊥) → news q found (v ∷ vs) ≡ news q found vs
news_plain q found Nil vs apart = refl
news_plain q found False vs apart = refl
news_plain q found True vs apart = refl
news_plain q found (Int n) vs apart = refl
news_plain q found (Sym n) vs apart = refl
news_plain q found (Str n) vs apart = refl
news_plain q found (To r) vs apart = absurd (apart r refl)

-- lists to which the same ids are new get the same
news_same : (q r : Id → Bool) (f g : List Id) (vs : List Val) → ((j : Id) → is_new q f j ≡ is_new r g j) → news q f vs ≡ news r g vs
news_same q r f g [] e = refl
news_same q r f g (Nil ∷ vs) e = news_same q r f g vs e
news_same q r f g (False ∷ vs) e = news_same q r f g vs e
news_same q r f g (True ∷ vs) e = news_same q r f g vs e
news_same q r f g (Int n ∷ vs) e = news_same q r f g vs e
news_same q r f g (Sym n ∷ vs) e = news_same q r f g vs e
news_same q r f g (Str n ∷ vs) e = news_same q r f g vs e
news_same q r f g (To t ∷ vs) e =
    by (is_new q f t.id) (is_new r g t.id) (e t.id) (news_same q r f g vs e)
    (news_same q r (f ++ t.id ∷ []) (g ++ t.id ∷ []) vs (λ j. new-append q f t.id j ∙ ap (λ b. b && not (same_id t.id j)) (e j) ∙ sym (new-append r g t.id j)))
  where
    by : (a b : Bool) → a ≡ b → news q f vs ≡ news r g vs → news q (f ++ t.id ∷ []) vs ≡ news r (g ++ t.id ∷ []) vs
        → cond a (t.id ∷ news q (f ++ t.id ∷ []) vs) (news q f vs) ≡ cond b (t.id ∷ news r (g ++ t.id ∷ []) vs) (news r g vs)
    by true true k x y = ap (λ (xs : List Id). t.id ∷ xs) y
    by true false k x y = absurd (cc)
    by false true k x y = absurd (cc)
    by false false k x y = x

news-append : (q : Id → Bool) (f : List Id) (vs ws : List Val) → news q f (vs ++ ws) ≡ news q f vs ++ news q (f ++ news q f vs) ws
news-append q f [] ws = ap (λ (f : List Id). news q f ws) (sym (append-nil f))
news-append q f (Nil ∷ vs) ws = news-append q f vs ws
news-append q f (False ∷ vs) ws = news-append q f vs ws
news-append q f (True ∷ vs) ws = news-append q f vs ws
news-append q f (Int n ∷ vs) ws = news-append q f vs ws
news-append q f (Sym n ∷ vs) ws = news-append q f vs ws
news-append q f (Str n ∷ vs) ws = news-append q f vs ws
news-append q f (To t ∷ vs) ws = by (is_new q f t.id) (news-append q f vs ws) (news-append q (f ++ t.id ∷ []) vs ws)
  where
    by : (b : Bool) → news q f (vs ++ ws) ≡ news q f vs ++ news q (f ++ news q f vs) ws
        → news q (f ++ t.id ∷ []) (vs ++ ws) ≡ news q (f ++ t.id ∷ []) vs ++ news q ((f ++ t.id ∷ []) ++ news q (f ++ t.id ∷ []) vs) ws
        → cond b (t.id ∷ news q (f ++ t.id ∷ []) (vs ++ ws)) (news q f (vs ++ ws))
        ≡ cond b (t.id ∷ news q (f ++ t.id ∷ []) vs) (news q f vs) ++ news q (f ++ cond b (t.id ∷ news q (f ++ t.id ∷ []) vs) (news q f vs)) ws
    by true x y = ap (λ (xs : List Id). t.id ∷ xs) (y ∙ ap (λ (g : List Id). news q (f ++ t.id ∷ []) vs ++ news q g ws) (append_assoc f (t.id ∷ []) (news q (f ++ t.id ∷ []) vs)))
    by false x y = x

and_true : (b : Bool) → b && true ≡ b
and_true true = refl
and_true false = refl

and_false : (b : Bool) → b && false ≡ false
and_false true = refl
and_false false = refl

-- ids of one thread that differ have serial numbers that differ
apart_serials : (a b : Id) → same_id a b ≡ false → a.thread ≡ b.thread → b.serial ≡ a.serial → ⊥
apart_serials a b e same serials =
    let one : a ≡ b = ap (λ (n : ℕ). let x : Id = record { thread = n; serial = a.serial } in x) same ∙ ap (λ (n : ℕ). let x : Id = record { thread = b.thread; serial = n } in x) (sym serials) in
    let own : same_id a b ≡ true = ap (λ (x : Id). same_id a x) (sym one) ∙ own_id a in
    absurd (cc)
  where
    own_id : (x : Id) → same_id x x ≡ true
    own_id x = rw (own x.thread, own x.serial) refl
      where
        own : (n : ℕ) → (n == n) ≡ true
        own n = eq-eqb n n refl

-- another thing is where it was when one has left
left_other : (h : Private) (at id : Id) (x : Thing) → same_id at id ≡ false → held h at ≡ Some x → held (left h at) id ≡ held h id
left_other h at id x e k = by (id.thread == h.thread) refl
  where
    in_other : (b : Bool) (o : Option Thing) → b ≡ false → cond b o None ≡ None
    in_other true o f = absurd (cc)
    in_other false o f = refl

    by : (b : Bool) → (id.thread == h.thread) ≡ b → held (left h at) id ≡ held h id
    by true f = left_here h id at (apart_serials at id e (held_own h at x k ∙ sym (eqb-true id.thread h.thread f)))
    by false f = in_other (id.thread == h.thread) _ f ∙ sym (in_other (id.thread == h.thread) _ f)

-- what is private when one has left
private_left : (k : Private) (id j : Id) (x : Thing) → held k id ≡ Some x → is_private (left k id) j ≡ is_private k j && not (same_id id j)
private_left k id j x e = by (same_id id j) refl
  where
    by : (b : Bool) → same_id id j ≡ b → is_private (left k id) j ≡ is_private k j && not b
    by true q = ap (λ (i : Id). is_private (left k id) i) (sym (same_ids id j q)) ∙ (ap is_some (left_gone k id id refl) ∙ sym (and_false (is_private k j)))
    by false q = ap is_some (left_other k id j x q e) ∙ sym (and_true (is_private k j))

last_of : (a d s p : Bool) → a && not (d || (s || p)) ≡ ((a && not d) && not s) && not p
last_of true true s p = refl
last_of true false true p = refl
last_of true false false p = refl
last_of false d s p = refl

at_place : (xs ys : List Id) (id : Id) → slice_get (xs ++ id ∷ ys) (length xs) ≡ Some id
at_place [] ys id = refl
at_place (x ∷ xs) ys id = at_place xs ys id

-- from where some have left on
spreads : (h : Private) {k h' : Private} {vs : List Val} {ms : List Item} → Leaves k vs ms h' → (gone : List Id)
    → ((j : Id) → is_private k j ≡ is_private h j && not (has gone j)) → ((j : Id) (x : Thing) → held k j ≡ Some x → held h j ≡ Some x)
    → Spreads h (gone ++ news (is_private k) [] vs) (length gone) (gone ++ item_ids ms)
spreads h (nothing_waits k) gone e f = rw (append-nil gone) (ends gone (length gone) refl)
spreads h (no_thing k h' v vs ms apart l) gone e f =
    subst (λ (xs : List Id). Spreads h (gone ++ xs) (length gone) (gone ++ item_ids ms)) (sym (news_plain (is_private k) [] v vs apart)) (spreads h l gone e f)
spreads h (elsewhere k h' r vs ms a l) gone e f =
    subst (λ (b : Bool). Spreads h (gone ++ cond b (r.id ∷ news (is_private k) (r.id ∷ []) vs) (news (is_private k) [] vs)) (length gone) (gone ++ item_ids ms))
    (sym (ap (λ (o : Option Thing). is_some o && true) a)) (spreads h l gone e f)
spreads h (moves k h' r x vs ms a l) gone e f =
    let id = r.id in
    let k2 = left k id in
    let P = news (is_private k2) [] vs in
    let found = gone ++ id ∷ P in
    let e2 : (j : Id) → is_private k2 j ≡ is_private h j && not (has (gone ++ id ∷ []) j)
    = λ j. private_left k id j x a ∙ (ap (λ (b : Bool). b && not (same_id id j)) (e j) ∙ sym (new-append (is_private h) gone id j)) in
    let later = spreads h l (gone ++ id ∷ []) e2 (λ j y q. f j y (still_held k (record { id = id; thing = x } ∷ []) j y q)) in
    let first : news (is_private k) (id ∷ []) vs ≡ P
    = news_same (is_private k) (is_private k2) (id ∷ []) [] vs
    (λ j. one_more (is_private k j) false (same_id id j)
    ∙ (ap (λ (b : Bool). b && not (same_id id j)) (and_true (is_private k j)) ∙ (sym (private_left k id j x a) ∙ sym (and_true (is_private k2 j))))) in
    let more : news (is_private h) found (mentioned x) ≡ news (is_private k2) P (mentioned x)
    = news_same (is_private h) (is_private k2) found P (mentioned x)
    (λ j. ap (λ (b : Bool). is_private h j && not b) (has-append gone (id ∷ P) j)
    ∙ (last_of (is_private h j) (has gone j) (same_id id j) (has P j)
    ∙ ap (λ (b : Bool). b && not (has P j)) (ap (λ (b : Bool). b && not (same_id id j)) (sym (e j)) ∙ sym (private_left k id j x a)))) in
    let whole : (gone ++ id ∷ []) ++ news (is_private k2) [] (vs ++ mentioned x) ≡ found ++ news (is_private h) found (mentioned x)
    = ap (λ (xs : List Id). (gone ++ id ∷ []) ++ xs) (news-append (is_private k2) [] vs (mentioned x))
    ∙ (append_assoc gone (id ∷ []) _ ∙ (sym (append_assoc gone (id ∷ P) _) ∙ ap (λ (xs : List Id). found ++ xs) (sym more))) in
    let place : length (gone ++ id ∷ []) ≡ length gone + 1 = length-append gone (id ∷ []) in
    let out : (gone ++ id ∷ []) ++ item_ids ms ≡ gone ++ id ∷ item_ids ms = append_assoc gone (id ∷ []) (item_ids ms) in
    let next : Spreads h (found ++ news (is_private h) found (mentioned x)) (length gone + 1) (gone ++ id ∷ item_ids ms) = rw (whole, place, out) at later in
    let one : Spreads h found (length gone) (gone ++ id ∷ item_ids ms) = goes found (gone ++ id ∷ item_ids ms) (length gone) id x (at_place gone P id) (f id x a) next in
    let start : news (is_private k) [] (To r ∷ vs) ≡ id ∷ P
    = ap (λ (o : Option Thing). cond (is_some o && true) (id ∷ news (is_private k) (id ∷ []) vs) (news (is_private k) [] vs)) a ∙ ap (λ (xs : List Id). id ∷ xs) first in
    subst (λ (xs : List Id). Spreads h (gone ++ xs) (length gone) (gone ++ id ∷ item_ids ms)) (sym start) one

-- what moves is what is reached, in its order
pub leaves_reach : (h h' : Private) (vs : List Val) (ms : List Item) → Leaves h vs ms h' → Reaches h vs (item_ids ms)
leaves_reach h h' vs ms l = spreads h l [] (λ j. sym (and_true (is_private h j))) (λ j x e. e)
