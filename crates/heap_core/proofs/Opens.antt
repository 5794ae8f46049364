-- The law at the opening.
use Rattle.std.proofs.Common.{◌≡◌, ◌≢◌, ◌≤◌, ◌⊎◌, ◌==◌, ◌||◌, ◌-◌, ℕ, zero, suc, ◌+◌, ◌*◌, Bool, true, false, List, [], ◌∷◌, length, set, get_or, replicate, Option, Some, None, refl, sym, ap, ◌∙◌, subst, inl, inr, ⊎_elim, arith, length-set, eq-eqb, true≢false, get_or-set_other}
use Rattle.std.proofs.lemmas.List.{length-replicate, get_or-set_same}
use mathlib.Core.Option.{some, some-injective, some-ne-none}
use lib.ListN.{get_elem?}
use Rattle.atomic_table.specs.Table.{opening}
use Rattle.rb_model.specs.declared.value.Id.{Id}
use Rattle.rb_shared.specs.Lists.{Has, Each}
use Rattle.rb_shared.specs.Store.{globals}
use Rattle.rb_shared.proofs.Runs.{each_has}
use Rattle.shape_core.specs.declared.edge.Edge.TheVariants.{Share}
use Rattle.shape_core.specs.Shape.{Shape, root_of}
use Rattle.shared_run.specs.Run as runs
use Rattle.shared_run.proofs.Starting.{first_run, first_is_run, first_knows}
use Rattle.shared_run.proofs.Sinking.{first_stands as sink_stands}
use Rattle.heap_core.specs.Places.{opening_words, used_word, turn_word, first_root, first_shared, tree_lock, shape_words}
use Rattle.heap_core.specs.declared.line.Line.{Line}
use Rattle.heap_core.specs.Handing.{Plan, Handed, Slot, numbers}
use Rattle.heap_core.specs.Blocks.{Block, ObjectAt, ShapeAt, LockAt, TheTurn, LinkAt, place_of, size_of, id_of, HasHome, Inside, number_of}
use Rattle.heap_core.specs.Charges.{globals_shape}
use Rattle.heap_core.specs.View.{Region, Holder, Idle, Locked, InOwn, opening_blocks, first_holder, busy_at}
use Rattle.heap_core.specs.Moment.{Moment, At}
use Rattle.heap_core.specs.Locks.{LockStands}
use Rattle.heap_core.specs.Objects.{object_tag, shape_of}
use Rattle.heap_core.specs.Shapes.{flagged, edge_word, first_child}
use Rattle.heap_core.specs.Links.{IsNth}
use Rattle.heap_core.specs.Opening.{IsOpening, IsFirst, globals_class, laid_in, first_lines, first_table}
use Rattle.heap_core.specs.Turns.{Any, LinesTell}
use Rattle.heap_core.specs.Rule.{Stands, Kept, LiesIn, Below, moment, taken_count}
use Rattle.heap_core.proofs.Holders.{none_shown}

-- ---- the words

zeros : (n i : ℕ) → ◌≡◌ {A = ℕ} (get_or (replicate n 0) i 0) 0
zeros zero i = refl
zeros (suc n) zero = refl
zeros (suc n) (suc i) = zeros n i

or_left : (a b : Bool) → (a || b) ≡ false → a ≡ false
or_left true b e = e
or_left false b e = refl

or_right : (a b : Bool) → (a || b) ≡ false → b ≡ false
or_right true b e = absurd (true≢false e)
or_right false b e = e

not_at : (i j : ℕ) → (i == j) ≡ false → i ≢ j
not_at i j off e = true≢false (sym (eq-eqb i j e) ∙ off)

-- a word that is stored keeps what it is until another is stored there
module _ (ws : List ℕ) (fit : opening_words ≤ length ws) where
  abbrev ws_a : List ℕ
  ws_a = set ws 0 (object_tag globals_class)

  abbrev ws_b : List ℕ
  ws_b = set ws_a (shape_of 0) first_shared

  abbrev ws_c : List ℕ
  ws_c = set ws_b used_word opening_words

  abbrev ws_d : List ℕ
  ws_d = set ws_c first_root (flagged globals_class false)

  abbrev ws_e : List ℕ
  ws_e = set ws_d (first_child first_root) first_shared

  abbrev ws_f : List ℕ
  ws_f = set ws_e first_shared (flagged globals_class true)

  abbrev ws_g : List ℕ
  ws_g = set ws_f 25 first_root

  abbrev ws_h : List ℕ
  ws_h = set ws_g 26 (edge_word Share)

  la : length ws_a ≡ length ws
  la = length-set ws 0 (object_tag globals_class)

  lb : length ws_b ≡ length ws
  lb = length-set ws_a (shape_of 0) first_shared ∙ la

  lc : length ws_c ≡ length ws
  lc = length-set ws_b used_word opening_words ∙ lb

  ld : length ws_d ≡ length ws
  ld = length-set ws_c first_root (flagged globals_class false) ∙ lc

  le : length ws_e ≡ length ws
  le = length-set ws_d (first_child first_root) first_shared ∙ ld

  lf : length ws_f ≡ length ws
  lf = length-set ws_e first_shared (flagged globals_class true) ∙ le

  lg : length ws_g ≡ length ws
  lg = length-set ws_f 25 first_root ∙ lf

  pub laid_length : length (laid_in ws) ≡ length ws
  laid_length = length-set ws_g 26 (edge_word Share) ∙ lg

  past_h : (i : ℕ) → i ≢ 26 → get_or ws_h i 0 ≡ get_or ws_g i 0
  past_h i ne = get_or-set_other ws_g 26 i (edge_word Share) 0 ne

  past_g : (i : ℕ) → i ≢ 25 → i ≢ 26 → get_or ws_h i 0 ≡ get_or ws_f i 0
  past_g i ng nh = past_h i nh ∙ get_or-set_other ws_f 25 i first_root 0 ng

  past_f : (i : ℕ) → i ≢ 24 → i ≢ 25 → i ≢ 26 → get_or ws_h i 0 ≡ get_or ws_e i 0
  past_f i nf ng nh = past_g i ng nh ∙ get_or-set_other ws_e first_shared i (flagged globals_class true) 0 nf

  past_e : (i : ℕ) → i ≢ 22 → i ≢ 24 → i ≢ 25 → i ≢ 26 → get_or ws_h i 0 ≡ get_or ws_d i 0
  past_e i ne nf ng nh = past_f i nf ng nh ∙ get_or-set_other ws_d (first_child first_root) i first_shared 0 ne

  past_d : (i : ℕ) → i ≢ 17 → i ≢ 22 → i ≢ 24 → i ≢ 25 → i ≢ 26 → get_or ws_h i 0 ≡ get_or ws_c i 0
  past_d i nd ne nf ng nh = past_e i ne nf ng nh ∙ get_or-set_other ws_c first_root i (flagged globals_class false) 0 nd

  past_c : (i : ℕ) → i ≢ 14 → i ≢ 17 → i ≢ 22 → i ≢ 24 → i ≢ 25 → i ≢ 26 → get_or ws_h i 0 ≡ get_or ws_b i 0
  past_c i nc nd ne nf ng nh = past_d i nd ne nf ng nh ∙ get_or-set_other ws_b used_word i opening_words 0 nc

  past_b : (i : ℕ) → i ≢ 4 → i ≢ 14 → i ≢ 17 → i ≢ 22 → i ≢ 24 → i ≢ 25 → i ≢ 26 → get_or ws_h i 0 ≡ get_or ws_a i 0
  past_b i nb nc nd ne nf ng nh = past_c i nc nd ne nf ng nh ∙ get_or-set_other ws_a (shape_of 0) i first_shared 0 nb

  pub is_opening : ((i : ℕ) → get_or ws i 0 ≡ 0) → IsOpening (λ i. get_or (laid_in ws) i 0)
  is_opening empty = record {
    globals = past_b 0 (λ q. omega (arith, q)) (λ q. omega (arith, q)) (λ q. omega (arith, q)) (λ q. omega (arith, q)) (λ q. omega (arith, q)) (λ q. omega (arith, q)) (λ q. omega (arith, q)) ∙ get_or-set_same ws 0 (object_tag globals_class) 0 (omega (arith, fit));
    shape = past_c 4 (λ q. omega (arith, q)) (λ q. omega (arith, q)) (λ q. omega (arith, q)) (λ q. omega (arith, q)) (λ q. omega (arith, q)) (λ q. omega (arith, q)) ∙ get_or-set_same ws_a (shape_of 0) first_shared 0 (omega (arith, fit, la));
    used = past_d 14 (λ q. omega (arith, q)) (λ q. omega (arith, q)) (λ q. omega (arith, q)) (λ q. omega (arith, q)) (λ q. omega (arith, q)) ∙ get_or-set_same ws_b used_word opening_words 0 (omega (arith, fit, lb));
    root = past_e 17 (λ q. omega (arith, q)) (λ q. omega (arith, q)) (λ q. omega (arith, q)) (λ q. omega (arith, q)) ∙ get_or-set_same ws_c first_root (flagged globals_class false) 0 (omega (arith, fit, lc));
    child = past_f 22 (λ q. omega (arith, q)) (λ q. omega (arith, q)) (λ q. omega (arith, q)) ∙ get_or-set_same ws_d (first_child first_root) first_shared 0 (omega (arith, fit, ld));
    shared = past_g 24 (λ q. omega (arith, q)) (λ q. omega (arith, q)) ∙ get_or-set_same ws_e first_shared (flagged globals_class true) 0 (omega (arith, fit, le));
    parent = past_h 25 (λ q. omega (arith, q)) ∙ get_or-set_same ws_f 25 first_root 0 (omega (arith, fit, lf));
    edge = get_or-set_same ws_g 26 (edge_word Share) 0 (omega (arith, fit, lg));
    rest = λ i off.
        let o1 = or_right (i == 0) (i == 4 || (i == 14 || (i == 17 || (i == 22 || (i == 24 || (i == 25 || i == 26)))))) off in
        let o2 = or_right (i == 4) (i == 14 || (i == 17 || (i == 22 || (i == 24 || (i == 25 || i == 26))))) o1 in
        let o3 = or_right (i == 14) (i == 17 || (i == 22 || (i == 24 || (i == 25 || i == 26)))) o2 in
        let o4 = or_right (i == 17) (i == 22 || (i == 24 || (i == 25 || i == 26))) o3 in
        let o5 = or_right (i == 22) (i == 24 || (i == 25 || i == 26)) o4 in
        let o6 = or_right (i == 24) (i == 25 || i == 26) o5 in
        past_b i (not_at i 4 (or_left (i == 4) (i == 14 || (i == 17 || (i == 22 || (i == 24 || (i == 25 || i == 26))))) o1))
        (not_at i 14 (or_left (i == 14) (i == 17 || (i == 22 || (i == 24 || (i == 25 || i == 26)))) o2))
        (not_at i 17 (or_left (i == 17) (i == 22 || (i == 24 || (i == 25 || i == 26))) o3))
        (not_at i 22 (or_left (i == 22) (i == 24 || (i == 25 || i == 26)) o4))
        (not_at i 24 (or_left (i == 24) (i == 25 || i == 26) o5))
        (not_at i 25 (or_left (i == 25) (i == 26) o6))
        (not_at i 26 (or_right (i == 25) (i == 26) o6))
        ∙ (get_or-set_other ws 0 i (object_tag globals_class) 0 (not_at i 0 (or_left (i == 0) (i == 4 || (i == 14 || (i == 17 || (i == 22 || (i == 24 || (i == 25 || i == 26)))))) off)) ∙ empty i);
  }

pub opened_words : (n : ℕ) → opening_words ≤ n → (length (laid_in (replicate n 0)) ≡ n) × IsOpening (λ i. get_or (laid_in (replicate n 0)) i 0)
opened_words n fit =
    let z : ℕ = 0 in
    let long : length (replicate n z) ≡ n = length-replicate n z in
    (laid_length (replicate n z) (omega (arith, long, fit)) ∙ long, is_opening (replicate n z) (omega (arith, long, fit)) (zeros n))

-- ---- the blocks

pub first_each : (P : Block → Type 0) → P (ObjectAt globals 0) → P TheTurn → P (LockAt tree_lock) → P (ShapeAt (root_of globals_class) first_root) → P (ShapeAt globals_shape first_shared) → P (LinkAt first_root (first_root + 5) first_shared 0)
    → (b : Block) → Has opening_blocks b → P b
first_each P object turn lock root shared link b (inl e) = subst P (sym e) object
first_each P object turn lock root shared link b (inr (inl e)) = subst P (sym e) turn
first_each P object turn lock root shared link b (inr (inr (inl e))) = subst P (sym e) lock
first_each P object turn lock root shared link b (inr (inr (inr (inl e)))) = subst P (sym e) root
first_each P object turn lock root shared link b (inr (inr (inr (inr (inl e))))) = subst P (sym e) shared
first_each P object turn lock root shared link b (inr (inr (inr (inr (inr (inl e)))))) = subst P (sym e) link
first_each P object turn lock root shared link b (inr (inr (inr (inr (inr (inr h)))))) = absurd h

-- blocks that follow one another share no word
abbrev Ordered : List Block → Type 0
Ordered [] = Unit {0}
Ordered (b ∷ bs) = Each (λ c. (place_of b + size_of b ≤ place_of c) ⊎ (size_of c ≡ 0)) bs × Ordered bs

ordered_apart : (bs : List Block) → Ordered bs → (i : ℕ) (b c : Block) → Has bs b → Has bs c → Inside i b → Inside i c → b ≡ c
ordered_apart [] o i b c h g ib ic = absurd h
ordered_apart (x ∷ xs) o i b c (inl p) (inl q) ib ic = p ∙ sym q
ordered_apart (x ∷ xs) o i b c (inl p) (inr q) ib ic =
    let hi = ib.1 in let lo = ic.0 in let far = ic.1 in let pp = ap place_of p in let ps = ap size_of p in
    absurd (⊎_elim (λ (behind : place_of x + size_of x ≤ place_of c). omega (arith, behind, hi, lo, pp, ps)) (λ (none : size_of c ≡ 0). omega (arith, none, lo, far)) (each_has (λ c. (place_of x + size_of x ≤ place_of c) ⊎ (size_of c ≡ 0)) xs c o.0 q))
ordered_apart (x ∷ xs) o i b c (inr p) (inl q) ib ic =
    let hi = ic.1 in let lo = ib.0 in let far = ib.1 in let pp = ap place_of q in let ps = ap size_of q in
    absurd (⊎_elim (λ (behind : place_of x + size_of x ≤ place_of b). omega (arith, behind, hi, lo, pp, ps)) (λ (none : size_of b ≡ 0). omega (arith, none, lo, far)) (each_has (λ c. (place_of x + size_of x ≤ place_of c) ⊎ (size_of c ≡ 0)) xs b o.0 p))
ordered_apart (x ∷ xs) o i b c (inr p) (inr q) ib ic = ordered_apart xs o.1 i b c p q ib ic

first_ordered : Ordered opening_blocks
first_ordered = (
  (inl (omega arith), (inl (omega arith), (inl (omega arith), (inl (omega arith), (inr refl, tt))))),
  ((inl (omega arith), (inl (omega arith), (inl (omega arith), (inr refl, tt)))), ((inl (omega arith), (inl (omega arith), (inr refl, tt))), ((inl (omega arith), (inr refl, tt)), ((inr refl, tt), (tt, tt))))),
)

-- one of them is a thing
only_object : (b : Block) → Has opening_blocks b → (id : Id) → id_of b ≡ Some id → b ≡ ObjectAt globals 0
only_object b h id is = first_each (λ b. id_of b ≡ Some id → b ≡ ObjectAt globals 0) (λ _. refl) (λ e. absurd (gone e)) (λ e. absurd (gone e)) (λ e. absurd (gone e)) (λ e. absurd (gone e)) (λ e. absurd (gone e)) b h is
  where
    gone : ◌≡◌ {A = Option Id} None (Some id) → ⊥
    gone e = cc

abbrev shape_in : Block → Shape
shape_in (ShapeAt shape at) = shape
shape_in b = root_of 0

-- a shape is in one place alone
first_shapes : (shape : Shape) (at : ℕ) → Has opening_blocks (ShapeAt shape at) → ((shape ≡ root_of globals_class) × (at ≡ first_root)) ⊎ ((shape ≡ globals_shape) × (at ≡ first_shared))
first_shapes shape at (inl e) = absurd (cc)
first_shapes shape at (inr (inl e)) = absurd (cc)
first_shapes shape at (inr (inr (inl e))) = absurd (cc)
first_shapes shape at (inr (inr (inr (inl e)))) = inl (ap shape_in e, ap place_of e)
first_shapes shape at (inr (inr (inr (inr (inl e))))) = inr (ap shape_in e, ap place_of e)
first_shapes shape at (inr (inr (inr (inr (inr (inl e)))))) = absurd (cc)
first_shapes shape at (inr (inr (inr (inr (inr (inr h)))))) = absurd h

-- the one link is that to the first child of the first root
first_link : Has opening_blocks (LinkAt first_root (first_root + 5) first_shared 0)
first_link = inr (inr (inr (inr (inr (inl refl)))))

abbrev number_in : Block → ℕ
number_in (LinkAt home link to number) = number
number_in b = 0

only_link : (home link to number : ℕ) → Has opening_blocks (LinkAt home link to number) → number ≡ 0
only_link home link to number h = first_each (λ b. number_in b ≡ 0) refl refl refl refl refl refl (LinkAt home link to number) h

-- each is the first of its row
first_number : (number at : ℕ) → IsNth opening_blocks number at → number ≡ 0
first_number number at (inl first) = first.0
first_number number at (inr p) = only_link p.0 p.1 at number p.2

two_shapes : (shape : Shape) → shape ≡ root_of globals_class → shape ≡ globals_shape → ⊥
two_shapes shape p q = let h : [] ≡ Share ∷ [] = ap (λ (x : Shape). x.path) (sym p ∙ q) in cc

abbrev lines_none : ℕ → List (Option ℕ)
lines_none n = replicate n None

none_at : (n i t : ℕ) → get_elem? (lines_none n) i ≡ some (Some t) → ⊥
none_at zero i t e = some-ne-none (Some t) (sym e)
none_at (suc n) zero t e = let h : None ≡ Some t = some-injective None (Some t) e in cc
none_at (suc n) (suc i) t e = none_at n i t e

first_line : (slots i t : ℕ) → get_elem? (first_lines slots) i ≡ some (Some t) → i ≡ 0
first_line slots zero t e = refl
first_line slots (suc i) t e = absurd (none_at (slots - 1) i t e)

main_line : (slots i t : ℕ) → get_elem? (first_lines slots) i ≡ some (Some t) → t ≡ 0
main_line slots zero t e = sym (number 0 t (some-injective (Some 0) (Some t) e))
  where
    number : (n m : ℕ) → Some n ≡ Some m → n ≡ m
    number n m h = cc
main_line slots (suc i) t e = absurd (none_at (slots - 1) i t e)

none_taken : (n : ℕ) → taken_count (lines_none n) ≡ 0
none_taken zero = refl
none_taken (suc n) = none_taken n

-- the first table has these lines, and that of the main thread alone
numbers_first : (slots : ℕ) → numbers (first_table slots) ≡ first_lines slots
numbers_first slots = ap (λ l. Some 0 ∷ l) (free (slots - 1))
  where
    free : (n : ℕ) → numbers (replicate n None) ≡ lines_none n
    free zero = refl
    free (suc n) = ap (λ l. None ∷ l) (free n)

only_main : (slots : ℕ) (l : Line) → Has (first_table slots) (Some l) → l ≡ record { number = 0; over = false }
only_main slots l (inl e) = line_is l (record { number = 0; over = false }) e
  where
    line_is : (a b : Line) → Some a ≡ Some b → a ≡ b
    line_is a b h = cc
only_main slots l (inr h) = absurd (none_has (slots - 1) l h)
  where
    none_has : (n : ℕ) (l : Line) → Has (replicate n None) (Some l) → ⊥
    none_has zero l h = h
    none_has (suc n) l (inl e) = cc
    none_has (suc n) l (inr h) = none_has n l h

-- ---- the law

pub starts : (ws : List ℕ) (what : Handed) (p : Plan) → what.lines ≡ first_table p.slots → what.sink ≡ p.begun → what.started ≡ 0 → p.begun.failed ≡ false → 1 ≤ p.slots → opening_words ≤ p.words → length ws ≡ p.words → IsOpening (λ i. get_or ws i 0) → Kept p (opening ws (Some what ∷ []) (first_holder p))
starts ws what p lines_are sink_is none_started fine some_slots some_words size o = record {
  run = first_run;
  blocks = opening_blocks;
  lines = first_lines p.slots;
  is_run = first_is_run p.slots;
  knows = λ j k a _. subst (λ (u : Holder). runs.Knows p.slots first_run u.view) (only j k a).1 (first_knows p.slots);
  apart = λ i j n k l a b _ _. (only i k a).0 ∙ sym (only j l b).0;
  seated = record {
    long = let z : ℕ = p.slots - 1 in let long : length (lines_none z) ≡ z = length-replicate z None in omega (arith, long, some_slots);
    main = refl;
    taken = λ i t a. inl (main_line p.slots i t a);
    all = λ t u. absurd u.1;
    count = ap suc (none_taken (p.slots - 1));
    once = λ i j t a b. first_line p.slots i t a ∙ sym (first_line p.slots j t b);
    mine = λ j k a _. subst (λ (u : Holder). get_elem? (first_lines p.slots) u.line ≡ some (Some u.view.thread)) (only j k a).1 refl;
    due = λ j n k a _ e. absurd (let h : None ≡ Some n = ap (λ (u : Holder). u.view.unsplit) (only j k a).1 ∙ e in cc);
  };
  laid = record {
    apart = ordered_apart opening_blocks first_ordered;
    beside = λ i j k b a _ own _. nobody i j k a own;
    alone = λ i j l k u a b own _. absurd (nobody i j k a own);
    blocks_in = λ b h. first_each (λ b. (place_of b + size_of b ≤ get_or ws used_word 0) × (Inside used_word b → ⊥))
        (omega (arith, used), λ i. let hi = i.1 in omega (arith, hi)) (omega (arith, used), λ i. let lo = i.0 in omega (arith, lo)) (omega (arith, used), λ i. let lo = i.0 in omega (arith, lo))
        (omega (arith, used), λ i. let lo = i.0 in omega (arith, lo)) (omega (arith, used), λ i. let lo = i.0 in omega (arith, lo))
        (omega (arith, used), λ i. let lo = i.0 in let hi = i.1 in omega (arith, lo, hi)) b h;
    single = λ i j k o p a h. absurd (empty j k o a h);
    own_in = λ j k o a h. absurd (empty j k o a h);
    opening_in = omega (arith, used);
    used_in = omega (arith, used, some_words, size);
    size = λ j k a _. subst (λ (u : Holder). u.size ≡ length ws) (only j k a).1 (sym size);
  };
  each = first_stands;
  one = λ id b c hb hc ib ic. only_object b hb id ib ∙ sym (only_object c hc id ic);
  one_thread = λ n b c hb hc ib ic. absurd (first_each (λ b. number_of b ≡ Some n → ⊥) (no_number n) (no_number n) (no_number n) (no_number n) (no_number n) (no_number n) b hb ib);
  one_shape = λ shape at to ha ht. ⊎_elim
      (λ (x : (shape ≡ root_of globals_class) × (at ≡ first_root)). ⊎_elim
      (λ (y : (shape ≡ root_of globals_class) × (to ≡ first_root)). x.1 ∙ sym y.1)
      (λ (y : (shape ≡ globals_shape) × (to ≡ first_shared)). absurd (two_shapes shape x.0 y.0))
      (first_shapes shape to ht))
      (λ (x : (shape ≡ globals_shape) × (at ≡ first_shared)). ⊎_elim
      (λ (y : (shape ≡ root_of globals_class) × (to ≡ first_root)). absurd (two_shapes shape y.0 x.0))
      (λ (y : (shape ≡ globals_shape) × (to ≡ first_shared)). x.1 ∙ sym y.1)
      (first_shapes shape to ht))
      (first_shapes shape at ha);
  turn = inr (inl refl);
  lock = inr (inr (inl refl));
  tree = λ j k a _ _ b h _. subst (λ (u : Holder). Has u.blocks b) (only j k a).1 h;
  root = inr (inr (inr (inl refl)));
  linked = λ shape at h. ⊎_elim
      (λ (x : (shape ≡ root_of globals_class) × (at ≡ first_root)). (0, inl (refl, x.1)))
      (λ (x : (shape ≡ globals_shape) × (at ≡ first_shared)). (0, inr (first_root, first_root + 5, subst (λ to. Has opening_blocks (LinkAt first_root (first_root + 5) to 0)) (sym x.1) first_link)))
      (first_shapes shape at h);
  once = λ number other at nth also. first_number number at nth ∙ sym (first_number other at also);
  few = λ number at nth. let n = first_number number at nth in omega (arith, n, used);
  deep = λ shape at h. ⊎_elim
      (λ (x : (shape ≡ root_of globals_class) × (at ≡ first_root)). let n = ap (λ (y : Shape). length y.path) x.0 in omega (arith, n, used))
      (λ (x : (shape ≡ globals_shape) × (at ≡ first_shared)). let n = ap (λ (y : Shape). length y.path) x.0 in omega (arith, n, used))
      (first_shapes shape at h);
  homes = first_each (HasHome opening_blocks) tt tt tt tt tt (root_of globals_class, inr (inr (inr (inl refl))));
  known = λ j k b a kn. subst (λ (u : Holder). Has u.blocks b) (sym (only j k a).1) kn;
  lie = λ j k a _. subst (λ (u : Holder). Each (LiesIn u.blocks) u.view.known) (only j k a).1 ((ObjectAt globals 0, inl refl, refl, refl), tt);
  own = λ i j k o a h. absurd (empty j k o a h);
  begun = let z : opening_words + 8 * 1 + 0 ≤ get_or ws used_word 0 + 8 = omega (arith, used) in z;
  used = let z : get_or ws used_word 0 + shape_words * 2 ≡ opening_words + 0 + 14 + 0 = omega (arith, used) in z;
  made = λ shape at h. ⊎_elim
      (λ (x : (shape ≡ root_of globals_class) × (at ≡ first_root)). inl (inl x.0))
      (λ (x : (shape ≡ globals_shape) × (at ≡ first_shared)). inl (inr (inl x.0)))
      (first_shapes shape at h);
  late = λ j k a _. subst (λ (u : Holder). Each (runs.MayStill p.slots first_run u.view.thread) u.late) (only j k a).1 tt;
  refused = none_refused;
  spent = λ j k a e. absurd (true≢false (ap (λ (u : Holder). u.live) (only j k a).1 ∙ e));
  shows = λ j k a h e. absurd (none_shown h (ap (λ (u : Holder). u.front) (only j k a).1 ∙ e));
}
  where
    no_number : (n : ℕ) → ◌≡◌ {A = Option ℕ} None (Some n) → ⊥
    no_number n e = cc

    w : ℕ → ℕ
    w i = get_or ws i 0

    m : Moment
    m = moment p (opening ws (Some what ∷ []) (first_holder p)) first_run (first_lines p.slots) opening_blocks

    used : get_or ws used_word 0 ≡ opening_words
    used = o.used

    only : (j : ℕ) (k : Holder) → At (first_holder p ∷ []) j k → (j ≡ 0) × (first_holder p ≡ k)
    only zero k e = (refl, some-injective (first_holder p) k e)
    only (suc j) k e = absurd (some-ne-none k (sym e))

    empty : (j : ℕ) (k : Holder) (o : Region) → At (first_holder p ∷ []) j k → Has k.own o → ⊥
    empty j k o a h = subst (λ (u : Holder). Has u.own o) (sym (only j k a).1) h

    nobody : (i j : ℕ) (k : Holder) → At (first_holder p ∷ []) j k → InOwn i k → ⊥
    nobody i j k a own = empty j k own.0 a own.1

    none_refused : (t : ℕ) → Each (Below (get_or ws used_word 0) (length ws)) (runs.refused_at ([] ∷ []) t)
    none_refused zero = tt
    none_refused (suc t) = tt

    no_lock : (place i : ℕ) → LockStands (moment p (opening ws (Some what ∷ []) (first_holder p)) first_run (first_lines p.slots) opening_blocks) place i
    no_lock place i = (0, λ j k a _ busy. absurd (let h : Idle ≡ Locked = ap (λ (u : Holder). busy_at place u.doing) (only j k a).1 ∙ busy in cc))

    first_tell : LinesTell first_run (first_table p.slots)
    first_tell = record {
      known = λ l h. let is = only_main p.slots l h in let z : l.number ≡ 0 = ap (λ (x : Line). x.number) is in omega (arith, z);
      over = λ l h. let is = only_main p.slots l h in ap (λ (x : Line). x.over) is;
      all = λ t lt going. (record { number = 0; over = false }, inl refl, let z : 0 ≡ t = omega (arith, lt) in z);
    }

    first_stands : (b : Block) → Has opening_blocks b → Stands (moment p (opening ws (Some what ∷ []) (first_holder p)) first_run (first_lines p.slots) opening_blocks) b
    first_stands b h = first_each (Stands (moment p (opening ws (Some what ∷ []) (first_holder p)) first_run (first_lines p.slots) opening_blocks))
        record {
          class = globals_class;
          fields = [];
          path = Share ∷ [];
          thing = refl;
          size = refl;
          names = refl;
          tag = o.globals;
          made_by = o.rest 1 refl;
          serial = o.rest 2 refl;
          lock = no_lock 0 3;
          shape = subst (λ x. Has opening_blocks (ShapeAt globals_shape x)) (sym o.shape) (inr (inr (inr (inr (inl refl)))));
          chunk = inl (o.rest 5 refl);
          stands = tt;
        }
        (inl record {
          word = o.rest 15 refl;
          what = what;
          home = refl;
          handed = (ap numbers lines_are ∙ numbers_first p.slots, subst (LinesTell first_run) (sym lines_are) first_tell, subst (runs.Stands Any p.begun [] ([] ∷ [])) (sym sink_is) (sink_stands Any p.begun fine), ap suc (sym none_started));
          nobody = λ j k a _. ap (λ (u : Holder). busy_at turn_word u.doing) (sym (only j k a).1);
        })
        (no_lock tree_lock tree_lock)
        record {
          narrow = (omega arith, tt);
          legal = tt;
          tag = o.root;
          leads = (o.rest 18 refl, o.rest 19 refl, o.rest 20 refl);
          count = o.rest 21 refl;
          child = inr (0, subst (λ x. Has opening_blocks (LinkAt first_root (first_root + 5) x 0)) (sym o.child) first_link);
          sibling = inl (o.rest 23 refl);
        }
        record {
          narrow = (omega arith, (tt, tt));
          legal = (refl, tt);
          tag = o.shared;
          leads = (subst (λ x. Has opening_blocks (ShapeAt (root_of globals_class) x)) (sym o.parent) (inr (inr (inr (inl refl)))), o.edge, o.rest 27 refl);
          count = o.rest 28 refl;
          child = inl (o.rest 29 refl);
          sibling = inl (o.rest 30 refl);
        }
        (o.child, (λ e. omega (arith, e)), (refl, (root_of globals_class, globals_shape, inr (inr (inr (inl refl))), inr (inr (inr (inr (inl refl)))), refl)))
        b h

-- the same over a row of slots
pub starts_from : (ws : List ℕ) (l : List Slot) (what : Handed) (p : Plan) → l ≡ Some what ∷ [] → IsFirst p.begun p.slots what → p.begun.failed ≡ false → 1 ≤ p.slots → opening_words ≤ p.words → length ws ≡ p.words → IsOpening (λ i. get_or ws i 0)
    → Kept p (opening ws l (first_holder p))
starts_from ws l what p is first fine some_slots some_words size o = subst (λ (x : List Slot). Kept p (opening ws x (first_holder p))) (sym is) (starts ws what p first.1 first.0 first.2 fine some_slots some_words size o)
