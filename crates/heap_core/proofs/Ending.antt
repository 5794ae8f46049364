-- The turn is given back with the end of a thread.
use Rattle.std.proofs.Common.{◌≡◌, ◌==◌, ◌||◌, ◌<◌, ◌≤◌, ℕ, zero, suc, ◌+◌, Bool, true, false, List, [], ◌∷◌, ◌++◌, length, map, set, get_or, Option, Some, None, refl, sym, ap, ◌∙◌, subst, inl, inr, ⊎_elim, arith, append-nil, eq-eqb, ne_eqb, eqb-true, true≢false}
use Rattle.std.proofs.lemmas.List.{get_or-set_same}
use mathlib.Core.Option.{some}
use mathlib.Core.Logic.{dite}
use native.Mathlib.Decide.{ℕ_discrete}
use Rattle.atomic_table.specs.Table.{State, Me, Allows, gives}
use Rattle.rb_model.specs.declared.value.Id.{Id}
use Rattle.rb_model.specs.declared.call.Call.{Call as Held}
use Rattle.rb_model.specs.declared.call.Call.TheVariants as held
use Rattle.rb_model.specs.Ends.{End as Ending, over, told}
use Rattle.rb_model.specs.Log.{End, Entry, asked, plain_entry}
use Rattle.rb_model.specs.Values.{Value as Val}
use Rattle.rb_shared.specs.Lists.{Has, Each}
use Rattle.rb_shared.specs.Step.{ended_item, ids_in}
use Rattle.rb_shared.specs.Store.{Store, is_there, threads}
use Rattle.std.specs.List.{flat_map}
use Rattle.shared_run.specs.Standing.{Fits}
use Rattle.shared_run.specs.Run.{Run, IsThread, run_after}
use Rattle.shared_run.proofs.Sinking.{stands_silent}
use Rattle.heap_core.specs.declared.line.Line.{Line}
use Rattle.heap_core.specs.Places.{turn_word, tree_lock}
use Rattle.heap_core.specs.Handing.{Plan, Handed, Slot, Homes, numbers}
use Rattle.heap_core.specs.Blocks.{TheTurn, home_of}
use Rattle.heap_core.specs.Ending.{IsPlainEnd, over_line, over_at, over_front, ended_by}
use Rattle.heap_core.specs.View.{Holder, Idle, words_in, held}
use Rattle.heap_core.specs.Moment.{At, ended_in}
use Rattle.heap_core.specs.Turns.{Any, LinesTell, HasTurn, HasNone}
use Rattle.heap_core.specs.Turning.{MakesInTurn, IsBare, with_plain, without_turn}
use Rattle.heap_core.specs.Rule.{IsUngathered, Stands, Seated, Kept, LiesIn, moment}
use Rattle.heap_core.proofs.Doings.{busy_set}
use Rattle.heap_core.proofs.Holders.{each_set}
use Rattle.heap_core.proofs.Owes.{whole}
use Rattle.heap_core.proofs.Printing.{else_same}
use Rattle.heap_core.proofs.Rooms.{place_inside}
use Rattle.heap_core.proofs.Seats.{alone_at, no_main, seated_plain}
use Rattle.heap_core.proofs.Steps.{is_home, change_to, tree_stays}
use Rattle.heap_core.proofs.Tallies.{tally_end}
use Rattle.heap_core.proofs.Things.{over_now, over_other, thread_ends, thread_was, ungathered_ends}
use Rattle.heap_core.proofs.Turning.{Had, had, turn_fits}

-- ---- the table

pub numbers_over : (t : ℕ) (lines : List (Option Line)) → numbers (over_at t lines) ≡ numbers lines
numbers_over t [] = refl
numbers_over t (None ∷ lines) = ap (λ l. None ∷ l) (numbers_over t lines)
numbers_over t (Some l ∷ lines) = ap (λ m. Some l.number ∷ m) (numbers_over t lines)

-- line by line, from the first on
front_more : (t i : ℕ) (lines : List (Option Line)) (d : Option Line) → i < length lines → set (over_front t i lines) i (over_line t (get_or (over_front t i lines) i d)) ≡ over_front t (suc i) lines
front_more t i [] d lt = absurd (omega (arith, lt))
front_more t zero (l ∷ lines) d lt = refl
front_more t (suc i) (l ∷ lines) d lt = ap (λ ls. over_line t l ∷ ls) (front_more t i lines d (omega (arith, lt)))

pub lines_more : (t i : ℕ) (ls lines : List (Option Line)) (d x : Option Line) → ls ≡ over_front t i lines → x ≡ over_line t (get_or ls i d) → i < length lines → set ls i x ≡ over_front t (i + 1) lines
lines_more t i ls lines d x was is lt =
    ap (set ls i) is ∙ (ap (λ l. set l i (over_line t (get_or l i d))) was ∙ (front_more t i lines d lt ∙ ap (λ m. over_front t m lines) (let z : suc i ≡ i + 1 = omega arith in z)))

pub front_all : (t i : ℕ) (lines : List (Option Line)) → length lines ≤ i → over_front t i lines ≡ over_at t lines
front_all t zero [] le = refl
front_all t zero (l ∷ lines) le = absurd (omega (arith, le))
front_all t (suc i) [] le = refl
front_all t (suc i) (l ∷ lines) le = ap (λ ls. over_line t l ∷ ls) (front_all t i lines (omega (arith, le)))

abbrev over_of : ℕ → Line → Line
over_of t l = record { number = l.number; over = l.over || l.number == t }

line_back : (t : ℕ) (lines : List (Option Line)) (l : Line) → Has (over_at t lines) (Some l) → (m : Line) × Has lines (Some m) × (l ≡ over_of t m)
line_back t [] l h = absurd h
line_back t (None ∷ lines) l (inl e) = absurd (let z : Some l ≡ None = e in cc)
line_back t (Some m ∷ lines) l (inl e) = (m, inl refl, line_is l (over_of t m) e)
  where
    line_is : (a b : Line) → Some a ≡ Some b → a ≡ b
    line_is a b q = cc
line_back t (x ∷ lines) l (inr h) = let p = line_back t lines l h in (p.0, inr p.1, p.2)

line_on : (t : ℕ) (lines : List (Option Line)) (m : Line) → Has lines (Some m) → Has (over_at t lines) (Some (over_of t m))
line_on t [] m h = absurd h
line_on t (x ∷ lines) m (inl e) = inl (ap (over_line t) e)
line_on t (x ∷ lines) m (inr h) = inr (line_on t lines m h)

-- it tells of each thread, where one has ended now
pub lines_end : (run run' : Run) (t : ℕ) (lines : List (Option Line)) → LinesTell run lines → ended_in run' t ≡ true → ((u : ℕ) → (u ≡ t → ⊥) → ended_in run' u ≡ ended_in run u) → ((u : ℕ) → IsThread run u → IsThread run' u) → ((u : ℕ) → IsThread run' u → IsThread run u) → LinesTell run' (over_at t lines)
lines_end run run' t lines tell now other more threads = record {
  known = λ l h. let p = line_back t lines l h in subst (IsThread run') (ap (λ (x : Line). x.number) (sym p.2)) (more p.0.number (tell.known p.0 p.1));
  over = λ l h. let p = line_back t lines l h in ap (λ (x : Line). x.over) p.2 ∙ (told_of p.0 p.1 ∙ ap (λ (x : Line). ended_in run' x.number) (sym p.2));
  all = λ u is going.
      let ne : u ≡ t → ⊥ = λ same. true≢false (sym now ∙ (ap (ended_in run') (sym same) ∙ going)) in
      let p = tell.all u (threads u is) (sym (other u ne) ∙ going) in
      (over_of t p.0, line_on t lines p.0 p.1, p.2);
}
  where
    or_true : (b : Bool) → (b || true) ≡ true
    or_true true = refl
    or_true false = refl

    or_false : (b : Bool) → (b || false) ≡ b
    or_false true = refl
    or_false false = refl

    told_of : (m : Line) → Has lines (Some m) → (m.over || m.number == t) ≡ ended_in run' m.number
    told_of m h = dite (ℕ_discrete m.number t)
        (λ is. ap (λ b. m.over || b) (eq-eqb m.number t is) ∙ (or_true m.over ∙ sym (ap (ended_in run') is ∙ now)))
        (λ ne. ap (λ b. m.over || b) (ne_eqb m.number t ne) ∙ (or_false m.over ∙ (tell.over m h ∙ sym (other m.number ne))))

-- ---- the seats

pub seated_end : (slots : ℕ) (z : Store) (t : ℕ) (how : Ending) (lines : List (Option ℕ)) (views : List Holder) → Seated slots z lines views → Seated slots (map (ended_item t how) z) lines views
seated_end slots z t how lines views s = record {
  long = s.long;
  main = s.main;
  taken = λ i u a. ⊎_elim (λ e. inl e) (λ (p : IsUngathered z u). let y = thread_ends z t how p.0 p.1 in inr (y.0, y.1, y.2 ∙ p.2, y.3 ∙ p.3)) (s.taken i u a);
  all = λ u p. let y = thread_was z t how p.0 p.1 in s.all u (y.0, y.1, sym y.2 ∙ p.2, sym y.3 ∙ p.3);
  count = s.count ∙ ap suc (sym (ungathered_ends z t how));
  once = s.once;
  mine = s.mine;
  due = s.due;
}

-- ---- the end

module _ (plan : Plan) (s : State Slot Holder) (r : Kept plan s) (id : ℕ) (k : Holder) (seat : At s.views id k) (live : k.live ≡ true) (h : Handed) (t : Had plan s r id k seat live h true) where
  abbrev n : ℕ
  n = k.view.thread

  abbrev g : Handed
  g = ended_by n h

  abbrev homes' : Homes
  homes' = set s.homes 0 (some (Some g))

  pub end_kept : (step : ℕ) (how : Ending) → told how ≡ [] → IsBare k → n ≡ 0 → Kept plan (whole (set s.words turn_word 0) homes' (set s.views id (without_turn (with_plain k (plain_entry step (End how))))))
  end_kept step how nothing bare main =
      let e : Entry = plain_entry step (End how) in
      let z : Store = r.run.store in
      let z' : Store = map (ended_item n how) z in
      let k' : Holder = without_turn (with_plain k e) in
      let run' : Run = run_after r.run n e z' in
      let counts = tally_end plan.slots r.run.events n step how nothing in
      let none_held : held k ≡ 0 = let words = ap words_in bare.0 in let ahead = bare.1 in omega (arith, words, ahead) in
      change_to plan s r homes' id k k' turn_word 0 TheTurn seat live live refl refl r.turn (place_inside TheTurn) [] e [] z' record {
        going = t.going;
        may = record { hands = subst (Each (Fits (z ++ []))) (sym nothing) tt; mentions = tt; sized = tt; own = tt; no_threads = tt; next = tt };
        steps = record {
          joins = tt;
          known = subst (λ (l : List Val). Each (λ (i : Id). is_there (z ++ []) i ≡ true) (flat_map ids_in l ++ [])) (sym nothing) tt;
          ready = refl;
          reply_is = refl;
          store_is = ap (map (ended_item n how)) (sym (append-nil z));
        };
        named = tt;
        view = refl;
        own = bare.0;
        ahead = bare.1;
        late = refl;
        front = refl;
        knows_in = λ c q. subst (λ bs. Has bs c) (sym (append-nil r.blocks)) (r.known id k c seat q);
        lie = subst (Each (LiesIn k.blocks)) (sym (append-nil k.view.known)) (r.lie id k seat live);
        lines = r.lines;
        seated = seated_end plan.slots z n how r.lines (set s.views id k') (seated_plain plan.slots z r.lines s.views id k k' r.seated seat refl refl refl refl);
        charged = let words = counts.0 in let shapes = ap length counts.1 in omega (arith, words, shapes, none_held);
        starts = omega arith;
        inside_own = λ x c q. absurd q;
        bounded = λ c q. absurd q;
        parted = λ x c d q. absurd q;
        mine = is_home TheTurn;
        own_home = refl;
        receiver = λ y c q is touched. absurd touched;
        ends = λ c hc _ is. absurd (no_main plan s r c hc (is ∙ ap Some main));
        doing = λ x far. else_same x k far;
        off_turn = λ off. absurd (true≢false off);
        anew = λ c hc mine. subst (Stands (moment plan (whole (set s.words turn_word 0) homes' (set s.views id k')) run' r.lines (r.blocks ++ [])))
            (sym (alone_at plan s r TheTurn r.turn tt (λ h. h) c hc (eqb-true (home_of c) turn_word mine))) (inl record {
              word = get_or-set_same s.words turn_word 0 0 (turn_fits plan s r id k seat live);
              what = g;
              home = ap (λ (hs : Homes). set hs 0 (some (Some g))) t.home;
              handed = (
                numbers_over n h.lines ∙ t.handed.0,
                lines_end r.run run' n h.lines t.handed.1 (over_now r.run.events n e refl) (λ u ne. over_other r.run.events n e u ne) (λ u lt. lt) (λ u lt. lt),
                stands_silent Any plan.begun r.run.events r.run.refusals n e h.sink t.handed.2 refl,
                t.handed.3,
              );
              nobody = each_set (λ j u. u.live ≡ true → HasNone u) s.views id k' (λ _. busy_set turn_word Idle k.doing) (λ j u ne a. t.others j u ne a);
            });
        new = λ c q. absurd q;
        homes = λ c q. absurd q;
        no_tree = λ c q. absurd q;
        tree = tree_stays s r id k k' seat live (λ c q. q) (else_same tree_lock k refl);
        shapes_on = λ shape q. inr q;
        fresh = λ y c q. absurd q;
        one = λ y c d q. absurd q;
        one_thread = λ number c d q. absurd q;
      }

-- ---- the step

ends_at : (plan : Plan) (count id : ℕ) (k : Holder) (h : Handed) (step : ℕ) (how : Ending) → k.live ≡ true → HasTurn k h true → told how ≡ [] → IsBare k → k.view.thread ≡ 0
    → Allows (Kept plan) count id (k, (0, Some (ended_by k.view.thread h)) ∷ []) turn_word (λ _. 0) (λ _. MakesInTurn (plain_entry step (End how)) (k, (0, Some (ended_by k.view.thread h)) ∷ []))
ends_at plan count id k h step how live has nothing bare main s r size seat small = (
  without_turn (with_plain k (plain_entry step (End how))),
  gives,
  tt,
  end_kept plan s r id k seat live h (had plan s r id k seat live h true has) step how nothing bare main,
  refl,
)

-- the step makes this entry
pub ends_in_turn : (plan : Plan) (count id : ℕ) (me : Me Slot Holder) (h : Handed) (step : ℕ) (how : Ending) (e : Entry) → e ≡ plain_entry step (End how) → me.1 ≡ (0, Some (ended_by me.0.view.thread h)) ∷ [] → me.0.live ≡ true → HasTurn me.0 h true → told how ≡ [] → IsBare me.0 → me.0.view.thread ≡ 0
    → Allows (Kept plan) count id me turn_word (λ _. 0) (λ _. MakesInTurn e me)
ends_in_turn plan count id me h step how e is carries live has nothing bare main =
    subst (λ (x : Entry). Allows (Kept plan) count id me turn_word (λ _. 0) (λ _. MakesInTurn x me)) (sym is)
    (subst (λ (c : List (ℕ × Slot)). Allows (Kept plan) count id (me.0, c) turn_word (λ _. 0) (λ _. MakesInTurn (plain_entry step (End how)) (me.0, c))) (sym carries)
    (ends_at plan count id me.0 h step how live has nothing bare main))

-- a plain end, as the law has it
pub plain_end : (call : Held) → IsPlainEnd call → (how : Ending) × (asked call ≡ End how) × (told how ≡ [])
plain_end (held.End how) is = (over how, refl, is)
plain_end (held.On thing act) is = absurd is
plain_end (held.Start thing body values) is = absurd is
plain_end (held.Gather thread) is = absurd is
plain_end (held.Print bytes) is = absurd is

-- what is carried is what the end of this thread makes of what was handed on
pub ended_at : (m : Me Slot Holder) (h g : Handed) (thread n : ℕ) → m.1 ≡ (0, Some g) ∷ [] → g ≡ ended_by thread h → thread ≡ n → m.1 ≡ (0, Some (ended_by n h)) ∷ []
ended_at m h g thread n carries is same = carries ∙ ap (λ x. (0, Some x) ∷ []) (is ∙ ap (λ u. ended_by u h) same)
