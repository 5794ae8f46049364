-- The turn is given back with the entry of a print, and with a refusal.
use Rattle.std.proofs.Common.{◌≡◌, ◌<◌, ℕ, suc, ◌+◌, true, false, List, [], ◌∷◌, ◌++◌, length, set, get_or, Option, Some, None, refl, sym, ap, ◌∙◌, subst, inl, inr, ⊎_elim, arith, append-nil, length-set, eq-eqb, eqb-true, true≢false}
use Rattle.std.proofs.lemmas.List.{get_or-set_same}
use mathlib.Core.Option.{some}
use Rattle.atomic_table.specs.Table.{State, Me, Allows, gives}
use Rattle.rb_model.specs.Log.{Call, Print, Entry, Refusal, Log, has_end, plain_entry}
use Rattle.rb_model.specs.Private.{Item}
use Rattle.rb_shared.specs.History.{by}
use Rattle.rb_shared.specs.Lists.{Has, Each}
use Rattle.rb_shared.specs.Store.{Store}
use Rattle.rb_shared.specs.View.{View}
use Rattle.rb_shared.proofs.Runs.{each_append}
use Rattle.shared_run.specs.Run.{Run, Sunk, SinkDid, SinkRefused, MayStill, IsOver, run_after, run_refused, refused_at, refused_more}
use Rattle.shared_run.specs.Run as runs
use Rattle.shared_run.proofs.Closing.{open_hides}
use Rattle.shared_run.proofs.Events.{refused_count, refused_own, refused_other}
use Rattle.shared_run.proofs.Knowing.{knows_on, refusal_grows, refused_knows}
use Rattle.shared_run.proofs.Sinking.{refused_run, stands_did, stands_refused}
use Rattle.heap_core.specs.Places.{used_word, turn_word, tree_lock}
use Rattle.heap_core.specs.Handing.{Plan, Handed, Slot, Homes, numbers}
use Rattle.heap_core.specs.Blocks.{Block, TheTurn, home_of, IsOfTree, words_of_shapes}
use Rattle.heap_core.specs.Charges.{tally_of}
use Rattle.heap_core.specs.View.{Region, Holder, Idle, Knows, HasTree, words_in, held, busy_at}
use Rattle.heap_core.specs.Moment.{Moment, At}
use Rattle.heap_core.specs.Turns.{Any, LinesTell, HasTurn, HasNone, TurnStands}
use Rattle.heap_core.specs.Turning.{MakesInTurn, RefusesInTurn, SameTable, out_as, with_out, with_plain, with_sink_failed, without_turn}
use Rattle.heap_core.specs.Rule.{Stands, Kept, LiesIn, Below, moment}
use Rattle.heap_core.proofs.Doings.{busy_set, busy_else}
use Rattle.heap_core.proofs.Frames.{lines_on}
use Rattle.heap_core.proofs.Things.{over_same}
use Rattle.heap_core.proofs.Holders.{each_set, apart_set, owned_set}
use Rattle.heap_core.proofs.Owes.{whole, owes_kept, tree_in}
use Rattle.heap_core.proofs.Rooms.{place_inside, laid_quiet}
use Rattle.heap_core.proofs.Seats.{alone_at, seated_plain}
use Rattle.heap_core.proofs.Steps.{is_home, hidden, change_to, used_same, family_same, stays_else, others_own, own_same, ahead_else, tree_stays}
use Rattle.heap_core.proofs.Takes.{late_refused}
use Rattle.heap_core.proofs.Tallies.{tally_print}
use Rattle.heap_core.proofs.Turning.{Had, had, busy_again, turn_fits}
use mathlib.Core.Logic.{dite}
use native.Mathlib.Decide.{ℕ_discrete}

-- at another place nothing is in progress anew
pub else_same : (x : ℕ) (k : Holder) → is_home TheTurn x ≡ false → busy_at x (without_turn k).doing ≡ busy_at x k.doing
else_same x k far = busy_else turn_word Idle x k.doing (λ is. true≢false (sym (eq-eqb x turn_word is) ∙ far))

module _ (plan : Plan) (s : State Slot Holder) (r : Kept plan s) (id : ℕ) (k : Holder) (seat : At s.views id k) (live : k.live ≡ true) (h g : Handed) (same : SameTable h g) (t : Had plan s r id k seat live h true) where
  abbrev before : Moment
  before = moment plan s r.run r.lines r.blocks

  abbrev homes' : Homes
  homes' = set s.homes 0 (some (Some g))

  -- the turn is free, with what is handed on now
  free_again : (run : Run) (bs : List Block) (k' : Holder) → k'.doing ≡ (without_turn k).doing → LinesTell run h.lines → runs.Stands Any plan.begun run.events run.refusals g.sink → length run.refusals ≡ length r.run.refusals
      → TurnStands (moment plan (whole (set s.words turn_word 0) homes' (set s.views id k')) run r.lines bs)
  free_again run bs k' doing tell sinks count = inl record {
    word = get_or-set_same s.words turn_word 0 0 (turn_fits plan s r id k seat live);
    what = g;
    home = ap (λ (hs : Homes). set hs 0 (some (Some g))) t.home;
    handed = (ap numbers same.0 ∙ t.handed.0, subst (LinesTell run) (sym same.0) tell, sinks, count ∙ (t.handed.3 ∙ ap suc (sym same.1)));
    nobody = each_set (λ j u. u.live ≡ true → HasNone u) s.views id k' (λ _. ap (busy_at turn_word) doing ∙ busy_set turn_word Idle k.doing) (λ j u ne a. t.others j u ne a);
  }

  -- ---- with the entry of a print

  pub print_kept : (step : ℕ) (bytes : List ℕ) → k.own ≡ [] → k.ahead ≡ 0 → SinkDid (Print bytes) h.sink g.sink
      → Kept plan (whole (set s.words turn_word 0) homes' (set s.views id (without_turn (with_plain k (plain_entry step (Print bytes))))))
  print_kept step bytes own ahead did =
      let e : Entry = plain_entry step (Print bytes) in
      let z : Store = r.run.store in
      let k' : Holder = without_turn (with_plain k e) in
      let none_own : (x : Region) → Has k.own x → ⊥ = λ x q. subst (λ os. Has os x) own q in
      let counts = tally_print plan.slots r.run.events k.view.thread step bytes in
      let none_held : held k ≡ 0 = let words = ap words_in own in omega (arith, words, ahead) in
      change_to plan s r homes' id k k' turn_word 0 TheTurn seat live live refl refl r.turn (place_inside TheTurn) [] e [] z record {
        going = t.going;
        may = record { hands = tt; mentions = tt; sized = tt; own = tt; no_threads = tt; next = tt };
        steps = record { joins = tt; known = tt; ready = refl; reply_is = refl; store_is = sym (append-nil z) };
        named = tt;
        view = refl;
        own = own;
        ahead = ahead;
        late = refl;
        front = refl;
        knows_in = λ c q. subst (λ bs. Has bs c) (sym (append-nil r.blocks)) (r.known id k c seat q);
        lie = subst (Each (LiesIn k.blocks)) (sym (append-nil k.view.known)) (r.lie id k seat live);
        lines = r.lines;
        seated = seated_plain plan.slots z r.lines s.views id k k' r.seated seat refl refl refl refl;
        charged = let words = counts.0 in let shapes = ap length counts.1 in omega (arith, words, shapes, none_held);
        starts = omega arith;
        inside_own = λ x c q. absurd q;
        bounded = λ c q. absurd q;
        parted = λ x c d q. absurd q;
        mine = is_home TheTurn;
        own_home = refl;
        receiver = λ y c q is touched. absurd touched;
        ends = λ c hc q. absurd (true≢false (sym q));
        doing = λ x far. else_same x k far;
        off_turn = λ off. absurd (true≢false off);
        anew = λ c hc mine. subst (Stands (moment plan (whole (set s.words turn_word 0) homes' (set s.views id k')) (run_after r.run k.view.thread e z) r.lines (r.blocks ++ [])))
            (sym (alone_at plan s r TheTurn r.turn tt (λ h. h) c hc (eqb-true (home_of c) turn_word mine)))
            (free_again (run_after r.run k.view.thread e z) (r.blocks ++ []) k' refl
            (lines_on before (moment plan (whole (set s.words turn_word 0) homes' (set s.views id k')) (run_after r.run k.view.thread e z) r.lines (r.blocks ++ [])) h.lines (λ u. over_same r.run.events k.view.thread e refl u) (λ n lt. lt) (λ n lt. lt) t.handed.1)
            (stands_did Any plan.begun r.run.events r.run.refusals k.view.thread e h.sink g.sink t.handed.2 did)
            refl);
        new = λ c q. absurd q;
        homes = λ c q. absurd q;
        no_tree = λ c q. absurd q;
        tree = tree_stays s r id k k' seat live (λ c q. q) (else_same tree_lock k refl);
        shapes_on = λ shape q. inr q;
        fresh = λ y c q. absurd q;
        one = λ y c d q. absurd q;
        one_thread = λ number c d q. absurd q;
      }

  -- ---- with a refusal

  pub refusal_kept : (call : Call) (moved : List Item) → SinkRefused call h.sink g.sink
      → Kept plan (whole (set s.words turn_word 0) homes' (set s.views id (without_turn (with_sink_failed k call moved))))
  refusal_kept call moved did =
      let v : View = k.view in
      let q : Refusal = record { call = call; moved = moved; before = length v.log.entries; words = None } in
      let k' : Holder = without_turn (with_sink_failed k call moved) in
      let run' : Run = run_refused r.run v.thread q in
      let knew = r.knows id k seat live in
      let grows = refusal_grows r.run v.thread q in
      let open_log : has_end (by v.thread r.run.events) ≡ false = ap (λ (l : Log). has_end l.entries) (sym knew.log) ∙ subst (λ b. IsOver b v.log) t.going knew.over in
      let used = used_same plan s r homes' id k k' turn_word 0 TheTurn seat live live refl refl r.turn (place_inside TheTurn) in
      let long = length-set s.words turn_word 0 in
      let same_blocks : r.blocks ++ [] ≡ r.blocks = append-nil r.blocks in
      owes_kept plan s r (set s.words turn_word 0) homes' (set s.views id k') record {
        run = run';
        added = [];
        lines = r.lines;
        mine = is_home TheTurn;
        is_run = refused_run plan.slots r.run v.thread q r.is_run;
        knows = each_set (λ j u. u.live ≡ true → runs.Knows plan.slots run' u.view) s.views id k' (λ _. refused_knows plan.slots r.run v call moved None q knew t.going refl)
            (λ j u ne b l. knows_on plan.slots r.run run' v.thread u.view grows open_log (r.knows j u b l)
            (λ is. ne (r.apart j id v.thread u k b seat (l, inl is) (live, inl refl)))
            (λ is. ne (r.apart j id v.thread u k b seat (l, inr is) (live, inl refl))));
        apart = apart_set s.views id k k' r.apart seat (λ n c. inl (live, ⊎_elim (λ (is : v.thread ≡ n). inl is) (λ (is : None ≡ Some n). absurd (cc)) c.1));
        seated = seated_plain plan.slots r.run.store r.lines s.views id k k' r.seated seat refl refl refl refl;
        laid = laid_quiet s.words (set s.words turn_word 0) s.views r.blocks [] r.laid id k k' seat (λ _. live) refl long used refl refl;
        words = λ x d hd not_mine f. family_same plan s r homes' id k k' turn_word 0 TheTurn seat live live refl refl r.turn (place_inside TheTurn) (is_home TheTurn) refl x d hd not_mine f;
        things = λ y d hd not_mine is. inl (refl, λ u. refl);
        sizes = λ y d hd not_mine is. refl;
        threads = λ n lt. let c = refused_count r.run.refusals v.thread q in omega (arith, lt, c);
        stays = stays_else plan s r homes' id k k' turn_word 0 TheTurn seat live live refl refl r.turn (place_inside TheTurn) refl (is_home TheTurn) run' r.lines [] (λ x far. else_same x k far);
        turn = λ off. absurd (true≢false off);
        anew = λ c hc mine. subst (Stands (moment plan (whole (set s.words turn_word 0) homes' (set s.views id k')) run' r.lines (r.blocks ++ [])))
            (sym (alone_at plan s r TheTurn r.turn tt (λ h. h) c hc (eqb-true (home_of c) turn_word mine)))
            (free_again run' (r.blocks ++ []) k' refl
            (lines_on before (moment plan (whole (set s.words turn_word 0) homes' (set s.views id k')) run' r.lines (r.blocks ++ [])) h.lines (λ u. refl) (λ n lt. let c = refused_count r.run.refusals v.thread q in omega (arith, lt, c)) (λ n lt. let c = refused_count r.run.refusals v.thread q in omega (arith, lt, c)) t.handed.1)
            (stands_refused Any plan.begun r.run.events r.run.refusals v.thread q call h.sink g.sink t.handed.2 did (refl, refl) knew.within)
            (refused_count r.run.refusals v.thread q));
        new = λ c n. absurd n;
        one = λ y c d n. absurd n;
        tree = tree_in plan s r (set s.views id k') (each_set (λ j u. u.live ≡ true → HasTree u → (c : Block) → Has r.blocks c → IsOfTree c → Knows u c) s.views id k' (λ _. tree_stays s r id k k' seat live (λ c q. q) (else_same tree_lock k refl)) (λ j u _ a. r.tree j u a));
        linked = λ shape place h. absurd h;
        once = λ home link to number h. absurd h;
        spare = let owns = owned_set s.views id k k' seat in omega (arith, owns, used);
        few = λ home link to number h. absurd h;
        deep = λ shape place h. absurd h;
        one_thread = λ number c d n. absurd n;
        one_shape = λ shape place to n. absurd n;
        homes = λ c n. absurd n;
        known = λ j u d a. each_set (λ j u. Knows u d → Has (r.blocks ++ []) d) s.views id k' (λ kn. subst (λ bs. Has bs d) (sym same_blocks) (r.known id k d seat kn)) (λ j u _ a kn. subst (λ bs. Has bs d) (sym same_blocks) (r.known j u d a kn)) j u a;
        lie = each_set (λ j u. u.live ≡ true → Each (LiesIn u.blocks) u.view.known) s.views id k' (λ _. r.lie id k seat live) (λ j u _ a. r.lie j u a);
        own = others_own plan s r homes' id k k' turn_word 0 TheTurn seat live live refl refl r.turn (place_inside TheTurn) (λ x o n lt.
            own_same plan s r homes' id k k' turn_word 0 TheTurn seat live live refl refl r.turn (place_inside TheTurn) (o.at + x) id k seat (o, n, (omega arith, omega (arith, lt))) ∙ r.own x id k o seat n lt);
        used = let was = r.used in let owns = owned_set s.views id k k' seat in let blocks = ap words_of_shapes same_blocks in omega (arith, was, owns, blocks, used);
        begun = let was = r.begun in let owns = owned_set s.views id k k' seat in let count = refused_count r.run.refusals v.thread q in omega (arith, was, owns, count, used);
        made_on = λ shape n. n;
        ahead_on = ahead_else plan s r homes' id k k' turn_word 0 TheTurn seat live live refl refl r.turn (place_inside TheTurn) (tally_of plan.slots r.run.events).shapes (λ shape n. inr n);
        made_new = λ shape place n. absurd n;
        late = each_set (λ j u. u.live ≡ true → Each (MayStill plan.slots run' u.view.thread) u.late) s.views id k' (λ _. late_refused plan.slots r.run run'.refusals v.thread k.late (r.late id k seat live))
            (λ j u _ a l. late_refused plan.slots r.run run'.refusals u.view.thread u.late (r.late j u a l));
        refused = λ x. subst (λ u. Each (Below u (length (set s.words turn_word 0))) (refused_at run'.refusals x)) (sym used)
            (subst (λ m. Each (Below (get_or s.words used_word 0) m) (refused_at run'.refusals x)) (sym long) (by_thread v.thread q refl knew.within x));
        spent = each_set (λ j u. u.live ≡ false → held u ≡ 0) s.views id k' (λ n. absurd (true≢false (sym live ∙ n))) (λ j u _ a. r.spent j u a);
        shows = hidden plan s r homes' id k k' turn_word 0 TheTurn seat live live refl refl r.turn (place_inside TheTurn) (open_hides plan.slots r.run v knew t.going) refl run';
      }
    where
      -- a refusal without numbers is below any
      by_thread : (n : ℕ) (q : Refusal) → q.words ≡ None → n < length r.run.refusals → (x : ℕ) → Each (Below (get_or s.words used_word 0) (length s.words)) (refused_at (refused_more r.run.refusals n q) x)
      by_thread n q none_told lt x = dite (ℕ_discrete x n)
          (λ is. subst (λ y. Each (Below (get_or s.words used_word 0) (length s.words)) (refused_at (refused_more r.run.refusals n q) y)) (sym is)
          (subst (Each (Below (get_or s.words used_word 0) (length s.words))) (sym (refused_own r.run.refusals n q lt))
          (each_append (Below (get_or s.words used_word 0) (length s.words)) (refused_at r.run.refusals n) (q ∷ []) (r.refused n) ((λ a b e. absurd (let z : ◌≡◌ {A = Option (ℕ × ℕ)} None (Some (a, b)) = sym none_told ∙ e in cc)), tt))))
          (λ ne. subst (Each (Below (get_or s.words used_word 0) (length s.words))) (sym (refused_other r.run.refusals n x q ne)) (r.refused x))

-- ---- the steps

makes_at : (plan : Plan) (count id : ℕ) (k : Holder) (h g : Handed) (step : ℕ) (bytes : List ℕ) → k.live ≡ true → HasTurn k h true → SameTable h g → k.own ≡ [] → k.ahead ≡ 0 → SinkDid (Print bytes) h.sink g.sink
    → Allows (Kept plan) count id (k, (0, Some g) ∷ []) turn_word (λ _. 0) (λ _. MakesInTurn (plain_entry step (Print bytes)) (k, (0, Some g) ∷ []))
makes_at plan count id k h g step bytes live has lines own ahead did s r size seat small = (
  without_turn (with_plain k (plain_entry step (Print bytes))),
  gives,
  tt,
  print_kept plan s r id k seat live h g lines (had plan s r id k seat live h true has) step bytes own ahead did,
  refl,
)

-- the step makes this entry
pub makes_in_turn : (plan : Plan) (count id : ℕ) (me : Me Slot Holder) (h g : Handed) (step : ℕ) (bytes : List ℕ) (e : Entry) → e ≡ plain_entry step (Print bytes) → me.1 ≡ (0, Some g) ∷ [] → me.0.live ≡ true → HasTurn me.0 h true → SameTable h g → me.0.own ≡ [] → me.0.ahead ≡ 0
    → SinkDid (Print bytes) h.sink g.sink → Allows (Kept plan) count id me turn_word (λ _. 0) (λ _. MakesInTurn e me)
makes_in_turn plan count id me h g step bytes e is carries live has lines own ahead did =
    subst (λ (x : Entry). Allows (Kept plan) count id me turn_word (λ _. 0) (λ _. MakesInTurn x me)) (sym is)
    (subst (λ (c : List (ℕ × Slot)). Allows (Kept plan) count id (me.0, c) turn_word (λ _. 0) (λ _. MakesInTurn (plain_entry step (Print bytes)) (me.0, c))) (sym carries)
    (makes_at plan count id me.0 h g step bytes live has lines own ahead did))

refuses_at : (plan : Plan) (count id : ℕ) (k : Holder) (h g : Handed) (call : Call) (moved : List Item) → k.live ≡ true → HasTurn k h true → SameTable h g → SinkRefused call h.sink g.sink
    → Allows (Kept plan) count id (k, (0, Some g) ∷ []) turn_word (λ _. 0) (λ _. RefusesInTurn call moved (k, (0, Some g) ∷ []))
refuses_at plan count id k h g call moved live has lines did s r size seat small = (
  without_turn (with_sink_failed k call moved),
  gives,
  tt,
  refusal_kept plan s r id k seat live h g lines (had plan s r id k seat live h true has) call moved did,
  refl,
)

-- the step refuses this call
pub refuses_in_turn : (plan : Plan) (count id : ℕ) (me : Me Slot Holder) (h g : Handed) (call named : Call) (moved : List Item) → named ≡ call → me.1 ≡ (0, Some g) ∷ [] → me.0.live ≡ true → HasTurn me.0 h true → SameTable h g → SinkRefused call h.sink g.sink
    → Allows (Kept plan) count id me turn_word (λ _. 0) (λ _. RefusesInTurn named moved me)
refuses_in_turn plan count id me h g call named moved is carries live has lines did =
    subst (λ (x : Call). Allows (Kept plan) count id me turn_word (λ _. 0) (λ _. RefusesInTurn x moved me)) (sym is)
    (subst (λ (c : List (ℕ × Slot)). Allows (Kept plan) count id (me.0, c) turn_word (λ _. 0) (λ _. RefusesInTurn call moved (me.0, c))) (sym carries)
    (refuses_at plan count id me.0 h g call moved live has lines did))

-- ---- what they leave of a seat, which took the slot before

pub printed_is : (m m' w : Me Slot Holder) (g : Handed) (e f : Entry) → e ≡ f → m' ≡ (with_out m.0 true, (0, Some g) ∷ []) → MakesInTurn e m' w → w.0 ≡ without_turn (with_plain m.0 f)
printed_is m m' w g e f is put left =
    ap (λ (x : Me Slot Holder). x.0) left ∙ (ap (λ (x : Me Slot Holder). without_turn (with_plain x.0 e)) put
    ∙ (busy_again (with_plain m.0 e) (out_as true (busy_at turn_word m.0.doing)) Idle ∙ ap (λ x. without_turn (with_plain m.0 x)) is))

pub refused_is : (m m' w : Me Slot Holder) (g : Handed) (named call : Call) (moved : List Item) → named ≡ call → m' ≡ (with_out m.0 true, (0, Some g) ∷ []) → RefusesInTurn named moved m' w → w.0 ≡ without_turn (with_sink_failed m.0 call moved)
refused_is m m' w g named call moved is put left =
    ap (λ (x : Me Slot Holder). x.0) left ∙ (ap (λ (x : Me Slot Holder). without_turn (with_sink_failed x.0 named moved)) put
    ∙ (busy_again (with_sink_failed m.0 named moved) (out_as true (busy_at turn_word m.0.doing)) Idle ∙ ap (λ x. without_turn (with_sink_failed m.0 x moved)) is))
