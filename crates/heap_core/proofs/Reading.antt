-- A step that makes the entry of a read keeps the law, wherever the read stands in the run.
use Rattle.std.proofs.Common.{◌≡◌, ℕ, ◌+◌, true, false, List, [], ◌++◌, length, set, get_or, Some, None, refl, sym, ap, ◌∙◌, subst, inl, inr, ⊎_elim, arith, append-nil, length-set, eq-eqb, eqb-true, true≢false}
use mathlib.Core.Option.{some}
use lib.ListN.{get_elem?}
use Rattle.atomic_table.specs.Table.{State}
use Rattle.rb_model.specs.declared.value.Ref.{Ref}
use Rattle.rb_model.specs.Log.{Log, Entry, has_end}
use Rattle.rb_shared.specs.History.{Event}
use Rattle.rb_shared.specs.Lists.{Has, Each}
use Rattle.rb_shared.specs.View.{View, with_entry}
use Rattle.shared_run.specs.Standing.{NamesHeld}
use Rattle.shared_run.specs.Run.{Run, MayRead, MayStill, run_read, event_of, IsOver}
use Rattle.shared_run.specs.Run as runs
use Rattle.shared_run.proofs.Closing.{open_hides}
use Rattle.shared_run.proofs.Knowing.{knows_on}
use Rattle.rb_shared.specs.Step.{Steps}
use Rattle.rb_shared.proofs.Runs.{each_more}
use Rattle.shared_run.proofs.Points.{point_put}
use Rattle.shared_run.proofs.Pointed.{read_not_end, read_run, read_grows, read_knows, ends_same, none_started}
use Rattle.shared_run.proofs.Sinking.{stands_read}
use Rattle.heap_core.specs.Places.{used_word, turn_word}
use Rattle.heap_core.specs.Handing.{Plan, Slot}
use Rattle.heap_core.specs.Blocks.{Block, home_of, IsOfTree, Inside, words_of_shapes}
use Rattle.heap_core.specs.Charges.{Tally, tally_of}
use Rattle.heap_core.specs.Sizes.{size_of_id}
use Rattle.heap_core.specs.View.{words_in, Holder, Knows, HasTree, held, busy_at}
use Rattle.heap_core.specs.Moment.{At}
use Rattle.heap_core.specs.Turns.{Any}
use Rattle.heap_core.specs.Rule.{Stands, LiesIn, Kept, Below}
use Rattle.heap_core.proofs.Holders.{each_set, apart_set, keeps_set, owned_set}
use Rattle.heap_core.proofs.Owes.{whole, owes_kept, tree_in}
use Rattle.heap_core.proofs.Rooms.{laid_quiet}
use Rattle.heap_core.proofs.Steps.{ahead_else, hidden, is_home, after, used_same, family_same, stays_else, others_own, own_same}
use Rattle.heap_core.proofs.Tallies.{tally_read}

module _ (plan : Plan) (s : State Slot Holder) (r : Kept plan s) (id : ℕ) (k k' : Holder) (i n : ℕ) (b : Block)
    (at : At s.views id k) (live : k.live ≡ true) (alive : k'.live ≡ true) (line : k'.line ≡ k.line) (size : k'.size ≡ k.size) (here : Has r.blocks b) (inside : Inside i b) where
  -- What a step owes that makes the entry of a read, between these events of the run.
  pub record Reads (e : Entry) (refs : List Ref) (front behind : List Event) : Type 0 where
    pub going : k.view.ended ≡ false
    pub may : MayRead plan.slots r.run k.view.thread e front behind
    pub named : Each (NamesHeld r.run.store) refs
    pub view : k'.view ≡ with_entry k.view e refs
    pub own : k'.own ≡ k.own
    pub ahead : k'.ahead ≡ k.ahead
    pub late : k'.late ≡ []
    pub shapes : k'.shapes ≡ k.shapes
    pub same_front : k'.front ≡ k.front
    pub knows_in : (c : Block) → Knows k' c → Has r.blocks c
    pub tree : HasTree k' → (c : Block) → Has r.blocks c → IsOfTree c → Knows k' c
    pub lie : Each (LiesIn k'.blocks) k'.view.known
    pub doing : (x : ℕ) → is_home b x ≡ false → busy_at x k'.doing ≡ busy_at x k.doing
    pub anew : (c : Block) → Has r.blocks c → home_of c ≡ home_of b → Stands (after plan s r s.homes id k k' i n b at live alive line size here inside (run_read r.run front behind k.view.thread e) r.lines r.blocks) c

  pub read_to : (e : Entry) (refs : List Ref) (front behind : List Event) → Reads e refs front behind → Kept plan (whole (set s.words i n) s.homes (set s.views id k'))
  read_to e refs front behind c =
      let t : ℕ = k.view.thread in
      let run : Run = run_read r.run front behind t e in
      let knew = r.knows id k at live in
      let grows = read_grows plan.slots r.run k.view e front behind r.is_run knew c.may in
      let open_log : has_end (Rattle.rb_shared.specs.History.by t r.run.events) ≡ false = ap (λ (l : Log). has_end l.entries) (sym knew.log) ∙ subst (λ b. IsOver b k.view.log) c.going knew.over in
      let counts : tally_of plan.slots run.events ≡ tally_of plan.slots r.run.events = tally_read plan.slots r.run t e front behind c.may in
      let used = used_same plan s r s.homes id k k' i n b at live alive line size here inside in
      let long = length-set s.words i n in
      let same_blocks : r.blocks ++ [] ≡ r.blocks = append-nil r.blocks in
      let thread_is : k'.view.thread ≡ t = ap (λ (v : View). v.thread) c.view in
      owes_kept plan s r (set s.words i n) s.homes (set s.views id k') record {
        run = run;
        added = [];
        lines = r.lines;
        mine = is_home b;
        is_run = read_run plan.slots r.run k.view e front behind r.is_run knew c.may;
        knows = each_set (λ j u. u.live ≡ true → runs.Knows plan.slots run u.view) s.views id k'
            (λ _. subst (runs.Knows plan.slots run) (sym c.view) (read_knows plan.slots r.run k.view e front behind r.is_run knew c.may refs c.going c.named))
            (λ j u ne a l. knows_on plan.slots r.run run t u.view grows open_log (r.knows j u a l)
            (λ is. ne (r.apart j id t u k a at (l, inl is) (live, inl refl)))
            (λ is. ne (r.apart j id t u k a at (l, inr is) (live, inl refl))));
        apart = apart_set s.views id k k' r.apart at (λ y cl. ⊎_elim (λ (is : k'.view.thread ≡ y). inl (live, inl (sym thread_is ∙ is))) (λ (is : k'.view.unsplit ≡ Some y). absurd (no_start c y is)) cl.1);
        seated = record {
          long = r.seated.long;
          main = r.seated.main;
          taken = r.seated.taken;
          all = r.seated.all;
          count = r.seated.count;
          once = r.seated.once;
          mine = each_set (λ j u. u.live ≡ true → get_elem? r.lines u.line ≡ some (Some u.view.thread)) s.views id k'
              (λ _. ap (get_elem? r.lines) line ∙ (r.seated.mine id k at live ∙ ap (λ x. some (Some x)) (sym thread_is))) (λ j u _ a. r.seated.mine j u a);
          due = λ j y u a. each_set (λ j u. u.live ≡ true → u.view.unsplit ≡ Some y → get_elem? r.lines u.due ≡ some (Some y)) s.views id k' (λ _ is. absurd (no_start c y is)) (λ j u _ a. r.seated.due j y u a) j u a;
        };
        laid = laid_quiet s.words (set s.words i n) s.views r.blocks [] r.laid id k k' at (λ _. live) size long used c.own refl;
        words = λ x d hd not_mine f. family_same plan s r s.homes id k k' i n b at live alive line size here inside (is_home b) (eq-eqb (home_of b) (home_of b) refl) x d hd not_mine f;
        things = λ y d hd not_mine is. inl (refl, λ u. ends_same plan.slots r.run k.view e front behind r.is_run knew c.may u);
        sizes = λ y d hd not_mine is. ap (λ (q : Tally). size_of_id q.sizes y) counts;
        threads = λ n lt. lt;
        stays = stays_else plan s r s.homes id k k' i n b at live alive line size here inside thread_is (is_home b) run r.lines [] c.doing;
        turn = λ off. record {
          homes = refl;
          lines = refl;
          sinks = λ x st. stands_read Any plan.begun front behind r.run.refusals t e x (subst (λ es. runs.Stands Any plan.begun es r.run.refusals x) c.may.split st) c.may.reads;
          over = λ u. ends_same plan.slots r.run k.view e front behind r.is_run knew c.may u;
          threads = λ n lt. lt;
          keeps = keeps_set s.views id k k' at alive (c.doing turn_word off) (λ _. ap (λ (v : View). v.ended) c.view ∙ read_not_end e.call c.may.reads);
        };
        anew = λ d hd mine. subst (λ bs. Stands (after plan s r s.homes id k k' i n b at live alive line size here inside run r.lines bs) d) (sym same_blocks) (c.anew d hd (eqb-true (home_of d) (home_of b) mine));
        new = λ d h. absurd h;
        one = λ y d f h. absurd h;
        tree = tree_in plan s r (set s.views id k') (each_set (λ j u. u.live ≡ true → HasTree u → (c : Block) → Has r.blocks c → IsOfTree c → Knows u c) s.views id k' (λ _. c.tree) (λ j u _ a. r.tree j u a));
        linked = λ shape place h. absurd h;
        once = λ home link to number h. absurd h;
        spare = let owns = owned_set s.views id k k' at in let own = ap words_in c.own in let ahead = c.ahead in omega (arith, owns, own, ahead, used);
        few = λ home link to number h. absurd h;
        deep = λ shape place h. absurd h;
        one_thread = λ number c d h. absurd h;
        one_shape = λ shape place to h. absurd h;
        homes = λ b h. absurd h;
        known = λ j u d a. each_set (λ j u. Knows u d → Has (r.blocks ++ []) d) s.views id k' (λ kn. subst (λ bs. Has bs d) (sym same_blocks) (c.knows_in d kn)) (λ j u _ a kn. subst (λ bs. Has bs d) (sym same_blocks) (r.known j u d a kn)) j u a;
        lie = each_set (λ j u. u.live ≡ true → Each (LiesIn u.blocks) u.view.known) s.views id k' (λ _. c.lie) (λ j u _ a. r.lie j u a);
        own = others_own plan s r s.homes id k k' i n b at live alive line size here inside (λ x o h lt.
            let was = subst (λ os. Has os o) c.own h in
            own_same plan s r s.homes id k k' i n b at live alive line size here inside (o.at + x) id k at (o, was, (omega arith, omega (arith, lt))) ∙ r.own x id k o at was lt);
        used = let was = r.used in let owns = owned_set s.views id k k' at in let words = ap (λ (q : Tally). q.words) counts in let shapes = ap (λ (q : Tally). length q.shapes) counts in let blocks = ap words_of_shapes same_blocks in
            let own = ap words_in c.own in let ahead = c.ahead in omega (arith, was, owns, words, shapes, blocks, own, ahead, used);
        begun = let was = r.begun in let owns = owned_set s.views id k k' at in let own = ap words_in c.own in let ahead = c.ahead in omega (arith, was, owns, own, ahead, used);
        made_on = λ shape h. subst (λ (q : Tally). Has q.shapes shape) (sym counts) h;
        ahead_on = ahead_else plan s r s.homes id k k' i n b at live alive line size here inside (tally_of plan.slots run.events).shapes (λ shape h. inr (subst (λ l. Has l shape) (sym c.shapes) h));
        made_new = λ shape place h. absurd h;
        late = each_set (λ j u. u.live ≡ true → Each (MayStill plan.slots run u.view.thread) u.late) s.views id k' (λ _. subst (Each (MayStill plan.slots run k'.view.thread)) (sym c.late) tt)
            (λ j u ne a l. each_more (MayStill plan.slots r.run u.view.thread) (MayStill plan.slots run u.view.thread)
            (λ f p. (p.0, p.1, point_put plan.slots r.run (λ y. Steps plan.slots y u.view.thread f y) u.view.thread t e front behind (λ is. ne (r.apart j id t u k a at (l, inl is) (live, inl refl))) c.may p.2)) u.late (r.late j u a l));
        refused = λ x. subst (λ u. Each (Below u (length (set s.words i n))) (runs.refused_at r.run.refusals x)) (sym used) (subst (λ m. Each (Below (get_or s.words used_word 0) m) (runs.refused_at r.run.refusals x)) (sym long) (r.refused x));
        spent = each_set (λ j u. u.live ≡ false → held u ≡ 0) s.views id k' (λ q. absurd (true≢false (sym alive ∙ q))) (λ j u _ a. r.spent j u a);
        shows = hidden plan s r s.homes id k k' i n b at live alive line size here inside (open_hides plan.slots r.run k.view knew c.going) c.same_front run;
      }
    where
      -- a read starts no thread
      no_start : (c : Reads e refs front behind) (y : ℕ) → k'.view.unsplit ≡ Some y → ⊥
      no_start c y is = let none_left = (none_started plan.slots r.run k.view e front behind r.is_run (r.knows id k at live) c.may).1 in let h : None ≡ Some y = sym none_left ∙ (ap (λ (v : View). v.unsplit) (sym c.view) ∙ is) in cc
