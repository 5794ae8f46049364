-- Each step keeps the rule.
use Rattle.std.proofs.Common.{◌≡◌, ◌≢◌, ◌⊎◌, ℕ, zero, suc, true, false, List, [], ◌∷◌, ◌++◌, length, set, Some, None, refl, sym, ap, ◌∙◌, subst, inl, inr, ⊎_elim, eqb, true≢false, arith, slice_index}
use mathlib.Core.Option.{some, none, some-injective, some-ne-none}
use mathlib.Core.Logic.{dite}
use native.Mathlib.Decide.{ℕ_discrete}
use prog.Atomic.{either}
use lib.ListN.{get_elem?}
use Rattle.atomic_table.specs.Table.{State, Me, Act, keeps, takes, gives, stepped, Allows, Valid, carried_after}
use Rattle.atomic_table.proofs.Lists.{at_set, set_again}
use Rattle.rb_model.specs.declared.value.Ref.{Ref}
use Rattle.rb_model.specs.Log.{Call, Entry, Refusal, Log, has_end}
use Rattle.rb_model.specs.Private.{Item}
use Rattle.rb_shared.specs.History.{Event, History, by}
use Rattle.rb_shared.specs.Lists.{Each}
use Rattle.rb_shared.specs.Step.{Steps}
use Rattle.rb_shared.specs.Store.{Store}
use Rattle.rb_shared.specs.View.{View, with_entry, with_refused, started_number}
use Rattle.shared_run.specs.Standing.{NamesHeld}
use Rattle.shared_run.specs.Run.{Run, Sunk, SinkDid, SinkRefused, IsThread, Knows, MayEnter, Stands, IsOver, run_after, run_refused}
use Rattle.turn_store.specs.Holding.{Found, Holder, with_found, released}
use Rattle.shared_run.specs.Closing.{ShowsRun}
use Rattle.turn_store.specs.Turns.{Never, At, Claims, Apart, Free, Taken, Kept, Takes, Makes, Refuses, GivesUp, found_in, MayMake, MayRefuse, MayGiveUp}
use Rattle.shared_run.specs.Run.{IsNote}
use Rattle.shared_run.proofs.Knowing.{knows_on, noted, refusal_grows, refused_knows}
use Rattle.shared_run.proofs.Enters.{run_on, entry_grows, entry_knows, unended, new_is_past}
use Rattle.shared_run.proofs.Sinking.{stands_did, stands_refused}

-- ---- lists of holders

-- a fact of each holder, after one changed
pub each_set : (P : ℕ → Holder → Type 0) (views : List Holder) (id : ℕ) (w : Holder) → P id w → ((j : ℕ) (k : Holder) → j ≢ id → At views j k → P j k)
    → (j : ℕ) (k : Holder) → At (set views id w) j k → P j k
each_set P views id w mine others j k at = ⊎_elim
    (λ (t : (j ≡ id) × (w ≡ k)). subst (λ (x : ℕ × Holder). P x.0 x.1) (λ i. (sym t.0 i, t.1 i)) mine)
    (λ (t : (j ≢ id) × At views j k). others j k t.0 t.1)
    (at_set views id j w k at)

-- the same after one was added
pub each_snoc : (views : List Holder) (w : Holder) (j : ℕ) (k : Holder) → At (views ++ w ∷ []) j k → At views j k ⊎ ((j ≡ length views) × (w ≡ k))
each_snoc [] w zero k e = inr (refl, some-injective w k e)
each_snoc [] w (suc j) k e = absurd (some-ne-none k (sym e))
each_snoc (x ∷ xs) w zero k e = inl e
each_snoc (x ∷ xs) w (suc j) k e = ⊎_elim (λ t. inl t) (λ (t : (j ≡ length xs) × (w ≡ k)). inr (ap suc t.0, t.1)) (each_snoc xs w j k e)

-- what the changed holder claims it claimed before, or none did
pub apart_set : (views : List Holder) (id : ℕ) (k w : Holder) → Apart views → At views id k
    → ((n : ℕ) → Claims w n → Claims k n ⊎ ((j : ℕ) (u : Holder) → At views j u → Claims u n → ⊥)) → Apart (set views id w)
apart_set views id k w apart at new i j n a b ai bj ca cb =
    each_set (λ i a. Claims a n → i ≡ j) views id w
    (λ cw. each_set (λ j b. Claims b n → id ≡ j) views id w (λ _. refl)
    (λ l u ne au cu. ⊎_elim (λ (c : Claims k n). apart id l n k u at au c cu) (λ (nobody : (j : ℕ) (u : Holder) → At views j u → Claims u n → ⊥). absurd (nobody l u au cu)) (new n cw)) j b bj cb)
    (λ l u ne au cu. each_set (λ j b. Claims b n → l ≡ j) views id w
    (λ cw. ⊎_elim (λ (c : Claims k n). apart l id n u k au at cu c) (λ (nobody : (j : ℕ) (u : Holder) → At views j u → Claims u n → ⊥). absurd (nobody l u au cu)) (new n cw))
    (λ m x nel ax cx. apart l m n u x au ax cu cx) j b bj cb)
    i a ai ca

pub set_there : (views : List Holder) (id : ℕ) (k w : Holder) → At views id k → At (set views id w) id w
set_there [] id k w e = absurd (some-ne-none k (sym e))
set_there (x ∷ xs) zero k w e = refl
set_there (x ∷ xs) (suc id) k w e = set_there xs id k w e

pub one_holder : (views : List Holder) (id : ℕ) (k w : Holder) → At views id k → At views id w → k ≡ w
one_holder views id k w a b = some-injective k w (sym a ∙ b)

some_found : (a b : Found) → Some a ≡ Some b → a ≡ b
some_found a b e = cc

pub note_thread : (v w : View) → IsNote v w → w.thread ≡ v.thread
note_thread v w i = ap (λ (x : View). x.thread) i.2

pub note_ended : (v w : View) → IsNote v w → w.ended ≡ v.ended
note_ended v w i = ap (λ (x : View). x.ended) i.2

-- a note claims no more
pub note_claims : (k w : Holder) (n : ℕ) → w.live ≡ k.live → IsNote k.view w.view → Claims w n → Claims k n
note_claims k w n live i c = (
  sym live ∙ c.0,
  ⊎_elim
      (λ (e : w.view.thread ≡ n). inl (sym (note_thread k.view w.view i) ∙ e))
      (λ (e : w.view.unsplit ≡ Some n).
      let u : w.view.unsplit ≡ i.0 = ap (λ (x : View). x.unsplit) i.2 in
      ⊎_elim (λ (same : i.0 ≡ k.view.unsplit). inr (sym same ∙ (sym u ∙ e))) (λ (none_left : i.0 ≡ None). absurd (let h : None ≡ Some n = sym none_left ∙ (sym u ∙ e) in cc)) i.1)
      c.1,
)

module _ {S : Type 0} (store_of : S → Store) (sink_of : S → Sunk) (slots : ℕ) (begun : Sunk) where
  abbrev St : Type 0
  St = State S Holder

  abbrev Mine : Type 0
  Mine = Me S Holder

  abbrev Homes : Type 0
  Homes = List (mathlib.Core.Option.Option S)

  abbrev Rule : St → Type 0
  Rule = Kept store_of sink_of slots begun

  abbrev whole : List ℕ → Homes → List Holder → St
  whole ws hs vs = record { words = ws; homes = hs; views = vs }

  -- ---- the turn is taken

  abbrev Tries : List Holder → ℕ → Mine → List ℕ → Homes → Type 0
  Tries views id me ws hs = (w : Holder) × (a : Act S) × Valid hs me.1 a
      × Rule (stepped (whole ws hs views) 0 (either (eqb (slice_index ws 0) 0) 1 (slice_index ws 0)) id me.1 w a)
      × Takes store_of sink_of slots me (slice_index ws 0) (w, carried_after me.1 a)

  pub tries : (count id : ℕ) (me : Mine) → me.0.live ≡ true → me.0.view.ended ≡ false → Allows Rule count id me 0 (λ n. either (eqb n 0) 1 n) (Takes store_of sink_of slots me)
  tries count id me live going s r size at small = ⊎_elim free taken r.turn
    where
      free : Free store_of sink_of begun r.run s → Tries s.views id me s.words s.homes
      free f =
          let y : S = f.value in
          let k : Holder = me.0 in
          let w : Holder = with_found k (Some (found_in store_of sink_of y)) in
          subst (λ (ws : List ℕ). Tries s.views id me ws s.homes) (sym f.word) (subst (λ (hs : Homes). Tries s.views id me (0 ∷ []) hs) (sym f.home) (
            w,
            takes 0 y,
            refl,
            record {
              run = r.run;
              is_run = r.is_run;
              knows = each_set (λ j u. u.live ≡ true → Knows slots r.run u.view) s.views id w (r.knows id k at) (λ j u _ a. r.knows j u a);
              shows = each_set (λ j u. (h : History) → u.front ≡ Some h → ShowsRun r.run h) s.views id w (r.shows id k at) (λ j u _ a. r.shows j u a);
              apart = apart_set s.views id k w r.apart at (λ n c. inl (c.0, c.1));
              turn = inr record {
                word = refl;
                home = refl;
                holder = id;
                who = w;
                there = set_there s.views id k w at;
                live = live;
                going = going;
                what = found_in store_of sink_of y;
                holds = refl;
                is_of = f.is_of;
                others = λ j u apart a. each_set (λ j u. j ≢ id → u.holding ≡ None) s.views id w (λ ne. absurd (ne refl)) (λ l x ne b _. f.none_holds l x b) j u a apart;
              };
            },
            ((λ _. (y, refl, (r.run, sym f.is_of.0, r.is_run, r.knows id k at live))), (λ ne. absurd (ne refl))),
          ))

      taken : Taken store_of sink_of begun r.run s → Tries s.views id me s.words s.homes
      taken t =
          subst (λ (ws : List ℕ). Tries s.views id me ws s.homes) (sym t.word) (
            me.0,
            keeps,
            tt,
            subst (λ (vs : List Holder). Rule (whole (1 ∷ []) s.homes vs)) (sym (set_again s.views id me.0 at)) (subst (λ (ws : List ℕ). Rule (whole ws s.homes s.views)) t.word r),
            ((λ zero_is. absurd (omega arith)), (λ _. refl)),
          )

  -- the same, for a count that is named otherwise
  pub tries_as : (n : ℕ) → n ≡ slots → (count id : ℕ) (me : Mine) → me.0.live ≡ true → me.0.view.ended ≡ false → Allows Rule count id me 0 (λ n. either (eqb n 0) 1 n) (Takes store_of sink_of n me)
  tries_as n same count id me live going = subst (λ m. Allows Rule count id me 0 (λ n. either (eqb n 0) 1 n) (Takes store_of sink_of m me)) (sym same) (tries count id me live going)

  -- ---- who has the turn

  pub held_by : (s : St) (r : Rule s) (id : ℕ) (k : Holder) (f : Found) → At s.views id k → k.holding ≡ Some f
      → (t : Taken store_of sink_of begun r.run s) × (id ≡ t.holder) × (k ≡ t.who) × (f ≡ t.what)
  held_by s r id k f at has = ⊎_elim
      (λ (x : Free store_of sink_of begun r.run s). let nothing = x.none_holds id k at in absurd (cc))
      (λ (t : Taken store_of sink_of begun r.run s). dite (ℕ_discrete id t.holder)
      (λ is. let same : k ≡ t.who = one_holder s.views id k t.who at (ap (λ l. get_elem? s.views l) is ∙ t.there) in
      (t, is, same, some_found f t.what (sym has ∙ (ap (λ (u : Holder). u.holding) same ∙ t.holds))))
      (λ not. let nothing = t.others id k not at in absurd (cc)))
      r.turn

  -- no seat claims a number that no thread has
  nobody_claims : (s : St) (r : Rule s) (n : ℕ) → n ≡ length r.run.refusals → (j : ℕ) (u : Holder) → At s.views j u → Claims u n → ⊥
  nobody_claims s r n last j u a c =
      let k = r.knows j u a c.0 in ⊎_elim
      (λ (is : u.view.thread ≡ n). let lt = k.within in omega (arith, lt, is, last))
      (λ (is : u.view.unsplit ≡ Some n). let d = k.due n is in let lt = d.0 in omega (arith, lt, last))
      c.1

  -- a thread that goes on shows that no seat shows the history
  none_shows : (s : St) (r : Rule s) (t : ℕ) → IsThread r.run t → has_end (by t r.run.events) ≡ false → (j : ℕ) (u : Holder) → At s.views j u → (h : History) → u.front ≡ Some h → ⊥
  none_shows s r t lt going j u a h is = true≢false (sym ((r.shows j u a h is).1 t lt) ∙ going)

  -- the turn is given back
  abbrev Released : List Holder → ℕ → Mine → List ℕ → Homes → (Mine → Type 0) → Type 0
  Released views id me ws hs then = (w : Holder) × (a : Act S) × Valid hs me.1 a × Rule (stepped (whole ws hs views) 0 0 id me.1 w a) × then (w, carried_after me.1 a)

  -- ---- with an entry

  makes_at : (count id : ℕ) (k : Holder) (y : S) (f : Found) (e : Entry) (refs : List Ref) → k.holding ≡ Some f → MayEnter k.view f.store e
      → Steps slots f.store k.view.thread e (store_of y) → Each (NamesHeld (store_of y)) refs → SinkDid e.call f.sink (sink_of y)
      → Allows Rule count id (k, (0, y) ∷ []) 0 (λ _. 0) (λ _. Makes e refs (k, (0, y) ∷ []))
  makes_at count id k y f e refs has may st named did s r size at small =
      let g = held_by s r id k f at has in
      let t = g.0 in
      let me : Mine = (k, (0, y) ∷ []) in
      let v : View = k.view in
      let z : Store = store_of y in
      let live : k.live ≡ true = ap (λ (u : Holder). u.live) g.2 ∙ t.live in
      let going : v.ended ≡ false = ap (λ (u : Holder). u.view.ended) g.2 ∙ t.going in
      let here : f.store ≡ r.run.store = ap (λ (x : Found). x.store) g.3 ∙ t.is_of.0 in
      let may' : MayEnter v r.run.store e = subst (λ x. MayEnter v x e) here may in
      let st' : Steps slots r.run.store v.thread e z = subst (λ x. Steps slots x v.thread e z) here st in
      let own = r.knows id k at live in
      let new : Run = run_after r.run v.thread e z in
      let w : Holder = released k (with_entry v e refs) in
      let grows = entry_grows slots r.run v e z r.is_run own may' st' in
      let open_log = unended slots r.run v e z r.is_run own may' st' going in
      subst (λ (ws : List ℕ). Released s.views id me ws s.homes (Makes e refs me)) (sym t.word) (subst (λ (hs : Homes). Released s.views id me (1 ∷ []) hs (Makes e refs me)) (sym t.home) (
        w,
        gives,
        tt,
        record {
          run = new;
          is_run = run_on slots r.run v e z r.is_run own may' st';
          knows = each_set (λ j u. u.live ≡ true → Knows slots new u.view) s.views id w (λ _. entry_knows slots r.run v e z r.is_run own may' st' refs going named)
              (λ j u ne a l. knows_on slots r.run new v.thread u.view grows open_log (r.knows j u a l)
              (λ is. ne (r.apart j id v.thread u k a at (l, inl is) (live, inl refl)))
              (λ is. ne (r.apart j id v.thread u k a at (l, inr is) (live, inl refl))));
          shows = each_set (λ j u. (h : History) → u.front ≡ Some h → ShowsRun new h) s.views id w
              (λ h is. absurd (none_shows s r v.thread own.within open_log id k at h is))
              (λ j u _ a h is. absurd (none_shows s r v.thread own.within open_log j u a h is));
          apart = apart_set s.views id k w r.apart at (λ n c. ⊎_elim (λ (is : v.thread ≡ n). inl (live, inl is))
              (λ (is : started_number e.reply ≡ Some n). inr (nobody_claims s r n (new_is_past slots r.run v e z r.is_run own may' st' n is))) c.1);
          turn = inl record {
            word = refl;
            value = y;
            home = refl;
            is_of = (refl, stands_did Never begun r.run.events r.run.refusals v.thread e f.sink (sink_of y) (subst (Stands Never begun r.run.events r.run.refusals) (ap (λ (x : Found). x.sink) (sym g.3)) t.is_of.1) did);
            none_holds = each_set (λ j u. u.holding ≡ None) s.views id w refl (λ j u ne a. t.others j u (λ is. ne (is ∙ sym g.1)) a);
          };
        },
        refl,
      ))

  pub makes : (count id : ℕ) (me : Mine) (y : S) (f : Found) (e : Entry) (refs : List Ref) → me.1 ≡ (0, y) ∷ [] → me.0.holding ≡ Some f → MayEnter me.0.view f.store e
      → Steps slots f.store me.0.view.thread e (store_of y) → Each (NamesHeld (store_of y)) refs → SinkDid e.call f.sink (sink_of y) → Allows Rule count id me 0 (λ _. 0) (λ _. Makes e refs me)
  makes count id me y f e refs carries has may st named did =
      subst (λ (c : List (ℕ × S)). Allows Rule count id (me.0, c) 0 (λ _. 0) (λ _. Makes e refs (me.0, c))) (sym carries) (makes_at count id me.0 y f e refs has may st named did)

  -- ---- with a refusal

  refuses_at : (count id : ℕ) (k : Holder) (y : S) (f : Found) (call : Call) (moved : List Item) → k.holding ≡ Some f → store_of y ≡ f.store → SinkRefused call f.sink (sink_of y)
      → Allows Rule count id (k, (0, y) ∷ []) 0 (λ _. 0) (λ _. Refuses call moved (k, (0, y) ∷ []))
  refuses_at count id k y f call moved has same did s r size at small =
      let g = held_by s r id k f at has in
      let t = g.0 in
      let me : Mine = (k, (0, y) ∷ []) in
      let v : View = k.view in
      let live : k.live ≡ true = ap (λ (u : Holder). u.live) g.2 ∙ t.live in
      let going : v.ended ≡ false = ap (λ (u : Holder). u.view.ended) g.2 ∙ t.going in
      let here : f.store ≡ r.run.store = ap (λ (x : Found). x.store) g.3 ∙ t.is_of.0 in
      let own = r.knows id k at live in
      let q : Refusal = record { call = call; moved = moved; before = length v.log.entries; words = None } in
      let new : Run = run_refused r.run v.thread q in
      let w : Holder = released k (with_refused v call moved None) in
      let grows = refusal_grows r.run v.thread q in
      let open_log : has_end (by v.thread r.run.events) ≡ false = ap (λ (l : Log). has_end l.entries) (sym own.log) ∙ subst (λ b. IsOver b v.log) going own.over in
      subst (λ (ws : List ℕ). Released s.views id me ws s.homes (Refuses call moved me)) (sym t.word) (subst (λ (hs : Homes). Released s.views id me (1 ∷ []) hs (Refuses call moved me)) (sym t.home) (
        w,
        gives,
        tt,
        record {
          run = new;
          is_run = record {
            leads = r.is_run.leads;
            counted = Rattle.shared_run.proofs.Events.refused_count r.run.refusals v.thread q ∙ r.is_run.counted;
            started = r.is_run.started;
            begun = r.is_run.begun;
            within = Rattle.rb_shared.proofs.Runs.each_more (λ (x : Event). IsThread r.run x.thread) (λ (x : Event). IsThread new x.thread) (λ x lt. let le = grows.more in omega (arith, lt, le)) r.run.events r.is_run.within;
            made = λ n pos lt. r.is_run.made n pos (let c = Rattle.shared_run.proofs.Events.refused_count r.run.refusals v.thread q in omega (arith, lt, c));
            unmoved = r.is_run.unmoved;
            from = r.is_run.from;
            ended = r.is_run.ended;
            mentions = r.is_run.mentions;
            sized = r.is_run.sized;
          };
          knows = each_set (λ j u. u.live ≡ true → Knows slots new u.view) s.views id w (λ _. refused_knows slots r.run v call moved None q own going refl)
              (λ j u ne a l. knows_on slots r.run new v.thread u.view grows open_log (r.knows j u a l)
              (λ is. ne (r.apart j id v.thread u k a at (l, inl is) (live, inl refl)))
              (λ is. ne (r.apart j id v.thread u k a at (l, inr is) (live, inl refl))));
          shows = each_set (λ j u. (h : History) → u.front ≡ Some h → ShowsRun new h) s.views id w
              (λ h is. absurd (none_shows s r v.thread own.within open_log id k at h is))
              (λ j u _ a h is. absurd (none_shows s r v.thread own.within open_log j u a h is));
          apart = apart_set s.views id k w r.apart at (λ n c. inl (live, ⊎_elim (λ (is : v.thread ≡ n). inl is) (λ (is : None ≡ Some n). absurd (cc)) c.1));
          turn = inl record {
            word = refl;
            value = y;
            home = refl;
            is_of = (
              same ∙ here,
              stands_refused Never begun r.run.events r.run.refusals v.thread q call f.sink (sink_of y)
                  (subst (Stands Never begun r.run.events r.run.refusals) (ap (λ (x : Found). x.sink) (sym g.3)) t.is_of.1) did (refl, refl) own.within,
            );
            none_holds = each_set (λ j u. u.holding ≡ None) s.views id w refl (λ j u ne a. t.others j u (λ is. ne (is ∙ sym g.1)) a);
          };
        },
        refl,
      ))

  pub refuses : (count id : ℕ) (me : Mine) (y : S) (f : Found) (call : Call) (moved : List Item) → me.1 ≡ (0, y) ∷ [] → me.0.holding ≡ Some f → store_of y ≡ f.store
      → SinkRefused call f.sink (sink_of y) → Allows Rule count id me 0 (λ _. 0) (λ _. Refuses call moved me)
  refuses count id me y f call moved carries has same did =
      subst (λ (c : List (ℕ × S)). Allows Rule count id (me.0, c) 0 (λ _. 0) (λ _. Refuses call moved (me.0, c))) (sym carries) (refuses_at count id me.0 y f call moved has same did)

  -- ---- with neither

  gives_up_at : (count id : ℕ) (k : Holder) (y : S) (f : Found) (v : View) → k.holding ≡ Some f → IsNote k.view v → store_of y ≡ f.store → sink_of y ≡ f.sink
      → Allows Rule count id (k, (0, y) ∷ []) 0 (λ _. 0) (λ _. GivesUp v (k, (0, y) ∷ []))
  gives_up_at count id k y f v has note same sunk s r size at small =
      let g = held_by s r id k f at has in
      let t = g.0 in
      let me : Mine = (k, (0, y) ∷ []) in
      let w : Holder = released k v in
      subst (λ (ws : List ℕ). Released s.views id me ws s.homes (GivesUp v me)) (sym t.word) (subst (λ (hs : Homes). Released s.views id me (1 ∷ []) hs (GivesUp v me)) (sym t.home) (
        w,
        gives,
        tt,
        record {
          run = r.run;
          is_run = r.is_run;
          knows = each_set (λ j u. u.live ≡ true → Knows slots r.run u.view) s.views id w (λ l. noted slots r.run k.view v note (r.knows id k at l)) (λ j u _ a. r.knows j u a);
          shows = each_set (λ j u. (h : History) → u.front ≡ Some h → ShowsRun r.run h) s.views id w (r.shows id k at) (λ j u _ a. r.shows j u a);
          apart = apart_set s.views id k w r.apart at (λ n c. inl (note_claims k w n refl note c));
          turn = inl record {
            word = refl;
            value = y;
            home = refl;
            is_of = (same ∙ (ap (λ (x : Found). x.store) g.3 ∙ t.is_of.0), subst (Stands Never begun r.run.events r.run.refusals) (sym (sunk ∙ ap (λ (x : Found). x.sink) g.3)) t.is_of.1);
            none_holds = each_set (λ j u. u.holding ≡ None) s.views id w refl (λ j u ne a. t.others j u (λ is. ne (is ∙ sym g.1)) a);
          };
        },
        refl,
      ))

  pub gives_up : (count id : ℕ) (me : Mine) (y : S) (f : Found) (v : View) → me.1 ≡ (0, y) ∷ [] → me.0.holding ≡ Some f → IsNote me.0.view v → store_of y ≡ f.store → sink_of y ≡ f.sink
      → Allows Rule count id me 0 (λ _. 0) (λ _. GivesUp v me)
  gives_up count id me y f v carries has note same sunk =
      subst (λ (c : List (ℕ × S)). Allows Rule count id (me.0, c) 0 (λ _. 0) (λ _. GivesUp v (me.0, c))) (sym carries) (gives_up_at count id me.0 y f v has note same sunk)

  -- ---- the same, by what a call has

  pub makes_as : (count id : ℕ) (me : Mine) (e : Entry) (refs : List Ref) → MayMake store_of sink_of e refs slots me → Allows Rule count id me 0 (λ _. 0) (λ _. Makes e refs me)
  makes_as count id me e refs m = makes count id me m.3.0 m.0 e refs m.3.1 m.1 m.2 m.3.2.0 m.3.2.1 m.3.2.2

  pub refuses_as : (count id : ℕ) (me : Mine) (named call : Call) (moved : List Item) → named ≡ call → MayRefuse store_of sink_of call me → Allows Rule count id me 0 (λ _. 0) (λ _. Refuses named moved me)
  refuses_as count id me named call moved same m =
      subst (λ x. Allows Rule count id me 0 (λ _. 0) (λ _. Refuses x moved me)) (sym same) (refuses count id me m.2.0 m.0 call moved m.2.1 m.1 m.2.2.0 m.2.2.1)

  pub gives_up_as : (count id : ℕ) (me : Mine) (v : View) → MayGiveUp store_of sink_of v me → Allows Rule count id me 0 (λ _. 0) (λ _. GivesUp v me)
  gives_up_as count id me v m = gives_up count id me m.3.0 m.0 v m.3.1 m.1 m.2 m.3.2.0 m.3.2.1
