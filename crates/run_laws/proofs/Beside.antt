-- A script that starts no thread does with its shared things what it does alone.
use Rattle.std.proofs.Common.{◌≡◌, ℕ, Bool, true, false, cond, List, [], ◌∷◌, ◌++◌, length, map, Option, Some, None, refl, sym, ap, ◌∙◌, subst}
use Rattle.std.specs.Prelude.{is_some}
use Rattle.std.proofs.lemmas.List.{append-nil, map-append}
use Rattle.std.proofs.lemmas.Grind.{flat_map-append}
use Rattle.rb_model.specs.declared.value.Id.{Id}
use Rattle.rb_model.specs.Values.{To, Reference, same_id}
use Rattle.rb_model.specs.Acts.{Act, Reply, Done, handed}
use Rattle.rb_model.specs.Acts as reply
use Rattle.rb_model.specs.Ends.{End as Ending, told, closing}
use Rattle.rb_model.specs.Ends as ending
use Rattle.rb_model.specs.Things.{Thing, Object, Elements, Pairs, Mutex, Thread, becomes_by, gives_to}
use Rattle.rb_model.specs.Private.{Private, Item, Leaves, bare, held, entered, acted}
use Rattle.rb_model.specs.Log.{Log, Entry, On, Print, last_step, printed, prints}
use Rattle.rb_model.specs.Started.{ungathered}
use Rattle.rb_shared.specs.Lists as shared
use Rattle.rb_shared.specs.Store.{Store, opening as opening_store, found, is_there, with_thing}
use Rattle.rb_shared.specs.Step.{Steps, ids_in_call, behind_act, act_reply, reply_of, reply_to, store_behind, with_act}
use Rattle.rb_shared.specs.History.{Placed, History, IsNoThread, Leads, MovesNoThread, merge, entries_of, prints as prints_of}
use Rattle.rb_shared.proofs.Joins.{act_keeps}
use Rattle.rb_shared.proofs.Runs.{each_front, each_behind, leads_split}
use Rattle.rb_machine.specs.Scopes.{Script}
use Rattle.rb_machine.specs.Control.{State}
use Rattle.rb_machine.specs.Move.{Make, Ask, Show, move, replied}
use Rattle.rb_machine.specs.Follows.{At, Comes, ends, cut, fills, starts_full, refuses, Tail, Follows, closes, late, full, entry, last_entry, next_thing, sort_of}
use Rattle.rb_machine.specs.Follows as thread
use Rattle.rb_machine.specs.Alone.{Runs, Alone, opening, globals_alone}
use Rattle.rb_machine.specs.Alone as run
use Rattle.rb_machine.specs.Laws.{is_cut}
use Rattle.rb_machine.proofs.Main.{last_step_more}
use Rattle.rb_machine.proofs.Once.{front}
use Rattle.rb_closure.specs.Closure.{Each}
use Rattle.rb_closure.specs.Sharing.{starts_none}
use Rattle.rb_closure.proofs.Stores.{stays_out}
use Rattle.rb_closure.proofs.Lists.{both, each_if}
use Rattle.run_laws.specs.Laws.{MainDoes, DoesAsAlone, ShowsAFront}
use Rattle.run_laws.proofs.Merging.{merge_moves, merge_prints}
use Rattle.run_laws.proofs.Single.{StartsNone, of_main, main_merge, same_prints}
use Rattle.run_laws.proofs.Quiet.{never_begins, own_work, starts_whole}
use Rattle.run_laws.proofs.Joint.{Joint, leaves_count, opening_joint, makes_joint, private_there, acts_joint, moves_joint, shared_there, asks_joint}

-- ---- one entry more

prints_more : (es : List Entry) (e : Entry) → prints (es ++ e ∷ []) ≡ prints es ++ printed e.call
prints_more es e = flat_map-append (λ (e : Entry). printed e.call) es (e ∷ []) ∙ ap (λ l. prints es ++ l) (append-nil (printed e.call))

prints_same : (es : List Entry) (e : Entry) → printed e.call ≡ [] → prints (es ++ e ∷ []) ≡ prints es
prints_same es e h = prints_more es e ∙ (ap (λ l. prints es ++ l) h ∙ append-nil (prints es))

-- ---- stores without threads

abbrev NoThreads : Store → Type 0
NoThreads z = Each (λ (x : Item). IsNoThread x.thing) z

none_found : (z : Store) (id : Id) (x : Thing) → NoThreads z → found z id ≡ Some x → IsNoThread x
none_found [] id x n f = absurd (let no : None ≡ Some x = f in cc)
none_found (y ∷ ys) id x (m, n) f = by (same_id y.id id) f (none_found ys id x n)
  where
    by : (b : Bool) → cond b (Some y.thing) (found ys id) ≡ Some x → (found ys id ≡ Some x → IsNoThread x) → IsNoThread x
    by true g later = let is : y.thing ≡ x = cc in subst IsNoThread is m
    by false g later = later g

none_with : (z : Store) (id : Id) (x : Thing) → NoThreads z → IsNoThread x → NoThreads (with_thing z id x)
none_with [] id x n m = tt
none_with (y ∷ ys) id x (first, n) m =
    each_if (λ (x : Item). IsNoThread x.thing) (same_id y.id id) (record { id = y.id; thing = x } ∷ ys) (y ∷ with_thing ys id x) (m, n) (first, none_with ys id x n m)

none_moved : (xs : List Item) → shared.Each (λ (x : Item). IsNoThread x.thing) xs → NoThreads xs
none_moved [] a = tt
none_moved (x ∷ xs) (p, a) = (p, none_moved xs a)

-- of a thing that is no thread, the plain step is that on private things
alike : (t : ℕ) (x : Thing) (act : Act) → IsNoThread x → (behind_act t x act ≡ becomes_by t x act) × (act_reply t x act ≡ gives_to t x act)
alike t (Thread s) act n = absurd (n s refl)
alike t (Mutex owner) act n = (refl, refl)
alike t (Object class fields) act n = (refl, refl)
alike t (Elements vs) act n = (refl, refl)
alike t (Pairs ps) act n = (refl, refl)

still_none : (t : ℕ) (x : Thing) (act : Act) → IsNoThread x → IsNoThread (becomes_by t x act)
still_none t x act n s e = let o = act_keeps t x act s ((alike t x act n).0 ∙ e) in n o.0 o.1

there_is : (w : Store) (id : Id) → is_there w id ≡ true → (x : Thing) × (found w id ≡ Some x)
there_is w id e = by (found w id) refl e
  where
    by : (o : Option Thing) → found w id ≡ o → is_some o ≡ true → (x : Thing) × (found w id ≡ Some x)
    by None f g = absurd (let no : false ≡ true = g in cc)
    by (Some x) f g = (x, f)

-- ---- the run alone beside the main thread

module _ (S : Script) (N : ℕ) (free : starts_none S.program ≡ true) (slots : ℕ) where
  abbrev MainAt : Log → Private → State → Type 0
  MainAt l h s = At S N (opening S N) l h s

  -- the entries of a log are the one order so far, and lead to this store
  record Ordered (es : List Entry) (z : Store) : Type 0 where
    pub leads : Leads slots opening_store (map of_main es) z
    pub moves : shared.Each MovesNoThread (map of_main es)

  -- the script alone has come to the same state, has shown the same bytes, and has in one store what is private and what is shared
  record Beside (es : List Entry) (h : Private) (z : Store) (s : State) : Type 0 where
    pub all : Private
    pub runs : Runs S N (prints es) all s
    pub joint : Joint h z all
    pub plain : NoThreads z

  -- the entry that came last, and what was before it
  record Last (es : List Entry) (e : Entry) (z : Store) : Type 0 where
    pub before : Store
    pub ordered : Ordered es before
    pub step : Steps slots before 0 e z
    pub moves : MovesNoThread (of_main e)

  last_of : (es : List Entry) (e : Entry) (z : Store) → Ordered (es ++ e ∷ []) z → Last es e z
  last_of es e z o =
      let order : map of_main (es ++ e ∷ []) ≡ map of_main es ++ of_main e ∷ [] = map-append of_main es (e ∷ []) in
      let leads = subst (λ ys. Leads slots opening_store ys z) order o.leads in
      let moves = subst (λ ys. shared.Each MovesNoThread ys) order o.moves in
      split (leads_split slots (map of_main es) (of_main e ∷ []) opening_store z leads)
      (each_front MovesNoThread (map of_main es) (of_main e ∷ []) moves) (each_behind MovesNoThread (map of_main es) (of_main e ∷ []) moves).0
    where
      split : (y : Store) × Leads slots opening_store (map of_main es) y × Leads slots y (of_main e ∷ []) z → shared.Each MovesNoThread (map of_main es) → MovesNoThread (of_main e) → Last es e z
      split (y, leads, one) moves last =
          record { before = y; ordered = record { leads = leads; moves = moves }; step = subst (λ x. Steps slots y 0 e x) (sym one.2) one.1; moves = last }

  -- what is shared when what moves has joined has no thread
  plain_joined : (es : List Entry) (e : Entry) (z : Store) (b : Last es e z) → NoThreads b.before → NoThreads (b.before ++ e.moved)
  plain_joined es e z b n = both (λ (x : Item). IsNoThread x.thing) b.before e.moved n (none_moved e.moved b.moves)

  -- something is asked of a shared thing
  asks_beside : (es : List Entry) (h h' : Private) (z : Store) (s : State) (r : Reference) (act : Act) (e : Entry) (b : Last es e z) → h.thread ≡ 0 → Beside es h b.before s → move S s ≡ Ask r act → held h r.id ≡ None
      → Leaves h (handed act) e.moved h' → e.call ≡ On r act → Beside (es ++ e ∷ []) h' z (replied s e.reply)
  asks_beside es h h' z s r act e b zero was m none leaves call = of (there_is (b.before ++ e.moved) r.id known)
    where
      known : is_there (b.before ++ e.moved) r.id ≡ true
      known = (subst (λ c. shared.Each (λ (id : Id). is_there (b.before ++ e.moved) id ≡ true) (ids_in_call c)) call
          (each_front (λ (id : Id). is_there (b.before ++ e.moved) id ≡ true) (ids_in_call e.call) _ b.step.known)).0

      of : (x : Thing) × (found (b.before ++ e.moved) r.id ≡ Some x) → Beside (es ++ e ∷ []) h' z (replied s e.reply)
      of (x, f) =
          let joint = moves_joint h h' b.before was.all (handed act) e.moved leaves b.step.joins was.joint in
          let out = stays_out r.id leaves none in
          let plain = plain_joined es e z b was.plain in
          let thing = none_found (b.before ++ e.moved) r.id x plain f in
          let there = shared_there h' (b.before ++ e.moved) was.all r.id x joint out f in
          let mine : was.all.thread ≡ 0 = was.joint.whose ∙ zero in
          let same = alike 0 x act thing in
          let behind : z ≡ with_thing (b.before ++ e.moved) r.id (becomes_by was.all.thread x act) =
          b.step.store_is ∙ (ap (store_behind slots (b.before ++ e.moved) 0) call ∙ (ap (λ o. with_act 0 (b.before ++ e.moved) r.id o act) f
          ∙ (ap (with_thing (b.before ++ e.moved) r.id) same.0 ∙ ap (λ t. with_thing (b.before ++ e.moved) r.id (becomes_by t x act)) (sym mine)))) in
          let reply : e.reply ≡ gives_to was.all.thread x act =
          b.step.reply_is ∙ (ap (reply_to slots (b.before ++ e.moved) 0) call ∙ (ap (λ o. reply_of 0 o act) f ∙ (same.1 ∙ ap (λ t. gives_to t x act) (sym mine)))) in
          let silent : prints (es ++ e ∷ []) ≡ prints es = prints_same es e (ap printed call) in record {
            all = acted was.all r.id act x;
            runs = subst (λ bytes. Runs S N bytes (acted was.all r.id act x) (replied s e.reply)) (sym silent)
                (subst (λ a. Runs S N (prints es) (acted was.all r.id act x) (replied s a)) (sym reply) (run.acts (prints es) was.all s r act x was.runs m there));
            joint = subst (λ y. Joint h' y (acted was.all r.id act x)) (sym behind) (asks_joint h' (b.before ++ e.moved) was.all r.id act x joint out f);
            plain = subst NoThreads (sym behind) (none_with (b.before ++ e.moved) r.id (becomes_by was.all.thread x act) plain (still_none was.all.thread x act thing));
          }

  makes_beside : (es : List Entry) (h : Private) (z : Store) (s : State) (thing : Thing) → Beside es h z s → move S s ≡ Make thing → Beside es (entered h thing) z (replied s (reply.Value (To (next_thing h thing))))
  makes_beside es h z s thing was e = record {
    all = entered was.all thing;
    runs = subst (λ r. Runs S N (prints es) (entered was.all thing) (replied s (reply.Value (To r)))) same (run.makes (prints es) was.all s thing was.runs e);
    joint = makes_joint h z was.all thing was.joint;
    plain = was.plain;
  }
    where
      same : next_thing was.all thing ≡ next_thing h thing
      same =
          let to : ℕ → ℕ → Reference = λ t n. record { sort = sort_of thing; id = record { thread = t; serial = n } } in
          ap (λ t. to t (length was.all.things)) was.joint.whose ∙ ap (to h.thread) was.joint.count

  acts_beside : (es : List Entry) (h : Private) (z : Store) (s : State) (r : Reference) (act : Act) (thing : Thing) → Beside es h z s → move S s ≡ Ask r act → held h r.id ≡ Some thing
      → Beside es (acted h r.id act thing) z (replied s (gives_to h.thread thing act))
  acts_beside es h z s r act thing was e f = record {
    all = acted was.all r.id act thing;
    runs = subst (λ t. Runs S N (prints es) (acted was.all r.id act thing) (replied s (gives_to t thing act))) was.joint.whose
        (run.acts (prints es) was.all s r act thing was.runs e (private_there h z was.all r.id thing was.joint f));
    joint = acts_joint h z was.all r.id act thing was.joint f;
    plain = was.plain;
  }

  prints_beside : (es : List Entry) (h : Private) (z : Store) (s : State) (bytes : List ℕ) (e : Entry) (b : Last es e z) → Beside es h b.before s → move S s ≡ Show bytes → e.call ≡ Print bytes → e.moved ≡ []
      → Beside (es ++ e ∷ []) h z (replied s Done)
  prints_beside es h z s bytes e b was m call none =
      let same : z ≡ b.before =
      b.step.store_is ∙ (ap (store_behind slots (b.before ++ e.moved) 0) call ∙ (ap (λ ms. b.before ++ ms) none ∙ append-nil b.before)) in record {
        all = was.all;
        runs = subst (λ shown. Runs S N shown was.all (replied s Done)) (sym (prints_more es e ∙ ap (λ c. prints es ++ printed c) call)) (run.shows (prints es) was.all s bytes was.runs m);
        joint = subst (λ y. Joint h y was.all) (sym same) was.joint;
        plain = subst NoThreads (sym same) was.plain;
      }

  begins_beside : (t : ℕ) (z : Store) → t ≡ 0 → Ordered [] z → Beside [] (bare t) z (opening S N)
  begins_beside t z zero o = record {
    all = globals_alone;
    runs = run.begins;
    joint = subst (λ n. Joint (bare n) z globals_alone) (sym zero) (subst (λ y. Joint (bare 0) y globals_alone) (sym o.leads) opening_joint);
    plain = subst NoThreads (sym o.leads) (λ s e. (let no : Object 4294967295 [] ≡ Thread s = e in cc), tt);
  }

  beside : {l : Log} {h : Private} {s : State} (z : Store) → MainAt l h s → h.thread ≡ 0 → Ordered l.entries z → Beside l.entries h z s
  beside z (thread.here t) zero o = begins_beside t z zero o
  beside z (thread.goes l h s s' a e) zero o =
      let was = beside z a zero o in
      record { all = was.all; runs = run.goes (prints l.entries) was.all s s' was.runs e; joint = was.joint; plain = was.plain }
  beside z (thread.makes l h s thing a e) zero o = let was = beside z a zero o in makes_beside l.entries h z s thing was e
  beside z (thread.acts l h s r act thing a e f) zero o = let was = beside z a zero o in acts_beside l.entries h z s r act thing was e f
  beside z (thread.asks l h h' s r act moved answer a e f g) zero o =
      let mine : h.thread ≡ 0 = sym (leaves_count g).0 ∙ zero in
      let b = last_of l.entries (entry S N (opening S N) s (On r act) moved answer) z o in
      asks_beside l.entries h h' z s r act (entry S N (opening S N) s (On r act) moved answer) b mine (beside b.before a mine b.ordered) e f g refl
  beside z (thread.starts l h h' s body values moved answer a e g) zero o = absurd (never_begins S N free a e)
  beside z (thread.prints l h s bytes a e) zero o =
      let b = last_of l.entries (entry S N (opening S N) s (Print bytes) [] Done) z o in
      prints_beside l.entries h z s bytes (entry S N (opening S N) s (Print bytes) [] Done) b (beside b.before a zero b.ordered) e refl refl

  -- ---- its end

  -- what the thread has shown, a run of the script alone has shown
  abbrev Shown : List ℕ → Type 0
  Shown b = (h : Private) × (s : State) × Runs S N b h s

  record Out (es : List Entry) (how : Ending) (n : ℕ) : Type 0 where
    pub shown : Shown (prints es)
    pub whole : is_cut how ≡ false → Alone S N (prints es) how n

  shown_at : (es : List Entry) (h : Private) (z : Store) (s : State) → Beside es h z s → Shown (prints es)
  shown_at es h z s b = (b.all, s, b.runs)

  out : {l : Log} {h : Private} {own : Ending} {n : ℕ} (z : Store) → Comes S N (opening S N) l h own n → h.thread ≡ 0 → Ordered l.entries z → Out l.entries own n
  out z (ends l h s e a stop) zero o =
      let b = beside z a zero o in
      record { shown = shown_at l.entries h z s b; whole = λ c. record { store = b.all; last = s; run = b.runs; ends = stop; counted = refl } }
  out z (cut l h want n a w ge le) zero o = record { shown = shown_at l.entries h z want (beside z a zero o); whole = λ c. absurd (let no : true ≡ false = c in cc) }
  out z (fills l h h' s r act moved used asked a e f g) zero o = record { shown = shown_at l.entries h z s (beside z a zero o); whole = λ c. absurd (let no : true ≡ false = c in cc) }
  out z (starts_full l h h' s body values moved used asked a e g) zero o = record { shown = shown_at l.entries h z s (beside z a zero o); whole = λ c. absurd (let no : true ≡ false = c in cc) }
  out z (refuses l h s bytes a e) zero o = record { shown = shown_at l.entries h z s (beside z a zero o); whole = λ c. absurd (let no : true ≡ false = c in cc) }

  -- ---- the whole log

  -- one entry more, which shows nothing
  last_out : (es : List Entry) (last : Entry) (how : Ending) (n : ℕ) (z : Store) → printed last.call ≡ [] → last.step ≡ n → Ordered (es ++ last ∷ []) z → ((y : Store) → Ordered es y → Out es how n)
      → Out (es ++ last ∷ []) how (last_step (es ++ last ∷ []))
  last_out es last how n z silent at o f =
      let b = last_of es last z o in
      let was = f b.before b.ordered in
      let same = prints_same es last silent in record {
        shown = subst Shown (sym same) was.shown;
        whole = λ c. subst (λ m. Alone S N (prints (es ++ last ∷ [])) how m) (sym (last_step_more es last ∙ at)) (subst (λ bytes. Alone S N bytes how n) (sym same) (was.whole c));
      }

  -- what its own work comes to, it comes to, where it has no tail
  behind_out : {n : ℕ} {l l' : Log} {h : Private} {own e : Ending} {lacking : Bool} (y : Store) → Comes S N (opening S N) l h own n → Tail n l own (ungathered l) l' e lacking → h.thread ≡ 0 → Ordered l'.entries y
      → Out l'.entries (closing e lacking) n
  behind_out {n = n} {l = l} {l' = l'} {own = own} {e = e} {lacking = lacking} y c t zero o =
      let same = own_work S N free c t in
      let ended : closing e lacking ≡ own = ap (λ x. closing x lacking) same.1 ∙ ap (λ b. closing own b) same.2 in
      subst (λ (m : Log). Out m.entries (closing e lacking) n) (sym same.0)
      (subst (λ how. Out l.entries how n) (sym ended) (out y c zero (subst (λ (m : Log). Ordered m.entries y) same.0 o)))

  -- an end that is a cut
  as_cut : (es : List Entry) (how other : Ending) (n : ℕ) → is_cut other ≡ true → Out es how n → Out es other n
  as_cut es how other n c o = record { shown = o.shown; whole = λ d. absurd (let no : true ≡ false = sym c ∙ d in cc) }

  whole_out : {l : Log} {how : Ending} {h : Private} (z : Store) → Follows S N (opening S N) l how h → h.thread ≡ 0 → Ordered l.entries z → Out l.entries how (last_step l.entries)
  whole_out z (closes l l' h h' own e n lacking moved c t g) zero o =
      last_out l'.entries (last_entry S N (opening S N) n (closing e lacking) moved) (closing e lacking) n z refl refl o (λ y p. behind_out y c t (sym (leaves_count g).0 ∙ zero) p)
  whole_out z (late l l' h own v n c t) zero o =
      last_out l'.entries (last_entry S N (opening S N) n ending.Memory []) ending.Memory n z refl refl o (λ y p. as_cut l'.entries (ending.Value v) ending.Memory n refl (behind_out y c t zero p))
  whole_out z (full l l' h h' own v n used asked moved c t g) zero o =
      last_out l'.entries (last_entry S N (opening S N) n (ending.Full used asked) []) (ending.Full used asked) n z refl refl o
      (λ y p. as_cut l'.entries (ending.Value v) (ending.Full used asked) n refl (behind_out y c t zero p))

-- ---- the laws

module _ (S : Script) (N slots : ℕ) (h : History) (p : Placed) (how : Ending) (free : starts_none S.program ≡ true) (m : MainDoes S N slots h p how) where
  main_order : merge h ≡ map of_main p.log.entries
  main_order = main_merge slots h m.legal (subst (λ o. Each StartsNone (entries_of o)) (sym m.first) (starts_whole S N free m.follows)) p m.first

  shown_bytes : prints_of h.events ≡ prints p.log.entries
  shown_bytes = sym (merge_prints slots h m.legal) ∙ (ap prints_of main_order ∙ same_prints p.log.entries)

  main_out : Out S N free slots p.log.entries how (last_step p.log.entries)
  main_out = whole_out S N free slots m.legal.last m.follows m.whose (record {
    leads = subst (λ es. Leads slots opening_store es m.legal.last) main_order m.legal.steps;
    moves = subst (λ es. shared.Each MovesNoThread es) main_order (merge_moves slots h m.legal);
  })

pub does_as_alone : DoesAsAlone
does_as_alone S N slots h p how free m uncut =
    subst (λ bytes. Alone S N bytes how (last_step p.log.entries)) (sym (shown_bytes S N slots h p how free m)) ((main_out S N slots h p how free m).whole uncut)

pub shows_a_front : ShowsAFront
shows_a_front S N slots h p how bytes own steps free m alone =
    let shown = (main_out S N slots h p how free m).shown in
    let f = front S N (prints p.log.entries) bytes shown.0 shown.1 own steps shown.2 alone in
    (f.0, f.1 ∙ ap (λ b. b ++ f.0) (sym (shown_bytes S N slots h p how free m)))
