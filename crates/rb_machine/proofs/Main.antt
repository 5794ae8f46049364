-- A main thread that asks nothing of what is shared does what its script does alone: the two stores differ in their first place only.
use Rattle.std.proofs.Common.{◌≡◌, ℕ, zero, suc, Bool, true, false, List, [], ◌∷◌, ◌++◌, Option, Some, None, refl, sym, ap, ◌∙◌, subst}
use Rattle.std.specs.Prelude.{◌==◌, not, set, slice_get, if◌then◌else◌}
use Rattle.std.specs.Option.{option_map}
use Rattle.shape_core.specs.Shape.{Shape}
use Rattle.std.proofs.lemmas.List.{append-nil}
use Rattle.std.proofs.lemmas.Bool.{and_parts, and_from}
use Rattle.std.proofs.lemmas.Grind.{flat_map-append}
use Rattle.rb_model.specs.Values.{Value as Val, To, Reference}
use Rattle.rb_model.specs.declared.value.Id.{Id}
use Rattle.rb_model.specs.Acts.{Act, Reply, Done}
use Rattle.rb_model.specs.Acts as reply
use Rattle.rb_model.specs.Ends.{End, closing}
use Rattle.rb_model.specs.Things.{Thing, Object, becomes_by, gives_to}
use Rattle.rb_model.specs.Paths.{shape_made, shape_behind}
use Rattle.rb_model.specs.Private.{Private, Item, Leaves, nothing_waits, no_thing, elsewhere, moves, bare, held, or_none, entered, acted, with_shape_of}
use Rattle.rb_model.specs.Log.{Log, Entry, Call, On, Start, Gather, Print, last_step, printed, prints}
use Rattle.rb_model.specs.Log as log
use Rattle.rb_model.specs.Started.{after_call, after_entries, ungathered}
use Rattle.rb_machine.specs.Scopes.{Script}
use Rattle.rb_machine.specs.Control.{State}
use Rattle.rb_machine.specs.Move.{Go, Make, Ask, Show, Stop, move, replied}
use Rattle.rb_machine.specs.Follows.{starts_full, At, Comes, ends, cut, fills, refuses, Tail, all_gathered, gathers, leaves_out, Follows, closes, late, full, next_thing, last_entry, step_of}
use Rattle.rb_machine.specs.Follows as thread
use Rattle.rb_machine.specs.Alone.{Runs, Alone, opening}
use Rattle.rb_machine.specs.Alone as run
use Rattle.rb_machine.specs.Laws.{asks_thing, keeps_to_itself, is_cut, DoesAsAlone, ShowsAFront}
use Rattle.rb_machine.proofs.Once.{front}

-- ---- one entry more

prints_more : (es : List Entry) (e : Entry) → prints (es ++ e ∷ []) ≡ prints es ++ printed e.call
prints_more es e = flat_map-append (λ (e : Entry). printed e.call) es (e ∷ []) ∙ ap (λ l. prints es ++ l) (append-nil (printed e.call))

-- an entry that shows nothing
prints_same : (es : List Entry) (e : Entry) → printed e.call ≡ [] → prints (es ++ e ∷ []) ≡ prints es
prints_same es e h = prints_more es e ∙ ap (λ l. prints es ++ l) h ∙ append-nil (prints es)

keeps_more : (es : List Entry) (e : Entry) → keeps_to_itself (es ++ e ∷ []) ≡ true → (keeps_to_itself es ≡ true) × (not (asks_thing e.call) ≡ true)
keeps_more [] e h = (refl, (and_parts (not (asks_thing e.call)) true h).0)
keeps_more (f ∷ es) e h =
    let p = and_parts (not (asks_thing f.call)) (keeps_to_itself (es ++ e ∷ [])) h in
    let q = keeps_more es e p.1 in
    (and_from (not (asks_thing f.call)) (keeps_to_itself es) p.0 q.0, q.1)

pub last_step_more : (es : List Entry) (e : Entry) → last_step (es ++ e ∷ []) ≡ e.step
last_step_more [] e = refl
last_step_more (f ∷ []) e = refl
last_step_more (f ∷ g ∷ es) e = last_step_more (g ∷ es) e

-- ---- the two stores

-- what the main thread made, with the shapes, and before it nothing, or the global variables
abbrev bare_before : List (Option Thing) → List (Option Shape) → List Shape → Private
bare_before things shaped shapes = record { thread = 0; things = None ∷ things; shaped = None ∷ shaped; shapes = shapes }

abbrev globals_before : List (Option Thing) → List (Option Shape) → List Shape → Private
globals_before things shaped shapes = record { thread = 0; things = Some (Object 4294967295 []) ∷ things; shaped = None ∷ shaped; shapes = shapes }

-- the thing is held in both stores, and both change alike
abbrev ChangesBoth : List (Option Thing) → List (Option Shape) → List Shape → Id → Act → Thing → Type 0
ChangesBoth xs fs ss id act thing =
    (held (globals_before xs fs ss) id ≡ Some thing)
    × (ys : List (Option Thing)) × (gs : List (Option Shape)) × (ts : List Shape)
    × (acted (bare_before xs fs ss) id act thing ≡ bare_before ys gs ts) × (acted (globals_before xs fs ss) id act thing ≡ globals_before ys gs ts)

nothing_held : (b : Bool) (thing : Thing) → (if b then None else None) ≡ Some thing → ⊥
nothing_held true thing h = let wrong : None ≡ Some thing = h in cc
nothing_held false thing h = let wrong : None ≡ Some thing = h in cc

changes_both : (xs : List (Option Thing)) (fs : List (Option Shape)) (ss : List Shape) (t serial : ℕ) (act : Act) (thing : Thing)
    → held (bare_before xs fs ss) (record { thread = t; serial = serial }) ≡ Some thing
    → ChangesBoth xs fs ss (record { thread = t; serial = serial }) act thing
changes_both xs fs ss t zero act thing h = absurd (nothing_held (t == 0) thing h)
changes_both xs fs ss t (suc n) act thing h =
    let behind = option_map (shape_behind act) (or_none (slice_get fs n)) in
    (h, set xs n (Some (becomes_by 0 thing act)), set fs n behind, with_shape_of ss behind, refl, refl)

-- ---- the run beside the thread

-- the script alone has come to the same state, has shown the same bytes and made the same things
abbrev Beside : Script → ℕ → List ℕ → Private → State → Type 0
Beside S N b h s =
    (xs : List (Option Thing)) × (fs : List (Option Shape)) × (ss : List Shape) × (h ≡ bare_before xs fs ss) × Runs S N b (globals_before xs fs ss) s

-- what leaves leaves the thread
leaves_thread : {h h' : Private} {vs : List Val} {ms : List Item} → Leaves h vs ms h' → h'.thread ≡ h.thread
leaves_thread (nothing_waits h) = refl
leaves_thread (no_thing h h' v vs ms f g) = leaves_thread g
leaves_thread (elsewhere h h' r vs ms f g) = leaves_thread g
leaves_thread (moves h h' r thing vs ms f g) = leaves_thread g

-- ---- threads that wait

-- a call that keeps to itself starts no thread, so none waits to be gathered
none_after : (e : Entry) → not (asks_thing e.call) ≡ true → after_call [] e.call e.reply ≡ []
none_after e k = none_behind e.call e.reply k
  where
    none_behind : (c : Call) (r : Reply) → not (asks_thing c) ≡ true → after_call [] c r ≡ []
    none_behind (On thing act) r k = absurd (let wrong : false ≡ true = k in cc)
    none_behind (Start thing body values) r k = absurd (let wrong : false ≡ true = k in cc)
    none_behind (Gather thread) r k = absurd (let wrong : false ≡ true = k in cc)
    none_behind (Print bytes) r k = refl
    none_behind (log.End how) r k = refl

pub none_waits : (es : List Entry) → keeps_to_itself es ≡ true → after_entries [] es ≡ []
none_waits [] k = refl
none_waits (e ∷ es) k =
    let p = and_parts (not (asks_thing e.call)) (keeps_to_itself es) k in
    ap (λ rs. after_entries rs es) (none_after e p.0) ∙ none_waits es p.1

module _ (S : Script) (N : ℕ) where
  makes_beside : (b : List ℕ) (h : Private) (s : State) (thing : Thing) → Beside S N b h s → move S s ≡ Make thing
      → Beside S N b (entered h thing) (replied s (reply.Value (To (next_thing h thing))))
  makes_beside b h s thing (xs, fs, ss, is, r) e =
      subst (λ g. Beside S N b (entered g thing) (replied s (reply.Value (To (next_thing g thing))))) (sym is)
      (xs ++ Some thing ∷ [], fs ++ shape_made thing ∷ [], with_shape_of ss (shape_made thing), refl, run.makes b (globals_before xs fs ss) s thing r e)

  acts_beside : (b : List ℕ) (h : Private) (s : State) (r : Reference) (act : Act) (thing : Thing) → Beside S N b h s → move S s ≡ Ask r act → held h r.id ≡ Some thing
      → Beside S N b (acted h r.id act thing) (replied s (gives_to h.thread thing act))
  acts_beside b h s r act thing (xs, fs, ss, is, ran) e f =
      let there : held (bare_before xs fs ss) r.id ≡ Some thing = ap (λ g. held g r.id) (sym is) ∙ f in
      acts_both b h s r act thing xs fs ss is ran e (changes_both xs fs ss r.id.thread r.id.serial act thing there)
    where
      acts_both : (b : List ℕ) (h : Private) (s : State) (r : Reference) (act : Act) (thing : Thing) (xs : List (Option Thing)) (fs : List (Option Shape)) (ss : List Shape)
          → h ≡ bare_before xs fs ss → Runs S N b (globals_before xs fs ss) s → move S s ≡ Ask r act → ChangesBoth xs fs ss r.id act thing
          → Beside S N b (acted h r.id act thing) (replied s (gives_to h.thread thing act))
      acts_both b h s r act thing xs fs ss is ran e (there, ys, gs, ts, bare, globals) =
          subst (λ g. Beside S N b (acted g r.id act thing) (replied s (gives_to g.thread thing act))) (sym is)
          (ys, gs, ts, bare, subst (λ g. Runs S N b g (replied s (gives_to 0 thing act))) globals (run.acts b (globals_before xs fs ss) s r act thing ran e there))

  goes_beside : (b : List ℕ) (h : Private) (s s' : State) → Beside S N b h s → move S s ≡ Go s' → Beside S N b h s'
  goes_beside b h s s' (xs, fs, ss, is, r) e = (xs, fs, ss, is, run.goes b (globals_before xs fs ss) s s' r e)

  shows_beside : (es : List Entry) (e : Entry) (h : Private) (s : State) (bytes : List ℕ) → Beside S N (prints es) h s → move S s ≡ Show bytes → printed e.call ≡ bytes
      → Beside S N (prints (es ++ e ∷ [])) h (replied s Done)
  shows_beside es e h s bytes (xs, fs, ss, is, r) m p =
      (xs, fs, ss, is, subst (λ b. Runs S N b (globals_before xs fs ss) (replied s Done)) (sym (prints_more es e ∙ ap (λ b. prints es ++ b) p)) (run.shows (prints es) (globals_before xs fs ss) s bytes r m))

  beside : {l : Log} {h : Private} {s : State} → At S N (opening S N) l h s → h.thread ≡ 0 → keeps_to_itself l.entries ≡ true → Beside S N (prints l.entries) h s
  beside (thread.here t) z k = subst (λ n. Beside S N [] (bare n) (opening S N)) (sym z) ([], [], [], refl, run.begins)
  beside (thread.goes l h s s' a e) z k = goes_beside (prints l.entries) h s s' (beside a z k) e
  beside (thread.makes l h s thing a e) z k = makes_beside (prints l.entries) h s thing (beside a z k) e
  beside (thread.acts l h s r act thing a e f) z k = acts_beside (prints l.entries) h s r act thing (beside a z k) e f
  beside (thread.asks l h h' s r act moved answer a e f g) z k = let wrong : false ≡ true = (keeps_more l.entries _ k).1 in absurd (cc)
  beside (thread.starts l h h' s body values moved answer a e g) z k = let wrong : false ≡ true = (keeps_more l.entries _ k).1 in absurd (cc)
  beside (thread.prints l h s bytes a e) z k = shows_beside l.entries _ h s bytes (beside a z (keeps_more l.entries _ k).0) e refl

  -- ---- its own end

  own_alone : (l : Log) (h : Private) (s : State) (e : End) → Beside S N (prints l.entries) h s → move S s ≡ Stop e → Alone S N (prints l.entries) e (step_of S N (opening S N) s)
  own_alone l h s e (xs, fs, ss, is, r) stop = record { store = globals_before xs fs ss; last = s; run = r; ends = stop; counted = refl }

  own_end : {l : Log} {h : Private} {how : End} {n : ℕ} → Comes S N (opening S N) l h how n → h.thread ≡ 0 → keeps_to_itself l.entries ≡ true → is_cut how ≡ false → Alone S N (prints l.entries) how n
  own_end (ends l h s e a stop) z k c = own_alone l h s e (beside a z k) stop
  own_end (cut l h want n a w ge le) z k c = let wrong : true ≡ false = c in absurd (cc)
  own_end (fills l h h' s r act moved used asked a e f g) z k c = let wrong : true ≡ false = c in absurd (cc)
  own_end (starts_full l h h' s body values moved used asked a e g) z k c = let wrong : true ≡ false = c in absurd (cc)
  own_end (refuses l h s bytes a e) z k c = let wrong : true ≡ false = c in absurd (cc)

  closed_alone : (l : Log) (how : End) (n : ℕ) (last : Entry) → printed last.call ≡ [] → last.step ≡ n → Alone S N (prints l.entries) how n
      → Alone S N (prints (l.entries ++ last ∷ [])) how (last_step (l.entries ++ last ∷ []))
  closed_alone l how n last silent at alone =
      subst (λ m. Alone S N (prints (l.entries ++ last ∷ [])) how m) (sym (last_step_more l.entries last ∙ at))
      (subst (λ b. Alone S N b how n) (sym (prints_same l.entries last silent)) alone)

  -- ---- what it has shown

  -- what the thread has shown, a run of the script alone has shown
  abbrev Shown : List ℕ → Type 0
  Shown b = (h : Private) × (s : State) × Runs S N b h s

  shown_beside : (b : List ℕ) (h : Private) (s : State) → Beside S N b h s → Shown b
  shown_beside b h s (xs, fs, ss, is, r) = (globals_before xs fs ss, s, r)

  shown_at : (l : Log) (h : Private) (s : State) → At S N (opening S N) l h s → h.thread ≡ 0 → keeps_to_itself l.entries ≡ true → Shown (prints l.entries)
  shown_at l h s a z k = shown_beside (prints l.entries) h s (beside a z k)

  shown_in : {l : Log} {h : Private} {how : End} {n : ℕ} → Comes S N (opening S N) l h how n → h.thread ≡ 0 → keeps_to_itself l.entries ≡ true → Shown (prints l.entries)
  shown_in (ends l h s e a stop) z k = shown_at l h s a z k
  shown_in (cut l h want n a w ge le) z k = shown_at l h want a z k
  shown_in (fills l h h' s r act moved used asked a e f g) z k = shown_at l h s a z k
  shown_in (starts_full l h h' s body values moved used asked a e g) z k = shown_at l h s a z k
  shown_in (refuses l h s bytes a e) z k = shown_at l h s a z k

  shown_closed : (es : List Entry) (last : Entry) → printed last.call ≡ [] → keeps_to_itself (es ++ last ∷ []) ≡ true → (keeps_to_itself es ≡ true → Shown (prints es))
      → Shown (prints (es ++ last ∷ []))
  shown_closed es last silent k shown = subst Shown (sym (prints_same es last silent)) (shown (keeps_more es last k).0)

  -- ---- its tail

  -- where no thread waits, nothing is done behind the own work
  abbrev Ends : Log → End → Log → End → Bool → Type 0
  Ends l e l' e' lacking = (l' ≡ l) × (e' ≡ e) × (lacking ≡ false)

  no_tail : {n : ℕ} {l l' : Log} {e e' : End} {rs : List Reference} {lacking : Bool} → Tail n l e rs l' e' lacking → rs ≡ [] → Ends l e l' e' lacking
  no_tail (all_gathered l e) z = (refl, refl, refl)
  no_tail (gathers l l' e how e' r rs lacking t) z = absurd (let wrong : (r ∷ rs) ≡ [] = z in cc)
  no_tail (leaves_out l l' e e' r rs lacking t) z = absurd (let wrong : (r ∷ rs) ≡ [] = z in cc)

  -- entries of a tail come behind those of the own work
  keeps_before : {n : ℕ} {l l' : Log} {e e' : End} {rs : List Reference} {lacking : Bool} → Tail n l e rs l' e' lacking → keeps_to_itself l'.entries ≡ true → keeps_to_itself l.entries ≡ true
  keeps_before (all_gathered l e) k = k
  keeps_before (gathers l l' e how e' r rs lacking t) k = (keeps_more l.entries _ (keeps_before t k)).0
  keeps_before (leaves_out l l' e e' r rs lacking t) k = keeps_before t k

  tailless : {n : ℕ} {l l' : Log} {e e' : End} {lacking : Bool} → Tail n l e (ungathered l) l' e' lacking → keeps_to_itself l'.entries ≡ true → Ends l e l' e' lacking
  tailless {l = l} t k = no_tail t (none_waits l.entries (keeps_before t k))

  shown_behind : {n : ℕ} {l l' : Log} {h : Private} {own e' : End} {lacking : Bool} → Comes S N (opening S N) l h own n → h.thread ≡ 0 → Tail n l own (ungathered l) l' e' lacking
      → keeps_to_itself l'.entries ≡ true → Shown (prints l'.entries)
  shown_behind {l = l} c z t k =
      let same = tailless t k in
      subst (λ (m : Log). Shown (prints m.entries)) (sym same.0) (shown_in c z (subst (λ (m : Log). keeps_to_itself m.entries ≡ true) same.0 k))

  shown_by : {l : Log} {how : End} {h : Private} → Follows S N (opening S N) l how h → h.thread ≡ 0 → keeps_to_itself l.entries ≡ true → Shown (prints l.entries)
  shown_by (closes l l' h h' own e n lacking moved c t g) z k = shown_closed l'.entries _ refl k (shown_behind c (sym (leaves_thread g) ∙ z) t)
  shown_by (late l l' h own v n c t) z k = shown_closed l'.entries _ refl k (shown_behind c z t)
  shown_by (full l l' h h' own v n used asked moved c t g) z k = shown_closed l'.entries _ refl k (shown_behind c z t)

  -- what the own work came to, where the end is no cut
  whole_behind : {n : ℕ} {l l' : Log} {h : Private} {own e : End} {lacking : Bool} → Comes S N (opening S N) l h own n → h.thread ≡ 0 → Tail n l own (ungathered l) l' e lacking
      → keeps_to_itself l'.entries ≡ true → is_cut (closing e lacking) ≡ false → Alone S N (prints l'.entries) (closing e lacking) n
  whole_behind {n = n} {l = l} {l' = l'} {own = own} {e = e} {lacking = lacking} c z t k whole =
      let same = tailless t k in
      let ended : closing e lacking ≡ own = ap (λ x. closing x lacking) same.1 ∙ ap (λ x. closing own x) same.2 in
      let kept = subst (λ (m : Log). keeps_to_itself m.entries ≡ true) same.0 k in
      let alone : Alone S N (prints l.entries) own n = own_end c z kept (subst (λ x. is_cut x ≡ false) ended whole) in
      subst (λ (m : Log). Alone S N (prints m.entries) (closing e lacking) n) (sym same.0) (subst (λ x. Alone S N (prints l.entries) x n) (sym ended) alone)

pub does_as_alone : DoesAsAlone
does_as_alone S N l how o (closes m m' h h' own e n lacking moved c t g) z k whole =
    closed_alone S N m' (closing e lacking) n (last_entry S N (opening S N) n (closing e lacking) moved) refl refl (whole_behind S N c (sym (leaves_thread g) ∙ z) t (keeps_more m'.entries _ k).0 whole)
does_as_alone S N l how o (late m m' h own v n c t) z k whole = let wrong : true ≡ false = whole in absurd (cc)
does_as_alone S N l how o (full m m' h h' own v n used asked moved c t g) z k whole = let wrong : true ≡ false = whole in absurd (cc)

pub shows_a_front : ShowsAFront
shows_a_front S N l how o bytes own steps f z k alone = let p = shown_by S N f z k in front S N (prints l.entries) bytes p.0 p.1 own steps p.2 alone
