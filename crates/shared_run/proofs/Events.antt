-- The events of a run with one more.
use Rattle.std.proofs.Common.{◌≡◌, ◌≤◌, ◌<◌, ◌||◌, ◌⊎◌, ◌==◌, ℕ, zero, suc, Bool, true, false, cond, List, [], ◌∷◌, ◌++◌, length, map, filter, None, refl, sym, ap, ◌∙◌, subst, inl, inr, ⊎_elim, arith, append-nil, append_assoc, eq-eqb, ne_eqb}
use Rattle.std.proofs.lemmas.List.{map-append}
use Rattle.std.proofs.lemmas.List.Elements.{filter-append}
use Rattle.std.proofs.lemmas.Grind.{flat_map-append}
use Rattle.rb_model.specs.declared.value.Id.{Id}
use Rattle.rb_model.specs.declared.fault.Fault.TheVariants.{ThreadLimit}
use Rattle.rb_model.specs.Values.{Value, Reference}
use Rattle.rb_model.specs.Acts.{Reply, Started, Failed, Join}
use Rattle.rb_model.specs.Ends.{End as Ending}
use Rattle.rb_model.specs.Private.{Item}
use Rattle.rb_model.specs.Log.{Call, On, Start, Gather, Print, End, Entry, Refusal, has_end, is_end, printed}
use Rattle.rb_model.specs.Started.{started, started_by, to_thread}
use Rattle.rb_shared.specs.Asking.{ids_moved}
use Rattle.rb_shared.specs.History.{Event, Leads, EndsOnce, IsBegun, all_started, by, prints}
use Rattle.rb_shared.specs.Lists.{Has, Each}
use Rattle.rb_shared.specs.Step.{Steps, reply_to}
use Rattle.rb_shared.specs.Store.{Store, found, threads, is_full}
use Rattle.rb_shared.specs.View.{started_number}
use Rattle.rb_shared.proofs.Runs.{has_front, has_behind}
use Rattle.shared_run.proofs.Gives.{no_start}
use Rattle.shared_run.specs.Run.{event_of, refused_at, refused_more, opened, all_refused, AreBegun}

-- ---- the entries of one thread

pub by_append : (t : ℕ) (xs ys : List Event) → by t (xs ++ ys) ≡ by t xs ++ by t ys
by_append t xs ys =
    ap (map (λ (e : Event). e.entry)) (filter-append (λ (e : Event). e.thread == t) xs ys)
    ∙ map-append (λ (e : Event). e.entry) (filter (λ (e : Event). e.thread == t) xs) (filter (λ (e : Event). e.thread == t) ys)

by_one : (b : Bool) (e : Event) → List Entry
by_one true e = e.entry ∷ []
by_one false e = []

by_first : (t : ℕ) (e : Event) (b : Bool) → (e.thread == t) ≡ b → by t (e ∷ []) ≡ by_one b e
unfolding by_one
by_first t e true is = ap (λ c. map (λ (e : Event). e.entry) (cond c (e ∷ []) [])) is
by_first t e false is = ap (λ c. map (λ (e : Event). e.entry) (cond c (e ∷ []) [])) is

pub by_own : (t : ℕ) (e : Entry) (events : List Event) → by t (events ++ event_of t e ∷ []) ≡ by t events ++ e ∷ []
unfolding by_one
by_own t e events = by_append t events (event_of t e ∷ []) ∙ ap (λ l. by t events ++ l) (by_first t (event_of t e) true (eq-eqb t t refl))

pub by_other : (t u : ℕ) (e : Entry) (events : List Event) → (u ≡ t → ⊥) → by u (events ++ event_of t e ∷ []) ≡ by u events
unfolding by_one
by_other t u e events ne = by_append u events (event_of t e ∷ []) ∙ (ap (λ l. by u events ++ l) (by_first u (event_of t e) false (ne_eqb t u (λ h. ne (sym h)))) ∙ append-nil (by u events))

not_his : (t : ℕ) (e : Event) (es : List Event) → (e.thread == t) ≡ false → by t (e ∷ es) ≡ by t es
not_his t e es is = ap (λ c. map (λ (x : Event). x.entry) (cond c (e ∷ filter (λ (x : Event). x.thread == t) es) (filter (λ (x : Event). x.thread == t) es))) is

-- a number that no thread has
pub by_nobody : (n t : ℕ) (events : List Event) → Each (λ (e : Event). e.thread < n) events → n ≤ t → by t events ≡ []
by_nobody n t [] w le = refl
by_nobody n t (e ∷ es) (w, ws) le = not_his t e es (ne_eqb e.thread t (λ h. omega (arith, h, w, le))) ∙ by_nobody n t es ws le

-- ---- threads that were started

abbrev starts_of : Entry → List (ℕ × Reference)
starts_of e = started_by e.call e.reply

pub started_append : (xs ys : List Entry) → started (xs ++ ys) ≡ started xs ++ started ys
started_append xs ys = flat_map-append starts_of xs ys

pub started_more : (es : List Entry) (e : Entry) → started (es ++ e ∷ []) ≡ started es ++ started_by e.call e.reply
started_more es e = started_append es (e ∷ []) ∙ ap (λ l. started es ++ l) (append-nil (started_by e.call e.reply))

pub all_started_more : (t : ℕ) (e : Entry) (events : List Event) → all_started (events ++ event_of t e ∷ []) ≡ all_started events ++ started_by e.call e.reply
all_started_more t e events = ap started (map-append (λ (x : Event). x.entry) events (event_of t e ∷ [])) ∙ started_more (map (λ (x : Event). x.entry) events) e

-- a thread was started, under the next number
abbrev pub Starts : ℕ → Store → ℕ → Call → Reply → Type 0
Starts slots w t c r =
    (id : Id) × (body : ℕ) × (values : List Value) × (c ≡ Start id body values) × (r ≡ Started (suc (length (threads w))) (to_thread id)) × (is_full slots w t ≡ false)

-- or none was
abbrev pub StartsNone : Call → Reply → Type 0
StartsNone c r = (started_by c r ≡ []) × (started_number r ≡ None)

pub starts : (slots : ℕ) (w : Store) (t : ℕ) (c : Call) (r : Reply) → r ≡ reply_to slots w t c → StartsNone c r ⊎ Starts slots w t c r
starts slots w t (On x act) r e = inl (refl, ap started_number e ∙ no_start t (found w x.id) act)
starts slots w t (Gather x) r e = inl (refl, ap started_number e ∙ no_start t (found w x.id) Join)
starts slots w t (Print bytes) r e = inl (refl, ap started_number e)
starts slots w t (End how) r e = inl (refl, ap started_number e)
starts slots w t (Start id body values) r e = by (is_full slots w t) refl
  where
    by : (b : Bool) → is_full slots w t ≡ b → StartsNone (Start id body values) r ⊎ Starts slots w t (Start id body values) r
    by true is = let no : r ≡ Failed ThreadLimit = e ∙ ap (λ c. cond c (Failed ThreadLimit) (Started (suc (length (threads w))) (to_thread id))) is in
        inl (ap (started_by (Start id body values)) no, ap started_number no)
    by false is = inr (id, body, values, refl, e ∙ ap (λ c. cond c (Failed ThreadLimit) (Started (suc (length (threads w))) (to_thread id))) is, is)

pub starts_one : (slots : ℕ) (w : Store) (t : ℕ) (c : Call) (r : Reply) → (s : Starts slots w t c r) → started_by c r ≡ (suc (length (threads w)), to_thread s.0) ∷ []
starts_one slots w t c r s = ap (λ d. started_by d r) s.3 ∙ ap (started_by (Start s.0 s.1 s.2)) s.4

-- ---- ends

pub has_end_append : (xs ys : List Entry) → has_end (xs ++ ys) ≡ (has_end xs || has_end ys)
has_end_append [] ys = refl
has_end_append (x ∷ xs) ys = by (is_end x.call) (has_end_append xs ys)
  where
    by : (b : Bool) → has_end (xs ++ ys) ≡ (has_end xs || has_end ys) → (b || has_end (xs ++ ys)) ≡ ((b || has_end xs) || has_end ys)
    by true e = refl
    by false e = e

or_false : (b : Bool) → (b || false) ≡ b
or_false true = refl
or_false false = refl

or_true : (b : Bool) → (b || true) ≡ true
or_true true = refl
or_true false = refl

pub no_end_more : (es : List Entry) (e : Entry) → has_end es ≡ false → is_end e.call ≡ false → has_end (es ++ e ∷ []) ≡ false
no_end_more es e none last = has_end_append es (e ∷ []) ∙ (ap (λ b. b || (is_end e.call || false)) none ∙ (or_false (is_end e.call) ∙ last))

pub has_end_front : (xs ys : List Entry) → has_end xs ≡ true → has_end (xs ++ ys) ≡ true
has_end_front xs ys e = has_end_append xs ys ∙ ap (λ b. b || has_end ys) e

pub has_end_last : (xs : List Entry) (e : Entry) → is_end e.call ≡ true → has_end (xs ++ e ∷ []) ≡ true
has_end_last xs e is = has_end_append xs (e ∷ []) ∙ (ap (λ b. has_end xs || (b || false)) is ∙ or_true (has_end xs))

end_of : (c : Call) → is_end c ≡ true → (how : Ending) × (c ≡ End how)
end_of (On x act) e = absurd (let h : false ≡ true = e in cc)
end_of (Start id body values) e = absurd (let h : false ≡ true = e in cc)
end_of (Gather x) e = absurd (let h : false ≡ true = e in cc)
end_of (Print bytes) e = absurd (let h : false ≡ true = e in cc)
end_of (End how) e = (how, refl)

pub ends_once : (es : List Entry) (e : Entry) → has_end es ≡ false → is_end e.call ≡ true → EndsOnce (es ++ e ∷ [])
ends_once es e none last = let h = end_of e.call last in (es, e, h.0, refl, h.1, none)

pub once_ends : (es : List Entry) → EndsOnce es → has_end es ≡ true
once_ends es o = ap has_end o.3 ∙ has_end_last o.0 o.1 (ap is_end o.4)

-- ---- what was moved

pub ids_append : (xs ys : List Entry) → ids_moved (xs ++ ys) ≡ ids_moved xs ++ ids_moved ys
ids_append xs ys = flat_map-append (λ (e : Entry). map (λ (x : Item). x.id) e.moved) xs ys

pub ids_more : (es : List Entry) (e : Entry) (id : Id) → Has (map (λ (x : Item). x.id) e.moved) id → Has (ids_moved (es ++ e ∷ [])) id
ids_more es e id h = subst (λ l. Has l id) (sym (ids_append es (e ∷ []))) (has_behind (ids_moved es) (map (λ (x : Item). x.id) e.moved ++ []) id (has_front (map (λ (x : Item). x.id) e.moved) [] id h))

-- ---- the run goes on

pub prints_more : (t : ℕ) (e : Entry) (events : List Event) → prints (events ++ event_of t e ∷ []) ≡ prints events ++ printed e.call
prints_more t e events =
    flat_map-append (λ (x : Event). printed x.entry.call) events (event_of t e ∷ []) ∙ ap (λ l. prints events ++ l) (append-nil (printed e.call))

pub leads_on : (slots : ℕ) (events : List Event) (z y z' : Store) (t : ℕ) (e : Entry) → Leads slots z events y → Steps slots y t e z' → Leads slots z (events ++ event_of t e ∷ []) z'
leads_on slots [] z y z' t e l s = (z', subst (λ x. Steps slots x t e z') l s, refl)
leads_on slots (x ∷ xs) z y z' t e l s = (l.0, l.1, leads_on slots xs l.0 y z' t e l.2 s)

pub begun_more : (front behind : List Event) (e : Event) → AreBegun front behind → IsBegun (front ++ behind) e → AreBegun front (behind ++ e ∷ [])
begun_more front [] e b is = (subst (λ l. IsBegun l e) (append-nil front) is, tt)
begun_more front (x ∷ xs) e (b, bs) is = (b, begun_more (front ++ x ∷ []) xs e bs (subst (λ l. IsBegun l e) (sym (append_assoc front (x ∷ []) xs)) is))

-- ---- refusals

refused_snoc : (rs : List (List Refusal)) (t : ℕ) → refused_at (rs ++ [] ∷ []) t ≡ refused_at rs t
refused_snoc [] zero = refl
refused_snoc [] (suc t) = refl
refused_snoc (r ∷ rs) zero = refl
refused_snoc (r ∷ rs) (suc t) = refused_snoc rs t

pub refused_opened : (rs : List (List Refusal)) (ps : List (ℕ × Reference)) (t : ℕ) → refused_at (opened rs ps) t ≡ refused_at rs t
refused_opened rs [] t = refl
refused_opened rs (p ∷ ps) t = refused_snoc rs t

pub refused_past : (rs : List (List Refusal)) (t : ℕ) → length rs ≤ t → refused_at rs t ≡ []
refused_past [] t le = refl
refused_past (r ∷ rs) zero le = absurd (omega arith)
refused_past (r ∷ rs) (suc t) le = refused_past rs t (omega (arith, le))

pub refused_own : (rs : List (List Refusal)) (t : ℕ) (r : Refusal) → t < length rs → refused_at (refused_more rs t r) t ≡ refused_at rs t ++ r ∷ []
refused_own [] t r lt = absurd (omega arith)
refused_own (x ∷ xs) zero r lt = refl
refused_own (x ∷ xs) (suc t) r lt = refused_own xs t r (omega (arith, lt))

pub refused_other : (rs : List (List Refusal)) (t u : ℕ) (r : Refusal) → (u ≡ t → ⊥) → refused_at (refused_more rs t r) u ≡ refused_at rs u
refused_other [] t u r ne = refl
refused_other (x ∷ xs) zero zero r ne = absurd (ne refl)
refused_other (x ∷ xs) zero (suc u) r ne = refl
refused_other (x ∷ xs) (suc t) zero r ne = refl
refused_other (x ∷ xs) (suc t) (suc u) r ne = refused_other xs t u r (λ e. ne (ap suc e))

pub refused_count : (rs : List (List Refusal)) (t : ℕ) (r : Refusal) → length (refused_more rs t r) ≡ length rs
refused_count [] t r = refl
refused_count (x ∷ xs) zero r = refl
refused_count (x ∷ xs) (suc t) r = ap suc (refused_count xs t r)

pub has_either : {X : Type 0} (xs ys : List X) (q : X) → Has (xs ++ ys) q → Has xs q ⊎ Has ys q
has_either [] ys q h = inr h
has_either (x ∷ xs) ys q (inl e) = inl (inl e)
has_either (x ∷ xs) ys q (inr h) = ⊎_elim (λ a. inl (inr a)) (λ b. inr b) (has_either xs ys q h)

in_rest : {X : Type 0} (a xs ys : List X) (q : X) → (Has xs q → Has ys q) → Has (a ++ xs) q → Has (a ++ ys) q
in_rest [] xs ys q f h = f h
in_rest (y ∷ a) xs ys q f (inl e) = inl e
in_rest (y ∷ a) xs ys q f (inr h) = inr (in_rest a xs ys q f h)

-- what was refused is the new refusal, or was refused before
pub refused_either : (rs : List (List Refusal)) (t : ℕ) (r q : Refusal) → Has (all_refused (refused_more rs t r)) q → (q ≡ r) ⊎ Has (all_refused rs) q
refused_either [] t r q h = absurd h
refused_either (x ∷ xs) zero r q h = ⊎_elim
    (λ (a : Has (x ++ r ∷ []) q). ⊎_elim (λ (b : Has x q). inr (has_front x (all_refused xs) q b)) (λ (b : Has (r ∷ []) q). ⊎_elim (λ e. inl e) (λ n. absurd n) b) (has_either x (r ∷ []) q a))
    (λ (a : Has (all_refused xs) q). inr (has_behind x (all_refused xs) q a))
    (has_either (x ++ r ∷ []) (all_refused xs) q h)
refused_either (x ∷ xs) (suc t) r q h = ⊎_elim (λ (a : Has x q). inr (has_front x (all_refused xs) q a))
    (λ (a : Has (all_refused (refused_more xs t r)) q). ⊎_elim (λ e. inl e) (λ (b : Has (all_refused xs) q). inr (has_behind x (all_refused xs) q b)) (refused_either xs t r q a))
    (has_either x (all_refused (refused_more xs t r)) q h)

pub refused_stays : (rs : List (List Refusal)) (t : ℕ) (r q : Refusal) → Has (all_refused rs) q → Has (all_refused (refused_more rs t r)) q
refused_stays [] t r q h = absurd h
refused_stays (x ∷ xs) zero r q h =
    subst (λ l. Has l q) (sym (append_assoc x (r ∷ []) (all_refused xs))) (in_rest x (all_refused xs) (r ∷ all_refused xs) q (λ k. inr k) h)
refused_stays (x ∷ xs) (suc t) r q h = in_rest x (all_refused xs) (all_refused (refused_more xs t r)) q (refused_stays xs t r q) h

pub refused_new : (rs : List (List Refusal)) (t : ℕ) (r : Refusal) → t < length rs → Has (all_refused (refused_more rs t r)) r
refused_new [] t r lt = absurd (omega arith)
refused_new (x ∷ xs) zero r lt = has_front (x ++ r ∷ []) (all_refused xs) r (has_behind x (r ∷ []) r (inl refl))
refused_new (x ∷ xs) (suc t) r lt = has_behind x (all_refused (refused_more xs t r)) r (refused_new xs t r (omega (arith, lt)))

pub all_refused_opened : (rs : List (List Refusal)) (ps : List (ℕ × Reference)) → all_refused (opened rs ps) ≡ all_refused rs
all_refused_opened rs [] = refl
all_refused_opened rs (p ∷ ps) = flat_map-append (λ (x : List Refusal). x) rs ([] ∷ []) ∙ append-nil (all_refused rs)
