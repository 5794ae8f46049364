-- The history of a run in which the main thread starts no other.
use Rattle.std.proofs.Common.{◌≡◌, ℕ, suc, ◌==◌, List, [], ◌∷◌, ◌++◌, length, map, filter, slice_get, Some, inl, inr, refl, sym, ap, subst, ◌∙◌, append_assoc, append-nil, eq-eqb}
use Rattle.rb_model.specs.Values.{Reference}
use Rattle.rb_model.specs.Log.{Entry, printed, prints as printed_in}
use Rattle.rb_model.specs.Started.{started_by}
use Rattle.rb_shared.specs.Lists.{Has}
use Rattle.rb_shared.specs.History.{Event, History, IsBegun, IsLegal, Placed, all_started, entries_of, merge, prints}
use Rattle.rb_shared.proofs.Runs.{has_behind}
use Rattle.rb_closure.specs.Closure.{Each}
use Rattle.run_laws.proofs.Lists.{has_of_each}
use Rattle.run_laws.proofs.Merging.{has_by}

-- an entry starts no thread
abbrev pub StartsNone : Entry → Type 0
StartsNone e = started_by e.call e.reply ≡ []

-- an entry as an event of the main thread
abbrev pub of_main : Entry → Event
of_main e = record { thread = 0; entry = e }

-- ---- lists

nothing_more : (es : List Event) (x : Event) → all_started es ≡ [] → StartsNone x.entry → all_started (es ++ x ∷ []) ≡ []
nothing_more [] x n own = append-nil (started_by x.entry.call x.entry.reply) ∙ own
nothing_more (y ∷ es) x n own =
    let parts = nil_parts (started_by y.entry.call y.entry.reply) (all_started es) n in
    ap (λ ys. ys ++ all_started (es ++ x ∷ [])) parts.0 ∙ nothing_more es x parts.1 own
  where
    nil_parts : (xs ys : List (ℕ × Reference)) → xs ++ ys ≡ [] → (xs ≡ []) × (ys ≡ [])
    nil_parts [] ys e = (refl, e)
    nil_parts (x ∷ xs) ys e = absurd (cc)

only_one : (ps : List Placed) (p : Placed) → length ps ≡ 1 → slice_get ps 0 ≡ Some p → ps ≡ p ∷ []
only_one [] p l s = absurd (cc)
only_one (q ∷ []) p l s = let same : q ≡ p = (let e : Some q ≡ Some p = s in cc) in ap (λ (x : Placed). x ∷ []) same
only_one (q ∷ r ∷ ps) p l s = absurd (cc)

-- ---- the merge has the main thread's entries alone

module _ (slots : ℕ) (h : History) (l : IsLegal slots h) (none : Each StartsNone (entries_of (slice_get h.threads 0))) where
  main_starts_none : (e : Event) → Has (merge h) e → e.thread ≡ 0 → StartsNone e.entry
  main_starts_none e i z = has_of_each StartsNone (entries_of (slice_get h.threads 0)) e.entry none (subst (λ es. Has es e.entry) (l.logs 0) (has_by (merge h) e 0 i z))

  -- behind a front in which no thread was started, none is, and each entry is the main thread's
  alone_behind : (front behind : List Event) → merge h ≡ front ++ behind → all_started front ≡ [] → (all_started (front ++ behind) ≡ []) × Each (λ (e : Event). e.thread ≡ 0) behind
  alone_behind front [] e n = (ap all_started (append-nil front) ∙ n, tt)
  alone_behind front (x ∷ xs) e n =
      let main = is_main (l.begun front xs x e) in
      let own = main_starts_none x (subst (λ es. Has es x) (sym e) (has_behind front (x ∷ xs) x (inl refl))) main in
      let rest = alone_behind (front ++ x ∷ []) xs (e ∙ sym (append_assoc front (x ∷ []) xs)) (nothing_more front x n own) in
      (ap all_started (sym (append_assoc front (x ∷ []) xs)) ∙ rest.0, (main, rest.1))
    where
      is_main : IsBegun front x → x.thread ≡ 0
      is_main (inl z) = z
      is_main (inr t) = absurd (subst (λ ss. Has ss (x.thread, t.0)) n t.1)

  all_main : Each (λ (e : Event). e.thread ≡ 0) (merge h)
  all_main = (alone_behind [] (merge h) refl refl).1

  -- the main thread is the only one
  pub main_alone : (p : Placed) → slice_get h.threads 0 ≡ Some p → h.threads ≡ p ∷ []
  main_alone p s = only_one h.threads p (l.threads ∙ ap (λ (ss : List (ℕ × Reference)). suc (length ss)) (alone_behind [] (merge h) refl refl).0) s

  -- the merge is the main thread's entries
  pub main_merge : (p : Placed) → slice_get h.threads 0 ≡ Some p → merge h ≡ map of_main p.log.entries
  main_merge p s = again (merge h) all_main ∙ ap (map of_main) (ap (map (λ (e : Event). e.entry)) (sym (kept (merge h) all_main)) ∙ (l.logs 0 ∙ ap entries_of s)) where
    kept : (es : List Event) → Each (λ (e : Event). e.thread ≡ 0) es → filter (λ (e : Event). e.thread == 0) es ≡ es
    kept [] a = refl
    kept (x ∷ es) (z, a) = rw (eq-eqb x.thread 0 z) (ap (λ ys. x ∷ ys) (kept es a))

    again : (es : List Event) → Each (λ (e : Event). e.thread ≡ 0) es → es ≡ map of_main (map (λ (e : Event). e.entry) es)
    again [] a = refl
    again (x ∷ es) (z, a) =
        let first : Event = of_main x.entry in
        let number : ℕ → Event = λ n. record { thread = n; entry = x.entry } in
        ap (λ y. y ∷ es) (ap number z) ∙ ap (λ ys. first ∷ ys) (again es a)

-- the bytes of events are those of their entries
pub same_prints : (es : List Entry) → prints (map of_main es) ≡ printed_in es
same_prints [] = refl
same_prints (e ∷ es) = ap (λ bytes. printed e.call ++ bytes) (same_prints es)
