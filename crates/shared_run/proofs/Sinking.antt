-- What the sink has taken, behind a call that was made and one that was refused.
use Rattle.std.proofs.Common.{◌≡◌, ◌≤◌, ◌<◌, ℕ, Bool, true, false, ltb, List, [], ◌∷◌, ◌++◌, length, take, Option, Some, None, refl, sym, ap, ◌∙◌, subst, inl, inr, ⊎_elim, arith, append-nil, append_assoc, ltb-true, ltb-false, true≢false, le_refl}
use Rattle.rb_edge.specs.Edge.{Adds, Rose}
use Rattle.std.proofs.lemmas.Grind.{flat_map-append}
use Rattle.rb_model.specs.Log.{Call, On, Start, Gather, Print, End, Entry, Refusal, printed}
use Rattle.rb_model.specs.Started.{started_by}
use Rattle.rb_shared.specs.Closing.{IsFront}
use Rattle.rb_shared.specs.History.{Event, is_read, prints}
use Rattle.rb_shared.specs.Lists.{Has}
use Rattle.rb_shared.proofs.Runs.{each_more}
use Rattle.shared_run.specs.Run.{Run, Sunk, IsMeant, IsRun, IsThread, Stands, SinkDid, SinkRefused, event_of, opened, refused_more, all_refused, run_refused}
use Rattle.shared_run.proofs.Events.{prints_more, refused_either, refused_stays, refused_new, refused_count, all_refused_opened}

adds_both : (a b c : Option (List ℕ)) (xs ys : List ℕ) → Adds a b xs → Adds b c ys → Adds a c (xs ++ ys)
adds_both None None None xs ys p q = tt
adds_both None None (Some c) xs ys p q = absurd q
adds_both None (Some b) c xs ys p q = absurd p
adds_both (Some a) None c xs ys p q = absurd p
adds_both (Some a) (Some b) None xs ys p q = absurd q
adds_both (Some a) (Some b) (Some c) xs ys p q = q ∙ (ap (λ l. l ++ ys) p ∙ append_assoc a xs ys)

rose_on : (a b c : ℕ) → Rose a b → a ≤ b → b ≤ c → Rose a c
rose_on a b c (inl lt) le more = inl (omega (arith, lt, more))
rose_on a b c (inr top) le more = by (ltb b c) refl
  where
    by : (d : Bool) → ltb b c ≡ d → Rose a c
    by true is = let lt = ltb-true b c is in inl (omega (arith, lt, le))
    by false is = let ge = ltb-false b c is in inr (omega (arith, ge, more, top))

rose_from : (a b c : ℕ) → Rose b c → a ≤ b → Rose a c
rose_from a b c (inl lt) le = inl (omega (arith, lt, le))
rose_from a b c (inr top) le = inr top

-- what a refusal means stays so once the sink has failed
meant_failed : (Overflows : ℕ → ℕ → Type 0) (before now : Bool) (words : Option (ℕ × ℕ)) → now ≡ true → IsMeant Overflows before words → IsMeant Overflows now words
meant_failed Overflows before now None is meant = is
meant_failed Overflows before now (Some (used, wanted)) is meant = meant

-- what was added to the prints, where the sink had not failed
behind_all : (Overflows : ℕ → ℕ → Type 0) (begun : Sunk) (events : List Event) (refusals : List (List Refusal)) (old new : Sunk) (more : List ℕ) → Stands Overflows begun events refusals old → old.failed ≡ false
    → Adds old.told new.told more → Adds begun.told new.told (prints events ++ more)
behind_all Overflows begun events refusals old new more s fine adds =
    let told : Adds begun.told old.told (prints events) = subst (Adds begun.told old.told) (ap (λ l. prints events ++ l) (s.whole fine) ∙ append-nil (prints events)) s.told in
    adds_both begun.told old.told new.told (prints events) more told adds

pub stands_did : (Overflows : ℕ → ℕ → Type 0) (begun : Sunk) (events : List Event) (refusals : List (List Refusal)) (t : ℕ) (e : Entry) (old new : Sunk) → Stands Overflows begun events refusals old → SinkDid e.call old new
    → Stands Overflows begun (events ++ event_of t e ∷ []) (opened refusals (started_by e.call e.reply)) new
stands_did Overflows begun events refusals t e old new s did = record {
  rest = s.rest;
  told = ⊎_elim silent printing did.2;
  rises = let a = s.rises in let b = did.0 in omega (arith, a, b);
  cause = λ h. rose_on begun.faults old.faults new.faults (s.cause (sym did.1 ∙ h)) s.rises did.0;
  whole = λ h. s.whole (sym did.1 ∙ h);
  front = ⊎_elim (λ x. inl x) (λ (f : IsFront (all_refused refusals) s.rest). inr (subst (λ l. IsFront l s.rest) (sym same) f)) s.front;
  refused = λ q h. subst (λ b. IsMeant Overflows b q.words) (sym did.1) (s.refused q (subst (λ l. Has l q) same h));
}
  where
    same : all_refused (opened refusals (started_by e.call e.reply)) ≡ all_refused refusals
    same = all_refused_opened refusals (started_by e.call e.reply)

    silent : (printed e.call ≡ []) × (new.told ≡ old.told) → Adds begun.told new.told (prints (events ++ event_of t e ∷ []) ++ s.rest)
    silent p =
        let more : prints (events ++ event_of t e ∷ []) ≡ prints events = prints_more t e events ∙ (ap (λ l. prints events ++ l) p.0 ∙ append-nil (prints events)) in
        subst (λ (x : List ℕ × Option (List ℕ)). Adds begun.told x.1 (x.0 ++ s.rest)) (λ i. (sym more i, sym p.1 i)) s.told

    printing : (old.failed ≡ false) × Adds old.told new.told (printed e.call) → Adds begun.told new.told (prints (events ++ event_of t e ∷ []) ++ s.rest)
    printing p =
        let whole : prints events ++ printed e.call ≡ prints (events ++ event_of t e ∷ []) ++ s.rest =
        sym (prints_more t e events) ∙ sym (ap (λ l. prints (events ++ event_of t e ∷ []) ++ l) (s.whole p.0) ∙ append-nil (prints (events ++ event_of t e ∷ []))) in
        subst (Adds begun.told new.told) whole (behind_all Overflows begun events refusals old new (printed e.call) s p.0 p.1)

-- a refusal of a call, since the sink failed
abbrev pub IsRefusalOf : Call → Refusal → Type 0
IsRefusalOf call r = (r.call ≡ call) × (r.words ≡ None)

abbrev pub Before : Call → Sunk → Sunk → Type 0
Before call old new = (old.failed ≡ true) × (new.told ≡ old.told)

abbrev pub Now : Call → Sunk → Sunk → Type 0
Now call old new = (old.failed ≡ false) × Rose old.faults new.faults × ((n : ℕ) × (n < length (printed call)) × Adds old.told new.told (take n (printed call)))

pub stands_refused : (Overflows : ℕ → ℕ → Type 0) (begun : Sunk) (events : List Event) (refusals : List (List Refusal)) (t : ℕ) (r : Refusal) (call : Call) (old new : Sunk) → Stands Overflows begun events refusals old → SinkRefused call old new
    → IsRefusalOf call r → t < length refusals → Stands Overflows begun events (refused_more refusals t r) new
stands_refused Overflows begun events refusals t r call old new s did is lt = ⊎_elim before now did.2
  where
    more : List (List Refusal)
    more = refused_more refusals t r

    refused_now : (q : Refusal) → Has (all_refused (refused_more refusals t r)) q → IsMeant Overflows new.failed q.words
    refused_now q h = ⊎_elim
        (λ (same : q ≡ r). subst (λ (x : Refusal). IsMeant Overflows new.failed x.words) (sym same) (subst (IsMeant Overflows new.failed) (sym is.1) did.1))
        (λ (had : Has (all_refused refusals) q). meant_failed Overflows old.failed new.failed q.words did.1 (s.refused q had))
        (refused_either refusals t r q h)

    before : Before call old new → Stands Overflows begun events (refused_more refusals t r) new
    before b = record {
      rest = s.rest;
      told = subst (λ x. Adds begun.told x (prints events ++ s.rest)) (sym b.1) s.told;
      rises = let x = s.rises in let y = did.0 in omega (arith, x, y);
      cause = λ h. rose_on begun.faults old.faults new.faults (s.cause b.0) s.rises did.0;
      whole = λ h. absurd (true≢false (sym did.1 ∙ h));
      front = ⊎_elim (λ x. inl x) (λ (f : IsFront (all_refused refusals) s.rest). inr (f.0, f.1, refused_stays refusals t r f.0 f.2, f.3, f.4, f.5)) s.front;
      refused = refused_now;
    }

    now : Now call old new → Stands Overflows begun events (refused_more refusals t r) new
    now n = record {
      rest = take n.2.0 (printed call);
      told = behind_all Overflows begun events refusals old new (take n.2.0 (printed call)) s n.0 n.2.2;
      rises = let x = s.rises in let y = did.0 in omega (arith, x, y);
      cause = λ h. rose_from begun.faults old.faults new.faults n.1 s.rises;
      whole = λ h. absurd (true≢false (sym did.1 ∙ h));
      front = inr (r, n.2.0, refused_new refusals t r lt, is.1, subst (λ c. n.2.0 < length (printed c)) (sym is.0) n.2.1, ap (λ c. take n.2.0 (printed c)) (sym is.0));
      refused = refused_now;
    }

-- ---- the start

-- nothing was printed and nothing refused
pub first_stands : (Overflows : ℕ → ℕ → Type 0) (begun : Sunk) → begun.failed ≡ false → Stands Overflows begun [] ([] ∷ []) begun
first_stands Overflows begun fine = record {
  rest = [];
  told = same begun.told;
  rises = le_refl begun.faults;
  cause = λ h. absurd (true≢false (sym h ∙ fine));
  whole = λ h. refl;
  front = inl refl;
  refused = λ r h. absurd h;
}
  where
    same : (o : Option (List ℕ)) → Adds o o []
    same None = tt
    same (Some l) = sym (append-nil l)

-- ---- calls that print nothing

pub stands_silent : (Overflows : ℕ → ℕ → Type 0) (begun : Sunk) (events : List Event) (refusals : List (List Refusal)) (t : ℕ) (e : Entry) (x : Sunk) → Stands Overflows begun events refusals x → printed e.call ≡ []
    → Stands Overflows begun (events ++ event_of t e ∷ []) (opened refusals (started_by e.call e.reply)) x
stands_silent Overflows begun events refusals t e x s none = stands_did Overflows begun events refusals t e x x s (le_refl x.faults, refl, inl (none, refl))

read_prints : (c : Call) → is_read c ≡ true → printed c ≡ []
read_prints (On thing act) reads = refl
read_prints (Start id body values) reads = refl
read_prints (Gather thread) reads = refl
read_prints (Print bytes) reads = absurd (true≢false (sym reads))
read_prints (End how) reads = refl

-- a read is put in
pub stands_read : (Overflows : ℕ → ℕ → Type 0) (begun : Sunk) (front behind : List Event) (refusals : List (List Refusal)) (t : ℕ) (e : Entry) (x : Sunk) → Stands Overflows begun (front ++ behind) refusals x → is_read e.call ≡ true
    → Stands Overflows begun (front ++ event_of t e ∷ behind) refusals x
stands_read Overflows begun front behind refusals t e x s reads = record {
  rest = s.rest;
  told = subst (λ l. Adds begun.told x.told (l ++ s.rest)) (sym same) s.told;
  rises = s.rises;
  cause = s.cause;
  whole = s.whole;
  front = s.front;
  refused = s.refused;
}
  where
    same : prints (front ++ event_of t e ∷ behind) ≡ prints (front ++ behind)
    same =
        flat_map-append (λ (f : Event). printed f.entry.call) front (event_of t e ∷ behind)
        ∙ (ap (λ l. prints front ++ (l ++ prints behind)) (read_prints e.call reads) ∙ sym (flat_map-append (λ (f : Event). printed f.entry.call) front behind))

-- ---- a refusal that tells two numbers

pub stands_full : (Overflows : ℕ → ℕ → Type 0) (begun : Sunk) (events : List Event) (refusals : List (List Refusal)) (t : ℕ) (r : Refusal) (used wanted : ℕ) (x : Sunk) → Stands Overflows begun events refusals x
    → r.words ≡ Some (used, wanted) → Overflows used wanted → Stands Overflows begun events (refused_more refusals t r) x
stands_full Overflows begun events refusals t r used wanted x s is over = record {
  rest = s.rest;
  told = s.told;
  rises = s.rises;
  cause = s.cause;
  whole = s.whole;
  front = ⊎_elim (λ f. inl f) (λ (f : IsFront (all_refused refusals) s.rest). inr (f.0, f.1, refused_stays refusals t r f.0 f.2, f.3, f.4, f.5)) s.front;
  refused = λ q h. ⊎_elim
      (λ (same : q ≡ r). subst (λ (y : Refusal). IsMeant Overflows x.failed y.words) (sym same) (subst (IsMeant Overflows x.failed) (sym is) over))
      (λ (had : Has (all_refused refusals) q). s.refused q had)
      (refused_either refusals t r q h);
}

-- ---- the run with one refusal more is one

pub refused_run : (slots : ℕ) (run : Run) (t : ℕ) (q : Refusal) → IsRun slots run → IsRun slots (run_refused run t q)
refused_run slots run t q is = record {
  leads = is.leads;
  counted = refused_count run.refusals t q ∙ is.counted;
  started = is.started;
  begun = is.begun;
  within = each_more (λ (x : Event). IsThread run x.thread) (λ (x : Event). IsThread (run_refused run t q) x.thread) (λ x lt. let c = refused_count run.refusals t q in omega (arith, lt, c)) run.events is.within;
  made = λ n pos lt. is.made n pos (let c = refused_count run.refusals t q in omega (arith, lt, c));
  unmoved = is.unmoved;
  from = is.from;
  ended = is.ended;
  mentions = is.mentions;
  sized = is.sized;
}
