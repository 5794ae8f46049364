-- The merge has the events of the history, and besides these only reads that move nothing.
use Rattle.std.proofs.Common.{◌<◌, ◌^◌, ◌≡◌, ◌⊎◌, inl, inr, ℕ, suc, ◌==◌, ◌||◌, Bool, true, false, not, cond, List, [], ◌∷◌, ◌++◌, map, filter, Option, Some, None, refl, sym, ap, ◌∙◌, subst, eq-eqb, append-nil}
use Rattle.std.specs.Prelude.{is_none}
use Rattle.std.specs.List.{flat_map}
use Rattle.std.proofs.lemmas.List.{map-append}
use Rattle.std.proofs.lemmas.List.Elements.{filter-append}
use Rattle.std.proofs.lemmas.Grind.{flat_map-append}
use Rattle.rb_model.specs.Values.{Reference}
use Rattle.rb_model.specs.Private.{Item}
use Rattle.rb_model.specs.Log.{Call, On, Start, Gather, Print, End, Entry, printed}
use Rattle.rb_model.specs.Started.{started, started_by}
use Rattle.rb_shared.specs.Lists.{Has, Each}
use Rattle.rb_shared.specs.History.{IsNoThread, Event, History, Placed, IsLegal, ArePoints, all_reads_at, by, is_at, is_event, is_read, moves_none, merge, merged, prints, reads_at, MovesNoThread}
use Rattle.rb_shared.proofs.Runs.{each_append, has_behind}
use Rattle.run_laws.specs.Doing.{MovesThings}
use Rattle.rb_closure.specs.Closure.{Among, told_by}
use Rattle.rb_closure.proofs.Lists.{among_split}

-- ---- the merge and the events

pub event_stands : (k : ℕ) (es : List Event) (ps : List Placed) (e : Event) → Has es e → Has (merged k es ps) e
event_stands k [] ps e h = absurd h
event_stands k (x ∷ es) ps e (inl s) = has_behind (all_reads_at k 0 ps) (x ∷ merged (suc k) es ps) e (inl s)
event_stands k (x ∷ es) ps e (inr h) = has_behind (all_reads_at k 0 ps) (x ∷ merged (suc k) es ps) e (inr (event_stands (suc k) es ps e h))

-- no event of the history
abbrev pub IsQuiet : Event → Type 0
IsQuiet e = is_event e.entry ≡ false

none_so : (o : Option ℕ) (k : ℕ) → is_at k o ≡ true → is_none o ≡ false
none_so None k e = absurd (let no : false ≡ true = e in cc)
none_so (Some n) k e = refl

reads_quiet : (k t : ℕ) (es : List Entry) (ps : List (Option ℕ)) → ArePoints es ps → Each IsQuiet (reads_at k t es ps)
reads_quiet k t [] ps a = tt
reads_quiet k t (e ∷ es) [] a = tt
reads_quiet k t (e ∷ es) (p ∷ ps) (q, a) = by (is_at k p) refl (reads_quiet k t es ps a)
  where
    by : (b : Bool) → is_at k p ≡ b → Each IsQuiet (reads_at k t es ps) → Each IsQuiet (cond b (record { thread = t; entry = e } ∷ reads_at k t es ps) (reads_at k t es ps))
    by true s later = (q ∙ none_so p k s, later)
    by false s later = later

all_quiet : (k t : ℕ) (ps : List Placed) → Each (λ (p : Placed). ArePoints p.log.entries p.points) ps → Each IsQuiet (all_reads_at k t ps)
all_quiet k t [] a = tt
all_quiet k t (p ∷ ps) (q, a) = each_append IsQuiet (reads_at k t p.log.entries p.points) (all_reads_at k (suc t) ps) (reads_quiet k t p.log.entries p.points q) (all_quiet k (suc t) ps a)

each_quiet : (P : Event → Type 0) → ((e : Event) → IsQuiet e → P e) → (es : List Event) → Each IsQuiet es → Each P es
each_quiet P f [] a = tt
each_quiet P f (e ∷ es) (q, a) = (f e q, each_quiet P f es a)

merged_each : (P : Event → Type 0) → ((e : Event) → IsQuiet e → P e) → (k : ℕ) (es : List Event) (ps : List Placed) → Each (λ (p : Placed). ArePoints p.log.entries p.points) ps → Each P es → Each P (merged k es ps)
merged_each P f k [] ps a p = each_quiet P f (all_reads_at k 0 ps) (all_quiet k 0 ps a)
merged_each P f k (e ∷ es) ps a (p, q) = each_append P (all_reads_at k 0 ps) (e ∷ merged (suc k) es ps) (each_quiet P f (all_reads_at k 0 ps) (all_quiet k 0 ps a)) (p, merged_each P f (suc k) es ps a q)

parts : (a b : Bool) → (not a || not b) ≡ false → (a ≡ true) × (b ≡ true)
parts true true e = (refl, refl)
parts true false e = absurd (let no : true ≡ false = e in cc)
parts false b e = absurd (let no : true ≡ false = e in cc)

none_moved : (ms : List Item) → moves_none ms ≡ true → ms ≡ []
none_moved [] e = refl
none_moved (m ∷ ms) e = absurd (let no : false ≡ true = e in cc)

quiet_moves : (e : Event) → IsQuiet e → MovesNoThread e
quiet_moves e q = subst (λ ms. Each (λ (x : Item). IsNoThread x.thing) ms) (sym (none_moved e.entry.moved (parts (is_read e.entry.call) (moves_none e.entry.moved) q).1)) tt

-- no entry of the merge moves a thread
pub merge_moves : (slots : ℕ) (h : History) → IsLegal slots h → Each MovesNoThread (merge h)
merge_moves slots h l = merged_each MovesNoThread quiet_moves 0 h.events h.threads l.points l.unmoved

quiet_numbers : (e : Event) → IsQuiet e → MovesThings e
quiet_numbers e q = subst (λ ms. Each (λ (x : Item). x.id.serial < 2 ^ 63) ms) (sym (none_moved e.entry.moved (parts (is_read e.entry.call) (moves_none e.entry.moved) q).1)) tt

-- and each moves things alone, where the events do
pub merge_numbers : (slots : ℕ) (h : History) → IsLegal slots h → Each MovesThings h.events → Each MovesThings (merge h)
merge_numbers slots h l m = merged_each MovesThings quiet_numbers 0 h.events h.threads l.points m

-- ---- the bytes of the prints

abbrev Silent : Event → Type 0
Silent e = printed e.entry.call ≡ []

read_silent : (c : Call) → is_read c ≡ true → printed c ≡ []
read_silent (On r act) e = refl
read_silent (Start id body values) e = refl
read_silent (Gather r) e = refl
read_silent (Print bytes) e = absurd (let no : false ≡ true = e in cc)
read_silent (End how) e = refl

silent_prints : (es ys : List Event) → Each Silent es → prints (es ++ ys) ≡ prints ys
silent_prints [] ys a = refl
silent_prints (e ∷ es) ys (s, a) = ap (λ b. b ++ prints (es ++ ys)) s ∙ silent_prints es ys a

reads_silent : (k : ℕ) (ps : List Placed) → Each (λ (p : Placed). ArePoints p.log.entries p.points) ps → Each Silent (all_reads_at k 0 ps)
reads_silent k ps a =
    each_quiet Silent (λ e q. read_silent e.entry.call (parts (is_read e.entry.call) (moves_none e.entry.moved) q).0) (all_reads_at k 0 ps) (all_quiet k 0 ps a)

prints_merged : (k : ℕ) (es : List Event) (ps : List Placed) → Each (λ (p : Placed). ArePoints p.log.entries p.points) ps → prints (merged k es ps) ≡ prints es
prints_merged k [] ps a = ap prints (sym (append-nil (all_reads_at k 0 ps))) ∙ silent_prints (all_reads_at k 0 ps) [] (reads_silent k ps a)
prints_merged k (e ∷ es) ps a =
    silent_prints (all_reads_at k 0 ps) (e ∷ merged (suc k) es ps) (reads_silent k ps a) ∙ ap (λ b. printed e.entry.call ++ b) (prints_merged (suc k) es ps a)

pub merge_prints : (slots : ℕ) (h : History) → IsLegal slots h → prints (merge h) ≡ prints h.events
merge_prints slots h l = prints_merged 0 h.events h.threads l.points

-- ---- the entries of one thread

pub by_append : (t : ℕ) (xs ys : List Event) → by t (xs ++ ys) ≡ by t xs ++ by t ys
by_append t xs ys =
    ap (map (λ (e : Event). e.entry)) (filter-append (λ (e : Event). e.thread == t) xs ys)
    ∙ map-append (λ (e : Event). e.entry) (filter (λ (e : Event). e.thread == t) xs) (filter (λ (e : Event). e.thread == t) ys)

pub by_own : (t : ℕ) (e : Event) (ys : List Event) → e.thread ≡ t → by t (e ∷ ys) ≡ e.entry ∷ by t ys
by_own t e ys s = rw (eq-eqb e.thread t s) refl

pub has_by : (es : List Event) (e : Event) (t : ℕ) → Has es e → e.thread ≡ t → Has (by t es) e.entry
has_by [] e t h q = absurd h
has_by (x ∷ es) e t (inl s) q =
    let here : (x.thread == t) ≡ true = eq-eqb x.thread t (ap (λ (y : Event). y.thread) (sym s) ∙ q) in
    rw here (inl (ap (λ (y : Event). y.entry) s))
has_by (x ∷ es) e t (inr h) q = (elim (x.thread == t) as (λ b. (x.thread == t) ≡ b → Has (by t (x ∷ es)) e.entry) [
  | true ↦ λ s. rw s (inr (has_by es e t h q))
  | false ↦ λ s. rw s (has_by es e t h q)
]) refl

pub started_append : (xs ys : List Entry) → started (xs ++ ys) ≡ started xs ++ started ys
started_append xs ys = flat_map-append (λ (e : Entry). started_by e.call e.reply) xs ys

-- what the entries of a thread told an event told
pub told_by_event : (t : ℕ) (es : List Event) (r : Reference) → Among (flat_map told_by (by t es)) r → (e : Event) × Has es e × Among (told_by e.entry) r
told_by_event t [] r m = absurd m
told_by_event t (x ∷ es) r m = at (x.thread == t) m (λ n. told_by_event t es r n)
  where
    later : (e : Event) × Has es e × Among (told_by e.entry) r → (e : Event) × Has (x ∷ es) e × Among (told_by e.entry) r
    later (e, h, n) = (e, inr h, n)

    at : (b : Bool) → Among (flat_map told_by (map (λ (e : Event). e.entry) (cond b (x ∷ filter (λ (e : Event). e.thread == t) es) (filter (λ (e : Event). e.thread == t) es)))) r
        → (Among (flat_map told_by (by t es)) r → (e : Event) × Has es e × Among (told_by e.entry) r) → (e : Event) × Has (x ∷ es) e × Among (told_by e.entry) r
    at true m f = split (among_split (told_by x.entry) (flat_map told_by (by t es)) r m)
      where
        split : Among (told_by x.entry) r ⊎ Among (flat_map told_by (by t es)) r → (e : Event) × Has (x ∷ es) e × Among (told_by e.entry) r
        split (inl a) = (x, inl refl, a)
        split (inr a) = later (f a)
    at false m f = later (f m)
