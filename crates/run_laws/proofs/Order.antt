-- So it is along the one order of all entries.
use Rattle.std.proofs.Common.{◌≡◌, ◌≤◌, ◌<◌, ◌⊎◌, inl, inr, ℕ, suc, ◌^◌, Bool, true, false, cond, List, [], ◌∷◌, ◌++◌, length, slice_get, Option, Some, None, refl, sym, ap, ◌∙◌, subst, arith}
use Rattle.std.specs.List.{flat_map}
use Rattle.std.proofs.lemmas.List.{append-nil, append_assoc}
use Rattle.rb_model.specs.Values.{Value as Val, Reference}
use Rattle.rb_model.specs.declared.fault.Fault.TheVariants.{ThreadLimit}
use Rattle.rb_model.specs.Acts.{Reply, Started, Failed}
use Rattle.rb_model.specs.Things.{Object, mentioned}
use Rattle.rb_model.specs.Private.{Item}
use Rattle.rb_model.specs.Log.{Call, On, Start, Gather, Print, End, Entry}
use Rattle.rb_model.specs.Started.{started_by, to_thread}
use Rattle.rb_shared.specs.Lists.{Has}
use Rattle.rb_shared.specs.Lists as shared
use Rattle.rb_shared.specs.Store.{Store, opening as opening_store, threads, is_full}
use Rattle.rb_shared.specs.Step.{Steps, reply_to}
use Rattle.rb_shared.specs.History.{Event, History, Placed, IsLegal, IsBegun, Leads, all_started, by, entries_of, merge}
use Rattle.rb_shared.proofs.Runs.{each_has, leads_split, has_behind}
use Rattle.rb_machine.specs.Scopes.{Script}
use Rattle.rb_machine.specs.Control.{State}
use Rattle.rb_closure.specs.Mentions.{values_in}
use Rattle.rb_closure.specs.Closure.{Known, IsToldOf, told_refs, Each, IfReference, Among, told_by, told_first, EachNamesTold}
use Rattle.rb_closure.proofs.Lists.{among_split}
use Rattle.rb_closure.proofs.Entries.{among_said}
use Rattle.rb_closure.proofs.Sound.{each_more}
use Rattle.rb_closure.proofs.Closed.{threads_are_closed}
use Rattle.rb_closure.proofs.Ended.{whole_log_names_told}
use Rattle.run_laws.specs.Doing.{Begins, Does, EachDoes, MovesThings}
use Rattle.run_laws.specs.Laws.{asked_of, AskedIsShared, IsOwnOrShared, ThreadsNameShared, IsShared, Reaches, SharedIsClosed, ToldIsShared}
use Rattle.run_laws.proofs.Lists.{EachAfter, after_at, each_at, names_told_at, has_split, has_of_each, each_of_has}
use Rattle.run_laws.proofs.Own.{TakesNext, HasGone, Owns, owns_whole}
use Rattle.run_laws.proofs.Merging.{merge_numbers, event_stands, by_append, by_own, told_by_event}
use Rattle.run_laws.proofs.Stores.{mention_found, threads_more, call_threads}
use Rattle.run_laws.proofs.Beginning.{opening_names, beginning_names}
use Rattle.run_laws.proofs.Closed.{StartsWith, Fits, KnownFits, Closed, closed_behind, started_is}

-- ---- threads by their starts

start_of : (n : ℕ) (r : Reference) (e : Event) (c : Call) (a : Reply) → e.entry.call ≡ c → e.entry.reply ≡ a → Has (started_by c a) (n, r) → (values : List Val) × StartsWith n values e
start_of n r e (Start id body values) (Started number thread) c a (inl s) =
    (values, record { id = id; body = body; thread = thread; call = c; reply = a ∙ ap (λ (p : ℕ × Reference). Started p.0 thread) (sym s) })
start_of n r e (Start id body values) (Started number thread) c a (inr s) = absurd s
start_of n r e d b c a s = absurd s

has_started : (es : List Event) (n : ℕ) (r : Reference) → Has (all_started es) (n, r) → (e : Event) × (values : List Val) × Has es e × StartsWith n values e
has_started [] n r h = absurd h
has_started (e ∷ es) n r h = by (has_split (started_by e.entry.call e.entry.reply) (all_started es) (n, r) h) (λ g. has_started es n r g)
  where
    by : Has (started_by e.entry.call e.entry.reply) (n, r) ⊎ Has (all_started es) (n, r) → (Has (all_started es) (n, r) → (f : Event) × (values : List Val) × Has es f × StartsWith n values f)
        → (f : Event) × (values : List Val) × Has (e ∷ es) f × StartsWith n values f
    by (inl s) later = let p = start_of n r e e.entry.call e.entry.reply refl refl s in (e, p.0, inl refl, p.1)
    by (inr s) later = let p = later s in (p.0, p.1, inr p.2, p.3)

-- a thread that is started later has a greater number than there are threads
later_number : (slots : ℕ) (es : List Event) (y z : Store) (e : Event) (n : ℕ) (values : List Val) → Leads slots y es z → Has es e → StartsWith n values e → length (threads y) < n
later_number slots [] y z e n values l h s = absurd h
later_number slots (x ∷ es) y z e n values (w, s, l) (inl is) starts = first (subst (StartsWith n values) is starts)
  where
    first : StartsWith n values x → length (threads y) < n
    first b = by (is_full slots (y ++ x.entry.moved) x.thread) (ap (reply_to slots (y ++ x.entry.moved) x.thread) (sym b.call) ∙ (sym s.reply_is ∙ b.reply))
      where
        by : (full : Bool) → cond full (Failed ThreadLimit) (Started (suc (length (threads (y ++ x.entry.moved)))) (to_thread b.id)) ≡ Started n b.thread → length (threads y) < n
        by true f = absurd (let wrong : Failed ThreadLimit ≡ Started n b.thread = f in cc)
        by false f =
            let number = started_is (suc (length (threads (y ++ x.entry.moved)))) n (to_thread b.id) b.thread f in
            let more = threads_more y x.entry.moved in
            omega (arith, number, more)
later_number slots (x ∷ es) y z e n values (w, s, l) (inr h) starts =
    let rest = later_number slots es w z e n values l h starts in
    let a = threads_more y x.entry.moved in
    let b = call_threads slots (y ++ x.entry.moved) x.thread x.entry.call in
    let c = ap (λ y. length (threads y)) s.store_is in
    omega (arith, rest, a, b, c)

-- ---- what a thread was told in a front

told_in : (front : List Event) (z : Store) → Closed front z → (start : State) (t : ℕ) → Each (IfReference (IsShared z)) (values_in start)
    → (r : Reference) → Among (told_first start ++ flat_map told_by (by t front)) r → IsShared z r
told_in front z closed start t begins r m = which (among_split (told_first start) (flat_map told_by (by t front)) r m)
  where
    which : Among (told_first start) r ⊎ Among (flat_map told_by (by t front)) r → IsShared z r
    which (inl (inl is)) = subst (IsShared z) is closed.globals_there
    which (inl (inr a)) = among_said (IsShared z) (values_in start) r begins a
    which (inr a) = let f = told_by_event t front r a in closed.told f.0 r f.1 f.2

-- what a thread begins with that was started in the front
start_in : (S : Script) (N : ℕ) (front : List Event) (z : Store) → Closed front z → (t : ℕ) (start : State) → Begins S N front t start → Each (IfReference (IsShared z)) (values_in start)
start_in S N front z closed t start (inl (main, is)) = subst (λ s. Each (IfReference (IsShared z)) (values_in s)) (sym is) (opening_names (IsShared z) S N)
start_in S N front z closed t start (inr (body, values, (u, step, id, moved, thread, stands), is)) =
    let s : Event = record { thread = u; entry = record { step = step; call = Start id body values; moved = moved; reply = Started t thread } } in
    let shared = (closed.given s t values stands (record { id = id; body = body; thread = thread; call = refl; reply = refl })).1 in
    subst (λ s. Each (IfReference (IsShared z)) (values_in s)) (sym is) (beginning_names (IsShared z) S N (slice_get S.program.bodies body) body values shared)

-- ---- the whole order

module _ (S : Script) (N slots : ℕ) (h : History) (legal : IsLegal slots h) (does : EachDoes S N h) (numbered : shared.Each MovesThings (merge h)) where
  -- the log of the thread of an event
  log_there : (front behind : List Event) (e : Event) → merge h ≡ front ++ e ∷ behind → entries_of (slice_get h.threads e.thread) ≡ by e.thread front ++ e.entry ∷ by e.thread behind
  log_there front behind e order =
      sym (legal.logs e.thread) ∙ (ap (by e.thread) order ∙ (by_append e.thread front (e ∷ behind) ∙ ap (λ es. by e.thread front ++ es) (by_own e.thread e behind refl)))

  no_log : (xs ys : List Entry) (e : Entry) → [] ≡ xs ++ e ∷ ys → ⊥
  no_log [] ys e s = cc
  no_log (x ∷ xs) ys e s = cc

  pub placed_there : (front behind : List Event) (e : Event) → merge h ≡ front ++ e ∷ behind
      → (p : Placed) × (slice_get h.threads e.thread ≡ Some p) × (p.log.entries ≡ by e.thread front ++ e.entry ∷ by e.thread behind)
  placed_there front behind e order = of (slice_get h.threads e.thread) refl (log_there front behind e order)
    where
      of : (o : Option Placed) → slice_get h.threads e.thread ≡ o → entries_of o ≡ by e.thread front ++ e.entry ∷ by e.thread behind
          → (p : Placed) × (slice_get h.threads e.thread ≡ Some p) × (p.log.entries ≡ by e.thread front ++ e.entry ∷ by e.thread behind)
      of None s es = absurd (no_log (by e.thread front) (by e.thread behind) e.entry es)
      of (Some p) s es = (p, s, es)

  -- ---- what a thread was told before an event

  module _ (front behind : List Event) (e : Event) (z last : Store) (order : merge h ≡ front ++ e ∷ behind) (closed : Closed front z) (leads : Leads slots z (e ∷ behind) last) where
    number_stands : (values : List Val) (s : Event) → StartsWith e.thread values s → Has (e ∷ behind) s → IsBegun front e → ⊥
    number_stands values s starts has (inl main) = let l = later_number slots (e ∷ behind) z last s e.thread values leads has starts in omega (arith, main, l)
    number_stands values s starts has (inr (thread, was)) =
        let begun = has_started front e.thread thread was in
        let few = (closed.given begun.0 e.thread begun.1 begun.2 begun.3).0 in
        let l = later_number slots (e ∷ behind) z last s e.thread values leads has starts in
        omega (arith, few, l)

    values_shared : (values : List Val) (s : Event) → StartsWith e.thread values s → Has (merge h) s → Each (IfReference (IsShared z)) values
    values_shared values s starts has = which (has_split front (e ∷ behind) s (subst (λ es. Has es s) order has))
      where
        which : Has front s ⊎ Has (e ∷ behind) s → Each (IfReference (IsShared z)) values
        which (inl was) = (closed.given s e.thread values was starts).1
        which (inr later) = absurd (number_stands values s starts later (legal.begun front behind e order))

    start_shared : (start : State) → Begins S N h.events e.thread start → Each (IfReference (IsShared z)) (values_in start)
    start_shared start (inl (main, is)) = subst (λ s. Each (IfReference (IsShared z)) (values_in s)) (sym is) (opening_names (IsShared z) S N)
    start_shared start (inr (body, values, (t, step, id, moved, thread, stands), is)) =
        let s : Event = record { thread = t; entry = record { step = step; call = Start id body values; moved = moved; reply = Started e.thread thread } } in
        let shared = values_shared values s (record { id = id; body = body; thread = thread; call = refl; reply = refl }) (event_stands 0 h.events h.threads s stands) in
        subst (λ s. Each (IfReference (IsShared z)) (values_in s)) (sym is) (beginning_names (IsShared z) S N (slice_get S.program.bodies body) body values shared)

    told_shared : (start : State) → Begins S N h.events e.thread start → (r : Reference) → Among (told_first start ++ flat_map told_by (by e.thread front)) r → IsShared z r
    told_shared start begins = told_in front z closed start e.thread (start_shared start begins)

    pub known_there : KnownFits front e z
    known_there =
        let p = placed_there front behind e order in
        let d = does e.thread p.0 p.1 in
        let o = owns_whole S N d.start d.follows in
        record { refs = told_first d.start ++ flat_map told_by (by e.thread front); known = told_shared d.start d.begins; fits = fits_of p.0 p.2 d o }
      where
        fits_of : (p : Placed) → p.log.entries ≡ by e.thread front ++ e.entry ∷ by e.thread behind → (d : Does S N h e.thread p.log) → Owns p.log.entries d.store
            → Fits (told_first d.start ++ flat_map told_by (by e.thread front)) front e
        fits_of p es d o =
            let gone = each_at (λ (f : Entry). Each (λ (x : Item). HasGone d.store x.id) f.moved) (by e.thread front) (by e.thread behind) e.entry
            (subst (λ es. Each (λ (f : Entry). Each (λ (x : Item). HasGone d.store x.id) f.moved) es) es o.gone) in
            let stands : Has (merge h) e = subst (λ es. Has es e) (sym order) (has_behind front (e ∷ behind) e (inl refl)) in record {
              names = names_told_at (told_first d.start) (by e.thread front) (by e.thread behind) e.entry
                  (subst (EachNamesTold (told_first d.start)) es (whole_log_names_told S N d.start p.log d.how d.store d.follows));
              own = each_of_has (λ (x : Item). (x.id.thread ≡ e.thread) × (x.id.serial ≤ 2 ^ 63)) e.entry.moved (λ x m.
                  let mine = has_of_each (λ (x : Item). HasGone d.store x.id) e.entry.moved x gone m in
                  let small = each_has (λ (x : Item). x.id.serial < 2 ^ 63) e.entry.moved x (each_has MovesThings (merge h) e numbered stands) m in
                  (mine.0 ∙ d.whose, omega (arith, small)));
              next = subst (λ t. TakesNext t (by e.thread front) e.entry) d.whose
                  (after_at (TakesNext d.store.thread) [] (by e.thread front) (by e.thread behind) e.entry (subst (EachAfter (TakesNext d.store.thread) []) es o.next));
            }

    one_closed : (y : Store) → Steps slots z e.thread e.entry y → Closed (front ++ e ∷ []) y
    one_closed y step = let k = known_there in closed_behind slots front z y e k.refs closed k.known k.fits step

  -- along the order
  closed_along : (done es behind : List Event) (z y last : Store) → merge h ≡ done ++ (es ++ behind) → Closed done z → Leads slots z es y → Leads slots y behind last → Closed (done ++ es) y
  closed_along done [] behind z y last order closed l m = subst (λ d. Closed d y) (sym (append-nil done)) (subst (Closed done) (sym l) closed)
  closed_along done (e ∷ es) behind z y last order closed (w, s, l) m =
      let next = one_closed done (es ++ behind) e z last order closed (w, s, joined_leads es behind w y last l m) w s in
      subst (λ d. Closed d y) (append_assoc done (e ∷ []) es) (closed_along (done ++ e ∷ []) es behind w y last (order ∙ sym (append_assoc done (e ∷ []) (es ++ behind))) next l m)
    where
      joined_leads : (xs ys : List Event) (a b c : Store) → Leads slots a xs b → Leads slots b ys c → Leads slots a (xs ++ ys) c
      joined_leads [] ys a b c l m = subst (λ x. Leads slots x ys c) l m
      joined_leads (x ∷ xs) ys a b c (w, s, l) m = (w, s, joined_leads xs ys w b c l m)

-- entries lead to one store
one_store : (slots : ℕ) (es : List Event) (x y z : Store) → Leads slots x es y → Leads slots x es z → y ≡ z
one_store slots [] x y z l m = l ∙ sym m
one_store slots (e ∷ es) x y z (w, s, l) (v, t, m) = one_store slots es v y z (subst (λ u. Leads slots u es y) (s.store_is ∙ sym t.store_is) l) m

-- ---- the laws

opening_closed : Closed [] opening_store
opening_closed = record {
  globals_there = (Object 4294967295 [], refl, refl);
  things = (tt, tt);
  told = λ e r h m. absurd h;
  given = λ e n values h s. absurd h;
  ids = (inl (omega (arith)), tt);
  came = (inl refl, tt);
}

leads_on : (S : Script) (N slots : ℕ) (h : History) (front : List Event) (z : Store) (r : Reaches S N slots h front z) → Leads slots z r.behind r.legal.last
leads_on S N slots h front z r =
    let rest = leads_split slots front r.behind opening_store r.legal.last (subst (λ es. Leads slots opening_store es r.legal.last) r.order r.legal.steps) in
    subst (λ y. Leads slots y r.behind r.legal.last) (one_store slots front opening_store rest.0 z rest.1 r.leads) rest.2

pub closed_at : (S : Script) (N slots : ℕ) (h : History) (front : List Event) (z : Store) → Reaches S N slots h front z → Closed front z
closed_at S N slots h front z r =
    closed_along S N slots h r.legal r.does (merge_numbers slots h r.legal r.numbered) [] front r.behind opening_store z r.legal.last r.order opening_closed r.leads (leads_on S N slots h front z r)

pub shared_is_closed : SharedIsClosed
shared_is_closed S N slots h front z r id thing f = mention_found (IsShared z) z id thing (closed_at S N slots h front z r).things f

pub told_is_shared : ToldIsShared
told_is_shared S N slots h front z r = (closed_at S N slots h front z r).told

asked_told : (told : List Reference) (z : Store) (c : Call) → ((r : Reference) → Among told r → IsShared z r) → IsToldOf told c → Each (IsShared z) (asked_of c)
asked_told told z (On r act) f a = (f r a, tt)
asked_told told z (Gather r) f a = (f r a, tt)
asked_told told z (Start id body values) f a = tt
asked_told told z (Print bytes) f a = tt
asked_told told z (End how) f a = tt

pub asked_is_shared : AskedIsShared
asked_is_shared S N slots h front rest e z r is =
    let order : merge h ≡ front ++ e ∷ rest = r.order ∙ ap (λ es. front ++ es) is in
    let closed = closed_at S N slots h front z r in
    let leads : Leads slots z (e ∷ rest) r.legal.last = subst (λ es. Leads slots z es r.legal.last) is (leads_on S N slots h front z r) in
    let k = known_there S N slots h r.legal r.does (merge_numbers slots h r.legal r.numbered) front rest e z r.legal.last order closed leads in
    asked_told k.refs z e.entry.call k.known k.fits.names.0

pub threads_name_shared : ThreadsNameShared
threads_name_shared S N slots h front z r start l own s begins a whole =
    let closed = closed_at S N slots h front z r in
    let c = threads_are_closed S N start l own s a in
    let known : (q : Reference) → Known own (told_refs start l) q → IsOwnOrShared own z q = own_or_told closed in
    (each_more (Known own (told_refs start l)) (IsOwnOrShared own z) known (values_in s) c.0, λ id x f. each_more (Known own (told_refs start l)) (IsOwnOrShared own z) known (mentioned x) (c.1 id x f))
  where
    own_or_told : Closed front z → (q : Reference) → Known own (told_refs start l) q → IsOwnOrShared own z q
    own_or_told closed q (inl p) = inl p
    own_or_told closed q (inr m) =
        inr (told_in front z closed start own.thread (start_in S N front z closed own.thread start begins) q (subst (λ es. Among (told_first start ++ flat_map told_by es) q) whole m))
