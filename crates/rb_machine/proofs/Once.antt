-- A script has one run: so many moves lead to one place.
use Rattle.std.proofs.Common.{◌≡◌, ℕ, zero, suc, ◌+◌, ◌-◌, List, [], ◌++◌, Option, Some, None, refl, sym, ap, ◌∙◌, subst, arith}
use Rattle.std.proofs.lemmas.List.{append-nil, append_assoc}
use Rattle.rb_model.specs.Values.{To}
use Rattle.rb_model.specs.Acts.{Done}
use Rattle.rb_model.specs.Acts as reply
use Rattle.rb_model.specs.Ends.{End}
use Rattle.rb_model.specs.Things.{Thing, gives_to}
use Rattle.rb_model.specs.Private.{Private, held, entered, acted}
use Rattle.rb_machine.specs.Scopes.{Script}
use Rattle.rb_machine.specs.Control.{State}
use Rattle.rb_machine.specs.Move.{Next, Go, Make, Ask, Begin, Show, Stop, move, replied, left_in}
use Rattle.rb_machine.specs.Follows.{next_thing}
use Rattle.rb_machine.specs.Alone.{Runs, begins, goes, makes, acts, shows, opening, globals_alone, Alone}
use Rattle.rb_machine.specs.Laws.{HasOneRun}

-- where a run is: what was shown, the store, the state
pub record Point : Type 0 where
  pub bytes : List ℕ
  pub store : Private
  pub state : State

abbrev answered_by : Option Thing → Next → Point → Point
answered_by None next x = x
answered_by (Some thing) (Ask r act) x = record { bytes = x.bytes; store = acted x.store r.id act thing; state = replied x.state (gives_to x.store.thread thing act) }
answered_by (Some thing) next x = x

abbrev after : Next → Point → Point
after (Go t) x = record { bytes = x.bytes; store = x.store; state = t }
after (Make thing) x = record { bytes = x.bytes; store = entered x.store thing; state = replied x.state (reply.Value (To (next_thing x.store thing))) }
after (Ask r act) x = answered_by (held x.store r.id) (Ask r act) x
after (Begin body values) x = x
after (Show bytes) x = record { bytes = x.bytes ++ bytes; store = x.store; state = replied x.state Done }
after (Stop how) x = x

module _ (S : Script) (N : ℕ) where
  abbrev one : Point → Point
  one x = after (move S x.state) x

  abbrev first : Point
  first = record { bytes = []; store = globals_alone; state = opening S N }

  abbrev advance : ℕ → Point
  advance zero = first
  advance (suc n) = one (advance n)

  abbrev Reached : List ℕ → Private → State → Type 0
  Reached b h s = (n : ℕ) × (advance n ≡ record { bytes = b; store = h; state = s })

  reached : {b : List ℕ} {h : Private} {s : State} → Runs S N b h s → Reached b h s
  reached begins = (zero, refl)
  reached (goes b h s t r e) = let p = reached r in (suc p.0, ap one p.1 ∙ ap (λ m. after m (record { bytes = b; store = h; state = s })) e)
  reached (makes b h s thing r e) = let p = reached r in (suc p.0, ap one p.1 ∙ ap (λ m. after m (record { bytes = b; store = h; state = s })) e)
  reached (acts b h s q act thing r e f) =
      let p = reached r in
      (suc p.0, ap one p.1 ∙ (ap (λ m. after m (record { bytes = b; store = h; state = s })) e ∙ ap (λ o. answered_by o (Ask q act) (record { bytes = b; store = h; state = s })) f))
  reached (shows b h s bytes r e) = let p = reached r in (suc p.0, ap one p.1 ∙ ap (λ m. after m (record { bytes = b; store = h; state = s })) e)

  -- an end stays
  stays : (n k : ℕ) (x : Point) (e : End) → advance n ≡ x → move S x.state ≡ Stop e → advance (k + n) ≡ x
  stays n zero x e h m = let z : 0 + n ≡ n = omega arith in ap advance z ∙ h
  stays n (suc k) x e h m =
      let z : suc k + n ≡ suc (k + n) = omega arith in
      ap advance z ∙ (ap one (stays n k x e h m) ∙ ap (λ m. after m x) m)

  -- two ends are one
  one_end : (m n : ℕ) (x y : Point) (e f : End) → advance m ≡ x → advance n ≡ y → move S x.state ≡ Stop e → move S y.state ≡ Stop f → x ≡ y
  one_end m n x y e f a b s t =
      let p = stays m (n - m) x e a s in
      let q = stays n (m - n) y f b t in
      let w : n - m + m ≡ m - n + n = omega arith in
      sym p ∙ (ap advance w ∙ q)

-- one list of bytes begins with another
abbrev pub Begins : List ℕ → List ℕ → Type 0
Begins b b' = (behind : List ℕ) × (b' ≡ b ++ behind)

begins_itself : (b : List ℕ) → Begins b b
begins_itself b = ([], sym (append-nil b))

begins_through : (a b c : List ℕ) → Begins a b → Begins b c → Begins a c
begins_through a b c p q = (p.0 ++ q.0, q.1 ∙ (ap (λ l. l ++ q.0) p.1 ∙ append_assoc a p.0 q.0))

acted_shows : (thing : Option Thing) (next : Next) (x : Point) → Begins x.bytes (answered_by thing next x).bytes
acted_shows None next x = begins_itself x.bytes
acted_shows (Some thing) (Ask r act) x = begins_itself x.bytes
acted_shows (Some thing) (Go t) x = begins_itself x.bytes
acted_shows (Some thing) (Make made) x = begins_itself x.bytes
acted_shows (Some thing) (Begin body values) x = begins_itself x.bytes
acted_shows (Some thing) (Show bytes) x = begins_itself x.bytes
acted_shows (Some thing) (Stop how) x = begins_itself x.bytes

-- what was shown stays
after_shows : (next : Next) (x : Point) → Begins x.bytes (after next x).bytes
after_shows (Go t) x = begins_itself x.bytes
after_shows (Make thing) x = begins_itself x.bytes
after_shows (Ask r act) x = acted_shows (held x.store r.id) (Ask r act) x
after_shows (Begin body values) x = begins_itself x.bytes
after_shows (Show bytes) x = (bytes, refl)
after_shows (Stop how) x = begins_itself x.bytes

later_shows : (S : Script) (N n k : ℕ) → Begins (advance S N n).bytes (advance S N (k + n)).bytes
later_shows S N n zero =
    let z : 0 + n ≡ n = omega arith in
    subst (λ m. Begins (advance S N n).bytes (advance S N m).bytes) (sym z) (begins_itself (advance S N n).bytes)
later_shows S N n (suc k) =
    let z : suc k + n ≡ suc (k + n) = omega arith in
    subst (λ m. Begins (advance S N n).bytes (advance S N m).bytes) (sym z)
    (begins_through (advance S N n).bytes (advance S N (k + n)).bytes (one S N (advance S N (k + n))).bytes (later_shows S N n k) (after_shows (move S (advance S N (k + n)).state) (advance S N (k + n))))

-- what a run has shown stands in front of what its script shows in the end
pub front : (S : Script) (N : ℕ) (b b' : List ℕ) (h : Private) (s : State) (e : End) (n : ℕ) → Runs S N b h s → Alone S N b' e n → Begins b b'
front S N b b' h s e n r alone =
    let p = reached S N r in
    let q = reached S N alone.run in
    let w : p.0 - q.0 + q.0 ≡ q.0 - p.0 + p.0 = omega arith in
    let last = sym (stays S N q.0 (p.0 - q.0) _ e q.1 alone.ends) ∙ ap (advance S N) w in
    let shown = later_shows S N p.0 (q.0 - p.0) in
    (shown.0, ap (λ (x : Point). x.bytes) last ∙ (shown.1 ∙ ap (λ (x : Point). x.bytes ++ shown.0) p.1))

abbrev end_in : Next → Option End
end_in (Stop e) = Some e
end_in other = None

abbrev or_this : End → Option End → End
or_this e None = e
or_this e (Some f) = f

pub has_one_run : HasOneRun
has_one_run S N b b' e e' n n' p q =
    let m = reached S N p.run in
    let k = reached S N q.run in
    let same = one_end S N m.0 k.0 _ _ e e' m.1 k.1 p.ends q.ends in (
      ap (λ (x : Point). x.bytes) same,
      ap (λ o. or_this e o) (ap end_in (sym p.ends) ∙ (ap (λ (x : Point). end_in (move S x.state)) same ∙ ap end_in q.ends)),
      sym p.counted ∙ (ap (λ (x : Point). N - left_in x.state) same ∙ q.counted),
    )
