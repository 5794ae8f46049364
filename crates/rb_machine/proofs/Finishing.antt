-- Every script with a budget of steps finishes.
use Rattle.std.proofs.Common.{◌≡◌, ◌<◌, inr, ℕ, ◌+◌, List, [], ◌∷◌, ◌++◌, length, Option, Some, None, refl, arith}
use Rattle.std.specs.Prelude.{nat_le, codes}
use Rattle.rb_tree.specs.declared.span.Span.{Span}
use Rattle.rb_model.specs.Values.{Value, Reference}
use Rattle.rb_model.specs.Acts.{Act, Reply, Done}
use Rattle.rb_model.specs.Acts as reply
use Rattle.rb_model.specs.Ends as ending
use Rattle.rb_model.specs.Things.{Thing, gives_to}
use Rattle.rb_model.specs.Private.{Private, held}
use Rattle.rb_machine.specs.Scopes.{Script, Scope}
use Rattle.rb_machine.specs.Control.{State, On, Cont, Draft, Form, Inspected, Lined, Use, Keys, Values, ForEach, ForText, Eval, Give, Leave, Following, Looping, Turning, Passing, Joining, Drafting, Making, Calling, Reading, Showing, Starting, Ended}
use Rattle.rb_machine.specs.Texts.{max_bytes}
use Rattle.rb_machine.specs.Drafts.{opened_array, lead_of, empty_lines}
use Rattle.rb_machine.specs.Call.{going}
use Rattle.rb_machine.specs.Move.{Next, Go, Make, Ask, Begin, Show, Stop, move, replied, answered, used, left_in}
use Rattle.rb_machine.specs.Alone.{Runs, begins, goes, makes, acts, shows, opening, globals_alone}
use Rattle.rb_machine.specs.Laws.{starts, Finishes, ends, misses, AlwaysFinishes}
use Rattle.rb_machine.proofs.Weights.{size, use_weight, weights}
use Rattle.rb_machine.proofs.Measure.{Within, wider, going_within}
use Rattle.rb_machine.proofs.Down.{Less, Down, down, by_less}

module _ (S : Script) (N : ℕ) where
  -- a state where a want was has more to do than what is behind the reply
  abbrev Wants : Next → Type 0
  Wants (Go t) = ⊥
  Wants (Stop how) = ⊥
  Wants want = Unit {0}

  answered_less : (r : Reply) (at : Span) (k : List Cont) (sc : Scope) (d left : ℕ) → (left_in (answered r at k sc d left) ≡ left) × (size (answered r at k sc d left) < 3 + weights k)
  answered_less (reply.Value v) at k sc d left = (refl, omega arith)
  answered_less (reply.Elements vs) at k sc d left = (refl, omega arith)
  answered_less (reply.Pairs ps) at k sc d left = (refl, omega arith)
  answered_less reply.Done at k sc d left = (refl, omega arith)
  answered_less (reply.Started number thread) at k sc d left = (refl, omega arith)
  answered_less (reply.Ended (ending.Value v)) at k sc d left = (refl, omega arith)
  answered_less (reply.Ended (ending.Raised f p)) at k sc d left = (refl, omega arith)
  answered_less (reply.Ended ending.Steps) at k sc d left = (refl, omega arith)
  answered_less (reply.Ended (ending.Full a b)) at k sc d left = (refl, omega arith)
  answered_less (reply.Ended ending.Sink) at k sc d left = (refl, omega arith)
  answered_less (reply.Ended ending.Memory) at k sc d left = (refl, omega arith)
  answered_less (reply.Failed f) at k sc d left = (refl, omega arith)

  answered_within : (work : ℕ) (r : Reply) (at : Span) (k : List Cont) (sc : Scope) (d left : ℕ) → (left_in (answered r at k sc d left) ≡ left) × (size (answered r at k sc d left) < 8 + work + weights k)
  answered_within work r at k sc d left = let p = answered_less r at k sc d left in (p.0, omega (arith, p.1))

  -- a collection that is opened in a text leaves less to do than its reading
  array_within : (form : Form) (t : Draft) (thing : Reference) (vs : List Value) (at : Span) (k : List Cont) (sc : Scope) (d left : ℕ)
      → Within left (4 + length t.begun + weights k) (going (opened_array form t thing vs) at k sc d left)
  array_within Lined t thing [] at k sc d left = wider left _ _ _ (omega arith) (going_within (nat_le (length (t.bytes ++ empty_lines t.begun)) max_bytes) _ at k sc d left)
  array_within Lined t thing (v ∷ vs) at k sc d left = (refl, omega arith)
  array_within Inspected t thing vs at k sc d left = wider left _ _ _ (omega arith) (going_within (nat_le (length (t.bytes ++ (lead_of t.coming ++ codes "["))) max_bytes) _ at k sc d left)

  less_within : (left work : ℕ) (k : List Cont) (s : State) → Within left (4 + work + weights k) s → (left_in s ≡ left) × (size s < 8 + work + weights k)
  less_within left work k s w = (w.0, omega (arith, w.1))

  used_less : (purpose : Use) (thing : Reference) (r : Reply) (at : Span) (k : List Cont) (sc : Scope) (d left : ℕ)
      → (left_in (used purpose thing r at k sc d left) ≡ left) × (size (used purpose thing r at k sc d left) < 8 + use_weight purpose + weights k)
  used_less Keys thing (reply.Pairs ps) at k sc d left = (refl, omega arith)
  used_less Values thing (reply.Pairs ps) at k sc d left = (refl, omega arith)
  used_less (ForEach answer block) thing (reply.Pairs ps) at k sc d left = (refl, omega arith)
  used_less (ForText t) thing (reply.Elements vs) at k sc d left = less_within left (length t.begun) k _ (array_within t.form t thing vs at k sc d left)
  used_less (ForText t) thing (reply.Pairs ps) at k sc d left =
      less_within left (length t.begun) k _ (wider left _ _ _ (omega arith) (going_within (nat_le (length (t.bytes ++ (lead_of t.coming ++ codes "{"))) max_bytes) _ at k sc d left))
  used_less purpose thing r at k sc d left = answered_within (use_weight purpose) r at k sc d left

  reply_less : (s : State) (r : Reply) → Wants (move S s) → Less S (replied s r) s
  reply_less (On (Making thing) k sc d left) r h = inr (answered_less r _ k sc d left)
  reply_less (On (Calling thing act at) k sc d left) r h = inr (answered_less r at k sc d left)
  reply_less (On (Reading thing purpose at) k sc d left) r h = inr (used_less purpose thing r at k sc d left)
  reply_less (On (Starting body values at) k sc d left) r h = inr (answered_less r at k sc d left)
  reply_less (On (Showing bytes) k sc d left) r h = inr (refl, omega arith)
  reply_less (On (Drafting t at) k sc d left) r h = absurd h
  reply_less (On (Ended how) k sc d left) r h = absurd h
  reply_less (On (Eval n) k sc d left) r h = absurd h
  reply_less (On (Give v) [] sc d left) r h = absurd h
  reply_less (On (Give v) (c ∷ k) sc d left) r h = absurd h
  reply_less (On (Leave e) [] sc d left) r h = absurd h
  reply_less (On (Leave e) (c ∷ k) sc d left) r h = absurd h
  reply_less (On (Following v []) k sc d left) r h = absurd h
  reply_less (On (Following v (n ∷ ns)) k sc d left) r h = absurd h
  reply_less (On (Looping condition body) k sc d left) r h = absurd h
  reply_less (On (Turning turns block) k sc d left) r h = absurd h
  reply_less (On (Passing aim done [] at) k sc d left) r h = absurd h
  reply_less (On (Passing aim done (n ∷ ns) at) k sc d left) r h = absurd h
  reply_less (On (Joining bytes [] at) k sc d left) r h = absurd h
  reply_less (On (Joining bytes (p ∷ ps) at) k sc d left) r h = absurd h

  abbrev Run : State → Type 0
  Run s = (b : List ℕ) (h : Private) → Runs S N b h s → Finishes S N

  asked : (s : State) (q : Reference) (act : Act) (thing : Option Thing) (b : List ℕ) (h : Private) → Runs S N b h s → move S s ≡ Ask q act → held h q.id ≡ thing
      → ((r : Reply) → Run (replied s r)) → Finishes S N
  asked s q act None b h run e f later = misses b h s q act run e f
  asked s q act (Some thing) b h run e f later = later (gives_to h.thread thing act) _ _ (acts b h s q act thing run e f)

  step : (s : State) (next : Next) → move S s ≡ next → Down S s next → (Wants next → (r : Reply) → Run (replied s r)) → ((t : State) → Less S t s → Run t) → Run s
  step s (Go t) e d reply later b h run = later t d b h (goes b h s t run e)
  step s (Make thing) e d reply later b h run = reply tt _ _ _ (makes b h s thing run e)
  step s (Ask q act) e d reply later b h run = asked s q act (held h q.id) b h run e refl (reply tt)
  step s (Begin body values) e d reply later b h run = starts b h s body values run e
  step s (Show bytes) e d reply later b h run = reply tt Done _ _ (shows b h s bytes run e)
  step s (Stop how) e d reply later b h run = ends b how _ (record { store = h; last = s; run = run; ends = e; counted = refl })

  pub finishes : Finishes S N
  finishes = by_less S Run (λ s later. step s (move S s) refl (down S s) (λ w r. later (replied s r) (reply_less s r w)) later) (opening S N) [] globals_alone begins

pub always_finishes : AlwaysFinishes
always_finishes S N = finishes S N
