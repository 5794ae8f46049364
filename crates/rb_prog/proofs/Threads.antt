-- The run of a program with threads, as it is shown.
use Rattle.std.proofs.Common.{◌≡◌, ℕ, List, Option, Some, None, ap, subst}
use Rattle.rb_tree.specs.declared.node.Program.{Program}
use Rattle.shape_core.specs.Shape.{Shape}
use Rattle.rb_edge.specs.Edge.{Rose}
use Rattle.rb_model.specs.Ends.{End, Full, Sink}
use Rattle.rb_shared.specs.Closing.{Caused, AreFull}
use Rattle.rb_shared.specs.History.{History}
use Rattle.rb_thread.specs.Family.{words_of}
use Rattle.thread_run.specs.Run.{IsRunOf}
use Rattle.rb_prog.specs.Shown.{IsShown, max_threads}

-- a run over a store of so many slots, whose sink told what that of the program told
pub shown_run : (program : Program) (steps slots : ℕ) (before old new : Option (List ℕ)) (h : History) (how : End) (shapes : List Shape) → slots ≡ max_threads → before ≡ old
    → IsRunOf program steps slots before new h how shapes → IsShown program steps old new h how shapes
shown_run program steps slots before old new h how shapes e f run =
    subst (λ told. IsRunOf program steps max_threads told new h how shapes) f (subst (λ n. IsRunOf program steps n before new h how shapes) e run)

module _ (program : Program) (steps slots : ℕ) (told new : Option (List ℕ)) (h : History) (how : End) (shapes : List Shape) (run : IsRunOf program steps slots told new h how shapes) where
  -- a run that the sink ended, whose sink had failed so often before
  pub sink_cause : (before old now : ℕ) → Caused before now h → before ≡ old → how ≡ Sink → Rose old now
  sink_cause before old now caused f e = let r = run.cause None (ap words_of e) in subst (λ n. Rose n now) f (caused r.0 r.1 r.2)

  -- no run ends for a full heap over a store where none is full
  pub never_full : (Overflows : ℕ → ℕ → Type 0) → AreFull Overflows h → ((used asked : ℕ) → Overflows used asked → ⊥) → (used asked : ℕ) → how ≡ Full used asked → ⊥
  never_full Overflows full never used asked e = let r = run.cause (Some (used, asked)) (ap words_of e) in never used asked (full r.0 r.1 used asked r.2)
