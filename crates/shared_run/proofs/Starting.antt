-- The run at its start.
use Rattle.std.proofs.Common.{◌≡◌, ℕ, [], ◌∷◌, Some, None, refl, inl, arith}
use Rattle.rb_shared.specs.Store as store
use Rattle.rb_shared.specs.View.{first_view}
use Rattle.shared_run.specs.Run.{Run, IsRun, Knows}

abbrev pub first_run : Run
first_run = record { events = []; refusals = [] ∷ []; store = store.opening }

pub first_is_run : (slots : ℕ) → IsRun slots first_run
first_is_run slots = record {
  leads = refl;
  counted = refl;
  started = refl;
  begun = tt;
  within = tt;
  made = λ n pos lt. absurd (omega (arith, pos, lt));
  unmoved = tt;
  from = (inl refl, tt);
  ended = (λ s how e end. absurd (cc), tt);
  mentions = (tt, tt);
  sized = (tt, tt);
}

pub first_knows : (slots : ℕ) → Knows slots first_run (first_view slots)
first_knows slots = record {
  same_slots = refl;
  within = omega arith;
  begun = inl refl;
  generation = refl;
  log = refl;
  over = refl;
  known = (refl, tt);
  told = tt;
  due = λ n e. absurd (let h : None ≡ Some n = e in cc);
}
