-- A script that starts no thread runs alone to its end: all of which it asks something is there.
use Rattle.std.proofs.Common.{◌≡◌, inl, inr, ℕ, Bool, true, List, [], Some, None, refl, sym, ◌∙◌, subst}
use Rattle.rb_model.specs.Values.{Reference}
use Rattle.rb_model.specs.Acts.{Done}
use Rattle.rb_model.specs.Ends.{End}
use Rattle.rb_model.specs.Things.{Object, mentioned}
use Rattle.rb_model.specs.Private.{Private, held}
use Rattle.rb_machine.specs.Scopes.{Script}
use Rattle.rb_machine.specs.Control.{State}
use Rattle.rb_machine.specs.Call.{globals}
use Rattle.rb_machine.specs.Move.{Ask, Begin}
use Rattle.rb_machine.specs.Alone.{Runs, Alone, opening, globals_alone}
use Rattle.rb_machine.specs.Alone as run
use Rattle.rb_machine.specs.Laws.{Finishes, ends, starts, misses}
use Rattle.rb_machine.proofs.Finishing.{always_finishes}
use Rattle.rb_closure.specs.Closure.{Each, IsHeld, Known, Covered, IsClosedStore}
use Rattle.rb_closure.specs.Sharing.{free_in_program}
use Rattle.rb_closure.specs.Laws.{RunsAlone}
use Rattle.rb_closure.proofs.Parts.{GoodState}
use Rattle.rb_closure.proofs.Scopes.{fresh_of}
use Rattle.rb_closure.proofs.Stores.{globals_only}
use Rattle.rb_closure.proofs.Sound.{rules, next_known, Sound, replied_sound, goes_sound, makes_sound, acts_sound}
use Rattle.rb_closure.proofs.Free.{free_code, main_free}

-- a thing that is held is there
pub not_missing : (h : Private) (r : Reference) → Known h [] r → held h r.id ≡ None → ⊥
not_missing h r (inl (thing, e, s)) f = let wrong : None ≡ Some thing = sym f ∙ e in cc
not_missing h r (inr a) f = a

module _ (named : Bool) (S : Script) (N : ℕ) (free : free_in_program named S.program ≡ true) where
  -- the main thread as it begins
  pub opening_good : (R : Reference → Type 0) (g : named ≡ true → R globals) → GoodState S (rules S (free_code named S free) R g) (opening S N)
  opening_good R g = (((tt, tt), main_free named S free), ((((tt, tt), tt), tt), (tt, fresh_of R S.main_names [] tt)))

module _ (S : Script) (N : ℕ) (free : free_in_program true S.program ≡ true) where
  abbrev SoundRun : Private → State → Type 0
  SoundRun h s = Sound S (free_code true S free) [] h s

  globals_there : IsHeld globals_alone globals
  globals_there = (Object 4294967295 [], refl, refl)

  globals_empty : IsClosedStore globals_alone []
  globals_empty id thing e = subst (λ t. Each (Covered globals_alone []) (mentioned t)) (globals_only id thing e) tt

  begins_sound : SoundRun globals_alone (opening S N)
  begins_sound = record { global = λ c. inl globals_there; state = opening_good true S N free (Known globals_alone []) (λ c. inl globals_there); store = globals_empty }

  sound_run : {b : List ℕ} {h : Private} {s : State} → Runs S N b h s → SoundRun h s
  sound_run run.begins = begins_sound
  sound_run (run.goes b h s s' r e) = goes_sound S (free_code true S free) [] h s s' e (sound_run r)
  sound_run (run.makes b h s thing r e) = makes_sound S (free_code true S free) [] h s thing e (sound_run r)
  sound_run (run.acts b h s q act thing r e f) = acts_sound S (free_code true S free) [] h s q act thing e f (sound_run r)
  sound_run (run.shows b h s bytes r e) = replied_sound S (free_code true S free) [] h s Done tt (sound_run r)

  ends_alone : Finishes S N → (bytes : List ℕ) × (how : End) × (steps : ℕ) × Alone S N bytes how steps
  ends_alone (ends bytes how steps alone) = (bytes, how, steps, alone)
  ends_alone (starts bytes h s body values r e) = absurd (next_known S (free_code true S free) (Known h []) (sound_run r).global s (Begin body values) e (sound_run r).state).0
  ends_alone (misses bytes h s q act r e f) = absurd (not_missing h q (next_known S (free_code true S free) (Known h []) (sound_run r).global s (Ask q act) e (sound_run r).state).0 f)

pub runs_alone : RunsAlone
runs_alone S N free = ends_alone S N free (always_finishes S N)
