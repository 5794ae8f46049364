-- What a run is of a script that starts no thread, and of one that shares nothing.
use Rattle.std.proofs.Common.{◌≡◌, ℕ, true, false, List, [], ◌∷◌, slice_get, refl, sym, subst}
use Rattle.rb_tree.specs.declared.node.Program.{Program}
use Rattle.shape_core.specs.Shape.{Shape}
use Rattle.rb_model.specs.Acts.{Reply}
use Rattle.rb_model.specs.Ends.{End as Ending}
use Rattle.rb_model.specs.Log.{Call, Entry}
use Rattle.rb_model.specs.Log as log
use Rattle.rb_model.specs.Started.{started_by}
use Rattle.rb_shared.specs.History.{History, IsLegal, entries_of}
use Rattle.rb_resolver.specs.Names.{script_of}
use Rattle.rb_closure.specs.Closure.{Each}
use Rattle.rb_closure.specs.Laws.{is_own}
use Rattle.rb_closure.specs.Sharing.{shares_none, starts_none}
use Rattle.rb_closure.proofs.Keeping.{shares_nothing}
use Rattle.run_laws.specs.Laws.{MainDoes}
use Rattle.run_laws.proofs.Beside.{does_as_alone, shows_a_front}
use Rattle.run_laws.proofs.Single.{StartsNone, main_alone}
use Rattle.thread_run.specs.Run.{IsAlone, MainEnds, SharesNothing}

own_starts_none : (c : Call) (r : Reply) → is_own c ≡ true → started_by c r ≡ []
own_starts_none (log.On thing act) r e = absurd (let no : false ≡ true = e in cc)
own_starts_none (log.Start id body values) r e = absurd (let no : false ≡ true = e in cc)
own_starts_none (log.Gather thread) r e = absurd (let no : false ≡ true = e in cc)
own_starts_none (log.Print bytes) r e = refl
own_starts_none (log.End how) r e = refl

all_start_none : (es : List Entry) → Each (λ (e : Entry). (is_own e.call ≡ true) × (e.moved ≡ [])) es → Each StartsNone es
all_start_none [] own = tt
all_start_none (e ∷ es) own = (own_starts_none e.call e.reply own.0.0, all_start_none es own.1)

module _ (program : Program) (N slots : ℕ) (h : History) (how : Ending) (shapes : List Shape) (l : IsLegal slots h) (m : MainEnds (script_of program) N h how shapes) where
  main_does : MainDoes (script_of program) N slots h m.thread how
  main_does = record { legal = l; first = m.first; store = m.store; follows = m.follows; whose = m.whose }

  pub is_alone : starts_none program ≡ true → IsAlone (script_of program) N h how
  is_alone free = record {
    thread = m.thread;
    first = m.first;
    whole = λ uncut. does_as_alone (script_of program) N slots h m.thread how free main_does uncut;
    front = λ bytes end count alone. shows_a_front (script_of program) N slots h m.thread how bytes end count free main_does alone;
  }

  pub keeps_to_itself : shares_none program ≡ true → SharesNothing h
  keeps_to_itself free =
      let keeps = shares_nothing (script_of program) N m.thread.log how m.store free m.follows in
      let none = subst (λ o. Each StartsNone (entries_of o)) (sym m.first) (all_start_none m.thread.log.entries keeps.0) in
      record { thread = m.thread; one = main_alone slots h l none m.thread m.first; own = keeps }
