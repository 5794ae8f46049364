-- What a run of a script with threads is.
use Rattle.std.specs.Prelude.{◌≡◌, ℕ, true, false, List, [], ◌∷◌, ◌++◌, slice_get, Option, Some}
use Rattle.rb_tree.specs.declared.node.Program.{Program}
use Rattle.shape_core.specs.Shape.{Shape}
use Rattle.rb_model.specs.Ends.{End as Ending}
use Rattle.rb_model.specs.Private.{Private}
use Rattle.rb_model.specs.Log.{Entry, Refusal, End, last_step}
use Rattle.rb_shared.specs.Lists.{Has}
use Rattle.rb_shared.specs.History.{History, Placed, IsLegal, IsStarted, prints}
use Rattle.rb_shared.specs.Closing.{Written, refusals_of}
use Rattle.rb_shared.specs.View.{View, first_view}
use Rattle.rb_machine.specs.Scopes.{Script}
use Rattle.rb_machine.specs.Alone.{Alone, opening}
use Rattle.rb_machine.specs.Laws.{is_cut}
use Rattle.rb_machine.specs.Follows.{Follows}
use Rattle.rb_resolver.specs.Names.{script_of}
use Rattle.rb_closure.specs.Laws.{KeepsAll}
use Rattle.rb_closure.specs.Sharing.{shares_none, starts_none}
use Rattle.rb_thread.specs.Family.{Job, Main, Body, Does, words_of}

-- What thread n of a history is to do: the main one the top level of the script, another the body, with the values, of the entry that started it.
abbrev pub IsJobOf : History → ℕ → Job → Type 0
IsJobOf h n Main = n ≡ 0
IsJobOf h n (Body number body values) = (number ≡ n) × IsStarted h n body values

-- Each thread does what the reference machine does from there, given the replies that it got.
abbrev pub EachFollows : Script → ℕ → History → Type 0
EachFollows S N h = (n : ℕ) (p : Placed) → slice_get h.threads n ≡ Some p → (j : Job) × IsJobOf h n j × Does S N j p.log

-- the last entry is the End of this end
abbrev pub EndsWith : List Entry → Ending → Type 0
EndsWith entries how = (front : List Entry) × (last : Entry) × (entries ≡ front ++ last ∷ []) × (last.call ≡ End how)

-- a call was refused: for the sink's failure where there are no words, or for a full heap with these words in use and asked for
abbrev pub WasRefused : History → Option (ℕ × ℕ) → Type 0
WasRefused h words = (r : Refusal) × Has (refusals_of h) r × (r.words ≡ words)

-- Where the main thread ends by the sink's failure, or by a full heap, some call of some thread was refused for it.
abbrev pub ComesFromSomewhere : History → Ending → Type 0
ComesFromSomewhere h how = (words : Option (ℕ × ℕ)) → words_of how ≡ Some words → WasRefused h words

-- The main thread does so from the opening, and ends so; its things have seen these shapes.
pub record MainEnds (S : Script) (N : ℕ) (h : History) (how : Ending) (shapes : List Shape) : Type 0 where
  pub thread : Placed
  pub first : slice_get h.threads 0 ≡ Some thread
  pub store : Private
  pub follows : Follows S N (opening S N) thread.log how store
  pub ends : EndsWith thread.log.entries how
  pub whose : store.thread ≡ 0
  pub shaped : store.shapes ≡ shapes

-- What a script does that starts no thread, with its shared things too: the bytes of the prints, the end and the step of its last entry are those of
-- the script alone; and where it is cut short, the bytes are a front of those.
pub record IsAlone (S : Script) (N : ℕ) (h : History) (how : Ending) : Type 0 where
  pub thread : Placed
  pub first : slice_get h.threads 0 ≡ Some thread
  pub whole : is_cut how ≡ false → Alone S N (prints h.events) how (last_step thread.log.entries)
  pub front : (bytes : List ℕ) (end : Ending) (count : ℕ) → Alone S N bytes end count → (behind : List ℕ) × (bytes ≡ prints h.events ++ behind)

-- What one does that names no global variable either: the main thread is alone in the history, and all that stands there are its prints and its
-- end, with which nothing moves.
pub record SharesNothing (h : History) : Type 0 where
  pub thread : Placed
  pub one : h.threads ≡ thread ∷ []
  pub own : KeepsAll thread.log

-- The calls on shared things stand in the run's one history, which is legal for plain things, each call once, and those of each thread in its
-- order. Each thread does what the reference thread does given those replies, and the main one ends so. What the sink was told are the prints of
-- the history, and behind them, where a print was refused, a front of one of those. An end by the sink's failure or by a full heap has its cause.
-- A script that starts no thread does as it does alone, and one that names no global variable either shares nothing.
pub record IsRunOf (program : Program) (steps slots : ℕ) (old new : Option (List ℕ)) (h : History) (how : Ending) (shapes : List Shape) : Type 0 where
  pub legal : IsLegal slots h
  pub follows : EachFollows (script_of program) steps h
  pub main : MainEnds (script_of program) steps h how shapes
  pub written : Written old new h
  pub cause : ComesFromSomewhere h how
  pub alone : starts_none program ≡ true → IsAlone (script_of program) steps h how
  pub own : shares_none program ≡ true → SharesNothing h

-- the view of the pass that a new store gives
abbrev pub IsFirst : View → Type 0
IsFirst v = (slots : ℕ) × (v ≡ first_view slots)
