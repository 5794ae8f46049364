-- What a script does that starts no thread, and one that shares nothing.
use Rattle.std.specs.Prelude.{◌≡◌, ℕ, Bool, true, false, List, [], ◌∷◌, ◌++◌, map}
use Rattle.rb_model.specs.Values.{Nil, Reference}
use Rattle.rb_model.specs.Ends.{End as Ending, Value}
use Rattle.rb_model.specs.Private.{Private}
use Rattle.rb_model.specs.Log.{Log, Entry, Refusal, Call, Print, End, prints, last_step}
use Rattle.rb_machine.specs.Scopes.{Script}
use Rattle.rb_machine.specs.Control.{State}
use Rattle.rb_machine.specs.Call.{globals}
use Rattle.rb_machine.specs.Follows.{At, Follows}
use Rattle.rb_machine.specs.Alone.{Alone, opening}
use Rattle.rb_machine.specs.Laws.{is_cut}
use Rattle.rb_closure.specs.Mentions.{values_in_reply}
use Rattle.rb_closure.specs.Closure.{Each, IfReference, Among, item_reference, IsToldOf}
use Rattle.rb_closure.specs.Sharing.{starts_none, shares_none}

-- A script that starts no thread has a run alone with each budget of steps: all that it asks is there.
abbrev pub RunsAlone : Type 0
RunsAlone = (S : Script) (N : ℕ) → starts_none S.program ≡ true → (bytes : List ℕ) × (how : Ending) × (steps : ℕ) × Alone S N bytes how steps

-- a call that tells others of nothing: a print, or an end with nil, or with no value
abbrev pub is_own : Call → Bool
is_own (Print bytes) = true
is_own (End (Value Nil)) = true
is_own (End (Value v)) = false
is_own (End how) = true
is_own call = false

-- each call, done or refused, is such a one, and nothing moves with it
abbrev pub KeepsAll : Log → Type 0
KeepsAll l = Each (λ (e : Entry). (is_own e.call ≡ true) × (e.moved ≡ [])) l.entries × Each (λ (x : Refusal). (is_own x.call ≡ true) × (x.moved ≡ [])) l.refusals

-- The main thread of a script that starts no thread and names no global variable prints and ends, and does nothing else with others.
abbrev pub SharesNothing : Type 0
SharesNothing = (S : Script) (N : ℕ) (l : Log) (how : Ending) (h : Private) → shares_none S.program ≡ true → Follows S N (opening S N) l how h → KeepsAll l

-- so it does what its script does alone, unless memory, the sink or a full heap cuts it short
abbrev pub DoesAsAlone : Type 0
DoesAsAlone = (S : Script) (N : ℕ) (l : Log) (how : Ending) (h : Private) → shares_none S.program ≡ true → Follows S N (opening S N) l how h → h.thread ≡ 0 → is_cut how ≡ false
    → Alone S N (prints l.entries) how (last_step l.entries)

-- each reply tells of the things that are known already, or that moved by then, as where the shared store has no others
abbrev pub TellsMoved : List Reference → List Entry → Type 0
TellsMoved known [] = Unit {0}
TellsMoved known (e ∷ es) =
    Each (IfReference (Among (known ++ map item_reference e.moved))) (values_in_reply e.reply) × TellsMoved (known ++ map item_reference e.moved) es

-- each thing of which something is asked is known already, or moved before
abbrev pub AsksMoved : List Reference → List Entry → Type 0
AsksMoved known [] = Unit {0}
AsksMoved known (e ∷ es) = IsToldOf known e.call × AsksMoved (known ++ map item_reference e.moved) es

-- What a main thread asks of others is the global variables, and what moved to them before, where it is told of nothing else.
abbrev pub MainAsksMoved : Type 0
MainAsksMoved = (S : Script) (N : ℕ) (l : Log) (h : Private) (s : State) → At S N (opening S N) l h s → TellsMoved (globals ∷ []) l.entries → AsksMoved (globals ∷ []) l.entries
