-- What is done while a mutex is owned, beside the machine.
use Rattle.std.specs.Prelude.{◌≡◌, ℕ, List, ◌∷◌, ◌++◌, length}
use Rattle.rb_tree.specs.declared.span.Span.{Span}
use Rattle.rb_tree.specs.declared.span.NameId.{NameId}
use Rattle.rb_tree.specs.declared.node.Block.{Block}
use Rattle.rb_tree.specs.declared.node.Program.{Program}
use Rattle.rb_model.specs.Values.{Value as Val, Reference}
use Rattle.rb_model.specs.declared.value.Value.{Value as Held}
use Rattle.rb_model.specs.Acts.{Lock, Unlock}
use Rattle.rb_model.specs.Log.{Log}
use Rattle.rb_model.specs.Private.{Private}
use Rattle.rb_machine.specs.Scopes.{Script, Scope}
use Rattle.rb_machine.specs.Control.{State, Cont, Then, Instead, Locked, Owning}
use Rattle.rb_machine.specs.Call.{ask}
use Rattle.rb_machine.specs.Give.{back}
use Rattle.rb_machine.specs.Turns.{start_owning}
use Rattle.rb_machine.specs.Follows.{At}
use Rattle.rb_code.specs.declared.code.CodeBlock.{CodeBlock}
use Rattle.rb_code.specs.declared.scripted.CodeScript.{CodeScript}
use Rattle.rb_code.specs.Erase.{erase_block}
use Rattle.rb_code.specs.Resolved.{block_fits}
use Rattle.rb_code.specs.Stands.{StandsFor}
use Rattle.rb_walk.specs.Outcome.{Outcome, Came}
use Rattle.rb_walk.specs.Carries.{Lies, scope_of}

-- the mutex of a block is asked for
abbrev pub locking : Reference → Block → Span → Script → List Cont → Scope → ℕ → ℕ → State
locking mutex block at S k sc d left = ask mutex Lock at (Then (Locked mutex block at) ∷ k) sc d left

-- From where a block begins that owns a mutex, the machine comes to the outcome of its body.
abbrev pub Owns : CodeScript → Program → ℕ → Val → CodeBlock → (base depth left left' : ℕ) → (room room' : List Held) → (log log' : Log) → (own own' : Private) → Outcome → Type 0
Owns script program N me block base depth left left' room room' log log' own own' o =
    (mutex : Reference) (at : Span) (S : Script) (start : State) (k : List Cont) (names : List NameId) (size : ℕ)
    → StandsFor script S → S.program ≡ program → Lies (block_fits S block) names size base (length room)
    → At S N start log own (start_owning S mutex (erase_block block) at k (scope_of me names room) depth left)
    → Came S N start log' own' o (Owning mutex (erase_block block) at (length names) ∷ k) (scope_of me (names ++ S.block_names block.at) room') depth left'

-- From where a mutex is given back, the machine comes to the outcome with a value.
abbrev pub Unlocks : ℕ → Reference → Span → Val → (left : ℕ) → (log log' : Log) → (own own' : Private) → Outcome → Type 0
Unlocks N mutex at v left log log' own own' o =
    (S : Script) (start : State) (k : List Cont) (sc : Scope) (d : ℕ)
    → At S N start log own (ask mutex Unlock at (Then (Instead v) ∷ k) sc d left) → Came S N start log' own' o k sc d left

-- From where the body of a block that owns a mutex came out, the machine comes to the outcome behind the block.
abbrev pub GivesBack : ℕ → Reference → Span → (left : ℕ) → (log log' : Log) → (own own' : Private) → (inner outer : Outcome) → Type 0
GivesBack N mutex at left log log' own own' inner outer =
    (block : Block) (S : Script) (start : State) (k : List Cont) (sc : Scope) (d kept : ℕ)
    → Came S N start log own inner (Owning mutex block at kept ∷ k) sc d left → Came S N start log' own' outer k (back kept sc) d left
