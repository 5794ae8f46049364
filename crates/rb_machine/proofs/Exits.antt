-- Where `break`, `next` and `return` lead.
use Rattle.std.proofs.Common.{◌≡◌, ℕ, true, List, [], ◌∷◌, ◌++◌, refl}
use Rattle.rb_machine.specs.Scopes.{Script, Scope}
use Rattle.rb_machine.specs.Control.{State, On, Cont, Then, Under, Test, Again, Turn, Owning, Frame, Leave, Exit, Break, Next}
use Rattle.rb_machine.specs.Give.{back, leave}
use Rattle.rb_machine.specs.Laws.{Quiet, stays, moves, is_inner, depth_behind, BreakEndsLoops, BreakEndsBlocks, NextGoesOn, ReturnEndsMethods}

-- an exit goes past what is inside one loop, block or method
past : (S : Script) (e : Exit) (inner k : List Cont) (sc : Scope) (d left : ℕ) (t : State) → is_inner inner ≡ true → Quiet S (On (Leave e) k sc (depth_behind inner d) left) t
    → Quiet S (On (Leave e) (inner ++ k) sc d left) t
past S e [] k sc d left t h q = q
past S e (Then step ∷ inner) k sc d left t h q = moves _ _ _ refl (past S e inner k sc d left t h q)
past S e (Under depth ∷ inner) k sc d left t h q = moves _ _ _ refl (past S e inner k sc depth left t h q)
past S e (Test condition body ∷ inner) k sc d left t h q = absurd (cc)
past S e (Again condition body ∷ inner) k sc d left t h q = absurd (cc)
past S e (Turn turns block kept ∷ inner) k sc d left t h q = absurd (cc)
past S e (Owning mutex block at kept ∷ inner) k sc d left t h q = absurd (cc)
past S e (Frame saved ∷ inner) k sc d left t h q = absurd (cc)

-- the next state is this one
arrives : (S : Script) (e : Exit) (c : Cont) (k : List Cont) (sc : Scope) (d left : ℕ) → Quiet S (On (Leave e) (c ∷ k) sc d left) (leave e c k sc d left)
arrives S e c k sc d left = moves _ _ _ refl (stays _)

pub break_ends_loops : BreakEndsLoops
break_ends_loops S inner k condition body sc d left h =
    (past S Break inner _ sc d left _ h (arrives S Break (Again condition body) k sc _ left), past S Break inner _ sc d left _ h (arrives S Break (Test condition body) k sc _ left))

pub break_ends_blocks : BreakEndsBlocks
break_ends_blocks S inner k turns block kept sc d left h = past S Break inner _ sc d left _ h (arrives S Break (Turn turns block kept) k sc _ left)

pub next_goes_on : NextGoesOn
next_goes_on S inner k condition body turns block kept sc d left h =
    (past S Next inner _ sc d left _ h (arrives S Next (Again condition body) k sc _ left), past S Next inner _ sc d left _ h (arrives S Next (Turn turns block kept) k sc _ left))

-- a return goes past all that is inside one method
pub return_ends_methods : ReturnEndsMethods
return_ends_methods S [] k v saved sc d left h = moves _ _ _ refl (stays _)
return_ends_methods S (Then step ∷ inner) k v saved sc d left h = moves _ _ _ refl (return_ends_methods S inner k v saved sc d left h)
return_ends_methods S (Under depth ∷ inner) k v saved sc d left h = moves _ _ _ refl (return_ends_methods S inner k v saved sc depth left h)
return_ends_methods S (Test condition body ∷ inner) k v saved sc d left h = moves _ _ _ refl (return_ends_methods S inner k v saved sc d left h)
return_ends_methods S (Again condition body ∷ inner) k v saved sc d left h = moves _ _ _ refl (return_ends_methods S inner k v saved sc d left h)
return_ends_methods S (Turn turns block kept ∷ inner) k v saved sc d left h = moves _ _ _ refl (return_ends_methods S inner k v saved (back kept sc) d left h)
return_ends_methods S (Owning mutex block at kept ∷ inner) k v saved sc d left h = absurd (cc)
return_ends_methods S (Frame inner_scope ∷ inner) k v saved sc d left h = absurd (cc)
