-- Parameters, blocks and threads.
use Rattle.std.proofs.Common.{◌≡◌, List, [], ◌∷◌, ◌++◌, refl, sym, ap, ◌∙◌, subst, append_assoc}
use Rattle.std.specs.Prelude.{map}
use Rattle.std.proofs.lemmas.List.{map-append}
use Rattle.rb_tree.specs.declared.node.Block.{Block}
use Rattle.rb_grammar.specs.Tree.{Word, Thread, Tree, BlockTree, names_of, threads_of, block_by, block_names}
use Rattle.rb_builder.specs.Walk.{Walk, gathering}
use Rattle.rb_builder.specs.Said.{text_given, IsSaid, Joined}
use Rattle.rb_builder.specs.Grown.{Made}
use Rattle.rb_builder.specs.declared.said.Said.{Said}
use Rattle.rb_builder.proofs.Saying.{said-joined, said_same}
use Rattle.rb_builder.proofs.Rows.{threads_of-append}
use Rattle.rb_builder.proofs.Walks.{IsSecond}

-- a receiver with the name behind it, the arguments and the block, each behind the one before
pub call_says : (w : Walk) (a : Tree) (word : Word) (args : List Tree) (b : BlockTree) (s t u mid both : Said)
    → IsSaid w s (a.names ++ word ∷ []) a.threads → IsSaid w t (names_of args) (threads_of args) → IsSaid w u (block_names b) (threads_of b.body)
    → Joined s t mid → Joined mid u both
    → IsSaid w both (a.names ++ word ∷ (names_of args ++ block_names b)) (a.threads ++ threads_of (args ++ b.body))
call_says w a word args b s t u mid both x y z j k =
    said_same w both (append_assoc (a.names ++ word ∷ []) (names_of args) (block_names b) ∙ append_assoc a.names (word ∷ []) (names_of args ++ block_names b))
    (append_assoc a.threads (threads_of args) (threads_of b.body) ∙ ap (λ q. a.threads ++ q) (sym (threads_of-append args b.body)))
    (said-joined w mid u both ((a.names ++ word ∷ []) ++ names_of args) (block_names b) (a.threads ++ threads_of args) (threads_of b.body)
    (said-joined w s t mid (a.names ++ word ∷ []) (names_of args) a.threads (threads_of args) x y j) z k)

-- the thread whose body is this block
abbrev pub thread_of : BlockTree → Thread
thread_of b = record { at = b.at; block = λ n. block_by n b }

-- arguments, the thread of a block, and what the block says
pub thread_says : (w : Walk) (args : List Tree) (b : BlockTree) (s t both : Said)
    → IsSaid w s (names_of args) (threads_of args ++ thread_of b ∷ []) → IsSaid w t (block_names b) (threads_of b.body) → Joined s t both
    → IsSaid w both (names_of args ++ block_names b) (threads_of args ++ thread_of b ∷ threads_of b.body)
thread_says w args b s t both x y j =
    said_same w both {names = names_of args ++ block_names b} refl (append_assoc (threads_of args) (thread_of b ∷ []) (threads_of b.body))
    (said-joined w s t both (names_of args) (block_names b) (threads_of args ++ thread_of b ∷ []) (threads_of b.body) x y j)

-- a thread's place is gathered behind the rest
place_said : (old new : Said) (names : List Word) (threads : List Thread) (t : Thread)
    → new.words ≡ old.words → new.threads ≡ old.threads ++ t.at.from ∷ [] → IsSaid gathering old names threads → IsSaid gathering new names (threads ++ t ∷ [])
place_said old new names threads t words places h = (
  ap (map text_given) words ∙ h.0,
  places ∙ ap (λ x. x ++ t.at.from ∷ []) h.1 ∙ sym (map-append (λ u. u.at.from) threads (t ∷ [])),
)

pub thread_gathered : (w : Walk) (old new : Said) (names : List Word) (threads : List Thread) (t : Thread) → w ≡ gathering
    → new.words ≡ old.words → new.threads ≡ old.threads ++ t.at.from ∷ [] → IsSaid w old names threads → IsSaid w new names (threads ++ t ∷ [])
thread_gathered w old new names threads t e words places =
    subst (λ x. IsSaid x old names threads → IsSaid x new names (threads ++ t ∷ [])) (sym e) (place_said old new names threads t words places)

-- a thread's body is kept behind the rest
pub body_kept : (w : Walk) (n : IsSecond w) (old new : Said) (block : Block) (names : List Word) (threads : List Thread) (t : Thread)
    → new.bodies ≡ old.bodies ++ block ∷ [] → Made w block t.block → IsSaid w old names threads → IsSaid w new names (threads ++ t ∷ [])
body_kept w n old new block names threads t bodies =
    subst (λ x. Made x block t.block → IsSaid x old names threads → IsSaid x new names (threads ++ t ∷ [])) (sym n.is)
    (λ m h. bodies ∙ ap (λ x. x ++ block ∷ []) h ∙ ap (λ x. map (λ u. u.block n.by) threads ++ x ∷ []) m ∙ sym (map-append (λ u. u.block n.by) threads (t ∷ [])))
