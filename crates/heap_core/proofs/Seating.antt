-- The seats, where a thread has come.
use Rattle.std.proofs.Common.{◌≡◌, ◌<◌, ◌≢◌, ℕ, suc, ◌+◌, Bool, true, false, not, cond, count_by, List, [], ◌∷◌, ◌++◌, length, set, Option, Some, None, refl, sym, ap, ◌∙◌, subst, inl, inr, ⊎_elim, arith, length-set}
use Rattle.std.proofs.lemmas.Grind.{flat_map-append}
use mathlib.Core.Option.{some}
use lib.ListN.{get_elem?}
use Rattle.atomic_table.proofs.Lists.{at_set, set_here, set_else}
use Rattle.rb_model.specs.declared.value.Id.{Id}
use Rattle.rb_model.specs.Things.{ThreadState}
use Rattle.rb_shared.specs.Lists.{Has}
use Rattle.rb_shared.specs.Step.{new_thread}
use Rattle.rb_shared.specs.Store.{Store, threads, thread_in, ungathered_count}
use Rattle.rb_shared.proofs.Runs.{has_front, has_behind}
use Rattle.shared_run.proofs.Events.{has_either}
use Rattle.heap_core.specs.View.{Holder}
use Rattle.heap_core.specs.Moment.{At}
use Rattle.heap_core.specs.Rule.{IsUngathered, Seated}
use Rattle.heap_core.proofs.Holders.{at_within, each_set}
use Rattle.heap_core.proofs.Lines.{taken_set}
use Rattle.heap_core.proofs.Things.{count_more}

-- ---- threads in the store

threads_more : (z : Store) (t : ℕ) (y : Id) → threads (z ++ new_thread z t y ∷ []) ≡ threads z ++ record { number = suc (length (threads z)); maker = t; gathered = false; end = None } ∷ []
threads_more z t y = flat_map-append (λ (x : Rattle.rb_model.specs.Private.Item). thread_in x.thing) z (new_thread z t y ∷ [])

count_append : (f : ThreadState → Bool) (xs : List ThreadState) (x : ThreadState) → f x ≡ true → count_by f (xs ++ x ∷ []) ≡ suc (count_by f xs)
count_append f [] x is = count_more f x [] ∙ ap (λ b. cond b 1 0 + 0) is
count_append f (y ∷ xs) x is = count_more f y (xs ++ x ∷ []) ∙ (ap (λ n. cond (f y) 1 0 + n) (count_append f xs x is) ∙ (move (cond (f y) 1 0) (count_by f xs) ∙ ap suc (sym (count_more f y xs))))
  where
    move : (a b : ℕ) → a + suc b ≡ suc (a + b)
    move a b = omega arith

ungathered_more : (z : Store) (t : ℕ) (y : Id) → ungathered_count (z ++ new_thread z t y ∷ []) ≡ suc (ungathered_count z)
ungathered_more z t y =
    ap (count_by (λ (s : ThreadState). not s.gathered)) (threads_more z t y)
    ∙ count_append (λ (s : ThreadState). not s.gathered) (threads z) (record { number = suc (length (threads z)); maker = t; gathered = false; end = None }) refl

-- ---- the seats, where a thread has come

module _ (slots : ℕ) (z : Store) (lines : List (Option ℕ)) (views : List Holder) (id : ℕ) (k w : Holder) (y : Id) (line : ℕ) (seated : Seated slots z lines views) (at : At views id k) (free : get_elem? lines line ≡ some None)
    (others : (i : ℕ) → get_elem? lines i ≡ some (Some (suc (length (threads z)))) → ⊥) where
  abbrev n : ℕ
  n = suc (length (threads z))

  abbrev z' : Store
  z' = z ++ new_thread z k.view.thread y ∷ []

  abbrev born : ThreadState
  born = record { number = n; maker = k.view.thread; gathered = false; end = None }

  abbrev lines' : List (Option ℕ)
  lines' = set lines line (Some n)

  within : line < length lines
  within = at_within lines line None free

  -- a line that is taken is not the free one
  taken_else : (i m : ℕ) → get_elem? lines i ≡ some (Some m) → i ≢ line
  taken_else i m is same = absurd (let h : some (Some m) ≡ some None = sym is ∙ (ap (get_elem? lines) same ∙ free) in cc)

  keeps_line : (i m : ℕ) → get_elem? lines i ≡ some (Some m) → get_elem? lines' i ≡ some (Some m)
  keeps_line i m is = set_else lines line i (Some n) (taken_else i m is) ∙ is

  still : (m : ℕ) → IsUngathered z m → IsUngathered z' m
  still m u = (u.0, subst (λ l. Has l u.0) (sym (threads_more z k.view.thread y)) (has_front (threads z) (born ∷ []) u.0 u.1), u.2, u.3)

  number_is : (a b : ℕ) → Some a ≡ Some b → a ≡ b
  number_is a b e = cc

  pub seated_start : w.live ≡ k.live → w.line ≡ k.line → w.view.thread ≡ k.view.thread → w.view.unsplit ≡ Some n → w.due ≡ line → Seated slots z' lines' (set views id w)
  seated_start live same thread unsplit due = record {
    long = length-set lines line (Some n) ∙ seated.long;
    main = keeps_line 0 0 seated.main;
    taken = λ i m a. ⊎_elim
        (λ (here : (i ≡ line) × (Some n ≡ Some m)). inr (born, subst (λ l. Has l born) (sym (threads_more z k.view.thread y)) (has_behind (threads z) (born ∷ []) born (inl refl)), number_is n m here.1, refl))
        (λ (far : (i ≢ line) × (get_elem? lines i ≡ some (Some m))). ⊎_elim (λ e. inl e) (λ (u : IsUngathered z m). inr (still m u)) (seated.taken i m far.1))
        (at_set lines line i (Some n) (Some m) a);
    all = λ m u. ⊎_elim
        (λ (old : Has (threads z) u.0). let p = seated.all m (u.0, old, u.2, u.3) in (p.0, keeps_line p.0 m p.1))
        (λ (new : Has (born ∷ []) u.0). (line, set_here lines line (Some n) within ∙ ap (λ x. some (Some x)) (new_number u.0 new ∙ u.2)))
        (has_either (threads z) (born ∷ []) u.0 (subst (λ l. Has l u.0) (threads_more z k.view.thread y) u.1));
    count = taken_set lines line n free ∙ ap suc (seated.count ∙ sym (ungathered_more z k.view.thread y));
    once = λ i j m a b. ⊎_elim
        (λ (here : (i ≡ line) × (Some n ≡ Some m)). ⊎_elim
        (λ (also : (j ≡ line) × (Some n ≡ Some m)). here.0 ∙ sym also.0)
        (λ (far : (j ≢ line) × (get_elem? lines j ≡ some (Some m))). absurd (others j (far.1 ∙ ap some (sym here.1))))
        (at_set lines line j (Some n) (Some m) b))
        (λ (far : (i ≢ line) × (get_elem? lines i ≡ some (Some m))). ⊎_elim
        (λ (here : (j ≡ line) × (Some n ≡ Some m)). absurd (others i (far.1 ∙ ap some (sym here.1))))
        (λ (also : (j ≢ line) × (get_elem? lines j ≡ some (Some m))). seated.once i j m far.1 also.1)
        (at_set lines line j (Some n) (Some m) b))
        (at_set lines line i (Some n) (Some m) a);
    mine = each_set (λ j u. u.live ≡ true → get_elem? lines' u.line ≡ some (Some u.view.thread)) views id w
        (λ l. ap (get_elem? lines') same ∙ (keeps_line k.line k.view.thread (seated.mine id k at (sym live ∙ l)) ∙ ap (λ x. some (Some x)) (sym thread)))
        (λ j u _ a l. keeps_line u.line u.view.thread (seated.mine j u a l));
    due = λ j m u a. each_set (λ j u. u.live ≡ true → u.view.unsplit ≡ Some m → get_elem? lines' u.due ≡ some (Some m)) views id w
        (λ _ is. ap (get_elem? lines') due ∙ (set_here lines line (Some n) within ∙ ap some (sym unsplit ∙ is)))
        (λ j u _ a l is. keeps_line u.due m (seated.due j m u a l is)) j u a;
  }
    where
      new_number : (u : ThreadState) → Has (born ∷ []) u → n ≡ u.number
      new_number u (inl e) = ap (λ (x : ThreadState). x.number) (sym e)
      new_number u (inr h) = absurd h
