-- Texts of collections: how the machine goes on with them, and that there is less and less to do.
use Rattle.std.proofs.Common.{◌≡◌, ℕ, suc, ◌+◌, ◌-◌, ◌<◌, ◌≤◌, Bool, true, false, cond, List, [], ◌∷◌, ◌++◌, length, Option, Some, None, refl, sym, ap, ◌∙◌, subst, arith}
use Rattle.std.proofs.lemmas.Bool.Decides.{nat_tests}
use Rattle.std.specs.Prelude.{nat_lt, nat_le, codes, Result, Ok, Err, OnOk}
use Rattle.rb_tree.specs.declared.span.Span.{Span}
use Rattle.rb_tree.specs.declared.node.Program.{Program}
use Rattle.rb_model.specs.declared.fault.Fault.TheVariants.{TextTooLong, TooDeep}
use Rattle.rb_model.specs.Values.{Value as Val, Str, To, Reference}
use Rattle.rb_model.specs.Acts.{Reply}
use Rattle.rb_model.specs.Acts as reply
use Rattle.rb_model.specs.declared.value.Value.{Value as Held}
use Rattle.rb_model.specs.Ends.{End}
use Rattle.rb_model.specs.Ends as ending
use Rattle.rb_model.specs.Log.{Log}
use Rattle.rb_model.specs.Private.{Private}
use Rattle.rb_machine.specs.Scopes.{Script, Scope, Text}
use Rattle.rb_machine.specs.Control.{State, On, Cont, Then, WriteBehind, Inspecting, Give, Drafting, Reading, Form, Inspected, Lined, Open, OfArray, OfHash, Coming, Between, OfValue, OfPair, Draft, ForText, Under, LineOf}
use Rattle.rb_machine.specs.Texts.{max_bytes, inspected, line_of}
use Rattle.rb_machine.specs.Drafts.{is_collection, draft_of, Needs, Goes, Finished, Element, Copies, Asks, joined, needs, inspects, lines, collection, is_open, again, closing, is_collection_sort, is_list_sort, empty_lines, lead_of, opened, opened_array, with_line}
use Rattle.rb_machine.specs.Call.{ended, raised, going, start_element, drafted, bytes_of, write, write_behind, give_text}
use Rattle.rb_machine.proofs.Printing.{behind_fits, behind_long}
use Rattle.rb_machine.specs.Move.{Go, used, left_in}
use Rattle.rb_machine.specs.Follows.{At}
use Rattle.rb_render.specs.declared.show.RenderFault.{RenderFault}
use Rattle.rb_render.specs.declared.show.RenderFault.TheVariants as fault
use Rattle.rb_render.specs.declared.draft.Want.{Want}
use Rattle.rb_render.specs.declared.draft.Want.TheVariants as want
use Rattle.rb_walk.specs.declared.came.Came.{Came as Registers}
use Rattle.rb_walk.specs.declared.came.Came.TheVariants as came
use Rattle.rb_walk.specs.declared.came.Leave.{Leave}
use Rattle.rb_walk.specs.Outcome.{Outcome, Gave, Over, Came, is_left, outcome}
use Rattle.rb_walk.specs.Answers.{OrMemory}
use Rattle.rb_walk.specs.Collections.{ReadsTo, coming_work, work_of, text_end, is_finished}
use Rattle.rb_walk.proofs.Moves.{on, same}
use Rattle.rb_walk.proofs.Calls.{or_memory}

-- ---- the machine goes on with a text

module _ (S : Script) (N : ℕ) (start : State) (h : Private) (l : Log) (program : Program) (t : Draft) (at : Span) (k : List Cont) (sc : Scope) (d n : ℕ) (p : S.program ≡ program) where
  -- by what it needs next
  by_need : (need : Needs) → needs program t ≡ need → At S N start l h (On (Drafting t at) k sc d n) → At S N start l h (drafted S need at k sc d n)
  by_need need e a = on _ a (ap (λ x. Go (drafted S x at k sc d n)) (ap (λ q. needs q t) p ∙ e))

  pub text_goes : (new : Draft) → needs program t ≡ Goes (Some new) → At S N start l h (On (Drafting t at) k sc d n) → At S N start l h (On (Drafting new at) k sc d n)
  text_goes new e a = by_need (Goes (Some new)) e a

  -- no text comes of it
  pub text_ends : (f : RenderFault) → (f ≡ fault.TooLong → needs program t ≡ Goes None) → At S N start l h (On (Drafting t at) k sc d n) → Came S N start l h (text_end f at) k sc d n
  text_ends fault.TooLong e a = by_need (Goes None) (e refl) a
  text_ends fault.Memory e a = (On (Drafting t at) k sc d n, a, refl)

  -- it is given
  pub text_given : (text : Text) (o : Outcome) → needs program t ≡ Finished text → OrMemory (Gave (Str text)) o → At S N start l h (On (Drafting t at) k sc d n) → Came S N start l h o k sc d n
  text_given text o e m a =
      let b = by_need (Finished text) e a in
      or_memory S N start h l k sc d n (Gave (Str text)) o (On (Give (Str text)) k sc d n) m b refl b

  -- a value is asked for its text, which is a line
  pub text_asked : (v : Val) (new : Draft) → needs program t ≡ Asks v new → At S N start l h (On (Drafting t at) k sc d n) → At S N start l h (give_text S v at (Under d ∷ Then (LineOf new at) ∷ k) sc (d + length new.begun) n)
  text_asked v new e a = by_need (Asks v new) e a

  -- an element begins, where a step is left
  pub no_step : (new : Draft) → needs program t ≡ Element new → n ≡ 0 → At S N start l h (On (Drafting t at) k sc d n) → At S N start l h (ended ending.Steps n)
  no_step new e z a = same (by_need (Element new) e a) (ap (start_element new at k sc d) z ∙ ap (ended ending.Steps) (sym z))

  pub element_begun : (new : Draft) → needs program t ≡ Element new → 0 < n → At S N start l h (On (Drafting t at) k sc d n) → At S N start l h (On (Drafting new at) k sc d (n - 1))
  element_begun new e q a =
      let f : n ≡ suc (n - 1) = omega arith in
      same (by_need (Element new) e a) (ap (start_element new at k sc d) f)

  -- a collection is read, where there are not too many
  pub reads : (thing : Reference) (new : Draft) → needs program t ≡ Copies thing new → d + length new.begun < 1000 → At S N start l h (On (Drafting t at) k sc d n) → At S N start l h (On (Reading thing (ForText new) at) k sc d n)
  reads thing new e q a =
      let f : nat_lt (d + length new.begun) 1000 ≡ true = grind (arith, nat_tests) in
      same (by_need (Copies thing new) e a) (ap (λ b. cond b (On (Reading thing (ForText new) at) k sc d n) (raised TooDeep at n)) f)

  pub too_deep : (thing : Reference) (new : Draft) → needs program t ≡ Copies thing new → 1000 ≤ d + length new.begun → At S N start l h (On (Drafting t at) k sc d n) → At S N start l h (raised TooDeep at n)
  too_deep thing new e q a =
      let f : nat_lt (d + length new.begun) 1000 ≡ false = grind (arith, nat_tests) in
      same (by_need (Copies thing new) e a) (ap (λ b. cond b (On (Reading thing (ForText new) at) k sc d n) (raised TooDeep at n)) f)

-- what a text needs that needs nothing more
pub finished_is : (w : Want) → is_finished w ≡ true → w ≡ want.Finished
finished_is want.More e = absurd (cc)
finished_is want.Finished e = refl
finished_is want.Element e = absurd (cc)
finished_is (want.Copy thing) e = absurd (cc)
finished_is (want.Text v) e = absurd (cc)

-- ---- there is less to do

-- what is left to do behind a need is less than so much, but for an element, whose step counts for the rest
abbrev Lessens : ℕ → Needs → Type 0
Lessens work (Goes None) = Unit {0}
Lessens work (Goes (Some t)) = work_of t < work
Lessens work (Finished text) = Unit {0}
Lessens work (Element t) = work_of t ≤ 3 + work
Lessens work (Copies thing t) = 1 + length t.begun < work
Lessens work (Asks v t) = 1 + length t.begun < work

needs_if : (work : ℕ) (b : Bool) (m n : Needs) → Lessens work m → Lessens work n → Lessens work (cond b m n)
needs_if work true m n p q = p
needs_if work false m n p q = q

goes_lessens : (work : ℕ) (b : Bool) (t : Draft) → work_of t < work → Lessens work (Goes (cond b (Some t) None))
goes_lessens work true t h = h
goes_lessens work false t h = tt

abbrev a_draft : Form → Coming → Text → List Open → Draft
a_draft form coming bytes begun = record { form = form; coming = coming; bytes = bytes; begun = begun }

joined_lessens : (work : ℕ) (t : Draft) (more : Text) (coming : Coming) (begun : List Open) → coming_work coming + length begun < work → Lessens work (Goes (joined t more coming begun))
joined_lessens work t more coming begun h = goes_lessens work (nat_le (length (t.bytes ++ more)) max_bytes) (a_draft t.form coming (t.bytes ++ more) begun) h

collection_lessens : (work : ℕ) (t : Draft) (lead : Text) (thing : Reference) → 1 + length t.begun < work → Lessens work (collection t lead thing)
collection_lessens work t lead thing h =
    needs_if work (is_open thing t.begun) _ _ (joined_lessens work t (lead ++ again t.form thing.sort) Between t.begun (omega (arith, h))) h

module _ (program : Program) where
  inspects_lessens : (work : ℕ) (t : Draft) (lead : Text) (v : Val) → 1 + length t.begun < work → Lessens work (inspects program t lead v)
  inspects_lessens work t lead (To thing) h =
      needs_if work (is_collection_sort thing.sort) _ _ (collection_lessens work t lead thing h) (joined_lessens work t (lead ++ inspected program (To thing)) Between t.begun (omega (arith, h)))
  inspects_lessens work t lead v h = joined_lessens work t (lead ++ inspected program v) Between t.begun (omega (arith, h))

  lines_lessens : (work : ℕ) (t : Draft) (lead : Text) (v : Val) → 1 + length t.begun < work → Lessens work (lines program t lead v)
  lines_lessens work t lead (To thing) h = needs_if work (is_list_sort thing.sort) _ _ (collection_lessens work t lead thing h) h
  lines_lessens work t lead v h = h

  between_lessens : (form : Form) (bytes : Text) (begun : List Open) → Lessens (0 + length begun) (needs program (a_draft form Between bytes begun))
  between_lessens form bytes [] = tt
  between_lessens form bytes (OfArray array lead [] ∷ begun) = joined_lessens _ (a_draft form Between bytes (OfArray array lead [] ∷ begun)) (closing form) Between begun (omega arith)
  between_lessens form bytes (OfArray array lead (v ∷ vs) ∷ begun) = omega arith
  between_lessens form bytes (OfHash hash lead [] ∷ begun) = joined_lessens _ (a_draft form Between bytes (OfHash hash lead [] ∷ begun)) (codes "}") Between begun (omega arith)
  between_lessens form bytes (OfHash hash lead (q ∷ ps) ∷ begun) = omega arith

  parts_lessen : (form : Form) (coming : Coming) (bytes : Text) (begun : List Open) → Lessens (coming_work coming + length begun) (needs program (a_draft form coming bytes begun))
  parts_lessen form Between bytes begun = between_lessens form bytes begun
  parts_lessen Inspected (OfValue lead v) bytes begun = inspects_lessens _ (a_draft Inspected (OfValue lead v) bytes begun) lead v (omega arith)
  parts_lessen Lined (OfValue lead v) bytes begun = lines_lessens _ (a_draft Lined (OfValue lead v) bytes begun) lead v (omega arith)
  parts_lessen form (OfPair lead key v) bytes begun = joined_lessens _ (a_draft form (OfPair lead key v) bytes begun) (lead ++ inspected program key ++ codes "=>") (OfValue [] v) begun (omega arith)

  by_need_lessens : (t : Draft) (need : Needs) → needs program t ≡ need → Lessens (work_of t) need
  by_need_lessens t need e = subst (Lessens (work_of t)) e (parts_lessen t.form t.coming t.bytes t.begun)

  pub goes_less : (t new : Draft) → needs program t ≡ Goes (Some new) → work_of new < work_of t
  goes_less t new e = by_need_lessens t (Goes (Some new)) e

  pub element_most : (t new : Draft) → needs program t ≡ Element new → work_of new ≤ 3 + work_of t
  element_most t new e = by_need_lessens t (Element new) e

  pub copies_less : (t new : Draft) (thing : Reference) → needs program t ≡ Copies thing new → 1 + length new.begun < work_of t
  copies_less t new thing e = by_need_lessens t (Copies thing new) e

  pub asks_less : (t new : Draft) (v : Val) → needs program t ≡ Asks v new → 1 + length new.begun < work_of t
  asks_less t new v e = by_need_lessens t (Asks v new) e

-- ---- what is read for a text

-- behind it there is not more to do than that
abbrev AtMost : ℕ → Option Draft → Type 0
AtMost bound None = Unit {0}
AtMost bound (Some t) = work_of t ≤ bound

some_most : (bound : ℕ) (b : Bool) (t : Draft) → work_of t ≤ bound → AtMost bound (cond b (Some t) None)
some_most bound true t h = h
some_most bound false t h = tt

joined_most : (bound : ℕ) (t : Draft) (more : Text) (begun : List Open) → 0 + length begun ≤ bound → AtMost bound (joined t more Between begun)
joined_most bound t more begun h = some_most bound (nat_le (length (t.bytes ++ more)) max_bytes) (a_draft t.form Between (t.bytes ++ more) begun) h

array_most : (form : Form) (t : Draft) (array : Reference) (vs : List Val) → AtMost (1 + length t.begun) (opened_array form t array vs)
array_most Lined t array [] = joined_most _ t (empty_lines t.begun) t.begun (omega arith)
array_most Lined t array (v ∷ vs) = omega arith
array_most Inspected t array vs = joined_most _ t (lead_of t.coming ++ codes "[") (OfArray array [] vs ∷ t.begun) (omega arith)

reply_most : (t : Draft) (thing : Reference) (r : Reply) → AtMost (1 + length t.begun) (opened t thing r)
reply_most t thing (reply.Elements vs) = array_most t.form t thing vs
reply_most t thing (reply.Pairs ps) = joined_most _ t (lead_of t.coming ++ codes "{") (OfHash thing [] ps ∷ t.begun) (omega arith)
reply_most t thing (reply.Value v) = tt
reply_most t thing reply.Done = tt
reply_most t thing (reply.Started number thread) = tt
reply_most t thing (reply.Ended e) = tt
reply_most t thing (reply.Failed f) = tt

line_most_of : (t : Draft) (text : Text) → AtMost (length t.begun) (with_line t text)
line_most_of t text = joined_most _ t (line_of text) t.begun (omega arith)

pub line_most : (t new : Draft) (text : Text) → with_line t text ≡ Some new → work_of new ≤ length t.begun
line_most t new text e = subst (AtMost (length t.begun)) e (line_most_of t text)

pub opened_most : (t new : Draft) (thing : Reference) (r : Reply) → opened t thing r ≡ Some new → work_of new ≤ 1 + length t.begun
opened_most t new thing r e = subst (AtMost (1 + length t.begun)) e (reply_most t thing r)

-- an array, and a hash
pub array_read : (t : Draft) (o : Option Draft) (thing : Reference) (vs : List Val) → opened t thing (reply.Elements vs) ≡ o → ReadsTo thing (reply.Elements vs) t (going o)
array_read t o thing vs e = λ at k sc d left. ap (λ x. going x at k sc d left) e

pub hash_read : (t : Draft) (o : Option Draft) (thing : Reference) (ps : List (Val × Val)) → opened t thing (reply.Pairs ps) ≡ o → ReadsTo thing (reply.Pairs ps) t (going o)
hash_read t o thing ps e = λ at k sc d left. ap (λ x. going x at k sc d left) e

-- what is read goes on, or no text comes of it
module _ (at : Span) (k : List Cont) (sc : Scope) (d n : ℕ) where
  going_left : (o : Option Draft) → left_in (going o at k sc d n) ≡ n
  going_left None = refl
  going_left (Some t) = refl

  ended_left : (t : Draft) (thing : Reference) (e : End) → left_in (used (ForText t) thing (reply.Ended e) at k sc d n) ≡ n
  ended_left t thing (ending.Value v) = refl
  ended_left t thing (ending.Raised f place) = refl
  ended_left t thing ending.Steps = refl
  ended_left t thing (ending.Full p q) = refl
  ended_left t thing ending.Memory = refl
  ended_left t thing ending.Sink = refl

  text_left : (t : Draft) (thing : Reference) (r : Reply) → left_in (used (ForText t) thing r at k sc d n) ≡ n
  text_left t thing (reply.Elements vs) = going_left (opened t thing (reply.Elements vs))
  text_left t thing (reply.Pairs ps) = going_left (opened t thing (reply.Pairs ps))
  text_left t thing (reply.Value v) = refl
  text_left t thing reply.Done = refl
  text_left t thing (reply.Started number thread) = refl
  text_left t thing (reply.Ended e) = ended_left t thing e
  text_left t thing (reply.Failed f) = refl

  pub read_ends : (S : Script) (N : ℕ) (start : State) (h : Private) (l : Log) (thing : Reference) (r : Reply) (t : Draft) (f : RenderFault) → (f ≡ fault.TooLong → ReadsTo thing r t (λ at k sc d left. raised TextTooLong at left))
      → At S N start l h (used (ForText t) thing r at k sc d n) → Came S N start l h (text_end f at) k sc d n
  read_ends S N start h l thing r t fault.TooLong e a = same a (e refl at k sc d n)
  read_ends S N start h l thing r t fault.Memory e a = (used (ForText t) thing r at k sc d n, a, text_left t thing r)

-- ---- how a function comes out that gives a value only where it is not left

pub over_left : (c : Registers) (v : Held) (x : Leave) (e : End) → outcome c v x ≡ Over e → is_left c ≡ true
over_left came.Left v x e p = refl
over_left came.Nil v x e p = absurd (cc)
over_left came.False v x e p = absurd (cc)
over_left came.True v x e p = absurd (cc)
over_left (came.Int i) v x e p = absurd (cc)
over_left came.Other v x e p = absurd (cc)

pub end_left : (c : Registers) (v : Held) (x : Leave) (f : RenderFault) (at : Span) → outcome c v x ≡ text_end f at → is_left c ≡ true
end_left c v x fault.TooLong at p = over_left c v x (ending.Raised TextTooLong at) p
end_left c v x fault.Memory at p = over_left c v x ending.Memory p

pub left_only : {A B : Type 0} (b : Bool) → b ≡ true → A → (b ≡ true → A) × (b ≡ false → B)
left_only true e a = (λ q. a, λ q. absurd (cc))
left_only false e a = absurd (cc)

pub on_ok : {T E A B : Type 0} (r : Result T E) → OnOk r A → (A → B) → OnOk r B
on_ok (Ok x) a f = f a
on_ok (Err e) a f = tt

-- ---- what `p` writes of a value

module _ (S : Script) (N : ℕ) (start : State) (h : Private) (l : Log) (all vs : List Val) (bytes : Text) (at : Span) (k : List Cont) (sc : Scope) (d n : ℕ) where
  abbrev behind : List Cont
  behind = Then (WriteBehind (Inspecting all) bytes vs at) ∷ k

  -- its inspected form is given, where it is not read
  pub form_given : (program : Program) (v : Val) → S.program ≡ program → is_collection v ≡ false
      → At S N start l h (write S (Inspecting all) bytes (v ∷ vs) at k sc d n) → At S N start l h (On (Give (Str (inspected program v))) (Then (WriteBehind (Inspecting all) bytes vs at) ∷ k) sc d n)
  form_given program v p e a =
      subst (λ P. At S N start l h (On (Give (Str (inspected P v))) behind sc d n)) p
      (same a (ap (λ b. cond b (On (Drafting (draft_of Inspected v) at) behind sc d n) (On (Give (Str (inspected S.program v))) behind sc d n)) e))

  -- a text is made where it is
  pub form_drafted : (v : Val) → is_collection v ≡ true
      → At S N start l h (write S (Inspecting all) bytes (v ∷ vs) at k sc d n) → At S N start l h (On (Drafting (draft_of Inspected v) at) (Then (WriteBehind (Inspecting all) bytes vs at) ∷ k) sc d n)
  form_drafted v e a = same a (ap (λ b. cond b (On (Drafting (draft_of Inspected v) at) behind sc d n) (On (Give (Str (inspected S.program v))) behind sc d n)) e)

  -- the text is written as a line, or it is too long for it
  pub line_written : (v : Val) (new : Text) → new ≡ bytes ++ (bytes_of S v ++ 10 ∷ []) → length new ≤ max_bytes
      → At S N start l h (On (Give v) (Then (WriteBehind (Inspecting all) bytes vs at) ∷ k) sc d n) → At S N start l h (write S (Inspecting all) new vs at k sc d n)
  line_written v new e q a =
      subst (λ b. At S N start l h (write S (Inspecting all) b vs at k sc d n)) (sym e)
      (same (on (write_behind S (Inspecting all) bytes (bytes_of S v) vs at k sc d n) a refl) (behind_fits S (Inspecting all) bytes (bytes_of S v) vs at k sc d n (subst (λ b. length b ≤ max_bytes) e q)))

  pub line_ends : (v : Val) (f : RenderFault) → (f ≡ fault.TooLong → max_bytes < length (bytes ++ (bytes_of S v ++ 10 ∷ [])))
      → At S N start l h (On (Give v) (Then (WriteBehind (Inspecting all) bytes vs at) ∷ k) sc d n) → Came S N start l h (text_end f at) k sc d n
  line_ends v fault.TooLong e a =
      same (on (write_behind S (Inspecting all) bytes (bytes_of S v) vs at k sc d n) a refl) (behind_long S (Inspecting all) bytes (bytes_of S v) vs at k sc d n (e refl))
  line_ends v fault.Memory e a = (On (Give v) behind sc d n, a, refl)
