-- The collections that are begun, of which the code keeps the innermost last.
use Rattle.std.proofs.Common.{◌≡◌, ℕ, ◌+◌, ◌||◌, List, [], ◌∷◌, ◌++◌, map, reverse, take, length, get_or, slice_set, Some, refl, sym, ap, ◌∙◌, arith}
use Rattle.std.proofs.lemmas.List.{map-append, reverse-append, take_more, take_all, set_at, length-take-le}
use Rattle.std.proofs.lemmas.List.Folds.{list_any-append}
use Rattle.std.proofs.Math.Bool.{or_comm, or-false}
use Rattle.std.specs.List.{list_any}
use Rattle.rb_model.specs.declared.value.Ref.{Ref}
use Rattle.rb_model.specs.Values.{Reference, same_id}
use Rattle.rb_machine.specs.Control.{Form, Open}
use Rattle.rb_machine.specs.Drafts.{is_of, is_open}
use Rattle.rb_render.specs.declared.draft.parts.Begun.{Begun}
use Rattle.rb_render.specs.declared.draft.parts.Left.{Left}
use Rattle.rb_render.specs.declared.draft.parts.Left.TheVariants as left
use Rattle.rb_render.specs.declared.draft.parts.Next.{Next}
use Rattle.rb_render.specs.declared.draft.parts.Next.TheVariants as next
use Rattle.rb_machine.specs.Scopes.{Text}
use Rattle.rb_render.specs.Drafting.{with_left, opens, open_of, reference, mark_text, Takes, GoesOn}

-- one more collection is the innermost
pub opens-push : (bs : List Begun) (b : Begun) → opens (bs ++ b ∷ []) ≡ open_of b ∷ opens bs
opens-push bs b = ap reverse (map-append open_of bs (b ∷ [])) ∙ reverse-append (map open_of bs) (open_of b ∷ [])

-- the last of some collections stands behind the others
last_is : (bs : List Begun) (n : ℕ) (b : Begun) → n + 1 ≡ length bs → get_or bs n b ≡ b → bs ≡ take n bs ++ b ∷ []
last_is bs n b counted is =
    sym (take_all (n + 1) bs (omega arith)) ∙ (take_more bs n b (omega arith) ∙ ap (λ x. take n bs ++ x ∷ []) is)

-- it is the innermost, and the others are round it
pub innermost : (bs : List Begun) (n : ℕ) (b : Begun) → n + 1 ≡ length bs → get_or bs n b ≡ b → opens bs ≡ open_of b ∷ opens (take n bs)
innermost bs n b counted is = ap opens (last_is bs n b counted is) ∙ opens-push (take n bs) b

-- and so is what is put in its place
pub innermost_set : (bs : List Begun) (n : ℕ) (b new : Begun) → n + 1 ≡ length bs → get_or bs n b ≡ b → opens (slice_set bs n new) ≡ open_of new ∷ opens (take n bs)
innermost_set bs n b new counted is =
    ap (λ xs. opens (slice_set xs n new)) (last_is bs n b counted is)
    ∙ (ap opens (set_at (take n bs) b [] new n (length-take-le n bs (omega arith))) ∙ opens-push (take n bs) new)

-- what comes next in the innermost collection is what comes next
pub goes_on : (f : Form) (os rest : List Open) (o new : Open) (n : Next) (news : List Open) → os ≡ o ∷ rest → news ≡ new ∷ rest → Takes f o n new → GoesOn f os (Some n) news
goes_on f os rest o new (next.Comes c) news is are h = λ t form. rw (is, are) (h t rest form)
goes_on f os rest o new (next.Ends m) news is are h = (rw (is, are, h.0) refl, λ t form. rw is (h.1 t rest form))

-- a collection is known by its number
is_of_left : (r : Reference) (thing : Ref) (lead : Text) (l : Left) → is_of r (with_left (reference thing) lead l) ≡ same_id r.id thing.id
is_of_left r thing lead (left.Values vs) = refl
is_of_left r thing lead (left.Pairs ps) = refl

-- it is begun where one of those that are begun has its number
pub is_open_one : (r : Ref) (bs : List Begun) → list_any (λ b. same_id r.id b.thing.id) bs ≡ is_open (reference r) (opens bs)
is_open_one r [] = refl
is_open_one r (b ∷ bs) =
    let parted : is_open (reference r) (opens (b ∷ bs)) ≡ is_open (reference r) (opens bs) || is_open (reference r) (open_of b ∷ []) =
    ap (is_open (reference r)) (reverse-append (open_of b ∷ []) (map open_of bs)) ∙ list_any-append (is_of (reference r)) (opens bs) (open_of b ∷ []) in
    let last : is_open (reference r) (open_of b ∷ []) ≡ same_id r.id b.thing.id = or-false _ ∙ is_of_left (reference r) b.thing (mark_text b.lead) b.left in
    ap (λ x. same_id r.id b.thing.id || x) (is_open_one r bs)
    ∙ (or_comm (same_id r.id b.thing.id) (is_open (reference r) (opens bs)) ∙ sym (parted ∙ ap (λ x. is_open (reference r) (opens bs) || x) last))
