-- Scopes from the outermost on, and with the innermost first.
use Rattle.std.proofs.Common.{◌≡◌, ℕ, Bool, true, false, cond, nat_lt, length, List, [], ◌∷◌, ◌++◌, Some, None, refl, ap, ◌∙◌, sym}
use Rattle.std.specs.Prelude.{is_some}
use Rattle.std.proofs.Common.{arith, true≢false}
use Rattle.std.proofs.lemmas.Bool.Decides.{nat_tests}
use Rattle.std.specs.Option.{option_map}
use Rattle.std.specs.List.{list_any, position_or_len}
use Rattle.std.specs.Str.{bytes_eq}
use Rattle.rb_tree.specs.declared.span.NameId.{NameId}
use Rattle.rb_tree.specs.Texts.{number_of}
use Rattle.rb_grammar.specs.Scope.{Scope, is_local, leave}
use Rattle.rb_cursor.specs.declared.scope.Frame as code
use Rattle.rb_cursor.specs.Scopes.{of_kind, frame_by, scopes_within}

-- one more scope is the innermost
pub scopes_within-append : (outer : Scope) (fs : List code.Frame) (f : code.Frame) → scopes_within outer (fs ++ f ∷ []) ≡ frame_by f ∷ scopes_within outer fs
scopes_within-append outer [] f = refl
scopes_within-append outer (g ∷ fs) f = scopes_within-append (frame_by g ∷ outer) fs f

pub leave-within : (fs gs : List code.Frame) (f : code.Frame) → fs ≡ gs ++ f ∷ [] → scopes_within [] gs ≡ leave (scopes_within [] fs)
leave-within fs gs f e = sym (ap (λ x. leave (scopes_within [] x)) e ∙ ap leave (scopes_within-append [] gs f))

pub ruleset scope_steps = (scopes_within-append, leave-within)

-- a text has a number among the names exactly where one of them is this text
first_or_later : (p : List ℕ → Bool) (x : List ℕ) (xs : List (List ℕ)) (b : Bool) → p x ≡ b → nat_lt (position_or_len p xs) (length xs) ≡ list_any p xs
    → nat_lt (position_or_len p (x ∷ xs)) (length (x ∷ xs)) ≡ list_any p (x ∷ xs)
first_or_later p x xs true h rest = rw h (grind (arith, nat_tests))
first_or_later p x xs false h rest = rw h (grind (arith, nat_tests, rest))

pub is_found : (p : List ℕ → Bool) (names : List (List ℕ)) → nat_lt (position_or_len p names) (length names) ≡ list_any p names
is_found p [] = refl
is_found p (x ∷ xs) = first_or_later p x xs (p x) refl (is_found p xs)

abbrev numbered : ℕ → NameId
numbered n = record { 0 = n }

is_some-position : (b : Bool) (n : ℕ) → is_some (option_map numbered (cond b (Some n) None)) ≡ b
is_some-position true n = refl
is_some-position false n = refl

pub is_some-number_of : (text : List ℕ) (names : List (List ℕ)) → is_some (number_of text names) ≡ list_any (bytes_eq text) names
is_some-number_of text names = is_some-position _ _ ∙ is_found (bytes_eq text) names

pub is_local-within : (frames outer : List code.Frame) (inner : code.Frame) (text : List ℕ) → frames ≡ outer ++ inner ∷ []
    → is_local text (scopes_within [] frames) ≡ is_local text (frame_by inner ∷ scopes_within [] outer)
is_local-within frames outer inner text e = ap (λ x. is_local text (scopes_within [] x)) e ∙ ap (is_local text) (scopes_within-append [] outer inner)

-- where the innermost scope is of this kind, with these names
in_frame : (m : Bool) (names : List (List ℕ)) (outer : Scope) (text : List ℕ) → list_any (bytes_eq text) names ≡ true → is_local text (of_kind m names ∷ outer) ≡ true
in_frame true names outer text h = h
in_frame false names outer text h = rw h refl

round_block : (m : Bool) (names : List (List ℕ)) (outer : Scope) (text : List ℕ) → m ≡ false → list_any (bytes_eq text) names ≡ false
    → is_local text (of_kind m names ∷ outer) ≡ is_local text outer
round_block true names outer text e h = absurd (true≢false e)
round_block false names outer text e h = rw h refl

not_in_method : (m : Bool) (names : List (List ℕ)) (outer : Scope) (text : List ℕ) → m ≡ true → list_any (bytes_eq text) names ≡ false
    → is_local text (of_kind m names ∷ outer) ≡ false
not_in_method true names outer text e h = h
not_in_method false names outer text e h = absurd (true≢false (sym e))

-- a name is a local of the innermost scope
pub local_here : (frames outer : List code.Frame) (inner : code.Frame) (text : List ℕ) → frames ≡ outer ++ inner ∷ []
    → list_any (bytes_eq text) inner.names ≡ true → is_local text (scopes_within [] frames) ≡ true
local_here frames outer inner text e h = is_local-within frames outer inner text e ∙ in_frame inner.is_method inner.names _ text h

-- or of one round it
pub local_round : (frames outer : List code.Frame) (inner : code.Frame) (text : List ℕ) → frames ≡ outer ++ inner ∷ []
    → inner.is_method ≡ false → list_any (bytes_eq text) inner.names ≡ false → is_local text (scopes_within [] frames) ≡ is_local text (scopes_within [] outer)
local_round frames outer inner text e m h = is_local-within frames outer inner text e ∙ round_block inner.is_method inner.names _ text m h

-- or of none
pub local_nowhere : (frames outer : List code.Frame) (inner : code.Frame) (text : List ℕ) → frames ≡ outer ++ inner ∷ []
    → inner.is_method ≡ true → list_any (bytes_eq text) inner.names ≡ false → is_local text (scopes_within [] frames) ≡ false
local_nowhere frames outer inner text e m h = is_local-within frames outer inner text e ∙ not_in_method inner.is_method inner.names _ text m h
