-- The bodies of threads, and the slots of what they capture.
use Rattle.std.proofs.Common.{◌≡◌, ℕ, zero, suc, true, List, [], ◌∷◌, ◌++◌, length, map, Some, refl, sym, ap, subst, ◌∙◌}
use Rattle.std.specs.Prelude.{slice_get}
use Rattle.std.proofs.lemmas.Option.{same_Some}
use Rattle.rb_tree.specs.declared.span.Span.{Span}
use Rattle.rb_tree.specs.declared.span.NameId.{NameId}
use Rattle.rb_tree.specs.declared.node.Block.{Block}
use Rattle.rb_tree.specs.declared.node.Node.{Node}
use Rattle.rb_tree.specs.declared.node.Param.{Param}
use Rattle.rb_machine.specs.Scopes.{Script}
use Rattle.rb_code.specs.declared.code.Code.{Code}
use Rattle.rb_code.specs.declared.code.Code.TheVariants as is
use Rattle.rb_code.specs.Layout.{has_slot, have_slots}
use Rattle.rb_code.specs.Resolved.{every, fits}
use Rattle.rb_code.proofs.Dispatched.{conjunction, conjunction_rest}
use Rattle.rb_code.proofs.Fitting.{fits-start}
use Rattle.rb_resolver.proofs.Numbered.{both}

-- slots of names, with one more
slots_pushed : (names ns : List NameId) (slots : List ℕ) (n : NameId) (slot : ℕ) → have_slots ns names slots ≡ true → has_slot n names slot ≡ true → have_slots (ns ++ n ∷ []) names (slots ++ slot ∷ []) ≡ true
slots_pushed names [] [] n slot h s = both _ _ s refl
slots_pushed names [] (t ∷ slots) n slot h s = absurd (cc)
slots_pushed names (m ∷ ns) [] n slot h s = absurd (cc)
slots_pushed names (m ∷ ns) (t ∷ slots) n slot h s = both _ _ (conjunction _ _ h) (slots_pushed names ns slots n slot (conjunction_rest _ _ h) s)

pub slots_next : (names ns more : List NameId) (slots new : List ℕ) (n : NameId) (slot : ℕ) → more ≡ ns ++ n ∷ [] → new ≡ slots ++ slot ∷ [] → have_slots ns names slots ≡ true → has_slot n names slot ≡ true
    → have_slots more names new ≡ true
slots_next names ns more slots new n slot is pushed h s = ap (λ ms. have_slots ms names new) is ∙ ap (have_slots (ns ++ n ∷ []) names) pushed ∙ slots_pushed names ns slots n slot h s

-- the start of a thread is right, where the slots are those of what it captures
pub start_fits : (S : Script) (names captured : List NameId) (size : ℕ) (args : List Code) (body : ℕ) (slots : List ℕ) (at : Span) → captured ≡ S.captured_names body → have_slots captured names slots ≡ true
    → every (map (fits S) args) names size ≡ true → fits S (is.Start args body slots at) names size ≡ true
start_fits S names captured size args body slots at is h a =
    fits-start S names size args body slots at ∙ both _ _ (ap (λ ns. have_slots ns names slots) (sym is) ∙ h) a

-- a block, by its parts
abbrev block_with : List Param → List Node → Span → Block
block_with params body at = record { params = params; body = body; at = at }

pub block_is : (source : Block) (params : List Param) (body : List Node) → params ≡ source.params → body ≡ source.body → block_with params body source.at ≡ source
block_is source params body p b = ap (λ ps. block_with ps body source.at) p ∙ ap (λ ns. block_with source.params ns source.at) b

-- what is so of each element by its number, with one more
each_more : {A : Type 0} (P : ℕ → A → Type 0) (xs : List A) (x : A) → ((n : ℕ) (y : A) → slice_get xs n ≡ Some y → P n y) → P (length xs) x → (n : ℕ) (y : A) → slice_get (xs ++ x ∷ []) n ≡ Some y → P n y
each_more P [] x each last zero y at = subst (P 0) (same_Some _ _ at) last
each_more P [] x each last (suc n) y at = absurd (cc)
each_more P (z ∷ xs) x each last zero y at = each 0 y at
each_more P (z ∷ xs) x each last (suc n) y at = each_more (λ m. P (suc m)) xs x (λ m w h. each (suc m) w h) last n y at

pub each_pushed : {A : Type 0} (P : ℕ → A → Type 0) (xs new : List A) (x : A) (i number : ℕ) → new ≡ xs ++ x ∷ [] → length xs ≡ i → number ≡ i
    → ((n : ℕ) (y : A) → slice_get xs n ≡ Some y → P n y) → P number x → (n : ℕ) (y : A) → slice_get new n ≡ Some y → P n y
each_pushed P xs new x i number is count here each last n y at =
    each_more P xs x each (subst (λ m. P m x) (here ∙ sym count) last) n y (ap (λ l. slice_get l n) (sym is) ∙ at)

pub none_there : {A : Type 0} (xs : List A) (n : ℕ) (y : A) → xs ≡ [] → slice_get xs n ≡ Some y → ⊥
none_there {A = A} xs n y is at = let e : slice_get {X = A} [] n ≡ Some y = ap (λ l. slice_get l n) (sym is) ∙ at in cc
