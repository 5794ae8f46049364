-- The names that locals make known, with one more local behind them.
use Rattle.std.proofs.Common.{◌≡◌, ℕ, ◌+◌, ◌<◌, List, [], ◌∷◌, ◌++◌, Option, map, length, take, get_or, refl, sym, ap, subst, ◌∙◌, append_assoc, append-nil}
use Rattle.std.specs.List.{flat_map}
use Rattle.std.proofs.lemmas.Grind.{flat_map-append}
use Rattle.std.proofs.lemmas.List.{take_more, map-append, flat_map_more}
use Rattle.std.specs.Prelude.{unwrap_or, nat_eq}
use Rattle.std.specs.HashMap.{HashMap}
use Rattle.std.specs.Map.{lookup}
use Rattle.std.specs.declared.hash.FoldHasher.{FoldHasher}
use Rattle.std.specs.declared.hash.BuildHasherDefault.{BuildHasherDefault}
use Rattle.rb_tree.specs.declared.span.NameId.{NameId}
use Rattle.rb_checker.specs.declared.locals.Local.{Local}
use Rattle.rb_checker.specs.Locals.{Use}
use Rattle.rb_checker.specs.Walked.{Locals, Knows}
use Rattle.rb_checker.specs.Scoped.{made_by, made_in, new_name, names_behind, names_at}

-- the locals that stand before the next one, the last first
abbrev pub made_before : List Local → List Local → List Local
made_before before [] = before
made_before before (l ∷ more) = made_before (l ∷ before) more

pub made_before-more : (before ls : List Local) (l : Local) → made_before before (ls ++ l ∷ []) ≡ l ∷ made_before before ls
made_before-more before [] l = refl
made_before-more before (k ∷ ls) l = made_before-more (k ∷ before) ls l

pub names_behind-more : (before : List Local) (scope : Option ℕ) (ls : List Local) (l : Local)
    → names_behind before scope (ls ++ l ∷ []) ≡ names_behind before scope ls ++ new_name (made_before before ls) scope l
names_behind-more before scope [] l = append-nil (new_name before scope l)
names_behind-more before scope (k ∷ ls) l =
    ap (λ ns. new_name before scope k ++ ns) (names_behind-more (k ∷ before) scope ls l)
    ∙ sym (append_assoc (new_name before scope k) (names_behind (k ∷ before) scope ls) (new_name (made_before (k ∷ before) ls) scope l))

-- the names of locals, by those of the locals before the last
pub names_next : (scope : Option ℕ) (ls more : List Local) (l : Local) (old new : List NameId) → more ≡ ls ++ l ∷ []
    → old ≡ names_behind [] scope ls → new ≡ old ++ new_name (made_before [] ls) scope l → new ≡ names_behind [] scope more
names_next scope ls more l old new is o n =
    n ∙ ap (λ ns. ns ++ new_name (made_before [] ls) scope l) o ∙ sym (names_behind-more [] scope ls l) ∙ sym (ap (names_behind [] scope) is)

pub made_in-more : (us vs : List Use) → made_in (us ++ vs) ≡ made_in us ++ made_in vs
made_in-more us vs = flat_map-append made_by us vs

-- the locals that uses make, by those that the uses before the last make
pub made_next : (us vs more : List Use) (old new : List Local) → more ≡ us ++ vs → old ≡ made_in us → new ≡ old ++ made_in vs → new ≡ made_in more
made_next us vs more old new is o n = n ∙ ap (λ ls. ls ++ made_in vs) o ∙ sym (made_in-more us vs) ∙ sym (ap made_in is)

pub next_is : {A : Type 0} (xs : List A) (i : ℕ) (x : A) → i < length xs → x ≡ get_or xs i x → take (i + 1) xs ≡ take i xs ++ x ∷ []
next_is xs i x h is = take_more xs i x h ∙ ap (λ y. take i xs ++ y ∷ []) (sym is)

-- no local stands before the first
pub knows_next : (known : Locals) (ls more : List Local) (l : Local) → more ≡ ls ++ l ∷ [] → Knows known (l ∷ made_before [] ls) → Knows known (made_before [] more)
knows_next known ls more l is h = subst (Knows known) (sym (made_before-more [] ls l) ∙ sym (ap (made_before []) is)) h

-- what is made of the elements of a list, by what is made of those before the last
pub flat_map_next : {A B : Type 0} (f : A → List B) (xs more : List A) (x : A) (start old new : List B) → more ≡ xs ++ x ∷ [] → old ≡ start ++ flat_map f xs → new ≡ old ++ f x → new ≡ start ++ flat_map f more
flat_map_next f xs more x start old new is o n =
    n ∙ ap (λ l. l ++ f x) o ∙ flat_map_more f start xs x ∙ sym (ap (λ l. start ++ flat_map f l) is)

pub map_next : {A B : Type 0} (f : A → B) (xs more : List A) (x : A) (old new : List B) → more ≡ xs ++ x ∷ [] → old ≡ map f xs → new ≡ old ++ f x ∷ [] → new ≡ map f more
map_next f xs more x old new is o n = n ∙ ap (λ l. l ++ f x ∷ []) o ∙ sym (map-append f xs (x ∷ [])) ∙ sym (ap (map f) is)

pub none_at : (table : HashMap ℕ (List NameId) (BuildHasherDefault FoldHasher)) (place : ℕ) → table.entries ≡ [] → names_at table place ≡ []
none_at table place is = ap (λ es. unwrap_or (lookup (nat_eq place) es) []) is
