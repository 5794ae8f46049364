-- What threads capture, with one more use or one more event.
use Rattle.std.proofs.Common.{◌≡◌, ℕ, List, [], ◌∷◌, ◌++◌, map, reverse, Option, Some, None, refl, sym, ap, ◌∙◌, append_assoc, append-nil}
use Rattle.std.specs.Prelude.{nat_eq}
use Rattle.std.specs.HashMap as hash
use Rattle.std.specs.List.{flat_map}
use Rattle.std.specs.Option.{option_or}
use Rattle.std.proofs.lemmas.Grind.{flat_map-append}
use Rattle.std.proofs.lemmas.List.{map-append}
use Rattle.rb_tree.specs.declared.span.NameId.{NameId}
use Rattle.rb_checker.specs.declared.event.Event.{Event}
use Rattle.rb_checker.specs.declared.locals.Used.{Used}
use Rattle.rb_checker.specs.declared.threads.Noted.{Noted}
use Rattle.rb_checker.specs.declared.walking.Walk.{Walk}
use Rattle.rb_checker.specs.Around.{Open}
use Rattle.rb_checker.specs.Captured.{captured_by, captured_in, param_by, params_in, started_by, start_in, if_started}
use Rattle.rb_checker.specs.Locals.{Use, use_of, uses_in}
use Rattle.rb_checker.specs.Scoped.{made_by, made_in}
use Rattle.rb_checker.specs.Threads.{Notes}
use Rattle.rb_checker.specs.Walked.{Walked, uses_as}
use Rattle.rb_checker.proofs.UsesMore.{known_by, uses_more}

option_or_assoc : (a b c : Option ℕ) → option_or (option_or a b) c ≡ option_or a (option_or b c)
option_or_assoc None b c = refl
option_or_assoc (Some n) b c = refl

option_or_none : (a : Option ℕ) → option_or a None ≡ a
option_or_none None = refl
option_or_none (Some n) = refl

-- where a body is started first, with one more event
start_in-more : (number : ℕ) (events : List Event) (e : Event) → start_in number (events ++ e ∷ []) ≡ option_or (start_in number events) (started_by number e.sight e.at)
start_in-more number [] e = option_or_none (started_by number e.sight e.at)
start_in-more number (f ∷ events) e =
    ap (option_or (started_by number f.sight f.at)) (start_in-more number events e)
    ∙ sym (option_or_assoc (started_by number f.sight f.at) (start_in number events) (started_by number e.sight e.at))

-- what is noted, with one more event
pub notes_next : (old new : Noted) (uses vs all : List Use) (before more : List Event) (e : Event) → Notes old uses before → all ≡ uses ++ vs → more ≡ before ++ e ∷ []
    → new.params.items ≡ old.params.items ++ params_in vs → new.captured.items ≡ old.captured.items ++ captured_in vs → new.made.items ≡ old.made.items ++ made_in vs
    → ((number : ℕ) → hash.get nat_eq new.starts number ≡ option_or (hash.get nat_eq old.starts number) (started_by number e.sight e.at))
    → Notes new all more
notes_next old new uses vs all before more e o is further params captured made starts = record {
  params = params ∙ ap (λ l. l ++ params_in vs) o.params ∙ sym (flat_map-append param_by uses vs) ∙ sym (ap params_in is);
  captured = captured ∙ ap (λ l. l ++ captured_in vs) o.captured ∙ sym (flat_map-append captured_by uses vs) ∙ sym (ap captured_in is);
  made = made ∙ ap (λ l. l ++ made_in vs) o.made ∙ sym (flat_map-append made_by uses vs) ∙ sym (ap made_in is);
  starts = λ number. starts number ∙ ap (λ s. option_or s (started_by number e.sight e.at)) (o.starts number) ∙ sym (start_in-more number before e) ∙ sym (ap (start_in number) further);
}

-- the same notes of the same lists
pub same_notes : (noted : Noted) (uses all : List Use) (before more : List Event) → all ≡ uses → more ≡ before → Notes noted uses before → Notes noted all more
same_notes noted uses all before more is same n = record {
  params = n.params ∙ sym (ap params_in is);
  captured = n.captured ∙ sym (ap captured_in is);
  made = n.made ∙ sym (ap made_in is);
  starts = λ number. n.starts number ∙ sym (ap (start_in number) same);
}

-- and those of a text, with one more event of it
pub text_next : (start old new : Noted) (walk : Walk) (round : Open) (events more : List Event) (e : Event) (used : Option Used) → more ≡ events ++ e ∷ [] → round ≡ walk.round.items → Walked walk events
    → use_of (known_by events) (reverse walk.round.items) e.sight e.at ≡ uses_as used (reverse walk.round.items) e.at
    → ((uses : List Use) (before : List Event) → Notes start uses before → Notes old (uses ++ uses_in events) (before ++ events))
    → new.params.items ≡ old.params.items ++ params_in (uses_as used (reverse round) e.at)
    → new.captured.items ≡ old.captured.items ++ captured_in (uses_as used (reverse round) e.at)
    → new.made.items ≡ old.made.items ++ made_in (uses_as used (reverse round) e.at)
    → ((number : ℕ) → hash.get nat_eq new.starts number ≡ option_or (hash.get nat_eq old.starts number) (started_by number e.sight e.at))
    → (uses : List Use) (before : List Event) → Notes start uses before → Notes new (uses ++ uses_in more) (before ++ more)
text_next start old new walk round events more e used is stands w said o params captured made starts uses before n =
    let vs = uses_as used (reverse walk.round.items) e.at in
    let here : uses_as used (reverse round) e.at ≡ vs = ap (λ (r : Open). uses_as used (reverse r) e.at) stands in
    notes_next old new (uses ++ uses_in events) vs (uses ++ uses_in more) (before ++ events) (before ++ more) e (o uses before n)
    (ap (λ us. uses ++ us) (uses_more walk events more e used is w said) ∙ sym (append_assoc uses (uses_in events) vs))
    (ap (λ es. before ++ es) is ∙ sym (append_assoc before events (e ∷ [])))
    (params ∙ ap (λ us. old.params.items ++ params_in us) here)
    (captured ∙ ap (λ us. old.captured.items ++ captured_in us) here)
    (made ∙ ap (λ us. old.made.items ++ made_in us) here)
    starts

-- lists of texts, with one more
pub one_text_more : {B : Type 0} (f : List Event → List B) (texts more : List (List Event)) (text : List Event) → more ≡ texts ++ text ∷ [] → flat_map f more ≡ flat_map f texts ++ f text
one_text_more f texts more text is = ap (flat_map f) is ∙ flat_map-append f texts (text ∷ []) ∙ ap (λ l. flat_map f texts ++ l) (append-nil (f text))

pub map_behind : {A B : Type 0} (f : A → B) (xs more : List A) (x : A) (start old new : List B) → more ≡ xs ++ x ∷ [] → old ≡ start ++ map f xs → new ≡ old ++ f x ∷ [] → new ≡ start ++ map f more
map_behind f xs more x start old new is o n =
    n ∙ ap (λ l. l ++ f x ∷ []) o ∙ append_assoc start (map f xs) (f x ∷ []) ∙ ap (λ l. start ++ l) (sym (map-append f xs (x ∷ [])) ∙ sym (ap (map f) is))

-- the same names of the same start
pub started_same : (f g : ℕ → List NameId) (o p : Option ℕ) → o ≡ p → ((place : ℕ) → f place ≡ g place) → if_started f o ≡ if_started g p
started_same f g o p is same = ap (if_started f) is ∙ by p
  where
    by : (o : Option ℕ) → if_started f o ≡ if_started g o
    by None = refl
    by (Some place) = same place
