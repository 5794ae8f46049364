-- Texts of objects.
use Rattle.std.proofs.Common.{◌≡◌, ◌<◌, ℕ, true, false, cond, ◌++◌, Some, None, length, arith, refl, ap, ◌∙◌}
use Rattle.std.specs.Prelude.{nat_eq, nat_lt, slice_get, codes}
use Rattle.std.proofs.lemmas.Bool.Decides.{nat_tests}
use Rattle.rb_tree.specs.declared.node.Class.{Class}
use Rattle.rb_tree.specs.declared.node.Method.{Method}
use Rattle.rb_model.specs.declared.value.Sort.TheVariants as sort
use Rattle.rb_model.specs.Values.{Value, Nil, False, True, Int, Sym, Str, To, Reference}
use Rattle.rb_machine.specs.Scopes.{Script}
use Rattle.rb_machine.specs.Control.{On, Give, Drafting, Inspected}
use Rattle.rb_machine.specs.Drafts.{is_collection_sort, draft_of}
use Rattle.rb_machine.specs.Texts.{max_bytes, line_of, class_text, told, shown}
use Rattle.rb_machine.specs.Call.{text_answered, without_parameters, text_by}
use Rattle.rb_machine.specs.Laws.{TextsAreWanted, ToSIsAsked, StringsAreTexts, OthersAreTold, name_told, is_string}

pub texts_are_wanted : TextsAreWanted
texts_are_wanted S v vs bytes pieces at k sc d left = (refl, λ no_array. rw no_array refl, refl)

pub to_s_is_asked : ToSIsAsked
to_s_is_asked S object m at k sc d left some none =
    let no_params : nat_eq (length m.params) 0 ≡ true = grind (arith, nat_tests, none) in
    let as_many : nat_eq 0 (length m.params) ≡ true = grind (arith, nat_tests, none) in
    (rw (some, no_params, as_many) refl, λ v inner deep less. (refl, refl))

pub strings_are_texts : StringsAreTexts
strings_are_texts S object text bytes pieces vs at k sc d left = (
  refl,
  λ fits. let short : nat_lt max_bytes (length (bytes ++ text)) ≡ false = grind (arith, nat_tests, fits) in rw short refl,
  λ long. let grown : nat_lt max_bytes (length (bytes ++ text)) ≡ true = grind (arith, nat_tests, long) in rw grown refl,
  λ fits. let short : nat_lt max_bytes (length (bytes ++ line_of text)) ≡ false = grind (arith, nat_tests, fits) in rw short refl,
  λ long. let grown : nat_lt max_bytes (length (bytes ++ line_of text)) ≡ true = grind (arith, nat_tests, long) in rw grown refl,
)

-- an object is told by the name of its class
told_is : (S : Script) (object : Reference) (number : ℕ) (class : Class) → object.sort ≡ sort.Object number → slice_get S.program.classes number ≡ Some class
    → shown S.program (To object) ≡ name_told S class
told_is S object number class e f = ap (told S.program) e ∙ ap (λ c. codes "#<" ++ class_text S.program c ++ codes ">") f

-- an answer that is no string is not used
not_answered : (S : Script) (object v : Value) → is_string v ≡ false → text_answered S object v ≡ Str (shown S.program object)
not_answered S object Nil e = refl
not_answered S object False e = refl
not_answered S object True e = refl
not_answered S object (Int n) e = refl
not_answered S object (Sym name) e = refl
not_answered S object (Str bytes) e = absurd (cc)
not_answered S object (To thing) e = refl

with_parameters : (S : Script) (m : Method) → 0 < length m.params → without_parameters S (Some m) ≡ None
with_parameters S m some = let more : nat_eq (length m.params) 0 ≡ false = grind (arith, nat_tests, some) in ap (λ t. cond t (Some m) None) more

pub others_are_told : OthersAreTold
others_are_told S object number class at k sc d left e f = (
  λ v no_string. ap (λ w. On (Give w) k sc d left) (not_answered S (To object) v no_string) ∙ ap (λ t. On (Give (Str t)) k sc d left) named,
  λ none. ap (λ m. text_by S (without_parameters S m) (To object) at k sc d left) none ∙ told_at_once,
  λ m some params.
      ap (λ m. text_by S (without_parameters S m) (To object) at k sc d left) some
      ∙ (ap (λ m. text_by S m (To object) at k sc d left) (with_parameters S m params) ∙ told_at_once),
)
  where
    named : shown S.program (To object) ≡ name_told S class
    named = told_is S object number class e f

    no_collection : is_collection_sort object.sort ≡ false
    no_collection = ap is_collection_sort e

    told_at_once : text_by S None (To object) at k sc d left ≡ On (Give (Str (name_told S class))) k sc d left
    told_at_once =
        ap (λ t. cond t (On (Drafting (draft_of Inspected (To object)) at) k sc d left) (On (Give (Str (shown S.program (To object)))) k sc d left)) no_collection
        ∙ ap (λ t. On (Give (Str t)) k sc d left) named
