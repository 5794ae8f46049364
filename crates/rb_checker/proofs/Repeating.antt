-- Names that are defined, one more behind others.
use Rattle.std.proofs.Common.{◌≡◌, Bool, List, [], ◌∷◌, ◌++◌, Option, sym, ap, ◌∙◌, append_assoc, append-nil}
use Rattle.std.specs.Prelude.{◌||◌}
use Rattle.std.proofs.lemmas.List.{map-append}
use Rattle.rb_tree.specs.declared.span.Span.{Span}
use Rattle.rb_tree.specs.declared.span.NameId.{NameId}
use Rattle.rb_checker.specs.declared.fault.CheckFault.{CheckFault}
use Rattle.rb_checker.specs.Names.{is_among}
use Rattle.rb_checker.specs.Fault.{first_of, first_of_two}
use Rattle.rb_checker.specs.Twice.{Defined, twice_if, twice_behind, twice, defined_names}
use Rattle.rb_checker.proofs.Firsts.{first_of-append}

twice_behind-more : (taken : NameId → Bool) (before : List NameId) (defined : Defined) (d : NameId × Span)
    → twice_behind taken before (defined ++ d ∷ []) ≡ twice_behind taken before defined ++ (twice_if (taken d.0 || is_among d.0 (before ++ defined_names defined)) d.1 ++ [])
twice_behind-more taken before [] d = ap (λ names. twice_if (taken d.0 || is_among d.0 names) d.1 ++ []) (sym (append-nil before))
twice_behind-more taken before (e ∷ defined) d =
    ap (λ es. twice_if (taken e.0 || is_among e.0 before) e.1 ++ es)
    (twice_behind-more taken (before ++ e.0 ∷ []) defined d
    ∙ ap (λ names. twice_behind taken (before ++ e.0 ∷ []) defined ++ (twice_if (taken d.0 || is_among d.0 names) d.1 ++ [])) (append_assoc before (e.0 ∷ []) (defined_names defined)))
    ∙ sym (append_assoc (twice_if (taken e.0 || is_among e.0 before) e.1) (twice_behind taken (before ++ e.0 ∷ []) defined) (twice_if (taken d.0 || is_among d.0 (before ++ e.0 ∷ defined_names defined)) d.1 ++ []))

-- the first name that is not new, with one more behind
pub first_twice : (taken : NameId → Bool) (defined more : Defined) (d : NameId × Span) (found next new : Option CheckFault) → more ≡ defined ++ d ∷ []
    → found ≡ first_of (twice taken defined) → next ≡ first_of (twice_if (taken d.0 || is_among d.0 (defined_names defined)) d.1) → new ≡ first_of_two found next
    → new ≡ first_of (twice taken more)
first_twice taken defined more d found next new e f n h =
    let last = twice_if (taken d.0 || is_among d.0 (defined_names defined)) d.1 in
    h ∙ ap (λ o. first_of_two o next) f ∙ ap (first_of_two (first_of (twice taken defined))) (n ∙ ap first_of (sym (append-nil last)))
    ∙ sym (first_of-append (twice taken defined) (last ++ [])) ∙ sym (ap first_of (ap (twice taken) e ∙ twice_behind-more taken [] defined d))

-- the names of definitions, one more behind others
pub names_behind : (defined more : Defined) (d : NameId × Span) → more ≡ defined ++ d ∷ [] → defined_names more ≡ defined_names defined ++ d.0 ∷ []
names_behind defined more d e = ap defined_names e ∙ map-append (λ (x : NameId × Span). x.0) defined (d ∷ [])
