-- What texts say, one behind the other.
use Rattle.std.proofs.Common.{◌≡◌, List, [], ◌++◌, sym, ap, ◌∙◌, subst}
use Rattle.std.specs.Prelude.{map}
use Rattle.std.proofs.lemmas.List.{map-append}
use Rattle.rb_grammar.specs.Tree.{Word, Thread, texts}
use Rattle.rb_builder.specs.Walk.{Walk, gathering, numbering}
use Rattle.rb_builder.specs.declared.said.Said.{Said}
use Rattle.rb_builder.specs.Said.{text_given, IsSaid, Joined}

-- what two texts say that stand one behind the other
pub said-joined : (w : Walk) (a b both : Said) (names more : List Word) (threads others : List Thread)
    → IsSaid w a names threads → IsSaid w b more others → Joined a b both → IsSaid w both (names ++ more) (threads ++ others)
said-joined gathering a b both names more threads others h k j = (
  ap (map text_given) j.words ∙ map-append text_given a.words b.words ∙ ap (λ x. x ++ map text_given b.words) h.0 ∙ ap (λ x. texts names ++ x) k.0 ∙ sym (map-append (λ u. u.text) names more),
  j.threads ∙ ap (λ x. x ++ b.threads) h.1 ∙ ap (λ x. map (λ t. t.at.from) threads ++ x) k.1 ∙ sym (map-append (λ t. t.at.from) threads others),
)
said-joined (numbering n) a b both names more threads others h k j =
    j.bodies ∙ ap (λ x. x ++ b.bodies) h ∙ ap (λ x. map (λ t. t.block n) threads ++ x) k ∙ sym (map-append (λ t. t.block n) threads others)

-- nothing is said
pub said_nothing : (w : Walk) (a : Said) → a.words ≡ [] → a.threads ≡ [] → a.bodies ≡ [] → IsSaid w a [] []
said_nothing gathering a words threads bodies = (ap (map text_given) words, threads)
said_nothing (numbering n) a words threads bodies = bodies

-- the same names and threads
pub said_same : (w : Walk) (s : Said) {names more : List Word} {threads others : List Thread} → names ≡ more → threads ≡ others → IsSaid w s names threads → IsSaid w s more others
said_same w s {names = names} {others = others} e f h = subst (λ x. IsSaid w s x others) e (subst (λ x. IsSaid w s names x) f h)
