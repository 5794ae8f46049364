-- The numbers that a first walk gathers are those of the script, and so is the program that a second walk makes.
use Rattle.std.proofs.Common.{◌≡◌, ℕ, List, [], ◌∷◌, Option, Some, None, refl, ap, ◌∙◌, subst, arith}
use Rattle.std.specs.Prelude.{nat_eq, position, unwrap_or}
use Rattle.rb_tree.specs.Texts.{number_of}
use Rattle.rb_tree.specs.declared.node.Program.{Program}
use Rattle.rb_tree.proofs.Numbering.{position-map}
use Rattle.rb_lexer.specs.declared.token.Token.{Token}
use Rattle.rb_grammar.specs.Tree.{Items, texts}
use Rattle.rb_grammar.specs.Faithful.{Each, Agree, SameScript}
use Rattle.rb_grammar.specs.Program.{in_order, id_or_first, place_or_first, numbering_of, program_of, IsProgram, max_height, max_levels}
use Rattle.rb_grammar.proofs.FaithfulScript.{script_is_faithful}
use Rattle.rb_grammar.proofs.Whole.{one_script}
use Rattle.rb_builder.specs.Walk.{gathering, numbering}
use Rattle.rb_builder.specs.Script.{AreItems}
use Rattle.rb_builder.specs.Numbers.{numbers_of}
use Rattle.rb_builder.specs.Numbered.{NumbersAll}
use Rattle.rb_builder.specs.declared.numbers.Numbers.{Numbers}
use Rattle.rb_builder.specs.declared.script.GrownItems.{GrownItems}
use Rattle.rb_parser.specs.Walks.{IsWalked}

each : {X : Type 0} (P : X → Type 0) → ((x : X) → P x) → (xs : List X) → Each P xs
each P f [] = tt
each P f (x ∷ xs) = (f x, each P f xs)

found_or_first : (o : Option ℕ) → unwrap_or o 0 ≡ place_or_first o
found_or_first None = refl
found_or_first (Some n) = refl

-- the numbers that were gathered agree with those of the script
numbers_agree : (n : Numbers) (first : GrownItems) (found : Items) → AreItems gathering first found → NumbersAll first.said.words first.said.threads n
    → Agree found.names found.threads (numbers_of n) (numbering_of found)
numbers_agree n first found made all = record {
  named =
      let same : n.names ≡ in_order (texts found.names) = all.names ∙ ap in_order made.said.0 in
      each _ (λ w. ap (λ names. id_or_first (number_of w.text names)) same) found.names;
  bodied = each _ (λ t.
      let places : List ℕ → Option ℕ = position (λ place. nat_eq place t.at.from) in
      ap (λ o. unwrap_or o 0) (all.bodies t.at.from ∙ ap places made.said.1 ∙ position-map (λ place. nat_eq place t.at.from) (λ u. u.at.from) found.threads)
      ∙ found_or_first (position (λ u. nat_eq u.at.from t.at.from) found.threads)) found.threads;
}

same_program : (n : Numbers) (second : GrownItems) (found : Items) → n.names ≡ in_order (texts found.names) → AreItems (numbering (numbers_of n)) second found
    → SameScript (numbers_of n) (numbering_of found) found
    → ◌≡◌ {A = Program} (record { names = n.names; classes = second.classes; functions = second.functions; bodies = second.said.bodies; main = second.main }) (program_of found)
same_program n second found names made same =
    rw (names, made.classes ∙ same.classes, made.functions ∙ same.functions, made.said ∙ same.bodies, made.main ∙ same.main) refl

-- what two walks make is the program of the script
pub program_made : (tokens : List Token) (n : Numbers) (first second : GrownItems) → IsWalked gathering tokens first → NumbersAll first.said.words first.said.threads n
    → IsWalked (numbering (numbers_of n)) tokens second
    → IsProgram max_height max_levels tokens (record { names = n.names; classes = second.classes; functions = second.functions; bodies = second.said.bodies; main = second.main })
program_made tokens n first second one all two =
    let same = one_script max_height max_height max_levels max_levels tokens two.found one.found two.script one.script in
    let made : AreItems (numbering (numbers_of n)) second one.found = subst (λ f. AreItems (numbering (numbers_of n)) second f) same two.made in
    let faithful = script_is_faithful max_height max_levels tokens one.found (omega arith) one.script in
    record {
      found = one.found;
      script = one.script;
      made = same_program n second one.found (all.names ∙ ap in_order one.made.said.0) made
          (faithful.named (numbers_of n) (numbering_of one.found) (numbers_agree n first one.found one.made all));
    }
