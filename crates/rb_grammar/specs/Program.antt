-- Whole programs: the numbers of names and of thread bodies, and which tokens spell a program.
use Rattle.std.specs.Prelude.{◌≡◌, ℕ, nat_eq, List, [], Option, Some, None, map, fold, position}
use Rattle.rb_tree.specs.declared.span.NameId.{NameId}
use Rattle.rb_tree.specs.declared.node.Program.{Program}
use Rattle.rb_tree.specs.Texts.{number_of, with_text}
use Rattle.rb_lexer.specs.declared.token.Token.{Token}
use Rattle.rb_grammar.specs.Tree.{Text, Numbering, Items, texts, nodes, method_by, class_by}
use Rattle.rb_grammar.specs.Script.{IsScript}

-- each text once, in the order in which they first stand
abbrev pub in_order : List Text → List Text
in_order texts = fold (λ names text. with_text names text) [] texts

-- what was found, or the first where nothing was: names and threads of a script are always found
abbrev pub id_or_first : Option NameId → NameId
id_or_first None = record { 0 = 0 }
id_or_first (Some id) = id

abbrev pub place_or_first : Option ℕ → ℕ
place_or_first None = 0
place_or_first (Some place) = place

-- The number of a name is its place among the names of the script, each once, in the order in which the tokens that give
-- them first stand in the text. The number of a thread's body is its place among the bodies, in the order of the text.
abbrev pub numbering_of : Items → Numbering
numbering_of found = record {
  name = λ text. id_or_first (number_of text (in_order (texts found.names)));
  body = λ at. place_or_first (position (λ t. nat_eq t.at.from at.from) found.threads);
}

-- the program of these items
abbrev pub program_of : Items → Program
program_of found =
    let n : Numbering = numbering_of found in
    record {
      names = in_order (texts found.names);
      classes = map (class_by n) found.classes;
      functions = map (method_by n) found.functions;
      bodies = map (λ t. t.block n) found.threads;
      main = nodes n found.main;
    }

-- the tokens spell this program: no node that is built is higher than limit, and no more than levels are open at once
pub record IsProgram (limit levels : ℕ) (tokens : List Token) (program : Program) : Type 0 where
  pub found : Items
  pub script : IsScript limit levels tokens found
  pub made : program ≡ program_of found

-- how high a node may be, and how much may be open at once
abbrev pub max_height : ℕ
max_height = 64

abbrev pub max_levels : ℕ
max_levels = 64
