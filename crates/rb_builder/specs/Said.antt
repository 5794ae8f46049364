-- What the text of trees says beside their nodes: the names that its tokens give, and the bodies of its threads.
use Rattle.std.specs.Prelude.{◌≡◌, List, map, ◌++◌}
use Rattle.rb_grammar.specs.Tree.{Text, Word, Thread, texts, setter_of, field_of}
use Rattle.rb_builder.specs.Walk.{Walk, gathering, numbering}
use Rattle.rb_builder.specs.declared.word.Given as code
use Rattle.rb_builder.specs.declared.word.Given.TheVariants as given
use Rattle.rb_builder.specs.declared.said.Said.{Said}

-- the text of a name that a token gives
abbrev pub text_given : code.Given → Text
text_given (given.Plain text) = text.now
text_given (given.Setter text) = setter_of text.now
text_given (given.Field text) = field_of text.now

-- On the first walk the names and the places of the threads' blocks are kept, on the second the bodies of threads.
abbrev pub IsSaid : Walk → Said → List Word → List Thread → Type 0
IsSaid gathering s names threads = (map text_given s.words ≡ texts names) × (s.threads ≡ map (λ t. t.at.from) threads)
IsSaid (numbering n) s names threads = s.bodies ≡ map (λ t. t.block n) threads

-- what one text says, and then another
pub record Joined (first second both : Said) : Type 0 where
  pub words : both.words ≡ first.words ++ second.words
  pub threads : both.threads ≡ first.threads ++ second.threads
  pub bodies : both.bodies ≡ first.bodies ++ second.bodies
