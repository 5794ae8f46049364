-- The methods that read and write fields, behind others.
use Rattle.std.specs.Prelude.{[], ◌∷◌, ◌++◌, codes}
use Rattle.rb_grammar.specs.Tree.{Word, Members, given, field_of, setter_of, reader_of, writer_of}

abbrev pub with_reader : Members → Word → Members
with_reader m w = record { methods = m.methods ++ reader_of w ∷ []; names = m.names ++ w ∷ given (field_of w.text) w.at ∷ []; threads = m.threads }

-- without the name of its field
abbrev pub with_writer : Members → Word → Members
with_writer m w = record { methods = m.methods ++ writer_of w ∷ []; names = m.names ++ given (setter_of w.text) w.at ∷ given (codes "v") w.at ∷ []; threads = m.threads }
