use Rattle.rb_accepted.proofs.Words.{lexed_are_words}
use Rattle.rb_accepted.proofs.laws.lexed_are_words.Goals as goal

pub returns : goal.returns
returns c = lexed_are_words
