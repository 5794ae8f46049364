use Rattle.rb_grammar.proofs.Whole.{script_sound_in_turns}
use Rattle.rb_grammar.proofs.laws.sound.Goals as goal

pub returns : goal.returns
returns c = script_sound_in_turns
