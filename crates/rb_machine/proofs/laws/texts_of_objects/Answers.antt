use Rattle.rb_machine.proofs.Telling.{texts_are_wanted, to_s_is_asked, strings_are_texts, others_are_told}
use Rattle.rb_machine.proofs.laws.texts_of_objects.Goals as goal

pub returns-clause-wanted : goal.returns-clause-wanted
returns-clause-wanted c = texts_are_wanted

pub returns-clause-asked : goal.returns-clause-asked
returns-clause-asked c = to_s_is_asked

pub returns-clause-joined : goal.returns-clause-joined
returns-clause-joined c = strings_are_texts

pub returns-clause-told : goal.returns-clause-told
returns-clause-told c = others_are_told
