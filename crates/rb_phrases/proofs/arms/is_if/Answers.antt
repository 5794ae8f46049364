use Rattle.std.proofs.Common.{refl, sym}
use Rattle.rb_cursor.specs.declared.class.Class.TheVariants as class
use Rattle.rb_phrases.proofs.Others.{is_other}
use Rattle.rb_phrases.proofs.Outside as out
use Rattle.rb_phrases.proofs.arms.is_if.Goals as goal

pub returns-in-IfWord : goal.returns-in-IfWord
returns-in-IfWord c = sym (out.is_the class.IfWord c.args.word.now c.class_of.result c.class_of.ensures c.in-IfWord.is refl)

pub returns-in_default : goal.returns-in_default
returns-in_default c = sym (out.is_not class.IfWord c.args.word.now c.class_of.result c.class_of.ensures (is_other class.IfWord c.class_of.result c.args.word.now.spaced c.in_default.not-IfWord))
