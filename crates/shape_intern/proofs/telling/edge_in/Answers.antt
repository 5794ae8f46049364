use Rattle.shape_intern.proofs.Decodes.{edge_any, edge_int, edge_none, edge_share, edge_wide}
use Rattle.shape_intern.proofs.telling.edge_in.Goals as goal

pub returns-then-word-eq0 : goal.returns-then-word-eq0
returns-then-word-eq0 c = λ path e. edge_none c.args.word path c.if-word-eq0.true e

pub returns-then-word-eq1 : goal.returns-then-word-eq1
returns-then-word-eq1 c = λ path e. edge_int c.args.word path c.if-word-eq1.true e

pub returns-then-word-eq2 : goal.returns-then-word-eq2
returns-then-word-eq2 c = λ path e. edge_any c.args.word path c.if-word-eq2.true e

pub returns-then-word-eq3 : goal.returns-then-word-eq3
returns-then-word-eq3 c = λ path e. edge_wide c.args.word path c.if-word-eq3.true e

pub returns : goal.returns
returns c = λ path e. edge_share c.args.word path c.if-word-eq0.false c.if-word-eq1.false c.if-word-eq2.false c.if-word-eq3.false e
