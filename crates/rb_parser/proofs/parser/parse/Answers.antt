use Rattle.rb_parser.proofs.Answering.{answered, refused_so, nested_so}
use Rattle.rb_parser.proofs.parser.parse.Goals as goal

pub returns-clause-complete : goal.returns-clause-complete
returns-clause-complete c = answered c.args.tokens.now c.two_walks.result c.two_walks.ensures

pub returns-clause-refused : goal.returns-clause-refused
returns-clause-refused c = refused_so c.args.tokens.now c.two_walks.result c.two_walks.ensures

pub returns-clause-nested : goal.returns-clause-nested
returns-clause-nested c = nested_so c.args.tokens.now c.two_walks.result c.two_walks.ensures
