use Rattle.std.proofs.Common.{◌∙◌, ap, refl, map, None}
use Rattle.std.specs.Prelude.{slice_get, unwrap_or}
use Rattle.rb_tree.specs.declared.node.Class.{Class}
use Rattle.rb_resolver.specs.Known.{number_of, class_of, first_in}
use Rattle.rb_resolver.specs.Names.{script_of}
use Rattle.rb_resolver.proofs.Rows.{class_is, firsts_are, absent_is}
use Rattle.rb_resolver.proofs.script.known_of.Goals as goal

pub returns-clause-known : goal.returns-clause-known
returns-clause-known c =
    let p = c.args.program.now in
    let S = script_of p in
    record {
      texts = refl;
      functions = λ name. c.in_ok-functions.ensures name ∙ ap (number_of name) c.as_slice-3.ensures;
      classes = λ name. c.in_ok-numbers.ensures name ∙ ap (class_of name) c.as_slice-2.ensures ∙ class_is S name p.classes;
      firsts = λ class. ap (λ fs. unwrap_or (slice_get fs class) None) (c.in_ok-firsts.ensures ∙ ap (map (λ (k : Class). first_in p.names k.methods)) c.as_slice.ensures) ∙ firsts_are S class;
      absent = λ text none. absent_is S c.requires.different c.requires.plain text none;
      blocks = c.in_ok-scopes.ensures.blocks;
      captured = c.in_ok-threads.ensures.captured;
      threads = c.in_ok-threads.ensures.frames;
    }
