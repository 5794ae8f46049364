use Rattle.std.proofs.Common.{[], refl}
use Rattle.rb_cursor.specs.Word.{word_by}
use Rattle.rb_builder.specs.Builder.{walk_of}
use Rattle.rb_builder.proofs.Scripts.{made_behind, made_with}
use Rattle.rb_builder.proofs.builder.Builder.push_param.Goals as goal

pub returns-clause-ok : goal.returns-clause-ok
returns-clause-ok c = λ ws r.
    let w = walk_of c.args.self.now in
    let word = word_by c.args.word in
    record {
      params = made_behind w (λ n u. record { name = n.name u.text; at = u.at }) (record { name = c.in_ok-name.name; at = word.at }) c.args.params.now.params c.keep.new.items ws word
          c.in_ok-keep.ensures.ok r.params (made_with w c.in_ok-name.name (λ n. n.name word.text) (λ x. record { name = x; at = word.at }) c.in_ok-name.ensures.ok);
      said = c.in_ok-gather.ensures.ok ws [] word refl r.said;
    }
