-- The machine shows what is written of values of which no `to_s` is asked.
use Rattle.std.proofs.Common.{◌≡◌, ℕ, false, List, []}
use Rattle.std.specs.Prelude.{codes, All}
use Rattle.rb_tree.specs.declared.span.Span.{Span}
use Rattle.rb_model.specs.Values.{Value, Nil}
use Rattle.rb_machine.specs.Scopes.{Script, Scope}
use Rattle.rb_machine.specs.Control.{Cont, Instead, Plain}
use Rattle.rb_machine.specs.Drafts.{is_collection}
use Rattle.rb_machine.specs.Call.{print, show, value_of_p}
use Rattle.rb_machine.specs.Laws.{Quiet}
use Rattle.rb_machine.proofs.Printing.{AreUnasked, puts, writes, ps}
use Rattle.rb_render.specs.declared.show.Form.TheVariants as form
use Rattle.rb_render.specs.Forms.{written}

module _ (S : Script) (vs : List Value) (at : Span) (k : List Cont) (sc : Scope) (d left : ℕ) where
  pub puts_shows : AreUnasked S vs → Quiet S (print S (codes "puts") vs at k sc d left) (show S (written S.program form.Puts vs) (Instead Nil) at k sc d left)
  puts_shows none = puts S vs at k sc d left none

  pub print_shows : AreUnasked S vs → Quiet S (print S (codes "print") vs at k sc d left) (show S (written S.program form.Print vs) (Instead Nil) at k sc d left)
  print_shows none = writes S Plain [] vs at k sc d left none

  pub p_shows : All (λ v. is_collection v ≡ false) vs → Quiet S (print S (codes "p") vs at k sc d left) (show S (written S.program form.Inspect vs) (value_of_p S vs) at k sc d left)
  p_shows plain = ps S vs at k sc d left plain
