-- What is kept of the threads of texts.
use Rattle.std.specs.Prelude.{◌≡◌, ℕ, nat_eq, List}
use Rattle.std.specs.HashMap as map
use Rattle.rb_tree.specs.declared.span.NameId.{NameId}
use Rattle.rb_checker.specs.declared.event.Event.{Event}
use Rattle.rb_checker.specs.declared.threads.Noted.{Noted}
use Rattle.rb_checker.specs.declared.threads.ThreadNames.{ThreadNames}
use Rattle.rb_checker.specs.Captured.{params_in, captured_in, start_in, if_started}
use Rattle.rb_checker.specs.Locals.{Use}
use Rattle.rb_checker.specs.Scoped.{made_in, names_at}

-- what is noted is what these uses and these events say
pub record Notes (noted : Noted) (uses : List Use) (events : List Event) : Type 0 where
  pub params : noted.params.items ≡ params_in uses
  pub captured : noted.captured.items ≡ captured_in uses
  pub made : noted.made.items ≡ made_in uses
  pub starts : (number : ℕ) → map.get nat_eq noted.starts number ≡ start_in number events

-- the names that the body of a number captures, and those of its frame
abbrev pub captured_of : ThreadNames → ℕ → List NameId
captured_of t number = if_started (names_at t.captured) (map.get nat_eq t.starts number)

abbrev pub frame_of : ThreadNames → ℕ → List NameId
frame_of t number = if_started (names_at t.frames) (map.get nat_eq t.starts number)
