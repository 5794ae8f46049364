use Rattle.std.proofs.Common.{◌≡◌, map, string_bytes, drop}
use Rattle.rb_command.specs.Line as spec
use Rattle.rb_command.proofs.hyphens.any_has_one_hyphen.Given as goal

abbrev pub invariant-words : goal.invariant-words
invariant-words l = spec.any_has_one_hyphen (map string_bytes l.words) ≡ spec.any_has_one_hyphen (map string_bytes (drop l.word-index l.words))
