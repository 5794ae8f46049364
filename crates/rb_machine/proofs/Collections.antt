-- Arrays and hashes: literals, walks, and the reading of a collection for its text.
use Rattle.std.proofs.Common.{◌≡◌, true, ◌++◌, length, arith, refl, sym}
use Rattle.std.specs.Prelude.{nat_le}
use Rattle.std.proofs.lemmas.Bool.Decides.{nat_tests}
use Rattle.std.proofs.lemmas.List.{append_assoc}
use Rattle.rb_model.specs.Values.{To}
use Rattle.rb_machine.specs.Control.{Inspected, OfValue}
use Rattle.rb_machine.specs.Texts.{max_bytes}
use Rattle.rb_machine.specs.Drafts.{again}
use Rattle.rb_machine.specs.Laws.{LiteralsMakeThings, WalksAskEachTime, WalksKeep, CollectionsAreReadOnce}

pub literals_make_things : LiteralsMakeThings
literals_make_things S vs at k sc d left = (refl, λ plain. rw plain refl, λ bad. rw bad refl)

pub walks_ask_each_time : WalksAskEachTime
walks_ask_each_time S array next length walk block at k sc d left = (refl, λ below. rw below refl, λ past. rw past refl, λ v. refl)

pub walks_keep : WalksKeep
walks_keep array next values kept v current at = (refl, λ yes. rw yes refl, λ no. rw no refl)

pub collections_are_read_once : CollectionsAreReadOnce
collections_are_read_once S thing lead bytes begun at k sc d left is = (
  λ closed room. (record { form = Inspected; coming = OfValue lead (To thing); bytes = bytes; begun = begun }, rw (is, closed, room) refl, refl),
  λ closed full. rw (is, closed, full) refl,
  λ inside fits.
      let told = again Inspected thing.sort in
      let joins : bytes ++ (lead ++ told) ≡ bytes ++ lead ++ told = sym (append_assoc bytes lead told) in
      let short : nat_le (length (bytes ++ lead ++ told)) max_bytes ≡ true = grind (arith, nat_tests, fits) in
      rw (is, inside, joins, short) refl,
)
