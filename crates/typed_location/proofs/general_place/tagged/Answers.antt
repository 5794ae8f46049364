use Rattle.typed_location.proofs.Tagging.{shl_or_tag}
use Rattle.typed_location.proofs.general_place.tagged.Goals as goal

pub returns : goal.returns
returns c = shl_or_tag c.args.payload c.args.tag c.requires
