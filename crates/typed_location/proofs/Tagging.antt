-- A payload shifted over a tag.
use Rattle.std.proofs.Common.{◌≡◌, ℕ, ◌<◌, ◌+◌, ◌*◌, ◌%◌, ◌^◌, bit_or, arith}
use Rattle.std.proofs.lemmas.Nat.{or_shifted}

-- the payload keeps its low 61 bits
pub shl_or_tag : (payload tag : ℕ) → tag < 8 → bit_or (payload * 8 % 2 ^ 64) tag ≡ (payload % 2 ^ 61) * 8 + tag
shl_or_tag payload tag small =
    let shifted : payload * 8 % 2 ^ 64 ≡ (payload % 2 ^ 61) * 8 = omega arith in
    rw shifted (or_shifted (payload % 2 ^ 61) 3 tag small)
