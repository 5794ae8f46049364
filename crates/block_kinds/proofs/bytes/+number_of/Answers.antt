use Rattle.std.proofs.Common.{◌≡◌, ◌<◌, ◌≤◌, Fits, w8, ℕ, List, get_or, subst, length, suc, rules, arith}
use Rattle.heap_core.specs.Spelling.{of_bytes}
use Rattle.block_kinds.specs.Reading.{AreBytes}
use Rattle.block_kinds.proofs.Eights.{of_bytes_below}
use Rattle.block_kinds.proofs.bytes.+number_of.Goals as goal

pub overflow_mul-result : goal.overflow_mul-result
overflow_mul-result t c =
    let all : AreBytes c.in-Some.rest.now = λ i. let f : Fits w8 (get_or c.in-Some.rest.now i 0) = subst (λ (l : List ℕ). Fits w8 (get_or l (suc i) 0)) c.in-Some.ensures.cases.0 (c.type_inv.bytes (suc i)) in omega (arith, f) in
    let few : length c.in-Some.rest.now ≤ 7 = search rules in
    let below : of_bytes c.in-Some.rest.now < 72057594037927936 = of_bytes_below c.in-Some.rest.now all 7 few in
    let is = c.number_of.ensures in
    omega (arith, below, is)

pub overflow_add-result : goal.overflow_add-result
overflow_add-result t c =
    let all : AreBytes c.in-Some.rest.now = λ i. let f : Fits w8 (get_or c.in-Some.rest.now i 0) = subst (λ (l : List ℕ). Fits w8 (get_or l (suc i) 0)) c.in-Some.ensures.cases.0 (c.type_inv.bytes (suc i)) in omega (arith, f) in
    let few : length c.in-Some.rest.now ≤ 7 = search rules in
    let below : of_bytes c.in-Some.rest.now < 72057594037927936 = of_bytes_below c.in-Some.rest.now all 7 few in
    let is = c.number_of.ensures in
    let first : Fits w8 c.in-Some.first.now = subst (λ (l : List ℕ). Fits w8 (get_or l 0 0)) c.in-Some.ensures.cases.0 (c.type_inv.bytes 0) in
    let same : c.from.result ≡ c.in-Some.first.now = search rules in
    omega (arith, below, is, first, same)
