use Rattle.std.proofs.Common.{ℕ, List, drop, subst, inl, inr}
use Rattle.std.proofs.lemmas.List.{take_rest}
use Rattle.rb_lexer.specs.Word.{IsPlainName}
use Rattle.rb_lexer.specs.Extent.{LongestFront}
use Rattle.rb_lexer.proofs.Fronts.{sign-nothing, field-token, global-token}
use Rattle.rb_lexer.proofs.front.variable.Goals as goal

pub returns-then-len-eq0 : goal.returns-then-len-eq0
returns-then-len-eq0 c =
    let bytes = c.args.bytes.now in
    let name = subst (λ (xs : List ℕ). LongestFront (λ rest. IsPlainName) xs c.plain_name_len-len.result) (take_rest bytes 1) c.plain_name_len-len.ensures in
    sign-nothing bytes c.requires (subst (λ (n : ℕ). LongestFront (λ rest. IsPlainName) (drop 1 bytes) n) c.if-len-eq0.true name)

pub returns-then-bytes-eq64 : goal.returns-then-bytes-eq64
returns-then-bytes-eq64 c =
    let bytes = c.args.bytes.now in
    let name = subst (λ (xs : List ℕ). LongestFront (λ rest. IsPlainName) xs c.plain_name_len-len.result) (take_rest bytes 1) c.plain_name_len-len.ensures in
    field-token bytes c.in_ok-name.name c.plain_name_len-len.result c.if-bytes-eq64.true name c.if-len-eq0.false c.in_ok-name.ensures

pub returns : goal.returns
returns c =
    let bytes = c.args.bytes.now in
    let name = subst (λ (xs : List ℕ). LongestFront (λ rest. IsPlainName) xs c.plain_name_len-len.result) (take_rest bytes 1) c.plain_name_len-len.ensures in
    global-token bytes c.in_ok-name.name c.plain_name_len-len.result (elim c.requires [ inl e ↦ absurd (c.if-bytes-eq64.false e) | inr e ↦ e ]) name c.if-len-eq0.false
    c.in_ok-name.ensures
