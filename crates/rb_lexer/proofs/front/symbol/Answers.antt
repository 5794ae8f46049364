use Rattle.std.proofs.Common.{ℕ, List, take, drop, subst, ap, ◌∙◌, arith}
use Rattle.std.proofs.lemmas.List.{take_rest}
use Rattle.rb_lexer.specs.Extent.{LongestFront}
use Rattle.rb_lexer.proofs.Fronts.{IsSymbolName, colon-token, symbol-token}
use Rattle.rb_lexer.proofs.front.symbol.Goals as goal

pub returns-then-len-eq0 : goal.returns-then-len-eq0
returns-then-len-eq0 c =
    let bytes = c.args.bytes.now in
    let name = subst (λ (xs : List ℕ). LongestFront IsSymbolName xs c.symbol_name_len-len.result) (take_rest bytes 1) c.symbol_name_len-len.ensures in
    colon-token bytes c.requires (subst (λ (n : ℕ). LongestFront IsSymbolName (drop 1 bytes) n) c.if-len-eq0.true name)

pub returns : goal.returns
returns c =
    let bytes = c.args.bytes.now in
    let name = subst (λ (xs : List ℕ). LongestFront IsSymbolName xs c.symbol_name_len-len.result) (take_rest bytes 1) c.symbol_name_len-len.ensures in
    symbol-token bytes c.in_ok-name.name c.symbol_name_len-len.result c.requires name c.if-len-eq0.false
    (c.in_ok-name.ensures ∙ ap (λ n. take n (drop 1 bytes)) (omega arith))
