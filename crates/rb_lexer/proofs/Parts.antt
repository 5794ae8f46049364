-- A part of a text as it is read, and that there is one only.
use Rattle.std.proofs.Common.{◌≡◌, ℕ, ◌+◌, ◌<◌, ◌≤◌, true, false, not, List, [], ◌∷◌, ◌++◌, length, get_or, take, drop, Some, refl, ap, sym, ◌∙◌, subst, arith}
use Rattle.std.specs.Prelude.{is_some}
use Rattle.std.proofs.lemmas.List.{append_assoc, append-nil, drop_more, drop_all, take-append-drop, take_at, drop_at, drop-drop, length-drop, length-append, length-take-le}
use Rattle.std.proofs.lemmas.Bool.{false≢true, true≢false}
use Rattle.rb_lexer.specs.declared.mode.Quote.{Quote}
use Rattle.rb_lexer.specs.declared.mode.Quote.TheVariants as quote
use Rattle.rb_lexer.specs.Part.{Part, stop, plain, escape, begins_plain, begins_escape, escaped}

-- a part is read up to a place, and gave these characters
pub record IsPartTo (q : Quote) (bytes : List ℕ) (at : ℕ) (text : List ℕ) : Type 0 where
  pub within : at ≤ length bytes
  pub onwards : (source rest more : List ℕ) → source ++ rest ≡ drop at bytes → Part q rest source more → Part q rest (take at bytes ++ source) (text ++ more)

pub part-none : (q : Quote) (bytes : List ℕ) → IsPartTo q bytes 0 []
part-none q bytes = record {
  within = omega arith;
  onwards = λ source rest more e p. p;
}

-- where the part ends
pub part-end : {q : Quote} {bytes : List ℕ} {at : ℕ} {text : List ℕ} → IsPartTo q bytes at text → (here : List ℕ) → here ≡ drop at bytes → begins_plain q here ≡ false
    → begins_escape q here ≡ false → Part q (drop at bytes) (take at bytes) text
part-end {q} {bytes} {at} {text} p here r n m =
    let done = stop (ap (begins_plain q) (sym r) ∙ n) (ap (begins_escape q) (sym r) ∙ m) in
    subst (λ (xs : List ℕ). Part q (drop at bytes) xs text) (append-nil (take at bytes))
    (subst (λ (xs : List ℕ). Part q (drop at bytes) (take at bytes ++ []) xs) (append-nil text) (p.onwards [] (drop at bytes) [] refl done))

-- what stands before a place further on
pub take-front : (bytes front rest : List ℕ) (at n : ℕ) → at ≤ length bytes → drop at bytes ≡ front ++ rest → length front ≡ n → take (at + n) bytes ≡ take at bytes ++ front
take-front bytes front rest at n w d l =
    let same : length (take at bytes ++ front) ≡ at + n = omega (arith, length-append (take at bytes) front, length-take-le at bytes w) in
    let whole : (take at bytes ++ front) ++ rest ≡ bytes = append_assoc (take at bytes) front rest ∙ ap (λ xs. take at bytes ++ xs) (sym d) ∙ take-append-drop at bytes in
    ap (take (at + n)) (sym whole) ∙ take_at (take at bytes ++ front) rest (at + n) same

-- what stands behind it
pub drop-front : (bytes front rest : List ℕ) (at n : ℕ) → drop at bytes ≡ front ++ rest → length front ≡ n → drop (at + n) bytes ≡ rest
drop-front bytes front rest at n d l = sym (drop-drop n at bytes) ∙ ap (drop n) d ∙ drop_at front rest n l

front-within : (bytes front rest : List ℕ) (at n : ℕ) → at ≤ length bytes → drop at bytes ≡ front ++ rest → length front ≡ n → at + n ≤ length bytes
front-within bytes front rest at n w d l = let e = ap length d in omega (arith, length-drop at bytes, length-append front rest, e)

-- one more step of a part
part-step : {q : Quote} {bytes : List ℕ} {at : ℕ} {text : List ℕ} → IsPartTo q bytes at text → (front rest' : List ℕ) (n c : ℕ) → length front ≡ n → drop at bytes ≡ front ++ rest'
    → ((source rest more : List ℕ) → source ++ rest ≡ rest' → Part q rest source more → Part q rest (front ++ source) (c ∷ more)) → IsPartTo q bytes (at + n) (text ++ c ∷ [])
part-step {q} {bytes} {at} {text} p front rest' n c l d one = record {
  within = front-within bytes front rest' at n p.within d l;
  onwards = λ source rest more e r.
      let behind : source ++ rest ≡ rest' = e ∙ drop-front bytes front rest' at n d l in
      let whole : (front ++ source) ++ rest ≡ drop at bytes = append_assoc front source rest ∙ ap (λ xs. front ++ xs) behind ∙ sym d in
      let s : take at bytes ++ (front ++ source) ≡ take (at + n) bytes ++ source
      = sym (append_assoc (take at bytes) front source) ∙ ap (λ xs. xs ++ source) (sym (take-front bytes front rest' at n p.within d l)) in
      subst (λ (xs : List ℕ). Part q rest xs ((text ++ c ∷ []) ++ more)) s
      (subst (λ (xs : List ℕ). Part q rest (take at bytes ++ (front ++ source)) xs) (sym (append_assoc text (c ∷ []) more))
      (p.onwards (front ++ source) rest (c ∷ more) whole (one source rest more behind r)));
}

-- one more character that stands for itself
pub part-plain : {q : Quote} {bytes : List ℕ} {at : ℕ} {text : List ℕ} → IsPartTo q bytes at text → (here new : List ℕ) → here ≡ drop at bytes → at < length bytes
    → begins_plain q here ≡ true → new ≡ text ++ get_or here 0 0 ∷ [] → IsPartTo q bytes (at + 1) new
part-plain {q} {bytes} {at} {text} p here new r h n e =
    let b = get_or here 0 0 in
    let more = drop (at + 1) bytes in
    let first : b ≡ get_or bytes at 0 = ap (λ xs. get_or xs 0 0) (r ∙ drop_more bytes at 0 h) in
    let d : drop at bytes ≡ b ∷ more = drop_more bytes at 0 h ∙ ap (λ x. x ∷ more) (sym first) in
    subst (λ (xs : List ℕ). IsPartTo q bytes (at + 1) xs) (sym e)
    (part-step p (b ∷ []) more 1 b refl d (λ source rest more' s t. plain (ap (λ xs. begins_plain q (b ∷ xs)) s ∙ ap (begins_plain q) (sym d ∙ sym r) ∙ n) t))

-- one more escape
pub part-escape : {q : Quote} {bytes : List ℕ} {at : ℕ} {text : List ℕ} → IsPartTo q bytes at text → (here new : List ℕ) → here ≡ drop at bytes → (e c : ℕ) (rest' : List ℕ)
    → here ≡ 92 ∷ e ∷ rest' → escaped q e ≡ Some c → new ≡ text ++ c ∷ [] → IsPartTo q bytes (at + 2) new
part-escape {q} {bytes} {at} p here new r e c rest' d n f =
    subst (λ (xs : List ℕ). IsPartTo q bytes (at + 2) xs) (sym f) (part-step p (92 ∷ e ∷ []) rest' 2 c refl (sym r ∙ d) (λ source rest more s t. escape n t))

nil-plain : (q : Quote) → begins_plain q [] ≡ false
nil-plain quote.Single = refl
nil-plain quote.Double = refl

nil-escape : (q : Quote) → begins_escape q [] ≡ false
nil-escape quote.Single = refl
nil-escape quote.Double = refl

-- where the bytes end
pub part-last : {q : Quote} {bytes : List ℕ} {at : ℕ} {text : List ℕ} → IsPartTo q bytes at text → length bytes ≤ at → Part q (drop at bytes) (take at bytes) text
part-last {q} {bytes} {at} p h =
    let e = drop_all at bytes h in part-end p (drop at bytes) refl (ap (begins_plain q) e ∙ nil-plain q) (ap (begins_escape q) e ∙ nil-escape q)

-- there is one part only
pub record SamePart (source source' rest rest' text text' : List ℕ) : Type 0 where
  pub sources : source ≡ source'
  pub rests : rest ≡ rest'
  pub texts : text ≡ text'

escape-plain : (q : Quote) (e c : ℕ) (bs : List ℕ) → escaped q e ≡ Some c → begins_plain q (92 ∷ e ∷ bs) ≡ false
escape-plain quote.Single e c bs h = ap (λ o. not (is_some o)) h
escape-plain quote.Double e c bs h = refl

escape-begins : (q : Quote) (e c : ℕ) (bs : List ℕ) → escaped q e ≡ Some c → begins_escape q (92 ∷ e ∷ bs) ≡ true
escape-begins q e c bs h = ap is_some h

pub part-unique : {q : Quote} {rest rest' source source' text text' : List ℕ} → Part q rest source text → Part q rest' source' text' → source ++ rest ≡ source' ++ rest'
    → SamePart source source' rest rest' text text'
part-unique (stop n m) (stop n' m') e = record { sources = refl; rests = e; texts = refl }
part-unique {q} (stop n m) (plain p t) e = absurd (false≢true (sym n ∙ ap (begins_plain q) e ∙ p))
part-unique {q} {rest' = r'} (stop n m) (escape {e = x} {c = c} {source = s} h t) e =
    absurd (false≢true (sym m ∙ ap (begins_escape q) e ∙ escape-begins q x c (s ++ r') h))
part-unique {q} (plain p t) (stop n' m') e = absurd (false≢true (sym n' ∙ ap (begins_plain q) (sym e) ∙ p))
part-unique {rest = r} {rest' = r'} (plain {b = b} {source = s} {text = w} p t) (plain {b = b'} {source = s'} {text = w'} p' t') e =
    let same : b ≡ b' = cc in
    let left : s ++ r ≡ s' ++ r' = cc in
    let u = part-unique t t' left in
    record { sources = ap (λ x. x ∷ s) same ∙ ap (λ xs. b' ∷ xs) u.sources; rests = u.rests; texts = ap (λ x. x ∷ w) same ∙ ap (λ xs. b' ∷ xs) u.texts }
part-unique {q} {rest' = r'} (plain p t) (escape {e = x} {c = c} {source = s} h t') e =
    absurd (true≢false (sym p ∙ ap (begins_plain q) e ∙ escape-plain q x c (s ++ r') h))
part-unique {q} {rest = r} (escape {e = x} {c = c} {source = s} h t) (stop n' m') e =
    absurd (false≢true (sym m' ∙ ap (begins_escape q) (sym e) ∙ escape-begins q x c (s ++ r) h))
part-unique {q} {rest = r} (escape {e = x} {c = c} {source = s} h t) (plain p' t') e =
    absurd (true≢false (sym p' ∙ ap (begins_plain q) (sym e) ∙ escape-plain q x c (s ++ r) h))
part-unique {q} {rest = r} {rest' = r'} (escape {e = x} {c = c} {source = s} {text = w} h t) (escape {e = x'} {c = c'} {source = s'} {text = w'} h' t') e =
    let same : x ≡ x' = cc in
    let left : s ++ r ≡ s' ++ r' = cc in
    let some : Some c ≡ Some c' = sym h ∙ ap (escaped q) same ∙ h' in
    let char : c ≡ c' = cc in
    let u = part-unique t t' left in
    record { sources = ap (λ y. 92 ∷ y ∷ s) same ∙ ap (λ xs. 92 ∷ x' ∷ xs) u.sources; rests = u.rests; texts = ap (λ y. y ∷ w) char ∙ ap (λ xs. c' ∷ xs) u.texts }
