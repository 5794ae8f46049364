-- Reading from the left: what is read so far, and what it says of the whole source.
use Rattle.std.proofs.Common.{◌≡◌, ℕ, zero, suc, ◌+◌, ◌≤◌, Bool, true, false, cond, List, [], ◌∷◌, ◌++◌, length, drop, Ok, Err, Result, Vec, vec_len, refl, ap, sym, ◌∙◌, subst, arith}
use Rattle.std.specs.Prelude.{IfOk, IfErr}
use Rattle.std.proofs.lemmas.List.{append_assoc, drop-drop, length-drop, length_push}
use Rattle.std.specs.declared.alloc.Global.{Global}
use Rattle.rb_lexer.specs.declared.token.Token.{Token}
use Rattle.rb_lexer.specs.declared.token.TokenKind.{TokenKind}
use Rattle.rb_lexer.specs.declared.token.TokenKind.TheVariants as kind
use Rattle.rb_lexer.specs.declared.fault.LexFault.{LexFault}
use Rattle.rb_lexer.specs.declared.fault.LexFault.TheVariants as fault
use Rattle.rb_lexer.specs.declared.mode.Mode.{Mode}
use Rattle.rb_lexer.specs.declared.mode.Mode.TheVariants.{Code}
use Rattle.rb_lexer.specs.declared.newline.Lines.{Lines}
use Rattle.rb_lexer.specs.declared.turn.Change.{Change}
use Rattle.rb_lexer.specs.declared.turn.Turn.{Turn}
use Rattle.rb_lexer.specs.declared.turn.Turn.TheVariants as turn
use Rattle.rb_lexer.specs.Newlines.{is_newline, drops_newline, closing_next, without_dropped}
use Rattle.rb_lexer.specs.Lines.{lines_of}
use Rattle.rb_lexer.specs.Tokens.{Outcome, Reads, behind, token_at, Answers}
use Rattle.rb_lexer.specs.Turns.{IsTurn, IsStack, after, spaced_in, ReadsFromStart}

-- tokens before an outcome
abbrev pub prefixed : List Token → Outcome → Outcome
prefixed done (Ok tokens) = Ok (done ++ tokens)
prefixed done (Err f) = Err f

prefixed-none : (o : Outcome) → prefixed [] o ≡ o
prefixed-none (Ok tokens) = refl
prefixed-none (Err f) = refl

prefixed-push : (done : List Token) (t : Token) (o : Outcome) → prefixed done (behind t o) ≡ prefixed (done ++ t ∷ []) o
prefixed-push done t (Ok tokens) = ap Ok (sym (append_assoc done (t ∷ []) tokens))
prefixed-push done t (Err f) = refl

-- the source is read up to a place
pub record IsReadTo (source : List ℕ) (lines : Lines) (modes : List Mode) (at : ℕ) (spaced : Bool) : Type 0 where
  pub done : List Token
  pub within : at ≤ length source
  pub few : length done ≤ at
  pub stack : IsStack at modes
  pub onwards : (o : Outcome) → Reads modes at spaced (drop at source) o → Reads (Code zero ∷ []) 0 false source (prefixed done o)
  pub kept : (later : List Token) → lines_of lines later ≡ without_dropped true (done ++ later)

pub read-none : (source : List ℕ) (lines : Lines) (modes : List Mode) → ((later : List Token) → lines_of lines later ≡ without_dropped true later) → modes ≡ Code zero ∷ []
    → IsReadTo source lines modes 0 false
read-none source lines modes k e =
    let start : IsReadTo source lines (Code zero ∷ []) 0 false = record {
      done = [];
      within = omega arith;
      few = omega arith;
      stack = omega arith;
      onwards = λ o r. subst (λ (p : Outcome). Reads (Code zero ∷ []) 0 false source p) (sym (prefixed-none o)) r;
      kept = k;
    } in
    subst (λ (ms : List Mode). IsReadTo source lines ms 0 false) (sym e) start

le-step : (n d c : Bool) (t : Token) (xs ys : List Token) (m : ℕ) → length xs ≤ m → length ys ≤ m → length (cond n (cond d xs (cond c xs (t ∷ xs))) (t ∷ ys)) ≤ suc m
le-step true true c t xs ys m h k = omega (arith, h)
le-step true false true t xs ys m h k = omega (arith, h)
le-step true false false t xs ys m h k = omega (arith, h)
le-step false d c t xs ys m h k = omega (arith, k)

-- dropping line feeds adds no token
without_dropped-le : (dropping : Bool) (tokens : List Token) → length (without_dropped dropping tokens) ≤ length tokens
without_dropped-le dropping [] = omega arith
without_dropped-le dropping (t ∷ ts) =
    le-step (is_newline t.kind) dropping (closing_next ts) t (without_dropped true ts) (without_dropped (drops_newline t.kind) ts) (length ts) (without_dropped-le true ts)
    (without_dropped-le (drops_newline t.kind) ts)

pub further-within : (source here : List ℕ) (at n : ℕ) → here ≡ drop at source → at ≤ length source → n ≤ length here → at + n ≤ length source
further-within source here at n h w l = let e = ap length h in omega (arith, e, length-drop at source)

further : {modes : List Mode} {spaced : Bool} {o : Outcome} (source here : List ℕ) (at n : ℕ) → here ≡ drop at source → Reads modes (at + n) spaced (drop (at + n) source) o
    → Reads modes (at + n) spaced (drop n here) o
further {modes} {spaced} {o} source here at n h r =
    subst (λ (xs : List ℕ). Reads modes (at + n) spaced xs o) (sym (ap (drop n) h ∙ drop-drop n at source)) r

module _ {source : List ℕ} {lines : Lines} {modes : List Mode} {at : ℕ} {spaced : Bool} (so_far : IsReadTo source lines modes at spaced) where
  pub read-passed : (here : List ℕ) (n : ℕ) → here ≡ drop at source → IsTurn modes at spaced here (turn.Passed n) → IsReadTo source lines modes (at + n) true
  read-passed here n h t =
      let few = so_far.few in
      record {
        done = so_far.done;
        within = further-within source here at n h so_far.within t.1;
        few = omega (arith, few);
        stack = t.2;
        onwards = λ o r. so_far.onwards o (subst (λ (xs : List ℕ). Reads modes at spaced xs o) h (t.3 o (further source here at n h r)));
        kept = so_far.kept;
      }

  pub read-token : (here : List ℕ) (k : TokenKind) (n : ℕ) (change : Change) (token : Token) (lines' : Lines) (modes' : List Mode) → here ≡ drop at source
      → IsTurn modes at spaced here (turn.Token k n change) → token ≡ token_at k at n (spaced_in modes spaced)
      → ((later : List Token) → lines_of lines' later ≡ lines_of lines (token ∷ later)) → modes' ≡ after change modes → IsReadTo source lines' modes' (at + n) false
  read-token here k n change token lines' modes' h t e l m =
      let few = so_far.few in
      let some = t.0 in
      let next : IsReadTo source lines' (after change modes) (at + n) false = record {
        done = so_far.done ++ token ∷ [];
        within = further-within source here at n h so_far.within t.1;
        few = omega (arith, length_push so_far.done token, few, some);
        stack = t.2;
        onwards = λ o r.
            let read : Reads modes at spaced here (behind token o)
            = subst (λ (x : Token). Reads modes at spaced here (behind x o)) (sym e) (t.3 o (further source here at n h r)) in
            subst (λ (p : Outcome). Reads (Code zero ∷ []) 0 false source p) (prefixed-push so_far.done token o)
            (so_far.onwards (behind token o) (subst (λ (xs : List ℕ). Reads modes at spaced xs (behind token o)) h read));
        kept = λ later. l later ∙ so_far.kept (token ∷ later) ∙ ap (without_dropped true) (sym (append_assoc so_far.done (token ∷ []) later));
      } in
      subst (λ (ms : List Mode). IsReadTo source lines' ms (at + n) false) (sym m) next

  -- where the source ends
  pub read-end : (here : List ℕ) (token : Token) (lines' : Lines) → here ≡ drop at source → IsTurn modes at spaced here turn.End → token ≡ token_at kind.End at 0 spaced
      → ((later : List Token) → lines_of lines' later ≡ lines_of lines (token ∷ later)) → ReadsFromStart source (Ok (lines_of lines' []))
  read-end here token lines' h t e l =
      let here' : Reads modes at spaced (drop at source) (Ok (token ∷ []))
      = subst (λ (xs : List ℕ). Reads modes at spaced xs (Ok (token ∷ []))) h (subst (λ (x : Token). Reads modes at spaced here (Ok (x ∷ []))) (sym e) t) in
      (Ok (so_far.done ++ token ∷ []), so_far.onwards (Ok (token ∷ [])) here', ap Ok (l [] ∙ so_far.kept (token ∷ [])))

  pub read-few : (token : Token) (lines' : Lines) → ((later : List Token) → lines_of lines' later ≡ lines_of lines (token ∷ later)) → length (lines_of lines' []) ≤ length source + 1
  read-few token lines' l =
      let e = ap length (l [] ∙ so_far.kept (token ∷ [])) in
      let few = so_far.few in
      let within = so_far.within in
      let w = without_dropped-le true (so_far.done ++ token ∷ []) in
      omega (arith, e, w, few, within, length_push so_far.done token)

  -- where the source is refused
  pub read-refused : (here : List ℕ) (f : LexFault) → here ≡ drop at source → IsTurn modes at spaced here (turn.Refused f) → ReadsFromStart source (Err f)
  read-refused here f h t = (Err f, so_far.onwards (Err f) (subst (λ (xs : List ℕ). Reads modes at spaced xs (Err f)) h t), refl)

-- a fault that is an answer
pub answers-fault : (P : Outcome → Type 0) (f : LexFault) → P (Err f) → Answers P (Err f)
answers-fault P (fault.NotUtf8 n) h = h
answers-fault P (fault.BadCharacter n) h = h
answers-fault P (fault.UnclosedText n) h = h
answers-fault P (fault.BadEscape n) h = h
answers-fault P (fault.IntegerTooWide n) h = h
answers-fault P fault.TooLarge h = h
answers-fault P fault.Memory h = tt

pub answers-memory : (P : Outcome → Type 0) (f : LexFault) → f ≡ fault.Memory → Answers P (Err f)
answers-memory P f e = subst (λ (g : LexFault). Answers P (Err g)) (sym e) tt

pub answers-weaker : (P Q : Outcome → Type 0) (r : Result (Vec Token Global) LexFault) → ((o : Outcome) → P o → Q o) → Answers P r → Answers Q r
answers-weaker P Q (Ok tokens) w h = w (Ok tokens.items) h
answers-weaker P Q (Err (fault.NotUtf8 n)) w h = w (Err (fault.NotUtf8 n)) h
answers-weaker P Q (Err (fault.BadCharacter n)) w h = w (Err (fault.BadCharacter n)) h
answers-weaker P Q (Err (fault.UnclosedText n)) w h = w (Err (fault.UnclosedText n)) h
answers-weaker P Q (Err (fault.BadEscape n)) w h = w (Err (fault.BadEscape n)) h
answers-weaker P Q (Err (fault.IntegerTooWide n)) w h = w (Err (fault.IntegerTooWide n)) h
answers-weaker P Q (Err fault.TooLarge) w h = w (Err fault.TooLarge) h
answers-weaker P Q (Err fault.Memory) w h = tt

-- a turn under the name of its case
pub turn-is : (modes : List Mode) (at : ℕ) (spaced : Bool) (here : List ℕ) (t u : Turn) → t ≡ u → IsTurn modes at spaced here t → IsTurn modes at spaced here u
turn-is modes at spaced here t u e h = subst (λ (x : Turn). IsTurn modes at spaced here x) e h

pub stack-some : (at : ℕ) (modes : List Mode) → IsStack at modes → modes ≡ [] → ⊥
stack-some at [] s e = s
stack-some at (m ∷ ms) s e = cc

pub answers-finish : (P : Outcome → Type 0) (r : Result (Vec Token Global) LexFault) (xs : List Token) → IfOk r (λ tokens. tokens.items ≡ xs) → IfErr r (λ f. f ≡ fault.Memory)
    → P (Ok xs) → Answers P r
answers-finish P (Ok tokens) xs h m p = subst (λ (ts : List Token). P (Ok ts)) (sym h) p
answers-finish P (Err f) xs h m p = answers-memory P f m

pub few-finish : (r : Result (Vec Token Global) LexFault) (xs : List Token) (n : ℕ) → IfOk r (λ tokens. tokens.items ≡ xs) → length xs ≤ n → IfOk r (λ tokens. vec_len tokens ≤ n)
few-finish (Ok tokens) xs n h l = let e = ap length h in let k = tokens.ok.0 in omega (arith, e, k)
few-finish (Err f) xs n h l = tt
