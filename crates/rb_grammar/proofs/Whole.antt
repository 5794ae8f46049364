-- Whole scripts: what the laws of the reader's rules come to.
use Rattle.std.proofs.Common.{◌≡◌, ℕ, ◌+◌, ◌≤◌, Bool, false, List, [], ◌∷◌, ◌++◌, refl, sym, ◌∙◌, ap, subst, arith}
use Rattle.std.proofs.lemmas.List.{append_cancel_right}
use Rattle.rb_tree.specs.declared.span.Span.{Span}
use Rattle.rb_lexer.specs.declared.token.Token.{Token}
use Rattle.rb_grammar.specs.Tree.{Items, no_items}
use Rattle.rb_grammar.specs.Scope.{Scope, top_level}
use Rattle.rb_grammar.specs.Phrase as p
use Rattle.rb_grammar.specs.Reading.{Outcome, read, refused, too_nested, spent, reading, reading_script, Settled, turns_for, read_script}
use Rattle.rb_grammar.specs.Script.{IsScript, BeginsNone}
use Rattle.rb_grammar.specs.Program.{program_of}
use Rattle.rb_grammar.specs.Laws.{IsSound, IsComplete, HasOneProgram, RefusesRightly, RefusesLocally, ReadsLocally, NestsRightly, KeepsLimits}
use Rattle.rb_grammar.proofs.Sound.{script_sound}
use Rattle.rb_grammar.proofs.Complete.{phrase_reads}
use Rattle.rb_grammar.proofs.Local.{script_refused, script_wider, script_refused_wider, phrase_local}
use Rattle.rb_grammar.proofs.Settled.{reading_kept}
use Rattle.rb_grammar.proofs.Turns.{script_answered}
use Rattle.rb_grammar.proofs.Nested.{reading_nested}
use Rattle.rb_grammar.proofs.FaithfulItems.{no_items_faithful}

-- a script that is spelled is read, in as many turns as its derivation is deep
pub script_reads : (limit levels : ℕ) (tokens : List Token) (found : Items) (d : IsScript limit levels tokens found)
    → (seen : Bool) × (reading_script limit d.depth levels tokens ≡ read found d.scopes seen [])
script_reads limit levels tokens found d = phrase_reads limit d.depth levels (p.items no_items) top_level tokens found d.scopes [] d.spells refl false

-- two scripts of one token list are one
pub one_script : (limit limit' levels levels' : ℕ) (tokens : List Token) (found other : Items) → IsScript limit levels tokens found → IsScript limit' levels' tokens other → found ≡ other
one_script limit limit' levels levels' tokens found other d d' =
    let one = script_reads limit levels tokens found d in
    let two = script_reads limit' levels' tokens other d' in
    let wide = script_wider limit (limit + limit') d.depth (d.depth + d'.depth) levels (levels + levels') (omega arith) (omega arith) (omega arith) tokens found d.scopes one.0 [] one.1 in
    let wide' = script_wider limit' (limit + limit') d'.depth (d.depth + d'.depth) levels' (levels + levels') (omega arith) (omega arith) (omega arith) tokens other d'.scopes two.0 [] two.1 in
    let same = sym wide ∙ wide' in
    cc

-- a refusal of the token at which tokens part stays where they go on otherwise, within wider limits and in more turns
refused_stays : (limit limit' turns turns' levels levels' : ℕ) → limit ≤ limit' → turns ≤ turns' → levels ≤ levels' → (front : List Token) (t : Token) (post other : List Token)
    → reading_script limit turns levels (front ++ t ∷ post) ≡ refused (t ∷ post) → reading_script limit' turns' levels' (front ++ t ∷ other) ≡ refused (t ∷ other)
refused_stays limit limit' turns turns' levels levels' high long deep front t post other e =
    let x = script_refused limit limit' turns turns' levels levels' high long deep (front ++ t ∷ post) (t ∷ post) e in
    let same : front ≡ x.0 = append_cancel_right front x.0 (t ∷ post) x.1 in
    ap (λ us. reading_script limit' turns' levels' (us ++ t ∷ other)) same ∙ x.2 t post other refl

-- no script, however high or deep, goes on so behind a refusal
refused_none : (limit turns levels : ℕ) (front : List Token) (t : Token) (post : List Token) → reading_script limit turns levels (front ++ t ∷ post) ≡ refused (t ∷ post)
    → (limit' levels' : ℕ) (other : List Token) (found : Items) → IsScript limit' levels' (front ++ t ∷ other) found → ⊥
refused_none limit turns levels front t post e limit' levels' other found d =
    let one = script_reads limit' levels' (front ++ t ∷ other) found d in
    let wide = script_wider limit' (limit + limit') d.depth (turns + d.depth) levels' (levels + levels') (omega arith) (omega arith) (omega arith) (front ++ t ∷ other) found d.scopes one.0 [] one.1 in
    let moved = refused_stays limit (limit + limit') turns (turns + d.depth) levels (levels + levels') (omega arith) (omega arith) (omega arith) front t post other e in
    (let clash = sym wide ∙ moved in cc)

-- no script begins with the tokens up to and including the one that the reader refuses
pub refused_begins_none : (limit turns levels : ℕ) (tokens : List Token) (t : Token) (post : List Token) → reading_script limit turns levels tokens ≡ refused (t ∷ post)
    → BeginsNone tokens t.at.from
refused_begins_none limit turns levels tokens t post e =
    let x = script_refused limit limit turns turns levels levels (omega arith) (omega arith) (omega arith) tokens (t ∷ post) e in
    record {
      front = x.0;
      token = t;
      post = post;
      split = x.1;
      place = refl;
      none = refused_none limit turns levels x.0 t post (ap (reading_script limit turns levels) (sym x.1) ∙ e);
    }

-- ---- the reader in the turns that it has

-- two settled answers in different turns are one
settled_same : (limit turns turns' levels : ℕ) (tokens : List Token) → Settled (reading_script limit turns levels tokens) → Settled (reading_script limit turns' levels tokens)
    → reading_script limit turns levels tokens ≡ reading_script limit turns' levels tokens
settled_same limit turns turns' levels tokens h h' =
    sym (reading_kept limit turns (turns + turns') (omega arith) levels (p.items no_items) top_level false tokens h)
    ∙ reading_kept limit turns' (turns + turns') (omega arith) levels (p.items no_items) top_level false tokens h'

-- an answer is settled
read_settled : (o : Outcome Items) (found : Items) (s : Scope) (seen : Bool) (us : List Token) → o ≡ read found s seen us → Settled o
read_settled (read a s' seen' vs) found s seen us e = tt
read_settled (refused vs) found s seen us e = tt
read_settled (too_nested at) found s seen us e = tt
read_settled spent found s seen us e = absurd (cc)

-- a script that is spelled is read in the turns that the reader has
pub script_complete : IsComplete
script_complete limit levels tokens found d =
    let one = script_reads limit levels tokens found d in
    let same = settled_same limit d.depth (turns_for tokens) levels tokens (read_settled (reading_script limit d.depth levels tokens) found d.scopes one.0 [] one.1) (script_answered limit levels tokens) in
    (d.scopes, one.0, sym same ∙ one.1)

pub script_sound_in_turns : IsSound
script_sound_in_turns limit levels tokens found s seen e = script_sound limit (turns_for tokens) levels tokens found s seen e

pub one_program : HasOneProgram
one_program limit limit' levels levels' tokens program other d d' =
    d.made ∙ ap program_of (one_script limit limit' levels levels' tokens d.found d'.found d.script d'.script) ∙ sym d'.made

pub script_refuses : RefusesRightly
script_refuses limit levels tokens t post e = refused_begins_none limit (turns_for tokens) levels tokens t post e

-- an answer that is a refusal is settled
refused_settled : (o : Outcome Items) (us : List Token) → o ≡ refused us → Settled o
refused_settled (read a s seen vs) us e = tt
refused_settled (refused vs) us e = tt
refused_settled (too_nested at) us e = tt
refused_settled spent us e = absurd (cc)

pub script_refuses_locally : RefusesLocally
script_refuses_locally limit limit' levels levels' high deep front t post other e =
    let moved = refused_stays limit limit' (turns_for (front ++ t ∷ post)) (turns_for (front ++ t ∷ post) + turns_for (front ++ t ∷ other)) levels levels' high (omega arith) deep front t post other e in
    let same = settled_same limit' (turns_for (front ++ t ∷ other)) (turns_for (front ++ t ∷ post) + turns_for (front ++ t ∷ other)) levels' (front ++ t ∷ other)
    (script_answered limit' levels' (front ++ t ∷ other))
    (refused_settled (reading_script limit' (turns_for (front ++ t ∷ post) + turns_for (front ++ t ∷ other)) levels' (front ++ t ∷ other)) (t ∷ other) moved) in
    same ∙ moved

pub phrase_reads_locally : ReadsLocally
phrase_reads_locally limit limit' turns turns' levels levels' high long deep n s s' v looked front t post other agrees e =
    let x = phrase_local limit limit' turns turns' levels levels' high long deep n s (front ++ t ∷ post) v s' looked (t ∷ post) e in
    let same : front ≡ x.front = append_cancel_right front x.front (t ∷ post) x.split in
    ap (λ us. reading limit' turns' levels' n s false (us ++ t ∷ other)) same ∙ x.same t post other refl agrees

-- where a script within the limits is spelled, the reader does not answer that something is nested too deep
never_nested : (limit levels : ℕ) (tokens : List Token) (at : Span) → read_script limit levels tokens ≡ too_nested at → (found : Items) → IsScript limit levels tokens found → ⊥
never_nested limit levels tokens at e found d =
    let one = script_complete limit levels tokens found d in
    (let clash = sym one.2 ∙ e in cc)

pub script_nests : NestsRightly
script_nests limit levels two tokens at e = (
  reading_nested limit two (turns_for tokens) levels (p.items no_items) top_level false tokens at (no_items_faithful limit) e,
  never_nested limit levels tokens at e,
)

-- what the reader can answer where a script of wider limits is spelled
kept_answer : (limit limit' levels levels' : ℕ) (tokens : List Token) (found : Items) → IsScript limit' levels' tokens found
    → ((other : Items) → IsScript limit levels tokens other → ⊥) → (o : Outcome Items) → read_script limit levels tokens ≡ o → (at : Span) × (o ≡ too_nested at)
kept_answer limit limit' levels levels' tokens found d none (too_nested at) e = (at, refl)
kept_answer limit limit' levels levels' tokens found d none spent e = absurd (subst (λ (o : Outcome Items). Settled o) e (script_answered limit levels tokens))
kept_answer limit limit' levels levels' tokens found d none (read other s seen []) e = absurd (none other (script_sound limit (turns_for tokens) levels tokens other s seen e))
kept_answer limit limit' levels levels' tokens found d none (read other s seen (u ∷ us)) e =
    let one = script_reads limit' levels' tokens found d in
    let wide = script_wider limit' (limit + limit') d.depth (turns_for tokens + d.depth) levels' (levels + levels') (omega arith) (omega arith) (omega arith) tokens found d.scopes one.0 [] one.1 in
    let wide' = script_wider limit (limit + limit') (turns_for tokens) (turns_for tokens + d.depth) levels (levels + levels') (omega arith) (omega arith) (omega arith) tokens other s seen (u ∷ us) e in
    absurd (let clash = sym wide ∙ wide' in cc)
kept_answer limit limit' levels levels' tokens found d none (refused us) e =
    let one = script_reads limit' levels' tokens found d in
    let wide = script_wider limit' (limit + limit') d.depth (turns_for tokens + d.depth) levels' (levels + levels') (omega arith) (omega arith) (omega arith) tokens found d.scopes one.0 [] one.1 in
    let wide' = script_refused_wider limit (limit + limit') (turns_for tokens) (turns_for tokens + d.depth) levels (levels + levels') (omega arith) (omega arith) (omega arith) tokens us e in
    absurd (let clash = sym wide ∙ wide' in cc)

pub script_keeps_limits : KeepsLimits
script_keeps_limits limit limit' levels levels' tokens found d none = kept_answer limit limit' levels levels' tokens found d none (read_script limit levels tokens) refl
