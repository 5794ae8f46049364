-- What is read is spelled so.
use Rattle.std.proofs.Common.{◌≡◌, ℕ, zero, suc, Bool, true, false, ◌||◌, nat_le, List, [], ◌∷◌, subst, inl, inr}
use Rattle.std.proofs.lemmas.Bool.{leb-true}
use Rattle.rb_lexer.specs.declared.token.Token.{Token}
use Rattle.rb_grammar.specs.Look.{class_of}
use Rattle.rb_grammar.specs.Tree.{Items, no_items}
use Rattle.rb_grammar.specs.Scope.{Scope, is_local, top_level}
use Rattle.rb_grammar.specs.Phrase.{Phrase, Value}
use Rattle.rb_grammar.specs.Phrase as p
use Rattle.rb_grammar.specs.Rule.{Rule, done, refuse, token, phrase, nested, built, either, look, pick, known, touching, ahead, scope, next_meets, next_touches, arguments_follow, Spelling, Spells}
use Rattle.rb_grammar.specs.Rule as l
use Rattle.rb_grammar.specs.Grammar.{rule, spelled}
use Rattle.rb_grammar.specs.Heads.{begins}
use Rattle.rb_grammar.specs.Reading.{read, refused, too_nested, Reading, from_refused, is_looked_behind, and_then, run, reading, reading_script}
use Rattle.rb_grammar.specs.Script.{IsScript}
use Rattle.rb_grammar.proofs.Steps.{read_parts, when_tells, read_tells, nest_tells}

module _ (limit : ℕ) (reader : ℕ → Reading) (inner : ℕ → Spelling)
    (sound : (l : ℕ) (n : Phrase) (s : Scope) (seen : Bool) (ts : List Token) (v : Value n) (s' : Scope) (seen' : Bool) (us : List Token)
    → reader l n s seen ts ≡ read v s' seen' us → inner l n s ts v s' us)
    (levels : ℕ) where
  -- a rule spells what it reads, where the phrases in it do
  pub run_sound : {A : Type 0} (r : Rule A) (s : Scope) (seen : Bool) (ts : List Token) (a : A) (s' : Scope) (seen' : Bool) (us : List Token)
      → run limit reader levels r s seen ts ≡ read a s' seen' us → Spells limit inner levels r s ts a s' us
  run_sound {A} (done b) s seen ts a s' seen' us e =
      let h = read_parts b s seen ts a s' seen' us e in
      subst (λ (x : A). Spells limit inner levels (done b) s ts x s' us) h.value
      (subst (λ (x : Scope). Spells limit inner levels (done b) s ts b x us) h.scopes
      (subst (λ (x : List Token). Spells limit inner levels (done b) s ts b s x) h.rest l.stops))
  run_sound refuse s seen ts a s' seen' us e = absurd (cc)
  run_sound (token test k) s seen [] a s' seen' us e = absurd (cc)
  run_sound (token test k) s seen (t ∷ ts) a s' seen' us e =
      elim (when_tells (test (class_of t.kind) t.spaced) (run limit reader levels (k t) s false ts) (refused (from_refused seen (t ∷ ts))) (read a s' seen' us) e) [
        | inl h ↦ l.takes h.0 (run_sound (k t) s false ts a s' seen' us h.1)
        | inr h ↦ absurd (let f = h.1 in cc)
      ]
  run_sound (phrase n k) s seen ts a s' seen' us e =
      let w = read_tells (reader levels n s seen ts) (λ v. run limit reader levels (k v)) a s' seen' us e in
      l.holds (sound levels n s seen ts w.value w.scopes w.looked w.rest w.before) (run_sound (k w.value) w.scopes w.looked w.rest a s' seen' us w.behind)
  run_sound (nested at n k) s seen ts a s' seen' us e =
      elim (nest_tells limit reader levels at levels (λ left. and_then (reader left n s seen ts) (λ v. run limit reader levels (k v))) (read a s' seen' us) e) [
        | inl h ↦ absurd (let f = h.1 in cc)
        | inr o ↦ (let w = read_tells (reader o.left n s seen ts) (λ v. run limit reader levels (k v)) a s' seen' us o.inside in
            l.opens o.levels (sound o.left n s seen ts w.value w.scopes w.looked w.rest w.before) (run_sound (k w.value) w.scopes w.looked w.rest a s' seen' us w.behind))
      ]
  run_sound (built b r) s seen ts a s' seen' us e =
      elim (when_tells (nat_le b.height limit) (run limit reader levels r s seen ts) (too_nested b.at) (read a s' seen' us) e) [
        | inl h ↦ l.builds (leb-true _ _ h.0) (run_sound r s seen ts a s' seen' us h.1)
        | inr h ↦ absurd (let f = h.1 in cc)
      ]
  run_sound (either q r) s seen ts a s' seen' us e =
      elim (when_tells (begins q ts) (run limit reader levels q s seen ts) (run limit reader levels r s seen ts) (read a s' seen' us) e) [
        | inl h ↦ l.first (run_sound q s seen ts a s' seen' us h.1)
        | inr h ↦ l.second (run_sound r s seen ts a s' seen' us h.1)
      ]
  run_sound (look test r) s seen ts a s' seen' us e =
      elim (when_tells (next_meets test ts) (run limit reader levels r s seen ts) (refused (from_refused seen ts)) (read a s' seen' us) e) [
        | inl h ↦ l.looks h.0 (run_sound r s seen ts a s' seen' us h.1)
        | inr h ↦ absurd (let f = h.1 in cc)
      ]
  run_sound (pick true q r) s seen ts a s' seen' us e = l.picks (run_sound q s seen ts a s' seen' us e)
  run_sound (pick false q r) s seen ts a s' seen' us e = l.picks_not (run_sound r s seen ts a s' seen' us e)
  run_sound (known text q r) s seen ts a s' seen' us e =
      elim (when_tells (is_local text s) (run limit reader levels q s seen ts) (run limit reader levels r s seen ts) (read a s' seen' us) e) [
        | inl h ↦ l.knows h.0 (run_sound q s seen ts a s' seen' us h.1)
        | inr h ↦ l.knows_not h.0 (run_sound r s seen ts a s' seen' us h.1)
      ]
  run_sound (touching place q r) s seen ts a s' seen' us e =
      elim (when_tells (next_touches place ts) (run limit reader levels q s seen ts) (run limit reader levels r s seen ts) (read a s' seen' us) e) [
        | inl h ↦ l.touches h.0 (run_sound q s seen ts a s' seen' us h.1)
        | inr h ↦ l.touches_not h.0 (run_sound r s seen ts a s' seen' us h.1)
      ]
  run_sound (ahead q r) s seen ts a s' seen' us e =
      elim (when_tells (arguments_follow ts) (run limit reader levels q s (is_looked_behind ts || seen) ts) (run limit reader levels r s (is_looked_behind ts || seen) ts) (read a s' seen' us) e) [
        | inl h ↦ l.commands h.0 (run_sound q s (is_looked_behind ts || seen) ts a s' seen' us h.1)
        | inr h ↦ l.commands_not h.0 (run_sound r s (is_looked_behind ts || seen) ts a s' seen' us h.1)
      ]
  run_sound (scope f r) s seen ts a s' seen' us e = l.changes (run_sound r (f s) seen ts a s' seen' us e)

-- what is read of a phrase in so many turns is spelled by a derivation so deep
pub reading_sound : (limit turns levels : ℕ) (n : Phrase) (s : Scope) (seen : Bool) (ts : List Token) (v : Value n) (s' : Scope) (seen' : Bool) (us : List Token)
    → reading limit turns levels n s seen ts ≡ read v s' seen' us → spelled limit turns levels n s ts v s' us
reading_sound limit zero levels n s seen ts v s' seen' us e = absurd (cc)
reading_sound limit (suc turns) levels n s seen ts v s' seen' us e =
    run_sound limit (reading limit turns) (spelled limit turns) (reading_sound limit turns) levels (rule n) s seen ts v s' seen' us e

-- a script that is read to its end is spelled so
pub script_sound : (limit turns levels : ℕ) (ts : List Token) (found : Items) (s : Scope) (seen : Bool)
    → reading_script limit turns levels ts ≡ read found s seen [] → IsScript limit levels ts found
script_sound limit turns levels ts found s seen e =
    record { depth = turns; scopes = s; spells = reading_sound limit turns levels (p.items no_items) top_level false ts found s seen [] e }
