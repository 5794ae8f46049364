-- What the reader's answer to a whole script comes to, by the laws of the grammar.
use Rattle.std.proofs.Common.{◌≡◌, ◌∷◌, [], ℕ, false, List, Result, Ok, Err, refl, sym, ap, ◌∙◌, subst, arith}
use Rattle.rb_lexer.specs.declared.token.Token.{Token}
use Rattle.rb_lexer.specs.Spans.{EndsOnce}
use Rattle.rb_grammar.specs.Tree.{Items, no_items}
use Rattle.rb_grammar.specs.Scope.{top_level}
use Rattle.rb_grammar.specs.Phrase as p
use Rattle.rb_grammar.specs.Reading.{Outcome, read, refused, too_nested, read_script}
use Rattle.rb_grammar.specs.Script.{IsScript, BeginsNone}
use Rattle.rb_grammar.specs.Program.{max_height, max_levels}
use Rattle.rb_grammar.proofs.Runs.{answer_is}
use Rattle.rb_grammar.proofs.Ends.{script_ends}
use Rattle.rb_grammar.proofs.Whole.{script_sound_in_turns, script_refuses, script_nests}
use Rattle.rb_cursor.specs.State.{State, Came, Failed, syntax, nested_too_deep, memory, answer_at, next_place}
use Rattle.rb_cursor.specs.declared.fault.ParseFault.{ParseFault}
use Rattle.rb_builder.specs.Walk.{Walk}
use Rattle.rb_builder.specs.Script.{AreItems}
use Rattle.rb_builder.specs.declared.script.GrownItems.{GrownItems}
use Rattle.rb_parser.specs.Walks.{IsRefused, Walks}

-- before the first token
abbrev pub start : List Token → State
start tokens = record { scope = top_level; looked = false; rest = tokens }

-- what the parser is answered for is what the reader answers
answers : (tokens : List Token) (o : Outcome Items) → answer_at max_levels (p.items no_items) (start tokens) ≡ o → read_script max_height max_levels tokens ≡ o
answers tokens o e = sym (answer_is max_height max_levels (p.items no_items) top_level false tokens) ∙ e

refused_there : (tokens ts : List Token) (t : Token) (post : List Token) → ts ≡ t ∷ post → read_script max_height max_levels tokens ≡ refused ts → BeginsNone tokens (next_place ts)
refused_there tokens ts t post same e = rw (same) (script_refuses max_height max_levels tokens t post (e ∙ ap refused same))

failed_so : (tokens : List Token) → EndsOnce tokens → (e : ParseFault) → Failed (answer_at max_levels (p.items no_items) (start tokens)) e → IsRefused tokens e
failed_so tokens ends _ (syntax ts h) =
    let r = answers tokens (refused ts) h in
    let x = (script_ends max_height max_levels tokens ends).0 ts r in
    refused_there tokens ts x.0 x.1 x.2 r
failed_so tokens ends _ (nested_too_deep at h) =
    let x = script_nests max_height max_levels (omega arith) tokens at (answers tokens (too_nested at) h) in
    record { place = at; from = refl; passes = x.0; none = x.1 }
failed_so tokens ends _ memory = tt

read_whole : (tokens : List Token) → EndsOnce tokens → (found : Items) (s : State)
    → answer_at max_levels (p.items no_items) (start tokens) ≡ read found s.scope s.looked s.rest → IsScript max_height max_levels tokens found
read_whole tokens ends found s h =
    let r = answers tokens (read found s.scope s.looked s.rest) h in
    let done : s.rest ≡ [] = (script_ends max_height max_levels tokens ends).1 found s.scope s.looked s.rest r in
    script_sound_in_turns max_height max_levels tokens found s.scope s.looked (r ∙ ap (read found s.scope s.looked) done)

pub walked : (w : Walk) (tokens : List Token) → EndsOnce tokens → (s : State) (result : Result GrownItems ParseFault)
    → Came (AreItems w) s (answer_at max_levels (p.items no_items) (start tokens)) result → Walks w tokens result
walked w tokens ends s (Ok grown) r = record { found = r.value; script = read_whole tokens ends r.value s r.reads; made = r.same }
walked w tokens ends s (Err e) f = failed_so tokens ends e f

-- the same of a parser that is known to begin there, with this maker and as many levels as may be
pub walked_from : (v w : Walk) (levels : ℕ) (old : State) (tokens : List Token) (s : State) (result : Result GrownItems ParseFault)
    → v ≡ w → levels ≡ max_levels → old ≡ start tokens → EndsOnce tokens
    → Came (AreItems v) s (answer_at levels (p.items no_items) old) result → Walks w tokens result
walked_from v w levels old tokens s result maker deep before ends h =
    walked w tokens ends s result
    (subst (λ x. Came (AreItems x) s (answer_at max_levels (p.items no_items) (start tokens)) result) maker
    (subst (λ n. Came (AreItems v) s (answer_at n (p.items no_items) (start tokens)) result) deep
    (subst (λ x. Came (AreItems v) s (answer_at levels (p.items no_items) x) result) before h)))
