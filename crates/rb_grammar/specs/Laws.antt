-- The laws that make a parser of the grammar right: what its reader does, for whatever limits.
use Rattle.std.specs.Prelude.{◌≡◌, ℕ, ◌≤◌, Bool, true, false, List, [], ◌∷◌, ◌++◌, Some}
use Rattle.rb_tree.specs.declared.span.Span.{Span}
use Rattle.rb_tree.specs.Texts.{number_of}
use Rattle.rb_tree.specs.declared.node.Program.{Program}
use Rattle.rb_lexer.specs.declared.token.Token.{Token}
use Rattle.rb_grammar.specs.Tree.{Items, no_items, texts}
use Rattle.rb_grammar.specs.Scope.{Scope, top_level}
use Rattle.rb_grammar.specs.Phrase.{Phrase, Value}
use Rattle.rb_grammar.specs.Phrase as p
use Rattle.rb_grammar.specs.Rule.{next_touches}
use Rattle.rb_grammar.specs.Grammar.{rule}
use Rattle.rb_grammar.specs.Reading.{read, refused, too_nested, reading, Settled, read_script, answer, run}
use Rattle.rb_grammar.specs.Nesting.{TooNestedAt}
use Rattle.rb_grammar.specs.Script.{IsScript, BeginsNone}
use Rattle.rb_grammar.specs.Program.{in_order, numbering_of, IsProgram}
use Rattle.rb_lexer.specs.Spans.{StandInOrder, EndsOnce}
use Rattle.rb_grammar.specs.Order.{Rising, places_of, blocks_of, Distinct, NumberedFrom}
use Rattle.rb_grammar.specs.Faithful.{Each, ItemsAreFaithful}

-- what is read is spelled so
abbrev pub IsSound : Type 0
IsSound = (limit levels : ℕ) (tokens : List Token) (found : Items) (s : Scope) (seen : Bool)
    → read_script limit levels tokens ≡ read found s seen [] → IsScript limit levels tokens found

-- what is spelled within the limits is read so
abbrev pub IsComplete : Type 0
IsComplete = (limit levels : ℕ) (tokens : List Token) (found : Items)
    → IsScript limit levels tokens found → (s : Scope) × (seen : Bool) × (read_script limit levels tokens ≡ read found s seen [])

-- the reader has an answer for any tokens
abbrev pub IsTotal : Type 0
IsTotal = (limit levels : ℕ) (tokens : List Token) → Settled (read_script limit levels tokens)

-- A phrase is read as its rule says, with the phrases in it read so.
abbrev pub ReadsByRules : Type 0
ReadsByRules = (limit levels : ℕ) (n : Phrase) (s : Scope) (looked : Bool) (tokens : List Token)
    → answer limit levels n s looked tokens ≡ run limit (answer limit) levels (rule n) s looked tokens

-- one token list spells one script, whatever the limits
abbrev pub HasOneScript : Type 0
HasOneScript = (limit limit' levels levels' : ℕ) (tokens : List Token) (found other : Items)
    → IsScript limit levels tokens found → IsScript limit' levels' tokens other → found ≡ other

-- and so one program
abbrev pub HasOneProgram : Type 0
HasOneProgram = (limit limit' levels levels' : ℕ) (tokens : List Token) (program other : Program)
    → IsProgram limit levels tokens program → IsProgram limit' levels' tokens other → program ≡ other

-- Where the reader refuses a token, no script, however high or deep, begins with the tokens up to and including it.
abbrev pub RefusesRightly : Type 0
RefusesRightly = (limit levels : ℕ) (tokens : List Token) (t : Token) (post : List Token)
    → read_script limit levels tokens ≡ refused (t ∷ post) → BeginsNone tokens t.at.from

-- Where the last token is the one end, the reader refuses one of the tokens or reads them all.
abbrev pub EndsWithTokens : Type 0
EndsWithTokens = (limit levels : ℕ) (tokens : List Token) → EndsOnce tokens
    → ((us : List Token) → read_script limit levels tokens ≡ refused us → (t : Token) × (post : List Token) × (us ≡ t ∷ post))
    × ((found : Items) (s : Scope) (seen : Bool) (us : List Token) → read_script limit levels tokens ≡ read found s seen us → us ≡ [])

-- A refusal hangs on no token behind the one that is refused, and stays within wider limits.
abbrev pub RefusesLocally : Type 0
RefusesLocally = (limit limit' levels levels' : ℕ) → limit ≤ limit' → levels ≤ levels' → (front : List Token) (t : Token) (post other : List Token)
    → read_script limit levels (front ++ t ∷ post) ≡ refused (t ∷ post) → read_script limit' levels' (front ++ t ∷ other) ≡ refused (t ∷ other)

-- What a phrase comes to hangs on no token behind the one at which it ends, but where it has looked at whether another stands
-- directly behind that, and stays within wider limits and in more turns.
abbrev pub ReadsLocally : Type 0
ReadsLocally = (limit limit' turns turns' levels levels' : ℕ) → limit ≤ limit' → turns ≤ turns' → levels ≤ levels'
    → (n : Phrase) (s s' : Scope) (v : Value n) (looked : Bool) (front : List Token) (t : Token) (post other : List Token)
    → (looked ≡ true → next_touches t.at post ≡ next_touches t.at other)
    → reading limit turns levels n s false (front ++ t ∷ post) ≡ read v s' looked (t ∷ post)
    → reading limit' turns' levels' n s false (front ++ t ∷ other) ≡ read v s' looked (t ∷ other)

-- The reader answers that something is nested too deep only where a limit is passed at that place, and only where no script
-- within the limits is spelled.
abbrev pub NestsRightly : Type 0
NestsRightly = (limit levels : ℕ) → 2 ≤ limit → (tokens : List Token) (at : Span) → read_script limit levels tokens ≡ too_nested at
    → TooNestedAt limit levels (p.items no_items) top_level tokens at × ((found : Items) → IsScript limit levels tokens found → ⊥)

-- A script that is not within the limits is answered so: it is never read, and never refused as no script.
abbrev pub KeepsLimits : Type 0
KeepsLimits = (limit limit' levels levels' : ℕ) (tokens : List Token) (found : Items) → IsScript limit' levels' tokens found
    → ((other : Items) → IsScript limit levels tokens other → ⊥) → (at : Span) × (read_script limit levels tokens ≡ too_nested at)

-- each name that the tokens of a script give has its number
abbrev pub NamesAll : Type 0
NamesAll = (found : Items) → Each (λ w. number_of w.text (in_order (texts found.names)) ≡ Some ((numbering_of found).name w.text)) found.names

-- Where the tokens stand in the order of their text, so do the tokens that give the names of a script, and the blocks of its threads.
abbrev pub GivesInOrder : Type 0
GivesInOrder = (limit levels from to : ℕ) (tokens : List Token) (found : Items) → StandInOrder from to tokens → IsScript limit levels tokens found
    → Rising from to (places_of found.names) × Rising from to (blocks_of found.threads)

-- The bodies of the threads of a script have the numbers from 0 on, in the order of the text, where no two blocks stand at one place.
abbrev pub NumbersBodies : Type 0
NumbersBodies = (found : Items) → Distinct (blocks_of found.threads) → NumberedFrom (numbering_of found) 0 found.threads

-- What the trees of a script say of their nodes is so: heights, places, and that their numbers hang on the names that the tokens
-- give and on the threads alone. No node is higher than limit.
abbrev pub IsFaithfulTo : Type 0
IsFaithfulTo = (limit levels : ℕ) (tokens : List Token) (found : Items) → 2 ≤ limit → IsScript limit levels tokens found → ItemsAreFaithful limit found
