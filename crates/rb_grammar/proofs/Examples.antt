-- The grammar by example: small token lists with the one program that they spell, and lists that begin no script. The line above
-- a fact is the source of its tokens.
use Rattle.std.proofs.Common.{◌≡◌, ℕ, pos, negsuc, zero, suc, Bool, true, false, List, [], ◌∷◌, ◌++◌, Some, None, codes, refl, lit≤}
use Rattle.rb_tree.specs.declared.span.Span.{Span}
use Rattle.rb_tree.specs.declared.span.NameId.{NameId}
use Rattle.rb_tree.specs.declared.node.AssignOp.TheVariants as op
use Rattle.rb_tree.specs.declared.node.Node.{Node}
use Rattle.rb_tree.specs.declared.node.Node.TheVariants as node
use Rattle.rb_tree.specs.declared.node.Piece.TheVariants as piece
use Rattle.rb_tree.specs.declared.node.Target.TheVariants as target
use Rattle.rb_tree.specs.declared.node.Block.{roll-Block}
use Rattle.rb_tree.specs.declared.node.Program.{Program}
use Rattle.rb_lexer.specs.declared.token.Token.{Token}
use Rattle.rb_lexer.specs.declared.token.TokenKind.{TokenKind}
use Rattle.rb_lexer.specs.declared.token.TokenKind.TheVariants as kind
use Rattle.rb_lexer.specs.declared.token.Keyword.TheVariants as keyword
use Rattle.rb_lexer.specs.declared.token.Mark.TheVariants as mark
use Rattle.rb_grammar.specs.Tree.{Items, no_items}
use Rattle.rb_grammar.specs.Scope.{Scope, top_level}
use Rattle.rb_grammar.specs.Phrase as p
use Rattle.rb_grammar.specs.Grammar.{rule}
use Rattle.rb_grammar.specs.Reading.{read, read_script}
use Rattle.rb_grammar.specs.Nesting.{TooNestedAt}
use Rattle.rb_grammar.specs.Script.{IsScript, BeginsNone}
use Rattle.rb_grammar.specs.Program.{program_of, IsProgram}
use Rattle.rb_grammar.proofs.Whole.{script_sound_in_turns, one_program, script_refuses, script_nests}

-- a token from a place up to another, with white space before it, or without
spaced : TokenKind → ℕ → ℕ → Token
spaced k a b = record { kind = k; at = record { from = a; to = b }; spaced = true }

glued : TokenKind → ℕ → ℕ → Token
glued k a b = record { kind = k; at = record { from = a; to = b }; spaced = false }

at : ℕ → ℕ → Span
at a b = record { from = a; to = b }

id : ℕ → NameId
id n = record { 0 = n }

-- an integer of one digit
whole : ℕ → ℕ → Node
whole n a = node.Int (pos n) (at a (suc a))

-- a program of statements, with its names
script : List (List ℕ) → List Node → Program
script names main = record { names = names; classes = []; functions = []; bodies = []; main = main }

-- the tokens spell this program, and no other within whatever limits
record SpellOne (tokens : List Token) (program : Program) : Type 0 where
  one : IsProgram 64 64 tokens program
  alone : (limit levels : ℕ) (other : Program) → IsProgram limit levels tokens other → other ≡ program

spelled_one : (tokens : List Token) (found : Items) (s : Scope) (seen : Bool) → read_script 64 64 tokens ≡ read found s seen [] → (program : Program) → program ≡ program_of found → SpellOne tokens program
spelled_one tokens found s seen e program made =
    let one : IsProgram 64 64 tokens program = record { found = found; script = script_sound_in_turns 64 64 tokens found s seen e; made = made } in
    record { one = one; alone = λ limit levels other d. one_program limit 64 levels 64 tokens other program d one }

-- ---- tokens and their one tree

-- a -1
a_minus_directly_before_an_integer_begins_an_argument : SpellOne (glued (kind.Ident (codes "a")) 0 1 ∷ spaced (kind.Mark mark.Minus) 2 3 ∷ glued (kind.Int (pos 1)) 3 4 ∷ glued kind.End 4 4 ∷ [])
    (script (codes "a" ∷ []) (node.Call None (id 0) (node.Int (negsuc 0) (at 2 3) ∷ []) None (at 0 1) ∷ []))
unfolding rule spaced glued at id whole script
a_minus_directly_before_an_integer_begins_an_argument = spelled_one _ _ _ _ refl _ refl

-- a - 1
a_minus_with_space_on_both_sides_is_an_operator : SpellOne (glued (kind.Ident (codes "a")) 0 1 ∷ spaced (kind.Mark mark.Minus) 2 3 ∷ spaced (kind.Int (pos 1)) 4 5 ∷ glued kind.End 5 5 ∷ [])
    (script (codes "a" ∷ codes "-" ∷ []) (node.Call (Some (node.Call None (id 0) [] None (at 0 1))) (id 1) (whole 1 4 ∷ []) None (at 2 3) ∷ []))
unfolding rule spaced glued at id whole script
a_minus_with_space_on_both_sides_is_an_operator = spelled_one _ _ _ _ refl _ refl

-- f - \n1
a_minus_before_a_line_end_is_an_operator : SpellOne (glued (kind.Ident (codes "f")) 0 1 ∷ spaced (kind.Mark mark.Minus) 2 3 ∷ glued (kind.Int (pos 1)) 5 6 ∷ glued kind.End 6 6 ∷ [])
    (script (codes "f" ∷ codes "-" ∷ []) (node.Call (Some (node.Call None (id 0) [] None (at 0 1))) (id 1) (whole 1 5 ∷ []) None (at 2 3) ∷ []))
unfolding rule spaced glued at id whole script
a_minus_before_a_line_end_is_an_operator = spelled_one _ _ _ _ refl _ refl

-- x = -\n1
a_minus_before_a_line_end_is_no_part_of_an_integer : SpellOne (glued (kind.Ident (codes "x")) 0 1 ∷ spaced (kind.Mark mark.Assign) 2 3 ∷ spaced (kind.Mark mark.Minus) 4 5 ∷ glued (kind.Int (pos 1)) 6 7 ∷ glued kind.End 7 7 ∷ [])
    (script (codes "x" ∷ codes "-@" ∷ []) (node.SetLocal (id 0) (node.Call (Some (whole 1 6)) (id 1) [] None (at 4 5)) (at 2 3) ∷ []))
unfolding rule spaced glued at id whole script
a_minus_before_a_line_end_is_no_part_of_an_integer = spelled_one _ _ _ _ refl _ refl

-- f -x
a_minus_before_a_word_begins_an_argument : SpellOne (glued (kind.Ident (codes "f")) 0 1 ∷ spaced (kind.Mark mark.Minus) 2 3 ∷ glued (kind.Ident (codes "x")) 3 4 ∷ glued kind.End 4 4 ∷ [])
    (script (codes "f" ∷ codes "-@" ∷ codes "x" ∷ []) (node.Call None (id 0) (node.Call (Some (node.Call None (id 2) [] None (at 3 4))) (id 1) [] None (at 2 3) ∷ []) None (at 0 1) ∷ []))
unfolding rule spaced glued at id whole script
a_minus_before_a_word_begins_an_argument = spelled_one _ _ _ _ refl _ refl

-- 1 - -1
a_minus_behind_an_operator_is_part_of_the_integer : SpellOne (glued (kind.Int (pos 1)) 0 1 ∷ spaced (kind.Mark mark.Minus) 2 3 ∷ spaced (kind.Mark mark.Minus) 4 5 ∷ glued (kind.Int (pos 1)) 5 6 ∷ glued kind.End 6 6 ∷ [])
    (script (codes "-" ∷ []) (node.Call (Some (whole 1 0)) (id 0) (node.Int (negsuc 0) (at 4 5) ∷ []) None (at 2 3) ∷ []))
unfolding rule spaced glued at id whole script
a_minus_behind_an_operator_is_part_of_the_integer = spelled_one _ _ _ _ refl _ refl

-- -2.x
a_negative_integer_is_a_receiver : SpellOne (glued (kind.Mark mark.Minus) 0 1 ∷ glued (kind.Int (pos 2)) 1 2 ∷ glued (kind.Mark mark.Dot) 2 3 ∷ glued (kind.Ident (codes "x")) 3 4 ∷ glued kind.End 4 4 ∷ [])
    (script (codes "x" ∷ []) (node.Call (Some (node.Int (negsuc 1) (at 0 1))) (id 0) [] None (at 3 4) ∷ []))
unfolding rule spaced glued at id whole script
a_negative_integer_is_a_receiver = spelled_one _ _ _ _ refl _ refl

-- puts (1) + 2
a_spaced_bracket_belongs_to_the_first_argument : SpellOne (glued (kind.Ident (codes "puts")) 0 4 ∷ spaced (kind.Mark mark.OpenParen) 5 6 ∷ glued (kind.Int (pos 1)) 6 7 ∷ glued (kind.Mark mark.CloseParen) 7 8 ∷ spaced (kind.Mark mark.Plus) 9 10 ∷ spaced (kind.Int (pos 2)) 11 12 ∷ glued kind.End 12 12 ∷ [])
    (script (codes "puts" ∷ codes "+" ∷ []) (node.Call None (id 0) (node.Call (Some (whole 1 6)) (id 1) (whole 2 11 ∷ []) None (at 9 10) ∷ []) None (at 0 4) ∷ []))
unfolding rule spaced glued at id whole script
a_spaced_bracket_belongs_to_the_first_argument = spelled_one _ _ _ _ refl _ refl

-- a [1]
a_spaced_bracket_begins_an_array : SpellOne (glued (kind.Ident (codes "a")) 0 1 ∷ spaced (kind.Mark mark.OpenBracket) 2 3 ∷ glued (kind.Int (pos 1)) 3 4 ∷ glued (kind.Mark mark.CloseBracket) 4 5 ∷ glued kind.End 5 5 ∷ [])
    (script (codes "a" ∷ []) (node.Call None (id 0) (node.Array (whole 1 3 ∷ []) (at 2 3) ∷ []) None (at 0 1) ∷ []))
unfolding rule spaced glued at id whole script
a_spaced_bracket_begins_an_array = spelled_one _ _ _ _ refl _ refl

-- a[1]
a_glued_bracket_is_an_index : SpellOne (glued (kind.Ident (codes "a")) 0 1 ∷ glued (kind.Mark mark.OpenBracket) 1 2 ∷ glued (kind.Int (pos 1)) 2 3 ∷ glued (kind.Mark mark.CloseBracket) 3 4 ∷ glued kind.End 4 4 ∷ [])
    (script (codes "a" ∷ codes "[]" ∷ []) (node.Call (Some (node.Call None (id 0) [] None (at 0 1))) (id 1) (whole 1 2 ∷ []) None (at 1 2) ∷ []))
unfolding rule spaced glued at id whole script
a_glued_bracket_is_an_index = spelled_one _ _ _ _ refl _ refl

-- while c do end
the_do_belongs_to_the_loop : SpellOne (glued (kind.Keyword keyword.While) 0 5 ∷ spaced (kind.Ident (codes "c")) 6 7 ∷ spaced (kind.Keyword keyword.Do) 8 10 ∷ spaced (kind.Keyword keyword.End) 11 14 ∷ glued kind.End 14 14 ∷ [])
    (script (codes "c" ∷ []) (node.While (node.Call None (id 0) [] None (at 6 7)) [] (at 0 5) ∷ []))
unfolding rule spaced glued at id whole script
the_do_belongs_to_the_loop = spelled_one _ _ _ _ refl _ refl

-- while a.each do end
the_do_belongs_to_the_loop_behind_each : SpellOne (glued (kind.Keyword keyword.While) 0 5 ∷ spaced (kind.Ident (codes "a")) 6 7 ∷ glued (kind.Mark mark.Dot) 7 8 ∷ glued (kind.Ident (codes "each")) 8 12 ∷ spaced (kind.Keyword keyword.Do) 13 15 ∷ spaced (kind.Keyword keyword.End) 16 19 ∷ glued kind.End 19 19 ∷ [])
    (script (codes "a" ∷ codes "each" ∷ []) (node.While (node.Call (Some (node.Call None (id 0) [] None (at 6 7))) (id 1) [] None (at 8 12)) [] (at 0 5) ∷ []))
unfolding rule spaced glued at id whole script
the_do_belongs_to_the_loop_behind_each = spelled_one _ _ _ _ refl _ refl

-- until c; b; end
until_is_a_loop_over_the_opposite : SpellOne (glued (kind.Keyword keyword.Until) 0 5 ∷ spaced (kind.Ident (codes "c")) 6 7 ∷ glued kind.Newline 7 8 ∷ spaced (kind.Ident (codes "b")) 9 10 ∷ glued kind.Newline 10 11 ∷ spaced (kind.Keyword keyword.End) 12 15 ∷ glued kind.End 15 15 ∷ [])
    (script (codes "c" ∷ codes "b" ∷ []) (node.While (node.Not (node.Call None (id 0) [] None (at 6 7)) (at 0 5)) (node.Call None (id 1) [] None (at 9 10) ∷ []) (at 0 5) ∷ []))
unfolding rule spaced glued at id whole script
until_is_a_loop_over_the_opposite = spelled_one _ _ _ _ refl _ refl

-- return if x
an_if_behind_return_is_a_modifier : SpellOne (glued (kind.Keyword keyword.Return) 0 6 ∷ spaced (kind.Keyword keyword.If) 7 9 ∷ spaced (kind.Ident (codes "x")) 10 11 ∷ glued kind.End 11 11 ∷ [])
    (script (codes "x" ∷ []) (node.If (node.Call None (id 0) [] None (at 10 11)) (node.Return None (at 0 6) ∷ []) [] (at 7 9) ∷ []))
unfolding rule spaced glued at id whole script
an_if_behind_return_is_a_modifier = spelled_one _ _ _ _ refl _ refl

-- x unless y
a_modifier_stands_behind_its_statement : SpellOne (glued (kind.Ident (codes "x")) 0 1 ∷ spaced (kind.Keyword keyword.Unless) 2 8 ∷ spaced (kind.Ident (codes "y")) 9 10 ∷ glued kind.End 10 10 ∷ [])
    (script (codes "x" ∷ codes "y" ∷ []) (node.If (node.Not (node.Call None (id 1) [] None (at 9 10)) (at 2 8)) (node.Call None (id 0) [] None (at 0 1) ∷ []) [] (at 2 8) ∷ []))
unfolding rule spaced glued at id whole script
a_modifier_stands_behind_its_statement = spelled_one _ _ _ _ refl _ refl

-- x = y = 1
assignments_group_to_the_right : SpellOne (glued (kind.Ident (codes "x")) 0 1 ∷ spaced (kind.Mark mark.Assign) 2 3 ∷ spaced (kind.Ident (codes "y")) 4 5 ∷ spaced (kind.Mark mark.Assign) 6 7 ∷ spaced (kind.Int (pos 1)) 8 9 ∷ glued kind.End 9 9 ∷ [])
    (script (codes "x" ∷ codes "y" ∷ []) (node.SetLocal (id 0) (node.SetLocal (id 1) (whole 1 8) (at 6 7)) (at 2 3) ∷ []))
unfolding rule spaced glued at id whole script
assignments_group_to_the_right = spelled_one _ _ _ _ refl _ refl

-- x = x
a_target_is_a_local_in_its_own_value : SpellOne (glued (kind.Ident (codes "x")) 0 1 ∷ spaced (kind.Mark mark.Assign) 2 3 ∷ spaced (kind.Ident (codes "x")) 4 5 ∷ glued kind.End 5 5 ∷ [])
    (script (codes "x" ∷ []) (node.SetLocal (id 0) (node.Local (id 0) (at 4 5)) (at 2 3) ∷ []))
unfolding rule spaced glued at id whole script
a_target_is_a_local_in_its_own_value = spelled_one _ _ _ _ refl _ refl

-- a ? b : c ? d : e
ternaries_group_to_the_right : SpellOne (glued (kind.Ident (codes "a")) 0 1 ∷ spaced (kind.Mark mark.Question) 2 3 ∷ spaced (kind.Ident (codes "b")) 4 5 ∷ spaced (kind.Mark mark.Colon) 6 7 ∷ spaced (kind.Ident (codes "c")) 8 9 ∷ spaced (kind.Mark mark.Question) 10 11 ∷ spaced (kind.Ident (codes "d")) 12 13 ∷ spaced (kind.Mark mark.Colon) 14 15 ∷ spaced (kind.Ident (codes "e")) 16 17 ∷ glued kind.End 17 17 ∷ [])
    (script (codes "a" ∷ codes "b" ∷ codes "c" ∷ codes "d" ∷ codes "e" ∷ []) (node.If (node.Call None (id 0) [] None (at 0 1)) (node.Call None (id 1) [] None (at 4 5) ∷ []) (node.If (node.Call None (id 2) [] None (at 8 9)) (node.Call None (id 3) [] None (at 12 13) ∷ []) (node.Call None (id 4) [] None (at 16 17) ∷ []) (at 10 11) ∷ []) (at 2 3) ∷ []))
unfolding rule spaced glued at id whole script
ternaries_group_to_the_right = spelled_one _ _ _ _ refl _ refl

-- !a == b
not_binds_tighter_than_equality : SpellOne (glued (kind.Mark mark.Not) 0 1 ∷ glued (kind.Ident (codes "a")) 1 2 ∷ spaced (kind.Mark mark.Equal) 3 5 ∷ spaced (kind.Ident (codes "b")) 6 7 ∷ glued kind.End 7 7 ∷ [])
    (script (codes "a" ∷ codes "==" ∷ codes "b" ∷ []) (node.Call (Some (node.Not (node.Call None (id 0) [] None (at 1 2)) (at 0 1))) (id 1) (node.Call None (id 2) [] None (at 6 7) ∷ []) None (at 3 5) ∷ []))
unfolding rule spaced glued at id whole script
not_binds_tighter_than_equality = spelled_one _ _ _ _ refl _ refl

-- 1 != 2
unequal_is_the_opposite_of_equal : SpellOne (glued (kind.Int (pos 1)) 0 1 ∷ spaced (kind.Mark mark.NotEqual) 2 4 ∷ spaced (kind.Int (pos 2)) 5 6 ∷ glued kind.End 6 6 ∷ [])
    (script (codes "==" ∷ []) (node.Not (node.Call (Some (whole 1 0)) (id 0) (whole 2 5 ∷ []) None (at 2 4)) (at 2 4) ∷ []))
unfolding rule spaced glued at id whole script
unequal_is_the_opposite_of_equal = spelled_one _ _ _ _ refl _ refl

-- 1 - 2 * 3 - 4
operators_group_to_the_left : SpellOne (glued (kind.Int (pos 1)) 0 1 ∷ spaced (kind.Mark mark.Minus) 2 3 ∷ spaced (kind.Int (pos 2)) 4 5 ∷ spaced (kind.Mark mark.Times) 6 7 ∷ spaced (kind.Int (pos 3)) 8 9 ∷ spaced (kind.Mark mark.Minus) 10 11 ∷ spaced (kind.Int (pos 4)) 12 13 ∷ glued kind.End 13 13 ∷ [])
    (script (codes "-" ∷ codes "*" ∷ []) (node.Call (Some (node.Call (Some (whole 1 0)) (id 0) (node.Call (Some (whole 2 4)) (id 1) (whole 3 8 ∷ []) None (at 6 7) ∷ []) None (at 2 3))) (id 0) (whole 4 12 ∷ []) None (at 10 11) ∷ []))
unfolding rule spaced glued at id whole script
operators_group_to_the_left = spelled_one _ _ _ _ refl _ refl

-- a || b && c
and_binds_tighter_than_or : SpellOne (glued (kind.Ident (codes "a")) 0 1 ∷ spaced (kind.Mark mark.OrOr) 2 4 ∷ spaced (kind.Ident (codes "b")) 5 6 ∷ spaced (kind.Mark mark.AndAnd) 7 9 ∷ spaced (kind.Ident (codes "c")) 10 11 ∷ glued kind.End 11 11 ∷ [])
    (script (codes "a" ∷ codes "b" ∷ codes "c" ∷ []) (node.Or (node.Call None (id 0) [] None (at 0 1)) (node.And (node.Call None (id 1) [] None (at 5 6)) (node.Call None (id 2) [] None (at 10 11)) (at 7 9)) (at 2 4) ∷ []))
unfolding rule spaced glued at id whole script
and_binds_tighter_than_or = spelled_one _ _ _ _ refl _ refl

-- f x = g 1, 2
a_comma_belongs_to_the_innermost_command : SpellOne (glued (kind.Ident (codes "f")) 0 1 ∷ spaced (kind.Ident (codes "x")) 2 3 ∷ spaced (kind.Mark mark.Assign) 4 5 ∷ spaced (kind.Ident (codes "g")) 6 7 ∷ spaced (kind.Int (pos 1)) 8 9 ∷ glued (kind.Mark mark.Comma) 9 10 ∷ spaced (kind.Int (pos 2)) 11 12 ∷ glued kind.End 12 12 ∷ [])
    (script (codes "f" ∷ codes "x" ∷ codes "g" ∷ []) (node.Call None (id 0) (node.SetLocal (id 1) (node.Call None (id 2) (whole 1 8 ∷ whole 2 11 ∷ []) None (at 6 7)) (at 4 5) ∷ []) None (at 0 1) ∷ []))
unfolding rule spaced glued at id whole script
a_comma_belongs_to_the_innermost_command = spelled_one _ _ _ _ refl _ refl

-- a.each do |v| v end
a_block_has_its_parameters_as_locals : SpellOne (glued (kind.Ident (codes "a")) 0 1 ∷ glued (kind.Mark mark.Dot) 1 2 ∷ glued (kind.Ident (codes "each")) 2 6 ∷ spaced (kind.Keyword keyword.Do) 7 9 ∷ spaced (kind.Mark mark.Bar) 10 11 ∷ glued (kind.Ident (codes "v")) 11 12 ∷ glued (kind.Mark mark.Bar) 12 13 ∷ spaced (kind.Ident (codes "v")) 14 15 ∷ spaced (kind.Keyword keyword.End) 16 19 ∷ glued kind.End 19 19 ∷ [])
    (script (codes "a" ∷ codes "each" ∷ codes "v" ∷ []) (node.Call (Some (node.Call None (id 0) [] None (at 0 1))) (id 1) [] (Some (roll-Block (record { params = record { name = (id 2); at = (at 11 12) } ∷ []; body = node.Local (id 2) (at 14 15) ∷ []; at = (at 7 9) }))) (at 2 6) ∷ []))
unfolding rule spaced glued at id whole script
a_block_has_its_parameters_as_locals = spelled_one _ _ _ _ refl _ refl

-- p a.map { 1 }
a_block_may_stand_in_an_argument_of_a_command : SpellOne (glued (kind.Ident (codes "p")) 0 1 ∷ spaced (kind.Ident (codes "a")) 2 3 ∷ glued (kind.Mark mark.Dot) 3 4 ∷ glued (kind.Ident (codes "map")) 4 7 ∷ spaced (kind.Mark mark.OpenBrace) 8 9 ∷ spaced (kind.Int (pos 1)) 10 11 ∷ spaced (kind.Mark mark.CloseBrace) 12 13 ∷ glued kind.End 13 13 ∷ [])
    (script (codes "p" ∷ codes "a" ∷ codes "map" ∷ []) (node.Call None (id 0) (node.Call (Some (node.Call None (id 1) [] None (at 2 3))) (id 2) [] (Some (roll-Block (record { params = []; body = whole 1 10 ∷ []; at = (at 8 9) }))) (at 4 7) ∷ []) None (at 0 1) ∷ []))
unfolding rule spaced glued at id whole script
a_block_may_stand_in_an_argument_of_a_command = spelled_one _ _ _ _ refl _ refl

-- a.upto(2) { }
a_block_stands_behind_brackets : SpellOne (glued (kind.Ident (codes "a")) 0 1 ∷ glued (kind.Mark mark.Dot) 1 2 ∷ glued (kind.Ident (codes "upto")) 2 6 ∷ glued (kind.Mark mark.OpenParen) 6 7 ∷ glued (kind.Int (pos 2)) 7 8 ∷ glued (kind.Mark mark.CloseParen) 8 9 ∷ spaced (kind.Mark mark.OpenBrace) 10 11 ∷ spaced (kind.Mark mark.CloseBrace) 12 13 ∷ glued kind.End 13 13 ∷ [])
    (script (codes "a" ∷ codes "upto" ∷ []) (node.Call (Some (node.Call None (id 0) [] None (at 0 1))) (id 1) (whole 2 7 ∷ []) (Some (roll-Block (record { params = []; body = []; at = (at 10 11) }))) (at 2 6) ∷ []))
unfolding rule spaced glued at id whole script
a_block_stands_behind_brackets = spelled_one _ _ _ _ refl _ refl

-- a[b]
an_index_gives_its_name_before_what_is_in_it : SpellOne (glued (kind.Ident (codes "a")) 0 1 ∷ glued (kind.Mark mark.OpenBracket) 1 2 ∷ glued (kind.Ident (codes "b")) 2 3 ∷ glued (kind.Mark mark.CloseBracket) 3 4 ∷ glued kind.End 4 4 ∷ [])
    (script (codes "a" ∷ codes "[]" ∷ codes "b" ∷ []) (node.Call (Some (node.Call None (id 0) [] None (at 0 1))) (id 1) (node.Call None (id 2) [] None (at 2 3) ∷ []) None (at 1 2) ∷ []))
unfolding rule spaced glued at id whole script
an_index_gives_its_name_before_what_is_in_it = spelled_one _ _ _ _ refl _ refl

-- a[b] = c - b
an_index_is_assigned : SpellOne (glued (kind.Ident (codes "a")) 0 1 ∷ glued (kind.Mark mark.OpenBracket) 1 2 ∷ glued (kind.Ident (codes "b")) 2 3 ∷ glued (kind.Mark mark.CloseBracket) 3 4 ∷ spaced (kind.Mark mark.Assign) 5 6 ∷ spaced (kind.Ident (codes "c")) 7 8 ∷ spaced (kind.Mark mark.Minus) 9 10 ∷ spaced (kind.Ident (codes "b")) 11 12 ∷ glued kind.End 12 12 ∷ [])
    (script (codes "a" ∷ codes "[]=" ∷ codes "b" ∷ codes "c" ∷ codes "-" ∷ []) (node.Store (node.Call None (id 0) [] None (at 0 1)) (id 1) (node.Call None (id 2) [] None (at 2 3) ∷ node.Call (Some (node.Call None (id 3) [] None (at 7 8))) (id 4) (node.Call None (id 2) [] None (at 11 12) ∷ []) None (at 9 10) ∷ []) (at 5 6) ∷ []))
unfolding rule spaced glued at id whole script
an_index_is_assigned = spelled_one _ _ _ _ refl _ refl

-- o.x = 1
an_attribute_is_assigned : SpellOne (glued (kind.Ident (codes "o")) 0 1 ∷ glued (kind.Mark mark.Dot) 1 2 ∷ glued (kind.Ident (codes "x")) 2 3 ∷ spaced (kind.Mark mark.Assign) 4 5 ∷ spaced (kind.Int (pos 1)) 6 7 ∷ glued kind.End 7 7 ∷ [])
    (script (codes "o" ∷ codes "x=" ∷ []) (node.Store (node.Call None (id 0) [] None (at 0 1)) (id 1) (whole 1 6 ∷ []) (at 4 5) ∷ []))
unfolding rule spaced glued at id whole script
an_attribute_is_assigned = spelled_one _ _ _ _ refl _ refl

-- o.x += 1
an_attribute_is_assigned_by_an_operator : SpellOne (glued (kind.Ident (codes "o")) 0 1 ∷ glued (kind.Mark mark.Dot) 1 2 ∷ glued (kind.Ident (codes "x")) 2 3 ∷ spaced (kind.Mark mark.PlusAssign) 4 6 ∷ spaced (kind.Int (pos 1)) 7 8 ∷ glued kind.End 8 8 ∷ [])
    (script (codes "o" ∷ codes "x" ∷ []) (node.OpAssign (target.Attribute (node.Call None (id 0) [] None (at 0 1)) (id 1)) op.Plus (whole 1 7) (at 4 6) ∷ []))
unfolding rule spaced glued at id whole script
an_attribute_is_assigned_by_an_operator = spelled_one _ _ _ _ refl _ refl

-- a[0] ||= 1
an_index_is_assigned_by_an_operator : SpellOne (glued (kind.Ident (codes "a")) 0 1 ∷ glued (kind.Mark mark.OpenBracket) 1 2 ∷ glued (kind.Int (pos 0)) 2 3 ∷ glued (kind.Mark mark.CloseBracket) 3 4 ∷ spaced (kind.Mark mark.OrAssign) 5 8 ∷ spaced (kind.Int (pos 1)) 9 10 ∷ glued kind.End 10 10 ∷ [])
    (script (codes "a" ∷ []) (node.OpAssign (target.Index (node.Call None (id 0) [] None (at 0 1)) (whole 0 2)) op.OrElse (whole 1 9) (at 5 8) ∷ []))
unfolding rule spaced glued at id whole script
an_index_is_assigned_by_an_operator = spelled_one _ _ _ _ refl _ refl

-- @a = $b
a_variable_is_assigned : SpellOne (glued (kind.Field (codes "@a")) 0 2 ∷ spaced (kind.Mark mark.Assign) 3 4 ∷ spaced (kind.Global (codes "$b")) 5 7 ∷ glued kind.End 7 7 ∷ [])
    (script (codes "@a" ∷ codes "$b" ∷ []) (node.SetField (id 0) (node.Global (id 1) (at 5 7)) (at 3 4) ∷ []))
unfolding rule spaced glued at id whole script
a_variable_is_assigned = spelled_one _ _ _ _ refl _ refl

-- { a: 1, 2 => b }
a_hash_has_labels_and_arrows : SpellOne (glued (kind.Mark mark.OpenBrace) 0 1 ∷ spaced (kind.Label (codes "a")) 2 4 ∷ spaced (kind.Int (pos 1)) 5 6 ∷ glued (kind.Mark mark.Comma) 6 7 ∷ spaced (kind.Int (pos 2)) 8 9 ∷ spaced (kind.Mark mark.Arrow) 10 12 ∷ spaced (kind.Ident (codes "b")) 13 14 ∷ spaced (kind.Mark mark.CloseBrace) 15 16 ∷ glued kind.End 16 16 ∷ [])
    (script (codes "a" ∷ codes "b" ∷ []) (node.Hash ((node.Sym (id 0) (at 2 4), whole 1 5) ∷ (whole 2 8, node.Call None (id 1) [] None (at 13 14)) ∷ []) (at 0 1) ∷ []))
unfolding rule spaced glued at id whole script
a_hash_has_labels_and_arrows = spelled_one _ _ _ _ refl _ refl

-- "a#{b}"
code_stands_in_a_text : SpellOne (glued kind.TextOpen 0 1 ∷ glued (kind.TextPiece (codes "a")) 1 2 ∷ glued kind.CodeOpen 2 4 ∷ glued (kind.Ident (codes "b")) 4 5 ∷ glued kind.CodeClose 5 6 ∷ glued kind.TextClose 6 7 ∷ glued kind.End 7 7 ∷ [])
    (script (codes "b" ∷ []) (node.Str (piece.Text (codes "a") ∷ piece.Code (node.Call None (id 0) [] None (at 4 5)) ∷ []) (at 0 1) ∷ []))
unfolding rule spaced glued at id whole script
code_stands_in_a_text = spelled_one _ _ _ _ refl _ refl

-- Foo.new 1
an_object_is_made_with_arguments : SpellOne (glued (kind.Const (codes "Foo")) 0 3 ∷ glued (kind.Mark mark.Dot) 3 4 ∷ glued (kind.Ident (codes "new")) 4 7 ∷ spaced (kind.Int (pos 1)) 8 9 ∷ glued kind.End 9 9 ∷ [])
    (script (codes "Foo" ∷ []) (node.New (id 0) (whole 1 8 ∷ []) (at 4 7) ∷ []))
unfolding rule spaced glued at id whole script
an_object_is_made_with_arguments = spelled_one _ _ _ _ refl _ refl

-- if a then 1 elsif b then 2 end
elsif_is_a_choice_in_the_other_branch : SpellOne (glued (kind.Keyword keyword.If) 0 2 ∷ spaced (kind.Ident (codes "a")) 3 4 ∷ spaced (kind.Keyword keyword.Then) 5 9 ∷ spaced (kind.Int (pos 1)) 10 11 ∷ spaced (kind.Keyword keyword.Elsif) 12 17 ∷ spaced (kind.Ident (codes "b")) 18 19 ∷ spaced (kind.Keyword keyword.Then) 20 24 ∷ spaced (kind.Int (pos 2)) 25 26 ∷ spaced (kind.Keyword keyword.End) 27 30 ∷ glued kind.End 30 30 ∷ [])
    (script (codes "a" ∷ codes "b" ∷ []) (node.If (node.Call None (id 0) [] None (at 3 4)) (whole 1 10 ∷ []) (node.If (node.Call None (id 1) [] None (at 18 19)) (whole 2 25 ∷ []) [] (at 12 17) ∷ []) (at 0 2) ∷ []))
unfolding rule spaced glued at id whole script
elsif_is_a_choice_in_the_other_branch = spelled_one _ _ _ _ refl _ refl

-- a.each { x = 1 }; x -1
a_local_of_a_block_is_none_behind_it : SpellOne (glued (kind.Ident (codes "a")) 0 1 ∷ glued (kind.Mark mark.Dot) 1 2 ∷ glued (kind.Ident (codes "each")) 2 6 ∷ spaced (kind.Mark mark.OpenBrace) 7 8 ∷ spaced (kind.Ident (codes "x")) 9 10 ∷ spaced (kind.Mark mark.Assign) 11 12 ∷ spaced (kind.Int (pos 1)) 13 14 ∷ spaced (kind.Mark mark.CloseBrace) 15 16 ∷ glued kind.Newline 16 17 ∷ spaced (kind.Ident (codes "x")) 18 19 ∷ spaced (kind.Mark mark.Minus) 20 21 ∷ glued (kind.Int (pos 1)) 21 22 ∷ glued kind.End 22 22 ∷ [])
    (script (codes "a" ∷ codes "each" ∷ codes "x" ∷ []) (node.Call (Some (node.Call None (id 0) [] None (at 0 1))) (id 1) [] (Some (roll-Block (record { params = []; body = node.SetLocal (id 2) (whole 1 13) (at 11 12) ∷ []; at = (at 7 8) }))) (at 2 6) ∷ node.Call None (id 2) (node.Int (negsuc 0) (at 20 21) ∷ []) None (at 18 19) ∷ []))
unfolding rule spaced glued at id whole script
a_local_of_a_block_is_none_behind_it = spelled_one _ _ _ _ refl _ refl

-- x = 1; a.each { x -1 }
a_block_sees_the_locals_round_it : SpellOne (glued (kind.Ident (codes "x")) 0 1 ∷ spaced (kind.Mark mark.Assign) 2 3 ∷ spaced (kind.Int (pos 1)) 4 5 ∷ glued kind.Newline 5 6 ∷ spaced (kind.Ident (codes "a")) 7 8 ∷ glued (kind.Mark mark.Dot) 8 9 ∷ glued (kind.Ident (codes "each")) 9 13 ∷ spaced (kind.Mark mark.OpenBrace) 14 15 ∷ spaced (kind.Ident (codes "x")) 16 17 ∷ spaced (kind.Mark mark.Minus) 18 19 ∷ glued (kind.Int (pos 1)) 19 20 ∷ spaced (kind.Mark mark.CloseBrace) 21 22 ∷ glued kind.End 22 22 ∷ [])
    (script (codes "x" ∷ codes "a" ∷ codes "each" ∷ codes "-" ∷ []) (node.SetLocal (id 0) (whole 1 4) (at 2 3) ∷ node.Call (Some (node.Call None (id 1) [] None (at 7 8))) (id 2) [] (Some (roll-Block (record { params = []; body = node.Call (Some (node.Local (id 0) (at 16 17))) (id 3) (whole 1 19 ∷ []) None (at 18 19) ∷ []; at = (at 14 15) }))) (at 9 13) ∷ []))
unfolding rule spaced glued at id whole script
a_block_sees_the_locals_round_it = spelled_one _ _ _ _ refl _ refl

-- x = 1; x -1
a_local_takes_no_arguments : SpellOne (glued (kind.Ident (codes "x")) 0 1 ∷ spaced (kind.Mark mark.Assign) 2 3 ∷ spaced (kind.Int (pos 1)) 4 5 ∷ glued kind.Newline 5 6 ∷ spaced (kind.Ident (codes "x")) 7 8 ∷ spaced (kind.Mark mark.Minus) 9 10 ∷ glued (kind.Int (pos 1)) 10 11 ∷ glued kind.End 11 11 ∷ [])
    (script (codes "x" ∷ codes "-" ∷ []) (node.SetLocal (id 0) (whole 1 4) (at 2 3) ∷ node.Call (Some (node.Local (id 0) (at 7 8))) (id 1) (whole 1 10 ∷ []) None (at 9 10) ∷ []))
unfolding rule spaced glued at id whole script
a_local_takes_no_arguments = spelled_one _ _ _ _ refl _ refl

-- def x=(v) v end
a_method_with_an_assignment_mark : SpellOne (glued (kind.Keyword keyword.Def) 0 3 ∷ spaced (kind.Ident (codes "x")) 4 5 ∷ glued (kind.Mark mark.Assign) 5 6 ∷ glued (kind.Mark mark.OpenParen) 6 7 ∷ glued (kind.Ident (codes "v")) 7 8 ∷ glued (kind.Mark mark.CloseParen) 8 9 ∷ spaced (kind.Ident (codes "v")) 10 11 ∷ spaced (kind.Keyword keyword.End) 12 15 ∷ glued kind.End 15 15 ∷ []) (record {
  names = codes "x=" ∷ codes "v" ∷ [];
  classes = [];
  functions = record { name = (id 0); params = record { name = (id 1); at = (at 7 8) } ∷ []; body = node.Local (id 1) (at 10 11) ∷ []; at = (at 4 5) } ∷ [];
  bodies = [];
  main = [];
})
unfolding rule spaced glued at id whole
a_method_with_an_assignment_mark = spelled_one _ _ _ _ refl _ refl

-- def f(x) x -1 end
a_parameter_is_a_local : SpellOne (glued (kind.Keyword keyword.Def) 0 3 ∷ spaced (kind.Ident (codes "f")) 4 5 ∷ glued (kind.Mark mark.OpenParen) 5 6 ∷ glued (kind.Ident (codes "x")) 6 7 ∷ glued (kind.Mark mark.CloseParen) 7 8 ∷ spaced (kind.Ident (codes "x")) 9 10 ∷ spaced (kind.Mark mark.Minus) 11 12 ∷ glued (kind.Int (pos 1)) 12 13 ∷ spaced (kind.Keyword keyword.End) 14 17 ∷ glued kind.End 17 17 ∷ []) (record {
  names = codes "f" ∷ codes "x" ∷ codes "-" ∷ [];
  classes = [];
  functions = record { name = (id 0); params = record { name = (id 1); at = (at 6 7) } ∷ []; body = node.Call (Some (node.Local (id 1) (at 9 10))) (id 2) (whole 1 12 ∷ []) None (at 11 12) ∷ []; at = (at 4 5) } ∷ [];
  bodies = [];
  main = [];
})
unfolding rule spaced glued at id whole
a_parameter_is_a_local = spelled_one _ _ _ _ refl _ refl

-- x = 1; def f; x -1 end
a_local_of_the_top_level_is_none_in_a_method : SpellOne (glued (kind.Ident (codes "x")) 0 1 ∷ spaced (kind.Mark mark.Assign) 2 3 ∷ spaced (kind.Int (pos 1)) 4 5 ∷ glued kind.Newline 5 6 ∷ spaced (kind.Keyword keyword.Def) 7 10 ∷ spaced (kind.Ident (codes "f")) 11 12 ∷ glued kind.Newline 12 13 ∷ spaced (kind.Ident (codes "x")) 14 15 ∷ spaced (kind.Mark mark.Minus) 16 17 ∷ glued (kind.Int (pos 1)) 17 18 ∷ spaced (kind.Keyword keyword.End) 19 22 ∷ glued kind.End 22 22 ∷ []) (record {
  names = codes "x" ∷ codes "f" ∷ [];
  classes = [];
  functions = record { name = (id 1); params = []; body = node.Call None (id 0) (node.Int (negsuc 0) (at 16 17) ∷ []) None (at 14 15) ∷ []; at = (at 11 12) } ∷ [];
  bodies = [];
  main = node.SetLocal (id 0) (whole 1 4) (at 2 3) ∷ [];
})
unfolding rule spaced glued at id whole
a_local_of_the_top_level_is_none_in_a_method = spelled_one _ _ _ _ refl _ refl

-- class A; attr_accessor :x; end
an_accessor_makes_two_methods : SpellOne (glued (kind.Keyword keyword.Class) 0 5 ∷ spaced (kind.Const (codes "A")) 6 7 ∷ glued kind.Newline 7 8 ∷ spaced (kind.Ident (codes "attr_accessor")) 9 22 ∷ spaced (kind.Symbol (codes "x")) 23 25 ∷ glued kind.Newline 25 26 ∷ spaced (kind.Keyword keyword.End) 27 30 ∷ glued kind.End 30 30 ∷ []) (record {
  names = codes "A" ∷ codes "x" ∷ codes "@x" ∷ codes "x=" ∷ codes "v" ∷ [];
  classes = record { name = (id 0); methods = record { name = (id 1); params = []; body = node.Field (id 2) (at 23 25) ∷ []; at = at 23 25 } ∷ record { name = (id 3); params = record { name = (id 4); at = at 23 25 } ∷ []; body = node.SetField (id 2) (node.Local (id 4) (at 23 25)) (at 23 25) ∷ []; at = at 23 25 } ∷ []; at = at 6 7 } ∷ [];
  functions = [];
  bodies = [];
  main = [];
})
unfolding rule spaced glued at id whole
an_accessor_makes_two_methods = spelled_one _ _ _ _ refl _ refl

-- class A; attr_writer :x; end
a_writer_gives_no_name_of_a_reader : SpellOne (glued (kind.Keyword keyword.Class) 0 5 ∷ spaced (kind.Const (codes "A")) 6 7 ∷ glued kind.Newline 7 8 ∷ spaced (kind.Ident (codes "attr_writer")) 9 20 ∷ spaced (kind.Symbol (codes "x")) 21 23 ∷ glued kind.Newline 23 24 ∷ spaced (kind.Keyword keyword.End) 25 28 ∷ glued kind.End 28 28 ∷ []) (record {
  names = codes "A" ∷ codes "@x" ∷ codes "x=" ∷ codes "v" ∷ [];
  classes = record { name = (id 0); methods = record { name = (id 2); params = record { name = (id 3); at = at 21 23 } ∷ []; body = node.SetField (id 1) (node.Local (id 3) (at 21 23)) (at 21 23) ∷ []; at = at 21 23 } ∷ []; at = at 6 7 } ∷ [];
  functions = [];
  bodies = [];
  main = [];
})
unfolding rule spaced glued at id whole
a_writer_gives_no_name_of_a_reader = spelled_one _ _ _ _ refl _ refl

-- Thread.new(a) { |b| Thread.new { 1 } }
bodies_of_threads_are_numbered_in_the_order_of_the_text : SpellOne (glued (kind.Const (codes "Thread")) 0 6 ∷ glued (kind.Mark mark.Dot) 6 7 ∷ glued (kind.Ident (codes "new")) 7 10 ∷ glued (kind.Mark mark.OpenParen) 10 11 ∷ glued (kind.Ident (codes "a")) 11 12 ∷ glued (kind.Mark mark.CloseParen) 12 13 ∷ spaced (kind.Mark mark.OpenBrace) 14 15 ∷ spaced (kind.Mark mark.Bar) 16 17 ∷ glued (kind.Ident (codes "b")) 17 18 ∷ glued (kind.Mark mark.Bar) 18 19 ∷ spaced (kind.Const (codes "Thread")) 20 26 ∷ glued (kind.Mark mark.Dot) 26 27 ∷ glued (kind.Ident (codes "new")) 27 30 ∷ spaced (kind.Mark mark.OpenBrace) 31 32 ∷ spaced (kind.Int (pos 1)) 33 34 ∷ spaced (kind.Mark mark.CloseBrace) 35 36 ∷ spaced (kind.Mark mark.CloseBrace) 37 38 ∷ glued kind.End 38 38 ∷ []) (record {
  names = codes "a" ∷ codes "b" ∷ [];
  classes = [];
  functions = [];
  bodies = roll-Block (record { params = record { name = (id 1); at = (at 17 18) } ∷ []; body = node.ThreadNew [] 1 (at 27 30) ∷ []; at = (at 14 15) }) ∷ roll-Block (record { params = []; body = whole 1 33 ∷ []; at = (at 31 32) }) ∷ [];
  main = node.ThreadNew (node.Call None (id 0) [] None (at 11 12) ∷ []) 0 (at 7 10) ∷ [];
})
unfolding rule spaced glued at id whole
bodies_of_threads_are_numbered_in_the_order_of_the_text = spelled_one _ _ _ _ refl _ refl

-- ---- tokens that begin no script

-- f x do end
no_block_behind_a_command : BeginsNone (glued (kind.Ident (codes "f")) 0 1 ∷ spaced (kind.Ident (codes "x")) 2 3 ∷ spaced (kind.Keyword keyword.Do) 4 6 ∷ spaced (kind.Keyword keyword.End) 7 10 ∷ glued kind.End 10 10 ∷ []) 4
unfolding rule spaced glued
no_block_behind_a_command = script_refuses 64 64 _ _ _ refl

-- a.b { 1 }
no_block_behind_a_call_of_another_name : BeginsNone (glued (kind.Ident (codes "a")) 0 1 ∷ glued (kind.Mark mark.Dot) 1 2 ∷ glued (kind.Ident (codes "b")) 2 3 ∷ spaced (kind.Mark mark.OpenBrace) 4 5 ∷ spaced (kind.Int (pos 1)) 6 7 ∷ spaced (kind.Mark mark.CloseBrace) 8 9 ∷ glued kind.End 9 9 ∷ []) 4
unfolding rule spaced glued
no_block_behind_a_call_of_another_name = script_refuses 64 64 _ _ _ refl

-- each { 1 }
no_block_behind_a_name_without_receiver : BeginsNone (glued (kind.Ident (codes "each")) 0 4 ∷ spaced (kind.Mark mark.OpenBrace) 5 6 ∷ spaced (kind.Int (pos 1)) 7 8 ∷ spaced (kind.Mark mark.CloseBrace) 9 10 ∷ glued kind.End 10 10 ∷ []) 5
unfolding rule spaced glued
no_block_behind_a_name_without_receiver = script_refuses 64 64 _ _ _ refl

-- 1 + f x
no_command_behind_an_operator : BeginsNone (glued (kind.Int (pos 1)) 0 1 ∷ spaced (kind.Mark mark.Plus) 2 3 ∷ spaced (kind.Ident (codes "f")) 4 5 ∷ spaced (kind.Ident (codes "x")) 6 7 ∷ glued kind.End 7 7 ∷ []) 6
unfolding rule spaced glued
no_command_behind_an_operator = script_refuses 64 64 _ _ _ refl

-- 1 + f -x
no_command_with_a_minus_behind_an_operator : BeginsNone (glued (kind.Int (pos 1)) 0 1 ∷ spaced (kind.Mark mark.Plus) 2 3 ∷ spaced (kind.Ident (codes "f")) 4 5 ∷ spaced (kind.Mark mark.Minus) 6 7 ∷ glued (kind.Ident (codes "x")) 7 8 ∷ glued kind.End 8 8 ∷ []) 7
unfolding rule spaced glued
no_command_with_a_minus_behind_an_operator = script_refuses 64 64 _ _ _ refl

-- [f 1]
no_command_in_an_array : BeginsNone (glued (kind.Mark mark.OpenBracket) 0 1 ∷ glued (kind.Ident (codes "f")) 1 2 ∷ spaced (kind.Int (pos 1)) 3 4 ∷ glued (kind.Mark mark.CloseBracket) 4 5 ∷ glued kind.End 5 5 ∷ []) 3
unfolding rule spaced glued
no_command_in_an_array = script_refuses 64 64 _ _ _ refl

-- g(f 1)
no_command_in_brackets_of_a_call : BeginsNone (glued (kind.Ident (codes "g")) 0 1 ∷ glued (kind.Mark mark.OpenParen) 1 2 ∷ glued (kind.Ident (codes "f")) 2 3 ∷ spaced (kind.Int (pos 1)) 4 5 ∷ glued (kind.Mark mark.CloseParen) 5 6 ∷ glued kind.End 6 6 ∷ []) 4
unfolding rule spaced glued
no_command_in_brackets_of_a_call = script_refuses 64 64 _ _ _ refl

-- x = 1; x [1]
no_index_of_a_local_with_a_space : BeginsNone (glued (kind.Ident (codes "x")) 0 1 ∷ spaced (kind.Mark mark.Assign) 2 3 ∷ spaced (kind.Int (pos 1)) 4 5 ∷ glued kind.Newline 5 6 ∷ spaced (kind.Ident (codes "x")) 7 8 ∷ spaced (kind.Mark mark.OpenBracket) 9 10 ∷ glued (kind.Int (pos 1)) 10 11 ∷ glued (kind.Mark mark.CloseBracket) 11 12 ∷ glued kind.End 12 12 ∷ []) 9
unfolding rule spaced glued
no_index_of_a_local_with_a_space = script_refuses 64 64 _ _ _ refl

-- a == b == c
no_second_equality : BeginsNone (glued (kind.Ident (codes "a")) 0 1 ∷ spaced (kind.Mark mark.Equal) 2 4 ∷ spaced (kind.Ident (codes "b")) 5 6 ∷ spaced (kind.Mark mark.Equal) 7 9 ∷ spaced (kind.Ident (codes "c")) 10 11 ∷ glued kind.End 11 11 ∷ []) 7
unfolding rule spaced glued
no_second_equality = script_refuses 64 64 _ _ _ refl

-- a ? b
no_condition_without_its_second_branch : BeginsNone (glued (kind.Ident (codes "a")) 0 1 ∷ spaced (kind.Mark mark.Question) 2 3 ∷ spaced (kind.Ident (codes "b")) 4 5 ∷ glued kind.End 5 5 ∷ []) 5
unfolding rule spaced glued
no_condition_without_its_second_branch = script_refuses 64 64 _ _ _ refl

-- unless a then b elsif
no_elsif_behind_unless : BeginsNone (glued (kind.Keyword keyword.Unless) 0 6 ∷ spaced (kind.Ident (codes "a")) 7 8 ∷ spaced (kind.Keyword keyword.Then) 9 13 ∷ spaced (kind.Ident (codes "b")) 14 15 ∷ spaced (kind.Keyword keyword.Elsif) 16 21 ∷ glued kind.End 21 21 ∷ []) 16
unfolding rule spaced glued
no_elsif_behind_unless = script_refuses 64 64 _ _ _ refl

-- f(1,)
no_comma_before_the_bracket_of_a_call : BeginsNone (glued (kind.Ident (codes "f")) 0 1 ∷ glued (kind.Mark mark.OpenParen) 1 2 ∷ glued (kind.Int (pos 1)) 2 3 ∷ glued (kind.Mark mark.Comma) 3 4 ∷ glued (kind.Mark mark.CloseParen) 4 5 ∷ glued kind.End 5 5 ∷ []) 4
unfolding rule spaced glued
no_comma_before_the_bracket_of_a_call = script_refuses 64 64 _ _ _ refl

-- a.each { } { }
no_second_block : BeginsNone (glued (kind.Ident (codes "a")) 0 1 ∷ glued (kind.Mark mark.Dot) 1 2 ∷ glued (kind.Ident (codes "each")) 2 6 ∷ spaced (kind.Mark mark.OpenBrace) 7 8 ∷ spaced (kind.Mark mark.CloseBrace) 9 10 ∷ spaced (kind.Mark mark.OpenBrace) 11 12 ∷ spaced (kind.Mark mark.CloseBrace) 13 14 ∷ glued kind.End 14 14 ∷ []) 11
unfolding rule spaced glued
no_second_block = script_refuses 64 64 _ _ _ refl

-- Thread.new
no_thread_without_its_block : BeginsNone (glued (kind.Const (codes "Thread")) 0 6 ∷ glued (kind.Mark mark.Dot) 6 7 ∷ glued (kind.Ident (codes "new")) 7 10 ∷ glued kind.End 10 10 ∷ []) 10
unfolding rule spaced glued
no_thread_without_its_block = script_refuses 64 64 _ _ _ refl

-- Thread.new 1
no_thread_with_arguments_without_brackets : BeginsNone (glued (kind.Const (codes "Thread")) 0 6 ∷ glued (kind.Mark mark.Dot) 6 7 ∷ glued (kind.Ident (codes "new")) 7 10 ∷ spaced (kind.Int (pos 1)) 11 12 ∷ glued kind.End 12 12 ∷ []) 11
unfolding rule spaced glued
no_thread_with_arguments_without_brackets = script_refuses 64 64 _ _ _ refl

-- x? = 1
no_assignment_to_a_question : BeginsNone (glued (kind.Ident (codes "x?")) 0 2 ∷ spaced (kind.Mark mark.Assign) 3 4 ∷ spaced (kind.Int (pos 1)) 5 6 ∷ glued kind.End 6 6 ∷ []) 3
unfolding rule spaced glued
no_assignment_to_a_question = script_refuses 64 64 _ _ _ refl

-- 1 = 2
no_assignment_to_an_integer : BeginsNone (glued (kind.Int (pos 1)) 0 1 ∷ spaced (kind.Mark mark.Assign) 2 3 ∷ spaced (kind.Int (pos 2)) 4 5 ∷ glued kind.End 5 5 ∷ []) 2
unfolding rule spaced glued
no_assignment_to_an_integer = script_refuses 64 64 _ _ _ refl

-- a + b = 1
no_assignment_to_a_sum : BeginsNone (glued (kind.Ident (codes "a")) 0 1 ∷ spaced (kind.Mark mark.Plus) 2 3 ∷ spaced (kind.Ident (codes "b")) 4 5 ∷ spaced (kind.Mark mark.Assign) 6 7 ∷ spaced (kind.Int (pos 1)) 8 9 ∷ glued kind.End 9 9 ∷ []) 6
unfolding rule spaced glued
no_assignment_to_a_sum = script_refuses 64 64 _ _ _ refl

-- def x=(a, b) end
no_two_parameters_behind_an_assignment_mark : BeginsNone (glued (kind.Keyword keyword.Def) 0 3 ∷ spaced (kind.Ident (codes "x")) 4 5 ∷ glued (kind.Mark mark.Assign) 5 6 ∷ glued (kind.Mark mark.OpenParen) 6 7 ∷ glued (kind.Ident (codes "a")) 7 8 ∷ glued (kind.Mark mark.Comma) 8 9 ∷ spaced (kind.Ident (codes "b")) 10 11 ∷ glued (kind.Mark mark.CloseParen) 11 12 ∷ spaced (kind.Keyword keyword.End) 13 16 ∷ glued kind.End 16 16 ∷ []) 8
unfolding rule spaced glued
no_two_parameters_behind_an_assignment_mark = script_refuses 64 64 _ _ _ refl

-- a.map { |v?| 1 }
no_parameter_that_asks : BeginsNone (glued (kind.Ident (codes "a")) 0 1 ∷ glued (kind.Mark mark.Dot) 1 2 ∷ glued (kind.Ident (codes "map")) 2 5 ∷ spaced (kind.Mark mark.OpenBrace) 6 7 ∷ spaced (kind.Mark mark.Bar) 8 9 ∷ glued (kind.Ident (codes "v?")) 9 11 ∷ glued (kind.Mark mark.Bar) 11 12 ∷ spaced (kind.Int (pos 1)) 13 14 ∷ spaced (kind.Mark mark.CloseBrace) 15 16 ∷ glued kind.End 16 16 ∷ []) 9
unfolding rule spaced glued
no_parameter_that_asks = script_refuses 64 64 _ _ _ refl

-- x = return
no_return_in_an_expression : BeginsNone (glued (kind.Ident (codes "x")) 0 1 ∷ spaced (kind.Mark mark.Assign) 2 3 ∷ spaced (kind.Keyword keyword.Return) 4 10 ∷ glued kind.End 10 10 ∷ []) 4
unfolding rule spaced glued
no_return_in_an_expression = script_refuses 64 64 _ _ _ refl

-- class a
no_class_with_a_small_letter : BeginsNone (glued (kind.Keyword keyword.Class) 0 5 ∷ spaced (kind.Ident (codes "a")) 6 7 ∷ glued kind.End 7 7 ∷ []) 6
unfolding rule spaced glued
no_class_with_a_small_letter = script_refuses 64 64 _ _ _ refl

-- class A
no_class_in_one_line : BeginsNone (glued (kind.Keyword keyword.Class) 0 5 ∷ spaced (kind.Const (codes "A")) 6 7 ∷ glued kind.End 7 7 ∷ []) 7
unfolding rule spaced glued
no_class_in_one_line = script_refuses 64 64 _ _ _ refl

-- puts 1 2
no_two_arguments_without_a_comma : BeginsNone (glued (kind.Ident (codes "puts")) 0 4 ∷ spaced (kind.Int (pos 1)) 5 6 ∷ spaced (kind.Int (pos 2)) 7 8 ∷ glued kind.End 8 8 ∷ []) 7
unfolding rule spaced glued
no_two_arguments_without_a_comma = script_refuses 64 64 _ _ _ refl

-- p a.each do end
no_do_block_in_the_arguments_of_a_command : BeginsNone (glued (kind.Ident (codes "p")) 0 1 ∷ spaced (kind.Ident (codes "a")) 2 3 ∷ glued (kind.Mark mark.Dot) 3 4 ∷ glued (kind.Ident (codes "each")) 4 8 ∷ spaced (kind.Keyword keyword.Do) 9 11 ∷ spaced (kind.Keyword keyword.End) 12 15 ∷ glued kind.End 15 15 ∷ []) 9
unfolding rule spaced glued
no_do_block_in_the_arguments_of_a_command = script_refuses 64 64 _ _ _ refl

-- 1 + * 2
no_operator_behind_an_operator : BeginsNone (glued (kind.Int (pos 1)) 0 1 ∷ spaced (kind.Mark mark.Plus) 2 3 ∷ spaced (kind.Mark mark.Times) 4 5 ∷ spaced (kind.Int (pos 2)) 6 7 ∷ glued kind.End 7 7 ∷ []) 4
unfolding rule spaced glued
no_operator_behind_an_operator = script_refuses 64 64 _ _ _ refl

-- ---- too much that is open, and nodes that are too high

-- something passes a limit at this place, and no script within the limits is spelled
TooDeep : List Token → Span → Type 0
TooDeep tokens place = TooNestedAt 64 64 (p.items no_items) top_level tokens place × ((found : Items) → IsScript 64 64 tokens found → ⊥)

-- so many opening brackets from a place on
opening : ℕ → ℕ → List Token
opening zero a = []
opening (suc n) a = glued (kind.Mark mark.OpenParen) a (suc a) ∷ opening n (suc a)

-- so many closing brackets from a place on, up to the end
closing : ℕ → ℕ → List Token
closing zero a = glued kind.End a a ∷ []
closing (suc n) a = glued (kind.Mark mark.CloseParen) a (suc a) ∷ closing n (suc a)

-- so many times `+1` from a place on, up to the end
adding : ℕ → ℕ → List Token
adding zero a = glued kind.End a a ∷ []
adding (suc n) a = glued (kind.Mark mark.Plus) a (suc a) ∷ glued (kind.Int (pos 1)) (suc a) (suc (suc a)) ∷ adding n (suc (suc a))

-- 64 times `(`, `1`, 64 times `)`
brackets_64_deep : SpellOne (opening 64 0 ++ glued (kind.Int (pos 1)) 64 65 ∷ closing 64 65) (script [] (whole 1 64 ∷ []))
unfolding rule glued at whole script opening closing
brackets_64_deep = spelled_one _ _ _ _ refl _ refl

-- the same with 65, at the last of them
brackets_65_deep : TooDeep (opening 65 0 ++ glued (kind.Int (pos 1)) 65 66 ∷ closing 65 66) (at 64 65)
unfolding rule glued at TooDeep opening closing
brackets_65_deep = script_nests 64 64 (lit≤ tt) _ _ refl

-- `1` and 64 times `+1`, at the last mark
sums_65_high : TooDeep (glued (kind.Int (pos 1)) 0 1 ∷ adding 64 1) (at 127 128)
unfolding rule glued at TooDeep adding
sums_65_high = script_nests 64 64 (lit≤ tt) _ _ refl
