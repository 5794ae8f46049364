-- One layer of where code is right.
use Rattle.std.proofs.Common.{◌≡◌, ℕ, List, map, Option, rules}
use Rattle.std.specs.Prelude.{not, ℤ}
use Rattle.std.specs.Option.{option_map}
use Rattle.rb_tree.specs.declared.span.Span.{Span}
use Rattle.rb_tree.specs.declared.span.NameId.{NameId}
use Rattle.rb_tree.specs.declared.node.AssignOp.{AssignOp}
use Rattle.rb_builtin.specs.declared.builtin.Builtin.{Builtin}
use Rattle.rb_render.specs.declared.show.Form.{Form}
use Rattle.rb_code.specs.declared.code.BuiltinClass.{BuiltinClass}
use Rattle.rb_code.specs.declared.code.Code.{Code, the_lemmas}
use Rattle.rb_code.specs.declared.code.Code.TheVariants as is
use Rattle.rb_code.specs.declared.code.CodePiece.{CodePiece}
use Rattle.rb_code.specs.declared.code.CodePiece.TheVariants as part
use Rattle.rb_code.specs.declared.code.CodeBlock.{CodeBlock}
use Rattle.std.specs.Prelude.{◌&&◌, ◌++◌, ◌+◌, ◌==◌, nat_le, true, is_none, length, codes}
use Rattle.std.specs.Str.{bytes_eq}
use Rattle.rb_machine.specs.Scopes.{Script, text_of}
use Rattle.rb_code.specs.Layout.{has_slot, have_slots, is_at}
use Rattle.rb_code.specs.Dispatch.{is_writer}
use Rattle.rb_code.specs.Resolved.{every, if_some, form_text, prints, function_of, has_number, is_free, is_made, is_builtin, is_even, fits, piece_fits, block_fits}

pub fits-nil : (S : Script) (names : List NameId) (size : ℕ) (at : Span) → fits S (is.Nil at) names size ≡ (true)
unfolding fits piece_fits block_fits
fits-nil S names size at = search (rules, the_lemmas)

pub fits-false : (S : Script) (names : List NameId) (size : ℕ) (at : Span) → fits S (is.False at) names size ≡ (true)
unfolding fits piece_fits block_fits
fits-false S names size at = search (rules, the_lemmas)

pub fits-true : (S : Script) (names : List NameId) (size : ℕ) (at : Span) → fits S (is.True at) names size ≡ (true)
unfolding fits piece_fits block_fits
fits-true S names size at = search (rules, the_lemmas)

pub fits-self_ref : (S : Script) (names : List NameId) (size : ℕ) (at : Span) → fits S (is.SelfRef at) names size ≡ (true)
unfolding fits piece_fits block_fits
fits-self_ref S names size at = search (rules, the_lemmas)

pub fits-int : (S : Script) (names : List NameId) (size : ℕ) (n : ℤ) (at : Span) → fits S (is.Int n at) names size ≡ (true)
unfolding fits piece_fits block_fits
fits-int S names size n at = search (rules, the_lemmas)

pub fits-sym : (S : Script) (names : List NameId) (size : ℕ) (name : NameId) (at : Span) → fits S (is.Sym name at) names size ≡ (true)
unfolding fits piece_fits block_fits
fits-sym S names size name at = search (rules, the_lemmas)

pub fits-str : (S : Script) (names : List NameId) (size : ℕ) (pieces : List CodePiece) (at : Span) → fits S (is.Str pieces at) names size ≡ (every (map (piece_fits S) pieces) names size)
unfolding fits piece_fits block_fits
fits-str S names size pieces at = search (rules, the_lemmas)

pub fits-local : (S : Script) (names : List NameId) (size : ℕ) (slot : ℕ) (name : NameId) (at : Span) → fits S (is.Local slot name at) names size ≡ (has_slot name names slot)
unfolding fits piece_fits block_fits
fits-local S names size slot name at = search (rules, the_lemmas)

pub fits-set_local : (S : Script) (names : List NameId) (size : ℕ) (slot : ℕ) (name : NameId) (value : Code) (at : Span) → fits S (is.SetLocal slot name value at) names size ≡ (has_slot name names slot && fits S value names size)
unfolding fits piece_fits block_fits
fits-set_local S names size slot name value at = search (rules, the_lemmas)

pub fits-field : (S : Script) (names : List NameId) (size : ℕ) (name : NameId) (at : Span) → fits S (is.Field name at) names size ≡ (true)
unfolding fits piece_fits block_fits
fits-field S names size name at = search (rules, the_lemmas)

pub fits-global : (S : Script) (names : List NameId) (size : ℕ) (name : NameId) (at : Span) → fits S (is.Global name at) names size ≡ (true)
unfolding fits piece_fits block_fits
fits-global S names size name at = search (rules, the_lemmas)

pub fits-set_field : (S : Script) (names : List NameId) (size : ℕ) (name : NameId) (value : Code) (at : Span) → fits S (is.SetField name value at) names size ≡ (fits S value names size)
unfolding fits piece_fits block_fits
fits-set_field S names size name value at = search (rules, the_lemmas)

pub fits-set_global : (S : Script) (names : List NameId) (size : ℕ) (name : NameId) (value : Code) (at : Span) → fits S (is.SetGlobal name value at) names size ≡ (fits S value names size)
unfolding fits piece_fits block_fits
fits-set_global S names size name value at = search (rules, the_lemmas)

pub fits-update_local : (S : Script) (names : List NameId) (size : ℕ) (slot : ℕ) (name : NameId) (op : AssignOp) (value : Code) (at : Span) → fits S (is.UpdateLocal slot name op value at) names size ≡ (has_slot name names slot && fits S value names size)
unfolding fits piece_fits block_fits
fits-update_local S names size slot name op value at = search (rules, the_lemmas)

pub fits-update_field : (S : Script) (names : List NameId) (size : ℕ) (name : NameId) (op : AssignOp) (value : Code) (at : Span) → fits S (is.UpdateField name op value at) names size ≡ (fits S value names size)
unfolding fits piece_fits block_fits
fits-update_field S names size name op value at = search (rules, the_lemmas)

pub fits-update_global : (S : Script) (names : List NameId) (size : ℕ) (name : NameId) (op : AssignOp) (value : Code) (at : Span) → fits S (is.UpdateGlobal name op value at) names size ≡ (fits S value names size)
unfolding fits piece_fits block_fits
fits-update_global S names size name op value at = search (rules, the_lemmas)

pub fits-update_element : (S : Script) (names : List NameId) (size : ℕ) (receiver : Code) (index : Code) (op : AssignOp) (value : Code) (at : Span) → fits S (is.UpdateElement receiver index op value at) names size ≡ (fits S receiver names size && (fits S index names size && fits S value names size))
unfolding fits piece_fits block_fits
fits-update_element S names size receiver index op value at = search (rules, the_lemmas)

pub fits-update_attribute : (S : Script) (names : List NameId) (size : ℕ) (number : Option Builtin) (writer : Option NameId) (name : NameId) (receiver : Code) (op : AssignOp) (value : Code) (at : Span)
    → fits S (is.UpdateAttribute number writer name receiver op value at) names size ≡ (has_number S number name && (is_writer S writer name && (is_free (text_of S name ++ codes "=") && (fits S receiver names size && fits S value names size))))
unfolding fits piece_fits block_fits
fits-update_attribute S names size number writer name receiver op value at = search (rules, the_lemmas)

pub fits-store : (S : Script) (names : List NameId) (size : ℕ) (number : Option Builtin) (receiver : Code) (name : NameId) (args : List Code) (at : Span) → fits S (is.Store number receiver name args at) names size ≡ (has_number S number name && (fits S receiver names size && every (map (fits S) args) names size))
unfolding fits piece_fits block_fits
fits-store S names size number receiver name args at = search (rules, the_lemmas)

pub fits-array : (S : Script) (names : List NameId) (size : ℕ) (items : List Code) (at : Span) → fits S (is.Array items at) names size ≡ (every (map (fits S) items) names size)
unfolding fits piece_fits block_fits
fits-array S names size items at = search (rules, the_lemmas)

pub fits-hash : (S : Script) (names : List NameId) (size : ℕ) (items : List Code) (at : Span) → fits S (is.Hash items at) names size ≡ (is_even (map (fits S) items) && every (map (fits S) items) names size)
unfolding fits piece_fits block_fits
fits-hash S names size items at = search (rules, the_lemmas)

pub fits-new_builtin : (S : Script) (names : List NameId) (size : ℕ) (class : BuiltinClass) (name : NameId) (args : List Code) (at : Span) → fits S (is.NewBuiltin class name args at) names size ≡ (is_builtin S class name && every (map (fits S) args) names size)
unfolding fits piece_fits block_fits
fits-new_builtin S names size class name args at = search (rules, the_lemmas)

pub fits-operate : (S : Script) (names : List NameId) (size : ℕ) (number : Option Builtin) (name : NameId) (left : Code) (right : Code) (at : Span) → fits S (is.Operate number name left right at) names size ≡ (has_number S number name && (fits S left names size && fits S right names size))
unfolding fits piece_fits block_fits
fits-operate S names size number name left right at = search (rules, the_lemmas)

pub fits-send : (S : Script) (names : List NameId) (size : ℕ) (number : Option Builtin) (name : NameId) (receiver : Code) (args : List Code) (at : Span) → fits S (is.Send number name receiver args at) names size ≡ (has_number S number name && (fits S receiver names size && every (map (fits S) args) names size))
unfolding fits piece_fits block_fits
fits-send S names size number name receiver args at = search (rules, the_lemmas)

pub fits-walk : (S : Script) (names : List NameId) (size : ℕ) (number : Option Builtin) (name : NameId) (receiver : Code) (args : List Code) (block : CodeBlock) (at : Span) → fits S (is.Walk number name receiver args block at) names size ≡ (has_number S number name && (fits S receiver names size && (every (map (fits S) args) names size && block_fits S block names size)))
unfolding fits piece_fits block_fits
fits-walk S names size number name receiver args block at = search (rules, the_lemmas)

pub fits-function : (S : Script) (names : List NameId) (size : ℕ) (number : ℕ) (name : NameId) (args : List Code) (at : Span) → fits S (is.Function number name args at) names size ≡ (is_at (function_of S name) number && every (map (fits S) args) names size)
unfolding fits piece_fits block_fits
fits-function S names size number name args at = search (rules, the_lemmas)

pub fits-own : (S : Script) (names : List NameId) (size : ℕ) (name : NameId) (args : List Code) (at : Span) → fits S (is.Own name args at) names size ≡ (is_none (function_of S name) && (not (prints (text_of S name)) && every (map (fits S) args) names size))
unfolding fits piece_fits block_fits
fits-own S names size name args at = search (rules, the_lemmas)

pub fits-new : (S : Script) (names : List NameId) (size : ℕ) (class : ℕ) (first : Option ℕ) (name : NameId) (args : List Code) (at : Span) → fits S (is.New class first name args at) names size ≡ (is_made S class first name && every (map (fits S) args) names size)
unfolding fits piece_fits block_fits
fits-new S names size class first name args at = search (rules, the_lemmas)

pub fits-start : (S : Script) (names : List NameId) (size : ℕ) (args : List Code) (body : ℕ) (slots : List ℕ) (at : Span) → fits S (is.Start args body slots at) names size ≡ (have_slots (S.captured_names body) names slots && every (map (fits S) args) names size)
unfolding fits piece_fits block_fits
fits-start S names size args body slots at = search (rules, the_lemmas)

pub fits-print : (S : Script) (names : List NameId) (size : ℕ) (form : Form) (name : NameId) (args : List Code) (at : Span) → fits S (is.Print form name args at) names size ≡ (is_none (function_of S name) && (bytes_eq (text_of S name) (form_text form) && every (map (fits S) args) names size))
unfolding fits piece_fits block_fits
fits-print S names size form name args at = search (rules, the_lemmas)

pub fits-and : (S : Script) (names : List NameId) (size : ℕ) (left : Code) (right : Code) (at : Span) → fits S (is.And left right at) names size ≡ (fits S left names size && fits S right names size)
unfolding fits piece_fits block_fits
fits-and S names size left right at = search (rules, the_lemmas)

pub fits-or : (S : Script) (names : List NameId) (size : ℕ) (left : Code) (right : Code) (at : Span) → fits S (is.Or left right at) names size ≡ (fits S left names size && fits S right names size)
unfolding fits piece_fits block_fits
fits-or S names size left right at = search (rules, the_lemmas)

pub fits-not : (S : Script) (names : List NameId) (size : ℕ) (value : Code) (at : Span) → fits S (is.Not value at) names size ≡ (fits S value names size)
unfolding fits piece_fits block_fits
fits-not S names size value at = search (rules, the_lemmas)

pub fits-if : (S : Script) (names : List NameId) (size : ℕ) (condition : Code) (first : List Code) (second : List Code) (at : Span) → fits S (is.If condition first second at) names size ≡ (fits S condition names size && (every (map (fits S) first) names size && every (map (fits S) second) names size))
unfolding fits piece_fits block_fits
fits-if S names size condition first second at = search (rules, the_lemmas)

pub fits-while : (S : Script) (names : List NameId) (size : ℕ) (condition : Code) (body : List Code) (at : Span) → fits S (is.While condition body at) names size ≡ (fits S condition names size && every (map (fits S) body) names size)
unfolding fits piece_fits block_fits
fits-while S names size condition body at = search (rules, the_lemmas)

pub fits-return : (S : Script) (names : List NameId) (size : ℕ) (value : Option Code) (at : Span) → fits S (is.Return value at) names size ≡ (if_some (option_map (fits S) value) names size)
unfolding fits piece_fits block_fits
fits-return S names size value at = search (rules, the_lemmas)

pub fits-break : (S : Script) (names : List NameId) (size : ℕ) (at : Span) → fits S (is.Break at) names size ≡ (true)
unfolding fits piece_fits block_fits
fits-break S names size at = search (rules, the_lemmas)

pub fits-next : (S : Script) (names : List NameId) (size : ℕ) (at : Span) → fits S (is.Next at) names size ≡ (true)
unfolding fits piece_fits block_fits
fits-next S names size at = search (rules, the_lemmas)

pub piece_fits-text : (S : Script) (names : List NameId) (size : ℕ) (bytes : List ℕ) → piece_fits S (part.Text bytes) names size ≡ true
unfolding fits piece_fits block_fits
piece_fits-text S names size bytes = search (rules, the_lemmas)

pub piece_fits-code : (S : Script) (names : List NameId) (size : ℕ) (c : Code) → piece_fits S (part.Code c) names size ≡ fits S c names size
unfolding fits piece_fits block_fits
piece_fits-code S names size c = search (rules, the_lemmas)

pub block_fits-parts : (S : Script) (names : List NameId) (size : ℕ) (b : CodeBlock)
    → block_fits S b names size ≡ ((b.from == length names) && ((b.count == length (S.block_names b.at)) && (nat_le (length names + length (S.block_names b.at)) size && every (map (fits S) b.body) (names ++ S.block_names b.at) size)))
unfolding fits piece_fits block_fits
block_fits-parts S names size b = search (rules, the_lemmas)
