-- One layer of what code stands for.
use Rattle.std.proofs.Common.{◌≡◌, refl, Option, Some, None, true}
use Rattle.rb_builtin.specs.declared.builtin.Builtin.{Builtin}
use Rattle.rb_builtin.specs.Names.{name_of, same_number}
use Rattle.rb_tree.proofs.Numbering.{bytes_eq-same}
use Rattle.rb_code.proofs.Erasing.{erase-nil, erase-false, erase-true, erase-self_ref, erase-int, erase-sym, erase-str, erase-array, erase-hash, erase-local, erase-set_local, erase-field, erase-set_field, erase-global, erase-set_global, erase-update_global, erase-update_local, erase-update_field, erase-update_element, erase-update_attribute, erase-store, erase-operate, erase-send, erase-walk, erase-function, erase-own, erase-new, erase-new_builtin, erase-start, erase-print, erase-and, erase-or, erase-not, erase-if, erase-while, erase-return, erase-break, erase-next, erase_piece-text, erase_piece-code}

-- a number is the same as itself
pub same_number_itself : (o : Option Builtin) → same_number o o ≡ true
same_number_itself None = refl
same_number_itself (Some b) = bytes_eq-same (name_of b) (name_of b) refl

pub ruleset erasing = (erase-nil, erase-false, erase-true, erase-self_ref, erase-int, erase-sym, erase-str, erase-array, erase-hash, erase-local, erase-set_local, erase-field, erase-set_field, erase-global, erase-set_global, erase-update_global, erase-update_local, erase-update_field, erase-update_element, erase-update_attribute, erase-store, erase-operate, erase-send, erase-walk, erase-function, erase-own, erase-new, erase-new_builtin, erase-start, erase-print, erase-and, erase-or, erase-not, erase-if, erase-while, erase-return, erase-break, erase-next, erase_piece-text, erase_piece-code)
