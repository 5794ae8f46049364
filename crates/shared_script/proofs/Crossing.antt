-- Both trees of a script may be read by any thread. That of the types which hold one another is their knot's, from what is known of the parts.
use denote.Ref.{NamedLft}
use denote.Param.Send.{IsSend, IsSync, sendable}
use Rattle.std.proofs.Crossing.{crosses}
use Rattle.std.proofs.option.Option.TheSendSync as option
use Rattle.sqlite_items.proofs.boxed.Boxed.TheSendSync as boxed
use Rattle.sqlite_items.proofs.items.Items.TheSendSync as items
use Rattle.rb_tree.proofs.names.Names.TheSendSync as names
use Rattle.rb_tree.proofs.node.Node.TheLaws.TheKnot as tree
use Rattle.rb_tree.specs.contracts.node.Block as Block
use Rattle.rb_tree.specs.contracts.node.Class as Class
use Rattle.rb_tree.specs.contracts.node.Method as Method
use Rattle.rb_tree.specs.contracts.node.Node as Node
use Rattle.rb_tree.specs.contracts.node.Program as Program
use Rattle.rb_builtin.proofs.builtin.Builtin.TheSendSync as builtin
use Rattle.rb_model.proofs.shared_text.SharedText.TheSendSync as text
use Rattle.rb_code.proofs.code.Code.TheLaws.TheKnot as code
use Rattle.rb_code.specs.contracts.code.Code as Code
use Rattle.rb_code.specs.contracts.scripted.CodeBody as CodeBody
use Rattle.rb_code.specs.contracts.scripted.CodeClass as CodeClass
use Rattle.rb_code.specs.contracts.scripted.CodeMethod as CodeMethod
use Rattle.rb_code.specs.contracts.scripted.CodeScript as CodeScript
use Rattle.shared_script.specs.contracts.Shared as Shared

-- A node of the syntax tree may be read by any thread,
pub node_sync : IsSync Node.the_row
node_sync = search (crosses, tree.crosses, sendable) depth 60 fits 20000

-- and so may a block of it,
pub block_sync : IsSync Block.the_row
block_sync = search (crosses, tree.crosses, sendable) depth 60 fits 20000

-- a method,
pub method_sync : IsSync Method.the_row
method_sync = search (node_sync, crosses, sendable) depth 60 fits 20000

-- a class,
pub class_sync : IsSync Class.the_row
class_sync = search (method_sync, crosses, sendable) depth 60 fits 20000

-- and a whole program.
pub program_sync : IsSync Program.the_row
program_sync = search (names.the_sync, class_sync, method_sync, block_sync, node_sync, crosses, sendable) depth 60 fits 20000

-- A node of the resolved tree may be read by any thread,
pub code_sync : IsSync Code.the_row
code_sync = search (builtin.the_sync, text.the_sync, items.the_sync, boxed.the_sync, option.the_field_sync, crosses, code.crosses, sendable) depth 60 fits 20000

-- and so may a method of it,
pub code_method_sync : IsSync CodeMethod.the_row
code_method_sync = search (code_sync, crosses, sendable) depth 60 fits 20000

-- a class,
pub code_class_sync : IsSync CodeClass.the_row
code_class_sync = search (code_method_sync, crosses, sendable) depth 60 fits 20000

-- the body of a thread,
pub code_body_sync : IsSync CodeBody.the_row
code_body_sync = search (code_sync, crosses, sendable) depth 60 fits 20000

-- and a whole script.
pub code_script_sync : IsSync CodeScript.the_row
code_script_sync = search (code_method_sync, code_class_sync, code_body_sync, code_sync, crosses, sendable) depth 60 fits 20000

-- What threads read of a script may be read by any thread,
pub shared_sync : (a : NamedLft) → IsSync (Shared.the_row a)
shared_sync a = search (program_sync, code_script_sync, sendable) depth 60

-- and handed to it.
pub shared_send : (a : NamedLft) → IsSend (Shared.the_row a)
shared_send a = search (program_sync, code_script_sync, sendable) depth 60

-- All of it, as a set for `search`.
pub ruleset shareable = (shared_sync, shared_send, program_sync, code_script_sync, crosses, sendable)
