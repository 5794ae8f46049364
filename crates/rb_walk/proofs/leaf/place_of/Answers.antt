use Rattle.std.proofs.Common.{sym, ap}
use Rattle.rb_tree.specs.Place.{place}
use Rattle.rb_code.proofs.Showing.{shows-array, shows-hash, shows-new_builtin, shows-nil, shows-false, shows-true, shows-self_ref, shows-field, shows-set_field, shows-update_field, shows-global, shows-set_global, shows-update_global, shows-new, shows-start, shows-own, shows-int, shows-sym, shows-str, shows-local, shows-set_local, shows-update_local, shows-update_element, shows-update_attribute, shows-store, shows-operate, shows-send, shows-walk, shows-function, shows-print, shows-and, shows-or, shows-not, shows-if, shows-while, shows-return, shows-break, shows-next}
use Rattle.rb_walk.proofs.leaf.place_of.Goals as goal

pub returns-in-Nil : goal.returns-in-Nil
returns-in-Nil c = sym (ap place (shows-nil c.args.code.now _ c.in-Nil.is))

pub returns-in-False : goal.returns-in-False
returns-in-False c = sym (ap place (shows-false c.args.code.now _ c.in-False.is))

pub returns-in-True : goal.returns-in-True
returns-in-True c = sym (ap place (shows-true c.args.code.now _ c.in-True.is))

pub returns-in-Int : goal.returns-in-Int
returns-in-Int c = sym (ap place (shows-int c.args.code.now _ _ c.in-Int.is))

pub returns-in-Sym : goal.returns-in-Sym
returns-in-Sym c = sym (ap place (shows-sym c.args.code.now _ _ c.in-Sym.is))

pub returns-in-Str : goal.returns-in-Str
returns-in-Str c = sym (ap place (shows-str c.args.code.now _ _ c.in-Str.is))

pub returns-in-Local : goal.returns-in-Local
returns-in-Local c = sym (ap place (shows-local c.args.code.now _ _ _ c.in-Local.is))

pub returns-in-SetLocal : goal.returns-in-SetLocal
returns-in-SetLocal c = sym (ap place (shows-set_local c.args.code.now _ _ _ _ c.in-SetLocal.is))

pub returns-in-UpdateLocal : goal.returns-in-UpdateLocal
returns-in-UpdateLocal c = sym (ap place (shows-update_local c.args.code.now _ _ _ _ _ c.in-UpdateLocal.is))

pub returns-in-UpdateElement : goal.returns-in-UpdateElement
returns-in-UpdateElement c = sym (ap place (shows-update_element c.args.code.now _ _ _ _ _ c.in-UpdateElement.is))

pub returns-in-UpdateAttribute : goal.returns-in-UpdateAttribute
returns-in-UpdateAttribute c = sym (ap place (shows-update_attribute c.args.code.now _ _ _ _ _ _ _ c.in-UpdateAttribute.is))

pub returns-in-Array : goal.returns-in-Array
returns-in-Array c = sym (ap place (shows-array c.args.code.now _ _ c.in-Array.is))

pub returns-in-Hash : goal.returns-in-Hash
returns-in-Hash c = sym (ap place (shows-hash c.args.code.now _ _ c.in-Hash.is))

pub returns-in-NewBuiltin : goal.returns-in-NewBuiltin
returns-in-NewBuiltin c = sym (ap place (shows-new_builtin c.args.code.now _ _ _ _ c.in-NewBuiltin.is))

pub returns-in-Store : goal.returns-in-Store
returns-in-Store c = sym (ap place (shows-store c.args.code.now _ _ _ _ _ c.in-Store.is))

pub returns-in-Operate : goal.returns-in-Operate
returns-in-Operate c = sym (ap place (shows-operate c.args.code.now _ _ _ _ _ c.in-Operate.is))

pub returns-in-Send : goal.returns-in-Send
returns-in-Send c = sym (ap place (shows-send c.args.code.now _ _ _ _ _ c.in-Send.is))

pub returns-in-Walk : goal.returns-in-Walk
returns-in-Walk c = sym (ap place (shows-walk c.args.code.now _ _ _ _ _ _ c.in-Walk.is))

pub returns-in-Function : goal.returns-in-Function
returns-in-Function c = sym (ap place (shows-function c.args.code.now _ _ _ _ c.in-Function.is))

pub returns-in-Print : goal.returns-in-Print
returns-in-Print c = sym (ap place (shows-print c.args.code.now _ _ _ _ c.in-Print.is))

pub returns-in-And : goal.returns-in-And
returns-in-And c = sym (ap place (shows-and c.args.code.now _ _ _ c.in-And.is))

pub returns-in-Or : goal.returns-in-Or
returns-in-Or c = sym (ap place (shows-or c.args.code.now _ _ _ c.in-Or.is))

pub returns-in-Not : goal.returns-in-Not
returns-in-Not c = sym (ap place (shows-not c.args.code.now _ _ c.in-Not.is))

pub returns-in-If : goal.returns-in-If
returns-in-If c = sym (ap place (shows-if c.args.code.now _ _ _ _ c.in-If.is))

pub returns-in-While : goal.returns-in-While
returns-in-While c = sym (ap place (shows-while c.args.code.now _ _ _ c.in-While.is))

pub returns-in-Return : goal.returns-in-Return
returns-in-Return c = sym (ap place (shows-return c.args.code.now _ _ c.in-Return.is))

pub returns-in-Break : goal.returns-in-Break
returns-in-Break c = sym (ap place (shows-break c.args.code.now _ c.in-Break.is))

pub returns-in-Next : goal.returns-in-Next
returns-in-Next c = sym (ap place (shows-next c.args.code.now _ c.in-Next.is))

pub returns-in-SelfRef : goal.returns-in-SelfRef
returns-in-SelfRef c = sym (ap place (shows-self_ref c.args.code.now _ c.in-SelfRef.is))

pub returns-in-Field : goal.returns-in-Field
returns-in-Field c = sym (ap place (shows-field c.args.code.now _ _ c.in-Field.is))

pub returns-in-SetField : goal.returns-in-SetField
returns-in-SetField c = sym (ap place (shows-set_field c.args.code.now _ _ _ c.in-SetField.is))

pub returns-in-UpdateField : goal.returns-in-UpdateField
returns-in-UpdateField c = sym (ap place (shows-update_field c.args.code.now _ _ _ _ c.in-UpdateField.is))

pub returns-in-Start : goal.returns-in-Start
returns-in-Start c = sym (ap place (shows-start c.args.code.now _ _ _ _ c.in-Start.is))

pub returns-in-New : goal.returns-in-New
returns-in-New c = sym (ap place (shows-new c.args.code.now _ _ _ _ _ c.in-New.is))

pub returns-in-Own : goal.returns-in-Own
returns-in-Own c = sym (ap place (shows-own c.args.code.now _ _ _ c.in-Own.is))

pub returns-in-Global : goal.returns-in-Global
returns-in-Global c = sym (ap place (shows-global c.args.code.now _ _ c.in-Global.is))

pub returns-in-SetGlobal : goal.returns-in-SetGlobal
returns-in-SetGlobal c = sym (ap place (shows-set_global c.args.code.now _ _ _ c.in-SetGlobal.is))

pub returns-in-UpdateGlobal : goal.returns-in-UpdateGlobal
returns-in-UpdateGlobal c = sym (ap place (shows-update_global c.args.code.now _ _ _ _ c.in-UpdateGlobal.is))
