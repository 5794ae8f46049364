-- Methods, classes and the items of a script as the parser makes them, and those of the grammar that they are.
use Rattle.std.specs.Prelude.{◌∷◌, map}
use Rattle.rb_grammar.specs.Tree.{MethodTree, Members, ClassTree, Items, nodes, threads_of, method_by, class_by, method_names}
use Rattle.rb_builder.specs.Walk.{Walk}
use Rattle.rb_builder.specs.Said.{IsSaid}
use Rattle.rb_builder.specs.Grown.{Made}
use Rattle.rb_builder.specs.declared.script.GrownMethod as method
use Rattle.rb_builder.specs.declared.script.GrownMembers as members
use Rattle.rb_builder.specs.declared.script.GrownClass as class
use Rattle.rb_builder.specs.declared.script.GrownItems as items

pub record IsMethod (w : Walk) (m : method.GrownMethod) (a : MethodTree) : Type 0 where
  pub method : Made w m.method (λ n. method_by n a)
  pub said : IsSaid w m.said (method_names a) (threads_of a.body)

pub record AreMembers (w : Walk) (m : members.GrownMembers) (a : Members) : Type 0 where
  pub methods : Made w m.methods (λ n. map (method_by n) a.methods)
  pub said : IsSaid w m.said a.names a.threads

-- a class with its name and its members
pub record IsClass (w : Walk) (c : class.GrownClass) (a : ClassTree) : Type 0 where
  pub class : Made w c.class (λ n. class_by n a)
  pub said : IsSaid w c.said (a.name ∷ a.members.names) a.members.threads

pub record AreItems (w : Walk) (i : items.GrownItems) (a : Items) : Type 0 where
  pub classes : Made w i.classes (λ n. map (class_by n) a.classes)
  pub functions : Made w i.functions (λ n. map (method_by n) a.functions)
  pub main : Made w i.main (λ n. nodes n a.main)
  pub said : IsSaid w i.said a.names a.threads
