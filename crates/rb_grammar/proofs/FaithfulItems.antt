-- Methods, classes and items are faithful where their trees are, with the names and the threads that they gather.
use Rattle.std.proofs.Common.{◌≡◌, ℕ, ◌≤◌, Bool, true, false, List, [], ◌∷◌, ◌++◌, map, refl, sym, ◌∙◌, arith}
use Rattle.std.specs.Prelude.{codes, if◌then◌else◌}
use Rattle.std.specs.Str.{bytes_eq}
use Rattle.std.proofs.lemmas.List.{map-append}
use Rattle.rb_tree.specs.Height.{block_height}
use Rattle.rb_grammar.specs.Tree.{Text, Word, Numbering, Thread, Tree, MethodTree, ClassTree, Members, Items}
use Rattle.rb_grammar.specs.Tree.{names_of, threads_of, texts, method_by, class_by, method_names, field_of, setter_of, reader_of, writer_of}
use Rattle.rb_grammar.specs.Tree as tree
use Rattle.rb_grammar.specs.Faithful.{Each, Agree, IsFaithful, MethodIsFaithful, ClassIsFaithful, ItemsAreFaithful}
use Rattle.rb_grammar.proofs.Each.{each_left, each_right, each_append}
use Rattle.rb_grammar.proofs.FaithfulTrees.{SameNames, SameBodies, SameBlocks, LowBlocks, names_left, names_right, nodes_same, params_same}
use Rattle.rb_grammar.proofs.FaithfulTrees.{trees_named, trees_bodied, trees_bodies_low, local_faithful, field_faithful, assigned_made}
use Rattle.rb_grammar.proofs.Faithfully.{MembersAreFaithful}

-- two makings of one list agree where they do on both halves
map_same : {X Y : Type 0} (f g : X → Y) (xs ys : List X) → map f xs ≡ map g xs → map f ys ≡ map g ys → map f (xs ++ ys) ≡ map g (xs ++ ys)
map_same f g xs ys p q = map-append f xs ys ∙ ((λ i. p i ++ q i) ∙ sym (map-append g xs ys))

-- the blocks of threads, one by one and as a list
blocks_same : (n m : Numbering) (ts : List Thread) → SameBlocks n m ts → map (λ t. t.block n) ts ≡ map (λ t. t.block m) ts
blocks_same n m [] h = refl
blocks_same n m (t ∷ ts) h = λ i. h.0 i ∷ blocks_same n m ts h.1 i

-- what holds of the threads of two lists holds of those of each
bodies_left : (n m : Numbering) (xs ys : List Thread) → SameBodies n m (xs ++ ys) → SameBodies n m xs
bodies_left n m = each_left (λ t. n.body t.at ≡ m.body t.at)

bodies_right : (n m : Numbering) (xs ys : List Thread) → SameBodies n m (xs ++ ys) → SameBodies n m ys
bodies_right n m = each_right (λ t. n.body t.at ≡ m.body t.at)

-- where no node is too high in the blocks of two lists of threads, none is in those of both
low_blocks : (limit : ℕ) (n : Numbering) (xs ys : List Thread) → LowBlocks limit n xs → LowBlocks limit n ys → LowBlocks limit n (xs ++ ys)
low_blocks limit n = each_append (λ t. block_height (t.block n) ≤ limit)

-- no methods, and no items
pub no_members_faithful : (limit : ℕ) → MembersAreFaithful limit tree.no_members
no_members_faithful limit = record { methods = tt; named = λ n m names bodies. refl; bodied = λ n m names bodies. tt; bodies_low = λ n. tt }

pub no_items_faithful : (limit : ℕ) → ItemsAreFaithful limit tree.no_items
no_items_faithful limit = record {
  classes = tt;
  functions = tt;
  main = tt;
  bodies_low = λ n. tt;
  named = λ n m agree. record { classes = refl; functions = refl; main = refl; bodies = refl };
}

module _ (limit : ℕ) where
  -- a method hangs on its names and threads alone
  method_same : (f : MethodTree) → MethodIsFaithful limit f → (n m : Numbering) → SameNames n m (method_names f) → SameBodies n m (threads_of f.body)
      → method_by n f ≡ method_by m f
  method_same f g n m names bodies =
      let params = params_same n m f.params (names_left n m f.params (names_of f.body) names.1) in
      let body = nodes_same n m f.body (trees_named limit f.body g n m (names_right n m f.params (names_of f.body) names.1) bodies) in
      λ i. record { name = names.0 i; params = params i; body = body i; at = f.name.at }

  -- and so do the blocks of the threads in it
  method_bodied : (f : MethodTree) → MethodIsFaithful limit f → (n m : Numbering) → SameNames n m (method_names f) → SameBodies n m (threads_of f.body)
      → SameBlocks n m (threads_of f.body)
  method_bodied f g n m names bodies = trees_bodied limit f.body g n m (names_right n m f.params (names_of f.body) names.1) bodies

  -- one more method
  pub with_method_faithful : (x : Members) (f : MethodTree) → MembersAreFaithful limit x → MethodIsFaithful limit f
      → MembersAreFaithful limit (tree.with_method x f)
  with_method_faithful x f g h = record {
    methods = each_append (MethodIsFaithful limit) x.methods (f ∷ []) g.methods (h, tt);
    named = λ n m names bodies.
        let own = method_same f h n m (names_right n m x.names (method_names f) names) (bodies_right n m x.threads (threads_of f.body) bodies) in
        map_same (method_by n) (method_by m) x.methods (f ∷ [])
        (g.named n m (names_left n m x.names (method_names f) names) (bodies_left n m x.threads (threads_of f.body) bodies))
        (λ i. own i ∷ []);
    bodied = λ n m names bodies.
        each_append (λ t. t.block n ≡ t.block m) x.threads (threads_of f.body)
        (g.bodied n m (names_left n m x.names (method_names f) names) (bodies_left n m x.threads (threads_of f.body) bodies))
        (method_bodied f h n m (names_right n m x.names (method_names f) names) (bodies_right n m x.threads (threads_of f.body) bodies));
    bodies_low = λ n. low_blocks limit n x.threads (threads_of f.body) (g.bodies_low n) (trees_bodies_low limit f.body h n);
  }

  -- ---- `attr` lines

  -- a node of one name is one high
  reader_faithful : 2 ≤ limit → (w : Word) → MethodIsFaithful limit (reader_of w)
  reader_faithful two w = (field_faithful limit (record { text = field_of w.text; at = w.at }) (omega arith), tt)

  -- an assignment of a local is two high
  writer_faithful : 2 ≤ limit → (w : Word) → MethodIsFaithful limit (writer_of w)
  writer_faithful two w = (
    (assigned_made limit (tree.to_field (record { text = field_of w.text; at = w.at })) w.at (tree.local (record { text = codes "v"; at = w.at })) tt
        (local_faithful limit (record { text = codes "v"; at = w.at }) (omega arith))).1 (omega arith),
    tt,
  )

  -- more methods without threads, and the names that they hang on
  with_methods : (x : Members) (fs : List MethodTree) (names : List Word) → MembersAreFaithful limit x → Each (MethodIsFaithful limit) fs
      → ((n m : Numbering) → SameNames n m names → map (method_by n) fs ≡ map (method_by m) fs)
      → MembersAreFaithful limit (record { methods = x.methods ++ fs; names = x.names ++ names; threads = x.threads })
  with_methods x fs names g h same = record {
    methods = each_append (MethodIsFaithful limit) x.methods fs g.methods h;
    named = λ n m both bodies.
        map_same (method_by n) (method_by m) x.methods fs (g.named n m (names_left n m x.names names both) bodies)
        (same n m (names_right n m x.names names both));
    bodied = λ n m both bodies. g.bodied n m (names_left n m x.names names both) bodies;
    bodies_low = g.bodies_low;
  }

  -- what one symbol adds, by what the word of its line is
  with_attribute : 2 ≤ limit → (x : Members) (reads writes : Bool) (w : Word) → MembersAreFaithful limit x
      → MembersAreFaithful limit (record {
        methods = x.methods ++ (if reads then reader_of w ∷ [] else if writes then writer_of w ∷ [] else reader_of w ∷ writer_of w ∷ []);
        names = x.names ++ (if reads then w ∷ tree.given (field_of w.text) w.at ∷ []
            else if writes then tree.given (field_of w.text) w.at ∷ tree.given (setter_of w.text) w.at ∷ tree.given (codes "v") w.at ∷ []
            else w ∷ tree.given (field_of w.text) w.at ∷ tree.given (setter_of w.text) w.at ∷ tree.given (codes "v") w.at ∷ []);
        threads = x.threads;
      })
  with_attribute two x true writes w g =
      with_methods x (reader_of w ∷ []) (w ∷ tree.given (field_of w.text) w.at ∷ []) g (reader_faithful two w, tt)
      (λ n m h. let read = method_same (reader_of w) (reader_faithful two w) n m h tt in λ i. read i ∷ [])
  with_attribute two x false true w g =
      with_methods x (writer_of w ∷ []) (tree.given (field_of w.text) w.at ∷ tree.given (setter_of w.text) w.at ∷ tree.given (codes "v") w.at ∷ []) g (writer_faithful two w, tt)
      (λ n m h.
      let write = method_same (writer_of w) (writer_faithful two w) n m (h.1.0, (h.1.1.0, (h.0, (h.1.1.0, tt)))) tt in
      λ i. write i ∷ [])
  with_attribute two x false false w g =
      with_methods x (reader_of w ∷ writer_of w ∷ []) (w ∷ tree.given (field_of w.text) w.at ∷ tree.given (setter_of w.text) w.at ∷ tree.given (codes "v") w.at ∷ []) g
      (reader_faithful two w, (writer_faithful two w, tt))
      (λ n m h.
      let read = method_same (reader_of w) (reader_faithful two w) n m (h.0, (h.1.0, tt)) tt in
      let write = method_same (writer_of w) (writer_faithful two w) n m (h.1.1.0, (h.1.1.1.0, (h.1.0, (h.1.1.1.0, tt)))) tt in
      λ i. read i ∷ write i ∷ [])

  -- a whole line
  pub with_attributes_faithful : 2 ≤ limit → (x : Members) (kind : Text) (ws : List Word) → MembersAreFaithful limit x
      → MembersAreFaithful limit (tree.with_attributes x kind ws)
  with_attributes_faithful two x kind [] g = g
  with_attributes_faithful two x kind (w ∷ ws) g =
      with_attributes_faithful two
      (record { methods = x.methods ++ tree.attribute_methods kind w; names = x.names ++ tree.attribute_names kind w; threads = x.threads }) kind ws
      (with_attribute two x (bytes_eq kind (codes "attr_reader")) (bytes_eq kind (codes "attr_writer")) w g)

  -- ---- items

  -- one more class, function or statement
  pub with_class_faithful : (x : Items) (c : ClassTree) → ItemsAreFaithful limit x → MembersAreFaithful limit c.members
      → ItemsAreFaithful limit (tree.with_class x c)
  with_class_faithful x c g h = record {
    classes = each_append (ClassIsFaithful limit) x.classes (c ∷ []) g.classes (h.methods, tt);
    functions = g.functions;
    main = g.main;
    bodies_low = λ n. low_blocks limit n x.threads c.members.threads (g.bodies_low n) (h.bodies_low n);
    named = λ n m agree.
        let before = g.named n m (record {
          named = names_left n m x.names (c.name ∷ c.members.names) agree.named;
          bodied = bodies_left n m x.threads c.members.threads agree.bodied;
        }) in
        let own = names_right n m x.names (c.name ∷ c.members.names) agree.named in
        let bodies = bodies_right n m x.threads c.members.threads agree.bodied in
        let methods = h.named n m own.1 bodies in
        record {
          classes = map_same (class_by n) (class_by m) x.classes (c ∷ []) before.classes
              (λ i. record { name = own.0 i; methods = methods i; at = c.name.at } ∷ []);
          functions = before.functions;
          main = before.main;
          bodies = map_same (λ t. t.block n) (λ t. t.block m) x.threads c.members.threads before.bodies
              (blocks_same n m c.members.threads (h.bodied n m own.1 bodies));
        };
  }

  pub with_function_faithful : (x : Items) (f : MethodTree) → ItemsAreFaithful limit x → MethodIsFaithful limit f
      → ItemsAreFaithful limit (tree.with_function x f)
  with_function_faithful x f g h = record {
    classes = g.classes;
    functions = each_append (MethodIsFaithful limit) x.functions (f ∷ []) g.functions (h, tt);
    main = g.main;
    bodies_low = λ n. low_blocks limit n x.threads (threads_of f.body) (g.bodies_low n) (trees_bodies_low limit f.body h n);
    named = λ n m agree.
        let before = g.named n m (record {
          named = names_left n m x.names (method_names f) agree.named;
          bodied = bodies_left n m x.threads (threads_of f.body) agree.bodied;
        }) in
        let names = names_right n m x.names (method_names f) agree.named in
        let bodies = bodies_right n m x.threads (threads_of f.body) agree.bodied in
        let own = method_same f h n m names bodies in
        record {
          classes = before.classes;
          functions = map_same (method_by n) (method_by m) x.functions (f ∷ []) before.functions (λ i. own i ∷ []);
          main = before.main;
          bodies = map_same (λ t. t.block n) (λ t. t.block m) x.threads (threads_of f.body) before.bodies
              (blocks_same n m (threads_of f.body) (method_bodied f h n m names bodies));
        };
  }

  pub with_statement_faithful : (x : Items) (a : Tree) → ItemsAreFaithful limit x → IsFaithful limit a → ItemsAreFaithful limit (tree.with_statement x a)
  with_statement_faithful x a g h = record {
    classes = g.classes;
    functions = g.functions;
    main = each_append (IsFaithful limit) x.main (a ∷ []) g.main (h, tt);
    bodies_low = λ n. low_blocks limit n x.threads a.threads (g.bodies_low n) (h.bodies_low n);
    named = λ n m agree.
        let before = g.named n m (record {
          named = names_left n m x.names a.names agree.named;
          bodied = bodies_left n m x.threads a.threads agree.bodied;
        }) in
        let own : Agree a.names a.threads n m = record {
          named = names_right n m x.names a.names agree.named;
          bodied = bodies_right n m x.threads a.threads agree.bodied;
        } in
        let same = h.named n m own in
        record {
          classes = before.classes;
          functions = before.functions;
          main = map_same (λ b. b.node n) (λ b. b.node m) x.main (a ∷ []) before.main (λ i. same i ∷ []);
          bodies = map_same (λ t. t.block n) (λ t. t.block m) x.threads a.threads before.bodies (blocks_same n m a.threads (h.bodied n m own));
        };
  }
