-- The methods of `attr` lines, one behind the other.
use Rattle.std.proofs.Common.{◌≡◌, Bool, true, false, List, [], ◌∷◌, ◌++◌, refl, sym, subst, append_assoc}
use Rattle.std.specs.Prelude.{codes, if◌then◌else◌}
use Rattle.std.specs.Str.{bytes_eq}
use Rattle.rb_grammar.specs.Tree.{Text, Word, Thread, Members, MethodTree, given, field_of, setter_of, reader_of, writer_of, attribute_methods, attribute_names, with_attributes}
use Rattle.rb_builder.specs.Walk.{Walk}
use Rattle.rb_builder.specs.Script.{AreMembers}
use Rattle.rb_builder.specs.Attribute.{with_reader, with_writer}
use Rattle.rb_builder.specs.declared.script.GrownMembers.{GrownMembers}

-- the members of one more symbol are added to those of the symbols before
pub attributes-append : (m : Members) (kind : Text) (ws : List Word) (w : Word)
    → with_attributes m kind (ws ++ w ∷ []) ≡ with_attributes (with_attributes m kind ws) kind (w ∷ [])
attributes-append m kind [] w = refl
attributes-append m kind (v ∷ ws) w =
    attributes-append (record { methods = m.methods ++ attribute_methods kind v; names = m.names ++ attribute_names kind v; threads = m.threads }) kind ws w

-- the same methods and names
pub members_same : (w : Walk) (g : GrownMembers) {methods others : List MethodTree} {names more : List Word} {threads : List Thread} → methods ≡ others → names ≡ more
    → AreMembers w g (record { methods = methods; names = names; threads = threads }) → AreMembers w g (record { methods = others; names = more; threads = threads })
members_same w g {others = others} {names = names} {threads = threads} e f h =
    subst (λ x. AreMembers w g (record { methods = others; names = x; threads = threads })) f
    (subst (λ x. AreMembers w g (record { methods = x; names = names; threads = threads })) e h)

-- what a symbol makes, by the tests of its word
abbrev made_by : Bool → Bool → Members → Word → Members
made_by reads writes m w = record {
  methods = m.methods ++ (if reads then reader_of w ∷ [] else if writes then writer_of w ∷ [] else reader_of w ∷ writer_of w ∷ []);
  names = m.names ++ (if reads then w ∷ given (field_of w.text) w.at ∷ []
      else if writes then given (field_of w.text) w.at ∷ given (setter_of w.text) w.at ∷ given (codes "v") w.at ∷ []
      else w ∷ given (field_of w.text) w.at ∷ given (setter_of w.text) w.at ∷ given (codes "v") w.at ∷ []);
  threads = m.threads;
}

pub reader_added : (w : Walk) (g : GrownMembers) (m : Members) (kind : Text) (word : Word) → bytes_eq kind (codes "attr_reader") ≡ true
    → AreMembers w g (with_reader m word) → AreMembers w g (with_attributes m kind (word ∷ []))
reader_added w g m kind word reads h =
    subst (λ b. AreMembers w g (made_by b (bytes_eq kind (codes "attr_writer")) m word)) (sym reads) h

-- the name of the field, and what its writer gives behind it
pub writer_added : (w : Walk) (g : GrownMembers) (m : Members) (kind : Text) (word : Word)
    → bytes_eq kind (codes "attr_reader") ≡ false → bytes_eq kind (codes "attr_writer") ≡ true
    → AreMembers w g (with_writer (record { methods = m.methods; names = m.names ++ given (field_of word.text) word.at ∷ []; threads = m.threads }) word)
    → AreMembers w g (with_attributes m kind (word ∷ []))
writer_added w g m kind word reads writes h =
    subst (λ b. AreMembers w g (made_by b (bytes_eq kind (codes "attr_writer")) m word)) (sym reads)
    (subst (λ b. AreMembers w g (made_by false b m word)) (sym writes)
    (members_same w g {methods = m.methods ++ writer_of word ∷ []} refl
    (append_assoc m.names (given (field_of word.text) word.at ∷ []) (given (setter_of word.text) word.at ∷ given (codes "v") word.at ∷ [])) h))

pub both_added : (w : Walk) (g : GrownMembers) (m : Members) (kind : Text) (word : Word)
    → bytes_eq kind (codes "attr_reader") ≡ false → bytes_eq kind (codes "attr_writer") ≡ false
    → AreMembers w g (with_writer (with_reader m word) word) → AreMembers w g (with_attributes m kind (word ∷ []))
both_added w g m kind word reads writes h =
    subst (λ b. AreMembers w g (made_by b (bytes_eq kind (codes "attr_writer")) m word)) (sym reads)
    (subst (λ b. AreMembers w g (made_by false b m word)) (sym writes)
    (members_same w g
    (append_assoc m.methods (reader_of word ∷ []) (writer_of word ∷ []))
    (append_assoc m.names (word ∷ given (field_of word.text) word.at ∷ []) (given (setter_of word.text) word.at ∷ given (codes "v") word.at ∷ [])) h))
