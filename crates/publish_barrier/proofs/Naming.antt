-- The references that values hold are the things among what the values are.
use Rattle.std.proofs.Common.{◌≡◌, List, [], ◌∷◌, ◌++◌, map, refl, sym, ap, ◌∙◌}
use Rattle.std.proofs.lemmas.List.{map-append}
use Rattle.rb_model.specs.declared.act.Act.{Act as Asked}
use Rattle.rb_model.specs.declared.act.Act.TheVariants as asked
use Rattle.rb_model.specs.declared.thing.Field.{Field as Told}
use Rattle.rb_model.specs.declared.thing.Thing.{Thing as Copied}
use Rattle.rb_model.specs.declared.thing.Thing.TheVariants as copied
use Rattle.rb_model.specs.declared.value.Ref.{Ref}
use Rattle.rb_model.specs.declared.value.Sort.{Sort}
use Rattle.rb_model.specs.declared.value.Sort.TheVariants as sort
use Rattle.rb_model.specs.declared.value.Value.{Value as Held}
use Rattle.rb_model.specs.declared.value.Value.TheVariants as value
use Rattle.rb_model.specs.Acts.{handed}
use Rattle.rb_model.specs.Doing.{doing, pair, seen, slot}
use Rattle.rb_model.specs.Immediates.{reference}
use Rattle.rb_model.specs.Moving.{refs_in, refs_in_act, refs_in_all, refs_in_pairs, refs_in_thing, sort_of_thing}
use Rattle.rb_model.specs.Things.{Thing, Object, Elements, Pairs, Mutex, Thread, mentioned}
use Rattle.rb_model.specs.Values.{Value as Val, Nil, False, True, Int, Sym, Str, To, plain}
use Rattle.publish_barrier.specs.Leaving.{IsNoThread, named, refs_in_fields, sides_of, things_in, values_of}

things-append : (vs ws : List Val) → things_in (vs ++ ws) ≡ things_in vs ++ things_in ws
things-append [] ws = refl
things-append (Nil ∷ vs) ws = things-append vs ws
things-append (False ∷ vs) ws = things-append vs ws
things-append (True ∷ vs) ws = things-append vs ws
things-append (Int n ∷ vs) ws = things-append vs ws
things-append (Sym n ∷ vs) ws = things-append vs ws
things-append (Str n ∷ vs) ws = things-append vs ws
things-append (To r ∷ vs) ws = ap (λ us. To r ∷ us) (things-append vs ws)

pub named-append : (rs ss : List Ref) → named (rs ++ ss) ≡ named rs ++ named ss
named-append rs ss = map-append (λ r. To (reference r)) rs ss

pub things_named : (rs : List Ref) → things_in (named rs) ≡ named rs
things_named [] = refl
things_named (r ∷ rs) = ap (λ us. To (reference r) ∷ us) (things_named rs)

-- ---- values, fields and pairs

join : (rs ss : List Ref) (vs ws : List Val) → named rs ≡ things_in vs → named ss ≡ things_in ws → named (rs ++ ss) ≡ things_in (vs ++ ws)
join rs ss vs ws e f = named-append rs ss ∙ ap (λ us. us ++ named ss) e ∙ ap (λ us. things_in vs ++ us) f ∙ sym (things-append vs ws)

pub named_value : (v : Held) → named (refs_in v) ≡ things_in (plain v ∷ [])
named_value value.Nil = refl
named_value value.False = refl
named_value value.True = refl
named_value (value.Int n) = refl
named_value (value.Sym n) = refl
named_value (value.Str bytes) = refl
named_value (value.Ref r) = refl

pub named_all : (vs : List Held) → named (refs_in_all vs) ≡ things_in (map plain vs)
named_all [] = refl
named_all (v ∷ vs) = join (refs_in v) (refs_in_all vs) (plain v ∷ []) (map plain vs) (named_value v) (named_all vs)

named_two : (v w : Held) → named (refs_in v ++ refs_in w) ≡ things_in (plain v ∷ plain w ∷ [])
named_two v w = join (refs_in v) (refs_in w) (plain v ∷ []) (plain w ∷ []) (named_value v) (named_value w)

named_fields : (fs : List Told) → named (refs_in_fields fs) ≡ things_in (values_of (map slot fs))
named_fields [] = refl
named_fields (f ∷ fs) = join (refs_in f.value) (refs_in_fields fs) (plain f.value ∷ []) (values_of (map slot fs)) (named_value f.value) (named_fields fs)

named_pairs : (ps : List (Held × Held)) → named (refs_in_pairs ps) ≡ things_in (sides_of (map pair ps))
named_pairs [] = refl
named_pairs (p ∷ ps) =
    join (refs_in p.0 ++ refs_in p.1) (refs_in_pairs ps) (plain p.0 ∷ plain p.1 ∷ []) (sides_of (map pair ps)) (named_two p.0 p.1) (named_pairs ps)

-- ---- things and acts

pub named_thing : (t : Copied) → IsNoThread (seen t) → named (refs_in_thing t) ≡ things_in (mentioned (seen t))
named_thing (copied.Object class fields) made = named_fields fields.items
named_thing (copied.Elements values) made = named_all values.items
named_thing (copied.Pairs pairs) made = named_pairs pairs.items
named_thing (copied.Mutex owner) made = refl
named_thing (copied.Thread state) made = absurd made

pub named_act : (a : Asked) → named (refs_in_act a) ≡ things_in (handed (doing a))
named_act (asked.GetField name) = refl
named_act (asked.SetField name v) = named_value v
named_act (asked.At i) = refl
named_act (asked.Put i v) = named_value v
named_act (asked.Push v) = named_value v
named_act (asked.Unshift v) = named_value v
named_act asked.Pop = refl
named_act asked.Shift = refl
named_act (asked.DeleteAt i) = refl
named_act (asked.KGet k) = named_value k
named_act (asked.KHas k) = named_value k
named_act (asked.KPut k v) = named_two k v
named_act (asked.KDelete k) = named_value k
named_act asked.Clear = refl
named_act asked.Len = refl
named_act asked.Copy = refl
named_act asked.Join = refl
named_act asked.Lock = refl
named_act asked.Unlock = refl

-- ---- sorts

abbrev sort_seen : Thing → Sort
sort_seen (Object class fields) = sort.Object class
sort_seen (Elements values) = sort.List
sort_seen (Pairs pairs) = sort.Pairs
sort_seen (Mutex owner) = sort.Mutex
sort_seen (Thread state) = sort.Thread

sort_is : (t : Copied) → sort_of_thing t ≡ sort_seen (seen t)
sort_is (copied.Object class fields) = refl
sort_is (copied.Elements values) = refl
sort_is (copied.Pairs pairs) = refl
sort_is (copied.Mutex owner) = refl
sort_is (copied.Thread state) = refl

-- the same content is of the same sort
pub same_sort : (a b : Copied) → seen a ≡ seen b → sort_of_thing a ≡ sort_of_thing b
same_sort a b e = sort_is a ∙ ap sort_seen e ∙ sym (sort_is b)
