-- Immediate values that things answer at once.
use Rattle.std.proofs.Common.{◌≡◌, ◌∙◌, ◌<◌, ◌≤◌, ◌+◌, ◌-◌, ℕ, Bool, true, false, List, [], ◌∷◌, length, Option, Some, None, refl, sym, ap, arith}
use Rattle.std.specs.Prelude.{ℤ, IfSome, is_some}
use Rattle.rb_tree.specs.declared.span.NameId.{NameId}
use Rattle.rb_model.specs.declared.immediate.Immediate.{Immediate}
use Rattle.rb_model.specs.declared.immediate.Immediate.TheVariants as immediate
use Rattle.rb_model.specs.declared.value.Ref.{Ref}
use Rattle.rb_model.specs.declared.value.Value.{Value as Held}
use Rattle.rb_model.specs.Values.{Value as Val, Reference, Nil, False, True, Int, Sym, Str, To}
use Rattle.rb_model.specs.Acts.{Act, At, Reply}
use Rattle.rb_model.specs.Acts as reply
use Rattle.rb_model.specs.Things.{Thing, Object, Elements, Pairs, Mutex, Thread, gives, gives_to}
use Rattle.rb_model.specs.Private.{Private, Gives, Becomes, held}
use Rattle.rb_model.specs.Immediates.{if_list, list_answered, list_replied, reference, told, told_reply, told_answer, value_told}
use Rattle.rb_model.specs.declared.value.Id.{Id}
use Rattle.rb_model.specs.declared.value.Sort.{Sort as Kind}
use Rattle.rb_model.specs.declared.value.Sort.TheVariants as Sort
use Rattle.rb_tree.specs.declared.span.Span.{Span}
use Rattle.rb_model.specs.Log.{Log}
use Rattle.rb_machine.specs.Scopes.{Script, Scope, Text, text_of}
use Rattle.rb_machine.specs.Call.{texted, methods_of, methods_of_sort}
use Rattle.rb_machine.specs.Control.{State, On, Cont, Then, Under, Eval, Give, ReceiverOf, Argument, OnReceiver}
use Rattle.rb_machine.specs.Follows.{At as Stands}
use Rattle.rb_builtin.specs.declared.builtin.Builtin.{Builtin}
use Rattle.rb_builtin.specs.Names.{builtin_of}
use Rattle.rb_builtin.specs.Deeds.{thing_of}
use Rattle.rb_code.specs.Erase.{erase}
use Rattle.rb_code.specs.Resolved.{fits}
use Rattle.rb_walk.specs.Outcome.{Gave, Came}
use Rattle.rb_walk.specs.Collections.{CallsBuiltin}
use Rattle.rb_walk.proofs.Moves.{on, begins, counts, left as leaves}
use Rattle.rb_walk.proofs.Lists.{fst, snd}
use Rattle.rb_code.proofs.Showing.{shows-operate}
use Rattle.rb_code.proofs.Fitting.{fits-operate}
use Rattle.rb_builtin.proofs.Table.{same_is}
use Rattle.std.specs.Option.{option_map}
use Rattle.rb_code.specs.declared.code.Code.TheVariants as code
use Rattle.rb_walk.proofs.Objects.{asked_reply}
use Rattle.rb_walk.proofs.Elements.{calls_builtin}
use Rattle.rb_code.specs.declared.code.Code.{Code}
use Rattle.rb_walk.specs.Carries.{me_of, scope_of}
use Rattle.rb_walk.specs.Methods.{HasNoMethods}
use Rattle.rb_walk.specs.Answers.{IsHeld, IsComputed, IsGiven, IsMade, IsSmall, steps_of}
use Rattle.rb_walk.specs.Questions.{IsAsking, IsElement}
use Rattle.rb_walk.specs.Elements.{IsElementAt, IsToldBy, IsToldOf}

-- a value that is told is that value
value_is : (w : Val) → IfSome (value_told (told w)) (λ v. reply.Value v ≡ reply.Value w)
value_is Nil = refl
value_is False = refl
value_is True = refl
value_is (Int n) = refl
value_is (Sym name) = tt
value_is (Str bytes) = tt
value_is (To thing) = tt

reply_is : (y : Reply) → IfSome (value_told (told_reply y)) (λ v. reply.Value v ≡ y)
reply_is (reply.Value w) = value_is w
reply_is (reply.Elements vs) = tt
reply_is (reply.Pairs ps) = tt
reply_is reply.Done = tt
reply_is (reply.Started number thread) = tt
reply_is (reply.Ended how) = tt
reply_is (reply.Failed fault) = tt

-- what is told of the answer of a thing is that answer to any thread, and there is the thing
known_answer : (n : ℕ) (x : Thing) (act : Act) → gives_to n x act ≡ gives x act
    → IfSome (value_told (told_reply (gives x act))) (λ v. (is_some (Some x) ≡ true) × ((y : Thing) → Some x ≡ Some y → reply.Value v ≡ gives_to n y act))
known_answer n x act as_told = by (value_told (told_reply (gives x act))) (reply_is (gives x act))
  where
    by : (r : Option Val) → IfSome r (λ v. reply.Value v ≡ gives x act) → IfSome r (λ v. (is_some (Some x) ≡ true) × ((y : Thing) → Some x ≡ Some y → reply.Value v ≡ gives_to n y act))
    by None e = tt
    by (Some v) e = (refl, λ y same. let is : x ≡ y = cc in e ∙ (sym as_told ∙ ap (λ t. gives_to n t act) is))

answer_is : (n : ℕ) (o : Option Thing) (act : Act) → IfSome (value_told (told_answer o act)) (λ v. (is_some o ≡ true) × ((x : Thing) → o ≡ Some x → reply.Value v ≡ gives_to n x act))
answer_is n None act = tt
answer_is n (Some (Object class fields)) act = known_answer n (Object class fields) act refl
answer_is n (Some (Elements vs)) act = known_answer n (Elements vs) act refl
answer_is n (Some (Pairs ps)) act = known_answer n (Pairs ps) act refl
answer_is n (Some (Mutex owner)) act = tt
answer_is n (Some (Thread s)) act = tt

pub there_gives : (own : Private) (id : Id) (act : Act) (r : Immediate) (v : Val) → r ≡ told_answer (held own id) act → value_told r ≡ Some v
    → (is_some (held own id) ≡ true) × Gives own id act (reply.Value v)
there_gives own id act r v is told_so = rw (sym (ap value_told is) ∙ told_so) at (answer_is own.thread (held own id) act)

pub there_and_gives : (own : Private) (array : Ref) (index : ℤ) (r : Immediate) (v : Val) → r ≡ told_answer (held own array.id) (At index) → value_told r ≡ Some v
    → (is_some (held own array.id) ≡ true) × Gives own array.id (At index) (reply.Value v)
there_and_gives own array index r v is told_so = there_gives own array.id (At index) r v is told_so

-- what a thing answers, where that is told at once
pub told_of : (own : Private) (thing : Ref) (method : Option Builtin) (arg : Val) (act : Act) (r : Immediate) → IsAsking thing method arg act → r ≡ told_answer (held own thing.id) act → Becomes own thing.id act own
    → IfSome (value_told r) (λ v. IsToldOf own thing method arg v)
told_of own thing method arg act r asked is stays = rw is (by (value_told (told_answer (held own thing.id) act)) (answer_is own.thread (held own thing.id) act))
  where
    by : (o : Option Val) → IfSome o (λ v. (is_some (held own thing.id) ≡ true) × ((x : Thing) → held own thing.id ≡ Some x → reply.Value v ≡ gives_to own.thread x act)) → IfSome o (λ v. IsToldOf own thing method arg v)
    by None e = tt
    by (Some v) e = record { act = act; asked = asked; there = e.0; gives = e.1; stays = stays }

-- the same by an argument that a node gives
pub told_by : (own : Private) (thing : Ref) (method : Option Builtin) (second : Code) (steps : ℕ) (room : List Held) (arg : Val) (o : Option Val)
    → IsGiven steps second room own arg → IfSome o (λ v. IsToldOf own thing method arg v) → IfSome o (λ v. IsToldBy own thing method second steps room v)
told_by own thing method second steps room arg None given e = tt
told_by own thing method second steps room arg (Some v) given e = record { arg = arg; passed = given; told = e }

-- and of a thing that a node gives
pub element_told : (own : Private) (method : Option Builtin) (first : Code) (steps_first : ℕ) (second : Code) (steps_second : ℕ) (room : List Held) (thing : Ref) (o : Option Val)
    → IsGiven steps_first first room own (me_of (Some thing)) → HasNoMethods (me_of (Some thing)) → IfSome o (λ v. IsToldBy own thing method second steps_second room v)
    → IfSome o (λ v. IsElementAt own method first steps_first second steps_second room v)
element_told own method first steps_first second steps_second room thing None given unnamed e = tt
element_told own method first steps_first second steps_second room thing (Some v) given unnamed e = record { thing = thing; given = given; unnamed = unnamed; told = e }

-- a leaf gives what it holds
pub given_held : (c : Code) (room : List Held) (own : Private) (v : Val) (is_over : Bool) → is_over ≡ false → IsHeld c room v → IsGiven (steps_of is_over) c room own v
given_held c room own v is_over e h = λ S N names size d left start log k me f len more deep a.
    let some : 0 < left = omega (arith, more) in
    let within : d < 1000 = omega (arith, deep) in
    rw e (h S N names size d left start own log k me f len some within a)

-- an operand that is an operation over two leaves, and one that is a leaf
pub computed_made : (c : Code) (room : List Held) (r : Option ℤ) (is_over : Bool) → is_over ≡ true → IfSome r (λ n. IsMade c room n) → IfSome r (λ n. IsComputed (steps_of is_over) c room n)
computed_made c room None is_over e h = tt
computed_made c room (Some n) is_over e h = λ own S N names size d left start log k me f len more deep a.
    rw e (h S N names size d left start own log k me f len more deep a)

pub computed_small : (c : Code) (room : List Held) (r : Option ℤ) (is_over : Bool) → is_over ≡ false → IfSome r (λ n. IsSmall c room n) → IfSome r (λ n. IsComputed (steps_of is_over) c room n)
computed_small c room None is_over e h = tt
computed_small c room (Some n) is_over e h = λ own. given_held c room own (Int n) is_over e h

-- the value of what is told
pub told_value : (r : Option Val) → is_some r ≡ true → (v : Val) × (r ≡ Some v)
told_value None h = absurd (cc)
told_value (Some v) h = (v, refl)

-- what is not told is none
pub not_told : (r : Immediate) → is_some (value_told r) ≡ false → r ≡ immediate.Other
not_told immediate.Nil none = absurd (let wrong : true ≡ false = none in cc)
not_told immediate.False none = absurd (let wrong : true ≡ false = none in cc)
not_told immediate.True none = absurd (let wrong : true ≡ false = none in cc)
not_told (immediate.Int n) none = absurd (let wrong : true ≡ false = none in cc)
not_told immediate.Other none = refl

-- a list that an act answers with is there
list_of_reply : (y : Reply) (r : Reference) → list_replied y ≡ Some r → (y ≡ reply.Value (To r)) × (r.sort ≡ Sort.List)
list_of_reply (reply.Value (To thing)) r e = by thing.sort refl e
  where
    by : (s : Kind) → thing.sort ≡ s → if_list s thing ≡ Some r → (reply.Value (To thing) ≡ reply.Value (To r)) × (r.sort ≡ Sort.List)
    by Sort.List is e = let same_thing : thing ≡ r = cc in (ap (λ t. reply.Value (To t)) same_thing, ap (λ (t : Reference). t.sort) (sym same_thing) ∙ is)
    by (Sort.Object class) is e = absurd (cc)
    by Sort.Pairs is e = absurd (cc)
    by Sort.Mutex is e = absurd (cc)
    by Sort.Thread is e = absurd (cc)
list_of_reply (reply.Value Nil) r e = absurd (cc)
list_of_reply (reply.Value False) r e = absurd (cc)
list_of_reply (reply.Value True) r e = absurd (cc)
list_of_reply (reply.Value (Int n)) r e = absurd (cc)
list_of_reply (reply.Value (Sym name)) r e = absurd (cc)
list_of_reply (reply.Value (Str bytes)) r e = absurd (cc)
list_of_reply (reply.Elements vs) r e = absurd (cc)
list_of_reply (reply.Pairs ps) r e = absurd (cc)
list_of_reply reply.Done r e = absurd (cc)
list_of_reply (reply.Started number thread) r e = absurd (cc)
list_of_reply (reply.Ended how) r e = absurd (cc)
list_of_reply (reply.Failed fault) r e = absurd (cc)

known_list : (n : ℕ) (x : Thing) (act : Act) (r : Reference) → gives_to n x act ≡ gives x act → list_replied (gives x act) ≡ Some r
    → ((is_some (Some x) ≡ true) × ((y : Thing) → Some x ≡ Some y → reply.Value (To r) ≡ gives_to n y act)) × (r.sort ≡ Sort.List)
known_list n x act r as_told e =
    let is = list_of_reply (gives x act) r e in
    ((refl, λ y same. let it : x ≡ y = cc in sym is.0 ∙ (sym as_told ∙ ap (λ t. gives_to n t act) it)), is.1)

list_is : (n : ℕ) (o : Option Thing) (act : Act) (r : Reference) → list_answered o act ≡ Some r
    → ((is_some o ≡ true) × ((x : Thing) → o ≡ Some x → reply.Value (To r) ≡ gives_to n x act)) × (r.sort ≡ Sort.List)
list_is n None act r e = absurd (cc)
list_is n (Some (Object class fields)) act r e = known_list n (Object class fields) act r refl e
list_is n (Some (Elements vs)) act r e = known_list n (Elements vs) act r refl e
list_is n (Some (Pairs ps)) act r e = known_list n (Pairs ps) act r refl e
list_is n (Some (Mutex owner)) act r e = absurd (let wrong : None ≡ Some r = e in cc)
list_is n (Some (Thread s)) act r e = absurd (let wrong : None ≡ Some r = e in cc)

-- a list has no method of a script
unnamed_list : (r : Reference) → r.sort ≡ Sort.List → (S : Script) (name : Text) → texted S name (methods_of S (To r)) ≡ None
unnamed_list r e S name = ap (λ s. texted S name (methods_of_sort S s)) e

pub row_unnamed : (own : Private) (id : Id) (index : ℤ) (r : Option Ref) → option_map reference r ≡ list_answered (held own id) (At index) → IfSome r (λ row. HasNoMethods (me_of (Some row)))
row_unnamed own id index None e = tt
row_unnamed own id index (Some row) e = λ S name. unnamed_list (reference row) (list_is own.thread (held own id) (At index) (reference row) (sym e)).1 S name

-- the same node gives what it is taken for
pub given_row : (c : Code) (room : List Held) (own : Private) (r : Option Ref) (is_row : Bool) → is_row ≡ true → IfSome r (λ a. IsGiven 3 c room own (me_of (Some a))) → IfSome r (λ a. IsGiven (steps_of is_row) c room own (me_of (Some a)))
given_row c room own None is_row e h = tt
given_row c room own (Some a) is_row e h = λ S N names size d left start log k me f len more deep b. rw e (h S N names size d left start log k me f len more deep b)

pub given_leaf : (c : Code) (room : List Held) (own : Private) (r : Option Ref) (is_row : Bool) → is_row ≡ false → IfSome r (λ a. IsHeld c room (me_of (Some a))) → IfSome r (λ a. IsGiven (steps_of is_row) c room own (me_of (Some a)))
given_leaf c room own None is_row e h = tt
given_leaf c room own (Some a) is_row e h = given_held c room own (me_of (Some a)) is_row e h

-- a call that asks a thing for an element whose value is known
module _ (S : Script) (N : ℕ) (start : State) where
  pub asks_thing : (l : Log) (own : Private) (k : List Cont) (sc : Scope) (d n : ℕ) (method : Option Builtin) (name : NameId) (at : Span) (thing : Ref) (arg v : Val)
      → builtin_of (text_of S name) ≡ method → HasNoMethods (me_of (Some thing)) → IsToldOf own thing method arg v
      → Stands S N start l own (On (Give arg) (Then (Argument (OnReceiver (me_of (Some thing)) (text_of S name) None) [] [] at) ∷ k) sc d n) → Came S N start l own (Gave v) k sc d n
  asks_thing l own k sc d n method name at thing arg v number unnamed is a =
      let to = me_of (Some thing) in
      let answers : CallsBuiltin N S.program method to (arg ∷ []) at d n n l l own own (Gave v) = λ text e T begun waits s same_program b.
      asked_reply T N begun l own own (thing_of thing) is.act (reply.Value v) at waits s d n is.there is.gives is.stays (rw (is.asked S.program text e) at b) in
      calls_builtin S N start l l own own k sc d n n (Gave v) S.program method to (text_of S name) (arg ∷ []) at (unnamed S (text_of S name)) number refl answers (on _ (on _ a refl) refl)

  pub reads_element : (l : Log) (own : Private) (k : List Cont) (me : Val) (names : List NameId) (size d left steps_first steps_second : ℕ) (room : List Held) (method : Option Builtin) (name : NameId) (first second : Code) (at : Span) (v : Val)
      → builtin_of (text_of S name) ≡ method → fits S first names size ≡ true → fits S second names size ≡ true → length names ≤ length room → steps_first ≤ 3 → 5 < left → d < 999
      → IsElementAt own method first steps_first second steps_second room v
      → Stands S N start l own (On (Eval (erase first)) (Then (ReceiverOf (text_of S name) (erase second ∷ []) None at) ∷ k) (scope_of me names room) d left) → Came S N start l own (Gave v) k (scope_of me names room) d (left - (steps_first + steps_second))
  reads_element l own k me names size d left steps_first steps_second room method name first second at v number f g len few more deep is a =
      let to = me_of (Some is.thing) in
      let some : 2 < left = omega (arith, more) in
      let enough : 2 < left - steps_first = omega (arith, more, few) in
      let less : left - (steps_first + steps_second) ≡ left - steps_first - steps_second = omega arith in
      let e1 = is.given S N names size d left start l (Then (ReceiverOf (text_of S name) (erase second ∷ []) None at) ∷ k) me f len some deep a in
      let e2 = is.told.passed S N names size d (left - steps_first) start l (Then (Argument (OnReceiver to (text_of S name) None) [] [] at) ∷ k) me g len enough deep (on _ (on _ e1 refl) refl) in
      rw less (asks_thing l own k (scope_of me names room) d (left - steps_first - steps_second) method name at is.thing is.told.arg v number is.unnamed is.told.told e2)

-- an element that is a list
pub row_given : (c : Code) (method : Option Builtin) (name : NameId) (first second : Code) (at : Span) (room : List Held) (own : Private) (rows : Ref) (index : ℤ) (r : Option Ref) → c ≡ code.Operate method name first second at
    → IsElement rows method → IsHeld first room (me_of (Some rows)) → HasNoMethods (me_of (Some rows)) → IsSmall second room index
    → option_map reference r ≡ list_answered (held own rows.id) (At index) → Becomes own rows.id (At index) own
    → IfSome r (λ row. IsGiven 3 c room own (me_of (Some row)))
row_given c method name first second at room own rows index None e asked leaf unnamed small is stays = tt
row_given c method name first second at room own rows index (Some row) e asked leaf unnamed small is stays = λ S N names size d left start log k me f len more deep a.
    let begun : 0 < left = omega (arith, more) in
    let next : 0 < left - 1 = omega (arith, more) in
    let last : 0 < left - 1 - 1 = omega (arith, more) in
    let within : d < 1000 = omega (arith, deep) in
    let below : d + 1 < 1000 = omega (arith, deep) in
    let thrice : left - 3 ≡ left - 1 - 1 - 1 = omega arith in
    let there = list_is own.thread (held own rows.id) (At index) (reference row) (sym is) in
    let s = sym (ap (λ d. fits S d names size) e ∙ fits-operate S names size method name first second at) ∙ f in
    let fl : fits S first names size ≡ true = fst _ _ (snd _ _ s) in
    let fr : fits S second names size ≡ true = snd _ _ (snd _ _ s) in
    let number = same_is (builtin_of (text_of S name)) method (fst _ _ s) in
    let inside = Under d ∷ k in
    let b = begins _ _ inside _ _ _ (shows-operate c method name first second at e) (counts begun within a) in
    let e1 = leaf S N names size (d + 1) (left - 1) start own log (Then (ReceiverOf (text_of S name) (erase second ∷ []) None at) ∷ inside) me fl len next below b in
    let e2 = small S N names size (d + 1) (left - 1 - 1) start own log (Then (Argument (OnReceiver (me_of (Some rows)) (text_of S name) None) [] [] at) ∷ inside) me fr len last below (on _ (on _ e1 refl) refl) in
    let is_told : IsToldOf own rows method (Int index) (me_of (Some row)) = record { act = At index; asked = asked index; there = there.0.0; gives = there.0.1; stays = stays } in
    let come = asks_thing S N start log own inside (scope_of me names room) (d + 1) (left - 1 - 1 - 1) method name at rows (Int index) (me_of (Some row)) number unnamed is_told e2 in
    rw thrice (leaves S N start own log (Gave (me_of (Some row))) k (scope_of me names room) d (d + 1) (left - 1 - 1 - 1) come)
