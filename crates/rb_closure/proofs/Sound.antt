-- A thread's state and its private store together: what they keep while it works by itself.
use Rattle.std.proofs.Common.{◌≡◌, ◌⊎◌, inl, inr, List, [], ◌∷◌, Some, subst, sym}
use Rattle.rb_tree.specs.declared.node.Node.{Node, out-Node}
use Rattle.rb_model.specs.declared.value.Id.{Id}
use Rattle.rb_model.specs.Values.{Value, To, Reference}
use Rattle.rb_model.specs.Acts.{Act, Reply, handed}
use Rattle.rb_model.specs.Acts as reply
use Rattle.rb_model.specs.Ends.{End, told}
use Rattle.rb_model.specs.Things.{Thing, mentioned, becomes_by, gives_to}
use Rattle.rb_model.specs.Private.{Private, held, entered, acted}
use Rattle.rb_machine.specs.Scopes.{Script}
use Rattle.rb_machine.specs.Control.{State, On, Cont, Give, Leave, Ended}
use Rattle.rb_machine.specs.Call.{globals}
use Rattle.rb_machine.specs.Move.{Next, Go, Make, Ask, move, replied}
use Rattle.rb_machine.specs.Follows.{next_thing}
use Rattle.rb_closure.specs.Mentions.{values_in_control, values_in_cont, values_in_scope, values_in_reply}
use Rattle.rb_closure.specs.Closure.{Each, IfReference, Known, Covered, IsClosedStore}
use Rattle.rb_closure.proofs.Lists.{each_of}
use Rattle.rb_closure.proofs.Parts.{Code, ANode, AGlobal, code_in_cont, code_in_layer, Fits, FitsMethod, FitsClass, Rules, GoodState}
use Rattle.rb_closure.proofs.Things.{behind_mentions, reply_tells}
use Rattle.rb_closure.proofs.Moves.{GoodNext, GoodFirst, move_good, reply_good}
use Rattle.rb_closure.proofs.Stores.{still_entered, new_held, entered_from, still_acted, acted_from}

-- what holds of a reference, where another thing holds of it
pub if_more : (A B : Reference → Type 0) → ((r : Reference) → A r → B r) → (v : Value) → IfReference A v → IfReference B v
if_more A B f (To r) p = f r p
if_more A B f v p = tt

pub each_more : (A B : Reference → Type 0) → ((r : Reference) → A r → B r) → (vs : List Value) → Each (IfReference A) vs → Each (IfReference B) vs
each_more A B f vs a = each_of (IfReference A) (IfReference B) vs (if_more A B f) a

-- What is said of a script's code.
pub record Says (S : Script) : Type 1 where
  pub Of : Code → Type 0
  pub parts : (n : Node) → Of (ANode n) → Each Of (code_in_layer (out-Node n))
  pub functions : Each (FitsMethod Of) S.program.functions
  pub classes : Each (FitsClass Of) S.program.classes

module _ (S : Script) (C : Says S) where
  pub none_told : (R : Reference → Type 0) (how : End) → told how ≡ [] → Each (IfReference R) (told how)
  none_told R how e = subst (λ vs. Each (IfReference R) vs) (sym e) tt

  -- the references of a state are so, and so are those that an end tells
  abbrev pub rules : (R : Reference → Type 0) → (C.Of AGlobal → R globals) → Rules S
  rules R global = record {
    Refers = R;
    Has = C.Of;
    Waits = λ k. Each (λ c. Fits R C.Of (values_in_cont c) (code_in_cont c)) k;
    Ends = λ how. Each (IfReference R) (told how);
    parts = C.parts;
    global = global;
    functions = C.functions;
    classes = C.classes;
    waits = λ c k fits all. (fits, all);
    early = none_told R;
  }

  first_known : (R : Reference → Type 0) (g : C.Of AGlobal → R globals) (s : State) → GoodState S (rules R g) s → GoodFirst S (rules R g) s
  first_known R g (On (Give v) [] sc d left) h = h.0.0
  first_known R g (On (Give v) (c ∷ k) sc d left) h = h.1.0
  first_known R g (On (Leave e) [] sc d left) h = (tt, tt)
  first_known R g (On (Leave e) (c ∷ k) sc d left) h = h.1.0
  first_known R g s h = tt

  -- what comes next is as is said
  pub next_known : (R : Reference → Type 0) (g : C.Of AGlobal → R globals) (s : State) (next : Next) → move S s ≡ next → GoodState S (rules R g) s → GoodNext S (rules R g) next
  next_known R g s next e h = subst (GoodNext S (rules R g)) e (move_good S (rules R g) s (first_known R g s h) h)

  -- another thing may be said, which holds where the first does
  conts_more : (A B : Reference → Type 0) → ((r : Reference) → A r → B r) → (k : List Cont)
      → Each (λ c. Fits A C.Of (values_in_cont c) (code_in_cont c)) k → Each (λ c. Fits B C.Of (values_in_cont c) (code_in_cont c)) k
  conts_more A B f [] w = tt
  conts_more A B f (c ∷ k) w = ((each_more A B f (values_in_cont c) w.0.0, w.0.1), conts_more A B f k w.1)

  pub state_more : (A B : Reference → Type 0) (ga : C.Of AGlobal → A globals) (gb : C.Of AGlobal → B globals) → ((r : Reference) → A r → B r) → (s : State)
      → GoodState S (rules A ga) s → GoodState S (rules B gb) s
  state_more A B ga gb f (On (Ended how) k sc d left) h =
      (each_more A B f (told how) h.0, conts_more A B f k h.1, each_more A B f (values_in_scope sc) h.2)
  state_more A B ga gb f (On c k sc d left) h =
      ((each_more A B f (values_in_control c) h.0.0, h.0.1), (conts_more A B f k h.1.0, each_more A B f (values_in_scope sc) h.1.1))

  -- ---- with the store

  -- Each value of the state is known, and each that a private thing mentions, where these references were told.
  pub record Sound (told_refs : List Reference) (h : Private) (s : State) : Type 0 where
    pub global : C.Of AGlobal → Known h told_refs globals
    pub state : GoodState S (rules (Known h told_refs) global) s
    pub store : IsClosedStore h told_refs

  -- what is known stays known, and so does what each mentions
  pub more_sound : (old new : List Reference) (h h' : Private) (s : State) → ((r : Reference) → Known h old r → Known h' new r) → ((id : Id) (t : Thing) → held h' id ≡ Some t → held h id ≡ Some t)
      → Sound old h s → Sound new h' s
  more_sound old new h h' s f back sound = record {
    global = λ c. f globals (sound.global c);
    state = state_more (Known h old) (Known h' new) sound.global (λ c. f globals (sound.global c)) f s sound.state;
    store = λ id t e. each_more (Known h old) (Known h' new) f (mentioned t) (sound.store id t (back id t e));
  }

  -- a reply whose references are known
  pub replied_sound : (refs : List Reference) (h : Private) (s : State) (r : Reply) → Each (Covered h refs) (values_in_reply r) → Sound refs h s → Sound refs h (replied s r)
  replied_sound refs h s r a sound = record {
    global = sound.global;
    state = reply_good S (rules (Known h refs) sound.global) s r sound.state a;
    store = sound.store;
  }

  pub goes_sound : (refs : List Reference) (h : Private) (s s' : State) → move S s ≡ Go s' → Sound refs h s → Sound refs h s'
  goes_sound refs h s s' e sound = record { global = sound.global; state = next_known (Known h refs) sound.global s (Go s') e sound.state; store = sound.store }

  -- ---- a thing is made

  module _ (refs : List Reference) (h : Private) (s : State) (x : Thing) (e : move S s ≡ Make x) (sound : Sound refs h s) where
    entered_known : (r : Reference) → Known h refs r → Known (entered h x) refs r
    entered_known r (inl p) = inl (still_entered h x r p)
    entered_known r (inr p) = inr p

    mentions_known : (t : Thing) → Each (Covered h refs) (mentioned t) → Each (Covered (entered h x) refs) (mentioned t)
    mentions_known t a = each_more (Known h refs) (Known (entered h x) refs) entered_known (mentioned t) a

    entered_store : IsClosedStore (entered h x) refs
    entered_store id t f = by (entered_from h x id t f)
      where
        by : (held h id ≡ Some t) ⊎ (x ≡ t) → Each (Covered (entered h x) refs) (mentioned t)
        by (inl g) = mentions_known t (sound.store id t g)
        by (inr g) = subst (λ y. Each (Covered (entered h x) refs) (mentioned y)) g (mentions_known x (next_known (Known h refs) sound.global s (Make x) e sound.state))

    pub makes_sound : Sound refs (entered h x) (replied s (reply.Value (To (next_thing h x))))
    makes_sound = replied_sound refs (entered h x) s (reply.Value (To (next_thing h x))) (inl (new_held h x), tt) (record {
      global = λ c. entered_known globals (sound.global c);
      state = state_more (Known h refs) (Known (entered h x) refs) sound.global (λ c. entered_known globals (sound.global c)) entered_known s sound.state;
      store = entered_store;
    })

  -- ---- something is asked of a private thing

  module _ (refs : List Reference) (h : Private) (s : State) (r : Reference) (act : Act) (x : Thing) (e : move S s ≡ Ask r act) (there : held h r.id ≡ Some x) (sound : Sound refs h s) where
    acted_known : (q : Reference) → Known h refs q → Known (acted h r.id act x) refs q
    acted_known q (inl p) = inl (still_acted h r.id act x q there p)
    acted_known q (inr p) = inr p

    known_behind : (vs : List Value) → Each (Covered h refs) vs → Each (Covered (acted h r.id act x) refs) vs
    known_behind vs a = each_more (Known h refs) (Known (acted h r.id act x) refs) acted_known vs a

    given_known : Each (Covered h refs) (handed act)
    given_known = (next_known (Known h refs) sound.global s (Ask r act) e sound.state).1

    acted_store : IsClosedStore (acted h r.id act x) refs
    acted_store id t f = by (acted_from h r.id act x id t f)
      where
        by : (held h id ≡ Some t) ⊎ (becomes_by h.thread x act ≡ t) → Each (Covered (acted h r.id act x) refs) (mentioned t)
        by (inl g) = known_behind (mentioned t) (sound.store id t g)
        by (inr g) = subst (λ y. Each (Covered (acted h r.id act x) refs) (mentioned y)) g
            (known_behind (mentioned (becomes_by h.thread x act)) (behind_mentions (Known h refs) h.thread x act (sound.store r.id x there) given_known))

    pub acts_sound : Sound refs (acted h r.id act x) (replied s (gives_to h.thread x act))
    acts_sound = replied_sound refs (acted h r.id act x) s (gives_to h.thread x act)
        (known_behind (values_in_reply (gives_to h.thread x act)) (reply_tells (Known h refs) h.thread x act (sound.store r.id x there))) (record {
          global = λ c. acted_known globals (sound.global c);
          state = state_more (Known h refs) (Known (acted h r.id act x) refs) sound.global (λ c. acted_known globals (sound.global c)) acted_known s sound.state;
          store = acted_store;
        })
