-- Methods that only give their parameters to instance variables.
use Rattle.std.proofs.Common.{◌≡◌, ℕ, zero, suc, ◌+◌, ◌-◌, ◌<◌, true, false, cond, List, [], ◌∷◌, length, map, drop, get_or, Some, refl, sym, ap, ◌∙◌, subst, eq-eqb, arith}
use Rattle.std.proofs.lemmas.Option.{slice_get_read}
use Rattle.std.specs.Prelude.{slice_get}
use Rattle.rb_tree.specs.declared.span.Span.{Span}
use Rattle.rb_tree.specs.declared.span.NameId.{NameId}
use Rattle.rb_tree.specs.declared.node.Node.{Node}
use Rattle.rb_tree.specs.declared.node.Node.TheOpen as node
use Rattle.rb_model.specs.declared.fault.Fault.TheVariants.{ArgumentCount}
use Rattle.rb_model.specs.Values.{Value as Val, Nil, plain}
use Rattle.rb_model.specs.declared.value.Value.{Value as Held}
use Rattle.rb_model.specs.Acts.{SetField}
use Rattle.rb_model.specs.Log.{Log}
use Rattle.rb_model.specs.Private.{Private}
use Rattle.rb_machine.specs.Scopes.{Script, Scope, look, fresh}
use Rattle.rb_machine.specs.Control.{State, On, Cont, Then, Under, Frame, Rest, Give, FieldTo, Following, Instead}
use Rattle.rb_machine.specs.Call.{ask_of, enter, raised}
use Rattle.rb_machine.specs.Follows.{At}
use Rattle.rb_code.specs.declared.code.Code.{Code}
use Rattle.rb_code.specs.declared.code.Code.TheVariants as code
use Rattle.rb_code.specs.declared.scripted.CodeMethod.{CodeMethod}
use Rattle.rb_code.specs.Erase.{erase, erase_method}
use Rattle.rb_code.specs.Layout.{bound, has_slot}
use Rattle.rb_code.specs.Resolved.{fits, method_fits}
use Rattle.rb_code.proofs.Slots.{read_slot, slot_within}
use Rattle.rb_code.proofs.Showing.{shows-local, shows-set_field}
use Rattle.rb_code.proofs.Fitting.{fits-local, fits-set_field}
use Rattle.rb_walk.specs.declared.came.Came.{Came as Registers}
use Rattle.rb_walk.specs.declared.came.Leave.{Leave}
use Rattle.rb_walk.specs.Outcome.{Came, is_left, outcome}
use Rattle.rb_walk.specs.Carries.{call_exit}
use Rattle.rb_walk.specs.Objects.{plainly}
use Rattle.rb_walk.specs.Readers.{AssignsField}
use Rattle.rb_walk.proofs.Lists.{snd, get_map, next_item}
use Rattle.rb_walk.proofs.Objects.{fielded_by}
use Rattle.rb_walk.proofs.Moves.{on, same, begins, counts, gives, left}
use Rattle.rb_walk.proofs.Outcomes.{called, given, passes}
use Rattle.rb_walk.proofs.Rooms.{every_item}

-- arguments in the slots of a frame, and nil behind them
abbrev slots_of : List NameId → List Val → List Val
slots_of [] vs = []
slots_of (x ∷ xs) [] = Nil ∷ slots_of xs []
slots_of (x ∷ xs) (v ∷ vs) = v ∷ slots_of xs vs

slots_bound : (names : List NameId) (vs : List Val) → bound names (slots_of names vs) ≡ fresh names vs
slots_bound [] vs = refl
slots_bound (x ∷ xs) [] = ap (λ ls. (x, Nil) ∷ ls) (slots_bound xs [])
slots_bound (x ∷ xs) (v ∷ vs) = ap (λ ls. (x, v) ∷ ls) (slots_bound xs vs)

slots_length : (names : List NameId) (vs : List Val) → length (slots_of names vs) ≡ length names
slots_length [] vs = refl
slots_length (x ∷ xs) [] = ap suc (slots_length xs [])
slots_length (x ∷ xs) (v ∷ vs) = ap suc (slots_length xs vs)

slots_at : (names : List NameId) (vs : List Val) (i : ℕ) (w : Val) → i < length names → slice_get vs i ≡ Some w → slice_get (slots_of names vs) i ≡ Some w
slots_at [] vs i w l e = absurd (omega (arith, l))
slots_at (x ∷ xs) [] i w l e = absurd (cc)
slots_at (x ∷ xs) (v ∷ vs) zero w l e = e
slots_at (x ∷ xs) (v ∷ vs) (suc i) w l e = slots_at xs vs i w (omega (arith, l)) e

-- a parameter is the argument in its slot
pub parameter_is : (name : NameId) (names : List NameId) (vs : List Val) (i : ℕ) (w : Val) → has_slot name names i ≡ true → slice_get vs i ≡ Some w → look name (fresh names vs) ≡ w
parameter_is name names vs i w s e =
    ap (look name) (sym (slots_bound names vs))
    ∙ read_slot name names (slots_of names vs) i w (omega (arith, slots_length names vs)) s (slots_at names vs i w (slot_within name names i s) e)

module _ (S : Script) (N : ℕ) (start : State) (h : Private) where
  -- what is run with the object and the arguments
  abbrev pub callee_of : Val → CodeMethod → List Val → Scope
  callee_of v m args = record { me = v; locals = fresh (S.method_names (erase_method m)) args }

  -- the method is entered with as many arguments as it has parameters
  pub opens : (l : Log) (k : List Cont) (sc : Scope) (d n : ℕ) (v : Val) (m : CodeMethod) (args : List Val) (at : Span) → length args ≡ length m.params
      → At S N start l h (enter S (erase_method m) v args at k sc d n)
      → At S N start l h (On (Following Nil (map erase m.body)) (Frame sc ∷ k) (callee_of v m args) d n)
  opens l k sc d n v m args at e a =
      same a (ap (λ b. cond b (On (Following Nil (map erase m.body)) (Frame sc ∷ k) (callee_of v m args) d n) (raised ArgumentCount at n)) (eq-eqb _ _ e))

  -- a statement comes to where the argument is written to the variable
  pub assigning : (l : Log) (k : List Cont) (sc : Scope) (d n : ℕ) (v u w : Val) (m : CodeMethod) (args : List Val) (c : Code) (rest : List Node) (field : NameId) (slot : ℕ) (place : Span)
      → AssignsField c field slot place → fits S c (S.method_names (erase_method m)) m.size ≡ true → slice_get args slot ≡ Some w → 1 < n → d < 999
      → At S N start l h (On (Following u (erase c ∷ rest)) (Frame sc ∷ k) (callee_of v m args) d n)
      → At S N start l h (ask_of v (SetField field w) place (Then (Instead w) ∷ Under d ∷ Then (Rest rest) ∷ Frame sc ∷ k) (callee_of v m args) (d + 1) (n - 2))
  assigning l k sc d n v u w m args c rest field slot place r right held more deep a =
      let names = S.method_names (erase_method m) in
      let inner = callee_of v m args in
      let behind = Under d ∷ Then (Rest rest) ∷ Frame sc ∷ k in
      let local = code.Local slot r.name r.from in
      let has : has_slot r.name names slot ≡ true = sym (fits-set_field S names m.size field local place ∙ fits-local S names m.size slot r.name r.from) ∙ subst (λ c. fits S c names m.size ≡ true) r.is right in
      let twice : n - 1 - 1 ≡ n - 2 = omega arith in
      let e1 = begins (erase c) (node.SetField field (erase local) place) behind inner (d + 1) (n - 1) (shows-set_field c field local place r.is) (counts (omega (arith, more)) (omega (arith, deep)) (on _ a refl)) in
      let e2 = begins (erase local) (node.«Node::Local» r.name r.from) (Under (d + 1) ∷ Then (FieldTo field place) ∷ behind) inner (d + 1 + 1) (n - 1 - 1) (shows-local local slot r.name r.from refl) (counts (omega (arith, more)) (omega (arith, deep)) e1) in
      let e3 = gives w (parameter_is r.name names args slot w has held) e2 in
      rw twice at (fielded_by S N start h v field place (FieldTo field place) (plainly refl) w (on (On (Give w) (Then (FieldTo field place) ∷ behind) inner (d + 1) (n - 1 - 1)) e3 refl))

  -- the same of the statement at an index
  pub assigning_at : (l : Log) (k : List Cont) (sc : Scope) (d n : ℕ) (v u : Val) (m : CodeMethod) (args : List Held) (i : ℕ) (c : Code) (w : Held) (field : NameId) (slot : ℕ) (place : Span)
      → i < length m.body → c ≡ get_or m.body i c → AssignsField c field slot place → slot < length args → w ≡ get_or args slot w → method_fits S m ≡ true → 1 < n → d < 999
      → At S N start l h (On (Following u (map erase (drop i m.body))) (Frame sc ∷ k) (callee_of v m (map plain args)) d n)
      → At S N start l h (ask_of v (SetField field (plain w)) place (Then (Instead (plain w)) ∷ Under d ∷ Then (Rest (map erase (drop (i + 1) m.body))) ∷ Frame sc ∷ k) (callee_of v m (map plain args)) (d + 1) (n - 2))
  assigning_at l k sc d n v u m args i c w field slot place short is r below arg right more deep a =
      let inner = callee_of v m (map plain args) in
      let held = get_map plain args slot (Some w) (slice_get_read args _ slot w refl below arg) in
      let fit = every_item S m.body i c (S.method_names (erase_method m)) m.size short is (snd _ _ (snd _ _ right)) in
      assigning l k sc d n v u (plain w) m (map plain args) c (map erase (drop (i + 1) m.body)) field slot place r fit held more deep
      (same a (ap (λ (cs : List Code). On (Following u (map erase cs)) (Frame sc ∷ k) inner d n) (next_item m.body i c short is)))

  -- where a value came of that, the next statement is begun
  pub assigned : (l : Log) (k : List Cont) (sc inner : Scope) (d d' n : ℕ) (w : Val) (rest : List Node) (r : Registers) (x : Held) (y : Leave) → is_left r ≡ false
      → Came S N start l h (outcome r x y) (Then (Instead w) ∷ Under d ∷ Then (Rest rest) ∷ Frame sc ∷ k) inner d' n
      → At S N start l h (On (Following w rest) (Frame sc ∷ k) inner d n)
  assigned l k sc inner d d' n w rest r x y none a = on _ (on _ (on _ (given r x y none a) refl) refl) refl

  -- and where none came, the method is left
  pub unassigned : (l : Log) (k : List Cont) (sc inner : Scope) (d d' n : ℕ) (w : Val) (rest : List Node) (r : Registers) (x : Held) (y : Leave) → is_left r ≡ true
      → Came S N start l h (outcome r x y) (Then (Instead w) ∷ Under d ∷ Then (Rest rest) ∷ Frame sc ∷ k) inner d' n
      → Came S N start l h (call_exit (outcome r x y)) k sc d n
  unassigned l k sc inner d d' n w rest r x y gone a =
      let e1 = passes S N start h r x y l (Instead w) (Under d ∷ Then (Rest rest) ∷ Frame sc ∷ k) inner d' n gone a in
      let e2 = left S N start h l (outcome r x y) (Then (Rest rest) ∷ Frame sc ∷ k) inner d d' n e1 in
      called S N start h (outcome r x y) l sc k inner d n (passes S N start h r x y l (Rest rest) (Frame sc ∷ k) inner d n gone e2)

  -- behind the last statement the method gives its value
  pub closes : (l : Log) (k : List Cont) (sc inner : Scope) (d n : ℕ) (w : Val) → At S N start l h (On (Following w []) (Frame sc ∷ k) inner d n) → At S N start l h (On (Give w) k sc d n)
  closes l k sc inner d n w a = on _ (on _ a refl) refl
