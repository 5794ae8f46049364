-- Events that run from one point of a text to another: what is a local for the grammar is known to the checker, and threads start in the order of the text.
use Rattle.std.proofs.Common.{◌≡◌, refl, ap, sym, ◌∙◌, subst, ℕ, Bool, true, false, List, [], ◌∷◌, ◌++◌, Option, Some, None, arith}
use Rattle.std.specs.Prelude.{◌||◌, ◌&&◌, ◌==◌, is_some, if◌then◌else◌}
use Rattle.std.specs.List.{list_any}
use Rattle.std.specs.Str.{bytes_eq}
use Rattle.std.proofs.lemmas.Bool.{false≢true}
use Rattle.std.proofs.lemmas.Bool.Decides.{nat_tests}
use Rattle.std.proofs.lemmas.Slice.Eq.{bytes_eq-Decides}
use Rattle.rb_tree.specs.declared.span.Span.{Span}
use Rattle.rb_tree.specs.declared.span.NameId.{NameId}
use Rattle.rb_tree.specs.Texts.{with_text}
use Rattle.rb_grammar.specs.Tree.{Text, Word, TargetTree}
use Rattle.rb_grammar.specs.Tree as tree
use Rattle.rb_grammar.specs.Scope.{Scope, method, block, is_local, leave, with_local, with_params, with_target}
use Rattle.rb_grammar.specs.Faithful.{Each}
use Rattle.rb_grammar.proofs.Each.{each_map, each_append}
use Rattle.rb_checker.specs.declared.event.Sight.{Sight}
use Rattle.rb_checker.specs.declared.event.Sight.TheVariants as sight
use Rattle.rb_checker.specs.declared.event.Around.TheVariants as around
use Rattle.rb_checker.specs.declared.locals.Local.{Local}
use Rattle.rb_checker.specs.Around.{Open, placed, behind, behind_all}
use Rattle.rb_checker.specs.Events.{alone}
use Rattle.rb_checker.specs.Locals.{Use, same_scope, same_local, scopes_of, known_in, innermost, assigned_local, assigns, use_of, known_behind}
use Rattle.rb_checker.specs.Walked.{known_after}
use Rattle.rb_checker.proofs.AllMade.{Events}
use Rattle.rb_accepted.proofs.Seen.{ReadIsKnown, ReadsAreKnown}

-- ---- locals that are known

abbrev pub Scopes : Type 0
Scopes = List (Option ℕ)

abbrev outer_of : Scopes → Scopes
outer_of [] = []
outer_of (c ∷ outer) = outer

-- what is known stays known where more is
abbrev pub Found : List Local → NameId → Scopes → Type 0
Found known name scopes = is_some (known_in known name scopes) ≡ true

-- one scope, by whether the name is known in it
by_scope : (here : Bool) (l : Local) (o : Option Local) → is_some o ≡ true → is_some (if here then Some l else o) ≡ true
by_scope true l o h = refl
by_scope false l o h = h

by_more : (here there : Bool) (l : Local) (o r : Option Local) → (is_some o ≡ true → is_some r ≡ true) → is_some (if here then Some l else o) ≡ true
    → is_some (if (there || here) then Some l else r) ≡ true
by_more here true l o r k h = refl
by_more true false l o r k h = refl
by_more false false l o r k h = k h

found_more : (l : Local) (known : List Local) (name : NameId) (scopes : Scopes) → Found known name scopes → Found (l ∷ known) name scopes
found_more l known name [] h = h
found_more l known name (c ∷ outer) h =
    let own : Local = record { name = name.0; scope = c } in
    by_more (list_any (same_local own) known) (same_local own l) own (known_in known name outer) (known_in (l ∷ known) name outer)
    (found_more l known name outer) h

found_behind : (uses : List Use) (known : List Local) (name : NameId) (scopes : Scopes) → Found known name scopes → Found (known_behind known uses) name scopes
found_behind [] known name scopes h = h
found_behind (u ∷ more) known name scopes h =
    by (assigns u.usage) (found_behind more (u.local ∷ known) name scopes (found_more u.local known name scopes h)) (found_behind more known name scopes h)
  where
    by : (b : Bool) → Found (known_behind (u.local ∷ known) more) name scopes → Found (known_behind known more) name scopes
        → Found (known_behind (if b then u.local ∷ known else known) more) name scopes
    by true one other = one
    by false one other = other

-- what is known further out is known
found_out : (known : List Local) (name : NameId) (scopes : Scopes) → Found known name (outer_of scopes) → Found known name scopes
found_out known name [] h = h
found_out known name (c ∷ outer) h = by_scope (list_any (same_local (record { name = name.0; scope = c })) known)
    (record { name = name.0; scope = c }) (known_in known name outer) h

same_name : (m : ℕ) → (m == m) ≡ true
same_name m = grind (arith, nat_tests)

same_scopes : (c : Option ℕ) → same_scope c c ≡ true
same_scopes None = refl
same_scopes (Some c) = same_name c

-- a name is known where it was made a local of the innermost scope
pub found_new : (known : List Local) (name : NameId) (c : Option ℕ) (outer : Scopes) → Found (record { name = name.0; scope = c } ∷ known) name (c ∷ outer)
found_new known name c outer =
    let own : Local = record { name = name.0; scope = c } in
    let is : same_local own own ≡ true = ap (λ b. b && same_scope c c) (same_name name.0) ∙ same_scopes c in
    ap (λ b. is_some (if (b || list_any (same_local own) known) then Some own else known_in (own ∷ known) name outer)) is

-- a text in a list that passes a test
each_any : (P : Text → Type 0) (text : Text) (names : List Text) → Each P names → list_any (bytes_eq text) names ≡ true → P text
each_any P text [] h e = absurd (false≢true e)
each_any P text (x ∷ xs) h e = by (bytes_eq text x) refl (each_any P text xs h.1) e
  where
    by : (b : Bool) → bytes_eq text x ≡ b → (list_any (bytes_eq text) xs ≡ true → P text) → (b || list_any (bytes_eq text) xs) ≡ true → P text
    by true is more k = subst P (sym ((bytes_eq-Decides text x).0 is)) h.0
    by false is more k = more k

each_with_text : (P : Text → Type 0) (names : List Text) (text : Text) → Each P names → P text → Each P (with_text names text)
each_with_text P names text h k = by (list_any (bytes_eq text) names)
  where
    by : (b : Bool) → Each P (if b then names else names ++ text ∷ [])
    by true = h
    by false = each_append P names (text ∷ []) h (k, tt)

-- the frames round a scope, and its kind
abbrev pub emptied : Scope → Scope
emptied [] = []
emptied (method names ∷ outer) = method [] ∷ outer
emptied (block names ∷ outer) = block [] ∷ outer

pub emptied_local : (text : Text) (s : Scope) → emptied (with_local text s) ≡ emptied s
emptied_local text [] = refl
emptied_local text (method names ∷ outer) = refl
emptied_local text (block names ∷ outer) = refl

pub emptied_params : (ws : List Word) (s : Scope) → emptied (with_params ws s) ≡ emptied s
emptied_params [] s = refl
emptied_params (w ∷ ws) s = emptied_params ws (with_local w.text s) ∙ emptied_local w.text s

pub emptied_target : (t : TargetTree) (s : Scope) → emptied (with_target t s) ≡ emptied s
emptied_target (tree.to_local w) s = by (is_local w.text s)
  where
    by : (b : Bool) → emptied (if b then s else with_local w.text s) ≡ emptied s
    by true = refl
    by false = emptied_local w.text s
emptied_target (tree.to_field w) s = refl
emptied_target (tree.to_global w) s = refl
emptied_target (tree.to_index r j at) s = refl
emptied_target (tree.to_attribute r w) s = refl

pub leave_emptied : (s : Scope) → leave (emptied s) ≡ leave s
leave_emptied [] = refl
leave_emptied (method names ∷ outer) = refl
leave_emptied (block names ∷ outer) = refl

module _ (name : Text → NameId) where
  abbrev Knows : List Local → Scopes → Text → Type 0
  Knows known scopes text = Found known (name text) scopes

  -- what is a local for the grammar is known to the checker: each scope by itself, up to that of a method
  abbrev pub Sees : List Local → Scope → Scopes → Type 0
  Sees known [] scopes = Unit {0}
  Sees known (method names ∷ outer) scopes = Each (Knows known scopes) names
  Sees known (block names ∷ outer) scopes = Each (Knows known scopes) names × Sees known outer (outer_of scopes)

  sees_local : (known : List Local) (text : Text) (s : Scope) (scopes : Scopes) → Sees known s scopes → is_local text s ≡ true → Found known (name text) scopes
  sees_local known text [] scopes h e = absurd (false≢true e)
  sees_local known text (method names ∷ outer) scopes h e = each_any (Knows known scopes) text names h e
  sees_local known text (block names ∷ outer) scopes h e =
      by (list_any (bytes_eq text) names) refl (λ k. found_out known (name text) scopes (sees_local known text outer (outer_of scopes) h.1 k)) e
    where
      by : (b : Bool) → list_any (bytes_eq text) names ≡ b → (is_local text outer ≡ true → Found known (name text) scopes)
          → (b || is_local text outer) ≡ true → Found known (name text) scopes
      by true is further k = each_any (Knows known scopes) text names h.0 is
      by false is further k = further k

  pub sees_more : (known : List Local) (uses : List Use) (s : Scope) (scopes : Scopes) → Sees known s scopes → Sees (known_behind known uses) s scopes
  sees_more known uses [] scopes h = tt
  sees_more known uses (method names ∷ outer) scopes h =
      each_map (Knows known scopes) (Knows (known_behind known uses) scopes) (λ text. found_behind uses known (name text) scopes) names h
  sees_more known uses (block names ∷ outer) scopes h = (
    each_map (Knows known scopes) (Knows (known_behind known uses) scopes) (λ text. found_behind uses known (name text) scopes) names h.0,
    sees_more known uses outer (outer_of scopes) h.1,
  )

  sees_with : (known : List Local) (text : Text) (s : Scope) (scopes : Scopes) → Sees known s scopes → Found known (name text) scopes
      → Sees known (with_local text s) scopes
  sees_with known text [] scopes h k = tt
  sees_with known text (method names ∷ outer) scopes h k = each_with_text (Knows known scopes) names text h k
  sees_with known text (block names ∷ outer) scopes h k = (each_with_text (Knows known scopes) names text h.0 k, h.1)

  sees_target : (known : List Local) (w : Word) (s : Scope) (scopes : Scopes) → Sees known s scopes → Found known (name w.text) scopes
      → Sees known (with_target (tree.to_local w) s) scopes
  sees_target known w s scopes h k = by (is_local w.text s)
    where
      by : (b : Bool) → Sees known (if b then s else with_local w.text s) scopes
      by true = h
      by false = sees_with known w.text s scopes h k

  -- a scope that is left
  pub sees_left : (known : List Local) (z s : Scope) (c : Option ℕ) (scopes : Scopes) → emptied z ≡ block [] ∷ s → Sees known z (c ∷ scopes) → Sees known s scopes
  sees_left known [] s c scopes e h = absurd (cc)
  sees_left known (method names ∷ outer) s c scopes e h = absurd (cc)
  sees_left known (block names ∷ outer) s c scopes e h = let same : outer ≡ s = ap leave e in subst (λ o. Sees known o scopes) same h.1

  -- ---- events between two states

  -- Where these locals are known and this stands round: each local that is read in the events is known, and behind them the locals of a scope are,
  -- and that stands round.
  pub record Heard (known : List Local) (round : Open) (es : Events) (s : Scope) (next : Open) : Type 0 where
    pub back : behind_all round es ≡ next
    pub reads : ReadsAreKnown known (placed round es)
    pub sees : Sees (known_after known (placed round es)) s (scopes_of next)

  behind_all_append : (round : Open) (es fs : Events) → behind_all round (es ++ fs) ≡ behind_all (behind_all round es) fs
  behind_all_append round [] fs = refl
  behind_all_append round (e ∷ es) fs = behind_all_append (behind round e.sight e.at) es fs

  reads_append : (known : List Local) (round : Open) (es fs : Events) → ReadsAreKnown known (placed round es)
      → ReadsAreKnown (known_after known (placed round es)) (placed (behind_all round es) fs) → ReadsAreKnown known (placed round (es ++ fs))
  reads_append known round [] fs h k = k
  reads_append known round (e ∷ es) fs h k = (h.0, reads_append (known_behind known (use_of known round e.sight e.at)) (behind round e.sight e.at) es fs h.1 k)

  after_append : (known : List Local) (round : Open) (es fs : Events)
      → known_after known (placed round (es ++ fs)) ≡ known_after (known_after known (placed round es)) (placed (behind_all round es) fs)
  after_append known round [] fs = refl
  after_append known round (e ∷ es) fs = after_append (known_behind known (use_of known round e.sight e.at)) (behind round e.sight e.at) es fs

  pub heard_both : (known : List Local) (round mid next : Open) (es fs : Events) (s t : Scope) → Heard known round es s mid
      → (Sees (known_after known (placed round es)) s (scopes_of mid) → Heard
      (known_after known (placed round es)) mid fs t next) → Heard known round (es ++ fs) t next
  heard_both known round mid next es fs s t g k =
      let h = k g.sees in
      record {
        back = behind_all_append round es fs ∙ ap (λ o. behind_all o fs) g.back ∙ h.back;
        reads = reads_append known round es fs g.reads
            (subst (λ o. ReadsAreKnown (known_after known (placed round es)) (placed o fs)) (sym g.back) h.reads);
        sees = subst (λ ks. Sees ks t (scopes_of next))
            (sym (after_append known round es fs ∙ ap (λ o. known_after (known_after known (placed round es)) (placed o fs)) g.back)) h.sees;
      }

  -- one event
  pub heard_one : (known : List Local) (round : Open) (s : Sight) (at : Span) (t : Scope) → ReadIsKnown known round s
      → Sees (known_behind known (use_of known round s at)) t (scopes_of (behind round s at)) → Heard known round (alone s at) t (behind round s at)
  heard_one known round s at t h k = record { back = refl; reads = (h, tt); sees = k }

  -- a local that is read
  pub heard_read : (known : List Local) (round : Open) (text : Text) (at : Span) (s : Scope) → is_local text s ≡ true → Sees known s (scopes_of round)
      → Heard known round (alone (sight.Reads (name text)) at) s round
  heard_read known round text at s is h =
      heard_one known round (sight.Reads (name text)) at s (sees_local known text s (scopes_of round) h is)
      (sees_more known (use_of known round (sight.Reads (name text)) at) s (scopes_of round) h)

  -- a scope is always there
  first_scope : (round : Open) → (outer : Scopes) × (scopes_of round ≡ innermost (scopes_of round) ∷ outer)
  first_scope [] = ([], refl)
  first_scope ((around.Block, at) ∷ outer) = (scopes_of outer, refl)
  first_scope ((around.Thread, at) ∷ outer) = (scopes_of outer, refl)
  first_scope ((around.Loop, at) ∷ outer) = first_scope outer
  first_scope ((around.Value name, at) ∷ outer) = first_scope outer

  found_first : (known : List Local) (id : NameId) (round : Open)
      → Found (record { name = id.0; scope = innermost (scopes_of round) } ∷ known) id (scopes_of round)
  found_first known id round =
      let first = first_scope round in
      subst (λ scopes. Found (record { name = id.0; scope = innermost (scopes_of round) } ∷ known) id scopes) (sym first.1)
      (found_new known id (innermost (scopes_of round)) first.0)

  -- a parameter
  pub heard_param : (known : List Local) (round : Open) (w : Word) (s : Scope) → Sees known s (scopes_of round)
      → Heard known round (alone (sight.Param (name w.text)) w.at) (with_local w.text s) round
  heard_param known round w s h =
      heard_one known round (sight.Param (name w.text)) w.at (with_local w.text s) tt
      (sees_with (record { name = (name w.text).0; scope = innermost (scopes_of round) } ∷ known) w.text s (scopes_of round)
      (sees_more known (use_of known round (sight.Param (name w.text)) w.at) s (scopes_of round) h)
      (found_first known (name w.text) round))

  -- a local that is assigned is known then, where it was known before and where it was not
  found_assigned : (known : List Local) (id : NameId) (round : Open) → Found (assigned_local known id round ∷ known) id (scopes_of round)
  found_assigned known id round = by (known_in known id (scopes_of round)) refl
    where
      by : (o : Option Local) → known_in known id (scopes_of round) ≡ o → Found (assigned_local known id round ∷ known) id (scopes_of round)
      by (Some local) is = found_more (assigned_local known id round) known id (scopes_of round) (ap is_some is)
      by None is =
          let made : assigned_local known id round ≡ record { name = id.0; scope = innermost (scopes_of round) } =
          ap (λ (o : Option Local). elim o [
            | None ↦ record { name = id.0; scope = innermost (scopes_of round) }
            | Some local ↦ local
          ]) is in
          subst (λ l. Found (l ∷ known) id (scopes_of round)) (sym made) (found_first known id round)

  pub heard_assigned : (known : List Local) (round : Open) (w : Word) (at : Span) (s : Scope) → Sees known s (scopes_of round)
      → Heard known round (alone (sight.Assigns (name w.text)) at) (with_target (tree.to_local w) s) round
  heard_assigned known round w at s h =
      heard_one known round (sight.Assigns (name w.text)) at (with_target (tree.to_local w) s) tt
      (sees_target (assigned_local known (name w.text) round ∷ known) w s (scopes_of round)
      (sees_more known (use_of known round (sight.Assigns (name w.text)) at) s (scopes_of round) h)
      (found_assigned known (name w.text) round))
