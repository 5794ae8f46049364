-- Events that run from one point to another: those of a text that is read from there to here.
use Rattle.std.proofs.Common.{◌≡◌, refl, ap, sym, ◌∙◌, subst, ℕ, ◌+◌, ◌-◌, ◌≤◌, ◌<◌, Bool, true, false, List, [], ◌∷◌, ◌++◌, Option, Some, arith}
use Rattle.std.specs.Prelude.{nat_eq}
use Rattle.std.proofs.lemmas.Bool.Decides.{nat_tests}
use Rattle.rb_tree.specs.declared.span.Span.{Span}
use Rattle.rb_tree.specs.declared.span.NameId.{NameId}
use Rattle.rb_grammar.specs.Tree.{Text, Word, Numbering, params_by}
use Rattle.rb_grammar.specs.Tree as tree
use Rattle.rb_grammar.specs.Scope.{Scope, is_local, enter_block, leave, with_local, with_params, with_target}
use Rattle.rb_checker.specs.declared.event.Sight.{Sight}
use Rattle.rb_checker.specs.declared.event.Sight.TheVariants as sight
use Rattle.rb_checker.specs.declared.event.Around.{Around as Enclosure}
use Rattle.rb_checker.specs.declared.event.Around.TheVariants as around
use Rattle.rb_checker.specs.declared.locals.Local.{Local}
use Rattle.rb_checker.specs.Around.{Open, behind}
use Rattle.rb_checker.specs.Events.{alone, inside, params_of}
use Rattle.rb_checker.specs.Locals.{scopes_of, use_of}
use Rattle.rb_checker.proofs.AllMade.{Events}
use Rattle.rb_accepted.proofs.Seen.{ReadIsKnown, Start, start_at, starts_in, places_of}
use Rattle.rb_accepted.proofs.Walked.{Point, changed, On, Within}
use Rattle.rb_accepted.proofs.Heard.{emptied, emptied_target, emptied_local, leave_emptied, Sees, sees_more, sees_left, Heard, heard_both, heard_one, heard_read, heard_param, heard_assigned}

-- ---- how often a number is in a list

abbrev pub once : Bool → ℕ
once true = 1
once false = 0

abbrev pub times : ℕ → List ℕ → ℕ
times p [] = 0
times p (x ∷ xs) = once (nat_eq x p) + times p xs

pub times_append : (p : ℕ) (xs ys : List ℕ) → times p (xs ++ ys) ≡ times p xs + times p ys
times_append p [] ys = omega arith
times_append p (x ∷ xs) ys = omega (arith, times_append p xs ys)

-- how often a thread starts at a place
abbrev pub starting : ℕ → Events → ℕ
starting p es = times p (places_of (starts_in es))

starts_append : (p : ℕ) (xs ys : List Start) → times p (places_of (xs ++ ys)) ≡ times p (places_of xs) + times p (places_of ys)
starts_append p [] ys = omega arith
starts_append p (x ∷ xs) ys = omega (arith, starts_append p xs ys)

pub starting_append : (p : ℕ) (es fs : Events) → starting p (es ++ fs) ≡ starting p es + starting p fs
starting_append p [] fs = omega arith
starting_append p (e ∷ es) fs =
    let own = start_at e.sight e.at in
    let one : times p (places_of (own ++ starts_in (es ++ fs))) ≡ times p (places_of own) + starting p (es ++ fs) = starts_append p own (starts_in (es ++ fs)) in
    let two : times p (places_of (own ++ starts_in es)) ≡ times p (places_of own) + starting p es = starts_append p own (starts_in es) in
    omega (arith, one, two, starting_append p es fs)

-- 1 at a place that has been reached, and behind it
abbrev pub past : ℕ → ℕ → ℕ
past from p = 1 - (from - p)

module _ (name : Text → NameId) where
  -- From one point to another: the scope stays as deep as it is; what is a local for the grammar is known, as it is behind; and a thread starts at a place
  -- at most once, and only at one between the points.
  pub record Run (x : Point) (es : Events) (y : Point) : Type 0 where
    pub rest : emptied x.scopes ≡ emptied y.scopes
    pub runs : (known : List Local) (round : Open) → Sees name known x.scopes (scopes_of round) → Heard name known round es y.scopes round
    pub places : (p : ℕ) → starting p es + past y.from p ≤ past x.from p

  pub run_none : (x y : Point) → On x y → Run x [] y
  run_none x y h =
      let l : x.from ≤ y.from = h.1 in
      record {
        rest = ap emptied h.0;
        runs = λ known round g. record { back = refl; reads = tt; sees = subst (λ s. Sees name known s (scopes_of round)) h.0 g };
        places = λ p. omega arith;
      }

  pub run_both : (x y z : Point) (es fs : Events) → Run x es y → Run y fs z → Run x (es ++ fs) z
  run_both x y z es fs g h = record {
    rest = g.rest ∙ h.rest;
    runs = λ known round s. heard_both name known round round round es fs y.scopes z.scopes (g.runs known round s) (λ t. h.runs _ round t);
    places = λ p. omega (arith, starting_append p es fs, g.places p, h.places p);
  }

  pub run_on : (w x y z : Point) (es : Events) → On w x → Run x es y → On y z → Run w es z
  run_on w x y z es h g k =
      let one : w.from ≤ x.from = h.1 in
      let two : y.from ≤ z.from = k.1 in
      record {
        rest = ap emptied h.0 ∙ g.rest ∙ ap emptied k.0;
        runs = λ known round s.
            subst (λ t. Heard name known round es t round) k.0 (g.runs known round (subst (λ t. Sees name known t (scopes_of round)) h.0 s));
        places = λ p. omega (arith, g.places p);
      }

  -- what no rule on locals speaks of
  pub record Quiet (s : Sight) (at : Span) : Type 0 where
    pub plain : (known : List Local) (round : Open) → ReadIsKnown known round s
    pub flat : (round : Open) → behind round s at ≡ round
    pub startless : start_at s at ≡ []

  alone_startless : (s : Sight) (at : Span) (p : ℕ) → start_at s at ≡ [] → starting p (alone s at) ≡ 0
  alone_startless s at p e = ap (λ own. times p (places_of (own ++ []))) e

  -- one event, by what is heard of it
  run_alone : (x y : Point) (s : Sight) (at : Span) → emptied x.scopes ≡ emptied y.scopes → x.from ≤ y.from → start_at s at ≡ []
      → ((known : List Local) (round : Open) → Sees name known x.scopes (scopes_of round) → Heard name known round (alone s at) y.scopes round)
      → Run x (alone s at) y
  run_alone x y s at e l none h = record { rest = e; runs = h; places = λ p. omega (arith, alone_startless s at p none) }

  quiet_heard : (s : Sight) (at : Span) (t : Scope) → Quiet s at → (known : List Local) (round : Open) → Sees name known t (scopes_of round)
      → Heard name known round (alone s at) t round
  quiet_heard s at t q known round g =
      subst (λ o. Heard name known round (alone s at) t o) (q.flat round)
      (heard_one name known round s at t (q.plain known round)
      (sees_more name known (use_of known round s at) t (scopes_of (behind round s at)) (subst (λ o. Sees name known t (scopes_of o)) (sym (q.flat round)) g)))

  pub run_quiet : (x y : Point) (s : Sight) (at : Span) → Quiet s at → On x y → Run x (alone s at) y
  run_quiet x y s at q h =
      run_alone x y s at (ap emptied h.0) h.1 q.startless
      (λ known round g. quiet_heard s at y.scopes q known round (subst (λ t. Sees name known t (scopes_of round)) h.0 g))

  pub run_field : (x y : Point) (id : NameId) (at : Span) → On x y → Run x (alone (sight.Field id) at) y
  run_field x y id at = run_quiet x y (sight.Field id) at (record { plain = λ known round. tt; flat = λ round. refl; startless = refl })

  pub run_global : (x y : Point) (id : NameId) (at : Span) → On x y → Run x (alone (sight.Global id) at) y
  run_global x y id at = run_quiet x y (sight.Global id) at (record { plain = λ known round. tt; flat = λ round. refl; startless = refl })

  pub run_calls : (x y : Point) (id : NameId) (at : Span) → On x y → Run x (alone (sight.Calls id) at) y
  run_calls x y id at = run_quiet x y (sight.Calls id) at (record { plain = λ known round. tt; flat = λ round. refl; startless = refl })

  pub run_makes : (x y : Point) (id : NameId) (at : Span) → On x y → Run x (alone (sight.Makes id) at) y
  run_makes x y id at = run_quiet x y (sight.Makes id) at (record { plain = λ known round. tt; flat = λ round. refl; startless = refl })

  pub run_self : (x y : Point) (at : Span) → On x y → Run x (alone sight.SelfRef at) y
  run_self x y at = run_quiet x y sight.SelfRef at (record { plain = λ known round. tt; flat = λ round. refl; startless = refl })

  pub run_returns : (x y : Point) (at : Span) → On x y → Run x (alone sight.Returns at) y
  run_returns x y at = run_quiet x y sight.Returns at (record { plain = λ known round. tt; flat = λ round. refl; startless = refl })

  pub run_leaves : (x y : Point) (at : Span) → On x y → Run x (alone sight.Leaves at) y
  run_leaves x y at = run_quiet x y sight.Leaves at (record { plain = λ known round. tt; flat = λ round. refl; startless = refl })

  -- locals
  pub run_reads : (x y : Point) (text : Text) (at : Span) → is_local text x.scopes ≡ true → On x y → Run x (alone (sight.Reads (name text)) at) y
  run_reads x y text at is h =
      run_alone x y (sight.Reads (name text)) at (ap emptied h.0) h.1 refl
      (λ known round g. heard_read name known round text at y.scopes (ap (is_local text) (sym h.0) ∙ is) (subst (λ t. Sees name known t (scopes_of round)) h.0 g))

  pub run_assigns : (x : Point) (w : Word) (at : Span) → Run x (alone (sight.Assigns (name w.text)) at) (changed (with_target (tree.to_local w)) x)
  run_assigns x w at =
      run_alone x (changed (with_target (tree.to_local w)) x) (sight.Assigns (name w.text)) at (sym (emptied_target (tree.to_local w) x.scopes)) (omega arith) refl
      (λ known round g. heard_assigned name known round w at x.scopes g)

  run_param : (x : Point) (w : Word) → Run x (alone (sight.Param (name w.text)) w.at) (changed (with_local w.text) x)
  run_param x w =
      run_alone x (changed (with_local w.text) x) (sight.Param (name w.text)) w.at (sym (emptied_local w.text x.scopes)) (omega arith) refl
      (λ known round g. heard_param name known round w x.scopes g)

  -- a thread that starts
  start_past : (from to q p : ℕ) (b : Bool) → nat_eq q p ≡ b → from ≤ q → q < to → (once b + 0) + past to p ≤ past from p
  start_past from to q p true is l m = let same : q ≡ p = grind (arith, nat_tests, is) in omega (arith, l, m, same)
  start_past from to q p false is l m = omega (arith, l, m)

  pub run_starts : (x y : Point) (number : ℕ) (at : Span) → On x y → Within x at y → Run x (alone (sight.Starts number) at) y
  run_starts x y number at h w = record {
    rest = ap emptied h.0;
    runs = λ known round g. quiet_starts known round (subst (λ t. Sees name known t (scopes_of round)) h.0 g);
    places = λ p. start_past x.from y.from at.from p (nat_eq at.from p) refl w.above w.below;
  }
    where
      quiet_starts : (known : List Local) (round : Open) → Sees name known y.scopes (scopes_of round)
          → Heard name known round (alone (sight.Starts number) at) y.scopes round
      quiet_starts known round g = heard_one name known round (sight.Starts number) at y.scopes tt g

  -- ---- inside something

  heard_inside : (a : Enclosure) (at : Span) (known : List Local) (round : Open) (es : Events) (s t : Scope)
      → Heard name known ((a, at) ∷ round) es s ((a, at) ∷ round)
      → ((ks : List Local) → Sees name ks s (scopes_of ((a, at) ∷ round)) → Sees name ks t (scopes_of round)) → Heard name known round (inside a at es) t round
  heard_inside a at known round es s t g f =
      let inner = heard_both name known ((a, at) ∷ round) ((a, at) ∷ round) round es (alone sight.Ends at) s t g
      (λ sees. heard_one name _ ((a, at) ∷ round) sight.Ends at t tt (f _ sees)) in
      record { back = inner.back; reads = (tt, inner.reads); sees = inner.sees }

  inside_starting : (a : Enclosure) (at : Span) (es : Events) (p : ℕ) → starting p (inside a at es) ≡ starting p es
  inside_starting a at es p = omega (arith, starting_append p es (alone sight.Ends at))

  pub run_value : (x y : Point) (id : NameId) (at : Span) (es : Events) → Run x es y → Run x (inside (around.Value id) at es) y
  run_value x y id at es g = record {
    rest = g.rest;
    runs = λ known round s. heard_inside (around.Value id) at known round es y.scopes y.scopes (g.runs known ((around.Value id, at) ∷ round) s) (λ ks h. h);
    places = λ p. omega (arith, inside_starting (around.Value id) at es p, g.places p);
  }

  pub run_loop : (x y : Point) (at : Span) (es : Events) → Run x es y → Run x (inside around.Loop at es) y
  run_loop x y at es g = record {
    rest = g.rest;
    runs = λ known round s. heard_inside around.Loop at known round es y.scopes y.scopes (g.runs known ((around.Loop, at) ∷ round) s) (λ ks h. h);
    places = λ p. omega (arith, inside_starting around.Loop at es p, g.places p);
  }

  -- a scope of a block or a thread, which is left behind it
  left_scope : (x z y : Point) → emptied (enter_block x.scopes) ≡ emptied z.scopes → leave z.scopes ≡ y.scopes → x.scopes ≡ y.scopes
  left_scope x z y e l = ap leave e ∙ leave_emptied z.scopes ∙ l

  scope_left : (x z y : Point) (c : Option ℕ) (ks : List Local) (round : Open) → emptied (enter_block x.scopes) ≡ emptied z.scopes → leave z.scopes ≡ y.scopes
      → Sees name ks z.scopes (c ∷ scopes_of round) → Sees name ks y.scopes (scopes_of round)
  scope_left x z y c ks round e l g =
      subst (λ t. Sees name ks t (scopes_of round)) (left_scope x z y e l) (sees_left name ks z.scopes x.scopes c (scopes_of round) (sym e) g)

  pub run_block : (x z y : Point) (at : Span) (es : Events) → Run (changed enter_block x) es z → leave z.scopes ≡ y.scopes → z.from ≤ y.from
      → Run x (inside around.Block at es) y
  run_block x z y at es g l m = record {
    rest = ap emptied (left_scope x z y g.rest l);
    runs = λ known round s.
        heard_inside around.Block at known round es z.scopes y.scopes (g.runs known ((around.Block, at) ∷ round) (tt, s))
        (λ ks h. scope_left x z y (Some at.from) ks round g.rest l h);
    places = λ p. omega (arith, inside_starting around.Block at es p, g.places p, m);
  }

  pub run_thread : (x z y : Point) (at : Span) (es : Events) → Run (changed enter_block x) es z → leave z.scopes ≡ y.scopes → z.from ≤ y.from
      → Run x (inside around.Thread at es) y
  run_thread x z y at es g l m = record {
    rest = ap emptied (left_scope x z y g.rest l);
    runs = λ known round s.
        heard_inside around.Thread at known round es z.scopes y.scopes (g.runs known ((around.Thread, at) ∷ round) (tt, s))
        (λ ks h. scope_left x z y (Some at.from) ks round g.rest l h);
    places = λ p. omega (arith, inside_starting around.Thread at es p, g.places p, m);
  }

-- parameters, by a numbering
pub run_params : (n : Numbering) (x : Point) (ws : List Word) → Run n.name x (params_of (params_by n ws)) (changed (with_params ws) x)
run_params n x [] = run_none n.name x x (refl, omega arith)
run_params n x (w ∷ ws) =
    run_both n.name x (changed (with_local w.text) x) (changed (with_params (w ∷ ws)) x) (alone (sight.Param (n.name w.text)) w.at) (params_of (params_by n ws))
    (run_param n.name x w) (run_params n (changed (with_local w.text) x) ws)
