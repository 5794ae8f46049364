-- A relation of trees that each making carries on, in the order of the text, is one of all trees in a script.
use Rattle.std.proofs.Common.{refl, ℕ, zero, suc, ◌≤◌, true, List, [], ◌∷◌, arith}
use Rattle.std.specs.Prelude.{neg_ℤ}
use Rattle.rb_lexer.specs.declared.token.Token.{Token}
use Rattle.rb_grammar.specs.Look.{if_word}
use Rattle.rb_grammar.specs.Tree.{Text, Word, Tree, BlockTree, PieceTree, TargetTree, MethodTree, Members, Items, code_of, flat}
use Rattle.rb_grammar.specs.Tree as tree
use Rattle.rb_grammar.specs.Scope.{Scope, top_level, enter_method, enter_block, with_params}
use Rattle.rb_grammar.specs.Phrase.{Operand, Head, Part, Tier, Phrase, Value}
use Rattle.rb_grammar.specs.Phrase.{or_tier, and_tier, equal_tier, less_tier, shift_tier, sum_tier, product_tier, unary_tier}
use Rattle.rb_grammar.specs.Phrase as p
use Rattle.rb_grammar.specs.Rule.{done}
use Rattle.rb_grammar.specs.Grammar.{rule, spelled, is_one, text_of, word_of, integer_of, target_of}
use Rattle.rb_grammar.specs.Grammar.{modify}
use Rattle.rb_grammar.specs.Grammar.{chosen, looped}
use Rattle.rb_grammar.specs.Script.{IsScript}
use Rattle.rb_grammar.proofs.Each.{each_append}
use Rattle.rb_accepted.proofs.Named.{identifier_named, symbol_named}
use Rattle.rb_accepted.proofs.Walked.{Point, point, before, behind, changed, On, Within, IsNamed, stay, step, on_changed, token_within, within_on, here_within}
use Rattle.rb_accepted.proofs.Walked.{Walks, IsWalked}
use Rattle.rb_accepted.proofs.Keeping.{Follow, Ends, PartIn, PairIn, Good, Given, Keeps, spells_keeps}
use Rattle.rb_accepted.proofs.Makings.{setter_named}
use Rattle.rb_accepted.proofs.Makings.{walks_on, one_walks, walks_more, pieces_more, pieces_bytes, pairs_more, target_of_in, later}
use Rattle.rb_accepted.proofs.Makings.{sooner, keeps_operand, keeps_unless_head, keeps_assigning, keeps_joined, keeps_chained, keeps_decided, keeps_modify, keeps_chosen, keeps_looped}
use Rattle.rb_accepted.proofs.Makings.{keeps_plain_name, keeps_called, keeps_thread, keeps_object, keeps_commanded, keeps_opposite, body_in}

module _ (W : Point → Tree → Point → Type 0) (M : Point → Members → Point → Type 0) (I : Items → Point → Type 0) (kept : IsWalked W M I) where
  -- ---- the phrases

  -- a leaf at a token
  leaf_here : (x here : Point) (t : Token) → On x here → here.from ≤ t.at.from → On x (behind here t) × Within x t.at (behind here t)
  leaf_here x here t g l = (step x here t g l, token_within x here t g.1 l)

  -- a phrase that opens at a token
  opened_here : (x here there : Point) (t : Token) → On x here → here.from ≤ t.at.from → suc t.at.from ≤ there.from → Within x t.at there
  opened_here x here there t g l n = here_within x here there t g.1 l n

  keeps : (n : Phrase) (low here : Point) → Given W M I n low here → Keeps W M I (rule n) (Good W M I n low) here
  unfolding rule
  keeps (p.items found) low here g = (
    λ t c. (low, (kept.items_on here (behind here t) found g (step here here t (stay here) c.after), λ v there n h. h)),
    (
      λ t c. (
        behind here t,
        (
          stay (behind here t),
          λ class there n f. (
            low,
            (
              kept.with_class (behind here t) there found class
                  (kept.items_on here (behind here t) found g (step here here t (stay here) c.after)) f,
              λ v last o h. h,
            ),
          ),
        ),
      ),
      (
        λ t c. (
          behind here t,
          (
            stay (behind here t),
            λ m there n f. (
              low,
              (
                kept.with_function (behind here t) there found m
                    (kept.items_on here (behind here t) found g (step here here t (stay here) c.after)) f,
                λ v last o h. h,
              ),
            ),
          ),
        ),
        (
          (here, (stay here, λ a there n f. (low, (kept.with_statement here there found a g f, λ v last o h. h)))),
          λ t c. kept.items_on here (behind here t) found g (step here here t (stay here) c.after),
        ),
      ),
    ),
  )
  keeps (p.items_rest found) low here g = (
    λ t c. (low, (kept.items_on here (behind here t) found g (step here here t (stay here) c.after), λ v there n h. h)),
    λ t c. kept.items_on here (behind here t) found g (step here here t (stay here) c.after),
  )
  keeps p.class_rest low here g = λ t c u e.
      (low, (kept.no_members low (behind (behind here t) u) (step low (behind here t) u (step low here t g c.after) e.after), λ m there n h. h))
  keeps (p.members_rest found) low here g = (
    λ t c. (
      behind here t,
      (
        stay (behind here t),
        λ m there n f u e. (
          low,
          (
            kept.members_on low there (behind there u) (tree.with_method found m)
                (kept.with_method low (behind here t) there found m (kept.members_on low here (behind here t) found g (step here here t (stay here) c.after)) f)
                (step there there u (stay there) e.after),
            λ v last o h. h,
          ),
        ),
      ),
    ),
    (
      λ t c. (
        here,
        (
          step here here t (stay here) c.after,
          λ ws there n f u e. (
            low,
            (
              kept.members_on low there (behind there u) (tree.with_attributes found (text_of t.kind) ws)
                  (kept.with_attributes low there found (text_of t.kind) ws (kept.members_on low here there found g f.1) f.0)
                  (step there there u (stay there) e.after),
              λ v last o h. h,
            ),
          ),
        ),
      ),
      λ t c. kept.members_on low here (behind here t) found g (step here here t (stay here) c.after),
    ),
  )
  keeps p.symbols low here g = λ t c.
      (low, (((symbol_named t.kind t.spaced c.met c.word, tt), step low here t g c.after), λ v there n h. h))
  keeps (p.symbols_rest found) low here g = (
    λ t c w e. (
      low,
      (
        (
          each_append IsNamed found (word_of w ∷ []) g.0 (symbol_named w.kind w.spaced e.met e.word, tt),
          step low (behind here t) w (step low here t g.1 c.after) e.after,
        ),
        λ v there n h. h,
      ),
    ),
    g,
  )
  keeps p.method_rest low here g = λ t c.
      let is = identifier_named t.kind t.spaced c.met c.word in
      let inside = changed enter_method low in
      let in_method = on_changed enter_method low (behind here t) (step low here t g c.after) in
      let now = changed enter_method (behind here t) in (
        λ e e' o o'.
            let opened = step inside (behind now e) o (step inside now e in_method e'.after) o'.after in (
              inside,
              (
                opened,
                λ w there n h. (inside, ((setter_named (text_of t.kind) is, h), λ v last u f. f)),
              ),
            ),
        (
          λ o o'. (
            inside,
            (step inside now o in_method o'.after, λ ws there n h. (inside, ((is, h), λ v last u f. f))),
          ),
          (inside, ((is, in_method), λ v there n h. h)),
        ),
      )
  keeps p.params low here g = (λ t c. step low here t g c.after, λ t c. (low, (step low here t g c.after, λ v there n h. h)))
  keeps (p.params_rest found) low here g = (
    λ t c w e. (low, (step low (behind here t) w (step low here t g c.after) e.after, λ v there n h. h)),
    λ t c. step low here t g c.after,
  )
  keeps p.one_param low here g = λ t c e e'. step low (behind here t) e (step low here t g c.after) e'.after
  keeps (p.method_body w ws) low here g = (
    changed (with_params ws) low,
    (
      on_changed (with_params ws) low here g.1,
      λ b there n h e c. (g.0, body_in W M I kept low there ws b e h c.after),
    ),
  )
  keeps (p.body found) low here g = (
    λ t c. (low, (walks_on W M I kept low here (behind here t) found g (step here here t (stay here) c.after), λ v there n h. h)),
    ((here, (stay here, λ a there n f. (low, (walks_more W M I kept low here there found a g f, λ v last o h. h)))), g),
  )
  keeps (p.body_rest found) low here g =
      (λ t c. (low, (walks_on W M I kept low here (behind here t) found g (step here here t (stay here) c.after), λ v there n h. h)), g)
  keeps p.statement low here g = (low, (g, λ a there n f. (low, (f, λ v last o h. h))))
  keeps p.simple low here g = (
    λ t c. (
      (low, (step low here t g c.after, λ a there n f. kept.of_return_value low there t.at a f (opened_here low here there t g c.after n))),
      kept.of_return low (behind here t) t.at (leaf_here low here t g c.after).0 (leaf_here low here t g c.after).1,
    ),
    (
      λ t c. kept.of_break low (behind here t) t.at (leaf_here low here t g c.after).0 (leaf_here low here t g c.after).1,
      (
        λ t c. kept.of_next low (behind here t) t.at (leaf_here low here t g c.after).0 (leaf_here low here t g c.after).1,
        (low, (g, λ v there n h. h)),
      ),
    ),
  )
  keeps (p.modified a) low here g = (
    λ t c. (
      before here t,
      (
        (refl, omega arith),
        λ b there n f.
            let own : Within (before here t) t.at there = record { above = omega arith; below = omega arith } in
            let start = kept.mono low here a g in
            let wide : Within low t.at there = here_within low here there t start c.after n in
            keeps_decided W M I kept (W low) (before here t) there t b (modify t a) f own
            (λ condition e. keeps_modify W M I kept low (before here t) there t a condition (sooner W M I kept low here t a g c.after) (omega arith) e wide),
      ),
    ),
    g,
  )
  keeps (p.expression d) low here g = (low, (g, λ part there n f. keeps_commanded W M I kept low there part f))
  keeps (p.assignment d) low here g = (low, (g, λ part there n f. (low, (f, λ v last o h. h))))
  keeps (p.assignment_rest d part) low here g = keeps_assigning W M I kept low here d part (target_of part) g (target_of_in W M I kept low here part g)
  keeps (p.argument d) low here g = (low, (g, λ part there n f. keeps_operand W M I kept (W low) low there there part done f (λ a h. h)))
  keeps p.command_arguments low here g = (low, (g, λ a there n f. (low, (one_walks W M I kept low there a f, λ v last o h. h))))
  keeps (p.command_arguments_rest found) low here g = (
    λ t c. (here, (step here here t (stay here) c.after, λ a there n f. (low, (walks_more W M I kept low here there found a g f, λ v last o h. h)))),
    g,
  )
  keeps (p.ternary d) low here g = (low, (g, λ part there n f. (low, (f, λ v last o h. h))))
  keeps (p.ternary_rest d part) low here g =
      keeps_unless_head W M I kept low here part _ g (
        λ t c. keeps_operand W M I kept (PartIn W low) low here (behind here t) part _ g (λ a f. (
          behind here t,
          (
            stay (behind here t),
            λ ab there n h. kept.of_choice low (behind here t) h.0 there t.at a (ab.0 ∷ []) (ab.1 ∷ []) (later W M I kept low here t a f c.after) (omega arith)
                (one_walks W M I kept (behind here t) h.0 ab.0 h.1.0) (one_walks W M I kept h.0 there ab.1 h.1.1)
                (here_within low here there t (kept.mono low here a f) c.after n),
          ),
        )),
        g,
      )
  keeps (p.branches d) low here g = (
    low,
    (
      g,
      λ part there n e. keeps_operand W M I kept (PairIn W low) low there there part _ e (λ a f t c. (
        there,
        (
          step there there t (stay there) c.after,
          λ other last o h. keeps_operand W M I kept (PairIn W low) there last last other _ h (λ b k. (there, (f, k))),
        ),
      )),
    ),
  )
  keeps (p.chain d or_tier) low here g = (low, (g, λ part there n f. (low, (f, λ v last o h. h))))
  keeps (p.chain d and_tier) low here g = (low, (g, λ part there n f. (low, (f, λ v last o h. h))))
  keeps (p.chain d equal_tier) low here g = (low, (g, λ part there n f. (low, (f, λ v last o h. h))))
  keeps (p.chain d less_tier) low here g = (low, (g, λ part there n f. (low, (f, λ v last o h. h))))
  keeps (p.chain d shift_tier) low here g = (low, (g, λ part there n f. (low, (f, λ v last o h. h))))
  keeps (p.chain d sum_tier) low here g = (low, (g, λ part there n f. (low, (f, λ v last o h. h))))
  keeps (p.chain d product_tier) low here g = (low, (g, λ part there n f. (low, (f, λ v last o h. h))))
  keeps (p.chain d unary_tier) low here g = (low, (g, λ v there n h. h))
  keeps (p.chain_rest d tier part) low here g =
      keeps_unless_head W M I kept low here part _ g (
        λ t c. keeps_operand W M I kept (PartIn W low) low here (behind here t) part _ g (λ a f. (
          behind here t,
          (
            stay (behind here t),
            λ next there n e. keeps_operand W M I kept (PartIn W low) (behind here t) there there next _ e (λ b h.
                keeps_joined W M I kept (PartIn W low) low (behind here t) there tier t a b _ (later W M I kept low here t a f c.after) h
                (here_within low here there t (kept.mono low here a f) c.after n) (λ both k. keeps_chained W M I kept low there d tier both k)),
          ),
        )),
        g,
      )
  keeps (p.unary d) low here g = (
    λ t c. (
      low,
      (
        step low here t g c.after,
        λ part there n e. keeps_operand W M I kept (PartIn W low) low there there part _ e
            (λ a f. kept.of_negated low there t.at a f (opened_here low here there t g c.after n)),
      ),
    ),
    (
      λ t c.
          let start : low.from ≤ here.from = g.1 in
          let after : here.from ≤ t.at.from = c.after in (
            (
              λ j e.
                  let after' : suc t.at.from ≤ j.at.from = e.after in (
                    low,
                    (
                      kept.of_integer low (behind (behind here t) j) (neg_ℤ (integer_of j.kind)) t.at
                          (step low (behind here t) j (step low here t g c.after) e.after)
                          (record { above = omega arith; below = omega arith }),
                      λ v there n h. h,
                    ),
                  ),
              keeps_opposite W M I kept low (behind here t) d t (step low here t g c.after) (omega arith) (omega arith),
            ),
            keeps_opposite W M I kept low (behind here t) d t (step low here t g c.after) (omega arith) (omega arith),
          ),
      (low, (g, λ v there n h. h)),
    ),
  )
  keeps (p.postfix d) low here g = (low, (g, λ part there n f. (low, (f, λ v last o h. h))))
  keeps (p.postfix_rest d part) low here g =
      keeps_unless_head W M I kept low here part _ g (
        λ t c. keeps_operand W M I kept (PartIn W low) low here (behind here t) part _ g (λ a f w e.
            let start = kept.mono low here a f in
            let after : here.from ≤ t.at.from = c.after in
            keeps_called W M I kept low (behind (behind here t) w) d a (word_of w)
            (later W M I kept low (behind here t) w a (later W M I kept low here t a f c.after) e.after)
            (identifier_named w.kind w.spaced e.met e.word) (token_within low (behind here t) w (omega arith) e.after)),
        (
          λ t c. keeps_operand W M I kept (PartIn W low) low here (behind here t) part _ g (λ a f. (
            behind here t,
            (
              stay (behind here t),
              λ j there n h. (
                low,
                (
                  (behind here t, (later W M I kept low here t a f c.after, (h, here_within low here there t (kept.mono low here a f) c.after n))),
                  λ v last o k. k,
                ),
              ),
            ),
          )),
          g,
        ),
      )
  keeps p.arguments low here g = (λ t c. step low here t g c.after, (low, (g, λ a there n f. (low, (one_walks W M I kept low there a f, λ v last o h. h)))))
  keeps (p.arguments_rest found) low here g = (
    λ t c. (here, (step here here t (stay here) c.after, λ a there n f. (low, (walks_more W M I kept low here there found a g f, λ v last o h. h)))),
    λ t c. walks_on W M I kept low here (behind here t) found g (step here here t (stay here) c.after),
  )
  keeps p.index_rest low here g = (low, (g, λ a there n f t c. later W M I kept low there t a f c.after))
  keeps (p.primary d) low here g = (
    λ t c. kept.of_integer low (behind here t) (integer_of t.kind) t.at (leaf_here low here t g c.after).0 (leaf_here low here t g c.after).1,
    (
      λ t c. (
        low,
        (step low here t g c.after, λ pieces there n f. kept.of_string low there t.at pieces f (opened_here low here there t g c.after n)),
      ),
      (
        λ t c. kept.of_symbol low (behind here t) (word_of t) (leaf_here low here t g c.after).0 (leaf_here low here t g c.after).1,
        (
          λ t c. kept.of_nil low (behind here t) t.at (leaf_here low here t g c.after).0 (leaf_here low here t g c.after).1,
          (
            λ t c. kept.of_true low (behind here t) t.at (leaf_here low here t g c.after).0 (leaf_here low here t g c.after).1,
            (
              λ t c. kept.of_false low (behind here t) t.at (leaf_here low here t g c.after).0 (leaf_here low here t g c.after).1,
              (
                λ t c. kept.of_self low (behind here t) t.at (leaf_here low here t g c.after).0 (leaf_here low here t g c.after).1,
                (
                  λ t c. leaf_here low here t g c.after,
                  (
                    λ t c. leaf_here low here t g c.after,
                    (
                      λ t c. (
                        λ o e. (
                          low,
                          (
                            step low (behind here t) o (step low here t g c.after) e.after,
                            λ args there n s.
                                let after : suc t.at.from ≤ o.at.from = e.after in
                                kept.of_call low there (word_of t) args s (opened_here low here there t g c.after (omega arith)),
                          ),
                        ),
                        keeps_plain_name W M I kept low (behind here t) (word_of t) g.0 (leaf_here low here t g c.after).0 (leaf_here low here t g c.after).1,
                      ),
                      (
                        λ t c o e w i.
                            let on = step low (behind here t) o (step low here t g c.after) e.after in
                            let leaf = leaf_here low (behind (behind here t) o) w on i.after in (
                              keeps_thread W M I kept low (behind (behind (behind here t) o) w) d w leaf.0 leaf.1,
                              keeps_object W M I kept low (behind (behind (behind here t) o) w) (word_of t) w leaf.0 leaf.1,
                            ),
                        (
                          λ t c. (
                            low,
                            (step low here t g c.after, λ items there n f. kept.of_array low there t.at items f (opened_here low here there t g c.after n)),
                          ),
                          (
                            λ t c. (
                              low,
                              (step low here t g c.after, λ pairs there n f. kept.of_hash low there t.at pairs f (opened_here low here there t g c.after n)),
                            ),
                            (
                              λ t c. (low, (step low here t g c.after, λ a there n f. f)),
                              (
                                λ t c. (low, (leaf_here low here t g c.after, λ a there n f. f)),
                                λ t c. (low, (leaf_here low here t g c.after, λ a there n f. f)),
                              ),
                            ),
                          ),
                        ),
                      ),
                    ),
                  ),
                ),
              ),
            ),
          ),
        ),
      ),
    ),
  )
  keeps p.array_rest low here g = (λ t c. step low here t g c.after, (low, (g, λ a there n f. (low, (one_walks W M I kept low there a f, λ v last o h. h)))))
  keeps (p.array_items_rest found) low here g = (
    λ t c. (
      λ e e'. walks_on W M I kept low here (behind (behind here t) e) found g (step here (behind here t) e (step here here t (stay here) c.after) e'.after),
      (here, (step here here t (stay here) c.after, λ a there n f. (low, (walks_more W M I kept low here there found a g f, λ v last o h. h)))),
    ),
    λ t c. walks_on W M I kept low here (behind here t) found g (step here here t (stay here) c.after),
  )
  keeps p.hash_rest low here g = (
    λ t c. step low here t g c.after,
    (low, (g, λ ab there n f. (low, ((f.0, (f.1.0, one_walks W M I kept f.0 there ab.1 f.1.1)), λ v last o h. h)))),
  )
  keeps (p.pairs_rest found) low here g = (
    λ t c. (
      λ e e'. walks_on W M I kept low here (behind (behind here t) e) (flat found) g (step here (behind here t) e (step here here t (stay here) c.after) e'.after),
      (here, (step here here t (stay here) c.after, λ ab there n f. (low, (pairs_more W M I kept low here there found ab g f, λ v last o h. h)))),
    ),
    λ t c. walks_on W M I kept low here (behind here t) (flat found) g (step here here t (stay here) c.after),
  )
  keeps p.pair low here g = (
    λ t c. (
      behind here t,
      (
        stay (behind here t),
        λ b there n f. (
          behind here t,
          (kept.of_symbol low (behind here t) (word_of t) (leaf_here low here t g c.after).0 (leaf_here low here t g c.after).1, f),
        ),
      ),
    ),
    (low, (g, λ a there n f t c. (there, (step there there t (stay there) c.after, λ b last o h. (there, (f, h)))))),
  )
  keeps p.group_rest low here g = (low, (g, λ a there n f t c. later W M I kept low there t a f c.after))
  keeps (p.conditional t) low here g = (
    low,
    (
      g.0,
      λ a there n f.
          let wide = within_on low here there t.at g.1 n in
          keeps_decided W M I kept (W low) low there t a (λ condition. chosen (is_one (if_word ∷ []) t) t condition done) f wide
          (λ condition e. keeps_chosen W M I kept (W low) low there (is_one (if_word ∷ []) t) t condition done e wide (λ x last s. s)),
    ),
  )
  keeps p.then low here g = (
    λ t c. step low here t g c.after,
    λ t c. (λ w e. step low (behind here t) w (step low here t g c.after) e.after, step low here t g c.after),
  )
  keeps (p.otherwise may_go_on) low here g = (
    λ t c. (
      low,
      (
        step low here t g c.after,
        λ condition there n e.
            keeps_chosen W M I kept (Walks W low) low there true t condition (λ a. done (a ∷ [])) e (opened_here low here there t g c.after n)
            (λ x last s. one_walks W M I kept low last x s),
      ),
    ),
    (
      λ t c. (
        low,
        (step low here t g c.after, λ b there n h e e'. walks_on W M I kept low there (behind there e) b h (step there there e (stay there) e'.after)),
      ),
      λ t c. step low here t g c.after,
    ),
  )
  keeps (p.loop_rest t) low here g = (
    low,
    (
      g.0,
      λ a there n f.
          let wide = within_on low here there t.at g.1 n in
          keeps_decided W M I kept (W low) low there t a (looped t) f wide (λ condition e. keeps_looped W M I kept low there t condition e wide),
    ),
  )
  keeps (p.text_rest found) low here g = (
    λ t c. (
      low,
      (
        pieces_bytes W M I kept low (behind here t) found (text_of t.kind)
            (walks_on W M I kept low here (behind here t) (code_of found) g (step here here t (stay here) c.after)),
        λ v there n h. h,
      ),
    ),
    (
      λ t c. (here, (step here here t (stay here) c.after, λ a there n f. (low, (pieces_more W M I kept low here there found a g f, λ v last o h. h)))),
      λ t c. walks_on W M I kept low here (behind here t) (code_of found) g (step here here t (stay here) c.after),
    ),
  )
  keeps p.code_rest low here g = (low, (g, λ a there n f t c. later W M I kept low there t a f c.after))
  keeps (p.block_rest in_braces at) low here g =
      let inside = changed enter_block low in
      let now = changed enter_block here in
      let on = on_changed enter_block low here g in (
        λ t c w e. (
          inside,
          (
            step inside (behind now t) w (step inside now t on c.after) e.after,
            λ ws there n h. (inside, (h, λ v last o k. k)),
          ),
        ),
        (inside, (on, λ v there n h. h)),
      )
  keeps (p.bar_params_rest found) low here g = (
    λ t c w e. (low, (step low (behind here t) w (step low here t g c.after) e.after, λ v there n h. h)),
    λ t c. step low here t g c.after,
  )
  keeps (p.block_body in_braces at ws) low here g = (
    changed (with_params ws) low,
    (
      on_changed (with_params ws) low here g,
      λ b there n h e c. body_in W M I kept low there ws b e h c.after,
    ),
  )

  -- what is spelled is walked from one point to another
  spelled_walks : (limit depth levels : ℕ) (n : Phrase) (s : Scope) (ts : List Token) (v : Value n) (s' : Scope) (us : List Token) (low : Point) (from : ℕ)
      → Given W M I n low (point s from) → Follow from ts → spelled limit depth levels n s ts v s' us → Ends (Good W M I n low) v from s' us
  spelled_walks limit zero levels n s ts v s' us low from g o d = absurd d
  spelled_walks limit (suc depth) levels n s ts v s' us low from g o d =
      spells_keeps W M I limit (spelled limit depth) (spelled_walks limit depth) levels (Good W M I n low) d from o (keeps n low (point s from) g)

  -- the items of a script have what each making of them carries on, up to a point
  pub script_walks : (limit levels : ℕ) (tokens : List Token) (found : Items) → Follow 0 tokens → IsScript limit levels tokens found → (y : Point) × I found y
  script_walks limit levels tokens found o script =
      let e = spelled_walks limit script.depth levels (p.items tree.no_items) top_level tokens found script.scopes []
      (point top_level 0) 0 kept.no_items o script.spells in
      (point script.scopes e.there, e.is)
