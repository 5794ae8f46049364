-- The choices of each rule are told apart by the next token.
use Rattle.std.proofs.Common.{Bool, true, false, Option, Some, None, refl}
use Rattle.rb_lexer.specs.declared.token.Token.{Token}
use Rattle.rb_grammar.specs.Tree.{Word, Tree, TargetTree}
use Rattle.rb_grammar.specs.Phrase.{Operand, Head, Part, Tier, Phrase, Value}
use Rattle.rb_grammar.specs.Phrase.{or_tier, and_tier, equal_tier, less_tier, shift_tier, sum_tier, product_tier, unary_tier}
use Rattle.rb_grammar.specs.Phrase as p
use Rattle.rb_grammar.specs.Grammar.{rule, assigning, target_of, tree_of, word_of, negative, called, named, thread, object}
use Rattle.rb_grammar.proofs.Looks.{every}
use Rattle.rb_grammar.proofs.Follow.{Apart, follows}

apart_assigning : (d : Bool) (o : Operand) (target : Option TargetTree) → Apart (assigning d (p.plain o) target) (follows (p.assignment_rest d (p.plain o)))
apart_assigning d o None = tt
apart_assigning true o (Some target) = ((λ t. ((λ v. (tt, tt)), λ v. every _ refl)), tt, every _ refl)
apart_assigning false o (Some target) = ((λ t. ((λ v. (tt, tt)), λ v. every _ refl)), tt, every _ refl)

negative_apart : (d : Bool) (t : Token) → Apart (negative d t) (follows (p.unary d))
negative_apart true t = (
  (
    (λ t. ((λ v. tt), elim [ p.plain o ↦ every _ refl | p.head h ↦ every _ refl ])),
    (elim [ p.plain o ↦ tt | p.head h ↦ tt ], elim [ p.plain o ↦ every _ refl | p.head h ↦ every _ refl ]),
    every _ refl,
  ),
  (elim [ p.plain o ↦ tt | p.head h ↦ tt ], elim [ p.plain o ↦ every _ refl | p.head h ↦ every _ refl ]),
)
negative_apart false t = (
  (
    (λ t. ((λ v. tt), elim [ p.plain o ↦ every _ refl | p.head h ↦ every _ refl ])),
    (elim [ p.plain o ↦ tt | p.head h ↦ tt ], elim [ p.plain o ↦ every _ refl | p.head h ↦ every _ refl ]),
    every _ refl,
  ),
  (elim [ p.plain o ↦ tt | p.head h ↦ tt ], elim [ p.plain o ↦ every _ refl | p.head h ↦ every _ refl ]),
)

called_apart : (d : Bool) (a : Tree) (w : Word) → Apart (called d a w) (follows (p.postfix d))
called_apart true a w = (
  (λ t. (
    (λ v. (
      (
        (λ t. ((λ v. ((λ v. tt), elim [ p.plain o ↦ every _ refl | p.head h ↦ every _ refl ])), λ v. every _ refl)),
        (
          (λ t. ((λ v. ((λ v. tt), elim [ p.plain o ↦ every _ refl | p.head h ↦ every _ refl ])), λ v. every _ refl)),
          ((λ v. tt), elim [ p.plain o ↦ every _ refl | p.head h ↦ every _ refl ]),
          every _ refl,
        ),
        every _ refl,
      ),
      ((λ v. tt), elim [ p.plain o ↦ every _ refl | p.head h ↦ every _ refl ]),
    )),
    λ v. every _ refl,
  )),
  (
    (
      (λ t. ((λ v. ((λ v. tt), elim [ p.plain o ↦ every _ refl | p.head h ↦ every _ refl ])), λ v. every _ refl)),
      (
        (λ t. ((λ v. ((λ v. tt), elim [ p.plain o ↦ every _ refl | p.head h ↦ every _ refl ])), λ v. every _ refl)),
        (
          tt,
          (
            ((λ v. tt), elim [ p.plain o ↦ every _ refl | p.head h ↦ every _ refl ]),
            ((λ v. tt), elim [ p.plain o ↦ every _ refl | p.head h ↦ every _ refl ]),
          ),
        ),
        every _ refl,
      ),
      every _ refl,
    ),
    (
      tt,
      (
        ((λ v. tt), elim [ p.plain o ↦ every _ refl | p.head h ↦ every _ refl ]),
        ((λ v. tt), elim [ p.plain o ↦ every _ refl | p.head h ↦ every _ refl ]),
      ),
    ),
  ),
  every _ refl,
)
called_apart false a w = (
  (λ t. (
    (λ v. (
      (
        (λ t. ((λ v. ((λ v. tt), elim [ p.plain o ↦ every _ refl | p.head h ↦ every _ refl ])), λ v. every _ refl)),
        (
          (λ t. ((λ v. ((λ v. tt), elim [ p.plain o ↦ every _ refl | p.head h ↦ every _ refl ])), λ v. every _ refl)),
          ((λ v. tt), elim [ p.plain o ↦ every _ refl | p.head h ↦ every _ refl ]),
          every _ refl,
        ),
        every _ refl,
      ),
      ((λ v. tt), elim [ p.plain o ↦ every _ refl | p.head h ↦ every _ refl ]),
    )),
    λ v. every _ refl,
  )),
  (
    (
      (λ t. ((λ v. ((λ v. tt), elim [ p.plain o ↦ every _ refl | p.head h ↦ every _ refl ])), λ v. every _ refl)),
      (
        (λ t. ((λ v. ((λ v. tt), elim [ p.plain o ↦ every _ refl | p.head h ↦ every _ refl ])), λ v. every _ refl)),
        (
          tt,
          (
            ((λ v. tt), elim [ p.plain o ↦ every _ refl | p.head h ↦ every _ refl ]),
            ((λ v. tt), elim [ p.plain o ↦ every _ refl | p.head h ↦ every _ refl ]),
          ),
        ),
        every _ refl,
      ),
      every _ refl,
    ),
    (
      tt,
      (
        ((λ v. tt), elim [ p.plain o ↦ every _ refl | p.head h ↦ every _ refl ]),
        ((λ v. tt), elim [ p.plain o ↦ every _ refl | p.head h ↦ every _ refl ]),
      ),
    ),
  ),
  every _ refl,
)

named_apart : (d : Bool) (w : Word) → Apart (named w) (follows (p.primary d))
named_apart true w = ((λ t. ((λ v. tt), λ v. every _ refl)), (tt, (tt, (tt, tt))), every _ refl)
named_apart false w = ((λ t. ((λ v. tt), λ v. every _ refl)), (tt, (tt, (tt, tt))), every _ refl)

thread_apart : (d : Bool) (t : Token) → Apart (thread d t) (follows (p.primary d))
thread_apart true t = (
  (λ t. (
    (λ v. (
      (λ t. ((λ v. tt), λ v. every _ refl)),
      ((λ t. ((λ v. tt), λ v. every _ refl)), tt, every _ refl),
      every _ refl,
    )),
    λ v. every _ refl,
  )),
  ((λ t. ((λ v. tt), λ v. every _ refl)), ((λ t. ((λ v. tt), λ v. every _ refl)), tt, every _ refl), every _ refl),
  every _ refl,
)
thread_apart false t = (
  (λ t. (
    (λ v. (
      (λ t. ((λ v. tt), λ v. every _ refl)),
      ((λ t. ((λ v. tt), λ v. every _ refl)), tt, every _ refl),
      every _ refl,
    )),
    λ v. every _ refl,
  )),
  ((λ t. ((λ v. tt), λ v. every _ refl)), ((λ t. ((λ v. tt), λ v. every _ refl)), tt, every _ refl), every _ refl),
  every _ refl,
)

object_apart : (d : Bool) (class : Word) (t : Token) → Apart (object class t) (follows (p.primary d))
object_apart true class t = ((λ t. ((λ v. tt), λ v. every _ refl)), (tt, tt), every _ refl)
object_apart false class t = ((λ t. ((λ v. tt), λ v. every _ refl)), (tt, tt), every _ refl)

pub apart : (n : Phrase) → Apart (rule n) (follows n)
unfolding rule
apart (p.items found) = (
  (λ t. ((λ v. tt), λ v. every _ refl)),
  (
    (λ t. ((λ v. ((λ v. tt), λ v. every _ refl)), λ v. every _ refl)),
    (
      (λ t. ((λ v. ((λ v. tt), λ v. every _ refl)), λ v. every _ refl)),
      (((λ v. ((λ v. tt), λ v. every _ refl)), λ v. every _ refl), (λ t. tt), every _ refl),
      every _ refl,
    ),
    every _ refl,
  ),
  every _ refl,
)
apart (p.items_rest found) = ((λ t. ((λ v. tt), λ v. every _ refl)), (λ t. tt), every _ refl)
apart p.class_rest = (λ t. (λ t. ((λ v. tt), λ v. every _ refl)))
apart (p.members_rest found) = (
  (λ t. ((λ v. (λ t. ((λ v. tt), λ v. every _ refl))), λ v. every _ refl)),
  ((λ t. ((λ v. (λ t. ((λ v. tt), λ v. every _ refl))), λ v. every _ refl)), (λ t. tt), every _ refl),
  every _ refl,
)
apart p.symbols = (λ t. ((λ v. tt), λ v. every _ refl))
apart (p.symbols_rest found) = ((λ t. (λ t. ((λ v. tt), λ v. every _ refl))), tt, every _ refl)
apart p.method_rest = (λ t. (
  (λ t. (λ t. ((λ v. ((λ v. tt), λ v. every _ refl)), λ v. every _ refl))),
  ((λ t. ((λ v. ((λ v. tt), λ v. every _ refl)), λ v. every _ refl)), ((λ v. tt), λ v. every _ refl), every _ refl),
  every _ refl,
))
apart p.params = ((λ t. tt), (λ t. ((λ v. tt), λ v. every _ refl)), every _ refl)
apart (p.params_rest found) = ((λ t. (λ t. ((λ v. tt), λ v. every _ refl))), (λ t. tt), every _ refl)
apart p.one_param = (λ t. (λ t. tt))
apart (p.method_body w ws) = ((λ v. (λ t. tt)), λ v. every _ refl)
apart (p.body found) = (
  (λ t. ((λ v. tt), λ v. every _ refl)),
  (((λ v. ((λ v. tt), λ v. every _ refl)), λ v. every _ refl), tt, every _ refl),
  every _ refl,
)
apart (p.body_rest found) = ((λ t. ((λ v. tt), λ v. every _ refl)), tt, every _ refl)
apart p.statement = ((λ v. ((λ v. tt), λ v. every _ refl)), λ v. every _ refl)
apart p.simple = (
  (λ t. (((λ v. tt), λ v. every _ refl), tt, every _ refl)),
  ((λ t. tt), ((λ t. tt), ((λ v. tt), λ v. every _ refl), every _ refl), every _ refl),
  every _ refl,
)
apart (p.modified a) = (
  (λ t. (
    (λ v. (
      (((λ v. tt), λ v. every _ refl), ((λ v. tt), λ v. every _ refl)),
      (((λ v. tt), λ v. every _ refl), ((λ v. tt), λ v. every _ refl)),
    )),
    λ v. every _ refl,
  )),
  tt,
  every _ refl,
)
apart (p.expression true) = (
  elim [ p.plain o ↦ tt | p.head h ↦ ((λ v. tt), λ v. every _ refl) ],
  elim [ p.plain o ↦ every _ refl | p.head h ↦ every _ refl ],
)
apart (p.assignment true) = (
  (λ v. ((λ v. tt), elim [ p.plain o ↦ every _ refl | p.head h ↦ every _ refl ])),
  elim [ p.plain o ↦ every _ refl | p.head h ↦ every _ refl ],
)
apart (p.assignment_rest true (p.plain o)) = apart_assigning true o (target_of (p.plain o))
apart (p.assignment_rest true (p.head h)) = tt
apart (p.argument true) = (
  elim [ p.plain o ↦ tt | p.head h ↦ tt ],
  elim [ p.plain o ↦ every _ refl | p.head h ↦ every _ refl ],
)
apart (p.ternary true) = (
  (λ v. ((λ v. tt), elim [ p.plain o ↦ every _ refl | p.head h ↦ every _ refl ])),
  elim [ p.plain o ↦ every _ refl | p.head h ↦ every _ refl ],
)
apart (p.ternary_rest true (p.plain o)) = ((λ t. ((λ v. tt), λ v. every _ refl)), tt, every _ refl)
apart (p.ternary_rest true (p.head h)) = tt
apart (p.branches true) = (
  elim [ p.plain o ↦ (λ t. (elim [ p.plain o ↦ tt | p.head h ↦ tt ], elim [ p.plain o ↦ every _ refl | p.head h ↦ every _ refl ])) | p.head h ↦ tt ],
  elim [ p.plain o ↦ every _ refl | p.head h ↦ every _ refl ],
)
apart (p.chain true or_tier) = (
  (λ v. ((λ v. tt), elim [ p.plain o ↦ every _ refl | p.head h ↦ every _ refl ])),
  elim [ p.plain o ↦ every _ refl | p.head h ↦ every _ refl ],
)
apart (p.chain_rest true or_tier (p.plain o)) = (
  (λ t. (
    elim [ p.plain o ↦ ((λ v. tt), elim [ p.plain o ↦ every _ refl | p.head h ↦ every _ refl ]) | p.head h ↦ tt ],
    elim [ p.plain o ↦ every _ refl | p.head h ↦ every _ refl ],
  )),
  tt,
  every _ refl,
)
apart (p.chain_rest true or_tier (p.head h)) = tt
apart (p.chain true and_tier) = (
  (λ v. ((λ v. tt), elim [ p.plain o ↦ every _ refl | p.head h ↦ every _ refl ])),
  elim [ p.plain o ↦ every _ refl | p.head h ↦ every _ refl ],
)
apart (p.chain_rest true and_tier (p.plain o)) = (
  (λ t. (
    elim [ p.plain o ↦ ((λ v. tt), elim [ p.plain o ↦ every _ refl | p.head h ↦ every _ refl ]) | p.head h ↦ tt ],
    elim [ p.plain o ↦ every _ refl | p.head h ↦ every _ refl ],
  )),
  tt,
  every _ refl,
)
apart (p.chain_rest true and_tier (p.head h)) = tt
apart (p.chain true equal_tier) = (
  (λ v. ((λ v. tt), elim [ p.plain o ↦ every _ refl | p.head h ↦ every _ refl ])),
  elim [ p.plain o ↦ every _ refl | p.head h ↦ every _ refl ],
)
apart (p.chain_rest true equal_tier (p.plain o)) = (
  (λ t. (elim [ p.plain o ↦ (tt, tt) | p.head h ↦ tt ], elim [ p.plain o ↦ every _ refl | p.head h ↦ every _ refl ])),
  tt,
  every _ refl,
)
apart (p.chain_rest true equal_tier (p.head h)) = tt
apart (p.chain true less_tier) = (
  (λ v. ((λ v. tt), elim [ p.plain o ↦ every _ refl | p.head h ↦ every _ refl ])),
  elim [ p.plain o ↦ every _ refl | p.head h ↦ every _ refl ],
)
apart (p.chain_rest true less_tier (p.plain o)) = (
  (λ t. (
    elim [ p.plain o ↦ ((λ v. tt), elim [ p.plain o ↦ every _ refl | p.head h ↦ every _ refl ]) | p.head h ↦ tt ],
    elim [ p.plain o ↦ every _ refl | p.head h ↦ every _ refl ],
  )),
  tt,
  every _ refl,
)
apart (p.chain_rest true less_tier (p.head h)) = tt
apart (p.chain true shift_tier) = (
  (λ v. ((λ v. tt), elim [ p.plain o ↦ every _ refl | p.head h ↦ every _ refl ])),
  elim [ p.plain o ↦ every _ refl | p.head h ↦ every _ refl ],
)
apart (p.chain_rest true shift_tier (p.plain o)) = (
  (λ t. (
    elim [ p.plain o ↦ ((λ v. tt), elim [ p.plain o ↦ every _ refl | p.head h ↦ every _ refl ]) | p.head h ↦ tt ],
    elim [ p.plain o ↦ every _ refl | p.head h ↦ every _ refl ],
  )),
  tt,
  every _ refl,
)
apart (p.chain_rest true shift_tier (p.head h)) = tt
apart (p.chain true sum_tier) = (
  (λ v. ((λ v. tt), elim [ p.plain o ↦ every _ refl | p.head h ↦ every _ refl ])),
  elim [ p.plain o ↦ every _ refl | p.head h ↦ every _ refl ],
)
apart (p.chain_rest true sum_tier (p.plain o)) = (
  (λ t. (
    elim [ p.plain o ↦ ((λ v. tt), elim [ p.plain o ↦ every _ refl | p.head h ↦ every _ refl ]) | p.head h ↦ tt ],
    elim [ p.plain o ↦ every _ refl | p.head h ↦ every _ refl ],
  )),
  tt,
  every _ refl,
)
apart (p.chain_rest true sum_tier (p.head h)) = tt
apart (p.chain true product_tier) = (
  (λ v. ((λ v. tt), elim [ p.plain o ↦ every _ refl | p.head h ↦ every _ refl ])),
  elim [ p.plain o ↦ every _ refl | p.head h ↦ every _ refl ],
)
apart (p.chain_rest true product_tier (p.plain o)) = (
  (λ t. (
    elim [ p.plain o ↦ ((λ v. tt), elim [ p.plain o ↦ every _ refl | p.head h ↦ every _ refl ]) | p.head h ↦ tt ],
    elim [ p.plain o ↦ every _ refl | p.head h ↦ every _ refl ],
  )),
  tt,
  every _ refl,
)
apart (p.chain_rest true product_tier (p.head h)) = tt
apart (p.chain true unary_tier) = ((λ v. tt), elim [ p.plain o ↦ every _ refl | p.head h ↦ every _ refl ])
apart (p.chain_rest true unary_tier (p.plain o)) = (
  (λ t. (
    elim [ p.plain o ↦ ((λ v. tt), elim [ p.plain o ↦ every _ refl | p.head h ↦ every _ refl ]) | p.head h ↦ tt ],
    elim [ p.plain o ↦ every _ refl | p.head h ↦ every _ refl ],
  )),
  tt,
  every _ refl,
)
apart (p.chain_rest true unary_tier (p.head h)) = tt
apart (p.unary true) = (
  (λ t. (elim [ p.plain o ↦ tt | p.head h ↦ tt ], elim [ p.plain o ↦ every _ refl | p.head h ↦ every _ refl ])),
  (negative_apart true, ((λ v. tt), elim [ p.plain o ↦ every _ refl | p.head h ↦ every _ refl ]), every _ refl),
  every _ refl,
)
apart (p.postfix true) = (
  (λ v. ((λ v. tt), elim [ p.plain o ↦ every _ refl | p.head h ↦ every _ refl ])),
  elim [ p.plain o ↦ every _ refl | p.head h ↦ every _ refl ],
)
apart (p.postfix_rest true (p.plain o)) = (
  (λ t. λ w. called_apart true (tree_of o) (word_of w)),
  (
    (λ t. ((λ v. ((λ v. tt), elim [ p.plain o ↦ every _ refl | p.head h ↦ every _ refl ])), λ v. every _ refl)),
    tt,
    every _ refl,
  ),
  every _ refl,
)
apart (p.postfix_rest true (p.head h)) = tt
apart (p.primary true) = (
  (λ t. tt),
  (
    (λ t. ((λ v. tt), λ v. every _ refl)),
    (
      (λ t. tt),
      (
        (λ t. tt),
        (
          (λ t. tt),
          (
            (λ t. tt),
            (
              (λ t. tt),
              (
                (λ t. tt),
                (
                  (λ t. tt),
                  (
                    (λ t. named_apart true (word_of t)),
                    (
                      (λ t. λ o. λ w. (thread_apart true w, object_apart true (word_of t) w)),
                      (
                        (λ t. ((λ v. tt), λ v. every _ refl)),
                        (
                          (λ t. ((λ v. tt), λ v. every _ refl)),
                          (
                            (λ t. ((λ v. tt), λ v. every _ refl)),
                            ((λ t. ((λ v. tt), λ v. every _ refl)), (λ t. ((λ v. tt), λ v. every _ refl)), every _ refl),
                            every _ refl,
                          ),
                          every _ refl,
                        ),
                        every _ refl,
                      ),
                      every _ refl,
                    ),
                    every _ refl,
                  ),
                  every _ refl,
                ),
                every _ refl,
              ),
              every _ refl,
            ),
            every _ refl,
          ),
          every _ refl,
        ),
        every _ refl,
      ),
      every _ refl,
    ),
    every _ refl,
  ),
  every _ refl,
)
apart (p.expression false) = (
  elim [ p.plain o ↦ tt | p.head h ↦ ((λ v. tt), λ v. every _ refl) ],
  elim [ p.plain o ↦ every _ refl | p.head h ↦ every _ refl ],
)
apart (p.assignment false) = (
  (λ v. ((λ v. tt), elim [ p.plain o ↦ every _ refl | p.head h ↦ every _ refl ])),
  elim [ p.plain o ↦ every _ refl | p.head h ↦ every _ refl ],
)
apart (p.assignment_rest false (p.plain o)) = apart_assigning false o (target_of (p.plain o))
apart (p.assignment_rest false (p.head h)) = tt
apart (p.argument false) = (
  elim [ p.plain o ↦ tt | p.head h ↦ tt ],
  elim [ p.plain o ↦ every _ refl | p.head h ↦ every _ refl ],
)
apart (p.ternary false) = (
  (λ v. ((λ v. tt), elim [ p.plain o ↦ every _ refl | p.head h ↦ every _ refl ])),
  elim [ p.plain o ↦ every _ refl | p.head h ↦ every _ refl ],
)
apart (p.ternary_rest false (p.plain o)) = ((λ t. ((λ v. tt), λ v. every _ refl)), tt, every _ refl)
apart (p.ternary_rest false (p.head h)) = tt
apart (p.branches false) = (
  elim [ p.plain o ↦ (λ t. (elim [ p.plain o ↦ tt | p.head h ↦ tt ], elim [ p.plain o ↦ every _ refl | p.head h ↦ every _ refl ])) | p.head h ↦ tt ],
  elim [ p.plain o ↦ every _ refl | p.head h ↦ every _ refl ],
)
apart (p.chain false or_tier) = (
  (λ v. ((λ v. tt), elim [ p.plain o ↦ every _ refl | p.head h ↦ every _ refl ])),
  elim [ p.plain o ↦ every _ refl | p.head h ↦ every _ refl ],
)
apart (p.chain_rest false or_tier (p.plain o)) = (
  (λ t. (
    elim [ p.plain o ↦ ((λ v. tt), elim [ p.plain o ↦ every _ refl | p.head h ↦ every _ refl ]) | p.head h ↦ tt ],
    elim [ p.plain o ↦ every _ refl | p.head h ↦ every _ refl ],
  )),
  tt,
  every _ refl,
)
apart (p.chain_rest false or_tier (p.head h)) = tt
apart (p.chain false and_tier) = (
  (λ v. ((λ v. tt), elim [ p.plain o ↦ every _ refl | p.head h ↦ every _ refl ])),
  elim [ p.plain o ↦ every _ refl | p.head h ↦ every _ refl ],
)
apart (p.chain_rest false and_tier (p.plain o)) = (
  (λ t. (
    elim [ p.plain o ↦ ((λ v. tt), elim [ p.plain o ↦ every _ refl | p.head h ↦ every _ refl ]) | p.head h ↦ tt ],
    elim [ p.plain o ↦ every _ refl | p.head h ↦ every _ refl ],
  )),
  tt,
  every _ refl,
)
apart (p.chain_rest false and_tier (p.head h)) = tt
apart (p.chain false equal_tier) = (
  (λ v. ((λ v. tt), elim [ p.plain o ↦ every _ refl | p.head h ↦ every _ refl ])),
  elim [ p.plain o ↦ every _ refl | p.head h ↦ every _ refl ],
)
apart (p.chain_rest false equal_tier (p.plain o)) = (
  (λ t. (elim [ p.plain o ↦ (tt, tt) | p.head h ↦ tt ], elim [ p.plain o ↦ every _ refl | p.head h ↦ every _ refl ])),
  tt,
  every _ refl,
)
apart (p.chain_rest false equal_tier (p.head h)) = tt
apart (p.chain false less_tier) = (
  (λ v. ((λ v. tt), elim [ p.plain o ↦ every _ refl | p.head h ↦ every _ refl ])),
  elim [ p.plain o ↦ every _ refl | p.head h ↦ every _ refl ],
)
apart (p.chain_rest false less_tier (p.plain o)) = (
  (λ t. (
    elim [ p.plain o ↦ ((λ v. tt), elim [ p.plain o ↦ every _ refl | p.head h ↦ every _ refl ]) | p.head h ↦ tt ],
    elim [ p.plain o ↦ every _ refl | p.head h ↦ every _ refl ],
  )),
  tt,
  every _ refl,
)
apart (p.chain_rest false less_tier (p.head h)) = tt
apart (p.chain false shift_tier) = (
  (λ v. ((λ v. tt), elim [ p.plain o ↦ every _ refl | p.head h ↦ every _ refl ])),
  elim [ p.plain o ↦ every _ refl | p.head h ↦ every _ refl ],
)
apart (p.chain_rest false shift_tier (p.plain o)) = (
  (λ t. (
    elim [ p.plain o ↦ ((λ v. tt), elim [ p.plain o ↦ every _ refl | p.head h ↦ every _ refl ]) | p.head h ↦ tt ],
    elim [ p.plain o ↦ every _ refl | p.head h ↦ every _ refl ],
  )),
  tt,
  every _ refl,
)
apart (p.chain_rest false shift_tier (p.head h)) = tt
apart (p.chain false sum_tier) = (
  (λ v. ((λ v. tt), elim [ p.plain o ↦ every _ refl | p.head h ↦ every _ refl ])),
  elim [ p.plain o ↦ every _ refl | p.head h ↦ every _ refl ],
)
apart (p.chain_rest false sum_tier (p.plain o)) = (
  (λ t. (
    elim [ p.plain o ↦ ((λ v. tt), elim [ p.plain o ↦ every _ refl | p.head h ↦ every _ refl ]) | p.head h ↦ tt ],
    elim [ p.plain o ↦ every _ refl | p.head h ↦ every _ refl ],
  )),
  tt,
  every _ refl,
)
apart (p.chain_rest false sum_tier (p.head h)) = tt
apart (p.chain false product_tier) = (
  (λ v. ((λ v. tt), elim [ p.plain o ↦ every _ refl | p.head h ↦ every _ refl ])),
  elim [ p.plain o ↦ every _ refl | p.head h ↦ every _ refl ],
)
apart (p.chain_rest false product_tier (p.plain o)) = (
  (λ t. (
    elim [ p.plain o ↦ ((λ v. tt), elim [ p.plain o ↦ every _ refl | p.head h ↦ every _ refl ]) | p.head h ↦ tt ],
    elim [ p.plain o ↦ every _ refl | p.head h ↦ every _ refl ],
  )),
  tt,
  every _ refl,
)
apart (p.chain_rest false product_tier (p.head h)) = tt
apart (p.chain false unary_tier) = ((λ v. tt), elim [ p.plain o ↦ every _ refl | p.head h ↦ every _ refl ])
apart (p.chain_rest false unary_tier (p.plain o)) = (
  (λ t. (
    elim [ p.plain o ↦ ((λ v. tt), elim [ p.plain o ↦ every _ refl | p.head h ↦ every _ refl ]) | p.head h ↦ tt ],
    elim [ p.plain o ↦ every _ refl | p.head h ↦ every _ refl ],
  )),
  tt,
  every _ refl,
)
apart (p.chain_rest false unary_tier (p.head h)) = tt
apart (p.unary false) = (
  (λ t. (elim [ p.plain o ↦ tt | p.head h ↦ tt ], elim [ p.plain o ↦ every _ refl | p.head h ↦ every _ refl ])),
  (negative_apart false, ((λ v. tt), elim [ p.plain o ↦ every _ refl | p.head h ↦ every _ refl ]), every _ refl),
  every _ refl,
)
apart (p.postfix false) = (
  (λ v. ((λ v. tt), elim [ p.plain o ↦ every _ refl | p.head h ↦ every _ refl ])),
  elim [ p.plain o ↦ every _ refl | p.head h ↦ every _ refl ],
)
apart (p.postfix_rest false (p.plain o)) = (
  (λ t. λ w. called_apart false (tree_of o) (word_of w)),
  (
    (λ t. ((λ v. ((λ v. tt), elim [ p.plain o ↦ every _ refl | p.head h ↦ every _ refl ])), λ v. every _ refl)),
    tt,
    every _ refl,
  ),
  every _ refl,
)
apart (p.postfix_rest false (p.head h)) = tt
apart (p.primary false) = (
  (λ t. tt),
  (
    (λ t. ((λ v. tt), λ v. every _ refl)),
    (
      (λ t. tt),
      (
        (λ t. tt),
        (
          (λ t. tt),
          (
            (λ t. tt),
            (
              (λ t. tt),
              (
                (λ t. tt),
                (
                  (λ t. tt),
                  (
                    (λ t. named_apart false (word_of t)),
                    (
                      (λ t. λ o. λ w. (thread_apart false w, object_apart false (word_of t) w)),
                      (
                        (λ t. ((λ v. tt), λ v. every _ refl)),
                        (
                          (λ t. ((λ v. tt), λ v. every _ refl)),
                          (
                            (λ t. ((λ v. tt), λ v. every _ refl)),
                            ((λ t. ((λ v. tt), λ v. every _ refl)), (λ t. ((λ v. tt), λ v. every _ refl)), every _ refl),
                            every _ refl,
                          ),
                          every _ refl,
                        ),
                        every _ refl,
                      ),
                      every _ refl,
                    ),
                    every _ refl,
                  ),
                  every _ refl,
                ),
                every _ refl,
              ),
              every _ refl,
            ),
            every _ refl,
          ),
          every _ refl,
        ),
        every _ refl,
      ),
      every _ refl,
    ),
    every _ refl,
  ),
  every _ refl,
)
apart p.command_arguments = ((λ v. ((λ v. tt), λ v. every _ refl)), λ v. every _ refl)
apart (p.command_arguments_rest found) = (
  (λ t. ((λ v. ((λ v. tt), λ v. every _ refl)), λ v. every _ refl)),
  tt,
  every _ refl,
)
apart p.arguments = ((λ t. tt), ((λ v. ((λ v. tt), λ v. every _ refl)), λ v. every _ refl), every _ refl)
apart (p.arguments_rest found) = (
  (λ t. ((λ v. ((λ v. tt), λ v. every _ refl)), λ v. every _ refl)),
  (λ t. tt),
  every _ refl,
)
apart p.index_rest = ((λ v. (λ t. tt)), λ v. every _ refl)
apart p.group_rest = ((λ v. (λ t. tt)), λ v. every _ refl)
apart p.code_rest = ((λ v. (λ t. tt)), λ v. every _ refl)
apart p.array_rest = ((λ t. tt), ((λ v. ((λ v. tt), λ v. every _ refl)), λ v. every _ refl), every _ refl)
apart (p.array_items_rest found) = (
  (λ t. ((λ t. tt), ((λ v. ((λ v. tt), λ v. every _ refl)), λ v. every _ refl), every _ refl)),
  (λ t. tt),
  every _ refl,
)
apart p.hash_rest = ((λ t. tt), ((λ v. ((λ v. tt), λ v. every _ refl)), λ v. every _ refl), every _ refl)
apart (p.pairs_rest found) = (
  (λ t. ((λ t. tt), ((λ v. ((λ v. tt), λ v. every _ refl)), λ v. every _ refl), every _ refl)),
  (λ t. tt),
  every _ refl,
)
apart p.pair = (
  (λ t. ((λ v. tt), λ v. every _ refl)),
  ((λ v. (λ t. ((λ v. tt), λ v. every _ refl))), λ v. every _ refl),
  every _ refl,
)
apart (p.conditional word) = (
  (λ v. (
    ((λ v. ((λ v. ((λ v. tt), λ v. every _ refl)), λ v. every _ refl)), λ v. every _ refl),
    ((λ v. ((λ v. ((λ v. tt), λ v. every _ refl)), λ v. every _ refl)), λ v. every _ refl),
  )),
  λ v. every _ refl,
)
apart p.then = ((λ t. tt), (λ t. ((λ t. tt), tt, every _ refl)), every _ refl)
apart (p.otherwise true) = (
  (λ t. (
    (λ v. ((λ v. ((λ v. ((λ v. tt), λ v. every _ refl)), λ v. every _ refl)), λ v. every _ refl)),
    λ v. every _ refl,
  )),
  ((λ t. ((λ v. (λ t. tt)), λ v. every _ refl)), (λ t. tt), every _ refl),
  every _ refl,
)
apart (p.block_rest true at) = (
  (λ t. (λ t. ((λ v. ((λ v. tt), λ v. every _ refl)), λ v. every _ refl))),
  ((λ v. tt), λ v. every _ refl),
  every _ refl,
)
apart (p.block_body true at words) = ((λ v. (λ t. tt)), λ v. every _ refl)
apart (p.otherwise false) = (
  (λ t. (
    (λ v. ((λ v. ((λ v. ((λ v. tt), λ v. every _ refl)), λ v. every _ refl)), λ v. every _ refl)),
    λ v. every _ refl,
  )),
  ((λ t. ((λ v. (λ t. tt)), λ v. every _ refl)), (λ t. tt), every _ refl),
  every _ refl,
)
apart (p.block_rest false at) = (
  (λ t. (λ t. ((λ v. ((λ v. tt), λ v. every _ refl)), λ v. every _ refl))),
  ((λ v. tt), λ v. every _ refl),
  every _ refl,
)
apart (p.block_body false at words) = ((λ v. (λ t. tt)), λ v. every _ refl)
apart (p.loop_rest word) = (
  (λ v. ((λ t. ((λ v. (λ t. tt)), λ v. every _ refl)), (λ t. ((λ v. (λ t. tt)), λ v. every _ refl)))),
  λ v. every _ refl,
)
apart (p.text_rest found) = (
  (λ t. ((λ v. tt), λ v. every _ refl)),
  ((λ t. ((λ v. ((λ v. tt), λ v. every _ refl)), λ v. every _ refl)), (λ t. tt), every _ refl),
  every _ refl,
)
apart (p.bar_params_rest found) = ((λ t. (λ t. ((λ v. tt), λ v. every _ refl))), (λ t. tt), every _ refl)
