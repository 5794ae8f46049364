-- What is made on each of the two walks.
use Rattle.std.proofs.Common.{◌≡◌, ℕ, Some, None, max, arith, Bor}
use Rattle.rb_grammar.specs.Tree.{Numbering}
use Rattle.rb_builder.specs.Walk.{Walk, gathering, numbering}
use Rattle.rb_builder.specs.Numbers.{numbers_of}
use Rattle.rb_builder.specs.Builder.{walk_of}
use Rattle.rb_builder.specs.Grown.{Made}
use Rattle.rb_builder.specs.declared.numbers.Numbers.{Numbers}
use Rattle.rb_builder.specs.declared.builder.Builder.{Builder}

-- without numbers nothing is said of what is made
pub gathered : {A : Type 0} (b : Builder) (a : A) (f : Numbering → A) → b.numbers ≡ None → Made (walk_of b) a f
gathered b a f h = rw h tt

-- with numbers it is what the numbering makes
pub numbered : {A : Type 0} (b : Builder) (r : Bor Numbers) (a : A) (f : Numbering → A) → b.numbers ≡ Some r → a ≡ f (numbers_of r.now) → Made (walk_of b) a f
numbered b r a f h e = rw h e

-- what is the same under each numbering
pub the_same : {A : Type 0} (w : Walk) (a : A) (f : Numbering → A) → ((n : Numbering) → a ≡ f n) → Made w a f
the_same gathering a f e = tt
the_same (numbering n) a f e = e n

pub numbered_is : {A : Type 0} (b : Builder) (r : Bor Numbers) (a : A) (f : Numbering → A) → b.numbers ≡ Some r → Made (walk_of b) a f → a ≡ f (numbers_of r.now)
numbered_is b r a f h m = rw h at m

-- the highest of one tree, of two and of three
pub one_high : (n : ℕ) → n ≡ max n 0
one_high n = grind arith

pub two_high : (m n : ℕ) → max m n ≡ max m (max n 0)
two_high m n = grind arith

pub three_high : (l m n : ℕ) → max l (max m n) ≡ max l (max m (max n 0))
three_high l m n = grind arith
