-- The things that the test of a store moves in.
use Rattle.std.specs.Prelude.{ℕ, List, [], ◌∷◌, None}
use Rattle.rb_model.specs.declared.value.Id.{Id}
use Rattle.rb_model.specs.Things.{Object, Elements, Pairs, Mutex}
use Rattle.rb_model.specs.Private.{Item}

-- the id of the how many-th thing of the main thread
abbrev pub main_id : ℕ → Id
main_id serial = record { thread = 0; serial = serial }

-- an object, a list, a hash and a mutex
abbrev pub four : List Item
four =
    record { id = main_id 1; thing = Object 7 [] } ∷ record { id = main_id 2; thing = Elements [] } ∷ record { id = main_id 3; thing = Pairs [] }
    ∷ record { id = main_id 4; thing = Mutex None } ∷ []
