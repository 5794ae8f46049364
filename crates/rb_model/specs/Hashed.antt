-- What is hashed of a value.
use Rattle.std.specs.Prelude.{◌++◌}
use Rattle.std.specs.Hash as fed
use Rattle.std.specs.Hash.{HashWrites}
use Rattle.rb_model.specs.Values.{Value, Nil, False, True, Int, Sym, Str, To}

-- which kind of value it is, and what tells it from others of its kind
abbrev pub hashed : Value → HashWrites
hashed Nil = fed.u8 0
hashed False = fed.u8 1
hashed True = fed.u8 2
hashed (Int n) = fed.u8 3 ++ fed.i64 n
hashed (Sym name) = fed.u8 4 ++ fed.u32 name.0
hashed (Str bytes) = fed.u8 5 ++ fed.slice fed.u8 bytes
hashed (To thing) = fed.u8 6 ++ (fed.u64 thing.id.thread ++ fed.u64 thing.id.serial)
