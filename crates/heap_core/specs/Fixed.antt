-- The words of a block that never change, by how far they stand behind its place.
use Rattle.std.specs.Prelude.{ℕ, zero, suc, Option, Some, None, [], ◌∷◌, length}
use Rattle.shape_core.specs.Path.{Path, is_shared, places_of}
use Rattle.typed_location.specs.Word.{twos_complement}
use Rattle.heap_core.specs.Blocks.{Block, ObjectAt, MutexAt, ThreadAt, TextAt, BoxAt, ShapeAt}
use Rattle.heap_core.specs.Spelling.{byte_word}
use Rattle.heap_core.specs.Texts.{text_tag, box_tag}
use Rattle.heap_core.specs.Mutexes.{mutex_tag}
use Rattle.heap_core.specs.Threads.{thread_tag}
use Rattle.heap_core.specs.Shapes.{flagged, edge_word}

-- of a root no edge leads to it, and no place stands before one
abbrev pub edge_of : Path → ℕ
edge_of [] = 0
edge_of (edge ∷ path) = edge_word edge

abbrev pub places_before : Path → ℕ
places_before [] = 0
places_before (edge ∷ path) = places_of path

abbrev pub fixed_word : Block → ℕ → Option ℕ
fixed_word (ObjectAt id at) (suc zero) = Some id.thread
fixed_word (ObjectAt id at) (suc (suc zero)) = Some id.serial
fixed_word (MutexAt id at) zero = Some mutex_tag
fixed_word (MutexAt id at) (suc zero) = Some id.thread
fixed_word (MutexAt id at) (suc (suc zero)) = Some id.serial
fixed_word (ThreadAt id number maker at) zero = Some thread_tag
fixed_word (ThreadAt id number maker at) (suc zero) = Some id.thread
fixed_word (ThreadAt id number maker at) (suc (suc zero)) = Some id.serial
fixed_word (ThreadAt id number maker at) (suc (suc (suc zero))) = Some number
fixed_word (ThreadAt id number maker at) (suc (suc (suc (suc zero)))) = Some maker
fixed_word (TextAt bytes at) zero = Some text_tag
fixed_word (TextAt bytes at) (suc zero) = Some (length bytes)
fixed_word (TextAt bytes at) (suc (suc k)) = Some (byte_word bytes k)
fixed_word (BoxAt n at) zero = Some box_tag
fixed_word (BoxAt n at) (suc zero) = Some (twos_complement 64 n)
fixed_word (ShapeAt shape at) zero = Some (flagged shape.class (is_shared shape.path))
fixed_word (ShapeAt shape at) (suc (suc zero)) = Some (edge_of shape.path)
fixed_word (ShapeAt shape at) (suc (suc (suc zero))) = Some (places_before shape.path)
fixed_word (ShapeAt shape at) (suc (suc (suc (suc zero)))) = Some (places_of shape.path)
fixed_word b i = None
