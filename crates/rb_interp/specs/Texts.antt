-- What a part of the walk promises that makes or writes texts.
use Rattle.rb_interp.specs.declared.walker.Walker.{Walker}
use Rattle.rb_model.specs.declared.store.ThreadStore.{Ghosts}
use Rattle.std.specs.Prelude.{ℕ, List}
use Rattle.rb_tree.specs.declared.span.Span.{Span}
use Rattle.rb_model.specs.Values.{Value as Val}
use Rattle.rb_model.specs.declared.value.Ref.{Ref}
use Rattle.rb_model.specs.declared.value.Value.{Value as Held}
use Rattle.rb_machine.specs.Control.{Style, Draft}
use Rattle.rb_render.specs.declared.draft.Want.{Want}
use Rattle.rb_walk.specs.declared.came.Came.{Came as Registers}
use Rattle.rb_walk.specs.Outcome.{outcome}
use Rattle.rb_walk.specs.Carries.{me_of}
use Rattle.rb_walk.specs.Lines as lines
use Rattle.rb_walk.specs.Texts as texts

module _ {O : Type 0} {g : Ghosts O} where
  -- from where the text of a value is asked, the machine comes to the text of what came
  abbrev pub Tells : Val → Span → (old new : Walker O g) → (room room' : List Held) → (depth : ℕ) → Registers → Type 0
  Tells value at old new room room' depth r =
      texts.Tells old.context.script.now old.context.program.now old.context.steps (me_of old.context.me) value at old.base depth old.left new.left room room' (g.log old.store) (g.log new.store) (g.private old.store) (g.private new.store) (outcome r new.value new.leave)

  -- and of the value in a slot
  abbrev pub TellsSlot : (slot : ℕ) → Span → (old new : Walker O g) → (room room' : List Held) → (depth : ℕ) → Registers → Type 0
  TellsSlot slot at old new room room' depth r =
      texts.TellsSlot old.context.script.now old.context.program.now old.context.steps (me_of old.context.me) slot at old.base depth old.left new.left room room' (g.log old.store) (g.log new.store) (g.private old.store) (g.private new.store) (outcome r new.value new.leave)

  -- from where values that stand in the row are written, the machine comes to what came
  abbrev pub WritesTexts : Style → (first count : ℕ) → Span → (old new : Walker O g) → (room room' : List Held) → (depth : ℕ) → Registers → Type 0
  WritesTexts style first count at old new room room' depth r =
      texts.WritesTexts old.context.script.now old.context.program.now old.context.steps (me_of old.context.me) style first count at depth old.left new.left room room' (g.log old.store) (g.log new.store) (g.private old.store) (g.private new.store) (outcome r new.value new.leave)

  -- one of them is written behind these bytes, or the machine comes to what came instead
  abbrev pub WritesOne : Style → (slot : ℕ) → (bytes bytes' : List ℕ) → Span → (old new : Walker O g) → (room room' : List Held) → (depth : ℕ) → Registers → Type 0
  WritesOne style slot bytes bytes' at old new room room' depth r =
      lines.WritesOne old.context.script.now old.context.program.now old.context.steps (me_of old.context.me) style slot bytes bytes' at old.base depth old.left new.left room room' (g.log old.store) (g.log new.store) (g.private old.store) (g.private new.store) r (outcome r new.value new.leave)

  -- the lines of an array are written behind these bytes, or the machine comes to what came instead
  abbrev pub WritesArray : Ref → (bytes bytes' : List ℕ) → Span → (old new : Walker O g) → (room room' : List Held) → (depth : ℕ) → Registers → Type 0
  WritesArray array bytes bytes' at old new room room' depth r =
      lines.WritesArray old.context.script.now old.context.program.now old.context.steps (me_of old.context.me) array bytes bytes' at old.base depth old.left new.left room room' (g.log old.store) (g.log new.store) (g.private old.store) (g.private new.store) r (outcome r new.value new.leave)

  -- from where the lines of an array are made, the machine comes to what came
  abbrev pub GivesLines : Ref → Span → (old new : Walker O g) → (room room' : List Held) → (depth : ℕ) → Registers → Type 0
  GivesLines array at old new room room' depth r =
      lines.GivesLines old.context.script.now old.context.program.now old.context.steps (me_of old.context.me) array at old.base depth old.left new.left room room' (g.log old.store) (g.log new.store) (g.private old.store) (g.private new.store) (outcome r new.value new.leave)

  -- the text of a value is asked for a draft, or the machine comes to what came instead
  abbrev pub AsksLine : Val → (draft draft' : Draft) → Span → (old new : Walker O g) → (room room' : List Held) → (depth : ℕ) → Registers → Type 0
  AsksLine value draft draft' at old new room room' depth r =
      lines.AsksLine old.context.script.now old.context.program.now old.context.steps (me_of old.context.me) value draft draft' at old.base depth old.left new.left room room' (g.log old.store) (g.log new.store) (g.private old.store) (g.private new.store) r (outcome r new.value new.leave)

  -- a draft gets what it wants next, or the machine comes to what came instead
  abbrev pub AdvancesLine : Want → (draft draft' : Draft) → Span → (old new : Walker O g) → (room room' : List Held) → (depth : ℕ) → Registers → Type 0
  AdvancesLine want draft draft' at old new room room' depth r =
      lines.AdvancesLine old.context.script.now old.context.program.now old.context.steps (me_of old.context.me) want draft draft' at old.base depth old.left new.left room room' (g.log old.store) (g.log new.store) (g.private old.store) (g.private new.store) r (outcome r new.value new.leave)
