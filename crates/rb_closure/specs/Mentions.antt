-- The values that a state of the machine has: those of what it is at, of all that waits, and of the scope.
use Rattle.std.specs.Prelude.{List, [], ◌∷◌, ◌++◌, map}
use Rattle.std.specs.List.{flat_map}
use Rattle.rb_tree.specs.declared.span.NameId.{NameId}
use Rattle.rb_model.specs.Values.{Value as Val, To}
use Rattle.rb_model.specs.Acts.{Reply, handed}
use Rattle.rb_model.specs.Acts as reply
use Rattle.rb_model.specs.Ends.{told}
use Rattle.rb_model.specs.Things.{mentioned}
use Rattle.rb_machine.specs.Scopes.{Scope}
use Rattle.rb_machine.specs.Control.{State, On, Cont, Then, Turn, Owning, Frame, Control, Give, Leave, Following, Turning, Passing, Drafting, Making, Calling, Reading, Starting, Ended}
use Rattle.rb_machine.specs.Control.{Exit, Return, Aim, OnReceiver, Storing, Place, OfGlobal, OfElement, OfAttribute, Walk, Map, Select, Turns, Counting, Walking, EachPair, Style, Inspecting, Open, OfArray, OfHash, Coming, Between, OfValue, OfPair, Draft, Use, ForEach, ForText}
use Rattle.rb_machine.specs.Control.{Step, GlobalTo, Argument, Instead, Create, Initialize, WriteBehind, LinesBehind, LineOf, TextOf, Locked, ElementBelow, WithElement, IndexOf, ReadOf, RightOf, WriteTo}
use Rattle.rb_machine.specs.Call.{globals}

-- the keys and the values of pairs
abbrev pub values_in_pairs : List (Val × Val) → List Val
values_in_pairs ps = flat_map (λ (p : Val × Val). p.0 ∷ p.1 ∷ []) ps

-- ---- parts of what the machine is at, and of what waits

abbrev pub values_in_exit : Exit → List Val
values_in_exit (Return v) = v ∷ []
values_in_exit exit = []

abbrev pub values_in_aim : Aim → List Val
values_in_aim (OnReceiver receiver name block) = receiver ∷ []
values_in_aim (Storing receiver name) = receiver ∷ []
values_in_aim aim = []

-- a place among the global variables has the thing of these
abbrev pub values_in_place : Place → List Val
values_in_place (OfGlobal name) = To globals ∷ []
values_in_place (OfElement receiver index) = receiver ∷ index ∷ []
values_in_place (OfAttribute receiver name) = receiver ∷ []
values_in_place place = []

abbrev pub values_in_walk : Walk → List Val
values_in_walk (Map values) = values
values_in_walk (Select kept current) = current ∷ kept
values_in_walk walk = []

abbrev pub values_in_turns : Turns → List Val
values_in_turns (Counting next last answer) = answer ∷ []
values_in_turns (Walking array next walk at) = To array ∷ values_in_walk walk
values_in_turns (EachPair pairs answer) = answer ∷ values_in_pairs pairs

abbrev pub values_in_style : Style → List Val
values_in_style (Inspecting args) = args
values_in_style style = []

-- a text in the making: what comes next, and the collections that are begun
abbrev pub values_in_open : Open → List Val
values_in_open (OfArray array lead values) = To array ∷ values
values_in_open (OfHash hash lead pairs) = To hash ∷ values_in_pairs pairs

abbrev pub values_in_coming : Coming → List Val
values_in_coming Between = []
values_in_coming (OfValue lead v) = v ∷ []
values_in_coming (OfPair lead key v) = key ∷ v ∷ []

abbrev pub values_in_draft : Draft → List Val
values_in_draft t = values_in_coming t.coming ++ flat_map values_in_open t.begun

abbrev pub values_in_use : Use → List Val
values_in_use (ForEach answer block) = answer ∷ []
values_in_use (ForText draft) = values_in_draft draft
values_in_use purpose = []

-- ---- what waits

abbrev pub values_in_step : Step → List Val
values_in_step (GlobalTo name at) = To globals ∷ []
values_in_step (Argument aim done rest at) = values_in_aim aim ++ done
values_in_step (Instead v) = v ∷ []
values_in_step (Create thing) = mentioned thing
values_in_step (Initialize args at) = args
values_in_step (WriteBehind style bytes values at) = values_in_style style ++ values
values_in_step (LinesBehind bytes values at) = values
values_in_step (LineOf draft at) = values_in_draft draft
values_in_step (TextOf object) = object ∷ []
values_in_step (Locked mutex block at) = To mutex ∷ []
values_in_step (ElementBelow array next walk block at) = To array ∷ values_in_walk walk
values_in_step (WithElement array next walk block at) = To array ∷ values_in_walk walk
values_in_step (IndexOf receiver op value at) = receiver ∷ []
values_in_step (ReadOf place op value at) = values_in_place place
values_in_step (RightOf current op at) = current ∷ []
values_in_step (WriteTo place at) = values_in_place place
values_in_step step = []

-- `self`, and the locals
abbrev pub values_in_scope : Scope → List Val
values_in_scope sc = sc.me ∷ map (λ (b : NameId × Val). b.1) sc.locals

abbrev pub values_in_cont : Cont → List Val
values_in_cont (Then step) = values_in_step step
values_in_cont (Turn turns block kept) = values_in_turns turns
values_in_cont (Owning mutex block at kept) = To mutex ∷ []
values_in_cont (Frame saved) = values_in_scope saved
values_in_cont mark = []

-- ---- states

-- what the machine is at; where it asks, the thing and what is handed over
abbrev pub values_in_control : Control → List Val
values_in_control (Give v) = v ∷ []
values_in_control (Leave exit) = values_in_exit exit
values_in_control (Following v nodes) = v ∷ []
values_in_control (Turning turns block) = values_in_turns turns
values_in_control (Passing aim done rest at) = values_in_aim aim ++ done
values_in_control (Drafting draft at) = values_in_draft draft
values_in_control (Making thing) = mentioned thing
values_in_control (Calling thing act at) = To thing ∷ handed act
values_in_control (Reading thing purpose at) = To thing ∷ values_in_use purpose
values_in_control (Starting body values at) = values
values_in_control (Ended how) = told how
values_in_control control = []

-- the values of a state
abbrev pub values_in : State → List Val
values_in (On c k sc d left) = values_in_control c ++ (flat_map values_in_cont k ++ values_in_scope sc)

-- the values that a reply tells
abbrev pub values_in_reply : Reply → List Val
values_in_reply (reply.Value v) = v ∷ []
values_in_reply (reply.Elements vs) = vs
values_in_reply (reply.Pairs ps) = values_in_pairs ps
values_in_reply (reply.Started number thread) = To thread ∷ []
values_in_reply (reply.Ended how) = told how
values_in_reply answer = []
