-- What the entries of a thread's log name.
use Rattle.std.proofs.Common.{◌≡◌, ◌⊎◌, inl, inr, ℕ, List, [], ◌∷◌, ◌++◌, map, Some, None, refl, sym, ◌∙◌, subst}
use Rattle.std.specs.List.{flat_map}
use Rattle.std.proofs.lemmas.List.{append-nil, append_assoc}
use Rattle.rb_model.specs.Values.{Value, To, Reference}
use Rattle.rb_model.specs.Acts.{Act, handed}
use Rattle.rb_model.specs.Private.{Private, Leaves, held}
use Rattle.rb_model.specs.Log.{Log, Entry, Call, On, Gather}
use Rattle.rb_model.specs.Outside.{handed_by}
use Rattle.rb_machine.specs.Scopes.{Script}
use Rattle.rb_machine.specs.Control.{State}
use Rattle.rb_machine.specs.Call.{globals}
use Rattle.rb_machine.specs.Move.{Ask, Begin, move}
use Rattle.rb_machine.specs.Follows.{At, entry}
use Rattle.rb_machine.specs.Follows as thread
use Rattle.rb_machine.specs.Alone.{opening}
use Rattle.rb_closure.specs.Mentions.{values_in, values_in_reply}
use Rattle.rb_closure.specs.Closure.{Each, IfReference, refs_in, Among, item_reference, told_by, told_first, told_refs, Known, IsToldOf, IsOutside, NamesTold, EachNamesTold, EntriesNameTold}
use Rattle.rb_closure.specs.Laws.{TellsMoved, AsksMoved, MainAsksMoved}
use Rattle.rb_closure.proofs.Lists.{among_front, among_behind, among_split}
use Rattle.rb_closure.proofs.Scopes.{fresh_of}
use Rattle.rb_closure.proofs.Stores.{handed_over, moved_over}
use Rattle.rb_closure.proofs.Sound.{next_known, Sound}
use Rattle.rb_closure.proofs.Closed.{any_code, sound_at}

-- one entry more
pub one_more : (told : List Reference) (es : List Entry) (e : Entry) → EachNamesTold told es → NamesTold (told ++ flat_map told_by es) e → EachNamesTold told (es ++ e ∷ [])
one_more told [] e names last = (subst (λ ts. NamesTold ts e) (append-nil told) last, tt)
one_more told (f ∷ es) e names last =
    (names.0, one_more (told ++ told_by f) es e names.1 (subst (λ ts. NamesTold ts e) (sym (append_assoc told (told_by f) (flat_map told_by es))) last))

module _ (S : Script) (N : ℕ) (start : State) where
  abbrev SoundAt : Log → Private → State → Type 0
  SoundAt l h s = Sound S (any_code S) (told_refs start l) h s

  asked_told : (l : Log) (h h' : Private) (s : State) (r : Reference) (act : Act) (e : Entry) → SoundAt l h s → move S s ≡ Ask r act → held h r.id ≡ None → Leaves h (handed act) e.moved h' → e.call ≡ On r act
      → NamesTold (told_refs start l) e
  asked_told l h h' s r act e sound m f g c =
      let known = next_known S (any_code S) (Known h (told_refs start l)) sound.global s (Ask r act) m sound.state in (
        subst (IsToldOf (told_refs start l)) (sym c) (not_held known.0),
        subst (λ c. Each (IfReference (IsOutside (told_refs start l) e.moved)) (handed_by c)) (sym c) (handed_over h h' (told_refs start l) (handed act) e.moved g known.1),
        moved_over h h' (told_refs start l) (handed act) e.moved g sound.store,
      )
    where
      not_held : Known h (told_refs start l) r → Among (told_refs start l) r
      not_held (inl (t, there, same)) = absurd (let wrong : None ≡ Some t = sym f ∙ there in cc)
      not_held (inr a) = a

  pub names_at : {l : Log} {h : Private} {s : State} → At S N start l h s → EachNamesTold (told_first start) l.entries
  names_at (thread.here t) = tt
  names_at (thread.goes l h s s' a e) = names_at a
  names_at (thread.makes l h s thing a e) = names_at a
  names_at (thread.acts l h s r act thing a e f) = names_at a
  names_at (thread.asks l h h' s r act moved answer a e f g) = one_more (told_first start) l.entries _ (names_at a) (asked_told l h h' s r act (entry S N start s (On r act) moved answer) (sound_at S N start a) e f g refl)
  names_at (thread.starts l h h' s body values moved answer a e g) =
      let sound = sound_at S N start a in
      let known = next_known S (any_code S) (Known h (told_refs start l)) sound.global s (Begin body values) e sound.state in
      one_more (told_first start) l.entries _ (names_at a) (tt, handed_over h h' (told_refs start l) values moved g known.1, moved_over h h' (told_refs start l) values moved g sound.store)
  names_at (thread.prints l h s bytes a e) = one_more (told_first start) l.entries _ (names_at a) (tt, tt, tt)

pub entries_name_told : EntriesNameTold
entries_name_told S N start l h s a = names_at S N start a

-- ---- where replies tell of what moved alone

pub among_said : (P : Reference → Type 0) (vs : List Value) (r : Reference) → Each (IfReference P) vs → Among (flat_map refs_in vs) r → P r
among_said P [] r a m = absurd m
among_said P (v ∷ vs) r a m = by (among_split (refs_in v) (flat_map refs_in vs) r m) (among_said P vs r a.1)
  where
    of_one : (v : Value) → IfReference P v → Among (refs_in v) r → P r
    of_one (To t) p (inl e) = subst P e p
    of_one (To t) p (inr m) = absurd m
    of_one v p m = absurd m

    by : Among (refs_in v) r ⊎ Among (flat_map refs_in vs) r → (Among (flat_map refs_in vs) r → P r) → P r
    by (inl m) later = of_one v a.0 m
    by (inr m) later = later m

asked_known : (told known : List Reference) (c : Call) → ((r : Reference) → Among told r → Among known r) → IsToldOf told c → IsToldOf known c
asked_known told known (On r act) f a = f r a
asked_known told known (Gather r) f a = f r a
asked_known told known c f a = tt

known_by : (told known : List Reference) (es : List Entry) → ((r : Reference) → Among told r → Among known r) → EachNamesTold told es → TellsMoved known es → AsksMoved known es
known_by told known [] f names tells = tt
known_by told known (e ∷ es) f names tells =
    (asked_known told known e.call f names.0.0, known_by (told ++ told_by e) (known ++ map item_reference e.moved) es later names.1 tells.1)
  where
    now : (r : Reference) → Among (told_by e) r → Among (known ++ map item_reference e.moved) r
    now r m = by (among_split (flat_map refs_in (values_in_reply e.reply)) (map item_reference e.moved) r m)
      where
        by : Among (flat_map refs_in (values_in_reply e.reply)) r ⊎ Among (map item_reference e.moved) r → Among (known ++ map item_reference e.moved) r
        by (inl m) = among_said (Among (known ++ map item_reference e.moved)) (values_in_reply e.reply) r tells.0 m
        by (inr m) = among_behind known (map item_reference e.moved) r m

    later : (r : Reference) → Among (told ++ told_by e) r → Among (known ++ map item_reference e.moved) r
    later r m = by (among_split told (told_by e) r m)
      where
        by : Among told r ⊎ Among (told_by e) r → Among (known ++ map item_reference e.moved) r
        by (inl m) = among_front known (map item_reference e.moved) r (f r m)
        by (inr m) = now r m

pub main_asks_moved : MainAsksMoved
main_asks_moved S N l h s a tells = known_by (told_first (opening S N)) (globals ∷ []) l.entries first (names_at S N (opening S N) a) tells
  where
    none : Each (IfReference (λ r. ⊥)) (values_in (opening S N))
    none = (tt, (tt, (tt, fresh_of (λ r. ⊥) S.main_names [] tt)))

    first : (r : Reference) → Among (told_first (opening S N)) r → Among (globals ∷ []) r
    first r (inl e) = inl e
    first r (inr m) = absurd (among_said (λ r. ⊥) (values_in (opening S N)) r none m)
