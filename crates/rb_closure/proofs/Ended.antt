-- What the whole log of a thread names that has ended.
use Rattle.std.proofs.Common.{◌≡◌, inl, inr, ℕ, Bool, true, false, cond, List, [], ◌∷◌, map, refl}
use Rattle.std.specs.List.{flat_map}
use Rattle.rb_model.specs.declared.value.Id.{Id}
use Rattle.rb_model.specs.Values.{Value, Reference, same_id}
use Rattle.rb_model.specs.Acts.{Join, Reply, Started, Ended}
use Rattle.rb_model.specs.Ends.{End, told, is_early, later, closing}
use Rattle.rb_model.specs.Ends as ending
use Rattle.rb_model.specs.Things.{mentioned}
use Rattle.rb_model.specs.Private.{Private}
use Rattle.rb_model.specs.Log.{Log, Entry, Call, On, Start, Gather, logged}
use Rattle.rb_model.specs.Started.{without, after_call, after_entries, ungathered}
use Rattle.rb_machine.specs.Scopes.{Script}
use Rattle.rb_machine.specs.Control.{State}
use Rattle.rb_machine.specs.Move.{Stop}
use Rattle.rb_machine.specs.Follows.{Comes, ends, cut, fills, starts_full, refuses, Tail, all_gathered, gathers, leaves_out, Follows, closes, late, full, gather_entry, last_entry}
use Rattle.rb_closure.specs.Mentions.{values_in_reply}
use Rattle.rb_closure.specs.Closure.{Each, refs_in, Among, item_reference, told_by, told_first, told_refs, Known, Covered, IsClosedStore, EachNamesTold, WholeLogNamesTold}
use Rattle.rb_closure.proofs.Lists.{both, each_of, among_front, among_behind}
use Rattle.rb_closure.proofs.Stores.{handed_over, moved_over}
use Rattle.rb_closure.proofs.Sound.{each_more, next_known}
use Rattle.rb_closure.proofs.Closed.{any_code, told_more, sound_at}
use Rattle.rb_closure.proofs.Entries.{one_more, names_at}

-- ---- threads that wait to be gathered were told

without_told : (P : Reference → Type 0) (id : Id) (rs : List Reference) → Each P rs → Each P (without id rs)
without_told P id [] a = tt
without_told P id (r ∷ rs) a = by (same_id r.id id) (without_told P id rs a.1)
  where
    by : (b : Bool) → Each P (without id rs) → Each P (cond b rs (r ∷ without id rs))
    by true later = a.1
    by false later = (a.0, later)

call_told : (P : Reference → Type 0) (rs : List Reference) (c : Call) (r : Reply) → ((t : Reference) → Among (flat_map refs_in (values_in_reply r)) t → P t) → Each P rs → Each P (after_call rs c r)
call_told P rs (Start id body values) (Started number thread) f a = both P rs (thread ∷ []) a (f thread (inl refl), tt)
call_told P rs (On r Join) (Ended how) f a = without_told P r.id rs a
call_told P rs (Gather r) (Ended how) f a = without_told P r.id rs a
call_told P rs c r f a = a

after_told : (P : Reference → Type 0) (rs : List Reference) (es : List Entry) → ((t : Reference) → Among (flat_map told_by es) t → P t) → Each P rs → Each P (after_entries rs es)
after_told P rs [] f a = a
after_told P rs (e ∷ es) f a =
    let now : (t : Reference) → Among (flat_map refs_in (values_in_reply e.reply)) t → P t =
    λ t m. f t (among_front (told_by e) (flat_map told_by es) t (among_front (flat_map refs_in (values_in_reply e.reply)) (map item_reference e.moved) t m)) in
    after_told P (after_call rs e.call e.reply) es (λ t m. f t (among_behind (told_by e) (flat_map told_by es) t m)) (call_told P rs e.call e.reply now a)

-- ---- an end that is taken over tells no value

early_tells_none : (P : Value → Type 0) (how : End) → is_early how ≡ true → Each P (told how)
early_tells_none P (ending.Value v) e = absurd (let wrong : false ≡ true = e in cc)
early_tells_none P how e = tt

later_tells : (P : Value → Type 0) (e how : End) → Each P (told e) → Each P (told (later e how))
later_tells P e how a = first (is_early e) (second (is_early how) refl)
  where
    second : (b : Bool) → is_early how ≡ b → Each P (told (cond b how e))
    second true s = early_tells_none P how s
    second false s = a

    first : (b : Bool) → Each P (told (cond (is_early how) how e)) → Each P (told (cond b e (cond (is_early how) how e)))
    first true s = a
    first false s = s

closing_tells : (P : Value → Type 0) (e : End) (lacking : Bool) → Each P (told e) → Each P (told (closing e lacking))
closing_tells P e true a = later_tells P e ending.Memory a
closing_tells P e false a = a

module _ (S : Script) (N : ℕ) (start : State) where
  -- the entries so far name what was told, and what the end tells is known
  abbrev Stands : Log → Private → End → Type 0
  Stands l h e = EachNamesTold (told_first start) l.entries × Each (Covered h (told_refs start l)) (told e) × IsClosedStore h (told_refs start l)

  comes_stands : {l : Log} {h : Private} {own : End} {n : ℕ} → Comes S N start l h own n → Stands l h own
  comes_stands (ends l h s e a m) =
      let sound = sound_at S N start a in
      (names_at S N start a, next_known S (any_code S) (Known h (told_refs start l)) sound.global s (Stop e) m sound.state, sound.store)
  comes_stands (cut l h want n a w ge le) = (names_at S N start a, tt, (sound_at S N start a).store)
  comes_stands (fills l h h' s r act moved used asked a e f g) = (names_at S N start a, tt, (sound_at S N start a).store)
  comes_stands (starts_full l h h' s body values moved used asked a e g) = (names_at S N start a, tt, (sound_at S N start a).store)
  comes_stands (refuses l h s bytes a e) = (names_at S N start a, tt, (sound_at S N start a).store)

  tail_stands : {n : ℕ} {l l' : Log} {e e' : End} {rs : List Reference} {lacking : Bool} (h : Private) → Tail n l e rs l' e' lacking → Each (Among (told_refs start l)) rs → Stands l h e → Stands l' h e'
  tail_stands h (all_gathered l e) a s = s
  tail_stands {n = n} h (gathers l l' e how e' r rs lacking t) a s =
      let entry = gather_entry n r how in
      let old = told_refs start l in
      let new = told_refs start (logged l entry) in
      let known : (r : Reference) → Known h old r → Known h new r = λ r k. known_more l entry h r k in
      tail_stands h t (each_of (Among old) (Among new) rs (told_more start l entry) a.1) (
        one_more (told_first start) l.entries entry s.0 (a.0, tt, tt),
        later_tells (Covered h new) e how (each_more (Known h old) (Known h new) known (told e) s.1),
        λ id x there. each_more (Known h old) (Known h new) known (mentioned x) (s.2 id x there),
      )
    where
      known_more : (l : Log) (e : Entry) (h : Private) (r : Reference) → Known h (told_refs start l) r → Known h (told_refs start (logged l e)) r
      known_more l e h r (inl p) = inl p
      known_more l e h r (inr a) = inr (told_more start l e r a)
  tail_stands h (leaves_out l l' e e' r rs lacking t) a s = tail_stands h t a.1 s

  behind_stands : {n : ℕ} {l l' : Log} {h : Private} {own e : End} {lacking : Bool} → Comes S N start l h own n → Tail n l own (ungathered l) l' e lacking → Stands l' h e
  behind_stands {l = l} {h = h} c t =
      tail_stands h t (after_told (Among (told_refs start l)) [] l.entries (λ r m. among_behind (told_first start) (flat_map told_by l.entries) r m) tt) (comes_stands c)

  whole_names : {l : Log} {how : End} {h : Private} → Follows S N start l how h → EachNamesTold (told_first start) l.entries
  whole_names (closes l l' h h' own e n lacking moved c t g) =
      let s = behind_stands c t in
      let known = closing_tells (Covered h (told_refs start l')) e lacking s.1 in
      one_more (told_first start) l'.entries (last_entry S N start n (closing e lacking) moved) s.0
      (tt, handed_over h h' (told_refs start l') (told (closing e lacking)) moved g known, moved_over h h' (told_refs start l') (told (closing e lacking)) moved g s.2)
  whole_names (late l l' h own v n c t) = one_more (told_first start) l'.entries (last_entry S N start n ending.Memory []) (behind_stands c t).0 (tt, tt, tt)
  whole_names (full l l' h h' own v n used asked moved c t g) =
      one_more (told_first start) l'.entries (last_entry S N start n (ending.Full used asked) []) (behind_stands c t).0 (tt, tt, tt)

pub whole_log_names_told : WholeLogNamesTold
whole_log_names_told S N start l how h f = whole_names S N start f
