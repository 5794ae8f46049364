use Rattle.std.proofs.Common.{◌≡◌, ◌∙◌, ◌≤◌, ap, sym, true, map, length, arith}
use Rattle.std.proofs.lemmas.List.{length-map}
use Rattle.rb_tree.specs.declared.node.Class.{Class}
use Rattle.rb_code.specs.Dispatch.{method_in}
use Rattle.rb_code.specs.Resolved.{body_fits}
use Rattle.rb_resolver.specs.Names.{script_of}
use Rattle.rb_resolver.specs.Built.{body_built, methods_built, classes_built, bodies_built}
use Rattle.rb_resolver.specs.Rows.{found_in_all, all_plain, all_have_words}
use Rattle.rb_resolver.proofs.Built.{handed, at_scope, has_parts, words_there, classes_there}
use Rattle.rb_resolver.proofs.Fitted.{within, names_of_each}
use Rattle.rb_resolver.proofs.Numbered.{both}
use Rattle.rb_resolver.proofs.Rows.{found_is, plain_is, dispatched}
use Rattle.rb_resolver.proofs.script.resolve.Goals as goal

pub classes-requires : goal.classes-requires
classes-requires c =
    let S = script_of c.args.program.now in
    ap (map length) (c.as_slice-own.ensures ∙ c.in_ok-known.ensures.classes) ∙ names_of_each S.method_names c.args.program.now.classes ∙ sym (ap (map (λ (k : Class). length k.methods)) c.as_slice-2.ensures)

pub methods-requires : goal.methods-requires
methods-requires c =
    let S = script_of c.args.program.now in
    ap length (c.as_slice-own-2.ensures ∙ c.in_ok-known.ensures.functions) ∙ length-map c.args.program.now.functions S.method_names ∙ sym (ap length c.as_slice-3.ensures)

-- what is known of the program, and its parts that have code
pub returns-in_err-dispatch-clause-built : goal.returns-in_err-dispatch-clause-built
returns-in_err-dispatch-clause-built c = λ h.
    let p = c.args.program.now in
    handed c.from_residual.result _ c.from_residual.ensures.1
    (c.in_err-dispatch.ensures.built (ap (all_have_words p.names) c.as_slice.ensures ∙ words_there p p.classes (has_parts p h).in_classes))

pub returns-in_err-classes-clause-built : goal.returns-in_err-classes-clause-built
returns-in_err-classes-clause-built c = λ h.
    let p = c.args.program.now in
    let S = script_of p in
    let known = c.in_ok-known.ensures in
    handed c.from_residual-in_err-classes.result _ c.from_residual-in_err-classes.ensures.1
    (c.in_err-classes.ensures.built S known.known (c.as_slice-own.ensures ∙ known.classes ∙ ap (map (λ (k : Class). map S.method_names k.methods)) (sym c.as_slice-2.ensures))
    (ap (classes_built S) c.as_slice-2.ensures ∙ classes_there p p.classes (has_parts p h).in_classes))

pub returns-in_err-functions-clause-built : goal.returns-in_err-functions-clause-built
returns-in_err-functions-clause-built c = λ h.
    let p = c.args.program.now in
    let S = script_of p in
    let known = c.in_ok-known.ensures in
    handed c.from_residual-in_err-functions.result _ c.from_residual-in_err-functions.ensures.1
    (c.in_err-functions.ensures.built S known.known (c.as_slice-own-2.ensures ∙ known.functions ∙ ap (map S.method_names) (sym c.as_slice-3.ensures))
    (ap (methods_built S) c.as_slice-3.ensures ∙ (has_parts p h).in_functions))

pub returns-in_err-bodies-clause-built : goal.returns-in_err-bodies-clause-built
returns-in_err-bodies-clause-built c = λ h.
    let p = c.args.program.now in
    let S = script_of p in
    handed c.from_residual-in_err-bodies.result _ c.from_residual-in_err-bodies.ensures.1
    (c.in_err-bodies.ensures.built S c.in_ok-known.ensures.known (ap (bodies_built S 0) c.as_slice-4.ensures ∙ (has_parts p h).in_bodies))

pub returns-in_err-main-clause-built : goal.returns-in_err-main-clause-built
returns-in_err-main-clause-built c = λ h.
    let p = c.args.program.now in
    let S = script_of p in
    let known = c.in_ok-known.ensures in
    handed c.from_residual-in_err-main.result _ c.from_residual-in_err-main.ensures.1
    (c.in_err-main.ensures.built S known.known
    (ap (λ ns. body_built S ns c.as_slice-own-3.result.now) c.as_slice-5.ensures ∙ at_scope (body_built S p.main) S.main_names c.as_slice-own-3.result.now (c.as_slice-own-3.ensures ∙ known.main) (has_parts p h).in_main))

pub returns-clause-stands : goal.returns-clause-stands
returns-clause-stands c =
    let p = c.args.program.now in
    let S = script_of p in
    let known = c.in_ok-known.ensures in
    let k = known.known in
    let table = c.in_ok-dispatch.ensures in
    let plain : all_plain p.names p.classes ≡ true = sym (ap (all_plain p.names) c.as_slice.ensures) ∙ table.plain in
    let main_names = c.as_slice-own-3.ensures ∙ known.main in
    let room : length S.main_names ≤ c.in_ok-main.main_size = omega (arith, ap length main_names, c.in_ok-main.ensures.room) in
    record {
      functions = c.in_ok-functions.ensures.erases ∙ c.as_slice-3.ensures;
      classes = c.in_ok-classes.ensures.erases ∙ c.as_slice-2.ensures;
      dispatch = λ name class. ap (method_in class) (table.rows name.0 ∙ ap (found_in_all name.0 0) c.as_slice.ensures) ∙ found_is S name.0 class p.classes ∙ dispatched S table.different plain name class;
      plain = plain_is S plain;
      bodies = c.in_ok-bodies.ensures.erases ∙ c.as_slice-4.ensures;
      threads = c.in_ok-bodies.ensures.fits S k;
      main = c.in_ok-main.ensures.erases ∙ c.as_slice-5.ensures;
      fits = both _ _ (c.in_ok-functions.ensures.fits S k (c.as_slice-own-2.ensures ∙ known.functions ∙ ap (map S.method_names) (sym c.as_slice-3.ensures)))
          (both _ _ (c.in_ok-classes.ensures.fits S k (c.as_slice-own.ensures ∙ known.classes ∙ ap (map (λ (k : Class). map S.method_names k.methods)) (sym c.as_slice-2.ensures)))
          (both _ _ (within (length S.main_names) c.in_ok-main.main_size room)
          (ap (λ ns. body_fits S c.in_ok-main.main ns c.in_ok-main.main_size) (sym main_names) ∙ c.in_ok-main.ensures.fits S k)));
    }
