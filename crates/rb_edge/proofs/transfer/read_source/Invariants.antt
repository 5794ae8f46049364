use Rattle.std.proofs.Common.{◌≡◌, ◌≤◌, ◌-◌, ℕ, List, length, vec_len}
use Rattle.rb_edge.proofs.Turns.{TakenOf}
use Rattle.rb_edge.proofs.transfer.read_source.Given as goal

abbrev pub invariant-turns : goal.invariant-turns
invariant-turns g l =
    let held = g.F.Files.held in
    let faults = g.F.Files.faults in
    record {
      short : length l.bytes.items ≤ 1048577;
      taken : TakenOf (held l.fn.files l.path) l.bytes.items;
      kept : (p : List ℕ) → held l.files p ≡ held l.fn.files p;
      rises : faults l.fn.files ≤ faults l.files;
    }

abbrev pub decreases-turns : goal.decreases-turns
decreases-turns g l = 1048577 - vec_len l.bytes
