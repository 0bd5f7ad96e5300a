use Rattle.std.proofs.Common.{◌≡◌, ◌≤◌, ◌-◌}
use Rattle.fx_pam.specs.Reading.{header_with, depth_of, sample_count, first_above}
use Rattle.fx_pam.proofs.raster.check_samples.Given as goal

abbrev pub invariant-loop-i : goal.invariant-loop-i
invariant-loop-i l =
    let h = header_with l.numbers l.bytes in
    record {
      until : l.i-end ≡ sample_count h;
      up_to : l.i ≤ l.i-end;
      deep : l.depth ≡ depth_of h;
      same_first : first_above h l.i (l.i-end - l.i) ≡ first_above h 0 (sample_count h);
    }
