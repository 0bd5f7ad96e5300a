use Rattle.std.proofs.Common.{◌≡◌, ◌≤◌, ◌<◌, ℕ, max}
use Rattle.fx_image.specs.Stored.{sample_in}
use Rattle.fx_time.specs.Echo.{weighed}
use Rattle.fx_time.proofs.echo.louder_samples.Given as goal

abbrev pub invariant-loop-s : goal.invariant-loop-s
invariant-loop-s l =
    record {
      done : (k : ℕ) → k < l.s → sample_in l.depth l.row k ≡ max (weighed l.weight.count l.weight.back (sample_in l.depth l.other k)) (sample_in l.depth l.fn.row k);
      rest : (k : ℕ) → l.s ≤ k → sample_in l.depth l.row k ≡ sample_in l.depth l.fn.row k;
    }
