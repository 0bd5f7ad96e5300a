use Rattle.std.proofs.Common.{◌≡◌, ◌≤◌, length, rules, ap, arith}
use Rattle.std.proofs.lemmas.Bool.{le-ltb}
use Rattle.std.proofs.lemmas.Result.{on_ok_weaker}
use Rattle.fx_pixel.specs.Pixel.{greatest}
use Rattle.fx_pam.specs.Reading.{header_with, depth_of, raster_length, sample_count, sample_fault}
use Rattle.fx_pam.proofs.ReadingLaws.{sample_size-is, none-above}
use Rattle.fx_pam.proofs.RasterLemmas.{none-low, sample-room, sample-bound}
use Rattle.fx_pam.proofs.raster.check_raster.Goals as goal

pub returns-else-keeps_samples-clause-whole : goal.returns-else-keeps_samples-clause-whole
returns-else-keeps_samples-clause-whole c =
    let h = header_with c.args.numbers c.args.bytes.now in
    let long : raster_length h ≤ length c.args.bytes.now = rw (sample_size-is h) (search rules) in
    on_ok_weaker c.check_samples.result (λ none. record { ranged = c.requires; long = long; low = λ i below. none-low h 0 (sample_count h) none i (omega arith) (omega arith) }) c.check_samples.ensures.ok

pub returns-then-keeps_samples-clause-ok : goal.returns-then-keeps_samples-clause-ok
returns-then-keeps_samples-clause-ok c =
    let h = header_with c.args.numbers c.args.bytes.now in
    let long : raster_length h ≤ length c.args.bytes.now = rw (sample_size-is h) (search rules) in
    let same : c.args.numbers.maxval ≡ greatest (depth_of h) = search rules in
    rw (le-ltb (length c.args.bytes.now) (raster_length h) long)
    (ap (sample_fault h) (none-above h 0 (sample_count h) (λ j below. omega (arith, same, sample-bound (depth_of h) c.args.bytes.now j (λ i low. c.are_bytes.ensures i) (sample-room h j (omega arith) long)))))
