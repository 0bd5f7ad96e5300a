use Rattle.std.proofs.Common.{◌≡◌, ◌≤◌, ◌+◌, ◌-◌, ◌*◌, length, sym, ap, subst, ◌∙◌, arith}
use Rattle.fx_pixel.specs.Pixel.{size}
use Rattle.fx_image.specs.Stored.{sample_in}
use Rattle.fx_pam.specs.Reading.{header_with, sample_at, first_above}
use Rattle.fx_pam.proofs.RasterLemmas.{first-next, sample-room}
use Rattle.fx_pam.proofs.raster.check_samples.Goals as goal

pub loop-i-preserved : goal.loop-i-preserved
loop-i-preserved c =
    let h = header_with c.args.numbers c.args.bytes.now in
    let s : c.from-s.result ≡ sample_at h c.loop-i.i = c.from-s.ensures ∙ c.sample.ensures.value ∙ ap (λ depth. sample_in depth c.args.bytes.now c.loop-i.i) c.sample_depth-depth.ensures in
    let fits : sample_at h c.loop-i.i ≤ c.args.numbers.maxval = subst (λ n. n ≤ c.args.numbers.maxval) s c.if-s-numbers.false in
    record {
      until = c.loop-i.invariant.until;
      up_to = omega (arith, c.loop-i-test.true);
      deep = c.loop-i.invariant.deep;
      same_first = sym (first-next h c.loop-i.i c.sample_count-i-end.result (omega (arith, c.loop-i-test.true)) fits) ∙ c.loop-i.invariant.same_first;
    }

pub sample-requires : goal.sample-requires
sample-requires c =
    let h = header_with c.args.numbers c.args.bytes.now in
    subst (λ depth. size depth * c.loop-i.i + size depth ≤ length c.args.bytes.now) (sym c.sample_depth-depth.ensures)
    (sample-room h c.loop-i.i (omega (arith, c.loop-i-test.true, c.loop-i.invariant.until)) c.requires.long)

pub returns-clause-ok : goal.returns-clause-ok
returns-clause-ok c =
    let h = header_with c.args.numbers c.args.bytes.now in
    let none : c.sample_count-i-end.result - c.loop-i.i ≡ 0 = omega (arith, c.loop-i-test.false) in
    sym c.loop-i.invariant.same_first ∙ ap (first_above h c.loop-i.i) none
