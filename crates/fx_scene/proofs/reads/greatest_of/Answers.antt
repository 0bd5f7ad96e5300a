use Rattle.std.proofs.Common.{◌≡◌, sym, ap, ℤ, ◌∙◌, w64, to_z, List}
use Rattle.std.proofs.Math.ListN.{drop_of_length-le}
use Rattle.fx_scene.specs.Frames.{greatest}
use Rattle.fx_scene.proofs.SpanLemmas.{greatest_near}
use Rattle.fx_scene.proofs.reads.greatest_of.Goals as goal

pub returns-clause-near : goal.returns-clause-near
returns-clause-near c =
    let a = to_z w64 c.loop-span.a-bits in
    greatest_near c.args.spans.now a c.requires.small c.requires.some (sym (ap (λ (ps : List (ℤ × ℤ)). greatest a ps) (drop_of_length-le c.args.spans.now c.loop-span-test.false)) ∙ c.loop-span.invariant)
