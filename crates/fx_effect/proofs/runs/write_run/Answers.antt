use Rattle.std.proofs.Common.{sym, ◌∙◌}
use Rattle.fx_image.specs.Stored.{pixel_in}
use Rattle.fx_image.proofs.PixelLaws.{pixel_components}
use Rattle.fx_effect.proofs.runs.write_run.Goals as goal

pub returns-then-are_one-clause-painted : goal.returns-then-are_one-clause-painted
returns-then-are_one-clause-painted c i low =
    let p = pixel_in c.args.from c.args.seen c.args.source.now i in
    c.turn_run.ensures.painted i low ∙ sym (c.are_one.ensures c.if-are_one.true p (pixel_components c.args.from c.args.seen c.args.source.now i))
