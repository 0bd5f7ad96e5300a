use Rattle.fx_pixel.specs.declared.Depth.TheVariants.{Byte, Short}
use Rattle.fx_move.proofs.TurnLaws.{turned_at}
use Rattle.fx_move.proofs.mirror.turned.Goals as goal
use Rattle.fx_move.proofs.mirror.turned.Goals.{in-Byte, in-Short}

pub returns-clause-value : goal.returns-clause-value
returns-clause-value c i =
    elim c.match-depth.branch [
      | in-Byte w ↦ rw (w.in-Byte.is, w.result-is) (turned_at Byte c.args.pixels i c.fits-pixels.0)
      | in-Short w ↦ rw (w.in-Short.is, w.result-is) (turned_at Short c.args.pixels i c.fits-pixels.0)
    ]
