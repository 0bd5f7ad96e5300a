use Rattle.std.proofs.Common.{◌≡◌, ◌<◌, ◌*◌, ℕ}
use Rattle.fx_base.specs.Rect.{columns}
use Rattle.fx_pixel.specs.Pixel.{count}
use Rattle.fx_image.specs.Stored.{sample_in}
use Rattle.fx_time.specs.Echo.{back}
use Rattle.fx_time.specs.BlendRows.{moment_sample}
use Rattle.fx_time.proofs.EchoRowLaws.{most}
use Rattle.fx_time.proofs.echo.EchoRowsRowKernel.fill_row.Given as goal

abbrev pub invariant-loop-k : goal.invariant-loop-k
invariant-loop-k l = (s : ℕ) → s < columns l.fn.rect * count l.fn.components → sample_in l.depth l.row s ≡ most l.self.count (λ k. moment_sample l.self.inputs.now l.fn.components l.fn.rect l.fn.y s (back l.self.frame l.self.gap k)) l.k
