use Rattle.std.proofs.Common.{◌≡◌, ◌<◌, ◌==◌, ◌∙◌, false, sym, refl, rules}
use Rattle.fx_pixel.specs.Pixel.{greatest}
use Rattle.fx_whole.proofs.LevelLaws.{at_least_one, scaled_if}
use Rattle.fx_whole.proofs.level.scaled.Goals as goal

pub returns-clause-value : goal.returns-clause-value
returns-clause-value c =
    let level = c.args.level in
    let most = greatest c.args.depth in
    let test : (level == 0) ≡ false = search rules in
    let some : 0 < level = search rules in
    let mean : c.args.mean ≡ level = c.requires.mean ∙ at_least_one level some in
    c.sample.ensures.value
    ∙ rw (c.from.ensures, c.min-few.ensures, c.from-2.ensures, c.greatest.ensures, mean) refl
    ∙ sym (scaled_if most level c.args.c (level == 0) test some)
