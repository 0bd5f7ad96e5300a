use Rattle.fx_image.proofs.PartLaws.{wrote_row, wrote_within}
use Rattle.fx_image.proofs.laws.a_row_is_written.Goals as goal

pub returns : goal.returns
returns c =
    record {
      whole = λ p q y f ws next. wrote_row p q y f ws next.same next.part next.stored next.rows next.above next.below next.long next.right next.before;
      within = λ p q rect y f ws same next. wrote_within p q rect y f ws same next;
    }
