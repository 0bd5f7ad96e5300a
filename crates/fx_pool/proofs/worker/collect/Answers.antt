use Rattle.std.proofs.Common.{ℕ, List, subst}
use Rattle.std.specs.Prelude.{IsPermutation}
use Rattle.fx_pool.proofs.worker.collect.Goals as goal

pub returns : goal.returns
returns g c =
    let works = c.if-gathered.false in
    let told = c.gather-gathered.ensures in record {
      seats = told.seats;
      works = told.works works;
      outs = subst (λ (l : List (ℕ × g.row.T.Denot)). IsPermutation l c.sort_by_number.new.outs.items) (told.outs works) c.sort_by_number.ensures.same;
      numbers = c.sort_by_number.ensures.rising _ (told.numbers works);
    }
