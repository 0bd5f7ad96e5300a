use Rattle.std.proofs.Common.{rules, ap, sym, ◌∙◌, arith}
use Rattle.fx_pool.proofs.Keeps.{same_table, splits}
use Rattle.fx_pool.proofs.draw.Draw.part.Goals as goal

pub split_seat-token-requires : goal.split_seat-token-requires
split_seat-token-requires g c =
    let same = ap (λ s. s.draw) c.seat.view_is ∙ (c.requires.draw ∙ sym c.self.view_is) in (
      same_table _ _ _ _ _ _ same,
      (let one = c.self.invariant.one_word in omega arith),
      splits _ _ _ _ (search rules) (ap (λ s. s.past) c.seat.view_is ∙ c.requires.none_yet),
    )
