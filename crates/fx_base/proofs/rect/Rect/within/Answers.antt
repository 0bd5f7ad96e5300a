use Rattle.std.proofs.Common.{w64, FitsSigned, rules}
use Rattle.std.proofs.lemmas.Bool.{both_ways}
use Rattle.std.proofs.lemmas.Int.{to_z-of_z}
use Rattle.fx_base.proofs.RectLemmas.{IsProper, IsProper-from_rect, Encloses-from_within, IsWithin-enclosed, Encloses-from_test, test-encloses}
use Rattle.fx_base.proofs.rect.Rect.within.Goals as goal

pub returns : goal.returns
returns c =
    let s = c.self.inside in
    let o = c.other.inside in
    let proper : IsProper c.args.self = IsProper-from_rect c.args.self (rw (← c.self.view_is) c.self.invariant) (λ e. both_ways _ c.if-is_empty.false (c.is_empty.ensures.bounds.1 e)) in
    let self_x1 : FitsSigned w64 s.x1 = search rules in
    let self_y1 : FitsSigned w64 s.y1 = search rules in
    let self_x2 : FitsSigned w64 s.x2 = search rules in
    let self_y2 : FitsSigned w64 s.y2 = search rules in
    let other_x1 : FitsSigned w64 o.x1 = search rules in
    let other_y1 : FitsSigned w64 o.y1 = search rules in
    let other_x2 : FitsSigned w64 o.x2 = search rules in
    let other_y2 : FitsSigned w64 o.y2 = search rules in
    simp to_z-of_z (
      λ t. IsWithin-enclosed c.args.self c.args.other (rw (← c.self.view_is, ← c.other.view_is) (Encloses-from_test _ _ t)),
      λ h. test-encloses _ _ (rw (← c.self.view_is, ← c.other.view_is) at (Encloses-from_within c.args.self c.args.other proper h)),
    )
