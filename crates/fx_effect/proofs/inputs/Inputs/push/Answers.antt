use Rattle.std.proofs.Common.{◌≡◌, List, length, sym, subst, refl, rules, w64, FitsSigned}
use Rattle.std.proofs.lemmas.Int.{to_z-of_z}
use Rattle.std.proofs.lemmas.List.Elements.{All-push}
use Rattle.fx_effect.specs.Placed.{IsPiece, ArePlaced}
use Rattle.fx_effect.specs.Bands.{AreBands}
use Rattle.fx_effect.specs.declared.piece.Placed.{Placed}
use Rattle.fx_effect.proofs.inputs.Inputs.push.Goals as goal

pub invariant_of-self-2 : goal.invariant_of-self-2
invariant_of-self-2 c =
    let frame : FitsSigned w64 c.args.frame = c.ranges.frame in
    let kept = c.in_ok-reserve.ensures.items in
    let placed : ArePlaced c.reserve.new.self.items = subst ArePlaced (sym kept) c.self.invariant.0 in
    let are : AreBands c.self.inside.bands.items c.reserve.new.self.items = subst (AreBands c.self.inside.bands.items) (sym kept) c.self.invariant.1 in
    let count : length c.reserve.new.self.items ≡ c.len-count.result = search rules in
    let more = simp to_z-of_z at c.in_ok-take_piece.ensures.ok in
    let items = simp to_z-of_z at c.push_reserved.ensures.items in
    let P : List Placed → Type 0 = λ ps. ArePlaced ps × AreBands c.take_piece.new.bands.items ps in
    subst P (sym items) (All-push (λ (p : Placed). IsPiece p.piece) _ _ placed c.requires.piece, more _ _ count refl refl (sym c.rect.ensures) are)
