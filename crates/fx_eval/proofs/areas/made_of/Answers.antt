use Rattle.std.proofs.Common.{◌∙◌, sym, ap, w64, Option, is_some}
use Rattle.std.proofs.lemmas.Bool.{false≢true}
use Rattle.std.proofs.lemmas.Int.{to_z-of_z}
use Rattle.std.specs.Option.{option_copied}
use mir.Val.{SFits}
use Rattle.fx_eval.specs.declared.whole.Whole.{Whole}
use Rattle.fx_eval.proofs.areas.made_of.Goals as goal

pub unreachable-requires : goal.unreachable-requires
unreachable-requires c =
    let fits : SFits w64 c.args.f = c.ranges.f in
    let value = simp to_z-of_z at c.get.ensures.value in
    false≢true (ap (λ (o : Option Whole). is_some o) (sym (ap option_copied c.in-None.is) ∙ value) ∙ c.requires)

pub returns : goal.returns
returns c =
    let fits : SFits w64 c.args.f = c.ranges.f in
    let value = simp to_z-of_z at c.get.ensures.value in
    sym value ∙ ap option_copied c.in-Some.is
