use Rattle.std.proofs.Common.{◌∙◌, ap, sym, subst, map}
use Rattle.fx_text.specs.Order.{Rise}
use Rattle.fx_text.specs.declared.value.RawClip.{RawClip}
use Rattle.fx_group.specs.Expansion.{meant}
use Rattle.fx_group.proofs.ClipNames.{names_same}
use Rattle.fx_group.proofs.flatten.clips_meant.Goals as goal

pub of-requires : goal.of-requires
of-requires c =
    let f = meant c.args.others.now c.args.prefix.now in
    let same = ap (map (λ (r : RawClip). r.name)) c.in_ok-items.ensures ∙ names_same f c.items.result.now in
    subst Rise (sym same) c.items.ensures.rise
