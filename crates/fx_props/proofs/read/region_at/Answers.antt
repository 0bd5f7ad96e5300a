use Rattle.std.proofs.Common.{◌∙◌, refl}
use Rattle.fx_props.specs.declared.value.PropKind.TheVariants as kind
use Rattle.fx_props.specs.Entries.{region_values, whole}
use Rattle.fx_props.proofs.ReadLemmas.{read_at, raw_of}
use Rattle.fx_props.proofs.ReadLemmas.{cover-whole}
use Rattle.fx_props.proofs.read.region_at.Goals as goal

pub returns : goal.returns
returns c = λ r rect there.
    let set = c.args.set.now in
    let name = c.args.name.now in
    let values = region_values r in
    c.cover.ensures.bounds ∙ cover-whole r c.fix_at.result c.fix_at-2.result c.fix_at-3.result c.fix_at-4.result rect
    (raw_of _ c.fix_at.result r.x1 c.fix_at.ensures (read_at set kind.Fix name values 0 (whole r.x1) there refl))
    (raw_of _ c.fix_at-2.result r.y1 c.fix_at-2.ensures (read_at set kind.Fix name values 1 (whole r.y1) there refl))
    (raw_of _ c.fix_at-3.result r.x2 c.fix_at-3.ensures (read_at set kind.Fix name values 2 (whole r.x2) there refl))
    (raw_of _ c.fix_at-4.result r.y2 c.fix_at-4.ensures (read_at set kind.Fix name values 3 (whole r.y2) there refl))
