use Rattle.std.proofs.Common.{◌≡◌, ◌∙◌, ◌++◌, sym, subst}
use Rattle.fx_props.specs.Entries.{HasValues, region_entry}
use Rattle.fx_props.specs.declared.names.TheConstants.{CLIP_REGION}
use Rattle.fx_actions.proofs.interest.region_in.Goals as goal

pub returns : goal.returns
returns c = λ r rect there.
    let named : c.text.result.now ≡ CLIP_REGION.now ++ c.args.clip.now = c.text.ensures ∙ c.in_ok-property.ensures in
    c.region_at.ensures r rect (subst (λ n. HasValues c.args.set.now (region_entry n r)) (sym named) there)
