use Rattle.std.proofs.Common.{◌≡◌, ◌∙◌, ◌++◌, ◌<◌, get_or, length, sym, ap, subst, arith}
use Rattle.fx_props.specs.declared.value.PropKind.TheVariants as kind
use Rattle.fx_props.specs.Entries.{region_values, HasValues, region_entry}
use Rattle.fx_props.specs.declared.names.TheConstants.{CLIP_REGION}
use Rattle.fx_actions.proofs.AnswerLemmas.{entry_of_clip, each_clip-more}
use Rattle.fx_actions.proofs.interest.regions_in.Goals as goal

pub region_in-requires : goal.region_in-requires
region_in-requires c =
    let set = c.args.set.now in
    let names = c.args.names.now in
    let k = c.loop-name.name-index in
    let regions = c.requires.regions in
    let named : c.text.result.now ≡ get_or names k c.name-item.result = c.text.ensures ∙ c.name-item.is ∙ ap (λ ns. get_or ns k c.name-item.result) c.items-name-items.ensures in
    let within : k < length names = omega (arith, ap length c.items-name-items.ensures) in
    record {
      region = regions k;
      rect = c.requires.are.rects k;
      there = subst (λ n. HasValues set (region_entry (CLIP_REGION.now ++ n) (regions k))) (sym named) (entry_of_clip (HasValues set) CLIP_REGION.now kind.Fix (λ clip. region_values (regions clip)) names k c.name-item.result c.requires.are.there within);
    }

pub loop-name-preserved : goal.loop-name-preserved
loop-name-preserved c = λ regions is.
    let set = c.args.set.now in
    let names = c.args.names.now in
    let k = c.loop-name.name-index in
    let named : c.text.result.now ≡ get_or names k c.name-item.result = c.text.ensures ∙ c.name-item.is ∙ ap (λ ns. get_or ns k c.name-item.result) c.items-name-items.ensures in
    let within : k < length names = omega (arith, ap length c.items-name-items.ensures) in
    let there = subst (λ n. HasValues set (region_entry (CLIP_REGION.now ++ n) (regions k))) (sym named) (entry_of_clip (HasValues set) CLIP_REGION.now kind.Fix (λ clip. region_values (regions clip)) names k c.name-item.result is.there within) in
    each_clip-more regions k _ _ _ c.in_ok-push.ensures.items (c.loop-name.invariant regions is) (c.in_ok-region_in.ensures (regions k) (is.rects k) there)
