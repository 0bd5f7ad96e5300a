use Rattle.std.proofs.Common.{[], rules, ◌≡◌, ◌∙◌, sym, ap, subst, w64, refl}
use Rattle.std.proofs.lemmas.Int.{to_z-of_z}
use mir.Val.{SFits}
use Rattle.fx_base.specs.Rect.{IsFrame}
use Rattle.fx_effect.specs.Shape.{IsLawful}
use Rattle.fx_effect.specs.declared.values.Values.{Values}
use Rattle.fx_effect.specs.declared.action.Identity.TheVariants.{No}
use Rattle.fx_scene.specs.Nodes.{Effect}
use Rattle.fx_region.specs.Follow.{GoesToRead, stand_end}
use Rattle.fx_scene.specs.Sites.{effect_at}
use Rattle.fx_region.proofs.FollowLemmas.{same_clip, same_read, same_stands, some_place}
use Rattle.fx_region.proofs.following.effect_stand.Goals as goal

pub identity-requires-clause-lawful : goal.identity-requires-clause-lawful
identity-requires-clause-lawful g c =
    let node = c.args.node.now in
    let fits : SFits w64 c.args.frame = c.ranges.frame in
    let values = c.requires.values in
    subst (λ (v : Values). IsLawful (g.E.ImageEffect.meaning node.effect.now).shape v) (sym values)
    (record { context = node.context; there = c.requires.effect.lawful c.args.frame })

pub identity-requires-clause-frame : goal.identity-requires-clause-frame
identity-requires-clause-frame g c =
    let fits : SFits w64 c.args.frame = c.ranges.frame in
    let values = c.requires.values in
    subst (λ (v : Values). IsFrame v.frame) (sym values) c.requires.frame

pub passed_on-requires : goal.passed_on-requires
passed_on-requires g c =
    let node = c.args.node.now in
    let o = effect_at g.E.ImageEffect.meaning c.args._project node in
    let fits : SFits w64 c.args.frame = c.ranges.frame in
    let values = c.requires.values in
    let same = ap (λ (v : Values). o.meaning.same v c.args.cut) (sym values) ∙ sym c.in_ok-answer.ensures ∙ c.in-Same.is in
    same_clip node.place o c.requires.effect c.args.frame c.args.cut c.in-Same.clip c.in-Same.f same

pub returns-in-No-clause-end : goal.returns-in-No-clause-end
returns-in-No-clause-end g c choose ends chosen_so =
    let node = c.args.node.now in
    let o = effect_at g.E.ImageEffect.meaning c.args._project node in
    let fits : SFits w64 c.args.frame = c.ranges.frame in
    let values = c.requires.values in
    let same : o.meaning.same (o.values c.args.frame) c.args.cut ≡ No =
    ap (λ (v : Values). o.meaning.same v c.args.cut) (sym values) ∙ sym c.in_ok-answer.ensures ∙ c.in-No.is in
    let steps : c.of.result ≡ [] = search rules in
    let region = c.whole_or_cut.ensures ∙ sym chosen_so in
    rw (same, to_z-of_z w64 c.args.frame fits, steps, region) refl

pub returns-in-Same-clause-end : goal.returns-in-Same-clause-end
returns-in-Same-clause-end g c choose ends chosen_so =
    let node = c.args.node.now in
    let o = effect_at g.E.ImageEffect.meaning c.args._project node in
    let fits : SFits w64 c.args.frame = c.ranges.frame in
    let near : SFits w64 c.in-Same.f = search rules in
    let values = c.requires.values in
    let same = ap (λ (v : Values). o.meaning.same v c.args.cut) (sym values) ∙ sym c.in_ok-answer.ensures ∙ c.in-Same.is in
    let passed = simp to_z-of_z at c.passed_on.ensures in
    ap (stand_end ends c.args.cut) passed
    ∙ same_stands choose ends node.place o c.args.frame c.args.cut c.in-Same.clip c.in-Same.f same

pub returns-in-Same-clause-read : goal.returns-in-Same-clause-read
returns-in-Same-clause-read g c =
    let node = c.args.node.now in
    let o = effect_at g.E.ImageEffect.meaning c.args._project node in
    let fits : SFits w64 c.args.frame = c.ranges.frame in
    let near : SFits w64 c.in-Same.f = search rules in
    let values = c.requires.values in
    let same = ap (λ (v : Values). o.meaning.same v c.args.cut) (sym values) ∙ sym c.in_ok-answer.ensures ∙ c.in-Same.is in
    let passed = simp to_z-of_z at c.passed_on.ensures in
    subst (GoesToRead (Effect o) c.args.frame) (sym passed)
    (same_read node.place o c.requires.effect c.args.frame c.args.cut c.in-Same.clip c.in-Same.f (some_place c.args.cut c.requires.window.bounds c.requires.some) same)
