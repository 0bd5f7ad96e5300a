use Rattle.std.proofs.Common.{rules, ◌≡◌, ◌∙◌, List, ℤ, map, ap, subst, pos, w64}
use mir.Val.{SFits}
use Rattle.std.proofs.lemmas.Int.{to_z-of_z}
use Rattle.std.proofs.lemmas.Result.{IfOk-weaker}
use Rattle.fx_plan.specs.Plan.{IsPlanOf}
use Rattle.fx_scene.specs.Depends as scene
use Rattle.fx_scene.specs.Scenes.{Images, images_in}
use Rattle.fx_shipped.specs.Shipped.{meaning_of}
use Rattle.fx_words.specs.declared.plan.PlanLine.{PlanLine}
use Rattle.fx_modes.specs.Plans.{AreLinesOf, line_of}
use Rattle.fx_modes.proofs.planning.Planning.entries.Goals as goal

pub returns : goal.returns
returns c =
    let shot = c.args.self.now.scene in
    let entries = c.in_ok-entries.entries.items in
    let is = c.from-frame.ensures in
    let fits : SFits w64 c.from-frame.result = search rules in
    let held = images_in shot.store in
    let agrees = simp to_z-of_z at c.in_ok-entries.ensures.agrees in
    let all : (other : Images) → scene.AreImages other
    → scene.AgreeOnWanted meaning_of shot.graph shot.graph.output (pos c.args.frame) (pos c.args.frame) held other
    → IsPlanOf meaning_of shot.graph other c.args.grid (pos c.args.frame) entries =
    subst (λ (t : ℤ). (other : Images) → scene.AreImages other → scene.AgreeOnWanted meaning_of shot.graph shot.graph.output t t held other
    → IsPlanOf meaning_of shot.graph other c.args.grid t entries) is agrees in
    IfOk-weaker c.lines_of.result (λ lines. lines ≡ map line_of c.deref.result.now)
    (λ (lines : List PlanLine). (other : Images) → scene.AreImages other
    → scene.AgreeOnWanted meaning_of shot.graph shot.graph.output (pos c.args.frame) (pos c.args.frame) held other
    → AreLinesOf shot.graph other c.args.grid c.args.frame lines)
    (λ lines same other are agree.
    record { entries = entries; plan = all other are agree; lines_are = same ∙ ap (map line_of) c.deref.ensures.value })
    c.lines_of.ensures
