use Rattle.std.proofs.Common.{◌≡◌, sym, subst, ℕ, Option}
use Rattle.fx_scene.specs.Areas.{area, clip_area}
use Rattle.fx_scene.proofs.ClipLemmas.{clip_area_by}
use Rattle.fx_eval.proofs.areas.area_of.Goals as goal

pub returns-in-Some : goal.returns-in-Some
returns-in-Some c nodes spans right e =
    subst (λ (o : Option ℕ). c.hull_of.result ≡ clip_area (area nodes) spans o) (sym c.in-Some.is)
    (clip_area_by nodes c.in-Some.m c.args.frames.now spans c.hull_of.result (c.hull_of.ensures nodes right) e)
