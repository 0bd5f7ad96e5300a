use Rattle.std.proofs.Common.{sym, ap, subst, arith, w64, ℤ, ℕ, IfOk}
use Rattle.std.proofs.lemmas.Int.{to_z-of_z}
use mir.Val.{SFits}
use Rattle.fx_graph.specs.Shown.{GraphShown}
use Rattle.fx_scene.specs.Sites.{scene_nodes}
use Rattle.fx_region.specs.Ends.{EndShown}
use Rattle.fx_region.specs.Tables.{Has}
use Rattle.fx_tile.specs.Counts.{CountsRises}
use Rattle.fx_tile.specs.Kept.{made_of}
use Rattle.fx_tile.specs.Setups.{end_renders}
use Rattle.fx_tile.proofs.FoundTileLemmas.{is_found, output_ready}
use Rattle.fx_tile.proofs.SetupLemmas.{in_graph}
use Rattle.fx_tile.proofs.found.found_tile.Goals as goal

pub follow_by-requires-clause-reached : goal.follow_by-requires-clause-reached
follow_by-requires-clause-reached g c =
    let fits : SFits w64 c.args.frame = c.ranges.frame in
    let setup = c.args.setup.now in
    let output = ap (λ (h : GraphShown _). h.output) c.requires.setup.graph in
    subst (λ (t : ℤ). Has setup.regions.now setup.graph.now.output t) (sym (to_z-of_z w64 _ fits))
    (subst (λ (k : ℕ). Has setup.regions.now k c.args.frame) output c.requires.reached)

pub at_end-requires-clause-few : goal.at_end-requires-clause-few
at_end-requires-clause-few g c =
    let setup = c.args.setup.now in
    let output = ap (λ (h : GraphShown _). h.output) c.requires.setup.graph in
    let reached = subst (λ (k : ℕ). Has setup.regions.now k c.args.frame) output c.requires.reached in
    let low = in_graph g.E.ImageEffect.meaning g.E.Catalogue.number_of setup c.requires.setup setup.graph.now.output c.args.frame reached in
    let few = setup.graph.now.rendered.few in
    omega (arith, low, few)

pub at_end-requires-clause-ready : goal.at_end-requires-clause-ready
at_end-requires-clause-ready g c =
    let fits : SFits w64 c.args.frame = c.ranges.frame in
    let low = at_end-requires-clause-few g c in
    output_ready g.E.ImageEffect.meaning g.E.Catalogue.number_of c.args.setup.now c.requires.setup c.args.frame c.args.tile c.in_ok-end.end c.requires.region.small (omega (arith, low))
    c.in_ok-end.ensures.stands (simp to_z-of_z at c.in_ok-end.ensures.end)

pub returns-clause-found : goal.returns-clause-found
returns-clause-found g c =
    let fits : SFits w64 c.args.frame = c.ranges.frame in
    let m = g.E.ImageEffect.meaning in
    let setup = c.args.setup.now in
    let output = ap (λ (h : GraphShown _). h.output) c.requires.setup.graph in
    let reached = subst (λ (k : ℕ). Has setup.regions.now k c.args.frame) output c.requires.reached in
    let low = in_graph m g.E.Catalogue.number_of setup c.requires.setup setup.graph.now.output c.args.frame reached in
    let few = setup.graph.now.rendered.few in
    let own = simp to_z-of_z at c.in_ok-end.ensures.end in
    let ready = output_ready m g.E.Catalogue.number_of setup c.requires.setup c.args.frame c.args.tile c.in_ok-end.end c.requires.region.small (omega (arith, low, few))
    c.in_ok-end.ensures.stands own in
    let is = rw (← output) at own in
    let shows = rw (← output) at (simp to_z-of_z at c.in_ok-end.ensures.shows) in
    let need = simp to_z-of_z at c.at_end.ensures.need in
    is_found m setup c.args.frame c.args.tile c.in_ok-end.end (made_of c.args.seat.now) (made_of c.at_end.new.seat) ready shows is
    c.at_end.result c.at_end.ensures.tile need c.at_end.ensures.image c.at_end.ensures.count c.at_end.ensures.rises

pub returns-clause-rises : goal.returns-clause-rises
returns-clause-rises g c =
    let fits : SFits w64 c.args.frame = c.ranges.frame in
    let m = g.E.ImageEffect.meaning in
    let setup = c.args.setup.now in
    let nodes = scene_nodes m setup.scene.now in
    let output = ap (λ (h : GraphShown _). h.output) c.requires.setup.graph in
    let is = rw (← output) at (simp to_z-of_z at c.in_ok-end.ensures.end) in
    subst (λ (z : EndShown). IfOk c.at_end.result (λ f. CountsRises (end_renders nodes setup.shared.now.grid z) (made_of c.args.seat.now) (made_of c.at_end.new.seat) f.count)) is
    c.at_end.ensures.rises
