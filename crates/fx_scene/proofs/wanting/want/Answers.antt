use Rattle.std.proofs.Common.{rules, ◌≡◌, ℤ, ℕ, pos, map, length, ap, sym, ◌∙◌, Some, None, w64, OnOk, refl}
use Rattle.std.proofs.lemmas.Option.{same_Some}
use Rattle.std.proofs.lemmas.Int.{to_z-of_z}
use Rattle.std.proofs.lemmas.Result.{on_ok_weaker}
use Rattle.fx_graph.specs.Shown.{Effect, Shown, does_of, shown}
use mir.Val.{SFits}
use Rattle.fx_scene.proofs.GraphLemmas.{shown_at, source_at}
use Rattle.fx_scene.proofs.WantLemmas.{shown_effect, shown_source}
use Rattle.fx_scene.proofs.wanting.want.Goals as goal

-- src/wanting.rt:57:20
pub shown_frame-requires : goal.shown_frame-requires
shown_frame-requires g c =
    let graph = c.args.graph.now in
    let e = c.in-Source in
    let there = shown_at graph.nodes.items c.args.node_frame.node c.index.result.now c.requires (search rules) in
    (source_at g.E.ImageEffect.meaning (graph.depth, graph.components) (map shown graph.nodes.items) c.args.node_frame.node (shown c.index.result.now) e.pattern e.first e.last e.hold
    graph.kept there (ap does_of e.is)).frames.order

-- src/wanting.rt:41:1
pub returns-in-Effect : goal.returns-in-Effect
returns-in-Effect g c = λ n is.
    let graph = c.args.graph.now in
    let e = c.in-Effect in
    let there = shown_at graph.nodes.items c.args.node_frame.node c.index.result.now c.requires (search rules) in
    let same = same_Some n (shown c.index.result.now) (sym is ∙ there) in
    shown_effect n.does (Effect e.effect e.context e.clips.items e.names e.optional e.masks e.params.items) c.args.node_frame.node c.args.node_frame.frame
    c.args.wanted.now.items c.args.wanted.now.items (ap (λ (s : Shown _). s.does) same ∙ ap does_of e.is) refl

-- src/wanting.rt:41:1
pub returns-in-None : goal.returns-in-None
returns-in-None g c = λ n is.
    let graph = c.args.graph.now in
    let e = c.in-Source in
    let fits : SFits w64 c.args.node_frame.frame = search rules in
    let there = shown_at graph.nodes.items c.args.node_frame.node c.index.result.now c.requires (search rules) in
    let same = same_Some n (shown c.index.result.now) (sym is ∙ there) in
    shown_source n.does e.pattern e.first e.last e.hold c.args.node_frame.node c.args.node_frame.frame None
    c.args.wanted.now.items c.args.wanted.now.items (ap (λ (s : Shown _). s.does) same ∙ ap does_of e.is) (simp to_z-of_z at c.in-None.ensures) refl

-- src/wanting.rt:41:1
pub returns-in-Some : goal.returns-in-Some
returns-in-Some g c =
    let graph = c.args.graph.now in
    let e = c.in-Source in
    let t = c.args.node_frame.frame in
    let fits : SFits w64 t = search rules in
    let there = shown_at graph.nodes.items c.args.node_frame.node c.index.result.now c.requires (search rules) in
    let shows = simp to_z-of_z at c.in-Some.ensures in
    on_ok_weaker c.want_frame.result (λ a n is. shown_source n.does e.pattern e.first e.last e.hold c.args.node_frame.node t (Some c.in-Some.frame)
    c.args.wanted.now.items c.want_frame.new.wanted.items (ap (λ (s : Shown _). s.does) (same_Some n (shown c.index.result.now) (sym is ∙ there)) ∙ ap does_of e.is) shows a) c.want_frame.ensures
