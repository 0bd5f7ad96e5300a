use Rattle.std.proofs.Common.{rules, ◌≡◌, ℕ, ℤ, List, Option, map, option_map, length, ap, sym, ◌∙◌, arith, w64, subst, Vec, Global}
use Rattle.std.proofs.lemmas.Int.{to_z-of_z}
use Rattle.std.proofs.lemmas.Result.{on_ok_weaker}
use Rattle.std.proofs.lemmas.List.{length-map}
use Rattle.std.proofs.lemmas.List.FromFn.{length-map-range_with_len}
use mir.Val.{SFits}
use Rattle.fx_base.specs.Bounds.{Bounds}
use Rattle.fx_graph.specs.Shown.{Does, shown, does_of}
use Rattle.fx_graph.specs.Kept.{use_values}
use Rattle.fx_scene.specs.Frames.{frames_of, items_of}
use Rattle.fx_scene.specs.Reach.{Adds, IsClipRead}
use Rattle.fx_scene.specs.Rows.{IsRow, node_with, row_in, with_row}
use Rattle.fx_scene.proofs.GraphLemmas.{effect_adds, names_clips, names_long, shown_at, source_adds}
use Rattle.fx_scene.proofs.reaching.open_reads.Goals as goal

pub frames_read-requires-clause-names : goal.frames_read-requires-clause-names
frames_read-requires-clause-names g c =
    let graph = c.args.graph.now in
    let m = g.E.ImageEffect.meaning in
    let e = c.in-Effect in
    let k = c.args.node_frame.node in
    let t = c.args.node_frame.frame in
    let row = row_in c.args.row.now in
    let there = shown_at graph.nodes.items k c.index.result.now c.requires.place.there (search rules) in
    let u = subst (λ (work : Does _). IsRow m k row work) (ap does_of e.is) (c.requires.row (shown c.index.result.now) there) in
    let fits : SFits w64 t = search rules in
    let v = simp to_z-of_z at c.in_ok-values-in-Effect.ensures in
    names_clips (m e.effect).shape k e.context e.clips.items e.names e.optional e.masks row graph.project t
    c.in_ok-values-in-Effect.values u graph.extent
    (v ∙ ap (λ (cs : List (Option ℕ)). use_values graph.project t cs row) c.as_slice.ensures.value)

pub open_clips-requires : goal.open_clips-requires
open_clips-requires g c =
    let graph = c.args.graph.now in
    let m = g.E.ImageEffect.meaning in
    let e = c.in-Effect in
    let k = c.args.node_frame.node in
    let row = row_in c.args.row.now in
    let there = shown_at graph.nodes.items k c.index.result.now c.requires.place.there (search rules) in
    let u = subst (λ (work : Does _). IsRow m k row work) (ap does_of e.is) (c.requires.row (shown c.index.result.now) there) in
    let long = names_long (m e.effect).shape k e.context e.clips.items e.names e.optional e.masks row u in
    let reads = c.in_ok-reads-in-Effect.reads.items in
    let a = length-map reads (items_of {A = ℤ}) in
    let b = length-map-range_with_len (λ i. frames_of ((m e.effect).spans c.in_ok-values-in-Effect.values i)) 0 (length e.names) in
    let d : length (map (items_of {A = ℤ}) reads) ≡ length e.names = ap (λ (fs : List (List ℤ)). length fs) c.in_ok-reads-in-Effect.ensures ∙ b in
    let p = ap (λ (rs : List (Vec ℤ Global)). length rs) c.as_slice-in-Effect-2.ensures.value in
    let q = ap (λ (cs : List (Option ℕ)). length cs) c.as_slice-in-Effect.ensures.value in
    omega (arith, long, a, d, p, q)

pub returns-in-Source : goal.returns-in-Source
returns-in-Source g c = λ h has.
    let graph = c.args.graph.now in
    let e = c.in-Source in
    let k = c.args.node_frame.node in
    let row = row_in c.args.row.now in
    let there = shown_at graph.nodes.items k c.index.result.now c.requires.place.there (search rules) in
    source_adds g.E.ImageEffect.meaning h k (node_with row (shown c.index.result.now)) e.pattern e.first e.last e.hold
    c.args.node_frame.frame c.args.pending.now (has.node ∙ ap (option_map (node_with row)) there) (ap (λ w. with_row row (does_of w)) e.is)

pub returns-in_ok-reads-in-Effect : goal.returns-in_ok-reads-in-Effect
returns-in_ok-reads-in-Effect g c = λ h has.
    let graph = c.args.graph.now in
    let m = g.E.ImageEffect.meaning in
    let e = c.in-Effect in
    let k = c.args.node_frame.node in
    let t = c.args.node_frame.frame in
    let row = row_in c.args.row.now in
    let there = shown_at graph.nodes.items k c.index.result.now c.requires.place.there (search rules) in
    let u = subst (λ (work : Does _). IsRow m k row work) (ap does_of e.is) (c.requires.row (shown c.index.result.now) there) in
    let long = names_long (m e.effect).shape k e.context e.clips.items e.names e.optional e.masks row u in
    let fits : SFits w64 t = search rules in
    let v = simp to_z-of_z at c.in_ok-values-in-Effect.ensures in
    let values = v ∙ ap (λ (cs : List (Option ℕ)). use_values graph.project t cs row) c.as_slice.ensures.value
    ∙ ap (λ (project : Bounds). use_values project t e.clips.items row) (sym has.project) in
    let reads = ap (map (items_of {A = ℤ})) c.as_slice-in-Effect-2.ensures.value ∙ c.in_ok-reads-in-Effect.ensures in
    on_ok_weaker c.open_clips.result (λ a. effect_adds m h k (node_with row (shown c.index.result.now)) e.effect e.context
    e.clips.items e.names e.optional e.masks row t c.in_ok-values-in-Effect.values (map items_of c.as_slice-in-Effect-2.result.now)
    c.args.pending.now c.open_clips.new.pending (has.node ∙ ap (option_map (node_with row)) there) (ap (λ w. with_row row (does_of w)) e.is)
    values reads long
    (subst (λ (cs : List (Option ℕ)). Adds (IsClipRead cs (map items_of c.as_slice-in-Effect-2.result.now)) c.args.pending.now c.open_clips.new.pending)
    c.as_slice-in-Effect.ensures.value a)) c.open_clips.ensures
