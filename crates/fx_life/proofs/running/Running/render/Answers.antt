use Rattle.std.proofs.Common.{◌≡◌, ◌<◌, ℕ, Some, [], length, arith, sym, ap, ◌∙◌, subst, slice_get, reverse}
use Rattle.std.proofs.lemmas.List.{length-reverse}
use Rattle.fx_life.specs.Plugin.{MayRenderIn, gate_of}
use Rattle.fx_life.specs.Running.{Run, made, members}
use Rattle.fx_life.proofs.RunningLemmas.{one_of, as_member, read_from_end}
use Rattle.fx_life.proofs.running.Running.render.Goals as goal

pub overflow_sub-len-2 : goal.overflow_sub-len-2
overflow_sub-len-2 g c =
    let sequences = c.self.inside.in_sequence.items in
    let long = length-reverse sequences in
    let place : c.args.place < length (reverse sequences) =
    subst (λ (r : Run _). c.args.place < length r.sequences) (sym c.self.view_is) c.requires.place in
    let len : c.len.result ≡ length sequences =
    ◌∙◌ {A = ℕ} c.len.ensures c.self.inside.in_sequence.ok.0 in
    omega (arith, long, place, len)

pub render-requires-clause-plugin : goal.render-requires-clause-plugin
render-requires-clause-plugin g c =
    let sequences = c.self.inside.in_sequence.items in
    let s = c.index-sequence.result.now in
    let place : c.args.place < length (reverse sequences) =
    subst (λ (r : Run _). c.args.place < length r.sequences) (sym c.self.view_is) c.requires.place in
    let len : c.len.result ≡ length sequences =
    ◌∙◌ {A = ℕ} c.len.ensures c.self.inside.in_sequence.ok.0 in
    let there = read_from_end sequences c.args.place c.len.result s place len c.index-sequence.ensures in
    (one_of (g.E.Catalogue.number_of c.self.inside.plugin.effect) c.self.inside.plugin.live (members [] sequences)
    (made s) c.self.invariant.2 (as_member sequences c.args.place s there)).plugin

pub render-requires-clause-live : goal.render-requires-clause-live
render-requires-clause-live g c =
    let sequences = c.self.inside.in_sequence.items in
    let s = c.index-sequence.result.now in
    let place : c.args.place < length (reverse sequences) =
    subst (λ (r : Run _). c.args.place < length r.sequences) (sym c.self.view_is) c.requires.place in
    let len : c.len.result ≡ length sequences =
    ◌∙◌ {A = ℕ} c.len.ensures c.self.inside.in_sequence.ok.0 in
    let there = read_from_end sequences c.args.place c.len.result s place len c.index-sequence.ensures in
    (one_of (g.E.Catalogue.number_of c.self.inside.plugin.effect) c.self.inside.plugin.live (members [] sequences)
    (made s) c.self.invariant.2 (as_member sequences c.args.place s there)).there

pub render-requires-clause-gate : goal.render-requires-clause-gate
render-requires-clause-gate g c =
    let sequences = c.self.inside.in_sequence.items in
    let s = c.index-sequence.result.now in
    let place : c.args.place < length (reverse sequences) =
    subst (λ (r : Run _). c.args.place < length r.sequences) (sym c.self.view_is) c.requires.place in
    let len : c.len.result ≡ length sequences =
    ◌∙◌ {A = ℕ} c.len.ensures c.self.inside.in_sequence.ok.0 in
    let there = read_from_end sequences c.args.place c.len.result s place len c.index-sequence.ensures in
    let shown = ap (λ (r : Run _). slice_get r.sequences c.args.place) (sym c.self.view_is) ∙ there in
    subst (λ (r : Run _). c.args.hold.now.gate
    ≡ gate_of (g.E.ImageEffect.meaning r.effect).shape.safety (g.E.Catalogue.number_of r.effect) s.node)
    (sym c.self.view_is) (c.requires.gate s shown)

pub render-requires-clause-may : goal.render-requires-clause-may
render-requires-clause-may g c =
    let sequences = c.self.inside.in_sequence.items in
    let s = c.index-sequence.result.now in
    let image = c.args.out.now.image.now in
    let place : c.args.place < length (reverse sequences) =
    subst (λ (r : Run _). c.args.place < length r.sequences) (sym c.self.view_is) c.requires.place in
    let len : c.len.result ≡ length sequences =
    ◌∙◌ {A = ℕ} c.len.ensures c.self.inside.in_sequence.ok.0 in
    let there = read_from_end sequences c.args.place c.len.result s place len c.index-sequence.ensures in
    let shown = ap (λ (r : Run _). slice_get r.sequences c.args.place) (sym c.self.view_is) ∙ there in
    subst (λ (r : Run _). MayRenderIn s.context (g.E.ImageEffect.meaning r.effect).shape c.args.values.now
    c.args.inputs.now image.depth image.components) (sym c.self.view_is) (c.requires.may s shown)
