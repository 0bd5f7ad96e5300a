use Rattle.std.proofs.Common.{◌≡◌, ◌∙◌, sym, subst, ℤ, List, ap, map, length, All}
use Rattle.std.proofs.lemmas.List.{take_all}
use Rattle.fx_scene.specs.Frames.{IsSmallSpan, items_of}
use Rattle.fx_scene.proofs.ReadLemmas.{span_items, span_at, small_spans, all_reads, frames_in_vec}
use Rattle.fx_scene.proofs.reads.frames_read.Goals as goal

pub frames_in-requires : goal.frames_in-requires
frames_in-requires g c =
    let bound = g.met.E.ImageEffect in
    let m = g.E.ImageEffect.meaning c.args.effect.now in
    let v = c.args.values.now in
    let i = c.loop-s.s-index in
    let same : c.deref-s-items.result.now ≡ c.in_ok-spans.spans.items = c.deref-s-items.ensures.value in
    let spans = ap (map span_items) same ∙ c.in_ok-spans.ensures in
    let is = c.as_slice.ensures.value ∙ span_at (m.spans v) (length c.args.names.now) c.deref-s-items.result.now i c.s-item.result spans c.loop-s-test.true c.s-item.is in
    let named = c.requires.names in
    subst (λ (ss : List (ℤ × ℤ)). All IsSmallSpan ss) (sym is)
    (small_spans v.frame (m.spans v i) c.requires.frame ((bound.laws c.args.effect.now).frames_near named.context v i named.lawful))

pub returns : goal.returns
returns g c =
    let m = g.E.ImageEffect.meaning c.args.effect.now in
    let v = c.args.values.now in
    let same : c.deref-s-items.result.now ≡ c.in_ok-spans.spans.items = c.deref-s-items.ensures.value in
    let spans = ap (map span_items) same ∙ c.in_ok-spans.ensures in
    let reads : map items_of c.loop-s.reads.items ≡ map frames_in_vec c.deref-s-items.result.now = c.loop-s.invariant ∙ ap (map frames_in_vec) (take_all c.loop-s.s-index c.deref-s-items.result.now c.loop-s-test.false) in
    all_reads (m.spans v) (length c.args.names.now) c.deref-s-items.result.now c.loop-s.reads.items reads spans
