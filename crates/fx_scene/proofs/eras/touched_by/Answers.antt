use Rattle.std.proofs.Common.{◌≡◌, ◌+◌, ◌<◌, ◌||◌, ◌∙◌, ℕ, List, Bool, false, length, map, slice_index_or, ap, sym, subst}
use Rattle.std.proofs.lemmas.List.{length_push}
use Rattle.fx_graph.specs.Shown.{does_of, shown}
use Rattle.fx_scene.specs.Takes.{does_touched, is_touched, names_node}
use Rattle.fx_scene.proofs.TakeLemmas.{touched_here, touched_more}
use Rattle.fx_scene.proofs.eras.touched_by.Goals as goal

pub loop-n-preserved : goal.loop-n-preserved
loop-n-preserved g c =
    let nodes = c.args.nodes.now in
    let edits = c.args.edits.now in
    let n = c.loop-n.n in
    let touched = c.loop-n.touched.items in
    let now = c.touches-is.result in
    let node = slice_index_or nodes n c.index-nodes-n.result in
    let pushed = c.in_ok-push.ensures.items in
    let long = c.loop-n.invariant.long in
    let known = c.loop-n.invariant.touched in
    let told : now ≡ (names_node edits n || does_touched (λ m. slice_index_or c.as_slice.result.now m false) (does_of node.work)) = c.touches-is.ensures in
    let is : now ≡ is_touched (map shown nodes) edits n =
    told
    ∙ ap (λ (ts : List Bool). names_node edits n || does_touched (λ m. slice_index_or ts m false) (does_of node.work)) c.as_slice.ensures.value
    ∙ touched_here nodes edits n touched long known node c.loop-n-test.true (ap (slice_index_or nodes n) c.index-nodes-n.is) in
    record {
      long = ap (λ (xs : List Bool). length xs) pushed ∙ length_push touched now ∙ ap (λ (k : ℕ). k + 1) long;
      touched =
          subst (λ (xs : List Bool). (k : ℕ) → k < n + 1 → slice_index_or xs k false ≡ is_touched (map shown nodes) edits k) (sym pushed)
          (touched_more nodes edits n touched long known now is);
    }
