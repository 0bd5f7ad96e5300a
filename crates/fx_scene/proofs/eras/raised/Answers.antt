use Rattle.std.proofs.Common.{◌≡◌, ◌+◌, ◌<◌, ◌∙◌, ℕ, List, cond, false, length, slice_index_or, ap, sym, subst}
use Rattle.std.proofs.lemmas.List.{length_push}
use Rattle.fx_scene.specs.Scripts.{era_in}
use Rattle.fx_scene.proofs.ScriptLemmas.{eras_more}
use Rattle.fx_scene.proofs.eras.raised.Goals as goal

pub loop-n-preserved : goal.loop-n-preserved
loop-n-preserved c =
    let new = c.loop-n.new.items in
    let era = c.era_after.result in
    let pushed = c.in_ok-push.ensures.items in
    let touched = c.args.touched.now in
    let long = c.loop-n.invariant.long in
    let longer = length_push new era in
    record {
      long = ap (λ (xs : List ℕ). length xs) pushed ∙ longer ∙ ap (λ (k : ℕ). k + 1) long;
      eras =
          subst (λ (xs : List ℕ). (k : ℕ) → k < c.loop-n.n + 1 → era_in xs k ≡ era_in c.args.eras.now k + cond (slice_index_or touched k false) 1 0) (sym pushed)
          (eras_more c.args.eras.now new touched c.loop-n.n era long c.loop-n.invariant.eras
          (c.era_after.ensures ∙ ap (λ (e : ℕ). e + cond (slice_index_or touched c.loop-n.n false) 1 0) c.era_in.ensures));
    }
