use Rattle.std.proofs.Common.{◌≡◌, ◌∙◌, [], ◌∷◌, map, w64, to_z, of_z, ap, rules}
use Rattle.std.proofs.lemmas.Int.{to_z-of_z}
use Rattle.std.proofs.lemmas.List.{map-append}
use Rattle.fx_effect.specs.Default.{default_spans}
use Rattle.fx_actions.proofs.AnswerLemmas.{each_clip-more}
use Rattle.fx_actions.proofs.frames.current_frames.Goals as goal

pub loop-preserved : goal.loop-preserved
loop-preserved c =
    let pushed = ap (map (λ s. s.items)) c.in_ok-push.ensures.items ∙ map-append (λ s. s.items) c.loop.frames.items (c.in_ok-vec.field-0 ∷ []) in
    let frame = c.args.values.now.frame in
    let same : to_z w64 (of_z w64 frame) ≡ frame = search (rules, to_z-of_z) in
    each_clip-more (default_spans c.args.values.now) c.loop.counter _ _ _ pushed c.loop.invariant (c.in_ok-vec.ensures.items ∙ ap (λ t. (t, t) ∷ []) same)
