use Rattle.std.proofs.Common.{◌≡◌, ◌∙◌, ◌+◌, ◌<◌, ◌≤◌, ◌++◌, ◌∷◌, [], ap, sym, subst, length, take, get_or, refl, arith, rules}
use Rattle.std.proofs.lemmas.List.{take_more, take_all}
use Rattle.std.specs.List.{list_all}
use Rattle.std.specs.Prelude.{◌&&◌}
use Rattle.std.proofs.lemmas.Slice.Zip.{AllZip-long}
use Rattle.fx_effect.specs.Described.{DescribesClip, clip_components_of}
use Rattle.fx_graph.specs.Described.{ShowsClip, clip_takes}
use Rattle.fx_graph.proofs.DescribedLaws.{zip_at, no_clip, all_more}
use Rattle.fx_graph.proofs.described.clips_of.Goals as goal

pub loop-set-init : goal.loop-set-init
loop-set-init c = λ s clips are. (c.new-inputs.ensures.items, refl)

pub input_of-requires : goal.input_of-requires
input_of-requires c = subst ShowsClip (sym c.set-item.is) (c.requires c.loop-set.set-index c.set-item.result (omega arith))

pub takes_alpha-requires : goal.takes_alpha-requires
takes_alpha-requires c = subst ShowsClip (sym c.set-item.is) (c.requires c.loop-set.set-index c.set-item.result (omega arith))

pub loop-set-preserved : goal.loop-set-preserved
loop-set-preserved c = λ s clips are.
    let sets = c.args.sets.now in
    let i = c.loop-set.set-index in
    let set = c.set-item.result in
    let clip = get_or clips i no_clip in
    let long = AllZip-long (DescribesClip s) clips sets are in
    let within : i < length clips = omega (arith, long) in
    let here : DescribesClip s clip set = subst (DescribesClip s clip) (sym c.set-item.is) (zip_at (DescribesClip s) clips sets i no_clip set are (omega arith)) in
    let input = c.in_ok-input_of.ensures clip (clip_components_of s clip) here in
    let takes = c.in_ok-alpha.ensures clip (clip_components_of s clip) here in
    let was = c.loop-set.invariant s clips are in
    (c.in_ok-push.ensures.items ∙ rw (was.0, input) (sym (take_more clips i no_clip within)), rw (was.1, takes) (sym (all_more (clip_takes s) clips i no_clip within)))

pub returns : goal.returns
returns c = λ s clips are.
    let long = AllZip-long (DescribesClip s) clips c.args.sets.now are in
    let past : length clips ≤ c.loop-set.set-index = omega (arith, long) in
    let was = c.loop-set.invariant s clips are in
    (was.0 ∙ take_all c.loop-set.set-index clips past, was.1 ∙ ap (list_all (clip_takes s)) (take_all c.loop-set.set-index clips past))
