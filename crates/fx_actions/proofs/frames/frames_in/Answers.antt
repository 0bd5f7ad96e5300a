use Rattle.std.proofs.Common.{◌≡◌, ◌∙◌, ◌++◌, ◌<◌, [], ◌∷◌, get_or, length, map, sym, ap, subst, arith}
use Rattle.std.proofs.lemmas.List.{map-append}
use Rattle.fx_props.specs.declared.value.PropKind.TheVariants as kind
use Rattle.fx_props.specs.Entries.{range_values, HasValues, frames_entry}
use Rattle.fx_props.specs.declared.names.TheConstants.{CLIP_FRAMES}
use Rattle.fx_actions.proofs.AnswerLemmas.{entry_of_clip, each_clip-more}
use Rattle.fx_actions.proofs.frames.frames_in.Goals as goal

pub frames_of-requires : goal.frames_of-requires
frames_of-requires c =
    let set = c.args.set.now in
    let names = c.args.names.now in
    let k = c.loop-name.name-index in
    let spans = c.requires.spans in
    let named : c.text.result.now ≡ get_or names k c.name-item.result = c.text.ensures ∙ c.name-item.is ∙ ap (λ ns. get_or ns k c.name-item.result) c.items-name-items.ensures in
    let within : k < length names = omega (arith, ap length c.items-name-items.ensures) in
    record {
      spans = spans k;
      there = subst (λ n. HasValues set (frames_entry (CLIP_FRAMES.now ++ n) (spans k))) (sym named) (entry_of_clip (HasValues set) CLIP_FRAMES.now kind.Fix (λ clip. range_values (spans clip)) names k c.name-item.result c.requires.are within);
    }

pub loop-name-preserved : goal.loop-name-preserved
loop-name-preserved c = λ spans are.
    let set = c.args.set.now in
    let names = c.args.names.now in
    let k = c.loop-name.name-index in
    let named : c.text.result.now ≡ get_or names k c.name-item.result = c.text.ensures ∙ c.name-item.is ∙ ap (λ ns. get_or ns k c.name-item.result) c.items-name-items.ensures in
    let within : k < length names = omega (arith, ap length c.items-name-items.ensures) in
    let there = subst (λ n. HasValues set (frames_entry (CLIP_FRAMES.now ++ n) (spans k))) (sym named) (entry_of_clip (HasValues set) CLIP_FRAMES.now kind.Fix (λ clip. range_values (spans clip)) names k c.name-item.result are within) in
    let pushed = ap (map (λ s. s.items)) c.in_ok-push.ensures.items ∙ map-append (λ s. s.items) c.loop-name.frames.items (c.in_ok-frames_of.field-0 ∷ []) in
    each_clip-more spans k _ _ _ pushed (c.loop-name.invariant spans are) (c.in_ok-frames_of.ensures (spans k) there)
