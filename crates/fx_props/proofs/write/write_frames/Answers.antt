use Rattle.std.proofs.Common.{ℕ, refl, ◌∙◌}
use Rattle.fx_props.specs.declared.value.PropKind.TheVariants as kind
use Rattle.fx_props.specs.declared.names.TheConstants.{CLIP_FRAMES}
use Rattle.fx_props.specs.Entries.{texts_of, spans_of, frame_ranges}
use Rattle.fx_props.specs.Entries.{range_values}
use Rattle.fx_props.proofs.EntryLaws.{clip_entries_apart, clip_entries_await, fronts_none, on_err}
use Rattle.fx_props.proofs.write.write_frames.Goals as goal

pub write_entries-requires-clause-names : goal.write_entries-requires-clause-names
write_entries-requires-clause-names c =
    clip_entries_apart c.deref.result.now CLIP_FRAMES.now kind.Fix (λ clip. range_values (spans_of c.args.spans.now clip)) (texts_of c.args.clips.now) (c.deref.ensures.value ∙ c.in_ok-frame_entries.ensures) c.requires.names

pub write_entries-requires-clause-blank : goal.write_entries-requires-clause-blank
write_entries-requires-clause-blank c =
    clip_entries_await c.deref.result.now CLIP_FRAMES.now kind.Fix (λ clip. range_values (spans_of c.args.spans.now clip)) (texts_of c.args.clips.now) c.args.out_args.now (c.deref.ensures.value ∙ c.in_ok-frame_entries.ensures) c.requires.blank

pub returns-in_err-frame_entries-clause-left : goal.returns-in_err-frame_entries-clause-left
returns-in_err-frame_entries-clause-left c =
    let values = λ (clip : ℕ). range_values (spans_of c.args.spans.now clip) in
    let names = texts_of c.args.clips.now in
    let entries = frame_ranges names (spans_of c.args.spans.now) in
    on_err c.from_residual.result
    (fronts_none entries c.args.out_args.now (clip_entries_apart entries CLIP_FRAMES.now kind.Fix values names refl c.requires.names)
    (clip_entries_await entries CLIP_FRAMES.now kind.Fix values names c.args.out_args.now refl c.requires.blank))
