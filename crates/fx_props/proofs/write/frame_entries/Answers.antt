use Rattle.std.proofs.Common.{◌≡◌, ◌<◌, ℕ, ℤ, List, [], ◌++◌, length, get_or, arith, sym, ◌∙◌, ap}
use Rattle.std.specs.Borrow.{Bor}
use Rattle.std.proofs.lemmas.List.{get_or-map}
use Rattle.fx_props.specs.declared.value.PropKind.TheVariants as kind
use Rattle.fx_props.specs.declared.names.TheConstants.{CLIP_FRAMES}
use Rattle.fx_props.specs.Entries.{spans_of}
use Rattle.fx_props.specs.Entries.{range_values}
use Rattle.fx_props.proofs.EntryLaws.{clip_entries_more, entry_is}
use Rattle.fx_props.proofs.write.frame_entries.Goals as goal

pub loop-k-preserved : goal.loop-k-preserved
loop-k-preserved c =
    let d : Bor (List ℕ) = record { ref_ptr = (0, 0); now = [] } in
    let none : Bor (List (ℤ × ℤ)) = record { ref_ptr = (0, 0); now = [] } in
    let k = c.loop-k.k in
    let spans = c.args.spans.now in
    let inside : k < length c.args.clips.now = c.loop-k-test.true in
    let low : k < length spans = omega (arith, c.requires.same_number) in
    let span : (get_or spans k none).now ≡ spans_of spans k = sym (get_or-map (λ (s : Bor (List (ℤ × ℤ))). s.now) spans k none [] low) in
    let new = entry_is c.in_ok-new.field-0 kind.Fix c.in_ok-name.name (CLIP_FRAMES.now ++ (get_or c.args.clips.now k d).now) c.in_ok-values.values.items (range_values (spans_of spans k))
    c.in_ok-new.ensures c.in_ok-name.ensures (c.in_ok-values.ensures.values ∙ ap range_values span) in
    c.in_ok-push.ensures.items
    ∙ clip_entries_more CLIP_FRAMES.now kind.Fix (λ clip. range_values (spans_of spans clip)) c.args.clips.now k d c.loop-k.entries.items c.in_ok-new.field-0 inside c.loop-k.invariant new
