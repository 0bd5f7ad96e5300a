use Rattle.std.proofs.Common.{◌≡◌, ◌<◌, ◌++◌, ℕ, List, [], length, get_or, arith, ◌∙◌}
use Rattle.std.specs.Borrow.{Bor}
use Rattle.std.proofs.lemmas.List.{take_all}
use Rattle.fx_props.specs.declared.names.TheConstants.{CLIP_REGION}
use Rattle.fx_props.specs.Entries.{region_of, texts_of, region_entry, interest}
use Rattle.fx_props.proofs.EntryLaws.{interest_apart, interest_awaits, interest_entry, interest_long, awaits_next, wrote_more, fronts_before, fronts_at, on_err}
use Rattle.fx_props.proofs.write.write_interest.Goals as goal

pub write_region-requires-clause-blank : goal.write_region-requires-clause-blank
write_region-requires-clause-blank c =
    let b : Bor (List ℕ) = record { ref_ptr = (0, 0); now = [] } in
    let clips = c.args.clips.now in
    let regions = c.args.regions.now in
    let k = c.loop-k.k in
    let name = c.text.result.now in
    let region = c.index-regions-k.result in
    let long = interest_long clips regions in
    let low : k < length (interest (texts_of clips) (region_of regions)) = rw long c.loop-k-test.true in
    let named : name ≡ CLIP_REGION.now ++ (get_or clips k b).now = c.text.ensures ∙ c.in_ok-name.ensures in
    awaits_next (interest (texts_of clips) (region_of regions)) k (region_entry name region) c.args.out_args.now c.loop-k.out_args
    (interest_apart clips regions c.requires.names) (interest_awaits clips regions c.args.out_args.now c.requires.blank) low
    (interest_entry clips regions k b name region c.loop-k-test.true c.requires.same_number named c.index-regions-k.is) c.loop-k.invariant

pub loop-k-preserved : goal.loop-k-preserved
loop-k-preserved c =
    let b : Bor (List ℕ) = record { ref_ptr = (0, 0); now = [] } in
    let clips = c.args.clips.now in
    let regions = c.args.regions.now in
    let k = c.loop-k.k in
    let name = c.text.result.now in
    let region = c.index-regions-k.result in
    let long = interest_long clips regions in
    let low : k < length (interest (texts_of clips) (region_of regions)) = rw long c.loop-k-test.true in
    let named : name ≡ CLIP_REGION.now ++ (get_or clips k b).now = c.text.ensures ∙ c.in_ok-name.ensures in
    wrote_more (interest (texts_of clips) (region_of regions)) k (region_entry name region) c.args.out_args.now c.loop-k.out_args c.write_region.new.out_args
    (interest_apart clips regions c.requires.names) low
    (interest_entry clips regions k b name region c.loop-k-test.true c.requires.same_number named c.index-regions-k.is) c.loop-k.invariant c.in_ok-write_region.ensures.written

pub returns-clause-written : goal.returns-clause-written
returns-clause-written c =
    let clips = c.args.clips.now in
    let regions = c.args.regions.now in
    rw (take_all c.loop-k.k (interest (texts_of clips) (region_of regions)) (omega (arith, c.loop-k-test.false, interest_long clips regions))) at c.loop-k.invariant

pub returns-in_err-name-clause-left : goal.returns-in_err-name-clause-left
returns-in_err-name-clause-left c =
    let clips = c.args.clips.now in
    let regions = c.args.regions.now in
    on_err c.from_residual.result
    (fronts_before (interest (texts_of clips) (region_of regions)) c.loop-k.k c.args.out_args.now c.loop-k.out_args
    (interest_apart clips regions c.requires.names) (interest_awaits clips regions c.args.out_args.now c.requires.blank) c.loop-k.invariant)

pub returns-in_err-write_region-clause-left : goal.returns-in_err-write_region-clause-left
returns-in_err-write_region-clause-left c =
    let b : Bor (List ℕ) = record { ref_ptr = (0, 0); now = [] } in
    let clips = c.args.clips.now in
    let regions = c.args.regions.now in
    let k = c.loop-k.k in
    let name = c.text.result.now in
    let region = c.index-regions-k.result in
    let low : k < length (interest (texts_of clips) (region_of regions)) = rw (interest_long clips regions) c.loop-k-test.true in
    let named : name ≡ CLIP_REGION.now ++ (get_or clips k b).now = c.text.ensures ∙ c.in_ok-name.ensures in
    on_err c.from_residual-in_err-write_region.result
    (fronts_at (interest (texts_of clips) (region_of regions)) k (region_entry name region) c.args.out_args.now c.loop-k.out_args c.write_region.new.out_args
    (interest_apart clips regions c.requires.names) (interest_awaits clips regions c.args.out_args.now c.requires.blank) low
    (interest_entry clips regions k b name region c.loop-k-test.true c.requires.same_number named c.index-regions-k.is) c.loop-k.invariant c.in_err-write_region.ensures.left)
