use Rattle.std.proofs.Common.{◌≤◌, length}
use Rattle.std.proofs.lemmas.List.{take_all}
use Rattle.fx_props.proofs.EntryLaws.{blanks_stand}
use Rattle.fx_props.proofs.entry.clip_set_of_blanks.Goals as goal

pub returns : goal.returns
returns c =
    let past : length c.args.clips.now ≤ c.loop-clip.clip-index = rw c.items-clip-items.ensures at c.loop-clip-test.false in
    rw c.of.ensures (blanks_stand c.loop-clip.properties.items c.args.prefix.now c.args.kind c.args.clips.now
    (rw (c.items-clip-items.ensures, take_all c.loop-clip.clip-index c.args.clips.now past) at c.loop-clip.invariant) c.requires)
