use Rattle.std.proofs.Common.{codes, false}
use Rattle.fx_effect.specs.Described.{DescribesClip}
use Rattle.fx_time.specs.Timeoffset.{timeoffset_shape}
use Rattle.fx_time.proofs.DescribeLaws.{one_clip}
use Rattle.fx_time.proofs.timeoffset.TimeoffsetImageEffect.describe_in_context.Goals as goal

pub returns-clause-clips : goal.returns-clause-clips
returns-clause-clips c =
    one_clip (DescribesClip timeoffset_shape) (record { name = codes "Source"; optional = false })
    c.in_ok-clip_set.field-0
    c.args.clips.now.items c.push.new.self.items c.in_ok-push.ensures.items c.requires.no_clips c.in_ok-clip_set.ensures
