use Rattle.fx_shipped.proofs.shipped.ShippedImageEffect.describe_in_context.Goals as goal

pub returns-in-Dissolve-clause-clips : goal.returns-in-Dissolve-clause-clips
returns-in-Dissolve-clause-clips c = rw c.in-Dissolve.is c.describe_in_context-in-Dissolve.ensures.clips

pub returns-in-Wipe-clause-clips : goal.returns-in-Wipe-clause-clips
returns-in-Wipe-clause-clips c = rw c.in-Wipe.is c.describe_in_context-in-Wipe.ensures.clips

pub returns-in-Merge-clause-clips : goal.returns-in-Merge-clause-clips
returns-in-Merge-clause-clips c = rw c.in-Merge.is c.describe_in_context-in-Merge.ensures.clips

pub returns-in-Keymix-clause-clips : goal.returns-in-Keymix-clause-clips
returns-in-Keymix-clause-clips c = rw c.in-Keymix.is c.describe_in_context-in-Keymix.ensures.clips

pub returns-in-Autogain-clause-clips : goal.returns-in-Autogain-clause-clips
returns-in-Autogain-clause-clips c = rw c.in-Autogain.is c.describe_in_context-in-Autogain.ensures.clips
