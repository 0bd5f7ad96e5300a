-- Status codes (OpenFX 1.4, "Status Codes").
use Rattle.std.specs.Prelude.{ℕ}
use Rattle.fx_base.specs.declared.status.Status.{Status}
use Rattle.fx_base.specs.declared.status.Status.TheVariants as status

-- the number that OpenFX gives the status
abbrev pub code : Status → ℕ
code status.Ok = 0
code status.Failed = 1
code status.ErrFatal = 2
code status.ErrUnknown = 3
code status.ErrMissingHostFeature = 4
code status.ErrUnsupported = 5
code status.ErrExists = 6
code status.ErrFormat = 7
code status.ErrMemory = 8
code status.ErrBadHandle = 9
code status.ErrBadIndex = 10
code status.ErrValue = 11
code status.ReplyYes = 12
code status.ReplyNo = 13
code status.ReplyDefault = 14
