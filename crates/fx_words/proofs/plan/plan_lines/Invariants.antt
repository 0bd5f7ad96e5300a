use Rattle.std.proofs.Common.{◌≡◌, ◌++◌, take, length}
use Rattle.std.specs.Prelude.{codes, decimal, string_bytes}
use Rattle.std.specs.List.{flat_map}
use Rattle.fx_words.specs.Texts.{plan_frame_text}
use Rattle.fx_words.proofs.plan.plan_lines.Given as goal

abbrev pub invariant-loop-frame : goal.invariant-loop-frame
invariant-loop-frame l =
    string_bytes l.text
    ≡ (codes "frames " ++ (decimal (length l.frames) ++ codes "\n"))
    ++ flat_map plan_frame_text (take l.frame-index l.frames)
