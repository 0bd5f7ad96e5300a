-- The ranges of what a graph's text says.
use Rattle.std.specs.Prelude.{◌-◌, ℕ, ◌≤◌, ◌+◌}
use Rattle.fx_base.specs.declared.limits.TheConstants.{LAST_FRAME, MOST_FRAMES, MOST_SIDE}
use Rattle.fx_pixel.specs.declared.Depth.{Depth}
use Rattle.fx_pixel.specs.declared.Components.{Components}

pub record Project : Type 0 where
  pub width : ℕ
  pub height : ℕ
  pub depth : Depth
  pub components : Components

-- sides from 1 to 8,192
pub record AreSides (width height : ℕ) : Type 0 where
  pub some_width : 1 ≤ width
  pub few_columns : width ≤ MOST_SIDE
  pub some_height : 1 ≤ height
  pub few_rows : height ≤ MOST_SIDE

-- format 1 or 2, and frames from 0 to 999,999, at most 100,000 of them
pub record IsHead (format first last : ℕ) : Type 0 where
  pub low : 1 ≤ format
  pub high : format ≤ 2
  pub order : first ≤ last
  pub few : last ≤ first + (MOST_FRAMES - 1)
  pub end : last ≤ LAST_FRAME
