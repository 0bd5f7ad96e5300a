mod LaneLaws
mod LineLaws
