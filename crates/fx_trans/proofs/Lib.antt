mod LineLaws
mod EdgeLaws
