use Rattle.fx_life.proofs.life.Life.render_image.Goals as goal

pub render_whole-requires-clause-may : goal.render_whole-requires-clause-may
render_whole-requires-clause-may g c = c.requires.may

pub render_whole-requires-clause-frame : goal.render_whole-requires-clause-frame
render_whole-requires-clause-frame g c = c.requires.frame

pub render_whole-requires-clause-window : goal.render_whole-requires-clause-window
render_whole-requires-clause-window g c = c.requires.window

pub render_whole-outcome-requires-clause-may : goal.render_whole-outcome-requires-clause-may
render_whole-outcome-requires-clause-may g c = c.requires.may

pub render_whole-outcome-requires-clause-frame : goal.render_whole-outcome-requires-clause-frame
render_whole-outcome-requires-clause-frame g c = c.requires.frame

pub render_whole-outcome-requires-clause-window : goal.render_whole-outcome-requires-clause-window
render_whole-outcome-requires-clause-window g c = c.requires.window
