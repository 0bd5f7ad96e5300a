use Rattle.std.proofs.Common.{subst}
use Rattle.std.specs.Prelude.{OnOk}
use Rattle.fx_effect.specs.Meaning.{Meaning, rendered}
use Rattle.fx_image.specs.Part.{IsWritten}
use Rattle.fx_life.proofs.LifeLemmas.{post_played, place_within, gate_is, may_there, means}
use Rattle.fx_life.proofs.life.Life.render.Goals as goal

pub plugin-requires : goal.plugin-requires
plugin-requires g c =
    post_played g.E.Catalogue.number_of c.args.self.now c.args.node c.post-post.result c.requires.may.effect
    c.post-post.ensures c.requires.may.plays

pub render-requires-clause-place : goal.render-requires-clause-place
render-requires-clause-place g c =
    place_within g.E.Catalogue.number_of c.args.self.now c.args.node c.post-post.result c.plugin.result.now
    c.requires.may.effect c.post-post.ensures c.plugin.ensures c.requires.may.plays

pub render-requires-clause-gate : goal.render-requires-clause-gate
render-requires-clause-gate g c = λ s there.
    gate_is g.E.ImageEffect.meaning g.E.Catalogue.number_of c.args.self.now c.args.node c.post-post.result
    c.plugin.result.now c.requires.may.effect c.args.hold.now.gate s c.post-post.ensures c.plugin.ensures
    c.requires.may.plays c.requires.gate there

pub render-requires-clause-may : goal.render-requires-clause-may
render-requires-clause-may g c = λ s there.
    let image = c.args.out.now.image.now in
    may_there g.E.ImageEffect.meaning g.E.Catalogue.number_of c.args.self.now c.args.node c.post-post.result
    c.plugin.result.now s c.args.values.now c.args.inputs.now image.depth image.components
    g.met.E.Catalogue.one_meaning c.post-post.ensures c.plugin.ensures c.requires.may there

pub post-post-requires : goal.post-post-requires
post-post-requires g c = (
  record { plugin = g.E.Catalogue.number_of c.requires.may.effect; place = c.requires.may.plays.place },
  c.requires.may.plays.posted,
)

pub render-requires-clause-part : goal.render-requires-clause-part
render-requires-clause-part g c = c.requires.part

pub render-requires-clause-some_window : goal.render-requires-clause-some_window
render-requires-clause-some_window g c = c.requires.some_window

pub render-requires-clause-frame : goal.render-requires-clause-frame
render-requires-clause-frame g c = c.requires.frame

pub returns-clause-same_part : goal.returns-clause-same_part
returns-clause-same_part g c = c.render.ensures.same_part

pub returns-clause-same_hold : goal.returns-clause-same_hold
returns-clause-same_hold g c = c.render.ensures.same_hold

pub returns-clause-ok : goal.returns-clause-ok
returns-clause-ok g c =
    λ effect plays.
    let image = c.args.out.now.image.now in
    subst (λ (m : Meaning). OnOk c.render.result (IsWritten c.args.out.now c.render.new.out
    (rendered m c.args.values.now c.args.inputs.now image.depth image.components)))
    (means g.E.ImageEffect.meaning g.E.Catalogue.number_of c.args.self.now c.args.node c.post-post.result
    c.plugin.result.now effect g.met.E.Catalogue.one_meaning c.post-post.ensures c.plugin.ensures plays)
    c.render.ensures.ok

pub returns-clause-stamped : goal.returns-clause-stamped
returns-clause-stamped g c = c.render.ensures.stamped

pub returns-clause-unstamped : goal.returns-clause-unstamped
returns-clause-unstamped g c = c.render.ensures.unstamped
