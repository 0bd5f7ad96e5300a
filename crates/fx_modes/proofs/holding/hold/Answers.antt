use Rattle.std.proofs.Common.{◌+◌, List, subst, sym}
use Rattle.fx_seq.specs.declared.source.SourceFrame.{SourceFrame}
use Rattle.fx_modes.specs.Making.{HoldsScaled, handed_in}
use Rattle.fx_modes.proofs.ScaledLemmas.{came_new, handed_more, holds_more, size_more}
use Rattle.fx_modes.proofs.holding.hold.Goals as goal

pub advance-requires : goal.advance-requires
advance-requires c =
    record {
      new = came_new c.args.scale c.args.uses.now c.requires.once c.args.moment (handed_in c.args.seen.now.items) c.args.frames.items
          c.in_ok-small.small.items c.args.scene.now.store c.requires.read c.requires.due c.in_ok-small.ensures.frames;
    }

pub returns-clause-seen : goal.returns-clause-seen
returns-clause-seen c =
    handed_more c.args.seen.now.items c.push.new.self.items c.of.result c.args.frames c.in_ok-push.ensures.items c.of.ensures

pub returns-clause-size : goal.returns-clause-size
returns-clause-size c =
    size_more c.args.scale c.args.uses.now c.args.moment c.args.frames.items c.in_ok-small.small.items c.args.scene.now.store
    c.advance.new.self.store c.in_ok-small.ensures.frames c.in-Ok.ensures.frames

pub returns-clause-read : goal.returns-clause-read
returns-clause-read c =
    let frames = c.args.frames.items in
    let small = c.in_ok-small.small.items in
    let old = c.args.scene.now in
    let new = c.advance.new.self in
    let was = handed_in c.args.seen.now.items in
    let seen = handed_more c.args.seen.now.items c.push.new.self.items c.of.result c.args.frames c.in_ok-push.ensures.items c.of.ensures in
    subst (λ (ss : List SourceFrame). HoldsScaled c.args.scale c.args.uses.now (c.args.moment + 1) ss new.store) (sym seen)
    (holds_more c.args.scale c.args.uses.now c.requires.once c.args.moment was frames small old.store new.store
    c.requires.read c.requires.due c.in_ok-small.ensures.frames c.in-Ok.ensures.frames c.in-Ok.ensures.got)
