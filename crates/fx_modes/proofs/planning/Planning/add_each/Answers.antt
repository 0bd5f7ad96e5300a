use Rattle.std.proofs.Common.{◌≡◌, ◌∙◌, ℕ, length, refl, sym, ap, subst, arith}
use Rattle.std.proofs.lemmas.Result.{err_from_is_err_and}
use Rattle.fx_seq.proofs.FillingLemmas.{quiet_more}
use Rattle.fx_seq.specs.Lists.{AreFramesOf}
use Rattle.fx_seq.specs.Moments.{due_until}
use Rattle.fx_modes.specs.Planning.{done_by, seen_by}
use Rattle.fx_modes.specs.Sources.{HasSources}
use Rattle.fx_modes.specs.Reels.{plain_reel}
use Rattle.fx_modes.proofs.PlanningLemmas.{may_plan, none_seen}
use Rattle.fx_modes.proofs.SourceLemmas.{not_read_since, sources_none}
use Rattle.fx_modes.proofs.planning.Planning.add_each.Goals as goal

pub loop-frame-init : goal.loop-frame-init
loop-frame-init g c =
    let l = g.L.Library in
    let old = c.args.self.now in
    let nothing : done_by old ≡ 0 = ap length c.requires.none in
    record {
      graph = refl;
      planning = c.requires.planning;
      next = omega (arith, nothing);
      low = omega (arith, nothing);
      sources = subst (λ (n : ℕ). HasSources l.tells (l.file c.args.library.now) c.args.uses.now n (seen_by old)) (sym nothing)
          (sources_none l.tells (l.file c.args.library.now) c.args.uses.now (seen_by old) (none_seen (seen_by old)
          (subst (λ (n : ℕ). AreFramesOf (due_until c.args.uses.now n) (seen_by old)) nothing c.requires.planning.read.seen_are)));
      quiet = record { count = refl; last_one = refl };
      same = λ told name. refl;
    }

pub add-requires : goal.add-requires
add-requires g c =
    let i = c.loop-frame.invariant in
    let q = c.args.self.now.scale in
    let at = c.args.self.now.scene.graph in
    record {
      may = (
        plain_reel q at c.args.first c.args.last,
        may_plan q at c.args.first c.args.last c.args.grid c.loop-frame.frame c.args.uses.now c.loop-frame.self i.planning i.next (omega arith),
      );
    }

pub loop-frame-preserved : goal.loop-frame-preserved
loop-frame-preserved g c =
    let l = g.L.Library in
    let i = c.loop-frame.invariant in
    let q = c.args.self.now.scale in
    let at = c.args.self.now.scene.graph in
    let done = c.in_ok-add.ensures in
    let next = i.next in
    let count = done.count in
    record {
      graph = done.graph ∙ i.graph;
      planning = done.planning (plain_reel q at c.args.first c.args.last)
          (may_plan q at c.args.first c.args.last c.args.grid c.loop-frame.frame c.args.uses.now c.loop-frame.self i.planning i.next (omega arith));
      next = omega (arith, next, count);
      low = omega (arith, next, count);
      sources = done.sources (l.file c.args.library.now) i.same i.sources;
      quiet = quiet_more i.quiet done.quiet;
      same = λ told name. done.same told name ∙ i.same told name;
    }

pub returns-in_err-add-clause-stops : goal.returns-in_err-add-clause-stops
returns-in_err-add-clause-stops g c =
    let l = g.L.Library in
    let i = c.loop-frame.invariant in
    let next = i.next in
    let old = c.args.library.now in
    let now = c.loop-frame.library in
    let new = c.add.new.library in
    let e = c.in_err-add.field-0.0 in
    let p = err_from_is_err_and c.from_residual.result c.from_residual.ensures.1 in
    rw (p.1, p.2) (record {
      moment = done_by c.loop-frame.self;
      low = omega (arith, next);
      before = i.sources.accepted;
      not_read = not_read_since l.tells (l.file old) c.args.uses.now (done_by c.loop-frame.self) (l.faults old) (l.faults now) (l.faults new)
          (l.last old) (l.last now) (l.last new) e i.quiet (c.in_err-add.ensures.unread (l.file old) i.same i.sources);
    })

pub returns-clause-all : goal.returns-clause-all
returns-clause-all g c =
    let i = c.loop-frame.invariant in
    let next = i.next in
    let low = i.low in
    omega (arith, next, low)
