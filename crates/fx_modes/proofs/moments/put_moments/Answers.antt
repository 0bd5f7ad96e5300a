use Rattle.std.proofs.Common.{◌≡◌, ◌∙◌, List, Some, sym, ap, subst, arith, refl}
use Rattle.fx_seq.specs.declared.used.Use.{Use}
use Rattle.fx_scene.specs.Holds.{PicturesStay}
use Rattle.fx_scene.specs.Scenes.{graph_shown}
use Rattle.fx_shipped.specs.Shipped.{meaning_of}
use Rattle.fx_tile.specs.declared.count.TileCount.{TileCount}
use Rattle.fx_modes.specs.Files.{AreUsesOf}
use Rattle.fx_words.specs.Ordered.{Ordered}
use Rattle.fx_modes.specs.Graphs.{Graph, file_shown}
use Rattle.fx_modes.specs.Making.{MayMake}
use Rattle.fx_modes.specs.Moments.{HasRendered}
use Rattle.fx_modes.specs.Reels.{IsReelOf, Reel, moments_in, reel_with}
use Rattle.fx_modes.specs.Run.{ahead_for}
use Rattle.fx_modes.specs.Turns.{IsFinished}
use Rattle.fx_modes.proofs.EndsLemmas.{fetches_quiet, ill, puts_quiet, renders_none, stops_at_once, well}
use Rattle.fx_modes.proofs.StartLemmas.{is_reel, many_moments, may_begin, no_moments, plan_of, uses_of}
use Rattle.fx_modes.proofs.moments.put_moments.Goals as goal

pub returns-in_default-clause-stops : goal.returns-in_default-clause-stops
returns-in_default-clause-stops g c = λ there.
    let l = g.L.Library in
    let d = g.D.Depot in
    let library = c.args.library.now in
    let depot = c.args.depot.now in
    stops_at_once l.tells d.tells (Some c.args.order.now) (l.file library) (d.file depot) (l.faults library) (d.faults depot) (l.last library) (d.last depot)

pub returns-in_default-begun-clause-stops : goal.returns-in_default-begun-clause-stops
returns-in_default-begun-clause-stops g c = λ there.
    let l = g.L.Library in
    let d = g.D.Depot in
    let library = c.args.library.now in
    let depot = c.args.depot.now in
    stops_at_once l.tells d.tells (Some c.args.order.now) (l.file library) (d.file depot) (l.faults library) (d.faults depot) (l.last library) (d.last depot)

pub returns-then-last-first-clause-done : goal.returns-then-last-first-clause-done
returns-then-last-first-clause-done g c = λ told there.
    let l = g.L.Library in
    let d = g.D.Depot in
    let order = c.args.order.now in
    let file = file_shown c.args.file in
    let h : Graph = graph_shown c.ordered-file.result.graph in
    let takes = c.ordered-file.result.takes.list.items in
    let a = c.first_of-first.result in
    let b = c.last_of-last.result in
    let uses = c.in-Ok.uses.items in
    let depot = d.file c.args.depot.now in
    let reel : Reel = reel_with order.scale h takes a b in
    let is : IsReelOf order file reel =
    is_reel order file h takes a b c.ordered-file.ensures.shown c.first_of-first.ensures.value c.last_of-last.ensures.value in
    let are : AreUsesOf reel uses = uses_of order.scale h takes a b uses c.in-Ok.ensures.exact c.in-Ok.ensures.names in
    let low = c.if-last-first.true in
    subst (λ (n : TileCount). HasRendered d.tells (Some order) (l.file c.args.library.now) depot depot n) (sym c.none.ensures)
    (renders_none d.tells order file (l.file c.args.library.now) depot reel uses there is are c.ordered-file.ensures.size (no_moments order.scale h takes a b (omega (arith, low))))

pub put_each-end-requires-clause-may : goal.put_each-end-requires-clause-may
put_each-end-requires-clause-may g c κs within =
    let order = c.args.order.now in
    let h : Graph = graph_shown c.ordered-file.result.graph in
    let takes = c.ordered-file.result.takes.list.items in
    let a = c.first_of-first.result in
    let b = c.last_of-last.result in
    let uses = c.deref.result.now in
    let reel : Reel = reel_with order.scale h takes a b in
    let are : AreUsesOf reel uses =
    subst (λ (us : List Use). AreUsesOf reel us) (sym c.deref.ensures.value)
    (uses_of order.scale h takes a b c.in-Ok.uses.items c.in-Ok.ensures.exact c.in-Ok.ensures.names) in
    let plan = plan_of h takes a b order uses in
    let begun = c.in-Ok-begun.ensures in
    let making = c.in-Ok-begun.making in
    let low = c.if-last-first.false in
    let may : MayMake plan uses 0 making =
    may_begin h takes a b order uses making (omega (arith, low)) c.last_of-last.ensures.small c.ordered-file.ensures.takes.few c.ordered-file.ensures.size are begun.next (begun.making plan refl refl refl) in
    (plan, many_moments order.scale h takes a b ∙ sym c.moment_count-moments.ensures, may)

pub finished-requires : goal.finished-requires
finished-requires g c =
    let order = c.args.order.now in
    let h : Graph = graph_shown c.ordered-file.result.graph in
    let takes = c.ordered-file.result.takes.list.items in
    let a = c.first_of-first.result in
    let b = c.last_of-last.result in
    let uses = c.deref.result.now in
    let reel : Reel = reel_with order.scale h takes a b in
    let are : AreUsesOf reel uses =
    subst (λ (us : List Use). AreUsesOf reel us) (sym c.deref.ensures.value)
    (uses_of order.scale h takes a b c.in-Ok.uses.items c.in-Ok.ensures.exact c.in-Ok.ensures.names) in
    let plan = plan_of h takes a b order uses in
    let begun = c.in-Ok-begun.ensures in
    let making = c.in-Ok-begun.making in
    let low = c.if-last-first.false in
    let may : MayMake plan uses 0 making =
    may_begin h takes a b order uses making (omega (arith, low)) c.last_of-last.ensures.small c.ordered-file.ensures.takes.few c.ordered-file.ensures.size are begun.next (begun.making plan refl refl refl) in
    record { making = λ done. (plan, c.put_each-end.ensures.making plan (many_moments order.scale h takes a b ∙ sym c.moment_count-moments.ensures) may done) }

pub returns : goal.returns
returns g c =
    let l = g.L.Library in
    let d = g.D.Depot in
    let order = c.args.order.now in
    let file = file_shown c.args.file in
    let h : Graph = graph_shown c.ordered-file.result.graph in
    let takes = c.ordered-file.result.takes.list.items in
    let a = c.first_of-first.result in
    let b = c.last_of-last.result in
    let uses = c.deref.result.now in
    let reel : Reel = reel_with order.scale h takes a b in
    let is : IsReelOf order file reel =
    is_reel order file h takes a b c.ordered-file.ensures.shown c.first_of-first.ensures.value c.last_of-last.ensures.value in
    let are : AreUsesOf reel uses =
    subst (λ (us : List Use). AreUsesOf reel us) (sym c.deref.ensures.value)
    (uses_of order.scale h takes a b c.in-Ok.uses.items c.in-Ok.ensures.exact c.in-Ok.ensures.names) in
    let plan = plan_of h takes a b order uses in
    let begun = c.in-Ok-begun.ensures in
    let making = c.in-Ok-begun.making in
    let low = c.if-last-first.false in
    let may : MayMake plan uses 0 making =
    may_begin h takes a b order uses making (omega (arith, low)) c.last_of-last.ensures.small c.ordered-file.ensures.takes.few c.ordered-file.ensures.size are begun.next (begun.making plan refl refl refl) in
    let many : moments_in reel ≡ c.moment_count-moments.result = many_moments order.scale h takes a b ∙ sym c.moment_count-moments.ensures in
    let stay : PicturesStay meaning_of h reel.edits = c.more_is_same.ensures.pictures reel.edits c.ordered-file.ensures.takes.edits in
    let put = c.put_each-end.ensures in
    let new = c.put_each-end.new.making in
    let end = c.put_each-end.result in
    let shown : new.scene.script.written ≡ h = put.written ∙ begun.written in
    let finished : IsFinished h end new.sum c.finished.result =
    subst (λ (s : Graph). IsFinished s end new.sum c.finished.result) shown c.finished.ensures in
    let ended = put.ends plan many may in
    record {
      done = λ told there.
          well l.tells d.tells order file reel is stay _ _ _ (λ _. there) (sym many) refl refl are begun.seen c.ordered-file.ensures.size
          end new.sum c.finished.result ended finished told (λ done. (put.making plan many may done).counted);
      quiet_library = fetches_quiet l.tells d.tells _ _ _ _ h end new.sum ended c.finished.result finished;
      quiet_depot = puts_quiet l.tells d.tells _ _ _ _ h end new.sum ended c.finished.result finished;
      stops = λ there.
          ill l.tells d.tells order file reel is stay _ _ _ there (sym many) refl refl are begun.seen c.ordered-file.ensures.size
          end new.sum c.finished.result ended (λ none. put.quiet (c.ahead_for.ensures ∙ ap (λ (o : Ordered). ahead_for o.mode o.ahead) c.order.view_is ∙ none)) finished;
    }
