-- What a job of an order renders is what the order asks for of the library's file.
use Rattle.std.proofs.Common.{◌≡◌, ◌+◌, ◌*◌, map, length, Some, Result, Ok, Option, sym, ap, subst, ◌∙◌, arith}
use Rattle.std.proofs.lemmas.List.{length-map}
use Rattle.std.proofs.lemmas.Option.{same_Some}
use Rattle.fx_outside.specs.Outside.{Files}
use Rattle.fx_proxy.specs.Scaled.{scaled_take}
use Rattle.fx_shipped.specs.Shipped.{number_of}
use Rattle.fx_takes.specs.Shown.{TakeShown, edit_shown}
use Rattle.fx_text.specs.Fault.{Fault}
use Rattle.fx_words.specs.Ordered.{Ordered}
use Rattle.fx_modes.specs.Graphs.{FileShown, first_of, frame_count, graph_under, last_of}
use Rattle.fx_modes.specs.Reels.{IsReelOf, Reel, moments_in, ordered_file, takes_for, takes_in}
use Rattle.fx_modes.specs.Run.{Job}

pub one_file : (f h : FileShown) (a : Option (Result FileShown Fault)) → a ≡ Some (Ok f) → a ≡ Some (Ok h) → f ≡ h
one_file f h a p q = cc

-- ---- what is ordered of a file

module _ (order : Ordered) (file : FileShown) (r : Reel) (is : IsReelOf order file r) where
  -- as many takes as are ordered, and the graph as it is written
  pub takes_counted : takes_in r ≡ length (takes_for order.mode file.takes) + 1
  takes_counted =
      let small = (ordered_file order file).takes in
      let shown : length (map (map edit_shown) r.edits) ≡ length r.edits = length-map r.edits (map edit_shown) in
      let same : length (map (map edit_shown) r.edits) ≡ length (map (λ (t : TakeShown). t.edits) small) = ap length is.edits in
      let listed : length (map (λ (t : TakeShown). t.edits) small) ≡ length small = length-map small (λ t. t.edits) in
      let scaled : length small ≡ length (takes_for order.mode file.takes) =
      length-map (takes_for order.mode file.takes) (scaled_take number_of order.scale file.graph.nodes) in
      omega (arith, shown, same, listed, scaled)

  pub moments_counted :
      moments_in r ≡ frame_count (first_of file.graph order) (last_of file.graph order) * (length (takes_for order.mode file.takes) + 1)
  moments_counted =
      ap (λ n. n * takes_in r) is.count
      ∙ ap (λ n. frame_count (first_of file.graph order) (last_of file.graph order) * n) takes_counted

-- ---- a job of an order

module _ (order : Ordered) (library : Files) (file : FileShown) (job : Job (Some order) library)
    (there : graph_under library order.graph ≡ Some (Ok file)) where
  pub order_here : job.order ≡ order
  order_here = same_Some job.order order (sym job.ordered)

  pub file_here : job.file ≡ file
  file_here =
      one_file job.file file (graph_under library job.order.graph) job.there
      (ap (λ (o : Ordered). graph_under library o.graph) order_here ∙ there)

  pub reel_here : IsReelOf order file job.reel
  reel_here =
      subst (λ (o : Ordered). IsReelOf o file job.reel) order_here
      (subst (λ (f : FileShown). IsReelOf job.order f job.reel) file_here job.is)
