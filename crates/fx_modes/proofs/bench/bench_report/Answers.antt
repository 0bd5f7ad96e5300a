use Rattle.std.proofs.Common.{◌≡◌, ◌∙◌, ℕ, List, [], Some, Ok, length, sum, subst, ap, sym, arith}
use mathlib.Core.Path.{fun_ext}
use Rattle.std.specs.List.{flat_map}
use Rattle.std.proofs.lemmas.List.FromFn.{length-map-range_with_len}
use Rattle.std.proofs.lemmas.Result.{err_from_is_err_and}
use Rattle.fx_base.specs.Pattern.{name_of}
use Rattle.fx_outside.specs.Outside.{Files}
use Rattle.fx_outside.specs.Sure.{sure_library_files, sure_depot_files}
use Rattle.fx_proxy.specs.Proxy.{scaled_images}
use Rattle.fx_scene.specs.Scenes.{graph_shown}
use Rattle.fx_tile.specs.declared.count.TileCount.{TileCount}
use Rattle.fx_words.specs.Ordered.{Ordered}
use Rattle.fx_words.specs.declared.order.Mode.{Mode}
use Rattle.fx_words.specs.declared.order.Mode.TheVariants.{Bench}
use Rattle.fx_modes.specs.Bench.{made_of, bytes_of}
use Rattle.fx_modes.specs.Files.{HasGained}
use Rattle.fx_modes.specs.Graphs.{FileShown, Graph, file_shown, first_of, frame_count, graph_under, last_of}
use Rattle.fx_modes.specs.Moments.{HasRendered}
use Rattle.fx_modes.specs.Reels.{ordered_file, plain_reel, takes_for}
use Rattle.fx_modes.specs.Steps.{bytes_under, GraphCause, GraphFetch}
use Rattle.fx_modes.proofs.BenchLemmas.{are_short, bytes_put, bench_graph, bench_stops, bench_is, small_files}
use Rattle.fx_modes.proofs.RenderLemmas.{gained_here, size_here}
use Rattle.fx_modes.proofs.StepsLemmas.{both}
use Rattle.fx_modes.proofs.bench.bench_report.Goals as goal

made_as : (inside word : List ℕ) (library : Files) → inside ≡ word → ((name : List ℕ) → library name ≡ made_of inside name)
    → library ≡ made_of word
made_as inside word library same each = fun_ext each ∙ ap made_of same

-- no take is ordered
no_takes : (order : Ordered) (file : FileShown) → order.mode ≡ Bench → takes_for order.mode file.takes ≡ []
no_takes order file is = ap (λ (m : Mode). takes_for m file.takes) is

abbrev small_graph : Ordered → FileShown → Graph
small_graph order file = (ordered_file order file).graph

-- what was put, over the frames from a to b
gained_from : (order : Ordered) (library old new : Files) (file : FileShown) (a b : ℕ) (count : TileCount)
    → graph_under library order.graph ≡ Some (Ok file) → takes_for order.mode file.takes ≡ []
    → a ≡ first_of file.graph order → b ≡ last_of file.graph order → (r : HasRendered (Unit {0}) (Some order) library old new count)
    → HasGained (plain_reel order.scale (ordered_file order file).graph a b) (scaled_images order.scale r.images) (frame_count a b) old new
gained_from order library old new file a b count there none first last r =
    let h = (ordered_file order file).graph in
    both (λ m n. HasGained (plain_reel order.scale h m n) (scaled_images order.scale r.images) (frame_count m n) old new) (first_of file.graph order) (last_of file.graph order)
    a b (sym first) (sym last) (gained_here order library old new file count r there none tt)

pub returns-in_err-file-clause-cause : goal.returns-in_err-file-clause-cause
returns-in_err-file-clause-cause g c =
    let at : c.order.inside.graph ≡ c.args.order.now.graph = ap (λ (o : Ordered). o.graph) c.order.view_is in
    let made : sure_library_files c.in_ok-library.library ≡ made_of c.args.order.now.graph = made_as c.order.inside.graph c.args.order.now.graph (sure_library_files c.in_ok-library.library) at c.in_ok-library.ensures.ok in
    let p = err_from_is_err_and c.from_residual-in_err-file.result c.from_residual-in_err-file.ensures.1 in
    rw (p.1, p.2) (bench_graph c.args.order.now (sure_library_files c.in_ok-library.library) c.in_err-file.field-0.0 made
    (subst (λ (n : List ℕ). GraphCause (sure_library_files c.in_ok-library.library) n c.in_err-file.field-0.0) at (c.in_err-file.ensures.cause tt))
    (subst (λ (n : List ℕ). GraphFetch n 0 0 [] [] c.in_err-file.field-0.0) at c.in_err-file.ensures.fetch))

pub returns-in_err-put_moments-clause-cause : goal.returns-in_err-put_moments-clause-cause
returns-in_err-put_moments-clause-cause g c =
    let at : c.order.inside.graph ≡ c.args.order.now.graph = ap (λ (o : Ordered). o.graph) c.order.view_is in
    let made : sure_library_files c.in_ok-library.library ≡ made_of c.args.order.now.graph = made_as c.order.inside.graph c.args.order.now.graph (sure_library_files c.in_ok-library.library) at c.in_ok-library.ensures.ok in
    let same : sure_library_files c.graph_of.new.library ≡ sure_library_files c.in_ok-library.library = fun_ext (c.in_ok-file.ensures.same tt) in
    let there : graph_under (sure_library_files c.graph_of.new.library) c.args.order.now.graph ≡ Some (Ok (file_shown c.in_ok-file.file)) =
    subst (λ (f : Files). graph_under f c.args.order.now.graph ≡ Some (Ok (file_shown c.in_ok-file.file))) (sym same)
    (subst (λ (n : List ℕ). graph_under (sure_library_files c.in_ok-library.library) n ≡ Some (Ok (file_shown c.in_ok-file.file))) at (c.in_ok-file.ensures.ok tt)) in
    let p = err_from_is_err_and c.from_residual-in_err-put_moments.result c.from_residual-in_err-put_moments.ensures.1 in
    rw (p.1, p.2) (bench_stops c.args.order.now (sure_library_files c.graph_of.new.library) (sure_depot_files c.new-depot.result) (sure_depot_files c.put_moments.new.depot)
    c.in_err-put_moments.field-0.0 (same ∙ made) (c.in_err-put_moments.ensures.stops (λ told. there)))

pub totals_of-totals-requires-clause-few : goal.totals_of-totals-requires-clause-few
totals_of-totals-requires-clause-few g c =
    let many : length c.deref.result.now ≡ frame_count c.first_of-first.result c.last_of-last.result =
    ap length (c.deref.ensures.value ∙ c.in_ok-names.ensures.names)
    ∙ length-map-range_with_len (name_of (graph_shown c.in_ok-file.file.graph).file) c.first_of-first.result (frame_count c.first_of-first.result c.last_of-last.result) in
    let low = c.last_of-last.ensures.small in
    omega (arith, many, low)

pub totals_of-totals-requires-clause-short : goal.totals_of-totals-requires-clause-short
totals_of-totals-requires-clause-short g c =
    let at : c.order.inside.graph ≡ c.args.order.now.graph = ap (λ (o : Ordered). o.graph) c.order.view_is in
    let same : sure_library_files c.graph_of.new.library ≡ sure_library_files c.in_ok-library.library = fun_ext (c.in_ok-file.ensures.same tt) in
    let there : graph_under (sure_library_files c.graph_of.new.library) c.args.order.now.graph ≡ Some (Ok (file_shown c.in_ok-file.file)) =
    subst (λ (f : Files). graph_under f c.args.order.now.graph ≡ Some (Ok (file_shown c.in_ok-file.file))) (sym same)
    (subst (λ (n : List ℕ). graph_under (sure_library_files c.in_ok-library.library) n ≡ Some (Ok (file_shown c.in_ok-file.file))) at (c.in_ok-file.ensures.ok tt)) in
    let r = c.in_ok-put_moments.ensures.done tt there in
    let none = no_takes c.args.order.now (file_shown c.in_ok-file.file) c.requires.in_mode in
    let gained = gained_from c.args.order.now (sure_library_files c.graph_of.new.library) (sure_depot_files c.new-depot.result) (sure_depot_files c.put_moments.new.depot) (file_shown c.in_ok-file.file)
    c.first_of-first.result c.last_of-last.result c.in_ok-put_moments.field-0 there none c.first_of-first.ensures.value c.last_of-last.ensures.value r in
    are_short c.args.order.now.scale (small_graph c.args.order.now (file_shown c.in_ok-file.file)) (scaled_images c.args.order.now.scale r.images) c.first_of-first.result (frame_count c.first_of-first.result c.last_of-last.result) (sure_depot_files c.new-depot.result) (sure_depot_files c.put_moments.new.depot)
    (small_files c.args.order.now.scale (graph_shown c.in_ok-file.file.graph) (size_here c.args.order.now (sure_library_files c.graph_of.new.library) (sure_depot_files c.new-depot.result) (sure_depot_files c.put_moments.new.depot) (file_shown c.in_ok-file.file) c.in_ok-put_moments.field-0 r there) c.in_ok-names.ensures.files) c.new-depot.ensures
    gained

pub returns-clause-ok : goal.returns-clause-ok
returns-clause-ok g c =
    let at : c.order.inside.graph ≡ c.args.order.now.graph = ap (λ (o : Ordered). o.graph) c.order.view_is in
    let made : sure_library_files c.in_ok-library.library ≡ made_of c.args.order.now.graph = made_as c.order.inside.graph c.args.order.now.graph (sure_library_files c.in_ok-library.library) at c.in_ok-library.ensures.ok in
    let same : sure_library_files c.graph_of.new.library ≡ sure_library_files c.in_ok-library.library = fun_ext (c.in_ok-file.ensures.same tt) in
    let there : graph_under (sure_library_files c.graph_of.new.library) c.args.order.now.graph ≡ Some (Ok (file_shown c.in_ok-file.file)) =
    subst (λ (f : Files). graph_under f c.args.order.now.graph ≡ Some (Ok (file_shown c.in_ok-file.file))) (sym same)
    (subst (λ (n : List ℕ). graph_under (sure_library_files c.in_ok-library.library) n ≡ Some (Ok (file_shown c.in_ok-file.file))) at (c.in_ok-file.ensures.ok tt)) in
    let r = c.in_ok-put_moments.ensures.done tt there in
    let none = no_takes c.args.order.now (file_shown c.in_ok-file.file) c.requires.in_mode in
    let gained = gained_from c.args.order.now (sure_library_files c.graph_of.new.library) (sure_depot_files c.new-depot.result) (sure_depot_files c.put_moments.new.depot) (file_shown c.in_ok-file.file)
    c.first_of-first.result c.last_of-last.result c.in_ok-put_moments.field-0 there none c.first_of-first.ensures.value c.last_of-last.ensures.value r in
    let low = c.last_of-last.ensures.small in
    let early = c.first_of-first.ensures.small in
    let order = c.args.order.now in
    let h = small_graph order (file_shown c.in_ok-file.file) in
    let small = scaled_images order.scale r.images in
    let bytes : flat_map (bytes_under (sure_depot_files c.put_moments.new.depot)) c.deref.result.now ≡ bytes_of (plain_reel order.scale h c.first_of-first.result c.last_of-last.result) small (frame_count c.first_of-first.result c.last_of-last.result) =
    ap (λ (ns : List (List ℕ)). flat_map (bytes_under (sure_depot_files c.put_moments.new.depot)) ns) (c.deref.ensures.value ∙ c.in_ok-names.ensures.names)
    ∙ bytes_put order.scale h small c.first_of-first.result (frame_count c.first_of-first.result c.last_of-last.result) (sure_depot_files c.new-depot.result) (sure_depot_files c.put_moments.new.depot)
    (small_files order.scale (graph_shown c.in_ok-file.file.graph) (size_here c.args.order.now (sure_library_files c.graph_of.new.library) (sure_depot_files c.new-depot.result) (sure_depot_files c.put_moments.new.depot) (file_shown c.in_ok-file.file) c.in_ok-put_moments.field-0 r there) c.in_ok-names.ensures.files) c.new-depot.ensures
    gained (omega (arith, low, early)) in
    bench_is c.args.order.now (sure_library_files c.graph_of.new.library) (sure_depot_files c.new-depot.result) (sure_depot_files c.put_moments.new.depot) (file_shown c.in_ok-file.file) c.in_ok-put_moments.field-0
    c.first_of-first.result c.last_of-last.result c.frame_count.result c.totals_of-totals.result.size c.totals_of-totals.result.sum
    (same ∙ made) there none c.first_of-first.ensures.value c.last_of-last.ensures.value r c.frame_count.ensures
    (c.totals_of-totals.ensures.size ∙ ap length bytes) (c.totals_of-totals.ensures.sum ∙ ap sum bytes)
