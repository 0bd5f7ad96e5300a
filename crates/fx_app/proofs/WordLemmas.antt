-- From the words to the number of a bench.
use Rattle.std.proofs.Common.{◌≡◌, ℕ, Bool, true, false, ◌&&◌, List, [], ◌∷◌, Option, Some, None, refl, ap, subst, ◌∙◌}
use Rattle.std.proofs.lemmas.Bool.{and_parts}
use Rattle.clap.specs.Faults.{fault_of}
use Rattle.clap.specs.Kinds.{Kinds}
use Rattle.clap.specs.Simple.{matches_of}
use Rattle.clap.specs.Walk.{Row, first_of}
use Rattle.fx_words.specs.Command.{ofxr}
use Rattle.fx_words.specs.Ordered.{Ordered, is_scale}
use Rattle.fx_words.specs.Order.{given, mode_of, option_of, default_cache, is_bench_number, is_graph_for, fits_memory, order_with, order_in, order_by}
use Rattle.fx_words.specs.declared.order.TheConstants.{MOST_AHEAD, MOST_CACHE, MOST_SCALE, MOST_WORKERS}
use Rattle.fx_base.specs.declared.limits.TheConstants.{LAST_FRAME, MOST_TILE_SIDE}
use Rattle.std.specs.Prelude.{option_and_then, codes}
use Rattle.std.proofs.lemmas.Option.{none-some, same_Some}
use Rattle.fx_words.specs.declared.order.Mode.TheVariants.{Render, Check, Bench, Migrate, Takes, Plan}
use Rattle.fx_words.specs.declared.order.Mode.{Mode}
use Rattle.fx_words.specs.Order.{order_of}

for_bench : (mode : Mode) (graph : List ℕ) → is_graph_for mode graph ≡ true → mode ≡ Bench → is_bench_number graph ≡ true
for_bench Render graph fits is = cc
for_bench Check graph fits is = cc
for_bench Migrate graph fits is = cc
for_bench Takes graph fits is = cc
for_bench Plan graph fits is = cc
for_bench Bench graph fits is = fits

made_with : (mode : Mode) (graph : List ℕ) (first last tile cache workers ahead scale : ℕ) (order : Ordered)
    → order_with mode graph first last tile cache workers ahead scale ≡ Some order → order.mode ≡ Bench → is_bench_number order.graph ≡ true
made_with mode graph first last tile cache workers ahead scale order is bench =
    by ((is_graph_for mode graph && fits_memory cache tile) && is_scale scale) refl
  where
    by : (b : Bool) → ((is_graph_for mode graph && fits_memory cache tile) && is_scale scale) ≡ b → is_bench_number order.graph ≡ true
    by true e = made (rw e at is)
      where
        made : Some (record {
          mode = mode;
          graph = graph;
          first = first;
          last = last;
          tile = tile;
          cache = cache;
          workers = workers;
          ahead = ahead;
          scale = scale;
        }) ≡ Some order → is_bench_number order.graph ≡ true
        made one =
            let same = same_Some (record {
              mode = mode;
              graph = graph;
              first = first;
              last = last;
              tile = tile;
              cache = cache;
              workers = workers;
              ahead = ahead;
              scale = scale;
            }) order one in
            subst (λ (o : Ordered). is_bench_number o.graph ≡ true) same
            (for_bench mode graph (and_parts (is_graph_for mode graph) (fits_memory cache tile) (and_parts (is_graph_for mode graph && fits_memory cache tile) (is_scale scale) e).0).0
            (ap (λ (o : Ordered). o.mode) same ∙ bench))
    by false e = absurd (none-some order (rw e at is))

from_cache : (mode : Mode) (graph : List ℕ) (first last tile : ℕ) (cache workers ahead scale : Option ℕ) (order : Ordered)
    → given cache (λ c. given workers (λ w. given ahead (λ a. given scale (λ q.
    order_with mode graph first last tile c w a q)))) ≡ Some order → order.mode ≡ Bench
    → is_bench_number order.graph ≡ true
from_cache mode graph first last tile None workers ahead scale order is bench = absurd (none-some order is)
from_cache mode graph first last tile (Some cache) None ahead scale order is bench = absurd (none-some order is)
from_cache mode graph first last tile (Some cache) (Some workers) None scale order is bench = absurd (none-some order is)
from_cache mode graph first last tile (Some cache) (Some workers) (Some ahead) None order is bench = absurd (none-some order is)
from_cache mode graph first last tile (Some cache) (Some workers) (Some ahead) (Some scale) order is bench =
    made_with mode graph first last tile cache workers ahead scale order is bench

from_mode : (mode : Option Mode) (graph : Option (List ℕ)) (first last tile : Option ℕ) (cache : ℕ → Option ℕ) (workers ahead scale : Option ℕ)
    (order : Ordered)
    → given mode (λ m. given graph (λ g. given first (λ f. given last (λ l. given tile (λ t. given (cache t) (λ c.
    given workers (λ w. given ahead (λ a. given scale (λ q. order_with m g f l t c w a q))))))))) ≡ Some order → order.mode ≡ Bench → is_bench_number order.graph ≡ true
from_mode None graph first last tile cache workers ahead scale order is bench = absurd (none-some order is)
from_mode (Some mode) None first last tile cache workers ahead scale order is bench = absurd (none-some order is)
from_mode (Some mode) (Some graph) None last tile cache workers ahead scale order is bench = absurd (none-some order is)
from_mode (Some mode) (Some graph) (Some first) None tile cache workers ahead scale order is bench = absurd (none-some order is)
from_mode (Some mode) (Some graph) (Some first) (Some last) None cache workers ahead scale order is bench = absurd (none-some order is)
from_mode (Some mode) (Some graph) (Some first) (Some last) (Some tile) cache workers ahead scale order is bench =
    from_cache mode graph first last tile (cache tile) workers ahead scale order is bench

numbered : (rows : List Row) (order : Ordered) → order_in rows ≡ Some order → order.mode ≡ Bench → is_bench_number order.graph ≡ true
numbered rows order is bench =
    from_mode (option_and_then mode_of (first_of (codes "mode") rows)) (first_of (codes "graph") rows)
    (option_of (codes "first") 0 LAST_FRAME 0 rows) (option_of (codes "last") 0 LAST_FRAME LAST_FRAME rows)
    (option_of (codes "tile") 1 MOST_TILE_SIDE 64 rows) (λ tile. option_of (codes "cache") 0 MOST_CACHE (default_cache tile) rows)
    (option_of (codes "workers") 1 MOST_WORKERS 4 rows) (option_of (codes "ahead") 0 MOST_AHEAD 0 rows)
    (option_of (codes "scale") 1 MOST_SCALE 1 rows) order is bench

numbered_by : (faults : Kinds) (rows : List Row) (order : Ordered) → order_by faults rows ≡ Some order → order.mode ≡ Bench
    → is_bench_number order.graph ≡ true
numbered_by [] rows order is bench = numbered rows order is bench
numbered_by (fault ∷ faults) rows order is bench = cc

-- the graph of a bench is one to six digits
pub bench_number : (ws : List (List ℕ)) (order : Ordered) → order_of ws ≡ Some order → order.mode ≡ Bench → is_bench_number order.graph ≡ true
unfolding order_of
bench_number ws order is bench = numbered_by (fault_of ofxr ws) (matches_of ofxr ws) order is bench
