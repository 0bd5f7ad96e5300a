-- What the words order: clap's matches of the command, the numbers that its values write, and the bounds that
-- two options have together.
use Rattle.std.specs.Prelude.{ℕ, ◌*◌, ◌/◌, ◌^◌, ◌&&◌, min, nat_le, Bool, true, if◌then◌else◌, length, codes}
use Rattle.fx_base.specs.declared.limits.TheConstants.{LAST_FRAME, MOST_TILE_SIDE}
use Rattle.std.specs.Prelude.{List, [], ◌∷◌, Option, Some, None, option_and_then}
use Rattle.std.specs.Char.{is_ascii_digit}
use Rattle.std.specs.List.{list_all}
use Rattle.std.specs.Str.{bytes_eq}
use Rattle.std.specs.Str.Parse.{digits_value, without_leading_plus}
use Rattle.clap.specs.Walk.{Row, Text, first_of, one_of}
use Rattle.clap.specs.ValueTests.{is_unsigned_in}
use Rattle.clap.specs.Simple.{matches_of}
use Rattle.clap.specs.Faults.{fault_of}
use Rattle.clap.specs.Kinds.{Kinds}
use Rattle.fx_words.specs.declared.order.TheConstants.{MOST_AHEAD, MOST_CACHE, MOST_SCALE, MOST_WORKERS}
use Rattle.fx_words.specs.declared.order.Mode.{Mode}
use Rattle.fx_words.specs.declared.order.Mode.TheVariants.{Render, Check, Bench, Migrate, Takes, Plan}
use Rattle.fx_words.specs.Ordered.{Ordered, is_scale}
use Rattle.fx_words.specs.Command.{ofxr}

abbrev pub mode_of : Text → Option Mode
mode_of word =
    if bytes_eq word (codes "render") then Some Render else
    if bytes_eq word (codes "check") then Some Check else
    if bytes_eq word (codes "bench") then Some Bench else
    if bytes_eq word (codes "migrate") then Some Migrate else
    if bytes_eq word (codes "takes") then Some Takes else
    if bytes_eq word (codes "plan") then Some Plan else None

-- for bench the graph is a number of 1 to 6 decimal digits
abbrev pub is_bench_number : Text → Bool
is_bench_number word = nat_le 1 (length word) && nat_le (length word) 6 && list_all is_ascii_digit word

abbrev pub is_graph_for : Mode → Text → Bool
is_graph_for Bench word = is_bench_number word
is_graph_for _ word = true

-- a kept tile is counted with eight bytes a pixel, and together they have at most 2^31
abbrev pub fits_memory : ℕ → ℕ → Bool
fits_memory cache tile = nat_le (cache * tile * tile * 8) (2 ^ 31)

-- as many tiles of that side as have 2^28 pixels, but 4,096 at most
abbrev pub default_cache : ℕ → ℕ
default_cache tile = min 4096 (2 ^ 28 / (tile * tile))

-- the number that a value writes
abbrev pub number_in : Text → Option ℕ
number_in t = if is_unsigned_in 0 4294967295 t then Some (digits_value 10 (without_leading_plus t)) else None

-- the number of an option, or its default
abbrev pub number_or : Option Text → ℕ → Option ℕ
number_or None default = Some default
number_or (Some t) default = number_in t

abbrev pub within : ℕ → ℕ → ℕ → Option ℕ
within least most n = if nat_le least n && nat_le n most then Some n else None

-- the number of an option from its least to its most, or its default
abbrev pub option_of : Text → ℕ → ℕ → ℕ → List Row → Option ℕ
option_of id least most default rows = option_and_then (within least most) (number_or (one_of id rows) default)

abbrev pub given : {A B : Type 0} → Option A → (A → Option B) → Option B
given (Some a) next = next a
given None next = None

abbrev pub order_with : Mode → Text → ℕ → ℕ → ℕ → ℕ → ℕ → ℕ → ℕ → Option Ordered
order_with mode graph first last tile cache workers ahead scale =
    if is_graph_for mode graph && fits_memory cache tile && is_scale scale
    then Some (record {
      mode = mode;
      graph = graph;
      first = first;
      last = last;
      tile = tile;
      cache = cache;
      workers = workers;
      ahead = ahead;
      scale = scale;
    })
    else None

-- the order of what clap found: each option with its least, its most and its default
abbrev pub order_in : List Row → Option Ordered
order_in rows =
    given (option_and_then mode_of (first_of (codes "mode") rows)) (λ mode.
    given (first_of (codes "graph") rows) (λ graph.
    given (option_of (codes "first") 0 LAST_FRAME 0 rows) (λ first.
    given (option_of (codes "last") 0 LAST_FRAME LAST_FRAME rows) (λ last.
    given (option_of (codes "tile") 1 MOST_TILE_SIDE 64 rows) (λ tile.
    given (option_of (codes "cache") 0 MOST_CACHE (default_cache tile) rows) (λ cache.
    given (option_of (codes "workers") 1 MOST_WORKERS 4 rows) (λ workers.
    given (option_of (codes "ahead") 0 MOST_AHEAD 0 rows) (λ ahead.
    given (option_of (codes "scale") 1 MOST_SCALE 1 rows) (λ scale.
    order_with mode graph first last tile cache workers ahead scale)))))))))

-- the order of what clap found, where it found no fault
abbrev pub order_by : Kinds → List Row → Option Ordered
order_by [] rows = order_in rows
order_by (fault ∷ faults) rows = None

-- what the words order, or None where they are no use of the command
unfoldable pub order_of : List Text → Option Ordered
order_of words = order_by (fault_of ofxr words) (matches_of ofxr words)
