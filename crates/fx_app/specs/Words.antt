-- In which mode the words order.
use Rattle.std.specs.Prelude.{◌≡◌, ◌⊎◌, ℕ, List, Option, Some, option_map}
use Rattle.fx_words.specs.Ordered.{Ordered}
use Rattle.fx_words.specs.Order.{order_of}
use Rattle.fx_words.specs.declared.order.Mode.{Mode}
use Rattle.fx_words.specs.declared.order.Mode.TheVariants.{Render, Takes}

abbrev pub mode_in : Option Ordered → Option Mode
mode_in asked = option_map (λ order. order.mode) asked

-- the words are an order in this mode
abbrev pub Orders : List (List ℕ) → Mode → Type 0
Orders words mode = mode_in (order_of words) ≡ Some mode

-- the words are an order of the files of frames, as the graph is written alone or also at each of its takes
abbrev pub OrdersFiles : List (List ℕ) → Type 0
OrdersFiles words = Orders words Render ⊎ Orders words Takes
