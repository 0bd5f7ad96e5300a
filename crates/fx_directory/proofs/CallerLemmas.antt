-- For callers: what a flight that ends leaves to a seat.
use Rattle.std.proofs.Common.{◌≡◌, ℕ, List, [], ◌∷◌, ◌++◌, ◌∙◌, append-nil}
use Rattle.std.specs.Arc.{arc_value}
use Rattle.fx_core.specs.declared.flight.Flight.{Flight}
use Rattle.fx_directory.specs.Seats.{LeavesAlone}

-- where it began last, the others stay as they were
pub last_leaves : {K : Type 0} (old new others : List (ℕ × K)) (f : Flight K) → LeavesAlone old new f → old ≡ others ++ (f.ticket.number, arc_value f.key) ∷ [] → new ≡ others
last_leaves old new others f alone last = alone others [] last ∙ append-nil others
