use Rattle.std.proofs.Common.{◌≡◌, length, drop, codes}
use Rattle.serde_json.specs.View.{items_view}
use Rattle.fx_text.specs.Json.{read_items}
use Rattle.fx_text.specs.Paths.{inside}
use Rattle.fx_text.specs.Takes.{take_of, takes_of}
use Rattle.fx_text.proofs.Rows.{before}
use Rattle.fx_text.proofs.takes.takes_of.Given as goal

abbrev pub invariant-loop-k : goal.invariant-loop-k
invariant-loop-k l = record {
  all : before l.takes.items (read_items (λ k d. take_of (inside (codes "takes") k) d) l.k (items_view (drop l.k l.values))) ≡ takes_of (items_view l.values);
  count : length l.takes.items ≡ l.k;
}
