use Rattle.std.proofs.Common.{◌≡◌, length, drop}
use Rattle.serde_json.specs.View.{items_view}
use Rattle.fx_text.specs.Json.{read_items, short_of}
use Rattle.fx_text.specs.Paths.{inside}
use Rattle.fx_text.specs.Objects.{inputs_of}
use Rattle.fx_text.proofs.Rows.{before}
use Rattle.fx_text.proofs.group.inputs_of.Given as goal

abbrev pub invariant-loop-k : goal.invariant-loop-k
invariant-loop-k l = record {
  all : before l.names.items (read_items (λ k d. short_of (inside l.path k) d) l.k (items_view (drop l.k l.values))) ≡ inputs_of l.path (items_view l.values);
  count : length l.names.items ≡ l.k;
}
