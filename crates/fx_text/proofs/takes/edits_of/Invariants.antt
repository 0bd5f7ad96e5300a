use Rattle.std.proofs.Common.{◌≡◌, length, drop}
use Rattle.serde_json.specs.View.{items_view}
use Rattle.fx_text.specs.Json.{read_items}
use Rattle.fx_text.specs.Paths.{inside}
use Rattle.fx_text.specs.Takes.{edit_of, edits_of}
use Rattle.fx_text.proofs.Rows.{before}
use Rattle.fx_text.proofs.takes.edits_of.Given as goal

abbrev pub invariant-loop-k : goal.invariant-loop-k
invariant-loop-k l = record {
  all : before l.edits.items (read_items (λ k d. edit_of (inside l.path k) d) l.k (items_view (drop l.k l.values))) ≡ edits_of l.path (items_view l.values);
  count : length l.edits.items ≡ l.k;
}
