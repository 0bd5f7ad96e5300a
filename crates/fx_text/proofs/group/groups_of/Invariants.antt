use Rattle.std.proofs.Common.{◌≡◌, length, drop, codes}
use Rattle.serde_json.specs.View.{items_view}
use Rattle.fx_text.specs.Json.{read_items}
use Rattle.fx_text.specs.Paths.{inside}
use Rattle.fx_text.specs.Objects.{group_of, groups_of}
use Rattle.fx_text.proofs.Rows.{before}
use Rattle.fx_text.proofs.group.groups_of.Given as goal

abbrev pub invariant-loop-k : goal.invariant-loop-k
invariant-loop-k l = record {
  all : before l.groups.items (read_items (λ k d. group_of (inside (codes "groups") k) l.project d) l.k (items_view (drop l.k l.values))) ≡ groups_of l.project (items_view l.values);
  count : length l.groups.items ≡ l.k;
}
