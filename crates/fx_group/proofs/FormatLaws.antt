-- A graph that is read as format 1 has no groups.
use Rattle.std.proofs.Common.{◌≡◌, refl, ap, sym, ◌∙◌, subst, ℕ, nat_le, nat_eq, ℤ, pos, negsuc, Bool, true, false, ◌&&◌, List, [], codes, Option, Some, None, is_some, Result, Ok, if◌then◌else◌, arith, Less, Equal, Greater, Ordering, is_eq}
use Rattle.std.proofs.lemmas.Bool.{true≢false}
use Rattle.std.proofs.lemmas.Bool.Decides.{nat_tests}
use Rattle.std.proofs.lemmas.Slice.Eq.{bytes_eq-Decides}
use Rattle.std.proofs.lemmas.Map.Text.{is_eq-slice_cmp}
use Rattle.std.specs.Option.{option_and_then}
use Rattle.std.specs.Cmp.Lexicographic.{slice_cmp}
use Rattle.std.specs.Ordering.{nat_cmp, match_ordering}
use Rattle.serde_json.specs.Data.{Data, null, boolean, number, string, array, object, no_items, Members, no_members, member}
use Rattle.serde_json.specs.Find.{get, get_member, as_array}
use Rattle.fx_text.specs.Fault.{Fault}
use Rattle.fx_text.specs.Json.{after, unknown, is_among, check_object, none_unknown, integer_at, whole_at, word_at, or_range, whole_within, member_at, few, list_at, value_of}
use Rattle.fx_text.specs.Nodes.{Node, Group, Graph}
use Rattle.fx_text.specs.Objects.{plain_keys, top_keys, is_grouped, is_two, nodes_of, graph_of, groups_of, groups_at, project_of, output_of, range_of, graph_in, read_graph}
use Rattle.fx_text.specs.Raw.{Project}
use Rattle.fx_text.specs.Takes.{Take, takes_at}
use Rattle.fx_text.specs.declared.raw.RawOutput.{RawOutput}
use Rattle.fx_text.specs.declared.raw.TheConstants.{MOST_GROUPS}
use Rattle.fx_group.proofs.ExpandLaws.{err_ok, ok_same}
use Rattle.fx_group.proofs.TwoLaws.{went}

-- ---- members that an object may have

rest_known : (keys : List (List ℕ)) (l : List ℕ) (e : Data) (ms : Members) → unknown keys (member l e ms) ≡ None → (is_among keys l ≡ true) × (unknown keys ms ≡ None)
rest_known keys l e ms h = go (is_among keys l) refl h
  where
    go : (b : Bool) → is_among keys l ≡ b → (if b then unknown keys ms else Some l) ≡ None → (is_among keys l ≡ true) × (unknown keys ms ≡ None)
    go true here n = (here, n)
    go false here n = absurd (true≢false (ap is_some n))

-- a key that is none of these has no member
not_there : (keys : List (List ℕ)) (q : List ℕ) (ms : Members) → is_among keys q ≡ false → unknown keys ms ≡ None → get_member q ms ≡ None
not_there keys q no_members out none = refl
not_there keys q (member l e ms) out none = go (slice_cmp nat_cmp q l) refl (not_there keys q ms out (rest_known keys l e ms none).1)
  where
    same_keys : slice_cmp nat_cmp q l ≡ Equal → q ≡ l
    same_keys h = (bytes_eq-Decides q l).0 (sym (is_eq-slice_cmp q l) ∙ ap is_eq h)

    go : (o : Ordering) → slice_cmp nat_cmp q l ≡ o → get_member q ms ≡ None → match_ordering o (get_member q ms) (Some e) (get_member q ms) ≡ None
    go Less is rest = rest
    go Greater is rest = rest
    go Equal is rest = absurd (true≢false (sym (rest_known keys l e ms none).0 ∙ ap (is_among keys) (sym (same_keys is)) ∙ out))

no_groups : (d : Data) → check_object [] (top_keys false) d ≡ Ok tt → get (codes "groups") d ≡ None
no_groups (object ms) h = by (unknown plain_keys ms) refl h
  where
    by : (o : Option (List ℕ)) → unknown plain_keys ms ≡ o → none_unknown [] o ≡ Ok tt → get_member (codes "groups") ms ≡ None
    by None is h = not_there plain_keys (codes "groups") ms refl is
    by (Some k) is h = err_ok _ tt h
no_groups null h = refl
no_groups (boolean b) h = refl
no_groups (number n) h = refl
no_groups (string s) h = refl
no_groups (array ds) h = refl

-- ---- the format

within_one : (z : ℤ) → or_range [] (codes "ofxr") (whole_within 1 2 z) ≡ Ok 1 → is_two (Some z) ≡ false
within_one (negsuc n) h = err_ok _ 1 h
within_one (pos n) h = go (nat_le 1 n && nat_le n 2) h
  where
    go : (b : Bool) → or_range [] (codes "ofxr") (if b then Some n else None) ≡ Ok 1 → is_two (Some (pos n)) ≡ false
    go false h = err_ok _ 1 h
    go true h = ap (λ m. nat_eq m 2) (ok_same n 1 h)

one_is : (d : Data) → whole_at [] (codes "ofxr") 1 2 d ≡ Ok 1 → is_grouped d ≡ false
one_is d h = go (integer_at (codes "ofxr") d) h
  where
    go : (o : Option ℤ) → after (word_at [] (codes "ofxr") o) (λ z. or_range [] (codes "ofxr") (whole_within 1 2 z)) ≡ Ok 1 → is_two o ≡ false
    go None h = err_ok _ 1 h
    go (Some z) h = within_one z h

is_one : (n : ℕ) → nat_eq n 1 ≡ true → n ≡ 1
is_one n h = grind (arith, nat_tests)

module _ (most side : ℕ) (d : Data) where
  abbrev made : ℕ → Project → RawOutput → ℕ → ℕ → List Group → List Node → List Take → Graph
  made format project output first last groups nodes takes = record {
    format = format;
    project = project;
    output = output;
    first = first;
    last = last;
    groups = groups;
    nodes = nodes;
    takes = takes;
  }

  abbrev from_nodes : Bool → ℕ → Project → RawOutput → ℕ → ℕ → List Group → Result Graph Fault
  from_nodes b format project output first last groups =
      after (after (list_at [] (codes "nodes") 1 most d) (nodes_of (codes "nodes") b project)) (λ nodes.
      after (takes_at d) (λ takes. Ok (made format project output first last groups nodes takes)))

  abbrev from_range : Bool → ℕ → Project → RawOutput → Result Graph Fault
  from_range b format project output =
      after (after (member_at [] (codes "range") d) (range_of (codes "range"))) (λ range.
      after (groups_at project d) (λ groups. from_nodes b format project output range.first range.last groups))

  abbrev from_format : Bool → ℕ → Result Graph Fault
  from_format b format =
      after (after (member_at [] (codes "project") d) (project_of (codes "project") side)) (λ project.
      after (after (member_at [] (codes "output") d) (output_of (codes "output"))) (λ output. from_range b format project output))

  groups_none : (project : Project) (groups : List Group) → get (codes "groups") d ≡ None → groups_at project d ≡ Ok groups → groups ≡ []
  groups_none project groups none h =
      sym (ok_same [] groups (sym (ap (λ o. after (if is_some o then after (word_at [] (codes "groups") (option_and_then as_array o)) (λ items. or_range [] (codes "groups") (few 0 MOST_GROUPS items)) else Ok no_items) (groups_of project)) none) ∙ h))

  object_groupless : (g : Graph) → graph_of most side d ≡ Ok g → nat_eq g.format 1 ≡ true → g.groups ≡ []
  object_groupless g h one =
      let b : Bool = is_grouped d in
      let top = went (check_object [] (top_keys b) d) (λ _. after (whole_at [] (codes "ofxr") 1 2 d) (from_format b)) g h in
      let format = went (whole_at [] (codes "ofxr") 1 2 d) (from_format b) g top.then_is in
      let project = went (after (member_at [] (codes "project") d) (project_of (codes "project") side)) (λ p.
      after (after (member_at [] (codes "output") d) (output_of (codes "output"))) (λ o. from_range b format.first p o)) g format.then_is in
      let output = went (after (member_at [] (codes "output") d) (output_of (codes "output"))) (λ o. from_range b format.first project.first o) g project.then_is in
      let range = went (after (member_at [] (codes "range") d) (range_of (codes "range"))) (λ r.
      after (groups_at project.first d) (λ gs. from_nodes b format.first project.first output.first r.first r.last gs)) g output.then_is in
      let groups = went (groups_at project.first d) (λ gs. from_nodes b format.first project.first output.first range.first.first range.first.last gs) g range.then_is in
      let nodes = went (after (list_at [] (codes "nodes") 1 most d) (nodes_of (codes "nodes") b project.first)) (λ ns.
      after (takes_at d) (λ takes. Ok (made format.first project.first output.first range.first.first range.first.last groups.first ns takes))) g groups.then_is in
      let takes = went (takes_at d) (λ ts. Ok (made format.first project.first output.first range.first.first range.first.last groups.first nodes.first ts)) g nodes.then_is in
      let same : made format.first project.first output.first range.first.first range.first.last groups.first nodes.first takes.first ≡ g = ok_same _ g takes.then_is in
      let own : format.first ≡ 1 = ap (λ (x : Graph). x.format) same ∙ is_one g.format one in
      let plain : b ≡ false = one_is d (format.is ∙ ap Ok own) in
      let known : check_object [] (top_keys false) d ≡ Ok tt = subst (λ c. check_object [] (top_keys c) d ≡ Ok tt) plain top.is in
      sym (ap (λ (x : Graph). x.groups) same) ∙ groups_none project.first groups.first (no_groups d known) groups.is

pub groupless : (bytes : List ℕ) (most side : ℕ) (g : Graph) → read_graph bytes most side ≡ Ok g → nat_eq g.format 1 ≡ true → g.groups ≡ []
groupless bytes most side g h one = by (value_of bytes) h
  where
    by : (o : Option Data) → graph_in most side o ≡ Ok g → g.groups ≡ []
    by None h = err_ok _ g h
    by (Some d) h = object_groupless most side d g h one
