-- A value that is a graph is the same graph with `ofxr` set to 2.
use Rattle.std.proofs.Common.{◌≡◌, refl, ap, sym, ◌∙◌, ℕ, ◌+◌, ◌≤◌, Bool, true, false, ◌||◌, List, [], ◌∷◌, codes, Option, Some, None, is_some, Result, Ok, Err, bytes_eq, if◌then◌else◌, arith, Less, Equal, Greater, Ordering, is_eq, ◌-◌, BTreeMap, String, Global, string_bytes}
use Rattle.std.proofs.lemmas.Bool.{false≢true, true≢false}
use Rattle.std.proofs.lemmas.Slice.Eq.{bytes_eq-Decides}
use Rattle.std.proofs.lemmas.Map.Text.{is_eq-slice_cmp}
use Rattle.std.proofs.lemmas.Str.{is_utf8-from_IsUtf8}
use Rattle.std.specs.Str.{IsUtf8}
use Rattle.std.specs.BTreeMap.{insert_entry}
use Rattle.std.specs.String.{string_cmp}
use Rattle.std.specs.Option.{option_and_then}
use Rattle.std.specs.Cmp.Lexicographic.{slice_cmp}
use Rattle.std.specs.Ordering.{nat_cmp, match_ordering}
use Rattle.serde_json.specs.Data.{Data, null, boolean, unsigned, number, string, array, object, put, Items, no_items, item, Members, no_members, member, depth, members_depth}
use Rattle.serde_json.specs.Read.{read}
use Rattle.serde_json.specs.View.{view, members_view}
use Rattle.serde_json.specs.declared.value.Value.{Value}
use Rattle.serde_json.specs.declared.value.Value.TheVariants.{Object}
use Rattle.serde_json.proofs.Views.{view-Object, members_view-insert_entry}
use Rattle.serde_json.specs.Find.{get, get_member, as_array, as_number, as_integer}
use Rattle.serde_json.proofs.Views.{get_member-put, get_member-put_other}
use Rattle.fx_text.specs.Fault.{Fault}
use Rattle.fx_text.specs.Json.{after, unknown, is_among, check_object, none_unknown, has, read_items, whole_at, word_at, or_range, whole_within, member_at, few, list_at, list_or, value_of}
use Rattle.fx_text.specs.Nodes.{Node, Group, Graph}
use Rattle.fx_text.specs.Objects.{plain_keys, top_keys, is_grouped, is_two, effect_keys, source_keys, source_of, effect_of, use_of, node_of, nodes_of, graph_of, groups_of, groups_at, project_of, output_of, range_of, graph_in}
use Rattle.fx_text.specs.Paths.{inside}
use Rattle.fx_text.specs.Raw.{Project}
use Rattle.fx_text.specs.Takes.{Take, takes_of, takes_at}
use Rattle.fx_text.specs.declared.raw.RawOutput.{RawOutput}
use Rattle.fx_text.specs.declared.raw.RawRange.{RawRange}
use Rattle.fx_text.specs.declared.raw.TheConstants.{MOST_GROUPS, MOST_TAKES}
use Rattle.fx_text.specs.Migrated.{in_format_two, StaysTheSame, IsSameGraph}

-- ---- results

err_ok : {A B : Type 0} (e : Fault) (a : A) → Err e ≡ Ok a → B
err_ok {A} {B} e a h = absurd (false≢true (ap is_fine h))
  where
    is_fine : Result A Fault → Bool
    is_fine (Ok x) = true
    is_fine (Err f) = false

-- what was read first, and what was made of it
record Went {A B : Type 0} (r : Result A Fault) (next : A → Result B Fault) (b : B) : Type 0 where
  pub first : A
  pub is : r ≡ Ok first
  pub then_is : next first ≡ Ok b

went : {A B : Type 0} (r : Result A Fault) (next : A → Result B Fault) (b : B) → after r next ≡ Ok b → Went r next b
went (Ok a) next b h = record { first = a; is = refl; then_is = h }
went (Err e) next b h = err_ok e b h

-- ---- members

-- the member that is put is one of the known ones
unknown-put_at : (keys : List (List ℕ)) (k l : List ℕ) (d e : Data) (ms : Members) (o : Ordering) → is_among keys k ≡ true
    → unknown keys (member l e ms) ≡ None → unknown keys (put k d ms) ≡ None → slice_cmp nat_cmp k l ≡ o
    → unknown keys (match_ordering o (member k d (member l e ms)) (member l d ms) (member l e (put k d ms))) ≡ None
unknown-put_at keys k l d e ms Less known was later is = rw known was
unknown-put_at keys k l d e ms Equal known was later is = was
unknown-put_at keys k l d e ms Greater known was later is = go (is_among keys l) refl was
  where
    go : (b : Bool) → is_among keys l ≡ b → (if b then unknown keys ms else Some l) ≡ None → (if b then unknown keys (put k d ms) else Some l) ≡ None
    go true here h = later
    go false here h = h

rest_known : (keys : List (List ℕ)) (l : List ℕ) (e : Data) (ms : Members) → unknown keys (member l e ms) ≡ None → (is_among keys l ≡ true) × (unknown keys ms ≡ None)
rest_known keys l e ms h = go (is_among keys l) refl h
  where
    go : (b : Bool) → is_among keys l ≡ b → (if b then unknown keys ms else Some l) ≡ None → (is_among keys l ≡ true) × (unknown keys ms ≡ None)
    go true here n = (here, n)
    go false here n = absurd (true≢false (ap is_some n))

unknown-put : (keys : List (List ℕ)) (k : List ℕ) (d : Data) (ms : Members) → is_among keys k ≡ true → unknown keys ms ≡ None → unknown keys (put k d ms) ≡ None
unknown-put keys k d no_members known none = rw known refl
unknown-put keys k d (member l e ms) known none =
    unknown-put_at keys k l d e ms (slice_cmp nat_cmp k l) known none (unknown-put keys k d ms known (rest_known keys l e ms none).1) refl

-- of one key more
unknown-more : (k : List ℕ) (keys : List (List ℕ)) (ms : Members) → unknown keys ms ≡ None → unknown (k ∷ keys) ms ≡ None
unknown-more k keys no_members none = refl
unknown-more k keys (member l e ms) none =
    let r = rest_known keys l e ms none in
    ap (λ b. if bytes_eq k l || b then unknown (k ∷ keys) ms else Some l) r.0
    ∙ ap (λ b. if b then unknown (k ∷ keys) ms else Some l) (right (bytes_eq k l))
    ∙ unknown-more k keys ms r.1
  where
    right : (b : Bool) → b || true ≡ true
    right true = refl
    right false = refl

-- what is out known key is out member
not_there : (keys : List (List ℕ)) (q : List ℕ) (ms : Members) → is_among keys q ≡ false → unknown keys ms ≡ None → get_member q ms ≡ None
not_there keys q no_members out none = refl
not_there keys q (member l e ms) out none = go (slice_cmp nat_cmp q l) refl (not_there keys q ms out (rest_known keys l e ms none).1)
  where
    same_keys : slice_cmp nat_cmp q l ≡ Equal → q ≡ l
    same_keys h = (bytes_eq-Decides q l).0 (sym (is_eq-slice_cmp q l) ∙ ap is_eq h)

    go : (o : Ordering) → slice_cmp nat_cmp q l ≡ o → get_member q ms ≡ None → match_ordering o (get_member q ms) (Some e) (get_member q ms) ≡ None
    go Less is rest = rest
    go Greater is rest = rest
    go Equal is rest = absurd (true≢false (sym (rest_known keys l e ms none).0 ∙ ap (is_among keys) (sym (same_keys is)) ∙ out))

object_known : (path : List ℕ) (keys : List (List ℕ)) (q : List ℕ) (d : Data) → is_among keys q ≡ false → check_object path keys d ≡ Ok tt → get q d ≡ None
object_known path keys q (object ms) out h = by (unknown keys ms) refl h
  where
    by : (o : Option (List ℕ)) → unknown keys ms ≡ o → none_unknown path o ≡ Ok tt → get_member q ms ≡ None
    by None is h = not_there keys q ms out is
    by (Some k) is h = err_ok _ tt h
object_known path keys q null out h = refl
object_known path keys q (boolean b) out h = refl
object_known path keys q (number n) out h = refl
object_known path keys q (string s) out h = refl
object_known path keys q (array ds) out h = refl

-- ---- nodes

checked : {A B : Type 0} (r : Result A Fault) (next : A → Result B Fault) (b : B) → ((x y : A) → x ≡ y) → (a : A) → after r next ≡ Ok b → r ≡ Ok a
checked (Ok x) next b same a h = ap Ok (same x a)
checked (Err e) next b same a h = err_ok e b h

unit_same : (x y : Unit {0}) → x ≡ y
unit_same x y = refl

-- a node of format 1 has out member `group`
plain_node : (path : List ℕ) (project : Project) (d : Data) (n : Node) → node_of path false project d ≡ Ok n → has (codes "group") d ≡ false
plain_node path project d n h = go (has (codes "source") d) h
  where
    go : (b : Bool) → (if b then source_of path project d else effect_of path d) ≡ Ok n → has (codes "group") d ≡ false
    go true is = ap is_some (object_known path source_keys (codes "group") d refl (checked (check_object path source_keys d) _ n unit_same tt is))
    go false is = ap is_some (object_known path effect_keys (codes "group") d refl (checked (check_object path effect_keys d) _ n unit_same tt is))

same_node : (path : List ℕ) (project : Project) (d : Data) (n : Node) → node_of path false project d ≡ Ok n → node_of path true project d ≡ Ok n
same_node path project d n h =
    ap (λ b. if b then use_of path d else if has (codes "source") d then source_of path project d else effect_of path d) (plain_node path project d n h) ∙ h

same_nodes : (path : List ℕ) (project : Project) (k : ℕ) (ds : Items) (ns : List Node) → read_items (λ j d. node_of (inside path j) false project d) k ds ≡ Ok ns
    → read_items (λ j d. node_of (inside path j) true project d) k ds ≡ Ok ns
same_nodes path project k no_items ns h = h
same_nodes path project k (item d ds) ns h =
    let a = went (node_of (inside path k) false project d) _ ns h in
    let b = went (read_items (λ j e. node_of (inside path j) false project e) (k + 1) ds) _ ns a.then_is in
    ap (λ r. after r (λ n. after (read_items (λ j e. node_of (inside path j) true project e) (k + 1) ds) (λ more. Ok (n ∷ more)))) (same_node (inside path k) project d a.first a.is)
    ∙ ap (λ r. after r (λ more. Ok (a.first ∷ more))) (same_nodes path project (k + 1) ds b.first b.is)
    ∙ b.then_is

-- ---- the whole

-- every other member is as it was
other_get : (q : List ℕ) (ms : Members) → bytes_eq q (codes "ofxr") ≡ false → get_member q (put (codes "ofxr") (number (unsigned 2)) ms) ≡ get_member q ms
other_get q ms apart =
    get_member-put_other q (codes "ofxr") (number (unsigned 2)) ms (λ same. true≢false (sym ((bytes_eq-Decides q (codes "ofxr")).1 same) ∙ apart))

module _ (most side : ℕ) (ms : Members) where
  abbrev d : Data
  d = object ms

  abbrev two : Data
  two = object (put (codes "ofxr") (number (unsigned 2)) ms)

  first_is : get (codes "ofxr") two ≡ Some (number (unsigned 2))
  first_is = get_member-put (codes "ofxr") (number (unsigned 2)) ms

  grouped_is : is_grouped two ≡ true
  grouped_is = ap (λ o. is_two (option_and_then as_integer (option_and_then as_number o))) first_is

  format_is : whole_at [] (codes "ofxr") 1 2 two ≡ Ok 2
  format_is = ap (λ o. after (word_at [] (codes "ofxr") (option_and_then as_integer (option_and_then as_number o))) (λ z. or_range [] (codes "ofxr") (whole_within 1 2 z))) first_is

  checked_two : (grouped : Bool) → check_object [] (top_keys grouped) d ≡ Ok tt → check_object [] (top_keys true) two ≡ Ok tt
  checked_two grouped h = ap (none_unknown []) (all grouped (none grouped h))
    where
      none : (b : Bool) → none_unknown [] (unknown (top_keys b) ms) ≡ Ok tt → unknown (top_keys b) ms ≡ None
      none b h = by (unknown (top_keys b) ms) h
        where
          by : (o : Option (List ℕ)) → none_unknown [] o ≡ Ok tt → o ≡ None
          by None h = refl
          by (Some k) h = err_ok _ tt h

      all : (b : Bool) → unknown (top_keys b) ms ≡ None → unknown (top_keys true) (put (codes "ofxr") (number (unsigned 2)) ms) ≡ None
      all true h = unknown-put (top_keys true) (codes "ofxr") (number (unsigned 2)) ms refl h
      all false h = unknown-put (top_keys true) (codes "ofxr") (number (unsigned 2)) ms refl (unknown-more (codes "groups") plain_keys ms h)

  member_is : (q : List ℕ) → bytes_eq q (codes "ofxr") ≡ false → member_at [] q two ≡ member_at [] q d
  member_is q apart = ap (word_at [] q) (other_get q ms apart)

  list_is : (q : List ℕ) (least most : ℕ) → bytes_eq q (codes "ofxr") ≡ false → list_at [] q least most two ≡ list_at [] q least most d
  list_is q least most apart = ap (λ o. after (word_at [] q (option_and_then as_array o)) (λ items. or_range [] q (few least most items))) (other_get q ms apart)

  list_or_is : (q : List ℕ) (least most : ℕ) → bytes_eq q (codes "ofxr") ≡ false → list_or [] q least most two ≡ list_or [] q least most d
  list_or_is q least most apart =
      ap (λ o. if is_some o then after (word_at [] q (option_and_then as_array o)) (λ items. or_range [] q (few least most items)) else Ok no_items) (other_get q ms apart)

  takes_is : takes_at two ≡ takes_at d
  takes_is = ap (λ r. after r takes_of) (list_or_is (codes "takes") 0 MOST_TAKES refl)

  groups_is : (project : Project) → groups_at project two ≡ groups_at project d
  groups_is project = ap (λ r. after r (groups_of project)) (list_or_is (codes "groups") 0 MOST_GROUPS refl)

  -- the nodes of format 1 read the same where there may be groups
  nodes_is : (b : Bool) (project : Project) (ns : List Node) → after (list_at [] (codes "nodes") 1 most d) (nodes_of (codes "nodes") b project) ≡ Ok ns
      → after (list_at [] (codes "nodes") 1 most two) (nodes_of (codes "nodes") true project) ≡ Ok ns
  nodes_is b project ns h =
      let w = went (list_at [] (codes "nodes") 1 most d) (nodes_of (codes "nodes") b project) ns h in
      ap (λ r. after r (nodes_of (codes "nodes") true project)) (list_is (codes "nodes") 1 most refl ∙ w.is) ∙ go b w.first w.then_is
    where
      go : (b : Bool) (items : Items) → nodes_of (codes "nodes") b project items ≡ Ok ns → nodes_of (codes "nodes") true project items ≡ Ok ns
      go true items e = e
      go false items e = same_nodes (codes "nodes") project 0 items ns e

  abbrev made : ℕ → Project → RawOutput → RawRange → List Group → List Node → List Take → Graph
  made format project output range groups nodes takes = record {
    format = format;
    project = project;
    output = output;
    first = range.first;
    last = range.last;
    groups = groups;
    nodes = nodes;
    takes = takes;
  }

  abbrev in_two : Result Graph Fault → Result Graph Fault
  in_two (Ok g) = Ok (record g { format = 2 })
  in_two (Err e) = Err e

  abbrev from_takes : Data → ℕ → Project → RawOutput → RawRange → List Group → List Node → Result Graph Fault
  from_takes e format project output range groups nodes = after (takes_at e) (λ takes. Ok (made format project output range groups nodes takes))

  abbrev from_nodes : Bool → Data → ℕ → Project → RawOutput → RawRange → List Group → Result Graph Fault
  from_nodes b e format project output range groups =
      after (after (list_at [] (codes "nodes") 1 most e) (nodes_of (codes "nodes") b project)) (λ nodes. from_takes e format project output range groups nodes)

  abbrev from_groups : Bool → Data → ℕ → Project → RawOutput → RawRange → Result Graph Fault
  from_groups b e format project output range = after (groups_at project e) (λ groups. from_nodes b e format project output range groups)

  abbrev from_range : Bool → Data → ℕ → Project → RawOutput → Result Graph Fault
  from_range b e format project output = after (after (member_at [] (codes "range") e) (range_of (codes "range"))) (λ range. from_groups b e format project output range)

  abbrev from_output : Bool → Data → ℕ → Project → Result Graph Fault
  from_output b e format project = after (after (member_at [] (codes "output") e) (output_of (codes "output"))) (λ output. from_range b e format project output)

  abbrev from_project : Bool → Data → ℕ → Result Graph Fault
  from_project b e format = after (after (member_at [] (codes "project") e) (project_of (codes "project") side)) (λ project. from_output b e format project)

  abbrev from_format : Bool → Data → Result Graph Fault
  from_format b e = after (whole_at [] (codes "ofxr") 1 2 e) (λ format. from_project b e format)

  stays_object : (g : Graph) → graph_of most side d ≡ Ok g → graph_of most side two ≡ Ok (record g { format = 2 })
  stays_object g h =
      let b : Bool = is_grouped d in
      let top = went (check_object [] (top_keys b) d) (λ _. from_format b d) g h in
      let format = went (whole_at [] (codes "ofxr") 1 2 d) (λ format. from_project b d format) g top.then_is in
      let project = went (after (member_at [] (codes "project") d) (project_of (codes "project") side)) (λ p. from_output b d format.first p) g format.then_is in
      let output = went (after (member_at [] (codes "output") d) (output_of (codes "output"))) (λ o. from_range b d format.first project.first o) g project.then_is in
      let range = went (after (member_at [] (codes "range") d) (range_of (codes "range"))) (λ r. from_groups b d format.first project.first output.first r) g output.then_is in
      let groups = went (groups_at project.first d) (λ gs. from_nodes b d format.first project.first output.first range.first gs) g range.then_is in
      let nodes = went (after (list_at [] (codes "nodes") 1 most d) (nodes_of (codes "nodes") b project.first)) (λ ns. from_takes d format.first project.first output.first range.first groups.first ns) g groups.then_is in
      let takes = went (takes_at d) (λ ts. Ok (made format.first project.first output.first range.first groups.first nodes.first ts)) g nodes.then_is in
      ap (λ c. after (check_object [] (top_keys c) two) (λ _. from_format c two)) grouped_is
      ∙ ap (λ r. after r (λ _. from_format true two)) (checked_two b (checked (check_object [] (top_keys b) d) (λ _. from_format b d) g unit_same tt h))
      ∙ ap (λ r. after r (λ f. from_project true two f)) format_is
      ∙ ap (λ r. after (after r (project_of (codes "project") side)) (λ p. from_output true two 2 p)) (member_is (codes "project") refl)
      ∙ ap (λ r. after r (λ p. from_output true two 2 p)) project.is
      ∙ ap (λ r. after (after r (output_of (codes "output"))) (λ o. from_range true two 2 project.first o)) (member_is (codes "output") refl)
      ∙ ap (λ r. after r (λ o. from_range true two 2 project.first o)) output.is
      ∙ ap (λ r. after (after r (range_of (codes "range"))) (λ q. from_groups true two 2 project.first output.first q)) (member_is (codes "range") refl)
      ∙ ap (λ r. after r (λ q. from_groups true two 2 project.first output.first q)) range.is
      ∙ ap (λ r. after r (λ gs. from_nodes true two 2 project.first output.first range.first gs)) (groups_is project.first ∙ groups.is)
      ∙ ap (λ r. after r (λ ns. from_takes two 2 project.first output.first range.first groups.first ns)) (nodes_is b project.first nodes.first nodes.is)
      ∙ ap (λ r. after r (λ ts. Ok (made 2 project.first output.first range.first groups.first nodes.first ts))) (takes_is ∙ takes.is)
      ∙ ap in_two takes.then_is

pub stays : StaysTheSame
stays most side (object ms) g h = stays_object most side ms g h
stays most side null g h = err_ok _ g h
stays most side (boolean b) g h = err_ok _ g h
stays most side (number n) g h = err_ok _ g h
stays most side (string s) g h = err_ok _ g h
stays most side (array ds) g h = err_ok _ g h

-- ---- the text

-- the value has the member, and every other as it was
pub two_is : (m n : BTreeMap (String Global) Value) (k : String Global) (v value : Value) → value ≡ Object m
    → n.entries ≡ insert_entry string_cmp m.entries k v → string_bytes k ≡ codes "ofxr" → view v ≡ number (unsigned 2)
    → view (Object n) ≡ in_format_two (view value)
two_is m n k v value is e key two =
    view-Object n ∙ ap (λ es. object (members_view es)) e ∙ ap object (members_view-insert_entry m.entries k v)
    ∙ ap (λ t. object (put t (view v) (members_view m.entries))) key ∙ ap (λ d. object (put (codes "ofxr") d (members_view m.entries))) two
    ∙ ap in_format_two (sym (view-Object m) ∙ ap view (sym is))

members_depth-put_at : (o : Ordering) (a b c : Members) (n : ℕ) → members_depth a ≤ n → members_depth b ≤ n → members_depth c ≤ n
    → members_depth (match_ordering o a b c) ≤ n
members_depth-put_at Less a b c n p q r = p
members_depth-put_at Equal a b c n p q r = q
members_depth-put_at Greater a b c n p q r = r

members_depth-put : (k : List ℕ) (d : Data) (ms : Members) (n : ℕ) → depth d ≤ n → members_depth ms ≤ n → members_depth (put k d ms) ≤ n
members_depth-put k d no_members n p q = omega arith
members_depth-put k d (member l e ms) n p q =
    members_depth-put_at (slice_cmp nat_cmp k l) (member k d (member l e ms)) (member l d ms) (member l e (put k d ms)) n
    (omega arith) (omega arith) (omega (arith, members_depth-put k d ms n p (omega arith)))

-- it nests no deeper
pub depth-in_format_two : (d : Data) (n : ℕ) → depth d ≤ n → depth (in_format_two d) ≤ n
depth-in_format_two (object ms) n h =
    let more : members_depth (put (codes "ofxr") (number (unsigned 2)) ms) ≤ n - 1 =
    members_depth-put (codes "ofxr") (number (unsigned 2)) ms (n - 1) (omega arith) (omega arith) in
    omega arith
depth-in_format_two null n h = h
depth-in_format_two (boolean b) n h = h
depth-in_format_two (number m) n h = h
depth-in_format_two (string s) n h = h
depth-in_format_two (array ds) n h = h

pub reads_text : (text : List ℕ) (d : Data) → IsUtf8 text → read text ≡ Some d → value_of text ≡ Some d
reads_text text d utf8 is = rw (is_utf8-from_IsUtf8 text utf8) is

pub same_graph : (bytes text : List ℕ) (d : Data) → value_of bytes ≡ Some d → value_of text ≡ Some (in_format_two d)
    → IsSameGraph bytes text
same_graph bytes text d was is most side g h =
    ap (graph_in most side) is ∙ stays most side d g (ap (graph_in most side) (sym was) ∙ h)
