-- From the text of a graph to the graph.
use Rattle.std.proofs.Common.{◌≡◌, ◌≤◌, ◌+◌, ℕ, List, [], ◌∷◌, length, map, codes, Result, Ok, Err, ap, sym, ◌∙◌, arith}
use Rattle.std.proofs.lemmas.List.{length-map}
use Rattle.fx_text.specs.Fault.{Fault}
use Rattle.fx_text.specs.Json.{after}
use Rattle.fx_text.specs.Nodes as text
use Rattle.fx_text.specs.Objects.{read_graph}
use Rattle.fx_graph.specs.Graphs as accepted
use Rattle.fx_group.specs.Graph.{expand_of}
use Rattle.fx_group.proofs.ExpandLaws.{ok_same}
use Rattle.fx_group.proofs.TwoLaws.{went}
use Rattle.fx_takes.specs.Accepted.{each_of, take_of, takes_of}
use Rattle.fx_text.specs.Paths.{inside}
use Rattle.fx_text.specs.Takes.{Take as RawTake}
use Rattle.fx_text.specs.declared.raw.TheConstants.{MOST_TAKES}
use Rattle.fx_graph.specs.Shown.{Shown}
use Rattle.fx_shipped.specs.declared.shipped.Shipped.{Shipped}
use Rattle.fx_scene.specs.Takes.{AreEdits, edits_of}
use Rattle.fx_scene.specs.declared.take.Take.{Take}
use Rattle.fx_takes.specs.Shown.{TakeShown, take_shown}
use Rattle.fx_shipped.specs.Shipped.{effect_of, meaning_of}
use Rattle.fx_base.specs.declared.limits.TheConstants.{MOST_NODES, MOST_SIDE}
use Rattle.fx_modes.specs.Graphs.{FileShown, Graph, accepted_of, graph_of, raw_of}
use Rattle.fx_modes.specs.Takes.{AreTakesOf}

pub unread : (bytes : List ℕ) (fault : Fault) → read_graph bytes MOST_NODES MOST_SIDE ≡ Err fault → raw_of bytes ≡ Err fault
unfolding raw_of
unread bytes fault is = ap (λ r. after r expand_of) is

pub read_then : (bytes : List ℕ) (raw : text.Graph) (r : Result text.Graph Fault) → read_graph bytes MOST_NODES MOST_SIDE ≡ Ok raw
    → expand_of raw ≡ r → raw_of bytes ≡ r
unfolding raw_of
read_then bytes raw r is next = ap (λ q. after q expand_of) is ∙ next

pub not_raw : (bytes : List ℕ) (fault : Fault) → raw_of bytes ≡ Err fault → graph_of bytes ≡ Err fault
unfolding graph_of
not_raw bytes fault is = ap (λ r. after r accepted_of) is

pub raw_then : (bytes : List ℕ) (raw : text.Graph) (r : Result FileShown Fault) → raw_of bytes ≡ Ok raw → accepted_of raw ≡ r
    → graph_of bytes ≡ r
unfolding graph_of
raw_then bytes raw r is next = ap (λ q. after q accepted_of) is ∙ next

abbrev file_with : Graph → List TakeShown → Result FileShown Fault
file_with g takes = Ok (record { graph = g; takes = takes })

-- what is accepted where the graph is
abbrev pub with_takes : text.Graph → Graph → Result FileShown Fault
with_takes raw g = after (takes_of g.nodes raw.takes) (file_with g)

pub not_accepted : (raw : text.Graph) (fault : Fault) → accepted.graph_of effect_of meaning_of raw ≡ Err fault
    → accepted_of raw ≡ Err fault
unfolding accepted_of
not_accepted raw fault is = ap (λ r. after r (with_takes raw)) is

pub takes_wrong : (raw : text.Graph) (g : Graph) (fault : Fault) → accepted.graph_of effect_of meaning_of raw ≡ Ok g
    → takes_of g.nodes raw.takes ≡ Err fault → accepted_of raw ≡ Err fault
unfolding accepted_of
takes_wrong raw g fault is wrong =
    ap (λ r. after r (with_takes raw)) is
    ∙ ap (λ (r : Result (List TakeShown) Fault). after r (file_with g)) wrong

pub takes_right : (raw : text.Graph) (g : Graph) (takes : List TakeShown) → accepted.graph_of effect_of meaning_of raw ≡ Ok g
    → takes_of g.nodes raw.takes ≡ Ok takes → accepted_of raw ≡ Ok (record { graph = g; takes = takes })
unfolding accepted_of
takes_right raw g takes is right =
    ap (λ r. after r (with_takes raw)) is
    ∙ ap (λ (r : Result (List TakeShown) Fault). after r (file_with g)) right

-- a graph is accepted as it is without its takes
pub takes_apart : (raw rest : text.Graph) → rest ≡ record raw { takes = [] }
    → accepted.graph_of effect_of meaning_of rest ≡ accepted.graph_of effect_of meaning_of raw
takes_apart raw rest left = ap (accepted.graph_of effect_of meaning_of) left

-- takes that a raw graph had are its takes
pub takes_given : (nodes : List (Shown Shipped)) (raw : text.Graph) (items : List RawTake) (r : Result (List TakeShown) Fault)
    → items ≡ raw.takes → takes_of nodes items ≡ r → takes_of nodes raw.takes ≡ r
takes_given nodes raw items r given is = sym (ap (takes_of nodes) given) ∙ is

-- ---- how many takes there are

-- as many items are accepted as are given
each_long : {A B : Type 0} (f : ℕ → A → Result B Fault) (k : ℕ) (xs : List A) (ys : List B) → each_of f k xs ≡ Ok ys → length ys ≡ length xs
each_long f k [] ys is = ap length (sym (ok_same [] ys is))
each_long f k (x ∷ xs) ys is =
    let one = went (f k x) (λ b. after (each_of f (k + 1) xs) (λ bs. Ok (b ∷ bs))) ys is in
    let more = went (each_of f (k + 1) xs) (λ bs. Ok (one.first ∷ bs)) ys one.then_is in
    let all : length (one.first ∷ more.first) ≡ length ys = ap length (ok_same (one.first ∷ more.first) ys more.then_is) in
    let rest = each_long f (k + 1) xs more.first more.is in
    omega (arith, all, rest)

takes_long : (nodes : List (Shown Shipped)) (raws : List RawTake) (takes : List Take) → takes_of nodes raws ≡ Ok (map take_shown takes)
    → length takes ≡ length raws
takes_long nodes raws takes is =
    let shown : length (map take_shown takes) ≡ length takes = length-map takes take_shown in
    let long = each_long (λ k raw. take_of nodes (inside (codes "takes") k) raw) 0 raws (map take_shown takes) is in
    omega (arith, shown, long)

-- takes that are accepted may be done on the graph
pub takes_are : (nodes : List (Shown Shipped)) (raws : List RawTake) (takes : List Take) → length raws ≤ MOST_TAKES
    → takes_of nodes raws ≡ Ok (map take_shown takes) → AreEdits nodes (edits_of takes) → AreTakesOf nodes takes
takes_are nodes raws takes few is edits =
    let long = takes_long nodes raws takes is in record { few = omega (arith, few, long); edits = edits }
