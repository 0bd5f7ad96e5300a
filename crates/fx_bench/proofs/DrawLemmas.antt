-- States that follow one another, and the lists made of them.
use Rattle.std.specs.Prelude.{◌≡◌, ℕ, zero, suc, ◌+◌, ◌*◌, ◌/◌, ◌%◌, ◌++◌, List, [], ◌∷◌, map}
use Rattle.std.specs.List.{range_with_len}
use Rattle.std.proofs.Common.{ap, sym, refl, arith, ◌∙◌}
use Rattle.std.specs.declared.alloc.Global.{Global}
use Rattle.std.specs.declared.vec.Vec.{Vec}
use Rattle.std.proofs.lemmas.List.{append_assoc, map-append}
use Rattle.std.proofs.lemmas.List.FromFn.{map-range_with_len_more}
use Rattle.fx_bench.specs.Generator.{next_state, state, draw}
use Rattle.fx_bench.specs.Frames.{frame_samples, samples, header, frame_name, frame_file, file_of, AreFrames}
use Rattle.fx_bench.specs.Graphs.{node_text, nodes_text}

at : (r m n : ℕ) → m ≡ n → state r m ≡ state r n
at r m n same = ap (state r) same

state_suc : (r n : ℕ) → state r (suc n) ≡ next_state (state r n)
unfolding state
state_suc r n = refl

pub state_none : (r : ℕ) → state r zero ≡ r
unfolding state
state_none r = refl

pub state_next : (r n : ℕ) → state r (n + 1) ≡ next_state (state r n)
state_next r n = at r (n + 1) (suc n) (omega arith) ∙ state_suc r n

pub state_after : (r a b : ℕ) → state (state r a) b ≡ state r (a + b)
state_after r a zero = state_none (state r a) ∙ at r a (a + 0) (omega arith)
state_after r a (suc b) =
    state_suc (state r a) b ∙ ap next_state (state_after r a b) ∙ sym (state_suc r (a + b))
    ∙ at r (suc (a + b)) (a + suc b) (omega arith)

pub state_pair : (r k : ℕ) → state r (2 * (k + 1)) ≡ next_state (next_state (state r (2 * k)))
state_pair r k =
    at r (2 * (k + 1)) (suc (suc (2 * k))) (omega arith) ∙ state_suc r (suc (2 * k))
    ∙ ap next_state (state_suc r (2 * k))

pub samples_more : (r n : ℕ) → samples r (n + 1) ≡ samples r n ++ draw r (n + 1) % 256 ∷ []
unfolding samples
samples_more r n = map-range_with_len_more (λ i. draw r i % 256) 1 n (n + 1) (omega arith)

pub samples_none : (r : ℕ) → samples r 0 ≡ []
unfolding samples
samples_none r = refl

-- one sample more, behind those of n draws
pub sample_added : (r n value : ℕ) (old bytes new : List ℕ) → bytes ≡ old ++ samples r n → value ≡ draw r (n + 1)
    → new ≡ bytes ++ value % 256 ∷ [] → new ≡ old ++ samples r (n + 1)
sample_added r n value old bytes new before drawn added =
    added ∙ ap (λ (s : List ℕ). s ++ value % 256 ∷ []) before ∙ append_assoc old (samples r n) (value % 256 ∷ [])
    ∙ ap (λ (v : ℕ). old ++ (samples r n ++ v % 256 ∷ [])) drawn
    ∙ ap (λ (s : List ℕ). old ++ s) (sym (samples_more r n))

-- ---- the nodes of the graph

pub nodes_none : (r : ℕ) → nodes_text r 0 ≡ []
unfolding nodes_text
nodes_none r = refl

nodes_suc : (r k : ℕ) → nodes_text r (suc k)
    ≡ nodes_text r k ++ node_text (k + 1) (draw r (2 * k + 1)) (draw r (2 * k + 2))
unfolding nodes_text
nodes_suc r k = refl

nodes_at : (r m n : ℕ) → m ≡ n → nodes_text r m ≡ nodes_text r n
nodes_at r m n same = ap (nodes_text r) same

-- one node more, behind k of them
pub node_added : (r k s : ℕ) (text new : List ℕ) → text ≡ nodes_text r k → s ≡ state r (2 * k)
    → new ≡ text ++ node_text (k + 1) (next_state s / 65536) (next_state (next_state s) / 65536)
    → new ≡ nodes_text r (k + 1)
node_added r k s text new before at_state added =
    let first = ap next_state at_state ∙ sym (state_next r (2 * k)) in
    let second = ap next_state first ∙ sym (state_next r (2 * k + 1)) ∙ at r (2 * k + 1 + 1) (2 * k + 2) (omega arith) in
    added ∙ ap (λ (t : List ℕ). t ++ node_text (k + 1) (next_state s / 65536) (next_state (next_state s) / 65536)) before
    ∙ ap (λ (p : ℕ). nodes_text r k ++ node_text (k + 1) (p / 65536) (next_state (next_state s) / 65536)) first
    ∙ ap (λ (q : ℕ). nodes_text r k ++ node_text (k + 1) (draw r (2 * k + 1)) (q / 65536)) second
    ∙ sym (nodes_suc r k) ∙ nodes_at r (suc k) (k + 1) (omega arith)

-- ---- the frames

pub state_behind : (r k s t : ℕ) → s ≡ state r (k * frame_samples) → t ≡ state s frame_samples
    → t ≡ state r ((k + 1) * frame_samples)
state_behind r k s t before after =
    after ∙ ap (λ (u : ℕ). state u frame_samples) before ∙ state_after r (k * frame_samples) frame_samples
    ∙ at r (k * frame_samples + frame_samples) ((k + 1) * frame_samples) (omega arith)

-- one frame more, behind k of them
pub frame_added : (r k : ℕ) (file : List ℕ × Vec ℕ Global) (old new : List (List ℕ × Vec ℕ Global)) → AreFrames r k old
    → new ≡ old ++ file ∷ [] → file_of file ≡ frame_file r k → AreFrames r (k + 1) new
frame_added r k file old new are added is =
    ap (map file_of) added ∙ map-append file_of old (file ∷ []) ∙ ap (λ (fs : List (List ℕ × List ℕ)). fs ++ file_of file ∷ []) are
    ∙ ap (λ (f : List ℕ × List ℕ). map (frame_file r) (range_with_len 0 k) ++ f ∷ []) is
    ∙ sym (map-range_with_len_more (frame_file r) 0 k k (omega arith))

-- a file of that name with these samples
pub is_file : (r k s : ℕ) (name : List ℕ) (bytes : Vec ℕ Global) → s ≡ state r (k * frame_samples) → name ≡ frame_name k
    → bytes.items ≡ header ++ samples s frame_samples → file_of (name, bytes) ≡ frame_file r k
is_file r k s name bytes at_state named made =
    ap (λ (n : List ℕ). (n, bytes.items)) named
    ∙ ap (λ (b : List ℕ). (frame_name k, b)) (made ∙ ap (λ (u : ℕ). header ++ samples u frame_samples) at_state)
